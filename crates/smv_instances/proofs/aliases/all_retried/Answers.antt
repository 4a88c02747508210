use Rattle.std.proofs.Common.{◌≤◌, ◌<◌, map, length, refl, sym, ◌∙◌, subst, arith}
use Rattle.std.proofs.lemmas.List.{get_or_default}
use Rattle.smv_instances.specs.Leads.{led}
use Rattle.smv_instances.specs.View.{instance_plain}
use Rattle.smv_instances.proofs.LeadLemmas.{wait_more}
use Rattle.smv_instances.proofs.aliases.all_retried.Goals as goal
use Rattle.smv_instances.proofs.aliases.all_retried.Goals.{then-kept, else-kept}

pub loop-key-preserved : goal.loop-key-preserved
loop-key-preserved c = record {
  right = c.in_ok-kept.ensures.right;
  counted = c.in_ok-kept.ensures.counted;
  grown = elim c.if-kept.branch [
    | then-kept w ↦ let a = c.in_ok-kept.ensures.more w.if-kept.true in omega (arith, a, c.loop-key.invariant.grown)
    | else-kept w ↦ subst (λ m. led c.args.leads.now c.args.keys.now ≤ led m c.args.keys.now) (sym (c.in_ok-kept.ensures.waits w.if-kept.false).0) c.loop-key.invariant.grown
  ];
  more = λ e. elim c.if-kept.branch [
    | then-kept w ↦ let a = c.in_ok-kept.ensures.more w.if-kept.true in omega (arith, a, c.loop-key.invariant.grown)
    | else-kept w ↦ subst (λ m. led c.args.leads.now c.args.keys.now < led m c.args.keys.now) (sym (c.in_ok-kept.ensures.waits w.if-kept.false).0) (c.loop-key.invariant.more (sym w.changed-is ∙ e))
  ];
  waits = λ e. elim c.if-kept.branch [
    | then-kept w ↦ absurd (let a = w.changed-is in cc)
    | else-kept w ↦
        let same = c.in_ok-kept.ensures.waits w.if-kept.false in
        wait_more (map instance_plain c.args.parts.now) c.loop-key.leads c.retried.new.leads c.args.keys.now c.loop-key.key-index (length c.args.keys.now) _ refl (omega arith) (get_or_default c.args.keys.now c.loop-key.key-index _ _ c.loop-key-test.true)
        same.0 same.1 (c.loop-key.invariant.waits (sym w.changed-is ∙ e))
  ];
}
