use Rattle.std.proofs.Common.{map, length, refl, sym, ◌∙◌, arith}
use Rattle.std.proofs.lemmas.Bool.{false≢true}
use Rattle.std.proofs.lemmas.List.{get_or_default}
use Rattle.smv_instances.specs.View.{instance_plain}
use Rattle.smv_instances.proofs.LeadLemmas.{none_more}
use Rattle.smv_instances.proofs.aliases.all_searched.Goals as goal
use Rattle.smv_instances.proofs.aliases.all_searched.Goals.{then-kept, else-kept}

pub loop-key-preserved : goal.loop-key-preserved
loop-key-preserved c = record {
  right = c.in_ok-kept.ensures.right;
  counted = c.in_ok-kept.ensures.counted;
  closed = λ e. elim c.if-kept.branch [
    | then-kept w ↦
        none_more (map instance_plain c.args.parts.now) c.loop-key.leads c.first_searched.new.leads c.args.keys.now c.loop-key.key-index (length c.args.keys.now) _ refl (omega arith) (get_or_default c.args.keys.now c.loop-key.key-index _ _ c.loop-key-test.true)
        c.in_ok-kept.ensures.stays (c.in_ok-kept.ensures.closed w.if-kept.true) (c.loop-key.invariant.closed (sym w.closed-is ∙ e))
    | else-kept w ↦ absurd (false≢true (sym w.if-kept.false ∙ sym w.closed-is ∙ e))
  ];
}
