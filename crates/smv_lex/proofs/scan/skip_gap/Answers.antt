use Rattle.std.proofs.Common.{◌≡◌, [], ◌∷◌, rules, sym, subst, ◌∙◌}
use Rattle.text_core.specs.declared.place.Place.{Place}
use Rattle.smv_lex.proofs.Gaps.{AreBehind, gap_off, gap_on, gap_over}
use Rattle.smv_lex.proofs.scan.skip_gap.Goals as goal
use Rattle.text_core.proofs.PlaceLaws.{reaches_along}

pub returns-in_default-gap_step-clause-place : goal.returns-in_default-gap_step-clause-place
returns-in_default-gap_step-clause-place c =
    let parts : c.loop-b.rest.now ≡ c.in-Some.b.now ∷ c.in-Some.more.now = search rules in
    let ends = gap_off c.loop-b.inside c.in-Some.b.now c.loop-b.rest.now c.in-Some.more.now parts (sym c.gap_step.ensures ∙ c.in_default-gap_step.is) in
    (gap_over c.loop-b.at c.args.place c.loop-b.inside c.loop-b.rest.now c.args.text.now ends c.loop-b.invariant.behind).0

pub returns-in_default-gap_step-clause-rest : goal.returns-in_default-gap_step-clause-rest
returns-in_default-gap_step-clause-rest c =
    let parts : c.loop-b.rest.now ≡ c.in-Some.b.now ∷ c.in-Some.more.now = search rules in
    let ends = gap_off c.loop-b.inside c.in-Some.b.now c.loop-b.rest.now c.in-Some.more.now parts (sym c.gap_step.ensures ∙ c.in_default-gap_step.is) in
    (gap_over c.loop-b.at c.args.place c.loop-b.inside c.loop-b.rest.now c.args.text.now ends c.loop-b.invariant.behind).1

pub loop-b-preserved : goal.loop-b-preserved
loop-b-preserved c =
    let next = c.in-Some-gap_step.next in
    let b = c.in-Some.b.now in
    let more = c.in-Some.more.now in
    let rest = c.loop-b.rest.now in
    let parts : rest ≡ b ∷ more = search rules in
    record {
      behind = subst (λ (p : Place). AreBehind p next more c.args.place c.args.text.now) (sym c.next-at.ensures)
          (gap_on c.loop-b.at c.args.place c.loop-b.inside next b rest more c.args.text.now parts (sym c.gap_step.ensures ∙ c.in-Some-gap_step.is) c.loop-b.invariant.behind);
      reaches = reaches_along rest (b ∷ []) more c.loop-b.at c.next-at.result parts c.next-at.ensures c.loop-b.invariant.reaches;
    }
