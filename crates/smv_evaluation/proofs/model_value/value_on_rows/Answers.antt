use Rattle.std.proofs.Common.{map, ap, ◌∙◌, refl, sym, subst}
use Rattle.smv_text.specs.View.{plain}
use Rattle.smv_meaning.specs.Values.{Valuation, given}
use Rattle.smv_meaning.specs.Owed.{following_or}
use Rattle.smv_evaluation.specs.Rows.{MarkedSafe}
use Rattle.smv_instances.specs.View.{instance_plain}
use Rattle.smv_evaluation.specs.View.{stated}
use Rattle.smv_evaluation.proofs.ValueAt.{gives_now, gives_later, marked_safe, IsRow, safe_at, value_is, other_value}
use Rattle.smv_evaluation.proofs.model_value.value_on_rows.Goals as goal

pub row_of-requires-clause-safe : goal.row_of-requires-clause-safe
row_of-requires-clause-safe c =
    let t = map instance_plain c.args.table.now in
    let e = plain c.args.expr.now in
    let state = given c.args.now.now in
    let label = c.args.label.now.given in
    marked_safe t c.args.i e state label c.args.following c.requires.asked c.args.reach.now.marks c.requires.least state (gives_now t c.args.i e state label c.args.following c.requires.asked)

pub evaluate-requires : goal.evaluate-requires
evaluate-requires c =
    let ts = c.args.table.now in
    let state = given c.args.now.now in
    let labels = c.args.label.now in
    let marks = c.args.reach.now.marks in
    let row = c.in_ok-here.here in
    let here : IsRow ts marks row labels state = record { state = ap stated c.in_ok-here.ensures.given; right = c.in_ok-here.ensures.state; kept = c.in_ok-here.ensures.kept } in
    let again : IsRow ts marks row labels (following_or state c.args.following) =
    record { state = ap stated c.in_ok-here.ensures.given ∙ sym (ap (following_or state) c.in-None.is); right = c.in_ok-here.ensures.state; kept = c.in_ok-here.ensures.kept } in
    record {
      safe = safe_at ts c.args.i (plain c.args.expr.now) state labels.given c.args.following c.requires.asked marks c.requires.starts row row labels refl c.requires.label here again;
    }

pub returns-in-None : goal.returns-in-None
returns-in-None c =
    let state = given c.args.now.now in
    other_value c.into_value.result _ _
    (c.evaluate.ensures
    ∙ value_is c.args.table.now c.args.i (plain c.args.expr.now) state c.args.label.now.given c.args.following c.in_ok-here.here c.in_ok-here.here c.args.label.now c.requires.asked.checked
    (ap stated c.in_ok-here.ensures.given) (ap stated c.in_ok-here.ensures.given ∙ sym (ap (following_or state) c.in-None.is)) refl)
    c.into_value.ensures

pub row_of-requires-in-Some-clause-safe : goal.row_of-requires-in-Some-clause-safe
row_of-requires-in-Some-clause-safe c =
    let t = map instance_plain c.args.table.now in
    let e = plain c.args.expr.now in
    let state = given c.args.now.now in
    let label = c.args.label.now.given in
    let following = c.args.following in
    subst (λ (v : Valuation). MarkedSafe t c.args.reach.now.marks v (stated label)) (ap (following_or state) c.in-Some.is)
    (marked_safe t c.args.i e state label following c.requires.asked c.args.reach.now.marks c.requires.least (following_or state following) (gives_later t c.args.i e state label following c.requires.asked))

pub evaluate-requires-in-Some : goal.evaluate-requires-in-Some
evaluate-requires-in-Some c =
    let ts = c.args.table.now in
    let state = given c.args.now.now in
    let labels = c.args.label.now in
    let marks = c.args.reach.now.marks in
    let row = c.in_ok-here.here in
    let later = c.in_ok-there-in-Some.there in
    let here : IsRow ts marks row labels state = record { state = ap stated c.in_ok-here.ensures.given; right = c.in_ok-here.ensures.state; kept = c.in_ok-here.ensures.kept } in
    let there : IsRow ts marks later labels (following_or state c.args.following) =
    record { state = ap stated c.in_ok-there-in-Some.ensures.given ∙ sym (ap (following_or state) c.in-Some.is); right = c.in_ok-there-in-Some.ensures.state; kept = c.in_ok-there-in-Some.ensures.kept } in
    record {
      safe = safe_at ts c.args.i (plain c.args.expr.now) state labels.given c.args.following c.requires.asked marks c.requires.starts row later labels refl c.requires.label here there;
    }

pub returns : goal.returns
returns c =
    let state = given c.args.now.now in
    other_value c.into_value-in-Some.result _ _
    (c.evaluate-in-Some.ensures
    ∙ value_is c.args.table.now c.args.i (plain c.args.expr.now) state c.args.label.now.given c.args.following c.in_ok-here.here c.in_ok-there-in-Some.there c.args.label.now c.requires.asked.checked
    (ap stated c.in_ok-here.ensures.given) (ap stated c.in_ok-there-in-Some.ensures.given ∙ sym (ap (following_or state) c.in-Some.is)) refl)
    c.into_value-in-Some.ensures
