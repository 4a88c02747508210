use Rattle.std.proofs.Common.{◌≡◌, ◌<◌, ◌-◌, ◌∷◌, [], suc, length, drop, get_or, List, if◌then◌else◌, bytes_eq, sym, ap, ◌∙◌, arith}
use Rattle.std.proofs.Math.Seq.{drop-cons}
use Rattle.std.proofs.lemmas.List.{nil_from_length}
use Rattle.smv_meaning.specs.declared.value.Given.{Given}
use Rattle.smv_meaning.specs.Values.{given}
use Rattle.smv_flat_evaluation.specs.RowValues.{row_values}
use Rattle.smv_rows.proofs.VariableRows.{row_empty}
use Rattle.smv_rows.proofs.variables.give_names.Goals as goal

pub loop-k-preserved : goal.loop-k-preserved
loop-k-preserved c =
    let k = c.loop-k.k in
    let g = c.at-entry.result.now in
    let within = c.loop-k.invariant.within in
    let low : k - 1 < length c.args.state.now = omega (arith, c.loop-k-test.true, within) in
    let one : suc (k - 1) ≡ k = omega (arith, c.loop-k-test.true) in
    let d : drop (k - 1) c.args.state.now ≡ g ∷ drop k c.args.state.now =
    drop-cons c.args.state.now (k - 1) g low ∙ ap (λ n. get_or c.args.state.now (k - 1) g ∷ drop n c.args.state.now) one ∙ ap (λ (x : Given). x ∷ drop k c.args.state.now) (sym c.at-entry.ensures) in
    record {
      within = omega (arith, within);
      size = c.give_name.ensures.size ∙ c.loop-k.invariant.size;
      has = λ x p is.
          c.give_name.ensures.given x p is ∙ ap (λ n. if bytes_eq n x then g.value else row_values c.loop-k.values.items p) c.bytes.ensures
          ∙ ap (λ w. if bytes_eq g.name x then g.value else w) (c.loop-k.invariant.has x p is) ∙ sym (ap (λ gs. given gs x) d);
    }

-- a state that says nothing
pub returns-then-len-eq0 : goal.returns-then-len-eq0
returns-then-len-eq0 c = λ x p is.
    let empty : c.args.state.now ≡ [] = nil_from_length c.args.state.now (omega (arith, c.len.ensures, c.if-len-eq0.true)) in
    row_empty c.clear.new.self.items c.clear.ensures.items p ∙ sym (ap (λ (gs : List Given). given gs x) empty)
