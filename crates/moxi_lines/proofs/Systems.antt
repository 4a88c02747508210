-- All constraints of a flat system's lines.
use Rattle.std.proofs.Common.{◌≡◌, ℕ, zero, suc, ◌<◌, Bool, true, false, not, List, [], ◌∷◌, length, Some, refl, sym, ap, ◌∙◌, subst, arith}
use Rattle.std.specs.Prelude.{slice_get, ◌↔◌}
use Rattle.std.specs.List.{AllByRecursion}
use Rattle.std.proofs.lemmas.Option.{same_Some, none-some}
use Rattle.word_core.specs.Words.{BitVector}
use Rattle.word_core.specs.Table.{bit_of}
use Rattle.btor_tree.specs.declared.lines.Line.{Line}
use Rattle.btor_tree.specs.Fits.{greatest_id, is_constraint, operands}
use Rattle.btor_tree.specs.Frame.{ConstraintsHold, Meets, operand, true_word, word_at}
use Rattle.btor_tree.proofs.Paths.{operands_append}
use Rattle.moxi_terms.specs.declared.data.Sort.{Sort}
use Rattle.moxi_terms.specs.declared.term.Enumeration.{Enumeration}
use Rattle.moxi_terms.specs.declared.term.Variable.{Variable}
use Rattle.moxi_terms.specs.Tree.{sorts_of}
use Rattle.moxi_flat.specs.FlatSorts.{IsSortedFlat}
use Rattle.moxi_flat.specs.FlatSystem.{PlainFlatSystem}
use Rattle.moxi_lines.specs.TermLines.{place_in}
use Rattle.moxi_lines.specs.TermLaws.{HaveCodes}
use Rattle.moxi_lines.specs.Lines.{first_place, head_lines, input_place, lines_of, state_place, variable_lines, with_parts}
use Rattle.moxi_lines.specs.Variables.{AreInside, IsInside}
use Rattle.moxi_lines.specs.Decoding.{PlacesInside, decoded}
use Rattle.moxi_lines.specs.Constraints.{VariablesAreThere}
use Rattle.moxi_lines.specs.System.{IsAllowed, WereInside}
use Rattle.moxi_lines.proofs.Extending.{Extends, all_first, extends_long, extends_meets, extends_width}
use Rattle.moxi_lines.proofs.HeadLines.{variables_have_lines_law}
use Rattle.moxi_lines.proofs.Decoded.{words_are_decoded_law}
use Rattle.moxi_lines.proofs.Parts.{parts_constrain, parts_extend}
use Rattle.moxi_lines.proofs.Queries.{queries_keep}

inside_at : (es : List Enumeration) (row : List BitVector) (vs : List Variable) (ps : List ℕ) (v : ℕ) (s : Sort) → AreInside es row vs ps → slice_get (sorts_of vs) v ≡ Some s → IsInside es s (word_at row (place_in ps v))
inside_at es row [] ps v s a h = absurd (none-some s h)
inside_at es row (x ∷ vs) [] v s a h = absurd a
inside_at es row (x ∷ vs) (p ∷ ps) zero s a h = subst (λ t. IsInside es t (word_at row p)) (same_Some x.sort s h) a.0
inside_at es row (x ∷ vs) (p ∷ ps) (suc v) s a h = inside_at es row vs ps v s a.1 h

constraints_front : (a b : List Line) (row : List BitVector) → Extends a b → ConstraintsHold b row → ConstraintsHold a row
constraints_front a b row g h =
    all_first (λ x. operand row x ≡ true_word) (operands is_constraint a) (operands is_constraint g.more)
    (subst (AllByRecursion (λ x. operand row x ≡ true_word)) (ap (operands is_constraint) g.is ∙ operands_append is_constraint a g.more) h)

not_first : (b : Bool) → b ≡ false → not b ≡ true
not_first b e = ap not e

first_not : (b : Bool) → not b ≡ true → b ≡ false
first_not true h = absurd (cc)
first_not false h = refl

pub systems_are_constrained_law : (f : PlainFlatSystem) → HaveCodes f.scope.enumerations → IsSortedFlat f → length (with_parts f.scope (variable_lines f).1 (variable_lines f).0 f.parts) < greatest_id
    → (row : List BitVector) → Meets (lines_of f) row → (first : Bool) → word_at row first_place ≡ record { width = 1; bits = bit_of first } → WereInside f first row
    → ConstraintsHold (lines_of f) row ↔ IsAllowed f first row
systems_are_constrained_law f have sorted room row met first word were =
    let es = f.scope.enumerations in
    let m = variable_lines f in
    let vl = m.0 in
    let inputs = m.1 in
    let pl = with_parts f.scope inputs vl f.parts in
    let P = AllByRecursion (λ x. operand row x ≡ true_word) in
    let keep = queries_keep f inputs pl f.queries in
    let now = decoded es f.variables row (input_place inputs) in
    let before = decoded es f.variables row (state_place inputs) in
    let ext : Extends vl pl = parts_extend f have sorted.scope.functions row true (not first) first inputs before now vl f.parts in
    let few : length vl < greatest_id = omega (arith, room, extends_long vl pl ext) in
    let v = variables_have_lines_law es have f.variables sorted.variables few in
    let met_p : Meets pl row = extends_meets pl (lines_of f) row keep.extends met in
    let met_v : Meets vl row = extends_meets vl pl row ext met_p in
    let d = words_are_decoded_law es have sorted.scope.enumerations f.variables sorted.variables vl inputs v.numbered v.each row met_v in
    let codes_of = v.constraints row met_v in
    let there : AreInside es row f.variables inputs → VariablesAreThere f row true (not first) first inputs before now vl = λ i.
    let inside : PlacesInside es f.variables row (input_place inputs) = record { each = λ x s h. inside_at es row f.variables inputs x s i h } in
    record {
      first_width = extends_width head_lines vl first_place 1 (omega arith) (record { more = v.more; is = v.extends }) refl;
      first_word = λ k. word;
      later = λ e k. not_first first e;
      now_known = d.now true (λ k. inside);
      now_both = d.now (not first) (λ k. inside);
      before_both = d.before (not first) (λ k. were (first_not first k));
    } in
    let parts = λ (i : AreInside es row f.variables inputs). parts_constrain f have sorted.scope.functions row true (not first) first inputs before now f.parts sorted.parts vl v.numbered (there i) room in (
      λ h.
          let at_parts : ConstraintsHold pl row = subst P keep.constraints h in
          let i = codes_of.0 (constraints_front vl pl row ext at_parts) in
          let q = ((parts i).constraints refl met_p).0 at_parts in
          (i, q.1),
      λ a.
          let q = ((parts a.0).constraints refl met_p).1 (codes_of.1 a.0, a.1) in
          subst P (sym keep.constraints) q,
    )
