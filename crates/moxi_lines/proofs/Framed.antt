-- `first`, the constants and the variables in a flat system's lines.
use Rattle.std.proofs.Common.{◌≡◌, ℕ, ◌<◌, Bool, true, List, [], ◌∷◌, length, Some, refl, ap, ◌∙◌, arith}
use Rattle.std.specs.Option.{option_or}
use Rattle.btor_tree.specs.declared.lines.Line.{Line}
use Rattle.btor_tree.specs.declared.lines.LineOp.{LineOp}
use Rattle.btor_tree.specs.Fits.{greatest_id, is_init, is_next, plain_arg, state_value}
use Rattle.btor_tree.proofs.Paths.{state_value_append}
use Rattle.moxi_terms.specs.declared.term.Enumeration.{Enumeration}
use Rattle.moxi_terms.specs.declared.term.Variable.{Variable}
use Rattle.moxi_terms.specs.Operators.{nothing}
use Rattle.moxi_terms.specs.Sorted.{AreSorts}
use Rattle.moxi_terms.specs.Tree.{sorts_of}
use Rattle.moxi_flat.specs.FlatSorts.{IsSortedFlat}
use Rattle.moxi_flat.specs.FlatSystem.{PlainFlatSystem}
use Rattle.moxi_lines.specs.TermLaws.{HaveCodes}
use Rattle.moxi_lines.specs.Lines.{first_place, head_lines, lines_of, variable_lines, with_parts, one_place, zero_place}
use Rattle.moxi_lines.specs.Variables.{AreVariablesAt}
use Rattle.moxi_lines.specs.System.{IsFramed}
use Rattle.moxi_lines.proofs.Extending.{Extends, extends_long, extends_meets, extends_then}
use Rattle.moxi_lines.proofs.HeadLines.{variables_have_lines_law}
use Rattle.moxi_lines.proofs.Parts.{parts_extend}
use Rattle.moxi_lines.proofs.Queries.{queries_keep}
use Rattle.moxi_lines.proofs.VariableLaws.{sort_wide, variable_at_extends}

all_at : (es : List Enumeration) (a b : List Line) → HaveCodes es → Extends a b → (vs : List Variable) (ps : List ℕ) → AreSorts es (sorts_of vs) → AreVariablesAt es a vs ps → AreVariablesAt es b vs ps
all_at es a b have g [] [] s x = tt
all_at es a b have g [] (p ∷ ps) s x = absurd x
all_at es a b have g (v ∷ vs) [] s x = absurd x
all_at es a b have g (v ∷ vs) (p ∷ ps) s x = (variable_at_extends es a b v p (sort_wide es have v.sort s.0).0 g x.0, all_at es a b have g vs ps s.1 x.1)

value_behind : (kind : LineOp → Bool) (b : List Line) (p v : ℕ) → Extends head_lines b → state_value kind head_lines p ≡ Some (plain_arg v) → state_value kind b p ≡ Some (plain_arg v)
value_behind kind b p v g h =
    ap (λ ls. state_value kind ls p) g.is ∙ state_value_append kind head_lines g.more p ∙ ap (λ o. option_or o (state_value kind g.more p)) h

pub systems_are_framed_law : (f : PlainFlatSystem) → HaveCodes f.scope.enumerations → IsSortedFlat f → length (with_parts f.scope (variable_lines f).1 (variable_lines f).0 f.parts) < greatest_id
    → IsFramed f (lines_of f) (variable_lines f).1
systems_are_framed_law f have sorted room =
    let es = f.scope.enumerations in
    let vl = (variable_lines f).0 in
    let inputs = (variable_lines f).1 in
    let pl = with_parts f.scope inputs vl f.parts in
    let none = λ (i : ℕ). nothing in
    let ext : Extends vl pl = parts_extend f have sorted.scope.functions [] true true true inputs none none vl f.parts in
    let few : length vl < greatest_id = omega (arith, room, extends_long vl pl ext) in
    let v = variables_have_lines_law es have f.variables sorted.variables few in
    let all : Extends vl (lines_of f) = extends_then vl pl (lines_of f) ext (queries_keep f inputs pl f.queries).extends in
    let whole : Extends head_lines (lines_of f) = extends_then head_lines vl (lines_of f) (record { more = v.more; is = v.extends }) all in
    record {
      first_init = value_behind is_init (lines_of f) first_place one_place whole refl;
      first_next = value_behind is_next (lines_of f) first_place zero_place whole refl;
      one = λ row met. (extends_meets head_lines (lines_of f) row whole met).by_line 1 _ refl;
      zero = λ row met. (extends_meets head_lines (lines_of f) row whole met).by_line 2 _ refl;
      variables = all_at es vl (lines_of f) have all f.variables inputs sorted.variables v.each;
    }
