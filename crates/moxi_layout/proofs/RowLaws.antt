-- In a row that meets lines that lay a system out, the constraints are true exactly where the codes are inside and the parts' formulas hold.
use Rattle.std.proofs.Common.{◌≡◌, Bool, true, false, List, ◌++◌, map, length, refl, sym, ap, ◌∙◌, subst, arith}
use Rattle.std.specs.List.{AllByRecursion}
use Rattle.word_core.specs.Words.{BitVector}
use Rattle.btor_tree.specs.declared.args.Arg.{Arg}
use Rattle.btor_tree.specs.declared.lines.Line.{Line}
use Rattle.btor_tree.specs.Fits.{is_input}
use Rattle.btor_tree.specs.Frame.{ConstraintsHold, Meets, operand, true_word}
use Rattle.btor_witness.specs.Room.{places_of}
use Rattle.btor_witness.proofs.Places.{length_places}
use Rattle.moxi_flat.specs.FlatSystem.{PlainFlatSystem}
use Rattle.moxi_lines.specs.Decoding.{PlacesInside}
use Rattle.moxi_layout.specs.Layout.{IsInRange, before_values, codes_inside, first_at, formula_values, input_at, is_set, now_values, truth_word}
use Rattle.moxi_layout.specs.LayoutLaws.{IsLaidOut}
use Rattle.moxi_layout.proofs.Codes.{AreSet, codes_set, set_codes}
use Rattle.moxi_layout.proofs.Entries.{input_count}
use Rattle.moxi_layout.proofs.Lists.{maps_all}
use Rattle.moxi_layout.proofs.Parts.{PartAt, parts_from, parts_to}
use Rattle.moxi_layout.proofs.Values.{input_word}
use Rattle.moxi_lines.proofs.Extending.{all_both, all_first, all_second}

pub truth_true : (b : Bool) → truth_word b ≡ true_word → b ≡ true
truth_true true h = refl
truth_true false h = absurd (omega (arith, ap (λ (w : BitVector). w.bits) h))

words_set : (row : List BitVector) (xs : List Arg) (bs : List Bool) → map (operand row) xs ≡ map truth_word bs → AllByRecursion (λ a. operand row a ≡ true_word) xs → AreSet bs
words_set row xs bs e a = maps_all (operand row) truth_word (λ x. operand row x ≡ true_word) (λ b. b ≡ true) xs bs (λ x b h k. truth_true b (sym h ∙ k)) e a

set_words : (row : List BitVector) (xs : List Arg) (bs : List Bool) → map (operand row) xs ≡ map truth_word bs → AreSet bs → AllByRecursion (λ a. operand row a ≡ true_word) xs
set_words row xs bs e a = maps_all truth_word (operand row) (λ b. b ≡ true) (λ x. operand row x ≡ true_word) bs xs (λ b x h k. sym h ∙ ap truth_word k) (sym e) a

module _ (f : PlainFlatSystem) (lines : List Line) (laid : IsLaidOut f lines) (row : List BitVector) where
  abbrev IsTrueWord : Arg → Type 0
  IsTrueWord a = operand row a ≡ true_word

  abbrev codes_here : List Bool
  codes_here = codes_inside f.scope.enumerations row f.variables (places_of is_input lines)

  abbrev values_here : List Bool
  values_here = formula_values f.scope (is_set row (first_at lines)) (before_values f lines row) (now_values f lines row) f.parts

  both_hold : ConstraintsHold lines row → AllByRecursion IsTrueWord (laid.lays.codes ++ laid.lays.formulas)
  both_hold c = subst (AllByRecursion IsTrueWord) laid.lays.constraints c

  places_long : length (places_of is_input lines) ≡ length f.variables
  places_long = length_places 0 is_input lines ∙ input_count f lines laid.lays.order

  pub row_inside : Meets lines row → ConstraintsHold lines row → PlacesInside f.scope.enumerations f.variables row (input_at lines)
  row_inside met c =
      codes_set f.scope.enumerations row f.variables (places_of is_input lines) places_long (input_word f lines laid row met)
      (words_set row laid.lays.codes codes_here (laid.lays.code_words row met) (all_first IsTrueWord laid.lays.codes laid.lays.formulas (both_hold c)))

  pub row_parts : IsInRange f lines row → ConstraintsHold lines row → AllByRecursion (PartAt f.scope (is_set row (first_at lines)) (before_values f lines row) (now_values f lines row)) f.parts
  row_parts r c =
      parts_from f.scope (is_set row (first_at lines)) (before_values f lines row) (now_values f lines row) f.parts
      (words_set row laid.lays.formulas values_here (laid.lays.formula_words row r) (all_second IsTrueWord laid.lays.codes laid.lays.formulas (both_hold c)))

  pub row_constraints : IsInRange f lines row → AllByRecursion (PartAt f.scope (is_set row (first_at lines)) (before_values f lines row) (now_values f lines row)) f.parts → ConstraintsHold lines row
  row_constraints r p =
      subst (AllByRecursion IsTrueWord) (sym laid.lays.constraints)
      (all_both IsTrueWord laid.lays.codes laid.lays.formulas
      (set_words row laid.lays.codes codes_here (laid.lays.code_words row r.meets) (set_codes f.scope.enumerations row f.variables (places_of is_input lines) r.now))
      (set_words row laid.lays.formulas values_here (laid.lays.formula_words row r) (parts_to f.scope (is_set row (first_at lines)) (before_values f lines row) (now_values f lines row) f.parts p)))
