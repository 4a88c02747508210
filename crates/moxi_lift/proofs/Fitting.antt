-- What a witness is lifted to has a value of its sort for each variable.
use Rattle.std.proofs.Common.{◌≡◌, ℕ, suc, ◌<◌, ◌≤◌, nat_lt, Bool, true, false, cond, List, [], ◌∷◌, length, Option, Some, None, refl, sym, ap, ◌∙◌, subst, arith}
use Rattle.std.specs.Prelude.{slice_get}
use Rattle.std.specs.List.{AllByRecursion}
use Rattle.std.proofs.Math.Logic.{∥∥₁_map}
use Rattle.std.proofs.Math.Nat.{one-le-pow}
use Rattle.std.proofs.lemmas.Option.{same_Some}
use Rattle.word_core.specs.Words.{BitVector, IsWord}
use Rattle.word_core.specs.declared.word.TheConstants.{WIDEST}
use Rattle.btor_tree.specs.declared.lines.Line.{Line}
use Rattle.btor_tree.specs.Fits.{is_input, width_at}
use Rattle.btor_tree.proofs.Grows.{slice_get_inside}
use Rattle.btor_frames.specs.Judged.{stated_or}
use Rattle.btor_witness.specs.declared.witness.Stated.{Stated}
use Rattle.btor_witness.specs.Printing.{IsOf as IsOfWidths, IsPart, value_of}
use Rattle.btor_witness.specs.Sizes.{widths_of}
use Rattle.btor_witness.proofs.Places.{width_by_number}
use Rattle.btor_witness.proofs.Statements.{value_all}
use Rattle.moxi_terms.specs.declared.data.Datum.{Datum}
use Rattle.moxi_terms.specs.declared.data.Datum.TheVariants as datum
use Rattle.moxi_terms.specs.declared.data.Sort.{Sort}
use Rattle.moxi_terms.specs.declared.data.Sort.TheVariants.{Truth, Bits, Choice}
use Rattle.moxi_terms.specs.declared.term.Enumeration.{Enumeration}
use Rattle.moxi_terms.specs.Sorted.{AreSorts}
use Rattle.moxi_terms.specs.Sorts.{Fit, IsOf, IsSort}
use Rattle.moxi_terms.specs.Tree.{sorts_of}
use Rattle.moxi_terms.specs.Value.{at}
use Rattle.moxi_terms.proofs.ValueLaws.{read_at}
use Rattle.moxi_terms.specs.Names.{constant_count}
use Rattle.moxi_flat.specs.FlatSystem.{PlainFlatSystem}
use Rattle.moxi_lines.specs.Codes.{sort_bits}
use Rattle.moxi_lines.specs.TermLaws.{HaveCodes}
use Rattle.moxi_lines.specs.Decoding.{decoded_datum}
use Rattle.moxi_lines.proofs.VariableLaws.{all_get, sort_wide}
use Rattle.moxi_layout.specs.Layout.{LaysOut, input_at}
use Rattle.moxi_layout.proofs.Entries.{input_there, sorts_long}
use Rattle.moxi_lift.specs.Lifted.{lifted_step, lifted_values, stated_datum}
use Rattle.moxi_lift.proofs.Held.{equal_held}
use Rattle.moxi_lift.proofs.Upto.{at_upto, upto_long}
use Rattle.moxi_lines.proofs.Decoded.{sort_there, less_than}

-- ---- values of sorts

fit_each : (es : List Enumeration) (ss : List Sort) (ds : List Datum) → length ds ≡ length ss → ((v : ℕ) (s : Sort) → slice_get ss v ≡ Some s → IsOf es s (at ds v)) → Fit es ss ds
fit_each es [] [] e h = tt
fit_each es [] (d ∷ ds) e h = absurd (omega (arith, e))
fit_each es (s ∷ ss) [] e h = absurd (omega (arith, e))
fit_each es (s ∷ ss) (d ∷ ds) e h = (h 0 s refl, fit_each es ss ds (omega (arith, e)) (λ v t g. h (suc v) t g))

constant_is : (es : List Enumeration) (n : ℕ) (e : Enumeration) → slice_get es n ≡ Some e → 0 < length e.constants → (i : ℕ) (b : Bool) → (b ≡ true → i < constant_count es n)
    → IsOf es (Choice n) (cond b (datum.Constant n i) (datum.Constant n 0))
constant_is es n e there some i true h = (refl, record { enumeration = e; there = there; within = subst (λ (x : Enumeration). i < length x.constants) (read_at es n e (record { name = []; constants = [] }) there) (h refl) })
constant_is es n e there some i false h = (refl, record { enumeration = e; there = there; within = some })

-- a word of a sort's width stands for a value of the sort
decoded_is : (es : List Enumeration) → AllByRecursion (λ (e : Enumeration). 0 < length e.constants) es → (s : Sort) → IsSort es s → (x : BitVector) → IsWord x → x.width ≡ sort_bits es s → IsOf es s (decoded_datum es s x)
decoded_is es full Truth k x w e = tt
decoded_is es full (Bits n) k x w e = (e, w)
decoded_is es full (Choice n) k x w e =
    let g = all_get (λ (c : Enumeration). 0 < length c.constants) es n k full in
    constant_is es n g.0 g.1 g.2 x.bits (nat_lt x.bits (constant_count es n)) (less_than x.bits (constant_count es n))

-- ---- words of inputs

-- the width of a stated word of an input is that of its variable's sort
abbrev pub HaveWidths : PlainFlatSystem → List Line → Type 0
HaveWidths f lines = (v n : ℕ) (s : Sort) → slice_get (sorts_of f.variables) v ≡ Some s → slice_get (widths_of is_input lines) v ≡ Some n → n ≡ sort_bits f.scope.enumerations s

have_widths : (f : PlainFlatSystem) (lines : List Line) → LaysOut f lines → HaveWidths f lines
have_widths f lines lays v n s h g =
    let p = input_at lines v in
    let x = input_there f lines lays.order v s h in
    let at : slice_get (widths_of is_input lines) v ≡ Some (width_at lines p) =
    subst (λ k. slice_get (widths_of is_input lines) k ≡ Some (width_at lines p)) x.1.number (width_by_number lines is_input p x.0 x.1.there (ap is_input x.1.is)) in
    same_Some n (width_at lines p) (sym g ∙ at) ∙ x.1.width

pub widths_held : (f : PlainFlatSystem) (lines : List Line) → ∥ LaysOut f lines ∥₁ → HaveWidths f lines
widths_held f lines lays v n s h g = equal_held n _ (∥∥₁_map lays (λ (l : LaysOut f lines). have_widths f lines l v n s h g))

stated_word : (o : Option BitVector) (width : ℕ) → 1 ≤ width → width ≤ WIDEST → ((x : BitVector) → o ≡ Some x → IsWord x × (x.width ≡ width)) → IsWord (stated_or o width) × ((stated_or o width).width ≡ width)
stated_word None width some wide h = ((some, wide, one-le-pow width 2 (omega arith)), refl)
stated_word (Some x) width some wide h = h x refl

module _ (f : PlainFlatSystem) (codes : HaveCodes f.scope.enumerations) (full : AllByRecursion (λ (e : Enumeration). 0 < length e.constants) f.scope.enumerations) (sorts : AreSorts f.scope.enumerations (sorts_of f.variables))
    (lines : List Line) (widths : HaveWidths f lines) (stated : List Stated) (part : IsPart (widths_of is_input lines) stated) where
  value_is : (v : ℕ) (s : Sort) → slice_get (sorts_of f.variables) v ≡ Some s → IsOf f.scope.enumerations s (lifted_values f.scope.enumerations f.variables stated v)
  value_is v s h =
      let es = f.scope.enumerations in
      let is = sort_there es (sorts_of f.variables) v s sorts h in
      let wide = sort_wide es codes s is in
      let word = stated_word (value_of stated v) (sort_bits es s) wide.0 wide.1 (λ x e.
      let w = value_all (IsOfWidths (widths_of is_input lines)) stated v x part.0 e in
      (w.1, widths v x.width s h w.0)) in
      subst (λ t. IsOf es s (stated_datum es stated t v)) (sym (read_at (sorts_of f.variables) v s Truth h)) (decoded_is es full s is _ word.0 word.1)

  pub step_fits : Fit f.scope.enumerations (sorts_of f.variables) (lifted_step f.scope.enumerations f.variables stated)
  step_fits =
      let values = lifted_values f.scope.enumerations f.variables stated in
      let n = length f.variables in
      fit_each f.scope.enumerations (sorts_of f.variables) (lifted_step f.scope.enumerations f.variables stated) (upto_long values n ∙ sym (sorts_long f.variables)) (λ v s h.
      let inside : v < n = omega (arith, slice_get_inside (sorts_of f.variables) v s h, sorts_long f.variables) in
      subst (IsOf f.scope.enumerations s) (sym (at_upto values n v inside)) (value_is v s h))
