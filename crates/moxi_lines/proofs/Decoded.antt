-- The words of variables stand for values.
use Rattle.std.proofs.Common.{◌≡◌, ℕ, zero, suc, ◌<◌, ◌≤◌, Bool, true, false, cond, List, [], ◌∷◌, length, Some, refl, sym, ap, ◌∙◌, subst, arith}
use Rattle.std.specs.Prelude.{nat_lt, slice_get}
use Rattle.std.specs.List.{AllByRecursion}
use Rattle.std.proofs.lemmas.Bool.Decides.{nat_tests}
use Rattle.std.proofs.lemmas.Option.{same_Some, none-some}
use Rattle.word_core.specs.Words.{BitVector, IsWord}
use Rattle.btor_tree.specs.declared.lines.Line.{Line}
use Rattle.btor_tree.specs.Fits.{width_at}
use Rattle.btor_tree.specs.Frame.{Meets, word_at}
use Rattle.btor_tree.proofs.Widths.{wide}
use Rattle.moxi_terms.specs.declared.data.Sort.{Sort}
use Rattle.moxi_terms.specs.declared.data.Sort.TheVariants.{Truth, Bits, Choice}
use Rattle.moxi_terms.specs.declared.data.Datum.TheVariants as datum
use Rattle.moxi_terms.specs.declared.term.Enumeration.{Enumeration}
use Rattle.moxi_terms.specs.declared.term.Variable.{Variable}
use Rattle.moxi_terms.specs.Sorted.{AreSorts}
use Rattle.moxi_terms.specs.Sorts.{IsOf, IsSort}
use Rattle.moxi_terms.specs.Tree.{sorts_of}
use Rattle.moxi_terms.proofs.ValueLaws.{read_at}
use Rattle.moxi_terms.specs.Names.{constant_count}
use Rattle.moxi_lines.specs.Codes.{code_of, sort_bits}
use Rattle.moxi_lines.specs.TermLines.{place_in}
use Rattle.moxi_lines.specs.TermLaws.{AreNumbered, HaveCodes, VariablesAreRepresented}
use Rattle.moxi_lines.proofs.CodeLaws.{count_is, goes_back}
use Rattle.moxi_lines.specs.Lines.{input_place, state_place}
use Rattle.moxi_lines.specs.Variables.{AreVariablesAt, IsInside}
use Rattle.moxi_lines.specs.Decoding.{Decodes, PlacesInside, decoded, decoded_datum}
use Rattle.moxi_lines.proofs.VariableLaws.{all_get, sort_wide}

pub less_than : (a b : ℕ) → nat_lt a b ≡ true → a < b
less_than a b h = grind (arith, nat_tests)

pub is_less : (a b : ℕ) → a < b → nat_lt a b ≡ true
is_less a b h = grind (arith, nat_tests)

choice_is : (es : List Enumeration) (n : ℕ) (e : Enumeration) → slice_get es n ≡ Some e → 0 < length e.constants → (i : ℕ) (b : Bool) → (b ≡ true → i < constant_count es n) → IsOf es (Choice n) (cond b (datum.Constant n i) (datum.Constant n 0))
choice_is es n e there some i true h = (refl, record { enumeration = e; there = there; within = omega (arith, h refl, count_is es n e there) })
choice_is es n e there some i false h = (refl, record { enumeration = e; there = there; within = some })

decoded_is : (es : List Enumeration) → AllByRecursion (λ (e : Enumeration). 0 < length e.constants) es → (s : Sort) → IsSort es s → (x : BitVector) → IsWord x → x.width ≡ sort_bits es s → IsOf es s (decoded_datum es s x)
decoded_is es full Truth k x w e = tt
decoded_is es full (Bits n) k x w e = (e, w)
decoded_is es full (Choice n) k x w e =
    let g = all_get (λ (c : Enumeration). 0 < length c.constants) es n k full in
    choice_is es n g.0 g.1 g.2 x.bits (nat_lt x.bits (constant_count es n)) (less_than x.bits (constant_count es n))

decoded_code : (es : List Enumeration) (s : Sort) (x : BitVector) → IsWord x → x.width ≡ sort_bits es s → IsInside es s x → x ≡ code_of es (decoded_datum es s x)
decoded_code es Truth x w e i = sym (goes_back es Truth x w e)
decoded_code es (Bits n) x w e i = refl
decoded_code es (Choice n) x w e i =
    sym (goes_back es (Choice n) x w e) ∙ ap (λ b. code_of es (cond b (datum.Constant n x.bits) (datum.Constant n 0))) (sym (is_less x.bits (constant_count es n) i))

pub sort_there : (es : List Enumeration) (ss : List Sort) (v : ℕ) (s : Sort) → AreSorts es ss → slice_get ss v ≡ Some s → IsSort es s
sort_there es [] v s a h = absurd (none-some s h)
sort_there es (t ∷ ss) zero s a h = subst (IsSort es) (same_Some t s h) a.0
sort_there es (t ∷ ss) (suc v) s a h = sort_there es ss v s a.1 h

pub input_width : (es : List Enumeration) (lines : List Line) (vs : List Variable) (ps : List ℕ) (v : ℕ) (s : Sort) → AreVariablesAt es lines vs ps → slice_get (sorts_of vs) v ≡ Some s → width_at lines (place_in ps v) ≡ sort_bits es s
input_width es lines [] ps v s a h = absurd (none-some s h)
input_width es lines (x ∷ vs) [] v s a h = absurd a
input_width es lines (x ∷ vs) (p ∷ ps) zero s a h = a.0.input_width ∙ ap (sort_bits es) (same_Some x.sort s h)
input_width es lines (x ∷ vs) (p ∷ ps) (suc v) s a h = input_width es lines vs ps v s a.1 h

pub state_width : (es : List Enumeration) (lines : List Line) (vs : List Variable) (ps : List ℕ) (v : ℕ) (s : Sort) → AreVariablesAt es lines vs ps → slice_get (sorts_of vs) v ≡ Some s → width_at lines (suc (place_in ps v)) ≡ sort_bits es s
state_width es lines [] ps v s a h = absurd (none-some s h)
state_width es lines (x ∷ vs) [] v s a h = absurd a
state_width es lines (x ∷ vs) (p ∷ ps) zero s a h = a.0.state_width ∙ ap (sort_bits es) (same_Some x.sort s h)
state_width es lines (x ∷ vs) (p ∷ ps) (suc v) s a h = state_width es lines vs ps v s a.1 h

module _ (es : List Enumeration) (codes : HaveCodes es) (full : AllByRecursion (λ (e : Enumeration). 0 < length e.constants) es) (vs : List Variable) (are : AreSorts es (sorts_of vs))
    (lines : List Line) (n : AreNumbered lines) (row : List BitVector) (met : Meets lines row) where
  stand_at : (place : ℕ → ℕ) → ((v : ℕ) (s : Sort) → slice_get (sorts_of vs) v ≡ Some s → width_at lines (place v) ≡ sort_bits es s) → (known : Bool) → (known ≡ true → PlacesInside es vs row place)
      → VariablesAreRepresented es row known lines (sorts_of vs) place (decoded es vs row place)
  stand_at place width known inside =
      record {
        sorted = λ v s h. subst (λ t. IsOf es s (decoded_datum es t (word_at row (place v)))) (sym (read_at (sorts_of vs) v s Truth h)) (decoded_is es full s (sort_there es (sorts_of vs) v s are h) (word_at row (place v)) (is_word v s h).0 (is_word v s h).1);
        each = λ v s h. record {
          wide = (sort_wide es codes s (sort_there es (sorts_of vs) v s are h)).0;
          width = width v s h;
          word = λ k m. subst (λ t. word_at row (place v) ≡ code_of es (decoded_datum es t (word_at row (place v)))) (sym (read_at (sorts_of vs) v s Truth h))
              (decoded_code es s (word_at row (place v)) (is_word v s h).0 (is_word v s h).1 ((inside k).each v s h));
        };
      }
    where
      is_word : (v : ℕ) (s : Sort) → slice_get (sorts_of vs) v ≡ Some s → IsWord (word_at row (place v)) × ((word_at row (place v)).width ≡ sort_bits es s)
      is_word v s h =
          let low = (sort_wide es codes s (sort_there es (sorts_of vs) v s are h)).0 in
          let w = wide lines row n.fit met (place v) (subst (λ i. 1 ≤ i) (sym (width v s h)) low) in
          (w.0, w.1 ∙ width v s h)

pub words_are_decoded_law : (es : List Enumeration) → HaveCodes es → AllByRecursion (λ (e : Enumeration). 0 < length e.constants) es → (vs : List Variable) → AreSorts es (sorts_of vs)
    → (lines : List Line) (inputs : List ℕ) → AreNumbered lines → AreVariablesAt es lines vs inputs → (row : List BitVector) → Meets lines row → Decodes es vs row lines inputs
words_are_decoded_law es codes full vs are lines inputs n at row met =
    record {
      now = λ known inside. stand_at es codes full vs are lines n row met (input_place inputs) (λ v s h. input_width es lines vs inputs v s at h) known inside;
      before = λ known inside. stand_at es codes full vs are lines n row met (state_place inputs) (λ v s h. state_width es lines vs inputs v s at h) known inside;
    }
