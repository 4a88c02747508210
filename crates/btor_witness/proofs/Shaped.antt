-- A line that has a shape isn't passed over, and the shape of a line that is a number, a blank and binary digits.
use Rattle.std.proofs.Common.{◌≡◌, ℕ, ◌+◌, ◌-◌, ◌*◌, ◌<◌, true, false, List, [], ◌∷◌, ◌++◌, length, Some, None, refl, sym, ap, ◌∙◌, inl, inr, arith, append_assoc, append-nil}
use Rattle.std.specs.Prelude.{min}
use Rattle.std.proofs.lemmas.Bool.{cond-true, cond-false, cases_Bool, and_parts, and_from}
use Rattle.text_core.specs.Bytes.{is_digit}
use Rattle.btor_tree.specs.Parts.{Parts, numeral, parts, cap}
use Rattle.btor_tree.specs.Bytes.{number_after}
use Rattle.btor_tree.proofs.Numerals.{numeral_is, numeral_from}
use Rattle.btor_witness.specs.declared.shape.Shape.{Shape}
use Rattle.btor_witness.specs.declared.shape.Shape.TheVariants.{Sat, Property, Justice, States, Inputs, End, Assignment}
use Rattle.btor_witness.specs.Bytes.{all_binary, word_of, IsNumberFront}
use Rattle.btor_witness.specs.Shapes.{Spells, shape_of, assignment_shape, is_passed}
use Rattle.btor_witness.specs.laws.Shapes.{shape_from}
use Rattle.btor_witness.proofs.Plain.{digits_read, digits_solid, binary_solid, parts_at}
use Rattle.text_core.proofs.Numerals.{all_digits}

numeral_read : (index : List ℕ) (i : ℕ) (ps : Parts) → numeral index ≡ Some i → is_passed (index ∷ ps) ≡ false
numeral_read [] i ps e = refl
numeral_read (b ∷ bs) i ps e =
    elim (cases_Bool (all_digits (b ∷ bs))) [
      | inl t ↦ digits_read b bs ps t
      | inr f ↦ absurd (let none : numeral (b ∷ bs) ≡ None = numeral_is b bs ∙ cond-false (all_digits (b ∷ bs)) _ _ f in cc)
    ]

spelled_read : (shape : Shape) (ps : Parts) → Spells shape ps → is_passed ps ≡ false
spelled_read Sat ps h = ap is_passed h
spelled_read (Property n) ps h = ap is_passed h.1
spelled_read (Justice n) ps h = ap is_passed h.1
spelled_read (States n) ps h = ap is_passed h.1
spelled_read (Inputs n) ps h = ap is_passed h.1
spelled_read End ps h = ap is_passed h
spelled_read (Assignment i word) ps h = ap is_passed h.3 ∙ numeral_read h.0 i _ h.4

pub shaped_read : (ps : Parts) (shape : Shape) → shape_of ps ≡ Some shape → is_passed ps ≡ false
shaped_read ps shape e = spelled_read shape ps (shape_from shape ps e)

-- a number, a blank and binary digits
pub statement_read : (line digits bs : List ℕ) (i : ℕ) → line ≡ digits ++ 32 ∷ bs → 0 < length digits → all_digits digits ≡ true → number_after 0 digits ≡ Some i → 0 < length bs → all_binary bs ≡ true
    → shape_of (parts line) ≡ Some (Assignment i (word_of bs))
statement_read line [] bs i e some digits number more binary = absurd (omega (arith, some))
statement_read line (d ∷ ds) [] i e some digits number more binary = absurd (omega (arith, more))
statement_read line (d ∷ ds) (b ∷ bs) i e some digits number more binary =
    let tail : parts (b ∷ bs) ≡ (b ∷ bs) ∷ [] = ap parts (sym (append-nil (b ∷ bs))) ∙ parts_at b bs [] (binary_solid (b ∷ bs) binary) refl in
    let all : parts line ≡ (d ∷ ds) ∷ (b ∷ bs) ∷ [] = ap parts e ∙ parts_at d ds (32 ∷ (b ∷ bs)) (digits_solid (d ∷ ds) digits) refl ∙ ap (λ ps. (d ∷ ds) ∷ ps) tail in
    let value : numeral (d ∷ ds) ≡ Some i = sym (numeral_from (d ∷ ds) some) ∙ number in
    ap shape_of all ∙ ap (λ o. assignment_shape o (b ∷ bs)) value ∙ cond-true (all_binary (b ∷ bs)) (Some (Assignment i (word_of (b ∷ bs)))) None binary

digits_push : (ds : List ℕ) (b : ℕ) → all_digits ds ≡ true → is_digit b ≡ true → all_digits (ds ++ b ∷ []) ≡ true
digits_push [] b h e = and_from (is_digit b) true e refl
digits_push (d ∷ ds) b h e = let p = and_parts (is_digit d) (all_digits ds) h in and_from (is_digit d) (all_digits (ds ++ b ∷ [])) p.0 (digits_push ds b p.1 e)

-- digits at the front, whatever digits follow
abbrev pub FrontRead : List ℕ → ℕ → List ℕ → Type 0
FrontRead line number rest =
    (digits : List ℕ) × (line ≡ digits ++ rest) × (all_digits digits ≡ true) × ((more : List ℕ) → number_after number more ≡ number_after 0 (digits ++ more))

pub front_more : (line rest more : List ℕ) (number next b : ℕ) → FrontRead line number rest → rest ≡ b ∷ more → is_digit b ≡ true → next ≡ min (10 * number + (b - 48)) cap → FrontRead line next more
front_more line rest more number next b h e digit value = (
  h.0 ++ b ∷ [],
  h.1 ∙ ap (λ x. h.0 ++ x) e ∙ sym (append_assoc h.0 (b ∷ []) more),
  digits_push h.0 b h.2 digit,
  λ ds. ap (λ n. number_after n ds) value ∙ sym (cond-true (is_digit b) (number_after (min (10 * number + (b - 48)) cap) ds) None digit) ∙ h.3 (b ∷ ds) ∙ ap (number_after 0) (sym (append_assoc h.0 (b ∷ []) ds)),
)

pub front_ends : (line rest : List ℕ) (number : ℕ) → FrontRead line number rest → IsNumberFront line number rest
front_ends line rest number h = record { digits = h.0; cut = h.1; all = h.2; value = ap (number_after 0) (sym (append-nil h.0)) ∙ sym (h.3 []) }
