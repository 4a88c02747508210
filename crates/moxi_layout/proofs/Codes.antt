-- The constraints on codes are true exactly where the codes are inside.
use Rattle.std.proofs.Common.{◌≡◌, ℕ, zero, suc, ◌<◌, ◌^◌, Bool, true, false, cond, eqb, not, List, [], ◌∷◌, length, Some, refl, sym, subst, arith}
use Rattle.std.specs.Prelude.{nat_lt, slice_get}
use Rattle.std.specs.List.{AllByRecursion}
use Rattle.std.proofs.lemmas.Bool.Decides.{nat_tests}
use Rattle.std.proofs.lemmas.Option.{same_Some, none-some}
use Rattle.word_core.specs.Words.{BitVector, IsWord}
use Rattle.btor_tree.specs.Frame.{word_at}
use Rattle.moxi_terms.specs.declared.data.Sort.{Sort}
use Rattle.moxi_terms.specs.declared.data.Sort.TheVariants.{Truth, Bits, Choice}
use Rattle.moxi_terms.specs.declared.term.Enumeration.{Enumeration}
use Rattle.moxi_terms.specs.declared.term.Variable.{Variable}
use Rattle.moxi_terms.specs.Tree.{sorts_of}
use Rattle.moxi_terms.specs.Names.{constant_count}
use Rattle.moxi_lines.specs.Codes.{choice_width, sort_bits}
use Rattle.moxi_lines.specs.TermLines.{place_in}
use Rattle.moxi_lines.specs.Decoding.{PlacesInside}
use Rattle.moxi_lines.specs.Variables.{IsInside}
use Rattle.moxi_layout.specs.Skeleton.{has_gap}
use Rattle.moxi_layout.specs.Layout.{codes_inside, is_inside}
use Rattle.moxi_lines.proofs.Decoded.{is_less, less_than}
use Rattle.moxi_lines.proofs.Extending.{all_both, all_first, all_second}

abbrev pub AreSet : List Bool → Type 0
AreSet bs = AllByRecursion (λ b. b ≡ true) bs

abbrev code_test : List Enumeration → Sort → BitVector → List Bool
code_test es s x = cond (has_gap es s) (is_inside es s x ∷ []) []

same_number : (a b : ℕ) → eqb a b ≡ true → a ≡ b
same_number a b h = grind (arith, nat_tests)

one_inside : (es : List Enumeration) (s : Sort) (x : BitVector) → IsWord x → x.width ≡ sort_bits es s → AreSet (code_test es s x) → IsInside es s x
one_inside es Truth x w e a = tt
one_inside es (Bits n) x w e a = tt
one_inside es (Choice n) x w e a = go (eqb c (2 ^ choice_width c)) refl a
  where
    c : ℕ
    c = constant_count es n

    go : (b : Bool) → eqb c (2 ^ choice_width c) ≡ b → AreSet (cond (not b) (nat_lt x.bits c ∷ []) []) → x.bits < c
    go true h a = subst (λ m. x.bits < m) (sym (same_number c (2 ^ choice_width c) h)) (subst (λ m. x.bits < 2 ^ m) e w.2)
    go false h a = less_than x.bits c a.0

one_set : (es : List Enumeration) (s : Sort) (x : BitVector) → IsInside es s x → AreSet (code_test es s x)
one_set es Truth x i = tt
one_set es (Bits n) x i = tt
one_set es (Choice n) x i = go (has_gap es (Choice n))
  where
    go : (b : Bool) → AreSet (cond b (nat_lt x.bits (constant_count es n) ∷ []) [])
    go true = (is_less x.bits (constant_count es n) i, tt)
    go false = tt

-- the word at the place of a variable has its sort's width
abbrev WordFits : List Enumeration → List Variable → List BitVector → List ℕ → Type 0
WordFits es vs row ps = (v : ℕ) (s : Sort) → slice_get (sorts_of vs) v ≡ Some s → IsWord (word_at row (place_in ps v)) × ((word_at row (place_in ps v)).width ≡ sort_bits es s)

set_inside : (es : List Enumeration) (row : List BitVector) (vs : List Variable) (ps : List ℕ) → length ps ≡ length vs → WordFits es vs row ps → AreSet (codes_inside es row vs ps)
    → (v : ℕ) (s : Sort) → slice_get (sorts_of vs) v ≡ Some s → IsInside es s (word_at row (place_in ps v))
set_inside es row [] ps l w a v s h = absurd (none-some s h)
set_inside es row (x ∷ vs) [] l w a v s h = absurd (omega (arith, l))
set_inside es row (x ∷ vs) (p ∷ ps) l w a zero s h =
    let one = w 0 x.sort refl in
    subst (λ t. IsInside es t (word_at row p)) (same_Some x.sort s h)
    (one_inside es x.sort (word_at row p) one.0 one.1 (all_first (λ b. b ≡ true) (code_test es x.sort (word_at row p)) (codes_inside es row vs ps) a))
set_inside es row (x ∷ vs) (p ∷ ps) l w a (suc v) s h =
    set_inside es row vs ps (omega (arith, l)) (λ u t k. w (suc u) t k) (all_second (λ b. b ≡ true) (code_test es x.sort (word_at row p)) (codes_inside es row vs ps) a) v s h

pub codes_set : (es : List Enumeration) (row : List BitVector) (vs : List Variable) (ps : List ℕ) → length ps ≡ length vs → WordFits es vs row ps → AreSet (codes_inside es row vs ps) → PlacesInside es vs row (place_in ps)
codes_set es row vs ps l w a = record { each = set_inside es row vs ps l w a }

inside_set : (es : List Enumeration) (row : List BitVector) (vs : List Variable) (ps : List ℕ) → ((v : ℕ) (s : Sort) → slice_get (sorts_of vs) v ≡ Some s → IsInside es s (word_at row (place_in ps v))) → AreSet (codes_inside es row vs ps)
inside_set es row [] ps i = tt
inside_set es row (x ∷ vs) [] i = tt
inside_set es row (x ∷ vs) (p ∷ ps) i =
    all_both (λ b. b ≡ true) (code_test es x.sort (word_at row p)) (codes_inside es row vs ps) (one_set es x.sort (word_at row p) (i 0 x.sort refl)) (inside_set es row vs ps (λ v s h. i (suc v) s h))

pub set_codes : (es : List Enumeration) (row : List BitVector) (vs : List Variable) (ps : List ℕ) → PlacesInside es vs row (place_in ps) → AreSet (codes_inside es row vs ps)
set_codes es row vs ps i = inside_set es row vs ps i.each
