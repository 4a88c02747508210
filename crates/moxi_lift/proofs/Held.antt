-- What is true without its cause, and can be tested.
use Rattle.std.proofs.Common.{◌≡◌, ◌≤◌, ◌<◌, ℕ, suc, true, nat_eq, nat_lt, List, [], ◌∷◌, length, ap, ◌∙◌, arith}
use Rattle.std.specs.List.{AllByRecursion}
use Rattle.std.proofs.Math.Logic.{∥∥₁_elim, ∥∥₁_map}
use Rattle.std.proofs.Math.Bool.{Bool-set}
use Rattle.std.proofs.lemmas.Bool.Decides.{nat_tests}
use Rattle.word_core.specs.Words.{BitVector}
use Rattle.moxi_terms.specs.declared.data.Sort.{Sort}
use Rattle.moxi_terms.specs.declared.data.Sort.TheVariants.{Truth, Bits, Choice}
use Rattle.moxi_terms.specs.declared.term.Enumeration.{Enumeration}
use Rattle.moxi_terms.specs.Sorted.{AreSorts}
use Rattle.moxi_terms.specs.Sorts.{IsSort}
use Rattle.moxi_lines.specs.TermLaws.{HaveCodes}

pub equal_held : (a b : ℕ) → ∥ a ≡ b ∥₁ → a ≡ b
equal_held a b h = let e : nat_eq a b ≡ true = ∥∥₁_elim h (Bool-set (nat_eq a b) true) (λ l. grind (arith, nat_tests)) in grind (arith, nat_tests)

less_held : (a b : ℕ) → ∥ a < b ∥₁ → a < b
less_held a b h = let e : nat_lt a b ≡ true = ∥∥₁_elim h (Bool-set (nat_lt a b) true) (λ l. grind (arith, nat_tests)) in grind (arith, nat_tests)

most_held : (a b : ℕ) → ∥ a ≤ b ∥₁ → a ≤ b
most_held a b h = let l : a < suc b = less_held a (suc b) (∥∥₁_map h (λ m. omega (arith, m))) in omega (arith, l)

pub word_held : (x y : BitVector) → ∥ x ≡ y ∥₁ → x ≡ y
word_held x y h =
    let width = equal_held x.width y.width (∥∥₁_map h (λ e. ap (λ (z : BitVector). z.width) e)) in
    let bits = equal_held x.bits y.bits (∥∥₁_map h (λ e. ap (λ (z : BitVector). z.bits) e)) in
    ap (λ w. let z : BitVector = record { width = w; bits = x.bits } in z) width ∙ ap (λ b. let z : BitVector = record { width = y.width; bits = b } in z) bits

sort_held : (es : List Enumeration) (s : Sort) → ∥ IsSort es s ∥₁ → IsSort es s
sort_held es Truth h = tt
sort_held es (Bits w) h = (most_held 1 w (∥∥₁_map h (λ p. p.0)), most_held w _ (∥∥₁_map h (λ p. p.1)))
sort_held es (Choice n) h = less_held n _ h

pub sorts_held : (es : List Enumeration) (ss : List Sort) → ∥ AreSorts es ss ∥₁ → AreSorts es ss
sorts_held es [] h = tt
sorts_held es (s ∷ ss) h = (sort_held es s (∥∥₁_map h (λ p. p.0)), sorts_held es ss (∥∥₁_map h (λ p. p.1)))

pub full_held : (es : List Enumeration) → ∥ AllByRecursion (λ (e : Enumeration). 0 < length e.constants) es ∥₁ → AllByRecursion (λ (e : Enumeration). 0 < length e.constants) es
full_held [] h = tt
full_held (e ∷ es) h = (less_held 0 _ (∥∥₁_map h (λ p. p.0)), full_held es (∥∥₁_map h (λ p. p.1)))

pub codes_held : (es : List Enumeration) → ∥ HaveCodes es ∥₁ → HaveCodes es
codes_held [] h = tt
codes_held (e ∷ es) h = (most_held (length e.constants) _ (∥∥₁_map h (λ p. p.0)), codes_held es (∥∥₁_map h (λ p. p.1)))
