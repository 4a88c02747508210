-- Words of integers and of symbols.
use Rattle.std.proofs.Common.{◌≡◌, ℕ, zero, suc, ◌^◌, ◌<◌, ◌≤◌, ℤ, pos, negsuc, List, [], length, Option, Some, None, refl, arith}
use Rattle.std.proofs.Math.Nat.{mod-lt}
use Rattle.std.proofs.lemmas.List.Quantifiers.{position-Some}
use Rattle.std.proofs.lemmas.Nat.{pow_pos}
use Rattle.std.specs.Str.{bytes_eq}
use Rattle.word_core.specs.Words.{IsWord}
use Rattle.name_maps.specs.Names.{place_of}
use Rattle.smv_script.specs.Codes.{integer_bits, number_or_zero}
use Rattle.moxi_lines.specs.Codes.{choice_width}
use Rattle.moxi_lower.proofs.Steps.{choice_word, few_counts}

-- ---- integers

integer_low : (width : ℕ) (z : ℤ) → integer_bits width z < 2 ^ width
integer_low width (pos n) = mod-lt n (pow_pos width)
integer_low width (negsuc n) = let some = pow_pos width in omega (arith, some)

pub integer_is_word : (width : ℕ) (z : ℤ) → 1 ≤ width → width ≤ 64 → IsWord (record { width = width; bits = integer_bits width z })
integer_is_word width z some most = (some, omega (arith, most), integer_low width z)

-- ---- symbols

first_word : (count : ℕ) → count < 2 ^ 64 → IsWord (record { width = choice_width count; bits = 0 })
first_word zero few = let one : choice_width 0 ≡ 1 = refl in (omega (arith, one), omega (arith, one), pow_pos (choice_width 0))
first_word (suc n) few = choice_word (suc n) 0 (omega arith) (few_counts (suc n) few)

pub symbol_is_word : (symbols : List (List ℕ)) (s : List ℕ) → length symbols < 2 ^ 64 → IsWord (record { width = choice_width (length symbols); bits = number_or_zero (place_of symbols s) })
symbol_is_word symbols s few = by (place_of symbols s) (λ i e. (position-Some (bytes_eq s) symbols i [] e).0)
  where
    by : (o : Option ℕ) → ((i : ℕ) → o ≡ Some i → i < length symbols) → IsWord (record { width = choice_width (length symbols); bits = number_or_zero o })
    by None h = first_word (length symbols) few
    by (Some i) h = choice_word (length symbols) i (h i refl) (few_counts (length symbols) few)
