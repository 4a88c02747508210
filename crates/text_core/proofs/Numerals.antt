-- Laws of numbers and of their decimal digits.
use Rattle.std.proofs.Common.{ℕ, Bool, true, ◌&&◌, List, [], ◌∷◌, ◌*◌, ◌+◌, ◌-◌, ◌≡◌, rules, suc, arith}
use Rattle.text_core.specs.Bytes.{is_digit}
use Rattle.std.proofs.lemmas.Str.Parse.{IsNumeralModel, numerals_by_fold}

pub next_is : (j : ℕ) → suc j ≡ j + 1
next_is j = omega arith

pub from_start : (j : ℕ) → 0 + j ≡ j
from_start j = omega arith

-- decimal digits alone
abbrev pub all_digits : List ℕ → Bool
all_digits [] = true
all_digits (b ∷ bs) = is_digit b && all_digits bs

-- the number that digits spell behind those of n
abbrev pub value_after : ℕ → List ℕ → ℕ
value_after n [] = n
value_after n (b ∷ bs) = value_after (10 * n + (b - 48)) bs

abbrev pub value_from : ℕ → List ℕ → ℕ
value_from n [] = n
value_from n (b ∷ bs) = value_from (n * 10 + (b - 48)) bs

pub numerals : IsNumeralModel (λ ds. all_digits ds ≡ true) (value_from 0)
numerals = numerals_by_fold _ (search rules) value_from (search rules)
