-- The ends of an interval of results.
use Rattle.std.proofs.Common.{◌≡◌, ℤ, Option}
use Rattle.std.specs.Int.{int_min, int_max}
use Rattle.smv_meaning.specs.Types.{integer_type, over_both_ends}
use Rattle.smv_intervals.specs.declared.types.Ty.{Ty}
use Rattle.smv_intervals.specs.Limits.{FitsLimit}

-- the four results of two intervals' ends
pub over_kept : (f : ℤ → ℤ → ℤ) (r : Option Ty) (low high less more a b c d : ℤ) → a ≡ f low less → b ≡ f low more → c ≡ f high less → d ≡ f high more
    → FitsLimit r (integer_type (int_min (int_min a b) (int_min c d)) (int_max (int_max a b) (int_max c d)))
    → FitsLimit r (over_both_ends f (integer_type low high) (integer_type less more))
over_kept f r low high less more a b c d p q s t h = rw (← p, ← q, ← s, ← t) h
