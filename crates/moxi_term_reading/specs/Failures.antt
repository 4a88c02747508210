-- Failing tests, and the one that a refusal names: of those with the least place the one with the least number.
use Rattle.std.specs.Prelude.{◌≡◌, ◌⊎◌, ℕ, ◌+◌, ◌*◌, ◌≤◌, nat_lt, if◌then◌else◌, Option, None, Some, List, [], ◌∷◌}
use Rattle.std.specs.List.{AllByRecursion}
use Rattle.text_core.specs.declared.place.Kind.{Kind}
use Rattle.text_core.specs.declared.place.Kind.TheVariants.{S, M, B, X, Y}
use Rattle.text_core.specs.declared.place.Refusal.{Refusal}

abbrev pub number_of : Kind → ℕ
number_of (S n) = n
number_of (M n) = n
number_of (B n) = n
number_of (X n) = n
number_of (Y n) = n

-- by place, and at one place by number; no number of a kind is above 16
abbrev pub key : Refusal → ℕ
key r = r.place.offset * 256 + number_of r.kind

abbrev pub pick : Refusal → Refusal → Refusal
pick a b = if nat_lt (key b) (key a) then b else a

abbrev pub minimum : Option Refusal → Option Refusal → Option Refusal
minimum None b = b
minimum (Some a) None = Some a
minimum (Some a) (Some b) = Some (pick a b)

abbrev pub least : List Refusal → Option Refusal
least [] = None
least (f ∷ fs) = minimum (Some f) (least fs)

abbrev pub IsIn : Refusal → List Refusal → Type 0
IsIn f [] = ⊥
IsIn f (g ∷ gs) = (f ≡ g) ⊎ IsIn f gs

-- one of these, and none of them comes before it
abbrev pub IsLeast : Refusal → List Refusal → Type 0
IsLeast f fs = IsIn f fs × AllByRecursion (λ g. key f ≤ key g) fs
