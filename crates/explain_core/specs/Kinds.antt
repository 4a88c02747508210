-- Kinds and words that are compared.
use Rattle.std.specs.Prelude.{◌==◌, ℕ, Bool, true, false, List, [], ◌∷◌, if◌then◌else◌}
use Rattle.std.specs.Str.{bytes_eq}
use Rattle.text_core.specs.declared.place.Kind.{Kind}
use Rattle.text_core.specs.declared.place.Kind.TheVariants.{S, M, B, X, Y}

abbrev pub is_kind : Kind → Kind → Bool
is_kind (S n) (S m) = n == m
is_kind (S n) (M m) = false
is_kind (S n) (B m) = false
is_kind (S n) (X m) = false
is_kind (S n) (Y m) = false
is_kind (M n) (S m) = false
is_kind (M n) (M m) = n == m
is_kind (M n) (B m) = false
is_kind (M n) (X m) = false
is_kind (M n) (Y m) = false
is_kind (B n) (S m) = false
is_kind (B n) (M m) = false
is_kind (B n) (B m) = n == m
is_kind (B n) (X m) = false
is_kind (B n) (Y m) = false
is_kind (X n) (S m) = false
is_kind (X n) (M m) = false
is_kind (X n) (B m) = false
is_kind (X n) (X m) = n == m
is_kind (X n) (Y m) = false
is_kind (Y n) (S m) = false
is_kind (Y n) (M m) = false
is_kind (Y n) (B m) = false
is_kind (Y n) (X m) = false
is_kind (Y n) (Y m) = n == m

abbrev pub is_among : List (List ℕ) → List ℕ → Bool
is_among [] token = false
is_among (word ∷ words) token = if bytes_eq word token then true else is_among words token
