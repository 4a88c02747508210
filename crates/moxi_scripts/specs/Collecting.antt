-- Failing tests, of which the code keeps the least one.
use Rattle.std.specs.Prelude.{ℕ, Bool, true, false, Option, List, [], ◌∷◌}
use Rattle.text_core.specs.declared.place.Place.{Place}
use Rattle.text_core.specs.declared.place.Kind.{Kind}
use Rattle.text_core.specs.declared.place.Kind.TheVariants.{M}
use Rattle.text_core.specs.declared.place.Refusal.{Refusal}
use Rattle.moxi_term_reading.specs.Failures.{least, minimum}

-- what was found, and what these tests find
unfoldable pub also : Option Refusal → List Refusal → Option Refusal
also found fs = minimum found (least fs)

-- a test that fails with this kind at this place
abbrev pub fails_with : Bool → Kind → Place → List Refusal
fails_with true kind p = record { kind = kind; place = p } ∷ []
fails_with false kind p = []

-- a test that fails with the kind of this number at this place
abbrev pub fails_if : Bool → ℕ → Place → List Refusal
fails_if b n p = fails_with b (M n) p
