-- Integers lie from -2^62 to 2^62 - 1, so that 64 bits hold them.
use Rattle.std.specs.Prelude.{ℕ, ◌≤◌, List}
use Rattle.text_core.specs.declared.place.Place.{Place}
use Rattle.smv_text.specs.declared.token.Token.{Token}
use Rattle.smv_text.specs.Tree.{PlainSource}
use Rattle.smv_text.specs.Sources.{SpellsSource}
use Rattle.smv_meaning.specs.Phases.{IsAccepted}
use Rattle.smv_flat.specs.FlatForms.{flat_smv}
use Rattle.smv_flat.specs.FlatWidth.{width_of}

abbrev pub WidthIsSmall : Type 0
WidthIsSmall = (source : PlainSource) (end : Place) (xs : List Token) → SpellsSource source end xs → (needed : ℕ) → IsAccepted source needed → width_of (flat_smv source) ≤ 64
