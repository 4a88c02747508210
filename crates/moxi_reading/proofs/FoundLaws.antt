-- A test that would come later than what was found.
use Rattle.std.proofs.Common.{◌≡◌, Bool, true, false, Option}
use Rattle.text_core.specs.declared.place.Kind.{Kind}
use Rattle.text_core.specs.declared.place.Place.{Place}
use Rattle.text_core.specs.declared.place.Refusal.{Refusal}
use Rattle.moxi_scripts.specs.Collecting.{also, fails_with}
use Rattle.moxi_attributes.specs.laws.Collecting.{also_none}

pub comes_later : (found : Option Refusal) (kind : Kind) (p : Place) (b : Bool) → also found (fails_with true kind p) ≡ found → also found (fails_with b kind p) ≡ found
comes_later found kind p true h = h
comes_later found kind p false h = also_none found
