-- What is known of the names of an accepted model's items and symbols.
use Rattle.std.specs.Prelude.{◌≡◌, ℕ, true, List, [], map, slice_get, Some}
use Rattle.std.specs.List.{AllByRecursion}
use Rattle.text_core.specs.declared.place.Place.{Place}
use Rattle.name_maps.specs.Names.{are_fresh, place_of}
use Rattle.smv_text.specs.declared.token.Token.{Token}
use Rattle.smv_text.specs.Tree.{PlainSource}
use Rattle.smv_text.specs.Lexing.{Lexes}
use Rattle.smv_text.specs.Sources.{SpellsSource}
use Rattle.smv_meaning.specs.Instances.{Instance, instances_of}
use Rattle.smv_meaning.specs.Phases.{IsAccepted}
use Rattle.smv_items.specs.FlatItems.{origins_of, path_of, symbols_of}
use Rattle.smv_accepted.specs.Names.{IsIdentifier, IsDottedName}

-- the dotted names of the items, in their order
abbrev pub item_names : List Instance → List (List ℕ)
item_names t = map (path_of t) (origins_of t)

abbrev pub NamesDiffer : Type 0
NamesDiffer = (source : PlainSource) (end : Place) (text : List ℕ) (xs : List Token) → Lexes text xs → SpellsSource source end xs
    → (needed : ℕ) → IsAccepted source needed → are_fresh [] (item_names (instances_of source)) ≡ true

-- the place of an item's dotted name is the item's number
abbrev pub NamesAreDistinct : Type 0
NamesAreDistinct = (source : PlainSource) (end : Place) (text : List ℕ) (xs : List Token) → Lexes text xs → SpellsSource source end xs
    → (needed : ℕ) → IsAccepted source needed
    → (k : ℕ) (x : List ℕ) → slice_get (item_names (instances_of source)) k ≡ Some x → place_of (item_names (instances_of source)) x ≡ Some k

abbrev pub NamesAreWords : Type 0
NamesAreWords = (source : PlainSource) (end : Place) (text : List ℕ) (xs : List Token) → Lexes text xs → SpellsSource source end xs
    → AllByRecursion IsDottedName (item_names (instances_of source))

abbrev pub SymbolsAreWords : Type 0
SymbolsAreWords = (source : PlainSource) (end : Place) (text : List ℕ) (xs : List Token) → Lexes text xs → SpellsSource source end xs
    → AllByRecursion IsIdentifier (symbols_of (instances_of source))

abbrev pub SymbolsDiffer : Type 0
SymbolsDiffer = (t : List Instance) → are_fresh [] (symbols_of t) ≡ true

-- the place of a symbol is the only one at which it stands
abbrev pub SymbolsAreDistinct : Type 0
SymbolsAreDistinct = (t : List Instance) (i : ℕ) (s : List ℕ) → slice_get (symbols_of t) i ≡ Some s → place_of (symbols_of t) s ≡ Some i
