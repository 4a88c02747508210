-- A text's word literals are words (NuSMV 2.6 User Manual, chapter 2, before section 2.1).
use Rattle.std.specs.Prelude.{◌≡◌, ℕ, true, List}
use Rattle.text_core.specs.declared.place.Place.{Place}
use Rattle.smv_text.specs.declared.token.Token.{Token}
use Rattle.smv_text.specs.Tree.{PlainSource}
use Rattle.smv_text.specs.Lexing.{Lexes}
use Rattle.smv_text.specs.Sources.{SpellsSource}
use Rattle.smv_meaning.specs.Instances.{instances_of}
use Rattle.smv_meaning.specs.Literals.{words_fit}
use Rattle.smv_meaning.specs.Checked.{all_trees}

abbrev pub WordsFit : Type 0
WordsFit = (source : PlainSource) (end : Place) (text : List ℕ) (xs : List Token) → Lexes text xs → SpellsSource source end xs → all_trees words_fit (instances_of source) ≡ true
