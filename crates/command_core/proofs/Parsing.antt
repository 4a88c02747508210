-- What clap gives and refuses, by the reading of the words.
use Rattle.std.proofs.Common.{◌≡◌, ◌∙◌, true, false, List, [], ◌∷◌, map, is_some, Option, Some, None, refl, sym, ap, ap₂, subst, string_bytes, String, inl, inr}
use Rattle.std.specs.Prelude.{option_and_then}
use Rattle.std.proofs.lemmas.Str.{IsUtf8-string_bytes}
use Rattle.clap.specs.Matches.{first_value, found_of}
use Rattle.clap.specs.Walk.{Row, Text, idle, nothing_held, rows_of, walk}
use Rattle.clap.specs.Simple.{App, HasMatchesOf, entered, is_simple, matches_of}
use Rattle.clap.specs.Kinds.{HasKind, Kinds}
use Rattle.clap.specs.Faults.{entered_fault, fault_of, is_simple_and_free, level_fault}
use Rattle.clap.specs.declared.error.kind.ErrorKind.{ErrorKind}
use Rattle.clap.specs.declared.parser.matches.Found.{Found}
use Rattle.clap.specs.declared.parser.matches.ArgMatches.{ArgMatches}
use Rattle.clap.specs.declared.error.Error.{Error}
use Rattle.clap.specs.declared.error.kind.ErrorKind.TheVariants.{OutOfMemory}
use Rattle.clap.specs.Values.{kind_of}
use Rattle.clap.proofs.WalkLemmas.{first_value-rows}
use Rattle.command_core.specs.Clap.{numbered, texts_by, word_app}
use Rattle.command_core.specs.Words.{words_of}
use Rattle.command_core.proofs.Shape.{app, rules, shape}
use Rattle.command_core.proofs.Rows.{gives_nothing}
use Rattle.command_core.proofs.Texts.{no_texts, words_agree}
use Rattle.command_core.proofs.Walks.{AreTexts, between, faults, found, judged}
use Rattle.command_core.proofs.Reading.{both}

pub simple : is_simple word_app ≡ true
simple = refl

pub simple_and_free : is_simple_and_free word_app ≡ true
simple_and_free = refl

enters_none : (stop : Option (Text × List Text)) → entered app stop ≡ None
enters_none None = refl
enters_none (Some p) = refl

enters_well : (stop : Option (Text × List Text)) → entered_fault app stop ≡ []
enters_well None = refl
enters_well (Some p) = refl

fault_is : (words : List Text) → fault_of word_app words ≡ faults (between [] None idle 1 false) words
fault_is words =
    let stop = (walk rules [] nothing_held words).stopped in
    ap₂ (λ (sub : Option (Text × List Row)) (ks : Kinds). level_fault shape [] nothing_held words (is_some sub) ks) (enters_none stop) (enters_well stop)

whole : (words : List Text) → AreTexts words → option_and_then numbered (judged (fault_of word_app words) (matches_of word_app words)) ≡ words_of words
whole words u =
    ap (λ ks. option_and_then numbered (judged ks (matches_of word_app words))) (fault_is words)
    ∙ ap (option_and_then numbered) ((both words u).0 [] None no_texts (record { passes = refl; gives = gives_nothing }))
    ∙ words_agree words

-- where clap gives matches, they are the words
pub given_is : (words : List Text) → AreTexts words → fault_of word_app words ≡ [] → numbered (found (matches_of word_app words)) ≡ words_of words
given_is words u e = sym (ap (λ ks. option_and_then numbered (judged ks (matches_of word_app words))) e) ∙ whole words u

-- where clap refuses the words, they are not read
pub refused_is : (words : List Text) → AreTexts words → (k : ErrorKind) (ks : Kinds) → fault_of word_app words ≡ k ∷ ks → None ≡ words_of words
refused_is words u k ks e = sym (ap (λ ks. option_and_then numbered (judged ks (matches_of word_app words))) e) ∙ whole words u

pub are_texts : {Z : Type 0} (strings : List (String Z)) → AreTexts (map (λ s. string_bytes s) strings)
are_texts [] = tt
are_texts (s ∷ rest) = (IsUtf8-string_bytes s, are_texts rest)

-- what the matches say of each argument
pub by_rows : (f : Found) → texts_by (first_value f) ≡ found (rows_of f)
by_rows f = λ i. texts_by (λ id. first_value-rows f id i)

-- what the caller of a parse learns of matches, and of an error
pub accepted : (a : App) (words : List Text) (m : ArgMatches) → a ≡ word_app → AreTexts words → HasMatchesOf a words m
    → (is_simple_and_free a ≡ true → fault_of a words ≡ []) → numbered (texts_by (first_value (found_of m))) ≡ words_of words
accepted a words m e u matches passes =
    let rows = (matches (ap is_simple e ∙ simple)).0 ∙ ap (λ b. matches_of b words) e in
    let fault : fault_of word_app words ≡ [] = sym (ap (λ b. fault_of b words) e) ∙ passes (ap is_simple_and_free e ∙ simple_and_free) in
    ap numbered (by_rows (found_of m) ∙ ap found rows) ∙ given_is words u fault

pub refused : (a : App) (words : List Text) (error : Error) → a ≡ word_app → AreTexts words
    → (is_simple_and_free a ≡ true → HasKind (fault_of a words) error) → (kind_of error ≡ OutOfMemory → ⊥) → None ≡ words_of words
refused a words error e u kinds other = go (fault_of word_app words) refl (subst (λ b. HasKind (fault_of b words) error) e (kinds (ap is_simple_and_free e ∙ simple_and_free)))
  where
    go : (ks : Kinds) → fault_of word_app words ≡ ks → HasKind ks error → None ≡ words_of words
    go [] is (inl memory) = absurd (other memory)
    go [] is (inr none) = absurd none
    go (k ∷ ks) is h = refused_is words u k ks is
