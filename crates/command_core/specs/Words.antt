-- How the words of a command are read.
use Rattle.std.specs.Prelude.{◌==◌, ℕ, Bool, true, false, nat_lt, map, if◌then◌else◌, is_some, option_map, option_and_then, Option, Some, None, codes, List, [], ◌∷◌, ◌++◌, length, take, drop}
use Rattle.std.specs.Str.{bytes_eq}
use Rattle.command_core.specs.declared.words.GivenWords.{GivenWords}
use Rattle.command_core.specs.Numbers.{invariant_number}

-- what the words of a command give: those that stand by themselves, in order, and the number of an invariant
pub record PlainWords : Type 0 where
  pub positionals : List (List ℕ)
  pub property : Option ℕ

-- what the code's struct says
abbrev pub plain : GivenWords → PlainWords
plain given = record { positionals = map (λ word. word.now) given.positionals.items; property = given.property }

abbrev pub no_words : PlainWords
no_words = record { positionals = []; property = None }

-- one more word that stands by itself; there are at most three
abbrev pub with_positional : PlainWords → List ℕ → Option PlainWords
with_positional given word =
    if nat_lt (length given.positionals) 3 then Some (record given { positionals = given.positionals ++ word ∷ [] }) else None

-- the value of `--property`, which is an invariant's number and is given at most once
abbrev pub with_property : PlainWords → List ℕ → Option PlainWords
with_property given text = if is_some given.property then None else option_map (λ j. record given { property = Some j }) (invariant_number text)

-- a word that begins with `-` and is not `-` itself; byte 45 is `-`
abbrev pub is_option : List ℕ → Bool
is_option [] = false
is_option (b ∷ []) = false
is_option (b ∷ c ∷ rest) = b == 45

-- the words behind `--`, each of which stands by itself
abbrev pub read_positionals : PlainWords → List (List ℕ) → Option PlainWords
read_positionals given [] = Some given
read_positionals given (word ∷ rest) = option_and_then (λ more. read_positionals more rest) (with_positional given word)

-- the words from left to right, where `awaited` says that the next one is the value of `--property`, whatever it is
abbrev pub read_from : Bool → PlainWords → List (List ℕ) → Option PlainWords
read_from awaited given [] = if awaited then None else Some given
read_from true given (word ∷ rest) = option_and_then (λ more. read_from false more rest) (with_property given word)
read_from false given (word ∷ rest) =
    if bytes_eq word (codes "--") then read_positionals given rest
    else (if bytes_eq word (codes "--property") then read_from true given rest
    else (if bytes_eq (take 11 word) (codes "--property=") then option_and_then (λ more. read_from false more rest) (with_property given (drop 11 word))
    else (if is_option word then None else option_and_then (λ more. read_from false more rest) (with_positional given word))))

-- what the words of a command give, where they are read at all
unfoldable pub words_of : List (List ℕ) → Option PlainWords
words_of words = read_from false no_words words
