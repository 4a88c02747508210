-- How values are spelled in a trace that is read (words: NuSMV 2.6 User Manual, section 2.2, word constants).
use Rattle.std.specs.Prelude.{◌==◌, ◌+◌, ◌^◌, ℕ, ℤ, pos, neg_ℤ, Bool, true, false, if◌then◌else◌, Option, Some, None, option_map, option_and_then, List, [], ◌∷◌, codes}
use Rattle.std.specs.Str.{bytes_eq}
use Rattle.word_core.specs.Words.{BitVector}
use Rattle.word_core.specs.Digits.{below, digits_value}
use Rattle.smv_text.specs.Numbers.{number_of, literal_of}
use Rattle.smv_meaning.specs.declared.value.Value.{Value}
use Rattle.smv_meaning.specs.declared.value.Value.TheVariants.{Truth, Integer, Symbol, Bits}
use Rattle.smv_meaning.specs.Types.{ExprType, truth_type, integer_type, symbol_type, word_type}
use Rattle.name_maps.specs.Names.{place_of}

abbrev pub truth_of : List ℕ → Option Bool
truth_of text = if bytes_eq text (codes "TRUE") then Some true else (if bytes_eq text (codes "FALSE") then Some false else None)

-- from -2^62
abbrev pub negative_of : List ℕ → Option ℤ
negative_of digits = option_map (λ n. neg_ℤ (pos n)) (option_and_then (below (2 ^ 62 + 1)) (digits_value 10 digits))

-- decimal digits, which zeros may begin, with `-` before them or nothing: from -2^62 to 2^62 - 1
abbrev pub integer_of : List ℕ → Option ℤ
integer_of [] = None
integer_of (b ∷ bs) = if b == 45 then negative_of bs else option_map pos (number_of (b ∷ bs))

-- a symbol of the model, whatever type it comes from
abbrev pub symbol_at : List ℕ → Option ℕ → Option Value
symbol_at text None = None
symbol_at text (Some k) = Some (Symbol text)

abbrev pub word_as : ℕ → BitVector → Option Value
word_as n w = if w.width == n then Some (Bits w) else None

-- the value that is spelled for a variable of a type, whatever its range or its symbols are
abbrev pub value_of : List (List ℕ) → ExprType → List ℕ → Option Value
value_of symbols truth_type text = option_map Truth (truth_of text)
value_of symbols (integer_type low high) text = option_map Integer (integer_of text)
value_of symbols symbol_type text = symbol_at text (place_of symbols text)
value_of symbols (word_type n) text = option_and_then (word_as n) (literal_of text)
