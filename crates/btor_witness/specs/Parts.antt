-- The statements of one part of a frame.
use Rattle.std.specs.Prelude.{◌==◌, ℕ, Bool, List, [], ◌∷◌, ◌++◌, Option, Some, None, Result, Ok, Err, slice_get, if◌then◌else◌}
use Rattle.std.specs.List.{list_any}
use Rattle.word_core.specs.Words.{BitVector}
use Rattle.text_core.specs.declared.place.Kind.{Kind}
use Rattle.btor_witness.specs.declared.witness.Stated.{Stated}
use Rattle.text_core.specs.declared.place.Kind.TheVariants.{X}

-- is this number stated?
abbrev pub is_stated : List Stated → ℕ → Bool
is_stated stated i = list_any (λ s. s.index == i) stated

-- a word of this width is stated
abbrev pub with_word : List Stated → ℕ → ℕ → Option BitVector → Result (List Stated) Kind
with_word stated i width None = Err (X 5)
with_word stated i width (Some word) =
    if word.width == width then Ok (stated ++ record { index = i; value = word } ∷ []) else Err (X 5)

-- a line of this number that is not stated yet is stated
abbrev pub with_width : List Stated → ℕ → Option ℕ → Option BitVector → Result (List Stated) Kind
with_width stated i None word = Err (X 4)
with_width stated i (Some width) word = if is_stated stated i then Err (X 4) else with_word stated i width word

-- the statements with one more, or why it may not be stated: there is no line of this number or it is stated already,
-- or the word has another width
abbrev pub stating : List ℕ → List Stated → ℕ → Option BitVector → Result (List Stated) Kind
stating widths stated i word = with_width stated i (slice_get widths i) word

-- the widths that a part is stated over, and what it states so far
pub record PartState : Type 0 where
  pub widths : List ℕ
  pub stated : List Stated
