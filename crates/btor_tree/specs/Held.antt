-- What the lists of lines hold beside their lines.
use Rattle.std.specs.Prelude.{◌≡◌, ℕ, zero, suc, ◌<◌, List, length, set, get_or, Option, None, Some}
use Rattle.std.specs.Option.{option_or}
use Rattle.word_core.specs.declared.word.TheConstants.{WIDEST}
use Rattle.btor_tree.specs.declared.lines.Line.{Line}
use Rattle.btor_tree.specs.Fits.{count_of, is_input, is_state, is_bad, last_id, sort_place}

-- the lines of three kinds are counted
abbrev pub IsCounted : List Line → ℕ → ℕ → ℕ → Type 0
IsCounted lines inputs states bads =
    (inputs ≡ count_of is_input lines) × (states ≡ count_of is_state lines) × (bads ≡ count_of is_bad lines)

-- ids are 1, 2, 3 and so on, so that the last one is the number of lines
abbrev pub IsNumbered : List Line → Type 0
IsNumbered lines = last_id lines ≡ length lines

-- the table has at w the place of the first sort line of width w + 1
pub record HasSorts (lines : List Line) (sorts : List (Option ℕ)) : Type 0 where
  pub long : length sorts ≡ WIDEST
  pub places : (w : ℕ) → w < WIDEST → get_or sorts w None ≡ sort_place lines (suc w)

-- the table with the place of a sort line of this width, where it has none
abbrev pub noted : List (Option ℕ) → ℕ → ℕ → List (Option ℕ)
noted sorts zero place = sorts
noted sorts (suc w) place = set sorts w (option_or (get_or sorts w None) (Some place))
