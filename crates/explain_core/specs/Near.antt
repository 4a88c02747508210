-- What stands near a place.
use Rattle.std.specs.Prelude.{◌==◌, ◌&&◌, ◌||◌, ◌+◌, ◌-◌, ℕ, Bool, true, false, not, nat_le, nat_eq, zero, suc, min, List, [], ◌∷◌, length, map, take, drop, codes, Option, Some, None, option_map, option_and_then, if◌then◌else◌}
use Rattle.std.specs.List.{starts_with}
use Rattle.std.specs.Str.{bytes_eq}
use Rattle.text_core.specs.declared.place.Kind.{Kind}
use Rattle.text_core.specs.declared.place.Place.{Place}
use Rattle.text_core.specs.declared.place.Kind.TheVariants.{S}
use Rattle.explain_core.specs.declared.near.Near.{Near as TheNear}
use Rattle.explain_core.specs.declared.near.Found.{Found as TheFound}
use Rattle.explain_core.specs.declared.near.TheConstants.{OPERATORS, DIVISIONS, SHIFTS, SELECTIONS, FIRST_OPERATOR, OPEN_RANGE, CLOSE_RANGE, NOTHING_BETWEEN, FILL_GAP, LINES_ABOVE}
use Rattle.explain_core.specs.Tokens.{is_word_byte, smv_token_length}
use Rattle.explain_core.specs.Lines.{line_of_number}
use Rattle.explain_core.specs.Kinds.{is_among, is_kind}

-- words on a token, the token with its place, and a mend where one fits better than that of the kind
pub record Near : Type 0 where
  pub words : List ℕ
  pub token : List ℕ
  pub line : ℕ
  pub column : ℕ
  pub remedy : Option (List ℕ)

-- a token with its place
pub record Found : Type 0 where
  pub token : List ℕ
  pub line : ℕ
  pub column : ℕ

abbrev pub plain_near : TheNear → Near
plain_near n = record { words = n.words.now; token = n.token.now; line = n.line; column = n.column; remedy = option_map (λ remedy. remedy.now) n.remedy }

abbrev pub plain_found : TheFound → Found
plain_found f = record { token = f.token.now; line = f.line; column = f.column }

-- the operators that a refusal of the kind can be about
abbrev pub operators_of : Kind → List (List ℕ)
operators_of kind =
    if is_kind kind (S 16) || is_kind kind (S 17) then map (λ word. word.now) OPERATORS
    else (if is_kind kind (S 23) then map (λ word. word.now) DIVISIONS
    else (if is_kind kind (S 24) then map (λ word. word.now) SHIFTS
    else (if is_kind kind (S 25) then map (λ word. word.now) SELECTIONS
    else [])))

abbrev pub opens : ℕ → Bool
opens b = (b == 40) || ((b == 91) || (b == 123))

abbrev pub closes : ℕ → Bool
closes b = (b == 41) || ((b == 93) || ((b == 125) || (b == 59)))

-- where the first of these operators begins and ends that is in no bracket, behind the first byte and before a bracket that
-- closes or a `;`; so many bytes of a token are left, the next byte has this number, and so many brackets stand open
abbrev pub operator_in : List (List ℕ) → ℕ → ℕ → ℕ → List ℕ → Option (ℕ × ℕ)
operator_in wanted left at depth [] = None
operator_in wanted (suc left) at depth (b ∷ bs) = operator_in wanted left (at + 1) depth bs
operator_in wanted zero at depth (b ∷ bs) =
    if (depth == 0) && (not (at == 0) && is_among wanted (take (smv_token_length (b ∷ bs)) (b ∷ bs))) then Some (at, at + smv_token_length (b ∷ bs))
    else (if closes b then (if depth == 0 then None else operator_in wanted (smv_token_length (b ∷ bs) - 1) (at + 1) (depth - 1) bs)
    else operator_in wanted (smv_token_length (b ∷ bs) - 1) (at + 1) (if opens b then depth + 1 else depth) bs)

-- what is said of an operator
abbrev pub operator_near : Place → List ℕ → ℕ × ℕ → Near
operator_near place rest ends =
    record { words = FIRST_OPERATOR.now; token = take (ends.1 - ends.0) (drop ends.0 rest); line = place.line; column = place.column + ends.0; remedy = None }

-- where the last token of a line's front before a comment begins and ends
abbrev pub last_token : ℕ → ℕ → Option (ℕ × ℕ) → List ℕ → Option (ℕ × ℕ)
last_token left at last [] = last
last_token (suc left) at last (b ∷ bs) = last_token left (at + 1) last bs
last_token zero at last (b ∷ bs) =
    if starts_with nat_eq (b ∷ bs) (codes "--") then last
    else last_token (smv_token_length (b ∷ bs) - 1) (at + 1) (if nat_le 33 b then Some (at, at + smv_token_length (b ∷ bs)) else last) bs

abbrev pub found_at : List ℕ → ℕ → ℕ × ℕ → Found
found_at front number ends = record { token = take (ends.1 - ends.0) (drop ends.0 front); line = number; column = ends.0 + 1 }

-- the last token of a line of this number, or of its front, where that has at most 4,096 bytes
abbrev pub found_in : List ℕ → ℕ → Option Found
found_in front number = if nat_le (length front) 4096 then option_map (found_at front number) (last_token 0 0 None front) else None

-- this, or that where there is none
abbrev pub or_else : {A : Type 0} → Option A → Option A → Option A
or_else None other = other
or_else (Some x) other = Some x

-- the last token of the lines above that of the number, of which at most so many are looked through
unfoldable pub token_above : List (List ℕ) → ℕ → ℕ → Option Found
token_above lines number zero = None
token_above lines number (suc most) =
    if nat_le number 1 then None
    else option_and_then (λ line. or_else (found_in line (number - 1)) (token_above lines (number - 1) most)) (line_of_number lines (number - 1))

-- the last token before a place: on its line, or else on one of the 100 lines above
abbrev pub token_before : List (List ℕ) → Place → Option Found
token_before lines place =
    option_and_then (λ line. or_else (found_in (take (min (place.column - 1) (length line)) line) place.line) (token_above lines place.line LINES_ABOVE))
    (line_of_number lines place.line)

abbrev pub begins_operand : List ℕ → Bool
begins_operand [] = false
begins_operand (b ∷ bs) = is_word_byte b

abbrev pub is_capitals : List ℕ → Bool
is_capitals [] = true
is_capitals (b ∷ bs) = nat_le 65 b && (nat_le b 90 && is_capitals bs)

-- an expression, a type or a name can end with the token; reserved words in capitals can't, but for two
abbrev pub ends_operand : List ℕ → Bool
ends_operand [] = false
ends_operand (b ∷ bs) =
    if is_word_byte b then bytes_eq (b ∷ bs) (codes "TRUE") || (bytes_eq (b ∷ bs) (codes "FALSE") || not (is_capitals (b ∷ bs)))
    else ((b == 41) || ((b == 93) || (b == 125)))

abbrev pub gap_with : Found → List ℕ → List ℕ → Near
gap_with found words remedy = record { words = words; token = found.token; line = found.line; column = found.column; remedy = Some remedy }

-- what is missing behind a token, before this text
abbrev pub gap_near : Found → List ℕ → Option Near
gap_near found rest =
    if bytes_eq found.token (codes "..") then Some (gap_with found OPEN_RANGE.now CLOSE_RANGE.now)
    else (if begins_operand rest && ends_operand found.token then Some (gap_with found NOTHING_BETWEEN.now FILL_GAP.now) else None)

abbrev pub gap_before : List (List ℕ) → Place → List ℕ → Option Near
gap_before lines place rest = option_and_then (λ found. gap_near found rest) (token_before lines place)

-- what stands near the place of a refusal, with this text from the place on: the token before it where something is missing
-- between the two, or an operator that the refusal can be about
abbrev pub near_of : Kind → List (List ℕ) → Place → List ℕ → Option Near
near_of kind lines place rest =
    if is_kind kind (S 5) then gap_before lines place rest else option_map (operator_near place rest) (operator_in (operators_of kind) 0 0 0 rest)
