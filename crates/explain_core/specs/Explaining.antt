-- What is written for notes.
use Rattle.std.specs.Prelude.{◌-◌, ◌+◌, ◌||◌, ℕ, Bool, false, nat_le, max, List, [], ◌∷◌, ◌++◌, length, map, take, drop, get_or, codes, Option, Some, None, is_some, option_map, option_and_then, if◌then◌else◌}
use Rattle.text_core.specs.declared.place.Kind.{Kind}
use Rattle.text_core.specs.declared.place.Kind.TheVariants.{S, M, B, X, Y}
use Rattle.text_core.specs.declared.place.Place.{Place}
use Rattle.text_core.specs.declared.place.Refusal.{Refusal as TheRefusal}
use Rattle.std.specs.List.{flat_map}
use Rattle.explain_core.specs.declared.session.Source.{Source}
use Rattle.explain_core.specs.declared.near.TheConstants.{NEAREST}
use Rattle.explain_core.specs.declared.advice.clauses.TheConstants.{COMMANDS, NO_MEMORY, READ_FAULT, USAGE, WRITE_FAULT}
use Rattle.explain_core.specs.declared.notes.Note.{Note}
use Rattle.explain_core.specs.declared.notes.Note.TheVariants.{Refused, SecondRefused, No, Usage, Unread, WriteFault, NoMemory}
use Rattle.explain_core.specs.Advice.{advice_of, clause_advice, hint_for}
use Rattle.explain_core.specs.Lines.{line_of_number, lines_of}
use Rattle.explain_core.specs.Messages.{excerpt_text, header_text, help_text, near_text, plain_text}
use Rattle.explain_core.specs.Near.{Near, near_of, or_else}
use Rattle.explain_core.specs.Notes.{note_of}
use Rattle.explain_core.specs.Tokens.{token_length}

-- a file of a run: its name, and its lines where it was read
pub record File : Type 0 where
  pub name : List ℕ
  pub lines : Option (List (List ℕ))

abbrev pub file_of : Source → File
file_of source = record { name = source.name.now; lines = option_map (λ lines. map (λ line. line.now) lines.now) source.lines }

-- the line of a place, where it has the column
abbrev pub if_wide : ℕ → List ℕ → Option (List ℕ)
if_wide column line = if nat_le (column - 1) (length line) then Some line else None

abbrev pub shown_line : List (List ℕ) → Place → Option (List ℕ)
shown_line lines place = option_and_then (if_wide place.column) (line_of_number lines place.line)

-- how many bytes the caret marks: of a token at least one, where places of the kind have a column
abbrev pub marked : Kind → ℕ → ℕ
marked (S n) count = max count 1
marked (M n) count = max count 1
marked (B n) count = 0
marked (X n) count = 0
marked (Y n) count = 0

-- the mend that comes with what stands near
abbrev pub near_remedy : Option Near → Option (List ℕ)
near_remedy near = option_and_then (λ n. n.remedy) near

abbrev pub or_this : Option (List ℕ) → List ℕ → List ℕ
or_this None other = other
or_this (Some this) other = this

-- the mend for a token, or else for what stands near it, or else for the kind
abbrev pub remedy_of : Kind → List ℕ → Option Near → List ℕ
remedy_of kind token near = or_this (or_else (hint_for kind token) (near_remedy near)) (advice_of kind).1

abbrev pub rest_text : Kind → List ℕ → Option Near → List ℕ
rest_text kind token near = near_text near ++ help_text (remedy_of kind token near)

-- the token with which a text begins
abbrev pub token_of : Kind → List ℕ → List ℕ
token_of kind rest = take (token_length kind rest) rest

-- what stands from the place on, at most 4,096 bytes
abbrev pub rest_of : List ℕ → TheRefusal → List ℕ
rest_of line refusal = take NEAREST (drop (refusal.place.column - 1) line)

-- the excerpt of a place, what stands near it, and the mend
abbrev pub below_text : List (List ℕ) → List ℕ → TheRefusal → List ℕ
below_text lines line refusal =
    excerpt_text line (refusal.place.column - 1) (marked refusal.kind (length (token_of refusal.kind (rest_of line refusal))))
    ++ rest_text refusal.kind (token_of refusal.kind (rest_of line refusal)) (near_of refusal.kind lines refusal.place (rest_of line refusal))

-- a refusal whose place is on this line
abbrev pub found_text : List ℕ → List (List ℕ) → List ℕ → TheRefusal → List ℕ
found_text file lines line refusal =
    header_text file refusal (token_of refusal.kind (rest_of line refusal)) (advice_of refusal.kind).0 ++ below_text lines line refusal

-- a refusal whose line is not known
abbrev pub bare_text : List ℕ → TheRefusal → List ℕ
bare_text file refusal = header_text file refusal [] (advice_of refusal.kind).0 ++ help_text (advice_of refusal.kind).1

abbrev pub refusal_by : List ℕ → TheRefusal → List (List ℕ) → Option (List ℕ) → List ℕ
refusal_by file refusal lines (Some line) = found_text file lines line refusal
refusal_by file refusal lines None = bare_text file refusal

abbrev pub refusal_in_lines : List ℕ → TheRefusal → Option (List (List ℕ)) → List ℕ
refusal_in_lines file refusal None = bare_text file refusal
refusal_in_lines file refusal (Some lines) = refusal_by file refusal lines (shown_line lines refusal.place)

-- what is written for a refusal of a file
unfoldable pub refusal_text : File → TheRefusal → List ℕ
refusal_text file refusal = refusal_in_lines file.name refusal file.lines

-- what is written where the words are no command: the commands, too
abbrev pub usage_text : List ℕ → List ℕ
usage_text line = plain_text (codes "moxi_cli") line (USAGE.0.now, USAGE.1.now) ++ flat_map (λ command. command.now) COMMANDS

-- what is written for a note
abbrev pub note_text : Note → List ℕ → File → File → List ℕ
note_text (Refused refusal) line model second = refusal_text model refusal
note_text (SecondRefused refusal) line model second = refusal_text second refusal
note_text (No step clause) line model second = plain_text second.name line (clause_advice clause)
note_text Usage line model second = usage_text line
note_text Unread line model second = plain_text (codes "moxi_cli") line (READ_FAULT.0.now, READ_FAULT.1.now)
note_text WriteFault line model second = plain_text (codes "moxi_cli") line (WRITE_FAULT.0.now, WRITE_FAULT.1.now)
note_text NoMemory line model second = plain_text (codes "moxi_cli") line (NO_MEMORY.0.now, NO_MEMORY.1.now)

-- a line that is no note stays as it is, with its line end
abbrev pub line_text : Option Note → List ℕ → List ℕ → File → File → List ℕ
line_text (Some note) line end model second = note_text note line model second
line_text None line end model second = line ++ end

-- what is written for a line of notes with this line end
unfoldable pub explained_line : File → File → List ℕ → List ℕ → List ℕ
explained_line model second line end = line_text (note_of line) line end model second

-- each line but the last has a line end
abbrev pub end_before : List (List ℕ) → List ℕ
end_before [] = []
end_before (next ∷ more) = codes "\n"

-- what is written for the line of this number, counted from 0
abbrev pub line_at_text : File → File → List (List ℕ) → ℕ → List ℕ
line_at_text model second lines number = explained_line model second (get_or lines number []) (end_before (drop (number + 1) lines))

abbrev pub explained_lines : File → File → List (List ℕ) → List ℕ
explained_lines model second [] = []
explained_lines model second (line ∷ more) = explained_line model second line (end_before more) ++ explained_lines model second more

-- what is written for notes
abbrev pub explained : File → File → List ℕ → List ℕ
explained model second notes = explained_lines model second (lines_of notes)

-- a line is a note
abbrev pub is_explained : List (List ℕ) → Bool
is_explained [] = false
is_explained (line ∷ more) = is_some (note_of line) || is_explained more
