-- What a line says that `run` notes.
use Rattle.std.specs.Prelude.{◌≡◌, ◌==◌, ◌+◌, ℕ, true, false, nat_le, nat_eq, suc, List, [], ◌∷◌, ◌++◌, length, take, drop, codes, decimal, Option, Some, None, option_map, option_and_then, if◌then◌else◌}
use Rattle.std.specs.List.{starts_with}
use Rattle.std.specs.Str.{bytes_eq}
use Rattle.text_core.specs.Kinds.{kind_name}
use Rattle.text_core.specs.declared.place.Kind.{Kind}
use Rattle.text_core.specs.declared.place.Kind.TheVariants.{S, M, B, X, Y}
use Rattle.text_core.specs.declared.place.Place.{Place}
use Rattle.text_core.specs.declared.place.Refusal.{Refusal}
use Rattle.text_core.specs.declared.verdict.Clause.{Clause}
use Rattle.command_core.specs.Notes.{clause_name, colon_text, column_text, rejected_line, kind_letter, kind_number, refused_line, refused_words, usage_line, write_fault_line}
use Rattle.command_core.specs.Numbers.{invariant_number}
use Rattle.explain_core.specs.declared.notes.Note.{Note}
use Rattle.explain_core.specs.declared.notes.Note.TheVariants.{Refused, SecondRefused, No, Usage, Unread, WriteFault, NoMemory}
use Rattle.explain_core.specs.declared.notes.TheConstants.{CLAUSES}

-- a line, without its line end, is the one that `run` notes
abbrev pub IsNoted : Note → List ℕ → Type 0
IsNoted (Refused refusal) line = refused_line (refused_words false) refusal ≡ line ++ 10 ∷ []
IsNoted (SecondRefused refusal) line = refused_line (refused_words true) refusal ≡ line ++ 10 ∷ []
IsNoted (No step clause) line = rejected_line step clause ≡ line ++ 10 ∷ []
IsNoted Usage line = usage_line ≡ line ++ 10 ∷ []
IsNoted Unread line = starts_with nat_eq line (codes "read fault: ") ≡ true
IsNoted WriteFault line = write_fault_line ≡ line ++ 10 ∷ []
IsNoted NoMemory line = line ≡ codes "no memory"

-- what is behind the words, where the text begins with them
abbrev pub behind : List ℕ → List ℕ → Option (List ℕ)
behind words text = if starts_with nat_eq text words then Some (drop (length words) text) else None

-- where a byte stands first
abbrev pub place_of_byte : ℕ → List ℕ → Option ℕ
place_of_byte wanted [] = None
place_of_byte wanted (b ∷ bs) = if b == wanted then Some 0 else option_map (λ k. suc k) (place_of_byte wanted bs)

-- a kind that has a name
abbrev pub named : Kind → Option Kind
named kind = if length (kind_name kind) == 0 then None else Some kind

abbrev pub kind_of : ℕ → ℕ → Option Kind
kind_of letter number =
    if letter == 83 then named (S number)
    else (if letter == 77 then named (M number)
    else (if letter == 66 then named (B number)
    else (if letter == 88 then named (X number)
    else (if letter == 89 then named (Y number) else None))))

-- the kind of a letter with a number behind it
abbrev pub kind_in : List ℕ → Option Kind
kind_in [] = None
kind_in (letter ∷ digits) = option_and_then (λ number. if nat_le number 255 then kind_of letter number else None) (invariant_number digits)

-- a number that counts from 1
abbrev pub positive : ℕ → Option ℕ
positive number = if nat_le 1 number then Some number else None

abbrev pub counted : List ℕ → Option ℕ
counted digits = option_and_then positive (invariant_number digits)

abbrev pub place_with : ℕ → ℕ → Place
place_with line column = record { line = line; column = column; offset = 0 }

-- the place that is written as a line, or as a line and a column
abbrev pub place_split : List ℕ → Option ℕ → Option Place
place_split words None = option_map (λ line. place_with line 1) (counted words)
place_split words (Some end) = option_and_then (λ line. option_map (λ column. place_with line column) (counted (drop (end + 1) words))) (counted (take end words))

abbrev pub place_in : List ℕ → Option Place
place_in words = place_split words (place_of_byte 58 words)

-- a refusal behind the words that begin its line
abbrev pub refusal_words : Refusal → List ℕ
refusal_words refusal =
    kind_letter refusal.kind ++ (decimal (kind_number refusal.kind) ++ (codes " " ++ (kind_name refusal.kind ++ (codes " at "
    ++ (decimal refusal.place.line ++ (colon_text refusal.kind ++ column_text refusal.kind (decimal refusal.place.column)))))))

abbrev pub noted_refusal : Refusal → List ℕ → Option Refusal
noted_refusal refusal rest = if bytes_eq rest (refusal_words refusal) then Some refusal else None

abbrev pub refusal_with : Kind → Place → Refusal
refusal_with kind place = record { kind = kind; place = place }

-- the refusal of the kind, whose number ends at this byte; a blank, the name and ` at ` are before the place
abbrev pub refusal_at : Kind → ℕ → List ℕ → Option Refusal
refusal_at kind end rest =
    option_and_then (λ place. noted_refusal (refusal_with kind place) rest) (place_in (drop (length (kind_name kind) + 5) (drop end rest)))

-- the refusal that is written so: its kind is before the first blank
abbrev pub refusal_in : List ℕ → Option Refusal
refusal_in rest = option_and_then (λ end. option_and_then (λ kind. refusal_at kind end rest) (kind_in (take end rest))) (place_of_byte 32 rest)

-- the first of these clauses that has the name
abbrev pub clause_named : List ℕ → List Clause → Option Clause
clause_named name [] = None
clause_named name (clause ∷ clauses) = if bytes_eq name (clause_name clause) then Some clause else clause_named name clauses

-- a step and a clause behind the words that begin their line
abbrev pub denial_words : ℕ → Clause → List ℕ
denial_words step clause = decimal step ++ (codes ": " ++ clause_name clause)

abbrev pub noted_denial : ℕ → Clause → List ℕ → Option (ℕ × Clause)
noted_denial step clause rest = if bytes_eq rest (denial_words step clause) then Some (step, clause) else None

abbrev pub denial_at : ℕ → List ℕ → ℕ → Option (ℕ × Clause)
denial_at end rest step =
    option_and_then (λ name. option_and_then (λ clause. noted_denial step clause rest) (clause_named name CLAUSES)) (behind (codes ": ") (drop end rest))

-- the step before the first colon, and the clause that is named behind it
abbrev pub denial_in : List ℕ → Option (ℕ × Clause)
denial_in rest = option_and_then (λ end. option_and_then (denial_at end rest) (invariant_number (take end rest))) (place_of_byte 58 rest)

-- a note without a number
abbrev pub plain_note : List ℕ → Option Note
plain_note line =
    if bytes_eq line (codes "usage: moxi_cli COMMAND MODEL [SECOND] [--property J]") then Some Usage
    else (if starts_with nat_eq line (codes "read fault: ") then Some Unread
    else (if bytes_eq line (codes "write fault") then Some WriteFault
    else (if bytes_eq line (codes "no memory") then Some NoMemory else None)))

abbrev pub rejected_note : List ℕ → Option (List ℕ) → Option Note
rejected_note line (Some rest) = option_map (λ denial. No denial.0 denial.1) (denial_in rest)
rejected_note line None = plain_note line

abbrev pub second_note : List ℕ → Option (List ℕ) → Option Note
second_note line (Some rest) = option_map (λ refusal. SecondRefused refusal) (refusal_in rest)
second_note line None = rejected_note line (behind (codes "no: step ") line)

abbrev pub first_note : List ℕ → Option (List ℕ) → Option Note
first_note line (Some rest) = option_map (λ refusal. Refused refusal) (refusal_in rest)
first_note line None = second_note line (behind (codes "second refused: ") line)

-- the note that a line is, without its line end
unfoldable pub note_of : List ℕ → Option Note
note_of line = first_note line (behind (codes "refused: ") line)
