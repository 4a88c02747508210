-- The text of an explanation.
use Rattle.std.specs.Prelude.{◌==◌, ◌-◌, ℕ, List, [], ◌++◌, length, map, take, drop, min, replicate, codes, decimal, Option, Some, None, if◌then◌else◌}
use Rattle.text_core.specs.Kinds.{kind_name}
use Rattle.text_core.specs.declared.place.Refusal.{Refusal}
use Rattle.command_core.specs.Notes.{colon_text, column_text, kind_letter, kind_number}
use Rattle.explain_core.specs.Near.{Near}
use Rattle.explain_core.specs.Lines.{window_start, window_end}

-- words, where the piece behind them has bytes
abbrev pub before_some : List ℕ → List ℕ → List ℕ
before_some words piece = if length piece == 0 then [] else words

-- the place, and the kind with its name
abbrev pub label_text : Refusal → List ℕ
label_text refusal =
    codes ":" ++ (decimal refusal.place.line ++ (colon_text refusal.kind ++ (column_text refusal.kind (decimal refusal.place.column)
    ++ (codes ": error: " ++ (kind_letter refusal.kind ++ (decimal (kind_number refusal.kind) ++ (codes " " ++ kind_name refusal.kind)))))))

-- the file and the place as editors know them, and the kind with its name
abbrev pub place_text : List ℕ → Refusal → List ℕ
place_text file refusal = file ++ label_text refusal

-- the token, where there is one, and the cause
abbrev pub cause_text : List ℕ → List ℕ → List ℕ
cause_text token cause = codes ": " ++ (before_some (codes "`") token ++ (token ++ (before_some (codes "`: ") token ++ (cause ++ codes "\n"))))

-- the first line of what is said of a refusal
abbrev pub header_text : List ℕ → Refusal → List ℕ → List ℕ → List ℕ
header_text file refusal token cause = place_text file refusal ++ cause_text token cause

-- what is said of a note without a place: the file, the note itself, the cause and the mend
abbrev pub plain_text : List ℕ → List ℕ → List ℕ × List ℕ → List ℕ
plain_text file line advice =
    file ++ (codes ": error: " ++ (line ++ (codes ": " ++ (advice.0 ++ (codes "\nhelp: " ++ (advice.1 ++ codes "\n"))))))

-- a tab for a tab, and a blank for any other byte
abbrev pub blank_of : ℕ → ℕ
blank_of b = if b == 9 then 9 else 32

-- a part of a line, with dots where the line begins before it or ends behind it
abbrev pub shown_text : List ℕ → ℕ → ℕ → List ℕ
shown_text line start end =
    (if start == 0 then codes "    " else codes "... ") ++ (take (end - start) (drop start line) ++ ((if end == length line then [] else codes " ...") ++ codes "\n"))

-- the line below it: a blank or a tab for each byte before the place, the caret, and what is marked further
abbrev pub caret_text : List ℕ → ℕ → List ℕ
caret_text front more = codes "    " ++ (map blank_of front ++ (codes "^" ++ (replicate more 126 ++ codes "\n")))

-- how many of the token's bytes are marked behind the caret
abbrev pub marks_of : ℕ → ℕ → ℕ → ℕ
marks_of length at marked = min (min (marked - 1) (window_end length at - at)) 120

-- the excerpt of a place: the part of its line around it, and the caret below, where so many bytes are marked
abbrev pub excerpt_text : List ℕ → ℕ → ℕ → List ℕ
excerpt_text line at marked =
    shown_text line (window_start (length line) at) (window_end (length line) at)
    ++ (if marked == 0 then [] else caret_text (take (at - window_start (length line) at) (drop (window_start (length line) at) line)) (marks_of (length line) at marked))

-- words on a token with its place
abbrev pub token_text : List ℕ → List ℕ → ℕ → ℕ → List ℕ
token_text words token line column =
    codes "note: " ++ (words ++ (codes "`" ++ (token ++ (codes "` at " ++ (decimal line ++ (codes ":" ++ (decimal column ++ codes ".\n")))))))

-- what stands near the place, where there is something
abbrev pub near_text : Option Near → List ℕ
near_text None = []
near_text (Some near) = token_text near.words near.token near.line near.column

-- the mend
abbrev pub help_text : List ℕ → List ℕ
help_text remedy = codes "help: " ++ (remedy ++ codes "\n")
