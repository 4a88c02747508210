-- The lines that are noted and written.
use Rattle.std.specs.Prelude.{ℕ, Bool, true, false, List, [], ◌++◌, codes, decimal}
use Rattle.std.specs.Borrow.{Bor}
use Rattle.std.specs.List.{flat_map}
use Rattle.text_core.specs.declared.place.Kind.{Kind}
use Rattle.text_core.specs.declared.place.Kind.TheVariants.{S, M, B, X, Y}
use Rattle.text_core.specs.declared.place.Refusal.{Refusal}
use Rattle.text_core.specs.Kinds.{kind_name}
use Rattle.text_core.specs.declared.verdict.Clause.{Clause}
use Rattle.text_core.specs.declared.verdict.Clause.TheVariants.{ValueOutside, InitFails, TransFails, InvarFails, AssumptionFails, CurrentFails, StateDiffers, ConstraintFails, NotBroken}

-- the letter of a kind
abbrev pub kind_letter : Kind → List ℕ
kind_letter (S n) = codes "S"
kind_letter (M n) = codes "M"
kind_letter (B n) = codes "B"
kind_letter (X n) = codes "X"
kind_letter (Y n) = codes "Y"

abbrev pub kind_number : Kind → ℕ
kind_number (S n) = n
kind_number (M n) = n
kind_number (B n) = n
kind_number (X n) = n
kind_number (Y n) = n

-- what is between the line and the column of a place, for kinds whose texts have places within a line
abbrev pub colon_text : Kind → List ℕ
colon_text (S n) = codes ":"
colon_text (M n) = codes ":"
colon_text (B n) = []
colon_text (X n) = []
colon_text (Y n) = []

-- the column's digits, for those kinds
abbrev pub column_text : Kind → List ℕ → List ℕ
column_text (S n) digits = digits
column_text (M n) digits = digits
column_text (B n) digits = []
column_text (X n) digits = []
column_text (Y n) digits = []

abbrev pub clause_name : Clause → List ℕ
clause_name ValueOutside = codes "ValueOutside"
clause_name InitFails = codes "InitFails"
clause_name TransFails = codes "TransFails"
clause_name InvarFails = codes "InvarFails"
clause_name AssumptionFails = codes "AssumptionFails"
clause_name CurrentFails = codes "CurrentFails"
clause_name StateDiffers = codes "StateDiffers"
clause_name ConstraintFails = codes "ConstraintFails"
clause_name NotBroken = codes "NotBroken"

-- pieces one after another
abbrev pub joined : List (Bor (List ℕ)) → List ℕ
joined = flat_map (λ piece. piece.now)

abbrev pub usage_line : List ℕ
usage_line = codes "usage: moxi_cli COMMAND MODEL [SECOND] [--property J]\n"

abbrev pub write_fault_line : List ℕ
write_fault_line = codes "write fault\n"

abbrev pub no_memory_line : List ℕ
no_memory_line = codes "no memory\n"

abbrev pub unread_line : List ℕ → List ℕ
unread_line name = codes "read fault: " ++ (name ++ codes "\n")

-- what is before a refusal of the model, or of the second file
abbrev pub refused_words : Bool → List ℕ
refused_words false = codes "refused: "
refused_words true = codes "second refused: "

-- where a refusal stands: its line, and its column where places are within a line
abbrev pub place_text : Refusal → List ℕ
place_text refusal = decimal refusal.place.line ++ (colon_text refusal.kind ++ (column_text refusal.kind (decimal refusal.place.column) ++ codes "\n"))

-- a refusal behind these words
abbrev pub refused_line : List ℕ → Refusal → List ℕ
refused_line words refusal =
    words ++ (kind_letter refusal.kind ++ (decimal (kind_number refusal.kind) ++ (codes " " ++ (kind_name refusal.kind ++ (codes " at " ++ place_text refusal)))))

abbrev pub rejected_line : ℕ → Clause → List ℕ
rejected_line step clause = codes "no: step " ++ (decimal step ++ (codes ": " ++ (clause_name clause ++ codes "\n")))

-- what is written for what is accepted: what it is of, behind these words, and its last step
abbrev pub accepted_line : List ℕ → List ℕ → ℕ → List ℕ
accepted_line words name step = words ++ (name ++ (codes " at step " ++ (decimal step ++ codes "\n")))
