-- The names of the kinds of refusal.
use Rattle.std.specs.Prelude.{◌-◌, ◌==◌, ℕ, List, [], ◌∷◌, if◌then◌else◌, codes, get_or}
use Rattle.text_core.specs.declared.place.Kind.{Kind}
use Rattle.text_core.specs.declared.place.Kind.TheVariants.{S, M, B, X, Y}

-- the names of the kinds of an SMV model, from 1 on
abbrev pub smv_names : List (List ℕ)
smv_names =
    codes "TooLong" ∷
    codes "BadByte" ∷
    codes "BadNumber" ∷
    codes "TooNested" ∷
    codes "Dead" ∷
    codes "NotSupported" ∷
    codes "TooTall" ∷
    codes "NoMain" ∷
    codes "ModuleTwice" ∷
    codes "NameTwice" ∷
    codes "NoSuchModule" ∷
    codes "ModuleCycle" ∷
    codes "ArgCount" ∷
    codes "Unknown" ∷
    codes "DefineCycle" ∷
    codes "TypeClash" ∷
    codes "IntTooWide" ∷
    codes "InputHere" ∷
    codes "NextHere" ∷
    codes "SetHere" ∷
    codes "AssignedTwice" ∷
    codes "NotAssignable" ∷
    codes "BadDivisor" ∷
    codes "BadShift" ∷
    codes "BadSelect" ∷
    codes "EmptyRange" ∷
    codes "NoInvarspec" ∷
    codes "TooLarge" ∷ []

-- the names of the kinds of a MoXI script, from 1 on
abbrev pub moxi_names : List (List ℕ)
moxi_names =
    codes "BadByte" ∷
    codes "Unclosed" ∷
    codes "TooNested" ∷
    codes "Unknown" ∷
    codes "SortClash" ∷
    codes "NotSupported" ∷
    codes "PrimeHere" ∷
    codes "Width" ∷
    codes "NameTwice" ∷
    codes "NoSuchSystem" ∷
    codes "SystemCycle" ∷
    codes "Arity" ∷
    codes "CheckCount" ∷
    codes "QueryForm" ∷
    codes "TooLarge" ∷
    codes "TooLong" ∷ []

-- the names of the kinds of a BTOR2 text, from 1 on
abbrev pub btor_names : List (List ℕ)
btor_names =
    codes "Line" ∷
    codes "IdOrder" ∷
    codes "NoSuchNode" ∷
    codes "SortClash" ∷
    codes "NotSupported" ∷
    codes "Width" ∷
    codes "Twice" ∷
    codes "InitLate" ∷
    codes "TooLong" ∷ []

-- the names of the kinds of a witness, from 1 on
abbrev pub witness_names : List (List ℕ)
witness_names =
    codes "Line" ∷
    codes "NoBad" ∷
    codes "FrameOrder" ∷
    codes "Index" ∷
    codes "Width" ∷
    codes "Unended" ∷
    codes "Justice" ∷
    codes "TooLong" ∷ []

-- the names of the kinds of a trace or a response, from 1 on
abbrev pub trace_names : List (List ℕ)
trace_names =
    codes "Line" ∷
    codes "Unknown" ∷
    codes "Value" ∷
    codes "Missing" ∷
    codes "TooLong" ∷ []

-- the name of a number, counted from 1, and none where there is no such number
abbrev pub name_at : ℕ → List (List ℕ) → List ℕ
name_at n names = if n == 0 then [] else get_or names (n - 1) []

-- the name that is behind a kind in a note
abbrev pub kind_name : Kind → List ℕ
kind_name (S n) = name_at n smv_names
kind_name (M n) = name_at n moxi_names
kind_name (B n) = name_at n btor_names
kind_name (X n) = name_at n witness_names
kind_name (Y n) = name_at n trace_names
