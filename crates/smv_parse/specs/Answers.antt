-- What the functions of the parser of models answer, told by the readers.
use Rattle.std.specs.Prelude.{◌≡◌, Bool, true, false, Option, Result, Ok, Err, List, [], ◌∷◌}
use Rattle.text_core.specs.declared.place.Place.{Place}
use Rattle.smv_text.specs.declared.token.Reserved.TheVariants as words
use Rattle.smv_text.specs.declared.token.Token.{Token}
use Rattle.smv_text.specs.declared.token.TokenKind.{TokenKind}
use Rattle.smv_text.specs.declared.token.TokenKind.TheVariants as kind
use Rattle.smv_expressions.specs.declared.stop.Stop.{Stop}
use Rattle.smv_expressions.specs.declared.stop.Stop.TheVariants.{Dead, NoMemory}
use Rattle.smv_grammar.specs.Readers.{Reading, found, died}

-- the reader dies where the function does
abbrev pub Loses : {A : Type 0} → Reading A → Stop → Type 0
Loses o (Dead n) = o ≡ died n
Loses o NoMemory = Unit {0}

-- the reader finds what the function does
abbrev pub Gives : {A Y : Type 0} → (Y → A × Option Place × List Token) → Reading A → Result Y Stop → Type 0
Gives view o (Ok y) = o ≡ found (view y).0 (view y).1 (view y).2
Gives view o (Err e) = Loses o e

-- the first token passes
abbrev pub first_is : (TokenKind → Bool) → List Token → Bool
first_is test [] = false
first_is test (x ∷ xs) = test x.kind

abbrev pub is_name : TokenKind → Bool
is_name (kind.Ident n) = true
is_name _ = false

-- it begins the left side of an assignment
abbrev pub begins_target : TokenKind → Bool
begins_target (kind.Ident n) = true
begins_target (kind.Reserved words.Itself) = true
begins_target (kind.Reserved words.Initial) = true
begins_target (kind.Reserved words.Next) = true
begins_target _ = false

-- it begins a section
abbrev pub begins_section : TokenKind → Bool
begins_section (kind.Reserved words.Var) = true
begins_section (kind.Reserved words.Ivar) = true
begins_section (kind.Reserved words.Frozenvar) = true
begins_section (kind.Reserved words.Define) = true
begins_section (kind.Reserved words.Constants) = true
begins_section (kind.Reserved words.Assign) = true
begins_section (kind.Reserved words.Init) = true
begins_section (kind.Reserved words.Trans) = true
begins_section (kind.Reserved words.Invar) = true
begins_section (kind.Reserved words.Invarspec) = true
begins_section _ = false
