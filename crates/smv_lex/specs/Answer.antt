-- What lexing answers.
use Rattle.std.specs.Prelude.{◌≡◌, ◌⊎◌, ℕ, List, Result, Ok, Err}
use Rattle.text_core.specs.declared.end.End.{End}
use Rattle.text_core.specs.declared.end.End.TheVariants.{Bad, NoMemory}
use Rattle.text_core.specs.declared.place.Refusal.{Refusal}
use Rattle.smv_text.specs.declared.token.Token.{Token}
use Rattle.smv_text.specs.Lexing.{TokenList, Lexes, IsLexRefusal}

-- the refusal of a text: of the first byte at which it goes on no more in gaps and tokens
abbrev pub lex_refusal : List ℕ → Refusal → Type 0
lex_refusal = IsLexRefusal

-- these tokens, or out of memory
abbrev pub Reads : List Token → Result TokenList End → Type 0
Reads ts (Ok tokens) = tokens.items ≡ ts
Reads ts (Err (Bad why)) = ⊥
Reads ts (Err NoMemory) = Unit {0}

-- this refusal, or out of memory
abbrev pub Stops : Refusal → Result TokenList End → Type 0
Stops why (Ok tokens) = ⊥
Stops why (Err (Bad other)) = other ≡ why
Stops why (Err NoMemory) = Unit {0}

-- the refusal of the text, or out of memory
abbrev pub IsRefused : List ℕ → End → Type 0
IsRefused text (Bad why) = IsLexRefusal text why
IsRefused text NoMemory = Unit {0}

-- the text has tokens or a refusal
abbrev pub IsAnswered : List ℕ → Type 0
IsAnswered text = ((ts : List Token) × Lexes text ts) ⊎ ((why : Refusal) × IsLexRefusal text why)
