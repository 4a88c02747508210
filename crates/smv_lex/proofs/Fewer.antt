-- A text has no more tokens than bytes.
use Rattle.std.proofs.Common.{ℕ, ◌+◌, ◌≤◌, ◌<◌, Result, Ok, Err, List, [], ◌∷◌, ◌++◌, length, arith}
use Rattle.std.proofs.lemmas.List.{length-append}
use Rattle.std.specs.Prelude.{IfOk}
use Rattle.text_core.specs.declared.end.End.{End}
use Rattle.text_core.specs.declared.place.Place.{Place}
use Rattle.smv_text.specs.declared.token.Token.{Token}
use Rattle.smv_text.specs.Lexing.{TokenList, Steps, ends, token, stray, misspelled, too_nested, Next, finished, go, bad, LexesFrom, last, more, Lexes}
use Rattle.smv_lex.proofs.Laws.{lexeme_there}

Shorter : List ℕ → Next → Type 0
Shorter text (go t next rest) = length rest < length text
Shorter text finished = Unit {0}
Shorter text (bad why) = Unit {0}

step_shorter : {n : ℕ} {at : Place} {text : List ℕ} {x : Next} → Steps n at text x → Shorter text x
unfolding Shorter
step_shorter (ends at gap g) = tt
step_shorter (token at gap lexeme rest kind g l k few) = omega (arith, length-append gap (lexeme ++ rest), length-append lexeme rest, lexeme_there lexeme rest l.fits)
step_shorter (stray at gap rest g some none) = tt
step_shorter (misspelled at gap lexeme rest g l k) = tt
step_shorter (too_nested at gap lexeme rest kind g l k many) = tt

lexed_few : {before all : List Token} {at : Place} {text : List ℕ} → LexesFrom before at text all → length all ≤ length before + length text
unfolding Shorter
lexed_few (last s) = omega arith
lexed_few {before = before} (more t next rest s l) = omega (arith, lexed_few l, length-append before (t ∷ []), step_shorter s)

pub few_from : (text : List ℕ) (r : Result TokenList End) → IfOk r (λ tokens. Lexes text tokens.items) → IfOk r (λ tokens. length tokens.items ≤ length text)
few_from text (Ok tokens) l = omega (arith, lexed_few l)
few_from text (Err e) l = tt
