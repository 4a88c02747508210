use Rattle.std.proofs.Common.{◌≡◌, ◌≤◌, List, length}
use Rattle.text_core.specs.declared.place.Refusal.{Refusal}
use Rattle.smv_text.specs.declared.token.Token.{Token}
use Rattle.text_core.specs.Places.{Reaches, after, start}
use Rattle.smv_text.specs.Lexing.{LexesFrom, Lexes, Refuses, IsLexRefusal, opened, most_brackets}
use Rattle.smv_lex.proofs.lexing.tokens_of.Given as goal

abbrev pub invariant-tokens : goal.invariant-tokens
invariant-tokens l = record {
  lexes : (all : List Token) → LexesFrom l.tokens.items l.place l.rest all → Lexes l.text all;
  refuses : (why : Refusal) → Refuses l.tokens.items l.place l.rest why → IsLexRefusal l.text why;
  end_is : after l.place l.rest ≡ after start l.text;
  reaches : Reaches l.place (length l.rest);
  counted : l.opened ≡ opened l.tokens.items;
  few : l.opened ≤ most_brackets;
}

abbrev pub decreases-tokens : goal.decreases-tokens
decreases-tokens l = length l.rest
