use Rattle.std.proofs.Common.{◌≡◌, ◌≤◌, Option, length}
use Rattle.text_core.specs.declared.place.Place.{Place}
use Rattle.smv_text.specs.declared.token.Sign.TheVariants as signs
use Rattle.smv_grammar.specs.Readers.{many}
use Rattle.smv_grammar.specs.Rules.{behind, listed, symbol}
use Rattle.smv_parse.proofs.Leads.{closed_by, onto}
use Rattle.smv_parse.proofs.module_types.symbols.Given as goal

abbrev pub invariant-loop-more : goal.invariant-loop-more
invariant-loop-more l = record {
  reads : (h : Option Place) → listed symbol signs.Semicolon h l.tokens ≡ closed_by signs.Semicolon (onto l.all (many (behind signs.Comma symbol) h l.rest));
  within : length l.rest ≤ length l.tokens;
}

abbrev pub decreases-loop-more : goal.decreases-loop-more
decreases-loop-more l = length l.rest
