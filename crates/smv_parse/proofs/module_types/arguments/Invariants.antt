use Rattle.std.proofs.Common.{◌≡◌, ◌≤◌, map, length}
use Rattle.smv_text.specs.declared.token.Sign.TheVariants as signs
use Rattle.smv_text.specs.View.{plain}
use Rattle.smv_grammar.specs.Readers.{many, expression}
use Rattle.smv_grammar.specs.Rules.{behind, listed}
use Rattle.smv_parse.proofs.Leads.{closed_by, onto}
use Rattle.smv_parse.proofs.module_types.arguments.Given as goal

abbrev pub invariant-loop-more : goal.invariant-loop-more
invariant-loop-more l = record {
  reads : listed expression signs.Close l.fn.high l.tokens ≡ closed_by signs.Close (onto (map plain l.all.items) (many (behind signs.Comma expression) l.high l.rest));
  within : length l.rest ≤ length l.tokens;
}

abbrev pub decreases-loop-more : goal.decreases-loop-more
decreases-loop-more l = length l.rest
