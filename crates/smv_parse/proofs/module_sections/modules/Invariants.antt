use Rattle.std.proofs.Common.{◌≡◌, ◌≤◌, map, length}
use Rattle.smv_text.specs.View.{plain_module}
use Rattle.smv_grammar.specs.Readers.{many}
use Rattle.smv_grammar.specs.Rules.{module_pick}
use Rattle.smv_parse.proofs.Leads.{onto}
use Rattle.smv_parse.proofs.module_sections.modules.Given as goal

abbrev pub invariant-loop-more : goal.invariant-loop-more
invariant-loop-more l = record {
  reads : many module_pick l.fn.high l.tokens ≡ onto (map plain_module l.all) (many module_pick l.high l.rest);
  within : length l.rest ≤ length l.tokens;
}

abbrev pub decreases-loop-more : goal.decreases-loop-more
decreases-loop-more l = length l.rest
