use Rattle.std.proofs.Common.{◌≡◌, ◌≤◌, map, length}
use Rattle.smv_text.specs.View.{plain_item}
use Rattle.smv_grammar.specs.Readers.{many}
use Rattle.smv_grammar.specs.Rules.{item_pick}
use Rattle.smv_parse.proofs.Leads.{onto}
use Rattle.smv_parse.proofs.module_sections.items.Given as goal

abbrev pub invariant-loop-alloc : goal.invariant-loop-alloc
invariant-loop-alloc l = record {
  reads : many (item_pick l.kind) l.fn.high l.tokens ≡ onto (map plain_item l.all) (many (item_pick l.kind) l.high l.rest);
  within : length l.rest ≤ length l.tokens;
}

abbrev pub decreases-loop-alloc : goal.decreases-loop-alloc
decreases-loop-alloc l = length l.rest
