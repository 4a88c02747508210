use Rattle.smv_trace.proofs.Numbered.{kept_none}
use Rattle.smv_trace.proofs.reader.Reader.new.Goals as goal

pub invariant_of-result : goal.invariant_of-result
invariant_of-result c = kept_none c.args.table.now.items c.in_ok-known.known.items c.new.result c.new-2.result c.in_ok-known.ensures c.new.ensures c.new-2.ensures
