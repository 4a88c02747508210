use Rattle.moxi_trace.proofs.Steps.{end_leaves, end_refuses}
use Rattle.moxi_trace.proofs.reader.Reader.finish.Goals as goal

pub returns-in-Ok : goal.returns-in-Ok
returns-in-Ok c = end_leaves c.args.end c.args.self.now c.on_line.new.self c.on_line.new.self c.end.result c.in-Ok.ensures c.end.ensures

pub returns-in-Err : goal.returns-in-Err
returns-in-Err c = end_refuses (Unit {0}) c.args.end c.args.self.now c.on_line.new.self c.in-Err.end c.in-Err.ensures
