use Rattle.moxi_trace.proofs.Steps.{step_leaves, step_refuses}
use Rattle.moxi_trace.proofs.reader.Reader.take.Goals as goal

pub returns-in-Ok : goal.returns-in-Ok
returns-in-Ok c =
    step_leaves c.args.table.now c.args.shape c.args.bytes.now c.args.at c.args.self.now c.on_line.new.self c.token_step.new.self c.token_step.result c.in-Ok.ensures c.token_step.ensures

pub returns-in-Err : goal.returns-in-Err
returns-in-Err c = step_refuses (Unit {0}) c.args.table.now c.args.shape c.args.bytes.now c.args.at c.args.self.now c.on_line.new.self c.in-Err.end c.in-Err.ensures
