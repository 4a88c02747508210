use Rattle.std.proofs.Common.{ℕ, false, [], ap, sym, ◌∙◌, arith, if◌then◌else◌}
use Rattle.btor_frames.proofs.Loop.{giving, taken_here, made_here, not_input, not_state}
use Rattle.btor_frames.proofs.fill.put_word.Goals as goal

pub returns-then-is_given-clause-word : goal.returns-then-is_given-clause-word
returns-then-is_given-clause-word c =
    taken_here c.args.nodes.now c.args.spare.now c.set.new.self c.args.i (giving false c.args.nodes.now [] c.args.supplied.now.inputs.now c.args.supplied.now.free.now) c.args.line.now c.given_word-word.result c.requires.line_is (sym c.is_given.ensures ∙ c.if-is_given.true) c.given_word-word.ensures c.set.ensures

pub returns-else-is_given-clause-word : goal.returns-else-is_given-clause-word
returns-else-is_given-clause-word c =
    made_here c.args.nodes.now c.args.spare.now c.put_computed.new.spare c.args.i (giving false c.args.nodes.now [] c.args.supplied.now.inputs.now c.args.supplied.now.free.now) c.args.line.now c.requires.line_is (sym c.is_given.ensures ∙ c.if-is_given.false) c.put_computed.ensures

pub returns-else-is_given-clause-next_input : goal.returns-else-is_given-clause-next_input
returns-else-is_given-clause-next_input c =
    let none = ap {B = ℕ} (λ b. if b then 1 else 0) (not_input c.args.line.now.op (sym c.is_given.ensures ∙ c.if-is_given.false)) in omega (arith, none)

pub returns-else-is_given-clause-next_state : goal.returns-else-is_given-clause-next_state
returns-else-is_given-clause-next_state c =
    let none = ap {B = ℕ} (λ b. if b then 1 else 0) (not_state c.args.line.now.op (sym c.is_given.ensures ∙ c.if-is_given.false)) in omega (arith, none)
