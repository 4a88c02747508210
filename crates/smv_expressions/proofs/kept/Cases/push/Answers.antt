use Rattle.std.proofs.Common.{arith, rules}
use Rattle.smv_text.specs.Tree.{Tree}
use Rattle.smv_expressions.proofs.Capping.{highest_branch-push, length-push}
use Rattle.smv_expressions.proofs.Keeping.{read_low, read_height, one_more_branch}
use Rattle.smv_expressions.proofs.kept.Cases.push.Goals as goal

pub returns-clause-made : goal.returns-clause-made
returns-clause-made c bs w v h is is' =
    let b : Tree × Tree = (w, v) in
    record {
      trees = one_more_branch c.args.self.now.branches.items c.push.new.self.items c.args.when.expr c.args.value.expr bs w v (search rules) h.trees (read_low c.args.when w is) (read_low c.args.value v is');
      depth = omega (arith, length-push bs b, c.under-self.ensures, h.depth);
      highest = omega (arith, highest_branch-push 0 bs b, c.higher-self.ensures, c.under-height.ensures, c.under-self.ensures, c.higher.ensures, h.highest, h.depth, read_height c.args.when w is, read_height c.args.value v is');
    }
