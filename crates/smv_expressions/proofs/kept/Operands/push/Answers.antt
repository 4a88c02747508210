use Rattle.std.proofs.Common.{sym, subst, rules}
use Rattle.smv_text.specs.Heights.{height, link_heights}
use Rattle.smv_text.specs.Tree.{links_of}
use Rattle.smv_expressions.specs.Gathered.{AreHeights}
use Rattle.smv_expressions.proofs.Capping.{link_heights-push}
use Rattle.smv_expressions.proofs.Keeping.{read_low, read_height, one_more_link}
use Rattle.smv_expressions.proofs.kept.Operands.push.Goals as goal

pub returns-clause-made : goal.returns-clause-made
returns-clause-made c t ls u h is = record {
  trees = one_more_link c.args.self.now.links.items c.push.new.self.items c.args.op c.args.operand.expr ls u (search rules) h.trees (read_low c.args.operand u is);
  heights = subst (λ hs. AreHeights (height t) hs c.with-self.result) (sym (link_heights-push ls c.args.op u)) (c.with-self.ensures (height t) (link_heights (links_of ls)) (height u) h.heights (read_height c.args.operand u is));
}
