use Rattle.std.proofs.Common.{◌≡◌, [], Some, ap, ◌∙◌}
use Rattle.btor_tree.specs.declared.lines.LineOp.TheVariants as op
use Rattle.btor_tree.specs.Sharing.{place_of_equal}
use Rattle.btor_tree.proofs.SortTable.{knows_set}
use Rattle.btor_tree.proofs.builder.Builder.remember.Goals as goal

pub invariant_of-self : goal.invariant_of-self
invariant_of-self c =
    let i = c.self.invariant in
    let there : place_of_equal c.self.inside.lines.items (op.Sort c.args.width) 0 [] ≡ Some c.args.place = ap (λ ls. place_of_equal ls (op.Sort c.args.width) 0 []) c.self.view_is ∙ c.requires.there in
    (i.0, i.1, i.2, i.3, knows_set c.self.inside.lines.items c.self.inside.sorts c.args.width c.args.place c.requires.least c.requires.most there i.4)
