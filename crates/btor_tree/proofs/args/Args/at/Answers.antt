use Rattle.std.proofs.Common.{◌≡◌, ◌<◌, length, slice_index_or, sym, subst, arith}
use Rattle.btor_tree.proofs.Slots.{second_at}
use Rattle.btor_tree.proofs.args.Args.at.Goals as goal

pub returns-then-i-eq1 : goal.returns-then-i-eq1
returns-then-i-eq1 c =
    let a = c.self.inside in
    subst (λ xs. a.second ≡ slice_index_or xs c.args.i a.second) c.self.view_is
    (second_at a.count c.args.i a.first a.second a.third (omega (arith, c.if-i-eq1.true)) (subst (λ xs. c.args.i < length xs) (sym c.self.view_is) c.requires))
