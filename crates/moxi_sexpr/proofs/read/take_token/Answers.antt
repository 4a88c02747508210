use Rattle.std.proofs.Common.{map, sym, subst}
use Rattle.moxi_sexpr.specs.Tree.{plain}
use Rattle.moxi_sexpr.specs.Machine.{turn_of, open_lists}
use Rattle.moxi_sexpr.specs.Answer.{Turns}
use Rattle.moxi_sexpr.proofs.Scanning.{atom_token}
use Rattle.moxi_sexpr.proofs.read.take_token.Goals as goal

pub returns : goal.returns
returns c =
    let k = open_lists c.args.stack.now.items in
    subst (λ o. Turns (turn_of c.args.place o k (map plain c.args.done.now.items)) c.take_atom.result k (map plain c.take_atom.new.done.items))
    (sym (atom_token c.args.text.now c.in-Some.b.now c.in-Some.rest.now c.in-Some.ensures.cases.0 c.if-b-eq40.false c.if-b-eq41.false)) (c.take_atom.ensures k)
