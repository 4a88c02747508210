use Rattle.std.proofs.Common.{◌≡◌, length, arith}
use Rattle.btor_tree.proofs.SortTable.{Keeps, keeps_both}
use Rattle.btor_tree.proofs.builder.Builder.push.Goals as goal

keeps : (c : goal.After-put_line) → Keeps c.put_line.new.lines.items c.self.inside.sorts
keeps c =
    let a = c.args in
    let i = c.self.invariant in
    let long : c.len-place.result ≡ length c.self.inside.lines.items = omega (arith, c.len-place.ensures, c.self.inside.lines.ok) in
    keeps_both c.put_line.result a.self.now c.self.inside.lines.items c.put_line.new.lines.items c.self.inside.sorts a.op a.sort a.args a.symbol c.len-place.result c.self.view_is long (i.0, i.1, i.2, i.4) c.requires.room c.requires.fits c.put_line.ensures.put c.put_line.ensures.refused

pub invariant_of-self : goal.invariant_of-self
invariant_of-self c =
    let k = keeps c in
    (k.0, k.1, k.2, c.put_line.ensures.has, k.3)

pub returns-clause-well_formed : goal.returns-clause-well_formed
returns-clause-well_formed c = (keeps c).0

pub returns-clause-numbered : goal.returns-clause-numbered
returns-clause-numbered c = (keeps c).1

pub returns-clause-distinct : goal.returns-clause-distinct
returns-clause-distinct c = (keeps c).2
