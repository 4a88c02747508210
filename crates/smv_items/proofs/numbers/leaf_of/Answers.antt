use Rattle.std.proofs.Common.{map, sym, ap, ◌∙◌}
use Rattle.smv_text.specs.View.{plain, plain_domain}
use Rattle.smv_meaning.specs.Names.{dotted_at}
use Rattle.smv_instances.specs.View.{instance_plain, found_plain}
use Rattle.smv_items.proofs.NumberLemmas.{variable_leaf, body_leaf}
use Rattle.smv_items.proofs.numbers.leaf_of.Goals as goal

pub returns-in_ok-number-in-Variable : goal.returns-in_ok-number-in-Variable
returns-in_ok-number-in-Variable c =
    let t = map instance_plain c.args.table.now in
    c.item.ensures
    ∙ variable_leaf t c.args.numbers.now.paths c.requires.numbers.paths c.in-Variable.kind (dotted_at t c.in-Variable.j c.in-Variable.x.now) (plain_domain c.in-Variable.field-3.now) c.in_ok-number-in-Variable.number
    (found_plain t c.args.target) (ap (found_plain t) (sym c.in-Variable.is)) c.in_ok-number-in-Variable.ensures

pub returns-in-Body : goal.returns-in-Body
returns-in-Body c =
    let t = map instance_plain c.args.table.now in
    c.item-in-Body.ensures
    ∙ body_leaf t c.args.numbers.now.bodies c.requires.numbers.bodies c.in-Body.j c.in-Body.x.now c.in-Body.field-2 (plain c.in-Body.field-3.now) c.row_value_in.result (found_plain t c.args.target)
    (ap (found_plain t) (sym c.in-Body.is)) c.row_value_in.ensures
