use Rattle.std.proofs.Common.{ap, arith}
use Rattle.std.specs.Prelude.{length}
use Rattle.std.proofs.lemmas.List.{length-append}
use Rattle.moxi_sexpr.specs.Tree.{plain_forms}
use Rattle.moxi_scripts.specs.Lists.{possible_entries}
use Rattle.moxi_attributes.proofs.possible.possible_locals.Goals as goal

pub locals_among-requires : goal.locals_among-requires
locals_among-requires c =
    let a = c.args in
    omega (arith, ap length c.in_ok-add_possible.ensures, length-append a.text.now (possible_entries a.scope.now a.shaped (plain_forms a.forms.now)), c.requires.text)

pub locals_found-locals-requires : goal.locals_found-locals-requires
locals_found-locals-requires c =
    let a = c.args in
    omega (arith, ap length c.in_ok-add_possible-2.ensures, length-append a.all.now (possible_entries a.scope.now a.shaped (plain_forms a.forms.now)), c.requires.all)
