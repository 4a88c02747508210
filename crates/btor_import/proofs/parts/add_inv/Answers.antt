use Rattle.btor_import.proofs.Widths.{operand_of, sort_of_local}
use Rattle.btor_import.proofs.parts.add_inv.Goals as goal
use Rattle.std.proofs.Common.{sym, ◌∙◌}

pub equation-requires : goal.equation-requires
equation-requires c = record {
  sort = sort_of_local c.args.nodes.now c.requires.well_formed c.args.place c.args.line.now c.requires.there (sym c.is_local.ensures ∙ c.if-is_local.true);
  operand = operand_of c.args.nodes.now c.requires.well_formed c.args.place c.args.line.now c.requires.there;
}
