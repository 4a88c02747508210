use Rattle.std.proofs.Common.{◌<◌, ◌^◌, IfSome, Option, sym, subst}
use Rattle.moxi_sexpr.specs.Tree.{Tree, nodes, plain_forms}
use Rattle.moxi_scripts.specs.declared.parts.Command.TheVariants.{System}
use Rattle.moxi_scripts.specs.declared.parts.Key.TheVariants.{Init, Inv, Trans}
use Rattle.moxi_scripts.specs.declared.parts.Turn.TheVariants.{AtKeyword}
use Rattle.moxi_attributes.specs.laws.FormSizes.{value_less}
use Rattle.moxi_declarations.proofs.systems.read_formulas.Goals as goal

abbrev IsSmall : Option Tree → Type 0
IsSmall o = IfSome o (λ t. nodes t < 2 ^ 32)

pub read_formula-requires : goal.read_formula-requires
read_formula-requires c = record { few = subst IsSmall (sym c.value_of.ensures) (value_less System Init AtKeyword (plain_forms c.args.forms.now) (2 ^ 32) c.requires.few) }

pub read_formula-requires-2 : goal.read_formula-requires-2
read_formula-requires-2 c = record { few = subst IsSmall (sym c.value_of-2.ensures) (value_less System Trans AtKeyword (plain_forms c.args.forms.now) (2 ^ 32) c.requires.few) }

pub read_formula-requires-3 : goal.read_formula-requires-3
read_formula-requires-3 c = record { few = subst IsSmall (sym c.value_of-3.ensures) (value_less System Inv AtKeyword (plain_forms c.args.forms.now) (2 ^ 32) c.requires.few) }
