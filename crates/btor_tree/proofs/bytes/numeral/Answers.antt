use Rattle.std.proofs.Common.{◌∙◌, arith}
use Rattle.btor_tree.proofs.Numerals.{numeral_from}
use Rattle.btor_tree.proofs.bytes.numeral.Goals as goal

pub returns-else-is_empty : goal.returns-else-is_empty
returns-else-is_empty c = c.number.ensures ∙ numeral_from c.args.digits.now (grind arith)
