use Rattle.btor_tree.specs.Printing.{printed}
use Rattle.witness_lift.specs.LineLaws.{model_lines}
use Rattle.witness_lift.proofs.line_laws.model_lines_are_spelled.Goals as goal

pub returns : goal.returns
returns c source end text xs l s needed a low =
    let fit = (c.model_lines_are_laid_out.ensures source end text xs l s needed a low).laid.well_formed in
    let there = c.printed_spells.ensures (model_lines source) fit in
    record { there = there; one = λ others h. c.one_reading.ensures (printed (model_lines source)) others (model_lines source) h there }
