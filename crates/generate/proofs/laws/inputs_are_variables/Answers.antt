use Rattle.witness_lift.specs.LineLaws.{model_lines, model_system}
use Rattle.moxi_layout.proofs.Entries.{input_count}
use Rattle.generate.proofs.laws.inputs_are_variables.Goals as goal

pub returns : goal.returns
returns c source end text xs lexed spelled needed accepted low =
    input_count (model_system source) (model_lines source) (c.model_lines_are_laid_out.ensures source end text xs lexed spelled needed accepted low).laid.lays.order
