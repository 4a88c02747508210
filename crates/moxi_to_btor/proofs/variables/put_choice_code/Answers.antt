use Rattle.std.proofs.Common.{refl}
use Rattle.moxi_to_btor.proofs.VariableSteps.{no_word}
use Rattle.moxi_to_btor.proofs.variables.put_choice_code.Goals as goal

pub returns-in-None : goal.returns-in-None
returns-in-None c =
    no_word c.args.enumerations.now c.args.n c.args.builder.now c.args.place c.at.result.now c.len-count.result c.choice_width.result c.len-count.result c.requires c.at.ensures c.len-count.ensures c.choice_width.ensures refl
    (λ w. let f = c.in-None.ensures.there.1 w in absurd (cc))
