use Rattle.std.proofs.Common.{◌∷◌, [], ap, ◌∙◌}
use Rattle.moxi_to_btor.proofs.Giving.{bad_suits}
use Rattle.moxi_to_btor.proofs.lines.put_bad.Goals as goal

pub push-requires-clause-fits : goal.push-requires-clause-fits
push-requires-clause-fits c =
    bad_suits c.args.builder.now c.args.place c.args.name.now c.one_arg-args.result c.in_ok-symbol.symbol c.requires (c.one_arg-args.ensures ∙ ap (λ a. a ∷ []) c.plain_arg.ensures) c.in_ok-symbol.ensures
