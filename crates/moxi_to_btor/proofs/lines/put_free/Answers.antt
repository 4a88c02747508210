use Rattle.moxi_to_btor.proofs.Giving.{free_suits}
use Rattle.moxi_to_btor.proofs.lines.put_free.Goals as goal

pub push-requires-clause-fits : goal.push-requires-clause-fits
push-requires-clause-fits c =
    free_suits c.args.builder.now c.args.op c.args.width c.args.name.now (c.sort.new.self, c.in_ok-sort.sort) c.no_args.result c.in_ok-symbol.symbol c.requires c.in_ok-sort.ensures.line c.no_args.ensures c.in_ok-symbol.ensures
