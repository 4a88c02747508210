use Rattle.btor_witness.specs.laws.Laws.{exact_from, stops_from, ok_within, err_within}
use Rattle.btor_witness.specs.Sizes.{sizes_of}
use Rattle.btor_witness.proofs.Kept.{fits_ok, within_ok}
use Rattle.btor_witness.proofs.read.read_witness.Goals as goal

pub returns-clause-exact : goal.returns-clause-exact
returns-clause-exact c =
    let lines = c.args.nodes.now in
    let text = c.args.text.now in
    exact_from lines text c.read_lines.result (ok_within lines text _ c.if-text-gt-MOST_BYTES.false c.read_lines.ensures.spelled) (err_within lines text _ c.if-text-gt-MOST_BYTES.false c.read_lines.ensures.refused)

pub returns-clause-stops : goal.returns-clause-stops
returns-clause-stops c =
    let lines = c.args.nodes.now in
    let text = c.args.text.now in
    stops_from lines text c.read_lines.result (ok_within lines text _ c.if-text-gt-MOST_BYTES.false c.read_lines.ensures.spelled) (err_within lines text _ c.if-text-gt-MOST_BYTES.false c.read_lines.ensures.refused)

pub returns-clause-fits : goal.returns-clause-fits
returns-clause-fits c = fits_ok (sizes_of c.args.nodes.now) c.args.text.now c.read_lines.result c.read_lines.ensures.spelled

pub returns-clause-within : goal.returns-clause-within
returns-clause-within c = within_ok (sizes_of c.args.nodes.now) c.args.text.now c.read_lines.result c.read_lines.ensures.spelled
