use Rattle.std.proofs.Common.{arith, sym, ◌∙◌}
use Rattle.std.proofs.lemmas.Bool.{eqb-true, eq-eqb}
use Rattle.btor_frames.proofs.Handing.{read_facts, read_both}
use Rattle.btor_frames.proofs.handed.line_fits.Goals as goal

pub overflow_cast-i : goal.overflow_cast-i
overflow_cast-i c =
    let f = read_facts c.args.nodes.now c.args.i c.at.result.now c.requires.well_formed c.at.ensures c.in-Input.is in
    omega (arith, f.small, c.requires.inside)

pub width_of-requires : goal.width_of-requires
width_of-requires c =
    (read_facts c.args.nodes.now c.args.i c.at.result.now c.requires.well_formed c.at.ensures c.in-Input.is).some

pub returns-in-Input : goal.returns-in-Input
returns-in-Input c =
    let both = read_both c.args.nodes.now c.args.i c.at.result.now c.args.word c.width_of.result c.requires.well_formed c.at.ensures c.in-Input.is c.width.ensures.word c.width_of.ensures in (
      λ t. both.0 (sym c.width.ensures.value ∙ eqb-true c.width.result c.width_of.result t),
      λ h. eq-eqb c.width.result c.width_of.result (c.width.ensures.value ∙ both.1 h),
    )
