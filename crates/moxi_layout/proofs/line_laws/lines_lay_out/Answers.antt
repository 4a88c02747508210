use Rattle.moxi_layout.proofs.LayoutLaw.{laid, n_all}
use Rattle.moxi_layout.proofs.line_laws.lines_lay_out.Goals as goal

pub returns-clause-well_formed : goal.returns-clause-well_formed
returns-clause-well_formed c = λ f have sorted room. (n_all f have sorted room).fit

pub returns-clause-laid : goal.returns-clause-laid
returns-clause-laid c = laid
