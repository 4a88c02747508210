use Rattle.std.proofs.Common.{subst}
use Rattle.moxi_terms.specs.View.{ScopeState}
use Rattle.moxi_lines.specs.TermLaws.{HaveCodes}
use Rattle.moxi_lift.proofs.Room.{laid_out}
use Rattle.moxi_lift.proofs.layout.are_laid_out.Goals as goal

pub returns : goal.returns
returns c =
    let codes = subst (λ (s : ScopeState). HaveCodes s.enumerations) c.scope-scope.ensures c.have_codes.ensures in
    laid_out c.args.system.now c.flat_sizes_are_script_sizes.ensures c.lines_stay_few.ensures c.lines_lay_out.ensures.well_formed c.lines_lay_out.ensures.laid codes c.is_instance.ensures c.is_sorted.ensures
