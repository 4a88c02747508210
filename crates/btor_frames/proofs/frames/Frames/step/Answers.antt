use Rattle.std.proofs.Common.{length, sym, ap, ◌∙◌, subst}
use Rattle.btor_frames.specs.Sources.{IsBlank}
use Rattle.btor_frames.specs.Tables.{IsFoundIn}
use Rattle.btor_frames.proofs.Unique.{stepped, only}
use Rattle.btor_frames.proofs.frames.Frames.step.Goals as goal

pub invariant_of-self : goal.invariant_of-self
invariant_of-self c =
    let p = stepped c.args.nodes.now c.args.self.now c.self.inside.begun c.self.inside.row c.args.inputs.now c.args.free.now c.swap.new.x c.self.inside.tables c.self.view_is c.are_well_formed.ensures c.requires.fits c.requires.handed (c.swap.ensures.x_after ∙ c.fill.ensures.row) in
    let blank = IsBlank c.self.inside.tables.sources in (
      ap length c.swap.ensures.y_after ∙ ap (λ h. length h.row) c.self.view_is ∙ c.requires.fits.sized ∙ sym p.frame.sized,
      subst blank (sym c.swap.ensures.x_after) c.fill.ensures.blank,
      subst blank (sym c.swap.ensures.y_after) c.self.invariant.1,
    )

pub returns-clause-fits : goal.returns-clause-fits
returns-clause-fits c =
    let p = stepped c.args.nodes.now c.args.self.now c.self.inside.begun c.self.inside.row c.args.inputs.now c.args.free.now c.swap.new.x c.self.inside.tables c.self.view_is c.are_well_formed.ensures c.requires.fits c.requires.handed (c.swap.ensures.x_after ∙ c.fill.ensures.row) in
    record { sized = p.frame.sized; framed = λ t. p.frame; found = subst (λ h. IsFoundIn c.args.nodes.now h.found) (sym c.self.view_is) c.requires.fits.found }

pub returns-clause-next : goal.returns-clause-next
returns-clause-next c =
    stepped c.args.nodes.now c.args.self.now c.self.inside.begun c.self.inside.row c.args.inputs.now c.args.free.now c.swap.new.x c.self.inside.tables c.self.view_is c.are_well_formed.ensures c.requires.fits c.requires.handed (c.swap.ensures.x_after ∙ c.fill.ensures.row)

pub returns-clause-only : goal.returns-clause-only
returns-clause-only c =
    let p = stepped c.args.nodes.now c.args.self.now c.self.inside.begun c.self.inside.row c.args.inputs.now c.args.free.now c.swap.new.x c.self.inside.tables c.self.view_is c.are_well_formed.ensures c.requires.fits c.requires.handed (c.swap.ensures.x_after ∙ c.fill.ensures.row) in
    λ row q. only c.args.nodes.now c.args.self.now.begun c.args.self.now.row c.args.inputs.now c.args.free.now row c.swap.new.x c.are_well_formed.ensures q p
