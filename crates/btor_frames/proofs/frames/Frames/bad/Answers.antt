use Rattle.std.proofs.Common.{length, ap, ◌∙◌, arith}
use Rattle.btor_tree.specs.Fits.{is_bad}
use Rattle.btor_frames.proofs.Truths.{bad_there, operand_inside, bad_both}
use Rattle.btor_frames.proofs.frames.Frames.bad.Goals as goal

pub at-requires : goal.at-requires
at-requires c =
    bad_there c.args.nodes.now c.bads.result.now c.args.j c.are_well_formed.ensures (c.bads.ensures ∙ ap (λ h. h.found.bads) c.self.view_is ∙ c.requires.fits.found.bads) c.requires.there

pub is_true-requires : goal.is_true-requires
is_true-requires c =
    let e = c.bads.ensures ∙ ap (λ h. h.found.bads) c.self.view_is ∙ c.requires.fits.found.bads in
    let h = operand_inside is_bad c.args.nodes.now c.bads.result.now c.args.j c.at.result.now c.are_well_formed.ensures e (bad_there c.args.nodes.now c.bads.result.now c.args.j c.are_well_formed.ensures e c.requires.there) c.at.ensures in
    omega (arith, h, ap (λ h. length h.row) c.self.view_is, c.requires.fits.sized)

pub returns : goal.returns
returns c =
    let e = c.bads.ensures ∙ ap (λ h. h.found.bads) c.self.view_is ∙ c.requires.fits.found.bads in
    let there = bad_there c.args.nodes.now c.bads.result.now c.args.j c.are_well_formed.ensures e c.requires.there in
    bad_both c.args.nodes.now c.bads.result.now c.args.j c.at.result.now c.self.inside.row c.args.self.now.row c.is_true.result e there c.at.ensures (ap (λ h. h.row) c.self.view_is) c.is_true.ensures
