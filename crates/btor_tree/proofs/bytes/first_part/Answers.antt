use Rattle.std.proofs.Common.{sym, ◌∙◌}
use Rattle.btor_tree.proofs.Fronts.{part_cut}
use Rattle.btor_tree.proofs.bytes.first_part.Goals as goal

pub returns-then-not-is_blank : goal.returns-then-not-is_blank
returns-then-not-is_blank c =
    sym c.loop-b.invariant
    ∙ part_cut c.loop-b.rest.now c.split_at.result.0.now c.split_at.result.1.now c.in-Some.b.now c.in-Some.more.now c.part_length.result
    c.in-Some.ensures.cases.0 (sym c.if-not-is_blank.ensures) c.part_length.ensures.value c.split_at.ensures.front c.split_at.ensures.back
