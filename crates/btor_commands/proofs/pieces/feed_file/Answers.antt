use Rattle.btor_commands.proofs.Fronts.{holds_file, is_longer, same_error}
use Rattle.btor_commands.proofs.pieces.feed_file.Goals as goal

pub returns-in-Ok-eq0-clause-fed : goal.returns-in-Ok-eq0-clause-fed
returns-in-Ok-eq0-clause-fed g c =
    holds_file _ _ _ _ _ _ c.pieces.invariant.present (c.in-Ok-eq0.ensures.front _ c.pieces.invariant.front) c.in-Ok-eq0.ensures.within (c.in-Ok-eq0.ensures.at_end c.in-Ok-eq0.field-0-test)

pub returns-in-Err-feed_piece-clause-too_long : goal.returns-in-Err-feed_piece-clause-too_long
returns-in-Err-feed_piece-clause-too_long g c =
    λ is. is_longer _ _ _ c.pieces.invariant.present (c.in-Err-feed_piece.ensures.past _ c.pieces.invariant.front (same_error _ _ is))
