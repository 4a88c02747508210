use Rattle.std.proofs.Common.{◌≡◌, ◌∷◌, ◌≤◌, length}
use Rattle.smv_text.specs.Tree.{Tree}
use Rattle.smv_grammar.specs.Kept.{cap}
use Rattle.smv_expressions.specs.Gathered.{read_of}
use Rattle.smv_grammar.specs.Machine.{selected, have}
use Rattle.smv_expressions.specs.Following.{Reads}
use Rattle.smv_expressions.proofs.climbing.selections.Given as goal

abbrev pub invariant-loop-more : goal.invariant-loop-more
invariant-loop-more l = record {
  reads : (t : Tree) → read_of l.fn.kept ≡ cap t → Reads (λ k. have t (selected l.place ∷ k)) (λ k. selected l.place ∷ k) l.tokens (read_of l.kept) l.rest;
  shorter : length l.rest ≤ length l.tokens;
}

abbrev pub decreases-loop-more : goal.decreases-loop-more
decreases-loop-more l = length l.rest
