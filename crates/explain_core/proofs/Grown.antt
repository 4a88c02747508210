-- Bytes that are written one after another.
use Rattle.std.proofs.Common.{◌≡◌, ℕ, List, ◌++◌, Option, ap, ◌∙◌}
use Rattle.text_core.specs.Outside.{grown}
use Rattle.command_core.proofs.SinkLemmas.{grown_twice}

-- two pieces
pub then_grown : (before mid now : Option (List ℕ)) (xs ys : List ℕ) → mid ≡ grown before xs → now ≡ grown mid ys → now ≡ grown before (xs ++ ys)
then_grown before mid now xs ys first next = next ∙ ap (λ m. grown m ys) first ∙ grown_twice before xs ys
