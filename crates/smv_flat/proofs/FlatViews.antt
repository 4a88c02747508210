-- The plain forms of flat parts.
use Rattle.std.proofs.Common.{◌≡◌, List, [], ◌∷◌, ◌++◌, map, ap, rules}
use Rattle.smv_flat.specs.declared.expressions.FlatBranch.{FlatBranch, the_lemmas}
use Rattle.smv_flat.specs.FlatView.{plain_flat, plain_flat_branch, plain_flat_link}
use Rattle.smv_flat.specs.declared.expressions.FlatLink.{FlatLink, the_lemmas as link_lemmas}

pub branch_at : (b : FlatBranch) → plain_flat_branch b ≡ (plain_flat b.when, plain_flat b.value)
branch_at b = search (rules, the_lemmas)

pub branch_pushed : (bs : List FlatBranch) (b : FlatBranch) → map plain_flat_branch (bs ++ b ∷ []) ≡ map plain_flat_branch bs ++ (plain_flat b.when, plain_flat b.value) ∷ []
branch_pushed [] b = ap (λ p. p ∷ []) (branch_at b)
branch_pushed (x ∷ bs) b = ap (λ ps. plain_flat_branch x ∷ ps) (branch_pushed bs b)

pub link_at : (l : FlatLink) → plain_flat_link l ≡ (l.op, plain_flat l.operand)
link_at l = search (rules, link_lemmas)
