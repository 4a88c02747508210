-- Lists, one behind another.
use Rattle.std.proofs.Common.{◌≡◌, List, ◌++◌, append_assoc}

pub joined : {X : Type 0} (xs ys zs : List X) → (xs ++ ys) ++ zs ≡ xs ++ (ys ++ zs)
joined xs ys zs = append_assoc xs ys zs
