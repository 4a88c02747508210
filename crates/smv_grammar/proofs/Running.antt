-- What the machine comes to, with what is kept in the expression's place.
use Rattle.std.proofs.Common.{◌≡◌, Option, Some, None, option_map, List, [], ◌∷◌, refl}
use Rattle.smv_text.specs.declared.token.Token.{Token}
use Rattle.smv_text.specs.Tree.{Tree}
use Rattle.smv_grammar.specs.Kept.{cap}
use Rattle.smv_grammar.specs.Machine.{State, have, Move, onto, behind, nowhere, move, halt, halted, along, Reach, reached, failed, walk, advance, Outcome, took, dead, at_end, next as next_of, run}

abbrev pub outcome : Reach → Outcome
outcome (reached t rest) = took (cap t) rest
outcome (failed n) = dead n

pub runs : (xs : List Token) (s : State) → run xs s ≡ outcome (walk xs s)
unfolding run walk
runs [] s = go (halt s)
  where
    go : (o : Option Tree) → at_end (option_map cap o) ≡ outcome (halted o)
    go None = refl
    go (Some t) = refl
runs (x ∷ xs) s = go (move s x) (runs xs)
  where
    go : (m : Move) → ((r : State) → run xs r ≡ outcome (walk xs r)) → next_of (advance m) x xs (λ r. run xs r) ≡ outcome (along m x xs (λ r. walk xs r))
    go (onto r) ih = ih r
    go (behind t) ih = refl
    go nowhere ih = refl

pub had : (xs : List Token) (t : Tree) → walk xs (have t []) ≡ reached t xs
unfolding walk
had [] t = refl
had (x ∷ xs) t = refl
