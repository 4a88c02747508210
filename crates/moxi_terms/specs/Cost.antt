-- How many terms an evaluation looks at, those of called bodies once for each call.
use Rattle.std.specs.Prelude.{ℕ, zero, suc, ◌+◌, if◌then◌else◌, nat_eq, List}
use Rattle.moxi_terms.specs.Tree.{Tree, constant, variable, bound, apply, binding, call, Trees, no_trees, tree, PlainFunction}
use Rattle.moxi_terms.specs.Value.{body_at}

abbrev mutual
  pub cost : (ℕ → ℕ) → Tree → ℕ
  cost c (constant d) = 1
  cost c (variable v primed) = 1
  cost c (bound i) = 1
  cost c (apply op ts) = costs c ts + 1
  cost c (binding names ts t) = costs c ts + cost c t + 2
  cost c (call n ts) = costs c ts + c n + 2

  pub costs : (ℕ → ℕ) → Trees → ℕ
  costs c no_trees = 0
  costs c (tree t ts) = cost c t + costs c ts + 1

abbrev pub cost_upto : List PlainFunction → ℕ → ℕ → ℕ
cost_upto fs zero n = 0
cost_upto fs (suc k) n = if nat_eq n k then cost (cost_upto fs k) (body_at fs k) else cost_upto fs k n
