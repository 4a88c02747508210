-- A term over other numbers of its variables.
use Rattle.std.specs.Prelude.{ℕ, ◌<◌}
use Rattle.moxi_terms.specs.Tree.{Tree, constant, variable, bound, apply, binding, call, Trees, no_trees, tree}

-- each variable has the number that stands for its own; functions are called as before
abbrev mutual
  pub renumbered : (ℕ → ℕ) → Tree → Tree
  renumbered place (constant d) = constant d
  renumbered place (variable v primed) = variable (place v) primed
  renumbered place (bound i) = bound i
  renumbered place (apply o ts) = apply o (all_renumbered place ts)
  renumbered place (binding names ts t) = binding names (all_renumbered place ts) (renumbered place t)
  renumbered place (call n ts) = call n (all_renumbered place ts)

  pub all_renumbered : (ℕ → ℕ) → Trees → Trees
  all_renumbered place no_trees = no_trees
  all_renumbered place (tree t ts) = tree (renumbered place t) (all_renumbered place ts)

-- only the first n variables are in it
abbrev mutual
  pub IsOver : ℕ → Tree → Type 0
  IsOver n (constant d) = Unit {0}
  IsOver n (variable v primed) = v < n
  IsOver n (bound i) = Unit {0}
  IsOver n (apply o ts) = AreOver n ts
  IsOver n (binding names ts t) = AreOver n ts × IsOver n t
  IsOver n (call m ts) = AreOver n ts

  pub AreOver : ℕ → Trees → Type 0
  AreOver n no_trees = Unit {0}
  AreOver n (tree t ts) = IsOver n t × AreOver n ts
