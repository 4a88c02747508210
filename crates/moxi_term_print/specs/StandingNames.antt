-- Terms and scopes whose names can be spelled (SMT-LIB 2.6, section 3.1).
use Rattle.std.specs.Prelude.{ℕ, false, IsTrue, List}
use Rattle.std.specs.List.{AllByRecursion}
use Rattle.moxi_sexpr.specs.Atoms.{may_appear}
use Rattle.moxi_sexpr.specs.Printing.{symbol_spelling}
use Rattle.moxi_terms.specs.Names.{all_constants, enumeration_names, function_names}
use Rattle.moxi_terms.specs.Tree.{Tree, constant, variable, bound, apply, binding, call, Trees, no_trees, tree}
use Rattle.moxi_terms.specs.View.{ScopeState}

abbrev pub IsSpellable : List ℕ → Type 0
IsSpellable name = IsTrue (may_appear (symbol_spelling name false) name)

abbrev pub AreSpellable : List (List ℕ) → Type 0
AreSpellable names = AllByRecursion IsSpellable names

-- each name that a `let` in the term binds
abbrev mutual
  pub NamesAreSpellable : Tree → Type 0
  NamesAreSpellable (constant d) = Unit {0}
  NamesAreSpellable (variable v primed) = Unit {0}
  NamesAreSpellable (bound i) = Unit {0}
  NamesAreSpellable (apply o ts) = AllNamesAreSpellable ts
  NamesAreSpellable (binding names ts t) = AreSpellable names × AllNamesAreSpellable ts × NamesAreSpellable t
  NamesAreSpellable (call n ts) = AllNamesAreSpellable ts

  pub AllNamesAreSpellable : Trees → Type 0
  AllNamesAreSpellable no_trees = Unit {0}
  AllNamesAreSpellable (tree t ts) = NamesAreSpellable t × AllNamesAreSpellable ts

-- each name of the scope that a term or a sort can have in it
pub record IsSpellableScope (s : ScopeState) : Type 0 where
  pub enumerations : AreSpellable (enumeration_names s)
  pub constants : AreSpellable (all_constants s.enumerations)
  pub functions : AreSpellable (function_names s)
