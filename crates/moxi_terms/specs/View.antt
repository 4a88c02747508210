-- The plain form that a term of the code stands for.
use Rattle.std.specs.Prelude.{List}
use Rattle.moxi_terms.specs.declared.term.Term.{Term, Term-F, fold-Term}
use Rattle.moxi_terms.specs.declared.term.Function.{Function}
use Rattle.moxi_terms.specs.declared.term.Enumeration.{Enumeration}
use Rattle.moxi_terms.specs.declared.term.NamedSort.{NamedSort}
use Rattle.moxi_terms.specs.Tree.{Tree, constant, variable, bound, apply, binding, call, trees_of, PlainFunction}

abbrev pub term_step : Term-F Tree → Tree
term_step (Term-F.Constant d) = constant d
term_step (Term-F.Variable v p) = variable v p
term_step (Term-F.Bound i) = bound i
term_step (Term-F.Apply op ts) = apply op (trees_of ts.items)
term_step (Term-F.Let names ts t) = binding names (trees_of ts.items) t.value
term_step (Term-F.Call n ts) = call n (trees_of ts.items)

-- the plain form
abbrev pub plain : Term → Tree
plain = fold-Term Tree term_step

abbrev pub plain_function : Function → PlainFunction
plain_function f = record { name = f.name; parameters = f.parameters; result = f.result; body = plain f.body }

-- what a scope declares, each kind in the order of adding
pub record ScopeState : Type 0 where
  pub enumerations : List Enumeration
  pub sorts : List NamedSort
  pub functions : List PlainFunction
