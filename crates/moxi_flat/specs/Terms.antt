-- The size and the height of a term whose calls are written out (terms as in MoXI, SPIN 2024, and SMT-LIB 2.6, section 3.6; the
-- measures are this translator's own).
use Rattle.std.specs.Prelude.{ℕ, zero, suc, ◌+◌, ◌-◌, ◌*◌, ◌/◌, max, if◌then◌else◌, nat_eq, List, length}
use Rattle.moxi_terms.specs.declared.data.TermOp.{TermOp}
use Rattle.moxi_terms.specs.declared.data.TermOp.TheVariants.{Equal, Distinct}
use Rattle.moxi_terms.specs.Tree.{Tree, constant, variable, bound, apply, binding, call, Trees, no_trees, tree, list_of, PlainFunction}
use Rattle.moxi_terms.specs.Value.{body_at}
use Rattle.moxi_terms.specs.View.{ScopeState}

-- an operator counts once, but `=` once for each pair of neighbours, and `distinct` once for each pair
abbrev pub operator_size : TermOp → ℕ → ℕ
operator_size Equal n = n - 1
operator_size Distinct n = n * (n - 1) / 2
operator_size o n = 1

-- given the sizes of the functions' bodies
abbrev mutual
  pub term_size : (ℕ → ℕ) → Tree → ℕ
  term_size calls (constant d) = 1
  term_size calls (variable v primed) = 1
  term_size calls (bound i) = 1
  term_size calls (apply o ts) = operator_size o (length (list_of ts)) + terms_size calls ts
  term_size calls (binding names ts t) = 1 + (terms_size calls ts + term_size calls t)
  term_size calls (call n ts) = 1 + (terms_size calls ts + calls n)

  pub terms_size : (ℕ → ℕ) → Trees → ℕ
  terms_size calls no_trees = 0
  terms_size calls (tree t ts) = term_size calls t + terms_size calls ts

-- given the heights of the functions' bodies
abbrev mutual
  pub term_height : (ℕ → ℕ) → Tree → ℕ
  term_height calls (constant d) = 1
  term_height calls (variable v primed) = 1
  term_height calls (bound i) = 1
  term_height calls (apply o ts) = 1 + terms_height calls ts
  term_height calls (binding names ts t) = 1 + max (terms_height calls ts) (term_height calls t)
  term_height calls (call n ts) = 1 + max (terms_height calls ts) (calls n)

  pub terms_height : (ℕ → ℕ) → Trees → ℕ
  terms_height calls no_trees = 0
  terms_height calls (tree t ts) = max (term_height calls t) (terms_height calls ts)

-- What a measure gives for the bodies of the first k functions, each of which calls those before it alone.
abbrev pub measured_upto : ((ℕ → ℕ) → Tree → ℕ) → List PlainFunction → ℕ → ℕ → ℕ
measured_upto measure fs zero n = 0
measured_upto measure fs (suc k) n = if nat_eq n k then measure (measured_upto measure fs k) (body_at fs k) else measured_upto measure fs k n

abbrev pub call_sizes : ScopeState → ℕ → ℕ
call_sizes s = measured_upto term_size s.functions (length s.functions)

abbrev pub call_heights : ScopeState → ℕ → ℕ
call_heights s = measured_upto term_height s.functions (length s.functions)
