-- The value of a term (MoXI, SPIN 2024; SMT-LIB 2.6, section 5.3).
use Rattle.std.specs.Prelude.{ℕ, zero, suc, List, [], ◌∷◌, ◌++◌, if◌then◌else◌, nat_eq, slice_index_or, Option, Some, None}
use Rattle.std.specs.Borrow.{Bor}
use Rattle.moxi_terms.specs.declared.data.Sort.TheVariants.{Truth}
use Rattle.moxi_terms.specs.declared.data.Datum.{Datum}
use Rattle.moxi_terms.specs.Operators.{nothing, op_value}
use Rattle.moxi_terms.specs.Tree.{Tree, constant, variable, bound, apply, binding, call, Trees, no_trees, tree, PlainFunction}

-- the value at a place
abbrev pub at : List Datum → ℕ → Datum
at vs i = slice_index_or vs i nothing

-- what the functions give for arguments
abbrev pub Calls : Type 0
Calls = ℕ → List Datum → Datum

-- what the variables have
abbrev pub Values : Type 0
Values = ℕ → Datum

-- An unprimed variable has its value now, a primed one its later value; `vals` are the values that the `let`s around bind.
abbrev mutual
  pub term_value : Calls → Values → Values → List Datum → Tree → Datum
  term_value calls now later vals (constant d) = d
  term_value calls now later vals (variable v primed) = if primed then later v else now v
  term_value calls now later vals (bound i) = at vals i
  term_value calls now later vals (apply op ts) = op_value op (term_values calls now later vals ts)
  term_value calls now later vals (binding names ts t) = term_value calls now later (vals ++ term_values calls now later vals ts) t
  term_value calls now later vals (call n ts) = calls n (term_values calls now later vals ts)

  pub term_values : Calls → Values → Values → List Datum → Trees → List Datum
  term_values calls now later vals no_trees = []
  term_values calls now later vals (tree t ts) = term_value calls now later vals t ∷ term_values calls now later vals ts

-- the body of a function
abbrev pub body_at : List PlainFunction → ℕ → Tree
body_at fs n = (slice_index_or fs n (record { name = []; parameters = []; result = Truth; body = constant nothing })).body

-- What the first k functions give: each its body's value under the arguments, where the functions before it may be called.
abbrev pub calls_upto : List PlainFunction → ℕ → Calls
calls_upto fs zero n args = nothing
calls_upto fs (suc k) n args = if nat_eq n k then term_value (calls_upto fs k) (at args) (at args) [] (body_at fs k) else calls_upto fs k n args

-- the later values; without any, a term has no prime, and they are not looked at
abbrev pub later_of : List Datum → Option (Bor (List Datum)) → List Datum
later_of now None = now
later_of now (Some later) = later.now
