-- What a response is read against, and which traces it can state (MoXI, SPIN 2024).
use Rattle.std.specs.Prelude.{◌≡◌, ◌≤◌, ◌*◌, ◌^◌, ℕ, Bool, true, ◌&&◌, nat_le, List, [], length, map}
use Rattle.std.specs.List.{AllByRecursion}
use Rattle.name_maps.specs.Names.{are_fresh}
use Rattle.moxi_terms.specs.declared.data.Datum.{Datum}
use Rattle.moxi_terms.specs.declared.term.Enumeration.{Enumeration}
use Rattle.moxi_terms.specs.declared.term.Variable.{Variable}
use Rattle.moxi_terms.specs.Sorts.{Fit}
use Rattle.moxi_terms.specs.Tree.{sorts_of}

-- the name of the checked system, the enumeration sorts, the variables in order, hidden ones too, and the names of the queries
pub record Declared : Type 0 where
  pub system : List ℕ
  pub enumerations : List Enumeration
  pub variables : List Variable
  pub queries : List (List ℕ)

abbrev pub names_of : List Variable → List (List ℕ)
names_of vs = map (λ (v : Variable). v.name) vs

-- each variable and each query has a name of its own, and 32 bits number the queries
pub record HasOwnNames (d : Declared) : Type 0 where
  pub variables : are_fresh [] (names_of d.variables) ≡ true
  pub queries : are_fresh [] d.queries ≡ true
  pub few : length d.queries ≤ 2 ^ 32

-- one or more steps, each with a value of its sort for each variable
pub record IsStatedTrace (d : Declared) (steps : List (List Datum)) : Type 0 where
  pub some : 1 ≤ length steps
  pub fit : AllByRecursion (Fit d.enumerations (sorts_of d.variables)) steps

-- the most steps of a trace
abbrev pub most_steps : ℕ
most_steps = 100000

-- the most that the steps times the variables may be
abbrev pub most_values : ℕ
most_values = 4000000

-- the most bytes of a response
abbrev pub most_bytes : ℕ
most_bytes = 67108864

-- may a trace have n steps?
abbrev pub is_within : Declared → ℕ → Bool
is_within d n = nat_le n most_steps && nat_le (n * length d.variables) most_values
