-- Scopes that grow: a script that is printed declares all sorts and functions before all systems.
use Rattle.std.specs.Prelude.{◌≡◌, ℕ, true, false, List, ◌++◌, map}
use Rattle.moxi_terms.specs.declared.term.Enumeration.{Enumeration}
use Rattle.moxi_terms.specs.declared.term.NamedSort.{NamedSort}
use Rattle.moxi_terms.specs.Names.{all_constants, is_among, is_term_name}
use Rattle.moxi_sexpr.specs.Tree as form
use Rattle.moxi_term_reading.specs.declared.locals.Local.{Local}
use Rattle.moxi_term_reading.specs.Reading.{Context, names_of, read}
use Rattle.moxi_terms.specs.Tree.{PlainFunction}
use Rattle.moxi_terms.specs.View.{ScopeState}
use Rattle.moxi_term_print.specs.Shown.{Shows}
use Rattle.moxi_term_print.specs.Terms.{shown_term}

-- The second scope has what the first one has in front, and more behind it. No constant and no function that is added has a name
-- that an operator, a value or a function of the first scope has.
pub record Grows (s t : ScopeState) : Type 0 where
  pub enumerations : List Enumeration
  pub sorts : List NamedSort
  pub functions : List PlainFunction
  pub all_enumerations : t.enumerations ≡ s.enumerations ++ enumerations
  pub all_sorts : t.sorts ≡ s.sorts ++ sorts
  pub all_functions : t.functions ≡ s.functions ++ functions
  pub fresh : (name : List ℕ) → is_term_name s name ≡ true
      → (is_among (all_constants enumerations) name ≡ false) × (is_among (map (λ (f : PlainFunction). f.name) functions) name ≡ false)

-- the same variables in another scope
abbrev pub in_scope : Context → ScopeState → Context
in_scope c t = record { scope = t; variables = c.variables; primes = c.primes }

-- what is printed of the term of a form, in a scope that has grown from that of the form, is read as the form is
abbrev pub IsReadAgain : Context → List Local → form.Tree → ScopeState → form.Tree → Type 0
IsReadAgain c bounds f u g =
    Grows c.scope u → Shows g (shown_term u (names_of c.variables) (names_of bounds) (read c bounds f).term) → read (in_scope c u) bounds g ≡ read c bounds f

-- the second scope with the functions of the first alone, as where all sorts are declared first
abbrev pub sorts_first : ScopeState → ScopeState → ScopeState
sorts_first s t = record { enumerations = t.enumerations; sorts = t.sorts; functions = s.functions }
