-- The lines of terms over variables whose words are at places.
use Rattle.std.specs.Prelude.{◌≡◌, ℕ, suc, ◌<◌, ◌≤◌, Some, List, [], length, map, take, slice_get}
use Rattle.btor_tree.specs.declared.lines.Line.{Line}
use Rattle.btor_tree.specs.Fits.{greatest_id}
use Rattle.moxi_terms.specs.declared.data.Sort.{Sort}
use Rattle.moxi_terms.specs.declared.term.Enumeration.{Enumeration}
use Rattle.moxi_terms.specs.Sorted.{AreFunctions, HasSort, HaveSorts}
use Rattle.moxi_terms.specs.Tree.{Tree, Trees, PlainFunction, sorts_of}
use Rattle.moxi_terms.specs.View.{ScopeState, plain_function}
use Rattle.moxi_lines.specs.TermLaws.{HaveCodes}
use Rattle.moxi_lines.specs.TermLines.{AllBuilt, Built, call_lines, place_in, with_term, with_terms}
use Rattle.moxi_to_btor.specs.declared.terms.Places.{Places}
use Rattle.moxi_to_btor.specs.declared.terms.Places.TheVariants.{At, Behind}
use Rattle.moxi_to_btor.specs.declared.terms.Scene.{Scene}
use Rattle.moxi_to_btor.specs.Standing.{AreAsWide, VariablesAreAsWide}

-- the place of a variable
abbrev pub place_by : Places → ℕ → ℕ
place_by (At ps) v = place_in ps.now v
place_by (Behind ps) v = suc (place_in ps.now v)

-- the lines of a term over all functions of a scope
abbrev pub whole_lines : ScopeState → (ℕ → ℕ) → (ℕ → ℕ) → List Line → Tree → Built
whole_lines s now later lines t = with_term s.enumerations (call_lines s.enumerations s.functions (length s.functions)) now later [] lines t

-- the term has a sort over some variables that are at the places, and there is room for its lines
pub record CanPutWhole (s : ScopeState) (now later : ℕ → ℕ) (lines : List Line) (t : Tree) : Type 0 where
  pub vars : List Sort
  pub sort : Sort
  pub codes : HaveCodes s.enumerations
  pub sorted : HasSort s.enumerations s.functions vars [] t sort
  pub stand_now : VariablesAreAsWide s.enumerations lines vars now
  pub stand_later : VariablesAreAsWide s.enumerations lines vars later
  pub room : length (whole_lines s now later lines t).0 < greatest_id

-- ---- scenes

abbrev pub functions_in : Scene → List PlainFunction
functions_in s = map plain_function s.functions.now

abbrev pub call_lines_in : Scene → ℕ → List Line → List ℕ → Built
call_lines_in s n lines ps = call_lines s.enumerations.now (functions_in s) s.upto n lines ps

abbrev pub lines_in : Scene → List ℕ → List Line → Tree → Built
lines_in s bounds lines t = with_term s.enumerations.now (call_lines s.enumerations.now (functions_in s) s.upto) (place_by s.now) (place_by s.later) bounds lines t

abbrev pub all_lines_in : Scene → List ℕ → List Line → Trees → AllBuilt
all_lines_in s bounds lines ts = with_terms s.enumerations.now (call_lines s.enumerations.now (functions_in s) s.upto) (place_by s.now) (place_by s.later) bounds lines ts

-- what is in lines for a term: its variables and what is bound around it
pub record IsThere (es : List Enumeration) (fs : List PlainFunction) (upto : ℕ) (vars sorts : List Sort) (now later : ℕ → ℕ) (bounds : List ℕ) (lines : List Line) : Type 0 where
  pub within : upto ≤ length fs
  pub codes : HaveCodes es
  pub functions : AreFunctions es fs
  pub stand_now : VariablesAreAsWide es lines vars now
  pub stand_later : VariablesAreAsWide es lines vars later
  pub stand_bound : AreAsWide es lines bounds sorts

pub record CanPutTerm (s : Scene) (bounds : List ℕ) (lines : List Line) (t : Tree) : Type 0 where
  pub vars : List Sort
  pub sorts : List Sort
  pub sort : Sort
  pub there : IsThere s.enumerations.now (functions_in s) s.upto vars sorts (place_by s.now) (place_by s.later) bounds lines
  pub sorted : HasSort s.enumerations.now (take s.upto (functions_in s)) vars sorts t sort
  pub room : length (lines_in s bounds lines t).0 < greatest_id

pub record CanPutTerms (s : Scene) (bounds : List ℕ) (lines : List Line) (ts : Trees) : Type 0 where
  pub vars : List Sort
  pub sorts : List Sort
  pub own : List Sort
  pub there : IsThere s.enumerations.now (functions_in s) s.upto vars sorts (place_by s.now) (place_by s.later) bounds lines
  pub sorted : HaveSorts s.enumerations.now (take s.upto (functions_in s)) vars sorts ts own
  pub room : length (all_lines_in s bounds lines ts).0 < greatest_id

-- the function is one of the first ones, and the arguments have the widths of its parameters' sorts
pub record CanPutCall (s : Scene) (n : ℕ) (lines : List Line) (ps : List ℕ) : Type 0 where
  pub function : PlainFunction
  pub found : slice_get (take s.upto (functions_in s)) n ≡ Some function
  pub within : s.upto ≤ length (functions_in s)
  pub codes : HaveCodes s.enumerations.now
  pub functions : AreFunctions s.enumerations.now (functions_in s)
  pub stand : AreAsWide s.enumerations.now lines ps (sorts_of function.parameters)
  pub room : length (call_lines_in s n lines ps).0 < greatest_id
