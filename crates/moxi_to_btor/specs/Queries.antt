-- What a builder asks for where the lines of queries are put.
use Rattle.std.specs.Prelude.{◌≡◌, ℕ, ◌<◌, ◌≤◌, List, [], ◌∷◌, length, if◌then◌else◌}
use Rattle.std.specs.List.{AllByRecursion}
use Rattle.word_core.specs.declared.kinds.Binary.TheVariants as two
use Rattle.btor_tree.specs.declared.lines.Line.{Line}
use Rattle.btor_tree.specs.Fits.{greatest_id, width_at}
use Rattle.moxi_terms.specs.declared.term.Variable.{Variable}
use Rattle.moxi_terms.specs.View.{ScopeState}
use Rattle.moxi_scripts.specs.declared.script.Query.{Query}
use Rattle.moxi_scripts.specs.Script.{PlainFormula, formula_at}
use Rattle.moxi_scripts.specs.Valid.{IsValidQuery}
use Rattle.moxi_flat.specs.FlatSystem.{PlainFlatSystem}
use Rattle.moxi_lines.specs.TermLines.{AllBuilt, Built, with_binary}
use Rattle.moxi_lines.specs.Lines.{Reaching, first_place, has_conditions, with_all_met, with_assumptions, with_conditions, with_currents, with_formula, with_goal, with_latch, with_one_met, with_queries, with_query, with_reachable, with_reachables}
use Rattle.moxi_to_btor.specs.Putting.{CanPutFormula, IsSetUp, IsTruthOver}

-- a state of a truth value, and the constant that it begins with
pub record CanPutLatch (lines : List Line) (name : List ℕ) (value : ℕ) : Type 0 where
  pub width : width_at lines value ≡ 1
  pub room : length (with_latch lines name value).0 < greatest_id

-- the formula of a number
pub record CanPutNumbered (s : ScopeState) (inputs : List ℕ) (lines : List Line) (fs : List PlainFormula) (i : ℕ) : Type 0 where
  pub within : i < length fs
  pub can : CanPutFormula s inputs lines (formula_at fs i)

-- a formula that counts in frame 0
abbrev pub current_lines : ScopeState → List ℕ → List Line → List PlainFormula → ℕ → Built
current_lines s inputs lines fs i = let n = with_formula s inputs lines (formula_at fs i) in with_binary two.Implies n.0 first_place n.1

pub record CanPutCurrent (s : ScopeState) (inputs : List ℕ) (lines : List Line) (fs : List PlainFormula) (i : ℕ) : Type 0 where
  pub vars : List Variable
  pub there : IsSetUp s vars inputs lines
  pub within : i < length fs
  pub truth : IsTruthOver s vars (formula_at fs i)
  pub room : length (current_lines s inputs lines fs i).0 < greatest_id

abbrev pub AreTruthsOver : PlainFlatSystem → List PlainFormula → Type 0
AreTruthsOver f fs = AllByRecursion (λ (x : PlainFormula). IsTruthOver f.scope f.variables x.term) fs

-- what is in lines for the queries of a system
pub record IsReady (f : PlainFlatSystem) (inputs : List ℕ) (lines : List Line) : Type 0 where
  pub there : IsSetUp f.scope f.variables inputs lines
  pub assumptions : AreTruthsOver f f.assumptions
  pub currents : AreTruthsOver f f.currents
  pub reachables : AreTruthsOver f f.reachables

abbrev pub AreWithin : ℕ → List ℕ → Type 0
AreWithin n is = AllByRecursion (λ (i : ℕ). i < n) is

pub record CanPutAssumptions (f : PlainFlatSystem) (inputs : List ℕ) (m : AllBuilt) (is : List ℕ) : Type 0 where
  pub ready : IsReady f inputs m.0
  pub within : AreWithin (length f.assumptions) is
  pub room : length (with_assumptions f inputs m is).0 < greatest_id

pub record CanPutCurrents (f : PlainFlatSystem) (inputs : List ℕ) (m : AllBuilt) (is : List ℕ) : Type 0 where
  pub ready : IsReady f inputs m.0
  pub within : AreWithin (length f.currents) is
  pub room : length (with_currents f inputs m is).0 < greatest_id

abbrev pub IsQueryOf : PlainFlatSystem → Query → Type 0
IsQueryOf f q = IsValidQuery (length f.assumptions) (length f.currents) (length f.reachables) q

pub record CanPutConditions (f : PlainFlatSystem) (inputs : List ℕ) (lines : List Line) (q : Query) : Type 0 where
  pub ready : IsReady f inputs lines
  pub whole : IsQueryOf f q
  pub room : length (with_conditions f inputs lines q).0 < greatest_id

-- the lines, and what is known of several reachable formulas
abbrev pub reaching : List Line → List ℕ → List ℕ → Reaching
reaching lines formulas seen = record { lines = lines; formulas = formulas; seen = seen }

pub record CanPutReachable (f : PlainFlatSystem) (inputs name : List ℕ) (m : Reaching) (r : ℕ) : Type 0 where
  pub ready : IsReady f inputs m.lines
  pub within : r < length f.reachables
  pub room : length (with_reachable f inputs name m r).lines < greatest_id

pub record CanPutReachables (f : PlainFlatSystem) (inputs name : List ℕ) (m : Reaching) (rs : List ℕ) : Type 0 where
  pub ready : IsReady f inputs m.lines
  pub within : AreWithin (length f.reachables) rs
  pub room : length (with_reachables f inputs name m rs).lines < greatest_id

-- these are truth values
abbrev pub AreTruths : List Line → List ℕ → Type 0
AreTruths lines ps = AllByRecursion (λ p. width_at lines p ≡ 1) ps

pub record CanPutAllMet (m : Reaching) (before : List ℕ) : Type 0 where
  pub before_truths : AreTruths m.lines before
  pub formula_truths : AreTruths m.lines m.formulas
  pub seen_truths : AreTruths m.lines m.seen
  pub some_formula : 1 ≤ length m.formulas
  pub some_seen : 1 ≤ length m.seen
  pub room : length (with_all_met m before).0 < greatest_id

pub record CanPutOneMet (lines : List Line) (p : ℕ) (before : List ℕ) : Type 0 where
  pub before_truths : AreTruths lines before
  pub truth : width_at lines p ≡ 1
  pub room : length (with_one_met (lines, p) before).0 < greatest_id

-- the word of a query of several reachable formulas
abbrev pub several_lines : PlainFlatSystem → List ℕ → Query → List ℕ → List Line → Built
several_lines f inputs q before lines = with_all_met (with_reachables f inputs q.name (reaching lines [] []) q.reachables) before

pub record CanPutSeveral (f : PlainFlatSystem) (inputs : List ℕ) (q : Query) (before : List ℕ) (lines : List Line) : Type 0 where
  pub ready : IsReady f inputs lines
  pub whole : IsQueryOf f q
  pub before_truths : AreTruths lines before
  pub room : length (several_lines f inputs q before lines).0 < greatest_id

pub record CanPutGoal (f : PlainFlatSystem) (inputs : List ℕ) (q : Query) (before : List ℕ) (lines : List Line) : Type 0 where
  pub ready : IsReady f inputs lines
  pub whole : IsQueryOf f q
  pub before_truths : AreTruths lines before
  pub room : length (with_goal f inputs q before lines q.reachables).0 < greatest_id

-- the word of a query, behind its conditions where it has any
abbrev pub whole_goal : PlainFlatSystem → List ℕ → List Line → Query → Built
whole_goal f inputs lines q =
    let chain = with_conditions f inputs lines q in
    if has_conditions q.assumptions q.currents then with_goal f inputs q (chain.1 ∷ []) chain.0 q.reachables else with_goal f inputs q [] lines q.reachables

pub record CanPutQuery (f : PlainFlatSystem) (inputs : List ℕ) (lines : List Line) (q : Query) : Type 0 where
  pub ready : IsReady f inputs lines
  pub whole : IsQueryOf f q
  pub room : length (with_query f inputs lines q) < greatest_id

pub record CanPutQueries (f : PlainFlatSystem) (inputs : List ℕ) (lines : List Line) (qs : List Query) : Type 0 where
  pub ready : IsReady f inputs lines
  pub whole : AllByRecursion (IsQueryOf f) qs
  pub room : length (with_queries f inputs lines qs) < greatest_id
