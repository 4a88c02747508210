-- What the evaluation of a flat expression needs: each integer that it comes to fits 64 bits. In the rows of states and labels whose
-- values are of the declared types, each formula of an accepted model's flat form is so.
use Rattle.std.specs.Prelude.{ℕ, pos, List, IsTrue}
use Rattle.std.specs.List.{AllByRecursion}
use Rattle.smv_text.specs.Tree.{PlainSource}
use Rattle.smv_meaning.specs.declared.value.Value.{Value}
use Rattle.smv_meaning.specs.declared.value.Value.TheVariants.{Integer}
use Rattle.smv_meaning.specs.Values.{Valuation}
use Rattle.smv_meaning.specs.Operators.{signed, called}
use Rattle.smv_meaning.specs.Instances.{instances_of}
use Rattle.smv_meaning.specs.Phases.{IsAccepted}
use Rattle.smv_meaning.specs.Runs.{state_fits, label_fits}
use Rattle.smv_meaning.specs.Safety.{Fits, front_value}
use Rattle.smv_meaning.specs.Literals.{words_fit}
use Rattle.smv_meaning.specs.Checked.{all_trees}
use Rattle.smv_operators.specs.declared.seen.Seen.{Seen}
use Rattle.smv_flat.specs.FlatTree.{FlatTree, flat_truth, flat_number, flat_literal, flat_symbol, flat_item, flat_prefix, flat_chain, flat_choice, flat_cases, flat_select, flat_call, flat_set, flat_range, FlatLinks, no_flat_links, flat_link, FlatBranches, no_flat_branches, flat_branch, FlatTrees, no_flat_trees, flat_tree_then, flat_denote, flat_values}
use Rattle.smv_flat.specs.FlatForms.{Form, PlainFlat, flat_smv}
use Rattle.smv_flat.specs.FlatTruth.{Row, IsRow, symbol_value}
use Rattle.smv_flat_evaluation.specs.RowValues.{row_values}

-- given the values of symbols, and of items in this state and in the following one
abbrev mutual
  pub FlatSafe : (ℕ → Value) → (ℕ → Value) → (ℕ → Value) → FlatTree → Type 0
  FlatSafe symbols now later (flat_truth t b) = Unit {0}
  FlatSafe symbols now later (flat_number t n) = Fits (Integer (pos n))
  FlatSafe symbols now later (flat_literal t w) = Unit {0}
  FlatSafe symbols now later (flat_symbol t s) = Unit {0}
  FlatSafe symbols now later (flat_item t k under) = Unit {0}
  FlatSafe symbols now later (flat_prefix t sign n e) = FlatSafe symbols now later e × Fits (signed sign n (flat_denote symbols now later e).value)
  FlatSafe symbols now later (flat_chain t e ls) =
      FlatSafe symbols now later e × FlatSafeLinks symbols now later (flat_denote symbols now later e).value ls × FlatSafeOperands symbols now later ls
  FlatSafe symbols now later (flat_choice t bs e) = FlatSafeBranches symbols now later bs × FlatSafe symbols now later e
  FlatSafe symbols now later (flat_cases t bs) = FlatSafeBranches symbols now later bs
  FlatSafe symbols now later (flat_select t e high low) = FlatSafe symbols now later e
  FlatSafe symbols now later (flat_call t f es) = FlatSafeTrees symbols now later es × Fits (called f (flat_values symbols now later es))
  FlatSafe symbols now later (flat_set t es) = FlatSafeTrees symbols now later es
  FlatSafe symbols now later (flat_range t low high) = Unit {0}

  -- the operands of a chain that is read from the left, and its fronts, given the value of what is before
  pub FlatSafeLinks : (ℕ → Value) → (ℕ → Value) → (ℕ → Value) → Value → FlatLinks → Type 0
  FlatSafeLinks symbols now later v no_flat_links = Unit {0}
  FlatSafeLinks symbols now later v (flat_link op e ls) =
      FlatSafe symbols now later e × Fits (front_value op v (flat_denote symbols now later e)) × FlatSafeLinks symbols now later (front_value op v (flat_denote symbols now later e)) ls

  -- the operands alone
  pub FlatSafeOperands : (ℕ → Value) → (ℕ → Value) → (ℕ → Value) → FlatLinks → Type 0
  FlatSafeOperands symbols now later no_flat_links = Unit {0}
  FlatSafeOperands symbols now later (flat_link op e ls) = FlatSafe symbols now later e × FlatSafeOperands symbols now later ls

  pub FlatSafeBranches : (ℕ → Value) → (ℕ → Value) → (ℕ → Value) → FlatBranches → Type 0
  FlatSafeBranches symbols now later no_flat_branches = Unit {0}
  FlatSafeBranches symbols now later (flat_branch c e rest) = FlatSafe symbols now later c × FlatSafe symbols now later e × FlatSafeBranches symbols now later rest

  pub FlatSafeTrees : (ℕ → Value) → (ℕ → Value) → (ℕ → Value) → FlatTrees → Type 0
  FlatSafeTrees symbols now later no_flat_trees = Unit {0}
  FlatSafeTrees symbols now later (flat_tree_then e es) = FlatSafe symbols now later e × FlatSafeTrees symbols now later es

-- ---- over values that are in lists

abbrev pub RowSafe : List (List ℕ) → (now later : List Seen) → FlatTree → Type 0
RowSafe symbols now later e = FlatSafe (symbol_value symbols) (row_values now) (row_values later) e

abbrev pub RowSafeLinks : List (List ℕ) → (now later : List Seen) → Value → FlatLinks → Type 0
RowSafeLinks symbols now later v ls = FlatSafeLinks (symbol_value symbols) (row_values now) (row_values later) v ls

abbrev pub RowSafeOperands : List (List ℕ) → (now later : List Seen) → FlatLinks → Type 0
RowSafeOperands symbols now later ls = FlatSafeOperands (symbol_value symbols) (row_values now) (row_values later) ls

abbrev pub RowSafeBranches : List (List ℕ) → (now later : List Seen) → FlatBranches → Type 0
RowSafeBranches symbols now later bs = FlatSafeBranches (symbol_value symbols) (row_values now) (row_values later) bs

abbrev pub RowSafeTrees : List (List ℕ) → (now later : List Seen) → FlatTrees → Type 0
RowSafeTrees symbols now later es = FlatSafeTrees (symbol_value symbols) (row_values now) (row_values later) es

-- ---- the formulas of a flat form

abbrev pub FormsSafe : PlainFlat → (now later : Row) → List Form → Type 0
FormsSafe flat now later fs = AllByRecursion (λ f. FlatSafe (symbol_value flat.symbols) now later f.body) fs

-- in the rows of two states and their labels, where each word literal of the model is a word
abbrev pub FormsAreSafe : Type 0
FormsAreSafe = (source : PlainSource) (needed : ℕ) → IsAccepted source needed → IsTrue (all_trees words_fit (instances_of source))
    → (state label following other : Valuation) → IsTrue (state_fits (instances_of source) state) → IsTrue (label_fits (instances_of source) label)
    → IsTrue (state_fits (instances_of source) following) → IsTrue (label_fits (instances_of source) other)
    → (now later : Row) → IsRow (flat_smv source) state label now → IsRow (flat_smv source) following other later
    → FormsSafe (flat_smv source) now later (flat_smv source).forms
