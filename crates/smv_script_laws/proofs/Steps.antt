-- The body of a definition or an actual whose paths have their values under a state and a label.
use Rattle.std.proofs.Common.{◌≡◌, ℕ, ◌≤◌, Bool, true, false, if◌then◌else◌, List, [], Some, refl, sym, ap, ◌∙◌, subst}
use Rattle.smv_text.specs.declared.tree.Path.{Path}
use Rattle.smv_text.specs.Tree.{Tree}
use Rattle.smv_meaning.specs.declared.value.Value.{Value}
use Rattle.smv_meaning.specs.Values.{Valuation}
use Rattle.smv_meaning.specs.Expressions.{denote, paths_of}
use Rattle.smv_meaning.specs.Instances.{Instance}
use Rattle.smv_meaning.specs.Names.{found_in}
use Rattle.smv_meaning.specs.Types.{ExprType}
use Rattle.smv_meaning.specs.Checks.{Named, Typing, passes, typing}
use Rattle.smv_meaning.specs.Naming.{in_body, unnamed}
use Rattle.smv_meaning.specs.Runs.{state_fits, label_fits}
use Rattle.smv_meaning.specs.Typed.{Lies}
use Rattle.smv_meaning.specs.Settled.{types_in, values_in}
use Rattle.smv_laws.proofs.Cycles.{In}
use Rattle.smv_laws.proofs.Agreeing.{denote_same, SameNames, typing_same}
use Rattle.smv_laws.proofs.ValueLaws.{paths_lie_law}
use Rattle.smv_items.specs.FlatItems.{leaf_in, symbols_of}
use Rattle.smv_flat.specs.FlatTree.{FlatTree}
use Rattle.smv_flat.specs.FlatForms.{flat_in}
use Rattle.smv_flat.specs.FlatTruth.{Row}
use Rattle.smv_flat_laws.proofs.FlatRows.{row_reads}
use Rattle.moxi_terms.specs.Value.{Calls, Values}
use Rattle.smv_flat.specs.FlatWidth.{tree_width}
use Rattle.smv_width.specs.SourceWidth.{expression_width}
use Rattle.smv_width.proofs.SourceWidths.{same_width}
use Rattle.smv_script.specs.Terms.{Coding, translation}
use Rattle.smv_script_laws.specs.Meanings.{Says}
use Rattle.smv_script_laws.proofs.Translations.{says}
use Rattle.smv_script_laws.proofs.Trees.{flat_tree_same}
use Rattle.smv_script_laws.proofs.Bodies.{IsBody}
use Rattle.smv_script_laws.proofs.Models.{IsCoded, found_stands}

-- a state and a label of the declared types
pub record Fit (t : List Instance) (state label : Valuation) : Type 0 where
  pub of_state : state_fits t state ≡ true
  pub of_label : label_fits t label ≡ true

-- the row gives the paths of a body the values that they have under a state and a label
pub record Reads (t : List Instance) (row : Row) (state label : Valuation) (j : ℕ) (e : Tree) : Type 0 where
  pub good : Path → Bool
  pub own : (q : Path) → In q (paths_of e []) → good q ≡ true
  pub same : (q : Path) → good q ≡ true → row_reads t row j q ≡ values_in t state label j q

-- names of which only the good ones have types
abbrev good_names : (Path → Bool) → (Path → Named) → Path → Named
good_names good names q = if good q then names q else unnamed

good_lies : (b : Bool) (n : Named) (v w : Value) → (b ≡ true → v ≡ w) → Lies n.type w → Lies (if b then n else unnamed).type v
good_lies true n v w h l = subst (λ z. Lies n.type z) (sym (h refl)) l
good_lies false n v w h l = tt

good_same : (good : Path → Bool) (names : Path → Named) (xs : List Path) → ((q : Path) → In q xs → good q ≡ true) → SameNames (good_names good names) names xs
good_same good names xs h q i = ap (λ b. if b then names q else unnamed) (h q i)

pub body_says : (t : List Instance) (c : Coding) → 1 ≤ c.width → (calls : Calls) (row : Row) (env : Values) → IsCoded t c.width c.place row env → (state label : Valuation) → Fit t state label
    → (j : ℕ) (e : Tree) → IsBody t j e → tree_width (flat_in t j in_body e) ≤ c.width → (u : ExprType) → (typing (types_in true t j) in_body e).type ≡ Some u → Reads t row state label j e
    → Says c.width (symbols_of t) calls env env u (denote (values_in t state label j) (values_in t state label j) e) false (translation c (flat_in t j in_body e))
body_says t c some calls row env k state label fit j e b wide u typed r =
    let names = types_in true t j in
    let few = good_names r.good names in
    let same = good_same r.good names (paths_of e []) r.own in
    let types = typing_same few names in_body e [] same in
    let trees = flat_tree_same few names (leaf_in t j) in_body false e [] same in
    let checks : passes (typing few in_body e).checks ≡ true = subst (λ (a : Typing). passes a.checks ≡ true) (sym types) b.placed.checks in
    let width : expression_width few in_body e ≤ c.width = subst (λ n. n ≤ c.width) (sym (ap tree_width trees) ∙ same_width few (leaf_in t j) in_body false e b.operators checks) wide in
    let f = row_reads t row j in
    let lies = λ (q : Path). good_lies (r.good q) (names q) (f q) (values_in t state label j q) (r.same q) (paths_lie_law t true state label fit.of_state (λ z. fit.of_label) j q) in
    let stands = λ (q : Path). found_stands t c.width c.place row env k (found_in t j q) in
    let meant : denote f f e ≡ denote (values_in t state label j) (values_in t state label j) e =
    denote_same f f (values_in t state label j) (values_in t state label j) e [] (λ q i. (r.same q (r.own q i), r.same q (r.own q i))) in
    subst (λ d. Says c.width (symbols_of t) calls env env u d false (translation c (flat_in t j in_body e))) meant
    (subst (λ (x : FlatTree). Says c.width (symbols_of t) calls env env u (denote f f e) false (translation c x)) trees
    (says c (symbols_of t) some calls env env few (leaf_in t j) f lies stands false f lies stands in_body e b.operators width u (ap (λ (a : Typing). a.type) types ∙ typed)))
