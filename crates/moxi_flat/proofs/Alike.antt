-- Renumbering looks at the numbers of a term's variables alone, and keeps its size and its height.
use Rattle.std.proofs.Common.{◌≡◌, ℕ, suc, ◌+◌, ◌<◌, ◌++◌, max, List, length, refl, ap, ◌∙◌, subst}
use Rattle.std.proofs.lemmas.List.{length-append, length-map}
use Rattle.moxi_terms.specs.Tree.{Tree, constant, variable, bound, apply, binding, call, Trees, no_trees, tree, list_of}
use Rattle.moxi_scripts.specs.declared.script.Subsystem.{Subsystem}
use Rattle.moxi_scripts.specs.Script.{PlainSystem, system_at, variables_in}
use Rattle.moxi_flat.specs.Terms.{operator_size, term_height, term_size, terms_height, terms_size}
use Rattle.moxi_flat.specs.Instantiating.{HasActuals, RenumbersConsistently, SystemsAreOverVariables}
use Rattle.moxi_flat.specs.Renumbering.{AreOver, IsOver, all_renumbered, renumbered}
use Rattle.moxi_flat.proofs.Fine.{interface, own_sorts, sort_of}
use Rattle.moxi_flat.proofs.Scripts.{are_fine, there_at}
use Rattle.moxi_flat.proofs.Values.{ActualsFit, actual_there, actuals_long}
use Rattle.moxi_terms.proofs.ScopeLaws.{all_of}

module _ (n : ℕ) (place other : ℕ → ℕ) (agree : (v : ℕ) → v < n → place v ≡ other v) where
  mutual
    same_renumbered : (t : Tree) → IsOver n t → renumbered place t ≡ renumbered other t
    same_renumbered (constant d) h = refl
    same_renumbered (variable v primed) h = ap (λ k. variable k primed) (agree v h)
    same_renumbered (bound i) h = refl
    same_renumbered (apply o ts) h = ap (apply o) (all_same ts h)
    same_renumbered (binding names ts t) h = ap (λ us. binding names us (renumbered place t)) (all_same ts h.0) ∙ ap (binding names (all_renumbered other ts)) (same_renumbered t h.1)
    same_renumbered (call m ts) h = ap (call m) (all_same ts h)

    all_same : (ts : Trees) → AreOver n ts → all_renumbered place ts ≡ all_renumbered other ts
    all_same no_trees h = refl
    all_same (tree t ts) h = ap (λ u. tree u (all_renumbered place ts)) (same_renumbered t h.0) ∙ ap (tree (renumbered other t)) (all_same ts h.1)

list_long : (place : ℕ → ℕ) (ts : Trees) → length (list_of (all_renumbered place ts)) ≡ length (list_of ts)
list_long place no_trees = refl
list_long place (tree t ts) = ap suc (list_long place ts)

module _ (calls : ℕ → ℕ) (place : ℕ → ℕ) where
  mutual
    pub same_size : (t : Tree) → term_size calls (renumbered place t) ≡ term_size calls t
    same_size (constant d) = refl
    same_size (variable v primed) = refl
    same_size (bound i) = refl
    same_size (apply o ts) = ap (λ n. operator_size o n + terms_size calls (all_renumbered place ts)) (list_long place ts) ∙ ap (λ n. operator_size o (length (list_of ts)) + n) (same_sizes ts)
    same_size (binding names ts t) = ap (λ n. 1 + (n + term_size calls (renumbered place t))) (same_sizes ts) ∙ ap (λ n. 1 + (terms_size calls ts + n)) (same_size t)
    same_size (call m ts) = ap (λ n. 1 + (n + calls m)) (same_sizes ts)

    same_sizes : (ts : Trees) → terms_size calls (all_renumbered place ts) ≡ terms_size calls ts
    same_sizes no_trees = refl
    same_sizes (tree t ts) = ap (λ n. n + terms_size calls (all_renumbered place ts)) (same_size t) ∙ ap (λ n. term_size calls t + n) (same_sizes ts)

  mutual
    pub same_height : (t : Tree) → term_height calls (renumbered place t) ≡ term_height calls t
    same_height (constant d) = refl
    same_height (variable v primed) = refl
    same_height (bound i) = refl
    same_height (apply o ts) = ap (λ n. 1 + n) (same_heights ts)
    same_height (binding names ts t) = ap (λ n. 1 + max n (term_height calls (renumbered place t))) (same_heights ts) ∙ ap (λ n. 1 + max (terms_height calls ts) n) (same_height t)
    same_height (call m ts) = ap (λ n. 1 + max n (calls m)) (same_heights ts)

    same_heights : (ts : Trees) → terms_height calls (all_renumbered place ts) ≡ terms_height calls ts
    same_heights no_trees = refl
    same_heights (tree t ts) = ap (λ n. max n (terms_height calls (all_renumbered place ts))) (same_height t) ∙ ap (λ n. max (term_height calls t) n) (same_heights ts)

pub renumbers_consistently_law : RenumbersConsistently
renumbers_consistently_law = record {
  same = λ n place other agree t h. same_renumbered n place other agree t h;
  size = λ calls place t. same_size calls place t;
  height = λ calls place t. same_height calls place t;
}

-- SYSTEMS

has_actuals : (ss : List PlainSystem) (x : PlainSystem) (b : Subsystem) → (b.system < length ss) × ActualsFit (own_sorts x) b.actuals (interface (system_at ss b.system)) → HasActuals ss (length (variables_in x)) b
has_actuals ss x b h =
    let inner = system_at ss b.system in
    record {
      there = h.0;
      long = actuals_long (own_sorts x) b.actuals (interface inner) h.1 ∙ length-map (inner.inputs ++ inner.outputs) sort_of ∙ length-append inner.inputs inner.outputs;
      variables = λ a v g. subst (λ n. v < n) (length-map (variables_in x) sort_of) (actual_there (own_sorts x) b.actuals (interface inner) a v h.1 g);
    }

pub systems_are_over_variables_law : SystemsAreOverVariables
systems_are_over_variables_law s w i there =
    let x = system_at s.systems i in
    let f = are_fine s w i there in
    let long = length-map (variables_in x) sort_of in
    record {
      init = subst (λ n. IsOver n x.init) long f.init;
      trans = subst (λ n. IsOver n x.trans) long f.trans;
      inv = subst (λ n. IsOver n x.inv) long f.inv;
      subsystems =
          all_of (λ (b : Subsystem). (b.system < length s.systems) × ActualsFit (own_sorts x) b.actuals (interface (system_at s.systems b.system))) (HasActuals s.systems (length (variables_in x))) x.subsystems
          (has_actuals s.systems x) (there_at s w (λ b. ActualsFit (own_sorts x) b.actuals (interface (system_at s.systems b.system))) i there f.actuals);
    }
