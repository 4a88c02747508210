-- What an evaluation of a term asks for gives what those of its parts ask for.
use Rattle.std.proofs.Common.{◌≡◌, ℕ, ◌<◌, ◌≤◌, ◌++◌, List, [], ◌∷◌, length, take, map, Option, None, Some, sym, ap, ◌∙◌, subst, arith, refl}
use Rattle.moxi_terms.specs.declared.data.Sort.{Sort}
use Rattle.moxi_terms.specs.declared.data.Datum.{Datum}
use Rattle.moxi_terms.specs.declared.data.TermOp.{TermOp}
use Rattle.moxi_terms.specs.declared.term.Enumeration.{Enumeration}
use Rattle.moxi_terms.specs.Applied.{CanApply}
use Rattle.moxi_terms.specs.Sorts.{Fit}
use Rattle.moxi_terms.specs.Sorted.{HasSort, HaveSorts, IsScope, IsReady, FitLater}
use Rattle.moxi_terms.specs.Applications.{one, two}
use Rattle.moxi_terms.specs.Tree.{Tree, apply, binding, call, Trees, no_trees, tree, PlainFunction, sorts_of}
use Rattle.moxi_terms.specs.Value.{at, term_value, term_values, calls_upto, later_of}
use Rattle.std.specs.Borrow.{Bor}
use Rattle.std.proofs.lemmas.List.{length-map, take_all}
use Rattle.moxi_terms.specs.declared.term.Function.{Function}
use Rattle.moxi_terms.specs.View.{ScopeState, plain_function}
use Rattle.moxi_terms.specs.Evaluated.{CanEvaluate, CanEvaluateAll, CanCall}
use Rattle.moxi_terms.proofs.ValueLaws.{calls_suit, suits, values_sorted, fit_append, taken_at}

-- the values of terms are of their sorts
pub all_fit : (fs : List PlainFunction) (k : ℕ) (now later vals : List Datum) (ts : Trees) (c : CanEvaluateAll fs k now later vals ts)
    → Fit c.enumerations c.sorts (term_values (calls_upto fs k) (at now) (at later) vals ts)
all_fit fs k now later vals ts c =
    values_sorted c.enumerations (take k fs) (calls_upto fs k) (calls_suit c.enumerations fs c.functions k) c.vars (at now) (at later)
    (suits c.enumerations c.vars now c.fit_now) (suits c.enumerations c.vars later c.fit_later) c.bounds vals ts c.sorts c.fit_bound c.sorted

module _ (fs : List PlainFunction) (k : ℕ) (now later bound_now : List Datum) where
  abbrev all_of : (ts : Trees) (ss : List Sort) (t : Tree) (c : CanEvaluate fs k now later bound_now t) → HaveSorts c.enumerations (take k fs) c.vars c.bounds ts ss → CanEvaluateAll fs k now later bound_now ts
  all_of ts ss t c h = record {
    enumerations = c.enumerations;
    vars = c.vars;
    bounds = c.bounds;
    sorts = ss;
    within = c.within;
    functions = c.functions;
    fit_now = c.fit_now;
    fit_later = c.fit_later;
    fit_bound = c.fit_bound;
    sorted = h;
  }

  sorted_at : (t u : Tree) (c : CanEvaluate fs k now later bound_now t) → t ≡ u → HasSort c.enumerations (take k fs) c.vars c.bounds u c.sort
  sorted_at t u c e = subst (λ t. HasSort c.enumerations (take k fs) c.vars c.bounds t c.sort) e c.sorted

  pub apply_can : (t : Tree) (o : TermOp) (ts : Trees) (vs : List Datum) → CanEvaluate fs k now later bound_now t → t ≡ apply o ts → vs ≡ term_values (calls_upto fs k) (at now) (at later) bound_now ts → CanApply o vs
  apply_can t o ts vs c e f =
      let h = sorted_at t (apply o ts) c e in
      record {
        enumerations = c.enumerations;
        sorts = h.0;
        sort = c.sort;
        fit = subst (Fit c.enumerations h.0) (sym f) (all_fit fs k now later bound_now ts (all_of ts h.0 t c h.1));
        sorted = h.2;
      }

  pub let_body : (t : Tree) (names : List (List ℕ)) (ts : Trees) (u : Tree) (vs : List Datum) → CanEvaluate fs k now later bound_now t → t ≡ binding names ts u
      → vs ≡ term_values (calls_upto fs k) (at now) (at later) bound_now ts → CanEvaluate fs k now later (bound_now ++ vs) u
  let_body t names ts u vs c e f =
      let h = sorted_at t (binding names ts u) c e in
      record {
        enumerations = c.enumerations;
        vars = c.vars;
        bounds = c.bounds ++ h.0;
        sort = c.sort;
        within = c.within;
        functions = c.functions;
        fit_now = c.fit_now;
        fit_later = c.fit_later;
        fit_bound = fit_append c.enumerations c.bounds h.0 bound_now vs c.fit_bound (subst (Fit c.enumerations h.0) (sym f) (all_fit fs k now later bound_now ts (all_of ts h.0 t c h.2)));
        sorted = h.3;
      }

  pub call_can : (t : Tree) (n : ℕ) (ts : Trees) (vs : List Datum) → CanEvaluate fs k now later bound_now t → t ≡ call n ts → vs ≡ term_values (calls_upto fs k) (at now) (at later) bound_now ts → CanCall fs k n vs
  call_can t n ts vs c e f =
      let h = sorted_at t (call n ts) c e in
      record {
        enumerations = c.enumerations;
        function = h.0;
        there = h.1;
        within = c.within;
        functions = c.functions;
        fit = subst (Fit c.enumerations (sorts_of h.0.parameters)) (sym f) (all_fit fs k now later bound_now ts (all_of ts (sorts_of h.0.parameters) t c h.2));
      }

  split : (es : List Enumeration) (vars bounds : List Sort) (t : Tree) (ts : Trees) (ss : List Sort) → HaveSorts es (take k fs) vars bounds (tree t ts) ss
      → (s : Sort) × (rest : List Sort) × HasSort es (take k fs) vars bounds t s × HaveSorts es (take k fs) vars bounds ts rest
  split es vars bounds t ts [] h = absurd h
  split es vars bounds t ts (s ∷ ss) h = (s, ss, h.0, h.1)

  pub first_can : (ts : Trees) (t : Tree) (us : Trees) → CanEvaluateAll fs k now later bound_now ts → ts ≡ tree t us → CanEvaluate fs k now later bound_now t
  first_can ts t us c e =
      let h = split c.enumerations c.vars c.bounds t us c.sorts (subst (λ ts. HaveSorts c.enumerations (take k fs) c.vars c.bounds ts c.sorts) e c.sorted) in
      record {
        enumerations = c.enumerations;
        vars = c.vars;
        bounds = c.bounds;
        sort = h.0;
        within = c.within;
        functions = c.functions;
        fit_now = c.fit_now;
        fit_later = c.fit_later;
        fit_bound = c.fit_bound;
        sorted = h.2;
      }

  pub rest_can : (ts : Trees) (t : Tree) (us : Trees) → CanEvaluateAll fs k now later bound_now ts → ts ≡ tree t us → CanEvaluateAll fs k now later bound_now us
  rest_can ts t us c e =
      let h = split c.enumerations c.vars c.bounds t us c.sorts (subst (λ ts. HaveSorts c.enumerations (take k fs) c.vars c.bounds ts c.sorts) e c.sorted) in
      record {
        enumerations = c.enumerations;
        vars = c.vars;
        bounds = c.bounds;
        sorts = h.1;
        within = c.within;
        functions = c.functions;
        fit_now = c.fit_now;
        fit_later = c.fit_later;
        fit_bound = c.fit_bound;
        sorted = h.3;
      }

  -- the terms of an application
  apply_all : (o : TermOp) (ts : Trees) → CanEvaluate fs k now later bound_now (apply o ts) → CanEvaluateAll fs k now later bound_now ts
  apply_all o ts c = all_of ts c.sorted.0 (apply o ts) c c.sorted.1

  pub first_of_two : (o : TermOp) (a b : Tree) → CanEvaluate fs k now later bound_now (apply o (two a b)) → CanEvaluate fs k now later bound_now a
  first_of_two o a b c = first_can (two a b) a (one b) (apply_all o (two a b) c) refl

  pub second_of_two : (o : TermOp) (a b : Tree) → CanEvaluate fs k now later bound_now (apply o (two a b)) → CanEvaluate fs k now later bound_now b
  second_of_two o a b c = first_can (one b) b no_trees (rest_can (two a b) a (one b) (apply_all o (two a b) c) refl) refl

pub both : {x y v w : Datum} → x ≡ v → y ≡ w → (x ∷ y ∷ []) ≡ (v ∷ w ∷ [])
both {x} {y} {v} {w} e f = ap (λ d. d ∷ y ∷ []) e ∙ ap (λ d. v ∷ d ∷ []) f

-- a function's body may be evaluated under its arguments
pub body_can : (fs : List PlainFunction) (k n : ℕ) (args : List Datum) (body : Tree) (c : CanCall fs k n args) → c.function.body ≡ body → CanEvaluate fs n args args [] body
body_can fs k n args body c e =
    let p = taken_at fs k n c.function c.there in
    let f = c.functions n c.function p.0 in
    record {
      enumerations = c.enumerations;
      vars = sorts_of c.function.parameters;
      bounds = [];
      sort = c.function.result;
      within = (let l : n < k = p.1 in let m : k ≤ length fs = c.within in omega arith);
      functions = c.functions;
      fit_now = c.fit;
      fit_later = c.fit;
      fit_bound = tt;
      sorted = subst (λ b. HasSort c.enumerations (take n fs) (sorts_of c.function.parameters) [] b c.function.result) e f.body;
    }

-- what the evaluation of a whole term asks for
pub ready_can : (s : ScopeState) (now : List Datum) (later : Option (Bor (List Datum))) (t : Tree) (fs : List Function) (n : ℕ) (l vals : List Datum)
    → IsScope s → IsReady s now later t → map plain_function fs ≡ s.functions → n ≡ length fs → l ≡ later_of now later → vals ≡ [] → CanEvaluate (map plain_function fs) n now l vals t
ready_can s now later t fs n l vals scope r e f g h =
    let all : map plain_function fs ≡ s.functions = e in
    let long : n ≡ length s.functions = f ∙ sym (length-map fs plain_function) ∙ ap length all in
    let here : CanEvaluate s.functions (length s.functions) now (later_of now later) [] t = record {
      enumerations = s.enumerations;
      vars = r.vars;
      bounds = [];
      sort = r.sort;
      within = omega arith;
      functions = scope.functions;
      fit_now = r.fit;
      fit_later = later_fits s.enumerations r.vars now t later r.fit r.fit_later;
      fit_bound = tt;
      sorted = subst (λ gs. HasSort s.enumerations gs r.vars [] t r.sort) (sym (take_all (length s.functions) s.functions (omega arith))) r.sorted;
    } in
    subst (λ fs. CanEvaluate fs n now l vals t) (sym all) (subst (λ n. CanEvaluate s.functions n now l vals t) (sym long)
    (subst (λ l. CanEvaluate s.functions (length s.functions) now l vals t) (sym g) (subst (λ b. CanEvaluate s.functions (length s.functions) now (later_of now later) b t) (sym h) here)))
  where
    later_fits : (es : List Enumeration) (vars : List Sort) (now : List Datum) (t : Tree) (later : Option (Bor (List Datum))) → Fit es vars now → FitLater es vars t later → Fit es vars (later_of now later)
    later_fits es vars now t None f g = f
    later_fits es vars now t (Some x) f g = g

pub ready_value : (s : ScopeState) (now m : List Datum) (t : Tree) (fs : List Function) (n : ℕ) (l vals : List Datum) → map plain_function fs ≡ s.functions → n ≡ length fs → l ≡ m → vals ≡ []
    → term_value (calls_upto (map plain_function fs) n) (at now) (at l) vals t ≡ term_value (calls_upto s.functions (length s.functions)) (at now) (at m) [] t
ready_value s now m t fs n l vals e f g h =
    ap (λ fs. term_value (calls_upto fs n) (at now) (at l) vals t) e
    ∙ ap (λ n. term_value (calls_upto s.functions n) (at now) (at l) vals t) (f ∙ sym (length-map fs plain_function) ∙ ap length e)
    ∙ ap (λ l. term_value (calls_upto s.functions (length s.functions)) (at now) (at l) vals t) g
    ∙ ap (λ b. term_value (calls_upto s.functions (length s.functions)) (at now) (at m) b t) h
