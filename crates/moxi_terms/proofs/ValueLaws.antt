-- A term that has a sort has a value of that sort.
use Rattle.std.proofs.Common.{◌≡◌, ℕ, zero, suc, ◌<◌, ◌≤◌, cond, true, false, List, [], ◌∷◌, ◌++◌, length, take, Some, sym, ap, ◌∙◌, subst, arith, inl, inr}
use Rattle.std.specs.Prelude.{slice_get, slice_index_or}
use Rattle.std.proofs.lemmas.Option.{same_Some, none-some}
use Rattle.std.proofs.lemmas.Bool.Decides.{eqb_tells}
use Rattle.std.proofs.lemmas.List.{take_all}
use Rattle.moxi_terms.specs.declared.data.Sort.{Sort}
use Rattle.moxi_terms.specs.declared.data.Datum.{Datum}
use Rattle.moxi_terms.specs.declared.term.Enumeration.{Enumeration}
use Rattle.moxi_terms.specs.Sorts.{IsOf, Fit}
use Rattle.moxi_terms.specs.Tree.{Tree, constant, variable, bound, apply, binding, call, Trees, no_trees, tree, PlainFunction, sorts_of}
use Rattle.moxi_terms.specs.Value.{Calls, Values, at, term_value, term_values, calls_upto, body_at}
use Rattle.moxi_terms.specs.Sorted.{HasSort, HaveSorts, AreFunctions}
use Rattle.moxi_terms.proofs.OperatorLaws.{op_sorted}

-- a function's value is its body's
pub calls_at : (fs : List PlainFunction) (k n : ℕ) (args : List Datum) → n < k → calls_upto fs k n args ≡ term_value (calls_upto fs n) (at args) (at args) [] (body_at fs n)
calls_at fs zero n args h = absurd (omega arith)
calls_at fs (suc k) n args h =
    elim (eqb_tells n k) [
      | inl e ↦ ap (λ b. cond b (term_value (calls_upto fs k) (at args) (at args) [] (body_at fs k)) (calls_upto fs k n args)) e.0
          ∙ ap (λ k. term_value (calls_upto fs k) (at args) (at args) [] (body_at fs k)) (sym e.1)
      | inr e ↦ ap (λ b. cond b (term_value (calls_upto fs k) (at args) (at args) [] (body_at fs k)) (calls_upto fs k n args)) e.0
          ∙ calls_at fs k n args (let h2 : n < k = grind arith in h2)
    ]

-- an element of a front
pub taken_at : {A : Type 0} (xs : List A) (k n : ℕ) (x : A) → slice_get (take k xs) n ≡ Some x → (slice_get xs n ≡ Some x) × (n < k)
taken_at [] zero n x h = absurd (none-some x h)
taken_at [] (suc k) n x h = absurd (none-some x h)
taken_at (y ∷ ys) zero n x h = absurd (none-some x h)
taken_at (y ∷ ys) (suc k) zero x h = (h, omega arith)
taken_at (y ∷ ys) (suc k) (suc n) x h = let p = taken_at ys k n x h in (p.0, let q : n < k = p.1 in omega arith)

pub read_at : {A : Type 0} (xs : List A) (n : ℕ) (x d : A) → slice_get xs n ≡ Some x → slice_index_or xs n d ≡ x
read_at [] n x d h = absurd (none-some x h)
read_at (y ∷ ys) zero x d h = same_Some y x h
read_at (y ∷ ys) (suc n) x d h = read_at ys n x d h

pub fit_at : (es : List Enumeration) (ss : List Sort) (vs : List Datum) (i : ℕ) (s : Sort) → Fit es ss vs → slice_get ss i ≡ Some s → IsOf es s (at vs i)
fit_at es [] vs i s f h = absurd (none-some s h)
fit_at es (t ∷ ss) [] i s f h = absurd f
fit_at es (t ∷ ss) (v ∷ vs) zero s f h = subst (λ s. IsOf es s v) (same_Some t s h) f.0
fit_at es (t ∷ ss) (v ∷ vs) (suc i) s f h = fit_at es ss vs i s f.1 h

pub fit_append : (es : List Enumeration) (ss ts : List Sort) (vs ws : List Datum) → Fit es ss vs → Fit es ts ws → Fit es (ss ++ ts) (vs ++ ws)
fit_append es [] ts [] ws f g = g
fit_append es [] ts (v ∷ vs) ws f g = absurd f
fit_append es (s ∷ ss) ts [] ws f g = absurd f
fit_append es (s ∷ ss) ts (v ∷ vs) ws f g = (f.0, fit_append es ss ts vs ws f.1 g)

-- each variable has a value of its sort
pub record Suits (es : List Enumeration) (vars : List Sort) (env : Values) : Type 0 where
  pub each : (v : ℕ) (s : Sort) → slice_get vars v ≡ Some s → IsOf es s (env v)

pub suits : (es : List Enumeration) (ss : List Sort) (vs : List Datum) → Fit es ss vs → Suits es ss (at vs)
suits es ss vs f = record { each = λ v s h. fit_at es ss vs v s f h }

-- each function gives a value of its result's sort
pub record CallsSuit (es : List Enumeration) (fs : List PlainFunction) (calls : Calls) : Type 0 where
  pub each : (n : ℕ) (f : PlainFunction) (args : List Datum) → slice_get fs n ≡ Some f → Fit es (sorts_of f.parameters) args → IsOf es f.result (calls n args)

module _ (es : List Enumeration) (fs : List PlainFunction) (calls : Calls) (suit : CallsSuit es fs calls) (vars : List Sort) (now later : Values) (of_now : Suits es vars now) (of_later : Suits es vars later) where
  mutual
    pub value_sorted : (bounds : List Sort) (vals : List Datum) (t : Tree) (s : Sort) → Fit es bounds vals → HasSort es fs vars bounds t s → IsOf es s (term_value calls now later vals t)
    value_sorted bounds vals (constant d) s f h = h
    value_sorted bounds vals (variable v true) s f h = of_later.each v s h
    value_sorted bounds vals (variable v false) s f h = of_now.each v s h
    value_sorted bounds vals (bound i) s f h = fit_at es bounds vals i s f h
    value_sorted bounds vals (apply op ts) s f h = op_sorted es op h.0 (term_values calls now later vals ts) s h.2 (values_sorted bounds vals ts h.0 f h.1)
    value_sorted bounds vals (binding names ts t) s f h =
        value_sorted (bounds ++ h.0) (vals ++ term_values calls now later vals ts) t s (fit_append es bounds h.0 vals _ f (values_sorted bounds vals ts h.0 f h.2)) h.3
    value_sorted bounds vals (call n ts) s f h =
        subst (λ s. IsOf es s (calls n (term_values calls now later vals ts))) h.3 (suit.each n h.0 _ h.1 (values_sorted bounds vals ts (sorts_of h.0.parameters) f h.2))

    pub values_sorted : (bounds : List Sort) (vals : List Datum) (ts : Trees) (ss : List Sort) → Fit es bounds vals → HaveSorts es fs vars bounds ts ss → Fit es ss (term_values calls now later vals ts)
    values_sorted bounds vals no_trees [] f h = tt
    values_sorted bounds vals no_trees (s ∷ ss) f h = absurd h
    values_sorted bounds vals (tree t ts) [] f h = absurd h
    values_sorted bounds vals (tree t ts) (s ∷ ss) f h = (value_sorted bounds vals t s f h.0, values_sorted bounds vals ts ss f h.1)

-- by induction on a bound of the number
suit_below : (es : List Enumeration) (fs : List PlainFunction) → AreFunctions es fs → (b k : ℕ) → k ≤ b → CallsSuit es (take k fs) (calls_upto fs k)
suit_below es fs a zero k le = record { each = λ n f args h g. absurd (let p = taken_at fs k n f h in let q : n < k = p.1 in omega arith) }
suit_below es fs a (suc b) k le = record {
  each = λ n f args h g.
      let p = taken_at fs k n f h in
      let n_small : n ≤ b = omega (arith, p.1) in
      let e : body_at fs n ≡ f.body = ap (λ (f : PlainFunction). f.body) (read_at fs n f _ p.0) in
      let given = suits es (sorts_of f.parameters) args g in
      subst (λ v. IsOf es f.result v) (sym (calls_at fs k n args p.1 ∙ ap (term_value (calls_upto fs n) (at args) (at args) []) e))
      (value_sorted es (take n fs) (calls_upto fs n) (suit_below es fs a b n n_small) (sorts_of f.parameters) (at args) (at args) given given [] [] f.body f.result tt (a n f p.0).body);
}

pub calls_suit : (es : List Enumeration) (fs : List PlainFunction) → AreFunctions es fs → (k : ℕ) → CallsSuit es (take k fs) (calls_upto fs k)
calls_suit es fs a k = suit_below es fs a k k (omega arith)

pub all_suit : (es : List Enumeration) (fs : List PlainFunction) → AreFunctions es fs → CallsSuit es fs (calls_upto fs (length fs))
all_suit es fs a = subst (λ gs. CallsSuit es gs (calls_upto fs (length fs))) (take_all (length fs) fs (omega arith)) (calls_suit es fs a (length fs))
