-- Steps of marking what an expression reaches.
use Rattle.std.proofs.Common.{◌≡◌, ℕ, ◌+◌, ◌<◌, Bool, true, ◌||◌, ◌&&◌, List, [], length, None, is_some, refl, sym, ap, ◌∙◌, subst, arith}
use mathlib.Core.Logic.{⊎_elim}
use Rattle.std.specs.Borrow.{Bor}
use Rattle.std.specs.HashMap.{HashMap}
use Rattle.std.proofs.lemmas.Bool.{cases_lt, or_right}
use Rattle.smv_text.specs.Tree.{Tree}
use Rattle.smv_meaning.specs.Expressions.{paths_of}
use Rattle.smv_meaning.specs.Instances.{Instance}
use Rattle.smv_meaning.specs.Names.{Local, alias, body_of, variable_of, inner, nothing, local, Found, variable_at, body_at, instance_at, symbol_of, cyclic, none, found_in}
use Rattle.smv_meaning.specs.Phases.{Body}
use Rattle.name_maps.specs.Maps.{named_in}
use Rattle.smv_meaning.specs.Settled.{has_body}
use Rattle.smv_meaning.specs.Bodies.{IsBodyOrder}
use Rattle.smv_evaluation.specs.Rows.{is_marked, MarkedOn, MarksStart, MarksLeast}
use Rattle.smv_meaning.specs.Reached.{is_body_of, leads_to, local_leads_to}
use Rattle.smv_meaning.specs.laws.Booleans.{both_true, or_true, absurd_bool}
use Rattle.smv_laws.proofs.Cycles.{In, any_in, same_is}
use Rattle.smv_laws.proofs.Ranked.{key, keys_of, in_keys}
use Rattle.smv_laws.proofs.Settling.{Under}
use Rattle.smv_laws.proofs.Positions.{order_rank, at_place, rank_low, rank_at, body_before}

-- definitions and actuals that are marked
abbrev Marks : Type 0 → Type 0
Marks S = HashMap (ℕ × Bor (List ℕ)) Bool S

-- ---- what is written and leads on

written : (t : List Instance) (l : Local) (k : ℕ) (x : List ℕ) → local_leads_to t l k x ≡ true → has_body l ≡ true
written t (body_of j e) k x h = refl
written t (alias j path) k x h = absurd_bool h
written t (variable_of kind d) k x h = absurd_bool h
written t inner k x h = absurd_bool h
written t nothing k x h = absurd_bool h

-- what a body leads to is before it
under_rank : (t : List Instance) (rank : Body → ℕ) (r k : ℕ) (x : List ℕ) (m : Found) → is_body_of k x m ≡ true → Under t rank r m → rank (key k x) < r
under_rank t rank r k x (body_at l y j e) s u = subst (λ z. rank z < r) (same_is (l, y) (k, x) s) u.0
under_rank t rank r k x (variable_at y kind d) s u = absurd_bool s
under_rank t rank r k x (instance_at l) s u = absurd_bool s
under_rank t rank r k x (symbol_of y) s u = absurd_bool s
under_rank t rank r k x cyclic s u = absurd_bool s
under_rank t rank r k x none s u = absurd_bool s

leads_before : (t : List Instance) (order : List ℕ) → IsBodyOrder t order → (n : ℕ) → n < length order → (i : ℕ) (x : List ℕ) → at_place t order n ≡ key i x
    → (k : ℕ) (z : List ℕ) → local_leads_to t (local t i x) k z ≡ true → order_rank t order (key k z) < n + 1
leads_before t order o n l i x at k z h = by (local t i x) refl h
  where
    by : (m : Local) → local t i x ≡ m → local_leads_to t m k z ≡ true → order_rank t order (key k z) < n + 1
    by (body_of j e) is s =
        let w = any_in (λ q. is_body_of k z (found_in t j q)) (paths_of e []) s in
        under_rank t (order_rank t order) (n + 1) k z (found_in t j w.0) w.2 (body_before t order o n l i x at j e is w.0 w.1)
    by (alias j path) is s = absurd_bool s
    by (variable_of kind d) is s = absurd_bool s
    by inner is s = absurd_bool s
    by nothing is s = absurd_bool s

-- ---- marks

or_left : (a b : Bool) → a ≡ true → (a || b) ≡ true
or_left a b e = ap (λ c. c || b) e

and_both : (a b : Bool) → a ≡ true → b ≡ true → (a && b) ≡ true
and_both a b e f = ap (λ c. c && b) e ∙ f

stays_marked : {S : Type 0} (t : List Instance) (was now : Marks S) (i : ℕ) (x : List ℕ) → MarkedOn t was now i x → (l : ℕ) (y : List ℕ) → is_marked was l y ≡ true → is_marked now l y ≡ true
stays_marked t was now i x put l y h = put l y ∙ or_left (is_marked was l y) (is_marked was i x && local_leads_to t (local t i x) l y) h

pub start_on : {S : Type 0} (t : List Instance) (was now : Marks S) (i : ℕ) (x : List ℕ) → MarkedOn t was now i x → (j : ℕ) (e : Tree) → MarksStart t j e was → MarksStart t j e now
start_on t was now i x put j e h k z s = stays_marked t was now i x put k z (h k z s)

pub least_on : {S : Type 0} (t : List Instance) (was now : Marks S) (i : ℕ) (x : List ℕ) → MarkedOn t was now i x → (j : ℕ) (e : Tree) → MarksLeast t j e was → MarksLeast t j e now
least_on t was now i x put j e h test first on k z m =
    ⊎_elim (λ s. h test first on k z s)
    (λ s. let b = both_true (is_marked was i x) (local_leads_to t (local t i x) k z) s in on i x k z (h test first on i x b.0) b.1)
    (or_true (is_marked was k z) (is_marked was i x && local_leads_to t (local t i x) k z) (sym (put k z) ∙ m))

-- behind a place in the order all that bodies lead to is marked
abbrev pub ClosedBehind : {S : Type 0} → List Instance → List ℕ → Marks S → ℕ → Type 0
ClosedBehind t order marks n = (k : ℕ) (x : List ℕ) (m : ℕ) (y : List ℕ) → n < order_rank t order (key k x) → is_marked marks k x ≡ true → local_leads_to t (local t k x) m y ≡ true → is_marked marks m y ≡ true

pub closed_on : {S : Type 0} (t : List Instance) (order : List ℕ) → IsBodyOrder t order → (was now : Marks S) (n i : ℕ) (x : List ℕ) → n < length order → at_place t order n ≡ key i x
    → MarkedOn t was now i x → ClosedBehind t order was (n + 1) → ClosedBehind t order now n
closed_on t order o was now n i x l at put h k z m y less marked leads =
    ⊎_elim old
    (λ s. let b = both_true (is_marked was i x) (local_leads_to t (local t i x) k z) s in absurd (let r = leads_before t order o n l i x at k z b.1 in omega arith))
    (or_true (is_marked was k z) (is_marked was i x && local_leads_to t (local t i x) k z) (sym (put k z) ∙ marked))
  where
    here : In (key k z) (keys_of t)
    here = in_keys t k z (written t (local t k z) m y leads)

    own : is_marked was k z ≡ true → key k z ≡ key i x → is_marked now m y ≡ true
    own s e =
        let first : is_marked was i x ≡ true = subst (λ (q : Body). is_marked was q.0 q.1 ≡ true) e s in
        let there : local_leads_to t (local t i x) m y ≡ true = subst (λ (q : Body). local_leads_to t (local t q.0 q.1) m y ≡ true) e leads in
        put m y ∙ or_right (is_marked was m y) (is_marked was i x && local_leads_to t (local t i x) m y) (and_both (is_marked was i x) (local_leads_to t (local t i x) m y) first there)

    old : is_marked was k z ≡ true → is_marked now m y ≡ true
    old s =
        ⊎_elim (λ r. stays_marked t was now i x put m y (h k z m y r s leads))
        (λ r. let same : order_rank t order (key k z) ≡ n + 1 = omega (arith, less, r) in own s (sym (rank_at t order (key k z) here n l same) ∙ at))
        (cases_lt (n + 1) (order_rank t order (key k z)))

pub closed_end : {S : Type 0} (t : List Instance) (order : List ℕ) → IsBodyOrder t order → (marks : Marks S) (n : ℕ) → n ≡ length order → ClosedBehind t order marks n
closed_end t order o marks n e k x m y less marked leads =
    absurd (let low = rank_low t order o (key k x) (in_keys t k x (written t (local t k x) m y leads)) in omega arith)

-- what an expression leads to is marked first
pub first_starts : {S : Type 0} (t : List Instance) (i : ℕ) (e : Tree) (blank first : Marks S) → ((k : ℕ) (x : List ℕ) → named_in blank k x ≡ None) → ((k : ℕ) (x : List ℕ) → is_marked first k x ≡ (is_marked blank k x || leads_to t i e k x))
    → MarksStart t i e first
first_starts t i e blank first h put k x s = put k x ∙ or_right (is_marked blank k x) (leads_to t i e k x) s

pub first_least : {S : Type 0} (t : List Instance) (i : ℕ) (e : Tree) (blank first : Marks S) → ((k : ℕ) (x : List ℕ) → named_in blank k x ≡ None) → ((k : ℕ) (x : List ℕ) → is_marked first k x ≡ (is_marked blank k x || leads_to t i e k x))
    → MarksLeast t i e first
first_least t i e blank first h put test start on k x m = start k x (sym (ap (λ o. is_some o || leads_to t i e k x) (h k x)) ∙ sym (put k x) ∙ m)
