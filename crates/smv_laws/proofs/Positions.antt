-- Where definitions and actuals are in an order.
use Rattle.std.proofs.Common.{◌≡◌, ℕ, zero, suc, ◌+◌, ◌-◌, ◌<◌, ◌≤◌, ◌==◌, Bool, true, false, ◌||◌, nat_lt, cond, List, [], ◌∷◌, ◌++◌, map, length, refl, sym, ap, ◌∙◌, subst, arith}
use Rattle.std.specs.Prelude.{slice_index_or}
use Rattle.std.specs.List.{list_all, list_any}
use Rattle.std.proofs.lemmas.Bool.{eqb-true, ltb-true}
use mathlib.Core.Logic.{◌⊎◌, inl, inr, ⊎_elim}
use Rattle.digraph.specs.Graph.{NodeLists, next_of, is_in, falls_from}
use Rattle.smv_text.specs.declared.tree.Path.{Path}
use Rattle.smv_text.specs.Tree.{Tree}
use Rattle.smv_meaning.specs.Expressions.{paths_of}
use Rattle.smv_meaning.specs.Instances.{Instance}
use Rattle.smv_meaning.specs.Names.{body_of, local, found_in}
use Rattle.smv_meaning.specs.Phases.{Body, refers}
use Rattle.smv_meaning.specs.Settled.{rank_of}
use Rattle.smv_meaning.specs.Bodies.{bodies_of, number_or, reference_graph, IsBodyOrder}
use Rattle.smv_meaning.specs.laws.Booleans.{both_true, or_true, absurd_bool}
use Rattle.smv_laws.proofs.Cycles.{In, in_all}
use Rattle.smv_laws.proofs.Ranked.{key, keys_of, within_keys}
use Rattle.smv_laws.proofs.OrderLaws.{number, nobody, place_within, place_is, number_to, graph_length, row_at}
use Rattle.smv_laws.proofs.Settling.{Under, Falls, Descent, found_under, path_refers, ranking, look_settles}
use Rattle.text_core.proofs.Truths.{bool_cases}

-- ---- places in a list

-- how many stand up to the first equal one
abbrev pub upto : List ℕ → ℕ → ℕ
upto [] m = 1
upto (k ∷ ks) m = cond (k == m) 1 (1 + upto ks m)

upto_here : (k m : ℕ) (ks : List ℕ) → (k == m) ≡ true → upto (k ∷ ks) m ≡ 1
upto_here k m ks e = ap (λ b. cond b 1 (1 + upto ks m)) e

upto_there : (k m : ℕ) (ks : List ℕ) → (k == m) ≡ false → upto (k ∷ ks) m ≡ 1 + upto ks m
upto_there k m ks e = ap (λ b. cond b 1 (1 + upto ks m)) e

pub upto_positive : (ks : List ℕ) (m : ℕ) → 0 < upto ks m
upto_positive [] m = omega arith
upto_positive (k ∷ ks) m = elim (bool_cases (k == m)) [ inl e ↦ omega (arith, upto_here k m ks e) | inr e ↦ omega (arith, upto_there k m ks e) ]

pub upto_within : (ks : List ℕ) (m : ℕ) → is_in ks m ≡ true → upto ks m ≤ length ks
upto_within [] m h = absurd_bool h
upto_within (k ∷ ks) m h =
    elim (bool_cases (k == m)) [
      | inl e ↦ omega (arith, upto_here k m ks e)
      | inr e ↦ omega (arith, upto_there k m ks e, upto_within ks m (sym (ap (λ b. b || is_in ks m) e) ∙ h))
    ]

-- what is at its own place
pub upto_at : (ks : List ℕ) (m n : ℕ) → n < length ks → upto ks m ≡ n + 1 → slice_index_or ks n 0 ≡ m
upto_at [] m n l h = absurd (omega (arith, l))
upto_at (k ∷ ks) m zero l h =
    elim (bool_cases (k == m)) [
      | inl e ↦ eqb-true k m e
      | inr e ↦ absurd (omega (arith, upto_there k m ks e, upto_positive ks m, h))
    ]
upto_at (k ∷ ks) m (suc n) l h =
    elim (bool_cases (k == m)) [
      | inl e ↦ absurd (omega (arith, upto_here k m ks e, h))
      | inr e ↦ upto_at ks m n (omega (arith, l)) (omega (arith, upto_there k m ks e, h))
    ]

or_end : (b c : Bool) → (b || (c || false)) ≡ true → (b ≡ true) ⊎ (c ≡ true)
or_end true c h = inl refl
or_end false true h = inr refl
or_end false false h = absurd_bool h

any_push : (p : ℕ → Bool) (xs : List ℕ) (x : ℕ) → list_any p (xs ++ x ∷ []) ≡ true → (list_any p xs ≡ true) ⊎ (p x ≡ true)
any_push p [] x h = or_end false (p x) h
any_push p (y ∷ ys) x h =
    ⊎_elim (λ e. inl (ap (λ b. b || list_any p ys) e)) (λ r. ⊎_elim (λ e. inl (either (p y) (list_any p ys) e)) (λ e. inr e) (any_push p ys x r)) (or_true (p y) (list_any p (ys ++ x ∷ [])) h)
  where
    either : (a b : Bool) → b ≡ true → (a || b) ≡ true
    either true b e = refl
    either false b e = e

-- what a node leads to is before it
pub stands_before : (g : NodeLists) (seen ks : List ℕ) → falls_from g seen ks ≡ true → (n m : ℕ) → n < length ks → In m (next_of g (slice_index_or ks n 0)) → (is_in seen m ≡ true) ⊎ (upto ks m ≤ n)
stands_before g seen [] f n m l i = absurd (omega (arith, l))
stands_before g seen (k ∷ ks) f zero m l i =
    let b = both_true (list_all (is_in seen) (next_of g k)) (falls_from g (seen ++ k ∷ []) ks) f in
    inl (in_all (is_in seen) m (next_of g k) b.0 i)
stands_before g seen (k ∷ ks) f (suc n) m l i =
    let b = both_true (list_all (is_in seen) (next_of g k)) (falls_from g (seen ++ k ∷ []) ks) f in
    ⊎_elim
    (λ s. ⊎_elim (λ e. inl e) (λ e. inr (omega (arith, upto_here k m ks e))) (any_push (λ y. y == m) seen k s))
    (λ s. inr (elim (bool_cases (k == m)) [ inl e ↦ omega (arith, upto_here k m ks e) | inr e ↦ omega (arith, upto_there k m ks e, s) ]))
    (stands_before g (seen ++ k ∷ []) ks b.1 n m (omega (arith, l)) i)

-- ---- places of definitions and actuals

abbrev pub order_rank : List Instance → List ℕ → Body → ℕ
order_rank t order k = upto order (number t k)

-- what is at a place
abbrev pub at_place : List Instance → List ℕ → ℕ → Body
at_place t order n = slice_index_or (keys_of t) (slice_index_or order n 0) nobody

pub node_within : (t : List Instance) (order : List ℕ) → IsBodyOrder t order → (n : ℕ) → n < length order → slice_index_or order n 0 < length (keys_of t)
node_within t order o n l = by order n l o.sorted.within
  where
    by : (ks : List ℕ) (n : ℕ) → n < length ks → list_all (λ k. nat_lt k (length (reference_graph t))) ks ≡ true → slice_index_or ks n 0 < length (keys_of t)
    by [] n l h = absurd (omega (arith, l))
    by (k ∷ ks) zero l h =
        let b = both_true (nat_lt k (length (reference_graph t))) (list_all (λ k. nat_lt k (length (reference_graph t))) ks) h in omega (arith, ltb-true k (length (reference_graph t)) b.0, graph_length t)
    by (k ∷ ks) (suc n) l h =
        let b = both_true (nat_lt k (length (reference_graph t))) (list_all (λ k. nat_lt k (length (reference_graph t))) ks) h in by ks n (omega (arith, l)) b.1

in_map : {X Y : Type 0} (f : X → Y) (x : X) (xs : List X) → In x xs → In (f x) (map f xs)
in_map f x [] h = absurd h
in_map f x (y ∷ ys) (inl s) = inl (ap f s)
in_map f x (y ∷ ys) (inr s) = inr (in_map f x ys s)

-- those to which it refers are before
pub refers_before : (t : List Instance) (order : List ℕ) → IsBodyOrder t order → (n : ℕ) → n < length order → (m : Body) → In m (refers t (at_place t order n)) → order_rank t order m ≤ n
refers_before t order o n l m i =
    let a = slice_index_or order n 0 in
    let there : In m (keys_of t) = (within_keys t (at_place t order n) m i).1 in
    let row : In (number_or (bodies_of t) m) (next_of (reference_graph t) a) =
    subst (λ xs. In (number_or (bodies_of t) m) xs) (sym (row_at t a (node_within t order o n l))) (in_map (number_or (bodies_of t)) m (refers t (at_place t order n)) i) in
    ⊎_elim (λ s. absurd_bool s) (λ s. s)
    (stands_before (reference_graph t) [] order o.sorted.falls n (number t m) l (subst (λ k. In k (next_of (reference_graph t) a)) (number_to t m there) row))

pub rank_low : (t : List Instance) (order : List ℕ) → IsBodyOrder t order → (k : Body) → In k (keys_of t) → order_rank t order k ≤ length order
rank_low t order o k i = upto_within order (number t k) (o.sorted.whole (number t k) (omega (arith, place_within (keys_of t) k i, graph_length t)))

-- it is at its place
pub rank_at : (t : List Instance) (order : List ℕ) (k : Body) → In k (keys_of t) → (n : ℕ) → n < length order → order_rank t order k ≡ n + 1 → at_place t order n ≡ k
rank_at t order k i n l e = ap (λ a. slice_index_or (keys_of t) a nobody) (upto_at order (number t k) n l e) ∙ place_is (keys_of t) k i

order_falls : (t : List Instance) (order : List ℕ) → IsBodyOrder t order → Falls t (order_rank t order)
order_falls t order o k m i =
    let here : In k (keys_of t) = (within_keys t k m i).0 in
    let low = rank_low t order o k here in
    let some = upto_positive order (number t k) in
    let n = order_rank t order k - 1 in
    let same : order_rank t order k ≡ n + 1 = omega arith in
    let less : n < length order = omega arith in
    let before = refers_before t order o n less m (subst (λ z. In m (refers t z)) (sym (rank_at t order k here n less same)) i) in
    omega arith

pub order_descent : (t : List Instance) (order : List ℕ) → IsBodyOrder t order → Descent t (order_rank t order)
order_descent t order o = record { falls = order_falls t order o; settles = look_settles t (rank_of t) (ranking t o.acyclic) }

-- what the paths of its body lead to is before
pub body_before : (t : List Instance) (order : List ℕ) → IsBodyOrder t order → (n : ℕ) → n < length order → (i : ℕ) (x : List ℕ) → at_place t order n ≡ key i x
    → (j : ℕ) (e : Tree) → local t i x ≡ body_of j e → (q : Path) → In q (paths_of e []) → Under t (order_rank t order) (n + 1) (found_in t j q)
body_before t order o n l i x at j e is q g =
    found_under t (order_rank t order) (order_descent t order o) (n + 1) j q
    (λ m h. let r = refers_before t order o n l m (subst (λ z. In m (refers t z)) (sym at) (path_refers t i x j e is q g m h)) in omega arith)
