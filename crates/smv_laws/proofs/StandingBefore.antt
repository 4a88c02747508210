-- Orders of definitions and actuals, by what is in them.
use Rattle.std.proofs.Common.{◌≡◌, ℕ, ◌<◌, Bool, true, false, ◌&&◌, ◌||◌, ◌==◌, nat_lt, List, [], ◌∷◌, ◌++◌, map, length, refl, sym, ap, ◌∙◌, subst, append_assoc, append-nil, arith}
use Rattle.std.specs.Prelude.{slice_index_or}
use Rattle.std.specs.List.{list_all}
use Rattle.std.proofs.lemmas.Bool.{eqb-true, ltb-true}
use Rattle.digraph.specs.Graph.{NodeLists, next_of, is_in, falls_from}
use Rattle.smv_text.specs.declared.tree.Path.{Path}
use Rattle.smv_meaning.specs.Instances.{Instance}
use Rattle.smv_meaning.specs.Expressions.{paths_of}
use Rattle.smv_meaning.specs.Checks.{Named}
use Rattle.smv_meaning.specs.Phases.{Body, body_same, refers}
use Rattle.smv_meaning.specs.Bodies.{bodies_of, number_or, reference_graph}
use Rattle.smv_meaning.specs.Orders.{numbered, is_listed, OrderIsComplete, ReferencesComeBefore, SameOn, TypesHangOnPaths}
use Rattle.smv_meaning.specs.laws.Booleans.{both_true}
use Rattle.smv_laws.proofs.Cycles.{In, same_self, in_any, any_in}
use Rattle.smv_laws.proofs.Ranked.{keys_of, in_keys, within_keys}
use Rattle.smv_laws.proofs.OrderLaws.{nobody, place_within, place_is, bodies_are, number, number_to, graph_length, row_at}
use Rattle.smv_laws.proofs.Agreeing.{typing_same}
use mathlib.Core.Logic.{inl, inr}

-- ---- numbers and what they number

numbered_is : (t : List Instance) (n : ℕ) → numbered t n ≡ slice_index_or (keys_of t) n nobody
numbered_is t n = ap (λ ks. slice_index_or ks n nobody) (bodies_are t)

listed : (t : List Instance) (order : List ℕ) (k : Body) → In k (keys_of t) → is_in order (number t k) ≡ true → is_listed (map (numbered t) order) k ≡ true
listed t [] k h e = e
listed t (n ∷ ns) k h e = by (λ l. listed t ns k h l) (n == number t k) refl e
  where
    by : (is_in ns (number t k) ≡ true → is_listed (map (numbered t) ns) k ≡ true) → (b : Bool) → (n == number t k) ≡ b → (b || is_in ns (number t k)) ≡ true → is_listed (map (numbered t) (n ∷ ns)) k ≡ true
    by ih true s g =
        let same : numbered t n ≡ k = numbered_is t n ∙ ap (λ m. slice_index_or (keys_of t) m nobody) (eqb-true n (number t k) s) ∙ place_is (keys_of t) k h in
        in_any (body_same k) (numbered t n) (map (numbered t) (n ∷ ns)) (inl refl) (ap (body_same k) same ∙ same_self k)
    by ih false s g =
        let more = any_in (body_same k) (map (numbered t) ns) (ih g) in
        in_any (body_same k) more.0 (map (numbered t) (n ∷ ns)) (inr more.1) more.2

pub order_is_complete_law : OrderIsComplete
order_is_complete_law t order o k h =
    let there : In k (keys_of t) = in_keys t k.0 k.1 h in
    listed t order k there (o.sorted.whole (number t k) (omega (arith, place_within (keys_of t) k there, graph_length t)))

-- ---- what is before

stands : (g : NodeLists) (seen mid after : List ℕ) (n : ℕ) → falls_from g seen (mid ++ n ∷ after) ≡ true → list_all (is_in (seen ++ mid)) (next_of g n) ≡ true
stands g seen [] after n h = subst (λ l. list_all (is_in l) (next_of g n) ≡ true) (sym (append-nil seen)) (both_true (list_all (is_in seen) (next_of g n)) (falls_from g (seen ++ n ∷ []) after) h).0
stands g seen (m ∷ mid) after n h =
    subst (λ l. list_all (is_in l) (next_of g n) ≡ true) (append_assoc seen (m ∷ []) mid)
    (stands g (seen ++ m ∷ []) mid after n (both_true (list_all (is_in seen) (next_of g m)) (falls_from g (seen ++ m ∷ []) (mid ++ n ∷ after)) h).1)

all_listed : (t : List Instance) (before : List ℕ) (rs : List Body) → ((r : Body) → In r rs → In r (keys_of t)) → list_all (is_in before) (map (number_or (bodies_of t)) rs) ≡ true
    → list_all (is_listed (map (numbered t) before)) rs ≡ true
all_listed t before [] w h = refl
all_listed t before (r ∷ rs) w h =
    let b = both_true (is_in before (number_or (bodies_of t) r)) (list_all (is_in before) (map (number_or (bodies_of t)) rs)) h in
    let there = w r (inl refl) in
    let first : is_listed (map (numbered t) before) r ≡ true = listed t before r there (ap (is_in before) (sym (number_to t r there)) ∙ b.0) in
    ap (λ c. c && list_all (is_listed (map (numbered t) before)) rs) first ∙ all_listed t before rs (λ q i. w q (inr i)) b.1

within : (g : NodeLists) (before after : List ℕ) (n : ℕ) → list_all (λ k. nat_lt k (length g)) (before ++ n ∷ after) ≡ true → n < length g
within g [] after n h = ltb-true n (length g) (both_true (nat_lt n (length g)) (list_all (λ k. nat_lt k (length g)) after) h).0
within g (m ∷ before) after n h = within g before after n (both_true (nat_lt m (length g)) (list_all (λ k. nat_lt k (length g)) (before ++ n ∷ after)) h).1

pub references_come_before_law : ReferencesComeBefore
references_come_before_law t before after n o =
    let k = slice_index_or (keys_of t) n nobody in
    let low : n < length (keys_of t) = omega (arith, within (reference_graph t) before after n o.sorted.within, graph_length t) in
    let fell : list_all (is_in before) (next_of (reference_graph t) n) ≡ true = stands (reference_graph t) [] before after n o.sorted.falls in
    let found = all_listed t before (refers t k) (λ r i. (within_keys t k r i).1) (ap (list_all (is_in before)) (sym (row_at t n low)) ∙ fell) in
    ap (λ m. list_all (is_listed (map (numbered t) before)) (refers t m)) (numbered_is t n) ∙ found

-- ---- types

each_same : (names others : Path → Named) (xs : List Path) → SameOn names others xs → (q : Path) → In q xs → names q ≡ others q
each_same names others [] s q h = absurd h
each_same names others (x ∷ xs) s q (inl e) = ap names e ∙ s.0 ∙ sym (ap others e)
each_same names others (x ∷ xs) s q (inr i) = each_same names others xs s.1 q i

pub types_hang_on_paths_law : TypesHangOnPaths
types_hang_on_paths_law names others at e s = typing_same names others at e [] (each_same names others (paths_of e []) s)
