-- Numbers that are compared with those behind them, from the last on.
use Rattle.std.proofs.Common.{◌≡◌, ℕ, zero, suc, ◌<◌, ◌≤◌, ◌+◌, ◌-◌, ◌&&◌, not, drop, eqb, Bool, true, false, List, [], ◌∷◌, length, refl, sym, ap, ◌∙◌, arith}
use Rattle.std.specs.Prelude.{slice_index_or}
use Rattle.std.proofs.lemmas.List.{drop_more}
use Rattle.digraph.specs.Graph.{are_distinct, is_in}
use Rattle.moxi_scripts.specs.QueryReading.{some_distinct}

and_false : (a b : Bool) → b ≡ false → (a && b) ≡ false
and_false true b e = e
and_false false b e = refl

distinct_behind : (k : ℕ) (ns : List ℕ) → are_distinct (drop k ns) ≡ false → are_distinct ns ≡ false
distinct_behind zero ns h = h
distinct_behind (suc k) [] h = h
distinct_behind (suc k) (n ∷ ns) h = and_false (not (is_in ns n)) (are_distinct ns) (distinct_behind k ns h)

-- a number that stands again behind
pub stands_twice : (ns keys : List ℕ) (k n : ℕ) → 0 < k → k ≤ length ns → n ≡ slice_index_or ns (k - 1) n → ((x : ℕ) → is_in keys x ≡ is_in (drop k ns) x) → false ≡ not (is_in keys n) → false ≡ are_distinct ns
stands_twice ns keys k n l w is among old =
    let e : (k - 1) + 1 ≡ k = omega (arith, l) in
    let here : drop (k - 1) ns ≡ n ∷ drop k ns = drop_more ns (k - 1) n (omega (arith, l, w)) ∙ ap (λ m. m ∷ drop ((k - 1) + 1) ns) (sym is) ∙ ap (λ i. n ∷ drop i ns) e in
    sym (distinct_behind (k - 1) ns (ap are_distinct here ∙ ap (λ b. not b && are_distinct (drop k ns)) (sym (among n)) ∙ ap (λ b. b && are_distinct (drop k ns)) (sym old)))

pub few_distinct : (ns : List ℕ) (m : ℕ) → m ≡ length ns → m < 2 → eqb m 1 ≡ some_distinct ns
few_distinct [] m e l = ap (λ m. eqb m 1) e
few_distinct (n ∷ []) m e l = ap (λ m. eqb m 1) e
few_distinct (n ∷ (k ∷ ns)) m e l = absurd (omega (arith, e, l))

pub many_distinct : (ns : List ℕ) (m : ℕ) → m ≡ length ns → 2 ≤ m → are_distinct ns ≡ some_distinct ns
many_distinct [] m e l = absurd (omega (arith, e, l))
many_distinct (n ∷ ns) m e l = refl
