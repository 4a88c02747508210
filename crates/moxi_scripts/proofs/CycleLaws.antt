-- The graph of subsystems: each of its edges ends at a node, and its subsystems are its first nodes.
use Rattle.std.proofs.Common.{◌≡◌, ℕ, zero, suc, ◌+◌, ◌-◌, ◌<◌, ◌≤◌, Bool, true, false, cond, ◌&&◌, nat_lt, List, [], ◌∷◌, ◌++◌, length, Option, None, Some, refl, sym, ap, ◌∙◌, arith}
use Rattle.std.specs.List.{list_all}
use Rattle.std.proofs.lemmas.Bool.Decides.{nat_tests}
use Rattle.std.proofs.lemmas.List.{length-append}
use Rattle.digraph.specs.Graph.{NodeLists, NeverReturns, is_graph, leads}
use Rattle.digraph.specs.Visiting.{Returning}
use Rattle.name_maps.specs.Names.{place_of}
use Rattle.moxi_scripts.specs.declared.parts.Use.{Use}
use Rattle.moxi_scripts.specs.Collecting.{fails_if}
use Rattle.moxi_scripts.specs.Cycles.{all_cycles, all_use_rows, count_uses, ends_at, nodes_from, system_rows, use_cycles, use_graph, use_rows}
use Rattle.moxi_scripts.specs.Systems.{SystemReading}

abbrev pub below : ℕ → List ℕ → Bool
below n ends = list_all (λ m. nat_lt m n) ends

abbrev pub within : ℕ → NodeLists → Bool
within n g = list_all (below n) g

and_true : (a b : Bool) → a ≡ true → b ≡ true → (a && b) ≡ true
and_true true b e f = f
and_true false b e f = e

pub all_append : (n : ℕ) (g h : NodeLists) → within n g ≡ true → within n h ≡ true → within n (g ++ h) ≡ true
all_append n [] h e f = f
all_append n (x ∷ xs) h e f = by_first (below n x) (within n xs) e (λ k. all_append n xs h k f)
  where
    by_first : (a b : Bool) {c : Bool} → (a && b) ≡ true → (b ≡ true → c ≡ true) → (a && c) ≡ true
    by_first true b e k = k e
    by_first false b e k = e

pub less : (m n : ℕ) → m < n → nat_lt m n ≡ true
less m n h = grind (arith, nat_tests)

ends_within : (t s n : ℕ) (o : Option ℕ) → t + s ≤ n → below n (ends_at t s o) ≡ true
ends_within t s n None h = refl
ends_within t s n (Some j) h = by_test (nat_lt j s) (λ e. let k : j < s = grind (arith, nat_tests) in let m : t + j < n = omega arith in less (t + j) n m)
  where
    by_test : (b : Bool) → (b ≡ true → nat_lt (t + j) n ≡ true) → below n (cond b ((t + j) ∷ []) []) ≡ true
    by_test true k = and_true (nat_lt (t + j) n) true (k refl) refl
    by_test false k = refl

use_rows_within : (t s n : ℕ) (names : List (List ℕ)) (us : List Use) → t + s ≤ n → within n (use_rows t s names us) ≡ true
use_rows_within t s n names [] h = refl
use_rows_within t s n names (u ∷ us) h = and_true (below n (ends_at t s (place_of names u.target))) (within n (use_rows t s names us)) (ends_within t s n (place_of names u.target) h) (use_rows_within t s n names us h)

all_rows_within : (t s n : ℕ) (names : List (List ℕ)) (rs : List SystemReading) → t + s ≤ n → within n (all_use_rows t s names rs) ≡ true
all_rows_within t s n names [] h = refl
all_rows_within t s n names (r ∷ rs) h = all_append n (use_rows t s names r.uses) (all_use_rows t s names rs) (use_rows_within t s n names r.uses h) (all_rows_within t s n names rs h)

nodes_within : (start c n : ℕ) → start + c ≤ n → below n (nodes_from start c) ≡ true
nodes_within start zero n h = refl
nodes_within start (suc c) n h = and_true (nat_lt start n) (below n (nodes_from (suc start) c)) (less start n (omega arith)) (nodes_within (suc start) c n (omega arith))

system_rows_within : (start n : ℕ) (rs : List SystemReading) → start + count_uses rs ≤ n → within n (system_rows start rs) ≡ true
system_rows_within start n [] h = refl
system_rows_within start n (r ∷ rs) h =
    and_true (below n (nodes_from start (length r.uses))) (within n (system_rows (start + length r.uses) rs)) (nodes_within start (length r.uses) n (omega arith)) (system_rows_within (start + length r.uses) n rs (omega arith))

use_rows_long : (t s : ℕ) (names : List (List ℕ)) (us : List Use) → length (use_rows t s names us) ≡ length us
use_rows_long t s names [] = refl
use_rows_long t s names (u ∷ us) = ap suc (use_rows_long t s names us)

all_rows_long : (t s : ℕ) (names : List (List ℕ)) (rs : List SystemReading) → length (all_use_rows t s names rs) ≡ count_uses rs
all_rows_long t s names [] = refl
all_rows_long t s names (r ∷ rs) =
    length-append (use_rows t s names r.uses) (all_use_rows t s names rs) ∙ ap (λ k. k + length (all_use_rows t s names rs)) (use_rows_long t s names r.uses) ∙ ap (λ k. length r.uses + k) (all_rows_long t s names rs)

system_rows_long : (start : ℕ) (rs : List SystemReading) → length (system_rows start rs) ≡ length rs
system_rows_long start [] = refl
system_rows_long start (r ∷ rs) = ap suc (system_rows_long (start + length r.uses) rs)

pub graph_long : (rs : List SystemReading) (names : List (List ℕ)) → length (use_graph rs names) ≡ count_uses rs + length rs
graph_long rs names =
    length-append (all_use_rows (count_uses rs) (length rs) names rs) (system_rows 0 rs) ∙ ap (λ k. k + length (system_rows 0 rs)) (all_rows_long (count_uses rs) (length rs) names rs)
    ∙ ap (λ k. count_uses rs + k) (system_rows_long 0 rs)

pub graph_is : (rs : List SystemReading) (names : List (List ℕ)) → is_graph (use_graph rs names) ≡ true
graph_is rs names =
    let n = length (use_graph rs names) in
    let long : n ≡ count_uses rs + length rs = graph_long rs names in
    all_append n (all_use_rows (count_uses rs) (length rs) names rs) (system_rows 0 rs)
    (all_rows_within (count_uses rs) (length rs) n names rs (omega arith)) (system_rows_within 0 n rs (omega arith))

pub nodes_step : (start count i : ℕ) → i < count → nodes_from (start + i) (count - i) ≡ (start + i) ∷ nodes_from (start + (i + 1)) (count - (i + 1))
nodes_step start count i h =
    ap (nodes_from (start + i)) (let e : count - i ≡ suc (count - (i + 1)) = omega arith in e)
    ∙ ap (λ k. (start + i) ∷ nodes_from k (count - (i + 1))) (let e : suc (start + i) ≡ start + (i + 1) = omega arith in e)

pub nodes_end : (start count i : ℕ) → count ≤ i → nodes_from (start + i) (count - i) ≡ []
nodes_end start count i h = ap (nodes_from (start + i)) (let e : count - i ≡ 0 = omega arith in e)

pub returning_is : (g : NodeLists) (k : ℕ) (b : Bool) → Returning g k b → b ≡ leads g (suc (length g)) k k
returning_is g k true h = sym (h (suc (length g)) (omega arith))
returning_is g k false h = sym (h (suc (length g)))

uses_never : (g : NodeLists) (node : ℕ) (us : List Use) → NeverReturns g → use_cycles g node us ≡ []
uses_never g node [] h = refl
uses_never g node (u ∷ us) h = ap (λ b. fails_if b 11 u.place ++ use_cycles g (suc node) us) (h (suc (length g)) node) ∙ uses_never g (suc node) us h

pub all_never : (g : NodeLists) (node : ℕ) (rs : List SystemReading) → NeverReturns g → all_cycles g node rs ≡ []
all_never g node [] h = refl
all_never g node (r ∷ rs) h = ap (λ fs. fs ++ all_cycles g (node + length r.uses) rs) (uses_never g node r.uses h) ∙ all_never g (node + length r.uses) rs h
