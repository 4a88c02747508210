-- Where no node leads to itself, a node leads to more nodes than those to which it has an edge: this is its rank.
use Rattle.std.proofs.Common.{◌≡◌, ℕ, zero, suc, ◌+◌, ◌<◌, ◌≤◌, eqb, nat_lt, Bool, true, false, cond, ◌&&◌, Some, List, [], ◌∷◌, ◌++◌, length, refl, sym, ap, ◌∙◌, subst, arith}
use Rattle.std.specs.Prelude.{slice_get, slice_index_or}
use Rattle.std.specs.List.{AllByRecursion, list_any}
use Rattle.std.proofs.lemmas.Bool.Decides.{nat_tests}
use Rattle.std.proofs.lemmas.List.{length-append}
use Rattle.std.proofs.lemmas.Option.{none-some, same_Some}
use Rattle.digraph.specs.Graph.{NeverReturns, NodeLists, is_graph, leads, next_of}
use Rattle.moxi_terms.specs.View.{ScopeState}
use Rattle.moxi_scripts.specs.declared.script.Subsystem.{Subsystem}
use Rattle.moxi_scripts.specs.Cycles.{nodes_from}
use Rattle.moxi_scripts.specs.Script.{PlainScript, PlainSystem, variables_in}
use Rattle.moxi_scripts.specs.Valid.{HasRanks, IsValid, IsValidSubsystem, IsValidSystem, all_subsystem_rows, containing_rows, count_subsystems, subsystem_graph, subsystem_rows}
use Rattle.moxi_scripts.proofs.WholeCycles.{all_rows_long, index_right, rows_below}
use Rattle.moxi_scripts.specs.laws.WholeNames.{and_both}
use Rattle.moxi_scripts.specs.laws.WholeParts.{get_below}
use Rattle.moxi_scripts.proofs.WholeWalks.{In, all_next, equal, leads_along, leads_short, or_first, walk_of}
use Rattle.moxi_scripts.proofs.CycleLaws.{all_append, below, less, within}
use Rattle.moxi_scripts.proofs.MeetingLaws.{or_second}

-- COUNTS

-- how many numbers below n pass
unfoldable pub count : (ℕ → Bool) → ℕ → ℕ
count p zero = 0
count p (suc n) = cond (p n) 1 0 + count p n

pub bit : (a b : Bool) → (a ≡ true → b ≡ true) → (let n : ℕ = cond a 1 0 in n) ≤ cond b 1 0
bit true true f = omega arith
bit true false f = let e = f refl in absurd (cc)
bit false true f = omega arith
bit false false f = omega arith

pub count_most : (p q : ℕ → Bool) (n : ℕ) → ((m : ℕ) → q m ≡ true → p m ≡ true) → count q n ≤ count p n
unfolding count
count_most p q zero f = omega arith
count_most p q (suc n) f = let a = bit (q n) (p n) (f n) in let b = count_most p q n f in omega arith

pub count_less : (p q : ℕ → Bool) (n x : ℕ) → ((m : ℕ) → q m ≡ true → p m ≡ true) → x < n → p x ≡ true → q x ≡ false → count q n < count p n
unfolding count
count_less p q zero x f h a b = absurd (omega arith)
count_less p q (suc n) x f h a b = by_place (eqb x n) refl (count_less p q n x f)
  where
    by_place : (t : Bool) → eqb x n ≡ t → (x < n → p x ≡ true → q x ≡ false → count q n < count p n) → cond (q n) 1 0 + count q n < cond (p n) 1 0 + count p n
    by_place true e rest =
        let same : x ≡ n = equal x n e in
        let one : (let k : ℕ = cond (p n) 1 0 in k) ≡ 1 = ap (λ t. cond t 1 0) (subst (λ k. p k ≡ true) same a) in
        let none : (let k : ℕ = cond (q n) 1 0 in k) ≡ 0 = ap (λ t. cond t 1 0) (subst (λ k. q k ≡ false) same b) in
        let l = count_most p q n f in
        omega arith
    by_place false e rest = let below : x < n = grind (arith, nat_tests) in let l = rest below a b in let k = bit (q n) (p n) (f n) in omega arith

-- RANKS

rank : NodeLists → ℕ → ℕ
rank g k = count (λ m. leads g (suc (length g)) k m) (length g)

rank_falls : (g : NodeLists) → is_graph g ≡ true → NeverReturns g → (k r : ℕ) → In (next_of g k) r → rank g r < rank g k
unfolding rank
rank_falls g a never k r i =
    count_less (λ m. leads g (suc (length g)) k m) (λ m. leads g (suc (length g)) r m) (length g) r leads_more (all_next g (length g) g k r a i)
    (leads_along g (suc (length g)) k r r [] (i, refl) (omega arith)) (never (suc (length g)) r)
  where
    leads_more : (m : ℕ) → leads g (suc (length g)) r m ≡ true → leads g (suc (length g)) k m ≡ true
    leads_more m h =
        let w = walk_of g (suc (length g)) r m h in
        leads_short g a (suc (length (w.0 ∷ w.1))) k m (leads_along g (suc (length (w.0 ∷ w.1))) k m r (w.0 ∷ w.1) (i, w.2) (omega arith))

-- THE GRAPH OF SUBSYSTEMS

nodes_within : (start c n : ℕ) → start + c ≤ n → below n (nodes_from start c) ≡ true
nodes_within start zero n h = refl
nodes_within start (suc c) n h = and_both (nat_lt start n) (below n (nodes_from (suc start) c)) (less start n (omega arith)) (nodes_within (suc start) c n (omega arith))

containing_within : (start n : ℕ) (xs : List PlainSystem) → start + count_subsystems xs ≤ n → within n (containing_rows start xs) ≡ true
containing_within start n [] h = refl
containing_within start n (x ∷ xs) h =
    and_both (below n (nodes_from start (length x.subsystems))) (within n (containing_rows (start + length x.subsystems) xs)) (nodes_within start (length x.subsystems) n (omega arith))
    (containing_within (start + length x.subsystems) n xs (omega arith))

containing_long : (start : ℕ) (xs : List PlainSystem) → length (containing_rows start xs) ≡ length xs
containing_long start [] = refl
containing_long start (x ∷ xs) = ap suc (containing_long (start + length x.subsystems) xs)

index_left : {A : Type 0} (xs ys : List A) (i : ℕ) (d : A) → i < length xs → slice_index_or (xs ++ ys) i d ≡ slice_index_or xs i d
index_left [] ys i d h = absurd (omega arith)
index_left (x ∷ xs) ys zero d h = refl
index_left (x ∷ xs) ys (suc i) d h = index_left xs ys i d (omega arith)

in_nodes : (start count t : ℕ) → t < count → In (nodes_from start count) (start + t)
in_nodes start zero t h = absurd (omega arith)
in_nodes start (suc count) zero h = or_first (eqb (start + 0) start) (list_any (eqb (start + 0)) (nodes_from (suc start) count)) (grind (arith, nat_tests))
in_nodes start (suc count) (suc t) h =
    or_second (eqb (start + suc t) start) (list_any (eqb (start + suc t)) (nodes_from (suc start) count))
    (subst (λ k. In (nodes_from (suc start) count) k) (let e : suc start + t ≡ start + suc t = omega arith in e) (in_nodes (suc start) count t (omega arith)))

module _ (s : ScopeState) (all : List PlainSystem) where
  abbrev AreValid : List PlainSystem → Type 0
  AreValid xs = AllByRecursion (IsValidSystem s all) xs

  rows_within : (start n : ℕ) (x : PlainSystem) (bs : List Subsystem) → start + length all ≤ n → AllByRecursion (IsValidSubsystem all (variables_in x)) bs → within n (subsystem_rows start bs) ≡ true
  rows_within start n x [] h a = refl
  rows_within start n x (b ∷ bs) h a =
      let there : b.system < length all = a.0.there in
      and_both (nat_lt (start + b.system) n && true) (within n (subsystem_rows start bs)) (and_both (nat_lt (start + b.system) n) true (less (start + b.system) n (omega arith)) refl) (rows_within start n x bs h a.1)

  all_rows_within : (start n : ℕ) (xs : List PlainSystem) → start + length all ≤ n → AreValid xs → within n (all_subsystem_rows start xs) ≡ true
  all_rows_within start n [] h a = refl
  all_rows_within start n (x ∷ xs) h a =
      all_append n (subsystem_rows start x.subsystems) (all_subsystem_rows start xs) (rows_within start n x x.subsystems h a.0.subsystems) (all_rows_within start n xs h a.1)

  graph_is : AreValid all → is_graph (subsystem_graph all) ≡ true
  graph_is a =
      let n = length (subsystem_graph all) in
      let front = all_subsystem_rows (count_subsystems all) all in
      let long : length front ≡ count_subsystems all = all_rows_long (count_subsystems all) all in
      let rest : length (containing_rows 0 all) ≡ length all = containing_long 0 all in
      let both : n ≡ length front + length (containing_rows 0 all) = length-append front (containing_rows 0 all) in
      all_append n front (containing_rows 0 all) (all_rows_within (count_subsystems all) n all (omega arith) a) (containing_within 0 n all (omega arith))

row_there : (base : ℕ) (bs : List Subsystem) (t : ℕ) (b : Subsystem) → slice_get bs t ≡ Some b → (slice_index_or (subsystem_rows base bs) t [] ≡ (base + b.system) ∷ []) × (t < length (subsystem_rows base bs))
row_there base [] t b h = absurd (none-some b h)
row_there base (c ∷ bs) zero b h = (ap (λ (c : Subsystem). (base + c.system) ∷ []) (same_Some c b h), omega arith)
row_there base (c ∷ bs) (suc t) b h = let r = row_there base bs t b h in (r.0, (let l : t < length (subsystem_rows base bs) = r.1 in omega arith))

-- the nodes of a system's subsystems
record HasNodes (base start : ℕ) (xs : List PlainSystem) (i : ℕ) (x : PlainSystem) : Type 0 where
  pub first : ℕ
  pub row : slice_index_or (containing_rows start xs) i [] ≡ nodes_from (start + first) (length x.subsystems)
  pub each : (t : ℕ) (b : Subsystem) → slice_get x.subsystems t ≡ Some b → slice_index_or (all_subsystem_rows base xs) (first + t) [] ≡ (base + b.system) ∷ []

nodes_of : (base start : ℕ) (xs : List PlainSystem) (i : ℕ) (x : PlainSystem) → slice_get xs i ≡ Some x → HasNodes base start xs i x
nodes_of base start [] i x h = absurd (none-some x h)
nodes_of base start (y ∷ ys) zero x h =
    let same : y ≡ x = same_Some y x h in
    record {
      first = 0;
      row = ap (λ (x : PlainSystem). nodes_from start (length x.subsystems)) same ∙ ap (λ k. nodes_from k (length x.subsystems)) (let e : start ≡ start + 0 = omega arith in e);
      each = λ t b g.
          let r = row_there base y.subsystems t b (subst (λ (x : PlainSystem). slice_get x.subsystems t ≡ Some b) (sym same) g) in
          ap (λ k. slice_index_or (all_subsystem_rows base (y ∷ ys)) k []) (let e : 0 + t ≡ t = omega arith in e) ∙ index_left (subsystem_rows base y.subsystems) (all_subsystem_rows base ys) t [] r.1 ∙ r.0;
    }
nodes_of base start (y ∷ ys) (suc i) x h =
    let n = nodes_of base (start + length y.subsystems) ys i x h in
    record {
      first = length (subsystem_rows base y.subsystems) + n.first;
      row = n.row ∙ ap (λ k. nodes_from k (length x.subsystems)) (let e : length (subsystem_rows base y.subsystems) ≡ length y.subsystems = rows_long base y.subsystems in let f : (start + length y.subsystems) + n.first ≡ start + (length (subsystem_rows base y.subsystems) + n.first) = omega arith in f);
      each = λ t b g.
          index_right (subsystem_rows base y.subsystems) (all_subsystem_rows base ys) ((length (subsystem_rows base y.subsystems) + n.first) + t) (n.first + t) [] (omega arith) ∙ n.each t b g;
    }
  where
    rows_long : (base : ℕ) (bs : List Subsystem) → length (subsystem_rows base bs) ≡ length bs
    rows_long base [] = refl
    rows_long base (b ∷ bs) = ap suc (rows_long base bs)

each_of : (P : Subsystem → Type 0) (bs : List Subsystem) → ((t : ℕ) (b : Subsystem) → slice_get bs t ≡ Some b → P b) → AllByRecursion P bs
each_of P [] f = tt
each_of P (b ∷ bs) f = (f 0 b refl, each_of P bs (λ t c h. f (suc t) c h))

pub valid_has_ranks : (s : PlainScript) → IsValid s → HasRanks s.systems
valid_has_ranks s w = record { rank = λ i. rank g (base + i); falls = λ i x h. each_of (λ (b : Subsystem). rank g (base + b.system) < rank g (base + i)) x.subsystems (λ t b k. falls i x h t b k) }
  where
    xs : List PlainSystem
    xs = s.systems

    g : NodeLists
    g = subsystem_graph xs

    base : ℕ
    base = count_subsystems xs

    falls : (i : ℕ) (x : PlainSystem) → slice_get xs i ≡ Some x → (t : ℕ) (b : Subsystem) → slice_get x.subsystems t ≡ Some b → rank g (base + b.system) < rank g (base + i)
    falls i x h t b k =
        let front = all_subsystem_rows base xs in
        let n = nodes_of base 0 xs i x h in
        let long : length front ≡ base = all_rows_long base xs in
        let a = graph_is s.scope xs w.systems.systems in
        let row : In (slice_index_or (containing_rows 0 xs) i []) (0 + n.first + t) =
        subst (λ ys. In ys (0 + n.first + t)) (sym n.row) (in_nodes (0 + n.first) (length x.subsystems) t (get_below x.subsystems t b k)) in
        let down : In (next_of g (base + i)) (0 + n.first + t) = subst (λ ys. In ys (0 + n.first + t)) (sym (index_right front (containing_rows 0 xs) (base + i) i [] (omega arith))) row in
        let inner : 0 + n.first + t < 0 + base = rows_below 0 xs i (0 + n.first + t) row in
        let out : next_of g (0 + n.first + t) ≡ (base + b.system) ∷ [] =
        index_left front (containing_rows 0 xs) (0 + n.first + t) [] (omega arith) ∙ ap (λ k. slice_index_or front k []) (let e : 0 + n.first + t ≡ n.first + t = omega arith in e) ∙ n.each t b k in
        let there : In (next_of g (0 + n.first + t)) (base + b.system) =
        subst (λ ys. In ys (base + b.system)) (sym out) (or_first (eqb (base + b.system) (base + b.system)) false (grind (arith, nat_tests))) in
        let one = rank_falls g a w.systems.acyclic (base + i) (0 + n.first + t) down in
        let two = rank_falls g a w.systems.acyclic (0 + n.first + t) (base + b.system) there in
        omega arith
