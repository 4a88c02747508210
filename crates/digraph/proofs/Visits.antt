-- What is known of a visit lasts, and what it comes to.
use Rattle.std.proofs.Common.{◌≡◌, ◌≢◌, ℕ, zero, suc, ◌+◌, ◌-◌, ◌<◌, ◌≤◌, Bool, true, false, not, ◌||◌, ◌==◌, nat_lt, List, [], ◌∷◌, ◌++◌, length, length-append, take, refl, sym, ap, subst, ◌∙◌, inl, inr, arith, zero-add, if◌then◌else◌}
use Rattle.std.specs.Prelude.{slice_index_or, slice_set as set, sum_by}
use Rattle.std.specs.List.{list_all, list_any}
use Rattle.std.proofs.lemmas.Bool.{or_cases}
use Rattle.std.proofs.lemmas.Bool.Decides.{eqb_tells}
use Rattle.std.proofs.lemmas.List.{get_or-set_other, length-set, get_or_append_left}
use Rattle.std.proofs.lemmas.List.Sums.{sum_by-set, sum_by-cons}
use Rattle.std.proofs.lemmas.List.Folds.{list_all_more}
use Rattle.digraph.specs.Graph.{NodeLists, next_of, is_graph, is_in, leads}
use Rattle.digraph.specs.Visiting.{Visited, one, IsVisit, Extends, IsSpread, added}
use Rattle.digraph.proofs.Lists.{and_left, and_right, and_both, or_left, or_right, same, same_back, all_more, all_end, all_at, in_end, in_front, at_in, not_both, last_at}
use Rattle.digraph.proofs.Laws.{any_in, one_edge, edge_more, ltb_lt, lt_ltb, row_is, read_is, target_in, target_within}
use Rattle.text_core.proofs.Truths.{bool_cases}

-- ---- leading

-- whoever leads to a node by an edge leads on
any_out : (f : ℕ → Bool) (xs : List ℕ) → list_any f xs ≡ true → (x : ℕ) × (is_in xs x ≡ true) × (f x ≡ true)
any_out f [] h = cc
any_out f (x ∷ xs) h =
    elim (or_cases (f x) (list_any f xs) h) [
      | inl e ↦ (x, or_left (x == x) (is_in xs x) (same_back x x refl), e)
      | inr m ↦ let more = any_out f xs m in (more.0, or_right (x == more.0) (is_in xs more.0) more.1, more.2)
    ]

pub first_edge : (g : NodeLists) (n k m : ℕ) → leads g (suc n) k m ≡ true → (r : ℕ) × (is_in (next_of g k) r ≡ true) × ((r == m || leads g n r m) ≡ true)
unfolding leads
first_edge g n k m h = any_out (λ r. r == m || leads g n r m) (next_of g k) h

pub no_edges : (g : NodeLists) (k m : ℕ) → leads g 0 k m ≡ true → ⊥
unfolding leads
no_edges g k m h = cc

through_here : (g : NodeLists) (n k r m : ℕ) → is_in (next_of g k) r ≡ true → (r == m) ≡ true → leads g (suc n) k m ≡ true
unfolding leads
through_here g n k r m i s = any_in (λ i. i == m || leads g n i m) (next_of g k) r i (or_left (r == m) (leads g n r m) s)

pub longer : (g : NodeLists) (n k m : ℕ) → leads g n k m ≡ true → leads g (suc n) k m ≡ true
longer g zero k m h = absurd (no_edges g k m h)
longer g (suc n) k m h =
    let e = first_edge g n k m h in
    elim (or_cases (e.0 == m) (leads g n e.0 m) e.2) [
      | inl s ↦ through_here g (suc n) k e.0 m e.1 s
      | inr l ↦ edge_more g (suc n) k e.0 m e.1 (longer g n e.0 m l)
    ]

pub longest : (g : NodeLists) (d n k m : ℕ) → leads g n k m ≡ true → leads g (d + n) k m ≡ true
longest g zero n k m h = subst (λ (i : ℕ). leads g i k m ≡ true) (sym (zero-add n)) h
longest g (suc d) n k m h = subst (λ (i : ℕ). leads g i k m ≡ true) (omega arith) (longer g (d + n) k m (longest g d n k m h))

pub as_long : (g : NodeLists) (n i k m : ℕ) → n ≤ i → leads g n k m ≡ true → leads g i k m ≡ true
as_long g n i k m l h = subst (λ (j : ℕ). leads g j k m ≡ true) (omega (arith, l)) (longest g (i - n) n k m h)

-- an edge more at the end
pub onward : (g : NodeLists) (n k r m : ℕ) → leads g n k r ≡ true → is_in (next_of g r) m ≡ true → leads g (suc n) k m ≡ true
onward g zero k r m h e = absurd (no_edges g k r h)
onward g (suc n) k r m h e =
    let f = first_edge g n k r h in
    elim (or_cases (f.0 == r) (leads g n f.0 r) f.2) [
      | inl s ↦
          let here : is_in (next_of g f.0) m ≡ true = subst (λ (i : ℕ). is_in (next_of g i) m ≡ true) (sym (same f.0 r s)) e in
          edge_more g (suc n) k f.0 m f.1 (through_here g n f.0 m m here (same_back m m refl))
      | inr l ↦ edge_more g (suc n) k f.0 m f.1 (onward g n f.0 r m l e)
    ]

never_so : (g : NodeLists) (all : List ℕ) (m : ℕ) → ((k : ℕ) → is_in all k ≡ true → list_all (is_in all) (next_of g k) ≡ true)
    → is_in all m ≡ false → (n k : ℕ) → list_all (is_in all) (next_of g k) ≡ true → leads g n k m ≡ true → ⊥
never_so g all m closed out zero k h t = no_edges g k m t
never_so g all m closed out (suc n) k h t =
    let e = first_edge g n k m t in
    let r : is_in all e.0 ≡ true = all_at (is_in all) (next_of g k) e.0 h e.1 in
    elim (or_cases (e.0 == m) (leads g n e.0 m) e.2) [
      | inl s ↦ not_both (is_in all m) (subst (λ (i : ℕ). is_in all i ≡ true) (same e.0 m s) r) out
      | inr l ↦ never_so g all m closed out n e.0 (closed e.0 r) l
    ]

-- from a node of a closed list without m nothing leads to m
pub closed_never : (g : NodeLists) (all : List ℕ) (m : ℕ) → ((k : ℕ) → is_in all k ≡ true → list_all (is_in all) (next_of g k) ≡ true)
    → is_in all m ≡ false → (n k : ℕ) → list_all (is_in all) (next_of g k) ≡ true → leads g n k m ≡ false
closed_never g all m closed out n k h = elim (bool_cases (leads g n k m)) [ inl t ↦ absurd (never_so g all m closed out n k h t) | inr f ↦ f ]

-- ---- adding a node

extends_refl : (v : Visited) → Extends v v
extends_refl v = record { longer = omega arith; kept = λ p l. refl }

extends_end : (v : Visited) (k : ℕ) (met : List Bool) → Extends v (record { met = met; queue = v.queue ++ k ∷ [] })
extends_end v k met = record { longer = omega (arith, length-append v.queue (k ∷ [])); kept = λ p l. get_or_append_left v.queue (k ∷ []) 0 p l }

pub extends_both : (u v w : Visited) → Extends u v → Extends v w → Extends u w
extends_both u v w a b = record { longer = omega (arith, a.longer, b.longer); kept = λ p l. b.kept p (omega (arith, l, a.longer)) ∙ a.kept p l }

place_of : (xs : List ℕ) (x : ℕ) → is_in xs x ≡ true → (p : ℕ) × (p < length xs) × (slice_index_or xs p 0 ≡ x)
place_of [] x h = cc
place_of (y ∷ ys) x h =
    elim (or_cases (y == x) (is_in ys x) h) [
      | inl e ↦ (0, omega arith, same y x e)
      | inr m ↦ let more = place_of ys x m in (suc more.0, omega (arith, more.1), more.2)
    ]

-- what is in a list is so in a longer one with the same front
pub in_longer : (v w : Visited) → Extends v w → (k : ℕ) → is_in v.queue k ≡ true → is_in w.queue k ≡ true
in_longer v w e k h =
    let p = place_of v.queue k h in
    let at : slice_index_or w.queue p.0 0 ≡ k = e.kept p.0 p.1 ∙ p.2 in
    subst (λ (i : ℕ). is_in w.queue i ≡ true) at (at_in w.queue p.0 0 (omega (arith, p.1, e.longer)))

-- ---- the node itself

pub record IsAdded (g : NodeLists) (start k : ℕ) (v w : Visited) : Type 0 where
  pub visit : IsVisit g start w
  pub there : is_in w.queue k ≡ true
  pub extends : Extends v w

adds_new : (g : NodeLists) (start k : ℕ) (v : Visited) → IsVisit g start v → k < length g → (k == start) ≡ false → leads g (length v.queue + 1) start k ≡ true → slice_index_or v.met k false ≡ false
    → IsVisit g start (record { met = set v.met k true; queue = v.queue ++ k ∷ [] })
adds_new g start k v h l other near f =
    let lm : k < length v.met = omega (arith, l, h.marked) in
    let w = sum_by-set one v.met k true false lm in
    let z : one (slice_index_or v.met k false) ≡ 0 = ap one f in
    let q = length-append v.queue (k ∷ []) in
    record {
      marked = length-set v.met k true ∙ h.marked;
      within = all_end (λ i. nat_lt i (length g)) v.queue k h.within (lt_ltb k (length g) l);
      counted = omega (arith, w, z, q, h.counted);
      found = λ j m. elim (eqb_tells j k) [
        | inl e ↦ subst (λ (i : ℕ). is_in (v.queue ++ k ∷ []) i ≡ true) (sym e.1) (in_end v.queue k)
        | inr d ↦ in_front v.queue k j (h.found j (sym (get_or-set_other v.met k j true false d.1) ∙ m))
      ];
      others = all_end (λ i. not (i == start)) v.queue k h.others (ap not other);
      near = λ p s. elim (eqb_tells p (length v.queue)) [
        | inl e ↦
            let at : slice_index_or (v.queue ++ k ∷ []) p 0 ≡ k = ap (λ i. slice_index_or (v.queue ++ k ∷ []) i 0) e.1 ∙ last_at v.queue k in
            let P : ℕ → ℕ → Type 0 = λ i j. leads g (i + 1) start j ≡ true in
            subst (λ (j : ℕ). P p j) (sym at) (subst (λ (i : ℕ). P i k) (sym e.1) near)
        | inr d ↦
            let low : p < length v.queue = omega (arith, s, q, d.1) in
            subst (λ (j : ℕ). leads g (p + 1) start j ≡ true) (sym (get_or_append_left v.queue (k ∷ []) 0 p low)) (h.near p low)
      ];
    }

pub adds : (g : NodeLists) (start k : ℕ) (v : Visited) → IsVisit g start v → k < length g → (k == start) ≡ false → leads g (length v.queue + 1) start k ≡ true → IsAdded g start k v (added v k)
adds g start k v h l other near =
    elim (bool_cases (slice_index_or v.met k false)) [
      | inl t ↦ subst (λ (b : Bool). IsAdded g start k v (if b then v else record { met = set v.met k true; queue = v.queue ++ k ∷ [] })) (sym t)
          (record { visit = h; there = h.found k t; extends = extends_refl v })
      | inr f ↦ subst (λ (b : Bool). IsAdded g start k v (if b then v else record { met = set v.met k true; queue = v.queue ++ k ∷ [] })) (sym f)
          (record { visit = adds_new g start k v h l other near f; there = in_end v.queue k; extends = extends_end v k (set v.met k true) })
    ]

-- ---- bounds

count_bound : (bs : List Bool) → sum_by one bs ≤ length bs
count_bound [] = omega arith
count_bound (true ∷ bs) = omega (arith, count_bound bs, sum_by-cons one true bs)
count_bound (false ∷ bs) = omega (arith, count_bound bs, sum_by-cons one false bs)

pub queue_short : (g : NodeLists) (start : ℕ) (v : Visited) → IsVisit g start v → length v.queue ≤ length g
queue_short g start v h = omega (arith, h.counted, h.marked, count_bound v.met)

-- ---- the code's steps

differs : (a b : ℕ) → a ≢ b → (a == b) ≡ false
differs a b d = elim (eqb_tells a b) [ inl e ↦ absurd (d e.1) | inr f ↦ f.0 ]

-- one more edge of a node was gone
pub spreads_on : (g : NodeLists) (start node i x : ℕ) (row : List ℕ) (u v : Visited) → is_graph g ≡ true → node < length g → row ≡ slice_index_or g node row
    → ((k : ℕ) → is_in (next_of g node) k ≡ true → leads g (length u.queue + 1) start k ≡ true)
    → IsVisit g start v → list_all (is_in v.queue) (take i row) ≡ true → Extends u v → i < length row → x ≡ slice_index_or row i x → x ≢ start
    → (IsVisit g start (added v x)) × (list_all (is_in (added v x).queue) (take (i + 1) row) ≡ true) × (Extends u (added v x))
spreads_on g start node i x row u v gr l r near h all e low is other =
    let same_row = row_is g node row l r in
    let inside : x < length g = ltb_lt x (length g) (all_at (λ m. nat_lt m (length g)) row x (subst (λ (xs : List ℕ). list_all (λ m. nat_lt m (length g)) xs ≡ true) same_row (target_within g node gr l)) (target_in row i x low is)) in
    let reached : leads g (length u.queue + 1) start x ≡ true = near x (subst (λ (xs : List ℕ). is_in xs x ≡ true) (sym same_row) (target_in row i x low is)) in
    let a = adds g start x v h inside (differs x start other) (as_long g (length u.queue + 1) (length v.queue + 1) start x (omega (arith, e.longer)) reached) in
    let front : list_all (is_in (added v x).queue) (take i row) ≡ true = all_more (is_in v.queue) (is_in (added v x).queue) (in_longer v (added v x) a.extends) (take i row) all in
    let last : is_in (added v x).queue (slice_index_or row i 0) ≡ true = subst (λ (y : ℕ). is_in (added v x).queue y ≡ true) (sym (read_is row i x 0 low is)) a.there in
    (a.visit, list_all_more (is_in (added v x).queue) row i 0 low ∙ and_both _ _ front last, extends_both u v (added v x) e a.extends)

-- from the start's own edges
pub near_start : (g : NodeLists) (start : ℕ) (n k : ℕ) → is_in (next_of g start) k ≡ true → leads g (n + 1) start k ≡ true
near_start g start n k h = as_long g 1 (n + 1) start k (omega arith) (one_edge g start k h)

-- from the edges of a node that was met
pub near_met : (g : NodeLists) (start p u k : ℕ) (v : Visited) → IsVisit g start v → p < length v.queue → u ≡ slice_index_or v.queue p 0 → is_in (next_of g u) k ≡ true → leads g (length v.queue + 1) start k ≡ true
near_met g start p u k v h l e i =
    let there : leads g (p + 1) start u ≡ true = subst (λ (j : ℕ). leads g (p + 1) start j ≡ true) (sym e) (h.near p l) in
    as_long g (suc (p + 1)) (length v.queue + 1) start k (omega (arith, l)) (onward g (p + 1) start u k there i)

pub returns_start : (g : NodeLists) (start n : ℕ) → is_in (next_of g start) start ≡ true → length g < n → leads g n start start ≡ true
returns_start g start n h l = as_long g 1 n start start (omega (arith, l)) (one_edge g start start h)

pub returns_met : (g : NodeLists) (start p u n : ℕ) (v : Visited) → IsVisit g start v → p < length v.queue → u ≡ slice_index_or v.queue p 0 → is_in (next_of g u) start ≡ true → length g < n → leads g n start start ≡ true
returns_met g start p u n v h l e i s =
    let there : leads g (p + 1) start u ≡ true = subst (λ (j : ℕ). leads g (p + 1) start j ≡ true) (sym e) (h.near p l) in
    as_long g (suc (p + 1)) n start start (omega (arith, l, s, queue_short g start v h)) (onward g (p + 1) start u start there i)

-- what was done stays so as more is met
pub first_stays : (g : NodeLists) (k : ℕ) (v w : Visited) → Extends v w → list_all (is_in v.queue) (next_of g k) ≡ true → list_all (is_in w.queue) (next_of g k) ≡ true
first_stays g k v w e h = all_more (is_in v.queue) (is_in w.queue) (in_longer v w e) (next_of g k) h

pub done_stays : (g : NodeLists) (start p u : ℕ) (v w : Visited) → p < length v.queue → u ≡ slice_index_or v.queue p 0 → IsSpread g start u v w
    → ((q : ℕ) → q < p → list_all (is_in v.queue) (next_of g (slice_index_or v.queue q 0)) ≡ true)
    → (q : ℕ) → q < p + 1 → list_all (is_in w.queue) (next_of g (slice_index_or w.queue q 0)) ≡ true
done_stays g start p u v w l e s done q h =
    elim (eqb_tells q p) [
      | inl x ↦
          let at : u ≡ slice_index_or w.queue q 0 = e ∙ sym (s.extends.kept p l) ∙ ap (λ i. slice_index_or w.queue i 0) (sym x.1) in
          subst (λ (i : ℕ). list_all (is_in w.queue) (next_of g i) ≡ true) at s.all
      | inr x ↦
          let low : q < p = omega (arith, h, x.1) in
          let at : slice_index_or v.queue q 0 ≡ slice_index_or w.queue q 0 = sym (s.extends.kept q (omega (arith, low, l))) in
          subst (λ (i : ℕ). list_all (is_in w.queue) (next_of g i) ≡ true) at (first_stays g (slice_index_or v.queue q 0) v w s.extends (done q low))
    ]

flip : (b : Bool) → not b ≡ true → b ≡ false
flip true h = cc
flip false h = refl

either : (a b : Bool) → a ≡ false → b ≡ false → (a || b) ≡ false
either true b h g = cc
either false b h g = g

none_of : (xs : List ℕ) (x : ℕ) → list_all (λ k. not (k == x)) xs ≡ true → is_in xs x ≡ false
none_of [] x h = refl
none_of (y ∷ ys) x h =
    elim (bool_cases (y == x)) [
      | inl t ↦ let f : not (y == x) ≡ true = and_left (not (y == x)) (list_all (λ k. not (k == x)) ys) h in absurd (not_both (y == x) t (flip (y == x) f))
      | inr f ↦ either (y == x) (is_in ys x) f (none_of ys x (and_right (not (y == x)) (list_all (λ k. not (k == x)) ys) h))
    ]

pub never_back : (g : NodeLists) (start p : ℕ) (v : Visited) → IsVisit g start v → length v.queue ≤ p → list_all (is_in v.queue) (next_of g start) ≡ true
    → ((q : ℕ) → q < p → list_all (is_in v.queue) (next_of g (slice_index_or v.queue q 0)) ≡ true) → (n : ℕ) → leads g n start start ≡ false
never_back g start p v h l first done n =
    closed_never g v.queue start
    (λ k m. let at = place_of v.queue k m in subst (λ (i : ℕ). list_all (is_in v.queue) (next_of g i) ≡ true) at.2 (done at.0 (omega (arith, at.1, l))))
    (none_of v.queue start h.others) n start first
