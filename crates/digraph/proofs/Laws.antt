-- Steps of a search keep what is known of it.
use Rattle.std.proofs.Common.{◌≡◌, ◌≢◌, ℕ, suc, ◌+◌, ◌<◌, ◌≤◌, ◌⊎◌, Bool, true, false, ◌&&◌, ◌||◌, ◌==◌, nat_lt, List, [], ◌∷◌, ◌++◌, length, length-append, append_assoc, take, refl, sym, ap, subst, ◌∙◌, inl, inr, arith, rules}
use Rattle.std.specs.Prelude.{slice_index_or, slice_set as set}
use Rattle.std.specs.List.{list_all, list_any}
use Rattle.std.proofs.lemmas.Bool.{or_cases}
use Rattle.std.proofs.lemmas.Bool.Decides.{eqb_tells}
use Rattle.std.proofs.lemmas.List.{get_or-set_same, get_or-set_other, take_all, length-set, get_or_default}
use Rattle.std.proofs.lemmas.List.Sums.{sum_by-set}
use Rattle.digraph.specs.declared.mark.Mark.{Mark}
use Rattle.digraph.specs.declared.mark.Mark.TheVariants.{New, Open, Done}
use Rattle.digraph.specs.Graph.{NodeLists, next_of, is_graph, is_in, are_distinct, leads, falls_from}
use Rattle.digraph.specs.Searching.{State, IsSearch, is_done, is_open, is_new, is_done_mark, is_open_mark, is_new_mark, is_path, fronts_done, closed, turned, taken, mark_weight, weight, SomeReturns, IsEnd, IsStep}
use Rattle.digraph.specs.declared.search.End.{End}
use Rattle.digraph.specs.declared.search.Step.TheVariants.{Went}
use Rattle.digraph.proofs.Lists.{and_left, and_right, and_both, or_left, or_right, same, same_back, all_more, all_end, all_front, all_last, all_at, in_end, in_front, in_cases, at_in, all_get, distinct_end, distinct_front, distinct_last}
use Rattle.text_core.proofs.Truths.{bool_cases}

-- ---- one mark more

-- after a write a mark is the one that was written, or as it was
mark_cases : (marks : List Mark) (k j : ℕ) (m : Mark) → k < length marks
    → ((j ≡ k) × (slice_index_or (set marks k m) j New ≡ m)) ⊎ ((j ≢ k) × (slice_index_or (set marks k m) j New ≡ slice_index_or marks j New))
mark_cases marks k j m l =
    elim (eqb_tells j k) [
      | inl e ↦ inl (e.1, ap (λ i. slice_index_or (set marks k m) i New) e.1 ∙ get_or-set_same marks k m New l)
      | inr d ↦ inr (d.1, get_or-set_other marks k j m New d.1)
    ]

-- what was done stays so
done_kept : (marks : List Mark) (k j : ℕ) (m : Mark) → k < length marks → (is_done marks k ≡ true → is_done_mark m ≡ true) → is_done marks j ≡ true → is_done (set marks k m) j ≡ true
done_kept marks k j m l f h =
    elim (mark_cases marks k j m l) [
      | inl e ↦ let d : is_done marks k ≡ true = subst (λ (i : ℕ). is_done marks i ≡ true) e.0 h in ap is_done_mark e.1 ∙ f d
      | inr e ↦ ap is_done_mark e.1 ∙ h
    ]

not_done : (m : Mark) → is_new_mark m ≡ true → is_done_mark m ≡ true → is_done_mark Open ≡ true
not_done New h d = cc
not_done Open h d = d
not_done Done h d = cc

not_open : (m : Mark) → is_new_mark m ≡ true → is_open_mark m ≡ true → ⊥
not_open New h o = cc
not_open Open h o = cc
not_open Done h o = cc

done_open : (m : Mark) → is_done_mark m ≡ true → is_open_mark m ≡ true → ⊥
done_open New h o = cc
done_open Open h o = cc
done_open Done h o = cc

-- what doesn't stand in a list since it can't
off_list : (xs : List ℕ) (x : ℕ) → (is_in xs x ≡ true → ⊥) → is_in xs x ≡ false
off_list xs x f = elim (bool_cases (is_in xs x)) [ inl t ↦ absurd (f t) | inr n ↦ n ]

new_weight : (m : Mark) → is_new_mark m ≡ true → mark_weight m ≡ 2
new_weight New h = refl
new_weight Open h = cc
new_weight Done h = cc

-- ---- lists of nodes

falls_end : (g : NodeLists) (before ks : List ℕ) (k : ℕ) → falls_from g before ks ≡ true → list_all (is_in (before ++ ks)) (next_of g k) ≡ true → falls_from g before (ks ++ k ∷ []) ≡ true
falls_end g before [] k h d =
    let e : before ++ [] ≡ before = search rules in
    and_both (list_all (is_in before) (next_of g k)) true (subst (λ (b : List ℕ). list_all (is_in b) (next_of g k) ≡ true) e d) refl
falls_end g before (j ∷ ks) k h d =
    let e : before ++ j ∷ ks ≡ (before ++ j ∷ []) ++ ks = sym (append_assoc before (j ∷ []) ks) in
    and_both (list_all (is_in before) (next_of g j)) (falls_from g (before ++ j ∷ []) (ks ++ k ∷ []))
    (and_left (list_all (is_in before) (next_of g j)) (falls_from g (before ++ j ∷ []) ks) h)
    (falls_end g (before ++ j ∷ []) ks k (and_right (list_all (is_in before) (next_of g j)) (falls_from g (before ++ j ∷ []) ks) h)
    (subst (λ (b : List ℕ). list_all (is_in b) (next_of g k) ≡ true) e d))

path_end : (g : NodeLists) (ks : List ℕ) (k m : ℕ) → is_path g (ks ++ k ∷ []) ≡ true → is_in (next_of g k) m ≡ true → is_path g ((ks ++ k ∷ []) ++ m ∷ []) ≡ true
path_end g [] k m h e = and_both (is_in (next_of g k) m) true e refl
path_end g (j ∷ []) k m h e =
    and_both (is_in (next_of g j) k) (is_in (next_of g k) m && true) (and_left (is_in (next_of g j) k) true h) (and_both (is_in (next_of g k) m) true e refl)
path_end g (j ∷ i ∷ ks) k m h e =
    and_both (is_in (next_of g j) i) (is_path g (i ∷ (ks ++ k ∷ []) ++ m ∷ []))
    (and_left (is_in (next_of g j) i) (is_path g (i ∷ ks ++ k ∷ [])) h)
    (path_end g (i ∷ ks) k m (and_right (is_in (next_of g j) i) (is_path g (i ∷ ks ++ k ∷ [])) h) e)

path_front : (g : NodeLists) (ks : List ℕ) (k : ℕ) → is_path g (ks ++ k ∷ []) ≡ true → is_path g ks ≡ true
path_front g [] k h = refl
path_front g (j ∷ []) k h = refl
path_front g (j ∷ i ∷ ks) k h =
    and_both (is_in (next_of g j) i) (is_path g (i ∷ ks))
    (and_left (is_in (next_of g j) i) (is_path g (i ∷ ks ++ k ∷ [])) h)
    (path_front g (i ∷ ks) k (and_right (is_in (next_of g j) i) (is_path g (i ∷ ks ++ k ∷ [])) h))

path_tail : (g : NodeLists) (j : ℕ) (ks : List ℕ) (k : ℕ) → is_path g (j ∷ ks ++ k ∷ []) ≡ true → is_path g (ks ++ k ∷ []) ≡ true
path_tail g j [] k h = refl
path_tail g j (i ∷ ks) k h = and_right (is_in (next_of g j) i) (is_path g (i ∷ ks ++ k ∷ [])) h

-- ---- from a path to a return

pub any_in : (f : ℕ → Bool) (xs : List ℕ) (x : ℕ) → is_in xs x ≡ true → f x ≡ true → list_any f xs ≡ true
any_in f [] x h e = cc
any_in f (y ∷ ys) x h e =
    elim (or_cases (y == x) (is_in ys x) h) [
      | inl i ↦ let s : y ≡ x = same y x i in or_left (f y) (list_any f ys) (ap f s ∙ e)
      | inr m ↦ or_right (f y) (list_any f ys) (any_in f ys x m e)
    ]

pub one_edge : (g : NodeLists) (k m : ℕ) → is_in (next_of g k) m ≡ true → leads g 1 k m ≡ true
unfolding leads
one_edge g k m h = any_in (λ r. r == m || leads g 0 r m) (next_of g k) m h (or_left (m == m) (leads g 0 m m) (same_back m m refl))

pub edge_more : (g : NodeLists) (n k r m : ℕ) → is_in (next_of g k) r ≡ true → leads g n r m ≡ true → leads g (suc n) k m ≡ true
unfolding leads
edge_more g n k r m h e = any_in (λ i. i == m || leads g n i m) (next_of g k) r h (or_right (r == m) (leads g n r m) e)

-- from the first node of a path over an edge of the last
path_leads : (g : NodeLists) (j : ℕ) (ks : List ℕ) (k m : ℕ) → is_path g (j ∷ ks ++ k ∷ []) ≡ true → is_in (next_of g k) m ≡ true → (n : ℕ) × (leads g n j m ≡ true)
path_leads g j [] k m h e = (2, edge_more g 1 j k m (and_left (is_in (next_of g j) k) true h) (one_edge g k m e))
path_leads g j (i ∷ ks) k m h e =
    let more = path_leads g i ks k m (and_right (is_in (next_of g j) i) (is_path g (i ∷ ks ++ k ∷ [])) h) e in
    (suc more.0, edge_more g more.0 j i m (and_left (is_in (next_of g j) i) (is_path g (i ∷ ks ++ k ∷ [])) h) more.1)

-- an edge back to a node of the path
path_returns : (g : NodeLists) (ks : List ℕ) (k m : ℕ) → is_path g (ks ++ k ∷ []) ≡ true → is_in (ks ++ k ∷ []) m ≡ true → is_in (next_of g k) m ≡ true → (n : ℕ) × (leads g n m m ≡ true)
path_returns g [] k m h i e =
    elim (or_cases (k == m) false i) [
      | inl s ↦ (1, subst (λ (j : ℕ). leads g 1 j m ≡ true) (same k m s) (one_edge g k m e))
      | inr c ↦ cc
    ]
path_returns g (j ∷ ks) k m h i e =
    elim (or_cases (j == m) (is_in (ks ++ k ∷ []) m) i) [
      | inl s ↦
          let way = path_leads g j ks k m h e in
          (way.0, subst (λ (i : ℕ). leads g way.0 i m ≡ true) (same j m s) way.1)
      | inr c ↦ path_returns g ks k m (path_tail g j ks k h) c e
    ]

-- ---- steps

front_cases : (gone : List ℕ) (k j n : ℕ) → k < length gone
    → ((j ≡ k) × (slice_index_or (set gone k n) j 0 ≡ n)) ⊎ ((j ≢ k) × (slice_index_or (set gone k n) j 0 ≡ slice_index_or gone j 0))
front_cases gone k j n l =
    elim (eqb_tells j k) [
      | inl e ↦ inl (e.1, ap (λ i. slice_index_or (set gone k n) i 0) e.1 ∙ get_or-set_same gone k n 0 l)
      | inr d ↦ inr (d.1, get_or-set_other gone k j n 0 d.1)
    ]

-- the counts of edges that lead to what is done, with one written anew
fronts_kept : (g : NodeLists) (s : State) (marks : List Mark) (k n : ℕ) → IsSearch g s → k < length g
    → ((j : ℕ) → is_done s.marks j ≡ true → is_done marks j ≡ true) → fronts_done g s.marks k n ≡ true
    → (j : ℕ) → fronts_done g marks j (slice_index_or (set s.gone k n) j 0) ≡ true
fronts_kept g s marks k n h l more d j =
    elim (front_cases s.gone k j n (omega (arith, h.counted, l))) [
      | inl e ↦
          let here : fronts_done g s.marks j (slice_index_or (set s.gone k n) j 0) ≡ true =
          subst (λ (i : ℕ). fronts_done g s.marks j i ≡ true) (sym e.1) (subst (λ (i : ℕ). fronts_done g s.marks i n ≡ true) (sym e.0) d) in
          all_more (is_done s.marks) (is_done marks) more (take (slice_index_or (set s.gone k n) j 0) (next_of g j)) here
      | inr e ↦
          let here : fronts_done g s.marks j (slice_index_or (set s.gone k n) j 0) ≡ true =
          subst (λ (i : ℕ). fronts_done g s.marks j i ≡ true) (sym e.1) (h.fronts j) in
          all_more (is_done s.marks) (is_done marks) more (take (slice_index_or (set s.gone k n) j 0) (next_of g j)) here
    ]

low_kept : (g : NodeLists) (s : State) (k n : ℕ) → IsSearch g s → k < length g → n ≤ length (next_of g k) → (j : ℕ) → slice_index_or (set s.gone k n) j 0 ≤ length (next_of g j)
low_kept g s k n h l low j =
    elim (front_cases s.gone k j n (omega (arith, h.counted, l))) [
      | inl e ↦ subst (λ (i : ℕ). i ≤ length (next_of g j)) (sym e.1) (subst (λ (i : ℕ). n ≤ length (next_of g i)) (sym e.0) low)
      | inr e ↦ subst (λ (i : ℕ). i ≤ length (next_of g j)) (sym e.1) (h.low j)
    ]

pub ltb_lt : (a b : ℕ) → nat_lt a b ≡ true → a < b
ltb_lt a b h = search rules

pub lt_ltb : (a b : ℕ) → a < b → nat_lt a b ≡ true
lt_ltb a b h = search rules

-- the node at the end of the path
pub end_within : (g : NodeLists) (s : State) (ks : List ℕ) (k : ℕ) → IsSearch g s → s.path ≡ ks ++ k ∷ [] → k < length g
end_within g s ks k h e =
    ltb_lt k (length g) (all_last (λ i. nat_lt i (length g)) ks k (subst (λ (p : List ℕ). list_all (λ i. nat_lt i (length g)) p ≡ true) e h.path_within))

-- a node is left
pub closes : (g : NodeLists) (s : State) (ks : List ℕ) (k n : ℕ) → IsSearch g s → s.path ≡ ks ++ k ∷ [] → n ≡ length (next_of g k) → fronts_done g s.marks k n ≡ true
    → IsSearch g (closed (taken s ks k n) k)
closes g s ks k n h e len d =
    let l : k < length g = end_within g s ks k h e in
    let lm : k < length s.marks = omega (arith, h.marked, l) in
    let more : (j : ℕ) → is_done s.marks j ≡ true → is_done (set s.marks k Done) j ≡ true = λ j i. done_kept s.marks k j Done lm (λ x. refl) i in
    let all_done : list_all (is_done s.marks) (next_of g k) ≡ true =
    subst (λ (xs : List ℕ). list_all (is_done s.marks) xs ≡ true) (take_all n (next_of g k) (omega (arith, len))) d in
    let once : are_distinct (ks ++ k ∷ []) ≡ true = subst (λ (p : List ℕ). are_distinct p ≡ true) e h.path_once in
    record {
      marked = length-set s.marks k Done ∙ h.marked;
      counted = length-set s.gone k n ∙ h.counted;
      path_within = all_front (λ i. nat_lt i (length g)) ks k (subst (λ (p : List ℕ). list_all (λ i. nat_lt i (length g)) p ≡ true) e h.path_within);
      order_within = all_end (λ i. nat_lt i (length g)) s.order k h.order_within (lt_ltb k (length g) l);
      low = low_kept g s k n h l (omega (arith, len));
      fronts = fronts_kept g s (set s.marks k Done) k n h l more d;
      done = λ j i. elim (mark_cases s.marks k j Done lm) [
        | inl c ↦ subst (λ (x : ℕ). is_in (s.order ++ k ∷ []) x ≡ true) (sym c.0) (in_end s.order k)
        | inr c ↦ in_front s.order k j (h.done j (sym (ap is_done_mark c.1) ∙ i))
      ];
      opens = λ j i. elim (mark_cases s.marks k j Done lm) [
        | inl c ↦ let o : is_open_mark Done ≡ true = sym (ap is_open_mark c.1) ∙ i in cc
        | inr c ↦ elim (in_cases ks k j (subst (λ (p : List ℕ). is_in p j ≡ true) e (h.opens j (sym (ap is_open_mark c.1) ∙ i)))) [
          | inl m ↦ m
          | inr m ↦ absurd (c.0 (sym m))
        ]
      ];
      order_done = λ j i. elim (in_cases s.order k j i) [
        | inl m ↦ more j (h.order_done j m)
        | inr m ↦ subst (λ (x : ℕ). is_done (set s.marks k Done) x ≡ true) m (ap is_done_mark (get_or-set_same s.marks k Done New lm))
      ];
      path_open = λ j i. elim (mark_cases s.marks k j Done lm) [
        | inl c ↦ absurd (distinct_last ks k once (subst (λ (x : ℕ). is_in ks x ≡ true) c.0 i))
        | inr c ↦ ap is_open_mark c.1 ∙ h.path_open j (subst (λ (p : List ℕ). is_in p j ≡ true) (sym e) (in_front ks k j i))
      ];
      order_once = distinct_end s.order k h.order_once (off_list s.order k (λ m. done_open (slice_index_or s.marks k New) (h.order_done k m) (h.path_open k (subst (λ (p : List ℕ). is_in p k ≡ true) (sym e) (in_end ks k)))));
      path_once = distinct_front ks k once;
      falls = falls_end g [] s.order k h.falls (all_more (is_done s.marks) (is_in s.order) h.done (next_of g k) all_done);
      path = path_front g ks k (subst (λ (p : List ℕ). is_path g p ≡ true) e h.path);
    }

-- a new node is added to a path that leads to it
pub opens_node : (g : NodeLists) (s : State) (ks : List ℕ) (marks : List Mark) (k : ℕ) → IsSearch g s → k < length g → is_new s.marks k ≡ true
    → s.path ≡ ks → is_path g (ks ++ k ∷ []) ≡ true
    → (gone : List ℕ) → length gone ≡ length g → ((j : ℕ) → slice_index_or gone j 0 ≤ length (next_of g j))
    → ((j : ℕ) → fronts_done g s.marks j (slice_index_or gone j 0) ≡ true)
    → IsSearch g (record s { marks = set s.marks k Open; path = ks ++ k ∷ []; gone = gone })
opens_node g s ks marks k h l fresh e way gone counted low fronts =
    let lm : k < length s.marks = omega (arith, h.marked, l) in
    let more : (j : ℕ) → is_done s.marks j ≡ true → is_done (set s.marks k Open) j ≡ true = λ j i. done_kept s.marks k j Open lm (not_done (slice_index_or s.marks k New) fresh) i in
    record {
      marked = length-set s.marks k Open ∙ h.marked;
      counted = counted;
      path_within = all_end (λ i. nat_lt i (length g)) ks k (subst (λ (p : List ℕ). list_all (λ i. nat_lt i (length g)) p ≡ true) e h.path_within) (lt_ltb k (length g) l);
      order_within = h.order_within;
      low = low;
      fronts = λ j. all_more (is_done s.marks) (is_done (set s.marks k Open)) more (take (slice_index_or gone j 0) (next_of g j)) (fronts j);
      done = λ j i. elim (mark_cases s.marks k j Open lm) [
        | inl c ↦ let o : is_done_mark Open ≡ true = sym (ap is_done_mark c.1) ∙ i in cc
        | inr c ↦ h.done j (sym (ap is_done_mark c.1) ∙ i)
      ];
      opens = λ j i. elim (mark_cases s.marks k j Open lm) [
        | inl c ↦ subst (λ (x : ℕ). is_in (ks ++ k ∷ []) x ≡ true) (sym c.0) (in_end ks k)
        | inr c ↦ in_front ks k j (subst (λ (p : List ℕ). is_in p j ≡ true) e (h.opens j (sym (ap is_open_mark c.1) ∙ i)))
      ];
      order_done = λ j i. more j (h.order_done j i);
      path_open = λ j i. elim (mark_cases s.marks k j Open lm) [
        | inl c ↦ ap is_open_mark c.1
        | inr c ↦ elim (in_cases ks k j i) [
          | inl m ↦ ap is_open_mark c.1 ∙ h.path_open j (subst (λ (p : List ℕ). is_in p j ≡ true) (sym e) m)
          | inr m ↦ absurd (c.0 (sym m))
        ]
      ];
      order_once = h.order_once;
      path_once = distinct_end ks k (subst (λ (p : List ℕ). are_distinct p ≡ true) e h.path_once)
          (off_list ks k (λ m. not_open (slice_index_or s.marks k New) fresh (h.path_open k (subst (λ (p : List ℕ). is_in p k ≡ true) (sym e) m))));
      falls = h.falls;
      path = way;
    }

-- a new node to which the end of the path leads
pub turns : (g : NodeLists) (s : State) (ks : List ℕ) (k n next : ℕ) → IsSearch g s → s.path ≡ ks ++ k ∷ [] → n ≤ length (next_of g k) → fronts_done g s.marks k n ≡ true
    → is_in (next_of g k) next ≡ true → next < length g → is_new s.marks next ≡ true
    → IsSearch g (turned (taken s ks k n) k next)
turns g s ks k n next h e low d i l fresh =
    let lk : k < length g = end_within g s ks k h e in
    opens_node g s (ks ++ k ∷ []) s.marks next h l fresh e
    (path_end g ks k next (subst (λ (p : List ℕ). is_path g p ≡ true) e h.path) i)
    (set s.gone k n) (length-set s.gone k n ∙ h.counted) (low_kept g s k n h lk low) (fronts_kept g s s.marks k n h lk (λ j m. m) d)

-- an edge back to the path
pub returns_back : (g : NodeLists) (s : State) (ks : List ℕ) (k next : ℕ) → IsSearch g s → s.path ≡ ks ++ k ∷ [] → is_in (next_of g k) next ≡ true → next < length g → is_open s.marks next ≡ true → SomeReturns g
returns_back g s ks k next h e i l o =
    let way = path_returns g ks k next (subst (λ (p : List ℕ). is_path g p ≡ true) e h.path) (subst (λ (p : List ℕ). is_in p next ≡ true) e (h.opens next o)) i in
    (way.0, next, l, way.1)

-- ---- how much is left

pub close_lighter : (g : NodeLists) (s : State) (ks : List ℕ) (k n : ℕ) → IsSearch g s → s.path ≡ ks ++ k ∷ [] → weight (closed (taken s ks k n) k) < weight s
close_lighter g s ks k n h e =
    let l : k < length g = end_within g s ks k h e in
    let w = sum_by-set mark_weight s.marks k Done New (omega (arith, h.marked, l)) in
    let p : length s.path ≡ length ks + 1 = ap length e ∙ length-append ks (k ∷ []) in
    omega (arith, w, p)

pub turn_lighter : (g : NodeLists) (s : State) (ks : List ℕ) (k n next : ℕ) → IsSearch g s → s.path ≡ ks ++ k ∷ [] → next < length g → is_new s.marks next ≡ true → weight (turned (taken s ks k n) k next) < weight s
turn_lighter g s ks k n next h e l fresh =
    let w = sum_by-set mark_weight s.marks next Open New (omega (arith, h.marked, l)) in
    let two : mark_weight (slice_index_or s.marks next New) ≡ 2 = new_weight (slice_index_or s.marks next New) fresh in
    let p : length s.path ≡ length ks + 1 = ap length e ∙ length-append ks (k ∷ []) in
    let q : length ((ks ++ k ∷ []) ++ next ∷ []) ≡ length ks + 1 + 1 = length-append (ks ++ k ∷ []) (next ∷ []) ∙ ap (λ i. i + 1) (length-append ks (k ∷ [])) in
    omega (arith, w, two, p, q)

-- what is written is no new mark
pub keeps_set : (g : NodeLists) (s : State) (k : ℕ) (m : Mark) → k < length s.marks → is_new_mark m ≡ false → (j : ℕ) → is_new (set s.marks k m) j ≡ true → is_new s.marks j ≡ true
keeps_set g s k m l old j h =
    elim (mark_cases s.marks k j m l) [
      | inl c ↦ let o : is_new_mark m ≡ true = sym (ap is_new_mark c.1) ∙ h in cc
      | inr c ↦ sym (ap is_new_mark c.1) ∙ h
    ]

-- ---- what the code reads

pub read_is : {X : Type 0} (xs : List X) (i : ℕ) (x d : X) → i < length xs → x ≡ slice_index_or xs i x → slice_index_or xs i d ≡ x
read_is xs i x d l e = get_or_default xs i d x l ∙ sym e

pub row_is : (g : NodeLists) (k : ℕ) (row : List ℕ) → k < length g → row ≡ slice_index_or g k row → next_of g k ≡ row
row_is g k row l e = read_is g k row [] l e

pub target_in : (row : List ℕ) (i x : ℕ) → i < length row → x ≡ slice_index_or row i x → is_in row x ≡ true
target_in row i x l e = let P : ℕ → Type 0 = λ y. is_in row y ≡ true in subst P (sym e) (at_in row i x l)

-- every edge ends at a node
pub target_within : (g : NodeLists) (k : ℕ) → is_graph g ≡ true → k < length g → list_all (λ m. nat_lt m (length g)) (next_of g k) ≡ true
target_within g k h l = all_get (λ ends. list_all (λ m. nat_lt m (length g)) ends) g k [] l h

-- not done and not on the path
pub is_fresh : (m : Mark) → is_done_mark m ≡ false → is_open_mark m ≡ false → is_new_mark m ≡ true
is_fresh New h i = refl
is_fresh Open h i = cc
is_fresh Done h i = cc

-- ---- steps of the code

pub closed_step : (g : NodeLists) (s t : State) (end : End) → IsSearch g s → IsEnd g s t end → end.edge ≡ length (next_of g end.node) → IsStep g s (closed t end.node) Went
closed_step g s t end h e all =
    let T = taken s t.path end.node end.edge in
    let there : IsStep g s (closed T end.node) Went =
    (closes g s t.path end.node end.edge h e.ends all e.done, close_lighter g s t.path end.node end.edge h e.ends, keeps_set g s end.node Done (omega (arith, h.marked, e.there)) refl) in
    subst (λ (u : State). IsStep g s (closed u end.node) Went) (sym e.takes) there

-- the target of the edge at which the scan stopped
next_within : (g : NodeLists) (k i x : ℕ) (row : List ℕ) → is_graph g ≡ true → k < length g → next_of g k ≡ row → i < length row → x ≡ slice_index_or row i x → x < length g
next_within g k i x row h l r low e =
    let w : list_all (λ m. nat_lt m (length g)) row ≡ true = subst (λ (xs : List ℕ). list_all (λ m. nat_lt m (length g)) xs ≡ true) r (target_within g k h l) in
    ltb_lt x (length g) (all_at (λ m. nat_lt m (length g)) row x w (target_in row i x low e))

next_in : (g : NodeLists) (k i x : ℕ) (row : List ℕ) → next_of g k ≡ row → i < length row → x ≡ slice_index_or row i x → is_in (next_of g k) x ≡ true
next_in g k i x row r low e = subst (λ (xs : List ℕ). is_in xs x ≡ true) (sym r) (target_in row i x low e)

pub returned_step : (g : NodeLists) (s t : State) (end : End) (x : ℕ) (row : List ℕ) → is_graph g ≡ true → IsSearch g s → IsEnd g s t end → row ≡ slice_index_or g end.node row → end.edge ≢ length row
    → x ≡ slice_index_or row end.edge x → is_open t.marks x ≡ true → SomeReturns g
returned_step g s t end x row gr h e r off is o =
    let same = row_is g end.node row e.there r in
    let low : end.edge < length row = omega (arith, e.low, ap length same, off) in
    returns_back g s t.path end.node x h e.ends (next_in g end.node end.edge x row same low is) (next_within g end.node end.edge x row gr e.there same low is)
    (subst (λ (u : State). is_open u.marks x ≡ true) e.takes o)

pub turned_step : (g : NodeLists) (s t : State) (end : End) (x : ℕ) (row : List ℕ) → is_graph g ≡ true → IsSearch g s → IsEnd g s t end → row ≡ slice_index_or g end.node row → end.edge ≢ length row
    → x ≡ slice_index_or row end.edge x → is_open t.marks x ≡ false → IsStep g s (turned t end.node x) Went
turned_step g s t end x row gr h e r off is o =
    let same = row_is g end.node row e.there r in
    let low : end.edge < length row = omega (arith, e.low, ap length same, off) in
    let l = next_within g end.node end.edge x row gr e.there same low is in
    let undone : is_done s.marks (slice_index_or (next_of g end.node) end.edge 0) ≡ false = e.stops (omega (arith, low, ap length same)) in
    let there : slice_index_or (next_of g end.node) end.edge 0 ≡ x = ap (λ xs. slice_index_or xs end.edge 0) same ∙ read_is row end.edge x 0 low is in
    let shut : is_open s.marks x ≡ false = subst (λ (u : State). is_open u.marks x ≡ false) e.takes o in
    let fresh : is_new s.marks x ≡ true = is_fresh (slice_index_or s.marks x New) (subst (λ (y : ℕ). is_done s.marks y ≡ false) there undone) shut in
    let step : IsStep g s (turned (taken s t.path end.node end.edge) end.node x) Went = (
      turns g s t.path end.node end.edge x h e.ends e.low e.done (next_in g end.node end.edge x row same low is) l fresh,
      turn_lighter g s t.path end.node end.edge x h e.ends l fresh,
      keeps_set g s x Open (omega (arith, h.marked, l)) refl,
    ) in
    subst (λ (u : State). IsStep g s (turned u end.node x) Went) (sym e.takes) step
