-- Walks in a graph: where one node leads to another, it does by no more edges than there are nodes.
use Rattle.std.proofs.Common.{◌≡◌, ℕ, zero, suc, ◌<◌, ◌≤◌, eqb, nat_lt, Bool, true, false, ◌||◌, List, [], ◌∷◌, ◌++◌, length, refl, sym, subst, arith}
use Rattle.std.specs.Prelude.{slice_index_or}
use Rattle.std.specs.List.{AllByRecursion, IsDistinct, list_all, list_any}
use Rattle.std.proofs.lemmas.Bool.{and_parts}
use Rattle.std.proofs.lemmas.Bool.Decides.{nat_tests}
use Rattle.std.proofs.lemmas.Map.Steps.{length-le_from_distinct_below}
use Rattle.digraph.specs.Graph.{NodeLists, is_graph, leads, next_of}
use Rattle.moxi_scripts.specs.laws.WholeNames.{or_parts}
use Rattle.moxi_scripts.proofs.MeetingLaws.{or_second}

abbrev pub In : List ℕ → ℕ → Type 0
In xs x = list_any (eqb x) xs ≡ true

pub equal : (a b : ℕ) → eqb a b ≡ true → a ≡ b
equal a b h = grind (arith, nat_tests)

equal_back : (a b : ℕ) → a ≡ b → eqb a b ≡ true
equal_back a b h = grind (arith, nat_tests)

pub or_first : (a b : Bool) → a ≡ true → (a || b) ≡ true
or_first true b h = refl
or_first false b h = absurd (cc)

any_some : (p : ℕ → Bool) (xs : List ℕ) → list_any p xs ≡ true → (x : ℕ) × In xs x × (p x ≡ true)
any_some p [] h = absurd (cc)
any_some p (x ∷ xs) h = by_test (any_some p xs) (p x) refl h
  where
    by_test : (list_any p xs ≡ true → (y : ℕ) × In xs y × (p y ≡ true)) → (b : Bool) → p x ≡ b → (b || list_any p xs) ≡ true → (y : ℕ) × In (x ∷ xs) y × (p y ≡ true)
    by_test rest true e h = (x, or_first (eqb x x) (list_any (eqb x) xs) (equal_back x x refl), e)
    by_test rest false e h = let r = rest h in (r.0, or_second (eqb r.0 x) (list_any (eqb r.0) xs) r.1, r.2)

some_any : (p : ℕ → Bool) (xs : List ℕ) (x : ℕ) → In xs x → p x ≡ true → list_any p xs ≡ true
some_any p [] x h e = absurd (cc)
some_any p (y ∷ ys) x h e = by_test (some_any p ys x) (eqb x y) refl h
  where
    by_test : (In ys x → p x ≡ true → list_any p ys ≡ true) → (b : Bool) → eqb x y ≡ b → (b || list_any (eqb x) ys) ≡ true → (p y || list_any p ys) ≡ true
    by_test rest true t h = or_first (p y) (list_any p ys) (subst (λ z. p z ≡ true) (equal x y t) e)
    by_test rest false t h = or_second (p y) (list_any p ys) (rest h e)

-- along these nodes one comes from a node to another
abbrev pub Walk : NodeLists → ℕ → List ℕ → ℕ → Type 0
Walk g k [] m = k ≡ m
Walk g k (r ∷ rs) m = In (next_of g k) r × Walk g r rs m

module _ (g : NodeLists) where
  pub walk_of : (n k m : ℕ) → leads g n k m ≡ true → (r : ℕ) × (rs : List ℕ) × Walk g k (r ∷ rs) m
  unfolding leads
  walk_of zero k m h = absurd (cc)
  walk_of (suc n) k m h =
      let x = any_some (λ r. eqb r m || leads g n r m) (next_of g k) h in
      by_end x.0 x.1 (eqb x.0 m) refl x.2 (walk_of n x.0 m)
    where
      by_end : (r : ℕ) → In (next_of g k) r → (b : Bool) → eqb r m ≡ b → (b || leads g n r m) ≡ true → (leads g n r m ≡ true → (s : ℕ) × (ss : List ℕ) × Walk g r (s ∷ ss) m) → (q : ℕ) × (qs : List ℕ) × Walk g k (q ∷ qs) m
      by_end r i true t h rest = (r, [], (i, equal r m t))
      by_end r i false t h rest = let w = rest h in (r, w.0 ∷ w.1, (i, w.2))

  pub leads_along : (n k m r : ℕ) (rs : List ℕ) → Walk g k (r ∷ rs) m → length rs < n → leads g n k m ≡ true
  unfolding leads
  leads_along zero k m r rs w h = absurd (omega arith)
  leads_along (suc n) k m r [] w h = some_any (λ x. eqb x m || leads g n x m) (next_of g k) r w.0 (or_first (eqb r m) (leads g n r m) (equal_back r m w.1))
  leads_along (suc n) k m r (s ∷ ss) w h = some_any (λ x. eqb x m || leads g n x m) (next_of g k) r w.0 (or_second (eqb r m) (leads g n r m) (leads_along n r m s ss w.1 (omega arith)))

  pub one_more_step : (k m r : ℕ) (rs : List ℕ) → Walk g k rs m → In (next_of g m) r → Walk g k (rs ++ r ∷ []) r
  one_more_step k m r [] w i = (subst (λ n. In (next_of g n) r) (sym w) i, refl)
  one_more_step k m r (s ∷ ss) w i = (w.0, one_more_step s m r ss w.1 i)

  -- a walk on which no node occurs twice
  record IsShort (k m : ℕ) : Type 0 where
    pub first : ℕ
    pub rest : List ℕ
    pub walk : Walk g k (first ∷ rest) m
    pub distinct : IsDistinct eqb (first ∷ rest)

  -- what is left of a walk from the place of a node on
  cut : (x m r : ℕ) (ws : List ℕ) → Walk g x ws m → IsDistinct eqb ws → In ws r → (ts : List ℕ) × Walk g r ts m × IsDistinct eqb (r ∷ ts)
  unfolding IsDistinct
  cut x m r [] w d i = absurd (cc)
  cut x m r (y ∷ ys) w d i = by_test (cut y m r ys w.1 d.1) (eqb r y) refl i
    where
      by_test : (In ys r → (ts : List ℕ) × Walk g r ts m × IsDistinct eqb (r ∷ ts)) → (b : Bool) → eqb r y ≡ b → (b || list_any (eqb r) ys) ≡ true → (ts : List ℕ) × Walk g r ts m × IsDistinct eqb (r ∷ ts)
      by_test rest true t i = let e : r ≡ y = equal r y t in (ys, subst (λ z. Walk g z ys m) (sym e) w.1, subst (λ z. IsDistinct eqb (z ∷ ys)) (sym e) d)
      by_test rest false t i = rest i

  none_equal : (r : ℕ) (xs : List ℕ) → list_any (eqb r) xs ≡ false → AllByRecursion (λ y. eqb r y ≡ false) xs
  none_equal r [] h = tt
  none_equal r (x ∷ xs) h = let p = or_parts (eqb r x) (list_any (eqb r) xs) h in (p.0, none_equal r xs p.1)

  shorten : (k m r : ℕ) (rs : List ℕ) → Walk g k (r ∷ rs) m → IsShort k m
  unfolding IsDistinct
  shorten k m r [] w = record { first = r; rest = []; walk = w; distinct = (tt, tt) }
  shorten k m r (s ∷ ss) w =
      let q = shorten r m s ss w.1 in
      by_test q (list_any (eqb r) (q.first ∷ q.rest)) refl
    where
      by_test : (q : IsShort r m) (b : Bool) → list_any (eqb r) (q.first ∷ q.rest) ≡ b → IsShort k m
      by_test q true t = let c = cut r m r (q.first ∷ q.rest) q.walk q.distinct t in record { first = r; rest = c.0; walk = (w.0, c.1); distinct = c.2 }
      by_test q false t = record { first = r; rest = q.first ∷ q.rest; walk = (w.0, q.walk); distinct = (none_equal r (q.first ∷ q.rest) t, q.distinct) }

  -- each node of a walk is one of the graph
  pub all_next : (n : ℕ) (h : NodeLists) (k r : ℕ) → list_all (λ ends. list_all (λ m. nat_lt m n) ends) h ≡ true → In (slice_index_or h k []) r → r < n
  all_next n [] k r a i = absurd (cc)
  all_next n (x ∷ xs) zero r a i = in_row x (and_parts (list_all (λ m. nat_lt m n) x) (list_all (λ ends. list_all (λ m. nat_lt m n) ends) xs) a).0 i
    where
      in_row : (ys : List ℕ) → list_all (λ m. nat_lt m n) ys ≡ true → In ys r → r < n
      in_row [] a i = absurd (cc)
      in_row (y ∷ ys) a i = by_test (in_row ys) (eqb r y) refl i (and_parts (nat_lt y n) (list_all (λ m. nat_lt m n) ys) a)
        where
          by_test : (list_all (λ m. nat_lt m n) ys ≡ true → In ys r → r < n) → (b : Bool) → eqb r y ≡ b → (b || list_any (eqb r) ys) ≡ true → (nat_lt y n ≡ true) × (list_all (λ m. nat_lt m n) ys ≡ true) → r < n
          by_test rest true t i p = let e : r ≡ y = equal r y t in let l : y < n = grind (arith, nat_tests, p.0) in omega arith
          by_test rest false t i p = rest p.1 i
  all_next n (x ∷ xs) (suc k) r a i = all_next n xs k r (and_parts (list_all (λ m. nat_lt m n) x) (list_all (λ ends. list_all (λ m. nat_lt m n) ends) xs) a).1 i

  walk_within : is_graph g ≡ true → (k m : ℕ) (ws : List ℕ) → Walk g k ws m → (q : ℕ) → list_any (eqb q) ws ≡ true → q < length g
  walk_within a k m [] w q h = absurd (cc)
  walk_within a k m (y ∷ ys) w q h = by_test (walk_within a y m ys w.1 q) (eqb q y) refl h
    where
      by_test : (list_any (eqb q) ys ≡ true → q < length g) → (b : Bool) → eqb q y ≡ b → (b || list_any (eqb q) ys) ≡ true → q < length g
      by_test rest true t h = let e : q ≡ y = equal q y t in let l : y < length g = all_next (length g) g k y a w.0 in omega arith
      by_test rest false t h = rest h

  pub leads_short : is_graph g ≡ true → (n k m : ℕ) → leads g n k m ≡ true → leads g (suc (length g)) k m ≡ true
  leads_short a n k m h =
      let w = walk_of n k m h in
      let s = shorten k m w.0 w.1 w.2 in
      let few : length (s.first ∷ s.rest) ≤ length g = length-le_from_distinct_below (s.first ∷ s.rest) (length g) s.distinct (walk_within a k m (s.first ∷ s.rest) s.walk) in
      leads_along (suc (length g)) k m s.first s.rest s.walk (omega arith)

  longer : (ss : List ℕ) (r : ℕ) → length (ss ++ r ∷ []) < suc (suc (suc (length ss)))
  longer [] r = omega arith
  longer (s ∷ ss) r = let l = longer ss r in omega arith

  -- a node that leads to itself leads to one that leads to itself
  pub next_returns : (n k : ℕ) → leads g n k k ≡ true → (r : ℕ) × In (next_of g k) r × (i : ℕ) × (leads g i r r ≡ true)
  next_returns n k h =
      let w = walk_of n k k h in
      (w.0, w.2.0, suc (suc (length w.1)), around w.0 w.1 w.2)
    where
      around : (r : ℕ) (rs : List ℕ) → Walk g k (r ∷ rs) k → leads g (suc (suc (length rs))) r r ≡ true
      around r [] w = leads_along 2 r r r [] (subst (λ n. In (next_of g n) r) (sym w.1) w.0, refl) (omega arith)
      around r (s ∷ ss) w = leads_along (suc (suc (length (s ∷ ss)))) r r s (ss ++ r ∷ []) (one_more_step r k r (s ∷ ss) w.1 w.0) (longer ss r)
