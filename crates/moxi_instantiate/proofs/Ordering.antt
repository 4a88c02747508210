-- Where subsystems nest less deep than the systems in which they stand, no system leads back to itself.
use Rattle.std.proofs.Common.{◌≡◌, ℕ, zero, suc, ◌<◌, ◌⊎◌, inl, inr, Bool, true, false, ◌&&◌, ◌||◌, ◌==◌, nat_lt, List, [], ◌∷◌, map, length, refl, sym, ap, ◌∙◌, subst, arith}
use Rattle.std.specs.List.{AllByRecursion, list_all, list_any}
use Rattle.std.proofs.lemmas.Bool.{or_cases, ltb-true}
use Rattle.std.proofs.lemmas.List.{length-map}
use Rattle.std.proofs.Math.Bool.{Bool-set}
use Rattle.std.proofs.Math.Logic.{∥∥₁_elim}
use Rattle.digraph.specs.Graph.{NodeLists, next_of, is_graph, leads, IsFirstReturn}
use Rattle.moxi_scripts.specs.declared.script.Subsystem.{Subsystem}
use Rattle.moxi_scripts.specs.Script.{PlainSystem, system_at}
use Rattle.moxi_flat.specs.Systems.{nesting_upto}
use Rattle.moxi_instantiate.specs.Amounts.{AreRanked, links_of, systems_inside}
use Rattle.moxi_instantiate.proofs.Filling.{next_is, both, same_number}
use Rattle.moxi_scripts.proofs.CycleLaws.{less}

two : (a b : Bool) → a ≡ true → b ≡ true → (a && b) ≡ true
two true b h g = g
two false b h g = absurd (cc)

abbrev is_lower : ℕ → (ℕ → ℕ) → ℕ → ℕ → Bool
is_lower n rank k m = nat_lt m n && nat_lt (rank m) (rank k)

each_lower : (n : ℕ) (rank : ℕ → ℕ) (k : ℕ) (bs : List Subsystem) → AllByRecursion (λ (b : Subsystem). b.system < n) bs → AllByRecursion (λ (b : Subsystem). rank b.system < rank k) bs
    → list_all (is_lower n rank k) (map (λ (b : Subsystem). b.system) bs) ≡ true
each_lower n rank k [] h g = refl
each_lower n rank k (b ∷ bs) h g =
    two (is_lower n rank k b.system) (list_all (is_lower n rank k) (map (λ (b : Subsystem). b.system) bs))
    (two (nat_lt b.system n) (nat_lt (rank b.system) (rank k)) (less b.system n h.0) (less (rank b.system) (rank k) g.0)) (each_lower n rank k bs h.1 g.1)

-- a row of the graph, where it is one
row_passes : (p : ℕ → Bool) (ss : List PlainSystem) (k : ℕ) → (k < length ss → list_all p (systems_inside (system_at ss k)) ≡ true) → list_all p (systems_inside (system_at ss k)) ≡ true
row_passes p [] zero f = refl
row_passes p [] (suc k) f = refl
row_passes p (s ∷ ss) zero f = f (omega arith)
row_passes p (s ∷ ss) (suc k) f = row_passes p ss k (λ h. f (omega arith))

one_of : (p q : ℕ → Bool) (xs : List ℕ) → list_any p xs ≡ true → list_all q xs ≡ true → (x : ℕ) × (p x ≡ true) × (q x ≡ true)
one_of p q [] a b = absurd (cc)
one_of p q (x ∷ xs) a b =
    let s = both (q x) (list_all q xs) b in by s.0 (λ (h : list_any p xs ≡ true). one_of p q xs h s.1) (or_cases (p x) (list_any p xs) a)
  where
    by : q x ≡ true → (list_any p xs ≡ true → (x : ℕ) × (p x ≡ true) × (q x ≡ true)) → (p x ≡ true) ⊎ (list_any p xs ≡ true) → (x : ℕ) × (p x ≡ true) × (q x ≡ true)
    by s rest (inl h) = (x, h, s)
    by s rest (inr h) = rest h

leads_down : (g : NodeLists) (n : ℕ) (rank : ℕ → ℕ) → ((k : ℕ) → list_all (is_lower n rank k) (next_of g k) ≡ true) → (s k m : ℕ) → leads g s k m ≡ true → rank m < rank k
unfolding leads
leads_down g n rank h zero k m l = absurd (cc)
leads_down g n rank h (suc s) k m l =
    let x = one_of (λ r. r == m || leads g s r m) (is_lower n rank k) (next_of g k) l (h k) in
    let low = ltb-true (rank x.0) (rank k) (both (nat_lt x.0 n) (nat_lt (rank x.0) (rank k)) x.2).1 in
    by x.0 low (λ e. leads_down g n rank h s x.0 m e) (or_cases (x.0 == m) (leads g s x.0 m) x.1)
  where
    by : (r : ℕ) → rank r < rank k → (leads g s r m ≡ true → rank m < rank r) → ((r == m) ≡ true) ⊎ (leads g s r m ≡ true) → rank m < rank k
    by r low rest (inl e) = subst (λ z. rank z < rank k) (same_number r m e) low
    by r low rest (inr e) = let d = rest e in omega arith

all_next : (test : ℕ → Bool) (g : NodeLists) → ((k : ℕ) → list_all test (next_of g k) ≡ true) → list_all (list_all test) g ≡ true
all_next test [] h = refl
all_next test (r ∷ g) h = two (list_all test r) (list_all (list_all test) g) (h zero) (all_next test g (λ k. h (suc k)))

all_more : (p q : ℕ → Bool) → ((x : ℕ) → p x ≡ true → q x ≡ true) → (xs : List ℕ) → list_all p xs ≡ true → list_all q xs ≡ true
all_more p q f [] h = refl
all_more p q f (x ∷ xs) h = let b = both (p x) (list_all p xs) h in two (q x) (list_all q xs) (f x b.0) (all_more p q f xs b.1)

module _ (ss : List PlainSystem) where
  next_lower : AreRanked ss → (k : ℕ) → list_all (is_lower (length ss) (nesting_upto ss (length ss)) k) (next_of (links_of ss) k) ≡ true
  next_lower r k =
      let p = is_lower (length ss) (nesting_upto ss (length ss)) k in
      ap (list_all p) (next_is ss k)
      ∙ row_passes p ss k (λ h. each_lower (length ss) (nesting_upto ss (length ss)) k (system_at ss k).subsystems (r.there k h) (r.falls k h))

  graph_ranked : AreRanked ss → is_graph (links_of ss) ≡ true
  graph_ranked r =
      let n = length ss in
      let rank = nesting_upto ss n in
      subst (λ m. list_all (λ ends. list_all (λ x. nat_lt x m) ends) (links_of ss) ≡ true) (sym (length-map ss systems_inside))
      (all_next (λ x. nat_lt x n) (links_of ss)
      (λ k. all_more (is_lower n rank k) (λ x. nat_lt x n) (λ x s. (both (nat_lt x n) (nat_lt (rank x) (rank k)) s).0) (next_of (links_of ss) k) (next_lower r k)))

  pub graph_is : ∥ AreRanked ss ∥₁ → (g : NodeLists) → g ≡ links_of ss → is_graph g ≡ true
  graph_is ranked g e = ap is_graph e ∙ ∥∥₁_elim ranked (Bool-set (is_graph (links_of ss)) true) graph_ranked

  returns_not : AreRanked ss → (k : ℕ) → IsFirstReturn (links_of ss) k → ⊥
  returns_not r k f =
      let l = leads_down (links_of ss) (length ss) (nesting_upto ss (length ss)) (next_lower r) (suc (length (links_of ss))) k k (f.returns (suc (length (links_of ss))) (omega arith)) in
      omega arith

  pub never_returns : ∥ AreRanked ss ∥₁ → (g : NodeLists) → g ≡ links_of ss → (k : ℕ) → IsFirstReturn g k → ⊥
  never_returns ranked g e k f = ∥∥₁_elim ranked (λ x y. absurd x) (λ r. returns_not r k (subst (λ g. IsFirstReturn g k) e f))
