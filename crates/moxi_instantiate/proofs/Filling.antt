-- Systems are counted in an order in which each is after those of its subsystems.
use Rattle.std.proofs.Common.{◌≡◌, ℕ, zero, suc, ◌+◌, ◌<◌, ◌⊎◌, inl, inr, max, Bool, true, false, ◌&&◌, ◌||◌, ◌==◌, nat_lt, List, [], ◌∷◌, ◌++◌, map, take, length, append_assoc, refl, sym, ap, ◌∙◌, subst, arith}
use Rattle.std.specs.Prelude.{slice_index_or, slice_set as set, sum_by}
use Rattle.std.specs.List.{AllByRecursion, list_all}
use Rattle.std.proofs.lemmas.Bool.Decides.{eqb_tells, nat_tests}
use Rattle.std.proofs.lemmas.List.{get_or-set_same, get_or-set_other, length-map}
use Rattle.std.proofs.lemmas.List.Sums.{sum_by-cons}
use Rattle.std.proofs.Math.Logic.{∥∥₁_elim}
use Rattle.std.proofs.Math.Nat.{ℕ_set}
use Rattle.std.proofs.Math.Seq.{take-length}
use Rattle.digraph.specs.Graph.{NodeLists, next_of, is_in, falls_from, IsSorted}
use Rattle.moxi_scripts.specs.declared.script.Subsystem.{Subsystem}
use Rattle.moxi_scripts.specs.declared.script.System.{System}
use Rattle.moxi_scripts.specs.Script.{PlainSystem, plain_system, system_at}
use Rattle.moxi_flat.specs.Terms.{term_height, term_size}
use Rattle.moxi_flat.specs.Systems.{greatest_by, instance_height, instance_size, nesting_upto}
use Rattle.moxi_flat.specs.Instantiating.{IsEnough}
use Rattle.moxi_instantiate.specs.declared.systems.Measure.{Measure}
use Rattle.moxi_instantiate.specs.declared.systems.Measure.TheVariants.{Size, Height, Nesting}
use Rattle.moxi_instantiate.specs.Amounts.{AreRanked, amount_upto, amount_with, inner_greatest, inner_sum, links_of, systems_inside}
use Rattle.moxi_instantiate.specs.Counting.{capped, known}
use Rattle.moxi_instantiate.proofs.Capping.{capped_twice, heights_agree, same_max, same_sum, sizes_agree}

-- ONE LEVEL

sum_is : (inner : ℕ → ℕ) (bs : List Subsystem) → sum_by (λ (b : Subsystem). inner b.system) bs ≡ inner_sum inner bs
sum_is inner [] = refl
sum_is inner (b ∷ bs) = sum_by-cons (λ (b : Subsystem). inner b.system) b bs ∙ ap (λ n. inner b.system + n) (sum_is inner bs)

greatest_is : (inner : ℕ → ℕ) (bs : List Subsystem) → greatest_by (λ (b : Subsystem). inner b.system) bs ≡ inner_greatest inner bs
greatest_is inner [] = refl
greatest_is inner (b ∷ bs) = ap (max (inner b.system)) (greatest_is inner bs)

pub one_level : (m : Measure) (calls : ℕ → ℕ) (ss : List PlainSystem) (n i : ℕ) → amount_upto m calls ss (suc n) i ≡ amount_with m calls (amount_upto m calls ss n) (system_at ss i)
one_level Size calls ss n i =
    let s = system_at ss i in
    ap (λ inner. 1 + (term_size calls s.init + (term_size calls s.trans + (term_size calls s.inv + (length s.locals + inner))))) (sum_is (instance_size calls ss n) s.subsystems)
one_level Height calls ss n i =
    let s = system_at ss i in
    ap (λ inner. max (term_height calls s.init) (max (term_height calls s.trans) (max (term_height calls s.inv) inner))) (greatest_is (instance_height calls ss n) s.subsystems)
one_level Nesting calls ss n i = ap (λ inner. 1 + inner) (greatest_is (nesting_upto ss n) (system_at ss i).subsystems)

unfolds : (m : Measure) (calls : ℕ → ℕ) (ss : List PlainSystem) (n i : ℕ) → IsEnough ss n i → amount_upto m calls ss (suc n) i ≡ amount_upto m calls ss n i
unfolds Size calls ss n i e = e.size calls
unfolds Height calls ss n i e = e.height calls
unfolds Nesting calls ss n i e = e.nesting

-- COUNTS THAT AGREE UP TO THE CAP

abbrev Agree : (ℕ → ℕ) → (ℕ → ℕ) → List Subsystem → Type 0
Agree f g bs = AllByRecursion (λ (b : Subsystem). capped (f b.system) ≡ capped (g b.system)) bs

sums_agree : (f g : ℕ → ℕ) (bs : List Subsystem) → Agree f g bs → capped (inner_sum f bs) ≡ capped (inner_sum g bs)
sums_agree f g [] h = refl
sums_agree f g (b ∷ bs) h = same_sum (f b.system) (inner_sum f bs) (g b.system) (inner_sum g bs) h.0 (sums_agree f g bs h.1)

greatest_agree : (f g : ℕ → ℕ) (bs : List Subsystem) → Agree f g bs → capped (inner_greatest f bs) ≡ capped (inner_greatest g bs)
greatest_agree f g [] h = refl
greatest_agree f g (b ∷ bs) h = same_max (f b.system) (inner_greatest f bs) (g b.system) (inner_greatest g bs) h.0 (greatest_agree f g bs h.1)

pub amounts_agree : (m : Measure) (c d f g : ℕ → ℕ) (s : PlainSystem) → ((n : ℕ) → capped (c n) ≡ capped (d n)) → Agree f g s.subsystems
    → capped (amount_with m c f s) ≡ capped (amount_with m d g s)
amounts_agree Size c d f g s a h =
    same_sum 1 _ 1 _ refl (same_sum (term_size c s.init) _ (term_size d s.init) _ (sizes_agree c d a s.init)
    (same_sum (term_size c s.trans) _ (term_size d s.trans) _ (sizes_agree c d a s.trans)
    (same_sum (term_size c s.inv) _ (term_size d s.inv) _ (sizes_agree c d a s.inv)
    (same_sum (length s.locals) (inner_sum f s.subsystems) (length s.locals) (inner_sum g s.subsystems) refl (sums_agree f g s.subsystems h)))))
amounts_agree Height c d f g s a h =
    same_max (term_height c s.init) _ (term_height d s.init) _ (heights_agree c d a s.init)
    (same_max (term_height c s.trans) _ (term_height d s.trans) _ (heights_agree c d a s.trans)
    (same_max (term_height c s.inv) (inner_greatest f s.subsystems) (term_height d s.inv) (inner_greatest g s.subsystems) (heights_agree c d a s.inv) (greatest_agree f g s.subsystems h)))
amounts_agree Nesting c d f g s a h = same_sum 1 (inner_greatest f s.subsystems) 1 (inner_greatest g s.subsystems) refl (greatest_agree f g s.subsystems h)

each_agrees : (f g : ℕ → ℕ) → ((j : ℕ) → capped (f j) ≡ capped (g j)) → (bs : List Subsystem) → Agree f g bs
each_agrees f g h [] = tt
each_agrees f g h (b ∷ bs) = (h b.system, each_agrees f g h bs)

-- under counts of functions that agree
pub levels_agree : (m : Measure) (c d : ℕ → ℕ) → ((n : ℕ) → capped (c n) ≡ capped (d n)) → (ss : List PlainSystem) (n i : ℕ)
    → capped (amount_upto m c ss n i) ≡ capped (amount_upto m d ss n i)
levels_agree Size c d a ss zero i = refl
levels_agree Height c d a ss zero i = refl
levels_agree Nesting c d a ss zero i = refl
levels_agree m c d a ss (suc n) i =
    ap capped (one_level m c ss n i)
    ∙ amounts_agree m c d (amount_upto m c ss n) (amount_upto m d ss n) (system_at ss i) a (each_agrees (amount_upto m c ss n) (amount_upto m d ss n) (levels_agree m c d a ss n) (system_at ss i).subsystems)
    ∙ sym (ap capped (one_level m d ss n i))

-- THE ORDER

pub both : (a b : Bool) → (a && b) ≡ true → (a ≡ true) × (b ≡ true)
both true b h = (refl, h)
both false b h = absurd (cc)

pub next_is : (ss : List PlainSystem) (i : ℕ) → next_of (links_of ss) i ≡ systems_inside (system_at ss i)
next_is [] zero = refl
next_is [] (suc i) = refl
next_is (s ∷ ss) zero = refl
next_is (s ∷ ss) (suc i) = next_is ss i

-- what holds of all numbers of a list holds of the one at a place
all_at : (p : ℕ → Bool) (xs : List ℕ) (k i : ℕ) → list_all p xs ≡ true → k < length xs → i ≡ slice_index_or xs k i → p i ≡ true
all_at p [] k i h l e = absurd (omega arith)
all_at p (x ∷ xs) zero i h l e = ap p e ∙ (both (p x) (list_all p xs) h).0
all_at p (x ∷ xs) (suc k) i h l e = all_at p xs k i (both (p x) (list_all p xs) h).1 (omega arith) e

pub append_nothing : (xs : List ℕ) → xs ++ [] ≡ xs
append_nothing [] = refl
append_nothing (x ∷ xs) = ap (λ ys. x ∷ ys) (append_nothing xs)

falls_at : (g : NodeLists) (before ks : List ℕ) (k i : ℕ) → falls_from g before ks ≡ true → k < length ks → i ≡ slice_index_or ks k i
    → list_all (is_in (before ++ take k ks)) (next_of g i) ≡ true
falls_at g before [] k i f l e = absurd (omega arith)
falls_at g before (x ∷ ks) zero i f l e =
    ap (λ j. list_all (is_in (before ++ [])) (next_of g j)) e ∙ ap (λ b. list_all (is_in b) (next_of g x)) (append_nothing before)
    ∙ (both (list_all (is_in before) (next_of g x)) (falls_from g (before ++ x ∷ []) ks) f).0
falls_at g before (x ∷ ks) (suc k) i f l e =
    ap (λ b. list_all (is_in b) (next_of g i)) (sym (append_assoc before (x ∷ []) (take k ks)))
    ∙ falls_at g (before ++ x ∷ []) ks k i (both (list_all (is_in before) (next_of g x)) (falls_from g (before ++ x ∷ []) ks) f).1 (omega arith) e

taken_one : (b c : Bool) (A : Type 0) → (b || c) ≡ true → (b ≡ true → A) → (c ≡ true → A) → A
taken_one true c A h f g = f refl
taken_one false c A h f g = g h

pub same_number : (i j : ℕ) → (i == j) ≡ true → i ≡ j
same_number i j e = grind (arith, nat_tests)

-- one that is among the first k + 1 is among the first k, or is the next
in_taken : (xs : List ℕ) (k i j : ℕ) → k < length xs → i ≡ slice_index_or xs k i → is_in (take (suc k) xs) j ≡ true → (is_in (take k xs) j ≡ true) ⊎ (i ≡ j)
in_taken [] k i j l e h = absurd (omega arith)
in_taken (x ∷ xs) zero i j l e h = taken_one (x == j) false ((is_in (take 0 (x ∷ xs)) j ≡ true) ⊎ (i ≡ j)) h (λ h. inr (e ∙ same_number x j h)) (λ (h : false ≡ true). absurd (cc))
in_taken (x ∷ xs) (suc k) i j l e h =
    taken_one (x == j) (is_in (take (suc k) xs) j) ((is_in (take (suc k) (x ∷ xs)) j ≡ true) ⊎ (i ≡ j)) h
    (λ h. inl (ap (λ b. b || is_in (take k xs) j) h))
    (λ h. later (in_taken xs k i j (omega arith) e h))
  where
    or_right : (a b : Bool) → b ≡ true → (a || b) ≡ true
    or_right true b h = refl
    or_right false b h = h

    later : (is_in (take k xs) j ≡ true) ⊎ (i ≡ j) → (is_in (take (suc k) (x ∷ xs)) j ≡ true) ⊎ (i ≡ j)
    later (inl h) = inl (or_right (x == j) (is_in (take k xs) j) h)
    later (inr h) = inr h

each_inside : (p : ℕ → Bool) (f g : ℕ → ℕ) → ((j : ℕ) → p j ≡ true → capped (f j) ≡ capped (g j)) → (bs : List Subsystem)
    → list_all p (map (λ (b : Subsystem). b.system) bs) ≡ true → Agree f g bs
each_inside p f g h [] a = tt
each_inside p f g h (b ∷ bs) a =
    let t = both (p b.system) (list_all p (map (λ (b : Subsystem). b.system) bs)) a in
    (h b.system t.0, each_inside p f g h bs t.1)

module _ (m : Measure) (calls : ℕ → ℕ) (ss : List PlainSystem) (order : List ℕ) where
  abbrev exact : ℕ → ℕ
  exact = amount_upto m calls ss (length ss)

  -- the first k of the order are counted
  abbrev pub AreFilled : ℕ → List ℕ → Type 0
  AreFilled k counts = (j : ℕ) → is_in (take k order) j ≡ true → capped (known counts j) ≡ capped (amount_upto m calls ss (length ss) j)

  pub is_there : (k i : ℕ) → IsSorted (links_of ss) order → k < length order → i ≡ slice_index_or order k i → i < length ss
  is_there k i s l e =
      let low : nat_lt i (length (links_of ss)) ≡ true = all_at (λ k. nat_lt k (length (links_of ss))) order k i s.within l e in
      let long : length (links_of ss) ≡ length ss = length-map ss systems_inside in
      let below : nat_lt i (length ss) ≡ true = ap (nat_lt i) (sym long) ∙ low in
      grind (arith, nat_tests)

  counted_now : (k i count : ℕ) (counts : List ℕ) → AreRanked ss → IsSorted (links_of ss) order → k < length order → i ≡ slice_index_or order k i → AreFilled k counts
      → count ≡ capped (amount_with m calls (known counts) (system_at ss i)) → capped count ≡ capped (exact i)
  counted_now k i count counts r s l e filled own =
      ap capped own ∙ capped_twice (amount_with m calls (known counts) (system_at ss i))
      ∙ amounts_agree m calls calls (known counts) exact (system_at ss i) (λ n. refl)
      (each_inside (is_in (take k order)) (known counts) exact filled (system_at ss i).subsystems (ap (list_all (is_in (take k order))) (sym (next_is ss i)) ∙ falls_at (links_of ss) [] order k i s.falls l e))
      ∙ sym (ap capped (one_level m calls ss (length ss) i)) ∙ ap capped (unfolds m calls ss (length ss) i (r.enough i (is_there k i s l e)))

  pub filled_on : (k i count : ℕ) (counts more : List ℕ) → ∥ AreRanked ss ∥₁ → IsSorted (links_of ss) order → k < length order → i ≡ slice_index_or order k i
      → length counts ≡ length ss → AreFilled k counts → count ≡ capped (amount_with m calls (known counts) (system_at ss i)) → more ≡ set counts i count → AreFilled (suc k) more
  filled_on k i count counts more ranked s l e long filled own grown j h = ∥∥₁_elim ranked (ℕ_set (capped (known more j)) (capped (exact j))) one
    where
      one : AreRanked ss → capped (known more j) ≡ capped (exact j)
      one r =
          let there : i < length counts = subst (λ n. i < n) (sym long) (is_there k i s l e) in
          let now = counted_now k i count counts r s l e filled own in
          ap (λ xs. capped (known xs j)) grown
          ∙ elim (eqb_tells j i) [
            | inl a ↦ ap (λ n. capped (known (set counts i count) n)) a.1 ∙ ap capped (get_or-set_same counts i count 0 there) ∙ now ∙ ap (λ n. capped (exact n)) (sym a.1)
            | inr a ↦ ap capped (get_or-set_other counts i j count 0 a.1)
                ∙ elim (in_taken order k i j l e h) [
                  | inl b ↦ filled j b
                  | inr b ↦ absurd (a.1 (sym b))
                ]
          ]

  pub filled_all : (k : ℕ) (counts : List ℕ) → IsSorted (links_of ss) order → k ≡ length order → AreFilled k counts → (i : ℕ) → i < length ss → capped (known counts i) ≡ capped (exact i)
  filled_all k counts s e filled i l =
      let long : length (links_of ss) ≡ length ss = length-map ss systems_inside in
      let whole : is_in order i ≡ true = s.whole i (subst (λ n. i < n) (sym long) l) in
      filled i (ap (λ n. is_in (take n order) i) e ∙ ap (λ xs. is_in xs i) (take-length order) ∙ whole)

pub system_read : (xs : List System) (i : ℕ) (x : System) → i < length xs → x ≡ slice_index_or xs i x → plain_system x ≡ system_at (map plain_system xs) i
system_read [] i x l e = absurd (omega arith)
system_read (y ∷ ys) zero x l e = ap plain_system e
system_read (y ∷ ys) (suc i) x l e = system_read ys i x (omega arith) e
