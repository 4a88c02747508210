-- Walks over the parts that belong to a number, by their chain.
use Rattle.std.proofs.Common.{◌≡◌, ℕ, suc, ◌+◌, ◌-◌, ◌≤◌, ◌<◌, ◌++◌, if◌then◌else◌, get_or, List, [], ◌∷◌, drop, length, map, refl, sym, ap, ◌∙◌, subst, arith, append_assoc, append-nil, inl, inr}
use Rattle.std.proofs.lemmas.Bool.Decides.{eqb_tells}
use Rattle.std.proofs.lemmas.List.{drop_all, drop-drop, drop-map, get_or-drop, length-drop, length-map}
use Rattle.moxi_terms.specs.Tree.{Tree}
use Rattle.smv_script_terms.specs.Chains.{others_before, place_from, AreChained}
use Rattle.smv_script_terms.specs.Parts.{owned_by}

skipped : (i : ℕ) (os : List (ℕ × List Tree)) → owned_by i (drop (others_before i (map (λ x. x.0) os)) os) ≡ owned_by i os
skipped i [] = refl
skipped i (x ∷ os) = elim (eqb_tells x.0 i) [
  | inl q ↦ ap (λ b. owned_by i (drop (if b then 0 else suc (others_before i (map (λ x. x.0) os))) (x ∷ os))) q.0
  | inr q ↦ ap (λ b. owned_by i (drop (if b then 0 else suc (others_before i (map (λ x. x.0) os))) (x ∷ os))) q.0 ∙ skipped i os
      ∙ ap (λ b. (if b then x.1 else []) ++ owned_by i os) (sym q.0)
]

sought : (i : ℕ) (ns : List ℕ) → others_before i ns < length ns → get_or ns (others_before i ns) 0 ≡ i
sought i [] h = absurd (omega (arith, h))
sought i (n ∷ ns) h = elim (eqb_tells n i) [
  | inl q ↦ ap (λ b. get_or (n ∷ ns) (if b then 0 else suc (others_before i ns)) 0) q.0 ∙ q.1
  | inr q ↦ ap (λ b. get_or (n ∷ ns) (if b then 0 else suc (others_before i ns)) 0) q.0
      ∙ sought i ns (let r : suc (others_before i ns) < suc (length ns) = subst (λ b. (if b then 0 else suc (others_before i ns)) < suc (length ns)) q.0 h in omega (arith, r))
]

reached_parts : (i p q : ℕ) (os : List (ℕ × List Tree)) (ns : List ℕ) → map (λ x. x.0) os ≡ ns → q ≡ place_from p i ns → owned_by i (drop q os) ≡ owned_by i (drop p os)
reached_parts i p q os ns e h =
    ap (λ n. owned_by i (drop n os)) (h ∙ ap (λ m. p + others_before i (drop p m)) (sym e) ∙ ap (λ m. p + others_before i m) (drop-map (λ x. x.0) p os))
    ∙ ap (owned_by i) (sym (drop-drop (others_before i (map (λ x. x.0) (drop p os))) p os)) ∙ skipped i (drop p os)

reached_number : (i p q : ℕ) (ns : List ℕ) → q ≡ place_from p i ns → q < length ns → get_or ns q 0 ≡ i
reached_number i p q ns h k =
    ap (λ n. get_or ns n 0) h ∙ sym (get_or-drop p ns (others_before i (drop p ns)) 0)
    ∙ sought i (drop p ns) (let r : length (drop p ns) ≡ length ns - p = length-drop p ns in omega (arith, r, h, k))

-- what is done, and what belongs to the number from this place on, which has the number where it is one
pub record Walks (ns : List ℕ) (i : ℕ) (os : List (ℕ × List Tree)) (done total : List Tree) (p : ℕ) : Type 0 where
  pub parts : done ++ owned_by i (drop p os) ≡ total
  pub number : p < length ns → get_or ns p 0 ≡ i

pub walk_starts : (os : List (ℕ × List Tree)) (ns fs xs : List ℕ) (count i p : ℕ) (done : List Tree) → map (λ x. x.0) os ≡ ns → AreChained ns count 0 fs xs → i < count → p ≡ get_or fs i 0
    → Walks ns i os done (done ++ owned_by i os) p
walk_starts os ns fs xs count i p done e c k h = record {
  parts = ap (λ ts. done ++ ts) (reached_parts i 0 p os ns e (h ∙ c.first i k));
  number = λ l. reached_number i 0 p ns (h ∙ c.first i k) l;
}

number_is : (os : List (ℕ × List Tree)) (ns : List ℕ) (p : ℕ) (x : ℕ × List Tree) → map (λ y. y.0) os ≡ ns → drop p os ≡ x ∷ drop (p + 1) os → get_or ns p 0 ≡ x.0
number_is os ns p x e h =
    ap (λ n. get_or ns n 0) (let r : p ≡ p + 0 = omega arith in r) ∙ sym (get_or-drop p ns 0 0) ∙ ap (λ l. get_or l 0 0) (ap (drop p) (sym e) ∙ drop-map (λ y. y.0) p os ∙ ap (map (λ y. y.0)) h)

own_first : (i : ℕ) (x : ℕ × List Tree) (os : List (ℕ × List Tree)) → x.0 ≡ i → owned_by i (x ∷ os) ≡ x.1 ++ owned_by i os
own_first i x os h = elim (eqb_tells x.0 i) [
  | inl q ↦ ap (λ b. (if b then x.1 else []) ++ owned_by i os) q.0
  | inr q ↦ absurd (q.1 h)
]

-- the parts of a place are done, and the next place is that of its chain
pub walk_goes_on : (os : List (ℕ × List Tree)) (ns fs xs : List ℕ) (count i p q : ℕ) (x : ℕ × List Tree) (done more total : List Tree) → map (λ y. y.0) os ≡ ns → AreChained ns count 0 fs xs → i < count → p < length ns
    → drop p os ≡ x ∷ drop (p + 1) os → more ≡ done ++ x.1 → q ≡ get_or xs p 0 → Walks ns i os done total p → Walks ns i os more total q
walk_goes_on os ns fs xs count i p q x done more total e c k l h m n w =
    let next : q ≡ place_from (p + 1) i ns = n ∙ next_is ns fs xs count i p k l c (w.number l) in
    record {
      parts = ap (λ ts. ts ++ owned_by i (drop q os)) m ∙ append_assoc done x.1 (owned_by i (drop q os))
          ∙ ap (λ ts. done ++ (x.1 ++ ts)) (reached_parts i (p + 1) q os ns e next)
          ∙ ap (λ ts. done ++ ts) (sym (ap (owned_by i) h ∙ own_first i x (drop (p + 1) os) (sym (number_is os ns p x e h) ∙ w.number l))) ∙ w.parts;
      number = λ r. reached_number i (p + 1) q ns next r;
    }
  where
    next_is : (ns fs xs : List ℕ) (count i p : ℕ) → i < count → p < length ns → AreChained ns count 0 fs xs → get_or ns p 0 ≡ i → get_or xs p 0 ≡ place_from (p + 1) i ns
    next_is ns fs xs count i p k l c w = c.next p (omega arith) l (let r : get_or ns p 0 < count = omega (arith, w, k) in r) ∙ ap (λ j. place_from (p + 1) j ns) w

pub walk_ends : (os : List (ℕ × List Tree)) (ns : List ℕ) (i p : ℕ) (done total : List Tree) → map (λ x. x.0) os ≡ ns → length ns ≤ p → Walks ns i os done total p → done ≡ total
walk_ends os ns i p done total e h w =
    let r : length os ≡ length ns = sym (length-map os (λ x. x.0)) ∙ ap length e in
    sym (append-nil done) ∙ ap (λ ts. done ++ owned_by i ts) (sym (drop_all p os (omega (arith, r, h)))) ∙ w.parts
