-- Sums and greatest numbers of counts that stop.
use Rattle.std.proofs.Common.{◌≡◌, ℕ, ◌+◌, ◌<◌, ◌≤◌, max, List, [], ◌∷◌, map, length, Vec, Global, refl, sym, ap, ◌∙◌, arith, rules}
use Rattle.std.specs.Prelude.{min}
use Rattle.std.proofs.lemmas.List.{length-map}
use Rattle.std.proofs.Math.Nat.{min-eq_left, min-eq_right}
use Rattle.moxi_terms.specs.declared.data.TermOp.{TermOp}
use Rattle.moxi_terms.specs.declared.term.Term.{Term, Apply, the_lemmas}
use Rattle.moxi_terms.specs.Tree.{Tree, constant, variable, bound, apply, binding, call, Trees, no_trees, tree, trees_of, list_of}
use Rattle.moxi_terms.specs.View.{plain}
use Rattle.moxi_flat.specs.Terms.{operator_size, term_height, term_size, terms_height, terms_size}
use Rattle.moxi_instantiate.specs.declared.counts.TheConstants.{MOST}
use Rattle.moxi_instantiate.specs.Counting.{capped, known}

pub capped_low : (n : ℕ) → n < MOST → n ≡ capped n
capped_low n h = sym (min-eq_left (let l : n ≤ MOST = omega arith in l))

pub capped_high : (n : ℕ) → MOST ≤ n → MOST ≡ capped n
capped_high n h = sym (min-eq_right h)

-- for any cap
sum_within : (m a b : ℕ) → min (min a m + min b m) m ≡ min (a + b) m
sum_within m a b = omega arith

max_within : (m a b : ℕ) → max (min a m) (min b m) ≡ min (max a b) m
max_within m a b = omega arith

pub cap_sum : (a b x y : ℕ) → x ≡ capped a → y ≡ capped b → capped (x + y) ≡ capped (a + b)
cap_sum a b x y e f = ap (λ x. capped (x + y)) e ∙ ap (λ y. capped (capped a + y)) f ∙ sum_within MOST a b

pub cap_max : (a b x y : ℕ) → x ≡ capped a → y ≡ capped b → max x y ≡ capped (max a b)
cap_max a b x y e f = ap (λ x. max x y) e ∙ ap (max (capped a)) f ∙ max_within MOST a b

pub same_sum : (a b x y : ℕ) → capped a ≡ capped x → capped b ≡ capped y → capped (a + b) ≡ capped (x + y)
same_sum a b x y e f = sym (sum_within MOST a b) ∙ ap (λ z. capped (z + capped b)) e ∙ ap (λ z. capped (capped x + z)) f ∙ sum_within MOST x y

pub same_max : (a b x y : ℕ) → capped a ≡ capped x → capped b ≡ capped y → capped (max a b) ≡ capped (max x y)
same_max a b x y e f = sym (max_within MOST a b) ∙ ap (λ z. max z (capped b)) e ∙ ap (max (capped x)) f ∙ max_within MOST x y

capped_within : (m a : ℕ) → min (min a m) m ≡ min a m
capped_within m a = omega arith

pub capped_twice : (a : ℕ) → capped (capped a) ≡ capped a
capped_twice a = capped_within MOST a

list_of_trees : (ts : List Tree) → list_of (trees_of ts) ≡ ts
list_of_trees [] = refl
list_of_trees (t ∷ ts) = ap (λ us. t ∷ us) (list_of_trees ts)

pub plain_apply : (op : TermOp) (ts : Vec Term Global) → plain (Apply op ts) ≡ apply op (trees_of (map plain ts.items))
plain_apply op ts = search (rules, the_lemmas)

pub apply_counted : (sizes : List ℕ) (t : Term) (op : TermOp) (ts : Vec Term Global) (slice : List Term) (n x y z : ℕ) → t ≡ Apply op ts → slice ≡ ts.items → n ≡ length ts.items
    → x ≡ capped (operator_size op n) → y ≡ capped (terms_size (known sizes) (trees_of (map plain slice))) → z ≡ capped (x + y) → z ≡ capped (term_size (known sizes) (plain t))
apply_counted sizes t op ts slice n x y z is same long own inner both =
    both ∙ cap_sum (operator_size op n) (terms_size (known sizes) (trees_of (map plain slice))) x y own inner
    ∙ ap (λ n. capped (operator_size op n + terms_size (known sizes) (trees_of (map plain slice)))) (long ∙ sym (ap length (list_of_trees (map plain ts.items)) ∙ length-map ts.items plain))
    ∙ ap (λ us. capped (operator_size op (length (list_of (trees_of (map plain ts.items)))) + terms_size (known sizes) (trees_of (map plain us)))) same
    ∙ sym (ap (λ u. capped (term_size (known sizes) u)) (ap plain is ∙ plain_apply op ts))

-- under the counts of functions that agree up to the cap, terms agree up to the cap
module _ (f g : ℕ → ℕ) (agree : (n : ℕ) → capped (f n) ≡ capped (g n)) where
  mutual
    pub sizes_agree : (t : Tree) → capped (term_size f t) ≡ capped (term_size g t)
    sizes_agree (constant d) = refl
    sizes_agree (variable v p) = refl
    sizes_agree (bound i) = refl
    sizes_agree (apply o ts) = same_sum (operator_size o (length (list_of ts))) (terms_size f ts) (operator_size o (length (list_of ts))) (terms_size g ts) refl (all_sizes_agree ts)
    sizes_agree (binding names ts t) = same_sum 1 (terms_size f ts + term_size f t) 1 (terms_size g ts + term_size g t) refl (same_sum (terms_size f ts) (term_size f t) (terms_size g ts) (term_size g t) (all_sizes_agree ts) (sizes_agree t))
    sizes_agree (call n ts) = same_sum 1 (terms_size f ts + f n) 1 (terms_size g ts + g n) refl (same_sum (terms_size f ts) (f n) (terms_size g ts) (g n) (all_sizes_agree ts) (agree n))

    all_sizes_agree : (ts : Trees) → capped (terms_size f ts) ≡ capped (terms_size g ts)
    all_sizes_agree no_trees = refl
    all_sizes_agree (tree t ts) = same_sum (term_size f t) (terms_size f ts) (term_size g t) (terms_size g ts) (sizes_agree t) (all_sizes_agree ts)

  mutual
    pub heights_agree : (t : Tree) → capped (term_height f t) ≡ capped (term_height g t)
    heights_agree (constant d) = refl
    heights_agree (variable v p) = refl
    heights_agree (bound i) = refl
    heights_agree (apply o ts) = same_sum 1 (terms_height f ts) 1 (terms_height g ts) refl (all_heights_agree ts)
    heights_agree (binding names ts t) = same_sum 1 (max (terms_height f ts) (term_height f t)) 1 (max (terms_height g ts) (term_height g t)) refl (same_max (terms_height f ts) (term_height f t) (terms_height g ts) (term_height g t) (all_heights_agree ts) (heights_agree t))
    heights_agree (call n ts) = same_sum 1 (max (terms_height f ts) (f n)) 1 (max (terms_height g ts) (g n)) refl (same_max (terms_height f ts) (f n) (terms_height g ts) (g n) (all_heights_agree ts) (agree n))

    all_heights_agree : (ts : Trees) → capped (terms_height f ts) ≡ capped (terms_height g ts)
    all_heights_agree no_trees = refl
    all_heights_agree (tree t ts) = same_max (term_height f t) (terms_height f ts) (term_height g t) (terms_height g ts) (heights_agree t) (all_heights_agree ts)
