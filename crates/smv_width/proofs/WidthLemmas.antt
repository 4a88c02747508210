-- The binary digits of a number, and the fronts of a chain.
use Rattle.std.proofs.Common.{◌≡◌, ℕ, zero, suc, ◌+◌, ◌-◌, ◌*◌, ◌/◌, ◌^◌, ◌<◌, ◌≤◌, max, List, ◌∷◌, drop, map, Option, option_map, Vec, Box, Global, refl, ap, ◌∙◌, rules, arith}
use Rattle.std.proofs.Math.Pow.{pow_mono}
use Rattle.std.proofs.Math.Nat.{pow-suc, lt_of_not-le}
use Rattle.std.specs.Int.Count.{count_leading_zeros, leading_unique}
use Rattle.smv_text.specs.declared.operators.Infix.{Infix}
use Rattle.smv_meaning.specs.Types.{ExprType}
use Rattle.smv_intervals.specs.View.{seen}
use Rattle.smv_flat.specs.declared.expressions.FlatExpr.{FlatExpr, the_lemmas}
use Rattle.smv_flat.specs.declared.expressions.FlatShape.{FlatShape-F}
use Rattle.smv_flat.specs.declared.expressions.FlatShape.TheVariants as OfShape
use Rattle.smv_flat.specs.declared.expressions.FlatLink.{FlatLink}
use Rattle.smv_flat.specs.FlatTree.{FlatTree, FlatLinks, flat_chain, flat_link, flat_links_of}
use Rattle.smv_flat.specs.FlatView.{flat_shape_step, plain_flat, plain_flat_link}
use Rattle.smv_flat.specs.FlatWidth.{digits_within, binary_digits, node_width, flat_type, flat_divisor, front_by, operand_width, tree_width, links_width}
use Rattle.smv_flat.proofs.FlatViews.{link_at}

-- ---- digits

pub no_digits : (most : ℕ) → digits_within most 0 ≡ 0
no_digits zero = refl
no_digits (suc most) = refl

pub digits_below : (most n : ℕ) → n ≤ most → n < 2 ^ digits_within most n
digits_below zero n h = omega (arith, h)
digits_below (suc most) zero h = omega arith
digits_below (suc most) (suc n) h =
    let half : suc n / 2 ≤ most = omega (arith, h) in
    let below : suc n / 2 < 2 ^ digits_within most (suc n / 2) = digits_below most (suc n / 2) half in
    let twice : 2 ^ suc (digits_within most (suc n / 2)) ≡ 2 ^ digits_within most (suc n / 2) * 2 = pow-suc 2 (digits_within most (suc n / 2)) in
    let r : suc n < 2 ^ suc (digits_within most (suc n / 2)) = omega (arith, below, twice) in
    r

-- the half is 0 or has digits of its own
digits_of_half : (n half most : ℕ) → 0 < n → half ≡ n / 2 → 2 ^ suc (digits_within most half) ≡ 2 ^ digits_within most half * 2
    → (0 < half → 2 ^ digits_within most half ≤ 2 * half) → 2 ^ suc (digits_within most half) ≤ 2 * n
digits_of_half n zero most p q twice k = let none : 2 ^ digits_within most 0 ≡ 1 = ap (λ d. 2 ^ d) (no_digits most) in omega (arith, p, twice, none)
digits_of_half n (suc m) most p q twice k = let above : 2 ^ digits_within most (suc m) ≤ 2 * suc m = k (omega arith) in omega (arith, p, q, twice, above)

pub digits_above : (most n : ℕ) → 0 < n → n ≤ most → 2 ^ digits_within most n ≤ 2 * n
digits_above zero n p h = omega (arith, p, h)
digits_above (suc most) zero p h = omega (arith, p)
digits_above (suc most) (suc n) p h =
    let half : suc n / 2 ≤ most = omega (arith, h) in
    let twice : 2 ^ suc (digits_within most (suc n / 2)) ≡ 2 ^ digits_within most (suc n / 2) * 2 = pow-suc 2 (digits_within most (suc n / 2)) in
    digits_of_half (suc n) (suc n / 2) most (omega arith) refl twice (λ q. digits_above most (suc n / 2) q half)

most_by : (d k : ℕ) → 2 ^ d < 2 ^ suc k → d ≤ k
most_by d k h = let low : d < suc k = lt_of_not-le (λ (g : suc k ≤ d). let over : 2 ^ suc k ≤ 2 ^ d = pow_mono g in omega (arith, h, over)) in omega (arith, low)

pub digits_most : (k n : ℕ) → n < 2 ^ k → binary_digits n ≤ k
digits_most k zero h = omega arith
digits_most k (suc n) h =
    let above : 2 ^ digits_within (suc n) (suc n) ≤ 2 * suc n = digits_above (suc n) (suc n) (omega arith) (omega arith) in
    let twice : 2 ^ suc k ≡ 2 ^ k * 2 = pow-suc 2 k in
    most_by (digits_within (suc n) (suc n)) k (omega (arith, above, twice, h))

-- of an integer of 64 bits
pub digits_low : (n : ℕ) → n < 2 ^ 63 → binary_digits n ≤ 63
digits_low n h = digits_most 63 n h

digits_over : (n : ℕ) → 2 ^ binary_digits n ≤ 2 * n + 1
digits_over zero = omega arith
digits_over (suc n) = let above : 2 ^ digits_within (suc n) (suc n) ≤ 2 * suc n = digits_above (suc n) (suc n) (omega arith) (omega arith) in omega (arith, above)

pub leading_digits : (n : ℕ) → n < 2 ^ 64 → count_leading_zeros 64 n + binary_digits n ≡ 64
leading_digits n h =
    let some : binary_digits n ≤ 64 = digits_most 64 n h in
    let left : 64 - binary_digits n ≡ count_leading_zeros 64 n = leading_unique 64 n (64 - binary_digits n) (binary_digits n) (omega (arith, some)) (digits_below n n (omega arith)) (digits_over n) in
    omega (arith, some, left)

-- ---- fronts

step_type : (s : FlatShape-F (Option ExprType → FlatTree) (FlatTree × FlatTree) FlatTree (Infix × FlatTree)) (t : Option ExprType) → flat_type (flat_shape_step s t) ≡ t
step_type FlatShape-F.True t = refl
step_type FlatShape-F.False t = refl
step_type (FlatShape-F.Number n) t = refl
step_type (FlatShape-F.Literal w) t = refl
step_type (FlatShape-F.Symbol s) t = refl
step_type (FlatShape-F.Item k under) t = refl
step_type (FlatShape-F.Prefix sign n e) t = refl
step_type (FlatShape-F.Chain e ls) t = refl
step_type (FlatShape-F.Choice bs e) t = refl
step_type (FlatShape-F.Case bs) t = refl
step_type (FlatShape-F.Select e high low) t = refl
step_type (FlatShape-F.Call f es) t = refl
step_type (FlatShape-F.Set es) t = refl
step_type (FlatShape-F.Range low high) t = refl

pub type_is : (e : FlatExpr) → flat_type (plain_flat e) ≡ option_map seen e.ty
type_is e = search (rules, the_lemmas, step_type)

link_width : (op : Infix) (e : FlatTree) (ls : FlatLinks) (t u front : Option ExprType) (o f : ℕ) → flat_type e ≡ u → o ≡ operand_width op (tree_width e) → front ≡ front_by op t u (flat_divisor e)
    → f ≡ node_width front → links_width t (flat_link op e ls) ≡ max (max o f) (links_width front ls)
link_width op e ls t u front o f h p q r = rw (p, r, q, ← h) refl

max_over : (w v x y all : ℕ) → y ≡ max v x → max w y ≡ all → max (max w v) x ≡ all
max_over w v x y all h k = omega (arith, h, k)

pub links_on : (xs : List FlatLink) (i : ℕ) (l : FlatLink) (whole front : Option ExprType) (w o f all : ℕ) → drop i xs ≡ l ∷ drop (i + 1) xs
    → o ≡ operand_width l.op (tree_width (plain_flat l.operand)) → front ≡ front_by l.op whole (option_map seen l.operand.ty) (flat_divisor (plain_flat l.operand))
    → f ≡ node_width front → max w (links_width whole (flat_links_of (map plain_flat_link (drop i xs)))) ≡ all
    → max (max w (max o f)) (links_width front (flat_links_of (map plain_flat_link (drop (i + 1) xs)))) ≡ all
links_on xs i l whole front w o f all h p q r k =
    let e : flat_links_of (map plain_flat_link (drop i xs)) ≡ flat_link l.op (plain_flat l.operand) (flat_links_of (map plain_flat_link (drop (i + 1) xs))) =
    ap (λ ys. flat_links_of (map plain_flat_link ys)) h ∙ ap (λ y. flat_link y.0 y.1 (flat_links_of (map plain_flat_link (drop (i + 1) xs)))) (link_at l) in
    let t : links_width whole (flat_link l.op (plain_flat l.operand) (flat_links_of (map plain_flat_link (drop (i + 1) xs)))) ≡ max (max o f) (links_width front (flat_links_of (map plain_flat_link (drop (i + 1) xs)))) =
    link_width l.op (plain_flat l.operand) (flat_links_of (map plain_flat_link (drop (i + 1) xs))) whole (option_map seen l.operand.ty) front o f (type_is l.operand) p q r in
    max_over w (max o f) _ _ all (ap (λ ys. links_width whole ys) e ∙ t) k

plain_chain : (e : FlatExpr) (a : Box FlatExpr Global) (ls : Vec FlatLink Global) → e.shape ≡ OfShape.Chain a ls
    → plain_flat e ≡ flat_chain (option_map seen e.ty) (plain_flat a.value) (flat_links_of (map plain_flat_link ls.items))
plain_chain e a ls h = search (rules, the_lemmas)

pub chain_at : (e : FlatExpr) (a : Box FlatExpr Global) (ls : Vec FlatLink Global) → e.shape ≡ OfShape.Chain a ls
    → tree_width (plain_flat e) ≡ max (node_width (option_map seen e.ty)) (max (tree_width (plain_flat a.value)) (links_width (option_map seen a.value.ty) (flat_links_of (map plain_flat_link ls.items))))
chain_at e a ls h =
    ap tree_width (plain_chain e a ls h)
    ∙ ap (λ t. max (node_width (option_map seen e.ty)) (max (tree_width (plain_flat a.value)) (links_width t (flat_links_of (map plain_flat_link ls.items))))) (type_is a.value)
