-- The width of an interval is the least that holds it.
use Rattle.std.proofs.Common.{◌≡◌, ℕ, ◌+◌, ◌-◌, ◌^◌, ◌<◌, ◌≤◌, ℤ, pos, negsuc, ◌≤ℤ◌, ap, arith}
use Rattle.std.proofs.Math.Pow.{pow_mono}
use Rattle.std.proofs.lemmas.Int.{ints}
use Rattle.smv_flat.specs.FlatWidth.{binary_digits, integer_width, interval_width, Holds, WidthIsLeast, IntervalWidthIsLeast}
use Rattle.smv_width.proofs.WidthLemmas.{digits_below, digits_most}

-- ---- one integer

same_power : (d : ℕ) → 2 ^ (d + 1 - 1) ≡ 2 ^ d
same_power d = ap (λ k. 2 ^ k) (omega arith)

holds_node : (z : ℤ) → Holds (integer_width z) z
holds_node (pos n) =
    let below : n < 2 ^ binary_digits n = digits_below n n (omega arith) in
    let same = same_power (binary_digits n) in
    (omega (arith, ints, below, same), omega (arith, ints, below, same))
holds_node (negsuc n) =
    let below : n < 2 ^ binary_digits n = digits_below n n (omega arith) in
    let same = same_power (binary_digits n) in
    (omega (arith, ints, below, same), omega (arith, ints, below, same))

node_least : (z : ℤ) (v : ℕ) → 1 ≤ v → Holds v z → integer_width z ≤ v
node_least (pos n) v some h =
    let above = h.1 in
    let most : binary_digits n ≤ v - 1 = digits_most (v - 1) n (omega (arith, ints, above)) in
    omega (arith, some, most)
node_least (negsuc n) v some h =
    let above = h.0 in
    let most : binary_digits n ≤ v - 1 = digits_most (v - 1) n (omega (arith, ints, above)) in
    omega (arith, some, most)

pub node_some : (z : ℤ) → 1 ≤ integer_width z
node_some (pos n) = omega arith
node_some (negsuc n) = omega arith

-- ---- an interval

wider : (w v : ℕ) (z : ℤ) → w ≤ v → Holds w z → Holds v z
wider w v z l h =
    let more : 2 ^ (w - 1) ≤ 2 ^ (v - 1) = pow_mono (omega (arith, l)) in
    let low = h.0 in
    let high = h.1 in
    (omega (arith, ints, more, low), omega (arith, ints, more, high))

between : (w : ℕ) (low high z : ℤ) → Holds w low → Holds w high → low ≤ℤ z → z ≤ℤ high → Holds w z
between w low high z h k p q = let a = h.0 in let b = k.1 in (omega (arith, ints, a, p), omega (arith, ints, b, q))

itself : (z : ℤ) → z ≤ℤ z
itself z = omega (arith, ints)

pub width_is_least : WidthIsLeast
width_is_least z = record {
  some = node_some z;
  holds = λ y p q. between (integer_width z) z z y (holds_node z) (holds_node z) p q;
  least = λ v s h. node_least z v s (h z (itself z) (itself z));
}

pub interval_width_is_least : IntervalWidthIsLeast
interval_width_is_least low high l =
    let w = interval_width low high in
    let left : Holds (interval_width low high) low = wider (integer_width low) (interval_width low high) low (omega arith) (holds_node low) in
    let right : Holds (interval_width low high) high = wider (integer_width high) (interval_width low high) high (omega arith) (holds_node high) in
    record {
      some = let s : 1 ≤ integer_width low = node_some low in omega (arith, s);
      holds = λ z p q. between (interval_width low high) low high z left right p q;
      least = λ v s h.
          let p : integer_width low ≤ v = node_least low v s (h low (itself low) l) in
          let q : integer_width high ≤ v = node_least high v s (h high l (itself high)) in
          omega (arith, p, q);
    }
