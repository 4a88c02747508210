-- Each row of the table gives a word.
use Rattle.std.proofs.Common.{◌≡◌, ℕ, ◌+◌, ◌-◌, ◌*◌, ◌/◌, ◌<◌, ◌≤◌, ◌%◌, ◌^◌, min, Bool, true, false, cond, not, ◌==◌, arith, subst, sym, ◌∙◌}
use Rattle.std.specs.Prelude.{nat_lt, nat_le, int_lt, int_le, count_ones}
use Rattle.std.proofs.lemmas.Nat.{or_lt, xor_lt, and_le_l, mul-add-lt, pow-add}
use Rattle.std.proofs.Math.Pow.{pow_mono}
use Rattle.std.proofs.Math.Nat.{one-le-pow, mod-lt, div-le_self, mod-le, mul_comm}
use Rattle.word_core.specs.Words.{BitVector, IsWord}
use Rattle.word_core.specs.declared.word.TheConstants.{WIDEST}
use Rattle.word_core.specs.Table.{unary_of, unary_bits, unary_width, binary_of, binary_bits, binary_width, gives_one_bit, BinaryFits, uext_of, signed_value, is_minus, negated, negated_if, magnitude, quotient, rest, modulus, bit_of}
use Rattle.word_core.specs.declared.kinds.Unary.{Unary}
use Rattle.word_core.specs.declared.kinds.Unary.TheVariants.{Not, Inc, Dec, Neg, RedAnd, RedOr, RedXor}
use Rattle.word_core.specs.declared.kinds.Binary.{Binary}
use Rattle.word_core.specs.declared.kinds.Binary.TheVariants.{Iff, Implies, Eq, Neq, Sgt, Sgte, Slt, Slte, Ugt, Ugte, Ult, Ulte, And, Nand, Nor, Or, Xnor, Xor, Sll, Srl, Sra, Add, Sub, Mul, Udiv, Sdiv, Urem, Srem, Smod, Concat}

bit_small : (b : Bool) → bit_of b < 2 ^ 1
bit_small true = omega arith
bit_small false = omega arith

pick_small : (c : Bool) (x y n : ℕ) → x < n → y < n → cond c x y < n
pick_small true x y n h k = h
pick_small false x y n h k = k

top : (v : ℕ) → 1 ≤ 2 ^ v
top v = one-le-pow v 2 (omega arith)

as_v : (v w b : ℕ) → v ≡ w → b < 2 ^ w → b < 2 ^ v
as_v v w b f h = subst (λ n. b < 2 ^ n) (sym f) h

negated_small : (w a : ℕ) → negated w a < 2 ^ w
negated_small w a = mod-lt (2 ^ w - a) (top w)

negated_if_small : (c : Bool) (w a : ℕ) → a < 2 ^ w → negated_if c w a < 2 ^ w
negated_if_small true w a h = negated_small w a
negated_if_small false w a h = h

pub magnitude_small : (w a : ℕ) → a < 2 ^ w → magnitude w a < 2 ^ w
magnitude_small w a h = negated_if_small (is_minus w a) w a h

quotient_small : (w a b : ℕ) → a < 2 ^ w → quotient w a b < 2 ^ w
quotient_small w a b h = pick_small (b == 0) (2 ^ w - 1) (a / b) (2 ^ w) (omega (arith, top w)) (omega (arith, div-le_self a b))

rest_small : (w a b : ℕ) → a < 2 ^ w → rest a b < 2 ^ w
rest_small w a b h = pick_small (b == 0) a (a % b) (2 ^ w) h (omega (arith, mod-le a b))

modulus_small : (w a b u : ℕ) → u < 2 ^ w → modulus w a b u < 2 ^ w
modulus_small w a b u h =
    let n = 2 ^ w in
    pick_small (u == 0) 0 _ n (top w)
    (pick_small (is_minus w a) _ _ n
    (pick_small (is_minus w b) (negated w u) _ n (negated_small w u) (mod-lt (negated w u + b) (top w)))
    (pick_small (is_minus w b) _ u n (mod-lt (u + b) (top w)) h))

pub unary_small : (op : Unary) (w a : ℕ) → a < 2 ^ w → unary_bits op w a < 2 ^ unary_width op w
unary_small Not w a h = omega (arith, h)
unary_small Inc w a h = mod-lt (a + 1) (top w)
unary_small Dec w a h = mod-lt (a + (2 ^ w - 1)) (top w)
unary_small Neg w a h = negated_small w a
unary_small RedAnd w a h = bit_small (a == 2 ^ w - 1)
unary_small RedOr w a h = bit_small (not (a == 0))
unary_small RedXor w a h = mod-lt (count_ones a) (omega arith)

unary_width_fits : (op : Unary) (w : ℕ) → 1 ≤ w → w ≤ WIDEST → (1 ≤ unary_width op w) × (unary_width op w ≤ WIDEST)
unary_width_fits RedAnd w h k = (omega arith, omega arith)
unary_width_fits RedOr w h k = (omega arith, omega arith)
unary_width_fits RedXor w h k = (omega arith, omega arith)
unary_width_fits op w h k = (h, k)

pub unary_is_word : (op : Unary) (a : BitVector) → IsWord a → IsWord (unary_of op a)
unary_is_word op a h =
    let w = unary_width_fits op a.width h.0 h.1 in
    (w.0, w.1, unary_small op a.width a.bits h.2)

pub binary_small : (op : Binary) (v w a b : ℕ) → a < 2 ^ v → b < 2 ^ w → BinaryFits op v w → binary_bits op v w a b < 2 ^ binary_width op v w
binary_small Iff v w a b g h f = bit_small (a == b)
binary_small Implies v w a b g h f = or_lt 1 (1 - a) b (omega arith) (subst (λ n. b < 2 ^ n) f.1 h)
binary_small Eq v w a b g h f = bit_small (a == b)
binary_small Neq v w a b g h f = bit_small (not (a == b))
binary_small Sgt v w a b g h f = bit_small (int_lt (signed_value w b) (signed_value v a))
binary_small Sgte v w a b g h f = bit_small (int_le (signed_value w b) (signed_value v a))
binary_small Slt v w a b g h f = bit_small (int_lt (signed_value v a) (signed_value w b))
binary_small Slte v w a b g h f = bit_small (int_le (signed_value v a) (signed_value w b))
binary_small Ugt v w a b g h f = bit_small (nat_lt b a)
binary_small Ugte v w a b g h f = bit_small (nat_le b a)
binary_small Ult v w a b g h f = bit_small (nat_lt a b)
binary_small Ulte v w a b g h f = bit_small (nat_le a b)
binary_small And v w a b g h f = omega (arith, and_le_l a b)
binary_small Nand v w a b g h f = omega (arith, top v)
binary_small Nor v w a b g h f = omega (arith, top v)
binary_small Or v w a b g h f = or_lt v a b g (as_v v w b f h)
binary_small Xnor v w a b g h f = omega (arith, top v)
binary_small Xor v w a b g h f = xor_lt v a b g (as_v v w b f h)
binary_small Sll v w a b g h f = pick_small (nat_lt b v) _ 0 (2 ^ v) (mod-lt (a * 2 ^ b) (top v)) (top v)
binary_small Srl v w a b g h f = pick_small (nat_lt b v) (a / 2 ^ b) 0 (2 ^ v) (omega (arith, div-le_self a (2 ^ b))) (top v)
binary_small Sra v w a b g h f =
    pick_small (is_minus v a) _ (a / 2 ^ min b v) (2 ^ v) (omega (arith, top v)) (omega (arith, div-le_self a (2 ^ min b v)))
binary_small Add v w a b g h f = mod-lt (a + b) (top v)
binary_small Sub v w a b g h f = mod-lt (a + (2 ^ v - b)) (top v)
binary_small Mul v w a b g h f = mod-lt (a * b) (top v)
binary_small Udiv v w a b g h f = quotient_small v a b g
binary_small Sdiv v w a b g h f = negated_if_small _ v _ (quotient_small v (magnitude v a) (magnitude w b) (magnitude_small v a g))
binary_small Urem v w a b g h f = rest_small v a b g
binary_small Srem v w a b g h f = negated_if_small (is_minus v a) v _ (rest_small v (magnitude v a) (magnitude w b) (magnitude_small v a g))
binary_small Smod v w a b g h f = modulus_small v a b _ (rest_small v (magnitude v a) (magnitude w b) (magnitude_small v a g))
binary_small Concat v w a b g h f =
    let e : 2 ^ w * 2 ^ v ≡ 2 ^ (v + w) = mul_comm (2 ^ w) (2 ^ v) ∙ sym (pow-add 2 v w) in
    subst (λ n. a * 2 ^ w + b < n) e (mul-add-lt a (2 ^ w) b (2 ^ v) g h)

one_or : (c : Bool) (v : ℕ) → 1 ≤ v → v ≤ WIDEST → (1 ≤ cond c 1 v) × (cond c 1 v ≤ WIDEST)
one_or true v a b = (omega arith, omega arith)
one_or false v a b = (a, b)

width_fits : (op : Binary) (v w : ℕ) → 1 ≤ v → v ≤ WIDEST → 1 ≤ w → BinaryFits op v w → (1 ≤ binary_width op v w) × (binary_width op v w ≤ WIDEST)
width_fits Concat v w a b c f = (omega (arith, a), f)
width_fits op v w a b c f = one_or (gives_one_bit op) v a b

pub binary_is_word : (op : Binary) (a b : BitVector) → IsWord a → IsWord b → BinaryFits op a.width b.width → IsWord (binary_of op a b)
binary_is_word op a b g h f =
    let w = width_fits op a.width b.width g.0 g.1 h.0 f in
    (w.0, w.1, binary_small op a.width b.width a.bits b.bits g.2 h.2 f)

pub power_grows : (w n : ℕ) → 2 ^ w ≤ 2 ^ (w + n)
power_grows w n = let h : w ≤ w + n = omega arith in pow_mono h

pub uext_is_word : (a : BitVector) (n : ℕ) → IsWord a → a.width + n ≤ WIDEST → IsWord (uext_of a n)
uext_is_word a n h f = (omega (arith, h.0), f, omega (arith, h.2, power_grows a.width n))

pub sext_is_word : (a : BitVector) (n : ℕ) → IsWord a → a.width + n ≤ WIDEST → IsWord (record { width = a.width + n; bits = a.bits + (2 ^ (a.width + n) - 2 ^ a.width) })
sext_is_word a n h f = (omega (arith, h.0), f, omega (arith, h.2, power_grows a.width n))
