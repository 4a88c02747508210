-- Laws of the operators that their users need.
use Rattle.std.proofs.Common.{◌≡◌, ℕ, ◌+◌, ◌-◌, ◌*◌, ◌/◌, ◌%◌, ◌^◌, refl, sym, ap, ◌∙◌, arith}
use Rattle.std.proofs.Math.Nat.{add_comm, mul_comm, add-mod-mod, mul-add-mod_self_right, mod-eq_of_lt, div-one}
use Rattle.std.proofs.lemmas.Nat.{and_comm, or_comm, div-mul-add}
use Rattle.word_core.specs.Words.{BitVector, IsWord}
use Rattle.word_core.specs.Table.{unary_of, binary_of, slice_of}
use Rattle.word_core.specs.declared.kinds.Unary.TheVariants.{Not, Inc, Neg}
use Rattle.word_core.specs.declared.kinds.Binary.TheVariants.{Sgt, Sgte, Slt, Slte, Ugt, Ugte, Ult, Ulte, And, Or, Add, Sub, Mul, Concat}

pub vector_is : (v w m n : ℕ) → v ≡ w → m ≡ n → (let a : BitVector = record { width = v; bits = m } in a) ≡ record { width = w; bits = n }
vector_is v w m n e f = ap (λ (k : ℕ). let a : BitVector = record { width = k; bits = m } in a) e ∙ ap (λ (k : ℕ). let a : BitVector = record { width = w; bits = k } in a) f

pub and_commutes : (a b : BitVector) → a.width ≡ b.width → binary_of And a b ≡ binary_of And b a
and_commutes a b e = vector_is a.width b.width _ _ e (and_comm a.bits b.bits)

pub or_commutes : (a b : BitVector) → a.width ≡ b.width → binary_of Or a b ≡ binary_of Or b a
or_commutes a b e = vector_is a.width b.width _ _ e (or_comm a.bits b.bits)

pub add_commutes : (a b : BitVector) → a.width ≡ b.width → binary_of Add a b ≡ binary_of Add b a
add_commutes a b e =
    vector_is a.width b.width _ _ e (ap (λ n. n % 2 ^ a.width) (add_comm a.bits b.bits) ∙ ap (λ w. (b.bits + a.bits) % 2 ^ w) e)

pub mul_commutes : (a b : BitVector) → a.width ≡ b.width → binary_of Mul a b ≡ binary_of Mul b a
mul_commutes a b e =
    vector_is a.width b.width _ _ e (ap (λ n. n % 2 ^ a.width) (mul_comm a.bits b.bits) ∙ ap (λ w. (b.bits * a.bits) % 2 ^ w) e)

-- minus a word is one more than its bitwise not
pub neg_is_inc_of_not : (a : BitVector) → IsWord a → unary_of Neg a ≡ unary_of Inc (unary_of Not a)
neg_is_inc_of_not a h =
    let e : 2 ^ a.width - a.bits ≡ 2 ^ a.width - 1 - a.bits + 1 = omega (arith, h.2) in
    ap (λ (n : ℕ). let v : BitVector = record { width = a.width; bits = n % 2 ^ a.width } in v) e

-- a difference is the sum with the negation
pub sub_is_add_of_neg : (a b : BitVector) → a.width ≡ b.width → binary_of Sub a b ≡ binary_of Add a (unary_of Neg b)
sub_is_add_of_neg a b e =
    vector_is a.width a.width _ _ refl (sym (add-mod-mod a.bits (2 ^ a.width - b.bits) (2 ^ a.width)) ∙ ap (λ w. (a.bits + (2 ^ w - b.bits) % 2 ^ w) % 2 ^ a.width) e)

-- comparisons and their mirrors
pub ugt_mirrors : (a b : BitVector) → binary_of Ugt a b ≡ binary_of Ult b a
ugt_mirrors a b = refl

pub ugte_mirrors : (a b : BitVector) → binary_of Ugte a b ≡ binary_of Ulte b a
ugte_mirrors a b = refl

pub sgt_mirrors : (a b : BitVector) → binary_of Sgt a b ≡ binary_of Slt b a
sgt_mirrors a b = refl

pub sgte_mirrors : (a b : BitVector) → binary_of Sgte a b ≡ binary_of Slte b a
sgte_mirrors a b = refl

-- the low and the high part of two words that were put together
pub slice_of_concat_low : (a b : BitVector) → IsWord b → slice_of (binary_of Concat a b) (b.width - 1) 0 ≡ b
slice_of_concat_low a b h =
    let long : b.width - 1 - 0 + 1 ≡ b.width = omega (arith, h.0) in
    vector_is (b.width - 1 - 0 + 1) b.width _ b.bits long
    (ap (λ w. (a.bits * 2 ^ b.width + b.bits) / 1 % 2 ^ w) long
    ∙ ap (λ n. n % 2 ^ b.width) (div-one (a.bits * 2 ^ b.width + b.bits))
    ∙ mul-add-mod_self_right a.bits (2 ^ b.width) b.bits
    ∙ mod-eq_of_lt h.2)

pub slice_of_concat_high : (a b : BitVector) → IsWord a → IsWord b → slice_of (binary_of Concat a b) (a.width + b.width - 1) b.width ≡ a
slice_of_concat_high a b g h =
    let long : a.width + b.width - 1 - b.width + 1 ≡ a.width = omega (arith, g.0) in
    vector_is (a.width + b.width - 1 - b.width + 1) a.width _ a.bits long
    (ap (λ w. (a.bits * 2 ^ b.width + b.bits) / 2 ^ b.width % 2 ^ w) long
    ∙ ap (λ n. n % 2 ^ a.width) (div-mul-add a.bits (2 ^ b.width) b.bits h.2)
    ∙ mod-eq_of_lt g.2)
