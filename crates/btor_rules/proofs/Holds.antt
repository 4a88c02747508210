-- Each rule gives the word of its line.
use Rattle.std.proofs.Common.{◌≡◌, ℕ, zero, suc, ◌+◌, ◌-◌, ◌*◌, ◌/◌, ◌%◌, ◌^◌, ◌<◌, min, Bool, true, false, cond, not, eqb, List, [], ◌∷◌, Option, Some, None, refl, sym, ap, subst, arith, ◌∙◌, inl, inr, ◌⊎◌}
use Rattle.std.specs.Prelude.{bit_and, bit_or, bit_xor, nat_lt, IfSome, option_and_then}
use Rattle.std.specs.Option.{option_map_or}
use Rattle.std.proofs.lemmas.Bool.{eqb-true, eq-eqb, and_parts, cases_Bool, or_cases}
use Rattle.std.specs.Int.Bits.{and_self}
use Rattle.std.proofs.lemmas.Nat.{and_comm, or_comm}
use Rattle.std.proofs.Math.Nat.{mod-eq_of_lt, div-one}
use Rattle.word_core.specs.Words.{BitVector, IsWord}
use Rattle.word_core.specs.Table.{unary_of, binary_of, ite_of, slice_of, uext_of, sext_of, bit_of, is_minus, BinaryFits}
use Rattle.word_core.specs.declared.kinds.Unary.{Unary}
use Rattle.word_core.specs.declared.kinds.Unary.TheVariants.{Not}
use Rattle.word_core.specs.declared.kinds.Binary.{Binary}
use Rattle.word_core.specs.declared.kinds.Binary.TheVariants.{Iff, Implies, Eq, Neq, And, Or, Xor, Sll, Srl, Sra, Add, Sub}
use Rattle.btor_tree.specs.declared.args.Arg.{Arg}
use Rattle.btor_tree.specs.declared.lines.Line.{Line}
use Rattle.btor_tree.specs.declared.lines.LineOp.{LineOp}
use Rattle.btor_tree.specs.declared.lines.LineOp.TheVariants as op
use Rattle.btor_tree.specs.Frame.{Equation, operand, signed_word, word_at}
use Rattle.btor_rules.specs.declared.operand.Operand.{Operand}
use Rattle.btor_rules.specs.declared.operand.Operands.{Operands}
use Rattle.btor_rules.specs.declared.operand.Operands.TheVariants.{Empty, Single, Pair, Triple}
use Rattle.btor_rules.specs.declared.operand.Outcome.{Outcome}
use Rattle.btor_rules.specs.Rules.{other_sign, is_number, is_ones, is_same, is_opposite, zeros, ones, one_bit, as_it_is, and_rule, or_rule, xor_rule, equal_rule, implies_rule, add_rule, sub_rule, shift_rule, pair_rule, ite_rule, single_rule, on_pair, on_triple, rule, folded_single, folded_pair, folded_triple, folded, folded_or, outcome, args_of, TakesWidths, OperandsFit}
use Rattle.btor_rules.specs.Words.{IsRead, AreRead, Gives}
use Rattle.btor_rules.proofs.WordLaws.{not_not, not_small, and_not_zero, and_ones, and_zero, or_self, or_zero, or_ones, or_not, xor_self, xor_zero, zero_xor, xor_not, not_differs, less_nothing, less_itself, left_nothing, right_nothing, signed_nothing, extended_by_nothing, zero_add, add_zero}
use Rattle.btor_tree.proofs.Alike.{arg_same}
use Rattle.word_core.proofs.Laws.{vector_is}

-- from tests to words
choose : (b : Bool) (p q : Outcome) (row : List BitVector) (v : BitVector) → (b ≡ true → Gives p row v) → (b ≡ false → Gives q row v) → Gives (cond b p q) row v
choose true p q row v h g = h refl
choose false p q row v h g = g refl

not_word : (w : BitVector) → IsWord w → IsWord (unary_of Not w)
not_word w h = (h.0, h.1, not_small w.width w.bits)

signed_is_word : (b : Bool) (w : BitVector) → IsWord w → IsWord (signed_word b w)
signed_is_word true w h = not_word w h
signed_is_word false w h = h

pub read_word : (row : List BitVector) (x : Operand) → IsRead row x → IsWord (operand row x.arg)
read_word row x r = signed_is_word x.arg.negated (word_at row x.arg.line) r.word

pub number_read : (row : List BitVector) (x : Operand) (n : ℕ) → IsRead row x → is_number n x ≡ true → (operand row x.arg).bits ≡ n
number_read row x n r h =
    let from : (o : Option BitVector) → IfSome o (λ c. operand row x.arg ≡ c) → option_map_or (λ (c : BitVector). eqb c.bits n) o false ≡ true → (operand row x.arg).bits ≡ n =
    λ o. elim o as (λ o. IfSome o (λ c. operand row x.arg ≡ c) → option_map_or (λ (c : BitVector). eqb c.bits n) o false ≡ true → (operand row x.arg).bits ≡ n) [
      | None ↦ λ i t. absurd (cc)
      | Some c ↦ λ i t. ap (λ (w : BitVector). w.bits) i ∙ eqb-true c.bits n t
    ] in
    from x.constant r.constant h

pub ones_read : (row : List BitVector) (x : Operand) → IsRead row x → is_ones x ≡ true → (operand row x.arg).bits ≡ 2 ^ (operand row x.arg).width - 1
ones_read row x r h =
    let w = operand row x.arg in
    let from : (o : Option BitVector) → IfSome o (λ c. w ≡ c) → option_map_or (λ (c : BitVector). eqb (2 ^ c.width - 1 - c.bits) 0) o false ≡ true → 2 ^ w.width - 1 - w.bits ≡ 0 =
    λ o. elim o as (λ o. IfSome o (λ c. w ≡ c) → option_map_or (λ (c : BitVector). eqb (2 ^ c.width - 1 - c.bits) 0) o false ≡ true → 2 ^ w.width - 1 - w.bits ≡ 0) [
      | None ↦ λ i t. absurd (cc)
      | Some c ↦ λ i t. ap (λ (w : BitVector). 2 ^ w.width - 1 - w.bits) i ∙ eqb-true _ 0 t
    ] in
    let e = from x.constant r.constant h in
    omega (arith, e, (read_word row x r).2)

pub same_read : (row : List BitVector) (x y : Operand) → is_same x y ≡ true → operand row x.arg ≡ operand row y.arg
same_read row x y h = ap (operand row) (arg_same x.arg y.arg h)

-- the word of the other sign is the bitwise not
pub other_word : (b : Bool) (w : BitVector) → IsWord w → signed_word (not b) w ≡ unary_of Not (signed_word b w)
other_word true w h = vector_is w.width w.width w.bits _ refl (sym (not_not w.width w.bits h.2))
other_word false w h = refl

pub opposite_read : (row : List BitVector) (x y : Operand) → IsRead row x → is_opposite x y ≡ true → operand row y.arg ≡ unary_of Not (operand row x.arg)
opposite_read row x y r h =
    ap (operand row) (sym (arg_same (other_sign x.arg) y.arg h)) ∙ other_word x.arg.negated (word_at row x.arg.line) r.word

-- the rules on two operands: a and b are their words
record Both (row : List BitVector) (x y : Operand) : Type 0 where
  left : IsRead row x
  right : IsRead row y
  widths : x.width ≡ y.width

same_widths : (row : List BitVector) (x y : Operand) → Both row x y → (operand row x.arg).width ≡ (operand row y.arg).width
same_widths row x y b = b.left.width ∙ b.widths ∙ sym b.right.width

ones_right : (row : List BitVector) (x y : Operand) → Both row x y → is_ones y ≡ true → (operand row y.arg).bits ≡ 2 ^ (operand row x.arg).width - 1
ones_right row x y b h = ones_read row y b.right h ∙ ap (λ n. 2 ^ n - 1) (sym (same_widths row x y b))

opposite_bits : (row : List BitVector) (x y : Operand) → IsRead row x → is_opposite x y ≡ true → (operand row y.arg).bits ≡ 2 ^ (operand row x.arg).width - 1 - (operand row x.arg).bits
opposite_bits row x y r h = ap (λ (w : BitVector). w.bits) (opposite_read row x y r h)

and_gives : (row : List BitVector) (x y : Operand) (v : BitVector) → Both row x y → v ≡ binary_of And (operand row x.arg) (operand row y.arg) → Gives (and_rule x y) row v
and_gives row x y v b e =
    let a = operand row x.arg in
    let c = operand row y.arg in
    let small = (read_word row x b.left).2 in
    choose _ (as_it_is x) _ row v
    (λ h. e ∙ vector_is a.width a.width _ a.bits refl (elim (or_cases _ _ h) [
      | inl s ↦ ap (bit_and a.bits) (sym (ap (λ (w : BitVector). w.bits) (same_read row x y s))) ∙ and_self a.bits
      | inr o ↦ ap (bit_and a.bits) (ones_right row x y b o) ∙ and_ones a.width a.bits small
    ]))
    (λ n. choose _ (as_it_is y) _ row v
    (λ h. e ∙ vector_is a.width c.width _ c.bits (same_widths row x y b) (and_comm a.bits c.bits ∙ ap (bit_and c.bits) (ones_read row x b.left h ∙ ap (λ n. 2 ^ n - 1) (same_widths row x y b)) ∙ and_ones c.width c.bits (read_word row y b.right).2))
    (λ m. choose _ (zeros x.width) _ row v
    (λ h. e ∙ vector_is a.width x.width _ 0 b.left.width (elim (or_cases _ _ h) [
      | inl s ↦ elim (or_cases _ _ s) [
        | inl z ↦ ap (λ n. bit_and n c.bits) (number_read row x 0 b.left z) ∙ and_comm 0 c.bits ∙ and_zero c.bits
        | inr z ↦ ap (bit_and a.bits) (number_read row y 0 b.right z) ∙ and_zero a.bits
      ]
      | inr o ↦ ap (bit_and a.bits) (opposite_bits row x y b.left o) ∙ and_not_zero a.width a.bits small
    ]))
    (λ l. tt)))

or_gives : (row : List BitVector) (x y : Operand) (v : BitVector) → Both row x y → v ≡ binary_of Or (operand row x.arg) (operand row y.arg) → Gives (or_rule x y) row v
or_gives row x y v b e =
    let a = operand row x.arg in
    let c = operand row y.arg in
    let small = (read_word row x b.left).2 in
    let less = (read_word row y b.right).2 in
    let w = same_widths row x y b in
    choose _ (as_it_is x) _ row v
    (λ h. e ∙ vector_is a.width a.width _ a.bits refl (elim (or_cases _ _ h) [
      | inl s ↦ ap (bit_or a.bits) (sym (ap (λ (w : BitVector). w.bits) (same_read row x y s))) ∙ or_self a.bits
      | inr o ↦ ap (bit_or a.bits) (number_read row y 0 b.right o) ∙ or_zero a.bits
    ]))
    (λ n. choose _ (as_it_is y) _ row v
    (λ h. e ∙ vector_is a.width c.width _ c.bits w (or_comm a.bits c.bits ∙ ap (bit_or c.bits) (number_read row x 0 b.left h) ∙ or_zero c.bits))
    (λ m. choose _ (ones x.width) _ row v
    (λ h. e ∙ vector_is a.width x.width _ (2 ^ x.width - 1) b.left.width (elim (or_cases _ _ h) [
      | inl s ↦ elim (or_cases _ _ s) [
        | inl z ↦ or_comm a.bits c.bits ∙ ap (bit_or c.bits) (ones_read row x b.left z ∙ ap (λ n. 2 ^ n - 1) w) ∙ or_ones c.width c.bits less ∙ ap (λ n. 2 ^ n - 1) (sym w ∙ b.left.width)
        | inr z ↦ ap (bit_or a.bits) (ones_right row x y b z) ∙ or_ones a.width a.bits small ∙ ap (λ n. 2 ^ n - 1) b.left.width
      ]
      | inr o ↦ ap (bit_or a.bits) (opposite_bits row x y b.left o) ∙ or_not a.width a.bits small ∙ ap (λ n. 2 ^ n - 1) b.left.width
    ]))
    (λ l. tt)))

xor_gives : (row : List BitVector) (x y : Operand) (v : BitVector) → Both row x y → v ≡ binary_of Xor (operand row x.arg) (operand row y.arg) → Gives (xor_rule x y) row v
xor_gives row x y v b e =
    let a = operand row x.arg in
    let c = operand row y.arg in
    let small = (read_word row x b.left).2 in
    choose _ (zeros x.width) _ row v
    (λ s. e ∙ vector_is a.width x.width _ 0 b.left.width (ap (bit_xor a.bits) (sym (ap (λ (w : BitVector). w.bits) (same_read row x y s))) ∙ xor_self a.bits))
    (λ k. choose _ (ones x.width) _ row v
    (λ o. e ∙ vector_is a.width x.width _ (2 ^ x.width - 1) b.left.width (ap (bit_xor a.bits) (opposite_bits row x y b.left o) ∙ xor_not a.width a.bits small ∙ ap (λ n. 2 ^ n - 1) b.left.width))
    (λ n. choose _ (as_it_is x) _ row v
    (λ h. e ∙ vector_is a.width a.width _ a.bits refl (ap (bit_xor a.bits) (number_read row y 0 b.right h) ∙ xor_zero a.bits))
    (λ m. choose _ (as_it_is y) _ row v
    (λ h. e ∙ vector_is a.width c.width _ c.bits (same_widths row x y b) (ap (λ n. bit_xor n c.bits) (number_read row x 0 b.left h) ∙ zero_xor c.bits))
    (λ l. tt))))

differ : (m n : ℕ) → (m ≡ n → ⊥) → eqb m n ≡ false
differ m n h = elim (cases_Bool (eqb m n)) [ inl t ↦ absurd (h (eqb-true m n t)) | inr f ↦ f ]

opposite_differ : (row : List BitVector) (x y : Operand) → IsRead row x → is_opposite x y ≡ true → eqb (operand row x.arg).bits (operand row y.arg).bits ≡ false
opposite_differ row x y r h =
    let w = read_word row x r in
    differ _ _ (λ e. not_differs (operand row x.arg).width (operand row x.arg).bits w.0 w.2 (e ∙ opposite_bits row x y r h))

same_equal : (row : List BitVector) (x y : Operand) → is_same x y ≡ true → eqb (operand row x.arg).bits (operand row y.arg).bits ≡ true
same_equal row x y s = eq-eqb _ _ (ap (λ (w : BitVector). w.bits) (same_read row x y s))

eq_gives : (row : List BitVector) (x y : Operand) (v : BitVector) → IsRead row x → v ≡ binary_of Eq (operand row x.arg) (operand row y.arg) → Gives (equal_rule true x y) row v
eq_gives row x y v r e =
    choose _ (one_bit true) _ row v
    (λ s. e ∙ vector_is 1 1 _ 1 refl (ap bit_of (same_equal row x y s)))
    (λ n. choose _ (one_bit (not true)) _ row v (λ o. e ∙ vector_is 1 1 _ 0 refl (ap bit_of (opposite_differ row x y r o))) (λ l. tt))

neq_gives : (row : List BitVector) (x y : Operand) (v : BitVector) → IsRead row x → v ≡ binary_of Neq (operand row x.arg) (operand row y.arg) → Gives (equal_rule false x y) row v
neq_gives row x y v r e =
    choose _ (one_bit false) _ row v
    (λ s. e ∙ vector_is 1 1 _ 0 refl (ap (λ t. bit_of (not t)) (same_equal row x y s)))
    (λ n. choose _ (one_bit (not false)) _ row v (λ o. e ∙ vector_is 1 1 _ 1 refl (ap (λ t. bit_of (not t)) (opposite_differ row x y r o))) (λ l. tt))

bit_cases : (n : ℕ) → n < 2 ^ 1 → (n ≡ 0) ⊎ (n ≡ 1)
bit_cases zero h = inl refl
bit_cases (suc zero) h = inr refl
bit_cases (suc (suc n)) h = absurd (omega (arith, h))

implied_by_self : (n : ℕ) → n < 2 ^ 1 → bit_or (1 - n) n ≡ 1
implied_by_self n h = elim (bit_cases n h) [ inl z ↦ ap (λ k. bit_or (1 - k) k) z | inr z ↦ ap (λ k. bit_or (1 - k) k) z ]

implied_one : (n : ℕ) → n < 2 ^ 1 → bit_or n 1 ≡ 1
implied_one n h = elim (bit_cases n h) [ inl z ↦ ap (λ k. bit_or k 1) z | inr z ↦ ap (λ k. bit_or k 1) z ]

implies_gives : (row : List BitVector) (x y : Operand) (v : BitVector) → Both row x y → y.width ≡ 1 → v ≡ binary_of Implies (operand row x.arg) (operand row y.arg) → Gives (implies_rule x y) row v
implies_gives row x y v b one e =
    let a = operand row x.arg in
    let c = operand row y.arg in
    let bit : c.bits < 2 ^ 1 = subst (λ n. c.bits < 2 ^ n) (b.right.width ∙ one) (read_word row y b.right).2 in
    let low : 1 - a.bits < 2 ^ 1 = omega arith in
    choose _ (one_bit true) _ row v
    (λ h. e ∙ vector_is 1 1 _ 1 refl (elim (or_cases _ _ h) [
      | inl s ↦ elim (or_cases _ _ s) [
        | inl z ↦ ap (λ n. bit_or (1 - n) c.bits) (number_read row x 0 b.left z) ∙ or_comm 1 c.bits ∙ implied_one c.bits bit
        | inr z ↦ ap (bit_or (1 - a.bits)) (number_read row y 1 b.right z) ∙ implied_one (1 - a.bits) low
      ]
      | inr s ↦ ap (λ n. bit_or (1 - n) c.bits) (ap (λ (w : BitVector). w.bits) (same_read row x y s)) ∙ implied_by_self c.bits bit
    ]))
    (λ n. choose _ (as_it_is y) _ row v
    (λ h. e ∙ vector_is 1 c.width _ c.bits (sym (b.right.width ∙ one)) (ap (λ n. bit_or (1 - n) c.bits) (number_read row x 1 b.left h) ∙ or_comm 0 c.bits ∙ or_zero c.bits))
    (λ l. tt))

add_gives : (row : List BitVector) (x y : Operand) (v : BitVector) → Both row x y → v ≡ binary_of Add (operand row x.arg) (operand row y.arg) → Gives (add_rule x y) row v
add_gives row x y v b e =
    let a = operand row x.arg in
    let c = operand row y.arg in
    choose _ (as_it_is x) _ row v
    (λ h. e ∙ vector_is a.width a.width _ a.bits refl (ap (λ n. (a.bits + n) % 2 ^ a.width) (number_read row y 0 b.right h) ∙ ap (λ n. n % 2 ^ a.width) (add_zero a.bits) ∙ mod-eq_of_lt (read_word row x b.left).2))
    (λ n. choose _ (as_it_is y) _ row v
    (λ h. e ∙ vector_is a.width c.width _ c.bits (same_widths row x y b)
    (ap (λ n. (n + c.bits) % 2 ^ a.width) (number_read row x 0 b.left h) ∙ ap (λ n. n % 2 ^ a.width) (zero_add c.bits) ∙ ap (λ n. c.bits % 2 ^ n) (same_widths row x y b) ∙ mod-eq_of_lt (read_word row y b.right).2))
    (λ l. tt))

sub_gives : (row : List BitVector) (x y : Operand) (v : BitVector) → Both row x y → v ≡ binary_of Sub (operand row x.arg) (operand row y.arg) → Gives (sub_rule x y) row v
sub_gives row x y v b e =
    let a = operand row x.arg in
    let c = operand row y.arg in
    let small = (read_word row x b.left).2 in
    choose _ (as_it_is x) _ row v
    (λ h. e ∙ vector_is a.width a.width _ a.bits refl (ap (λ n. (a.bits + (2 ^ a.width - n)) % 2 ^ a.width) (number_read row y 0 b.right h) ∙ less_nothing a.width a.bits small))
    (λ n. choose _ (zeros x.width) _ row v
    (λ s. e ∙ vector_is a.width x.width _ 0 b.left.width (ap (λ n. (a.bits + (2 ^ a.width - n)) % 2 ^ a.width) (sym (ap (λ (w : BitVector). w.bits) (same_read row x y s))) ∙ less_itself a.width a.bits small))
    (λ l. tt))

sll_gives : (row : List BitVector) (x y : Operand) (v : BitVector) → Both row x y → v ≡ binary_of Sll (operand row x.arg) (operand row y.arg) → Gives (shift_rule x y) row v
sll_gives row x y v b e =
    let a = operand row x.arg in
    let w = read_word row x b.left in
    choose _ (as_it_is x) _ row v
    (λ h. e ∙ vector_is a.width a.width _ a.bits refl (ap (λ n. cond (nat_lt n a.width) ((a.bits * 2 ^ n) % 2 ^ a.width) 0) (number_read row y 0 b.right h) ∙ left_nothing a.width a.bits w.0 w.2))
    (λ l. tt)

srl_gives : (row : List BitVector) (x y : Operand) (v : BitVector) → Both row x y → v ≡ binary_of Srl (operand row x.arg) (operand row y.arg) → Gives (shift_rule x y) row v
srl_gives row x y v b e =
    let a = operand row x.arg in
    let w = read_word row x b.left in
    choose _ (as_it_is x) _ row v
    (λ h. e ∙ vector_is a.width a.width _ a.bits refl (ap (λ n. cond (nat_lt n a.width) (a.bits / 2 ^ n) 0) (number_read row y 0 b.right h) ∙ right_nothing a.width a.bits w.0))
    (λ l. tt)

sra_gives : (row : List BitVector) (x y : Operand) (v : BitVector) → Both row x y → v ≡ binary_of Sra (operand row x.arg) (operand row y.arg) → Gives (shift_rule x y) row v
sra_gives row x y v b e =
    let a = operand row x.arg in
    let w = read_word row x b.left in
    choose _ (as_it_is x) _ row v
    (λ h. e ∙ vector_is a.width a.width _ a.bits refl (ap (λ n. cond (is_minus a.width a.bits) (2 ^ a.width - 1 - (2 ^ a.width - 1 - a.bits) / 2 ^ min n a.width) (a.bits / 2 ^ min n a.width)) (number_read row y 0 b.right h) ∙ signed_nothing (is_minus a.width a.bits) a.width a.bits w.2))
    (λ l. tt)

pair_gives : (o : Binary) (row : List BitVector) (x y : Operand) (v : BitVector) → IsRead row x → IsRead row y → BinaryFits o x.width y.width → v ≡ binary_of o (operand row x.arg) (operand row y.arg) → Gives (pair_rule o x y) row v
pair_gives And row x y v r s f e = and_gives row x y v (record { left = r; right = s; widths = f }) e
pair_gives Or row x y v r s f e = or_gives row x y v (record { left = r; right = s; widths = f }) e
pair_gives Xor row x y v r s f e = xor_gives row x y v (record { left = r; right = s; widths = f }) e
pair_gives Eq row x y v r s f e = eq_gives row x y v r e
pair_gives Iff row x y v r s f e = eq_gives row x y v r e
pair_gives Neq row x y v r s f e = neq_gives row x y v r e
pair_gives Implies row x y v r s f e = implies_gives row x y v (record { left = r; right = s; widths = f.0 ∙ sym f.1 }) f.1 e
pair_gives Add row x y v r s f e = add_gives row x y v (record { left = r; right = s; widths = f }) e
pair_gives Sub row x y v r s f e = sub_gives row x y v (record { left = r; right = s; widths = f }) e
pair_gives Sll row x y v r s f e = sll_gives row x y v (record { left = r; right = s; widths = f }) e
pair_gives Srl row x y v r s f e = srl_gives row x y v (record { left = r; right = s; widths = f }) e
pair_gives Sra row x y v r s f e = sra_gives row x y v (record { left = r; right = s; widths = f }) e
pair_gives o row x y v r s f e = tt

chosen_true : (n : ℕ) (a b : BitVector) → n ≡ 1 → cond (eqb n 1) a b ≡ a
chosen_true n a b h = ap (λ t. cond t a b) (eq-eqb n 1 h)

chosen_false : (n : ℕ) (a b : BitVector) → n ≡ 0 → cond (eqb n 1) a b ≡ b
chosen_false n a b h = ap (λ k. cond (eqb k 1) a b) h

chosen_same : (t : Bool) (a b : BitVector) → a ≡ b → cond t a b ≡ a
chosen_same true a b h = refl
chosen_same false a b h = sym h

ite_gives : (row : List BitVector) (c x y : Operand) (v : BitVector) → IsRead row c → v ≡ ite_of (operand row c.arg) (operand row x.arg) (operand row y.arg) → Gives (ite_rule c x y) row v
ite_gives row c x y v r e =
    choose _ (as_it_is x) _ row v
    (λ h. e ∙ elim (or_cases _ _ h) [
      | inl o ↦ chosen_true (operand row c.arg).bits (operand row x.arg) (operand row y.arg) (number_read row c 1 r o)
      | inr s ↦ chosen_same (eqb (operand row c.arg).bits 1) (operand row x.arg) (operand row y.arg) (same_read row x y s)
    ])
    (λ n. choose _ (as_it_is y) _ row v
    (λ h. e ∙ chosen_false (operand row c.arg).bits (operand row x.arg) (operand row y.arg) (number_read row c 0 r h))
    (λ l. tt))

not_gives : (u : Unary) (row : List BitVector) (x : Operand) (v : BitVector) → IsRead row x → v ≡ unary_of u (operand row x.arg) → Gives (single_rule (op.Unary u) x) row v
not_gives Not row x v r e = e ∙ sym (other_word x.arg.negated (word_at row x.arg.line) r.word)
not_gives u row x v r e = tt

single_gives : (before : List Line) (o : LineOp) (row : List BitVector) (s : ℕ) (x : Operand) (v : BitVector) → IsRead row x → Equation before row s o (x.arg ∷ []) v → Gives (single_rule o x) row v
single_gives before (op.Unary u) row s x v r e = not_gives u row x v r e
single_gives before (op.Slice high low) row s x v r e =
    let a = operand row x.arg in
    let w = read_word row x r in
    choose _ (as_it_is x) _ row v
    (λ h.
    let p = and_parts _ _ h in
    let l : low ≡ 0 = eqb-true low 0 p.0 in
    let t : high + 1 ≡ x.width = eqb-true (high + 1) x.width p.1 in
    let long : high - low + 1 ≡ a.width = omega (arith, l, t, r.width) in
    e ∙ vector_is (high - low + 1) a.width _ a.bits long (ap (λ n. a.bits / 2 ^ n % 2 ^ (high - low + 1)) l ∙ ap (λ n. n % 2 ^ (high - low + 1)) (div-one a.bits) ∙ ap (λ n. a.bits % 2 ^ n) long ∙ mod-eq_of_lt w.2))
    (λ l. tt)
single_gives before (op.Uext n) row s x v r e =
    let a = operand row x.arg in
    choose _ (as_it_is x) _ row v
    (λ h. e ∙ ap (uext_of a) (eqb-true n 0 h) ∙ vector_is (a.width + 0) a.width a.bits a.bits (add_zero a.width) refl)
    (λ l. tt)
single_gives before (op.Sext n) row s x v r e =
    let a = operand row x.arg in
    choose _ (as_it_is x) _ row v
    (λ h. e ∙ ap (sext_of a) (eqb-true n 0 h) ∙ vector_is (a.width + 0) a.width _ a.bits (add_zero a.width) (extended_by_nothing (is_minus a.width a.bits) a.width a.bits))
    (λ l. tt)
single_gives before o row s x v r e = tt

on_pair_gives : (before : List Line) (o : LineOp) (row : List BitVector) (s : ℕ) (x y : Operand) (v : BitVector) → IsRead row x → IsRead row y → TakesWidths o x.width y.width → Equation before row s o (x.arg ∷ y.arg ∷ []) v → Gives (on_pair o x y) row v
on_pair_gives before (op.Binary o) row s x y v q r f e = pair_gives o row x y v q r f e
on_pair_gives before o row s x y v q r f e = tt

on_triple_gives : (before : List Line) (o : LineOp) (row : List BitVector) (s : ℕ) (c x y : Operand) (v : BitVector) → IsRead row c → Equation before row s o (c.arg ∷ x.arg ∷ y.arg ∷ []) v → Gives (on_triple o c x y) row v
on_triple_gives before op.Ite row s c x y v q e = ite_gives row c x y v q e
on_triple_gives before o row s c x y v q e = tt

rule_gives : (before : List Line) (row : List BitVector) (s : ℕ) (o : LineOp) (xs : Operands) (v : BitVector) → OperandsFit o xs → AreRead row xs → Equation before row s o (args_of xs) v → Gives (rule o xs) row v
rule_gives before row s o Empty v f r e = tt
rule_gives before row s o (Single x) v f r e = single_gives before o row s x v r e
rule_gives before row s o (Pair x y) v f r e = on_pair_gives before o row s x y v r.0 r.1 f.2 e
rule_gives before row s o (Triple c x y) v f r e = on_triple_gives before o row s c x y v r.0 e

-- what is computed of constants
abbrev pub IsComputed : Option BitVector → BitVector → Type 0
IsComputed None v = Unit {0}
IsComputed (Some c) v = v ≡ c

fold_one : (before : List Line) (o : LineOp) (row : List BitVector) (s : ℕ) (a : Arg) (c v : BitVector) → operand row a ≡ c → Equation before row s o (a ∷ []) v → IsComputed (folded_single o c) v
fold_one before (op.Unary u) row s a c v r e = e ∙ ap (unary_of u) r
fold_one before (op.Slice high low) row s a c v r e = e ∙ ap (λ w. slice_of w high low) r
fold_one before (op.Uext n) row s a c v r e = e ∙ ap (λ w. uext_of w n) r
fold_one before (op.Sext n) row s a c v r e = e ∙ ap (λ w. sext_of w n) r
fold_one before o row s a c v r e = tt

fold_single : (before : List Line) (o : LineOp) (row : List BitVector) (s : ℕ) (a : Arg) (known : Option BitVector) (v : BitVector) → IfSome known (λ c. operand row a ≡ c) → Equation before row s o (a ∷ []) v → IsComputed (option_and_then (folded_single o) known) v
fold_single before o row s a None v r e = tt
fold_single before o row s a (Some c) v r e = fold_one before o row s a c v r e

fold_pair : (before : List Line) (o : LineOp) (row : List BitVector) (s : ℕ) (a b : Arg) (p q : Option BitVector) (v : BitVector) → IfSome p (λ c. operand row a ≡ c) → IfSome q (λ c. operand row b ≡ c) → Equation before row s o (a ∷ b ∷ []) v → IsComputed (folded_pair o p q) v
fold_pair before (op.Binary o) row s a b None q v g h e = tt
fold_pair before (op.Binary o) row s a b (Some c) None v g h e = tt
fold_pair before (op.Binary o) row s a b (Some c) (Some d) v g h e = e ∙ ap (λ w. binary_of o w (operand row b)) g ∙ ap (binary_of o c) h
fold_pair before o row s a b p q v g h e = tt

fold_triple : (before : List Line) (o : LineOp) (row : List BitVector) (s : ℕ) (a b d : Arg) (p q t : Option BitVector) (v : BitVector) → IfSome p (λ c. operand row a ≡ c) → IfSome q (λ c. operand row b ≡ c) → IfSome t (λ c. operand row d ≡ c) → Equation before row s o (a ∷ b ∷ d ∷ []) v → IsComputed (folded_triple o p q t) v
fold_triple before op.Ite row s a b d None q t v g h k e = tt
fold_triple before op.Ite row s a b d (Some x) None t v g h k e = tt
fold_triple before op.Ite row s a b d (Some x) (Some y) None v g h k e = tt
fold_triple before op.Ite row s a b d (Some x) (Some y) (Some z) v g h k e =
    e ∙ ap (λ w. ite_of w (operand row b) (operand row d)) g ∙ ap (λ w. ite_of x w (operand row d)) h ∙ ap (ite_of x y) k
fold_triple before o row s a b d p q t v g h k e = tt

folded_gives : (before : List Line) (row : List BitVector) (s : ℕ) (o : LineOp) (xs : Operands) (v : BitVector) → AreRead row xs → Equation before row s o (args_of xs) v → IsComputed (folded o xs) v
folded_gives before row s o Empty v r e = tt
folded_gives before row s o (Single x) v r e = fold_single before o row s x.arg x.constant v r.constant e
folded_gives before row s o (Pair x y) v r e = fold_pair before o row s x.arg y.arg x.constant y.constant v r.0.constant r.1.constant e
folded_gives before row s o (Triple c x y) v r e =
    fold_triple before o row s c.arg x.arg y.arg c.constant x.constant y.constant v r.0.constant r.1.constant r.2.constant e

or_rule_gives : (known : Option BitVector) (other : Outcome) (row : List BitVector) (v : BitVector) → IsComputed known v → Gives other row v → Gives (folded_or known other) row v
or_rule_gives None other row v h g = g
or_rule_gives (Some c) other row v h g = h

pub rules_hold : (before : List Line) (row : List BitVector) (s : ℕ) (o : LineOp) (xs : Operands) (v : BitVector) → OperandsFit o xs → AreRead row xs → Equation before row s o (args_of xs) v → Gives (outcome o xs) row v
rules_hold before row s o xs v f r e =
    or_rule_gives (folded o xs) (rule o xs) row v (folded_gives before row s o xs v r e) (rule_gives before row s o xs v f r e)
