-- What becomes of an operator line has the width of its word.
use Rattle.std.proofs.Common.{◌≡◌, ℕ, ◌+◌, ◌-◌, ◌^◌, ◌/◌, ◌<◌, ◌≤◌, Bool, true, false, cond, not, eqb, Option, Some, None, refl, sym, ap, subst, arith, ◌∙◌, inl, inr}
use Rattle.std.specs.Prelude.{IfSome, option_and_then}
use Rattle.std.proofs.Math.Nat.{one-le-pow, mod-lt}
use Rattle.std.proofs.lemmas.Bool.{eqb-true, and_parts}
use Rattle.word_core.specs.Words.{BitVector, IsWord}
use Rattle.word_core.specs.declared.word.TheConstants.{WIDEST}
use Rattle.word_core.specs.Table.{slice_of, BinaryFits, unary_width, binary_width, is_minus}
use Rattle.word_core.specs.laws.Rows.{unary_is_word, binary_is_word, uext_is_word}
use Rattle.word_core.specs.declared.kinds.Unary.{Unary}
use Rattle.word_core.specs.declared.kinds.Unary.TheVariants.{Not}
use Rattle.word_core.specs.declared.kinds.Binary.{Binary}
use Rattle.word_core.specs.declared.kinds.Binary.TheVariants.{Iff, Implies, Eq, Neq, And, Or, Xor, Sll, Srl, Sra, Add, Sub}
use Rattle.btor_tree.specs.declared.lines.LineOp.{LineOp}
use Rattle.btor_tree.specs.declared.lines.LineOp.TheVariants as op
use Rattle.btor_rules.specs.declared.operand.Operand.{Operand}
use Rattle.btor_rules.specs.declared.operand.Operands.{Operands}
use Rattle.btor_rules.specs.declared.operand.Operands.TheVariants.{Empty, Single, Pair, Triple}
use Rattle.btor_rules.specs.declared.operand.Outcome.{Outcome}
use Rattle.btor_rules.specs.declared.operand.Outcome.TheVariants.{Stays}
use Rattle.btor_rules.specs.Rules.{zeros, ones, one_bit, as_it_is, equal_rule, shift_rule, pair_rule, single_rule, on_pair, on_triple, rule, folded_single, folded_pair, folded_triple, folded, folded_or, outcome, OperandFits, TakesWidth, TakesWidths, OperandsFit}
use Rattle.btor_rules.specs.Words.{GivesWidthOfOne, GivesWidthOfTwo, GivesWidth, OutcomeFits}
use Rattle.btor_tree.proofs.Widths.{sext_choice}

-- an outcome that fits, as a fact of its own
record Sized (xs : Operands) (w : ℕ) (o : Outcome) : Type 0 where
  fits : OutcomeFits o xs w

stay : {xs : Operands} {w : ℕ} → Sized xs w Stays
stay = record { fits = tt }

choose : {xs : Operands} {w : ℕ} (b : Bool) (p q : Outcome) → Sized xs w p → Sized xs w q → Sized xs w (cond b p q)
choose true p q h g = h
choose false p q h g = g

choose_where : {xs : Operands} {w : ℕ} (b : Bool) (p : Outcome) → (b ≡ true → Sized xs w p) → Sized xs w (cond b p Stays)
choose_where true p h = h refl
choose_where false p h = stay

zeros_fit : (w : ℕ) (xs : Operands) → 1 ≤ w → w ≤ WIDEST → OutcomeFits (zeros w) xs w
zeros_fit w xs g h = ((g, h, one-le-pow w 2 (omega arith)), refl)

ones_fit : (w : ℕ) (xs : Operands) → 1 ≤ w → w ≤ WIDEST → OutcomeFits (ones w) xs w
ones_fit w xs g h = let top : 1 ≤ 2 ^ w = one-le-pow w 2 (omega arith) in ((g, h, omega (arith, top)), refl)

bit_fits : (b : Bool) (xs : Operands) → OutcomeFits (one_bit b) xs 1
bit_fits true xs = ((omega arith, omega arith, omega arith), refl)
bit_fits false xs = ((omega arith, omega arith, omega arith), refl)

left : (x y : Operand) (w : ℕ) → x.width ≡ w → Sized (Pair x y) w (as_it_is x)
left x y w h = record { fits = inl (refl, h) }

right : (x y : Operand) (w : ℕ) → y.width ≡ w → Sized (Pair x y) w (as_it_is y)
right x y w h = record { fits = inr (refl, h) }

zeros_here : (x y : Operand) (w : ℕ) → OperandFits x → x.width ≡ w → Sized (Pair x y) w (zeros x.width)
zeros_here x y w f h = record { fits = subst (λ n. OutcomeFits (zeros x.width) (Pair x y) n) h (zeros_fit x.width (Pair x y) f.least f.most) }

ones_here : (x y : Operand) (w : ℕ) → OperandFits x → x.width ≡ w → Sized (Pair x y) w (ones x.width)
ones_here x y w f h = record { fits = subst (λ n. OutcomeFits (ones x.width) (Pair x y) n) h (ones_fit x.width (Pair x y) f.least f.most) }

bit_here : (b : Bool) (x y : Operand) (w : ℕ) → 1 ≡ w → Sized (Pair x y) w (one_bit b)
bit_here b x y w h = record { fits = subst (λ n. OutcomeFits (one_bit b) (Pair x y) n) h (bit_fits b (Pair x y)) }

equal_fits : (b : Bool) (x y : Operand) (w : ℕ) → 1 ≡ w → Sized (Pair x y) w (equal_rule b x y)
equal_fits b x y w h = choose _ _ _ (bit_here b x y w h) (choose _ _ _ (bit_here (not b) x y w h) stay)

shift_fits : (x y : Operand) (w : ℕ) → x.width ≡ w → Sized (Pair x y) w (shift_rule x y)
shift_fits x y w h = choose _ _ _ (left x y w h) stay

pair_fits : (o : Binary) (x y : Operand) (w : ℕ) → OperandFits x → OperandFits y → BinaryFits o x.width y.width → binary_width o x.width y.width ≡ w → Sized (Pair x y) w (pair_rule o x y)
pair_fits And x y w f g b h = choose _ _ _ (left x y w h) (choose _ _ _ (right x y w (sym b ∙ h)) (choose _ _ _ (zeros_here x y w f h) stay))
pair_fits Or x y w f g b h = choose _ _ _ (left x y w h) (choose _ _ _ (right x y w (sym b ∙ h)) (choose _ _ _ (ones_here x y w f h) stay))
pair_fits Xor x y w f g b h =
    choose _ _ _ (zeros_here x y w f h) (choose _ _ _ (ones_here x y w f h) (choose _ _ _ (left x y w h) (choose _ _ _ (right x y w (sym b ∙ h)) stay)))
pair_fits Eq x y w f g b h = equal_fits true x y w h
pair_fits Iff x y w f g b h = equal_fits true x y w h
pair_fits Neq x y w f g b h = equal_fits false x y w h
pair_fits Implies x y w f g b h = choose _ _ _ (bit_here true x y w h) (choose _ _ _ (right x y w (b.1 ∙ h)) stay)
pair_fits Add x y w f g b h = choose _ _ _ (left x y w h) (choose _ _ _ (right x y w (sym b ∙ h)) stay)
pair_fits Sub x y w f g b h = choose _ _ _ (left x y w h) (choose _ _ _ (zeros_here x y w f h) stay)
pair_fits Sll x y w f g b h = shift_fits x y w h
pair_fits Srl x y w f g b h = shift_fits x y w h
pair_fits Sra x y w f g b h = shift_fits x y w h
pair_fits o x y w f g b h = stay

not_fits : (u : Unary) (x : Operand) (w : ℕ) → unary_width u x.width ≡ w → Sized (Single x) w (single_rule (op.Unary u) x)
not_fits Not x w h = record { fits = (refl, h) }
not_fits u x w h = stay

single_fits : (o : LineOp) (x : Operand) (w : ℕ) → GivesWidthOfOne o x.width w → Sized (Single x) w (single_rule o x)
single_fits (op.Unary u) x w h = not_fits u x w h
single_fits (op.Slice high low) x w h =
    choose_where _ (as_it_is x) (λ t. let p = and_parts _ _ t in record { fits = (refl, omega (arith, eqb-true low 0 p.0, eqb-true (high + 1) x.width p.1, h)) })
single_fits (op.Uext n) x w h = choose_where _ (as_it_is x) (λ t. record { fits = (refl, omega (arith, eqb-true n 0 t, h)) })
single_fits (op.Sext n) x w h = choose_where _ (as_it_is x) (λ t. record { fits = (refl, omega (arith, eqb-true n 0 t, h)) })
single_fits o x w h = stay

on_pair_fits : (o : LineOp) (x y : Operand) (w : ℕ) → OperandFits x → OperandFits y → TakesWidths o x.width y.width → GivesWidthOfTwo o x.width y.width w → Sized (Pair x y) w (on_pair o x y)
on_pair_fits (op.Binary o) x y w f g b h = pair_fits o x y w f g b h
on_pair_fits o x y w f g b h = stay

second : (c x y : Operand) (w : ℕ) → x.width ≡ w → Sized (Triple c x y) w (as_it_is x)
second c x y w h = record { fits = inr (inl (refl, h)) }

third : (c x y : Operand) (w : ℕ) → y.width ≡ w → Sized (Triple c x y) w (as_it_is y)
third c x y w h = record { fits = inr (inr (refl, h)) }

on_triple_fits : (o : LineOp) (c x y : Operand) (w : ℕ) → x.width ≡ y.width → x.width ≡ w → Sized (Triple c x y) w (on_triple o c x y)
on_triple_fits op.Ite c x y w e h =
    choose _ _ _ (second c x y w h) (choose _ _ _ (third c x y w (sym e ∙ h)) stay)
on_triple_fits o c x y w e h = stay

rule_fits : (o : LineOp) (xs : Operands) (w : ℕ) → OperandsFit o xs → GivesWidth o xs w → OutcomeFits (rule o xs) xs w
rule_fits o Empty w f h = tt
rule_fits o (Single x) w f h = (single_fits o x w h).fits
rule_fits o (Pair x y) w f h = (on_pair_fits o x y w f.0 f.1 f.2 h).fits
rule_fits o (Triple c x y) w f h = (on_triple_fits o c x y w f.4 h).fits

abbrev pub IsOfWidth : Option BitVector → ℕ → Type 0
IsOfWidth known w = IfSome known (λ c. IsWord c × (c.width ≡ w))

slice_is_word : (a : BitVector) (high low : ℕ) → IsWord a → low ≤ high → high < a.width → IsWord (slice_of a high low)
slice_is_word a high low h o g =
    let top : 1 ≤ 2 ^ (high - low + 1) = one-le-pow (high - low + 1) 2 (omega arith) in
    (omega arith, omega (arith, o, g, h.1), mod-lt (a.bits / 2 ^ low) top)

fold_one_fits : (o : LineOp) (c : BitVector) (v w : ℕ) → IsWord c → c.width ≡ v → TakesWidth o v → GivesWidthOfOne o v w → IsOfWidth (folded_single o c) w
fold_one_fits (op.Unary u) c v w i e f h = (unary_is_word u c i, ap (unary_width u) e ∙ h)
fold_one_fits (op.Slice high low) c v w i e f h = (slice_is_word c high low i f.0 (omega (arith, f.1, e)), h)
fold_one_fits (op.Uext n) c v w i e f h = (uext_is_word c n i (omega (arith, e, f)), omega (arith, e, h))
fold_one_fits (op.Sext n) c v w i e f h = (sext_choice (is_minus c.width c.bits) c n i (omega (arith, e, f)), omega (arith, e, h))
fold_one_fits o c v w i e f h = tt

fold_single_fits : (o : LineOp) (known : Option BitVector) (v w : ℕ) → IsOfWidth known v → TakesWidth o v → GivesWidthOfOne o v w → IsOfWidth (option_and_then (folded_single o) known) w
fold_single_fits o None v w i f h = tt
fold_single_fits o (Some c) v w i f h = fold_one_fits o c v w i.0 i.1 f h

fold_pair_fits : (o : LineOp) (p q : Option BitVector) (u v w : ℕ) → IsOfWidth p u → IsOfWidth q v → TakesWidths o u v → GivesWidthOfTwo o u v w → IsOfWidth (folded_pair o p q) w
fold_pair_fits (op.Binary o) None q u v w i j f h = tt
fold_pair_fits (op.Binary o) (Some c) None u v w i j f h = tt
fold_pair_fits (op.Binary o) (Some c) (Some d) u v w i j f h =
    let fits : BinaryFits o c.width d.width = subst (λ n. BinaryFits o n d.width) (sym i.1) (subst (BinaryFits o u) (sym j.1) f) in
    (binary_is_word o c d i.0 j.0 fits, ap (λ n. binary_width o n d.width) i.1 ∙ ap (binary_width o u) j.1 ∙ h)
fold_pair_fits o p q u v w i j f h = tt

chosen_fits : (b : Bool) (x y : BitVector) (w : ℕ) → IsWord x × (x.width ≡ w) → IsWord y × (y.width ≡ w) → IsWord (cond b x y) × ((cond b x y).width ≡ w)
chosen_fits true x y w f g = f
chosen_fits false x y w f g = g

fold_triple_fits : (o : LineOp) (p q t : Option BitVector) (v w : ℕ) → IsOfWidth q w → IsOfWidth t w → IsOfWidth (folded_triple o p q t) w
fold_triple_fits op.Ite None q t v w i j = tt
fold_triple_fits op.Ite (Some c) None t v w i j = tt
fold_triple_fits op.Ite (Some c) (Some x) None v w i j = tt
fold_triple_fits op.Ite (Some c) (Some x) (Some y) v w i j = chosen_fits (eqb c.bits 1) x y w i j
fold_triple_fits o p q t v w i j = tt

folded_fits : (o : LineOp) (xs : Operands) (w : ℕ) → OperandsFit o xs → GivesWidth o xs w → IsOfWidth (folded o xs) w
folded_fits o Empty w f h = tt
folded_fits o (Single x) w f h = fold_single_fits o x.constant x.width w f.0.constant f.1 h
folded_fits o (Pair x y) w f h = fold_pair_fits o x.constant y.constant x.width y.width w f.0.constant f.1.constant f.2 h
folded_fits o (Triple c x y) w f h =
    fold_triple_fits o c.constant x.constant y.constant w w (subst (IsOfWidth x.constant) h f.1.constant) (subst (IsOfWidth y.constant) (sym f.4 ∙ h) f.2.constant)

or_rule_fits : (known : Option BitVector) (other : Outcome) (xs : Operands) (w : ℕ) → IsOfWidth known w → OutcomeFits other xs w → OutcomeFits (folded_or known other) xs w
or_rule_fits None other xs w h g = g
or_rule_fits (Some c) other xs w h g = h

pub rules_fit : (o : LineOp) (xs : Operands) (w : ℕ) → OperandsFit o xs → GivesWidth o xs w → OutcomeFits (outcome o xs) xs w
rules_fit o xs w f h = or_rule_fits (folded o xs) (rule o xs) xs w (folded_fits o xs w f h) (rule_fits o xs w f h)
