-- Where no rule fits a line, none fits it under other names of its arguments.
use Rattle.std.proofs.Common.{◌≡◌, Bool, true, false, not, cond, ◌||◌, Option, Some, None, refl, sym, ap, subst, ◌∙◌}
use Rattle.word_core.specs.Words.{BitVector}
use Rattle.word_core.specs.declared.kinds.Unary.{Unary}
use Rattle.word_core.specs.declared.kinds.Unary.TheVariants.{Not}
use Rattle.word_core.specs.declared.kinds.Binary.{Binary}
use Rattle.word_core.specs.declared.kinds.Binary.TheVariants.{Iff, Implies, Eq, Neq, And, Or, Xor, Sll, Srl, Sra, Add, Sub}
use Rattle.btor_tree.specs.declared.args.Arg.{Arg}
use Rattle.btor_tree.specs.declared.lines.LineOp.{LineOp}
use Rattle.btor_tree.specs.declared.lines.LineOp.TheVariants as op
use Rattle.btor_rules.specs.declared.operand.Operand.{Operand}
use Rattle.btor_rules.specs.declared.operand.Operands.{Operands}
use Rattle.btor_rules.specs.declared.operand.Operands.TheVariants.{Empty, Single, Pair, Triple}
use Rattle.btor_rules.specs.declared.operand.Outcome.{Outcome}
use Rattle.btor_rules.specs.declared.operand.Outcome.TheVariants.{Stays, Constant, Argument}
use Rattle.btor_rules.specs.Rules.{other_sign, is_number, is_ones, is_same, is_opposite, as_it_is, zeros, ones, one_bit, and_rule, or_rule, xor_rule, equal_rule, implies_rule, add_rule, sub_rule, shift_rule, pair_rule, ite_rule, kept_where, single_rule, on_pair, on_triple, rule, folded, folded_or, outcome}

pub argument_stays : (a : Arg) → Argument a ≡ Stays → ⊥
argument_stays a e = absurd (cc)

pub constant_stays : (c : BitVector) → Constant c ≡ Stays → ⊥
constant_stays c e = absurd (cc)

-- tests under which nothing but the last case stays
one_test : (a : Bool) (p x : Outcome) → (p ≡ Stays → ⊥) → cond a p Stays ≡ Stays → cond a x Stays ≡ Stays
one_test true p x n h = absurd (n h)
one_test false p x n h = refl

two_tests : (a b : Bool) (p q x y : Outcome) → (p ≡ Stays → ⊥) → (q ≡ Stays → ⊥) → cond a p (cond b q Stays) ≡ Stays → cond a x (cond b y Stays) ≡ Stays
two_tests true b p q x y n m h = absurd (n h)
two_tests false b p q x y n m h = one_test b q y m h

three_tests : (a b c : Bool) (p q r x y z : Outcome) → (p ≡ Stays → ⊥) → (q ≡ Stays → ⊥) → (r ≡ Stays → ⊥) → cond a p (cond b q (cond c r Stays)) ≡ Stays → cond a x (cond b y (cond c z Stays)) ≡ Stays
three_tests true b c p q r x y z n m o h = absurd (n h)
three_tests false b c p q r x y z n m o h = two_tests b c q r y z m o h

four_tests : (a b c d : Bool) (p q r s x y z w : Outcome) → (p ≡ Stays → ⊥) → (q ≡ Stays → ⊥) → (r ≡ Stays → ⊥) → (s ≡ Stays → ⊥) → cond a p (cond b q (cond c r (cond d s Stays))) ≡ Stays → cond a x (cond b y (cond c z (cond d w Stays))) ≡ Stays
four_tests true b c d p q r s x y z w n m o k h = absurd (n h)
four_tests false b c d p q r s x y z w n m o k h = three_tests b c d q r s y z w m o k h

module _ (move : Arg → Arg) where
  abbrev pub renamed : Operand → Operand
  renamed x = record { arg = move x.arg; width = x.width; constant = x.constant }

  -- the new names tell the same arguments apart
  pub record TellsApart (x y : Operand) : Type 0 where
    pub same : is_same (renamed x) (renamed y) ≡ is_same x y
    pub opposite : is_opposite (renamed x) (renamed y) ≡ is_opposite x y

  module _ (x y : Operand) (t : TellsApart x y) where
    and_stays : and_rule x y ≡ Stays → and_rule (renamed x) (renamed y) ≡ Stays
    and_stays h =
        subst (λ a. cond (a || is_ones y) (as_it_is (renamed x)) (cond (is_ones x) (as_it_is (renamed y)) (cond (is_number 0 x || is_number 0 y || is_opposite (renamed x) (renamed y)) (zeros x.width) Stays)) ≡ Stays) (sym t.same)
        (subst (λ b. cond (is_same x y || is_ones y) (as_it_is (renamed x)) (cond (is_ones x) (as_it_is (renamed y)) (cond (is_number 0 x || is_number 0 y || b) (zeros x.width) Stays)) ≡ Stays) (sym t.opposite)
        (three_tests (is_same x y || is_ones y) (is_ones x) (is_number 0 x || is_number 0 y || is_opposite x y) (as_it_is x) (as_it_is y) (zeros x.width) (as_it_is (renamed x)) (as_it_is (renamed y)) (zeros x.width) (argument_stays x.arg) (argument_stays y.arg) (constant_stays _) h))

    or_stays : or_rule x y ≡ Stays → or_rule (renamed x) (renamed y) ≡ Stays
    or_stays h =
        subst (λ a. cond (a || is_number 0 y) (as_it_is (renamed x)) (cond (is_number 0 x) (as_it_is (renamed y)) (cond (is_ones x || is_ones y || is_opposite (renamed x) (renamed y)) (ones x.width) Stays)) ≡ Stays) (sym t.same)
        (subst (λ b. cond (is_same x y || is_number 0 y) (as_it_is (renamed x)) (cond (is_number 0 x) (as_it_is (renamed y)) (cond (is_ones x || is_ones y || b) (ones x.width) Stays)) ≡ Stays) (sym t.opposite)
        (three_tests (is_same x y || is_number 0 y) (is_number 0 x) (is_ones x || is_ones y || is_opposite x y) (as_it_is x) (as_it_is y) (ones x.width) (as_it_is (renamed x)) (as_it_is (renamed y)) (ones x.width) (argument_stays x.arg) (argument_stays y.arg) (constant_stays _) h))

    xor_stays : xor_rule x y ≡ Stays → xor_rule (renamed x) (renamed y) ≡ Stays
    xor_stays h =
        subst (λ a. cond a (zeros x.width) (cond (is_opposite (renamed x) (renamed y)) (ones x.width) (cond (is_number 0 y) (as_it_is (renamed x)) (cond (is_number 0 x) (as_it_is (renamed y)) Stays))) ≡ Stays) (sym t.same)
        (subst (λ b. cond (is_same x y) (zeros x.width) (cond b (ones x.width) (cond (is_number 0 y) (as_it_is (renamed x)) (cond (is_number 0 x) (as_it_is (renamed y)) Stays))) ≡ Stays) (sym t.opposite)
        (four_tests (is_same x y) (is_opposite x y) (is_number 0 y) (is_number 0 x) (zeros x.width) (ones x.width) (as_it_is x) (as_it_is y) (zeros x.width) (ones x.width) (as_it_is (renamed x)) (as_it_is (renamed y)) (constant_stays _) (constant_stays _) (argument_stays x.arg) (argument_stays y.arg) h))

    equal_stays : (e : Bool) → equal_rule e x y ≡ Stays → equal_rule e (renamed x) (renamed y) ≡ Stays
    equal_stays e h =
        subst (λ a. cond a (one_bit e) (cond (is_opposite (renamed x) (renamed y)) (one_bit (not e)) Stays) ≡ Stays) (sym t.same)
        (subst (λ b. cond (is_same x y) (one_bit e) (cond b (one_bit (not e)) Stays) ≡ Stays) (sym t.opposite) h)

    implies_stays : implies_rule x y ≡ Stays → implies_rule (renamed x) (renamed y) ≡ Stays
    implies_stays h =
        subst (λ a. cond (is_number 0 x || is_number 1 y || a) (one_bit true) (cond (is_number 1 x) (as_it_is (renamed y)) Stays) ≡ Stays) (sym t.same)
        (two_tests (is_number 0 x || is_number 1 y || is_same x y) (is_number 1 x) (one_bit true) (as_it_is y) (one_bit true) (as_it_is (renamed y)) (constant_stays _) (argument_stays y.arg) h)

    add_stays : add_rule x y ≡ Stays → add_rule (renamed x) (renamed y) ≡ Stays
    add_stays h = two_tests (is_number 0 y) (is_number 0 x) (as_it_is x) (as_it_is y) (as_it_is (renamed x)) (as_it_is (renamed y)) (argument_stays x.arg) (argument_stays y.arg) h

    sub_stays : sub_rule x y ≡ Stays → sub_rule (renamed x) (renamed y) ≡ Stays
    sub_stays h =
        subst (λ a. cond (is_number 0 y) (as_it_is (renamed x)) (cond a (zeros x.width) Stays) ≡ Stays) (sym t.same)
        (two_tests (is_number 0 y) (is_same x y) (as_it_is x) (zeros x.width) (as_it_is (renamed x)) (zeros x.width) (argument_stays x.arg) (constant_stays _) h)

    shift_stays : shift_rule x y ≡ Stays → shift_rule (renamed x) (renamed y) ≡ Stays
    shift_stays h = one_test (is_number 0 y) (as_it_is x) (as_it_is (renamed x)) (argument_stays x.arg) h

    pair_stays : (o : Binary) → pair_rule o x y ≡ Stays → pair_rule o (renamed x) (renamed y) ≡ Stays
    pair_stays And h = and_stays h
    pair_stays Or h = or_stays h
    pair_stays Xor h = xor_stays h
    pair_stays Eq h = equal_stays true h
    pair_stays Iff h = equal_stays true h
    pair_stays Neq h = equal_stays false h
    pair_stays Implies h = implies_stays h
    pair_stays Add h = add_stays h
    pair_stays Sub h = sub_stays h
    pair_stays Sll h = shift_stays h
    pair_stays Srl h = shift_stays h
    pair_stays Sra h = shift_stays h
    pair_stays o h = refl

    on_pair_stays : (o : LineOp) → on_pair o x y ≡ Stays → on_pair o (renamed x) (renamed y) ≡ Stays
    on_pair_stays (op.Binary o) h = pair_stays o h
    on_pair_stays o h = refl

    ite_stays : (c : Operand) → ite_rule c x y ≡ Stays → ite_rule (renamed c) (renamed x) (renamed y) ≡ Stays
    ite_stays c h =
        subst (λ a. cond (is_number 1 c || a) (as_it_is (renamed x)) (cond (is_number 0 c) (as_it_is (renamed y)) Stays) ≡ Stays) (sym t.same)
        (two_tests (is_number 1 c || is_same x y) (is_number 0 c) (as_it_is x) (as_it_is y) (as_it_is (renamed x)) (as_it_is (renamed y)) (argument_stays x.arg) (argument_stays y.arg) h)

    on_triple_stays : (o : LineOp) (c : Operand) → on_triple o c x y ≡ Stays → on_triple o (renamed c) (renamed x) (renamed y) ≡ Stays
    on_triple_stays op.Ite c h = ite_stays c h
    on_triple_stays o c h = refl

  kept_stays : (b : Bool) (x : Operand) → kept_where b x ≡ Stays → kept_where b (renamed x) ≡ Stays
  kept_stays b x h = one_test b (as_it_is x) (as_it_is (renamed x)) (argument_stays x.arg) h

  unary_stays : (u : Unary) (x : Operand) → single_rule (op.Unary u) x ≡ Stays → single_rule (op.Unary u) (renamed x) ≡ Stays
  unary_stays Not x h = absurd (argument_stays (other_sign x.arg) h)
  unary_stays u x h = refl

  single_stays : (o : LineOp) (x : Operand) → single_rule o x ≡ Stays → single_rule o (renamed x) ≡ Stays
  single_stays (op.Unary u) x h = unary_stays u x h
  single_stays (op.Slice high low) x h = kept_stays _ x h
  single_stays (op.Uext n) x h = kept_stays _ x h
  single_stays (op.Sext n) x h = kept_stays _ x h
  single_stays o x h = refl

  abbrev pub all_renamed : Operands → Operands
  all_renamed Empty = Empty
  all_renamed (Single x) = Single (renamed x)
  all_renamed (Pair x y) = Pair (renamed x) (renamed y)
  all_renamed (Triple c x y) = Triple (renamed c) (renamed x) (renamed y)

  abbrev pub AreToldApart : Operands → Type 0
  AreToldApart Empty = Unit {0}
  AreToldApart (Single x) = Unit {0}
  AreToldApart (Pair x y) = TellsApart x y
  AreToldApart (Triple c x y) = TellsApart x y

  rule_stays : (o : LineOp) (xs : Operands) → AreToldApart xs → rule o xs ≡ Stays → rule o (all_renamed xs) ≡ Stays
  rule_stays o Empty t h = refl
  rule_stays o (Single x) t h = single_stays o x h
  rule_stays o (Pair x y) t h = on_pair_stays x y t o h
  rule_stays o (Triple c x y) t h = on_triple_stays x y t o c h

  folded_same : (o : LineOp) (xs : Operands) → folded o (all_renamed xs) ≡ folded o xs
  folded_same o Empty = refl
  folded_same o (Single x) = refl
  folded_same o (Pair x y) = refl
  folded_same o (Triple c x y) = refl

  by_folded : (known : Option BitVector) (p q : Outcome) → (p ≡ Stays → q ≡ Stays) → folded_or known p ≡ Stays → folded_or known q ≡ Stays
  by_folded None p q f h = f h
  by_folded (Some c) p q f h = absurd (constant_stays c h)

  pub outcome_stays : (o : LineOp) (xs : Operands) → AreToldApart xs → outcome o xs ≡ Stays → outcome o (all_renamed xs) ≡ Stays
  outcome_stays o xs t h =
      ap (λ k. folded_or k (rule o (all_renamed xs))) (folded_same o xs) ∙ by_folded (folded o xs) (rule o xs) (rule o (all_renamed xs)) (rule_stays o xs t) h
