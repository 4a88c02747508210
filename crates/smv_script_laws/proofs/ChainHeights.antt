-- The height of a chain is that of its term's form: one application, one for each operator from the left, or from the right.
use Rattle.std.proofs.Common.{◌≡◌, ℕ, suc, ◌≤◌, max, Bool, true, false, nat_lt, nat_eq, if◌then◌else◌, List, [], ◌∷◌, map, refl, sym, ap, ◌∙◌, arith}
use Rattle.std.proofs.lemmas.Bool.{eqb-true}
use mathlib.Core.Logic.{◌⊎◌, inl, inr}
use Rattle.smv_text.specs.declared.operators.Infix.{Infix}
use Rattle.smv_text.specs.declared.operators.Infix.TheVariants.{Implies, Or, Xor, And, Union, Plus, Times}
use Rattle.smv_text.specs.declared.level.OperatorClass.TheVariants.{Implications}
use Rattle.smv_text.specs.Levels.{class_of}
use Rattle.smv_text.specs.Heights.{joined_number, is_joined, is_implied, folded, folded_right, highest, chain_height}
use Rattle.smv_meaning.specs.Expressions.{is_implies}
use Rattle.smv_meaning.specs.Types.{is_union}
use Rattle.smv_script.specs.Operators.{joins_with}

abbrev pub tallest : List (Infix × ℕ) → ℕ
tallest ls = highest (map (λ l. l.1) ls)

le_if : (b : Bool) (x y z : ℕ) → x ≤ y → x ≤ z → x ≤ (if b then y else z)
le_if true x y z p q = p
le_if false x y z p q = q

below_right : (n : ℕ) (ls : List (Infix × ℕ)) → max n (tallest ls) ≤ folded_right n ls
below_right n [] = omega arith
below_right n (l ∷ ls) = let i = below_right l.1 ls in omega (arith, i)

below_folded : (n : ℕ) (l : Infix × ℕ) (ls : List (Infix × ℕ)) → suc (max n (max l.1 (tallest ls))) ≤ folded n (l ∷ ls)
below_folded n l [] = omega arith
below_folded n l (m ∷ ls) = let i = below_folded (suc (max n l.1)) m ls in omega (arith, i)

-- a chain is higher than each of its operands
pub below_chain : (n : ℕ) (l : Infix × ℕ) (ls : List (Infix × ℕ)) → suc (max n (max l.1 (tallest ls))) ≤ chain_height n (l ∷ ls)
below_chain n l ls =
    let r = below_right l.1 ls in
    le_if (is_joined (l ∷ ls)) (suc (max n (max l.1 (tallest ls)))) (suc (max n (max l.1 (tallest ls)))) (if is_implied (l ∷ ls) then folded_right n (l ∷ ls) else folded n (l ∷ ls))
    (omega arith)
    (le_if (is_implied (l ∷ ls)) (suc (max n (max l.1 (tallest ls)))) (folded_right n (l ∷ ls)) (folded n (l ∷ ls)) (omega (arith, r)) (below_folded n l ls))

-- ---- implications

pub right_chain : (o : Infix) (n h : ℕ) (ls : List (Infix × ℕ)) → is_implies o ≡ true → folded_right n ((o, h) ∷ ls) ≤ chain_height n ((o, h) ∷ ls)
right_chain Implies n h ls e = omega arith
right_chain o n h ls e = cc

pub implies_class : (o : Infix) → is_implies o ≡ true → class_of o ≡ Implications
implies_class Implies e = refl
implies_class o e = cc

pub class_implies : (o : Infix) → class_of o ≡ Implications → is_implies o ≡ true
class_implies Implies e = refl
class_implies o e = cc

implied_first : (o : Infix) (h : ℕ) (ls : List (Infix × ℕ)) → is_implied ((o, h) ∷ ls) ≡ true → is_implies o ≡ true
implied_first Implies h ls e = refl
implied_first o h ls e = cc

-- ---- operators of which a chain is one application

abbrev numbered : ℕ → Infix
numbered n = if nat_eq n 1 then And else (if nat_eq n 2 then Or else (if nat_eq n 3 then Xor else (if nat_eq n 4 then Plus else (if nat_eq n 5 then Times else Union))))

number_back : (o : Infix) → nat_lt 0 (joined_number o) ≡ true → numbered (joined_number o) ≡ o
number_back Or e = refl
number_back Xor e = refl
number_back And e = refl
number_back Union e = refl
number_back Plus e = refl
number_back Times e = refl
number_back o e = cc

pub same_operator : (o p : Infix) → nat_lt 0 (joined_number o) ≡ true → nat_eq (joined_number p) (joined_number o) ≡ true → p ≡ o
same_operator o p e f =
    let g = eqb-true (joined_number p) (joined_number o) f in
    sym (number_back p (ap (nat_lt 0) g ∙ e)) ∙ ap numbered g ∙ number_back o e

pub joined_kind : (o : Infix) → nat_lt 0 (joined_number o) ≡ true → (is_union o ≡ true) ⊎ (joins_with o o ≡ true)
joined_kind Or e = inr refl
joined_kind Xor e = inr refl
joined_kind And e = inr refl
joined_kind Union e = inl refl
joined_kind Plus e = inr refl
joined_kind Times e = inr refl
joined_kind o e = cc

-- ---- all others

le_last : (b c : Bool) (x y z : ℕ) → (b ≡ true → ⊥) → (c ≡ true → ⊥) → z ≤ (if b then x else (if c then y else z))
le_last true c x y z p q = absurd (p refl)
le_last false true x y z p q = absurd (q refl)
le_last false false x y z p q = omega arith

pub left_chain : (o : Infix) (n h : ℕ) (ls : List (Infix × ℕ)) → (is_joined ((o, h) ∷ ls) ≡ true → ⊥) → (is_implies o ≡ true → ⊥) → folded n ((o, h) ∷ ls) ≤ chain_height n ((o, h) ∷ ls)
left_chain o n h ls p q =
    le_last (is_joined ((o, h) ∷ ls)) (is_implied ((o, h) ∷ ls)) (suc (max n (max h (tallest ls)))) (folded_right n ((o, h) ∷ ls)) (folded n ((o, h) ∷ ls))
    p (λ e. q (implied_first o h ls e))
