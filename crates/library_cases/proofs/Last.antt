-- An operand of the chain in a TRANS is a part of an expression of its module.
use Rattle.std.proofs.Common.{◌≡◌, inl, inr, ℕ, zero, suc, ◌<◌, List, [], ◌∷◌, ◌++◌, map, length, refl, sym, subst, arith}
use Rattle.std.specs.Prelude.{flat_map, slice_index_or}
use Rattle.smv_text.specs.Tree.{Tree, truth, number, literal, name, prefix, chain, choice, cases, select, call, next, set, range, Links, PlainElement, trans}
use Rattle.smv_text.specs.View.{plain_element}
use Rattle.smv_text.specs.declared.tree.Element.{Element}
use Rattle.smv_meaning.specs.Parts.{IsPart, InOne, expressions_in}
use Rattle.text_core.specs.declared.place.Place.{Place}

is_part_of_itself : (e : Tree) → IsPart e e
is_part_of_itself (truth p b) = refl
is_part_of_itself (number p n) = refl
is_part_of_itself (literal p w) = refl
is_part_of_itself (name p x) = refl
is_part_of_itself (prefix p sign n x) = inl refl
is_part_of_itself (chain p x ls) = inl refl
is_part_of_itself (choice p bs x) = inl refl
is_part_of_itself (cases p bs) = inl refl
is_part_of_itself (select p x high low) = inl refl
is_part_of_itself (call p f xs) = inl refl
is_part_of_itself (next p x) = inl refl
is_part_of_itself (set p xs) = inl refl
is_part_of_itself (range p low high) = refl

in_front : (e : Tree) (xs ys : List Tree) → InOne e xs → InOne e (xs ++ ys)
in_front e [] ys h = absurd h
in_front e (x ∷ xs) ys (inl h) = inl h
in_front e (x ∷ xs) ys (inr h) = inr (in_front e xs ys h)

behind : (e : Tree) (xs ys : List Tree) → InOne e ys → InOne e (xs ++ ys)
behind e [] ys h = h
behind e (x ∷ xs) ys h = inr (behind e xs ys h)

in_one : (e : Tree) (es : List Element) (k : ℕ) (x : Element) → k < length es → x ≡ slice_index_or es k x → InOne e (expressions_in (plain_element x)) → InOne e (flat_map expressions_in (map plain_element es))
in_one e [] k x l is h = absurd (omega (arith, l))
in_one e (y ∷ es) zero x l is h = in_front e (expressions_in (plain_element y)) (flat_map expressions_in (map plain_element es)) (subst (λ (z : Element). InOne e (expressions_in (plain_element z))) is h)
in_one e (y ∷ es) (suc k) x l is h = behind e (expressions_in (plain_element y)) (flat_map expressions_in (map plain_element es)) (in_one e es k x (omega (arith, l)) is h)

pub operand_stands : (t a : Tree) (p : Place) (ls : Links) (es : List Element) (k : ℕ) (x : Element) → k < length es → x ≡ slice_index_or es k x → plain_element x ≡ trans t → t ≡ chain p a ls → InOne a (flat_map expressions_in (map plain_element es))
operand_stands t a p ls es k x l is made shape =
    in_one a es k x l is (subst (λ (z : PlainElement). InOne a (expressions_in z)) (sym made) (inl (subst (λ (u : Tree). IsPart a u) (sym shape) (inr (inl (is_part_of_itself a))))))
