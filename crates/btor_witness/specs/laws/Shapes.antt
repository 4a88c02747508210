-- What the parts of a line spell is what is read from their front.
use Rattle.std.proofs.Common.{◌≡◌, ℕ, true, false, eqb, List, [], ◌∷◌, length, Option, Some, None, refl, sym, ap, ◌∙◌, subst}
use Rattle.std.specs.Prelude.{codes, is_some}
use Rattle.std.specs.Str.{bytes_eq}
use Rattle.std.proofs.lemmas.Slice.Eq.{bytes_eq-Decides}
use Rattle.std.proofs.lemmas.Bool.{cond_both, cond-true, eqb-true}
use Rattle.word_core.specs.Digits.{digits_value, read_word}
use Rattle.btor_tree.specs.Parts.{Parts, numeral}
use Rattle.btor_tree.specs.Shapes.{symbol_parts}
use Rattle.btor_witness.specs.declared.shape.Shape.{Shape}
use Rattle.btor_witness.specs.declared.shape.Shape.TheVariants.{Sat, Property, Justice, States, Inputs, End, Assignment}
use Rattle.btor_witness.specs.Bytes.{all_binary, word_of}
use Rattle.btor_witness.specs.Shapes.{IsMarked, Spells, marked, on_number, number_shape, single_shape, assignment_shape, shape_of}
use Rattle.btor_witness.specs.laws.Binary.{binary_tested, binary_word}

assigned : (index : List ℕ) (b : ℕ) (bs : List ℕ) (symbol : Option (List ℕ)) (i : ℕ) → numeral index ≡ Some i → all_binary (b ∷ bs) ≡ true
    → shape_of (index ∷ (b ∷ bs) ∷ symbol_parts symbol) ≡ Some (Assignment i (word_of (b ∷ bs)))
assigned index b bs None i e f = ap (λ o. assignment_shape o (b ∷ bs)) e ∙ cond-true (all_binary (b ∷ bs)) _ _ f
assigned index b bs (Some s) i e f = ap (λ o. assignment_shape o (b ∷ bs)) e ∙ cond-true (all_binary (b ∷ bs)) _ _ f

pub shape_reads : (shape : Shape) (ps : Parts) → Spells shape ps → shape_of ps ≡ Some shape
shape_reads Sat ps h = ap shape_of h
shape_reads (Property n) ps h = ap shape_of h.1 ∙ ap (on_number 98) h.2
shape_reads (Justice n) ps h = ap shape_of h.1 ∙ ap (on_number 106) h.2
shape_reads (States n) ps h = ap shape_of h.1 ∙ ap (on_number 35) h.2
shape_reads (Inputs n) ps h = ap shape_of h.1 ∙ ap (on_number 64) h.2
shape_reads End ps h = ap shape_of h
shape_reads (Assignment i word) ps h = ap shape_of h.3 ∙ from h.1 h.5 h.6 where
  from : (digits : List ℕ) → is_some (digits_value 2 digits) ≡ true → word ≡ read_word (length digits) 2 digits → shape_of (h.0 ∷ digits ∷ symbol_parts h.2) ≡ Some (Assignment i word)
  from [] t e = absurd (let f : false ≡ true = t in cc)
  from (b ∷ bs) t e =
      let binary = sym (binary_tested b bs) ∙ t in
      assigned h.0 b bs h.2 i h.4 binary ∙ ap (λ w. Some (Assignment i w)) (sym (e ∙ binary_word b bs binary))

-- and the other way round
abbrev OnShape : Parts → Option Shape → Type 0
OnShape ps None = Unit {0}
OnShape ps (Some shape) = Spells shape ps

same_bytes : (xs ys : List ℕ) → bytes_eq xs ys ≡ true → xs ≡ ys
same_bytes xs ys e = (bytes_eq-Decides xs ys).0 e

marked_is : (b mark n : ℕ) (digits : List ℕ) → eqb b mark ≡ true → numeral digits ≡ Some n → IsMarked mark n ((b ∷ digits) ∷ [])
marked_is b mark n digits e f = (digits, ap (λ x. (x ∷ digits) ∷ []) (eqb-true b mark e), f)

marked_from : (b n : ℕ) (digits : List ℕ) → numeral digits ≡ Some n → OnShape ((b ∷ digits) ∷ []) (marked b n)
marked_from b n digits e =
    let P = OnShape ((b ∷ digits) ∷ []) in
    cond_both (eqb b 98) _ _ P (λ t. marked_is b 98 n digits t e) (λ _.
    cond_both (eqb b 106) _ _ P (λ t. marked_is b 106 n digits t e) (λ _.
    cond_both (eqb b 35) _ _ P (λ t. marked_is b 35 n digits t e) (λ _.
    cond_both (eqb b 64) (Some (Inputs n)) None P (λ t. marked_is b 64 n digits t e) (λ _. tt))))

number_from : (b : ℕ) (digits : List ℕ) (o : Option ℕ) → numeral digits ≡ o → OnShape ((b ∷ digits) ∷ []) (on_number b o)
number_from b digits None e = tt
number_from b digits (Some n) e = marked_from b n digits e

part_from : (part : List ℕ) → OnShape (part ∷ []) (number_shape part)
part_from [] = tt
part_from (b ∷ digits) = number_from b digits (numeral digits) refl

single_from : (part : List ℕ) → OnShape (part ∷ []) (single_shape part)
single_from part =
    let P = OnShape (part ∷ []) in
    cond_both (bytes_eq part (codes "sat")) _ _ P (λ t. ap (λ x. x ∷ []) (same_bytes _ _ t)) (λ _.
    cond_both (bytes_eq part (codes ".")) _ _ P (λ t. ap (λ x. x ∷ []) (same_bytes _ _ t)) (λ _. part_from part))

assignment_from : (index digits : List ℕ) (symbol : Option (List ℕ)) (o : Option ℕ) → numeral index ≡ o → OnShape (index ∷ digits ∷ symbol_parts symbol) (assignment_shape o digits)
assignment_from index digits symbol None e = tt
assignment_from index [] symbol (Some i) e = tt
assignment_from index (b ∷ bs) symbol (Some i) e =
    cond_both (all_binary (b ∷ bs)) (Some (Assignment i (word_of (b ∷ bs)))) None (OnShape (index ∷ (b ∷ bs) ∷ symbol_parts symbol))
    (λ t. (index, b ∷ bs, symbol, refl, e, binary_tested b bs ∙ t, sym (binary_word b bs t))) (λ _. tt)

shape_there : (ps : Parts) → OnShape ps (shape_of ps)
shape_there [] = tt
shape_there (part ∷ []) = single_from part
shape_there (index ∷ digits ∷ []) = assignment_from index digits None (numeral index) refl
shape_there (index ∷ digits ∷ symbol ∷ []) = assignment_from index digits (Some symbol) (numeral index) refl
shape_there (index ∷ digits ∷ symbol ∷ p ∷ ps) = tt

pub shape_from : (shape : Shape) (ps : Parts) → shape_of ps ≡ Some shape → Spells shape ps
shape_from shape ps e = subst (OnShape ps) e (shape_there ps)
