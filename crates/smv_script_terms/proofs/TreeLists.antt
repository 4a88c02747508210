-- Lists of terms, and what is made of their ends.
use Rattle.std.proofs.Common.{◌≡◌, ℕ, suc, ◌+◌, ◌<◌, ◌++◌, length, Bool, false, List, [], ◌∷◌, map, reverse, None, Vec, Global, refl, sym, ap, ◌∙◌, arith}
use Rattle.std.proofs.lemmas.List.{reverse-append}
use Rattle.smv_text.specs.declared.operators.Infix.TheVariants.{Implies}
use Rattle.moxi_terms.specs.declared.data.TermOp.{TermOp}
use Rattle.moxi_terms.specs.declared.term.Term.{Term, Apply}
use Rattle.moxi_terms.specs.Operators.{nothing}
use Rattle.word_core.specs.declared.kinds.Binary.TheVariants as OnWords
use Rattle.moxi_terms.specs.declared.data.TermOp.TheVariants as op
use Rattle.moxi_terms.specs.Tree.{Tree, constant, apply, binding, Trees, no_trees, tree, trees_of}
use Rattle.moxi_terms.specs.View.{plain}
use Rattle.moxi_terms.proofs.Plain.{plain-Apply}
use Rattle.smv_script.specs.Operators.{infix_term, counted_term, counted_terms, repeated, sum_term, t_and_u}
use Rattle.smv_script_terms.specs.declared.operands.Operand.{Operand}
use Rattle.smv_script_terms.specs.declared.operands.Case.{Case}
use Rattle.smv_script_terms.specs.Operands.{several, operand_plain, implied_parts, implied_end, case_plain, chosen_cases}
use Rattle.smv_script_terms.specs.Functions.{only_tree, pair_body, pair_term}
use Rattle.moxi_terms.specs.Applications.{one, choice_term}

-- ---- by how many there are

several_more : (o : TermOp) (empty : Bool) (ts : List Term) → 1 < length ts → several o empty (trees_of (map plain ts)) ≡ apply o (trees_of (map plain ts))
several_more o empty [] h = absurd (omega (arith, h))
several_more o empty (t ∷ []) h = absurd (omega (arith, h))
several_more o empty (t ∷ u ∷ ts) h = refl

pub several_are : (o : TermOp) (empty : Bool) (ts : Vec Term Global) → 1 < length ts.items → plain (Apply o ts) ≡ several o empty (trees_of (map plain ts.items))
several_are o empty ts h = plain-Apply o ts ∙ sym (several_more o empty ts.items h)

pub not_only : (ts : List Term) → (length ts ≡ 1 → ⊥) → None ≡ only_tree (trees_of (map plain ts))
not_only [] h = refl
not_only (t ∷ []) h = absurd (h refl)
not_only (t ∷ u ∷ ts) h = refl

pub no_pair : (k : ℕ) (lesser : Bool) (ts : List Term) → (length ts ≡ 2 → ⊥) → constant nothing ≡ pair_term k lesser (trees_of (map plain ts))
no_pair k lesser [] h = refl
no_pair k lesser (t ∷ []) h = refl
no_pair k lesser (t ∷ u ∷ []) h = absurd (h refl)
no_pair k lesser (t ∷ u ∷ v ∷ ts) h = refl

-- ---- from the end

pub once_more : (o : TermOp) (n : ℕ) (a : Tree) → repeated o (n + 1) a ≡ apply o (one (repeated o n a))
once_more o n a = ap (λ m. repeated o m a) (let e : n + 1 ≡ suc n = omega arith in e)

pub end_is : (a : Tree) (ps : List (Bool × Tree)) (p : Bool × Tree) → implied_parts a (ps ++ p ∷ []) ≡ implied_end a ps p.0 p.1
end_is a [] p = refl
end_is a (q ∷ ps) p = ap (infix_term Implies q.0 a) (end_is q.1 ps p)

pub end_before : (a : Tree) (ps : List (Bool × Tree)) (p : Bool × Tree) (words : Bool) (b : Tree) → implied_end a (ps ++ p ∷ []) words b ≡ implied_end a ps p.0 (infix_term Implies words p.1 b)
end_before a [] p words b = refl
end_before a (q ∷ ps) p words b = ap (infix_term Implies q.0 a) (end_before q.1 ps p words b)

map_last : {A B : Type 0} (f : A → B) (xs : List A) (x : A) → map f (xs ++ x ∷ []) ≡ map f xs ++ f x ∷ []
map_last f [] x = refl
map_last f (y ∷ xs) x = ap (λ ys. f y ∷ ys) (map_last f xs x)

-- the last operand is taken away
pub operand_taken : (a : Tree) (xs rest : List Operand) (x : Operand) (words : Bool) (b w : Tree) (total : Tree) → xs ≡ rest ++ x ∷ [] → w ≡ infix_term Implies words (plain x.term) b
    → implied_end a (map operand_plain xs) words b ≡ total → implied_end a (map operand_plain rest) x.words w ≡ total
operand_taken a xs rest x words b w total h e k =
    ap (implied_end a (map operand_plain rest) x.words) e ∙ sym (end_before a (map operand_plain rest) (operand_plain x) words b)
    ∙ ap (λ ps. implied_end a ps words b) (sym (ap (map operand_plain) h ∙ map_last operand_plain rest x)) ∙ k

pub operand_first : (a : Tree) (xs rest : List Operand) (x : Operand) → xs ≡ rest ++ x ∷ [] → implied_end a (map operand_plain rest) x.words (plain x.term) ≡ implied_parts a (map operand_plain xs)
operand_first a xs rest x h = sym (ap (implied_parts a) (ap (map operand_plain) h ∙ map_last operand_plain rest x) ∙ end_is a (map operand_plain rest) (operand_plain x))

case_end : (cs : List (Tree × Tree)) (c : Tree × Tree) (t : Tree) → chosen_cases (cs ++ c ∷ []) t ≡ chosen_cases cs (choice_term c.0 c.1 t)
case_end [] c t = refl
case_end (d ∷ cs) c t = ap (choice_term d.0 d.1) (case_end cs c t)

-- the last case is taken away
pub case_taken : (xs rest : List Case) (x : Case) (t u total : Tree) → xs ≡ rest ++ x ∷ [] → u ≡ choice_term (plain x.when) (plain x.value) t
    → chosen_cases (map case_plain xs) t ≡ total → chosen_cases (map case_plain rest) u ≡ total
case_taken xs rest x t u total h e k =
    ap (chosen_cases (map case_plain rest)) e ∙ sym (case_end (map case_plain rest) (case_plain x) t)
    ∙ ap (λ cs. chosen_cases cs t) (sym (ap (map case_plain) h ∙ map_last case_plain rest x)) ∙ k

-- ---- one by one

append_joined : {A : Type 0} (xs ys zs : List A) → (xs ++ ys) ++ zs ≡ xs ++ (ys ++ zs)
append_joined [] ys zs = refl
append_joined (x ∷ xs) ys zs = ap (λ vs. x ∷ vs) (append_joined xs ys zs)

-- the last of the reversed terms is taken away, and what is made of it put at the end
pub term_taken : (g : Tree → Tree) (all more xs rest : List Term) (x y : Term) (total : List Tree) → xs ≡ rest ++ x ∷ [] → more ≡ all ++ y ∷ [] → plain y ≡ g (plain x)
    → map plain all ++ map g (map plain (reverse xs)) ≡ total → map plain more ++ map g (map plain (reverse rest)) ≡ total
term_taken g all more xs rest x y total h made e k =
    ap (λ ts. map plain ts ++ map g (map plain (reverse rest))) made
    ∙ ap (λ ts. ts ++ map g (map plain (reverse rest))) (map_last plain all y)
    ∙ append_joined (map plain all) (plain y ∷ []) (map g (map plain (reverse rest)))
    ∙ ap (λ t. map plain all ++ t ∷ map g (map plain (reverse rest))) e
    ∙ ap (λ ts. map plain all ++ map g (map plain ts)) (sym (ap reverse h ∙ reverse-append rest (x ∷ [])))
    ∙ k

pub counted_are : (width : ℕ) (ts : List Tree) → trees_of (map (counted_term width) ts) ≡ counted_terms width (trees_of ts)
counted_are width [] = refl
counted_are width (t ∷ ts) = ap (tree (counted_term width t)) (counted_are width ts)

pub pair_is : (k : ℕ) (lesser : Bool) (ts : List Term) → length ts ≡ 2 → binding t_and_u (trees_of (map plain ts)) (pair_body k lesser) ≡ pair_term k lesser (trees_of (map plain ts))
pair_is k lesser [] h = absurd (omega (arith, h))
pair_is k lesser (t ∷ []) h = absurd (omega (arith, h))
pair_is k lesser (t ∷ u ∷ []) h = refl
pair_is k lesser (t ∷ u ∷ v ∷ ts) h = absurd (omega (arith, h))

pub sum_is : (ts : Trees) → several (op.BvBinary OnWords.Add) false ts ≡ sum_term ts
sum_is no_trees = refl
sum_is (tree a no_trees) = refl
sum_is (tree a (tree b ts)) = refl
