-- Pieces of printed commands, one behind the other.
use Rattle.std.proofs.Common.{◌≡◌, ℕ, List, [], ◌∷◌, ◌++◌, refl, sym, ap, ◌∙◌, append_assoc, append-nil}
use Rattle.moxi_term_print.specs.Shown.{Shown, Showns, no_showns, shown, joined, text_of, parts_text, lines_text}
use Rattle.moxi_term_print.specs.Terms.{symbol}
use Rattle.moxi_script_print.specs.Printing.{attribute, shown_command}

pub attribute_text : (name : List ℕ) (x : Shown) → parts_text (32 ∷ []) (attribute name x) ≡ 32 ∷ (58 ∷ (name ++ 32 ∷ text_of x))
unfolding attribute
attribute_text name x = ap (λ t. 32 ∷ (58 ∷ (name ++ 32 ∷ t))) (append-nil (text_of x))

pub joined_text : (xs ys : Showns) → parts_text (32 ∷ []) (joined xs ys) ≡ parts_text (32 ∷ []) xs ++ parts_text (32 ∷ []) ys
joined_text no_showns ys = refl
joined_text (shown x xs) ys = ap (λ t. 32 ∷ (text_of x ++ t)) (joined_text xs ys) ∙ ap (λ t. 32 ∷ t) (sym (append_assoc (text_of x) (parts_text (32 ∷ []) xs) (parts_text (32 ∷ []) ys)))

pub lines_joined : (xs ys : Showns) → lines_text (joined xs ys) ≡ lines_text xs ++ lines_text ys
lines_joined no_showns ys = refl
lines_joined (shown x xs) ys = ap (λ t. text_of x ++ 10 ∷ t) (lines_joined xs ys) ∙ sym (append_assoc (text_of x) (10 ∷ lines_text xs) (lines_text ys))

pub ruleset pieces = (attribute_text, joined_text, lines_joined, append_assoc, append-nil)

-- the line of a command without parts
pub logic_end : (old w name n : List ℕ) → n ≡ old ++ 40 ∷ (w ++ 32 ∷ text_of (symbol name)) → n ++ 41 ∷ (10 ∷ []) ≡ old ++ lines_text (shown (shown_command w name no_showns) no_showns)
logic_end old w name n e =
    let t : List ℕ = text_of (symbol name) in
    let inner : (w ++ 32 ∷ t) ++ 41 ∷ (10 ∷ []) ≡ ((w ++ 32 ∷ (t ++ [])) ++ 41 ∷ []) ++ 10 ∷ [] = plain_end w t in
    ap (λ z. z ++ 41 ∷ (10 ∷ [])) e ∙ append_assoc old (40 ∷ (w ++ 32 ∷ t)) (41 ∷ (10 ∷ [])) ∙ ap (λ z. old ++ 40 ∷ z) inner
  where
    plain_end : (w t : List ℕ) → (w ++ 32 ∷ t) ++ 41 ∷ (10 ∷ []) ≡ ((w ++ 32 ∷ (t ++ [])) ++ 41 ∷ []) ++ 10 ∷ []
    plain_end w t = simp (append_assoc, append-nil) refl

-- the end of a command with parts in three lists
pub system_end : (old w name : List ℕ) (xs ys zs : Showns) (n : List ℕ)
    → n ≡ old ++ ((((40 ∷ (w ++ 32 ∷ text_of (symbol name))) ++ parts_text (32 ∷ []) xs) ++ parts_text (32 ∷ []) ys) ++ parts_text (32 ∷ []) zs)
    → n ++ 41 ∷ [] ≡ old ++ text_of (shown_command w name (joined xs (joined ys zs)))
system_end old w name xs ys zs n e =
    let t : List ℕ = text_of (symbol name) in
    let p : List ℕ = parts_text (32 ∷ []) xs in
    let q : List ℕ = parts_text (32 ∷ []) ys in
    let r : List ℕ = parts_text (32 ∷ []) zs in
    let all : parts_text (32 ∷ []) (joined xs (joined ys zs)) ≡ p ++ (q ++ r) = joined_text xs (joined ys zs) ∙ ap (λ z. p ++ z) (joined_text ys zs) in
    ap (λ z. z ++ 41 ∷ []) e ∙ append_assoc old _ (41 ∷ []) ∙ ap (λ z. old ++ 40 ∷ z) (three_end w t p q r) ∙ sym (ap (λ z. old ++ 40 ∷ ((w ++ 32 ∷ (t ++ z)) ++ 41 ∷ [])) all)
  where
    three_end : (w t p q r : List ℕ) → ((((w ++ 32 ∷ t) ++ p) ++ q) ++ r) ++ 41 ∷ [] ≡ (w ++ 32 ∷ (t ++ (p ++ (q ++ r)))) ++ 41 ∷ []
    three_end w t p q r =
        let e : (((w ++ 32 ∷ t) ++ p) ++ q) ++ r ≡ w ++ 32 ∷ (t ++ (p ++ (q ++ r))) = simp append_assoc refl in
        ap (λ z. z ++ 41 ∷ []) e

-- and in two
pub check_end : (old w name : List ℕ) (xs ys : Showns) (n : List ℕ)
    → n ≡ old ++ (((40 ∷ (w ++ 32 ∷ text_of (symbol name))) ++ parts_text (32 ∷ []) xs) ++ parts_text (32 ∷ []) ys) → n ++ 41 ∷ [] ≡ old ++ text_of (shown_command w name (joined xs ys))
check_end old w name xs ys n e =
    let t : List ℕ = text_of (symbol name) in
    let p : List ℕ = parts_text (32 ∷ []) xs in
    let q : List ℕ = parts_text (32 ∷ []) ys in
    ap (λ z. z ++ 41 ∷ []) e ∙ append_assoc old _ (41 ∷ []) ∙ ap (λ z. old ++ 40 ∷ z) (two_end w t p q) ∙ sym (ap (λ z. old ++ 40 ∷ ((w ++ 32 ∷ (t ++ z)) ++ 41 ∷ [])) (joined_text xs ys))
  where
    two_end : (w t p q : List ℕ) → (((w ++ 32 ∷ t) ++ p) ++ q) ++ 41 ∷ [] ≡ (w ++ 32 ∷ (t ++ (p ++ q))) ++ 41 ∷ []
    two_end w t p q =
        let e : ((w ++ 32 ∷ t) ++ p) ++ q ≡ w ++ 32 ∷ (t ++ (p ++ q)) = simp append_assoc refl in
        ap (λ z. z ++ 41 ∷ []) e

-- the lines of five lists and one line more
pub script_end : (old : List ℕ) (a b c d e : Showns) (x : Shown) (n : List ℕ)
    → n ≡ old ++ (((((lines_text a ++ lines_text b) ++ lines_text c) ++ lines_text d) ++ lines_text e) ++ text_of x)
    → n ++ 10 ∷ [] ≡ old ++ lines_text (joined a (joined b (joined c (joined d (joined e (shown x no_showns))))))
script_end old a b c d e x n h =
    let f : lines_text (joined a (joined b (joined c (joined d (joined e (shown x no_showns)))))) ≡ lines_text a ++ (lines_text b ++ (lines_text c ++ (lines_text d ++ (lines_text e ++ (text_of x ++ 10 ∷ [])))))
    = lines_joined a _ ∙ ap (λ z. lines_text a ++ z) (lines_joined b _ ∙ ap (λ z. lines_text b ++ z) (lines_joined c _ ∙ ap (λ z. lines_text c ++ z) (lines_joined d _ ∙ ap (λ z. lines_text d ++ z) (lines_joined e (shown x no_showns))))) in
    ap (λ z. z ++ 10 ∷ []) h ∙ append_assoc old _ (10 ∷ []) ∙ ap (λ z. old ++ z) (six (lines_text a) (lines_text b) (lines_text c) (lines_text d) (lines_text e) (text_of x)) ∙ ap (λ z. old ++ z) (sym f)
  where
    six : (a b c d e x : List ℕ) → (((((a ++ b) ++ c) ++ d) ++ e) ++ x) ++ 10 ∷ [] ≡ a ++ (b ++ (c ++ (d ++ (e ++ (x ++ 10 ∷ [])))))
    six a b c d e x = simp append_assoc refl
