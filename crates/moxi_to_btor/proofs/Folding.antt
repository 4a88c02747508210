-- One step of what goes over a list of places.
use Rattle.std.proofs.Common.{◌≡◌, ℕ, List, [], ◌∷◌, ◌++◌, refl, ap, ◌∙◌, subst}
use Rattle.word_core.specs.declared.kinds.Binary.TheVariants as two
use Rattle.btor_tree.specs.declared.lines.Line.{Line}
use Rattle.moxi_terms.specs.declared.data.TermOp.TheVariants as op
use Rattle.moxi_lines.specs.TermLines.{AllBuilt, Built, implied_lines, with_implication, with_operator}
use Rattle.moxi_to_btor.specs.TermPutting.{CanImply, CanPutBinary, implied_onto}

same_cons : (x y : ℕ) (xs ys : List ℕ) → x ∷ xs ≡ y ∷ ys → (x ≡ y) × (xs ≡ ys)
same_cons x y xs ys e = (cc, cc)

nil_not_append : (xs : List ℕ) (x : ℕ) → [] ≡ xs ++ x ∷ [] → ⊥
nil_not_append [] x e = cc
nil_not_append (y ∷ xs) x e = cc

-- from the back
pub onto_last : (ps : List ℕ) (p : ℕ) (m : Built) → implied_onto (ps ++ p ∷ []) m ≡ implied_onto ps (with_implication p m)
onto_last [] p m = refl
onto_last (q ∷ ps) p m = ap (with_implication q) (onto_last ps p m)

pub imply_now : (ps : List ℕ) (p : ℕ) (m : Built) → CanImply (ps ++ p ∷ []) m → CanPutBinary two.Implies m.0 p m.1 × CanImply ps (with_implication p m)
imply_now [] p m c = (c.1, tt)
imply_now (q ∷ ps) p m c =
    let r = imply_now ps p m c.0 in
    (r.0, (r.1, subst (λ (z : Built). CanPutBinary two.Implies z.0 q z.1) (onto_last ps p m) c.1))

implied_cases : (lines : List Line) (before : List ℕ) (last p : ℕ) (ps : List ℕ) → p ∷ ps ≡ before ++ last ∷ [] → implied_lines lines p ps ≡ implied_onto before (lines, last)
implied_cases lines [] last p ps e =
    let h = same_cons p last ps [] e in
    ap (implied_lines lines p) h.1 ∙ ap (λ q. (lines, q)) h.0
implied_cases lines (q ∷ before) last p [] e = absurd (nil_not_append before last (same_cons p q [] (before ++ last ∷ []) e).1)
implied_cases lines (q ∷ before) last p (r ∷ ps) e =
    let h = same_cons p q (r ∷ ps) (before ++ last ∷ []) e in
    ap (λ q. with_implication q (implied_lines lines r ps)) h.0 ∙ ap (with_implication q) (implied_cases lines before last r ps h.1)

pub implied_is : (lines : List Line) (ps before : List ℕ) (last : ℕ) → ps ≡ before ++ last ∷ [] → with_operator op.Implies lines ps ≡ implied_onto before (lines, last)
implied_is lines [] before last e = absurd (nil_not_append before last e)
implied_is lines (p ∷ ps) before last e = implied_cases lines before last p ps e

-- what was put and what is left
abbrev pub put_with : List ℕ → AllBuilt → AllBuilt
put_with ps m = (m.0, ps ++ m.1)
