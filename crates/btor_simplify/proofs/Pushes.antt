-- One fate more.
use Rattle.std.proofs.Common.{◌≡◌, ℕ, ◌+◌, ◌≤◌, List, [], ◌∷◌, ◌++◌, length, take, Some, None, sym, ap, subst, ◌∙◌, arith, inl, inr}
use Rattle.std.specs.Prelude.{slice_get}
use Rattle.std.specs.BTreeMap.{BTreeMap, get}
use Rattle.std.proofs.lemmas.Bool.{cases_lt}
use Rattle.std.proofs.lemmas.List.{length_push, take_all}
use Rattle.std.proofs.lemmas.Option.{same_Some, none-some}
use Rattle.btor_tree.specs.declared.lines.Line.{Line}
use Rattle.btor_tree.proofs.Grows.{push_cases}
use Rattle.btor_rules.specs.declared.operand.Outcome.{Outcome}
use Rattle.btor_rules.specs.declared.operand.Outcome.TheVariants.{Stays, Constant, Argument}
use Rattle.btor_simplify.specs.declared.contents.Content.{Content}
use Rattle.btor_simplify.specs.Contents.{content_cmp}
use Rattle.btor_simplify.specs.Fates.{fate_at, Lives, IsFate, KeepsWidth, AreFates, HasContents}
use Rattle.btor_simplify.proofs.Sharing.{fate_before, fate_here, front}

module _ (lines : List Line) (fates : List Outcome) (f : Outcome) where
  keeps_more : (i : ℕ) (g : Outcome) → i ≤ length fates → KeepsWidth lines fates i g → KeepsWidth lines (fates ++ f ∷ []) i g
  keeps_more i Stays h k = tt
  keeps_more i (Constant c) h k = k
  keeps_more i (Argument b) h k = (k.0, subst Lives (sym (fate_before lines fates f b.line (omega (arith, k.0, h)))) k.1, k.2, k.3)

  pub fates_push : (l : Line) → AreFates lines fates → slice_get lines (length fates) ≡ Some l → IsFate lines fates l f → KeepsWidth lines fates (length fates) f → AreFates lines (fates ++ f ∷ [])
  fates_push l known at fate keeps =
      record {
        by_line = λ i m g h e. elim (push_cases fates f i g e) [
          | inl a ↦ let le : i ≤ length fates = omega (arith, a.0) in subst (λ fs. IsFate lines fs m g) (sym (front lines fates f i le)) (known.by_line i m g h a.1)
          | inr a ↦
              let whole : take i (fates ++ f ∷ []) ≡ fates = ap (λ n. take n (fates ++ f ∷ [])) a.0 ∙ front lines fates f (length fates) (omega arith) ∙ take_all (length fates) fates (omega arith) in
              let one : l ≡ m = same_Some l m (sym at ∙ ap (slice_get lines) (sym a.0) ∙ h) in
              subst (λ fs. IsFate lines fs m g) (sym whole) (subst (λ k. IsFate lines fates k g) one (subst (λ k. IsFate lines fates l k) a.1 fate))
        ];
        widths = λ i h. elim (cases_lt i (length fates)) [
          | inl lt ↦ let le : i ≤ length fates = omega (arith, lt) in subst (KeepsWidth lines (fates ++ f ∷ []) i) (sym (fate_before lines fates f i lt)) (keeps_more i (fate_at fates i) le (known.widths i lt))
          | inr ge ↦
              let same : i ≡ length fates = omega (arith, ge, h, length_push fates f) in
              let here : fate_at (fates ++ f ∷ []) i ≡ f = ap (fate_at (fates ++ f ∷ [])) same ∙ fate_here lines fates f in
              subst (KeepsWidth lines (fates ++ f ∷ []) i) (sym here) (keeps_more i f (omega (arith, same)) (subst (λ n. KeepsWidth lines fates n f) (sym same) keeps))
        ];
      }

pub no_fates : (lines : List Line) → AreFates lines []
no_fates lines = record { by_line = λ i l f h e. absurd (none-some f e); widths = λ i h. absurd (omega (arith, h)) }

pub no_contents : (lines : List Line) (places : BTreeMap Content ℕ) → ((k : Content) → get content_cmp places k ≡ None) → HasContents lines [] places
no_contents lines places h =
    record { found = λ k p e. absurd (none-some p (sym (h k) ∙ e)); missing = λ k e p s. absurd (omega (arith, s.there)) }

pub one_longer : {X : Type 0} (xs : List X) (x : X) (n : ℕ) → length xs ≡ n → length (xs ++ x ∷ []) ≡ n + 1
one_longer xs x n e = omega (arith, length_push xs x, e)
