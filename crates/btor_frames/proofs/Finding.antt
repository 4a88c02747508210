-- What is found in the lines.
use Rattle.std.proofs.Common.{◌≡◌, ℕ, suc, ◌+◌, ◌≤◌, Bool, true, false, cond, eqb, List, [], ◌∷◌, ◌++◌, length, take, get_or, set, Option, Some, None, refl, sym, ap, ◌∙◌, subst, arith, inl, inr}
use Rattle.std.specs.Prelude.{slice_get}
use Rattle.std.specs.Option.{option_or}
use Rattle.std.proofs.lemmas.Bool.{eq-eqb, ne_eqb, cases_eq}
use Rattle.std.proofs.lemmas.List.{get_or-set_same, get_or-set_other, length-set, length-take-le}
use Rattle.btor_tree.specs.declared.args.Arg.{Arg}
use Rattle.btor_tree.specs.declared.lines.Line.{Line}
use Rattle.btor_tree.specs.declared.lines.LineOp.{LineOp}
use Rattle.btor_tree.specs.Fits.{AreEarlier, IsWellFormed, state_value, value_for, value_in}
use Rattle.btor_tree.proofs.Grows.{slice_get_inside, take_push}
use Rattle.btor_tree.proofs.Paths.{state_value_append}
use Rattle.btor_frames.specs.Tables.{noted}
use Rattle.btor_tree.proofs.Sorts.{or_none}

pub earlier_more : (n m : ℕ) (args : List Arg) → n ≤ m → AreEarlier n args → AreEarlier m args
earlier_more n m [] h e = tt
earlier_more n m (a ∷ more) h e = (omega (arith, e.0), earlier_more n m more h e.1)

-- the arguments of a line are before it, inside the list
pub earlier_inside : (lines : List Line) (i : ℕ) (l : Line) (n : ℕ) → IsWellFormed lines → slice_get lines i ≡ Some l → n ≡ length lines → AreEarlier n l.args
earlier_inside lines i l n w g e =
    let inside = slice_get_inside lines i l g in
    earlier_more (length (take i lines)) n l.args (omega (arith, e, inside, length-take-le i lines (omega arith))) (w.by_line i l g).body.earlier

noted_at : (values : List (Option Arg)) (args : List Arg) (s : ℕ) → AreEarlier (length values) args → get_or (noted values args) s None ≡ option_or (get_or values s None) (value_for args s)
noted_at values [] s h = or_none (get_or values s None)
noted_at values (x ∷ []) s h = or_none (get_or values s None)
noted_at values (x ∷ v ∷ []) s h =
    elim (cases_eq s x.line) [
      | inl e ↦
          subst (λ u. get_or (set values x.line (option_or (get_or values x.line None) (Some v))) u None ≡ option_or (get_or values u None) (cond (eqb x.line u) (Some v) None)) (sym e)
          (get_or-set_same values x.line (option_or (get_or values x.line None) (Some v)) None h.0
          ∙ ap (λ b. option_or (get_or values x.line None) (cond b (Some v) None)) (sym (eq-eqb x.line x.line refl)))
      | inr d ↦
          get_or-set_other values x.line s (option_or (get_or values x.line None) (Some v)) None d
          ∙ or_none (get_or values s None)
          ∙ ap (λ b. option_or (get_or values s None) (cond b (Some v) None)) (sym (ne_eqb x.line s (λ same. d (sym same))))
    ]
noted_at values (x ∷ v ∷ y ∷ more) s h = or_none (get_or values s None)

noted_long : (values : List (Option Arg)) (args : List Arg) → length (noted values args) ≡ length values
noted_long values [] = refl
noted_long values (x ∷ []) = refl
noted_long values (x ∷ v ∷ []) = length-set values x.line (option_or (get_or values x.line None) (Some v))
noted_long values (x ∷ v ∷ y ∷ more) = refl

-- the values after a line that may be of the kind
abbrev pub after_line : Bool → List (Option Arg) → List Arg → List (Option Arg)
after_line b values args = cond b (noted values args) values

after_long : (b : Bool) (values : List (Option Arg)) (args : List Arg) → length (after_line b values args) ≡ length values
after_long true values args = noted_long values args
after_long false values args = refl

after_at : (b : Bool) (values : List (Option Arg)) (args : List Arg) (s : ℕ) → AreEarlier (length values) args → get_or (after_line b values args) s None ≡ option_or (get_or values s None) (cond b (value_for args s) None)
after_at true values args s h = noted_at values args s h
after_at false values args s h = or_none (get_or values s None)

take_next : {X : Type 0} (xs : List X) (n : ℕ) (x : X) → slice_get xs n ≡ Some x → take (n + 1) xs ≡ take n xs ++ x ∷ []
take_next xs n x h = let e : n + 1 ≡ suc n = omega arith in ap (λ m. take m xs) e ∙ take_push xs n x h

-- the values of the lines so far
pub record HoldsSoFar (kind : LineOp → Bool) (lines : List Line) (i : ℕ) (values : List (Option Arg)) : Type 0 where
  pub sized : length values ≡ length lines
  pub at : (s : ℕ) → get_or values s None ≡ state_value kind (take i lines) s

pub values_step : (kind : LineOp → Bool) (lines : List Line) (i : ℕ) (l : Line) (values new : List (Option Arg)) → IsWellFormed lines → slice_get lines i ≡ Some l → HoldsSoFar kind lines i values → new ≡ after_line (kind l.op) values l.args → HoldsSoFar kind lines (i + 1) new
values_step kind lines i l values new w g h e =
    record {
      sized = ap length e ∙ after_long (kind l.op) values l.args ∙ h.sized;
      at = λ s.
          ap (λ v. get_or v s None) e
          ∙ after_at (kind l.op) values l.args s (earlier_inside lines i l (length values) w g h.sized)
          ∙ ap (λ o. option_or o (value_in kind l s)) (h.at s)
          ∙ ap (option_or (state_value kind (take i lines) s)) (or_none (value_in kind l s))
          ∙ sym (state_value_append kind (take i lines) (l ∷ []) s)
          ∙ sym (ap (λ ls. state_value kind ls s) (take_next lines i l g));
    }
