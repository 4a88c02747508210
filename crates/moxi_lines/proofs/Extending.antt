-- Lines with any lines behind them keep what is in them.
use Rattle.std.proofs.Common.{◌≡◌, ℕ, ◌<◌, ◌≤◌, Bool, true, false, cond, List, [], ◌∷◌, ◌++◌, length, refl, sym, ap, ◌∙◌, subst, arith, append_assoc, None}
use Rattle.std.specs.List.{AllByRecursion}
use Rattle.std.proofs.lemmas.List.{append-nil, length-append}
use Rattle.word_core.specs.Words.{BitVector}
use Rattle.btor_tree.specs.declared.args.Arg.{Arg}
use Rattle.btor_tree.specs.declared.lines.Line.{Line}
use Rattle.btor_tree.specs.declared.lines.LineOp.{LineOp}
use Rattle.btor_tree.specs.declared.lines.LineOp.TheVariants as line
use Rattle.btor_tree.specs.Fits.{Suits, greatest_id, is_constraint, operands, plain_arg, width_at}
use Rattle.btor_tree.specs.Frame.{ConstraintsHold, Meets, operand, true_word, word_at}
use Rattle.btor_tree.specs.Sharing.{GrowsByShared, is_shared}
use Rattle.btor_tree.proofs.Grows.{meets_front}
use Rattle.btor_tree.proofs.Widths.{width_front}
use Rattle.btor_tree.proofs.Paths.{operands_append}
use Rattle.btor_tree.proofs.Equations.{pushed_fit}
use Rattle.moxi_terms.specs.declared.data.Sort.{Sort}
use Rattle.moxi_terms.specs.declared.data.Datum.{Datum}
use Rattle.moxi_terms.specs.declared.term.Enumeration.{Enumeration}
use Rattle.moxi_terms.specs.Value.{Values}
use Rattle.moxi_lines.specs.Codes.{sort_bits}
use Rattle.moxi_lines.specs.TermLines.{Built}
use Rattle.moxi_lines.specs.TermLaws.{AreNumbered, Represents, VariablesAreRepresented}
use Rattle.moxi_lines.proofs.Growing.{wide_inside}
use Rattle.moxi_lines.specs.Lines.{with_constraint}

pub record Extends (old new : List Line) : Type 0 where
  pub more : List Line
  pub is : new ≡ old ++ more

pub extends_none : (lines : List Line) → Extends lines lines
extends_none lines = record { more = []; is = sym (append-nil lines) }

pub extends_then : (a b c : List Line) → Extends a b → Extends b c → Extends a c
extends_then a b c g h = record { more = g.more ++ h.more; is = h.is ∙ ap (λ ls. ls ++ h.more) g.is ∙ append_assoc a g.more h.more }

pub quietly : (a b : List Line) → GrowsByShared a b → Extends a b
quietly a b g = record { more = g.0; is = g.1 }

pub extends_long : (a b : List Line) → Extends a b → length a ≤ length b
extends_long a b g = omega (arith, ap length g.is, length-append a g.more)

pub extends_width : (a b : List Line) (p w : ℕ) → 1 ≤ w → Extends a b → width_at a p ≡ w → width_at b p ≡ w
extends_width a b p w h g e = ap (λ ls. width_at ls p) g.is ∙ width_front a g.more p (subst (λ n. 1 ≤ n) (sym e) h) ∙ e

pub extends_meets : (a b : List Line) (row : List BitVector) → Extends a b → Meets b row → Meets a row
extends_meets a b row g m = meets_front a g.more row (subst (λ ls. Meets ls row) g.is m)

pub extends_stands : (es : List Enumeration) (row : List BitVector) (known : Bool) (a b : List Line) (p : ℕ) (s : Sort) (d : Datum) → Extends a b → Represents es row known a p s d → Represents es row known b p s d
extends_stands es row known a b p s d g x =
    record { wide = x.wide; width = extends_width a b p (sort_bits es s) x.wide g x.width; word = λ k m. x.word k (extends_meets a b row g m) }

pub extends_variables : (es : List Enumeration) (row : List BitVector) (known : Bool) (a b : List Line) (vars : List Sort) (places : ℕ → ℕ) (values : Values) → Extends a b
    → VariablesAreRepresented es row known a vars places values → VariablesAreRepresented es row known b vars places values
extends_variables es row known a b vars places values g x =
    record { sorted = x.sorted; each = λ v s h. extends_stands es row known a b (places v) s (values v) g (x.each v s h) }

-- ---- constraints

no_constraint : (o : LineOp) → is_shared o ≡ true → is_constraint o ≡ false
no_constraint line.Constraint h = absurd (cc)
no_constraint o h = refl

quiet_operands : (more : List Line) → AllByRecursion (λ l. is_shared l.op ≡ true) more → operands is_constraint more ≡ []
quiet_operands [] a = refl
quiet_operands (l ∷ more) a =
    ap (λ b. cond b l.args [] ++ operands is_constraint more) (no_constraint l.op a.0) ∙ quiet_operands more a.1

pub quiet_constraints : (a b : List Line) → GrowsByShared a b → operands is_constraint b ≡ operands is_constraint a
quiet_constraints a b g =
    ap (operands is_constraint) g.1 ∙ operands_append is_constraint a g.0 ∙ ap (λ z. operands is_constraint a ++ z) (quiet_operands g.0 g.2) ∙ append-nil (operands is_constraint a)

pub all_both : {X : Type 0} (P : X → Type 0) (xs ys : List X) → AllByRecursion P xs → AllByRecursion P ys → AllByRecursion P (xs ++ ys)
all_both P [] ys a b = b
all_both P (x ∷ xs) ys a b = (a.0, all_both P xs ys a.1 b)

pub all_first : {X : Type 0} (P : X → Type 0) (xs ys : List X) → AllByRecursion P (xs ++ ys) → AllByRecursion P xs
all_first P [] ys a = tt
all_first P (x ∷ xs) ys a = (a.0, all_first P xs ys a.1)

pub all_second : {X : Type 0} (P : X → Type 0) (xs ys : List X) → AllByRecursion P (xs ++ ys) → AllByRecursion P ys
all_second P [] ys a = a
all_second P (x ∷ xs) ys a = all_second P xs ys a.1

-- one constraint more
pub record Pushed (row : List BitVector) (lines : List Line) (m : Built) : Type 0 where
  pub numbered : AreNumbered (with_constraint m)
  pub extends : Extends m.0 (with_constraint m)
  pub held : ConstraintsHold (with_constraint m) row → ConstraintsHold lines row × (word_at row m.1 ≡ true_word)
  pub holds : ConstraintsHold lines row → word_at row m.1 ≡ true_word → ConstraintsHold (with_constraint m) row

pub constraint_push : (row : List BitVector) (lines : List Line) (m : Built) → GrowsByShared lines m.0 → AreNumbered m.0 → width_at m.0 m.1 ≡ 1 → length m.0 < greatest_id → Pushed row lines m
constraint_push row lines m g n w room =
    let arg = plain_arg m.1 in
    let P = λ (a : Arg). operand row a ≡ true_word in
    let suits : Suits m.0 line.Constraint 0 (arg ∷ []) None = record { earlier = (wide_inside m.0 m.1 1 (omega arith) w, tt); sorts = (refl, w); symbol = tt } in
    let fits = pushed_fit m.0 line.Constraint 0 (arg ∷ []) None n.fit n.ids room suits in
    let all : operands is_constraint (with_constraint m) ≡ operands is_constraint lines ++ arg ∷ [] =
    operands_append is_constraint m.0 _ ∙ ap (λ z. z ++ arg ∷ []) (quiet_constraints lines m.0 g) in
    record {
      numbered = record { fit = fits.0; ids = fits.1 };
      extends = record { more = _; is = refl };
      held = λ h.
          let a = subst (AllByRecursion P) all h in (all_first P (operands is_constraint lines) (arg ∷ []) a, (all_second P (operands is_constraint lines) (arg ∷ []) a).0);
      holds = λ h e. subst (AllByRecursion P) (sym all) (all_both P (operands is_constraint lines) (arg ∷ []) h (e, tt));
    }
