-- What stands for a constant line is a constant.
use Rattle.std.proofs.Common.{◌≡◌, ℕ, ◌<◌, true, List, [], take, Some, refl, sym, ap, subst, ◌∙◌, arith, inl, inr}
use Rattle.std.specs.Prelude.{slice_get}
use Rattle.std.proofs.lemmas.Option.{same_Some, slice_get-get_or}
use Rattle.std.proofs.lemmas.List.{length-take, get_or-take}
use Rattle.btor_tree.specs.declared.args.Arg.{Arg}
use Rattle.btor_tree.specs.declared.lines.Line.{Line}
use Rattle.btor_tree.specs.declared.lines.LineOp.{LineOp}
use Rattle.btor_tree.specs.declared.lines.LineOp.TheVariants as op
use Rattle.btor_tree.specs.Fits.{OpFits, is_constant}
use Rattle.btor_tree.specs.Sharing.{is_shared}
use Rattle.btor_tree.proofs.Grows.{slice_get_inside, inside_get}
use Rattle.btor_rules.specs.declared.operand.Outcome.{Outcome}
use Rattle.btor_rules.specs.declared.operand.Outcome.TheVariants.{Stays, Constant, Argument}
use Rattle.btor_rules.specs.Rules.{outcome}
use Rattle.btor_simplify.specs.declared.contents.Content.{Content}
use Rattle.btor_simplify.specs.Fates.{fate_at, replaced, place_by, Lives, operands_of, content_as_it_is, content_by, IsSharedFate, IsFateBy}
use Rattle.btor_simplify.specs.Marks.{AreKnown}
use Rattle.btor_simplify.specs.Written.{op_by}
use Rattle.btor_simplify.proofs.Steps.{replaced_line}

constant_shared : (o : LineOp) → is_constant o ≡ true → is_shared o ≡ true
constant_shared (op.Constant c) h = refl
constant_shared op.One h = refl
constant_shared op.Zero h = refl
constant_shared op.Ones h = refl
constant_shared o h = absurd (cc)

constant_args : (before : List Line) (s : ℕ) (o : LineOp) (args : List Arg) → is_constant o ≡ true → OpFits before s o args → args ≡ []
constant_args before s (op.Constant c) args h f = f.2
constant_args before s op.One args h f = f.1
constant_args before s op.Zero args h f = f.1
constant_args before s op.Ones args h f = f.1
constant_args before s o args h f = absurd (cc)

constant_kind : (lines : List Line) (fates : List Outcome) (o : LineOp) (s : ℕ) (args : List Arg) → is_constant o ≡ true → (content_as_it_is lines fates o s args).kind ≡ 2
constant_kind lines fates (op.Constant c) s args h = refl
constant_kind lines fates op.One s args h = refl
constant_kind lines fates op.Zero s args h = refl
constant_kind lines fates op.Ones s args h = refl
constant_kind lines fates o s args h = absurd (cc)

kind_two : (lines : List Line) (fates : List Outcome) (o : LineOp) (s : ℕ) (args : List Arg) → (content_as_it_is lines fates o s args).kind ≡ 2 → is_constant o ≡ true
kind_two lines fates (op.Constant c) s args h = refl
kind_two lines fates op.One s args h = refl
kind_two lines fates op.Zero s args h = refl
kind_two lines fates op.Ones s args h = refl
kind_two lines fates o s args h = absurd (omega (arith, h))

live_constant : (lines : List Line) (fates : List Outcome) (f : Outcome) (l : Line) → Lives f → (content_by lines fates f l).kind ≡ 2 → is_constant (op_by f l.op) ≡ true
live_constant lines fates Stays l v h = kind_two lines fates l.op l.sort l.args h
live_constant lines fates (Constant c) l v h = refl
live_constant lines fates (Argument b) l v h = absurd v

fate_from : (fates : List Outcome) (i : ℕ) (f : Outcome) → slice_get fates i ≡ Some f → fate_at fates i ≡ f
fate_from fates i f e = same_Some _ f (sym (slice_get-get_or fates i Stays (slice_get_inside fates i f e)) ∙ e)

module _ (lines : List Line) (fates : List Outcome) (k : AreKnown lines fates) (a : Arg) (l : Line) (at : slice_get lines a.line ≡ Some l) (c : is_constant l.op ≡ true) where
  f_at : (f : Outcome) × (slice_get fates a.line ≡ Some f)
  f_at = inside_get fates a.line (omega (arith, k.sized, slice_get_inside lines a.line l at))

  none_out : outcome l.op (operands_of lines (take a.line fates) l.args) ≡ Stays
  none_out = ap (λ more. outcome l.op (operands_of lines (take a.line fates) more)) (constant_args (take a.line lines) l.sort l.op l.args c (k.well_formed.by_line a.line l at).body.sorts)

  shared : IsSharedFate lines (take a.line fates) (content_by lines (take a.line fates) Stays l) Stays f_at.0
  shared = subst (λ out. IsFateBy lines (take a.line fates) l out f_at.0) none_out ((k.known.by_line a.line l f_at.0 at f_at.1).1 (constant_shared l.op c))

  pub constant_moves : (m : Line) → slice_get lines (replaced fates a).line ≡ Some m → is_constant (op_by (fate_at fates (replaced fates a).line) m.op) ≡ true
  constant_moves m atm =
      elim shared [
        | inl s ↦
            let p = s.0 in
            let says = s.1 in
            let here : (replaced fates a).line ≡ p = replaced_line fates a ∙ ap (λ f. place_by f a.line) (fate_from fates a.line f_at.0 f_at.1 ∙ s.2) in
            let one : says.line ≡ m = same_Some says.line m (sym says.at ∙ ap (slice_get lines) (sym here) ∙ atm) in
            let lt : p < a.line = omega (arith, says.there, length-take a.line fates) in
            let same : fate_at (take a.line fates) p ≡ fate_at fates p = get_or-take a.line fates p Stays lt in
            let kind = ap (λ (x : Content). x.kind) says.says ∙ constant_kind lines (take a.line fates) l.op l.sort l.args c in
            let done = live_constant lines (take p (take a.line fates)) (fate_at (take a.line fates) p) says.line says.lives kind in
            ap (λ n. is_constant (op_by (fate_at fates n) m.op)) here ∙ ap (λ f. is_constant (op_by f m.op)) (sym same) ∙ ap (λ (x : Line). is_constant (op_by (fate_at (take a.line fates) p) x.op)) (sym one) ∙ done
        | inr s ↦
            let f = fate_from fates a.line f_at.0 f_at.1 ∙ s.0 in
            let here : (replaced fates a).line ≡ a.line = replaced_line fates a ∙ ap (λ g. place_by g a.line) f in
            let one : l ≡ m = same_Some l m (sym at ∙ ap (slice_get lines) (sym here) ∙ atm) in
            ap (λ n. is_constant (op_by (fate_at fates n) m.op)) here ∙ ap (λ g. is_constant (op_by g m.op)) f ∙ ap (λ (x : Line). is_constant x.op) (sym one) ∙ c
      ]
