-- The words that are in the term of a line exist.
use Rattle.std.proofs.Common.{◌≡◌, ℕ, ◌≤◌, true, List, [], ◌∷◌, take, drop, Some, sym, ap, ◌∙◌, arith}
use Rattle.std.specs.Prelude.{slice_get}
use Rattle.std.proofs.lemmas.List.{take-append-drop}
use Rattle.std.proofs.Math.Nat.{one-le-pow}
use Rattle.word_core.specs.Words.{IsWord}
use Rattle.btor_tree.specs.declared.args.Arg.{Arg}
use Rattle.btor_tree.specs.declared.lines.Line.{Line}
use Rattle.btor_tree.specs.declared.lines.LineOp.{LineOp}
use Rattle.btor_tree.specs.declared.lines.LineOp.TheVariants as line
use Rattle.btor_tree.specs.Fits.{IsWellFormed, OpFits, sort_at, width_at}
use Rattle.btor_tree.proofs.Widths.{one_lt, sort_front, sort_small, width_front, width_small}
use Rattle.btor_import.specs.Script.{is_local}
use Rattle.btor_import.specs.Widths.{HasOperandWidth, IsWidth}

pub zero_fits : (w : ℕ) → IsWidth w → IsWord (record { width = w; bits = 0 })
zero_fits w h = (h.0, h.1, one-le-pow w 2 (omega arith))

pub one_fits : (w : ℕ) → IsWidth w → IsWord (record { width = w; bits = 1 })
one_fits w h = (h.0, h.1, one_lt w h.0)

module _ (lines : List Line) (well : IsWellFormed lines) (i : ℕ) where
  sort_wide : (s : ℕ) → 1 ≤ sort_at (take i lines) s → IsWidth (sort_at lines s)
  sort_wide s h =
      let e : sort_at lines s ≡ sort_at (take i lines) s = ap (λ ls. sort_at ls s) (sym (take-append-drop i lines)) ∙ sort_front (take i lines) (drop i lines) s h in
      (omega (arith, e, h), sort_small lines s well)

  width_wide : (k : ℕ) → 1 ≤ width_at (take i lines) k → IsWidth (width_at lines k)
  width_wide k h =
      let e : width_at lines k ≡ width_at (take i lines) k = ap (λ ls. width_at ls k) (sym (take-append-drop i lines)) ∙ width_front (take i lines) (drop i lines) k h in
      (omega (arith, e, h), width_small lines k well)

  sort_fits : (s : ℕ) (o : LineOp) (args : List Arg) → OpFits (take i lines) s o args → is_local o ≡ true → 1 ≤ sort_at (take i lines) s
  sort_fits s (line.Constant c) args f h = let e = f.1 in let k = f.0.0 in omega (arith, e, k)
  sort_fits s line.One args f h = f.0
  sort_fits s line.Zero args f h = f.0
  sort_fits s line.Ones args f h = f.0
  sort_fits s (line.Unary o) args f h = f.0
  sort_fits s (line.Binary o) args f h = f.0
  sort_fits s line.Ite args f h = f.0
  sort_fits s (line.Slice high low) args f h = f.0
  sort_fits s (line.Uext n) args f h = f.0
  sort_fits s (line.Sext n) args f h = f.0
  sort_fits s o args f h = absurd (cc)

  operand_fits : (s : ℕ) (o : LineOp) (args : List Arg) → OpFits (take i lines) s o args → HasOperandWidth (width_at lines) o args
  operand_fits s (line.Unary o) (a ∷ []) f = width_wide a.line f.1.0
  operand_fits s (line.Unary o) [] f = absurd f.1
  operand_fits s (line.Unary o) (a ∷ b ∷ args) f = absurd f.1
  operand_fits s o args f = tt

  pub sort_of_local : (l : Line) → slice_get lines i ≡ Some l → is_local l.op ≡ true → IsWidth (sort_at lines l.sort)
  sort_of_local l h k = sort_wide l.sort (sort_fits l.sort l.op l.args (well.by_line i l h).body.sorts k)

  pub operand_of : (l : Line) → slice_get lines i ≡ Some l → HasOperandWidth (width_at lines) l.op l.args
  operand_of l h = operand_fits l.sort l.op l.args (well.by_line i l h).body.sorts
