-- The next frame is the only one.
use Rattle.std.proofs.Common.{◌≡◌, ℕ, zero, suc, ◌<◌, ◌≤◌, Bool, true, false, List, [], ◌∷◌, length, take, Some, None, refl, sym, ◌∙◌, subst, arith, inl, inr}
use Rattle.std.specs.Prelude.{slice_get}
use Rattle.std.proofs.lemmas.List.{length-take-le, ext_get_or}
use Rattle.word_core.specs.Words.{BitVector}
use Rattle.btor_tree.specs.declared.args.Arg.{Arg}
use Rattle.btor_tree.specs.declared.lines.Line.{Line}
use Rattle.btor_tree.specs.declared.lines.LineOp.{LineOp}
use Rattle.btor_tree.specs.declared.lines.LineOp.TheVariants.{Input, State, Unary, Binary, Ite, Slice, Uext, Sext}
use Rattle.btor_tree.specs.Fits.{IsWellFormed, state_value}
use Rattle.btor_tree.specs.Frame.{nothing, word_at, Equation, IsFrame}
use Rattle.btor_tree.proofs.Grows.{inside_get}
use Rattle.btor_tree.proofs.Words.{SameBelow, same_equation, computed, one_solution}
use Rattle.btor_tree.proofs.Rows.{row_upto}
use Rattle.btor_tree.proofs.Widths.{option_cases}
use Rattle.btor_tree.proofs.Paths.{init_operand_is}
use Rattle.btor_frames.specs.Steps.{value_kind, value_word, ValuesHold, SuppliedFit, IsStep}
use Rattle.btor_frames.specs.Held.{Held, FramesFit}
use Rattle.btor_frames.proofs.Lines.{value_same}
use Rattle.btor_frames.proofs.Loop.{giving, is_step}

-- the word that an equation gives is read at an input or a state alone
unread : (before : List Line) (row : List BitVector) (s : ℕ) (op : LineOp) (args : List Arg) (x y : BitVector) → (op ≡ Input → x ≡ y) → (op ≡ State → x ≡ y) → computed before row s op args x ≡ computed before row s op args y
unread before row s Input args x y i t = i refl
unread before row s State args x y i t = t refl
unread before row s (Unary op) [] x y i t = refl
unread before row s (Unary op) (a ∷ []) x y i t = refl
unread before row s (Unary op) (a ∷ b ∷ more) x y i t = refl
unread before row s (Binary op) [] x y i t = refl
unread before row s (Binary op) (a ∷ []) x y i t = refl
unread before row s (Binary op) (a ∷ b ∷ []) x y i t = refl
unread before row s (Binary op) (a ∷ b ∷ c ∷ more) x y i t = refl
unread before row s Ite [] x y i t = refl
unread before row s Ite (a ∷ []) x y i t = refl
unread before row s Ite (a ∷ b ∷ []) x y i t = refl
unread before row s Ite (a ∷ b ∷ c ∷ []) x y i t = refl
unread before row s Ite (a ∷ b ∷ c ∷ d ∷ more) x y i t = refl
unread before row s (Slice high low) [] x y i t = refl
unread before row s (Slice high low) (a ∷ []) x y i t = refl
unread before row s (Slice high low) (a ∷ b ∷ more) x y i t = refl
unread before row s (Uext n) [] x y i t = refl
unread before row s (Uext n) (a ∷ []) x y i t = refl
unread before row s (Uext n) (a ∷ b ∷ more) x y i t = refl
unread before row s (Sext n) [] x y i t = refl
unread before row s (Sext n) (a ∷ []) x y i t = refl
unread before row s (Sext n) (a ∷ b ∷ more) x y i t = refl
unread before row s op args x y i t = refl

-- an equation has one solution, but for what is read
one_word : (before : List Line) (row : List BitVector) (s : ℕ) (op : LineOp) (args : List Arg) (x y : BitVector) → Equation before row s op args x → Equation before row s op args y → (op ≡ Input → x ≡ y) → (op ≡ State → x ≡ y) → x ≡ y
one_word before row s op args x y ex ey i t =
    one_solution before row s op args x x ex ∙ unread before row s op args x y i t ∙ sym (one_solution before row s op args y y ey)

-- a state's word is its value's
value_read : (begun : Bool) (lines : List Line) (last row : List BitVector) (s : ℕ) (a : Arg) → IsWellFormed lines → IsFrame lines row → ValuesHold begun lines last row → state_value (value_kind begun) lines s ≡ Some a → word_at row s ≡ value_word begun lines last row a
value_read true lines last row s a w f h v = h s a v
value_read false lines last row s a w f h v = h s a v ∙ sym (init_operand_is lines row a w f.meets)

-- frames of the same values, inputs and free words are the same
module _ (lines : List Line) (begun : Bool) (last row other : List BitVector) (w : IsWellFormed lines) (p : IsFrame lines row) (q : IsFrame lines other) (pv : ValuesHold begun lines last row) (qv : ValuesHold begun lines last other) (inputs : (i : ℕ) (l : Line) → slice_get lines i ≡ Some l → l.op ≡ Input → word_at row i ≡ word_at other i) (frees : (i : ℕ) (l : Line) → slice_get lines i ≡ Some l → l.op ≡ State → state_value (value_kind begun) lines i ≡ None → word_at row i ≡ word_at other i) where
  same_here : (i : ℕ) → i < length lines → SameBelow i row other → word_at row i ≡ word_at other i
  same_here i h s =
      let got = inside_get lines i h in
      let l = got.0 in
      let g = got.1 in
      let before = take i lines in
      let short : SameBelow (length before) row other = λ k r. s k (omega (arith, r, length-take-le i lines (omega arith))) in
      let ex = same_equation before row other (length before) l.sort l.op l.args (word_at row i) short (w.by_line i l g).body.earlier (p.meets.by_line i l g) in
      one_word before other l.sort l.op l.args (word_at row i) (word_at other i) ex (q.meets.by_line i l g) (λ e. inputs i l g e)
      (λ e. elim (option_cases (state_value (value_kind begun) lines i)) [
        | inl n ↦ frees i l g e n
        | inr f ↦
            value_read begun lines last row i f.0 w p pv f.1
            ∙ value_same begun lines last row other i f.0 w f.1 s
            ∙ sym (value_read begun lines last other i f.0 w q qv f.1)
      ])

  same_below : (n : ℕ) → n ≤ length lines → SameBelow n row other
  same_below zero h k r = absurd (omega (arith, r))
  same_below (suc n) h k r = same_here k (omega arith) (λ j t. same_below n (omega arith) j (omega arith))

  pub same_row : row ≡ other
  same_row =
      ext_get_or nothing row other (p.sized ∙ sym q.sized) (λ k r. same_below (length lines) (omega arith) k (omega (arith, p.sized, r)))

pub only : (lines : List Line) (begun : Bool) (last inputs free row other : List BitVector) → IsWellFormed lines → IsStep lines begun last inputs free row → IsStep lines begun last inputs free other → row ≡ other
only lines begun last inputs free row other w p q =
    same_row lines begun last row other w p.frame q.frame p.values q.values
    (λ i l g e. p.inputs_read i l g e ∙ sym (q.inputs_read i l g e))
    (λ i l g e n. p.free_read i l g e n ∙ sym (q.free_read i l g e n))

pub stepped : (lines : List Line) (held : Held) (b : Bool) (r inputs free x : List BitVector) (found : _) → record { begun = b; row = r; found = found } ≡ held → IsWellFormed lines → FramesFit lines held → SuppliedFit lines inputs free → x ≡ row_upto lines (giving b lines r inputs free) (length lines) → IsStep lines held.begun held.row inputs free x
stepped lines held b r inputs free x found e w f h ex =
    let fits : FramesFit lines (record { begun = b; row = r; found = found }) = subst (FramesFit lines) (sym e) f in
    subst (λ k. IsStep lines k.begun k.row inputs free x) e (subst (IsStep lines b r inputs free) (sym ex) (is_step b lines r inputs free w fits.framed h))
