-- What one line more gives.
use Rattle.std.proofs.Common.{◌≡◌, ℕ, suc, ◌+◌, ◌-◌, ◌<◌, ◌≤◌, Bool, true, List, [], ◌∷◌, length, None, refl, sym, ap, ◌∙◌, subst, arith}
use Rattle.word_core.specs.Words.{BitVector, IsWord}
use Rattle.word_core.specs.declared.word.TheConstants.{WIDEST}
use Rattle.word_core.specs.Table.{BinaryFits, binary_of, binary_width, ite_of, sext_of, slice_of, uext_of, unary_of, unary_width}
use Rattle.word_core.specs.declared.kinds.Unary.{Unary}
use Rattle.word_core.specs.declared.kinds.Binary.{Binary}
use Rattle.btor_tree.specs.declared.args.Arg.{Arg}
use Rattle.btor_tree.specs.declared.lines.Line.{Line}
use Rattle.btor_tree.specs.declared.lines.LineOp.{LineOp}
use Rattle.btor_tree.specs.declared.lines.LineOp.TheVariants as line
use Rattle.btor_tree.specs.Fits.{AreEarlier, OpFits, Suits, greatest_id, has_word, plain_arg, sort_at, width_at}
use Rattle.btor_tree.specs.Frame.{Equation, Meets, word_at}
use Rattle.btor_tree.specs.Sharing.{GrowsByShared, is_shared, with_sort}
use Rattle.btor_tree.proofs.Alike.{pushed_quiet, pushed_sort}
use Rattle.btor_tree.proofs.Equations.{pushed_fit, pushed_met, pushed_wide}
use Rattle.btor_tree.proofs.Widths.{width_small}
use Rattle.moxi_lines.specs.TermLines.{Built, with_binary, with_constant, with_ite, with_signs, with_slice, with_unary, with_word, with_zeros}
use Rattle.moxi_lines.specs.TermLaws.{AreNumbered}
use Rattle.moxi_lines.proofs.Growing.{earlier_more, grown_long, grown_meets, grown_then, grown_width, wide_inside}

-- the line at a place has this width, and in a row that meets the lines this word
pub record WordAt (row : List BitVector) (known : Bool) (lines : List Line) (p w : ℕ) (x : BitVector) : Type 0 where
  pub width : width_at lines p ≡ w
  pub word : known ≡ true → Meets lines row → word_at row p ≡ x

pub record BuiltWord (row : List BitVector) (known : Bool) (lines : List Line) (m : Built) (w : ℕ) (x : BitVector) : Type 0 where
  pub grows : GrowsByShared lines m.0
  pub numbered : AreNumbered m.0
  pub at : WordAt row known m.0 m.1 w x

pub later_word : (row : List BitVector) (known : Bool) (a b : List Line) (p w : ℕ) (x : BitVector) → 1 ≤ w → GrowsByShared a b → WordAt row known a p w x → WordAt row known b p w x
later_word row known a b p w x h g at =
    record { width = grown_width a b p w h g at.width; word = λ k m. at.word k (grown_meets a b row g m) }

pub word_grows : (lines : List Line) (o : LineOp) (w : ℕ) (args : List Arg) → is_shared o ≡ true → GrowsByShared lines (with_word lines o w args).0
word_grows lines o w args h =
    let s = with_sort lines w in
    grown_then lines s.0 (with_word lines o w args).0 (pushed_quiet lines (line.Sort w) 0 [] None refl) (pushed_quiet s.0 o s.1 args None h)

record Pushed (row : List BitVector) (lines : List Line) (o : LineOp) (w : ℕ) (args : List Arg) (m : Built) : Type 0 where
  numbered : AreNumbered m.0
  width : width_at m.0 m.1 ≡ w
  before : List Line
  sort : ℕ
  sorted : sort_at before sort ≡ w
  equation : Meets m.0 row → Equation before row sort o args (word_at row m.1)

-- a line fits wherever lines have grown to
abbrev pub FitsLater : List Line → LineOp → ℕ → List Arg → Type 0
FitsLater lines o w args = (ls : List Line) (s : ℕ) → GrowsByShared lines ls → sort_at ls s ≡ w → OpFits ls s o args

pushed_word : (row : List BitVector) (lines : List Line) (o : LineOp) (w : ℕ) (args : List Arg) → is_shared o ≡ true → has_word o ≡ true → AreNumbered lines → 1 ≤ w → w ≤ WIDEST
    → AreEarlier (length lines) args → FitsLater lines o w args → length (with_word lines o w args).0 < greatest_id → Pushed row lines o w args (with_word lines o w args)
pushed_word row lines o w args shared worded n low high earlier fits room =
    let s = with_sort lines w in
    let m = with_word lines o w args in
    let g : GrowsByShared lines s.0 = pushed_quiet lines (line.Sort w) 0 [] None refl in
    let h : GrowsByShared s.0 m.0 = pushed_quiet s.0 o s.1 args None shared in
    let few : length s.0 < greatest_id = omega (arith, room, grown_long s.0 m.0 h) in
    let fewer : length lines < greatest_id = omega (arith, few, grown_long lines s.0 g) in
    let sorted : sort_at s.0 s.1 ≡ w = pushed_sort lines w [] None in
    let first : Suits lines (line.Sort w) 0 [] None = record { earlier = tt; sorts = (low, high, refl, refl); symbol = tt } in
    let n1 = pushed_fit lines (line.Sort w) 0 [] None n.fit n.ids fewer first in
    let second : Suits s.0 o s.1 args None = record { earlier = earlier_more (length lines) (length s.0) args (grown_long lines s.0 g) earlier; sorts = fits s.0 s.1 g sorted; symbol = tt } in
    let n2 = pushed_fit s.0 o s.1 args None n1.0 n1.1 few second in
    record {
      numbered = record { fit = n2.0; ids = n2.1 };
      width = pushed_wide s.0 o s.1 args None n1.0 second worded ∙ sorted;
      before = s.0;
      sort = s.1;
      sorted = sorted;
      equation = λ met. (pushed_met s.0 o s.1 args None row n1.0 second met).1;
    }

module _ (row : List BitVector) (known : Bool) where
  pub constant_step : (lines : List Line) (c : BitVector) → AreNumbered lines → IsWord c → length (with_constant lines c).0 < greatest_id → BuiltWord row known lines (with_constant lines c) c.width c
  constant_step lines c n i room =
      let p = pushed_word row lines (line.Constant c) c.width [] refl refl n i.0 i.1 tt (λ ls s g e. (i, sym e, refl)) room in
      record { grows = word_grows lines (line.Constant c) c.width [] refl; numbered = p.numbered; at = record { width = p.width; word = λ k m. p.equation m } }

  pub one_step : (lines : List Line) → AreNumbered lines → length (with_word lines line.One 1 []).0 < greatest_id → BuiltWord row known lines (with_word lines line.One 1 []) 1 (record { width = 1; bits = 1 })
  one_step lines n room =
      let p = pushed_word row lines line.One 1 [] refl refl n (omega arith) (omega arith) tt (λ ls s g e. (omega (arith, e), refl)) room in
      record {
        grows = word_grows lines line.One 1 [] refl;
        numbered = p.numbered;
        at = record { width = p.width; word = λ k m. p.equation m ∙ ap (λ w. let x : BitVector = record { width = w; bits = 1 } in x) p.sorted };
      }

  pub zero_step : (lines : List Line) → AreNumbered lines → length (with_word lines line.Zero 1 []).0 < greatest_id → BuiltWord row known lines (with_word lines line.Zero 1 []) 1 (record { width = 1; bits = 0 })
  zero_step lines n room =
      let p = pushed_word row lines line.Zero 1 [] refl refl n (omega arith) (omega arith) tt (λ ls s g e. (omega (arith, e), refl)) room in
      record {
        grows = word_grows lines line.Zero 1 [] refl;
        numbered = p.numbered;
        at = record { width = p.width; word = λ k m. p.equation m ∙ ap (λ w. let x : BitVector = record { width = w; bits = 0 } in x) p.sorted };
      }

  -- operators that keep the width
  pub unary_step : (u : Unary) (lines : List Line) (p w : ℕ) (x : BitVector) → AreNumbered lines → 1 ≤ w → unary_width u w ≡ w → WordAt row known lines p w x
      → length (with_unary u lines p).0 < greatest_id → BuiltWord row known lines (with_unary u lines p) w (unary_of u x)
  unary_step u lines p w x n h e a room =
      let v = width_at lines p in
      let kept : unary_width u v ≡ w = ap (unary_width u) a.width ∙ e in
      let small : w ≤ WIDEST = subst (λ i. i ≤ WIDEST) a.width (width_small lines p n.fit) in
      let grows = word_grows lines (line.Unary u) (unary_width u v) (plain_arg p ∷ []) refl in
      let d = pushed_word row lines (line.Unary u) (unary_width u v) (plain_arg p ∷ []) refl refl n (omega (arith, kept, h)) (omega (arith, kept, small)) (wide_inside lines p w h a.width, tt)
      (λ ls s g f. let e2 : width_at ls p ≡ w = grown_width lines ls p w h g a.width in
      (omega (arith, f, kept, h), (omega (arith, e2, h), ap (unary_width u) e2 ∙ e ∙ sym kept ∙ sym f))) room in
      record {
        grows = grows;
        numbered = d.numbered;
        at = record { width = d.width ∙ kept; word = λ k m. d.equation m ∙ ap (unary_of u) (a.word k (grown_meets lines (with_unary u lines p).0 row grows m)) };
      }

  pub binary_step : (b : Binary) (lines : List Line) (p q v w : ℕ) (x y : BitVector) → AreNumbered lines → 1 ≤ v → 1 ≤ w → WordAt row known lines p v x → WordAt row known lines q w y
      → BinaryFits b v w → 1 ≤ binary_width b v w → binary_width b v w ≤ WIDEST → length (with_binary b lines p q).0 < greatest_id → BuiltWord row known lines (with_binary b lines p q) (binary_width b v w) (binary_of b x y)
  binary_step b lines p q v w x y n h i a c fits low high room =
      let kept : binary_width b (width_at lines p) (width_at lines q) ≡ binary_width b v w = ap (λ j. binary_width b j (width_at lines q)) a.width ∙ ap (binary_width b v) c.width in
      let args = plain_arg p ∷ plain_arg q ∷ [] in
      let grows = word_grows lines (line.Binary b) (binary_width b (width_at lines p) (width_at lines q)) args refl in
      let d = pushed_word row lines (line.Binary b) (binary_width b (width_at lines p) (width_at lines q)) args refl refl n (omega (arith, kept, low)) (omega (arith, kept, high))
      (wide_inside lines p v h a.width, (wide_inside lines q w i c.width, tt))
      (λ ls s g f.
      let e1 : width_at ls p ≡ v = grown_width lines ls p v h g a.width in
      let e2 : width_at ls q ≡ w = grown_width lines ls q w i g c.width in (
        omega (arith, f, kept, low),
        (
          omega (arith, e1, h),
          omega (arith, e2, i),
          subst (λ j. BinaryFits b j (width_at ls q)) (sym e1) (subst (λ j. BinaryFits b v j) (sym e2) fits),
          ap (λ j. binary_width b j (width_at ls q)) e1 ∙ ap (binary_width b v) e2 ∙ sym kept ∙ sym f,
        ),
      )) room in
      record {
        grows = grows;
        numbered = d.numbered;
        at = record {
          width = d.width ∙ kept;
          word = λ k m.
              let before = grown_meets lines (with_binary b lines p q).0 row grows m in
              d.equation m ∙ ap (λ z. binary_of b z (word_at row q)) (a.word k before) ∙ ap (binary_of b x) (c.word k before);
        };
      }

  pub ite_step : (lines : List Line) (c p q w : ℕ) (x y z : BitVector) → AreNumbered lines → 1 ≤ w → WordAt row known lines c 1 x → WordAt row known lines p w y → WordAt row known lines q w z
      → length (with_ite lines c p q).0 < greatest_id → BuiltWord row known lines (with_ite lines c p q) w (ite_of x y z)
  ite_step lines c p q w x y z n h a b d room =
      let args = plain_arg c ∷ plain_arg p ∷ plain_arg q ∷ [] in
      let small : w ≤ WIDEST = subst (λ i. i ≤ WIDEST) b.width (width_small lines p n.fit) in
      let grows = word_grows lines line.Ite (width_at lines p) args refl in
      let one : 1 ≤ 1 = omega arith in
      let e = pushed_word row lines line.Ite (width_at lines p) args refl refl n (omega (arith, b.width, h)) (omega (arith, b.width, small))
      (wide_inside lines c 1 one a.width, (wide_inside lines p w h b.width, (wide_inside lines q w h d.width, tt)))
      (λ ls s g f.
      let e1 : width_at ls p ≡ w = grown_width lines ls p w h g b.width in
      let e2 : width_at ls q ≡ w = grown_width lines ls q w h g d.width in
      (omega (arith, f, b.width, h), (grown_width lines ls c 1 one g a.width, e1 ∙ sym b.width ∙ sym f, e2 ∙ sym b.width ∙ sym f))) room in
      record {
        grows = grows;
        numbered = e.numbered;
        at = record {
          width = e.width ∙ b.width;
          word = λ k m.
              let before = grown_meets lines (with_ite lines c p q).0 row grows m in
              e.equation m ∙ ap (λ u. ite_of u (word_at row p) (word_at row q)) (a.word k before) ∙ ap (λ u. ite_of x u (word_at row q)) (b.word k before) ∙ ap (ite_of x y) (d.word k before);
        };
      }

  pub slice_step : (high low : ℕ) (lines : List Line) (p w : ℕ) (x : BitVector) → AreNumbered lines → 1 ≤ w → low ≤ high → high < w → WordAt row known lines p w x
      → length (with_slice high low lines p).0 < greatest_id → BuiltWord row known lines (with_slice high low lines p) (high - low + 1) (slice_of x high low)
  slice_step high low lines p w x n h i j a room =
      let small : w ≤ WIDEST = subst (λ i. i ≤ WIDEST) a.width (width_small lines p n.fit) in
      let grows = word_grows lines (line.Slice high low) (high - low + 1) (plain_arg p ∷ []) refl in
      let d = pushed_word row lines (line.Slice high low) (high - low + 1) (plain_arg p ∷ []) refl refl n (omega arith) (omega (arith, small, i, j)) (wide_inside lines p w h a.width, tt)
      (λ ls s g f. let e2 : width_at ls p ≡ w = grown_width lines ls p w h g a.width in
      (omega (arith, f), (i, omega (arith, e2, j), sym f))) room in
      record {
        grows = grows;
        numbered = d.numbered;
        at = record { width = d.width; word = λ k m. d.equation m ∙ ap (λ z. slice_of z high low) (a.word k (grown_meets lines (with_slice high low lines p).0 row grows m)) };
      }

  pub zeros_step : (i : ℕ) (lines : List Line) (p w : ℕ) (x : BitVector) → AreNumbered lines → 1 ≤ w → w + suc i ≤ WIDEST → WordAt row known lines p w x
      → length (with_zeros (suc i) lines p).0 < greatest_id → BuiltWord row known lines (with_zeros (suc i) lines p) (w + suc i) (uext_of x (suc i))
  zeros_step i lines p w x n h j a room =
      let kept : width_at lines p + suc i ≡ w + suc i = ap (λ v. v + suc i) a.width in
      let grows = word_grows lines (line.Uext (suc i)) (width_at lines p + suc i) (plain_arg p ∷ []) refl in
      let d = pushed_word row lines (line.Uext (suc i)) (width_at lines p + suc i) (plain_arg p ∷ []) refl refl n (omega arith) (omega (arith, kept, j)) (wide_inside lines p w h a.width, tt)
      (λ ls s g f. let e2 : width_at ls p ≡ w = grown_width lines ls p w h g a.width in
      (omega (arith, f), (omega (arith, e2, h), ap (λ v. v + suc i) e2 ∙ sym kept ∙ sym f))) room in
      record {
        grows = grows;
        numbered = d.numbered;
        at = record { width = d.width ∙ kept; word = λ k m. d.equation m ∙ ap (λ z. uext_of z (suc i)) (a.word k (grown_meets lines (with_zeros (suc i) lines p).0 row grows m)) };
      }

  pub signs_step : (i : ℕ) (lines : List Line) (p w : ℕ) (x : BitVector) → AreNumbered lines → 1 ≤ w → w + suc i ≤ WIDEST → WordAt row known lines p w x
      → length (with_signs (suc i) lines p).0 < greatest_id → BuiltWord row known lines (with_signs (suc i) lines p) (w + suc i) (sext_of x (suc i))
  signs_step i lines p w x n h j a room =
      let kept : width_at lines p + suc i ≡ w + suc i = ap (λ v. v + suc i) a.width in
      let grows = word_grows lines (line.Sext (suc i)) (width_at lines p + suc i) (plain_arg p ∷ []) refl in
      let d = pushed_word row lines (line.Sext (suc i)) (width_at lines p + suc i) (plain_arg p ∷ []) refl refl n (omega arith) (omega (arith, kept, j)) (wide_inside lines p w h a.width, tt)
      (λ ls s g f. let e2 : width_at ls p ≡ w = grown_width lines ls p w h g a.width in
      (omega (arith, f), (omega (arith, e2, h), ap (λ v. v + suc i) e2 ∙ sym kept ∙ sym f))) room in
      record {
        grows = grows;
        numbered = d.numbered;
        at = record { width = d.width ∙ kept; word = λ k m. d.equation m ∙ ap (λ z. sext_of z (suc i)) (a.word k (grown_meets lines (with_signs (suc i) lines p).0 row grows m)) };
      }
