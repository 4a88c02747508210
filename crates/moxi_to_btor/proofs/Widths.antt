-- The widths of lines that were made, and when single lines may be put.
use Rattle.std.proofs.Common.{◌≡◌, ℕ, zero, suc, ◌+◌, ◌-◌, ◌<◌, ◌≤◌, true, cond, List, [], ◌∷◌, length, None, refl, sym, ap, ◌∙◌, subst, arith}
use Rattle.word_core.specs.Words.{BitVector, IsWord}
use Rattle.word_core.specs.declared.word.TheConstants.{WIDEST}
use Rattle.word_core.specs.Table.{BinaryFits, binary_width, unary_width}
use Rattle.word_core.specs.declared.kinds.Unary.{Unary}
use Rattle.word_core.specs.declared.kinds.Binary.{Binary}
use Rattle.btor_tree.specs.declared.args.Arg.{Arg}
use Rattle.btor_tree.specs.declared.lines.Line.{Line}
use Rattle.btor_tree.specs.declared.lines.LineOp.{LineOp}
use Rattle.btor_tree.specs.declared.lines.LineOp.TheVariants as line
use Rattle.btor_tree.specs.Fits.{AreEarlier, greatest_id, has_word, plain_arg, sort_at, width_at}
use Rattle.btor_tree.specs.Sharing.{GrowsByShared, is_shared, with_sort}
use Rattle.btor_tree.proofs.AtPlaces.{width_of_line}
use Rattle.btor_tree.proofs.Alike.{pushed_quiet, pushed_says, pushed_sort}
use Rattle.moxi_lines.specs.TermLines.{with_binary, with_ite, with_signs, with_slice, with_unary, with_word, with_zeros}
use Rattle.moxi_lines.proofs.Growing.{earlier_more, grown_long, grown_sort, grown_width, wide_inside}
use Rattle.moxi_to_btor.specs.TermPutting.{CanPut, CanPutBinary, CanPutConstant, CanPutIte, CanPutSigns, CanPutSlice, CanPutUnary, CanPutZeros}
use Rattle.moxi_lines.proofs.Steps.{FitsLater}

pub word_wide : (lines : List Line) (o : LineOp) (w : ℕ) (args : List Arg) → is_shared o ≡ true → has_word o ≡ true → 1 ≤ w
    → width_at (with_word lines o w args).0 (with_word lines o w args).1 ≡ w
word_wide lines o w args shared worded low =
    let s = with_sort lines w in
    let m = with_word lines o w args in
    let says = pushed_says s.0 o s.1 args None in
    let l = says.0 in
    let sorted : sort_at m.0 s.1 ≡ w = grown_sort s.0 m.0 s.1 w low (pushed_quiet s.0 o s.1 args None shared) (pushed_sort lines w [] None) in
    ap (width_of_line m.0) says.1 ∙ ap (λ (b : LineOp). cond (has_word b) (sort_at m.0 l.sort) 0) says.2.0 ∙ ap (λ t. cond t (sort_at m.0 l.sort) 0) worded ∙ ap (sort_at m.0) says.2.1 ∙ sorted

abbrev Room : List Line → LineOp → ℕ → List Arg → Type 0
Room lines o w args = length (with_word lines o w args).0 < greatest_id

can_put : (lines : List Line) (o : LineOp) (w : ℕ) (args : List Arg) → 1 ≤ w → w ≤ WIDEST → AreEarlier (length lines) args → FitsLater lines o w args → Room lines o w args → CanPut lines o w args
can_put lines o w args low high earlier fits room =
    let s = with_sort lines w in
    let g : GrowsByShared lines s.0 = pushed_quiet lines (line.Sort w) 0 [] None refl in
    record {
      room = room;
      low = low;
      high = high;
      earlier = earlier_more (length lines) (length s.0) args (grown_long lines s.0 g) earlier;
      fits = fits s.0 s.1 g (pushed_sort lines w [] None);
    }

pub constant_can : (lines : List Line) (x : BitVector) → IsWord x → Room lines (line.Constant x) x.width [] → CanPutConstant lines x
constant_can lines x i room = can_put lines (line.Constant x) x.width [] i.0 i.1 tt (λ ls s g e. (i, sym e, refl)) room

pub one_can : (lines : List Line) → Room lines line.One 1 [] → CanPut lines line.One 1 []
one_can lines room = can_put lines line.One 1 [] (omega arith) (omega arith) tt (λ ls s g e. (omega (arith, e), refl)) room

pub zero_can : (lines : List Line) → Room lines line.Zero 1 [] → CanPut lines line.Zero 1 []
zero_can lines room = can_put lines line.Zero 1 [] (omega arith) (omega arith) tt (λ ls s g e. (omega (arith, e), refl)) room

-- the line at a place has a word of this width
pub record IsWide (lines : List Line) (p w : ℕ) : Type 0 where
  pub low : 1 ≤ w
  pub high : w ≤ WIDEST
  pub width : width_at lines p ≡ w

pub later_wide : (a b : List Line) (p w : ℕ) → GrowsByShared a b → IsWide a p w → IsWide b p w
later_wide a b p w g h = record { low = h.low; high = h.high; width = grown_width a b p w h.low g h.width }

inside : (lines : List Line) (p w : ℕ) → IsWide lines p w → p < length lines
inside lines p w h = wide_inside lines p w h.low h.width

word_at : (lines : List Line) (p w : ℕ) → IsWide lines p w → (1 ≤ width_at lines p) × (width_at lines p ≤ WIDEST)
word_at lines p w h = (omega (arith, h.low, h.width), omega (arith, h.high, h.width))

-- ---- operators that keep the width

pub unary_wide : (u : Unary) (lines : List Line) (p w : ℕ) → IsWide lines p w → unary_width u w ≡ w → IsWide (with_unary u lines p).0 (with_unary u lines p).1 w
unary_wide u lines p w h e =
    let k : unary_width u (width_at lines p) ≡ w = ap (unary_width u) h.width ∙ e in
    record { low = h.low; high = h.high; width = word_wide lines (line.Unary u) (unary_width u (width_at lines p)) (plain_arg p ∷ []) refl refl (omega (arith, k, h.low)) ∙ k }

pub unary_can : (u : Unary) (lines : List Line) (p w : ℕ) → IsWide lines p w → unary_width u w ≡ w → length (with_unary u lines p).0 < greatest_id → CanPutUnary u lines p
unary_can u lines p w h e room =
    let v = width_at lines p in
    let k : unary_width u v ≡ w = ap (unary_width u) h.width ∙ e in
    let a = word_at lines p w h in
    record {
      word = record { wide = a.0; narrow = a.1 };
      keeps = k ∙ sym h.width;
      can = can_put lines (line.Unary u) (unary_width u v) (plain_arg p ∷ []) (omega (arith, k, h.low)) (omega (arith, k, h.high)) (inside lines p w h, tt)
          (λ ls s g f. let i = later_wide lines ls p w g h in
          (omega (arith, f, k, h.low), (omega (arith, i.width, h.low), ap (unary_width u) i.width ∙ e ∙ sym k ∙ sym f))) room;
    }

-- ---- operators on two words

pub binary_wide : (b : Binary) (lines : List Line) (p q v w : ℕ) → IsWide lines p v → IsWide lines q w → 1 ≤ binary_width b v w → binary_width b v w ≤ WIDEST
    → IsWide (with_binary b lines p q).0 (with_binary b lines p q).1 (binary_width b v w)
binary_wide b lines p q v w i j low high =
    let k : binary_width b (width_at lines p) (width_at lines q) ≡ binary_width b v w = ap (λ n. binary_width b n (width_at lines q)) i.width ∙ ap (binary_width b v) j.width in
    record { low = low; high = high; width = word_wide lines (line.Binary b) (binary_width b (width_at lines p) (width_at lines q)) (plain_arg p ∷ plain_arg q ∷ []) refl refl (omega (arith, k, low)) ∙ k }

pub binary_can : (b : Binary) (lines : List Line) (p q v w : ℕ) → IsWide lines p v → IsWide lines q w → BinaryFits b v w → 1 ≤ binary_width b v w → binary_width b v w ≤ WIDEST
    → length (with_binary b lines p q).0 < greatest_id → CanPutBinary b lines p q
binary_can b lines p q v w i j fits low high room =
    let k : binary_width b (width_at lines p) (width_at lines q) ≡ binary_width b v w = ap (λ n. binary_width b n (width_at lines q)) i.width ∙ ap (binary_width b v) j.width in
    let x = word_at lines p v i in
    let y = word_at lines q w j in
    record {
      left = record { wide = x.0; narrow = x.1 };
      right = record { wide = y.0; narrow = y.1 };
      can = can_put lines (line.Binary b) (binary_width b (width_at lines p) (width_at lines q)) (plain_arg p ∷ plain_arg q ∷ []) (omega (arith, k, low)) (omega (arith, k, high)) (inside lines p v i, (inside lines q w j, tt))
          (λ ls s g f.
          let e1 : width_at ls p ≡ v = grown_width lines ls p v i.low g i.width in
          let e2 : width_at ls q ≡ w = grown_width lines ls q w j.low g j.width in (
            omega (arith, f, k, low),
            (
              omega (arith, e1, i.low),
              omega (arith, e2, j.low),
              subst (λ n. BinaryFits b n (width_at ls q)) (sym e1) (subst (λ n. BinaryFits b v n) (sym e2) fits),
              ap (λ n. binary_width b n (width_at ls q)) e1 ∙ ap (binary_width b v) e2 ∙ sym k ∙ sym f,
            ),
          )) room;
    }

-- ---- the others

pub ite_wide : (lines : List Line) (c p q w : ℕ) → IsWide lines p w → IsWide (with_ite lines c p q).0 (with_ite lines c p q).1 w
ite_wide lines c p q w h =
    record { low = h.low; high = h.high; width = word_wide lines line.Ite (width_at lines p) (plain_arg c ∷ plain_arg p ∷ plain_arg q ∷ []) refl refl (omega (arith, h.width, h.low)) ∙ h.width }

pub ite_can : (lines : List Line) (c p q w : ℕ) → IsWide lines c 1 → IsWide lines p w → IsWide lines q w → length (with_ite lines c p q).0 < greatest_id → CanPutIte lines c p q
ite_can lines c p q w h i j room =
    let a = word_at lines p w i in
    record {
      word = record { wide = a.0; narrow = a.1 };
      can = can_put lines line.Ite (width_at lines p) (plain_arg c ∷ plain_arg p ∷ plain_arg q ∷ []) a.0 a.1 (inside lines c 1 h, (inside lines p w i, (inside lines q w j, tt)))
          (λ ls s g f. (
            omega (arith, f, i.width, i.low),
            (
              grown_width lines ls c 1 h.low g h.width,
              grown_width lines ls p w i.low g i.width ∙ sym i.width ∙ sym f,
              grown_width lines ls q w j.low g j.width ∙ sym i.width ∙ sym f,
            ),
          )) room;
    }

pub slice_wide : (high low : ℕ) (lines : List Line) (p w : ℕ) → IsWide lines p w → low ≤ high → high < w → IsWide (with_slice high low lines p).0 (with_slice high low lines p).1 (high - low + 1)
slice_wide high low lines p w h i j =
    record { low = omega arith; high = omega (arith, h.high, j); width = word_wide lines (line.Slice high low) (high - low + 1) (plain_arg p ∷ []) refl refl (omega arith) }

pub slice_can : (high low : ℕ) (lines : List Line) (p w : ℕ) → IsWide lines p w → low ≤ high → high < w → length (with_slice high low lines p).0 < greatest_id → CanPutSlice high low lines p
slice_can high low lines p w h i j room =
    record {
      order = i;
      small = omega (arith, h.high, j);
      can = can_put lines (line.Slice high low) (high - low + 1) (plain_arg p ∷ []) (omega arith) (omega (arith, h.high, j)) (inside lines p w h, tt)
          (λ ls s g f. (omega (arith, f), (i, omega (arith, j, grown_width lines ls p w h.low g h.width), sym f))) room;
    }

pub zeros_wide : (i : ℕ) (lines : List Line) (p w : ℕ) → IsWide lines p w → w + i ≤ WIDEST → IsWide (with_zeros i lines p).0 (with_zeros i lines p).1 (w + i)
zeros_wide zero lines p w h j = let e : w ≡ w + 0 = omega arith in subst (IsWide lines p) e h
zeros_wide (suc i) lines p w h j =
    let k : width_at lines p + suc i ≡ w + suc i = ap (λ v. v + suc i) h.width in
    record { low = omega arith; high = j; width = word_wide lines (line.Uext (suc i)) (width_at lines p + suc i) (plain_arg p ∷ []) refl refl (omega arith) ∙ k }

pub zeros_can : (i : ℕ) (lines : List Line) (p w : ℕ) → IsWide lines p w → w + i ≤ WIDEST → length (with_zeros i lines p).0 < greatest_id → CanPutZeros i lines p
zeros_can zero lines p w h j room = tt
zeros_can (suc i) lines p w h j room =
    let k : width_at lines p + suc i ≡ w + suc i = ap (λ v. v + suc i) h.width in
    let a = word_at lines p w h in (
      record { wide = a.0; narrow = a.1 },
      can_put lines (line.Uext (suc i)) (width_at lines p + suc i) (plain_arg p ∷ []) (omega arith) (omega (arith, k, j)) (inside lines p w h, tt)
          (λ ls s g f. let e : width_at ls p ≡ w = grown_width lines ls p w h.low g h.width in
          (omega (arith, f), (omega (arith, e, h.low), ap (λ v. v + suc i) e ∙ sym k ∙ sym f))) room,
    )

pub signs_wide : (i : ℕ) (lines : List Line) (p w : ℕ) → IsWide lines p w → w + i ≤ WIDEST → IsWide (with_signs i lines p).0 (with_signs i lines p).1 (w + i)
signs_wide zero lines p w h j = let e : w ≡ w + 0 = omega arith in subst (IsWide lines p) e h
signs_wide (suc i) lines p w h j =
    let k : width_at lines p + suc i ≡ w + suc i = ap (λ v. v + suc i) h.width in
    record { low = omega arith; high = j; width = word_wide lines (line.Sext (suc i)) (width_at lines p + suc i) (plain_arg p ∷ []) refl refl (omega arith) ∙ k }

pub signs_can : (i : ℕ) (lines : List Line) (p w : ℕ) → IsWide lines p w → w + i ≤ WIDEST → length (with_signs i lines p).0 < greatest_id → CanPutSigns i lines p
signs_can zero lines p w h j room = tt
signs_can (suc i) lines p w h j room =
    let k : width_at lines p + suc i ≡ w + suc i = ap (λ v. v + suc i) h.width in
    let a = word_at lines p w h in (
      record { wide = a.0; narrow = a.1 },
      can_put lines (line.Sext (suc i)) (width_at lines p + suc i) (plain_arg p ∷ []) (omega arith) (omega (arith, k, j)) (inside lines p w h, tt)
          (λ ls s g f. let e : width_at ls p ≡ w = grown_width lines ls p w h.low g h.width in
          (omega (arith, f), (omega (arith, e, h.low), ap (λ v. v + suc i) e ∙ sym k ∙ sym f))) room,
    )
