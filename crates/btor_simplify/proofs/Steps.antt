-- What is known of the line that comes next.
use Rattle.std.proofs.Common.{◌≡◌, ℕ, ◌^◌, ◌<◌, ◌≤◌, Bool, true, false, cond, List, [], ◌∷◌, ◌++◌, length, take, drop, Option, Some, None, option_map, refl, sym, ap, subst, ◌∙◌, arith, inl, inr, ◌⊎◌}
use Rattle.std.specs.Prelude.{slice_get, IfSome}
use Rattle.std.specs.List.{AllByRecursion}
use Rattle.std.proofs.lemmas.List.{take-append-drop, length-take}
use Rattle.std.proofs.lemmas.Bool.{cases_Bool}
use Rattle.std.proofs.Math.Nat.{one-le-pow}
use Rattle.word_core.specs.Words.{BitVector}
use Rattle.word_core.specs.declared.word.TheConstants.{WIDEST}
use Rattle.word_core.specs.Table.{BinaryFits, unary_width, binary_width}
use Rattle.btor_tree.specs.declared.args.Arg.{Arg}
use Rattle.btor_tree.specs.declared.lines.Line.{Line}
use Rattle.btor_tree.specs.declared.lines.LineOp.{LineOp}
use Rattle.btor_tree.specs.declared.lines.LineOp.TheVariants as op
use Rattle.btor_tree.specs.Fits.{AreEarlier, OpFits, Fits, IsWellFormed, has_word, is_constant, sort_at, sort_width, width_at}
use Rattle.btor_tree.specs.Frame.{signed_word}
use Rattle.btor_tree.specs.Sharing.{is_shared}
use Rattle.btor_tree.specs.LineKeys.{IsShort}
use Rattle.btor_tree.proofs.Grows.{slice_get_inside, lines_short, well_formed_front}
use Rattle.btor_tree.proofs.AtPlaces.{width_of_sort, width_of_line}
use Rattle.btor_tree.proofs.Keyed.{fits_short}
use Rattle.btor_tree.proofs.Widths.{IsOfWidth, line_at, one_lt, signed_is, sort_front, sort_small, sort_there, width_front, width_small}
use Rattle.btor_rules.specs.declared.operand.Operand.{Operand}
use Rattle.btor_rules.specs.declared.operand.Outcome.{Outcome}
use Rattle.btor_rules.specs.declared.operand.Outcome.TheVariants.{Stays, Constant, Argument}
use Rattle.btor_rules.specs.Rules.{OperandFits, OperandsFit, outcome}
use Rattle.btor_rules.specs.Words.{GivesWidth, OutcomeFits, HasOperand}
use Rattle.btor_rules.proofs.Widths.{rules_fit}
use Rattle.btor_simplify.specs.Fates.{fate_at, with_sign, replaced_by, replaced, place_by, Lives, constant_of, constant_of_line, constant_by, constant_at, operand_of, operands_of, AreThere, IsReady, AreReady, KeepsWidth, AreFates, CanSay, IsNextLine, is_sort}

-- lists of arguments
pub none_all : (P : Arg → Type 0) (args : List Arg) → args ≡ [] → AllByRecursion P args
none_all P [] e = tt
none_all P (a ∷ more) e = absurd (omega (arith, ap length e))

-- each argument of a sort, a constant or an operator has a word
pub worded : (before : List Line) (s : ℕ) (o : LineOp) (args : List Arg) → is_shared o ≡ true → OpFits before s o args → AllByRecursion (λ (a : Arg). 1 ≤ width_at before a.line) args
worded before s (op.Sort w) args h f = none_all _ args f.3
worded before s (op.Constant c) args h f = none_all _ args f.2
worded before s op.One args h f = none_all _ args f.1
worded before s op.Zero args h f = none_all _ args f.1
worded before s op.Ones args h f = none_all _ args f.1
worded before s (op.Unary u) [] h f = absurd f.1
worded before s (op.Unary u) (a ∷ []) h f = (f.1.0, tt)
worded before s (op.Unary u) (a ∷ b ∷ more) h f = absurd f.1
worded before s (op.Binary o) [] h f = absurd f.1
worded before s (op.Binary o) (a ∷ []) h f = absurd f.1
worded before s (op.Binary o) (a ∷ b ∷ []) h f = (f.1.0, (f.1.1, tt))
worded before s (op.Binary o) (a ∷ b ∷ c ∷ more) h f = absurd f.1
worded before s op.Ite [] h f = absurd f.1
worded before s op.Ite (a ∷ []) h f = absurd f.1
worded before s op.Ite (a ∷ b ∷ []) h f = absurd f.1
worded before s op.Ite (c ∷ a ∷ b ∷ []) h f = (omega (arith, f.1.0), (omega (arith, f.0, f.1.1), (omega (arith, f.0, f.1.2), tt)))
worded before s op.Ite (a ∷ b ∷ c ∷ d ∷ more) h f = absurd f.1
worded before s (op.Slice high low) [] h f = absurd f.1
worded before s (op.Slice high low) (a ∷ []) h f = (omega (arith, f.1.1), tt)
worded before s (op.Slice high low) (a ∷ b ∷ more) h f = absurd f.1
worded before s (op.Uext n) [] h f = absurd f.1
worded before s (op.Uext n) (a ∷ []) h f = (f.1.0, tt)
worded before s (op.Uext n) (a ∷ b ∷ more) h f = absurd f.1
worded before s (op.Sext n) [] h f = absurd f.1
worded before s (op.Sext n) (a ∷ []) h f = (f.1.0, tt)
worded before s (op.Sext n) (a ∷ b ∷ more) h f = absurd f.1
worded before s o args h f = absurd (cc)

-- the line that a fate leads to
sign_line : (negated : Bool) (b : Arg) → (with_sign negated b).line ≡ b.line
sign_line true b = refl
sign_line false b = refl

line_by : (f : Outcome) (a : Arg) → (replaced_by f a).line ≡ place_by f a.line
line_by (Argument b) a = sign_line a.negated b
line_by Stays a = refl
line_by (Constant c) a = refl

pub replaced_line : (fates : List Outcome) (a : Arg) → (replaced fates a).line ≡ place_by (fate_at fates a.line) a.line
replaced_line fates a = line_by (fate_at fates a.line) a

pub record Moved (lines : List Line) (fates : List Outcome) (p q : ℕ) : Type 0 where
  pub le : q ≤ p
  pub width : width_at lines q ≡ width_at lines p
  pub sort : sort_at lines q ≡ sort_at lines p
  pub lives : Lives (fate_at fates q)

moved_by : (lines : List Line) (fates : List Outcome) (p : ℕ) (f : Outcome) → fate_at fates p ≡ f → KeepsWidth lines fates p f → Moved lines fates p (place_by f p)
moved_by lines fates p Stays e k = record { le = omega arith; width = refl; sort = refl; lives = subst Lives (sym e) tt }
moved_by lines fates p (Constant c) e k = record { le = omega arith; width = refl; sort = refl; lives = subst Lives (sym e) tt }
moved_by lines fates p (Argument b) e k = record { le = omega (arith, k.0); width = k.2; sort = k.3; lives = k.1 }

pub moved_to : (lines : List Line) (fates : List Outcome) (p : ℕ) → AreFates lines fates → p < length fates → Moved lines fates p (place_by (fate_at fates p) p)
moved_to lines fates p known h = moved_by lines fates p (fate_at fates p) refl (known.widths p h)

pub moved_arg : (lines : List Line) (fates : List Outcome) (a : Arg) → AreFates lines fates → a.line < length fates → Moved lines fates a.line (replaced fates a).line
moved_arg lines fates a known h = subst (Moved lines fates a.line) (sym (replaced_line fates a)) (moved_to lines fates a.line known h)

-- constants are words of their width
constant_fits : (before : List Line) (s : ℕ) (o : LineOp) (args : List Arg) (w : ℕ) → OpFits before s o args → w ≡ sort_at before s → w ≤ WIDEST → IfSome (constant_of w o) (λ c. IsOfWidth c w)
constant_fits before s (op.Constant c) args w f e h = (f.0, f.1 ∙ sym e)
constant_fits before s op.One args w f e h = let l : 1 ≤ w = omega (arith, f.0, e) in ((l, h, one_lt w l), refl)
constant_fits before s op.Zero args w f e h = let l : 1 ≤ w = omega (arith, f.0, e) in ((l, h, one-le-pow w 2 (omega arith)), refl)
constant_fits before s op.Ones args w f e h = let l : 1 ≤ w = omega (arith, f.0, e) in let top = one-le-pow w 2 (omega arith) in ((l, h, omega (arith, top)), refl)
constant_fits before s o args w f e h = tt

-- a word is no sort
word_no_sort : (o : LineOp) → has_word o ≡ true → sort_width o ≡ 0
word_no_sort (op.Sort w) h = absurd (cc)
word_no_sort o h = refl

pub no_sort_at : (lines : List Line) (p : ℕ) → 1 ≤ width_at lines p → sort_at lines p ≡ 0
no_sort_at lines p h =
    let g = line_at lines p h in
    ap (λ (o : Option Line). width_of_sort o) g.1 ∙ word_no_sort g.0.op g.2

pub shared_word : (o : LineOp) → is_shared o ≡ true → is_sort o ≡ false → has_word o ≡ true
shared_word (op.Sort w) h g = absurd (cc)
shared_word op.Input h g = absurd (cc)
shared_word op.State h g = absurd (cc)
shared_word op.Init h g = absurd (cc)
shared_word op.Next h g = absurd (cc)
shared_word op.Bad h g = absurd (cc)
shared_word op.Constraint h g = absurd (cc)
shared_word op.Output h g = absurd (cc)
shared_word o h g = refl

pub sort_line_at : (lines : List Line) (k : ℕ) → 1 ≤ sort_at lines k → (l : Line) × (slice_get lines k ≡ Some l)
sort_line_at lines k h = from (slice_get lines k) refl h
  where
    from : (o : Option Line) → slice_get lines k ≡ o → 1 ≤ width_of_sort o → (l : Line) × (slice_get lines k ≡ Some l)
    from None e h = absurd (omega (arith, h))
    from (Some l) e h = (l, e)

pub well_formed_take : (lines : List Line) (i : ℕ) → IsWellFormed lines → IsWellFormed (take i lines)
well_formed_take lines i w = well_formed_front (take i lines) (drop i lines) (subst IsWellFormed (sym (take-append-drop i lines)) w)

-- the lines in front of a place
module _ (lines : List Line) (i : ℕ) where
  split : lines ≡ take i lines ++ drop i lines
  split = sym (take-append-drop i lines)

  pub width_before : (k : ℕ) → 1 ≤ width_at (take i lines) k → width_at lines k ≡ width_at (take i lines) k
  width_before k h = ap (λ ls. width_at ls k) split ∙ width_front (take i lines) (drop i lines) k h

  pub sort_before : (k : ℕ) → 1 ≤ sort_at (take i lines) k → sort_at lines k ≡ sort_at (take i lines) k
  sort_before k h = ap (λ ls. sort_at ls k) split ∙ sort_front (take i lines) (drop i lines) k h

  pub sort_inside : (k : ℕ) → 1 ≤ sort_at (take i lines) k → k < i
  sort_inside k h = let g = sort_line_at (take i lines) k h in omega (arith, slice_get_inside (take i lines) k g.0 g.1, length-take i lines)

-- a line with a word, in well-formed lines
pub record Worded (lines : List Line) (p : ℕ) (l : Line) : Type 0 where
  pub sort_at_front : sort_at lines l.sort ≡ sort_at (take p lines) l.sort
  pub least : 1 ≤ sort_at lines l.sort
  pub width : width_at lines p ≡ sort_at lines l.sort
  pub inside : l.sort < p

pub worded_line : (lines : List Line) (p : ℕ) (l : Line) → IsWellFormed lines → slice_get lines p ≡ Some l → has_word l.op ≡ true → Worded lines p l
worded_line lines p l w at h =
    let fits = (w.by_line p l at).body.sorts in
    let there = sort_there (take p lines) l.sort l.op l.args fits h in
    let same = sort_before lines p l.sort there in
    record {
      sort_at_front = same;
      least = subst (λ n. 1 ≤ n) (sym same) there;
      width = ap (λ (o : Option Line). width_of_line lines o) at ∙ ap (λ b. cond b (sort_at lines l.sort) 0) h;
      inside = sort_inside lines p l.sort there;
    }

module _ (lines : List Line) (fates : List Outcome) (w : IsWellFormed lines) (known : AreFates lines fates) where
  line_constant_fits : (p : ℕ) → 1 ≤ width_at lines p → IfSome (constant_of_line lines (slice_get lines p)) (λ c. IsOfWidth c (width_at lines p))
  line_constant_fits p h =
      let g = line_at lines p h in
      let l = g.0 in
      let word = worded_line lines p l w g.1 g.2 in
      let here = constant_fits (take p lines) l.sort l.op l.args (sort_at lines l.sort) (w.by_line p l g.1).body.sorts word.sort_at_front (sort_small lines l.sort w) in
      subst (λ (o : Option Line). IfSome (constant_of_line lines o) (λ c. IsOfWidth c (width_at lines p))) (sym g.1)
      (subst (λ n. IfSome (constant_of (sort_at lines l.sort) l.op) (λ c. IsOfWidth c n)) (sym word.width) here)

  constant_by_fits : (p : ℕ) (f : Outcome) → KeepsWidth lines fates p f → 1 ≤ width_at lines p → IfSome (constant_by f (constant_of_line lines (slice_get lines p))) (λ c. IsOfWidth c (width_at lines p))
  constant_by_fits p (Constant c) k h = (k.0, k.1)
  constant_by_fits p Stays k h = line_constant_fits p h
  constant_by_fits p (Argument b) k h = line_constant_fits p h

  signed_fits : (o : Option BitVector) (b : Bool) (n : ℕ) → IfSome o (λ c. IsOfWidth c n) → IfSome (option_map (signed_word b) o) (λ c. IsOfWidth c n)
  signed_fits None b n h = tt
  signed_fits (Some c) b n h = signed_is b c n h

  pub ready_arg : (a : Arg) → a.line < length fates → 1 ≤ width_at lines a.line → IsReady lines fates a
  ready_arg a h g =
      let m = moved_arg lines fates a known h in
      (h, omega (arith, m.le, h), omega (arith, m.width, g))

  pub operand_fits : (a : Arg) → a.line < length fates → 1 ≤ width_at lines a.line → OperandFits (operand_of lines fates a)
  operand_fits a h g =
      let r = ready_arg a h g in
      let p = (replaced fates a).line in
      record {
        least = r.2;
        most = width_small lines p w;
        constant = signed_fits (constant_at lines fates p) (replaced fates a).negated (width_at lines p) (constant_by_fits p (fate_at fates p) (known.widths p r.1) r.2);
      }

-- the operands of a line fit
module _ (lines : List Line) (fates : List Outcome) (before : List Line) (s : ℕ) (small : sort_at before s ≤ WIDEST) (fine : (a : Arg) → a.line < length before → 1 ≤ width_at before a.line → OperandFits (operand_of lines fates a) × (width_at lines (replaced fates a).line ≡ width_at before a.line)) where
  none_fit : (o : LineOp) (args : List Arg) → args ≡ [] → OperandsFit o (operands_of lines fates args) × GivesWidth o (operands_of lines fates args) (sort_at before s)
  none_fit o [] e = (tt, tt)
  none_fit o (a ∷ more) e = absurd (omega (arith, ap length e))

  all_fit : (o : LineOp) (args : List Arg) → is_shared o ≡ true → AreEarlier (length before) args → OpFits before s o args → OperandsFit o (operands_of lines fates args) × GivesWidth o (operands_of lines fates args) (sort_at before s)
  all_fit (op.Sort w) args h e f = none_fit (op.Sort w) args f.3
  all_fit (op.Constant c) args h e f = none_fit (op.Constant c) args f.2
  all_fit op.One args h e f = none_fit op.One args f.1
  all_fit op.Zero args h e f = none_fit op.Zero args f.1
  all_fit op.Ones args h e f = none_fit op.Ones args f.1
  all_fit (op.Unary u) [] h e f = absurd f.1
  all_fit (op.Unary u) (a ∷ []) h e f = let q = fine a e.0 f.1.0 in ((q.0, tt), ap (unary_width u) q.1 ∙ f.1.1)
  all_fit (op.Unary u) (a ∷ b ∷ more) h e f = absurd f.1
  all_fit (op.Binary o) [] h e f = absurd f.1
  all_fit (op.Binary o) (a ∷ []) h e f = absurd f.1
  all_fit (op.Binary o) (a ∷ b ∷ []) h e f =
      let q = fine a e.0 f.1.0 in
      let r = fine b e.1.0 f.1.1 in
      ((q.0, r.0, subst (λ n. BinaryFits o n (width_at lines (replaced fates b).line)) (sym q.1) (subst (λ n. BinaryFits o (width_at before a.line) n) (sym r.1) f.1.2)), ap (λ n. binary_width o n (width_at lines (replaced fates b).line)) q.1 ∙ ap (binary_width o (width_at before a.line)) r.1 ∙ f.1.3)
  all_fit (op.Binary o) (a ∷ b ∷ c ∷ more) h e f = absurd f.1
  all_fit op.Ite [] h e f = absurd f.1
  all_fit op.Ite (a ∷ []) h e f = absurd f.1
  all_fit op.Ite (a ∷ b ∷ []) h e f = absurd f.1
  all_fit op.Ite (c ∷ a ∷ b ∷ []) h e f =
      let q = fine c e.0 (omega (arith, f.1.0)) in
      let r = fine a e.1.0 (omega (arith, f.0, f.1.1)) in
      let t = fine b e.1.1.0 (omega (arith, f.0, f.1.2)) in
      ((q.0, r.0, t.0, q.1 ∙ f.1.0, r.1 ∙ f.1.1 ∙ sym (t.1 ∙ f.1.2)), r.1 ∙ f.1.1)
  all_fit op.Ite (a ∷ b ∷ c ∷ d ∷ more) h e f = absurd f.1
  all_fit (op.Slice high low) [] h e f = absurd f.1
  all_fit (op.Slice high low) (a ∷ []) h e f = let q = fine a e.0 (omega (arith, f.1.1)) in ((q.0, (f.1.0, omega (arith, f.1.1, q.1))), f.1.2)
  all_fit (op.Slice high low) (a ∷ b ∷ more) h e f = absurd f.1
  all_fit (op.Uext n) [] h e f = absurd f.1
  all_fit (op.Uext n) (a ∷ []) h e f = let q = fine a e.0 f.1.0 in ((q.0, omega (arith, q.1, f.1.1, small)), omega (arith, q.1, f.1.1))
  all_fit (op.Uext n) (a ∷ b ∷ more) h e f = absurd f.1
  all_fit (op.Sext n) [] h e f = absurd f.1
  all_fit (op.Sext n) (a ∷ []) h e f = let q = fine a e.0 f.1.0 in ((q.0, omega (arith, q.1, f.1.1, small)), omega (arith, q.1, f.1.1))
  all_fit (op.Sext n) (a ∷ b ∷ more) h e f = absurd f.1
  all_fit o args h e f = absurd (cc)

-- the operand that has a fact is one of an argument
pub arg_of : (lines : List Line) (fates : List Outcome) (n : ℕ) (before : List Line) (P : Operand → Type 0) (args : List Arg) → AreEarlier n args → AllByRecursion (λ (a : Arg). 1 ≤ width_at before a.line) args → HasOperand (operands_of lines fates args) P → (a : Arg) × (a.line < n) × (1 ≤ width_at before a.line) × P (operand_of lines fates a)
arg_of lines fates n before P [] e w h = absurd h
arg_of lines fates n before P (a ∷ []) e w h = (a, e.0, w.0, h)
arg_of lines fates n before P (a ∷ b ∷ []) e w h = elim h [ inl x ↦ (a, e.0, w.0, x) | inr x ↦ (b, e.1.0, w.1.0, x) ]
arg_of lines fates n before P (a ∷ b ∷ c ∷ []) e w h =
    elim h [ inl x ↦ (a, e.0, w.0, x) | inr y ↦ elim y [ inl x ↦ (b, e.1.0, w.1.0, x) | inr x ↦ (c, e.1.1.0, w.1.1.0, x) ] ]
arg_of lines fates n before P (a ∷ b ∷ c ∷ d ∷ more) e w h = absurd h

there_all : (fates : List Outcome) (n : ℕ) (args : List Arg) → n ≡ length fates → AreEarlier n args → AreThere fates args
there_all fates n [] h e = tt
there_all fates n (a ∷ more) h e = (omega (arith, e.0, h), there_all fates n more h e.1)

ready_all : (lines : List Line) (fates : List Outcome) (before : List Line) (args : List Arg) → ((a : Arg) → a.line < length fates → 1 ≤ width_at before a.line → IsReady lines fates a) → AreEarlier (length fates) args → AllByRecursion (λ (a : Arg). 1 ≤ width_at before a.line) args → AreReady lines fates args
ready_all lines fates before [] h e w = tt
ready_all lines fates before (a ∷ more) h e w = (h a e.0 w.0, ready_all lines fates before more h e.1 w.1)

-- facts of the line that comes next
module _ (lines : List Line) (fates : List Outcome) (l : Line) (next : IsNextLine lines fates l) where
  pub inside : length fates < length lines
  inside = slice_get_inside lines (length fates) l next.at

  pub few : length fates < 2 ^ 31
  few = let h = lines_short lines next.well_formed in omega (arith, inside, h)

  front_long : length (take (length fates) lines) ≡ length fates
  front_long = omega (arith, length-take (length fates) lines, inside)

  pub fits : Fits (take (length fates) lines) l
  fits = next.well_formed.by_line (length fates) l next.at

  pub earlier : AreEarlier (length fates) l.args
  earlier = subst (λ n. AreEarlier n l.args) front_long fits.body.earlier

  pub short : IsShort l.args
  short = fits_short (take (length fates) lines) l.sort l.op l.args fits.body.sorts

  module _ (shared : is_shared l.op ≡ true) where
    pub words : AllByRecursion (λ (a : Arg). 1 ≤ width_at (take (length fates) lines) a.line) l.args
    words = worded (take (length fates) lines) l.sort l.op l.args shared fits.body.sorts

    pub width_in_lines : (a : Arg) → 1 ≤ width_at (take (length fates) lines) a.line → 1 ≤ width_at lines a.line
    width_in_lines a h = subst (λ n. 1 ≤ n) (sym (width_before lines (length fates) a.line h)) h

    pub ready : AreReady lines fates l.args
    ready =
        ready_all lines fates (take (length fates) lines) l.args (λ a h g. ready_arg lines fates next.well_formed next.known a h (width_in_lines a g)) earlier words

    front_small : sort_at (take (length fates) lines) l.sort ≤ WIDEST
    front_small = small_choice (cases_Bool (has_word l.op))
      where
        small_choice : (has_word l.op ≡ true) ⊎ (has_word l.op ≡ false) → sort_at (take (length fates) lines) l.sort ≤ WIDEST
        small_choice (inl h) = let word = worded_line lines (length fates) l next.well_formed next.at h in omega (arith, word.sort_at_front, sort_small lines l.sort next.well_formed)
        small_choice (inr h) = sort_small (take (length fates) lines) l.sort (well_formed_take lines (length fates) next.well_formed)

    both_fit : OperandsFit l.op (operands_of lines fates l.args) × GivesWidth l.op (operands_of lines fates l.args) (sort_at (take (length fates) lines) l.sort)
    both_fit =
        all_fit lines fates (take (length fates) lines) l.sort front_small
        (λ a h g.
        let lt : a.line < length fates = omega (arith, h, front_long) in
        let m = moved_arg lines fates a next.known lt in
        (operand_fits lines fates next.well_formed next.known a lt (width_in_lines a g), m.width ∙ width_before lines (length fates) a.line g))
        l.op l.args shared fits.body.earlier fits.body.sorts

    pub operands_fit : OperandsFit l.op (operands_of lines fates l.args)
    operands_fit = both_fit.0

    pub outcome_fits : OutcomeFits (outcome l.op (operands_of lines fates l.args)) (operands_of lines fates l.args) (sort_at (take (length fates) lines) l.sort)
    outcome_fits = rules_fit l.op (operands_of lines fates l.args) (sort_at (take (length fates) lines) l.sort) both_fit.0 both_fit.1

    constant_sort : is_constant l.op ≡ true → (1 ≤ sort_at lines l.sort) × (sort_at lines l.sort ≤ WIDEST)
    constant_sort h = let word = worded_line lines (length fates) l next.well_formed next.at (constant_word l.op h) in (word.least, sort_small lines l.sort next.well_formed)
      where
        constant_word : (o : LineOp) → is_constant o ≡ true → has_word o ≡ true
        constant_word (op.Constant c) h = refl
        constant_word op.One h = refl
        constant_word op.Zero h = refl
        constant_word op.Ones h = refl
        constant_word o h = absurd (cc)

    pub can_say : CanSay lines fates l
    can_say =
        record {
          well_formed = next.well_formed;
          short = short;
          there = there_all fates (length fates) l.args refl earlier;
          few = omega (arith, inside);
          sort = λ h. (worded_line lines (length fates) l next.well_formed next.at (shared_word l.op shared h)).inside;
          width = constant_sort;
        }
