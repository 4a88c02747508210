-- Each word of a frame is a word of its line's width.
use Rattle.std.proofs.Common.{◌≡◌, ℕ, zero, suc, ◌<◌, ◌≤◌, ◌^◌, ◌+◌, ◌-◌, ◌/◌, Bool, true, false, cond, List, [], ◌∷◌, ◌++◌, take, drop, Option, Some, None, refl, sym, ap, ◌∙◌, subst, arith, inl, inr, ◌⊎◌, eqb}
use Rattle.std.specs.Prelude.{slice_get}
use Rattle.std.proofs.lemmas.List.{take-append-drop, length-take}
use Rattle.std.proofs.Math.Nat.{one-le-pow, pow-le-pow_right, mod-lt}
use Rattle.word_core.specs.Words.{BitVector, IsWord}
use Rattle.word_core.specs.declared.word.TheConstants.{WIDEST}
use Rattle.word_core.specs.Table.{BinaryFits, unary_width, binary_width, is_minus, slice_of, uext_of, sext_of}
use Rattle.word_core.specs.laws.Rows.{unary_is_word, binary_is_word, uext_is_word, sext_is_word}
use Rattle.btor_tree.specs.declared.args.Arg.{Arg}
use Rattle.btor_tree.specs.declared.lines.Line.{Line}
use Rattle.btor_tree.specs.declared.lines.LineOp.{LineOp}
use Rattle.btor_tree.specs.declared.lines.LineOp.TheVariants.{Sort, Input, State, Constant, One, Zero, Ones, Unary, Binary, Ite, Slice, Uext, Sext}
use Rattle.word_core.specs.declared.kinds.Unary.TheVariants.{Not}
use Rattle.btor_tree.specs.Fits.{OpFits, IsWellFormed, sort_at, sort_width, width_at, has_word}
use Rattle.btor_tree.specs.Frame.{word_at, signed_word, operand, Equation, Meets}
use Rattle.btor_tree.proofs.AtPlaces.{width_of_sort, width_of_line}
use Rattle.btor_tree.proofs.Grows.{slice_get_front, slice_get_inside}

-- a list's option, with its equation
pub option_cases : {X : Type 0} (o : Option X) → (o ≡ None) ⊎ ((x : X) × (o ≡ Some x))
option_cases None = inl refl
option_cases (Some x) = inr (x, refl)

sort_from_some : (o : Option Line) → 1 ≤ width_of_sort o → (l : Line) × (o ≡ Some l)
sort_from_some None h = absurd (omega (arith, h))
sort_from_some (Some l) h = (l, refl)

-- a sort that is there stays where lines are added
pub sort_front : (xs ys : List Line) (s : ℕ) → 1 ≤ sort_at xs s → sort_at (xs ++ ys) s ≡ sort_at xs s
sort_front xs ys s h =
    let g = sort_from_some (slice_get xs s) h in
    ap width_of_sort (slice_get_front xs ys s g.0 g.1 ∙ sym g.1)

from_cond : (b : Bool) (m : ℕ) → 1 ≤ cond b m 0 → (b ≡ true) × (cond b m 0 ≡ m)
from_cond true m h = (refl, refl)
from_cond false m h = absurd (omega (arith, h))

word_from_width : (lines : List Line) (o : Option Line) → 1 ≤ width_of_line lines o → (l : Line) × (o ≡ Some l) × (has_word l.op ≡ true) × (width_of_line lines o ≡ sort_at lines l.sort)
word_from_width lines None h = absurd (omega (arith, h))
word_from_width lines (Some l) h = let g = from_cond (has_word l.op) (sort_at lines l.sort) h in (l, refl, g.0, g.1)

-- the line behind a width
pub line_at : (lines : List Line) (i : ℕ) → 1 ≤ width_at lines i → (l : Line) × (slice_get lines i ≡ Some l) × (has_word l.op ≡ true) × (width_at lines i ≡ sort_at lines l.sort)
line_at lines i h = word_from_width lines (slice_get lines i) h

pub width_front : (xs ys : List Line) (i : ℕ) → 1 ≤ width_at xs i → width_at (xs ++ ys) i ≡ width_at xs i
width_front xs ys i h =
    let g = line_at xs i h in
    ap (width_of_line (xs ++ ys)) (slice_get_front xs ys i g.0 g.1)
    ∙ ap (λ b. cond b (sort_at (xs ++ ys) g.0.sort) 0) g.2
    ∙ sort_front xs ys g.0.sort (subst (λ n. 1 ≤ n) g.3 h)
    ∙ sym g.3

pub op_small : (before : List Line) (s : ℕ) (op : LineOp) (args : List Arg) → OpFits before s op args → sort_width op ≤ WIDEST
op_small before s (Sort w) args f = f.1
op_small before s op args f = omega arith

option_small : (o : Option Line) → ((l : Line) → o ≡ Some l → sort_width l.op ≤ WIDEST) → width_of_sort o ≤ WIDEST
option_small None h = omega arith
option_small (Some l) h = h l refl

pub sort_small : (lines : List Line) (s : ℕ) → IsWellFormed lines → sort_at lines s ≤ WIDEST
sort_small lines s w =
    option_small (slice_get lines s) (λ l h. op_small (take s lines) l.sort l.op l.args (w.by_line s l h).body.sorts)

width_choice : (b : Bool) (m : ℕ) → m ≤ WIDEST → cond b m 0 ≤ WIDEST
width_choice true m h = h
width_choice false m h = omega arith

option_width_small : (lines : List Line) (o : Option Line) → IsWellFormed lines → width_of_line lines o ≤ WIDEST
option_width_small lines None w = omega arith
option_width_small lines (Some l) w = width_choice (has_word l.op) (sort_at lines l.sort) (sort_small lines l.sort w)

pub width_small : (lines : List Line) (i : ℕ) → IsWellFormed lines → width_at lines i ≤ WIDEST
width_small lines i w = option_width_small lines (slice_get lines i) w

-- a word of this width
abbrev pub IsOfWidth : BitVector → ℕ → Type 0
IsOfWidth x w = IsWord x × (x.width ≡ w)

pub one_lt : (w : ℕ) → 1 ≤ w → 1 < 2 ^ w
one_lt w h = let k : 2 ^ 1 ≤ 2 ^ w = pow-le-pow_right (omega arith) h in omega (arith, k)

pub signed_is : (b : Bool) (x : BitVector) (w : ℕ) → IsOfWidth x w → IsOfWidth (signed_word b x) w
signed_is true x w h = (unary_is_word Not x h.0, h.1)
signed_is false x w h = h

pub operand_is : (row : List BitVector) (a : Arg) (w : ℕ) → IsOfWidth (word_at row a.line) w → IsOfWidth (operand row a) w
operand_is row a w h = signed_is a.negated (word_at row a.line) w h

pub picked_is : (b : Bool) (x y : BitVector) (w : ℕ) → IsOfWidth x w → IsOfWidth y w → IsOfWidth (cond b x y) w
picked_is true x y w h g = h
picked_is false x y w h g = g

slice_is : (a : BitVector) (high low w : ℕ) → high - low + 1 ≡ w → w ≤ WIDEST → IsOfWidth (slice_of a high low) w
slice_is a high low w e t = ((omega arith, omega (arith, e, t), mod-lt (a.bits / 2 ^ low) (one-le-pow (high - low + 1) 2 (omega arith))), e)

uext_is : (a : BitVector) (n v w : ℕ) → IsOfWidth a v → v + n ≡ w → w ≤ WIDEST → IsOfWidth (uext_of a n) w
uext_is a n v w h e t =
    let f : a.width + n ≡ w = ap (λ k. k + n) h.1 ∙ e in
    (uext_is_word a n h.0 (omega (arith, f, t)), f)

pub sext_choice : (b : Bool) (a : BitVector) (n : ℕ) → IsWord a → a.width + n ≤ WIDEST → IsWord (record { width = a.width + n; bits = cond b (a.bits + (2 ^ (a.width + n) - 2 ^ a.width)) a.bits })
sext_choice true a n h f = sext_is_word a n h f
sext_choice false a n h f = uext_is_word a n h f

sext_is : (a : BitVector) (n v w : ℕ) → IsOfWidth a v → v + n ≡ w → w ≤ WIDEST → IsOfWidth (sext_of a n) w
sext_is a n v w h e t =
    let f : a.width + n ≡ w = ap (λ k. k + n) h.1 ∙ e in
    (sext_choice (is_minus a.width a.bits) a n h.0 (omega (arith, f, t)), f)

-- the words at earlier places are of their widths
abbrev pub Wide : List Line → List BitVector → Type 0
Wide before row = (i : ℕ) → 1 ≤ width_at before i → IsOfWidth (word_at row i) (width_at before i)

pub equation_wide : (before : List Line) (row : List BitVector) (s : ℕ) (op : LineOp) (args : List Arg) (x : BitVector) → Wide before row → sort_at before s ≤ WIDEST → OpFits before s op args → Equation before row s op args x → has_word op ≡ true → IsOfWidth x (sort_at before s)
equation_wide before row s Input args x w t f e b = e
equation_wide before row s State args x w t f e b = e
equation_wide before row s (Constant c) args x w t f e b = subst (λ y. IsOfWidth y (sort_at before s)) (sym e) (f.0, f.1)
equation_wide before row s One args x w t f e b =
    subst (λ y. IsOfWidth y (sort_at before s)) (sym e) ((f.0, t, one_lt (sort_at before s) f.0), refl)
equation_wide before row s Zero args x w t f e b =
    subst (λ y. IsOfWidth y (sort_at before s)) (sym e) ((f.0, t, one-le-pow (sort_at before s) 2 (omega arith)), refl)
equation_wide before row s Ones args x w t f e b =
    subst (λ y. IsOfWidth y (sort_at before s)) (sym e) ((f.0, t, omega (arith, one-le-pow (sort_at before s) 2 (omega arith))), refl)
equation_wide before row s (Unary op) [] x w t f e b = absurd e
equation_wide before row s (Unary op) (a ∷ []) x w t f e b =
    let u = operand_is row a (width_at before a.line) (w a.line f.1.0) in
    subst (λ y. IsOfWidth y (sort_at before s)) (sym e) (unary_is_word op (operand row a) u.0, ap (unary_width op) u.1 ∙ f.1.1)
equation_wide before row s (Unary op) (a ∷ c ∷ more) x w t f e b = absurd e
equation_wide before row s (Binary op) [] x w t f e b = absurd e
equation_wide before row s (Binary op) (a ∷ []) x w t f e b = absurd e
equation_wide before row s (Binary op) (a ∷ c ∷ []) x w t f e b =
    let u = operand_is row a (width_at before a.line) (w a.line f.1.0) in
    let v = operand_is row c (width_at before c.line) (w c.line f.1.1) in
    let fits = subst (λ n. BinaryFits op n (operand row c).width) (sym u.1) (subst (λ n. BinaryFits op (width_at before a.line) n) (sym v.1) f.1.2) in
    subst (λ y. IsOfWidth y (sort_at before s)) (sym e) (binary_is_word op (operand row a) (operand row c) u.0 v.0 fits, ap (λ n. binary_width op n (operand row c).width) u.1 ∙ ap (binary_width op (width_at before a.line)) v.1 ∙ f.1.3)
equation_wide before row s (Binary op) (a ∷ c ∷ d ∷ more) x w t f e b = absurd e
equation_wide before row s Ite [] x w t f e b = absurd e
equation_wide before row s Ite (a ∷ []) x w t f e b = absurd e
equation_wide before row s Ite (a ∷ c ∷ []) x w t f e b = absurd e
equation_wide before row s Ite (a ∷ c ∷ d ∷ []) x w t f e b =
    let u = operand_is row c (sort_at before s) (subst (IsOfWidth (word_at row c.line)) f.1.1 (w c.line (omega (arith, f.0, f.1.1)))) in
    let v = operand_is row d (sort_at before s) (subst (IsOfWidth (word_at row d.line)) f.1.2 (w d.line (omega (arith, f.0, f.1.2)))) in
    subst (λ y. IsOfWidth y (sort_at before s)) (sym e) (picked_is (eqb (operand row a).bits 1) (operand row c) (operand row d) (sort_at before s) u v)
equation_wide before row s Ite (a ∷ c ∷ d ∷ g ∷ more) x w t f e b = absurd e
equation_wide before row s (Slice high low) [] x w t f e b = absurd e
equation_wide before row s (Slice high low) (a ∷ []) x w t f e b =
    subst (λ y. IsOfWidth y (sort_at before s)) (sym e) (slice_is (operand row a) high low (sort_at before s) f.1.2 t)
equation_wide before row s (Slice high low) (a ∷ c ∷ more) x w t f e b = absurd e
equation_wide before row s (Uext n) [] x w t f e b = absurd e
equation_wide before row s (Uext n) (a ∷ []) x w t f e b =
    let u = operand_is row a (width_at before a.line) (w a.line f.1.0) in
    subst (λ y. IsOfWidth y (sort_at before s)) (sym e) (uext_is (operand row a) n (width_at before a.line) (sort_at before s) u f.1.1 t)
equation_wide before row s (Uext n) (a ∷ c ∷ more) x w t f e b = absurd e
equation_wide before row s (Sext n) [] x w t f e b = absurd e
equation_wide before row s (Sext n) (a ∷ []) x w t f e b =
    let u = operand_is row a (width_at before a.line) (w a.line f.1.0) in
    subst (λ y. IsOfWidth y (sort_at before s)) (sym e) (sext_is (operand row a) n (width_at before a.line) (sort_at before s) u f.1.1 t)
equation_wide before row s (Sext n) (a ∷ c ∷ more) x w t f e b = absurd e
equation_wide before row s op args x w t f e b = absurd (cc)

-- a sort is before each line with a word
pub sort_there : (before : List Line) (s : ℕ) (op : LineOp) (args : List Arg) → OpFits before s op args → has_word op ≡ true → 1 ≤ sort_at before s
sort_there before s Input args f b = f.0
sort_there before s State args f b = f.0
sort_there before s One args f b = f.0
sort_there before s Zero args f b = f.0
sort_there before s (Constant c) args f b = omega (arith, f.0.0, f.1)
sort_there before s Ones args f b = f.0
sort_there before s (Unary op) args f b = f.0
sort_there before s (Binary op) args f b = f.0
sort_there before s Ite args f b = f.0
sort_there before s (Slice high low) args f b = f.0
sort_there before s (Uext n) args f b = f.0
sort_there before s (Sext n) args f b = f.0
sort_there before s op args f b = absurd (cc)

inside_take : (lines : List Line) (i k : ℕ) → 1 ≤ width_at (take i lines) k → k < i
inside_take lines i k q =
    let g = line_at (take i lines) k q in
    omega (arith, slice_get_inside (take i lines) k g.0 g.1, length-take i lines)

take_split : (lines : List Line) (i : ℕ) → lines ≡ take i lines ++ drop i lines
take_split lines i = sym (take-append-drop i lines)

pub wide_below : (lines : List Line) (row : List BitVector) → IsWellFormed lines → Meets lines row → (n : ℕ) (i : ℕ) → i < n → 1 ≤ width_at lines i → IsOfWidth (word_at row i) (width_at lines i)
wide_below lines row w m zero i h p = absurd (omega (arith, h))
wide_below lines row w m (suc n) i h p =
    let g = line_at lines i p in
    let l = g.0 in
    let before = take i lines in
    let fits = (w.by_line i l g.1).body.sorts in
    let there = sort_there before l.sort l.op l.args fits g.2 in
    let same : sort_at lines l.sort ≡ sort_at before l.sort =
    ap (λ ls. sort_at ls l.sort) (take_split lines i) ∙ sort_front before (drop i lines) l.sort there in
    let earlier : Wide before row = λ k q.
    let e : width_at lines k ≡ width_at before k = ap (λ ls. width_at ls k) (take_split lines i) ∙ width_front before (drop i lines) k q in
    let below : k < i = inside_take lines i k q in
    subst (λ v. IsOfWidth (word_at row k) v) e (wide_below lines row w m n k (omega arith) (subst (λ v. 1 ≤ v) (sym e) q)) in
    let done = equation_wide before row l.sort l.op l.args (word_at row i) earlier (subst (λ v. v ≤ WIDEST) same (sort_small lines l.sort w)) fits (m.by_line i l g.1) g.2 in
    subst (λ v. IsOfWidth (word_at row i) v) (sym (g.3 ∙ same)) done

pub wide : (lines : List Line) (row : List BitVector) → IsWellFormed lines → Meets lines row → Wide lines row
wide lines row w m i p = wide_below lines row w m (suc i) i (omega arith) p
