-- The word of a line, as the code computes it.
use Rattle.std.proofs.Common.{◌≡◌, ℕ, ◌+◌, ◌-◌, ◌<◌, ◌≤◌, ◌^◌, Bool, true, false, List, [], ◌∷◌, length, take, drop, Option, Some, None, refl, sym, ap, ◌∙◌, subst, arith, inl, inr, ◌⊎◌}
use Rattle.std.specs.Prelude.{slice_get, slice_set, slice_index_or, IfSome}
use Rattle.std.proofs.lemmas.List.{get_or-take, length-take-le, take-append-drop}
use Rattle.std.proofs.Math.Nat.{one-le-pow}
use Rattle.word_core.specs.Words.{BitVector, IsWord}
use Rattle.word_core.specs.Table.{unary_of, binary_of, ite_of, slice_of, uext_of, sext_of, BinaryFits}
use Rattle.word_core.specs.declared.word.TheConstants.{WIDEST}
use Rattle.btor_tree.specs.declared.args.Arg.{Arg}
use Rattle.btor_tree.specs.declared.lines.Line.{Line}
use Rattle.btor_tree.specs.declared.lines.LineOp.{LineOp}
use Rattle.btor_tree.specs.declared.lines.LineOp.TheVariants.{Constant, One, Zero, Ones, Unary, Binary, Ite, Slice, Uext, Sext}
use Rattle.btor_tree.specs.Fits.{OnOne, OnTwo, OnThree, has_word, AreEarlier, OpFits, IsWellFormed, sort_at, width_at, kind_at, is_constant, state_value, greatest_id}
use Rattle.btor_tree.specs.Frame.{nothing, word_at, signed_word, operand, constant_word, constant_of, IsFrame, read_or}
use Rattle.btor_tree.proofs.Words.{computed}
use Rattle.btor_tree.proofs.Widths.{sort_small, sort_there, sort_front, one_lt, Wide, wide, operand_is, line_at}
use Rattle.btor_tree.proofs.Paths.{well_formed_take, init_facts, next_facts, init_operand_same, line_of_kind, constant_at, constant_at_wide}
use Rattle.btor_tree.proofs.Grows.{slice_get_inside, lines_short}
use Rattle.btor_frames.specs.Steps.{value_kind, value_word}

-- a constant line is there, and its width is that of a word
pub record ConstantFacts (lines : List Line) (i : ℕ) : Type 0 where
  pub inside : i < length lines
  pub small : length lines ≤ greatest_id
  pub some : 1 ≤ width_at lines i
  pub narrow : width_at lines i ≤ WIDEST
  pub one_fits : 1 < 2 ^ width_at lines i
  pub zero_fits : 0 < 2 ^ width_at lines i

pub constant_facts : (lines : List Line) (i : ℕ) → IsWellFormed lines → kind_at is_constant lines i ≡ true → ConstantFacts lines i
constant_facts lines i w h =
    let l = line_of_kind is_constant lines i h in
    let is = constant_at_wide lines i w h in
    let some : 1 ≤ width_at lines i = subst (λ n. 1 ≤ n) is.1 is.0.0 in
    record {
      inside = slice_get_inside lines i l.0 l.1;
      small = lines_short lines w;
      some = some;
      narrow = subst (λ n. n ≤ WIDEST) is.1 is.0.1;
      one_fits = one_lt (width_at lines i) some;
      zero_fits = one-le-pow (width_at lines i) 2 (omega arith);
    }

pub constant_fits : (lines : List Line) (i v b : ℕ) → ConstantFacts lines i → v ≡ width_at lines i → b < 2 ^ width_at lines i → IsWord (record { width = v; bits = b })
constant_fits lines i v b f e h =
    let p = ap (λ n. 2 ^ n) e in
    (omega (arith, f.some, e), omega (arith, f.narrow, e), omega (arith, p, h))

pub operand_take : (row : List BitVector) (i : ℕ) (a : Arg) → a.line < i → operand (take i row) a ≡ operand row a
operand_take row i a h = ap (signed_word a.negated) (get_or-take i row a.line nothing h)

pub if_some : {X : Type 0} (o : Option X) (P : X → Type 0) (x : X) → o ≡ Some x → P x → IfSome o P
if_some o P x e h = subst (λ p. IfSome p P) (sym e) h

one_map : (P Q : Arg → Type 0) (n : ℕ) (args : List Arg) → AreEarlier n args → OnOne args P → ((a : Arg) → a.line < n → P a → Q a) → OnOne args Q
one_map P Q n [] e h f = h
one_map P Q n (a ∷ []) e h f = f a e.0 h
one_map P Q n (a ∷ b ∷ more) e h f = h

two_map : (P Q : Arg → Arg → Type 0) (n : ℕ) (args : List Arg) → AreEarlier n args → OnTwo args P → ((a b : Arg) → a.line < n → b.line < n → P a b → Q a b) → OnTwo args Q
two_map P Q n [] e h f = h
two_map P Q n (a ∷ []) e h f = h
two_map P Q n (a ∷ b ∷ []) e h f = f a b e.0 e.1.0 h
two_map P Q n (a ∷ b ∷ c ∷ more) e h f = h

three_map : (P Q : Arg → Arg → Arg → Type 0) (n : ℕ) (args : List Arg) → AreEarlier n args → OnThree args P → ((a b c : Arg) → a.line < n → b.line < n → c.line < n → P a b c → Q a b c) → OnThree args Q
three_map P Q n [] e h f = h
three_map P Q n (a ∷ []) e h f = h
three_map P Q n (a ∷ b ∷ []) e h f = h
three_map P Q n (a ∷ b ∷ c ∷ []) e h f = f a b c e.0 e.1.0 e.1.1.0 h
three_map P Q n (a ∷ b ∷ c ∷ d ∷ more) e h f = h

-- the word of an operator on the only argument, of which the words so far are enough
one_computed : (row : List BitVector) (i : ℕ) (f : BitVector → BitVector) (word : List Arg → BitVector) (args : List Arg) (x : BitVector) → ((a : Arg) → f (operand (take i row) a) ≡ word (a ∷ [])) → AreEarlier i args → OnOne args (λ a. x ≡ f (operand row a)) → x ≡ word args
one_computed row i f word [] x is e h = absurd h
one_computed row i f word (a ∷ []) x is e h = h ∙ ap f (sym (operand_take row i a e.0)) ∙ is a
one_computed row i f word (a ∷ b ∷ more) x is e h = absurd h

-- the same of two arguments, where the word is put
two_put : (row new : List BitVector) (i : ℕ) (f : BitVector → BitVector → BitVector) (word : List Arg → BitVector) (args : List Arg) → ((a b : Arg) → f (operand (take i row) a) (operand (take i row) b) ≡ word (a ∷ b ∷ [])) → AreEarlier i args
    → OnTwo args (λ a b. new ≡ slice_set row i (f (operand row a) (operand row b))) → new ≡ slice_set row i (word args)
two_put row new i f word [] is e h = absurd h
two_put row new i f word (a ∷ []) is e h = absurd h
two_put row new i f word (a ∷ b ∷ []) is e h =
    h ∙ ap (slice_set row i) (ap (λ u. f u (operand row b)) (sym (operand_take row i a e.0)) ∙ ap (f (operand (take i row) a)) (sym (operand_take row i b e.1.0)) ∙ is a b)
two_put row new i f word (a ∷ b ∷ c ∷ more) is e h = absurd h

-- the words of the first two arguments are those of both
pub joined_put : (P : Arg → Arg → Type 0) (args : List Arg) (row new : List BitVector) (i : ℕ) (f : BitVector → BitVector → BitVector) (x y : Arg) → OnTwo args P → x ≡ slice_index_or args 0 x → y ≡ slice_index_or args 1 y
    → new ≡ slice_set row i (f (operand row x) (operand row y)) → OnTwo args (λ a b. new ≡ slice_set row i (f (operand row a) (operand row b)))
joined_put P [] row new i f x y h e g q = h
joined_put P (a ∷ []) row new i f x y h e g q = h
joined_put P (a ∷ b ∷ []) row new i f x y h e g q =
    q ∙ ap (λ u. slice_set row i (f (operand row u) (operand row y))) e ∙ ap (λ u. slice_set row i (f (operand row a) (operand row u))) g
joined_put P (a ∷ b ∷ c ∷ more) row new i f x y h e g q = h

three_computed : (row : List BitVector) (i : ℕ) (f : BitVector → BitVector → BitVector → BitVector) (word : List Arg → BitVector) (args : List Arg) (x : BitVector) → ((a b c : Arg) → f (operand (take i row) a) (operand (take i row) b) (operand (take i row) c) ≡ word (a ∷ b ∷ c ∷ [])) → AreEarlier i args → OnThree args (λ a b c. x ≡ f (operand row a) (operand row b) (operand row c)) → x ≡ word args
three_computed row i f word [] x is e h = absurd h
three_computed row i f word (a ∷ []) x is e h = absurd h
three_computed row i f word (a ∷ b ∷ []) x is e h = absurd h
three_computed row i f word (a ∷ b ∷ c ∷ []) x is e h =
    h
    ∙ ap (λ u. f u (operand row b) (operand row c)) (sym (operand_take row i a e.0))
    ∙ ap (λ u. f (operand (take i row) a) u (operand row c)) (sym (operand_take row i b e.1.0))
    ∙ ap (f (operand (take i row) a) (operand (take i row) b)) (sym (operand_take row i c e.1.1.0))
    ∙ is a b c
three_computed row i f word (a ∷ b ∷ c ∷ d ∷ more) x is e h = absurd h

-- an earlier argument has a word of its line's width
operand_width : (before : List Line) (row : List BitVector) (i : ℕ) (a : Arg) → Wide before (take i row) → a.line < i → 1 ≤ width_at before a.line → (operand row a).width ≡ width_at before a.line
operand_width before row i a w h p =
    ap (λ x. x.width) (sym (operand_take row i a h)) ∙ (operand_is (take i row) a (width_at before a.line) (w a.line p)).1

-- the kinds of constant line
pub one_of_constants : (op : LineOp) → ((x : BitVector) × (op ≡ Constant x)) ⊎ ((op ≡ One) ⊎ ((op ≡ Zero) ⊎ (op ≡ Ones))) → is_constant op ≡ true
one_of_constants op h =
    elim h [
      | inl e ↦ ap is_constant e.1
      | inr more ↦ elim more [
        | inl e ↦ ap is_constant e
        | inr last ↦ elim last [ inl e ↦ ap is_constant e | inr e ↦ ap is_constant e ]
      ]
    ]

-- a constant line's word is computed from the line alone
constant_computed : (lines before : List Line) (row : List BitVector) (s : ℕ) (op : LineOp) (args : List Arg) (given : BitVector) → is_constant op ≡ true → sort_at lines s ≡ sort_at before s → constant_word (sort_at lines s) op ≡ computed before row s op args given
constant_computed lines before row s One args given c e = ap (λ n. record { width = n; bits = 1 }) e
constant_computed lines before row s Zero args given c e = ap (λ n. record { width = n; bits = 0 }) e
constant_computed lines before row s Ones args given c e = ap (λ n. record { width = n; bits = 2 ^ n - 1 }) e
constant_computed lines before row s (Constant x) args given c e = refl
constant_computed lines before row s op args given c e = absurd (cc)

constant_has_word : (op : LineOp) → is_constant op ≡ true → has_word op ≡ true
constant_has_word (Constant x) h = refl
constant_has_word One h = refl
constant_has_word Zero h = refl
constant_has_word Ones h = refl
constant_has_word op h = absurd (cc)

module _ (lines : List Line) (i : ℕ) (l : Line) (row : List BitVector) (w : IsWellFormed lines) (g : slice_get lines i ≡ Some l) (inside : i < length lines) (long : length row ≡ length lines) where
  earlier : AreEarlier i l.args
  earlier = subst (λ n. AreEarlier n l.args) (length-take-le i lines (omega arith)) (w.by_line i l g).body.earlier

  pub fits_as : (op : LineOp) → l.op ≡ op → OpFits (take i lines) l.sort op l.args
  fits_as op e = subst (λ o. OpFits (take i lines) l.sort o l.args) e (w.by_line i l g).body.sorts

  wide_here : IsFrame (take i lines) (take i row) → Wide (take i lines) (take i row)
  wide_here f = wide (take i lines) (take i row) (well_formed_take lines i w) f.meets

  -- an argument's word has its line's width
  has_width : IsFrame (take i lines) (take i row) → (a : Arg) → a.line < i → 1 ≤ width_at (take i lines) a.line → (operand row a).width ≡ width_at (take i lines) a.line
  has_width f a h p = operand_width (take i lines) row i a (wide_here f) h p

  small : sort_at (take i lines) l.sort ≤ WIDEST
  small = sort_small (take i lines) l.sort (well_formed_take lines i w)

  pub unary_owes : (op : _) → l.op ≡ Unary op → OnOne l.args (λ a. a.line < length row)
  unary_owes op e = one_map _ _ i l.args earlier (fits_as (Unary op) e).1 (λ a h p. omega arith)

  pub binary_owes : (op : _) → l.op ≡ Binary op → IsFrame (take i lines) (take i row) → OnTwo l.args (λ a b. (a.line < length row) × (b.line < length row) × BinaryFits op (operand row a).width (operand row b).width)
  binary_owes op e f =
      two_map _ _ i l.args earlier (fits_as (Binary op) e).1 (λ a b h k p. (
        omega arith,
        omega arith,
        subst (λ n. BinaryFits op n (operand row b).width) (sym (has_width f a h p.0)) (subst (BinaryFits op (width_at (take i lines) a.line)) (sym (has_width f b k p.1)) p.2),
      ))

  pub ite_owes : l.op ≡ Ite → IsFrame (take i lines) (take i row) → OnThree l.args (λ c a b. (c.line < length row) × (a.line < length row) × (b.line < length row) × ((operand row c).width ≡ 1) × ((operand row a).width ≡ (operand row b).width))
  ite_owes e f =
      let fits = fits_as Ite e in
      three_map _ _ i l.args earlier fits.1 (λ c a b h j k p. (
        omega arith,
        omega arith,
        omega arith,
        has_width f c h (omega (arith, p.0)) ∙ p.0,
        has_width f a j (omega (arith, p.1, fits.0)) ∙ p.1 ∙ sym (has_width f b k (omega (arith, p.2, fits.0)) ∙ p.2),
      ))

  pub slice_owes : (high low : ℕ) → l.op ≡ Slice high low → IsFrame (take i lines) (take i row) → OnOne l.args (λ a. (a.line < length row) × (low ≤ high) × (high < (operand row a).width))
  slice_owes high low e f =
      one_map _ _ i l.args earlier (fits_as (Slice high low) e).1 (λ a h p. (omega arith, p.0, subst (λ n. high < n) (sym (has_width f a h (omega (arith, p.1)))) p.1))

  extended : (n : ℕ) → OnOne l.args (λ a. (1 ≤ width_at (take i lines) a.line) × (width_at (take i lines) a.line + n ≡ sort_at (take i lines) l.sort)) → IsFrame (take i lines) (take i row) → OnOne l.args (λ a. (a.line < length row) × ((operand row a).width + n ≤ WIDEST))
  extended n fits f =
      one_map _ _ i l.args earlier fits (λ a h p. (omega arith, omega (arith, has_width f a h p.0, p.1, small)))

  pub uext_owes : (n : ℕ) → l.op ≡ Uext n → IsFrame (take i lines) (take i row) → OnOne l.args (λ a. (a.line < length row) × ((operand row a).width + n ≤ WIDEST))
  uext_owes n e f = extended n (fits_as (Uext n) e).1 f

  pub sext_owes : (n : ℕ) → l.op ≡ Sext n → IsFrame (take i lines) (take i row) → OnOne l.args (λ a. (a.line < length row) × ((operand row a).width + n ≤ WIDEST))
  sext_owes n e f = extended n (fits_as (Sext n) e).1 f

  -- the line's word is what its equation gives
  abbrev pub IsComputed : BitVector → BitVector → Type 0
  IsComputed x given =
      IfSome (slice_get lines i) (λ k. x ≡ computed (take i lines) (take i row) k.sort k.op k.args given)

  here : (op : LineOp) (x given : BitVector) → l.op ≡ op → x ≡ computed (take i lines) (take i row) l.sort op l.args given → IsComputed x given
  here op x given e h =
      if_some (slice_get lines i) _ l g (subst (λ o. x ≡ computed (take i lines) (take i row) l.sort o l.args given) (sym e) h)

  -- the word that the words so far give at an operator
  abbrev gives_at : LineOp → BitVector → List Arg → BitVector
  gives_at op given args = computed (take i lines) (take i row) l.sort op args given

  pub unary_gives : (op : _) (x given : BitVector) → l.op ≡ Unary op → OnOne l.args (λ a. x ≡ unary_of op (operand row a)) → IsComputed x given
  unary_gives op x given e h =
      here (Unary op) x given e (one_computed row i (unary_of op) (gives_at (Unary op) given) l.args x (λ a. refl) earlier h)

  pub binary_puts : (op : _) (new : List BitVector) → l.op ≡ Binary op → OnTwo l.args (λ a b. new ≡ slice_set row i (binary_of op (operand row a) (operand row b))) → IfSome (slice_get lines i) (λ k. new ≡ slice_set row i (computed (take i lines) (take i row) k.sort k.op k.args nothing))
  binary_puts op new e h =
      if_some (slice_get lines i) _ l g (subst (λ o. new ≡ slice_set row i (computed (take i lines) (take i row) l.sort o l.args nothing)) (sym e) (two_put row new i (binary_of op) (gives_at (Binary op) nothing) l.args (λ a b. refl) earlier h))

  pub ite_gives : (x given : BitVector) → l.op ≡ Ite → OnThree l.args (λ c a b. x ≡ ite_of (operand row c) (operand row a) (operand row b)) → IsComputed x given
  ite_gives x given e h =
      here Ite x given e (three_computed row i ite_of (gives_at Ite given) l.args x (λ a b c. refl) earlier h)

  pub slice_gives : (high low : ℕ) (x given : BitVector) → l.op ≡ Slice high low → OnOne l.args (λ a. x ≡ slice_of (operand row a) high low) → IsComputed x given
  slice_gives high low x given e h =
      here (Slice high low) x given e (one_computed row i (λ u. slice_of u high low) (gives_at (Slice high low) given) l.args x (λ a. refl) earlier h)

  pub uext_gives : (n : ℕ) (x given : BitVector) → l.op ≡ Uext n → OnOne l.args (λ a. x ≡ uext_of (operand row a) n) → IsComputed x given
  uext_gives n x given e h =
      here (Uext n) x given e (one_computed row i (λ u. uext_of u n) (gives_at (Uext n) given) l.args x (λ a. refl) earlier h)

  pub sext_gives : (n : ℕ) (x given : BitVector) → l.op ≡ Sext n → OnOne l.args (λ a. x ≡ sext_of (operand row a) n) → IsComputed x given
  sext_gives n x given e h =
      here (Sext n) x given e (one_computed row i (λ u. sext_of u n) (gives_at (Sext n) given) l.args x (λ a. refl) earlier h)

  pub constant_gives : (x given : BitVector) → is_constant l.op ≡ true → x ≡ constant_at lines i → IsComputed x given
  constant_gives x given c e =
      let before = take i lines in
      let there = sort_there before l.sort l.op l.args (fits_as l.op refl) (constant_has_word l.op c) in
      let s : sort_at lines l.sort ≡ sort_at before l.sort =
      ap (λ ls. sort_at ls l.sort) (sym (take-append-drop i lines)) ∙ sort_front before (drop i lines) l.sort there in
      here l.op x given refl (e ∙ ap (constant_of lines) g ∙ constant_computed lines before (take i row) l.sort l.op l.args given c s)

-- a word is put
pub put_here : (lines : List Line) (i : ℕ) (row new : List BitVector) (x : BitVector) → new ≡ slice_set row i x → IfSome (slice_get lines i) (λ k. x ≡ computed (take i lines) (take i row) k.sort k.op k.args nothing)
    → IfSome (slice_get lines i) (λ k. new ≡ slice_set row i (computed (take i lines) (take i row) k.sort k.op k.args nothing))
put_here lines i row new x e h = go (slice_get lines i) h
  where
    go : (o : Option Line) → IfSome o (λ k. x ≡ computed (take i lines) (take i row) k.sort k.op k.args nothing) → IfSome o (λ k. new ≡ slice_set row i (computed (take i lines) (take i row) k.sort k.op k.args nothing))
    go None q = q
    go (Some k) q = e ∙ ap (slice_set row i) q

width_inside : (lines : List Line) (i : ℕ) → 1 ≤ width_at lines i → i < length lines
width_inside lines i h = let g = line_at lines i h in slice_get_inside lines i g.0 g.1

pub value_inside : (begun : Bool) (lines : List Line) (s : ℕ) (a : Arg) → IsWellFormed lines → state_value (value_kind begun) lines s ≡ Some a → a.line < length lines
value_inside true lines s a w h = width_inside lines a.line (next_facts lines s a w h).there
value_inside false lines s a w h = width_inside lines a.line (init_facts lines s a w h).1.there

-- a value's word depends on earlier words alone
pub value_same : (begun : Bool) (lines : List Line) (last row other : List BitVector) (i : ℕ) (a : Arg) → IsWellFormed lines → state_value (value_kind begun) lines i ≡ Some a → ((k : ℕ) → k < i → word_at row k ≡ word_at other k) → value_word begun lines last row a ≡ value_word begun lines last other a
value_same true lines last row other i a w h same = refl
value_same false lines last row other i a w h same =
    init_operand_same lines i row other a same (init_facts lines i a w h).0

pub reads_state : (begun : Bool) (lines : List Line) (last row : List BitVector) (i : ℕ) (a : Arg) (x : BitVector) → IsWellFormed lines → state_value (value_kind begun) lines i ≡ Some a → value_word begun lines last row a ≡ read_or (state_value (value_kind begun) lines i) (value_word begun lines last (take i row)) x
reads_state begun lines last row i a x w h =
    value_same begun lines last row (take i row) i a w h (λ k q. sym (get_or-take i row k nothing q))
    ∙ sym (ap (λ o. read_or o (value_word begun lines last (take i row)) x) h)
