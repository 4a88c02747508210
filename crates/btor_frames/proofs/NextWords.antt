-- Where words come from, and the words of a frame after frame 0.
use Rattle.std.proofs.Common.{◌≡◌, ◌≢◌, ℕ, zero, suc, ◌+◌, ◌<◌, ◌≤◌, Bool, true, false, List, [], ◌∷◌, ◌++◌, length, take, cond, Some, refl, sym, ap, ◌∙◌, subst, arith, inl, inr}
use Rattle.std.specs.Prelude.{slice_get, slice_set, IfSome}
use Rattle.std.specs.Option.{option_map_or}
use Rattle.std.proofs.lemmas.Option.{same_Some}
use Rattle.std.proofs.lemmas.List.{get_or-set_other}
use Rattle.word_core.specs.Words.{BitVector}
use Rattle.word_core.specs.Table.{binary_of, ite_of, unary_of, BinaryFits}
use Rattle.word_core.specs.declared.kinds.Binary.{Binary as BinaryKind}
use Rattle.word_core.specs.declared.kinds.Unary.TheVariants.{Not}
use Rattle.btor_tree.specs.declared.args.Arg.{Arg}
use Rattle.btor_tree.specs.declared.lines.Line.{Line}
use Rattle.btor_tree.specs.declared.lines.LineOp.{LineOp}
use Rattle.btor_tree.specs.declared.lines.LineOp.TheVariants.{Sort, Input, State, Constant, One, Zero, Ones, Init, Next, Bad, Constraint, Output}
use Rattle.btor_tree.specs.Fits.{IsWellFormed, OnOne, OnTwo, OnThree, count_of, has_word, is_constant, is_input, is_next, is_state, kind_at, plain_arg, state_value}
use Rattle.btor_tree.specs.Frame.{nothing, read_or, word_at, operand, IsFrame}
use Rattle.btor_tree.proofs.Grows.{inside_get, push_cases, slice_get_inside}
use Rattle.btor_tree.proofs.Words.{computed}
use Rattle.btor_tree.proofs.Rows.{row_upto, word_upto}
use Rattle.btor_tree.proofs.Paths.{constant_is, pick}
use Rattle.btor_frames.specs.declared.sources.Source.{Source}
use Rattle.btor_frames.specs.declared.sources.Source.TheVariants.{NoWord}
use Rattle.btor_frames.specs.Sources.{HoldsSources, IsBlank, IsOfLast, IsOnBoth, IsOnOne, IsOnThree, IsSource, IsStateOf}
use Rattle.btor_frames.specs.Steps.{is_given, supplied_at, SuppliedFit}
use Rattle.btor_frames.proofs.Handing.{if_some_at}
use Rattle.btor_frames.proofs.Lines.{binary_owes, binary_puts, constant_gives, if_some, ite_gives, ite_owes, put_here, unary_gives, unary_owes, value_inside}
use Rattle.btor_frames.proofs.Loop.{count_step, giving, made_here, one_more, taken_here}

-- the sources so far, and one more
abbrev pub AreSources : List Line → List Source → Type 0
AreSources lines sources =
    (i : ℕ) (l : Line) (s : Source) → slice_get lines i ≡ Some l → slice_get sources i ≡ Some s → IsSource lines i l s

pub one_more_source : (lines : List Line) (i : ℕ) (l : Line) (sources : List Source) (x : Source) → slice_get lines i ≡ Some l → length sources ≡ i → AreSources lines sources → IsSource lines i l x → AreSources lines (sources ++ x ∷ [])
one_more_source lines i l sources x g sized before here k m s h q =
    elim (push_cases sources x k s q) [
      | inl w ↦ before k m s h w.1
      | inr w ↦
          let e : k ≡ i = w.0 ∙ sized in
          let same : l ≡ m = same_Some l m (sym g ∙ ap (slice_get lines) (sym e) ∙ h) in
          subst (λ n. IsSource lines n m s) (sym e) (subst (IsSource lines i m) w.1 (subst (λ y. IsSource lines i y x) same here))
    ]

-- a line without a word has nothing
no_word : (before : List Line) (row : List BitVector) (s : ℕ) (op : LineOp) (args : List Arg) (given : BitVector) → has_word op ≡ false → computed before row s op args given ≡ nothing
no_word before row s (Sort w) args given h = refl
no_word before row s Init args given h = refl
no_word before row s Next args given h = refl
no_word before row s Bad args given h = refl
no_word before row s Constraint args given h = refl
no_word before row s Output args given h = refl
no_word before row s op args given h = absurd (cc)

-- a filled row has nothing at the places of such lines
pub filled_blank : (lines : List Line) (begun : Bool) (last inputs free row : List BitVector) (sources : List Source) → HoldsSources lines sources → row ≡ row_upto lines (giving begun lines last inputs free) (length lines) → IsBlank sources row
filled_blank lines begun last inputs free row sources h e i q =
    let G = giving begun lines last inputs free in
    let inside : i < length lines = omega (arith, h.sized, slice_get_inside sources i NoWord q) in
    let here = inside_get lines i inside in
    let l = here.0 in
    ap (λ r. word_at r i) e
    ∙ word_upto lines G (length lines) i l inside here.1
    ∙ no_word (take i lines) (row_upto lines G i) l.sort l.op l.args (G l.op i (row_upto lines G i)) (h.at i l NoWord here.1 q)

-- a set word leaves the later ones as they are
pub blank_behind : (sources : List Source) (row new : List BitVector) (i : ℕ) (x : BitVector) → new ≡ slice_set row i x → ((k : ℕ) → i ≤ k → slice_get sources k ≡ Some NoWord → word_at row k ≡ nothing) → (k : ℕ) → i + 1 ≤ k → slice_get sources k ≡ Some NoWord → word_at new k ≡ nothing
blank_behind sources row new i x e before k h q =
    let apart : k ≢ i = λ same. omega (arith, same, h) in
    ap (λ r. word_at r k) e ∙ get_or-set_other row i k x nothing apart ∙ before k (omega (arith, h)) q

-- the line at a place, with its source
pub source_here : (lines : List Line) (i : ℕ) (s t : Source) → i < length lines → IfSome (slice_get lines i) (λ l. IsSource lines i l s) → s ≡ t → (l : Line) × (slice_get lines i ≡ Some l) × IsSource lines i l t
source_here lines i s t inside h e =
    let here = inside_get lines i inside in
    (here.0, here.1, subst (IsSource lines i here.0) e (if_some_at (slice_get lines i) (λ l. IsSource lines i l s) here.0 here.1 h))

module _ (lines : List Line) (last inputs free row : List BitVector) (i : ℕ) where
  -- the word of a line in the frame after `last`, by the words before it
  abbrev pub word_of_line : Line → BitVector
  word_of_line l =
      computed (take i lines) (take i row) l.sort l.op l.args (giving true lines last inputs free l.op i (take i row))

  -- the row with the word of the line at the place
  abbrev pub Puts : List BitVector → Type 0
  Puts new = IfSome (slice_get lines i) (λ l. new ≡ slice_set row i (word_of_line l))

  -- a word of an operator on two lines
  pub puts_joined : (op : BinaryKind) (a b : ℕ) (l : Line) (new : List BitVector) → IsWellFormed lines → i < length lines → length row ≡ length lines → slice_get lines i ≡ Some l → IsOnBoth op a b l → new ≡ slice_set row i (binary_of op (word_at row a) (word_at row b)) → Puts new
  puts_joined op a b l new w inside long g h e =
      let on : OnTwo l.args (λ x y. new ≡ slice_set row i (binary_of op (operand row x) (operand row y))) =
      subst (λ args. OnTwo args (λ x y. new ≡ slice_set row i (binary_of op (operand row x) (operand row y)))) (sym h.1) e in
      made_here lines row new i (giving true lines last inputs free) l g (ap is_given h.0) (binary_puts lines i l row w g inside long op new h.0 on)

  -- a word that is given
  puts_given : (l : Line) (new : List BitVector) (x : BitVector) → slice_get lines i ≡ Some l → is_given l.op ≡ true → x ≡ giving true lines last inputs free l.op i (take i row) → new ≡ slice_set row i x → Puts new
  puts_given l new x g is h e =
      taken_here lines row new i (giving true lines last inputs free) l x g is (if_some (slice_get lines i) (λ k. x ≡ giving true lines last inputs free k.op i (take i row)) l g h) e

  -- the next of a state
  pub puts_next : (l : Line) (a : Arg) (new : List BitVector) → slice_get lines i ≡ Some l → IsStateOf lines i l a → new ≡ slice_set row i (operand last a) → Puts new
  puts_next l a new g h e =
      let x = supplied_at lines inputs free i in
      let is : operand last a ≡ giving true lines last inputs free l.op i (take i row) =
      sym (ap (λ o. pick o (state_value is_next lines i) (operand last) x) h.0 ∙ ap (λ o. read_or o (operand last) x) h.1) in
      puts_given l new (operand last a) g (ap is_given h.0) is e

  not_given : (op : LineOp) → is_constant op ≡ true → is_given op ≡ false
  not_given (Constant x) h = refl
  not_given One h = refl
  not_given Zero h = refl
  not_given Ones h = refl
  not_given op h = absurd (cc)

  module _ (l : Line) (new : List BitVector) (w : IsWellFormed lines) (inside : i < length lines) (long : length row ≡ length lines) (g : slice_get lines i ≡ Some l) where
    -- a constant, or the next of a state
    pub puts_last : (n : ℕ) → IsFrame lines last → IsOfLast lines i l n → new ≡ slice_set row i (word_at last n) → Puts new
    puts_last n f h e =
        elim h [
          | inl state ↦ puts_next l (plain_arg n) new g state e
          | inr constant ↦
              let c = constant.0 in
              let at : kind_at is_constant lines i ≡ true = ap (λ o. option_map_or (λ (k : Line). is_constant k.op) o false) g ∙ c in
              let here : new ≡ slice_set row i (word_at last i) = e ∙ ap (λ k. slice_set row i (word_at last k)) constant.1 in
              made_here lines row new i (giving true lines last inputs free) l g (not_given l.op c)
              (put_here lines i row new (word_at last i) here (constant_gives lines i l row w g inside long (word_at last i) nothing c (constant_is lines last i w f.meets at)))
        ]

    -- the bitwise not of a word
    pub puts_not : (a : ℕ) → IsOnOne a l → new ≡ slice_set row i (unary_of Not (word_at row a)) → Puts new
    puts_not a h e =
        let x = unary_of Not (word_at row a) in
        let on : OnOne l.args (λ y. x ≡ unary_of Not (operand row y)) = subst (λ args. OnOne args (λ y. x ≡ unary_of Not (operand row y))) (sym h.1) refl in
        made_here lines row new i (giving true lines last inputs free) l g (ap is_given h.0)
        (put_here lines i row new x e (unary_gives lines i l row w g inside long Not x nothing h.0 on))

    -- an if-then-else
    pub puts_ite : (c a b : ℕ) → IsOnThree c a b l → new ≡ slice_set row i (ite_of (word_at row c) (word_at row a) (word_at row b)) → Puts new
    puts_ite c a b h e =
        let x = ite_of (word_at row c) (word_at row a) (word_at row b) in
        let on : OnThree l.args (λ u v y. x ≡ ite_of (operand row u) (operand row v) (operand row y)) =
        subst (λ args. OnThree args (λ u v y. x ≡ ite_of (operand row u) (operand row v) (operand row y))) (sym h.1) refl in
        made_here lines row new i (giving true lines last inputs free) l g (ap is_given h.0)
        (put_here lines i row new x e (ite_gives lines i l row w g inside long x nothing h.0 on))

-- the first lines have no more lines of a kind than all
count_front : (kind : LineOp → Bool) (lines : List Line) (k : ℕ) → count_of kind (take k lines) ≤ count_of kind lines
count_front kind [] zero = omega arith
count_front kind [] (suc k) = omega arith
count_front kind (l ∷ ls) zero = omega arith
count_front kind (l ∷ ls) (suc k) = omega (arith, count_front kind ls k)

-- a line's number among those of its kind
pub numbered_inside : (kind : LineOp → Bool) (lines : List Line) (i n : ℕ) (l : Line) → slice_get lines i ≡ Some l → kind l.op ≡ true → n ≡ count_of kind (take i lines) → n < count_of kind lines
numbered_inside kind lines i n l g k e =
    omega (arith, e, ap {B = ℕ} (λ b. cond b 1 0) k, count_step kind lines i l g, count_front kind lines (i + 1))

pub input_inside : (lines : List Line) (inputs free : List BitVector) (i n : ℕ) (l : Line) → SuppliedFit lines inputs free → slice_get lines i ≡ Some l → (l.op ≡ Input) × (n ≡ count_of is_input (take i lines)) → n < length inputs
input_inside lines inputs free i n l f g h =
    omega (arith, f.inputs_long, numbered_inside is_input lines i n l g (ap is_input h.0) h.1)

pub free_inside : (lines : List Line) (inputs free : List BitVector) (i n : ℕ) (l : Line) → SuppliedFit lines inputs free → slice_get lines i ≡ Some l → l.op ≡ State → n ≡ count_of is_state (take i lines) → n < length free
free_inside lines inputs free i n l f g h e =
    omega (arith, f.free_long, numbered_inside is_state lines i n l g (ap is_state h) e)

-- a line that is read in the frame before
pub next_inside : (lines : List Line) (last : List BitVector) (i : ℕ) (l : Line) (a : Arg) → IsWellFormed lines → IsFrame lines last → IsStateOf lines i l a → a.line < length last
next_inside lines last i l a w f h = omega (arith, f.sized, value_inside true lines i a w h.1)

pub last_inside : (lines : List Line) (last : List BitVector) (i n : ℕ) (l : Line) → IsWellFormed lines → IsFrame lines last → i < length lines → IsOfLast lines i l n → n < length last
last_inside lines last i n l w f inside h =
    elim h [
      | inl state ↦ next_inside lines last i l (plain_arg n) w f state
      | inr constant ↦ omega (arith, f.sized, inside, constant.1)
    ]

-- what a bitwise not owes
pub not_inside : (lines : List Line) (row : List BitVector) (i a : ℕ) (l : Line) → IsWellFormed lines → i < length lines → length row ≡ length lines → slice_get lines i ≡ Some l → IsOnOne a l → a < length row
not_inside lines row i a l w inside long g h =
    subst (λ args. OnOne args (λ x. x.line < length row)) h.1 (unary_owes lines i l row w g inside long Not h.0)

-- what an if-then-else owes
pub record Chooses (c a b : ℕ) (row : List BitVector) : Type 0 where
  pub condition : c < length row
  pub first : a < length row
  pub second : b < length row
  pub one_bit : (word_at row c).width ≡ 1
  pub widths : (word_at row a).width ≡ (word_at row b).width

pub chooses : (lines : List Line) (row : List BitVector) (i c a b : ℕ) (l : Line) → IsWellFormed lines → i < length lines → length row ≡ length lines → IsFrame (take i lines) (take i row) → slice_get lines i ≡ Some l → IsOnThree c a b l → Chooses c a b row
chooses lines row i c a b l w inside long f g h =
    let on = subst (λ args. OnThree args (λ x y z. (x.line < length row) × (y.line < length row) × (z.line < length row) × ((operand row x).width ≡ 1) × ((operand row y).width ≡ (operand row z).width))) h.1 (ite_owes lines i l row w g inside long h.0 f) in
    record { condition = on.0; first = on.1; second = on.2; one_bit = on.3; widths = on.4 }

-- what an operator on two lines owes
pub record Joins (op : BinaryKind) (a b : ℕ) (row : List BitVector) : Type 0 where
  pub first : a < length row
  pub second : b < length row
  pub fits : BinaryFits op (word_at row a).width (word_at row b).width

pub joins : (lines : List Line) (row : List BitVector) (i : ℕ) (op : BinaryKind) (a b : ℕ) (l : Line) → IsWellFormed lines → i < length lines → length row ≡ length lines → IsFrame (take i lines) (take i row) → slice_get lines i ≡ Some l → IsOnBoth op a b l → Joins op a b row
joins lines row i op a b l w inside long f g h =
    let on = subst (λ args. OnTwo args (λ x y. (x.line < length row) × (y.line < length row) × BinaryFits op (operand row x).width (operand row y).width)) h.1 (binary_owes lines i l row w g inside long op h.0 f) in
    record { first = on.0; second = on.1; fits = on.2 }

-- the row with one more word
pub record IsFilledOn (lines : List Line) (last inputs free : List BitVector) (sources : List Source) (i : ℕ) (row : List BitVector) : Type 0 where
  pub long : length row ≡ length lines
  pub filled : take i row ≡ row_upto lines (giving true lines last inputs free) i
  pub blank : (k : ℕ) → i ≤ k → slice_get sources k ≡ Some NoWord → word_at row k ≡ nothing

pub next_word : (lines : List Line) (last inputs free row new : List BitVector) (i : ℕ) (sources : List Source) → i < length lines → length row ≡ length lines → take i row ≡ row_upto lines (giving true lines last inputs free) i → ((k : ℕ) → i ≤ k → slice_get sources k ≡ Some NoWord → word_at row k ≡ nothing) → Puts lines last inputs free row i new → IsFilledOn lines last inputs free sources (i + 1) new
next_word lines last inputs free row new i sources inside long filled blank put =
    let here = inside_get lines i inside in
    let l = here.0 in
    let set : new ≡ slice_set row i (word_of_line lines last inputs free row i l) =
    if_some_at (slice_get lines i) (λ k. new ≡ slice_set row i (word_of_line lines last inputs free row i k)) l here.1 put in
    let more = one_more true lines last inputs free row new i l (omega (arith, inside, long)) here.1 filled put in
    record { long = more.0 ∙ long; filled = more.1; blank = blank_behind sources row new i (word_of_line lines last inputs free row i l) set blank }
