-- Paths exist, for any inputs.
use Rattle.std.proofs.Common.{◌≡◌, ℕ, suc, ◌<◌, ◌≤◌, Bool, true, false, cond, List, [], ◌∷◌, ◌++◌, length, take, drop, Option, Some, None, refl, sym, ap, ◌∙◌, subst, arith, inl, inr, ◌⊎◌, eqb, true≢false}
use Rattle.std.specs.Prelude.{slice_get}
use Rattle.std.specs.Option.{option_or}
use Rattle.std.specs.List.{AllZip}
use Rattle.std.proofs.lemmas.Option.{same_Some, none-some}
use Rattle.std.proofs.lemmas.List.{take-append-drop, length-take, take-take, take_all, append_assoc}
use Rattle.std.proofs.Math.Nat.{one-le-pow}
use Rattle.word_core.specs.Words.{BitVector}
use Rattle.word_core.specs.declared.word.TheConstants.{WIDEST}
use Rattle.btor_tree.specs.declared.args.Arg.{Arg}
use Rattle.btor_tree.specs.declared.lines.Line.{Line}
use Rattle.btor_tree.specs.declared.lines.LineOp.{LineOp}
use Rattle.btor_tree.specs.declared.lines.LineOp.TheVariants.{Input, State, Constant, One, Zero, Ones, Init, Next}
use Rattle.btor_tree.specs.Fits.{OnTwo, AreEarlier, OpFits, GivesValue, InitRule, IsWellFormed, sort_at, width_at, has_word, state_value, value_in, value_for, operands, is_init, is_next, is_state, is_constant, kind_at}
use Rattle.btor_tree.specs.Frame.{GivenFits, FreeFits, read_or, word_at, signed_word, operand, constant_word, constant_of, init_operand, Equation, Meets, IsFrame, InitsHold, NextsHold, Follow, IsPath}
use Rattle.btor_tree.proofs.AtPlaces.{width_of_line, is_kind}
use Rattle.btor_tree.proofs.Grows.{slice_get_front, slice_get_inside, well_formed_front}
use Rattle.btor_tree.proofs.Words.{SameBelow, computed}
use Rattle.btor_tree.proofs.Widths.{option_cases, line_at, width_front, sort_front, sort_there, IsOfWidth, operand_is, signed_is, one_lt, sort_small, wide}
use Rattle.std.specs.List.{AllByRecursion}
use Rattle.std.proofs.lemmas.Bool.{eqb-true}
use Rattle.btor_tree.proofs.Rows.{Given, GivesWords, row_upto, frame_upto, upto_same, word_upto, slice_get_take}
use Rattle.text_core.proofs.Truths.{cond_some}

pub value_for_facts : (args : List Arg) (s : ℕ) (v : Arg) → value_for args s ≡ Some v → (x : Arg) × (args ≡ x ∷ v ∷ []) × (x.line ≡ s)
value_for_facts [] s v h = absurd (none-some v h)
value_for_facts (x ∷ []) s v h = absurd (none-some v h)
value_for_facts (x ∷ u ∷ []) s v h =
    let c = cond_some (eqb x.line s) (Some u) v h in
    (x, ap (λ z. x ∷ z ∷ []) (same_Some u v c.1), eqb-true x.line s c.0)
value_for_facts (x ∷ u ∷ y ∷ more) s v h = absurd (none-some v h)

-- the line that gives a state its value
pub value_found : (kind : LineOp → Bool) (lines : List Line) (s : ℕ) (v : Arg) → state_value kind lines s ≡ Some v → (i : ℕ) × (l : Line) × (slice_get lines i ≡ Some l) × (kind l.op ≡ true) × (value_for l.args s ≡ Some v)
value_found kind [] s v h = absurd (none-some v h)
value_found kind (l ∷ ls) s v h =
    elim (option_cases (value_in kind l s)) [
      | inl n ↦
          let rest = value_found kind ls s v (sym (ap (λ o. option_or o (state_value kind ls s)) n) ∙ h) in
          (suc rest.0, rest.1, rest.2, rest.3, rest.4)
      | inr f ↦
          let is : value_in kind l s ≡ Some v = f.1 ∙ sym (ap (λ o. option_or o (state_value kind ls s)) f.1) ∙ h in
          let c = cond_some (kind l.op) (value_for l.args s) v is in
          (0, l, refl, c.0, c.1)
    ]

init_fits : (before : List Line) (s : ℕ) (op : LineOp) (args : List Arg) → is_init op ≡ true → OpFits before s op args → OnTwo args (λ x v. GivesValue is_init before s x v × InitRule before x v)
init_fits before s Init args k f = f
init_fits before s op args k f = absurd (cc)

next_fits : (before : List Line) (s : ℕ) (op : LineOp) (args : List Arg) → is_next op ≡ true → OpFits before s op args → OnTwo args (λ x v. GivesValue is_next before s x v)
next_fits before s Next args k f = f
next_fits before s op args k f = absurd (cc)

pub state_is : (op : LineOp) → is_state op ≡ true → op ≡ State
state_is State h = refl
state_is op h = absurd (cc)

kind_line : (kind : LineOp → Bool) (o : Option Line) → is_kind kind o ≡ true → (l : Line) × (o ≡ Some l) × (kind l.op ≡ true)
kind_line kind None h = absurd (cc)
kind_line kind (Some l) h = (l, refl, h)

-- the line of a kind at a place
pub line_of_kind : (kind : LineOp → Bool) (lines : List Line) (i : ℕ) → kind_at kind lines i ≡ true → (l : Line) × (slice_get lines i ≡ Some l) × (kind l.op ≡ true)
line_of_kind kind lines i h = kind_line kind (slice_get lines i) h

pub kind_front : (kind : LineOp → Bool) (xs ys : List Line) (i : ℕ) → kind_at kind xs i ≡ true → kind_at kind (xs ++ ys) i ≡ true
kind_front kind xs ys i h =
    let l = line_of_kind kind xs i h in
    ap (is_kind kind) (slice_get_front xs ys i l.0 l.1) ∙ l.2

pub well_formed_take : (lines : List Line) (n : ℕ) → IsWellFormed lines → IsWellFormed (take n lines)
well_formed_take lines n w = well_formed_front (take n lines) (drop n lines) (subst IsWellFormed (sym (take-append-drop n lines)) w)

pub width_is : (lines : List Line) (k : ℕ) (l : Line) → IsWellFormed lines → slice_get lines k ≡ Some l → has_word l.op ≡ true → (width_at lines k ≡ sort_at (take k lines) l.sort) × (1 ≤ width_at lines k)
width_is lines k l w g h =
    let there = sort_there (take k lines) l.sort l.op l.args (w.by_line k l g).body.sorts h in
    let s : sort_at lines l.sort ≡ sort_at (take k lines) l.sort =
    ap (λ ls. sort_at ls l.sort) (sym (take-append-drop k lines)) ∙ sort_front (take k lines) (drop k lines) l.sort there in
    let e : width_at lines k ≡ sort_at (take k lines) l.sort = ap (λ o. width_of_line lines o) g ∙ ap (λ b. cond b (sort_at lines l.sort) 0) h ∙ s in
    (e, subst (λ n. 1 ≤ n) (sym e) there)

pub width_take : (lines : List Line) (n k : ℕ) → IsWellFormed lines → k < n → 1 ≤ width_at lines k → width_at (take n lines) k ≡ width_at lines k
width_take lines n k w h p =
    let g = line_at lines k p in
    let a = width_is lines k g.0 w g.1 g.2 in
    let b = width_is (take n lines) k g.0 (well_formed_take lines n w) (slice_get_take lines n k g.0 h g.1) g.2 in
    b.0 ∙ ap (λ ls. sort_at ls g.0.sort) (take-take k n lines (omega arith)) ∙ sym a.0

-- the state to which a line gives a value, and the value's width
pub record StateFacts (lines : List Line) (s : ℕ) (v : Arg) : Type 0 where
  pub line : Line
  pub at : slice_get lines s ≡ Some line
  pub is : line.op ≡ State
  pub same : width_at lines v.line ≡ sort_at (take s lines) line.sort
  pub there : 1 ≤ width_at lines v.line

facts_from : (lines : List Line) (i s : ℕ) (v : Arg) → IsWellFormed lines → kind_at is_state (take i lines) s ≡ true → width_at (take i lines) v.line ≡ width_at (take i lines) s → StateFacts lines s v
facts_from lines i s v w h e =
    let before = take i lines in
    let st = line_of_kind is_state before s h in
    let l = st.0 in
    let is : l.op ≡ State = state_is l.op st.2 in
    let front : slice_get lines s ≡ Some l = subst (λ ls. slice_get ls s ≡ Some l) (take-append-drop i lines) (slice_get_front before (drop i lines) s l st.1) in
    let has : has_word l.op ≡ true = ap has_word is in
    let ws = width_is before s l (well_formed_take lines i w) st.1 has in
    let wl = width_is lines s l w front has in
    let vp : 1 ≤ width_at before v.line = omega (arith, e, ws.1) in
    let vs : width_at lines v.line ≡ width_at before v.line = ap (λ ls. width_at ls v.line) (sym (take-append-drop i lines)) ∙ width_front before (drop i lines) v.line vp in
    let ss : width_at lines s ≡ width_at before s = ap (λ ls. width_at ls s) (sym (take-append-drop i lines)) ∙ width_front before (drop i lines) s ws.1 in
    record { line = l; at = front; is = is; same = vs ∙ e ∙ sym ss ∙ wl.0; there = omega (arith, vs, vp) }

pub init_facts : (lines : List Line) (s : ℕ) (v : Arg) → IsWellFormed lines → state_value is_init lines s ≡ Some v → ((v.line < s) ⊎ (kind_at is_constant lines v.line ≡ true)) × StateFacts lines s v
init_facts lines s v w h =
    let f = value_found is_init lines s v h in
    let a = value_for_facts f.1.args s v f.4 in
    let before = take f.0 lines in
    let fit = init_fits before f.1.sort f.1.op f.1.args f.3 (w.by_line f.0 f.1 f.2).body.sorts in
    let two = subst (λ both. OnTwo both (λ x v. GivesValue is_init before f.1.sort x v × InitRule before x v)) a.1 fit in
    let state = subst (λ n. kind_at is_state before n ≡ true) a.2 two.0.0 in
    let wide = two.0.4 ∙ sym two.0.3 ∙ ap (width_at before) a.2 in
    let rule : (v.line < s) ⊎ (kind_at is_constant lines v.line ≡ true) = elim two.1 [
      | inl lt ↦ inl (omega (arith, lt, a.2))
      | inr constant ↦ inr (subst (λ ls. kind_at is_constant ls v.line ≡ true) (take-append-drop f.0 lines) (kind_front is_constant before (drop f.0 lines) v.line constant))
    ] in
    (rule, facts_from lines f.0 s v w state wide)

pub next_facts : (lines : List Line) (s : ℕ) (v : Arg) → IsWellFormed lines → state_value is_next lines s ≡ Some v → StateFacts lines s v
next_facts lines s v w h =
    let f = value_found is_next lines s v h in
    let a = value_for_facts f.1.args s v f.4 in
    let before = take f.0 lines in
    let fit = next_fits before f.1.sort f.1.op f.1.args f.3 (w.by_line f.0 f.1 f.2).body.sorts in
    let two = subst (λ both. OnTwo both (λ x v. GivesValue is_next before f.1.sort x v)) a.1 fit in
    let state = subst (λ n. kind_at is_state before n ≡ true) a.2 two.0 in
    facts_from lines f.0 s v w state (two.4 ∙ sym two.3 ∙ ap (width_at before) a.2)

-- a place past the lines has no value yet
pub fresh : (kind : LineOp → Bool) (lines : List Line) (s : ℕ) → IsWellFormed lines → length lines ≤ s → state_value kind lines s ≡ None
fresh kind lines s w h =
    elim (option_cases (state_value kind lines s)) [
      | inl n ↦ n
      | inr f ↦
          let g = value_found kind lines s f.0 f.1 in
          let a = value_for_facts g.1.args s f.0 g.4 in
          let earlier = subst (AreEarlier (length (take g.0 lines))) a.1 (w.by_line g.0 g.1 g.2).body.earlier in
          absurd (omega (arith, h, a.2, earlier.0, length-take g.0 lines))
    ]

or_assoc : {X : Type 0} (a b c : Option X) → option_or (option_or a b) c ≡ option_or a (option_or b c)
or_assoc None b c = refl
or_assoc (Some x) b c = refl

pub state_value_append : (kind : LineOp → Bool) (xs ys : List Line) (s : ℕ) → state_value kind (xs ++ ys) s ≡ option_or (state_value kind xs s) (state_value kind ys s)
state_value_append kind [] ys s = refl
state_value_append kind (x ∷ xs) ys s =
    ap (option_or (value_in kind x s)) (state_value_append kind xs ys s) ∙ sym (or_assoc (value_in kind x s) (state_value kind xs s) (state_value kind ys s))

pub operands_append : (kind : LineOp → Bool) (xs ys : List Line) → operands kind (xs ++ ys) ≡ operands kind xs ++ operands kind ys
operands_append kind [] ys = refl
operands_append kind (x ∷ xs) ys =
    ap (λ r. cond (kind x.op) x.args [] ++ r) (operands_append kind xs ys) ∙ sym (append_assoc (cond (kind x.op) x.args []) (operands kind xs) (operands kind ys))

constant_has_word : (op : LineOp) → is_constant op ≡ true → has_word op ≡ true
constant_has_word (Constant c) h = refl
constant_has_word One h = refl
constant_has_word Zero h = refl
constant_has_word Ones h = refl
constant_has_word op h = absurd (cc)

constant_equation : (before : List Line) (row : List BitVector) (s : ℕ) (op : LineOp) (args : List Arg) (x : BitVector) → is_constant op ≡ true → Equation before row s op args x → x ≡ constant_word (sort_at before s) op
constant_equation before row s (Constant c) args x h e = e
constant_equation before row s One args x h e = e
constant_equation before row s Zero args x h e = e
constant_equation before row s Ones args x h e = e
constant_equation before row s op args x h e = absurd (cc)

constant_wide : (before : List Line) (s : ℕ) (op : LineOp) (args : List Arg) → is_constant op ≡ true → OpFits before s op args → sort_at before s ≤ WIDEST → IsOfWidth (constant_word (sort_at before s) op) (sort_at before s)
constant_wide before s (Constant c) args h f q = (f.0, f.1)
constant_wide before s One args h f q = ((f.0, q, one_lt (sort_at before s) f.0), refl)
constant_wide before s Zero args h f q = ((f.0, q, one-le-pow (sort_at before s) 2 (omega arith)), refl)
constant_wide before s Ones args h f q = ((f.0, q, omega (arith, one-le-pow (sort_at before s) 2 (omega arith))), refl)
constant_wide before s op args h f q = absurd (cc)

abbrev pub constant_at : List Line → ℕ → BitVector
constant_at lines i = constant_of lines (slice_get lines i)

-- a constant's word is the same in every row
pub constant_is : (lines : List Line) (row : List BitVector) (i : ℕ) → IsWellFormed lines → Meets lines row → kind_at is_constant lines i ≡ true → word_at row i ≡ constant_at lines i
constant_is lines row i w m h =
    let l = line_of_kind is_constant lines i h in
    let before = take i lines in
    let there = sort_there before l.0.sort l.0.op l.0.args (w.by_line i l.0 l.1).body.sorts (constant_has_word l.0.op l.2) in
    let s : sort_at lines l.0.sort ≡ sort_at before l.0.sort =
    ap (λ ls. sort_at ls l.0.sort) (sym (take-append-drop i lines)) ∙ sort_front before (drop i lines) l.0.sort there in
    constant_equation before row l.0.sort l.0.op l.0.args (word_at row i) l.2 (m.by_line i l.0 l.1)
    ∙ ap (λ n. constant_word n l.0.op) (sym s)
    ∙ sym (ap (constant_of lines) l.1)

pub constant_at_wide : (lines : List Line) (i : ℕ) → IsWellFormed lines → kind_at is_constant lines i ≡ true → IsOfWidth (constant_at lines i) (width_at lines i)
constant_at_wide lines i w h =
    let l = line_of_kind is_constant lines i h in
    let has = constant_has_word l.0.op l.2 in
    let e : width_at lines i ≡ sort_at lines l.0.sort = ap (λ o. width_of_line lines o) l.1 ∙ ap (λ b. cond b (sort_at lines l.0.sort) 0) has in
    let before = take i lines in
    let fits = (w.by_line i l.0 l.1).body.sorts in
    let s : sort_at lines l.0.sort ≡ sort_at before l.0.sort =
    ap (λ ls. sort_at ls l.0.sort) (sym (take-append-drop i lines)) ∙ sort_front before (drop i lines) l.0.sort (sort_there before l.0.sort l.0.op l.0.args fits has) in
    let there = constant_wide before l.0.sort l.0.op l.0.args l.2 fits (sort_small before l.0.sort (well_formed_take lines i w)) in
    let here : IsOfWidth (constant_word (sort_at lines l.0.sort) l.0.op) (sort_at lines l.0.sort) = subst (λ n. IsOfWidth (constant_word n l.0.op) n) (sym s) there in
    subst (λ x. IsOfWidth x (width_at lines i)) (sym (ap (constant_of lines) l.1)) (subst (IsOfWidth (constant_word (sort_at lines l.0.sort) l.0.op)) (sym e) here)

-- the word that an init reads, in a row of the whole list
pub init_operand_is : (lines : List Line) (row : List BitVector) (a : Arg) → IsWellFormed lines → Meets lines row → init_operand lines row a ≡ operand row a
init_operand_is lines row a w m =
    ap (signed_word a.negated) (choice (kind_at is_constant lines a.line) (constant_at lines a.line) (word_at row a.line) (λ h. sym (constant_is lines row a.line w m h)))
  where
    choice : (b : Bool) (x y : BitVector) → (b ≡ true → x ≡ y) → cond b x y ≡ y
    choice true x y h = h refl
    choice false x y h = refl

-- what an init reads is a constant, or a word before its state
pub init_operand_same : (lines : List Line) (n : ℕ) (row other : List BitVector) (a : Arg) → SameBelow n row other → (a.line < n) ⊎ (kind_at is_constant lines a.line ≡ true) → init_operand lines row a ≡ init_operand lines other a
init_operand_same lines n row other a same h =
    elim h [
      | inl lt ↦ ap (λ w. signed_word a.negated (cond (kind_at is_constant lines a.line) (constant_at lines a.line) w)) (same a.line lt)
      | inr constant ↦ ap (λ b. signed_word a.negated (cond b (constant_at lines a.line) (word_at row a.line))) constant ∙ sym (ap (λ b. signed_word a.negated (cond b (constant_at lines a.line) (word_at other a.line))) constant)
    ]

init_choice : (b : Bool) (x y : BitVector) (w : ℕ) → (b ≡ true → IsOfWidth x w) → (b ≡ false → IsOfWidth y w) → IsOfWidth (cond b x y) w
init_choice true x y w h g = h refl
init_choice false x y w h g = g refl

pub init_operand_wide : (lines : List Line) (row : List BitVector) (a : Arg) → IsWellFormed lines → (kind_at is_constant lines a.line ≡ false → IsOfWidth (word_at row a.line) (width_at lines a.line)) → IsOfWidth (init_operand lines row a) (width_at lines a.line)
init_operand_wide lines row a w h =
    signed_is a.negated (cond (kind_at is_constant lines a.line) (constant_at lines a.line) (word_at row a.line)) (width_at lines a.line)
    (init_choice (kind_at is_constant lines a.line) (constant_at lines a.line) (word_at row a.line) (width_at lines a.line) (λ c. constant_at_wide lines a.line w c) h)

abbrev pub pick : LineOp → Option Arg → (Arg → BitVector) → BitVector → BitVector
pick State o read x = read_or o read x
pick op o read x = x

-- states read their value where they have one, by `from` of the words before them
abbrev pub given_of : (ℕ → Option Arg) → (List BitVector → Arg → BitVector) → (ℕ → BitVector) → Given
given_of values from free op i row = pick op (values i) (from row) (free i)

pick_fits : (before : List Line) (s : ℕ) (op : LineOp) (o : Option Arg) (read : Arg → BitVector) (x : BitVector) → GivenFits before s op x → (op ≡ State → (a : Arg) → o ≡ Some a → IsOfWidth (read a) (sort_at before s)) → GivenFits before s op (pick op o read x)
pick_fits before s State None read x g h = g
pick_fits before s State (Some a) read x g h = h refl a refl
pick_fits before s op o read x g h = g

-- the row's inputs are these
abbrev pub Reads : List Line → List BitVector → (ℕ → BitVector) → Type 0
Reads lines row free = (i : ℕ) (l : Line) → slice_get lines i ≡ Some l → l.op ≡ Input → word_at row i ≡ free i

module _ (lines : List Line) (w : IsWellFormed lines) where
  pub whole_frame : (given : Given) → GivesWords lines given → IsFrame lines (row_upto lines given (length lines))
  whole_frame given g =
      subst (λ ls. IsFrame ls (row_upto lines given (length lines))) (take_all (length lines) lines (omega arith)) (frame_upto lines given w g (length lines) (omega arith))

  pub reads : (values : ℕ → Option Arg) (from : List BitVector → Arg → BitVector) (free : ℕ → BitVector) → Reads lines (row_upto lines (given_of values from free) (length lines)) free
  reads values from free i l g e =
      let given = given_of values from free in
      let r = row_upto lines given i in
      word_upto lines given (length lines) i l (slice_get_inside lines i l g) g
      ∙ ap (λ op. computed (take i lines) r l.sort op l.args (given op i r)) e

  -- a state that has no value reads what is handed in
  pub frees_read : (values : ℕ → Option Arg) (from : List BitVector → Arg → BitVector) (free : ℕ → BitVector) (s : ℕ) (l : Line) → slice_get lines s ≡ Some l → l.op ≡ State → values s ≡ None → word_at (row_upto lines (given_of values from free) (length lines)) s ≡ free s
  frees_read values from free s l g e v =
      let given = given_of values from free in
      let r = row_upto lines given s in
      word_upto lines given (length lines) s l (slice_get_inside lines s l g) g
      ∙ ap (λ op. computed (take s lines) r l.sort op l.args (given op s r)) e
      ∙ ap (λ o. read_or o (from r) (free s)) v

  pub states : (values : ℕ → Option Arg) (from : List BitVector → Arg → BitVector) (free : ℕ → BitVector) (s : ℕ) (l : Line) (a : Arg) → slice_get lines s ≡ Some l → l.op ≡ State → values s ≡ Some a → word_at (row_upto lines (given_of values from free) (length lines)) s ≡ from (row_upto lines (given_of values from free) s) a
  states values from free s l a g e v =
      let given = given_of values from free in
      let r = row_upto lines given s in
      word_upto lines given (length lines) s l (slice_get_inside lines s l g) g
      ∙ ap (λ op. computed (take s lines) r l.sort op l.args (given op s r)) e
      ∙ ap (λ o. read_or o (from r) (free s)) v

  pub first_gives : (free : ℕ → BitVector) → FreeFits lines free → GivesWords lines (given_of (state_value is_init lines) (init_operand lines) free)
  first_gives free f =
      record {
        fits = λ i l row g fr.
            pick_fits (take i lines) l.sort l.op (state_value is_init lines i) (init_operand lines row) (free i) (f.fits i l g) (λ st a v.
            let facts = init_facts lines i a w v in
            let wt = well_formed_take lines i w in
            let same_line : facts.1.line ≡ l = same_Some facts.1.line l (sym facts.1.at ∙ g) in
            let read : kind_at is_constant lines a.line ≡ false → IsOfWidth (word_at row a.line) (width_at lines a.line) =
            λ other.
            let lt : a.line < i = elim facts.0 [ inl lt ↦ lt | inr constant ↦ absurd (true≢false (sym constant ∙ other)) ] in
            let wa : width_at (take i lines) a.line ≡ width_at lines a.line = width_take lines i a.line w lt facts.1.there in
            subst (IsOfWidth (word_at row a.line)) wa (wide (take i lines) row wt fr.meets a.line (omega (arith, wa, facts.1.there))) in
            subst (IsOfWidth (init_operand lines row a)) (facts.1.same ∙ ap (λ k. sort_at (take i lines) k.sort) same_line) (init_operand_wide lines row a w read));
      }

  pub next_gives : (prev : List BitVector) (free : ℕ → BitVector) → IsFrame lines prev → FreeFits lines free → GivesWords lines (given_of (state_value is_next lines) (λ r. operand prev) free)
  next_gives prev free fp f =
      record {
        fits = λ i l row g fr.
            pick_fits (take i lines) l.sort l.op (state_value is_next lines i) (operand prev) (free i) (f.fits i l g) (λ st a v.
            let facts = next_facts lines i a w v in
            let same_line : facts.line ≡ l = same_Some facts.line l (sym facts.at ∙ g) in
            let is = operand_is prev a (width_at lines a.line) (wide lines prev w fp.meets a.line facts.there) in
            subst (IsOfWidth (operand prev a)) (facts.same ∙ ap (λ k. sort_at (take i lines) k.sort) same_line) is);
      }

  -- the row of frame 0, and the row after a frame, for any inputs
  abbrev pub first_row : (ℕ → BitVector) → List BitVector
  first_row free = row_upto lines (given_of (state_value is_init lines) (init_operand lines) free) (length lines)

  abbrev pub next_row : List BitVector → (ℕ → BitVector) → List BitVector
  next_row prev free = row_upto lines (given_of (state_value is_next lines) (λ r. operand prev) free) (length lines)

  pub first_inits : (free : ℕ → BitVector) → FreeFits lines free → InitsHold lines (first_row free)
  first_inits free f s a v =
      let given = given_of (state_value is_init lines) (init_operand lines) free in
      let facts = init_facts lines s a w v in
      let inside = slice_get_inside lines s facts.1.line facts.1.at in
      states (state_value is_init lines) (init_operand lines) free s facts.1.line a facts.1.at facts.1.is v
      ∙ init_operand_same lines s (row_upto lines given s) (first_row free) a (upto_same lines given (length lines) s (omega (arith, inside))) facts.0
      ∙ init_operand_is lines (first_row free) a w (whole_frame given (first_gives free f)).meets

  pub next_nexts : (prev : List BitVector) (free : ℕ → BitVector) → NextsHold lines prev (next_row prev free)
  next_nexts prev free s a v =
      let facts = next_facts lines s a w v in
      states (state_value is_next lines) (λ r. operand prev) free s facts.line a facts.at facts.is v

  -- frame 0, for any inputs
  pub first_frame : (free : ℕ → BitVector) → FreeFits lines free → (row : List BitVector) × IsFrame lines row × InitsHold lines row × Reads lines row free
  first_frame free f =
      (first_row free, whole_frame (given_of (state_value is_init lines) (init_operand lines) free) (first_gives free f), first_inits free f, reads (state_value is_init lines) (init_operand lines) free)

  -- a frame after a frame, for any inputs
  pub next_frame : (prev : List BitVector) (free : ℕ → BitVector) → IsFrame lines prev → FreeFits lines free → (row : List BitVector) × IsFrame lines row × NextsHold lines prev row × Reads lines row free
  next_frame prev free fp f =
      (next_row prev free, whole_frame (given_of (state_value is_next lines) (λ r. operand prev) free) (next_gives prev free fp f), next_nexts prev free, reads (state_value is_next lines) (λ r. operand prev) free)

  follow : (prev : List BitVector) (frees : List (ℕ → BitVector)) → IsFrame lines prev → AllByRecursion (FreeFits lines) frees → (rows : List (List BitVector)) × Follow lines prev rows × AllZip (Reads lines) rows frees
  follow prev [] fp f = ([], tt, tt)
  follow prev (free ∷ frees) fp f =
      let n = next_frame prev free fp f.0 in
      let rest = follow n.0 frees n.1 f.1 in
      (n.0 ∷ rest.0, (n.1, n.2, rest.1), (n.3, rest.2))

  -- frames 0 to k, for any inputs of frames 0 to k
  pub path : (free : ℕ → BitVector) (frees : List (ℕ → BitVector)) → AllByRecursion (FreeFits lines) (free ∷ frees) → (rows : List (List BitVector)) × IsPath lines rows × AllZip (Reads lines) rows (free ∷ frees)
  path free frees f =
      let a = first_frame free f.0 in
      let rest = follow a.0 frees a.1 f.1 in
      (a.0 ∷ rest.0, (a.1, a.2, rest.1), (a.3, rest.2))
