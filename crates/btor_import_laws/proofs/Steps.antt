-- One step: the terms and formulas of the script, where the names have the words of a row.
use Rattle.std.proofs.Common.{◌≡◌, ℕ, ◌+◌, ◌-◌, ◌^◌, ◌≤◌, Bool, true, false, if◌then◌else◌, List, [], ◌∷◌, take, drop, Some, refl, sym, ap, ◌∙◌, subst, arith}
use Rattle.std.specs.Prelude.{slice_get}
use Rattle.std.specs.List.{AllByRecursion}
use Rattle.std.proofs.lemmas.List.{take-append-drop}
use Rattle.word_core.specs.Words.{BitVector}
use Rattle.word_core.specs.Table.{BinaryFits}
use Rattle.word_core.specs.declared.kinds.Unary.TheVariants as OnWord
use Rattle.btor_tree.specs.declared.args.Arg.{Arg}
use Rattle.btor_tree.specs.declared.lines.Line.{Line}
use Rattle.btor_tree.specs.declared.lines.LineOp.{LineOp}
use Rattle.btor_tree.specs.declared.lines.LineOp.TheVariants as line
use Rattle.btor_tree.specs.Fits.{IsWellFormed, OpFits, OnOne, OnTwo, GivesValue, has_word, is_bad, is_constraint, is_init, is_next, sort_at, state_value, width_at}
use Rattle.btor_tree.specs.Frame.{ConstraintsHold, nothing, operand, signed_word, true_word, word_at}
use Rattle.btor_tree.proofs.Widths.{IsOfWidth, Wide, line_at, operand_is, sort_front, width_front}
use Rattle.btor_tree.proofs.Words.{computed}
use Rattle.moxi_terms.specs.declared.data.Datum.TheVariants.{Bits}
use Rattle.moxi_terms.specs.declared.data.TermOp.TheVariants as op
use Rattle.moxi_terms.specs.Operators.{op_value}
use Rattle.moxi_terms.specs.Tree.{variable}
use Rattle.moxi_terms.specs.Value.{Calls, Values, term_value}
use Rattle.moxi_scripts.specs.Behaviour.{Holds}
use Rattle.btor_import.specs.Operators.{argument, is_one, line_term, not_term, operand_term, word_term}
use Rattle.btor_import.specs.Script.{equation_term, formula_of, init_part, inv_part, is_local, number_of, parts_from, trans_part, value_part}
use Rattle.btor_import.proofs.LineVariables.{local_word}
use Rattle.btor_import.proofs.Standing.{parts_all}
use Rattle.btor_import_laws.proofs.Formulas.{all_hold, each_holds, equal_holds, holds_equal}
use Rattle.btor_import_laws.proofs.Lists.{operands_all, operands_each, parts_each, value_given}
use Rattle.btor_import_laws.proofs.Words.{binary_is, choice_is, on_one, unary_is}
use Rattle.btor_tree.proofs.Paths.{value_for_facts, value_found}

-- the names have the words of a row
abbrev pub Agree : List Line → List BitVector → Values → Type 0
Agree lines row now = (n : ℕ) (l : Line) → slice_get lines n ≡ Some l → has_word l.op ≡ true → now (number_of lines n) ≡ Bits (word_at row n)

-- what lines of a kind give to states: the words in the target row are those of the values in the row
abbrev pub ValuesAre : (LineOp → Bool) → List Line → List BitVector → List BitVector → Type 0
ValuesAre kind lines row target = (s : ℕ) (a : Arg) → state_value kind lines s ≡ Some a → word_at target s ≡ operand row a

-- each constant and operator has the word of its equation
abbrev pub EquationsHold : List Line → List BitVector → Type 0
EquationsHold lines row = (i : ℕ) (l : Line) → slice_get lines i ≡ Some l → is_local l.op ≡ true → word_at row i ≡ computed (take i lines) row l.sort l.op l.args nothing

all_when : {X : Type 0} (P : X → Type 0) (b : Bool) (xs ys : List X) → (b ≡ true → AllByRecursion P xs) → (b ≡ false → AllByRecursion P ys) → AllByRecursion P (if b then xs else ys)
all_when P true xs ys f g = f refl
all_when P false xs ys f g = g refl

when_true : {X : Type 0} (P : X → Type 0) (b : Bool) (xs ys : List X) → b ≡ true → AllByRecursion P (if b then xs else ys) → AllByRecursion P xs
when_true P true xs ys e h = h
when_true P false xs ys e h = absurd (cc)

when_false : {X : Type 0} (P : X → Type 0) (b : Bool) (xs ys : List X) → b ≡ false → AllByRecursion P (if b then xs else ys) → AllByRecursion P ys
when_false P true xs ys e h = absurd (cc)
when_false P false xs ys e h = h

only : (args : List Arg) (P : Arg → Type 0) → OnOne args P → (a : Arg) × (args ≡ a ∷ []) × P a
only [] P f = absurd f
only (a ∷ []) P f = (a, refl, f)
only (a ∷ b ∷ args) P f = absurd f

pub both : (args : List Arg) (P : Arg → Arg → Type 0) → OnTwo args P → (x v : Arg) × (args ≡ x ∷ v ∷ []) × P x v
both [] P f = absurd f
both (x ∷ []) P f = absurd f
both (x ∷ v ∷ []) P f = (x, v, refl, f)
both (x ∷ v ∷ y ∷ args) P f = absurd f

-- a constraint is no constant and no operator
apart : (o : LineOp) → is_constraint o ≡ true → is_local o ≡ false
apart line.Constraint h = refl
apart o h = absurd (cc)

module _ (lines : List Line) (well : IsWellFormed lines) where
  pub fits_at : (i : ℕ) (l : Line) → slice_get lines i ≡ Some l → OpFits (take i lines) l.sort l.op l.args
  fits_at i l h = (well.by_line i l h).body.sorts

  pub wider : (i k : ℕ) → 1 ≤ width_at (take i lines) k → width_at lines k ≡ width_at (take i lines) k
  wider i k h = ap (λ ls. width_at ls k) (sym (take-append-drop i lines)) ∙ width_front (take i lines) (drop i lines) k h

  pub sorter : (i s : ℕ) → 1 ≤ sort_at (take i lines) s → sort_at lines s ≡ sort_at (take i lines) s
  sorter i s h = ap (λ ls. sort_at ls s) (sym (take-append-drop i lines)) ∙ sort_front (take i lines) (drop i lines) s h

  init_of : (i s : ℕ) (o : LineOp) (args : List Arg) → is_init o ≡ true → OpFits (take i lines) s o args → OnTwo args (λ x v. GivesValue is_init (take i lines) s x v)
  init_of i s line.Init (x ∷ v ∷ []) h f = f.0
  init_of i s line.Init [] h f = f
  init_of i s line.Init (x ∷ []) h f = f
  init_of i s line.Init (x ∷ v ∷ y ∷ args) h f = f
  init_of i s o args h f = absurd (cc)

  next_of : (i s : ℕ) (o : LineOp) (args : List Arg) → is_next o ≡ true → OpFits (take i lines) s o args → OnTwo args (λ x v. GivesValue is_next (take i lines) s x v)
  next_of i s line.Next args h f = f
  next_of i s o args h f = absurd (cc)

  bad_of : (i s : ℕ) (o : LineOp) (args : List Arg) → is_bad o ≡ true → OpFits (take i lines) s o args → OnOne args (λ a. width_at (take i lines) a.line ≡ 1)
  bad_of i s line.Bad args h f = f.1
  bad_of i s o args h f = absurd (cc)

  constraint_of : (i s : ℕ) (o : LineOp) (args : List Arg) → is_constraint o ≡ true → OpFits (take i lines) s o args → OnOne args (λ a. width_at (take i lines) a.line ≡ 1)
  constraint_of i s line.Constraint args h f = f.1
  constraint_of i s o args h f = absurd (cc)

  -- the only argument of a bad line
  pub bad_argument : (i : ℕ) (l : Line) → slice_get lines i ≡ Some l → is_bad l.op ≡ true → (a : Arg) × (l.args ≡ a ∷ []) × (1 ≤ width_at lines a.line)
  bad_argument i l h e =
      let o = only l.args (λ a. width_at (take i lines) a.line ≡ 1) (bad_of i l.sort l.op l.args e (fits_at i l h)) in
      let w = o.2 in
      let some : 1 ≤ width_at (take i lines) o.0.line = omega (arith, w) in
      (o.0, o.1, let m = wider i o.0.line some in omega (arith, m, some))

  -- the operands of lines that give values
  pub init_pair : (i : ℕ) (l : Line) → slice_get lines i ≡ Some l → is_init l.op ≡ true → (x v : Arg) × (l.args ≡ x ∷ v ∷ []) × GivesValue is_init (take i lines) l.sort x v
  init_pair i l h e = both l.args (λ x v. GivesValue is_init (take i lines) l.sort x v) (init_of i l.sort l.op l.args e (fits_at i l h))

  pub next_pair : (i : ℕ) (l : Line) → slice_get lines i ≡ Some l → is_next l.op ≡ true → (x v : Arg) × (l.args ≡ x ∷ v ∷ []) × GivesValue is_next (take i lines) l.sort x v
  next_pair i l h e = both l.args (λ x v. GivesValue is_next (take i lines) l.sort x v) (next_of i l.sort l.op l.args e (fits_at i l h))

  -- the state and the value of such a line have words
  pub pair_wide : (kind : LineOp → Bool) (i s : ℕ) (x v : Arg) → GivesValue kind (take i lines) s x v → (1 ≤ width_at lines x.line) × (1 ≤ width_at lines v.line)
  pair_wide kind i s x v f =
      let a = f.2 in
      let b = f.3 in
      let c = f.4 in
      let p : 1 ≤ width_at (take i lines) x.line = omega (arith, a, b) in
      let q : 1 ≤ width_at (take i lines) v.line = omega (arith, a, c) in
      let m = wider i x.line p in
      let n = wider i v.line q in
      (omega (arith, m, p), omega (arith, n, q))

  module _ (row : List BitVector) (wide : Wide lines row) (calls : Calls) (now later : Values) (agree : Agree lines row now) where
    pub operand_value : (a : Arg) → 1 ≤ width_at lines a.line → term_value calls now later [] (operand_term (number_of lines) a) ≡ Bits (operand row a)
    operand_value a h = let g = line_at lines a.line h in by a.negated (agree a.line g.0 g.1 g.2)
      where
        by : (b : Bool) → now (number_of lines a.line) ≡ Bits (word_at row a.line)
            → term_value calls now later [] (if b then not_term (variable (number_of lines a.line) false) else variable (number_of lines a.line) false) ≡ Bits (signed_word b (word_at row a.line))
        by true e = ap (λ d. op_value (op.BvUnary OnWord.Not) (d ∷ [])) e
        by false e = e

    -- an operand of a line at place i
    earlier_value : (i : ℕ) (a : Arg) → 1 ≤ width_at (take i lines) a.line → term_value calls now later [] (operand_term (number_of lines) a) ≡ Bits (operand row a)
    earlier_value i a h = let m = wider i a.line h in operand_value a (omega (arith, m, h))

    earlier_wide : (i : ℕ) (a : Arg) → 1 ≤ width_at (take i lines) a.line → IsOfWidth (operand row a) (width_at (take i lines) a.line)
    earlier_wide i a h =
        let m = wider i a.line h in
        subst (IsOfWidth (operand row a)) m (operand_is row a (width_at lines a.line) (wide a.line (omega (arith, m, h))))

    -- what a constant or operator line says has the word of the line's equation
    pub line_value : (i s : ℕ) (o : LineOp) (args : List Arg) (given : BitVector) → OpFits (take i lines) s o args → is_local o ≡ true
        → term_value calls now later [] (line_term (number_of lines) (width_at lines) (sort_at lines s) o args) ≡ Bits (computed (take i lines) row s o args given)
    line_value i s (line.Constant c) args given f h = refl
    line_value i s line.One args given f h = ap (λ n. Bits (let r : BitVector = record { width = n; bits = 1 } in r)) (sorter i s f.0)
    line_value i s line.Zero args given f h = ap (λ n. Bits (let r : BitVector = record { width = n; bits = 0 } in r)) (sorter i s f.0)
    line_value i s line.Ones args given f h = ap (λ n. Bits (let r : BitVector = record { width = n; bits = 2 ^ n - 1 } in r)) (sorter i s f.0)
    line_value i s (line.Unary o) (a ∷ []) given f h =
        let w = earlier_wide i a f.1.0 in
        ap (λ n. term_value calls now later [] (line_term (number_of lines) (λ k. n) (sort_at lines s) (line.Unary o) (a ∷ []))) (wider i a.line f.1.0 ∙ sym w.1)
        ∙ unary_is calls now later o (operand_term (number_of lines) a) (operand row a) (earlier_value i a f.1.0) w.0
    line_value i s (line.Unary o) [] given f h = absurd f.1
    line_value i s (line.Unary o) (a ∷ b ∷ args) given f h = absurd f.1
    line_value i s (line.Binary o) (a ∷ b ∷ []) given f h =
        let v = earlier_wide i a f.1.0 in
        let w = earlier_wide i b f.1.1 in
        binary_is calls now later o (operand_term (number_of lines) a) (operand_term (number_of lines) b) (operand row a) (operand row b) (earlier_value i a f.1.0) (earlier_value i b f.1.1) v.0 w.0
        (subst (λ n. BinaryFits o n (operand row b).width) (sym v.1) (subst (BinaryFits o (width_at (take i lines) a.line)) (sym w.1) f.1.2))
    line_value i s (line.Binary o) [] given f h = absurd f.1
    line_value i s (line.Binary o) (a ∷ []) given f h = absurd f.1
    line_value i s (line.Binary o) (a ∷ b ∷ c ∷ args) given f h = absurd f.1
    line_value i s line.Ite (c ∷ a ∷ b ∷ []) given f h =
        let e = f.1.0 in
        let g = f.1.1 in
        let k = f.1.2 in
        let t = f.0 in
        let p : 1 ≤ width_at (take i lines) c.line = omega (arith, e) in
        let q : 1 ≤ width_at (take i lines) a.line = omega (arith, g, t) in
        let r : 1 ≤ width_at (take i lines) b.line = omega (arith, k, t) in
        choice_is calls now later (operand_term (number_of lines) c) (operand_term (number_of lines) a) (operand_term (number_of lines) b) (operand row c) (operand row a) (operand row b) (earlier_value i c p) ((earlier_wide i c p).1 ∙ e) (earlier_value i a q) (earlier_value i b r)
    line_value i s line.Ite [] given f h = absurd f.1
    line_value i s line.Ite (a ∷ []) given f h = absurd f.1
    line_value i s line.Ite (a ∷ b ∷ []) given f h = absurd f.1
    line_value i s line.Ite (a ∷ b ∷ c ∷ d ∷ args) given f h = absurd f.1
    line_value i s (line.Slice high low) (a ∷ []) given f h =
        let e = f.1.1 in
        on_one calls now later (op.Extract high low) (operand_term (number_of lines) a) (Bits (operand row a)) (earlier_value i a (omega (arith, e)))
    line_value i s (line.Slice high low) [] given f h = absurd f.1
    line_value i s (line.Slice high low) (a ∷ b ∷ args) given f h = absurd f.1
    line_value i s (line.Uext n) (a ∷ []) given f h = on_one calls now later (op.ZeroExtend n) (operand_term (number_of lines) a) (Bits (operand row a)) (earlier_value i a f.1.0)
    line_value i s (line.Uext n) [] given f h = absurd f.1
    line_value i s (line.Uext n) (a ∷ b ∷ args) given f h = absurd f.1
    line_value i s (line.Sext n) (a ∷ []) given f h = on_one calls now later (op.SignExtend n) (operand_term (number_of lines) a) (Bits (operand row a)) (earlier_value i a f.1.0)
    line_value i s (line.Sext n) [] given f h = absurd f.1
    line_value i s (line.Sext n) (a ∷ b ∷ args) given f h = absurd f.1
    line_value i s (line.Sort w) args given f h = absurd (cc)
    line_value i s line.Input args given f h = absurd (cc)
    line_value i s line.State args given f h = absurd (cc)
    line_value i s line.Init args given f h = absurd (cc)
    line_value i s line.Next args given f h = absurd (cc)
    line_value i s line.Bad args given f h = absurd (cc)
    line_value i s line.Constraint args given f h = absurd (cc)
    line_value i s line.Output args given f h = absurd (cc)

    -- ---- an operand of one bit is 1

    pub true_holds : (args : List Arg) (a : Arg) → args ≡ a ∷ [] → 1 ≤ width_at lines a.line → operand row a ≡ true_word → Holds calls now later (is_one (operand_term (number_of lines) (argument args 0)))
    true_holds args a e h k =
        subst (λ xs. Holds calls now later (is_one (operand_term (number_of lines) (argument xs 0)))) (sym e)
        (equal_holds calls now later (operand_term (number_of lines) a) (word_term 1 1) (operand row a) true_word (operand_value a h) refl k)

    pub holds_true : (args : List Arg) (a : Arg) → args ≡ a ∷ [] → 1 ≤ width_at lines a.line → Holds calls now later (is_one (operand_term (number_of lines) (argument args 0))) → operand row a ≡ true_word
    holds_true args a e h k =
        holds_equal calls now later (operand_term (number_of lines) a) (word_term 1 1) (operand row a) true_word (operand_value a h) refl
        (subst (λ xs. Holds calls now later (is_one (operand_term (number_of lines) (argument xs 0)))) e k)

    -- ---- values of states, which are read in a target row

    pub part_holds : (primed : Bool) (args : List Arg) (x v : Arg) (word : BitVector) → args ≡ x ∷ v ∷ [] → 1 ≤ width_at lines v.line → term_value calls now later [] (variable (number_of lines x.line) primed) ≡ Bits word
        → word ≡ operand row v → Holds calls now later (value_part (number_of lines) primed args)
    part_holds primed args x v word e h t k =
        subst (λ xs. Holds calls now later (value_part (number_of lines) primed xs)) (sym e)
        (equal_holds calls now later (variable (number_of lines x.line) primed) (operand_term (number_of lines) v) word (operand row v) t (operand_value v h) k)

    pub holds_part : (primed : Bool) (args : List Arg) (x v : Arg) (word : BitVector) → args ≡ x ∷ v ∷ [] → 1 ≤ width_at lines v.line → term_value calls now later [] (variable (number_of lines x.line) primed) ≡ Bits word
        → Holds calls now later (value_part (number_of lines) primed args) → word ≡ operand row v
    holds_part primed args x v word e h t k =
        holds_equal calls now later (variable (number_of lines x.line) primed) (operand_term (number_of lines) v) word (operand row v) t (operand_value v h)
        (subst (λ xs. Holds calls now later (value_part (number_of lines) primed xs)) e k)

    -- ---- inv

    constraint_argument : (i : ℕ) (l : Line) → slice_get lines i ≡ Some l → is_constraint l.op ≡ true → (a : Arg) × (l.args ≡ a ∷ []) × (1 ≤ width_at lines a.line)
    constraint_argument i l h e =
        let o = only l.args (λ a. width_at (take i lines) a.line ≡ 1) (constraint_of i l.sort l.op l.args e (fits_at i l h)) in
        let w = o.2 in
        let some : 1 ≤ width_at (take i lines) o.0.line = omega (arith, w) in
        (o.0, o.1, let m = wider i o.0.line some in omega (arith, m, some))

    here_value : (i : ℕ) (l : Line) → slice_get lines i ≡ Some l → is_local l.op ≡ true → term_value calls now later [] (variable (number_of lines i) false) ≡ Bits (word_at row i)
    here_value i l h e = agree i l h (local_word l.op e).0

    inv_line : EquationsHold lines row → ConstraintsHold lines row → (i : ℕ) (l : Line) → slice_get lines i ≡ Some l → AllByRecursion (λ t. Holds calls now later t) (inv_part lines (number_of lines) i l)
    inv_line eqs constraints i l h =
        all_when (λ t. Holds calls now later t) (is_local l.op) (equation_term (number_of lines) lines i l ∷ []) (if is_constraint l.op then is_one (operand_term (number_of lines) (argument l.args 0)) ∷ [] else [])
        (λ e. (
          equal_holds calls now later (variable (number_of lines i) false) (line_term (number_of lines) (width_at lines) (sort_at lines l.sort) l.op l.args) (word_at row i) (computed (take i lines) row l.sort l.op l.args nothing)
              (here_value i l h e) (line_value i l.sort l.op l.args nothing (fits_at i l h) e) (eqs i l h e),
          tt,
        ))
        (λ n. all_when (λ t. Holds calls now later t) (is_constraint l.op) (is_one (operand_term (number_of lines) (argument l.args 0)) ∷ []) []
        (λ e.
        let a = constraint_argument i l h e in
        let all = subst (AllByRecursion (λ b. operand row b ≡ true_word)) a.1 (operands_each (λ b. operand row b ≡ true_word) is_constraint lines constraints i l h e) in
        (true_holds l.args a.0 a.1 a.2 all.0, tt)) (λ e. tt))

    pub inv_holds : EquationsHold lines row → ConstraintsHold lines row → Holds calls now later (formula_of (inv_part lines (number_of lines)) lines)
    inv_holds eqs constraints =
        all_hold calls now later (parts_from (inv_part lines (number_of lines)) 0 lines)
        (parts_all (λ t. Holds calls now later t) (inv_part lines (number_of lines)) lines 0
        (λ k l h. subst (λ j. AllByRecursion (λ t. Holds calls now later t) (inv_part lines (number_of lines) j l)) (let e : k ≡ 0 + k = omega arith in e) (inv_line eqs constraints k l h)))

    inv_each : Holds calls now later (formula_of (inv_part lines (number_of lines)) lines) → (i : ℕ) (l : Line) → slice_get lines i ≡ Some l → AllByRecursion (λ t. Holds calls now later t) (inv_part lines (number_of lines) i l)
    inv_each h i l there =
        subst (λ j. AllByRecursion (λ t. Holds calls now later t) (inv_part lines (number_of lines) j l)) (let e : 0 + i ≡ i = omega arith in e)
        (parts_each (λ t. Holds calls now later t) (inv_part lines (number_of lines)) lines 0 (each_holds calls now later (parts_from (inv_part lines (number_of lines)) 0 lines) h) i l there)

    pub equations_hold : Holds calls now later (formula_of (inv_part lines (number_of lines)) lines) → EquationsHold lines row
    equations_hold h i l there e =
        holds_equal calls now later (variable (number_of lines i) false) (line_term (number_of lines) (width_at lines) (sort_at lines l.sort) l.op l.args) (word_at row i) (computed (take i lines) row l.sort l.op l.args nothing)
        (here_value i l there e) (line_value i l.sort l.op l.args nothing (fits_at i l there) e)
        (when_true (λ t. Holds calls now later t) (is_local l.op) (equation_term (number_of lines) lines i l ∷ []) (if is_constraint l.op then is_one (operand_term (number_of lines) (argument l.args 0)) ∷ [] else []) e (inv_each h i l there)).0

    pub constraints_hold : Holds calls now later (formula_of (inv_part lines (number_of lines)) lines) → ConstraintsHold lines row
    constraints_hold h =
        operands_all (λ b. operand row b ≡ true_word) is_constraint lines
        (λ i l there e.
        let a = constraint_argument i l there e in
        let part = when_true (λ t. Holds calls now later t) (is_constraint l.op) (is_one (operand_term (number_of lines) (argument l.args 0)) ∷ []) [] e
        (when_false (λ t. Holds calls now later t) (is_local l.op) (equation_term (number_of lines) lines i l ∷ []) (if is_constraint l.op then is_one (operand_term (number_of lines) (argument l.args 0)) ∷ [] else []) (apart l.op e) (inv_each h i l there)) in
        subst (AllByRecursion (λ b. operand row b ≡ true_word)) (sym a.1) (holds_true l.args a.0 a.1 a.2 part.0, tt))

    -- ---- init and trans

    init_word : (x : Arg) → 1 ≤ width_at lines x.line → term_value calls now later [] (variable (number_of lines x.line) false) ≡ Bits (word_at row x.line)
    init_word x h = let g = line_at lines x.line h in agree x.line g.0 g.1 g.2

    pub init_holds : ValuesAre is_init lines row row → Holds calls now later (formula_of (init_part (number_of lines)) lines)
    init_holds values =
        all_hold calls now later (parts_from (init_part (number_of lines)) 0 lines)
        (parts_all (λ t. Holds calls now later t) (init_part (number_of lines)) lines 0
        (λ i l h. all_when (λ t. Holds calls now later t) (is_init l.op) (value_part (number_of lines) false l.args ∷ []) []
        (λ e.
        let p = init_pair i l h e in
        let w = pair_wide is_init i l.sort p.0 p.1 p.3 in
        (part_holds false l.args p.0 p.1 (word_at row p.0.line) p.2 w.1 (init_word p.0 w.0) (values p.0.line p.1 (value_given is_init lines i l p.0 p.1 h e p.2 p.3.5)), tt)) (λ e. tt)))

    pub inits_hold : Holds calls now later (formula_of (init_part (number_of lines)) lines) → ValuesAre is_init lines row row
    inits_hold h s a given =
        let f = value_found is_init lines s a given in
        let p = init_pair f.0 f.1 f.2 f.3 in
        let w = pair_wide is_init f.0 f.1.sort p.0 p.1 p.3 in
        let g = value_for_facts f.1.args s a f.4 in
        let part = when_true (λ t. Holds calls now later t) (is_init f.1.op) (value_part (number_of lines) false f.1.args ∷ []) [] f.3
        (parts_each (λ t. Holds calls now later t) (init_part (number_of lines)) lines 0 (each_holds calls now later (parts_from (init_part (number_of lines)) 0 lines) h) f.0 f.1 f.2) in
        let r = holds_part false f.1.args p.0 p.1 (word_at row p.0.line) p.2 w.1 (init_word p.0 w.0) part.0 in
        let same = sym p.2 ∙ g.1 in
        let x : p.0 ≡ g.0 = cc in
        let v : p.1 ≡ a = cc in
        ap (word_at row) (sym g.2 ∙ sym (ap (λ (y : Arg). y.line) x)) ∙ r ∙ ap (operand row) v

    module _ (next : List BitVector) (after : Agree lines next later) where
      next_word : (x : Arg) → 1 ≤ width_at lines x.line → term_value calls now later [] (variable (number_of lines x.line) true) ≡ Bits (word_at next x.line)
      next_word x h = let g = line_at lines x.line h in after x.line g.0 g.1 g.2

      pub trans_holds : ValuesAre is_next lines row next → Holds calls now later (formula_of (trans_part (number_of lines)) lines)
      trans_holds values =
          all_hold calls now later (parts_from (trans_part (number_of lines)) 0 lines)
          (parts_all (λ t. Holds calls now later t) (trans_part (number_of lines)) lines 0
          (λ i l h. all_when (λ t. Holds calls now later t) (is_next l.op) (value_part (number_of lines) true l.args ∷ []) []
          (λ e.
          let p = next_pair i l h e in
          let w = pair_wide is_next i l.sort p.0 p.1 p.3 in
          (part_holds true l.args p.0 p.1 (word_at next p.0.line) p.2 w.1 (next_word p.0 w.0) (values p.0.line p.1 (value_given is_next lines i l p.0 p.1 h e p.2 p.3.5)), tt)) (λ e. tt)))

      pub nexts_hold : Holds calls now later (formula_of (trans_part (number_of lines)) lines) → ValuesAre is_next lines row next
      nexts_hold h s a given =
          let f = value_found is_next lines s a given in
          let p = next_pair f.0 f.1 f.2 f.3 in
          let w = pair_wide is_next f.0 f.1.sort p.0 p.1 p.3 in
          let g = value_for_facts f.1.args s a f.4 in
          let part = when_true (λ t. Holds calls now later t) (is_next f.1.op) (value_part (number_of lines) true f.1.args ∷ []) [] f.3
          (parts_each (λ t. Holds calls now later t) (trans_part (number_of lines)) lines 0 (each_holds calls now later (parts_from (trans_part (number_of lines)) 0 lines) h) f.0 f.1 f.2) in
          let r = holds_part true f.1.args p.0 p.1 (word_at next p.0.line) p.2 w.1 (next_word p.0 w.0) part.0 in
          let same = sym p.2 ∙ g.1 in
          let x : p.0 ≡ g.0 = cc in
          let v : p.1 ≡ a = cc in
          ap (word_at next) (sym g.2 ∙ sym (ap (λ (y : Arg). y.line) x)) ∙ r ∙ ap (operand row) v
