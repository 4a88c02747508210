-- The values that init and next lines give to states, in two lists with the same lines.
use Rattle.std.proofs.Common.{◌≡◌, ℕ, zero, suc, Bool, true, false, cond, ◌||◌, List, [], ◌∷◌, take, map, Option, Some, None, refl, sym, ap, subst, ◌∙◌, inl, inr, ◌⊎◌}
use Rattle.std.specs.Prelude.{slice_get}
use Rattle.std.specs.Option.{option_or}
use Rattle.std.proofs.lemmas.Bool.{eq-eqb}
use Rattle.std.proofs.lemmas.Option.{same_Some, none-some}
use Rattle.word_core.specs.Words.{BitVector}
use Rattle.btor_tree.specs.declared.args.Arg.{Arg}
use Rattle.btor_tree.specs.declared.lines.Line.{Line}
use Rattle.btor_tree.specs.declared.lines.LineOp.{LineOp}
use Rattle.btor_tree.specs.declared.lines.LineOp.TheVariants as op
use Rattle.btor_tree.specs.Fits.{OpFits, OnTwo, GivesValue, IsWellFormed, is_init, is_next, is_state, plain_arg, state_value, value_for, value_in}
use Rattle.btor_tree.specs.Frame.{word_at, operand, IsFrame}
use Rattle.btor_tree.specs.Sharing.{is_shared}
use Rattle.btor_tree.proofs.Paths.{state_is}
use Rattle.btor_tree.proofs.Widths.{option_cases}
use Rattle.btor_frames.specs.Steps.{value_kind, ValuesHold}
use Rattle.btor_simplify.specs.Kept.{AreSameLines}
use Rattle.btor_simplify.specs.Words.{HasSameWords}
use Rattle.btor_simplify.proofs.Writing.{two_args, value_args, init_two, next_two, head_same, kind_line, take_line}
use Rattle.btor_simplify.proofs.WitnessesPlaces.{IsKept, one_place, line_from}

-- init lines and next lines
kind_kept : (begun : Bool) → IsKept (value_kind begun)
kind_kept true op.Next h = refl
kind_kept true o h = absurd (cc)
kind_kept false op.Init h = refl
kind_kept false o h = absurd (cc)

kind_valued : (begun : Bool) (o : LineOp) → value_kind begun o ≡ true → (is_init o || is_next o) ≡ true
kind_valued true op.Next h = refl
kind_valued true o h = absurd (cc)
kind_valued false op.Init h = refl
kind_valued false o h = absurd (cc)

kind_two : (begun : Bool) (ls : List Line) (s : ℕ) (o : LineOp) (args : List Arg) → value_kind begun o ≡ true → OpFits ls s o args → OnTwo args (λ x v. GivesValue (value_kind begun) ls s x v)
kind_two true ls s o args k f = next_two ls s o args k f
kind_two false ls s o args k f = init_two ls s o args k f

-- the line that gives a state its value
here_or_later : (b : Bool) (o rest : Option Arg) (a : Arg) → option_or (cond b o None) rest ≡ Some a → ((b ≡ true) × (o ≡ Some a)) ⊎ (rest ≡ Some a)
here_or_later false o rest a h = inr h
here_or_later true None rest a h = inr h
here_or_later true (Some x) rest a h = inl (refl, h)

given_by : (kind : LineOp → Bool) (ls : List Line) (s : ℕ) (a : Arg) → state_value kind ls s ≡ Some a → (i : ℕ) × (l : Line) × (x : Arg) × (slice_get ls i ≡ Some l) × (kind l.op ≡ true) × (l.args ≡ x ∷ a ∷ []) × (x.line ≡ s)
given_by kind [] s a h = absurd (none-some a h)
given_by kind (l ∷ ls) s a h =
    elim (here_or_later (kind l.op) (value_for l.args s) (state_value kind ls s) a h) [
      | inl g ↦ let v = value_args l.args s a g.1 in (zero, l, v.0, refl, g.0, v.2 ∙ ap (λ y. v.0 ∷ y ∷ []) v.4, v.3)
      | inr g ↦ let r = given_by kind ls s a g in (suc r.0, r.1, r.2, r.3, r.4, r.5, r.6)
    ]

or_none : (a b : Option Arg) → option_or a b ≡ None → (a ≡ None) × (b ≡ None)
or_none None b h = (refl, h)
or_none (Some x) b h = absurd (none-some x (sym h))

gives : (kind : LineOp → Bool) (l : Line) (x v : Arg) → kind l.op ≡ true → l.args ≡ x ∷ v ∷ [] → value_in kind l x.line ≡ Some v
gives kind l x v k e =
    ap (λ b. cond b (value_for l.args x.line) None) k ∙ ap (λ zs. value_for zs x.line) e ∙ ap (λ b. cond b (Some v) None) (eq-eqb x.line x.line refl)

-- the first line that gives a state a value gives it this value
value_there : (kind : LineOp → Bool) (ls : List Line) (i : ℕ) (l : Line) (x v : Arg) → slice_get ls i ≡ Some l → kind l.op ≡ true → l.args ≡ x ∷ v ∷ [] → state_value kind (take i ls) x.line ≡ None → state_value kind ls x.line ≡ Some v
value_there kind [] i l x v at k e none = absurd (none-some l at)
value_there kind (m ∷ ls) zero l x v at k e none =
    ap (λ (z : Line). option_or (value_in kind z x.line) (state_value kind ls x.line)) (same_Some m l at) ∙ ap (λ o. option_or o (state_value kind ls x.line)) (gives kind l x v k e)
value_there kind (m ∷ ls) (suc i) l x v at k e none =
    let n = or_none (value_in kind m x.line) (state_value kind (take i ls) x.line) none in
    ap (λ o. option_or o (state_value kind ls x.line)) n.0 ∙ value_there kind ls i l x v at k e n.1

second_word : (a b c d : BitVector) → a ∷ b ∷ [] ≡ c ∷ d ∷ [] → b ≡ d
second_word a b c d e = same_Some b d (ap (λ zs. slice_get zs 1) e)

-- the frames before, where there are any
abbrev pub AreLast : (List BitVector → List BitVector → Type 0) → Bool → List BitVector → List BitVector → Type 0
AreLast R true last before = R last before
AreLast R false last before = Unit {0}

-- a frame and one with the same words
abbrev pub AreAlike : (old new : List Line) → (ℕ → ℕ) → List BitVector → List BitVector → Type 0
AreAlike old new place row image = IsFrame old row × HasSameWords old new place row image

module _ (old new : List Line) (place : ℕ → ℕ) (same : AreSameLines old new place) (wo : IsWellFormed old) (wn : IsWellFormed new) where
  -- a value in the new lines is one of the old lines
  abbrev pub ValueFrom : Bool → ℕ → Arg → Type 0
  ValueFrom begun t b =
      (s : ℕ) × (l : Line) × (a : Arg) × (slice_get old s ≡ Some l) × (l.op ≡ op.State) × (place s ≡ t) × (state_value (value_kind begun) old s ≡ Some a) × ((row image : List BitVector) → HasSameWords old new place row image → operand image b ≡ operand row a)

  pub value_from : (begun : Bool) (t : ℕ) (b : Arg) → state_value (value_kind begun) new t ≡ Some b → ValueFrom begun t b
  value_from begun t b h =
      let kind = value_kind begun in
      let g = given_by kind new t b h in
      let f = line_from old new place same g.0 g.1 g.3 (kind_kept begun g.1.op g.4) in
      let k : kind f.1.op ≡ true = ap kind f.3 ∙ g.4 in
      let two = kind_two begun (take f.0 old) f.1.sort f.1.op f.1.args k (wo.by_line f.0 f.1 f.2).body.sorts in
      let xv = two_args f.1.args (λ x v. GivesValue kind (take f.0 old) f.1.sort x v) two in
      let at : slice_get new (place f.0) ≡ Some g.1 = ap (slice_get new) f.4 ∙ g.3 in
      let st = same.states f.0 f.1 g.1 xv.0 xv.1 f.2 (kind_valued begun f.1.op k) xv.2 at in
      let both : g.2 ∷ b ∷ [] ≡ plain_arg (place xv.0.line) ∷ st.0 ∷ [] = sym g.5 ∙ st.1 in
      let sl = kind_line is_state (take f.0 old) xv.0.line xv.3.0 in (
        xv.0.line,
        sl.0,
        xv.1,
        take_line old f.0 xv.0.line sl.0 sl.1,
        state_is sl.0.op sl.2,
        sym (ap (λ (z : Arg). z.line) (head_same _ _ _ _ both)) ∙ g.6,
        value_there kind old f.0 f.1 xv.0 xv.1 f.2 k xv.2 xv.3.5,
        λ row image w.
            let words : map (operand image) (g.2 ∷ b ∷ []) ≡ map (operand row) (xv.0 ∷ xv.1 ∷ []) =
            sym (ap (map (operand image)) g.5) ∙ w.args f.0 f.1 g.1 f.2 (kind_kept begun f.1.op k) at ∙ ap (map (operand row)) xv.2 in
            second_word (operand image g.2) (operand image b) (operand row xv.0) (operand row xv.1) words,
      )

  -- and the other way round
  pub value_to : (begun : Bool) (s : ℕ) (a : Arg) → state_value (value_kind begun) old s ≡ Some a → (b : Arg) × (state_value (value_kind begun) new (place s) ≡ Some b) × ((row image : List BitVector) → HasSameWords old new place row image → operand image b ≡ operand row a)
  value_to begun s a h =
      let kind = value_kind begun in
      let g = given_by kind old s a h in
      let kept = kind_kept begun g.1.op g.4 in
      let t = same.there g.0 g.1 g.3 kept in
      let st = same.states g.0 g.1 t.0 g.2 a g.3 (kind_valued begun g.1.op g.4) g.5 t.1 in
      let k : kind t.0.op ≡ true = ap kind t.2 ∙ g.4 in
      let two = kind_two begun (take (place g.0) new) t.0.sort t.0.op t.0.args k (wn.by_line (place g.0) t.0 t.1).body.sorts in
      let yv = two_args t.0.args (λ x v. GivesValue kind (take (place g.0) new) t.0.sort x v) two in
      let first : yv.0 ≡ plain_arg (place g.2.line) = head_same _ _ _ _ (sym yv.2 ∙ st.1) in
      let state : yv.0.line ≡ place s = ap (λ (z : Arg). z.line) first ∙ ap place g.6 in
      let found = value_there kind new (place g.0) t.0 yv.0 yv.1 t.1 k yv.2 yv.3.5 in (
        yv.1,
        subst (λ n. state_value kind new n ≡ Some yv.1) state found,
        λ row image w.
            let words : map (operand image) (yv.0 ∷ yv.1 ∷ []) ≡ map (operand row) (g.2 ∷ a ∷ []) =
            sym (ap (map (operand image)) yv.2) ∙ w.args g.0 g.1 t.0 g.3 kept t.1 ∙ ap (map (operand row)) g.5 in
            second_word (operand image yv.0) (operand image yv.1) (operand row g.2) (operand row a) words,
      )

  pub none_to : (begun : Bool) (i : ℕ) (l : Line) → slice_get old i ≡ Some l → l.op ≡ op.State → state_value (value_kind begun) old i ≡ None → state_value (value_kind begun) new (place i) ≡ None
  none_to begun i l at e none =
      elim (option_cases (state_value (value_kind begun) new (place i))) [
        | inl n ↦ n
        | inr f ↦
            let v = value_from begun (place i) f.0 f.1 in
            let one : v.0 ≡ i = one_place old new place same v.0 i v.1 l v.3 at (ap is_shared v.4) (ap is_shared e) v.5 in
            absurd (none-some v.2 (sym none ∙ ap (state_value (value_kind begun) old) (sym one) ∙ v.6))
      ]

  pub none_from : (begun : Bool) (i : ℕ) → state_value (value_kind begun) new (place i) ≡ None → state_value (value_kind begun) old i ≡ None
  none_from begun i none =
      elim (option_cases (state_value (value_kind begun) old i)) [
        | inl n ↦ n
        | inr f ↦ let v = value_to begun i f.0 f.1 in absurd (none-some v.0 (sym none ∙ v.1))
      ]

  pub values_to : (begun : Bool) (last before row image : List BitVector) → AreLast (AreAlike old new place) begun last before → HasSameWords old new place row image → ValuesHold begun old last row → ValuesHold begun new before image
  values_to true last before row image b w h =
      λ t a e. let v = value_from true t a e in sym (ap (word_at image) v.5) ∙ w.words v.0 v.1 v.3 (ap is_shared v.4) ∙ h v.0 v.2 v.6 ∙ sym (v.7 last before b.1)
  values_to false last before row image b w h =
      λ t a e. let v = value_from false t a e in sym (ap (word_at image) v.5) ∙ w.words v.0 v.1 v.3 (ap is_shared v.4) ∙ h v.0 v.2 v.6 ∙ sym (v.7 row image w)
