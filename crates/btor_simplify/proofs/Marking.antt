-- Marks of lines.
use Rattle.std.proofs.Common.{◌≡◌, ℕ, zero, suc, ◌+◌, ◌-◌, ◌<◌, ◌≤◌, Bool, true, false, not, ◌&&◌, List, [], ◌∷◌, ◌++◌, length, take, set, get_or, map, replicate, Some, refl, sym, ap, subst, ◌∙◌, arith, inl, inr, ◌⊎◌}
use Rattle.std.specs.Prelude.{slice_get}
use Rattle.std.specs.List.{AllByRecursion}
use Rattle.std.proofs.lemmas.Bool.{cases_lt, cases_eq, cases_Bool, and_cases, and_parts}
use Rattle.std.proofs.lemmas.List.{get_or-set_same, get_or-set_other, length-set, length-take, length-replicate}
use Rattle.std.proofs.lemmas.Option.{same_Some, none-some, slice_get-get_or, slice_get_read}
use Rattle.word_core.specs.Words.{BitVector}
use Rattle.btor_tree.specs.declared.args.Arg.{Arg}
use Rattle.btor_tree.specs.declared.lines.Line.{Line}
use Rattle.btor_tree.specs.declared.lines.LineOp.{LineOp}
use Rattle.btor_tree.specs.declared.lines.LineOp.TheVariants as op
use Rattle.btor_tree.specs.Fits.{AreEarlier, OpFits, width_at}
use Rattle.btor_tree.specs.Sharing.{is_shared}
use Rattle.btor_tree.proofs.Grows.{slice_get_inside, inside_get}
use Rattle.btor_rules.specs.declared.operand.Outcome.{Outcome}
use Rattle.btor_rules.specs.declared.operand.Outcome.TheVariants.{Stays, Constant, Argument}
use Rattle.btor_simplify.specs.Fates.{fate_at, replaced, Lives}
use Rattle.btor_simplify.specs.Marks.{args_by, is_marked, AreMarkedLines, MarksUpto, CanMark, IsReached, starts, reads, AreMarks, AreKnown}
use Rattle.btor_simplify.proofs.Steps.{none_all, worded, moved_arg, width_before}

set_marked : (marks : List Bool) (p i : ℕ) → is_marked marks i ≡ true → p < length marks → is_marked (set marks p true) i ≡ true
set_marked marks p i h lt =
    elim (cases_eq i p) [
      | inl e ↦ ap (λ n. get_or (set marks p true) n false) e ∙ get_or-set_same marks p true false lt
      | inr d ↦ get_or-set_other marks p i true false d ∙ h
    ]

set_only : (marks : List Bool) (p i : ℕ) → is_marked (set marks p true) i ≡ true → (is_marked marks i ≡ true) ⊎ (i ≡ p)
set_only marks p i h =
    elim (cases_eq i p) [ inl e ↦ inr e | inr d ↦ inl (sym (get_or-set_other marks p i true false d) ∙ h) ]

pub marks_none : (fates : List Outcome) (args : List Arg) (marks : List Bool) → MarksUpto fates args 0 marks marks
marks_none fates args marks =
    record { sized = refl; stays = λ i h. h; marked = λ j a lt e. absurd (omega (arith, lt)); only = λ i h. inl h }

pub marks_step : (fates : List Outcome) (args : List Arg) (k : ℕ) (old new : List Bool) (a : Arg) → MarksUpto fates args k old new → slice_get args k ≡ Some a → (replaced fates a).line < length new → MarksUpto fates args (k + 1) old (set new (replaced fates a).line true)
marks_step fates args k old new a m at lt =
    let p = (replaced fates a).line in
    record {
      sized = length-set new p true ∙ m.sized;
      stays = λ i h. set_marked new p i (m.stays i h) lt;
      marked = λ j b h e. elim (cases_lt j k) [
        | inl less ↦ set_marked new p (replaced fates b).line (m.marked j b less e) lt
        | inr ge ↦
            let same : j ≡ k = omega (arith, h, ge) in
            let one : b ≡ a = same_Some b a (sym e ∙ ap (slice_get args) same ∙ at) in
            ap (λ (x : Arg). is_marked (set new p true) (replaced fates x).line) one ∙ get_or-set_same new p true false lt
      ];
      only = λ i h. elim (set_only new p i h) [ inl o ↦ m.only i o | inr e ↦ inr (k, a, at, e) ];
    }

-- each argument of a line of another kind has a word
worded_other : (before : List Line) (s : ℕ) (o : LineOp) (args : List Arg) → is_shared o ≡ false → OpFits before s o args → AllByRecursion (λ (a : Arg). 1 ≤ width_at before a.line) args
worded_other before s op.Input args h f = none_all _ args f.1
worded_other before s op.State args h f = none_all _ args f.1
worded_other before s op.Init [] h f = absurd f
worded_other before s op.Init (x ∷ []) h f = absurd f
worded_other before s op.Init (x ∷ v ∷ []) h f = (omega (arith, f.0.2, f.0.3), (omega (arith, f.0.2, f.0.4), tt))
worded_other before s op.Init (x ∷ v ∷ y ∷ more) h f = absurd f
worded_other before s op.Next [] h f = absurd f
worded_other before s op.Next (x ∷ []) h f = absurd f
worded_other before s op.Next (x ∷ v ∷ []) h f = (omega (arith, f.2, f.3), (omega (arith, f.2, f.4), tt))
worded_other before s op.Next (x ∷ v ∷ y ∷ more) h f = absurd f
worded_other before s op.Bad [] h f = absurd f.1
worded_other before s op.Bad (a ∷ []) h f = (omega (arith, f.1), tt)
worded_other before s op.Bad (a ∷ b ∷ more) h f = absurd f.1
worded_other before s op.Constraint [] h f = absurd f.1
worded_other before s op.Constraint (a ∷ []) h f = (omega (arith, f.1), tt)
worded_other before s op.Constraint (a ∷ b ∷ more) h f = absurd f.1
worded_other before s op.Output [] h f = absurd f.1
worded_other before s op.Output (a ∷ []) h f = (f.1, tt)
worded_other before s op.Output (a ∷ b ∷ more) h f = absurd f.1
worded_other before s o args h f = absurd (cc)

pub worded_any : (before : List Line) (s : ℕ) (o : LineOp) (args : List Arg) → OpFits before s o args → AllByRecursion (λ (a : Arg). 1 ≤ width_at before a.line) args
worded_any before s o args f =
    elim (cases_Bool (is_shared o)) [ inl h ↦ worded before s o args h f | inr h ↦ worded_other before s o args h f ]

-- an argument that is there
arg_at : (before : List Line) (n : ℕ) (args : List Arg) (j : ℕ) (a : Arg) → AreEarlier n args → AllByRecursion (λ (b : Arg). 1 ≤ width_at before b.line) args → slice_get args j ≡ Some a → (a.line < n) × (1 ≤ width_at before a.line)
arg_at before n [] j a e w h = absurd (none-some a h)
arg_at before n (b ∷ more) zero a e w h =
    let one : b ≡ a = same_Some b a h in
    subst (λ (x : Arg). (x.line < n) × (1 ≤ width_at before x.line)) one (e.0, w.0)
arg_at before n (b ∷ more) (suc j) a e w h = arg_at before n more j a e.1 w.1 h

-- what stands for an argument of a line
pub record IsSource (lines : List Line) (fates : List Outcome) (i : ℕ) (a : Arg) : Type 0 where
  pub inside : a.line < length fates
  pub before : a.line < i
  pub earlier : (replaced fates a).line < i
  pub lives : Lives (fate_at fates (replaced fates a).line)
  pub wide : 1 ≤ width_at lines (replaced fates a).line
  pub width : width_at lines (replaced fates a).line ≡ width_at (take i lines) a.line

pub source : (lines : List Line) (fates : List Outcome) (i : ℕ) (l : Line) (j : ℕ) (a : Arg) → AreKnown lines fates → slice_get lines i ≡ Some l → slice_get l.args j ≡ Some a → IsSource lines fates i a
source lines fates i l j a k at h =
    let inside = slice_get_inside lines i l at in
    let body = (k.well_formed.by_line i l at).body in
    let g = arg_at (take i lines) (length (take i lines)) l.args j a body.earlier (worded_any (take i lines) l.sort l.op l.args body.sorts) h in
    let less : a.line < i = omega (arith, g.0, length-take i lines) in
    let lt : a.line < length fates = omega (arith, less, inside, k.sized) in
    let m = moved_arg lines fates a k.known lt in
    let same = width_before lines i a.line g.1 in
    record { inside = lt; before = less; earlier = omega (arith, m.le, less); lives = m.lives; wide = omega (arith, m.width, same, g.1); width = m.width ∙ same }

pub can_mark : (lines : List Line) (fates : List Outcome) (marks : List Bool) (i : ℕ) (l : Line) → AreKnown lines fates → slice_get lines i ≡ Some l → length marks ≡ length lines → CanMark fates l.args marks
can_mark lines fates marks i l k at e =
    λ j a h. let s = source lines fates i l j a k at h in (s.inside, omega (arith, s.earlier, slice_get_inside lines i l at, e))

marked_more : (old new : List Bool) → ((i : ℕ) → is_marked old i ≡ true → is_marked new i ≡ true) → (args : List Arg) → AreMarkedLines old args → AreMarkedLines new args
marked_more old new h [] m = tt
marked_more old new h (a ∷ more) m = (h a.line m.0, marked_more old new h more m.1)

pub map_here : (fates : List Outcome) (args : List Arg) (j : ℕ) (a : Arg) → slice_get args j ≡ Some a → slice_get (map (replaced fates) args) j ≡ Some (replaced fates a)
map_here fates [] j a e = absurd (none-some a e)
map_here fates (x ∷ more) zero a e = ap Some (ap (replaced fates) (same_Some x a e))
map_here fates (x ∷ more) (suc j) a e = map_here fates more j a e

-- one line more is done
module _ (lines : List Line) (fates : List Outcome) (i : ℕ) (l : Line) (k : AreKnown lines fates) (at : slice_get lines i ≡ Some l) (old : List Bool) (h : AreMarks lines fates (i + 1) old) where
  here_lives : (is_shared l.op ≡ false) ⊎ (is_marked old i ≡ true) → Lives (fate_at fates i)
  here_lives s =
      elim s [
        | inl o ↦
            let lt : i < length fates = omega (arith, k.sized, slice_get_inside lines i l at) in
            let f = inside_get fates i lt in
            let stays : f.0 ≡ Stays = (k.known.by_line i l f.0 at f.1).0 o in
            subst Lives (sym (fate_is f.0 f.1 ∙ stays)) tt
        | inr m ↦ h.lives i m
      ]
    where
      fate_is : (f : Outcome) → slice_get fates i ≡ Some f → fate_at fates i ≡ f
      fate_is f e = same_Some _ f (sym (slice_get-get_or fates i Stays (slice_get_inside fates i f e)) ∙ e)

  here_word : (is_shared l.op ≡ false) ⊎ (is_marked old i ≡ true) → (m : Line) → slice_get lines i ≡ Some m → is_shared m.op ≡ true → 1 ≤ width_at lines i
  here_word s m e g =
      elim s [
        | inl o ↦ absurd (differ (sym g ∙ ap (λ (x : Line). is_shared x.op) (same_Some m l (sym e ∙ at)) ∙ o))
        | inr t ↦ h.words i m e g t
      ]
    where
      differ : true ≡ false → ⊥
      differ e = absurd (cc)

  here_reached : (is_shared l.op ≡ false) ⊎ (is_marked old i ≡ true) → IsReached lines fates i
  here_reached s = elim s [ inl o ↦ starts i l at o | inr m ↦ h.reached i m ]

  module _ (s : (is_shared l.op ≡ false) ⊎ (is_marked old i ≡ true)) (new : List Bool) (sized : length new ≡ length old) (stays : (j : ℕ) → is_marked (set old i true) j ≡ true → is_marked new j ≡ true) (only : (j : ℕ) → is_marked new j ≡ true → (is_marked (set old i true) j ≡ true) ⊎ ((j < i) × Lives (fate_at fates j) × (1 ≤ width_at lines j) × IsReached lines fates j)) (here : AreMarkedLines new (args_by fates (fate_at fates i) l.args)) where
    inside_marks : i < length old
    inside_marks = omega (arith, h.sized, slice_get_inside lines i l at)

    keeps : (j : ℕ) → is_marked old j ≡ true → is_marked new j ≡ true
    keeps j m = stays j (set_marked old i j m inside_marks)

    pub line_marked : AreMarks lines fates i new
    line_marked =
        record {
          sized = sized ∙ h.sized;
          lives = λ j m. elim (only j m) [
            | inl o ↦ elim (set_only old i j o) [ inl x ↦ h.lives j x | inr e ↦ subst (λ n. Lives (fate_at fates n)) (sym e) (here_lives s) ]
            | inr o ↦ o.1
          ];
          words = λ j m e g t. elim (only j t) [
            | inl o ↦ elim (set_only old i j o) [ inl x ↦ h.words j m e g x | inr q ↦ subst (λ n. 1 ≤ width_at lines n) (sym q) (here_word s m (ap (slice_get lines) (sym q) ∙ e) g) ]
            | inr o ↦ o.2
          ];
          reached = λ j m. elim (only j m) [
            | inl o ↦ elim (set_only old i j o) [ inl x ↦ h.reached j x | inr e ↦ subst (IsReached lines fates) (sym e) (here_reached s) ]
            | inr o ↦ o.3
          ];
          kept = λ j m le e g. elim (cases_lt i j) [
            | inl lt ↦ keeps j (h.kept j m (omega (arith, lt)) e g)
            | inr ge ↦ let same : j ≡ i = omega (arith, le, ge) in stays j (ap (λ n. get_or (set old i true) n false) same ∙ get_or-set_same old i true false inside_marks)
          ];
          closed = λ j m le e t. elim (cases_lt i j) [
            | inl lt ↦ elim (only j t) [
              | inl o ↦ elim (set_only old i j o) [
                | inl x ↦ marked_more old new keeps (args_by fates (fate_at fates j) m.args) (h.closed j m (omega (arith, lt)) e x)
                | inr q ↦ absurd (omega (arith, lt, q))
              ]
              | inr o ↦ absurd (omega (arith, lt, o.0))
            ]
            | inr ge ↦
                let same : i ≡ j = omega (arith, le, ge) in
                let one : l ≡ m = same_Some l m (sym at ∙ ap (slice_get lines) same ∙ e) in
                subst (λ n. AreMarkedLines new (args_by fates (fate_at fates n) m.args)) same (subst (λ (x : Line). AreMarkedLines new (args_by fates (fate_at fates i) x.args)) one here)
          ];
        }

  -- a constant reads nothing
  pub constant_marked : (is_shared l.op ≡ false) ⊎ (is_marked old i ≡ true) → (c : BitVector) → fate_at fates i ≡ Constant c → AreMarks lines fates i (set old i true)
  constant_marked s c e =
      line_marked s (set old i true) (length-set old i true) (λ j m. m) (λ j m. inl m) (subst (λ f. AreMarkedLines (set old i true) (args_by fates f l.args)) (sym e) tt)

  args_marked : (new : List Bool) → (args : List Arg) (n : ℕ) → ((j : ℕ) (a : Arg) → slice_get args j ≡ Some a → is_marked new (replaced fates a).line ≡ true) → AreMarkedLines new (map (replaced fates) args)
  args_marked new [] n m = tt
  args_marked new (a ∷ more) n m = (m zero a refl, args_marked new more n (λ j b e. m (suc j) b e))

  args_by_marked : (new : List Bool) (f : Outcome) → AreMarkedLines new (map (replaced fates) l.args) → AreMarkedLines new (args_by fates f l.args)
  args_by_marked new Stays m = m
  args_by_marked new (Constant c) m = tt
  args_by_marked new (Argument b) m = m

  read_arg : (f : Outcome) → ((c : BitVector) → f ≡ Constant c → ⊥) → (j : ℕ) (a : Arg) → slice_get l.args j ≡ Some a → slice_get (args_by fates f l.args) j ≡ Some (replaced fates a)
  read_arg Stays n j a e = map_here fates l.args j a e
  read_arg (Constant c) n j a e = absurd (n c refl)
  read_arg (Argument b) n j a e = map_here fates l.args j a e

  pub operator_marked : (is_shared l.op ≡ false) ⊎ (is_marked old i ≡ true) → ((c : BitVector) → fate_at fates i ≡ Constant c → ⊥) → (new : List Bool) → MarksUpto fates l.args (length l.args) (set old i true) new → AreMarks lines fates i new
  operator_marked s n new m =
      line_marked s new (m.sized ∙ length-set old i true) m.stays
      (λ j t. elim (m.only j t) [
        | inl o ↦ inl o
        | inr o ↦ let g = source lines fates i l o.0 o.1 k at o.2 in inr (omega (arith, g.earlier, o.3), subst (λ n. Lives (fate_at fates n)) (sym o.3) g.lives, subst (λ n. 1 ≤ width_at lines n) (sym o.3) g.wide, reads i o.0 j l (replaced fates o.1) (here_reached s) at (read_arg (fate_at fates i) n o.0 o.1 o.2) (sym o.3))
      ])
      (args_by_marked new (fate_at fates i) (args_marked new l.args 0 (λ j a e. m.marked j a (slice_get_inside l.args j a e) e)))

  pub skipped : is_shared l.op ≡ true → is_marked old i ≡ false → AreMarks lines fates i old
  skipped g n =
      record {
        sized = h.sized;
        lives = h.lives;
        words = h.words;
        reached = h.reached;
        kept = λ j m le e o. elim (cases_lt i j) [
          | inl lt ↦ h.kept j m (omega (arith, lt)) e o
          | inr ge ↦ let same : i ≡ j = omega (arith, le, ge) in absurd (differ (sym g ∙ ap (λ (x : Line). is_shared x.op) (same_Some l m (sym at ∙ ap (slice_get lines) same ∙ e)) ∙ o))
        ];
        closed = λ j m le e t. elim (cases_lt i j) [
          | inl lt ↦ h.closed j m (omega (arith, lt)) e t
          | inr ge ↦ let same : i ≡ j = omega (arith, le, ge) in absurd (differ (sym (ap (is_marked old) same ∙ t) ∙ n))
        ];
      }
    where
      differ : true ≡ false → ⊥
      differ e = absurd (cc)

-- nothing is marked
pub no_marks : (lines : List Line) (fates : List Outcome) (marks : List Bool) → length marks ≡ length lines → ((i : ℕ) → is_marked marks i ≡ false) → AreMarks lines fates (length lines) marks
no_marks lines fates marks e none =
    record {
      sized = e;
      lives = λ i m. absurd (differ (sym m ∙ none i));
      words = λ i l at g m. absurd (differ (sym m ∙ none i));
      reached = λ i m. absurd (differ (sym m ∙ none i));
      kept = λ i l le at g. absurd (omega (arith, le, slice_get_inside lines i l at));
      closed = λ i l le at m. absurd (omega (arith, le, slice_get_inside lines i l at));
    }
  where
    differ : true ≡ false → ⊥
    differ e = absurd (cc)

-- a line that is not left out
pub left_cases : (o : LineOp) (marked : Bool) → (is_shared o && not marked) ≡ false → (is_shared o ≡ false) ⊎ (marked ≡ true)
left_cases o true h = inr refl
left_cases o false h = elim (and_cases (is_shared o) true h) [ inl a ↦ inl a | inr b ↦ absurd (differ b) ]
  where
    differ : true ≡ false → ⊥
    differ e = absurd (cc)

pub left_out : (o : LineOp) (marked : Bool) → (is_shared o && not marked) ≡ true → (is_shared o ≡ true) × (marked ≡ false)
left_out o true h = let p = and_parts (is_shared o) false h in (p.0, sym p.1)
left_out o false h = ((and_parts (is_shared o) true h).0, refl)

pub fate_read : (fates : List Outcome) (i : ℕ) (f : Outcome) → i < length fates → f ≡ get_or fates i f → fate_at fates i ≡ f
fate_read fates i f lt e = let s = slice_get_read fates (length fates) i f refl lt e in same_Some _ f (sym (slice_get-get_or fates i Stays lt) ∙ s)

pub resized : (old new : List Bool) (n k : ℕ) → old ≡ [] → k ≡ 0 → new ≡ take n old ++ replicate (n - k) false → (length new ≡ n) × ((i : ℕ) → is_marked new i ≡ false)
resized old new n k e z h =
    let rest : n - k ≡ n = omega (arith, z) in
    let all : new ≡ replicate n false = h ∙ ap (λ m. take n old ++ replicate m false) rest ∙ ap (λ xs. take n xs ++ replicate n false) e ∙ ap (λ xs. xs ++ replicate n false) (from_nothing n) in
    (ap length all ∙ length-replicate n false, λ i. ap (λ xs. get_or xs i false) all ∙ none_of n i)
  where
    from_nothing : (n : ℕ) → take n (let xs : List Bool = [] in xs) ≡ []
    from_nothing zero = refl
    from_nothing (suc n) = refl

    none_of : (n i : ℕ) → get_or (replicate n false) i false ≡ false
    none_of zero i = refl
    none_of (suc n) zero = refl
    none_of (suc n) (suc i) = none_of n i
