-- One line more in the order.
use Rattle.std.proofs.Common.{◌≡◌, ℕ, zero, suc, ◌+◌, ◌-◌, ◌<◌, ◌≤◌, Bool, true, false, cond, List, [], ◌∷◌, ◌++◌, ◌||◌, eqb, length, take, set, get_or, map, replicate, Option, Some, None, refl, sym, ap, subst, ◌∙◌, arith, inl, inr}
use Rattle.std.specs.Prelude.{slice_get, OnOk}
use Rattle.std.specs.declared.result.Result.{Result}
use Rattle.std.specs.declared.result.Result.TheVariants.{Ok, Err}
use Rattle.std.proofs.lemmas.Bool.{cases_lt, cases_eq, cases_Bool, eq-eqb, ne_eqb}
use Rattle.std.proofs.lemmas.List.{get_or-set_same, get_or-set_other, length-set, length_push, length-replicate}
use Rattle.std.proofs.lemmas.Option.{same_Some, none-some}
use Rattle.btor_tree.specs.declared.args.Arg.{Arg}
use Rattle.btor_tree.specs.declared.lines.Line.{Line}
use Rattle.btor_tree.specs.declared.lines.LineOp.{LineOp}
use Rattle.btor_tree.specs.declared.lines.LineOp.TheVariants as op
use Rattle.btor_tree.specs.Fits.{OpFits, has_word, sort_at, width_at, greatest_id}
use Rattle.btor_tree.specs.Sharing.{is_shared}
use Rattle.btor_tree.proofs.Grows.{push_cases, slice_get_front, slice_get_end, slice_get_inside, lines_short}
use Rattle.btor_tree.proofs.AtPlaces.{width_of_sort, width_of_line}
use Rattle.btor_rules.specs.declared.operand.Outcome.{Outcome}
use Rattle.btor_rules.specs.declared.operand.Outcome.TheVariants.{Stays, Constant, Argument}
use Rattle.btor_simplify.specs.Fates.{fate_at, replaced, sort_for, is_sort}
use Rattle.btor_simplify.specs.Marks.{args_by, is_marked, AreMarkedLines, AreMarks, AreKnown}
use Rattle.btor_simplify.specs.Order.{has_sort, IsMoved, AreBefore, IsReadyAt, moved_count, IsOrder, KeepsPlaces, HaveMarkedMoved, HasPlace, IsLiveSort, is_in, with_place}
use Rattle.btor_simplify.proofs.Steps.{moved_to, sort_line_at, sort_before, sort_inside}
use Rattle.btor_simplify.proofs.Marking.{source}

-- counts of known places
count_set : (moved : List (Option ℕ)) (i q : ℕ) → get_or moved i None ≡ None → i < length moved → moved_count (set moved i (Some q)) ≡ moved_count moved + 1
count_set [] i q e h = absurd (omega (arith, h))
count_set (None ∷ more) zero q e h = refl
count_set (Some p ∷ more) zero q e h = absurd (none-some p (sym e))
count_set (None ∷ more) (suc i) q e h = count_set more i q e (omega (arith, h))
count_set (Some p ∷ more) (suc i) q e h = ap (λ n. n + 1) (count_set more i q e (omega (arith, h)))

pub count_most : (moved : List (Option ℕ)) → moved_count moved ≤ length moved
count_most [] = omega arith
count_most (None ∷ more) = omega (arith, count_most more)
count_most (Some q ∷ more) = omega (arith, count_most more)

pub places_few : (lines : List Line) (fates : List Outcome) (n : ℕ) (places : List ℕ) (moved : List (Option ℕ)) → AreKnown lines fates → IsOrder lines fates n places moved → length places ≤ greatest_id
places_few lines fates n places moved k o = omega (arith, o.count, count_most moved, o.sized, lines_short lines k.well_formed)

before_more : (old new : List (Option ℕ)) → KeepsPlaces old new → (args : List Arg) (q : ℕ) → AreBefore old args q → AreBefore new args q
before_more old new k [] q h = tt
before_more old new k (a ∷ more) q h = ((h.0.0, k a.line h.0.0 h.0.1, h.0.2), before_more old new k more q h.1)

ready_more : (fates : List Outcome) (old new : List (Option ℕ)) (q i : ℕ) (l : Line) → KeepsPlaces old new → IsReadyAt fates old q i l → IsReadyAt fates new q i l
ready_more fates old new q i l k r =
    record {
      args = before_more old new k (args_by fates (fate_at fates i) l.args) q r.args;
      sort = λ h. let s = r.sort h in (s.0, k (sort_for fates l.sort) s.0 s.1, s.2);
      lives = r.lives;
    }

module _ (lines : List Line) (fates : List Outcome) (n : ℕ) (places : List ℕ) (moved : List (Option ℕ)) (o : IsOrder lines fates n places moved) (i : ℕ) (l : Line) (at : slice_get lines i ≡ Some l) (free : get_or moved i None ≡ None) where
  inside : i < length moved
  inside = omega (arith, o.sized, slice_get_inside lines i l at)

  pub keeps : KeepsPlaces moved (set moved i (Some (length places)))
  keeps j q h =
      get_or-set_other moved i j (Some (length places)) None (λ e. none-some q (sym free ∙ ap (λ k. get_or moved k None) (sym e) ∙ h)) ∙ h

  pub here : IsMoved (set moved i (Some (length places))) i (length places)
  here = get_or-set_same moved i (Some (length places)) None inside

  module _ (ready : IsReadyAt fates moved (length places) i l) (m : ℕ) (le : n ≤ m) (own : is_sort l.op ≡ false → (n ≤ i) × (i < m)) where
    new_back : (j q : ℕ) → IsMoved (set moved i (Some (length places))) j q → slice_get (places ++ i ∷ []) q ≡ Some j
    new_back j q h =
        elim (cases_eq j i) [
          | inl e ↦
              let last : length places ≡ q = same_Some (length places) q (sym here ∙ ap (λ k. get_or (set moved i (Some (length places))) k None) (sym e) ∙ h) in
              ap (slice_get (places ++ i ∷ [])) (sym last) ∙ slice_get_end places i ∙ ap Some (sym e)
          | inr d ↦ slice_get_front places (i ∷ []) q j (o.back j q (sym (get_or-set_other moved i j (Some (length places)) None d) ∙ h))
        ]

    is_here : (j : ℕ) (k : Line) → i ≡ j → slice_get lines j ≡ Some k → l ≡ k
    is_here j k e h = same_Some l k (sym at ∙ ap (slice_get lines) e ∙ h)

    pub order_push : IsOrder lines fates m (places ++ i ∷ []) (set moved i (Some (length places)))
    order_push =
        record {
          sized = length-set moved i (Some (length places)) ∙ o.sized;
          forward = λ q j h. elim (push_cases places i q j h) [
            | inl a ↦ keeps j q (o.forward q j a.1)
            | inr a ↦ ap (λ k. get_or (set moved i (Some (length places))) k None) (sym a.1) ∙ here ∙ ap Some (sym a.0)
          ];
          back = new_back;
          count = omega (arith, count_set moved i (length places) free inside, o.count, length_push places i);
          bound = λ q j k h e g. elim (push_cases places i q j h) [
            | inl a ↦ omega (arith, o.bound q j k a.1 e g, le)
            | inr a ↦ let one = is_here j k a.1 e in omega (arith, (own (ap (λ (x : Line). is_sort x.op) one ∙ g)).1, a.1)
          ];
          ready = λ q j k h e. elim (push_cases places i q j h) [
            | inl a ↦ ready_more fates moved (set moved i (Some (length places))) q j k keeps (o.ready q j k a.1 e)
            | inr a ↦
                let one = is_here j k a.1 e in
                ready_more fates moved (set moved i (Some (length places))) q j k keeps
                (subst (λ p. IsReadyAt fates moved p j k) (sym a.0) (subst (λ p. IsReadyAt fates moved (length places) p k) a.1 (subst (λ x. IsReadyAt fates moved (length places) i x) one ready)))
          ];
          rises = λ p q j k x y h g e f s t lt. elim (push_cases places i q k g) [
            | inl b ↦ elim (push_cases places i p j h) [
              | inl a ↦ o.rises p q j k x y a.1 b.1 e f s t lt
              | inr a ↦ absurd (omega (arith, a.0, b.0, lt))
            ]
            | inr b ↦ elim (push_cases places i p j h) [
              | inl a ↦ let one = is_here k y b.1 f in omega (arith, o.bound p j x a.1 e s, (own (ap (λ (z : Line). is_sort z.op) one ∙ t)).0, b.1)
              | inr a ↦ absurd (omega (arith, a.0, b.0, lt))
            ]
          ];
        }

-- a sort line reads nothing
sort_args : (before : List Line) (s : ℕ) (o : LineOp) (args : List Arg) (fates : List Outcome) (f : Outcome) (moved : List (Option ℕ)) (q : ℕ) → is_sort o ≡ true → OpFits before s o args → AreBefore moved (args_by fates f args) q
sort_args before s (op.Sort w) args fates f moved q h g = from f args g.3
  where
    from : (f : Outcome) (args : List Arg) → args ≡ [] → AreBefore moved (args_by fates f args) q
    from Stays [] e = tt
    from (Constant c) [] e = tt
    from (Argument b) [] e = tt
    from Stays (a ∷ more) e = absurd (omega (arith, ap length e))
    from (Constant c) (a ∷ more) e = tt
    from (Argument b) (a ∷ more) e = absurd (omega (arith, ap length e))
sort_args before s o args fates f moved q h g = absurd (cc)

sort_has_none : (o : LineOp) → is_sort o ≡ true → has_sort o ≡ false
sort_has_none (op.Sort w) h = refl
sort_has_none o h = absurd (cc)

pub differ : true ≡ false → ⊥
differ e = absurd (cc)

pub sort_ready : (lines : List Line) (fates : List Outcome) (moved : List (Option ℕ)) (q s : ℕ) (k : AreKnown lines fates) (live : IsLiveSort lines fates s) → IsReadyAt fates moved q s live.line
sort_ready lines fates moved q s k live =
    record {
      args = sort_args (take s lines) live.line.sort live.line.op live.line.args fates (fate_at fates s) moved q live.sort (k.well_formed.by_line s live.line live.at).body.sorts;
      sort = λ h. absurd (differ (sym h ∙ sort_has_none live.line.op live.sort));
      lives = live.lives;
    }

-- a line that has a sort: its place is earlier, and so is what stands for it
pub sorted : (before : List Line) (s : ℕ) (o : LineOp) (args : List Arg) → OpFits before s o args → has_sort o ≡ true → 1 ≤ sort_at before s
sorted before s op.Input args f h = f.0
sorted before s op.State args f h = f.0
sorted before s (op.Constant c) args f h = omega (arith, f.0.0, f.1)
sorted before s op.One args f h = f.0
sorted before s op.Zero args f h = f.0
sorted before s op.Ones args f h = f.0
sorted before s op.Init [] f h = absurd f
sorted before s op.Init (x ∷ []) f h = absurd f
sorted before s op.Init (x ∷ v ∷ []) f h = f.0.2
sorted before s op.Init (x ∷ v ∷ y ∷ more) f h = absurd f
sorted before s op.Next [] f h = absurd f
sorted before s op.Next (x ∷ []) f h = absurd f
sorted before s op.Next (x ∷ v ∷ []) f h = f.2
sorted before s op.Next (x ∷ v ∷ y ∷ more) f h = absurd f
sorted before s (op.Unary u) args f h = f.0
sorted before s (op.Binary b) args f h = f.0
sorted before s op.Ite args f h = f.0
sorted before s (op.Slice high low) args f h = f.0
sorted before s (op.Uext n) args f h = f.0
sorted before s (op.Sext n) args f h = f.0
sorted before s o args f h = absurd (cc)

width_is_sort : (o : LineOp) (w : ℕ) → 1 ≤ width_of_sort (Some (record { id = 0; op = o; sort = 0; args = []; symbol = None })) → is_sort o ≡ true
width_is_sort (op.Sort w) n h = refl
width_is_sort o n h = absurd (omega (arith, h))

pub record HasSort (lines : List Line) (fates : List Outcome) (i : ℕ) (l : Line) : Type 0 where
  pub inside : l.sort < length fates
  pub wide : 1 ≤ sort_at lines l.sort
  pub front : sort_at lines l.sort ≡ sort_at (take i lines) l.sort
  pub same : sort_at lines (sort_for fates l.sort) ≡ sort_at lines l.sort
  pub live : IsLiveSort lines fates (sort_for fates l.sort)

pub sort_of_line : (lines : List Line) (fates : List Outcome) (i : ℕ) (l : Line) → AreKnown lines fates → slice_get lines i ≡ Some l → has_sort l.op ≡ true → HasSort lines fates i l
sort_of_line lines fates i l k at h =
    let there = sorted (take i lines) l.sort l.op l.args (k.well_formed.by_line i l at).body.sorts h in
    let same = sort_before lines i l.sort there in
    let lt : l.sort < length fates = omega (arith, sort_inside lines i l.sort there, slice_get_inside lines i l at, k.sized) in
    let m = moved_to lines fates l.sort k.known lt in
    let wide : 1 ≤ sort_at lines l.sort = subst (λ n. 1 ≤ n) (sym same) there in
    let s = sort_line_at lines (sort_for fates l.sort) (omega (arith, m.sort, wide)) in
    record {
      inside = lt;
      wide = wide;
      front = same;
      same = m.sort;
      live = record {
        line = s.0;
        at = s.1;
        sort = width_is_sort s.0.op 0 (subst (λ o. 1 ≤ width_of_sort o) s.1 (omega (arith, m.sort, wide)));
        lives = m.lives;
      };
    }

-- what a marked line reads has places before it
reads_before : (marks : List Bool) (i : ℕ) (moved : List (Option ℕ)) (count : ℕ) → HaveMarkedMoved marks i moved → ((j q : ℕ) → IsMoved moved j q → q < count) → (args : List Arg) → ((j : ℕ) (b : Arg) → slice_get args j ≡ Some b → b.line < i) → AreMarkedLines marks args → AreBefore moved args count
reads_before marks i moved count have few [] below m = tt
reads_before marks i moved count have few (b ∷ more) below m =
    let g = have b.line (below zero b refl) m.0 in
    ((g.0, g.1, few b.line g.0 g.1), reads_before marks i moved count have few more (λ j c e. below (suc j) c e) m.1)

pub map_at : (fates : List Outcome) (args : List Arg) (j : ℕ) (b : Arg) → slice_get (map (replaced fates) args) j ≡ Some b → (a : Arg) × (slice_get args j ≡ Some a) × (b ≡ replaced fates a)
map_at fates [] j b e = absurd (none-some b e)
map_at fates (a ∷ more) zero b e = (a, refl, sym (same_Some (replaced fates a) b e))
map_at fates (a ∷ more) (suc j) b e = map_at fates more j b e

args_below : (lines : List Line) (fates : List Outcome) (i : ℕ) (l : Line) (f : Outcome) → AreKnown lines fates → slice_get lines i ≡ Some l → (j : ℕ) (b : Arg) → slice_get (args_by fates f l.args) j ≡ Some b → b.line < i
args_below lines fates i l (Constant c) k at j b e = absurd (none-some b e)
args_below lines fates i l Stays k at j b e =
    let a = map_at fates l.args j b e in omega (arith, (source lines fates i l j a.0 k at a.1).earlier, ap (λ (x : Arg). x.line) a.2)
args_below lines fates i l (Argument d) k at j b e =
    let a = map_at fates l.args j b e in omega (arith, (source lines fates i l j a.0 k at a.1).earlier, ap (λ (x : Arg). x.line) a.2)

module _ (lines : List Line) (fates : List Outcome) (marks : List Bool) (k : AreKnown lines fates) (m : AreMarks lines fates 0 marks) (i : ℕ) (l : Line) (at : slice_get lines i ≡ Some l) (marked : is_marked marks i ≡ true) where
  pub not_sort : is_sort l.op ≡ false
  not_sort =
      elim (cases_Bool (is_sort l.op)) [
        | inl s ↦ absurd (no_word (m.words i l at (shared_sort l.op s) marked) s)
        | inr s ↦ s
      ]
    where
      shared_sort : (o : LineOp) → is_sort o ≡ true → is_shared o ≡ true
      shared_sort (op.Sort w) h = refl
      shared_sort o h = absurd (cc)

      wordless : (o : LineOp) → is_sort o ≡ true → has_word o ≡ false
      wordless (op.Sort w) h = refl
      wordless o h = absurd (cc)

      no_word : 1 ≤ width_at lines i → is_sort l.op ≡ true → ⊥
      no_word h s =
          let e : width_at lines i ≡ 0 = ap (λ (x : Option Line). width_of_line lines x) at ∙ ap (λ b. cond b (sort_at lines l.sort) 0) (wordless l.op s) in
          omega (arith, h, e)

  pub line_ready : (places : List ℕ) (moved : List (Option ℕ)) → IsOrder lines fates i places moved → HaveMarkedMoved marks i moved → (has_sort l.op ≡ true → HasPlace moved (sort_for fates l.sort)) → IsReadyAt fates moved (length places) i l
  line_ready places moved o have sorts =
      let few : (j q : ℕ) → IsMoved moved j q → q < length places = λ j q h. slice_get_inside places q j (o.back j q h) in
      record {
        args = reads_before marks i moved (length places) have few (args_by fates (fate_at fates i) l.args) (args_below lines fates i l (fate_at fates i) k at) (m.closed i l (omega arith) at marked);
        sort = λ h. let s = sorts h in (s.0, s.1, few (sort_for fates l.sort) s.0 s.1);
        lives = m.lives i marked;
      }

  pub free_here : (places : List ℕ) (moved : List (Option ℕ)) → IsOrder lines fates i places moved → get_or moved i None ≡ None
  free_here places moved o = from (get_or moved i None) refl
    where
      from : (x : Option ℕ) → get_or moved i None ≡ x → get_or moved i None ≡ None
      from None e = e
      from (Some q) e = absurd (omega (arith, o.bound q i l (o.back i q e) at not_sort))

pub marked_next : (marks : List Bool) (i q : ℕ) (old new : List (Option ℕ)) → HaveMarkedMoved marks i old → KeepsPlaces old new → IsMoved new i q → HaveMarkedMoved marks (i + 1) new
marked_next marks i q old new have keeps here j lt m =
    elim (cases_lt j i) [
      | inl less ↦ let g = have j less m in (g.0, keeps j g.0 g.1)
      | inr ge ↦ let same : j ≡ i = omega (arith, lt, ge) in (q, ap (λ n. get_or new n None) same ∙ here)
    ]

pub marked_skip : (marks : List Bool) (i : ℕ) (moved : List (Option ℕ)) → HaveMarkedMoved marks i moved → is_marked marks i ≡ false → HaveMarkedMoved marks (i + 1) moved
marked_skip marks i moved have n j lt m =
    elim (cases_lt j i) [
      | inl less ↦ have j less m
      | inr ge ↦ let same : i ≡ j = omega (arith, lt, ge) in absurd (differ (sym m ∙ ap (is_marked marks) (sym same) ∙ n))
    ]

pub order_next : (lines : List Line) (fates : List Outcome) (n : ℕ) (places : List ℕ) (moved : List (Option ℕ)) → IsOrder lines fates n places moved → IsOrder lines fates (n + 1) places moved
order_next lines fates n places moved o =
    record {
      sized = o.sized;
      forward = o.forward;
      back = o.back;
      count = o.count;
      bound = λ q i l h e g. omega (arith, o.bound q i l h e g);
      ready = o.ready;
      rises = o.rises;
    }

nothing_moved : (moved : List (Option ℕ)) → ((i : ℕ) → get_or moved i None ≡ None) → moved_count moved ≡ 0
nothing_moved [] h = refl
nothing_moved (None ∷ more) h = nothing_moved more (λ i. h (suc i))
nothing_moved (Some q ∷ more) h = absurd (none-some q (sym (h zero)))

pub no_order : (lines : List Line) (fates : List Outcome) (moved : List (Option ℕ)) → length moved ≡ length lines → ((i : ℕ) → get_or moved i None ≡ None) → IsOrder lines fates 0 [] moved
no_order lines fates moved e none =
    record {
      sized = e;
      forward = λ q i h. absurd (none-some i h);
      back = λ i q h. absurd (none-some q (sym (none i) ∙ h));
      count = nothing_moved moved none;
      bound = λ q i l h g s. absurd (none-some i h);
      ready = λ q i l h g. absurd (none-some i h);
      rises = λ p q i j l m h g e f s t lt. absurd (none-some i h);
    }

pub resized : (old new : List (Option ℕ)) (n k : ℕ) → old ≡ [] → k ≡ 0 → new ≡ take n old ++ replicate (n - k) None → (length new ≡ n) × ((i : ℕ) → get_or new i None ≡ None)
resized old new n k e z h =
    let rest : n - k ≡ n = omega (arith, z) in
    let all : new ≡ replicate n None = h ∙ ap (λ m. take n old ++ replicate m None) rest ∙ ap (λ xs. take n xs ++ replicate n None) e ∙ ap (λ xs. xs ++ replicate n None) (from_nothing n) in
    (ap length all ∙ length-replicate n None, λ i. ap (λ xs. get_or xs i None) all ∙ none_of n i)
  where
    from_nothing : (n : ℕ) → take n (let xs : List (Option ℕ) = [] in xs) ≡ []
    from_nothing zero = refl
    from_nothing (suc n) = refl

    none_of : (n i : ℕ) → get_or (replicate n None) i None ≡ (let x : Option ℕ = None in x)
    none_of zero i = refl
    none_of (suc n) zero = refl
    none_of (suc n) (suc i) = none_of n i

pub ok_both : {A E : Type 0} (r : Result A E) (P Q S : Type 0) → (P → Q → S) → OnOk r P → OnOk r Q → OnOk r S
ok_both (Ok x) P Q S f p q = f p q
ok_both (Err e) P Q S f p q = tt

-- a sort line more
pub order_sort : (lines : List Line) (fates : List Outcome) (n : ℕ) (places newp : List ℕ) (moved newm : List (Option ℕ)) (s : ℕ) → AreKnown lines fates → IsOrder lines fates n places moved → IsLiveSort lines fates s → get_or moved s None ≡ None → newp ≡ places ++ s ∷ [] → newm ≡ set moved s (Some (length places)) → IsOrder lines fates n newp newm
order_sort lines fates n places newp moved newm s k o live free p m =
    let le : n ≤ n = omega arith in
    subst (λ xs. IsOrder lines fates n xs newm) (sym p) (subst (IsOrder lines fates n (places ++ s ∷ [])) (sym m)
    (order_push lines fates n places moved o s live.line live.at free (sort_ready lines fates moved (length places) s k live) n le (λ h. absurd (differ (sym live.sort ∙ h)))))

pub sort_there : (lines : List Line) (fates : List Outcome) (n : ℕ) (places : List ℕ) (moved newm : List (Option ℕ)) (s : ℕ) → IsOrder lines fates n places moved → IsLiveSort lines fates s → get_or moved s None ≡ None → newm ≡ set moved s (Some (length places)) → HasPlace newm s
sort_there lines fates n places moved newm s o live free m =
    (length places, ap (λ xs. get_or xs s None) m ∙ here lines fates n places moved o s live.line live.at free)

-- the next line
pub order_line : (lines : List Line) (fates : List Outcome) (marks : List Bool) (i : ℕ) (l : Line) (places newp : List ℕ) (moved newm : List (Option ℕ)) → AreKnown lines fates → AreMarks lines fates 0 marks → slice_get lines i ≡ Some l → is_marked marks i ≡ true → IsOrder lines fates i places moved → HaveMarkedMoved marks i moved → (has_sort l.op ≡ true → HasPlace moved (sort_for fates l.sort)) → newp ≡ places ++ i ∷ [] → newm ≡ set moved i (Some (length places)) → IsOrder lines fates (i + 1) newp newm × HaveMarkedMoved marks (i + 1) newm
order_line lines fates marks i l places newp moved newm k m at marked o have sorts p e =
    let le : i ≤ i + 1 = omega arith in
    let free = free_here lines fates marks k m i l at marked places moved o in
    let both : IsOrder lines fates (i + 1) (places ++ i ∷ []) (set moved i (Some (length places))) =
    order_push lines fates i places moved o i l at free (line_ready lines fates marks k m i l at marked places moved o have sorts) (i + 1) le (λ h. (omega arith, omega arith)) in
    let done : HaveMarkedMoved marks (i + 1) (set moved i (Some (length places))) =
    marked_next marks i (length places) moved (set moved i (Some (length places))) have (keeps lines fates i places moved o i l at free) (here lines fates i places moved o i l at free) in
    (subst (λ xs. IsOrder lines fates (i + 1) xs newm) (sym p) (subst (IsOrder lines fates (i + 1) (places ++ i ∷ [])) (sym e) both), subst (HaveMarkedMoved marks (i + 1)) (sym e) done)

pub ok_one_so : {A E : Type 0} (r : Result A E) (P S : Type 0) → (P → S) → OnOk r P → OnOk r S
ok_one_so (Ok x) P S f p = f p
ok_one_so (Err e) P S f p = tt

-- places in a list
pub found_in : (places : List ℕ) (q s : ℕ) → slice_get places q ≡ Some s → is_in places s ≡ true
found_in [] q s h = absurd (none-some s h)
found_in (p ∷ more) zero s h = ap (λ b. b || is_in more s) (eq-eqb p s (same_Some p s h))
found_in (p ∷ more) (suc q) s h = elim (cases_Bool (eqb p s)) [
  | inl e ↦ ap (λ b. b || is_in more s) e
  | inr n ↦ ap (λ b. b || is_in more s) n ∙ found_in more q s h
]

pub place_of : (places : List ℕ) (s : ℕ) → is_in places s ≡ true → (q : ℕ) × (slice_get places q ≡ Some s)
place_of [] s h = absurd (differ (sym h))
place_of (p ∷ more) s h = elim (cases_eq p s) [
  | inl e ↦ (0, ap Some e)
  | inr n ↦ let r = place_of more s (ap (λ b. b || is_in more s) (sym (ne_eqb p s n)) ∙ h) in (suc r.0, r.1)
]

pub not_in : (places : List ℕ) (moved : List (Option ℕ)) (s : ℕ) → ((q i : ℕ) → slice_get places q ≡ Some i → IsMoved moved i q) → get_or moved s None ≡ None → is_in places s ≡ false
not_in places moved s forward free =
    elim (cases_Bool (is_in places s)) [
      | inl t ↦ let p = place_of places s t in absurd (none-some p.0 (sym free ∙ forward p.0 s p.1))
      | inr n ↦ n
    ]

pub place_put : (places newp : List ℕ) (s : ℕ) → is_in places s ≡ false → newp ≡ places ++ s ∷ [] → newp ≡ with_place places s
place_put places newp s n e = e ∙ sym (ap (λ b. cond b places (places ++ s ∷ [])) n)

pub place_known : (places : List ℕ) (s : ℕ) → is_in places s ≡ true → places ≡ with_place places s
place_known places s n = sym (ap (λ b. cond b places (places ++ s ∷ [])) n)
