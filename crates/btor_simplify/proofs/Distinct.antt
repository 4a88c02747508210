-- No two new lines say the same.
use Rattle.std.proofs.Common.{◌≡◌, ℕ, zero, suc, ◌<◌, ◌≤◌, true, false, cond, List, [], ◌∷◌, length, take, drop, map, get_or, Option, Some, None, refl, sym, ap, subst, ◌∙◌, arith, inl, inr, ◌⊎◌}
use Rattle.std.specs.Prelude.{slice_get}
use Rattle.std.proofs.lemmas.Bool.{cases_lt, cases_Bool}
use Rattle.std.proofs.lemmas.List.{length-take, get_or-take, take-take}
use Rattle.std.proofs.lemmas.Option.{same_Some, none-some, slice_get-get_or}
use Rattle.word_core.specs.Words.{BitVector}
use Rattle.btor_tree.specs.declared.args.Arg.{Arg}
use Rattle.btor_tree.specs.declared.lines.Line.{Line}
use Rattle.btor_tree.specs.declared.lines.LineOp.{LineOp}
use Rattle.btor_tree.specs.declared.lines.LineOp.TheVariants as op
use Rattle.btor_tree.specs.Fits.{OpFits, has_word, is_constant, sort_at, sort_width, width_at}
use Rattle.btor_tree.specs.Frame.{constant_word}
use Rattle.btor_tree.specs.Sharing.{is_shared, Says}
use Rattle.btor_tree.proofs.AtPlaces.{width_of_sort, width_of_line}
use Rattle.btor_tree.proofs.Grows.{slice_get_inside, inside_get}
use Rattle.btor_tree.proofs.Widths.{line_at}
use Rattle.btor_rules.specs.declared.operand.Outcome.{Outcome}
use Rattle.btor_rules.specs.declared.operand.Outcome.TheVariants.{Stays, Constant, Argument}
use Rattle.btor_simplify.specs.declared.contents.Content.{Content}
use Rattle.btor_simplify.specs.Contents.{content_of}
use Rattle.btor_simplify.specs.Fates.{fate_at, replaced, replaced_by, place_by, sort_for, Lives, constant_of, operands_of, content_of_word, content_or, content_as_it_is, content_by, IsSharedFate, IsFateBy, AreFates, is_sort}
use Rattle.btor_simplify.specs.Fates as fates_spec
use Rattle.btor_simplify.specs.Marks.{AreKnown, args_by}
use Rattle.btor_simplify.specs.Order.{has_sort, IsMoved, AreBefore}
use Rattle.btor_simplify.specs.Written.{op_by, place_or_first, place_in, moved_arg, new_args, new_sort, new_line}
use Rattle.btor_simplify.specs.Normal.{AreSameConstants, HasNoTwoSame}
use Rattle.btor_simplify.proofs.Steps.{worded_line, shared_word, sort_inside}
use Rattle.btor_simplify.proofs.Marking.{source}
use Rattle.btor_simplify.proofs.Ordering.{differ, sort_of_line, HasSort}
use Rattle.btor_simplify.proofs.Writing.{line_there, new_sort_is, stays, word_sort}
use Rattle.btor_simplify.specs.Simplified.{IsSimplified}

-- two lines that stay and say the same are one
module _ (lines : List Line) (fates : List Outcome) (k : AreKnown lines fates) where
  not_argument : (f : Outcome) (a : Arg) → f ≡ Argument a → Lives f → ⊥
  not_argument f a e v = subst Lives e v

  none_earlier : (i : ℕ) (l : Line) (f : Outcome) → Lives f → (out : Outcome) → IsFateBy lines (take i fates) l out f → (p : ℕ) → fates_spec.Says lines (take i fates) p (content_by lines (take i fates) f l) → ⊥
  none_earlier i l f v (Argument a) h p s = not_argument f a h v
  none_earlier i l f v Stays h p s =
      elim h [
        | inl x ↦ not_argument f _ x.2 v
        | inr x ↦ x.1 p (subst (λ g. fates_spec.Says lines (take i fates) p (content_by lines (take i fates) g l)) x.0 s)
      ]
  none_earlier i l f v (Constant c) h p s =
      elim h [
        | inl x ↦ not_argument f _ x.2 v
        | inr x ↦ x.1 p (subst (λ g. fates_spec.Says lines (take i fates) p (content_by lines (take i fates) g l)) x.0 s)
      ]

  not_later : (a b : ℕ) (l m : Line) → a < b → slice_get lines a ≡ Some l → slice_get lines b ≡ Some m → is_shared l.op ≡ true → is_shared m.op ≡ true → Lives (fate_at fates a) → Lives (fate_at fates b) → content_by lines (take a fates) (fate_at fates a) l ≡ content_by lines (take b fates) (fate_at fates b) m → ⊥
  not_later a b l m lt al bm sl sm la lb e =
      let less : b < length fates = omega (arith, k.sized, slice_get_inside lines b m bm) in
      let f = inside_get fates b less in
      let is : fate_at fates b ≡ f.0 = same_Some _ _ (sym (slice_get-get_or fates b Stays less) ∙ f.1) in
      let fate = (k.known.by_line b m f.0 bm f.1).1 sm in
      let le : a ≤ b = omega (arith, lt) in
      let same : fate_at (take b fates) a ≡ fate_at fates a = get_or-take b fates a Stays lt in
      let says : fates_spec.Says lines (take b fates) a (content_by lines (take b fates) f.0 m) = record {
        line = l;
        there = omega (arith, lt, less, length-take b fates);
        at = al;
        shared = sl;
        lives = subst Lives (sym same) la;
        says = ap (λ (fs : List Outcome). content_by lines fs (fate_at (take b fates) a) l) (take-take a b fates le) ∙ ap (λ (g : Outcome). content_by lines (take a fates) g l) same ∙ e ∙ ap (λ (g : Outcome). content_by lines (take b fates) g m) is;
      } in
      none_earlier b m f.0 (subst Lives is lb) _ fate a says

  pub live_once : (a b : ℕ) (l m : Line) → slice_get lines a ≡ Some l → slice_get lines b ≡ Some m → is_shared l.op ≡ true → is_shared m.op ≡ true → Lives (fate_at fates a) → Lives (fate_at fates b) → content_by lines (take a fates) (fate_at fates a) l ≡ content_by lines (take b fates) (fate_at fates b) m → a ≡ b
  live_once a b l m al bm sl sm la lb e =
      elim (cases_lt a b) [
        | inl lt ↦ absurd (not_later a b l m lt al bm sl sm la lb e)
        | inr ge ↦ elim (cases_lt b a) [
          | inl lt ↦ absurd (not_later b a m l lt bm al sm sl lb la (sym e))
          | inr le ↦ omega (arith, ge, le)
        ]
      ]

  -- sort lines of one width that stay are one
  sort_is : (o : LineOp) → is_sort o ≡ true → (w : ℕ) × (o ≡ op.Sort w)
  sort_is (op.Sort w) h = (w, refl)
  sort_is o h = absurd (cc)

  sort_shared : (o : LineOp) → is_sort o ≡ true → is_shared o ≡ true
  sort_shared (op.Sort w) h = refl
  sort_shared o h = absurd (cc)

  sort_content : (i : ℕ) (f : Outcome) (l : Line) (w : ℕ) → slice_get lines i ≡ Some l → fate_at fates i ≡ f → Lives f → l.op ≡ op.Sort w → content_by lines (take i fates) f l ≡ content_of (op.Sort w) 0 []
  sort_content i Stays l w at e v h = ap (λ o. content_as_it_is lines (take i fates) o l.sort l.args) h
  sort_content i (Argument b) l w at e v h = absurd v
  sort_content i (Constant c) l w at e v h =
      let keeps = subst (fates_spec.KeepsWidth lines fates i) e (k.known.widths i (omega (arith, k.sized, slice_get_inside lines i l at))) in
      let none : width_at lines i ≡ 0 = ap (λ (x : Option Line). width_of_line lines x) at ∙ ap (λ o. cond (has_word o) (sort_at lines l.sort) 0) h in
      absurd (omega (arith, keeps.0.0, keeps.1, none))

  pub one_sort : (a b : ℕ) (l m : Line) → slice_get lines a ≡ Some l → slice_get lines b ≡ Some m → is_sort l.op ≡ true → is_sort m.op ≡ true → Lives (fate_at fates a) → Lives (fate_at fates b) → sort_at lines a ≡ sort_at lines b → a ≡ b
  one_sort a b l m al bm sl sm la lb e =
      let x = sort_is l.op sl in
      let y = sort_is m.op sm in
      let wide : x.0 ≡ y.0 = sym (ap (λ (z : Option Line). width_of_sort z) al ∙ ap sort_width x.1) ∙ e ∙ ap (λ (z : Option Line). width_of_sort z) bm ∙ ap sort_width y.1 in
      live_once a b l m al bm (sort_shared l.op sl) (sort_shared m.op sm) la lb
      (sort_content a (fate_at fates a) l x.0 al refl la x.1 ∙ ap (λ w. content_of (op.Sort w) 0 []) wide ∙ sym (sort_content b (fate_at fates b) m y.0 bm refl lb y.1))

-- what a line says, with what stands for its arguments in the end
front_place : (fates : List Outcome) (i s : ℕ) → s < i → sort_for (take i fates) s ≡ sort_for fates s
front_place fates i s h = ap (λ f. place_by f s) (get_or-take i fates s Stays h)

pub front_args : (fates : List Outcome) (i : ℕ) (args : List Arg) → ((j : ℕ) (a : Arg) → slice_get args j ≡ Some a → a.line < i) → map (replaced (take i fates)) args ≡ map (replaced fates) args
front_args fates i [] h = refl
front_args fates i (a ∷ more) h =
    ap (λ x. x ∷ map (replaced (take i fates)) more) (ap (λ f. replaced_by f a) (get_or-take i fates a.line Stays (h zero a refl)))
    ∙ ap (λ xs. replaced fates a ∷ xs) (front_args fates i more (λ j b e. h (suc j) b e))

-- arguments with the same new places are the same
module _ (places : List ℕ) (moved : List (Option ℕ)) (back : (i q : ℕ) → IsMoved moved i q → slice_get places q ≡ Some i) where
  pub same_place : (i j p q : ℕ) → IsMoved moved i p → IsMoved moved j q → place_in moved i ≡ place_in moved j → i ≡ j
  same_place i j p q hi hj e =
      let one : p ≡ q = sym (ap place_or_first hi) ∙ e ∙ ap place_or_first hj in
      same_Some i j (sym (back i p hi) ∙ ap (slice_get places) one ∙ back j q hj)

  pub same_moved : (xs ys : List Arg) (p q : ℕ) → AreBefore moved xs p → AreBefore moved ys q → map (moved_arg moved) xs ≡ map (moved_arg moved) ys → xs ≡ ys
  same_moved [] [] p q h g e = refl
  same_moved [] (y ∷ ys) p q h g e = absurd (omega (arith, ap length e))
  same_moved (x ∷ xs) [] p q h g e = absurd (omega (arith, ap length e))
  same_moved (x ∷ xs) (y ∷ ys) p q h g e =
      let heads : moved_arg moved x ≡ moved_arg moved y = same_Some _ _ (ap (λ zs. slice_get zs 0) e) in
      let tails : map (moved_arg moved) xs ≡ map (moved_arg moved) ys = ap (λ zs. drop 1 zs) e in
      let line : x.line ≡ y.line = same_place x.line y.line h.0.0 g.0.0 h.0.1 g.0.1 (ap (λ (a : Arg). a.line) heads) in
      let sign : x.negated ≡ y.negated = ap (λ (a : Arg). a.negated) heads in
      ap (λ n. record { line = n; negated = x.negated } ∷ xs) line ∙ ap (λ b. record { line = y.line; negated = b } ∷ xs) sign ∙ ap (λ zs. y ∷ zs) (same_moved xs ys p q h.1 g.1 tails)

module _ (old new : List Line) (s : IsSimplified old new) where
  -- the old line of a new one
  pub record Origin (q : ℕ) (m : Line) : Type 0 where
    pub from : ℕ
    pub line : Line
    pub placed : slice_get s.places q ≡ Some from
    pub at : slice_get old from ≡ Some line
    pub is : m ≡ new_line s.fates s.moved q from line
    pub lives : Lives (fate_at s.fates from)

  pub origin : (q : ℕ) (m : Line) → slice_get new q ≡ Some m → Origin q m
  origin q m am =
      let lt : q < length s.places = omega (arith, slice_get_inside new q m am, s.written.sized) in
      let i = inside_get s.places q lt in
      let l = line_there old s.fates s.places s.moved s.order i.0 q (s.order.forward q i.0 i.1) in
      record {
        from = i.0;
        line = l.0;
        placed = i.1;
        at = l.1;
        is = same_Some m _ (sym am ∙ s.written.by_place q i.0 l.0 lt i.1 l.1);
        lives = (s.order.ready q i.0 l.0 i.1 l.1).lives;
      }

  pub once : (p q : ℕ) (l m : Line) (x : Origin p l) (y : Origin q m) → x.from ≡ y.from → p ≡ q
  once p q l m x y e =
      same_Some p q (sym (s.order.forward p x.from x.placed) ∙ ap (λ i. get_or s.moved i None) e ∙ s.order.forward q y.from y.placed)

  -- what the old line says, by the new one
  record Word (q : ℕ) (m : Line) (x : Origin q m) : Type 0 where
    spot : ℕ
    spot_moved : IsMoved s.moved (sort_for s.fates x.line.sort) spot
    sort_is_there : m.sort ≡ place_in s.moved (sort_for s.fates x.line.sort)
    sort_same : sort_at new m.sort ≡ sort_at old x.line.sort
    has : HasSort old s.fates x.from x.line
    inside : x.line.sort < x.from

  abbrev says_of : (q : ℕ) (m : Line) → Origin q m → Content
  says_of q m x = content_by old (take x.from s.fates) (fate_at s.fates x.from) x.line

  record Const (q : ℕ) (m : Line) (x : Origin q m) : Type 0 where
    word : BitVector
    constant : constant_of (sort_at new m.sort) m.op ≡ Some word
    width : word.width ≡ sort_at old x.line.sort
    says : says_of q m x ≡ content_of_word word (sort_for s.fates x.line.sort)
    at_sort : Word q m x

  record Sorted (q : ℕ) (m : Line) (x : Origin q m) : Type 0 where
    width : ℕ
    op_is : m.op ≡ op.Sort width
    says : says_of q m x ≡ content_of (op.Sort width) 0 []

  record Other (q : ℕ) (m : Line) (x : Origin q m) : Type 0 where
    no_constant : is_constant m.op ≡ false
    no_sort : is_sort m.op ≡ false
    args_are : m.args ≡ map (moved_arg s.moved) (map (replaced s.fates) x.line.args)
    before : AreBefore s.moved (map (replaced s.fates) x.line.args) q
    says : says_of q m x ≡ content_of m.op (sort_for s.fates x.line.sort) (map (replaced s.fates) x.line.args)
    at_sort : Word q m x

  word_of : (q : ℕ) (m : Line) (x : Origin q m) → has_sort x.line.op ≡ true → Word q m x
  word_of q m x h =
      let lt : q < length s.places = slice_get_inside s.places q x.from x.placed in
      let le : q ≤ length s.places = omega (arith, lt) in
      let r = (s.order.ready q x.from x.line x.placed x.at).sort h in
      let there : m.sort ≡ new_sort s.fates s.moved x.line.op x.line.sort = ap (λ (z : Line). z.sort) x.is in
      let g = sort_of_line old s.fates x.from x.line s.known x.at h in
      record {
        spot = r.0;
        spot_moved = r.1;
        sort_is_there = there ∙ ap (λ b. cond b (place_in s.moved (sort_for s.fates x.line.sort)) 0) h;
        sort_same = ap (sort_at new) there ∙ new_sort_is old s.fates s.places s.moved s.known s.order (length s.places) new s.written q x.from x.line le x.placed x.at h;
        has = g;
        inside = sort_inside old x.from x.line.sort (subst (λ n. 1 ≤ n) g.front g.wide);
      }

  args_here : (q : ℕ) (m : Line) (x : Origin q m) → map (replaced (take x.from s.fates)) x.line.args ≡ map (replaced s.fates) x.line.args
  args_here q m x = front_args s.fates x.from x.line.args (λ j a e. (source old s.fates x.from x.line j a s.known x.at e).before)

  -- by what becomes of the old line
  pub op_of : (q : ℕ) (m : Line) (x : Origin q m) (f : Outcome) → fate_at s.fates x.from ≡ f → m.op ≡ op_by f x.line.op
  op_of q m x f e = ap (λ (z : Line). z.op) x.is ∙ ap (λ g. op_by g x.line.op) e

  stays_constant : (fs : List Outcome) (o : LineOp) (t : ℕ) (args : List Arg) (c : BitVector) → constant_of (sort_at old t) o ≡ Some c → content_as_it_is old fs o t args ≡ content_of_word c (sort_for fs t)
  stays_constant fs (op.Sort w) t args c h = absurd (none-some c h)
  stays_constant fs o t args c h = ap (λ z. content_or z (sort_for fs t) (content_of o (sort_for fs t) (map (replaced fs) args))) h

  stays_other : (fs : List Outcome) (o : LineOp) (t : ℕ) (args : List Arg) → is_sort o ≡ false → is_constant o ≡ false → content_as_it_is old fs o t args ≡ content_of o (sort_for fs t) (map (replaced fs) args)
  stays_other fs (op.Sort w) t args h g = absurd (cc)
  stays_other fs o t args h g = ap (λ b. content_or (cond b (Some (constant_word (sort_at old t) o)) None) (sort_for fs t) (content_of o (sort_for fs t) (map (replaced fs) args))) g

  constant_is : (o : LineOp) → is_constant o ≡ true → (w : ℕ) → constant_of w o ≡ Some (constant_word w o)
  constant_is o h w = ap (λ b. cond b (Some (constant_word w o)) None) h

  constant_sorted : (o : LineOp) → is_constant o ≡ true → has_sort o ≡ true
  constant_sorted (op.Constant c) h = refl
  constant_sorted op.One h = refl
  constant_sorted op.Zero h = refl
  constant_sorted op.Ones h = refl
  constant_sorted o h = absurd (cc)

  operator_sorted : (o : LineOp) → is_shared o ≡ true → is_sort o ≡ false → has_sort o ≡ true
  operator_sorted o h g = word_sort o (shared_word o h g)

  abbrev Three : (q : ℕ) (m : Line) → Origin q m → Type 0
  Three q m x = Const q m x ⊎ (Sorted q m x ⊎ Other q m x)

  constant_width : (o : LineOp) (t w : ℕ) (args : List Arg) (before : List Line) → is_constant o ≡ true → OpFits before t o args → w ≡ sort_at before t → (constant_word w o).width ≡ w
  constant_width (op.Constant c) t w args before h f e = f.1 ∙ sym e
  constant_width op.One t w args before h f e = refl
  constant_width op.Zero t w args before h f e = refl
  constant_width op.Ones t w args before h f e = refl
  constant_width o t w args before h f e = absurd (cc)

  by_constant : (q : ℕ) (m : Line) (x : Origin q m) (c : BitVector) → fate_at s.fates x.from ≡ Constant c → Const q m x
  by_constant q m x c e =
      let keeps = subst (fates_spec.KeepsWidth old s.fates x.from) e (s.known.known.widths x.from (omega (arith, s.known.sized, slice_get_inside old x.from x.line x.at))) in
      let wide : 1 ≤ width_at old x.from = omega (arith, keeps.0.0, keeps.1) in
      let g = line_at old x.from wide in
      let word : has_word x.line.op ≡ true = ap (λ (z : Line). has_word z.op) (same_Some x.line g.0 (sym x.at ∙ g.1)) ∙ g.2 in
      let w = word_of q m x (word_sort x.line.op word) in
      let placed = worded_line old x.from x.line s.known.well_formed x.at word in
      record {
        word = c;
        constant = ap (constant_of (sort_at new m.sort)) (op_of q m x (Constant c) e);
        width = keeps.1 ∙ placed.width;
        says = ap (λ f. content_by old (take x.from s.fates) f x.line) e ∙ ap (content_of_word c) (front_place s.fates x.from x.line.sort w.inside);
        at_sort = w;
      }

  by_stays : (q : ℕ) (m : Line) (x : Origin q m) → fate_at s.fates x.from ≡ Stays → is_shared m.op ≡ true → Three q m x
  by_stays q m x e shared =
      elim (cases_Bool (is_sort x.line.op)) [
        | inl h ↦ inr (inl (sorted_case h))
        | inr h ↦ elim (cases_Bool (is_constant x.line.op)) [ inl c ↦ inl (const_case c) | inr c ↦ inr (inr (other_case h c)) ]
      ]
    where
      op_is : m.op ≡ x.line.op
      op_is = op_of q m x Stays e

      says_is : says_of q m x ≡ content_as_it_is old (take x.from s.fates) x.line.op x.line.sort x.line.args
      says_is = ap (λ f. content_by old (take x.from s.fates) f x.line) e

      sorted_case : is_sort x.line.op ≡ true → Sorted q m x
      sorted_case h =
          let w = sort_is old s.fates s.known x.line.op h in
          record { width = w.0; op_is = op_is ∙ w.1; says = says_is ∙ ap (λ o. content_as_it_is old (take x.from s.fates) o x.line.sort x.line.args) w.1 }

      const_case : is_constant x.line.op ≡ true → Const q m x
      const_case c =
          let w = word_of q m x (constant_sorted x.line.op c) in
          let n = sort_at old x.line.sort in
          let fits = (s.known.well_formed.by_line x.from x.line x.at).body.sorts in
          record {
            word = constant_word n x.line.op;
            constant = ap (λ o. constant_of (sort_at new m.sort) o) op_is ∙ ap (λ k. constant_of k x.line.op) w.sort_same ∙ constant_is x.line.op c n;
            width = constant_width x.line.op x.line.sort n x.line.args (take x.from old) c fits w.has.front;
            says = says_is ∙ stays_constant (take x.from s.fates) x.line.op x.line.sort x.line.args (constant_word n x.line.op) (constant_is x.line.op c n) ∙ ap (content_of_word (constant_word n x.line.op)) (front_place s.fates x.from x.line.sort w.inside);
            at_sort = w;
          }

      other_case : is_sort x.line.op ≡ false → is_constant x.line.op ≡ false → Other q m x
      other_case h c =
          let w = word_of q m x (operator_sorted x.line.op (sym (ap is_shared op_is) ∙ shared) h) in
          record {
            no_constant = ap is_constant op_is ∙ c;
            no_sort = ap is_sort op_is ∙ h;
            args_are = ap (λ (z : Line). z.args) x.is ∙ ap (λ f. new_args s.fates s.moved f x.line.args) e;
            before = subst (λ f. AreBefore s.moved (args_by s.fates f x.line.args) q) e (s.order.ready q x.from x.line x.placed x.at).args;
            says = says_is ∙ stays_other (take x.from s.fates) x.line.op x.line.sort x.line.args h c ∙ ap (λ t. content_of x.line.op t (map (replaced (take x.from s.fates)) x.line.args)) (front_place s.fates x.from x.line.sort w.inside) ∙ ap (content_of x.line.op (sort_for s.fates x.line.sort)) (args_here q m x) ∙ ap (λ o. content_of o (sort_for s.fates x.line.sort) (map (replaced s.fates) x.line.args)) (sym op_is);
            at_sort = w;
          }

  three : (q : ℕ) (m : Line) (x : Origin q m) (f : Outcome) → fate_at s.fates x.from ≡ f → is_shared m.op ≡ true → Three q m x
  three q m x (Constant c) e h = inl (by_constant q m x c e)
  three q m x Stays e h = by_stays q m x e h
  three q m x (Argument b) e h = absurd (subst Lives e x.lives)

  pub old_shared : (q : ℕ) (m : Line) (x : Origin q m) → is_shared m.op ≡ true → is_shared x.line.op ≡ true
  old_shared q m x h =
      elim (cases_Bool (is_shared x.line.op)) [
        | inl t ↦ t
        | inr n ↦ sym (ap is_shared (op_of q m x Stays (stays old s.fates s.known x.from x.line x.at n))) ∙ h
      ]

  same_content : (p q : ℕ) (l m : Line) (x : Origin p l) (y : Origin q m) → is_shared l.op ≡ true → is_shared m.op ≡ true → says_of p l x ≡ says_of q m y → p ≡ q
  same_content p q l m x y hl hm e =
      once p q l m x y (live_once old s.fates s.known x.from y.from x.line y.line x.at y.at (old_shared p l x hl) (old_shared q m y hm) x.lives y.lives e)

  some_constant : (o : LineOp) (w : ℕ) (c : BitVector) → constant_of w o ≡ Some c → is_constant o ≡ true
  some_constant o w c h =
      elim (cases_Bool (is_constant o)) [ inl t ↦ t | inr n ↦ absurd (none-some c (sym (ap (λ b. cond b (Some (constant_word w o)) None) n) ∙ h)) ]

  no_sort_constant : (o : LineOp) (w : ℕ) → o ≡ op.Sort w → is_constant o ≡ true → ⊥
  no_sort_constant o w e h = differ (sym h ∙ ap is_constant e)

  constants_same : (p q : ℕ) (l m : Line) (x : Origin p l) (y : Origin q m) → is_shared l.op ≡ true → is_shared m.op ≡ true → (a : Const p l x) (b : Const q m y) → a.word ≡ b.word → p ≡ q
  constants_same p q l m x y hl hm a b e =
      let sa = a.at_sort.has in
      let sb = b.at_sort.has in
      let wide : sort_at old (sort_for s.fates x.line.sort) ≡ sort_at old (sort_for s.fates y.line.sort) = sa.same ∙ sym a.width ∙ ap (λ (z : BitVector). z.width) e ∙ b.width ∙ sym sb.same in
      let sort = one_sort old s.fates s.known (sort_for s.fates x.line.sort) (sort_for s.fates y.line.sort) sa.live.line sb.live.line sa.live.at sb.live.at sa.live.sort sb.live.sort sa.live.lives sb.live.lives wide in
      same_content p q l m x y hl hm (a.says ∙ ap (λ c. content_of_word c (sort_for s.fates x.line.sort)) e ∙ ap (content_of_word b.word) sort ∙ sym b.says)

  says_same : (p q : ℕ) (l m : Line) (x : Origin p l) (y : Origin q m) → is_shared l.op ≡ true → is_shared m.op ≡ true → Three p l x → Three q m y → Says m.op m.sort m.args l → p ≡ q
  says_same p q l m x y hl hm (inl a) (inl b) h =
      let word : a.word ≡ b.word = same_Some _ _ (sym a.constant ∙ ap (λ o. constant_of (sort_at new l.sort) o) h.0 ∙ ap (λ t. constant_of (sort_at new t) m.op) h.1 ∙ b.constant) in
      constants_same p q l m x y hl hm a b word
  says_same p q l m x y hl hm (inl a) (inr (inl b)) h = absurd (no_sort_constant l.op b.width (h.0 ∙ b.op_is) (some_constant l.op (sort_at new l.sort) a.word a.constant))
  says_same p q l m x y hl hm (inl a) (inr (inr b)) h = absurd (differ (sym (some_constant l.op (sort_at new l.sort) a.word a.constant) ∙ ap is_constant h.0 ∙ b.no_constant))
  says_same p q l m x y hl hm (inr (inl a)) (inl b) h = absurd (no_sort_constant m.op a.width (sym h.0 ∙ a.op_is) (some_constant m.op (sort_at new m.sort) b.word b.constant))
  says_same p q l m x y hl hm (inr (inl a)) (inr (inl b)) h =
      same_content p q l m x y hl hm (a.says ∙ ap (λ o. content_of o 0 []) (sym a.op_is ∙ h.0 ∙ b.op_is) ∙ sym b.says)
  says_same p q l m x y hl hm (inr (inl a)) (inr (inr b)) h = absurd (differ (sym (ap is_sort (sym h.0 ∙ a.op_is)) ∙ b.no_sort))
  says_same p q l m x y hl hm (inr (inr a)) (inl b) h = absurd (differ (sym (some_constant m.op (sort_at new m.sort) b.word b.constant) ∙ ap is_constant (sym h.0) ∙ a.no_constant))
  says_same p q l m x y hl hm (inr (inr a)) (inr (inl b)) h = absurd (differ (sym (ap is_sort (h.0 ∙ b.op_is)) ∙ a.no_sort))
  says_same p q l m x y hl hm (inr (inr a)) (inr (inr b)) h =
      let sort : sort_for s.fates x.line.sort ≡ sort_for s.fates y.line.sort =
      same_place s.places s.moved s.order.back _ _ a.at_sort.spot b.at_sort.spot a.at_sort.spot_moved b.at_sort.spot_moved (sym a.at_sort.sort_is_there ∙ h.1 ∙ b.at_sort.sort_is_there) in
      let args = same_moved s.places s.moved s.order.back (map (replaced s.fates) x.line.args) (map (replaced s.fates) y.line.args) p q a.before b.before (sym a.args_are ∙ h.2 ∙ b.args_are) in
      same_content p q l m x y hl hm (a.says ∙ ap (λ o. content_of o (sort_for s.fates x.line.sort) (map (replaced s.fates) x.line.args)) h.0 ∙ ap (λ t. content_of m.op t (map (replaced s.fates) x.line.args)) sort ∙ ap (content_of m.op (sort_for s.fates y.line.sort)) args ∙ sym b.says)

  words_same : (p q : ℕ) (l m : Line) (x : Origin p l) (y : Origin q m) → is_shared l.op ≡ true → is_shared m.op ≡ true → Three p l x → Three q m y → AreSameConstants new l m → p ≡ q
  words_same p q l m x y hl hm (inl a) (inl b) h = constants_same p q l m x y hl hm a b (same_Some _ _ (sym a.constant ∙ h.1 ∙ sym h.2 ∙ b.constant))
  words_same p q l m x y hl hm (inl a) (inr (inl b)) h = absurd (no_sort_constant m.op b.width b.op_is (some_constant m.op (sort_at new m.sort) h.0 h.2))
  words_same p q l m x y hl hm (inl a) (inr (inr b)) h = absurd (differ (sym (some_constant m.op (sort_at new m.sort) h.0 h.2) ∙ b.no_constant))
  words_same p q l m x y hl hm (inr (inl a)) t h = absurd (no_sort_constant l.op a.width a.op_is (some_constant l.op (sort_at new l.sort) h.0 h.1))
  words_same p q l m x y hl hm (inr (inr a)) t h = absurd (differ (sym (some_constant l.op (sort_at new l.sort) h.0 h.1) ∙ a.no_constant))

  pub no_two_same : HasNoTwoSame new
  no_two_same =
      record {
        by_places = λ p q l m al am hl hm h.
            let x = origin p l al in
            let y = origin q m am in
            let a = three p l x (fate_at s.fates x.from) refl hl in
            let b = three q m y (fate_at s.fates y.from) refl hm in
            elim h [ inl g ↦ says_same p q l m x y hl hm a b g | inr g ↦ words_same p q l m x y hl hm a b g ];
      }
