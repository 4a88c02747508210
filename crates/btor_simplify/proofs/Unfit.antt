-- No rule fits a new line.
use Rattle.std.proofs.Common.{◌≡◌, ℕ, ◌<◌, ◌≤◌, true, not, ◌&&◌, eqb, List, [], ◌∷◌, length, take, map, Some, option_map, refl, sym, ap, subst, ◌∙◌, arith, inl, inr}
use Rattle.std.specs.Prelude.{slice_get}
use Rattle.std.proofs.lemmas.Bool.{cases_eq, eq-eqb, ne_eqb}
use Rattle.std.proofs.lemmas.List.{get_or-take}
use Rattle.std.proofs.lemmas.Option.{same_Some, slice_get-get_or}
use Rattle.btor_tree.specs.declared.args.Arg.{Arg}
use Rattle.btor_tree.specs.declared.lines.Line.{Line}
use Rattle.btor_tree.specs.declared.lines.LineOp.{LineOp}
use Rattle.btor_tree.specs.Fits.{has_word, sort_at, width_at}
use Rattle.btor_tree.specs.Frame.{signed_word}
use Rattle.btor_tree.specs.Sharing.{is_shared, same_sign}
use Rattle.btor_tree.proofs.Grows.{slice_get_inside, inside_get}
use Rattle.btor_tree.proofs.Widths.{line_at}
use Rattle.btor_rules.specs.declared.operand.Operands.TheVariants.{Single, Pair, Triple}
use Rattle.btor_rules.specs.declared.operand.Outcome.{Outcome}
use Rattle.btor_rules.specs.declared.operand.Outcome.TheVariants.{Stays, Constant, Argument}
use Rattle.btor_rules.specs.Rules.{outcome}
use Rattle.btor_simplify.specs.Fates.{fate_at, replaced, replaced_by, Lives, constant_of, constant_of_line, constant_by, constant_at, operand_as, operand_of, operands_of, IsFateBy}
use Rattle.btor_simplify.specs.Marks.{args_by}
use Rattle.btor_simplify.specs.Order.{IsMoved, AreBefore, IsBefore}
use Rattle.btor_simplify.specs.Written.{op_by, place_or_first, place_in, moved_arg, new_args, new_sort}
use Rattle.btor_simplify.specs.Normal.{FitsNoRule}
use Rattle.btor_simplify.proofs.Marking.{source}
use Rattle.btor_simplify.proofs.Writing.{before_at, new_sort_is, width_moves, word_sort}
use Rattle.btor_simplify.specs.Simplified.{IsSimplified}
use Rattle.btor_simplify.proofs.Distinct.{Origin, origin, old_shared, same_place, op_of}
use Rattle.btor_simplify.proofs.Renaming.{renamed, TellsApart, all_renamed, AreToldApart, outcome_stays, argument_stays, constant_stays}

same_test : (p q i j : ℕ) → (p ≡ q → i ≡ j) → (i ≡ j → p ≡ q) → eqb p q ≡ eqb i j
same_test p q i j f g =
    elim (cases_eq p q) [ inl e ↦ eq-eqb p q e ∙ sym (eq-eqb i j (f e)) | inr n ↦ ne_eqb p q n ∙ sym (ne_eqb i j (λ e. n (g e))) ]

nothing_fits : (o : LineOp) (lines : List Line) (args : List Arg) → args ≡ [] → outcome o (operands_of lines [] args) ≡ Stays
nothing_fits o lines args e = ap (λ zs. outcome o (operands_of lines [] zs)) e

module _ (old new : List Line) (s : IsSimplified old new) (q : ℕ) (m : Line) (x : Origin old new s q m) (e : fate_at s.fates x.from ≡ Stays) where
  reads : AreBefore s.moved (map (replaced s.fates) x.line.args) q
  reads = subst (λ f. AreBefore s.moved (args_by s.fates f x.line.args) q) e (s.order.ready q x.from x.line x.placed x.at).args

  module _ (j : ℕ) (a : Arg) (at : slice_get x.line.args j ≡ Some a) where
    spot : IsBefore s.moved (replaced s.fates a).line q
    spot = before_at s.moved s.fates x.line.args q j a reads at

    front_arg : replaced (take x.from s.fates) a ≡ replaced s.fates a
    front_arg = ap (λ f. replaced_by f a) (get_or-take x.from s.fates a.line Stays (source old s.fates x.from x.line j a s.known x.at at).before)

    -- the constant that is known of an argument
    known_by : (l : Line) → slice_get old (replaced s.fates a).line ≡ Some l → has_word l.op ≡ true → (g : Outcome) → fate_at s.fates (replaced s.fates a).line ≡ g → Lives g → constant_of (sort_at new (new_sort s.fates s.moved l.op l.sort)) (op_by g l.op) ≡ constant_by g (constant_of (sort_at old l.sort) l.op)
    known_by l al w (Constant c) h v = refl
    known_by l al w (Argument b) h v = absurd v
    known_by l al w Stays h v =
        let inside : spot.0 < length s.places = slice_get_inside s.places spot.0 _ (s.order.back (replaced s.fates a).line spot.0 spot.1) in
        let le : spot.0 ≤ length s.places = omega (arith, inside) in
        ap (λ n. constant_of n l.op) (new_sort_is old s.fates s.places s.moved s.known s.order (length s.places) new s.written spot.0 (replaced s.fates a).line l le (s.order.back (replaced s.fates a).line spot.0 spot.1) al (word_sort l.op w))

    operand_moves : operand_of new [] (moved_arg s.moved (replaced s.fates a)) ≡ renamed (moved_arg s.moved) (operand_of old (take x.from s.fates) a)
    operand_moves =
        let r = replaced s.fates a in
        let src = source old s.fates x.from x.line j a s.known x.at at in
        let g = line_at old r.line src.wide in
        let inside : spot.0 < length s.places = slice_get_inside s.places spot.0 r.line (s.order.back r.line spot.0 spot.1) in
        let place : place_in s.moved r.line ≡ spot.0 = ap place_or_first spot.1 in
        let width : width_at new (place_in s.moved r.line) ≡ width_at old r.line = ap (width_at new) place ∙ width_moves old s.fates s.places s.moved s.known s.order (length s.places) new s.written spot.0 r.line g.0 inside spot.1 g.1 in
        let new_known : constant_of_line new (slice_get new (place_in s.moved r.line)) ≡ constant_of (sort_at new (new_sort s.fates s.moved g.0.op g.0.sort)) (op_by (fate_at s.fates r.line) g.0.op) =
        ap (λ n. constant_of_line new (slice_get new n)) place ∙ ap (constant_of_line new) (s.written.by_place spot.0 r.line g.0 inside (s.order.back r.line spot.0 spot.1) g.1) in
        let front : fate_at (take x.from s.fates) r.line ≡ fate_at s.fates r.line = get_or-take x.from s.fates r.line Stays src.earlier in
        let old_known : constant_at old (take x.from s.fates) r.line ≡ constant_by (fate_at s.fates r.line) (constant_of (sort_at old g.0.sort) g.0.op) =
        ap (λ f. constant_by f (constant_of_line old (slice_get old r.line))) front ∙ ap (λ o. constant_by (fate_at s.fates r.line) (constant_of_line old o)) g.1 in
        let known : constant_of_line new (slice_get new (place_in s.moved r.line)) ≡ constant_at old (take x.from s.fates) r.line =
        new_known ∙ known_by g.0 g.1 g.2 (fate_at s.fates r.line) refl src.lives ∙ sym old_known in
        let first : operand_of new [] (moved_arg s.moved r) ≡ renamed (moved_arg s.moved) (operand_as old (take x.from s.fates) r) =
        ap (λ w. record { arg = moved_arg s.moved r; width = w; constant = option_map (signed_word r.negated) (constant_of_line new (slice_get new (place_in s.moved r.line))) }) width
        ∙ ap (λ k. record { arg = moved_arg s.moved r; width = width_at old r.line; constant = option_map (signed_word r.negated) k }) known in
        first ∙ ap (λ z. renamed (moved_arg s.moved) (operand_as old (take x.from s.fates) z)) (sym front_arg)

  shapes : (args : List Arg) → ((j : ℕ) (a : Arg) → slice_get args j ≡ Some a → operand_of new [] (moved_arg s.moved (replaced s.fates a)) ≡ renamed (moved_arg s.moved) (operand_of old (take x.from s.fates) a)) → operands_of new [] (map (moved_arg s.moved) (map (replaced s.fates) args)) ≡ all_renamed (moved_arg s.moved) (operands_of old (take x.from s.fates) args)
  shapes [] h = refl
  shapes (a ∷ []) h = ap Single (h 0 a refl)
  shapes (a ∷ b ∷ []) h =
      ap (λ u. Pair u (operand_of new [] (moved_arg s.moved (replaced s.fates b)))) (h 0 a refl) ∙ ap (Pair (renamed (moved_arg s.moved) (operand_of old (take x.from s.fates) a))) (h 1 b refl)
  shapes (a ∷ b ∷ c ∷ []) h =
      ap (λ u. Triple u (operand_of new [] (moved_arg s.moved (replaced s.fates b))) (operand_of new [] (moved_arg s.moved (replaced s.fates c)))) (h 0 a refl)
      ∙ ap (λ u. Triple (renamed (moved_arg s.moved) (operand_of old (take x.from s.fates) a)) u (operand_of new [] (moved_arg s.moved (replaced s.fates c)))) (h 1 b refl)
      ∙ ap (Triple (renamed (moved_arg s.moved) (operand_of old (take x.from s.fates) a)) (renamed (moved_arg s.moved) (operand_of old (take x.from s.fates) b))) (h 2 c refl)
  shapes (a ∷ b ∷ c ∷ d ∷ more) h = refl

  tells : (i j : ℕ) (a b : Arg) → slice_get x.line.args i ≡ Some a → slice_get x.line.args j ≡ Some b → TellsApart (moved_arg s.moved) (operand_of old (take x.from s.fates) a) (operand_of old (take x.from s.fates) b)
  tells i j a b ea eb =
      let u = spot i a ea in
      let v = spot j b eb in
      let ra = replaced (take x.from s.fates) a in
      let rb = replaced (take x.from s.fates) b in
      let ma : IsMoved s.moved ra.line u.0 = subst (λ (z : Arg). IsMoved s.moved z.line u.0) (sym (front_arg i a ea)) u.1 in
      let mb : IsMoved s.moved rb.line v.0 = subst (λ (z : Arg). IsMoved s.moved z.line v.0) (sym (front_arg j b eb)) v.1 in
      let test : eqb (place_in s.moved ra.line) (place_in s.moved rb.line) ≡ eqb ra.line rb.line =
      same_test _ _ _ _ (λ h. same_place s.places s.moved s.order.back ra.line rb.line u.0 v.0 ma mb h) (λ h. ap (place_in s.moved) h) in
      record { same = ap (λ t. t && same_sign ra.negated rb.negated) test; opposite = ap (λ t. t && same_sign (not ra.negated) rb.negated) test }

  told : (args : List Arg) → ((i j : ℕ) (a b : Arg) → slice_get args i ≡ Some a → slice_get args j ≡ Some b → TellsApart (moved_arg s.moved) (operand_of old (take x.from s.fates) a) (operand_of old (take x.from s.fates) b)) → AreToldApart (moved_arg s.moved) (operands_of old (take x.from s.fates) args)
  told [] h = tt
  told (a ∷ []) h = tt
  told (a ∷ b ∷ []) h = h 0 1 a b refl refl
  told (a ∷ b ∷ c ∷ []) h = h 1 2 b c refl refl
  told (a ∷ b ∷ c ∷ d ∷ more) h = tt

  no_outcome : (out f : Outcome) → f ≡ Stays → IsFateBy old (take x.from s.fates) x.line out f → out ≡ Stays
  no_outcome (Argument b) f h g = absurd (argument_stays b (sym g ∙ h))
  no_outcome Stays f h g = refl
  no_outcome (Constant c) f h g =
      elim g [ inl y ↦ absurd (argument_stays _ (sym y.2 ∙ h)) | inr y ↦ absurd (constant_stays c (sym y.0 ∙ h)) ]

  stays_fits : is_shared m.op ≡ true → outcome m.op (operands_of new [] m.args) ≡ Stays
  stays_fits shared =
      let less : x.from < length s.fates = omega (arith, s.known.sized, slice_get_inside old x.from x.line x.at) in
      let f = inside_get s.fates x.from less in
      let is : f.0 ≡ Stays = sym (same_Some _ _ (sym (slice_get-get_or s.fates x.from Stays less) ∙ f.1)) ∙ e in
      let was = no_outcome (outcome x.line.op (operands_of old (take x.from s.fates) x.line.args)) f.0 is ((s.known.known.by_line x.from x.line f.0 x.at f.1).1 (old_shared old new s q m x shared)) in
      let args : m.args ≡ map (moved_arg s.moved) (map (replaced s.fates) x.line.args) = ap (λ (z : Line). z.args) x.is ∙ ap (λ g. new_args s.fates s.moved g x.line.args) e in
      ap (λ zs. outcome m.op (operands_of new [] zs)) args ∙ ap (outcome m.op) (shapes x.line.args operand_moves) ∙ ap (λ o. outcome o (all_renamed (moved_arg s.moved) (operands_of old (take x.from s.fates) x.line.args))) (op_of old new s q m x Stays e)
      ∙ outcome_stays (moved_arg s.moved) x.line.op (operands_of old (take x.from s.fates) x.line.args) (told x.line.args tells) was

module _ (old new : List Line) (s : IsSimplified old new) where
  by_fate : (q : ℕ) (m : Line) (x : Origin old new s q m) (f : Outcome) → fate_at s.fates x.from ≡ f → is_shared m.op ≡ true → outcome m.op (operands_of new [] m.args) ≡ Stays
  by_fate q m x Stays e h = stays_fits old new s q m x e h
  by_fate q m x (Argument b) e h = absurd (subst Lives e x.lives)
  by_fate q m x (Constant c) e h =
      nothing_fits m.op new m.args (ap (λ (z : Line). z.args) x.is ∙ ap (λ g. new_args s.fates s.moved g x.line.args) e)

  pub no_rule : FitsNoRule new
  no_rule = record { by_place = λ p l al h. let x = origin old new s p l al in by_fate p l x (fate_at s.fates x.from) refl h }
