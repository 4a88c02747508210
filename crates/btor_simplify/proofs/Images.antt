-- The frame of the new lines that has the words of a frame of the old ones.
use Rattle.std.proofs.Common.{◌≡◌, ℕ, zero, suc, ◌<◌, ◌≤◌, true, false, List, [], ◌∷◌, length, take, map, Some, refl, sym, ap, subst, ◌∙◌, arith}
use Rattle.std.specs.Prelude.{slice_get}
use Rattle.std.proofs.lemmas.Option.{same_Some, none-some}
use Rattle.word_core.specs.Words.{BitVector}
use Rattle.word_core.specs.Table.{unary_of, binary_of, ite_of, slice_of, uext_of, sext_of}
use Rattle.btor_tree.specs.declared.args.Arg.{Arg}
use Rattle.btor_tree.specs.declared.lines.Line.{Line}
use Rattle.btor_tree.specs.declared.lines.LineOp.{LineOp}
use Rattle.btor_tree.specs.declared.lines.LineOp.TheVariants as op
use Rattle.btor_tree.specs.Fits.{sort_at}
use Rattle.btor_tree.specs.Frame.{word_at, signed_word, operand, constant_word, Equation, Meets, IsFrame}
use Rattle.btor_tree.specs.Sharing.{is_shared}
use Rattle.btor_tree.proofs.Grows.{slice_get_inside, inside_get}
use Rattle.btor_rules.specs.declared.operand.Outcome.{Outcome}
use Rattle.btor_rules.specs.declared.operand.Outcome.TheVariants.{Stays, Constant, Argument}
use Rattle.btor_simplify.specs.Fates.{fate_at, replaced, Lives}
use Rattle.btor_simplify.specs.Marks.{args_by}
use Rattle.btor_simplify.specs.Order.{has_sort, IsMoved, AreBefore}
use Rattle.btor_simplify.specs.Written.{op_by, place_or_first, place_in, moved_arg, new_args, new_sort, new_line}
use Rattle.btor_simplify.specs.Words.{HasSameWords, KeepsWords}
use Rattle.btor_simplify.proofs.Steps.{sort_before}
use Rattle.btor_simplify.proofs.Ordering.{sorted, sort_of_line}
use Rattle.btor_simplify.proofs.Values.{Holds, holds, arg_holds}
use Rattle.btor_simplify.proofs.Writing.{before_at, new_sort_is, line_there, stays, map_twice}
use Rattle.btor_simplify.specs.Simplified.{IsSimplified}
use Rattle.btor_simplify.proofs.Whole.{has_place, same_lines, line_new}

-- the words at places
abbrev pub images : List BitVector → List ℕ → List BitVector
images row places = map (word_at row) places

image_at : (row : List BitVector) (places : List ℕ) (q i : ℕ) → slice_get places q ≡ Some i → word_at (images row places) q ≡ word_at row i
image_at row [] q i h = absurd (none-some i h)
image_at row (p ∷ more) zero i h = ap (word_at row) (same_Some p i h)
image_at row (p ∷ more) (suc q) i h = image_at row more q i h

images_long : (row : List BitVector) (places : List ℕ) → length (images row places) ≡ length places
images_long row [] = refl
images_long row (p ∷ more) = omega (arith, images_long row more)

-- an equation whose arguments and sort are moved
moved_equation : (front before : List Line) (row image : List BitVector) (s t : ℕ) (move : Arg → Arg) (o : LineOp) (args : List Arg) (x : BitVector) → ((j : ℕ) (a : Arg) → slice_get args j ≡ Some a → operand image (move a) ≡ operand row a) → (has_sort o ≡ true → sort_at before t ≡ sort_at front s) → Equation front row s o args x → Equation before image t o (map move args) x
moved_equation front before row image s t move op.Input args x p e h = (h.0, h.1 ∙ sym (e refl))
moved_equation front before row image s t move op.State args x p e h = (h.0, h.1 ∙ sym (e refl))
moved_equation front before row image s t move (op.Constant c) args x p e h = h
moved_equation front before row image s t move op.One args x p e h = h ∙ ap (λ w. constant_word w op.One) (sym (e refl))
moved_equation front before row image s t move op.Zero args x p e h = h ∙ ap (λ w. constant_word w op.Zero) (sym (e refl))
moved_equation front before row image s t move op.Ones args x p e h = h ∙ ap (λ w. constant_word w op.Ones) (sym (e refl))
moved_equation front before row image s t move (op.Unary u) [] x p e h = absurd h
moved_equation front before row image s t move (op.Unary u) (a ∷ []) x p e h = h ∙ ap (unary_of u) (sym (p 0 a refl))
moved_equation front before row image s t move (op.Unary u) (a ∷ b ∷ more) x p e h = absurd h
moved_equation front before row image s t move (op.Binary o) [] x p e h = absurd h
moved_equation front before row image s t move (op.Binary o) (a ∷ []) x p e h = absurd h
moved_equation front before row image s t move (op.Binary o) (a ∷ b ∷ []) x p e h =
    h ∙ ap (λ u. binary_of o u (operand row b)) (sym (p 0 a refl)) ∙ ap (binary_of o (operand image (move a))) (sym (p 1 b refl))
moved_equation front before row image s t move (op.Binary o) (a ∷ b ∷ c ∷ more) x p e h = absurd h
moved_equation front before row image s t move op.Ite [] x p e h = absurd h
moved_equation front before row image s t move op.Ite (a ∷ []) x p e h = absurd h
moved_equation front before row image s t move op.Ite (a ∷ b ∷ []) x p e h = absurd h
moved_equation front before row image s t move op.Ite (a ∷ b ∷ c ∷ []) x p e h =
    h ∙ ap (λ u. ite_of u (operand row b) (operand row c)) (sym (p 0 a refl)) ∙ ap (λ u. ite_of (operand image (move a)) u (operand row c)) (sym (p 1 b refl)) ∙ ap (ite_of (operand image (move a)) (operand image (move b))) (sym (p 2 c refl))
moved_equation front before row image s t move op.Ite (a ∷ b ∷ c ∷ d ∷ more) x p e h = absurd h
moved_equation front before row image s t move (op.Slice high low) [] x p e h = absurd h
moved_equation front before row image s t move (op.Slice high low) (a ∷ []) x p e h = h ∙ ap (λ u. slice_of u high low) (sym (p 0 a refl))
moved_equation front before row image s t move (op.Slice high low) (a ∷ b ∷ more) x p e h = absurd h
moved_equation front before row image s t move (op.Uext n) [] x p e h = absurd h
moved_equation front before row image s t move (op.Uext n) (a ∷ []) x p e h = h ∙ ap (λ u. uext_of u n) (sym (p 0 a refl))
moved_equation front before row image s t move (op.Uext n) (a ∷ b ∷ more) x p e h = absurd h
moved_equation front before row image s t move (op.Sext n) [] x p e h = absurd h
moved_equation front before row image s t move (op.Sext n) (a ∷ []) x p e h = h ∙ ap (λ u. sext_of u n) (sym (p 0 a refl))
moved_equation front before row image s t move (op.Sext n) (a ∷ b ∷ more) x p e h = absurd h
moved_equation front before row image s t move o args x p e h = h

map_same : (f g : Arg → BitVector) (move : Arg → Arg) (args : List Arg) → ((j : ℕ) (a : Arg) → slice_get args j ≡ Some a → f (move a) ≡ g a) → map f (map move args) ≡ map g args
map_same f g move [] h = refl
map_same f g move (a ∷ more) h =
    ap (λ x. x ∷ map f (map move more)) (h zero a refl) ∙ ap (λ xs. g a ∷ xs) (map_same f g move more (λ j b e. h (suc j) b e))

module _ (old new : List Line) (s : IsSimplified old new) (row : List BitVector) (frame : IsFrame old row) where
  pub word_moved : (i q : ℕ) → IsMoved s.moved i q → word_at (images row s.places) (place_in s.moved i) ≡ word_at row i
  word_moved i q h = ap (word_at (images row s.places)) (ap place_or_first h) ∙ image_at row s.places q i (s.order.back i q h)

  -- the line at a new place
  module _ (q i : ℕ) (l : Line) (placed : slice_get s.places q ≡ Some i) (at : slice_get old i ≡ Some l) (st : fate_at s.fates i ≡ Stays) where
    pub arg_moved : (j : ℕ) (a : Arg) → slice_get l.args j ≡ Some a → operand (images row s.places) (moved_arg s.moved (replaced s.fates a)) ≡ operand row a
    arg_moved j a e =
        let all : AreBefore s.moved (map (replaced s.fates) l.args) q = subst (λ f. AreBefore s.moved (args_by s.fates f l.args) q) st (s.order.ready q i l placed at).args in
        let b = before_at s.moved s.fates l.args q j a all e in
        ap (signed_word (replaced s.fates a).negated) (word_moved (replaced s.fates a).line b.0 b.1) ∙ arg_holds old s.fates row s.known frame.meets i l j a at e

    sort_moved : (m : Line) → slice_get new q ≡ Some m → m ≡ new_line s.fates s.moved q i l → has_sort l.op ≡ true → sort_at (take q new) (new_sort s.fates s.moved l.op l.sort) ≡ sort_at (take i old) l.sort
    sort_moved m am same h =
        let t = new_sort s.fates s.moved l.op l.sort in
        let lt : q < length s.places = slice_get_inside s.places q i placed in
        let le : q ≤ length s.places = omega (arith, lt) in
        let whole : sort_at new t ≡ sort_at old l.sort = new_sort_is old s.fates s.places s.moved s.known s.order (length s.places) new s.written q i l le placed at h in
        let fits = (s.well_formed.by_line q m am).body.sorts in
        let op_is : m.op ≡ l.op = ap (λ (x : Line). x.op) same ∙ ap (λ f. op_by f l.op) st in
        let there : 1 ≤ sort_at (take q new) m.sort = sorted (take q new) m.sort m.op m.args fits (ap has_sort op_is ∙ h) in
        let here : 1 ≤ sort_at (take q new) t = subst (λ n. 1 ≤ sort_at (take q new) n) (ap (λ (x : Line). x.sort) same) there in
        let g = sort_of_line old s.fates i l s.known at h in
        sym (sort_before new q t here) ∙ whole ∙ g.front

    args_moved : map (operand (images row s.places)) (map (moved_arg s.moved) (map (replaced s.fates) l.args)) ≡ map (operand row) l.args
    args_moved =
        ap (map (operand (images row s.places))) (map_twice (replaced s.fates) (moved_arg s.moved) l.args)
        ∙ map_same (operand (images row s.places)) (operand row) (λ (a : Arg). moved_arg s.moved (replaced s.fates a)) l.args arg_moved

    stays_met : (m : Line) → slice_get new q ≡ Some m → m ≡ new_line s.fates s.moved q i l → Equation (take q new) (images row s.places) (new_sort s.fates s.moved l.op l.sort) l.op (map (moved_arg s.moved) (map (replaced s.fates) l.args)) (word_at row i)
    stays_met m am same =
        subst (λ zs. Equation (take q new) (images row s.places) (new_sort s.fates s.moved l.op l.sort) l.op zs (word_at row i)) (sym (map_twice (replaced s.fates) (moved_arg s.moved) l.args))
        (moved_equation (take i old) (take q new) row (images row s.places) l.sort (new_sort s.fates s.moved l.op l.sort) (λ (a : Arg). moved_arg s.moved (replaced s.fates a)) l.op l.args (word_at row i)
        arg_moved (sort_moved m am same) (frame.meets.by_line i l at))

  line_met : (q i : ℕ) (l m : Line) → slice_get s.places q ≡ Some i → slice_get old i ≡ Some l → slice_get new q ≡ Some m → m ≡ new_line s.fates s.moved q i l → (f : Outcome) → fate_at s.fates i ≡ f → Lives f → Holds row i f → Equation (take q new) (images row s.places) (new_sort s.fates s.moved l.op l.sort) (op_by f l.op) (new_args s.fates s.moved f l.args) (word_at row i)
  line_met q i l m placed at am same (Constant c) e v h = h
  line_met q i l m placed at am same (Argument b) e v h = absurd v
  line_met q i l m placed at am same Stays e v h = stays_met q i l placed at e m am same

  image_meets : Meets new (images row s.places)
  image_meets =
      record {
        by_line = λ q m am.
            let lt : q < length s.places = omega (arith, slice_get_inside new q m am, s.written.sized) in
            let i = inside_get s.places q lt in
            let mv = s.order.forward q i.0 i.1 in
            let l = line_there old s.fates s.places s.moved s.order i.0 q mv in
            let same : m ≡ new_line s.fates s.moved q i.0 l.0 = same_Some m _ (sym am ∙ s.written.by_place q i.0 l.0 lt i.1 l.1) in
            let f = fate_at s.fates i.0 in
            let met = line_met q i.0 l.0 m i.1 l.1 am same f refl (s.order.ready q i.0 l.0 i.1 l.1).lives (holds old s.fates row s.known frame.meets i.0) in
            let at_image : word_at row i.0 ≡ word_at (images row s.places) q = sym (image_at row s.places q i.0 i.1) in
            let done = subst (λ x. Equation (take q new) (images row s.places) (new_sort s.fates s.moved l.0.op l.0.sort) (op_by f l.0.op) (new_args s.fates s.moved f l.0.args) x) at_image met in
            subst (λ (k : Line). Equation (take q new) (images row s.places) k.sort k.op k.args (word_at (images row s.places) q)) (sym same) done;
      }

  args_kept : (i : ℕ) (l m : Line) → slice_get old i ≡ Some l → is_shared l.op ≡ false → slice_get new (place_in s.moved i) ≡ Some m → map (operand (images row s.places)) m.args ≡ map (operand row) l.args
  args_kept i l m at h am =
      let p = has_place old new s i l at h in
      let f = stays old s.fates s.known i l at h in
      let same : m ≡ new_line s.fates s.moved p.0 i l = same_Some m _ (sym am ∙ line_new old new s i p.0 l p.1 at) in
      ap (λ (x : Line). map (operand (images row s.places)) x.args) same ∙ ap (λ y. map (operand (images row s.places)) (new_args s.fates s.moved y l.args)) f ∙ args_moved p.0 i l (s.order.back i p.0 p.1) at f

  pub same_words : HasSameWords old new (λ i. place_in s.moved i) row (images row s.places)
  same_words =
      record {
        frame = record { sized = images_long row s.places ∙ sym s.written.sized; meets = image_meets };
        words = λ i l at h. let p = has_place old new s i l at h in word_moved i p.0 p.1;
        args = args_kept;
      }

pub keeps_words : (old new : List Line) → IsSimplified old new → KeepsWords old new
keeps_words old new s = (λ i. place_in s.moved i, same_lines old new s, λ row frame. (images row s.places, same_words old new s row frame))
