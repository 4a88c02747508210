-- Words that meet the equations of lines, before and behind a push.
use Rattle.std.proofs.Common.{◌≡◌, ℕ, ◌<◌, ◌≤◌, true, cond, take, drop, List, [], ◌∷◌, ◌++◌, length, Option, Some, None, refl, sym, ap, ◌∙◌, subst, arith}
use Rattle.std.specs.Prelude.{slice_get}
use Rattle.std.proofs.lemmas.List.{take-append-le, take_all, take-append-drop, length_push}
use Rattle.word_core.specs.Words.{BitVector}
use Rattle.btor_tree.specs.declared.args.Arg.{Arg}
use Rattle.btor_tree.specs.declared.lines.Line.{Line}
use Rattle.btor_tree.specs.declared.lines.LineOp.{LineOp}
use Rattle.btor_tree.specs.declared.lines.LineOp.TheVariants as op
use Rattle.btor_tree.specs.Fits.{Suits, IsWellFormed, has_word, greatest_id, last_id, sort_at, width_at}
use Rattle.btor_tree.specs.Frame.{Equation, Meets, word_at, constant_word}
use Rattle.btor_tree.specs.Sharing.{standing, next_line, placed, pushed, SaysAt}
use Rattle.btor_tree.proofs.AtPlaces.{width_of_line}
use Rattle.btor_tree.proofs.Grows.{slice_get_end, last_push, meets_front, well_formed_push}
use Rattle.btor_tree.proofs.Widths.{sort_front, sort_there}
use Rattle.btor_tree.proofs.Alike.{standing_says}
use Rattle.btor_tree.proofs.Keyed.{fits_next}

-- the lines before count for their sort alone
equation_same : (xs ys : List Line) (row : List BitVector) (s : ℕ) (o : LineOp) (args : List Arg) (x : BitVector) → (has_word o ≡ true → sort_at xs s ≡ sort_at ys s) → Equation xs row s o args x → Equation ys row s o args x
equation_same xs ys row s op.Input args x e h = (h.0, h.1 ∙ e refl)
equation_same xs ys row s op.State args x e h = (h.0, h.1 ∙ e refl)
equation_same xs ys row s (op.Constant c) args x e h = h
equation_same xs ys row s op.One args x e h = h ∙ ap (λ w. constant_word w op.One) (e refl)
equation_same xs ys row s op.Zero args x e h = h ∙ ap (λ w. constant_word w op.Zero) (e refl)
equation_same xs ys row s op.Ones args x e h = h ∙ ap (λ w. constant_word w op.Ones) (e refl)
equation_same xs ys row s (op.Unary u) args x e h = h
equation_same xs ys row s (op.Binary b) args x e h = h
equation_same xs ys row s op.Ite args x e h = h
equation_same xs ys row s (op.Slice high low) args x e h = h
equation_same xs ys row s (op.Uext n) args x e h = h
equation_same xs ys row s (op.Sext n) args x e h = h
equation_same xs ys row s o args x e h = h

-- the equation of the line at a place, among all lines
equation_at : (lines : List Line) (row : List BitVector) (p : ℕ) (o : LineOp) (sort : ℕ) (args : List Arg) → IsWellFormed lines → Meets lines row → SaysAt lines p o sort args → Equation lines row sort o args (word_at row p)
equation_at lines row p o sort args w m says =
    let l = says.0 in
    let fits = (w.by_line p l says.1).body.sorts in
    let same : has_word l.op ≡ true → sort_at (take p lines) l.sort ≡ sort_at lines l.sort =
    λ h. sym (sort_front (take p lines) (drop p lines) l.sort (sort_there (take p lines) l.sort l.op l.args fits h)) ∙ ap (λ ls. sort_at ls l.sort) (take-append-drop p lines) in
    let here : Equation lines row l.sort l.op l.args (word_at row p) = equation_same (take p lines) lines row l.sort l.op l.args (word_at row p) same (m.by_line p l says.1) in
    subst (λ z. Equation lines row sort o z (word_at row p)) says.2.2 (subst (λ z. Equation lines row sort z l.args (word_at row p)) says.2.0 (subst (λ z. Equation lines row z l.op l.args (word_at row p)) says.2.1 here))

placed_met : (lines : List Line) (l : Line) (row : List BitVector) (found : Option ℕ) → IsWellFormed lines → ((p : ℕ) → found ≡ Some p → SaysAt lines p l.op l.sort l.args) → Meets (placed found lines l).0 row → Meets lines row × Equation lines row l.sort l.op l.args (word_at row (placed found lines l).1)
placed_met lines l row (Some p) w says m = (m, equation_at lines row p l.op l.sort l.args w m (says p refl))
placed_met lines l row None w says m =
    let le : length lines ≤ length lines = omega arith in
    let front : take (length lines) (lines ++ l ∷ []) ≡ lines = take-append-le (length lines) lines (l ∷ []) le ∙ take_all (length lines) lines le in
    (meets_front lines (l ∷ []) row m, subst (λ ls. Equation ls row l.sort l.op l.args (word_at row (length lines))) front (m.by_line (length lines) l (slice_get_end lines l)))

pub pushed_met : (lines : List Line) (o : LineOp) (sort : ℕ) (args : List Arg) (symbol : Option (List ℕ)) (row : List BitVector) → IsWellFormed lines → Suits lines o sort args symbol → Meets (pushed lines o sort args symbol).0 row → Meets lines row × Equation lines row sort o args (word_at row (pushed lines o sort args symbol).1)
pushed_met lines o sort args symbol row w suits m =
    placed_met lines (next_line lines o sort args symbol) row (standing lines o sort args) w (standing_says lines o sort args) m

word_width : (lines : List Line) (l : Line) (p : ℕ) → slice_get lines p ≡ Some l → has_word l.op ≡ true → width_at lines p ≡ sort_at lines l.sort
word_width lines l p h b = ap (width_of_line lines) h ∙ ap (λ c. cond c (sort_at lines l.sort) 0) b

placed_width : (lines : List Line) (l : Line) (found : Option ℕ) → ((p : ℕ) → found ≡ Some p → SaysAt lines p l.op l.sort l.args) → has_word l.op ≡ true → 1 ≤ sort_at lines l.sort → width_at (placed found lines l).0 (placed found lines l).1 ≡ sort_at lines l.sort
placed_width lines l (Some p) says b there =
    let s = says p refl in
    word_width lines s.0 p s.1 (ap has_word s.2.0 ∙ b) ∙ ap (sort_at lines) s.2.1
placed_width lines l None says b there =
    word_width (lines ++ l ∷ []) l (length lines) (slice_get_end lines l) b ∙ sort_front lines (l ∷ []) l.sort there

pub pushed_wide : (lines : List Line) (o : LineOp) (sort : ℕ) (args : List Arg) (symbol : Option (List ℕ)) → IsWellFormed lines → Suits lines o sort args symbol → has_word o ≡ true → width_at (pushed lines o sort args symbol).0 (pushed lines o sort args symbol).1 ≡ sort_at lines sort
pushed_wide lines o sort args symbol w suits b =
    placed_width lines (next_line lines o sort args symbol) (standing lines o sort args) (standing_says lines o sort args) b (sort_there lines sort o args suits.sorts b)

-- a line more fits
placed_fits : (lines : List Line) (l : Line) (found : Option ℕ) → IsWellFormed lines → last_id lines ≡ length lines → (IsWellFormed (lines ++ l ∷ []) × (last_id (lines ++ l ∷ []) ≡ length (lines ++ l ∷ []))) → IsWellFormed (placed found lines l).0 × (last_id (placed found lines l).0 ≡ length (placed found lines l).0)
placed_fits lines l (Some p) w n h = (w, n)
placed_fits lines l None w n h = h

pub pushed_fit : (lines : List Line) (o : LineOp) (sort : ℕ) (args : List Arg) (symbol : Option (List ℕ)) → IsWellFormed lines → last_id lines ≡ length lines → length lines < greatest_id → Suits lines o sort args symbol → IsWellFormed (pushed lines o sort args symbol).0 × (last_id (pushed lines o sort args symbol).0 ≡ length (pushed lines o sort args symbol).0)
pushed_fit lines o sort args symbol w n room suits =
    let l = next_line lines o sort args symbol in
    placed_fits lines l (standing lines o sort args) w n (well_formed_push lines l w (fits_next lines o sort args symbol n room suits), last_push lines l ∙ sym (length_push lines l))
