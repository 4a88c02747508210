-- Inputs and states, and the values that states are given.
use Rattle.std.proofs.Common.{◌≡◌, ℕ, ◌<◌, ◌≤◌, Bool, true, false, cond, List, [], ◌∷◌, ◌++◌, length, map, Option, Some, None, refl, sym, ap, ◌∙◌, subst, arith, inl}
use Rattle.std.specs.Prelude.{Result, Ok, Err, OnOk}
use Rattle.std.specs.Option.{option_or}
use Rattle.std.specs.List.{AllByRecursion}
use Rattle.word_core.specs.declared.word.TheConstants.{WIDEST}
use Rattle.btor_tree.specs.declared.args.Arg.{Arg}
use Rattle.btor_tree.specs.declared.lines.Line.{Line}
use Rattle.btor_tree.specs.declared.lines.LineOp.{LineOp}
use Rattle.btor_tree.specs.declared.lines.LineOp.TheVariants as line
use Rattle.btor_tree.specs.Fits.{IsWellFormed, Suits, greatest_id, is_init, is_next, is_state, kind_at, plain_arg, sort_at, state_value, value_for, width_at}
use Rattle.btor_tree.specs.Sharing.{GrowsByShared, is_shared, next_line, with_sort}
use Rattle.btor_tree.proofs.AtPlaces.{is_kind, width_of_line}
use Rattle.btor_tree.proofs.Alike.{pushed_sort}
use Rattle.btor_tree.proofs.Grows.{slice_get_end}
use Rattle.btor_tree.proofs.Paths.{fresh, kind_front, state_value_append}
use Rattle.btor_tree.proofs.Widths.{sort_front, width_front}
use Rattle.moxi_lines.proofs.Growing.{grown_long, grown_width, wide_inside}
use Rattle.moxi_lines.specs.Lines.{symbol_byte, symbol_of, with_free, with_given}
use Rattle.moxi_lines.specs.TermLines.{Built}
use Rattle.moxi_lines.proofs.VariableLines.{symbol_is}
use Rattle.moxi_lines.proofs.Extending.{Extends, extends_then, quietly}
use Rattle.moxi_to_btor.specs.Putting.{CanPutFree, CanPutGiven, CanPutTruth, IsOpen}
use Rattle.moxi_layout.proofs.Inits.{shared_init}
use Rattle.moxi_layout.proofs.VariableAdditions.{sort_grows}
use Rattle.moxi_lines.proofs.VariableLaws.{shared_next}

pub input_extends : (lines : List Line) (w : ℕ) (name : List ℕ) → Extends lines (with_free lines line.Input w name).0
input_extends lines w name = extends_then lines (with_sort lines w).0 _ (quietly lines _ (sort_grows lines w)) (record { more = _; is = refl })

pub state_extends : (lines : List Line) (w : ℕ) (name : List ℕ) → Extends lines (with_free lines line.State w name).0
state_extends lines w name = extends_then lines (with_sort lines w).0 _ (quietly lines _ (sort_grows lines w)) (record { more = _; is = refl })

pub next_extends : (lines : List Line) (w x p : ℕ) → Extends lines (with_given lines line.Next w x p)
next_extends lines w x p = extends_then lines (with_sort lines w).0 _ (quietly lines _ (sort_grows lines w)) (record { more = _; is = refl })

pub init_extends : (lines : List Line) (w x p : ℕ) → Extends lines (with_given lines line.Init w x p)
init_extends lines w x p = extends_then lines (with_sort lines w).0 _ (quietly lines _ (sort_grows lines w)) (record { more = _; is = refl })

-- ---- inputs and states

pub input_can : (lines : List Line) (w : ℕ) (name : List ℕ) → 1 ≤ w → w ≤ WIDEST → length (with_free lines line.Input w name).0 < greatest_id → CanPutFree lines line.Input w name
input_can lines w name low high room = record { room = room; low = low; high = high; fits = (omega (arith, low, pushed_sort lines w [] None), refl) }

pub state_can : (lines : List Line) (w : ℕ) (name : List ℕ) → 1 ≤ w → w ≤ WIDEST → length (with_free lines line.State w name).0 < greatest_id → CanPutFree lines line.State w name
state_can lines w name low high room = record { room = room; low = low; high = high; fits = (omega (arith, low, pushed_sort lines w [] None), refl) }

pub free_wide : (lines : List Line) (w : ℕ) (name : List ℕ) → 1 ≤ w → width_at (with_free lines line.Input w name).0 (with_free lines line.Input w name).1 ≡ w
free_wide lines w name low =
    let s = with_sort lines w in
    let l = next_line s.0 line.Input s.1 [] (symbol_of name) in
    let sorted : sort_at s.0 s.1 ≡ w = pushed_sort lines w [] None in
    ap (width_of_line (s.0 ++ l ∷ [])) (slice_get_end s.0 l) ∙ sort_front s.0 (l ∷ []) s.1 (omega (arith, sorted, low)) ∙ sorted

pub state_wide : (lines : List Line) (w : ℕ) (name : List ℕ) → 1 ≤ w → width_at (with_free lines line.State w name).0 (with_free lines line.State w name).1 ≡ w
state_wide lines w name low =
    let s = with_sort lines w in
    let l = next_line s.0 line.State s.1 [] (symbol_of name) in
    let sorted : sort_at s.0 s.1 ≡ w = pushed_sort lines w [] None in
    ap (width_of_line (s.0 ++ l ∷ [])) (slice_get_end s.0 l) ∙ sort_front s.0 (l ∷ []) s.1 (omega (arith, sorted, low)) ∙ sorted

-- a kind of line that gives a value to a state
pub record Gives (kind : LineOp → Bool) : Type 0 where
  pub quiet : (o : LineOp) → is_shared o ≡ true → kind o ≡ false
  pub state : kind line.State ≡ false

pub next_gives : Gives is_next
next_gives = record { quiet = shared_next; state = refl }

pub init_gives : Gives is_init
init_gives = record { quiet = shared_init; state = refl }

quiet_none : (kind : LineOp → Bool) → Gives kind → (more : List Line) (s : ℕ) → AllByRecursion (λ l. is_shared l.op ≡ true) more → state_value kind more s ≡ None
quiet_none kind g [] s a = refl
quiet_none kind g (l ∷ more) s a = ap (λ b. option_or (cond b (value_for l.args s) None) (state_value kind more s)) (g.quiet l.op a.0) ∙ quiet_none kind g more s a.1

grown_none : (kind : LineOp → Bool) → Gives kind → (a b : List Line) (p : ℕ) → GrowsByShared a b → state_value kind a p ≡ None → state_value kind b p ≡ None
grown_none kind k a b p g h =
    ap (λ ls. state_value kind ls p) g.1 ∙ state_value_append kind a g.0 p ∙ ap (λ o. option_or o (state_value kind g.0 p)) h ∙ quiet_none kind k g.0 p g.2

pub later_open : (kind : LineOp → Bool) → Gives kind → (a b : List Line) (p w : ℕ) → 1 ≤ w → GrowsByShared a b → IsOpen kind a p w → IsOpen kind b p w
later_open kind k a b p w low g h =
    record {
      state = ap (λ ls. kind_at is_state ls p) g.1 ∙ kind_front is_state a g.0 p h.state;
      width = grown_width a b p w low g h.width;
      none = grown_none kind k a b p g h.none;
    }

pub state_open : (kind : LineOp → Bool) → Gives kind → (lines : List Line) (w : ℕ) (name : List ℕ) → IsWellFormed lines → 1 ≤ w → IsOpen kind (with_free lines line.State w name).0 (with_free lines line.State w name).1 w
state_open kind k lines w name wf low =
    let s = with_sort lines w in
    let l = next_line s.0 line.State s.1 [] (symbol_of name) in
    let new = s.0 ++ l ∷ [] in
    let g = sort_grows lines w in
    let sorted : sort_at s.0 s.1 ≡ w = pushed_sort lines w [] None in
    let before : state_value kind s.0 (length s.0) ≡ None = grown_none kind k lines s.0 (length s.0) g (fresh kind lines (length s.0) wf (grown_long lines s.0 g)) in
    record {
      state = ap (is_kind is_state) (slice_get_end s.0 l);
      width = ap (width_of_line new) (slice_get_end s.0 l) ∙ sort_front s.0 (l ∷ []) s.1 (omega (arith, sorted, low)) ∙ sorted;
      none = state_value_append kind s.0 (l ∷ []) (length s.0) ∙ ap (λ o. option_or o (state_value kind (l ∷ []) (length s.0))) before ∙ ap (λ b. option_or (cond b (value_for l.args (length s.0)) None) None) k.state;
    }

-- a state is behind the lines before it
pub state_place : (lines : List Line) (w : ℕ) (name : List ℕ) → length lines ≤ (with_free lines line.State w name).1
state_place lines w name = grown_long lines (with_sort lines w).0 (sort_grows lines w)

-- ---- values

pub next_can : (lines : List Line) (w x p : ℕ) → 1 ≤ w → w ≤ WIDEST → IsOpen is_next lines x w → width_at lines p ≡ w → length (with_given lines line.Next w x p) < greatest_id → CanPutGiven lines line.Next w x p
next_can lines w x p low high o wp room =
    let s = with_sort lines w in
    let g = sort_grows lines w in
    let h = later_open is_next next_gives lines s.0 x w low g o in
    let e : width_at s.0 p ≡ w = grown_width lines s.0 p w low g wp in
    let sorted : sort_at s.0 s.1 ≡ w = pushed_sort lines w [] None in
    record {
      room = room;
      low = low;
      high = high;
      earlier = (wide_inside s.0 x w low h.width, (wide_inside s.0 p w low e, tt));
      fits = (h.state, refl, omega (arith, sorted, low), h.width ∙ sym sorted, e ∙ sym sorted, h.none);
    }

pub init_can : (lines : List Line) (w x p : ℕ) → 1 ≤ w → w ≤ WIDEST → IsOpen is_init lines x w → width_at lines p ≡ w → p < x → length (with_given lines line.Init w x p) < greatest_id → CanPutGiven lines line.Init w x p
init_can lines w x p low high o wp before room =
    let s = with_sort lines w in
    let g = sort_grows lines w in
    let h = later_open is_init init_gives lines s.0 x w low g o in
    let e : width_at s.0 p ≡ w = grown_width lines s.0 p w low g wp in
    let sorted : sort_at s.0 s.1 ≡ w = pushed_sort lines w [] None in
    record {
      room = room;
      low = low;
      high = high;
      earlier = (wide_inside s.0 x w low h.width, (wide_inside s.0 p w low e, tt));
      fits = ((h.state, refl, omega (arith, sorted, low), h.width ∙ sym sorted, e ∙ sym sorted, h.none), inl before);
    }

-- an init gives no next value
pub init_open : (lines : List Line) (w v x p : ℕ) → 1 ≤ w → IsOpen is_next lines x w → IsOpen is_next (with_given lines line.Init v x p) x w
init_open lines w v x p low o =
    let s = with_sort lines v in
    let h = later_open is_next next_gives lines s.0 x w low (sort_grows lines v) o in
    let l = next_line s.0 line.Init s.1 (plain_arg x ∷ plain_arg p ∷ []) None in
    record {
      state = kind_front is_state s.0 (l ∷ []) x h.state;
      width = width_front_is s.0 (l ∷ []) x w low h.width;
      none = state_value_append is_next s.0 (l ∷ []) x ∙ ap (λ o. option_or o (state_value is_next (l ∷ []) x)) h.none;
    }
  where
    width_front_is : (xs ys : List Line) (p w : ℕ) → 1 ≤ w → width_at xs p ≡ w → width_at (xs ++ ys) p ≡ w
    width_front_is xs ys p w low e = width_front xs ys p (omega (arith, low, e)) ∙ e

-- ---- what a push asks for

pub symbol_some : (name : List ℕ) → (length name ≡ 0 → ⊥) → symbol_of name ≡ Some (map symbol_byte name)
symbol_some [] h = absurd (h refl)
symbol_some (b ∷ bs) h = refl

pub bad_suits : (lines : List Line) (p : ℕ) (name : List ℕ) (args : List Arg) (symbol : Option (List ℕ)) → CanPutTruth lines p → args ≡ plain_arg p ∷ [] → symbol ≡ symbol_of name → Suits lines line.Bad 0 args symbol
bad_suits lines p name args symbol c e f =
    subst (λ args. Suits lines line.Bad 0 args symbol) (sym e) (subst (λ s. Suits lines line.Bad 0 (plain_arg p ∷ []) s) (sym f)
    (record { earlier = (wide_inside lines p 1 (omega arith) c.width, tt); sorts = (refl, c.width); symbol = symbol_is name }))

pub free_suits : (lines : List Line) (o : LineOp) (w : ℕ) (name : List ℕ) (m : Built) (args : List Arg) (symbol : Option (List ℕ)) → CanPutFree lines o w name → m ≡ with_sort lines w → args ≡ [] → symbol ≡ symbol_of name → Suits m.0 o m.1 args symbol
free_suits lines o w name m args symbol c e f g =
    subst (λ (m : Built). Suits m.0 o m.1 args symbol) (sym e) (subst (λ args. Suits (with_sort lines w).0 o (with_sort lines w).1 args symbol) (sym f) (subst (λ s. Suits (with_sort lines w).0 o (with_sort lines w).1 [] s) (sym g)
    (record { earlier = tt; sorts = c.fits; symbol = symbol_is name })))

pub ok_same : {A E : Type 0} (r : Result A E) (x a b : List Line) → a ≡ b → OnOk r (x ≡ a) → OnOk r (x ≡ b)
ok_same (Ok y) x a b e h = h ∙ e
ok_same (Err y) x a b e h = h
