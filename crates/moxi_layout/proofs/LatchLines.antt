-- Latches: a state with an init, operators, and then its next.
use Rattle.std.proofs.Common.{◌≡◌, ℕ, ◌+◌, ◌<◌, ◌≤◌, Bool, true, false, cond, List, [], ◌∷◌, ◌++◌, length, Some, None, refl, sym, ap, ◌∙◌, subst, arith, inl}
use Rattle.std.specs.Prelude.{slice_get}
use Rattle.std.specs.Option.{option_or}
use Rattle.std.proofs.lemmas.Bool.{eq-eqb}
use Rattle.std.proofs.lemmas.List.{length_push}
use Rattle.btor_tree.specs.declared.args.Arg.{Arg}
use Rattle.btor_tree.specs.declared.lines.Line.{Line}
use Rattle.btor_tree.specs.declared.lines.LineOp.{LineOp}
use Rattle.btor_tree.specs.declared.lines.LineOp.TheVariants as line
use Rattle.btor_tree.specs.Fits.{Suits, greatest_id, is_init, is_next, is_state, kind_at, plain_arg, sort_at, state_value, width_at}
use Rattle.btor_tree.specs.Sharing.{GrowsByShared, next_line, pushed, with_sort}
use Rattle.btor_tree.proofs.AtPlaces.{is_kind, width_of_line}
use Rattle.btor_tree.proofs.Equations.{pushed_fit}
use Rattle.btor_tree.proofs.Grows.{slice_get_end}
use Rattle.btor_tree.proofs.Paths.{fresh, state_value_append}
use Rattle.moxi_lines.specs.TermLines.{Built}
use Rattle.moxi_lines.specs.TermLaws.{AreNumbered}
use Rattle.moxi_lines.proofs.Growing.{wide_inside}
use Rattle.moxi_lines.specs.Lines.{head_lines, symbol_of, with_free, with_given, with_latch}
use Rattle.moxi_lines.proofs.Extending.{Extends, extends_long, extends_then, extends_width, quietly}
use Rattle.moxi_lines.proofs.VariableLines.{symbol_is}
use Rattle.moxi_layout.proofs.QueryLines.{IsLatch, Latch}
use Rattle.moxi_lines.proofs.VariableLaws.{kind_extends, quiet_next}

-- ---- lines behind the head

pub head_long : (lines : List Line) → Extends head_lines lines → 6 ≤ length lines
head_long lines g = extends_long head_lines lines g

-- the sort of truth values is at the first place
sort_is : (lines : List Line) → Extends head_lines lines → with_sort lines 1 ≡ (lines, 0)
sort_is lines g = subst (λ ls. with_sort ls 1 ≡ (ls, 0)) (sym g.is) refl

pub head_sort : (lines : List Line) → Extends head_lines lines → sort_at lines 0 ≡ 1
head_sort lines g = ap (λ ls. sort_at ls 0) g.is

abbrev pub state_line : List Line → List ℕ → Line
state_line lines name = next_line lines line.State 0 [] (symbol_of name)

abbrev pub given_line : List Line → LineOp → ℕ → ℕ → Line
given_line lines o s v = next_line lines o 0 (plain_arg s ∷ plain_arg v ∷ []) None

free_is : (lines : List Line) (name : List ℕ) → Extends head_lines lines → with_free lines line.State 1 name ≡ (lines ++ state_line lines name ∷ [], length lines)
free_is lines name g = ap (λ (m : Built). pushed m.0 line.State m.1 [] (symbol_of name)) (sort_is lines g)

init_is : (lines : List Line) (s v : ℕ) → Extends head_lines lines → with_given lines line.Init 1 s v ≡ lines ++ given_line lines line.Init s v ∷ []
init_is lines s v g = ap (λ (m : Built). (pushed m.0 line.Init m.1 (plain_arg s ∷ plain_arg v ∷ []) None).0) (sort_is lines g)

pub next_is : (lines : List Line) (s v : ℕ) → Extends head_lines lines → with_given lines line.Next 1 s v ≡ lines ++ given_line lines line.Next s v ∷ []
next_is lines s v g = ap (λ (m : Built). (pushed m.0 line.Next m.1 (plain_arg s ∷ plain_arg v ∷ []) None).0) (sort_is lines g)

abbrev pub with_state : List Line → List ℕ → List Line
with_state lines name = lines ++ state_line lines name ∷ []

pub one_more : (lines : List Line) (l : Line) → Extends lines (lines ++ l ∷ [])
one_more lines l = record { more = l ∷ []; is = refl }

pub latch_is : (lines : List Line) (name : List ℕ) (v : ℕ) → Extends head_lines lines
    → with_latch lines name v ≡ (with_state lines name ++ given_line (with_state lines name) line.Init (length lines) v ∷ [], length lines)
latch_is lines name v g =
    ap (λ (m : Built). (with_given m.0 line.Init 1 m.1 v, m.1)) (free_is lines name g)
    ∙ ap (λ ls. (ls, length lines)) (init_is (with_state lines name) (length lines) v (extends_then head_lines lines (with_state lines name) g (one_more lines (state_line lines name))))

-- ---- what stands of a latch before its next

pub record IsOpen (lines : List Line) (s v : ℕ) : Type 0 where
  pub state : kind_at is_state lines s ≡ true
  pub width : width_at lines s ≡ 1
  pub begins : state_value is_init lines s ≡ Some (plain_arg v)
  pub no_next : state_value is_next lines s ≡ None

pub value_extends : (kind : LineOp → Bool) (a b : List Line) (p : ℕ) (v : Arg) → Extends a b → state_value kind a p ≡ Some v → state_value kind b p ≡ Some v
value_extends kind a b p v g h =
    ap (λ ls. state_value kind ls p) g.is ∙ state_value_append kind a g.more p ∙ ap (λ o. option_or o (state_value kind g.more p)) h

pub open_later : (a b : List Line) (s v : ℕ) → GrowsByShared a b → IsOpen a s v → IsOpen b s v
open_later a b s v g o =
    record {
      state = kind_extends is_state a b s (quietly a b g) o.state;
      width = extends_width a b s 1 (omega arith) (quietly a b g) o.width;
      begins = value_extends is_init a b s (plain_arg v) (quietly a b g) o.begins;
      no_next = ap (λ ls. state_value is_next ls s) g.1 ∙ state_value_append is_next a g.0 s ∙ ap (λ x. option_or x (state_value is_next g.0 s)) o.no_next ∙ quiet_next g.0 s g.2;
    }

pub latch_later : (a b : List Line) (v : ℕ) (l : Latch) → Extends a b → IsLatch a v l → IsLatch b v l
latch_later a b v l g x =
    record {
      state = kind_extends is_state a b l.state g x.state;
      width = extends_width a b l.state 1 (omega arith) g x.width;
      init = value_extends is_init a b l.state (plain_arg v) g x.init;
      next = value_extends is_next a b l.state (plain_arg l.next) g x.next;
    }

-- ---- a state and its init

pub record Opened (lines : List Line) (m : Built) (v : ℕ) : Type 0 where
  pub extends : Extends lines m.0
  pub numbered : AreNumbered m.0
  pub opens : IsOpen m.0 m.1 v

free_value : (kind : LineOp → Bool) (lines : List Line) (name : List ℕ) → AreNumbered lines → kind line.State ≡ false → state_value kind (with_state lines name) (length lines) ≡ None
free_value kind lines name n e =
    state_value_append kind lines (state_line lines name ∷ []) (length lines) ∙ ap (λ z. option_or z (state_value kind (state_line lines name ∷ []) (length lines))) (fresh kind lines (length lines) n.fit (omega arith))
    ∙ ap (λ b. option_or (cond b None None) None) e

opened_at : (lines : List Line) (name : List ℕ) (v : ℕ) → AreNumbered lines → Extends head_lines lines → v < length lines → width_at lines v ≡ 1
    → let more = with_state lines name in let all = more ++ given_line more line.Init (length lines) v ∷ [] in length all < greatest_id → Opened lines (all, length lines) v
opened_at lines name v n g small w room =
    let more = with_state lines name in
    let s = length lines in
    let l = given_line more line.Init s v in
    let all = more ++ l ∷ [] in
    let e1 = one_more lines (state_line lines name) in
    let e2 = one_more more l in
    let gm = extends_then head_lines lines more g e1 in
    let long1 : length more ≡ s + 1 = length_push lines (state_line lines name) in
    let long2 : length all ≡ length more + 1 = length_push more l in
    let suits1 : Suits lines line.State 0 [] (symbol_of name) = record { earlier = tt; sorts = (omega (arith, head_sort lines g), refl); symbol = symbol_is name } in
    let fit1 = pushed_fit lines line.State 0 [] (symbol_of name) n.fit n.ids (omega (arith, room, long1, long2)) suits1 in
    let n1 : AreNumbered more = record { fit = fit1.0; ids = fit1.1 } in
    let there : slice_get more s ≡ Some (state_line lines name) = slice_get_end lines (state_line lines name) in
    let state : kind_at is_state more s ≡ true = ap (is_kind is_state) there in
    let width : width_at more s ≡ 1 = ap (width_of_line more) there ∙ head_sort more gm in
    let one : sort_at more 0 ≡ 1 = head_sort more gm in
    let no_init : state_value is_init more s ≡ None = free_value is_init lines name n refl in
    let no_next : state_value is_next more s ≡ None = free_value is_next lines name n refl in
    let vw : width_at more v ≡ 1 = extends_width lines more v 1 (omega arith) e1 w in
    let suits2 : Suits more line.Init 0 (plain_arg s ∷ plain_arg v ∷ []) None = record {
      earlier = (omega (arith, long1), (omega (arith, long1, small), tt));
      sorts = ((state, refl, omega (arith, one), width ∙ sym one, vw ∙ sym one, no_init), inl small);
      symbol = tt;
    } in
    let fit2 = pushed_fit more line.Init 0 (plain_arg s ∷ plain_arg v ∷ []) None n1.fit n1.ids (omega (arith, room, long2)) suits2 in
    record {
      extends = extends_then lines more all e1 e2;
      numbered = record { fit = fit2.0; ids = fit2.1 };
      opens = record {
        state = kind_extends is_state more all s e2 state;
        width = extends_width more all s 1 (omega arith) e2 width;
        begins = state_value_append is_init more (l ∷ []) s ∙ ap (λ o. option_or o (state_value is_init (l ∷ []) s)) no_init ∙ ap (λ b. option_or (cond b (Some (plain_arg v)) None) None) (eq-eqb s s refl);
        no_next = state_value_append is_next more (l ∷ []) s ∙ ap (λ o. option_or o (state_value is_next (l ∷ []) s)) no_next;
      };
    }

pub latch_opened : (lines : List Line) (name : List ℕ) (v : ℕ) → AreNumbered lines → Extends head_lines lines → v < length lines → width_at lines v ≡ 1 → length (with_latch lines name v).0 < greatest_id
    → Opened lines (with_latch lines name v) v
latch_opened lines name v n g small w room =
    let e = latch_is lines name v g in
    subst (λ m. Opened lines m v) (sym e) (opened_at lines name v n g small w (subst (λ (m : Built). length m.0 < greatest_id) e room))

pub latch_extends : (lines : List Line) (name : List ℕ) (v : ℕ) → Extends head_lines lines → Extends lines (with_latch lines name v).0
latch_extends lines name v g =
    let more = with_state lines name in
    subst (λ (m : Built). Extends lines m.0) (sym (latch_is lines name v g))
    (extends_then lines more _ (one_more lines (state_line lines name)) (one_more more (given_line more line.Init (length lines) v)))

-- ---- its next

pub record Closed (lines : List Line) (s v p : ℕ) (new : List Line) : Type 0 where
  pub extends : Extends lines new
  pub numbered : AreNumbered new
  pub latch : IsLatch new v (record { state = s; next = p })

closed_at : (lines : List Line) (s v p : ℕ) → AreNumbered lines → Extends head_lines lines → IsOpen lines s v → width_at lines p ≡ 1
    → let all = lines ++ given_line lines line.Next s p ∷ [] in length all < greatest_id → Closed lines s v p all
closed_at lines s v p n g o w room =
    let l = given_line lines line.Next s p in
    let all = lines ++ l ∷ [] in
    let e = one_more lines l in
    let one : sort_at lines 0 ≡ 1 = head_sort lines g in
    let suits : Suits lines line.Next 0 (plain_arg s ∷ plain_arg p ∷ []) None = record {
      earlier = (wide_inside lines s 1 (omega arith) o.width, (wide_inside lines p 1 (omega arith) w, tt));
      sorts = (o.state, refl, omega (arith, one), o.width ∙ sym one, w ∙ sym one, o.no_next);
      symbol = tt;
    } in
    let fit = pushed_fit lines line.Next 0 (plain_arg s ∷ plain_arg p ∷ []) None n.fit n.ids (omega (arith, room, length_push lines l)) suits in
    record {
      extends = e;
      numbered = record { fit = fit.0; ids = fit.1 };
      latch = record {
        state = kind_extends is_state lines all s e o.state;
        width = extends_width lines all s 1 (omega arith) e o.width;
        init = value_extends is_init lines all s (plain_arg v) e o.begins;
        next = state_value_append is_next lines (l ∷ []) s ∙ ap (λ x. option_or x (state_value is_next (l ∷ []) s)) o.no_next ∙ ap (λ b. option_or (cond b (Some (plain_arg p)) None) None) (eq-eqb s s refl);
      };
    }

pub latch_closed : (lines : List Line) (s v p : ℕ) → AreNumbered lines → Extends head_lines lines → IsOpen lines s v → width_at lines p ≡ 1 → length (with_given lines line.Next 1 s p) < greatest_id
    → Closed lines s v p (with_given lines line.Next 1 s p)
latch_closed lines s v p n g o w room =
    let e = next_is lines s p g in
    subst (Closed lines s v p) (sym e) (closed_at lines s v p n g o w (subst (λ ls. length ls < greatest_id) e room))

pub next_extends : (lines : List Line) (s p : ℕ) → Extends head_lines lines → Extends lines (with_given lines line.Next 1 s p)
next_extends lines s p g = subst (Extends lines) (sym (next_is lines s p g)) (one_more lines (given_line lines line.Next s p))
