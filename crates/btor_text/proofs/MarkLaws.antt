-- The marks of states, as lines are added.
use Rattle.std.proofs.Common.{◌≡◌, ℕ, zero, suc, ◌+◌, ◌<◌, ◌≤◌, ◌||◌, Bool, true, false, not, cond, eqb, List, [], ◌∷◌, ◌++◌, length, set, Option, Some, None, refl, sym, ap, ◌∙◌, subst, arith, inl, inr}
use Rattle.std.specs.Prelude.{is_none}
use Rattle.std.specs.Option.{option_or}
use Rattle.std.proofs.lemmas.Bool.{eq-eqb, ne_eqb, cases_eq}
use Rattle.std.proofs.lemmas.List.{get_or-set_same, get_or-set_other, length-set, length_push}
use Rattle.btor_tree.specs.declared.args.Arg.{Arg}
use Rattle.btor_tree.specs.declared.lines.Line.{Line}
use Rattle.btor_tree.specs.declared.lines.LineOp.{LineOp}
use Rattle.btor_tree.specs.declared.lines.LineOp.TheVariants.{Init, Next}
use Rattle.btor_tree.specs.Fits.{AreEarlier, OpFits, Fits, is_init, is_next, state_value, value_in, value_for}
use Rattle.btor_tree.proofs.Paths.{state_value_append}
use Rattle.btor_text.specs.declared.progress.Mark.{Mark}
use Rattle.btor_text.specs.Marks.{IsMarked, mark_at, no_mark, noted, with_init, with_next}
use Rattle.text_core.proofs.Truths.{or_false, or_none}

abbrev had : Option Arg → Bool
had o = not (is_none o)

had_or : (a b : Option Arg) → had (option_or a b) ≡ (had a || had b)
had_or None b = refl
had_or (Some x) b = refl

or_true : (b : Bool) → (b || true) ≡ true
or_true true = refl
or_true false = refl

value_push : (kind : LineOp → Bool) (lines : List Line) (line : Line) (s : ℕ) → state_value kind (lines ++ line ∷ []) s ≡ option_or (state_value kind lines s) (value_in kind line s)
value_push kind lines line s = state_value_append kind lines (line ∷ []) s ∙ ap (option_or (state_value kind lines s)) (or_none (value_in kind line s))

push_default : (marks : List Mark) (s : ℕ) → mark_at (marks ++ no_mark ∷ []) s ≡ mark_at marks s
push_default [] zero = refl
push_default [] (suc s) = refl
push_default (m ∷ marks) zero = refl
push_default (m ∷ marks) (suc s) = push_default marks s

-- a mark that a line sets, and the value that it gives
set_here : (f : Mark → Bool) (with : Mark → Mark) (marks : List Mark) (x v : Arg) (s : ℕ) → x.line < length marks → ((m : Mark) → f (with m) ≡ true)
    → f (mark_at (set marks x.line (with (mark_at marks x.line))) s) ≡ (f (mark_at marks s) || had (cond (eqb x.line s) (Some v) None))
set_here f with marks x v s inside sets =
    let i = x.line in
    let new = with (mark_at marks i) in
    elim (cases_eq s i) [
      | inl same ↦
          subst (λ k. f (mark_at (set marks i new) k) ≡ (f (mark_at marks k) || had (cond (eqb i k) (Some v) None))) (sym same)
          (ap f (get_or-set_same marks i new no_mark inside) ∙ sets (mark_at marks i)
          ∙ sym (ap (λ b. f (mark_at marks i) || had (cond b (Some v) None)) (eq-eqb i i refl) ∙ or_true (f (mark_at marks i))))
      | inr other ↦
          ap f (get_or-set_other marks i s new no_mark other)
          ∙ sym (ap (λ b. f (mark_at marks s) || had (cond b (Some v) None)) (ne_eqb i s (λ e. other (sym e))) ∙ or_false (f (mark_at marks s)))
    ]

-- a mark that a line leaves
left_here : (f : Mark → Bool) (with : Mark → Mark) (marks : List Mark) (i s : ℕ) → i < length marks → ((m : Mark) → f (with m) ≡ f m)
    → f (mark_at (set marks i (with (mark_at marks i))) s) ≡ (f (mark_at marks s) || false)
left_here f with marks i s inside leaves =
    let new = with (mark_at marks i) in
    elim (cases_eq s i) [
      | inl same ↦
          subst (λ k. f (mark_at (set marks i new) k) ≡ (f (mark_at marks k) || false)) (sym same)
          (ap f (get_or-set_same marks i new no_mark inside) ∙ leaves (mark_at marks i) ∙ sym (or_false (f (mark_at marks i))))
      | inr other ↦ ap f (get_or-set_other marks i s new no_mark other) ∙ sym (or_false (f (mark_at marks s)))
    ]

init_noted : (before : List Line) (n : ℕ) (op : LineOp) (args : List Arg) (marks : List Mark) (s : ℕ) → OpFits before n op args → AreEarlier (length marks) args
    → (mark_at (noted op args marks) s).init ≡ ((mark_at marks s).init || had (cond (is_init op) (value_for args s) None))
init_noted before n Init [] marks s h e = absurd h
init_noted before n Init (x ∷ []) marks s h e = absurd h
init_noted before n Init (x ∷ v ∷ []) marks s h e = set_here (λ m. m.init) with_init marks x v s e.0 (λ m. refl)
init_noted before n Init (x ∷ v ∷ y ∷ more) marks s h e = absurd h
init_noted before n Next [] marks s h e = absurd h
init_noted before n Next (x ∷ []) marks s h e = absurd h
init_noted before n Next (x ∷ v ∷ []) marks s h e = left_here (λ m. m.init) with_next marks x.line s e.0 (λ m. refl)
init_noted before n Next (x ∷ v ∷ y ∷ more) marks s h e = absurd h
init_noted before n op args marks s h e = sym (or_false (mark_at marks s).init)

next_noted : (before : List Line) (n : ℕ) (op : LineOp) (args : List Arg) (marks : List Mark) (s : ℕ) → OpFits before n op args → AreEarlier (length marks) args
    → (mark_at (noted op args marks) s).next ≡ ((mark_at marks s).next || had (cond (is_next op) (value_for args s) None))
next_noted before n Init [] marks s h e = absurd h
next_noted before n Init (x ∷ []) marks s h e = absurd h
next_noted before n Init (x ∷ v ∷ []) marks s h e = left_here (λ m. m.next) with_init marks x.line s e.0 (λ m. refl)
next_noted before n Init (x ∷ v ∷ y ∷ more) marks s h e = absurd h
next_noted before n Next [] marks s h e = absurd h
next_noted before n Next (x ∷ []) marks s h e = absurd h
next_noted before n Next (x ∷ v ∷ []) marks s h e = set_here (λ m. m.next) with_next marks x v s e.0 (λ m. refl)
next_noted before n Next (x ∷ v ∷ y ∷ more) marks s h e = absurd h
next_noted before n op args marks s h e = sym (or_false (mark_at marks s).next)

noted_long : (op : LineOp) (args : List Arg) (marks : List Mark) → length (noted op args marks) ≡ length marks
noted_long Init [] marks = refl
noted_long Init (x ∷ more) marks = length-set marks x.line (with_init (mark_at marks x.line))
noted_long Next [] marks = refl
noted_long Next (x ∷ more) marks = length-set marks x.line (with_next (mark_at marks x.line))
noted_long op args marks = refl

earlier_more : (n m : ℕ) (args : List Arg) → n ≤ m → AreEarlier n args → AreEarlier m args
earlier_more n m [] le e = tt
earlier_more n m (a ∷ more) le e = (omega (arith, le, e.0), earlier_more n m more le e.1)

pub marked_push : (lines : List Line) (line : Line) (marks : List Mark) → Fits lines line → IsMarked lines marks → IsMarked (lines ++ line ∷ []) (noted line.op line.args (marks ++ no_mark ∷ []))
marked_push lines line marks fits m =
    let more = marks ++ no_mark ∷ [] in
    let size : length more ≡ length lines + 1 = length_push marks no_mark ∙ ap (λ n. n + 1) m.long in
    let earlier = earlier_more (length lines) (length more) line.args (omega (arith, size)) fits.body.earlier in
    record {
      long = noted_long line.op line.args more ∙ size ∙ sym (length_push lines line);
      inits = λ s. init_noted lines line.sort line.op line.args more s fits.body.sorts earlier
          ∙ ap (λ b. b || had (value_in is_init line s)) (ap (λ (k : Mark). k.init) (push_default marks s) ∙ m.inits s)
          ∙ sym (had_or (state_value is_init lines s) (value_in is_init line s)) ∙ ap had (sym (value_push is_init lines line s));
      nexts = λ s. next_noted lines line.sort line.op line.args more s fits.body.sorts earlier
          ∙ ap (λ b. b || had (value_in is_next line s)) (ap (λ (k : Mark). k.next) (push_default marks s) ∙ m.nexts s)
          ∙ sym (had_or (state_value is_next lines s) (value_in is_next line s)) ∙ ap had (sym (value_push is_next lines line s));
    }
