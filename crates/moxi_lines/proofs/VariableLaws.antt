-- Variables have an input, a state of the step before with its next value, and the constraint of their code.
use Rattle.std.proofs.Common.{◌≡◌, ℕ, zero, suc, ◌<◌, ◌≤◌, ◌^◌, Bool, true, false, cond, eqb, List, [], ◌∷◌, ◌++◌, length, Some, None, refl, sym, ap, ◌∙◌, subst, arith, append_assoc}
use Rattle.std.specs.Prelude.{nat_lt, slice_get, codes}
use Rattle.std.specs.Option.{option_or}
use Rattle.std.specs.List.{AllByRecursion}
use Rattle.std.proofs.lemmas.Bool.Decides.{nat_tests}
use Rattle.std.proofs.lemmas.Bool.{eq-eqb}
use Rattle.std.proofs.lemmas.List.{append-nil}
use Rattle.word_core.specs.Words.{BitVector, IsWord}
use Rattle.word_core.specs.Table.{bit_of}
use Rattle.word_core.specs.declared.word.TheConstants.{WIDEST}
use Rattle.word_core.specs.declared.kinds.Binary.TheVariants as two
use Rattle.btor_tree.specs.declared.lines.Line.{Line}
use Rattle.btor_tree.specs.declared.lines.LineOp.{LineOp}
use Rattle.btor_tree.specs.declared.lines.LineOp.TheVariants as line
use Rattle.btor_tree.specs.Fits.{Suits, greatest_id, is_constraint, is_input, is_next, is_state, kind_at, operands, plain_arg, state_value, value_for, width_at}
use Rattle.btor_tree.specs.Frame.{ConstraintsHold, Meets, operand, true_word, word_at}
use Rattle.btor_tree.specs.Sharing.{GrowsByShared, is_shared, next_line, with_sort}
use Rattle.btor_tree.proofs.AtPlaces.{is_kind}
use Rattle.btor_tree.proofs.Alike.{pushed_quiet}
use Rattle.btor_tree.proofs.Equations.{pushed_fit}
use Rattle.btor_tree.proofs.Paths.{kind_front, operands_append, state_value_append}
use Rattle.btor_tree.proofs.Widths.{wide}
use Rattle.moxi_terms.specs.declared.data.Sort.{Sort}
use Rattle.moxi_terms.specs.declared.data.Sort.TheVariants.{Truth, Bits, Choice}
use Rattle.moxi_terms.specs.declared.term.Enumeration.{Enumeration}
use Rattle.moxi_terms.specs.declared.term.Variable.{Variable}
use Rattle.moxi_terms.specs.Sorted.{AreSorts}
use Rattle.moxi_terms.specs.Sorts.{IsSort}
use Rattle.moxi_terms.specs.Tree.{sorts_of}
use Rattle.moxi_terms.specs.Names.{constant_count}
use Rattle.moxi_lines.specs.Codes.{choice_width, sort_bits}
use Rattle.moxi_lines.specs.TermLines.{AllBuilt, Built, with_binary, with_constant}
use Rattle.moxi_lines.specs.TermLaws.{AreNumbered, HaveCodes}
use Rattle.moxi_lines.proofs.CodeLaws.{choice_high, choice_holds, count_is, width_low}
use Rattle.moxi_lines.proofs.Growing.{grown_long, grown_then, grown_width, wide_inside}
use Rattle.moxi_lines.proofs.Steps.{WordAt, binary_step, constant_step, later_word, word_grows}
use Rattle.moxi_lines.proofs.Chains.{binary_grows}
use Rattle.moxi_lines.specs.Lines.{with_code, with_constraint, with_free, with_given, with_variable, with_variables}
use Rattle.moxi_lines.specs.Variables.{AreInside, AreVariablesAt, IsInside, IsVariableAt}
use Rattle.moxi_lines.proofs.Extending.{Extends, constraint_push, extends_long, extends_meets, extends_none, extends_then, extends_width, quiet_constraints, quietly}
use Rattle.moxi_lines.proofs.VariableLines.{freed, sort_again, sorted}

-- ---- the next value of a state

pub shared_next : (o : LineOp) → is_shared o ≡ true → is_next o ≡ false
shared_next line.Next h = absurd (cc)
shared_next o h = refl

pub quiet_next : (more : List Line) (s : ℕ) → AllByRecursion (λ l. is_shared l.op ≡ true) more → state_value is_next more s ≡ None
quiet_next [] s a = refl
quiet_next (l ∷ more) s a =
    ap (λ b. option_or (cond b (value_for l.args s) None) (state_value is_next more s)) (shared_next l.op a.0) ∙ quiet_next more s a.1

record NextGiven (lines : List Line) (x p : ℕ) (new : List Line) : Type 0 where
  extends : Extends lines new
  numbered : AreNumbered new
  next : state_value is_next new x ≡ Some (plain_arg p)
  constraints : operands is_constraint new ≡ operands is_constraint lines

given_extends : (lines : List Line) (w x p : ℕ) → Extends lines (with_given lines line.Next w x p)
given_extends lines w x p =
    let s = with_sort lines w in
    extends_then lines s.0 (with_given lines line.Next w x p) (quietly lines s.0 (pushed_sorts lines w)) (record { more = _; is = refl })
  where
    pushed_sorts : (lines : List Line) (w : ℕ) → GrowsByShared lines (with_sort lines w).0
    pushed_sorts lines w = pushed_quiet lines (line.Sort w) 0 [] None refl

next_given : (lines : List Line) (w x p : ℕ) → AreNumbered lines → 1 ≤ w → w ≤ WIDEST → width_at lines x ≡ w → width_at lines p ≡ w → kind_at is_state lines x ≡ true → state_value is_next lines x ≡ None
    → length (with_given lines line.Next w x p) < greatest_id → NextGiven lines x p (with_given lines line.Next w x p)
next_given lines w x p n low high wx wp state none room =
    let s = with_sort lines w in
    let l = next_line s.0 line.Next s.1 (plain_arg x ∷ plain_arg p ∷ []) None in
    let new = with_given lines line.Next w x p in
    let after : Extends s.0 new = record { more = l ∷ []; is = refl } in
    let few_s : length s.0 < greatest_id = omega (arith, room, extends_long s.0 new after) in
    let few : length lines < greatest_id = omega (arith, room, extends_long lines new (given_extends lines w x p)) in
    let k = sorted lines w n low high few in
    let e1 : width_at s.0 x ≡ w = grown_width lines s.0 x w low k.grows wx in
    let e2 : width_at s.0 p ≡ w = grown_width lines s.0 p w low k.grows wp in
    let there : kind_at is_state s.0 x ≡ true = ap (λ ls. kind_at is_state ls x) k.grows.1 ∙ kind_front is_state lines k.grows.0 x state in
    let none_s : state_value is_next s.0 x ≡ None =
    ap (λ ls. state_value is_next ls x) k.grows.1 ∙ state_value_append is_next lines k.grows.0 x ∙ ap (λ o. option_or o (state_value is_next k.grows.0 x)) none ∙ quiet_next k.grows.0 x k.grows.2 in
    let suits : Suits s.0 line.Next s.1 (plain_arg x ∷ plain_arg p ∷ []) None = record {
      earlier = (wide_inside s.0 x w low e1, (wide_inside s.0 p w low e2, tt));
      sorts = (there, refl, subst (λ i. 1 ≤ i) (sym k.sort) low, e1 ∙ sym k.sort, e2 ∙ sym k.sort, none_s);
      symbol = tt;
    } in
    let fits = pushed_fit s.0 line.Next s.1 (plain_arg x ∷ plain_arg p ∷ []) None k.numbered.fit k.numbered.ids few_s suits in
    record {
      extends = extends_then lines s.0 new (quietly lines s.0 k.grows) after;
      numbered = record { fit = fits.0; ids = fits.1 };
      next = state_value_append is_next s.0 (l ∷ []) x ∙ ap (λ o. option_or o (state_value is_next (l ∷ []) x)) none_s ∙ ap (λ b. option_or (cond b (Some (plain_arg p)) None) None) (eq-eqb x x refl);
      constraints = operands_append is_constraint s.0 (l ∷ []) ∙ append-nil (operands is_constraint s.0) ∙ quiet_constraints lines s.0 k.grows;
    }

-- ---- codes

record CodeAdded (row : List BitVector) (es : List Enumeration) (s : Sort) (lines : List Line) (p : ℕ) (new : List Line) : Type 0 where
  numbered : AreNumbered new
  constraints : Meets new row → (ConstraintsHold new row → ConstraintsHold lines row × IsInside es s (word_at row p)) × (ConstraintsHold lines row → IsInside es s (word_at row p) → ConstraintsHold new row)

abbrev pub code_m : List Line → ℕ → Built
code_m lines c = with_constant lines (record { width = choice_width c; bits = c })

abbrev pub code_g : List Line → ℕ → ℕ → Built
code_g lines p c = with_binary two.Ult (code_m lines c).0 p (code_m lines c).1

pub code_grows : (lines : List Line) (p c : ℕ) → GrowsByShared lines (code_g lines p c).0
code_grows lines p c =
    grown_then lines (code_m lines c).0 (code_g lines p c).0 (word_grows lines (line.Constant (record { width = choice_width c; bits = c })) (choice_width c) [] refl) (binary_grows two.Ult (code_m lines c).0 p (code_m lines c).1)

code_extends : (es : List Enumeration) (s : Sort) (lines : List Line) (p : ℕ) → Extends lines (with_code es s lines p)
code_extends es Truth lines p = extends_none lines
code_extends es (Bits w) lines p = extends_none lines
code_extends es (Choice n) lines p = go (eqb (constant_count es n) (2 ^ choice_width (constant_count es n))) (constant_count es n)
  where
    go : (b : Bool) (c : ℕ) → Extends lines (cond b lines (with_constraint (code_g lines p c)))
    go true c = extends_none lines
    go false c = extends_then lines (code_g lines p c).0 (with_constraint (code_g lines p c)) (quietly lines (code_g lines p c).0 (code_grows lines p c)) (record { more = _; is = refl })

less : (a b : ℕ) → bit_of (nat_lt a b) ≡ 1 → a < b
less a b h = go (nat_lt a b) refl h
  where
    go : (t : Bool) → nat_lt a b ≡ t → bit_of t ≡ 1 → a < b
    go true e h = grind (arith, nat_tests)
    go false e h = absurd (omega (arith, h))

less_bit : (a b : ℕ) → a < b → bit_of (nat_lt a b) ≡ 1
less_bit a b h = let e : nat_lt a b ≡ true = grind (arith, nat_tests) in ap bit_of e

exact : (a b : ℕ) → eqb a b ≡ true → a ≡ b
exact a b h = grind (arith, nat_tests)

not_equal : (a b : ℕ) → eqb a b ≡ false → a ≤ b → a < b
not_equal a b h le = grind (arith, nat_tests)

code_choice : (row : List BitVector) (es : List Enumeration) (n : ℕ) (lines : List Line) (p : ℕ) → let c = constant_count es n in AreNumbered lines → c ≤ 2 ^ WIDEST → width_at lines p ≡ choice_width c
    → (b : Bool) → (b ≡ true → c ≡ 2 ^ choice_width c) → (b ≡ false → c < 2 ^ choice_width c) → length (cond b lines (with_constraint (code_g lines p c))) < greatest_id
    → CodeAdded row es (Choice n) lines p (cond b lines (with_constraint (code_g lines p c)))
code_choice row es n lines p k few e true whole part room =
    let c = constant_count es n in
    record {
      numbered = k;
      constraints = λ met.
          let w = wide lines row k.fit met p (subst (λ i. 1 ≤ i) (sym e) (width_low c c)) in
          let small : (word_at row p).bits < 2 ^ choice_width c = subst (λ i. (word_at row p).bits < 2 ^ i) (w.1 ∙ e) w.0.2 in
          (λ h. (h, subst (λ i. (word_at row p).bits < i) (sym (whole refl)) small), λ h i. h);
    }
code_choice row es n lines p k few e false whole part room =
    let c = constant_count es n in
    let x = word_at row p in
    let m = code_m lines c in
    let g = code_g lines p c in
    let new = with_constraint g in
    let low = width_low c c in
    let after : Extends g.0 new = record { more = _; is = refl } in
    let few_g : length g.0 < greatest_id = omega (arith, room, extends_long g.0 new after) in
    let few_m : length m.0 < greatest_id = omega (arith, few_g, grown_long m.0 g.0 (binary_grows two.Ult m.0 p m.1)) in
    let is_word : IsWord (record { width = choice_width c; bits = c }) = (low, choice_high c few, part refl) in
    let cm = constant_step row true lines (record { width = choice_width c; bits = c }) k is_word few_m in
    let at : WordAt row true lines p (choice_width c) x = record { width = e; word = λ t met. refl } in
    let one : 1 ≤ 1 = omega arith in
    let s = binary_step row true two.Ult m.0 p m.1 (choice_width c) (choice_width c) x (record { width = choice_width c; bits = c }) cm.numbered low low (later_word row true lines m.0 p (choice_width c) x low cm.grows at) cm.at refl one (omega arith) few_g in
    let q = constraint_push row lines g (code_grows lines p c) s.numbered s.at.width few_g in
    record {
      numbered = q.numbered;
      constraints = λ met.
          let here = extends_meets g.0 new row after met in
          let w = s.at.word refl here in (
            λ h. let r = q.held h in (r.0, less x.bits c (ap (λ (y : BitVector). y.bits) (sym w ∙ r.1))),
            λ h i. q.holds h (w ∙ ap (λ j. let y : BitVector = record { width = 1; bits = j } in y) (less_bit x.bits c i)),
          );
    }

pub all_get : {A : Type 0} (P : A → Type 0) (xs : List A) (i : ℕ) → i < length xs → AllByRecursion P xs → (x : A) × (slice_get xs i ≡ Some x) × P x
all_get P [] i h a = absurd (omega (arith, h))
all_get P (x ∷ xs) zero h a = (x, refl, a.0)
all_get P (x ∷ xs) (suc i) h a = all_get P xs i (omega (arith, h)) a.1

count_small : (es : List Enumeration) (n : ℕ) → HaveCodes es → n < length es → constant_count es n ≤ 2 ^ WIDEST
count_small es n codes h =
    let g = all_get (λ (e : Enumeration). length e.constants ≤ 2 ^ WIDEST) es n h codes in
    subst (λ i. i ≤ 2 ^ WIDEST) (sym (count_is es n g.0 g.1)) g.2

code_added : (row : List BitVector) (es : List Enumeration) → HaveCodes es → (s : Sort) → IsSort es s → (lines : List Line) (p : ℕ) → AreNumbered lines → width_at lines p ≡ sort_bits es s
    → length (with_code es s lines p) < greatest_id → CodeAdded row es s lines p (with_code es s lines p)
code_added row es codes Truth k lines p n e room = record { numbered = n; constraints = λ met. (λ h. (h, tt), λ h i. h) }
code_added row es codes (Bits w) k lines p n e room = record { numbered = n; constraints = λ met. (λ h. (h, tt), λ h i. h) }
code_added row es codes (Choice i) k lines p n e room =
    let c = constant_count es i in
    code_choice row es i lines p n (count_small es i codes k) e (eqb c (2 ^ choice_width c)) (exact c (2 ^ choice_width c)) (λ h. not_equal c (2 ^ choice_width c) h (choice_holds c)) room

-- ---- one variable

pub kind_extends : (kind : LineOp → Bool) (a b : List Line) (p : ℕ) → Extends a b → kind_at kind a p ≡ true → kind_at kind b p ≡ true
kind_extends kind a b p g h = ap (λ ls. kind_at kind ls p) g.is ∙ kind_front kind a g.more p h

next_extends : (a b : List Line) (p v : ℕ) → Extends a b → state_value is_next a p ≡ Some (plain_arg v) → state_value is_next b p ≡ Some (plain_arg v)
next_extends a b p v g h =
    ap (λ ls. state_value is_next ls p) g.is ∙ state_value_append is_next a g.more p ∙ ap (λ o. option_or o (state_value is_next g.more p)) h

pub variable_at_extends : (es : List Enumeration) (a b : List Line) (v : Variable) (p : ℕ) → 1 ≤ sort_bits es v.sort → Extends a b → IsVariableAt es a v p → IsVariableAt es b v p
variable_at_extends es a b v p low g x =
    record {
      input = kind_extends is_input a b p g x.input;
      input_width = extends_width a b p (sort_bits es v.sort) low g x.input_width;
      state = kind_extends is_state a b (suc p) g x.state;
      state_width = extends_width a b (suc p) (sort_bits es v.sort) low g x.state_width;
      next = next_extends a b (suc p) p g x.next;
    }

pub sort_wide : (es : List Enumeration) → HaveCodes es → (s : Sort) → IsSort es s → (1 ≤ sort_bits es s) × (sort_bits es s ≤ WIDEST)
sort_wide es codes Truth h = (omega arith, omega arith)
sort_wide es codes (Bits w) h = h
sort_wide es codes (Choice n) h = let c = constant_count es n in (width_low c c, choice_high c (count_small es n codes h))

input_extends : (lines : List Line) (w : ℕ) (name : List ℕ) → Extends lines (with_free lines line.Input w name).0
input_extends lines w name =
    let s = with_sort lines w in
    extends_then lines s.0 (with_free lines line.Input w name).0 (quietly lines s.0 (pushed_quiet lines (line.Sort w) 0 [] None refl)) (record { more = _; is = refl })

state_extends : (lines : List Line) (w : ℕ) (name : List ℕ) → Extends lines (with_free lines line.State w name).0
state_extends lines w name =
    let s = with_sort lines w in
    extends_then lines s.0 (with_free lines line.State w name).0 (quietly lines s.0 (pushed_quiet lines (line.Sort w) 0 [] None refl)) (record { more = _; is = refl })

abbrev input_m : List Enumeration → List Line → Variable → Built
input_m es lines v = with_free lines line.Input (sort_bits es v.sort) v.name

abbrev state_m : List Enumeration → List Line → Variable → Built
state_m es lines v = with_free (input_m es lines v).0 line.State (sort_bits es v.sort) (v.name ++ codes ".prev")

abbrev next_m : List Enumeration → List Line → Variable → List Line
next_m es lines v = with_given (state_m es lines v).0 line.Next (sort_bits es v.sort) (state_m es lines v).1 (input_m es lines v).1

variable_extends : (es : List Enumeration) (lines : List Line) (v : Variable) → Extends lines (with_variable es lines v).0
variable_extends es lines v =
    let i = input_m es lines v in
    let s = state_m es lines v in
    let n = next_m es lines v in
    extends_then lines i.0 (with_variable es lines v).0 (input_extends lines (sort_bits es v.sort) v.name)
    (extends_then i.0 s.0 (with_variable es lines v).0 (state_extends i.0 (sort_bits es v.sort) (v.name ++ codes ".prev"))
    (extends_then s.0 n (with_variable es lines v).0 (given_extends s.0 (sort_bits es v.sort) s.1 i.1) (code_extends es v.sort n i.1)))

record VariableMade (row : List BitVector) (es : List Enumeration) (lines : List Line) (v : Variable) (m : Built) : Type 0 where
  numbered : AreNumbered m.0
  each : IsVariableAt es m.0 v m.1
  constraints : Meets m.0 row → (ConstraintsHold m.0 row → ConstraintsHold lines row × IsInside es v.sort (word_at row m.1)) × (ConstraintsHold lines row → IsInside es v.sort (word_at row m.1) → ConstraintsHold m.0 row)

variable_made : (row : List BitVector) (es : List Enumeration) → HaveCodes es → (lines : List Line) (v : Variable) → IsSort es v.sort → AreNumbered lines → length (with_variable es lines v).0 < greatest_id → VariableMade row es lines v (with_variable es lines v)
variable_made row es have lines v sort n room =
    let w = sort_bits es v.sort in
    let k = sort_wide es have v.sort sort in
    let i = input_m es lines v in
    let s = state_m es lines v in
    let nx = next_m es lines v in
    let c = with_code es v.sort nx i.1 in
    let few_n : length nx < greatest_id = omega (arith, room, extends_long nx c (code_extends es v.sort nx i.1)) in
    let few_s : length s.0 < greatest_id = omega (arith, few_n, extends_long s.0 nx (given_extends s.0 w s.1 i.1)) in
    let few_i : length i.0 < greatest_id = omega (arith, few_s, extends_long i.0 s.0 (state_extends i.0 w (v.name ++ codes ".prev"))) in
    let fi = freed line.Input refl lines w v.name n k.0 k.1 few_i in
    let fs = freed line.State refl i.0 w (v.name ++ codes ".prev") fi.numbered k.0 k.1 few_s in
    let place : s.1 ≡ suc i.1 = fs.place ∙ ap length (sort_again i.0 w fi.sort.0 fi.sort.1) ∙ fi.end in
    let is_input_there : kind_at is_input i.0 i.1 ≡ true = ap (is_kind is_input) fi.there.1 ∙ ap is_input fi.there.2 in
    let is_state_there : kind_at is_state s.0 s.1 ≡ true = ap (is_kind is_state) fs.there.1 ∙ ap is_state fs.there.2 in
    let width_i : width_at s.0 i.1 ≡ w = extends_width i.0 s.0 i.1 w k.0 fs.extends fi.width in
    let g = next_given s.0 w s.1 i.1 fs.numbered k.0 k.1 fs.width width_i is_state_there fs.no_next few_n in
    let width_n : width_at nx i.1 ≡ w = extends_width s.0 nx i.1 w k.0 g.extends width_i in
    let a = code_added row es have v.sort sort nx i.1 g.numbered width_n room in
    let at : IsVariableAt es nx v i.1 = record {
      input = kind_extends is_input s.0 nx i.1 g.extends (kind_extends is_input i.0 s.0 i.1 fs.extends is_input_there);
      input_width = width_n;
      state = subst (λ p. kind_at is_state nx p ≡ true) place (kind_extends is_state s.0 nx s.1 g.extends is_state_there);
      state_width = subst (λ p. width_at nx p ≡ w) place (extends_width s.0 nx s.1 w k.0 g.extends fs.width);
      next = subst (λ p. state_value is_next nx p ≡ Some (plain_arg i.1)) place g.next;
    } in
    let same : operands is_constraint nx ≡ operands is_constraint lines = g.constraints ∙ fs.constraints ∙ fi.constraints in
    let P = AllByRecursion (λ x. operand row x ≡ true_word) in
    record {
      numbered = a.numbered;
      each = variable_at_extends es nx c v i.1 k.0 (code_extends es v.sort nx i.1) at;
      constraints = λ met.
          let q = a.constraints met in
          (λ h. let r = q.0 h in (subst P same r.0, r.1), λ h i. q.1 (subst P (sym same) h) i);
    }

-- ---- all variables

pub all_extend : (es : List Enumeration) (m : AllBuilt) (vs : List Variable) → Extends m.0 (with_variables es m vs).0
all_extend es m [] = extends_none m.0
all_extend es m (v ∷ vs) =
    let one = with_variable es m.0 v in
    extends_then m.0 one.0 (with_variables es (one.0, m.1 ++ one.1 ∷ []) vs).0 (variable_extends es m.0 v) (all_extend es (one.0, m.1 ++ one.1 ∷ []) vs)

pub record AllVariablesMade (row : List BitVector) (es : List Enumeration) (m : AllBuilt) (vs : List Variable) (r : AllBuilt) : Type 0 where
  pub new : List ℕ
  pub places : r.1 ≡ m.1 ++ new
  pub numbered : AreNumbered r.0
  pub each : AreVariablesAt es r.0 vs new
  pub constraints : Meets r.0 row → (ConstraintsHold r.0 row → ConstraintsHold m.0 row × AreInside es row vs new) × (ConstraintsHold m.0 row → AreInside es row vs new → ConstraintsHold r.0 row)

pub all_made : (row : List BitVector) (es : List Enumeration) → HaveCodes es → (m : AllBuilt) (vs : List Variable) → AreSorts es (sorts_of vs) → AreNumbered m.0 → length (with_variables es m vs).0 < greatest_id → AllVariablesMade row es m vs (with_variables es m vs)
all_made row es have m [] sorts n room =
    record { new = []; places = sym (append-nil m.1); numbered = n; each = tt; constraints = λ met. (λ h. (h, tt), λ h i. h) }
all_made row es have m (v ∷ vs) sorts n room =
    let one = with_variable es m.0 v in
    let next : AllBuilt = (one.0, m.1 ++ one.1 ∷ []) in
    let r = with_variables es next vs in
    let g = all_extend es next vs in
    let few : length one.0 < greatest_id = omega (arith, room, extends_long one.0 r.0 g) in
    let a = variable_made row es have m.0 v sorts.0 n few in
    let b = all_made row es have next vs sorts.1 a.numbered room in
    record {
      new = one.1 ∷ b.new;
      places = b.places ∙ append_assoc m.1 (one.1 ∷ []) b.new;
      numbered = b.numbered;
      each = (variable_at_extends es one.0 r.0 v one.1 (sort_wide es have v.sort sorts.0).0 g a.each, b.each);
      constraints = λ met.
          let q = b.constraints met in
          let p = a.constraints (extends_meets one.0 r.0 row g met) in
          (λ h. let x = q.0 h in let y = p.0 x.0 in (y.0, (y.1, x.1)), λ h i. q.1 (p.1 h i.0) i.1);
    }
