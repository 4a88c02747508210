-- What is read names each variable, within the limits.
use Rattle.std.proofs.Common.{◌≡◌, ℕ, zero, suc, ◌+◌, ◌-◌, ◌≤◌, ◌<◌, ◌^◌, ◌==◌, Bool, true, false, cond, not, ◌&&◌, ◌||◌, Option, Some, None, is_none, List, [], ◌∷◌, ◌++◌, length, map, set, Result, Ok, Err, refl, sym, ap, ◌∙◌, subst, arith}
use Rattle.std.specs.Prelude.{slice_get, is_some, option_map, option_and_then, codes, ℤ, pos, neg_ℤ, int_le, nat_le, IfOk}
use Rattle.std.specs.List.{filter, list_all}
use Rattle.std.proofs.lemmas.Bool.Decides.{nat_tests}
use Rattle.std.proofs.lemmas.List.{length-append, length-map}
use Rattle.std.proofs.lemmas.List.Folds.{list_all-append}
use Rattle.std.proofs.lemmas.Slice.Eq.{bytes_eq-Decides}
use Rattle.text_core.specs.declared.place.Place.{Place}
use Rattle.text_core.specs.Places.{start, after}
use Rattle.word_core.specs.Words.{BitVector, IsWord}
use Rattle.word_core.specs.Digits.{below, digits_value}
use Rattle.smv_text.specs.Numbers.{number_of, literal_of}
use Rattle.smv_meaning.specs.declared.value.Value.{Value}
use Rattle.smv_meaning.specs.declared.value.Value.TheVariants.{Truth, Integer, Symbol, Bits}
use Rattle.smv_meaning.specs.declared.value.Given.{Given}
use Rattle.smv_meaning.specs.declared.value.Run.{Run}
use Rattle.smv_meaning.specs.Types.{ExprType, truth_type, integer_type, symbol_type, word_type}
use Rattle.smv_items.specs.FlatItems.{PlainFlatItem}
use Rattle.name_maps.specs.Names.{place_of}
use Rattle.smv_numbered.specs.declared.heading.Heading.{Heading}
use Rattle.smv_numbered.specs.declared.heading.Heading.TheVariants.{State, Input}
use Rattle.smv_numbered.specs.Stated.{Declarations, can_be_stated, names_each, names_variables, IsStatedRun}
use Rattle.smv_numbered.specs.Values.{picks, given_if, values_of, nothing_stated}
use Rattle.smv_trace_text.specs.Lines.{is_passed, heading_numbers, value_parts, behind_line, trimmed, lines_of}
use Rattle.smv_trace.specs.Values.{truth_of, negative_of, integer_of, symbol_at, word_as, value_of}
use Rattle.smv_trace.specs.Reading.{Reading, lacks, lacks_state, labels_on, with_state, ended, is_within, is_numbered, is_allowed, begun, heading_line, is_define, with_value, item_line, placed_line, value_step, label_step, other_step, state_step, step, run_of, finished_at, finished, begin}
use Rattle.text_core.specs.declared.end.End.{End}
use Rattle.smv_numbered.specs.declared.run.NumberedRun.{NumberedRun}
use Rattle.smv_numbered.specs.Runs.{run_in, state_at}
use Rattle.smv_trace.specs.Answer.{StatesRun}
use Rattle.smv_trace.specs.Texts.{lines_read, most_bytes, trace_of}
use Rattle.smv_trace.proofs.Literals.{literal_is_word, word_of}
use Rattle.smv_lex.proofs.LexedAgain.{some_same}
use Rattle.text_core.specs.Bytes.{is_empty}
use Rattle.text_core.specs.Answers.{refused, Answers}
use Rattle.text_core.proofs.AnswerLaws.{go_on_ok, taken, passed_by, none_refused, same_ok}

-- ---- results

-- ---- values

truth_fits : (symbols : List (List ℕ)) (o : Option Bool) (v : Value) → option_map Truth o ≡ Some v → can_be_stated symbols truth_type v ≡ true
truth_fits symbols None v e = absurd (let g : None ≡ Some v = e in cc)
truth_fits symbols (Some b) v e = subst (λ v. can_be_stated symbols truth_type v ≡ true) (some_same (Truth b) v e) refl

abbrev in_limits : ℤ → Bool
in_limits z = int_le (neg_ℤ (pos (2 ^ 62))) z && int_le z (pos (2 ^ 62 - 1))

below_lt : (limit n m : ℕ) → below limit n ≡ Some m → (m ≡ n) × (m < limit)
below_lt limit n m e = grind arith

read_below : (limit : ℕ) (o : Option ℕ) (m : ℕ) → option_and_then (below limit) o ≡ Some m → m < limit
read_below limit None m e = absurd (let g : None ≡ Some m = e in cc)
read_below limit (Some n) m e = (below_lt limit n m e).1

negative_fits : (n : ℕ) → n < 2 ^ 62 + 1 → in_limits (neg_ℤ (pos n)) ≡ true
negative_fits n lt = grind (arith, nat_tests)

positive_fits : (n : ℕ) → n < 2 ^ 62 → in_limits (pos n) ≡ true
positive_fits n lt = grind (arith, nat_tests)

word_fits : (symbols : List (List ℕ)) (n : ℕ) (w : BitVector) → IsWord w → (v : Value) → word_as n w ≡ Some v → can_be_stated symbols (word_type n) v ≡ true
word_fits symbols n w is v e = go (w.width == n) refl e
  where
    go : (b : Bool) → (w.width == n) ≡ b → cond b (Some (Bits w)) None ≡ Some v → can_be_stated symbols (word_type n) v ≡ true
    go true t e = subst (λ v. can_be_stated symbols (word_type n) v ≡ true) (some_same (Bits w) v e) (word_of n w t is)
    go false t e = absurd (let g : None ≡ Some v = e in cc)

neg_fits : (o : Option ℕ) → ((m : ℕ) → o ≡ Some m → m < 2 ^ 62 + 1) → (z : ℤ) → option_map (λ n. neg_ℤ (pos n)) o ≡ Some z → in_limits z ≡ true
neg_fits None h z e = absurd (let g : None ≡ Some z = e in cc)
neg_fits (Some n) h z e = subst (λ (z : ℤ). in_limits z ≡ true) (some_same (neg_ℤ (pos n)) z e) (negative_fits n (h n refl))

pos_fits : (o : Option ℕ) → ((m : ℕ) → o ≡ Some m → m < 2 ^ 62) → (z : ℤ) → option_map pos o ≡ Some z → in_limits z ≡ true
pos_fits None h z e = absurd (let g : None ≡ Some z = e in cc)
pos_fits (Some n) h z e = subst (λ (z : ℤ). in_limits z ≡ true) (some_same (pos n) z e) (positive_fits n (h n refl))

integer_fits : (text : List ℕ) (z : ℤ) → integer_of text ≡ Some z → in_limits z ≡ true
integer_fits [] z e = absurd (let g : None ≡ Some z = e in cc)
integer_fits (b ∷ bs) z e = go (b == 45) e
  where
    go : (t : Bool) → cond t (negative_of bs) (option_map pos (number_of (b ∷ bs))) ≡ Some z → in_limits z ≡ true
    go true e = neg_fits (option_and_then (below (2 ^ 62 + 1)) (digits_value 10 bs)) (read_below (2 ^ 62 + 1) (digits_value 10 bs)) z e
    go false e = pos_fits (number_of (b ∷ bs)) (read_below (2 ^ 62) (digits_value 10 (b ∷ bs))) z e

integers_fit : (symbols : List (List ℕ)) (low high : ℤ) (text : List ℕ) (o : Option ℤ) → ((z : ℤ) → o ≡ Some z → in_limits z ≡ true) → (v : Value) → option_map Integer o ≡ Some v → can_be_stated symbols (integer_type low high) v ≡ true
integers_fit symbols low high text None h v e = absurd (let g : None ≡ Some v = e in cc)
integers_fit symbols low high text (Some z) h v e = subst (λ (v : Value). can_be_stated symbols (integer_type low high) v ≡ true) (some_same (Integer z) v e) (h z refl)

symbol_fits : (symbols : List (List ℕ)) (text : List ℕ) (o : Option ℕ) → place_of symbols text ≡ o → (v : Value) → symbol_at text o ≡ Some v → can_be_stated symbols symbol_type v ≡ true
symbol_fits symbols text None p v e = absurd (let g : None ≡ Some v = e in cc)
symbol_fits symbols text (Some k) p v e = subst (λ (v : Value). can_be_stated symbols symbol_type v ≡ true) (some_same (Symbol text) v e) (ap is_some p)

words_fit : (symbols : List (List ℕ)) (n : ℕ) (o : Option BitVector) → ((w : BitVector) → o ≡ Some w → IsWord w) → (v : Value) → option_and_then (word_as n) o ≡ Some v → can_be_stated symbols (word_type n) v ≡ true
words_fit symbols n None is v e = absurd (let g : None ≡ Some v = e in cc)
words_fit symbols n (Some w) is v e = word_fits symbols n w (is w refl) v e

value_fits : (symbols : List (List ℕ)) (t : ExprType) (text : List ℕ) (v : Value) → value_of symbols t text ≡ Some v → can_be_stated symbols t v ≡ true
value_fits symbols truth_type text v e = truth_fits symbols (truth_of text) v e
value_fits symbols (integer_type low high) text v e = integers_fit symbols low high text (integer_of text) (integer_fits text) v e
value_fits symbols symbol_type text v e = symbol_fits symbols text (place_of symbols text) refl v e
value_fits symbols (word_type n) text v e = words_fit symbols n (literal_of text) (literal_is_word text) v e

-- ---- what is stated fits

abbrev can_appear : List (List ℕ) → ExprType → Option Value → Bool
can_appear symbols t None = true
can_appear symbols t (Some v) = can_be_stated symbols t v

abbrev AreFit : List (List ℕ) → List PlainFlatItem → List (Option Value) → Type 0
AreFit symbols [] vs = Unit {0}
AreFit symbols (m ∷ ms) [] = ⊥
AreFit symbols (m ∷ ms) (v ∷ vs) = (can_appear symbols m.type v ≡ true) × AreFit symbols ms vs

nothing_fits : (symbols : List (List ℕ)) (items : List PlainFlatItem) → AreFit symbols items (nothing_stated items)
nothing_fits symbols [] = tt
nothing_fits symbols (m ∷ ms) = (refl, nothing_fits symbols ms)

set_fits : (symbols : List (List ℕ)) (items : List PlainFlatItem) (vs : List (Option Value)) (k : ℕ) (m : PlainFlatItem) (v : Value) → slice_get items k ≡ Some m → can_be_stated symbols m.type v ≡ true → AreFit symbols items vs
    → AreFit symbols items (set vs k (Some v))
set_fits symbols [] vs k m v at c f = tt
set_fits symbols (n ∷ ms) [] k m v at c f = absurd f
set_fits symbols (n ∷ ms) (u ∷ vs) zero m v at c f = (subst (λ (x : PlainFlatItem). can_be_stated symbols x.type v ≡ true) (sym (some_same n m at)) c, f.1)
set_fits symbols (n ∷ ms) (u ∷ vs) (suc k) m v at c f = (f.0, set_fits symbols ms vs k m v at c f.1)

named : (symbols : List (List ℕ)) (h : Heading) (items : List PlainFlatItem) (vs : List (Option Value)) → AreFit symbols items vs → lacks h items vs ≡ false
    → names_each symbols (filter (λ m. picks h m.kind) items) (values_of h items vs) ≡ true
named symbols h [] vs f l = refl
named symbols h (m ∷ ms) [] f l = absurd f
named symbols h (m ∷ ms) (v ∷ vs) f l = go (picks h m.kind) v f.0 l (named symbols h ms vs f.1)
  where
    go : (b : Bool) (v : Option Value) → can_appear symbols m.type v ≡ true → ((b && is_none v) || lacks h ms vs) ≡ false
        → (lacks h ms vs ≡ false → names_each symbols (filter (λ m. picks h m.kind) ms) (values_of h ms vs) ≡ true)
        → names_each symbols (cond b (m ∷ filter (λ m. picks h m.kind) ms) (filter (λ m. picks h m.kind) ms)) (given_if b m.name v ++ values_of h ms vs) ≡ true
    go true (Some v) c l ih = rw ((bytes_eq-Decides m.name m.name).1 refl) (rw c (ih l))
    go true None c l ih = absurd (let g : true ≡ false = l in cc)
    go false (Some v) c l ih = ih l
    go false None c l ih = ih l

-- ---- readings

pub record IsKept (d : Declarations) (r : Reading) : Type 0 where
  pub fit : AreFit d.symbols d.items r.stated
  pub states : list_all (names_variables d State) r.states ≡ true
  pub labels : list_all (names_variables d Input) r.labels ≡ true
  pub sizes : length r.labels ≡ length r.states - 1

-- how many states there may be, by the last heading
abbrev pub MayAppear : Declarations → Option Heading → ℕ → Type 0
MayAppear d None n = n ≡ 0
MayAppear d (Some State) n = is_within d (n + 1) ≡ true
MayAppear d (Some Input) n = (1 ≤ n) × (is_within d n ≡ true)

-- behind the lines of a heading
abbrev pub MayEnd : Declarations → Option Heading → ℕ → Type 0
MayEnd d None n = n ≡ 0
MayEnd d (Some h) n = (1 ≤ n) × (is_within d n ≡ true)

all_more : {A : Type 0} (p : A → Bool) (xs : List A) (x : A) → list_all p xs ≡ true → p x ≡ true → list_all p (xs ++ x ∷ []) ≡ true
all_more p xs x h c = list_all-append p xs (x ∷ []) ∙ (rw h (rw c refl))

or_false : (a b : Bool) → (a || b) ≡ false → (a ≡ false) × (b ≡ false)
or_false true b e = absurd (let g : true ≡ false = e in cc)
or_false false b e = (refl, e)

labels_named : (d : Declarations) (r : Reading) → IsKept d r → (not (is_empty r.states) && lacks Input d.items r.stated) ≡ false
    → (list_all (names_variables d Input) (labels_on d r) ≡ true) × (length (labels_on d r) ≡ length r.states)
labels_named d r k l = go r.states l k.sizes
  where
    go : (states : List (List Given)) → (not (is_empty states) && lacks Input d.items r.stated) ≡ false → length r.labels ≡ length states - 1
        → (list_all (names_variables d Input) (cond (is_empty states) r.labels (r.labels ++ values_of Input d.items r.stated ∷ [])) ≡ true)
        × (length (cond (is_empty states) r.labels (r.labels ++ values_of Input d.items r.stated ∷ [])) ≡ length states)
    go [] l e = (k.labels, e)
    go (s ∷ ss) l e =
        (all_more (names_variables d Input) r.labels (values_of Input d.items r.stated) k.labels (named d.symbols Input d.items r.stated k.fit l), omega (arith, e, length-append r.labels (values_of Input d.items r.stated ∷ [])))

state_kept : (d : Declarations) (r : Reading) → IsKept d r → lacks_state d r ≡ false → IsKept d (with_state d r)
state_kept d r k l =
    let parts = or_false (lacks State d.items r.stated) (not (is_empty r.states) && lacks Input d.items r.stated) l in
    let label = labels_named d r k parts.1 in
    record {
      fit = k.fit;
      states = all_more (names_variables d State) r.states (values_of State d.items r.stated) k.states (named d.symbols State d.items r.stated k.fit parts.0);
      labels = label.0;
      sizes = omega (arith, label.1, length-append r.states (values_of State d.items r.stated ∷ []));
    }

one_more : (d : Declarations) (r : Reading) → is_within d (length r.states + 1) ≡ true → (1 ≤ length (with_state d r).states) × (is_within d (length (with_state d r).states) ≡ true)
one_more d r w =
    let e : length (r.states ++ values_of State d.items r.stated ∷ []) ≡ length r.states + 1 = length-append r.states (values_of State d.items r.stated ∷ []) in
    (omega (arith, e), ap (is_within d) e ∙ w)

ended_kept : (d : Declarations) (next : Heading) (h : Option Heading) (r q : Reading) → IsKept d r → MayAppear d h (length r.states) → ended d next h r ≡ Ok q → IsKept d q × MayEnd d h (length q.states)
ended_kept d next None r q k w e = subst (λ (x : Reading). IsKept d x × MayEnd d None (length x.states)) (same_ok r q e) (k, w)
ended_kept d next (Some State) r q k w e =
    let t = passed_by (lacks_state d r) (Ok (with_state d r)) 4 r.place q e in
    subst (λ (x : Reading). IsKept d x × MayEnd d (Some State) (length x.states)) (same_ok (with_state d r) q t.1) (state_kept d r k t.0, one_more d r w)
ended_kept d State (Some Input) r q k w e =
    let t = passed_by (lacks Input d.items r.stated) (Ok r) 4 r.place q e in
    subst (λ (x : Reading). IsKept d x × MayEnd d (Some Input) (length x.states)) (same_ok r q t.1) (k, w)
ended_kept d Input (Some Input) r q k w e = subst (λ (x : Reading). IsKept d x × MayEnd d (Some Input) (length x.states)) (same_ok r q e) (k, w)

-- a reading that may go on
abbrev pub IsSound : Declarations → Reading → Type 0
IsSound d r = IsKept d r × MayAppear d r.heading (length r.states)

begun_sound : (d : Declarations) (next : Heading) (at : Place) (p : List ℕ × List ℕ) (r q : Reading) → IsKept d r → (is_allowed d next r ≡ true → MayAppear d (Some next) (length r.states)) → begun d next at p r ≡ Ok q → IsSound d q
begun_sound d next at p r q k w e =
    let t = taken (is_numbered r p) (cond (is_allowed d next r) (Ok (record { heading = Some next; place = at; first = p.0; stated = r.stated; states = r.states; labels = r.labels })) (refused 5 at)) 1 at q e in
    let u = taken (is_allowed d next r) (Ok (record { heading = Some next; place = at; first = p.0; stated = r.stated; states = r.states; labels = r.labels })) 5 at q t.1 in
    subst (IsSound d) (same_ok _ q u.1) (record { fit = k.fit; states = k.states; labels = k.labels; sizes = k.sizes }, w u.0)

state_line_sound : (d : Declarations) (at : Place) (p : List ℕ × List ℕ) (r q : Reading) → IsSound d r → heading_line d State at p r ≡ Ok q → IsSound d q
state_line_sound d at p r q s e =
    let t = go_on_ok (ended d State r.heading r) (begun d State at p) q e in
    let k = ended_kept d State r.heading r t.0 s.0 s.1 t.1 in
    begun_sound d State at p t.0 q k.0 (λ w. w) t.2

label_line_sound : (d : Declarations) (h : Heading) (at : Place) (p : List ℕ × List ℕ) (r q : Reading) → r.heading ≡ Some h → IsSound d r → heading_line d Input at p r ≡ Ok q → IsSound d q
label_line_sound d h at p r q is s e =
    let t = go_on_ok (ended d Input r.heading r) (begun d Input at p) q e in
    let k = ended_kept d Input r.heading r t.0 s.0 s.1 t.1 in
    begun_sound d Input at p t.0 q k.0 (λ w. subst (λ (o : Option Heading). MayEnd d o (length t.0.states)) is k.1) t.2

value_sound : (d : Declarations) (at : Place) (k : ℕ) (m : PlainFlatItem) (r q : Reading) (o : Option Value) → slice_get d.items k ≡ Some m → ((v : Value) → o ≡ Some v → can_be_stated d.symbols m.type v ≡ true)
    → IsSound d r → with_value at k r o ≡ Ok q → IsSound d q
value_sound d at k m r q None is c s e = absurd (none_refused 3 at q e)
value_sound d at k m r q (Some v) is c s e =
    subst (IsSound d) (same_ok _ q e)
    (record { fit = set_fits d.symbols d.items r.stated k m v is (c v refl) s.0.fit; states = s.0.states; labels = s.0.labels; sizes = s.0.sizes }, s.1)

item_sound : (d : Declarations) (h : Heading) (at : Place) (text : List ℕ) (k : ℕ) (r q : Reading) (o : Option PlainFlatItem) → slice_get d.items k ≡ o → IsSound d r → item_line d h at text k r o ≡ Ok q → IsSound d q
item_sound d h at text k r q None is s e = absurd (none_refused 2 at q e)
item_sound d h at text k r q (Some m) is s e = go (is_define m.kind) (picks h m.kind) e
  where
    go : (b c : Bool) → cond b (Ok r) (cond c (with_value at k r (value_of d.symbols m.type text)) (refused 2 at)) ≡ Ok q → IsSound d q
    go true c e = subst (IsSound d) (same_ok r q e) s
    go false true e = value_sound d at k m r q (value_of d.symbols m.type text) is (value_fits d.symbols m.type text) s e
    go false false e = absurd (none_refused 2 at q e)

placed_sound : (d : Declarations) (h : Heading) (at : Place) (text : List ℕ) (r q : Reading) (o : Option ℕ) → IsSound d r → placed_line d h at text r o ≡ Ok q → IsSound d q
placed_sound d h at text r q None s e = absurd (none_refused 2 at q e)
placed_sound d h at text r q (Some k) s e = item_sound d h at text k r q (slice_get d.items k) refl s e

value_step_sound : (d : Declarations) (h : Heading) (at : Place) (r q : Reading) (o : Option (List ℕ × List ℕ)) → IsSound d r → value_step d h at r o ≡ Ok q → IsSound d q
value_step_sound d h at r q None s e = absurd (none_refused 1 at q e)
value_step_sound d h at r q (Some p) s e = placed_sound d h at p.1 r q (place_of (map (λ m. m.name) d.items) p.0) s e

label_step_sound : (d : Declarations) (h : Heading) (at : Place) (line : List ℕ) (r q : Reading) (o : Option (List ℕ × List ℕ)) → r.heading ≡ Some h → IsSound d r → label_step d h at line r o ≡ Ok q → IsSound d q
label_step_sound d h at line r q None is s e = value_step_sound d h at r q (value_parts line) s e
label_step_sound d h at line r q (Some p) is s e = label_line_sound d h at p r q is s e

other_step_sound : (d : Declarations) (at : Place) (line : List ℕ) (r q : Reading) (o : Option Heading) → r.heading ≡ o → IsSound d r → other_step d at line r o ≡ Ok q → IsSound d q
other_step_sound d at line r q None is s e = subst (IsSound d) (same_ok r q e) s
other_step_sound d at line r q (Some h) is s e = label_step_sound d h at line r q (heading_numbers (codes "Input:") line) is s e

state_step_sound : (d : Declarations) (at : Place) (line : List ℕ) (r q : Reading) (o : Option (List ℕ × List ℕ)) → IsSound d r → state_step d at line r o ≡ Ok q → IsSound d q
state_step_sound d at line r q None s e = other_step_sound d at line r q r.heading refl s e
state_step_sound d at line r q (Some p) s e = state_line_sound d at p r q s e

step_sound : (d : Declarations) (at : Place) (line : List ℕ) (r q : Reading) → IsSound d r → step d at line r ≡ Ok q → IsSound d q
unfolding step
step_sound d at line r q s e = go (is_passed line) e
  where
    go : (b : Bool) → cond b (Ok r) (state_step d at line r (heading_numbers (codes "State:") line)) ≡ Ok q → IsSound d q
    go true e = subst (IsSound d) (same_ok r q e) s
    go false e = state_step_sound d at line r q (heading_numbers (codes "State:") line) s e

-- ---- runs

-- what a reader answers: the run names each variable, and keeps the limits
abbrev pub IsGood : Declarations → Run → Type 0
IsGood d run = IsStatedRun d run × (is_within d (length run.states) ≡ true)

run_good : (d : Declarations) (h : Heading) (r : Reading) (run : Run) → IsKept d r → MayEnd d (Some h) (length r.states) → run_of r ≡ Ok run → IsGood d run
run_good d h r run k w e =
    subst (IsGood d) (same_ok _ run e) (record { some = w.0; labels = omega (arith, k.sizes, w.0); states = k.states; inputs = k.labels }, w.1)

finished_good : (d : Declarations) (end : Place) (r : Reading) (run : Run) → IsSound d r → finished d end r ≡ Ok run → IsGood d run
unfolding finished
finished_good d end r run s e = go r.heading s.1 e
  where
    go : (o : Option Heading) → MayAppear d o (length r.states) → finished_at d end o r ≡ Ok run → IsGood d run
    go None w e = absurd (none_refused 1 end run e)
    go (Some h) w e =
        let t = go_on_ok (ended d Input (Some h) r) run_of run e in
        let k = ended_kept d Input (Some h) r t.0 s.0 w t.1 in
        run_good d h t.0 run k.0 k.1 t.2

lines_good : (lines : List (List ℕ)) (d : Declarations) (end at : Place) (r : Reading) (run : Run) → IsSound d r → lines_read d end at lines r ≡ Ok run → IsGood d run
lines_good [] d end at r run s e = finished_good d end r run s e
lines_good (line ∷ lines) d end at r run s e =
    let t = go_on_ok (step d at (trimmed line) r) (lines_read d end (behind_line at line) lines) run e in
    lines_good lines d end (behind_line at line) t.0 run (step_sound d at (trimmed line) r t.0 s t.1) t.2

begin_sound : (d : Declarations) → IsSound d (begin d)
begin_sound d = (record { fit = nothing_fits d.symbols d.items; states = refl; labels = refl; sizes = refl }, refl)

pub trace_good : (d : Declarations) (text : List ℕ) (run : Run) → trace_of d text ≡ Ok run → IsGood d run
trace_good d text run e = go (nat_le (length text) most_bytes) e
  where
    go : (b : Bool) → cond b (lines_read d (after start text) start (lines_of text) (begin d)) (refused 5 start) ≡ Ok run → IsGood d run
    go true e = lines_good (lines_of text) d (after start text) start (begin d) run (begin_sound d) e
    go false e = absurd (none_refused 5 start run e)

-- the same of what the reader answers
pub stated_from : (d : Declarations) (text : List ℕ) (r : Result Run End) → Answers (trace_of d text) r → IfOk r (IsStatedRun d)
stated_from d text (Ok run) h = (trace_good d text run h).0
stated_from d text (Err e) h = tt

-- the same of a run by the numbers of the items
pub numbered_stated : (d : Declarations) (text : List ℕ) (r : Result NumberedRun End) → StatesRun d.items (trace_of d text) r → IfOk r (λ run. IsStatedRun d (run_in d.items run))
numbered_stated d text (Ok run) h = (trace_good d text (run_in d.items run) h).0
numbered_stated d text (Err e) h = tt

pub numbered_within : (d : Declarations) (text : List ℕ) (r : Result NumberedRun End) → StatesRun d.items (trace_of d text) r → IfOk r (λ run. is_within d (length run.ends) ≡ true)
numbered_within d text (Ok run) h = subst (λ (n : ℕ). is_within d n ≡ true) (length-map run.ends (state_at d.items run.changes)) (trace_good d text (run_in d.items run) h).1
numbered_within d text (Err e) h = tt
