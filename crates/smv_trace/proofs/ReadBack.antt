-- A printed run is read back.
use Rattle.std.proofs.Common.{◌≡◌, ℕ, ◌+◌, ◌*◌, ◌≤◌, ◌<◌, ◌^◌, Bool, true, false, cond, not, ◌&&◌, ◌||◌, Option, Some, None, is_none, List, [], ◌∷◌, ◌++◌, length, Result, Ok, refl, sym, ap, ◌∙◌, subst, append_assoc, append-nil, arith}
use Rattle.std.specs.Prelude.{nat_le, codes}
use Rattle.std.specs.List.{list_all, flat_map}
use Rattle.std.specs.Str.{bytes_eq}
use Rattle.std.proofs.lemmas.Bool.{and_parts, and_from, cond-true, cond-false}
use Rattle.std.proofs.lemmas.Bool.Decides.{nat_tests}
use Rattle.std.proofs.lemmas.List.{length-append, length-replicate}
use Rattle.std.proofs.lemmas.Nat.{mul-le}
use Rattle.text_core.specs.declared.place.Place.{Place}
use Rattle.text_core.specs.declared.place.Refusal.{Refusal}
use Rattle.text_core.specs.Places.{start, after}
use Rattle.smv_meaning.specs.declared.value.Value.{Value}
use Rattle.smv_meaning.specs.declared.value.Given.{Given}
use Rattle.smv_meaning.specs.declared.value.Run.{Run}
use Rattle.smv_items.specs.declared.items.ItemKind.{ItemKind}
use Rattle.smv_items.specs.declared.items.ItemKind.TheVariants as kind
use Rattle.smv_items.specs.FlatItems.{PlainFlatItem}
use Rattle.smv_trace_text.specs.Lines.{lines_of, behind_line}
use Rattle.smv_trace_text.specs.Texts.{is_input, has_inputs, value_line, heading_text, state_text, label_text, following_text, steps_text, claim_front, claim_back, trace_text}
use Rattle.smv_numbered.specs.declared.heading.Heading.{Heading}
use Rattle.smv_numbered.specs.declared.heading.Heading.TheVariants.{State, Input}
use Rattle.smv_numbered.specs.Stated.{Declarations, names_each, names_variables}
use Rattle.smv_numbered.specs.Values.{picks, given_if, values_of, nothing_stated}
use Rattle.smv_trace.specs.Reading.{Reading, lacks, lacks_state, labels_on, with_state, ended, most_states, most_values, variables_of, is_within, run_of, finished, begin}
use Rattle.smv_trace.specs.Texts.{lines_read, most_bytes}
use Rattle.smv_trace.specs.ReadBack.{ReadsBack}
use Rattle.smv_trace.proofs.Steps.{passed_step}
use Rattle.smv_trace.proofs.PrintedLines.{claim_line, claim_cut, claim_one_line, claim_passed}
use Rattle.smv_trace.proofs.Restated.{restated, restated_long, restated_values, others_kept, state_apart, picked, neither}
use Rattle.smv_trace.proofs.PrintedSteps.{IsTold, reading, ComesTo, line_read, values_read, state_line_read, label_line_read}
use Rattle.text_core.specs.Bytes.{is_empty}
use Rattle.text_core.specs.Answers.{go_on, refused}

-- ---- limits

within_parts : (d : Declarations) (n : ℕ) → is_within d n ≡ true → (n ≤ most_states) × (n * length (variables_of d.items) ≤ most_values)
within_parts d n h =
    let t = and_parts (nat_le n most_states) (nat_le (n * length (variables_of d.items)) most_values) h in
    (grind (arith, nat_tests, t.0), grind (arith, nat_tests, t.1))

within_less : (d : Declarations) (n m : ℕ) → n ≤ m → is_within d m ≡ true → is_within d n ≡ true
within_less d n m le h =
    let t = within_parts d m h in
    let v = length (variables_of d.items) in
    let less : n * v ≤ m * v = mul-le n v m v le (omega arith) in
    let few : n * v ≤ most_values = omega (arith, less, t.1) in
    let states : n ≤ most_states = omega (arith, le, t.0) in
    and_from (nat_le n most_states) (nat_le (n * v) most_values) (grind (arith, nat_tests, states)) (grind (arith, nat_tests, few))

within_small : (d : Declarations) (n : ℕ) → is_within d n ≡ true → n < 2 ^ 64
within_small d n h = let t = within_parts d n h in omega (arith, t.0)

-- ---- where a model has no inputs

no_inputs : (k : ItemKind) → is_input k ≡ false → picks Input k ≡ false
no_inputs kind.State h = refl
no_inputs kind.Frozen h = refl
no_inputs kind.Input h = absurd (let e : true ≡ false = h in cc)
no_inputs kind.Define h = refl
no_inputs kind.Actual h = refl

none_picked : (ms : List PlainFlatItem) → has_inputs ms ≡ false → picked Input ms ≡ []
none_picked [] h = refl
none_picked (m ∷ ms) h =
    let t = neither (is_input m.kind) (has_inputs ms) h in
    cond-false (picks Input m.kind) (m ∷ picked Input ms) (picked Input ms) (no_inputs m.kind t.0) ∙ none_picked ms t.1

none_given : (ms : List PlainFlatItem) (vs : List (Option Value)) → has_inputs ms ≡ false → (values_of Input ms vs ≡ []) × (lacks Input ms vs ≡ false)
none_given [] vs h = (refl, refl)
none_given (m ∷ ms) [] h = (refl, refl)
none_given (m ∷ ms) (v ∷ vs) h =
    let t = neither (is_input m.kind) (has_inputs ms) h in
    let k = none_given ms vs t.1 in
    let e = no_inputs m.kind t.0 in
    (ap (λ b. given_if b m.name v ++ values_of Input ms vs) e ∙ k.0, ap (λ b. (b && is_none v) || lacks Input ms vs) e ∙ k.1)

none_named : (d : Declarations) (l : List Given) → has_inputs d.items ≡ false → names_variables d Input l ≡ true → l ≡ []
none_named d l h e = go l (none_picked d.items h) e
  where
    go : (l : List Given) → picked Input d.items ≡ [] → names_variables d Input l ≡ true → l ≡ []
    go [] h e = refl
    go (g ∷ gs) h e = absurd (let f : false ≡ true = ap (λ ms. names_each d.symbols ms (g ∷ gs)) (sym h) ∙ e in cc)

-- ---- at the end of a state's values

-- the values of the last state are these, and so are the labels, with that which leads to it
record Stands (d : Declarations) (vs : List (Option Value)) (ss ls : List (List Given)) (s : List Given) (all : List (List Given)) : Type 0 where
  pub sized : length vs ≡ length d.items
  pub state : values_of State d.items vs ≡ s
  pub whole : lacks State d.items vs ≡ false
  pub labelled : (not (is_empty ss) && lacks Input d.items vs) ≡ false
  pub labels : cond (is_empty ss) ls (ls ++ values_of Input d.items vs ∷ []) ≡ all

state_ended : (d : Declarations) (next : Heading) (p : Place) (f : List ℕ) (vs : List (Option Value)) (ss ls : List (List Given)) (s : List Given) (all : List (List Given)) → Stands d vs ss ls s all
    → ended d next (Some State) (reading (Some State) p f vs ss ls) ≡ Ok (reading (Some State) p f vs (ss ++ s ∷ []) all)
state_ended d next p f vs ss ls s all k =
    let r = reading (Some State) p f vs ss ls in
    let none : lacks_state d r ≡ false = ap (λ b. b || (not (is_empty ss) && lacks Input d.items vs)) k.whole ∙ k.labelled in
    cond-false (lacks_state d r) (refused 4 p) (Ok (with_state d r)) none
    ∙ ap (λ x. Ok (reading (Some State) p f vs (ss ++ x ∷ []) (labels_on d r))) k.state ∙ ap (λ x. Ok (reading (Some State) p f vs (ss ++ s ∷ []) x)) k.labels

some_states : {X : Type 0} (xs : List X) (x : X) → is_empty (xs ++ x ∷ []) ≡ false
some_states [] x = refl
some_states (y ∷ ys) x = refl

-- a state behind others, with the label that leads to it
stands_next : (d : Declarations) (vs : List (Option Value)) (ss : List (List Given)) (ls : List (List Given)) (s x l : List Given) → length vs ≡ length d.items → values_of Input d.items vs ≡ l → lacks Input d.items vs ≡ false
    → names_variables d State x ≡ true → Stands d (restated State d.items vs x) (ss ++ s ∷ []) ls x (ls ++ l ∷ [])
stands_next d vs ss ls s x l sized given none named =
    let a = restated_values d.symbols State d.items vs x sized named in
    let b = others_kept State Input state_apart d.items vs x in
    let ws = restated State d.items vs x in
    record {
      sized = restated_long State d.items vs x ∙ sized;
      state = a.0;
      whole = a.1;
      labelled = ap (λ e. not e && lacks Input d.items ws) (some_states ss s) ∙ b.1 ∙ none;
      labels = ap (λ e. cond e ls (ls ++ values_of Input d.items ws ∷ [])) (some_states ss s) ∙ ap (λ v. ls ++ v ∷ []) (b.0 ∙ given);
    }

nothing_long : (ms : List PlainFlatItem) → length (nothing_stated ms) ≡ length ms
nothing_long ms = length-replicate (length ms) None

stands_first : (d : Declarations) (x : List Given) → names_variables d State x ≡ true → Stands d (restated State d.items (nothing_stated d.items) x) [] [] x []
stands_first d x named =
    let a = restated_values d.symbols State d.items (nothing_stated d.items) x (nothing_long d.items) named in
    record { sized = restated_long State d.items (nothing_stated d.items) x ∙ nothing_long d.items; state = a.0; whole = a.1; labelled = refl; labels = refl }

-- ---- a state, and a label

state_read : (d : Declarations) → IsTold d → (end : Place) (all : Result Run Refusal) (more : List ℕ) (n : ℕ) → 0 < n → is_within d n ≡ true
    → (r : Reading) (o : Option Heading) (p : Place) (f : List ℕ) (vs : List (Option Value)) (ss ls : List (List Given)) → ended d State r.heading r ≡ Ok (reading o p f vs ss ls)
    → (is_none o || bytes_eq (49 ∷ []) f) ≡ true → n ≡ length ss + 1 → length vs ≡ length d.items → (x : List Given) → names_variables d State x ≡ true
    → ((q : Place) → ComesTo d end all more (reading (Some State) q (49 ∷ []) (restated State d.items vs x) ss ls)) → ComesTo d end all (state_text n x ++ more) r
state_read d told end all more n some within r o p f vs ss ls e first is sized x named k =
    subst (λ l. ComesTo d end all l r) (sym (append_assoc (heading_text (codes "State") n) (flat_map value_line x) more))
    (state_line_read d end all (flat_map value_line x ++ more) n some (within_small d n within) r o p f vs ss ls e first is within
    (λ q. values_read d told end all more State q (49 ∷ []) ss ls d.items [] refl [] vs refl sized x named (k q)))

label_read : (d : Declarations) → IsTold d → (end : Place) (all : Result Run Refusal) (more : List ℕ) (n : ℕ) → 0 < n → n < 2 ^ 64
    → (r : Reading) (h : Heading) → r.heading ≡ Some h → (o : Option Heading) (p : Place) (f : List ℕ) (vs : List (Option Value)) (ss ls : List (List Given)) → ended d Input r.heading r ≡ Ok (reading o p f vs ss ls)
    → (is_none o || bytes_eq (49 ∷ []) f) ≡ true → n ≡ length ss + 1 → length vs ≡ length d.items → (x : List Given) → names_variables d Input x ≡ true
    → ((q : Place) → ComesTo d end all more (reading (Some Input) q (49 ∷ []) (restated Input d.items vs x) ss ls)) → ComesTo d end all (label_text true n x ++ more) r
label_read d told end all more n some small r h stands o p f vs ss ls e first is sized x named k =
    subst (λ l. ComesTo d end all l r) (sym (append_assoc (heading_text (codes "Input") n) (flat_map value_line x) more))
    (label_line_read d end all (flat_map value_line x ++ more) n some small r h stands o p f vs ss ls e first is
    (λ q. values_read d told end all more Input q (49 ∷ []) ss ls d.items [] refl [] vs refl sized x named (k q)))

-- ---- the states behind the first

abbrev the_run : List (List Given) → List (List Given) → Result Run Refusal
the_run states labels = Ok (record { states = states; labels = labels })

-- after a label, or where the model has none
label_ended : (d : Declarations) (p : Place) (vs : List (Option Value)) (ss ls : List (List Given)) → lacks Input d.items vs ≡ false
    → ended d State (Some Input) (reading (Some Input) p (49 ∷ []) vs ss ls) ≡ Ok (reading (Some Input) p (49 ∷ []) vs ss ls)
label_ended d p vs ss ls none = cond-false (lacks Input d.items vs) (refused 4 p) (Ok (reading (Some Input) p (49 ∷ []) vs ss ls)) none

step_read : (d : Declarations) → IsTold d → (end : Place) (all : Result Run Refusal) (more : List ℕ) (n : ℕ) → is_within d n ≡ true → (inputs : Bool) → has_inputs d.items ≡ inputs
    → (p : Place) (vs : List (Option Value)) (ss ls : List (List Given)) (s : List Given) (done : List (List Given)) → Stands d vs ss ls s done → n ≡ length ss + 2
    → (x l : List Given) → names_variables d State x ≡ true → names_variables d Input l ≡ true
    → ((q : Place) (ws : List (Option Value)) → Stands d ws (ss ++ s ∷ []) done x (done ++ l ∷ []) → ComesTo d end all more (reading (Some State) q (49 ∷ []) ws (ss ++ s ∷ []) done))
    → ComesTo d end all (label_text inputs n l ++ (state_text n x ++ more)) (reading (Some State) p (49 ∷ []) vs ss ls)
step_read d told end all more n within false has p vs ss ls s done stands is x l named labelled k =
    let longer = length-append ss (s ∷ []) in
    let none = none_given d.items vs has in
    state_read d told end all more n (omega (arith, is)) within (reading (Some State) p (49 ∷ []) vs ss ls) (Some State) p (49 ∷ []) vs (ss ++ s ∷ []) done
    (state_ended d State p (49 ∷ []) vs ss ls s done stands) refl (omega (arith, is, longer)) stands.sized x named
    (λ q. k q (restated State d.items vs x) (stands_next d vs ss done s x l stands.sized (none.0 ∙ sym (none_named d l has labelled)) none.1 named))
step_read d told end all more n within true has p vs ss ls s done stands is x l named labelled k =
    let longer = length-append ss (s ∷ []) in
    let ws = restated Input d.items vs l in
    let sized : length ws ≡ length d.items = restated_long Input d.items vs l ∙ stands.sized in
    let given = restated_values d.symbols Input d.items vs l stands.sized labelled in
    label_read d told end all (state_text n x ++ more) n (omega (arith, is)) (within_small d n within) (reading (Some State) p (49 ∷ []) vs ss ls) State refl (Some State) p (49 ∷ []) vs (ss ++ s ∷ []) done
    (state_ended d Input p (49 ∷ []) vs ss ls s done stands) refl (omega (arith, is, longer)) stands.sized l labelled
    (λ q. state_read d told end all more n (omega (arith, is)) within (reading (Some Input) q (49 ∷ []) ws (ss ++ s ∷ []) done) (Some Input) q (49 ∷ []) ws (ss ++ s ∷ []) done
    (label_ended d q ws (ss ++ s ∷ []) done given.1) refl (omega (arith, is, longer)) sized x named
    (λ q. k q (restated State d.items ws x) (stands_next d ws ss done s x l sized given.0 given.1 named)))

last_read : (d : Declarations) (end : Place) (p : Place) (vs : List (Option Value)) (ss ls : List (List Given)) (s : List Given) (done : List (List Given)) → Stands d vs ss ls s done
    → ComesTo d end (the_run (ss ++ s ∷ []) done) [] (reading (Some State) p (49 ∷ []) vs ss ls)
unfolding finished
last_read d end p vs ss ls s done stands at =
    ap (λ o. go_on o (lines_read d end (behind_line at []) [])) (passed_step d at [] (reading (Some State) p (49 ∷ []) vs ss ls) refl)
    ∙ ap (λ o. go_on o run_of) (state_ended d Input p (49 ∷ []) vs ss ls s done stands)

following_read : (d : Declarations) → IsTold d → (end : Place) (xs ls : List (List Given)) → length ls ≡ length xs → list_all (names_variables d State) xs ≡ true → list_all (names_variables d Input) ls ≡ true
    → (n : ℕ) (p : Place) (vs : List (Option Value)) (ss before : List (List Given)) (s : List Given) (done : List (List Given)) → Stands d vs ss before s done → n ≡ length ss + 2
    → is_within d (length ss + 1 + length xs) ≡ true
    → ComesTo d end (the_run (ss ++ s ∷ xs) (done ++ ls)) (following_text (has_inputs d.items) n xs ls) (reading (Some State) p (49 ∷ []) vs ss before)
following_read d told end [] [] same named labelled n p vs ss before s done stands is within =
    subst (λ l. ComesTo d end (the_run (ss ++ s ∷ []) l) [] (reading (Some State) p (49 ∷ []) vs ss before)) (sym (append-nil done)) (last_read d end p vs ss before s done stands)
following_read d told end (x ∷ xs) [] same named labelled n p vs ss before s done stands is within = absurd (omega (arith, same))
following_read d told end [] (l ∷ ls) same named labelled n p vs ss before s done stands is within = absurd (omega (arith, same))
following_read d told end (x ∷ xs) (l ∷ ls) same named labelled n p vs ss before s done stands is within =
    let t = and_parts (names_variables d State x) (list_all (names_variables d State) xs) named in
    let u = and_parts (names_variables d Input l) (list_all (names_variables d Input) ls) labelled in
    let longer = length-append ss (s ∷ []) in
    let there : length (ss ++ s ∷ []) + 1 + length xs ≡ length ss + 1 + length (x ∷ xs) = omega (arith, longer) in
    step_read d told end (the_run (ss ++ s ∷ (x ∷ xs)) (done ++ l ∷ ls)) (following_text (has_inputs d.items) (n + 1) xs ls) n
    (within_less d n (length ss + 1 + length (x ∷ xs)) (omega (arith, is)) within) (has_inputs d.items) refl p vs ss before s done stands is x l t.0 u.0
    (λ q ws k.
    subst (λ all. ComesTo d end all (following_text (has_inputs d.items) (n + 1) xs ls) (reading (Some State) q (49 ∷ []) ws (ss ++ s ∷ []) done))
    (ap (λ l2. the_run l2 ((done ++ l ∷ []) ++ ls)) (append_assoc ss (s ∷ []) (x ∷ xs)) ∙ ap (the_run (ss ++ s ∷ (x ∷ xs))) (append_assoc done (l ∷ []) ls))
    (following_read d told end xs ls (omega (arith, same)) t.1 u.1 (n + 1) q ws (ss ++ s ∷ []) done x (done ++ l ∷ []) k (omega (arith, is, longer)) (ap (is_within d) there ∙ within)))

-- ---- the whole

steps_read : (d : Declarations) → IsTold d → (end : Place) (s : List Given) (xs ls : List (List Given)) → length ls ≡ length xs → list_all (names_variables d State) (s ∷ xs) ≡ true
    → list_all (names_variables d Input) ls ≡ true → is_within d (1 + length xs) ≡ true → ComesTo d end (the_run (s ∷ xs) ls) (steps_text (has_inputs d.items) (s ∷ xs) ls) (begin d)
steps_read d told end s xs ls same named labelled within =
    let t = and_parts (names_variables d State s) (list_all (names_variables d State) xs) named in
    state_read d told end (the_run (s ∷ xs) ls) (following_text (has_inputs d.items) 2 xs ls) 1 (omega arith) (within_less d 1 (1 + length xs) (omega arith) within)
    (begin d) None start [] (nothing_stated d.items) [] [] refl refl refl (nothing_long d.items) s t.0
    (λ q. following_read d told end xs ls same t.1 labelled 2 q (restated State d.items (nothing_stated d.items) s) [] [] s [] (stands_first d s t.0) refl within)

claimed : (d : Declarations) (end : Place) (all : Result Run Refusal) (j n : ℕ) (more : List ℕ) (r : Reading) → ComesTo d end all more r → ComesTo d end all (claim_front j ++ (claim_back n ++ more)) r
claimed d end all j n more r k at =
    ap (λ l. lines_read d end at (lines_of l) r) (claim_cut j n more) ∙ line_read d end at (claim_line j n) more r r (claim_one_line j n) (passed_step d at _ r (claim_passed j n)) ∙ k (behind_line at (claim_line j n))

states_read : (d : Declarations) → IsTold d → (end : Place) (j : ℕ) (states labels : List (List Given)) → 1 ≤ length states → length labels + 1 ≡ length states
    → list_all (names_variables d State) states ≡ true → list_all (names_variables d Input) labels ≡ true → is_within d (length states) ≡ true
    → ComesTo d end (the_run states labels) (trace_text d.items j states labels) (begin d)
states_read d told end j [] labels some same named labelled within = absurd (omega (arith, some))
states_read d told end j (s ∷ xs) labels some same named labelled within =
    let more : 1 + length xs ≡ length (s ∷ xs) = omega arith in
    claimed d end (the_run (s ∷ xs) labels) j (length (s ∷ xs)) (steps_text (has_inputs d.items) (s ∷ xs) labels) (begin d)
    (steps_read d told end s xs labels (omega (arith, same)) named labelled (ap (is_within d) more ∙ within))

pub reads_back : (d : Declarations) → IsTold d → (j : ℕ) (run : Run) → ReadsBack d run (trace_text d.items j run.states run.labels)
reads_back d told j run stated short within =
    let text = trace_text d.items j run.states run.labels in
    let fits : nat_le (length text) most_bytes ≡ true = grind (arith, nat_tests, short) in
    cond-true (nat_le (length text) most_bytes) (lines_read d (after start text) start (lines_of text) (begin d)) (refused 5 start) fits
    ∙ states_read d told (after start text) j run.states run.labels stated.some stated.labels stated.states stated.inputs within start
