-- What is read names a query, and states a value of its sort for each variable, within the limits.
use Rattle.std.proofs.Common.{◌≡◌, ℕ, zero, suc, ◌+◌, ◌-◌, ◌*◌, ◌≤◌, ◌<◌, eqb, Bool, true, false, cond, not, ◌&&◌, Option, Some, None, List, [], ◌∷◌, ◌++◌, length, set, Result, Ok, Err, refl, sym, ap, ◌∙◌, subst, arith}
use Rattle.std.specs.Prelude.{slice_get, option_and_then, nat_le, IfOk}
use Rattle.std.specs.List.{AllByRecursion}
use Rattle.std.specs.Str.{bytes_eq}
use Rattle.std.proofs.lemmas.Bool.{leb-true, and_parts}
use Rattle.std.proofs.lemmas.Bool.Decides.{nat_tests}
use Rattle.std.proofs.lemmas.List.{length-append}
use Rattle.std.proofs.lemmas.List.Quantifiers.{position-Some}
use Rattle.std.proofs.lemmas.Option.{same_Some, none-some}
use Rattle.text_core.specs.declared.place.Place.{Place}
use Rattle.text_core.specs.declared.end.End.{End}
use Rattle.text_core.specs.Places.{start, next_place}
use Rattle.name_maps.specs.Names.{place_of}
use Rattle.moxi_sexpr.specs.Bytes.{is_blank}
use Rattle.moxi_terms.specs.declared.data.Sort.{Sort}
use Rattle.moxi_terms.specs.declared.data.Datum.{Datum}
use Rattle.moxi_terms.specs.declared.term.Enumeration.{Enumeration}
use Rattle.moxi_terms.specs.declared.term.Variable.{Variable}
use Rattle.moxi_terms.specs.Operators.{nothing}
use Rattle.moxi_terms.specs.Sorts.{IsOf, Fit}
use Rattle.moxi_terms.specs.Tree.{sorts_of}
use Rattle.moxi_trace.specs.declared.point.Answered.{Answered}
use Rattle.moxi_trace.specs.declared.point.Failing.{Failing}
use Rattle.moxi_trace.specs.declared.point.Point.{Point}
use Rattle.moxi_trace.specs.declared.point.Point.TheVariants as point
use Rattle.moxi_trace.specs.declared.tokens.Shape.{Shape}
use Rattle.moxi_trace.specs.declared.tokens.Shape.TheVariants as shape
use Rattle.moxi_trace.specs.Traces.{Declared, names_of, is_within, most_bytes}
use Rattle.moxi_trace.specs.Tokens.{Scan, token_of}
use Rattle.moxi_trace.specs.Values.{value_of}
use Rattle.moxi_trace.specs.Reading.{Reading, at_point, first_of, with_failing, settled_by, on_line, is_head_token, past_head, head_step, is_symbol, symbol_step, system_named, query_named, close_step, step_begun, steps_step, is_numeral, is_number, number_step, nothing_stated, lacks, values_of, tested, with_step, statements_step, is_stated, variable_named, variable_step, is_bracket, value_at, with_value, value_read, value_step, any_step, point_step, token_step, step, stray, is_whole, ended, finished, begin}
use Rattle.moxi_trace.specs.Responses.{Passing, behind, token_read, byte_read, answered, read_from, response_of, IsStatedResponse}
use Rattle.moxi_trace.proofs.Fits.{value_fits}
use Rattle.text_core.specs.Bytes.{is_empty}
use Rattle.text_core.specs.Answers.{refused, Answers}
use Rattle.text_core.proofs.AnswerLaws.{go_on_ok, taken, passed_by, none_refused, same_ok}

-- ---- results

some_none : {A : Type 0} (x : A) → Some x ≡ None → ⊥
some_none x e = none-some x (sym e)

-- ---- what is stated fits

abbrev CanAppear : List Enumeration → Sort → Option Datum → Type 0
CanAppear es s None = Unit {0}
CanAppear es s (Some x) = IsOf es s x

abbrev AreFit : List Enumeration → List Variable → List (Option Datum) → Type 0
AreFit es [] [] = Unit {0}
AreFit es [] (x ∷ xs) = ⊥
AreFit es (v ∷ vs) [] = ⊥
AreFit es (v ∷ vs) (x ∷ xs) = CanAppear es v.sort x × AreFit es vs xs

nothing_fits : (es : List Enumeration) (vs : List Variable) → AreFit es vs (nothing_stated vs)
nothing_fits es [] = tt
nothing_fits es (v ∷ vs) = (tt, nothing_fits es vs)

set_fits : (es : List Enumeration) (vs : List Variable) (xs : List (Option Datum)) (k : ℕ) (v : Variable) (x : Datum) → slice_get vs k ≡ Some v → IsOf es v.sort x → AreFit es vs xs → AreFit es vs (set xs k (Some x))
set_fits es [] [] k v x at c f = tt
set_fits es [] (y ∷ xs) k v x at c f = absurd f
set_fits es (w ∷ vs) [] k v x at c f = absurd f
set_fits es (w ∷ vs) (y ∷ xs) zero v x at c f = (subst (λ (u : Variable). IsOf es u.sort x) (sym (same_Some w v at)) c, f.1)
set_fits es (w ∷ vs) (y ∷ xs) (suc k) v x at c f = (f.0, set_fits es vs xs k v x at c f.1)

values_fit : (es : List Enumeration) (vs : List Variable) (xs : List (Option Datum)) → AreFit es vs xs → lacks xs ≡ false → Fit es (sorts_of vs) (values_of xs)
values_fit es [] [] f l = tt
values_fit es [] (x ∷ xs) f l = absurd f
values_fit es (v ∷ vs) [] f l = absurd f
values_fit es (v ∷ vs) (None ∷ xs) f l = absurd (let g : true ≡ false = l in cc)
values_fit es (v ∷ vs) (Some x ∷ xs) f l = (f.0, values_fit es vs xs f.1 l)

all_more : {A : Type 0} (P : A → Type 0) (xs : List A) (x : A) → AllByRecursion P xs → P x → AllByRecursion P (xs ++ x ∷ [])
all_more P [] x h c = (c, tt)
all_more P (y ∷ xs) x h c = (h.0, all_more P xs x h.1 c)

-- ---- readings

record IsGood (d : Declared) (r : Reading) : Type 0 where
  pub stated : AreFit d.enumerations d.variables r.stated
  pub steps : AllByRecursion (Fit d.enumerations (sorts_of d.variables)) r.steps

-- by what comes next, the query and how many steps are whole
abbrev HasQuery : Declared → ℕ → Type 0
HasQuery d q = q < length d.queries

abbrev Between : Declared → ℕ → ℕ → Type 0
Between d q n = HasQuery d q × (is_within d n ≡ true)

abbrev Inside : Declared → ℕ → ℕ → Type 0
Inside d q n = HasQuery d q × (is_within d (n + 1) ≡ true)

abbrev MayAppear : Declared → Point → ℕ → ℕ → Type 0
MayAppear d (point.Head k) q n = (n ≡ 0) × (4 ≤ k → HasQuery d q)
MayAppear d point.System q n = n ≡ 0
MayAppear d point.Query q n = n ≡ 0
MayAppear d point.Steps q n = Between d q n
MayAppear d point.Number q n = Inside d q n
MayAppear d point.Statements q n = Inside d q n
MayAppear d point.Variable q n = Inside d q n
MayAppear d (point.Value k) q n = Inside d q n
MayAppear d point.AnyValue q n = Inside d q n
MayAppear d point.Stated q n = Inside d q n
MayAppear d point.Last q n = Between d q n
MayAppear d point.Whole q n = Between d q n

-- where no test fails
abbrev ComesAt : Declared → Point → Reading → Type 0
ComesAt d p r = r.failing ≡ None → IsGood d r × MayAppear d p r.query (length r.steps)

abbrev IsSound : Declared → Reading → Type 0
IsSound d r = ComesAt d r.point r

failing_sound : (d : Declared) (n : ℕ) (at : Place) (r : Reading) → IsSound d (with_failing n at r)
failing_sound d n at r e = absurd (some_none (first_of (record { number = n; place = at }) r.failing) e)

moved : (d : Declared) (p q : Point) (r : Reading) → (MayAppear d p r.query (length r.steps) → MayAppear d q r.query (length r.steps)) → ComesAt d p r → IsSound d (at_point q r)
moved d p q r f s e = let h = s e in (record { stated = h.0.stated; steps = h.0.steps }, f h.1)

at_four : (n : ℕ) → eqb n 3 ≡ false → 4 ≤ n + 1 → 4 ≤ n
at_four n e h = grind (arith, nat_tests)

zero_within : (n : ℕ) → nat_le (0 * n) 4000000 ≡ true
zero_within n = grind (arith, nat_tests)

within_none : (d : Declared) (n : ℕ) → n ≡ 0 → is_within d n ≡ true
within_none d n e = subst (λ (m : ℕ). is_within d m ≡ true) (sym e) (zero_within (length d.variables))

past_may : (d : Declared) (k q n : ℕ) → MayAppear d (point.Head k) q n → MayAppear d (past_head k) q n
past_may d k q n m = go (eqb k 1) (eqb k 3) refl (nat_le 17 k) refl
  where
    go : (a b : Bool) → eqb k 3 ≡ b → (c : Bool) → nat_le 17 k ≡ c → MayAppear d (cond a point.System (cond b point.Query (cond c point.Steps (point.Head (k + 1))))) q n
    go true b f c g = m.0
    go false true f c g = m.0
    go false false f true g = (m.1 (omega (arith, leb-true 17 k g)), within_none d n m.0)
    go false false f false g = (m.0, λ h. m.1 (at_four k f h))

head_sound : (d : Declared) (k : ℕ) (s : Shape) (bytes : List ℕ) (at : Place) (r q : Reading) → ComesAt d (point.Head k) r → head_step k s bytes at r ≡ Ok q → IsSound d q
head_sound d k s bytes at r q h e =
    let t = taken (is_head_token k s bytes) (Ok (at_point (past_head k) r)) 1 at q e in
    subst (IsSound d) (same_ok (at_point (past_head k) r) q t.1) (moved d (point.Head k) (past_head k) r (past_may d k r.query (length r.steps)) h)

no_query : (d : Declared) (q : ℕ) → 4 ≤ 2 → HasQuery d q
no_query d q h = absurd (let g : 4 ≤ 2 = h in omega (arith, g))

system_sound : (d : Declared) (s : Shape) (bytes : List ℕ) (at : Place) (r q : Reading) → ComesAt d point.System r → symbol_step s at (system_named d bytes at (at_point (point.Head 2) r)) ≡ Ok q → IsSound d q
system_sound d s bytes at r q h e =
    let r2 = at_point (point.Head 2) r in
    let t = taken (is_symbol s) (Ok (system_named d bytes at r2)) 1 at q e in
    subst (IsSound d) (same_ok (system_named d bytes at r2) q t.1) (go (bytes_eq bytes d.system))
  where
    go : (b : Bool) → IsSound d (cond b (at_point (point.Head 2) r) (with_failing 2 at (at_point (point.Head 2) r)))
    go true = moved d point.System (point.Head 2) r (λ m. (m, no_query d r.query)) h
    go false = failing_sound d 2 at (at_point (point.Head 2) r)

query_sound : (d : Declared) (s : Shape) (bytes : List ℕ) (at : Place) (r q : Reading) → ComesAt d point.Query r → symbol_step s at (query_named (place_of d.queries bytes) at (at_point (point.Head 4) r)) ≡ Ok q → IsSound d q
query_sound d s bytes at r q h e =
    let r2 = at_point (point.Head 4) r in
    let t = taken (is_symbol s) (Ok (query_named (place_of d.queries bytes) at r2)) 1 at q e in
    subst (IsSound d) (same_ok (query_named (place_of d.queries bytes) at r2) q t.1) (go (place_of d.queries bytes) refl)
  where
    go : (o : Option ℕ) → place_of d.queries bytes ≡ o → IsSound d (query_named o at (at_point (point.Head 4) r))
    go None p = failing_sound d 2 at (at_point (point.Head 4) r)
    go (Some k) p = λ n. (let g = h n in (record { stated = g.0.stated; steps = g.0.steps }, (g.1, λ m. (position-Some (bytes_eq bytes) d.queries k [] p).0)))

steps_sound : (d : Declared) (s : Shape) (at : Place) (r q : Reading) → ComesAt d point.Steps r → steps_step d s at r ≡ Ok q → IsSound d q
steps_sound d shape.Open at r q h e = subst (IsSound d) (same_ok (step_begun d at r) q e) (go (is_within d (length r.steps + 1)) refl)
  where
    go : (b : Bool) → is_within d (length r.steps + 1) ≡ b → IsSound d (cond b (at_point point.Number (record r { step = at })) (with_failing 5 at (at_point point.Number (record r { step = at }))))
    go true w = λ n. (let g = h n in (record { stated = g.0.stated; steps = g.0.steps }, (g.1.0, w)))
    go false w = failing_sound d 5 at (at_point point.Number (record r { step = at }))
steps_sound d shape.Close at r q h e = subst (IsSound d) (same_ok (at_point point.Last r) q e) (moved d point.Steps point.Last r (λ m. m) h)
steps_sound d shape.Symbol at r q h e = absurd (none_refused 1 at q e)
steps_sound d shape.Keyword at r q h e = absurd (none_refused 1 at q e)
steps_sound d shape.Numeral at r q h e = absurd (none_refused 1 at q e)
steps_sound d shape.Binary at r q h e = absurd (none_refused 1 at q e)
steps_sound d shape.Other at r q h e = absurd (none_refused 1 at q e)

number_sound : (d : Declared) (s : Shape) (digits : List ℕ) (at : Place) (r q : Reading) → ComesAt d point.Number r → number_step s digits at r ≡ Ok q → IsSound d q
number_sound d s digits at r q h e =
    let t = taken (is_numeral s && is_number (length r.steps) digits) (Ok (at_point point.Statements r)) 1 at q e in
    subst (IsSound d) (same_ok (at_point point.Statements r) q t.1) (moved d point.Number point.Statements r (λ m. m) h)

ended_step_sound : (d : Declared) (r : Reading) → ComesAt d point.Statements r → IsSound d (with_step d (tested r))
ended_step_sound d r h = go (lacks r.stated) refl
  where
    long : (x : List Datum) → length (r.steps ++ x ∷ []) ≡ length r.steps + 1
    long x = length-append r.steps (x ∷ [])

    go : (b : Bool) → lacks r.stated ≡ b → IsSound d (with_step d (cond b (with_failing 4 r.step r) r))
    go true l = λ n. absurd (some_none (first_of (record { number = 4; place = r.step }) r.failing) n)
    go false l = λ n. (let g = h n in (
      record {
        stated = nothing_fits d.enumerations d.variables;
        steps = all_more (Fit d.enumerations (sorts_of d.variables)) r.steps (values_of r.stated) g.0.steps (values_fit d.enumerations d.variables r.stated g.0.stated l);
      },
      (g.1.0, ap (is_within d) (long (values_of r.stated)) ∙ g.1.1),
    ))

statements_sound : (d : Declared) (s : Shape) (at : Place) (r q : Reading) → ComesAt d point.Statements r → statements_step d s at r ≡ Ok q → IsSound d q
statements_sound d shape.Open at r q h e = subst (IsSound d) (same_ok (at_point point.Variable r) q e) (moved d point.Statements point.Variable r (λ m. m) h)
statements_sound d shape.Close at r q h e = subst (IsSound d) (same_ok (with_step d (tested r)) q e) (ended_step_sound d r h)
statements_sound d shape.Symbol at r q h e = absurd (none_refused 1 at q e)
statements_sound d shape.Keyword at r q h e = absurd (none_refused 1 at q e)
statements_sound d shape.Numeral at r q h e = absurd (none_refused 1 at q e)
statements_sound d shape.Binary at r q h e = absurd (none_refused 1 at q e)
statements_sound d shape.Other at r q h e = absurd (none_refused 1 at q e)

named_sound : (d : Declared) (o : Option ℕ) (at : Place) (r q : Reading) → ComesAt d point.Variable r → variable_named o at r ≡ Ok q → IsSound d q
named_sound d None at r q h e = subst (IsSound d) (same_ok (with_failing 2 at (at_point point.AnyValue r)) q e) (failing_sound d 2 at (at_point point.AnyValue r))
named_sound d (Some k) at r q h e =
    let t = passed_by (is_stated r.stated k) (Ok (at_point (point.Value k) r)) 1 at q e in
    subst (IsSound d) (same_ok (at_point (point.Value k) r) q t.1) (moved d point.Variable (point.Value k) r (λ m. m) h)

variable_sound : (d : Declared) (s : Shape) (name : List ℕ) (at : Place) (r q : Reading) → ComesAt d point.Variable r → variable_step d s name at r ≡ Ok q → IsSound d q
variable_sound d s name at r q h e =
    let t = taken (is_symbol s) (variable_named (place_of (names_of d.variables) name) at r) 1 at q e in
    named_sound d (place_of (names_of d.variables) name) at r q h t.1

at_variable : (d : Declared) (s : Shape) (bytes : List ℕ) (o : Option Variable) (x : Datum) → option_and_then (λ (v : Variable). value_of d.enumerations v.sort s bytes) o ≡ Some x → (v : Variable) × (o ≡ Some v) × IsOf d.enumerations v.sort x
at_variable d s bytes None x e = absurd (none-some x e)
at_variable d s bytes (Some v) x e = (v, refl, value_fits d.enumerations v.sort s bytes x e)

value_sound : (d : Declared) (k : ℕ) (s : Shape) (bytes : List ℕ) (at : Place) (r q : Reading) → ComesAt d (point.Value k) r → value_step d k s bytes at r ≡ Ok q → IsSound d q
value_sound d k s bytes at r q h e =
    let t = passed_by (is_bracket s) (Ok (value_read k (value_at d k s bytes) at r)) 1 at q e in
    subst (IsSound d) (same_ok (value_read k (value_at d k s bytes) at r) q t.1) (go (value_at d k s bytes) refl)
  where
    go : (o : Option Datum) → value_at d k s bytes ≡ o → IsSound d (value_read k o at r)
    go None v = failing_sound d 3 at (with_value k nothing r)
    go (Some x) v = λ n. (let g = h n in let w = at_variable d s bytes (slice_get d.variables k) x v in
        (record { stated = set_fits d.enumerations d.variables r.stated k w.0 x w.1 w.2 g.0.stated; steps = g.0.steps }, g.1))

any_sound : (d : Declared) (s : Shape) (at : Place) (r q : Reading) → ComesAt d point.AnyValue r → any_step s at r ≡ Ok q → IsSound d q
any_sound d s at r q h e =
    let t = passed_by (is_bracket s) (Ok (at_point point.Stated r)) 1 at q e in
    subst (IsSound d) (same_ok (at_point point.Stated r) q t.1) (moved d point.AnyValue point.Stated r (λ m. m) h)

close_sound : (d : Declared) (p n : Point) (s : Shape) (at : Place) (r q : Reading) → (MayAppear d p r.query (length r.steps) → MayAppear d n r.query (length r.steps)) → ComesAt d p r → close_step n s at r ≡ Ok q → IsSound d q
close_sound d p n shape.Close at r q f h e = subst (IsSound d) (same_ok (at_point n r) q e) (moved d p n r f h)
close_sound d p n shape.Open at r q f h e = absurd (none_refused 1 at q e)
close_sound d p n shape.Symbol at r q f h e = absurd (none_refused 1 at q e)
close_sound d p n shape.Keyword at r q f h e = absurd (none_refused 1 at q e)
close_sound d p n shape.Numeral at r q f h e = absurd (none_refused 1 at q e)
close_sound d p n shape.Binary at r q f h e = absurd (none_refused 1 at q e)
close_sound d p n shape.Other at r q f h e = absurd (none_refused 1 at q e)

point_sound : (d : Declared) (p : Point) (s : Shape) (bytes : List ℕ) (at : Place) (r q : Reading) → ComesAt d p r → point_step d p s bytes at r ≡ Ok q → IsSound d q
point_sound d (point.Head k) s bytes at r q h e = head_sound d k s bytes at r q h e
point_sound d point.System s bytes at r q h e = system_sound d s bytes at r q h e
point_sound d point.Query s bytes at r q h e = query_sound d s bytes at r q h e
point_sound d point.Steps s bytes at r q h e = steps_sound d s at r q h e
point_sound d point.Number s bytes at r q h e = number_sound d s bytes at r q h e
point_sound d point.Statements s bytes at r q h e = statements_sound d s at r q h e
point_sound d point.Variable s bytes at r q h e = variable_sound d s bytes at r q h e
point_sound d (point.Value k) s bytes at r q h e = value_sound d k s bytes at r q h e
point_sound d point.AnyValue s bytes at r q h e = any_sound d s at r q h e
point_sound d point.Stated s bytes at r q h e = close_sound d point.Stated point.Statements s at r q (λ m. m) h e
point_sound d point.Last s bytes at r q h e = close_sound d point.Last point.Whole s at r q (λ m. m) h e
point_sound d point.Whole s bytes at r q h e = absurd (none_refused 1 at q e)

-- ---- lines

settled_is : (o : Option Failing) (r q : Reading) → settled_by o r ≡ Ok q → (o ≡ None) × (r ≡ q)
settled_is None r q e = (refl, same_ok r q e)
settled_is (Some f) r q e = absurd (none_refused f.number f.place q e)

line_sound : (d : Declared) (line : ℕ) (r q : Reading) → IsSound d r → on_line line r ≡ Ok q → IsSound d q
line_sound d line r q h e = go (eqb line r.line) e
  where
    go : (b : Bool) → cond b (Ok r) (settled_by r.failing (record r { line = line })) ≡ Ok q → IsSound d q
    go true e = subst (IsSound d) (same_ok r q e) h
    go false e = subst (IsSound d) (settled_is r.failing (record r { line = line }) q e).1 (λ n. (let g = h n in (record { stated = g.0.stated; steps = g.0.steps }, g.1)))

step_sound : (d : Declared) (s : Shape) (bytes : List ℕ) (at : Place) (r q : Reading) → IsSound d r → step d s bytes at r ≡ Ok q → IsSound d q
unfolding step
step_sound d s bytes at r q h e =
    let t = go_on_ok (on_line at.line r) (token_step d s bytes at) q e in
    point_sound d t.0.point s bytes at t.0 q (line_sound d at.line r t.0 h t.1) t.2

no_stray : (at : Place) (r q : Reading) → stray at r ≡ Ok q → ⊥
unfolding stray
no_stray at r q e = let t = go_on_ok (on_line at.line r) (λ x. refused 1 at) q e in none_refused 1 at q t.2

-- ---- texts

behind_sound : (d : Declared) (n : ℕ) (r : Reading) (y : Passing) → IsSound d r → behind n r ≡ Ok y → IsSound d y.1
behind_sound d n r y h e = subst (λ (y : Passing). IsSound d y.1) (same_ok (n, r) y e) h

token_sound : (d : Declared) (at : Place) (bs : List ℕ) (r : Reading) (t : Scan) (y : Passing) → IsSound d r → token_read d at bs r t ≡ Ok y → IsSound d y.1
token_sound d at bs r None y h e = let t = go_on_ok (stray at r) (behind 0) y e in absurd (no_stray at r t.0 t.1)
token_sound d at bs r (Some x) y h e =
    let n = length bs - length x.2 in
    let t = go_on_ok (step d x.0 x.1 at r) (behind n) y e in
    behind_sound d n t.0 y (step_sound d x.0 x.1 at r t.0 h t.1) t.2

byte_sound : (d : Declared) (at : Place) (b : ℕ) (bs : List ℕ) (x y : Passing) → IsSound d x.1 → byte_read d at b bs x ≡ Ok y → IsSound d y.1
byte_sound d at b bs x y h e = go (eqb x.0 0) (is_blank b) e
  where
    go : (z w : Bool) → cond z (cond w (behind 0 x.1) (token_read d at bs x.1 (token_of (b ∷ bs)))) (behind (x.0 - 1) x.1) ≡ Ok y → IsSound d y.1
    go true true e = behind_sound d 0 x.1 y h e
    go true false e = token_sound d at bs x.1 (token_of (b ∷ bs)) y h e
    go false w e = behind_sound d (x.0 - 1) x.1 y h e

whole_may : (d : Declared) (p : Point) (q n : ℕ) → is_whole p ≡ true → MayAppear d p q n → Between d q n
whole_may d point.Whole q n e m = m
whole_may d (point.Head k) q n e m = absurd (let g : false ≡ true = e in cc)
whole_may d point.System q n e m = absurd (let g : false ≡ true = e in cc)
whole_may d point.Query q n e m = absurd (let g : false ≡ true = e in cc)
whole_may d point.Steps q n e m = absurd (let g : false ≡ true = e in cc)
whole_may d point.Number q n e m = absurd (let g : false ≡ true = e in cc)
whole_may d point.Statements q n e m = absurd (let g : false ≡ true = e in cc)
whole_may d point.Variable q n e m = absurd (let g : false ≡ true = e in cc)
whole_may d (point.Value k) q n e m = absurd (let g : false ≡ true = e in cc)
whole_may d point.AnyValue q n e m = absurd (let g : false ≡ true = e in cc)
whole_may d point.Stated q n e m = absurd (let g : false ≡ true = e in cc)
whole_may d point.Last q n e m = absurd (let g : false ≡ true = e in cc)

some_steps : (steps : List (List Datum)) → not (is_empty steps) ≡ true → 1 ≤ length steps
some_steps [] e = absurd (let g : false ≡ true = e in cc)
some_steps (s ∷ ss) e = omega arith

abbrev as_answer : Reading → Answered
as_answer r = record { query = r.query; trace = r.steps }

ended_good : (d : Declared) (end : Place) (r q : Reading) → IsSound d r → ended end r ≡ Ok q → IsStatedResponse d (as_answer q)
ended_good d end r q h e =
    let t = taken (is_whole r.point && not (is_empty r.steps)) (settled_by r.failing r) 1 end q e in
    let both = and_parts (is_whole r.point) (not (is_empty r.steps)) t.0 in
    let s = settled_is r.failing r q t.1 in
    let g = h s.0 in
    let m = whole_may d r.point r.query (length r.steps) both.0 g.1 in
    subst (λ (x : Reading). IsStatedResponse d (as_answer x)) s.1
    (record { query = m.0; trace = record { some = some_steps r.steps both.1; fit = g.0.steps }; within = m.1 })

finished_good : (d : Declared) (end : Place) (r q : Reading) → IsSound d r → finished end r ≡ Ok q → IsStatedResponse d (as_answer q)
unfolding finished
finished_good d end r q h e =
    let t = go_on_ok (on_line end.line r) (ended end) q e in
    ended_good d end t.0 q (line_sound d end.line r t.0 h t.1) t.2

read_good : (text : List ℕ) (d : Declared) (at : Place) (x : Passing) (answer : Answered) → IsSound d x.1 → read_from d at text x ≡ Ok answer → IsStatedResponse d answer
read_good [] d at x answer h e =
    let t = go_on_ok (finished at x.1) answered answer e in
    subst (IsStatedResponse d) (same_ok (as_answer t.0) answer t.2) (finished_good d at x.1 t.0 h t.1)
read_good (b ∷ bs) d at x answer h e =
    let t = go_on_ok (byte_read d at b bs x) (read_from d (next_place at b) bs) answer e in
    read_good bs d (next_place at b) t.0 answer (byte_sound d at b bs x t.0 h t.1) t.2

begin_sound : (d : Declared) → IsSound d (begin d)
begin_sound d n = (record { stated = nothing_fits d.enumerations d.variables; steps = tt }, (refl, λ h. absurd (let g : 4 ≤ 0 = h in omega (arith, g))))

pub response_good : (d : Declared) (text : List ℕ) (answer : Answered) → response_of d text ≡ Ok answer → IsStatedResponse d answer
response_good d text answer e =
    let t = taken (nat_le (length text) most_bytes) (read_from d start text (0, begin d)) 5 start answer e in
    read_good text d start (0, begin d) answer (begin_sound d) t.1

-- the same of what the reader answers
pub stated_from : (d : Declared) (text : List ℕ) (r : Result Answered End) → Answers (response_of d text) r → IfOk r (IsStatedResponse d)
stated_from d text (Ok answer) h = response_good d text answer h
stated_from d text (Err e) h = tt
