-- The statements and the steps of a printed response are read.
use Rattle.std.proofs.Common.{◌≡◌, ℕ, suc, ◌+◌, ◌*◌, ◌≤◌, ◌<◌, true, false, leb, Option, Some, None, List, [], ◌∷◌, ◌++◌, length, map, Ok, refl, sym, ap, ◌∙◌, subst, arith}
use Rattle.std.specs.Prelude.{decimal, slice_get, is_some}
use Rattle.std.specs.List.{AllByRecursion}
use Rattle.std.proofs.lemmas.Bool.{cond-true, cond-false, and_parts, and_from, leb-true, le-leb}
use Rattle.std.proofs.lemmas.Nat.{mul-le}
use Rattle.std.proofs.lemmas.Slice.Eq.{bytes_eq-Decides}
use Rattle.std.proofs.lemmas.List.{append_assoc, length-append, append-nil}
use Rattle.std.proofs.Math.Seq.{set-append_seam, get_or-append_seam}
use Rattle.text_core.specs.Bytes.{is_digit, without_zeros}
use Rattle.moxi_sexpr.specs.Atoms.{is_run}
use Rattle.moxi_term_print.proofs.StandingNumbers.{decimal_run}
use Rattle.moxi_terms.specs.declared.data.Datum.{Datum}
use Rattle.moxi_terms.specs.declared.term.Variable.{Variable}
use Rattle.moxi_terms.specs.Sorts.{IsOf, Fit}
use Rattle.moxi_terms.specs.Tree.{sorts_of}
use Rattle.moxi_trace.specs.declared.point.Point.TheVariants as point
use Rattle.moxi_trace.specs.declared.tokens.Shape.TheVariants as shape
use Rattle.moxi_trace.specs.Traces.{Declared, is_within, most_steps, most_values}
use Rattle.moxi_trace.specs.Texts.{symbol_text, value_text, statement_text, statements_text, step_text, steps_text}
use Rattle.moxi_trace.specs.Tokens.{token_of}
use Rattle.moxi_trace.specs.ReadBack.{CanBeReadBack}
use Rattle.moxi_trace.specs.Reading.{at_point, is_stated, variable_named, is_number, with_failing, with_step, nothing_stated, lacks, values_of}
use Rattle.moxi_trace.proofs.Spelled.{Parts, blank_parts, closing_parts, opening_token, closing_token, numeral_token}
use Rattle.moxi_trace.proofs.Going.{Standing, reading, Goes, goes_then, Leads, goes_token, goes_blank}
use Rattle.moxi_trace.proofs.Head.{here}
use Rattle.moxi_trace.proofs.Trail.{goes_word, goes_symbol, goes_value}

abbrev Stated : Type 0
Stated = List (Option Datum)

abbrev Steps : Type 0
Steps = List (List Datum)

goes_open : (d : Declared) (rest : List ℕ) (c e : Standing) → Leads d shape.Open [] c e → Goes d (40 ∷ rest) c rest e
goes_open d rest c e l = goes_token d 40 [] rest [] shape.Open c e refl (opening_token rest) l

pub goes_close : (d : Declared) (rest : List ℕ) (c e : Standing) → Leads d shape.Close [] c e → Goes d (41 ∷ rest) c rest e
goes_close d rest c e l = goes_token d 41 [] rest [] shape.Close c e refl (closing_token rest) l

-- ---- one statement

unstated : (front : Stated) (rest : Stated) → is_stated (front ++ None ∷ rest) (length front) ≡ false
unstated front rest = ap is_some (get_or-append_seam front None rest None)

names_variable : (d : Declared) (can : CanBeReadBack d) (q : ℕ) (v : Variable) (front rest : Stated) (ss : Steps) → slice_get d.variables (length front) ≡ Some v
    → Leads d shape.Symbol v.name (here point.Variable q (front ++ None ∷ rest) ss) (here (point.Value (length front)) q (front ++ None ∷ rest) ss)
names_variable d can q v front rest ss at s =
    let r = reading s (here point.Variable q (front ++ None ∷ rest) ss) in
    let known = (can.variables (length front) v at).1 in
    (s, ap (λ o. variable_named o s.at r) known ∙ cond-false (is_stated (front ++ None ∷ rest) (length front)) _ _ (unstated front rest))

statement_is : (d : Declared) (v : Variable) (x : Datum) (more : List ℕ) → statement_text d.enumerations v x ++ more ≡ 32 ∷ 40 ∷ (symbol_text v.name ++ 32 ∷ (value_text d.enumerations x ++ 41 ∷ more))
statement_is d v x more =
    let name = symbol_text v.name in
    let value = value_text d.enumerations x in
    ap (λ (t : List ℕ). 32 ∷ 40 ∷ t) (append_assoc name (32 ∷ (value ++ 41 ∷ [])) more ∙ ap (λ (t : List ℕ). name ++ 32 ∷ t) (append_assoc value (41 ∷ []) more))

goes_statement : (d : Declared) (can : CanBeReadBack d) (q : ℕ) (v : Variable) (x : Datum) (more : List ℕ) (front rest : Stated) (ss : Steps) → slice_get d.variables (length front) ≡ Some v → IsOf d.enumerations v.sort x
    → Goes d (32 ∷ 40 ∷ (symbol_text v.name ++ 32 ∷ (value_text d.enumerations x ++ 41 ∷ more))) (here point.Statements q (front ++ None ∷ rest) ss) more (here point.Statements q (front ++ Some x ∷ rest) ss)
goes_statement d can q v x more front rest ss at h =
    let k = length front in
    let vs = front ++ None ∷ rest in
    let ws = front ++ Some x ∷ rest in
    let c1 = here point.Statements q vs ss in
    let c2 = here point.Variable q vs ss in
    let c3 = here (point.Value k) q vs ss in
    let c4 = here point.Stated q ws ss in
    let c5 = here point.Statements q ws ss in
    let value = value_text d.enumerations x ++ 41 ∷ more in
    let name = symbol_text v.name ++ 32 ∷ value in
    let a = goes_blank d 32 (40 ∷ name) c1 refl in
    let b = goes_open d name c1 c2 (λ s. (s, refl)) in
    let c = goes_symbol d v.name 32 value c2 c3 (can.variables k v at).0 blank_parts (names_variable d can q v front rest ss at) in
    let e = goes_blank d 32 value c3 refl in
    let f : Goes d value c3 (41 ∷ more) c4 = subst (λ (us : Stated). Goes d value c3 (41 ∷ more) (here point.Stated q us ss)) (set-append_seam front None rest (Some x)) (goes_value d can k q v v.sort x more vs ss at refl h) in
    let g = goes_close d more c4 c5 (λ s. (s, refl)) in
    goes_then d (32 ∷ 40 ∷ name) (40 ∷ name) more c1 c1 c5 a
    (goes_then d (40 ∷ name) name more c1 c2 c5 b
    (goes_then d name (32 ∷ value) more c2 c3 c5 c
    (goes_then d (32 ∷ value) value more c3 c3 c5 e (goes_then d value (41 ∷ more) more c3 c4 c5 f g))))

-- ---- all statements

goes_statements : (d : Declared) (can : CanBeReadBack d) (q : ℕ) (vs : List Variable) (xs : List Datum) (more : List ℕ) (front : Stated) (ss : Steps)
    → ((j : ℕ) (v : Variable) → slice_get vs j ≡ Some v → slice_get d.variables (length front + j) ≡ Some v) → Fit d.enumerations (sorts_of vs) xs
    → Goes d (statements_text d.enumerations vs xs ++ more) (here point.Statements q (front ++ nothing_stated vs) ss) more (here point.Statements q (front ++ map Some xs) ss)
goes_statements d can q [] [] more front ss h f = λ s. (s, refl)
goes_statements d can q [] (x ∷ xs) more front ss h f = absurd f
goes_statements d can q (v ∷ vs) [] more front ss h f = absurd f
goes_statements d can q (v ∷ vs) (x ∷ xs) more front ss h f =
    let here_is : slice_get d.variables (length front) ≡ Some v = (let n : length front + 0 ≡ length front = omega arith in ap (slice_get d.variables) (sym n) ∙ h 0 v refl) in
    let later = statements_text d.enumerations vs xs ++ more in
    let next = front ++ Some x ∷ [] in
    let long : length next ≡ length front + 1 = length-append front (Some x ∷ []) in
    let c1 = here point.Statements q (front ++ None ∷ nothing_stated vs) ss in
    let c2 = here point.Statements q (front ++ Some x ∷ nothing_stated vs) ss in
    let c3 = here point.Statements q (front ++ Some x ∷ map Some xs) ss in
    let first = goes_statement d can q v x later front (nothing_stated vs) ss here_is f.0 in
    let rest = goes_statements d can q vs xs more next ss (λ j w e. (let n : length next + j ≡ length front + suc j = omega (arith, long) in ap (slice_get d.variables) n ∙ h (suc j) w e)) f.1 in
    let moved : Goes d later c2 more c3 =
    subst (λ (us : Stated). Goes d later (here point.Statements q us ss) more c3) (append_assoc front (Some x ∷ []) (nothing_stated vs))
    (subst (λ (us : Stated). Goes d later (here point.Statements q (next ++ nothing_stated vs) ss) more (here point.Statements q us ss)) (append_assoc front (Some x ∷ []) (map Some xs)) rest) in
    let whole = goes_then d (32 ∷ 40 ∷ (symbol_text v.name ++ 32 ∷ (value_text d.enumerations x ++ 41 ∷ later))) later more c1 c2 c3 first moved in
    subst (λ (t : List ℕ). Goes d t c1 more c3) (sym (append_assoc (statement_text d.enumerations v x) (statements_text d.enumerations vs xs) more ∙ statement_is d v x later)) whole

-- ---- one step

lacks_none : (xs : List Datum) → lacks (map Some xs) ≡ false
lacks_none [] = refl
lacks_none (x ∷ xs) = lacks_none xs

values_back : (xs : List Datum) → values_of (map Some xs) ≡ xs
values_back [] = refl
values_back (x ∷ xs) = ap (λ ys. x ∷ ys) (values_back xs)

ends_step : (d : Declared) (q : ℕ) (xs : List Datum) (ss : Steps) → Leads d shape.Close [] (here point.Statements q (map Some xs) ss) (here point.Steps q (nothing_stated d.variables) (ss ++ xs ∷ []))
ends_step d q xs ss s =
    let r = reading s (here point.Statements q (map Some xs) ss) in (
      s,
      ap (λ x. Ok (with_step d x)) (cond-false (lacks (map Some xs)) (with_failing 4 s.step r) r (lacks_none xs))
          ∙ ap (λ ys. Ok (reading s (here point.Steps q (nothing_stated d.variables) (ss ++ ys ∷ [])))) (values_back xs),
    )

begins_step : (d : Declared) (q : ℕ) (vs : Stated) (ss : Steps) → is_within d (length ss + 1) ≡ true → Leads d shape.Open [] (here point.Steps q vs ss) (here point.Number q vs ss)
begins_step d q vs ss w s =
    let r = reading s (here point.Steps q vs ss) in
    (record s { step = s.at }, ap Ok (cond-true (is_within d (length ss + 1)) (at_point point.Number (record r { step = s.at })) (with_failing 5 s.at (at_point point.Number (record r { step = s.at }))) w))

numbers_step : (d : Declared) (q : ℕ) (vs : Stated) (ss : Steps) → Leads d shape.Numeral (decimal (length ss)) (here point.Number q vs ss) (here point.Statements q vs ss)
numbers_step d q vs ss s =
    let digits = decimal (length ss) in
    (s, cond-true (is_number (length ss) digits) _ _ ((bytes_eq-Decides (without_zeros digits) (without_zeros digits)).1 refl))

-- what is behind a step's number
abbrev Follows : List ℕ → Type 0
Follows text = (b : ℕ) × (rest : List ℕ) × (text ≡ b ∷ rest) × Parts b

follows : (d : Declared) (vs : List Variable) (xs : List Datum) (more : List ℕ) → Follows (statements_text d.enumerations vs xs ++ 41 ∷ more)
follows d vs [] more = (41, more, refl, closing_parts)
follows d [] (x ∷ xs) more = (41, more, refl, closing_parts)
follows d (v ∷ vs) (x ∷ xs) more =
    let later = statements_text d.enumerations vs xs ++ 41 ∷ more in
    (32, 40 ∷ (symbol_text v.name ++ 32 ∷ (value_text d.enumerations x ++ 41 ∷ later)), append_assoc (statement_text d.enumerations v x) (statements_text d.enumerations vs xs) (41 ∷ more) ∙ statement_is d v x later, blank_parts)

run_some : (xs : List ℕ) → is_run is_digit xs ≡ true → 1 ≤ length xs
run_some [] e = absurd (let g : false ≡ true = e in cc)
run_some (x ∷ xs) e = omega arith

step_is : (d : Declared) (n : ℕ) (xs : List Datum) (more : List ℕ) → step_text d n xs ++ more ≡ 10 ∷ 40 ∷ (decimal n ++ (statements_text d.enumerations d.variables xs ++ 41 ∷ more))
step_is d n xs more =
    let texts = statements_text d.enumerations d.variables xs in
    ap (λ (t : List ℕ). 10 ∷ 40 ∷ t) (append_assoc (decimal n) (texts ++ 41 ∷ []) more ∙ ap (λ (t : List ℕ). decimal n ++ t) (append_assoc texts (41 ∷ []) more))

goes_step : (d : Declared) (can : CanBeReadBack d) (q : ℕ) (xs : List Datum) (more : List ℕ) (ss : Steps) → is_within d (length ss + 1) ≡ true → length ss < 4294967296 → Fit d.enumerations (sorts_of d.variables) xs
    → Goes d (step_text d (length ss) xs ++ more) (here point.Steps q (nothing_stated d.variables) ss) more (here point.Steps q (nothing_stated d.variables) (ss ++ xs ∷ []))
goes_step d can q xs more ss w small f =
    let n = length ss in
    let vs = nothing_stated d.variables in
    let run = decimal_run n small in
    let texts = statements_text d.enumerations d.variables xs ++ 41 ∷ more in
    let numbered = decimal n ++ texts in
    let c1 = here point.Steps q vs ss in
    let c2 = here point.Number q vs ss in
    let c3 = here point.Statements q vs ss in
    let c4 = here point.Statements q (map Some xs) ss in
    let c5 = here point.Steps q vs (ss ++ xs ∷ []) in
    let a = goes_blank d 10 (40 ∷ numbered) c1 refl in
    let b = goes_open d numbered c1 c2 (begins_step d q vs ss w) in
    let next = follows d d.variables xs more in
    let token : token_of (decimal n ++ texts) ≡ Some (shape.Numeral, decimal n, texts) =
    subst (λ (t : List ℕ). token_of (decimal n ++ t) ≡ Some (shape.Numeral, decimal n, t)) (sym next.2) (numeral_token (decimal n) next.0 next.1 run next.3) in
    let c = goes_word d (decimal n) texts (decimal n) shape.Numeral c2 c3 (run_some (decimal n) run) token (numbers_step d q vs ss) in
    let e = goes_statements d can q d.variables xs (41 ∷ more) [] ss (λ j v h. (let z : 0 + j ≡ j = omega arith in ap (slice_get d.variables) z ∙ h)) f in
    let g = goes_close d more c4 c5 (ends_step d q xs ss) in
    let whole : Goes d (10 ∷ 40 ∷ numbered) c1 more c5 =
    goes_then d (10 ∷ 40 ∷ numbered) (40 ∷ numbered) more c1 c1 c5 a
    (goes_then d (40 ∷ numbered) numbered more c1 c2 c5 b
    (goes_then d numbered texts more c2 c3 c5 c (goes_then d texts (41 ∷ more) more c3 c4 c5 e g))) in
    subst (λ (t : List ℕ). Goes d t c1 more c5) (sym (step_is d n xs more)) whole

-- ---- all steps

within_less : (d : Declared) (k m : ℕ) → k ≤ m → is_within d m ≡ true → is_within d k ≡ true
within_less d k m h w =
    let v = length d.variables in
    let both = and_parts (leb m most_steps) (leb (m * v) most_values) w in
    let few : m ≤ most_steps = leb-true m most_steps both.0 in
    let small : m * v ≤ most_values = leb-true (m * v) most_values both.1 in
    let less : k * v ≤ m * v = mul-le k v m v h (omega arith) in
    and_from (leb k most_steps) (leb (k * v) most_values) (le-leb k most_steps (omega (arith, h, few))) (le-leb (k * v) most_values (omega (arith, less, small)))

pub goes_steps : (d : Declared) (can : CanBeReadBack d) (q n : ℕ) (xs : Steps) (more : List ℕ) (ss : Steps) → n ≡ length ss → is_within d (length ss + length xs) ≡ true → AllByRecursion (Fit d.enumerations (sorts_of d.variables)) xs
    → Goes d (steps_text d n xs ++ more) (here point.Steps q (nothing_stated d.variables) ss) more (here point.Steps q (nothing_stated d.variables) (ss ++ xs))
goes_steps d can q n [] more ss is w f = subst (λ (us : Steps). Goes d more (here point.Steps q (nothing_stated d.variables) ss) more (here point.Steps q (nothing_stated d.variables) us)) (sym (append-nil ss)) (λ s. (s, refl))
goes_steps d can q n (x ∷ xs) more ss is w f =
    let vs = nothing_stated d.variables in
    let next = ss ++ x ∷ [] in
    let long : length next ≡ length ss + 1 = length-append ss (x ∷ []) in
    let total : length ss + 1 ≤ length ss + length (x ∷ xs) = omega arith in
    let one = within_less d (length ss + 1) (length ss + length (x ∷ xs)) total w in
    let few = leb-true (length ss + 1) most_steps (and_parts (leb (length ss + 1) most_steps) (leb ((length ss + 1) * length d.variables) most_values) one).0 in
    let later = steps_text d (n + 1) xs ++ more in
    let same : length next + length xs ≡ length ss + length (x ∷ xs) = omega (arith, long) in
    let first = goes_step d can q x later ss one (omega (arith, few)) f.0 in
    let first_n : Goes d (step_text d n x ++ later) (here point.Steps q vs ss) later (here point.Steps q vs next) = subst (λ (m : ℕ). Goes d (step_text d m x ++ later) (here point.Steps q vs ss) later (here point.Steps q vs next)) (sym is) first in
    let rest = goes_steps d can q (n + 1) xs more next (omega (arith, is, long)) (ap (is_within d) same ∙ w) f.1 in
    let moved : Goes d later (here point.Steps q vs next) more (here point.Steps q vs (ss ++ x ∷ xs)) = subst (λ (us : Steps). Goes d later (here point.Steps q vs next) more (here point.Steps q vs us)) (append_assoc ss (x ∷ []) xs) rest in
    subst (λ (t : List ℕ). Goes d t (here point.Steps q vs ss) more (here point.Steps q vs (ss ++ x ∷ xs))) (sym (append_assoc (step_text d n x) (steps_text d (n + 1) xs) more))
    (goes_then d (step_text d n x ++ later) later more (here point.Steps q vs ss) (here point.Steps q vs next) (here point.Steps q vs (ss ++ x ∷ xs)) first_n moved)
