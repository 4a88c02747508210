-- What is printed is read back.
use Rattle.std.proofs.Common.{◌≡◌, ℕ, ◌+◌, ◌≤◌, ◌<◌, true, Option, List, [], ◌∷◌, ◌++◌, length, Result, Ok, Err, IfOk, refl, sym, ap, ◌∙◌, subst, arith}
use Rattle.std.specs.Prelude.{codes, nat_le}
use Rattle.std.specs.Str.{bytes_eq}
use Rattle.std.proofs.lemmas.Bool.{cond-true, le-leb}
use Rattle.std.proofs.lemmas.Slice.Eq.{bytes_eq-Decides}
use Rattle.std.proofs.lemmas.List.{append_assoc}
use Rattle.text_core.specs.Places.{start}
use Rattle.moxi_terms.specs.declared.data.Datum.{Datum}
use Rattle.moxi_trace.specs.declared.point.Point.TheVariants as point
use Rattle.moxi_trace.specs.declared.tokens.Shape.TheVariants as shape
use Rattle.moxi_trace.specs.Traces.{Declared, IsStatedTrace, is_within, most_bytes}
use Rattle.moxi_trace.specs.Texts.{symbol_text, steps_text, words_of_response, words_of_query, words_of_result, words_of_trace, head_text, response_text}
use Rattle.moxi_trace.specs.ReadBack.{CanBeReadBack, ReadsBack}
use Rattle.moxi_trace.specs.Reading.{at_point, with_failing, query_named, nothing_stated, ended, finished, begin}
use Rattle.moxi_trace.specs.Responses.{read_from, answered, ReadsResponse}
use Rattle.moxi_trace.proofs.Spelled.{blank_parts}
use Rattle.moxi_trace.proofs.Going.{Spot, reading, Goes, goes_then, Leads, goes_blank, line_on}
use Rattle.moxi_trace.proofs.Head.{here, first_words, query_words, result_words, trace_words}
use Rattle.moxi_trace.proofs.Trail.{goes_symbol}
use Rattle.moxi_trace.proofs.Stepping.{goes_close, goes_steps}
use Rattle.moxi_term_print.specs.Terms.{name_at}
use Rattle.text_core.specs.Answers.{go_on}

names_system : (d : Declared) (q : ℕ) → Leads d shape.Symbol d.system (here point.System q (nothing_stated d.variables) []) (here (point.Head 2) q (nothing_stated d.variables) [])
names_system d q s =
    let r = at_point (point.Head 2) (reading s (here point.System q (nothing_stated d.variables) [])) in
    (s, ap Ok (cond-true (bytes_eq d.system d.system) r (with_failing 2 s.at r) ((bytes_eq-Decides d.system d.system).1 refl)))

names_query : (d : Declared) (can : CanBeReadBack d) (q : ℕ) → q < length d.queries → Leads d shape.Symbol (name_at d.queries q) (here point.Query 0 (nothing_stated d.variables) []) (here (point.Head 4) q (nothing_stated d.variables) [])
names_query d can q h s =
    let r = at_point (point.Head 4) (reading s (here point.Query 0 (nothing_stated d.variables) [])) in
    (s, ap (λ o. Ok (query_named o s.at r)) (can.queries q h).1)

-- the head in front of a line
goes_whole_head : (d : Declared) (can : CanBeReadBack d) (q : ℕ) (more : List ℕ) → q < length d.queries
    → Goes d (head_text d.system (name_at d.queries q) ++ 10 ∷ more) (here (point.Head 0) 0 (nothing_stated d.variables) []) (10 ∷ more) (here point.Steps q (nothing_stated d.variables) [])
unfolding words_of_response words_of_query words_of_result words_of_trace
goes_whole_head d can q more h =
    let vs = nothing_stated d.variables in
    let x = 10 ∷ more in
    let system = symbol_text d.system in
    let query = symbol_text (name_at d.queries q) in
    let t5 = words_of_trace ++ x in
    let t4 = words_of_result ++ t5 in
    let t3 = query ++ t4 in
    let t2 = words_of_query ++ t3 in
    let t1 = system ++ t2 in
    let c1 = here (point.Head 0) 0 vs [] in
    let c2 = here point.System 0 vs [] in
    let c3 = here (point.Head 2) 0 vs [] in
    let c4 = here point.Query 0 vs [] in
    let c5 = here (point.Head 4) q vs [] in
    let c6 = here (point.Head 9) q vs [] in
    let c7 = here point.Steps q vs [] in
    let a = first_words d 0 vs [] t1 in
    let b : Goes d t1 c2 t2 c3 = goes_symbol d d.system 32 (codes ":query (" ++ t3) c2 c3 can.system blank_parts (names_system d 0) in
    let c = query_words d 0 vs [] t3 in
    let e : Goes d t3 c4 t4 c5 = goes_symbol d (name_at d.queries q) 32 (codes ":result sat :trace t)" ++ t5) c4 c5 (can.queries q h).0 blank_parts (names_query d can q h) in
    let f = result_words d q vs [] t5 in
    let g = trace_words d q vs [] more in
    let whole : Goes d (words_of_response ++ t1) c1 x c7 =
    goes_then d (words_of_response ++ t1) t1 x c1 c2 c7 a
    (goes_then d t1 t2 x c2 c3 c7 b (goes_then d t2 t3 x c3 c4 c7 c (goes_then d t3 t4 x c4 c5 c7 e (goes_then d t4 t5 x c5 c6 c7 f g)))) in
    let inner : (query ++ (words_of_result ++ words_of_trace)) ++ x ≡ t3 = append_assoc query (words_of_result ++ words_of_trace) x in
    let outer : (system ++ (words_of_query ++ (query ++ (words_of_result ++ words_of_trace)))) ++ x ≡ t1 =
    append_assoc system (words_of_query ++ (query ++ (words_of_result ++ words_of_trace))) x ∙ ap (λ (t : List ℕ). system ++ (words_of_query ++ t)) inner in
    subst (λ (t : List ℕ). Goes d t c1 x c7) (sym (ap (λ (t : List ℕ). words_of_response ++ t) outer)) whole

-- the end
goes_end : (d : Declared) (q : ℕ) (ss : List (List Datum)) → Goes d (41 ∷ 41 ∷ 10 ∷ []) (here point.Steps q (nothing_stated d.variables) ss) [] (here point.Whole q (nothing_stated d.variables) ss)
goes_end d q ss =
    let vs = nothing_stated d.variables in
    let c1 = here point.Steps q vs ss in
    let c2 = here point.Last q vs ss in
    let c3 = here point.Whole q vs ss in
    goes_then d (41 ∷ 41 ∷ 10 ∷ []) (41 ∷ 10 ∷ []) [] c1 c2 c3 (goes_close d (41 ∷ 10 ∷ []) c1 c2 (λ s. (s, refl)))
    (goes_then d (41 ∷ 10 ∷ []) (10 ∷ []) [] c2 c3 c3 (goes_close d (10 ∷ []) c2 c3 (λ s. (s, refl))) (goes_blank d 10 [] c3 refl))

whole_read : (d : Declared) (q : ℕ) (vs : List (Option Datum)) (x : List Datum) (ss : List (List Datum)) (s : Spot) → read_from d s.at [] (0, reading s (here point.Whole q vs (x ∷ ss))) ≡ Ok (record { query = q; trace = x ∷ ss })
unfolding finished
whole_read d q vs x ss s = ap (λ o. go_on (go_on o (ended s.at)) answered) (line_on s.at.line s (here point.Whole q vs (x ∷ ss)))

steps_read : (d : Declared) (can : CanBeReadBack d) (q : ℕ) (steps : List (List Datum)) → q < length d.queries → IsStatedTrace d steps → is_within d (length steps) ≡ true
    → read_from d start (response_text d q steps) (0, begin d) ≡ Ok (record { query = q; trace = steps })
steps_read d can q [] h t w = absurd (let g : 1 ≤ 0 = t.some in omega (arith, g))
steps_read d can q (x ∷ xs) h t w =
    let vs = nothing_stated d.variables in
    let all = x ∷ xs in
    let last = 41 ∷ 41 ∷ 10 ∷ [] in
    let trail = steps_text d 0 all ++ last in
    let c1 = here (point.Head 0) 0 vs [] in
    let c2 = here point.Steps q vs [] in
    let c3 = here point.Steps q vs all in
    let c4 = here point.Whole q vs all in
    let zero_more : 0 + length all ≡ length all = omega arith in
    let head = goes_whole_head d can q _ h in
    let going = goes_then d trail last [] c2 c3 c4 (goes_steps d can q 0 all last [] refl (ap (is_within d) zero_more ∙ w) t.fit) (goes_end d q all) in
    let whole : Goes d (response_text d q all) c1 [] c4 = goes_then d (response_text d q all) trail [] c1 c2 c4 head going in
    let r = whole (record { at = start; line = 0; step = start }) in
    r.1 ∙ whole_read d q vs x xs r.0

pub printed_is_read : (d : Declared) (q : ℕ) (steps : List (List Datum)) → CanBeReadBack d → q < length d.queries → IsStatedTrace d steps → is_within d (length steps) ≡ true → length (response_text d q steps) ≤ most_bytes
    → ReadsResponse d (response_text d q steps) (record { query = q; trace = steps })
printed_is_read d q steps can h t w few = cond-true (nat_le (length (response_text d q steps)) most_bytes) _ _ (le-leb (length (response_text d q steps)) most_bytes few) ∙ steps_read d can q steps h t w

-- the same of what the printer answers
pub printed_again : {E : Type 0} (d : Declared) (q : ℕ) (steps : List (List Datum)) (r : Result (List ℕ) E) → IfOk r (λ text. text ≡ response_text d q steps) → IfOk r (ReadsBack d q steps)
printed_again d q steps (Ok text) h = subst (λ (text : List ℕ). ReadsBack d q steps text) (sym h) (printed_is_read d q steps)
printed_again d q steps (Err e) h = tt
