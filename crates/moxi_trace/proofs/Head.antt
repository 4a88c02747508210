-- The head of a printed response is read.
use Rattle.std.proofs.Common.{◌≡◌, ℕ, true, false, Option, Some, List, [], ◌∷◌, ◌++◌, refl}
use Rattle.std.specs.Prelude.{codes}
use Rattle.moxi_sexpr.specs.Bytes.{is_blank}
use Rattle.moxi_terms.specs.declared.data.Datum.{Datum}
use Rattle.moxi_trace.specs.declared.point.Point.{Point}
use Rattle.moxi_trace.specs.declared.point.Point.TheVariants as point
use Rattle.moxi_trace.specs.declared.tokens.Shape.{Shape}
use Rattle.moxi_trace.specs.declared.tokens.Shape.TheVariants as shape
use Rattle.moxi_trace.specs.Traces.{Declared}
use Rattle.moxi_trace.specs.Texts.{words_of_response, words_of_query, words_of_result, words_of_trace}
use Rattle.moxi_trace.specs.Tokens.{token_of}
use Rattle.moxi_trace.specs.Reading.{is_head_token, past_head}
use Rattle.moxi_trace.proofs.Going.{Standing, Goes, goes_then, goes_blank, goes_head}

abbrev pub here : Point → ℕ → List (Option Datum) → List (List Datum) → Standing
here p q vs ss = record { point = p; query = q; stated = vs; steps = ss }

-- a fixed token behind a blank
blank_head : (d : Declared) (n b : ℕ) (bs rest raw : List ℕ) (k : Shape) (q : ℕ) (vs : List (Option Datum)) (ss : List (List Datum)) → is_blank b ≡ false → token_of (b ∷ (bs ++ rest)) ≡ Some (k, raw, rest) → is_head_token n k raw ≡ true
    → Goes d (32 ∷ b ∷ (bs ++ rest)) (here (point.Head n) q vs ss) rest (here (past_head n) q vs ss)
blank_head d n b bs rest raw k q vs ss e t h =
    let c = here (point.Head n) q vs ss in
    goes_then d (32 ∷ b ∷ (bs ++ rest)) (b ∷ (bs ++ rest)) rest c c (here (past_head n) q vs ss) (goes_blank d 32 (b ∷ (bs ++ rest)) c refl) (goes_head d n b bs rest raw k q vs ss e t h)

pub first_words : (d : Declared) (q : ℕ) (vs : List (Option Datum)) (ss : List (List Datum)) (more : List ℕ) → Goes d (words_of_response ++ more) (here (point.Head 0) q vs ss) more (here point.System q vs ss)
unfolding words_of_response token_of
first_words d q vs ss more =
    let behind = codes "check-system-response" ++ 32 ∷ more in
    let a = goes_head d 0 40 [] behind [] shape.Open q vs ss refl refl refl in
    let b = goes_head d 1 99 (codes "heck-system-response") (32 ∷ more) (codes "check-system-response") shape.Symbol q vs ss refl refl refl in
    let c = goes_blank d 32 more (here point.System q vs ss) refl in
    goes_then d (40 ∷ behind) behind more (here (point.Head 0) q vs ss) (here (point.Head 1) q vs ss) (here point.System q vs ss) a
    (goes_then d behind (32 ∷ more) more (here (point.Head 1) q vs ss) (here point.System q vs ss) (here point.System q vs ss) b c)

pub query_words : (d : Declared) (q : ℕ) (vs : List (Option Datum)) (ss : List (List Datum)) (more : List ℕ) → Goes d (words_of_query ++ more) (here (point.Head 2) q vs ss) more (here point.Query q vs ss)
unfolding words_of_query token_of
query_words d q vs ss more =
    let a = blank_head d 2 58 (codes "query") (32 ∷ 40 ∷ more) (codes "query") shape.Keyword q vs ss refl refl refl in
    let b = blank_head d 3 40 [] more [] shape.Open q vs ss refl refl refl in
    goes_then d (codes " :query (" ++ more) (32 ∷ 40 ∷ more) more (here (point.Head 2) q vs ss) (here (point.Head 3) q vs ss) (here point.Query q vs ss) a b

pub result_words : (d : Declared) (q : ℕ) (vs : List (Option Datum)) (ss : List (List Datum)) (more : List ℕ) → Goes d (words_of_result ++ more) (here (point.Head 4) q vs ss) more (here (point.Head 9) q vs ss)
unfolding words_of_result token_of
result_words d q vs ss more =
    let at = λ (n : ℕ). here (point.Head n) q vs ss in
    let t4 = codes " :trace t)" ++ more in
    let a = blank_head d 4 58 (codes "result") (codes " sat" ++ t4) (codes "result") shape.Keyword q vs ss refl refl refl in
    let b = blank_head d 5 115 (codes "at") t4 (codes "sat") shape.Symbol q vs ss refl refl refl in
    let c = blank_head d 6 58 (codes "trace") (codes " t)" ++ more) (codes "trace") shape.Keyword q vs ss refl refl refl in
    let e = blank_head d 7 116 [] (41 ∷ more) (codes "t") shape.Symbol q vs ss refl refl refl in
    let f = goes_head d 8 41 [] more [] shape.Close q vs ss refl refl refl in
    goes_then d (codes " :result sat :trace t)" ++ more) (codes " sat" ++ t4) more (at 4) (at 5) (at 9) a
    (goes_then d (codes " sat" ++ t4) t4 more (at 5) (at 6) (at 9) b
    (goes_then d t4 (codes " t)" ++ more) more (at 6) (at 7) (at 9) c
    (goes_then d (codes " t)" ++ more) (41 ∷ more) more (at 7) (at 8) (at 9) e f)))

pub trace_words : (d : Declared) (q : ℕ) (vs : List (Option Datum)) (ss : List (List Datum)) (more : List ℕ) → Goes d (words_of_trace ++ 10 ∷ more) (here (point.Head 9) q vs ss) (10 ∷ more) (here point.Steps q vs ss)
unfolding words_of_trace token_of
trace_words d q vs ss more =
    let at = λ (n : ℕ). here (point.Head n) q vs ss in
    let last = here point.Steps q vs ss in
    let x = 10 ∷ more in
    let t17 = codes "p" ++ x in
    let a = blank_head d 9 58 (codes "trace") (codes " (t :prefix p) :trail (p" ++ x) (codes "trace") shape.Keyword q vs ss refl refl refl in
    let b = blank_head d 10 40 [] (codes "t :prefix p) :trail (p" ++ x) [] shape.Open q vs ss refl refl refl in
    let c = goes_head d 11 116 [] (codes " :prefix p) :trail (p" ++ x) (codes "t") shape.Symbol q vs ss refl refl refl in
    let e = blank_head d 12 58 (codes "prefix") (codes " p) :trail (p" ++ x) (codes "prefix") shape.Keyword q vs ss refl refl refl in
    let f = blank_head d 13 112 [] (codes ") :trail (p" ++ x) (codes "p") shape.Symbol q vs ss refl refl refl in
    let g = goes_head d 14 41 [] (codes " :trail (p" ++ x) [] shape.Close q vs ss refl refl refl in
    let h = blank_head d 15 58 (codes "trail") (codes " (p" ++ x) (codes "trail") shape.Keyword q vs ss refl refl refl in
    let i = blank_head d 16 40 [] t17 [] shape.Open q vs ss refl refl refl in
    let j = goes_head d 17 112 [] x (codes "p") shape.Symbol q vs ss refl refl refl in
    goes_then d (codes " :trace (t :prefix p) :trail (p" ++ x) (codes " (t :prefix p) :trail (p" ++ x) x (at 9) (at 10) last a
    (goes_then d (codes " (t :prefix p) :trail (p" ++ x) (codes "t :prefix p) :trail (p" ++ x) x (at 10) (at 11) last b
    (goes_then d (codes "t :prefix p) :trail (p" ++ x) (codes " :prefix p) :trail (p" ++ x) x (at 11) (at 12) last c
    (goes_then d (codes " :prefix p) :trail (p" ++ x) (codes " p) :trail (p" ++ x) x (at 12) (at 13) last e
    (goes_then d (codes " p) :trail (p" ++ x) (codes ") :trail (p" ++ x) x (at 13) (at 14) last f
    (goes_then d (codes ") :trail (p" ++ x) (codes " :trail (p" ++ x) x (at 14) (at 15) last g
    (goes_then d (codes " :trail (p" ++ x) (codes " (p" ++ x) x (at 15) (at 16) last h
    (goes_then d (codes " (p" ++ x) t17 x (at 16) (at 17) last i j)))))))
