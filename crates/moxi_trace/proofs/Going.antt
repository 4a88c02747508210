-- How the reading goes on over what is printed, where no test fails.
use Rattle.std.proofs.Common.{◌≡◌, ℕ, suc, ◌-◌, Bool, true, false, cond, eqb, Option, Some, None, List, [], ◌∷◌, ◌++◌, length, Ok, refl, sym, ap, ◌∙◌, arith}
use Rattle.std.proofs.lemmas.Bool.{cond-true, cond-false, eqb-true, ne_eqb}
use Rattle.std.proofs.lemmas.List.{length-append}
use Rattle.text_core.specs.declared.place.Place.{Place}
use Rattle.text_core.specs.Places.{after, next_place}
use Rattle.moxi_sexpr.specs.Bytes.{is_blank}
use Rattle.moxi_terms.specs.declared.data.Datum.{Datum}
use Rattle.moxi_trace.specs.declared.point.Point.{Point}
use Rattle.moxi_trace.specs.declared.point.Point.TheVariants as point
use Rattle.moxi_trace.specs.declared.tokens.Shape.{Shape}
use Rattle.moxi_trace.specs.Traces.{Declared}
use Rattle.moxi_trace.specs.Tokens.{token_of}
use Rattle.moxi_trace.specs.Reading.{Reading, settled_by, on_line, is_head_token, past_head, point_step, token_step, step}
use Rattle.moxi_trace.specs.Responses.{behind, token_read, byte_read, read_from}
use Rattle.text_core.specs.Answers.{go_on}

-- where the reading stands but for places: what comes next, the query, what is stated, and the steps
pub record Standing : Type 0 where
  pub point : Point
  pub query : ℕ
  pub stated : List (Option Datum)
  pub steps : List (List Datum)

-- the place of the next byte, the line of the last token, and the bracket of the last step
pub record Spot : Type 0 where
  pub at : Place
  pub line : ℕ
  pub step : Place

abbrev pub reading : Spot → Standing → Reading
reading s c = record { point = c.point; line = s.line; failing = None; query = c.query; step = s.step; stated = c.stated; steps = c.steps }

-- from any spot the reading of this text is that of this rest
abbrev pub Goes : Declared → List ℕ → Standing → List ℕ → Standing → Type 0
Goes d text c rest e = (s : Spot) → (t : Spot) × (read_from d s.at text (0, reading s c) ≡ read_from d t.at rest (0, reading t e))

pub goes_then : (d : Declared) (text middle rest : List ℕ) (c m e : Standing) → Goes d text c middle m → Goes d middle m rest e → Goes d text c rest e
goes_then d text middle rest c m e f g s = let t = f s in let u = g t.0 in (u.0, t.1 ∙ u.1)

-- ---- bytes

byte_skipped : (d : Declared) (at : Place) (b n : ℕ) (bs : List ℕ) (r : Reading) → byte_read d at b bs (suc n, r) ≡ Ok (n, r)
byte_skipped d at b n bs r =
    let e : eqb (suc n) 0 ≡ false = ne_eqb (suc n) 0 (λ z. omega (arith, z)) in
    let f : suc n - 1 ≡ n = omega arith in
    cond-false (eqb (suc n) 0) _ _ e ∙ ap (λ m. behind m r) f

-- the bytes of the last token
skipped : (d : Declared) (front rest : List ℕ) (at : Place) (r : Reading) → read_from d at (front ++ rest) (length front, r) ≡ read_from d (after at front) rest (0, r)
skipped d [] rest at r = refl
skipped d (b ∷ bs) rest at r =
    ap (λ o. go_on o (read_from d (next_place at b) (bs ++ rest))) (byte_skipped d at b (length bs) (bs ++ rest) r) ∙ skipped d bs rest (next_place at b) r

-- a token and what is behind it
token_passed : (d : Declared) (at : Place) (b : ℕ) (bs rest raw : List ℕ) (k : Shape) (r q : Reading) → is_blank b ≡ false → token_of (b ∷ (bs ++ rest)) ≡ Some (k, raw, rest) → step d k raw at r ≡ Ok q
    → read_from d at (b ∷ (bs ++ rest)) (0, r) ≡ read_from d (after at (b ∷ bs)) rest (0, q)
token_passed d at b bs rest raw k r q e t h =
    let long : length (bs ++ rest) - length rest ≡ length bs = (let n = length-append bs rest in omega (arith, n)) in
    let token : byte_read d at b (bs ++ rest) (0, r) ≡ Ok (length bs, q) =
    cond-false (is_blank b) _ _ e ∙ ap (token_read d at (bs ++ rest) r) t ∙ ap (λ o. go_on o (behind (length (bs ++ rest) - length rest))) h ∙ ap (λ n. behind n q) long in
    ap (λ o. go_on o (read_from d (next_place at b) (bs ++ rest))) token ∙ skipped d bs rest (next_place at b) q

pub line_on : (line : ℕ) (s : Spot) (c : Standing) → on_line line (reading s c) ≡ Ok (reading (record s { line = line }) c)
line_on line s c = go (eqb line s.line) refl
  where
    go : (b : Bool) → eqb line s.line ≡ b → cond b (Ok (reading s c)) (settled_by None (record (reading s c) { line = line })) ≡ Ok (reading (record s { line = line }) c)
    go true e = let same : line ≡ s.line = eqb-true line s.line e in ap (λ n. Ok (reading (record s { line = n }) c)) (sym same)
    go false e = refl

step_on : (d : Declared) (k : Shape) (raw : List ℕ) (s : Spot) (c : Standing) (q : Reading) → point_step d c.point k raw s.at (reading (record s { line = s.at.line }) c) ≡ Ok q → step d k raw s.at (reading s c) ≡ Ok q
unfolding step
step_on d k raw s c q h = ap (λ o. go_on o (token_step d k raw s.at)) (line_on s.at.line s c) ∙ h

-- ---- tokens

-- what a token leads to, wherever it stands
abbrev pub Leads : Declared → Shape → List ℕ → Standing → Standing → Type 0
Leads d k raw c e = (s : Spot) → (t : Spot) × (point_step d c.point k raw s.at (reading s c) ≡ Ok (reading t e))

pub goes_token : (d : Declared) (b : ℕ) (bs rest raw : List ℕ) (k : Shape) (c e : Standing) → is_blank b ≡ false → token_of (b ∷ (bs ++ rest)) ≡ Some (k, raw, rest) → Leads d k raw c e → Goes d (b ∷ (bs ++ rest)) c rest e
goes_token d b bs rest raw k c e blank t h s =
    let on = record s { line = s.at.line } in
    let l = h on in
    let u = l.0 in
    (record u { at = after s.at (b ∷ bs) }, token_passed d s.at b bs rest raw k (reading s c) (reading u e) blank t (step_on d k raw s c (reading u e) l.1))

pub goes_blank : (d : Declared) (b : ℕ) (rest : List ℕ) (c : Standing) → is_blank b ≡ true → Goes d (b ∷ rest) c rest c
goes_blank d b rest c e s =
    (record s { at = next_place s.at b }, ap (λ o. go_on o (read_from d (next_place s.at b) rest)) (cond-true (is_blank b) (behind 0 (reading s c)) (token_read d s.at rest (reading s c) (token_of (b ∷ rest))) e))

-- a fixed token of the head
pub goes_head : (d : Declared) (n b : ℕ) (bs rest raw : List ℕ) (k : Shape) (q : ℕ) (vs : List (Option Datum)) (ss : List (List Datum)) → is_blank b ≡ false → token_of (b ∷ (bs ++ rest)) ≡ Some (k, raw, rest) → is_head_token n k raw ≡ true
    → Goes d (b ∷ (bs ++ rest)) (record { point = point.Head n; query = q; stated = vs; steps = ss }) rest (record { point = past_head n; query = q; stated = vs; steps = ss })
goes_head d n b bs rest raw k q vs ss blank t h =
    goes_token d b bs rest raw k (record { point = point.Head n; query = q; stated = vs; steps = ss }) (record { point = past_head n; query = q; stated = vs; steps = ss }) blank t
    (λ s. (s, cond-true (is_head_token n k raw) _ _ h))
