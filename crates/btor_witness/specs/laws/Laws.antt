-- What a text spells, and its refusal, are one.
use Rattle.std.proofs.Common.{◌≡◌, ◌≤◌, ℕ, ◌+◌, Bool, true, false, List, [], ◌∷◌, length, Option, Some, None, Result, Ok, Err, refl, sym, ap, ◌∙◌, subst, arith, inl, inr, ◌⊎◌}
use Rattle.std.specs.Prelude.{IfOk, IfErr}
use Rattle.std.proofs.lemmas.Bool.{cond-true, cond-false, cases_Bool, cases_lt}
use Rattle.text_core.specs.declared.place.Kind.{Kind}
use Rattle.text_core.specs.declared.place.Place.{Place}
use Rattle.text_core.specs.declared.place.Refusal.{Refusal}
use Rattle.btor_tree.specs.declared.lines.Line.{Line}
use Rattle.btor_tree.specs.Parts.{Parts, raw_lines, line_place}
use Rattle.btor_tree.proofs.Fronts.{split_line}
use Rattle.btor_witness.specs.declared.shape.Shape.{Shape}
use Rattle.btor_witness.specs.declared.ends.LineEnd.{LineEnd}
use Rattle.btor_witness.specs.declared.ends.LineEnd.TheVariants as end
use Rattle.text_core.specs.declared.place.Kind.TheVariants.{X}
use Rattle.btor_witness.specs.declared.witness.Witness.{Witness}
use Rattle.text_core.specs.declared.end.End.{End}
use Rattle.text_core.specs.declared.end.End.TheVariants.{Bad, NoMemory}
use Rattle.btor_witness.specs.Bytes.{line_parts}
use Rattle.btor_witness.specs.Sizes.{Sizes, sizes_of, most_bytes}
use Rattle.btor_witness.specs.Shapes.{Spells, shape_of, is_passed}
use Rattle.btor_witness.specs.Reading.{Reading, begin, Next, nothing, moves, done, bad}
use Rattle.btor_witness.specs.Texts.{IsNext, passed, spelled, shapeless, Reads, blank, line, last, Refuses, unended, here, past_blank, past_line, ReadsText, SpellsWitness, RefusesWitness, shaped_next, next_of}
use Rattle.btor_witness.specs.Answer.{Gives, Stops, IsRefused, IsRefusedLine, Steps, Takes}
use Rattle.btor_witness.specs.laws.Shapes.{shape_reads, shape_from}

pub at_passed : (sizes : Sizes) (r : Reading) (ps : Parts) → is_passed ps ≡ true → next_of sizes r ps ≡ nothing
unfolding next_of
at_passed sizes r ps e = cond-true (is_passed ps) _ _ e

pub at_shape : (sizes : Sizes) (r : Reading) (ps : Parts) (o : Option Shape) → is_passed ps ≡ false → shape_of ps ≡ o → next_of sizes r ps ≡ shaped_next sizes r o
unfolding next_of
at_shape sizes r ps o e f = cond-false (is_passed ps) _ _ e ∙ ap (shaped_next sizes r) f

no_shape : (ps : Parts) (o : Option Shape) → shape_of ps ≡ o → ((shape : Shape) → Spells shape ps → ⊥) → o ≡ None
no_shape ps None e none = refl
no_shape ps (Some shape) e none = absurd (none shape (shape_from shape ps e))

pub next_is : {sizes : Sizes} {r : Reading} {ps : Parts} {x : Next} → IsNext sizes r ps x → next_of sizes r ps ≡ x
next_is {sizes = sizes} {r = r} {ps = ps} (passed e) = at_passed sizes r ps e
next_is {sizes = sizes} {r = r} {ps = ps} (spelled shape e h) = at_shape sizes r ps (Some shape) e (shape_reads shape ps h)
next_is {sizes = sizes} {r = r} {ps = ps} (shapeless e none) = at_shape sizes r ps None e (no_shape ps (shape_of ps) refl none)

shaped_there : (sizes : Sizes) (r : Reading) (ps : Parts) (o : Option Shape) → is_passed ps ≡ false → shape_of ps ≡ o → IsNext sizes r ps (shaped_next sizes r o)
shaped_there sizes r ps None e f = shapeless e (λ shape h. let g = shape_reads shape ps h in cc)
shaped_there sizes r ps (Some shape) e f = spelled shape e (shape_from shape ps f)

pub next_there : (sizes : Sizes) (r : Reading) (ps : Parts) → IsNext sizes r ps (next_of sizes r ps)
next_there sizes r ps =
    elim (cases_Bool (is_passed ps)) [
      | inl t ↦ subst (IsNext sizes r ps) (sym (at_passed sizes r ps t)) (passed t)
      | inr f ↦ subst (IsNext sizes r ps) (sym (at_shape sizes r ps (shape_of ps) f refl)) (shaped_there sizes r ps (shape_of ps) f refl)
    ]

pub next_from : (sizes : Sizes) (r : Reading) (ps : Parts) (x : Next) → next_of sizes r ps ≡ x → IsNext sizes r ps x
next_from sizes r ps x e = subst (IsNext sizes r ps) e (next_there sizes r ps)

one_next : {sizes : Sizes} {r : Reading} {ps : Parts} {x y : Next} → IsNext sizes r ps x → IsNext sizes r ps y → x ≡ y
one_next a b = sym (next_is a) ∙ next_is b

moved : {sizes : Sizes} {r q : Reading} {ps : Parts} {x : Next} → r ≡ q → IsNext sizes q ps x → IsNext sizes r ps x
moved {sizes = sizes} {ps = ps} {x = x} e a = subst (λ b. IsNext sizes b ps x) (sym e) a

same_reading : {r q : Reading} → moves r ≡ moves q → r ≡ q
same_reading e = cc

same_witness : {w v : Witness} → done w ≡ done v → w ≡ v
same_witness e = cc

same_kind : {k j : Kind} → bad k ≡ bad j → k ≡ j
same_kind e = cc

pub one_reading : {sizes : Sizes} {r q : Reading} {raws : Parts} {w v : Witness} → Reads sizes r raws w → Reads sizes q raws v → r ≡ q → w ≡ v
one_reading (blank a h) (blank b k) e = one_reading h k e
one_reading (blank a h) (line n b k) e = absurd (let f = one_next a (moved e b) in cc)
one_reading (blank a h) (last b) e = absurd (let f = one_next a (moved e b) in cc)
one_reading (line n a h) (blank b k) e = absurd (let f = one_next a (moved e b) in cc)
one_reading (line n a h) (line m b k) e = one_reading h k (same_reading (one_next a (moved e b)))
one_reading (line n a h) (last b) e = absurd (let f = one_next a (moved e b) in cc)
one_reading (last a) (blank b k) e = absurd (let f = one_next a (moved e b) in cc)
one_reading (last a) (line m b k) e = absurd (let f = one_next a (moved e b) in cc)
one_reading (last a) (last b) e = same_witness (one_next a (moved e b))

pub no_reading : {sizes : Sizes} {r q : Reading} {raws : Parts} {w : Witness} {n at : ℕ} {k : Kind} → Reads sizes r raws w → Refuses n sizes q raws k at → r ≡ q → ⊥
no_reading (blank a h) (here b) e = let f = one_next a (moved e b) in cc
no_reading (blank a h) (past_blank b g) e = no_reading h g e
no_reading (blank a h) (past_line m b g) e = let f = one_next a (moved e b) in cc
no_reading (line l a h) (here b) e = let f = one_next a (moved e b) in cc
no_reading (line l a h) (past_blank b g) e = let f = one_next a (moved e b) in cc
no_reading (line l a h) (past_line m b g) e = no_reading h g (same_reading (one_next a (moved e b)))
no_reading (last a) (here b) e = let f = one_next a (moved e b) in cc
no_reading (last a) (past_blank b g) e = let f = one_next a (moved e b) in cc
no_reading (last a) (past_line m b g) e = let f = one_next a (moved e b) in cc

pub one_refusal : {sizes : Sizes} {r q : Reading} {raws : Parts} {n m at to : ℕ} {j k : Kind} → Refuses n sizes r raws j at → Refuses m sizes q raws k to → r ≡ q → n ≡ m → (j ≡ k) × (at ≡ to)
one_refusal unended unended e f = (refl, f)
one_refusal (here a) (here b) e f = (same_kind (one_next a (moved e b)), ap (λ i. i + 1) f)
one_refusal (here a) (past_blank b g) e f = absurd (let x = one_next a (moved e b) in cc)
one_refusal (here a) (past_line l b g) e f = absurd (let x = one_next a (moved e b) in cc)
one_refusal (past_blank a h) (here b) e f = absurd (let x = one_next a (moved e b) in cc)
one_refusal (past_blank a h) (past_blank b g) e f = one_refusal h g e (ap (λ i. i + 1) f)
one_refusal (past_blank a h) (past_line l b g) e f = absurd (let x = one_next a (moved e b) in cc)
one_refusal (past_line l a h) (here b) e f = absurd (let x = one_next a (moved e b) in cc)
one_refusal (past_line l a h) (past_blank b g) e f = absurd (let x = one_next a (moved e b) in cc)
one_refusal (past_line l a h) (past_line m b g) e f = one_refusal h g (same_reading (one_next a (moved e b))) (ap (λ i. i + 1) f)

-- whole texts
pub one_witness : (lines : List Line) (text : List ℕ) (w v : Witness) → SpellsWitness lines text w → SpellsWitness lines text v → w ≡ v
one_witness lines text w v a b = one_reading a.1 b.1 refl

pub not_both : (lines : List Line) (text : List ℕ) (w : Witness) (k : Kind) (at : ℕ) → SpellsWitness lines text w → RefusesWitness lines text k at → ⊥
not_both lines text w k at a r = elim r [ inl h ↦ omega (arith, a.0, h.0) | inr h ↦ no_reading a.1 h.1 refl ]

pub one_end : (lines : List Line) (text : List ℕ) (j k : Kind) (at to : ℕ) → RefusesWitness lines text j at → RefusesWitness lines text k to → (j ≡ k) × (at ≡ to)
one_end lines text j k at to (inl g) (inl h) = (g.1 ∙ sym h.1, g.2 ∙ sym h.2)
one_end lines text j k at to (inl g) (inr h) = absurd (omega (arith, g.0, h.0))
one_end lines text j k at to (inr g) (inl h) = absurd (omega (arith, g.0, h.0))
one_end lines text j k at to (inr g) (inr h) = one_refusal g.1 h.1 refl refl

pub exact_from : (lines : List Line) (text : List ℕ) (r : Result Witness End) → IfOk r (SpellsWitness lines text) → IfErr r (IsRefused lines text) → (w : Witness) → SpellsWitness lines text w → Gives w r
exact_from lines text (Ok v) a b w h = one_witness lines text v w a h
exact_from lines text (Err (Bad refusal)) a b w h = not_both lines text w refusal.kind refusal.place.line h b.0
exact_from lines text (Err NoMemory) a b w h = tt

pub stops_from : (lines : List Line) (text : List ℕ) (r : Result Witness End) → IfOk r (SpellsWitness lines text) → IfErr r (IsRefused lines text) → (k : Kind) (at : ℕ) → RefusesWitness lines text k at → Stops text k at r
stops_from lines text (Ok v) a b k at h = not_both lines text v k at a h
stops_from lines text (Err (Bad refusal)) a b k at h =
    let e = one_end lines text refusal.kind k refusal.place.line at b.0 h in
    (e.0, b.1 ∙ ap (line_place text) e.1)
stops_from lines text (Err NoMemory) a b k at h = tt

-- what one line of the text does
pub taken : (x : Next) (old new : Reading) (r : Result Bool LineEnd) → Steps x new r → Takes x old new r
taken x old new (Ok false) h = inl h
taken x old new (Ok true) h = h
taken x old new (Err (end.Bad k)) h = h
taken x old new (Err end.NoMemory) h = h

goes_on : (n : ℕ) (sizes : Sizes) (old new : Reading) (raw : List ℕ) (raws : Parts) (x : Next) → IsNext sizes old (line_parts raw) x → (x ≡ moves new) ⊎ ((x ≡ nothing) × (new ≡ old))
    → ((w : Witness) → Reads sizes new raws w → Reads sizes old (raw ∷ raws) w) × ((k : Kind) (at : ℕ) → Refuses (n + 1) sizes new raws k at → Refuses n sizes old (raw ∷ raws) k at)
goes_on n sizes old new raw raws x a (inl e) =
    let b = subst (IsNext sizes old (line_parts raw)) e a in
    (λ w h. line new b h, λ k at h. past_line new b h)
goes_on n sizes old new raw raws x a (inr e) =
    let b = subst (IsNext sizes old (line_parts raw)) e.0 a in
    (λ w h. blank b (subst (λ r. Reads sizes r raws w) e.1 h), λ k at h. past_blank b (subst (λ r. Refuses (n + 1) sizes r raws k at) e.1 h))

pub reads_on : (n : ℕ) (sizes : Sizes) (old new : Reading) (raw : List ℕ) (raws : Parts) → Takes (next_of sizes old (line_parts raw)) old new (Ok false)
    → ((w : Witness) → Reads sizes new raws w → Reads sizes old (raw ∷ raws) w) × ((k : Kind) (at : ℕ) → Refuses (n + 1) sizes new raws k at → Refuses n sizes old (raw ∷ raws) k at)
reads_on n sizes old new raw raws h = goes_on n sizes old new raw raws (next_of sizes old (line_parts raw)) (next_there sizes old (line_parts raw)) h

pub ends_here : (sizes : Sizes) (old : Reading) (raw back : List ℕ) (w : Witness) → next_of sizes old (line_parts raw) ≡ done w → Reads sizes old (split_line raw back) w
ends_here sizes old raw [] w e = last (next_from sizes old (line_parts raw) (done w) e)
ends_here sizes old raw (b ∷ rest) w e = last (next_from sizes old (line_parts raw) (done w) e)

pub refused_here : (n : ℕ) (sizes : Sizes) (old : Reading) (raw back : List ℕ) (k : Kind) → next_of sizes old (line_parts raw) ≡ bad k → Refuses n sizes old (split_line raw back) k (n + 1)
refused_here n sizes old raw [] k e = here (next_from sizes old (line_parts raw) (bad k) e)
refused_here n sizes old raw (b ∷ rest) k e = here (next_from sizes old (line_parts raw) (bad k) e)

pub takes_at : (s t : Sizes) (old new : Reading) (ps : Parts) (b c : Bool) → s ≡ t → b ≡ c → Takes (next_of s old ps) old new (Ok b) → Takes (next_of t old ps) old new (Ok c)
takes_at s t old new ps b c e f h =
    let g = subst (λ (x : Sizes). Takes (next_of x old ps) old new (Ok b)) e h in
    subst (λ (x : Bool). Takes (next_of t old ps) old new (Ok x)) f g

pub failed_at : (s t : Sizes) (old new : Reading) (ps : Parts) (x : LineEnd) (k : Kind) → s ≡ t → x ≡ end.Bad k → Takes (next_of s old ps) old new (Err x) → next_of t old ps ≡ bad k
failed_at s t old new ps x k e f h =
    let g = subst (λ (y : Sizes). Takes (next_of y old ps) old new (Err x)) e h in
    subst (λ (y : LineEnd). Takes (next_of t old ps) old new (Err y)) f g

-- a text that is no longer than a witness may be
pub ok_within : (lines : List Line) (text : List ℕ) (r : Result Witness End) → length text ≤ most_bytes → IfOk r (ReadsText (sizes_of lines) text) → IfOk r (SpellsWitness lines text)
ok_within lines text (Ok w) lt h = (lt, h)
ok_within lines text (Err e) lt h = tt

pub err_within : (lines : List Line) (text : List ℕ) (r : Result Witness End) → length text ≤ most_bytes → IfErr r (IsRefusedLine (sizes_of lines) text) → IfErr r (IsRefused lines text)
err_within lines text (Ok w) lt h = tt
err_within lines text (Err (Bad refusal)) lt h = (inr (lt, h.0), h.1)
err_within lines text (Err NoMemory) lt h = tt

-- each text is answered
abbrev OneOf : ℕ → Sizes → Reading → Parts → Type 0
OneOf n sizes r raws = ((w : Witness) × Reads sizes r raws w) ⊎ ((k : Kind) × (at : ℕ) × Refuses n sizes r raws k at)

answer_on : (n : ℕ) (sizes : Sizes) (r : Reading) (raw : List ℕ) (raws : Parts) (x : Next) → IsNext sizes r (line_parts raw) x → ((q : Reading) → OneOf (n + 1) sizes q raws) → OneOf n sizes r (raw ∷ raws)
answer_on n sizes r raw raws nothing a on = elim (on r) [ inl h ↦ inl (h.0, blank a h.1) | inr h ↦ inr (h.0, h.1, past_blank a h.2) ]
answer_on n sizes r raw raws (moves q) a on = elim (on q) [ inl h ↦ inl (h.0, line q a h.1) | inr h ↦ inr (h.0, h.1, past_line q a h.2) ]
answer_on n sizes r raw raws (done w) a on = inl (w, last a)
answer_on n sizes r raw raws (bad k) a on = inr (k, n + 1, here a)

answer_of : (raws : Parts) (n : ℕ) (sizes : Sizes) (r : Reading) → OneOf n sizes r raws
answer_of [] n sizes r = inr ((X 6), n, unended)
answer_of (raw ∷ raws) n sizes r = answer_on n sizes r raw raws (next_of sizes r (line_parts raw)) (next_there sizes r (line_parts raw)) (answer_of raws (n + 1) sizes)

pub one_answer : (lines : List Line) (text : List ℕ) → ((w : Witness) × SpellsWitness lines text w) ⊎ ((k : Kind) × (at : ℕ) × RefusesWitness lines text k at)
one_answer lines text =
    elim (cases_lt most_bytes (length text)) [
      | inl long ↦ inr ((X 8), 1, inl (long, refl, refl))
      | inr short ↦ elim (answer_of (raw_lines text) 0 (sizes_of lines) begin) [ inl h ↦ inl (h.0, (short, h.1)) | inr h ↦ inr (h.0, h.1, inr (short, h.2)) ]
    ]

-- a text has one refusal at most, of one kind at one place
same_parts : (r s : Refusal) → r.kind ≡ s.kind → r.place ≡ s.place → r ≡ s
same_parts r s e f =
    let kinds : record { kind = r.kind; place = r.place } ≡ record { kind = s.kind; place = r.place } = ap (λ (k : Kind). record { kind = k; place = r.place }) e in
    kinds ∙ ap (λ (p : Place). record { kind = s.kind; place = p }) f

pub same_refusal : (lines : List Line) (text : List ℕ) (r s : Refusal) → IsRefused lines text (Bad r) → IsRefused lines text (Bad s) → r ≡ s
same_refusal lines text r s a b =
    let one = one_end lines text r.kind s.kind r.place.line s.place.line a.0 b.0 in
    same_parts r s one.0 (a.1 ∙ ap (line_place text) one.1 ∙ sym b.1)
