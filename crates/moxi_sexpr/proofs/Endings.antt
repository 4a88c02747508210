-- A bracket that stands open is refused at the end of the text, and each text is spelled or refused.
use Rattle.std.proofs.Common.{◌≡◌, ℕ, suc, List, [], ◌∷◌, ◌++◌, refl, sym, ap, ◌∙◌, arith}
use Rattle.text_core.specs.declared.place.Place.{Place}
use Rattle.text_core.specs.declared.place.Kind.{Kind}
use Rattle.text_core.specs.declared.place.Kind.TheVariants.{S, M, B, X, Y}
use Rattle.text_core.specs.declared.place.Refusal.{Refusal}
use Rattle.text_core.specs.Places.{after, next_place, start}
use Rattle.moxi_sexpr.specs.Atoms.{spelled}
use Rattle.moxi_sexpr.specs.Lexing.{Token, Mark, Next, finished, go, bad, refusal, past, Steps, blank, comment, ends, unclosed, opening, too_deep, closing, unopened, atoms, stray, Refuses, here, later}
use Rattle.moxi_sexpr.specs.Grammar.{RefusesWith}

after_append : (xs ys : List ℕ) (p : Place) → after p (xs ++ ys) ≡ after (after p xs) ys
after_append [] ys p = refl
after_append (x ∷ xs) ys p = after_append xs ys (next_place p x)

number_of : Kind → ℕ
number_of (S n) = n
number_of (M n) = n
number_of (B n) = n
number_of (X n) = n
number_of (Y n) = n

refused_number : Next → ℕ
refused_number finished = 0
refused_number (go t next rest) = 0
refused_number (bad why) = number_of why.kind

refused_place : Place → Next → Place
refused_place p finished = p
refused_place p (go t next rest) = p
refused_place p (bad why) = why.place

other_number : (n : ℕ) (p q : Place) → bad (refusal n p) ≡ bad (refusal 2 q) → n ≡ 2
unfolding refused_number number_of
other_number n p q e = ap refused_number e

same_place : (p q : Place) → bad (refusal 2 p) ≡ bad (refusal 2 q) → q ≡ p
unfolding refused_place
same_place p q e = sym (ap (refused_place p) e)

-- the place where a step refuses an open bracket
unclosed_at : {m : Mark} {text : List ℕ} {x : Next} → Steps m text x → (p : Place) → x ≡ bad (refusal 2 p) → p ≡ after m.place text
unclosed_at (blank b e s) p f = unclosed_at s p f
unclosed_at (comment {m = m} {text = text} free a g s) p f = unclosed_at s p f ∙ sym (after_append free text (next_place m.place 59))
unclosed_at (ends m e) p f = absurd (cc)
unclosed_at (unclosed m h) p f = same_place m.place p f
unclosed_at (opening m rest h) p f = absurd (cc)
unclosed_at (too_deep m rest h) p f = absurd (let n = other_number 3 m.place p f in omega arith)
unclosed_at (closing m rest n e) p f = absurd (cc)
unclosed_at (unopened m rest e) p f = absurd (let n = other_number 1 m.place p f in omega arith)
unclosed_at (atoms m text h name rest s) p f = absurd (cc)
unclosed_at (stray m b rest e f g h none) p i = absurd (let n = other_number 1 m.place p i in omega arith)

-- the place behind a token and what follows it
step_place : {m : Mark} {text : List ℕ} {x : Next} → Steps m text x → (t : Token) (next : Mark) (rest : List ℕ) → x ≡ go t next rest → after next.place rest ≡ after m.place text
step_place (blank b e s) t next rest f = step_place s t next rest f
step_place (comment {m = m} {text = text} free a g s) t next rest f = step_place s t next rest f ∙ sym (after_append free text (next_place m.place 59))
step_place (ends m e) t next rest f = absurd (cc)
step_place (unclosed m h) t next rest f = absurd (cc)
step_place (opening m more h) t next rest f =
    let marks : past m (40 ∷ []) (suc m.depth) ≡ next = cc in
    let rests : more ≡ rest = cc in
    ap (λ (n : Mark). after n.place rest) (sym marks) ∙ ap (after (next_place m.place 40)) (sym rests)
step_place (too_deep m more h) t next rest f = absurd (cc)
step_place (closing m more n e) t next rest f =
    let marks : past m (41 ∷ []) n ≡ next = cc in
    let rests : more ≡ rest = cc in
    ap (λ (n : Mark). after n.place rest) (sym marks) ∙ ap (after (next_place m.place 41)) (sym rests)
step_place (unopened m more e) t next rest f = absurd (cc)
step_place (atoms m text h name more s) t next rest f =
    let marks : past m (spelled h name) m.depth ≡ next = cc in
    let rests : more ≡ rest = cc in
    ap (λ (n : Mark). after n.place rest) (sym marks) ∙ ap (after (after m.place (spelled h name))) (sym rests) ∙ sym (after_append (spelled h name) more m.place) ∙ ap (after m.place) (sym s.is)
step_place (stray m b more e f g h none) t next rest i = absurd (cc)

refused_at : {m : Mark} {text : List ℕ} {why : Refusal} → Refuses m text why → (p : Place) → why ≡ refusal 2 p → p ≡ after m.place text
refused_at (here why s) p e = unclosed_at s p (ap bad e)
refused_at (later t next rest s h) p e = refused_at h p e ∙ step_place s t next rest refl

pub unclosed_place : (text : List ℕ) (place : Place) → RefusesWith text (refusal 2 place) → place ≡ after start text
unclosed_place text place h = refused_at h place refl
