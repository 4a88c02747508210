-- Each text lexes or is refused.
use Rattle.std.proofs.Common.{◌≡◌, ◌≤◌, ◌<◌, ◌⊎◌, ℕ, zero, suc, List, [], ◌∷◌, ◌++◌, length, refl, ap, inl, inr, arith}
use Rattle.std.proofs.lemmas.List.{length-append}
use Rattle.text_core.specs.declared.place.Place.{Place}
use Rattle.text_core.specs.declared.place.Refusal.{Refusal}
use Rattle.smv_text.specs.declared.token.Token.{Token}
use Rattle.text_core.specs.Places.{start}
use Rattle.smv_lex.specs.Answer.{IsAnswered}
use Rattle.smv_text.specs.Lexing.{Next, finished, go, bad, Steps, ends, token, stray, misspelled, too_nested, LexesFrom, last, more, Refuses, here, later, opened}
use Rattle.smv_lex.proofs.Laws.{lexeme_there, next_steps}

shorter : {n : ℕ} {at : Place} {text : List ℕ} {x : Next} → Steps n at text x → (t : Token) (next : Place) (rest : List ℕ) → x ≡ go t next rest → length rest < length text
shorter (ends at g a) t next rest e = absurd (cc)
shorter (token at g l r k a b d f) t next rest e =
    let same : r ≡ rest = cc in omega (arith, ap length same, lexeme_there l r b.fits, length-append g (l ++ r), length-append l r)
shorter (stray at g rest' a some none) t next rest e = absurd (cc)
shorter (misspelled at g l r a b d) t next rest e = absurd (cc)
shorter (too_nested at g l r k a b d f) t next rest e = absurd (cc)

abbrev Behind : List Token → Place → List ℕ → Type 0
Behind before at text = ((ts : List Token) × LexesFrom before at text ts) ⊎ ((why : Refusal) × Refuses before at text why)

by_next : (before : List Token) (at : Place) (text : List ℕ) (x : Next) → Steps (opened before) at text x
    → ((t : Token) (next : Place) (rest : List ℕ) → x ≡ go t next rest → Behind (before ++ t ∷ []) next rest) → Behind before at text
by_next before at text finished s on = inl (before, last s)
by_next before at text (go t next rest) s on =
    elim (on t next rest refl) [ inl p ↦ inl (p.0, more t next rest s p.1) | inr p ↦ inr (p.0, later t next rest s p.1) ]
by_next before at text (bad why) s on = inr (why, here why s)

by_length : (size : ℕ) (before : List Token) (at : Place) (text : List ℕ) → length text ≤ size → Behind before at text
by_length zero before at text h =
    let s = next_steps (opened before) at text in
    by_next before at text _ s (λ t next rest e. absurd (omega (arith, h, shorter s t next rest e)))
by_length (suc size) before at text h =
    let s = next_steps (opened before) at text in
    by_next before at text _ s (λ t next rest e. by_length size (before ++ t ∷ []) next rest (omega (arith, h, shorter s t next rest e)))

pub answered : (text : List ℕ) → IsAnswered text
answered text = by_length (length text) [] start text (omega arith)
