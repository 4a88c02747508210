-- What stands next is one, so what a text lexes to and its refusal are one.
use Rattle.std.proofs.Common.{◌≡◌, ◌≢◌, ◌<◌, ℕ, false, leb, eqb, Option, Some, None, Result, Ok, Err, List, [], ◌∷◌, ◌++◌, length, take, drop, refl, sym, ap, ◌∙◌, subst, inl, inr, arith}
use Rattle.std.specs.Prelude.{IfOk, IfErr, fold}
use Rattle.std.proofs.lemmas.List.{append-nil, length-append, take-append-drop}
use Rattle.std.proofs.lemmas.Bool.{ne_eqb, le-leb, lt-leb, leb-true, leb-false, cond_both, eqb-true, eqb-false, cases_lt, cond-true, cond-false}
use Rattle.text_core.specs.declared.end.End.{End}
use Rattle.text_core.specs.declared.end.End.TheVariants.{Bad, NoMemory}
use Rattle.text_core.specs.declared.place.Place.{Place}
use Rattle.text_core.specs.declared.place.Refusal.{Refusal}
use Rattle.smv_text.specs.declared.token.TokenKind.{TokenKind}
use Rattle.smv_text.specs.declared.token.Token.{Token}
use Rattle.smv_lex.specs.Answer.{Reads, Stops, IsRefused}
use Rattle.smv_text.specs.Bytes.{IsLongest}
use Rattle.text_core.specs.Places.{after, next_place}
use Rattle.smv_text.specs.Words.{IsGap, IsLexeme, kind_of}
use Rattle.smv_text.specs.Lexing.{TokenList, Next, finished, bad, Steps, ends, token, stray, misspelled, too_nested, LexesFrom, last, more, Refuses, here, later, Lexes, IsLexRefusal, opened_by, opened, most_brackets}
use Rattle.smv_lex.specs.Reading.{gap_length, lexeme_length, kinded, sized, behind, next_of}
use Rattle.smv_lex.specs.Adding.{IsBad}
use Rattle.smv_lex.proofs.Longest.{same_front, longest_gap, longest_lexeme, lexeme_longest, no_lexeme}

abbrev Gap : List ℕ → List ℕ → Type 0
Gap f r = IsGap f

-- next_of at a gap and what follows it
next_gap : (n : ℕ) (at : Place) (g rest : List ℕ) → IsLongest Gap g rest → next_of n at (g ++ rest) ≡ behind n (after at g) rest
unfolding next_of
next_gap n at g rest a =
    let text = g ++ rest in
    let k = gap_length false text in
    let s = same_front {P = Gap} (take k text) (drop k text) g rest (take-append-drop k text) (longest_gap text) a in
    ap (λ x. behind n (after at x) (drop k text)) s.0 ∙ ap (behind n (after at g)) s.1

pub lexeme_there : (l r : List ℕ) → IsLexeme l r → 0 < length l
lexeme_there [] r a = absurd a
lexeme_there (b ∷ bs) r a = omega arith

pub behind_more : (n : ℕ) (at : Place) (text : List ℕ) → 0 < lexeme_length text → behind n at text ≡ kinded n at (take (lexeme_length text) text) (drop (lexeme_length text) text) (kind_of (take (lexeme_length text) text))
behind_more n at [] lt = absurd (omega arith)
behind_more n at (b ∷ bs) lt = rw (ne_eqb (lexeme_length (b ∷ bs)) 0 (λ e. omega arith)) refl

behind_lexeme : (n : ℕ) (at : Place) (l r : List ℕ) → IsLongest IsLexeme l r → behind n at (l ++ r) ≡ kinded n at l r (kind_of l)
behind_lexeme n at l r a =
    let text = l ++ r in
    let k = lexeme_length text in
    let lt : 0 < k = omega (arith, lexeme_there l r a.fits, lexeme_longest l r a.fits) in
    let s = same_front {P = IsLexeme} (take k text) (drop k text) l r (take-append-drop k text) (longest_lexeme text lt) a in
    behind_more n at text lt ∙ ap (λ x. kinded n at x (drop k text) (kind_of x)) s.0 ∙ ap (λ x. kinded n at l x (kind_of l)) s.1

next_lexeme : (n : ℕ) (at : Place) (g l r : List ℕ) → IsLongest Gap g (l ++ r) → IsLongest IsLexeme l r → next_of n at (g ++ (l ++ r)) ≡ kinded n (after at g) l r (kind_of l)
next_lexeme n at g l r a b = next_gap n at g (l ++ r) a ∙ behind_lexeme n (after at g) l r b

all_gap : (g : List ℕ) → IsGap g → IsLongest Gap g []
all_gap g a = record { fits = a; longest = λ f r e b. omega (arith, ap length e, length-append f r, length-append {A = ℕ} g []) }

pub no_size : (n : ℕ) (at : Place) (rest : List ℕ) → rest ≢ [] → lexeme_length rest ≡ 0 → behind n at rest ≡ sized n at rest 0
no_size n at [] some e = absurd (some refl)
no_size n at (b ∷ bs) some e = ap (sized n at (b ∷ bs)) e

stray_size : (rest : List ℕ) → ((f r : List ℕ) → f ++ r ≡ rest → IsLexeme f r → ⊥) → lexeme_length rest ≡ 0
stray_size rest none =
    elim (cases_lt 0 (lexeme_length rest)) [
      | inl lt ↦ absurd (none _ _ (take-append-drop (lexeme_length rest) rest) (longest_lexeme rest lt).fits)
      | inr le ↦ omega arith
    ]

pub next_is : {n : ℕ} {at : Place} {text : List ℕ} {x : Next} → Steps n at text x → next_of n at text ≡ x
next_is {n = n} (ends at g a) = ap (next_of n at) (sym (append-nil g)) ∙ next_gap n at g [] (all_gap g a)
next_is {n = n} (token at g l r k a b d f) =
    next_lexeme n at g l r a b ∙ ap (kinded n (after at g) l r) d ∙ cond-true _ _ _ (le-leb (opened_by n k) most_brackets f)
next_is {n = n} (stray at g rest a some none) = next_gap n at g rest a ∙ no_size n (after at g) rest some (stray_size rest none)
next_is {n = n} (misspelled at g l r a b d) = next_lexeme n at g l r a b ∙ ap (kinded n (after at g) l r) d
next_is {n = n} (too_nested at g l r k a b d f) =
    next_lexeme n at g l r a b ∙ ap (kinded n (after at g) l r) d ∙ cond-false _ _ _ (lt-leb (opened_by n k) most_brackets f)

-- and something stands next
kinded_steps : (n : ℕ) (at : Place) (g l r : List ℕ) (o : Option TokenKind) → IsLongest Gap g (l ++ r) → IsLongest IsLexeme l r → kind_of l ≡ o → Steps n at (g ++ (l ++ r)) (kinded n (after at g) l r o)
kinded_steps n at g l r None a b d = misspelled at g l r a b d
kinded_steps n at g l r (Some k) a b d =
    cond_both (leb (opened_by n k) most_brackets) _ _ (Steps n at (g ++ (l ++ r))) (λ e. token at g l r k a b d (leb-true _ _ e)) (λ e. too_nested at g l r k a b d (leb-false _ _ e))

sized_steps : (n : ℕ) (at : Place) (g : List ℕ) (b : ℕ) (bs : List ℕ) → IsLongest Gap g (b ∷ bs) → Steps n at (g ++ b ∷ bs) (sized n (after at g) (b ∷ bs) (lexeme_length (b ∷ bs)))
sized_steps n at g b bs a =
    let text : List ℕ = b ∷ bs in
    let k = lexeme_length text in
    cond_both (eqb k 0) _ _ (Steps n at (g ++ text)) (λ e. stray at g text a (λ same. cc) (no_lexeme text (eqb-true k 0 e)))
    (λ e. let P : List ℕ → Type 0 = λ x. IsLongest Gap g x → Steps n at (g ++ x) (kinded n (after at g) (take k text) (drop k text) (kind_of (take k text))) in
    subst P (take-append-drop k text) (λ a'. kinded_steps n at g (take k text) (drop k text) (kind_of (take k text)) a' (longest_lexeme text (let h = eqb-false k 0 e in omega arith)) refl) a)

behind_steps : (n : ℕ) (at : Place) (g rest : List ℕ) → IsLongest Gap g rest → Steps n at (g ++ rest) (behind n (after at g) rest)
behind_steps n at g [] a = subst (λ (x : List ℕ). Steps n at x finished) (sym (append-nil g)) (ends at g a.fits)
behind_steps n at g (b ∷ bs) a = sized_steps n at g b bs a

pub next_steps : (n : ℕ) (at : Place) (text : List ℕ) → Steps n at text (next_of n at text)
unfolding next_of
next_steps n at text =
    let k = gap_length false text in
    let P : List ℕ → Type 0 = λ x. Steps n at x (behind n (after at (take k text)) (drop k text)) in
    subst P (take-append-drop k text) (behind_steps n at (take k text) (drop k text) (longest_gap text))

one_next : {n n' : ℕ} {at at' : Place} {text text' : List ℕ} {x y : Next} → Steps n at text x → Steps n' at' text' y → n ≡ n' → at ≡ at' → text ≡ text' → x ≡ y
one_next a b c e f = let p = next_is a in let q = next_is b in cc

pub one_list : {bs cs ts us : List Token} {at at' : Place} {text text' : List ℕ} → LexesFrom bs at text ts → LexesFrom cs at' text' us → bs ≡ cs → at ≡ at' → text ≡ text' → ts ≡ us
one_list (last a) (last b) d e f = d
one_list (last a) (more t n r b h) d e f = let x = one_next a b (ap opened d) e f in cc
one_list (more t n r b h) (last a) d e f = let x = one_next b a (ap opened d) e f in cc
one_list {bs = bs} {cs = cs} (more t n r a h) (more t' n' r' b h') d e f =
    let x = one_next a b (ap opened d) e f in
    let places : n ≡ n' = cc in
    let rests : r ≡ r' = cc in
    let tokens : t ≡ t' = cc in
    let before : (bs ++ t ∷ []) ≡ (cs ++ t' ∷ []) = cc in
    one_list h h' before places rests

pub no_list : {bs cs ts : List Token} {at at' : Place} {text text' : List ℕ} {why : Refusal} → LexesFrom bs at text ts → Refuses cs at' text' why → bs ≡ cs → at ≡ at' → text ≡ text' → ⊥
no_list (last a) (here why b) d e f = let x = one_next a b (ap opened d) e f in cc
no_list (last a) (later t n r b h) d e f = let x = one_next a b (ap opened d) e f in cc
no_list (more t n r a h) (here why b) d e f = let x = one_next a b (ap opened d) e f in cc
no_list {bs = bs} {cs = cs} (more t n r a h) (later t' n' r' b h') d e f =
    let x = one_next a b (ap opened d) e f in
    let places : n ≡ n' = cc in
    let rests : r ≡ r' = cc in
    let tokens : t ≡ t' = cc in
    let before : (bs ++ t ∷ []) ≡ (cs ++ t' ∷ []) = cc in
    no_list h h' before places rests

pub one_refusal : {bs cs : List Token} {at at' : Place} {text text' : List ℕ} {why other : Refusal} → Refuses bs at text why → Refuses cs at' text' other → bs ≡ cs → at ≡ at' → text ≡ text' → why ≡ other
one_refusal (here why a) (here other b) d e f = let x = one_next a b (ap opened d) e f in cc
one_refusal (here why a) (later t n r b h) d e f = let x = one_next a b (ap opened d) e f in cc
one_refusal (later t n r a h) (here why b) d e f = let x = one_next a b (ap opened d) e f in cc
one_refusal {bs = bs} {cs = cs} (later t n r a h) (later t' n' r' b h') d e f =
    let x = one_next a b (ap opened d) e f in
    let places : n ≡ n' = cc in
    let rests : r ≡ r' = cc in
    let tokens : t ≡ t' = cc in
    let before : (bs ++ t ∷ []) ≡ (cs ++ t' ∷ []) = cc in
    one_refusal h h' before places rests

pub one_lexing : (text : List ℕ) (ts us : List Token) → Lexes text ts → Lexes text us → ts ≡ us
one_lexing text ts us a b = one_list a b refl refl refl

pub one_lex_refusal : (text : List ℕ) (why other : Refusal) → IsLexRefusal text why → IsLexRefusal text other → why ≡ other
one_lex_refusal text why other a b = one_refusal a b refl refl refl

pub not_both : (text : List ℕ) (ts : List Token) (why : Refusal) → Lexes text ts → IsLexRefusal text why → ⊥
not_both text ts why a b = no_list a b refl refl refl

-- the answers, from the two that the loop gives
pub exact_from : (text : List ℕ) (r : Result TokenList End) → IfOk r (λ tokens. Lexes text tokens.items) → IfErr r (IsRefused text) → (ts : List Token) → Lexes text ts → Reads ts r
exact_from text (Ok v) a b ts h = one_lexing text v.items ts a h
exact_from text (Err (Bad why)) a b ts h = not_both text ts why h b
exact_from text (Err NoMemory) a b ts h = tt

pub stops_from : (text : List ℕ) (r : Result TokenList End) → IfOk r (λ tokens. Lexes text tokens.items) → IfErr r (IsRefused text) → (why : Refusal) → IsLexRefusal text why → Stops why r
stops_from text (Ok v) a b why h = not_both text v.items why a h
stops_from text (Err (Bad other)) a b why h = one_lex_refusal text other why b h
stops_from text (Err NoMemory) a b why h = tt

-- the place behind two pieces, one after the other
pub after-append : (p : Place) (xs ys : List ℕ) → after p (xs ++ ys) ≡ after (after p xs) ys
after-append p [] ys = refl
after-append p (x ∷ xs) ys = after-append (next_place p x) xs ys

-- the end of the text is the same, seen from behind its gap
pub gap_end : (p : Place) (text : List ℕ) (at : Place) (rest : List ℕ) → at ≡ after p (take (gap_length false text) text) → rest ≡ drop (gap_length false text) text → after at rest ≡ after p text
gap_end p text at rest e f =
    let k = gap_length false text in
    ap (λ q. after q rest) e ∙ ap (after (after p (take k text))) f ∙ sym (after-append p (take k text) (drop k text)) ∙ ap (after p) (take-append-drop k text)

-- what the loop's parts make of the text that is left, where so many brackets stand open
pub next_from : (n m : ℕ) (p : Place) (text : List ℕ) (at : Place) (rest : List ℕ) (x : Next)
    → n ≡ m → at ≡ after p (take (gap_length false text) text) → rest ≡ drop (gap_length false text) text → behind n at rest ≡ x → Steps m p text x
unfolding next_of
next_from n m p text at rest x c e f h =
    let is : next_of n p text ≡ x = ap (λ q. behind n q (drop (gap_length false text) text)) (sym e) ∙ ap (behind n at) (sym f) ∙ h in
    subst (λ (k : ℕ). Steps k p text x) c (subst (Steps n p text) is (next_steps n p text))

-- what the loop answers where reading a token fails
pub refused_from : (whole : List ℕ) (before : List Token) (n : ℕ) (p : Place) (text : List ℕ) (at : Place) (rest : List ℕ) (why : End)
    → n ≡ opened before → at ≡ after p (take (gap_length false text) text) → rest ≡ drop (gap_length false text) text → IsBad n at rest why
    → ((w : Refusal) → Refuses before p text w → IsLexRefusal whole w) → IsRefused whole why
refused_from whole before n p text at rest (Bad why) c e f g all = all why (here why (next_from n (opened before) p text at rest (bad why) c e f g))
refused_from whole before n p text at rest NoMemory c e f g all = tt

-- one token more
opened_push : (n : ℕ) (ts : List Token) (t : Token) → fold (λ m u. opened_by m u.kind) n (ts ++ t ∷ []) ≡ opened_by (fold (λ m u. opened_by m u.kind) n ts) t.kind
opened_push n [] t = refl
opened_push n (x ∷ xs) t = opened_push (opened_by n x.kind) xs t

pub opened_more : (n m : ℕ) (ts us : List Token) (t : Token) → n ≡ opened ts → m ≡ opened_by n t.kind → us ≡ ts ++ t ∷ [] → m ≡ opened us
opened_more n m ts us t c e f = e ∙ ap (λ k. opened_by k t.kind) c ∙ sym (opened_push 0 ts t) ∙ ap opened (sym f)
