-- What the parser's functions answer, by what the functions answer that they call.
use Rattle.std.proofs.Common.{◌≡◌, ℕ, zero, suc, ◌≤◌, Bool, true, false, cond, Option, Some, None, Result, Err, List, [], ◌∷◌, ◌++◌, map, length, refl, sym, ap, ◌∙◌, subst, append_assoc, arith}
use Rattle.std.specs.Prelude.{is_some}
use Rattle.std.specs.Borrow.{Bor}
use Rattle.std.proofs.lemmas.List.{append-nil, length-append}
use Rattle.text_core.specs.declared.place.Place.{Place}
use Rattle.smv_text.specs.declared.token.Reserved.{Reserved}
use Rattle.smv_text.specs.declared.token.Sign.{Sign}
use Rattle.smv_text.specs.declared.token.Sign.TheVariants as signs
use Rattle.smv_text.specs.declared.token.Token.{Token}
use Rattle.smv_text.specs.declared.token.TokenKind.{TokenKind}
use Rattle.smv_text.specs.declared.token.TokenKind.TheVariants as kind
use Rattle.smv_text.specs.Grammar.{start}
use Rattle.smv_text.specs.Tree.{Tree}
use Rattle.smv_expressions.specs.declared.stop.Stop.{Stop}
use Rattle.smv_expressions.specs.declared.stop.Stop.TheVariants.{Dead, NoMemory}
use Rattle.smv_parse.specs.Answers.{Loses, Gives, first_is}
use Rattle.smv_grammar.specs.Marks.{is_sign, is_word}
use Rattle.smv_grammar.specs.Readers.{Reading, found, died, Reader, and_then, fail, both, mapped, Pick, either, with_first, loop, many}
use Rattle.smv_grammar.specs.Reading.{after, after_word, first_name, name_at, first_number, number_at}
use Rattle.smv_expressions.specs.Following.{Finds, Misses}
use Rattle.smv_grammar.specs.Reading as reading
use Rattle.smv_grammar.specs.Rules.{sign, word, number, number_of, name, name_of, mark, behind, listed}
use Rattle.smv_grammar.proofs.Choices.{PickLaw, Unpicked, one_reads, one_dies, one_ends, either_picks}
use Rattle.smv_grammar.proofs.Lawful.{Lawful, then_reads, then_dies, both_dies_first, paired}
use Rattle.smv_grammar.proofs.Loops.{loop_ends, loop_steps}
use Rattle.smv_grammar.proofs.Mapped.{mapped_dies}
use Rattle.smv_grammar.proofs.Tokens.{sign_is, word_is}

-- where a part dies, the whole does
loses_through : {A B : Type 0} (o : Reading A) (part : Reading B) → ((n : ℕ) → part ≡ died n → o ≡ died n) → (e : Stop) → Loses part e → Loses o e
loses_through o part h (Dead n) l = h n l
loses_through o part h NoMemory l = tt

pub gives_exit : {A B Y : Type 0} (view : Y → A × Option Place × List Token) (o : Reading A) (part : Reading B) (r : Result Y Stop) (e : Stop) → ((d : Stop) × (r ≡ Err d) × (d ≡ e))
    → ((n : ℕ) → part ≡ died n → o ≡ died n) → Loses part e → Gives view o r
gives_exit view o part r e p h l = subst (Gives view o) (sym (p.1 ∙ ap Err p.2)) (loses_through o part h e l)

-- where two readings are one
pub gives_same : {A Y : Type 0} (view : Y → A × Option Place × List Token) (o other : Reading A) (r : Result Y Stop) → o ≡ other → Gives view other r → Gives view o r
gives_same view o other r e g = subst (λ z. Gives view z r) (sym e) g

-- signs and words
pub after_found : (s : Sign) (xs rest : List Token) → after s xs ≡ Some rest → (x : Token) × (xs ≡ x ∷ rest) × (x.kind ≡ kind.Sign s)
after_found s [] rest e = absurd (let f : None ≡ Some rest = e in cc)
after_found s (x ∷ xs) rest e = go (is_sign s x.kind) refl e
  where
    go : (b : Bool) → is_sign s x.kind ≡ b → cond b (Some xs) None ≡ Some rest → (y : Token) × (x ∷ xs ≡ y ∷ rest) × (y.kind ≡ kind.Sign s)
    go true f g = (x, let same : xs ≡ rest = cc in ap (λ z. x ∷ z) same, sign_is s x.kind f)
    go false f g = absurd (let h : None ≡ Some rest = g in cc)

pub word_found : (w : Reserved) (xs rest : List Token) → after_word w xs ≡ Some rest → (x : Token) × (xs ≡ x ∷ rest) × (x.kind ≡ kind.Reserved w)
word_found w [] rest e = absurd (let f : None ≡ Some rest = e in cc)
word_found w (x ∷ xs) rest e = go (is_word w x.kind) refl e
  where
    go : (b : Bool) → is_word w x.kind ≡ b → cond b (Some xs) None ≡ Some rest → (y : Token) × (x ∷ xs ≡ y ∷ rest) × (y.kind ≡ kind.Reserved w)
    go true f g = (x, let same : xs ≡ rest = cc in ap (λ z. x ∷ z) same, word_is w x.kind f)
    go false f g = absurd (let h : None ≡ Some rest = g in cc)

pub not_first : (s : Sign) (x : Token) (xs : List Token) → after s (x ∷ xs) ≡ None → is_sign s x.kind ≡ false
not_first s x xs e = go (is_sign s x.kind) refl e
  where
    go : (b : Bool) → is_sign s x.kind ≡ b → cond b (Some xs) None ≡ None → is_sign s x.kind ≡ false
    go true f g = absurd (let h : Some xs ≡ None = g in cc)
    go false f g = f

pub not_first_word : (w : Reserved) (x : Token) (xs : List Token) → after_word w (x ∷ xs) ≡ None → is_word w x.kind ≡ false
not_first_word w x xs e = go (is_word w x.kind) refl e
  where
    go : (b : Bool) → is_word w x.kind ≡ b → cond b (Some xs) None ≡ None → is_word w x.kind ≡ false
    go true f g = absurd (let h : Some xs ≡ None = g in cc)
    go false f g = f

pub sign_after : (s : Sign) (h : Option Place) (xs rest : List Token) → after s xs ≡ Some rest → (p : Place) × (sign s h xs ≡ found (tt, p) h rest)
sign_after s h [] rest e = absurd (let f : None ≡ Some rest = e in cc)
sign_after s h (x ∷ xs) rest e = go (is_sign s x.kind) refl e
  where
    go : (b : Bool) → is_sign s x.kind ≡ b → cond b (Some xs) None ≡ Some rest → (p : Place) × (sign s h (x ∷ xs) ≡ found (tt, p) h rest)
    go true f g = (x.place, one_reads (λ k. mark (is_sign s k)) h x xs tt (ap mark f) ∙ ap (found (tt, x.place) h) (let same : xs ≡ rest = cc in same))
    go false f g = absurd (let i : None ≡ Some rest = g in cc)

pub sign_missing : (s : Sign) (h : Option Place) (xs : List Token) → after s xs ≡ None → sign s h xs ≡ died (length xs)
sign_missing s h [] e = one_ends (λ k. mark (is_sign s k)) h
sign_missing s h (x ∷ xs) e = one_dies (λ k. mark (is_sign s k)) h x xs (ap mark (not_first s x xs e))

pub misses_loses : (s : Sign) (h : Option Place) (xs : List Token) (e : Stop) → Misses s xs e → Loses (sign s h xs) e
misses_loses s h xs (Dead n) m = sign_missing s h xs m.1 ∙ ap died (sym m.0)
misses_loses s h xs NoMemory m = absurd m

pub word_after : (w : Reserved) (h : Option Place) (xs rest : List Token) → after_word w xs ≡ Some rest → (p : Place) × (word w h xs ≡ found (tt, p) h rest)
word_after w h [] rest e = absurd (let f : None ≡ Some rest = e in cc)
word_after w h (x ∷ xs) rest e = go (is_word w x.kind) refl e
  where
    go : (b : Bool) → is_word w x.kind ≡ b → cond b (Some xs) None ≡ Some rest → (p : Place) × (word w h (x ∷ xs) ≡ found (tt, p) h rest)
    go true f g = (x.place, one_reads (λ k. mark (is_word w k)) h x xs tt (ap mark f) ∙ ap (found (tt, x.place) h) (let same : xs ≡ rest = cc in same))
    go false f g = absurd (let i : None ≡ Some rest = g in cc)

pub word_missing : (w : Reserved) (h : Option Place) (xs : List Token) → after_word w xs ≡ None → word w h xs ≡ died (length xs)
word_missing w h [] e = one_ends (λ k. mark (is_word w k)) h
word_missing w h (x ∷ xs) e = one_dies (λ k. mark (is_word w k)) h x xs (ap mark (not_first_word w x xs e))

-- numbers and integers
pub number_found : (h : Option Place) (xs : List Token) (n : ℕ) (rest : List Token) → first_number xs ≡ reading.found n rest → (p : Place) × (number h xs ≡ found (n, p) h rest)
number_found h [] n rest e = absurd (let f : reading.lost 0 ≡ reading.found n rest = e in cc)
number_found h (x ∷ xs) n rest e = go x.kind refl e
  where
    lost : (k : TokenKind) → reading.lost (suc (length xs)) ≡ reading.found n rest → (p : Place) × (number h (x ∷ xs) ≡ found (n, p) h rest)
    lost k f = absurd (let g : reading.lost (suc (length xs)) ≡ reading.found n rest = f in cc)

    go : (k : TokenKind) → x.kind ≡ k → number_at k xs ≡ reading.found n rest → (p : Place) × (number h (x ∷ xs) ≡ found (n, p) h rest)
    go (kind.Number m) f g =
        let first : m ≡ n = cc in
        let behind_it : xs ≡ rest = cc in
        (x.place, one_reads number_of h x xs n (ap number_of f ∙ ap Some first) ∙ ap (found (n, x.place) h) behind_it)
    go k f g = lost k g

pub number_lost : (h : Option Place) (xs : List Token) (n : ℕ) → first_number xs ≡ reading.lost n → number h xs ≡ died n
number_lost h [] n e = one_ends number_of h ∙ ap died (let f : 0 ≡ n = cc in f)
number_lost h (x ∷ xs) n e = go x.kind refl e
  where
    go : (k : TokenKind) → x.kind ≡ k → number_at k xs ≡ reading.lost n → number h (x ∷ xs) ≡ died n
    go (kind.Number m) f g = absurd (let i : reading.found m xs ≡ reading.lost n = g in cc)
    go k f g = one_dies number_of h x xs (ap number_of f) ∙ ap died (let same : suc (length xs) ≡ n = cc in same)

pub number_loses : (h : Option Place) (xs : List Token) (e : Stop) → Finds {Y = ℕ × Bor (List Token)} (λ x. (x.0, x.1.now)) (first_number xs) (Err e) → Loses (number h xs) e
number_loses h xs (Dead n) f = number_lost h xs n f
number_loses h xs NoMemory f = tt

-- names
pub name_found : (h : Option Place) (xs : List Token) (n : List ℕ) (rest : List Token) → first_name xs ≡ reading.found n rest → name h xs ≡ found (n, start xs) h rest
name_found h [] n rest e = absurd (let f : reading.lost 0 ≡ reading.found n rest = e in cc)
name_found h (x ∷ xs) n rest e = go x.kind refl e
  where
    lost : reading.lost (suc (length xs)) ≡ reading.found n rest → name h (x ∷ xs) ≡ found (n, x.place) h rest
    lost f = absurd (let g : reading.lost (suc (length xs)) ≡ reading.found n rest = f in cc)

    go : (k : TokenKind) → x.kind ≡ k → name_at k xs ≡ reading.found n rest → name h (x ∷ xs) ≡ found (n, x.place) h rest
    go (kind.Ident m) f g =
        let first : m ≡ n = cc in
        let behind_it : xs ≡ rest = cc in
        one_reads name_of h x xs n (ap name_of f ∙ ap Some first) ∙ ap (found (n, x.place) h) behind_it
    go k f g = lost g

name_lost : (h : Option Place) (xs : List Token) (n : ℕ) → first_name xs ≡ reading.lost n → name h xs ≡ died n
name_lost h [] n e = one_ends name_of h ∙ ap died (let f : 0 ≡ n = cc in f)
name_lost h (x ∷ xs) n e = go x.kind refl e
  where
    go : (k : TokenKind) → x.kind ≡ k → name_at k xs ≡ reading.lost n → name h (x ∷ xs) ≡ died n
    go (kind.Ident m) f g = absurd (let i : reading.found m xs ≡ reading.lost n = g in cc)
    go k f g = one_dies name_of h x xs (ap name_of f) ∙ ap died (let same : suc (length xs) ≡ n = cc in same)

pub name_loses : (h : Option Place) (xs : List Token) (e : Stop) → Finds {Y = List ℕ × Bor (List Token)} (λ x. (x.0, x.1.now)) (first_name xs) (Err e) → Loses (name h xs) e
name_loses h xs (Dead n) f = name_lost h xs n f
name_loses h xs NoMemory f = tt

-- a list
abbrev pub onto : {A : Type 0} → List A → Reading (List A) → Reading (List A)
onto vs (found ws g ys) = found (vs ++ ws) g ys
onto vs (died n) = died n

abbrev pub closed_by : {A : Type 0} → Sign → Reading (List A) → Reading (List A)
closed_by s o = and_then o (λ vs g zs. and_then (sign s g zs) (λ u k ws. found vs k ws))

abbrev joined : {A : Type 0} → A × (List A × (Unit {0} × Place)) → Option Place → List Token → Reading (List A)
joined q g ys = found (q.0 ∷ q.1.0) g ys

abbrev closing : {A : Type 0} → Sign → List A → Option Place → List Token → Reading (List A × (Unit {0} × Place))
closing s ws k zs = and_then (sign s k zs) (paired ws)

abbrev whole_list : {A : Type 0} → Reader A → Sign → Reading A → Reading (List A)
whole_list r s o = and_then (and_then o (λ a g ys. and_then (and_then (many (behind signs.Comma r) g ys) (closing s)) (paired a))) joined

abbrev rest_of_list : {A : Type 0} → A → Reading (List A × (Unit {0} × Place)) → Reading (List A)
rest_of_list v o = and_then (and_then o (paired v)) joined

list_ends : {A : Type 0} (v : A) (ws : List A) (o : Reading (Unit {0} × Place)) → rest_of_list v (and_then o (paired ws)) ≡ and_then o (λ u m us. found (v ∷ ws) m us)
list_ends v ws (found u m us) = refl
list_ends v ws (died n) = refl

list_goes : {A : Type 0} (s : Sign) (v : A) (o : Reading (List A)) → rest_of_list v (and_then o (closing s)) ≡ closed_by s (onto (v ∷ []) o)
list_goes s v (found ws k zs) = list_ends v ws (sign s k zs)
list_goes s v (died n) = refl

pub listed_goes : {A : Type 0} (r : Reader A) (s : Sign) (h : Option Place) (xs : List Token) (v : A) (g : Option Place) (ys : List Token) → r h xs ≡ found v g ys
    → listed r s h xs ≡ closed_by s (onto (v ∷ []) (many (behind signs.Comma r) g ys))
unfolding listed both mapped
listed_goes r s h xs v g ys e = ap (whole_list r s) e ∙ list_goes s v (many (behind signs.Comma r) g ys)

pub listed_dies : {A : Type 0} (r : Reader A) (s : Sign) (h : Option Place) (xs : List Token) (n : ℕ) → r h xs ≡ died n → listed r s h xs ≡ died n
unfolding listed
listed_dies r s h xs n e = mapped_dies _ _ (both_dies_first _ _ e)

pub onto_first : {A : Type 0} (vs : List A) (a : A) (o : Reading (List A)) → onto vs (with_first a o) ≡ onto (vs ++ a ∷ []) o
onto_first vs a (found ws g ys) = ap (λ z. found z g ys) (sym (append_assoc vs (a ∷ []) ws))
onto_first vs a (died n) = refl

pub map_push : {A B : Type 0} (f : A → B) (vs : List A) (x : A) → map f (vs ++ x ∷ []) ≡ map f vs ++ f x ∷ []
map_push f [] x = refl
map_push f (v ∷ vs) x = ap (λ z. f v ∷ z) (map_push f vs x)

-- no reader that is picked leaves more tokens than there were
abbrev pub Shrinks : {A : Type 0} → Pick A → Type 0
Shrinks {A} pick = (k : TokenKind) (p : Place) (r : Reader A) → pick k p ≡ Some r → (h : Option Place) (xs : List Token) (a : A) (g : Option Place) (ys : List Token) → r h xs ≡ found a g ys → length ys ≤ length xs

pub law_shrinks : {A : Type 0} (pick : Pick A) (P : TokenKind → Place → A → List Token → Type 0) (of : A → List Tree) (stops : List Token → Type 0)
    → ((k : TokenKind) (p : Place) → PickLaw (pick k p) (P k p) of stops) → Shrinks pick
law_shrinks {A} pick P of stops law k p r e h xs a g ys d = go (pick k p) e (law k p)
  where
    go : (o : Option (Reader A)) → o ≡ Some r → PickLaw o (P k p) of stops → length ys ≤ length xs
    go None f l = absurd (let i : None ≡ Some r = f in cc)
    go (Some q) f l =
        let same : q ≡ r = cc in
        let s = l.sound h xs a g ys (ap (λ (z : Reader A). z h xs) same ∙ d) in
        let n : length xs ≡ length (s.tokens ++ ys) = ap length s.split in
        omega (arith, length-append s.tokens ys)

fuel : {A : Type 0} (pick : Pick A) → Shrinks pick → (n m : ℕ) (h : Option Place) (xs : List Token) → length xs ≤ n → length xs ≤ m → loop n pick h xs ≡ loop m pick h xs
fuel pick s n m h [] le le' = loop_ends pick n h [] tt ∙ sym (loop_ends pick m h [] tt)
fuel pick s zero m h (x ∷ xs) le le' = absurd (omega arith)
fuel pick s (suc n) zero h (x ∷ xs) le le' = absurd (omega arith)
fuel {A} pick s (suc n) (suc m) h (x ∷ xs) le le' = go (pick x.kind x.place) refl (λ g ys l. fuel pick s n m g ys (omega arith) (omega arith))
  where
    within : (r : Reader A) → pick x.kind x.place ≡ Some r → ((g : Option Place) (ys : List Token) → length ys ≤ length xs → loop n pick g ys ≡ loop m pick g ys)
        → (o : Reading A) → r h xs ≡ o → and_then o (λ a g ys. with_first a (loop n pick g ys)) ≡ and_then o (λ a g ys. with_first a (loop m pick g ys))
    within r e ih (found a g ys) f = ap (with_first a) (ih g ys (s x.kind x.place r e h xs a g ys f))
    within r e ih (died k) f = refl

    go : (o : Option (Reader A)) → pick x.kind x.place ≡ o → ((g : Option Place) (ys : List Token) → length ys ≤ length xs → loop n pick g ys ≡ loop m pick g ys)
        → loop (suc n) pick h (x ∷ xs) ≡ loop (suc m) pick h (x ∷ xs)
    go None e ih = loop_ends pick (suc n) h (x ∷ xs) e ∙ sym (loop_ends pick (suc m) h (x ∷ xs) e)
    go (Some r) e ih = loop_steps pick n h x xs r e ∙ within r e ih (r h xs) refl ∙ sym (loop_steps pick m h x xs r e)

module _ {A : Type 0} (pick : Pick A) where
  pub many_steps : Shrinks pick → (h : Option Place) (x : Token) (xs : List Token) (r : Reader A) → pick x.kind x.place ≡ Some r → (a : A) (g : Option Place) (ys : List Token) → r h xs ≡ found a g ys
      → many pick h (x ∷ xs) ≡ with_first a (many pick g ys)
  unfolding many
  many_steps s h x xs r e a g ys f =
      loop_steps pick (length xs) h x xs r e ∙ then_reads (λ a g ys. with_first a (loop (length xs) pick g ys)) f
      ∙ ap (with_first a) (fuel pick s (length xs) (length ys) g ys (s x.kind x.place r e h xs a g ys f) (omega arith))

  pub many_dies : (h : Option Place) (x : Token) (xs : List Token) (r : Reader A) → pick x.kind x.place ≡ Some r → (n : ℕ) → r h xs ≡ died n → many pick h (x ∷ xs) ≡ died n
  unfolding many
  many_dies h x xs r e n f = loop_steps pick (length xs) h x xs r e ∙ then_dies (λ a g ys. with_first a (loop (length xs) pick g ys)) f

  pub many_ends : (h : Option Place) (xs : List Token) → Unpicked pick xs → many pick h xs ≡ found [] h xs
  unfolding many
  many_ends h xs u = loop_ends pick (length xs) h xs u

  -- by a test of the first token
  abbrev pub Agrees : (TokenKind → Bool) → Type 0
  Agrees test = (k : TokenKind) (p : Place) → is_some (pick k p) ≡ test k

  some_pick : (o : Option (Reader A)) → is_some o ≡ true → (r : Reader A) × (o ≡ Some r)
  some_pick None e = absurd (let f : false ≡ true = e in cc)
  some_pick (Some r) e = (r, refl)

  no_pick : (o : Option (Reader A)) → is_some o ≡ false → o ≡ None
  no_pick None e = refl
  no_pick (Some r) e = absurd (let f : true ≡ false = e in cc)

  pub test_fails : (test : TokenKind → Bool) → Agrees test → (xs : List Token) → first_is test xs ≡ false → Unpicked pick xs
  test_fails test a [] e = tt
  test_fails test a (x ∷ xs) e = no_pick (pick x.kind x.place) (a x.kind x.place ∙ e)

  pub part_steps : Shrinks pick → (test : TokenKind → Bool) → Agrees test → (h : Option Place) (xs : List Token) → first_is test xs ≡ true → (v : A) (g : Option Place) (ys : List Token)
      → either pick fail h xs ≡ found v g ys → many pick h xs ≡ with_first v (many pick g ys)
  part_steps s test a h [] e v g ys d = absurd (let f : false ≡ true = e in cc)
  part_steps s test a h (x ∷ xs) e v g ys d = let p = some_pick (pick x.kind x.place) (a x.kind x.place ∙ e) in many_steps s h x xs p.0 p.1 v g ys (sym (either_picks pick fail h x xs p.0 p.1) ∙ d)

  pub part_dies : (test : TokenKind → Bool) → Agrees test → (h : Option Place) (xs : List Token) → first_is test xs ≡ true → (n : ℕ) → either pick fail h xs ≡ died n → many pick h xs ≡ died n
  part_dies test a h [] e n d = absurd (let f : false ≡ true = e in cc)
  part_dies test a h (x ∷ xs) e n d = let p = some_pick (pick x.kind x.place) (a x.kind x.place ∙ e) in many_dies h x xs p.0 p.1 n (sym (either_picks pick fail h x xs p.0 p.1) ∙ d)

-- one more element behind a comma
pub comma_steps : {A : Type 0} (r : Reader A) → Shrinks (behind signs.Comma r) → (g : Option Place) (ys zs : List Token) → after signs.Comma ys ≡ Some zs → (v : A) (k : Option Place) (ws : List Token)
    → r g zs ≡ found v k ws → many (behind signs.Comma r) g ys ≡ with_first v (many (behind signs.Comma r) k ws)
comma_steps r s g ys zs e v k ws d =
    let f = after_found signs.Comma ys zs e in
    ap (many (behind signs.Comma r) g) f.1 ∙ many_steps (behind signs.Comma r) s g f.0 zs r (ap (λ z. behind signs.Comma r z f.0.place) f.2) v k ws d

pub comma_dies : {A : Type 0} (r : Reader A) (g : Option Place) (ys zs : List Token) → after signs.Comma ys ≡ Some zs → (n : ℕ) → r g zs ≡ died n → many (behind signs.Comma r) g ys ≡ died n
comma_dies r g ys zs e n d =
    let f = after_found signs.Comma ys zs e in
    ap (many (behind signs.Comma r) g) f.1 ∙ many_dies (behind signs.Comma r) g f.0 zs r (ap (λ z. behind signs.Comma r z f.0.place) f.2) n d

pub comma_ends : {A : Type 0} (r : Reader A) (g : Option Place) (ys : List Token) → after signs.Comma ys ≡ None → many (behind signs.Comma r) g ys ≡ found [] g ys
comma_ends {A} r g ys e = many_ends (behind signs.Comma r) g ys (go ys e)
  where
    go : (zs : List Token) → after signs.Comma zs ≡ None → Unpicked (behind signs.Comma r) zs
    go [] f = tt
    go (z ∷ zs) f = ap (λ b. cond b (Some r) None) (not_first signs.Comma z zs f)

pub behind_shrinks : {A : Type 0} (s : Sign) (r : Reader A) → ((h : Option Place) (xs : List Token) (a : A) (g : Option Place) (ys : List Token) → r h xs ≡ found a g ys → length ys ≤ length xs) → Shrinks (behind s r)
behind_shrinks {A} s r shorter k p q e h xs a g ys d = go (is_sign s k) e
  where
    go : (b : Bool) → cond b (Some r) None ≡ Some q → length ys ≤ length xs
    go true f = let same : r ≡ q = cc in shorter h xs a g ys (ap (λ (z : Reader A). z h xs) same ∙ d)
    go false f = absurd (let i : None ≡ Some q = f in cc)

pub lawful_shorter : {A : Type 0} (r : Reader A) (R : A → List Token → Type 0) (of : A → List Tree) (stops : List Token → Type 0) → Lawful r R of stops
    → (h : Option Place) (xs : List Token) (a : A) (g : Option Place) (ys : List Token) → r h xs ≡ found a g ys → length ys ≤ length xs
lawful_shorter r R of stops l h xs a g ys e =
    let s = l.sound h xs a g ys e in
    let n : length xs ≡ length (s.tokens ++ ys) = ap length s.split in
    omega (arith, length-append s.tokens ys)

-- a list that ends
pub list_closes : {A : Type 0} (s : Sign) (vs : List A) (g : Option Place) (ys zs : List Token) → after s ys ≡ Some zs → closed_by s (onto vs (found [] g ys)) ≡ found vs g zs
list_closes s vs g ys zs e = let p = sign_after s g ys zs e in ap (λ o. and_then o (λ u k ws. found (vs ++ []) k ws)) p.1 ∙ ap (λ z. found z g zs) (append-nil vs)

pub list_dies : {A : Type 0} (s : Sign) (vs : List A) (g : Option Place) (ys : List Token) (n : ℕ) → sign s g ys ≡ died n → closed_by s (onto vs (found [] g ys)) ≡ died n
list_dies s vs g ys n e = ap (λ o. and_then o (λ u k ws. found (vs ++ []) k ws)) e

pub none_left : {A : Type 0} (xs : List A) → length xs ≡ 0 → xs ≡ []
none_left [] e = refl
none_left (x ∷ xs) e = absurd (omega arith)

pub after_shorter : (s : Sign) (xs rest : List Token) → after s xs ≡ Some rest → length xs ≡ suc (length rest)
after_shorter s xs rest e = ap length (after_found s xs rest e).1
