-- Integers and paths as readers.
use Rattle.std.proofs.Common.{◌≡◌, ℕ, ℤ, pos, ◌-ℤ◌, suc, Bool, true, false, cond, Option, Some, None, Err, List, [], ◌∷◌, ◌++◌, length, refl, sym, ap, ◌∙◌, append_assoc}
use Rattle.std.specs.Borrow.{Bor}
use Rattle.std.proofs.lemmas.List.{append-nil}
use Rattle.text_core.specs.declared.place.Place.{Place}
use Rattle.smv_text.specs.declared.token.Reserved.TheVariants as words
use Rattle.smv_text.specs.declared.token.Sign.TheVariants as signs
use Rattle.smv_text.specs.declared.token.Token.{Token}
use Rattle.smv_text.specs.declared.token.TokenKind.{TokenKind}
use Rattle.smv_text.specs.declared.token.TokenKind.TheVariants as kind
use Rattle.smv_text.specs.declared.tree.Path.{Path}
use Rattle.smv_expressions.specs.declared.stop.Stop.{Stop}
use Rattle.smv_expressions.specs.declared.stop.Stop.TheVariants.{Dead, NoMemory}
use Rattle.smv_parse.specs.Answers.{Loses}
use Rattle.smv_grammar.specs.Machine.{path_head, longer}
use Rattle.smv_grammar.specs.Marks.{is_sign}
use Rattle.smv_grammar.specs.Readers.{Reading, found, died, Reader, fail, mapped, with_first, many, either, nothing}
use Rattle.smv_grammar.specs.Reading.{Found, first_number, first_integer, integer_at, negated, first_path, path_at, path_on, path_step, with_name}
use Rattle.smv_expressions.specs.Following.{Finds}
use Rattle.smv_grammar.specs.Reading as reading
use Rattle.smv_grammar.specs.Rules.{name, name_of, number, symbol, behind, integer, integer_pick, steps, path, path_pick}
use Rattle.smv_grammar.proofs.Choices.{Free, of_none, either_picks, either_passes, one_reads, one_dies, one_ends}
use Rattle.smv_grammar.proofs.Lawful.{Lawful}
use Rattle.smv_parse.proofs.Leads.{law_shrinks, Shrinks, many_steps, many_dies, many_ends, number_found, number_lost}
use Rattle.smv_grammar.proofs.Lists.{Behind, behind_law}
use Rattle.smv_grammar.proofs.Mapped.{mapped_reads, mapped_dies}
use Rattle.smv_grammar.proofs.Sections.{StepAt, lawful_symbol, lawful_path, NotDot}
use Rattle.smv_grammar.proofs.Types.{lawful_integer}
use Rattle.smv_text.specs.Grammar.{SpellsInteger, SpellsPath}

-- what is found, wherever it is found
abbrev told : {A : Type 0} → Reading A → Found A
told (found a g rest) = reading.found a rest
told (died n) = reading.lost n

told_found : {A : Type 0} (r : Reader A) (R : A → List Token → Type 0) (stops : List Token → Type 0) → Lawful r R of_none stops → (h : Option Place) (xs : List Token) (o : Found A) → o ≡ told (r h xs)
    → (v : A) (rest : List Token) → o ≡ reading.found v rest → r h xs ≡ found v h rest
told_found {A} r R stops l h xs o e v rest f = go (r h xs) refl
  where
    go : (z : Reading A) → r h xs ≡ z → r h xs ≡ found v h rest
    go (found a g ys) d =
        let same : reading.found v rest ≡ reading.found a ys = sym f ∙ e ∙ ap told d in
        let first : v ≡ a = cc in
        let behind_it : rest ≡ ys = cc in
        d ∙ ap (λ z. found z g ys) (sym first) ∙ ap (λ z. found v z ys) (l.sound h xs a g ys d).high ∙ ap (found v h) (sym behind_it)
    go (died n) d = let same : reading.found v rest ≡ reading.lost n = sym f ∙ e ∙ ap told d in cc

told_lost : {A : Type 0} (r : Reader A) (h : Option Place) (xs : List Token) (o : Found A) → o ≡ told (r h xs) → (n : ℕ) → o ≡ reading.lost n → r h xs ≡ died n
told_lost {A} r h xs o e n f = go (r h xs) refl
  where
    go : (z : Reading A) → r h xs ≡ z → r h xs ≡ died n
    go (found a g ys) d = let same : reading.lost n ≡ reading.found a ys = sym f ∙ e ∙ ap told d in cc
    go (died m) d = let same : reading.lost n ≡ reading.lost m = sym f ∙ e ∙ ap told d in let first : m ≡ n = cc in d ∙ ap died first

-- integers
minus_told : (h : Option Place) (xs : List Token) → negated (first_number xs) ≡ told (mapped (λ q. pos 0 -ℤ pos q.0) number h xs)
minus_told h xs = go (first_number xs) refl
  where
    go : (o : Found ℕ) → first_number xs ≡ o → negated o ≡ told (mapped (λ q. pos 0 -ℤ pos q.0) number h xs)
    go (reading.found n rest) e = let p = number_found h xs n rest e in ap told (sym (mapped_reads (λ q. pos 0 -ℤ pos q.0) number p.1))
    go (reading.lost n) e = ap told (sym (mapped_dies (λ q. pos 0 -ℤ pos q.0) number (number_lost h xs n e)))

integer_told : (h : Option Place) (xs : List Token) → first_integer xs ≡ told (integer h xs)
unfolding integer
integer_told h [] = ap told (sym (either_passes integer_pick fail h [] tt))
integer_told h (x ∷ xs) = go x.kind refl
  where
    go : (k : TokenKind) → x.kind ≡ k → integer_at k xs ≡ told (either integer_pick fail h (x ∷ xs))
    go (kind.Number n) e = ap told (sym (either_picks integer_pick fail h x xs (nothing (pos n)) (ap (λ k. integer_pick k x.place) e)))
    go (kind.Sign signs.Minus) e = minus_told h xs ∙ ap told (sym (either_picks integer_pick fail h x xs (mapped (λ q. pos 0 -ℤ pos q.0) number) (ap (λ k. integer_pick k x.place) e)))
    go _ e = ap told (sym (either_passes integer_pick fail h (x ∷ xs) (ap (λ k. integer_pick k x.place) e)))

pub integer_found : (h : Option Place) (xs : List Token) (i : ℤ) (rest : List Token) → first_integer xs ≡ reading.found i rest → integer h xs ≡ found i h rest
integer_found h xs i rest e = told_found integer SpellsInteger Free lawful_integer h xs (first_integer xs) (integer_told h xs) i rest e

pub integer_loses : (h : Option Place) (xs : List Token) (e : Stop) → Finds {Y = ℤ × Bor (List Token)} (λ x. (x.0, x.1.now)) (first_integer xs) (Err e) → Loses (integer h xs) e
integer_loses h xs (Dead n) f = told_lost integer h xs (first_integer xs) (integer_told h xs) n f
integer_loses h xs NoMemory f = tt

-- paths
abbrev longer_by : Path → List (List ℕ) → Path
longer_by q ns = record { from_self = q.from_self; names = q.names ++ ns; place = q.place }

abbrev walked : Path → Reading (List (List ℕ)) → Found Path
walked q (found ns g rest) = reading.found (longer_by q ns) rest
walked q (died n) = reading.lost n

walked_first : (q : Path) (n : List ℕ) (o : Reading (List (List ℕ))) → walked (longer q n) o ≡ walked q (with_first n o)
walked_first q n (found ns g rest) = ap (λ z. reading.found (record { from_self = q.from_self; names = z; place = q.place }) rest) (append_assoc q.names (n ∷ []) ns)
walked_first q n (died m) = refl

step_shrinks : Shrinks (behind signs.Dot symbol)
step_shrinks = law_shrinks (behind signs.Dot symbol) (Behind signs.Dot StepAt) of_none Free (behind_law symbol StepAt of_none Free lawful_symbol signs.Dot)

symbol_reads : (h : Option Place) (y : Token) (ys : List Token) (n : List ℕ) → y.kind ≡ kind.Ident n → symbol h (y ∷ ys) ≡ found n h ys
unfolding symbol
symbol_reads h y ys n e = mapped_reads (λ q. q.0) name (one_reads name_of h y ys n (ap name_of e))

symbol_dies : (h : Option Place) (y : Token) (ys : List Token) → name_of y.kind ≡ None → symbol h (y ∷ ys) ≡ died (suc (length ys))
unfolding symbol
symbol_dies h y ys e = mapped_dies (λ q. q.0) name (one_dies name_of h y ys e)

symbol_ends : (h : Option Place) → symbol h [] ≡ died 0
unfolding symbol
symbol_ends h = mapped_dies (λ q. q.0) name (one_ends name_of h)

no_dot : (q : Path) (h : Option Place) (xs : List Token) → NotDot xs → reading.found q xs ≡ walked q (many (behind signs.Dot symbol) h xs)
no_dot q h xs u = ap (λ z. reading.found (record { from_self = q.from_self; names = z; place = q.place }) xs) (sym (append-nil q.names)) ∙ ap (walked q) (sym (many_ends (behind signs.Dot symbol) h xs u))

on_steps : (h : Option Place) (xs : List Token) (q : Path) → path_on q xs ≡ walked q (many (behind signs.Dot symbol) h xs)
on_steps h [] q = no_dot q h [] tt
on_steps h (x ∷ []) q = go (is_sign signs.Dot x.kind) refl
  where
    go : (b : Bool) → is_sign signs.Dot x.kind ≡ b → cond b (reading.lost 0) (reading.found q (x ∷ [])) ≡ walked q (many (behind signs.Dot symbol) h (x ∷ []))
    go true e = ap (walked q) (sym (many_dies (behind signs.Dot symbol) h x [] symbol (ap (λ b. cond b (Some symbol) None) e) 0 (symbol_ends h)))
    go false e = no_dot q h (x ∷ []) (ap (λ b. cond b (Some symbol) None) e)
on_steps h (x ∷ y ∷ ys) q = go (is_sign signs.Dot x.kind) refl (λ p. on_steps h ys p)
  where
    named : is_sign signs.Dot x.kind ≡ true → (k : TokenKind) → y.kind ≡ k → ((p : Path) → path_on p ys ≡ walked p (many (behind signs.Dot symbol) h ys))
        → with_name k (λ n. path_on (longer q n) ys) (suc (length ys)) ≡ walked q (many (behind signs.Dot symbol) h (x ∷ y ∷ ys))
    named e (kind.Ident n) f ih = ih (longer q n) ∙ walked_first q n (many (behind signs.Dot symbol) h ys)
        ∙ ap (walked q) (sym (many_steps (behind signs.Dot symbol) step_shrinks h x (y ∷ ys) symbol (ap (λ b. cond b (Some symbol) None) e) n h ys (symbol_reads h y ys n f)))
    named e k f ih = ap (walked q) (sym (many_dies (behind signs.Dot symbol) h x (y ∷ ys) symbol (ap (λ b. cond b (Some symbol) None) e) (suc (length ys)) (symbol_dies h y ys (ap name_of f))))

    go : (b : Bool) → is_sign signs.Dot x.kind ≡ b → ((p : Path) → path_on p ys ≡ walked p (many (behind signs.Dot symbol) h ys))
        → cond b (path_step q (y ∷ ys)) (reading.found q (x ∷ y ∷ ys)) ≡ walked q (many (behind signs.Dot symbol) h (x ∷ y ∷ ys))
    go true e ih = named e y.kind refl ih
    go false e ih = no_dot q h (x ∷ y ∷ ys) (ap (λ b. cond b (Some symbol) None) e)

made_told : (f : List (List ℕ) → Path) (q : Path) → ((ns : List (List ℕ)) → f ns ≡ longer_by q ns) → (h : Option Place) (xs : List Token) → walked q (steps h xs) ≡ told (mapped f steps h xs)
made_told f q same h xs = go (steps h xs) refl
  where
    go : (o : Reading (List (List ℕ))) → steps h xs ≡ o → walked q (steps h xs) ≡ told (mapped f steps h xs)
    go (found ns g rest) e = ap (walked q) e ∙ ap (λ z. reading.found z rest) (sym (same ns)) ∙ ap told (sym (mapped_reads f steps e))
    go (died n) e = ap (walked q) e ∙ ap told (sym (mapped_dies f steps e))

steps_told : (h : Option Place) (xs : List Token) (q : Path) → path_on q xs ≡ walked q (steps h xs)
unfolding steps
steps_told h xs q = on_steps h xs q

path_told : (h : Option Place) (xs : List Token) → first_path xs ≡ told (path h xs)
unfolding path
path_told h [] = ap told (sym (either_passes path_pick fail h [] tt))
path_told h (x ∷ xs) = go x.kind refl
  where
    go : (k : TokenKind) → x.kind ≡ k → path_at k x.place xs ≡ told (either path_pick fail h (x ∷ xs))
    go (kind.Ident n) e =
        steps_told h xs (path_head (kind.Ident n) x.place)
        ∙ made_told (λ ns. record { from_self = false; names = n ∷ ns; place = x.place }) (path_head (kind.Ident n) x.place) (λ ns. refl) h xs
        ∙ ap told (sym (either_picks path_pick fail h x xs (mapped (λ ns. record { from_self = false; names = n ∷ ns; place = x.place }) steps) (ap (λ k. path_pick k x.place) e)))
    go (kind.Reserved words.Itself) e =
        steps_told h xs (path_head (kind.Reserved words.Itself) x.place)
        ∙ made_told (λ ns. record { from_self = true; names = ns; place = x.place }) (path_head (kind.Reserved words.Itself) x.place) (λ ns. refl) h xs
        ∙ ap told (sym (either_picks path_pick fail h x xs (mapped (λ ns. record { from_self = true; names = ns; place = x.place }) steps) (ap (λ k. path_pick k x.place) e)))
    go _ e = ap told (sym (either_passes path_pick fail h (x ∷ xs) (ap (λ k. path_pick k x.place) e)))

pub path_found : (h : Option Place) (xs : List Token) (q : Path) (rest : List Token) → first_path xs ≡ reading.found q rest → path h xs ≡ found q h rest
path_found h xs q rest e = told_found path SpellsPath NotDot lawful_path h xs (first_path xs) (path_told h xs) q rest e

pub path_loses : (h : Option Place) (xs : List Token) (e : Stop) → Finds {Y = Path × Bor (List Token)} (λ x. (x.0, x.1.now)) (first_path xs) (Err e) → Loses (path h xs) e
path_loses h xs (Dead n) f = told_lost path h xs (first_path xs) (path_told h xs) n f
path_loses h xs NoMemory f = tt
