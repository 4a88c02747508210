-- Lists with commas, and lists in brackets.
use Rattle.std.proofs.Common.{◌≡◌, inl, inr, Bool, true, false, cond, Some, None, List, [], ◌∷◌, ◌++◌, refl, sym, ap, ◌∙◌, subst}
use Rattle.std.proofs.lemmas.List.{append-nil}
use Rattle.text_core.specs.declared.place.Place.{Place}
use Rattle.smv_text.specs.declared.token.Sign.{Sign}
use Rattle.smv_text.specs.declared.token.Sign.TheVariants as signs
use Rattle.smv_text.specs.declared.token.TokenKind.{TokenKind}
use Rattle.smv_text.specs.declared.token.TokenKind.TheVariants as kind
use Rattle.smv_text.specs.declared.token.Token.{Token}
use Rattle.smv_text.specs.Tree.{Tree}
use Rattle.smv_text.specs.Grammar.{IsSign}
use Rattle.smv_grammar.specs.Marks.{is_sign}
use Rattle.smv_grammar.specs.Readers.{Reader, both, many, either, nothing}
use Rattle.smv_grammar.specs.Rules.{sign, behind, listed, bracketed}
use Rattle.smv_grammar.proofs.Lawful.{Lawful, Both, of_both, lawful_both}
use Rattle.smv_grammar.proofs.Choices.{Free, of_none, PickLaw, Either, Unpicked, Nothing, lawful_nothing, lawful_either}
use Rattle.smv_grammar.proofs.Mapped.{lawful_mapped}
use Rattle.smv_grammar.proofs.Loops.{Many, none, more, of_all, lawful_many}
use Rattle.smv_grammar.proofs.Tokens.{sign_is, sign_itself, lawful_as, lawful_before, SignAt, lawful_sign, some_sign}

-- behind this sign
abbrev pub Behind : {A : Type 0} → Sign → (A → List Token → Type 0) → TokenKind → Place → A → List Token → Type 0
Behind s R k p v ys = (k ≡ kind.Sign s) × R v ys

module _ {A : Type 0} (r : Reader A) (R : A → List Token → Type 0) (of : A → List Tree) (stops : List Token → Type 0) (l : Lawful r R of stops) where
  pub behind_law : (s : Sign) (k : TokenKind) (p : Place) → PickLaw (behind s r k p) (Behind s R k p) of stops
  behind_law s k p = go (is_sign s k) refl
    where
      none_behind : is_sign s k ≡ false → (v : A) (ys : List Token) → Behind s R k p v ys → ⊥
      none_behind e v ys d = let f : true ≡ false = sym (sign_itself s) ∙ sym (ap (is_sign s) d.0) ∙ e in cc

      go : (b : Bool) → is_sign s k ≡ b → PickLaw (cond b (Some r) None) (Behind s R k p) of stops
      go false e = none_behind e
      go true e = lawful_as r R (Behind s R k p) of stops l (λ v ys d. (sign_is s k e, d)) (λ v ys d. d.1)

-- a first token that is no such sign
pub not_behind : {A : Type 0} (s : Sign) (r : Reader A) (x : Token) (xs : List Token) → is_sign s x.kind ≡ false → Unpicked (behind s r) (x ∷ xs)
not_behind s r x xs e = ap (λ b. cond b (Some r) None) e

-- one or more with commas between them, and what ends them
pub record Listed {A : Type 0} (R : A → List Token → Type 0) (s : Sign) (vs : List A) (xs : List Token) : Type 0 where
  pub first : A
  pub others : List A
  pub tokens : List Token
  pub remainder : List Token
  pub closing : Token
  pub values : vs ≡ first ∷ others
  pub split : xs ≡ tokens ++ (remainder ++ closing ∷ [])
  pub spells : R first tokens
  pub more : Many (Behind signs.Comma R) others remainder
  pub closes : IsSign s closing

module _ {A : Type 0} (r : Reader A) (R : A → List Token → Type 0) (of : A → List Tree) (stops : List Token → Type 0) (l : Lawful r R of stops) (s : Sign)
    (comma_stops : (x : Token) (xs : List Token) → IsSign signs.Comma x → stops (x ∷ xs)) (close_stops : (x : Token) (xs : List Token) → IsSign s x → stops (x ∷ xs))
    (parts : is_sign signs.Comma (kind.Sign s) ≡ false) where
  -- no comma stands first, and what stands first ends an element
  abbrev Ending : List Token → Type 0
  Ending xs = (x : Token) × (ys : List Token) × (xs ≡ x ∷ ys) × IsSign s x

  ending_over : (rest : List Token) → Ending rest → Unpicked (behind signs.Comma r) rest × stops rest
  ending_over rest e = (
    subst (Unpicked (behind signs.Comma r)) (sym e.2) (not_behind signs.Comma r e.0 e.1 (ap (is_sign signs.Comma) e.3 ∙ parts)),
    subst stops (sym e.2) (close_stops e.0 e.1 e.3),
  )

  commas : Lawful (many (behind signs.Comma r)) (Many (Behind signs.Comma R)) (of_all of) Ending
  commas = lawful_many (behind signs.Comma r) (Behind signs.Comma R) of stops Ending (behind_law r R of stops l signs.Comma) ending_over (λ x v ys zs d. comma_stops x zs d.0)

  closed : Lawful (both (many (behind signs.Comma r)) (sign s)) (Both (Many (Behind signs.Comma R)) (SignAt s)) (of_both (of_all of) of_none) Free
  closed = lawful_both (many (behind signs.Comma r)) (sign s) (Many (Behind signs.Comma R)) (SignAt s) (of_all of) of_none Ending Free commas (lawful_sign s) (some_sign s)
      (λ w zs rest d stop. (d.0, rest, ap (λ z. z ++ rest) d.1, d.2))

  -- what begins here, what is further or what closes, ends an element
  remainder_stops : (w : List A × (Unit {0} × Place)) (zs rest : List Token) → Both (Many (Behind signs.Comma R)) (SignAt s) w zs → Free rest → stops (zs ++ rest)
  remainder_stops w zs rest d stop = subst (λ z. stops (z ++ rest)) (sym d.2) (go d.3)
    where
      go : {vs : List A} {ys : List Token} → Many (Behind signs.Comma R) vs ys → stops ((ys ++ d.1) ++ rest)
      go none = subst (λ z. stops (z ++ rest)) (sym d.4.1) (close_stops d.4.0 rest d.4.2)
      go (more {ys = us} {zs = zs} x e m) = comma_stops x (((us ++ zs) ++ d.1) ++ rest) e.0

  pub lawful_listed : Lawful (listed r s) (Listed R s) (of_all of) Free
  unfolding listed
  lawful_listed = lawful_mapped (λ q. q.0 ∷ q.1.0) (both r (both (many (behind signs.Comma r)) (sign s)))
      (Both R (Both (Many (Behind signs.Comma R)) (SignAt s))) (of_both of (of_both (of_all of) of_none)) Free
      (lawful_both r (both (many (behind signs.Comma r)) (sign s)) R (Both (Many (Behind signs.Comma R)) (SignAt s)) of (of_both (of_all of) of_none) stops Free l closed
      (([], (some_sign s).0), (some_sign s).1, ([], (some_sign s).1, refl, none, (some_sign s).2)) remainder_stops)
      (Listed R s) (of_all of)
      (λ q ys d. record {
        first = q.0;
        others = q.1.0;
        tokens = d.0;
        remainder = d.4.0;
        closing = d.4.4.0;
        values = refl;
        split = d.2 ∙ ap (λ z. d.0 ++ z) (d.4.2 ∙ ap (λ z. d.4.0 ++ z) d.4.4.1);
        spells = d.3;
        more = d.4.3;
        closes = d.4.4.2;
      })
      (λ vs ys d. (
        (d.first, (d.others, (tt, d.closing.place))),
        sym d.values,
        (d.tokens, d.remainder ++ d.closing ∷ [], d.split, d.spells, (d.remainder, d.closing ∷ [], refl, d.more, (d.closing, refl, d.closes, refl))),
      ))
      (λ q. ap (λ z. of q.0 ++ z) (sym (append-nil (of_all of q.1.0))))

-- none, or those in brackets
pub data Bracketed {A : Type 0} (R : A → List Token → Type 0) : List A → List Token → Type 0 where
  no_brackets : Bracketed R [] []
  empty_brackets : (opening closing : Token) → IsSign signs.Open opening → IsSign signs.Close closing → Bracketed R [] (opening ∷ closing ∷ [])
  in_brackets : {vs : List A} {ys : List Token} (opening : Token) → IsSign signs.Open opening → Listed R signs.Close vs ys → Bracketed R vs (opening ∷ ys)

-- no round bracket opens here
abbrev pub NotOpen : List Token → Type 0
NotOpen [] = Unit {0}
NotOpen (x ∷ xs) = is_sign signs.Open x.kind ≡ false

module _ {A : Type 0} (r : Reader A) (R : A → List Token → Type 0) (of : A → List Tree) (stops : List Token → Type 0) (l : Lawful r R of stops)
    (comma_stops : (x : Token) (xs : List Token) → IsSign signs.Comma x → stops (x ∷ xs)) (close_stops : (x : Token) (xs : List Token) → IsSign signs.Close x → stops (x ∷ xs))
    (opens : (v : A) (ys : List Token) → R v ys → (x : Token) × (zs : List Token) × (ys ≡ x ∷ zs) × (is_sign signs.Close x.kind ≡ false)) where
  abbrev Inner : List A → List Token → Type 0
  Inner = Either (Behind signs.Close (Nothing [])) (Listed R signs.Close)

  unclosed : (vs : List A) (ys rest : List Token) → Listed R signs.Close vs ys → Free rest → Unpicked (behind signs.Close (nothing {A = List A} [])) (ys ++ rest)
  unclosed vs ys rest d stop =
      let o = opens d.first d.tokens d.spells in
      subst (λ z. Unpicked (behind signs.Close (nothing {A = List A} [])) (z ++ rest)) (sym (d.split ∙ ap (λ z. z ++ (d.remainder ++ d.closing ∷ [])) o.2))
      (not_behind signs.Close (nothing {A = List A} []) o.0 ((o.1 ++ (d.remainder ++ d.closing ∷ [])) ++ rest) o.3)

  inner : Lawful (either (behind signs.Close (nothing [])) (listed r signs.Close)) Inner (of_all of) Free
  inner = lawful_either (behind signs.Close (nothing [])) (Behind signs.Close (Nothing [])) (of_all of) Free
      (behind_law (nothing []) (Nothing []) (of_all of) Free (lawful_nothing [] (of_all of) Free refl) signs.Close)
      (listed r signs.Close) (Listed R signs.Close) (lawful_listed r R of stops l signs.Close comma_stops close_stops refl) unclosed

  outer : Lawful (bracketed r) (Either (Behind signs.Open Inner) (Nothing [])) (of_all of) NotOpen
  unfolding bracketed
  outer = lawful_either (behind signs.Open (either (behind signs.Close (nothing [])) (listed r signs.Close))) (Behind signs.Open Inner) (of_all of) NotOpen
      (behind_law (either (behind signs.Close (nothing [])) (listed r signs.Close)) Inner (of_all of) NotOpen
      (lawful_before (either (behind signs.Close (nothing [])) (listed r signs.Close)) Inner (of_all of) Free NotOpen inner (λ rest stop. tt)) signs.Open)
      (nothing []) (Nothing []) (lawful_nothing [] (of_all of) NotOpen refl)
      (λ v ys rest d stop. subst (λ z. Unpicked (behind signs.Open (either (behind signs.Close (nothing [])) (listed r signs.Close))) (z ++ rest)) (sym d.1) (shut rest stop))
    where
      shut : (rest : List Token) → NotOpen rest → Unpicked (behind signs.Open (either (behind signs.Close (nothing [])) (listed r signs.Close))) rest
      shut [] stop = tt
      shut (x ∷ xs) stop = not_behind signs.Open (either (behind signs.Close (nothing [])) (listed r signs.Close)) x xs stop

  to_brackets : (vs : List A) (ys : List Token) → Either (Behind signs.Open Inner) (Nothing []) vs ys → Bracketed R vs ys
  to_brackets vs ys (inr d) = subst (λ z. Bracketed R vs z) (sym d.1) (subst (λ (z : List A). Bracketed R z []) (sym d.0) no_brackets)
  to_brackets vs ys (inl d) = subst (Bracketed R vs) (sym d.2) (go d.3.1)
    where
      go : Inner vs d.1 → Bracketed R vs (d.0 ∷ d.1)
      go (inl e) = subst (λ z. Bracketed R vs (d.0 ∷ z)) (sym (e.2 ∙ ap (λ z. e.0 ∷ z) e.3.1.1)) (subst (λ (z : List A). Bracketed R z (d.0 ∷ e.0 ∷ [])) (sym e.3.1.0) (empty_brackets d.0 e.0 d.3.0 e.3.0))
      go (inr e) = in_brackets d.0 d.3.0 e

  from_brackets : (vs : List A) (ys : List Token) → Bracketed R vs ys → Either (Behind signs.Open Inner) (Nothing []) vs ys
  from_brackets vs ys no_brackets = inr (refl, refl)
  from_brackets vs ys (empty_brackets opening closing o c) = inl (opening, closing ∷ [], refl, (o, inl (closing, [], refl, (c, (refl, refl)))))
  from_brackets vs ys (in_brackets {ys = zs} opening o d) = inl (opening, zs, refl, (o, inr d))

  pub lawful_bracketed : Lawful (bracketed r) (Bracketed R) (of_all of) NotOpen
  lawful_bracketed = lawful_as (bracketed r) (Either (Behind signs.Open Inner) (Nothing [])) (Bracketed R) (of_all of) NotOpen outer to_brackets from_brackets
