-- Single tokens, and choices by the first token.
use Rattle.std.proofs.Common.{◌≡◌, ◌⊎◌, inl, inr, ℕ, suc, Option, Some, None, List, [], ◌∷◌, ◌++◌, length, refl, sym, ap, ◌∙◌, subst, arith}
use Rattle.std.proofs.lemmas.List.{length-append}
use Rattle.text_core.specs.declared.place.Place.{Place}
use Rattle.smv_text.specs.declared.token.TokenKind.{TokenKind}
use Rattle.smv_text.specs.declared.token.Token.{Token}
use Rattle.smv_text.specs.Tree.{Tree}
use Rattle.smv_grammar.specs.Readers.{found, died, Reader, nothing, fail, one_of, one, Pick, picked, either, highs}
use Rattle.smv_grammar.proofs.Lawful.{Sound, Complete, Begun, Lawful, Inhabited, found_same, not_both, begun_within, same_front, died_count}

abbrev pub Free : List Token → Type 0
Free xs = Unit {0}

abbrev pub Nothing : {A : Type 0} → A → A → List Token → Type 0
Nothing a v xs = (v ≡ a) × (xs ≡ [])

abbrev pub of_none : {A : Type 0} → A → List Tree
of_none v = []

module _ {A : Type 0} (a : A) (of : A → List Tree) (stops : List Token → Type 0) (none : of a ≡ []) where
  pub lawful_nothing : Lawful (nothing a) (Nothing a) of stops
  lawful_nothing = record {
    sound = λ h xs b g rest e. let m = found_same e in record {
      value = a;
      tokens = [];
      split = m.2;
      spells = (refl, refl);
      high = sym m.1 ∙ ap (highs h) (sym none);
      same = λ no. sym m.0;
    };
    complete = λ v ys d h rest stop. record {
      value = a;
      reads = ap (λ z. found a h (z ++ rest)) d.1 ∙ ap (λ z. found a (highs h z) rest) (sym (ap of d.0 ∙ none));
      same = λ no. sym d.0;
    };
    stays = λ h front x back other e. absurd (not_both e);
    keeps = λ h front x back other b g left e. let m = found_same e in ap (λ z. found z h (front ++ x ∷ other)) m.0 ∙ ap (λ z. found b z (front ++ x ∷ other)) m.1 ∙ ap (found b g) (same_front front left x back other m.2);
    begins = λ h xs n e. absurd (not_both e);
    unique = λ v w ys zs rest other d e stop stop' same. (d.0 ∙ sym e.0, d.1 ∙ sym e.1);
  }

abbrev pub Never : {A : Type 0} → A → List Token → Type 0
Never v xs = ⊥

-- a token with this value
abbrev pub One : {A : Type 0} → (TokenKind → Option A) → A × Place → List Token → Type 0
One value v xs = (x : Token) × (xs ≡ x ∷ []) × (value x.kind ≡ Some v.0) × (v.1 ≡ x.place)

module _ {A : Type 0} (value : TokenKind → Option A) where
  pub one_reads : (h : Option Place) (x : Token) (xs : List Token) (a : A) → value x.kind ≡ Some a → one value h (x ∷ xs) ≡ found (a, x.place) h xs
  unfolding one
  one_reads h x xs a e = ap (λ o. one_of o x h xs) e

  pub one_dies : (h : Option Place) (x : Token) (xs : List Token) → value x.kind ≡ None → one value h (x ∷ xs) ≡ died (suc (length xs))
  unfolding one
  one_dies h x xs e = ap (λ o. one_of o x h xs) e

  pub one_ends : (h : Option Place) → one value h [] ≡ died 0
  unfolding one
  one_ends h = refl

  -- what a token comes to
  tried : (h : Option Place) (x : Token) (xs : List Token) → ((a : A) × (value x.kind ≡ Some a) × (one value h (x ∷ xs) ≡ found (a, x.place) h xs)) ⊎ (one value h (x ∷ xs) ≡ died (suc (length xs)))
  tried h x xs = go (value x.kind) refl
    where
      go : (o : Option A) → value x.kind ≡ o → ((a : A) × (value x.kind ≡ Some a) × (one value h (x ∷ xs) ≡ found (a, x.place) h xs)) ⊎ (one value h (x ∷ xs) ≡ died (suc (length xs)))
      go None e = inr (one_dies h x xs e)
      go (Some a) e = inl (a, e, one_reads h x xs a e)

  one_sound : (h : Option Place) (xs : List Token) (v : A × Place) (g : Option Place) (rest : List Token) → one value h xs ≡ found v g rest → Sound (One value) of_none h xs v g rest
  one_sound h [] v g rest e = absurd (not_both (sym e ∙ one_ends h))
  one_sound h (x ∷ xs) v g rest e = elim (tried h x xs) [
    | inl i ↦ let m = found_same (sym i.2 ∙ e) in record {
      value = (i.0, x.place);
      tokens = x ∷ [];
      split = ap (λ z. x ∷ z) m.2;
      spells = (x, refl, i.1, refl);
      high = sym m.1;
      same = λ no. sym m.0;
    }
    | inr f ↦ absurd (not_both (sym e ∙ f))
  ]

  one_keeps : (h : Option Place) (front : List Token) (x : Token) (back other : List Token) (v : A × Place) (g : Option Place) (left : List Token)
      → one value h (front ++ x ∷ back) ≡ found v g (left ++ x ∷ back) → one value h (front ++ x ∷ other) ≡ found v g (left ++ x ∷ other)
  one_keeps h [] x back other v g left e = elim (tried h x back) [
    | inl i ↦ let m = found_same (sym i.2 ∙ e) in absurd (let n : length back ≡ length (left ++ x ∷ back) = ap length m.2 in omega (arith, length-append left (x ∷ back)))
    | inr f ↦ absurd (not_both (sym e ∙ f))
  ]
  one_keeps h (f ∷ fs) x back other v g left e = elim (tried h f (fs ++ x ∷ back)) [
    | inl i ↦ let m = found_same (sym i.2 ∙ e) in
        one_reads h f (fs ++ x ∷ other) i.0 i.1 ∙ ap (λ z. found z h (fs ++ x ∷ other)) m.0 ∙ ap (λ z. found v z (fs ++ x ∷ other)) m.1 ∙ ap (found v g) (same_front fs left x back other m.2)
    | inr k ↦ absurd (not_both (sym e ∙ k))
  ]

  one_stays : (h : Option Place) (front : List Token) (x : Token) (back other : List Token) → one value h (front ++ x ∷ back) ≡ died (suc (length back)) → one value h (front ++ x ∷ other) ≡ died (suc (length other))
  one_stays h [] x back other e = elim (tried h x back) [
    | inl i ↦ absurd (not_both (sym i.2 ∙ e))
    | inr f ↦ elim (tried h x other) [ inl i ↦ absurd (not_both (sym (one_reads h x back i.0 i.1) ∙ e)) | inr g ↦ g ]
  ]
  one_stays h (f ∷ fs) x back other e = elim (tried h f (fs ++ x ∷ back)) [
    | inl i ↦ absurd (not_both (sym i.2 ∙ e))
    | inr g ↦ absurd (let n : suc (length (fs ++ x ∷ back)) ≡ suc (length back) = died_count (one value h (f ∷ (fs ++ x ∷ back))) _ _ g e in omega (arith, length-append fs (x ∷ back)))
  ]

  one_begins : (k : Token) (a : A) → value k.kind ≡ Some a → (h : Option Place) (xs : List Token) (n : ℕ) → one value h xs ≡ died n → Begun (One value) xs n
  one_begins k a is h [] n e = record {
    front = [];
    back = [];
    remainder = k ∷ [];
    value = (a, k.place);
    split = refl;
    count = died_count (one value h []) 0 n (one_ends h) e;
    spells = (k, refl, is, refl);
  }
  one_begins k a is h (x ∷ xs) n e = elim (tried h x xs) [
    | inl i ↦ absurd (not_both (sym i.2 ∙ e))
    | inr f ↦ record {
      front = [];
      back = x ∷ xs;
      remainder = k ∷ [];
      value = (a, k.place);
      split = refl;
      count = died_count (one value h (x ∷ xs)) (suc (length xs)) n f e;
      spells = (k, refl, is, refl);
    }
  ]

  one_once : (v w : A × Place) (ys zs rest other : List Token) → One value v ys → One value w zs → Free rest → Free other → ys ++ rest ≡ zs ++ other → (v ≡ w) × (ys ≡ zs)
  one_once v w ys zs rest other d e stop stop' same =
      let parted : d.0 ∷ rest ≡ e.0 ∷ other = ap (λ z. z ++ rest) (sym d.1) ∙ same ∙ ap (λ z. z ++ other) e.1 in
      let first : d.0 ≡ e.0 = cc in
      let given : Some v.0 ≡ Some w.0 = sym d.2 ∙ ap (λ (z : Token). value z.kind) first ∙ e.2 in
      let named : v.0 ≡ w.0 = cc in (
        ap (λ (z : A). (z, v.1)) named ∙ ap (λ (z : Place). (w.0, z)) (d.3 ∙ ap (λ (z : Token). z.place) first ∙ sym e.3),
        d.1 ∙ ap (λ (z : Token). z ∷ []) first ∙ sym e.1,
      )

  pub lawful_one : (k : Token) (a : A) → value k.kind ≡ Some a → Lawful (one value) (One value) of_none Free
  lawful_one k a is = record {
    sound = one_sound;
    complete = λ v ys d h rest stop. record {
      value = v;
      reads = ap (λ z. one value h (z ++ rest)) d.1 ∙ one_reads h d.0 rest v.0 d.2 ∙ ap (λ z. found (v.0, z) h rest) (sym d.3);
      same = λ no. refl;
    };
    stays = one_stays;
    keeps = one_keeps;
    begins = one_begins k a is;
    unique = one_once;
  }

-- what a token owes that may stand first
abbrev pub PickLaw : {A : Type 0} → Option (Reader A) → (A → List Token → Type 0) → (A → List Tree) → (List Token → Type 0) → Type 0
PickLaw {A} None Q of stops = (v : A) (ys : List Token) → Q v ys → ⊥
PickLaw (Some r) Q of stops = Lawful r Q of stops

-- a spelling that begins with such a token
abbrev pub Picked : {A : Type 0} → (TokenKind → Place → A → List Token → Type 0) → A → List Token → Type 0
Picked P v xs = (x : Token) × (ys : List Token) × (xs ≡ x ∷ ys) × P x.kind x.place v ys

abbrev pub Either : {A : Type 0} → (TokenKind → Place → A → List Token → Type 0) → (A → List Token → Type 0) → A → List Token → Type 0
Either P Q v xs = Picked P v xs ⊎ Q v xs

-- none of these may stand first
abbrev pub Unpicked : {A : Type 0} → Pick A → List Token → Type 0
Unpicked pick [] = Unit {0}
Unpicked pick (x ∷ xs) = pick x.kind x.place ≡ None

module _ {A : Type 0} (pick : Pick A) (other : Reader A) where
  pub either_picks : (h : Option Place) (x : Token) (xs : List Token) (r : Reader A) → pick x.kind x.place ≡ Some r → either pick other h (x ∷ xs) ≡ r h xs
  unfolding either
  either_picks h x xs r e = ap (λ o. picked o h xs (other h (x ∷ xs))) e

  pub either_passes : (h : Option Place) (xs : List Token) → Unpicked pick xs → either pick other h xs ≡ other h xs
  unfolding either
  either_passes h [] e = refl
  either_passes h (x ∷ xs) e = ap (λ o. picked o h xs (other h (x ∷ xs))) e

-- what a reader owes that is taken where no such token stands first
pub record LawfulHere {A : Type 0} (r : Reader A) (R : A → List Token → Type 0) (of : A → List Tree) (stops : List Token → Type 0) : Type 0 where
  pub sound : (h : Option Place) (xs : List Token) (a : A) (g : Option Place) (rest : List Token) → r h xs ≡ found a g rest → Sound R of h xs a g rest
  pub complete : (v : A) (ys : List Token) → R v ys → (h : Option Place) (rest : List Token) → stops rest → Complete r of v ys h rest
  pub stays : (h : Option Place) (front : List Token) (x : Token) (back other : List Token) → r h (front ++ x ∷ back) ≡ died (suc (length back)) → r h (front ++ x ∷ other) ≡ died (suc (length other))
  pub keeps : (h : Option Place) (front : List Token) (x : Token) (back other : List Token) (a : A) (g : Option Place) (left : List Token)
      → r h (front ++ x ∷ back) ≡ found a g (left ++ x ∷ back) → r h (front ++ x ∷ other) ≡ found a g (left ++ x ∷ other)
  pub unique : (v w : A) (ys zs rest other : List Token) → R v ys → R w zs → stops rest → stops other → ys ++ rest ≡ zs ++ other → (v ≡ w) × (ys ≡ zs)

module _ {A : Type 0} (pick : Pick A) (other : Reader A) (P : TokenKind → Place → A → List Token → Type 0) (Q : A → List Token → Type 0) (of : A → List Tree) (stops : List Token → Type 0)
    (law : (k : TokenKind) (p : Place) → PickLaw (pick k p) (P k p) of stops)
    (m : LawfulHere other Q of stops) (begun : (h : Option Place) (xs : List Token) (n : ℕ) → other h xs ≡ died n → Begun (Either P Q) xs n)
    (apart : (v : A) (ys rest : List Token) → Q v ys → stops rest → Unpicked pick (ys ++ rest)) where
  -- what the first token comes to
  abbrev Turns : Token → Type 0
  Turns x = ((r : Reader A) × (pick x.kind x.place ≡ Some r) × Lawful r (P x.kind x.place) of stops)
      ⊎ ((pick x.kind x.place ≡ None) × ((v : A) (ys : List Token) → P x.kind x.place v ys → ⊥))

  turns : (x : Token) → Turns x
  turns x = go (pick x.kind x.place) refl (law x.kind x.place)
    where
      go : (o : Option (Reader A)) → pick x.kind x.place ≡ o → PickLaw o (P x.kind x.place) of stops → Turns x
      go None e l = inr (e, l)
      go (Some r) e l = inl (r, e, l)

  either_sound : (h : Option Place) (xs : List Token) (v : A) (g : Option Place) (rest : List Token) → either pick other h xs ≡ found v g rest → Sound (Either P Q) of h xs v g rest
  either_sound h xs v g rest e = go xs e
    where
      otherwise : (zs : List Token) → other h zs ≡ found v g rest → Sound (Either P Q) of h zs v g rest
      otherwise zs f = let p = m.sound h zs v g rest f in record { value = p.value; tokens = p.tokens; split = p.split; spells = inr p.spells; high = p.high; same = p.same }

      go : (zs : List Token) → either pick other h zs ≡ found v g rest → Sound (Either P Q) of h zs v g rest
      go [] f = otherwise [] (sym (either_passes pick other h [] tt) ∙ f)
      go (z ∷ zs) f = elim (turns z) [
        | inl i ↦ let p = i.2.sound h zs v g rest (sym (either_picks pick other h z zs i.0 i.1) ∙ f) in record {
          value = p.value;
          tokens = z ∷ p.tokens;
          split = ap (λ l. z ∷ l) p.split;
          spells = inl (z, p.tokens, refl, p.spells);
          high = p.high;
          same = p.same;
        }
        | inr i ↦ otherwise (z ∷ zs) (sym (either_passes pick other h (z ∷ zs) i.0) ∙ f)
      ]

  either_complete : (v : A) (ys : List Token) → Either P Q v ys → (h : Option Place) (rest : List Token) → stops rest → Complete (either pick other) of v ys h rest
  either_complete v ys (inl d) h rest stop = elim (turns d.0) [
    | inl i ↦ let p = i.2.complete v d.1 d.3 h rest stop in record {
      value = p.value;
      reads = ap (λ z. either pick other h (z ++ rest)) d.2 ∙ either_picks pick other h d.0 (d.1 ++ rest) i.0 i.1 ∙ p.reads;
      same = p.same;
    }
    | inr i ↦ absurd (i.1 v d.1 d.3)
  ]
  either_complete v ys (inr d) h rest stop = let p = m.complete v ys d h rest stop in record {
    value = p.value;
    reads = either_passes pick other h (ys ++ rest) (apart v ys rest d stop) ∙ p.reads;
    same = p.same;
  }

  passes_alike : (front : List Token) (x : Token) (back rest : List Token) → Unpicked pick (front ++ x ∷ back) → Unpicked pick (front ++ x ∷ rest)
  passes_alike [] x back rest u = u
  passes_alike (f ∷ fs) x back rest u = u

  either_stays : (h : Option Place) (front : List Token) (x : Token) (back rest : List Token) → either pick other h (front ++ x ∷ back) ≡ died (suc (length back)) → either pick other h (front ++ x ∷ rest) ≡ died (suc (length rest))
  either_stays h front x back rest e = go front e
    where
      otherwise : (fs : List Token) → Unpicked pick (fs ++ x ∷ back) → either pick other h (fs ++ x ∷ back) ≡ died (suc (length back)) → either pick other h (fs ++ x ∷ rest) ≡ died (suc (length rest))
      otherwise fs u f = either_passes pick other h (fs ++ x ∷ rest) (passes_alike fs x back rest u) ∙ m.stays h fs x back rest (sym (either_passes pick other h (fs ++ x ∷ back) u) ∙ f)

      go : (fs : List Token) → either pick other h (fs ++ x ∷ back) ≡ died (suc (length back)) → either pick other h (fs ++ x ∷ rest) ≡ died (suc (length rest))
      go [] f = elim (turns x) [
        | inl i ↦ let b = begun_within (i.2.begins h back (suc (length back)) (sym (either_picks pick other h x back i.0 i.1) ∙ f)) in absurd (omega arith)
        | inr i ↦ otherwise [] i.0 f
      ]
      go (z ∷ zs) f = elim (turns z) [
        | inl i ↦ either_picks pick other h z (zs ++ x ∷ rest) i.0 i.1 ∙ i.2.stays h zs x back rest (sym (either_picks pick other h z (zs ++ x ∷ back) i.0 i.1) ∙ f)
        | inr i ↦ otherwise (z ∷ zs) i.0 f
      ]

  either_keeps : (h : Option Place) (front : List Token) (x : Token) (back rest : List Token) (v : A) (g : Option Place) (left : List Token)
      → either pick other h (front ++ x ∷ back) ≡ found v g (left ++ x ∷ back) → either pick other h (front ++ x ∷ rest) ≡ found v g (left ++ x ∷ rest)
  either_keeps h front x back rest v g left e = go front e
    where
      otherwise : (fs : List Token) → Unpicked pick (fs ++ x ∷ back) → either pick other h (fs ++ x ∷ back) ≡ found v g (left ++ x ∷ back) → either pick other h (fs ++ x ∷ rest) ≡ found v g (left ++ x ∷ rest)
      otherwise fs u f = either_passes pick other h (fs ++ x ∷ rest) (passes_alike fs x back rest u) ∙ m.keeps h fs x back rest v g left (sym (either_passes pick other h (fs ++ x ∷ back) u) ∙ f)

      go : (fs : List Token) → either pick other h (fs ++ x ∷ back) ≡ found v g (left ++ x ∷ back) → either pick other h (fs ++ x ∷ rest) ≡ found v g (left ++ x ∷ rest)
      go [] f = elim (turns x) [
        | inl i ↦
            let p = i.2.sound h back v g (left ++ x ∷ back) (sym (either_picks pick other h x back i.0 i.1) ∙ f) in
            absurd (let n : length back ≡ length (p.tokens ++ (left ++ x ∷ back)) = ap length p.split in omega (arith, length-append p.tokens (left ++ x ∷ back), length-append left (x ∷ back)))
        | inr i ↦ otherwise [] i.0 f
      ]
      go (z ∷ zs) f = elim (turns z) [
        | inl i ↦ either_picks pick other h z (zs ++ x ∷ rest) i.0 i.1 ∙ i.2.keeps h zs x back rest v g left (sym (either_picks pick other h z (zs ++ x ∷ back) i.0 i.1) ∙ f)
        | inr i ↦ otherwise (z ∷ zs) i.0 f
      ]

  either_begins : (h : Option Place) (xs : List Token) (n : ℕ) → either pick other h xs ≡ died n → Begun (Either P Q) xs n
  either_begins h xs n e = go xs e
    where
      go : (zs : List Token) → either pick other h zs ≡ died n → Begun (Either P Q) zs n
      go [] f = begun h [] n (sym (either_passes pick other h [] tt) ∙ f)
      go (z ∷ zs) f = elim (turns z) [
        | inl i ↦ let b = i.2.begins h zs n (sym (either_picks pick other h z zs i.0 i.1) ∙ f) in record {
          front = z ∷ b.front;
          back = b.back;
          remainder = b.remainder;
          value = b.value;
          split = ap (λ l. z ∷ l) b.split;
          count = b.count;
          spells = inl (z, b.front ++ b.remainder, refl, b.spells);
        }
        | inr i ↦ begun h (z ∷ zs) n (sym (either_passes pick other h (z ∷ zs) i.0) ∙ f)
      ]

  -- what may stand first does not stand where the other is taken
  clash : (v w : A) (ys zs rest other : List Token) → Picked P v ys → Q w zs → stops other → ys ++ rest ≡ zs ++ other → ⊥
  clash v w ys zs rest other d e stop same = elim (turns d.0) [
    | inl i ↦
        let u : Unpicked pick (d.0 ∷ (d.1 ++ rest)) = subst (Unpicked pick) (sym same ∙ ap (λ z. z ++ rest) d.2) (apart w zs other e stop) in
        let f : None ≡ Some i.0 = sym u ∙ i.1 in
        let g : found w None [] ≡ died 0 = cc in
        not_both g
    | inr i ↦ i.1 v d.1 d.3
  ]

  either_one : (v w : A) (ys zs rest other : List Token) → Either P Q v ys → Either P Q w zs → stops rest → stops other → ys ++ rest ≡ zs ++ other → (v ≡ w) × (ys ≡ zs)
  either_one v w ys zs rest other (inr d) (inr e) stop stop' same = m.unique v w ys zs rest other d e stop stop' same
  either_one v w ys zs rest other (inl d) (inr e) stop stop' same = absurd (clash v w ys zs rest other d e stop' same)
  either_one v w ys zs rest other (inr d) (inl e) stop stop' same = absurd (clash w v zs ys other rest e d stop (sym same))
  either_one v w ys zs rest other (inl d) (inl e) stop stop' same =
      let parted : d.0 ∷ (d.1 ++ rest) ≡ e.0 ∷ (e.1 ++ other) = ap (λ z. z ++ rest) (sym d.2) ∙ same ∙ ap (λ z. z ++ other) e.2 in
      let first : d.0 ≡ e.0 = cc in
      let behind : d.1 ++ rest ≡ e.1 ++ other = cc in
      elim (turns e.0) [
        | inl i ↦
            let p = i.2.unique v w d.1 e.1 rest other (subst (λ (z : Token). P z.kind z.place v d.1) first d.3) e.3 stop stop' behind in
            (p.0, d.2 ∙ ap (λ (z : Token). z ∷ d.1) first ∙ ap (λ z. e.0 ∷ z) p.1 ∙ sym e.2)
        | inr i ↦ absurd (i.1 w e.1 e.3)
      ]

  pub lawful_choice : Lawful (either pick other) (Either P Q) of stops
  lawful_choice = record { sound = either_sound; complete = either_complete; stays = either_stays; keeps = either_keeps; begins = either_begins; unique = either_one }

module _ {A : Type 0} (pick : Pick A) (P : TokenKind → Place → A → List Token → Type 0) (of : A → List Tree) (stops : List Token → Type 0)
    (law : (k : TokenKind) (p : Place) → PickLaw (pick k p) (P k p) of stops) where
  pub lawful_either : (other : Reader A) (Q : A → List Token → Type 0) → Lawful other Q of stops
      → ((v : A) (ys rest : List Token) → Q v ys → stops rest → Unpicked pick (ys ++ rest)) → Lawful (either pick other) (Either P Q) of stops
  lawful_either other Q m apart =
      lawful_choice pick other P Q of stops law (record { sound = m.sound; complete = m.complete; stays = m.stays; keeps = m.keeps; unique = m.unique })
      (λ h xs n e. let b = m.begins h xs n e in record {
        front = b.front;
        back = b.back;
        remainder = b.remainder;
        value = b.value;
        split = b.split;
        count = b.count;
        spells = inr b.spells;
      })
      apart

  fail_here : LawfulHere fail Never of stops
  fail_here = record {
    sound = λ h xs a g rest e. absurd (not_both (sym e));
    complete = λ v ys d h rest stop. absurd d;
    stays = λ h front x back other e. let n : length (front ++ x ∷ back) ≡ suc (length back) = died_count (fail {A = A} h (front ++ x ∷ back)) (length (front ++ x ∷ back)) (suc (length back)) refl e in
        ap died (let k : length (front ++ x ∷ other) ≡ suc (length other) = omega (arith, length-append front (x ∷ back), length-append front (x ∷ other)) in k);
    keeps = λ h front x back other a g left e. absurd (not_both (sym e));
    unique = λ v w ys zs rest other d e stop stop' same. absurd d;
  }

  -- where none may stand first, the tokens are dead
  pub lawful_switch : Inhabited (Picked P) → Lawful (either pick fail) (Either P Never) of stops
  lawful_switch some =
      lawful_choice pick fail P Never of stops law fail_here
      (λ h xs n e. record {
        front = [];
        back = xs;
        remainder = some.1;
        value = some.0;
        split = refl;
        count = died_count (fail {A = A} h xs) (length xs) n refl e;
        spells = inl some.2;
      })
      (λ v ys rest d stop. absurd d)
