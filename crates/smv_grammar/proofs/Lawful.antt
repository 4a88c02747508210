-- What each reader owes: it finds what the grammar spells, all of it and no more, and what lies behind the dead token matters not.
use Rattle.std.proofs.Common.{◌≡◌, ◌⊎◌, inl, inr, ℕ, suc, ◌≤◌, Option, Some, None, List, [], ◌∷◌, ◌++◌, length, refl, sym, ap, ◌∙◌, append_assoc, arith}
use Rattle.std.proofs.lemmas.List.{length-append}
use Rattle.text_core.specs.declared.place.Place.{Place}
use Rattle.smv_text.specs.declared.token.Token.{Token}
use Rattle.smv_text.specs.Heights.{height, place_of}
use Rattle.smv_text.specs.Tree.{Tree}
use Rattle.smv_grammar.specs.Readers.{Reading, found, died, Reader, and_then, both, high_or, highs}

-- what was read is spelled, but for expressions that are too high
pub record Sound {A : Type 0} (R : A → List Token → Type 0) (of : A → List Tree) (h : Option Place) (xs : List Token) (a : A) (g : Option Place) (rest : List Token) : Type 0 where
  pub value : A
  pub tokens : List Token
  pub split : xs ≡ tokens ++ rest
  pub spells : R value tokens
  pub high : g ≡ highs h (of value)
  pub same : g ≡ None → a ≡ value

-- what is spelled is read
pub record Complete {A : Type 0} (r : Reader A) (of : A → List Tree) (v : A) (ys : List Token) (h : Option Place) (rest : List Token) : Type 0 where
  pub value : A
  pub reads : r h (ys ++ rest) ≡ found value (highs h (of v)) rest
  pub same : highs h (of v) ≡ None → value ≡ v

-- the tokens before the dead one begin a spelling
pub record Begun {A : Type 0} (R : A → List Token → Type 0) (xs : List Token) (n : ℕ) : Type 0 where
  pub front : List Token
  pub back : List Token
  pub remainder : List Token
  pub value : A
  pub split : xs ≡ front ++ back
  pub count : length back ≡ n
  pub spells : R value (front ++ remainder)

pub record Lawful {A : Type 0} (r : Reader A) (R : A → List Token → Type 0) (of : A → List Tree) (stops : List Token → Type 0) : Type 0 where
  pub sound : (h : Option Place) (xs : List Token) (a : A) (g : Option Place) (rest : List Token) → r h xs ≡ found a g rest → Sound R of h xs a g rest
  pub complete : (v : A) (ys : List Token) → R v ys → (h : Option Place) (rest : List Token) → stops rest → Complete r of v ys h rest
  pub stays : (h : Option Place) (front : List Token) (x : Token) (back other : List Token) → r h (front ++ x ∷ back) ≡ died (suc (length back)) → r h (front ++ x ∷ other) ≡ died (suc (length other))
  pub keeps : (h : Option Place) (front : List Token) (x : Token) (back other : List Token) (a : A) (g : Option Place) (left : List Token)
      → r h (front ++ x ∷ back) ≡ found a g (left ++ x ∷ back) → r h (front ++ x ∷ other) ≡ found a g (left ++ x ∷ other)
  pub begins : (h : Option Place) (xs : List Token) (n : ℕ) → r h xs ≡ died n → Begun R xs n
  pub unique : (v w : A) (ys zs rest other : List Token) → R v ys → R w zs → stops rest → stops other → ys ++ rest ≡ zs ++ other → (v ≡ w) × (ys ≡ zs)

-- something is spelled
abbrev pub Inhabited : {A : Type 0} → (A → List Token → Type 0) → Type 0
Inhabited {A} R = (v : A) × (ys : List Token) × R v ys

pub found_same : {A : Type 0} {a b : A} {g k : Option Place} {ys zs : List Token} → found a g ys ≡ found b k zs → (a ≡ b) × (g ≡ k) × (ys ≡ zs)
found_same e = (cc, cc, cc)

pub not_both : {A : Type 0} {a : A} {g : Option Place} {ys : List Token} {n : ℕ} → found a g ys ≡ died n → ⊥
not_both e = cc

pub died_count : {A : Type 0} (o : Reading A) (m n : ℕ) → o ≡ died m → o ≡ died n → m ≡ n
died_count o m n e f = let g : died m ≡ died n = sym e ∙ f in cc

-- the first high place is found part by part
pub highs_append : (h : Option Place) (ts us : List Tree) → highs h (ts ++ us) ≡ highs (highs h ts) us
highs_append h [] us = refl
highs_append h (t ∷ ts) us = highs_append (high_or h (height t) (place_of t)) ts us

high_none : (h : Option Place) (n : ℕ) (p : Place) → high_or h n p ≡ None → h ≡ None
high_none None n p e = refl
high_none (Some q) n p e = cc

all_none : (ts : List Tree) (h : Option Place) → highs h ts ≡ None → h ≡ None
all_none [] h e = e
all_none (t ∷ ts) h e = high_none h (height t) (place_of t) (all_none ts (high_or h (height t) (place_of t)) e)

pub highs_none : (h : Option Place) (ts : List Tree) → highs h ts ≡ None → h ≡ None
highs_none h ts e = all_none ts h e

-- what is left behind some tokens still has the place where the lists part
pub behind_front : (front : List Token) (x : Token) (back tokens ys : List Token) → front ++ x ∷ back ≡ tokens ++ ys → suc (length back) ≤ length ys → (left : List Token) × (ys ≡ left ++ x ∷ back)
behind_front front x back [] ys e le = (front, sym e)
behind_front [] x back (t ∷ ts) ys e le = absurd (let f : length (x ∷ back) ≡ length (t ∷ (ts ++ ys)) = ap length e in omega (arith, length-append ts ys))
behind_front (f ∷ fs) x back (t ∷ ts) ys e le = behind_front fs x back ts ys (cc) le

-- what is behind equal fronts of equal lists is equal
pub same_back : (front left back other : List Token) → front ≡ left → front ++ back ≡ left ++ other → back ≡ other
same_back front left back other e f = cut front back other (f ∙ ap (λ z. z ++ other) (sym e))
  where
    cut : (front back other : List Token) → front ++ back ≡ front ++ other → back ≡ other
    cut [] back other e = e
    cut (x ∷ front) back other e = cut front back other (cc)

-- one list ends like another, whatever is behind
pub same_front : (front left : List Token) (x : Token) (back other : List Token) → front ++ x ∷ back ≡ left ++ x ∷ back → front ++ x ∷ other ≡ left ++ x ∷ other
same_front [] [] x back other e = refl
same_front [] (l ∷ ls) x back other e = absurd (let f : length (x ∷ back) ≡ length (l ∷ (ls ++ x ∷ back)) = ap length e in omega (arith, length-append ls (x ∷ back)))
same_front (f ∷ fs) [] x back other e = absurd (let g : length (f ∷ (fs ++ x ∷ back)) ≡ length (x ∷ back) = ap length e in omega (arith, length-append fs (x ∷ back)))
same_front (f ∷ fs) (l ∷ ls) x back other e = let head : f ≡ l = cc in ap (λ z. z ∷ (fs ++ x ∷ other)) head ∙ ap (λ z. l ∷ z) (same_front fs ls x back other (cc))

pub begun_within : {A : Type 0} {R : A → List Token → Type 0} {xs : List Token} {n : ℕ} → Begun R xs n → n ≤ length xs
begun_within {xs = xs} {n = n} b = let e : length xs ≡ length (b.front ++ b.back) = ap length b.split in let c = b.count in omega (arith, length-append b.front b.back)

-- a sequence
pub then_found : {A B : Type 0} (o : Reading A) (next : A → Option Place → List Token → Reading B) (b : B) (k : Option Place) (zs : List Token) → and_then o next ≡ found b k zs
    → (a : A) × (g : Option Place) × (ys : List Token) × (o ≡ found a g ys) × (next a g ys ≡ found b k zs)
then_found (found a g ys) next b k zs e = (a, g, ys, refl, e)
then_found (died n) next b k zs e = absurd (let f : found b k zs ≡ died n = sym e in cc)

pub then_died : {A B : Type 0} (o : Reading A) (next : A → Option Place → List Token → Reading B) (n : ℕ) → and_then o next ≡ died n
    → (o ≡ died n) ⊎ ((a : A) × (g : Option Place) × (ys : List Token) × (o ≡ found a g ys) × (next a g ys ≡ died n))
then_died (found a g ys) next n e = inr (a, g, ys, refl, e)
then_died (died m) next n e = let f : m ≡ n = cc in inl (ap died f)

pub then_reads : {A B : Type 0} {o : Reading A} {a : A} {g : Option Place} {ys : List Token} (next : A → Option Place → List Token → Reading B) → o ≡ found a g ys → and_then o next ≡ next a g ys
then_reads next e = ap (λ o. and_then o next) e

pub then_dies : {A B : Type 0} {o : Reading A} {n : ℕ} (next : A → Option Place → List Token → Reading B) → o ≡ died n → and_then o next ≡ died n
then_dies next e = ap (λ o. and_then o next) e

-- the pair, where the second is found
abbrev pub paired : {A B : Type 0} → A → B → Option Place → List Token → Reading (A × B)
paired a b k zs = found (a, b) k zs

abbrev second : {A B : Type 0} → Reader B → A → Option Place → List Token → Reading (A × B)
second s a g ys = and_then (s g ys) (paired a)

module _ {A B : Type 0} (r : Reader A) (s : Reader B) where
  pub both_found : (h : Option Place) (xs : List Token) (c : A × B) (k : Option Place) (zs : List Token) → both r s h xs ≡ found c k zs
      → (g : Option Place) × (ys : List Token) × (r h xs ≡ found c.0 g ys) × (s g ys ≡ found c.1 k zs)
  unfolding both
  both_found h xs c k zs e =
      let i = then_found (r h xs) (second s) c k zs e in
      let j = then_found (s i.1 i.2) (paired i.0) c k zs i.4 in
      let m = found_same j.4 in
      (i.1, i.2, i.3 ∙ ap (λ (x : A × B). found x.0 i.1 i.2) m.0, j.3 ∙ ap (λ (x : A × B). found x.1 j.1 j.2) m.0 ∙ ap (λ x. found c.1 x j.2) m.1 ∙ ap (found c.1 k) m.2)

  pub both_died : (h : Option Place) (xs : List Token) (n : ℕ) → both r s h xs ≡ died n
      → (r h xs ≡ died n) ⊎ ((a : A) × (g : Option Place) × (ys : List Token) × (r h xs ≡ found a g ys) × (s g ys ≡ died n))
  unfolding both
  both_died h xs n e = elim (then_died (r h xs) (second s) n e) [
    | inl f ↦ inl f
    | inr i ↦ inr (i.0, i.1, i.2, i.3, no_last (s i.1 i.2) i.0 i.4)
  ]
    where
      no_last : (o : Reading B) (a : A) → and_then o (paired a) ≡ died n → o ≡ died n
      no_last (found b k zs) a e = absurd (not_both e)
      no_last (died m) a e = let f : m ≡ n = cc in ap died f

  pub both_reads : {h g k : Option Place} {xs ys zs : List Token} {a : A} {b : B} → r h xs ≡ found a g ys → s g ys ≡ found b k zs → both r s h xs ≡ found (a, b) k zs
  unfolding both
  both_reads {a = a} e f = then_reads (second s) e ∙ then_reads (paired a) f

  pub both_dies_first : {h : Option Place} {xs : List Token} {n : ℕ} → r h xs ≡ died n → both r s h xs ≡ died n
  unfolding both
  both_dies_first e = then_dies (second s) e

  pub both_dies : {h g : Option Place} {xs ys : List Token} {a : A} {n : ℕ} → r h xs ≡ found a g ys → s g ys ≡ died n → both r s h xs ≡ died n
  unfolding both
  both_dies {a = a} e f = then_reads (second s) e ∙ then_dies (paired a) f

-- a spelling of the one and then one of the other
abbrev pub Both : {A B : Type 0} → (A → List Token → Type 0) → (B → List Token → Type 0) → A × B → List Token → Type 0
Both R S c xs = (ys : List Token) × (zs : List Token) × (xs ≡ ys ++ zs) × R c.0 ys × S c.1 zs

abbrev pub of_both : {A B : Type 0} → (A → List Tree) → (B → List Tree) → A × B → List Tree
of_both of of' c = of c.0 ++ of' c.1

module _ {A B : Type 0} (r : Reader A) (s : Reader B) (R : A → List Token → Type 0) (S : B → List Token → Type 0) (of : A → List Tree) (of' : B → List Tree) (stops stops' : List Token → Type 0)
    (l : Lawful r R of stops) (m : Lawful s S of' stops') (some : Inhabited S)
    (follows : (w : B) (zs rest : List Token) → S w zs → stops' rest → stops (zs ++ rest)) where
  both_sound : (h : Option Place) (xs : List Token) (c : A × B) (k : Option Place) (rest : List Token) → both r s h xs ≡ found c k rest → Sound (Both R S) (of_both of of') h xs c k rest
  both_sound h xs c k rest e =
      let i = both_found r s h xs c k rest e in
      let p = l.sound h xs c.0 i.0 i.1 i.2 in
      let q = m.sound i.0 i.1 c.1 k rest i.3 in
      record {
        value = (p.value, q.value);
        tokens = p.tokens ++ q.tokens;
        split = p.split ∙ ap (λ z. p.tokens ++ z) q.split ∙ sym (append_assoc p.tokens q.tokens rest);
        spells = (p.tokens, q.tokens, refl, p.spells, q.spells);
        high = q.high ∙ ap (λ z. highs z (of' q.value)) p.high ∙ sym (highs_append h (of p.value) (of' q.value));
        same = λ none. ap (λ (z : A). (z, c.1)) (p.same (highs_none i.0 (of' q.value) (sym q.high ∙ none))) ∙ ap (λ (z : B). (p.value, z)) (q.same none);
      }

  both_complete : (v : A × B) (ys : List Token) → Both R S v ys → (h : Option Place) (rest : List Token) → stops' rest → Complete (both r s) (of_both of of') v ys h rest
  both_complete v ys d h rest stop =
      let p = l.complete v.0 d.0 d.3 h (d.1 ++ rest) (follows v.1 d.1 rest d.4 stop) in
      let q = m.complete v.1 d.1 d.4 (highs h (of v.0)) rest stop in
      record {
        value = (p.value, q.value);
        reads = ap (λ z. both r s h (z ++ rest)) d.2 ∙ ap (both r s h) (append_assoc d.0 d.1 rest) ∙ both_reads r s p.reads q.reads
            ∙ ap (λ z. found (p.value, q.value) z rest) (sym (highs_append h (of v.0) (of' v.1)));
        same = λ none. let last : highs (highs h (of v.0)) (of' v.1) ≡ None = sym (highs_append h (of v.0) (of' v.1)) ∙ none in
            ap (λ (z : A). (z, q.value)) (p.same (highs_none _ (of' v.1) last)) ∙ ap (λ (z : B). (v.0, z)) (q.same last);
      }

  both_stays : (h : Option Place) (front : List Token) (x : Token) (back other : List Token) → both r s h (front ++ x ∷ back) ≡ died (suc (length back)) → both r s h (front ++ x ∷ other) ≡ died (suc (length other))
  both_stays h front x back other e = elim (both_died r s h (front ++ x ∷ back) (suc (length back)) e) [
    | inl f ↦ both_dies_first r s (l.stays h front x back other f)
    | inr i ↦
        let p = l.sound h (front ++ x ∷ back) i.0 i.1 i.2 i.3 in
        let c = behind_front front x back p.tokens i.2 p.split (begun_within (m.begins i.1 i.2 (suc (length back)) i.4)) in
        both_dies r s (l.keeps h front x back other i.0 i.1 c.0 (i.3 ∙ ap (found i.0 i.1) c.1)) (m.stays i.1 c.0 x back other (ap (s i.1) (sym c.1) ∙ i.4))
  ]

  both_keeps : (h : Option Place) (front : List Token) (x : Token) (back other : List Token) (a : A × B) (k : Option Place) (left : List Token)
      → both r s h (front ++ x ∷ back) ≡ found a k (left ++ x ∷ back) → both r s h (front ++ x ∷ other) ≡ found a k (left ++ x ∷ other)
  both_keeps h front x back other a k left e =
      let i = both_found r s h (front ++ x ∷ back) a k (left ++ x ∷ back) e in
      let q = m.sound i.0 i.1 a.1 k (left ++ x ∷ back) i.3 in
      let c : i.1 ≡ (q.tokens ++ left) ++ x ∷ back = q.split ∙ sym (append_assoc q.tokens left (x ∷ back)) in
      both_reads r s (l.keeps h front x back other a.0 i.0 (q.tokens ++ left) (i.2 ∙ ap (found a.0 i.0) c)) (m.keeps i.0 (q.tokens ++ left) x back other a.1 k left (ap (s i.0) (sym c) ∙ i.3))

  both_begins : (h : Option Place) (xs : List Token) (n : ℕ) → both r s h xs ≡ died n → Begun (Both R S) xs n
  both_begins h xs n e = elim (both_died r s h xs n e) [
    | inl f ↦ let b = l.begins h xs n f in record {
      front = b.front;
      back = b.back;
      remainder = b.remainder ++ some.1;
      value = (b.value, some.0);
      split = b.split;
      count = b.count;
      spells = (b.front ++ b.remainder, some.1, sym (append_assoc b.front b.remainder some.1), b.spells, some.2);
    }
    | inr i ↦ let p = l.sound h xs i.0 i.1 i.2 i.3 in let b = m.begins i.1 i.2 n i.4 in record {
      front = p.tokens ++ b.front;
      back = b.back;
      remainder = b.remainder;
      value = (p.value, b.value);
      split = p.split ∙ ap (λ z. p.tokens ++ z) b.split ∙ sym (append_assoc p.tokens b.front b.back);
      count = b.count;
      spells = (p.tokens, b.front ++ b.remainder, append_assoc p.tokens b.front b.remainder, p.spells, b.spells);
    }
  ]

  both_one : (v w : A × B) (ys zs rest other : List Token) → Both R S v ys → Both R S w zs → stops' rest → stops' other → ys ++ rest ≡ zs ++ other → (v ≡ w) × (ys ≡ zs)
  both_one v w ys zs rest other d e stop stop' same =
      let parted : d.0 ++ (d.1 ++ rest) ≡ e.0 ++ (e.1 ++ other) =
      sym (append_assoc d.0 d.1 rest) ∙ ap (λ z. z ++ rest) (sym d.2) ∙ same ∙ ap (λ z. z ++ other) e.2 ∙ append_assoc e.0 e.1 other in
      let p = l.unique v.0 w.0 d.0 e.0 (d.1 ++ rest) (e.1 ++ other) d.3 e.3 (follows v.1 d.1 rest d.4 stop) (follows w.1 e.1 other e.4 stop') parted in
      let q = m.unique v.1 w.1 d.1 e.1 rest other d.4 e.4 stop stop' (same_back d.0 e.0 (d.1 ++ rest) (e.1 ++ other) p.1 parted) in (
        ap (λ (z : A). (z, v.1)) p.0 ∙ ap (λ (z : B). (w.0, z)) q.0,
        d.2 ∙ ap (λ z. z ++ d.1) p.1 ∙ ap (λ z. e.0 ++ z) q.1 ∙ sym e.2,
      )

  pub lawful_both : Lawful (both r s) (Both R S) (of_both of of') stops'
  lawful_both = record { sound = both_sound; complete = both_complete; stays = both_stays; keeps = both_keeps; begins = both_begins; unique = both_one }
