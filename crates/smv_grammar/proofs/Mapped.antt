-- Readers whose value is made from that of another.
use Rattle.std.proofs.Common.{◌≡◌, inl, inr, ℕ, suc, ◌-◌, Option, List, [], ◌∷◌, ◌++◌, length, refl, sym, ap, ◌∙◌, arith}
use Rattle.std.proofs.lemmas.List.{length-append}
use Rattle.text_core.specs.declared.place.Place.{Place}
use Rattle.smv_text.specs.declared.token.Token.{Token}
use Rattle.smv_text.specs.Grammar.{start}
use Rattle.smv_text.specs.Tree.{Tree}
use Rattle.smv_grammar.specs.Readers.{found, died, Reader, and_then, mapped, placed, counted, highs}
use Rattle.smv_grammar.proofs.Lawful.{Sound, Complete, Lawful, found_same, not_both, then_found, then_died, then_reads, then_dies}

module _ {A B : Type 0} (f : A → B) (r : Reader A) where
  pub mapped_found : (h : Option Place) (xs : List Token) (b : B) (g : Option Place) (rest : List Token) → mapped f r h xs ≡ found b g rest → (a : A) × (r h xs ≡ found a g rest) × (f a ≡ b)
  unfolding mapped
  mapped_found h xs b g rest e =
      let i = then_found (r h xs) (λ a g ys. found (f a) g ys) b g rest e in
      let m = found_same i.4 in
      (i.0, i.3 ∙ ap (λ z. found i.0 z i.2) m.1 ∙ ap (found i.0 g) m.2, m.0)

  pub mapped_died : (h : Option Place) (xs : List Token) (n : ℕ) → mapped f r h xs ≡ died n → r h xs ≡ died n
  unfolding mapped
  mapped_died h xs n e = elim (then_died (r h xs) (λ a g ys. found (f a) g ys) n e) [ inl i ↦ i | inr i ↦ absurd (not_both i.4) ]

  pub mapped_reads : {h g : Option Place} {xs rest : List Token} {a : A} → r h xs ≡ found a g rest → mapped f r h xs ≡ found (f a) g rest
  unfolding mapped
  mapped_reads e = then_reads (λ a g ys. found (f a) g ys) e

  pub mapped_dies : {h : Option Place} {xs : List Token} {n : ℕ} → r h xs ≡ died n → mapped f r h xs ≡ died n
  unfolding mapped
  mapped_dies e = then_dies (λ a g ys. found (f a) g ys) e

module _ {A B : Type 0} (f : A → B) (r : Reader A) (R : A → List Token → Type 0) (of : A → List Tree) (stops : List Token → Type 0) (l : Lawful r R of stops)
    (S : B → List Token → Type 0) (of' : B → List Tree)
    (to : (a : A) (ys : List Token) → R a ys → S (f a) ys) (from : (b : B) (ys : List Token) → S b ys → (a : A) × (f a ≡ b) × R a ys)
    (ofs : (a : A) → of' (f a) ≡ of a) where
  mapped_sound : (h : Option Place) (xs : List Token) (b : B) (g : Option Place) (rest : List Token) → mapped f r h xs ≡ found b g rest → Sound S of' h xs b g rest
  mapped_sound h xs b g rest e =
      let i = mapped_found f r h xs b g rest e in
      let p = l.sound h xs i.0 g rest i.1 in
      record {
        value = f p.value;
        tokens = p.tokens;
        split = p.split;
        spells = to p.value p.tokens p.spells;
        high = p.high ∙ ap (highs h) (sym (ofs p.value));
        same = λ none. sym i.2 ∙ ap f (p.same none);
      }

  mapped_complete : (b : B) (ys : List Token) → S b ys → (h : Option Place) (rest : List Token) → stops rest → Complete (mapped f r) of' b ys h rest
  mapped_complete b ys d h rest stop =
      let i = from b ys d in
      let p = l.complete i.0 ys i.2 h rest stop in
      let same : of i.0 ≡ of' b = sym (ofs i.0) ∙ ap of' i.1 in
      record {
        value = f p.value;
        reads = mapped_reads f r p.reads ∙ ap (λ z. found (f p.value) (highs h z) rest) same;
        same = λ none. ap f (p.same (ap (highs h) same ∙ none)) ∙ i.1;
      }

  pub lawful_mapped : Lawful (mapped f r) S of' stops
  lawful_mapped = record {
    sound = mapped_sound;
    complete = mapped_complete;
    stays = λ h front x back other e. mapped_dies f r (l.stays h front x back other (mapped_died f r h (front ++ x ∷ back) (suc (length back)) e));
    keeps = λ h front x back other b g left e. let i = mapped_found f r h (front ++ x ∷ back) b g (left ++ x ∷ back) e in
        mapped_reads f r (l.keeps h front x back other i.0 g left i.1) ∙ ap (λ z. found z g (left ++ x ∷ other)) i.2;
    begins = λ h xs n e. let b = l.begins h xs n (mapped_died f r h xs n e) in record {
      front = b.front;
      back = b.back;
      remainder = b.remainder;
      value = f b.value;
      split = b.split;
      count = b.count;
      spells = to b.value (b.front ++ b.remainder) b.spells;
    };
    unique = λ v w ys zs rest other d e stop stop' same.
        let i = from v ys d in
        let j = from w zs e in
        let p = l.unique i.0 j.0 ys zs rest other i.2 j.2 stop stop' same in (sym i.1 ∙ ap f p.0 ∙ j.1, p.1);
  }

-- what is added to a value by the tokens before and behind
abbrev pub told : {A C : Type 0} → (List Token → List Token → C) → Reader A → Reader (C × A)
told tell r h xs = and_then (r h xs) (λ a g ys. found (tell xs ys, a) g ys)

module _ {A C : Type 0} (tell : List Token → List Token → C) (r : Reader A) where
  pub told_found : (h : Option Place) (xs : List Token) (c : C × A) (g : Option Place) (rest : List Token) → told tell r h xs ≡ found c g rest → (r h xs ≡ found c.1 g rest) × (tell xs rest ≡ c.0)
  told_found h xs c g rest e =
      let i = then_found (r h xs) (λ a g ys. found (tell xs ys, a) g ys) c g rest e in
      let m = found_same i.4 in
      let first : tell xs i.2 ≡ c.0 = ap (λ (z : C × A). z.0) m.0 in
      (i.3 ∙ ap (λ (z : C × A). found z.1 i.1 i.2) m.0 ∙ ap (λ z. found c.1 z i.2) m.1 ∙ ap (found c.1 g) m.2, ap (tell xs) (sym m.2) ∙ first)

  pub told_died : (h : Option Place) (xs : List Token) (n : ℕ) → told tell r h xs ≡ died n → r h xs ≡ died n
  told_died h xs n e = elim (then_died (r h xs) (λ a g ys. found (tell xs ys, a) g ys) n e) [ inl i ↦ i | inr i ↦ absurd (not_both i.4) ]

  pub told_reads : {h g : Option Place} {xs rest : List Token} {a : A} → r h xs ≡ found a g rest → told tell r h xs ≡ found (tell xs rest, a) g rest
  told_reads {xs = xs} e = then_reads (λ a g ys. found (tell xs ys, a) g ys) e

  pub told_dies : {h : Option Place} {xs : List Token} {n : ℕ} → r h xs ≡ died n → told tell r h xs ≡ died n
  told_dies {xs = xs} e = then_dies (λ a g ys. found (tell xs ys, a) g ys) e

-- a spelling, and what its tokens tell
abbrev pub Told : {A C : Type 0} → (List Token → C) → (A → List Token → Type 0) → C × A → List Token → Type 0
Told tells R c xs = R c.1 xs × (c.0 ≡ tells xs)

abbrev pub of_second : {A C : Type 0} → (A → List Tree) → C × A → List Tree
of_second of c = of c.1

module _ {A C : Type 0} (tell : List Token → List Token → C) (tells : List Token → C) (r : Reader A) (R : A → List Token → Type 0) (of : A → List Tree) (stops : List Token → Type 0) (l : Lawful r R of stops)
    (alone : (v : A) (ys : List Token) → R v ys → (rest : List Token) → tell (ys ++ rest) rest ≡ tells ys)
    (alike : (front : List Token) (x : Token) (back other tokens left : List Token) → front ++ x ∷ back ≡ tokens ++ (left ++ x ∷ back) → tell (front ++ x ∷ back) (left ++ x ∷ back) ≡ tell (front ++ x ∷ other) (left ++ x ∷ other)) where
  told_sound : (h : Option Place) (xs : List Token) (c : C × A) (g : Option Place) (rest : List Token) → told tell r h xs ≡ found c g rest → Sound (Told tells R) (of_second of) h xs c g rest
  told_sound h xs c g rest e =
      let i = told_found tell r h xs c g rest e in
      let p = l.sound h xs c.1 g rest i.0 in
      let first : c.0 ≡ tells p.tokens = sym i.1 ∙ ap (λ z. tell z rest) p.split ∙ alone p.value p.tokens p.spells rest in
      record {
        value = (tells p.tokens, p.value);
        tokens = p.tokens;
        split = p.split;
        spells = (p.spells, refl);
        high = p.high;
        same = λ none. ap (λ (z : A). (c.0, z)) (p.same none) ∙ ap (λ (z : C). (z, p.value)) first;
      }

  told_complete : (v : C × A) (ys : List Token) → Told tells R v ys → (h : Option Place) (rest : List Token) → stops rest → Complete (told tell r) (of_second of) v ys h rest
  told_complete v ys d h rest stop =
      let p = l.complete v.1 ys d.0 h rest stop in
      record {
        value = (tells ys, p.value);
        reads = told_reads tell r p.reads ∙ ap (λ (z : C). found (z, p.value) (highs h (of v.1)) rest) (alone v.1 ys d.0 rest);
        same = λ none. ap (λ (z : C). (z, p.value)) (sym d.1) ∙ ap (λ (z : A). (v.0, z)) (p.same none);
      }

  pub lawful_told : Lawful (told tell r) (Told tells R) (of_second of) stops
  lawful_told = record {
    sound = told_sound;
    complete = told_complete;
    stays = λ h front x back other e. told_dies tell r (l.stays h front x back other (told_died tell r h (front ++ x ∷ back) (suc (length back)) e));
    keeps = λ h front x back other c g left e.
        let i = told_found tell r h (front ++ x ∷ back) c g (left ++ x ∷ back) e in
        let p = l.sound h (front ++ x ∷ back) c.1 g (left ++ x ∷ back) i.0 in
        told_reads tell r (l.keeps h front x back other c.1 g left i.0)
        ∙ ap (λ (z : C). found (z, c.1) g (left ++ x ∷ other)) (sym (alike front x back other p.tokens left p.split) ∙ i.1);
    begins = λ h xs n e. let b = l.begins h xs n (told_died tell r h xs n e) in record {
      front = b.front;
      back = b.back;
      remainder = b.remainder;
      value = (tells (b.front ++ b.remainder), b.value);
      split = b.split;
      count = b.count;
      spells = (b.spells, refl);
    };
    unique = λ v w ys zs rest other d e stop stop' same.
        let p = l.unique v.1 w.1 ys zs rest other d.0 e.0 stop stop' same in (ap (λ (z : C). (z, v.1)) (d.1 ∙ ap tells p.1 ∙ sym e.1) ∙ ap (λ (z : A). (w.0, z)) p.0, p.1);
  }

abbrev pub Placed : {A : Type 0} → (A → List Token → Type 0) → Place × A → List Token → Type 0
Placed R = Told start R

abbrev pub Counted : {A : Type 0} → (A → List Token → Type 0) → ℕ × A → List Token → Type 0
Counted R = Told length R

start_alone : (x : Token) (zs ys rest : List Token) → ys ≡ x ∷ zs → start (ys ++ rest) ≡ start ys
start_alone x zs ys rest e = ap (λ z. start (z ++ rest)) e ∙ sym (ap start e)

start_alike : (front : List Token) (x : Token) (back other : List Token) → start (front ++ x ∷ back) ≡ start (front ++ x ∷ other)
start_alike [] x back other = refl
start_alike (f ∷ fs) x back other = refl

module _ {A : Type 0} (r : Reader A) (R : A → List Token → Type 0) (of : A → List Tree) (stops : List Token → Type 0) (l : Lawful r R of stops) where
  pub lawful_placed : ((v : A) (ys : List Token) → R v ys → (x : Token) × (zs : List Token) × (ys ≡ x ∷ zs)) → Lawful (placed r) (Placed R) (of_second of) stops
  unfolding placed
  lawful_placed some = lawful_told (λ xs ys. start xs) start r R of stops l
      (λ v ys d rest. let s = some v ys d in start_alone s.0 s.1 ys rest s.2) (λ front x back other tokens left e. start_alike front x back other)

  pub lawful_counted : Lawful (counted r) (Counted R) (of_second of) stops
  unfolding counted
  lawful_counted = lawful_told (λ xs ys. length xs - length ys) length r R of stops l
      (λ v ys d rest. omega (arith, length-append ys rest))
      (λ front x back other tokens left e. omega (arith, length-append front (x ∷ back), length-append left (x ∷ back), length-append front (x ∷ other), length-append left (x ∷ other)))
