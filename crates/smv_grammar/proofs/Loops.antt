-- Loops that go on as long as a token may stand.
use Rattle.std.proofs.Common.{◌≡◌, ◌⊎◌, inl, inr, ℕ, zero, suc, ◌≤◌, ◌<◌, Option, Some, None, List, [], ◌∷◌, ◌++◌, length, refl, sym, ap, ◌∙◌, subst, append_assoc, arith}
use Rattle.std.proofs.lemmas.List.{append-nil, length-append}
use Rattle.text_core.specs.declared.place.Place.{Place}
use Rattle.smv_text.specs.declared.token.TokenKind.{TokenKind}
use Rattle.smv_text.specs.declared.token.Token.{Token}
use Rattle.smv_text.specs.Tree.{Tree}
use Rattle.smv_grammar.specs.Readers.{Reading, found, died, Reader, and_then, Pick, with_first, again, loop, many, highs}
use Rattle.smv_grammar.proofs.Lawful.{Sound, Complete, Begun, Lawful, found_same, not_both, highs_append, highs_none, behind_front, begun_within, then_found, then_died, then_reads, then_dies, same_front, same_back}
use Rattle.smv_grammar.proofs.Choices.{PickLaw, Unpicked}

-- spellings one after another, each with its first token
pub data Many {A : Type 0} (P : TokenKind → Place → A → List Token → Type 0) : List A → List Token → Type 0 where
  none : Many P [] []
  more : {v : A} {vs : List A} {ys zs : List Token} (x : Token) → P x.kind x.place v ys → Many P vs zs → Many P (v ∷ vs) (x ∷ (ys ++ zs))

abbrev pub of_all : {A : Type 0} → (A → List Tree) → List A → List Tree
of_all of [] = []
of_all of (v ∷ vs) = of v ++ of_all of vs

first_found : {A : Type 0} (a : A) (o : Reading (List A)) (vs : List A) (g : Option Place) (rest : List Token) → with_first a o ≡ found vs g rest → (ws : List A) × (o ≡ found ws g rest) × (a ∷ ws ≡ vs)
first_found a (found ws k zs) vs g rest e = let m = found_same e in (ws, ap (λ z. found ws z zs) m.1 ∙ ap (found ws g) m.2, m.0)
first_found a (died n) vs g rest e = absurd (not_both (sym e))

first_died : {A : Type 0} (a : A) (o : Reading (List A)) (n : ℕ) → with_first a o ≡ died n → o ≡ died n
first_died a (found ws k zs) n e = absurd (not_both e)
first_died a (died m) n e = let f : m ≡ n = cc in ap died f

module _ {A : Type 0} (pick : Pick A) where
  pub loop_ends : (n : ℕ) (h : Option Place) (xs : List Token) → Unpicked pick xs → loop n pick h xs ≡ found [] h xs
  unfolding loop
  loop_ends zero h xs u = refl
  loop_ends (suc n) h [] u = refl
  loop_ends (suc n) h (x ∷ xs) u = ap (λ o. again (loop n pick) o h x xs) u

  pub loop_steps : (n : ℕ) (h : Option Place) (x : Token) (xs : List Token) (r : Reader A) → pick x.kind x.place ≡ Some r
      → loop (suc n) pick h (x ∷ xs) ≡ and_then (r h xs) (λ a g ys. with_first a (loop n pick g ys))
  unfolding loop
  loop_steps n h x xs r e = ap (λ o. again (loop n pick) o h x xs) e

  pub loop_stops : (h : Option Place) (xs : List Token) → loop 0 pick h xs ≡ found [] h xs
  unfolding loop
  loop_stops h xs = refl

module _ {A : Type 0} (pick : Pick A) (P : TokenKind → Place → A → List Token → Type 0) (of : A → List Tree) (ends stops : List Token → Type 0)
    (law : (k : TokenKind) (p : Place) → PickLaw (pick k p) (P k p) of ends)
    -- what ends the loop ends each part of it, and what begins a part does
    (over : (rest : List Token) → stops rest → Unpicked pick rest × ends rest)
    (next : (x : Token) (v : A) (ys zs : List Token) → P x.kind x.place v ys → ends (x ∷ zs)) where
  abbrev Turns : Token → Type 0
  Turns x = ((r : Reader A) × (pick x.kind x.place ≡ Some r) × Lawful r (P x.kind x.place) of ends)
      ⊎ ((pick x.kind x.place ≡ None) × ((v : A) (ys : List Token) → P x.kind x.place v ys → ⊥))

  turns : (x : Token) → Turns x
  turns x = go (pick x.kind x.place) refl (law x.kind x.place)
    where
      go : (o : Option (Reader A)) → pick x.kind x.place ≡ o → PickLaw o (P x.kind x.place) of ends → Turns x
      go None e l = inr (e, l)
      go (Some r) e l = inl (r, e, l)

  loop_sound : (n : ℕ) (h : Option Place) (xs : List Token) (vs : List A) (g : Option Place) (rest : List Token) → loop n pick h xs ≡ found vs g rest → Sound (Many P) (of_all of) h xs vs g rest
  loop_sound n h xs vs g rest e = go n h xs vs e
    where
      nothing_read : (h : Option Place) (xs : List Token) (vs : List A) → found [] h xs ≡ found vs g rest → Sound (Many P) (of_all of) h xs vs g rest
      nothing_read h xs vs f = let m = found_same f in record { value = []; tokens = []; split = m.2; spells = none; high = sym m.1; same = λ no. sym m.0 }

      go : (n : ℕ) (h : Option Place) (xs : List Token) (vs : List A) → loop n pick h xs ≡ found vs g rest → Sound (Many P) (of_all of) h xs vs g rest
      go zero h xs vs e = nothing_read h xs vs (sym (loop_stops pick h xs) ∙ e)
      go (suc n) h [] vs e = nothing_read h [] vs (sym (loop_ends pick (suc n) h [] tt) ∙ e)
      go (suc n) h (x ∷ xs) vs e = elim (turns x) [
        | inl i ↦
            let j = then_found (i.0 h xs) (λ a g ys. with_first a (loop n pick g ys)) vs g rest (sym (loop_steps pick n h x xs i.0 i.1) ∙ e) in
            let k = first_found j.0 (loop n pick j.1 j.2) vs g rest j.4 in
            let p = i.2.sound h xs j.0 j.1 j.2 j.3 in
            let q = go n j.1 j.2 k.0 k.1 in
            record {
              value = p.value ∷ q.value;
              tokens = x ∷ (p.tokens ++ q.tokens);
              split = ap (λ z. x ∷ z) (p.split ∙ ap (λ z. p.tokens ++ z) q.split ∙ sym (append_assoc p.tokens q.tokens rest));
              spells = more x p.spells q.spells;
              high = q.high ∙ ap (λ z. highs z (of_all of q.value)) p.high ∙ sym (highs_append h (of p.value) (of_all of q.value));
              same = λ no. sym k.2 ∙ ap (λ z. z ∷ k.0) (p.same (highs_none j.1 (of_all of q.value) (sym q.high ∙ no))) ∙ ap (λ z. p.value ∷ z) (q.same no);
            }
        | inr i ↦ nothing_read h (x ∷ xs) vs (sym (loop_ends pick (suc n) h (x ∷ xs) i.0) ∙ e)
      ]

  loop_complete : (n : ℕ) (vs : List A) (ys : List Token) → Many P vs ys → (h : Option Place) (rest : List Token) → stops rest → length ys ≤ n → Complete (loop n pick) (of_all of) vs ys h rest
  loop_complete n vs ys none h rest stop le = record { value = []; reads = loop_ends pick n h rest (over rest stop).0; same = λ no. refl }
  loop_complete zero vs ys (more {ys = us} {zs = zs} x d ds) h rest stop le = absurd (omega arith)
  loop_complete (suc n) vs ys (more {v = v} {vs = ws} {ys = us} {zs = zs} x d ds) h rest stop le = elim (turns x) [
    | inl i ↦
        let p = i.2.complete v us d h (zs ++ rest) (follows ds) in
        let q = loop_complete n ws zs ds (highs h (of v)) rest stop (omega (arith, length-append us zs)) in
        record {
          value = p.value ∷ q.value;
          reads = loop_steps pick n h x ((us ++ zs) ++ rest) i.0 i.1 ∙ ap (λ z. and_then (i.0 h z) (λ a g ys. with_first a (loop n pick g ys))) (append_assoc us zs rest)
              ∙ then_reads (λ a g ys. with_first a (loop n pick g ys)) p.reads ∙ ap (with_first p.value) q.reads
              ∙ ap (λ z. found (p.value ∷ q.value) z rest) (sym (highs_append h (of v) (of_all of ws)));
          same = λ no. let last : highs (highs h (of v)) (of_all of ws) ≡ None = sym (highs_append h (of v) (of_all of ws)) ∙ no in
              ap (λ z. z ∷ q.value) (p.same (highs_none _ (of_all of ws) last)) ∙ ap (λ z. v ∷ z) (q.same last);
        }
    | inr i ↦ absurd (i.1 v us d)
  ]
    where
      follows : {ws : List A} {zs : List Token} → Many P ws zs → ends (zs ++ rest)
      follows none = (over rest stop).1
      follows (more {v = w} {ys = us} {zs = zs} x d ds) = next x w us ((us ++ zs) ++ rest) d

  loop_begun : (n : ℕ) (h : Option Place) (xs : List Token) (m : ℕ) → loop n pick h xs ≡ died m → Begun (Many P) xs m
  loop_begun zero h xs m e = absurd (not_both (sym (loop_stops pick h xs) ∙ e))
  loop_begun (suc n) h [] m e = absurd (not_both (sym (loop_ends pick (suc n) h [] tt) ∙ e))
  loop_begun (suc n) h (x ∷ xs) m e = elim (turns x) [
    | inl i ↦ elim (then_died (i.0 h xs) (λ a g ys. with_first a (loop n pick g ys)) m (sym (loop_steps pick n h x xs i.0 i.1) ∙ e)) [
      | inl f ↦ let b = i.2.begins h xs m f in record {
        front = x ∷ b.front;
        back = b.back;
        remainder = b.remainder;
        value = b.value ∷ [];
        split = ap (λ z. x ∷ z) b.split;
        count = b.count;
        spells = subst (λ (z : List Token). Many P (b.value ∷ []) (x ∷ z)) (append-nil (b.front ++ b.remainder)) (more x b.spells none);
      }
      | inr j ↦
          let p = i.2.sound h xs j.0 j.1 j.2 j.3 in
          let b = loop_begun n j.1 j.2 m (first_died j.0 (loop n pick j.1 j.2) m j.4) in
          record {
            front = x ∷ (p.tokens ++ b.front);
            back = b.back;
            remainder = b.remainder;
            value = p.value ∷ b.value;
            split = ap (λ z. x ∷ z) (p.split ∙ ap (λ z. p.tokens ++ z) b.split ∙ sym (append_assoc p.tokens b.front b.back));
            count = b.count;
            spells = subst (λ (z : List Token). Many P (p.value ∷ b.value) (x ∷ z)) (sym (append_assoc p.tokens b.front b.remainder)) (more x p.spells b.spells);
          }
    ]
    | inr i ↦ absurd (not_both (sym (loop_ends pick (suc n) h (x ∷ xs) i.0) ∙ e))
  ]

  loop_stays : (n m : ℕ) (h : Option Place) (front : List Token) (x : Token) (back other : List Token) → length front ≤ m
      → loop n pick h (front ++ x ∷ back) ≡ died (suc (length back)) → loop m pick h (front ++ x ∷ other) ≡ died (suc (length other))
  loop_stays zero m h front x back other le e = absurd (not_both (sym (loop_stops pick h (front ++ x ∷ back)) ∙ e))
  loop_stays (suc n) m h [] x back other le e = elim (turns x) [
    | inl i ↦ elim (then_died (i.0 h back) (λ a g ys. with_first a (loop n pick g ys)) (suc (length back)) (sym (loop_steps pick n h x back i.0 i.1) ∙ e)) [
      | inl f ↦ let b = begun_within (i.2.begins h back (suc (length back)) f) in absurd (omega arith)
      | inr j ↦
          let p = i.2.sound h back j.0 j.1 j.2 j.3 in
          let f = loop_begun n j.1 j.2 (suc (length back)) (first_died j.0 (loop n pick j.1 j.2) (suc (length back)) j.4) in
          let b = begun_within f in
          let s : length back ≡ length (p.tokens ++ j.2) = ap length p.split in
          absurd (omega (arith, length-append p.tokens j.2))
    ]
    | inr i ↦ absurd (not_both (sym (loop_ends pick (suc n) h (x ∷ back) i.0) ∙ e))
  ]
  loop_stays (suc n) zero h (f ∷ fs) x back other le e = absurd (omega arith)
  loop_stays (suc n) (suc m) h (f ∷ fs) x back other le e = elim (turns f) [
    | inl i ↦ elim (then_died (i.0 h (fs ++ x ∷ back)) (λ a g ys. with_first a (loop n pick g ys)) (suc (length back)) (sym (loop_steps pick n h f (fs ++ x ∷ back) i.0 i.1) ∙ e)) [
      | inl d ↦ loop_steps pick m h f (fs ++ x ∷ other) i.0 i.1 ∙ then_dies (λ a g ys. with_first a (loop m pick g ys)) (i.2.stays h fs x back other d)
      | inr j ↦
          let p = i.2.sound h (fs ++ x ∷ back) j.0 j.1 j.2 j.3 in
          let d = first_died j.0 (loop n pick j.1 j.2) (suc (length back)) j.4 in
          let c = behind_front fs x back p.tokens j.2 p.split (begun_within (loop_begun n j.1 j.2 (suc (length back)) d)) in
          let s : length (fs ++ x ∷ back) ≡ length (p.tokens ++ (c.0 ++ x ∷ back)) = ap length (p.split ∙ ap (λ z. p.tokens ++ z) c.1) in
          loop_steps pick m h f (fs ++ x ∷ other) i.0 i.1
          ∙ then_reads (λ a g ys. with_first a (loop m pick g ys)) (i.2.keeps h fs x back other j.0 j.1 c.0 (j.3 ∙ ap (found j.0 j.1) c.1))
          ∙ ap (with_first j.0) (loop_stays n m j.1 c.0 x back other
          (omega (arith, length-append fs (x ∷ back), length-append p.tokens (c.0 ++ x ∷ back), length-append c.0 (x ∷ back)))
          (ap (loop n pick j.1) (sym c.1) ∙ d))
    ]
    | inr i ↦ absurd (not_both (sym (loop_ends pick (suc n) h (f ∷ (fs ++ x ∷ back)) i.0) ∙ e))
  ]

  loop_keeps : (n m : ℕ) (h : Option Place) (front : List Token) (x : Token) (back other : List Token) (vs : List A) (g : Option Place) (left : List Token) → length front < n → length front < m
      → loop n pick h (front ++ x ∷ back) ≡ found vs g (left ++ x ∷ back) → loop m pick h (front ++ x ∷ other) ≡ found vs g (left ++ x ∷ other)
  loop_keeps zero m h front x back other vs g left le le' e = absurd (omega arith)
  loop_keeps (suc n) zero h front x back other vs g left le le' e = absurd (omega arith)
  loop_keeps (suc n) (suc m) h [] x back other vs g left le le' e = elim (turns x) [
    | inl i ↦
        let j = then_found (i.0 h back) (λ a g ys. with_first a (loop n pick g ys)) vs g (left ++ x ∷ back) (sym (loop_steps pick n h x back i.0 i.1) ∙ e) in
        let k = first_found j.0 (loop n pick j.1 j.2) vs g (left ++ x ∷ back) j.4 in
        let p = i.2.sound h back j.0 j.1 j.2 j.3 in
        let q = loop_sound n j.1 j.2 k.0 g (left ++ x ∷ back) k.1 in
        let s : length back ≡ length (p.tokens ++ (q.tokens ++ (left ++ x ∷ back))) = ap length (p.split ∙ ap (λ z. p.tokens ++ z) q.split) in
        absurd (omega (arith, length-append p.tokens (q.tokens ++ (left ++ x ∷ back)), length-append q.tokens (left ++ x ∷ back), length-append left (x ∷ back)))
    | inr i ↦
        let c = found_same (sym (loop_ends pick (suc n) h (x ∷ back) i.0) ∙ e) in
        loop_ends pick (suc m) h (x ∷ other) i.0 ∙ ap (λ z. found z h (x ∷ other)) c.0 ∙ ap (λ z. found vs z (x ∷ other)) c.1 ∙ ap (found vs g) (same_front [] left x back other c.2)
  ]
  loop_keeps (suc n) (suc m) h (f ∷ fs) x back other vs g left le le' e = elim (turns f) [
    | inl i ↦
        let j = then_found (i.0 h (fs ++ x ∷ back)) (λ a g ys. with_first a (loop n pick g ys)) vs g (left ++ x ∷ back) (sym (loop_steps pick n h f (fs ++ x ∷ back) i.0 i.1) ∙ e) in
        let k = first_found j.0 (loop n pick j.1 j.2) vs g (left ++ x ∷ back) j.4 in
        let p = i.2.sound h (fs ++ x ∷ back) j.0 j.1 j.2 j.3 in
        let q = loop_sound n j.1 j.2 k.0 g (left ++ x ∷ back) k.1 in
        let c : j.2 ≡ (q.tokens ++ left) ++ x ∷ back = q.split ∙ sym (append_assoc q.tokens left (x ∷ back)) in
        let s : length (fs ++ x ∷ back) ≡ length (p.tokens ++ ((q.tokens ++ left) ++ x ∷ back)) = ap length (p.split ∙ ap (λ z. p.tokens ++ z) c) in
        let t : length (q.tokens ++ left) ≤ length fs = omega (arith, length-append fs (x ∷ back), length-append p.tokens ((q.tokens ++ left) ++ x ∷ back), length-append (q.tokens ++ left) (x ∷ back)) in
        loop_steps pick m h f (fs ++ x ∷ other) i.0 i.1
        ∙ then_reads (λ a g ys. with_first a (loop m pick g ys)) (i.2.keeps h fs x back other j.0 j.1 (q.tokens ++ left) (j.3 ∙ ap (found j.0 j.1) c))
        ∙ ap (with_first j.0) (loop_keeps n m j.1 (q.tokens ++ left) x back other k.0 g left (omega arith) (omega arith) (ap (loop n pick j.1) (sym c) ∙ k.1))
        ∙ ap (λ z. found z g (left ++ x ∷ other)) k.2
    | inr i ↦
        let c = found_same (sym (loop_ends pick (suc n) h (f ∷ (fs ++ x ∷ back)) i.0) ∙ e) in
        loop_ends pick (suc m) h (f ∷ (fs ++ x ∷ other)) i.0 ∙ ap (λ z. found z h (f ∷ (fs ++ x ∷ other))) c.0 ∙ ap (λ z. found vs z (f ∷ (fs ++ x ∷ other))) c.1
        ∙ ap (found vs g) (same_front (f ∷ fs) left x back other c.2)
  ]

  -- no loop ends where another goes on
  ended_goes : (v : A) (us zs rest other : List Token) (x : Token) → P x.kind x.place v us → stops rest → rest ≡ (x ∷ (us ++ zs)) ++ other → ⊥
  ended_goes v us zs rest other x d stop same = elim (turns x) [
    | inl i ↦
        let u : Unpicked pick (x ∷ ((us ++ zs) ++ other)) = subst (Unpicked pick) same (over rest stop).0 in
        let f : None ≡ Some i.0 = sym u ∙ i.1 in
        let g : found v None [] ≡ died 0 = cc in
        not_both g
    | inr i ↦ i.1 v us d
  ]

  many_ends : {vs : List A} {ys : List Token} → Many P vs ys → (rest : List Token) → stops rest → ends (ys ++ rest)
  many_ends none rest stop = (over rest stop).1
  many_ends (more {v = w} {ys = us} {zs = zs} x d ds) rest stop = next x w us ((us ++ zs) ++ rest) d

  many_one : {vs ws : List A} {ys zs : List Token} → Many P vs ys → Many P ws zs → (rest other : List Token) → stops rest → stops other → ys ++ rest ≡ zs ++ other → (vs ≡ ws) × (ys ≡ zs)
  many_one none none rest other stop stop' same = (refl, refl)
  many_one none (more {v = w} {ys = us} {zs = zs} x e m) rest other stop stop' same = absurd (ended_goes w us zs rest other x e stop same)
  many_one (more {v = v} {ys = us} {zs = zs} x d m) none rest other stop stop' same = absurd (ended_goes v us zs other rest x d stop' (sym same))
  many_one (more {v = v} {vs = vs} {ys = us} {zs = zs} x d m) (more {v = w} {vs = ws} {ys = us'} {zs = zs'} x' e m') rest other stop stop' same =
      let first : x ≡ x' = cc in
      let tails : (us ++ zs) ++ rest ≡ (us' ++ zs') ++ other = cc in
      let parted : us ++ (zs ++ rest) ≡ us' ++ (zs' ++ other) = sym (append_assoc us zs rest) ∙ tails ∙ append_assoc us' zs' other in
      elim (turns x') [
        | inl i ↦
            let p = i.2.unique v w us us' (zs ++ rest) (zs' ++ other) (subst (λ (z : Token). P z.kind z.place v us) first d) e (many_ends m rest stop) (many_ends m' other stop') parted in
            let q = many_one m m' rest other stop stop' (same_back us us' (zs ++ rest) (zs' ++ other) p.1 parted) in (
              ap (λ z. z ∷ vs) p.0 ∙ ap (λ z. w ∷ z) q.0,
              ap (λ (z : Token). z ∷ (us ++ zs)) first ∙ ap (λ z. x' ∷ z) (ap (λ z. z ++ zs) p.1 ∙ ap (λ z. us' ++ z) q.1),
            )
        | inr i ↦ absurd (i.1 w us' e)
      ]

  pub lawful_many : Lawful (many pick) (Many P) (of_all of) stops
  unfolding many
  lawful_many = record {
    sound = λ h xs vs g rest e. loop_sound (length xs) h xs vs g rest e;
    complete = λ vs ys d h rest stop. let p = loop_complete (length (ys ++ rest)) vs ys d h rest stop (omega (arith, length-append ys rest)) in record { value = p.value; reads = p.reads; same = p.same };
    stays = λ h front x back other e. loop_stays (length (front ++ x ∷ back)) (length (front ++ x ∷ other)) h front x back other (omega (arith, length-append front (x ∷ other))) e;
    keeps = λ h front x back other vs g left e. loop_keeps (length (front ++ x ∷ back)) (length (front ++ x ∷ other)) h front x back other vs g left
        (omega (arith, length-append front (x ∷ back))) (omega (arith, length-append front (x ∷ other))) e;
    begins = λ h xs n e. loop_begun (length xs) h xs n e;
    unique = λ v w ys zs rest other d e stop stop' same. many_one d e rest other stop stop' same;
  }
