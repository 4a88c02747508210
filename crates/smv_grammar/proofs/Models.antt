-- What the reader of models says of the grammar.
use Rattle.std.proofs.Common.{◌≡◌, ℕ, zero, suc, ◌+◌, ◌≤◌, ◌<◌, Bool, true, false, Option, Some, None, List, [], ◌∷◌, ◌++◌, length, take, drop, ◌-◌, refl, sym, ap, ◌∙◌, subst, append_assoc, arith}
use Rattle.std.specs.Prelude.{nat_le, if◌then◌else◌}
use Rattle.std.proofs.lemmas.List.{append-nil, length-append}
use Rattle.text_core.specs.declared.place.Place.{Place}
use Rattle.smv_text.specs.declared.token.Token.{Token}
use Rattle.smv_text.specs.Heights.{height, most_height, place_of, first_high, of_modules}
use Rattle.smv_text.specs.Sources.{SpellsModules, IsDeadAt}
use Rattle.smv_text.specs.Tree.{Tree, PlainModule, PlainSource}
use Rattle.smv_grammar.specs.Readers.{Reading, found, died, many, highs}
use Rattle.smv_grammar.specs.Rules.{module_pick, ended, model}
use Rattle.smv_grammar.proofs.Lawful.{found_same, not_both, died_count}
use Rattle.smv_grammar.proofs.Modules.{lawful_modules, of_module, all_modules}
use Rattle.smv_grammar.proofs.Loops.{of_all}

highs_some : (p : Place) (ts : List Tree) → highs (Some p) ts ≡ Some p
highs_some p [] = refl
highs_some p (t ∷ ts) = highs_some p ts

pub first_highs : (ts : List Tree) → highs None ts ≡ first_high ts
first_highs [] = refl
first_highs (t ∷ ts) = go (nat_le (height t) most_height) (first_highs ts)
  where
    go : (b : Bool) → highs None ts ≡ first_high ts → highs (if b then None else Some (place_of t)) ts ≡ (if b then first_high ts else Some (place_of t))
    go true e = e
    go false e = highs_some (place_of t) ts

abbrev pub reading : List Token → Reading (List PlainModule)
reading xs = many module_pick None xs

high_of : (ms : List PlainModule) → highs None (of_all of_module ms) ≡ first_high (of_modules ms)
high_of ms = ap (highs None) (all_modules ms) ∙ first_highs (of_modules ms)

pub spelled_found : (v : List PlainModule) (xs : List Token) → SpellsModules v xs → (ms : List PlainModule) × (reading xs ≡ found ms (first_high (of_modules v)) []) × (first_high (of_modules v) ≡ None → ms ≡ v)
spelled_found v xs d =
    let p = lawful_modules.complete v xs d None [] refl in
    (p.value, ap reading (sym (append-nil xs)) ∙ p.reads ∙ ap (λ z. found p.value z []) (high_of v), λ none. p.same (high_of v ∙ none))

pub found_spelled : (xs : List Token) (ms : List PlainModule) → reading xs ≡ found ms None [] → SpellsModules ms xs × (first_high (of_modules ms) ≡ None)
found_spelled xs ms e =
    let p = lawful_modules.sound None xs ms None [] e in
    let same : ms ≡ p.value = p.same refl in
    let all : p.tokens ≡ xs = sym (append-nil p.tokens) ∙ sym p.split in
    (subst (λ (z : List PlainModule). SpellsModules z xs) (sym same) (subst (SpellsModules p.value) all p.spells), ap (λ (z : List PlainModule). first_high (of_modules z)) same ∙ sym (high_of p.value) ∙ sym p.high)

pub found_high : (xs : List Token) (ms : List PlainModule) (q : Place) → reading xs ≡ found ms (Some q) [] → (v : List PlainModule) × SpellsModules v xs × (first_high (of_modules v) ≡ Some q)
found_high xs ms q e =
    let p = lawful_modules.sound None xs ms (Some q) [] e in
    let all : p.tokens ≡ xs = sym (append-nil p.tokens) ∙ sym p.split in
    (p.value, subst (SpellsModules p.value) all p.spells, sym (high_of p.value) ∙ sym p.high)

pub one_list : (xs : List Token) (v w : List PlainModule) → SpellsModules v xs → SpellsModules w xs → v ≡ w
one_list xs v w d e = (lawful_modules.unique v w xs xs [] [] d e refl refl refl).0

front_of : (front back : List Token) (i : ℕ) → length front ≡ i → take i (front ++ back) ≡ front
front_of [] back zero e = refl
front_of [] back (suc i) e = absurd (omega arith)
front_of (f ∷ fs) back zero e = absurd (omega arith)
front_of (f ∷ fs) back (suc i) e = ap (λ z. f ∷ z) (front_of fs back i (omega arith))

one_more_taken : (front : List Token) (x : Token) (back : List Token) (i : ℕ) → length front ≡ i → take (suc i) (front ++ x ∷ back) ≡ front ++ x ∷ []
one_more_taken [] x back zero e = refl
one_more_taken [] x back (suc i) e = absurd (omega arith)
one_more_taken (f ∷ fs) x back zero e = absurd (omega arith)
one_more_taken (f ∷ fs) x back (suc i) e = ap (λ z. f ∷ z) (one_more_taken fs x back i (omega arith))

-- where the tokens part: those before the dead one begin a spelling, and with it they begin none
pub record Halts (xs : List Token) (n : ℕ) : Type 0 where
  pub front : List Token
  pub back : List Token
  pub split : xs ≡ front ++ back
  pub count : length back ≡ n
  pub begins : (ms : List PlainModule) × (ys : List Token) × SpellsModules ms (front ++ ys)
  pub stays : (x : Token) (others : List Token) → back ≡ x ∷ others → (ms : List PlainModule) (ys : List Token) → SpellsModules ms (front ++ x ∷ ys) → ⊥

died_halts : (xs : List Token) (n : ℕ) → reading xs ≡ died n → Halts xs n
died_halts xs n e =
    let b = lawful_modules.begins None xs n e in
    record {
      front = b.front;
      back = b.back;
      split = b.split;
      count = b.count;
      begins = (b.value, b.remainder, b.spells);
      stays = λ x others same ms ys d.
          let f : reading (b.front ++ x ∷ others) ≡ died (suc (length others)) =
          ap reading (ap (λ z. b.front ++ z) (sym same) ∙ sym b.split) ∙ e ∙ ap died (sym b.count ∙ ap length same) in
          let g = lawful_modules.stays None b.front x others ys f in
          let h = spelled_found ms (b.front ++ x ∷ ys) d in
          not_both (sym h.1 ∙ g);
    }

found_halts : (xs : List Token) (ms : List PlainModule) (g : Option Place) (x : Token) (others : List Token) → reading xs ≡ found ms g (x ∷ others) → Halts xs (suc (length others))
found_halts xs ms g x others e =
    let p = lawful_modules.sound None xs ms g (x ∷ others) e in
    record {
      front = p.tokens;
      back = x ∷ others;
      split = p.split;
      count = refl;
      begins = (p.value, [], subst (SpellsModules p.value) (sym (append-nil p.tokens)) p.spells);
      stays = λ y rest same vs ys d.
          let first : x ≡ y = cc in
          let f = lawful_modules.keeps None p.tokens x others ys ms g [] (ap reading (sym p.split) ∙ e) in
          let h = spelled_found vs (p.tokens ++ x ∷ ys) (subst (λ (z : Token). SpellsModules vs (p.tokens ++ z ∷ ys)) (sym first) d) in
          let m = found_same (sym h.1 ∙ f) in
          let none : [] ≡ x ∷ ys = m.2 in
          let wrong : 0 ≡ suc (length ys) = ap length none in
          absurd (omega arith);
    }

pub model_halts : (xs : List Token) (n : ℕ) → model xs ≡ died n → Halts xs n
unfolding model
model_halts xs n e = go (reading xs) refl e
  where
    go : (o : Reading (List PlainModule)) → reading xs ≡ o → ended o ≡ died n → Halts xs n
    go (found ms g []) e f = absurd (not_both f)
    go (found ms g (x ∷ others)) e f = subst (Halts xs) (died_count (ended (found ms g (x ∷ others))) (suc (length others)) n refl f) (found_halts xs ms g x others e)
    go (died m) e f = died_halts xs n (e ∙ f)

pub model_spelled : (v : List PlainModule) (xs : List Token) (n : ℕ) → SpellsModules v xs → model xs ≡ died n → ⊥
unfolding model
model_spelled v xs n d e = let h = spelled_found v xs d in not_both (sym (ap ended h.1) ∙ e)

pub dead_at : (xs : List Token) (n i : ℕ) → model xs ≡ died n → i + n ≡ length xs → IsDeadAt xs i
dead_at xs n i e at =
    let h = model_halts xs n e in
    let split = h.split in
    let lengths : length xs ≡ length (h.front ++ h.back) = ap length h.split in
    let count : length h.back ≡ n = h.count in
    let here : length h.front ≡ i = omega (arith, length-append h.front h.back) in
    record {
      within = omega arith;
      blocked = λ below ms ys d. blocks h here below ms ys d;
      unspelled = λ ms d. model_spelled ms xs n d e;
      begins = (h.begins.0, h.begins.1, subst (λ (z : List Token). SpellsModules h.begins.0 (z ++ h.begins.1)) (sym (ap (take i) h.split ∙ front_of h.front h.back i here)) h.begins.2);
    }
  where
    blocks : (h : Halts xs n) → length h.front ≡ i → i < length xs → (ms : List PlainModule) (ys : List Token) → SpellsModules ms (take (suc i) xs ++ ys) → ⊥
    blocks h here below ms ys d = go h.back refl
      where
        go : (back : List Token) → h.back ≡ back → ⊥
        go [] same =
            let lengths : length xs ≡ length (h.front ++ h.back) = ap length h.split in
            let none : length h.back ≡ 0 = ap length same in
            absurd (omega (arith, length-append h.front h.back))
        go (x ∷ others) same =
            h.stays x others same ms ys
            (subst (SpellsModules ms) (ap (λ z. z ++ ys) (ap (take (suc i)) (h.split ∙ ap (λ z. h.front ++ z) same) ∙ one_more_taken h.front x others i here) ∙ append_assoc h.front (x ∷ []) ys) d)

-- what the code finds, told by all tokens
pub model_within : (xs : List Token) (n : ℕ) → model xs ≡ died n → n ≤ length xs
model_within xs n e =
    let h = model_halts xs n e in
    let lengths : length xs ≡ length (h.front ++ h.back) = ap length h.split in
    let count : length h.back ≡ n = h.count in
    omega (arith, length-append h.front h.back)

pub rest_dies : (xs : List Token) (ms : List PlainModule) (g : Option Place) (rest : List Token) → reading xs ≡ found ms g rest → 0 < length rest → model xs ≡ died (length rest)
unfolding model
rest_dies xs ms g [] e some = absurd (omega arith)
rest_dies xs ms g (x ∷ others) e some = ap ended e

pub left_dies : (xs : List Token) (n : ℕ) → reading xs ≡ died n → model xs ≡ died n
unfolding model
left_dies xs n e = ap ended e

drop_front : (front back : List Token) (i : ℕ) → length front ≡ i → drop i (front ++ back) ≡ back
drop_front [] back zero e = refl
drop_front [] back (suc i) e = absurd (omega arith)
drop_front (f ∷ fs) back zero e = absurd (omega arith)
drop_front (f ∷ fs) back (suc i) e = drop_front fs back i (omega arith)

pub rest_is : (xs : List Token) (ms : List PlainModule) (g : Option Place) (rest : List Token) → reading xs ≡ found ms g rest → drop (length xs - length rest) xs ≡ rest
rest_is xs ms g rest e =
    let p = lawful_modules.sound None xs ms g rest e in
    let lengths : length xs ≡ length (p.tokens ++ rest) = ap length p.split in
    ap (drop (length xs - length rest)) p.split ∙ drop_front p.tokens rest (length xs - length rest) (omega (arith, length-append p.tokens rest))

pub all_read : (xs : List Token) (ms : List PlainModule) (g : Option Place) (rest : List Token) → reading xs ≡ found ms g rest → length rest ≡ 0 → (h : Option Place) → g ≡ h → reading xs ≡ found ms h []
all_read xs ms g [] e none h same = e ∙ ap (λ z. found ms z []) same
all_read xs ms g (x ∷ rest) e none h same = absurd (omega arith)

pub exact_none : (xs : List Token) (ms : List PlainModule) (end : Place) (s : PlainSource) → reading xs ≡ found ms None [] → SpellsModules s.modules xs → s.end ≡ end
    → (record { modules = ms; end = end } ≡ s) × (first_high (of_modules s.modules) ≡ None)
exact_none xs ms end s e d ends =
    let p = spelled_found s.modules xs d in
    let m = found_same (sym e ∙ p.1) in
    let low : first_high (of_modules s.modules) ≡ None = sym m.1 in
    (ap (λ (z : List PlainModule). record { modules = z; end = end }) (m.0 ∙ p.2 low) ∙ ap (λ (z : Place). record { modules = s.modules; end = z }) (sym ends), low)

pub exact_high : (xs : List Token) (ms : List PlainModule) (q : Place) (s : PlainSource) → reading xs ≡ found ms (Some q) [] → SpellsModules s.modules xs → first_high (of_modules s.modules) ≡ Some q
exact_high xs ms q s e d = let p = spelled_found s.modules xs d in let m = found_same (sym e ∙ p.1) in sym m.1
