-- An expression as a reader.
use Rattle.std.proofs.Common.{◌≡◌, ◌⊎◌, inl, inr, ℕ, suc, ◌≤◌, Bool, true, false, Option, Some, None, List, [], ◌∷◌, ◌++◌, length, refl, sym, ap, ◌∙◌, subst, arith}
use Rattle.std.proofs.lemmas.List.{length-append}
use Rattle.std.specs.Prelude.{nat_le}
use Rattle.text_core.specs.declared.place.Place.{Place}
use Rattle.smv_text.specs.declared.token.Token.{Token}
use Rattle.smv_text.specs.declared.token.TokenKind.TheVariants as kind
use Rattle.smv_text.specs.Levels.{all_levels}
use Rattle.smv_text.specs.Grammar.{Spells, pass, numbers}
use Rattle.smv_text.specs.Heights.{height, most_height, place_of}
use Rattle.smv_text.specs.Tree.{Tree, number}
use Rattle.smv_grammar.specs.Kept.{Read, cap}
use Rattle.smv_grammar.specs.Machine.{ask, run, took, dead, Outcome, State, Advance, goes, ended, stuck, step, stop, at_end, next, Ends}
use Rattle.smv_grammar.specs.Readers.{found, died, expression, from_run, high_or}
use Rattle.smv_grammar.proofs.Expressions.{taken_spells, spelled_taken, dead_begins, one_tree}
use Rattle.smv_grammar.proofs.Lawful.{Sound, Complete, Lawful, Inhabited, found_same, not_both, same_front, highs_none, died_count}

-- what is left is no longer than what there was
ended_within : (o : Option Read) (r : Read) (rest : List Token) → at_end o ≡ took r rest → rest ≡ []
ended_within None r rest e = absurd (let f : dead 0 ≡ took r rest = e in cc)
ended_within (Some q) r rest e = cc

took_within : (xs : List Token) (s : State) (r : Read) (rest : List Token) → run xs s ≡ took r rest → length rest ≤ length xs
unfolding run
took_within [] s r rest e = let f : length rest ≡ 0 = ap length (ended_within (stop s) r rest e) in omega arith
took_within (x ∷ xs) s r rest e = go (step s x) (λ t f. took_within xs t r rest f) e
  where
    go : (o : Advance) → ((t : State) → run xs t ≡ took r rest → length rest ≤ length xs) → next o x xs (run xs) ≡ took r rest → length rest ≤ suc (length xs)
    go (goes t) ih f = let l : length rest ≤ length xs = ih t f in omega arith
    go (ended q) ih f = let g : x ∷ xs ≡ rest = cc in let k : length (x ∷ xs) ≡ length rest = ap length g in omega arith
    go stuck ih f = absurd (let g : took r rest ≡ dead (suc (length xs)) = sym f in cc)

dead_within_end : (o : Option Read) (n : ℕ) → at_end o ≡ dead n → n ≡ 0
dead_within_end None n e = cc
dead_within_end (Some q) n e = absurd (let f : took q [] ≡ dead n = e in cc)

run_within : (xs : List Token) (s : State) (n : ℕ) → run xs s ≡ dead n → n ≤ length xs
unfolding run
run_within [] s n e = omega (arith, dead_within_end (stop s) n e)
run_within (x ∷ xs) s n e = go (step s x) (λ t f. run_within xs t n f) e
  where
    go : (o : Advance) → ((t : State) → run xs t ≡ dead n → n ≤ length xs) → next o x xs (run xs) ≡ dead n → n ≤ suc (length xs)
    go (goes t) ih f = omega (arith, ih t f)
    go (ended q) ih f = absurd (let g : took q (x ∷ xs) ≡ dead n = f in cc)
    go stuck ih f = let g : suc (length xs) ≡ n = cc in omega arith

-- the tokens behind the one that decides don't matter
run_stays : (front : List Token) (x : Token) (back other : List Token) (s : State) → run (front ++ x ∷ back) s ≡ dead (suc (length back)) → run (front ++ x ∷ other) s ≡ dead (suc (length other))
unfolding run
run_stays [] x back other s e = go (step s x) e
  where
    go : (o : Advance) → next o x back (run back) ≡ dead (suc (length back)) → next o x other (run other) ≡ dead (suc (length other))
    go (goes t) f = absurd (omega (arith, run_within back t (suc (length back)) f))
    go (ended q) f = absurd (let g : took q (x ∷ back) ≡ dead (suc (length back)) = f in cc)
    go stuck f = refl
run_stays (y ∷ ys) x back other s e = go (step s y) (λ t f. run_stays ys x back other t f) e
  where
    go : (o : Advance) → ((t : State) → run (ys ++ x ∷ back) t ≡ dead (suc (length back)) → run (ys ++ x ∷ other) t ≡ dead (suc (length other)))
        → next o y (ys ++ x ∷ back) (run (ys ++ x ∷ back)) ≡ dead (suc (length back)) → next o y (ys ++ x ∷ other) (run (ys ++ x ∷ other)) ≡ dead (suc (length other))
    go (goes t) ih f = ih t f
    go (ended q) ih f = absurd (let g : took q (y ∷ (ys ++ x ∷ back)) ≡ dead (suc (length back)) = f in cc)
    go stuck ih f = absurd (let g : suc (length (ys ++ x ∷ back)) ≡ suc (length back) = cc in omega (arith, length-append ys (x ∷ back)))

run_keeps : (front : List Token) (x : Token) (back other : List Token) (s : State) (r : Read) (left : List Token) → run (front ++ x ∷ back) s ≡ took r (left ++ x ∷ back) → run (front ++ x ∷ other) s ≡ took r (left ++ x ∷ other)
unfolding run
run_keeps [] x back other s r left e = go (step s x) e
  where
    go : (o : Advance) → next o x back (run back) ≡ took r (left ++ x ∷ back) → next o x other (run other) ≡ took r (left ++ x ∷ other)
    go (goes t) f = absurd (omega (arith, took_within back t r (left ++ x ∷ back) f, length-append left (x ∷ back)))
    go (ended q) f = let g : x ∷ back ≡ left ++ x ∷ back = cc in let k : q ≡ r = cc in ap (λ z. took z (x ∷ other)) k ∙ ap (took r) (same_front [] left x back other g)
    go stuck f = absurd (let g : took r (left ++ x ∷ back) ≡ dead (suc (length back)) = sym f in cc)
run_keeps (y ∷ ys) x back other s r left e = go (step s y) (λ t f. run_keeps ys x back other t r left f) e
  where
    go : (o : Advance) → ((t : State) → run (ys ++ x ∷ back) t ≡ took r (left ++ x ∷ back) → run (ys ++ x ∷ other) t ≡ took r (left ++ x ∷ other))
        → next o y (ys ++ x ∷ back) (run (ys ++ x ∷ back)) ≡ took r (left ++ x ∷ back) → next o y (ys ++ x ∷ other) (run (ys ++ x ∷ other)) ≡ took r (left ++ x ∷ other)
    go (goes t) ih f = ih t f
    go (ended q) ih f = let g : y ∷ (ys ++ x ∷ back) ≡ left ++ x ∷ back = cc in let k : q ≡ r = cc in ap (λ z. took z (y ∷ (ys ++ x ∷ other))) k ∙ ap (took r) (same_front (y ∷ ys) left x back other g)
    go stuck ih f = absurd (let g : took r (left ++ x ∷ back) ≡ dead (suc (length (ys ++ x ∷ back))) = sym f in cc)

-- what is kept of an expression tells whether it is too high
kept_high : (h : Option Place) (t : Tree) → high_or h (cap t).height (place_of (cap t).tree) ≡ high_or h (height t) (place_of t)
kept_high (Some p) t = refl
kept_high None t = go (nat_le (height t) most_height) refl
  where
    go : (b : Bool) → nat_le (height t) most_height ≡ b → high_or None (cap t).height (place_of (cap t).tree) ≡ high_or None (height t) (place_of t)
    go true e = rw (e, e) refl
    go false e = rw e refl

kept_same : (t : Tree) → high_or None (height t) (place_of t) ≡ None → (cap t).tree ≡ t
kept_same t = go (nat_le (height t) most_height) refl
  where
    go : (b : Bool) → nat_le (height t) most_height ≡ b → high_or None (height t) (place_of t) ≡ None → (cap t).tree ≡ t
    go true e none = rw e refl
    go false e none = absurd (let f : Some (place_of t) ≡ None = sym (rw e refl) ∙ none in cc)

abbrev pub alone : Tree → List Tree
alone t = t ∷ []

pub expression_reads : (h : Option Place) (xs rest : List Token) (r : Read) → run xs (ask all_levels []) ≡ took r rest → expression h xs ≡ found r.tree (high_or h r.height (place_of r.tree)) rest
unfolding expression
expression_reads h xs rest r e = ap (from_run h) e

pub expression_dies : (h : Option Place) (xs : List Token) (n : ℕ) → run xs (ask all_levels []) ≡ dead n → expression h xs ≡ died n
unfolding expression
expression_dies h xs n e = ap (from_run h) e

-- what the machine comes to
run_ends : (xs : List Token) → ((r : Read) × (rest : List Token) × (run xs (ask all_levels []) ≡ took r rest)) ⊎ ((n : ℕ) × (run xs (ask all_levels []) ≡ dead n))
run_ends xs = go (run xs (ask all_levels [])) refl
  where
    go : (o : Outcome) → run xs (ask all_levels []) ≡ o → ((r : Read) × (rest : List Token) × (run xs (ask all_levels []) ≡ took r rest)) ⊎ ((n : ℕ) × (run xs (ask all_levels []) ≡ dead n))
    go (took r rest) e = inl (r, rest, e)
    go (dead n) e = inr (n, e)

asked_sound : (h : Option Place) (xs : List Token) (t : Tree) (g : Option Place) (rest : List Token) → expression h xs ≡ found t g rest → Sound (Spells all_levels) alone h xs t g rest
asked_sound h xs t g rest e = elim (run_ends xs) [
  | inl i ↦
      let m = found_same (sym (expression_reads h xs i.1 i.0 i.2) ∙ e) in
      let p = taken_spells xs i.1 i.0 i.2 in
      let high : g ≡ high_or h (height p.t) (place_of p.t) =
      sym m.1 ∙ ap (λ (r : Read). high_or h r.height (place_of r.tree)) p.kept ∙ kept_high h p.t in
      record {
        value = p.t;
        tokens = p.ys;
        split = p.parts ∙ ap (λ z. p.ys ++ z) m.2;
        spells = p.spells;
        high = high;
        same = λ none.
            let start : h ≡ None = highs_none h (alone p.t) (sym high ∙ none) in
            sym m.0 ∙ ap (λ (r : Read). r.tree) p.kept ∙ kept_same p.t (ap (λ z. high_or z (height p.t) (place_of p.t)) (sym start) ∙ sym high ∙ none);
      }
  | inr i ↦ absurd (not_both (sym e ∙ expression_dies h xs i.0 i.1))
]

asked_complete : (t : Tree) (ys : List Token) → Spells all_levels t ys → (h : Option Place) (rest : List Token) → Ends rest → Complete expression alone t ys h rest
asked_complete t ys d h rest stop = record {
  value = (cap t).tree;
  reads = expression_reads h (ys ++ rest) rest (cap t) (spelled_taken t ys rest d stop) ∙ ap (λ z. found (cap t).tree z rest) (kept_high h t);
  same = λ none. let start : h ≡ None = highs_none h (alone t) none in kept_same t (ap (λ z. high_or z (height t) (place_of t)) (sym start) ∙ none);
}

asked_died : (h : Option Place) (xs : List Token) (n : ℕ) → expression h xs ≡ died n → run xs (ask all_levels []) ≡ dead n
asked_died h xs n e = elim (run_ends xs) [
  | inl i ↦ absurd (not_both (sym (expression_reads h xs i.1 i.0 i.2) ∙ e))
  | inr i ↦ i.1 ∙ ap dead (died_count (expression h xs) i.0 n (expression_dies h xs i.0 i.1) e)
]

-- what is before equal backs of equal lists is equal
front_same : (ys zs rest : List Token) → ys ++ rest ≡ zs ++ rest → ys ≡ zs
front_same [] [] rest e = refl
front_same [] (z ∷ zs) rest e = absurd (let f : length rest ≡ length (z ∷ (zs ++ rest)) = ap length e in omega (arith, length-append zs rest))
front_same (y ∷ ys) [] rest e = absurd (let f : length (y ∷ (ys ++ rest)) ≡ length rest = ap length e in omega (arith, length-append ys rest))
front_same (y ∷ ys) (z ∷ zs) rest e = let first : y ≡ z = cc in ap (λ l. l ∷ ys) first ∙ ap (λ l. z ∷ l) (front_same ys zs rest (cc))

asked_one : (t u : Tree) (ys zs rest other : List Token) → Spells all_levels t ys → Spells all_levels u zs → Ends rest → Ends other → ys ++ rest ≡ zs ++ other → (t ≡ u) × (ys ≡ zs)
asked_one t u ys zs rest other d e stop stop' same =
    let f : took (cap t) rest ≡ took (cap u) other =
    sym (spelled_taken t ys rest d stop) ∙ ap (λ z. run z (ask all_levels [])) same ∙ spelled_taken u zs other e stop' in
    let behind : rest ≡ other = cc in
    let before : ys ≡ zs = front_same ys zs rest (same ∙ ap (λ z. zs ++ z) (sym behind)) in
    (one_tree zs t u (subst (Spells all_levels t) before d) e, before)

pub lawful_expression : Lawful expression (Spells all_levels) alone Ends
lawful_expression = record {
  sound = asked_sound;
  complete = asked_complete;
  stays = λ h front x back other e. expression_dies h (front ++ x ∷ other) (suc (length other)) (run_stays front x back other (ask all_levels []) (asked_died h (front ++ x ∷ back) (suc (length back)) e));
  keeps = λ h front x back other t g left e. elim (run_ends (front ++ x ∷ back)) [
    | inl i ↦
        let m = found_same (sym (expression_reads h (front ++ x ∷ back) i.1 i.0 i.2) ∙ e) in
        expression_reads h (front ++ x ∷ other) (left ++ x ∷ other) i.0 (run_keeps front x back other (ask all_levels []) i.0 left (i.2 ∙ ap (took i.0) m.2))
        ∙ ap (λ z. found z (high_or h i.0.height (place_of i.0.tree)) (left ++ x ∷ other)) m.0 ∙ ap (λ z. found t z (left ++ x ∷ other)) m.1
    | inr i ↦ absurd (not_both (sym e ∙ expression_dies h (front ++ x ∷ back) i.0 i.1))
  ];
  begins = λ h xs n e. let b = dead_begins xs n (asked_died h xs n e) in record {
    front = b.front;
    back = b.back;
    remainder = b.zs;
    value = b.t;
    split = b.parts;
    count = b.left;
    spells = b.spells;
  };
  unique = asked_one;
}

-- a number is an expression
pub some_expression : Inhabited (Spells all_levels)
some_expression = (
  number (record { line = 1; column = 1; offset = 0 }) 0,
  a_number ∷ [],
  pass (pass (pass (pass (pass (pass (pass (pass (pass (pass (pass (pass (pass (pass (pass (pass (numbers a_number refl)))))))))))))))),
)
  where
    a_number : Token
    a_number = record { kind = kind.Number 0; place = record { line = 1; column = 1; offset = 0 }; length = 1 }
