-- How the machine goes through the levels: down to the first operand, and up to the level that a token goes on with.
use Rattle.std.proofs.Common.{◌≡◌, ℕ, zero, suc, ◌<◌, ◌≤◌, Bool, true, false, ◌&&◌, cond, if◌then◌else◌, nat_lt, nat_le, nat_eq, Option, Some, None, is_some, ◌⊎◌, inl, inr, List, [], ◌∷◌, length, refl, sym, ap, ◌∙◌, subst, arith}
use Rattle.std.proofs.lemmas.Bool.{ltb-true, ltb-false, lt-ltb, le-ltb, eqb-true, eqb-false, leb-true, le-leb, and_parts}
use Rattle.text_core.specs.declared.place.Place.{Place}
use Rattle.smv_text.specs.declared.token.Sign.{Sign}
use Rattle.smv_text.specs.declared.token.Sign.TheVariants as sign
use Rattle.smv_text.specs.declared.token.Token.{Token}
use Rattle.smv_text.specs.declared.token.TokenKind.{TokenKind}
use Rattle.smv_text.specs.declared.token.TokenKind.TheVariants as kind
use Rattle.smv_text.specs.declared.token.Reserved.TheVariants as word
use Rattle.smv_text.specs.declared.tree.Path.{Path}
use Rattle.smv_text.specs.declared.operators.Prefix.{Prefix}
use Rattle.smv_text.specs.declared.operators.Prefix.TheVariants as prefixes
use Rattle.smv_text.specs.declared.level.Level.{Level}
use Rattle.smv_text.specs.declared.level.Level.TheVariants.{Before}
use Rattle.smv_text.specs.Tree.{Tree, number, truth}
use Rattle.smv_text.specs.Grammar.{start}
use Rattle.smv_grammar.specs.declared.levels.Leader.{Leader}
use Rattle.smv_grammar.specs.declared.levels.Leader.TheVariants as leader
use Rattle.smv_grammar.specs.Marks.{is_sign}
use Rattle.smv_expressions.specs.Gathered.{single}
use Rattle.smv_expressions.specs.Following.{Begins, first_level}
use Rattle.smv_grammar.specs.Ranks.{level_at, tightest, first_rank}
use Rattle.smv_grammar.specs.Machine.{prefix_sign, is_prefix, Frame, ask, have, signed, opened, primary, leader_of, path_head, longer, failed, along, walk}
use Rattle.smv_grammar.specs.Reading.{after, found, integer_at, starts_with_dots, dots_behind, starts_range, with_name, path_on, path_step, path_at, first_path, waiting}
use Rattle.smv_grammar.proofs.First.{path_on-ends}
use Rattle.smv_grammar.proofs.Ranked.{rank_at}
use Rattle.smv_grammar.proofs.Steps.{named_on}
use Rattle.smv_grammar.proofs.Climbing.{IsPlain, leads_by, opened_leaves, passes, path_begins, prefix_begins}

-- none of the levels from m up to n goes on
pub settles : (m n : ℕ) (p : Place) (k : List Frame) (t : Tree) (xs : List Token) → n ≤ 16 → ((i : ℕ) → m ≤ i → i < n → first_rank xs ≡ suc i → ⊥)
    → walk xs (have t (waiting m n p k)) ≡ walk xs (have t k)
settles m zero p k t xs few h = refl
settles m (suc n) p k t xs few h = go (nat_lt n m) refl (settles m n p (opened (level_at n) (tightest n) p k) t xs (omega arith) (λ i low high. h i low (omega arith)))
  where
    go : (b : Bool) → nat_lt n m ≡ b → walk xs (have t (waiting m n p (opened (level_at n) (tightest n) p k))) ≡ walk xs (have t (opened (level_at n) (tightest n) p k))
        → walk xs (have t (cond b k (waiting m n p (opened (level_at n) (tightest n) p k)))) ≡ walk xs (have t k)
    go true e ih = refl
    go false e ih =
        let low = ltb-false n m e in
        ih ∙ opened_leaves (level_at n) (tightest n) p k t xs (λ same. h n low (omega arith) (same ∙ rank_at n (omega arith)))

-- the level over i others goes on
pub climbs : (m n i : ℕ) (p : Place) (k : List Frame) (t : Tree) (xs : List Token) → n ≤ 16 → m ≤ i → i < n → first_rank xs ≡ suc i
    → walk xs (have t (waiting m n p k)) ≡ walk xs (have t (opened (level_at i) (tightest i) p (waiting (suc i) n p k)))
climbs m zero i p k t xs few low high is = absurd (omega arith)
climbs m (suc n) i p k t xs few low high is = go (nat_eq i n) refl (climbs m n i p (opened (level_at n) (tightest n) p k) t xs (omega arith) low)
  where
    over : m ≤ n
    over = omega arith

    go : (b : Bool) → nat_eq i n ≡ b
        → (i < n → first_rank xs ≡ suc i → walk xs (have t (waiting m n p (opened (level_at n) (tightest n) p k))) ≡ walk xs (have t (opened (level_at i) (tightest i) p (waiting (suc i) n p (opened (level_at n) (tightest n) p k)))))
        → walk xs (have t (cond (nat_lt n m) k (waiting m n p (opened (level_at n) (tightest n) p k)))) ≡ walk xs (have t (opened (level_at i) (tightest i) p (cond (nat_lt n (suc i)) k (waiting (suc i) n p (opened (level_at n) (tightest n) p k)))))
    go true e ih =
        let same = eqb-true i n e in
        ap (λ b. walk xs (have t (cond b k (waiting m n p (opened (level_at n) (tightest n) p k))))) (le-ltb n m over)
        ∙ settles m n p (opened (level_at n) (tightest n) p k) t xs (omega arith) (λ j a b c. omega arith)
        ∙ ap (λ j. walk xs (have t (opened (level_at j) (tightest j) p k))) (sym same)
        ∙ ap (λ b. walk xs (have t (opened (level_at i) (tightest i) p (cond b k (waiting (suc i) n p (opened (level_at n) (tightest n) p k)))))) (sym (lt-ltb n (suc i) (omega arith)))
    go false e ih =
        let other = eqb-false i n e in
        ap (λ b. walk xs (have t (cond b k (waiting m n p (opened (level_at n) (tightest n) p k))))) (le-ltb n m over) ∙ ih (omega arith) is
        ∙ ap (λ b. walk xs (have t (opened (level_at i) (tightest i) p (cond b k (waiting (suc i) n p (opened (level_at n) (tightest n) p k)))))) (sym (le-ltb n (suc i) (omega arith)))

pub descends : (m n : ℕ) (xs : List Token) (k : List Frame) → m ≤ n → n ≤ 16 → IsPlain m n xs → walk xs (ask (tightest n) k) ≡ walk xs (ask (tightest m) (waiting m n (start xs) k))
descends m zero xs k low few plain = let none : m ≡ 0 = omega arith in ap (λ i. walk xs (ask (tightest i) k)) (sym none)
descends m (suc n) xs k low few plain =
    go (nat_lt n m) refl (λ above. descends m n xs (opened (level_at n) (tightest n) (start xs) k) above (omega arith) (record { no_not = λ a b. plain.no_not a (omega arith); no_minus = λ a b. plain.no_minus a (omega arith); no_range = λ a b. plain.no_range a (omega arith) }))
  where
    go : (b : Bool) → nat_lt n m ≡ b
        → (m ≤ n → walk xs (ask (tightest n) (opened (level_at n) (tightest n) (start xs) k)) ≡ walk xs (ask (tightest m) (waiting m n (start xs) (opened (level_at n) (tightest n) (start xs) k))))
        → walk xs (ask (tightest (suc n)) k) ≡ walk xs (ask (tightest m) (cond b k (waiting m n (start xs) (opened (level_at n) (tightest n) (start xs) k))))
    go true e ih = let high = ltb-true n m e in let same : m ≡ suc n = omega arith in ap (λ i. walk xs (ask (tightest i) k)) (sym same)
    go false e ih =
        let high = ltb-false n m e in
        passes n (omega arith) xs k (record { no_not = λ a b. plain.no_not (omega arith) (omega arith); no_minus = λ a b. plain.no_minus (omega arith) (omega arith); no_range = λ a b. plain.no_range (omega arith) (omega arith) })
        ∙ ih high

pub nothing_comes : (levels : List Level) (k : List Frame) → walk [] (ask levels k) ≡ failed 0
unfolding walk
nothing_comes levels k = refl

mutual
  path_on_place : (xs : List Token) (path q : Path) (rest : List Token) → path_on path xs ≡ found q rest → q.place ≡ path.place
  path_on_place [] path q rest e = let same : path ≡ q = cc in ap (λ r. r.place) (sym same)
  path_on_place (x ∷ xs) path q rest e = go (is_sign sign.Dot x.kind) (path_step_place xs path q rest) e
    where
      go : (b : Bool) → (path_step path xs ≡ found q rest → q.place ≡ path.place) → cond b (path_step path xs) (found path (x ∷ xs)) ≡ found q rest → q.place ≡ path.place
      go true ih e = ih e
      go false ih e = let same : path ≡ q = cc in ap (λ r. r.place) (sym same)

  path_step_place : (xs : List Token) (path q : Path) (rest : List Token) → path_step path xs ≡ found q rest → q.place ≡ path.place
  path_step_place [] path q rest e = cc
  path_step_place (x ∷ xs) path q rest e = by x.kind (λ n. path_on_place xs (longer path n) q rest) e
    where
      by : (z : TokenKind) → ((n : List ℕ) → path_on (longer path n) xs ≡ found q rest → q.place ≡ path.place)
          → with_name z (λ n. path_on (longer path n) xs) (suc (length xs)) ≡ found q rest → q.place ≡ path.place
      by (kind.Ident n) ih e = ih n e
      by (kind.Number n) ih e = cc
      by _ ih e = cc

pub path_place : (x : Token) (xs rest : List Token) (q : Path) → first_path (x ∷ xs) ≡ found q rest → q.place ≡ x.place
path_place x xs rest q e = by x.kind e
  where
    by : (z : TokenKind) → path_at z x.place xs ≡ found q rest → q.place ≡ x.place
    by (kind.Ident n) e = path_on_place xs (path_head (kind.Ident n) x.place) q rest e
    by (kind.Reserved word.Itself) e = path_on_place xs (path_head (kind.Reserved word.Itself) x.place) q rest e
    by (kind.Reserved _) e = cc
    by _ e = cc

-- down to the level at which the first operand is read
and_false : (a b : Bool) → a ≡ true → (a && b) ≡ false → b ≡ false
and_false true b e f = f
and_false false b e f = cc

pub none_left : {A : Type 0} (o : Option A) → is_some o ≡ false → o ≡ None
none_left None e = refl
none_left (Some x) e = cc

-- The first operand of n levels is read at m.
pub record IsFirstAt (n m : ℕ) (xs : List Token) : Type 0 where
  pub begins : Begins m xs
  pub leads : (p : Place) → p ≡ start xs → (k : List Frame) → walk xs (ask (tightest n) k) ≡ walk xs (ask (tightest m) (waiting m n p k))

at_start : (n m : ℕ) (xs : List Token) → ((k : List Frame) → walk xs (ask (tightest n) k) ≡ walk xs (ask (tightest m) (waiting m n (start xs) k)))
    → (p : Place) → p ≡ start xs → (k : List Frame) → walk xs (ask (tightest n) k) ≡ walk xs (ask (tightest m) (waiting m n p k))
at_start n m xs h p e k = h k ∙ ap (λ q. walk xs (ask (tightest m) (waiting m n q k))) (sym e)

module _ (n : ℕ) (few : n ≤ 16) (xs : List Token) where
  no_range_from : (nat_le 8 n && starts_range xs) ≡ false → 7 < n → starts_range xs ≡ false
  no_range_from r h = and_false (nat_le 8 n) _ (le-leb 8 n (omega arith)) r

  no_sign_from : (m : ℕ) (s : Sign) → (nat_le m n && is_some (after s xs)) ≡ false → m ≤ n → after s xs ≡ None
  no_sign_from m s e h = none_left (after s xs) (and_false (nat_le m n) _ (le-leb m n h) e)

  range_first : (nat_le 8 n && starts_range xs) ≡ true → IsFirstAt n 8 xs
  range_first e =
      let h = and_parts (nat_le 8 n) _ e in
      record {
        begins = record { range = λ _. h.1; minus = λ same. absurd (omega arith); negation = λ same. absurd (omega arith); below = λ other _ _. absurd (other refl) };
        leads = at_start n 8 xs (λ k. descends 8 n xs k (leb-true 8 n h.0) few (record { no_not = λ a b. absurd (omega arith); no_minus = λ a b. absurd (omega arith); no_range = λ a b. absurd (omega arith) }));
      }

  minus_first : (nat_le 8 n && starts_range xs) ≡ false → (nat_le 4 n && is_some (after sign.Minus xs)) ≡ true → IsFirstAt n 4 xs
  minus_first r e =
      let h = and_parts (nat_le 4 n) _ e in
      record {
        begins = record { range = λ same. absurd (omega arith); minus = λ _. h.1; negation = λ same. absurd (omega arith); below = λ _ other _. absurd (other refl) };
        leads = at_start n 4 xs (λ k. descends 4 n xs k (leb-true 4 n h.0) few (record { no_not = λ a b. absurd (omega arith); no_minus = λ a b. absurd (omega arith); no_range = λ a b. no_range_from r b }));
      }

  not_first : (nat_le 8 n && starts_range xs) ≡ false → (nat_le 4 n && is_some (after sign.Minus xs)) ≡ false → (nat_le 2 n && is_some (after sign.Not xs)) ≡ true → IsFirstAt n 2 xs
  not_first r m e =
      let h = and_parts (nat_le 2 n) _ e in
      record {
        begins = record { range = λ same. absurd (omega arith); minus = λ same. absurd (omega arith); negation = λ _. h.1; below = λ _ _ other. absurd (other refl) };
        leads = at_start n 2 xs (λ k. descends 2 n xs k (leb-true 2 n h.0) few (record { no_not = λ a b. absurd (omega arith); no_minus = λ a b. no_sign_from 4 sign.Minus m (omega arith); no_range = λ a b. no_range_from r b }));
      }

  pub plain_descends : (k : List Frame) → (nat_le 8 n && starts_range xs) ≡ false → (nat_le 4 n && is_some (after sign.Minus xs)) ≡ false → (nat_le 2 n && is_some (after sign.Not xs)) ≡ false
      → walk xs (ask (tightest n) k) ≡ walk xs (ask [] (waiting 0 n (start xs) k))
  plain_descends k r m e =
      descends 0 n xs k (omega arith) few
      (record { no_not = λ a b. no_sign_from 2 sign.Not e (omega arith); no_minus = λ a b. no_sign_from 4 sign.Minus m (omega arith); no_range = λ a b. no_range_from r b })

  plain_first : (nat_le 8 n && starts_range xs) ≡ false → (nat_le 4 n && is_some (after sign.Minus xs)) ≡ false → (nat_le 2 n && is_some (after sign.Not xs)) ≡ false → IsFirstAt n 0 xs
  plain_first r m e = record {
    begins = record { range = λ same. absurd (omega arith); minus = λ same. absurd (omega arith); negation = λ same. absurd (omega arith); below = λ _ _ _. refl };
    leads = at_start n 0 xs (λ k. plain_descends k r m e);
  }

  first_by : (r m e : Bool) → (nat_le 8 n && starts_range xs) ≡ r → (nat_le 4 n && is_some (after sign.Minus xs)) ≡ m → (nat_le 2 n && is_some (after sign.Not xs)) ≡ e
      → IsFirstAt n (if r then 8 else if m then 4 else if e then 2 else 0) xs
  first_by true m e a b c = range_first a
  first_by false true e a b c = minus_first a b
  first_by false false true a b c = not_first a b c
  first_by false false false a b c = plain_first a b c

  pub first_at : (m : ℕ) → m ≡ first_level n xs → IsFirstAt n m xs
  first_at m is = subst (λ l. IsFirstAt n l xs) (sym is) (first_by _ _ _ refl refl refl)

-- a prefix begins with its sign
first_true : (b : Bool) (xs : List Token) → is_some (cond b (Some xs) None) ≡ true → b ≡ true
first_true true xs e = refl
first_true false xs e = cc

pub prefix_first : (pre : Prefix) (below : List Level) (ys : List Token) (x : Token) (xs : List Token) → ys ≡ x ∷ xs → is_some (after (prefix_sign pre) ys) ≡ true
    → (k : List Frame) → walk ys (ask (Before pre ∷ below) k) ≡ walk xs (signed pre below x.place 1 k)
prefix_first pre below ys x xs is e k =
    ap (λ zs. walk zs (ask (Before pre ∷ below) k)) is ∙ prefix_begins pre below k x xs (first_true _ xs (ap (λ zs. is_some (after (prefix_sign pre) zs)) (sym is) ∙ e))

neither : (b : Bool) (z : Bool) → z ≡ false → (b && z) ≡ false
neither true z e = e
neither false z e = refl

not_some : {b : Bool} (xs : List Token) → b ≡ false → is_some (cond b (Some xs) None) ≡ false
not_some xs e = ap (λ b. is_some (cond b (Some xs) None)) e

-- a token that begins neither a range nor signs is read below all levels
pub alone_leads : (n : ℕ) → n ≤ 16 → (x : Token) (xs : List Token) (k : List Frame) (l : Leader) → l ≡ leader_of x.kind
    → starts_range (x ∷ xs) ≡ false → is_prefix prefixes.Minus x.kind ≡ false → is_prefix prefixes.Not x.kind ≡ false
    → walk (x ∷ xs) (ask (tightest n) k) ≡ along (primary l (waiting 0 n x.place k) x.place x.kind) x xs (λ s. walk xs s)
alone_leads n few x xs k l e no_range no_minus no_negation =
    plain_descends n few (x ∷ xs) k (neither (nat_le 8 n) _ no_range) (neither (nat_le 4 n) _ (not_some xs no_minus)) (neither (nat_le 2 n) _ (not_some xs no_negation)) ∙ leads_by (waiting 0 n x.place k) x xs l e

-- a number begins a range where `..` is behind it
no_dots : (xs : List Token) → is_some (after sign.Range xs) ≡ false → starts_with_dots xs ≡ false
no_dots [] h = refl
no_dots (x ∷ xs) h = go (is_sign sign.Range x.kind) refl h
  where
    go : (b : Bool) → is_sign sign.Range x.kind ≡ b → is_some (cond b (Some xs) None) ≡ false → is_sign sign.Range x.kind ≡ false
    go true e h = absurd (cc)
    go false e h = e

pub number_leads : (n : ℕ) → n ≤ 16 → (x : Token) (xs : List Token) (k : List Frame) (m : ℕ) → x.kind ≡ kind.Number m → is_some (after sign.Range xs) ≡ false
    → walk (x ∷ xs) (ask (tightest n) k) ≡ walk xs (have (number x.place m) (waiting 0 n x.place k))
number_leads n few x xs k m e none =
    alone_leads n few x xs k (leader.Number m) (sym (ap leader_of e)) (ap (λ z. dots_behind (integer_at z xs)) e ∙ no_dots xs none) (ap (is_prefix prefixes.Minus) e) (ap (is_prefix prefixes.Not) e)

pub truth_leads : (n : ℕ) → n ≤ 16 → (x : Token) (xs : List Token) (k : List Frame) (b : Bool) → x.kind ≡ kind.Reserved (if b then word.True else word.False)
    → walk (x ∷ xs) (ask (tightest n) k) ≡ walk xs (have (truth x.place b) (waiting 0 n x.place k))
truth_leads n few x xs k true e =
    alone_leads n few x xs k (leader.Truth true) (sym (ap leader_of e)) (ap (λ z. dots_behind (integer_at z xs)) e) (ap (is_prefix prefixes.Minus) e) (ap (is_prefix prefixes.Not) e)
truth_leads n few x xs k false e =
    alone_leads n few x xs k (leader.Truth false) (sym (ap leader_of e)) (ap (λ z. dots_behind (integer_at z xs)) e) (ap (is_prefix prefixes.Minus) e) (ap (is_prefix prefixes.Not) e)

-- a single name begins
pub name_leads : (n : ℕ) → n ≤ 16 → (x : Token) (xs : List Token) (k : List Frame) (m : List ℕ) → x.kind ≡ kind.Ident m → after sign.Dot xs ≡ None
    → walk (x ∷ xs) (ask (tightest n) k) ≡ walk xs (have (single x.place m) (waiting 0 n x.place k))
name_leads n few x xs k m e alone =
    let w = waiting 0 n x.place k in
    plain_descends n few (x ∷ xs) k (neither (nat_le 8 n) _ (ap (λ z. dots_behind (integer_at z xs)) e)) (neither (nat_le 4 n) _ (not_some xs (ap (is_prefix prefixes.Minus) e))) (neither (nat_le 2 n) _ (not_some xs (ap (is_prefix prefixes.Not) e)))
    ∙ path_begins w x xs (sym (ap leader_of e)) ∙ ap (λ z. named_on (path_at z x.place xs) w) e ∙ ap (λ f. named_on f w) (path_on-ends (path_head (kind.Ident m) x.place) xs alone)

pub beside : (m n r : ℕ) → (r ≤ m) ⊎ ((m < r) × (n < r)) → (i : ℕ) → m ≤ i → i < n → r ≡ suc i → ⊥
beside m n r (inl h) i low high same = omega arith
beside m n r (inr h) i low high same = omega arith
