-- How the machine goes through the levels: down to the first operand, and up to the level that a token goes on with.
use Rattle.std.proofs.Common.{◌≡◌, ℕ, ℤ, pos, ◌-ℤ◌, suc, ◌<◌, ◌≤◌, true, false, cond, Some, None, option_map, List, [], ◌∷◌, refl, sym, ap, ◌∙◌, arith}
use Rattle.text_core.specs.declared.place.Place.{Place}
use Rattle.smv_text.specs.declared.token.Sign.{Sign}
use Rattle.smv_text.specs.declared.token.Sign.TheVariants as sign
use Rattle.smv_text.specs.declared.token.Token.{Token}
use Rattle.smv_text.specs.declared.token.TokenKind.{TokenKind}
use Rattle.smv_text.specs.declared.token.TokenKind.TheVariants as kind
use Rattle.smv_text.specs.declared.token.Reserved.TheVariants as word
use Rattle.smv_text.specs.declared.operators.Prefix.{Prefix}
use Rattle.smv_text.specs.declared.operators.Prefix.TheVariants as prefixes
use Rattle.smv_text.specs.declared.level.OperatorClass.{OperatorClass}
use Rattle.smv_text.specs.declared.level.Level.{Level}
use Rattle.smv_text.specs.declared.level.Level.TheVariants.{Chain, Choice, Range, Before, Selection}
use Rattle.smv_text.specs.Tree.{Tree, number}
use Rattle.smv_text.specs.Grammar.{start}
use Rattle.smv_grammar.specs.declared.levels.Leader.{Leader}
use Rattle.smv_grammar.specs.declared.levels.Leader.TheVariants as leader
use Rattle.smv_grammar.specs.Marks.{is_sign}
use Rattle.smv_grammar.specs.Ranks.{level_at, tightest, level_rank, rank_of, first_rank}
use Rattle.smv_grammar.specs.Machine.{prefix_sign, is_prefix, bare, Frame, operand, when, selected, State, ask, have, signed, integer, minus, negative, upto, Move, onto, opened, pushed, minus_to, number_pushed, number_gives, primary, leader_of, path_head, begin, begin_integer, after_minus, after_sign, give, along, walk}
use Rattle.smv_grammar.specs.Reading.{after, operator_after, found, number_at, first_number, negated, first_integer, integer_at, starts_with_dots, dots_behind, starts_range, path_on, path_at, first_path, waiting}
use Rattle.smv_grammar.proofs.Signs.{after_found, not_minus}
use Rattle.smv_grammar.proofs.Ranked.{no_operator, not_sign, EachBelow, each_below}
use Rattle.smv_grammar.proofs.Steps.{operand_goes, chain_goes, when_leaves, selected_leaves, named_on, named_goes}

-- what does not go on with a level
pub none_after : (s : Sign) (xs : List Token) → (first_rank xs ≡ rank_of (kind.Sign s) → ⊥) → after s xs ≡ None
none_after s [] h = refl
none_after s (x ∷ xs) h = ap (λ b. cond b (Some xs) None) (not_sign s x.kind h)

pub none_joined : (j : OperatorClass) (xs : List Token) → (first_rank xs ≡ level_rank (Chain j) → ⊥) → operator_after j xs ≡ None
none_joined j [] h = refl
none_joined j (x ∷ xs) h = ap (option_map (λ op. (op, xs))) (no_operator j x.kind h)

pub opened_leaves : (level : Level) (below : List Level) (p : Place) (k : List Frame) (t : Tree) (xs : List Token) → (first_rank xs ≡ level_rank level → ⊥)
    → walk xs (have t (opened level below p k)) ≡ walk xs (have t k)
opened_leaves (Chain j) below p k t xs h = operand_goes k below j p bare t xs ∙ ap (chain_goes j below p (record { first = t; links = [] }) k xs) (none_joined j xs h)
opened_leaves Choice below p k t xs h = when_leaves k t xs below p [] (none_after sign.Question xs h)
opened_leaves Range below p k t xs h = refl
opened_leaves (Before pre) below p k t xs h = refl
opened_leaves Selection below p k t xs h = selected_leaves k t xs p (none_after sign.OpenBracket xs h)

-- an expression begins at the next level
pub chain_begins : (j : OperatorClass) (below : List Level) (k : List Frame) (xs : List Token) → walk xs (ask (Chain j ∷ below) k) ≡ walk xs (ask below (operand j below (start xs) bare ∷ k))
unfolding walk
chain_begins j below k [] = refl
chain_begins j below k (x ∷ xs) = refl

pub choice_begins : (below : List Level) (k : List Frame) (xs : List Token) → walk xs (ask (Choice ∷ below) k) ≡ walk xs (ask below (when below (start xs) [] ∷ k))
unfolding walk
choice_begins below k [] = refl
choice_begins below k (x ∷ xs) = refl

pub selection_begins : (below : List Level) (k : List Frame) (xs : List Token) → walk xs (ask (Selection ∷ below) k) ≡ walk xs (ask below (selected (start xs) ∷ k))
unfolding walk
selection_begins below k [] = refl
selection_begins below k (x ∷ xs) = refl

pub before_begins : (pre : Prefix) (below : List Level) (k : List Frame) (xs : List Token) → after (prefix_sign pre) xs ≡ None → walk xs (ask (Before pre ∷ below) k) ≡ walk xs (ask below k)
unfolding walk
before_begins pre below k [] e = refl
before_begins pre below k (x ∷ xs) e = ap (λ b. along (cond b (onto (signed pre below x.place 1 k)) (begin below k x.place x.kind)) x xs (λ s. walk xs s)) (not_minus (is_prefix pre x.kind) xs e)

pub integer_leaves : (below : List Level) (p : Place) (n : ℕ) (k : List Frame) (xs : List Token) → starts_with_dots xs ≡ false
    → walk xs (integer below p n k) ≡ walk xs (have (number p n) (pushed below p k))
unfolding walk
integer_leaves below p n k [] e = refl
integer_leaves below p n k (x ∷ xs) e = ap (λ b. along (cond b (onto (upto p (pos n) k)) (give (pushed below p k) (number p n) x.kind)) x xs (λ s. walk xs s)) e

negative_leaves : (p q : Place) (n : ℕ) (k : List Frame) (xs : List Token) → starts_with_dots xs ≡ false
    → walk xs (negative (tightest 7) p q n k) ≡ walk xs (have (number q n) (number_pushed p q (tightest 3, waiting 4 7 p k)))
unfolding walk
negative_leaves p q n k [] e = refl
negative_leaves p q n k (x ∷ xs) e = ap (λ b. along (cond b (onto (upto p (pos 0 -ℤ pos n) k)) (number_gives (minus_to (tightest 7) p k) p q n x.kind)) x xs (λ s. walk xs s)) e

minus_leaves : (p : Place) (k : List Frame) (xs : List Token) → dots_behind (negated (first_number xs)) ≡ false
    → walk xs (minus (tightest 7) p k) ≡ walk xs (signed prefixes.Minus (tightest 3) p 1 (waiting 4 7 p k))
unfolding walk
minus_leaves p k [] e = refl
minus_leaves p k (x ∷ xs) e = by x.kind e
  where
    by : (z : TokenKind) → dots_behind (negated (number_at z xs)) ≡ false
        → along (after_minus (tightest 7) p k x.place z) x xs (λ s. walk xs s) ≡ along (after_sign prefixes.Minus (tightest 3) p 1 (waiting 4 7 p k) x.place z) x xs (λ s. walk xs s)
    by (kind.Number n) e = negative_leaves p x.place n k xs e
    by (kind.Ident n) e = refl
    by _ e = refl

range_begins : (k : List Frame) (xs : List Token) → starts_range xs ≡ false → walk xs (ask (tightest 8) k) ≡ walk xs (ask (tightest 7) k)
unfolding walk
range_begins k [] e = refl
range_begins k (x ∷ xs) e = by x.kind e
  where
    by : (z : TokenKind) → dots_behind (integer_at z xs) ≡ false
        → along (begin_integer z (begin (tightest 7) k x.place z) (tightest 7) x.place k) x xs (λ s. walk xs s) ≡ along (begin (tightest 7) k x.place z) x xs (λ s. walk xs s)
    by (kind.Number n) e = integer_leaves (tightest 7) x.place n k xs e
    by (kind.Sign sign.Minus) e = minus_leaves x.place k xs e
    by (kind.Sign _) e = refl
    by (kind.Ident n) e = refl
    by _ e = refl

-- no level from m up to n begins in a way of its own
pub record IsPlain (m n : ℕ) (xs : List Token) : Type 0 where
  pub no_not : m ≤ 1 → 1 < n → after sign.Not xs ≡ None
  pub no_minus : m ≤ 3 → 3 < n → after sign.Minus xs ≡ None
  pub no_range : m ≤ 7 → 7 < n → starts_range xs ≡ false

pub passes : (n : ℕ) → n < 16 → (xs : List Token) → (k : List Frame) → IsPlain n (suc n) xs
    → walk xs (ask (tightest (suc n)) k) ≡ walk xs (ask (tightest n) (opened (level_at n) (tightest n) (start xs) k))
passes n h xs k plain =
    let all : EachBelow 16 (λ m. IsPlain m (suc m) xs → walk xs (ask (tightest (suc m)) k) ≡ walk xs (ask (tightest m) (opened (level_at m) (tightest m) (start xs) k))) = (
      λ _. chain_begins _ (tightest 15) k xs,
      (
        λ _. chain_begins _ (tightest 14) k xs,
        (
          λ _. choice_begins (tightest 13) k xs,
          (
            λ _. chain_begins _ (tightest 12) k xs,
            (
              λ _. chain_begins _ (tightest 11) k xs,
              (
                λ _. chain_begins _ (tightest 10) k xs,
                (
                  λ _. chain_begins _ (tightest 9) k xs,
                  (
                    λ _. chain_begins _ (tightest 8) k xs,
                    (
                      λ q. range_begins k xs (q.no_range (omega arith) (omega arith)),
                      (
                        λ _. chain_begins _ (tightest 6) k xs,
                        (
                          λ _. chain_begins _ (tightest 5) k xs,
                          (
                            λ _. chain_begins _ (tightest 4) k xs,
                            (
                              λ q. before_begins prefixes.Minus (tightest 3) k xs (q.no_minus (omega arith) (omega arith)),
                              (
                                λ _. chain_begins _ (tightest 2) k xs,
                                (
                                  λ q. before_begins prefixes.Not (tightest 1) k xs (q.no_not (omega arith) (omega arith)),
                                  (λ _. selection_begins (tightest 0) k xs, tt),
                                ),
                              ),
                            ),
                          ),
                        ),
                      ),
                    ),
                  ),
                ),
              ),
            ),
          ),
        ),
      ),
    ) in
    each_below 16 (λ m. IsPlain m (suc m) xs → walk xs (ask (tightest (suc m)) k) ≡ walk xs (ask (tightest m) (opened (level_at m) (tightest m) (start xs) k))) all n h plain

-- a prefix, or a range
pub prefix_begins : (pre : Prefix) (below : List Level) (k : List Frame) (x : Token) (xs : List Token) → is_prefix pre x.kind ≡ true
    → walk (x ∷ xs) (ask (Before pre ∷ below) k) ≡ walk xs (signed pre below x.place 1 k)
unfolding walk
prefix_begins pre below k x xs e = ap (λ b. along (cond b (onto (signed pre below x.place 1 k)) (begin below k x.place x.kind)) x xs (λ s. walk xs s)) e

after_dots : (xs rest : List Token) (s from : State) (other : Token → List Token → Move)
    → ((x : Token) (ys : List Token) → walk (x ∷ ys) from ≡ along (cond (is_sign sign.Range x.kind) (onto s) (other x ys)) x ys (λ z. walk ys z))
    → after sign.Range xs ≡ Some rest → walk xs from ≡ walk rest s
after_dots xs rest s from other h e =
    let f = after_found sign.Range xs rest e in ap (λ zs. walk zs from) f.1 ∙ h f.0 rest ∙ ap (λ b. along (cond b (onto s) (other f.0 rest)) f.0 rest (λ z. walk rest z)) f.2

pub range_goes : (k : List Frame) (xs dots rest : List Token) (low : ℤ) → first_integer xs ≡ found low dots → after sign.Range dots ≡ Some rest
    → walk xs (ask (tightest 8) k) ≡ walk rest (upto (start xs) low k)
unfolding walk
range_goes k [] dots rest low e f = cc
range_goes k (x ∷ xs) dots rest low e f = by x.kind e
  where
    negative_goes : (m : ℕ) (y : Token) (ys : List Token) → pos 0 -ℤ pos m ≡ low → ys ≡ dots → walk ys (negative (tightest 7) x.place y.place m k) ≡ walk rest (upto x.place low k)
    negative_goes m y ys z same =
        ap (λ l. walk l (negative (tightest 7) x.place y.place m k)) same
        ∙ after_dots dots rest (upto x.place (pos 0 -ℤ pos m) k) (negative (tightest 7) x.place y.place m k) (λ v vs. number_gives (minus_to (tightest 7) x.place k) x.place y.place m v.kind) (λ v vs. refl) f
        ∙ ap (λ h. walk rest (upto x.place h k)) z

    minus_goes : (ys : List Token) → negated (first_number ys) ≡ found low dots → walk ys (minus (tightest 7) x.place k) ≡ walk rest (upto x.place low k)
    minus_goes [] e = cc
    minus_goes (y ∷ ys) e = number y.kind e
      where
        number : (z : TokenKind) → negated (number_at z ys) ≡ found low dots → along (after_minus (tightest 7) x.place k y.place z) y ys (λ s. walk ys s) ≡ walk rest (upto x.place low k)
        number (kind.Number m) e = negative_goes m y ys (let z : pos 0 -ℤ pos m ≡ low = cc in z) (let q : ys ≡ dots = cc in q)
        number _ e = cc

    by : (z : TokenKind) → integer_at z xs ≡ found low dots → along (begin_integer z (begin (tightest 7) k x.place z) (tightest 7) x.place k) x xs (λ s. walk xs s) ≡ walk rest (upto x.place low k)
    by (kind.Number n) e =
        let q : xs ≡ dots = cc in
        let z : pos n ≡ low = cc in
        ap (λ l. walk l (integer (tightest 7) x.place n k)) q
        ∙ after_dots dots rest (upto x.place (pos n) k) (integer (tightest 7) x.place n k) (λ v vs. give (pushed (tightest 7) x.place k) (number x.place n) v.kind) (λ v vs. refl) f
        ∙ ap (λ h. walk rest (upto x.place h k)) z
    by (kind.Sign sign.Minus) e = minus_goes xs e
    by (kind.Sign _) e = cc
    by _ e = cc

-- an expression below all levels
pub leads_by : (k : List Frame) (x : Token) (xs : List Token) (l : Leader) → l ≡ leader_of x.kind → walk (x ∷ xs) (ask [] k) ≡ along (primary l k x.place x.kind) x xs (λ s. walk xs s)
unfolding walk
leads_by k x xs l e = ap (λ v. along (primary v k x.place x.kind) x xs (λ s. walk xs s)) (sym e)

-- a path
path_begins_at : (z : TokenKind) (p : Place) (xs : List Token) → leader.Path ≡ leader_of z → path_on (path_head z p) xs ≡ path_at z p xs
path_begins_at (kind.Ident n) p xs e = refl
path_begins_at (kind.Reserved word.Itself) p xs e = refl
path_begins_at (kind.Reserved _) p xs e = cc
path_begins_at (kind.Sign sign.Open) p xs e = cc
path_begins_at (kind.Sign _) p xs e = cc
path_begins_at _ p xs e = cc

pub path_begins : (k : List Frame) (x : Token) (xs : List Token) → leader.Path ≡ leader_of x.kind → walk (x ∷ xs) (ask [] k) ≡ named_on (first_path (x ∷ xs)) k
path_begins k x xs e = leads_by k x xs leader.Path e ∙ named_goes xs (path_head x.kind x.place) k ∙ ap (λ f. named_on f k) (path_begins_at x.kind x.place xs e)
