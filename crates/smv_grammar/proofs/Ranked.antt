-- The levels by their number, and which tokens go on with them.
use Rattle.std.proofs.Common.{◌≡◌, ℕ, zero, suc, ◌-◌, ◌<◌, Bool, true, false, cond, nat_eq, get_or, is_some, ◌||◌, Option, Some, None, List, [], ◌∷◌, refl, sym, ap, ◌∙◌, subst, arith}
use Rattle.std.proofs.lemmas.Bool.{eqb-true, eqb-false}
use Rattle.smv_text.specs.declared.token.Sign.{Sign}
use Rattle.smv_text.specs.declared.token.Sign.TheVariants as sign
use Rattle.smv_text.specs.declared.token.Token.{Token}
use Rattle.smv_text.specs.declared.token.TokenKind.{TokenKind}
use Rattle.smv_text.specs.declared.token.TokenKind.TheVariants as kind
use Rattle.smv_text.specs.declared.operators.Infix.{Infix}
use Rattle.smv_text.specs.declared.level.OperatorClass.{OperatorClass}
use Rattle.smv_text.specs.declared.level.Level.{Level}
use Rattle.smv_text.specs.declared.level.TheConstants.{LEVELS}
use Rattle.smv_text.specs.Levels.{infix_of, infix_at, of_class, class_of, class_number}
use Rattle.smv_text.specs.laws.Operators.{infix_is, same_class}
use Rattle.smv_grammar.specs.Marks.{is_sign}
use Rattle.smv_grammar.specs.Ranks.{level_at, class_rank, level_rank, rank_by, rank_of, first_rank}
use Rattle.smv_grammar.specs.Machine.{goes_on, Ends}
use Rattle.smv_grammar.proofs.Signs.{sign_is}

-- what holds of each number below a bound
abbrev pub EachBelow : ℕ → (ℕ → Type 0) → Type 0
EachBelow zero P = Unit {0}
EachBelow (suc m) P = P m × EachBelow m P

pub each_below : (m : ℕ) (P : ℕ → Type 0) → EachBelow m P → (n : ℕ) → n < m → P n
each_below zero P all n h = absurd (omega arith)
each_below (suc m) P all n h = go (nat_eq n m) refl (each_below m P all.1 n)
  where
    go : (b : Bool) → nat_eq n m ≡ b → (n < m → P n) → P n
    go true e ih = subst P (sym (eqb-true n m e)) all.0
    go false e ih = let other = eqb-false n m e in ih (omega arith)

pub level_of_code : (n : ℕ) → n < 16 → (d : Level) → get_or LEVELS (15 - n) d ≡ level_at n
level_of_code n h d =
    let all : EachBelow 16 (λ m. get_or LEVELS (15 - m) d ≡ level_at m) = (refl, (refl, (refl, (refl, (refl, (refl, (refl, (refl, (refl, (refl, (refl, (refl, (refl, (refl, (refl, (refl, tt)))))))))))))))) in
    each_below 16 (λ m. get_or LEVELS (15 - m) d ≡ level_at m) all n h

pub rank_at : (n : ℕ) → n < 16 → level_rank (level_at n) ≡ suc n
rank_at n h =
    let all : EachBelow 16 (λ m. level_rank (level_at m) ≡ suc m) = (refl, (refl, (refl, (refl, (refl, (refl, (refl, (refl, (refl, (refl, (refl, (refl, (refl, (refl, (refl, (refl, tt)))))))))))))))) in
    each_below 16 (λ m. level_rank (level_at m) ≡ suc m) all n h

-- a token is an operator of a chain where it has that level's rank
pub class_ranks : (j : OperatorClass) (x : TokenKind) (op : Infix) → infix_of j x ≡ Some op → rank_of x ≡ class_rank j
class_ranks j x op e = go (infix_at x) (sym (infix_is j x) ∙ e)
  where
    go : (o : Option Infix) → of_class j o ≡ Some op → rank_by o x ≡ class_rank j
    go None e = cc
    go (Some i) e = by (nat_eq (class_number (class_of i)) (class_number j)) refl e
      where
        by : (b : Bool) → nat_eq (class_number (class_of i)) (class_number j) ≡ b → cond b (Some i) None ≡ Some op → class_rank (class_of i) ≡ class_rank j
        by true same e = ap class_rank (same_class (class_of i) j same)
        by false same e = cc

pub no_operator : (j : OperatorClass) (x : TokenKind) → (rank_of x ≡ class_rank j → ⊥) → infix_of j x ≡ None
no_operator j x other = go (infix_of j x) refl
  where
    go : (o : Option Infix) → infix_of j x ≡ o → infix_of j x ≡ None
    go None e = e
    go (Some op) e = absurd (other (class_ranks j x op e))

sign_rank : (s : Sign) (x : TokenKind) → is_sign s x ≡ true → rank_of x ≡ rank_of (kind.Sign s)
sign_rank s x e = ap rank_of (sign_is x s e)

-- a sign that does not have the rank of a token is not that token
pub not_sign : (s : Sign) (x : TokenKind) → (rank_of x ≡ rank_of (kind.Sign s) → ⊥) → is_sign s x ≡ false
not_sign s x other = go (is_sign s x) refl
  where
    go : (b : Bool) → is_sign s x ≡ b → is_sign s x ≡ false
    go true e = absurd (other (sign_rank s x e))
    go false e = e

-- what follows goes on with none of so many levels, nor with a name or an integer
abbrev pub Stops : ℕ → List Token → Type 0
Stops n xs = n < first_rank xs

rank_least : (x : TokenKind) → goes_on x ≡ false → rank_of x ≡ 17
rank_least x e = go (infix_at x) e
  where
    go : (o : Option Infix) → (is_some o || (is_sign sign.Question x || (is_sign sign.OpenBracket x || (is_sign sign.Dot x || is_sign sign.Range x)))) ≡ false → rank_by o x ≡ 17
    go (Some op) e = cc
    go None e = by x e
      where
        by : (z : TokenKind) → (is_sign sign.Question z || (is_sign sign.OpenBracket z || (is_sign sign.Dot z || is_sign sign.Range z))) ≡ false → rank_by None z ≡ 17
        by (kind.Sign sign.Question) e = cc
        by (kind.Sign sign.OpenBracket) e = cc
        by (kind.Sign sign.Dot) e = cc
        by (kind.Sign sign.Range) e = cc
        by (kind.Sign _) e = refl
        by (kind.Number n) e = refl
        by _ e = refl

pub ends_stop : (xs : List Token) → Ends xs → Stops 16 xs
ends_stop [] e = omega arith
ends_stop (x ∷ xs) e = let r = rank_least x.kind e in omega arith
