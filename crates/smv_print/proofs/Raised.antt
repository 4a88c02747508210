-- What is spelled at a level is spelled at the looser ones.
use Rattle.std.proofs.Common.{◌≡◌, ◌≤◌, ℕ, zero, suc, Some, List, [], ◌∷◌, drop, refl, ap, arith}
use Rattle.smv_text.specs.declared.token.Token.{Token}
use Rattle.smv_text.specs.declared.token.TokenKind.{TokenKind}
use Rattle.smv_text.specs.declared.token.TokenKind.TheVariants as kind
use Rattle.smv_text.specs.declared.operators.Infix.{Infix}
use Rattle.smv_text.specs.declared.operators.Infix.TheVariants as op
use Rattle.smv_text.specs.declared.operators.Prefix.TheVariants as prefixes
use Rattle.smv_text.specs.declared.operators.Function.{Function}
use Rattle.smv_text.specs.declared.operators.Function.TheVariants as function
use Rattle.smv_text.specs.declared.level.OperatorClass.{OperatorClass}
use Rattle.smv_text.specs.declared.level.OperatorClass.TheVariants as classes
use Rattle.smv_text.specs.declared.level.Level.{Level}
use Rattle.smv_text.specs.declared.level.Level.TheVariants.{Chain, Choice, Range, Before, Selection}
use Rattle.smv_text.specs.Levels.{all_levels, infix_of, function_at, class_of, infix_kind, function_word}
use Rattle.smv_text.specs.laws.Operators.{class_is}
use Rattle.text_core.specs.declared.place.Place.{Place}
use Rattle.smv_text.specs.Tree.{Tree, chain, Links, link}
use Rattle.smv_text.specs.Grammar.{Spells, pass}
use Rattle.smv_print.specs.Ranks.{rank, tree_rank}

pub from_below : {t : Tree} {xs : List Token} (ls : List Level) → Spells [] t xs → Spells ls t xs
from_below [] s = s
from_below (l ∷ ls) s = pass (from_below ls s)

lifted : {t : Tree} {xs : List Token} (m : ℕ) (ls : List Level) → Spells (drop m ls) t xs → Spells ls t xs
lifted zero ls s = s
lifted (suc m) [] s = s
lifted (suc m) (l ∷ ls) s = pass (lifted m ls s)

pub raised : {t : Tree} {xs : List Token} (n m : ℕ) (ls : List Level) → n ≤ m → Spells (drop m ls) t xs → Spells (drop n ls) t xs
raised zero m ls h s = lifted m ls s
raised (suc n) zero ls h s = absurd (omega arith)
raised (suc n) (suc m) [] h s = s
raised (suc n) (suc m) (l ∷ ls) h s = raised n m ls (omega arith) s

pub level_first : (l : Level) → drop (rank l) all_levels ≡ l ∷ drop (suc (rank l)) all_levels
level_first (Chain classes.Implications) = refl
level_first (Chain _) = refl
level_first Choice = refl
level_first Range = refl
level_first (Before prefixes.Minus) = refl
level_first (Before prefixes.Not) = refl
level_first Selection = refl

-- the token of an operator is that operator
pub infix_again : (o : Infix) → infix_of (class_of o) (infix_kind o) ≡ Some o
infix_again op.Implies = refl
infix_again _ = refl

pub function_again : (f : Function) → function_at (kind.Reserved (function_word f)) ≡ Some f
function_again function.Bool = refl
function_again _ = refl

-- A chain has the rank of the class of its operators.
pub chain_rank : (c : OperatorClass) (k : TokenKind) (o : Infix) (p : Place) (t u : Tree) (ls : Links) → infix_of c k ≡ Some o → tree_rank (chain p t (link o u ls)) ≡ rank (Chain c)
chain_rank c k o p t u ls e = ap (λ i. rank (Chain i)) (class_is c k o e)
