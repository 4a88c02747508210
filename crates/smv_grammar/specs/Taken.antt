-- What tokens have to do with the grammar where the machine takes an expression from them, or dies.
use Rattle.std.specs.Prelude.{◌≡◌, ℕ, List, ◌++◌, length}
use Rattle.smv_text.specs.declared.token.Token.{Token}
use Rattle.smv_text.specs.Levels.{all_levels}
use Rattle.smv_text.specs.Tree.{Tree}
use Rattle.smv_text.specs.Grammar.{Spells}
use Rattle.smv_grammar.specs.Kept.{Read, cap}

-- The tokens before the rest spell an expression, of which this is kept.
pub record IsTaken (xs : List Token) (r : Read) (rest : List Token) : Type 0 where
  pub ys : List Token
  pub t : Tree
  pub parts : xs ≡ ys ++ rest
  pub spells : Spells all_levels t ys
  pub kept : r ≡ cap t

-- All tokens but the last n begin the spelling of an expression.
pub record IsBegun (xs : List Token) (n : ℕ) : Type 0 where
  pub front : List Token
  pub back : List Token
  pub zs : List Token
  pub t : Tree
  pub parts : xs ≡ front ++ back
  pub left : length back ≡ n
  pub spells : Spells all_levels t (front ++ zs)
