-- How tightly levels and tokens bind. The levels are counted from the tightest, so that each stands over as many as its number.
use Rattle.std.specs.Prelude.{ℕ, zero, suc, Option, Some, None, List, [], ◌∷◌, slice_index_or}
use Rattle.smv_text.specs.declared.token.Sign.TheVariants as sign
use Rattle.smv_text.specs.declared.token.Token.{Token}
use Rattle.smv_text.specs.declared.token.TokenKind.{TokenKind}
use Rattle.smv_text.specs.declared.token.TokenKind.TheVariants as kind
use Rattle.smv_text.specs.declared.operators.Prefix.TheVariants as prefixes
use Rattle.smv_text.specs.declared.operators.Infix.{Infix}
use Rattle.smv_text.specs.declared.level.OperatorClass.{OperatorClass}
use Rattle.smv_text.specs.declared.level.OperatorClass.TheVariants as classes
use Rattle.smv_text.specs.declared.level.Level.{Level}
use Rattle.smv_text.specs.declared.level.Level.TheVariants.{Chain, Choice, Range, Before, Selection}
use Rattle.smv_text.specs.Levels.{infix_at, class_of}

-- all levels, from the tightest to the loosest
abbrev pub tight_levels : List Level
tight_levels =
    Selection ∷ Before prefixes.Not ∷ Chain classes.Concatenations ∷ Before prefixes.Minus ∷ Chain classes.Products ∷ Chain classes.Sums
    ∷ Chain classes.Shifts ∷ Range ∷ Chain classes.Unions ∷ Chain classes.Memberships ∷ Chain classes.Comparisons ∷ Chain classes.Conjunctions
    ∷ Chain classes.Disjunctions ∷ Choice ∷ Chain classes.Equivalences ∷ Chain classes.Implications ∷ []

-- the level over n others
abbrev pub level_at : ℕ → Level
level_at n = slice_index_or tight_levels n Selection

-- the n tightest levels, from the loosest of them; all levels are 16
abbrev pub tightest : ℕ → List Level
tightest zero = []
tightest (suc n) = level_at n ∷ tightest n

abbrev pub class_rank : OperatorClass → ℕ
class_rank classes.Concatenations = 3
class_rank classes.Products = 5
class_rank classes.Sums = 6
class_rank classes.Shifts = 7
class_rank classes.Unions = 9
class_rank classes.Memberships = 10
class_rank classes.Comparisons = 11
class_rank classes.Conjunctions = 12
class_rank classes.Disjunctions = 13
class_rank classes.Equivalences = 15
class_rank classes.Implications = 16

-- how many levels a level is with those below it
abbrev pub level_rank : Level → ℕ
level_rank (Chain j) = class_rank j
level_rank Choice = 14
level_rank Range = 8
level_rank (Before prefixes.Minus) = 4
level_rank (Before prefixes.Not) = 2
level_rank Selection = 1

abbrev pub rank_by : Option Infix → TokenKind → ℕ
rank_by (Some op) x = class_rank (class_of op)
rank_by None (kind.Sign sign.Question) = 14
rank_by None (kind.Sign sign.OpenBracket) = 1
rank_by None (kind.Sign sign.Dot) = 0
rank_by None (kind.Sign sign.Range) = 0
rank_by None _ = 17

-- The rank of the level that a token goes on with, behind an expression: 17 where it goes on with none, 0 for what goes on with
-- a name or an integer.
abbrev pub rank_of : TokenKind → ℕ
rank_of x = rank_by (infix_at x) x

abbrev pub first_rank : List Token → ℕ
first_rank [] = 17
first_rank (x ∷ xs) = rank_of x.kind
