-- What comes first among tokens: signs, words and operators, numbers, integers, names and paths.
use Rattle.std.specs.Prelude.{ℕ, ℤ, pos, ◌-ℤ◌, zero, suc, Bool, false, nat_lt, cond, Option, Some, None, option_map, List, [], ◌∷◌, length}
use Rattle.text_core.specs.declared.place.Place.{Place}
use Rattle.smv_text.specs.declared.token.Reserved.{Reserved}
use Rattle.smv_text.specs.declared.token.Reserved.TheVariants as word
use Rattle.smv_text.specs.declared.token.Sign.{Sign}
use Rattle.smv_text.specs.declared.token.Sign.TheVariants as sign
use Rattle.smv_text.specs.declared.token.Token.{Token}
use Rattle.smv_text.specs.declared.token.TokenKind.{TokenKind}
use Rattle.smv_text.specs.declared.token.TokenKind.TheVariants as kind
use Rattle.smv_text.specs.declared.operators.Infix.{Infix}
use Rattle.smv_text.specs.declared.tree.Path.{Path}
use Rattle.smv_text.specs.declared.level.OperatorClass.{OperatorClass}
use Rattle.smv_text.specs.Levels.{infix_of}
use Rattle.smv_grammar.specs.Marks.{is_sign, is_word}
use Rattle.smv_grammar.specs.Ranks.{level_at, tightest}
use Rattle.smv_grammar.specs.Machine.{Frame, opened, longer, path_head}

-- the tokens after a sign, a reserved word or an operator that comes first
abbrev pub after : Sign → List Token → Option (List Token)
after s [] = None
after s (x ∷ xs) = cond (is_sign s x.kind) (Some xs) None

abbrev pub after_word : Reserved → List Token → Option (List Token)
after_word w [] = None
after_word w (x ∷ xs) = cond (is_word w x.kind) (Some xs) None

abbrev pub operator_after : OperatorClass → List Token → Option (Infix × List Token)
operator_after j [] = None
operator_after j (x ∷ xs) = option_map (λ op. (op, xs)) (infix_of j x.kind)

-- a number, a path or an integer that comes first, with the tokens behind it, or how many tokens are left where none comes, the
-- dead one among them
pub data Found (A : Type 0) : Type 0 where
  found : A → List Token → Found A
  lost : ℕ → Found A

abbrev pub number_at : TokenKind → List Token → Found ℕ
number_at (kind.Number n) xs = found n xs
number_at x xs = lost (suc (length xs))

abbrev pub first_number : List Token → Found ℕ
first_number [] = lost 0
first_number (x ∷ xs) = number_at x.kind xs

abbrev pub negated : Found ℕ → Found ℤ
negated (found n xs) = found (pos 0 -ℤ pos n) xs
negated (lost n) = lost n

abbrev pub integer_at : TokenKind → List Token → Found ℤ
integer_at (kind.Number n) xs = found (pos n) xs
integer_at (kind.Sign sign.Minus) xs = negated (first_number xs)
integer_at x xs = lost (suc (length xs))

abbrev pub first_integer : List Token → Found ℤ
first_integer [] = lost 0
first_integer (x ∷ xs) = integer_at x.kind xs

abbrev pub name_at : TokenKind → List Token → Found (List ℕ)
name_at (kind.Ident n) xs = found n xs
name_at x xs = lost (suc (length xs))

abbrev pub first_name : List Token → Found (List ℕ)
first_name [] = lost 0
first_name (x ∷ xs) = name_at x.kind xs

abbrev pub with_name : TokenKind → (List ℕ → Found Path) → ℕ → Found Path
with_name (kind.Ident n) f left = f n
with_name x f left = lost left

-- the rest of a path, and the name behind a dot of it
abbrev mutual
  pub path_on : Path → List Token → Found Path
  path_on path [] = found path []
  path_on path (x ∷ xs) = cond (is_sign sign.Dot x.kind) (path_step path xs) (found path (x ∷ xs))

  pub path_step : Path → List Token → Found Path
  path_step path [] = lost 0
  path_step path (x ∷ xs) = with_name x.kind (λ n. path_on (longer path n) xs) (suc (length xs))

abbrev pub path_at : TokenKind → Place → List Token → Found Path
path_at (kind.Ident n) p xs = path_on (path_head (kind.Ident n) p) xs
path_at (kind.Reserved word.Itself) p xs = path_on (path_head (kind.Reserved word.Itself) p) xs
path_at x p xs = lost (suc (length xs))

abbrev pub first_path : List Token → Found Path
first_path [] = lost 0
first_path (x ∷ xs) = path_at x.kind x.place xs

-- the tokens begin with an integer and `..` behind it
abbrev pub starts_with_dots : List Token → Bool
starts_with_dots [] = false
starts_with_dots (x ∷ xs) = is_sign sign.Range x.kind

abbrev pub dots_behind : {A : Type 0} → Found A → Bool
dots_behind (found n xs) = starts_with_dots xs
dots_behind (lost n) = false

abbrev pub starts_range : List Token → Bool
starts_range xs = dots_behind (first_integer xs)

-- What waits at the levels from the n tightest down to the m tightest, bare, over k.
abbrev pub waiting : ℕ → ℕ → Place → List Frame → List Frame
waiting m zero p k = k
waiting m (suc n) p k = cond (nat_lt n m) k (waiting m n p (opened (level_at n) (tightest n) p k))
