-- Numbers, integers and paths that come first.
use Rattle.std.proofs.Common.{◌≡◌, ℕ, ℤ, pos, suc, Bool, true, false, cond, Some, None, List, [], ◌∷◌, length, refl, sym, ap, ◌∙◌, subst}
use Rattle.smv_text.specs.declared.token.Sign.TheVariants as sign
use Rattle.smv_text.specs.declared.token.Token.{Token}
use Rattle.smv_text.specs.declared.token.TokenKind.{TokenKind}
use Rattle.smv_text.specs.declared.token.TokenKind.TheVariants as kind
use Rattle.smv_text.specs.declared.tree.Path.{Path}
use Rattle.smv_grammar.specs.Marks.{is_sign}
use Rattle.smv_grammar.specs.Machine.{longer}
use Rattle.smv_grammar.specs.Reading.{after, Found, found, lost, number_at, first_number, negated, first_integer, integer_at, starts_with_dots, dots_behind, starts_range, first_name, name_at, with_name, path_on, path_step}
use Rattle.smv_grammar.proofs.Signs.{sign_is, not_minus}

pub starts_range-number : (x : Token) (xs : List Token) (n : ℕ) → x.kind ≡ kind.Number n → starts_range (x ∷ xs) ≡ starts_with_dots xs
starts_range-number x xs n e = ap (λ z. dots_behind (integer_at z xs)) e

pub dots_negated : (f : Found ℕ) → dots_behind (negated f) ≡ dots_behind f
dots_negated (found n xs) = refl
dots_negated (lost n) = refl

pub starts_range-minus : (x : Token) (xs : List Token) → x.kind ≡ kind.Sign sign.Minus → starts_range (x ∷ xs) ≡ dots_behind (first_number xs)
starts_range-minus x xs e = ap (λ z. dots_behind (integer_at z xs)) e ∙ dots_negated (first_number xs)

-- an integer with a minus, and one without
pub integer-minus : (xs rest : List Token) → after sign.Minus xs ≡ Some rest → first_integer xs ≡ negated (first_number rest)
integer-minus [] rest e = cc
integer-minus (x ∷ xs) rest e = go (is_sign sign.Minus x.kind) refl e
  where
    go : (b : Bool) → is_sign sign.Minus x.kind ≡ b → cond b (Some xs) None ≡ Some rest → first_integer (x ∷ xs) ≡ negated (first_number rest)
    go true t e = ap (λ z. integer_at z xs) (sign_is x.kind sign.Minus t) ∙ ap (λ l. negated (first_number l)) (let same : xs ≡ rest = cc in same)
    go false t e = cc

abbrev pub positive : Found ℕ → Found ℤ
positive (found n xs) = found (pos n) xs
positive (lost n) = lost n

pub integer-positive : (xs : List Token) → after sign.Minus xs ≡ None → first_integer xs ≡ positive (first_number xs)
integer-positive [] e = refl
integer-positive (x ∷ xs) e = go x.kind refl
  where
    plus : is_sign sign.Minus x.kind ≡ false
    plus = not_minus (is_sign sign.Minus x.kind) xs e

    go : (z : TokenKind) → x.kind ≡ z → first_integer (x ∷ xs) ≡ positive (first_number (x ∷ xs))
    go z same = subst (λ v. integer_at v xs ≡ positive (number_at v xs)) (sym same) (by z (ap (is_sign sign.Minus) (sym same) ∙ plus))
      where
        by : (v : TokenKind) → is_sign sign.Minus v ≡ false → integer_at v xs ≡ positive (number_at v xs)
        by (kind.Number n) f = refl
        by (kind.Sign sign.Minus) f = cc
        by _ f = refl

-- one more name of a path
pub path_on-step : (path : Path) (xs more rest : List Token) (n : List ℕ) → after sign.Dot xs ≡ Some more → first_name more ≡ found n rest → path_on path xs ≡ path_on (longer path n) rest
path_on-step path [] more rest n e f = cc
path_on-step path (x ∷ xs) more rest n e f = go (is_sign sign.Dot x.kind) e
  where
    named : (ys : List Token) → first_name ys ≡ found n rest → path_step path ys ≡ path_on (longer path n) rest
    named [] f = cc
    named (y ∷ ys) f = by y.kind f
      where
        by : (z : TokenKind) → name_at z ys ≡ found n rest → with_name z (λ m. path_on (longer path m) ys) (suc (length ys)) ≡ path_on (longer path n) rest
        by (kind.Ident m) f = let p : m ≡ n = cc in let q : ys ≡ rest = cc in ap (λ v. path_on (longer path v) ys) p ∙ ap (path_on (longer path n)) q
        by _ f = cc

    go : (b : Bool) → cond b (Some xs) None ≡ Some more → cond b (path_step path xs) (found path (x ∷ xs)) ≡ path_on (longer path n) rest
    go true e = ap (path_step path) (let same : xs ≡ more = cc in same) ∙ named more f
    go false e = cc

pub path_on-ends : (path : Path) (xs : List Token) → after sign.Dot xs ≡ None → path_on path xs ≡ found path xs
path_on-ends path [] e = refl
path_on-ends path (x ∷ xs) e = ap (λ b. cond b (path_step path xs) (found path (x ∷ xs))) (not_minus (is_sign sign.Dot x.kind) xs e)
