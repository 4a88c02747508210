-- Tokens behind blanks, one list behind the other.
use Rattle.std.proofs.Common.{◌≡◌, ◌+◌, ◌==◌, ℕ, zero, suc, Bool, true, false, List, [], ◌∷◌, ◌++◌, length, map, refl, sym, ap, ◌∙◌, append_assoc, add-one}
use Rattle.std.proofs.lemmas.Grind.{flat_map-append}
use Rattle.smv_text.specs.declared.token.TokenKind.{TokenKind}
use Rattle.smv_lex.specs.Spelling.{spelled, spaced, written}
use Rattle.smv_text.specs.declared.tree.Expr.{Expr}
use Rattle.smv_text.specs.Tree.{trees_of}
use Rattle.smv_text.specs.View.{plain}
use Rattle.smv_print.specs.Printing.{repeated, actual_kinds, argument_kinds, in_brackets}

-- once more, at the end
pub repeated_more : (n : ℕ) (k : TokenKind) → repeated n k ++ k ∷ [] ≡ repeated (suc n) k
repeated_more zero k = refl
repeated_more (suc n) k = ap (λ ks. k ∷ ks) (repeated_more n k)

pub spaced_more : (n : ℕ) (k : TokenKind) → spaced (repeated (n + 1) k) ≡ spaced (repeated n k) ++ spaced (k ∷ [])
spaced_more n k = rw add-one (ap spaced (sym (repeated_more n k)) ∙ flat_map-append (λ k. 32 ∷ spelled k) (repeated n k) (k ∷ []))

pub written_more : (behind : Bool) (k : TokenKind) (ks more : List TokenKind) → written behind ((k ∷ ks) ++ more) ≡ written behind (k ∷ ks) ++ written true more
written_more true k ks more = flat_map-append (λ k. 32 ∷ spelled k) (k ∷ ks) more
written_more false k ks more = ap (λ x. spelled k ++ x) (flat_map-append (λ k. 32 ∷ spelled k) ks more) ∙ sym (append_assoc (spelled k) (spaced ks) (spaced more))

pub written_apart : (behind : Bool) (k : TokenKind) (ks : List TokenKind) → written behind (k ∷ ks) ≡ written behind (k ∷ []) ++ spaced ks
written_apart behind k ks = written_more behind k [] ks

pub some_actuals : (ts : List Expr) → (length ts == 0) ≡ false → actual_kinds (trees_of (map plain ts)) ≡ in_brackets (argument_kinds false (trees_of (map plain ts)))
some_actuals [] e = cc
some_actuals (t ∷ ts) e = refl
