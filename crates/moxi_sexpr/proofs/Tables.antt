-- The table of the bytes of simple symbols, each byte tested.
use Rattle.std.proofs.Common.{◌≡◌, ◌<◌, ◌+◌, ℕ, zero, suc, Bool, true, not, ◌&&◌, eqb, List, [], ◌∷◌, length, get_or, refl, ap, ◌∙◌, arith}
use Rattle.std.proofs.lemmas.Bool.{and_parts}
use Rattle.moxi_sexpr.specs.declared.bytes.TheConstants.{SYMBOL_BYTES}
use Rattle.moxi_sexpr.specs.Bytes.{is_symbol_byte}
use Rattle.text_core.proofs.Truths.{same, same_is}

-- from the byte n on, the table has `#` at the bytes that aren't of a symbol
abbrev agrees : List ℕ → ℕ → Bool
agrees [] n = true
agrees (c ∷ cs) n = same (not (eqb c 35)) (is_symbol_byte n) && agrees cs (suc n)

agrees_at : (cs : List ℕ) (n i : ℕ) → agrees cs n ≡ true → i < length cs → not (eqb (get_or cs i 0) 35) ≡ is_symbol_byte (n + i)
agrees_at [] n i e h = absurd (omega arith)
agrees_at (c ∷ cs) n zero e h = same_is _ _ (and_parts (same (not (eqb c 35)) (is_symbol_byte n)) (agrees cs (suc n)) e).0 ∙ ap is_symbol_byte (let m : n ≡ n + 0 = omega arith in m)
agrees_at (c ∷ cs) n (suc i) e h =
    agrees_at cs (suc n) i (and_parts (same (not (eqb c 35)) (is_symbol_byte n)) (agrees cs (suc n)) e).1 (omega arith) ∙ ap is_symbol_byte (let m : suc n + i ≡ n + suc i = omega arith in m)

pub symbol_table : (b : ℕ) → b < 256 → not (eqb (get_or SYMBOL_BYTES b 0) 35) ≡ is_symbol_byte b
symbol_table b h = agrees_at SYMBOL_BYTES 0 b refl h ∙ ap is_symbol_byte (let m : 0 + b ≡ b = omega arith in m)
