-- The table of the bytes of words, each byte tested.
use Rattle.std.proofs.Common.{◌≡◌, ◌<◌, ◌+◌, ℕ, zero, suc, Bool, true, not, ◌&&◌, eqb, List, [], ◌∷◌, length, get_or, refl, ap, ◌∙◌, arith}
use Rattle.std.proofs.lemmas.Bool.{and_parts}
use Rattle.smv_lex.specs.declared.scan.TheConstants.{WORD_BYTES}
use Rattle.smv_lex.specs.Reading.{is_word_byte}
use Rattle.text_core.proofs.Truths.{same, same_is}

-- from the byte n on, the table has `-` at the bytes that aren't of a word
abbrev agrees : List ℕ → ℕ → Bool
agrees [] n = true
agrees (c ∷ cs) n = same (not (eqb c 45)) (is_word_byte n) && agrees cs (suc n)

agrees_at : (cs : List ℕ) (n i : ℕ) → agrees cs n ≡ true → i < length cs → not (eqb (get_or cs i 0) 45) ≡ is_word_byte (n + i)
agrees_at [] n i e h = absurd (omega arith)
agrees_at (c ∷ cs) n zero e h = same_is _ _ (and_parts (same (not (eqb c 45)) (is_word_byte n)) (agrees cs (suc n)) e).0 ∙ ap is_word_byte (let m : n ≡ n + 0 = omega arith in m)
agrees_at (c ∷ cs) n (suc i) e h =
    agrees_at cs (suc n) i (and_parts (same (not (eqb c 45)) (is_word_byte n)) (agrees cs (suc n)) e).1 (omega arith) ∙ ap is_word_byte (let m : suc n + i ≡ n + suc i = omega arith in m)

pub word_table : (b : ℕ) → b < 256 → not (eqb (get_or WORD_BYTES b 0) 45) ≡ is_word_byte b
word_table b h = agrees_at WORD_BYTES 0 b refl h ∙ ap is_word_byte (let m : 0 + b ≡ b = omega arith in m)
