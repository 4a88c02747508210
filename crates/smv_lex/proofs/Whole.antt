-- A word before some rest is one by itself too.
use Rattle.std.proofs.Common.{◌≡◌, ℕ, suc, Bool, true, false, not, cond, ◌&&◌, ◌||◌, eqb, List, [], ◌∷◌, length, refl, ap, ◌∙◌}
use Rattle.text_core.specs.Bytes.{is_digit, heads}
use Rattle.smv_text.specs.Bytes.{AllPass, front_length, is_letter}
use Rattle.smv_text.specs.Words.{in_word}

-- a word before some rest is one before none
in_word_alone : (b : ℕ) (rest : List ℕ) → in_word b rest ≡ true → in_word b [] ≡ true
in_word_alone b rest e = either (is_letter b || (is_digit b || (eqb b 36 || eqb b 35))) (eqb b 45) (heads 62 rest) e
  where
    either : (w d h : Bool) → (w || (d && not h)) ≡ true → (w || (d && true)) ≡ true
    either true d h e = refl
    either false true h e = refl
    either false false h e = cc

pub passes_alone : (bs rest : List ℕ) → AllPass in_word bs rest → front_length in_word bs ≡ length bs
passes_alone [] rest a = refl
passes_alone (b ∷ []) rest a = ap (λ c. cond c 1 0) (in_word_alone b rest a.0)
passes_alone (b ∷ c ∷ cs) rest a =
    ap (λ t. cond t (suc (front_length in_word (c ∷ cs))) 0) a.0 ∙ ap suc (passes_alone (c ∷ cs) rest a.1)
