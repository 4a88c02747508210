-- What is read as a literal is a word, and what is printed of a word is read as it.
use Rattle.std.proofs.Common.{◌≡◌, ◌^◌, ◌==◌, ℕ, Bool, true, false, cond, ◌&&◌, Option, Some, None, List, [], ◌∷◌, arith}
use Rattle.std.specs.Prelude.{nat_lt, nat_le, option_map}
use Rattle.std.proofs.lemmas.Bool.{and_parts, and_from}
use Rattle.std.proofs.lemmas.Bool.Decides.{nat_tests}
use Rattle.word_core.specs.Words.{BitVector, IsWord}
use Rattle.word_core.specs.declared.word.TheConstants.{WIDEST}
use Rattle.smv_text.specs.Numbers.{literal_of, based_word, past_sign}
use Rattle.smv_text.specs.declared.token.TokenKind.TheVariants as kind
use Rattle.smv_lex.specs.Spelling.{literal_bytes, spelled}
use Rattle.smv_lex.proofs.Printed.{printed_as}
use Rattle.smv_numbered.specs.Stated.{is_word_of}
use Rattle.smv_lex.proofs.LexedAgain.{based_is_word}

-- ---- what is read

pub literal_is_word : (bs : List ℕ) (w : BitVector) → literal_of bs ≡ Some w → IsWord w
literal_is_word [] w e = cc
literal_is_word (b ∷ bs) w e = at_test (b == 48) e
  where
    at_test : (c : Bool) → cond c (based_word (past_sign bs)) None ≡ Some w → IsWord w
    at_test true e = based_is_word (past_sign bs) w e
    at_test false e = cc

-- ---- tests

pub word_of : (n : ℕ) (w : BitVector) → (w.width == n) ≡ true → IsWord w → is_word_of n w ≡ true
word_of n w e is =
    let low : nat_le 1 w.width ≡ true = grind (arith, nat_tests, is.0) in
    let high : nat_le w.width WIDEST ≡ true = grind (arith, nat_tests, is.1) in
    let small : nat_lt w.bits (2 ^ w.width) ≡ true = grind (arith, nat_tests, is.2) in
    and_from (w.width == n) _ e (and_from (nat_le 1 w.width && nat_le w.width WIDEST) _ (and_from (nat_le 1 w.width) _ low high) small)

pub of_word : (n : ℕ) (w : BitVector) → is_word_of n w ≡ true → ((w.width == n) ≡ true) × IsWord w
of_word n w h =
    let t = and_parts (w.width == n) ((nat_le 1 w.width && nat_le w.width WIDEST) && nat_lt w.bits (2 ^ w.width)) h in
    let u = and_parts (nat_le 1 w.width && nat_le w.width WIDEST) (nat_lt w.bits (2 ^ w.width)) t.1 in
    let v = and_parts (nat_le 1 w.width) (nat_le w.width WIDEST) u.0 in
    (t.0, (grind (arith, nat_tests, v.0), grind (arith, nat_tests, v.1), grind (arith, nat_tests, u.1)))

-- ---- what is printed

as_literal : (o : Option BitVector) (w : BitVector) → option_map kind.Literal o ≡ Some (kind.Literal w) → o ≡ Some w
as_literal None w e = cc
as_literal (Some v) w e = cc

pub literal_again : (w : BitVector) → IsWord w → literal_of (literal_bytes w) ≡ Some w
unfolding spelled
literal_again w is = as_literal (literal_of (literal_bytes w)) w (printed_as (kind.Literal w) is).kind_is
