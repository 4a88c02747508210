use Rattle.std.proofs.Common.{◌≡◌, ◌<◌, ◌≤◌, ◌-◌, ◌+◌, ◌^◌, ℕ, List, true, drop, get_or, length, subst, arith}
use Rattle.std.proofs.Math.Pow.{pow_mono}
use Rattle.std.proofs.lemmas.Bool.{and_parts}
use Rattle.std.proofs.lemmas.Bool.Decides.{nat_tests}
use Rattle.std.proofs.lemmas.List.{drop_more}
use Rattle.word_core.specs.declared.word.TheConstants.{WIDEST}
use Rattle.btor_witness.specs.Bytes.{all_binary, is_binary}
use Rattle.btor_witness.proofs.bytes.bits.Goals as goal

-- fewer digits than a word has leave room for one more
room : (i n : ℕ) → n < 2 ^ i → i < WIDEST → n < 2 ^ (WIDEST - 1)
room i n h lt =
    let within : i ≤ WIDEST - 1 = omega (arith, lt) in
    let up : 2 ^ i ≤ 2 ^ (WIDEST - 1) = pow_mono within in
    omega (arith, up, h)

digit_small : (b : ℕ) → is_binary b ≡ true → b - 48 ≤ 1
digit_small b e = grind (arith, nat_tests, e)

next_small : (bs : List ℕ) (i : ℕ) → i < length bs → all_binary (drop i bs) ≡ true → get_or bs i 0 - 48 ≤ 1
next_small bs i within e =
    let b = get_or bs i 0 in
    let rest = drop (i + 1) bs in
    digit_small b (and_parts (is_binary b) (all_binary rest) (subst (λ xs. all_binary xs ≡ true) (drop_more bs i 0 within) e)).0

pub overflow_mul-bits : goal.overflow_mul-bits
overflow_mul-bits c =
    omega (arith, room c.loop-b.b-index c.loop-b.bits c.loop-b.invariant.fits (omega (arith, c.requires.few)))

pub overflow_add-bits : goal.overflow_add-bits
overflow_add-bits c =
    omega (arith, room c.loop-b.b-index c.loop-b.bits c.loop-b.invariant.fits (omega (arith, c.requires.few)), c.from.ensures, next_small c.args.digits.now c.loop-b.b-index (omega arith) c.loop-b.invariant.binary)
