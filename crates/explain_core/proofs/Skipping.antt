-- The bytes of a token are passed over at once.
use Rattle.std.proofs.Common.{◌≡◌, ◌≤◌, ◌-◌, ◌+◌, ◌<◌, ℕ, zero, suc, List, [], ◌∷◌, length, take, drop, get_or, Option, refl, sym, ap, ◌∙◌, subst, cond, arith}
use Rattle.std.proofs.lemmas.List.{drop-drop}
use Rattle.std.specs.Prelude.{nat_eq, nat_le, codes, Some, None, Bool, true, false, not, ◌&&◌, ◌==◌}
use Rattle.std.proofs.Math.Seq.{drop-cons}
use Rattle.std.proofs.lemmas.Bool.Decides.{nat_tests}
use Rattle.explain_core.specs.Kinds.{is_among}
use Rattle.std.specs.List.{starts_with}
use Rattle.explain_core.specs.Near.{closes, last_token, opens, operator_in}
use Rattle.explain_core.specs.Tokens.{smv_token_length}

pub operator_skip : (wanted : List (List ℕ)) (k at depth : ℕ) (xs : List ℕ) → k ≤ length xs
    → operator_in wanted k at depth xs ≡ operator_in wanted 0 (at + k) depth (drop k xs)
operator_skip wanted zero at depth xs within = ap (λ n. operator_in wanted 0 n depth xs) (omega arith)
operator_skip wanted (suc k) at depth [] within = absurd (omega arith)
operator_skip wanted (suc k) at depth (b ∷ bs) within =
    let less : k ≤ length bs = omega arith in
    let same : at + 1 + k ≡ at + suc k = omega arith in
    operator_skip wanted k (at + 1) depth bs less ∙ ap (λ n. operator_in wanted 0 n depth (drop k bs)) same

pub token_skip : (k at : ℕ) (last : Option (ℕ × ℕ)) (xs : List ℕ) → k ≤ length xs
    → last_token k at last xs ≡ last_token 0 (at + k) last (drop k xs)
token_skip zero at last xs within = ap (λ n. last_token 0 n last xs) (omega arith)
token_skip (suc k) at last [] within = absurd (omega arith)
token_skip (suc k) at last (b ∷ bs) within =
    let less : k ≤ length bs = omega arith in
    let same : at + 1 + k ≡ at + suc k = omega arith in
    token_skip k (at + 1) last bs less ∙ ap (λ n. last_token 0 n last (drop k bs)) same

token_moves : (n at : ℕ) (last : Option (ℕ × ℕ)) (b : ℕ) (bs : List ℕ) → 0 < n → n ≤ suc (length bs) → last_token (n - 1) (at + 1) last bs ≡ last_token 0 (at + n) last (drop n (b ∷ bs))
token_moves zero at last b bs some within = absurd (omega arith)
token_moves (suc k) at last b bs some within =
    let e : suc k - 1 ≡ k = omega arith in
    let less : k ≤ length bs = omega arith in
    let same : at + 1 + k ≡ at + suc k = omega arith in
    ap (λ m. last_token m (at + 1) last bs) e ∙ token_skip k (at + 1) last bs less ∙ ap (λ m. last_token 0 m last (drop k bs)) same

token_front : (at : ℕ) (last : Option (ℕ × ℕ)) (b : ℕ) (bs : List ℕ) → starts_with nat_eq (b ∷ bs) (codes "--") ≡ false → nat_le 33 b ≡ true
    → last_token 0 at last (b ∷ bs) ≡ last_token 0 (at + smv_token_length (b ∷ bs)) (Some (at, at + smv_token_length (b ∷ bs))) (drop (smv_token_length (b ∷ bs)) (b ∷ bs))
token_front at last b bs bare dark =
    let some : 0 < smv_token_length (b ∷ bs) = omega arith in
    let within : smv_token_length (b ∷ bs) ≤ suc (length bs) = omega arith in
    ap (λ v. cond v last (last_token (smv_token_length (b ∷ bs) - 1) (at + 1) (cond (nat_le 33 b) (Some (at, at + smv_token_length (b ∷ bs))) last) bs)) bare
    ∙ ap (λ v. last_token (smv_token_length (b ∷ bs) - 1) (at + 1) (cond v (Some (at, at + smv_token_length (b ∷ bs))) last) bs) dark
    ∙ token_moves (smv_token_length (b ∷ bs)) at (Some (at, at + smv_token_length (b ∷ bs))) b bs some within

-- what is behind a token
pub token_step : (front : List ℕ) (at : ℕ) (last : Option (ℕ × ℕ)) (b : ℕ) (bs : List ℕ) → drop at front ≡ b ∷ bs → starts_with nat_eq (drop at front) (codes "--") ≡ false → nat_le 33 b ≡ true
    → last_token 0 (at + smv_token_length (drop at front)) (Some (at, at + smv_token_length (drop at front))) (drop (at + smv_token_length (drop at front)) front)
    ≡ last_token 0 at last (drop at front)
token_step front at last b bs is bare dark =
    ap (λ xs. last_token 0 (at + smv_token_length (drop at front)) (Some (at, at + smv_token_length (drop at front))) xs) (sym (drop-drop (smv_token_length (drop at front)) at front))
    ∙ sym (subst (λ (xs : List ℕ). last_token 0 at last xs ≡ last_token 0 (at + smv_token_length xs) (Some (at, at + smv_token_length xs)) (drop (smv_token_length xs) xs)) (sym is)
    (token_front at last b bs (subst (λ (xs : List ℕ). starts_with nat_eq xs (codes "--") ≡ false) is bare) dark))

-- the token at a place of a loop over the front of a line
pub token_here : (front slice : List ℕ) (at n : ℕ) (last : Option (ℕ × ℕ)) (found : Bool) → at < length front → slice ≡ drop at front → n ≡ smv_token_length slice
    → found ≡ starts_with nat_eq slice (codes "--") → found ≡ false → 32 < get_or slice 0 0
    → last_token 0 (at + n) (Some (at, at + n)) (drop (at + n) front) ≡ last_token 0 at last (drop at front)
token_here front slice at n last found within same size test off dark =
    let first : drop at front ≡ get_or front at 0 ∷ drop (suc at) front = drop-cons front at 0 within in
    let bare : starts_with nat_eq (drop at front) (codes "--") ≡ false = ap (λ xs. starts_with nat_eq xs (codes "--")) (sym same) ∙ sym test ∙ off in
    let byte : get_or slice 0 0 ≡ get_or front at 0 = ap (λ xs. get_or xs 0 0) (same ∙ first) in
    let above : 32 < get_or front at 0 = omega arith in
    let shown : nat_le 33 (get_or front at 0) ≡ true = grind (arith, nat_tests) in
    let count : n ≡ smv_token_length (drop at front) = size ∙ ap smv_token_length same in
    ap (λ k. last_token 0 (at + k) (Some (at, at + k)) (drop (at + k) front)) count
    ∙ token_step front at last (get_or front at 0) (drop (suc at) front) first bare shown

operator_moves : (wanted : List (List ℕ)) (n at depth : ℕ) (b : ℕ) (bs : List ℕ) → 0 < n → n ≤ suc (length bs)
    → operator_in wanted (n - 1) (at + 1) depth bs ≡ operator_in wanted 0 (at + n) depth (drop n (b ∷ bs))
operator_moves wanted zero at depth b bs some within = absurd (omega arith)
operator_moves wanted (suc k) at depth b bs some within =
    let e : suc k - 1 ≡ k = omega arith in
    let less : k ≤ length bs = omega arith in
    let same : at + 1 + k ≡ at + suc k = omega arith in
    ap (λ m. operator_in wanted m (at + 1) depth bs) e ∙ operator_skip wanted k (at + 1) depth bs less ∙ ap (λ m. operator_in wanted 0 m depth (drop k bs)) same

-- no wanted operator is here
abbrev pub misses : List (List ℕ) → ℕ → ℕ → List ℕ → Bool
misses wanted at depth xs = (depth == 0) && (not (at == 0) && is_among wanted (take (smv_token_length xs) xs))

operator_next : (wanted : List (List ℕ)) (at depth next : ℕ) (b : ℕ) (bs : List ℕ) → misses wanted at depth (b ∷ bs) ≡ false → closes b ≡ false
    → cond (opens b) (depth + 1) depth ≡ next
    → operator_in wanted 0 at depth (b ∷ bs) ≡ operator_in wanted 0 (at + smv_token_length (b ∷ bs)) next (drop (smv_token_length (b ∷ bs)) (b ∷ bs))
operator_next wanted at depth next b bs miss bare step =
    let some : 0 < smv_token_length (b ∷ bs) = omega arith in
    let within : smv_token_length (b ∷ bs) ≤ suc (length bs) = omega arith in
    ap (λ v. cond v (Some (at, at + smv_token_length (b ∷ bs))) (cond (closes b) (cond (depth == 0) None (operator_in wanted (smv_token_length (b ∷ bs) - 1) (at + 1) (depth - 1) bs)) (operator_in wanted (smv_token_length (b ∷ bs) - 1) (at + 1) (cond (opens b) (depth + 1) depth) bs))) miss
    ∙ ap (λ v. cond v (cond (depth == 0) None (operator_in wanted (smv_token_length (b ∷ bs) - 1) (at + 1) (depth - 1) bs)) (operator_in wanted (smv_token_length (b ∷ bs) - 1) (at + 1) (cond (opens b) (depth + 1) depth) bs)) bare
    ∙ ap (λ m. operator_in wanted (smv_token_length (b ∷ bs) - 1) (at + 1) m bs) step
    ∙ operator_moves wanted (smv_token_length (b ∷ bs)) at next b bs some within

-- the loop goes on behind this token
pub operator_goes : (wanted : List (List ℕ)) (rest slice : List ℕ) (at n depth next : ℕ) → at < length rest → slice ≡ drop at rest → n ≡ smv_token_length slice
    → misses wanted at depth slice ≡ false → closes (get_or rest at 0) ≡ false → cond (opens (get_or rest at 0)) (depth + 1) depth ≡ next
    → operator_in wanted 0 (at + n) next (drop (at + n) rest) ≡ operator_in wanted 0 at depth (drop at rest)
operator_goes wanted rest slice at n depth next within same size miss bare step =
    let first : slice ≡ get_or rest at 0 ∷ drop (suc at) rest = same ∙ drop-cons rest at 0 within in
    let here : operator_in wanted 0 at depth slice ≡ operator_in wanted 0 (at + smv_token_length slice) next (drop (smv_token_length slice) slice) =
    subst (λ (xs : List ℕ). operator_in wanted 0 at depth xs ≡ operator_in wanted 0 (at + smv_token_length xs) next (drop (smv_token_length xs) xs)) (sym first)
    (operator_next wanted at depth next (get_or rest at 0) (drop (suc at) rest) (subst (λ (xs : List ℕ). misses wanted at depth xs ≡ false) first miss) bare step) in
    ap (λ k. operator_in wanted 0 (at + k) next (drop (at + k) rest)) size
    ∙ ap (λ xs. operator_in wanted 0 (at + smv_token_length slice) next xs) (sym (drop-drop (smv_token_length slice) at rest) ∙ ap (drop (smv_token_length slice)) (sym same))
    ∙ sym here
    ∙ ap (λ xs. operator_in wanted 0 at depth xs) same

-- an operator is here
pub operator_hits : (wanted : List (List ℕ)) (rest slice token : List ℕ) (at n depth : ℕ) → at < length rest → slice ≡ drop at rest → n ≡ smv_token_length slice
    → token ≡ take n slice → depth ≡ 0 → 0 < at → is_among wanted token ≡ true → Some (at, at + n) ≡ operator_in wanted 0 at depth (drop at rest)
operator_hits wanted rest slice token at n depth within same size is level some among =
    let first : slice ≡ get_or rest at 0 ∷ drop (suc at) rest = same ∙ drop-cons rest at 0 within in
    let count : n ≡ smv_token_length (get_or rest at 0 ∷ drop (suc at) rest) = size ∙ ap smv_token_length first in
    let front : token ≡ take (smv_token_length (get_or rest at 0 ∷ drop (suc at) rest)) (get_or rest at 0 ∷ drop (suc at) rest) =
    is ∙ (λ i. take (count i) (first i)) in
    let none : (depth == 0) ≡ true = grind (arith, nat_tests) in
    let behind : not (at == 0) ≡ true = grind (arith, nat_tests) in
    let hit : misses wanted at depth (get_or rest at 0 ∷ drop (suc at) rest) ≡ true =
    (λ i. none i && (behind i && is_among wanted (sym front i))) ∙ among in
    ap (λ k. Some (at, at + k)) count
    ∙ sym (ap (λ v. cond v (Some (at, at + smv_token_length (get_or rest at 0 ∷ drop (suc at) rest))) (cond (closes (get_or rest at 0)) (cond (depth == 0) None (operator_in wanted (smv_token_length (get_or rest at 0 ∷ drop (suc at) rest) - 1) (at + 1) (depth - 1) (drop (suc at) rest))) (operator_in wanted (smv_token_length (get_or rest at 0 ∷ drop (suc at) rest) - 1) (at + 1) (cond (opens (get_or rest at 0)) (depth + 1) depth) (drop (suc at) rest)))) hit)
    ∙ ap (λ xs. operator_in wanted 0 at depth xs) (sym (drop-cons rest at 0 within))

-- a bracket closes what stands around
pub operator_ends : (wanted : List (List ℕ)) (rest slice : List ℕ) (at depth : ℕ) → at < length rest → slice ≡ drop at rest
    → misses wanted at depth slice ≡ false → closes (get_or rest at 0) ≡ true → depth ≡ 0 → None ≡ operator_in wanted 0 at depth (drop at rest)
operator_ends wanted rest slice at depth within same miss closing level =
    let first : slice ≡ get_or rest at 0 ∷ drop (suc at) rest = same ∙ drop-cons rest at 0 within in
    let none : (depth == 0) ≡ true = grind (arith, nat_tests) in
    let off : misses wanted at depth (get_or rest at 0 ∷ drop (suc at) rest) ≡ false = subst (λ (xs : List ℕ). misses wanted at depth xs ≡ false) first miss in
    sym (
    ap (λ v. cond v (Some (at, at + smv_token_length (get_or rest at 0 ∷ drop (suc at) rest))) (cond (closes (get_or rest at 0)) (cond (depth == 0) None (operator_in wanted (smv_token_length (get_or rest at 0 ∷ drop (suc at) rest) - 1) (at + 1) (depth - 1) (drop (suc at) rest))) (operator_in wanted (smv_token_length (get_or rest at 0 ∷ drop (suc at) rest) - 1) (at + 1) (cond (opens (get_or rest at 0)) (depth + 1) depth) (drop (suc at) rest)))) off
    ∙ ap (λ v. cond v (cond (depth == 0) None (operator_in wanted (smv_token_length (get_or rest at 0 ∷ drop (suc at) rest) - 1) (at + 1) (depth - 1) (drop (suc at) rest))) (operator_in wanted (smv_token_length (get_or rest at 0 ∷ drop (suc at) rest) - 1) (at + 1) (cond (opens (get_or rest at 0)) (depth + 1) depth) (drop (suc at) rest))) closing
    ∙ ap (λ v. cond v None (operator_in wanted (smv_token_length (get_or rest at 0 ∷ drop (suc at) rest) - 1) (at + 1) (depth - 1) (drop (suc at) rest))) none
    )
    ∙ ap (λ xs. operator_in wanted 0 at depth xs) (sym (drop-cons rest at 0 within))

-- why no operator is here: a bracket is open, it is the first byte, or the token is none of them
pub misses_open : (wanted : List (List ℕ)) (at depth : ℕ) (xs : List ℕ) → 0 < depth → misses wanted at depth xs ≡ false
misses_open wanted at depth xs some = let off : (depth == 0) ≡ false = grind (arith, nat_tests) in ap (λ v. v && (not (at == 0) && is_among wanted (take (smv_token_length xs) xs))) off

both_off : (a b : Bool) → b ≡ false → (a && b) ≡ false
both_off true b off = off
both_off false b off = refl

pub misses_first : (wanted : List (List ℕ)) (at depth : ℕ) (xs : List ℕ) → at ≡ 0 → misses wanted at depth xs ≡ false
misses_first wanted at depth xs first =
    let off : not (at == 0) ≡ false = grind (arith, nat_tests) in
    both_off (depth == 0) (not (at == 0) && is_among wanted (take (smv_token_length xs) xs)) (ap (λ v. v && is_among wanted (take (smv_token_length xs) xs)) off)

pub misses_token : (wanted : List (List ℕ)) (at depth n : ℕ) (xs token : List ℕ) → n ≡ smv_token_length xs → token ≡ take n xs → is_among wanted token ≡ false → misses wanted at depth xs ≡ false
misses_token wanted at depth n xs token size is none =
    both_off (depth == 0) (not (at == 0) && is_among wanted (take (smv_token_length xs) xs))
    (both_off (not (at == 0)) (is_among wanted (take (smv_token_length xs) xs)) (ap (is_among wanted) (ap (λ k. take k xs) (sym size) ∙ sym is) ∙ none))
