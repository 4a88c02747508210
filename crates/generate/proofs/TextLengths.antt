-- The made texts are no longer than what is read.
use Rattle.std.proofs.Common.{◌≡◌, ℕ, zero, suc, ◌+◌, ◌*◌, ◌-◌, ◌≤◌, List, [], ◌∷◌, ◌++◌, length, map, ap, ◌∙◌, arith, rules}
use Rattle.std.specs.Prelude.{codes, decimal}
use Rattle.std.specs.List.{flat_map}
use Rattle.std.proofs.lemmas.Fmt.{length-decimal-le}
use Rattle.std.proofs.lemmas.Grind.{flat_map-append}
use Rattle.std.proofs.lemmas.List.{length-append, map-append}
use Rattle.std.proofs.lemmas.Nat.{mul-le}
use Rattle.generate.specs.Made.{below, cell_line, cell_module, ended, frame_lines, invariant_line, lines_text, made_model, made_witness, main_module, true_line}

digits : (n : ℕ) → n ≤ 1000 → length (decimal n) ≤ 4
digits n h = length-decimal-le 4 n (omega arith) (omega arith) (omega arith)

-- ---- lines

abbrev size : List (List ℕ) → ℕ
size lines = length (lines_text lines)

size_append : (xs ys : List (List ℕ)) → size (xs ++ ys) ≡ size xs + size ys
size_append xs ys = ap length (flat_map-append ended xs ys) ∙ length-append (lines_text xs) (lines_text ys)

size_line : (line : List ℕ) (lines : List (List ℕ)) → size (line ∷ lines) ≡ length line + 1 + size lines
size_line line lines = length-append (ended line) (lines_text lines) ∙ ap (λ n. n + size lines) (length-append line (10 ∷ []))

-- lines for the numbers below k, each with at most m bytes and its end
module _ (line : ℕ → List ℕ) (m : ℕ) (short : (i : ℕ) → i ≤ 1000 → length (line i) ≤ m) where
  each_size : (k : ℕ) → k ≤ 1001 → size (map line (below k)) ≤ (m + 1) * k
  each_size zero h = search rules
  each_size (suc k) h =
      let ih = each_size k (omega arith) in
      let whole : size (map line (below k ++ k ∷ [])) ≡ size (map line (below k)) + size (line k ∷ []) = ap size (map-append line (below k) (k ∷ [])) ∙ size_append (map line (below k)) (line k ∷ []) in
      let last = size_line (line k) [] in
      let less = short k (omega arith) in
      omega (arith, ih, whole, last, less)

-- ---- the model

pub model_size : (n : ℕ) → 1 ≤ n → n ≤ 1000 → length (made_model n) ≤ 1048576
unfolding made_model
model_size n some most =
    let cells : (i : ℕ) → i ≤ 1000 → length (cell_line i) ≤ 100 =
    λ i h. let own = length-decimal-le 5 (i + 1) (omega arith) (omega arith) (omega arith) in let left = digits i h in
    let parts : length (cell_line i) ≡ 1 + (length (decimal (i + 1)) + (9 + (length (decimal i) + 4))) = grind (arith, length-append) in
    omega (arith, own, left, parts) in
    let last : length (invariant_line (n - 1)) ≡ 12 + (length (decimal (n - 1)) + 2) = grind (arith, length-append) in
    let between = each_size cell_line 100 cells (n - 1) (omega arith) in
    let short = digits (n - 1) (omega arith) in
    let first = size_line cell_module (main_module ∷ (map cell_line (below (n - 1)) ++ invariant_line (n - 1) ∷ [])) in
    let second = size_line main_module (map cell_line (below (n - 1)) ++ invariant_line (n - 1) ∷ []) in
    let third = size_append (map cell_line (below (n - 1))) (invariant_line (n - 1) ∷ []) in
    let fourth = size_line (invariant_line (n - 1)) [] in
    omega (arith, last, between, short, first, second, third, fourth)

-- ---- the witness

true_size : (j : ℕ) → j ≤ 1000 → length (true_line j) ≤ 6
true_size j h =
    let short = digits j h in
    let parts : length (true_line j) ≡ length (decimal j) + 2 = length-append (decimal j) (codes " 1") in
    omega (arith, short, parts)

frame_size : (n i : ℕ) → n ≤ 1000 → i ≤ n → size (frame_lines n i) ≤ 7 * (n + 2)
frame_size n i most h =
    let heading = codes "@" ++ decimal i in
    let first = size_line heading (map true_line (below i) ++ true_line n ∷ []) in
    let long : length heading ≡ 1 + length (decimal i) = length-append (codes "@") (decimal i) in
    let second = size_append (map true_line (below i)) (true_line n ∷ []) in
    let third = size_line (true_line n) [] in
    let each = each_size true_line 6 true_size i (omega arith) in
    let own = true_size n most in
    let short = digits i (omega arith) in
    omega (arith, first, long, second, third, each, own, short)

frames_size : (n k : ℕ) → n ≤ 1000 → k ≤ n + 1 → size (flat_map (frame_lines n) (below k)) ≤ 7 * (k * (n + 2))
frames_size n zero most h = search rules
frames_size n (suc k) most h =
    let ih = frames_size n k most (omega arith) in
    let whole : size (flat_map (frame_lines n) (below k ++ k ∷ [])) ≡ size (flat_map (frame_lines n) (below k)) + size (frame_lines n k ++ []) =
    ap size (flat_map-append (frame_lines n) (below k) (k ∷ [])) ∙ size_append (flat_map (frame_lines n) (below k)) (frame_lines n k ++ []) in
    let last = size_append (frame_lines n k) [] in
    let less = frame_size n k most (omega arith) in
    omega (arith, ih, whole, last, less)

pub witness_size : (n : ℕ) → n ≤ 1000 → length (made_witness n) ≤ 67108864
unfolding made_witness
witness_size n most =
    let frames = frames_size n (n + 1) most (omega arith) in
    let product : (n + 1) * (n + 2) ≤ 1001 * 1002 = mul-le (n + 1) (n + 2) 1001 1002 (omega arith) (omega arith) in
    let first = size_line (codes "sat") (codes "b0" ∷ (flat_map (frame_lines n) (below (n + 1)) ++ codes "." ∷ [])) in
    let second = size_line (codes "b0") (flat_map (frame_lines n) (below (n + 1)) ++ codes "." ∷ []) in
    let third = size_append (flat_map (frame_lines n) (below (n + 1))) (codes "." ∷ []) in
    omega (arith, frames, product, first, second, third)
