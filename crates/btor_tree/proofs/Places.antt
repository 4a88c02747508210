-- Where the lines of a text begin, from the rest of the text on.
use Rattle.std.proofs.Common.{◌≡◌, ◌≤◌, ℕ, ◌+◌, ◌-◌, suc, List, ◌∷◌, length, sym, ap, ◌∙◌, arith}
use Rattle.btor_tree.specs.Parts.{raw_lines, bytes_before, line_place}

-- the rest of a text begins behind n lines of it
abbrev pub IsBehind : ℕ → List ℕ → List ℕ → Type 0
IsBehind n text rest =
    (k : ℕ) → bytes_before (n + k) (raw_lines text) ≡ (length text - length rest) + bytes_before k (raw_lines rest)

pub behind_line : (text rest raw more : List ℕ) (n next : ℕ) → next ≡ n + 1 → raw_lines rest ≡ raw ∷ raw_lines more → length rest ≡ length raw + 1 + length more → length rest ≤ length text → IsBehind n text rest → IsBehind next text more
behind_line text rest raw more n next is lines size within before k =
    let e : next + k ≡ n + suc k = omega (arith, is) in
    ap (λ m. bytes_before m (raw_lines text)) e ∙ before (suc k) ∙ ap (λ x. (length text - length rest) + bytes_before (suc k) x) lines ∙ omega (arith, size, within)

pub place_behind : (text rest : List ℕ) (n number offset : ℕ) → number ≡ n + 1 → IsBehind n text rest → offset ≡ length text - length rest → record { line = number; column = 1; offset = offset } ≡ line_place text number
place_behind text rest n number offset is before e =
    let none : number - 1 ≡ n + 0 = omega (arith, is) in
    let at : bytes_before (number - 1) (raw_lines text) ≡ offset = ap (λ m. bytes_before m (raw_lines text)) none ∙ before 0 ∙ omega (arith, e) in
    ap (λ o. record { line = number; column = 1; offset = o }) (sym at)
