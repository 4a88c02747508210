-- Chains of the places at which a number stands.
use Rattle.std.specs.Prelude.{◌≡◌, ◌<◌, ◌≤◌, ℕ, suc, ◌+◌, ◌==◌, if◌then◌else◌, List, [], ◌∷◌, drop, length, slice_index_or}
use Rattle.smv_script_terms.specs.declared.chains.Chains.{Chains}

-- how many others are before the first of this number
abbrev pub others_before : ℕ → List ℕ → ℕ
others_before i [] = 0
others_before i (n ∷ ns) = if n == i then 0 else suc (others_before i ns)

-- the first place from p on at which this number stands
abbrev pub place_from : ℕ → ℕ → List ℕ → ℕ
place_from p i ns = p + others_before i (drop p ns)

-- from the place j on these are the chains of the numbers below the count, and before it the numbers themselves stand
pub record AreChained (ns : List ℕ) (count j : ℕ) (firsts nexts : List ℕ) : Type 0 where
  pub counted : length firsts ≡ count
  pub placed : length nexts ≡ length ns
  pub numbered : (p : ℕ) → p < j → slice_index_or nexts p 0 ≡ slice_index_or ns p 0
  pub first : (i : ℕ) → i < count → slice_index_or firsts i 0 ≡ place_from j i ns
  pub next : (p : ℕ) → j ≤ p → p < length ns → slice_index_or ns p 0 < count → slice_index_or nexts p 0 ≡ place_from (p + 1) (slice_index_or ns p 0) ns

abbrev pub AreChains : List ℕ → ℕ → Chains → Type 0
AreChains ns count c = AreChained ns count 0 c.firsts.items c.nexts.items
