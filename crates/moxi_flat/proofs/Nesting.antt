-- No system nests deeper than there are systems, where ranks fall from each system to those that it contains.
use Rattle.std.proofs.Common.{◌≡◌, ℕ, zero, suc, ◌<◌, eqb, nat_lt, true, false, List, [], ◌∷◌, length, refl, subst, arith}
use Rattle.std.specs.List.{AllByRecursion}
use Rattle.std.proofs.lemmas.Bool.Decides.{nat_tests}
use Rattle.moxi_scripts.specs.declared.script.Subsystem.{Subsystem}
use Rattle.moxi_scripts.specs.Script.{PlainSystem, system_at}
use Rattle.moxi_scripts.proofs.WholeRanks.{count, count_less}

-- from a system one comes to no subsystem through more than so many systems
abbrev pub Nests : ℕ → List PlainSystem → ℕ → Type 0
Nests zero ss i = ⊥
Nests (suc depth) ss i = (i < length ss) × AllByRecursion (λ (b : Subsystem). Nests depth ss b.system) (system_at ss i).subsystems

equal : (x n : ℕ) → eqb x n ≡ true → x ≡ n
equal x n e = grind (arith, nat_tests)

count_all : (n : ℕ) → count (λ m. true) n ≡ n
unfolding count
count_all zero = refl
count_all (suc n) = let e = count_all n in omega arith

module _ (ss : List PlainSystem) (rank : ℕ → ℕ) (falls : (i : ℕ) → i < length ss → AllByRecursion (λ (b : Subsystem). (b.system < length ss) × (rank b.system < rank i)) (system_at ss i).subsystems) where
  -- how many systems have a lower rank
  lower : ℕ → ℕ
  lower i = count (λ m. nat_lt (rank m) (rank i)) (length ss)

  weaker : (i b : ℕ) → rank b < rank i → (m : ℕ) → nat_lt (rank m) (rank b) ≡ true → nat_lt (rank m) (rank i) ≡ true
  weaker i b l m h = grind (arith, nat_tests)

  lower_falls : (i b : ℕ) → b < length ss → rank b < rank i → lower b < lower i
  unfolding lower
  lower_falls i b there l =
      count_less (λ m. nat_lt (rank m) (rank i)) (λ m. nat_lt (rank m) (rank b)) (length ss) b (weaker i b l) there
      (let e : nat_lt (rank b) (rank i) ≡ true = grind (arith, nat_tests) in e) (let e : nat_lt (rank b) (rank b) ≡ false = grind (arith, nat_tests) in e)

  lower_below : (i : ℕ) → i < length ss → lower i < length ss
  unfolding lower
  lower_below i there =
      subst (λ n. count (λ m. nat_lt (rank m) (rank i)) (length ss) < n) (count_all (length ss))
      (count_less (λ m. true) (λ m. nat_lt (rank m) (rank i)) (length ss) i (λ m h. refl) there refl (let e : nat_lt (rank i) (rank i) ≡ false = grind (arith, nat_tests) in e))

  below_next : (a r depth : ℕ) → a < r → r < suc depth → a < depth
  below_next a r depth h g = omega arith

  nest_each : (depth i : ℕ) → ((k : ℕ) → k < length ss → lower k < depth → Nests depth ss k) → lower i < suc depth → (bs : List Subsystem)
      → AllByRecursion (λ (b : Subsystem). (b.system < length ss) × (rank b.system < rank i)) bs → AllByRecursion (λ (b : Subsystem). Nests depth ss b.system) bs
  nest_each depth i f h [] a = tt
  nest_each depth i f h (b ∷ bs) a = (f b.system a.0.0 (below_next (lower b.system) (lower i) depth (lower_falls i b.system a.0.0 a.0.1) h), nest_each depth i f h bs a.1)

  nests_upto : (depth i : ℕ) → i < length ss → lower i < depth → Nests depth ss i
  nests_upto zero i there h = absurd (omega arith)
  nests_upto (suc depth) i there h = (there, nest_each depth i (nests_upto depth) h (system_at ss i).subsystems (falls i there))

  pub nests : (i : ℕ) → i < length ss → Nests (length ss) ss i
  nests i there = nests_upto (length ss) i there (lower_below i there)
