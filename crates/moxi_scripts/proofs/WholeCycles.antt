-- The graph of the subsystems of a script is that of the subsystems that were read.
use Rattle.std.proofs.Common.{◌≡◌, ℕ, zero, suc, ◌+◌, ◌-◌, ◌<◌, ◌≤◌, eqb, nat_lt, Bool, true, false, cond, ◌||◌, Option, None, Some, List, [], ◌∷◌, ◌++◌, map, length, refl, sym, ap, ◌∙◌, subst, arith}
use Rattle.std.specs.Prelude.{slice_index_or}
use Rattle.std.specs.List.{AllByRecursion, list_any}
use Rattle.std.proofs.lemmas.Bool.Decides.{nat_tests}
use Rattle.std.proofs.lemmas.List.{length-append, length-map}
use Rattle.digraph.specs.Graph.{NodeLists, is_graph, leads, next_of}
use Rattle.name_maps.specs.Names.{place_of}
use Rattle.moxi_scripts.specs.declared.script.Subsystem.{Subsystem}
use Rattle.moxi_scripts.specs.declared.parts.Use.{Use}
use Rattle.moxi_scripts.specs.Cycles.{all_cycles, all_use_rows, count_uses, cycle_failures, ends_at, nodes_from, system_rows, use_cycles, use_graph, use_rows, use_tests}
use Rattle.moxi_scripts.specs.Script.{PlainSystem}
use Rattle.moxi_scripts.specs.Spelling.{subsystem_of, system_of}
use Rattle.moxi_scripts.specs.Systems.{SystemReading}
use Rattle.moxi_scripts.specs.Valid.{NoneContainsItself, all_subsystem_rows, containing_rows, count_subsystems, subsystem_graph, subsystem_rows}
use Rattle.moxi_scripts.proofs.CycleLaws.{graph_is}
use Rattle.moxi_scripts.proofs.FunctionLaws.{none_in}
use Rattle.moxi_scripts.specs.laws.WholeParts.{no_failure}
use Rattle.moxi_scripts.proofs.WholeWalks.{In, equal, leads_short, next_returns}

-- WHERE SYSTEMS LEAD TO

pub index_right : {A : Type 0} (xs ys : List A) (i k : ℕ) (d : A) → length xs + k ≡ i → slice_index_or (xs ++ ys) i d ≡ slice_index_or ys k d
index_right [] ys i k d e = ap (λ j. slice_index_or ys j d) (let f : i ≡ k = omega arith in f)
index_right (x ∷ xs) ys zero k d e = absurd (omega arith)
index_right (x ∷ xs) ys (suc i) k d e = index_right xs ys i k d (omega arith)

subsystem_rows_long : (start : ℕ) (bs : List Subsystem) → length (subsystem_rows start bs) ≡ length bs
subsystem_rows_long start [] = refl
subsystem_rows_long start (b ∷ bs) = ap suc (subsystem_rows_long start bs)

pub all_rows_long : (start : ℕ) (xs : List PlainSystem) → length (all_subsystem_rows start xs) ≡ count_subsystems xs
all_rows_long start [] = refl
all_rows_long start (x ∷ xs) =
    length-append (subsystem_rows start x.subsystems) (all_subsystem_rows start xs) ∙ ap (λ n. n + length (all_subsystem_rows start xs)) (subsystem_rows_long start x.subsystems)
    ∙ ap (λ n. length x.subsystems + n) (all_rows_long start xs)

nodes_below : (start count r : ℕ) → In (nodes_from start count) r → r < start + count
nodes_below start zero r i = absurd (cc)
nodes_below start (suc count) r i = by_test (nodes_below (suc start) count r) (eqb r start) refl i
  where
    by_test : (In (nodes_from (suc start) count) r → r < suc start + count) → (b : Bool) → eqb r start ≡ b → (b || list_any (eqb r) (nodes_from (suc start) count)) ≡ true → r < start + suc count
    by_test rest true t i = let e : r ≡ start = equal r start t in omega arith
    by_test rest false t i = let l = rest i in omega arith

pub rows_below : (start : ℕ) (xs : List PlainSystem) (k r : ℕ) → In (slice_index_or (containing_rows start xs) k []) r → r < start + count_subsystems xs
rows_below start [] k r i = absurd (cc)
rows_below start (x ∷ xs) zero r i = let l = nodes_below start (length x.subsystems) r i in omega arith
rows_below start (x ∷ xs) (suc k) r i = let l = rows_below (start + length x.subsystems) xs k r i in omega arith

pub contained_below : (xs : List PlainSystem) (k r : ℕ) → count_subsystems xs ≤ k → In (next_of (subsystem_graph xs) k) r → r < count_subsystems xs
contained_below xs k r h i =
    let front = all_subsystem_rows (count_subsystems xs) xs in
    let long : length front ≡ count_subsystems xs = all_rows_long (count_subsystems xs) xs in
    let row : next_of (subsystem_graph xs) k ≡ slice_index_or (containing_rows 0 xs) (k - count_subsystems xs) [] = index_right front (containing_rows 0 xs) k (k - count_subsystems xs) [] (omega arith) in
    let l : r < 0 + count_subsystems xs = rows_below 0 xs (k - count_subsystems xs) r (subst (λ ys. In ys r) row i) in
    omega arith

-- THE GRAPHS

module _ (names : List (List ℕ)) where
  -- the subsystem's system is one of so many
  abbrev pub IsThere : ℕ → Use → Type 0
  IsThere n u = (j : ℕ) × (place_of names u.target ≡ Some j) × (j < n)

  abbrev pub AreThere : ℕ → List SystemReading → Type 0
  AreThere n rs = AllByRecursion (λ (r : SystemReading). AllByRecursion (IsThere n) r.uses) rs

  counts_same : (rs : List SystemReading) → count_subsystems (map (system_of names) rs) ≡ count_uses rs
  counts_same [] = refl
  counts_same (r ∷ rs) = ap (λ n. n + count_subsystems (map (system_of names) rs)) (length-map r.uses (subsystem_of names)) ∙ ap (λ n. length r.uses + n) (counts_same rs)

  end_same : (start n : ℕ) (o : Option ℕ) (j : ℕ) → o ≡ Some j → j < n → ends_at start n o ≡ (start + j) ∷ []
  end_same start n o j e h = ap (ends_at start n) e ∙ ap (λ b. cond b ((start + j) ∷ []) []) (let t : nat_lt j n ≡ true = grind (arith, nat_tests) in t)

  rows_same : (start n : ℕ) (us : List Use) → AllByRecursion (IsThere n) us → use_rows start n names us ≡ subsystem_rows start (map (subsystem_of names) us)
  rows_same start n [] a = refl
  rows_same start n (u ∷ us) a =
      ap (λ x. x ∷ use_rows start n names us) (end_same start n (place_of names u.target) a.0.0 a.0.1 a.0.2 ∙ ap (λ k. (start + k) ∷ []) (sym (ap number a.0.1)))
      ∙ ap (λ xs. ((start + number (place_of names u.target)) ∷ []) ∷ xs) (rows_same start n us a.1)
    where
      number : Option ℕ → ℕ
      number None = 0
      number (Some i) = i

  all_rows_same : (start n : ℕ) (rs : List SystemReading) → AreThere n rs → all_use_rows start n names rs ≡ all_subsystem_rows start (map (system_of names) rs)
  all_rows_same start n [] a = refl
  all_rows_same start n (r ∷ rs) a =
      ap (λ x. x ++ all_use_rows start n names rs) (rows_same start n r.uses a.0) ∙ ap (λ x. subsystem_rows start (map (subsystem_of names) r.uses) ++ x) (all_rows_same start n rs a.1)

  containing_same : (start : ℕ) (rs : List SystemReading) → system_rows start rs ≡ containing_rows start (map (system_of names) rs)
  containing_same start [] = refl
  containing_same start (r ∷ rs) =
      ap (λ n. nodes_from start n ∷ system_rows (start + n) rs) (sym (length-map r.uses (subsystem_of names)))
      ∙ ap (λ x. nodes_from start (length (map (subsystem_of names) r.uses)) ∷ x) (containing_same (start + length (map (subsystem_of names) r.uses)) rs)

  graph_same : (rs : List SystemReading) → AreThere (length rs) rs → use_graph rs names ≡ subsystem_graph (map (system_of names) rs)
  graph_same rs a =
      ap (λ x. x ++ system_rows 0 rs) (all_rows_same (count_uses rs) (length rs) rs a ∙ ap (λ n. all_subsystem_rows n (map (system_of names) rs)) (sym (counts_same rs)))
      ∙ ap (λ x. all_subsystem_rows (count_subsystems (map (system_of names) rs)) (map (system_of names) rs) ++ x) (containing_same 0 rs)

  use_never : (g : NodeLists) (node : ℕ) (us : List Use) → use_cycles g node us ≡ [] → (i k : ℕ) → i < length us → node + i ≡ k → leads g (suc (length g)) k k ≡ false
  use_never g node [] h i k l e = absurd (omega arith)
  use_never g node (u ∷ us) h zero k l e =
      let p = none_in (use_tests g node u) (use_cycles g (suc node) us) h in
      let same : node ≡ k = omega arith in
      subst (λ n. leads g (suc (length g)) n n ≡ false) same (no_failure _ 11 u.place p.0)
  use_never g node (u ∷ us) h (suc i) k l e =
      let p = none_in (use_tests g node u) (use_cycles g (suc node) us) h in
      use_never g (suc node) us p.1 i k (omega arith) (omega arith)

  all_never : (g : NodeLists) (node : ℕ) (rs : List SystemReading) → all_cycles g node rs ≡ [] → (i k : ℕ) → i < count_uses rs → node + i ≡ k → leads g (suc (length g)) k k ≡ false
  all_never g node [] h i k l e = absurd (omega arith)
  all_never g node (r ∷ rs) h i k l e =
      by_place (nat_lt i (length r.uses)) refl (none_in (use_cycles g node r.uses) (all_cycles g (node + length r.uses) rs) h) (λ q j. all_never g (node + length r.uses) rs q j k)
    where
      by_place : (b : Bool) → nat_lt i (length r.uses) ≡ b → (use_cycles g node r.uses ≡ []) × (all_cycles g (node + length r.uses) rs ≡ [])
          → (all_cycles g (node + length r.uses) rs ≡ [] → (j : ℕ) → j < count_uses rs → (node + length r.uses) + j ≡ k → leads g (suc (length g)) k k ≡ false) → leads g (suc (length g)) k k ≡ false
      by_place true t p rest = use_never g node r.uses p.0 i k (grind (arith, nat_tests)) e
      by_place false t p rest = let past : length r.uses ≤ i = grind (arith, nat_tests) in rest p.1 (i - length r.uses) (omega arith) (omega arith)

  pub none_contains_itself : (rs : List SystemReading) → AreThere (length rs) rs → cycle_failures rs names ≡ [] → NoneContainsItself (map (system_of names) rs)
  none_contains_itself rs a h n k = by_test (leads g n k k) refl
    where
      g : NodeLists
      g = subsystem_graph (map (system_of names) rs)

      same : use_graph rs names ≡ g
      same = graph_same rs a

      whole : is_graph g ≡ true
      whole = subst (λ g. is_graph g ≡ true) same (graph_is rs names)

      -- no subsystem leads to itself
      none : (i j : ℕ) → i < count_subsystems (map (system_of names) rs) → leads g j i i ≡ true → ⊥
      none i j l t =
          let counts : count_subsystems (map (system_of names) rs) ≡ count_uses rs = counts_same rs in
          let never : leads g (suc (length g)) i i ≡ false = subst (λ g. leads g (suc (length g)) i i ≡ false) same (all_never (use_graph rs names) 0 rs h i i (omega arith) (omega arith)) in
          let returns : leads g (suc (length g)) i i ≡ true = leads_short g whole j i i t in
          cc

      -- a system leads to its subsystems alone
      by_place : (b : Bool) → nat_lt k (count_subsystems (map (system_of names) rs)) ≡ b → leads g n k k ≡ true → ⊥
      by_place true e t = none k n (grind (arith, nat_tests)) t
      by_place false e t = let r = next_returns g n k t in none r.0 r.2 (contained_below (map (system_of names) rs) k r.0 (grind (arith, nat_tests)) r.1) r.3

      by_test : (b : Bool) → leads g n k k ≡ b → b ≡ false
      by_test true e = absurd (by_place (nat_lt k (count_subsystems (map (system_of names) rs))) refl e)
      by_test false e = refl
