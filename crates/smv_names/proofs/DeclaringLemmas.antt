-- The first name that is declared twice.
use Rattle.std.proofs.Common.{◌≡◌, ℕ, ◌+◌, ◌<◌, Bool, true, false, not, ◌&&◌, ◌||◌, nat_le, if◌then◌else◌, List, [], ◌∷◌, ◌++◌, Some, length, refl, ap, arith}
use Rattle.std.proofs.lemmas.Bool.{eq-eqb, ne_eqb}
use Rattle.smv_text.specs.Tree.{PlainModule}
use Rattle.smv_meaning.specs.Instances.{dotted, is_one_of}
use Rattle.smv_meaning.specs.Checks.{check, first_failing}
use Rattle.smv_meaning.specs.Phases.{Declared, declares_instance, longest_path, most_instances, item_checks, counted, declared_checks}
use Rattle.smv_names.specs.Declaring.{first_twice, is_place}

pub twice_here : (k : ℕ) (names : List (List ℕ)) (d : Declared) (ds : List Declared) → is_one_of names d.name ≡ true → first_twice k names (d ∷ ds) ≡ Some k
twice_here k names d ds h = ap (λ b. if b then Some k else first_twice (k + 1) (d.name ∷ names) ds) h

pub twice_later : (k : ℕ) (names : List (List ℕ)) (d : Declared) (ds : List Declared) → is_one_of names d.name ≡ false → first_twice k names (d ∷ ds) ≡ first_twice (k + 1) (d.name ∷ names) ds
twice_later k names d ds h = ap (λ b. if b then Some k else first_twice (k + 1) (d.name ∷ names) ds) h

-- no place is before the first of these declarations
not_before : (k j : ℕ) (names : List (List ℕ)) (ds : List Declared) → k < j → is_place (first_twice j names ds) k ≡ false
not_before k j names [] h = refl
not_before k j names (d ∷ ds) h = by (is_one_of names d.name) (not_before k (j + 1) (d.name ∷ names) ds (omega (arith, h)))
  where
    by : (b : Bool) → is_place (first_twice (j + 1) (d.name ∷ names) ds) k ≡ false → is_place (if b then Some j else first_twice (j + 1) (d.name ∷ names) ds) k ≡ false
    by true e = ne_eqb j k (λ e. absurd (omega (arith, e, h)))
    by false e = e

-- the place is that of the first of these declarations just where its name stands earlier
pub placed_here : (k : ℕ) (names : List (List ℕ)) (d : Declared) (ds : List Declared) → is_place (first_twice k names (d ∷ ds)) k ≡ is_one_of names d.name
placed_here k names d ds = by (is_one_of names d.name)
  where
    by : (b : Bool) → is_place (if b then Some k else first_twice (k + 1) (d.name ∷ names) ds) k ≡ b
    by true = eq-eqb k k refl
    by false = not_before k (k + 1) (d.name ∷ names) ds (omega arith)

-- a name that stands earlier refuses before the other checks of its declaration
pub refused_twice : (ms : List PlainModule) (above : List (List ℕ)) (path : List ℕ) (names : List (List ℕ)) (met : ℕ) (d : Declared) (ds : List Declared) → is_one_of names d.name ≡ true
    → first_failing (declared_checks ms above path names met (d ∷ ds)) ≡ Some (check 10 d.place false).refusal
refused_twice ms above path names met d ds h =
    let own = check 28 d.place (nat_le (length (dotted path d.name)) longest_path && (not (declares_instance d.item) || nat_le (met + 1) most_instances)) in
    ap (λ b. if not b then first_failing (item_checks ms above d.item ++ own ∷ declared_checks ms above path (d.name ∷ names) (counted met d) ds) else Some (check 10 d.place false).refusal) h
