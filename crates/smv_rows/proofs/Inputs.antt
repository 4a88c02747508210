-- Inputs that are set to their values in another row, one after another.
use Rattle.std.proofs.Common.{◌≡◌, ℕ, ◌<◌, ◌≤◌, ◌+◌, Bool, true, false, ◌==◌, nat_lt, if◌then◌else◌, List, length, Some, refl, sym, ap, ◌∙◌, subst, arith, set}
use Rattle.std.specs.List.{slice_get}
use Rattle.std.proofs.lemmas.Bool.Decides.{nat_tests}
use Rattle.std.proofs.lemmas.Option.{slice_get_past}
use Rattle.smv_meaning.specs.declared.value.Value.{Value}
use Rattle.smv_items.specs.declared.items.FlatItem.{FlatItem}
use Rattle.smv_operators.specs.declared.seen.Seen.{Seen}
use Rattle.smv_operators.specs.View.{seen_value}
use Rattle.smv_flat_evaluation.specs.RowValues.{row_values}
use Rattle.smv_rows.specs.Relabelling.{input_or}
use Rattle.smv_rows.specs.RowOrders.{is_input}
use Rattle.smv_rows.proofs.Sets.{own}
use Rattle.smv_rows.proofs.VariableRows.{set_same, set_other}
use Rattle.digraph.proofs.Lists.{same}

-- one item that is set, and the others
pub one_set : (m : FlatItem) (xs : List Seen) (k : ℕ) (v : Seen) (w : Value) → k < length xs → seen_value v ≡ w → is_input m.kind ≡ true
    → (n : ℕ) → row_values (set xs k v) n ≡ (if k == n then input_or (Some m) w (row_values xs k) else row_values xs n)
one_set m xs k v w low e input n = by (k == n) refl
  where
    by : (b : Bool) → (k == n) ≡ b → row_values (set xs k v) n ≡ (if k == n then input_or (Some m) w (row_values xs k) else row_values xs n)
    by true is =
        subst (λ i. row_values (set xs k v) i ≡ seen_value v) (same k n is) (set_same xs k v low) ∙ e ∙ sym (ap (λ b. if b then w else row_values xs k) input)
        ∙ sym (ap (λ b. if b then input_or (Some m) w (row_values xs k) else row_values xs n) is)
    by false is = set_other xs k n v is ∙ sym (ap (λ b. if b then input_or (Some m) w (row_values xs k) else row_values xs n) is)

pub none_set : (m : FlatItem) (xs : List Seen) (k : ℕ) (w : Value) → is_input m.kind ≡ false → (n : ℕ) → row_values xs n ≡ (if k == n then input_or (Some m) w (row_values xs k) else row_values xs n)
none_set m xs k w input n = by (k == n) refl
  where
    by : (b : Bool) → (k == n) ≡ b → row_values xs n ≡ (if k == n then input_or (Some m) w (row_values xs k) else row_values xs n)
    by true is =
        sym (ap (row_values xs) (same k n is)) ∙ sym (ap (λ b. if b then w else row_values xs k) input) ∙ sym (ap (λ b. if b then input_or (Some m) w (row_values xs k) else row_values xs n) is)
    by false is = sym (ap (λ b. if b then input_or (Some m) w (row_values xs k) else row_values xs n) is)

-- the items below a number have been set
abbrev pub upto : List FlatItem → (other old : List Seen) → ℕ → ℕ → Value
upto items other old k n = if nat_lt n k then input_or (slice_get items n) (row_values other n) (row_values old n) else row_values old n

abbrev pub IsUpto : List FlatItem → (other old now : List Seen) → ℕ → Type 0
IsUpto items other old now k = (n : ℕ) → row_values now n ≡ upto items other old k n

pub inputs_on : (items : List FlatItem) (other old now next : List Seen) (k : ℕ) (m : FlatItem) → slice_get items k ≡ Some m → IsUpto items other old now k
    → ((n : ℕ) → row_values next n ≡ (if k == n then input_or (Some m) (row_values other k) (row_values now k) else row_values now n)) → IsUpto items other old next (k + 1)
inputs_on items other old now next k m at g h n = by (k == n) refl
  where
    now_k : row_values now k ≡ row_values old k
    now_k = let e : nat_lt k k ≡ false = grind (arith, nat_tests) in g k ∙ ap (λ b. if b then input_or (slice_get items k) (row_values other k) (row_values old k) else row_values old k) e

    here : row_values next k ≡ upto items other old (k + 1) k
    here =
        let e : nat_lt k (k + 1) ≡ true = grind (arith, nat_tests) in
        h k ∙ ap (λ b. if b then input_or (Some m) (row_values other k) (row_values now k) else row_values now k) (own k)
        ∙ ap (input_or (Some m) (row_values other k)) now_k ∙ ap (λ o. input_or o (row_values other k) (row_values old k)) (sym at)
        ∙ sym (ap (λ b. if b then input_or (slice_get items k) (row_values other k) (row_values old k) else row_values old k) e)

    apart : (k == n) ≡ false → (b : Bool) → nat_lt n k ≡ b → nat_lt n (k + 1) ≡ nat_lt n k
    apart d true e = let f : nat_lt n (k + 1) ≡ true = grind (arith, nat_tests, e) in f ∙ sym e
    apart d false e = let f : nat_lt n (k + 1) ≡ false = grind (arith, nat_tests, e, d) in f ∙ sym e

    by : (b : Bool) → (k == n) ≡ b → row_values next n ≡ upto items other old (k + 1) n
    by true is = subst (λ i. row_values next i ≡ upto items other old (k + 1) i) (same k n is) here
    by false is =
        h n ∙ ap (λ b. if b then input_or (Some m) (row_values other k) (row_values now k) else row_values now n) is ∙ g n
        ∙ sym (ap (λ b. if b then input_or (slice_get items n) (row_values other n) (row_values old n) else row_values old n) (apart is (nat_lt n k) refl))

pub inputs_end : (items : List FlatItem) (other old now : List Seen) (k : ℕ) → length items ≤ k → IsUpto items other old now k → (n : ℕ) → row_values now n ≡ input_or (slice_get items n) (row_values other n) (row_values old n)
inputs_end items other old now k most g n = g n ∙ by (nat_lt n k) refl
  where
    by : (b : Bool) → nat_lt n k ≡ b → upto items other old k n ≡ input_or (slice_get items n) (row_values other n) (row_values old n)
    by true e = ap (λ b. if b then input_or (slice_get items n) (row_values other n) (row_values old n) else row_values old n) e
    by false e =
        let past : length items ≤ n = grind (arith, nat_tests, e, most) in
        ap (λ b. if b then input_or (slice_get items n) (row_values other n) (row_values old n) else row_values old n) e ∙ sym (ap (λ o. input_or o (row_values other n) (row_values old n)) (slice_get_past items n past))
