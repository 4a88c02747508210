-- A lifted run names its variables in the order of the items.
use Rattle.std.proofs.Common.{◌≡◌, ℕ, zero, suc, ◌+◌, true, cond, if◌then◌else◌, List, [], ◌∷◌, ◌++◌, bytes_eq, refl, sym, subst}
use Rattle.std.specs.List.{filter, AllByRecursion}
use Rattle.std.proofs.lemmas.Slice.Eq.{bytes_eq-Decides}
use Rattle.btor_witness.specs.declared.witness.Witness.{Witness}
use Rattle.moxi_lift.specs.Lifted.{lifted}
use Rattle.moxi_terms.specs.Value.{Values}
use Rattle.smv_flatten.specs.FlatModel.{FlatModel, flat_plain}
use Rattle.smv_items.specs.declared.items.ItemKind.{ItemKind}
use Rattle.smv_items.specs.declared.items.ItemKind.TheVariants.{State, Frozen, Input, Define, Actual}
use Rattle.smv_items.specs.FlatItems.{PlainFlatItem}
use Rattle.smv_judge.specs.Models.{IsListedRun}
use Rattle.smv_meaning.specs.declared.value.Given.{Given}
use Rattle.smv_meaning.specs.declared.value.Run.{Run}
use Rattle.smv_meaning.specs.laws.Booleans.{two_true}
use Rattle.smv_rows.specs.Listed.{is_in_state, are_named_after, lists_state, lists_label}
use Rattle.smv_rows.specs.RowOrders.{is_input}
use Rattle.smv_script.specs.Script.{coding_of}
use Rattle.smv_script_laws.specs.Decoding.{is_of_state, is_of_label, decoded_item, decoded_from, decoded_state, decoded_label, decoded_steps}
use Rattle.witness_lift.specs.Lifting.{lifted_run, system_in}
use Rattle.moxi_scripts.specs.Behaviour.{trace_of}

first_named : (m : PlainFlatItem) (ms : List PlainFlatItem) (g : Given) (gs : List Given) → g.name ≡ m.name → are_named_after ms gs ≡ true → are_named_after (m ∷ ms) (g ∷ gs) ≡ true
first_named m ms g gs e h = two_true (bytes_eq m.name g.name) (are_named_after ms gs) ((bytes_eq-Decides m.name g.name).1 (sym e)) h

module _ (symbols : List (List ℕ)) (place : ℕ → ℕ) (env : Values) where
  state_kind : (k : ℕ) (m : PlainFlatItem) (ms : List PlainFlatItem) (gs : List Given) (kind : ItemKind) → are_named_after ms gs ≡ true
      → are_named_after (cond (is_in_state kind) (m ∷ ms) ms) ((if is_of_state kind then decoded_item symbols place env k m ∷ [] else []) ++ gs) ≡ true
  state_kind k m ms gs State h = first_named m ms (decoded_item symbols place env k m) gs refl h
  state_kind k m ms gs Frozen h = first_named m ms (decoded_item symbols place env k m) gs refl h
  state_kind k m ms gs Input h = h
  state_kind k m ms gs Define h = h
  state_kind k m ms gs Actual h = h

  label_kind : (k : ℕ) (m : PlainFlatItem) (ms : List PlainFlatItem) (gs : List Given) (kind : ItemKind) → are_named_after ms gs ≡ true
      → are_named_after (cond (is_input kind) (m ∷ ms) ms) ((if is_of_label kind then decoded_item symbols place env k m ∷ [] else []) ++ gs) ≡ true
  label_kind k m ms gs State h = h
  label_kind k m ms gs Frozen h = h
  label_kind k m ms gs Input h = first_named m ms (decoded_item symbols place env k m) gs refl h
  label_kind k m ms gs Define h = h
  label_kind k m ms gs Actual h = h

  pub state_listed : (k : ℕ) (items : List PlainFlatItem) → lists_state items (decoded_from symbols place is_of_state env k items) ≡ true
  state_listed k [] = refl
  state_listed k (m ∷ ms) =
      state_kind k m (filter (λ (i : PlainFlatItem). is_in_state i.kind) ms) (decoded_from symbols place is_of_state env (k + 1) ms) m.kind (state_listed (k + 1) ms)

  pub label_listed : (k : ℕ) (items : List PlainFlatItem) → lists_label items (decoded_from symbols place is_of_label env k items) ≡ true
  label_listed k [] = refl
  label_listed k (m ∷ ms) =
      label_kind k m (filter (λ (i : PlainFlatItem). is_input i.kind) ms) (decoded_from symbols place is_of_label env (k + 1) ms) m.kind (label_listed (k + 1) ms)

steps_listed : (P : List Given → Type 0) (decoded : Values → List Given) → ((env : Values) → P (decoded env)) → (trace : ℕ → Values) (j n : ℕ) → AllByRecursion P (decoded_steps decoded trace j n)
steps_listed P decoded each trace j zero = tt
steps_listed P decoded each trace j (suc n) = (each (trace j), steps_listed P decoded each trace (j + 1) n)

all_listed : (f : FlatModel) (w : Witness) → IsListedRun (flat_plain f) (lifted_run f w)
all_listed f w =
    let flat = flat_plain f in
    let c = coding_of flat f.width in
    record {
      states = steps_listed (λ s. lists_state flat.items s ≡ true) (decoded_state flat c) (λ env. state_listed flat.symbols c.place env 0 flat.items) (trace_of (lifted (system_in f) w)) 0 _;
      labels = steps_listed (λ l. lists_label flat.items l ≡ true) (decoded_label flat c) (λ env. label_listed flat.symbols c.place env 0 flat.items) (trace_of (lifted (system_in f) w)) 0 _;
    }

pub lifted_listed : (f : FlatModel) (w : Witness) (run : Run) → run ≡ lifted_run f w → IsListedRun (flat_plain f) run
lifted_listed f w run e = subst (IsListedRun (flat_plain f)) (sym e) (all_listed f w)
