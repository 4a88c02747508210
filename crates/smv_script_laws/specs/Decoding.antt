-- The states and labels for which the values of a script's variables stand, and the values that stand for a row.
use Rattle.std.specs.Prelude.{ℕ, zero, suc, ◌+◌, ◌==◌, Bool, true, false, if◌then◌else◌, List, [], ◌∷◌, ◌++◌}
use Rattle.smv_meaning.specs.declared.value.Given.{Given}
use Rattle.smv_meaning.specs.declared.value.Run.{Run}
use Rattle.smv_items.specs.declared.items.ItemKind.{ItemKind}
use Rattle.smv_items.specs.declared.items.ItemKind.TheVariants.{State, Frozen, Input}
use Rattle.smv_items.specs.FlatItems.{PlainFlatItem}
use Rattle.smv_flat.specs.FlatForms.{PlainFlat}
use Rattle.smv_flat.specs.FlatTruth.{Row}
use Rattle.moxi_terms.specs.declared.data.Datum.{Datum}
use Rattle.moxi_terms.specs.Operators.{nothing}
use Rattle.moxi_terms.specs.Value.{Values}
use Rattle.smv_script.specs.Codes.{datum_of, value_of}
use Rattle.smv_script.specs.Terms.{Coding}

-- ---- from the values of variables to states and labels

-- a state gives a value to each state and frozen variable
abbrev pub is_of_state : ItemKind → Bool
is_of_state State = true
is_of_state Frozen = true
is_of_state kind = false

-- a label gives a value to each input
abbrev pub is_of_label : ItemKind → Bool
is_of_label Input = true
is_of_label kind = false

-- the item's name with the value for which that of its variable stands
abbrev pub decoded_item : List (List ℕ) → (ℕ → ℕ) → Values → ℕ → PlainFlatItem → Given
decoded_item symbols place env k m = record { name = m.name; value = value_of symbols m.type (env (place k)) }

-- those of the kinds that the test picks, from a number on
abbrev pub decoded_from : List (List ℕ) → (ℕ → ℕ) → (ItemKind → Bool) → Values → ℕ → List PlainFlatItem → List Given
decoded_from symbols place picked env k [] = []
decoded_from symbols place picked env k (m ∷ ms) =
    (if picked m.kind then decoded_item symbols place env k m ∷ [] else []) ++ decoded_from symbols place picked env (k + 1) ms

abbrev pub decoded_state : PlainFlat → Coding → Values → List Given
decoded_state flat c env = decoded_from flat.symbols c.place is_of_state env 0 flat.items

abbrev pub decoded_label : PlainFlat → Coding → Values → List Given
decoded_label flat c env = decoded_from flat.symbols c.place is_of_label env 0 flat.items

-- so many steps of a trace from a number on
abbrev pub decoded_steps : (Values → List Given) → (ℕ → Values) → ℕ → ℕ → List (List Given)
decoded_steps decoded trace j zero = []
decoded_steps decoded trace j (suc n) = decoded (trace j) ∷ decoded_steps decoded trace (j + 1) n

-- the run of so many transitions for which a trace stands; the label of a transition is that of the step before it
abbrev pub run_of : PlainFlat → Coding → (ℕ → Values) → ℕ → Run
run_of flat c trace k = record {
  states = decoded_steps (decoded_state flat c) trace 0 (k + 1);
  labels = decoded_steps (decoded_label flat c) trace 0 k;
}

-- ---- from rows to the values of variables

-- the datum of the item whose variable has this number
abbrev pub datum_from : ℕ → List (List ℕ) → (ℕ → ℕ) → Row → ℕ → ℕ → List PlainFlatItem → Datum
datum_from width symbols place row v k [] = nothing
datum_from width symbols place row v k (m ∷ ms) = if place k == v then datum_of width symbols (row k) else datum_from width symbols place row v (k + 1) ms

abbrev pub environment_of : PlainFlat → Coding → Row → Values
environment_of flat c row v = datum_from c.width flat.symbols c.place row v 0 flat.items
