-- Runs as they are judged: stated by names, or by the numbers of the items.
use Rattle.std.specs.Prelude.{◌≡◌, ℕ, ◌+◌, true, List, [], ◌∷◌, drop, map, slice_index_or}
use Rattle.smv_meaning.specs.declared.value.Value.{Value}
use Rattle.smv_meaning.specs.declared.value.Given.{Given}
use Rattle.text_core.specs.declared.verdict.Verdict.{Verdict}
use Rattle.smv_meaning.specs.Values.{given}
use Rattle.smv_meaning.specs.Instances.{Instance}
use Rattle.smv_meaning.specs.Runs.{judged_after}
use Rattle.smv_items.specs.FlatItems.{PlainFlatItem}
use Rattle.smv_flat.specs.declared.parts.FlatParts.{FlatParts}
use Rattle.smv_flat.specs.FlatParts.{parts_plain}
use Rattle.smv_numbered.specs.Runs.{stated_at, states_of, labels_of, IsNumbered}
use Rattle.smv_rows.specs.declared.order.RowOrder.{RowOrder}
use Rattle.smv_rows.specs.Numbered.{values_or_none}
use Rattle.smv_judge.specs.declared.stated.Stated.{Stated}
use Rattle.smv_judge.specs.declared.stated.Stated.TheVariants.{Named, Numbered}
use Rattle.smv_judge.specs.Labels.{first_value, first_label}
use Rattle.smv_judge.specs.Models.{AllListed}

abbrev pub states_in : List PlainFlatItem → Stated → List (List Given)
states_in items (Named run label) = run.now.states
states_in items (Numbered run firsts) = states_of items run.now.changes run.now.ends

abbrev pub labels_in : List PlainFlatItem → Stated → List (List Given)
labels_in items (Named run label) = run.now.labels
labels_in items (Numbered run firsts) = labels_of items run.now.changes run.now.ends

-- the label under which the first state is judged
abbrev pub label_in : List PlainFlatItem → Stated → List Given
label_in items (Named run label) = label.now
label_in items (Numbered run firsts) = first_label items

abbrev pub list_at : List (List Given) → ℕ → List Given
list_at xs k = slice_index_or xs k []

-- the verdict on the states from one on, which is the k-th
abbrev pub judged_from : List Instance → ℕ → ℕ → List (List Given) → List (List Given) → Verdict
judged_from t j k states labels = judged_after t j k (given (list_at states k)) (map given (drop (k + 1) states)) (map given (drop k labels))

-- where values are given in order, those of the states and labels are; no end is before another one, and each item has the first
-- value of its type
abbrev pub IsJudgeable : FlatParts → RowOrder → Stated → Type 0
IsJudgeable flat order (Named run label) = order.listed ≡ true → AllListed (parts_plain flat).items run.now.states run.now.labels label.now
IsJudgeable flat order (Numbered run firsts) = IsNumbered run.now × (firsts.now ≡ map (λ m. first_value m.type m.members) (parts_plain flat).items)

-- ---- values that are carried forward

-- the number of changes before the k-th state's
abbrev pub end_before : ℕ → List ℕ → ℕ
end_before k ends = slice_index_or (0 ∷ ends) k 0

-- the values of the items before the k-th state's changes
abbrev pub IsCarried : List PlainFlatItem → Stated → ℕ → List Value → Type 0
IsCarried items (Named run label) k carried = Unit {0}
IsCarried items (Numbered run firsts) k carried = carried ≡ values_or_none (stated_at items run.now.changes (end_before k run.now.ends))
