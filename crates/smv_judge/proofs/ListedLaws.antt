-- Runs that name their variables in the order of the items.
use Rattle.std.proofs.Common.{◌≡◌, true, cond, List, [], ◌∷◌, ◌++◌, map, bytes_eq, refl, sym, subst}
use Rattle.std.specs.List.{filter}
use Rattle.std.proofs.lemmas.Slice.Eq.{bytes_eq-Decides}
use Rattle.name_maps.specs.Tables.{AreDistinct}
use Rattle.smv_text.specs.Tree.{PlainSource}
use Rattle.smv_meaning.specs.declared.value.Given.{Given}
use Rattle.smv_meaning.specs.declared.value.Run.{Run}
use Rattle.smv_meaning.specs.Instances.{instances_of}
use Rattle.smv_meaning.specs.laws.Booleans.{two_true}
use Rattle.smv_accepted.proofs.ItemNames.{names_are_distinct_law}
use Rattle.smv_items.specs.declared.items.ItemKind.{ItemKind}
use Rattle.smv_items.specs.declared.items.ItemKind.TheVariants.{State, Frozen, Input, Define, Actual}
use Rattle.smv_items.specs.FlatItems.{PlainFlatItem, origins_of}
use Rattle.smv_flat.specs.FlatForms.{PlainFlat}
use Rattle.smv_rows.specs.Listed.{are_named_after, lists_label}
use Rattle.smv_rows.specs.RowOrders.{is_input}
use Rattle.smv_judge.specs.Labels.{given_first, first_label}
use Rattle.smv_flatten.specs.FlatModel.{IsFlatOf}
use Rattle.smv_judge.specs.Models.{IsListedRun, AllListed}
use Rattle.smv_judge.proofs.FitLaws.{names_same}

-- ---- the label of the last state

inputs_named : (m : PlainFlatItem) (ms : List PlainFlatItem) (gs : List Given) (kind : ItemKind) → are_named_after ms gs ≡ true → are_named_after (cond (is_input kind) (m ∷ ms) ms) (given_first m kind ++ gs) ≡ true
inputs_named m ms gs State h = h
inputs_named m ms gs Frozen h = h
inputs_named m ms gs Input h = two_true (bytes_eq m.name m.name) (are_named_after ms gs) ((bytes_eq-Decides m.name m.name).1 refl) h
inputs_named m ms gs Define h = h
inputs_named m ms gs Actual h = h

label_listed : (items : List PlainFlatItem) → lists_label items (first_label items) ≡ true
label_listed [] = refl
label_listed (m ∷ ms) = inputs_named m (filter (λ (i : PlainFlatItem). is_input i.kind) ms) (first_label ms) m.kind (label_listed ms)

-- ---- runs

pub items_apart : (flat : PlainFlat) (source : PlainSource) → IsFlatOf source flat → AreDistinct (map (λ m. m.name) flat.items)
items_apart flat source m =
    subst (λ (f : PlainFlat). AreDistinct (map (λ (i : PlainFlatItem). i.name) f.items)) (sym m.form)
    (subst AreDistinct (sym (names_same (instances_of source) (origins_of (instances_of source))))
    (names_are_distinct_law source m.read.end m.read.text m.read.tokens m.read.lexed m.read.spelled m.needed m.accepted))

pub run_listed : (flat : PlainFlat) (source : PlainSource) → IsFlatOf source flat → (run : Run) (label : List Given) → label ≡ first_label flat.items → IsListedRun flat run → AllListed flat.items run.states run.labels label
run_listed flat source m run label e r = record {
  apart = items_apart flat source m;
  in_states = r.states;
  in_labels = r.labels;
  in_last = subst (λ (l : List Given). lists_label flat.items l ≡ true) (sym e) (label_listed flat.items);
}
