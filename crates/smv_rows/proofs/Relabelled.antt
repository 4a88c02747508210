-- Rows of a state under another label.
use Rattle.std.proofs.Common.{◌≡◌, ℕ, zero, suc, Bool, true, false, ◌||◌, if◌then◌else◌, List, [], ◌∷◌, map, length, Option, Some, None, option_map, refl, sym, ap, ◌∙◌, subst}
use Rattle.std.specs.List.{slice_get}
use Rattle.std.proofs.lemmas.Option.{slice_get-map}
use Rattle.smv_meaning.specs.declared.value.Value.{Value}
use Rattle.smv_meaning.specs.Values.{Valuation}
use Rattle.smv_meaning.specs.laws.Booleans.{absurd_bool}
use Rattle.smv_items.specs.declared.items.ItemKind.{ItemKind}
use Rattle.smv_items.specs.declared.items.ItemKind.TheVariants.{State, Frozen, Input, Define, Actual}
use Rattle.smv_items.specs.declared.items.FlatItem.{FlatItem}
use Rattle.smv_items.specs.FlatItemView.{item_plain}
use Rattle.smv_operators.specs.declared.seen.Seen.{Seen}
use Rattle.smv_flat.specs.FlatTruth.{Row, GivesKind, GivesItem, IsRow}
use Rattle.smv_flat_evaluation.specs.RowValues.{row_values}
use Rattle.smv_rows.specs.Places.{IsGiven}
use Rattle.smv_rows.specs.Relabelling.{input_or}
use Rattle.smv_rows.specs.RowOrders.{IsRowOrder, is_input, has_inputs}
use Rattle.smv_rows.specs.declared.order.RowOrder.{RowOrder}
use Rattle.smv_flat.specs.declared.parts.FlatParts.{FlatParts}
use Rattle.smv_flat.specs.FlatParts.{parts_plain}

neither : (a b : Bool) → (a || b) ≡ false → (a ≡ false) × (b ≡ false)
neither true b h = absurd_bool (sym h)
neither false b h = (refl, h)

kind_kept : (s l m : Valuation) (x : List ℕ) (v : Value) (kind : ItemKind) → is_input kind ≡ false → GivesKind s l x v kind → GivesKind s m x v kind
kind_kept s l m x v State h g = g
kind_kept s l m x v Frozen h g = g
kind_kept s l m x v Input h g = absurd_bool (sym h)
kind_kept s l m x v Define h g = tt
kind_kept s l m x v Actual h g = tt

item_kept : (s l m : Valuation) (v : Value) (items : List FlatItem) → has_inputs items ≡ false → (k : ℕ) → GivesItem s l v (slice_get (map item_plain items) k) → GivesItem s m v (slice_get (map item_plain items) k)
item_kept s l m v [] h k g = tt
item_kept s l m v (i ∷ is) h zero g = kind_kept s l m i.name v i.kind (neither (is_input i.kind) (has_inputs is) h).0 g
item_kept s l m v (i ∷ is) h (suc k) g = item_kept s l m v is (neither (is_input i.kind) (has_inputs is) h).1 k g

-- where there are no inputs, a row under one label is one under each
pub row_kept : (flat : FlatParts) (order : RowOrder) → IsRowOrder flat order → order.inputs ≡ false → (s l m : Valuation) (row : Row) → IsRow (parts_plain flat) s l row → IsRow (parts_plain flat) s m row
row_kept flat order o none s l m row r = record { variables = λ k. item_kept s l m (row k) flat.items.now (sym o.inputs ∙ none) k (r.variables k); bodies = r.bodies }

-- ---- inputs of another row

kind_joined : (s before label after : Valuation) (x : List ℕ) (v w : Value) (kind : ItemKind) → GivesKind s before x w kind → GivesKind after label x v kind → GivesKind s label x (if is_input kind then v else w) kind
kind_joined s before label after x v w State g h = g
kind_joined s before label after x v w Frozen g h = g
kind_joined s before label after x v w Input g h = h
kind_joined s before label after x v w Define g h = tt
kind_joined s before label after x v w Actual g h = tt

item_joined : (s before label after : Valuation) (v w : Value) (o : Option FlatItem) → GivesItem s before w (option_map item_plain o) → GivesItem after label v (option_map item_plain o)
    → GivesItem s label (input_or o v w) (option_map item_plain o)
item_joined s before label after v w None g h = tt
item_joined s before label after v w (Some m) g h = kind_joined s before label after m.name v w m.kind g h

-- the state of one row with the inputs of another one
pub inputs_given : (flat : FlatParts) (s before label after : Valuation) (old other new : List Seen) → length old ≡ length flat.items.now → IsRow (parts_plain flat) s before (row_values old) → IsGiven flat.items.now after label other
    → length new ≡ length old → ((k : ℕ) → row_values new k ≡ input_or (slice_get flat.items.now k) (row_values other k) (row_values old k)) → IsGiven flat.items.now s label new
inputs_given flat s before label after old other new size row also same are = record {
  size = same ∙ size;
  variables = λ k.
      subst (λ v. GivesItem s label v (option_map item_plain (slice_get flat.items.now k))) (sym (are k))
      (item_joined s before label after (row_values other k) (row_values old k) (slice_get flat.items.now k)
      (subst (GivesItem s before (row_values old k)) (slice_get-map item_plain flat.items.now k) (row.variables k)) (also.variables k));
}

-- the same before the bodies have values
pub inputs_joined : (flat : FlatParts) (s before label after : Valuation) (old other read new : List Seen) → read ≡ other → IsGiven flat.items.now s before old → IsGiven flat.items.now after label other
    → length new ≡ length old → ((k : ℕ) → row_values new k ≡ input_or (slice_get flat.items.now k) (row_values read k) (row_values old k)) → IsGiven flat.items.now s label new
inputs_joined flat s before label after old other read new e given also same are = record {
  size = same ∙ given.size;
  variables = λ k.
      subst (λ v. GivesItem s label v (option_map item_plain (slice_get flat.items.now k))) (sym (are k ∙ ap (λ xs. input_or (slice_get flat.items.now k) (row_values xs k) (row_values old k)) e))
      (item_joined s before label after (row_values other k) (row_values old k) (slice_get flat.items.now k) (given.variables k) (also.variables k));
}

-- the same of what the code reads of the other row
pub inputs_now : (flat : FlatParts) (s before label after : Valuation) (old other read new : List Seen) → read ≡ other → length old ≡ length flat.items.now → IsRow (parts_plain flat) s before (row_values old) → IsGiven flat.items.now after label other
    → length new ≡ length old → ((k : ℕ) → row_values new k ≡ input_or (slice_get flat.items.now k) (row_values read k) (row_values old k)) → IsGiven flat.items.now s label new
inputs_now flat s before label after old other read new e size row also same are =
    inputs_given flat s before label after old other new size row also same (subst (λ (xs : List Seen). (k : ℕ) → row_values new k ≡ input_or (slice_get flat.items.now k) (row_values xs k) (row_values old k)) e are)
