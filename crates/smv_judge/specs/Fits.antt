-- Whether the values of a row's variables are of the declared types (NuSMV 2.6 User Manual, 2.3).
use Rattle.std.specs.Prelude.{ℕ, ◌+◌, Bool, true, false, not, ◌&&◌, ◌||◌, nat_le, List, [], ◌∷◌}
use Rattle.smv_text.specs.declared.tree.Member.{Member}
use Rattle.smv_meaning.specs.declared.value.Value.{Value}
use Rattle.smv_meaning.specs.Values.{is_truth, is_between, is_word_of, is_among}
use Rattle.smv_meaning.specs.Types.{ExprType, truth_type, integer_type, symbol_type, word_type}
use Rattle.smv_items.specs.FlatItems.{PlainFlatItem}
use Rattle.smv_flat.specs.FlatTruth.{Row}
use Rattle.smv_flat_laws.specs.FlatOrders.{is_variable}

abbrev pub type_has : ExprType → Value → Bool
type_has truth_type v = is_truth v
type_has (integer_type low high) v = is_between low high v
type_has symbol_type v = false
type_has (word_type n) v = nat_le 1 n && is_word_of n v

-- a value of an enumeration is one of its members
abbrev pub declared_has : ExprType → List Member → Value → Bool
declared_has type [] v = type_has type v
declared_has type (m ∷ ms) v = is_among (m ∷ ms) v

abbrev pub item_fits : PlainFlatItem → Value → Bool
item_fits m v = not (is_variable m.kind) || declared_has m.type m.members v

-- the items from a number on
abbrev pub items_fit : Row → ℕ → List PlainFlatItem → Bool
items_fit row k [] = true
items_fit row k (m ∷ ms) = item_fits m (row k) && items_fit row (k + 1) ms
