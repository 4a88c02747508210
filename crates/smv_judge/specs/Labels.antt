-- A label whose values are of the declared types: each input has the first value of its type.
use Rattle.std.specs.Prelude.{if◌then◌else◌, false, List, [], ◌∷◌, flat_map}
use Rattle.smv_text.specs.declared.tree.Member.{Member}
use Rattle.smv_meaning.specs.declared.value.Value.{Value}
use Rattle.smv_meaning.specs.declared.value.Value.TheVariants.{Truth, Integer, Bits}
use Rattle.smv_meaning.specs.declared.value.Given.{Given}
use Rattle.smv_meaning.specs.Operators.{is_width}
use Rattle.smv_meaning.specs.Values.{no_value, member_value}
use Rattle.smv_meaning.specs.Types.{ExprType, truth_type, integer_type, symbol_type, word_type}
use Rattle.smv_items.specs.declared.items.ItemKind.{ItemKind}
use Rattle.smv_items.specs.declared.items.ItemKind.TheVariants.{State, Frozen, Input, Define, Actual}
use Rattle.smv_items.specs.FlatItems.{PlainFlatItem}

abbrev pub first_of_type : ExprType → Value
first_of_type truth_type = Truth false
first_of_type (integer_type low high) = Integer low
first_of_type symbol_type = no_value
first_of_type (word_type n) = if is_width n then Bits (record { width = n; bits = 0 }) else no_value

abbrev pub first_value : ExprType → List Member → Value
first_value type [] = first_of_type type
first_value type (m ∷ ms) = member_value m

abbrev pub given_first : PlainFlatItem → ItemKind → List Given
given_first m Input = record { name = m.name; value = first_value m.type m.members } ∷ []
given_first m State = []
given_first m Frozen = []
given_first m Define = []
given_first m Actual = []

abbrev pub first_label : List PlainFlatItem → List Given
first_label items = flat_map (λ m. given_first m m.kind) items
