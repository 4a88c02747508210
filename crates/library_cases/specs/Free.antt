-- Models whose variables are all instances, so that any state fits them.
use Rattle.std.specs.Prelude.{Bool, true, false, List}
use Rattle.std.specs.List.{list_all}
use Rattle.smv_text.specs.Tree.{PlainDomain, instance, PlainItem, PlainElement, vars}
use Rattle.smv_meaning.specs.Instances.{Instance}

abbrev pub is_instance : PlainDomain → Bool
is_instance (instance m actuals) = true
is_instance d = false

abbrev pub is_free_item : PlainItem → Bool
is_free_item item = is_instance item.domain

abbrev pub is_free_element : PlainElement → Bool
is_free_element (vars kind items) = list_all is_free_item items
is_free_element e = true

abbrev pub are_free : List Instance → Bool
are_free t = list_all (λ at. list_all is_free_element at.module.elements) t
