-- What checks of declared types and of expressions come to.
use Rattle.std.specs.Prelude.{◌≡◌, Bool, true, false, List, Option, Some, None, option_map, Result, Ok, Err}
use Rattle.text_core.specs.declared.place.Kind.{Kind}
use Rattle.text_core.specs.declared.place.Place.{Place}
use Rattle.smv_text.specs.Tree.{Tree, name, PlainDomain, PlainDefinition, PlainItem}
use Rattle.smv_text.specs.declared.tree.Path.{Path}
use Rattle.smv_meaning.specs.Types.{domain_type}
use Rattle.smv_meaning.specs.Checks.{Check, first_failing, Named, typing, domain_checks}
use Rattle.smv_meaning.specs.Naming.{in_body}
use Rattle.smv_intervals.specs.declared.types.Ty.{Ty}
use Rattle.smv_intervals.specs.View.{seen}

-- the checks of a declared type hold and its type is this one, or the first that fails is of this kind
abbrev pub IsDeclared : Result (Option Ty) Kind → PlainDomain → Type 0
IsDeclared (Ok o) d = ((p : Place) → first_failing (domain_checks p d) ≡ None) × (option_map seen o ≡ domain_type d)
IsDeclared (Err kind) d = (p : Place) → first_failing (domain_checks p d) ≡ Some (record { kind = kind; place = p })

abbrev pub is_path : Tree → Bool
is_path (name p x) = true
is_path e = false

abbrev pub item_typing : PlainItem → List Check
item_typing i = domain_checks i.domain_place i.domain

abbrev pub definition_typing : (Path → Named) → PlainDefinition → List Check
definition_typing names d = (typing names in_body d.body).checks
