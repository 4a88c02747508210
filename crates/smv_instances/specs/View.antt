-- The plain forms of what the table of instances keeps.
use Rattle.std.specs.Prelude.{◌≡◌, ℕ, List, map, Option, Some, None}
use Rattle.std.specs.Borrow.{Bor}
use Rattle.smv_text.specs.declared.tree.Module.{Module}
use Rattle.smv_text.specs.Tree.{trees_of, PlainModule}
use Rattle.smv_text.specs.View.{plain, plain_module, plain_domain}
use Rattle.smv_instances.specs.declared.names.Known.{Known}
use Rattle.smv_instances.specs.declared.names.Known.TheVariants as OfKnown
use Rattle.smv_instances.specs.declared.names.Target.{Target}
use Rattle.smv_instances.specs.declared.names.Target.TheVariants as OfTarget
use Rattle.smv_text.specs.declared.tree.Path.{Path}
use Rattle.smv_meaning.specs.Names.{found_in, Local, local, alias, body_of, variable_of, inner, nothing, Found, variable_at, body_at, instance_at, symbol_of, cyclic, none, dotted_at}
use Rattle.smv_instances.specs.declared.instances.Instance.{Instance as PartOf}
use Rattle.smv_meaning.specs.Instances.{Instance}

abbrev pub instance_plain : PartOf → Instance
instance_plain i =
    record { parent = i.parent; name = i.name.now; path = i.path; «module» = plain_module i.module.now; actuals = trees_of (map plain i.actuals.now) }

abbrev pub instance_or_none : Option PartOf → Option Instance
instance_or_none None = None
instance_or_none (Some i) = Some (instance_plain i)

abbrev pub module_or_none : Option (Bor Module) → Option PlainModule
module_or_none None = None
module_or_none (Some m) = Some (plain_module m.now)

abbrev pub local_plain : Known → Local
local_plain (OfKnown.Alias i path) = alias i path.now
local_plain (OfKnown.Body i e) = body_of i (plain e.now)
local_plain (OfKnown.Variable kind d) = variable_of kind (plain_domain d.now)
local_plain OfKnown.Instance = inner
local_plain OfKnown.Nothing = nothing

abbrev pub or_local : Option Known → Local → Local
or_local None other = other
or_local (Some k) other = local_plain k

abbrev pub found_plain : List Instance → Target → Found
found_plain t (OfTarget.Variable i x kind d) = variable_at (dotted_at t i x.now) kind (plain_domain d.now)
found_plain t (OfTarget.Body i x j e) = body_at i x.now j (plain e.now)
found_plain t (OfTarget.Instance i) = instance_at i
found_plain t (OfTarget.Symbol x) = symbol_of x.now
found_plain t OfTarget.Cyclic = cyclic
found_plain t OfTarget.Missing = none

-- a variable is declared where the target says, as it says
abbrev pub Declares : List Instance → Target → Type 0
Declares t (OfTarget.Variable i x kind d) = local t i x.now ≡ variable_of kind (plain_domain d.now)
Declares t m = Unit {0}

abbrev pub found_here : List PartOf → ℕ → Path → Found
found_here ts = found_in (map instance_plain ts)
