-- What the names of an instance are, by the entries so far.
use Rattle.std.specs.Prelude.{List, map}
use Rattle.smv_text.specs.declared.tree.Path.{Path}
use Rattle.smv_meaning.specs.Instances.{Instance}
use Rattle.smv_meaning.specs.Checks.{Named}
use Rattle.smv_instances.specs.View.{instance_plain}
use Rattle.smv_model_types.specs.Entries.{Entries, entries_seen, entries_names}
use Rattle.smv_model_types.specs.declared.context.EnteredNames.{EnteredNames}

abbrev pub instances_of : EnteredNames → List Instance
instances_of s = map instance_plain s.model.now.table.now

abbrev pub entries_of : EnteredNames → Entries
entries_of s = entries_seen s.model.now.numbers.now.bodies s.entries.now.items

abbrev pub names_of : EnteredNames → Path → Named
names_of s = entries_names (instances_of s) (entries_of s) s.instance
