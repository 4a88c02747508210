-- The plain forms of definitions and actuals, and of paths.
use Rattle.std.specs.Borrow.{Bor}
use Rattle.smv_text.specs.declared.tree.Path.{Path}
use Rattle.smv_references.specs.declared.bodies.Body.{Body as StoredBody}
use Rattle.smv_meaning.specs.Bodies.{Placed}
use Rattle.smv_meaning.specs.Phases.{Body}

abbrev pub body_plain : StoredBody → Placed
body_plain f = record { body = (f.instance, f.name.now); place = f.place }

abbrev pub path_seen : Bor Path → Path
path_seen p = p.now

abbrev pub key_of : StoredBody → Body
key_of f = (f.instance, f.name.now)
