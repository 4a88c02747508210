-- Lists behind references.
use Rattle.std.specs.Prelude.{Option, None, Some}
use Rattle.std.specs.Borrow.{Bor}
use Rattle.moxi_scripts.specs.declared.parts.Lists.{Lists}

abbrev pub lists_now : Option (Bor Lists) → Option Lists
lists_now None = None
lists_now (Some l) = Some l.now
