use Rattle.std.proofs.Common.{◌≡◌, ◌++◌, drop, length}
use Rattle.moxi_scripts.specs.Entries.{locals_among}
use Rattle.moxi_declarations.proofs.OnceLaws.{AreOnce}
use Rattle.moxi_declarations.proofs.once.locals_once.Given as goal

abbrev pub invariant-loop-entry : goal.invariant-loop-entry
invariant-loop-entry l = record {
  adds : l.locals ++ locals_among (drop l.entry-index l.entries) ≡ locals_among l.entries;
  long : length l.locals ≡ l.entry-index;
  once : AreOnce l.locals;
}
