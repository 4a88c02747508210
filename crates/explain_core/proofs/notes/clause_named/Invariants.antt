use Rattle.std.proofs.Common.{◌≡◌, drop}
use Rattle.explain_core.specs.Notes.{clause_named}
use Rattle.explain_core.proofs.notes.clause_named.Given as goal

abbrev pub invariant-loop-clause : goal.invariant-loop-clause
invariant-loop-clause l = clause_named l.name (drop l.clause-index l.clauses) ≡ clause_named l.name l.clauses
