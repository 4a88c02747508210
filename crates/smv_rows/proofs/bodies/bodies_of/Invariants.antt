use Rattle.std.proofs.Common.{◌≡◌, true, List, Option, drop, map, length}
use Rattle.std.specs.Borrow.{Bor}
use Rattle.std.specs.List.{AllByRecursion}
use Rattle.digraph.specs.Graph.{are_distinct}
use Rattle.smv_flat.specs.declared.expressions.FlatExpr.{FlatExpr}
use Rattle.smv_flat.specs.FlatFormulas.{form_plain}
use Rattle.smv_flat_laws.specs.FlatOrders.{ComeFrom, FormHolds, body_numbers}
use Rattle.smv_rows.specs.Filling.{bodies_in}
use Rattle.smv_rows.specs.RowOrders.{HaveBodies, Extends}
use Rattle.smv_rows.proofs.Bodied.{AmongAll, RestIsFree}
use Rattle.smv_rows.proofs.bodies.bodies_of.Given as goal

abbrev pub invariant-loop-formula : goal.invariant-loop-formula
invariant-loop-formula l = record {
  size : length l.bodies.items ≡ length l.items;
  held : AllByRecursion (FormHolds (map (λ m. m.kind) l.items)) (map form_plain (drop l.formula-index l.formulas));
  apart : are_distinct (body_numbers (map form_plain (drop l.formula-index l.formulas))) ≡ true;
  free : RestIsFree l.bodies.items (map form_plain (drop l.formula-index l.formulas));
  among : AmongAll (map form_plain (drop l.formula-index l.formulas)) (map form_plain l.formulas);
  only : ComeFrom (bodies_in l.bodies.items) (map form_plain l.formulas);
  have : (later : List (Option (Bor FlatExpr))) → Extends (bodies_in l.bodies.items) (bodies_in later) → HaveBodies (bodies_in later) (map form_plain (drop l.formula-index l.formulas)) → HaveBodies (bodies_in later) (map form_plain l.formulas);
}
