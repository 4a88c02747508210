use Rattle.std.proofs.Common.{◌≡◌, ◌+◌, true, ◌∷◌, inr, List, Option, drop, map, length, refl, sym, ◌∙◌, subst}
use Rattle.smv_meaning.specs.laws.Lists.{front_is, end_is}
use Rattle.std.specs.Borrow.{Bor}
use Rattle.std.specs.List.{AllByRecursion}
use Rattle.digraph.specs.Graph.{are_distinct}
use Rattle.smv_flat.specs.declared.expressions.FlatExpr.{FlatExpr}
use Rattle.smv_flat.specs.declared.forms.FlatFormula.{FlatFormula}
use Rattle.smv_flat.specs.FlatFormulas.{form_plain}
use Rattle.smv_flat_laws.specs.FlatOrders.{FormHolds, body_numbers}
use Rattle.smv_rows.specs.Filling.{bodies_in}
use Rattle.smv_rows.specs.RowOrders.{HaveBodies, Extends}
use Rattle.smv_rows.proofs.Bodied.{AmongAll, RestIsFree, have_on, come_on, free_on, distinct_on, can_add, variables_free}
use Rattle.smv_rows.proofs.bodies.bodies_of.Goals as goal

pub add_formula-requires : goal.add_formula-requires
add_formula-requires c =
    let inv = c.loop-formula.invariant in
    let kinds = map (λ m. m.kind) c.args.items.now in
    let split = front_is c.args.formulas.now c.loop-formula.formula-index (length c.args.formulas.now) c.formula-item.result refl c.loop-formula-test.true c.formula-item.is in
    let held : AllByRecursion (FormHolds kinds) (map form_plain (c.formula-item.result ∷ (drop (c.loop-formula.formula-index + 1) c.args.formulas.now))) =
    subst (λ (fs : List FlatFormula). AllByRecursion (FormHolds kinds) (map form_plain fs)) split inv.held in
    let free : RestIsFree c.loop-formula.bodies.items (map form_plain (c.formula-item.result ∷ (drop (c.loop-formula.formula-index + 1) c.args.formulas.now))) =
    subst (λ (fs : List FlatFormula). RestIsFree c.loop-formula.bodies.items (map form_plain fs)) split inv.free in
    can_add c.args.items.now c.loop-formula.bodies.items (form_plain c.formula-item.result).role (body_numbers (map form_plain (drop (c.loop-formula.formula-index + 1) c.args.formulas.now))) inv.size held.0 free

pub loop-formula-preserved : goal.loop-formula-preserved
loop-formula-preserved c =
    let old = c.loop-formula.bodies.items in
    let new = c.add_formula.new.bodies.items in
    let all = map form_plain c.args.formulas.now in
    let f = form_plain c.formula-item.result in
    let fs = map form_plain (drop (c.loop-formula.formula-index + 1) c.args.formulas.now) in
    let a = c.add_formula.ensures in
    let inv = c.loop-formula.invariant in
    let kinds = map (λ m. m.kind) c.args.items.now in
    let split = front_is c.args.formulas.now c.loop-formula.formula-index (length c.args.formulas.now) c.formula-item.result refl c.loop-formula-test.true c.formula-item.is in
    let held : AllByRecursion (FormHolds kinds) (f ∷ fs) = subst (λ (xs : List FlatFormula). AllByRecursion (FormHolds kinds) (map form_plain xs)) split inv.held in
    let apart : are_distinct (body_numbers (f ∷ fs)) ≡ true = subst (λ (xs : List FlatFormula). are_distinct (body_numbers (map form_plain xs)) ≡ true) split inv.apart in
    let among : AmongAll (f ∷ fs) all = subst (λ (xs : List FlatFormula). AmongAll (map form_plain xs) all) split inv.among in
    record {
      size = a.size ∙ inv.size;
      held = held.1;
      apart = distinct_on f fs apart;
      free = free_on old new f fs a apart (subst (λ (xs : List FlatFormula). RestIsFree old (map form_plain xs)) split inv.free);
      among = λ k e h. among k e (inr h);
      only = come_on old new f fs all a inv.only among;
      have = have_on old new f fs all a
          (subst (λ (xs : List FlatFormula). (later : List (Option (Bor FlatExpr))) → Extends (bodies_in old) (bodies_in later) → HaveBodies (bodies_in later) (map form_plain xs) → HaveBodies (bodies_in later) all)
          split inv.have);
    }

pub returns : goal.returns
returns c =
    let end = end_is c.args.formulas.now c.loop-formula.formula-index (length c.args.formulas.now) refl c.loop-formula-test.false in
    let inv = c.loop-formula.invariant in
    record {
      size = inv.size;
      have = inv.have c.loop-formula.bodies.items (λ k e g. g) (subst (λ (fs : List FlatFormula). HaveBodies (bodies_in c.loop-formula.bodies.items) (map form_plain fs)) (sym end) tt);
      free = variables_free c.args.items.now (map form_plain c.args.formulas.now) (bodies_in c.loop-formula.bodies.items) c.requires.held inv.only;
      only = inv.only;
    }
