use Rattle.std.proofs.Common.{◌≡◌, sym, ap, ◌∙◌, ◌∷◌, ◌++◌, [], subst, if◌then◌else◌}
use Rattle.name_maps.specs.Tables.{AreDistinct}
use Rattle.name_maps.proofs.Places.{occur_once}
use Rattle.name_maps.proofs.table.NameTable.declare.Goals as goal

pub invariant_of-self-in-Ok : goal.invariant_of-self-in-Ok
invariant_of-self-in-Ok c =
    let old = c.self.inside.set in
    let name = c.args.name.now in
    let fresh = c.if-not-branch.false in
    let set : c.declare.new.self ≡ old ++ name ∷ [] = c.in_ok-declare.ensures.names ∙ ap (λ b. if b then old ++ name ∷ [] else old) fresh in (
      c.in-Ok.ensures.ok ∙ ap (λ ns. ns ++ c.in_ok-own.own ∷ []) c.self.invariant.0 ∙ ap (λ n. old ++ n ∷ []) c.in_ok-own.ensures ∙ sym set,
      subst AreDistinct (sym set) (occur_once old name (sym c.in_ok-declare.ensures.fresh ∙ fresh) c.self.invariant.1),
    )
