use Rattle.std.proofs.Common.{◌≡◌, true, map, Some, sym, ◌∙◌, subst}
use Rattle.smv_meaning.specs.Names.{cyclic, steps_of, look, local}
use Rattle.smv_instances.specs.Leads.{is_alias}
use Rattle.smv_instances.specs.View.{instance_plain, found_plain, Declares}
use Rattle.smv_instances.proofs.DepthLemmas.{lead_kept}
use Rattle.smv_instances.proofs.LeadLemmas.{open_is_cyclic}
use Rattle.smv_instances.proofs.table.Table.target_of_alias.Goals as goal

pub returns-in-Some-clause-found : goal.returns-in-Some-clause-found
returns-in-Some-clause-found c =
    let t = map instance_plain c.self.inside.parts in
    let own = subst (λ l. is_alias (local (map instance_plain l) c.args.i c.args.x.now) ≡ true) (sym c.self.view_is) c.requires.alias in
    let kept = lead_kept t c.self.inside.leads c.args.i c.args.x.now (Some c.in-Some.lead) c.self.invariant.0 own c.in-Some.ensures in
    subst (λ l. found_plain (map instance_plain l) c.reached.result ≡ look (map instance_plain l) (steps_of (map instance_plain l)) c.args.i c.args.x.now) c.self.view_is (c.reached.ensures.found t ∙ sym (kept.0 (steps_of t)))

pub returns-in-Some-clause-declared : goal.returns-in-Some-clause-declared
returns-in-Some-clause-declared c =
    let t = map instance_plain c.self.inside.parts in
    let own = subst (λ l. is_alias (local (map instance_plain l) c.args.i c.args.x.now) ≡ true) (sym c.self.view_is) c.requires.alias in
    let kept = lead_kept t c.self.inside.leads c.args.i c.args.x.now (Some c.in-Some.lead) c.self.invariant.0 own c.in-Some.ensures in
    subst (λ l. Declares (map instance_plain l) c.reached.result) c.self.view_is (c.reached.ensures.declared t kept.2)

pub returns-in-None-clause-found : goal.returns-in-None-clause-found
returns-in-None-clause-found c =
    let t = map instance_plain c.self.inside.parts in
    let own = subst (λ l. is_alias (local (map instance_plain l) c.args.i c.args.x.now) ≡ true) (sym c.self.view_is) c.requires.alias in
    subst (λ l. cyclic ≡ look (map instance_plain l) (steps_of (map instance_plain l)) c.args.i c.args.x.now) c.self.view_is
    (sym (open_is_cyclic t c.self.inside.leads c.self.invariant.1 (steps_of t) c.args.i c.args.x.now (own, sym c.in-None.ensures)))
