use Rattle.std.proofs.Common.{map, refl, sym, ap, ◌∙◌, arith}
use Rattle.smv_meaning.specs.Names.{at_child}
use Rattle.smv_instances.specs.View.{instance_plain, local_plain}
use Rattle.smv_instances.specs.Leads.{is_alias}
use Rattle.smv_instances.proofs.LeadLemmas.{look_one}
use Rattle.smv_instances.proofs.DepthLemmas.{lead_kept}
use Rattle.smv_instances.proofs.leads.lead_of.Goals as goal

pub returns-in-Body : goal.returns-in-Body
returns-in-Body c =
    (look_one (map instance_plain c.args.parts.now) c.args.i c.args.x.now _ _ (ap local_plain (sym c.in-Body.is) ∙ c.requires.known) (λ f. refl), λ n h. omega arith, record {})

pub returns-in-Variable : goal.returns-in-Variable
returns-in-Variable c =
    let own = ap local_plain (sym c.in-Variable.is) ∙ c.requires.known in
    (look_one (map instance_plain c.args.parts.now) c.args.i c.args.x.now _ _ own (λ f. refl), λ n h. omega arith, sym own)

pub returns-in-None : goal.returns-in-None
returns-in-None c =
    (look_one (map instance_plain c.args.parts.now) c.args.i c.args.x.now _ _ (ap local_plain (sym c.in-Instance.is) ∙ c.requires.known) (λ f. ap at_child (sym c.in-None.ensures)), λ n h. omega arith, record {})

pub returns-in-Some : goal.returns-in-Some
returns-in-Some c =
    (look_one (map instance_plain c.args.parts.now) c.args.i c.args.x.now _ _ (ap local_plain (sym c.in-Instance.is) ∙ c.requires.known) (λ f. ap at_child (sym c.in-Some.ensures)), λ n h. omega arith, record {})

pub returns-in-Nothing : goal.returns-in-Nothing
returns-in-Nothing c =
    (look_one (map instance_plain c.args.parts.now) c.args.i c.args.x.now _ _ (ap local_plain (sym c.in-Nothing.is) ∙ c.requires.known) (λ f. refl), λ n h. omega arith, record {})

pub returns-in-Alias : goal.returns-in-Alias
returns-in-Alias c =
    lead_kept (map instance_plain c.args.parts.now) c.args.leads.now c.args.i c.args.x.now c.row_value_in.result c.requires.right (ap is_alias (sym (ap local_plain (sym c.in-Alias.is) ∙ c.requires.known))) c.row_value_in.ensures
