use Rattle.std.proofs.Common.{map, sym, ap, refl, ◌∙◌}
use Rattle.smv_text.specs.View.{plain, plain_domain}
use Rattle.smv_meaning.specs.Names.{body_of, variable_of, inner, variable_at, body_at, instance_at, none, dotted_at, at_child, look, single, steps_of}
use Rattle.smv_instances.specs.View.{instance_plain, local_plain}
use Rattle.smv_instances.proofs.LeadLemmas.{one_walked, single_is}
use Rattle.smv_instances.proofs.table.Table.target_of_single.Goals as goal

pub returns-in-Alias-clause-found : goal.returns-in-Alias-clause-found
returns-in-Alias-clause-found c =
    let t = map instance_plain c.args.self.now in
    c.target_of_alias.ensures.found ∙ sym (one_walked (look t (steps_of t)) c.args.i c.args.x.now) ∙ ap (λ k. single t (look t (steps_of t)) c.args.i c.args.x.now (local_plain k)) (sym c.in-Alias.is)

pub returns-in-Body-clause-found : goal.returns-in-Body-clause-found
returns-in-Body-clause-found c =
    let j = c.in-Body.j in
    let e = plain c.in-Body.e.now in
    single_is (map instance_plain c.args.self.now) c.args.i c.args.x.now (body_of j e) (local_plain c.args.known) (body_at c.args.i c.args.x.now j e) (ap local_plain (sym c.in-Body.is)) c.requires.known (λ f. refl) refl

pub returns-in-Variable-clause-found : goal.returns-in-Variable-clause-found
returns-in-Variable-clause-found c =
    let t = map instance_plain c.args.self.now in
    let kind = c.in-Variable.kind in
    let d = plain_domain c.in-Variable.d.now in
    single_is t c.args.i c.args.x.now (variable_of kind d) (local_plain c.args.known) (variable_at (dotted_at t c.args.i c.args.x.now) kind d) (ap local_plain (sym c.in-Variable.is)) c.requires.known (λ f. refl) refl

pub returns-in-Variable-clause-declared : goal.returns-in-Variable-clause-declared
returns-in-Variable-clause-declared c = sym (ap local_plain (sym c.in-Variable.is) ∙ c.requires.known)

pub returns-in-None-clause-found : goal.returns-in-None-clause-found
returns-in-None-clause-found c =
    single_is (map instance_plain c.args.self.now) c.args.i c.args.x.now inner (local_plain c.args.known) none (ap local_plain (sym c.in-Instance.is)) c.requires.known (λ f. ap at_child (sym c.in-None.ensures)) refl

pub returns-in-Some-clause-found : goal.returns-in-Some-clause-found
returns-in-Some-clause-found c =
    single_is (map instance_plain c.args.self.now) c.args.i c.args.x.now inner (local_plain c.args.known) (instance_at c.in-Some.c) (ap local_plain (sym c.in-Instance.is)) c.requires.known (λ f. ap at_child (sym c.in-Some.ensures)) refl
