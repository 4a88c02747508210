use Rattle.std.proofs.Common.{rules, ◌≡◌, map}
use Rattle.smv_text.specs.View.{plain}
use Rattle.smv_meaning.specs.Names.{body_of, local}
use Rattle.smv_instances.specs.View.{instance_plain}
use Rattle.smv_model_types.specs.Entries.{entries_seen}
use Rattle.smv_model_types.proofs.KeptLemmas.{tried_is}
use Rattle.smv_model_types.proofs.bodies.put_body.Goals as goal

pub store-requires-clause-found : goal.store-requires-clause-found
store-requires-clause-found c =
    let t = map instance_plain c.args.model.now.table.now in
    let i = c.args.body.now.instance in
    let x = c.args.body.now.name.now in
    let j = c.in-Body.j in
    let e = plain c.in-Body.e.now in
    let there : local t i x ≡ body_of j e = search (rules, c.in-Body.ensures) in
    tried_is t (entries_seen c.args.model.now.numbers.now.bodies c.args.entries.now.items) i x j e c.in_ok-found-in-Body.found there c.requires.referred c.in_ok-found-in-Body.ensures
