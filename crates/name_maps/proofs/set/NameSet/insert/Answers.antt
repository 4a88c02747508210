use Rattle.std.proofs.Common.{◌≡◌, IfOk, is_none, subst, sym, refl, ◌∙◌}
use Rattle.name_maps.specs.Names.{place_of}
use Rattle.name_maps.proofs.KeyLaws.{fresh_name}
use Rattle.name_maps.proofs.set.NameSet.insert.Goals as goal
use Rattle.name_maps.proofs.set.NameSet.insert.Goals.{in-Ok, in-Err}

pub returns-clause-fresh : goal.returns-clause-fresh
returns-clause-fresh c =
    elim c.match-insert_full.branch [
      | in-Ok w ↦ subst (λ r. IfOk r (λ fresh. fresh ≡ is_none (place_of c.args.self.now c.args.key.name))) (sym w.result-is)
          (w.in-Ok.ensures.added ∙ fresh_name c.args.self.now c.args.key.name c.self.inside.names.keys c.args.key c.self.view_is refl)
      | in-Err w ↦ subst (λ r. IfOk r (λ fresh. fresh ≡ is_none (place_of c.args.self.now c.args.key.name))) (sym w.result-is) tt
    ]
