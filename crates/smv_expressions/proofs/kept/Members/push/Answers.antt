use Rattle.std.proofs.Common.{◌∷◌, [], map, ap, arith, rules}
use Rattle.std.proofs.lemmas.List.{map-append}
use Rattle.smv_text.specs.Heights.{height, highest}
use Rattle.smv_expressions.proofs.Capping.{highest-push}
use Rattle.smv_expressions.proofs.Keeping.{read_low, read_height, one_more_member}
use Rattle.smv_expressions.proofs.kept.Members.push.Goals as goal

pub returns-clause-made : goal.returns-clause-made
returns-clause-made c ts t h is = record {
  trees = one_more_member c.args.self.now.exprs.items c.push.new.self.items c.args.member.expr ts t (search rules) h.trees (read_low c.args.member t is);
  highest = omega (arith, ap highest (map-append height ts (t ∷ [])), highest-push (map height ts) (height t), c.higher-self.ensures, h.highest, read_height c.args.member t is);
}
