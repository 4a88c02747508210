use Rattle.std.proofs.Common.{◌≡◌, ℕ, drop, map}
use Rattle.smv_meaning.specs.Names.{walk, look}
use Rattle.smv_instances.specs.Leads.{until, IsWithin}
use Rattle.smv_instances.specs.View.{instance_plain}
use Rattle.smv_instances.proofs.leads.names_walk.Given as goal

abbrev pub invariant-loop-k : goal.invariant-loop-k
invariant-loop-k l = record {
  leads :
      (n : ℕ) → walk (look (map instance_plain l.parts) n) l.i l.names ≡ until l.depth n (walk (look (map instance_plain l.parts) n) l.at (drop l.k l.names));
  within : IsWithin l.leads l.depth;
}
