-- Steps of making the table of instances.
use Rattle.std.proofs.Common.{◌≡◌, ℕ, ◌+◌, ◌<◌, List, map, drop, length, sum_by, refl, ap, ◌∙◌}
use Rattle.std.specs.Prelude.{slice_index_or}
use Rattle.smv_text.specs.View.{plain_element}
use Rattle.smv_instances.specs.declared.instances.Instance.{Instance as PartOf}
use Rattle.smv_meaning.specs.Names.{definitions_in, steps_of}
use Rattle.smv_instances.specs.View.{instance_plain}
use Rattle.smv_meaning.specs.laws.Lists.{front_is}
use Rattle.std.proofs.lemmas.List.Sums.{sum_by-cons}
use Rattle.smv_text.specs.View.{plain_module}
use Rattle.smv_instances.specs.NameCounts.{stored_names_of}
use Rattle.smv_instances.specs.laws.NameLemmas.{steps_front}

-- the definitions and actuals from an instance on
pub steps_on : (ts : List PartOf) (i : ℕ) (p : PartOf) → i < length ts → p ≡ slice_index_or ts i p
    → steps_of (map instance_plain (drop i ts)) ≡ sum_by definitions_in (map plain_element p.module.now.elements) + length p.actuals.now + steps_of (map instance_plain (drop (i + 1) ts))
steps_on ts i p h is = steps_front (drop i ts) p (drop (i + 1) ts) (front_is ts i (length ts) p refl h is)

-- the names of an instance that have rows and those of the later ones
pub stored_names_on : (ts : List PartOf) (i : ℕ) (p : PartOf) → i < length ts → p ≡ slice_index_or ts i p
    → sum_by (λ at. stored_names_of at.«module») (map instance_plain (drop i ts)) ≡ stored_names_of (plain_module p.module.now) + sum_by (λ at. stored_names_of at.«module») (map instance_plain (drop (i + 1) ts))
stored_names_on ts i p h is =
    ap (λ l. sum_by (λ at. stored_names_of at.«module») (map instance_plain l)) (front_is ts i (length ts) p refl h is) ∙ sum_by-cons (λ at. stored_names_of at.«module») (instance_plain p) (map instance_plain (drop (i + 1) ts))
