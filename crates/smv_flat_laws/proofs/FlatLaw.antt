-- The flat form of an accepted model has the truth of the model.
use Rattle.std.proofs.Common.{◌≡◌, true, List, [], ◌∷◌, ◌++◌, refl}
use Rattle.std.specs.List.{list_all}
use Rattle.smv_meaning.specs.Instances.{instances_of}
use Rattle.smv_meaning.specs.Names.{found_in}
use Rattle.smv_meaning.specs.Checks.{passes}
use Rattle.smv_meaning.specs.Phases.{module_checks, declaration_checks, size_checks, later_checks, Assigned, is_assignable, assigned_checks, over_instances, assignment_checks}
use Rattle.smv_meaning.specs.Settled.{cycle_checks_of}
use Rattle.smv_meaning.specs.Checked.{path_checks_of, type_checks_of}
use Rattle.smv_meaning.specs.laws.Booleans.{both_true, two_true}
use Rattle.smv_laws.proofs.Ranked.{cycles_are_checked_law}
use Rattle.smv_laws.proofs.Typable.{split}
use Rattle.smv_laws.proofs.SafeExpressions.{accepted_is_checked_law}
use Rattle.smv_text.specs.declared.tree.When.TheVariants.{Always, First, Following}
use Rattle.smv_meaning.specs.Meaning.{denoted, reading}
use Rattle.smv_meaning.specs.Names.{steps_of}
use Rattle.smv_flat.specs.FlatForms.{forms_of}
use Rattle.smv_flat_laws.specs.FlatLaws.{SameTruth}
use Rattle.smv_flat_laws.proofs.FlatRows.{row_reads, has_items}
use Rattle.smv_flat_laws.proofs.FlatTruths.{AreRows, assignable, assigned_here, forms_same, state_meant, state_target, agrees_first, agrees_always, agrees_following}
use Rattle.smv_flat_laws.proofs.FlatSections.{modules_plain, instances_plain}
use Rattle.smv_flat_laws.proofs.FlatStays.{stays_same, invariants_match, match_at}
use Rattle.smv_flat.specs.FlatTruth.{forms_invariants}
use Rattle.smv_meaning.specs.Phases.{invariants_in}

pub all_assignable : (seen xs : List Assigned) → passes (assigned_checks seen xs) ≡ true → list_all assignable xs ≡ true
all_assignable seen [] h = refl
all_assignable seen (a ∷ xs) h =
    let s = both_true (is_assignable a.when a.target) _ h in
    let r = both_true _ (passes (assigned_checks (a ∷ seen) xs)) s.1 in
    two_true (is_assignable a.when a.target) (list_all assignable xs) s.0 (all_assignable (a ∷ seen) xs r.1)

pub same_truth_law : SameTruth
same_truth_law source end xs spelled needed accepted state label following other now later this next =
    let t = instances_of source in
    let checked = accepted_is_checked_law source needed accepted in
    let a = split (module_checks source ++ declaration_checks source.modules t 0 1 t ++ size_checks source ++ later_checks t) _ accepted in
    let b = split (module_checks source ++ declaration_checks source.modules t 0 1 t ++ size_checks source) (later_checks t) a.0 in
    let c = split (path_checks_of t ++ cycle_checks_of t ++ type_checks_of t) (assignment_checks (found_in t) t) b.1 in
    let targets = all_assignable [] (over_instances (assigned_here t) 0 t) c.1 in
    let rows : AreRows t state label following other now later = record { acyclic = (cycles_are_checked_law t).0 checked.cycles; this = this; next = next } in
    let first = agrees_first t state label following other now later rows in
    record {
      init = forms_same t First now later now (state_meant t state) (state_target t state) first 0 0 t checked.types targets;
      invar = forms_same t Always now later now (state_meant t state) (state_target t state) (agrees_always t state label following other now later rows) 0 0 t checked.types targets;
      trans = forms_same t Following now later later (λ i e. denoted (found_in t) (steps_of t) i e state label following) (λ i q. reading (found_in t) (steps_of t) following label i q)
          (agrees_following t state label following other now later rows) 0 0 t checked.types targets;
      stays = stays_same t state label following other (row_reads t now) (row_reads t later) now later (has_items t state label now this) (has_items t following other later next)
          (instances_plain source (modules_plain spelled.0));
      broken = λ j. match_at t now later state (forms_invariants (forms_of t)) (invariants_in t) j (invariants_match t now later now (state_meant t state) (state_target t state) first 0 0 t checked.types);
    }
