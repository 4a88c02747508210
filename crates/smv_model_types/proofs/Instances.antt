-- The pass over a model's instances: what remains completes what is asked of all of them.
use Rattle.std.proofs.Common.{◌≡◌, true, ℕ, ◌+◌, List, [], ◌∷◌, ◌++◌, length, map, option_map, append_assoc, None, refl, sym, ap, ◌∙◌, subst}
use Rattle.std.proofs.lemmas.List.{length-append, length-map, map-append}
use Rattle.smv_meaning.specs.Checks.{first_failing}
use Rattle.smv_meaning.specs.Instances.{Instance}
use Rattle.smv_meaning.specs.Names.{found_in}
use Rattle.smv_meaning.specs.Phases.{path_checks, type_checks, names_in, over_instances}
use Rattle.smv_meaning.specs.laws.Composing.{goes}
use Rattle.smv_intervals.specs.View.{seen}
use Rattle.smv_items.specs.FlatItems.{Origin, content_type, items_here, origins_of}
use Rattle.smv_flat.specs.FlatForms.{forms_here, forms_from, forms_of}
use Rattle.smv_flat.specs.FlatFormulas.{form_plain}
use Rattle.smv_model_types.specs.declared.built.Building.{Building}
use Rattle.smv_model_types.specs.Kept.{AreKept, Stand}
use Rattle.smv_model_types.specs.Building.{assigned_here, InstanceAdds, Finds, IsReady}
use Rattle.smv_model_types.proofs.KeptLemmas.{stand_back, stand_whole}
use Rattle.smv_model_types.proofs.Ready.{ready_first}

pub record Passes (t : List Instance) (i : ℕ) (rest : List Instance) (now : Building) : Type 0 where
  pub checks : first_failing (over_instances (type_checks (names_in t)) i rest) ≡ first_failing (over_instances (type_checks (names_in t)) 0 t)
  pub ready : IsReady t (over_instances items_here i rest) now
  pub types : map (option_map seen) now.types.items ++ map (λ (m : Origin). content_type t m.content) (over_instances items_here i rest) ≡ map (λ (m : Origin). content_type t m.content) (origins_of t)
  pub forms : map form_plain now.forms.items ++ forms_from t (length now.types.items) i rest ≡ forms_of t
  pub none : now.rest.items ≡ []
  pub assigned : now.assigned.items ++ over_instances (assigned_here t) i rest ≡ over_instances (assigned_here t) 0 t
  pub found : now.all_found ≡ true → first_failing (over_instances (path_checks (found_in t)) 0 t) ≡ first_failing (over_instances (path_checks (found_in t)) i rest)

pub passes_start : (t : List Instance) (now : Building) → now.types.items ≡ [] → now.forms.items ≡ [] → now.rest.items ≡ [] → now.assigned.items ≡ [] → AreKept t now.kept.items → Passes t 0 t now
passes_start t now types forms rest assigned kept = record {
  checks = refl;
  ready = record { kept = kept; items = subst (λ k. Stand (origins_of t) k (origins_of t)) (sym (ap length types)) (stand_whole (origins_of t)) };
  types = ap (λ xs. map (option_map seen) xs ++ map (λ (m : Origin). content_type t m.content) (origins_of t)) types;
  forms = ap (λ xs. map form_plain xs ++ forms_from t (length now.types.items) 0 t) forms ∙ ap (λ xs. forms_from t (length xs) 0 t) types;
  none = rest;
  assigned = ap (λ xs. xs ++ over_instances (assigned_here t) 0 t) assigned;
  found = λ e. refl;
}

pub passes_ready : (t : List Instance) (i : ℕ) (at : Instance) (rest : List Instance) (now : Building) → Passes t i (at ∷ rest) now → IsReady t (items_here i at) now
passes_ready t i at rest now h = ready_first t (items_here i at) (over_instances items_here (i + 1) rest) now h.ready

pub passes_step : (t : List Instance) (i : ℕ) (at : Instance) (rest : List Instance) (now next : Building) → Passes t i (at ∷ rest) now → first_failing (type_checks (names_in t) i at) ≡ None → InstanceAdds t i at now next → Finds (path_checks (found_in t) i at) now next → Passes t (i + 1) rest next
passes_step t i at rest now next h c a n =
    let type = λ (m : Origin). content_type t m.content in
    let here = items_here i at in
    let more = over_instances items_here (i + 1) rest in
    let l : length next.types.items ≡ length now.types.items + length here =
    sym (length-map next.types.items (option_map seen)) ∙ ap length a.types ∙ length-append (map (option_map seen) now.types.items) (map type here)
    ∙ ap (λ n. n + length (map type here)) (length-map now.types.items (option_map seen)) ∙ ap (λ n. length now.types.items + n) (length-map here type) in
    record {
      checks = sym (goes (type_checks (names_in t) i at) (over_instances (type_checks (names_in t)) (i + 1) rest) c) ∙ h.checks;
      ready = record { kept = a.kept h.ready.kept; items = subst (λ k. Stand (origins_of t) k more) (sym l) (stand_back (origins_of t) (length now.types.items) here more h.ready.items) };
      types =
          ap (λ ts. ts ++ map type more) a.types ∙ append_assoc (map (option_map seen) now.types.items) (map type here) (map type more)
          ∙ ap (λ ts. map (option_map seen) now.types.items ++ ts) (sym (map-append type here more)) ∙ h.types;
      forms =
          ap (λ n. map form_plain next.forms.items ++ forms_from t n (i + 1) rest) l
          ∙ ap (λ fs. fs ++ forms_from t (length now.types.items + length here) (i + 1) rest) a.forms
          ∙ append_assoc (map form_plain now.forms.items) (forms_here t (length now.types.items) i at) (forms_from t (length now.types.items + length here) (i + 1) rest) ∙ h.forms;
      none = a.rest;
      assigned =
          ap (λ xs. xs ++ over_instances (assigned_here t) (i + 1) rest) a.assigned
          ∙ append_assoc now.assigned.items (assigned_here t i at) (over_instances (assigned_here t) (i + 1) rest) ∙ h.assigned;
      found = λ e. let s = n e in h.found s.0 ∙ goes (path_checks (found_in t) i at) (over_instances (path_checks (found_in t)) (i + 1) rest) s.1;
    }
