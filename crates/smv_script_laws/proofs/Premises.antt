-- What an accepted model that a text spells gives of all its instances.
use Rattle.std.proofs.Common.{◌≡◌, ℕ, zero, ◌+◌, ◌≤◌, max, true, List, [], ◌++◌, ap, arith}
use Rattle.std.specs.Prelude.{slice_get}
use Rattle.std.specs.List.{AllByRecursion}
use Rattle.text_core.specs.declared.place.Place.{Place}
use Rattle.smv_text.specs.declared.token.Token.{Token}
use Rattle.smv_text.specs.Lexing.{Lexes}
use Rattle.smv_text.specs.Sources.{SpellsSource}
use Rattle.smv_text.specs.Tree.{PlainSource}
use Rattle.smv_meaning.specs.Instances.{Instance, instances_of}
use Rattle.smv_meaning.specs.Names.{found_in}
use Rattle.smv_meaning.specs.Checks.{passes}
use Rattle.smv_meaning.specs.Phases.{module_checks, declaration_checks, size_checks, later_checks, over_instances, type_checks, assignment_checks, IsAccepted}
use Rattle.smv_meaning.specs.Settled.{types_in, cycle_checks_of}
use Rattle.smv_meaning.specs.Checked.{path_checks_of, type_checks_of}
use Rattle.smv_laws.proofs.CheckedLaws.{checked_at, all_given, all_typed}
use Rattle.smv_laws.proofs.Ranked.{cycles_are_checked_law}
use Rattle.smv_laws.proofs.SafeExpressions.{accepted_is_checked_law}
use Rattle.smv_laws.proofs.Typable.{split}
use Rattle.smv_items.specs.FlatItems.{origins_of}
use Rattle.smv_flat.specs.FlatForms.{forms_of, flat_of, flat_smv}
use Rattle.smv_flat_laws.proofs.FlatLaw.{all_assignable}
use Rattle.smv_flat_laws.proofs.FlatTruths.{assigned_here}
use Rattle.smv_flat.specs.FlatWidth.{items_width, width_of}
use Rattle.smv_width.specs.SourceWidth.{greatest, instance_widths}
use Rattle.smv_width.proofs.ModelWidths.{same_model_width}
use Rattle.smv_width.proofs.SpelledWidths.{instances_operators}
use Rattle.smv_accepted.proofs.Literals.{words_fit_law}
use Rattle.smv_script_laws.proofs.Forms.{Ready, OriginGood, FormGood, instances_good}

-- of a model all of whose integers have so many digits
pub record Known (t : List Instance) (w : ℕ) : Type 0 where
  pub ready : Ready t
  pub types : passes (over_instances (type_checks (types_in true t)) 0 t) ≡ true
  pub some : 1 ≤ w
  pub items : items_width (flat_of t).items ≤ w
  pub bodies : AllByRecursion (OriginGood t w) (origins_of t)
  pub forms : AllByRecursion (FormGood t w) (forms_of t)

pub known : (source : PlainSource) (end : Place) (text : List ℕ) (xs : List Token) → Lexes text xs → SpellsSource source end xs → (needed : ℕ) → IsAccepted source needed
    → (w : ℕ) → width_of (flat_smv source) ≤ w → Known (instances_of source) w
known source end text xs lexed spelled needed accepted w wide =
    let t = instances_of source in
    let checked = accepted_is_checked_law source needed accepted in
    let a = split (module_checks source ++ declaration_checks source.modules t 0 1 t ++ size_checks source ++ later_checks t) _ accepted in
    let b = split (module_checks source ++ declaration_checks source.modules t 0 1 t ++ size_checks source) (later_checks t) a.0 in
    let c = split (path_checks_of t ++ cycle_checks_of t ++ type_checks_of t) (assignment_checks (found_in t) t) b.1 in
    let targets = all_assignable [] (over_instances (assigned_here t) 0 t) c.1 in
    let acyclic = (cycles_are_checked_law t).0 checked.cycles in
    let each = checked_at t checked (words_fit_law source end text xs lexed spelled) in
    let ready : Ready t = record { acyclic = acyclic; typed = all_typed t acyclic (all_given t each); checked = each } in
    let same : width_of (flat_smv source) ≡ max 1 (greatest (over_instances (instance_widths t) 0 t)) = same_model_width source end xs spelled needed accepted in
    let narrow : greatest (over_instances (instance_widths t) 0 t) ≤ w = omega (arith, same, wide) in
    let g = instances_good t w 0 0 t ready (λ n. let s : zero + n ≡ n = omega arith in ap (slice_get t) s) (instances_operators source xs spelled.0) narrow targets in
    record { ready = ready; types = checked.types; some = omega (arith, wide); items = omega (arith, wide); bodies = g.0; forms = g.1 }
