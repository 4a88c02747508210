-- The parts of the flat form of an accepted model's instances are of that model.
use Rattle.std.proofs.Common.{◌≡◌, ℕ, List, [], ◌∷◌, ◌++◌, map, nat_lt, length, None, sym, subst, ◌∙◌, ap}
use Rattle.std.specs.List.{AllByRecursion}
use Rattle.smv_text.specs.Tree.{PlainSource}
use Rattle.text_core.specs.declared.end.End.{End}
use Rattle.smv_meaning.specs.Checks.{first_failing, check, IsBad}
use Rattle.smv_meaning.specs.Checked.{path_checks_of, type_checks_of}
use Rattle.smv_meaning.specs.Instances.{Instance, instances_of}
use Rattle.smv_meaning.specs.Names.{found_in}
use Rattle.smv_meaning.specs.Phases.{declaration_checks, size_checks, assignment_checks, invariants_in, later_checks, checks_of, IsAccepted}
use Rattle.smv_meaning.specs.Settled.{cycle_checks_of}
use Rattle.smv_meaning.specs.laws.Composing.{both_pass}
use Rattle.smv_items.specs.Counts.{AreFew}
use Rattle.smv_items.specs.FlatItems.{PlainFlatItem, flat_item_of, origins_of, symbols_of}
use Rattle.smv_items.specs.FlatItemView.{item_plain}
use Rattle.smv_items.specs.laws.Counting as counting
use Rattle.smv_items.specs.laws.Declarations.{DiffersInside, all_declared}
use Rattle.smv_flat.specs.FlatForms.{Form, PlainFlat, flat_of, forms_of}
use Rattle.smv_flat.specs.FlatFormulas.{form_plain}
use Rattle.smv_flat_laws.specs.FlatOrders.{IsItemOrder}
use Rattle.smv_flat_laws.proofs.ItemOrders.{item_order_held}
use Rattle.smv_flatten.specs.FlatModel.{FlatModel, flat_plain, IsRead, AreOfModel, IsOrdered}
use Rattle.smv_flatten.specs.Phases.{early_checks}
use Rattle.smv_flatten.specs.laws.Composing.{all_hold, ends, ends_around, ends_behind}

-- instances of sizes that pass are few
pub few : (source : PlainSource) (t : List Instance) → IsRead source → first_failing (size_checks source) ≡ None → t ≡ instances_of source → AreFew t
few source t read h same =
    subst AreFew (sym same) (counting.are_few source read.end read.tokens read.spelled (all_hold (size_checks source) h))

-- and what each declares differs where declarations pass
pub differ : (source : PlainSource) (t : List Instance) → first_failing (declaration_checks source.modules (instances_of source) 0 1 (instances_of source)) ≡ None → t ≡ instances_of source → AllByRecursion DiffersInside t
differ source t h same =
    let all = instances_of source in
    subst (λ (t : List Instance). AllByRecursion DiffersInside t) (sym same) (all_declared source.modules all 0 1 all (all_hold (declaration_checks source.modules all 0 1 all) h))

-- the phases over instances, in their order
accepted_own : (source : PlainSource) (needed : ℕ) → first_failing (early_checks source) ≡ None → first_failing (path_checks_of (instances_of source)) ≡ None → first_failing (cycle_checks_of (instances_of source)) ≡ None
    → first_failing (type_checks_of (instances_of source)) ≡ None → first_failing (assignment_checks (found_in (instances_of source)) (instances_of source)) ≡ None
    → first_failing (check 27 source.end (nat_lt needed (length (invariants_in (instances_of source)))) ∷ []) ≡ None → IsAccepted source needed
accepted_own source needed early paths cycles types assigned last =
    let t = instances_of source in
    let named = path_checks_of t ++ cycle_checks_of t in
    let count = check 27 source.end (nat_lt needed (length (invariants_in t))) ∷ [] in
    let later = both_pass (named ++ type_checks_of t) (assignment_checks (found_in t) t) (both_pass named (type_checks_of t) (both_pass (path_checks_of t) (cycle_checks_of t) paths cycles) types) assigned in
    all_hold (checks_of source needed) (both_pass (early_checks source ++ later_checks t) count (both_pass (early_checks source) (later_checks t) early later) last)

-- a model of which no phase fails is accepted
pub accepted : (source : PlainSource) (needed : ℕ) (t : List Instance) → t ≡ instances_of source → first_failing (early_checks source) ≡ None → first_failing (path_checks_of t) ≡ None → first_failing (cycle_checks_of t) ≡ None → first_failing (type_checks_of t) ≡ None
    → first_failing (assignment_checks (found_in t) t) ≡ None → first_failing (check 27 source.end (nat_lt needed (length (invariants_in t))) ∷ []) ≡ None → IsAccepted source needed
accepted source needed t same early paths cycles types assigned last =
    accepted_own source needed early
    (subst (λ (t : List Instance). first_failing (path_checks_of t) ≡ None) same paths)
    (subst (λ (t : List Instance). first_failing (cycle_checks_of t) ≡ None) same cycles)
    (subst (λ (t : List Instance). first_failing (type_checks_of t) ≡ None) same types)
    (subst (λ (t : List Instance). first_failing (assignment_checks (found_in t) t) ≡ None) same assigned)
    (subst (λ (t : List Instance). first_failing (check 27 source.end (nat_lt needed (length (invariants_in t))) ∷ []) ≡ None) same last)

-- a refusal of the phases of paths and types, where that of cycles passes
pub refused_later : (source : PlainSource) (needed : ℕ) (t : List Instance) (e : End) → t ≡ instances_of source → first_failing (early_checks source) ≡ None → first_failing (cycle_checks_of t) ≡ None
    → IsBad e (first_failing (path_checks_of t ++ type_checks_of t)) → IsBad e (first_failing (checks_of source needed))
refused_later source needed t e same early cycles bad =
    let own = instances_of source in
    let count = check 27 source.end (nat_lt needed (length (invariants_in own))) ∷ [] in
    let here = subst (λ (t : List Instance). IsBad e (first_failing (path_checks_of t ++ cycle_checks_of t ++ type_checks_of t))) same (ends_around e (path_checks_of t) (cycle_checks_of t) (type_checks_of t) cycles bad) in
    let later = ends e (path_checks_of own ++ cycle_checks_of own ++ type_checks_of own) (assignment_checks (found_in own) own) here in
    ends e (early_checks source ++ later_checks own) count (ends_behind e (early_checks source) (later_checks own) early later)

pub are_of_model : (source : PlainSource) (needed : ℕ) → IsRead source → IsAccepted source needed → AreOfModel (instances_of source)
are_of_model source needed read accepted f form width weight invariants =
    ∣ record { source = source; needed = needed; read = read; accepted = accepted; form = form; width = width; weight = weight; invariants = invariants } ∣₁

-- a flat form of these items, symbols and formulas
abbrev flat : List PlainFlatItem → List (List ℕ) → List Form → PlainFlat
flat items symbols forms = record { items = items; symbols = symbols; forms = forms }

pub parts_are : (t : List Instance) (f : FlatModel) → map item_plain f.items ≡ map (flat_item_of t) (origins_of t) → f.symbols ≡ symbols_of t → map form_plain f.formulas ≡ forms_of t → flat_plain f ≡ flat_of t
parts_are t f items symbols forms =
    ap (λ is. flat is f.symbols (map form_plain f.formulas)) items ∙ ap (λ ys. flat (map (flat_item_of t) (origins_of t)) ys (map form_plain f.formulas)) symbols
    ∙ ap (flat (map (flat_item_of t) (origins_of t)) (symbols_of t)) forms

-- ---- its order

pub ordered : (f : FlatModel) (flat : PlainFlat) (order ks : List ℕ) → IsItemOrder flat order → flat_plain f ≡ flat → ks ≡ order → ∥ IsOrdered f ks ∥₁
ordered f flat order ks o e is = ∣ subst (λ (x : PlainFlat). IsItemOrder x ks) (sym e) (subst (IsItemOrder flat) (sym is) o) ∣₁

pub order_held : (f : FlatModel) (order ks : List ℕ) → ∥ IsOrdered f order ∥₁ → ks ≡ order → IsOrdered f ks
order_held f order ks h is = subst (IsOrdered f) (sym is) (item_order_held (flat_plain f) order h)
