-- Assignments by the numbers of items have the same first failing check as by dotted paths.
use Rattle.std.proofs.Common.{◌≡◌, ℕ, ◌+◌, Bool, true, false, not, ◌==◌, ◌&&◌, ◌||◌, if◌then◌else◌, List, [], ◌∷◌, ◌++◌, map, flat_map, position, Some, None, is_some, bytes_eq, refl, sym, ap, ◌∙◌, subst}
use mathlib.Core.Path.{fun_ext}
use Rattle.std.specs.List.{slice_get, list_any}
use Rattle.std.proofs.lemmas.Bool.{eqb-true, eq-eqb, false≢true}
use Rattle.std.proofs.lemmas.List.{map-append}
use Rattle.std.proofs.lemmas.Slice.Eq.{bytes_eq-Decides}
use Rattle.smv_text.specs.declared.tree.VarKind.{VarKind}
use Rattle.smv_text.specs.declared.tree.VarKind.TheVariants as OfVarKind
use Rattle.smv_text.specs.declared.tree.When.{When}
use Rattle.smv_text.specs.declared.tree.When.TheVariants.{Always}
use Rattle.smv_text.specs.Tree.{PlainDomain, PlainAssignment, PlainElement, vars, defines, constants, assigns, init, trans, invar, spec}
use Rattle.smv_meaning.specs.Instances.{Instance}
use Rattle.smv_meaning.specs.Names.{Found, variable_at, body_at, instance_at, symbol_of, cyclic, none, found_in}
use Rattle.smv_meaning.specs.Meaning.{is_input}
use Rattle.smv_meaning.specs.Checks.{check, first_failing}
use Rattle.smv_meaning.specs.Phases.{Assigned, element_assigns, when_same, is_assignable, variable_same, clashes, assigned_checks, assignment_checks, over_instances}
use Rattle.smv_items.specs.FlatItems.{Content, variable, definition, actual, Origin, item_leaf, leaf_found, is_item, is_variable_as, path_of, origins_of}
use Rattle.smv_flat.specs.FlatForms.{number_or_first}
use Rattle.smv_flat_laws.proofs.FlatPlaces.{At}
use Rattle.smv_flat_laws.proofs.FlatFound.{Home, home_found, variable_at_item, both}
use Rattle.smv_names.specs.declared.assignments.NumberedAssignment.{NumberedAssignment}
use Rattle.smv_names.specs.Assigning.{item_same, numbered_clash, numbered_checks}
use Rattle.smv_model_types.specs.Building.{numbered_of, assigned_in, assigned_here}

-- ---- numbers of variables

abbrev number_of : List Instance → Found → ℕ
number_of t m = number_or_first (leaf_found t m)

-- a variable is the first item that has its dotted path
variable_placed : (t : List Instance) (x : List ℕ) (kind : VarKind) (d : PlainDomain) → Home t (variable_at x kind d) → At (is_item t (variable_at x kind d)) (λ m. Some true) (origins_of t) true
variable_placed t x kind d h = subst (λ y. At (is_item t (variable_at y kind d)) (λ m. Some true) (origins_of t) true) (sym h.2) (variable_at_item t h.0 h.1 kind d h.3)

-- the variables that are no inputs are found by one test
kinds_alike : (k l : VarKind) → is_input k ≡ false → is_input l ≡ false → (c : Content) → is_variable_as k c ≡ is_variable_as l c
kinds_alike OfVarKind.State OfVarKind.State a b c = refl
kinds_alike OfVarKind.Frozen OfVarKind.Frozen a b c = refl
kinds_alike OfVarKind.State OfVarKind.Frozen a b (variable kind d) = refl
kinds_alike OfVarKind.State OfVarKind.Frozen a b (definition j e) = refl
kinds_alike OfVarKind.State OfVarKind.Frozen a b (actual j e) = refl
kinds_alike OfVarKind.Frozen OfVarKind.State a b (variable kind d) = refl
kinds_alike OfVarKind.Frozen OfVarKind.State a b (definition j e) = refl
kinds_alike OfVarKind.Frozen OfVarKind.State a b (actual j e) = refl
kinds_alike OfVarKind.Input l a b c = absurd (false≢true (sym a))
kinds_alike OfVarKind.State OfVarKind.Input a b c = absurd (false≢true (sym b))
kinds_alike OfVarKind.Frozen OfVarKind.Input a b c = absurd (false≢true (sym b))

-- two variables that are no inputs have the same number exactly where they have the same dotted path
numbers_same : (t : List Instance) (x y : List ℕ) (k l : VarKind) (d e : PlainDomain) → is_input k ≡ false → is_input l ≡ false → Home t (variable_at x k d) → Home t (variable_at y l e)
    → (number_of t (variable_at x k d) == number_of t (variable_at y l e)) ≡ bytes_eq x y
numbers_same t x y k l d e a b h g = by (number_of t (variable_at x k d) == number_of t (variable_at y l e)) refl (bytes_eq x y) refl
  where
    one : At (is_item t (variable_at x k d)) (λ m. Some true) (origins_of t) true
    one = variable_placed t x k d h

    other : At (is_item t (variable_at y l e)) (λ m. Some true) (origins_of t) true
    other = variable_placed t y l e g

    numbers : number_of t (variable_at x k d) ≡ number_of t (variable_at y l e) → one.k ≡ other.k
    numbers s = sym (ap (λ o. number_or_first (item_leaf o)) one.placed) ∙ s ∙ ap (λ o. number_or_first (item_leaf o)) other.placed

    paths : one.k ≡ other.k → x ≡ y
    paths s =
        let same : Some one.x ≡ Some other.x = sym one.there ∙ ap (slice_get (origins_of t)) s ∙ other.there in
        let ms : one.x ≡ other.x = cc in
        sym ((bytes_eq-Decides (path_of t one.x) x).0 (both (is_variable_as k one.x.content) (bytes_eq (path_of t one.x) x) one.holds).1)
        ∙ ap (path_of t) ms ∙ (bytes_eq-Decides (path_of t other.x) y).0 (both (is_variable_as l other.x.content) (bytes_eq (path_of t other.x) y) other.holds).1

    alike : x ≡ y → number_of t (variable_at x k d) ≡ number_of t (variable_at y l e)
    alike s =
        ap (λ (p : Origin → Bool). number_or_first (item_leaf (position p (origins_of t))))
        (fun_ext (λ m. ap (λ c. c && bytes_eq (path_of t m) x) (kinds_alike k l a b m.content) ∙ ap (λ z. is_variable_as l m.content && bytes_eq (path_of t m) z) s))

    by : (p : Bool) → (number_of t (variable_at x k d) == number_of t (variable_at y l e)) ≡ p → (q : Bool) → bytes_eq x y ≡ q → p ≡ q
    by true s true r = refl
    by false s false r = refl
    by true s false r = absurd (false≢true (sym r ∙ (bytes_eq-Decides x y).1 (paths (numbers (eqb-true (number_of t (variable_at x k d)) (number_of t (variable_at y l e)) s)))))
    by false s true r = absurd (false≢true (sym s ∙ eq-eqb (number_of t (variable_at x k d)) (number_of t (variable_at y l e)) (alike ((bytes_eq-Decides x y).0 r))))

-- ---- two assignments

no_input : (when : When) (x : List ℕ) (kind : VarKind) (d : PlainDomain) → is_assignable when (variable_at x kind d) ≡ true → is_input kind ≡ false
no_input when x OfVarKind.State d h = refl
no_input when x OfVarKind.Frozen d h = refl
no_input when x OfVarKind.Input d h = absurd (false≢true h)

targets_same : (t : List Instance) (v w : When) (m n : Found) → Home t m → Home t n → is_assignable v m ≡ true → is_assignable w n ≡ true → (number_of t m == number_of t n) ≡ variable_same m n
targets_same t v w (variable_at x k d) (variable_at y l e) h g a b = numbers_same t x y k l d e (no_input v x k d a) (no_input w y l e b) h g
targets_same t v w (variable_at x k d) (body_at i y j e) h g a b = absurd (false≢true b)
targets_same t v w (variable_at x k d) (instance_at i) h g a b = absurd (false≢true b)
targets_same t v w (variable_at x k d) (symbol_of y) h g a b = absurd (false≢true b)
targets_same t v w (variable_at x k d) cyclic h g a b = absurd (false≢true b)
targets_same t v w (variable_at x k d) none h g a b = absurd (false≢true b)
targets_same t v w (body_at i y j e) n h g a b = absurd (false≢true a)
targets_same t v w (instance_at i) n h g a b = absurd (false≢true a)
targets_same t v w (symbol_of y) n h g a b = absurd (false≢true a)
targets_same t v w cyclic n h g a b = absurd (false≢true a)
targets_same t v w none n h g a b = absurd (false≢true a)

-- the target is what its own instance declares, and can be assigned
abbrev CanBe : List Instance → Assigned → Type 0
CanBe t a = Home t a.target × (is_assignable a.when a.target ≡ true)

clash_same : (t : List Instance) (a b : Assigned) → CanBe t a → CanBe t b → numbered_clash (numbered_of t a) (numbered_of t b) ≡ clashes a b
clash_same t a b h g =
    let rest = when_same a.when b.when || when_same a.when Always || when_same b.when Always in
    ap (λ c. item_same (if c then Some (number_of t a.target) else None) (if is_assignable b.when b.target then Some (number_of t b.target) else None) && rest) h.1
    ∙ ap (λ c. item_same (Some (number_of t a.target)) (if c then Some (number_of t b.target) else None) && rest) g.1
    ∙ ap (λ c. c && rest) (targets_same t a.when b.when a.target b.target h.0 g.0 h.1 g.1)

abbrev AllCanBe : List Instance → List Assigned → Type 0
AllCanBe t [] = Unit {0}
AllCanBe t (a ∷ xs) = CanBe t a × AllCanBe t xs

clashes_same : (t : List Instance) (a : Assigned) (seen : List Assigned) → CanBe t a → AllCanBe t seen → list_any (numbered_clash (numbered_of t a)) (map (numbered_of t) seen) ≡ list_any (clashes a) seen
clashes_same t a [] h g = refl
clashes_same t a (b ∷ seen) h g =
    ap (λ c. c || list_any (numbered_clash (numbered_of t a)) (map (numbered_of t) seen)) (clash_same t a b h g.0)
    ∙ ap (λ c. clashes a b || c) (clashes_same t a seen h g.1)

-- ---- all of them

abbrev AreHomes : List Instance → List Assigned → Type 0
AreHomes t [] = Unit {0}
AreHomes t (a ∷ xs) = Home t a.target × AreHomes t xs

checks_same : (t : List Instance) (seen xs : List Assigned) → AllCanBe t seen → AreHomes t xs → first_failing (numbered_checks (map (numbered_of t) seen) (map (numbered_of t) xs)) ≡ first_failing (assigned_checks seen xs)
checks_same t seen [] h g = refl
checks_same t seen (a ∷ xs) h g = by (λ s. checks_same t (a ∷ seen) xs ((g.0, s), h) g.1) (is_assignable a.when a.target) refl
  where
    by : (is_assignable a.when a.target ≡ true → first_failing (numbered_checks (map (numbered_of t) (a ∷ seen)) (map (numbered_of t) xs)) ≡ first_failing (assigned_checks (a ∷ seen) xs))
        → (b : Bool) → is_assignable a.when a.target ≡ b
        → first_failing (check 22 a.place (is_some (if b then Some (number_of t a.target) else None)) ∷ check 21 a.place (not (list_any (numbered_clash (numbered_of t a)) (map (numbered_of t) seen))) ∷ numbered_checks (map (numbered_of t) (a ∷ seen)) (map (numbered_of t) xs))
        ≡ first_failing (check 22 a.place b ∷ check 21 a.place (not (list_any (clashes a) seen)) ∷ assigned_checks (a ∷ seen) xs)
    by ih true s =
        ap (λ c. if not c then first_failing (numbered_checks (map (numbered_of t) (a ∷ seen)) (map (numbered_of t) xs)) else Some (check 21 a.place false).refusal) (clashes_same t a seen (g.0, s) h)
        ∙ ap (λ r. if not (list_any (clashes a) seen) then r else Some (check 21 a.place false).refusal) (ih s)
    by ih false s = refl

homes_joined : (t : List Instance) (xs ys : List Assigned) → AreHomes t xs → AreHomes t ys → AreHomes t (xs ++ ys)
homes_joined t [] ys h g = g
homes_joined t (a ∷ xs) ys h g = (h.0, homes_joined t xs ys h.1 g)

assignments_home : (t : List Instance) (i : ℕ) (xs : List PlainAssignment) → AreHomes t (map (assigned_in t i) xs)
assignments_home t i [] = tt
assignments_home t i (a ∷ xs) = (home_found t i a.target, assignments_home t i xs)

element_home : (t : List Instance) (i : ℕ) (e : PlainElement) → AreHomes t (element_assigns (found_in t) i e)
element_home t i (assigns xs) = assignments_home t i xs
element_home t i (vars kind items) = tt
element_home t i (defines ds) = tt
element_home t i (constants cs) = tt
element_home t i (init e) = tt
element_home t i (trans e) = tt
element_home t i (invar e) = tt
element_home t i (spec l e) = tt

elements_home : (t : List Instance) (i : ℕ) (es : List PlainElement) → AreHomes t (flat_map (element_assigns (found_in t) i) es)
elements_home t i [] = tt
elements_home t i (e ∷ es) = homes_joined t (element_assigns (found_in t) i e) (flat_map (element_assigns (found_in t) i) es) (element_home t i e) (elements_home t i es)

abbrev assigns_here : List Instance → ℕ → Instance → List Assigned
assigns_here t i at = flat_map (element_assigns (found_in t) i) at.module.elements

all_home : (t : List Instance) (i : ℕ) (rest : List Instance) → AreHomes t (over_instances (assigns_here t) i rest)
all_home t i [] = tt
all_home t i (at ∷ rest) = homes_joined t (assigns_here t i at) (over_instances (assigns_here t) (i + 1) rest) (elements_home t i at.module.elements) (all_home t (i + 1) rest)

all_numbered : (t : List Instance) (i : ℕ) (rest : List Instance) → over_instances (assigned_here t) i rest ≡ map (numbered_of t) (over_instances (assigns_here t) i rest)
all_numbered t i [] = refl
all_numbered t i (at ∷ rest) =
    ap (λ xs. assigned_here t i at ++ xs) (all_numbered t (i + 1) rest)
    ∙ sym (map-append (numbered_of t) (assigns_here t i at) (over_instances (assigns_here t) (i + 1) rest))

-- the assignments of a model with the numbers of their items
pub numbered_same : (t : List Instance) (xs : List NumberedAssignment) → xs ≡ over_instances (assigned_here t) 0 t → first_failing (numbered_checks [] xs) ≡ first_failing (assignment_checks (found_in t) t)
numbered_same t xs e =
    ap (λ ys. first_failing (numbered_checks [] ys)) (e ∙ all_numbered t 0 t) ∙ checks_same t [] (over_instances (assigns_here t) 0 t) tt (all_home t 0 t)
