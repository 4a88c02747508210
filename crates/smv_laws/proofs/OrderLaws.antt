-- The graph of references stands for what refers to what.
use Rattle.std.proofs.Common.{◌≡◌, ℕ, zero, suc, ◌+◌, ◌<◌, ◌≤◌, Bool, true, false, ◌&&◌, ◌||◌, ◌==◌, nat_lt, cond, if◌then◌else◌, List, [], ◌∷◌, ◌++◌, map, length, Some, None, refl, sym, ap, ◌∙◌, arith, rules}
use Rattle.std.specs.Prelude.{slice_index_or, unwrap_or, flat_map}
use Rattle.std.specs.List.{list_all, list_any, position_or_len}
use mathlib.Core.Logic.{◌⊎◌, inl, inr}
use Rattle.std.proofs.lemmas.Bool.Decides.{eqb_tells}
use Rattle.std.proofs.lemmas.List.{length-map, get_or-map, map-append}
use Rattle.std.proofs.lemmas.List.Recursion.{is_position_or_len}
use Rattle.digraph.specs.Graph.{NodeLists, next_of, is_graph, leads, NeverReturns}
use Rattle.smv_text.specs.declared.tree.Parameter.{Parameter}
use Rattle.smv_text.specs.Tree.{Trees, no_trees, tree, PlainElement, vars, defines, constants, assigns, init, trans, invar, spec}
use Rattle.smv_meaning.specs.Instances.{Instance}
use Rattle.smv_meaning.specs.Names.{local, look, steps_of}
use Rattle.smv_meaning.specs.Checks.{Check, first_failing}
use Rattle.smv_meaning.specs.Phases.{Body, body_same, refers, reaches, cycle_check, actual_cycles, element_cycles, cycle_checks, over_instances, place_of}
use Rattle.smv_meaning.specs.Settled.{has_body, Acyclic, cycle_checks_of}
use Rattle.smv_meaning.specs.Bodies.{Placed, actual_bodies, placed_definition, element_bodies, bodies_here, placed_bodies, bodies_of, number_or, references_of, reference_graph}
use Rattle.smv_laws.proofs.Cycles.{In, same_is, same_self}
use Rattle.smv_laws.proofs.Ranked.{key, actual_keys, element_keys, keys_in, keys_of, in_keys, within_keys, no_reference, reaches_none, cycles_are_checked_law}
use Rattle.text_core.proofs.Truths.{bool_cases}

-- ---- numbers

-- the place of the first equal one, or the length
abbrev pub place : List Body → Body → ℕ
place [] k = 0
place (x ∷ xs) k = cond (body_same x k) 0 (1 + place xs k)

abbrev pub nobody : Body
nobody = (0, [])

place_here : (x k : Body) (xs : List Body) → body_same x k ≡ true → place (x ∷ xs) k ≡ 0
place_here x k xs e = ap (λ b. cond b 0 (1 + place xs k)) e

place_there : (x k : Body) (xs : List Body) → body_same x k ≡ false → place (x ∷ xs) k ≡ 1 + place xs k
place_there x k xs e = ap (λ b. cond b 0 (1 + place xs k)) e

different : (x k : Body) → body_same x k ≡ false → k ≡ x → ⊥
different x k h e = let s : body_same x k ≡ true = ap (body_same x) e ∙ same_self x in cc

pub place_within : (ks : List Body) (k : Body) → In k ks → place ks k < length ks
place_within (x ∷ xs) k h =
    elim (bool_cases (body_same x k)) [
      | inl e ↦ omega (arith, place_here x k xs e)
      | inr e ↦ elim h [
        | inl s ↦ absurd (different x k e s)
        | inr m ↦ omega (arith, place_there x k xs e, place_within xs k m)
      ]
    ]
place_within [] k h = absurd h

pub place_is : (ks : List Body) (k : Body) → In k ks → slice_index_or ks (place ks k) nobody ≡ k
place_is [] k h = absurd h
place_is (x ∷ xs) k h =
    elim (bool_cases (body_same x k)) [
      | inl e ↦ ap (λ n. slice_index_or (x ∷ xs) n nobody) (place_here x k xs e) ∙ same_is x k e
      | inr e ↦ elim h [
        | inl s ↦ absurd (different x k e s)
        | inr m ↦ let far : place (x ∷ xs) k ≡ suc (place xs k) = omega (arith, place_there x k xs e) in ap (λ n. slice_index_or (x ∷ xs) n nobody) far ∙ place_is xs k m
      ]
    ]

-- an element is at its place or behind it
pub place_first : (ks : List Body) (a : ℕ) → a < length ks → place ks (slice_index_or ks a nobody) ≤ a
place_first [] a l = absurd (omega (arith, l))
place_first (x ∷ xs) zero l = omega (arith, place_here x x xs (same_self x))
place_first (x ∷ xs) (suc a) l =
    elim (bool_cases (body_same x (slice_index_or xs a nobody))) [
      | inl e ↦ omega (arith, place_here x (slice_index_or xs a nobody) xs e)
      | inr e ↦ omega (arith, place_there x (slice_index_or xs a nobody) xs e, place_first xs a (omega (arith, l)))
    ]

pub at_in : (ks : List Body) (a : ℕ) → a < length ks → In (slice_index_or ks a nobody) ks
at_in [] a l = absurd (omega (arith, l))
at_in (x ∷ xs) zero l = inl refl
at_in (x ∷ xs) (suc a) l = inr (at_in xs a (omega (arith, l)))

places : (ks : List Body) (k : Body) → place ks k ≡ position_or_len (λ m. body_same m k) ks
places ks k = is_position_or_len (λ xs. place xs k) (λ m. body_same m k) refl (λ x xs. refl) ks

number_of_place : (n l : ℕ) → n < l → unwrap_or (cond (nat_lt n l) (Some n) None) 0 ≡ n
number_of_place n l h = let t : nat_lt n l ≡ true = search rules in ap (λ b. unwrap_or (cond b (Some n) None) 0) t

pub number_is : (ks : List Body) (k : Body) → In k ks → number_or ks k ≡ place ks k
number_is ks k h =
    let e : position_or_len (λ m. body_same m k) ks ≡ place ks k = sym (places ks k) in
    ap (λ n. unwrap_or (cond (nat_lt n (length ks)) (Some n) None) 0) e ∙ number_of_place (place ks k) (length ks) (place_within ks k h)

-- ---- the bodies in order

map_over : {X Y : Type 0} (g : X → Y) (f : ℕ → Instance → List X) (h : ℕ → Instance → List Y) → ((i : ℕ) (at : Instance) → map g (f i at) ≡ h i at)
    → (n : ℕ) (t : List Instance) → map g (over_instances f n t) ≡ over_instances h n t
map_over g f h e n [] = refl
map_over g f h e n (at ∷ t) = map-append g (f n at) (over_instances f (n + 1) t) ∙ ap (λ xs. xs ++ map g (over_instances f (n + 1) t)) (e n at) ∙ ap (λ xs. h n at ++ xs) (map_over g f h e (n + 1) t)

map_flat : {X Y Z : Type 0} (g : X → Y) (f : Z → List X) (h : Z → List Y) → ((z : Z) → map g (f z) ≡ h z) → (zs : List Z) → map g (flat_map f zs) ≡ flat_map h zs
map_flat g f h e [] = refl
map_flat g f h e (z ∷ zs) = map-append g (f z) (flat_map f zs) ∙ ap (λ xs. xs ++ map g (flat_map f zs)) (e z) ∙ ap (λ xs. h z ++ xs) (map_flat g f h e zs)

map_twice : {X Y Z : Type 0} (g : Y → Z) (f : X → Y) (xs : List X) → map g (map f xs) ≡ map (λ x. g (f x)) xs
map_twice g f [] = refl
map_twice g f (x ∷ xs) = ap (λ ys. g (f x) ∷ ys) (map_twice g f xs)

abbrev pub body_in : Placed → Body
body_in f = f.body

actual_keys_are : (i : ℕ) (qs : List Parameter) (es : Trees) → map body_in (actual_bodies i qs es) ≡ actual_keys i qs es
actual_keys_are i [] es = refl
actual_keys_are i (q ∷ qs) no_trees = refl
actual_keys_are i (q ∷ qs) (tree e es) = ap (λ xs. key i q.name ∷ xs) (actual_keys_are i qs es)

element_keys_are : (i : ℕ) (e : PlainElement) → map body_in (element_bodies i e) ≡ element_keys i e
element_keys_are i (vars kind items) = refl
element_keys_are i (defines ds) = map_twice body_in (placed_definition i) ds
element_keys_are i (constants ns) = refl
element_keys_are i (assigns xs) = refl
element_keys_are i (init e) = refl
element_keys_are i (trans e) = refl
element_keys_are i (invar e) = refl
element_keys_are i (spec o e) = refl

here_keys_are : (i : ℕ) (at : Instance) → map body_in (bodies_here i at) ≡ keys_in i at
here_keys_are i at =
    map-append body_in (actual_bodies i at.module.parameters at.actuals) (flat_map (element_bodies i) at.module.elements)
    ∙ ap (λ xs. xs ++ map body_in (flat_map (element_bodies i) at.module.elements)) (actual_keys_are i at.module.parameters at.actuals)
    ∙ ap (λ xs. actual_keys i at.module.parameters at.actuals ++ xs) (map_flat body_in (element_bodies i) (element_keys i) (element_keys_are i) at.module.elements)

pub bodies_are : (t : List Instance) → bodies_of t ≡ keys_of t
bodies_are t = map_over body_in bodies_here keys_in here_keys_are 0 t

-- ---- their checks in order

abbrev pub check_of : List Instance → Placed → Check
check_of t f = cycle_check t f.body.0 f.body.1 f.place

actual_checks_are : (t : List Instance) (i : ℕ) (qs : List Parameter) (es : Trees) → map (check_of t) (actual_bodies i qs es) ≡ actual_cycles t i qs es
actual_checks_are t i [] es = refl
actual_checks_are t i (q ∷ qs) no_trees = refl
actual_checks_are t i (q ∷ qs) (tree e es) = ap (λ cs. cycle_check t i q.name (place_of e) ∷ cs) (actual_checks_are t i qs es)

element_checks_are : (t : List Instance) (i : ℕ) (e : PlainElement) → map (check_of t) (element_bodies i e) ≡ element_cycles t i e
element_checks_are t i (vars kind items) = refl
element_checks_are t i (defines ds) = map_twice (check_of t) (placed_definition i) ds
element_checks_are t i (constants ns) = refl
element_checks_are t i (assigns xs) = refl
element_checks_are t i (init e) = refl
element_checks_are t i (trans e) = refl
element_checks_are t i (invar e) = refl
element_checks_are t i (spec o e) = refl

here_checks_are : (t : List Instance) (i : ℕ) (at : Instance) → map (check_of t) (bodies_here i at) ≡ cycle_checks t i at
here_checks_are t i at =
    map-append (check_of t) (actual_bodies i at.module.parameters at.actuals) (flat_map (element_bodies i) at.module.elements)
    ∙ ap (λ xs. xs ++ map (check_of t) (flat_map (element_bodies i) at.module.elements)) (actual_checks_are t i at.module.parameters at.actuals)
    ∙ ap (λ xs. actual_cycles t i at.module.parameters at.actuals ++ xs) (map_flat (check_of t) (element_bodies i) (element_cycles t i) (element_checks_are t i) at.module.elements)

pub checks_are : (t : List Instance) → map (check_of t) (placed_bodies t) ≡ cycle_checks_of t
checks_are t = map_over (check_of t) bodies_here (cycle_checks t) (here_checks_are t) 0 t

-- ---- leading is reaching

any_same : {X : Type 0} (p q : X → Bool) (xs : List X) → ((x : X) → In x xs → p x ≡ q x) → list_any p xs ≡ list_any q xs
any_same p q [] h = refl
any_same p q (x ∷ xs) h = ap (λ b. b || list_any p xs) (h x (inl refl)) ∙ ap (λ b. q x || b) (any_same p q xs (λ y m. h y (inr m)))

any_map : {X Y : Type 0} (p : Y → Bool) (f : X → Y) (xs : List X) → list_any p (map f xs) ≡ list_any (λ x. p (f x)) xs
any_map p f [] = refl
any_map p f (x ∷ xs) = ap (λ b. p (f x) || b) (any_map p f xs)

abbrev pub number : List Instance → Body → ℕ
number t k = place (keys_of t) k

pub number_to : (t : List Instance) (k : Body) → In k (keys_of t) → number_or (bodies_of t) k ≡ number t k
number_to t k h = ap (λ ks. number_or ks k) (bodies_are t) ∙ number_is (keys_of t) k h

same_numbers : (t : List Instance) (r m : Body) → In r (keys_of t) → In m (keys_of t) → (number t r == number t m) ≡ body_same r m
same_numbers t r m h g =
    elim (eqb_tells (number t r) (number t m)) [
      | inl e ↦
          let s : r ≡ m = sym (place_is (keys_of t) r h) ∙ ap (λ n. slice_index_or (keys_of t) n nobody) e.1 ∙ place_is (keys_of t) m g in
          e.0 ∙ sym (ap (λ k. body_same k m) s ∙ same_self m)
      | inr e ↦ elim (bool_cases (body_same r m)) [
        | inl s ↦ absurd (e.1 (ap (number t) (same_is r m s)))
        | inr s ↦ e.0 ∙ sym s
      ]
    ]

pub graph_length : (t : List Instance) → length (reference_graph t) ≡ length (keys_of t)
graph_length t = length-map (bodies_of t) (references_of t) ∙ ap length (bodies_are t)

pub row_at : (t : List Instance) (a : ℕ) → a < length (keys_of t) → next_of (reference_graph t) a ≡ references_of t (slice_index_or (keys_of t) a nobody)
row_at t a l =
    ap (λ ks. slice_index_or (map (references_of t) ks) a []) (bodies_are t) ∙ get_or-map (references_of t) (keys_of t) a nobody [] l

pub leads_step : (g : NodeLists) (n k m : ℕ) → leads g (suc n) k m ≡ list_any (λ r. r == m || leads g n r m) (next_of g k)
unfolding leads
leads_step g n k m = refl

pub leads_zero : (g : NodeLists) (k m : ℕ) → leads g 0 k m ≡ false
unfolding leads
leads_zero g k m = refl

reaches_step : (f : Body → List Body) (n : ℕ) (k m : Body) → reaches f (suc n) k m ≡ list_any (λ r. body_same r m || reaches f n r m) (f k)
unfolding reaches
reaches_step f n k m = refl

reaches_zero : (f : Body → List Body) (k m : Body) → reaches f 0 k m ≡ false
unfolding reaches
reaches_zero f k m = refl

pub leads_is : (t : List Instance) (n a : ℕ) (m : Body) → a < length (keys_of t) → In m (keys_of t)
    → leads (reference_graph t) n a (number t m) ≡ reaches (refers t) n (slice_index_or (keys_of t) a nobody) m
leads_is t zero a m l h = leads_zero (reference_graph t) a (number t m) ∙ sym (reaches_zero (refers t) (slice_index_or (keys_of t) a nobody) m)
leads_is t (suc n) a m l h =
    let k = slice_index_or (keys_of t) a nobody in
    let p : ℕ → Bool = λ r. r == number t m || leads (reference_graph t) n r (number t m) in
    leads_step (reference_graph t) n a (number t m)
    ∙ ap (list_any p) (row_at t a l)
    ∙ any_map p (number_or (bodies_of t)) (refers t k)
    ∙ any_same (λ r. p (number_or (bodies_of t) r)) (λ r. body_same r m || reaches (refers t) n r m) (refers t k) (λ r i.
    let there : In r (keys_of t) = (within_keys t k r i).1 in
    ap p (number_to t r there)
    ∙ ap (λ b. b || leads (reference_graph t) n (number t r) (number t m)) (same_numbers t r m there h)
    ∙ ap (λ b. body_same r m || b) (leads_is t n (number t r) m (place_within (keys_of t) r there) h ∙ ap (λ q. reaches (refers t) n q m) (place_is (keys_of t) r there)))
    ∙ sym (reaches_step (refers t) n k m)

-- ---- the laws of the graph

pub graph_within : (t : List Instance) → is_graph (reference_graph t) ≡ true
graph_within t = all_rows t (bodies_of t)
  where
    all_targets : (t : List Instance) (rs : List Body) → ((r : Body) → In r rs → In r (keys_of t)) → list_all (λ m. nat_lt m (length (reference_graph t))) (map (number_or (bodies_of t)) rs) ≡ true
    all_targets t [] h = refl
    all_targets t (r ∷ rs) h =
        let low : number_or (bodies_of t) r < length (reference_graph t) = omega (arith, number_to t r (h r (inl refl)), place_within (keys_of t) r (h r (inl refl)), graph_length t) in
        let first : nat_lt (number_or (bodies_of t) r) (length (reference_graph t)) ≡ true = search rules in
        ap (λ b. b && list_all (λ m. nat_lt m (length (reference_graph t))) (map (number_or (bodies_of t)) rs)) first ∙ all_targets t rs (λ q i. h q (inr i))

    all_rows : (t : List Instance) (ks : List Body) → list_all (λ ends. list_all (λ m. nat_lt m (length (reference_graph t))) ends) (map (references_of t) ks) ≡ true
    all_rows t [] = refl
    all_rows t (k ∷ ks) =
        ap (λ b. b && list_all (λ ends. list_all (λ m. nat_lt m (length (reference_graph t))) ends) (map (references_of t) ks)) (all_targets t (refers t k) (λ r i. (within_keys t k r i).1)) ∙ all_rows t ks

pub never_is_acyclic : (t : List Instance) → NeverReturns (reference_graph t) → Acyclic t
never_is_acyclic t h k =
    elim (bool_cases (has_body (local t k.0 k.1))) [
      | inl e ↦
          let there : In k (keys_of t) = in_keys t k.0 k.1 e in
          ap (λ q. reaches (refers t) (steps_of t) q k) (sym (place_is (keys_of t) k there)) ∙ sym (leads_is t (steps_of t) (number t k) k (place_within (keys_of t) k there) there) ∙ h (steps_of t) (number t k)
      | inr e ↦ reaches_none (refers t) (steps_of t) k k (no_reference t (look t (steps_of t)) (local t k.0 k.1) e)
    ]

-- where nothing reaches itself no check of a cycle fails
pub none_fails : (cs : List Check) → list_all (λ c. c.holds) cs ≡ true → first_failing cs ≡ None
none_fails [] h = refl
none_fails (c ∷ cs) h =
    elim (bool_cases c.holds) [
      | inl e ↦ ap (λ b. if b then first_failing cs else Some c.refusal) e ∙ none_fails cs (sym (ap (λ b. b && list_all (λ d. d.holds) cs) e) ∙ h)
      | inr e ↦ let f : false ≡ true = sym (ap (λ b. b && list_all (λ d. d.holds) cs) e) ∙ h in cc
    ]

pub acyclic_passes : (t : List Instance) → Acyclic t → first_failing (cycle_checks_of t) ≡ None
acyclic_passes t h = none_fails (cycle_checks_of t) ((cycles_are_checked_law t).1 h)
