-- The dotted names of a model's items.
use Rattle.std.proofs.Common.{◌≡◌, ◌≢◌, ℕ, ◌+◌, List, [], ◌∷◌, ◌++◌, map, length, Some, refl, sym, ap, ◌∙◌, subst, append_assoc}
use Rattle.std.specs.Prelude.{slice_get}
use Rattle.std.specs.List.{AllByRecursion, flat_map}
use Rattle.std.proofs.lemmas.List.{map-append, length_push}
use Rattle.text_core.specs.declared.place.Place.{Place}
use Rattle.smv_text.specs.declared.token.Token.{Token}
use Rattle.smv_text.specs.Lexing.{Lexes}
use Rattle.smv_text.specs.Sources.{SpellsSource}
use Rattle.smv_text.specs.Tree.{PlainSource}
use Rattle.smv_meaning.specs.Instances.{Instance, dotted, instances_of}
use Rattle.smv_meaning.specs.Names.{path_in}
use Rattle.smv_meaning.specs.Phases.{declared_in, IsAccepted, over_instances}
use Rattle.smv_items.specs.FlatItems.{Origin, items_here, path_of, element_symbols}
use Rattle.smv_accepted.specs.Names.{IsIdentifier, IsDottedName}
use Rattle.smv_accepted.specs.NameLaws.{item_names, NamesDiffer, NamesAreDistinct, NamesAreWords, SymbolsAreWords}
use Rattle.smv_items.specs.laws.OriginLemmas.{AllOwn, own_here}
use Rattle.smv_items.specs.laws.Differing.{all_weaker, differ_joined, differ_mapped, Within, all_within, differ_within}
use Rattle.smv_items.specs.laws.Declarations.{name_of, declared_names, DiffersInside, accepted_differ, here_within as items_within}
use Rattle.smv_accepted.proofs.Dotted.{identifier_dotless, dotted_once, dotted_named}
use Rattle.smv_accepted.proofs.Spelled.{tokens_named, modules_identifiers}
use Rattle.smv_accepted.proofs.Symbols.{gathered_all, occurs_once}
use Rattle.smv_accepted.proofs.Grown.{IsWellNamed, path_at, are_instances}
use Rattle.name_maps.proofs.FreshNames.{AllDiffer, Lacks, all_fresh, all_joined, all_mapped}

-- ---- the names of an instance's items are among its declarations

abbrev origin_name : Origin → List ℕ
origin_name m = m.name

-- the names of the items of an instance
abbrev names_here : ℕ → Instance → List (List ℕ)
names_here i at = map origin_name (items_here i at)

here_within : (i : ℕ) (at : Instance) → Within (names_here i at) (declared_names at.module)
here_within i at = items_within (λ n x. x) i at

-- ---- the dotted names, instance by instance

abbrev dotted_here : ℕ → Instance → List (List ℕ)
dotted_here i at = map (dotted at.path) (names_here i at)

dotted_items : (t : List Instance) (i : ℕ) (at : Instance) → slice_get t i ≡ Some at → (ms : List Origin) → AllOwn i ms → map (path_of t) ms ≡ map (dotted at.path) (map origin_name ms)
dotted_items t i at e [] h = refl
dotted_items t i at e (m ∷ ms) h =
    let first : path_of t m ≡ dotted at.path m.name = ap (λ j. dotted (path_in (slice_get t j)) m.name) h.0 ∙ ap (λ o. dotted (path_in o) m.name) e in
    let rest = dotted_items t i at e ms h.1 in
    ap (λ x. x ∷ map (path_of t) ms) first ∙ ap (λ l. dotted at.path m.name ∷ l) rest

there : {X : Type 0} (front : List X) (x : X) (rest : List X) → slice_get (front ++ x ∷ rest) (length front) ≡ Some x
there [] x rest = refl
there (y ∷ front) x rest = there front x rest

dotted_from : (t front rest : List Instance) → t ≡ front ++ rest → map (path_of t) (over_instances items_here (length front) rest) ≡ over_instances dotted_here (length front) rest
dotted_from t front [] e = refl
dotted_from t front (at ∷ rest) e =
    let i = length front in
    let at_i : slice_get t i ≡ Some at = ap (λ l. slice_get l i) e ∙ there front at rest in
    let n : length (front ++ at ∷ []) ≡ i + 1 = length_push front at in
    let later : map (path_of t) (over_instances items_here (length (front ++ at ∷ [])) rest) ≡ over_instances dotted_here (length (front ++ at ∷ [])) rest
    = dotted_from t (front ++ at ∷ []) rest (e ∙ sym (append_assoc front (at ∷ []) rest)) in
    map-append (path_of t) (items_here i at) (over_instances items_here (i + 1) rest)
    ∙ ap (λ l. l ++ map (path_of t) (over_instances items_here (i + 1) rest)) (dotted_items t i at at_i (items_here i at) (own_here i at))
    ∙ ap (λ l. dotted_here i at ++ l) (subst (λ k. map (path_of t) (over_instances items_here k rest) ≡ over_instances dotted_here k rest) n later)

pub names_are : (t : List Instance) → item_names t ≡ over_instances dotted_here 0 t
names_are t = dotted_from t [] t refl

-- ---- words

declared_words : (at : Instance) → IsWellNamed at → AllByRecursion IsIdentifier (declared_names at.module)
declared_words at w = all_mapped IsIdentifier name_of (declared_in at.module) w.identifiers.declared

here_words : (i : ℕ) (at : Instance) → IsWellNamed at → AllByRecursion IsIdentifier (names_here i at)
here_words i at w = all_within IsIdentifier (here_within i at) (declared_words at w)

dotted_words : (i : ℕ) (t : List Instance) → AllByRecursion IsWellNamed t → AllByRecursion IsDottedName (over_instances dotted_here i t)
dotted_words i [] h = tt
dotted_words i (at ∷ t) h =
    all_joined IsDottedName (dotted_here i at) (over_instances dotted_here (i + 1) t)
    (all_mapped IsDottedName (dotted at.path) (names_here i at)
    (all_weaker IsIdentifier (λ x. IsDottedName (dotted at.path x)) (λ x k. dotted_named at.path x h.0.path k) (names_here i at) (here_words i at h.0)))
    (dotted_words (i + 1) t h.1)

pub names_are_words_law : NamesAreWords
names_are_words_law source end text xs l s =
    let t = instances_of source in
    let a = are_instances source (modules_identifiers s.0 (tokens_named text xs l)) in
    subst (AllByRecursion IsDottedName) (sym (names_are t)) (dotted_words 0 t a.well)

identified_symbols : (t : List Instance) → AllByRecursion IsWellNamed t → AllByRecursion IsIdentifier (flat_map (λ at. flat_map element_symbols at.module.elements) t)
identified_symbols [] h = tt
identified_symbols (at ∷ t) h = all_joined IsIdentifier (flat_map element_symbols at.module.elements) (flat_map (λ at. flat_map element_symbols at.module.elements) t) h.0.identifiers.symbols (identified_symbols t h.1)

pub symbols_are_words_law : SymbolsAreWords
symbols_are_words_law source end text xs l s =
    let t = instances_of source in
    let a = are_instances source (modules_identifiers s.0 (tokens_named text xs l)) in
    gathered_all IsIdentifier [] (flat_map (λ at. flat_map element_symbols at.module.elements) t) tt (identified_symbols t a.well)

-- ---- differing names

once_in : (p x y : List ℕ) → IsIdentifier x → IsIdentifier y → dotted p x ≡ dotted p y → x ≡ y
once_in p x y h k e = (dotted_once p p x y (identifier_dotless x h) (identifier_dotless y k) e).1

-- a name in one instance is none of another
lacks_name : (p x : List ℕ) → IsIdentifier x → (q : List ℕ) → p ≢ q → (ys : List (List ℕ)) → AllByRecursion IsIdentifier ys → Lacks (map (dotted q) ys) (dotted p x)
lacks_name p x h q n [] k = tt
lacks_name p x h q n (y ∷ ys) k = ((λ e. n (dotted_once p q x y (identifier_dotless x h) (identifier_dotless y k.0) (sym e)).0), lacks_name p x h q n ys k.1)

lacks_later : (p x : List ℕ) → IsIdentifier x → (i : ℕ) (t : List Instance) → AllByRecursion IsWellNamed t → Lacks (map path_at t) p → Lacks (over_instances dotted_here i t) (dotted p x)
lacks_later p x h i [] w n = tt
lacks_later p x h i (at ∷ t) w n =
    all_joined (λ y. y ≢ dotted p x) (dotted_here i at) (over_instances dotted_here (i + 1) t)
    (lacks_name p x h at.path (λ e. n.0 (sym e)) (names_here i at) (here_words i at w.0)) (lacks_later p x h (i + 1) t w.1 n.1)

dotted_differ : (i : ℕ) (t : List Instance) → AllByRecursion IsWellNamed t → AllByRecursion DiffersInside t → AllDiffer (map path_at t) → AllDiffer (over_instances dotted_here i t)
dotted_differ i [] w d n = tt
dotted_differ i (at ∷ t) w d n =
    differ_joined (dotted_here i at) (over_instances dotted_here (i + 1) t)
    (differ_mapped IsIdentifier (dotted at.path) (once_in at.path) (names_here i at) (here_words i at w.0) (differ_within (here_within i at) d.0))
    (dotted_differ (i + 1) t w.1 d.1 n.1)
    (all_mapped (λ y. Lacks (over_instances dotted_here (i + 1) t) y) (dotted at.path) (names_here i at)
    (all_weaker IsIdentifier (λ x. Lacks (over_instances dotted_here (i + 1) t) (dotted at.path x)) (λ x k. lacks_later at.path x k (i + 1) t w.1 n.0) (names_here i at) (here_words i at w.0)))

pub names_all_differ : (source : PlainSource) (end : Place) (text : List ℕ) (xs : List Token) → Lexes text xs → SpellsSource source end xs
    → (needed : ℕ) → IsAccepted source needed → AllDiffer (item_names (instances_of source))
names_all_differ source end text xs l s needed h =
    let t = instances_of source in
    let a = are_instances source (modules_identifiers s.0 (tokens_named text xs l)) in
    let d = accepted_differ source needed h in
    subst (λ (l : List (List ℕ)). AllDiffer l) (sym (names_are t)) (dotted_differ 0 t a.well d (a.differ d))

pub names_differ_law : NamesDiffer
names_differ_law source end text xs l s needed h = all_fresh (item_names (instances_of source)) (names_all_differ source end text xs l s needed h)

pub names_are_distinct_law : NamesAreDistinct
names_are_distinct_law source end text xs l s needed h k x e = occurs_once (item_names (instances_of source)) k x (names_all_differ source end text xs l s needed h) e
