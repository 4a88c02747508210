-- Steps of growing the list of instances.
use Rattle.std.proofs.Common.{◌≡◌, ℕ, zero, suc, ◌-◌, ◌<◌, List, [], ◌∷◌, ◌++◌, map, length, Option, Some, None, refl, sym, ap, ◌∙◌, subst, arith}
use Rattle.std.specs.Prelude.{slice_get, slice_index_or}
use Rattle.std.specs.Option.{option_map}
use Rattle.std.proofs.lemmas.Option.{slice_get-map, slice_get_read, slice_get-get_or}
use Rattle.std.proofs.lemmas.List.{map-append, length-map, length_push, get_or_append_left, get_or_push}
use Rattle.smv_text.specs.Tree.{PlainModule, PlainItem, PlainElement, vars, defines, constants, assigns, init, trans, invar, spec}
use Rattle.smv_instances.specs.declared.instances.Instance.{Instance as PartOf}
use Rattle.smv_meaning.specs.Instances.{Instance, child_of, with_child, grow_items, grow_elements, grow}
use Rattle.smv_meaning.specs.Names.{path_in}
use Rattle.smv_instances.specs.View.{instance_plain}

pub grow_none : (n : ℕ) (ms : List PlainModule) (at : Instance) (t : List Instance) → n ≡ 0 → t ≡ grow n ms at t
unfolding grow
grow_none n ms at t e = sym (ap (λ k. grow k ms at t) e)

pub grow_step : (n : ℕ) (ms : List PlainModule) (at : Instance) (t : List Instance) → 0 < n
    → grow n ms at t ≡ grow_elements (grow (n - 1) ms) ms (length t) at.path at.module.elements (t ++ at ∷ [])
unfolding grow
grow_step n ms at t h = let e : n ≡ suc (n - 1) = omega arith in ap (λ k. grow k ms at t) e

pub grow_begins : (n : ℕ) (ms : List PlainModule) (new : PartOf) (ts all : List PartOf) → 0 < n → all ≡ ts ++ new ∷ []
    → grow_elements (grow (n - 1) ms) ms (length ts) (instance_plain new).path (instance_plain new).module.elements (map instance_plain all) ≡ grow n ms (instance_plain new) (map instance_plain ts)
grow_begins n ms new ts all h ea =
    let a : map instance_plain all ≡ map instance_plain ts ++ instance_plain new ∷ [] = ap (map instance_plain) ea ∙ map-append instance_plain ts _ in
    let b : length ts ≡ length (map instance_plain ts) = sym (length-map ts instance_plain) in
    let s = grow_step n ms (instance_plain new) (map instance_plain ts) h in
    cc

-- the instance with this number is there, and has this path
abbrev pub HasPath : List Instance → ℕ → List ℕ → Type 0
HasPath t i path = (i < length t) × (path_in (slice_get t i) ≡ path)

-- what adds instances leaves the paths of those that are there
abbrev pub KeepsPaths : (Instance → List Instance → List Instance) → Type 0
KeepsPaths g = (at : Instance) (t : List Instance) (i : ℕ) (path : List ℕ) → HasPath t i path → HasPath (g at t) i path

pushed_keeps : (at : Instance) (t : List Instance) (i : ℕ) (path : List ℕ) → HasPath t i path → HasPath (t ++ at ∷ []) i path
pushed_keeps at t i path h =
    let l : i < length (t ++ at ∷ []) = omega (arith, h.0, length_push t at) in
    let same : slice_get (t ++ at ∷ []) i ≡ slice_get t i = slice_get-get_or (t ++ at ∷ []) i at l ∙ ap Some (get_or_append_left t (at ∷ []) at i h.0) ∙ sym (slice_get-get_or t i at h.0) in
    (l, ap path_in same ∙ h.1)

pushed_has : (at : Instance) (t : List Instance) → HasPath (t ++ at ∷ []) (length t) at.path
pushed_has at t =
    let l : length t < length (t ++ at ∷ []) = omega (arith, length_push t at) in
    (l, ap path_in (slice_get-get_or (t ++ at ∷ []) (length t) at l ∙ ap Some (get_or_push t at at (length t) refl)))

child_keeps : (g : Instance → List Instance → List Instance) → KeepsPaths g → (o : Option Instance) (t : List Instance) (i : ℕ) (path : List ℕ) → HasPath t i path → HasPath (with_child g o t) i path
child_keeps g k None t i path h = h
child_keeps g k (Some at) t i path h = k at t i path h

items_keep : (g : Instance → List Instance → List Instance) → KeepsPaths g → (ms : List PlainModule) (j : ℕ) (below : List ℕ) (items : List PlainItem) (t : List Instance) (i : ℕ) (path : List ℕ)
    → HasPath t i path → HasPath (grow_items g ms j below items t) i path
items_keep g k ms j below [] t i path h = h
items_keep g k ms j below (item ∷ items) t i path h =
    items_keep g k ms j below items (with_child g (child_of ms j below item) t) i path (child_keeps g k (child_of ms j below item) t i path h)

elements_keep : (g : Instance → List Instance → List Instance) → KeepsPaths g → (ms : List PlainModule) (j : ℕ) (below : List ℕ) (es : List PlainElement) (t : List Instance) (i : ℕ) (path : List ℕ)
    → HasPath t i path → HasPath (grow_elements g ms j below es t) i path
elements_keep g k ms j below [] t i path h = h
elements_keep g k ms j below (vars kind items ∷ es) t i path h = elements_keep g k ms j below es (grow_items g ms j below items t) i path (items_keep g k ms j below items t i path h)
elements_keep g k ms j below (defines ds ∷ es) t i path h = elements_keep g k ms j below es t i path h
elements_keep g k ms j below (constants names ∷ es) t i path h = elements_keep g k ms j below es t i path h
elements_keep g k ms j below (assigns list ∷ es) t i path h = elements_keep g k ms j below es t i path h
elements_keep g k ms j below (init e ∷ es) t i path h = elements_keep g k ms j below es t i path h
elements_keep g k ms j below (trans e ∷ es) t i path h = elements_keep g k ms j below es t i path h
elements_keep g k ms j below (invar e ∷ es) t i path h = elements_keep g k ms j below es t i path h
elements_keep g k ms j below (spec name e ∷ es) t i path h = elements_keep g k ms j below es t i path h

grow_keeps : (ms : List PlainModule) (n : ℕ) → KeepsPaths (grow n ms)
unfolding grow
grow_keeps ms zero at t i path h = h
grow_keeps ms (suc n) at t i path h = elements_keep (grow n ms) (grow_keeps ms n) ms (length t) at.path at.module.elements (t ++ at ∷ []) i path (pushed_keeps at t i path h)

-- the path of an instance that is read
pub path_read : (ts : List PartOf) (i : ℕ) (p : PartOf) (path : List ℕ) → HasPath (map instance_plain ts) i path → p ≡ slice_index_or ts i p → p.path ≡ path
path_read ts i p path h is =
    let l : i < length ts = omega (arith, h.0, length-map ts instance_plain) in
    sym (ap path_in (slice_get-map instance_plain ts i ∙ ap (option_map instance_plain) (slice_get_read ts (length ts) i p refl l is))) ∙ h.1

-- an instance that is added has its path
pub begins_within : (ts all : List PartOf) (new : PartOf) (n : ℕ) → n ≡ length ts → all ≡ ts ++ new ∷ [] → HasPath (map instance_plain all) n new.path
begins_within ts all new n l e =
    let a : map instance_plain all ≡ map instance_plain ts ++ instance_plain new ∷ [] = ap (map instance_plain) e ∙ map-append instance_plain ts (new ∷ []) in
    let h : HasPath (map instance_plain ts ++ instance_plain new ∷ []) (length (map instance_plain ts)) new.path = pushed_has (instance_plain new) (map instance_plain ts) in
    subst (λ k. HasPath (map instance_plain all) k new.path) (length-map ts instance_plain ∙ sym l) (subst (λ l. HasPath l (length (map instance_plain ts)) new.path) (sym a) h)

-- an instance that is there keeps its path where others are added
pub kept_within : (ms : List PlainModule) (n : ℕ) (at : Instance) (ts us : List PartOf) (i : ℕ) (path : List ℕ) → map instance_plain us ≡ grow n ms at (map instance_plain ts)
    → HasPath (map instance_plain ts) i path → HasPath (map instance_plain us) i path
kept_within ms n at ts us i path e h = subst (λ l. HasPath l i path) (sym e) (grow_keeps ms n at (map instance_plain ts) i path h)

pub items_within : (ms : List PlainModule) (n j : ℕ) (below : List ℕ) (items : List PlainItem) (ts us : List PartOf) (i : ℕ) (path : List ℕ) → map instance_plain us ≡ grow_items (grow n ms) ms j below items (map instance_plain ts)
    → HasPath (map instance_plain ts) i path → HasPath (map instance_plain us) i path
items_within ms n j below items ts us i path e h = subst (λ l. HasPath l i path) (sym e) (items_keep (grow n ms) (grow_keeps ms n) ms j below items (map instance_plain ts) i path h)
