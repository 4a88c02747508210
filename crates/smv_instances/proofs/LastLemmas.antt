-- Names that are put from the last element of a list on.
use Rattle.std.proofs.lemmas.Bool.{eqb-true}
use Rattle.std.proofs.Common.{◌≡◌, ℕ, suc, ◌-◌, ◌<◌, ◌≤◌, Bool, true, false, ◌==◌, ◌&&◌, if◌then◌else◌, List, ◌∷◌, Option, Some, map, drop, length, bytes_eq, refl, sym, ap, ◌∙◌, arith, drop-cons}
use Rattle.std.specs.Prelude.{slice_index_or}
use Rattle.std.specs.Option.{option_map}
use Rattle.std.proofs.lemmas.Option.{slice_get_read}
use Rattle.smv_text.specs.declared.tree.Element.{Element}
use Rattle.smv_text.specs.declared.tree.Module.{Module}
use Rattle.smv_text.specs.declared.tree.VarKind.{VarKind}
use Rattle.smv_text.specs.declared.tree.Item.{Item}
use Rattle.smv_text.specs.declared.tree.Definition.{Definition}
use Rattle.smv_text.specs.declared.tree.Parameter.{Parameter}
use Rattle.smv_text.specs.declared.tree.Expr.{Expr}
use Rattle.smv_text.specs.Tree.{PlainItem, PlainDefinition, vars, defines, trees_of}
use Rattle.smv_text.specs.View.{plain, plain_module, plain_element, plain_domain, plain_item, plain_definition}
use Rattle.smv_meaning.specs.Instances.{module_named}
use Rattle.smv_meaning.specs.Names.{Local, nothing, body_of, of_actual, of_domain, among_items, among_definitions, among_elements, among_parameters}
use Rattle.smv_instances.specs.declared.names.Known.{Known}
use Rattle.name_maps.specs.declared.rows.NameRows.{NameRows}
use Rattle.name_maps.specs.declared.instance_rows.InstanceRows.{InstanceRows}
use Rattle.smv_instances.specs.NameMap.{module_at, FindsPlaces, known_at}
use Rattle.name_maps.specs.Rows.{row_in, row_named}
use Rattle.smv_instances.specs.View.{local_plain, or_local}

from_last : {X : Type 0} (xs : List X) (k : ℕ) (x : X) → 0 < k → k ≤ length xs → x ≡ slice_index_or xs (k - 1) x → drop (k - 1) xs ≡ x ∷ drop k xs
from_last xs k x h l e = drop-cons xs (k - 1) x (omega (arith, h, l)) ∙ ap (λ y. y ∷ drop (suc (k - 1)) xs) (sym e) ∙ ap (λ n. x ∷ drop n xs) (let s : suc (k - 1) ≡ k = omega (arith, h) in s)

-- the place of one module more
pub places_more : (ms : List Module) (k : ℕ) (one : Module) (name : List ℕ) (m more : NameRows ℕ) → 0 < k → k ≤ length ms → one ≡ slice_index_or ms (k - 1) one → name ≡ one.name
    → FindsPlaces ms (drop k ms) m → ((x : List ℕ) → row_named more x ≡ (if bytes_eq name x then Some (k - 1) else row_named m x)) → FindsPlaces ms (drop (k - 1) ms) more
places_more ms k one name m more h l e n f w x =
    ap (module_at ms) (w x) ∙ over (bytes_eq name x) (row_named m x) ∙ ap (λ o. if bytes_eq name x then Some (plain_module one) else o) (f x) ∙ ap (λ y. if bytes_eq y x then Some (plain_module one) else module_named (map plain_module (drop k ms)) x) n
    ∙ ap (λ r. module_named (map plain_module r) x) (sym (from_last ms k one h l e))
  where
    over : (c : Bool) (o : Option ℕ) → module_at ms (if c then Some (k - 1) else o) ≡ (if c then Some (plain_module one) else module_at ms o)
    over true o = ap (option_map plain_module) (slice_get_read ms (length ms) (k - 1) one refl (omega (arith, h, l)) e)
    over false o = refl

-- the same on both sides of a choice
pub chosen : (b : Bool) (l m : Local) → l ≡ m → l ≡ (if b then m else l)
chosen true l m e = e
chosen false l m e = refl

-- what the names are with one row more
put_known : (i : ℕ) (name : List ℕ) (v : Known) (m more : InstanceRows Known) → ((j : ℕ) (x : List ℕ) → row_in more j x ≡ (if i == j && bytes_eq name x then Some v else row_in m j x))
    → (j : ℕ) (x : List ℕ) → known_at more j x ≡ (if i == j then (if bytes_eq name x then local_plain v else known_at m j x) else known_at m j x)
put_known i name v m more w j x = ap (λ o. or_local o nothing) (w j x) ∙ over (i == j) (bytes_eq name x)
  where
    over : (b c : Bool) → or_local (if b && c then Some v else row_in m j x) nothing ≡ (if b then (if c then local_plain v else known_at m j x) else known_at m j x)
    over true true = refl
    over true false = refl
    over false c = refl

-- a row more, put before others of its instance
row_more : (i : ℕ) (name : List ℕ) (v : Known) (m more : InstanceRows Known) (first : Local) (others now other : ℕ → List ℕ → Local) → local_plain v ≡ first
    → ((x : List ℕ) → now i x ≡ (if bytes_eq name x then first else others i x))
    → ((j : ℕ) (x : List ℕ) → known_at m j x ≡ (if i == j then others j x else other j x))
    → ((j : ℕ) (x : List ℕ) → row_in more j x ≡ (if i == j && bytes_eq name x then Some v else row_in m j x))
    → (j : ℕ) (x : List ℕ) → known_at more j x ≡ (if i == j then now j x else other j x)
row_more i name v m more first others now other d n f w j x = put_known i name v m more w j x ∙ by (i == j) refl (f j x)
  where
    by : (c : Bool) → (i == j) ≡ c → known_at m j x ≡ (if c then others j x else other j x)
        → (if c then (if bytes_eq name x then local_plain v else known_at m j x) else known_at m j x) ≡ (if c then now j x else other j x)
    by true q e =
        let s : i ≡ j = eqb-true i j q in
        ap (λ l. if bytes_eq name x then l else known_at m j x) d ∙ ap (λ l. if bytes_eq name x then first else l) e ∙ ap (λ k. if bytes_eq name x then first else others k x) (sym s) ∙ sym (n x) ∙ ap (λ k. now k x) s
    by false q e = e

-- one variable more
pub items_more : (i : ℕ) (kind : VarKind) (ys : List Item) (k : ℕ) (y : Item) (name : List ℕ) (v : Known) (before m more : InstanceRows Known) → 0 < k → k ≤ length ys → y ≡ slice_index_or ys (k - 1) y → name ≡ y.name
    → local_plain v ≡ of_domain kind (plain_domain y.domain)
    → ((j : ℕ) (x : List ℕ) → known_at m j x ≡ (if i == j then among_items kind (map plain_item (drop k ys)) x (known_at before j x) else known_at before j x))
    → ((j : ℕ) (x : List ℕ) → row_in more j x ≡ (if i == j && bytes_eq name x then Some v else row_in m j x))
    → (j : ℕ) (x : List ℕ) → known_at more j x ≡ (if i == j then among_items kind (map plain_item (drop (k - 1) ys)) x (known_at before j x) else known_at before j x)
items_more i kind ys k y name v before m more h l at n d =
    row_more i name v m more (of_domain kind (plain_domain y.domain)) (λ j x. among_items kind (map plain_item (drop k ys)) x (known_at before j x)) (λ j x. among_items kind (map plain_item (drop (k - 1) ys)) x (known_at before j x)) (known_at before) d
    (λ x. ap (λ r. among_items kind (map plain_item r) x (known_at before i x)) (from_last ys k y h l at) ∙ ap (λ z. if bytes_eq z x then of_domain kind (plain_domain y.domain) else among_items kind (map plain_item (drop k ys)) x (known_at before i x)) (sym n))

-- one definition more
pub definitions_more : (i : ℕ) (ys : List Definition) (k : ℕ) (y : Definition) (name : List ℕ) (v : Known) (before m more : InstanceRows Known) → 0 < k → k ≤ length ys → y ≡ slice_index_or ys (k - 1) y → name ≡ y.name
    → local_plain v ≡ body_of i (plain y.body)
    → ((j : ℕ) (x : List ℕ) → known_at m j x ≡ (if i == j then among_definitions i (map plain_definition (drop k ys)) x (known_at before j x) else known_at before j x))
    → ((j : ℕ) (x : List ℕ) → row_in more j x ≡ (if i == j && bytes_eq name x then Some v else row_in m j x))
    → (j : ℕ) (x : List ℕ) → known_at more j x ≡ (if i == j then among_definitions i (map plain_definition (drop (k - 1) ys)) x (known_at before j x) else known_at before j x)
definitions_more i ys k y name v before m more h l at n d =
    row_more i name v m more (body_of i (plain y.body)) (λ j x. among_definitions i (map plain_definition (drop k ys)) x (known_at before j x)) (λ j x. among_definitions i (map plain_definition (drop (k - 1) ys)) x (known_at before j x)) (known_at before) d
    (λ x. ap (λ r. among_definitions i (map plain_definition r) x (known_at before i x)) (from_last ys k y h l at) ∙ ap (λ z. if bytes_eq z x then body_of i (plain y.body) else among_definitions i (map plain_definition (drop k ys)) x (known_at before i x)) (sym n))

-- one parameter more
pub parameters_more : (i p : ℕ) (ys : List Parameter) (es : List Expr) (k : ℕ) (y : Parameter) (e : Expr) (name : List ℕ) (v : Known) (before m more : InstanceRows Known) → 0 < k → k ≤ length ys → k ≤ length es
    → y ≡ slice_index_or ys (k - 1) y → e ≡ slice_index_or es (k - 1) e → name ≡ y.name → local_plain v ≡ of_actual p (plain e)
    → ((j : ℕ) (x : List ℕ) → known_at m j x ≡ (if i == j then among_parameters p (drop k ys) (trees_of (map plain (drop k es))) x (known_at before j x) else known_at before j x))
    → ((j : ℕ) (x : List ℕ) → row_in more j x ≡ (if i == j && bytes_eq name x then Some v else row_in m j x))
    → (j : ℕ) (x : List ℕ) → known_at more j x ≡ (if i == j then among_parameters p (drop (k - 1) ys) (trees_of (map plain (drop (k - 1) es))) x (known_at before j x) else known_at before j x)
parameters_more i p ys es k y e name v before m more h l le at here n d =
    row_more i name v m more (of_actual p (plain e)) (λ j x. among_parameters p (drop k ys) (trees_of (map plain (drop k es))) x (known_at before j x)) (λ j x. among_parameters p (drop (k - 1) ys) (trees_of (map plain (drop (k - 1) es))) x (known_at before j x)) (known_at before) d
    (λ x. ap (λ r. among_parameters p r (trees_of (map plain (drop (k - 1) es))) x (known_at before i x)) (from_last ys k y h l at)
    ∙ ap (λ r. among_parameters p (y ∷ drop k ys) (trees_of (map plain r)) x (known_at before i x)) (from_last es k e h le here)
    ∙ ap (λ z. if bytes_eq z x then of_actual p (plain e) else among_parameters p (drop k ys) (trees_of (map plain (drop k es))) x (known_at before i x)) (sym n))

-- one element more, given what its names become
elements_more : (i : ℕ) (es : List Element) (k : ℕ) (e : Element) (before m more : InstanceRows Known) (own : List ℕ → Local → Local) → 0 < k → k ≤ length es → e ≡ slice_index_or es (k - 1) e
    → ((x : List ℕ) → among_elements i (plain_element e ∷ map plain_element (drop k es)) x ≡ own x (among_elements i (map plain_element (drop k es)) x))
    → ((j : ℕ) (x : List ℕ) → known_at m j x ≡ (if i == j then among_elements i (map plain_element (drop k es)) x else known_at before j x))
    → ((j : ℕ) (x : List ℕ) → known_at more j x ≡ (if i == j then own x (known_at m j x) else known_at m j x))
    → (j : ℕ) (x : List ℕ) → known_at more j x ≡ (if i == j then among_elements i (map plain_element (drop (k - 1) es)) x else known_at before j x)
elements_more i es k e before m more own h l at is f w j x = w j x ∙ by (i == j) (f j x)
  where
    by : (c : Bool) → known_at m j x ≡ (if c then among_elements i (map plain_element (drop k es)) x else known_at before j x)
        → (if c then own x (known_at m j x) else known_at m j x) ≡ (if c then among_elements i (map plain_element (drop (k - 1) es)) x else known_at before j x)
    by true q = ap (own x) q ∙ sym (is x) ∙ ap (λ r. among_elements i (map plain_element r) x) (sym (from_last es k e h l at))
    by false q = q

-- the variables of one element more
pub vars_more : (i : ℕ) (es : List Element) (k : ℕ) (e : Element) (kind : VarKind) (items : List PlainItem) (before m more : InstanceRows Known) → 0 < k → k ≤ length es → e ≡ slice_index_or es (k - 1) e → plain_element e ≡ vars kind items
    → ((j : ℕ) (x : List ℕ) → known_at m j x ≡ (if i == j then among_elements i (map plain_element (drop k es)) x else known_at before j x))
    → ((j : ℕ) (x : List ℕ) → known_at more j x ≡ (if i == j then among_items kind items x (known_at m j x) else known_at m j x))
    → (j : ℕ) (x : List ℕ) → known_at more j x ≡ (if i == j then among_elements i (map plain_element (drop (k - 1) es)) x else known_at before j x)
vars_more i es k e kind items before m more h l at is =
    elements_more i es k e before m more (among_items kind items) h l at (λ x. ap (λ p. among_elements i (p ∷ map plain_element (drop k es)) x) is)

-- the definitions of one element more
pub defines_more : (i : ℕ) (es : List Element) (k : ℕ) (e : Element) (ds : List PlainDefinition) (before m more : InstanceRows Known) → 0 < k → k ≤ length es → e ≡ slice_index_or es (k - 1) e → plain_element e ≡ defines ds
    → ((j : ℕ) (x : List ℕ) → known_at m j x ≡ (if i == j then among_elements i (map plain_element (drop k es)) x else known_at before j x))
    → ((j : ℕ) (x : List ℕ) → known_at more j x ≡ (if i == j then among_definitions i ds x (known_at m j x) else known_at m j x))
    → (j : ℕ) (x : List ℕ) → known_at more j x ≡ (if i == j then among_elements i (map plain_element (drop (k - 1) es)) x else known_at before j x)
defines_more i es k e ds before m more h l at is =
    elements_more i es k e before m more (among_definitions i ds) h l at (λ x. ap (λ p. among_elements i (p ∷ map plain_element (drop k es)) x) is)
