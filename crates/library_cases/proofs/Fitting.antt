-- Where each variable is an instance, any state and any label fits.
use Rattle.std.proofs.Common.{◌≡◌, ℕ, Bool, true, false, not, ◌||◌, ◌&&◌, List, [], ◌∷◌, IsTrue, refl, sym, ap, ◌∙◌, subst}
use Rattle.std.specs.List.{list_all}
use Rattle.smv_text.specs.declared.tree.VarKind.{VarKind}
use Rattle.smv_text.specs.Tree.{Tree, PlainDomain, boolean, members, between, bits, instance, PlainItem, PlainElement, vars, defines, constants, assigns, init, trans, invar, spec}
use Rattle.smv_meaning.specs.declared.value.Value.{Value}
use Rattle.smv_meaning.specs.Values.{Valuation}
use Rattle.smv_meaning.specs.Instances.{Instance}
use Rattle.smv_meaning.specs.Runs.{domain_fits, is_fit, element_fits, values_fit, state_fits, label_fits}
use Rattle.smv_meaning.specs.Owed.{instance_number}
use Rattle.smv_meaning.specs.Parts.{OccursIn}
use Rattle.library_cases.specs.Free.{is_instance, is_free_item, is_free_element, are_free}

both : (a b c d : Bool) → (a ≡ true → c ≡ true) → (b ≡ true → d ≡ true) → (a && b) ≡ true → (c && d) ≡ true
both true b true d f g h = g h
both true b false d f g h = f refl
both false b c d f g h = cc

either : (a b : Bool) → b ≡ true → (a || b) ≡ true
either true b h = refl
either false b h = h

fits_any : (d : PlainDomain) (v : Value) → is_instance d ≡ true → domain_fits d v ≡ true
fits_any boolean v h = cc
fits_any (members ms) v h = cc
fits_any (between low high) v h = cc
fits_any (bits n) v h = cc
fits_any (instance m actuals) v h = refl

items_fit : (path : List ℕ) (values : Valuation) (items : List PlainItem) → list_all is_free_item items ≡ true → list_all (is_fit path values) items ≡ true
items_fit path values [] h = refl
items_fit path values (i ∷ items) h = both (is_free_item i) (list_all is_free_item items) (is_fit path values i) (list_all (is_fit path values) items) (fits_any i.domain _) (items_fit path values items) h

element_fit : (picked : VarKind → Bool) (path : List ℕ) (values : Valuation) (e : PlainElement) → is_free_element e ≡ true → element_fits picked path values e ≡ true
element_fit picked path values (vars kind items) h = either (not (picked kind)) (list_all (is_fit path values) items) (items_fit path values items h)
element_fit picked path values (defines ds) h = refl
element_fit picked path values (constants ns) h = refl
element_fit picked path values (assigns xs) h = refl
element_fit picked path values (init e) h = refl
element_fit picked path values (trans e) h = refl
element_fit picked path values (invar e) h = refl
element_fit picked path values (spec n e) h = refl

elements_fit : (picked : VarKind → Bool) (path : List ℕ) (values : Valuation) (es : List PlainElement) → list_all is_free_element es ≡ true → list_all (element_fits picked path values) es ≡ true
elements_fit picked path values [] h = refl
elements_fit picked path values (e ∷ es) h =
    both (is_free_element e) (list_all is_free_element es) (element_fits picked path values e) (list_all (element_fits picked path values) es) (element_fit picked path values e) (elements_fit picked path values es) h

all_fit : (picked : VarKind → Bool) (t : List Instance) (values : Valuation) → are_free t ≡ true → values_fit picked t values ≡ true
all_fit picked [] values h = refl
all_fit picked (at ∷ t) values h =
    both (list_all is_free_element at.module.elements) (are_free t) (list_all (element_fits picked at.path values) at.module.elements) (values_fit picked t values)
    (elements_fit picked at.path values at.module.elements) (all_fit picked t values) h

free_in : (t u : List Instance) (b : Bool) → t ≡ u → b ≡ are_free t → b ≡ true → are_free u ≡ true
free_in t u b e f h = ap are_free (sym e) ∙ sym f ∙ h

pub now_fits : (t u : List Instance) (values : Valuation) (b : Bool) → t ≡ u → b ≡ are_free t → b ≡ true → IsTrue (state_fits u values)
now_fits t u values b e f h = all_fit _ u values (free_in t u b e f h)

pub inputs_fit : (t u : List Instance) (values : Valuation) (b : Bool) → t ≡ u → b ≡ are_free t → b ≡ true → IsTrue (label_fits u values)
inputs_fit t u values b e f h = all_fit _ u values (free_in t u b e f h)

pub stands : (t u : List Instance) (x : List ℕ) (i : ℕ) (e : Tree) → t ≡ u → i ≡ instance_number t x → OccursIn t i e → OccursIn u (instance_number u x) e
stands t u x i e et n h = subst (λ (s : List Instance). OccursIn s (instance_number u x) e) et (subst (λ (k : ℕ). OccursIn t k e) (n ∙ ap (λ s. instance_number s x) et) h)
