-- Lists of items, grown from the left.
use Rattle.std.proofs.Common.{◌≡◌, ℕ, ◌+◌, ◌⊎◌, inl, inr, List, [], ◌∷◌, ◌++◌, map, flat_map, Option, Some, None, refl, ap, ◌∙◌}
use Rattle.std.specs.List.{AllByRecursion}
use Rattle.text_core.proofs.ListLaws.{append_none}
use Rattle.smv_text.specs.declared.tree.Parameter.{Parameter}
use Rattle.smv_text.specs.declared.tree.Expr.{Expr}
use Rattle.smv_text.specs.Tree.{Trees, no_trees, tree, trees_of, PlainDefinition, PlainElement, vars, defines, constants, assigns, init, trans, invar, spec}
use Rattle.smv_text.specs.View.{plain}
use Rattle.smv_meaning.specs.Instances.{Instance}
use Rattle.smv_meaning.specs.Names.{parent_of}
use Rattle.smv_items.specs.FlatItems.{Content, Origin, with_content, actual_content, actual_items, domain_content, variable_item, definition_item, element_items, items_here}

none_actual : (i j : ℕ) (qs : List Parameter) → actual_items i j qs no_trees ≡ []
none_actual i j [] = refl
none_actual i j (q ∷ qs) = refl

-- no items follow where either list is at its end
pub no_actuals : (i j : ℕ) (qs : List Parameter) (es : List Expr) (items : List Origin) → (qs ≡ []) ⊎ (es ≡ []) → items ++ actual_items i j qs (trees_of (map plain es)) ≡ items
no_actuals i j qs es items (inl e) = ap (λ ps. items ++ actual_items i j ps (trees_of (map plain es))) e ∙ append_none items
no_actuals i j qs es items (inr e) = ap (λ fs. items ++ actual_items i j qs (trees_of (map plain fs))) e ∙ ap (λ ms. items ++ ms) (none_actual i j qs) ∙ append_none items

-- ---- all items of an instance have its number

abbrev pub AllOwn : ℕ → List Origin → Type 0
AllOwn i ms = AllByRecursion (λ m. m.instance ≡ i) ms

own_both : (i : ℕ) (xs ys : List Origin) → AllOwn i xs → AllOwn i ys → AllOwn i (xs ++ ys)
own_both i [] ys h k = k
own_both i (x ∷ xs) ys h k = (h.0, own_both i xs ys h.1 k)

own_content : (i : ℕ) (x : List ℕ) (o : Option Content) → AllOwn i (with_content i x o)
own_content i x None = tt
own_content i x (Some c) = (refl, tt)

own_actuals : (i j : ℕ) (qs : List Parameter) (es : Trees) → AllOwn i (actual_items i j qs es)
own_actuals i j [] es = tt
own_actuals i j (q ∷ qs) no_trees = tt
own_actuals i j (q ∷ qs) (tree e es) = own_both i (with_content i q.name (actual_content j e)) (actual_items i j qs es) (own_content i q.name (actual_content j e)) (own_actuals i j qs es)

own_each : {X : Type 0} (i : ℕ) (f : X → List Origin) → ((x : X) → AllOwn i (f x)) → (xs : List X) → AllOwn i (flat_map f xs)
own_each i f h [] = tt
own_each i f h (x ∷ xs) = own_both i (f x) (flat_map f xs) (h x) (own_each i f h xs)

own_definitions : (i : ℕ) (ds : List PlainDefinition) → AllOwn i (map (definition_item i) ds)
own_definitions i [] = tt
own_definitions i (d ∷ ds) = (refl, own_definitions i ds)

own_element : (i : ℕ) (e : PlainElement) → AllOwn i (element_items i e)
own_element i (vars kind items) = own_each i (variable_item i kind) (λ v. own_content i v.name (domain_content kind v.domain)) items
own_element i (defines ds) = own_definitions i ds
own_element i (constants names) = tt
own_element i (assigns xs) = tt
own_element i (init e) = tt
own_element i (trans e) = tt
own_element i (invar e) = tt
own_element i (spec label e) = tt

pub own_here : (i : ℕ) (at : Instance) → AllOwn i (items_here i at)
own_here i at =
    own_both i (actual_items i (parent_of at) at.module.parameters at.actuals) (flat_map (element_items i) at.module.elements) (own_actuals i (parent_of at) at.module.parameters at.actuals)
    (own_each i (element_items i) (own_element i) at.module.elements)
