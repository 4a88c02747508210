-- Steps of looking a name up.
use Rattle.std.proofs.Common.{◌≡◌, ℕ, ◌≤◌, List, [], ◌∷◌, map, drop, length, refl, sym, ap, ◌∙◌, arith}
use Rattle.smv_text.specs.declared.tree.Parameter.{Parameter}
use Rattle.smv_text.specs.declared.tree.Expr.{Expr}
use Rattle.smv_text.specs.Tree.{trees_of, no_trees}
use Rattle.smv_text.specs.View.{plain, plain_element}
use Rattle.std.proofs.Common.{Bool, position, Option}
use Rattle.std.proofs.Common.{not, bytes_eq}
use Rattle.std.specs.Prelude.{unwrap_or}
use Rattle.std.proofs.Common.{sum_by, ◌+◌}
use Rattle.smv_meaning.specs.Names.{trees_in, definitions_in, bodies_in, steps_of, Local, among_parameters}
use Rattle.std.proofs.lemmas.List.Sums.{sum_by-cons}
use Rattle.smv_meaning.specs.Owed.{instance_number}
use Rattle.std.specs.List.{prefix_len}
use Rattle.std.proofs.lemmas.List.{length-map}
use Rattle.smv_instances.specs.declared.instances.Instance.{Instance as PartOf}
use Rattle.smv_instances.specs.View.{instance_plain}
use Rattle.smv_meaning.specs.laws.Lists.{trees_end}

none_left : (j : ℕ) (qs : List Parameter) (x : List ℕ) (other : Local) → among_parameters j qs no_trees x other ≡ other
none_left j [] x other = refl
none_left j (q ∷ qs) x other = refl

pub parameters_end : (j k n : ℕ) (qs : List Parameter) (es : List Expr) (x : List ℕ) (other : Local) → n ≡ length es → n ≤ k
    → among_parameters j qs (trees_of (map plain (drop k es))) x other ≡ other
parameters_end j k n qs es x other e l = ap (λ ts. among_parameters j qs ts x other) (trees_end es k n e l) ∙ none_left j qs x other

prefix_mapped : {A B : Type 0} (q : B → Bool) (f : A → B) (xs : List A) → prefix_len q (map f xs) ≡ prefix_len (λ x. q (f x)) xs
prefix_mapped q f [] = refl
prefix_mapped q f (x ∷ xs) = let e = prefix_mapped q f xs in cc

pub position_mapped : {A B : Type 0} (q : B → Bool) (f : A → B) (xs : List A) → position q (map f xs) ≡ position (λ x. q (f x)) xs
position_mapped q f xs =
    let e = prefix_mapped (λ x. not (q x)) f xs in
    let l : length (map f xs) ≡ length xs = length-map xs f in
    simp (e, l)

pub trees_length : (es : List Expr) → trees_in (trees_of (map plain es)) ≡ length es
trees_length [] = refl
trees_length (e ∷ es) = let h = trees_length es in omega arith

pub number_found : (ts : List PartOf) (x : List ℕ) (o : Option ℕ) → o ≡ position (λ at. bytes_eq (instance_plain at).path x) ts → unwrap_or o (length ts) ≡ instance_number (map instance_plain ts) x
number_found ts x o e =
    ap (λ p. unwrap_or p (length ts)) (e ∙ sym (position_mapped (λ at. bytes_eq at.path x) instance_plain ts))
    ∙ ap (λ n. unwrap_or (position (λ at. bytes_eq at.path x) (map instance_plain ts)) n) (sym (length-map ts instance_plain))

-- the definitions and actuals of the first instance and those of the rest
pub steps_front : (ts : List PartOf) (p : PartOf) (ps : List PartOf) → ts ≡ p ∷ ps
    → steps_of (map instance_plain ts) ≡ sum_by definitions_in (map plain_element p.module.now.elements) + length p.actuals.now + steps_of (map instance_plain ps)
steps_front ts p ps e = ap (λ l. steps_of (map instance_plain l)) e ∙ (let h = trees_length p.actuals.now in let k = sum_by-cons bodies_in (instance_plain p) (map instance_plain ps) in omega arith)
