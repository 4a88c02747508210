-- Checks of paths, one list after another, where all paths are known to have targets.
use Rattle.std.proofs.Common.{◌≡◌, Bool, true, ◌&&◌, ℕ, List, [], ◌∷◌, ◌++◌, map, flat_map, None, refl, sym, ap, ◌∙◌, subst}
use Rattle.smv_text.specs.declared.tree.Path.{Path}
use Rattle.smv_text.specs.Tree.{PlainAssignment, PlainDefinition, PlainElement, defines, assigns}
use Rattle.smv_meaning.specs.Expressions.{paths_of}
use Rattle.smv_meaning.specs.Checks.{Check, check, first_failing}
use Rattle.smv_meaning.specs.Instances.{Instance}
use Rattle.smv_meaning.specs.Names.{found_in, parent_of}
use Rattle.smv_meaning.specs.Phases.{element_paths, is_something, path_check, path_checks}
use Rattle.smv_meaning.specs.laws.Booleans.{both_true}
use Rattle.smv_meaning.specs.laws.Composing.{both_pass}
use Rattle.smv_model_types.specs.declared.built.Building.{Building}
use Rattle.smv_model_types.specs.Building.{Finds, expression_paths, all_paths, assignment_paths, paths_here}
use Rattle.smv_model_types.proofs.TypedPaths.{map_flat}

pub finds_nothing : (b : Building) → Finds [] b b
finds_nothing b h = (h, refl)

pub finds_then : (cs ds : List Check) (a b c : Building) → Finds cs a b → Finds ds b c → Finds (cs ++ ds) a c
finds_then cs ds a b c h k e = let s = k e in let r = h s.0 in (r.0, both_pass cs ds r.1 s.1)

-- a part whose paths have targets where the test holds
pub finds_where : (cs : List Check) (test was now : Bool) → now ≡ (was && test) → (test ≡ true → first_failing cs ≡ None) → now ≡ true → (was ≡ true) × (first_failing cs ≡ None)
finds_where cs test was now e h k = let b = both_true was test (sym e ∙ k) in (b.0, h b.1)

-- a path that leads to something, and others behind it
pub target_found : (t : List Instance) (i : ℕ) (x : Path) (cs : List Check) → is_something (found_in t i x) ≡ true → first_failing cs ≡ None → first_failing (path_check (found_in t) i x ∷ cs) ≡ None
target_found t i x cs h k = ap (λ b. first_failing (check 14 x.place b ∷ cs)) h ∙ k

-- the paths of the definitions, the assignments and all elements of an instance
pub definitions_found : (t : List Instance) (i : ℕ) (ds : List PlainDefinition) → flat_map (λ (d : PlainDefinition). expression_paths t i d.body) ds ≡ paths_here t i (defines ds)
definitions_found t i ds = sym (map_flat (path_check (found_in t) i) (λ (d : PlainDefinition). paths_of d.body []) ds)

pub assignments_found : (t : List Instance) (i : ℕ) (xs : List PlainAssignment) → flat_map (assignment_paths t i) xs ≡ paths_here t i (assigns xs)
assignments_found t i xs = sym (map_flat (path_check (found_in t) i) (λ (a : PlainAssignment). a.target ∷ paths_of a.body []) xs)

pub elements_found : (t : List Instance) (i : ℕ) (es : List PlainElement) → flat_map (paths_here t i) es ≡ map (path_check (found_in t) i) (flat_map element_paths es)
elements_found t i es = sym (map_flat (path_check (found_in t) i) element_paths es)

-- those of an instance: of its actuals, which are read in its parent, and its own
pub instance_found : (t : List Instance) (i p : ℕ) (at : Instance) (old mid new : Building) → p ≡ parent_of at
    → Finds (all_paths t p at.actuals) old mid → Finds (flat_map (paths_here t i) at.module.elements) mid new → Finds (path_checks (found_in t) i at) old new
instance_found t i p at old mid new parent own more =
    let first = subst (λ j. Finds (all_paths t j at.actuals) old mid) parent own in
    let rest = subst (λ (cs : List Check). Finds cs mid new) (elements_found t i at.module.elements) more in
    finds_then (all_paths t (parent_of at) at.actuals) (map (path_check (found_in t) i) (flat_map element_paths at.module.elements)) old mid new first rest
