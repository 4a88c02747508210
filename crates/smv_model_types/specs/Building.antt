-- What the pass over a model's instances has built.
use Rattle.std.specs.Prelude.{◌≡◌, ℕ, true, if◌then◌else◌, List, [], ◌∷◌, ◌++◌, map, flat_map, option_map, length, Some, None}
use Rattle.smv_text.specs.Tree.{Tree, Trees, PlainAssignment, PlainElement, assigns}
use Rattle.smv_meaning.specs.Expressions.{paths_of, tree_paths}
use Rattle.smv_meaning.specs.Instances.{Instance}
use Rattle.smv_meaning.specs.Names.{found_in}
use Rattle.smv_meaning.specs.Phases.{Assigned, element_assigns, element_paths, is_assignable, path_check}
use Rattle.smv_meaning.specs.Checks.{Check, first_failing, typing}
use Rattle.smv_meaning.specs.Naming.{in_body}
use Rattle.smv_meaning.specs.Settled.{types_in}
use Rattle.smv_instances.specs.View.{instance_plain}
use Rattle.smv_intervals.specs.View.{seen}
use Rattle.smv_items.specs.FlatItems.{Origin, with_content, actual_content, content_type, items_here, origins_of, leaf_found}
use Rattle.smv_flat.specs.declared.forms.Role.TheVariants.{Body}
use Rattle.smv_flat.specs.FlatForms.{Form, body_forms, flat_in, number_or_first, assignment_form, element_forms, forms_here}
use Rattle.smv_flat.specs.FlatFormulas.{form_plain}
use Rattle.smv_names.specs.declared.assignments.NumberedAssignment.{NumberedAssignment}
use Rattle.smv_model_types.specs.declared.built.Building.{Building}
use Rattle.smv_model_types.specs.declared.context.Context.{Context}
use Rattle.smv_model_types.specs.Kept.{AreKept, Stand}

-- the instances of a context's model
abbrev pub instances_in : Context → List Instance
instances_in context = map instance_plain context.model.now.table.now

-- an assignment or a section: its formula, and what it assigns
pub record Piece : Type 0 where
  pub form : Form
  pub assigned : List NumberedAssignment

-- an assignment with the number of its item, where the target can be assigned
abbrev pub numbered_of : List Instance → Assigned → NumberedAssignment
numbered_of t a = record {
  when = a.when;
  item = if is_assignable a.when a.target then Some (number_or_first (leaf_found t a.target)) else None;
  place = a.place;
}

-- a section assigns nothing
abbrev pub section_piece : Form → Piece
section_piece f = record { form = f; assigned = [] }

-- an assignment of the numbered instance
abbrev pub assigned_in : List Instance → ℕ → PlainAssignment → Assigned
assigned_in t i a = record { when = a.when; target = found_in t i a.target; place = a.target.place }

abbrev pub assignment_piece : List Instance → ℕ → PlainAssignment → Piece
assignment_piece t i a = record { form = assignment_form t i a; assigned = numbered_of t (assigned_in t i a) ∷ [] }

-- the assignments and the section of an element
abbrev pub element_pieces : List Instance → ℕ → PlainElement → List Piece
element_pieces t i (assigns xs) = map (assignment_piece t i) xs
element_pieces t i e = map section_piece (element_forms t i e)

-- the assignments of an instance
abbrev pub assigned_here : List Instance → ℕ → Instance → List NumberedAssignment
assigned_here t i at = map (numbered_of t) (flat_map (element_assigns (found_in t) i) at.module.elements)

-- these items come next, and what is kept is right
pub record IsReady (t : List Instance) (ms : List Origin) (now : Building) : Type 0 where
  pub kept : AreKept t now.kept.items
  pub items : Stand (origins_of t) (length now.types.items) ms

-- these items more, and these assignments and sections
pub record Adds (t : List Instance) (ms : List Origin) (ps : List Piece) (old new : Building) : Type 0 where
  pub types : map (option_map seen) new.types.items ≡ map (option_map seen) old.types.items ++ map (λ m. content_type t m.content) ms
  pub forms : map form_plain new.forms.items ≡ map form_plain old.forms.items ++ body_forms t (length old.types.items) ms
  pub rest : map form_plain new.rest.items ≡ map form_plain old.rest.items ++ map (λ p. p.form) ps
  pub assigned : new.assigned.items ≡ old.assigned.items ++ flat_map (λ p. p.assigned) ps
  pub kept : AreKept t old.kept.items → AreKept t new.kept.items

-- the body that is read in instance j, as the next item
pub record BodyAdds (t : List Instance) (i j : ℕ) (e : Tree) (old new : Building) : Type 0 where
  pub types : map (option_map seen) new.types.items ≡ map (option_map seen) old.types.items ++ (typing (types_in true t j) in_body e).type ∷ []
  pub forms : map form_plain new.forms.items ≡ map form_plain old.forms.items ++ record { instance = i; role = Body (length old.types.items); body = flat_in t j in_body e } ∷ []
  pub rest : map form_plain new.rest.items ≡ map form_plain old.rest.items
  pub assigned : new.assigned.items ≡ old.assigned.items
  pub kept : AreKept t old.kept.items → AreKept t new.kept.items

-- an instance more
pub record InstanceAdds (t : List Instance) (i : ℕ) (at : Instance) (old new : Building) : Type 0 where
  pub types : map (option_map seen) new.types.items ≡ map (option_map seen) old.types.items ++ map (λ m. content_type t m.content) (items_here i at)
  pub forms : map form_plain new.forms.items ≡ map form_plain old.forms.items ++ forms_here t (length old.types.items) i at
  pub rest : new.rest.items ≡ []
  pub assigned : new.assigned.items ≡ old.assigned.items ++ assigned_here t i at
  pub kept : AreKept t old.kept.items → AreKept t new.kept.items

-- the checks of the paths of an expression, of several, of an assignment and of an element, which are read in the numbered instance
abbrev pub expression_paths : List Instance → ℕ → Tree → List Check
expression_paths t i e = map (path_check (found_in t) i) (paths_of e [])

abbrev pub all_paths : List Instance → ℕ → Trees → List Check
all_paths t i es = map (path_check (found_in t) i) (tree_paths es [])

abbrev pub assignment_paths : List Instance → ℕ → PlainAssignment → List Check
assignment_paths t i a = path_check (found_in t) i a.target ∷ expression_paths t i a.body

abbrev pub paths_here : List Instance → ℕ → PlainElement → List Check
paths_here t i e = map (path_check (found_in t) i) (element_paths e)

-- where all paths are known to have targets afterwards, they were before, and these checks of paths hold
abbrev pub Finds : List Check → Building → Building → Type 0
Finds cs old new = new.all_found ≡ true → (old.all_found ≡ true) × (first_failing cs ≡ None)

-- the item of an actual that has a parameter, but for its name
abbrev pub own_items : ℕ → ℕ → Tree → List Origin
own_items i j e = with_content i [] (actual_content j e)
