-- What the elements of an instance add: their formulas, and what they assign.
use Rattle.std.proofs.Common.{◌≡◌, ℕ, List, [], ◌∷◌, ◌++◌, map, flat_map, refl, sym, ap, ◌∙◌}
use Rattle.std.proofs.lemmas.Grind.{flat_map-append}
use Rattle.std.proofs.lemmas.List.{map-append}
use Rattle.smv_text.specs.Tree.{PlainAssignment, PlainElement, vars, defines, constants, assigns, init, trans, invar, spec}
use Rattle.smv_meaning.specs.Instances.{Instance}
use Rattle.smv_meaning.specs.Names.{found_in}
use Rattle.smv_meaning.specs.Phases.{element_assigns}
use Rattle.smv_flat.specs.FlatForms.{Form, assignment_form, element_forms}
use Rattle.smv_names.specs.declared.assignments.NumberedAssignment.{NumberedAssignment}
use Rattle.smv_model_types.specs.Building.{Piece, assigned_in, numbered_of, assignment_piece, element_pieces}

abbrev pub form_in : Piece → Form
form_in p = p.form

abbrev pub assigned_by : Piece → List NumberedAssignment
assigned_by p = p.assigned

assignments_forms : (t : List Instance) (i : ℕ) (xs : List PlainAssignment) → map form_in (map (assignment_piece t i) xs) ≡ map (assignment_form t i) xs
assignments_forms t i [] = refl
assignments_forms t i (a ∷ xs) = ap (λ fs. assignment_form t i a ∷ fs) (assignments_forms t i xs)

element_piece_forms : (t : List Instance) (i : ℕ) (e : PlainElement) → map form_in (element_pieces t i e) ≡ element_forms t i e
element_piece_forms t i (assigns xs) = assignments_forms t i xs
element_piece_forms t i (vars kind items) = refl
element_piece_forms t i (defines ds) = refl
element_piece_forms t i (constants cs) = refl
element_piece_forms t i (init e) = refl
element_piece_forms t i (trans e) = refl
element_piece_forms t i (invar e) = refl
element_piece_forms t i (spec l e) = refl

pub pieces_forms : (t : List Instance) (i : ℕ) (es : List PlainElement) → map form_in (flat_map (element_pieces t i) es) ≡ flat_map (element_forms t i) es
pieces_forms t i [] = refl
pieces_forms t i (e ∷ es) =
    map-append form_in (element_pieces t i e) (flat_map (element_pieces t i) es)
    ∙ ap (λ fs. fs ++ map form_in (flat_map (element_pieces t i) es)) (element_piece_forms t i e) ∙ ap (λ fs. element_forms t i e ++ fs) (pieces_forms t i es)

assignments_assigned : (t : List Instance) (i : ℕ) (xs : List PlainAssignment) → flat_map assigned_by (map (assignment_piece t i) xs) ≡ map (numbered_of t) (element_assigns (found_in t) i (assigns xs))
assignments_assigned t i [] = refl
assignments_assigned t i (a ∷ xs) = ap (λ ys. numbered_of t (assigned_in t i a) ∷ ys) (assignments_assigned t i xs)

element_assigned : (t : List Instance) (i : ℕ) (e : PlainElement) → flat_map assigned_by (element_pieces t i e) ≡ map (numbered_of t) (element_assigns (found_in t) i e)
element_assigned t i (assigns xs) = assignments_assigned t i xs
element_assigned t i (vars kind items) = refl
element_assigned t i (defines ds) = refl
element_assigned t i (constants cs) = refl
element_assigned t i (init e) = refl
element_assigned t i (trans e) = refl
element_assigned t i (invar e) = refl
element_assigned t i (spec l e) = refl

pub pieces_assigned : (t : List Instance) (i : ℕ) (es : List PlainElement) → flat_map assigned_by (flat_map (element_pieces t i) es) ≡ map (numbered_of t) (flat_map (element_assigns (found_in t) i) es)
pieces_assigned t i [] = refl
pieces_assigned t i (e ∷ es) =
    flat_map-append assigned_by (element_pieces t i e) (flat_map (element_pieces t i) es)
    ∙ ap (λ xs. xs ++ flat_map assigned_by (flat_map (element_pieces t i) es)) (element_assigned t i e)
    ∙ ap (λ xs. map (numbered_of t) (element_assigns (found_in t) i e) ++ xs) (pieces_assigned t i es)
    ∙ sym (map-append (numbered_of t) (element_assigns (found_in t) i e) (flat_map (element_assigns (found_in t) i) es))
