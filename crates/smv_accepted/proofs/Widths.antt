-- No expression of an accepted model has an integer of more than 64 bits.
use Rattle.std.proofs.Common.{ℕ, zero, suc, ◌+◌, ◌-◌, ◌^◌, ◌≤◌, max, Bool, true, false, not, ◌&&◌, if◌then◌else◌, pos, neg_ℤ, int_le, List, [], ◌∷◌, ◌++◌, map, flat_map, Option, Some, None, refl, sym, subst, arith}
use Rattle.std.proofs.lemmas.Int.{ints}
use Rattle.text_core.specs.declared.place.Place.{Place}
use Rattle.smv_text.specs.declared.tree.Path.{Path}
use Rattle.smv_text.specs.declared.tree.VarKind.{VarKind}
use Rattle.smv_text.specs.declared.tree.Parameter.{Parameter}
use Rattle.smv_text.specs.declared.operators.Infix.{Infix}
use Rattle.smv_text.specs.declared.operators.Infix.TheVariants.{ShiftLeft, ShiftRight}
use Rattle.smv_text.specs.declared.operators.Function.{Function}
use Rattle.smv_text.specs.declared.operators.Function.TheVariants as OfFunction
use Rattle.smv_text.specs.Tree.{Tree, truth, number, literal, name, prefix, chain, choice, cases, select, call, next, set, range, Links, no_links, link, Branches, no_branches, branch, Trees, no_trees, tree, PlainDomain, PlainItem, PlainDefinition, PlainAssignment, PlainElement, vars, defines, constants, assigns, init, trans, invar, spec}
use Rattle.smv_meaning.specs.Expressions.{is_from_right}
use Rattle.smv_meaning.specs.Instances.{Instance, instances_of}
use Rattle.smv_meaning.specs.Names.{Found, variable_at, body_at, instance_at, symbol_of, cyclic, none, parent_of, found_in, steps_of}
use Rattle.smv_meaning.specs.Meaning.{is_input}
use Rattle.smv_meaning.specs.Types.{ExprType, truth_type, integer_type, symbol_type, word_type}
use Rattle.smv_meaning.specs.Checks.{Position, single, under_next, Named, Typing, front, across, behind, typing, variable_type}
use Rattle.smv_meaning.specs.Naming.{in_body, named_found, naming, typed_variable}
use Rattle.smv_meaning.specs.Phases.{in_state, in_step, in_assignment, over_instances}
use Rattle.smv_meaning.specs.Settled.{types_in}
use Rattle.smv_meaning.specs.laws.Booleans.{both_true}
use Rattle.smv_flat.specs.FlatWidth.{interval_width, integers_width, node_width, operand_width, arguments_width}
use Rattle.smv_width.specs.SourceWidth.{expression_width, implied_width, fronts_width, branch_width, part_width, front_width, greatest, element_widths, actual_width, actual_widths, instance_widths}
use Rattle.smv_width.proofs.WidthLaw.{interval_width_is_least}
use Rattle.smv_width.proofs.ModelWidths.{same_model_width}
use Rattle.smv_accepted.specs.WidthLaws.{WidthIsSmall}
use Rattle.smv_accepted.proofs.Limits.{IsGood, IsGoodIf, NamesAreGood, type_good, front_is_good, variable_good}

-- ---- types

good_width : (t : ExprType) → IsGood t → integers_width t ≤ 64
good_width (integer_type low high) h =
    let b = both_true (int_le (neg_ℤ (pos (2 ^ 62))) low) (int_le high (pos (2 ^ 62 - 1))) h.1 in
    let p = b.0 in
    let q = b.1 in
    let w : interval_width low high ≤ 63 = (interval_width_is_least low high h.0).least 63 (omega arith) (λ z l m. (omega (arith, ints), omega (arith, ints))) in
    omega (arith, w)
good_width truth_type h = omega arith
good_width symbol_type h = omega arith
good_width (word_type n) h = omega arith

node_low : (o : Option ExprType) → IsGoodIf o → node_width o ≤ 64
node_low None h = omega arith
node_low (Some t) h = good_width t h

-- ---- expressions

operand_low : (o : Infix) (w : ℕ) → w ≤ 64 → operand_width o w ≤ 64
operand_low ShiftLeft w h = omega arith
operand_low ShiftRight w h = omega arith
operand_low o w h = h

arguments_low : (f : Function) (first all : ℕ) → first ≤ 64 → all ≤ 64 → arguments_width f first all ≤ 64
arguments_low OfFunction.Uwconst first all h k = omega arith
arguments_low OfFunction.Extend first all h k = h
arguments_low OfFunction.Resize first all h k = h
arguments_low f first all h k = k

both_low : (a b : ℕ) → a ≤ 64 → b ≤ 64 → max a b ≤ 64
both_low a b h k = omega (arith, h, k)

pick_low : (b : Bool) (m n : ℕ) → m ≤ 64 → n ≤ 64 → (if b then m else n) ≤ 64
pick_low true m n h k = h
pick_low false m n h k = k

node_at : (names : Path → Named) → NamesAreGood names → (at : Position) (e : Tree) → node_width (typing names at e).type ≤ 64
node_at names g at e = node_low (typing names at e).type (type_good names g at e)

mutual
  low : (names : Path → Named) → NamesAreGood names → (at : Position) (e : Tree) → expression_width names at e ≤ 64
  low names g at (truth p b) = node_at names g at (truth p b)
  low names g at (number p n) = node_at names g at (number p n)
  low names g at (literal p w) = node_at names g at (literal p w)
  low names g at (name p x) = node_at names g at (name p x)
  low names g at (prefix p sign n e) = both_low _ _ (node_at names g at (prefix p sign n e)) (low names g (single at) e)
  low names g at (chain p e ls) =
      both_low _ _ (node_at names g at (chain p e ls))
      (pick_low (is_from_right ls) _ _ (both_low _ _ (low names g (single at) e) (implied_low names g (single at) ls))
      (both_low _ _ (low names g (across ls at) e) (fronts_low names g (across ls at) p (typing names (across ls at) e) ls (type_good names g (across ls at) e))))
  low names g at (choice p bs e) = both_low _ _ (node_at names g at (choice p bs e)) (both_low _ _ (branches_low names g at bs) (low names g at e))
  low names g at (cases p bs) = both_low _ _ (node_at names g at (cases p bs)) (branches_low names g at bs)
  low names g at (select p e high low') = both_low _ _ (node_at names g at (select p e high low')) (low names g (single at) e)
  low names g at (call p f es) = both_low _ _ (node_at names g at (call p f es)) (arguments_low f _ _ (first_low names g (single at) es) (parts_low names g (single at) es))
  low names g at (next p e) = both_low _ _ (node_at names g at (next p e)) (low names g under_next e)
  low names g at (set p es) = both_low _ _ (node_at names g at (set p es)) (parts_low names g at es)
  low names g at (range p least most) = node_at names g at (range p least most)

  implied_low : (names : Path → Named) → NamesAreGood names → (at : Position) (ls : Links) → implied_width names at ls ≤ 64
  implied_low names g at no_links = omega arith
  implied_low names g at (link o e ls) = both_low _ _ (low names g at e) (implied_low names g at ls)

  fronts_low : (names : Path → Named) → NamesAreGood names → (at : Position) (p : Place) (a : Typing) (ls : Links) → IsGoodIf a.type → fronts_width names at p a ls ≤ 64
  fronts_low names g at p a no_links h = omega arith
  fronts_low names g at p a (link o e ls) h =
      let k = front_is_good names g o at p a e h in
      both_low _ _ (both_low _ _ (operand_low o _ (low names g (behind o at) e)) (node_low (front o at p a (typing names (behind o at) e) e).type k)) (fronts_low names g at p (front o at p a (typing names (behind o at) e) e) ls k)

  branches_low : (names : Path → Named) → NamesAreGood names → (at : Position) (bs : Branches) → branch_width names at bs ≤ 64
  branches_low names g at no_branches = omega arith
  branches_low names g at (branch c e rest) = both_low _ _ (both_low _ _ (low names g (single at) c) (low names g at e)) (branches_low names g at rest)

  parts_low : (names : Path → Named) → NamesAreGood names → (at : Position) (es : Trees) → part_width names at es ≤ 64
  parts_low names g at no_trees = omega arith
  parts_low names g at (tree e es) = both_low _ _ (low names g at e) (parts_low names g at es)

  first_low : (names : Path → Named) → NamesAreGood names → (at : Position) (es : Trees) → front_width names at es ≤ 64
  first_low names g at no_trees = omega arith
  first_low names g at (tree e es) = low names g at e

-- ---- names

variable_named : (kind : VarKind) (d : PlainDomain) → IsGoodIf (typed_variable true kind d)
variable_named kind d = by (is_input kind && not true)
  where
    by : (b : Bool) → IsGoodIf (if b then None else variable_type d)
    by true = tt
    by false = variable_good d

found_good : (names : ℕ → Path → Named) → ((i : ℕ) → NamesAreGood (names i)) → (m : Found) → IsGoodIf (named_found true names m).type
found_good names g (variable_at x kind d) = variable_named kind d
found_good names g (body_at i x j e) = type_good (names j) (g j) in_body e
found_good names g (instance_at i) = tt
found_good names g (symbol_of x) = (tt, refl)
found_good names g cyclic = tt
found_good names g none = tt

naming_good : (found : ℕ → Path → Found) (n i : ℕ) → NamesAreGood (naming true found n i)
unfolding naming
naming_good found zero i x = tt
naming_good found (suc n) i x = found_good (naming true found n) (naming_good found n) (found i x)

pub names_good : (t : List Instance) (i : ℕ) → NamesAreGood (types_in true t i)
names_good t i = naming_good (found_in t) (steps_of t) i

pub expression_low : (t : List Instance) (i : ℕ) (at : Position) (e : Tree) → expression_width (types_in true t i) at e ≤ 64
expression_low t i at e = low (types_in true t i) (names_good t i) at e

-- ---- models

append_low : (xs ys : List ℕ) → greatest xs ≤ 64 → greatest ys ≤ 64 → greatest (xs ++ ys) ≤ 64
append_low [] ys h k = k
append_low (x ∷ xs) ys h k = both_low x (greatest (xs ++ ys)) (omega (arith, h)) (append_low xs ys (omega (arith, h)) k)

map_low : {X : Type 0} (f : X → ℕ) (xs : List X) → ((x : X) → f x ≤ 64) → greatest (map f xs) ≤ 64
map_low f [] h = omega arith
map_low f (x ∷ xs) h = both_low (f x) (greatest (map f xs)) (h x) (map_low f xs h)

flat_low : {X : Type 0} (f : X → List ℕ) (xs : List X) → ((x : X) → greatest (f x) ≤ 64) → greatest (flat_map f xs) ≤ 64
flat_low f [] h = omega arith
flat_low f (x ∷ xs) h = append_low (f x) (flat_map f xs) (h x) (flat_low f xs h)

one_low : (n : ℕ) → n ≤ 64 → greatest (n ∷ []) ≤ 64
one_low n h = omega (arith, h)

element_low : (t : List Instance) (i : ℕ) (x : PlainElement) → greatest (element_widths (types_in true t i) x) ≤ 64
element_low t i (vars kind items) = map_low (λ (v : PlainItem). node_width (variable_type v.domain)) items (λ v. node_low (variable_type v.domain) (variable_good v.domain))
element_low t i (defines ds) = map_low (λ (d : PlainDefinition). expression_width (types_in true t i) in_body d.body) ds (λ d. expression_low t i in_body d.body)
element_low t i (constants cs) = omega arith
element_low t i (assigns xs) = map_low (λ (a : PlainAssignment). expression_width (types_in true t i) (in_assignment a.when) a.body) xs (λ a. expression_low t i (in_assignment a.when) a.body)
element_low t i (init e) = one_low _ (expression_low t i in_state e)
element_low t i (trans e) = one_low _ (expression_low t i in_step e)
element_low t i (invar e) = one_low _ (expression_low t i in_state e)
element_low t i (spec label e) = one_low _ (expression_low t i in_state e)

actual_low : (t : List Instance) (j : ℕ) (e : Tree) → greatest (actual_width (types_in true t j) e) ≤ 64
actual_low t j (name p x) = omega arith
actual_low t j (truth p b) = one_low _ (expression_low t j in_body (truth p b))
actual_low t j (number p n) = one_low _ (expression_low t j in_body (number p n))
actual_low t j (literal p w) = one_low _ (expression_low t j in_body (literal p w))
actual_low t j (prefix p sign n e) = one_low _ (expression_low t j in_body (prefix p sign n e))
actual_low t j (chain p e ls) = one_low _ (expression_low t j in_body (chain p e ls))
actual_low t j (choice p bs e) = one_low _ (expression_low t j in_body (choice p bs e))
actual_low t j (cases p bs) = one_low _ (expression_low t j in_body (cases p bs))
actual_low t j (select p e high least) = one_low _ (expression_low t j in_body (select p e high least))
actual_low t j (call p f es) = one_low _ (expression_low t j in_body (call p f es))
actual_low t j (next p e) = one_low _ (expression_low t j in_body (next p e))
actual_low t j (set p es) = one_low _ (expression_low t j in_body (set p es))
actual_low t j (range p least most) = one_low _ (expression_low t j in_body (range p least most))

actuals_low : (t : List Instance) (j : ℕ) (qs : List Parameter) (es : Trees) → greatest (actual_widths (types_in true t j) qs es) ≤ 64
actuals_low t j [] es = omega arith
actuals_low t j (q ∷ qs) no_trees = omega arith
actuals_low t j (q ∷ qs) (tree e es) = append_low (actual_width (types_in true t j) e) (actual_widths (types_in true t j) qs es) (actual_low t j e) (actuals_low t j qs es)

instances_low : (t : List Instance) (i : ℕ) (rest : List Instance) → greatest (over_instances (instance_widths t) i rest) ≤ 64
instances_low t i [] = omega arith
instances_low t i (at ∷ rest) =
    append_low (instance_widths t i at) (over_instances (instance_widths t) (i + 1) rest)
    (append_low (actual_widths (types_in true t (parent_of at)) at.module.parameters at.actuals) (flat_map (element_widths (types_in true t i)) at.module.elements)
    (actuals_low t (parent_of at) at.module.parameters at.actuals) (flat_low (element_widths (types_in true t i)) at.module.elements (element_low t i)))
    (instances_low t (i + 1) rest)

pub width_is_small_law : WidthIsSmall
width_is_small_law source end xs spelled needed accepted =
    subst (λ n. n ≤ 64) (sym (same_model_width source end xs spelled needed accepted)) (both_low 1 _ (omega arith) (instances_low (instances_of source) 0 (instances_of source)))
