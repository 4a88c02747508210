-- The enumerations of a reading have no more constants than its forms have atoms.
use Rattle.std.proofs.Common.{ℕ, ◌≤◌, Bool, not, Option, None, Some, List, [], ◌∷◌, ◌++◌, length, arith}
use Rattle.std.specs.List.{AllByRecursion}
use Rattle.std.proofs.lemmas.Bool.{cond_both}
use Rattle.std.proofs.lemmas.List.{length-append}
use Rattle.text_core.specs.declared.place.Place.{Place}
use Rattle.moxi_sexpr.specs.declared.form.Atom.TheVariants.{Symbol, Keyword, Numeral, Binary, Hex, Quote}
use Rattle.moxi_sexpr.specs.Tree.{Tree, atom, list, Trees, no_trees, tree}
use Rattle.moxi_term_reading.specs.Forms.{pair_of, place_in, only_of, symbol_of}
use Rattle.moxi_term_reading.specs.SortReading.{sort_reading}
use Rattle.moxi_terms.specs.declared.data.Sort.{Sort}
use Rattle.moxi_terms.specs.declared.term.Enumeration.{Enumeration}
use Rattle.moxi_terms.specs.Names.{is_sort_name, is_term_name, may_be_enumeration, with_enumeration, with_function, with_sort}
use Rattle.moxi_terms.specs.View.{ScopeState}
use Rattle.moxi_scripts.specs.declared.parts.CommandName.{CommandName}
use Rattle.moxi_scripts.specs.declared.parts.CommandName.TheVariants as name
use Rattle.moxi_scripts.specs.Commands.{Reading, command_named, reading_after, with_command, with_form, with_headed, with_known}
use Rattle.moxi_scripts.specs.Declarations.{FunctionForms, body_reading, constants_in, function_forms, is_nil, may_be_constants, part_failures, result_sort, symbol_name, symbols_in, typed_function, with_defined_sort, with_function_of, with_listed, with_named_enumeration, with_new_enumeration, with_sort_if, with_sort_of, with_typed_function}
use Rattle.moxi_scripts.specs.Entries.{entries_of, known_sort}
use Rattle.moxi_scripts.specs.Shapes.{HeadedForms, NamedForm, headed, headed_by, named_by, named_in, parts_of}
use Rattle.moxi_layout.proofs.Atoms.{atom_count, atoms_count}

-- the enumerations of a scope have at most n constants each
abbrev pub AtMost : ℕ → ScopeState → Type 0
AtMost n s = AllByRecursion (λ (e : Enumeration). length e.constants ≤ n) s.enumerations

one_more : (n : ℕ) (es : List Enumeration) (x : Enumeration) → AllByRecursion (λ (e : Enumeration). length e.constants ≤ n) es → length x.constants ≤ n
    → AllByRecursion (λ (e : Enumeration). length e.constants ≤ n) (es ++ x ∷ [])
one_more n [] x all h = (h, tt)
one_more n (e ∷ es) x all h = (all.0, one_more n es x all.1 h)

-- ATOMS OF PARTS

abbrev HeadedAtMost : ℕ → Option HeadedForms → Type 0
HeadedAtMost n None = Unit {0}
HeadedAtMost n (Some h) = atoms_count h.rest ≤ n

abbrev NamedAtMost : ℕ → Option NamedForm → Type 0
NamedAtMost n None = Unit {0}
NamedAtMost n (Some x) = atom_count x.form ≤ n

abbrev FormAtMost : ℕ → Option Tree → Type 0
FormAtMost n None = Unit {0}
FormAtMost n (Some t) = atom_count t ≤ n

abbrev PartsAtMost : ℕ → Option Trees → Type 0
PartsAtMost n None = Unit {0}
PartsAtMost n (Some ts) = atoms_count ts ≤ n

headed_few : (n : ℕ) (ts : Trees) → atoms_count ts ≤ n → HeadedAtMost n (headed ts)
headed_few n no_trees h = tt
headed_few n (tree t ts) h = by_symbol (symbol_of t)
  where
    by_symbol : (o : Option (List ℕ × Bool)) → HeadedAtMost n (headed_by (place_in t) o ts)
    by_symbol None = tt
    by_symbol (Some x) = omega arith

only_few : (n : ℕ) (ts : Trees) → atoms_count ts ≤ n → FormAtMost n (only_of ts)
only_few n no_trees h = tt
only_few n (tree t no_trees) h = omega arith
only_few n (tree t (tree u us)) h = tt

named_few : (n : ℕ) (o : Option HeadedForms) → HeadedAtMost n o → NamedAtMost n (named_in o)
named_few n None h = tt
named_few n (Some x) h = by_form (only_of x.rest) (only_few n x.rest h)
  where
    by_form : (o : Option Tree) → FormAtMost n o → NamedAtMost n (named_by x o)
    by_form None f = tt
    by_form (Some t) f = f

parts_few : (n : ℕ) (t : Tree) → atom_count t ≤ n → PartsAtMost n (parts_of t)
parts_few n (atom p a) h = tt
parts_few n (list p ts) h = h

symbol_few : (t : Tree) → length (symbol_name (symbol_of t)) ≤ atom_count t
symbol_few (list p ts) = omega arith
symbol_few (atom p (Symbol name primed)) = omega arith
symbol_few (atom p (Keyword name)) = omega arith
symbol_few (atom p (Numeral digits)) = omega arith
symbol_few (atom p (Binary digits)) = omega arith
symbol_few (atom p (Hex digits)) = omega arith
symbol_few (atom p (Quote bytes)) = omega arith

symbols_few : (ts : Trees) → length (symbols_in ts) ≤ atoms_count ts
symbols_few no_trees = omega arith
symbols_few (tree t ts) =
    let here = symbol_few t in
    let behind = symbols_few ts in
    omega (arith, here, behind, length-append (symbol_name (symbol_of t)) (symbols_in ts))

-- DECLARATIONS

module _ (n : ℕ) (s : ScopeState) (i : AtMost n s) where
  added_few : (name : List ℕ) (cs : List (List ℕ)) → length cs ≤ n → AtMost n (with_new_enumeration s name cs)
  added_few name cs h =
      let x : Enumeration = record { name = name; constants = cs } in
      cond_both (may_be_enumeration s name cs) (with_enumeration s name cs) s (AtMost n) (λ _. one_more n s.enumerations x i h) (λ _. i)

  listed_few : (x : NamedForm) (o : Option Trees) → PartsAtMost n o → AtMost n (with_listed s x o)
  listed_few x None h = i
  listed_few x (Some cs) h =
      let few = symbols_few cs in
      cond_both (may_be_constants cs) (with_new_enumeration s x.name (symbols_in cs)) s (AtMost n) (λ _. added_few x.name (symbols_in cs) (omega (arith, few, h))) (λ _. i)

  enumeration_few : (o : Option NamedForm) → NamedAtMost n o → AtMost n (with_named_enumeration s o)
  enumeration_few None h = i
  enumeration_few (Some x) h = listed_few x (constants_in x) (parts_few n x.form h)

  sort_if_few : (name : List ℕ) (o : Option Sort) → AtMost n (with_sort_if s name o)
  sort_if_few name None = i
  sort_if_few name (Some sort) = cond_both (not (is_sort_name s name)) (with_sort s name sort) s (AtMost n) (λ _. i) (λ _. i)

  defined_sort_few : (p : Place) (h : HeadedForms) (o : Option (Tree × Tree)) → AtMost n (with_defined_sort s p h o)
  defined_sort_few p h None = i
  defined_sort_few p h (Some x) = sort_if_few h.name (known_sort (sort_reading s p x.1))

  sort_few : (p : Place) (o : Option HeadedForms) → AtMost n (with_sort_of s p o)
  sort_few p None = i
  sort_few p (Some h) = defined_sort_few p h (pair_of h.rest)

  typed_few : (f : FunctionForms) (o : Option Sort) → AtMost n (with_typed_function s f o)
  typed_few f None = i
  typed_few f (Some r) =
      let g = typed_function f.name.name (entries_of s f.parameters) (body_reading s f).term r in
      cond_both (not (is_term_name s g.name)) (with_function s g) s (AtMost n) (λ _. i) (λ _. i)

  function_few : (p : Place) (o : Option FunctionForms) → AtMost n (with_function_of s p o)
  function_few p None = i
  function_few p (Some f) =
      cond_both (is_nil (part_failures s p f)) (with_typed_function s f (known_sort (result_sort s p f))) s (AtMost n) (λ _. typed_few f (known_sort (result_sort s p f))) (λ _. i)

-- COMMANDS

command_few : (n : ℕ) (c : CommandName) (r : Reading) (p : Place) (ts : Trees) → AtMost n r.scope → atoms_count ts ≤ n → AtMost n (with_command c r p ts).scope
command_few n name.Logic r p ts i h = i
command_few n name.PassedOver r p ts i h = i
command_few n name.Enumeration r p ts i h = enumeration_few n r.scope i (named_in (headed ts)) (named_few n (headed ts) (headed_few n ts h))
command_few n name.Sort r p ts i h = sort_few n r.scope i p (headed ts)
command_few n name.Function r p ts i h = function_few n r.scope i p (function_forms ts)
command_few n name.System r p ts i h = i
command_few n name.Check r p ts i h = i

known_few : (n : ℕ) (o : Option CommandName) (r : Reading) (p : Place) (ts : Trees) → AtMost n r.scope → atoms_count ts ≤ n → AtMost n (with_known o r p ts).scope
known_few n None r p ts i h = i
known_few n (Some c) r p ts i h = command_few n c r p ts i h

head_few : (n : ℕ) (o : Option HeadedForms) (r : Reading) (p : Place) → AtMost n r.scope → HeadedAtMost n o → AtMost n (with_headed r p o).scope
head_few n None r p i h = i
head_few n (Some x) r p i h = known_few n (command_named x.name) r p x.rest i h

form_few : (n : ℕ) (r : Reading) (t : Tree) → AtMost n r.scope → atom_count t ≤ n → AtMost n (with_form r t).scope
form_few n r (atom p a) i h = i
form_few n r (list p ts) i h = head_few n (headed ts) r p i (headed_few n ts h)

pub forms_few : (n : ℕ) (r : Reading) (ts : Trees) → AtMost n r.scope → atoms_count ts ≤ n → AtMost n (reading_after r ts).scope
forms_few n r no_trees i h = i
forms_few n r (tree t ts) i h = forms_few n (with_form r t) ts (form_few n r t i (omega arith)) (omega arith)
