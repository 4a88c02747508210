-- What printable forms declare has names that can be spelled.
use Rattle.std.proofs.Common.{ℕ, not, Option, None, Some, List, [], ◌∷◌}
use Rattle.text_core.specs.declared.place.Place.{Place}
use Rattle.moxi_sexpr.specs.Printing.{ArePrintable, IsPrintable}
use Rattle.moxi_sexpr.specs.Tree as form
use Rattle.moxi_terms.specs.declared.data.Sort.{Sort}
use Rattle.moxi_term_reading.specs.declared.locals.Local.{Local}
use Rattle.moxi_terms.specs.declared.data.Primes.TheVariants.{Refused}
use Rattle.moxi_terms.specs.declared.term.NamedSort.{NamedSort}
use Rattle.moxi_term_reading.specs.Forms.{pair_of, place_in}
use Rattle.moxi_terms.specs.Names.{is_sort_name, is_term_name, may_be_enumeration, with_enumeration, with_function, with_sort}
use Rattle.moxi_term_reading.specs.Reading.{Context, read}
use Rattle.moxi_term_reading.specs.SortReading.{sort_reading}
use Rattle.moxi_terms.specs.Tree.{PlainFunction}
use Rattle.moxi_terms.specs.View.{ScopeState}
use Rattle.moxi_term_print.specs.StandingNames.{AreSpellable, IsSpellable, IsSpellableScope, NamesAreSpellable}
use Rattle.moxi_scripts.specs.Declarations as declare
use Rattle.moxi_scripts.specs.Declarations.{FunctionForms, body_reading, function_forms, is_nil, part_failures, result_sort, symbols_in, typed_function, with_read_enumeration, with_read_function, with_read_sort}
use Rattle.moxi_scripts.specs.Entries.{entries_of, known_sort, locals_among}
use Rattle.moxi_script_print.specs.NamesOfScripts.{DeclaresSpellable, IsSpellableFunction}
use Rattle.moxi_scripts.specs.Shapes.{HeadedForms, NamedForm, headed, named_in, parts_of, triple_of}
use Rattle.moxi_script_print.proofs.NamesLaws.{ArePrintableIf, IsPrintableHeaded, IsPrintableNamed, IsPrintableTriple, chosen, headed_printable, named_in_printable, parameters_spellable, parts_printable, symbols_spellable, triple_printable}
use Rattle.moxi_scripts.specs.laws.WholeParts.{all_append}

-- terms of forms that can be printed bind names that can be spelled
abbrev pub TermNamesAreSpellable : Type 0
TermNamesAreSpellable = (c : Context) (bounds : List Local) (f : form.Tree) → IsPrintable f → NamesAreSpellable (read c bounds f).term

abbrev pub EnumerationStays : Type 0
EnumerationStays = (s : ScopeState) (name : List ℕ) (constants : List (List ℕ)) → IsSpellable name → AreSpellable constants → IsSpellableScope s → IsSpellableScope (with_enumeration s name constants)

abbrev pub SortStays : Type 0
SortStays = (s : ScopeState) (name : List ℕ) (sort : Sort) → IsSpellableScope s → IsSpellableScope (with_sort s name sort)

abbrev pub FunctionStays : Type 0
FunctionStays = (s : ScopeState) (f : PlainFunction) → IsSpellable f.name → IsSpellableScope s → IsSpellableScope (with_function s f)

abbrev IsPrintableFunction : Option FunctionForms → Type 0
IsPrintableFunction None = Unit {0}
IsPrintableFunction (Some f) = IsSpellable f.name.name × ArePrintable f.parameters × IsPrintable f.body

function_parts_printable : (h : HeadedForms) (o : Option (form.Tree × form.Tree × form.Tree)) → IsSpellable h.name → IsPrintableTriple o → IsPrintableFunction (declare.function_parts h o)
function_parts_printable h None n g = tt
function_parts_printable h (Some x) n g = by_list (parts_of x.0) (parts_printable x.0 g.0)
  where
    by_list : (o : Option form.Trees) → ArePrintableIf o → IsPrintableFunction (declare.with_list (place_in x.0) h x.0 x.1 x.2 o)
    by_list None l = tt
    by_list (Some ps) l = (n, l, g.2)

function_printable : (ts : form.Trees) → ArePrintable ts → IsPrintableFunction (function_forms ts)
function_printable ts h = by_head (headed ts) (headed_printable ts h)
  where
    by_head : (o : Option HeadedForms) → IsPrintableHeaded o → IsPrintableFunction (declare.function_in o)
    by_head None g = tt
    by_head (Some x) g = function_parts_printable x (triple_of x.rest) g.0 (triple_printable x.rest g.1)

module _ (names : TermNamesAreSpellable) (enumeration : EnumerationStays) (sorted : SortStays) (function : FunctionStays) (s : ScopeState) (d : DeclaresSpellable s) where
  -- ENUMERATIONS

  with_constants : (name : List ℕ) (cs : List (List ℕ)) → IsSpellable name → AreSpellable cs → DeclaresSpellable (with_enumeration s name cs)
  with_constants name cs n h = record { scope = enumeration s name cs n h d.scope; sorts = d.sorts; functions = d.functions }

  listed : (n : NamedForm) (o : Option form.Trees) → IsSpellable n.name → ArePrintableIf o → DeclaresSpellable (declare.with_listed s n o)
  listed n None h g = d
  listed n (Some cs) h g =
      chosen DeclaresSpellable (declare.may_be_constants cs) (declare.with_new_enumeration s n.name (symbols_in cs)) s
      (chosen DeclaresSpellable (may_be_enumeration s n.name (symbols_in cs)) (with_enumeration s n.name (symbols_in cs)) s (with_constants n.name (symbols_in cs) h (symbols_spellable cs g)) d) d

  named_enumeration : (o : Option NamedForm) → IsPrintableNamed o → DeclaresSpellable (declare.with_named_enumeration s o)
  named_enumeration None g = d
  named_enumeration (Some n) g = listed n (parts_of n.form) g.0 (parts_printable n.form g.1)

  pub enumeration_declares : (ts : form.Trees) → ArePrintable ts → DeclaresSpellable (with_read_enumeration s ts)
  enumeration_declares ts h = named_enumeration (named_in (headed ts)) (named_in_printable (headed ts) (headed_printable ts h))

  -- SORTS

  with_one_sort : (name : List ℕ) (sort : Sort) → IsSpellable name → DeclaresSpellable (with_sort s name sort)
  with_one_sort name sort n = record {
    scope = sorted s name sort d.scope;
    sorts = all_append (λ (x : NamedSort). IsSpellable x.name) s.sorts (record { name = name; sort = sort } ∷ []) d.sorts (n, tt);
    functions = d.functions;
  }

  sort_if : (name : List ℕ) (o : Option Sort) → IsSpellable name → DeclaresSpellable (declare.with_sort_if s name o)
  sort_if name None n = d
  sort_if name (Some sort) n = chosen DeclaresSpellable (not (is_sort_name s name)) (with_sort s name sort) s (with_one_sort name sort n) d

  defined_sort : (p : Place) (h : HeadedForms) (o : Option (form.Tree × form.Tree)) → IsSpellable h.name → DeclaresSpellable (declare.with_defined_sort s p h o)
  defined_sort p h None n = d
  defined_sort p h (Some x) n = sort_if h.name (known_sort (sort_reading s p x.1)) n

  headed_sort : (p : Place) (o : Option HeadedForms) → IsPrintableHeaded o → DeclaresSpellable (declare.with_sort_of s p o)
  headed_sort p None g = d
  headed_sort p (Some h) g = defined_sort p h (pair_of h.rest) g.0

  pub sort_declares : (p : Place) (ts : form.Trees) → ArePrintable ts → DeclaresSpellable (with_read_sort s p ts)
  sort_declares p ts h = headed_sort p (headed ts) (headed_printable ts h)

  -- FUNCTIONS

  with_one_function : (f : PlainFunction) → IsSpellable f.name → IsSpellableFunction f → DeclaresSpellable (with_function s f)
  with_one_function f n is = record { scope = function s f n d.scope; sorts = d.sorts; functions = all_append IsSpellableFunction s.functions (f ∷ []) d.functions (is, tt) }

  read_function : (f : FunctionForms) (r : Sort) → IsPrintableFunction (Some f) → IsSpellableFunction (typed_function f.name.name (entries_of s f.parameters) (body_reading s f).term r)
  read_function f r g = record {
    parameters = parameters_spellable s f.parameters g.1;
    body = names (let c : Context = record { scope = s; variables = locals_among (entries_of s f.parameters); primes = Refused } in c) [] f.body g.2;
  }

  typed : (f : FunctionForms) (o : Option Sort) → IsPrintableFunction (Some f) → DeclaresSpellable (declare.with_typed_function s f o)
  typed f None g = d
  typed f (Some r) g =
      let new = typed_function f.name.name (entries_of s f.parameters) (body_reading s f).term r in
      chosen DeclaresSpellable (not (is_term_name s f.name.name)) (with_function s new) s (with_one_function new g.0 (read_function f r g)) d

  function_of : (p : Place) (o : Option FunctionForms) → IsPrintableFunction o → DeclaresSpellable (declare.with_function_of s p o)
  function_of p None g = d
  function_of p (Some f) g =
      chosen DeclaresSpellable (is_nil (part_failures s p f)) (declare.with_typed_function s f (known_sort (result_sort s p f))) s (typed f (known_sort (result_sort s p f)) g) d

  pub function_declares : (p : Place) (ts : form.Trees) → ArePrintable ts → DeclaresSpellable (with_read_function s p ts)
  function_declares p ts h = function_of p (function_forms ts) (function_printable ts h)
