-- Names in forms that can be printed: what lists, terms and declarations take from them can be spelled.
use Rattle.std.proofs.Common.{ℕ, Bool, true, false, cond, Option, None, Some, List, [], ◌∷◌, sym, ◌∙◌}
use Rattle.std.specs.List.{AllByRecursion}
use Rattle.moxi_sexpr.specs.declared.form.Atom.TheVariants.{Symbol, Keyword, Numeral, Binary, Hex, Quote}
use Rattle.moxi_sexpr.specs.Printing.{ArePrintable, IsPrintable}
use Rattle.moxi_sexpr.specs.Tree as form
use Rattle.moxi_terms.specs.declared.data.Sort.{Sort}
use Rattle.moxi_terms.specs.declared.term.Variable.{Variable}
use Rattle.moxi_term_reading.specs.Forms.{only_of, pair_of, place_in, symbol_of}
use Rattle.moxi_terms.specs.View.{ScopeState}
use Rattle.moxi_term_print.specs.StandingNames.{IsSpellable, AreSpellable}
use Rattle.moxi_scripts.specs.declared.parts.Command.{Command}
use Rattle.moxi_scripts.specs.declared.parts.Key.{Key}
use Rattle.moxi_scripts.specs.declared.parts.Turn.{Turn}
use Rattle.moxi_scripts.specs.declared.parts.Declared.{Declared}
use Rattle.moxi_scripts.specs.Attributes.{is_behind, turn_after, value_of}
use Rattle.moxi_scripts.specs.Declarations.{symbol_name, symbols_in}
use Rattle.moxi_scripts.specs.Entries.{entries_of, entry_in, entry_of, variable_of, variables_of}
use Rattle.moxi_scripts.specs.Lists.{entries_among, listed_entries}
use Rattle.moxi_script_print.specs.NamesOfScripts.{VariablesAreSpellable}
use Rattle.moxi_scripts.specs.Shapes.{HeadedForms, NamedForm, before_pair, headed, headed_by, named, named_by, named_in, parts_of, triple_of}
use Rattle.moxi_scripts.specs.laws.WholeParts.{all_append}
use Rattle.moxi_term_print.proofs.StandingSpelled.{primed_alike}

pub chosen : {A : Type 0} (P : A → Type 0) (b : Bool) (x y : A) → P x → P y → P (cond b x y)
chosen P true x y h g = h
chosen P false x y h g = g

-- THE PARTS OF FORMS

abbrev pub IsSpellableSymbol : Option (List ℕ × Bool) → Type 0
IsSpellableSymbol None = Unit {0}
IsSpellableSymbol (Some x) = IsSpellable x.0

pub symbol_spellable : (t : form.Tree) → IsPrintable t → IsSpellableSymbol (symbol_of t)
symbol_spellable (form.atom p (Symbol name primed)) h = sym (primed_alike name primed) ∙ h
symbol_spellable (form.atom p (Keyword name)) h = tt
symbol_spellable (form.atom p (Numeral digits)) h = tt
symbol_spellable (form.atom p (Binary digits)) h = tt
symbol_spellable (form.atom p (Hex digits)) h = tt
symbol_spellable (form.atom p (Quote bytes)) h = tt
symbol_spellable (form.list p ts) h = tt

abbrev pub IsPrintableIf : Option form.Tree → Type 0
IsPrintableIf None = Unit {0}
IsPrintableIf (Some t) = IsPrintable t

abbrev pub ArePrintableIf : Option form.Trees → Type 0
ArePrintableIf None = Unit {0}
ArePrintableIf (Some ts) = ArePrintable ts

abbrev pub IsPrintableHeaded : Option HeadedForms → Type 0
IsPrintableHeaded None = Unit {0}
IsPrintableHeaded (Some h) = IsSpellable h.name × ArePrintable h.rest

abbrev pub IsPrintableNamed : Option NamedForm → Type 0
IsPrintableNamed None = Unit {0}
IsPrintableNamed (Some n) = IsSpellable n.name × IsPrintable n.form

abbrev IsPrintablePair : Option (form.Tree × form.Tree) → Type 0
IsPrintablePair None = Unit {0}
IsPrintablePair (Some x) = IsPrintable x.0 × IsPrintable x.1

abbrev pub IsPrintableTriple : Option (form.Tree × form.Tree × form.Tree) → Type 0
IsPrintableTriple None = Unit {0}
IsPrintableTriple (Some x) = IsPrintable x.0 × IsPrintable x.1 × IsPrintable x.2

pub headed_printable : (ts : form.Trees) → ArePrintable ts → IsPrintableHeaded (headed ts)
headed_printable form.no_trees h = tt
headed_printable (form.tree t ts) h = by_symbol (symbol_of t) (symbol_spellable t h.0)
  where
    by_symbol : (o : Option (List ℕ × Bool)) → IsSpellableSymbol o → IsPrintableHeaded (headed_by (place_in t) o ts)
    by_symbol None g = tt
    by_symbol (Some x) g = (g, h.1)

pub only_printable : (ts : form.Trees) → ArePrintable ts → IsPrintableIf (only_of ts)
only_printable form.no_trees h = tt
only_printable (form.tree t form.no_trees) h = h.0
only_printable (form.tree t (form.tree u us)) h = tt

pair_printable : (ts : form.Trees) → ArePrintable ts → IsPrintablePair (pair_of ts)
pair_printable form.no_trees h = tt
pair_printable (form.tree t form.no_trees) h = tt
pair_printable (form.tree t (form.tree u form.no_trees)) h = (h.0, h.1.0)
pair_printable (form.tree t (form.tree u (form.tree v vs))) h = tt

pub triple_printable : (ts : form.Trees) → ArePrintable ts → IsPrintableTriple (triple_of ts)
triple_printable form.no_trees h = tt
triple_printable (form.tree t ts) h = by_pair (pair_of ts) (pair_printable ts h.1)
  where
    by_pair : (o : Option (form.Tree × form.Tree)) → IsPrintablePair o → IsPrintableTriple (before_pair t o)
    by_pair None g = tt
    by_pair (Some x) g = (h.0, g.0, g.1)

pub named_in_printable : (o : Option HeadedForms) → IsPrintableHeaded o → IsPrintableNamed (named_in o)
named_in_printable None g = tt
named_in_printable (Some h) g = by_only (only_of h.rest) (only_printable h.rest g.1)
  where
    by_only : (o : Option form.Tree) → IsPrintableIf o → IsPrintableNamed (named_by h o)
    by_only None p = tt
    by_only (Some t) p = (g.0, p)

pub named_printable : (t : form.Tree) → IsPrintable t → IsPrintableNamed (named t)
named_printable (form.atom p a) h = tt
named_printable (form.list p ts) h = named_in_printable (headed ts) (headed_printable ts h)

pub parts_printable : (t : form.Tree) → IsPrintable t → ArePrintableIf (parts_of t)
parts_printable (form.atom p a) h = tt
parts_printable (form.list p ts) h = h

pub value_printable : (command : Command) (k : Key) (turn : Turn) (ts : form.Trees) → ArePrintable ts → IsPrintableIf (value_of command k turn ts)
value_printable command k turn form.no_trees h = tt
value_printable command k turn (form.tree t ts) h =
    chosen IsPrintableIf (is_behind k turn) (Some t) (value_of command k (turn_after command turn t) ts) h.0 (value_printable command k (turn_after command turn t) ts h.1)

pub symbols_spellable : (ts : form.Trees) → ArePrintable ts → AreSpellable (symbols_in ts)
symbols_spellable form.no_trees h = tt
symbols_spellable (form.tree t ts) h = all_append IsSpellable (symbol_name (symbol_of t)) (symbols_in ts) (by_symbol (symbol_of t) (symbol_spellable t h.0)) (symbols_spellable ts h.1)
  where
    by_symbol : (o : Option (List ℕ × Bool)) → IsSpellableSymbol o → AreSpellable (symbol_name o)
    by_symbol None g = tt
    by_symbol (Some x) g = (g, tt)

-- LISTS OF VARIABLES

abbrev HasSpellableEntry : Declared → Type 0
HasSpellableEntry d = IsSpellable d.name

abbrev HasSpellableVariable : Variable → Type 0
HasSpellableVariable v = IsSpellable v.name

entry_spellable : (s : ScopeState) (t : form.Tree) → IsPrintable t → AllByRecursion HasSpellableEntry (entry_of s t)
entry_spellable s t h = by_name (named t) (named_printable t h)
  where
    by_name : (o : Option NamedForm) → IsPrintableNamed o → AllByRecursion HasSpellableEntry (entry_in s (place_in t) o)
    by_name None g = tt
    by_name (Some n) g = (g.0, tt)

entries_spellable : (s : ScopeState) (ts : form.Trees) → ArePrintable ts → AllByRecursion HasSpellableEntry (entries_of s ts)
entries_spellable s form.no_trees h = tt
entries_spellable s (form.tree t ts) h = all_append HasSpellableEntry (entry_of s t) (entries_of s ts) (entry_spellable s t h.0) (entries_spellable s ts h.1)

listed_spellable : (s : ScopeState) (o : Option form.Tree) → IsPrintableIf o → AllByRecursion HasSpellableEntry (listed_entries s o)
listed_spellable s None h = tt
listed_spellable s (Some t) h = by_parts (parts_of t) (parts_printable t h)
  where
    by_parts : (o : Option form.Trees) → ArePrintableIf o → AllByRecursion HasSpellableEntry (entries_among s o)
    by_parts None g = tt
    by_parts (Some ts) g = entries_spellable s ts g

variables_spellable : (ds : List Declared) → AllByRecursion HasSpellableEntry ds → VariablesAreSpellable (variables_of ds)
variables_spellable [] h = tt
variables_spellable (d ∷ ds) h = all_append HasSpellableVariable (variable_of d.name d.sort) (variables_of ds) (by_sort d.sort) (variables_spellable ds h.1)
  where
    by_sort : (o : Option Sort) → VariablesAreSpellable (variable_of d.name o)
    by_sort None = tt
    by_sort (Some s) = (h.0, tt)

-- those that a list of parameters declares, and those of one of the three lists
pub parameters_spellable : (s : ScopeState) (ts : form.Trees) → ArePrintable ts → VariablesAreSpellable (variables_of (entries_of s ts))
parameters_spellable s ts h = variables_spellable (entries_of s ts) (entries_spellable s ts h)

pub list_spellable : (s : ScopeState) (o : Option form.Tree) → IsPrintableIf o → VariablesAreSpellable (variables_of (listed_entries s o))
list_spellable s o h = variables_spellable (listed_entries s o) (listed_spellable s o h)
