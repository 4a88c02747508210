-- The script of MoXI that stands for a flat form (MoXI, SPIN 2024): one system whose traces are the model's runs, and a query for each
-- invariant, which a state that breaks it meets. The names and the order are this translator's own.
use Rattle.std.specs.Prelude.{◌==◌, ℕ, ◌+◌, max, Bool, true, false, zero, suc, if◌then◌else◌, List, [], ◌∷◌, ◌++◌, map, flat_map, take, length, slice_get, codes, decimal, Option, Some, None}
use Rattle.std.specs.List.{filter}
use Rattle.smv_text.specs.Tree.{PlainSource}
use Rattle.smv_text.specs.declared.tree.When.{When}
use Rattle.smv_text.specs.declared.tree.When.TheVariants.{Always, First, Following}
use Rattle.smv_text.specs.declared.tree.Member.{Member}
use Rattle.smv_text.specs.declared.tree.Member.TheVariants as OfMember
use Rattle.smv_meaning.specs.Types.{ExprType, integer_type}
use Rattle.smv_meaning.specs.Phases.{when_same}
use Rattle.smv_items.specs.declared.items.ItemKind.{ItemKind}
use Rattle.smv_items.specs.declared.items.ItemKind.TheVariants.{State, Frozen, Input, Define, Actual}
use Rattle.smv_items.specs.FlatItems.{PlainFlatItem}
use Rattle.smv_flat.specs.declared.forms.Role.{Role}
use Rattle.smv_flat.specs.declared.forms.Role.TheVariants.{Body, Assign, Init, Trans, Invar}
use Rattle.smv_flat.specs.FlatForms.{Form, PlainFlat, flat_smv}
use Rattle.smv_flat.specs.FlatTruth.{forms_invariants}
use Rattle.smv_flat.specs.FlatTree.{FlatTree}
use Rattle.smv_flat.specs.FlatWidth.{width_of}
use Rattle.moxi_terms.specs.declared.term.Variable.{Variable}
use Rattle.moxi_terms.specs.declared.term.Enumeration.{Enumeration}
use Rattle.moxi_terms.specs.Tree.{Tree, constant, variable, trees_of}
use Rattle.moxi_scripts.specs.declared.script.Query.{Query}
use Rattle.moxi_scripts.specs.Script.{PlainSystem, PlainFormula, PlainCheck, PlainScript, query_of}
use Rattle.smv_script.specs.Codes.{symbol_datum, sort_of}
use Rattle.smv_script.specs.Operators.{integer_term, between_term, not_term, any_term}
use Rattle.smv_script.specs.Terms.{Coding, translation}
use Rattle.moxi_terms.specs.Applications.{equal_term, all_term}

-- ---- variables: inputs, then state and frozen variables, then definitions and actuals, each in flat order

-- the list in which an item's variable stands
pub data Group : Type 0 where
  inputs : Group
  outputs : Group
  locals : Group

abbrev pub group_of : ItemKind → Group
group_of State = outputs
group_of Frozen = outputs
group_of Input = inputs
group_of Define = locals
group_of Actual = locals

abbrev pub same_group : Group → Group → Bool
same_group inputs inputs = true
same_group outputs outputs = true
same_group locals locals = true
same_group g h = false

abbrev pub items_in : Group → List PlainFlatItem → List PlainFlatItem
items_in g items = filter (λ m. same_group g (group_of m.kind)) items

abbrev pub kind_letter : ItemKind → List ℕ
kind_letter State = codes "v."
kind_letter Frozen = codes "v."
kind_letter Input = codes "i."
kind_letter Define = codes "d."
kind_letter Actual = codes "a."

abbrev pub variable_of : ℕ → PlainFlatItem → Variable
variable_of width m = record { name = kind_letter m.kind ++ m.name; sort = sort_of width m.type }

abbrev pub variables_in : ℕ → Group → List PlainFlatItem → List Variable
variables_in width g items = map (variable_of width) (items_in g items)

-- the number of the first variable of a group
abbrev pub group_start : List PlainFlatItem → Group → ℕ
group_start items inputs = 0
group_start items outputs = length (items_in inputs items)
group_start items locals = length (items_in inputs items) + length (items_in outputs items)

abbrev pub place_among : List PlainFlatItem → ℕ → Option PlainFlatItem → ℕ
place_among items k None = 0
place_among items k (Some m) = group_start items (group_of m.kind) + length (items_in (group_of m.kind) (take k items))

-- the number of the variable of the numbered item
abbrev pub place_of_item : List PlainFlatItem → ℕ → ℕ
place_of_item items k = place_among items k (slice_get items k)

abbrev pub coding_of : PlainFlat → ℕ → Coding
coding_of flat width = record { width = width; place = place_of_item flat.items }

-- ---- parts of the formulas

abbrev pub member_term : ℕ → List (List ℕ) → Tree → Member → Tree
member_term width symbols x (OfMember.Symbol s) = equal_term x (constant (symbol_datum symbols s))
member_term width symbols x (OfMember.Integer z) = equal_term x (integer_term width z)

abbrev pub interval_parts : ℕ → Tree → ExprType → List Tree
interval_parts width x (integer_type low high) = between_term width low high x ∷ []
interval_parts width x t = []

-- that a variable of an enumeration or of a range has a value of its type
abbrev pub domain_parts : ℕ → List (List ℕ) → Tree → ExprType → List Member → List Tree
domain_parts width symbols x t [] = interval_parts width x t
domain_parts width symbols x t (m ∷ ms) = any_term (trees_of (map (member_term width symbols x) (m ∷ ms))) ∷ []

-- that a definition or an actual has the value of its body, where the formula is that of the numbered item
abbrev pub body_part : Coding → ℕ → Role → FlatTree → List Tree
body_part c k (Body j) e = if j == k then equal_term (variable (c.place k) false) ((translation c e).term 0) ∷ [] else []
body_part c k r e = []

abbrev pub body_parts : Coding → ℕ → List Form → List Tree
body_parts c k forms = flat_map (λ f. body_part c k f.role f.body) forms

-- what is asked of an item's value in each state
abbrev pub invar_item : PlainFlat → Coding → ℕ → PlainFlatItem → ItemKind → List Tree
invar_item flat c k m Define = body_parts c k flat.forms
invar_item flat c k m Actual = body_parts c k flat.forms
invar_item flat c k m kind = domain_parts c.width flat.symbols (variable (c.place k) false) m.type m.members

-- a frozen variable keeps its value
abbrev pub trans_item : Coding → ℕ → ItemKind → List Tree
trans_item c k Frozen = equal_term (variable (c.place k) true) (variable (c.place k) false) ∷ []
trans_item c k kind = []

-- of the first state, of each state, or of each transition
abbrev pub item_parts : PlainFlat → Coding → When → ℕ → PlainFlatItem → List Tree
item_parts flat c First k m = []
item_parts flat c Always k m = invar_item flat c k m m.kind
item_parts flat c Following k m = trans_item c k m.kind

abbrev pub is_following : When → Bool
is_following Following = true
is_following when = false

-- an assignment asks that its body permits the target's value, which is primed for the following state
abbrev pub form_parts : Coding → When → Role → FlatTree → List Tree
form_parts c when (Assign w k) e = if when_same w when then (translation c e).member 0 (variable (c.place k) (is_following when)) ∷ [] else []
form_parts c First Init e = (translation c e).term 0 ∷ []
form_parts c Following Trans e = (translation c e).term 0 ∷ []
form_parts c Always Invar e = (translation c e).term 0 ∷ []
form_parts c when r e = []

-- ---- the instances in preorder: of each first the parts of its items, then those of its formulas

abbrev pub numbered_parts : PlainFlat → Coding → When → ℕ → ℕ → List PlainFlatItem → List Tree
numbered_parts flat c when i k [] = []
numbered_parts flat c when i k (m ∷ ms) = (if m.instance == i then item_parts flat c when k m else []) ++ numbered_parts flat c when i (k + 1) ms

abbrev pub instance_parts : PlainFlat → Coding → When → ℕ → List Tree
instance_parts flat c when i =
    numbered_parts flat c when i 0 flat.items ++ flat_map (λ f. if f.instance == i then form_parts c when f.role f.body else []) flat.forms

-- the parts of the first so many instances
abbrev pub parts_upto : PlainFlat → Coding → When → ℕ → List Tree
parts_upto flat c when zero = []
parts_upto flat c when (suc n) = parts_upto flat c when n ++ instance_parts flat c when n

-- one more than the greatest number of an instance
abbrev pub above_items : List PlainFlatItem → ℕ
above_items [] = 0
above_items (m ∷ ms) = max (m.instance + 1) (above_items ms)

abbrev pub above_forms : List Form → ℕ
above_forms [] = 0
above_forms (f ∷ fs) = max (f.instance + 1) (above_forms fs)

abbrev pub formula_of : PlainFlat → Coding → When → Tree
formula_of flat c when = all_term (parts_upto flat c when (max (above_items flat.items) (above_forms flat.forms)))

-- ---- the script

abbrev pub symbol_sort : List (List ℕ) → List Enumeration
symbol_sort [] = []
symbol_sort (s ∷ ss) = record { name = codes "Symbol"; constants = map (λ x. codes "c." ++ x) (s ∷ ss) } ∷ []

abbrev pub system_of : PlainFlat → ℕ → PlainSystem
system_of flat width = record {
  name = codes "main";
  inputs = variables_in width inputs flat.items;
  outputs = variables_in width outputs flat.items;
  locals = variables_in width locals flat.items;
  init = formula_of flat (coding_of flat width) First;
  trans = formula_of flat (coding_of flat width) Following;
  inv = formula_of flat (coding_of flat width) Always;
  subsystems = [];
}

-- an invariant is broken where its negation is reached
abbrev pub reachables_from : Coding → ℕ → List FlatTree → List PlainFormula
reachables_from c j [] = []
reachables_from c j (e ∷ es) = record { name = codes "r." ++ decimal j; term = not_term ((translation c e).term 0) } ∷ reachables_from c (j + 1) es

abbrev pub queries_from : ℕ → List FlatTree → List Query
queries_from j [] = []
queries_from j (e ∷ es) = query_of j ∷ queries_from (j + 1) es

abbrev pub check_of : PlainFlat → ℕ → PlainCheck
check_of flat width = record {
  place = record { line = 1; column = 1; offset = 0 };
  system = 0;
  inputs = variables_in width inputs flat.items;
  outputs = variables_in width outputs flat.items;
  locals = variables_in width locals flat.items;
  assumptions = [];
  currents = [];
  reachables = reachables_from (coding_of flat width) 0 (forms_invariants flat.forms);
  queries = queries_from 0 (forms_invariants flat.forms);
}

-- the script of a flat form whose integers have so many digits
abbrev pub script_of : PlainFlat → ℕ → PlainScript
script_of flat width = record {
  logic = Some (codes "QF_BV");
  scope = record { enumerations = symbol_sort flat.symbols; sorts = []; functions = [] };
  systems = system_of flat width ∷ [];
  check = check_of flat width;
}

-- the script that stands for a model
abbrev pub script_for : PlainSource → PlainScript
script_for source = script_of (flat_smv source) (width_of (flat_smv source))
