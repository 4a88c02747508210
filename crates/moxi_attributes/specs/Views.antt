-- What the functions over forms answer, behind references, and the plain forms of lists of formulas.
use Rattle.std.specs.Prelude.{ℕ, Option, None, Some, List, map}
use Rattle.std.specs.Borrow.{Bor}
use Rattle.moxi_sexpr.specs.declared.form.Form.{Form}
use Rattle.moxi_sexpr.specs.Tree.{Tree, plain, Trees, plain_forms}
use Rattle.moxi_attributes.specs.declared.labels.Labelled as code_list
use Rattle.moxi_attributes.specs.declared.labels.Labels as code_labels
use Rattle.moxi_scripts.specs.Script.{plain_formula}
use Rattle.moxi_scripts.specs.Labels.{FormulaList, FormulaLists}
use Rattle.moxi_attributes.specs.declared.shapes.Headed.{Headed}
use Rattle.moxi_attributes.specs.declared.shapes.Named.{Named}
use Rattle.moxi_scripts.specs.Shapes.{HeadedForms, NamedForm}

abbrev pub headed_here : Headed → HeadedForms
headed_here h = record { name = h.name.now; primed = h.primed; place = h.place; rest = plain_forms h.rest.now }

abbrev pub headed_now : Option Headed → Option HeadedForms
headed_now None = None
headed_now (Some h) = Some (headed_here h)

abbrev pub named_here : Named → NamedForm
named_here n = record { name = n.name.now; primed = n.primed; place = n.place; form = plain n.form.now }

abbrev pub named_now : Option Named → Option NamedForm
named_now None = None
named_now (Some n) = Some (named_here n)

abbrev pub parts_now : Option (Bor (List Form)) → Option Trees
parts_now None = None
parts_now (Some fs) = Some (plain_forms fs.now)

abbrev pub triple_now : Option (Bor Form × Bor Form × Bor Form) → Option (Tree × Tree × Tree)
triple_now None = None
triple_now (Some x) = Some (plain x.0.now, plain x.1.now, plain x.2.now)

abbrev pub plain_list : code_list.Labelled → FormulaList
plain_list l = record { names = l.names; formulas = map plain_formula l.formulas }

abbrev pub plain_labels : code_labels.Labels → FormulaLists
plain_labels ls = record { assumptions = plain_list ls.assumptions; currents = plain_list ls.currents; reachables = plain_list ls.reachables; whole = ls.whole }

abbrev pub keyword_now : Option (Bor (List ℕ)) → Option (List ℕ)
keyword_now None = None
keyword_now (Some name) = Some name.now

abbrev pub value_now : Option (Bor Form) → Option Tree
value_now None = None
value_now (Some form) = Some (plain form.now)
