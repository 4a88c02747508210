-- The plain form that a model of the code stands for.
use Rattle.std.specs.Prelude.{true, false, map}
use Rattle.text_core.specs.declared.place.Place.{Place}
use Rattle.smv_text.specs.declared.operators.Infix.{Infix}
use Rattle.smv_text.specs.declared.tree.Expr.{Expr, Expr-F, fold-Expr}
use Rattle.smv_text.specs.declared.tree.Branch.{Branch, Branch-F, fold-Branch}
use Rattle.smv_text.specs.declared.tree.Link.{Link, Link-F, fold-Link}
use Rattle.smv_text.specs.declared.tree.Shape.{Shape-F}
use Rattle.smv_text.specs.declared.tree.Domain.{Domain}
use Rattle.smv_text.specs.declared.tree.Domain.TheVariants.{Boolean, Members, Between, Bits, Instance}
use Rattle.smv_text.specs.declared.tree.Item.{Item}
use Rattle.smv_text.specs.declared.tree.Definition.{Definition}
use Rattle.smv_text.specs.declared.tree.Assignment.{Assignment}
use Rattle.smv_text.specs.declared.tree.Element.{Element}
use Rattle.smv_text.specs.declared.tree.Element.TheVariants.{Vars, Defines, Constants, Assigns, Init, Trans, Invar, Spec}
use Rattle.smv_text.specs.declared.tree.Module.{Module}
use Rattle.smv_text.specs.declared.tree.Source.{Source}
use Rattle.smv_text.specs.Tree.{Tree, truth, number, literal, name, prefix, chain, choice, cases, select, call, next, set, range, links_of, branches_of, trees_of, PlainDomain, boolean, members, between, bits, instance, PlainItem, PlainDefinition, PlainAssignment, PlainElement, vars, defines, constants, assigns, init, trans, invar, spec, PlainModule, PlainSource}

-- one level each, with the parts already in their plain form: a shape still wants its place
abbrev pub shape_step : Shape-F (Place → Tree) (Tree × Tree) Tree (Infix × Tree) → Place → Tree
shape_step Shape-F.True place = truth place true
shape_step Shape-F.False place = truth place false
shape_step (Shape-F.Number n) place = number place n
shape_step (Shape-F.Literal w) place = literal place w
shape_step (Shape-F.Name path) place = name place path
shape_step (Shape-F.Prefix sign n e) place = prefix place sign n e.value
shape_step (Shape-F.Chain e ls) place = chain place e.value (links_of ls.items)
shape_step (Shape-F.Choice bs e) place = choice place (branches_of bs.items) e.value
shape_step (Shape-F.Case bs) place = cases place (branches_of bs.items)
shape_step (Shape-F.Select e high low) place = select place e.value high low
shape_step (Shape-F.Call f es) place = call place f (trees_of es.items)
shape_step (Shape-F.Next e) place = next place e.value
shape_step (Shape-F.Set es) place = set place (trees_of es.items)
shape_step (Shape-F.Range low high) place = range place low high

abbrev pub expr_step : Expr-F (Place → Tree) (Tree × Tree) Tree (Infix × Tree) → Tree
expr_step e = e.shape e.place

abbrev pub link_step : Link-F (Place → Tree) (Tree × Tree) Tree (Infix × Tree) → Infix × Tree
link_step l = (l.op, l.operand)

abbrev pub branch_step : Branch-F (Place → Tree) (Tree × Tree) Tree (Infix × Tree) → Tree × Tree
branch_step b = (b.when, b.value)

abbrev pub plain : Expr → Tree
plain = fold-Expr (Place → Tree) (Tree × Tree) Tree (Infix × Tree) shape_step branch_step expr_step link_step

abbrev pub plain_link : Link → Infix × Tree
plain_link = fold-Link (Place → Tree) (Tree × Tree) Tree (Infix × Tree) shape_step branch_step expr_step link_step

abbrev pub plain_branch : Branch → Tree × Tree
plain_branch = fold-Branch (Place → Tree) (Tree × Tree) Tree (Infix × Tree) shape_step branch_step expr_step link_step

abbrev pub plain_domain : Domain → PlainDomain
plain_domain Boolean = boolean
plain_domain (Members ms) = members ms
plain_domain (Between low high) = between low high
plain_domain (Bits n) = bits n
plain_domain (Instance m actuals) = instance m (trees_of (map plain actuals.items))

abbrev pub plain_item : Item → PlainItem
plain_item i = record { name = i.name; place = i.place; domain = plain_domain i.domain; domain_place = i.domain_place }

abbrev pub plain_definition : Definition → PlainDefinition
plain_definition d = record { name = d.name; place = d.place; body = plain d.body }

abbrev pub plain_assignment : Assignment → PlainAssignment
plain_assignment a = record { when = a.when; target = a.target; body = plain a.body }

abbrev pub plain_element : Element → PlainElement
plain_element (Vars kind items) = vars kind (map plain_item items)
plain_element (Defines ds) = defines (map plain_definition ds)
plain_element (Constants names) = constants names
plain_element (Assigns items) = assigns (map plain_assignment items)
plain_element (Init e) = init (plain e)
plain_element (Trans e) = trans (plain e)
plain_element (Invar e) = invar (plain e)
plain_element (Spec o e) = spec o (plain e)

abbrev pub plain_module : Module → PlainModule
plain_module m = record { name = m.name; place = m.place; parameters = m.parameters; elements = map plain_element m.elements; tokens = m.tokens }

abbrev pub plain_source : Source → PlainSource
plain_source s = record { modules = map plain_module s.modules; end = s.end }
