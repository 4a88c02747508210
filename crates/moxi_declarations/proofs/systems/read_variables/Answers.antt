use Rattle.std.proofs.Common.{◌≡◌, [], ap, ◌∙◌}
use Rattle.moxi_sexpr.specs.Tree.{Trees, plain_forms}
use Rattle.moxi_terms.specs.View.{ScopeState}
use Rattle.moxi_scripts.specs.declared.parts.Command.{Command}
use Rattle.moxi_scripts.specs.declared.parts.DeclaredList.{DeclaredList}
use Rattle.moxi_scripts.specs.declared.parts.Key.TheVariants as keys
use Rattle.moxi_scripts.specs.declared.parts.Lists.{Lists}
use Rattle.moxi_scripts.specs.declared.parts.Turn.TheVariants.{AtKeyword}
use Rattle.moxi_scripts.specs.Collecting.{also}
use Rattle.moxi_scripts.specs.Entries.{twice_failures}
use Rattle.moxi_scripts.specs.Lists.{list_of, lists_in, text_entries, value_at}
use Rattle.moxi_attributes.specs.laws.Collecting.{also_two}
use Rattle.moxi_declarations.specs.Once.{locals_listed}
use Rattle.moxi_declarations.proofs.systems.read_variables.Goals as goal

abbrev three_lists : DeclaredList → DeclaredList → DeclaredList → Lists
three_lists i o l = record { inputs = i; outputs = o; locals = l }

lists_are : (s : ScopeState) (command : Command) (ts : Trees) (l : Lists) → l.inputs ≡ list_of s (value_at command keys.Input ts) → l.outputs ≡ list_of s (value_at command keys.Output ts)
    → l.locals ≡ list_of s (value_at command keys.Local ts) → l ≡ lists_in s command ts
lists_are s command ts l e f g =
    ap (λ x. three_lists x l.outputs l.locals) e ∙ ap (λ x. three_lists (list_of s (value_at command keys.Input ts)) x l.locals) f
    ∙ ap (three_lists (list_of s (value_at command keys.Input ts)) (list_of s (value_at command keys.Output ts))) g

pub read_locals-requires-clause-lists : goal.read_locals-requires-clause-lists
read_locals-requires-clause-lists c =
    let a = c.args in
    let got = c.in_ok-lists.ensures in
    lists_are a.scope.now a.command (plain_forms a.forms.now) c.in_ok-lists.lists got.inputs got.outputs got.locals

pub returns-clause-locals : goal.returns-clause-locals
returns-clause-locals c =
    let a = c.args in
    let s = a.scope.now in
    let ts = plain_forms a.forms.now in
    let got = c.in_ok-lists.ensures in
    let same = lists_are s a.command ts c.in_ok-lists.lists got.inputs got.outputs got.locals in
    c.in_ok-locals.ensures.locals ∙ ap (λ l. locals_listed s l a.command ts) same

pub returns-clause-finds : goal.returns-clause-finds
returns-clause-finds c =
    let a = c.args in
    let s = a.scope.now in
    let ts = plain_forms a.forms.now in
    let got = c.in_ok-lists.ensures in
    let same = lists_are s a.command ts c.in_ok-lists.lists got.inputs got.outputs got.locals in
    also_two _ _ _ _ _ (also_two _ _ _ _ _ c.test_keywords.ensures got.finds)
    (c.in_ok-locals.ensures.finds ∙ ap (λ l. also c.read_lists.new.found (twice_failures [] (text_entries l a.command AtKeyword ts))) same)
