use Rattle.std.proofs.Common.{◌≡◌, None, ◌++◌, Bool, List, is_none, ap, ◌∙◌}
use Rattle.moxi_sexpr.specs.Tree.{plain_forms}
use Rattle.moxi_scripts.specs.declared.parts.Turn.TheVariants.{AtKeyword}
use Rattle.moxi_scripts.specs.declared.parts.Declared.{Declared}
use Rattle.moxi_scripts.specs.declared.parts.DeclaredList.{DeclaredList}
use Rattle.moxi_attributes.specs.Views.{value_now}
use Rattle.moxi_scripts.specs.Attributes.{value_of}
use Rattle.moxi_scripts.specs.Collecting.{also}
use Rattle.moxi_scripts.specs.Lists.{list_shape, listed_entries, listed_failures}
use Rattle.moxi_scripts.proofs.FunctionLaws.{none_is_nil, least_found}
use Rattle.moxi_attributes.proofs.lists.read_list.Goals as goal

abbrev list_with : List Declared → Bool → Bool → DeclaredList
list_with es b w = record { entries = es; shaped = b; whole = w }

pub returns-clause-list : goal.returns-clause-list
returns-clause-list c =
    let a = c.args in
    let s = a.scope.now in
    let o = value_of a.command a.k AtKeyword (plain_forms a.forms.now) in
    let got = c.in_ok-shaped.ensures in
    let failed : c.read_entries_of.new.found ≡ also None (listed_failures s o) = got.finds ∙ ap (λ v. also None (listed_failures s v)) c.value_of-value.ensures in
    let es : c.read_entries_of.new.entries ≡ listed_entries s o =
    got.adds ∙ ap (λ xs. xs ++ listed_entries s (value_now c.value_of-value.result)) c.in_ok-entries.ensures ∙ ap (listed_entries s) c.value_of-value.ensures in
    ap (λ xs. list_with xs c.in_ok-shaped.shaped c.is_nothing.result) es
    ∙ ap (λ b. list_with (listed_entries s o) b c.is_nothing.result) (got.shaped ∙ ap list_shape c.value_of-value.ensures)
    ∙ ap (list_with (listed_entries s o) (list_shape o)) (c.is_nothing.ensures ∙ ap is_none failed ∙ none_is_nil (listed_failures s o))

pub returns-clause-finds : goal.returns-clause-finds
returns-clause-finds c =
    let a = c.args in
    let s = a.scope.now in
    let o = value_of a.command a.k AtKeyword (plain_forms a.forms.now) in
    c.note.ensures (listed_failures s o) (least_found _ _ (c.in_ok-shaped.ensures.finds ∙ ap (λ v. also None (listed_failures s v)) c.value_of-value.ensures))
