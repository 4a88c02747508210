use Rattle.std.proofs.Common.{◌≡◌, ◌<◌, ℕ, true, false, cond, length, map, Some, sym, ap, ◌∙◌, rules}
use Rattle.std.specs.Option.{option_map}
use Rattle.std.specs.Prelude.{codes}
use Rattle.std.specs.Str.{bytes_eq}
use Rattle.std.proofs.lemmas.Option.{slice_get_within}
use Rattle.moxi_terms.specs.declared.data.Datum.TheVariants as datum
use Rattle.moxi_terms.specs.declared.data.Sort.TheVariants.{Truth, Choice}
use Rattle.moxi_terms.specs.declared.names.Meaning.TheVariants as meaning
use Rattle.moxi_terms.specs.View.{ScopeState, plain_function}
use Rattle.moxi_terms.specs.Names.{constant_named}
use Rattle.moxi_terms.specs.Meanings.{value_named}
use Rattle.moxi_terms.proofs.PlaceLaws.{index_read}
use Rattle.moxi_terms.proofs.ScopeLaws.{constant_read}
use Rattle.moxi_terms.proofs.scope.Scope.value_named.Goals as goal

pub index-requires : goal.index-requires
index-requires c =
    let s = c.self.inside in
    let v : ScopeState = record { enumerations = s.enumerations; sorts = s.sorts; functions = map plain_function s.functions } in
    let r = constant_read v s.enumeration_names s.sort_names s.function_names s.constant_names s.constant_numbers.items c.args.name.now c.in-Some.p c.self.invariant (sym c.place.ensures ∙ c.in-Some.is) in
    let h : c.in-Some.p < length s.constant_numbers.items = slice_get_within s.constant_numbers.items c.in-Some.p r.0 r.1 in
    search (rules, h)

pub returns-in-Some : goal.returns-in-Some
returns-in-Some c =
    let s = c.self.inside in
    let v : ScopeState = record { enumerations = s.enumerations; sorts = s.sorts; functions = map plain_function s.functions } in
    let name = c.args.name.now in
    let r = constant_read v s.enumeration_names s.sort_names s.function_names s.constant_names s.constant_numbers.items name c.in-Some.p c.self.invariant (sym c.place.ensures ∙ c.in-Some.is) in
    let got : c.index.result.now ≡ r.0 = c.index.ensures ∙ index_read s.constant_numbers.items c.in-Some.p r.0 c.index.result.now r.1 in
    let one : bytes_eq name (codes "true") ≡ false = sym c.is_same.ensures ∙ c.if-is_same.false in
    let two : bytes_eq name (codes "false") ≡ false = sym c.is_same-else-is_same.ensures ∙ c.if-is_same-2.false in
    let found = option_map (λ (c : ℕ × ℕ). meaning.Value (datum.Constant c.0 c.1) (Choice c.0)) (constant_named v name) in
    ap (λ (x : ℕ × ℕ). Some (meaning.Value (datum.Constant x.0 x.1) (Choice x.0))) got
    ∙ ap (option_map (λ (c : ℕ × ℕ). meaning.Value (datum.Constant c.0 c.1) (Choice c.0))) (sym r.2)
    ∙ sym (ap (λ b. cond b (Some (meaning.Value (datum.Truth true) Truth)) (cond (bytes_eq name (codes "false")) (Some (meaning.Value (datum.Truth false) Truth)) found)) one
    ∙ ap (λ b. cond b (Some (meaning.Value (datum.Truth false) Truth)) found) two)
    ∙ ap (λ s. value_named s name) c.self.view_is
