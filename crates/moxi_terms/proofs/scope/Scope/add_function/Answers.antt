use Rattle.std.proofs.Common.{◌≡◌, ◌++◌, ◌∷◌, ◌<◌, ◌-◌, ◌^◌, [], false, None, length, map, sym, ap, ◌∙◌, subst}
use Rattle.moxi_terms.specs.View.{ScopeState, plain_function}
use Rattle.moxi_terms.specs.Names.{is_term_name}
use Rattle.name_maps.specs.Names.{place_of}
use Rattle.moxi_terms.specs.Sorted.{IsFunction}
use Rattle.moxi_terms.specs.Scopes.{IsNameIndex}
use Rattle.moxi_terms.proofs.ScopeLaws.{kept_function, map_end, no_function, with_new}
use Rattle.moxi_terms.proofs.scope.Scope.add_function.Goals as goal

pub invariant_of-self-in-Ok : goal.invariant_of-self-in-Ok
invariant_of-self-in-Ok c =
    let s = c.self.inside in
    let v : ScopeState = record { enumerations = s.enumerations; sorts = s.sorts; functions = map plain_function s.functions } in
    let g = c.args.function in
    let k : IsNameIndex v s.enumeration_names s.sort_names s.function_names s.constant_names s.constant_numbers.items = c.self.invariant in
    let here : is_term_name v g.name ≡ false =
    ap (λ s. is_term_name s g.name) c.self.view_is ∙ ap (is_term_name c.args.self.now) (sym c.bytes.ensures) ∙ sym c.is_term_name.ensures ∙ c.if-is_term_name.false in
    let none : place_of s.function_names g.name ≡ None = ap (λ ns. place_of ns g.name) k.function_names ∙ no_function v g.name here in
    let names : c.declare.new.self ≡ s.function_names ++ g.name ∷ [] =
    with_new s.function_names c.declare.new.self c.bytes-2.result.now c.in_ok-declare.field-0 (ap (place_of s.function_names) c.bytes-2.ensures ∙ none) c.in_ok-declare.ensures.fresh c.in_ok-declare.ensures.names
    ∙ ap (λ n. s.function_names ++ n ∷ []) c.bytes-2.ensures in
    let is : IsFunction v.enumerations v.functions (plain_function g) = subst (λ s. IsFunction s.enumerations s.functions (plain_function g)) (sym c.self.view_is) c.requires.function in
    let few : length v.functions < 2 ^ 32 - 1 = subst (λ (s : ScopeState). length s.functions < 2 ^ 32 - 1) (sym c.self.view_is) c.requires.room in
    let functions : map plain_function c.push.new.self ≡ map plain_function s.functions ++ plain_function g ∷ [] = ap (map plain_function) c.in-Ok.ensures.ok ∙ map_end plain_function s.functions g in
    subst (λ fs. IsNameIndex (record { enumerations = s.enumerations; sorts = s.sorts; functions = fs }) s.enumeration_names s.sort_names c.declare.new.self s.constant_names s.constant_numbers.items) (sym functions)
    (subst (λ ns. IsNameIndex (record { enumerations = s.enumerations; sorts = s.sorts; functions = map plain_function s.functions ++ plain_function g ∷ [] }) s.enumeration_names s.sort_names ns s.constant_names s.constant_numbers.items) (sym names)
    (kept_function v s.enumeration_names s.sort_names s.function_names s.constant_names s.constant_numbers.items (plain_function g) k is few))
