use Rattle.std.proofs.Common.{◌≡◌, ◌++◌, ◌∷◌, ◌<◌, ◌≤◌, ◌+◌, ◌-◌, ◌^◌, [], false, None, cond, length, map, take, sym, ap, ◌∙◌, subst}
use Rattle.moxi_terms.specs.declared.term.Enumeration.{Enumeration}
use Rattle.moxi_terms.specs.View.{ScopeState, plain_function}
use Rattle.moxi_terms.specs.Names.{is_sort_name, all_constants, numbered}
use Rattle.name_maps.specs.Names.{place_of}
use Rattle.moxi_terms.specs.Scopes.{IsNameIndex}
use Rattle.moxi_terms.proofs.ScopeLaws.{kept_enumeration, no_enumeration, with_new, numbers_within}
use Rattle.moxi_terms.proofs.scope.Scope.add_enumeration.Goals as goal

pub number_constants-requires-clause-before : goal.number_constants-requires-clause-before
number_constants-requires-clause-before c =
    let s = c.self.inside in
    let v : ScopeState = record { enumerations = s.enumerations; sorts = s.sorts; functions = map plain_function s.functions } in
    subst (λ n. n ≤ length s.constant_numbers.items) (sym c.len-before.ensures) (numbers_within v s.enumeration_names s.sort_names s.function_names s.constant_names s.constant_numbers.items c.self.invariant)

pub invariant_of-self-2 : goal.invariant_of-self-2
invariant_of-self-2 c =
    let s = c.self.inside in
    let v : ScopeState = record { enumerations = s.enumerations; sorts = s.sorts; functions = map plain_function s.functions } in
    let x : Enumeration = record { name = c.args.name; constants = c.args.constants } in
    let k : IsNameIndex v s.enumeration_names s.sort_names s.function_names s.constant_names s.constant_numbers.items = c.self.invariant in
    let here : is_sort_name v x.name ≡ false =
    ap (λ s. is_sort_name s x.name) c.self.view_is ∙ ap (is_sort_name c.args.self.now) (sym c.bytes.ensures) ∙ sym c.is_sort_name.ensures ∙ c.if-is_sort_name.false in
    let none : place_of s.enumeration_names x.name ≡ None = ap (λ ns. place_of ns x.name) k.enumeration_names ∙ no_enumeration v x.name here in
    let names : c.declare.new.self ≡ s.enumeration_names ++ x.name ∷ [] =
    with_new s.enumeration_names c.declare.new.self c.bytes-2.result.now c.in_ok-declare.field-0 (ap (place_of s.enumeration_names) c.bytes-2.ensures ∙ none) c.in_ok-declare.ensures.fresh c.in_ok-declare.ensures.names
    ∙ ap (λ n. s.enumeration_names ++ n ∷ []) c.bytes-2.ensures in
    let constants : c.declare_all.new.self ≡ s.constant_names ++ x.constants = c.in-Ok-true.ensures.names ∙ ap (λ b. cond b (s.constant_names ++ x.constants) s.constant_names) c.in-Ok-true.field-0-test in
    let numbers : c.number_constants.new.numbers.items ≡ take (length s.constant_names) s.constant_numbers.items ++ numbered (length s.enumerations) 0 x.constants =
    c.in_ok-number_constants.ensures.ok ∙ ap (λ n. take n s.constant_numbers.items ++ numbered c.len-enumerations.result 0 x.constants) c.len-before.ensures
    ∙ ap (λ n. take (length s.constant_names) s.constant_numbers.items ++ numbered n 0 x.constants) c.len-enumerations.ensures in
    let few : length v.enumerations < 2 ^ 32 - 1 = subst (λ (s : ScopeState). length s.enumerations < 2 ^ 32 - 1) (sym c.self.view_is) c.requires.room in
    let room : length (all_constants v.enumerations) + length x.constants < 2 ^ 32 = subst (λ (s : ScopeState). length (all_constants s.enumerations) + length x.constants < 2 ^ 32) (sym c.self.view_is) c.requires.room_for_constants in
    let enumerations : c.push.new.self ≡ s.enumerations ++ x ∷ [] = c.in-Ok.ensures.ok in
    subst (λ es. IsNameIndex (record { enumerations = es; sorts = s.sorts; functions = map plain_function s.functions }) c.declare.new.self s.sort_names s.function_names c.declare_all.new.self c.number_constants.new.numbers.items) (sym enumerations)
    (subst (λ ns. IsNameIndex (record { enumerations = s.enumerations ++ x ∷ []; sorts = s.sorts; functions = map plain_function s.functions }) ns s.sort_names s.function_names c.declare_all.new.self c.number_constants.new.numbers.items) (sym names)
    (subst (λ cs. IsNameIndex (record { enumerations = s.enumerations ++ x ∷ []; sorts = s.sorts; functions = map plain_function s.functions }) (s.enumeration_names ++ x.name ∷ []) s.sort_names s.function_names cs c.number_constants.new.numbers.items) (sym constants)
    (kept_enumeration v s.enumeration_names s.sort_names s.function_names s.constant_names s.constant_numbers.items c.number_constants.new.numbers.items x k c.requires.some few room numbers)))
