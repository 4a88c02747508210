use Rattle.std.proofs.Common.{◌∙◌, map, ap, subst, sym}
use Rattle.moxi_terms.specs.Sorted.{IsScope}
use Rattle.moxi_terms.specs.View.{ScopeState}
use Rattle.moxi_lines.specs.TermLaws.{HaveCodes}
use Rattle.moxi_instantiate.specs.PlainParts.{plain_part}
use Rattle.moxi_lines.specs.Lines.{with_parts}
use Rattle.moxi_to_btor.specs.Putting.{CanPutParts}
use Rattle.moxi_to_btor.specs.Queries.{CanPutQueries}
use Rattle.moxi_to_btor.proofs.SystemSteps.{parts_can, queries_can, variables_are, variables_can}
use Rattle.moxi_to_btor.proofs.system.to_btor.Goals as goal
use Rattle.moxi_to_btor.proofs.Stepping.{all_made}

pub put_variables-requires : goal.put_variables-requires
put_variables-requires c =
    let f = c.args.system.now in
    let scope = c.scope-scope.ensures in
    let all = c.enumerations-enumerations.ensures ∙ ap (λ (s : ScopeState). s.enumerations) scope in
    let codes = subst HaveCodes all c.enumerations_have_codes.ensures in
    let sound = subst IsScope scope c.functions.ensures.scope in
    let k = c.system_is_known.ensures.known in
    variables_can f codes sound k c.enumerations-enumerations.result.now c.put_first.new.builder c.variables.result.now all c.in_ok-put_first.ensures c.variables.ensures

pub put_parts-requires : goal.put_parts-requires
put_parts-requires c =
    let f = c.args.system.now in
    let scope = c.scope-scope.ensures in
    let all = c.enumerations-enumerations.ensures ∙ ap (λ (s : ScopeState). s.enumerations) scope in
    let codes = subst HaveCodes all c.enumerations_have_codes.ensures in
    let sound = subst IsScope scope c.functions.ensures.scope in
    let k = c.system_is_known.ensures.known in
    let m = all_made c.put_variables.new.builder c.in_ok-inputs.inputs.items in
    let made = c.in_ok-inputs.ensures ∙ variables_are f codes sound k c.enumerations-enumerations.result.now c.put_first.new.builder c.variables.result.now all c.in_ok-put_first.ensures c.variables.ensures in
    let parts = ap (map plain_part) c.as_slice.ensures ∙ c.parts.ensures in
    subst (λ s. CanPutParts s c.deref.result.now c.put_variables.new.builder (map plain_part c.as_slice.result.now)) (sym scope)
    (subst (λ ps. CanPutParts f.scope ps c.put_variables.new.builder (map plain_part c.as_slice.result.now)) (sym c.deref.ensures.value) (subst (CanPutParts f.scope m.1 m.0) (sym parts) (parts_can f codes sound k m made)))

pub put_queries-requires : goal.put_queries-requires
put_queries-requires c =
    let f = c.args.system.now in
    let scope = c.scope-scope.ensures in
    let all = c.enumerations-enumerations.ensures ∙ ap (λ (s : ScopeState). s.enumerations) scope in
    let codes = subst HaveCodes all c.enumerations_have_codes.ensures in
    let sound = subst IsScope scope c.functions.ensures.scope in
    let k = c.system_is_known.ensures.known in
    let m = all_made c.put_variables.new.builder c.in_ok-inputs.inputs.items in
    let made = c.in_ok-inputs.ensures ∙ variables_are f codes sound k c.enumerations-enumerations.result.now c.put_first.new.builder c.variables.result.now all c.in_ok-put_first.ensures c.variables.ensures in
    let parts = ap (map plain_part) c.as_slice.ensures ∙ c.parts.ensures in
    let put = c.in_ok-put_parts.ensures ∙ ap (λ s. with_parts s c.deref.result.now c.put_variables.new.builder (map plain_part c.as_slice.result.now)) scope
    ∙ ap (λ ps. with_parts f.scope ps c.put_variables.new.builder (map plain_part c.as_slice.result.now)) c.deref.ensures.value ∙ ap (with_parts f.scope m.1 m.0) parts in
    subst (λ ps. CanPutQueries f ps c.put_parts.new.builder c.queries.result.now) (sym c.deref-2.ensures.value) (subst (CanPutQueries f m.1 c.put_parts.new.builder) (sym c.queries.ensures) (queries_can f codes sound k m c.put_parts.new.builder made put))
