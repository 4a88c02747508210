use Rattle.std.proofs.Common.{sym, ap, ◌∙◌, subst, length}
use Rattle.std.proofs.lemmas.List.{length-map}
use Rattle.moxi_terms.specs.View.{plain, plain_function}
use Rattle.moxi_to_btor.specs.declared.terms.Scene.{Scene}
use Rattle.moxi_to_btor.specs.Terms.{CanPutTerm, lines_in}
use Rattle.moxi_to_btor.proofs.Stepping.{IsValid, made_same, whole_can, whole_is}
use Rattle.moxi_to_btor.proofs.terms.put_term.Goals as goal

pub put_tree-requires : goal.put_tree-requires
put_tree-requires c =
    let s : Scene = record { enumerations = c.enumerations.result; functions = c.functions-functions.result; upto = c.len.result; now = c.args.now; later = c.args.later } in
    let w : IsValid c.args.scope.now s = record {
      enumerations = c.enumerations.ensures;
      functions = c.functions-functions.ensures.functions;
      upto = c.len.ensures ∙ sym (length-map c.functions-functions.result.now plain_function) ∙ ap length c.functions-functions.ensures.functions;
      sound = c.functions-functions.ensures.scope;
    } in
    subst (λ b. CanPutTerm s b c.args.builder.now (plain c.args.term.now)) (sym c.new-bound.ensures.items) (whole_can c.args.scope.now s w c.args.builder.now (plain c.args.term.now) c.requires)

pub returns : goal.returns
returns c =
    let s : Scene = record { enumerations = c.enumerations.result; functions = c.functions-functions.result; upto = c.len.result; now = c.args.now; later = c.args.later } in
    let w : IsValid c.args.scope.now s = record {
      enumerations = c.enumerations.ensures;
      functions = c.functions-functions.ensures.functions;
      upto = c.len.ensures ∙ sym (length-map c.functions-functions.result.now plain_function) ∙ ap length c.functions-functions.ensures.functions;
      sound = c.functions-functions.ensures.scope;
    } in
    made_same c.put_tree.result c.put_tree.new.builder _ _
    (ap (λ b. lines_in s b c.args.builder.now (plain c.args.term.now)) c.new-bound.ensures.items ∙ whole_is c.args.scope.now s w c.args.builder.now (plain c.args.term.now)) c.put_tree.ensures.line
