use Rattle.std.specs.Prelude.{codes}
use Rattle.std.proofs.Common.{◌∙◌, ◌++◌, ◌<◌, length, map, ap, subst, sym}
use Rattle.moxi_scripts.specs.Script.{formula_at, plain_formula}
use Rattle.moxi_lines.specs.TermLines.{Built}
use Rattle.moxi_lines.specs.Lines.{formula_name, with_formula}
use Rattle.moxi_to_btor.specs.Queries.{CanPutNumbered, reaching}
use Rattle.moxi_to_btor.proofs.QuerySteps.{latch_here, met_here, name_is, reached_same, reachable_is, reachable_latch, reachable_met, reachable_next, reachable_numbered}
use Rattle.moxi_to_btor.proofs.queries.put_reachable.Goals as goal
use Rattle.moxi_to_btor.proofs.Stepping.{made}

pub put_latch-requires : goal.put_latch-requires
put_latch-requires c =
    let f = c.args.system.now in
    let inputs = c.args.inputs.now in
    let name = c.args.name.now in
    let r = c.args.number in
    let m = reaching c.args.builder.now c.args.formulas.now.items c.args.seen.now.items in
    let fs = c.reachables-reachables.result.now in
    let same = c.reachables-reachables.ensures in
    let within = subst (λ gs. r < length gs) (sym same) c.requires.within in
    let label = c.bytes.ensures ∙ sym (name_is fs r c.at.result.now within c.at.ensures) ∙ ap (λ gs. formula_name gs r) same in
    let all = c.deref.ensures.value ∙ c.in_ok-name.ensures ∙ ap (λ n. name ++ (codes "." ++ (n ++ codes ".seen"))) label in
    reachable_latch f inputs name m r c.requires c.deref.result.now all

pub put_numbered-requires : goal.put_numbered-requires
put_numbered-requires c =
    let f = c.args.system.now in
    let inputs = c.args.inputs.now in
    let name = c.args.name.now in
    let r = c.args.number in
    let m = reaching c.args.builder.now c.args.formulas.now.items c.args.seen.now.items in
    let fs = c.reachables-reachables.result.now in
    let same = c.reachables-reachables.ensures in
    let within = subst (λ gs. r < length gs) (sym same) c.requires.within in
    let label = c.bytes.ensures ∙ sym (name_is fs r c.at.result.now within c.at.ensures) ∙ ap (λ gs. formula_name gs r) same in
    let all = c.deref.ensures.value ∙ c.in_ok-name.ensures ∙ ap (λ n. name ++ (codes "." ++ (n ++ codes ".seen"))) label in
    let l = made c.put_latch.new.builder c.in_ok-latch.latch in
    let latch = latch_here f inputs name m r c.requires c.deref.result.now l all c.in_ok-latch.ensures.lines in
    subst (λ s. CanPutNumbered s inputs c.put_latch.new.builder (map plain_formula fs) r) (sym c.scope.ensures) (subst (λ gs. CanPutNumbered f.scope inputs c.put_latch.new.builder gs r) (sym same)
    (reachable_numbered f inputs name m r c.requires l latch))

pub put_binary-requires : goal.put_binary-requires
put_binary-requires c =
    let f = c.args.system.now in
    let inputs = c.args.inputs.now in
    let name = c.args.name.now in
    let r = c.args.number in
    let m = reaching c.args.builder.now c.args.formulas.now.items c.args.seen.now.items in
    let fs = c.reachables-reachables.result.now in
    let same = c.reachables-reachables.ensures in
    let within = subst (λ gs. r < length gs) (sym same) c.requires.within in
    let label = c.bytes.ensures ∙ sym (name_is fs r c.at.result.now within c.at.ensures) ∙ ap (λ gs. formula_name gs r) same in
    let all = c.deref.ensures.value ∙ c.in_ok-name.ensures ∙ ap (λ n. name ++ (codes "." ++ (n ++ codes ".seen"))) label in
    let l = made c.put_latch.new.builder c.in_ok-latch.latch in
    let latch = latch_here f inputs name m r c.requires c.deref.result.now l all c.in_ok-latch.ensures.lines in
    let p = made c.put_numbered.new.builder c.in_ok-place.place in
    let place = c.in_ok-place.ensures ∙ ap (λ s. with_formula s inputs c.put_latch.new.builder (formula_at (map plain_formula fs) r)) c.scope.ensures ∙ ap (λ gs. with_formula f.scope inputs c.put_latch.new.builder (formula_at gs r)) same
    ∙ ap (λ (l : Built). with_formula f.scope inputs l.0 (formula_at f.reachables r)) latch in
    reachable_met f inputs name m r c.requires l p latch place

pub put_given-requires : goal.put_given-requires
put_given-requires c =
    let f = c.args.system.now in
    let inputs = c.args.inputs.now in
    let name = c.args.name.now in
    let r = c.args.number in
    let m = reaching c.args.builder.now c.args.formulas.now.items c.args.seen.now.items in
    let fs = c.reachables-reachables.result.now in
    let same = c.reachables-reachables.ensures in
    let within = subst (λ gs. r < length gs) (sym same) c.requires.within in
    let label = c.bytes.ensures ∙ sym (name_is fs r c.at.result.now within c.at.ensures) ∙ ap (λ gs. formula_name gs r) same in
    let all = c.deref.ensures.value ∙ c.in_ok-name.ensures ∙ ap (λ n. name ++ (codes "." ++ (n ++ codes ".seen"))) label in
    let l = made c.put_latch.new.builder c.in_ok-latch.latch in
    let latch = latch_here f inputs name m r c.requires c.deref.result.now l all c.in_ok-latch.ensures.lines in
    let p = made c.put_numbered.new.builder c.in_ok-place.place in
    let place = c.in_ok-place.ensures ∙ ap (λ s. with_formula s inputs c.put_latch.new.builder (formula_at (map plain_formula fs) r)) c.scope.ensures ∙ ap (λ gs. with_formula f.scope inputs c.put_latch.new.builder (formula_at gs r)) same
    ∙ ap (λ (l : Built). with_formula f.scope inputs l.0 (formula_at f.reachables r)) latch in
    let k = made c.put_binary.new.builder c.in_ok-met.met in
    let met = met_here f inputs name m r c.requires l p k latch place c.in_ok-met.ensures in
    reachable_next f inputs name m r c.requires l k latch met c.in_ok-latch.ensures.next

pub returns : goal.returns
returns c =
    let f = c.args.system.now in
    let inputs = c.args.inputs.now in
    let name = c.args.name.now in
    let r = c.args.number in
    let m = reaching c.args.builder.now c.args.formulas.now.items c.args.seen.now.items in
    let fs = c.reachables-reachables.result.now in
    let same = c.reachables-reachables.ensures in
    let within = subst (λ gs. r < length gs) (sym same) c.requires.within in
    let label = c.bytes.ensures ∙ sym (name_is fs r c.at.result.now within c.at.ensures) ∙ ap (λ gs. formula_name gs r) same in
    let all = c.deref.ensures.value ∙ c.in_ok-name.ensures ∙ ap (λ n. name ++ (codes "." ++ (n ++ codes ".seen"))) label in
    let l = made c.put_latch.new.builder c.in_ok-latch.latch in
    let latch = latch_here f inputs name m r c.requires c.deref.result.now l all c.in_ok-latch.ensures.lines in
    let p = made c.put_numbered.new.builder c.in_ok-place.place in
    let place = c.in_ok-place.ensures ∙ ap (λ s. with_formula s inputs c.put_latch.new.builder (formula_at (map plain_formula fs) r)) c.scope.ensures ∙ ap (λ gs. with_formula f.scope inputs c.put_latch.new.builder (formula_at gs r)) same
    ∙ ap (λ (l : Built). with_formula f.scope inputs l.0 (formula_at f.reachables r)) latch in
    let k = made c.put_binary.new.builder c.in_ok-met.met in
    let met = met_here f inputs name m r c.requires l p k latch place c.in_ok-met.ensures in
    reached_same c.put_place-2.result c.put_place-2.new.places.items _ c.put_given.new.builder c.put_place.new.places.items _
    (λ e. reachable_is f inputs name m r c.requires l p k c.put_given.new.builder c.put_place.new.places.items c.put_place-2.new.places.items latch place met c.in_ok-put_given.ensures c.in_ok-put_place.ensures e) c.put_place-2.ensures
