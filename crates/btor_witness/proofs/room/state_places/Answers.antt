use Rattle.std.proofs.Common.{◌≤◌, ◌∷◌, ◌++◌, [], length, sym, ap, ◌∙◌, take, add-one, arith}
use Rattle.std.proofs.lemmas.List.{length-take-le}
use Rattle.btor_tree.specs.Fits.{is_state}
use Rattle.btor_witness.specs.Room.{places_in}
use Rattle.btor_witness.proofs.Places.{place_more, place_same}
use Rattle.btor_witness.proofs.room.state_places.Goals as goal
use Rattle.btor_witness.proofs.room.state_places.Goals.{then-is_state+in_ok-push, else-is_state}

pub loop-i-preserved : goal.loop-i-preserved
loop-i-preserved c =
    let lines = c.args.nodes.now in
    let i = c.loop-i.i in
    let le : i ≤ length lines = omega (arith, c.loop-i-test.true, c.len-i-end.ensures.value) in
    let long = sym (length-take-le i lines le) in
    let step = ap (λ n. places_in 0 is_state (take n lines)) (sym (add-one i)) in
    elim c.if-is_state.branch [
      | then-is_state+in_ok-push w ↦
          w.places-is ∙ w.in_ok-push.ensures.ok ∙ ap (λ x. x ++ i ∷ []) c.loop-i.invariant
          ∙ sym (place_more lines is_state i c.at.result.now long c.at.ensures (sym c.is_state.ensures ∙ w.if-is_state.true)) ∙ step
      | else-is_state w ↦ w.places-is ∙ c.loop-i.invariant ∙ sym (place_same lines is_state i c.at.result.now c.at.ensures (sym c.is_state.ensures ∙ w.if-is_state.false)) ∙ step
    ]
