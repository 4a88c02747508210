use Rattle.smv_evaluation.proofs.rows.put_named.Goals as goal

pub returns-in-Ok : goal.returns-in-Ok
returns-in-Ok c = λ p x. c.in-Ok.ensures.updates.0 (record { path = record { ref_ptr = (0, 0); now = p }; name = record { ref_ptr = (0, 0); now = x } })
