use Rattle.name_maps.proofs.instance_map.put_in.Goals as goal

pub returns : goal.returns
returns g c = λ j y. c.in_ok-insert.ensures.updates.0 (j, record { ref_ptr = (0, 0); now = y })
