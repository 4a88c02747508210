use Rattle.std.proofs.Common.{◌∙◌}
use Rattle.smv_judge.proofs.StepLaws.{own_label}
use Rattle.smv_judge.proofs.judge.judge_numbered_rows.Goals as goal

pub judge_parts-requires-clause-label : goal.judge_parts-requires-clause-label
judge_parts-requires-clause-label g c = λ source k. own_label _ source k

pub judge_parts-requires-clause-judgeable : goal.judge_parts-requires-clause-judgeable
judge_parts-requires-clause-judgeable g c = λ order same. (c.requires.numbered, c.as_slice.ensures ∙ c.in_ok-firsts.ensures)
