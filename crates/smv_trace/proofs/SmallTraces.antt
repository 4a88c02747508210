-- Small traces are printed and read as their texts say.
use Rattle.std.proofs.Common.{refl}
use Rattle.std.specs.Fmt.{digits}
use Rattle.smv_trace_text.specs.Texts.{heading_text, claim_front, claim_back}
use Rattle.smv_trace.specs.Reading.{step, finished}
use Rattle.smv_trace.specs.Examples.{PrintsAndReads, light, light_run, light_text, count, count_run, count_text, three, three_run, three_text}

pub light_reads : PrintsAndReads light 0 light_run light_text
unfolding heading_text claim_front claim_back step finished digits
light_reads = (refl, refl)

pub count_reads : PrintsAndReads count 12 count_run count_text
unfolding heading_text claim_front claim_back step finished digits
count_reads = (refl, refl)

pub three_reads : PrintsAndReads three 3 three_run three_text
unfolding heading_text claim_front claim_back step finished digits
three_reads = (refl, refl)
