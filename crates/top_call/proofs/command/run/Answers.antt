use Rattle.std.proofs.Common.{Global, map, string_bytes}
use Rattle.top_call.proofs.OutcomeLemmas.{run_done, run_correct_output, run_translates, run_lifts, run_lowers, run_lifts_smaller, run_responds, run_routes, run_returns, run_generated, no_memory_generated, run_no_text, run_prefix, run_complete, run_refused, run_second_refused, run_no, run_usage, run_no_command, run_read_fault, run_absent, run_noted, run_silent, run_fault_noted, run_untouched, run_write_fault, run_memory, memory_fault_noted, none_put}
use Rattle.top_call.proofs.command.run.Goals as goal

pub returns-in-Ok-clause-done : goal.returns-in-Ok-clause-done
returns-in-Ok-clause-done g c = run_done _ _ _ c.in-Ok.answer c.deliver.result _ _ c.in-Ok.ensures.answer c.deliver.ensures.status c.deliver.ensures.text

pub returns-in-Ok-clause-no : goal.returns-in-Ok-clause-no
returns-in-Ok-clause-no g c = run_no _ _ _ c.in-Ok.answer c.deliver.result c.in-Ok.ensures.answer c.deliver.ensures.status

pub returns-in-Ok-clause-refused : goal.returns-in-Ok-clause-refused
returns-in-Ok-clause-refused g c = run_refused _ _ _ c.in-Ok.answer c.deliver.result c.in-Ok.ensures.answer c.deliver.ensures.status

pub returns-in-Ok-clause-second_refused : goal.returns-in-Ok-clause-second_refused
returns-in-Ok-clause-second_refused g c = run_second_refused _ _ _ c.in-Ok.answer c.deliver.result c.in-Ok.ensures.answer c.deliver.ensures.status

pub returns-in-Ok-clause-usage : goal.returns-in-Ok-clause-usage
returns-in-Ok-clause-usage g c = run_usage _ _ _ c.in-Ok.answer c.deliver.result c.in-Ok.ensures.answer c.deliver.ensures.status

pub returns-in-Ok-clause-no_command : goal.returns-in-Ok-clause-no_command
returns-in-Ok-clause-no_command g c = run_no_command _ _ _ c.in-Ok.answer c.deliver.result c.in-Ok.ensures.answer c.deliver.ensures.status

pub returns-in-Ok-clause-read_fault : goal.returns-in-Ok-clause-read_fault
returns-in-Ok-clause-read_fault g c = run_read_fault _ _ _ c.in-Ok.answer c.deliver.result c.in-Ok.ensures.answer c.deliver.ensures.status

pub returns-in-Ok-clause-absent : goal.returns-in-Ok-clause-absent
returns-in-Ok-clause-absent g c = run_absent c.one_generated.ensures _ _ _ c.in-Ok.answer c.deliver.result c.in-Ok.ensures.answer c.deliver.ensures.status

pub returns-in-Ok-clause-noted : goal.returns-in-Ok-clause-noted
returns-in-Ok-clause-noted g c = run_noted _ _ _ c.in-Ok.answer c.deliver.result _ _ c.in-Ok.ensures.answer c.deliver.ensures.status c.deliver.ensures.line

pub returns-in-Ok-clause-silent : goal.returns-in-Ok-clause-silent
returns-in-Ok-clause-silent g c = run_silent c.in-Ok.answer c.deliver.result _ _ c.deliver.ensures.status c.deliver.ensures.line

pub returns-in-Ok-clause-fault_noted : goal.returns-in-Ok-clause-fault_noted
returns-in-Ok-clause-fault_noted g c = run_fault_noted _ _ _ c.in-Ok.answer c.deliver.result _ _ _ _ _ c.in-Ok.ensures.answer c.deliver.ensures.write_fault

pub returns-in-Ok-clause-untouched : goal.returns-in-Ok-clause-untouched
returns-in-Ok-clause-untouched g c = run_untouched c.in-Ok.answer c.deliver.result _ _ c.deliver.ensures.status c.deliver.ensures.text

pub returns-in-Ok-clause-write_fault : goal.returns-in-Ok-clause-write_fault
returns-in-Ok-clause-write_fault g c = run_write_fault _ _ _ _ _ _ c.deliver.result c.deliver.ensures.write_fault

pub returns-in-Ok-clause-prefix : goal.returns-in-Ok-clause-prefix
returns-in-Ok-clause-prefix g c = λ fault. run_prefix c.one_generated.ensures _ _ _ c.in-Ok.answer _ _ c.in-Ok.ensures.answer c.deliver.ensures.part

pub returns-in-Ok-clause-complete : goal.returns-in-Ok-clause-complete
returns-in-Ok-clause-complete g c = run_complete c.one_generated.ensures _ _ _ _ _ c.in-Ok.answer c.deliver.result _ _ _ _ c.in-Ok.ensures.answer c.deliver.ensures.status c.deliver.ensures.text c.deliver.ensures.line (run_write_fault _ _ _ _ _ _ c.deliver.result c.deliver.ensures.write_fault)

pub returns-in-Ok-clause-correct_output : goal.returns-in-Ok-clause-correct_output
returns-in-Ok-clause-correct_output g c = λ done. run_correct_output (record { texts = c.translations_are_correct.ensures; scripts = c.scripts_are_correct.ensures; lines = c.lines_are_correct.ensures; imports = c.imports_are_correct.ensures; smaller = c.smaller_texts_are_correct.ensures; traces = c.runs_are_lifted.ensures; witnesses = c.runs_are_lowered.ensures; responses = c.traces_are_lifted.ensures }) _ _ _ _ (run_done _ _ _ c.in-Ok.answer c.deliver.result _ _ c.in-Ok.ensures.answer c.deliver.ensures.status c.deliver.ensures.text done)

pub returns-in-Ok-clause-translates : goal.returns-in-Ok-clause-translates
returns-in-Ok-clause-translates g c = run_translates c.one_generated.ensures c.translations_are_correct.ensures _ _ _ _ _ c.in-Ok.answer c.deliver.result _ _ c.in-Ok.ensures.answer c.deliver.ensures.status c.deliver.ensures.text (run_write_fault _ _ _ _ _ _ c.deliver.result c.deliver.ensures.write_fault)

pub returns-in-Ok-clause-lifts : goal.returns-in-Ok-clause-lifts
returns-in-Ok-clause-lifts g c = run_lifts c.one_generated.ensures c.runs_are_lifted.ensures _ _ _ _ _ c.in-Ok.answer c.deliver.result _ _ c.in-Ok.ensures.answer c.deliver.ensures.status c.deliver.ensures.text (run_write_fault _ _ _ _ _ _ c.deliver.result c.deliver.ensures.write_fault)

pub returns-in-Ok-clause-lowers : goal.returns-in-Ok-clause-lowers
returns-in-Ok-clause-lowers g c = run_lowers c.one_generated.ensures c.runs_are_lowered.ensures _ _ _ _ _ c.in-Ok.answer c.deliver.result _ _ c.in-Ok.ensures.answer c.deliver.ensures.status c.deliver.ensures.text (run_write_fault _ _ _ _ _ _ c.deliver.result c.deliver.ensures.write_fault)

pub returns-in-Ok-clause-lifts_smaller : goal.returns-in-Ok-clause-lifts_smaller
returns-in-Ok-clause-lifts_smaller g c = run_lifts_smaller c.one_generated.ensures c.runs_are_lifted.ensures c.smaller_texts_are_correct.ensures _ _ _ _ _ c.in-Ok.answer c.deliver.result _ _ c.in-Ok.ensures.answer c.deliver.ensures.status c.deliver.ensures.text (run_write_fault _ _ _ _ _ _ c.deliver.result c.deliver.ensures.write_fault)

pub returns-in-Ok-clause-responds : goal.returns-in-Ok-clause-responds
returns-in-Ok-clause-responds g c = run_responds c.one_generated.ensures c.traces_are_lifted.ensures c.smaller_texts_are_correct.ensures _ _ _ _ _ c.in-Ok.answer c.deliver.result _ _ c.in-Ok.ensures.answer c.deliver.ensures.status c.deliver.ensures.text (run_write_fault _ _ _ _ _ _ c.deliver.result c.deliver.ensures.write_fault)

pub returns-in-Ok-clause-routes : goal.returns-in-Ok-clause-routes
returns-in-Ok-clause-routes g c = run_routes c.one_generated.ensures c.routes_meet.ensures _ _ _ _ _ c.in-Ok.answer c.deliver.result _ _ c.in-Ok.ensures.answer c.deliver.ensures.status c.deliver.ensures.text (run_write_fault _ _ _ _ _ _ c.deliver.result c.deliver.ensures.write_fault)

pub returns-in-Ok-clause-returns : goal.returns-in-Ok-clause-returns
returns-in-Ok-clause-returns g c = run_returns c.one_generated.ensures c.imports_are_correct.ensures c.lines_are_correct.ensures _ _ _ _ _ c.in-Ok.answer c.deliver.result _ _ c.in-Ok.ensures.answer c.deliver.ensures.status c.deliver.ensures.text (run_write_fault _ _ _ _ _ _ c.deliver.result c.deliver.ensures.write_fault)

pub returns-in-Ok-clause-no_text : goal.returns-in-Ok-clause-no_text
returns-in-Ok-clause-no_text g c = run_no_text _ _ _ c.in-Ok.answer _ _ c.in-Ok.ensures.answer c.deliver.ensures.part

pub returns-in-Ok-clause-memory : goal.returns-in-Ok-clause-memory
returns-in-Ok-clause-memory g c = run_memory c.in-Ok.answer c.deliver.result c.deliver.ensures.status

pub returns-in-Err-clause-fault_noted : goal.returns-in-Err-clause-fault_noted
returns-in-Err-clause-fault_noted g c = memory_fault_noted _ _ _ _ c.note.result _ _ _ _ _ c.note.ensures

pub returns-in-Err-clause-prefix : goal.returns-in-Err-clause-prefix
returns-in-Err-clause-prefix g c = λ fault. none_put (g.F.Shelf.files c.args.shelf.now) (map (string_bytes {Z = Global}) c.args.words.now.items) (g.K.Sink.taken c.args.out.now)

pub returns-in-Ok-clause-generated : goal.returns-in-Ok-clause-generated
returns-in-Ok-clause-generated g c n is = run_generated c.one_generated.ensures n c.in-Ok.answer c.deliver.result _ _ _ _ (c.in-Ok.ensures.generated n is) c.deliver.ensures.status c.deliver.ensures.part c.deliver.ensures.text c.deliver.ensures.line

pub returns-in-Err-clause-generated : goal.returns-in-Err-clause-generated
returns-in-Err-clause-generated g c n is = no_memory_generated n c.note.result _ _ _ _ _ c.note.ensures
