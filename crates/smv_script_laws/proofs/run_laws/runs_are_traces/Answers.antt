use Rattle.smv_script_laws.proofs.RunOutcomes.{runs_have_traces_law, traces_are_runs_law}
use Rattle.smv_script_laws.proofs.Queries.{has_queries_law}
use Rattle.smv_script_laws.proofs.run_laws.runs_are_traces.Goals as goal

pub returns : goal.returns
returns c = record { decoded = traces_are_runs_law; traced = runs_have_traces_law; queries = has_queries_law }
