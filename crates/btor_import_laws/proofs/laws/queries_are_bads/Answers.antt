use Rattle.std.proofs.Common.{length, sym, ap, ◌∙◌}
use Rattle.std.proofs.lemmas.List.{length-map}
use Rattle.btor_tree.specs.Fits.{is_bad}
use Rattle.btor_import.specs.Script.{lines_in}
use Rattle.btor_import_laws.proofs.Lists.{bads_are, first_of, queries_long}
use Rattle.btor_import_laws.proofs.Steps.{bad_argument}
use Rattle.btor_import_laws.proofs.laws.queries_are_bads.Goals as goal

pub returns : goal.returns
returns c = λ lines well.
    queries_long 0 (lines_in is_bad lines) ∙ sym (length-map (lines_in is_bad lines) first_of)
    ∙ sym (ap length (bads_are lines (λ k l h e. let a = bad_argument lines well k l h e in (a.0, a.1))))
