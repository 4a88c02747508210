use Rattle.std.proofs.Common.{◌∷◌, [], Some, refl, sym, ap, ◌∙◌, append-nil}
use Rattle.moxi_sexpr.specs.Lexing.{refusal}
use Rattle.moxi_term_reading.specs.Failures.{minimum, least}
use Rattle.moxi_term_reading.specs.Reading.{names_of}
use Rattle.moxi_term_reading.proofs.ReadingLaws.{tests_both}
use Rattle.moxi_term_reading.proofs.lets.misshapen.Goals as goal

pub returns : goal.returns
returns c x b = record {
  names = b.names ∙ ap names_of (sym (append-nil x.locals));
  locals = b.locals ∙ sym (append-nil x.locals);
  terms = b.terms ∙ sym (append-nil x.terms);
  shape = c.minimum-all.ensures ∙ ap (λ r. minimum c.args.all.now.shape (Some r)) c.refusal.ensures ∙ tests_both c.args.all.now.shape (Some (refusal 12 c.args.p)) x.shape (refusal 12 c.args.p ∷ []) b.shape refl;
  failure = b.failure ∙ ap least (sym (append-nil x.failures));
}
