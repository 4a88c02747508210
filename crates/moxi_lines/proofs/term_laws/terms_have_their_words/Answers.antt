use Rattle.moxi_lines.proofs.Terms.{whole_made}
use Rattle.moxi_lines.proofs.term_laws.terms_have_their_words.Goals as goal

pub returns : goal.returns
returns c = λ es fs codes a row known vars t s h lines n now later now_values later_values v w room. whole_made es row known codes fs a vars t s h lines n now later now_values later_values v w room
