-- What is printed of a term that was read is read as this term again, also in a scope that has grown.
use Rattle.std.proofs.Common.{◌≡◌, List, [], Some, sym, ap, ◌∙◌}
use Rattle.moxi_sexpr.specs.Tree as form
use Rattle.moxi_terms.specs.declared.data.Sort.{Sort}
use Rattle.moxi_term_reading.specs.declared.locals.Local.{Local}
use Rattle.moxi_terms.specs.View.{ScopeState}
use Rattle.moxi_term_reading.specs.Reading.{Context, Reading, read, names_of}
use Rattle.moxi_term_reading.specs.WellSorted.{HaveKnownSorts}
use Rattle.moxi_term_print.specs.Shown.{Shows}
use Rattle.moxi_term_print.specs.Terms.{shown_term}
use Rattle.moxi_term_print.specs.StandingGrows.{Grows, in_scope}
use Rattle.moxi_term_print.specs.WellScopedReads.{whole}
use Rattle.moxi_term_print.proofs.StandingGrow.{stands_on}
use Rattle.moxi_term_print.proofs.StandingRead.{term_read}
use Rattle.moxi_term_print.proofs.StandingStand.{read_stands}

whole_is : (r : Reading) (s : Sort) → r.sort ≡ Some s → r.failures ≡ [] → whole r.term s ≡ r
whole_is r s e f =
    ap (λ o. record { term = r.term; sort = o; failures = [] }) (sym e) ∙ ap (λ fs. record { term = r.term; sort = r.sort; failures = fs }) (sym f)

pub read_again : (c : Context) (bounds : List Local) (vars ss : List Sort) (f : form.Tree) (u : ScopeState) (g : form.Tree) → HaveKnownSorts c.variables vars → HaveKnownSorts bounds ss
    → (read c bounds f).failures ≡ [] → Grows c.scope u → Shows g (shown_term u (names_of c.variables) (names_of bounds) (read c bounds f).term) → read (in_scope c u) bounds g ≡ read c bounds f
read_again c bounds vars ss f u g known within holds grows shows =
    let r = read c bounds f in
    let w = read_stands c vars known bounds ss f within holds in
    term_read (in_scope c u) bounds r.term w.sort g (stands_on c u grows bounds r.term w.sort w.stands) shows ∙ whole_is r w.sort w.known holds
