-- What has no bar and no backslash can be spelled (SMT-LIB 2.6, section 3.1).
use Rattle.std.proofs.Common.{◌≡◌, ℕ, true, not, ◌&&◌, IsTrue, List}
use Rattle.std.specs.List.{list_all}
use Rattle.smv_meaning.specs.laws.Booleans.{both_true}
use Rattle.moxi_sexpr.specs.Bytes.{is_barred_byte}
use Rattle.moxi_sexpr.specs.Atoms.{is_simple, may_appear}
use Rattle.moxi_sexpr.specs.Printing.{is_among, reserved_words}
use Rattle.moxi_term_print.specs.StandingNames.{IsSpellable}
use Rattle.moxi_script_print.proofs.SpelledCommands.{pick}

pub barred_spellable : (x : List ℕ) → list_all is_barred_byte x ≡ true → IsSpellable x
barred_spellable x h =
    pick (λ s. IsTrue (may_appear s x)) (is_simple x && not (is_among x reserved_words)) _ _ (λ e. (both_true (is_simple x) (not (is_among x reserved_words)) e).0) (λ e. h)
