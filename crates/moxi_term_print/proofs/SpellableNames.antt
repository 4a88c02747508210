-- Names that can be spelled.
use Rattle.std.proofs.Common.{◌≡◌, ℕ, Bool, true, List, [], ◌∷◌, refl}
use Rattle.std.specs.List.{AllByRecursion, list_all}
use Rattle.moxi_sexpr.specs.Atoms.{is_run}
use Rattle.moxi_terms.specs.Tree.{Tree}
use Rattle.moxi_term_print.specs.StandingNames.{NamesAreSpellable}

pub run_all : (p : ℕ → Bool) (bs : List ℕ) → is_run p bs ≡ true → list_all p bs ≡ true
run_all p [] h = refl
run_all p (b ∷ bs) h = h

abbrev pub Named : List Tree → Type 0
Named ts = AllByRecursion NamesAreSpellable ts
