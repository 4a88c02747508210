-- The names that a translated expression binds: those of the `let` of `max`, `min`, `abs` and of `in` (SMT-LIB 2.6, section 3.6).
use Rattle.std.specs.Prelude.{◌≡◌, ℕ, List, codes}
use Rattle.std.specs.Prelude.{◌⊎◌}
use Rattle.std.specs.List.{AllByRecursion}
use Rattle.moxi_term_reading.specs.declared.locals.Local.{Local}

abbrev pub IsLetName : List ℕ → Type 0
IsLetName name = (name ≡ codes "t") ⊎ (name ≡ codes "u")

-- whatever is bound around has such a name
abbrev pub AreLetNames : List Local → Type 0
AreLetNames bounds = AllByRecursion (λ (x : Local). IsLetName x.name) bounds
