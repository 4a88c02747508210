-- No subsystem contains its system in a valid script that is shown and read again.
use Rattle.std.proofs.Common.{◌≡◌, ℕ, suc, ◌+◌, ◌<◌, nat_lt, true, cond, List, [], ◌∷◌, ◌++◌, length, refl, ap, ◌∙◌, arith}
use Rattle.std.proofs.lemmas.Bool.Decides.{nat_tests}
use Rattle.name_maps.specs.Names.{are_fresh, place_of}
use Rattle.moxi_scripts.specs.declared.script.Subsystem.{Subsystem}
use Rattle.moxi_scripts.specs.declared.parts.Use.{Use}
use Rattle.moxi_scripts.specs.Cycles as cycles
use Rattle.moxi_scripts.specs.Cycles.{nodes_from}
use Rattle.moxi_scripts.specs.Script.{PlainSystem}
use Rattle.moxi_scripts.specs.Systems.{SystemReading}
use Rattle.moxi_scripts.specs.Valid.{NoneContainsItself, all_subsystem_rows, containing_rows, count_subsystems, subsystem_graph, subsystem_rows, system_names}
use Rattle.moxi_script_print.proofs.AgainCommands.{AgreeSystems}
use Rattle.moxi_script_print.proofs.AgainLinks.{system_place}
use Rattle.moxi_script_print.proofs.AgainUses.{AgreeUses}
use Rattle.moxi_scripts.proofs.CycleLaws.{all_never}

uses_long : (names : List (List ℕ)) (all : List PlainSystem) (bs : List Subsystem) (us : List Use) → AgreeUses names all bs us → length us ≡ length bs
uses_long names all [] [] a = refl
uses_long names all [] (u ∷ us) a = absurd a
uses_long names all (b ∷ bs) [] a = absurd a
uses_long names all (b ∷ bs) (u ∷ us) a = ap suc (uses_long names all bs us a.1)

systems_long : (names : List (List ℕ)) (all xs : List PlainSystem) (rs : List SystemReading) → AgreeSystems names all xs rs → length rs ≡ length xs
systems_long names all [] [] a = refl
systems_long names all [] (r ∷ rs) a = absurd a
systems_long names all (x ∷ xs) [] a = absurd a
systems_long names all (x ∷ xs) (r ∷ rs) a = ap suc (systems_long names all xs rs a.1)

count_same : (names : List (List ℕ)) (all xs : List PlainSystem) (rs : List SystemReading) → AgreeSystems names all xs rs → cycles.count_uses rs ≡ count_subsystems xs
count_same names all [] [] a = refl
count_same names all [] (r ∷ rs) a = absurd a
count_same names all (x ∷ xs) [] a = absurd a
count_same names all (x ∷ xs) (r ∷ rs) a =
    ap (λ n. n + cycles.count_uses rs) (uses_long names all x.subsystems r.uses a.0.uses) ∙ ap (λ n. length x.subsystems + n) (count_same names all xs rs a.1)

containing_same : (names : List (List ℕ)) (all xs : List PlainSystem) (rs : List SystemReading) (start : ℕ) → AgreeSystems names all xs rs → cycles.system_rows start rs ≡ containing_rows start xs
containing_same names all [] [] start a = refl
containing_same names all [] (r ∷ rs) start a = absurd a
containing_same names all (x ∷ xs) [] start a = absurd a
containing_same names all (x ∷ xs) (r ∷ rs) start a =
    ap (λ n. nodes_from start n ∷ cycles.system_rows (start + n) rs) (uses_long names all x.subsystems r.uses a.0.uses)
    ∙ ap (λ rows. nodes_from start (length x.subsystems) ∷ rows) (containing_same names all xs rs (start + length x.subsystems) a.1)

module _ (ss : List PlainSystem) (fresh : are_fresh [] (system_names ss) ≡ true) where
  rows_same : (n : ℕ) (bs : List Subsystem) (us : List Use) → AgreeUses (system_names ss) ss bs us → cycles.use_rows n (length ss) (system_names ss) us ≡ subsystem_rows n bs
  rows_same n [] [] a = refl
  rows_same n [] (u ∷ us) a = absurd a
  rows_same n (b ∷ bs) [] a = absurd a
  rows_same n (b ∷ bs) (u ∷ us) a =
      ap (λ o. cycles.ends_at n (length ss) o ∷ cycles.use_rows n (length ss) (system_names ss) us) (ap (place_of (system_names ss)) a.0.target ∙ system_place ss b.system fresh a.0.there)
      ∙ ap (λ t. cond t ((n + b.system) ∷ []) [] ∷ cycles.use_rows n (length ss) (system_names ss) us) (less b.system (length ss) a.0.there)
      ∙ ap (λ rows. ((n + b.system) ∷ []) ∷ rows) (rows_same n bs us a.1)
    where
      less : (m n : ℕ) → m < n → nat_lt m n ≡ true
      less m n h = grind (arith, nat_tests)

  all_rows_same : (n : ℕ) (xs : List PlainSystem) (rs : List SystemReading) → AgreeSystems (system_names ss) ss xs rs → cycles.all_use_rows n (length ss) (system_names ss) rs ≡ all_subsystem_rows n xs
  all_rows_same n [] [] a = refl
  all_rows_same n [] (r ∷ rs) a = absurd a
  all_rows_same n (x ∷ xs) [] a = absurd a
  all_rows_same n (x ∷ xs) (r ∷ rs) a =
      ap (λ rows. rows ++ cycles.all_use_rows n (length ss) (system_names ss) rs) (rows_same n x.subsystems r.uses a.0.uses) ∙ ap (λ rows. subsystem_rows n x.subsystems ++ rows) (all_rows_same n xs rs a.1)

  graph_same : (rs : List SystemReading) → AgreeSystems (system_names ss) ss ss rs → cycles.use_graph rs (system_names ss) ≡ subsystem_graph ss
  graph_same rs a =
      let names = system_names ss in
      ap (λ n. cycles.all_use_rows n (length rs) names rs ++ cycles.system_rows 0 rs) (count_same names ss ss rs a)
      ∙ ap (λ n. cycles.all_use_rows (count_subsystems ss) n names rs ++ cycles.system_rows 0 rs) (systems_long names ss ss rs a)
      ∙ ap (λ rows. rows ++ cycles.system_rows 0 rs) (all_rows_same (count_subsystems ss) ss rs a)
      ∙ ap (λ rows. all_subsystem_rows (count_subsystems ss) ss ++ rows) (containing_same names ss ss rs 0 a)

  pub cycles_pass : (rs : List SystemReading) → AgreeSystems (system_names ss) ss ss rs → NoneContainsItself ss → cycles.cycle_failures rs (system_names ss) ≡ []
  cycles_pass rs a none = ap (λ g. cycles.all_cycles g 0 rs) (graph_same rs a) ∙ all_never (subsystem_graph ss) 0 rs none
