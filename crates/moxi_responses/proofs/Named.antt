-- Names of queries, and that of a system.
use Rattle.std.proofs.Common.{◌≡◌, ℕ, zero, suc, ◌<◌, List, [], ◌∷◌, map, length, ap, subst, arith}
use Rattle.std.proofs.Math.Logic.{∥∥₁_map}
use Rattle.std.specs.Prelude.{slice_index_or}
use Rattle.text_core.specs.declared.place.Place.{Place}
use Rattle.moxi_sexpr.specs.Tree.{Trees}
use Rattle.moxi_scripts.specs.declared.script.Script.{Script}
use Rattle.moxi_scripts.specs.declared.script.System.{System}
use Rattle.moxi_scripts.specs.Invariant.{IsSpelled}
use Rattle.moxi_scripts.specs.Script.{PlainScript, plain_system, system_at}
use Rattle.moxi_scripts.specs.ScriptView.{plain_script}
use Rattle.moxi_scripts.specs.Spelling.{SpellsScript}
use Rattle.moxi_scripts.specs.Valid.{IsValid}
use Rattle.moxi_instantiate.proofs.Measured.{lt_held}

-- the plain form of a list has its length
pub plain_length : (ss : List System) → length (map plain_system ss) ≡ length ss
plain_length [] = omega arith
plain_length (s ∷ ss) = ap suc (plain_length ss)

-- the system at a place has the name of the plain system there
pub system_name : (ss : List System) (i : ℕ) (s : System) → i < length ss → s ≡ slice_index_or ss i s → s.name ≡ (system_at (map plain_system ss) i).name
system_name [] i s l e = absurd (omega arith)
system_name (x ∷ xs) zero s l e = ap (λ (y : System). y.name) e
system_name (x ∷ xs) (suc i) s l e = system_name xs i s (omega arith) e

-- the checked system of a script is there
pub checked_there : (script : Script) → ((ts : Trees) (end : Place) (s : PlainScript) → SpellsScript ts end s → IsValid s) → script.check.system < length script.systems
checked_there script whole =
    let s = plain_script script in
    subst (λ n. script.check.system < n) (plain_length script.systems)
    (lt_held script.check.system (length s.systems) (∥∥₁_map script.spelled (λ (i : IsSpelled s). (whole i.forms i.end s i.spelled).check.there)))
