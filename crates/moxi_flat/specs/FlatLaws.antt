-- What a script's flat system has to do with the script.
use Rattle.std.specs.Prelude.{◌≡◌, ◌↔◌, ℕ, ◌+◌, ◌<◌, ◌≤◌, false, [], ◌∷◌, length}
use Rattle.std.specs.List.{list_all}
use Rattle.text_core.specs.declared.verdict.Verdict.TheVariants.{Yes}
use Rattle.moxi_terms.specs.Tree.{sorts_of}
use Rattle.moxi_scripts.specs.declared.script.Query.{Query}
use Rattle.moxi_scripts.specs.Script.{PlainScript, PlainSystem, system_at}
use Rattle.moxi_scripts.specs.Behaviour.{Suits, Trace}
use Rattle.moxi_scripts.specs.Meeting.{Hiddens, MeetsQuery, all_hold, is_true, judged_moxi}
use Rattle.moxi_scripts.specs.Valid.{IsValid, check_variables}
use Rattle.moxi_flat.specs.FlatSystem.{PlainPart, flat_of}
use Rattle.moxi_flat.specs.Systems.{script_size}
use Rattle.moxi_flat.specs.FlatSorts.{IsSortedFlat}
use Rattle.moxi_flat.specs.Limits.{has_name_twice}
use Rattle.moxi_flat.specs.FlatMeeting.{HasHidden, MeetsFlat, hidden_values}

-- at the steps 0 to k the flat trace has what the trace has for the check's variables
pub record Extends (s : PlainScript) (k : ℕ) (trace flat : Trace) : Type 0 where
  pub each : (j v : ℕ) → j ≤ k → v < length (check_variables s.check) → flat j v ≡ trace j v

-- a flat trace with these values meets the query
pub record IsMetFlat (s : PlainScript) (q : Query) (k : ℕ) (trace : Trace) : Type 0 where
  pub flat : Trace
  pub extends : Extends s k trace flat
  pub meets : MeetsFlat (flat_of s) q k flat

abbrev pub TracesHaveFlatTraces : Type 0
TracesHaveFlatTraces = (s : PlainScript) → IsValid s → (q : Query) (k : ℕ) (trace : Trace) → MeetsQuery s q k trace ↔ IsMetFlat s q k trace

-- at the steps 0 to k the flat trace has the values of the trace and the hidden ones
pub record WritesOut (s : PlainScript) (k : ℕ) (trace : Trace) (hs : Hiddens) (flat : Trace) : Type 0 where
  pub extends : Extends s k trace flat
  pub hidden : HasHidden s k flat hs

abbrev pub HiddenValuesAreWritten : Type 0
HiddenValuesAreWritten = (s : PlainScript) (k : ℕ) (flat : Trace) → WritesOut s k flat (hidden_values s flat) flat

-- a formula of all systems, between the steps i and j, and the one of all parts
pub record AreTested (s : PlainScript) (trace : Trace) (hs : Hiddens) (flat : Trace) (i j : ℕ) : Type 0 where
  pub init : all_hold s (λ x. x.init) i j trace hs ≡ list_all (λ (p : PlainPart). is_true s (flat i) (flat j) p.init) (flat_of s).parts
  pub trans : all_hold s (λ x. x.trans) i j trace hs ≡ list_all (λ (p : PlainPart). is_true s (flat i) (flat j) p.trans) (flat_of s).parts
  pub inv : all_hold s (λ x. x.inv) i j trace hs ≡ list_all (λ (p : PlainPart). is_true s (flat i) (flat j) p.inv) (flat_of s).parts

abbrev pub PartsAreTested : Type 0
PartsAreTested = (s : PlainScript) → IsValid s → (k : ℕ) (trace : Trace) (hs : Hiddens) (flat : Trace) → WritesOut s k trace hs flat
    → (i j : ℕ) → i ≤ k → j ≤ k → AreTested s trace hs flat i j

-- each variable of the flat system has a value of its sort at the steps 0 to k
abbrev pub SuitsFlat : PlainScript → ℕ → Trace → Type 0
SuitsFlat s k flat = (j : ℕ) → j ≤ k → Suits s.scope.enumerations (sorts_of (flat_of s).variables) (flat j)

-- the judge says Yes of a trace with hidden values exactly where the flat trace with the same values meets the query
abbrev pub FlatTracesAreJudged : Type 0
FlatTracesAreJudged = (s : PlainScript) → IsValid s → (q : Query) (k : ℕ) (trace : Trace) (hs : Hiddens) (flat : Trace) → WritesOut s k trace hs flat → SuitsFlat s k flat
    → (judged_moxi s q k trace hs ≡ Yes) ↔ MeetsFlat (flat_of s) q k flat

abbrev pub FlatSystemsAreSorted : Type 0
FlatSystemsAreSorted = (s : PlainScript) → IsValid s → IsSortedFlat (flat_of s)

-- the variables and the parts together are no more than the size
abbrev pub FlatSystemsAreSmall : Type 0
FlatSystemsAreSmall = (s : PlainScript) → IsValid s → length (flat_of s).variables + length (flat_of s).parts ≤ script_size s

abbrev pub own_part : PlainSystem → PlainPart
own_part x = record { init = x.init; trans = x.trans; inv = x.inv }

-- where the checked system has no subsystems, the flat system has the check's variables and the system's own formulas
pub record IsOwnSystem (s : PlainScript) : Type 0 where
  pub variables : (flat_of s).variables ≡ check_variables s.check
  pub parts : (flat_of s).parts ≡ own_part (system_at s.systems s.check.system) ∷ []
  pub names : has_name_twice s ≡ false

abbrev pub SingleSystemsAreFlat : Type 0
SingleSystemsAreFlat = (s : PlainScript) → IsValid s → (system_at s.systems s.check.system).subsystems ≡ [] → IsOwnSystem s
