-- Which sentences are said of what. The sentences themselves are the tables in src/advice.
use Rattle.std.specs.Prelude.{◌==◌, ◌-◌, ℕ, List, [], ◌∷◌, map, get_or, Option, Some, None, if◌then◌else◌}
use Rattle.std.specs.Borrow.{Bor}
use Rattle.std.specs.Str.{bytes_eq}
use Rattle.text_core.specs.declared.place.Kind.{Kind}
use Rattle.text_core.specs.declared.place.Kind.TheVariants.{S, M, B, X, Y}
use Rattle.text_core.specs.declared.verdict.Clause.{Clause}
use Rattle.text_core.specs.declared.verdict.Clause.TheVariants.{ValueOutside, InitFails, TransFails, InvarFails, AssumptionFails, CurrentFails, StateDiffers, ConstraintFails, NotBroken}
use Rattle.explain_core.specs.declared.advice.smv.TheConstants.{ADVICE as smv_advice}
use Rattle.explain_core.specs.declared.advice.moxi.TheConstants.{ADVICE as moxi_advice}
use Rattle.explain_core.specs.declared.advice.btor.TheConstants.{ADVICE as btor_advice}
use Rattle.explain_core.specs.declared.advice.witness.TheConstants.{ADVICE as witness_advice}
use Rattle.explain_core.specs.declared.advice.trace.TheConstants.{ADVICE as trace_advice}
use Rattle.explain_core.specs.declared.advice.clauses.TheConstants.{VALUE_OUTSIDE, INIT_FAILS, TRANS_FAILS, INVAR_FAILS, ASSUMPTION_FAILS, CURRENT_FAILS, STATE_DIFFERS, CONSTRAINT_FAILS, NOT_BROKEN}
use Rattle.explain_core.specs.declared.advice.hints.TheConstants.{RENAME, TEMPORAL, SMV_WORDS, DEAD_TOKENS, CLASHES, SCRIPT_WORDS}
use Rattle.explain_core.specs.Kinds.{is_among, is_kind}

-- a sentence on the cause and one on the mend, or a word and the mend beside it
abbrev pub plain_advice : Bor (List ℕ) × Bor (List ℕ) → List ℕ × List ℕ
plain_advice advice = (advice.0.now, advice.1.now)

-- the row of a number, counted from 1
abbrev pub advice_at : ℕ → List (List ℕ × List ℕ) → List ℕ × List ℕ
advice_at n rows = if n == 0 then ([], []) else get_or rows (n - 1) ([], [])

-- the sentences on the cause and on the mend of a kind of refusal
abbrev pub advice_of : Kind → List ℕ × List ℕ
advice_of (S n) = advice_at n (map (λ row. (row.0.now, row.1.now)) smv_advice)
advice_of (M n) = advice_at n (map (λ row. (row.0.now, row.1.now)) moxi_advice)
advice_of (B n) = advice_at n (map (λ row. (row.0.now, row.1.now)) btor_advice)
advice_of (X n) = advice_at n (map (λ row. (row.0.now, row.1.now)) witness_advice)
advice_of (Y n) = advice_at n (map (λ row. (row.0.now, row.1.now)) trace_advice)

-- the sentences on a clause that a stated run fails
abbrev pub clause_advice : Clause → List ℕ × List ℕ
clause_advice ValueOutside = (VALUE_OUTSIDE.0.now, VALUE_OUTSIDE.1.now)
clause_advice InitFails = (INIT_FAILS.0.now, INIT_FAILS.1.now)
clause_advice TransFails = (TRANS_FAILS.0.now, TRANS_FAILS.1.now)
clause_advice InvarFails = (INVAR_FAILS.0.now, INVAR_FAILS.1.now)
clause_advice AssumptionFails = (ASSUMPTION_FAILS.0.now, ASSUMPTION_FAILS.1.now)
clause_advice CurrentFails = (CURRENT_FAILS.0.now, CURRENT_FAILS.1.now)
clause_advice StateDiffers = (STATE_DIFFERS.0.now, STATE_DIFFERS.1.now)
clause_advice ConstraintFails = (CONSTRAINT_FAILS.0.now, CONSTRAINT_FAILS.1.now)
clause_advice NotBroken = (NOT_BROKEN.0.now, NOT_BROKEN.1.now)

-- the mend that stands beside a word
abbrev pub hint_in : List (List ℕ × List ℕ) → List ℕ → Option (List ℕ)
hint_in [] token = None
hint_in (row ∷ rows) token = if bytes_eq row.0 token then Some row.1 else hint_in rows token

-- the mend for a token of a kind of refusal, where there is one of its own
abbrev pub hint_for : Kind → List ℕ → Option (List ℕ)
hint_for kind token =
    if is_kind kind (S 6) then (if is_among (map (λ word. word.now) TEMPORAL) token then Some RENAME.now else hint_in (map (λ row. (row.0.now, row.1.now)) SMV_WORDS) token)
    else (if is_kind kind (S 5) then hint_in (map (λ row. (row.0.now, row.1.now)) DEAD_TOKENS) token
    else (if is_kind kind (S 16) then hint_in (map (λ row. (row.0.now, row.1.now)) CLASHES) token
    else (if is_kind kind (M 6) then hint_in (map (λ row. (row.0.now, row.1.now)) SCRIPT_WORDS) token
    else None)))
