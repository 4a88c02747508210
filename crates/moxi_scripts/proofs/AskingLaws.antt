-- The tests of a step in two parts: the system's, then those of the query.
use Rattle.std.proofs.Common.{◌≡◌, ℕ, zero, suc, Bool, true, false, cond, Some, List, [], ◌∷◌, ◌++◌, refl, ap, ◌∙◌}
use Rattle.text_core.specs.declared.verdict.Clause.{Clause}
use Rattle.moxi_terms.specs.Names.{or_else}
use Rattle.moxi_scripts.specs.declared.script.Query.{Query}
use Rattle.moxi_scripts.specs.Asking.{query_tests, system_tests}
use Rattle.moxi_scripts.specs.Behaviour.{Trace}
use Rattle.moxi_scripts.specs.Meeting.{Hiddens, first_failing, is_reached_before, step_tests}
use Rattle.moxi_scripts.specs.Script.{PlainScript}

pub two_parts : (s : PlainScript) (q : Query) (last : ℕ) (trace : Trace) (hs : Hiddens) (j : ℕ) → step_tests s q last trace hs j ≡ system_tests s trace hs j ++ query_tests s q last (is_reached_before s trace j) j (trace j)
two_parts s q last trace hs zero = refl
two_parts s q last trace hs (suc j) = refl

first_of_two : (ts us : List (Bool × Clause)) → first_failing (ts ++ us) ≡ or_else (first_failing ts) (first_failing us)
first_of_two [] us = refl
first_of_two (t ∷ ts) us = by_test t.0 (first_of_two ts us)
  where
    by_test : (b : Bool) → first_failing (ts ++ us) ≡ or_else (first_failing ts) (first_failing us) → cond b (first_failing (ts ++ us)) (Some t.1) ≡ or_else (cond b (first_failing ts) (Some t.1)) (first_failing us)
    by_test true h = h
    by_test false h = refl

pub first_part : (s : PlainScript) (q : Query) (last : ℕ) (trace : Trace) (hs : Hiddens) (j : ℕ)
    → first_failing (step_tests s q last trace hs j) ≡ or_else (first_failing (system_tests s trace hs j)) (first_failing (query_tests s q last (is_reached_before s trace j) j (trace j)))
first_part s q last trace hs j = ap first_failing (two_parts s q last trace hs j) ∙ first_of_two (system_tests s trace hs j) (query_tests s q last (is_reached_before s trace j) j (trace j))
