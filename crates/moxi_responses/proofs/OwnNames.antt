-- The names that a script's check declares differ, and can be read back.
use Rattle.std.proofs.Common.{◌≡◌, ℕ, ◌+◌, ◌≤◌, ◌<◌, ◌^◌, true, List, [], ◌∷◌, fold, length, Result, Ok, Err, IfOk, subst, arith}
use Rattle.std.specs.Coded.{Coded, Coded-set, codes}
use Rattle.std.specs.List.{sum_by}
use Rattle.std.proofs.Math.Bool.{Bool-set}
use Rattle.std.proofs.Math.Logic.{∥∥₁_elim, ∥∥₁_map}
use Rattle.std.proofs.lemmas.List.{length-map}
use Rattle.name_maps.specs.Names.{are_fresh}
use Rattle.text_core.specs.declared.place.Place.{Place}
use Rattle.text_core.specs.declared.place.Refusal.{Refusal}
use Rattle.moxi_sexpr.specs.Printing.{ArePrintable}
use Rattle.moxi_sexpr.specs.Tree.{Trees}
use Rattle.moxi_terms.specs.declared.data.Datum.{Datum}
use Rattle.moxi_term_print.specs.Terms.{variable_names}
use Rattle.moxi_scripts.specs.declared.script.Query.{Query}
use Rattle.moxi_scripts.specs.declared.script.Script.{Script}
use Rattle.moxi_scripts.specs.Invariant.{IsSpelled}
use Rattle.moxi_scripts.specs.Script.{PlainCheck, PlainScript}
use Rattle.moxi_scripts.specs.ScriptView.{plain_script}
use Rattle.moxi_scripts.specs.Spelling.{SpellsScript}
use Rattle.moxi_scripts.specs.Valid.{IsValid, query_names}
use Rattle.moxi_script_print.specs.NamesOfScripts.{HasSpellableNames}
use Rattle.moxi_flat.specs.declared.limits.TheConstants.{LARGEST}
use Rattle.moxi_flat.specs.FlatSizes.{part_size}
use Rattle.moxi_flat.specs.FlatSystem.{PlainFlatSystem, flat_of}
use Rattle.moxi_flat.specs.Systems.{query_size}
use Rattle.moxi_flat.specs.Terms.{call_sizes}
use Rattle.moxi_instantiate.specs.Instances.{check_of, flat_size}
use Rattle.moxi_judge.specs.Judging as judging
use Rattle.moxi_trace.specs.declared.point.Answered.{Answered}
use Rattle.moxi_trace.specs.ReadBack.{CanBeReadBack, ReadsBack}
use Rattle.moxi_trace.specs.Traces.{Declared, HasOwnNames, IsStatedTrace}
use Rattle.moxi_responses.specs.Declaring.{ReadsAgain, declared_of}
use Rattle.moxi_responses.proofs.ReadAgain.{can_be_read_back}

-- each of them counts one or more
counted : (g : Query → ℕ) (n : ℕ) (qs : List Query) → ((q : Query) → 1 ≤ g q) → n + length qs ≤ fold (λ n q. n + g q) n qs
counted g n [] h = omega arith
counted g n (q ∷ qs) h =
    let more = counted g (n + g q) qs h in
    let one = h q in
    omega (arith, more, one)

query_counts : (calls : ℕ → ℕ) (c : PlainCheck) (q : Query) → 1 ≤ query_size calls c q
query_counts calls c q = omega arith

bounded : (variables parts queries formulas count : ℕ) → variables + (parts + (queries + formulas)) ≤ LARGEST → 0 + count ≤ queries → count ≤ 2 ^ 32
bounded variables parts queries formulas count h g = omega (arith, h, g)

-- the queries count in the size of a flat system
pub few_queries : (f : PlainFlatSystem) → flat_size f ≤ LARGEST → length f.queries ≤ 2 ^ 32
few_queries f h =
    let size = query_size (call_sizes f.scope) (check_of f) in
    bounded (length f.variables) (sum_by (part_size (call_sizes f.scope)) f.parts) (sum_by size f.queries) _ (length f.queries) h (counted size 0 f.queries (query_counts (call_sizes f.scope) (check_of f)))

module _ (script : Script) (whole : (ts : Trees) (end : Place) (s : PlainScript) → SpellsScript ts end s → IsValid s)
    (differ : are_fresh [] (variable_names (flat_of (plain_script script)).variables) ≡ true) where
  pub own_names : length (plain_script script).check.queries ≤ 2 ^ 32 → HasOwnNames (declared_of (plain_script script))
  own_names few =
      let s = plain_script script in
      record {
        variables = differ;
        queries = ∥∥₁_elim script.spelled (Bool-set (are_fresh [] (query_names s.check.queries)) true) (λ (i : IsSpelled s). (whole i.forms i.end s i.spelled).check.queries.names);
        few = omega (arith, length-map s.check.queries (λ (q : Query). q.name), few);
      }

  pub names_again : ((ts : Trees) (end : Place) (s : PlainScript) → ArePrintable ts → SpellsScript ts end s → HasSpellableNames s) → ∥ CanBeReadBack (declared_of (plain_script script)) ∥₁
  names_again spellable =
      let s = plain_script script in
      ∥∥₁_map script.spelled (λ (i : IsSpelled s). can_be_read_back s (whole i.forms i.end s i.spelled) (spellable i.forms i.end s i.printable i.spelled) differ)

-- ---- what is printed

pub asked : (qs : List Query) (q : ℕ) → q < length qs → q < length (query_names qs)
asked qs q h = omega (arith, length-map qs (λ (q : Query). q.name), h)

pub stated : (s : PlainScript) (f : PlainFlatSystem) (steps : List (List Datum)) → f ≡ flat_of s → judging.IsStatedTrace f steps → IsStatedTrace (declared_of s) steps
stated s f steps e h = let t = subst (λ f. judging.IsStatedTrace f steps) e h in record { some = t.some; fit = t.fit }

answers_set : IsSet (Result Answered Refusal)
answers_set = let code : Coded (Result Answered Refusal) = hlevel codes in Coded-set code

pub printed_again : {E : Type 0} (d : Declared) (q : ℕ) (steps : List (List Datum)) (r : Result (List ℕ) E) → ∥ CanBeReadBack d ∥₁ → q < length d.queries → IsStatedTrace d steps → IfOk r (ReadsBack d q steps)
    → IfOk r (ReadsAgain d q steps)
printed_again d q steps (Ok text) can h t back = λ within few. ∥∥₁_elim can (answers_set _ _) (λ (can : CanBeReadBack d). back can h t within few)
printed_again d q steps (Err e) can h t back = tt
