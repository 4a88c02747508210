-- The script of well-formed lines is valid.
use Rattle.std.proofs.Common.{◌≡◌, ℕ, suc, ◌+◌, ◌≤◌, ◌<◌, ◌^◌, false, List, [], ◌∷◌, ◌++◌, drop, length, decimal, refl, sym, ap, subst, arith}
use Rattle.std.specs.Prelude.{codes}
use Rattle.std.specs.List.{AllByRecursion}
use Rattle.std.proofs.lemmas.Fmt.{decimal_injective}
use Rattle.digraph.proofs.Sorting.{never_returns}
use Rattle.btor_tree.specs.declared.lines.Line.{Line}
use Rattle.btor_tree.specs.Fits.{IsWellFormed, is_bad}
use Rattle.btor_tree.proofs.Grows.{counts_small}
use Rattle.btor_tree.proofs.Widths.{sort_small}
use Rattle.moxi_terms.specs.declared.term.Variable.{Variable}
use Rattle.moxi_terms.specs.Names.{is_term_name, no_scope}
use Rattle.moxi_terms.specs.Sorts.{IsSort}
use Rattle.moxi_term_print.specs.Terms.{variable_names}
use Rattle.moxi_scripts.specs.Valid.{AreVariables, IsValidScope, IsValidSystem, AreValidSystems, formula_names, IsValidQuery, query_names, IsValidCheck, IsValid}
use Rattle.btor_import.specs.Script.{check_of, import_of, lines_in, number_of, queries_from, reachables_from, system_of}
use Rattle.btor_import.proofs.Lists.{all_by}
use Rattle.btor_import.proofs.Standing.{IsFree, all_free, sort_some, init_stands, inv_stands, names_differ, reachables_stand, trans_stands}
use Rattle.btor_import.proofs.LineVariables.{all_variables, line_of_variable, lines_long}
use Rattle.moxi_term_reading.specs.laws.AllLaws.{all_at}
use Rattle.name_maps.proofs.FreshNames.{AllDiffer, Lacks, all_fresh, all_mapped}
use Rattle.text_core.proofs.ListLaws.{nothing_there}
use Rattle.digraph.proofs.Lists.{only_node}

whole_scope : IsValidScope no_scope
whole_scope = record {
  scope = record { enumerations = tt; sorts = tt; functions = λ n f h. nothing_there n f h };
  sorts = record { differ = refl; free = tt };
  terms = record { differ = refl; free = tt };
  functions = λ n f h. nothing_there n f h;
}

-- ---- names with numbers

numbered_lack : (n j : ℕ) (ls : List Line) (number : ℕ → ℕ) → n < j → j + length ls ≤ 2 ^ 32 → Lacks (formula_names (reachables_from number j ls)) (codes "b." ++ decimal n)
numbered_lack n j [] number l h = tt
numbered_lack n j (b ∷ bs) number l h =
    ((λ e. let s = decimal_injective j n (omega (arith, h)) (omega (arith, h, l)) (ap (drop 2) e) in absurd (omega (arith, l, s))), numbered_lack n (j + 1) bs number (omega (arith, l)) (omega (arith, h)))

reachables_differ : (j : ℕ) (ls : List Line) (number : ℕ → ℕ) → j + length ls ≤ 2 ^ 32 → AllDiffer (formula_names (reachables_from number j ls))
reachables_differ j [] number h = tt
reachables_differ j (b ∷ bs) number h = (numbered_lack j (j + 1) bs number (omega arith) (omega (arith, h)), reachables_differ (j + 1) bs number (omega (arith, h)))

queries_lack : (n j : ℕ) (ls : List Line) → n < j → j + length ls ≤ 2 ^ 32 → Lacks (query_names (queries_from j ls)) (codes "q." ++ decimal n)
queries_lack n j [] l h = tt
queries_lack n j (b ∷ bs) l h =
    ((λ e. let s = decimal_injective j n (omega (arith, h)) (omega (arith, h, l)) (ap (drop 2) e) in absurd (omega (arith, l, s))), queries_lack n (j + 1) bs (omega (arith, l)) (omega (arith, h)))

queries_differ : (j : ℕ) (ls : List Line) → j + length ls ≤ 2 ^ 32 → AllDiffer (query_names (queries_from j ls))
queries_differ j [] h = tt
queries_differ j (b ∷ bs) h = (queries_lack j (j + 1) bs (omega arith) (omega (arith, h)), queries_differ (j + 1) bs (omega (arith, h)))

pub reachables_long : (number : ℕ → ℕ) (j : ℕ) (ls : List Line) → length (reachables_from number j ls) ≡ length ls
reachables_long number j [] = refl
reachables_long number j (b ∷ bs) = ap suc (reachables_long number (j + 1) bs)

queries_whole : (n j : ℕ) (ls : List Line) → j + length ls ≤ n → AllByRecursion (IsValidQuery 0 0 n) (queries_from j ls)
queries_whole n j [] h = tt
queries_whole n j (b ∷ bs) h = (record { assumptions_there = tt; currents_there = tt; reachables_there = (omega (arith, h), tt); reachables_differ = refl }, queries_whole n (j + 1) bs (omega (arith, h)))

module _ (lines : List Line) (well : IsWellFormed lines) where
  -- there are few bad lines
  pub bads_few : length (lines_in is_bad lines) ≤ 2147483647
  bads_few = let l = lines_long is_bad lines in let c = counts_small is_bad lines well in omega (arith, l, c)

  sorts_are : AllByRecursion (λ (v : Variable). IsSort [] v.sort) (all_variables lines)
  sorts_are = all_by (λ (v : Variable). IsSort [] v.sort) (all_variables lines)
      (λ v x h.
      let p = line_of_variable lines v x h in
      subst (λ (y : Variable). IsSort [] y.sort) (sym p.same) (sort_some lines well p.place p.line p.there p.word, sort_small lines p.line.sort well))

  whole_variables : AreVariables no_scope (all_variables lines)
  whole_variables = record {
    names = record {
      differ = all_fresh (variable_names (all_variables lines)) (names_differ lines well);
      free = all_mapped (λ (name : List ℕ). is_term_name no_scope name ≡ false) (λ (v : Variable). v.name) (all_variables lines)
          (all_by (λ (v : Variable). is_term_name no_scope v.name ≡ false) (all_variables lines) (λ v x h. (all_at (λ (y : Variable). IsFree y.name) (all_variables lines) v x (all_free lines well) h).no_term));
    };
    sorts = all_mapped (IsSort []) (λ (v : Variable). v.sort) (all_variables lines) sorts_are;
  }

  whole_system : IsValidSystem no_scope (system_of lines ∷ []) (system_of lines)
  whole_system = record {
    variables = whole_variables;
    init = init_stands lines well;
    trans = trans_stands lines well;
    inv = inv_stands lines well;
    names = refl;
    subsystems = tt;
  }

  whole_systems : AreValidSystems no_scope (system_of lines ∷ [])
  whole_systems = record {
    names = refl;
    systems = (whole_system, tt);
    acyclic = never_returns ([] ∷ []) (0 ∷ []) (record { within = refl; whole = only_node; once = refl; falls = refl });
  }

  whole_check : IsValidCheck no_scope (system_of lines ∷ []) (check_of lines)
  whole_check = record {
    there = omega arith;
    fits = record { inputs = refl; outputs = refl; locals = refl };
    variables = whole_variables;
    formulas = record {
      names = all_fresh (formula_names (reachables_from (number_of lines) 0 (lines_in is_bad lines))) (reachables_differ 0 (lines_in is_bad lines) (number_of lines) (omega (arith, bads_few)));
      assumptions = tt;
      currents = tt;
      reachables = reachables_stand lines well;
    };
    queries = record {
      names = all_fresh (query_names (queries_from 0 (lines_in is_bad lines))) (queries_differ 0 (lines_in is_bad lines) (omega (arith, bads_few)));
      queries = queries_whole (length (reachables_from (number_of lines) 0 (lines_in is_bad lines))) 0 (lines_in is_bad lines)
          (let e = reachables_long (number_of lines) 0 (lines_in is_bad lines) in omega (arith, e));
    };
  }

  pub whole_script : IsValid (import_of lines)
  whole_script = record { scope = whole_scope; systems = whole_systems; check = whole_check }
