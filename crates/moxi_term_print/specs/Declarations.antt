-- How declarations of a scope are printed (MoXI, SPIN 2024; SMT-LIB 2.6, section 4.2.3).
use Rattle.std.specs.Prelude.{ℕ, List, [], ◌∷◌, codes}
use Rattle.moxi_terms.specs.declared.term.Enumeration.{Enumeration}
use Rattle.moxi_terms.specs.declared.term.NamedSort.{NamedSort}
use Rattle.moxi_terms.specs.Tree.{PlainFunction}
use Rattle.moxi_terms.specs.View.{ScopeState}
use Rattle.moxi_term_print.specs.Shown.{Shown, word, group, Showns, no_showns, shown}
use Rattle.moxi_term_print.specs.Terms.{symbol, shown_sort, shown_term, shown_variables, variable_names}

abbrev pub shown_symbols : List (List ℕ) → Showns
shown_symbols [] = no_showns
shown_symbols (name ∷ names) = shown (symbol name) (shown_symbols names)

-- `(declare-enum-sort N (c ..))`
abbrev pub shown_enumeration : Enumeration → Shown
shown_enumeration e = group (shown (word (codes "declare-enum-sort")) (shown (symbol e.name) (shown (group (shown_symbols e.constants)) no_showns)))

-- `(define-sort N () S)`
abbrev pub shown_named_sort : ScopeState → NamedSort → Shown
shown_named_sort s n = group (shown (word (codes "define-sort")) (shown (symbol n.name) (shown (group no_showns) (shown (shown_sort s n.sort) no_showns))))

-- `(define-fun f ((x S) ..) S t)`; the body is over the parameters
abbrev pub shown_function : ScopeState → PlainFunction → Shown
shown_function s f =
    group (shown (word (codes "define-fun")) (shown (symbol f.name) (shown (group (shown_variables s f.parameters)) (shown (shown_sort s f.result) (shown (shown_term s (variable_names f.parameters) [] f.body) no_showns)))))
