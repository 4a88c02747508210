-- What is shown of a term that can appear in its place can be shown, where its names can be spelled, by induction over the term.
use Rattle.std.proofs.Common.{◌≡◌, ℕ, zero, suc, ◌≤◌, Bool, true, false, cond, List, [], ◌∷◌, ◌++◌, length, Option, None, Some, refl, sym, ap, ◌∙◌, subst, arith}
use Rattle.std.specs.Prelude.{◌==◌, slice_get, IsTrue}
use Rattle.std.specs.Option.{option_map}
use Rattle.std.specs.List.{list_all}
use Rattle.std.specs.Str.{bytes_eq}
use Rattle.std.proofs.lemmas.Bool.{and_parts}
use Rattle.std.proofs.lemmas.Slice.Eq.{bytes_eq-Decides}
use Rattle.std.proofs.lemmas.Option.{same_Some, none-some}
use Rattle.word_core.specs.declared.word.TheConstants.{WIDEST}
use Rattle.moxi_sexpr.specs.Atoms.{is_simple}
use Rattle.moxi_terms.specs.declared.data.Sort.{Sort}
use Rattle.moxi_terms.specs.declared.data.Sort.TheVariants.{Truth, Bits, Choice}
use Rattle.moxi_terms.specs.declared.data.Datum.{Datum}
use Rattle.moxi_terms.specs.declared.data.Datum.TheVariants as datum
use Rattle.moxi_terms.specs.declared.data.TermOp.{TermOp}
use Rattle.moxi_terms.specs.declared.data.TermOp.TheVariants as op
use Rattle.moxi_terms.specs.declared.names.Head.TheVariants as heads
use Rattle.moxi_term_reading.specs.declared.locals.Local.{Local}
use Rattle.moxi_terms.specs.declared.term.Enumeration.{Enumeration}
use Rattle.moxi_terms.specs.Tree.{Tree, constant, variable, bound, apply, binding, call, Trees, no_trees, tree, PlainFunction, sorts_of}
use Rattle.moxi_terms.specs.View.{ScopeState}
use Rattle.moxi_terms.specs.Names.{or_else, function_names, enumeration_names, all_constants}
use Rattle.name_maps.specs.Names.{place_of}
use Rattle.moxi_terms.specs.Words.{operators, row_named, operator_named}
use Rattle.moxi_terms.specs.Meanings as reading
use Rattle.moxi_term_reading.specs.Reading.{Context, names_of}
use Rattle.moxi_terms.specs.Meanings.{head_named}
use Rattle.moxi_term_print.specs.Shown.{Showns, no_showns, shown, CanBeShown, AllCanBeShown}
use Rattle.moxi_term_print.specs.Terms.{name_at, constants_or_none, operator_word, shown_operator, truth_word, shown_value, shown_sort, shown_call, shown_term, shown_terms, shown_bindings}
use Rattle.moxi_term_print.specs.WellScoped.{bound_locals, IsWellScopedValue, IsKnownOperator, IsWellScoped, AreWellScoped}
use Rattle.moxi_term_print.specs.WellScopedReads.{IsKnownSort}
use Rattle.moxi_term_print.specs.StandingNames.{IsSpellable, AreSpellable, NamesAreSpellable, AllNamesAreSpellable, IsSpellableScope}
use Rattle.moxi_term_print.proofs.StandingNumbers.{digits_run, decimal_run}
use Rattle.moxi_term_print.proofs.StandingRead.{bound_names}
use Rattle.moxi_term_print.proofs.StandingSpelled.{primed_alike}
use Rattle.moxi_term_reading.proofs.ReadingLaws.{names_append}

-- NAMES

pub name_spellable : (names : List (List ℕ)) (i : ℕ) → AreSpellable names → IsSpellable (name_at names i)
name_spellable [] i h = refl
name_spellable (name ∷ names) zero h = h.0
name_spellable (name ∷ names) (suc i) h = name_spellable names i h.1

front_spellable : (xs ys : List (List ℕ)) → AreSpellable (xs ++ ys) → AreSpellable xs
front_spellable [] ys h = tt
front_spellable (x ∷ xs) ys h = (h.0, front_spellable xs ys h.1)

back_spellable : (xs ys : List (List ℕ)) → AreSpellable (xs ++ ys) → AreSpellable ys
back_spellable [] ys h = h
back_spellable (x ∷ xs) ys h = back_spellable xs ys h.1

constants_spellable : (es : List Enumeration) (n : ℕ) → AreSpellable (all_constants es) → AreSpellable (constants_or_none (slice_get es n))
constants_spellable [] n h = tt
constants_spellable (e ∷ es) zero h = front_spellable e.constants (all_constants es) h
constants_spellable (e ∷ es) (suc n) h = constants_spellable es n (back_spellable e.constants (all_constants es) h)

-- OPERATORS

is_plain : List ℕ × TermOp → Bool
is_plain row = is_simple row.0

rows_plain : list_all is_plain operators ≡ true
unfolding is_plain operators
rows_plain = refl

row_plain : (rows : List (List ℕ × TermOp)) (name : List ℕ) (o : TermOp) → list_all is_plain rows ≡ true → row_named rows name ≡ Some o → is_simple name ≡ true
unfolding is_plain
row_plain [] name o h g = absurd (none-some o g)
row_plain (row ∷ rows) name o h g =
    let p = and_parts (is_plain row) (list_all is_plain rows) h in
    by_test (bytes_eq name row.0) refl g p.0 (λ e. row_plain rows name o p.1 e)
  where
    by_test : (b : Bool) → bytes_eq name row.0 ≡ b → cond b (Some row.1) (row_named rows name) ≡ Some o → is_simple row.0 ≡ true → (row_named rows name ≡ Some o → is_simple name ≡ true) → is_simple name ≡ true
    by_test true e g a later = ap is_simple ((bytes_eq-Decides name row.0).0 e) ∙ a
    by_test false e g a later = later g

found_operator : (x : Option TermOp) (o : TermOp) → option_map heads.Operator x ≡ Some (heads.Operator o) → x ≡ Some o
found_operator None o h = absurd (none-some _ h)
found_operator (Some p) o h = ap Some (same_operator p o (same_Some (heads.Operator p) (heads.Operator o) h))
  where
    same_operator : (p o : TermOp) → heads.Operator p ≡ heads.Operator o → p ≡ o
    same_operator p o h = cc

function_differs : (n : ℕ) (o : TermOp) → heads.Function n ≡ heads.Operator o → ⊥
function_differs n o h = cc

named_operator : (s : ScopeState) (name : List ℕ) (o : TermOp) → head_named s name ≡ Some (heads.Operator o) → operator_named name ≡ Some o
named_operator s name o h = by_place (place_of (function_names s) name) h
  where
    by_count : (n : ℕ) (b : Bool) → or_else (cond b None (Some (heads.Function n))) (option_map heads.Operator (operator_named name)) ≡ Some (heads.Operator o) → operator_named name ≡ Some o
    by_count n true h = found_operator (operator_named name) o h
    by_count n false h = absurd (function_differs n o (same_Some (heads.Function n) (heads.Operator o) h))

    by_function : (n : ℕ) (f : Option PlainFunction) → or_else (reading.head_call n f) (option_map heads.Operator (operator_named name)) ≡ Some (heads.Operator o) → operator_named name ≡ Some o
    by_function n None h = found_operator (operator_named name) o h
    by_function n (Some f) h = by_count n (length f.parameters == 0) h

    by_place : (k : Option ℕ) → or_else (reading.head_function s.functions k) (option_map heads.Operator (operator_named name)) ≡ Some (heads.Operator o) → operator_named name ≡ Some o
    by_place None h = found_operator (operator_named name) o h
    by_place (Some n) h = by_function n (slice_get s.functions n) h

word_shown : (s : ScopeState) (o : TermOp) → head_named s (operator_word o) ≡ Some (heads.Operator o) → IsTrue (is_simple (operator_word o))
word_shown s o h = row_plain operators (operator_word o) o rows_plain (named_operator s (operator_word o) o h)

operator_shown : (s : ScopeState) (o : TermOp) → IsKnownOperator s o → CanBeShown (shown_operator o)
operator_shown s (op.Extract high low) h = (refl, (refl, (decimal_run high h.0, (decimal_run low h.1, tt))))
operator_shown s (op.ZeroExtend n) h = (refl, (refl, (decimal_run n h, tt)))
operator_shown s (op.SignExtend n) h = (refl, (refl, (decimal_run n h, tt)))
operator_shown s o h = word_shown s o h

-- VALUES AND SORTS

truth_shown : (b : Bool) → IsTrue (is_simple (truth_word b))
truth_shown true = refl
truth_shown false = refl

value_shown : (c : Context) (bounds : List Local) (d : Datum) (s : Sort) → IsSpellableScope c.scope → IsWellScopedValue c bounds d s → CanBeShown (shown_value c.scope d)
value_shown c bounds (datum.Truth b) s n h = truth_shown b
value_shown c bounds (datum.Bits w) s n h = digits_run w.width w.bits h.1.0
value_shown c bounds (datum.Constant m i) s n h = name_spellable (constants_or_none (slice_get c.scope.enumerations m)) i (constants_spellable c.scope.enumerations m n.constants)

pub sort_shown : (s : ScopeState) (sort : Sort) → IsSpellableScope s → IsKnownSort s sort → CanBeShown (shown_sort s sort)
sort_shown s Truth n h = refl
sort_shown s (Bits w) n h = (refl, (refl, (decimal_run w (let l : w ≤ WIDEST = h.1 in omega arith), tt)))
sort_shown s (Choice m) n h = name_spellable (enumeration_names s) m n.enumerations

-- TERMS

call_shown : (name : List ℕ) (xs : Showns) → IsSpellable name → AllCanBeShown xs → CanBeShown (shown_call name xs)
call_shown name no_showns h g = h
call_shown name (shown x xs) h g = (h, g)

spelled_both : (xs ys : List Local) → AreSpellable (names_of xs) → AreSpellable (names_of ys) → AreSpellable (names_of (xs ++ ys))
spelled_both [] ys h g = g
spelled_both (x ∷ xs) ys h g = (h.0, spelled_both xs ys h.1 g)

module _ (c : Context) (scope : IsSpellableScope c.scope) (vars : AreSpellable (names_of c.variables)) where
  mutual
    pub term_shown : (bounds : List Local) (t : Tree) (s : Sort) → AreSpellable (names_of bounds) → IsWellScoped c bounds t s → NamesAreSpellable t
        → CanBeShown (shown_term c.scope (names_of c.variables) (names_of bounds) t)
    term_shown bounds (constant d) s k h n = value_shown c bounds d s scope h
    term_shown bounds (variable v primed) s k h n = primed_alike (name_at (names_of c.variables) v) primed ∙ name_spellable (names_of c.variables) v vars
    term_shown bounds (bound i) s k h n = name_spellable (names_of bounds) i k
    term_shown bounds (apply o us) s k h n = (operator_shown c.scope o h.3, terms_shown bounds us h.0 k h.1 n)
    term_shown bounds (binding names us t) s k h n =
        let same : names_of (bound_locals names h.0) ≡ names = bound_names names h.0 h.2 in
        let all : names_of (bounds ++ bound_locals names h.0) ≡ names_of bounds ++ names = names_append bounds (bound_locals names h.0) ∙ ap (λ ns. names_of bounds ++ ns) same in (
          refl,
          (
            bindings_shown bounds names us h.0 k h.3 n.0 n.1,
            (
              subst (λ ns. CanBeShown (shown_term c.scope (names_of c.variables) ns t)) all
                  (term_shown (bounds ++ bound_locals names h.0) t s (spelled_both bounds (bound_locals names h.0) k (subst AreSpellable (sym same) n.0)) h.4 n.2),
              tt,
            ),
          ),
        )
    term_shown bounds (call m us) s k h n =
        call_shown (name_at (function_names c.scope) m) (shown_terms c.scope (names_of c.variables) (names_of bounds) us) (name_spellable (function_names c.scope) m scope.functions)
        (terms_shown bounds us (sorts_of h.0.parameters) k h.3 n)

    terms_shown : (bounds : List Local) (us : Trees) (ss : List Sort) → AreSpellable (names_of bounds) → AreWellScoped c bounds us ss → AllNamesAreSpellable us
        → AllCanBeShown (shown_terms c.scope (names_of c.variables) (names_of bounds) us)
    terms_shown bounds no_trees ss k h n = tt
    terms_shown bounds (tree t us) [] k h n = absurd h
    terms_shown bounds (tree t us) (s ∷ ss) k h n = (term_shown bounds t s k h.0 n.0, terms_shown bounds us ss k h.1 n.1)

    bindings_shown : (bounds : List Local) (names : List (List ℕ)) (us : Trees) (ss : List Sort) → AreSpellable (names_of bounds) → AreWellScoped c bounds us ss → AreSpellable names → AllNamesAreSpellable us
        → AllCanBeShown (shown_bindings c.scope (names_of c.variables) (names_of bounds) names us)
    bindings_shown bounds names no_trees ss k h g n = tt
    bindings_shown bounds [] (tree t us) ss k h g n = tt
    bindings_shown bounds (name ∷ names) (tree t us) [] k h g n = absurd h
    bindings_shown bounds (name ∷ names) (tree t us) (s ∷ ss) k h g n = ((g.0, (term_shown bounds t s k h.0 n.0, tt)), bindings_shown bounds names us ss k h.1 g.1 n.1)
