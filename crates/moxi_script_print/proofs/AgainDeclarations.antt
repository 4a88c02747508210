-- Enumerations, sorts and functions that are shown and read again.
use Rattle.std.proofs.Common.{◌≡◌, ◌==◌, ℕ, ◌<◌, nat_lt, Bool, true, false, not, cond, ◌||◌, is_none, Some, Ok, List, [], ◌∷◌, ◌++◌, length, refl, sym, ap, ◌∙◌, subst, append_assoc, append-nil, arith}
use Rattle.std.specs.Prelude.{codes}
use Rattle.std.specs.List.{AllByRecursion, list_any}
use Rattle.std.specs.Str.{bytes_eq}
use Rattle.std.proofs.lemmas.Bool.Decides.{nat_tests}
use Rattle.text_core.specs.declared.place.Place.{Place}
use Rattle.moxi_sexpr.specs.declared.form.Atom.TheVariants.{Symbol}
use Rattle.moxi_sexpr.specs.Tree as form
use Rattle.moxi_terms.specs.declared.data.Primes.TheVariants.{Refused}
use Rattle.moxi_terms.specs.declared.data.Sort.{Sort}
use Rattle.moxi_terms.specs.declared.data.Sort.TheVariants.{Truth, Bits, Choice}
use Rattle.moxi_terms.specs.declared.term.Enumeration.{Enumeration}
use Rattle.moxi_terms.specs.declared.term.NamedSort.{NamedSort}
use Rattle.moxi_term_reading.specs.Forms.{place_in}
use Rattle.moxi_terms.specs.Names.{all_constants, enumeration_names, is_among, is_sort_name, is_term_name, may_be_constants, may_be_enumeration, sort_names, with_enumeration, with_function, with_sort}
use Rattle.name_maps.specs.Names.{are_fresh, place_of}
use Rattle.moxi_term_reading.specs.Reading as reading
use Rattle.moxi_term_reading.specs.SortReading.{sort_reading}
use Rattle.moxi_terms.specs.Sorted.{AreSorts}
use Rattle.moxi_terms.specs.Sorts.{IsSort, same_sort}
use Rattle.moxi_terms.specs.Tree.{PlainFunction, sorts_of}
use Rattle.moxi_terms.specs.View.{ScopeState}
use Rattle.moxi_term_print.specs.Declarations.{shown_enumeration, shown_function, shown_named_sort, shown_symbols}
use Rattle.moxi_term_print.specs.Shown.{group, no_showns, shown, Shows, ShowEach}
use Rattle.moxi_term_print.specs.WellScoped.{IsWellScoped}
use Rattle.moxi_term_print.specs.WellScopedReads as standing
use Rattle.moxi_term_print.specs.Terms.{shown_sort, shown_term, shown_variables, variable_names}
use Rattle.moxi_term_print.specs.laws.StandingShapes as shape
use Rattle.moxi_scripts.specs.declared.parts.Declared.{Declared}
use Rattle.moxi_scripts.specs.Collecting.{fails_if}
use Rattle.moxi_scripts.specs.Commands.{Reading, form_failures, with_form}
use Rattle.moxi_scripts.specs.Declarations as declarations
use Rattle.moxi_scripts.specs.Declarations.{FunctionForms, are_symbols, constants_failures, is_nil, is_taken, symbols_in, with_constants, with_term_name}
use Rattle.moxi_scripts.specs.Entries.{entries_of, known_sort, names_with, sort_failures}
use Rattle.moxi_scripts.specs.Shapes.{HeadedForms}
use Rattle.moxi_scripts.specs.Valid.{is_fixed_sort, over}
use Rattle.moxi_script_print.proofs.AgainEntries.{Agree, agree_differ, agree_locals, agree_variables, entries_read}
use Rattle.moxi_script_print.specs.laws.VariableNames.{names_of_locals}
use Rattle.moxi_script_print.proofs.AgainParts.{ReadsBack, both_nil, some_if}
use Rattle.moxi_script_print.proofs.AgainShapes.{is_listed, named_form}
use Rattle.moxi_script_print.proofs.AgainSystems.{command_form, is_command}
use Rattle.moxi_scripts.specs.laws.WholeNames.{Absent, and_both, fresh_first, is_absent, or_both, or_parts}
use Rattle.moxi_scripts.proofs.CycleLaws.{less}

-- NAMES

pub sort_new : (s : ScopeState) (name : List ℕ) → is_fixed_sort name ≡ false → Absent (enumeration_names s) name → Absent (sort_names s) name → is_sort_name s name ≡ false
sort_new s name free es ss =
    let p = or_parts (bytes_eq name (codes "Bool")) (bytes_eq name (codes "BitVec")) free in
    let e = is_among (enumeration_names s) name in
    let n = is_among (sort_names s) name in
    or_both (bytes_eq name (codes "Bool")) (bytes_eq name (codes "BitVec") || (e || n)) p.0
    (or_both (bytes_eq name (codes "BitVec")) (e || n) p.1
    (or_both e n (some_if (place_of (enumeration_names s) name) (is_absent (enumeration_names s) name es)) (some_if (place_of (sort_names s) name) (is_absent (sort_names s) name ss))))

untaken : (s : ScopeState) (names : List (List ℕ)) (name : List ℕ) → is_term_name s name ≡ false → is_none (place_of names name) ≡ true → is_taken s names name ≡ false
untaken s names name h g = or_both (is_term_name s name) (not (is_none (place_of names name))) h (ap not g)

named_more : (s : ScopeState) (names : List (List ℕ)) (name : List ℕ) → is_term_name s name ≡ false → is_none (place_of names name) ≡ true → with_term_name s names name ≡ names ++ name ∷ []
named_more s names name h g = ap (λ b. cond b names (names_with names name)) h ∙ ap (λ b. cond b (names ++ name ∷ []) names) g

abbrev pub AreNew : ScopeState → List (List ℕ) → Type 0
AreNew s names = AllByRecursion (λ (name : List ℕ). is_term_name s name ≡ false) names

none_any : (p : List ℕ → Bool) (names : List (List ℕ)) → AllByRecursion (λ (name : List ℕ). p name ≡ false) names → list_any p names ≡ false
none_any p [] a = refl
none_any p (name ∷ names) a = or_both (p name) (list_any p names) a.0 (none_any p names a.1)

-- ENUMERATIONS

record AreConstants (s : ScopeState) (names cs : List (List ℕ)) (ts : form.Trees) : Type 0 where
  pub symbols : are_symbols ts ≡ true
  pub are : symbols_in ts ≡ cs
  pub pass : constants_failures s names ts ≡ []
  pub names_then : with_constants s names ts ≡ names ++ cs

one_constant : (s : ScopeState) (names : List (List ℕ)) (c : List ℕ) (cs : List (List ℕ)) (p : Place) (ts : form.Trees) → is_term_name s c ≡ false → is_none (place_of names c) ≡ true
    → AreConstants s (names ++ c ∷ []) cs ts → AreConstants s names (c ∷ cs) (form.tree (form.atom p (Symbol c false)) ts)
one_constant s names c cs p ts h g r = record {
  symbols = r.symbols;
  are = ap (λ xs. c ∷ xs) r.are;
  pass =
      ap (λ b. fails_if b 9 p ++ constants_failures s (with_term_name s names c) ts) (untaken s names c h g) ∙ ap (λ ns. constants_failures s ns ts) (named_more s names c h g) ∙ r.pass;
  names_then = ap (λ ns. with_constants s ns ts) (named_more s names c h g) ∙ r.names_then ∙ append_assoc names (c ∷ []) cs;
}

constants_read : (s : ScopeState) (names cs : List (List ℕ)) (ts : form.Trees) → AreNew s cs → are_fresh names cs ≡ true → ShowEach ts (shown_symbols cs) → AreConstants s names cs ts
constants_read s names [] form.no_trees a f h = record { symbols = refl; are = refl; pass = refl; names_then = sym (append-nil names) }
constants_read s names [] (form.tree t ts) a f h = absurd h
constants_read s names (c ∷ cs) form.no_trees a f h = absurd h
constants_read s names (c ∷ cs) (form.tree t ts) a f h =
    let x = shape.is_part t (Symbol c false) h.0 in
    let p = fresh_first names c cs f in
    subst (λ t. AreConstants s names (c ∷ cs) (form.tree t ts)) (sym x.1) (one_constant s names c cs x.0 ts a.0 (is_absent names c p.0) (constants_read s (names ++ c ∷ []) cs ts a.1 p.1 h.1))

-- what an enumeration that is declared in a scope, behind these names, has
pub record IsNewEnumeration (s : ScopeState) (names : List (List ℕ)) (e : Enumeration) : Type 0 where
  pub some : 0 < length e.constants
  pub sort : is_sort_name s e.name ≡ false
  pub constants : AreNew s e.constants
  pub differ : are_fresh (all_constants s.enumerations) e.constants ≡ true
  pub behind : are_fresh names e.constants ≡ true

abbrev pub with_read_enumeration : Reading → Enumeration → Reading
with_read_enumeration r e = record r { scope = with_enumeration r.scope e.name e.constants; term_names = r.term_names ++ e.constants }

abbrev one_form : form.Tree → form.Trees
one_form t = form.tree t form.no_trees

pub record Reads (r r_then : Reading) (f : form.Tree) : Type 0 where
  pub is : with_form r f ≡ r_then
  pub pass : form_failures r f ≡ []

pub enumeration_read : (r : Reading) (e : Enumeration) (f : form.Tree) → IsNewEnumeration r.scope r.term_names e → Shows f (shown_enumeration e) → Reads r (with_read_enumeration r e) f
enumeration_read r e f w h =
    let s = r.scope in
    let c = is_command f (codes "declare-enum-sort") e.name (shown (group (shown_symbols e.constants)) no_showns) h in
    let o = shape.is_one c.forms (group (shown_symbols e.constants)) c.show in
    let l = is_listed o.0 (shown_symbols e.constants) o.2 in
    let x = constants_read s r.term_names e.constants l.parts w.constants w.behind l.show in
    let nf = named_form e.name c.name_place o.0 in
    let some : declarations.may_be_constants l.parts ≡ true =
    and_both (are_symbols l.parts) (nat_lt 0 (length (symbols_in l.parts))) x.symbols (ap (λ cs. nat_lt 0 (length cs)) x.are ∙ less 0 (length e.constants) w.some) in
    let may : may_be_enumeration s e.name e.constants ≡ true =
    and_both (not (is_sort_name s e.name)) (may_be_constants s e.constants) (ap not w.sort)
    (and_both (not (list_any (is_term_name s) e.constants)) (are_fresh (all_constants s.enumerations) e.constants) (ap not (none_any (is_term_name s) e.constants w.constants)) w.differ) in
    let is : f ≡ command_form c.place c.word_place (codes "declare-enum-sort") c.name_place e.name (one_form o.0) =
    c.is ∙ ap (command_form c.place c.word_place (codes "declare-enum-sort") c.name_place e.name) o.1 in
    record {
      is =
          ap (with_form r) is
          ∙ ap (λ o. record r { scope = declarations.with_listed s nf o; term_names = declarations.with_listed_names s r.term_names o }) l.is
          ∙ ap (λ b. record r { scope = cond b (declarations.with_new_enumeration s e.name (symbols_in l.parts)) s; term_names = with_constants s r.term_names l.parts }) some
          ∙ ap (λ cs. record r { scope = declarations.with_new_enumeration s e.name cs; term_names = with_constants s r.term_names l.parts }) x.are
          ∙ ap (λ b. record r { scope = cond b (with_enumeration s e.name e.constants) s; term_names = with_constants s r.term_names l.parts }) may
          ∙ ap (λ ns. record r { scope = with_enumeration s e.name e.constants; term_names = ns }) x.names_then;
      pass =
          ap (form_failures r) is ∙ ap (declarations.listed_failures s r.term_names c.place nf) l.is
          ∙ ap (λ b. fails_if b 9 c.name_place ++ (constants_failures s r.term_names l.parts ++ fails_if (not (declarations.may_be_constants l.parts)) 12 (place_in o.0))) w.sort
          ∙ ap (λ xs. xs ++ fails_if (not (declarations.may_be_constants l.parts)) 12 (place_in o.0)) x.pass
          ∙ ap (λ b. fails_if (not b) 12 (place_in o.0)) some;
    }

-- SORTS

abbrev pub with_read_sort : Reading → NamedSort → Reading
with_read_sort r n = record r { scope = with_sort r.scope n.name n.sort }

pub sort_definition_read : (r : Reading) (n : NamedSort) (f : form.Tree) → ReadsBack r.scope → IsSort r.scope.enumerations n.sort → is_sort_name r.scope n.name ≡ false → Shows f (shown_named_sort r.scope n)
    → Reads r (with_read_sort r n) f
sort_definition_read r n f back i new h =
    let s = r.scope in
    let c = is_command f (codes "define-sort") n.name (shown (group no_showns) (shown (shown_sort s n.sort) no_showns)) h in
    let o = shape.is_two c.forms (group no_showns) (shown_sort s n.sort) c.show in
    let g = shape.is_group o.0 no_showns o.3 in
    let e : o.0 ≡ form.list g.0 form.no_trees = g.2 ∙ ap (form.list g.0) (shape.is_none g.1 g.3) in
    let is : f ≡ command_form c.place c.word_place (codes "define-sort") c.name_place n.name (form.tree (form.list g.0 form.no_trees) (one_form o.1)) =
    c.is ∙ ap (command_form c.place c.word_place (codes "define-sort") c.name_place n.name) (o.2 ∙ ap (λ t. form.tree t (one_form o.1)) e) in
    let read : sort_reading s c.place o.1 ≡ Ok n.sort = back.sorts c.place n.sort o.1 i o.4 in
    record {
      is =
          ap (with_form r) is ∙ ap (λ x. record r { scope = declarations.with_sort_if s n.name (known_sort x) }) read
          ∙ ap (λ b. record r { scope = cond (not b) (with_sort s n.name n.sort) s }) new;
      pass =
          ap (form_failures r) is ∙ ap (λ b. fails_if b 9 c.name_place ++ sort_failures (sort_reading s c.place o.1)) new ∙ ap sort_failures read;
    }

-- FUNCTIONS

pub same_refl : (s : Sort) → same_sort s s ≡ true
same_refl Truth = refl
same_refl (Bits w) = same_number w
  where
    same_number : (n : ℕ) → (n == n) ≡ true
    same_number n = grind (arith, nat_tests)
same_refl (Choice n) = same_number n
  where
    same_number : (n : ℕ) → (n == n) ≡ true
    same_number n = grind (arith, nat_tests)

-- what a function that is declared in a scope has: its body can stand over its parameters and the functions before it
pub record IsNewFunction (s : ScopeState) (names : List (List ℕ)) (f : PlainFunction) : Type 0 where
  pub name : is_term_name s f.name ≡ false
  pub behind : is_none (place_of names f.name) ≡ true
  pub parameters : AreSorts s.enumerations (sorts_of f.parameters)
  pub differ : are_fresh [] (variable_names f.parameters) ≡ true
  pub result : IsSort s.enumerations f.result
  pub body : IsWellScoped (over s f.parameters Refused) [] f.body f.result

abbrev pub with_function_read : Reading → PlainFunction → List Declared → Reading
with_function_read r f ds = record r { scope = with_function r.scope f; term_names = r.term_names ++ f.name ∷ []; variables = r.variables ++ ds }

pub record IsNextFunction (r : Reading) (f : PlainFunction) (t : form.Tree) : Type 0 where
  pub parameters : List Declared
  pub agree : Agree f.parameters parameters
  pub reads : Reads r (with_function_read r f parameters) t

abbrev headed_name : List ℕ → Place → form.Trees → HeadedForms
headed_name name p ts = record { name = name; primed = false; place = p; rest = ts }

pub function_read : (r : Reading) (f : PlainFunction) (t : form.Tree) → ReadsBack r.scope → IsNewFunction r.scope r.term_names f → Shows t (shown_function r.scope f) → IsNextFunction r f t
function_read r f t back w h =
    let s = r.scope in
    let names = r.term_names in
    let shown_body = shown_term s (variable_names f.parameters) [] f.body in
    let c = is_command t (codes "define-fun") f.name (shown (group (shown_variables s f.parameters)) (shown (shown_sort s f.result) (shown shown_body no_showns))) h in
    let a = shape.is_more c.forms (group (shown_variables s f.parameters)) (shown (shown_sort s f.result) (shown shown_body no_showns)) c.show in
    let b = shape.is_two a.1 (shown_sort s f.result) shown_body a.4 in
    let l = is_listed a.0 (shown_variables s f.parameters) a.3 in
    let e = entries_read s back (place_in a.0) f.parameters l.parts w.parameters l.show in
    let ds = entries_of s l.parts in
    let rest = form.tree a.0 (form.tree b.0 (one_form b.1)) in
    let body_form = b.1 in
    let head = headed_name f.name c.name_place rest in
    let ff : FunctionForms = record { name = head; place = place_in a.0; parameters = l.parts; result = b.0; body = b.1 } in
    let is : t ≡ command_form c.place c.word_place (codes "define-fun") c.name_place f.name rest =
    c.is ∙ ap (command_form c.place c.word_place (codes "define-fun") c.name_place f.name) (a.2 ∙ ap (form.tree a.0) b.2) in
    let result : sort_reading s c.place b.0 ≡ Ok f.result = back.sorts c.place f.result b.0 w.result b.3 in
    let body : declarations.body_reading s ff ≡ standing.whole f.body f.result =
    ap (λ ls. reading.read (record { scope = s; variables = ls; primes = Refused }) [] b.1) (agree_locals f.parameters ds e.entries)
    ∙ back.terms (over s f.parameters Refused) [] f.body f.result b.1 w.body (subst (λ ns. Shows b.1 (shown_term s ns [] f.body)) (sym (names_of_locals f.parameters)) b.4) in
    let parts : declarations.part_failures s c.place ff ≡ [] =
    both_nil _ _ (both_nil _ _ e.pass (ap sort_failures result))
    (ap (λ (x : reading.Reading). x.failures ++ declarations.clash_failures (known_sort (declarations.result_sort s c.place ff)) x.sort (place_in b.1)) body
    ∙ ap (λ x. declarations.clash_failures (known_sort x) (Some f.result) (place_in b.1)) result ∙ ap (λ b. fails_if (not b) 5 (place_in body_form)) (same_refl f.result)) in
    record {
      parameters = ds;
      agree = e.entries;
      reads = record {
        is =
            ap (with_form r) is
            ∙ ap (λ o.
            record r {
              scope = declarations.with_function_of s c.place (declarations.with_list (place_in a.0) head a.0 b.0 b.1 o);
              term_names = declarations.with_function_name s names (declarations.with_list (place_in a.0) head a.0 b.0 b.1 o);
              variables = r.variables ++ declarations.parameters_in s (declarations.with_list (place_in a.0) head a.0 b.0 b.1 o);
            }) l.is
            ∙ ap (λ xs. record r { scope = cond (is_nil xs) (declarations.with_typed_function s ff (known_sort (declarations.result_sort s c.place ff))) s; term_names = with_term_name s names f.name; variables = r.variables ++ ds }) parts
            ∙ ap (λ x. record r { scope = declarations.with_typed s f.name ds (declarations.body_reading s ff).term (known_sort x); term_names = with_term_name s names f.name; variables = r.variables ++ ds }) result
            ∙ ap (λ (x : reading.Reading). record r { scope = declarations.with_typed s f.name ds x.term (Some f.result); term_names = with_term_name s names f.name; variables = r.variables ++ ds }) body
            ∙ ap (λ vs. record r { scope = declarations.with_new_function s (record { name = f.name; parameters = vs; result = f.result; body = f.body }); term_names = with_term_name s names f.name; variables = r.variables ++ ds })
            (agree_variables f.parameters ds e.entries)
            ∙ ap (λ b. record r { scope = cond (not b) (with_function s f) s; term_names = with_term_name s names f.name; variables = r.variables ++ ds }) w.name
            ∙ ap (λ ns. record r { scope = with_function s f; term_names = ns; variables = r.variables ++ ds }) (named_more s names f.name w.name w.behind);
        pass =
            ap (form_failures r) is
            ∙ ap (λ o. declarations.function_tests s names c.place (declarations.with_list (place_in a.0) head a.0 b.0 b.1 o)) l.is
            ∙ both_nil _ _ (both_nil _ _ (ap (λ b. fails_if b 9 c.name_place) (untaken s names f.name w.name w.behind)) (agree_differ f.parameters ds e.entries w.differ)) parts;
      };
    }
