-- Commands of which no test fails, one behind the other: what they declare is complete over the scope that is at the end.
use Rattle.std.proofs.Common.{◌≡◌, ℕ, true, false, IfOk, Option, None, Some, List, [], ◌∷◌, ◌++◌, map, take, length, refl, sym, ap, ◌∙◌, subst, append_assoc, append-nil, inl, inr}
use Rattle.std.specs.Prelude.{slice_get}
use Rattle.std.specs.List.{AllByRecursion}
use Rattle.std.proofs.lemmas.Option.{none-some, same_Some}
use Rattle.text_core.specs.declared.place.Place.{Place}
use Rattle.moxi_sexpr.specs.Lexing.{refusal}
use Rattle.moxi_sexpr.specs.Tree as form
use Rattle.moxi_terms.specs.declared.data.Primes.TheVariants.{Refused}
use Rattle.moxi_terms.specs.declared.data.Sort.{Sort}
use Rattle.moxi_term_reading.specs.Forms.{place_in}
use Rattle.moxi_terms.specs.Names.{is_term_name, no_scope, with_function}
use Rattle.name_maps.specs.Names.{are_fresh}
use Rattle.moxi_term_reading.specs.Reading.{Context, prime_failures, read}
use Rattle.moxi_term_reading.specs.SortReading.{sort_reading}
use Rattle.moxi_terms.specs.Sorts.{IsSort}
use Rattle.moxi_terms.specs.Sorted.{IsScope}
use Rattle.moxi_terms.specs.Tree.{PlainFunction, sorts_of}
use Rattle.moxi_terms.specs.View.{ScopeState}
use Rattle.moxi_term_reading.specs.WellSorted.{HaveKnownSorts, IsWellSorted}
use Rattle.moxi_term_print.specs.WellScoped.{IsWellScoped}
use Rattle.moxi_scripts.specs.declared.parts.CommandName.{CommandName}
use Rattle.moxi_scripts.specs.declared.parts.CommandName.TheVariants as name
use Rattle.moxi_scripts.specs.declared.parts.Declared.{Declared}
use Rattle.moxi_scripts.specs.Checks.{CheckReading, check_failures, check_of, variables_in}
use Rattle.moxi_scripts.specs.Commands as commands
use Rattle.moxi_scripts.specs.Commands.{Reading, command_failures, command_named, commands_failures, first_check, form_failures, nothing_read, reading_after, with_command, with_form}
use Rattle.moxi_scripts.specs.Declarations.{FunctionForms, body_reading, clash_failures, function_failures, function_forms, function_tests, name_failures, parameters_in, result_sort, term_name_tests, with_read_enumeration, with_read_function, with_read_sort}
use Rattle.moxi_scripts.specs.Entries.{entries_failures, entries_of, locals_among, sort_failures, twice_failures, variables_of}
use Rattle.moxi_scripts.specs.Shapes.{HeadedForms, headed}
use Rattle.moxi_scripts.specs.Systems.{SystemReading, variables_of_system}
use Rattle.moxi_scripts.specs.Valid.{IsValidFunction, before}
use Rattle.moxi_scripts.proofs.FunctionLaws.{function_is, none_in, some_fails}
use Rattle.moxi_scripts.proofs.WholeEntries.{entries_known, locals_known, locals_same, twice_fresh, variables_whole}
use Rattle.moxi_scripts.proofs.WholeFormulas.{StandOn, TermsAreWellScoped, no_clash}
use Rattle.moxi_scripts.specs.laws.WholeNames.{fresh_end}
use Rattle.moxi_scripts.specs.laws.WholeParts.{all_append, all_parts, map_append, no_failure}
use Rattle.moxi_scripts.specs.laws.WholeScopes.{GrowsTo, IsScopeSoFar, grows_enumeration, grows_function, grows_on, grows_same, grows_sort, take_whole, with_enumeration_so_far, with_function_so_far, with_sort_so_far}
use Rattle.moxi_scripts.proofs.WholeSteps.{IsNewFunction, enumeration_cases, function_cases, function_of, sort_cases}
use Rattle.moxi_scripts.proofs.WholeSystems.{AreUntaken, IsCheckSoFar, IsSystemSoFar, known_on, next_system, read_check}
use Rattle.moxi_terms.proofs.ScopeLaws.{append_cases}

abbrev pub SortsAreKnown : Type 0
SortsAreKnown = (s : ScopeState) (around : Place) (t : form.Tree) → IsScope s → IfOk (sort_reading s around t) (IsSort s.enumerations)

abbrev pub TermsAreSorted : Type 0
TermsAreSorted = (c : Context) (vars : List Sort) (t : form.Tree) → HaveKnownSorts c.variables vars → (read c [] t).failures ≡ [] → IsWellSorted c vars [] (read c [] t)

-- what is read later holds what was read
pub record Follows (r t : Reading) : Type 0 where
  pub grows : GrowsTo r.scope t.scope
  pub more : List Declared
  pub variables : t.variables ≡ r.variables ++ more

follows_on : (r t u : Reading) → Follows r t → Follows t u → Follows r u
follows_on r t u f g = record {
  grows = grows_on r.scope t.scope u.scope f.grows g.grows;
  more = f.more ++ g.more;
  variables = g.variables ∙ ap (λ x. x ++ g.more) f.variables ∙ append_assoc r.variables f.more g.more;
}

-- a form of which no test fails is a command of which none fails
form_cases : (P : Reading → Type 0) (r : Reading) (t : form.Tree) → ((c : CommandName) (p : Place) (ts : form.Trees) → command_failures c r p ts ≡ [] → P (with_command c r p ts)) → form_failures r t ≡ [] → P (with_form r t)
form_cases P r (form.atom p a) f h = some_fails (refusal 12 p) [] h
form_cases P r (form.list p ts) f h = by_head (headed ts) h
  where
    by_name : (o : Option CommandName) (us : form.Trees) → commands.known_failures o r p us ≡ [] → P (commands.with_known o r p us)
    by_name None us h = some_fails (refusal 6 p) [] h
    by_name (Some c) us h = f c p us h

    by_head : (o : Option HeadedForms) → commands.headed_failures r p o ≡ [] → P (commands.with_headed r p o)
    by_head None h = some_fails (refusal 12 p) [] h
    by_head (Some x) h = by_name (command_named x.name) x.rest (none_in (prime_failures x.primed x.place) _ h).1

-- THE SCOPE

module _ (sorts : SortsAreKnown) (terms : TermsAreSorted) where
  -- the scope keeps what scopes keep, and grows
  record Goes (s t : ScopeState) : Type 0 where
    pub so_far : IsScopeSoFar t
    pub grows : GrowsTo s t

  stays : (s : ScopeState) → IsScopeSoFar s → Goes s s
  stays s k = record { so_far = k; grows = grows_same s }

  enumeration_goes : (s : ScopeState) (ts : form.Trees) → IsScopeSoFar s → Goes s (with_read_enumeration s ts)
  enumeration_goes s ts k = enumeration_cases (Goes s) s (stays s k) (λ name cs n. record { so_far = with_enumeration_so_far s name cs k n; grows = grows_enumeration s name cs n }) ts

  sort_goes : (s : ScopeState) (p : Place) (ts : form.Trees) → IsScopeSoFar s → Goes s (with_read_sort s p ts)
  sort_goes s p ts k =
      sort_cases (Goes s) s (stays s k) (λ name sort n is. record { so_far = with_sort_so_far s name sort k n is; grows = grows_sort s name sort }) (λ q t. sorts s q t k.scope) p ts

  function_goes : (s : ScopeState) (p : Place) (ts : form.Trees) → IsScopeSoFar s → Goes s (with_read_function s p ts)
  function_goes s p ts k =
      function_cases (Goes s) s p (function_forms ts) (stays s k)
      (λ f r e n. record {
        so_far = with_function_so_far s (function_of s f r) k n.name (function_is s (λ q t. sorts s q t k.scope) p f r terms n.parts n.result);
        grows = grows_function s (function_of s f r) n.name;
      })

  -- a command goes on
  pub record GoesOn (r t : Reading) : Type 0 where
    pub so_far : IsScopeSoFar t.scope
    pub follows : Follows r t

  abbrev no_more : (r t : Reading) → t.variables ≡ r.variables → Goes r.scope t.scope → GoesOn r t
  no_more r t e g = record { so_far = g.so_far; follows = record { grows = g.grows; more = []; variables = e ∙ sym (append-nil r.variables) } }

  command_goes : (c : CommandName) (r : Reading) (p : Place) (ts : form.Trees) → IsScopeSoFar r.scope → GoesOn r (with_command c r p ts)
  command_goes name.Logic r p ts k = no_more r (with_command name.Logic r p ts) refl (stays r.scope k)
  command_goes name.PassedOver r p ts k = no_more r r refl (stays r.scope k)
  command_goes name.Enumeration r p ts k = no_more r (with_command name.Enumeration r p ts) refl (enumeration_goes r.scope ts k)
  command_goes name.Sort r p ts k = no_more r (with_command name.Sort r p ts) refl (sort_goes r.scope p ts k)
  command_goes name.Function r p ts k =
      let g = function_goes r.scope p ts k in
      record { so_far = g.so_far; follows = record { grows = g.grows; more = parameters_in r.scope (function_forms ts); variables = refl } }
  command_goes name.System r p ts k = record { so_far = k; follows = record { grows = grows_same r.scope; more = variables_of_system r.scope (headed ts); variables = refl } }
  command_goes name.Check r p ts k = record { so_far = k; follows = record { grows = grows_same r.scope; more = variables_in r.scope (headed ts); variables = refl } }

  form_goes : (r : Reading) (t : form.Tree) → IsScopeSoFar r.scope → form_failures r t ≡ [] → GoesOn r (with_form r t)
  form_goes r t k h = form_cases (GoesOn r) r t (λ c p ts e. command_goes c r p ts k) h

  pub forms_go : (r : Reading) (ts : form.Trees) → IsScopeSoFar r.scope → commands_failures r ts ≡ [] → GoesOn r (reading_after r ts)
  forms_go r form.no_trees k h = no_more r r refl (stays r.scope k)
  forms_go r (form.tree t ts) k h =
      let e = none_in (form_failures r t) (commands_failures (with_form r t) ts) h in
      let a = form_goes r t k e.0 in
      let b = forms_go (with_form r t) ts a.so_far e.1 in
      record { so_far = b.so_far; follows = follows_on r (with_form r t) (reading_after (with_form r t) ts) a.follows b.follows }

-- WHAT IS DECLARED OVER IT

-- what is read so far is valid over the scope at the end
pub record IsSoFar (s : ScopeState) (r : Reading) : Type 0 where
  pub functions : (n : ℕ) (f : PlainFunction) → slice_get r.scope.functions n ≡ Some f → IsValidFunction s n f
  pub systems : AllByRecursion (IsSystemSoFar s) r.systems
  pub names : map (λ (x : SystemReading). x.name) r.systems ≡ r.system_names
  pub differ : are_fresh [] r.system_names ≡ true
  pub check : (c : CheckReading) → r.check ≡ Some c → IsCheckSoFar s c

grows_before : (s t : ScopeState) → GrowsTo s t → GrowsTo s (before t (length s.functions))
grows_before s t g = record {
  more_enumerations = g.more_enumerations;
  more_sorts = g.more_sorts;
  more_functions = [];
  enumerations = g.enumerations;
  sorts = g.sorts;
  functions = ap (take (length s.functions)) g.functions ∙ take_whole s.functions g.more_functions ∙ sym (append-nil s.functions);
  constants_new = g.constants_new;
  functions_new = tt;
}

module _ (sorts : SortsAreKnown) (terms : TermsAreSorted) (stand : TermsAreWellScoped) (on : StandOn) (end : Reading) (untaken : AreUntaken end.scope end.variables) where
  command_untaken : (front free : List Declared) (t : Reading) → t.variables ≡ front ++ free → Follows t end → AreUntaken end.scope free
  command_untaken front free t e f =
      let New = λ (d : Declared). is_term_name end.scope d.name ≡ false in
      (all_parts New front free (all_parts New (front ++ free) f.more (subst (AllByRecursion New) (f.variables ∙ ap (λ x. x ++ f.more) e) untaken)).0).1

  function_whole : (s : ScopeState) (p : Place) (f : FunctionForms) (r : Sort) → IsScopeSoFar s → GrowsTo s end.scope → IsNewFunction s p f r → twice_failures [] (entries_of s f.parameters) ≡ []
      → AreUntaken end.scope (entries_of s f.parameters) → IsValidFunction end.scope (length s.functions) (function_of s f r)
  function_whole s p f r k g n twice u =
      let ds = entries_of s f.parameters in
      let front = none_in (entries_failures s f.place f.parameters ++ sort_failures (result_sort s p f)) _ n.parts in
      let first = none_in (entries_failures s f.place f.parameters) _ front.0 in
      let back = none_in (body_reading s f).failures _ front.1 in
      let known = entries_known s (λ q t. sorts s q t k.scope) f.place f.parameters first.0 in
      let same = locals_same s.enumerations ds known in
      let c : Context = record { scope = s; variables = locals_among ds; primes = Refused } in
      let w = stand c (sorts_of (variables_of ds)) f.body (subst (λ ls. HaveKnownSorts ls (sorts_of (variables_of ds))) (sym same) (locals_known (variables_of ds))) back.0 in
      let clash : clash_failures (Some r) (Some w.0) (place_in f.body) ≡ [] =
      subst (λ o. clash_failures (Some r) o (place_in f.body) ≡ []) w.1 (subst (λ o. clash_failures o (body_reading s f).sort (place_in f.body) ≡ []) n.result back.1) in
      let one : r ≡ w.0 = no_clash r w.0 (place_in f.body) clash in
      let t = (body_reading s f).term in
      record {
        parameters = variables_whole end.scope ds (known_on s end.scope g ds known) (twice_fresh [] ds twice) u;
        body = subst (λ ls. IsWellScoped (let x : Context = record { scope = before end.scope (length s.functions); variables = ls; primes = Refused } in x) [] t r) same
            (on c (before end.scope (length s.functions)) (grows_before s end.scope g) t r (subst (IsWellScoped c [] t) (sym one) w.2));
      }

  abbrev WholeFunctions : ScopeState → Type 0
  WholeFunctions s = (n : ℕ) (f : PlainFunction) → slice_get s.functions n ≡ Some f → IsValidFunction end.scope n f

  functions_step : (r : Reading) (p : Place) (ts : form.Trees) → IsScopeSoFar r.scope → Follows (with_command name.Function r p ts) end → function_failures r.scope r.term_names p ts ≡ [] → WholeFunctions r.scope
      → WholeFunctions (with_read_function r.scope p ts)
  functions_step r p ts k follows h w =
      function_cases (λ (t : ScopeState). GrowsTo t end.scope → WholeFunctions t) r.scope p (function_forms ts) (λ g. w)
      (λ f x e n g m y q. elim (append_cases r.scope.functions (function_of r.scope f x) y m q) [
        | inl a ↦ w m y a.0
        | inr a ↦ subst (λ y. IsValidFunction end.scope m y) a.1 (subst (λ m. IsValidFunction end.scope m (function_of r.scope f x)) (sym a.0) (added f x e n g))
      ]) follows.grows
    where
      added : (f : FunctionForms) (x : Sort) → function_forms ts ≡ Some f → IsNewFunction r.scope p f x → GrowsTo (with_function r.scope (function_of r.scope f x)) end.scope
          → IsValidFunction end.scope (length r.scope.functions) (function_of r.scope f x)
      added f x e n g =
          let free = none_in (name_failures r.scope r.term_names f) _ (subst (λ o. function_tests r.scope r.term_names p o ≡ []) e h) in
          let twice = none_in (prime_failures f.name.primed f.name.place ++ term_name_tests r.scope r.term_names f.name.name f.name.place) _ free.0 in
          let parameters : parameters_in r.scope (function_forms ts) ≡ entries_of r.scope f.parameters = ap (parameters_in r.scope) e in
          function_whole r.scope p f x k (grows_on r.scope (with_function r.scope (function_of r.scope f x)) end.scope (grows_function r.scope (function_of r.scope f x) n.name) g) n twice.1
          (command_untaken r.variables (entries_of r.scope f.parameters) (with_command name.Function r p ts) (ap (λ x. r.variables ++ x) parameters) follows)

  command_whole : (c : CommandName) (r : Reading) (p : Place) (ts : form.Trees) → IsScopeSoFar r.scope → command_failures c r p ts ≡ [] → IsSoFar end.scope r → Follows (with_command c r p ts) end
      → IsSoFar end.scope (with_command c r p ts)
  command_whole name.Logic r p ts k h i f = record { functions = i.functions; systems = i.systems; names = i.names; differ = i.differ; check = i.check }
  command_whole name.PassedOver r p ts k h i f = i
  command_whole name.Enumeration r p ts k h i f =
      record { functions = enumeration_cases WholeFunctions r.scope i.functions (λ n cs e. i.functions) ts; systems = i.systems; names = i.names; differ = i.differ; check = i.check }
  command_whole name.Sort r p ts k h i f =
      record {
        functions = sort_cases WholeFunctions r.scope i.functions (λ n s e is. i.functions) (λ q t. sorts r.scope q t k.scope) p ts;
        systems = i.systems;
        names = i.names;
        differ = i.differ;
        check = i.check;
      }
  command_whole name.Function r p ts k h i f = record { functions = functions_step r p ts k f h i.functions; systems = i.systems; names = i.names; differ = i.differ; check = i.check }
  command_whole name.System r p ts k h i f =
      let n = next_system stand on r.scope end.scope f.grows (λ q t. sorts r.scope q t k.scope) r.system_names r.systems p (headed ts) h
      (command_untaken r.variables (variables_of_system r.scope (headed ts)) (with_command name.System r p ts) refl f) in
      record {
        functions = i.functions;
        systems = subst (AllByRecursion (IsSystemSoFar end.scope)) (sym n.added) (all_append (IsSystemSoFar end.scope) r.systems (n.system ∷ []) i.systems (n.is, tt));
        names = ap (map (λ (x : SystemReading). x.name)) n.added ∙ map_append (λ (x : SystemReading). x.name) r.systems (n.system ∷ [])
            ∙ ap (λ ns. ns ++ n.system.name ∷ []) i.names ∙ sym n.names_then;
        differ = ap (are_fresh []) n.names_then ∙ fresh_end r.system_names n.system.name i.differ n.fresh;
        check = i.check;
      }
  command_whole name.Check r p ts k h i f =
      let e = none_in (check_failures r.scope p ts) _ h in
      let new : r.checked ≡ false = no_failure r.checked 13 p e.1 in
      let n = read_check stand on r.scope end.scope f.grows (λ q t. sorts r.scope q t k.scope) p (headed ts) e.0
      (command_untaken r.variables (variables_in r.scope (headed ts)) (with_command name.Check r p ts) refl f) in
      let only : first_check r.check r.checked (check_of r.scope p ts) ≡ Some n.check = ap (λ b. first_check r.check b (check_of r.scope p ts)) new ∙ n.read in
      record {
        functions = i.functions;
        systems = i.systems;
        names = i.names;
        differ = i.differ;
        check = λ c q. subst (IsCheckSoFar end.scope) (same_Some n.check c (sym only ∙ q)) n.is;
      }

  pub forms_whole : (r : Reading) (ts : form.Trees) → IsScopeSoFar r.scope → commands_failures r ts ≡ [] → reading_after r ts ≡ end → IsSoFar end.scope r → IsSoFar end.scope end
  forms_whole r form.no_trees k h e i = subst (IsSoFar end.scope) e i
  forms_whole r (form.tree t ts) k h e i =
      let x = none_in (form_failures r t) (commands_failures (with_form r t) ts) h in
      let a = form_goes sorts terms r t k x.0 in
      let b = forms_go sorts terms (with_form r t) ts a.so_far x.1 in
      let follows : Follows (with_form r t) end = subst (Follows (with_form r t)) e b.follows in
      forms_whole (with_form r t) ts a.so_far x.1 e
      (form_cases (λ (u : Reading). Follows u end → IsSoFar end.scope u) r t (λ c p us g. command_whole c r p us k g i) x.0 follows)

-- nothing is read
pub nothing_so_far : IsScopeSoFar no_scope
nothing_so_far = record {
  scope = record { enumerations = tt; sorts = tt; functions = λ n f h. absurd (none-some f h) };
  sorts = record { differ = refl; free = tt };
  terms = record { differ = refl; free = tt };
}

pub nothing_whole : (s : ScopeState) → IsSoFar s nothing_read
nothing_whole s = record { functions = λ n f h. absurd (none-some f h); systems = tt; names = refl; differ = refl; check = λ c h. absurd (none-some c h) }
