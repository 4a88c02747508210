-- What a script's check declares is found by its names.
use Rattle.std.proofs.Common.{◌≡◌, ℕ, zero, suc, ◌+◌, ◌<◌, Bool, true, false, cond, List, [], ◌∷◌, ◌++◌, length, Option, Some, None, refl, sym, ap, ◌∙◌, subst, arith}
use Rattle.std.specs.Prelude.{slice_get, codes, option_and_then}
use Rattle.std.specs.Str.{bytes_eq}
use Rattle.std.proofs.lemmas.Bool.Decides.{nat_tests}
use Rattle.std.proofs.lemmas.Option.{none-some, same_Some}
use Rattle.text_core.specs.declared.place.Kind.TheVariants.{M}
use Rattle.text_core.specs.declared.place.Refusal.{Refusal}
use Rattle.name_maps.specs.Names.{are_fresh, place_of}
use Rattle.moxi_terms.specs.declared.data.Sort.TheVariants.{Choice}
use Rattle.moxi_terms.specs.declared.data.Datum.{Datum}
use Rattle.moxi_terms.specs.declared.data.Datum.TheVariants.{Constant}
use Rattle.moxi_terms.specs.declared.term.Enumeration.{Enumeration}
use Rattle.moxi_terms.specs.declared.term.Variable.{Variable}
use Rattle.moxi_terms.specs.Names.{all_constants, constant_numbers, function_names, numbered}
use Rattle.moxi_terms.specs.Sorts.{IsConstant, same_sort}
use Rattle.moxi_terms.specs.View.{ScopeState}
use Rattle.moxi_terms.specs.Words.{is_operator}
use Rattle.moxi_term_print.specs.StandingNames.{AreSpellable, IsSpellable}
use Rattle.moxi_term_print.specs.Terms.{variable_names}
use Rattle.moxi_term_print.specs.laws.StandingPlaces.{fresh_place}
use Rattle.moxi_scripts.specs.declared.script.Query.{Query}
use Rattle.moxi_scripts.specs.Script.{PlainScript}
use Rattle.moxi_script_print.specs.NamesOfScripts.{HasSpellableNames}
use Rattle.moxi_scripts.specs.Valid.{AreNames, IsValid, check_variables, is_fixed_term, query_names}
use Rattle.moxi_scripts.specs.laws.WholeNames.{fresh_split, or_parts}
use Rattle.moxi_scripts.specs.laws.WholeParts.{all_append, all_at, all_map, all_parts, get_below, get_map, get_there, index_get, not_false}
use Rattle.moxi_flat.specs.FlatSystem.{flat_of, locals_upto}
use Rattle.moxi_flat.specs.Limits.{flat_refusal, has_name_twice, is_too_large}
use Rattle.moxi_trace.specs.ReadBack.{CanBeReadBack, CanBeSpelled}
use Rattle.moxi_trace.specs.Texts.{constant_name}
use Rattle.moxi_trace.specs.Traces.{names_of}
use Rattle.moxi_trace.specs.Values.{constant_named, constant_of, symbol_value}
use Rattle.moxi_responses.specs.Declaring.{declared_of}
use Rattle.moxi_responses.proofs.Spelled.{AllBarred, instances_barred, name_barred, spelled_barred, variables_barred}
use Rattle.moxi_term_print.specs.Terms.{name_at}

-- ---- names in lists

-- a name of a list of spellable ones
barred_at : (names : List (List ℕ)) (i : ℕ) (name : List ℕ) → AreSpellable names → slice_get names i ≡ Some name → CanBeSpelled name
barred_at names i name h g = spelled_barred name (all_at IsSpellable names i name h g)

found : (names : List (List ℕ)) (i : ℕ) (name : List ℕ) → are_fresh [] names ≡ true → slice_get names i ≡ Some name → place_of names name ≡ Some i
found names i name h g = ap (place_of names) (sym (index_get names i name [] g)) ∙ fresh_place names i h (get_below names i name g)

query_read : (names : List (List ℕ)) (q : ℕ) → AreSpellable names → are_fresh [] names ≡ true → q < length names → CanBeSpelled (name_at names q) × (place_of names (name_at names q) ≡ Some q)
query_read names q h f l =
    let x = get_there names q l in
    (subst CanBeSpelled (sym (index_get names q x.0 [] x.1)) (barred_at names q x.0 h x.1), fresh_place names q f l)

variable_read : (vs : List Variable) (k : ℕ) (v : Variable) → AllBarred vs → are_fresh [] (variable_names vs) ≡ true → slice_get vs k ≡ Some v → CanBeSpelled v.name × (place_of (names_of vs) v.name ≡ Some k)
variable_read vs k v h f g =
    (all_at (λ (v : Variable). CanBeSpelled v.name) vs k v h g, found (variable_names vs) k v.name f (get_map (λ (v : Variable). v.name) vs k v g))

-- ---- constants

here : (m j : ℕ) (cs : List (List ℕ)) (xs : List (ℕ × ℕ)) (i : ℕ) → i < length cs → slice_get (numbered m j cs ++ xs) i ≡ Some (m, j + i)
here m j [] xs i l = absurd (omega arith)
here m j (c ∷ cs) xs zero l = ap (λ n. Some (m, n)) (let e : j ≡ j + 0 = omega arith in e)
here m j (c ∷ cs) xs (suc i) l = here m (suc j) cs xs i (omega arith) ∙ ap (λ n. Some (m, n)) (let e : suc j + i ≡ j + suc i = omega arith in e)

named_here : (cs names : List (List ℕ)) (i : ℕ) → i < length cs → slice_get (cs ++ names) i ≡ Some (name_at cs i)
named_here [] names i l = absurd (omega arith)
named_here (c ∷ cs) names zero l = refl
named_here (c ∷ cs) names (suc i) l = named_here cs names i (omega arith)

behind : (m j : ℕ) (cs : List (List ℕ)) (xs : List (ℕ × ℕ)) (k : ℕ) → slice_get (numbered m j cs ++ xs) (length cs + k) ≡ slice_get xs k
behind m j [] xs k = ap (slice_get xs) (let e : 0 + k ≡ k = omega arith in e)
behind m j (c ∷ cs) xs k = ap (slice_get (numbered m j (c ∷ cs) ++ xs)) (let e : length (c ∷ cs) + k ≡ suc (length cs + k) = omega arith in e) ∙ behind m (suc j) cs xs k

named_behind : (cs names : List (List ℕ)) (k : ℕ) → slice_get (cs ++ names) (length cs + k) ≡ slice_get names k
named_behind [] names k = ap (slice_get names) (let e : 0 + k ≡ k = omega arith in e)
named_behind (c ∷ cs) names k = ap (slice_get ((c ∷ cs) ++ names)) (let e : length (c ∷ cs) + k ≡ suc (length cs + k) = omega arith in e) ∙ named_behind cs names k

-- where the constant is among all, the enumerations counted from m
abbrev HasPlace : ℕ → List Enumeration → ℕ → ℕ → Type 0
HasPlace m es n i = (k : ℕ) × (slice_get (constant_numbers m es) k ≡ Some (m + n, i)) × (slice_get (all_constants es) k ≡ Some (constant_name es n i))

has_place : (m : ℕ) (es : List Enumeration) (n i : ℕ) (e : Enumeration) → slice_get es n ≡ Some e → i < length e.constants → HasPlace m es n i
has_place m [] n i e h l = absurd (none-some e h)
has_place m (x ∷ es) zero i e h l =
    let within : i < length x.constants = subst (λ (y : Enumeration). i < length y.constants) (sym (same_Some x e h)) l in (
      i,
      here m 0 x.constants (constant_numbers (suc m) es) i within ∙ ap (λ (p : ℕ). Some (p, 0 + i)) (let z : m ≡ m + 0 = omega arith in z) ∙ ap (λ (p : ℕ). Some (m + 0, p)) (let z : 0 + i ≡ i = omega arith in z),
      named_here x.constants (all_constants es) i within,
    )
has_place m (x ∷ es) (suc n) i e h l =
    let r = has_place (suc m) es n i e h l in (
      length x.constants + r.0,
      behind m 0 x.constants (constant_numbers (suc m) es) r.0 ∙ r.1 ∙ ap (λ (p : ℕ). Some (p, i)) (let z : suc m + n ≡ m + suc n = omega arith in z),
      named_behind x.constants (all_constants es) r.0 ∙ r.2,
    )

same_as_itself : (n : ℕ) → same_sort (Choice n) (Choice n) ≡ true
same_as_itself n = grind (arith, nat_tests)

neither : (a b : Bool) (x y z : Option Datum) → a ≡ false → b ≡ false → cond a x (cond b y z) ≡ z
neither true b x y z e f = absurd (cc)
neither false true x y z e f = absurd (cc)
neither false false x y z e f = refl

symbol_is : (es : List Enumeration) (n i : ℕ) (name : List ℕ) → is_fixed_term name ≡ false → constant_named es name ≡ Some (n, i) → symbol_value es (Choice n) name ≡ Some (Constant n i)
symbol_is es n i name free h =
    let p = or_parts (bytes_eq name (codes "true")) (bytes_eq name (codes "false")) (or_parts (is_operator name) _ free).1 in
    neither (bytes_eq name (codes "true")) (bytes_eq name (codes "false")) _ _ (constant_of (Choice n) (constant_named es name)) p.0 p.1
    ∙ ap (constant_of (Choice n)) h ∙ ap (λ b. cond b (Some (Constant n i)) None) (same_as_itself n)

-- a constant of a scope whose names differ and aren't fixed
constant_read : (s : ScopeState) (n i : ℕ) → AreNames is_fixed_term (all_constants s.enumerations ++ function_names s) → AreSpellable (all_constants s.enumerations) → IsConstant s.enumerations n i
    → CanBeSpelled (constant_name s.enumerations n i) × (symbol_value s.enumerations (Choice n) (constant_name s.enumerations n i) ≡ Some (Constant n i))
constant_read s n i names spelled c =
    let es = s.enumerations in
    let name = constant_name es n i in
    let r = has_place 0 es n i c.enumeration c.there c.within in
    let fresh = (fresh_split [] (all_constants es) (function_names s) names.differ).0 in
    let free = (all_parts (λ (name : List ℕ). is_fixed_term name ≡ false) (all_constants es) (function_names s) names.free).0 in
    let numbers : constant_named es name ≡ Some (n, i) =
    ap (option_and_then (slice_get (constant_numbers 0 es))) (found (all_constants es) r.0 name fresh r.2) ∙ r.1 ∙ ap (λ (p : ℕ). Some (p, i)) (let z : 0 + n ≡ n = omega arith in z) in
    (barred_at (all_constants es) r.0 name spelled r.2, symbol_is es n i name (all_at (λ (name : List ℕ). is_fixed_term name ≡ false) (all_constants es) r.0 name free r.2) numbers)

-- ---- scripts

passes : (a b : Bool) (x y : Refusal) → cond a (Some x) (cond b (Some y) None) ≡ None → b ≡ false
passes true b x y e = absurd (cc)
passes false true x y e = absurd (cc)
passes false false x y e = refl

pub names_differ : (s : PlainScript) → flat_refusal s ≡ None → are_fresh [] (variable_names (flat_of s).variables) ≡ true
names_differ s e = not_false _ (passes (is_too_large s) (has_name_twice s) (record { kind = M 15; place = s.check.place }) (record { kind = M 9; place = s.check.place }) e)

flat_barred : (s : PlainScript) → HasSpellableNames s → AllBarred (flat_of s).variables
flat_barred s h =
    let c = s.check in
    let P = λ (v : Variable). CanBeSpelled v.name in
    let locals = all_append P c.outputs c.locals (variables_barred c.outputs h.check.outputs) (variables_barred c.locals h.check.locals) in
    all_append P (check_variables c) (locals_upto s.systems (length s.systems) [] c.system) (all_append P c.inputs (c.outputs ++ c.locals) (variables_barred c.inputs h.check.inputs) locals)
    (instances_barred s.systems h.systems (length s.systems) [] c.system refl)

pub can_be_read_back : (s : PlainScript) → IsValid s → HasSpellableNames s → are_fresh [] (variable_names (flat_of s).variables) ≡ true → CanBeReadBack (declared_of s)
can_be_read_back s whole names differ =
    record {
      system = name_barred s.systems s.check.system names.systems;
      queries = λ q l. query_read (query_names s.check.queries) q (all_map (λ (q : Query). q.name) IsSpellable s.check.queries names.check.queries) whole.check.queries.names l;
      variables = λ k v g. variable_read (flat_of s).variables k v (flat_barred s names) differ g;
      constants = λ n i c. constant_read s.scope n i whole.scope.terms names.scope.scope.constants c;
    }
