-- The size of the script, and the number of its variables and queries, by the model's weight.
use Rattle.std.proofs.Common.{◌≡◌, ℕ, suc, ◌+◌, ◌*◌, ◌≤◌, Bool, true, false, ◌||◌, if◌then◌else◌, nat_eq, List, [], ◌∷◌, ◌++◌, length, length-append, refl, sym, ap, ◌∙◌, arith}
use Rattle.std.specs.Prelude.{flat_map, sum_by, codes, decimal, None, cond}
use Rattle.std.specs.List.{AllByRecursion, filter, list_any}
use Rattle.std.proofs.lemmas.Bool.{eq-eqb}
use Rattle.std.proofs.lemmas.List.{length-map, append_assoc}
use Rattle.smv_text.specs.declared.tree.VarKind.{VarKind}
use Rattle.smv_text.specs.declared.tree.VarKind.TheVariants as OfVarKind
use Rattle.smv_text.specs.declared.tree.When.TheVariants.{Always, First, Following}
use Rattle.smv_text.specs.declared.tree.Member.{Member}
use Rattle.smv_text.specs.Tree.{Tree as Expression, PlainDomain, boolean, members, between, bits, instance}
use Rattle.smv_meaning.specs.Instances.{Instance, instances_of}
use Rattle.smv_meaning.specs.Phases.{in_state}
use Rattle.smv_meaning.specs.Settled.{types_in}
use Rattle.smv_items.specs.declared.items.ItemKind.{ItemKind}
use Rattle.smv_items.specs.declared.items.ItemKind.TheVariants.{State, Frozen, Input, Define, Actual}
use Rattle.smv_items.specs.FlatItems.{of_nothing, variable, PlainFlatItem, flat_item_of, domain_members, leaf_in}
use Rattle.smv_flat.specs.declared.forms.Role.{Role}
use Rattle.smv_flat.specs.declared.forms.Role.TheVariants.{Body, Assign, Init, Trans, Invar, Invariant}
use Rattle.smv_flat.specs.FlatForms.{Form, PlainFlat, flat_in, flat_of}
use Rattle.smv_flat.specs.FlatTree.{FlatTree}
use Rattle.smv_flat.specs.FlatTruth.{role_invariant, forms_invariants}
use Rattle.moxi_scripts.specs.declared.script.Query.{Query}
use Rattle.moxi_scripts.specs.Script.{PlainFormula, PlainCheck, formula_at}
use Rattle.moxi_flat.specs.Terms.{term_size}
use Rattle.moxi_flat.specs.Systems.{unnamed_size, query_size, script_size}
use Rattle.smv_script.specs.Operators.{not_term}
use Rattle.smv_script.specs.Terms.{Coding, translation}
use Rattle.smv_script.specs.Script.{Group, inputs, outputs, locals, group_of, same_group, items_in, variable_of, variables_in, coding_of, formula_of, reachables_from, queries_from, check_of, script_of}
use Rattle.smv_script_laws.specs.BoundLaws.{SizesByWeight, CountsByWeight}
use Rattle.smv_script_laws.proofs.Measures.{no_calls, fewest}
use Rattle.smv_script_laws.proofs.Chains.{Sized}
use Rattle.smv_script_laws.proofs.Charges.{domain_charge, spelled_modules}
use Rattle.smv_script_laws.proofs.Instances.{InstanceFits, charges, source_fits, charges_weigh}
use Rattle.smv_script_laws.proofs.Prices.{IsPriced, flat_priced}
use Rattle.smv_script_laws.proofs.Formulas.{members_bound, parts_bound, invariant_cost, form_cost, form_costs, formulas_size}
use Rattle.smv_items.specs.laws.Counting.{total, total_is}

-- ---- the queries and their formulas

formula_behind : (before : List PlainFormula) (f : PlainFormula) (rest : List PlainFormula) → formula_at (before ++ f ∷ rest) (length before) ≡ f.term
formula_behind [] f rest = refl
formula_behind (x ∷ before) f rest = formula_behind before f rest

abbrev invariant_size : Coding → FlatTree → ℕ
invariant_size c e = term_size no_calls ((translation c e).term 0) + 2

abbrev reachable : Coding → ℕ → FlatTree → PlainFormula
reachable c j e = record { name = codes "r." ++ decimal j; term = not_term ((translation c e).term 0) }

queries_size : (c : Coding) (k : PlainCheck) (before : List PlainFormula) (j : ℕ) (es : List FlatTree) → j ≡ length before → k.reachables ≡ before ++ reachables_from c j es
    → total (query_size no_calls k) (queries_from j es) ≡ total (invariant_size c) es
queries_size c k before j [] e r = refl
queries_size c k before j (x ∷ es) e r =
    let f = reachable c j x in
    let t : formula_at k.reachables j ≡ not_term ((translation c x).term 0) = ap (λ fs. formula_at fs j) r ∙ ap (formula_at (before ++ f ∷ reachables_from c (j + 1) es)) e ∙ formula_behind before f (reachables_from c (j + 1) es) in
    let s = ap (term_size no_calls) t in
    let l = length-append before (f ∷ []) in
    let i = queries_size c k (before ++ f ∷ []) (j + 1) es (omega (arith, e, l)) (r ∙ sym (append_assoc before (f ∷ []) (reachables_from c (j + 1) es))) in
    omega (arith, s, i)

-- each formula is named by a query
abbrev named_by : List Query → List ℕ
named_by qs = flat_map (λ (q : Query). q.reachables) qs

nothing_unnamed : (c : Coding) (named : List ℕ) (j : ℕ) (es : List FlatTree) → ((k : ℕ) → list_any (nat_eq k) (named_by (queries_from j es)) ≡ true → list_any (nat_eq k) named ≡ true)
    → unnamed_size no_calls named j (reachables_from c j es) ≡ 0
nothing_unnamed c named j [] h = refl
nothing_unnamed c named j (x ∷ es) h =
    let a = h j (ap (λ b. b || list_any (nat_eq j) (named_by (queries_from (j + 1) es))) (eq-eqb j j refl)) in
    let s = ap (λ b. if b then 0 else term_size no_calls (not_term ((translation c x).term 0))) a in
    let i = nothing_unnamed c named (j + 1) es (λ k e. h k (or_last (nat_eq k j) (list_any (nat_eq k) (named_by (queries_from (j + 1) es))) e)) in
    omega (arith, s, i)
  where
    or_last : (a b : Bool) → b ≡ true → (a || b) ≡ true
    or_last true b e = refl
    or_last false b e = e

invariants_size : (c : Coding) (fs : List Form) → total (invariant_size c) (forms_invariants fs) ≡ total (λ f. invariant_cost c f.role f.body) fs
invariants_size c [] = refl
invariants_size c (f ∷ fs) = by f.role (invariants_size c fs)
  where
    by : (r : Role) → total (invariant_size c) (forms_invariants fs) ≡ total (λ x. invariant_cost c x.role x.body) fs
        → total (invariant_size c) (role_invariant r f.body ++ forms_invariants fs) ≡ invariant_cost c r f.body + total (λ x. invariant_cost c x.role x.body) fs
    by Invariant i = omega (arith, i)
    by (Body j) i = omega (arith, i)
    by (Assign w j) i = omega (arith, i)
    by Init i = omega (arith, i)
    by Trans i = omega (arith, i)
    by Invar i = omega (arith, i)

-- ---- the variables

counted : (p : PlainFlatItem → Bool) (ms : List PlainFlatItem) → length (filter p ms) ≡ total (λ m. if p m then 1 else 0) ms
counted p [] = refl
counted p (m ∷ ms) = by (p m) (counted p ms)
  where
    by : (b : Bool) → length (filter p ms) ≡ total (λ x. if p x then 1 else 0) ms → length (cond b (m ∷ filter p ms) (filter p ms)) ≡ (if b then 1 else 0) + total (λ x. if p x then 1 else 0) ms
    by true i = omega (arith, i)
    by false i = omega (arith, i)

kind_once : (k : ItemKind)
    → (if same_group inputs (group_of k) then 1 else 0) + ((if same_group outputs (group_of k) then 1 else 0) + (if same_group locals (group_of k) then 1 else 0)) ≡ 1
kind_once State = refl
kind_once Frozen = refl
kind_once Input = refl
kind_once Define = refl
kind_once Actual = refl

abbrev in_group : Group → List PlainFlatItem → ℕ
in_group g ms = total (λ m. if same_group g (group_of m.kind) then 1 else 0) ms

groups_once : (ms : List PlainFlatItem) → in_group inputs ms + (in_group outputs ms + in_group locals ms) ≡ length ms
groups_once [] = refl
groups_once (m ∷ ms) = let a = kind_once m.kind in let r = groups_once ms in omega (arith, a, r)

group_size : (w : ℕ) (g : Group) (ms : List PlainFlatItem) → length (variables_in w g ms) ≡ in_group g ms
group_size w g ms = length-map (items_in g ms) (variable_of w) ∙ counted (λ m. same_group g (group_of m.kind)) ms

variables_size : (w : ℕ) (ms : List PlainFlatItem) → length (variables_in w inputs ms) + (length (variables_in w outputs ms) + length (variables_in w locals ms)) ≡ length ms
variables_size w ms =
    let a = group_size w inputs ms in
    let b = group_size w outputs ms in
    let c = group_size w locals ms in
    let r = groups_once ms in
    omega (arith, a, b, c, r)

-- ---- sizes

abbrev item_price : PlainFlatItem → ℕ
item_price m = 1 + parts_bound m

items_price : (ms : List PlainFlatItem) → total item_price ms ≡ length ms + total parts_bound ms
items_price [] = refl
items_price (m ∷ ms) = let r = items_price ms in omega (arith, r)

members_charge : (ms : List Member) → 4 + members_bound ms ≤ 3 * (3 + (1 + 2 * length ms))
members_charge [] = omega arith
members_charge (m ∷ ms) = omega arith

domain_price : (d : PlainDomain) → 4 + members_bound (domain_members d) ≤ 3 * (3 + domain_charge d)
domain_price boolean = omega arith
domain_price (members ms) = members_charge ms
domain_price (between low high) = omega arith
domain_price (bits n) = omega arith
domain_price (instance m es) = omega arith

variable_price : (t : List Instance) (i : ℕ) (x : List ℕ) (kind : VarKind) (d : PlainDomain) → item_price (flat_item_of t (record { instance = i; name = x; content = variable kind d })) ≤ 3 * (3 + domain_charge d)
variable_price t i x OfVarKind.State d = let a = domain_price d in omega (arith, a)
variable_price t i x OfVarKind.Frozen d = let a = domain_price d in omega (arith, a)
variable_price t i x OfVarKind.Input d = let a = domain_price d in omega (arith, a)

sizes_priced : (t : List Instance) (c : Coding) → IsPriced t item_price (λ f. form_cost c f.role f.body)
sizes_priced t c = record {
  variables = variable_price t;
  definitions = λ i x j e. omega arith;
  actuals = λ i x j e. omega arith;
  forms = λ i r j at e s. form_costs c r (flat_in t j at e) (s c (types_in true t j) (leaf_in t j) at false);
}

script_size_is : (flat : PlainFlat) (w : ℕ)
    → script_size (script_of flat w)
    ≡ (length (variables_in w inputs flat.items) + length (variables_in w outputs flat.items))
    + ((1 + (term_size no_calls (formula_of flat (coding_of flat w) First) + (term_size no_calls (formula_of flat (coding_of flat w) Following)
    + (term_size no_calls (formula_of flat (coding_of flat w) Always) + (length (variables_in w locals flat.items) + 0)))))
    + (sum_by (query_size no_calls (check_of flat w)) (queries_from 0 (forms_invariants flat.forms))
    + (0 + (0 + unnamed_size no_calls (named_by (queries_from 0 (forms_invariants flat.forms))) 0 (reachables_from (coding_of flat w) 0 (forms_invariants flat.forms))))))
script_size_is flat w = refl

flat_size : (t : List Instance) (w : ℕ) → AllByRecursion (InstanceFits Sized) t → script_size (script_of (flat_of t) w) ≤ 3 * charges t + 4
flat_size t w h =
    let flat = flat_of t in
    let c = coding_of flat w in
    let es = forms_invariants flat.forms in
    let s = script_size_is flat w in
    let p = flat_priced t item_price (λ f. form_cost c f.role f.body) (sizes_priced t c) h in
    let i = items_price flat.items in
    let v = variables_size w flat.items in
    let f = formulas_size flat c in
    let q = total_is (query_size no_calls (check_of flat w)) (queries_from 0 es) ∙ queries_size c (check_of flat w) [] 0 es refl refl ∙ invariants_size c flat.forms in
    let u = nothing_unnamed c (named_by (queries_from 0 es)) 0 es (λ k e. e) in
    omega (arith, s, p, i, v, f, q, u)

pub sizes_by_weight : SizesByWeight
sizes_by_weight source end xs s w =
    let m = spelled_modules s.0 in
    let a = flat_size (instances_of source) w (source_fits Sized source m) in
    let b = charges_weigh Sized source m in
    omega (arith, a, b)

-- ---- counts

abbrev invariant_price : Role → ℕ
invariant_price Invariant = 3
invariant_price r = 0

few_tokens : (e : Expression) → Sized e → 1 ≤ fewest e
few_tokens e s = let a = ((s (record { width = 0; place = λ k. k }) (λ x. record { type = None; is_instance = false; reaches_input = false }) (λ x. of_nothing) in_state false).term 0).size in omega (arith, a)

role_price : (r : Role) (n : ℕ) → 1 ≤ n → invariant_price r ≤ 3 * n
role_price Invariant n h = omega (arith, h)
role_price (Body j) n h = omega arith
role_price (Assign w j) n h = omega arith
role_price Init n h = omega arith
role_price Trans n h = omega arith
role_price Invar n h = omega arith

counts_priced : (t : List Instance) → IsPriced t (λ m. 3) (λ f. invariant_price f.role)
counts_priced t = record {
  variables = λ i x kind d. omega arith;
  definitions = λ i x j e. omega arith;
  actuals = λ i x j e. omega arith;
  forms = λ i r j at e s. role_price r (fewest e) (few_tokens e s);
}

items_count : (ms : List PlainFlatItem) → total (λ m. 3) ms ≡ 3 * length ms
items_count [] = refl
items_count (m ∷ ms) = let r = items_count ms in omega (arith, r)

invariants_count : (fs : List Form) → total (λ f. invariant_price f.role) fs ≡ 3 * length (forms_invariants fs)
invariants_count [] = refl
invariants_count (f ∷ fs) = by f.role (invariants_count fs)
  where
    by : (r : Role) → total (λ x. invariant_price x.role) fs ≡ 3 * length (forms_invariants fs) → invariant_price r + total (λ x. invariant_price x.role) fs ≡ 3 * length (role_invariant r f.body ++ forms_invariants fs)
    by Invariant i = omega (arith, i)
    by (Body j) i = omega (arith, i)
    by (Assign w j) i = omega (arith, i)
    by Init i = omega (arith, i)
    by Trans i = omega (arith, i)
    by Invar i = omega (arith, i)

queries_count : (j : ℕ) (es : List FlatTree) → length (queries_from j es) ≡ length es
queries_count j [] = refl
queries_count j (e ∷ es) = ap suc (queries_count (j + 1) es)

pub counts_by_weight : CountsByWeight
counts_by_weight source end xs s w =
    let m = spelled_modules s.0 in
    let t = instances_of source in
    let flat = flat_of t in
    let p = flat_priced t (λ x. 3) (λ f. invariant_price f.role) (counts_priced t) (source_fits Sized source m) in
    let b = charges_weigh Sized source m in
    let i = items_count flat.items in
    let f = invariants_count flat.forms in
    let q = queries_count 0 (forms_invariants flat.forms) in
    let v = variables_size w flat.items in
    let l = length-append (variables_in w inputs flat.items) (variables_in w outputs flat.items ++ variables_in w locals flat.items) in
    let k = length-append (variables_in w outputs flat.items) (variables_in w locals flat.items) in
    omega (arith, p, b, i, f, q, v, l, k)
