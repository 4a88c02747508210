-- The queries of a script and what they reach.
use Rattle.std.proofs.Common.{◌≡◌, ℕ, zero, suc, ◌+◌, ◌-◌, ◌<◌, ◌^◌, ◌++◌, Bool, true, false, Result, Ok, Err, IfOk, List, [], ◌∷◌, codes, drop, get_or, if◌then◌else◌, length, map, refl, sym, ap, ◌∙◌, arith}
use Rattle.std.specs.Prelude.{Some, slice_get}
use Rattle.std.proofs.lemmas.List.{length-map}
use Rattle.std.proofs.lemmas.Option.{get_or_from_slice_get, slice_get_within}
use Rattle.smv_items.specs.FlatItemView.{item_plain}
use Rattle.smv_flat.specs.declared.forms.Role.{Role}
use Rattle.smv_flat.specs.declared.forms.Role.TheVariants.{Body, Assign, Init, Trans, Invar, Invariant}
use Rattle.smv_flat.specs.declared.forms.FlatFormula.{FlatFormula}
use Rattle.smv_flat.specs.FlatFormulas.{form_plain}
use Rattle.smv_flat.specs.FlatTree.{FlatTree}
use Rattle.smv_flat.specs.FlatView.{plain_flat}
use Rattle.smv_flat.specs.laws.FlatSteps.{drop_item}
use Rattle.smv_flat.specs.FlatTruth.{forms_invariants, role_invariant}
use Rattle.moxi_scripts.specs.declared.script.Formula.{Formula}
use Rattle.moxi_scripts.specs.declared.script.Query.{Query}
use Rattle.moxi_terms.specs.View.{ScopeState}
use Rattle.moxi_terms.specs.Names.{all_constants, may_be_enumeration, no_scope, with_enumeration}
use Rattle.moxi_terms.specs.declared.term.Enumeration.{Enumeration}
use Rattle.text_core.specs.declared.errors.NoMemory.{NoMemory}
use Rattle.moxi_scripts.specs.Script.{PlainCheck, PlainFormula, PlainScript, PlainSystem, plain_formula, query_of}
use Rattle.smv_flat.specs.FlatForms.{PlainFlat}
use Rattle.smv_script.specs.Terms.{Coding}
use Rattle.smv_script.specs.Script.{check_of, coding_of, place_of_item, queries_from, reachables_from, script_of, symbol_sort, system_of}
use Rattle.smv_flat.specs.declared.parts.FlatParts.{FlatParts}
use Rattle.smv_flat.specs.FlatParts.{parts_plain}
use Rattle.smv_to_moxi.specs.Symbols.{CanBeConstants}
use Rattle.smv_to_moxi.specs.Assembling.{symbol_scope, check_form, is_invariant, reachable_of, script_form, script_under, script_with, system_form}
use Rattle.text_core.proofs.ListLaws.{grown, joined, put}

role_is : (r : Role) (e : FlatTree) → is_invariant r ≡ true → role_invariant r e ≡ e ∷ []
role_is Invariant e h = refl
role_is (Body j) e h = cc
role_is (Assign w j) e h = cc
role_is Init e h = cc
role_is Trans e h = cc
role_is Invar e h = cc

role_none : (r : Role) (e : FlatTree) → is_invariant r ≡ false → role_invariant r e ≡ []
role_none Invariant e h = cc
role_none (Body j) e h = refl
role_none (Assign w j) e h = refl
role_none Init e h = refl
role_none Trans e h = refl
role_none Invar e h = refl

-- the first formula is one, or is none
pub one_there : (xs : List FlatFormula) (i : ℕ) (f : FlatFormula) → drop i xs ≡ f ∷ drop (i + 1) xs → is_invariant f.role ≡ true
    → forms_invariants (map form_plain (drop i xs)) ≡ plain_flat f.body ∷ forms_invariants (map form_plain (drop (i + 1) xs))
one_there xs i f h e = ap (λ ys. forms_invariants (map form_plain ys)) h ∙ ap (λ ys. ys ++ forms_invariants (map form_plain (drop (i + 1) xs))) (role_is f.role (plain_flat f.body) e)

pub none_there : (xs : List FlatFormula) (i : ℕ) (f : FlatFormula) → drop i xs ≡ f ∷ drop (i + 1) xs → is_invariant f.role ≡ false
    → forms_invariants (map form_plain (drop i xs)) ≡ forms_invariants (map form_plain (drop (i + 1) xs))
none_there xs i f h e = ap (λ ys. forms_invariants (map form_plain ys)) h ∙ ap (λ ys. ys ++ forms_invariants (map form_plain (drop (i + 1) xs))) (role_none f.role (plain_flat f.body) e)

-- one name more is made of the next one in the list
pub name_on : (g : List ℕ → List ℕ) (xs : List (List ℕ)) (i : ℕ) (x name : List ℕ) (all more total : List (List ℕ)) → slice_get xs i ≡ Some x → more ≡ all ++ name ∷ [] → name ≡ g x → all ++ map g (drop i xs) ≡ total
    → more ++ map g (drop (i + 1) xs) ≡ total
name_on g xs i x name all more total h m n k =
    let d : drop i xs ≡ x ∷ drop (i + 1) xs = drop_item xs i x (slice_get_within xs i x h) (sym (get_or_from_slice_get xs i x x h)) in
    ap (λ ys. ys ++ map g (drop (i + 1) xs)) m ∙ put all name (map g (drop (i + 1) xs)) ∙ ap (λ y. all ++ y ∷ map g (drop (i + 1) xs)) n
    ∙ ap (λ ys. all ++ map g ys) (sym d) ∙ k

pub reachable_on : (c : Coding) (xs : List FlatFormula) (i : ℕ) (f : FlatFormula) (all more : List Formula) (x : Formula) (total : List PlainFormula) → drop i xs ≡ f ∷ drop (i + 1) xs → is_invariant f.role ≡ true
    → more ≡ all ++ x ∷ [] → plain_formula x ≡ reachable_of c (length all) (plain_flat f.body) → map plain_formula all ++ reachables_from c (length all) (forms_invariants (map form_plain (drop i xs))) ≡ total
    → map plain_formula more ++ reachables_from c (length more) (forms_invariants (map form_plain (drop (i + 1) xs))) ≡ total
reachable_on c xs i f all more x total h e m p k =
    ap (λ ys. map plain_formula ys ++ reachables_from c (length ys) (forms_invariants (map form_plain (drop (i + 1) xs)))) m
    ∙ joined plain_formula all x (reachables_from c (length (all ++ x ∷ [])) (forms_invariants (map form_plain (drop (i + 1) xs))))
    ∙ ap (λ n. map plain_formula all ++ plain_formula x ∷ reachables_from c n (forms_invariants (map form_plain (drop (i + 1) xs)))) (grown all x)
    ∙ ap (λ y. map plain_formula all ++ y ∷ reachables_from c (length all + 1) (forms_invariants (map form_plain (drop (i + 1) xs)))) p
    ∙ ap (λ es. map plain_formula all ++ reachables_from c (length all) es) (sym (one_there xs i f h e)) ∙ k

pub reachable_off : (c : Coding) (xs : List FlatFormula) (i : ℕ) (f : FlatFormula) (all : List Formula) (total : List PlainFormula) → drop i xs ≡ f ∷ drop (i + 1) xs → is_invariant f.role ≡ false
    → map plain_formula all ++ reachables_from c (length all) (forms_invariants (map form_plain (drop i xs))) ≡ total
    → map plain_formula all ++ reachables_from c (length all) (forms_invariants (map form_plain (drop (i + 1) xs))) ≡ total
reachable_off c xs i f all total h e k = ap (λ es. map plain_formula all ++ reachables_from c (length all) es) (sym (none_there xs i f h e)) ∙ k

pub query_on : (xs : List FlatFormula) (i : ℕ) (f : FlatFormula) (all more : List Query) (x : Query) (total : List Query) → drop i xs ≡ f ∷ drop (i + 1) xs → is_invariant f.role ≡ true
    → more ≡ all ++ x ∷ [] → x ≡ query_of (length all) → all ++ queries_from (length all) (forms_invariants (map form_plain (drop i xs))) ≡ total
    → more ++ queries_from (length more) (forms_invariants (map form_plain (drop (i + 1) xs))) ≡ total
query_on xs i f all more x total h e m p k =
    ap (λ ys. ys ++ queries_from (length ys) (forms_invariants (map form_plain (drop (i + 1) xs)))) m
    ∙ put all x (queries_from (length (all ++ x ∷ [])) (forms_invariants (map form_plain (drop (i + 1) xs))))
    ∙ ap (λ n. all ++ x ∷ queries_from n (forms_invariants (map form_plain (drop (i + 1) xs)))) (grown all x)
    ∙ ap (λ y. all ++ y ∷ queries_from (length all + 1) (forms_invariants (map form_plain (drop (i + 1) xs)))) p
    ∙ ap (λ es. all ++ queries_from (length all) es) (sym (one_there xs i f h e)) ∙ k

pub query_off : (xs : List FlatFormula) (i : ℕ) (f : FlatFormula) (all : List Query) (total : List Query) → drop i xs ≡ f ∷ drop (i + 1) xs → is_invariant f.role ≡ false
    → all ++ queries_from (length all) (forms_invariants (map form_plain (drop i xs))) ≡ total → all ++ queries_from (length all) (forms_invariants (map form_plain (drop (i + 1) xs))) ≡ total
query_off xs i f all total h e k = ap (λ es. all ++ queries_from (length all) es) (sym (none_there xs i f h e)) ∙ k

-- ---- the parts of a script

abbrev pub coding_with : ℕ → (ℕ → ℕ) → Coding
coding_with width place = record { width = width; place = place }

pub coding_is : (places : List ℕ) (width : ℕ) (parts : FlatParts) → (λ k. get_or places k 0) ≡ place_of_item (map item_plain parts.items.now)
    → coding_with width (λ k. get_or places k 0) ≡ coding_of (parts_plain parts) width
coding_is places width parts h = ap (coding_with width) h

abbrev scope_with : List Enumeration → ScopeState
scope_with es = record { enumerations = es; sorts = []; functions = [] }

abbrev symbols_as : List ℕ → List (List ℕ) → Enumeration
symbols_as name constants = record { name = name; constants = constants }

some_symbols : (symbols : List (List ℕ)) → (length symbols ≡ 0 → ⊥) → symbols_as (codes "Symbol") (map (λ x. codes "c." ++ x) symbols) ∷ [] ≡ symbol_sort symbols
some_symbols [] h = absurd (h refl)
some_symbols (s ∷ ss) h = refl

-- the symbols are never refused
pub not_refused : (old : ScopeState) (name : List ℕ) (constants symbols : List (List ℕ)) (added : Bool) → old ≡ no_scope → name ≡ codes "Symbol" → constants ≡ map (λ x. codes "c." ++ x) symbols → CanBeConstants symbols
    → added ≡ may_be_enumeration old name constants → added ≡ false → ⊥
not_refused old name constants symbols added o n d can a h =
    let e : false ≡ true = sym h ∙ a ∙ ap (λ s. may_be_enumeration s name constants) o ∙ ap (λ x. may_be_enumeration no_scope x constants) n ∙ ap (may_be_enumeration no_scope (codes "Symbol")) d ∙ can.free in
    cc

-- and their numbers have room
pub record HasRoom (old : ScopeState) (constants : List (List ℕ)) : Type 0 where
  pub some : 0 < length constants
  pub room : length old.enumerations < 2 ^ 32 - 1
  pub room_for_constants : length (all_constants old.enumerations) + length constants < 2 ^ 32

pub room_for_symbols : (old : ScopeState) (constants symbols : List (List ℕ)) → old ≡ no_scope → CanBeConstants symbols → constants ≡ map (λ x. codes "c." ++ x) symbols → (length symbols ≡ 0 → ⊥) → HasRoom old constants
room_for_symbols old constants symbols o can d h =
    let l : length constants ≡ length symbols = ap length d ∙ length-map symbols (λ x. codes "c." ++ x) in
    let n : length old.enumerations ≡ 0 = ap (λ (s : ScopeState). length s.enumerations) o in
    let a : length (all_constants old.enumerations) ≡ 0 = ap (λ (s : ScopeState). length (all_constants s.enumerations)) o in
    let few = can.few in
    record { some = by (length symbols) h l; room = omega (arith, n); room_for_constants = omega (arith, a, l, few) }
  where
    by : (n : ℕ) → (n ≡ 0 → ⊥) → length constants ≡ n → 0 < length constants
    by zero h e = absurd (h refl)
    by (suc n) h e = omega (arith, e)

-- the scope to which the symbols are added
pub scope_is : (old new : ScopeState) (name : List ℕ) (constants symbols : List (List ℕ)) (added : Bool) → old ≡ no_scope → name ≡ codes "Symbol" → constants ≡ map (λ x. codes "c." ++ x) symbols → (length symbols ≡ 0 → ⊥)
    → added ≡ true → new ≡ (if added then with_enumeration old name constants else old) → new ≡ record { enumerations = symbol_sort symbols; sorts = []; functions = [] }
scope_is old new name constants symbols added o n d h a e =
    e ∙ ap (λ b. if b then with_enumeration old name constants else old) a
    ∙ ap (λ s. with_enumeration s name constants) o
    ∙ ap (λ x. scope_with (symbols_as x constants ∷ [])) n
    ∙ ap (λ x. scope_with (symbols_as (codes "Symbol") x ∷ [])) d
    ∙ ap scope_with (some_symbols symbols h)

pub symbols_are : (new : ScopeState) (symbols : List (List ℕ)) → new ≡ record { enumerations = symbol_sort symbols; sorts = []; functions = [] } → new ≡ symbol_scope symbols
unfolding symbol_scope
symbols_are new symbols e = e

pub no_symbols : (old : ScopeState) (symbols : List (List ℕ)) → old ≡ no_scope → length symbols ≡ 0 → old ≡ symbol_scope symbols
unfolding symbol_scope
no_symbols old [] e h = e
no_symbols old (s ∷ ss) e h = absurd (omega (arith, h))

-- ---- the whole script

pub system_form_is : (flat : PlainFlat) (w : ℕ) → system_of flat w ≡ system_form flat w
unfolding system_form
system_form_is flat w = refl

pub check_form_is : (flat : PlainFlat) (w : ℕ) → check_of flat w ≡ check_form flat w
unfolding check_form
check_form_is flat w = refl

-- the lists of the system's variables
pub system_lists : (flat : PlainFlat) (w : ℕ) (s : PlainSystem) → s ≡ system_form flat w
    → (s.inputs ≡ (system_of flat w).inputs) × (s.outputs ≡ (system_of flat w).outputs) × (s.locals ≡ (system_of flat w).locals)
unfolding system_form
system_lists flat w s e = (ap (λ (x : PlainSystem). x.inputs) e, ap (λ (x : PlainSystem). x.outputs) e, ap (λ (x : PlainSystem). x.locals) e)

pub script_form_is : (flat : PlainFlat) (w : ℕ) → script_form flat w ≡ script_of flat w
unfolding script_form
script_form_is flat w = refl

pub with_check : (l : List ℕ) (o : ScopeState) (s : PlainSystem) (c d : PlainCheck) → c ≡ d → script_with l o s c ≡ script_with l o s d
with_check l o s c d e = ap (λ x. script_with l o s x) e

pub with_system : (l : List ℕ) (o : ScopeState) (s t : PlainSystem) (c : PlainCheck) → s ≡ t → script_with l o s c ≡ script_with l o t c
with_system l o s t c e = ap (λ x. script_with l o x c) e

script_is : (flat : PlainFlat) (w : ℕ) → script_under (codes "QF_BV") (scope_with (symbol_sort flat.symbols)) flat w ≡ script_form flat w
unfolding system_form check_form script_form
script_is flat w = refl

under_symbols : (l : List ℕ) (o : ScopeState) (flat : PlainFlat) (w : ℕ) → l ≡ codes "QF_BV" → o ≡ scope_with (symbol_sort flat.symbols) → script_under l o flat w ≡ script_under (codes "QF_BV") (scope_with (symbol_sort flat.symbols)) flat w
under_symbols l o flat w e h = ap (λ x. script_under x o flat w) e ∙ ap (λ x. script_under (codes "QF_BV") x flat w) h

scope_form_is : (symbols : List (List ℕ)) → symbol_scope symbols ≡ scope_with (symbol_sort symbols)
unfolding symbol_scope
scope_form_is symbols = refl

pub under_is : (l : List ℕ) (o : ScopeState) (flat : PlainFlat) (w : ℕ) → l ≡ codes "QF_BV" → o ≡ symbol_scope flat.symbols → script_under l o flat w ≡ script_form flat w
under_is l o flat w e h = under_symbols l o flat w e (h ∙ scope_form_is flat.symbols) ∙ script_is flat w

pub width_is : (flat : PlainFlat) (w v : ℕ) → w ≡ v → script_form flat w ≡ script_form flat v
width_is flat w v e = ap (script_form flat) e

-- what is made is the script
pub made_is : {T : Type 0} (view : T → PlainScript) (r : Result T NoMemory) (x y : PlainScript) → x ≡ y → IfOk r (λ t. view t ≡ x) → IfOk r (λ t. view t ≡ y)
made_is view (Ok s) x y e h = h ∙ e
made_is view (Err n) x y e h = h
