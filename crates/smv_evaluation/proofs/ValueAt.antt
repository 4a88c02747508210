-- The value of an expression of a model is safely found.
use Rattle.std.proofs.Common.{not, ◌||◌, true, Some, None, ◌≡◌, ℕ, List, [], map, is_some, refl, sym, ap, ◌∙◌, subst, Bool}
use Rattle.std.proofs.Common.{Result, IfOk}
use Rattle.text_core.specs.declared.errors.NoMemory.{NoMemory}
use Rattle.std.specs.Borrow.{Bor}
use Rattle.std.specs.HashMap.{HashMap}
use Rattle.smv_text.specs.declared.tree.Path.{Path}
use Rattle.smv_text.specs.Tree.{Tree, PlainSource}
use Rattle.smv_meaning.specs.declared.value.Value.{Value}
use Rattle.smv_evaluation.specs.declared.rows.Values.{Values}
use Rattle.smv_evaluation.specs.declared.rows.Row.{Row}
use Rattle.smv_instances.specs.declared.instances.Instance.{Instance as PartOf}
use Rattle.smv_meaning.specs.Values.{Valuation}
use Rattle.smv_meaning.specs.Instances.{Instance, instances_of}
use Rattle.smv_meaning.specs.Names.{Local, alias, body_of, variable_of, inner, nothing, local, Found, variable_at, body_at, instance_at, symbol_of, cyclic, none, found_in, steps_of}
use Rattle.smv_meaning.specs.Meaning.{denoted, value_of}
use Rattle.smv_meaning.specs.Expressions.{denote, paths_of}
use Rattle.smv_meaning.specs.Safety.{Safe, SafePath}
use Rattle.smv_meaning.specs.Settled.{values_in, rank_of}
use Rattle.smv_meaning.specs.Owed.{following_or, label_given, following_given}
use Rattle.smv_meaning.specs.Runs.{state_fits, label_fits}
use Rattle.smv_meaning.specs.Typed.{Gives}
use Rattle.smv_instances.specs.View.{instance_plain}
use Rattle.smv_evaluation.specs.View.{stated}
use Rattle.smv_evaluation.specs.Asked.{States, IsAsked, value_asked}
use Rattle.smv_meaning.specs.Checked.{IsChecked}
use Rattle.smv_evaluation.specs.Rows.{AreGiven, row_reads, FoundIsCached, IsCached, is_marked, MarksStart, MarksLeast, LocalSafe, MarkedSafe, MarkedAreCached}
use Rattle.smv_meaning.specs.Reached.{is_body_of}
use Rattle.smv_laws.proofs.Cycles.{In, in_any, same_self}
use Rattle.smv_laws.proofs.Ranked.{key}
use Rattle.smv_laws.proofs.Settling.{Under, all_under, ranking}
use Rattle.smv_laws.proofs.SafeExpressions.{acyclic, expressions_are_safe_law, local_reaches, body_is_safe, leads_clear, local_clear}
use Rattle.smv_laws.proofs.FoundLaws.{gives_found}
use Rattle.smv_evaluation.proofs.RowReads.{safe_holds, kept, safely_kept, denoted_kept}

-- in the code's table
pub asked_at : (ts : List PartOf) (t : List Instance) (i k : ℕ) (e : Tree) (state : Valuation) (label following : States) → map instance_plain ts ≡ t → i ≡ k → IsAsked t k e state label following → IsAsked (map instance_plain ts) i e state label following
asked_at ts t i k e state label following et ei a =
    subst (λ u. IsAsked u i e state label following) (sym et) (subst (λ j. IsAsked t j e state label following) (sym ei) a)

label_there : (t : List Instance) (label : States) → label_given t label ≡ true → is_some label ≡ true → label_fits t (stated label) ≡ true
label_there t None h e = cc
label_there t (Some l) h e = h

following_there : (t : List Instance) (state : Valuation) (following : States) → state_fits t state ≡ true → following_given t following ≡ true → state_fits t (following_or state following) ≡ true
following_there t state None h k = h
following_there t state (Some f) h k = k

pub gives_now : (t : List Instance) (i : ℕ) (e : Tree) (state : Valuation) (label following : States) → IsAsked t i e state label following → Gives (is_some label) (found_in t) state (stated label)
gives_now t i e state label following a = gives_found (is_some label) t state (stated label) a.now_fits (label_there t label a.label_fits)

pub gives_later : (t : List Instance) (i : ℕ) (e : Tree) (state : Valuation) (label following : States) → IsAsked t i e state label following → Gives (is_some label) (found_in t) (following_or state following) (stated label)
gives_later t i e state label following a =
    gives_found (is_some label) t (following_or state following) (stated label) (following_there t state following a.now_fits a.next_fits) (label_there t label a.label_fits)

-- what is marked is safely evaluated in each of the states
pub marked_safe : {S : Type 0} (t : List Instance) (i : ℕ) (e : Tree) (state : Valuation) (label following : States) → IsAsked t i e state label following
    → (marks : HashMap (ℕ × Bor (List ℕ)) Bool S) → MarksLeast t i e marks → (s : Valuation) → Gives (is_some label) (found_in t) s (stated label) → MarkedSafe t marks s (stated label)
marked_safe t i e state label following a marks least s gives k x m =
    by (local t k x) refl
    (least (λ l y. is_some label || not (local_reaches t (local t l y))) (leads_clear t (acyclic t a.checked) (is_some label) i e a.reach)
    (λ l y n z h r. local_clear t (acyclic t a.checked) (is_some label) (local t l y) h n z r) k x m)
  where
    by : (l : Local) → local t k x ≡ l → (is_some label || not (local_reaches t l)) ≡ true → LocalSafe (values_in t s (stated label)) l
    by (body_of j b) is h =
        safe_holds (SafePath (found_in t) (steps_of t) s (stated label) j) (SafePath (found_in t) (steps_of t) s (stated label) j) (λ q. Unit {0}) (λ q. Unit {0})
        (values_in t s (stated label) j) (values_in t s (stated label) j) b [] (λ q g. (tt, tt)) (body_is_safe t a.checked a.words (is_some label) s (stated label) gives k x j b is h)
    by (alias j path) is h = tt
    by (variable_of kind d) is h = tt
    by inner is h = tt
    by nothing is h = tt

-- a row of a state, in which all that is marked is kept
pub record IsRow {S : Type 0} (ts : List PartOf) (marks : HashMap (ℕ × Bor (List ℕ)) Bool S) (row : Row) (label : Values) (values : Valuation) : Type 0 where
  pub state : stated row.state.given ≡ values
  pub right : AreGiven row.state
  pub kept : MarkedAreCached ts marks row label

pub found_kept : {S : Type 0} (ts : List PartOf) (marks : HashMap (ℕ × Bor (List ℕ)) Bool S) (row : Row) (label : Values) → MarkedAreCached ts marks row label → (rank : ℕ)
    → (m : Found) → Under (map instance_plain ts) (rank_of (map instance_plain ts)) rank m → ((k : ℕ) (x : List ℕ) → is_body_of k x m ≡ true → is_marked marks k x ≡ true) → FoundIsCached ts row label m
found_kept ts marks row label h rank (body_at k x j e) u s = h k x j e (s k x (same_self (key k x))) u.1
found_kept ts marks row label h rank (variable_at x kind d) u s = tt
found_kept ts marks row label h rank (instance_at i) u s = tt
found_kept ts marks row label h rank (symbol_of x) u s = tt
found_kept ts marks row label h rank cyclic u s = tt
found_kept ts marks row label h rank none u s = tt

pub safe_at : {S : Type 0} (ts : List PartOf) (i : ℕ) (e : Tree) (state : Valuation) (label following : States) → IsAsked (map instance_plain ts) i e state label following
    → (marks : HashMap (ℕ × Bor (List ℕ)) Bool S) → MarksStart (map instance_plain ts) i e marks → (here later : Row) (labels : Values) → labels.given ≡ label → AreGiven labels
    → IsRow ts marks here labels state → IsRow ts marks later labels (following_or state following)
    → Safe (IsCached ts i here labels) (IsCached ts i later labels) (row_reads ts i here labels) (row_reads ts i later labels) e
safe_at ts i e state label following a marks start here later labels el right r s =
    let base = expressions_are_safe_law (map instance_plain ts) a.checked a.words (is_some label) state (stated label) (following_or state following)
    (gives_now (map instance_plain ts) i e state label following a) (gives_later (map instance_plain ts) i e state label following a) i e a.occurs a.reach in
    let P : Valuation → Path → Type 0 = λ v. SafePath (found_in (map instance_plain ts)) (steps_of (map instance_plain ts)) v (stated label) i in
    let Q : Valuation → Valuation → Valuation → Type 0 = λ v w l. Safe (P state) (P (following_or state following)) (values_in (map instance_plain ts) v l i) (values_in (map instance_plain ts) w l i) e in
    let first : Q (stated here.state.given) (following_or state following) (stated label) = subst (λ v. Q v (following_or state following) (stated label)) (sym r.state) base in
    let second : Q (stated here.state.given) (stated later.state.given) (stated label) = subst (λ w. Q (stated here.state.given) w (stated label)) (sym s.state) first in
    let third : Q (stated here.state.given) (stated later.state.given) (stated labels.given) = subst (λ (o : States). Q (stated here.state.given) (stated later.state.given) (stated o)) (sym el) second in
    safely_kept ts (acyclic (map instance_plain ts) a.checked) (P state) (P (following_or state following)) i here later labels e third
    (λ q g. (each here r.right r.kept q g, each later s.right s.kept q g))
  where
    each : (row : Row) → AreGiven row.state → MarkedAreCached ts marks row labels → (q : Path) → In q (paths_of e []) → IsCached ts i row labels q
    each row k h q g =
        kept ts i row labels q k right
        (found_kept ts marks row labels h (steps_of (map instance_plain ts)) (found_in (map instance_plain ts) i q)
        (all_under (map instance_plain ts) (rank_of (map instance_plain ts)) (ranking (map instance_plain ts) (acyclic (map instance_plain ts) a.checked)) i q)
        (λ k x b. start k x (in_any (λ z. is_body_of k x (found_in (map instance_plain ts) i z)) q (paths_of e []) g b)))

pub value_is : (ts : List PartOf) (i : ℕ) (e : Tree) (state : Valuation) (label following : States) (here there : Row) (labels : Values)
    → IsChecked (map instance_plain ts) → stated here.state.given ≡ state → stated there.state.given ≡ following_or state following → labels.given ≡ label
    → (denote (row_reads ts i here labels) (row_reads ts i there labels) e).value ≡ value_asked (map instance_plain ts) i e state label following
value_is ts i e state label following here there labels checked es ef el =
    let t = map instance_plain ts in
    denoted_kept ts (acyclic t checked) i here there labels e
    ∙ ap (λ s. (denoted (found_in t) (steps_of t) i e s (stated labels.given) (stated there.state.given)).value) es
    ∙ ap (λ r. (denoted (found_in t) (steps_of t) i e state (stated labels.given) r).value) ef
    ∙ ap (λ (o : States). (denoted (found_in t) (steps_of t) i e state (stated o) (following_or state following)).value) el

-- in the code's table
pub asked_in : (ts : List PartOf) (source : PlainSource) (i k : ℕ) (e : Tree) (state : Valuation) (label following : States) → map instance_plain ts ≡ instances_of source → i ≡ k
    → value_asked (map instance_plain ts) i e state label following ≡ value_of source k e state (stated label) (following_or state following)
asked_in ts source i k e state label following et ei =
    ap (λ u. value_asked u i e state label following) et ∙ ap (λ j. value_asked (instances_of source) j e state label following) ei

pub other_value : (r : Result Value NoMemory) (v w : Value) → v ≡ w → IfOk r (λ x. x ≡ v) → IfOk r (λ x. x ≡ w)
other_value r v w e h = subst (λ y. IfOk r (λ x. x ≡ y)) e h
