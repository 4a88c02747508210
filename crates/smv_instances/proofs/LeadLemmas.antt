-- Steps of a walk over leads.
use Rattle.std.proofs.Common.{◌≡◌, ℕ, zero, suc, ◌+◌, ◌<◌, ◌≤◌, nat_lt, Bool, true, false, ◌&&◌, ◌||◌, ◌==◌, if◌then◌else◌, List, [], ◌∷◌, ◌++◌, take, length, Option, Some, None, bytes_eq, refl, sym, ap, ◌∙◌, subst, arith}
use mathlib.Core.Logic.{⊎_elim}
use Rattle.std.specs.Prelude.{slice_index_or, position, IfSome}
use Rattle.std.specs.List.{list_any}
use Rattle.std.proofs.Math.Numerals.{add-one}
use Rattle.std.proofs.Math.Seq.{take-suc}
use Rattle.name_maps.specs.declared.instance_rows.InstanceRows.{InstanceRows}
use Rattle.std.proofs.lemmas.Bool.{ltb-true, cases_lt, eqb-true, eq-eqb, false≢true}
use Rattle.std.proofs.lemmas.Option.{none-some}
use Rattle.std.proofs.lemmas.Slice.Eq.{bytes_eq-Decides}
use Rattle.smv_text.specs.declared.tree.Path.{Path}
use Rattle.smv_instances.specs.declared.leads.Lead.{Lead}
use Rattle.smv_instances.specs.declared.leads.Key.{Key}
use Rattle.smv_meaning.specs.Instances.{Instance}
use Rattle.smv_meaning.specs.Bodies.{instance_within}
use Rattle.smv_meaning.specs.Names.{Local, alias, inner, is_child, local, Found, variable_at, body_at, instance_at, symbol_of, cyclic, none, at_child, landed, look, steps_of, onward, walk, single, resolved}
use Rattle.name_maps.specs.Rows.{row_in}
use Rattle.smv_instances.specs.Leads.{until, is_alias, LeadsTo, NameLeads, Right, IsOpen, StaysClosed, IsWaiting, AllWait, IsClosed, is_key, WalkOf, KeyWalk}
use Rattle.smv_instances.specs.declared.leads.Walk.{Walk}
use Rattle.smv_instances.specs.declared.leads.Walk.TheVariants.{Ends, Waits}
use Rattle.smv_instances.specs.View.{found_plain, Declares}
use Rattle.smv_meaning.specs.laws.Booleans.{both_true, or_true}
use Rattle.text_core.proofs.Truths.{or_false as or_nothing}

pub past : (r n : ℕ) (m : Found) → r ≤ n → until r n m ≡ m
past r n m l = by (nat_lt n r) refl
  where
    by : (b : Bool) → nat_lt n r ≡ b → (if b then cyclic else m) ≡ m
    by true h = absurd (let k = ltb-true n r h in omega (arith, k, l))
    by false h = refl

pub before : (r n : ℕ) (m : Found) → n < r → until r n m ≡ cyclic
before r n m l = by (nat_lt n r) refl
  where
    by : (b : Bool) → nat_lt n r ≡ b → (if b then cyclic else m) ≡ cyclic
    by true h = refl
    by false h = absurd (grind (arith, h, l))

-- what is no alias leads to itself in one step
pub look_one : (t : List Instance) (i : ℕ) (x : List ℕ) (l : Local) (m : Found) → l ≡ local t i x → ((f : ℕ → List ℕ → Found) → landed t f i x l ≡ m) → (n : ℕ) → look t n i x ≡ until 1 n m
unfolding look
look_one t i x l m e h zero = refl
look_one t i x l m e h (suc n) = ap (landed t (look t n) i x) (sym e) ∙ h (look t n) ∙ sym (past 1 (suc n) m (omega arith))

-- what a name leads to that is no alias
pub looked_once : (t : List Instance) (i : ℕ) (x : List ℕ) (l : Local) (m : Found) → l ≡ local t i x → ((f : ℕ → List ℕ → Found) → landed t f i x l ≡ m) → look t (steps_of t) i x ≡ m
looked_once t i x l m e h = look_one t i x l m e h (steps_of t) ∙ past 1 (steps_of t) m (omega arith)

pub child_within : (c : Option ℕ) → c ≡ instance_within (at_child c)
child_within None = refl
child_within (Some n) = refl

-- an alias leads where its path does, one step deeper
pub alias_leads : (t : List Instance) (i : ℕ) (x : List ℕ) (j : ℕ) (p : Path) (r : ℕ) (m : Found) → alias j p ≡ local t i x → ((n : ℕ) → resolved t (look t n) j p ≡ until r n m) → (n : ℕ) → look t n i x ≡ until (r + 1) n m
unfolding look
alias_leads t i x j p r m e h zero = sym (before (r + 1) zero m (omega arith))
alias_leads t i x j p r m e h (suc n) = ap (landed t (look t n) i x) (sym e) ∙ h n ∙ ⊎_elim (λ l. before r n m l ∙ sym (before (r + 1) (suc n) m (omega (arith, l)))) (λ l. past r n m l ∙ sym (past (r + 1) (suc n) m (omega (arith, l)))) (cases_lt n r)

pub alias_waits : (t : List Instance) (i : ℕ) (x : List ℕ) (j : ℕ) (p : Path) (n : ℕ) → alias j p ≡ local t i x → resolved t (look t n) j p ≡ cyclic → look t (suc n) i x ≡ cyclic
unfolding look
alias_waits t i x j p n e h = ap (landed t (look t n) i x) (sym e) ∙ h

-- the leads stay right where one more is kept
pub right_more : (t : List Instance) (was now : InstanceRows Lead) (i : ℕ) (x : List ℕ) (lead : Lead) → Right t was → LeadsTo t (λ n. look t n i x) lead → Declares t lead.target
    → ((j : ℕ) (y : List ℕ) → row_in now j y ≡ (if i == j && bytes_eq x y then Some lead else row_in was j y)) → Right t now
right_more t was now i x lead h l d k j y = subst (NameLeads t j y) (sym (k j y)) (by (i == j && bytes_eq x y) refl)
  where
    by : (b : Bool) → (i == j && bytes_eq x y) ≡ b → NameLeads t j y (if b then Some lead else row_in was j y)
    by true e =
        let b = both_true (i == j) (bytes_eq x y) e in
        (subst (λ z. LeadsTo t (λ n. look t n j z) lead) ((bytes_eq-Decides x y).0 b.1) (subst (λ a. LeadsTo t (λ n. look t n a x) lead) (eqb-true i j b.0) l), d)
    by false e = h j y

-- what is open where each open alias comes to an open alias leads into a cycle
pub open_is_cyclic : (t : List Instance) (m : InstanceRows Lead) → IsClosed t m → (n i : ℕ) (x : List ℕ) → IsOpen t m i x → look t n i x ≡ cyclic
unfolding look
open_is_cyclic t m h zero i x o = refl
open_is_cyclic t m h (suc n) i x o = let w = h i x o in w.3 n (open_is_cyclic t m h n w.0 w.1 w.2)

pub key_same : (i : ℕ) (x : List ℕ) (key : Key) → is_key i x key ≡ true → (key.instance ≡ i) × (key.name.now ≡ x)
key_same i x key h = let b = both_true (key.instance == i) (bytes_eq key.name.now x) h in (eqb-true key.instance i b.0, (bytes_eq-Decides key.name.now x).0 b.1)

or_moved : (b c d e : Bool) → e ≡ (c || d) → (b || e) ≡ ((b || c) || d)
or_moved true c d e h = refl
or_moved false c d e h = h

list_any_push : (p : Key → Bool) (ks : List Key) (key : Key) → list_any p (ks ++ key ∷ []) ≡ (list_any p ks || p key)
list_any_push p [] key = or_nothing (p key)
list_any_push p (k ∷ ks) key = or_moved (p k) (list_any p ks) (p key) (list_any p (ks ++ key ∷ [])) (list_any_push p ks key)

-- one parameter more waits
pub wait_more : (t : List Instance) (was now : InstanceRows Lead) (ks : List Key) (k n : ℕ) (key : Key) → n ≡ length ks → k < n → key ≡ slice_index_or ks k key → now ≡ was
    → (IsOpen t was key.instance key.name.now → IsWaiting t was key.instance key.name.now) → AllWait t was (take k ks) → AllWait t now (take (k + 1) ks)
wait_more t was now ks k n key e h is same own before = subst (λ m. AllWait t m (take (k + 1) ks)) (sym same) there
  where
    there : AllWait t was (take (k + 1) ks)
    there i x a o =
        let s : take (k + 1) ks ≡ take k ks ++ key ∷ [] = rw add-one (take-suc ks k key (omega (arith, e, h)) ∙ ap (λ y. take k ks ++ y ∷ []) (sym is)) in
        let b : (list_any (is_key i x) (take k ks) || is_key i x key) ≡ true = sym (list_any_push (is_key i x) (take k ks) key) ∙ ap (list_any (is_key i x)) (sym s) ∙ a in
        ⊎_elim (λ c. before i x c o)
        (λ c. let d = key_same i x key c in
        subst (λ y. IsWaiting t was i y) d.1 (subst (λ j. IsWaiting t was j key.name.now) d.0 (own (subst (λ y. IsOpen t was key.instance y) (sym d.1) (subst (λ j. IsOpen t was j x) (sym d.0) o)))))
        (or_true (list_any (is_key i x) (take k ks)) (is_key i x key) b)

pub walk_key : (t : List Instance) (m : InstanceRows Lead) (i : ℕ) (x : List ℕ) (j : ℕ) (p : Path) (w : Walk) → alias j p ≡ local t i x → row_in m i x ≡ None → WalkOf t m (λ n. resolved t (look t n) j p) w → KeyWalk t m i x (Some w)
walk_key t m i x j p (Ends lead) e o h = (alias_leads t i x j p lead.depth (found_plain t lead.target) e h.0, (ap is_alias (sym e), o), h.1, h.2)
walk_key t m i x j p (Waits key) e o h = (h.0, λ n c. alias_waits t i x j p n e (h.1 n c))

pub one_onward : (m : Found) → onward m true (λ c. instance_at c) ≡ m
one_onward (variable_at x kind d) = refl
one_onward (body_at i x j e) = refl
one_onward (instance_at c) = refl
one_onward (symbol_of x) = refl
one_onward cyclic = refl
one_onward none = refl

-- a path of one name leads where the name does
pub one_walked : (f : ℕ → List ℕ → Found) (i : ℕ) (x : List ℕ) → walk f i (x ∷ []) ≡ f i x
one_walked f i x = one_onward (f i x)

-- what a path of one name leads to that is no alias
pub single_is : (t : List Instance) (i : ℕ) (x : List ℕ) (l k : Local) (m : Found) → l ≡ k → k ≡ local t i x → ((f : ℕ → List ℕ → Found) → landed t f i x l ≡ m) → walk (look t (steps_of t)) i (x ∷ []) ≡ single t (look t (steps_of t)) i x l
    → m ≡ single t (look t (steps_of t)) i x k
single_is t i x l k m e r h w = sym (looked_once t i x l m (e ∙ r) h) ∙ sym (one_walked (look t (steps_of t)) i x) ∙ w ∙ ap (single t (look t (steps_of t)) i x) e

pub one_ends : (t : List Instance) (i : ℕ) (x : List ℕ) (lead : Lead) → LeadsTo t (λ n. look t n i x) lead → LeadsTo t (λ n. walk (look t n) i (x ∷ [])) lead
one_ends t i x lead h n = one_walked (look t n) i x ∙ h n

-- an instance is reached in one step
pub child_reached : (t : List Instance) (i : ℕ) (x : List ℕ) (c : Option ℕ) → inner ≡ local t i x → c ≡ position (is_child i x) t → IfSome c (λ k. (n : ℕ) → look t n i x ≡ until 1 n (instance_at k))
child_reached t i x None e h = record {}
child_reached t i x (Some k) e h = look_one t i x inner (instance_at k) e (λ f. ap at_child (sym h))

-- where one more lead is kept nothing opens
pub stays_closed : (t : List Instance) (was now : InstanceRows Lead) (i : ℕ) (x : List ℕ) (lead : Lead)
    → ((j : ℕ) (y : List ℕ) → row_in now j y ≡ (if i == j && bytes_eq x y then Some lead else row_in was j y)) → StaysClosed t was now
stays_closed t was now i x lead k j y o = (o.0, by (i == j && bytes_eq x y) (row_in was j y) (sym (k j y) ∙ o.1))
  where
    by : (b : Bool) (m : Option Lead) → (if b then Some lead else m) ≡ None → m ≡ None
    by true m e = absurd (none-some lead (sym e))
    by false m e = e

-- and what it is kept of is not open
pub kept_closed : (t : List Instance) (was now : InstanceRows Lead) (i : ℕ) (x : List ℕ) (lead : Lead)
    → ((j : ℕ) (y : List ℕ) → row_in now j y ≡ (if i == j && bytes_eq x y then Some lead else row_in was j y)) → ¬ IsOpen t now i x
kept_closed t was now i x lead k o = some_none (i == i) (bytes_eq x x) (eq-eqb i i refl) ((bytes_eq-Decides x x).1 refl) (sym (k i x) ∙ o.1)
  where
    some_none : (b c : Bool) → b ≡ true → c ≡ true → ¬ ((if b && c then Some lead else row_in was i x) ≡ None)
    some_none true true e f h = absurd (none-some lead (sym h))
    some_none true false e f h = absurd (false≢true f)
    some_none false c e f h = absurd (false≢true e)

-- none of these parameters is open
abbrev pub NoneOpen : List Instance → InstanceRows Lead → List Key → Type 0
NoneOpen t m ks = (i : ℕ) (x : List ℕ) → list_any (is_key i x) ks ≡ true → ¬ IsOpen t m i x

-- one parameter more is not open
pub none_more : (t : List Instance) (was now : InstanceRows Lead) (ks : List Key) (k n : ℕ) (key : Key) → n ≡ length ks → k < n → key ≡ slice_index_or ks k key
    → StaysClosed t was now → ¬ IsOpen t now key.instance key.name.now → NoneOpen t was (take k ks) → NoneOpen t now (take (k + 1) ks)
none_more t was now ks k n key e h is stays own before i x a o =
    let s : take (k + 1) ks ≡ take k ks ++ key ∷ [] = rw add-one (take-suc ks k key (omega (arith, e, h)) ∙ ap (λ y. take k ks ++ y ∷ []) (sym is)) in
    let b : (list_any (is_key i x) (take k ks) || is_key i x key) ≡ true = sym (list_any_push (is_key i x) (take k ks) key) ∙ ap (list_any (is_key i x)) (sym s) ∙ a in
    ⊎_elim (λ c. before i x c (stays i x o))
    (λ c. let d = key_same i x key c in own (subst (λ y. IsOpen t now key.instance y) (sym d.1) (subst (λ j. IsOpen t now j x) (sym d.0) o)))
    (or_true (list_any (is_key i x) (take k ks)) (is_key i x key) b)
