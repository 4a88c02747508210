-- Names, values and types come to an end where nothing reaches itself.
use Rattle.std.proofs.Common.{◌≡◌, ℕ, zero, suc, ◌<◌, ◌≤◌, Bool, true, false, ◌||◌, if◌then◌else◌, List, [], ◌∷◌, length, Option, Some, None, position, sum_by, refl, sym, ap, ◌∙◌, subst, arith}
use mathlib.Core.Logic.{inl, inr}
use Rattle.std.specs.List.{list_any}
use Rattle.smv_text.specs.declared.tree.Path.{Path}
use Rattle.smv_text.specs.Tree.{Tree}
use Rattle.smv_meaning.specs.declared.value.Value.{Value}
use Rattle.smv_meaning.specs.Values.{Valuation}
use Rattle.smv_meaning.specs.Expressions.{Denotation, paths_of}
use Rattle.smv_meaning.specs.Instances.{Instance}
use Rattle.smv_meaning.specs.Names.{Local, alias, body_of, variable_of, inner, nothing, local, Found, variable_at, body_at, instance_at, symbol_of, cyclic, none, at_child, is_child, onward, is_end, walk, has_symbol, single, through, resolved, landed, look, bodies_in, steps_of, found_in}
use Rattle.smv_meaning.specs.Meaning.{value_found, reading}
use Rattle.smv_meaning.specs.Types.{ExprType}
use Rattle.smv_meaning.specs.Checks.{Named, Typing}
use Rattle.smv_meaning.specs.Naming.{in_body, named_found, naming}
use Rattle.smv_meaning.specs.Phases.{Body, body_here, from_instance, path_bodies, referred, refers}
use Rattle.smv_meaning.specs.Settled.{has_body, Acyclic, chain_length, rank_of, is_cyclic, NamesSettle, ValuesSettle, ValuesAreOne, TypesSettle}
use Rattle.smv_meaning.specs.laws.Booleans.{absurd_bool}
use Rattle.smv_laws.proofs.Cycles.{In, in_left, in_right, flat_in, chain_most}
use Rattle.smv_laws.proofs.Ranked.{key, in_keys, keys_of, keys_counted, acyclic_falls}
use Rattle.smv_laws.proofs.Agreeing.{denote_same, typing_same}

-- ---- the rank

pub record Ranking (t : List Instance) (rank : Body → ℕ) : Type 0 where
  pub falls : (k m : Body) → In m (refers t k) → rank m < rank k
  pub positive : (k : Body) → has_body (local t k.0 k.1) ≡ true → 0 < rank k
  pub few : (k : Body) → rank k < steps_of t

some_key : (k : Body) (ks : List Body) → In k ks → 0 < length ks
some_key k [] h = absurd h
some_key k (m ∷ ks) h = omega arith

chain_positive : (f : Body → List Body) (n : ℕ) (k : Body) → 0 < n → 0 < chain_length f n k
unfolding chain_length
chain_positive f zero k h = absurd (omega arith)
chain_positive f (suc n) k h = omega arith

pub ranking : (t : List Instance) → Acyclic t → Ranking t (rank_of t)
ranking t a = record {
  falls = acyclic_falls t a;
  positive = λ k h. let e = some_key k (keys_of t) (in_keys t k.0 k.1 h) in let l = keys_counted t in chain_positive (refers t) (sum_by bodies_in t) k (omega arith);
  few = λ k. let h = chain_most (refers t) (sum_by bodies_in t) k in omega arith;
}

-- what is found at last
abbrev last_look : List Instance → ℕ → List ℕ → Found
last_look t i x = look t (steps_of t) i x

-- each definition and actual that the path goes through has a lesser rank
abbrev pub Below : List Instance → (Body → ℕ) → ℕ → ℕ → List (List ℕ) → Type 0
Below t rank r i xs = (m : Body) → In m (path_bodies t (look t (steps_of t)) i xs) → rank m < r

-- the name, where it is a definition or an actual, has a lesser rank
abbrev pub NameBelow : List Instance → (Body → ℕ) → ℕ → ℕ → List ℕ → Type 0
NameBelow t rank r i x = has_body (local t i x) ≡ true → rank (key i x) < r

here_in : (i : ℕ) (x : List ℕ) (l : Local) → has_body l ≡ true → In (key i x) (body_here i x l)
here_in i x (alias j path) h = inl refl
here_in i x (body_of j e) h = inl refl
here_in i x l h = absurd_bool h

first_below : (t : List Instance) (rank : Body → ℕ) (r i : ℕ) (x : List ℕ) (xs : List (List ℕ)) → Below t rank r i (x ∷ xs) → NameBelow t rank r i x
first_below t rank r i x xs h e =
    h (key i x) (in_left (key i x) (body_here i x (local t i x)) (from_instance (last_look t i x) (λ c. path_bodies t (last_look t) c xs)) (here_in i x (local t i x) e))

rest_below : (t : List Instance) (rank : Body → ℕ) (r i c : ℕ) (x : List ℕ) (xs : List (List ℕ)) → Below t rank r i (x ∷ xs) → last_look t i x ≡ instance_at c → Below t rank r c xs
rest_below t rank r i c x xs h e m k =
    h m (in_right m (body_here i x (local t i x)) (from_instance (last_look t i x) (λ d. path_bodies t (last_look t) d xs))
    (subst (λ f. In m (from_instance f (λ d. path_bodies t (last_look t) d xs))) (sym e) k))

-- each has a greater number than those to which it refers
abbrev pub Falls : List Instance → (Body → ℕ) → Type 0
Falls t rank = (k m : Body) → In m (refers t k) → rank m < rank k

-- what an actual that is a path goes through, and what the paths of a body do
pub alias_below : (t : List Instance) (rank : Body → ℕ) → Falls t rank → (i : ℕ) (x : List ℕ) (j : ℕ) (path : Path) → local t i x ≡ alias j path → Below t rank (rank (key i x)) j path.names
alias_below t rank falls i x j path e m h = falls (key i x) m (subst (λ l. In m (referred t (last_look t) l)) (sym e) h)

-- what a path of a body goes through is among that to which it refers
pub path_refers : (t : List Instance) (i : ℕ) (x : List ℕ) (j : ℕ) (b : Tree) → local t i x ≡ body_of j b
    → (q : Path) → In q (paths_of b []) → (m : Body) → In m (path_bodies t (last_look t) j q.names) → In m (refers t (key i x))
path_refers t i x j b e q g m h =
    subst (λ l. In m (referred t (last_look t) l)) (sym e) (flat_in (λ p. path_bodies t (last_look t) j p.names) m q (paths_of b []) g h)

pub body_below : (t : List Instance) (rank : Body → ℕ) → Falls t rank → (i : ℕ) (x : List ℕ) (j : ℕ) (b : Tree) → local t i x ≡ body_of j b
    → (q : Path) → In q (paths_of b []) → Below t rank (rank (key i x)) j q.names
body_below t rank falls i x j b e q g m h = falls (key i x) m (path_refers t i x j b e q g m h)

-- ---- fewer steps find the same

onward_same : (m : Found) (b : Bool) (f g : ℕ → Found) → ((c : ℕ) → m ≡ instance_at c → f c ≡ g c) → onward m b f ≡ onward m b g
onward_same (instance_at c) b f g h = h c refl
onward_same cyclic b f g h = refl
onward_same (variable_at x kind d) b f g h = refl
onward_same (body_at i x j e) b f g h = refl
onward_same (symbol_of x) b f g h = refl
onward_same none b f g h = refl

-- both find at a name below the rank what is found at last
abbrev BothFind : List Instance → (Body → ℕ) → ℕ → (f g : ℕ → List ℕ → Found) → Type 0
BothFind t rank r f g = (i : ℕ) (x : List ℕ) → NameBelow t rank r i x → (f i x ≡ last_look t i x) × (g i x ≡ last_look t i x)

walk_same : (t : List Instance) (rank : Body → ℕ) (r : ℕ) (f g : ℕ → List ℕ → Found) → BothFind t rank r f g → (i : ℕ) (xs : List (List ℕ)) → Below t rank r i xs → walk f i xs ≡ walk g i xs
walk_same t rank r f g s i [] h = refl
walk_same t rank r f g s i (x ∷ xs) h =
    let e = s i x (first_below t rank r i x xs h) in
    ap (λ m. onward m (is_end xs) (λ c. walk f c xs)) e.0
    ∙ onward_same (last_look t i x) (is_end xs) (λ c. walk f c xs) (λ c. walk g c xs) (λ c k. walk_same t rank r f g s c xs (rest_below t rank r i c x xs h k))
    ∙ ap (λ m. onward m (is_end xs) (λ c. walk g c xs)) (sym e.1)

single_same : (t : List Instance) (rank : Body → ℕ) (r : ℕ) (f g : ℕ → List ℕ → Found) → BothFind t rank r f g → (i : ℕ) (x : List ℕ) → Below t rank r i (x ∷ [])
    → (l : Local) → single t f i x l ≡ single t g i x l
single_same t rank r f g s i x h nothing = refl
single_same t rank r f g s i x h (alias j path) = walk_same t rank r f g s i (x ∷ []) h
single_same t rank r f g s i x h (body_of j e) = walk_same t rank r f g s i (x ∷ []) h
single_same t rank r f g s i x h (variable_of kind d) = walk_same t rank r f g s i (x ∷ []) h
single_same t rank r f g s i x h inner = walk_same t rank r f g s i (x ∷ []) h

through_same : (t : List Instance) (rank : Body → ℕ) (r : ℕ) (f g : ℕ → List ℕ → Found) → BothFind t rank r f g → (i : ℕ) (xs : List (List ℕ)) → Below t rank r i xs → through t f i xs ≡ through t g i xs
through_same t rank r f g s i [] h = refl
through_same t rank r f g s i (x ∷ []) h = single_same t rank r f g s i x h (local t i x)
through_same t rank r f g s i (x ∷ y ∷ xs) h = walk_same t rank r f g s i (x ∷ y ∷ xs) h

pick_same : {X : Type 0} (b : Bool) (x y z w : X) → x ≡ z → y ≡ w → (if b then x else y) ≡ (if b then z else w)
pick_same true x y z w h k = h
pick_same false x y z w h k = k

resolved_same : (t : List Instance) (rank : Body → ℕ) (r : ℕ) (f g : ℕ → List ℕ → Found) → BothFind t rank r f g → (i : ℕ) (path : Path) → Below t rank r i path.names
    → resolved t f i path ≡ resolved t g i path
resolved_same t rank r f g s i path h =
    pick_same path.from_self _ _ _ _ (walk_same t rank r f g s i path.names h) (through_same t rank r f g s i path.names h)

landed_same : (t : List Instance) (f g : ℕ → List ℕ → Found) (i : ℕ) (x : List ℕ) → ((j : ℕ) (path : Path) → local t i x ≡ alias j path → resolved t f j path ≡ resolved t g j path)
    → landed t f i x (local t i x) ≡ landed t g i x (local t i x)
landed_same t f g i x h = by (local t i x) refl
  where
    by : (l : Local) → local t i x ≡ l → landed t f i x l ≡ landed t g i x l
    by (alias j path) e = h j path e
    by (body_of j e) s = refl
    by (variable_of kind d) e = refl
    by inner e = refl
    by nothing e = refl

look_same : (t : List Instance) (rank : Body → ℕ) → Ranking t rank → (n : ℕ) → n ≤ steps_of t → (i : ℕ) (x : List ℕ) → NameBelow t rank n i x → 0 < n → (m : ℕ) → n ≤ m → look t n i x ≡ look t m i x
unfolding look
look_same t rank k zero l i x b p m g = absurd (omega arith)
look_same t rank k (suc n) l i x b p zero g = absurd (omega arith)
look_same t rank k (suc n) l i x b p (suc m) g = landed_same t (look t n) (look t m) i x
    (λ j path e.
    let lower = b (ap has_body e) in
    let above = k.positive (key i x) (ap has_body e) in
    let ih : (j' : ℕ) (y : List ℕ) → NameBelow t rank (rank (key i x)) j' y → (m' : ℕ) → n ≤ m' → look t n j' y ≡ look t m' j' y =
    λ j' y s m' g'. look_same t rank k n (omega arith) j' y (λ w. let z = s w in omega arith) (omega arith) m' g' in
    resolved_same t rank (rank (key i x)) (look t n) (look t m)
    (λ j' y s. (ih j' y s (steps_of t) (omega arith), sym (ih j' y s m (omega arith)) ∙ ih j' y s (steps_of t) (omega arith))) j path (alias_below t rank k.falls i x j path e))

pub look_settles : (t : List Instance) (rank : Body → ℕ) → Ranking t rank → (i : ℕ) (x : List ℕ) → look t (steps_of t) i x ≡ landed t (look t (steps_of t)) i x (local t i x)
unfolding look
look_settles t rank k i x = look_same t rank k (steps_of t) (omega arith) i x (λ e. k.few (key i x)) (omega arith) (suc (steps_of t)) (omega arith)

-- the numbers fall, and names are what their declarations say
pub record Descent (t : List Instance) (rank : Body → ℕ) : Type 0 where
  pub falls : Falls t rank
  pub settles : (i : ℕ) (x : List ℕ) → look t (steps_of t) i x ≡ landed t (look t (steps_of t)) i x (local t i x)

pub descent : (t : List Instance) (rank : Body → ℕ) → Ranking t rank → Descent t rank
descent t rank k = record { falls = k.falls; settles = look_settles t rank k }

-- ---- what is found along a path

-- it holds of instances, symbols and where nothing is found
record Kept (P : Found → Type 0) : Type 0 where
  instances : (i : ℕ) → P (instance_at i)
  symbols : (x : List ℕ) → P (symbol_of x)
  missing : P none

pick_has : (P : Found → Type 0) (b : Bool) (m n : Found) → P m → P n → P (if b then m else n)
pick_has P true m n h l = h
pick_has P false m n h l = l

onward_has : (P : Found → Type 0) → Kept P → (m : Found) (b : Bool) (go : ℕ → Found) → P m → ((c : ℕ) → m ≡ instance_at c → P (go c)) → P (onward m b go)
onward_has P k (instance_at c) b go h l = l c refl
onward_has P k cyclic b go h l = h
onward_has P k (variable_at x kind d) b go h l = pick_has P b (variable_at x kind d) none h k.missing
onward_has P k (body_at i x j e) b go h l = pick_has P b (body_at i x j e) none h k.missing
onward_has P k (symbol_of x) b go h l = pick_has P b (symbol_of x) none h k.missing
onward_has P k none b go h l = pick_has P b none none h k.missing

-- it holds at each name below the rank
abbrev NamesHave : List Instance → (Body → ℕ) → ℕ → (Found → Type 0) → Type 0
NamesHave t rank r P = (i : ℕ) (x : List ℕ) → NameBelow t rank r i x → P (last_look t i x)

walk_has : (t : List Instance) (rank : Body → ℕ) (r : ℕ) (P : Found → Type 0) → Kept P → NamesHave t rank r P → (i : ℕ) (xs : List (List ℕ)) → Below t rank r i xs → P (walk (last_look t) i xs)
walk_has t rank r P k s i [] h = k.instances i
walk_has t rank r P k s i (x ∷ xs) h =
    onward_has P k (last_look t i x) (is_end xs) (λ c. walk (last_look t) c xs) (s i x (first_below t rank r i x xs h))
    (λ c e. walk_has t rank r P k s c xs (rest_below t rank r i c x xs h e))

single_has : (t : List Instance) (rank : Body → ℕ) (r : ℕ) (P : Found → Type 0) → Kept P → NamesHave t rank r P → (i : ℕ) (x : List ℕ) → Below t rank r i (x ∷ []) → (l : Local)
    → P (single t (last_look t) i x l)
single_has t rank r P k s i x h nothing = pick_has P (has_symbol t x) (symbol_of x) none (k.symbols x) k.missing
single_has t rank r P k s i x h (alias j path) = walk_has t rank r P k s i (x ∷ []) h
single_has t rank r P k s i x h (body_of j e) = walk_has t rank r P k s i (x ∷ []) h
single_has t rank r P k s i x h (variable_of kind d) = walk_has t rank r P k s i (x ∷ []) h
single_has t rank r P k s i x h inner = walk_has t rank r P k s i (x ∷ []) h

through_has : (t : List Instance) (rank : Body → ℕ) (r : ℕ) (P : Found → Type 0) → Kept P → NamesHave t rank r P → (i : ℕ) (xs : List (List ℕ)) → Below t rank r i xs → P (through t (last_look t) i xs)
through_has t rank r P k s i [] h = k.instances i
through_has t rank r P k s i (x ∷ []) h = single_has t rank r P k s i x h (local t i x)
through_has t rank r P k s i (x ∷ y ∷ xs) h = walk_has t rank r P k s i (x ∷ y ∷ xs) h

resolved_has : (t : List Instance) (rank : Body → ℕ) (r : ℕ) (P : Found → Type 0) → Kept P → NamesHave t rank r P → (i : ℕ) (path : Path) → Below t rank r i path.names → P (found_in t i path)
resolved_has t rank r P k s i path h =
    pick_has P path.from_self (walk (last_look t) i path.names) (through t (last_look t) i path.names) (walk_has t rank r P k s i path.names h) (through_has t rank r P k s i path.names h)

-- ---- what a name below a rank leads to

child_has : (P : Found → Type 0) → Kept P → (o : Option ℕ) → P (at_child o)
child_has P k None = k.missing
child_has P k (Some c) = k.instances c

-- a variable, a definition or an actual of a lesser rank, an instance, a symbol or nothing
abbrev pub Under : List Instance → (Body → ℕ) → ℕ → Found → Type 0
Under t rank r (body_at i x j e) = (rank (key i x) < r) × (local t i x ≡ body_of j e)
Under t rank r cyclic = ⊥
Under t rank r m = Unit {0}

under_kept : (t : List Instance) (rank : Body → ℕ) (r : ℕ) → Kept (Under t rank r)
under_kept t rank r = record { instances = λ i. tt; symbols = λ x. tt; missing = tt }

pub under_more : (t : List Instance) (rank : Body → ℕ) (r s : ℕ) → r ≤ s → (m : Found) → Under t rank r m → Under t rank s m
under_more t rank r s l (body_at i x j e) h = let less = h.0 in (omega arith, h.1)
under_more t rank r s l cyclic h = h
under_more t rank r s l (variable_at x kind d) h = tt
under_more t rank r s l (instance_at i) h = tt
under_more t rank r s l (symbol_of x) h = tt
under_more t rank r s l none h = tt

landed_under : (t : List Instance) (rank : Body → ℕ) (r i : ℕ) (x : List ℕ) → NameBelow t rank r i x
    → ((j : ℕ) (path : Path) → local t i x ≡ alias j path → rank (key i x) < r → Under t rank r (found_in t j path)) → Under t rank r (landed t (last_look t) i x (local t i x))
landed_under t rank r i x b h = by (local t i x) refl
  where
    by : (l : Local) → local t i x ≡ l → Under t rank r (landed t (last_look t) i x l)
    by (alias j path) e = h j path e (b (ap has_body e))
    by (body_of j c) e = (b (ap has_body e), e)
    by (variable_of kind d) e = tt
    by inner e = child_has (Under t rank r) (under_kept t rank r) (position (is_child i x) t)
    by nothing e = tt

look_under : (t : List Instance) (rank : Body → ℕ) → Descent t rank → (b r : ℕ) → r ≤ b → NamesHave t rank r (Under t rank r)
look_under t rank k zero r l i x n =
    subst (Under t rank r) (sym (k.settles i x)) (landed_under t rank r i x n (λ j path e less. absurd (omega arith)))
look_under t rank k (suc b) r l i x n =
    subst (Under t rank r) (sym (k.settles i x)) (landed_under t rank r i x n
    (λ j path e less. under_more t rank (rank (key i x)) r (omega arith) (found_in t j path)
    (resolved_has t rank (rank (key i x)) (Under t rank (rank (key i x))) (under_kept t rank (rank (key i x))) (look_under t rank k b (rank (key i x)) (omega arith)) j path (alias_below t rank k.falls i x j path e))))

pub found_under : (t : List Instance) (rank : Body → ℕ) → Descent t rank → (r i : ℕ) (path : Path) → Below t rank r i path.names → Under t rank r (found_in t i path)
found_under t rank k r i path h = resolved_has t rank r (Under t rank r) (under_kept t rank r) (look_under t rank k r r (omega arith)) i path h

-- all that is found
pub all_under : (t : List Instance) (rank : Body → ℕ) → Ranking t rank → (i : ℕ) (path : Path) → Under t rank (steps_of t) (found_in t i path)
all_under t rank k i path = found_under t rank (descent t rank k) (steps_of t) i path (λ m h. k.few m)

-- what the paths of a body lead to
pub body_under : (t : List Instance) (rank : Body → ℕ) → Descent t rank → (i : ℕ) (x : List ℕ) (j : ℕ) (e : Tree) → local t i x ≡ body_of j e
    → (q : Path) → In q (paths_of e []) → Under t rank (rank (key i x)) (found_in t j q)
body_under t rank k i x j e h q g = found_under t rank k (rank (key i x)) j q (body_below t rank k.falls i x j e h q g)

-- ---- the laws

under_ends : (t : List Instance) (rank : Body → ℕ) (r : ℕ) (m : Found) → Under t rank r m → is_cyclic m ≡ false
under_ends t rank r (body_at i x j e) h = refl
under_ends t rank r cyclic h = absurd h
under_ends t rank r (variable_at x kind d) h = refl
under_ends t rank r (instance_at i) h = refl
under_ends t rank r (symbol_of x) h = refl
under_ends t rank r none h = refl

pub names_settle_law : NamesSettle
names_settle_law t a = let k = ranking t a in (
  (λ i path. under_ends t (rank_of t) (steps_of t) (found_in t i path) (all_under t (rank_of t) k i path)),
  (λ i x. look_settles t (rank_of t) k i x),
)

abbrev pub is_body : Found → Bool
is_body (body_at i x j e) = true
is_body m = false

-- the meaning of names is one by equations that hang on a body's paths alone
pub record Closing {X : Type 0} (found : ℕ → Path → Found) (step : (ℕ → Path → X) → Found → X) (g : ℕ → ℕ → Path → X) : Type 0 where
  pub goes : (n i : ℕ) (path : Path) → g (suc n) i path ≡ step (g n) (found i path)
  pub bodies : (f h : ℕ → Path → X) (i : ℕ) (x : List ℕ) (j : ℕ) (e : Tree) → ((q : Path) → In q (paths_of e []) → f j q ≡ h j q) → step f (body_at i x j e) ≡ step h (body_at i x j e)
  pub others : (f h : ℕ → Path → X) (m : Found) → is_body m ≡ false → step f m ≡ step h m

step_same : {X : Type 0} (t : List Instance) (rank : Body → ℕ) → Ranking t rank → (step : (ℕ → Path → X) → Found → X) (g : ℕ → ℕ → Path → X) → Closing (found_in t) step g
    → (n : ℕ) (f h : ℕ → Path → X) → ((i : ℕ) (path : Path) → Under t rank n (found_in t i path) → 0 < n → f i path ≡ h i path)
    → (m : Found) → Under t rank (suc n) m → step f m ≡ step h m
step_same t rank k step g c n f h ih (body_at i x j e) u = c.bodies f h i x j e
    (λ q s.
    let less = u.0 in
    let above = k.positive (key i x) (ap has_body u.1) in
    ih j q (under_more t rank (rank (key i x)) n (omega arith) (found_in t j q) (body_under t rank (descent t rank k) i x j e u.1 q s)) (omega arith))
step_same t rank k step g c n f h ih (variable_at x kind d) u = c.others f h (variable_at x kind d) refl
step_same t rank k step g c n f h ih (instance_at i) u = c.others f h (instance_at i) refl
step_same t rank k step g c n f h ih (symbol_of x) u = c.others f h (symbol_of x) refl
step_same t rank k step g c n f h ih cyclic u = c.others f h cyclic refl
step_same t rank k step g c n f h ih none u = c.others f h none refl

-- what meets the equations is what the steps come to
pub one_meaning : {X : Type 0} (t : List Instance) (rank : Body → ℕ) → Ranking t rank → (step : (ℕ → Path → X) → Found → X) (g : ℕ → ℕ → Path → X) → Closing (found_in t) step g
    → (row : ℕ → Path → X) → ((i : ℕ) (path : Path) → row i path ≡ step row (found_in t i path))
    → (n i : ℕ) (path : Path) → Under t rank n (found_in t i path) → 0 < n → row i path ≡ g n i path
one_meaning t rank k step g c row h zero i path u p = absurd (omega arith)
one_meaning t rank k step g c row h (suc n) i path u p =
    h i path ∙ step_same t rank k step g c n row (g n) (λ j q v w. one_meaning t rank k step g c row h n j q v w) (found_in t i path) u ∙ sym (c.goes n i path)

-- one step more changes nothing
pub steps_same : {X : Type 0} (t : List Instance) (rank : Body → ℕ) → Ranking t rank → (step : (ℕ → Path → X) → Found → X) (g : ℕ → ℕ → Path → X) → Closing (found_in t) step g
    → (n i : ℕ) (path : Path) → Under t rank n (found_in t i path) → 0 < n → g n i path ≡ g (suc n) i path
steps_same t rank k step g c zero i path u p = absurd (omega arith)
steps_same t rank k step g c (suc n) i path u p =
    c.goes n i path ∙ step_same t rank k step g c n (g n) (g (suc n)) (λ j q v w. steps_same t rank k step g c n j q v w) (found_in t i path) u ∙ sym (c.goes (suc n) i path)

pub meaning_settles : {X : Type 0} (t : List Instance) (rank : Body → ℕ) → Ranking t rank → (step : (ℕ → Path → X) → Found → X) (g : ℕ → ℕ → Path → X) → Closing (found_in t) step g
    → (i : ℕ) (path : Path) → g (steps_of t) i path ≡ step (g (steps_of t)) (found_in t i path)
meaning_settles t rank k step g c i path =
    steps_same t rank k step g c (steps_of t) i path (all_under t rank k i path) (omega arith) ∙ c.goes (steps_of t) i path

-- ---- values

other_values : (state label : Valuation) (f h : ℕ → Path → Value) (m : Found) → is_body m ≡ false → value_found f state label m ≡ value_found h state label m
other_values state label f h (body_at i x j e) b = absurd_bool (sym b)
other_values state label f h (variable_at x kind d) b = refl
other_values state label f h (instance_at i) b = refl
other_values state label f h (symbol_of x) b = refl
other_values state label f h cyclic b = refl
other_values state label f h none b = refl

pub values_close : (found : ℕ → Path → Found) (state label : Valuation) → Closing found (λ f m. value_found f state label m) (λ n i path. reading found n state label i path)
unfolding reading
values_close found state label = record {
  goes = λ n i path. refl;
  bodies = λ f h i x j e s. ap (λ (d : Denotation). d.value) (denote_same (f j) (f j) (h j) (h j) e [] (λ q g. (s q g, s q g)));
  others = λ f h m b. other_values state label f h m b;
}

pub values_settle_law : ValuesSettle
values_settle_law t a state label i path =
    meaning_settles t (rank_of t) (ranking t a) (λ f m. value_found f state label m) (λ n j q. reading (found_in t) n state label j q) (values_close (found_in t) state label) i path

pub values_are_one_law : ValuesAreOne
values_are_one_law t a state label row h i path =
    one_meaning t (rank_of t) (ranking t a) (λ f m. value_found f state label m) (λ n j q. reading (found_in t) n state label j q) (values_close (found_in t) state label) row h
    (steps_of t) i path (all_under t (rank_of t) (ranking t a) i path) (omega arith)

-- ---- types

other_names : (inputs : Bool) (f h : ℕ → Path → Named) (m : Found) → is_body m ≡ false → named_found inputs f m ≡ named_found inputs h m
other_names inputs f h (body_at i x j e) b = absurd_bool (sym b)
other_names inputs f h (variable_at x kind d) b = refl
other_names inputs f h (instance_at i) b = refl
other_names inputs f h (symbol_of x) b = refl
other_names inputs f h cyclic b = refl
other_names inputs f h none b = refl

pub any_same : (f h : Path → Named) (xs : List Path) → ((q : Path) → In q xs → f q ≡ h q) → list_any (λ q. (f q).reaches_input) xs ≡ list_any (λ q. (h q).reaches_input) xs
any_same f h [] s = refl
any_same f h (x ∷ xs) s =
    ap (λ (m : Named). m.reaches_input || list_any (λ q. (f q).reaches_input) xs) (s x (inl refl))
    ∙ ap (λ b. (h x).reaches_input || b) (any_same f h xs (λ q i. s q (inr i)))

abbrev pub body_named : Option ExprType → Bool → Named
body_named t b = record { type = t; is_instance = false; reaches_input = b }

pub two_same : {A B C : Type 0} (f : A → B → C) (a x : A) (b y : B) → a ≡ x → b ≡ y → f a b ≡ f x y
two_same f a x b y p q = ap (λ w. f w b) p ∙ ap (λ w. f x w) q

pub types_close : (inputs : Bool) (found : ℕ → Path → Found) → Closing found (λ f m. named_found inputs f m) (λ n i path. naming inputs found n i path)
unfolding naming
types_close inputs found = record {
  goes = λ n i path. refl;
  bodies = λ f h i x j e s. two_same body_named _ _ _ _ (ap (λ (a : Typing). a.type) (typing_same (f j) (h j) in_body e [] s)) (any_same (f j) (h j) (paths_of e []) s);
  others = λ f h m b. other_names inputs f h m b;
}

pub types_settle_law : TypesSettle
types_settle_law t a inputs i path =
    meaning_settles t (rank_of t) (ranking t a) (λ f m. named_found inputs f m) (λ n j q. naming inputs (found_in t) n j q) (types_close inputs (found_in t)) i path
