-- Expressions of a model whose checks hold are evaluated safely.
use Rattle.std.proofs.Common.{◌≡◌, ℕ, zero, suc, ◌<◌, Bool, true, false, not, ◌&&◌, ◌||◌, if◌then◌else◌, List, [], ◌∷◌, ◌++◌, Option, None, refl, sym, ap, ◌∙◌, subst, arith}
use mathlib.Core.Logic.{◌⊎◌, inl, inr, ⊎_elim}
use Rattle.std.specs.List.{slice_get, list_any}
use Rattle.text_core.specs.declared.place.Place.{Place}
use Rattle.smv_text.specs.declared.tree.Path.{Path}
use Rattle.smv_text.specs.declared.tree.VarKind.{VarKind}
use Rattle.smv_text.specs.declared.tree.VarKind.TheVariants as OfVarKind
use Rattle.smv_text.specs.Tree.{Tree, name, PlainDomain}
use Rattle.smv_meaning.specs.Values.{Valuation}
use Rattle.smv_meaning.specs.Expressions.{paths_of}
use Rattle.smv_meaning.specs.Instances.{Instance, instances_of}
use Rattle.smv_meaning.specs.Names.{Local, alias, body_of, variable_of, inner, nothing, local, path_in, Found, variable_at, body_at, instance_at, symbol_of, cyclic, none, found_in, steps_of}
use Rattle.smv_meaning.specs.Meaning.{is_input, reading}
use Rattle.smv_meaning.specs.Types.{ExprType}
use Rattle.smv_meaning.specs.Checks.{Position, Named, Typing, typing}
use Rattle.smv_meaning.specs.Naming.{in_body, typed_variable, named_found}
use Rattle.smv_meaning.specs.Phases.{Body, is_something, module_checks, declaration_checks, size_checks, later_checks}
use Rattle.smv_meaning.specs.Safety.{Safe, SafeFound, SafePath}
use Rattle.smv_meaning.specs.Typed.{Gives}
use Rattle.smv_meaning.specs.Owed.{HasType}
use Rattle.smv_meaning.specs.Literals.{words_fit}
use Rattle.smv_meaning.specs.Settled.{has_body, Acyclic, cycle_checks_of, types_in, values_in, rank_of}
use Rattle.smv_meaning.specs.Reached.{is_body_of, leads_to, local_leads_to}
use Rattle.smv_meaning.specs.Checked.{path_checks_of, type_checks_of, IsChecked, AcceptedIsChecked, all_trees, names_instance, NamesHaveTypes, ExpressionsHaveTypes, reaches_an_input, ExpressionsAreSafe}
use Rattle.smv_meaning.specs.laws.Booleans.{absurd_bool}
use Rattle.smv_laws.proofs.SafeLaws.{safe_path, typed_is_safe_law}
use Rattle.smv_laws.proofs.Cycles.{In, any_in, same_is}
use Rattle.smv_laws.proofs.FoundLaws.{LocalGood}
use Rattle.smv_laws.proofs.Agreeing.{typing_same}
use Rattle.smv_laws.proofs.Ranked.{key, cycles_are_checked_law}
use Rattle.smv_laws.proofs.Settling.{Under, under_more, all_under, body_under, descent, ranking, types_settle_law, is_body, body_named, two_same, any_same}
use Rattle.smv_laws.proofs.Typable.{split, has_type}
use Rattle.smv_laws.proofs.PartLaws.{sound_type}
use Rattle.smv_laws.proofs.CheckedLaws.{Given, Placed, checked_at, local_given, all_given, AllTyped, all_typed, stands_sound, named_instance}

-- ---- what the checks give

pub accepted_is_checked_law : AcceptedIsChecked
accepted_is_checked_law source needed h =
    let t = instances_of source in
    let a = split (module_checks source ++ declaration_checks source.modules t 0 1 t ++ size_checks source ++ later_checks t) _ h in
    let b = split (module_checks source ++ declaration_checks source.modules t 0 1 t ++ size_checks source) (later_checks t) a.0 in
    let c = split (path_checks_of t ++ cycle_checks_of t ++ type_checks_of t) _ b.1 in
    let d = split (path_checks_of t ++ cycle_checks_of t) (type_checks_of t) c.0 in
    let e = split (path_checks_of t) (cycle_checks_of t) d.0 in
    record { paths = e.0; cycles = e.1; types = d.1 }

pub acyclic : (t : List Instance) → IsChecked t → Acyclic t
acyclic t c = (cycles_are_checked_law t).0 c.cycles

-- what paths lead to is in order
abbrev Placing : List Instance → Type 0
Placing t = (i : ℕ) (path : Path) → Given t (found_in t i path)

placing : (t : List Instance) → IsChecked t → all_trees words_fit t ≡ true → Placing t
placing t c w = all_given t (checked_at t c w)

-- ---- where no input is reached, types are the same without a label

pub any_false : (p : Path → Bool) (xs : List Path) → list_any p xs ≡ false → (q : Path) → In q xs → p q ≡ false
any_false p [] h q i = absurd i
any_false p (x ∷ xs) h q (inl s) = ap p s ∙ left_false (p x) (list_any p xs) h
  where
    left_false : (a b : Bool) → (a || b) ≡ false → a ≡ false
    left_false true b k = k
    left_false false b k = refl
any_false p (x ∷ xs) h q (inr s) = any_false p xs (right_false (p x) (list_any p xs) h) q s
  where
    right_false : (a b : Bool) → (a || b) ≡ false → b ≡ false
    right_false true b k = absurd_bool (sym k)
    right_false false b k = k

variable_without : (kind : VarKind) (d : PlainDomain) → is_input kind ≡ false → typed_variable false kind d ≡ typed_variable true kind d
variable_without OfVarKind.Input d h = absurd_bool (sym h)
variable_without OfVarKind.State d h = refl
variable_without OfVarKind.Frozen d h = refl

names_without : (t : List Instance) (a : Acyclic t) (n i : ℕ) (path : Path) → Under t (rank_of t) n (found_in t i path) → 0 < n → (types_in true t i path).reaches_input ≡ false
    → types_in false t i path ≡ types_in true t i path
names_without t a zero i path u p r = absurd (omega arith)
names_without t a (suc n) i path u p r =
    types_settle_law t a false i path
    ∙ by (found_in t i path) u (ap (λ (m : Named). m.reaches_input) (sym (types_settle_law t a true i path)) ∙ r) (λ j q v w s. names_without t a n j q v w s)
    ∙ sym (types_settle_law t a true i path)
  where
    by : (m : Found) → Under t (rank_of t) (suc n) m → (named_found true (types_in true t) m).reaches_input ≡ false
        → ((j : ℕ) (q : Path) → Under t (rank_of t) n (found_in t j q) → 0 < n → (types_in true t j q).reaches_input ≡ false → types_in false t j q ≡ types_in true t j q)
        → named_found false (types_in false t) m ≡ named_found true (types_in true t) m
    by (variable_at x kind d) v s ih = ap (λ (o : Option ExprType). record { type = o; is_instance = false; reaches_input = is_input kind }) (variable_without kind d s)
    by (body_at k x j e) v s ih =
        let less = v.0 in
        let above = (ranking t a).positive (key k x) (ap has_body v.1) in
        let same : (q : Path) → In q (paths_of e []) → types_in false t j q ≡ types_in true t j q =
        λ q g. ih j q (under_more t (rank_of t) (rank_of t (key k x)) n (omega arith) (found_in t j q) (body_under t (rank_of t) (descent t (rank_of t) (ranking t a)) k x j e v.1 q g)) (omega arith)
        (any_false (λ z. (types_in true t j z).reaches_input) (paths_of e []) s q g) in
        two_same body_named _ _ _ _ (ap (λ (b : Typing). b.type) (typing_same (types_in false t j) (types_in true t j) in_body e [] same)) (any_same (types_in false t j) (types_in true t j) (paths_of e []) same)
    by (instance_at k) v s ih = refl
    by (symbol_of x) v s ih = refl
    by cyclic v s ih = refl
    by none v s ih = refl

-- the same types where a label is given or no input is reached
types_for : (t : List Instance) → Acyclic t → (inputs : Bool) (i : ℕ) (e : Tree) → (inputs || not (reaches_an_input t i e)) ≡ true
    → (q : Path) → In q (paths_of e []) → types_in inputs t i q ≡ types_in true t i q
types_for t a true i e h q g = refl
types_for t a false i e h q g =
    names_without t a (steps_of t) i q (all_under t (rank_of t) (ranking t a) i q) (omega arith)
    (any_false (λ z. (types_in true t i z).reaches_input) (paths_of e []) (not_true (reaches_an_input t i e) h) q g)
  where
    not_true : (b : Bool) → not b ≡ true → b ≡ false
    not_true true k = absurd_bool k
    not_true false k = refl

-- ---- the laws

pub names_have_types_from : (t : List Instance) → IsChecked t → Placing t → AllTyped t
names_have_types_from t c g = all_typed t (acyclic t c) g

safe_other : (found : ℕ → Path → Found) (state label : Valuation) (n i : ℕ) (path : Path) → is_body (found i path) ≡ false → SafePath found n state label i path
unfolding SafePath
safe_other found state label zero i path h = tt
safe_other found state label (suc n) i path h = by (found i path) h
  where
    by : (m : Found) → is_body m ≡ false → SafeFound (SafePath found n state label) (reading found n state label) m
    by (body_at k x j e) b = absurd_bool (sym b)
    by (variable_at x kind d) b = tt
    by (instance_at k) b = tt
    by (symbol_of x) b = tt
    by cyclic b = tt
    by none b = tt

body_names : (m : Found) → is_body m ≡ true → names_instance m ≡ false
body_names (body_at k x j e) h = refl
body_names (variable_at x kind d) h = refl
body_names (instance_at k) h = absurd_bool h
body_names (symbol_of x) h = refl
body_names cyclic h = refl
body_names none h = refl

name_safe : (t : List Instance) (c : IsChecked t) (g : Placing t) (inputs : Bool) (state label : Valuation) → Gives inputs (found_in t) state label
    → (i : ℕ) (x : Path) → is_something (found_in t i x) ≡ true → types_in inputs t i x ≡ types_in true t i x → SafePath (found_in t) (steps_of t) state label i x
name_safe t c g inputs state label gives i x s same = by (is_body (found_in t i x)) refl
  where
    by : (b : Bool) → is_body (found_in t i x) ≡ b → SafePath (found_in t) (steps_of t) state label i x
    by false e = safe_other (found_in t) state label (steps_of t) i x e
    by true e =
        let no : (types_in true t i x).is_instance ≡ false =
        ap (λ (m : Named). m.is_instance) (types_settle_law t (acyclic t c) true i x) ∙ named_instance t (found_in t i x) ∙ body_names (found_in t i x) e in
        safe_path inputs (found_in t) state label gives (steps_of t) i x
        (subst (λ (m : Named). HasType m.type) (sym same) (names_have_types_from t c g i x s no))

pub expressions_are_safe_law : ExpressionsAreSafe
expressions_are_safe_law t c w inputs state label following gives later i e stands reach =
    let g = placing t c w in
    let a = acyclic t c in
    ⊎_elim
    (λ s.
    let same = typing_same (types_in inputs t i) (types_in true t i) s.at e [] (types_for t a inputs i e reach) in
    typed_is_safe_law inputs (found_in t) state label following gives later (steps_of t) i s.at e
    (subst (λ (m : Typing). HasType m.type) (sym same) (sound_type (types_in true t i) e s)))
    (λ s.
    let named : (inputs || not (reaches_an_input t i (name s.0 s.1))) ≡ true = subst (λ z. (inputs || not (reaches_an_input t i z)) ≡ true) s.2 reach in
    let same = types_for t a inputs i (name s.0 s.1) named s.1 (inl refl) in
    let P : Tree → Type 0 =
    λ z. Safe (SafePath (found_in t) (steps_of t) state label i) (SafePath (found_in t) (steps_of t) following label i) (reading (found_in t) (steps_of t) state label i) (reading (found_in t) (steps_of t) following label i) z in
    subst P (sym s.2) (name_safe t c g inputs state label gives i s.1 s.3 same))
    (stands_sound t (names_have_types_from t c g) (checked_at t c w) i e stands)

-- ---- bodies

-- what is written in an instance reaches an input
abbrev pub local_reaches : List Instance → Local → Bool
local_reaches t (body_of j e) = reaches_an_input t j e
local_reaches t l = false

-- a body is evaluated safely, where a label is given or it reaches no input
pub body_is_safe : (t : List Instance) → IsChecked t → all_trees words_fit t ≡ true → (inputs : Bool) (state label : Valuation) → Gives inputs (found_in t) state label
    → (k : ℕ) (x : List ℕ) (j : ℕ) (e : Tree) → local t k x ≡ body_of j e → (inputs || not (reaches_an_input t j e)) ≡ true
    → Safe (SafePath (found_in t) (steps_of t) state label j) (SafePath (found_in t) (steps_of t) state label j) (values_in t state label j) (values_in t state label j) e
body_is_safe t c w inputs state label gives k x j e is reach =
    let a = acyclic t c in
    let placed : Placed t j in_body e = subst (LocalGood (Given t) (path_in (slice_get t k)) k x) is (local_given t (checked_at t c w) k x) in
    let typed = names_have_types_from t c (placing t c w) in
    let h : HasType (typing (types_in true t j) in_body e).type = has_type (types_in true t j) in_body e [] (λ q i f. typed j q (placed.paths q i) f) placed.words placed.checks in
    let same = typing_same (types_in inputs t j) (types_in true t j) in_body e [] (types_for t a inputs j e reach) in
    typed_is_safe_law inputs (found_in t) state label state gives gives (steps_of t) j in_body e (subst (λ (m : Typing). HasType m.type) (sym same) h)

no_input : (b : Bool) → not b ≡ true → b ≡ false
no_input true h = absurd_bool h
no_input false h = refl

-- where an expression reaches no input, neither does what its paths lead to
pub leads_clear : (t : List Instance) → Acyclic t → (inputs : Bool) (i : ℕ) (e : Tree) → (inputs || not (reaches_an_input t i e)) ≡ true
    → (k : ℕ) (x : List ℕ) → leads_to t i e k x ≡ true → (inputs || not (local_reaches t (local t k x))) ≡ true
leads_clear t a true i e h k x r = refl
leads_clear t a false i e h k x r =
    let w = any_in (λ q. is_body_of k x (found_in t i q)) (paths_of e []) r in
    let clear : (types_in true t i w.0).reaches_input ≡ false = any_false (λ z. (types_in true t i z).reaches_input) (paths_of e []) (no_input (reaches_an_input t i e) h) w.0 w.1 in
    ap not (by (found_in t i w.0) w.2 (all_under t (rank_of t) (ranking t a) i w.0) (ap (λ (m : Named). m.reaches_input) (sym (types_settle_law t a true i w.0)) ∙ clear))
  where
    by : (m : Found) → is_body_of k x m ≡ true → Under t (rank_of t) (steps_of t) m → (named_found true (types_in true t) m).reaches_input ≡ false → local_reaches t (local t k x) ≡ false
    by (body_at l y j b) s u f =
        let same : (l, y) ≡ (k, x) = same_is (l, y) (k, x) s in
        ap (λ (z : Body). local_reaches t (local t z.0 z.1)) (sym same) ∙ ap (local_reaches t) u.1 ∙ f
    by (variable_at y kind d) s u f = absurd_bool s
    by (instance_at l) s u f = absurd_bool s
    by (symbol_of y) s u f = absurd_bool s
    by cyclic s u f = absurd_bool s
    by none s u f = absurd_bool s

-- nor what is written in the bodies
pub local_clear : (t : List Instance) → Acyclic t → (inputs : Bool) (l : Local) → (inputs || not (local_reaches t l)) ≡ true
    → (k : ℕ) (x : List ℕ) → local_leads_to t l k x ≡ true → (inputs || not (local_reaches t (local t k x))) ≡ true
local_clear t a inputs (body_of j e) h k x r = leads_clear t a inputs j e h k x r
local_clear t a inputs (alias j path) h k x r = absurd_bool r
local_clear t a inputs (variable_of kind d) h k x r = absurd_bool r
local_clear t a inputs inner h k x r = absurd_bool r
local_clear t a inputs nothing h k x r = absurd_bool r

pub names_have_types_law : NamesHaveTypes
names_have_types_law t c w i path s f =
    names_have_types_from t c (placing t c w) i path s (ap (λ (m : Named). m.is_instance) (types_settle_law t (acyclic t c) true i path) ∙ named_instance t (found_in t i path) ∙ f)

name_has : (names : Path → Named) (p : Place) (x : Path) → (names x).is_instance ≡ false → HasType (names x).type → HasType (typing names in_body (name p x)).type
name_has names p x f h = by (names x).is_instance f
  where
    by : (b : Bool) → b ≡ false → HasType (if (not b && (true && true)) then (names x).type else None)
    by true e = absurd_bool (sym e)
    by false e = h

pub expressions_have_types_law : ExpressionsHaveTypes
expressions_have_types_law t c w i e stands =
    ⊎_elim (λ s. inl (s.at, sound_type (types_in true t i) e s)) (λ s. by s.0 s.1 s.2 s.3 (names_instance (found_in t i s.1)) refl)
    (stands_sound t (names_have_types_from t c (placing t c w)) (checked_at t c w) i e stands)
  where
    by : (p : Place) (x : Path) → e ≡ name p x → is_something (found_in t i x) ≡ true → (b : Bool) → names_instance (found_in t i x) ≡ b
        → ((at : Position) × HasType (typing (types_in true t i) at e).type) ⊎ ((p : Place) × (x : Path) × (e ≡ name p x) × (names_instance (found_in t i x) ≡ true))
    by p x same s true k = inr (p, x, same, k)
    by p x same s false k =
        let f : (types_in true t i x).is_instance ≡ false = ap (λ (m : Named). m.is_instance) (types_settle_law t (acyclic t c) true i x) ∙ named_instance t (found_in t i x) ∙ k in
        let h : HasType (typing (types_in true t i) in_body (name p x)).type = name_has (types_in true t i) p x f (names_have_types_law t c w i x s k) in
        inl (in_body, subst (λ z. HasType (typing (types_in true t i) in_body z).type) (sym same) h)
