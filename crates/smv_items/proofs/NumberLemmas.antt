-- The first place of an item in a list that grows.
use Rattle.std.proofs.Common.{◌≡◌, ℕ, zero, suc, get_or, ◌+◌, ◌<◌, ◌≤◌, ◌^◌, ◌==◌, Bool, true, false, ◌&&◌, if◌then◌else◌, List, [], ◌∷◌, ◌++◌, map, take, length, position, Option, Some, None, is_none, not, Result, Ok, Err, OnOk, IfSome, bytes_eq, refl, sym, ap, ◌∙◌, subst, arith}
use Rattle.std.specs.Prelude.{slice_index_or}
use Rattle.std.proofs.lemmas.List.{length-map, map-append, length-take-le, take_all}
use Rattle.std.proofs.Math.Numerals.{add-one}
use Rattle.std.proofs.Math.Seq.{take-suc}
use Rattle.std.proofs.lemmas.Bool.{eqb-true}
use Rattle.std.proofs.lemmas.List.Quantifiers.{position-Some}
use Rattle.std.proofs.lemmas.Slice.Eq.{bytes_eq-Decides}
use Rattle.std.specs.Option.{option_or}
use Rattle.smv_text.specs.declared.tree.VarKind.{VarKind}
use Rattle.smv_text.specs.declared.tree.VarKind.TheVariants as OfVarKind
use Rattle.smv_text.specs.Tree.{Tree, PlainDomain}
use Rattle.smv_meaning.specs.Instances.{Instance}
use Rattle.smv_meaning.specs.Names.{Found, variable_at, body_at, dotted_at}
use Rattle.smv_meaning.specs.laws.Booleans.{both_true}
use Rattle.smv_meaning.specs.Meaning.{is_input}
use Rattle.name_maps.specs.declared.instance_rows.InstanceRows.{InstanceRows}
use Rattle.name_maps.specs.declared.rows.NameRows.{NameRows}
use Rattle.name_maps.specs.Rows.{row_named, row_in}
use Rattle.smv_instances.specs.laws.ChildLemmas.{position_push}
use Rattle.smv_items.specs.declared.origins.Origin.{Origin as StoredOrigin}
use Rattle.smv_items.specs.declared.numbers.ItemNumbers.{ItemNumbers}
use Rattle.smv_items.specs.declared.numbers.PathNumbers.{PathNumbers}
use Rattle.smv_items.specs.declared.numbers.VariableNumber.{VariableNumber}
use Rattle.smv_items.specs.FlatItems.{is_variable_as, path_of, origins_of, is_item, item_leaf, leaf_found}
use Rattle.smv_items.specs.FlatOrigins.{origin_plain, content_plain, is_body_at, path_number, number_as, number_kept, AreBodies, AreVariables, ArePathNumbers, AreInstanceNumbers, AreNumbers, IsNoted, ArePathsNoted, IsItemNoted}

-- once one more is there
with_item : {X Y : Type 0} (f : X → Y) (p : Y → Bool) (xs : List X) (k n : ℕ) (x : X) (o new : Option ℕ) → n ≡ length xs → k < n → x ≡ slice_index_or xs k x
    → o ≡ position p (map f (take k xs)) → new ≡ (if is_none o && p (f x) then Some k else o) → new ≡ position p (map f (take (k + 1) xs))
with_item f p xs k n x o new e h is s g =
    let a : take (k + 1) xs ≡ take k xs ++ x ∷ [] = rw add-one (take-suc xs k x (omega (arith, e, h)) ∙ ap (λ y. take k xs ++ y ∷ []) (sym is)) in
    let b : map f (take (k + 1) xs) ≡ map f (take k xs) ++ f x ∷ [] = ap (map f) a ∙ map-append f (take k xs) (x ∷ []) in
    let l : length (map f (take k xs)) ≡ k = length-map (take k xs) f ∙ length-take-le k xs (omega (arith, e, h)) in
    g ∙ ap (λ q. if is_none q && p (f x) then Some k else q) s
    ∙ ap (λ m. if is_none (position p (map f (take k xs))) && p (f x) then Some m else position p (map f (take k xs))) (sym l)
    ∙ sym (position_push p (map f (take k xs)) (f x)) ∙ ap (position p) (sym b)

both_at : {X Y : Type 0} (f : X → Y) (xs : List X) (ys : List Y) (k : ℕ) (x : X) (y : Y) → ys ≡ map f xs → k < length xs → x ≡ get_or xs k x → y ≡ get_or ys k y → y ≡ f x
both_at f [] ys k x y e h a b = absurd (omega arith)
both_at f (z ∷ xs) [] k x y e h a b = cc
both_at f (z ∷ xs) (w ∷ ys) zero x y e h a b = cc
both_at f (z ∷ xs) (w ∷ ys) (suc k) x y e h a b =
    let rest : ys ≡ map f xs = cc in
    both_at f xs ys k x y rest (omega arith) a b

map_map : {X Y Z : Type 0} (g : Y → Z) (f : X → Y) (xs : List X) → map g (map f xs) ≡ map (λ x. g (f x)) xs
map_map g f [] = refl
map_map g f (x ∷ xs) = ap (λ ys. g (f x) ∷ ys) (map_map g f xs)

-- the dotted path of an item
path_at : (t : List Instance) (xs : List StoredOrigin) (paths : List (List ℕ)) (k : ℕ) (o : StoredOrigin) (p : List ℕ) → paths ≡ map (path_of t) (map origin_plain xs) → k < length xs → o ≡ get_or xs k o
    → p ≡ get_or paths k p → p ≡ path_of t (origin_plain o)
path_at t xs paths k o p e h a g = both_at (λ m. path_of t (origin_plain m)) xs paths k o p (e ∙ map_map (path_of t) origin_plain xs) h a g

-- all items
pub all_noted : (t : List Instance) (xs : List StoredOrigin) (k : ℕ) (ns : ItemNumbers) → length xs ≤ k → AreNumbers t (map origin_plain (take k xs)) ns → AreNumbers t (map origin_plain xs) ns
all_noted t xs k ns h w = subst (λ l. AreNumbers t (map origin_plain l) ns) (take_all k xs h) w

variable_noted : (t : List Instance) (kind : VarKind) (xs : List StoredOrigin) (k : ℕ) (o : StoredOrigin) (p : List ℕ) (old new : NameRows ℕ) → k < length xs → o ≡ slice_index_or xs k o → p ≡ path_of t (origin_plain o)
    → IsNoted (is_variable_as kind (content_plain o.content)) p k old new → AreVariables t kind (map origin_plain (take k xs)) old → AreVariables t kind (map origin_plain (take (k + 1) xs)) new
variable_noted t kind xs k o p old new h a f n w x =
    with_item origin_plain (λ m. is_variable_as kind m.content && bytes_eq (path_of t m) x) xs k (length xs) o (row_named old x) (row_named new x) refl h a (w x)
    (n x ∙ ap (λ z. if is_none (row_named old x) && (is_variable_as kind (content_plain o.content) && bytes_eq z x) then Some k else row_named old x) f)

-- one item more
pub item_noted : (t : List Instance) (xs : List StoredOrigin) (paths : List (List ℕ)) (k : ℕ) (o : StoredOrigin) (p q : List ℕ) (old new : ItemNumbers) → paths ≡ map (path_of t) (map origin_plain xs)
    → k < length xs → o ≡ get_or xs k o → p ≡ get_or paths k p → q ≡ p → IsItemNoted (origin_plain o) q k old new → AreNumbers t (map origin_plain (take k xs)) old → AreNumbers t (map origin_plain (take (k + 1) xs)) new
item_noted t xs paths k o p q old new e h a g i n w =
    let f : q ≡ path_of t (origin_plain o) = i ∙ path_at t xs paths k o p e h a g in
    record {
      bodies = λ j x. with_item origin_plain (is_body_at j x) xs k (length xs) o (row_in old.bodies j x) (row_in new.bodies j x) refl h a (w.bodies j x) (n.bodies j x);
      paths = record {
        states = variable_noted t OfVarKind.State xs k o q old.paths.states new.paths.states h a f n.states w.paths.states;
        inputs = variable_noted t OfVarKind.Input xs k o q old.paths.inputs new.paths.inputs h a f n.inputs w.paths.inputs;
      };
      variables = n.variables t f w.variables;
    }

-- ---- what a path becomes

variable_place : (t : List Instance) (ns : PathNumbers) → ArePathNumbers t (origins_of t) ns → (kind : VarKind) (y : List ℕ) (d : PlainDomain)
    → path_number ns (is_input kind) y ≡ position (is_item t (variable_at y kind d)) (origins_of t)
variable_place t ns h OfVarKind.State y d = h.states y
variable_place t ns h OfVarKind.Frozen y d = h.states y
variable_place t ns h OfVarKind.Input y d = h.inputs y

pub variable_leaf : (t : List Instance) (ns : PathNumbers) → ArePathNumbers t (origins_of t) ns → (kind : VarKind) (y : List ℕ) (d : PlainDomain) (k : Option ℕ) (found : Found)
    → variable_at y kind d ≡ found → k ≡ path_number ns (is_input kind) y → item_leaf k ≡ leaf_found t found
variable_leaf t ns h kind y d k found e r = ap item_leaf (r ∙ variable_place t ns h kind y d) ∙ ap (leaf_found t) e

pub body_leaf : (t : List Instance) (ms : InstanceRows ℕ) → AreBodies (origins_of t) ms → (i : ℕ) (x : List ℕ) (j : ℕ) (e : Tree) (k : Option ℕ) (found : Found)
    → body_at i x j e ≡ found → k ≡ row_in ms i x → item_leaf k ≡ leaf_found t found
body_leaf t ms h i x j e k found s r = ap item_leaf (r ∙ h i x) ∙ ap (leaf_found t) s

own_kept : (c b : Bool) (k : ℕ) (f : Bool → Option ℕ) → Some k ≡ f b → option_or (number_kept c (Some (number_as b k))) (f c) ≡ f c
own_kept true true k f e = e
own_kept true false k f e = refl
own_kept false true k f e = refl
own_kept false false k f e = e

-- the number of one variable more
kept_more : (t : List Instance) (ns : PathNumbers) (was now : InstanceRows VariableNumber) (i : ℕ) (x p : List ℕ) (b : Bool) (k : ℕ) (v : VariableNumber) → p ≡ dotted_at t i x → Some k ≡ path_number ns b p → v ≡ number_as b k
    → AreInstanceNumbers t ns was → ((j : ℕ) (y : List ℕ) → row_in now j y ≡ (if i == j && bytes_eq x y then Some v else row_in was j y)) → AreInstanceNumbers t ns now
kept_more t ns was now i x p b k v ep ek ev h w c j y = ap (λ o. option_or (number_kept c o) (path_number ns c (dotted_at t j y))) (w j y) ∙ by (i == j && bytes_eq x y) refl
  where
    by : (d : Bool) → (i == j && bytes_eq x y) ≡ d → option_or (number_kept c (if d then Some v else row_in was j y)) (path_number ns c (dotted_at t j y)) ≡ path_number ns c (dotted_at t j y)
    by false e = h c j y
    by true e =
        let s = both_true (i == j) (bytes_eq x y) e in
        let there : Some k ≡ path_number ns b (dotted_at t j y) =
        ek ∙ ap (path_number ns b) (ep ∙ ap (λ n. dotted_at t n x) (eqb-true i j s.0) ∙ ap (dotted_at t j) ((bytes_eq-Decides x y).0 s.1)) in
        ap (λ u. option_or (number_kept c (Some u)) (path_number ns c (dotted_at t j y))) ev ∙ own_kept c b k (λ d. path_number ns d (dotted_at t j y)) there

-- ---- numbers that were kept before one more was noted

noted_on : (o new u : Option ℕ) (b : Bool) (k : ℕ) → new ≡ (if is_none o && b then Some k else o) → option_or u o ≡ o → option_or u new ≡ new
noted_on o new None b k e h = refl
noted_on None new (Some n) b k e h = cc
noted_on (Some m) new (Some n) b k e h = h ∙ sym e

kept_on : (t : List Instance) (is_input : Bool) (p : List ℕ) (k : ℕ) (old new : PathNumbers) → ArePathsNoted is_input p k old new → (m : InstanceRows VariableNumber) → AreInstanceNumbers t old m → AreInstanceNumbers t new m
kept_on t is_input p k old new n m w false i x =
    let y = dotted_at t i x in
    noted_on (row_named old.states y) (row_named new.states y) (number_kept false (row_in m i x)) (not is_input && bytes_eq p y) k (n.states y) (w false i x)
kept_on t is_input p k old new n m w true i x =
    let y = dotted_at t i x in
    noted_on (row_named old.inputs y) (row_named new.inputs y) (number_kept true (row_in m i x)) (is_input && bytes_eq p y) k (n.inputs y) (w true i x)

-- a variable is noted
pub number_kept_more : (t : List Instance) (old new : PathNumbers) (was now : InstanceRows VariableNumber) (o : StoredOrigin) (p : List ℕ) (b : Bool) (k n : ℕ) (v : VariableNumber) → p ≡ path_of t (origin_plain o)
    → ArePathsNoted b p k old new → path_number new b p ≡ Some n → v ≡ number_as b n → AreInstanceNumbers t old was
    → ((j : ℕ) (y : List ℕ) → row_in now j y ≡ (if o.instance == j && bytes_eq o.name.now y then Some v else row_in was j y)) → AreInstanceNumbers t new now
number_kept_more t old new was now o p b k n v ep noted en ev h w =
    kept_more t new was now o.instance o.name.now p b n v ep (sym en) ev (kept_on t b p k old new noted was h) w

pub on_ok : {A B : Type 0} {X E : Type 0} (r : Result X E) → (A → B) → OnOk r A → OnOk r B
on_ok (Ok x) f a = f a
on_ok (Err e) f a = tt

-- ---- numbers are places in lists

place_below : {X : Type 0} (p : X → Bool) (xs : List X) (n : ℕ) → position p xs ≡ Some n → n < length xs
place_below p [] n e = cc
place_below p (x ∷ xs) n e = (position-Some p (x ∷ xs) n x e).0

place_few : {X : Type 0} (p : X → Bool) (xs : List X) (k : Option ℕ) → length xs < 2 ^ 32 → k ≡ position p xs → IfSome k (λ n. n < 2 ^ 32)
place_few p xs None h e = tt
place_few p xs (Some n) h e = let b = place_below p xs n (sym e) in omega (arith, b, h)

pub variable_few : (t : List Instance) (ns : PathNumbers) → ArePathNumbers t (origins_of t) ns → length (origins_of t) < 2 ^ 32 → (is_input : Bool) (y : List ℕ) (k : Option ℕ) → k ≡ path_number ns is_input y
    → IfSome k (λ n. n < 2 ^ 32)
variable_few t ns h few true y k e = place_few (λ o. is_variable_as OfVarKind.Input o.content && bytes_eq (path_of t o) y) (origins_of t) k few (e ∙ h.inputs y)
variable_few t ns h few false y k e = place_few (λ o. is_variable_as OfVarKind.State o.content && bytes_eq (path_of t o) y) (origins_of t) k few (e ∙ h.states y)

pub body_few : (t : List Instance) (ms : InstanceRows ℕ) → AreBodies (origins_of t) ms → length (origins_of t) < 2 ^ 32 → (i : ℕ) (x : List ℕ) (k : Option ℕ) → k ≡ row_in ms i x → IfSome k (λ n. n < 2 ^ 32)
body_few t ms h few i x k e = place_few (is_body_at i x) (origins_of t) k few (e ∙ h i x)

pub symbol_few : (names : List (List ℕ)) → length names < 2 ^ 32 → (x : List ℕ) (k : Option ℕ) → k ≡ position (bytes_eq x) names → IfSome k (λ n. n < 2 ^ 32)
symbol_few names few x k e = place_few (bytes_eq x) names k few e
