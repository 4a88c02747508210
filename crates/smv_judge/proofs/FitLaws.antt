-- The variables of a row fit exactly where the state and the label do, and the first values of the types fit.
use Rattle.std.proofs.Common.{◌≡◌, ℕ, zero, suc, ◌+◌, ◌^◌, ◌<◌, Bool, true, false, not, ◌&&◌, ◌||◌, ◌==◌, nat_lt, nat_le, if◌then◌else◌, ℤ, int_le, List, [], ◌∷◌, ◌++◌, map, Option, Some, None, option_map, position, bytes_eq, refl, sym, ap, ◌∙◌, subst, arith}
use Rattle.std.specs.List.{slice_get, list_all}
use Rattle.std.proofs.lemmas.Option.{slice_get-map}
use Rattle.std.proofs.lemmas.Slice.Eq.{bytes_eq-Decides}
use Rattle.std.proofs.lemmas.Int.{ints}
use Rattle.std.proofs.Math.Nat.{one-le-pow}
use Rattle.std.proofs.lemmas.Bool.{lt-ltb}
use Rattle.smv_rows.proofs.Sets.{own}
use Rattle.name_maps.specs.Names.{place_of}
use Rattle.smv_text.specs.declared.tree.Member.{Member}
use Rattle.smv_text.specs.declared.tree.Member.TheVariants as OfMember
use Rattle.smv_text.specs.declared.tree.VarKind.{VarKind}
use Rattle.smv_text.specs.declared.tree.VarKind.TheVariants as OfVarKind
use Rattle.smv_text.specs.Tree.{PlainDomain, boolean, members, between, bits, instance}
use Rattle.smv_meaning.specs.declared.value.Value.{Value}
use Rattle.smv_meaning.specs.declared.value.Given.{Given}
use Rattle.word_core.specs.declared.word.TheConstants.{WIDEST}
use Rattle.smv_meaning.specs.Operators.{is_width}
use Rattle.smv_meaning.specs.declared.value.Value.TheVariants.{Bits}
use Rattle.smv_meaning.specs.Values.{Valuation, no_value, given, is_of_type, is_word_of, value_same, member_value, is_among}
use Rattle.smv_meaning.specs.Instances.{Instance}
use Rattle.smv_meaning.specs.Meaning.{is_input}
use Rattle.smv_meaning.specs.Types.{ExprType, integer_type, word_type}
use Rattle.smv_meaning.specs.Checks.{variable_type}
use Rattle.smv_meaning.specs.Owed.{HasType}
use Rattle.smv_meaning.specs.Runs.{state_fits, label_fits}
use Rattle.smv_meaning.specs.laws.Booleans.{both_true, two_true, absurd_bool}
use Rattle.smv_items.specs.declared.items.ItemKind.{ItemKind}
use Rattle.smv_items.specs.declared.items.ItemKind.TheVariants.{State, Frozen, Input, Define, Actual}
use Rattle.smv_items.specs.FlatItems.{Content, variable, definition, actual, Origin, origins_of, path_of, kind_of, type_or_truth, domain_members, PlainFlatItem, flat_item_of}
use Rattle.smv_flat.specs.FlatForms.{flat_of}
use Rattle.smv_flat.specs.FlatTruth.{Row, GivesKind, GivesItem}
use Rattle.smv_flat_laws.proofs.FlatPlaces.{position_cons}
use Rattle.smv_flat_laws.proofs.FlatRows.{item_there}
use Rattle.smv_judge.specs.Fits.{type_has, declared_has, item_fits, items_fit}
use Rattle.smv_judge.specs.Labels.{first_value, given_first, first_label}
use Rattle.smv_judge.proofs.Declared.{is_stated, IsDeclared, OriginDeclared, AllDeclared}
use Rattle.smv_accepted.proofs.Fitting.{content_fits, origin_fits, values_fit_so}

-- ---- one variable

-- a type that is there has the values of the declared one
picked_type : (b : Bool) (type : ExprType) (v : Value) → HasType (if b then Some type else None) → type_has (type_or_truth (if b then Some type else None)) v ≡ type_has type v
picked_type true type v h = refl
picked_type false type v h = absurd_bool h

pub domain_same : (d : PlainDomain) → is_stated d ≡ true → HasType (variable_type d) → (v : Value) → declared_has (type_or_truth (variable_type d)) (domain_members d) v ≡ is_of_type d v
domain_same boolean s h v = refl
domain_same (members []) s h v = absurd_bool s
domain_same (members (m ∷ ms)) s h v = refl
domain_same (between low high) s h v = picked_type _ (integer_type low high) v h
domain_same (bits n) s h v = picked_type _ (word_type n) v h
domain_same (instance m es) s h v = absurd_bool h

and_true : (b : Bool) → b ≡ (b && true)
and_true true = refl
and_true false = refl

not_input : VarKind → Bool
not_input k = not (is_input k)

item_same : (t : List Instance) (m : Origin) → IsDeclared m.content → (s l : Valuation) (v : Value) → GivesKind s l (path_of t m) v (kind_of m.content)
    → item_fits (flat_item_of t m) v ≡ (origin_fits (λ k. not (is_input k)) t s m && origin_fits is_input t l m)
item_same t m d s l v g = by m.content d g
  where
    by : (c : Content) → IsDeclared c → GivesKind s l (path_of t m) v (kind_of c)
        → item_fits (flat_item_of t (record { instance = m.instance; name = m.name; content = c })) v ≡ (content_fits (λ k. not (is_input k)) s (path_of t m) c && content_fits is_input l (path_of t m) c)
    by (variable OfVarKind.State d) h e = domain_same d h.0 h.1 v ∙ ap (is_of_type d) e ∙ and_true (is_of_type d (s (path_of t m)))
    by (variable OfVarKind.Frozen d) h e = domain_same d h.0 h.1 v ∙ ap (is_of_type d) e ∙ and_true (is_of_type d (s (path_of t m)))
    by (variable OfVarKind.Input d) h e = domain_same d h.0 h.1 v ∙ ap (is_of_type d) e
    by (definition j e) h g = refl
    by (actual j e) h g = refl

-- ---- all of them

swapped : (a b c d : Bool) → ((a && b) && (c && d)) ≡ ((a && c) && (b && d))
swapped true true c d = refl
swapped true false true d = refl
swapped true false false d = refl
swapped false b c d = refl

items_same : (t : List Instance) (s l : Valuation) (row : Row) (k : ℕ) (ms : List Origin) → AllDeclared ms
    → ((n : ℕ) (m : Origin) → slice_get ms n ≡ Some m → GivesKind s l (path_of t m) (row (k + n)) (kind_of m.content))
    → items_fit row k (map (flat_item_of t) ms) ≡ (list_all (origin_fits (λ j. not (is_input j)) t s) ms && list_all (origin_fits is_input t l) ms)
items_same t s l row k [] d g = refl
items_same t s l row k (m ∷ ms) d g =
    let z : k + 0 ≡ k = omega arith in
    let a = item_same t m d.0 s l (row k) (subst (λ n. GivesKind s l (path_of t m) (row n) (kind_of m.content)) z (g 0 m refl)) in
    let b = items_same t s l row (k + 1) ms d.1
    (λ n o h. let y : k + suc n ≡ (k + 1) + n = omega arith in subst (λ i. GivesKind s l (path_of t o) (row i) (kind_of o.content)) y (g (suc n) o h)) in
    ap (λ c. c && items_fit row (k + 1) (map (flat_item_of t) ms)) a
    ∙ ap (λ c. (origin_fits (λ j. not (is_input j)) t s m && origin_fits is_input t l m) && c) b
    ∙ swapped (origin_fits (λ j. not (is_input j)) t s m) (origin_fits is_input t l m) (list_all (origin_fits (λ j. not (is_input j)) t s) ms) (list_all (origin_fits is_input t l) ms)

pub fits_so : (t : List Instance) → AllDeclared (origins_of t) → (s l : Valuation) (row : Row) → ((k : ℕ) → GivesItem s l (row k) (slice_get (flat_of t).items k))
    → items_fit row 0 (flat_of t).items ≡ (state_fits t s && label_fits t l)
fits_so t d s l row g =
    items_same t s l row 0 (origins_of t) d
    (λ n m h. let z : n ≡ 0 + n = omega arith in subst (λ i. GivesKind s l (path_of t m) (row i) (kind_of m.content)) z (subst (GivesItem s l (row n)) (item_there t n m h) (g n)))
    ∙ ap (λ c. c && list_all (origin_fits is_input t l) (origins_of t)) (values_fit_so (λ k. not (is_input k)) t s)
    ∙ ap (λ c. state_fits t s && c) (values_fit_so is_input t l)

-- ---- first values

least : (z : ℤ) → int_le z z ≡ true
least z = by (int_le z z) refl
  where
    by : (b : Bool) → int_le z z ≡ b → b ≡ true
    by true e = refl
    by false e = absurd (omega (arith, ints, e))

same_member : (m : Member) → value_same (member_value m) (member_value m) ≡ true
same_member (OfMember.Symbol s) = (bytes_eq-Decides s s).1 refl
same_member (OfMember.Integer z) = two_true (int_le z z) (int_le z z) (least z) (least z)

first_of_list : (m : Member) (ms : List Member) → is_among (m ∷ ms) (member_value m) ≡ true
first_of_list m ms = ap (λ b. b || is_among ms (member_value m)) (same_member m)

first_between : (b : Bool) (low high : ℤ) → HasType (if b then Some (integer_type low high) else None) → (b ≡ true → int_le low high ≡ true)
    → is_of_type (between low high) (first_value (type_or_truth (if b then Some (integer_type low high) else None)) []) ≡ true
first_between true low high h f = two_true (int_le low low) (int_le low high) (least low) (f refl)
first_between false low high h f = absurd_bool h

positive : (n : ℕ) → 0 < 2 ^ n
positive n = one-le-pow n 2 (omega arith)

first_word : (b : Bool) (n : ℕ) → HasType (if b then Some (word_type n) else None) → (b ≡ true → is_width n ≡ true)
    → is_of_type (bits n) (first_value (type_or_truth (if b then Some (word_type n) else None)) []) ≡ true
first_word true n h f =
    let w = f refl in
    let b = both_true (nat_le 1 n) (nat_le n WIDEST) w in
    two_true (nat_le 1 n) _ b.0 (ap (λ c. is_word_of n (if c then Bits (record { width = n; bits = 0 }) else no_value)) w ∙ two_true (n == n) (nat_lt 0 (2 ^ n)) (own n) (lt-ltb 0 (2 ^ n) (positive n)))
first_word false n h f = absurd_bool h

pub first_fits : (d : PlainDomain) → is_stated d ≡ true → HasType (variable_type d) → is_of_type d (first_value (type_or_truth (variable_type d)) (domain_members d)) ≡ true
first_fits boolean s h = refl
first_fits (members []) s h = absurd_bool s
first_fits (members (m ∷ ms)) s h = first_of_list m ms
first_fits (between low high) s h = first_between _ low high h (λ e. (both_true _ (int_le low high) e).1)
first_fits (bits n) s h = first_word _ n h (λ e. (both_true (is_width n) true e).0)
first_fits (instance m es) s h = absurd_bool h

-- ---- the label of first values

bytes_apart : (x y : List ℕ) → bytes_eq x y ≡ false → bytes_eq y x ≡ false
bytes_apart x y h = by (bytes_eq y x) refl
  where
    by : (b : Bool) → bytes_eq y x ≡ b → bytes_eq y x ≡ false
    by false e = e
    by true e = let s : y ≡ x = (bytes_eq-Decides y x).0 e in absurd_bool (sym h ∙ (bytes_eq-Decides x y).1 (sym s))

past_other : (m : PlainFlatItem) (kind : ItemKind) (gs : List Given) (x : List ℕ) → bytes_eq m.name x ≡ false → given (given_first m kind ++ gs) x ≡ given gs x
past_other m Input gs x h = ap (λ b. if b then first_value m.type m.members else given gs x) h
past_other m State gs x h = refl
past_other m Frozen gs x h = refl
past_other m Define gs x h = refl
past_other m Actual gs x h = refl

own_first : (m : PlainFlatItem) (kind : ItemKind) (gs : List Given) → kind ≡ Input → given (given_first m kind ++ gs) m.name ≡ first_value m.type m.members
own_first m kind gs e =
    ap (λ k. given (given_first m k ++ gs) m.name) e ∙ ap (λ b. if b then first_value m.type m.members else given gs m.name) ((bytes_eq-Decides m.name m.name).1 refl)

suc_some : (o : Option ℕ) (n : ℕ) → option_map suc o ≡ Some (suc n) → o ≡ Some n
suc_some None n h = cc
suc_some (Some k) n h = cc

first_at : (items : List PlainFlatItem) (k : ℕ) (m : PlainFlatItem) → slice_get items k ≡ Some m → m.kind ≡ Input → position (bytes_eq m.name) (map (λ i. i.name) items) ≡ Some k
    → given (first_label items) m.name ≡ first_value m.type m.members
first_at [] k m h e p = cc
first_at (a ∷ more) zero m h e p =
    let s : a ≡ m = cc in
    subst (λ (z : PlainFlatItem). given (given_first z z.kind ++ first_label more) m.name ≡ first_value m.type m.members) (sym s) (own_first m m.kind (first_label more) e)
first_at (a ∷ more) (suc n) m h e p = by (bytes_eq m.name a.name) refl (sym (position_cons (bytes_eq m.name) a.name (map (λ (i : PlainFlatItem). i.name) more)) ∙ p) (λ q. first_at more n m h e q)
  where
    by : (b : Bool) → bytes_eq m.name a.name ≡ b → (if bytes_eq m.name a.name then Some 0 else option_map suc (position (bytes_eq m.name) (map (λ (i : PlainFlatItem). i.name) more))) ≡ Some (suc n)
        → (position (bytes_eq m.name) (map (λ (i : PlainFlatItem). i.name) more) ≡ Some n → given (first_label more) m.name ≡ first_value m.type m.members)
        → given (given_first a a.kind ++ first_label more) m.name ≡ first_value m.type m.members
    by true is q rest =
        let z : Some 0 ≡ Some (suc n) = sym (ap (λ b. if b then Some 0 else option_map suc (position (bytes_eq m.name) (map (λ (i : PlainFlatItem). i.name) more))) is) ∙ q in cc
    by false is q rest =
        past_other a a.kind (first_label more) m.name (bytes_apart m.name a.name is)
        ∙ rest (suc_some (position (bytes_eq m.name) (map (λ (i : PlainFlatItem). i.name) more)) n (sym (ap (λ b. if b then Some 0 else option_map suc (position (bytes_eq m.name) (map (λ (i : PlainFlatItem). i.name) more))) is) ∙ q))

all_from : (p : Origin → Bool) (ms : List Origin) → ((k : ℕ) (m : Origin) → slice_get ms k ≡ Some m → p m ≡ true) → list_all p ms ≡ true
all_from p [] h = refl
all_from p (m ∷ ms) h = two_true (p m) (list_all p ms) (h 0 m refl) (all_from p ms (λ k o g. h (suc k) o g))

declared_at : (ms : List Origin) (k : ℕ) (m : Origin) → AllDeclared ms → slice_get ms k ≡ Some m → IsDeclared m.content
declared_at [] k m d h = cc
declared_at (o ∷ ms) zero m d h = let s : o ≡ m = cc in subst OriginDeclared s d.0
declared_at (o ∷ ms) (suc k) m d h = declared_at ms k m d.1 h

pub names_same : (t : List Instance) (ms : List Origin) → map (λ i. i.name) (map (flat_item_of t) ms) ≡ map (path_of t) ms
names_same t [] = refl
names_same t (m ∷ ms) = ap (λ xs. path_of t m ∷ xs) (names_same t ms)

pub first_label_fits : (t : List Instance) → AllDeclared (origins_of t)
    → ((k : ℕ) (x : List ℕ) → slice_get (map (path_of t) (origins_of t)) k ≡ Some x → place_of (map (path_of t) (origins_of t)) x ≡ Some k)
    → label_fits t (given (first_label (flat_of t).items)) ≡ true
first_label_fits t d once =
    sym (values_fit_so is_input t (given (first_label (flat_of t).items)))
    ∙ all_from (origin_fits is_input t (given (first_label (flat_of t).items))) (origins_of t) (λ k m h. by k m h m.content refl (declared_at (origins_of t) k m d h))
  where
    by : (k : ℕ) (m : Origin) → slice_get (origins_of t) k ≡ Some m → (c : Content) → m.content ≡ c → IsDeclared c
        → content_fits is_input (given (first_label (flat_of t).items)) (path_of t m) c ≡ true
    by k m h (variable OfVarKind.State d) e g = refl
    by k m h (variable OfVarKind.Frozen d) e g = refl
    by k m h (variable OfVarKind.Input d) e g =
        let x = path_of t m in
        let named : slice_get (map (path_of t) (origins_of t)) k ≡ Some x = slice_get-map (path_of t) (origins_of t) k ∙ ap (option_map (path_of t)) h in
        let placed : position (bytes_eq x) (map (λ (i : PlainFlatItem). i.name) (flat_of t).items) ≡ Some k =
        ap (position (bytes_eq x)) (names_same t (origins_of t)) ∙ once k x named in
        let kind : (flat_item_of t m).kind ≡ Input = ap kind_of e in
        let v = first_at (flat_of t).items k (flat_item_of t m) (item_there t k m h) kind placed in
        let w : first_value (flat_item_of t m).type (flat_item_of t m).members ≡ first_value (type_or_truth (variable_type d)) (domain_members d) =
        ap (λ c. first_value (flat_item_of t (record { instance = m.instance; name = m.name; content = c })).type (flat_item_of t (record { instance = m.instance; name = m.name; content = c })).members) e in
        ap (is_of_type d) (v ∙ w) ∙ first_fits d g.0 g.1
    by k m h (definition j b) e g = refl
    by k m h (actual j b) e g = refl
