-- The names of a script's variables and constants: they differ, and each means what it names.
use Rattle.std.proofs.Common.{◌≡◌, ◌≢◌, ℕ, zero, suc, ◌+◌, Bool, true, false, cond, List, [], ◌∷◌, ◌++◌, map, drop, Option, Some, option_map, refl, sym, ap, ◌∙◌, subst, arith}
use Rattle.std.specs.Prelude.{slice_get, codes}
use Rattle.std.specs.List.{AllByRecursion}
use Rattle.std.specs.Str.{bytes_eq}
use Rattle.std.proofs.lemmas.Option.{slice_get-map}
use Rattle.std.proofs.lemmas.Slice.Eq.{bytes_eq-Decides}
use Rattle.smv_meaning.specs.Instances.{Instance}
use Rattle.smv_items.specs.declared.items.ItemKind.{ItemKind}
use Rattle.smv_items.specs.declared.items.ItemKind.TheVariants.{State, Frozen, Input, Define, Actual}
use Rattle.smv_items.specs.FlatItems.{origins_of, path_of, PlainFlatItem, flat_item_of}
use Rattle.smv_flat.specs.FlatForms.{flat_of}
use Rattle.name_maps.specs.Names.{place_of}
use Rattle.moxi_terms.specs.declared.data.Sort.{Sort}
use Rattle.moxi_terms.specs.declared.data.Sort.TheVariants as sort
use Rattle.moxi_terms.specs.declared.data.Datum.TheVariants as datum
use Rattle.moxi_terms.specs.declared.data.Primes.{Primes}
use Rattle.moxi_terms.specs.declared.term.Variable.{Variable}
use Rattle.moxi_terms.specs.declared.term.Enumeration.{Enumeration}
use Rattle.moxi_terms.specs.declared.names.Meaning.{Meaning}
use Rattle.moxi_terms.specs.declared.names.Meaning.TheVariants as meaning
use Rattle.moxi_terms.specs.Words.{operators, indexed_operators, is_operator}
use Rattle.moxi_terms.specs.Names.{or_else, function_names}
use Rattle.moxi_terms.specs.Meanings.{value_named, bare_call, call_of}
use Rattle.moxi_terms.specs.Tree.{constant, variable}
use Rattle.moxi_term_reading.specs.declared.locals.Local.{Local}
use Rattle.moxi_term_reading.specs.Finding.{Found, first_of}
use Rattle.moxi_term_reading.specs.Reading.{Context, meaning_of, names_of}
use Rattle.moxi_term_reading.specs.Answer.{locals_of}
use Rattle.moxi_term_print.specs.Terms.{name_at, variable_names}
use Rattle.moxi_term_print.specs.WellScoped.{IsWellScoped, IsAllowedPrime}
use Rattle.smv_script.specs.Script.{Group, inputs, outputs, locals, items_in, kind_letter, variable_of, variables_in, place_of_item}
use Rattle.smv_script_laws.specs.PlaceLaws.{all_variables}
use Rattle.smv_script_laws.proofs.Places.{is_place_of_law}
use Rattle.smv_script_laws.specs.LetNames.{AreLetNames}
use Rattle.smv_script_laws.proofs.Applied.{ctx}
use Rattle.smv_script_laws.proofs.Bounds.{past_lets}
use Rattle.smv_script_laws.proofs.Leaves.{ItemsDiffer, one_item, some_inj}
use Rattle.moxi_scripts.proofs.WholeFormulas.{no_first}
use Rattle.name_maps.proofs.FreshNames.{AllDiffer, Lacks, all_joined, all_made, all_mapped, tells_apart}

mapped_at : {X Y : Type 0} (f : X → Y) (xs : List X) (k : ℕ) (y : Y) → slice_get (map f xs) k ≡ Some y → (x : X) × (slice_get xs k ≡ Some x) × (y ≡ f x)
mapped_at f [] k y h = cc
mapped_at f (x ∷ xs) zero y h = (x, refl, sym (some_inj (f x) y h))
mapped_at f (x ∷ xs) (suc k) y h = mapped_at f xs k y h

-- ---- lists whose elements differ

lacks_by : {X : Type 0} (x : X) (xs : List X) → ((k : ℕ) (y : X) → slice_get xs k ≡ Some y → y ≢ x) → Lacks xs x
lacks_by x [] h = tt
lacks_by x (y ∷ ys) h = (h 0 y refl, lacks_by x ys (λ k z e. h (suc k) z e))

pub differ_by : {X : Type 0} (xs : List X) → ((k l : ℕ) (x y : X) → slice_get xs k ≡ Some x → slice_get xs l ≡ Some y → x ≡ y → k ≡ l) → AllDiffer xs
differ_by [] h = tt
differ_by (x ∷ xs) h = (
  lacks_by x xs (λ k y e s. let z : 0 ≡ suc k = h 0 (suc k) x y refl e (sym s) in absurd (omega (arith, z))),
  differ_by xs (λ k l a b e f s. let z : suc k ≡ suc l = h (suc k) (suc l) a b e f s in let r : k ≡ l = omega (arith, z) in r),
)

-- ---- variables

-- the rest of a variable's name
after_letter : (k : ItemKind) (x : List ℕ) → drop 2 (kind_letter k ++ x) ≡ x
after_letter State x = refl
after_letter Frozen x = refl
after_letter Input x = refl
after_letter Define x = refl
after_letter Actual x = refl

-- the name is none that a `let` of a translation binds, and none of a value, an operator or a constant
pub record IsFree (name : List ℕ) : Type 0 where
  pub no_t : bytes_eq name (codes "t") ≡ false
  pub no_u : bytes_eq name (codes "u") ≡ false
  pub no_true : bytes_eq (codes "true") name ≡ false
  pub no_false : bytes_eq (codes "false") name ≡ false
  pub no_operator : is_operator name ≡ false
  pub true_apart : bytes_eq name (codes "true") ≡ false
  pub false_apart : bytes_eq name (codes "false") ≡ false
  pub no_constant : (s : List ℕ) → bytes_eq name (codes "c." ++ s) ≡ false
  pub constant_apart : (s : List ℕ) → bytes_eq (codes "c." ++ s) name ≡ false

letter_free : (k : ItemKind) (x : List ℕ) → IsFree (kind_letter k ++ x)
unfolding operators indexed_operators
letter_free State x = record { no_t = refl; no_u = refl; no_true = refl; no_false = refl; no_operator = refl; true_apart = refl; false_apart = refl; no_constant = λ s. refl; constant_apart = λ s. refl }
letter_free Frozen x = record { no_t = refl; no_u = refl; no_true = refl; no_false = refl; no_operator = refl; true_apart = refl; false_apart = refl; no_constant = λ s. refl; constant_apart = λ s. refl }
letter_free Input x = record { no_t = refl; no_u = refl; no_true = refl; no_false = refl; no_operator = refl; true_apart = refl; false_apart = refl; no_constant = λ s. refl; constant_apart = λ s. refl }
letter_free Define x = record { no_t = refl; no_u = refl; no_true = refl; no_false = refl; no_operator = refl; true_apart = refl; false_apart = refl; no_constant = λ s. refl; constant_apart = λ s. refl }
letter_free Actual x = record { no_t = refl; no_u = refl; no_true = refl; no_false = refl; no_operator = refl; true_apart = refl; false_apart = refl; no_constant = λ s. refl; constant_apart = λ s. refl }

pub all_free : (w : ℕ) (items : List PlainFlatItem) → AllByRecursion IsFree (variable_names (all_variables w items))
all_free w items =
    all_mapped IsFree (λ (v : Variable). v.name) (all_variables w items)
    (all_joined (λ (v : Variable). IsFree v.name) (variables_in w inputs items) (variables_in w outputs items ++ variables_in w locals items) (group inputs)
    (all_joined (λ (v : Variable). IsFree v.name) (variables_in w outputs items) (variables_in w locals items) (group outputs) (group locals)))
  where
    group : (g : Group) → AllByRecursion (λ (v : Variable). IsFree v.name) (variables_in w g items)
    group g = all_mapped (λ (v : Variable). IsFree v.name) (variable_of w) (items_in g items) (all_made (λ (m : PlainFlatItem). IsFree (kind_letter m.kind ++ m.name)) (λ m. letter_free m.kind m.name) (items_in g items))

module _ (t : List Instance) (w : ℕ) (fresh : ItemsDiffer t) where
  abbrev pub items : List PlainFlatItem
  items = (flat_of t).items

  abbrev pub vs : List Variable
  vs = all_variables w items

  -- two variables of one name are one
  pub variables_differ : AllDiffer (variable_names vs)
  variables_differ = differ_by (variable_names vs)
      (λ k l x y a b e.
      let p = mapped_at (λ (v : Variable). v.name) vs k x a in
      let q = mapped_at (λ (v : Variable). v.name) vs l y b in
      let i = is_place_of_law w items k p.0 p.1 in
      let j = is_place_of_law w items l q.0 q.1 in
      let m = mapped_at (flat_item_of t) (origins_of t) i.number i.item i.there in
      let n = mapped_at (flat_item_of t) (origins_of t) j.number j.item j.there in
      let first : x ≡ kind_letter i.item.kind ++ i.item.name = p.2 ∙ ap (λ (v : Variable). v.name) i.same in
      let second : y ≡ kind_letter j.item.kind ++ j.item.name = q.2 ∙ ap (λ (v : Variable). v.name) j.same in
      let names : i.item.name ≡ j.item.name = sym (after_letter i.item.kind i.item.name) ∙ ap (drop 2) (sym first ∙ e ∙ second) ∙ after_letter j.item.kind j.item.name in
      let paths : path_of t m.0 ≡ path_of t n.0 = sym (ap (λ (f : PlainFlatItem). f.name) m.2) ∙ names ∙ ap (λ (f : PlainFlatItem). f.name) n.2 in
      sym i.place ∙ ap (place_of_item items) (one_item t fresh i.number j.number m.0 n.0 m.1 n.1 paths) ∙ j.place)

-- ---- names of variables mean them

first_is : (n : ℕ) (vs : List Variable) (v : ℕ) (x : Variable) → AllDiffer (variable_names vs) → slice_get vs v ≡ Some x → first_of n (locals_of vs) x.name ≡ Some (let f : Found = record { number = n + v; sort = Some x.sort } in f)
first_is n [] v x d h = cc
first_is n (y ∷ ys) zero x d h =
    let e : y ≡ x = some_inj y x h in
    let same : bytes_eq x.name y.name ≡ true = (bytes_eq-Decides x.name y.name).1 (sym (ap (λ (v : Variable). v.name) e)) in
    let k : n ≡ n + 0 = omega arith in
    ap (λ b. cond b (Some (let f : Found = record { number = n; sort = Some y.sort } in f)) (first_of (suc n) (locals_of ys) x.name)) same
    ∙ ap (λ (v : Variable). Some (let f : Found = record { number = n; sort = Some v.sort } in f)) e ∙ ap (λ m. Some (let f : Found = record { number = m; sort = Some x.sort } in f)) k
first_is n (y ∷ ys) (suc v) x d h =
    let k : suc n + v ≡ n + suc v = omega arith in
    ap (λ b. cond b (Some (let f : Found = record { number = n; sort = Some y.sort } in f)) (first_of (suc n) (locals_of ys) x.name)) (tells_apart x.name y.name (apart ys v h d.0))
    ∙ first_is (suc n) ys v x d.1 h ∙ ap (λ m. Some (let f : Found = record { number = m; sort = Some x.sort } in f)) k
  where
    apart : (zs : List Variable) (v : ℕ) → slice_get zs v ≡ Some x → Lacks (variable_names zs) y.name → x.name ≢ y.name
    apart [] v h l = cc
    apart (z ∷ zs) zero h l = λ e. l.0 (ap (λ (v : Variable). v.name) (some_inj z x h) ∙ e)
    apart (z ∷ zs) (suc v) h l = apart zs v h l.1

name_of : (vs : List Variable) (v : ℕ) (x : Variable) → slice_get vs v ≡ Some x → name_at (names_of (locals_of vs)) v ≡ x.name
name_of [] v x h = cc
name_of (y ∷ ys) zero x h = ap (λ (v : Variable). v.name) (some_inj y x h)
name_of (y ∷ ys) (suc v) x h = name_of ys v x h

all_at : {X : Type 0} (P : X → Type 0) (xs : List X) (k : ℕ) (x : X) → AllByRecursion P xs → slice_get xs k ≡ Some x → P x
all_at P [] k x a h = cc
all_at P (y ∷ ys) zero x a h = subst P (some_inj y x h) a.0
all_at P (y ∷ ys) (suc k) x a h = all_at P ys k x a.1 h

named_at : (vs : List Variable) (v : ℕ) (x : Variable) → slice_get vs v ≡ Some x → slice_get (variable_names vs) v ≡ Some x.name
named_at vs v x h = slice_get-map (λ (y : Variable). y.name) vs v ∙ ap (option_map (λ (y : Variable). y.name)) h

variable_found : (c : Context) (name : List ℕ) (v : ℕ) (s : Sort) → first_of 0 c.variables name ≡ Some (let f : Found = record { number = v; sort = Some s } in f) → meaning_of c [] name ≡ Some (meaning.Variable v (Some s))
variable_found c name v s e =
    ap (λ (o : Option Found). or_else (option_map (λ (f : Found). meaning.Variable f.number f.sort) o) (or_else (value_named c.scope name) (call_of bare_call c.scope.functions (place_of (function_names c.scope) name)))) e

module _ (es : List Enumeration) (vs : List Variable) (primes : Primes) (free : AllByRecursion IsFree (variable_names vs)) where
  -- a variable's name means it, whatever is bound around
  pub variable_stands : AllDiffer (variable_names vs) → (bounds : List Local) → AreLetNames bounds → (v : ℕ) (x : Variable) (primed : Bool) → slice_get vs v ≡ Some x → IsAllowedPrime primes primed
      → IsWellScoped (ctx es (locals_of vs) primes) bounds (variable v primed) x.sort
  variable_stands differ bounds lets v x primed h p =
      let f = all_at IsFree (variable_names vs) v x.name free (named_at vs v x h) in (
        ap (meaning_of (ctx es (locals_of vs) primes) bounds) (name_of vs v x h)
            ∙ past_lets (ctx es (locals_of vs) primes) bounds lets x.name f.no_t f.no_u
            ∙ variable_found (ctx es (locals_of vs) primes) x.name v x.sort (first_is 0 vs v x differ h ∙ ap (λ m. Some (let f : Found = record { number = m; sort = Some x.sort } in f)) (let e : 0 + v ≡ v = omega arith in e)),
        p,
      )

  -- what a name means that is no variable's
  abbrev pub value_or : List ℕ → Option Meaning
  value_or name = or_else (value_named (ctx es (locals_of vs) primes).scope name) (call_of bare_call (ctx es (locals_of vs) primes).scope.functions (place_of (function_names (ctx es (locals_of vs) primes).scope) name))

  pub weaker : (P : List ℕ → Type 0) → ((x : List ℕ) → IsFree x → P x) → (xs : List (List ℕ)) → AllByRecursion IsFree xs → AllByRecursion P xs
  weaker P f [] h = tt
  weaker P f (x ∷ xs) h = (f x h.0, weaker P f xs h.1)

  pub no_variable : (name : List ℕ) → AllByRecursion (λ (other : List ℕ). bytes_eq name other ≡ false) (variable_names vs) → meaning_of (ctx es (locals_of vs) primes) [] name ≡ value_or name
  no_variable name a = ap (λ (o : Option Found). or_else (option_map (λ (f : Found). meaning.Variable f.number f.sort) o) (value_or name)) (no_first 0 vs name a)

  -- `true` and `false`
  pub truth_stands : (b : Bool) (bounds : List Local) → AreLetNames bounds → IsWellScoped (ctx es (locals_of vs) primes) bounds (constant (datum.Truth b)) sort.Truth
  truth_stands true bounds lets =
      (refl, past_lets (ctx es (locals_of vs) primes) bounds lets (codes "true") refl refl ∙ no_variable (codes "true") (weaker (λ (other : List ℕ). bytes_eq (codes "true") other ≡ false) (λ x f. f.no_true) (variable_names vs) free))
  truth_stands false bounds lets =
      (refl, past_lets (ctx es (locals_of vs) primes) bounds lets (codes "false") refl refl ∙ no_variable (codes "false") (weaker (λ (other : List ℕ). bytes_eq (codes "false") other ≡ false) (λ x f. f.no_false) (variable_names vs) free))
