-- A form that has a sort fails no test, by induction over the form.
use Rattle.std.proofs.Common.{◌≡◌, ℕ, Bool, true, false, cond, ◌&&◌, List, [], ◌∷◌, ◌++◌, Option, None, Some, Result, Ok, Err, refl, ap, ◌∙◌}
use Rattle.std.specs.Prelude.{codes, is_some, length, ◌*◌}
use Rattle.std.specs.List.{list_all}
use Rattle.std.specs.Option.{option_map}
use Rattle.std.proofs.lemmas.Bool.{and_parts}
use Rattle.std.proofs.lemmas.Option.{none-some}
use Rattle.text_core.specs.declared.place.Place.{Place}
use Rattle.text_core.specs.declared.place.Refusal.{Refusal}
use Rattle.word_core.specs.Words.{BitVector}
use Rattle.word_core.specs.Digits.{read_word}
use Rattle.moxi_sexpr.specs.declared.form.Atom.{Atom}
use Rattle.moxi_sexpr.specs.declared.form.Atom.TheVariants.{Symbol, Keyword, Numeral, Binary, Hex, Quote}
use Rattle.moxi_sexpr.specs.Tree as form
use Rattle.moxi_terms.specs.declared.data.Sort.{Sort}
use Rattle.moxi_terms.specs.declared.data.Sort.TheVariants.{Bits}
use Rattle.moxi_terms.specs.declared.data.Datum.TheVariants as datum
use Rattle.moxi_terms.specs.declared.data.Primes.{Primes}
use Rattle.moxi_terms.specs.declared.names.Meaning.{Meaning}
use Rattle.moxi_terms.specs.declared.names.Meaning.TheVariants as meaning
use Rattle.moxi_terms.specs.declared.names.Head.{Head}
use Rattle.moxi_terms.specs.Tree.{Tree, constant, variable, bound, call, no_trees, PlainFunction}
use Rattle.moxi_term_reading.specs.declared.heads.HeadFailure.{HeadFailure}
use Rattle.moxi_term_reading.specs.declared.locals.Local.{Local}
use Rattle.moxi_term_reading.specs.Forms.{place_in, symbol_of, is_word, is_primed}
use Rattle.moxi_term_reading.specs.SortReading.{index_of, only_numeral}
use Rattle.moxi_term_reading.specs.Reading as reading
use Rattle.moxi_term_reading.specs.Reading.{Arguments, Bindings, Context, Reading}

-- where it has a sort, no test of it fails
abbrev Passes : Reading → Type 0
Passes r = (s : Sort) → r.sort ≡ Some s → r.failures ≡ []

checked : (t : Tree) (o : Option Sort) (fs : List Refusal) → Passes (reading.checked_term t o fs)
checked t o [] s h = refl
checked t o (f ∷ fs) s h = absurd (none-some s h)

named : (primes : Primes) (p : Place) (primed : Bool) (m : Option Meaning) → Passes (reading.named_reading primes p primed m)
named primes p primed None s h = absurd (none-some s h)
named primes p primed (Some (meaning.Bound i o)) s h = checked (bound i) o (reading.prime_failures primed p) s h
named primes p primed (Some (meaning.Variable v o)) s h = checked (variable v primed) o (reading.variable_primes primes primed p) s h
named primes p primed (Some (meaning.Value d o)) s h = checked (constant d) (Some o) (reading.prime_failures primed p) s h
named primes p primed (Some (meaning.Call n o)) s h = checked (call n no_trees) (Some o) (reading.prime_failures primed p) s h

word : (p : Place) (o : Option BitVector) (fs : List Refusal) → Passes (reading.word_reading p o fs)
word p None fs s h = absurd (none-some s h)
word p (Some w) fs s h = checked (constant (datum.Bits w)) (Some (Bits w.width)) fs s h

atoms : (c : Context) (bounds : List Local) (p : Place) (a : Atom) → Passes (reading.atom_reading c bounds p a)
atoms c bounds p (Symbol name primed) s h = named c.primes p primed (reading.meaning_of c bounds name) s h
atoms c bounds p (Keyword name) s h = absurd (none-some s h)
atoms c bounds p (Numeral digits) s h = absurd (none-some s h)
atoms c bounds p (Binary digits) s h = word p (read_word (length digits) 2 digits) [] s h
atoms c bounds p (Hex digits) s h = word p (read_word (4 * length digits) 16 digits) [] s h
atoms c bounds p (Quote bytes) s h = absurd (none-some s h)

literals : (p : Place) (digits : List ℕ) (fs : List Refusal) (o : Option (List ℕ)) → Passes (reading.literal_reading p digits fs o)
literals p digits fs None s h = absurd (none-some s h)
literals p digits fs (Some width) s h = word p (read_word (index_of width) 10 digits) fs s h

literals_named : (p q : Place) (name : List ℕ) (fs : List Refusal) (o : Option (List ℕ)) (ts : form.Trees) → Passes (reading.literal_named p q name fs o ts)
literals_named p q name fs None ts s h = absurd (none-some s h)
literals_named p q name fs (Some digits) ts s h = literals p digits fs (only_numeral ts) s h

symbols : (p q : Place) (first : Bool) (r : Place) (o : Option (List ℕ × Bool)) (ts : form.Trees) → Passes (reading.symbol_underscored p q first r o ts)
symbols p q first r None ts s h = absurd (none-some s h)
symbols p q first r (Some x) ts s h = literals_named p q x.0 (reading.prime_failures first q ++ reading.prime_failures x.1 r) (reading.literal_digits x.0) ts s h

underscored : (p q : Place) (first : Bool) (ts : form.Trees) → Passes (reading.underscore_reading p q first ts)
underscored p q first form.no_trees s h = absurd (none-some s h)
underscored p q first (form.tree t ts) s h = symbols p q first (place_in t) (symbol_of t) ts s h

-- APPLICATIONS

-- a sort that rests on tests
unless_parts : (fs : List Refusal) (o : Option Sort) (s : Sort) → reading.unless_failed fs o ≡ Some s → (fs ≡ []) × (o ≡ Some s)
unless_parts [] o s h = (refl, h)
unless_parts (f ∷ fs) o s h = absurd (none-some s h)

-- where each of them has a sort, no test of them fails
abbrev AllPass : Arguments → Type 0
AllPass x = (ss : List Sort) → x.sorts ≡ Some ss → x.failures ≡ []

joined_parts : (a b : Option (List Sort)) (ss : List Sort) → reading.joined a b ≡ Some ss → (xs : List Sort) × (ys : List Sort) × (a ≡ Some xs) × (b ≡ Some ys)
joined_parts None b ss h = absurd (none-some ss h)
joined_parts (Some xs) None ss h = absurd (none-some ss h)
joined_parts (Some xs) (Some ys) ss h = (xs, ys, refl, refl)

one_sort : (o : Option Sort) (xs : List Sort) → option_map (λ (s : Sort). s ∷ []) o ≡ Some xs → (s : Sort) × (o ≡ Some s)
one_sort None xs h = absurd (none-some xs h)
one_sort (Some s) xs h = (s, refl)

both : (r : Reading) (x : Arguments) → Passes r → AllPass x → AllPass (reading.both_arguments (reading.argument r) x)
both r x f g ss h =
    let p = joined_parts (option_map (λ (s : Sort). s ∷ []) r.sort) x.sorts ss h in
    let o = one_sort r.sort p.0 p.2 in
    ap (λ fs. fs ++ x.failures) (f o.0 o.1) ∙ g p.1 p.3

applied_parts : (fs : List PlainFunction) (h : Head) (o : Option (List Sort)) (s : Sort) → reading.applied_sort fs h o ≡ Some s → (ss : List Sort) × (o ≡ Some ss)
applied_parts fs h None s e = absurd (none-some s e)
applied_parts fs h (Some ss) s e = (ss, refl)

applications : (fs : List PlainFunction) (p : Place) (primes : List Refusal) (h : Result Head HeadFailure) (x : Arguments) → AllPass x → Passes (reading.application fs p primes h x)
applications fs p primes (Err f) x g s e = absurd (none-some s e)
applications fs p primes (Ok h) x g s e =
    let tests = primes ++ reading.application_tests fs p h x in
    let u = unless_parts tests (reading.applied_sort fs h x.sorts) s e in
    let a = applied_parts fs h x.sorts s u.1 in
    ap (λ gs. gs ++ tests) (g a.0 a.1) ∙ u.0

-- BOUND VALUES

-- where each of them has a sort, no test of them fails
abbrev ValuesPass : Bindings → Type 0
ValuesPass x = list_all reading.has_sort x.locals ≡ true → x.failures ≡ []

known : (o : Option Sort) → is_some o ≡ true → (s : Sort) × (o ≡ Some s)
known None h = absurd (let g : false ≡ true = h in cc)
known (Some s) h = (s, refl)

value_bound : (p : Place) (t : form.Tree) (o : Option (List ℕ × Bool)) (r : Reading) → Passes r → ValuesPass (reading.binding_of p t o r)
value_bound p t None r f h = refl
value_bound p t (Some x) r f h = let k = known r.sort (and_parts (is_some r.sort) true h).0 in f k.0 k.1

all_parts : {A : Type 0} (p : A → Bool) (xs ys : List A) → list_all p (xs ++ ys) ≡ true → (list_all p xs ≡ true) × (list_all p ys ≡ true)
all_parts p [] ys h = (refl, h)
all_parts p (x ∷ xs) ys h =
    let a = and_parts (p x) (list_all p (xs ++ ys)) h in
    let b = all_parts p xs ys a.1 in
    (ap (λ c. c && list_all p xs) a.0 ∙ b.0, b.1)

both_bound : (x y : Bindings) → ValuesPass x → ValuesPass y → ValuesPass (reading.both_bindings x y)
both_bound x y f g h = let a = all_parts reading.has_sort x.locals y.locals h in ap (λ fs. fs ++ y.failures) (f a.0) ∙ g a.1

let_parts : (xs : List Local) (o : Option Sort) (s : Sort) → reading.let_sort xs o ≡ Some s → (list_all reading.has_sort xs ≡ true) × (o ≡ Some s)
let_parts xs o s h = by_test (list_all reading.has_sort xs) h
  where
    by_test : (b : Bool) → cond b o None ≡ Some s → (b ≡ true) × (o ≡ Some s)
    by_test true e = (refl, e)
    by_test false e = absurd (none-some s e)

front_nil : (xs ys : List Refusal) → xs ++ ys ≡ [] → xs ≡ []
front_nil [] ys h = refl
front_nil (x ∷ xs) ys h = absurd (cc)

lets : (tests : List Refusal) (x : Bindings) (r : Reading) → ValuesPass x → Passes r → Passes (reading.let_reading tests x r)
lets tests x r f g s h =
    let u = unless_parts (tests ++ x.shape) (reading.let_sort x.locals r.sort) s h in
    let l = let_parts x.locals r.sort s u.1 in
    let e : tests ≡ [] = front_nil tests x.shape u.0 in
    let shape : x.shape ≡ [] = ap (λ fs. fs ++ x.shape) (let g : [] ≡ tests = (cc) in g) ∙ u.0 in
    ap (λ fs. fs ++ (x.shape ++ (x.failures ++ r.failures))) e ∙ ap (λ fs. fs ++ (x.failures ++ r.failures)) shape ∙ ap (λ fs. fs ++ r.failures) (f l.0) ∙ g s l.1

by_head : (a b : Bool) (x y z : Reading) → Passes x → Passes y → Passes z → Passes (cond a x (cond b y z))
by_head true b x y z f g h = f
by_head false true x y z f g h = g
by_head false false x y z f g h = h

mutual
  pub sorted_passes : (c : Context) (bounds : List Local) (t : form.Tree) → Passes (reading.read c bounds t)
  sorted_passes c bounds (form.atom p a) s h = atoms c bounds p a s h
  sorted_passes c bounds (form.list p form.no_trees) s h = absurd (none-some s h)
  sorted_passes c bounds (form.list p (form.tree head ts)) s h =
      by_head (is_word (codes "let") head) (is_word (codes "_") head) (reading.read_let c bounds p (reading.head_primes head) ts) (reading.underscore_reading p (place_in head) (is_primed head) ts)
      (reading.application c.scope.functions p (reading.head_primes head) (reading.head_of c.scope p head) (reading.read_all c bounds ts))
      (let_passes c bounds p (reading.head_primes head) ts) (underscored p (place_in head) (is_primed head) ts)
      (applications c.scope.functions p (reading.head_primes head) (reading.head_of c.scope p head) (reading.read_all c bounds ts) (all_pass c bounds ts)) s h

  all_pass : (c : Context) (bounds : List Local) (ts : form.Trees) → AllPass (reading.read_all c bounds ts)
  all_pass c bounds form.no_trees ss h = refl
  all_pass c bounds (form.tree t ts) ss h = both (reading.read c bounds t) (reading.read_all c bounds ts) (sorted_passes c bounds t) (all_pass c bounds ts) ss h

  let_passes : (c : Context) (bounds : List Local) (p : Place) (primes : List Refusal) (ts : form.Trees) → Passes (reading.read_let c bounds p primes ts)
  let_passes c bounds p primes form.no_trees s h = absurd (none-some s h)
  let_passes c bounds p primes (form.tree (form.atom q a) us) s h = absurd (none-some s h)
  let_passes c bounds p primes (form.tree (form.list q bs) form.no_trees) s h = absurd (none-some s h)
  let_passes c bounds p primes (form.tree (form.list q bs) (form.tree body form.no_trees)) s h =
      lets (primes ++ reading.bindings_tests q bs) (reading.read_bindings c bounds q bs) (reading.read c (bounds ++ (reading.read_bindings c bounds q bs).locals) body)
      (values_pass c bounds q bs) (sorted_passes c (bounds ++ (reading.read_bindings c bounds q bs).locals) body) s h
  let_passes c bounds p primes (form.tree (form.list q bs) (form.tree body (form.tree u us))) s h = absurd (none-some s h)

  values_pass : (c : Context) (bounds : List Local) (q : Place) (bs : form.Trees) → ValuesPass (reading.read_bindings c bounds q bs)
  values_pass c bounds q form.no_trees h = refl
  values_pass c bounds q (form.tree b bs) h = both_bound (reading.read_binding c bounds q b) (reading.read_bindings c bounds q bs) (value_passes c bounds q b) (values_pass c bounds q bs) h

  value_passes : (c : Context) (bounds : List Local) (q : Place) (b : form.Tree) → ValuesPass (reading.read_binding c bounds q b)
  value_passes c bounds q (form.atom p a) h = refl
  value_passes c bounds q (form.list p form.no_trees) h = refl
  value_passes c bounds q (form.list p (form.tree x form.no_trees)) h = refl
  value_passes c bounds q (form.list p (form.tree x (form.tree t form.no_trees))) h = value_bound p x (symbol_of x) (reading.read c bounds t) (sorted_passes c bounds t) h
  value_passes c bounds q (form.list p (form.tree x (form.tree t (form.tree u us)))) h = refl
