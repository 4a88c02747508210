-- A form of which no test fails spells a term that has its sort, by induction over the form.
use Rattle.std.proofs.Common.{◌≡◌, ℕ, ◌+◌, Bool, true, false, cond, eqb, List, [], ◌∷◌, ◌++◌, length, Option, None, Some, Result, Ok, Err, refl, sym, ap, ◌∙◌, subst, arith}
use Rattle.std.specs.Prelude.{slice_get, codes, option_and_then, ◌*◌}
use Rattle.std.specs.Option.{option_map}
use Rattle.std.specs.Str.{bytes_eq}
use Rattle.text_core.specs.declared.place.Place.{Place}
use Rattle.text_core.specs.declared.place.Refusal.{Refusal}
use Rattle.word_core.specs.Words.{BitVector}
use Rattle.word_core.specs.Digits.{read_word}
use Rattle.moxi_sexpr.specs.declared.form.Atom.{Atom}
use Rattle.moxi_sexpr.specs.declared.form.Atom.TheVariants.{Symbol, Keyword, Numeral, Binary, Hex, Quote}
use Rattle.moxi_sexpr.specs.Lexing.{refusal}
use Rattle.moxi_sexpr.specs.Tree as form
use Rattle.moxi_terms.specs.declared.data.Sort.{Sort}
use Rattle.moxi_terms.specs.declared.data.Sort.TheVariants.{Truth, Bits, Choice}
use Rattle.moxi_terms.specs.declared.data.Datum.TheVariants as datum
use Rattle.moxi_terms.specs.declared.data.Primes.{Primes}
use Rattle.moxi_terms.specs.declared.data.Primes.TheVariants.{Allowed, Refused}
use Rattle.moxi_terms.specs.declared.names.Meaning.{Meaning}
use Rattle.moxi_terms.specs.declared.names.Meaning.TheVariants as meaning
use Rattle.moxi_terms.specs.declared.names.Head.{Head}
use Rattle.moxi_terms.specs.declared.names.Head.TheVariants as heads
use Rattle.moxi_term_reading.specs.declared.heads.HeadFailure.{HeadFailure}
use Rattle.moxi_term_reading.specs.declared.locals.Local.{Local}
use Rattle.moxi_terms.specs.Tree.{Tree, constant, variable, bound, call, no_trees, trees_of, PlainFunction, sorts_of}
use Rattle.moxi_terms.specs.Names.{or_else, function_names, constant_named, constant_numbers, all_constants}
use Rattle.name_maps.specs.Names.{place_of}
use Rattle.moxi_term_reading.specs.Forms.{place_in, symbol_of, is_word, is_primed}
use Rattle.moxi_terms.specs.Sorts.{IsOf}
use Rattle.moxi_terms.specs.Sorted.{HasSort, HaveSorts, IsUnprimed, AreUnprimed}
use Rattle.moxi_term_reading.specs.Reading as reading
use Rattle.moxi_terms.specs.Meanings as meanings
use Rattle.moxi_term_reading.specs.Finding as finding
use Rattle.moxi_term_reading.specs.Typing as typing
use Rattle.moxi_term_reading.specs.SortReading as sort_reading
use Rattle.moxi_term_reading.specs.Reading.{Context, Reading, Arguments, Bindings}
use Rattle.moxi_term_reading.specs.Finding.{Found}
use Rattle.moxi_term_reading.specs.declared.outcome.ReadTerm.{ReadTerm}
use Rattle.moxi_term_reading.specs.Answer.{IsRead}
use Rattle.moxi_term_reading.specs.WellSorted.{HaveKnownSorts, IsTerm, IsWellSorted, IsSortedTerm}
use Rattle.moxi_term_reading.specs.laws.Least.{least_none}
use Rattle.moxi_term_reading.specs.laws.SortedParts.{some_fails, none_in, stays, FoundIn, first_found, last_found, known_append, all_have_sorts, names_long, constant_is, read_is_word, tests_hold, call_fits, head_fails}
use Rattle.text_core.proofs.ListLaws.{no_length}

module _ (c : Context) (vars : List Sort) (of_vars : HaveKnownSorts c.variables vars) where
  checked_sorted : (ss : List Sort) (t : Tree) (s : Option Sort) (fs : List Refusal) (sort : Sort) → fs ≡ [] → s ≡ Some sort
      → HasSort c.scope.enumerations c.scope.functions vars ss t sort → (c.primes ≡ Refused → IsUnprimed t) → IsWellSorted c vars ss (reading.checked_term t s fs)
  checked_sorted ss t s fs sort h e g u = record { sort = sort; known = stays fs s h ∙ e; term = record { sorted = g; unprimed = u } }

  never : (ss : List Sort) (f : Refusal) (fs : List Refusal) (r : Reading) → f ∷ fs ≡ [] → IsWellSorted c vars ss r
  never ss f fs r h = absurd (some_fails f fs h)

  -- what a name stands for has its sort
  abbrev Fits : List Sort → Option Meaning → Type 0
  Fits ss None = Unit {0}
  Fits ss (Some (meaning.Bound i s)) = (sort : Sort) × (s ≡ Some sort) × (slice_get ss i ≡ Some sort)
  Fits ss (Some (meaning.Variable v s)) = (sort : Sort) × (s ≡ Some sort) × (slice_get vars v ≡ Some sort)
  Fits ss (Some (meaning.Value d s)) = IsOf c.scope.enumerations s d
  Fits ss (Some (meaning.Call n s)) = (f : PlainFunction) × (slice_get c.scope.functions n ≡ Some f) × (sorts_of f.parameters ≡ []) × (f.result ≡ s)

  either_fits : (ss : List Sort) (a b : Option Meaning) → Fits ss a → Fits ss b → Fits ss (or_else a b)
  either_fits ss None b h g = g
  either_fits ss (Some m) b h g = h

  bound_fits : (ss : List Sort) (o : Option Found) → FoundIn 0 ss o → Fits ss (option_map (λ (f : Found). meaning.Bound f.number f.sort) o)
  bound_fits ss None h = tt
  bound_fits ss (Some f) h = (h.1, h.4, ap (slice_get ss) (let e : f.number ≡ 0 + h.0 = h.2 in let e2 : f.number ≡ h.0 = omega arith in e2) ∙ h.3)

  variable_fits : (ss : List Sort) (o : Option Found) → FoundIn 0 vars o → Fits ss (option_map (λ (f : Found). meaning.Variable f.number f.sort) o)
  variable_fits ss None h = tt
  variable_fits ss (Some f) h = (h.1, h.4, ap (slice_get vars) (let e : f.number ≡ 0 + h.0 = h.2 in let e2 : f.number ≡ h.0 = omega arith in e2) ∙ h.3)

  constant_fits : (ss : List Sort) (k : Option ℕ) → Fits ss (option_map (λ (x : ℕ × ℕ). meaning.Value (datum.Constant x.0 x.1) (Choice x.0)) (option_and_then (slice_get (constant_numbers 0 c.scope.enumerations)) k))
  constant_fits ss None = tt
  constant_fits ss (Some k) = by_place (slice_get (constant_numbers 0 c.scope.enumerations) k) refl
    where
      by_place : (o : Option (ℕ × ℕ)) → slice_get (constant_numbers 0 c.scope.enumerations) k ≡ o → Fits ss (option_map (λ (x : ℕ × ℕ). meaning.Value (datum.Constant x.0 x.1) (Choice x.0)) o)
      by_place None e = tt
      by_place (Some x) e = (refl, constant_is c.scope.enumerations k x e)

  value_fits : (ss : List Sort) (name : List ℕ) → Fits ss (meanings.value_named c.scope name)
  value_fits ss name = by_true (bytes_eq name (codes "true")) (bytes_eq name (codes "false"))
    where
      by_true : (a b : Bool) → Fits ss (cond a (Some (meaning.Value (datum.Truth true) Truth)) (cond b (Some (meaning.Value (datum.Truth false) Truth))
          (option_map (λ (x : ℕ × ℕ). meaning.Value (datum.Constant x.0 x.1) (Choice x.0)) (constant_named c.scope name))))
      by_true true b = tt
      by_true false true = tt
      by_true false false = constant_fits ss (place_of (all_constants c.scope.enumerations) name)

  call_named : (ss : List Sort) (o : Option ℕ) → Fits ss (meanings.call_of meanings.bare_call c.scope.functions o)
  call_named ss None = tt
  call_named ss (Some n) = by_function (slice_get c.scope.functions n) refl
    where
      by_function : (o : Option PlainFunction) → slice_get c.scope.functions n ≡ o → Fits ss (meanings.bare_call n o)
      by_function None e = tt
      by_function (Some f) e = by_count (eqb (length f.parameters) 0) refl
        where
          by_count : (b : Bool) → eqb (length f.parameters) 0 ≡ b → Fits ss (cond b (Some (meaning.Call n f.result)) None)
          by_count true h = (f, e, no_length _ f.parameters h, refl)
          by_count false h = tt

  name_fits : (ls : List Local) (ss : List Sort) (name : List ℕ) → HaveKnownSorts ls ss → Fits ss (reading.meaning_of c ls name)
  name_fits ls ss name h =
      either_fits ss _ _ (bound_fits ss (finding.last_of 0 ls name) (last_found 0 ls ss name h))
      (either_fits ss _ _ (variable_fits ss (finding.first_of 0 c.variables name) (first_found 0 c.variables vars name of_vars))
      (either_fits ss _ _ (value_fits ss name) (call_named ss (place_of (function_names c.scope) name))))

  no_prime : (primes : Primes) (primed : Bool) (p : Place) → reading.variable_primes primes primed p ≡ [] → primes ≡ Refused → primed ≡ false
  no_prime Allowed primed p h e = absurd (cc)
  no_prime Refused true p h e = absurd (some_fails (refusal 7 p) [] h)
  no_prime Refused false p h e = refl

  named_sorted : (ss : List Sort) (p : Place) (primed : Bool) (m : Option Meaning) → Fits ss m → (reading.named_reading c.primes p primed m).failures ≡ []
      → IsWellSorted c vars ss (reading.named_reading c.primes p primed m)
  named_sorted ss p primed None f h = never ss (refusal 4 p) [] _ h
  named_sorted ss p primed (Some (meaning.Bound i s)) f h = checked_sorted ss (bound i) s _ f.0 h f.1 f.2 (λ e. tt)
  named_sorted ss p primed (Some (meaning.Variable v s)) f h = checked_sorted ss (variable v primed) s _ f.0 h f.1 f.2 (no_prime c.primes primed p h)
  named_sorted ss p primed (Some (meaning.Value d s)) f h = checked_sorted ss (constant d) (Some s) _ s h refl f (λ e. tt)
  named_sorted ss p primed (Some (meaning.Call n s)) f h =
      checked_sorted ss (call n no_trees) (Some s) _ s h refl (f.0, f.1, subst (HaveSorts c.scope.enumerations c.scope.functions vars ss no_trees) (sym f.2) tt, f.3) (λ e. tt)

  word_sorted : (ss : List Sort) (p : Place) (w base : ℕ) (digits : List ℕ) (fs : List Refusal) → (reading.word_reading p (read_word w base digits) fs).failures ≡ []
      → IsWellSorted c vars ss (reading.word_reading p (read_word w base digits) fs)
  word_sorted ss p w base digits fs h = by_word (read_word w base digits) refl h
    where
      by_word : (o : Option BitVector) → read_word w base digits ≡ o → (reading.word_reading p o fs).failures ≡ [] → IsWellSorted c vars ss (reading.word_reading p o fs)
      by_word None e h = never ss (refusal 8 p) [] _ h
      by_word (Some v) e h = checked_sorted ss (constant (datum.Bits v)) (Some (Bits v.width)) fs (Bits v.width) h refl (refl, read_is_word w base digits v e) (λ e. tt)

  atom_sorted : (ls : List Local) (ss : List Sort) (p : Place) (a : Atom) → HaveKnownSorts ls ss → (reading.atom_reading c ls p a).failures ≡ []
      → IsWellSorted c vars ss (reading.atom_reading c ls p a)
  atom_sorted ls ss p (Symbol name primed) k h = named_sorted ss p primed (reading.meaning_of c ls name) (name_fits ls ss name k) h
  atom_sorted ls ss p (Keyword name) k h = never ss (refusal 12 p) [] _ h
  atom_sorted ls ss p (Numeral digits) k h = never ss (refusal 12 p) [] _ h
  atom_sorted ls ss p (Binary digits) k h = word_sorted ss p (length digits) 2 digits [] h
  atom_sorted ls ss p (Hex digits) k h = word_sorted ss p (4 * length digits) 16 digits [] h
  atom_sorted ls ss p (Quote bytes) k h = never ss (refusal 12 p) [] _ h

  underscore_sorted : (ss : List Sort) (p q : Place) (first : Bool) (ts : form.Trees) → (reading.underscore_reading p q first ts).failures ≡ []
      → IsWellSorted c vars ss (reading.underscore_reading p q first ts)
  underscore_sorted ss p q first form.no_trees h = never ss (refusal 4 q) [] _ h
  underscore_sorted ss p q first (form.tree t ts) h = by_symbol (symbol_of t) h
    where
      by_width : (digits : List ℕ) (fs : List Refusal) (o : Option (List ℕ)) → (reading.literal_reading p digits fs o).failures ≡ [] → IsWellSorted c vars ss (reading.literal_reading p digits fs o)
      by_width digits fs None h = never ss (refusal 12 p) [] _ h
      by_width digits fs (Some width) h = word_sorted ss p (sort_reading.index_of width) 10 digits fs h

      by_digits : (name : List ℕ) (fs : List Refusal) (o : Option (List ℕ)) → (reading.literal_named p q name fs o ts).failures ≡ [] → IsWellSorted c vars ss (reading.literal_named p q name fs o ts)
      by_digits name fs None h = never ss _ [] _ h
      by_digits name fs (Some digits) h = by_width digits fs (sort_reading.only_numeral ts) h

      by_symbol : (o : Option (List ℕ × Bool)) → (reading.symbol_underscored p q first (place_in t) o ts).failures ≡ [] → IsWellSorted c vars ss (reading.symbol_underscored p q first (place_in t) o ts)
      by_symbol None h = never ss (refusal 4 q) [] _ h
      by_symbol (Some x) h = by_digits x.0 _ (reading.literal_digits x.0) h

  -- terms one behind the other
  record AreWellSorted (ss : List Sort) (x : Arguments) : Type 0 where
    pub sorts : List Sort
    pub known : x.sorts ≡ Some sorts
    pub sorted : HaveSorts c.scope.enumerations c.scope.functions vars ss (trees_of x.terms) sorts
    pub unprimed : c.primes ≡ Refused → AreUnprimed (trees_of x.terms)

  both_sorted : (ss : List Sort) (r : Reading) (x : Arguments) → IsWellSorted c vars ss r → AreWellSorted ss x → AreWellSorted ss (reading.both_arguments (reading.argument r) x)
  both_sorted ss r x h g = record {
    sorts = h.sort ∷ g.sorts;
    known = ap (λ o. reading.joined (option_map (λ s. s ∷ []) o) x.sorts) h.known ∙ ap (reading.joined (Some (h.sort ∷ []))) g.known;
    sorted = (h.term.sorted, g.sorted);
    unprimed = λ e. (h.term.unprimed e, g.unprimed e);
  }

  headed_sorted : (ss : List Sort) (h : Head) (x : Arguments) (g : AreWellSorted ss x) (s : Sort) → typing.head_sort c.scope.functions h g.sorts ≡ Ok s
      → HasSort c.scope.enumerations c.scope.functions vars ss (reading.headed h (trees_of x.terms)) s
  headed_sorted ss (heads.Operator o) x g s e = (g.sorts, g.sorted, e)
  headed_sorted ss (heads.Function n) x g s e =
      let f = call_fits (slice_get c.scope.functions n) g.sorts s e in
      (f.0, f.1, subst (HaveSorts c.scope.enumerations c.scope.functions vars ss (trees_of x.terms)) (sym f.2) g.sorted, f.3)

  headed_unprimed : (h : Head) (x : Arguments) → AreUnprimed (trees_of x.terms) → IsUnprimed (reading.headed h (trees_of x.terms))
  headed_unprimed (heads.Operator o) x u = u
  headed_unprimed (heads.Function n) x u = u

  application_sorted : (ss : List Sort) (p : Place) (primes : List Refusal) (h : Result Head HeadFailure) (x : Arguments) → (x.failures ≡ [] → AreWellSorted ss x)
      → (reading.application c.scope.functions p primes h x).failures ≡ [] → IsWellSorted c vars ss (reading.application c.scope.functions p primes h x)
  application_sorted ss p primes (Err f) x g e = absurd (head_fails p f (length x.terms) (none_in x.failures (reading.head_tests p f (length x.terms)) e).1)
  application_sorted ss p primes (Ok h) x g e =
      let e1 = none_in x.failures _ e in
      let e2 = none_in primes _ e1.1 in
      let a = g e1.0 in
      let t = tests_hold c.scope.functions p h (length x.terms) a.sorts (subst (λ o. reading.argument_tests c.scope.functions p h (length x.terms) o ≡ []) a.known e2.1) in
      record {
        sort = t.0;
        known = stays _ _ e1.1 ∙ ap (reading.applied_sort c.scope.functions h) a.known ∙ ap reading.sort_result t.1;
        term = record { sorted = headed_sorted ss h x a t.0 t.1; unprimed = λ e. headed_unprimed h x (a.unprimed e) };
      }

  -- what a `let` binds
  record AreBoundTo (ss : List Sort) (x : Bindings) : Type 0 where
    pub sorts : List Sort
    pub known : HaveKnownSorts x.locals sorts
    pub sorted : HaveSorts c.scope.enumerations c.scope.functions vars ss (trees_of x.terms) sorts
    pub unprimed : c.primes ≡ Refused → AreUnprimed (trees_of x.terms)

  nothing_bound : (ss : List Sort) (x : Bindings) → x.locals ≡ [] → x.terms ≡ [] → AreBoundTo ss x
  nothing_bound ss x h g = record {
    sorts = [];
    known = subst (λ ls. HaveKnownSorts ls []) (sym h) tt;
    sorted = subst (λ ts. HaveSorts c.scope.enumerations c.scope.functions vars ss (trees_of ts) []) (sym g) tt;
    unprimed = λ e. subst (λ ts. AreUnprimed (trees_of ts)) (sym g) tt;
  }

  sorted_append : (ss : List Sort) (ts us : List Tree) (s1 s2 : List Sort) → HaveSorts c.scope.enumerations c.scope.functions vars ss (trees_of ts) s1
      → HaveSorts c.scope.enumerations c.scope.functions vars ss (trees_of us) s2 → HaveSorts c.scope.enumerations c.scope.functions vars ss (trees_of (ts ++ us)) (s1 ++ s2)
  sorted_append ss [] us [] s2 h g = g
  sorted_append ss [] us (s ∷ s1) s2 h g = absurd h
  sorted_append ss (t ∷ ts) us [] s2 h g = absurd h
  sorted_append ss (t ∷ ts) us (s ∷ s1) s2 h g = (h.0, sorted_append ss ts us s1 s2 h.1 g)

  unprimed_append : (ts us : List Tree) → AreUnprimed (trees_of ts) → AreUnprimed (trees_of us) → AreUnprimed (trees_of (ts ++ us))
  unprimed_append [] us h g = g
  unprimed_append (t ∷ ts) us h g = (h.0, unprimed_append ts us h.1 g)

  bindings_both : (ss : List Sort) (x y : Bindings) → AreBoundTo ss x → AreBoundTo ss y → AreBoundTo ss (reading.both_bindings x y)
  bindings_both ss x y h g = record {
    sorts = h.sorts ++ g.sorts;
    known = known_append x.locals y.locals h.sorts g.sorts h.known g.known;
    sorted = sorted_append ss x.terms y.terms h.sorts g.sorts h.sorted g.sorted;
    unprimed = λ e. unprimed_append x.terms y.terms (h.unprimed e) (g.unprimed e);
  }

  binding_sorted : (ss : List Sort) (p : Place) (t : form.Tree) (o : Option (List ℕ × Bool)) (r : Reading) → (r.failures ≡ [] → IsWellSorted c vars ss r)
      → (reading.binding_of p t o r).shape ≡ [] → (reading.binding_of p t o r).failures ≡ [] → AreBoundTo ss (reading.binding_of p t o r)
  binding_sorted ss p t None r g h f = absurd (some_fails (refusal 12 p) [] h)
  binding_sorted ss p t (Some x) r g h f =
      let w = g f in
      record { sorts = w.sort ∷ []; known = (w.known, tt); sorted = (w.term.sorted, tt); unprimed = λ e. (w.term.unprimed e, tt) }

  let_sorted : (ls : List Local) (ss : List Sort) (tests : List Refusal) (x : Bindings) (r : Reading) → HaveKnownSorts ls ss → (x.shape ≡ [] → x.failures ≡ [] → AreBoundTo ss x)
      → ((ts : List Sort) → HaveKnownSorts (ls ++ x.locals) ts → r.failures ≡ [] → IsWellSorted c vars ts r) → (reading.let_reading tests x r).failures ≡ []
      → IsWellSorted c vars ss (reading.let_reading tests x r)
  let_sorted ls ss tests x r k g b e =
      let e1 = none_in tests _ e in
      let e2 = none_in x.shape _ e1.1 in
      let e3 = none_in x.failures r.failures e2.1 in
      let a = g e2.0 e3.0 in
      let w = b (ss ++ a.sorts) (known_append ls x.locals ss a.sorts k a.known) e3.1 in
      record {
        sort = w.sort;
        known = stays _ _ (ap (λ fs. fs ++ x.shape) e1.0 ∙ e2.0) ∙ ap (λ b. cond b r.sort None) (all_have_sorts x.locals a.sorts a.known) ∙ w.known;
        term = record { sorted = (a.sorts, names_long x.locals a.sorts a.known, a.sorted, w.term.sorted); unprimed = λ e. (a.unprimed e, w.term.unprimed e) };
      }

  mutual
    pub read_sorted : (ls : List Local) (ss : List Sort) (t : form.Tree) → HaveKnownSorts ls ss → (reading.read c ls t).failures ≡ [] → IsWellSorted c vars ss (reading.read c ls t)
    read_sorted ls ss (form.atom p a) k h = atom_sorted ls ss p a k h
    read_sorted ls ss (form.list p form.no_trees) k h = never ss (refusal 12 p) [] _ h
    read_sorted ls ss (form.list p (form.tree head ts)) k h =
        by_word (is_word (codes "let") head) (is_word (codes "_") head) (read_let_sorted ls ss p (reading.head_primes head) ts k) (underscore_sorted ss p (place_in head) (is_primed head) ts)
        (application_sorted ss p (reading.head_primes head) (reading.head_of c.scope p head) (reading.read_all c ls ts) (read_all_sorted ls ss ts k)) h
      where
        by_word : (a b : Bool) {r s t : Reading} → (r.failures ≡ [] → IsWellSorted c vars ss r) → (s.failures ≡ [] → IsWellSorted c vars ss s) → (t.failures ≡ [] → IsWellSorted c vars ss t)
            → (cond a r (cond b s t)).failures ≡ [] → IsWellSorted c vars ss (cond a r (cond b s t))
        by_word true b f g h e = f e
        by_word false true f g h e = g e
        by_word false false f g h e = h e

    read_all_sorted : (ls : List Local) (ss : List Sort) (ts : form.Trees) → HaveKnownSorts ls ss → (reading.read_all c ls ts).failures ≡ [] → AreWellSorted ss (reading.read_all c ls ts)
    read_all_sorted ls ss form.no_trees k h = record { sorts = []; known = refl; sorted = tt; unprimed = λ e. tt }
    read_all_sorted ls ss (form.tree t ts) k h =
        let e = none_in (reading.read c ls t).failures (reading.read_all c ls ts).failures h in
        both_sorted ss (reading.read c ls t) (reading.read_all c ls ts) (read_sorted ls ss t k e.0) (read_all_sorted ls ss ts k e.1)

    read_let_sorted : (ls : List Local) (ss : List Sort) (p : Place) (primes : List Refusal) (ts : form.Trees) → HaveKnownSorts ls ss → (reading.read_let c ls p primes ts).failures ≡ []
        → IsWellSorted c vars ss (reading.read_let c ls p primes ts)
    read_let_sorted ls ss p primes form.no_trees k h = never ss (refusal 12 p) [] _ h
    read_let_sorted ls ss p primes (form.tree (form.atom q a) us) k h = never ss (refusal 12 p) [] _ h
    read_let_sorted ls ss p primes (form.tree (form.list q bs) form.no_trees) k h = never ss (refusal 12 p) [] _ h
    read_let_sorted ls ss p primes (form.tree (form.list q bs) (form.tree body form.no_trees)) k h =
        let_sorted ls ss (primes ++ reading.bindings_tests q bs) (reading.read_bindings c ls q bs) (reading.read c (ls ++ (reading.read_bindings c ls q bs).locals) body) k
        (read_bindings_sorted ls ss q bs k) (λ us k e. read_sorted (ls ++ (reading.read_bindings c ls q bs).locals) us body k e) h
    read_let_sorted ls ss p primes (form.tree (form.list q bs) (form.tree body (form.tree u us))) k h = never ss (refusal 12 p) [] _ h

    read_bindings_sorted : (ls : List Local) (ss : List Sort) (q : Place) (bs : form.Trees) → HaveKnownSorts ls ss → (reading.read_bindings c ls q bs).shape ≡ []
        → (reading.read_bindings c ls q bs).failures ≡ [] → AreBoundTo ss (reading.read_bindings c ls q bs)
    read_bindings_sorted ls ss q form.no_trees k h f = nothing_bound ss reading.no_bindings refl refl
    read_bindings_sorted ls ss q (form.tree b bs) k h f =
        let e = none_in (reading.read_binding c ls q b).shape (reading.read_bindings c ls q bs).shape h in
        let g = none_in (reading.read_binding c ls q b).failures (reading.read_bindings c ls q bs).failures f in
        bindings_both ss (reading.read_binding c ls q b) (reading.read_bindings c ls q bs) (read_binding_sorted ls ss q b k e.0 g.0) (read_bindings_sorted ls ss q bs k e.1 g.1)

    read_binding_sorted : (ls : List Local) (ss : List Sort) (q : Place) (b : form.Tree) → HaveKnownSorts ls ss → (reading.read_binding c ls q b).shape ≡ []
        → (reading.read_binding c ls q b).failures ≡ [] → AreBoundTo ss (reading.read_binding c ls q b)
    read_binding_sorted ls ss q (form.atom p a) k h f = absurd (some_fails (refusal 12 q) [] h)
    read_binding_sorted ls ss q (form.list p form.no_trees) k h f = absurd (some_fails (refusal 12 p) [] h)
    read_binding_sorted ls ss q (form.list p (form.tree x form.no_trees)) k h f = absurd (some_fails (refusal 12 p) [] h)
    read_binding_sorted ls ss q (form.list p (form.tree x (form.tree t form.no_trees))) k h f =
        binding_sorted ss p x (symbol_of x) (reading.read c ls t) (λ e. read_sorted ls ss t k e) h f
    read_binding_sorted ls ss q (form.list p (form.tree x (form.tree t (form.tree u us)))) k h f = absurd (some_fails (refusal 12 p) [] h)

-- what the code reads, where it names no failing test
pub term_sorted : (c : Context) (vars : List Sort) (t : form.Tree) (r : ReadTerm) → HaveKnownSorts c.variables vars → IsRead (reading.read c [] t) r → r.failure ≡ None → IsSortedTerm c vars r
term_sorted c vars t r k g h =
    let w = read_sorted c vars k [] [] t tt (least_none (reading.read c [] t).failures (sym g.failure ∙ h)) in
    record {
      sort = w.sort;
      known = g.sort ∙ w.known;
      term = subst (λ u. IsTerm c.scope c.primes vars [] u w.sort) (sym g.term) w.term;
    }
