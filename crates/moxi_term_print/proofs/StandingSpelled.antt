-- The term of a form that can be printed binds names that can be spelled, by induction over the form.
use Rattle.std.proofs.Common.{◌≡◌, ℕ, Bool, true, false, not, cond, List, [], ◌∷◌, ◌++◌, length, Option, None, Some, Result, Ok, Err, refl, sym, ◌∙◌}
use Rattle.std.specs.Prelude.{codes, ◌*◌, ◌&&◌}
use Rattle.text_core.specs.declared.place.Place.{Place}
use Rattle.text_core.specs.declared.place.Refusal.{Refusal}
use Rattle.word_core.specs.Words.{BitVector}
use Rattle.word_core.specs.Digits.{read_word}
use Rattle.moxi_sexpr.specs.declared.form.Atom.{Atom}
use Rattle.moxi_sexpr.specs.declared.form.Atom.TheVariants.{Symbol, Keyword, Numeral, Binary, Hex, Quote}
use Rattle.moxi_sexpr.specs.declared.scan.Spelling.TheVariants as how
use Rattle.moxi_sexpr.specs.Atoms.{is_simple, may_appear}
use Rattle.moxi_sexpr.specs.Printing.{reserved_words, is_among, symbol_spelling, IsPrintable, ArePrintable}
use Rattle.moxi_sexpr.specs.Tree as form
use Rattle.moxi_terms.specs.declared.names.Meaning.{Meaning}
use Rattle.moxi_terms.specs.declared.names.Meaning.TheVariants as meaning
use Rattle.moxi_terms.specs.declared.names.Head.{Head}
use Rattle.moxi_terms.specs.declared.names.Head.TheVariants as heads
use Rattle.moxi_term_reading.specs.declared.heads.HeadFailure.{HeadFailure}
use Rattle.moxi_term_reading.specs.declared.locals.Local.{Local}
use Rattle.moxi_terms.specs.declared.data.Primes.{Primes}
use Rattle.moxi_terms.specs.Tree.{Tree, Trees, trees_of, PlainFunction}
use Rattle.moxi_term_reading.specs.Forms.{place_in, symbol_of, is_word, is_primed}
use Rattle.moxi_term_reading.specs.Reading as reading
use Rattle.moxi_term_reading.specs.SortReading as sort_reading
use Rattle.moxi_term_reading.specs.Reading.{Context, Reading, Arguments, Bindings, names_of}
use Rattle.moxi_term_print.specs.StandingNames.{IsSpellable, AreSpellable, NamesAreSpellable, AllNamesAreSpellable}

-- a prime does not change how a name can be spelled
pub primed_alike : (name : List ℕ) (primed : Bool) → may_appear (symbol_spelling name primed) name ≡ may_appear (symbol_spelling name false) name
primed_alike name primed = by_test (is_simple name && not (is_among name reserved_words))
  where
    by_test : (b : Bool) → may_appear (cond b (how.Bare primed) (how.Barred primed)) name ≡ may_appear (cond b (how.Bare false) (how.Barred false)) name
    by_test true = refl
    by_test false = refl

-- ATOMS

named_spelled : (primes : Primes) (p : Place) (primed : Bool) (m : Option Meaning) → NamesAreSpellable (reading.named_reading primes p primed m).term
named_spelled primes p primed None = tt
named_spelled primes p primed (Some (meaning.Bound i s)) = tt
named_spelled primes p primed (Some (meaning.Variable v s)) = tt
named_spelled primes p primed (Some (meaning.Value d s)) = tt
named_spelled primes p primed (Some (meaning.Call n s)) = tt

word_spelled : (p : Place) (o : Option BitVector) (fs : List Refusal) → NamesAreSpellable (reading.word_reading p o fs).term
word_spelled p None fs = tt
word_spelled p (Some w) fs = tt

atom_spelled : (c : Context) (ls : List Local) (p : Place) (a : Atom) → NamesAreSpellable (reading.atom_reading c ls p a).term
atom_spelled c ls p (Symbol name primed) = named_spelled c.primes p primed (reading.meaning_of c ls name)
atom_spelled c ls p (Binary digits) = word_spelled p (read_word (length digits) 2 digits) []
atom_spelled c ls p (Hex digits) = word_spelled p (read_word (4 * length digits) 16 digits) []
atom_spelled c ls p a = tt

width_spelled : (p : Place) (digits : List ℕ) (fs : List Refusal) (o : Option (List ℕ)) → NamesAreSpellable (reading.literal_reading p digits fs o).term
width_spelled p digits fs None = tt
width_spelled p digits fs (Some width) = word_spelled p (read_word (sort_reading.index_of width) 10 digits) fs

digits_spelled : (p q : Place) (name : List ℕ) (fs : List Refusal) (o : Option (List ℕ)) (ts : form.Trees) → NamesAreSpellable (reading.literal_named p q name fs o ts).term
digits_spelled p q name fs None ts = tt
digits_spelled p q name fs (Some digits) ts = width_spelled p digits fs (sort_reading.only_numeral ts)

symbol_spelled : (p q : Place) (first : Bool) (r : Place) (o : Option (List ℕ × Bool)) (ts : form.Trees) → NamesAreSpellable (reading.symbol_underscored p q first r o ts).term
symbol_spelled p q first r None ts = tt
symbol_spelled p q first r (Some x) ts = digits_spelled p q x.0 _ (reading.literal_digits x.0) ts

underscore_spelled : (p q : Place) (first : Bool) (ts : form.Trees) → NamesAreSpellable (reading.underscore_reading p q first ts).term
underscore_spelled p q first form.no_trees = tt
underscore_spelled p q first (form.tree t ts) = symbol_spelled p q first (place_in t) (symbol_of t) ts

-- APPLICATIONS AND BINDINGS

headed_spelled : (h : Head) (ts : Trees) → AllNamesAreSpellable ts → NamesAreSpellable (reading.headed h ts)
headed_spelled (heads.Operator o) ts h = h
headed_spelled (heads.Function n) ts h = h

application_spelled : (fs : List PlainFunction) (p : Place) (primes : List Refusal) (h : Result Head HeadFailure) (x : Arguments) → AllNamesAreSpellable (trees_of x.terms)
    → NamesAreSpellable (reading.application fs p primes h x).term
application_spelled fs p primes (Err f) x g = tt
application_spelled fs p primes (Ok h) x g = headed_spelled h (trees_of x.terms) g

spelled_append : (ts us : List Tree) → AllNamesAreSpellable (trees_of ts) → AllNamesAreSpellable (trees_of us) → AllNamesAreSpellable (trees_of (ts ++ us))
spelled_append [] us h g = g
spelled_append (t ∷ ts) us h g = (h.0, spelled_append ts us h.1 g)

names_spelled : (xs ys : List Local) → AreSpellable (names_of xs) → AreSpellable (names_of ys) → AreSpellable (names_of (xs ++ ys))
names_spelled [] ys h g = g
names_spelled (x ∷ xs) ys h g = (h.0, names_spelled xs ys h.1 g)

-- the names that are bound, and those in their values
abbrev BindsSpellable : Bindings → Type 0
BindsSpellable x = AreSpellable (names_of x.locals) × AllNamesAreSpellable (trees_of x.terms)

both_spelled : (x y : Bindings) → BindsSpellable x → BindsSpellable y → BindsSpellable (reading.both_bindings x y)
both_spelled x y h g = (names_spelled x.locals y.locals h.0 g.0, spelled_append x.terms y.terms h.1 g.1)

-- a symbol that can be printed has a name that can be spelled
abbrev CanBind : Option (List ℕ × Bool) → Type 0
CanBind None = Unit {0}
CanBind (Some x) = IsSpellable x.0

can_bind : (t : form.Tree) → IsPrintable t → CanBind (symbol_of t)
can_bind (form.atom p (Symbol name primed)) h = sym (primed_alike name primed) ∙ h
can_bind (form.atom p (Keyword name)) h = tt
can_bind (form.atom p (Numeral digits)) h = tt
can_bind (form.atom p (Binary digits)) h = tt
can_bind (form.atom p (Hex digits)) h = tt
can_bind (form.atom p (Quote bytes)) h = tt
can_bind (form.list p ts) h = tt

binding_spelled : (p : Place) (t : form.Tree) (o : Option (List ℕ × Bool)) (r : Reading) → CanBind o → NamesAreSpellable r.term → BindsSpellable (reading.binding_of p t o r)
binding_spelled p t None r h g = (tt, tt)
binding_spelled p t (Some x) r h g = ((h, tt), (g, tt))

-- FORMS

chosen_spelled : (a b : Bool) (r s t : Reading) → NamesAreSpellable r.term → NamesAreSpellable s.term → NamesAreSpellable t.term → NamesAreSpellable (cond a r (cond b s t)).term
chosen_spelled true b r s t f g h = f
chosen_spelled false true r s t f g h = g
chosen_spelled false false r s t f g h = h

mutual
  pub read_spelled : (c : Context) (ls : List Local) (t : form.Tree) → IsPrintable t → NamesAreSpellable (reading.read c ls t).term
  read_spelled c ls (form.atom p a) h = atom_spelled c ls p a
  read_spelled c ls (form.list p form.no_trees) h = tt
  read_spelled c ls (form.list p (form.tree head ts)) h =
      chosen_spelled (is_word (codes "let") head) (is_word (codes "_") head) (reading.read_let c ls p (reading.head_primes head) ts) (reading.underscore_reading p (place_in head) (is_primed head) ts)
      (reading.application c.scope.functions p (reading.head_primes head) (reading.head_of c.scope p head) (reading.read_all c ls ts)) (read_let_spelled c ls p (reading.head_primes head) ts h.1)
      (underscore_spelled p (place_in head) (is_primed head) ts)
      (application_spelled c.scope.functions p (reading.head_primes head) (reading.head_of c.scope p head) (reading.read_all c ls ts) (read_all_spelled c ls ts h.1))

  read_all_spelled : (c : Context) (ls : List Local) (ts : form.Trees) → ArePrintable ts → AllNamesAreSpellable (trees_of (reading.read_all c ls ts).terms)
  read_all_spelled c ls form.no_trees h = tt
  read_all_spelled c ls (form.tree t ts) h = (read_spelled c ls t h.0, read_all_spelled c ls ts h.1)

  read_let_spelled : (c : Context) (ls : List Local) (p : Place) (primes : List Refusal) (ts : form.Trees) → ArePrintable ts → NamesAreSpellable (reading.read_let c ls p primes ts).term
  read_let_spelled c ls p primes form.no_trees h = tt
  read_let_spelled c ls p primes (form.tree (form.atom q a) us) h = tt
  read_let_spelled c ls p primes (form.tree (form.list q bs) form.no_trees) h = tt
  read_let_spelled c ls p primes (form.tree (form.list q bs) (form.tree body form.no_trees)) h =
      let b = read_bindings_spelled c ls q bs h.0 in
      (b.0, b.1, read_spelled c (ls ++ (reading.read_bindings c ls q bs).locals) body h.1.0)
  read_let_spelled c ls p primes (form.tree (form.list q bs) (form.tree body (form.tree u us))) h = tt

  read_bindings_spelled : (c : Context) (ls : List Local) (q : Place) (bs : form.Trees) → ArePrintable bs → BindsSpellable (reading.read_bindings c ls q bs)
  read_bindings_spelled c ls q form.no_trees h = (tt, tt)
  read_bindings_spelled c ls q (form.tree b bs) h =
      both_spelled (reading.read_binding c ls q b) (reading.read_bindings c ls q bs) (read_binding_spelled c ls q b h.0) (read_bindings_spelled c ls q bs h.1)

  read_binding_spelled : (c : Context) (ls : List Local) (q : Place) (b : form.Tree) → IsPrintable b → BindsSpellable (reading.read_binding c ls q b)
  read_binding_spelled c ls q (form.atom p a) h = (tt, tt)
  read_binding_spelled c ls q (form.list p form.no_trees) h = (tt, tt)
  read_binding_spelled c ls q (form.list p (form.tree x form.no_trees)) h = (tt, tt)
  read_binding_spelled c ls q (form.list p (form.tree x (form.tree t form.no_trees))) h =
      binding_spelled p x (symbol_of x) (reading.read c ls t) (can_bind x h.0) (read_spelled c ls t h.1.0)
  read_binding_spelled c ls q (form.list p (form.tree x (form.tree t (form.tree u us)))) h = (tt, tt)
