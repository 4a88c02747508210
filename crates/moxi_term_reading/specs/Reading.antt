-- What a form spells as a term (SMT-LIB 2.6, section 3.6; primes as in MoXI, SPIN 2024): the term, its sort, and the tests that
-- fail. A test that rests on a part without a sort holds.
use Rattle.std.specs.Prelude.{◌==◌, ◌*◌, ℕ, Bool, true, false, ◌&&◌, if◌then◌else◌, Option, None, Some, is_some, Result, Ok, Err, List, [], ◌∷◌, ◌++◌, length, codes}
use Rattle.std.specs.Option.{option_map}
use Rattle.std.specs.List.{list_all}
use Rattle.std.specs.Str.{bytes_eq}
use Rattle.text_core.specs.declared.place.Kind.{Kind}
use Rattle.text_core.specs.declared.place.Place.{Place}
use Rattle.text_core.specs.declared.place.Refusal.{Refusal}
use Rattle.word_core.specs.Words.{BitVector}
use Rattle.word_core.specs.Digits.{read_word}
use Rattle.moxi_sexpr.specs.declared.form.Atom.{Atom}
use Rattle.moxi_sexpr.specs.declared.form.Atom.TheVariants.{Symbol, Binary, Hex}
use Rattle.text_core.specs.Bytes.{is_digit}
use Rattle.moxi_sexpr.specs.Lexing.{refusal}
use Rattle.moxi_sexpr.specs.Tree as form
use Rattle.moxi_terms.specs.declared.data.Sort.{Sort}
use Rattle.moxi_terms.specs.declared.data.Sort.TheVariants.{Bits}
use Rattle.moxi_terms.specs.declared.data.Datum.TheVariants as datum
use Rattle.moxi_terms.specs.declared.data.Primes.{Primes}
use Rattle.moxi_terms.specs.declared.data.Primes.TheVariants.{Allowed, Refused}
use Rattle.moxi_terms.specs.declared.data.TermOp.TheVariants as op
use Rattle.moxi_terms.specs.declared.names.Meaning.{Meaning}
use Rattle.moxi_terms.specs.declared.names.Meaning.TheVariants as meaning
use Rattle.moxi_terms.specs.declared.names.Head.{Head}
use Rattle.moxi_terms.specs.declared.names.Head.TheVariants as heads
use Rattle.moxi_term_reading.specs.declared.heads.HeadFailure.{HeadFailure}
use Rattle.moxi_term_reading.specs.declared.heads.HeadFailure.TheVariants.{Unknown, Misshapen}
use Rattle.moxi_term_reading.specs.declared.locals.Local.{Local}
use Rattle.moxi_terms.specs.Tree.{Tree, constant, variable, bound, apply, binding, call, Trees, no_trees, trees_of, PlainFunction}
use Rattle.moxi_terms.specs.View.{ScopeState}
use Rattle.moxi_terms.specs.Words.{is_one_of, left_out_operators, indexed_operators}
use Rattle.moxi_terms.specs.Names.{or_else, function_names}
use Rattle.name_maps.specs.Names.{place_of}
use Rattle.moxi_terms.specs.Operators.{nothing}
use Rattle.moxi_term_reading.specs.Forms.{place_in, symbol_atom, symbol_of, numeral_of, pair_of, is_word, is_primed}
use Rattle.moxi_term_reading.specs.SortReading.{index_of, unknown, only_numeral}
use Rattle.moxi_term_reading.specs.Finding.{Found, first_of, last_of}
use Rattle.moxi_terms.specs.Meanings.{value_named, bare_call, call_of, head_named}
use Rattle.moxi_term_reading.specs.Typing.{head_sort, head_count_fits}

-- a test of primes: it fails at a primed symbol
abbrev pub prime_failures : Bool → Place → List Refusal
prime_failures true p = refusal 7 p ∷ []
prime_failures false p = []

-- where a term stands: the scope, the variables, and whether they may be primed
pub record Context : Type 0 where
  pub scope : ScopeState
  pub variables : List Local
  pub primes : Primes

-- What a bare name stands for: the last name of the innermost `let` that binds it, else a variable, a constant, or a function
-- without parameters.
abbrev pub meaning_of : Context → List Local → List ℕ → Option Meaning
meaning_of c bounds name =
    or_else (option_map (λ (f : Found). meaning.Bound f.number f.sort) (last_of 0 bounds name))
    (or_else (option_map (λ (f : Found). meaning.Variable f.number f.sort) (first_of 0 c.variables name))
    (or_else (value_named c.scope name) (call_of bare_call c.scope.functions (place_of (function_names c.scope) name))))

-- a term, its sort, and the tests that fail
pub record Reading : Type 0 where
  pub term : Tree
  pub sort : Option Sort
  pub failures : List Refusal

-- what stands where no term is spelled
abbrev pub no_term : Tree
no_term = constant nothing

abbrev pub failed : Refusal → Reading
failed f = record { term = no_term; sort = None; failures = f ∷ [] }

-- a sort that rests on tests
abbrev pub unless_failed : {A : Type 0} → List Refusal → Option A → Option A
unless_failed [] s = s
unless_failed (f ∷ fs) s = None

-- a term of which these tests fail
abbrev pub checked_term : Tree → Option Sort → List Refusal → Reading
checked_term t s fs = record { term = t; sort = unless_failed fs s; failures = fs }

-- a variable may be primed, where primes are allowed
abbrev pub variable_primes : Primes → Bool → Place → List Refusal
variable_primes Allowed primed p = []
variable_primes Refused primed p = prime_failures primed p

abbrev pub named_reading : Primes → Place → Bool → Option Meaning → Reading
named_reading primes p primed None = failed (refusal 4 p)
named_reading primes p primed (Some (meaning.Bound i s)) = checked_term (bound i) s (prime_failures primed p)
named_reading primes p primed (Some (meaning.Variable v s)) = checked_term (variable v primed) s (variable_primes primes primed p)
named_reading primes p primed (Some (meaning.Value d s)) = checked_term (constant d) (Some s) (prime_failures primed p)
named_reading primes p primed (Some (meaning.Call n s)) = checked_term (call n no_trees) (Some s) (prime_failures primed p)

-- a literal of a word, with the tests of its primes
abbrev pub word_reading : Place → Option BitVector → List Refusal → Reading
word_reading p None fs = failed (refusal 8 p)
word_reading p (Some w) fs = checked_term (constant (datum.Bits w)) (Some (Bits w.width)) fs

abbrev pub atom_reading : Context → List Local → Place → Atom → Reading
atom_reading c bounds p (Symbol name primed) = named_reading c.primes p primed (meaning_of c bounds name)
atom_reading c bounds p (Binary digits) = word_reading p (read_word (length digits) 2 digits) []
atom_reading c bounds p (Hex digits) = word_reading p (read_word (4 * length digits) 16 digits) []
atom_reading c bounds p a = failed (refusal 12 p)

-- the digits of `bvN`
abbrev pub decimal_digits : List ℕ → Option (List ℕ)
decimal_digits bs = if length bs == 0 then None else (if list_all is_digit bs then Some bs else None)

abbrev pub literal_digits : List ℕ → Option (List ℕ)
literal_digits (b ∷ c ∷ bs) = if (b == 98) && (c == 118) then decimal_digits bs else None
literal_digits bs = None

-- what is behind `bvN`, whose digits are these: the numeral of the width
abbrev pub literal_reading : Place → List ℕ → List Refusal → Option (List ℕ) → Reading
literal_reading p digits fs None = failed (refusal 12 p)
literal_reading p digits fs (Some width) = word_reading p (read_word (index_of width) 10 digits) fs

-- behind the `_` at q of a term at p, a name with these digits, and what is behind it
abbrev pub literal_named : Place → Place → List ℕ → List Refusal → Option (List ℕ) → form.Trees → Reading
literal_named p q name fs None ts = failed (unknown (is_one_of left_out_operators name) p q)
literal_named p q name fs (Some digits) ts = literal_reading p digits fs (only_numeral ts)

-- the symbol at r behind the `_`
abbrev pub symbol_underscored : Place → Place → Bool → Place → Option (List ℕ × Bool) → form.Trees → Reading
symbol_underscored p q first r None ts = failed (refusal 4 q)
symbol_underscored p q first r (Some x) ts = literal_named p q x.0 (prime_failures first q ++ prime_failures x.1 r) (literal_digits x.0) ts

-- what is behind the `_` at q of a term at p
abbrev pub underscore_reading : Place → Place → Bool → form.Trees → Reading
underscore_reading p q first form.no_trees = failed (refusal 4 q)
underscore_reading p q first (form.tree t ts) = symbol_underscored p q first (place_in t) (symbol_of t) ts

abbrev pub known_head : Option Head → Refusal → Result Head HeadFailure
known_head (Some h) f = Ok h
known_head None f = Err (Unknown f)

-- an operator with one index
abbrev pub extended_head : Place → List ℕ → Option (List ℕ) → Result Head HeadFailure
extended_head q name None = Err (Misshapen q)
extended_head q name (Some count) =
    if bytes_eq name (codes "zero_extend") then Ok (heads.Operator (op.ZeroExtend (index_of count))) else Ok (heads.Operator (op.SignExtend (index_of count)))

abbrev pub extracted_head : Place → Option (List ℕ) → Option (List ℕ) → Result Head HeadFailure
extracted_head q (Some high) (Some low) = Ok (heads.Operator (op.Extract (index_of high) (index_of low)))
extracted_head q (Some high) None = Err (Misshapen q)
extracted_head q None low = Err (Misshapen q)

-- an operator with two indices
abbrev pub paired_head : Place → Option (form.Tree × form.Tree) → Result Head HeadFailure
paired_head q None = Err (Misshapen q)
paired_head q (Some x) = extracted_head q (numeral_of x.0) (numeral_of x.1)

-- the operator with indices at the head at q
abbrev pub indexed_head : Place → List ℕ → form.Trees → Result Head HeadFailure
indexed_head q name ts = if bytes_eq name (codes "extract") then paired_head q (pair_of ts) else extended_head q name (only_numeral ts)

-- behind the `_` of a head at q, in a term at p, the symbol, and what is behind it
abbrev pub symbol_head : Place → Place → Option (List ℕ × Bool) → form.Trees → Result Head HeadFailure
symbol_head p q None ts = Err (Unknown (refusal 4 q))
symbol_head p q (Some x) ts = if is_one_of indexed_operators x.0 then indexed_head q x.0 ts else Err (Unknown (unknown (is_one_of left_out_operators x.0) p q))

-- what is behind the first form of a head at q
abbrev pub listed_head : Place → Place → form.Trees → Result Head HeadFailure
listed_head p q form.no_trees = Err (Unknown (refusal 4 q))
listed_head p q (form.tree t ts) = symbol_head p q (symbol_of t) ts

abbrev pub atom_head : ScopeState → Place → Place → Option (List ℕ × Bool) → Result Head HeadFailure
atom_head s p q None = Err (Unknown (refusal 4 q))
atom_head s p q (Some x) = known_head (head_named s x.0) (unknown (is_one_of left_out_operators x.0) p q)

-- what the head of a term at p stands for, or why it stands for nothing
abbrev pub head_of : ScopeState → Place → form.Tree → Result Head HeadFailure
head_of s p (form.atom q a) = atom_head s p q (symbol_atom a)
head_of s p (form.list q form.no_trees) = Err (Unknown (refusal 4 q))
head_of s p (form.list q (form.tree t ts)) = if is_word (codes "_") t then listed_head p q ts else Err (Unknown (refusal 4 q))

-- the test of the prime of a symbol
abbrev pub symbol_primes : form.Tree → List Refusal
symbol_primes t = prime_failures (is_primed t) (place_in t)

-- the tests of the primes of a head: its symbol, or the first two of a list
abbrev pub head_primes : form.Tree → List Refusal
head_primes (form.atom q a) = symbol_primes (form.atom q a)
head_primes (form.list q form.no_trees) = []
head_primes (form.list q (form.tree t form.no_trees)) = symbol_primes t
head_primes (form.list q (form.tree t (form.tree u ts))) = symbol_primes t ++ symbol_primes u

abbrev pub headed : Head → Trees → Tree
headed (heads.Operator o) ts = apply o ts
headed (heads.Function n) ts = call n ts

-- terms one behind the other, and their sorts, where each has one
pub record Arguments : Type 0 where
  pub terms : List Tree
  pub sorts : Option (List Sort)
  pub failures : List Refusal

abbrev pub joined : Option (List Sort) → Option (List Sort) → Option (List Sort)
joined None ss = None
joined (Some ss) None = None
joined (Some ss) (Some ts) = Some (ss ++ ts)

abbrev pub no_arguments : Arguments
no_arguments = record { terms = []; sorts = Some []; failures = [] }

abbrev pub argument : Reading → Arguments
argument r = record { terms = r.term ∷ []; sorts = option_map (λ s. s ∷ []) r.sort; failures = r.failures }

abbrev pub both_arguments : Arguments → Arguments → Arguments
both_arguments x y = record { terms = x.terms ++ y.terms; sorts = joined x.sorts y.sorts; failures = x.failures ++ y.failures }

abbrev pub sort_failures : Place → Result Sort Kind → List Refusal
sort_failures p (Ok s) = []
sort_failures p (Err k) = record { kind = k; place = p } ∷ []

abbrev pub sort_result : Result Sort Kind → Option Sort
sort_result (Ok s) = Some s
sort_result (Err k) = None

-- the test of the sorts of an application at p, which rests on all arguments
abbrev pub sorts_tested : List PlainFunction → Place → Head → Option (List Sort) → List Refusal
sorts_tested fs p h None = []
sorts_tested fs p h (Some ss) = sort_failures p (head_sort fs h ss)

abbrev pub applied_sort : List PlainFunction → Head → Option (List Sort) → Option Sort
applied_sort fs h None = None
applied_sort fs h (Some ss) = sort_result (head_sort fs h ss)

-- the tests of the number and of the sorts of the arguments
abbrev pub argument_tests : List PlainFunction → Place → Head → ℕ → Option (List Sort) → List Refusal
argument_tests fs p h n ss = if head_count_fits fs h n then sorts_tested fs p h ss else refusal 12 p ∷ []

abbrev pub application_tests : List PlainFunction → Place → Head → Arguments → List Refusal
application_tests fs p h rs = argument_tests fs p h (length rs.terms) rs.sorts

-- The failing tests of an application at p to n arguments, whose head stands for nothing. Each operator with indices takes one
-- argument, also where its list hasn't its shape.
abbrev pub head_tests : Place → HeadFailure → ℕ → List Refusal
head_tests p (Unknown f) n = f ∷ []
head_tests p (Misshapen q) n = refusal 12 q ∷ (if n == 1 then [] else refusal 12 p ∷ [])

-- an application at p of a head whose primes fail like this
abbrev pub application : List PlainFunction → Place → List Refusal → Result Head HeadFailure → Arguments → Reading
application fs p primes (Err f) rs = record { term = no_term; sort = None; failures = rs.failures ++ head_tests p f (length rs.terms) }
application fs p primes (Ok h) rs = record {
  term = headed h (trees_of rs.terms);
  sort = unless_failed (primes ++ application_tests fs p h rs) (applied_sort fs h rs.sorts);
  failures = rs.failures ++ (primes ++ application_tests fs p h rs);
}

-- what a `let` binds: the names with their sorts, the terms, the failing tests of its form, and those of its terms
pub record Bindings : Type 0 where
  pub locals : List Local
  pub terms : List Tree
  pub shape : List Refusal
  pub failures : List Refusal

abbrev pub no_bindings : Bindings
no_bindings = record { locals = []; terms = []; shape = []; failures = [] }

-- a binding that hasn't its shape binds nothing
abbrev pub misshapen : Place → Bindings
misshapen p = record { locals = []; terms = []; shape = refusal 12 p ∷ []; failures = [] }

abbrev pub bound_to : List ℕ → List Refusal → Reading → Bindings
bound_to name primes r = record { locals = record { name = name; sort = r.sort } ∷ []; terms = r.term ∷ []; shape = primes; failures = r.failures }

-- the binding of a list at p, whose first form is this
abbrev pub binding_of : Place → form.Tree → Option (List ℕ × Bool) → Reading → Bindings
binding_of p t None r = misshapen p
binding_of p t (Some x) r = bound_to x.0 (prime_failures x.1 (place_in t)) r

abbrev pub both_bindings : Bindings → Bindings → Bindings
both_bindings x y = record { locals = x.locals ++ y.locals; terms = x.terms ++ y.terms; shape = x.shape ++ y.shape; failures = x.failures ++ y.failures }

-- one or more bindings are in the list at q
abbrev pub bindings_tests : Place → form.Trees → List Refusal
bindings_tests q form.no_trees = refusal 12 q ∷ []
bindings_tests q (form.tree b bs) = []

abbrev pub names_of : List Local → List (List ℕ)
names_of [] = []
names_of (x ∷ xs) = x.name ∷ names_of xs

abbrev pub has_sort : Local → Bool
has_sort x = is_some x.sort

-- the sort of a `let`, which rests on each of its bound values as that of an application rests on each argument
abbrev pub let_sort : List Local → Option Sort → Option Sort
let_sort xs s = if list_all has_sort xs then s else None

-- a `let` whose form fails these tests
abbrev pub let_reading : List Refusal → Bindings → Reading → Reading
let_reading tests bs body = record {
  term = binding (names_of bs.locals) (trees_of bs.terms) body.term;
  sort = unless_failed (tests ++ bs.shape) (let_sort bs.locals body.sort);
  failures = tests ++ (bs.shape ++ (bs.failures ++ body.failures));
}

-- the place of a form counts with its failing tests
abbrev mutual
  pub read : Context → List Local → form.Tree → Reading
  read c bounds (form.atom p a) = atom_reading c bounds p a
  read c bounds (form.list p form.no_trees) = failed (refusal 12 p)
  read c bounds (form.list p (form.tree head ts)) =
      if is_word (codes "let") head then read_let c bounds p (head_primes head) ts
      else (if is_word (codes "_") head then underscore_reading p (place_in head) (is_primed head) ts
      else application c.scope.functions p (head_primes head) (head_of c.scope p head) (read_all c bounds ts))

  pub read_all : Context → List Local → form.Trees → Arguments
  read_all c bounds form.no_trees = no_arguments
  read_all c bounds (form.tree t ts) = both_arguments (argument (read c bounds t)) (read_all c bounds ts)

  -- the two forms behind the `let` of a term at p
  pub read_let : Context → List Local → Place → List Refusal → form.Trees → Reading
  read_let c bounds p primes (form.tree (form.list q bs) (form.tree body form.no_trees)) =
      let_reading (primes ++ bindings_tests q bs) (read_bindings c bounds q bs) (read c (bounds ++ (read_bindings c bounds q bs).locals) body)
  read_let c bounds p primes ts = failed (refusal 12 p)

  -- the bindings of a list at q; the values are read outside the `let`
  pub read_bindings : Context → List Local → Place → form.Trees → Bindings
  read_bindings c bounds q form.no_trees = no_bindings
  read_bindings c bounds q (form.tree b bs) = both_bindings (read_binding c bounds q b) (read_bindings c bounds q bs)

  pub read_binding : Context → List Local → Place → form.Tree → Bindings
  read_binding c bounds q (form.list p (form.tree x (form.tree t form.no_trees))) = binding_of p x (symbol_of x) (read c bounds t)
  read_binding c bounds q (form.list p ts) = misshapen p
  read_binding c bounds q (form.atom p a) = misshapen q

-- the reading of an application at p of what a form says to the arguments that these spell
abbrev pub applied_reading : Context → List Local → Place → form.Tree → form.Trees → Reading
applied_reading c bounds p head ts = application c.scope.functions p (head_primes head) (head_of c.scope p head) (read_all c bounds ts)
