-- Each test of scripts that fails is of a kind of scripts.
use Rattle.std.proofs.Common.{◌≡◌, ℕ, ◌+◌, eqb, nat_le, nat_lt, length, is_some, Bool, true, false, cond, ◌&&◌, IfErr, Result, Ok, Err, Option, None, Some, List, [], ◌∷◌, ◌++◌, codes, bytes_eq, refl}
use Rattle.std.specs.List.{AllByRecursion}
use Rattle.std.specs.Prelude.{slice_get}
use Rattle.text_core.specs.declared.place.Kind.{Kind}
use Rattle.text_core.specs.declared.place.Kind.TheVariants.{M}
use Rattle.text_core.specs.declared.place.Place.{Place}
use Rattle.text_core.specs.declared.place.Refusal.{Refusal}
use Rattle.word_core.specs.Words.{BitVector}
use Rattle.word_core.specs.declared.kinds.Binary.{Binary}
use Rattle.moxi_sexpr.specs.declared.form.Atom.{Atom}
use Rattle.moxi_sexpr.specs.declared.form.Atom.TheVariants.{Symbol, Keyword, Numeral, Binary as BinaryDigits, Hex, Quote}
use Rattle.moxi_sexpr.specs.Lexing.{refusal}
use Rattle.moxi_sexpr.specs.Tree as form
use Rattle.moxi_terms.specs.declared.data.Sort.{Sort}
use Rattle.moxi_terms.specs.declared.data.Sort.TheVariants.{Truth, Bits, Choice}
use Rattle.moxi_terms.specs.declared.data.TermOp.{TermOp}
use Rattle.moxi_terms.specs.declared.data.TermOp.TheVariants as op
use Rattle.moxi_terms.specs.declared.data.Primes.{Primes}
use Rattle.moxi_terms.specs.declared.data.Primes.TheVariants.{Allowed, Refused}
use Rattle.moxi_terms.specs.declared.names.Head.{Head}
use Rattle.moxi_terms.specs.declared.names.Head.TheVariants as heads
use Rattle.moxi_term_reading.specs.declared.heads.HeadFailure.{HeadFailure}
use Rattle.moxi_term_reading.specs.declared.heads.HeadFailure.TheVariants.{Unknown, Misshapen}
use Rattle.moxi_term_reading.specs.declared.locals.Local.{Local}
use Rattle.moxi_terms.specs.declared.names.Meaning.{Meaning}
use Rattle.moxi_terms.specs.declared.names.Meaning.TheVariants as meaning
use Rattle.moxi_term_reading.specs.Forms.{place_in, symbol_atom, symbol_of, numeral_of, pair_of, is_word, is_primed}
use Rattle.moxi_terms.specs.Names.{sort_named}
use Rattle.moxi_terms.specs.Operators.{is_comparison}
use Rattle.moxi_term_reading.specs.Reading.{Arguments, Bindings, Context, Reading, application, application_tests, argument_tests, atom_head, atom_reading, binding_of, bindings_tests, extended_head, extracted_head, head_of, head_primes, head_tests, indexed_head, known_head, let_reading, listed_head, literal_digits, literal_named, literal_reading, meaning_of, named_reading, paired_head, prime_failures, read, read_all, read_binding, read_bindings, read_let, sort_failures, sorts_tested, symbol_head, symbol_primes, symbol_underscored, underscore_reading, variable_primes, word_reading}
use Rattle.moxi_term_reading.specs.SortReading.{atom_sort, index_of, indexed_sort, is_width, listed_sort, only_numeral, sort_reading, symbol_indexed, symbol_sort, unknown, unknown_indexed, vector_sort, width_sort}
use Rattle.moxi_term_reading.specs.Typing.{call_sort, head_sort, head_count_fits}
use Rattle.moxi_terms.specs.Meanings.{head_named}
use Rattle.moxi_terms.specs.Sorts.{calculated, chosen, common, compared, count_fits, fitting, is_arithmetic, is_negation, logical, same_sorts, widened}
use Rattle.moxi_terms.specs.Tree.{PlainFunction, sorts_of}
use Rattle.moxi_terms.specs.View.{ScopeState}
use Rattle.moxi_terms.specs.Words.{indexed_operators, is_one_of, left_out_operators, left_out_sorts}
use Rattle.moxi_scripts.specs.Kinds.{HasScriptKind, is_script_kind}
use Rattle.moxi_scripts.specs.Collecting.{fails_if}

abbrev pub Fine : List Refusal → Type 0
Fine fs = AllByRecursion HasScriptKind fs

abbrev pub FineEnd : {A : Type 0} → Result A Refusal → Type 0
FineEnd r = IfErr r HasScriptKind

pub join : (xs ys : List Refusal) → Fine xs → Fine ys → Fine (xs ++ ys)
join [] ys a b = b
join (x ∷ xs) ys a b = (a.0, join xs ys a.1 b)

pub either : (b : Bool) (xs ys : List Refusal) → Fine xs → Fine ys → Fine (cond b xs ys)
either true xs ys f g = f
either false xs ys f g = g

either_end : {A : Type 0} (b : Bool) (x y : Result A Refusal) → FineEnd x → FineEnd y → FineEnd (cond b x y)
either_end true x y f g = f
either_end false x y f g = g

pub tested : (b : Bool) (n : ℕ) (p : Place) → HasScriptKind (refusal n p) → Fine (fails_if b n p)
tested true n p h = (h, tt)
tested false n p h = tt

pub primes : (b : Bool) (p : Place) → Fine (prime_failures b p)
primes true p = (refl, tt)
primes false p = tt

-- SORTS

is_unknown : (b : Bool) (p q : Place) → HasScriptKind (unknown b p q)
is_unknown true p q = refl
is_unknown false p q = refl

is_unknown_indexed : (b : Bool) (p q : Place) (first : Bool) (r : Place) → HasScriptKind (unknown_indexed b p q first r)
is_unknown_indexed true p q first r = refl
is_unknown_indexed false p q true r = refl
is_unknown_indexed false p q false r = refl

symbol_sorts : (o : Option Sort) (name : List ℕ) (primed : Bool) (p : Place) → FineEnd (symbol_sort o name primed p)
symbol_sorts (Some s) name true p = refl
symbol_sorts (Some s) name false p = tt
symbol_sorts None name primed p = is_unknown (is_one_of left_out_sorts name) p p

width_sorts : (w : ℕ) (p q : Place) (first : Bool) (r : Place) (second : Bool) → FineEnd (width_sort w p q first r second)
width_sorts w p q first r second = by_tests (is_width w) first second
  where
    by_tests : (a b c : Bool) → FineEnd (cond a (cond b (Err (refusal 7 q)) (cond c (Err (refusal 7 r)) (Ok (Bits w)))) (Err (refusal 8 p)))
    by_tests true true c = refl
    by_tests true false true = refl
    by_tests true false false = tt
    by_tests false b c = refl

vector_sorts : (p q : Place) (first : Bool) (r : Place) (second : Bool) (o : Option (List ℕ)) → FineEnd (vector_sort p q first r second o)
vector_sorts p q first r second None = refl
vector_sorts p q first r second (Some digits) = width_sorts (index_of digits) p q first r second

symbols_indexed : (s : ScopeState) (p q : Place) (first : Bool) (r : Place) (o : Option (List ℕ × Bool)) (ts : form.Trees) → FineEnd (symbol_indexed s p q first r o ts)
symbols_indexed s p q first r None ts = refl
symbols_indexed s p q first r (Some x) ts =
    let other = Err (unknown_indexed (is_one_of left_out_sorts x.0) p q first r) in
    either_end (bytes_eq x.0 (codes "BitVec")) (vector_sort p q first r x.1 (only_numeral ts)) (cond (is_some (sort_named s x.0)) (Err (refusal 12 p)) other)
    (vector_sorts p q first r x.1 (only_numeral ts)) (either_end (is_some (sort_named s x.0)) (Err (refusal 12 p)) other refl (is_unknown_indexed (is_one_of left_out_sorts x.0) p q first r))

indexed_sorts : (s : ScopeState) (p q : Place) (first : Bool) (ts : form.Trees) → FineEnd (indexed_sort s p q first ts)
indexed_sorts s p q first form.no_trees = refl
indexed_sorts s p q first (form.tree t ts) = symbols_indexed s p q first (place_in t) (symbol_of t) ts

listed_sorts : (s : ScopeState) (p q : Place) (o : Option (List ℕ × Bool)) (ts : form.Trees) → FineEnd (listed_sort s p q o ts)
listed_sorts s p q None ts = refl
listed_sorts s p q (Some x) ts = by_tests (bytes_eq x.0 (codes "_")) _
  where
    by_tests : (a b : Bool) → FineEnd (cond a (indexed_sort s p q x.1 ts) (cond b (Err (refusal 12 p)) (Err (unknown (is_one_of left_out_sorts x.0) p q))))
    by_tests true b = indexed_sorts s p q x.1 ts
    by_tests false true = refl
    by_tests false false = is_unknown (is_one_of left_out_sorts x.0) p q

atom_sorts : (s : ScopeState) (around p : Place) (o : Option (List ℕ × Bool)) → FineEnd (atom_sort s around p o)
atom_sorts s around p None = refl
atom_sorts s around p (Some x) = symbol_sorts (sort_named s x.0) x.0 x.1 p

pub sorts : (s : ScopeState) (around : Place) (t : form.Tree) → FineEnd (sort_reading s around t)
sorts s around (form.atom p a) = atom_sorts s around p (symbol_atom a)
sorts s around (form.list p form.no_trees) = refl
sorts s around (form.list p (form.tree t ts)) = listed_sorts s p (place_in t) (symbol_of t) ts

-- TERMS

variables_primed : (may : Primes) (primed : Bool) (p : Place) → Fine (variable_primes may primed p)
variables_primed Allowed primed p = tt
variables_primed Refused primed p = primes primed p

names : (may : Primes) (p : Place) (primed : Bool) (o : Option Meaning) → Fine (named_reading may p primed o).failures
names may p primed None = (refl, tt)
names may p primed (Some (meaning.Bound i s)) = primes primed p
names may p primed (Some (meaning.Variable v s)) = variables_primed may primed p
names may p primed (Some (meaning.Value d s)) = primes primed p
names may p primed (Some (meaning.Call n s)) = primes primed p

words : (p : Place) (o : Option BitVector) (fs : List Refusal) → Fine fs → Fine (word_reading p o fs).failures
words p None fs h = (refl, tt)
words p (Some w) fs h = h

atoms : (c : Context) (bounds : List Local) (p : Place) (a : Atom) → Fine (atom_reading c bounds p a).failures
atoms c bounds p (Symbol name primed) = names c.primes p primed (meaning_of c bounds name)
atoms c bounds p (BinaryDigits digits) = words p _ [] tt
atoms c bounds p (Hex digits) = words p _ [] tt
atoms c bounds p (Keyword name) = (refl, tt)
atoms c bounds p (Numeral digits) = (refl, tt)
atoms c bounds p (Quote bytes) = (refl, tt)

literals : (p : Place) (digits : List ℕ) (fs : List Refusal) (o : Option (List ℕ)) → Fine fs → Fine (literal_reading p digits fs o).failures
literals p digits fs None h = (refl, tt)
literals p digits fs (Some width) h = words p _ fs h

literals_named : (p q : Place) (name : List ℕ) (fs : List Refusal) (o : Option (List ℕ)) (ts : form.Trees) → Fine fs → Fine (literal_named p q name fs o ts).failures
literals_named p q name fs None ts h = (is_unknown (is_one_of left_out_operators name) p q, tt)
literals_named p q name fs (Some digits) ts h = literals p digits fs (only_numeral ts) h

symbols_underscored : (p q : Place) (first : Bool) (r : Place) (o : Option (List ℕ × Bool)) (ts : form.Trees) → Fine (symbol_underscored p q first r o ts).failures
symbols_underscored p q first r None ts = (refl, tt)
symbols_underscored p q first r (Some x) ts =
    literals_named p q x.0 (prime_failures first q ++ prime_failures x.1 r) (literal_digits x.0) ts (join (prime_failures first q) (prime_failures x.1 r) (primes first q) (primes x.1 r))

underscored : (p q : Place) (first : Bool) (ts : form.Trees) → Fine (underscore_reading p q first ts).failures
underscored p q first form.no_trees = (refl, tt)
underscored p q first (form.tree t ts) = symbols_underscored p q first (place_in t) (symbol_of t) ts

-- where it has a refusal of its own, that is of a kind of scripts
abbrev FineFailure : HeadFailure → Type 0
FineFailure (Unknown f) = HasScriptKind f
FineFailure (Misshapen q) = Unit {0}

abbrev FineHead : Result Head HeadFailure → Type 0
FineHead r = IfErr r FineFailure

either_head : (b : Bool) (x y : Result Head HeadFailure) → FineHead x → FineHead y → FineHead (cond b x y)
either_head true x y f g = f
either_head false x y f g = g

extended : (q : Place) (name : List ℕ) (o : Option (List ℕ)) → FineHead (extended_head q name o)
extended q name None = tt
extended q name (Some count) = either_head (bytes_eq name (codes "zero_extend")) (Ok _) (Ok _) tt tt

extracted : (q : Place) (o l : Option (List ℕ)) → FineHead (extracted_head q o l)
extracted q (Some high) (Some low) = tt
extracted q (Some high) None = tt
extracted q None low = tt

paired : (q : Place) (o : Option (form.Tree × form.Tree)) → FineHead (paired_head q o)
paired q None = tt
paired q (Some x) = extracted q (numeral_of x.0) (numeral_of x.1)

indexed : (q : Place) (name : List ℕ) (ts : form.Trees) → FineHead (indexed_head q name ts)
indexed q name ts =
    either_head (bytes_eq name (codes "extract")) (paired_head q (pair_of ts)) (extended_head q name (only_numeral ts)) (paired q (pair_of ts)) (extended q name (only_numeral ts))

symbol_heads : (p q : Place) (o : Option (List ℕ × Bool)) (ts : form.Trees) → FineHead (symbol_head p q o ts)
symbol_heads p q None ts = refl
symbol_heads p q (Some x) ts =
    either_head (is_one_of indexed_operators x.0) (indexed_head q x.0 ts) (Err (Unknown (unknown (is_one_of left_out_operators x.0) p q))) (indexed q x.0 ts) (is_unknown (is_one_of left_out_operators x.0) p q)

listed_heads : (p q : Place) (ts : form.Trees) → FineHead (listed_head p q ts)
listed_heads p q form.no_trees = refl
listed_heads p q (form.tree t ts) = symbol_heads p q (symbol_of t) ts

known_heads : (o : Option Head) (f : Refusal) → HasScriptKind f → FineHead (known_head o f)
known_heads (Some h) f k = tt
known_heads None f k = k

atom_heads : (s : ScopeState) (p q : Place) (o : Option (List ℕ × Bool)) → FineHead (atom_head s p q o)
atom_heads s p q None = refl
atom_heads s p q (Some x) = known_heads (head_named s x.0) (unknown (is_one_of left_out_operators x.0) p q) (is_unknown (is_one_of left_out_operators x.0) p q)

heads_of : (s : ScopeState) (p : Place) (t : form.Tree) → FineHead (head_of s p t)
heads_of s p (form.atom q a) = atom_heads s p q (symbol_atom a)
heads_of s p (form.list q form.no_trees) = refl
heads_of s p (form.list q (form.tree t ts)) = either_head (is_word (codes "_") t) (listed_head p q ts) (Err (Unknown (refusal 4 q))) (listed_heads p q ts) refl

symbols_primed : (t : form.Tree) → Fine (symbol_primes t)
symbols_primed t = primes (is_primed t) (place_in t)

heads_primed : (t : form.Tree) → Fine (head_primes t)
heads_primed (form.atom q a) = symbols_primed (form.atom q a)
heads_primed (form.list q form.no_trees) = tt
heads_primed (form.list q (form.tree t form.no_trees)) = symbols_primed t
heads_primed (form.list q (form.tree t (form.tree u ts))) = join (symbol_primes t) (symbol_primes u) (symbols_primed t) (symbols_primed u)

-- APPLICATIONS

abbrev FineKind : Result Sort Kind → Type 0
FineKind r = IfErr r (λ k. is_script_kind k ≡ true)

either_kind : (b : Bool) (x y : Result Sort Kind) → FineKind x → FineKind y → FineKind (cond b x y)
either_kind true x y f g = f
either_kind false x y f g = g

are_logical : (o : Option Sort) → FineKind (logical o)
are_logical None = refl
are_logical (Some Truth) = tt
are_logical (Some (Bits w)) = refl
are_logical (Some (Choice n)) = refl

are_compared : (o : Option Sort) → FineKind (compared o)
are_compared None = refl
are_compared (Some s) = tt

are_chosen : (o : Option Sort) → FineKind (chosen o)
are_chosen None = refl
are_chosen (Some s) = tt

are_calculated : (b : Binary) (o : Option Sort) → FineKind (calculated b o)
are_calculated b None = refl
are_calculated b (Some Truth) = refl
are_calculated b (Some (Choice n)) = refl
are_calculated b (Some (Bits w)) = by_tests (is_comparison b) (is_arithmetic b)
  where
    by_tests : (c d : Bool) → FineKind (cond c (Ok Truth) (cond d (Ok (Bits w)) (Err (M 5))))
    by_tests true d = tt
    by_tests false true = tt
    by_tests false false = refl

is_widened : (w : ℕ) → FineKind (widened w)
is_widened w = either_kind _ (Ok (Bits w)) (Err (M 8)) tt refl

ites : (ss : List Sort) → FineKind (fitting op.Ite ss)
ites [] = refl
ites (Truth ∷ ss) = are_chosen (common ss)
ites (Bits w ∷ ss) = refl
ites (Choice n ∷ ss) = refl

concats : (ss : List Sort) → FineKind (fitting op.Concat ss)
concats [] = refl
concats (Truth ∷ ss) = refl
concats (Choice n ∷ ss) = refl
concats (Bits v ∷ []) = refl
concats (Bits v ∷ Truth ∷ ss) = refl
concats (Bits v ∷ Choice n ∷ ss) = refl
concats (Bits v ∷ Bits w ∷ []) = is_widened (v + w)
concats (Bits v ∷ Bits w ∷ s ∷ ss) = refl

extracts : (high low : ℕ) (ss : List Sort) → FineKind (fitting (op.Extract high low) ss)
extracts high low [] = refl
extracts high low (Truth ∷ ss) = refl
extracts high low (Choice n ∷ ss) = refl
extracts high low (Bits w ∷ []) = either_kind (nat_le low high && nat_lt high w) (Ok _) (Err (M 8)) tt refl
extracts high low (Bits w ∷ s ∷ ss) = refl

zeros : (n : ℕ) (ss : List Sort) → FineKind (fitting (op.ZeroExtend n) ss)
zeros n [] = refl
zeros n (Truth ∷ ss) = refl
zeros n (Choice k ∷ ss) = refl
zeros n (Bits w ∷ []) = is_widened (w + n)
zeros n (Bits w ∷ s ∷ ss) = refl

signs : (n : ℕ) (ss : List Sort) → FineKind (fitting (op.SignExtend n) ss)
signs n [] = refl
signs n (Truth ∷ ss) = refl
signs n (Choice k ∷ ss) = refl
signs n (Bits w ∷ []) = is_widened (w + n)
signs n (Bits w ∷ s ∷ ss) = refl

fits : (o : TermOp) (ss : List Sort) → FineKind (fitting o ss)
fits op.Not ss = are_logical (common ss)
fits op.And ss = are_logical (common ss)
fits op.Or ss = are_logical (common ss)
fits op.Xor ss = are_logical (common ss)
fits op.Implies ss = are_logical (common ss)
fits op.Equal ss = are_compared (common ss)
fits op.Distinct ss = are_compared (common ss)
fits op.Ite ss = ites ss
fits op.Concat ss = concats ss
fits (op.Extract high low) ss = extracts high low ss
fits (op.ZeroExtend n) ss = zeros n ss
fits (op.SignExtend n) ss = signs n ss
fits (op.BvUnary u) [] = refl
fits (op.BvUnary u) (Truth ∷ ss) = refl
fits (op.BvUnary u) (Choice n ∷ ss) = refl
fits (op.BvUnary u) (Bits w ∷ []) = either_kind (is_negation u) (Ok (Bits w)) (Err (M 5)) tt refl
fits (op.BvUnary u) (Bits w ∷ s ∷ ss) = refl
fits (op.BvBinary b) ss = are_calculated b (common ss)

calls : (o : Option PlainFunction) (ss : List Sort) → FineKind (call_sort o ss)
calls None ss = refl
calls (Some f) ss = either_kind (same_sorts (sorts_of f.parameters) ss) (Ok f.result) (Err (M 5)) tt refl

head_sorts : (fs : List PlainFunction) (h : Head) (ss : List Sort) → FineKind (head_sort fs h ss)
head_sorts fs (heads.Operator o) ss = either_kind (count_fits o (length ss)) (fitting o ss) (Err (M 12)) (fits o ss) refl
head_sorts fs (heads.Function n) ss = calls (slice_get fs n) ss

kinds_tested : (p : Place) (r : Result Sort Kind) → FineKind r → Fine (sort_failures p r)
kinds_tested p (Ok s) h = tt
kinds_tested p (Err k) h = (h, tt)

are_tested : (fs : List PlainFunction) (p : Place) (h : Head) (o : Option (List Sort)) → Fine (sorts_tested fs p h o)
are_tested fs p h None = tt
are_tested fs p h (Some ss) = kinds_tested p (head_sort fs h ss) (head_sorts fs h ss)

arguments : (fs : List PlainFunction) (p : Place) (h : Head) (n : ℕ) (o : Option (List Sort)) → Fine (argument_tests fs p h n o)
arguments fs p h n o = either (head_count_fits fs h n) (sorts_tested fs p h o) (refusal 12 p ∷ []) (are_tested fs p h o) (refl, tt)

heads_tested : (p : Place) (f : HeadFailure) (n : ℕ) → FineFailure f → Fine (head_tests p f n)
heads_tested p (Unknown f) n h = (h, tt)
heads_tested p (Misshapen q) n h = (refl, either (eqb n 1) [] (refusal 12 p ∷ []) tt (refl, tt))

applications : (fs : List PlainFunction) (p : Place) (tests : List Refusal) (r : Result Head HeadFailure) (rs : Arguments) → Fine tests → FineHead r → Fine rs.failures → Fine (application fs p tests r rs).failures
applications fs p tests (Err f) rs a b c = join rs.failures (head_tests p f (length rs.terms)) c (heads_tested p f (length rs.terms) b)
applications fs p tests (Ok h) rs a b c =
    join rs.failures (tests ++ application_tests fs p h rs) c (join tests (application_tests fs p h rs) a (arguments fs p h (length rs.terms) rs.sorts))

-- BINDINGS AND WHOLE TERMS

abbrev FineBindings : Bindings → Type 0
FineBindings x = Fine x.shape × Fine x.failures

bindings_of : (p : Place) (t : form.Tree) (o : Option (List ℕ × Bool)) (r : Reading) → Fine r.failures → FineBindings (binding_of p t o r)
bindings_of p t None r h = ((refl, tt), tt)
bindings_of p t (Some x) r h = (primes x.1 (place_in t), h)

some_bindings : (q : Place) (ts : form.Trees) → Fine (bindings_tests q ts)
some_bindings q form.no_trees = (refl, tt)
some_bindings q (form.tree b bs) = tt

let_readings : (tests : List Refusal) (bs : Bindings) (body : Reading) → Fine tests → FineBindings bs → Fine body.failures → Fine (let_reading tests bs body).failures
let_readings tests bs body a b c =
    join tests (bs.shape ++ (bs.failures ++ body.failures)) a (join bs.shape (bs.failures ++ body.failures) b.0 (join bs.failures body.failures b.1 c))

by_head : (a b : Bool) (x y z : Reading) → Fine x.failures → Fine y.failures → Fine z.failures → Fine (cond a x (cond b y z)).failures
by_head true b x y z f g h = f
by_head false true x y z f g h = g
by_head false false x y z f g h = h

mutual
  pub reads : (c : Context) (bounds : List Local) (t : form.Tree) → Fine (read c bounds t).failures
  reads c bounds (form.atom p a) = atoms c bounds p a
  reads c bounds (form.list p form.no_trees) = (refl, tt)
  reads c bounds (form.list p (form.tree head ts)) =
      by_head (is_word (codes "let") head) (is_word (codes "_") head) (read_let c bounds p (head_primes head) ts) (underscore_reading p (place_in head) (is_primed head) ts)
      (application c.scope.functions p (head_primes head) (head_of c.scope p head) (read_all c bounds ts))
      (lets c bounds p (head_primes head) ts (heads_primed head)) (underscored p (place_in head) (is_primed head) ts)
      (applications c.scope.functions p (head_primes head) (head_of c.scope p head) (read_all c bounds ts) (heads_primed head) (heads_of c.scope p head) (all_read c bounds ts))

  all_read : (c : Context) (bounds : List Local) (ts : form.Trees) → Fine (read_all c bounds ts).failures
  all_read c bounds form.no_trees = tt
  all_read c bounds (form.tree t ts) = join (read c bounds t).failures (read_all c bounds ts).failures (reads c bounds t) (all_read c bounds ts)

  lets : (c : Context) (bounds : List Local) (p : Place) (tests : List Refusal) (ts : form.Trees) → Fine tests → Fine (read_let c bounds p tests ts).failures
  lets c bounds p tests form.no_trees h = (refl, tt)
  lets c bounds p tests (form.tree (form.atom q a) ts) h = (refl, tt)
  lets c bounds p tests (form.tree (form.list q bs) form.no_trees) h = (refl, tt)
  lets c bounds p tests (form.tree (form.list q bs) (form.tree body (form.tree t ts))) h = (refl, tt)
  lets c bounds p tests (form.tree (form.list q bs) (form.tree body form.no_trees)) h =
      let_readings (tests ++ bindings_tests q bs) (read_bindings c bounds q bs) (read c (bounds ++ (read_bindings c bounds q bs).locals) body)
      (join tests (bindings_tests q bs) h (some_bindings q bs)) (bindings c bounds q bs) (reads c (bounds ++ (read_bindings c bounds q bs).locals) body)

  bindings : (c : Context) (bounds : List Local) (q : Place) (ts : form.Trees) → FineBindings (read_bindings c bounds q ts)
  bindings c bounds q form.no_trees = (tt, tt)
  bindings c bounds q (form.tree b bs) =
      let x = one_binding c bounds q b in
      let y = bindings c bounds q bs in
      (join (read_binding c bounds q b).shape (read_bindings c bounds q bs).shape x.0 y.0, join (read_binding c bounds q b).failures (read_bindings c bounds q bs).failures x.1 y.1)

  one_binding : (c : Context) (bounds : List Local) (q : Place) (t : form.Tree) → FineBindings (read_binding c bounds q t)
  one_binding c bounds q (form.atom p a) = ((refl, tt), tt)
  one_binding c bounds q (form.list p form.no_trees) = ((refl, tt), tt)
  one_binding c bounds q (form.list p (form.tree x form.no_trees)) = ((refl, tt), tt)
  one_binding c bounds q (form.list p (form.tree x (form.tree t (form.tree u ts)))) = ((refl, tt), tt)
  one_binding c bounds q (form.list p (form.tree x (form.tree t form.no_trees))) = bindings_of p x (symbol_of x) (read c bounds t) (reads c bounds t)
