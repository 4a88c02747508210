-- What is printed of a term that can appear in its place is read as this term, by induction over the term.
use Rattle.std.proofs.Common.{◌≡◌, ℕ, zero, suc, ◌<◌, Bool, true, false, cond, eqb, List, [], ◌∷◌, ◌++◌, map, length, Option, None, Some, Ok, Err, refl, sym, ap, ◌∙◌, subst, arith}
use Rattle.std.specs.List.{list_all}
use Rattle.std.specs.Prelude.{slice_get, codes, decimal}
use Rattle.std.specs.Str.{bytes_eq}
use Rattle.std.proofs.lemmas.Bool.{and_from, eq-eqb}
use Rattle.std.proofs.lemmas.Option.{same_Some, none-some}
use Rattle.std.proofs.lemmas.List.{length-map}
use Rattle.text_core.specs.declared.place.Place.{Place}
use Rattle.text_core.specs.declared.place.Refusal.{Refusal}
use Rattle.text_core.specs.Binary.{binary_digits}
use Rattle.word_core.specs.declared.kinds.Unary.{Unary}
use Rattle.word_core.specs.declared.kinds.Unary.TheVariants as one
use Rattle.word_core.specs.declared.kinds.Binary.{Binary}
use Rattle.word_core.specs.declared.kinds.Binary.TheVariants as two
use Rattle.text_core.specs.declared.place.Kind.TheVariants.{M}
use Rattle.moxi_sexpr.specs.declared.form.Atom.TheVariants as atoms
use Rattle.moxi_sexpr.specs.Lexing.{refusal}
use Rattle.moxi_sexpr.specs.Tree as form
use Rattle.moxi_terms.specs.declared.data.Sort.{Sort}
use Rattle.moxi_terms.specs.declared.data.Sort.TheVariants.{Truth, Bits, Choice}
use Rattle.moxi_terms.specs.declared.data.Datum.{Datum}
use Rattle.moxi_terms.specs.declared.data.Datum.TheVariants as datum
use Rattle.moxi_terms.specs.declared.data.Primes.{Primes}
use Rattle.moxi_terms.specs.declared.data.Primes.TheVariants.{Allowed, Refused}
use Rattle.moxi_terms.specs.declared.data.TermOp.{TermOp}
use Rattle.moxi_terms.specs.declared.data.TermOp.TheVariants as op
use Rattle.moxi_term_reading.specs.declared.locals.Local.{Local}
use Rattle.moxi_terms.specs.declared.names.Meaning.{Meaning}
use Rattle.moxi_terms.specs.declared.names.Head.{Head}
use Rattle.moxi_terms.specs.declared.names.Head.TheVariants as heads
use Rattle.moxi_terms.specs.Tree.{Tree, constant, variable, bound, apply, binding, call, Trees, no_trees, tree, trees_of, list_of, PlainFunction, sorts_of}
use Rattle.moxi_terms.specs.View.{ScopeState}
use Rattle.moxi_terms.specs.Names.{function_names}
use Rattle.moxi_term_reading.specs.Forms.{is_word}
use Rattle.moxi_terms.specs.Sorts.{same_sort, same_sorts, count_fits, fitting, op_sort}
use Rattle.moxi_term_reading.specs.Reading as reading
use Rattle.moxi_term_reading.specs.Typing as typing
use Rattle.moxi_term_reading.specs.SortReading as sort_reading
use Rattle.moxi_term_reading.specs.Reading.{Context, Reading, Arguments, Bindings, read, read_all, read_bindings, meaning_of, names_of}
use Rattle.moxi_terms.specs.Meanings.{head_named}
use Rattle.moxi_terms.proofs.SortLaws.{taken}
use Rattle.moxi_term_print.specs.Shown.{Shown, word, part, group, Showns, no_showns, shown, Shows, ShowEach}
use Rattle.moxi_term_print.specs.Terms.{name_at, constant_name, symbol, numeral, unary_word, binary_word, operator_word, shown_operator, truth_word, shown_value, shown_call, shown_term, shown_terms, shown_bindings}
use Rattle.moxi_term_print.specs.WellScoped.{bound_locals, IsWellScopedValue, IsAllowedPrime, IsKnownOperator, IsWellScopedCall, IsWellScoped, AreWellScoped}
use Rattle.moxi_term_print.specs.WellScopedReads.{whole}
use Rattle.moxi_term_print.proofs.StandingNumbers.{word_again, index_again}
use Rattle.moxi_term_print.specs.laws.StandingShapes as shape
use Rattle.moxi_term_print.proofs.SortedTerms.{same_self}
use Rattle.moxi_term_reading.proofs.ReadingLaws.{names_append}

-- ATOMS

named_read : (c : Context) (bounds : List Local) (f : form.Tree) (name : List ℕ) (primed : Bool) (m : Meaning) (t : Tree) (s : Sort)
    → meaning_of c bounds name ≡ Some m → ((p : Place) → reading.named_reading c.primes p primed (Some m) ≡ whole t s) → Shows f (part (atoms.Symbol name primed)) → read c bounds f ≡ whole t s
named_read c bounds f name primed m t s e g h =
    let a = shape.is_part f (atoms.Symbol name primed) h in
    ap (read c bounds) a.1 ∙ ap (reading.named_reading c.primes a.0 primed) e ∙ g a.0

word_read : (c : Context) (bounds : List Local) (f : form.Tree) (name : List ℕ) (m : Meaning) (t : Tree) (s : Sort)
    → meaning_of c bounds name ≡ Some m → ((p : Place) → reading.named_reading c.primes p false (Some m) ≡ whole t s) → Shows f (word name) → read c bounds f ≡ whole t s
word_read c bounds f name m t s e g h =
    let a = shape.is_word f name h in
    ap (read c bounds) a.1 ∙ ap (reading.named_reading c.primes a.0 false) e ∙ g a.0

value_read : (c : Context) (bounds : List Local) (d : Datum) (s : Sort) (f : form.Tree) → IsWellScopedValue c bounds d s → Shows f (shown_value c.scope d) → read c bounds f ≡ whole (constant d) s
value_read c bounds (datum.Truth b) s f h g =
    word_read c bounds f (truth_word b) _ (constant (datum.Truth b)) Truth h.1 (λ p. refl) g ∙ ap (whole (constant (datum.Truth b))) (sym h.0)
value_read c bounds (datum.Bits w) s f h g =
    let a = shape.is_part f (atoms.Binary (binary_digits w.width w.bits)) g in
    ap (read c bounds) a.1 ∙ ap (λ o. reading.word_reading a.0 o []) (word_again w h.1) ∙ ap (whole (constant (datum.Bits w))) (sym h.0)
value_read c bounds (datum.Constant n i) s f h g =
    named_read c bounds f (constant_name c.scope n i) false _ (constant (datum.Constant n i)) (Choice n) h.1 (λ p. refl) g ∙ ap (whole (constant (datum.Constant n i))) (sym h.0)

no_primes : (primes : Primes) (primed : Bool) (p : Place) → IsAllowedPrime primes primed → reading.variable_primes primes primed p ≡ []
no_primes Allowed primed p h = refl
no_primes Refused primed p h = ap (λ b. reading.prime_failures b p) h

variable_read : (c : Context) (bounds : List Local) (v : ℕ) (primed : Bool) (s : Sort) (f : form.Tree) → IsWellScoped c bounds (variable v primed) s
    → Shows f (part (atoms.Symbol (name_at (names_of c.variables) v) primed)) → read c bounds f ≡ whole (variable v primed) s
variable_read c bounds v primed s f h g =
    named_read c bounds f (name_at (names_of c.variables) v) primed _ (variable v primed) s h.0 (λ p. ap (reading.checked_term (variable v primed) (Some s)) (no_primes c.primes primed p h.1)) g

-- HEADS

-- the head of a list at p, which means this
pub record IsHead (c : Context) (p : Place) (f : form.Tree) (h : Head) : Type 0 where
  pub no_let : is_word (codes "let") f ≡ false
  pub no_literal : is_word (codes "_") f ≡ false
  pub primes : reading.head_primes f ≡ []
  pub meant : reading.head_of c.scope p f ≡ Ok h

known_some : (o : Option Head) (h : Head) (r : Refusal) → o ≡ Some h → reading.known_head o r ≡ Ok h
known_some o h r e = ap (λ o. reading.known_head o r) e

symbol_head : (c : Context) (p q : Place) (name : List ℕ) (h : Head) → bytes_eq name (codes "let") ≡ false → bytes_eq name (codes "_") ≡ false → head_named c.scope name ≡ Some h
    → IsHead c p (form.atom q (atoms.Symbol name false)) h
symbol_head c p q name h a b e = record {
  no_let = a;
  no_literal = b;
  primes = refl;
  meant = known_some (head_named c.scope name) h _ e;
}

unary_apart : (u : Unary) → (bytes_eq (unary_word u) (codes "let") ≡ false) × (bytes_eq (unary_word u) (codes "_") ≡ false)
unary_apart one.Not = (refl, refl)
unary_apart u = (refl, refl)

binary_apart : (b : Binary) → (bytes_eq (binary_word b) (codes "let") ≡ false) × (bytes_eq (binary_word b) (codes "_") ≡ false)
binary_apart two.And = (refl, refl)
binary_apart b = (refl, refl)

operator_apart : (o : TermOp) → (bytes_eq (operator_word o) (codes "let") ≡ false) × (bytes_eq (operator_word o) (codes "_") ≡ false)
operator_apart (op.BvUnary u) = unary_apart u
operator_apart (op.BvBinary b) = binary_apart b
operator_apart o = (refl, refl)

word_head : (c : Context) (p : Place) (o : TermOp) (f : form.Tree) → head_named c.scope (operator_word o) ≡ Some (heads.Operator o) → Shows f (word (operator_word o)) → IsHead c p f (heads.Operator o)
word_head c p o f e g =
    let a = shape.is_word f (operator_word o) g in
    let d = operator_apart o in
    subst (λ f. IsHead c p f (heads.Operator o)) (sym a.1) (symbol_head c p a.0 (operator_word o) (heads.Operator o) d.0 d.1 e)

indexed_head : (c : Context) (p : Place) (f : form.Tree) (name : List ℕ) (xs : Showns) (h : Head) → Shows f (group (shown (word (codes "_")) (shown (word name) xs)))
    → ((q : Place) (ts : form.Trees) → ShowEach ts xs → reading.symbol_head p q (Some (name, false)) ts ≡ Ok h) → IsHead c p f h
indexed_head c p f name xs h g e =
    let a = shape.is_indexed f name xs g in
    subst (λ f. IsHead c p f h) (sym a.4) (record { no_let = refl; no_literal = refl; primes = refl; meant = e a.0 a.3 a.5 })

extract_head : (p q : Place) (high low : ℕ) (ts : form.Trees) → high < 4294967296 → low < 4294967296 → ShowEach ts (shown (numeral high) (shown (numeral low) no_showns))
    → reading.symbol_head p q (Some (codes "extract", false)) ts ≡ Ok (heads.Operator (op.Extract high low))
unfolding Rattle.moxi_terms.specs.Words.indexed_operators
extract_head p q high low ts h l g =
    let a = shape.is_two ts (numeral high) (numeral low) g in
    let u = shape.is_part a.0 _ a.3 in
    let v = shape.is_part a.1 _ a.4 in
    ap (reading.symbol_head p q (Some (codes "extract", false))) (a.2 ∙ ap (λ t. form.tree t (form.tree a.1 form.no_trees)) u.1 ∙ ap (λ t. form.tree (form.atom u.0 (atoms.Numeral (decimal high))) (form.tree t form.no_trees)) v.1)
    ∙ ap (λ n. Ok (heads.Operator (op.Extract n (sort_reading.index_of (decimal low))))) (index_again high h)
    ∙ ap (λ n. Ok (heads.Operator (op.Extract high n))) (index_again low l)

zero_head : (p q : Place) (n : ℕ) (ts : form.Trees) → n < 4294967296 → ShowEach ts (shown (numeral n) no_showns)
    → reading.symbol_head p q (Some (codes "zero_extend", false)) ts ≡ Ok (heads.Operator (op.ZeroExtend n))
unfolding Rattle.moxi_terms.specs.Words.indexed_operators
zero_head p q n ts h g =
    let a = shape.is_one ts (numeral n) g in
    let u = shape.is_part a.0 _ a.2 in
    ap (reading.symbol_head p q (Some (codes "zero_extend", false))) (a.1 ∙ ap (λ t. form.tree t form.no_trees) u.1)
    ∙ ap (λ n. Ok (heads.Operator (op.ZeroExtend n))) (index_again n h)

sign_head : (p q : Place) (n : ℕ) (ts : form.Trees) → n < 4294967296 → ShowEach ts (shown (numeral n) no_showns)
    → reading.symbol_head p q (Some (codes "sign_extend", false)) ts ≡ Ok (heads.Operator (op.SignExtend n))
unfolding Rattle.moxi_terms.specs.Words.indexed_operators
sign_head p q n ts h g =
    let a = shape.is_one ts (numeral n) g in
    let u = shape.is_part a.0 _ a.2 in
    ap (reading.symbol_head p q (Some (codes "sign_extend", false))) (a.1 ∙ ap (λ t. form.tree t form.no_trees) u.1)
    ∙ ap (λ n. Ok (heads.Operator (op.SignExtend n))) (index_again n h)

operator_head : (c : Context) (p : Place) (o : TermOp) (f : form.Tree) → IsKnownOperator c.scope o → Shows f (shown_operator o) → IsHead c p f (heads.Operator o)
operator_head c p (op.Extract high low) f h g = indexed_head c p f (codes "extract") _ _ g (λ q ts e. extract_head p q high low ts h.0 h.1 e)
operator_head c p (op.ZeroExtend n) f h g = indexed_head c p f (codes "zero_extend") _ _ g (λ q ts e. zero_head p q n ts h e)
operator_head c p (op.SignExtend n) f h g = indexed_head c p f (codes "sign_extend") _ _ g (λ q ts e. sign_head p q n ts h e)
operator_head c p o f h g = word_head c p o f h g

-- APPLICATIONS

abbrev all_read : Trees → List Sort → Arguments
all_read us ss = record { terms = list_of us; sorts = Some ss; failures = [] }

trees_back : (us : Trees) → trees_of (list_of us) ≡ us
trees_back no_trees = refl
trees_back (tree t us) = ap (tree t) (trees_back us)

each_long : (c : Context) (bounds : List Local) (us : Trees) (ss : List Sort) → AreWellScoped c bounds us ss → length (list_of us) ≡ length ss
each_long c bounds no_trees [] h = refl
each_long c bounds no_trees (s ∷ ss) h = absurd h
each_long c bounds (tree t us) [] h = absurd h
each_long c bounds (tree t us) (s ∷ ss) h = ap suc (each_long c bounds us ss h.1)

tests_pass : (fs : List PlainFunction) (p : Place) (h : Head) (n : ℕ) (ss : List Sort) (s : Sort) → typing.head_count_fits fs h n ≡ true → typing.head_sort fs h ss ≡ Ok s
    → reading.argument_tests fs p h n (Some ss) ≡ []
tests_pass fs p h n ss s a b =
    ap (λ t. cond t (reading.sorts_tested fs p h (Some ss)) (refusal 12 p ∷ [])) a ∙ ap (reading.sort_failures p) b

application_whole : (fs : List PlainFunction) (p : Place) (h : Head) (us : Trees) (ss : List Sort) (s : Sort)
    → typing.head_count_fits fs h (length (list_of us)) ≡ true → typing.head_sort fs h ss ≡ Ok s → reading.application fs p [] (Ok h) (all_read us ss) ≡ whole (reading.headed h us) s
application_whole fs p h us ss s a b =
    let tests = reading.argument_tests fs p h (length (list_of us)) (Some ss) in
    ap (λ u. record { term = reading.headed h u; sort = reading.unless_failed tests (reading.applied_sort fs h (Some ss)); failures = tests }) (trees_back us)
    ∙ ap (λ xs. record { term = reading.headed h us; sort = reading.unless_failed xs (reading.applied_sort fs h (Some ss)); failures = xs }) (tests_pass fs p h (length (list_of us)) ss s a b)
    ∙ ap (λ r. record { term = reading.headed h us; sort = reading.sort_result r; failures = [] }) b

neither : (a b : Bool) (x y z : Reading) → a ≡ false → b ≡ false → cond a x (cond b y z) ≡ z
neither a b x y z e f = ap (λ t. cond t x (cond b y z)) e ∙ ap (λ t. cond t y z) f

application_read : (c : Context) (bounds : List Local) (p : Place) (f : form.Tree) (fs : form.Trees) (h : Head) (us : Trees) (ss : List Sort) (s : Sort) → IsHead c p f h
    → read_all c bounds fs ≡ all_read us ss → typing.head_count_fits c.scope.functions h (length (list_of us)) ≡ true → typing.head_sort c.scope.functions h ss ≡ Ok s
    → read c bounds (form.list p (form.tree f fs)) ≡ whole (reading.headed h us) s
application_read c bounds p f fs h us ss s i e a b =
    neither (is_word (codes "let") f) (is_word (codes "_") f) _ _ _ i.no_let i.no_literal
    ∙ ap (λ ps. reading.application c.scope.functions p ps (reading.head_of c.scope p f) (read_all c bounds fs)) i.primes
    ∙ ap (λ h. reading.application c.scope.functions p [] h (read_all c bounds fs)) i.meant
    ∙ ap (reading.application c.scope.functions p [] (Ok h)) e
    ∙ application_whole c.scope.functions p h us ss s a b

-- what an application of an operator reads, where its arguments are read
operator_read : (c : Context) (bounds : List Local) (o : TermOp) (us : Trees) (xs : Showns) (ss : List Sort) (s : Sort) (f : form.Tree)
    → ((fs : form.Trees) → ShowEach fs xs → read_all c bounds fs ≡ all_read us ss) → AreWellScoped c bounds us ss → op_sort o ss ≡ Ok s → IsKnownOperator c.scope o
    → Shows f (group (shown (shown_operator o) xs)) → read c bounds f ≡ whole (apply o us) s
operator_read c bounds o us xs ss s f ih each sorted stands g =
    let a = shape.is_group f _ g in
    let b = shape.is_more a.1 _ _ a.3 in
    let count = (taken (count_fits o (length ss)) (fitting o ss) (M 12) s sorted).0 in
    ap (read c bounds) (a.2 ∙ ap (form.list a.0) b.2)
    ∙ application_read c bounds a.0 b.0 b.1 (heads.Operator o) us ss s (operator_head c a.0 o b.0 stands b.3) (ih b.1 b.4) (ap (count_fits o) (each_long c bounds us ss each) ∙ count) sorted

-- CALLS

same_selves : (ss : List Sort) → same_sorts ss ss ≡ true
same_selves [] = refl
same_selves (s ∷ ss) = and_from (same_sort s s) (same_sorts ss ss) (same_self s) (same_selves ss)

function_name : (fs : List PlainFunction) (n : ℕ) (f : PlainFunction) → slice_get fs n ≡ Some f → name_at (map (λ (f : PlainFunction). f.name) fs) n ≡ f.name
function_name [] n f h = absurd (none-some f h)
function_name (g ∷ gs) zero f h = ap (λ (f : PlainFunction). f.name) (same_Some g f h)
function_name (g ∷ gs) (suc n) f h = function_name gs n f h

call_sorted : (o : Option PlainFunction) (f : PlainFunction) → o ≡ Some f → typing.call_sort o (sorts_of f.parameters) ≡ Ok f.result
call_sorted o f e = ap (λ o. typing.call_sort o (sorts_of f.parameters)) e ∙ ap (λ b. cond b (Ok f.result) (Err (M 5))) (same_selves (sorts_of f.parameters))

call_counted : (o : Option PlainFunction) (f : PlainFunction) (n : ℕ) → o ≡ Some f → n ≡ length (sorts_of f.parameters) → eqb n (typing.parameter_count o) ≡ true
call_counted o f n e h = ap (λ o. eqb n (typing.parameter_count o)) e ∙ eq-eqb n (length f.parameters) (h ∙ length-map f.parameters _)

-- what a call reads, where its arguments are read
call_read : (c : Context) (bounds : List Local) (n : ℕ) (fn : PlainFunction) (name : List ℕ) (us : Trees) (ss : List Sort) (f : form.Tree)
    → slice_get c.scope.functions n ≡ Some fn → name ≡ fn.name → sorts_of fn.parameters ≡ ss
    → ((fs : form.Trees) → ShowEach fs (shown_terms c.scope (names_of c.variables) (names_of bounds) us) → read_all c bounds fs ≡ all_read us ss)
    → AreWellScoped c bounds us ss → IsWellScopedCall c bounds n fn ss → Shows f (shown_call name (shown_terms c.scope (names_of c.variables) (names_of bounds) us)) → read c bounds f ≡ whole (call n us) fn.result
call_read c bounds n fn name no_trees [] f there same sorts ih each h g =
    named_read c bounds f name false _ (call n no_trees) fn.result (ap (meaning_of c bounds) same ∙ h) (λ p. refl) g
call_read c bounds n fn name no_trees (s ∷ ss) f there same sorts ih each h g = absurd each
call_read c bounds n fn name (tree t us) [] f there same sorts ih each h g = absurd each
call_read c bounds n fn name (tree t us) (s ∷ ss) f there same sorts ih each h g =
    let a = shape.is_group f _ g in
    let b = shape.is_more a.1 _ _ a.3 in
    let q = shape.is_part b.0 _ b.3 in
    let head = symbol_head c a.0 q.0 name (heads.Function n) (ap (λ x. bytes_eq x (codes "let")) same ∙ h.1) (ap (λ x. bytes_eq x (codes "_")) same ∙ h.2) (ap (head_named c.scope) same ∙ h.0) in
    ap (read c bounds) (a.2 ∙ ap (form.list a.0) b.2)
    ∙ application_read c bounds a.0 b.0 b.1 (heads.Function n) (tree t us) (s ∷ ss) fn.result (subst (λ f. IsHead c a.0 f (heads.Function n)) (sym q.1) head) (ih b.1 b.4)
    (call_counted (slice_get c.scope.functions n) fn _ there (each_long c bounds (tree t us) (s ∷ ss) each ∙ ap length (sym sorts)))
    (ap (typing.call_sort (slice_get c.scope.functions n)) (sym sorts) ∙ call_sorted (slice_get c.scope.functions n) fn there)

-- BINDINGS

abbrev all_bound : List (List ℕ) → Trees → List Sort → Bindings
all_bound names us ss = record { locals = bound_locals names ss; terms = list_of us; shape = []; failures = [] }

pub bound_names : (names : List (List ℕ)) (ss : List Sort) → length names ≡ length ss → names_of (bound_locals names ss) ≡ names
bound_names [] ss h = refl
bound_names (name ∷ names) [] h = absurd (omega (arith, h))
bound_names (name ∷ names) (s ∷ ss) h = ap (λ ns. name ∷ ns) (bound_names names ss (omega (arith, h)))

bound_have_sorts : (names : List (List ℕ)) (ss : List Sort) → list_all reading.has_sort (bound_locals names ss) ≡ true
bound_have_sorts [] ss = refl
bound_have_sorts (name ∷ names) [] = refl
bound_have_sorts (name ∷ names) (s ∷ ss) = bound_have_sorts names ss

-- `(name term)`
binding_read : (c : Context) (bounds : List Local) (q : Place) (name : List ℕ) (x : Shown) (t : Tree) (s : Sort) (b : form.Tree)
    → ((f : form.Tree) → Shows f x → read c bounds f ≡ whole t s) → Shows b (group (shown (symbol name) (shown x no_showns)))
    → reading.read_binding c bounds q b ≡ all_bound (name ∷ []) (tree t no_trees) (s ∷ [])
binding_read c bounds q name x t s b ih g =
    let a = shape.is_group b _ g in
    let d = shape.is_two a.1 _ _ a.3 in
    let u = shape.is_part d.0 _ d.3 in
    ap (reading.read_binding c bounds q) (a.2 ∙ ap (form.list a.0) (d.2 ∙ ap (λ u. form.tree u (form.tree d.1 form.no_trees)) u.1))
    ∙ ap (reading.bound_to name []) (ih d.1 d.4)

let_read : (c : Context) (bounds : List Local) (names : List (List ℕ)) (us : Trees) (t : Tree) (ss : List Sort) (s : Sort) (xs : Showns) (x : Shown) (f : form.Tree)
    → 0 < length names → length names ≡ length ss
    → ((q : Place) (bs : form.Trees) → ShowEach bs xs → (reading.bindings_tests q bs ≡ []) × (read_bindings c bounds q bs ≡ all_bound names us ss))
    → ((g : form.Tree) → Shows g x → read c (bounds ++ bound_locals names ss) g ≡ whole t s)
    → Shows f (group (shown (word (codes "let")) (shown (group xs) (shown x no_showns)))) → read c bounds f ≡ whole (binding names us t) s
let_read c bounds names us t ss s xs x f some long ih body g =
    let a = shape.is_group f _ g in
    let b = shape.is_more a.1 _ _ a.3 in
    let w = shape.is_word b.0 (codes "let") b.3 in
    let d = shape.is_two b.1 _ _ b.4 in
    let e = shape.is_group d.0 xs d.3 in
    let bs = ih e.0 e.1 e.3 in
    ap (read c bounds) (a.2 ∙ ap (form.list a.0) (b.2 ∙ ap (λ h. form.tree h b.1) w.1 ∙ ap (form.tree (form.atom w.0 (atoms.Symbol (codes "let") false))) (d.2 ∙ ap (λ l. form.tree l (form.tree d.1 form.no_trees)) e.2)))
    ∙ ap (λ tests. reading.let_reading tests (read_bindings c bounds e.0 e.1) (read c (bounds ++ (read_bindings c bounds e.0 e.1).locals) d.1)) bs.0
    ∙ ap (λ (x : Bindings). reading.let_reading [] x (read c (bounds ++ x.locals) d.1)) bs.1
    ∙ ap (reading.let_reading [] (all_bound names us ss)) (body d.1 d.4)
    ∙ ap (λ b. record { term = binding (names_of (bound_locals names ss)) (trees_of (list_of us)) t; sort = cond b (Some s) None; failures = [] }) (bound_have_sorts names ss)
    ∙ ap (λ ns. whole (binding ns (trees_of (list_of us)) t) s) (bound_names names ss long)
    ∙ ap (λ us. whole (binding names us t) s) (trees_back us)

-- a `let` that binds something has a binding
some_bindings : (c : Context) (bounds : List Local) (sc : ScopeState) (vars outer names : List (List ℕ)) (us : Trees) (ss : List Sort) (q : Place) (bs : form.Trees) → AreWellScoped c bounds us ss → length names ≡ length ss → 0 < length names
    → ShowEach bs (shown_bindings sc vars outer names us) → reading.bindings_tests q bs ≡ []
some_bindings c bounds sc vars outer names no_trees [] q bs h l some g = absurd (omega (arith, l, some))
some_bindings c bounds sc vars outer names no_trees (s ∷ ss) q bs h l some g = absurd h
some_bindings c bounds sc vars outer [] (tree t us) ss q bs h l some g = absurd (omega (arith, some))
some_bindings c bounds sc vars outer (name ∷ names) (tree t us) ss q form.no_trees h l some g = absurd g
some_bindings c bounds sc vars outer (name ∷ names) (tree t us) ss q (form.tree b bs) h l some g = refl

-- TERMS

mutual
  pub term_read : (c : Context) (bounds : List Local) (t : Tree) (s : Sort) (f : form.Tree) → IsWellScoped c bounds t s → Shows f (shown_term c.scope (names_of c.variables) (names_of bounds) t)
      → read c bounds f ≡ whole t s
  term_read c bounds (constant d) s f h g = value_read c bounds d s f h g
  term_read c bounds (variable v primed) s f h g = variable_read c bounds v primed s f h g
  term_read c bounds (bound i) s f h g = named_read c bounds f (name_at (names_of bounds) i) false _ (bound i) s h (λ p. refl) g
  term_read c bounds (apply o us) s f h g =
      operator_read c bounds o us (shown_terms c.scope (names_of c.variables) (names_of bounds) us) h.0 s f (λ fs e. terms_read c bounds us h.0 fs h.1 e) h.1 h.2 h.3 g
  term_read c bounds (binding names us t) s f h g =
      let_read c bounds names us t h.0 s (shown_bindings c.scope (names_of c.variables) (names_of bounds) names us) (shown_term c.scope (names_of c.variables) (names_of bounds ++ names) t) f h.1 h.2
      (λ q bs e. (some_bindings c bounds c.scope (names_of c.variables) (names_of bounds) names us h.0 q bs h.3 h.2 h.1 e, bindings_read c bounds names us h.0 q bs h.3 h.2 e))
      (λ b e. term_read c (bounds ++ bound_locals names h.0) t s b h.4
      (subst (λ ns. Shows b (shown_term c.scope (names_of c.variables) ns t)) (sym (names_append bounds (bound_locals names h.0) ∙ ap (λ ns. names_of bounds ++ ns) (bound_names names h.0 h.2))) e)) g
  term_read c bounds (call n us) s f h g =
      call_read c bounds n h.0 (name_at (function_names c.scope) n) us (sorts_of h.0.parameters) f h.1 (function_name c.scope.functions n h.0 h.1) refl
      (λ fs e. terms_read c bounds us (sorts_of h.0.parameters) fs h.3 e) h.3 h.4 g ∙ ap (whole (call n us)) (sym h.2)

  pub terms_read : (c : Context) (bounds : List Local) (us : Trees) (ss : List Sort) (fs : form.Trees) → AreWellScoped c bounds us ss
      → ShowEach fs (shown_terms c.scope (names_of c.variables) (names_of bounds) us) → read_all c bounds fs ≡ all_read us ss
  terms_read c bounds no_trees [] fs h g = ap (read_all c bounds) (shape.is_none fs g)
  terms_read c bounds no_trees (s ∷ ss) fs h g = absurd h
  terms_read c bounds (tree t us) [] fs h g = absurd h
  terms_read c bounds (tree t us) (s ∷ ss) fs h g =
      let a = shape.is_more fs _ _ g in
      ap (read_all c bounds) a.2
      ∙ ap (λ r. reading.both_arguments (reading.argument r) (read_all c bounds a.1)) (term_read c bounds t s a.0 h.0 a.3)
      ∙ ap (reading.both_arguments (reading.argument (whole t s))) (terms_read c bounds us ss a.1 h.1 a.4)

  pub bindings_read : (c : Context) (bounds : List Local) (names : List (List ℕ)) (us : Trees) (ss : List Sort) (q : Place) (bs : form.Trees) → AreWellScoped c bounds us ss → length names ≡ length ss
      → ShowEach bs (shown_bindings c.scope (names_of c.variables) (names_of bounds) names us) → read_bindings c bounds q bs ≡ all_bound names us ss
  bindings_read c bounds [] no_trees [] q bs h l g = ap (read_bindings c bounds q) (shape.is_none bs g)
  bindings_read c bounds (name ∷ names) no_trees [] q bs h l g = absurd (omega (arith, l))
  bindings_read c bounds names no_trees (s ∷ ss) q bs h l g = absurd h
  bindings_read c bounds names (tree t us) [] q bs h l g = absurd h
  bindings_read c bounds [] (tree t us) (s ∷ ss) q bs h l g = absurd (omega (arith, l))
  bindings_read c bounds (name ∷ names) (tree t us) (s ∷ ss) q bs h l g =
      let a = shape.is_more bs _ _ g in
      ap (read_bindings c bounds q) a.2
      ∙ ap (λ x. reading.both_bindings x (read_bindings c bounds q a.1)) (binding_read c bounds q name (shown_term c.scope (names_of c.variables) (names_of bounds) t) t s a.0 (λ f e. term_read c bounds t s f h.0 e) a.3)
      ∙ ap (reading.both_bindings (all_bound (name ∷ []) (tree t no_trees) (s ∷ []))) (bindings_read c bounds names us ss q a.1 h.1 (omega (arith, l)) a.4)
