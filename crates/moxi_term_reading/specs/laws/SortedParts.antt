-- The parts of forms of which no test fails: names that are found, constants, words and the sorts of applications.
use Rattle.std.proofs.Common.{◌≡◌, ℕ, suc, ◌+◌, ◌^◌, ◌<◌, ◌≤◌, nat_le, nat_lt, Bool, true, false, cond, ◌&&◌, List, [], ◌∷◌, ◌++◌, length, Option, None, Some, Result, Ok, Err, refl, ap, ◌∙◌, subst, arith}
use Rattle.std.specs.Prelude.{slice_get, option_and_then, is_some}
use Rattle.std.specs.List.{AllByRecursion, list_all}
use Rattle.std.specs.Str.{bytes_eq}
use Rattle.std.proofs.lemmas.Bool.{and_parts}
use Rattle.std.proofs.lemmas.Bool.Decides.{nat_tests}
use Rattle.std.proofs.lemmas.Option.{same_Some, none-some}
use Rattle.text_core.specs.declared.place.Kind.{Kind}
use Rattle.text_core.specs.declared.place.Kind.TheVariants.{M}
use Rattle.text_core.specs.declared.place.Place.{Place}
use Rattle.text_core.specs.declared.place.Refusal.{Refusal}
use Rattle.word_core.specs.Words.{BitVector, IsWord}
use Rattle.word_core.specs.Digits.{read_word, digits_value, fitted}
use Rattle.word_core.specs.declared.word.TheConstants.{WIDEST}
use Rattle.moxi_sexpr.specs.Lexing.{refusal}
use Rattle.moxi_terms.specs.declared.data.Sort.{Sort}
use Rattle.moxi_terms.specs.declared.names.Head.{Head}
use Rattle.moxi_term_reading.specs.declared.heads.HeadFailure.{HeadFailure}
use Rattle.moxi_term_reading.specs.declared.heads.HeadFailure.TheVariants.{Unknown, Misshapen}
use Rattle.moxi_term_reading.specs.declared.locals.Local.{Local}
use Rattle.moxi_terms.specs.declared.term.Enumeration.{Enumeration}
use Rattle.moxi_terms.specs.declared.term.Variable.{Variable}
use Rattle.moxi_terms.specs.Tree.{PlainFunction, sorts_of}
use Rattle.moxi_terms.specs.Names.{or_else, numbered, constant_numbers}
use Rattle.moxi_terms.specs.Sorts.{IsConstant, same_sort, same_sorts}
use Rattle.moxi_term_reading.specs.Reading as reading
use Rattle.moxi_term_reading.specs.Typing as typing
use Rattle.moxi_term_reading.specs.Finding.{Found, first_of, last_of}
use Rattle.moxi_term_reading.specs.Answer.{locals_of}
use Rattle.moxi_term_reading.specs.WellSorted.{HaveKnownSorts}
use Rattle.moxi_terms.proofs.SortLaws.{same_sorts_are, same_ok}
use Rattle.moxi_term_reading.specs.laws.AllLaws.{all_of, all_at}
use Rattle.text_core.proofs.ListLaws.{all_append}

-- TESTS THAT HOLD

pub some_fails : {X : Type 0} (x : X) (xs : List X) → x ∷ xs ≡ [] → ⊥
some_fails x xs h = cc

pub none_in : {X : Type 0} (xs ys : List X) → xs ++ ys ≡ [] → (xs ≡ []) × (ys ≡ [])
none_in [] ys h = (refl, h)
none_in (x ∷ xs) ys h = absurd (some_fails x (xs ++ ys) h)

-- a head that stands for nothing fails a test
pub head_fails : (p : Place) (f : HeadFailure) (n : ℕ) → reading.head_tests p f n ≡ [] → ⊥
head_fails p (Unknown f) n h = some_fails f [] h
head_fails p (Misshapen q) n h = some_fails (refusal 12 q) _ h

pub stays : (fs : List Refusal) (s : Option Sort) → fs ≡ [] → reading.unless_failed fs s ≡ s
stays [] s h = refl
stays (f ∷ fs) s h = absurd (some_fails f fs h)

-- NAMES THAT ARE FOUND

-- the number, counted from n, is that of a name with its sort
abbrev pub FoundIn : ℕ → List Sort → Option Found → Type 0
FoundIn n ss None = Unit {0}
FoundIn n ss (Some f) = (i : ℕ) × (s : Sort) × (f.number ≡ n + i) × (slice_get ss i ≡ Some s) × (f.sort ≡ Some s)

pub found_later : (n : ℕ) (s : Sort) (ss : List Sort) (o : Option Found) → FoundIn (suc n) ss o → FoundIn n (s ∷ ss) o
found_later n s ss None h = tt
found_later n s ss (Some f) h = (suc h.0, h.1, (let e : f.number ≡ suc n + h.0 = h.2 in omega arith), h.3, h.4)

pub found_either : (n : ℕ) (ss : List Sort) (a b : Option Found) → FoundIn n ss a → FoundIn n ss b → FoundIn n ss (or_else a b)
found_either n ss None b h g = g
found_either n ss (Some f) b h g = h

pub found_here : (n : ℕ) (s : Sort) (ss : List Sort) (l : Local) → l.sort ≡ Some s → FoundIn n (s ∷ ss) (Some (record { number = n; sort = l.sort }))
found_here n s ss l h = (0, s, omega arith, refl, h)

pub first_found : (n : ℕ) (ls : List Local) (ss : List Sort) (name : List ℕ) → HaveKnownSorts ls ss → FoundIn n ss (first_of n ls name)
first_found n [] [] name h = tt
first_found n [] (s ∷ ss) name h = absurd h
first_found n (l ∷ ls) [] name h = absurd h
first_found n (l ∷ ls) (s ∷ ss) name h = by_test (bytes_eq name l.name) (found_later n s ss (first_of (suc n) ls name) (first_found (suc n) ls ss name h.1))
  where
    by_test : (b : Bool) → FoundIn n (s ∷ ss) (first_of (suc n) ls name) → FoundIn n (s ∷ ss) (cond b (Some (record { number = n; sort = l.sort })) (first_of (suc n) ls name))
    by_test true g = found_here n s ss l h.0
    by_test false g = g

pub last_found : (n : ℕ) (ls : List Local) (ss : List Sort) (name : List ℕ) → HaveKnownSorts ls ss → FoundIn n ss (last_of n ls name)
last_found n [] [] name h = tt
last_found n [] (s ∷ ss) name h = absurd h
last_found n (l ∷ ls) [] name h = absurd h
last_found n (l ∷ ls) (s ∷ ss) name h =
    found_either n (s ∷ ss) (last_of (suc n) ls name) _ (found_later n s ss (last_of (suc n) ls name) (last_found (suc n) ls ss name h.1)) (by_test (bytes_eq name l.name))
  where
    by_test : (b : Bool) → FoundIn n (s ∷ ss) (cond b (Some (record { number = n; sort = l.sort })) None)
    by_test true = found_here n s ss l h.0
    by_test false = tt

pub known_append : (ls ms : List Local) (ss ts : List Sort) → HaveKnownSorts ls ss → HaveKnownSorts ms ts → HaveKnownSorts (ls ++ ms) (ss ++ ts)
known_append [] ms [] ts h g = g
known_append [] ms (s ∷ ss) ts h g = absurd h
known_append (l ∷ ls) ms [] ts h g = absurd h
known_append (l ∷ ls) ms (s ∷ ss) ts h g = (h.0, known_append ls ms ss ts h.1 g)

pub all_have_sorts : (ls : List Local) (ss : List Sort) → HaveKnownSorts ls ss → list_all reading.has_sort ls ≡ true
all_have_sorts [] [] h = refl
all_have_sorts [] (s ∷ ss) h = absurd h
all_have_sorts (l ∷ ls) [] h = absurd h
all_have_sorts (l ∷ ls) (s ∷ ss) h = ap (λ o. is_some o && list_all reading.has_sort ls) h.0 ∙ all_have_sorts ls ss h.1

pub names_long : (ls : List Local) (ss : List Sort) → HaveKnownSorts ls ss → length (reading.names_of ls) ≡ length ss
names_long [] [] h = refl
names_long [] (s ∷ ss) h = absurd h
names_long (l ∷ ls) [] h = absurd h
names_long (l ∷ ls) (s ∷ ss) h = ap suc (names_long ls ss h.1)

pub known_variables : (vs : List Variable) → HaveKnownSorts (locals_of vs) (sorts_of vs)
known_variables [] = tt
known_variables (v ∷ vs) = (refl, known_variables vs)

-- CONSTANTS

-- the numbers of a constant, the enumerations counted from n
abbrev pub ConstantFrom : ℕ → List Enumeration → ℕ × ℕ → Type 0
ConstantFrom n es c = (m : ℕ) × (c.0 ≡ n + m) × IsConstant es m c.1

pub numbered_below : (n i b : ℕ) (cs : List (List ℕ)) → i + length cs ≡ b → AllByRecursion (λ (c : ℕ × ℕ). (c.0 ≡ n) × (c.1 < b)) (numbered n i cs)
numbered_below n i b [] h = tt
numbered_below n i b (c ∷ cs) h = ((refl, omega arith), numbered_below n (suc i) b cs (omega arith))

pub constants_from : (n : ℕ) (es : List Enumeration) → AllByRecursion (ConstantFrom n es) (constant_numbers n es)
constants_from n [] = tt
constants_from n (e ∷ es) =
    all_append (ConstantFrom n (e ∷ es)) (numbered n 0 e.constants) (constant_numbers (suc n) es)
    (all_of _ (ConstantFrom n (e ∷ es)) (numbered n 0 e.constants) (λ c h. (0, (let q : c.0 ≡ n = h.0 in omega arith), record { enumeration = e; there = refl; within = h.1 }))
    (numbered_below n 0 (length e.constants) e.constants (omega arith)))
    (all_of (ConstantFrom (suc n) es) (ConstantFrom n (e ∷ es)) (constant_numbers (suc n) es)
    (λ c h. (suc h.0, (let q : c.0 ≡ suc n + h.0 = h.1 in omega arith), record { enumeration = h.2.enumeration; there = h.2.there; within = h.2.within })) (constants_from (suc n) es))

pub constant_is : (es : List Enumeration) (k : ℕ) (x : ℕ × ℕ) → slice_get (constant_numbers 0 es) k ≡ Some x → IsConstant es x.0 x.1
constant_is es k x h =
    let p : ConstantFrom 0 es x = all_at (ConstantFrom 0 es) (constant_numbers 0 es) k x (constants_from 0 es) h in
    subst (λ m. IsConstant es m x.1) (let q : x.0 ≡ 0 + p.0 = p.1 in let r : p.0 ≡ x.0 = omega arith in r) p.2

-- WORDS

pub word_is : (b : Bool) (w : ℕ) (o : Option ℕ) (v : BitVector) → ((b ≡ true) → (1 ≤ w) × (w ≤ WIDEST)) → cond b (option_and_then (fitted w) o) None ≡ Some v → IsWord v
word_is false w o v f h = absurd (none-some v h)
word_is true w None v f h = absurd (none-some v h)
word_is true w (Some n) v f h = by_test (nat_lt n (2 ^ w)) refl h
  where
    by_test : (b : Bool) → nat_lt n (2 ^ w) ≡ b → cond b (Some (let r : BitVector = record { width = w; bits = n } in r)) None ≡ Some v → IsWord v
    by_test false e g = absurd (none-some v g)
    by_test true e g = subst IsWord (same_Some _ v g) ((f refl).0, (f refl).1, grind (arith, nat_tests))

pub read_is_word : (w base : ℕ) (digits : List ℕ) (v : BitVector) → read_word w base digits ≡ Some v → IsWord v
read_is_word w base digits v h = word_is (nat_le 1 w && nat_le w WIDEST) w (digits_value base digits) v (λ e. let p = and_parts (nat_le 1 w) (nat_le w WIDEST) e in (grind (arith, nat_tests), grind (arith, nat_tests))) h

-- SORTS OF APPLICATIONS

pub sorts_same : (ss ts : List Sort) → same_sorts ss ts ≡ true → ss ≡ ts
sorts_same [] [] h = refl
sorts_same [] (t ∷ ts) h = absurd (cc)
sorts_same (s ∷ ss) [] h = absurd (cc)
sorts_same (s ∷ ss) (t ∷ ts) h =
    let p = and_parts (same_sort s t) (same_sorts ss ts) h in
    ap (λ s. s ∷ ss) (same_sorts_are s t p.0) ∙ ap (λ ss. t ∷ ss) (sorts_same ss ts p.1)

pub sort_holds : (p : Place) (r : Result Sort Kind) → reading.sort_failures p r ≡ [] → (s : Sort) × (r ≡ Ok s)
sort_holds p (Ok s) h = (s, refl)
sort_holds p (Err k) h = absurd (some_fails (record { kind = k; place = p }) [] h)

pub tests_hold : (fs : List PlainFunction) (p : Place) (h : Head) (n : ℕ) (ss : List Sort) → reading.argument_tests fs p h n (Some ss) ≡ [] → (s : Sort) × (typing.head_sort fs h ss ≡ Ok s)
tests_hold fs p h n ss e = by_count (typing.head_count_fits fs h n) e
  where
    by_count : (b : Bool) → cond b (reading.sorts_tested fs p h (Some ss)) (refusal 12 p ∷ []) ≡ [] → (s : Sort) × (typing.head_sort fs h ss ≡ Ok s)
    by_count true e = sort_holds p (typing.head_sort fs h ss) e
    by_count false e = absurd (some_fails (refusal 12 p) [] e)

pub call_fits : (o : Option PlainFunction) (ss : List Sort) (s : Sort) → typing.call_sort o ss ≡ Ok s → (f : PlainFunction) × (o ≡ Some f) × (sorts_of f.parameters ≡ ss) × (f.result ≡ s)
call_fits None ss s h = absurd (cc)
call_fits (Some f) ss s h = by_test (same_sorts (sorts_of f.parameters) ss) refl h
  where
    by_test : (b : Bool) → same_sorts (sorts_of f.parameters) ss ≡ b → (let r : Result Sort Kind = cond b (Ok f.result) (Err (M 5)) in r) ≡ Ok s
        → (g : PlainFunction) × (Some f ≡ Some g) × (sorts_of g.parameters ≡ ss) × (g.result ≡ s)
    by_test true e g = (f, refl, sorts_same (sorts_of f.parameters) ss e, same_ok f.result s g)
    by_test false e g = absurd (cc)
