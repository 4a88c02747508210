-- An expression that has a type is evaluated safely.
use Rattle.std.proofs.Common.{◌≡◌, ℕ, zero, suc, ◌+◌, ◌-◌, Bool, true, false, not, ◌||◌, ◌==◌, if◌then◌else◌, ◌^◌, pos, neg_ℤ, int_le, List, [], ◌∷◌, Option, Some, None, option_map, is_some, refl, ap, subst, arith}
use Rattle.std.proofs.lemmas.Int.{ints}
use mathlib.Core.Logic.{◌⊎◌, inl, inr, ⊎_elim}
use Rattle.text_core.specs.declared.place.Place.{Place}
use Rattle.word_core.specs.Words.{BitVector}
use Rattle.word_core.specs.declared.kinds.Binary.TheVariants as OnWords
use Rattle.smv_text.specs.declared.tree.Path.{Path}
use Rattle.smv_text.specs.declared.operators.Prefix.{Prefix}
use Rattle.smv_text.specs.declared.operators.Function.{Function}
use Rattle.smv_text.specs.declared.operators.Infix.{Infix}
use Rattle.smv_text.specs.declared.operators.Infix.TheVariants.{Implies, Member, Union}
use Rattle.smv_text.specs.Tree.{Tree, truth, number, literal, name, prefix, chain, choice, cases, select, call, next, set, range, Links, no_links, link, Branches, no_branches, branch, Trees, no_trees, tree}
use Rattle.smv_meaning.specs.declared.value.Value.{Value}
use Rattle.smv_meaning.specs.declared.value.Value.TheVariants.{Truth, Integer, Symbol, Bits}
use Rattle.smv_meaning.specs.Values.{Valuation, no_value}
use Rattle.smv_meaning.specs.Operators.{Operands, truths, integers, words, mixed, operands_of, logical_of, negation, implied, applied, signed, called}
use Rattle.smv_meaning.specs.Expressions.{Denotation, alone, joined, is_implies, are_implies, is_from_right, denote, values_of}
use Rattle.smv_meaning.specs.Names.{Found, variable_at, body_at, instance_at, symbol_of, cyclic, none}
use Rattle.smv_meaning.specs.Meaning.{reading}
use Rattle.smv_meaning.specs.Types.{ExprType, truth_type, integer_type, symbol_type, word_type, in_limit, infix_fits, infix_type, divides, shifts, joins, is_union, prefix_fits, prefix_type, function_fits, arguments_fit, function_type, numbers_of, hull_of, first_type, are_same, implies_fits, is_select, is_word_type}
use Rattle.smv_meaning.specs.Checks.{check, passes, Position, single, under_next, Named, Typing, on_type, on_all, all_types, both_types, front_checks, front, are_unions, across, behind, branches_fit, branches_type, typing, link_types, linked, condition_types, value_types, tree_types}
use Rattle.smv_meaning.specs.Naming.{in_body, named_found, naming}
use Rattle.smv_meaning.specs.Safety.{Fits, front_value, Safe, SafeLinks, SafeOperands, SafeBranches, SafeTrees, SafeFound, SafePath, front_permits}
use Rattle.smv_meaning.specs.Typed.{LiesIn, Lies, Gives}
use Rattle.smv_meaning.specs.Owed.{HasType, TypedIsSafe}
use Rattle.smv_meaning.specs.laws.Booleans.{both_true, absurd_bool}
use Rattle.smv_laws.proofs.OperatorLaws.{AllLie, NumbersAre, infix_lies, prefix_lies, called_lies}
use Rattle.smv_laws.proofs.TypeLaws.{Fine, NamesLie, alone_fine, front_fine, fine, trees_lie, names_lie, six_true, two_tests, three_tests, number_is, divisor_is, numbers_are, all_cons, may_join, first_joins}

pub front_value_is : (op : Infix) (d c : Denotation) → (joined op d c).value ≡ front_value op d.value c
front_value_is Member d c = refl
front_value_is Union d c = refl
front_value_is op d c = refl

-- ---- what has a type

if_has : (b : Bool) (t : Option ExprType) → HasType (if b then t else None) → (b ≡ true) × HasType t
if_has true t h = (refl, h)
if_has false t h = cc

map_has : (f : ExprType → ExprType) (t : Option ExprType) → HasType (option_map f t) → HasType t
map_has f None h = cc
map_has f (Some t) h = refl

left_has : (f : ExprType → ExprType → ExprType) (t u : Option ExprType) → HasType (both_types f t u) → HasType t
left_has f None u h = cc
left_has f (Some t) u h = refl

right_has : (f : ExprType → ExprType → ExprType) (t u : Option ExprType) → HasType (both_types f t u) → HasType u
right_has f None u h = cc
right_has f (Some t) None h = cc
right_has f (Some t) (Some u) h = refl

all_have : (f : List ExprType → ExprType) (o : Option (List ExprType)) → HasType (option_map f o) → (us : List ExprType) × (o ≡ Some us)
all_have f None h = cc
all_have f (Some us) h = (us, refl)

branches_have : (cs vs : Option (List ExprType)) → HasType (branches_type cs vs) → (us : List ExprType) × (ws : List ExprType) × (cs ≡ Some us) × (vs ≡ Some ws)
branches_have None vs h = cc
branches_have (Some us) None h = cc
branches_have (Some us) (Some ws) h = (us, ws, refl, refl)

some_has : (t : Option ExprType) (u : ExprType) → t ≡ Some u → HasType t
some_has t u e = ap is_some e

-- an integer within the limit fits 64 bits
fits_in_limit : (t : ExprType) (v : Value) → in_limit t ≡ true → LiesIn t v → Fits v
fits_in_limit (integer_type low high) (Integer z) l h =
    let b = both_true (int_le (neg_ℤ (pos (2 ^ 62))) low) (int_le high (pos (2 ^ 62 - 1))) l in
    let p = b.0 in let q = b.1 in let r = h.0 in let s = h.1 in omega (arith, ints)
fits_in_limit (integer_type low high) v l h = absurd h
fits_in_limit truth_type (Truth b) l h = tt
fits_in_limit truth_type v l h = absurd h
fits_in_limit symbol_type (Symbol s) l h = tt
fits_in_limit symbol_type v l h = absurd h
fits_in_limit (word_type n) (Bits w) l h = tt
fits_in_limit (word_type n) v l h = absurd h

prefix_safe : (p : Place) (sign : Prefix) (n : ℕ) (t : Option ExprType) (v : Value) → Lies t v
    → HasType (if passes (check 16 p (on_type t (prefix_fits sign)) ∷ check 17 p (on_type t (λ u. in_limit (prefix_type sign n u))) ∷ []) then option_map (prefix_type sign n) t else None)
    → HasType t × Fits (signed sign n v)
prefix_safe p sign n None v h has = absurd_bool has
prefix_safe p sign n (Some t) v h has =
    let b = if_has _ (Some (prefix_type sign n t)) has in
    let c = two_tests (prefix_fits sign t) (in_limit (prefix_type sign n t)) b.0 in
    (refl, fits_in_limit (prefix_type sign n t) (signed sign n v) c.1 (prefix_lies sign n t v c.0 h))

number_safe : (p : Place) (n : ℕ) → HasType (if passes (check 17 p (in_limit (integer_type (pos n) (pos n))) ∷ []) then Some (integer_type (pos n) (pos n)) else None) → Fits (Integer (pos n))
number_safe p n has =
    let b = if_has _ (Some (integer_type (pos n) (pos n))) has in
    let c = both_true (in_limit (integer_type (pos n) (pos n))) true b.0 in
    fits_in_limit (integer_type (pos n) (pos n)) (Integer (pos n)) c.0 (omega (arith, ints), omega (arith, ints))

call_safe : (p : Place) (f : Function) (ts : Option (List ExprType)) (ns : List (Option ℕ)) (vs : List Value)
    → ((us : List ExprType) → ts ≡ Some us → AllLie us vs) → NumbersAre ns vs
    → HasType (if passes (check 16 p (on_all ts (function_fits f)) ∷ check 17 p (on_all ts (λ us. in_limit (function_type f us ns))) ∷ check 25 p (on_all ts (λ us. arguments_fit f us ns)) ∷ [])
    then option_map (λ us. function_type f us ns) ts else None)
    → ((us : List ExprType) × (ts ≡ Some us)) × Fits (called f vs)
call_safe p f None ns vs h is has = absurd_bool has
call_safe p f (Some us) ns vs h is has =
    let b = if_has _ (Some (function_type f us ns)) has in
    let c = three_tests (function_fits f us) (in_limit (function_type f us ns)) (arguments_fit f us ns) b.0 in
    ((us, refl), fits_in_limit (function_type f us ns) (called f vs) c.1 (called_lies f us ns vs c.0 c.2 (h us refl) is))

-- ---- fronts

-- the value of the next front lies in its type and fits, where no set may stand
pub front_safe : (f g : Path → Value) (op : Infix) (at : Position) (p : Place) (a b : Option ExprType) (e : Tree) (v : Value)
    → HasType (if passes (front_checks op at p a b e) then both_types (λ t u. infix_type op t u e) a b else None)
    → (is_union op ≡ true) ⊎ (Lies a v × ((behind op at).sets ≡ false → Lies b (denote f g e).value))
    → Fits (front_value op v (denote f g e))
front_safe f g Member at p a b e v has h = tt
front_safe f g Union at p a b e v has h = tt
front_safe f g op at p None b e v has h = absurd_bool (if_has (passes (front_checks op at p None b e)) None has).1
front_safe f g op at p (Some t) None e v has h = absurd_bool (if_has (passes (front_checks op at p (Some t) None e)) None has).1
front_safe f g op at p (Some t) (Some u) e v has (inl union) = absurd_bool union
front_safe f g op at p (Some t) (Some u) e v has (inr h) =
    let b = if_has _ (Some (infix_type op t u e)) has in
    let c = six_true (infix_fits op t u) (in_limit (infix_type op t u e)) (not (is_union op) || at.sets) (divides op e) (shifts op t e) (joins op t u) b.0 in
    fits_in_limit (infix_type op t u e) (applied op v (denote f g e).value) c.1
    (infix_lies op t u e v (denote f g e).value refl c.0 c.3 c.4 c.5 (divisor_is f g e) (number_is f g e) h.0 (h.1 refl))

-- ---- the law of the open definitions

-- what is owed of each name that has a type
abbrev pub Owed : (Path → Named) → (Path → Type 0) → Type 0
Owed names P = (x : Path) → HasType (names x).type → P x

linked_has : (names : Path → Named) (at : Position) (p : Place) (a : Typing) (ls : Links) → HasType (linked names at p a ls).type → HasType a.type
linked_has names at p a no_links h = h
linked_has names at p a (link op e ls) h =
    let f = linked_has names at p (front op at p a (typing names (behind op at) e) e) ls h in
    left_has (λ t u. infix_type op t u e) a.type (typing names (behind op at) e).type
    (if_has (passes (front_checks op at p a.type (typing names (behind op at) e).type e)) (both_types (λ t u. infix_type op t u e) a.type (typing names (behind op at) e).type) f).1

typing_has : (b : Bool) (x y : Typing) → HasType (if b then x else y).type → ((b ≡ true) × HasType x.type) ⊎ ((b ≡ false) × HasType y.type)
typing_has true x y h = inl (refl, h)
typing_has false x y h = inr (refl, h)

-- where no set may stand, the value of a front lies in its type
front_lies : (f g : Path → Value) (op : Infix) (at : Position) (p : Place) (a b : Typing) (e : Tree) (v : Value) → at.sets ≡ false → Lies a.type v
    → Fine b.type (denote f g e) (behind op at).sets → Lies (front op at p a b e).type (front_value op v (denote f g e))
front_lies f g op at p a b e v s h k =
    subst (λ w. Lies (front op at p a b e).type w) (front_value_is op (alone v) (denote f g e))
    ((front_fine f g op at p a b e (alone v) (alone_fine a.type v at.sets h) k (inl s)).valued s)

-- `->` gives no integer
implied_fits : (a b : Value) → Fits (implied a b)
implied_fits a b = by (operands_of (negation a) b)
  where
    by_width : (t : Bool) (w : BitVector) → Fits (if t then Bits w else no_value)
    by_width true w = tt
    by_width false w = tt

    by : (o : Operands) → Fits (logical_of (λ p q. p || q) OnWords.Or o)
    by (truths x y) = tt
    by (integers x y) = tt
    by (words x y) = by_width (x.width == y.width) _
    by mixed = tt

implies_is : (op : Infix) (v : Value) (c : Denotation) → is_implies op ≡ true → Fits (front_value op v c)
implies_is Implies v c e = implied_fits v c.value
implies_is op v c e = absurd_bool e

safe_right : (P Q : Path → Type 0) (f g : Path → Value) (v : Value) (ls : Links) → are_implies ls ≡ true → SafeOperands P Q f g ls → SafeLinks P Q f g v ls
safe_right P Q f g v no_links e h = tt
safe_right P Q f g v (link op x ls) e h =
    let b = both_true (is_implies op) (are_implies ls) e in
    (h.0, implies_is op v (denote f g x) b.0, safe_right P Q f g (front_value op v (denote f g x)) ls b.1 h.1)

all_imply : (ls : Links) → is_from_right ls ≡ true → are_implies ls ≡ true
all_imply no_links e = absurd_bool e
all_imply (link op x ls) e = e

operands_safe : (P Q : Path → Type 0) (f g : Path → Value) (v : Value) (ls : Links) → SafeLinks P Q f g v ls → SafeOperands P Q f g ls
operands_safe P Q f g v no_links h = tt
operands_safe P Q f g v (link op x ls) h = (h.0, operands_safe P Q f g (front_value op v (denote f g x)) ls h.2)

mutual
  pub safe : (names : Path → Named) (f g : Path → Value) (P Q : Path → Type 0) → NamesLie names f → NamesLie names g → Owed names P → Owed names Q → (at : Position) (e : Tree)
      → HasType (typing names at e).type → Safe P Q f g e
  safe names f g P Q hf hg p q at (truth l b) h = tt
  safe names f g P Q hf hg p q at (number l n) h = number_safe l n h
  safe names f g P Q hf hg p q at (literal l w) h = tt
  safe names f g P Q hf hg p q at (name l x) h = p x (if_has (passes (check 16 l (not (names x).is_instance) ∷ check 18 l (at.inputs || not (names x).reaches_input) ∷ [])) (names x).type h).1
  safe names f g P Q hf hg p q at (prefix l sign n e) h =
      let s = prefix_safe l sign n (typing names (single at) e).type (denote f g e).value ((fine names f g hf hg (single at) e).valued refl) h in
      (safe names f g P Q hf hg p q (single at) e s.0, s.1)
  safe names f g P Q hf hg p q at (chain l e ls) h = ⊎_elim
      (λ r.
      let s = all_have first_type (all_types ((typing names (single at) e).type ∷ link_types names (single at) ls))
      (if_has (passes (check 16 l (on_all (all_types ((typing names (single at) e).type ∷ link_types names (single at) ls)) implies_fits) ∷ []))
      (option_map first_type (all_types ((typing names (single at) e).type ∷ link_types names (single at) ls))) r.1).1 in
      let c = all_cons (typing names (single at) e).type (link_types names (single at) ls) s.0 s.1 in
      let o = safe_operands names f g P Q hf hg p q (single at) ls c.1 c.3 in
      (safe names f g P Q hf hg p q (single at) e (some_has (typing names (single at) e).type c.0 c.2), safe_right P Q f g (denote f g e).value ls (all_imply ls r.0) o, o))
      (λ r.
      let own = linked_has names (across ls at) l (typing names (across ls at) e) ls r.1 in
      let s = safe_links names f g P Q hf hg p q (across ls at) l (typing names (across ls at) e) (denote f g e).value ls (may_join ls at (are_unions ls) refl)
      (fine names f g hf hg (across ls at) e).valued r.1 in
      (safe names f g P Q hf hg p q (across ls at) e own, s, operands_safe P Q f g (denote f g e).value ls s))
      (typing_has (is_from_right ls) _ _ h)
  safe names f g P Q hf hg p q at (choice l bs e) h =
      let b = branches_have (all_types (condition_types names (single at) bs)) (all_types (value_types names at bs ((typing names at e).type ∷ [])))
      (if_has (passes (check 16 l (branches_fit (all_types (condition_types names (single at) bs)) (all_types (value_types names at bs ((typing names at e).type ∷ [])))) ∷ []))
      (branches_type (all_types (condition_types names (single at) bs)) (all_types (value_types names at bs ((typing names at e).type ∷ [])))) h).1 in
      let s = safe_branches names f g P Q hf hg p q at bs ((typing names at e).type ∷ []) b.0 b.1 b.2 b.3 in
      let c = all_cons (typing names at e).type [] s.1.0 s.1.1 in
      (s.0, safe names f g P Q hf hg p q at e (some_has (typing names at e).type c.0 c.2))
  safe names f g P Q hf hg p q at (cases l bs) h =
      let b = branches_have (all_types (condition_types names (single at) bs)) (all_types (value_types names at bs []))
      (if_has (passes (check 16 l (branches_fit (all_types (condition_types names (single at) bs)) (all_types (value_types names at bs []))) ∷ []))
      (branches_type (all_types (condition_types names (single at) bs)) (all_types (value_types names at bs []))) h).1 in
      (safe_branches names f g P Q hf hg p q at bs [] b.0 b.1 b.2 b.3).0
  safe names f g P Q hf hg p q at (select l e high low) h =
      safe names f g P Q hf hg p q (single at) e
      (map_has (λ u. word_type (high - low + 1)) (typing names (single at) e).type
      (if_has (passes (check 16 l (on_type (typing names (single at) e).type is_word_type) ∷ check 25 l (on_type (typing names (single at) e).type (λ u. is_select u high low)) ∷ []))
      (option_map (λ u. word_type (high - low + 1)) (typing names (single at) e).type) h).1)
  safe names f g P Q hf hg p q at (call l k es) h =
      let s = call_safe l k (all_types (tree_types names (single at) es)) (numbers_of es) (values_of f g es) (λ us e. trees_lie names f g hf hg at es us e) (numbers_are f g es) h in
      (safe_trees names f g P Q hf hg p q (single at) es s.0.0 s.0.1, s.1)
  safe names f g P Q hf hg p q at (next l e) h =
      safe names g g Q Q hg hg q q under_next e (if_has (passes (check 19 l at.nexts ∷ [])) (typing names under_next e).type h).1
  safe names f g P Q hf hg p q at (set l es) h =
      let s = all_have hull_of (all_types (tree_types names at es))
      (if_has (passes (check 16 l (on_all (all_types (tree_types names at es)) are_same) ∷ check 20 l at.sets ∷ [])) (option_map hull_of (all_types (tree_types names at es))) h).1 in
      safe_trees names f g P Q hf hg p q at es s.0 s.1
  safe names f g P Q hf hg p q at (range l low high) h = tt

  safe_trees : (names : Path → Named) (f g : Path → Value) (P Q : Path → Type 0) → NamesLie names f → NamesLie names g → Owed names P → Owed names Q → (at : Position) (es : Trees)
      → (us : List ExprType) → all_types (tree_types names at es) ≡ Some us → SafeTrees P Q f g es
  safe_trees names f g P Q hf hg p q at no_trees us h = tt
  safe_trees names f g P Q hf hg p q at (tree e es) us h =
      let c = all_cons (typing names at e).type (tree_types names at es) us h in
      (safe names f g P Q hf hg p q at e (some_has (typing names at e).type c.0 c.2), safe_trees names f g P Q hf hg p q at es c.1 c.3)

  safe_branches : (names : Path → Named) (f g : Path → Value) (P Q : Path → Type 0) → NamesLie names f → NamesLie names g → Owed names P → Owed names Q → (at : Position) (bs : Branches)
      → (more : List (Option ExprType)) (us ws : List ExprType) → all_types (condition_types names (single at) bs) ≡ Some us → all_types (value_types names at bs more) ≡ Some ws
      → SafeBranches P Q f g bs × ((rest : List ExprType) × (all_types more ≡ Some rest))
  safe_branches names f g P Q hf hg p q at no_branches more us ws h k = (tt, (ws, k))
  safe_branches names f g P Q hf hg p q at (branch c e rest) more us ws h k =
      let a = all_cons (typing names (single at) c).type (condition_types names (single at) rest) us h in
      let b = all_cons (typing names at e).type (value_types names at rest more) ws k in
      let r = safe_branches names f g P Q hf hg p q at rest more a.1 b.1 a.3 b.3 in
      ((safe names f g P Q hf hg p q (single at) c (some_has (typing names (single at) c).type a.0 a.2), safe names f g P Q hf hg p q at e (some_has (typing names at e).type b.0 b.2), r.0), r.1)

  safe_operands : (names : Path → Named) (f g : Path → Value) (P Q : Path → Type 0) → NamesLie names f → NamesLie names g → Owed names P → Owed names Q → (at : Position) (ls : Links)
      → (us : List ExprType) → all_types (link_types names at ls) ≡ Some us → SafeOperands P Q f g ls
  safe_operands names f g P Q hf hg p q at no_links us h = tt
  safe_operands names f g P Q hf hg p q at (link op e ls) us h =
      let c = all_cons (typing names at e).type (link_types names at ls) us h in
      (safe names f g P Q hf hg p q at e (some_has (typing names at e).type c.0 c.2), safe_operands names f g P Q hf hg p q at ls c.1 c.3)

  safe_links : (names : Path → Named) (f g : Path → Value) (P Q : Path → Type 0) → NamesLie names f → NamesLie names g → Owed names P → Owed names Q → (at : Position) (l : Place) (a : Typing) (v : Value) (ls : Links)
      → (at.sets ≡ false) ⊎ (are_unions ls ≡ true) → (at.sets ≡ false → Lies a.type v) → HasType (linked names at l a ls).type → SafeLinks P Q f g v ls
  safe_links names f g P Q hf hg p q at l a v no_links may lies h = tt
  safe_links names f g P Q hf hg p q at l a v (link op e ls) may lies h =
      let b = typing names (behind op at) e in
      let ft = linked_has names at l (front op at l a b e) ls h in
      let bt = right_has (λ t u. infix_type op t u e) a.type b.type (if_has (passes (front_checks op at l a.type b.type e)) (both_types (λ t u. infix_type op t u e) a.type b.type) ft).1 in
      let j = first_joins op e ls at.sets may in (
        safe names f g P Q hf hg p q (behind op at) e bt,
        front_safe f g op at l a.type b.type e v ft (⊎_elim (λ s. inr (lies s, (fine names f g hf hg (behind op at) e).valued)) (λ u. inl u) j.0),
        safe_links names f g P Q hf hg p q at l (front op at l a b e) (front_value op v (denote f g e)) ls j.1
            (λ s. front_lies f g op at l a b e v s (lies s) (fine names f g hf hg (behind op at) e)) h,
      )

-- ---- the law of the closed ones

safe_found : (inputs : Bool) (found : ℕ → Path → Found) (state label : Valuation) → Gives inputs found state label → (n : ℕ) (m : Found)
    → ((i : ℕ) (x : Path) → HasType (naming inputs found n i x).type → SafePath found n state label i x)
    → HasType (named_found inputs (naming inputs found n) m).type → SafeFound (SafePath found n state label) (reading found n state label) m
safe_found inputs found state label gives n (variable_at x kind d) ih h = tt
safe_found inputs found state label gives n (body_at i x j e) ih h =
    let lies = names_lie inputs found state label gives n j in
    safe (naming inputs found n j) (reading found n state label j) (reading found n state label j) (SafePath found n state label j) (SafePath found n state label j) lies lies (ih j) (ih j) in_body e h
safe_found inputs found state label gives n (instance_at i) ih h = tt
safe_found inputs found state label gives n (symbol_of x) ih h = tt
safe_found inputs found state label gives n cyclic ih h = tt
safe_found inputs found state label gives n none ih h = tt

pub safe_path : (inputs : Bool) (found : ℕ → Path → Found) (state label : Valuation) → Gives inputs found state label
    → (n i : ℕ) (x : Path) → HasType (naming inputs found n i x).type → SafePath found n state label i x
unfolding SafePath naming
safe_path inputs found state label gives zero i x h = tt
safe_path inputs found state label gives (suc n) i x h =
    safe_found inputs found state label gives n (found i x) (safe_path inputs found state label gives n) h

pub typed_is_safe_law : TypedIsSafe
typed_is_safe_law inputs found state label following g k n i at e h =
    safe (naming inputs found n i) (reading found n state label i) (reading found n following label i) (SafePath found n state label i) (SafePath found n following label i)
    (names_lie inputs found state label g n i) (names_lie inputs found following label k n i) (safe_path inputs found state label g n i) (safe_path inputs found following label k n i) at e h

pub front_permits_is : (op : Infix) (d c : Denotation) (u : Value) → (joined op d c).permits u ≡ front_permits op u d.value (d.permits u) c
front_permits_is Member d c u = refl
front_permits_is Union d c u = refl
front_permits_is op d c u = refl

pub or_false : (a b : Bool) → b ≡ false → (a || b) ≡ a
or_false true b e = refl
or_false false b e = e

pub or_last : (a : Bool) (d c : Denotation) → (if a || true then d else c) ≡ d
or_last true d c = refl
or_last false d c = refl
