-- Data of sorts, and what memberships say of them.
use Rattle.std.proofs.Common.{◌≡◌, ℕ, zero, suc, ◌+◌, ◌-◌, ◌^◌, ◌<◌, ◌≤◌, Bool, true, false, ◌&&◌, ◌||◌, ◌==◌, nat_lt, nat_le, if◌then◌else◌, ℤ, pos, ◌≤ℤ◌, int_le, ◌-ℤ◌, List, [], ◌∷◌, ◌++◌, map, length, Some, None, get_or, refl, sym, ap, ◌∙◌, subst, arith}
use Rattle.std.proofs.lemmas.Int.{ints}
use Rattle.std.specs.Prelude.{codes}
use Rattle.std.specs.List.{slice_get, AllByRecursion}
use Rattle.std.proofs.lemmas.List.{length-map}
use Rattle.std.proofs.lemmas.Option.{slice_get-get_or}
use Rattle.std.proofs.lemmas.Bool.{eq-eqb, eqb-true, le-leb, lt-ltb, ltb-true, ltb-false, or_right}
use Rattle.std.proofs.Math.Nat.{two-pow-succ}
use Rattle.std.proofs.lemmas.List.Quantifiers.{position-Some}
use Rattle.std.specs.Str.{bytes_eq}
use mathlib.Core.Logic.{inl, inr}
use Rattle.std.proofs.lemmas.Slice.Eq.{bytes_eq-Decides}
use Rattle.word_core.specs.Table.{bit_of, signed_value}
use Rattle.word_core.specs.declared.word.TheConstants.{WIDEST}
use Rattle.word_core.specs.declared.kinds.Binary.TheVariants as OnWords
use Rattle.smv_text.specs.declared.tree.Member.{Member}
use Rattle.smv_text.specs.declared.tree.Member.TheVariants as OfMember
use Rattle.smv_text.specs.Tree.{PlainDomain, boolean, members, between, bits, instance}
use Rattle.smv_meaning.specs.declared.value.Value.{Value}
use Rattle.smv_meaning.specs.declared.value.Value.TheVariants.{Truth, Integer, Symbol, Bits}
use Rattle.smv_meaning.specs.Values.{value_same, is_between, is_word_of, member_value, is_among, is_of_type}
use Rattle.smv_meaning.specs.Operators.{word}
use Rattle.smv_meaning.specs.Types.{ExprType, truth_type, integer_type, symbol_type, word_type, type_same}
use Rattle.smv_meaning.specs.Checks.{variable_type}
use Rattle.smv_meaning.specs.Typed.{Lies}
use Rattle.smv_meaning.specs.laws.Booleans.{both_true, two_true}
use Rattle.smv_laws.proofs.FoundLaws.{of_type_lies}
use Rattle.smv_meaning.specs.Names.{is_symbol, domain_has}
use Rattle.smv_laws.proofs.Cycles.{In, in_any}
use Rattle.smv_items.specs.FlatItems.{domain_members}
use Rattle.smv_flat.specs.FlatTruth.{symbol_or_none, symbol_value}
use Rattle.name_maps.specs.Names.{place_of}
use Rattle.moxi_terms.specs.declared.data.Datum.{Datum}
use Rattle.moxi_terms.specs.declared.data.Datum.TheVariants as datum
use Rattle.moxi_terms.specs.declared.data.TermOp.TheVariants as op
use Rattle.moxi_terms.specs.declared.term.Enumeration.{Enumeration}
use Rattle.moxi_terms.specs.Operators.{same, same_truth, op_value}
use Rattle.moxi_terms.specs.Sorts.{IsConstant, IsOf}
use Rattle.moxi_terms.specs.Tree.{Tree, trees_of}
use Rattle.moxi_terms.specs.Value.{Calls, Values, term_value, term_values}
use Rattle.moxi_scripts.specs.Behaviour.{Holds}
use Rattle.smv_flat.specs.FlatWidth.{integers_width, interval_width}
use Rattle.smv_flat.specs.FlatWidth.{Holds as Fits}
use Rattle.smv_width.proofs.WidthLaw.{interval_width_is_least}
use Rattle.smv_script.specs.Codes.{integer_bits, integer_word, number_or_zero, datum_of, value_of, sort_of}
use Rattle.smv_script.specs.Operators.{between_term}
use Rattle.smv_script.specs.Script.{member_term, domain_parts, symbol_sort}
use Rattle.smv_script_laws.specs.Kinds.{IsKnown, IsOfKind}
use Rattle.smv_script_laws.specs.TermLaws.{IsDatum, AreDistinct}
use Rattle.smv_script_laws.proofs.Integers.{bits_below, signed_back}
use Rattle.smv_script_laws.proofs.Rows.{equal_row}
use Rattle.smv_script_laws.proofs.Parts.{held_wider, known_kind, any_of, any_value}
use Rattle.text_core.proofs.Truths.{and_true}

-- ---- sorts

some_same : {X : Type 0} (x y : X) → Some x ≡ Some y → x ≡ y
some_same x y e = cc

constants_are : (symbols : List (List ℕ)) (x : Enumeration) → slice_get (symbol_sort symbols) 0 ≡ Some x → length x.constants ≡ length symbols
constants_are [] x e = cc
constants_are (s ∷ ss) x e =
    ap (λ (y : Enumeration). length y.constants) (sym (some_same _ _ e)) ∙ length-map (s ∷ ss) (λ y. codes "c." ++ y)

there_is_sort : (symbols : List (List ℕ)) (i : ℕ) → i < length symbols → IsConstant (symbol_sort symbols) 0 i
there_is_sort [] i h = absurd (omega arith)
there_is_sort (s ∷ ss) i h = record {
  enumeration = record { name = codes "Symbol"; constants = map (λ y. codes "c." ++ y) (s ∷ ss) };
  there = refl;
  within = subst (λ n. i < n) (sym (length-map (s ∷ ss) (λ y. codes "c." ++ y))) h;
}

-- a datum of the sort of a type
pub datum_is : (width : ℕ) (symbols : List (List ℕ)) (t : ExprType) (d : Datum) → IsOf (symbol_sort symbols) (sort_of width t) d → IsDatum width symbols t d
datum_is width symbols truth_type (datum.Truth b) h = tt
datum_is width symbols truth_type d h = absurd h
datum_is width symbols (integer_type low high) (datum.Bits w) h = h
datum_is width symbols (integer_type low high) d h = absurd h
datum_is width symbols symbol_type (datum.Constant n i) h = (h.0, subst (λ m. i < m) (constants_are symbols h.1.enumeration h.1.there) h.1.within)
datum_is width symbols symbol_type d h = absurd h
datum_is width symbols (word_type n) (datum.Bits w) h = h
datum_is width symbols (word_type n) d h = absurd h

place_within : (symbols : List (List ℕ)) (x : List ℕ) (i : ℕ) → place_of symbols x ≡ Some i → i < length symbols
place_within [] x i h = cc
place_within (s ∷ ss) x i h = (position-Some (bytes_eq x) (s ∷ ss) i [] h).0

-- a value of a kind has a datum of the sort
pub kind_sorted : (width : ℕ) (symbols : List (List ℕ)) → 1 ≤ width → width ≤ WIDEST → (t : ExprType) (v : Value) → IsOfKind width symbols t v → IsOf (symbol_sort symbols) (sort_of width t) (datum_of width symbols v)
kind_sorted width symbols some most truth_type (Truth b) h = tt
kind_sorted width symbols some most truth_type v h = absurd h
kind_sorted width symbols some most (integer_type low high) (Integer z) h = (refl, (some, most, bits_below width z))
kind_sorted width symbols some most (integer_type low high) v h = absurd h
kind_sorted width symbols some most symbol_type (Symbol s) h =
    (refl, there_is_sort symbols _ (subst (λ o. number_or_zero o < length symbols) (sym h.1) (place_within symbols s h.0 h.1)))
kind_sorted width symbols some most symbol_type v h = absurd h
kind_sorted width symbols some most (word_type n) (Bits w) h = h
kind_sorted width symbols some most (word_type n) v h = absurd h

-- ---- equal data

truth_same : (a b : Bool) → same_truth a b ≡ true → a ≡ b
truth_same true true h = refl
truth_same true false h = cc
truth_same false true h = cc
truth_same false false h = refl

pub same_datum : (d e : Datum) → same d e ≡ true → d ≡ e
same_datum (datum.Truth a) (datum.Truth b) h = ap datum.Truth (truth_same a b h)
same_datum (datum.Bits v) (datum.Bits w) h =
    let s = both_true (v.width == w.width) (v.bits == w.bits) h in
    ap (λ n. datum.Bits (word n v.bits)) (eqb-true v.width w.width s.0) ∙ ap (λ n. datum.Bits (word w.width n)) (eqb-true v.bits w.bits s.1)
same_datum (datum.Constant n i) (datum.Constant m j) h =
    let s = both_true (n == m) (i == j) h in
    ap (λ k. datum.Constant k i) (eqb-true n m s.0) ∙ ap (λ k. datum.Constant m k) (eqb-true i j s.1)
same_datum (datum.Truth a) (datum.Bits w) h = cc
same_datum (datum.Truth a) (datum.Constant m j) h = cc
same_datum (datum.Bits v) (datum.Truth b) h = cc
same_datum (datum.Bits v) (datum.Constant m j) h = cc
same_datum (datum.Constant n i) (datum.Truth b) h = cc
same_datum (datum.Constant n i) (datum.Bits w) h = cc

pub truth_is : (b : Bool) → datum.Truth b ≡ datum.Truth true → b ≡ true
truth_is b h = cc

-- ---- memberships

type_self : (t : ExprType) → type_same t t ≡ true
type_self truth_type = refl
type_self (integer_type low high) = refl
type_self symbol_type = refl
type_self (word_type n) = eq-eqb n n refl

module _ (width : ℕ) (symbols : List (List ℕ)) (some : 1 ≤ width) (calls : Calls) (now later : Values) (x : Tree) where
  between_value : (low high z : ℤ) → Fits width low → Fits width high → Fits width z → term_value calls now later [] x ≡ datum.Bits (integer_word width z)
      → term_value calls now later [] (between_term width low high x) ≡ datum.Truth (int_le low z && int_le z high)
  between_value low high z h k j i =
      ap (λ d. op_value op.And (op_value (op.BvBinary OnWords.Slte) (datum.Bits (integer_word width low) ∷ d ∷ []) ∷ op_value (op.BvBinary OnWords.Slte) (d ∷ datum.Bits (integer_word width high) ∷ []) ∷ [])) i
      ∙ ap (λ b. datum.Truth (b && ((bit_of (int_le (signed_value width (integer_bits width z)) (signed_value width (integer_bits width high))) == 1) && true))) (slte_is low z h j)
      ∙ ap (λ b. datum.Truth (int_le low z && (b && true))) (slte_is z high j k) ∙ ap (λ b. datum.Truth (int_le low z && b)) (and_true (int_le z high))
    where
      bit_is : (b : Bool) → (bit_of b == 1) ≡ b
      bit_is true = refl
      bit_is false = refl

      slte_is : (a b : ℤ) → Fits width a → Fits width b → (bit_of (int_le (signed_value width (integer_bits width a)) (signed_value width (integer_bits width b))) == 1) ≡ int_le a b
      slte_is a b p q =
          bit_is (int_le (signed_value width (integer_bits width a)) (signed_value width (integer_bits width b)))
          ∙ ap (λ n. int_le n (signed_value width (integer_bits width b))) (signed_back width a some p) ∙ ap (λ n. int_le a n) (signed_back width b some q)

  member_is : (u : ExprType) (v : Value) (m : Member) → IsOfKind width symbols u v → IsOfKind width symbols u (member_value m) → term_value calls now later [] x ≡ datum_of width symbols v
      → term_value calls now later [] (member_term width symbols x m) ≡ datum.Truth (value_same (member_value m) v)
  member_is u v (OfMember.Symbol s) h k i =
      ap (λ d. op_value op.Equal (d ∷ datum_of width symbols (Symbol s) ∷ [])) i ∙ equal_row width symbols some calls now later [] u u v (Symbol s) (type_self u) h k
  member_is u v (OfMember.Integer z) h k i =
      ap (λ d. op_value op.Equal (d ∷ datum_of width symbols (Integer z) ∷ [])) i ∙ equal_row width symbols some calls now later [] u u v (Integer z) (type_self u) h k

  members_are : (u : ExprType) (v : Value) (ms : List Member) → IsOfKind width symbols u v → AllByRecursion (λ m. IsOfKind width symbols u (member_value m)) ms → term_value calls now later [] x ≡ datum_of width symbols v
      → term_values calls now later [] (trees_of (map (member_term width symbols x) ms)) ≡ map (λ b. datum.Truth b) (map (λ m. value_same (member_value m) v) ms)
  members_are u v [] h a i = refl
  members_are u v (m ∷ ms) h a i =
      ap (λ d. d ∷ term_values calls now later [] (trees_of (map (member_term width symbols x) ms))) (member_is u v m h a.0 i)
      ∙ ap (λ ds. datum.Truth (value_same (member_value m) v) ∷ ds) (members_are u v ms h a.1 i)

  among_is : (v : Value) (ms : List Member) → any_of (map (λ m. value_same (member_value m) v) ms) ≡ is_among ms v
  among_is v [] = refl
  among_is v (m ∷ ms) = ap (λ b. value_same (member_value m) v || b) (among_is v ms)

  pub members_hold : (u : ExprType) (v : Value) (m : Member) (ms : List Member) → IsOfKind width symbols u v → AllByRecursion (λ n. IsOfKind width symbols u (member_value n)) (m ∷ ms) → term_value calls now later [] x ≡ datum_of width symbols v
      → AllByRecursion (Holds calls now later) (domain_parts width symbols x u (m ∷ ms)) → is_among (m ∷ ms) v ≡ true
  members_hold u v m ms h a i p =
      sym (among_is v (m ∷ ms))
      ∙ truth_is _ (sym (any_value calls now later [] (trees_of (map (member_term width symbols x) (m ∷ ms))) (map (λ n. value_same (member_value n) v) (m ∷ ms)) (members_are u v (m ∷ ms) h a i)) ∙ p.0)

  pub between_holds : (low high : ℤ) (v : Value) → Fits width low → Fits width high → IsOfKind width symbols (integer_type low high) v → term_value calls now later [] x ≡ datum_of width symbols v
      → AllByRecursion (Holds calls now later) (domain_parts width symbols x (integer_type low high) []) → is_between low high v ≡ true
  between_holds low high (Integer z) h k j i p = truth_is _ (sym (between_value low high z h k j i) ∙ p.0)
  between_holds low high v h k j i p = absurd j

-- ---- the value for which a datum of the sort of a type stands

half : (n : ℕ) → 1 ≤ n → 2 ^ n ≡ 2 ^ (n - 1) + 2 ^ (n - 1)
half zero h = absurd (omega arith)
half (suc n) h = two-pow-succ n ∙ ap (λ v. 2 ^ v + 2 ^ v) (omega arith)

signed_fits : (n b : ℕ) → 1 ≤ n → b < 2 ^ n → Fits n (signed_value n b)
signed_fits n b one l = by (nat_lt b (2 ^ (n - 1))) refl
  where
    by : (c : Bool) → nat_lt b (2 ^ (n - 1)) ≡ c → Fits n (if c then pos b else pos b -ℤ pos (2 ^ n))
    by true e = let low : b < 2 ^ (n - 1) = ltb-true b (2 ^ (n - 1)) e in (omega (arith, ints, low), omega (arith, ints, low))
    by false e = let low : 2 ^ (n - 1) ≤ b = ltb-false b (2 ^ (n - 1)) e in let s = half n one in (omega (arith, ints, low, s, l), omega (arith, ints, low, s, l))

symbol_kind : (width : ℕ) (symbols : List (List ℕ)) → AreDistinct symbols → (i : ℕ) → i < length symbols → IsOfKind width symbols symbol_type (symbol_value symbols i)
symbol_kind width symbols once i h =
    let e = slice_get-get_or symbols i [] h in
    subst (λ v. IsOfKind width symbols symbol_type v) (sym (ap symbol_or_none e)) (i, once i (get_or symbols i []) e)

pub datum_kind : (width : ℕ) (symbols : List (List ℕ)) → 1 ≤ width → AreDistinct symbols → (t : ExprType) (d : Datum) → IsDatum width symbols t d → IsOfKind width symbols t (value_of symbols t d)
datum_kind width symbols some once truth_type (datum.Truth b) h = tt
datum_kind width symbols some once truth_type d h = absurd h
datum_kind width symbols some once (integer_type low high) (datum.Bits w) h =
    subst (λ n. Fits width (signed_value n w.bits)) (sym h.0) (signed_fits width w.bits some (subst (λ n. w.bits < 2 ^ n) h.0 h.1.2))
datum_kind width symbols some once (integer_type low high) d h = absurd h
datum_kind width symbols some once symbol_type (datum.Constant n i) h = symbol_kind width symbols once i h.1
datum_kind width symbols some once symbol_type d h = absurd h
datum_kind width symbols some once (word_type n) (datum.Bits w) h = h
datum_kind width symbols some once (word_type n) d h = absurd h

pub kind_known : (width : ℕ) (symbols : List (List ℕ)) (t : ExprType) (v : Value) → IsOfKind width symbols t v → IsKnown symbols v
kind_known width symbols t (Truth b) h = tt
kind_known width symbols t (Integer z) h = tt
kind_known width symbols t (Bits w) h = tt
kind_known width symbols symbol_type (Symbol s) h = h
kind_known width symbols truth_type (Symbol s) h = absurd h
kind_known width symbols (integer_type low high) (Symbol s) h = absurd h
kind_known width symbols (word_type n) (Symbol s) h = absurd h

-- ---- a value of a declared type

if_some : {X : Type 0} (b : Bool) (x y : X) → (if b then Some x else None) ≡ Some y → (b ≡ true) × (x ≡ y)
if_some true x y e = (refl, some_same x y e)
if_some false x y e = cc

same_self : (v : Value) → value_same v v ≡ true
same_self (Truth true) = refl
same_self (Truth false) = refl
same_self (Integer z) = two_true (int_le z z) (int_le z z) (itself z) (itself z)
  where
    itself : (a : ℤ) → int_le a a ≡ true
    itself a = by (int_le a a) refl
      where
        by : (b : Bool) → int_le a a ≡ b → b ≡ true
        by true e = refl
        by false e = absurd (omega (arith, ints))
same_self (Symbol s) = (bytes_eq-Decides s s).1 refl
same_self (Bits w) = two_true (w.width == w.width) (w.bits == w.bits) (eq-eqb w.width w.width refl) (eq-eqb w.bits w.bits refl)

or_left : (a b : Bool) → a ≡ true → (a || b) ≡ true
or_left true b e = refl
or_left false b e = cc

in_among : (m : Member) (ms : List Member) → In m ms → is_among ms (member_value m) ≡ true
in_among m [] i = absurd i
in_among m (n ∷ ms) (inl s) = or_left (value_same (member_value n) (member_value m)) (is_among ms (member_value m)) (ap (λ z. value_same (member_value z) (member_value m)) (sym s) ∙ same_self (member_value m))
in_among m (n ∷ ms) (inr s) = or_right (value_same (member_value n) (member_value m)) (is_among ms (member_value m)) (in_among m ms s)

all_of_in : {X : Type 0} (P : X → Type 0) (xs : List X) → ((x : X) → In x xs → P x) → AllByRecursion P xs
all_of_in P [] h = tt
all_of_in P (x ∷ xs) h = (h x (inl refl), all_of_in P xs (λ y i. h y (inr i)))

-- the members that are symbols are the model's
abbrev pub HasSymbols : List (List ℕ) → PlainDomain → Type 0
HasSymbols symbols d = (s : List ℕ) → domain_has s d ≡ true → (i : ℕ) × (place_of symbols s ≡ Some i)

member_known : (symbols : List (List ℕ)) (ms : List Member) → HasSymbols symbols (members ms) → (m : Member) → In m ms → IsKnown symbols (member_value m)
member_known symbols ms h (OfMember.Symbol s) i = h s (in_any (is_symbol s) (OfMember.Symbol s) ms i ((bytes_eq-Decides s s).1 refl))
member_known symbols ms h (OfMember.Integer z) i = tt

module _ (width : ℕ) (symbols : List (List ℕ)) (some : 1 ≤ width) (calls : Calls) (now later : Values) (x : Tree) where
  of_members : (ms : List Member) (u : ExprType) (v : Value) → variable_type (members ms) ≡ Some u → integers_width u ≤ width → HasSymbols symbols (members ms) → IsOfKind width symbols u v
      → term_value calls now later [] x ≡ datum_of width symbols v → AllByRecursion (Holds calls now later) (domain_parts width symbols x u ms) → is_among ms v ≡ true
  of_members [] u v e l s k i p = cc
  of_members (m ∷ ms) u v e l s k i p =
      members_hold width symbols some calls now later x u v m ms k
      (all_of_in (λ n. IsOfKind width symbols u (member_value n)) (m ∷ ms)
      (λ n j. known_kind width symbols u (member_value n) l (subst (λ o. Lies o (member_value n)) e (of_type_lies (members (m ∷ ms)) (member_value n) (in_among n (m ∷ ms) j))) (member_known symbols (m ∷ ms) s n j)))
      i p

  of_interval : (low high : ℤ) (u : ExprType) (v : Value) → variable_type (between low high) ≡ Some u → integers_width u ≤ width → IsOfKind width symbols u v
      → term_value calls now later [] x ≡ datum_of width symbols v → AllByRecursion (Holds calls now later) (domain_parts width symbols x u []) → is_between low high v ≡ true
  of_interval low high u v e l k i p =
      let c = if_some _ (integer_type low high) u e in
      let order = (both_true _ (int_le low high) c.0).1 in
      let less : low ≤ℤ high = omega (arith, ints, order) in
      let least = interval_width_is_least low high less in
      let wide : interval_width low high ≤ width = subst (λ z. integers_width z ≤ width) (sym c.1) l in
      between_holds width symbols some calls now later x low high v
      (held_wider (interval_width low high) width low wide (least.holds low (omega (arith, ints)) less)) (held_wider (interval_width low high) width high wide (least.holds high less (omega (arith, ints))))
      (subst (λ z. IsOfKind width symbols z v) (sym c.1) k) i (subst (λ z. AllByRecursion (Holds calls now later) (domain_parts width symbols x z [])) (sym c.1) p)

  of_bits : (n : ℕ) (v : Value) → IsOfKind width symbols (word_type n) v → (nat_le 1 n && is_word_of n v) ≡ true
  of_bits n (Bits w) h =
      let one : 1 ≤ n = subst (λ m. 1 ≤ m) h.0 h.1.0 in
      let less : w.bits < 2 ^ n = subst (λ m. w.bits < 2 ^ m) h.0 h.1.2 in
      two_true (nat_le 1 n) (w.width == n && nat_lt w.bits (2 ^ n)) (le-leb 1 n one) (two_true (w.width == n) (nat_lt w.bits (2 ^ n)) (eq-eqb w.width n h.0) (lt-ltb w.bits (2 ^ n) less))
  of_bits n v h = absurd h

  of_truth : (v : Value) → IsOfKind width symbols truth_type v → is_of_type boolean v ≡ true
  of_truth (Truth b) h = refl
  of_truth v h = absurd h

  -- where the membership holds, the value is of the declared type
  pub of_domain : (d : PlainDomain) (u : ExprType) (v : Value) → variable_type d ≡ Some u → integers_width u ≤ width → HasSymbols symbols d → IsOfKind width symbols u v
      → term_value calls now later [] x ≡ datum_of width symbols v → AllByRecursion (Holds calls now later) (domain_parts width symbols x u (domain_members d)) → is_of_type d v ≡ true
  of_domain boolean u v e l s k i p = of_truth v (subst (λ z. IsOfKind width symbols z v) (sym (some_same truth_type u e)) k)
  of_domain (members ms) u v e l s k i p = of_members ms u v e l s k i p
  of_domain (between low high) u v e l s k i p = of_interval low high u v e l k i p
  of_domain (bits n) u v e l s k i p = of_bits n v (subst (λ z. IsOfKind width symbols z v) (sym (if_some _ (word_type n) u e).1) k)
  of_domain (instance m es) u v e l s k i p = cc
