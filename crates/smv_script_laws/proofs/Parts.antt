-- Kinds of values, chains of one sign, and what is said of an expression and its translation.
use Rattle.std.proofs.Common.{◌≡◌, ℕ, ◌+◌, ◌-◌, ◌^◌, ◌≤◌, Bool, true, false, ◌||◌, if◌then◌else◌, ℤ, pos, ◌+ℤ◌, ◌-ℤ◌, ◌*ℤ◌, ◌≤ℤ◌, List, [], ◌∷◌, map, length, Option, Some, None, refl, sym, ap, ◌∙◌, subst, arith}
use Rattle.std.proofs.lemmas.Int.{ints}
use Rattle.std.proofs.lemmas.Bool.{eqb-true, eq-eqb, leb-true}
use Rattle.std.proofs.Math.Pow.{pow_mono}
use Rattle.std.specs.List.{list_all, list_any}
use Rattle.word_core.specs.declared.kinds.Binary.TheVariants as OnWords
use Rattle.smv_text.specs.declared.tree.Path.{Path}
use Rattle.smv_text.specs.declared.operators.Infix.{Infix}
use Rattle.smv_text.specs.declared.operators.Infix.TheVariants.{Or, Xor, And, Equal, Unequal, Less, Greater, LessEq, GreaterEq, Member, Union, Plus, Minus, Times, Divide, Mod, Concat}
use Rattle.smv_text.specs.declared.operators.Function.TheVariants as OfFunction
use Rattle.smv_text.specs.Tree.{Tree as Expression, number, Links, no_links, link, Trees as Expressions, no_trees as no_expressions, tree as expression}
use Rattle.smv_meaning.specs.declared.value.Value.{Value}
use Rattle.smv_meaning.specs.declared.value.Value.TheVariants.{Truth, Integer, Symbol, Bits}
use Rattle.smv_meaning.specs.Values.{is_true}
use Rattle.smv_meaning.specs.Operators.{word, implied, applied, is_width}
use Rattle.smv_meaning.specs.Expressions.{Denotation, joined, denote, linked as linked_values, one_permits}
use Rattle.smv_meaning.specs.Types.{ExprType, truth_type, integer_type, symbol_type, word_type, is_word_type, type_width, type_same, hull, hull_with, hull_of, logical_fits, infix_fits, infix_type, is_union, function_fits, arguments_fit, function_type, number_of, divisor_of, are_same, first_type, is_shift_amount, over_both_ends, quotient_type, rest_type, number_fits}
use Rattle.smv_meaning.specs.Checks.{Position, Named, all_types, are_unions}
use Rattle.smv_meaning.specs.Typed.{LiesIn}
use Rattle.smv_meaning.specs.laws.Booleans.{both_true, two_true, absurd_bool}
use Rattle.smv_laws.proofs.OperatorLaws.{NumberIs, implied_lies, DivisorIs}
use Rattle.smv_laws.proofs.TypeLaws.{all_cons, number_is}
use Rattle.smv_items.specs.FlatItems.{Leaf, of_item, of_symbol, of_nothing}
use Rattle.smv_flat.specs.FlatTree.{flat_tree}
use Rattle.smv_flat.specs.FlatWidth.{Holds, interval_width, integers_width}
use Rattle.smv_width.proofs.WidthLaw.{interval_width_is_least}
use Rattle.moxi_terms.specs.declared.data.Datum.{Datum}
use Rattle.moxi_terms.specs.declared.data.Datum.TheVariants as datum
use Rattle.moxi_terms.specs.declared.data.TermOp.TheVariants as op
use Rattle.moxi_terms.specs.Operators.{truth_of, op_value}
use Rattle.moxi_terms.specs.Tree.{Tree, Trees, no_trees, tree}
use Rattle.moxi_terms.specs.Value.{Calls, Values, term_value, term_values}
use Rattle.smv_script.specs.Codes.{datum_of}
use Rattle.smv_script.specs.Operators.{any_term, infix_op, joins_with, front_width}
use Rattle.smv_script.specs.Terms.{amount_of, Translation}
use Rattle.smv_script_laws.specs.Kinds.{IsKnown, IsOfKind}
use Rattle.smv_script_laws.proofs.Integers.{bits_sum, bits_product}
use Rattle.smv_script_laws.proofs.Rows.{words_are, IsNonzero, is_plain, kind_same}
use Rattle.text_core.proofs.Truths.{or_false}

-- ---- kinds

pub held_wider : (v w : ℕ) (z : ℤ) → v ≤ w → Holds v z → Holds w z
held_wider v w z l h =
    let p : 2 ^ (v - 1) ≤ 2 ^ (w - 1) = pow_mono (omega arith) in
    let a = h.0 in
    let b = h.1 in
    (omega (arith, ints), omega (arith, ints))

-- what lies in a type that the width holds is of its kind
pub known_kind : (width : ℕ) (symbols : List (List ℕ)) (t : ExprType) (v : Value) → integers_width t ≤ width → LiesIn t v → IsKnown symbols v → IsOfKind width symbols t v
known_kind width symbols truth_type (Truth b) l h k = tt
known_kind width symbols truth_type v l h k = absurd h
known_kind width symbols (integer_type low high) (Integer z) l h k =
    let a = h.0 in
    let b = h.1 in
    held_wider (interval_width low high) width z l ((interval_width_is_least low high (omega (arith, ints))).holds z h.0 h.1)
known_kind width symbols (integer_type low high) v l h k = absurd h
known_kind width symbols symbol_type (Symbol s) l h k = k
known_kind width symbols symbol_type v l h k = absurd h
known_kind width symbols (word_type n) (Bits w) l h k = h
known_kind width symbols (word_type n) v l h k = absurd h

pub hull_kind : (width : ℕ) (symbols : List (List ℕ)) (t u : ExprType) (v : Value) → IsOfKind width symbols (hull t u) v → IsOfKind width symbols t v
hull_kind width symbols (integer_type low high) (integer_type less more) (Integer z) h = h
hull_kind width symbols (integer_type low high) (integer_type less more) v h = absurd h
hull_kind width symbols t u v h = h

abbrev pub IsOfAll : ℕ → List (List ℕ) → List ExprType → Value → Type 0
IsOfAll width symbols [] v = Unit {0}
IsOfAll width symbols (t ∷ ts) v = IsOfKind width symbols t v × IsOfAll width symbols ts v

pub hull_with_kind : (width : ℕ) (symbols : List (List ℕ)) (t : ExprType) (us : List ExprType) (v : Value) → IsOfKind width symbols (hull_with t us) v → IsOfKind width symbols t v
hull_with_kind width symbols t [] v h = h
hull_with_kind width symbols t (u ∷ us) v h = hull_kind width symbols t u v (hull_with_kind width symbols (hull t u) us v h)

pub all_kind : (width : ℕ) (symbols : List (List ℕ)) (some : 1 ≤ width) (calls : Calls) (now later : Values) (t : ExprType) (us : List ExprType) (v : Value)
    → list_all (type_same t) us ≡ true → IsOfKind width symbols t v → IsOfAll width symbols us v
all_kind width symbols some calls now later t [] v e h = tt
all_kind width symbols some calls now later t (u ∷ us) v e h =
    let b = both_true (type_same t u) (list_all (type_same t) us) e in
    (kind_same width symbols some calls now later [] t u v b.0 h, all_kind width symbols some calls now later t us v b.1 h)

pub hull_of_kind : (width : ℕ) (symbols : List (List ℕ)) (some : 1 ≤ width) (calls : Calls) (now later : Values) (us : List ExprType) (v : Value)
    → are_same us ≡ true → IsOfKind width symbols (hull_of us) v → IsOfAll width symbols us v
hull_of_kind width symbols some calls now later [] v e h = tt
hull_of_kind width symbols some calls now later (t ∷ us) v e h =
    let k = hull_with_kind width symbols t us v h in
    (k, all_kind width symbols some calls now later t us v e k)

-- ---- what is said of an expression

-- of the branches of a case or a choice, which are of these types
pub record SaysAll (width : ℕ) (symbols : List (List ℕ)) (calls : Calls) (now later : Values) (us : List ExprType) (d : Denotation) (sets : Bool) (x : Translation) : Type 0 where
  pub value : sets ≡ false → (vals : List Datum) → term_value calls now later vals (x.term (length vals)) ≡ datum_of width symbols d.value
  pub member : (vals : List Datum) (y : Tree) (v : Value) → IsOfAll width symbols us v → term_value calls now later vals y ≡ datum_of width symbols v
      → term_value calls now later vals (x.member (length vals) y) ≡ datum.Truth (d.permits v)

-- the datum of what a path becomes
abbrev pub leaf_datum : (ℕ → ℕ) → Values → Leaf → Datum
leaf_datum place env (of_item k) = env (place k)
leaf_datum place env (of_symbol s) = datum.Constant 0 s
leaf_datum place env of_nothing = datum.Truth false

-- a path's leaf has the code of its value, which is known
abbrev pub LeafIsRepresented : ℕ → List (List ℕ) → (ℕ → ℕ) → Values → Leaf → Value → Type 0
LeafIsRepresented width symbols place env l v = (leaf_datum place env l ≡ datum_of width symbols v) × IsKnown symbols v

pub truth_code : (width : ℕ) (symbols : List (List ℕ)) (v : Value) → truth_of (datum_of width symbols v) ≡ is_true v
truth_code width symbols (Truth b) = refl
truth_code width symbols (Integer z) = refl
truth_code width symbols (Symbol s) = refl
truth_code width symbols (Bits w) = refl

abbrev pub any_of : List Bool → Bool
any_of [] = false
any_of (b ∷ bs) = b || any_of bs

pub truths_any : (bs : List Bool) → list_any truth_of (map (λ b. datum.Truth b) bs) ≡ any_of bs
truths_any [] = refl
truths_any (b ∷ bs) = ap (λ x. b || x) (truths_any bs)

-- where the parts stand for these truth values, so does the whole for their disjunction
pub any_value : (calls : Calls) (now later : Values) (vals : List Datum) (ts : Trees) (bs : List Bool) → term_values calls now later vals ts ≡ map (λ b. datum.Truth b) bs
    → term_value calls now later vals (any_term ts) ≡ datum.Truth (any_of bs)
any_value calls now later vals no_trees [] e = refl
any_value calls now later vals no_trees (b ∷ bs) e = cc
any_value calls now later vals (tree a no_trees) [] e = cc
any_value calls now later vals (tree a no_trees) (b ∷ []) e = let h : term_value calls now later vals a ≡ datum.Truth b = cc in h ∙ ap datum.Truth (sym (or_false b))
any_value calls now later vals (tree a no_trees) (b ∷ d ∷ bs) e = cc
any_value calls now later vals (tree a (tree x more)) bs e = ap (λ ds. datum.Truth (list_any truth_of ds)) e ∙ ap datum.Truth (truths_any bs)

pub joined_cons : {X : Type 0} (a b : X) (xs ys : List X) → a ≡ b → xs ≡ ys → a ∷ xs ≡ b ∷ ys
joined_cons a b xs ys e h = ap (λ x. x ∷ xs) e ∙ ap (λ zs. b ∷ zs) h

pub pick_three : {X : Type 0} (P : X → Type 0) (u r j : Bool) (a b d e : X) → (u ≡ true → P a) → (u ≡ false → r ≡ true → P b) → (u ≡ false → r ≡ false → j ≡ true → P d)
    → (u ≡ false → r ≡ false → j ≡ false → P e) → P (if u then a else (if r then b else (if j then d else e)))
pick_three P true r j a b d e f g h k = f refl
pick_three P false true j a b d e f g h k = g refl refl
pick_three P false false true a b d e f g h k = h refl refl refl
pick_three P false false false a b d e f g h k = k refl refl refl

-- ---- numbers in the text

pub number_kept : (names : Path → Named) (leaf : Path → Leaf) (at : Position) (under : Bool) (e : Expression) (n : ℕ) → number_of e ≡ Some n → amount_of (flat_tree names leaf at under e) ≡ n
number_kept names leaf at under (number p m) n h = let e : m ≡ n = cc in e
number_kept names leaf at under e n h = cc

pub number_value : (f g : Path → Value) (e : Expression) (n : ℕ) → number_of e ≡ Some n → (denote f g e).value ≡ Integer (pos n)
number_value f g e n h = subst (λ o. NumberIs o (denote f g e).value) h (number_is f g e)

pub amount_is : (o : Option ℕ) (t : ExprType) → is_shift_amount o t ≡ true → (n : ℕ) × (o ≡ Some n) × (n ≤ type_width t)
amount_is None t h = absurd_bool h
amount_is (Some n) t h = (n, refl, leb-true n (type_width t) h)

pub divisor_nonzero : (o : Option ℤ) (w : Value) → DivisorIs o w → IsNonzero w
divisor_nonzero (Some b) w d = subst IsNonzero (sym d.0) d.1
divisor_nonzero None w d = subst IsNonzero (sym d.1) tt

-- ---- widths of fronts

abbrev pub IsAsWide : ExprType → ℕ → Type 0
IsAsWide (word_type n) m = n ≡ m
IsAsWide t m = Unit {0}

pub wide_of : (t : ExprType) → IsAsWide t (type_width t)
wide_of (word_type n) = refl
wide_of truth_type = tt
wide_of (integer_type low high) = tt
wide_of symbol_type = tt

pub wide_word : (t : ExprType) (m : ℕ) → is_word_type t ≡ true → IsAsWide t m → type_width t ≡ m
wide_word (word_type n) m h w = w
wide_word t m h w = cc

pub calculated_wide : (f : ℤ → ℤ → ℤ) (t u : ExprType) (m : ℕ) → IsAsWide t m → IsAsWide (over_both_ends f t u) m
calculated_wide f (integer_type low high) (integer_type less more) m w = tt
calculated_wide f (integer_type low high) u m w = tt
calculated_wide f t u m w = w

pub quotient_wide : (t : ExprType) (o : Option ℤ) (m : ℕ) → IsAsWide t m → IsAsWide (quotient_type t o) m
quotient_wide (integer_type low high) (Some b) m w = tt
quotient_wide t (Some b) m w = w
quotient_wide t None m w = w

pub rest_wide : (t : ExprType) (o : Option ℤ) (m : ℕ) → IsAsWide t m → IsAsWide (rest_type t o) m
rest_wide (integer_type low high) (Some b) m w = tt
rest_wide (integer_type low high) None m w = w
rest_wide t o m w = w

pub hull_wide : (t u : ExprType) (m : ℕ) → IsAsWide t m → IsAsWide (hull t u) m
hull_wide (integer_type low high) (integer_type less more) m w = tt
hull_wide t u m w = w

pub wide_kept : (o : Infix) (t u : ExprType) (e : Expression) (m : ℕ) → infix_fits o t u ≡ true → IsAsWide t m → IsAsWide (infix_type o t u e) (front_width o m (type_width u))
wide_kept Equal t u e m h w = tt
wide_kept Unequal t u e m h w = tt
wide_kept Less t u e m h w = tt
wide_kept Greater t u e m h w = tt
wide_kept LessEq t u e m h w = tt
wide_kept GreaterEq t u e m h w = tt
wide_kept Member t u e m h w = tt
wide_kept Union t u e m h w = hull_wide t u m w
wide_kept Plus t u e m h w = calculated_wide (λ a b. a +ℤ b) t u m w
wide_kept Minus t u e m h w = calculated_wide (λ a b. a -ℤ b) t u m w
wide_kept Times t u e m h w = calculated_wide (λ a b. a *ℤ b) t u m w
wide_kept Divide t u e m h w = quotient_wide t (divisor_of e) m w
wide_kept Mod t u e m h w = rest_wide t (divisor_of e) m w
wide_kept Concat t u e m h w = ap (λ n. n + type_width u) (wide_word t m (both_true (is_word_type t) (is_word_type u) h).0 w)
wide_kept o t u e m h w = w

-- ---- chains of one sign

pub joined_step : (width : ℕ) (symbols : List (List ℕ)) (some : 1 ≤ width) (o : Infix) (t u : ExprType) (v w : Value) (ds : List Datum) → joins_with o o ≡ true → infix_fits o t u ≡ true
    → IsOfKind width symbols t v → IsOfKind width symbols u w
    → op_value (infix_op o (is_word_type t)) (datum_of width symbols v ∷ datum_of width symbols w ∷ ds) ≡ op_value (infix_op o (is_word_type t)) (datum_of width symbols (applied o v w) ∷ ds)
joined_step width symbols some And truth_type truth_type (Truth true) (Truth true) ds j fits h k = refl
joined_step width symbols some And truth_type truth_type (Truth true) (Truth false) ds j fits h k = refl
joined_step width symbols some And truth_type truth_type (Truth false) (Truth true) ds j fits h k = refl
joined_step width symbols some And truth_type truth_type (Truth false) (Truth false) ds j fits h k = refl
joined_step width symbols some And truth_type truth_type (Truth p) w ds j fits h k = absurd k
joined_step width symbols some And truth_type truth_type v w ds j fits h k = absurd h
joined_step width symbols some And truth_type u v w ds j fits h k = cc
joined_step width symbols some And (word_type m) (word_type n) (Bits x) (Bits y) ds j fits h k = ap (λ d. op_value (op.BvBinary OnWords.And) (d ∷ ds)) (words_are width symbols some OnWords.And m x y h.0 (k.0 ∙ sym (eqb-true m n fits)))
joined_step width symbols some And (word_type m) (word_type n) (Bits x) w ds j fits h k = absurd k
joined_step width symbols some And (word_type m) (word_type n) v w ds j fits h k = absurd h
joined_step width symbols some And (word_type m) u v w ds j fits h k = cc
joined_step width symbols some And t u v w ds j fits h k = cc
joined_step width symbols some Or truth_type truth_type (Truth true) (Truth true) ds j fits h k = refl
joined_step width symbols some Or truth_type truth_type (Truth true) (Truth false) ds j fits h k = refl
joined_step width symbols some Or truth_type truth_type (Truth false) (Truth true) ds j fits h k = refl
joined_step width symbols some Or truth_type truth_type (Truth false) (Truth false) ds j fits h k = refl
joined_step width symbols some Or truth_type truth_type (Truth p) w ds j fits h k = absurd k
joined_step width symbols some Or truth_type truth_type v w ds j fits h k = absurd h
joined_step width symbols some Or truth_type u v w ds j fits h k = cc
joined_step width symbols some Or (word_type m) (word_type n) (Bits x) (Bits y) ds j fits h k = ap (λ d. op_value (op.BvBinary OnWords.Or) (d ∷ ds)) (words_are width symbols some OnWords.Or m x y h.0 (k.0 ∙ sym (eqb-true m n fits)))
joined_step width symbols some Or (word_type m) (word_type n) (Bits x) w ds j fits h k = absurd k
joined_step width symbols some Or (word_type m) (word_type n) v w ds j fits h k = absurd h
joined_step width symbols some Or (word_type m) u v w ds j fits h k = cc
joined_step width symbols some Or t u v w ds j fits h k = cc
joined_step width symbols some Xor truth_type truth_type (Truth true) (Truth true) ds j fits h k = refl
joined_step width symbols some Xor truth_type truth_type (Truth true) (Truth false) ds j fits h k = refl
joined_step width symbols some Xor truth_type truth_type (Truth false) (Truth true) ds j fits h k = refl
joined_step width symbols some Xor truth_type truth_type (Truth false) (Truth false) ds j fits h k = refl
joined_step width symbols some Xor truth_type truth_type (Truth p) w ds j fits h k = absurd k
joined_step width symbols some Xor truth_type truth_type v w ds j fits h k = absurd h
joined_step width symbols some Xor truth_type u v w ds j fits h k = cc
joined_step width symbols some Xor (word_type m) (word_type n) (Bits x) (Bits y) ds j fits h k = ap (λ d. op_value (op.BvBinary OnWords.Xor) (d ∷ ds)) (words_are width symbols some OnWords.Xor m x y h.0 (k.0 ∙ sym (eqb-true m n fits)))
joined_step width symbols some Xor (word_type m) (word_type n) (Bits x) w ds j fits h k = absurd k
joined_step width symbols some Xor (word_type m) (word_type n) v w ds j fits h k = absurd h
joined_step width symbols some Xor (word_type m) u v w ds j fits h k = cc
joined_step width symbols some Xor t u v w ds j fits h k = cc
joined_step width symbols some Plus (integer_type low high) (integer_type less more) (Integer x) (Integer y) ds j fits h k = ap (λ b. op_value (op.BvBinary OnWords.Add) (datum.Bits (word width b) ∷ ds)) (bits_sum width x y)
joined_step width symbols some Plus (integer_type low high) (integer_type less more) (Integer x) w ds j fits h k = absurd k
joined_step width symbols some Plus (integer_type low high) (integer_type less more) v w ds j fits h k = absurd h
joined_step width symbols some Plus (integer_type low high) u v w ds j fits h k = cc
joined_step width symbols some Plus (word_type m) (word_type n) (Bits x) (Bits y) ds j fits h k = ap (λ d. op_value (op.BvBinary OnWords.Add) (d ∷ ds)) (words_are width symbols some OnWords.Add m x y h.0 (k.0 ∙ sym (eqb-true m n fits)))
joined_step width symbols some Plus (word_type m) (word_type n) (Bits x) w ds j fits h k = absurd k
joined_step width symbols some Plus (word_type m) (word_type n) v w ds j fits h k = absurd h
joined_step width symbols some Plus (word_type m) u v w ds j fits h k = cc
joined_step width symbols some Plus t u v w ds j fits h k = cc
joined_step width symbols some Times (integer_type low high) (integer_type less more) (Integer x) (Integer y) ds j fits h k = ap (λ b. op_value (op.BvBinary OnWords.Mul) (datum.Bits (word width b) ∷ ds)) (bits_product width x y)
joined_step width symbols some Times (integer_type low high) (integer_type less more) (Integer x) w ds j fits h k = absurd k
joined_step width symbols some Times (integer_type low high) (integer_type less more) v w ds j fits h k = absurd h
joined_step width symbols some Times (integer_type low high) u v w ds j fits h k = cc
joined_step width symbols some Times (word_type m) (word_type n) (Bits x) (Bits y) ds j fits h k = ap (λ d. op_value (op.BvBinary OnWords.Mul) (d ∷ ds)) (words_are width symbols some OnWords.Mul m x y h.0 (k.0 ∙ sym (eqb-true m n fits)))
joined_step width symbols some Times (word_type m) (word_type n) (Bits x) w ds j fits h k = absurd k
joined_step width symbols some Times (word_type m) (word_type n) v w ds j fits h k = absurd h
joined_step width symbols some Times (word_type m) u v w ds j fits h k = cc
joined_step width symbols some Times t u v w ds j fits h k = cc
joined_step width symbols some o t u v w ds j fits h k = absurd_bool j

pub joined_end : (width : ℕ) (symbols : List (List ℕ)) (o : Infix) (t u : ExprType) (v : Value) → joins_with o o ≡ true → infix_fits o t u ≡ true → IsOfKind width symbols t v
    → op_value (infix_op o (is_word_type t)) (datum_of width symbols v ∷ []) ≡ datum_of width symbols v
joined_end width symbols And truth_type u (Truth true) j fits h = refl
joined_end width symbols And truth_type u (Truth false) j fits h = refl
joined_end width symbols And truth_type u v j fits h = absurd h
joined_end width symbols And (word_type m) u (Bits x) j fits h = refl
joined_end width symbols And (word_type m) u v j fits h = absurd h
joined_end width symbols And t u v j fits h = cc
joined_end width symbols Or truth_type u (Truth true) j fits h = refl
joined_end width symbols Or truth_type u (Truth false) j fits h = refl
joined_end width symbols Or truth_type u v j fits h = absurd h
joined_end width symbols Or (word_type m) u (Bits x) j fits h = refl
joined_end width symbols Or (word_type m) u v j fits h = absurd h
joined_end width symbols Or t u v j fits h = cc
joined_end width symbols Xor truth_type u (Truth true) j fits h = refl
joined_end width symbols Xor truth_type u (Truth false) j fits h = refl
joined_end width symbols Xor truth_type u v j fits h = absurd h
joined_end width symbols Xor (word_type m) u (Bits x) j fits h = refl
joined_end width symbols Xor (word_type m) u v j fits h = absurd h
joined_end width symbols Xor t u v j fits h = cc
joined_end width symbols Plus (integer_type low high) u (Integer z) j fits h = refl
joined_end width symbols Plus (integer_type low high) u v j fits h = absurd h
joined_end width symbols Plus (word_type m) u (Bits x) j fits h = refl
joined_end width symbols Plus (word_type m) u v j fits h = absurd h
joined_end width symbols Plus t u v j fits h = cc
joined_end width symbols Times (integer_type low high) u (Integer z) j fits h = refl
joined_end width symbols Times (integer_type low high) u v j fits h = absurd h
joined_end width symbols Times (word_type m) u (Bits x) j fits h = refl
joined_end width symbols Times (word_type m) u v j fits h = absurd h
joined_end width symbols Times t u v j fits h = cc
joined_end width symbols o t u v j fits h = absurd_bool j

pub calculated_same : (f : ℤ → ℤ → ℤ) (t u s : ExprType) → number_fits t u ≡ true → (number_fits (over_both_ends f t u) u ≡ true) × (is_word_type (over_both_ends f t u) ≡ is_word_type t)
calculated_same f (integer_type low high) (integer_type less more) s h = (refl, refl)
calculated_same f (integer_type low high) u s h = cc
calculated_same f (word_type m) u s h = (h, refl)
calculated_same f t u s h = cc

-- the front behind an operator that joins is of the same kind, and fits it as well
pub joined_kept : (o : Infix) (t u : ExprType) (e : Expression) → joins_with o o ≡ true → infix_fits o t u ≡ true → (infix_fits o (infix_type o t u e) u ≡ true) × (is_word_type (infix_type o t u e) ≡ is_word_type t)
joined_kept And t u e j h = (h, refl)
joined_kept Or t u e j h = (h, refl)
joined_kept Xor t u e j h = (h, refl)
joined_kept Plus t u e j h = calculated_same (λ a b. a +ℤ b) t u t h
joined_kept Times t u e j h = calculated_same (λ a b. a *ℤ b) t u t h
joined_kept o t u e j h = absurd_bool j

pub joins_same : (o p : Infix) → joins_with o p ≡ true → o ≡ p
joins_same And And h = refl
joins_same Or Or h = refl
joins_same Xor Xor h = refl
joins_same Plus Plus h = refl
joins_same Times Times h = refl
joins_same o p h = absurd_bool h

pub joins_plain : (o : Infix) → joins_with o o ≡ true → (is_plain o ≡ true) × (is_union o ≡ false)
joins_plain And h = (refl, refl)
joins_plain Or h = (refl, refl)
joins_plain Xor h = (refl, refl)
joins_plain Plus h = (refl, refl)
joins_plain Times h = (refl, refl)
joins_plain o h = absurd_bool h

pub word_fits : (t u : ExprType) → logical_fits t u ≡ true → is_word_type u ≡ is_word_type t
word_fits truth_type truth_type h = refl
word_fits truth_type u h = cc
word_fits (word_type m) (word_type n) h = refl
word_fits (word_type m) u h = cc
word_fits t u h = cc

pub number_word : (t u : ExprType) → number_fits t u ≡ true → is_word_type u ≡ is_word_type t
number_word (integer_type low high) (integer_type less more) h = refl
number_word (integer_type low high) u h = cc
number_word (word_type m) (word_type n) h = refl
number_word (word_type m) u h = cc
number_word t u h = cc

pub joined_word : (o : Infix) (t u : ExprType) → joins_with o o ≡ true → infix_fits o t u ≡ true → is_word_type u ≡ is_word_type t
joined_word And t u j h = word_fits t u h
joined_word Or t u j h = word_fits t u h
joined_word Xor t u j h = word_fits t u h
joined_word Plus t u j h = number_word t u h
joined_word Times t u j h = number_word t u h
joined_word o t u j h = absurd_bool j

-- a value of an implication's type is of its kind
pub implied_kind : (width : ℕ) (symbols : List (List ℕ)) (t u : ExprType) (v w : Value) → logical_fits t u ≡ true → IsOfKind width symbols t v → IsOfKind width symbols u w → IsOfKind width symbols t (implied v w)
implied_kind width symbols truth_type truth_type (Truth p) (Truth q) fits h k = tt
implied_kind width symbols truth_type truth_type (Truth p) w fits h k = absurd k
implied_kind width symbols truth_type truth_type v w fits h k = absurd h
implied_kind width symbols truth_type u v w fits h k = cc
implied_kind width symbols (word_type m) (word_type n) (Bits x) (Bits y) fits h k = implied_lies (word_type m) (word_type n) (Bits x) (Bits y) fits h k
implied_kind width symbols (word_type m) (word_type n) (Bits x) w fits h k = absurd k
implied_kind width symbols (word_type m) (word_type n) v w fits h k = absurd h
implied_kind width symbols (word_type m) u v w fits h k = cc
implied_kind width symbols t u v w fits h k = cc

pub logical_all : (t u : ExprType) (ss : List ExprType) → logical_fits t u ≡ true → list_all (logical_fits t) ss ≡ true → list_all (logical_fits u) ss ≡ true
logical_all t u [] h k = refl
logical_all t u (s ∷ ss) h k =
    let b = both_true (logical_fits t s) (list_all (logical_fits t) ss) k in
    two_true (logical_fits u s) (list_all (logical_fits u) ss) (logical_trans t u s h b.0) (logical_all t u ss h b.1)
  where
    logical_trans : (t u s : ExprType) → logical_fits t u ≡ true → logical_fits t s ≡ true → logical_fits u s ≡ true
    logical_trans truth_type truth_type s h k = k
    logical_trans truth_type u s h k = cc
    logical_trans (word_type m) (word_type n) (word_type i) h k = eq-eqb n i (sym (eqb-true m n h) ∙ eqb-true m i k)
    logical_trans (word_type m) (word_type n) s h k = cc
    logical_trans (word_type m) u s h k = cc
    logical_trans t u s h k = cc

-- what is before a link, with these values bound: its term has the code of its value, which lies in its type
pub record Front (width : ℕ) (symbols : List (List ℕ)) (calls : Calls) (now later : Values) (vals : List Datum) (t : ExprType) (v : Value) (m : ℕ) (a : Tree) : Type 0 where
  pub value : term_value calls now later vals a ≡ datum_of width symbols v
  pub lies : LiesIn t v
  pub kind : IsOfKind width symbols t v
  pub wide : IsAsWide t m

-- whether each part of a set permits the value
abbrev pub permit_list : (Path → Value) → (Path → Value) → Expressions → Value → List Bool
permit_list f g no_expressions v = []
permit_list f g (expression e es) v = (denote f g e).permits v ∷ permit_list f g es v

pub permits_any : (f g : Path → Value) (es : Expressions) (v : Value) → any_of (permit_list f g es v) ≡ one_permits f g es v
permits_any f g no_expressions v = refl
permits_any f g (expression e es) v = ap (λ b. (denote f g e).permits v || b) (permits_any f g es v)

abbrev pub link_permits : (Path → Value) → (Path → Value) → Links → Value → List Bool
link_permits f g no_links v = []
link_permits f g (link i e ls) v = (denote f g e).permits v ∷ link_permits f g ls v

pub or_parts_joined : (a b x : Bool) → ((a || b) || x) ≡ (a || (b || x))
or_parts_joined true b x = refl
or_parts_joined false b x = refl

pub unions_permit : (f g : Path → Value) (d : Denotation) (ls : Links) (v : Value) → are_unions ls ≡ true → (linked_values f g d ls).permits v ≡ (d.permits v || any_of (link_permits f g ls v))
unions_permit f g d no_links v h = sym (or_false (d.permits v))
unions_permit f g d (link Union e ls) v h =
    unions_permit f g (joined Union d (denote f g e)) ls v h ∙ or_parts_joined (d.permits v) ((denote f g e).permits v) (any_of (link_permits f g ls v))
unions_permit f g d (link i e ls) v h = absurd_bool h

pub toint_held : (width : ℕ) (us : List ExprType) (ns : List (Option ℕ)) → integers_width (function_type OfFunction.Toint us ns) ≤ width → Holds width (pos (2 ^ type_width (first_type us) - 1))
toint_held width us ns l =
    let top = pos (2 ^ type_width (first_type us) - 1) in
    let order : pos 0 ≤ℤ top = omega (arith, ints) in
    held_wider (interval_width (pos 0) top) width top l ((interval_width_is_least (pos 0) top order).holds top order (omega (arith, ints)))

pub first_of : (a : Option ExprType) (b : Option ExprType) (u w : ExprType) → all_types (a ∷ b ∷ []) ≡ Some (u ∷ w ∷ []) → a ≡ Some u
first_of a b u w h = let k = all_cons a (b ∷ []) (u ∷ w ∷ []) h in let e : k.0 ≡ u = ap first_type k.4 in k.2 ∙ ap (λ z. Some z) e

pub extend_fits : (a b : Option ExprType) (us : List ExprType) (m : Option ℕ) (n : ℕ) → all_types (a ∷ b ∷ []) ≡ Some us → function_fits OfFunction.Extend us ≡ true
    → arguments_fit OfFunction.Extend us (m ∷ Some n ∷ []) ≡ true → (u : ExprType) × (a ≡ Some u) × (is_word_type u ≡ true) × (is_width (type_width u + n) ≡ true)
extend_fits a b (u ∷ w ∷ []) m n h fits numbers = (u, first_of a b u w h, fits, numbers)
extend_fits a b [] m n h fits numbers = absurd_bool fits
extend_fits a b (u ∷ []) m n h fits numbers = absurd_bool fits
extend_fits a b (u ∷ w ∷ x ∷ us) m n h fits numbers = absurd_bool fits

pub resize_fits : (a b : Option ExprType) (us : List ExprType) (m : Option ℕ) (n : ℕ) → all_types (a ∷ b ∷ []) ≡ Some us → function_fits OfFunction.Resize us ≡ true
    → arguments_fit OfFunction.Resize us (m ∷ Some n ∷ []) ≡ true → (u : ExprType) × (a ≡ Some u) × (is_word_type u ≡ true) × (is_width n ≡ true)
resize_fits a b (u ∷ w ∷ []) m n h fits numbers = (u, first_of a b u w h, fits, numbers)
resize_fits a b [] m n h fits numbers = absurd_bool fits
resize_fits a b (u ∷ []) m n h fits numbers = absurd_bool fits
resize_fits a b (u ∷ w ∷ x ∷ us) m n h fits numbers = absurd_bool fits

-- a second argument that is no number fits neither function
abbrev pub IsSecond : List (Option ℕ) → Type 0
IsSecond (m ∷ Some n ∷ []) = Unit {0}
IsSecond ns = ⊥

pub extend_second : (us : List ExprType) (ns : List (Option ℕ)) → arguments_fit OfFunction.Extend us ns ≡ true → IsSecond ns
extend_second (u ∷ us) (m ∷ Some n ∷ []) h = tt
extend_second [] ns h = absurd_bool h
extend_second (u ∷ us) [] h = absurd_bool h
extend_second (u ∷ us) (m ∷ []) h = absurd_bool h
extend_second (u ∷ us) (m ∷ None ∷ ns) h = absurd_bool h
extend_second (u ∷ us) (m ∷ Some n ∷ k ∷ ns) h = absurd_bool h

pub resize_second : (us : List ExprType) (ns : List (Option ℕ)) → arguments_fit OfFunction.Resize us ns ≡ true → IsSecond ns
resize_second us (m ∷ Some n ∷ []) h = tt
resize_second us [] h = absurd_bool h
resize_second us (m ∷ []) h = absurd_bool h
resize_second us (m ∷ None ∷ ns) h = absurd_bool h
resize_second us (m ∷ Some n ∷ k ∷ ns) h = absurd_bool h
