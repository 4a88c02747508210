-- What is asked of an item's value holds in the row of a state of the declared types, and of a transition where frozen variables stay.
use Rattle.std.proofs.Common.{◌≡◌, ℕ, ◌≤◌, Bool, true, false, ◌&&◌, ◌==◌, if◌then◌else◌, ℤ, ◌≤ℤ◌, int_le, List, [], ◌∷◌, map, Option, None, refl, sym, ap, ◌∙◌, subst, arith}
use Rattle.std.specs.List.{AllByRecursion}
use Rattle.std.proofs.lemmas.Int.{ints}
use Rattle.std.proofs.lemmas.Bool.{eq-eqb}
use Rattle.std.proofs.lemmas.Slice.Eq.{bytes_eq-Decides}
use Rattle.word_core.specs.Table.{bit_of, signed_value}
use Rattle.word_core.specs.declared.kinds.Binary.TheVariants as OnWords
use Rattle.smv_text.specs.declared.tree.Member.{Member}
use Rattle.smv_text.specs.declared.tree.Member.TheVariants as OfMember
use Rattle.smv_text.specs.Tree.{PlainDomain, boolean, members, between, bits, instance}
use Rattle.smv_meaning.specs.declared.value.Value.{Value}
use Rattle.smv_meaning.specs.declared.value.Value.TheVariants.{Truth, Integer, Symbol, Bits}
use Rattle.smv_meaning.specs.Values.{value_same, is_between, member_value, is_among, is_of_type}
use Rattle.smv_meaning.specs.Types.{ExprType, integer_type, domain_type}
use Rattle.smv_meaning.specs.Checks.{variable_type}
use Rattle.smv_meaning.specs.Owed.{HasType}
use Rattle.smv_meaning.specs.laws.Booleans.{both_true, two_true, or_true, absurd_bool}
use mathlib.Core.Logic.{⊎_elim}
use Rattle.smv_items.specs.FlatItems.{type_or_truth, domain_members}
use Rattle.smv_flat.specs.FlatWidth.{Holds as HoldsInteger, integers_width, interval_width}
use Rattle.smv_width.proofs.WidthLaw.{interval_width_is_least}
use Rattle.moxi_terms.specs.declared.data.Datum.{Datum}
use Rattle.moxi_terms.specs.declared.data.Datum.TheVariants as datum
use Rattle.moxi_terms.specs.declared.data.TermOp.TheVariants as op
use Rattle.moxi_terms.specs.Operators.{same, op_value}
use Rattle.moxi_terms.specs.Tree.{variable, trees_of}
use Rattle.moxi_terms.specs.Value.{Calls, Values, term_value, term_values}
use Rattle.moxi_scripts.specs.Behaviour.{Holds}
use Rattle.smv_script.specs.Codes.{integer_bits, integer_word, datum_of}
use Rattle.smv_script.specs.Operators.{between_term, any_term}
use Rattle.smv_script.specs.Script.{member_term, domain_parts}
use Rattle.smv_script_laws.proofs.Integers.{signed_back}
use Rattle.smv_script_laws.proofs.Parts.{held_wider, any_of, any_value, joined_cons}
use Rattle.smv_flat_laws.proofs.FlatFound.{left_true}
use Rattle.smv_laws.proofs.Cycles.{right_true}
use Rattle.text_core.proofs.Truths.{and_true}

pub same_self : (d : Datum) → same d d ≡ true
same_self (datum.Truth true) = refl
same_self (datum.Truth false) = refl
same_self (datum.Bits w) = two_true (w.width == w.width) (w.bits == w.bits) (eq-eqb w.width w.width refl) (eq-eqb w.bits w.bits refl)
same_self (datum.Constant n i) = two_true (n == n) (i == i) (eq-eqb n n refl) (eq-eqb i i refl)

int_le_is : (a b : ℤ) → int_le a b ≡ true → a ≤ℤ b
int_le_is a b h = omega (arith, ints)

-- ---- members of an enumeration

member_same : (m : Member) (v : Value) → value_same (member_value m) v ≡ true → member_value m ≡ v
member_same (OfMember.Symbol s) (Symbol x) h = ap Symbol ((bytes_eq-Decides s x).0 h)
member_same (OfMember.Symbol s) (Truth b) h = absurd_bool h
member_same (OfMember.Symbol s) (Integer z) h = absurd_bool h
member_same (OfMember.Symbol s) (Bits w) h = absurd_bool h
member_same (OfMember.Integer a) (Integer b) h =
    let s = both_true (int_le a b) (int_le b a) h in
    let p = int_le_is a b s.0 in
    let q = int_le_is b a s.1 in
    let e : a ≡ b = omega (arith, ints, p, q) in
    ap Integer e
member_same (OfMember.Integer a) (Truth b) h = absurd_bool h
member_same (OfMember.Integer a) (Symbol s) h = absurd_bool h
member_same (OfMember.Integer a) (Bits w) h = absurd_bool h

module _ (width : ℕ) (symbols : List (List ℕ)) (some : 1 ≤ width) (calls : Calls) (env : Values) (p : ℕ) (v : Value) (coded : env p ≡ datum_of width symbols v) where
  abbrev is_member : Member → Bool
  is_member m = same (datum_of width symbols v) (datum_of width symbols (member_value m))

  member_at : (m : Member) → term_value calls env env [] (member_term width symbols (variable p false) m) ≡ datum.Truth (is_member m)
  member_at (OfMember.Symbol s) =
      ap (λ d. datum.Truth (same d (datum_of width symbols (Symbol s)) && true)) coded ∙ ap datum.Truth (and_true (same (datum_of width symbols v) (datum_of width symbols (Symbol s))))
  member_at (OfMember.Integer z) =
      ap (λ d. datum.Truth (same d (datum_of width symbols (Integer z)) && true)) coded ∙ ap datum.Truth (and_true (same (datum_of width symbols v) (datum_of width symbols (Integer z))))

  members_at : (ms : List Member) → term_values calls env env [] (trees_of (map (member_term width symbols (variable p false)) ms)) ≡ map (λ b. datum.Truth b) (map is_member ms)
  members_at [] = refl
  members_at (m ∷ ms) = joined_cons _ _ _ _ (member_at m) (members_at ms)

  among_any : (ms : List Member) → is_among ms v ≡ true → any_of (map is_member ms) ≡ true
  among_any [] h = absurd_bool h
  among_any (m ∷ ms) h =
      ⊎_elim (λ s. left_true (is_member m) (any_of (map is_member ms))
      (ap (λ x. same (datum_of width symbols v) (datum_of width symbols x)) (member_same m v s) ∙ same_self (datum_of width symbols v)))
      (λ s. right_true (is_member m) (any_of (map is_member ms)) (among_any ms s)) (or_true (value_same (member_value m) v) (is_among ms v) h)

  members_hold : (ms : List Member) → is_among ms v ≡ true → Holds calls env env (any_term (trees_of (map (member_term width symbols (variable p false)) ms)))
  members_hold ms h =
      any_value calls env env [] (trees_of (map (member_term width symbols (variable p false)) ms)) (map is_member ms) (members_at ms) ∙ ap datum.Truth (among_any ms h)

  -- ---- intervals

  bit_is : (b : Bool) → (bit_of b == 1) ≡ b
  bit_is true = refl
  bit_is false = refl

  at_most : (x z : ℤ) → HoldsInteger width x → HoldsInteger width z → (bit_of (int_le (signed_value width (integer_bits width x)) (signed_value width (integer_bits width z))) == 1) ≡ int_le x z
  at_most x z a b =
      bit_is (int_le (signed_value width (integer_bits width x)) (signed_value width (integer_bits width z)))
      ∙ ap (λ n. int_le n (signed_value width (integer_bits width z))) (signed_back width x some a) ∙ ap (λ n. int_le x n) (signed_back width z some b)

  between_holds : (low high : ℤ) → integers_width (integer_type low high) ≤ width → is_between low high v ≡ true → Holds calls env env (between_term width low high (variable p false))
  between_holds low high l h = by v coded h
    where
      by : (v : Value) → env p ≡ datum_of width symbols v → is_between low high v ≡ true → Holds calls env env (between_term width low high (variable p false))
      by (Integer z) e h =
          let s = both_true (int_le low z) (int_le z high) h in
          let a = int_le_is low z s.0 in
          let b = int_le_is z high s.1 in
          let order : low ≤ℤ high = omega (arith, ints, a, b) in
          let w = interval_width_is_least low high order in
          let first = held_wider (interval_width low high) width low l (w.holds low (omega (arith, ints)) order) in
          let last = held_wider (interval_width low high) width high l (w.holds high order (omega (arith, ints))) in
          let own = held_wider (interval_width low high) width z l (w.holds z a b) in
          ap (λ d. op_value op.And (op_value (op.BvBinary OnWords.Slte) (datum.Bits (integer_word width low) ∷ d ∷ []) ∷ op_value (op.BvBinary OnWords.Slte) (d ∷ datum.Bits (integer_word width high) ∷ []) ∷ [])) e
          ∙ ap (λ b. datum.Truth (b && ((bit_of (int_le (signed_value width (integer_bits width z)) (signed_value width (integer_bits width high))) == 1) && true))) (at_most low z first own)
          ∙ ap (λ b. datum.Truth (int_le low z && (b && true))) (at_most z high own last)
          ∙ ap (λ b. datum.Truth (b && (int_le z high && true))) s.0 ∙ ap (λ b. datum.Truth (b && true)) s.1
      by (Truth b) e h = absurd_bool h
      by (Symbol s) e h = absurd_bool h
      by (Bits w) e h = absurd_bool h

  -- ---- a declared type

  abbrev AllIn : PlainDomain → ExprType → Type 0
  AllIn d t = AllByRecursion (Holds calls env env) (domain_parts width symbols (variable p false) t (domain_members d))

  pub domain_holds : (d : PlainDomain) → is_of_type d v ≡ true → HasType (variable_type d) → integers_width (type_or_truth (variable_type d)) ≤ width
      → AllByRecursion (Holds calls env env) (domain_parts width symbols (variable p false) (type_or_truth (variable_type d)) (domain_members d))
  domain_holds d h k l = by d h (picked d k) l
    where
      if_some : (b : Bool) (o : Option ExprType) → HasType (if b then o else None) → (if b then o else None) ≡ o
      if_some true o h = refl
      if_some false o h = absurd_bool h

      picked : (d : PlainDomain) → HasType (variable_type d) → type_or_truth (variable_type d) ≡ type_or_truth (domain_type d)
      picked d k = ap type_or_truth (if_some _ (domain_type d) k)

      by : (d : PlainDomain) → is_of_type d v ≡ true → type_or_truth (variable_type d) ≡ type_or_truth (domain_type d) → integers_width (type_or_truth (variable_type d)) ≤ width → AllIn d (type_or_truth (variable_type d))
      by boolean h e l = subst (AllIn boolean) (sym e) tt
      by (members []) h e l = absurd_bool h
      by (members (m ∷ ms)) h e l = (members_hold (m ∷ ms) h, tt)
      by (between low high) h e l = subst (AllIn (between low high)) (sym e) (between_holds low high (subst (λ t. integers_width t ≤ width) e l) h, tt)
      by (bits n) h e l = subst (AllIn (bits n)) (sym e) tt
      by (instance m es) h e l = absurd_bool h
