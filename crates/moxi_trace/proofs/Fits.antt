-- Values that a token spells are of the sort.
use Rattle.std.proofs.Common.{◌≡◌, ℕ, zero, suc, ◌+◌, ◌<◌, ◌≤◌, ◌^◌, ◌&&◌, ◌⊎◌, inl, inr, Bool, true, false, cond, eqb, ltb, leb, Option, Some, None, List, [], ◌∷◌, ◌++◌, length, refl, sym, subst, arith}
use Rattle.std.specs.Prelude.{codes, slice_get, option_map, option_and_then}
use Rattle.std.specs.Str.{bytes_eq}
use Rattle.std.proofs.lemmas.Bool.{ltb-true, leb-true, and_parts}
use Rattle.std.proofs.lemmas.Bool.Decides.{nat_tests}
use Rattle.std.proofs.lemmas.Option.{same_Some, none-some}
use Rattle.name_maps.specs.Names.{place_of}
use Rattle.word_core.specs.Words.{BitVector, IsWord}
use Rattle.word_core.specs.declared.word.TheConstants.{WIDEST}
use Rattle.word_core.specs.Digits.{digits_value, fitted, read_word}
use Rattle.moxi_terms.specs.declared.data.Sort.{Sort}
use Rattle.moxi_terms.specs.declared.data.Sort.TheVariants.{Truth, Bits, Choice}
use Rattle.moxi_terms.specs.declared.data.Datum.{Datum}
use Rattle.moxi_terms.specs.declared.data.Datum.TheVariants as datum
use Rattle.moxi_terms.specs.declared.term.Enumeration.{Enumeration}
use Rattle.moxi_terms.specs.Names.{all_constants, numbered, constant_numbers}
use Rattle.moxi_terms.specs.Sorts.{IsOf, IsConstant}
use Rattle.moxi_trace.specs.declared.tokens.Shape.{Shape}
use Rattle.moxi_trace.specs.declared.tokens.Shape.TheVariants as shape
use Rattle.moxi_trace.specs.Values.{if_same, constant_named, constant_of, symbol_value, word_value, value_of}
use Rattle.text_core.proofs.Truths.{cond_some, then_some}

map_some : {X Y : Type 0} (f : X → Y) (o : Option X) (v : Y) → option_map f o ≡ Some v → (x : X) × (f x ≡ v) × (o ≡ Some x)
map_some f None v h = absurd (none-some v h)
map_some f (Some x) v h = (x, same_Some (f x) v h, refl)

-- ---- constants

-- a number among those of an enumeration's constants, or behind them
number_at : (n i : ℕ) (cs : List (List ℕ)) (rest : List (ℕ × ℕ)) (p : ℕ) (c : ℕ × ℕ) → slice_get (numbered n i cs ++ rest) p ≡ Some c
    → ((c.0 ≡ n) × (c.1 < i + length cs)) ⊎ ((q : ℕ) × (slice_get rest q ≡ Some c))
number_at n i [] rest p c e = inr (p, e)
number_at n i (x ∷ cs) rest zero c e =
    let same : (n, i) ≡ c = same_Some (n, i) c e in
    inl (subst (λ (c : ℕ × ℕ). (c.0 ≡ n) × (c.1 < i + length (x ∷ cs))) same (refl, omega arith))
number_at n i (x ∷ cs) rest (suc p) c e = go (number_at n (suc i) cs rest p c e)
  where
    go : ((c.0 ≡ n) × (c.1 < suc i + length cs)) ⊎ ((q : ℕ) × (slice_get rest q ≡ Some c)) → ((c.0 ≡ n) × (c.1 < i + length (x ∷ cs))) ⊎ ((q : ℕ) × (slice_get rest q ≡ Some c))
    go (inl h) = inl (h.0, omega (arith, h.1))
    go (inr h) = inr h

nothing_at : {X : Type 0} (p : ℕ) (c : X) → slice_get [] p ≡ Some c → ⊥
nothing_at zero c e = none-some c e
nothing_at (suc p) c e = none-some c e

constant_at : (k : ℕ) (es : List Enumeration) (p : ℕ) (c : ℕ × ℕ) → slice_get (constant_numbers k es) p ≡ Some c → (j : ℕ) × (c.0 ≡ k + j) × IsConstant es j c.1
constant_at k [] p c e = absurd (nothing_at p c e)
constant_at k (x ∷ es) p c e = go (number_at k 0 x.constants (constant_numbers (suc k) es) p c e) (λ q h. constant_at (suc k) es q c h)
  where
    go : ((c.0 ≡ k) × (c.1 < 0 + length x.constants)) ⊎ ((q : ℕ) × (slice_get (constant_numbers (suc k) es) q ≡ Some c))
        → ((q : ℕ) → slice_get (constant_numbers (suc k) es) q ≡ Some c → (j : ℕ) × (c.0 ≡ suc k + j) × IsConstant es j c.1) → (j : ℕ) × (c.0 ≡ k + j) × IsConstant (x ∷ es) j c.1
    go (inl h) later = (0, omega (arith, h.0), record { enumeration = x; there = refl; within = omega (arith, h.1) })
    go (inr h) later =
        let r = later h.0 h.1 in
        (suc r.0, omega (arith, r.1), record { enumeration = r.2.enumeration; there = r.2.there; within = r.2.within })

is_constant : (es : List Enumeration) (name : List ℕ) (c : ℕ × ℕ) → constant_named es name ≡ Some c → IsConstant es c.0 c.1
is_constant es name c e =
    let p = then_some (slice_get (constant_numbers 0 es)) (place_of (all_constants es) name) c e in
    let r = constant_at 0 es p.0 c p.1 in
    let same : r.0 ≡ c.0 = omega (arith, r.1) in
    subst (λ (n : ℕ). IsConstant es n c.1) same r.2

constant_fits : (es : List Enumeration) (s : Sort) (c : ℕ × ℕ) (x : Datum) → IsConstant es c.0 c.1 → if_same s (Choice c.0) (datum.Constant c.0 c.1) ≡ Some x → IsOf es s x
constant_fits es Truth c x k e = absurd (none-some x e)
constant_fits es (Bits w) c x k e = absurd (none-some x e)
constant_fits es (Choice n) c x k e =
    let p = cond_some (eqb n c.0) (Some (datum.Constant c.0 c.1)) x e in
    let same : n ≡ c.0 = (let t = p.0 in grind (arith, nat_tests)) in
    subst (IsOf es (Choice n)) (same_Some (datum.Constant c.0 c.1) x p.1) (sym same, subst (λ (m : ℕ). IsConstant es m c.1) (sym same) k)

-- ---- symbols

truth_fits : (es : List Enumeration) (s : Sort) (b : Bool) (x : Datum) → if_same s Truth (datum.Truth b) ≡ Some x → IsOf es s x
truth_fits es Truth b x e = subst (IsOf es Truth) (same_Some (datum.Truth b) x e) tt
truth_fits es (Bits w) b x e = absurd (none-some x e)
truth_fits es (Choice n) b x e = absurd (none-some x e)

named_fits : (es : List Enumeration) (s : Sort) (name : List ℕ) (o : Option (ℕ × ℕ)) (x : Datum) → constant_named es name ≡ o → constant_of s o ≡ Some x → IsOf es s x
named_fits es s name None x is e = absurd (none-some x e)
named_fits es s name (Some c) x is e = constant_fits es s c x (is_constant es name c is) e

symbol_fits : (es : List Enumeration) (s : Sort) (name : List ℕ) (x : Datum) → symbol_value es s name ≡ Some x → IsOf es s x
symbol_fits es s name x e = go (bytes_eq name (codes "true")) (bytes_eq name (codes "false")) e
  where
    go : (b c : Bool) → cond b (if_same s Truth (datum.Truth true)) (cond c (if_same s Truth (datum.Truth false)) (constant_of s (constant_named es name))) ≡ Some x → IsOf es s x
    go true c e = truth_fits es s true x e
    go false true e = truth_fits es s false x e
    go false false e = named_fits es s name (constant_named es name) x refl e

-- ---- words

fitted_fits : (w n : ℕ) (c : BitVector) → 1 ≤ w → w ≤ WIDEST → fitted w n ≡ Some c → (c.width ≡ w) × IsWord c
fitted_fits w n c low high e =
    let p = cond_some (ltb n (2 ^ w)) (Some (record { width = w; bits = n })) c e in
    let same : record { width = w; bits = n } ≡ c = same_Some (record { width = w; bits = n }) c p.1 in
    subst (λ (x : BitVector). (x.width ≡ w) × IsWord x) same (refl, (low, high, ltb-true n (2 ^ w) p.0))

word_fits : (w : ℕ) (digits : List ℕ) (c : BitVector) → read_word w 2 digits ≡ Some c → (c.width ≡ w) × IsWord c
word_fits w digits c e =
    let p = cond_some (leb 1 w && leb w WIDEST) (option_and_then (fitted w) (digits_value 2 digits)) c e in
    let wide = and_parts (leb 1 w) (leb w WIDEST) p.0 in
    let n = then_some (fitted w) (digits_value 2 digits) c p.1 in
    fitted_fits w n.0 c (leb-true 1 w wide.0) (leb-true w WIDEST wide.1) n.1

digits_fit : (es : List Enumeration) (s : Sort) (digits : List ℕ) (x : Datum) → word_value s digits ≡ Some x → IsOf es s x
digits_fit es Truth digits x e = absurd (none-some x e)
digits_fit es (Choice n) digits x e = absurd (none-some x e)
digits_fit es (Bits w) digits x e =
    let p = cond_some (eqb (length digits) w) (option_map datum.Bits (read_word w 2 digits)) x e in
    let m = map_some datum.Bits (read_word w 2 digits) x p.1 in
    subst (IsOf es (Bits w)) m.1 (word_fits w digits m.0 m.2)

pub value_fits : (es : List Enumeration) (s : Sort) (k : Shape) (bytes : List ℕ) (x : Datum) → value_of es s k bytes ≡ Some x → IsOf es s x
value_fits es s shape.Symbol bytes x e = symbol_fits es s bytes x e
value_fits es s shape.Binary bytes x e = digits_fit es s bytes x e
value_fits es s shape.Open bytes x e = absurd (none-some x e)
value_fits es s shape.Close bytes x e = absurd (none-some x e)
value_fits es s shape.Keyword bytes x e = absurd (none-some x e)
value_fits es s shape.Numeral bytes x e = absurd (none-some x e)
value_fits es s shape.Other bytes x e = absurd (none-some x e)
