-- Calls whose arguments are too few or too many, and words that are numbers.
use Rattle.std.proofs.Common.{◌≡◌, ℕ, suc, get_or, Err, ◌-◌, ◌^◌, ◌≤◌, ◌<◌, true, false, List, [], ◌∷◌, length, map, Option, Some, None, pos, refl, sym, ◌∙◌, ap, arith}
use Rattle.std.proofs.Math.Pow.{pow_mono}
use Rattle.std.proofs.lemmas.Bool.Decides.{nat_tests}
use Rattle.text_core.specs.declared.place.Place.{Place}
use Rattle.smv_text.specs.declared.tree.Expr.{Expr}
use Rattle.smv_text.specs.declared.operators.Function.{Function}
use Rattle.smv_text.specs.declared.operators.Function.TheVariants as OfFunction
use Rattle.smv_text.specs.Tree.{trees_of}
use Rattle.smv_text.specs.View.{plain}
use Rattle.smv_meaning.specs.Types.{ExprType, is_word_type, integer_type, in_limit, function_fits, function_type, arguments_fit, numbers_of}
use Rattle.smv_intervals.specs.declared.types.Ty.{Ty}
use Rattle.smv_intervals.specs.declared.types.Ty.TheVariants.{Truth}
use Rattle.smv_intervals.specs.View.{seen}
use Rattle.smv_types.specs.Outcome.{outcome, refusal_at}
use Rattle.smv_types.specs.Steps.{call_step}

pub clash : (p : Place) (f : Function) (ts : List ExprType) (ns : List (Option ℕ)) → function_fits f ts ≡ false
    → outcome (call_step p f (Some ts) ns) ≡ Err (refusal_at 16 p)
clash p f ts ns h = rw h refl

pub unfit : (p : Place) (f : Function) (ts : List ExprType) (ns : List (Option ℕ)) → function_fits f ts ≡ true
    → in_limit (function_type f ts ns) ≡ true → arguments_fit f ts ns ≡ false
    → outcome (call_step p f (Some ts) ns) ≡ Err (refusal_at 25 p)
unfit p f ts ns g i h = rw (g, i, h) refl

pub max_of_two : (ts : List Ty) → (length ts ≡ 2 → ⊥) → function_fits OfFunction.Max (map seen ts) ≡ false
max_of_two [] h = refl
max_of_two (t ∷ []) h = refl
max_of_two (t ∷ u ∷ []) h = absurd (h refl)
max_of_two (t ∷ u ∷ v ∷ ts) h = refl

pub min_of_two : (ts : List Ty) → (length ts ≡ 2 → ⊥) → function_fits OfFunction.Min (map seen ts) ≡ false
min_of_two [] h = refl
min_of_two (t ∷ []) h = refl
min_of_two (t ∷ u ∷ []) h = absurd (h refl)
min_of_two (t ∷ u ∷ v ∷ ts) h = refl

pub as_many : (es : List Expr) → length (numbers_of (trees_of (map plain es))) ≡ length es
as_many [] = refl
as_many (e ∷ es) = ap (λ n. suc n) (as_many es)

pub uwconst_of_two : (ts : List ExprType) (ns : List (Option ℕ)) → (length ns ≡ 2 → ⊥) → arguments_fit OfFunction.Uwconst ts ns ≡ false
uwconst_of_two ts [] h = refl
uwconst_of_two ts (None ∷ ns) h = refl
uwconst_of_two ts (Some v ∷ []) h = refl
uwconst_of_two ts (Some v ∷ None ∷ ns) h = refl
uwconst_of_two ts (Some v ∷ Some n ∷ []) h = absurd (h refl)
uwconst_of_two ts (Some v ∷ Some n ∷ m ∷ ns) h = refl

pub extend_of_two : (t : ExprType) (ts : List ExprType) (ns : List (Option ℕ)) → (length ns ≡ 2 → ⊥) → arguments_fit OfFunction.Extend (t ∷ ts) ns ≡ false
extend_of_two t ts [] h = refl
extend_of_two t ts (m ∷ []) h = refl
extend_of_two t ts (m ∷ None ∷ ns) h = refl
extend_of_two t ts (m ∷ Some n ∷ []) h = absurd (h refl)
extend_of_two t ts (m ∷ Some n ∷ k ∷ ns) h = refl

pub resize_of_two : (ts : List ExprType) (ns : List (Option ℕ)) → (length ns ≡ 2 → ⊥) → arguments_fit OfFunction.Resize ts ns ≡ false
resize_of_two ts [] h = refl
resize_of_two ts (m ∷ []) h = refl
resize_of_two ts (m ∷ None ∷ ns) h = refl
resize_of_two ts (m ∷ Some n ∷ []) h = absurd (h refl)
resize_of_two ts (m ∷ Some n ∷ k ∷ ns) h = refl

pub word_in_limit : (w : ℕ) → w ≤ 62 → in_limit (integer_type (pos 0) (pos (2 ^ w - 1))) ≡ true
word_in_limit w h = let g : 2 ^ w ≤ 2 ^ 62 = pow_mono h in let k : 2 ^ w - 1 ≤ 2 ^ 62 - 1 = omega arith in grind (arith, nat_tests)

pub word_over_limit : (w : ℕ) → 62 < w → in_limit (integer_type (pos 0) (pos (2 ^ w - 1))) ≡ false
word_over_limit w h = let g : 2 ^ 63 ≤ 2 ^ w = pow_mono h in let k : 2 ^ 62 - 1 < 2 ^ w - 1 = omega arith in grind (arith, nat_tests)

-- a word of 64 bits or more has room for each number of 64 bits
pub wide_enough : (w n : ℕ) → 64 ≤ w → n < 2 ^ 64 → n < 2 ^ w
wide_enough w n h small = let up : 2 ^ 64 ≤ 2 ^ w = pow_mono h in omega (arith, up, small)

pub uwconst_fits : (ts : List Ty) → length ts ≡ 2 → function_fits OfFunction.Uwconst (map seen ts) ≡ true
uwconst_fits [] h = absurd (omega arith)
uwconst_fits (t ∷ []) h = absurd (omega arith)
uwconst_fits (t ∷ u ∷ []) h = refl
uwconst_fits (t ∷ u ∷ v ∷ ts) h = absurd (omega arith)

pub max_clash : (p : Place) (ts : List Ty) → (length ts ≡ 2 → ⊥) → outcome (call_step p OfFunction.Max (Some (map seen ts)) []) ≡ Err (refusal_at 16 p)
max_clash p ts h = clash p OfFunction.Max (map seen ts) [] (max_of_two ts h)

pub min_clash : (p : Place) (ts : List Ty) → (length ts ≡ 2 → ⊥) → outcome (call_step p OfFunction.Min (Some (map seen ts)) []) ≡ Err (refusal_at 16 p)
min_clash p ts h = clash p OfFunction.Min (map seen ts) [] (min_of_two ts h)

pub uwconst_unfit : (p : Place) (ts : List Ty) (es : List Expr) → length ts ≡ 2 → (length es ≡ 2 → ⊥)
    → outcome (call_step p OfFunction.Uwconst (Some (map seen ts)) (numbers_of (trees_of (map plain es)))) ≡ Err (refusal_at 25 p)
uwconst_unfit p ts es g h =
    let ns = numbers_of (trees_of (map plain es)) in
    unfit p OfFunction.Uwconst (map seen ts) ns (uwconst_fits ts g) refl (uwconst_of_two (map seen ts) ns (λ e. h (sym (as_many es) ∙ e)))

pub extend_unfit : (p : Place) (ts : List Ty) (es : List Expr) → function_fits OfFunction.Extend (map seen ts) ≡ true → (length es ≡ 2 → ⊥)
    → outcome (call_step p OfFunction.Extend (Some (map seen ts)) (numbers_of (trees_of (map plain es)))) ≡ Err (refusal_at 25 p)
extend_unfit p [] es g h = cc
extend_unfit p (t ∷ ts) es g h =
    let ns = numbers_of (trees_of (map plain es)) in
    unfit p OfFunction.Extend (map seen (t ∷ ts)) ns g refl (extend_of_two (seen t) (map seen ts) ns (λ e. h (sym (as_many es) ∙ e)))

pub resize_unfit : (p : Place) (ts : List Ty) (es : List Expr) → function_fits OfFunction.Resize (map seen ts) ≡ true → (length es ≡ 2 → ⊥)
    → outcome (call_step p OfFunction.Resize (Some (map seen ts)) (numbers_of (trees_of (map plain es)))) ≡ Err (refusal_at 25 p)
resize_unfit p ts es g h =
    let ns = numbers_of (trees_of (map plain es)) in
    unfit p OfFunction.Resize (map seen ts) ns g refl (resize_of_two (map seen ts) ns (λ e. h (sym (as_many es) ∙ e)))

pub word_first : (ts : List Ty) → length ts ≡ 2 → is_word_type (seen (get_or ts 0 Truth)) ≡ true
    → (function_fits OfFunction.Extend (map seen ts) ≡ true) × (function_fits OfFunction.Resize (map seen ts) ≡ true)
word_first [] h k = absurd (omega arith)
word_first (t ∷ []) h k = absurd (omega arith)
word_first (t ∷ u ∷ []) h k = (k, k)
word_first (t ∷ u ∷ v ∷ ts) h k = absurd (omega arith)
