-- Values of lists of sorts, and of actuals.
use Rattle.std.proofs.Common.{◌≡◌, ℕ, zero, suc, ◌+◌, ◌-◌, ◌<◌, true, false, cond, nat_lt, List, [], ◌∷◌, ◌++◌, map, length, Option, Some, None, refl, sym, ap, ◌∙◌, subst, arith, inl, inr, ◌⊎◌}
use Rattle.std.specs.Prelude.{slice_get, slice_index_or}
use Rattle.std.proofs.lemmas.Option.{same_Some, none-some, slice_get_within}
use Rattle.std.proofs.lemmas.Bool.Decides.{nat_tests}
use Rattle.moxi_terms.specs.declared.data.Sort.{Sort}
use Rattle.moxi_terms.specs.declared.term.Enumeration.{Enumeration}
use Rattle.moxi_terms.specs.Sorts.{IsOf}
use Rattle.moxi_terms.specs.Value.{Values}
use Rattle.moxi_scripts.specs.Behaviour.{Suits}
use Rattle.moxi_scripts.specs.laws.WholeParts.{index_get}
use Rattle.moxi_flat.specs.FlatSystem.{place_inside}
use Rattle.text_core.proofs.ListLaws.{rest_of}

-- an element of two lists
pub get_front : {A : Type 0} (xs ys : List A) (i : ℕ) (x : A) → slice_get xs i ≡ Some x → slice_get (xs ++ ys) i ≡ Some x
get_front [] ys i x h = absurd (none-some x h)
get_front (y ∷ xs) ys zero x h = h
get_front (y ∷ xs) ys (suc i) x h = get_front xs ys i x h

pub get_back : {A : Type 0} (xs ys : List A) (i : ℕ) → slice_get (xs ++ ys) (length xs + i) ≡ slice_get ys i
get_back [] ys i = ap (slice_get ys) (let e : 0 + i ≡ i = omega arith in e)
get_back (y ∷ xs) ys i = ap (slice_get ((y ∷ xs) ++ ys)) (let e : suc (length xs) + i ≡ suc (length xs + i) = omega arith in e) ∙ get_back xs ys i

pub get_cases : {A : Type 0} (xs ys : List A) (i : ℕ) (x : A) → slice_get (xs ++ ys) i ≡ Some x
    → ((i < length xs) × (slice_get xs i ≡ Some x)) ⊎ ((k : ℕ) × (i ≡ length xs + k) × (slice_get ys k ≡ Some x))
get_cases [] ys i x h = inr (i, let e : i ≡ 0 + i = omega arith in e, h)
get_cases (y ∷ xs) ys zero x h = inl (omega arith, h)
get_cases (y ∷ xs) ys (suc i) x h =
    elim (get_cases xs ys i x h) [
      | inl a ↦ inl (omega (arith, a.0), a.1)
      | inr a ↦ inr (a.0, let e : suc i ≡ suc (length xs) + a.0 = omega (arith, a.1) in e, a.2)
    ]

-- ACTUALS

-- as many actuals as sorts, each a variable of its sort
abbrev pub ActualsFit : List Sort → List ℕ → List Sort → Type 0
ActualsFit vars [] [] = Unit {0}
ActualsFit vars (v ∷ vs) (s ∷ ss) = (slice_get vars v ≡ Some s) × ActualsFit vars vs ss
ActualsFit vars [] (s ∷ ss) = ⊥
ActualsFit vars (v ∷ vs) [] = ⊥

abbrev first_of : {A : Type 0} → A → List A → A
first_of d [] = d
first_of d (x ∷ xs) = x

pub actuals_fit : (vars : List Sort) (vs : List ℕ) (ss : List Sort) → map (slice_get vars) vs ≡ map {B = Option Sort} Some ss → ActualsFit vars vs ss
actuals_fit vars [] [] e = tt
actuals_fit vars [] (s ∷ ss) e = absurd (cc)
actuals_fit vars (v ∷ vs) [] e = absurd (cc)
actuals_fit vars (v ∷ vs) (s ∷ ss) e = (ap (first_of None) e, actuals_fit vars vs ss (ap rest_of e))

pub actuals_long : (vars : List Sort) (vs : List ℕ) (ss : List Sort) → ActualsFit vars vs ss → length vs ≡ length ss
actuals_long vars [] [] f = refl
actuals_long vars [] (s ∷ ss) f = absurd f
actuals_long vars (v ∷ vs) [] f = absurd f
actuals_long vars (v ∷ vs) (s ∷ ss) f = ap suc (actuals_long vars vs ss f.1)

pub actual_at : (vars : List Sort) (vs : List ℕ) (ss : List Sort) (a : ℕ) (s : Sort) → ActualsFit vars vs ss → slice_get ss a ≡ Some s
    → (v : ℕ) × (slice_get vs a ≡ Some v) × (slice_get vars v ≡ Some s)
actual_at vars [] [] a s f h = absurd (none-some s h)
actual_at vars [] (t ∷ ss) a s f h = absurd f
actual_at vars (v ∷ vs) [] a s f h = absurd f
actual_at vars (v ∷ vs) (t ∷ ss) zero s f h = (v, refl, f.0 ∙ h)
actual_at vars (v ∷ vs) (t ∷ ss) (suc a) s f h = actual_at vars vs ss a s f.1 h

pub actual_there : (vars : List Sort) (vs : List ℕ) (ss : List Sort) (a v : ℕ) → ActualsFit vars vs ss → slice_get vs a ≡ Some v → v < length vars
actual_there vars [] ss a v f h = absurd (none-some v h)
actual_there vars (w ∷ vs) [] a v f h = absurd f
actual_there vars (w ∷ vs) (t ∷ ss) zero v f h = subst (λ v. v < length vars) (same_Some w v h) (slice_get_within vars w t f.0)
actual_there vars (w ∷ vs) (t ∷ ss) (suc a) v f h = actual_there vars vs ss a v f.1 h

-- PLACES

-- an input or output of a subsystem stands where its actual stands
pub inside_front : (place : ℕ → ℕ) (actuals : List ℕ) (fresh a v : ℕ) → slice_get actuals a ≡ Some v → place_inside place actuals fresh a ≡ place v
inside_front place actuals fresh a v h =
    let l : a < length actuals = slice_get_within actuals a v h in
    let e : nat_lt a (length actuals) ≡ true = grind (arith, nat_tests) in
    ap (λ b. cond b (place (slice_index_or actuals a 0)) (fresh + (a - length actuals))) e ∙ ap place (index_get actuals a v 0 h)

-- a local is among the hidden ones
pub inside_back : (place : ℕ → ℕ) (actuals : List ℕ) (fresh n h : ℕ) → length actuals ≡ n → place_inside place actuals fresh (n + h) ≡ fresh + h
inside_back place actuals fresh n h l =
    let e : nat_lt (n + h) (length actuals) ≡ false = grind (arith, nat_tests) in
    let d : fresh + (n + h - length actuals) ≡ fresh + h = omega (arith, l) in
    ap (λ b. cond b (place (slice_index_or actuals (n + h) 0)) (fresh + (n + h - length actuals))) e ∙ d

-- VALUES OF TWO LISTS OF SORTS

-- one assignment for the first numbers, another for the rest
abbrev pub beside : ℕ → Values → Values → Values
beside n f g v = cond (nat_lt v n) (f v) (g (v - n))

pub beside_front : (n : ℕ) (f g : Values) (v : ℕ) → v < n → beside n f g v ≡ f v
beside_front n f g v h = let e : nat_lt v n ≡ true = grind (arith, nat_tests) in ap (λ b. cond b (f v) (g (v - n))) e

pub beside_back : (n : ℕ) (f g : Values) (v : ℕ) → beside n f g (n + v) ≡ g v
beside_back n f g v =
    let e : nat_lt (n + v) n ≡ false = grind (arith, nat_tests) in
    let d : n + v - n ≡ v = omega arith in
    ap (λ b. cond b (f (n + v)) (g (n + v - n))) e ∙ ap g d

module _ (es : List Enumeration) where
  pub suits_front : (ss ts : List Sort) (env : Values) → Suits es (ss ++ ts) env → Suits es ss env
  suits_front ss ts env h = record { each = λ v s g. h.each v s (get_front ss ts v s g) }

  pub suits_back : (ss ts : List Sort) (env : Values) → Suits es (ss ++ ts) env → Suits es ts (λ v. env (length ss + v))
  suits_back ss ts env h = record { each = λ v s g. h.each (length ss + v) s (get_back ss ts v ∙ g) }

  pub suits_both : (ss ts : List Sort) (env : Values) → Suits es ss env → Suits es ts (λ v. env (length ss + v)) → Suits es (ss ++ ts) env
  suits_both ss ts env h g = record {
    each = λ v s e. elim (get_cases ss ts v s e) [
      | inl a ↦ h.each v s a.1
      | inr a ↦ subst (λ v. IsOf es s (env v)) (sym a.1) (g.each a.0 s a.2)
    ];
  }

  pub suits_same : (ss : List Sort) (env other : Values) → ((v : ℕ) → v < length ss → env v ≡ other v) → Suits es ss env → Suits es ss other
  suits_same ss env other e h = record { each = λ v s g. subst (IsOf es s) (e v (slice_get_within ss v s g)) (h.each v s g) }

  pub suits_beside : (ss ts : List Sort) (f g : Values) → Suits es ss f → Suits es ts g → Suits es (ss ++ ts) (beside (length ss) f g)
  suits_beside ss ts f g h k =
      suits_both ss ts (beside (length ss) f g) (suits_same ss f (beside (length ss) f g) (λ v le. sym (beside_front (length ss) f g v le)) h)
      (suits_same ts g (λ v. beside (length ss) f g (length ss + v)) (λ v le. sym (beside_back (length ss) f g v)) k)
