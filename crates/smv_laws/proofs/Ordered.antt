-- A list in which each definition and actual is after those to which it refers gives them ranks.
use Rattle.std.proofs.Common.{◌≡◌, ℕ, suc, ◌<◌, Bool, true, false, nat_lt, ◌||◌, if◌then◌else◌, List, [], ◌∷◌, refl, sym, subst, arith}
use Rattle.std.proofs.lemmas.Bool.Decides.{Decides-ltb}
use mathlib.Core.Logic.{◌⊎◌, inl, inr, ⊎_elim}
use Rattle.std.specs.List.{list_all, list_any}
use Rattle.smv_meaning.specs.Names.{local, look, steps_of}
use Rattle.smv_meaning.specs.Phases.{Body, body_same, refers}
use Rattle.smv_meaning.specs.Settled.{is_ordered, OrderedIsAcyclic}
use Rattle.smv_meaning.specs.laws.Booleans.{both_true, or_true, absurd_bool}
use Rattle.smv_laws.proofs.Cycles.{In, in_all, all_in, same_is}
use Rattle.smv_laws.proofs.Ranked.{referred_is, ranked_is_acyclic_law}

-- the first place in the list
place : List Body → Body → ℕ
place [] k = 0
place (m ∷ ms) k = if body_same k m then 0 else suc (place ms k)

first_place : (h : Body) (ks : List Body) (m k : Body) → body_same k h ≡ false → (body_same m h ≡ true) ⊎ (place ks m < place ks k) → place (h ∷ ks) m < place (h ∷ ks) k
unfolding place
first_place h ks m k d e = by (body_same k h) d (body_same m h) e
  where
    by : (b : Bool) → b ≡ false → (c : Bool) → (c ≡ true) ⊎ (place ks m < place ks k) → (if c then 0 else suc (place ks m)) < (if b then 0 else suc (place ks k))
    by true s c r = absurd_bool (sym s)
    by false s true r = omega arith
    by false s false (inl r) = absurd_bool r
    by false s false (inr r) = omega arith

stands_after : (f : Body → List Body) (seen ks : List Body) → is_ordered f seen ks ≡ true → (k m : Body) → list_any (body_same k) ks ≡ true → In m (f k)
    → (list_any (body_same m) seen ≡ true) ⊎ (place ks m < place ks k)
stands_after f seen [] o k m h g = absurd_bool h
stands_after f seen (x ∷ ks) o k m h g =
    let b = both_true (list_all (λ z. list_any (body_same z) seen) (f x)) (is_ordered f (x ∷ seen) ks) o in
    by b.0 (λ r. stands_after f (x ∷ seen) ks b.1 k m r g) (body_same k x) refl h
  where
    by : list_all (λ z. list_any (body_same z) seen) (f x) ≡ true
        → (list_any (body_same k) ks ≡ true → (list_any (body_same m) (x ∷ seen) ≡ true) ⊎ (place ks m < place ks k))
        → (c : Bool) → body_same k x ≡ c → (c || list_any (body_same k) ks) ≡ true
        → (list_any (body_same m) seen ≡ true) ⊎ (place (x ∷ ks) m < place (x ∷ ks) k)
    by own ih true s r = inl (in_all (λ z. list_any (body_same z) seen) m (f x) own (subst (λ z. In m (f z)) (same_is k x s) g))
    by own ih false s r =
        ⊎_elim (λ e. ⊎_elim (λ same. inr (first_place x ks m k s (inl same))) (λ later. inl later) (or_true (body_same m x) (list_any (body_same m) seen) e))
        (λ e. inr (first_place x ks m k s (inr e))) (ih r)

nowhere : {X : Type 0} (m : Body) → list_any (body_same m) [] ≡ true → X
nowhere m h = absurd_bool h

pub ordered_is_acyclic_law : OrderedIsAcyclic
ordered_is_acyclic_law t ks o covers = ranked_is_acyclic_law t (place ks)
    (λ k. all_in (λ m. nat_lt (place ks m) (place ks k)) (refers t k)
    (λ m i.
    let r = referred_is t (look t (steps_of t)) (local t k.0 k.1) m i in
    ⊎_elim (λ e. nowhere m e) (λ less. (Decides-ltb (place ks m) (place ks k)).1 less) (stands_after (refers t) [] ks o k m (covers k r.0) i)))
