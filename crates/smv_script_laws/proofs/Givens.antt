-- What a decoded state or label gives for a name.
use Rattle.std.proofs.Common.{◌≡◌, ℕ, zero, suc, ◌+◌, Bool, true, false, if◌then◌else◌, List, [], ◌∷◌, ◌++◌, map, Option, Some, None, is_none, option_map, bytes_eq, refl, sym, ap, ◌∙◌, subst, arith}
use mathlib.Core.Logic.{inl, inr}
use Rattle.std.specs.List.{slice_get}
use Rattle.std.proofs.lemmas.Slice.Eq.{bytes_eq-Decides}
use Rattle.name_maps.specs.Names.{place_of, are_fresh}
use Rattle.smv_meaning.specs.Values.{given}
use Rattle.smv_meaning.specs.laws.Booleans.{both_true, absurd_bool}
use Rattle.smv_laws.proofs.Cycles.{In, in_left, in_right}
use Rattle.smv_items.specs.declared.items.ItemKind.{ItemKind}
use Rattle.smv_items.specs.FlatItems.{PlainFlatItem}
use Rattle.smv_flat_laws.proofs.FlatPlaces.{position_cons}
use Rattle.moxi_terms.specs.Value.{Values}
use Rattle.smv_script.specs.Codes.{value_of}
use Rattle.smv_script_laws.specs.Decoding.{decoded_item, decoded_from}

-- ---- names that differ

none_in : (x : List ℕ) (ys : List (List ℕ)) → is_none (place_of ys x) ≡ true → (y : List ℕ) → In y ys → bytes_eq x y ≡ false
none_in x [] h y i = absurd i
none_in x (z ∷ ys) h y i = by (λ g j. none_in x ys g y j) (bytes_eq x z) refl (sym (ap is_none (position_cons (bytes_eq x) z ys)) ∙ h) i
  where
    after : (o : Option ℕ) → is_none (option_map suc o) ≡ true → is_none o ≡ true
    after None e = refl
    after (Some n) e = absurd_bool e

    by : (is_none (place_of ys x) ≡ true → In y ys → bytes_eq x y ≡ false) → (b : Bool) → bytes_eq x z ≡ b → is_none (if b then Some 0 else option_map suc (place_of ys x)) ≡ true → In y (z ∷ ys) → bytes_eq x y ≡ false
    by ih true e g j = absurd_bool g
    by ih false e g (inl s) = ap (bytes_eq x) s ∙ e
    by ih false e g (inr s) = ih (after (place_of ys x) g) s

-- a name that is before differs from each one that follows
fresh_apart : (before names : List (List ℕ)) → are_fresh before names ≡ true → (y : List ℕ) → In y before → (n : ℕ) (x : List ℕ) → slice_get names n ≡ Some x → bytes_eq x y ≡ false
fresh_apart before [] h y i n x e = cc
fresh_apart before (z ∷ names) h y i zero x e =
    let s : z ≡ x = cc in
    ap (λ w. bytes_eq w y) (sym s) ∙ none_in z before (both_true (is_none (place_of before z)) (are_fresh (before ++ z ∷ []) names) h).0 y i
fresh_apart before (z ∷ names) h y i (suc n) x e =
    fresh_apart (before ++ z ∷ []) names (both_true (is_none (place_of before z)) (are_fresh (before ++ z ∷ []) names) h).1 y (in_left y before (z ∷ []) i) n x e

name_there : (ms : List PlainFlatItem) (n : ℕ) (m : PlainFlatItem) → slice_get ms n ≡ Some m → slice_get (map (λ (o : PlainFlatItem). o.name) ms) n ≡ Some m.name
name_there [] n m h = cc
name_there (o ∷ ms) zero m h = let s : o ≡ m = cc in ap (λ (z : PlainFlatItem). Some z.name) s
name_there (o ∷ ms) (suc n) m h = name_there ms n m h

turned : (x y : List ℕ) → bytes_eq x y ≡ false → bytes_eq y x ≡ false
turned x y h = by (bytes_eq y x) refl
  where
    by : (b : Bool) → bytes_eq y x ≡ b → b ≡ false
    by true e = sym ((bytes_eq-Decides x y).1 (sym ((bytes_eq-Decides y x).0 e))) ∙ h
    by false e = refl

-- ---- what is given

module _ (symbols : List (List ℕ)) (place : ℕ → ℕ) (picked : ItemKind → Bool) (env : Values) where
  pub given_item : (before : List (List ℕ)) (k : ℕ) (ms : List PlainFlatItem) → are_fresh before (map (λ (o : PlainFlatItem). o.name) ms) ≡ true → (n : ℕ) (m : PlainFlatItem) → slice_get ms n ≡ Some m → picked m.kind ≡ true
      → given (decoded_from symbols place picked env k ms) m.name ≡ value_of symbols m.type (env (place (k + n)))
  given_item before k [] f n m h p = cc
  given_item before k (o ∷ ms) f zero m h p =
      let s : o ≡ m = cc in
      let z : k ≡ k + 0 = omega arith in
      subst (λ (w : PlainFlatItem). given (decoded_from symbols place picked env k (w ∷ ms)) m.name ≡ value_of symbols m.type (env (place (k + 0)))) (sym s)
      (ap (λ b. given ((if b then decoded_item symbols place env k m ∷ [] else []) ++ decoded_from symbols place picked env (k + 1) ms) m.name) p
      ∙ ap (λ b. if b then value_of symbols m.type (env (place k)) else given (decoded_from symbols place picked env (k + 1) ms) m.name) ((bytes_eq-Decides m.name m.name).1 refl)
      ∙ ap (λ i. value_of symbols m.type (env (place i))) z)
  given_item before k (o ∷ ms) f (suc n) m h p =
      let b = both_true (is_none (place_of before o.name)) (are_fresh (before ++ o.name ∷ []) (map (λ (z : PlainFlatItem). z.name) ms)) f in
      let e = turned m.name o.name (fresh_apart (before ++ o.name ∷ []) (map (λ (z : PlainFlatItem). z.name) ms) b.1 o.name (in_right o.name before (o.name ∷ []) (inl refl)) n m.name (name_there ms n m h)) in
      let z : (k + 1) + n ≡ k + suc n = omega arith in
      by (picked o.kind) e ∙ given_item (before ++ o.name ∷ []) (k + 1) ms b.1 n m h p ∙ ap (λ i. value_of symbols m.type (env (place i))) z
    where
      by : (b : Bool) → bytes_eq o.name m.name ≡ false
          → given ((if b then decoded_item symbols place env k o ∷ [] else []) ++ decoded_from symbols place picked env (k + 1) ms) m.name ≡ given (decoded_from symbols place picked env (k + 1) ms) m.name
      by true e = ap (λ c. if c then value_of symbols o.type (env (place k)) else given (decoded_from symbols place picked env (k + 1) ms) m.name) e
      by false e = refl
