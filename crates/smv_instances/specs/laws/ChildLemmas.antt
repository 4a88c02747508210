-- The first instance of a name in an instance.
use Rattle.std.proofs.Common.{◌≡◌, ℕ, ◌+◌, ◌<◌, ◌≤◌, Bool, ◌&&◌, ◌==◌, nat_lt, not, cond, if◌then◌else◌, List, [], ◌∷◌, ◌++◌, map, take, length, position, Option, Some, None, is_none, sym, ap, ◌∙◌, arith}
use Rattle.std.specs.Prelude.{slice_index_or}
use Rattle.std.specs.List.{position_or_len}
use Rattle.std.proofs.lemmas.Bool.Decides.{nat_tests}
use Rattle.std.proofs.lemmas.List.{length-map, map-append, length_push, length-take-le, take_all}
use Rattle.std.proofs.lemmas.List.Sums.{prefix_len-le-length}
use Rattle.std.proofs.Math.Numerals.{add-one}
use Rattle.std.proofs.lemmas.List.Folds.{position_or_len_push}
use Rattle.std.proofs.Math.Seq.{take-suc}
use Rattle.smv_instances.specs.declared.instances.Instance.{Instance as PartOf}
use Rattle.smv_meaning.specs.Names.{is_child}
use Rattle.smv_instances.specs.View.{instance_plain}

place_pushed : (q n o m : ℕ) (b : Bool) → q ≤ n → o ≡ cond (q == n) (n + cond b 0 1) q → m ≡ n + 1
    → cond (nat_lt o m) (Some o) None ≡ (if is_none (cond (nat_lt q n) (Some q) None) && b then Some n else cond (nat_lt q n) (Some q) None)
place_pushed q n o m b h e l = grind (arith, nat_tests)

-- the first place in a list with one element more
pub position_push : {X : Type 0} (p : X → Bool) (xs : List X) (y : X) → position p (xs ++ y ∷ []) ≡ (if is_none (position p xs) && p y then Some (length xs) else position p xs)
position_push p xs y =
    place_pushed (position_or_len p xs) (length xs) (position_or_len p (xs ++ y ∷ [])) (length (xs ++ y ∷ [])) (p y) (prefix_len-le-length (λ x. not (p x)) xs) (position_or_len_push p xs y) (length_push xs y)

-- the children once one instance more is there
pub with_part : (ts : List PartOf) (c n : ℕ) (p : PartOf) (i : ℕ) (x : List ℕ) (o new : Option ℕ) → n ≡ length ts → c < n → p ≡ slice_index_or ts c p
    → o ≡ position (is_child i x) (map instance_plain (take c ts)) → new ≡ (if is_none o && is_child i x (instance_plain p) then Some c else o) → new ≡ position (is_child i x) (map instance_plain (take (c + 1) ts))
with_part ts c n p i x o new e h is s k =
    let a : take (c + 1) ts ≡ take c ts ++ p ∷ [] = rw add-one (take-suc ts c p (omega (arith, e, h)) ∙ ap (λ y. take c ts ++ y ∷ []) (sym is)) in
    let b : map instance_plain (take (c + 1) ts) ≡ map instance_plain (take c ts) ++ instance_plain p ∷ [] = ap (map instance_plain) a ∙ map-append instance_plain (take c ts) (p ∷ []) in
    let l : length (map instance_plain (take c ts)) ≡ c = length-map (take c ts) instance_plain ∙ length-take-le c ts (omega (arith, e, h)) in
    k ∙ ap (λ q. if is_none q && is_child i x (instance_plain p) then Some c else q) s
    ∙ ap (λ m. if is_none (position (is_child i x) (map instance_plain (take c ts))) && is_child i x (instance_plain p) then Some m else position (is_child i x) (map instance_plain (take c ts))) (sym l)
    ∙ sym (position_push (is_child i x) (map instance_plain (take c ts)) (instance_plain p)) ∙ ap (position (is_child i x)) (sym b)

pub whole : (ts : List PartOf) (c n i : ℕ) (x : List ℕ) (o : Option ℕ) → n ≡ length ts → n ≤ c → o ≡ position (is_child i x) (map instance_plain (take c ts)) → o ≡ position (is_child i x) (map instance_plain ts)
whole ts c n i x o e h s = s ∙ ap (λ l. position (is_child i x) (map instance_plain l)) (take_all c ts (omega (arith, e, h)))
