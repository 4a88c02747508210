-- What the names of the instances are.
use Rattle.std.proofs.Common.{◌≡◌, ℕ, ◌+◌, ◌<◌, ◌≤◌, Bool, true, false, nat_le, min, List, [], ◌∷◌, ◌++◌, Some, ◌==◌, if◌then◌else◌, map, take, drop, length, refl, sym, ap, ◌∙◌, arith}
use Rattle.std.specs.Prelude.{slice_get, slice_index_or}
use mathlib.Core.Logic.{⊎_elim}
use Rattle.std.proofs.lemmas.Bool.{eqb-true, leb-true, cases_lt}
use Rattle.std.proofs.Math.Numerals.{add-one}
use Rattle.std.proofs.Math.Seq.{take-suc}
use Rattle.std.proofs.lemmas.List.{drop_all, length-map, length_push, length-take-le, map-append, take_all, get_or_push}
use Rattle.std.proofs.lemmas.Option.{slice_get-get_or, slice_get_past}
use Rattle.std.proofs.Math.ListN.{get_or-append}
use Rattle.smv_text.specs.declared.tree.Parameter.{Parameter}
use Rattle.smv_text.specs.declared.tree.Expr.{Expr}
use Rattle.smv_text.specs.Tree.{trees_of}
use Rattle.smv_text.specs.View.{plain}
use Rattle.smv_instances.specs.laws.NameLemmas.{parameters_end}
use Rattle.smv_instances.specs.declared.instances.Instance.{Instance as PartOf}
use Rattle.smv_instances.specs.declared.names.Known.{Known}
use Rattle.smv_meaning.specs.Names.{Local, nothing, among_parameters}
use Rattle.name_maps.specs.declared.instance_rows.InstanceRows.{InstanceRows}
use Rattle.smv_instances.specs.NameMap.{known_at, stored_in, kept}
use Rattle.smv_instances.specs.View.{instance_plain}

-- past the last parameter or the last actual there is none
pub parameters_past : (j k : ℕ) (qs : List Parameter) (es : List Expr) (x : List ℕ) (other : Local) → k ≡ min (length qs) (length es)
    → other ≡ among_parameters j (drop k qs) (trees_of (map plain (drop k es))) x other
parameters_past j k qs es x other e = by (nat_le (length es) k) refl
  where
    by : (b : Bool) → nat_le (length es) k ≡ b → other ≡ among_parameters j (drop k qs) (trees_of (map plain (drop k es))) x other
    by true h = sym (parameters_end j k (length es) (drop k qs) es x other refl (leb-true (length es) k h))
    by false h = ap (λ rest. among_parameters j rest (trees_of (map plain (drop k es))) x other) (sym (drop_all k qs (grind (arith, h, e))))

-- what is under a number once one more is there
got_before : {X : Type 0} (xs : List X) (y : X) (k : ℕ) → k < length xs → slice_get (xs ++ y ∷ []) k ≡ slice_get xs k
got_before xs y k h =
    slice_get-get_or (xs ++ y ∷ []) k y (omega (arith, h, length_push xs y)) ∙ ap Some (get_or-append xs (y ∷ []) y k h) ∙ sym (slice_get-get_or xs k y h)

got_last : {X : Type 0} (xs : List X) (y : X) (k : ℕ) → length xs ≡ k → slice_get (xs ++ y ∷ []) k ≡ Some y
got_last xs y k h = slice_get-get_or (xs ++ y ∷ []) k y (omega (arith, h, length_push xs y)) ∙ ap Some (get_or_push xs y y k h)

-- the names of one instance more
pub knows_more : (ts : List PartOf) (i n : ℕ) (p : PartOf) (m more : InstanceRows Known) → n ≡ length ts → i < n → p ≡ slice_index_or ts i p
    → ((j : ℕ) (x : List ℕ) → known_at m j x ≡ kept (map instance_plain (take i ts)) j x)
    → ((j : ℕ) (x : List ℕ) → known_at more j x ≡ (if i == j then stored_in i x (Some (instance_plain p)) else known_at m j x))
    → (j : ℕ) (x : List ℕ) → known_at more j x ≡ kept (map instance_plain (take (i + 1) ts)) j x
knows_more ts i n p m more en h is f w j x = w j x ∙ by (i == j) refl ∙ ap (λ l. kept l j x) (sym whole)
  where
    whole : map instance_plain (take (i + 1) ts) ≡ map instance_plain (take i ts) ++ instance_plain p ∷ []
    whole = ap (map instance_plain) (rw add-one (take-suc ts i p (omega (arith, en, h)) ∙ ap (λ y. take i ts ++ y ∷ []) (sym is))) ∙ map-append instance_plain (take i ts) (p ∷ [])

    count : length (map instance_plain (take i ts)) ≡ i
    count = length-map (take i ts) instance_plain ∙ length-take-le i ts (omega (arith, en, h))

    by : (c : Bool) → (i == j) ≡ c → (if c then stored_in i x (Some (instance_plain p)) else known_at m j x) ≡ kept (map instance_plain (take i ts) ++ instance_plain p ∷ []) j x
    by true q =
        let s : i ≡ j = eqb-true i j q in
        ap (stored_in i x) (sym (got_last (map instance_plain (take i ts)) (instance_plain p) i count)) ∙ ap (λ k. kept (map instance_plain (take i ts) ++ instance_plain p ∷ []) k x) s
    by false q = f j x ∙ ap (stored_in j x) (sym (⊎_elim below above (cases_lt j i)))
      where
        below : j < i → slice_get (map instance_plain (take i ts) ++ instance_plain p ∷ []) j ≡ slice_get (map instance_plain (take i ts)) j
        below b = got_before (map instance_plain (take i ts)) (instance_plain p) j (omega (arith, b, count))

        above : i ≤ j → slice_get (map instance_plain (take i ts) ++ instance_plain p ∷ []) j ≡ slice_get (map instance_plain (take i ts)) j
        above b =
            slice_get_past (map instance_plain (take i ts) ++ instance_plain p ∷ []) j (grind (arith, q, b, count, length_push (map instance_plain (take i ts)) (instance_plain p)))
            ∙ sym (slice_get_past (map instance_plain (take i ts)) j (omega (arith, b, count)))

-- of the next instance no names are known yet
pub not_yet : (ts : List PartOf) (i n : ℕ) (m : InstanceRows Known) → n ≡ length ts → i < n → ((j : ℕ) (x : List ℕ) → known_at m j x ≡ kept (map instance_plain (take i ts)) j x) → (x : List ℕ) → known_at m i x ≡ nothing
not_yet ts i n m en h f x = f i x ∙ ap (stored_in i x) (slice_get_past (map instance_plain (take i ts)) i (omega (arith, length-map (take i ts) instance_plain, length-take-le i ts (omega (arith, en, h)))))

pub knows_all : (ts : List PartOf) (i n : ℕ) (m : InstanceRows Known) → n ≡ length ts → n ≤ i → ((j : ℕ) (x : List ℕ) → known_at m j x ≡ kept (map instance_plain (take i ts)) j x) → (j : ℕ) (x : List ℕ) → known_at m j x ≡ kept (map instance_plain ts) j x
knows_all ts i n m en h f j x = f j x ∙ ap (λ l. kept (map instance_plain l) j x) (take_all i ts (omega (arith, en, h)))
