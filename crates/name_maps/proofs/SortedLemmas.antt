-- Values of names in ordered maps.
use Rattle.std.proofs.Common.{◌≡◌, ℕ, Bool, true, false, cond, ◌==◌, ◌&&◌, if◌then◌else◌, List, [], Some, None, bytes_eq, refl, sym, ap, ◌∙◌, arith}
use Rattle.std.specs.Ordering.{nat_cmp, is_eq}
use Rattle.std.specs.Cmp.{eq_by_cmp_equiv}
use Rattle.std.specs.Cmp.Lexicographic.{slice_cmp, nat_list_cmp_total, nat_list_eq_equiv}
use Rattle.std.specs.BTreeMap.{BTreeMap, get, get_by, is_at, UpdatesBy}
use Rattle.std.specs.Map.{lookup, IsKeyTest, AreApart, KeepsOthers}
use Rattle.std.specs.declared.vec.Vec.{Vec}
use Rattle.std.proofs.lemmas.Map.Text.{is_eq-slice_cmp}
use Rattle.std.proofs.lemmas.Bool.{eqb-true}
use Rattle.std.proofs.lemmas.Slice.Eq.{bytes_eq-Decides}
use Rattle.name_maps.specs.Sorted.{among_sorted, sorted_named}

apart : (bs cs ks : List ℕ) → bytes_eq bs cs ≡ false → is_eq (slice_cmp nat_cmp bs ks) ≡ true → is_eq (slice_cmp nat_cmp cs ks) ≡ false
apart bs cs ks n y =
    is_eq-slice_cmp cs ks ∙ nat_list_eq_equiv.symm cs ks ∙ sym (nat_list_eq_equiv.congr bs ks cs (sym (is_eq-slice_cmp bs ks) ∙ y)) ∙ n

others_kept : {K X : Type 0} (eq : K → K → Bool) (test : K → Bool) (old new : List (K × X)) → KeepsOthers eq test old new → (other : K → Bool) → IsKeyTest eq other → AreApart test other → lookup other new ≡ lookup other old
unfolding KeepsOthers
others_kept eq test old new h = h

-- one name that is set, in the map of its instance
pub name_set : {Y V : Type 0} (bs : List ℕ) (m n : BTreeMap (Vec ℕ Y) V) (v : V) → UpdatesBy (λ a b. slice_cmp nat_cmp a.items b.items) (λ k. slice_cmp nat_cmp bs k.items) m n (Some v)
    → (cs : List ℕ) → get_by (λ k. slice_cmp nat_cmp cs k.items) n ≡ (if bytes_eq bs cs then Some v else get_by (λ k. slice_cmp nat_cmp cs k.items) m)
name_set bs m n v h cs = by (bytes_eq bs cs) refl
  where
    by : (b : Bool) → bytes_eq bs cs ≡ b → get_by (λ k. slice_cmp nat_cmp cs k.items) n ≡ (if b then Some v else get_by (λ k. slice_cmp nat_cmp cs k.items) m)
    by true e = ap (λ l. get_by (λ k. slice_cmp nat_cmp l k.items) n) (sym ((bytes_eq-Decides bs cs).0 e)) ∙ h.1
    by false e = others_kept _ _ m.entries n.entries h.3 _ (λ x y. (eq_by_cmp_equiv nat_list_cmp_total).congr cs x.items y.items) (λ k. apart bs cs k.items e)

same_number : (i j : ℕ) → is_at (nat_cmp i) j ≡ (i == j)
same_number i j = grind arith

-- one name that is set, in the maps of all instances
pub instance_set : {Y V : Type 0} (others new : BTreeMap ℕ (BTreeMap (Vec ℕ Y) V)) (i : ℕ) (names : BTreeMap (Vec ℕ Y) V) (bs : List ℕ) (v : V)
    → ((q : ℕ) → get nat_cmp new q ≡ cond (is_at (nat_cmp i) q) (Some names) (get nat_cmp others q))
    → ((cs : List ℕ) → among_sorted (Some names) cs ≡ (if bytes_eq bs cs then Some v else sorted_named others i cs))
    → (j : ℕ) (y : List ℕ) → sorted_named new j y ≡ (if i == j && bytes_eq bs y then Some v else sorted_named others j y)
instance_set {V = V} others new i names bs v put own j y =
    ap (λ o. among_sorted o y) (put j) ∙ ap (λ b. among_sorted (cond b (Some names) (get nat_cmp others j)) y) (same_number i j) ∙ by (i == j) refl
  where
    by : (b : Bool) → (i == j) ≡ b → among_sorted (cond b (Some names) (get nat_cmp others j)) y ≡ (if b && bytes_eq bs y then Some v else sorted_named others j y)
    by true e = own y ∙ ap (λ k. if bytes_eq bs y then Some v else sorted_named others k y) (eqb-true i j e)
    by false e = refl

-- a name that is set where its instance has others
pub name_more : {Y V : Type 0} (others new : BTreeMap ℕ (BTreeMap (Vec ℕ Y) V)) (i : ℕ) (names more : BTreeMap (Vec ℕ Y) V) (bs : List ℕ) (v : V)
    → get nat_cmp others i ≡ Some names → UpdatesBy (λ a b. slice_cmp nat_cmp a.items b.items) (λ k. slice_cmp nat_cmp bs k.items) names more (Some v)
    → ((q : ℕ) → get nat_cmp new q ≡ cond (is_at (nat_cmp i) q) (Some more) (get nat_cmp others q))
    → (j : ℕ) (y : List ℕ) → sorted_named new j y ≡ (if i == j && bytes_eq bs y then Some v else sorted_named others j y)
name_more others new i names more bs v there set put =
    instance_set others new i more bs v put (λ cs. name_set bs names more v set cs ∙ ap (λ o. if bytes_eq bs cs then Some v else among_sorted o cs) (sym there))

-- the first name of its instance
pub name_first : {Y V : Type 0} (others new : BTreeMap ℕ (BTreeMap (Vec ℕ Y) V)) (i : ℕ) (none names : BTreeMap (Vec ℕ Y) V) (bs : List ℕ) (v : V)
    → get nat_cmp others i ≡ None → none.entries ≡ [] → UpdatesBy (λ a b. slice_cmp nat_cmp a.items b.items) (λ k. slice_cmp nat_cmp bs k.items) none names (Some v)
    → ((q : ℕ) → get nat_cmp new q ≡ cond (is_at (nat_cmp i) q) (Some names) (get nat_cmp others q))
    → (j : ℕ) (y : List ℕ) → sorted_named new j y ≡ (if i == j && bytes_eq bs y then Some v else sorted_named others j y)
name_first others new i none names bs v absent empty set put =
    instance_set others new i names bs v put
    (λ cs. name_set bs none names v set cs ∙ ap (λ es. if bytes_eq bs cs then Some v else lookup (is_at (λ k. slice_cmp nat_cmp cs k.items)) es) empty ∙ ap (λ o. if bytes_eq bs cs then Some v else among_sorted o cs) (sym absent))
