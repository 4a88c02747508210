-- How deep leads are.
use Rattle.std.proofs.Common.{◌≡◌, ℕ, ◌+◌, ◌<◌, ◌≤◌, Bool, true, false, ◌&&◌, ◌==◌, if◌then◌else◌, List, [], ◌∷◌, length, Option, Some, None, is_some, bytes_eq, refl, sym, ap, ◌∙◌, subst, arith}
use mathlib.Core.Logic.{⊎_elim}
use Rattle.std.specs.List.{list_any}
use Rattle.std.proofs.lemmas.Bool.{eq-eqb}
use Rattle.std.proofs.lemmas.Slice.Eq.{bytes_eq-Decides}
use Rattle.name_maps.specs.declared.instance_rows.InstanceRows.{InstanceRows}
use Rattle.name_maps.specs.Rows.{row_in}
use Rattle.smv_meaning.specs.Instances.{Instance}
use Rattle.smv_meaning.specs.Names.{local}
use Rattle.smv_meaning.specs.laws.Booleans.{or_true}
use Rattle.smv_instances.specs.declared.leads.Lead.{Lead}
use Rattle.smv_instances.specs.declared.leads.Key.{Key}
use Rattle.smv_instances.specs.Leads.{is_alias, Right, NameLeads, LeadAt, IsShallow, IsWithin, is_key, led, AreCounted}
use Rattle.smv_instances.proofs.LeadLemmas.{key_same}

-- a lead that is kept
pub lead_kept : (t : List Instance) (m : InstanceRows Lead) (i : ℕ) (x : List ℕ) (o : Option Lead) → Right t m → is_alias (local t i x) ≡ true → o ≡ row_in m i x → LeadAt t m i x o
lead_kept t m i x None r a e = (a, sym e)
lead_kept t m i x (Some lead) r a e = let k : NameLeads t i x (Some lead) = subst (NameLeads t i x) (sym e) (r i x) in (k.0, λ n h. subst (IsShallow n) (sym e) (h i x), k.1)

at_most_one : (b : Bool) → (if b then 1 else 0) ≤ 1
at_most_one true = omega arith
at_most_one false = omega arith

pub led_most : (m : InstanceRows Lead) (ks : List Key) → led m ks ≤ length ks
led_most m [] = omega arith
led_most m (k ∷ ks) =
    let a = at_most_one (is_some (row_in m k.instance k.name.now)) in
    let b = led_most m ks in
    omega (arith, a, b)

-- of a parameter that has no lead
pub led_room : (m : InstanceRows Lead) (ks : List Key) (i : ℕ) (x : List ℕ) → list_any (is_key i x) ks ≡ true → row_in m i x ≡ None → led m ks < length ks
led_room m [] i x h o = cc
led_room m (k ∷ ks) i x h o = ⊎_elim here (λ e. there (led_room m ks i x e o)) (or_true (is_key i x k) (list_any (is_key i x) ks) h)
  where
    here : is_key i x k ≡ true → led m (k ∷ ks) < length (k ∷ ks)
    here e =
        let s = key_same i x k e in
        let n : row_in m k.instance k.name.now ≡ None = ap (λ j. row_in m j k.name.now) s.0 ∙ ap (row_in m i) s.1 ∙ o in
        let a : ◌≡◌ {A = ℕ} (if is_some (row_in m k.instance k.name.now) then 1 else 0) 0 = ap (λ r. if is_some r then 1 else 0) n in
        let b = led_most m ks in
        omega (arith, a, b)

    there : led m ks < length ks → led m (k ∷ ks) < length (k ∷ ks)
    there b = let a = at_most_one (is_some (row_in m k.instance k.name.now)) in omega (arith, a, b)

-- a lead more
abbrev pub IsMore : InstanceRows Lead → InstanceRows Lead → ℕ → List ℕ → Lead → Type 0
IsMore was now i x lead = (j : ℕ) (y : List ℕ) → row_in now j y ≡ (if i == j && bytes_eq x y then Some lead else row_in was j y)

rises : (b : Bool) (o : Option Lead) (lead : Lead) → (if is_some o then 1 else 0) ≤ (if is_some (if b then Some lead else o) then 1 else 0)
rises true o lead = at_most_one (is_some o)
rises false o lead = omega arith

row_rises : (was now : InstanceRows Lead) (i : ℕ) (x : List ℕ) (lead : Lead) → IsMore was now i x lead → (j : ℕ) (y : List ℕ)
    → (if is_some (row_in was j y) then 1 else 0) ≤ (if is_some (row_in now j y) then 1 else 0)
row_rises was now i x lead h j y =
    subst (λ o. (if is_some (row_in was j y) then 1 else 0) ≤ (if is_some o then 1 else 0)) (sym (h j y)) (rises (i == j && bytes_eq x y) (row_in was j y) lead)

led_rises : (was now : InstanceRows Lead) (i : ℕ) (x : List ℕ) (lead : Lead) → IsMore was now i x lead → (ks : List Key) → led was ks ≤ led now ks
led_rises was now i x lead h [] = omega arith
led_rises was now i x lead h (k ∷ ks) =
    let a = row_rises was now i x lead h k.instance k.name.now in
    let b = led_rises was now i x lead h ks in
    omega (arith, a, b)

is_there : (was now : InstanceRows Lead) (i : ℕ) (x : List ℕ) (lead : Lead) → IsMore was now i x lead → row_in now i x ≡ Some lead
is_there was now i x lead h = h i x ∙ by (i == i) (bytes_eq x x) (eq-eqb i i refl) ((bytes_eq-Decides x x).1 refl)
  where
    by : (b c : Bool) → b ≡ true → c ≡ true → (if b && c then Some lead else row_in was i x) ≡ Some lead
    by true true e f = refl
    by true false e f = cc
    by false c e f = cc

pub led_more : (was now : InstanceRows Lead) (i : ℕ) (x : List ℕ) (lead : Lead) → IsMore was now i x lead → row_in was i x ≡ None → (ks : List Key) → list_any (is_key i x) ks ≡ true → led was ks < led now ks
led_more was now i x lead h o [] e = cc
led_more was now i x lead h o (k ∷ ks) e = ⊎_elim here (λ f. there (led_more was now i x lead h o ks f)) (or_true (is_key i x k) (list_any (is_key i x) ks) e)
  where
    here : is_key i x k ≡ true → led was (k ∷ ks) < led now (k ∷ ks)
    here f =
        let s = key_same i x k f in
        let n : row_in was k.instance k.name.now ≡ None = ap (λ j. row_in was j k.name.now) s.0 ∙ ap (row_in was i) s.1 ∙ o in
        let m : row_in now k.instance k.name.now ≡ Some lead = ap (λ j. row_in now j k.name.now) s.0 ∙ ap (row_in now i) s.1 ∙ is_there was now i x lead h in
        let a : ◌≡◌ {A = ℕ} (if is_some (row_in was k.instance k.name.now) then 1 else 0) 0 = ap (λ r. if is_some r then 1 else 0) n in
        let b : ◌≡◌ {A = ℕ} (if is_some (row_in now k.instance k.name.now) then 1 else 0) 1 = ap (λ r. if is_some r then 1 else 0) m in
        let c = led_rises was now i x lead h ks in
        omega (arith, a, b, c)

    there : led was ks < led now ks → led was (k ∷ ks) < led now (k ∷ ks)
    there b = let a = row_rises was now i x lead h k.instance k.name.now in omega (arith, a, b)

more_shallow : (n m : ℕ) (o : Option Lead) → n ≤ m → IsShallow n o → IsShallow m o
more_shallow n m None l h = h
more_shallow n m (Some lead) l h = omega (arith, l, h)

-- a lead more is counted
pub counted_more : (was now : InstanceRows Lead) (i : ℕ) (x : List ℕ) (lead : Lead) (depth : ℕ) (ks : List Key) → IsMore was now i x lead → row_in was i x ≡ None → list_any (is_key i x) ks ≡ true
    → lead.depth ≡ depth + 1 → IsWithin was depth → AreCounted was ks → AreCounted now ks
counted_more was now i x lead depth ks h o a d w c j y = subst (IsShallow (led now ks)) (sym (h j y)) (by (i == j && bytes_eq x y))
  where
    grown : led was ks < led now ks
    grown = led_more was now i x lead h o ks a

    by : (b : Bool) → IsShallow (led now ks) (if b then Some lead else row_in was j y)
    by true = let s = w (led was ks) c in omega (arith, d, s, grown)
    by false = more_shallow (led was ks) (led now ks) (row_in was j y) (omega (arith, grown)) (c j y)

pub depth_fits : (m : InstanceRows Lead) (ks : List Key) (i : ℕ) (x : List ℕ) (depth : ℕ) → AreCounted m ks → IsWithin m depth → row_in m i x ≡ None → list_any (is_key i x) ks ≡ true → depth ≤ length ks
depth_fits m ks i x depth c w o a =
    let s = w (led m ks) c in
    let r = led_room m ks i x a o in
    omega (arith, s, r)
