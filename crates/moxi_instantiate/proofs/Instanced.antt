-- The parts of one subsystem after another.
use Rattle.std.proofs.Common.{◌≡◌, ℕ, suc, ◌+◌, ◌<◌, ◌≤◌, List, [], ◌∷◌, ◌++◌, drop, drop-cons, add-one, length, refl, sym, ap, ◌∙◌, arith}
use Rattle.std.specs.Prelude.{slice_index_or, sum_by, Result, Ok, Err, OnOk}
use Rattle.std.proofs.lemmas.List.Sums.{sum_by-cons}
use Rattle.moxi_scripts.specs.declared.script.Subsystem.{Subsystem}
use Rattle.moxi_scripts.specs.Script.{PlainSystem}
use Rattle.moxi_flat.specs.FlatSystem.{PlainPart, parts_each}
use Rattle.moxi_instantiate.proofs.Held.{drop_past}

-- what is counted of the subsystems from a place on
sums_at : (f : Subsystem → ℕ) (bs : List Subsystem) (k : ℕ) (b : Subsystem) → k < length bs → b ≡ slice_index_or bs k b → sum_by f (drop k bs) ≡ f b + sum_by f (drop (k + 1) bs)
sums_at f bs k b l e =
    ap (sum_by f) (drop-cons bs k b l ∙ ap (λ x. x ∷ drop (suc k) bs) (sym e)) ∙ sum_by-cons f b (drop (suc k) bs) ∙ ap (λ j. f b + sum_by f (drop j bs)) (sym (add-one k))

pub room_at : (f : Subsystem → ℕ) (bs : List Subsystem) (k : ℕ) (b : Subsystem) (next total limit : ℕ) → k < length bs → b ≡ slice_index_or bs k b
    → next + sum_by f (drop k bs) ≡ total → total < limit → next + f b < limit
room_at f bs k b next total limit l e before low = let s = sums_at f bs k b l e in omega (arith, s, before, low)

append_nothing : (ps : List PlainPart) → ps ++ [] ≡ ps
append_nothing [] = refl
append_nothing (p ∷ ps) = ap (λ us. p ∷ us) (append_nothing ps)

pub parts_end : (ss : List PlainSystem) (count : ℕ → ℕ) (parts : (ℕ → ℕ) → ℕ → ℕ → List PlainPart) (place : ℕ → ℕ) (bs : List Subsystem) (k next : ℕ) (all end : List PlainPart)
    → length bs ≤ k → all ++ parts_each ss count parts place next (drop k bs) ≡ end → all ≡ end
parts_end ss count parts place bs k next all end h e = sym (ap (λ xs. all ++ parts_each ss count parts place next xs) (drop_past bs k h) ∙ append_nothing all) ∙ e

pub sums_end : (f : Subsystem → ℕ) (bs : List Subsystem) (k next total : ℕ) → length bs ≤ k → next + sum_by f (drop k bs) ≡ total → next ≡ total
sums_end f bs k next total h e = let none : sum_by f (drop k bs) ≡ 0 = ap (sum_by f) (drop_past bs k h) in omega (arith, none, e)

pub on_ok : {A E : Type 0} {P Q : Type 0} (r : Result A E) → (P → Q) → OnOk r P → OnOk r Q
on_ok (Ok x) f h = f h
on_ok (Err e) f h = tt
