-- What is known of the systems of a script, though its cause isn't, since it can be tested.
use Rattle.std.proofs.Common.{◌≡◌, ℕ, zero, suc, ◌<◌, ◌≤◌, List, [], ◌∷◌, ◌++◌, drop, length, refl, sym, ap, ◌∙◌, subst, arith}
use Rattle.std.specs.Prelude.{slice_index_or}
use Rattle.std.specs.List.{AllByRecursion}
use Rattle.std.proofs.Math.Logic.{∥∥₁_map}
use Rattle.moxi_terms.specs.declared.term.Variable.{Variable}
use Rattle.moxi_scripts.specs.declared.script.Subsystem.{Subsystem}
use Rattle.moxi_scripts.specs.Script.{PlainSystem, system_at}
use Rattle.moxi_flat.specs.Systems.{nesting_upto}
use Rattle.moxi_flat.specs.FlatSystem.{locals_each, locals_upto}
use Rattle.moxi_flat.proofs.Enough.{is_enough}
use Rattle.moxi_flat.proofs.Nesting.{nests}
use Rattle.moxi_instantiate.specs.Amounts.{AreRanked}
use Rattle.moxi_instantiate.proofs.Measured.{lt_held}

all_less : (f g : Subsystem → ℕ) (W : Type 0) (bs : List Subsystem) → ∥ W ∥₁ → (W → AllByRecursion (λ (b : Subsystem). f b < g b) bs) → AllByRecursion (λ (b : Subsystem). f b < g b) bs
all_less f g W [] w h = tt
all_less f g W (b ∷ bs) w h = (lt_held (f b) (g b) (∥∥₁_map w (λ v. (h v).0)), all_less f g W bs w (λ v. (h v).1))

both : (P Q : Subsystem → Type 0) (bs : List Subsystem) → AllByRecursion P bs → AllByRecursion Q bs → AllByRecursion (λ (b : Subsystem). P b × Q b) bs
both P Q [] h g = tt
both P Q (b ∷ bs) h g = ((h.0, g.0), both P Q bs h.1 g.1)

pub ranked_held : (ss : List PlainSystem) → ∥ AreRanked ss ∥₁ → AreRanked ss
ranked_held ss w =
    let rank = nesting_upto ss (length ss) in
    let there : (i : ℕ) → i < length ss → AllByRecursion (λ (b : Subsystem). b.system < length ss) (system_at ss i).subsystems =
    λ i h. all_less (λ b. b.system) (λ b. length ss) (AreRanked ss) (system_at ss i).subsystems w (λ r. r.there i h) in
    let falls : (i : ℕ) → i < length ss → AllByRecursion (λ (b : Subsystem). nesting_upto ss (length ss) b.system < nesting_upto ss (length ss) i) (system_at ss i).subsystems =
    λ i h. all_less (λ b. rank b.system) (λ b. rank i) (AreRanked ss) (system_at ss i).subsystems w (λ r. r.falls i h) in
    record {
      there = there;
      falls = falls;
      enough = λ i h. is_enough ss (length ss) i
          (nests ss rank (λ i h. both (λ b. b.system < length ss) (λ b. rank b.system < rank i) (system_at ss i).subsystems (there i h) (falls i h)) i h);
    }

-- what holds of all subsystems holds of the one at a place
pub sub_at : (P : Subsystem → Type 0) (bs : List Subsystem) (k : ℕ) (b : Subsystem) → AllByRecursion P bs → k < length bs → b ≡ slice_index_or bs k b → P b
sub_at P [] k b h l e = absurd (omega arith)
sub_at P (x ∷ xs) zero b h l e = subst P (sym e) h.0
sub_at P (x ∷ xs) (suc k) b h l e = sub_at P xs k b h.1 (omega arith) e

pub locals_whole : (ss : List PlainSystem) → ∥ AreRanked ss ∥₁ → (path : List ℕ) (i : ℕ) → i < length ss
    → locals_each ss (locals_upto ss (length ss)) path (system_at ss i).subsystems ≡ locals_upto ss (length ss) path i
locals_whole ss w path i l = ((ranked_held ss w).enough i l).locals path

pub drop_past : (bs : List Subsystem) (k : ℕ) → length bs ≤ k → drop k bs ≡ []
drop_past [] zero h = refl
drop_past [] (suc k) h = refl
drop_past (b ∷ bs) zero h = absurd (omega (arith, h))
drop_past (b ∷ bs) (suc k) h = drop_past bs k (omega (arith, h))

append_nothing : (vs : List Variable) → vs ++ [] ≡ vs
append_nothing [] = refl
append_nothing (v ∷ vs) = ap (λ us. v ∷ us) (append_nothing vs)

pub locals_end : (ss : List PlainSystem) (within : List ℕ → ℕ → List Variable) (path : List ℕ) (bs : List Subsystem) (k : ℕ) (all end : List Variable) → length bs ≤ k
    → all ++ locals_each ss within path (drop k bs) ≡ end → all ≡ end
locals_end ss within path bs k all end h e = sym (ap (λ xs. all ++ locals_each ss within path xs) (drop_past bs k h) ∙ append_nothing all) ∙ e
