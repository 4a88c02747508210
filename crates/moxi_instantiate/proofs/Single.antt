-- A checked system without subsystems.
use Rattle.std.proofs.Common.{◌≡◌, ℕ, zero, suc, ◌<◌, nat_eq, true, false, List, [], ◌∷◌, map, length, refl, sym, ap, ◌∙◌, subst, arith}
use Rattle.std.specs.Prelude.{slice_index_or}
use Rattle.std.specs.Coded.{Coded, Coded-set, codes}
use Rattle.std.proofs.lemmas.List.{length-map}
use Rattle.std.proofs.lemmas.Bool.{eqb-true}
use Rattle.std.proofs.Math.Bool.{Bool-set}
use Rattle.std.proofs.Math.Logic.{∥∥₁_elim, ∥∥₁_map}
use Rattle.moxi_terms.specs.Code.{Node, tree_code}
use Rattle.moxi_terms.specs.declared.term.Variable.{Variable}
use Rattle.moxi_terms.specs.View.{ScopeState}
use Rattle.moxi_scripts.specs.declared.script.Check.{Check}
use Rattle.moxi_scripts.specs.declared.script.Subsystem.{Subsystem}
use Rattle.moxi_scripts.specs.declared.script.System.{System}
use Rattle.moxi_scripts.specs.Script.{PlainScript, PlainSystem, plain_check, plain_system, system_at}
use Rattle.moxi_scripts.specs.Valid.{IsValid, check_variables}
use Rattle.moxi_flat.specs.FlatSystem.{PlainFlatSystem, flat_of}
use Rattle.moxi_flat.specs.FlatLaws.{SingleSystemsAreFlat, own_part}
use Rattle.moxi_flat.specs.Limits.{has_name_twice}
use Rattle.moxi_instantiate.specs.declared.parts.Part.{Part}
use Rattle.moxi_instantiate.specs.Instances.{IsInstance, IsSingle, flat_form, single_script}
use Rattle.moxi_instantiate.specs.PlainParts.{plain_part}
use Rattle.moxi_instantiate.proofs.Accepted.{flat_same}
use Rattle.moxi_instantiate.proofs.Filling.{system_read}

-- the system that is read has as many subsystems as its plain form
pub tested : (xs : List System) (i n : ℕ) (x : System) → i < length (map plain_system xs) → x ≡ slice_index_or xs i x → n ≡ length x.subsystems
    → nat_eq n 0 ≡ nat_eq (length (system_at (map plain_system xs) i).subsystems) 0
tested xs i n x l e k =
    let read = system_read xs i x (subst (λ n. i < n) (length-map xs plain_system) l) e in
    ap (λ n. nat_eq n 0) (k ∙ ap (λ s. length s.subsystems) read)

none_left : (bs : List Subsystem) → nat_eq (length bs) 0 ≡ true → bs ≡ []
none_left [] e = refl
none_left (b ∷ bs) e = let h : length (b ∷ bs) ≡ 0 = eqb-true (length (b ∷ bs)) 0 e in absurd (omega (arith, h))

-- then no two variables have one name: since this can be tested, it is known of a script whose forms aren't
pub names_apart : SingleSystemsAreFlat → (s : PlainScript) → ∥ IsValid s ∥₁ → nat_eq (length (system_at s.systems s.check.system).subsystems) 0 ≡ true → has_name_twice s ≡ false
names_apart law s w e = ∥∥₁_elim w (Bool-set (has_name_twice s) false) (λ i. (law s i (none_left (system_at s.systems s.check.system).subsystems e)).names)

-- ---- a script of one system

only_system : (x : PlainSystem) (i : ℕ) → i < 1 → system_at (x ∷ []) i ≡ x
only_system x zero h = refl
only_system x (suc i) h = absurd (omega (arith, h))

flat_set : IsSet PlainFlatSystem
flat_set = let node : Coded Node = hlevel codes in let code : Coded PlainFlatSystem = hlevel (codes, tree_code node) in Coded-set code

module _ (law : SingleSystemsAreFlat) (scope : ScopeState) (system : PlainSystem) (check : Check) (variables : List Variable) (parts : List Part) (own : variables ≡ check_variables (plain_check check))
    (part : map plain_part parts ≡ own_part system ∷ []) where
  single_is : IsSingle (single_script scope system (plain_check check)) → flat_form scope check variables parts ≡ flat_of (single_script scope system (plain_check check))
  single_is i =
      let s = single_script scope system (plain_check check) in
      let flat = law s i.whole i.alone in
      flat_same scope check variables (flat_of s).variables (map plain_part parts) (flat_of s).parts (own ∙ sym flat.variables)
      (part ∙ ap (λ x. own_part x ∷ []) (sym (only_system system check.system i.whole.check.there)) ∙ sym flat.parts)

  pub single_flat : ∥ IsSingle (single_script scope system (plain_check check)) ∥₁ → flat_form scope check variables parts ≡ flat_of (single_script scope system (plain_check check))
  single_flat w = ∥∥₁_elim w (flat_set (flat_form scope check variables parts) (flat_of (single_script scope system (plain_check check)))) single_is

  pub single_instance : ∥ IsSingle (single_script scope system (plain_check check)) ∥₁ → ∥ IsInstance (flat_form scope check variables parts) ∥₁
  single_instance w = ∥∥₁_map w (λ i. record {
    script = single_script scope system (plain_check check);
    whole = i.whole;
    flat = sym (single_is i);
    accepted = i.accepted;
  })
