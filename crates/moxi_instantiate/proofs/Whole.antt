-- What is known of a script that is valid, though its cause isn't, since it can be tested.
use Rattle.std.proofs.Common.{◌≡◌, ℕ, ◌+◌, ◌<◌, ◌≤◌, ◌||◌, nat_lt, nat_eq, Bool, true, false, ◌^◌, List, [], ◌∷◌, ◌++◌, length, length-append, refl, sym, ap, ◌∙◌, arith}
use Rattle.std.specs.List.{AllByRecursion}
use Rattle.std.proofs.lemmas.Bool.Decides.{nat_tests}
use Rattle.std.proofs.Math.Bool.{Bool-set}
use Rattle.std.proofs.Math.Logic.{∥∥₁_elim, ∥∥₁_map}
use Rattle.moxi_terms.specs.Tree.{Tree, constant, variable, bound, apply, binding, call, Trees, no_trees, tree}
use Rattle.moxi_scripts.specs.declared.script.Subsystem.{Subsystem}
use Rattle.moxi_scripts.specs.Script.{PlainCheck, PlainScript, PlainSystem, system_at, variables_in}
use Rattle.moxi_scripts.specs.Valid.{FitsSystem, IsValid, check_variables}
use Rattle.moxi_flat.specs.Systems.{script_height, script_nesting, script_size}
use Rattle.moxi_flat.specs.FlatSystem.{count_upto, flat_of, locals_upto}
use Rattle.moxi_flat.specs.Instantiating.{HasActuals, IsOverVariables, LocalsAreCounted, SystemsAreOverVariables}
use Rattle.moxi_flat.specs.FlatLaws.{FlatSystemsAreSmall}
use Rattle.moxi_flat.specs.Limits.{is_too_large}
use Rattle.moxi_flat.specs.declared.limits.TheConstants.{LARGEST, HIGHEST, DEEPEST}
use Rattle.moxi_flat.specs.Renumbering.{AreOver, IsOver}
use Rattle.moxi_flat.proofs.Small.{long_as}
use Rattle.moxi_instantiate.specs.Instances.{AreOverVariables}
use Rattle.moxi_instantiate.proofs.Measured.{lt_held}

pub eq_held : (a b : ℕ) → ∥ a ≡ b ∥₁ → a ≡ b
eq_held a b h = let e : nat_eq a b ≡ true = ∥∥₁_elim h (Bool-set (nat_eq a b) true) (λ l. grind (arith, nat_tests)) in grind (arith, nat_tests)

all_held : {A : Type 0} (P : A → Type 0) → ((x : A) → ∥ P x ∥₁ → P x) → (xs : List A) → ∥ AllByRecursion P xs ∥₁ → AllByRecursion P xs
all_held P f [] w = tt
all_held P f (x ∷ xs) w = (f x (∥∥₁_map w (λ h. h.0)), all_held P f xs (∥∥₁_map w (λ h. h.1)))

mutual
  is_over_held : (n : ℕ) (t : Tree) → ∥ IsOver n t ∥₁ → IsOver n t
  is_over_held n (constant d) w = tt
  is_over_held n (variable v primed) w = lt_held v n w
  is_over_held n (bound i) w = tt
  is_over_held n (apply o ts) w = are_over_held n ts w
  is_over_held n (binding names ts t) w = (are_over_held n ts (∥∥₁_map w (λ h. h.0)), is_over_held n t (∥∥₁_map w (λ h. h.1)))
  is_over_held n (call m ts) w = are_over_held n ts w

  are_over_held : (n : ℕ) (ts : Trees) → ∥ AreOver n ts ∥₁ → AreOver n ts
  are_over_held n no_trees w = tt
  are_over_held n (tree t ts) w = (is_over_held n t (∥∥₁_map w (λ h. h.0)), are_over_held n ts (∥∥₁_map w (λ h. h.1)))

module _ (ss : List PlainSystem) where
  actuals_held : (n : ℕ) (b : Subsystem) → ∥ HasActuals ss n b ∥₁ → HasActuals ss n b
  actuals_held n b w = record {
    there = lt_held b.system (length ss) (∥∥₁_map w (λ h. h.there));
    long = eq_held (length b.actuals) (length (system_at ss b.system).inputs + length (system_at ss b.system).outputs) (∥∥₁_map w (λ h. h.long));
    variables = λ a v e. lt_held v n (∥∥₁_map w (λ h. h.variables a v e));
  }

  over_held : (x : PlainSystem) → ∥ IsOverVariables ss x ∥₁ → IsOverVariables ss x
  over_held x w =
      let n = length (variables_in x) in
      record {
        init = is_over_held n x.init (∥∥₁_map w (λ h. h.init));
        trans = is_over_held n x.trans (∥∥₁_map w (λ h. h.trans));
        inv = is_over_held n x.inv (∥∥₁_map w (λ h. h.inv));
        subsystems = all_held (HasActuals ss n) (actuals_held n) x.subsystems (∥∥₁_map w (λ h. h.subsystems));
      }

pub systems_over : SystemsAreOverVariables → (s : PlainScript) → ∥ IsValid s ∥₁ → AreOverVariables s.systems
systems_over law s w i l = over_held s.systems (system_at s.systems i) (∥∥₁_map w (λ h. law s h i l))

-- ---- the checked system

fits_long : (x : PlainSystem) (c : PlainCheck) → FitsSystem x c → length (variables_in x) ≡ length (check_variables c)
fits_long x c f =
    length-append x.inputs (x.outputs ++ x.locals) ∙ ap (λ n. length x.inputs + n) (length-append x.outputs x.locals)
    ∙ ap (λ n. n + (length x.outputs + length x.locals)) (sym (long_as c.inputs x.inputs f.inputs))
    ∙ ap (λ n. length c.inputs + (n + length x.locals)) (sym (long_as c.outputs x.outputs f.outputs))
    ∙ ap (λ n. length c.inputs + (length c.outputs + n)) (sym (long_as c.locals x.locals f.locals))
    ∙ sym (length-append c.inputs (c.outputs ++ c.locals) ∙ ap (λ n. length c.inputs + n) (length-append c.outputs c.locals))

pub checked_long : (s : PlainScript) → ∥ IsValid s ∥₁ → length (variables_in (system_at s.systems s.check.system)) ≡ length (check_variables s.check)
checked_long s w =
    eq_held (length (variables_in (system_at s.systems s.check.system))) (length (check_variables s.check)) (∥∥₁_map w (λ h. fits_long (system_at s.systems s.check.system) s.check h.check.fits))

both_fail : (a b : Bool) → (a || b) ≡ false → (a ≡ false) × (b ≡ false)
both_fail true b e = absurd (cc)
both_fail false b e = (refl, e)

at_most : (limit n : ℕ) → nat_lt limit n ≡ false → n ≤ limit
at_most limit n e = grind (arith, nat_tests)

pub within_size : (s : PlainScript) → is_too_large s ≡ false → script_size s ≤ LARGEST
within_size s e = at_most LARGEST (script_size s) (both_fail (nat_lt LARGEST (script_size s)) (nat_lt HIGHEST (script_height s) || nat_lt DEEPEST (script_nesting s)) e).0

pub within_height : (s : PlainScript) → is_too_large s ≡ false → script_height s ≤ HIGHEST
within_height s e =
    at_most HIGHEST (script_height s)
    (both_fail (nat_lt HIGHEST (script_height s)) (nat_lt DEEPEST (script_nesting s)) (both_fail (nat_lt LARGEST (script_size s)) (nat_lt HIGHEST (script_height s) || nat_lt DEEPEST (script_nesting s)) e).1).0

room_for : (all own inner parts size : ℕ) → all ≡ own + inner → all + parts ≤ size → size ≤ LARGEST → own + inner < 2 ^ 32
room_for all own inner parts size e h g = omega (arith, e, h, g)

pub has_room : LocalsAreCounted → FlatSystemsAreSmall → (s : PlainScript) → is_too_large s ≡ false → ∥ IsValid s ∥₁
    → length (check_variables s.check) + count_upto s.systems (length s.systems) s.check.system < 2 ^ 32
has_room counted small s e w =
    let own = check_variables s.check in
    let n = length s.systems in
    let more = locals_upto s.systems n [] s.check.system in
    let long : length (flat_of s).variables ≡ length own + count_upto s.systems n s.check.system = length-append own more ∙ ap (λ k. length own + k) (counted s.systems n [] s.check.system) in
    lt_held (length own + count_upto s.systems n s.check.system) (2 ^ 32)
    (∥∥₁_map w (λ h. room_for (length (flat_of s).variables) (length own) (count_upto s.systems n s.check.system) (length (flat_of s).parts) (script_size s) long (small s h) (within_size s e)))
