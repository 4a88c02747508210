-- Parts over two numberings that agree on the variables.
use Rattle.std.proofs.Common.{◌≡◌, ℕ, zero, suc, ◌+◌, ◌-◌, ◌<◌, cond, nat_lt, Bool, true, false, List, [], ◌∷◌, ◌++◌, length, length-append, Some, refl, sym, ap, ◌∙◌, arith}
use Rattle.std.specs.Prelude.{slice_get, slice_index_or}
use Rattle.std.specs.List.{AllByRecursion}
use Rattle.std.proofs.lemmas.Bool.Decides.{nat_tests}
use Rattle.moxi_scripts.specs.declared.script.Subsystem.{Subsystem}
use Rattle.moxi_scripts.specs.Script.{PlainSystem, system_at, variables_in}
use Rattle.moxi_flat.specs.FlatSystem.{PlainPart, count_upto, part_of, parts_each, parts_upto, place_inside}
use Rattle.moxi_flat.specs.Instantiating.{HasActuals, RenumbersConsistently}
use Rattle.moxi_flat.specs.Renumbering.{renumbered}
use Rattle.moxi_instantiate.specs.Copying.{number_in}
use Rattle.moxi_instantiate.specs.Instances.{AreOverVariables, parts_inside}

-- the numbers agree below n
abbrev pub Agree : ℕ → (ℕ → ℕ) → (ℕ → ℕ) → Type 0
Agree n place other = (v : ℕ) → v < n → place v ≡ other v

got : (xs : List ℕ) (v : ℕ) → v < length xs → slice_get xs v ≡ Some (slice_index_or xs v 0)
got [] v h = absurd (omega (arith, h))
got (x ∷ xs) zero h = refl
got (x ∷ xs) (suc v) h = got xs v (omega (arith, h))

module _ (ss : List PlainSystem) where
  inside_alike : (n : ℕ) (place other : ℕ → ℕ) → Agree n place other → (b : Subsystem) → HasActuals ss n b → (fresh v : ℕ) → place_inside place b.actuals fresh v ≡ place_inside other b.actuals fresh v
  inside_alike n place other same b h fresh v = by (nat_lt v (length b.actuals)) refl
    where
      at : (ℕ → ℕ) → Bool → ℕ
      at p test = cond test (p (slice_index_or b.actuals v 0)) (fresh + (v - length b.actuals))

      by : (test : Bool) → nat_lt v (length b.actuals) ≡ test → place_inside place b.actuals fresh v ≡ place_inside other b.actuals fresh v
      by true e =
          let l : v < length b.actuals = grind (arith, nat_tests) in
          let a = slice_index_or b.actuals v 0 in
          ap (λ test. cond test (place a) (fresh + (v - length b.actuals))) e ∙ same a (h.variables v a (got b.actuals v l)) ∙ sym (ap (λ test. cond test (other a) (fresh + (v - length b.actuals))) e)
      by false e =
          let a = slice_index_or b.actuals v 0 in
          ap (λ test. cond test (place a) (fresh + (v - length b.actuals))) e ∙ sym (ap (λ test. cond test (other a) (fresh + (v - length b.actuals))) e)

  abbrev Alike : ((ℕ → ℕ) → ℕ → ℕ → List PlainPart) → Type 0
  Alike parts = (place other : ℕ → ℕ) (fresh i : ℕ) → i < length ss → Agree (length (variables_in (system_at ss i))) place other → parts place fresh i ≡ parts other fresh i

  each_alike : (count : ℕ → ℕ) (parts : (ℕ → ℕ) → ℕ → ℕ → List PlainPart) → Alike parts → (n : ℕ) (place other : ℕ → ℕ) → Agree n place other
      → (fresh : ℕ) (bs : List Subsystem) → AllByRecursion (HasActuals ss n) bs → parts_each ss count parts place fresh bs ≡ parts_each ss count parts other fresh bs
  each_alike count parts alike n place other same fresh [] h = refl
  each_alike count parts alike n place other same fresh (b ∷ bs) h =
      let next = fresh + length (system_at ss b.system).locals in
      ap (λ ps. ps ++ parts_each ss count parts place (next + count b.system) bs)
      (alike (place_inside place b.actuals fresh) (place_inside other b.actuals fresh) next b.system h.0.there (λ v l. inside_alike n place other same b h.0 fresh v))
      ∙ ap (λ ps. parts (place_inside other b.actuals fresh) next b.system ++ ps) (each_alike count parts alike n place other same (next + count b.system) bs h.1)

  module _ (renumbers : RenumbersConsistently) (over : AreOverVariables ss) where
    part_alike : (place other : ℕ → ℕ) (i : ℕ) → i < length ss → Agree (length (variables_in (system_at ss i))) place other → part_of place (system_at ss i) ≡ part_of other (system_at ss i)
    part_alike place other i l same =
        let x = system_at ss i in
        let n = length (variables_in x) in
        let o = over i l in
        ap {B = PlainPart} (λ t. record { init = t; trans = renumbered place x.trans; inv = renumbered place x.inv }) (renumbers.same n place other same x.init o.init)
        ∙ ap {B = PlainPart} (λ t. record { init = renumbered other x.init; trans = t; inv = renumbered place x.inv }) (renumbers.same n place other same x.trans o.trans)
        ∙ ap {B = PlainPart} (λ t. record { init = renumbered other x.init; trans = renumbered other x.trans; inv = t }) (renumbers.same n place other same x.inv o.inv)

    pub parts_alike : (depth : ℕ) → Alike (parts_upto ss depth)
    parts_alike zero place other fresh i l same = refl
    parts_alike (suc depth) place other fresh i l same =
        let x = system_at ss i in
        ap (λ p. p ∷ parts_each ss (count_upto ss depth) (parts_upto ss depth) place fresh x.subsystems) (part_alike place other i l same)
        ∙ ap (λ ps. part_of other x ∷ ps)
        (each_alike (count_upto ss depth) (parts_upto ss depth) (parts_alike depth) (length (variables_in x)) place other same fresh x.subsystems (over i l).subsystems)

    -- those of a subsystem, whose variables' places were made
    pub inside_parts : (place : ℕ → ℕ) (b : Subsystem) (fresh locals : ℕ) (inside : List ℕ) → b.system < length ss
        → length b.actuals ≡ length (system_at ss b.system).inputs + length (system_at ss b.system).outputs → locals ≡ length (system_at ss b.system).locals
        → Agree (length b.actuals + locals) (number_in inside) (place_inside place b.actuals fresh)
        → parts_upto ss (length ss) (number_in inside) (fresh + locals) b.system ≡ parts_inside ss place fresh b
    inside_parts place b fresh locals inside there long own same =
        let x = system_at ss b.system in
        let all : length (variables_in x) ≡ length x.inputs + (length x.outputs + length x.locals) =
        length-append x.inputs (x.outputs ++ x.locals) ∙ ap (λ n. length x.inputs + n) (length-append x.outputs x.locals) in
        parts_alike (length ss) (number_in inside) (place_inside place b.actuals fresh) (fresh + locals) b.system there (λ v l. same v (omega (arith, all, long, own, l)))
        ∙ ap (λ n. parts_upto ss (length ss) (place_inside place b.actuals fresh) (fresh + n) b.system) own

    -- those of the checked system, whose variables stand first
    pub own_parts : (i count fresh : ℕ) (none inside : List ℕ) → i < length ss → length (variables_in (system_at ss i)) ≡ count → none ≡ []
        → Agree (length none + fresh) (number_in inside) (place_inside (number_in []) none 0)
        → fresh ≡ count → parts_upto ss (length ss) (number_in inside) fresh i ≡ parts_upto ss (length ss) (λ v. v) count i
    own_parts i count fresh none inside there long empty same counted =
        let few : length none ≡ 0 = ap length empty in
        parts_alike (length ss) (number_in inside) (λ v. v) fresh i there (λ v l. same v (omega (arith, few, long, counted, l)) ∙ ap (λ xs. place_inside (number_in []) xs 0 v) empty ∙ behind_none v)
        ∙ ap (λ n. parts_upto ss (length ss) (λ v. v) n i) counted
      where
        behind_none : (v : ℕ) → place_inside (number_in []) [] 0 v ≡ v
        behind_none v =
            let test : nat_lt v 0 ≡ false = grind (arith, nat_tests) in
            let same : 0 + (v - 0) ≡ v = omega arith in
            ap (λ b. cond b (number_in [] (slice_index_or [] v 0)) (0 + (v - 0))) test ∙ same
