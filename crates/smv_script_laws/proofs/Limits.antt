-- The script of an accepted model none of whose expressions is too high passes no limit.
use Rattle.std.proofs.Common.{◌≡◌, ℕ, suc, ◌+◌, ◌≤◌, cond, List, [], ◌∷◌, ◌++◌, length-append, arith}
use Rattle.std.specs.Prelude.{length}
use Rattle.std.proofs.lemmas.List.{length-map}
use Rattle.text_core.specs.declared.place.Place.{Place}
use Rattle.smv_text.specs.declared.token.Token.{Token}
use Rattle.smv_text.specs.Tree.{PlainSource}
use Rattle.smv_text.specs.Sources.{SpellsSource}
use Rattle.smv_meaning.specs.Instances.{instances_of}
use Rattle.smv_meaning.specs.Phases.{most_tokens, IsAccepted}
use Rattle.smv_items.specs.FlatItems.{PlainFlatItem, symbols_of}
use Rattle.smv_flat.specs.FlatForms.{flat_smv}
use Rattle.smv_script.specs.Script.{Group, inputs, outputs, locals, group_of, items_in, same_group, variable_of, variables_in}
use Rattle.smv_script_laws.specs.BoundLaws.{ScriptsAreSmall}
use Rattle.smv_script_laws.proofs.SymbolCounts.{symbols_by_weight}
use Rattle.smv_script_laws.proofs.Weights.{counts_by_weight, sizes_by_weight}
use Rattle.smv_script_laws.proofs.Lows.{heights_are_low}
use Rattle.smv_script_laws.proofs.Printed.{brackets_are_few}
use Rattle.smv_items.specs.laws.Counting.{weight_fits}

pub scripts_are_small : ScriptsAreSmall
scripts_are_small source end xs s needed h l w =
    let a = weight_fits source needed h in
    let b = sizes_by_weight source end xs s w in
    let c = heights_are_low source end xs s l w in
    let d = brackets_are_few source end xs s l w in
    record { size = omega (arith, a, b); height = omega (arith, c); nesting = omega arith; brackets = omega (arith, d) }

-- ---- few items and symbols

-- each item is in one group
grouped : (ms : List PlainFlatItem) → length (items_in inputs ms) + (length (items_in outputs ms) + length (items_in locals ms)) ≡ length ms
grouped [] = omega arith
grouped (m ∷ ms) = by (group_of m.kind) (grouped ms)
  where
    by : (g : Group) → length (items_in inputs ms) + (length (items_in outputs ms) + length (items_in locals ms)) ≡ length ms
        → length (cond (same_group inputs g) (m ∷ items_in inputs ms) (items_in inputs ms))
        + (length (cond (same_group outputs g) (m ∷ items_in outputs ms) (items_in outputs ms)) + length (cond (same_group locals g) (m ∷ items_in locals ms) (items_in locals ms))) ≡ suc (length ms)
    by inputs h = omega (arith, h)
    by outputs h = omega (arith, h)
    by locals h = omega (arith, h)

-- an accepted model has no more items than tokens
pub items_are_few : (source : PlainSource) (end : Place) (xs : List Token) → SpellsSource source end xs → (needed : ℕ) → IsAccepted source needed → length (flat_smv source).items ≤ most_tokens
items_are_few source end xs s needed h =
    let ms = (flat_smv source).items in
    let w = weight_fits source needed h in
    let n = counts_by_weight source end xs s 1 in
    let a = length-append (variables_in 1 inputs ms) (variables_in 1 outputs ms ++ variables_in 1 locals ms) in
    let b = length-append (variables_in 1 outputs ms) (variables_in 1 locals ms) in
    let i = length-map (items_in inputs ms) (variable_of 1) in
    let o = length-map (items_in outputs ms) (variable_of 1) in
    let l = length-map (items_in locals ms) (variable_of 1) in
    let g = grouped ms in
    omega (arith, w, n, a, b, i, o, l, g)

-- and no more symbols
pub symbols_are_few : (source : PlainSource) (end : Place) (xs : List Token) → SpellsSource source end xs → (needed : ℕ) → IsAccepted source needed → length (symbols_of (instances_of source)) ≤ most_tokens
symbols_are_few source end xs s needed h =
    let w = weight_fits source needed h in
    let n = symbols_by_weight source end xs s in
    omega (arith, w, n)
