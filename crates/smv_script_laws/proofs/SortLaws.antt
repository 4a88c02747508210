-- The law of sorts in the scripts of models.
use Rattle.std.proofs.Common.{◌≡◌, ℕ, ◌≤◌, ◌<◌, Bool, true, false, List, length, Option, Some, option_map, sym, ap, ◌∙◌, subst, arith}
use Rattle.std.specs.Prelude.{slice_get}
use Rattle.std.proofs.lemmas.Option.{slice_get-map}
use Rattle.word_core.specs.declared.word.TheConstants.{WIDEST}
use Rattle.smv_text.specs.Tree.{PlainSource}
use Rattle.smv_meaning.specs.Instances.{Instance, instances_of}
use Rattle.smv_meaning.specs.Types.{ExprType}
use Rattle.smv_meaning.specs.Settled.{Acyclic, types_in}
use Rattle.smv_laws.proofs.SafeExpressions.{accepted_is_checked_law, acyclic}
use Rattle.smv_items.specs.FlatItems.{Leaf, of_item, of_symbol, of_nothing, origins_of, symbols_of, type_or_truth, PlainFlatItem, flat_item_of, leaf_in}
use Rattle.smv_flat.specs.FlatTree.{leaf_tree}
use Rattle.smv_flat.specs.FlatForms.{flat_of, flat_smv}
use Rattle.smv_flat.specs.FlatWidth.{width_of}
use Rattle.smv_accepted.proofs.ItemNames.{names_differ_law}
use Rattle.smv_accepted.proofs.Widths.{width_is_small_law}
use Rattle.moxi_terms.specs.declared.data.Sort.TheVariants as sort
use Rattle.moxi_terms.specs.declared.data.Datum.TheVariants as datum
use Rattle.moxi_terms.specs.declared.data.Primes.{Primes}
use Rattle.moxi_terms.specs.Tree.{constant, variable}
use Rattle.moxi_term_reading.specs.declared.locals.Local.{Local}
use Rattle.moxi_term_print.specs.WellScoped.{IsWellScoped, IsAllowedPrime}
use Rattle.smv_script.specs.Codes.{sort_of}
use Rattle.smv_script.specs.Terms.{translation}
use Rattle.smv_script.specs.Script.{coding_of, place_of_item, symbol_sort, variable_of}
use Rattle.smv_script_laws.specs.PlaceLaws.{all_variables}
use Rattle.smv_script_laws.proofs.Places.{has_place_law}
use Rattle.smv_script_laws.specs.LetNames.{AreLetNames}
use Rattle.smv_script_laws.specs.WellScopedLaws.{place_in_script, ExpressionsAreWellScoped, TermsAreWellScoped}
use Rattle.smv_script_laws.proofs.Typed.{never_primed}
use Rattle.smv_script_laws.proofs.Translated.{can}
use Rattle.smv_script_laws.proofs.Inhabited.{value_in, values_lie}
use Rattle.smv_script_laws.proofs.Leaves.{ItemsDiffer, IsTypedLeaf, typed_leaf}
use Rattle.smv_script_laws.proofs.SortedVariables.{all_free, variables_differ, variable_stands, truth_stands}
use Rattle.smv_script_laws.proofs.Constants.{constant_stands}
use Rattle.moxi_term_reading.specs.Answer.{locals_of}

module _ (t : List Instance) (w : ℕ) (some : 1 ≤ w) (most : w ≤ WIDEST) (fresh : ItemsDiffer t) (primes : Primes) where
  -- the variable of an item, primed or not, with the item's sort
  pub item_stands : (bounds : List Local) → AreLetNames bounds → (k : ℕ) (primed : Bool) → IsAllowedPrime primes primed → (m : PlainFlatItem) → slice_get (flat_of t).items k ≡ Some m
      → IsWellScoped (place_in_script (flat_of t) w primes) bounds (variable (place_of_item (flat_of t).items k) primed) (sort_of w m.type)
  item_stands bounds lets k primed p m h =
      variable_stands (symbol_sort (symbols_of t)) (all_variables w (flat_of t).items) primes (all_free w (flat_of t).items) (variables_differ t w fresh) bounds lets
      (place_of_item (flat_of t).items k) (variable_of w m) primed (has_place_law w (flat_of t).items k m h) p

  pub truth_can : (b : Bool) (bounds : List Local) → AreLetNames bounds → IsWellScoped (place_in_script (flat_of t) w primes) bounds (constant (datum.Truth b)) sort.Truth
  truth_can b bounds lets = truth_stands (symbol_sort (symbols_of t)) (all_variables w (flat_of t).items) primes (all_free w (flat_of t).items) b bounds lets

  pub symbol_can : (bounds : List Local) → AreLetNames bounds → (i : ℕ) → i < length (symbols_of t) → IsWellScoped (place_in_script (flat_of t) w primes) bounds (constant (datum.Constant 0 i)) (sort.Choice 0)
  symbol_can bounds lets i l = constant_stands t (all_variables w (flat_of t).items) primes (all_free w (flat_of t).items) bounds lets i l

  leaf_stands : (under : Bool) → IsAllowedPrime primes under → (l : Leaf) (u : ExprType) → IsTypedLeaf t u l → (bounds : List Local) → AreLetNames bounds
      → IsWellScoped (place_in_script (flat_of t) w primes) bounds ((translation (coding_of (flat_of t) w) (leaf_tree (Some u) under l)).term (length bounds)) (sort_of w u)
  leaf_stands under p (of_item k) u h bounds lets =
      let there : slice_get (flat_of t).items k ≡ Some (flat_item_of t h.0) = slice_get-map (flat_item_of t) (origins_of t) k ∙ ap (option_map (flat_item_of t)) h.1 in
      subst (λ (o : Option ExprType). IsWellScoped (place_in_script (flat_of t) w primes) bounds (variable (place_of_item (flat_of t).items k) under) (sort_of w (type_or_truth o))) h.2
      (item_stands bounds lets k under p (flat_item_of t h.0) there)
  leaf_stands under p (of_symbol s) u h bounds lets =
      subst (λ z. IsWellScoped (place_in_script (flat_of t) w primes) bounds (constant (datum.Constant 0 s)) (sort_of w z)) (sym h.1) (symbol_can bounds lets s h.0)
  leaf_stands under p of_nothing u h bounds lets = absurd h

pub expressions_are_well_scoped : (t : List Instance) → Acyclic t → ItemsDiffer t → (w : ℕ) → 1 ≤ w → w ≤ WIDEST → ExpressionsAreWellScoped t w
expressions_are_well_scoped t a fresh w some most primes i at n e o l u h =
    can (coding_of (flat_of t) w) (symbol_sort (symbols_of t)) (locals_of (all_variables w (flat_of t).items)) primes some most (truth_can t w some most fresh primes)
    (types_in true t i) (leaf_in t i) (value_in t i) (values_lie t i)
    (λ under p x v s bounds lets. leaf_stands t w some most fresh primes under p (leaf_in t i x) v (typed_leaf t a fresh i x v s) bounds lets)
    false (never_primed primes) at n e o l u h

pub width_some : (source : PlainSource) → 1 ≤ width_of (flat_smv source)
width_some source = omega arith

pub terms_are_well_scoped_law : TermsAreWellScoped
terms_are_well_scoped_law source end text xs lexed spelled needed accepted =
    let t = instances_of source in
    let small = width_is_small_law source end xs spelled needed accepted in
    expressions_are_well_scoped t (acyclic t (accepted_is_checked_law source needed accepted)) (names_differ_law source end text xs lexed spelled needed accepted) (width_of (flat_smv source)) (width_some source) (omega (arith, small))
