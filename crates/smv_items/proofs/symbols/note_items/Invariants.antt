use Rattle.std.proofs.Common.{◌≡◌, map}
use Rattle.std.specs.Prelude.{flat_map}
use Rattle.std.specs.Slice.Iter.{iter_rest}
use Rattle.smv_text.specs.View.{plain_item}
use Rattle.smv_items.specs.FlatItems.{gathered, domain_symbols}
use Rattle.smv_items.proofs.symbols.note_items.Given as goal

abbrev pub invariant-loop-item : goal.invariant-loop-item
invariant-loop-item l =
    gathered l.symbols (flat_map (λ v. domain_symbols v.domain) (map plain_item (iter_rest l.item-iterator))) ≡ gathered l.fn.symbols (flat_map (λ v. domain_symbols v.domain) (map plain_item l.fn.items))
