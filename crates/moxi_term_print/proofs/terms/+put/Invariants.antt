use Rattle.std.proofs.Common.{◌≡◌, ◌++◌, ◌∷◌, [], map, drop}
use Rattle.moxi_terms.specs.Tree.{trees_of}
use Rattle.moxi_terms.specs.View.{plain}
use Rattle.moxi_term_print.specs.Shown.{parts_text}
use Rattle.moxi_term_print.specs.Terms.{shown_bindings, shown_terms}
use Rattle.moxi_term_print.proofs.terms.+put.Given as goal
use Rattle.text_core.specs.Bytes.{bytes_behind}

abbrev pub invariant-put_trees-loop-term : goal.invariant-put_trees-loop-term
invariant-put_trees-loop-term l = record {
  kept : l.bound.items ≡ l.fn.bound.items;
  text : l.out ++ parts_text (32 ∷ []) (shown_terms l.scene.scope.now (map bytes_behind l.scene.variables.now) (map bytes_behind l.fn.bound.items) (trees_of (map plain (drop l.term-index l.terms))))
      ≡ l.fn.out ++ parts_text (32 ∷ []) (shown_terms l.scene.scope.now (map bytes_behind l.scene.variables.now) (map bytes_behind l.fn.bound.items) (trees_of (map plain l.terms)));
}

abbrev pub invariant-put_bindings-loop-i : goal.invariant-put_bindings-loop-i
invariant-put_bindings-loop-i l = record {
  kept : l.bound.items ≡ l.fn.bound.items;
  text : l.out ++ parts_text l.separator (shown_bindings l.scene.scope.now (map bytes_behind l.scene.variables.now) (map bytes_behind l.fn.bound.items) (drop l.i l.names) (trees_of (map plain (drop l.i l.terms))))
      ≡ l.fn.out ++ parts_text [] (shown_bindings l.scene.scope.now (map bytes_behind l.scene.variables.now) (map bytes_behind l.fn.bound.items) l.names (trees_of (map plain l.terms)));
}
