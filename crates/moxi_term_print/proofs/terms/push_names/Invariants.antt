use Rattle.std.proofs.Common.{◌≡◌, ◌≤◌, ◌++◌, map, take, length}
use Rattle.std.specs.Slice.Iter.{iter_rest}
use Rattle.moxi_term_print.proofs.terms.push_names.Given as goal
use Rattle.text_core.specs.Bytes.{bytes_behind}

abbrev pub invariant-loop-name : goal.invariant-loop-name
invariant-loop-name l = record {
  names : map bytes_behind l.bound.items ++ iter_rest l.name-iterator ≡ map bytes_behind l.fn.bound.items ++ l.fn.names;
  front : take (length l.fn.bound.items) l.bound.items ≡ l.fn.bound.items;
  more : length l.fn.bound.items ≤ length l.bound.items;
}
