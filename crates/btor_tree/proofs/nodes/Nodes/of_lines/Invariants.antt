use Rattle.std.proofs.Common.{◌≡◌, take}
use Rattle.btor_tree.specs.Fits.{count_of, is_input, is_state, is_bad}
use Rattle.btor_tree.proofs.nodes.Nodes.of_lines.Given as goal

-- the lines so far are counted
abbrev pub invariant-loop-line : goal.invariant-loop-line
invariant-loop-line l =
    record {
      inputs : l.inputs ≡ count_of is_input (take l.line-index l.fn.lines.items);
      states : l.states ≡ count_of is_state (take l.line-index l.fn.lines.items);
      bads : l.bads ≡ count_of is_bad (take l.line-index l.fn.lines.items);
    }
