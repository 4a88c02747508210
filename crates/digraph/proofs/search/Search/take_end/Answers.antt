use Rattle.std.proofs.Common.{◌≡◌, ◌<◌, length, true, take, ℕ, List, sym, subst, ap, arith}
use Rattle.std.specs.List.{list_all}
use Rattle.digraph.specs.Graph.{next_of}
use Rattle.digraph.specs.Searching.{State, IsSearch, is_done}
use Rattle.digraph.specs.declared.mark.Mark.{Mark}
use Rattle.digraph.proofs.Laws.{read_is, row_is, end_within}
use Rattle.digraph.proofs.search.Search.take_end.Goals as goal

pub front-edge-requires-clause-low : goal.front-edge-requires-clause-low
front-edge-requires-clause-low c =
    let h = subst (λ (s : State). IsSearch c.args.graph.now s) (sym c.self.view_is) c.requires.search in
    let there : c.in-Some.node < length c.args.graph.now = end_within c.args.graph.now _ c.pop.new.self.items c.in-Some.node h c.in-Some.ensures.items in
    let row = row_is c.args.graph.now c.in-Some.node c.at.result.now there c.at.ensures in
    let gone = read_is c.self.inside.gone.items c.in-Some.node c.index.result.now 0 (omega (arith, there, h.counted)) c.index.ensures in
    let low = h.low c.in-Some.node in
    omega (arith, low, gone, ap length row)

pub front-edge-requires-clause-done : goal.front-edge-requires-clause-done
front-edge-requires-clause-done c =
    let h = subst (λ (s : State). IsSearch c.args.graph.now s) (sym c.self.view_is) c.requires.search in
    let there : c.in-Some.node < length c.args.graph.now = end_within c.args.graph.now _ c.pop.new.self.items c.in-Some.node h c.in-Some.ensures.items in
    let row = row_is c.args.graph.now c.in-Some.node c.at.result.now there c.at.ensures in
    let gone = read_is c.self.inside.gone.items c.in-Some.node c.index.result.now 0 (omega (arith, there, h.counted)) c.index.ensures in
    let P : ℕ → List ℕ → Type 0 = λ n xs. list_all (is_done c.self.inside.marks.items) (take n xs) ≡ true in
    let done = subst (λ (n : ℕ). P n (next_of c.args.graph.now c.in-Some.node)) gone (h.fronts c.in-Some.node) in
    let full = subst (λ (xs : List ℕ). P c.index.result.now xs) row done in
    subst (λ (marks : List Mark). list_all (is_done marks) (take c.index.result.now c.at.result.now) ≡ true) (sym c.as_slice.ensures.value) full
