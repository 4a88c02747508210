use Rattle.std.proofs.Common.{length, nat_lt, refl, ap, ◌∙◌}
use Rattle.std.specs.List.{list_all}
use Rattle.digraph.proofs.RankLaws.{all_taken}
use Rattle.digraph.proofs.components.Search.complete.Goals as goal

pub rank_component-requires : goal.rank_component-requires
rank_component-requires c =
    let r = c.requires in
    ap (λ xs. list_all (λ k. nat_lt k (length c.args.self.now.ranks.items)) xs) c.as_slice.ensures.value ∙ ap (λ n. list_all (λ k. nat_lt k n) c.args.self.now.stack.items) r.ranked ∙ r.stack

pub returns : goal.returns
returns c =
    let r = c.requires in
    record {
      search = record {
        ranked = c.rank_component.ensures ∙ r.ranked;
        path = r.path;
        stack = ap (list_all (λ k. nat_lt k (length c.args.self.now.nodes.items))) c.truncate.ensures.items ∙ all_taken (length c.args.self.now.nodes.items) c.args.place c.args.self.now.stack.items r.stack;
      };
      long = refl;
    }
