use Rattle.std.proofs.Common.{◌≡◌, ◌++◌, length, drop, map}
use Rattle.smv_items.specs.FlatItemView.{item_plain}
use Rattle.smv_numbered.specs.Values.{stated_value}
use Rattle.smv_numbered.specs.Runs.{stated_at, state_at, label_at, states_of, labels_of, IsRising}
use Rattle.smv_numbered.proofs.listing.list_run.Given as goal

abbrev pub invariant-loop-end : goal.invariant-loop-end
invariant-loop-end l = let items = map item_plain l.items in let run = l.numbered in record {
  size : length l.stated.items ≡ length l.items;
  values : map stated_value l.stated.items ≡ stated_at items run.changes l.at;
  rising : IsRising l.at (drop l.end-index l.following) (length run.changes);
  states : l.run.states ++ map (state_at items run.changes) (drop l.end-index l.following) ≡ states_of items run.changes run.ends;
  labels : l.run.labels ++ map (label_at items run.changes) (drop l.end-index l.following) ≡ labels_of items run.changes run.ends;
}
