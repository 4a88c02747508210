use Rattle.name_maps.proofs.RowLemmas.{rest_put}
use Rattle.name_maps.proofs.buckets.add_to.Goals as goal

pub returns-in_ok-push : goal.returns-in_ok-push
returns-in_ok-push g c = rest_put c.args.bucket.now.first c.args.bucket.now.second c.args.bucket.now.rest.items c.push.new.self.items _ c.in_ok-push.ensures.items
