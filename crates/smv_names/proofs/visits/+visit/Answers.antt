use Rattle.std.proofs.Common.{◌≡◌, ℕ, List, ◌+◌, ◌-◌, ◌∷◌, [], None, map, drop, take, length, refl, sym, ap, ◌∙◌, subst, arith}
use Rattle.std.proofs.lemmas.List.{take-append-le}
use Rattle.std.proofs.Math.Seq.{take-length}
use Rattle.smv_text.specs.View.{plain_module}
use Rattle.smv_meaning.specs.Phases.{declared_in}
use Rattle.smv_meaning.specs.Checks.{first_failing, IsBad}
use Rattle.smv_names.specs.View.{declared_plain, names_above}
use Rattle.smv_names.specs.Visits.{item_visits, declared_visits, visits, visit_checks, visit_count, IsLength}
use Rattle.smv_names.proofs.Above.{one_above}
use Rattle.smv_names.proofs.Visiting.{visits_none, begins_bad, begins_well, begins_count, goes_on, ends_in, count_append}
use Rattle.smv_names.proofs.visits.+visit.Goals as goal
use Rattle.smv_meaning.specs.laws.Lists.{front_is}

pub visited-returns-then-deep-eq0-clause-counts : goal.visited-returns-then-deep-eq0-clause-counts
visited-returns-then-deep-eq0-clause-counts t c path is =
    let ms = map plain_module c.args.modules.now in
    let e = visits_none c.args.deep ms (names_above c.args.above.now.items) path (plain_module c.args.own.now) c.if-deep-eq0.true in
    (ap (λ vs. first_failing (visit_checks ms c.args.met vs)) e, sym (ap (visit_count c.args.met) e))

pub visited-returns-in-Err-clause-counts : goal.visited-returns-in-Err-clause-counts
visited-returns-in-Err-clause-counts t c path is =
    let above = names_above c.args.above.now.items in
    let own : names_above c.as_slice.result.now ≡ c.args.own.now.name ∷ above = ap names_above (c.as_slice.ensures.value ∙ c.in_ok-push.ensures) ∙ one_above c.args.above.now.items c.bytes.result ∙ ap (λ n. n ∷ above) (c.bytes.ensures ∙ ap (λ m. m.name) c.module-module.ensures) in
    begins_bad c.args.deep (map plain_module c.args.modules.now) above (names_above c.as_slice.result.now) path c.args.met (plain_module c.args.own.now)
    (declared_in (plain_module c.args.own.now)) c.in-Err.end (omega arith) own refl (c.in-Err.ensures path is)

pub visited-loop-declaration-init : goal.visited-loop-declaration-init
visited-loop-declaration-init t c =
    let ms = map plain_module c.args.modules.now in
    let old = c.args.above.now.items in
    let above = names_above old in
    let ds = declared_in (plain_module c.args.own.now) in
    let own : names_above c.push.new.above.items ≡ c.args.own.now.name ∷ above = ap names_above c.in_ok-push.ensures ∙ one_above old c.bytes.result ∙ ap (λ n. n ∷ above) (c.bytes.ensures ∙ ap (λ m. m.name) c.module-module.ensures) in
    let f = visits (c.args.deep - 1) ms (c.args.own.now.name ∷ above) in
    record {
      above = own;
      kept = ap (take (length old)) c.in_ok-push.ensures ∙ take-append-le (length old) old (c.bytes.result ∷ []) (omega arith) ∙ take-length old;
      checks = λ path is. ap (λ l. first_failing (visit_checks ms c.in-Ok.count (declared_visits f ms path l))) c.declarations-list.ensures
          ∙ ap (λ m. first_failing (visit_checks ms m (declared_visits f ms path ds))) (c.in-Ok.ensures path is).1
          ∙ begins_well c.args.deep ms above (names_above c.as_slice.result.now) path c.args.met (plain_module c.args.own.now) ds (omega arith) (ap names_above c.as_slice.ensures.value ∙ own) refl (c.in-Ok.ensures path is).0;
      count = λ path is. ap (λ l. visit_count c.in-Ok.count (declared_visits f ms path l)) c.declarations-list.ensures
          ∙ ap (λ m. visit_count m (declared_visits f ms path ds)) (c.in-Ok.ensures path is).1
          ∙ begins_count c.args.deep ms above path c.args.met (plain_module c.args.own.now) ds (omega arith) refl;
    }

pub visited-returns-in-Err-item_visited-clause-counts : goal.visited-returns-in-Err-item_visited-clause-counts
visited-returns-in-Err-item_visited-clause-counts t c path is =
    let ms = map plain_module c.args.modules.now in
    let list = c.declarations-list.result.now in
    let f = visits (c.args.deep - 1) ms (c.args.own.now.name ∷ names_above c.args.above.now.items) in
    let declaration = c.declaration-item.result in
    let d = declared_plain declaration in
    let rest = map declared_plain (drop (c.loop-declaration.declaration-index + 1) list) in
    let front : map declared_plain (drop c.loop-declaration.declaration-index list) ≡ d ∷ rest = ap (map declared_plain) (front_is list c.loop-declaration.declaration-index (length list) declaration refl (omega arith) c.declaration-item.is) in
    let vs = item_visits f ms path d.item in
    subst (λ o. IsBad c.in-Err-item_visited.end o) (ap (λ l. first_failing (visit_checks ms c.loop-declaration.count (declared_visits f ms path l))) (sym front) ∙ c.loop-declaration.invariant.checks path is)
    (ends_in ms c.loop-declaration.count vs (declared_visits f ms path rest) c.in-Err-item_visited.end
    (subst (λ a. IsBad c.in-Err-item_visited.end (first_failing (visit_checks ms c.loop-declaration.count (item_visits (visits (c.args.deep - 1) ms a) ms path d.item)))) c.loop-declaration.invariant.above (c.in-Err-item_visited.ensures.counts path is)))

pub visited-loop-declaration-preserved : goal.visited-loop-declaration-preserved
visited-loop-declaration-preserved t c =
    let ms = map plain_module c.args.modules.now in
    let list = c.declarations-list.result.now in
    let f = visits (c.args.deep - 1) ms (c.args.own.now.name ∷ names_above c.args.above.now.items) in
    let declaration = c.declaration-item.result in
    let d = declared_plain declaration in
    let rest = map declared_plain (drop (c.loop-declaration.declaration-index + 1) list) in
    let front : map declared_plain (drop c.loop-declaration.declaration-index list) ≡ d ∷ rest = ap (map declared_plain) (front_is list c.loop-declaration.declaration-index (length list) declaration refl (omega arith) c.declaration-item.is) in
    let vs = λ (path : List ℕ). item_visits f ms path d.item in
    let passed : (path : List ℕ) → IsLength c.args.path_length path → first_failing (visit_checks ms c.loop-declaration.count (vs path)) ≡ None = λ path is.
    ap (λ a. first_failing (visit_checks ms c.loop-declaration.count (item_visits (visits (c.args.deep - 1) ms a) ms path d.item))) (sym c.loop-declaration.invariant.above) ∙ (c.in-Ok-item_visited.ensures.counts path is).0 in
    let more : (path : List ℕ) → IsLength c.args.path_length path → c.in-Ok-item_visited.more ≡ visit_count c.loop-declaration.count (vs path) = λ path is.
    (c.in-Ok-item_visited.ensures.counts path is).1 ∙ ap (λ a. visit_count c.loop-declaration.count (item_visits (visits (c.args.deep - 1) ms a) ms path d.item)) c.loop-declaration.invariant.above in
    record {
      above = ap names_above c.in-Ok-item_visited.ensures.same ∙ c.loop-declaration.invariant.above;
      kept = ap (take (length c.args.above.now.items)) c.in-Ok-item_visited.ensures.same ∙ c.loop-declaration.invariant.kept;
      checks = λ path is. goes_on ms c.loop-declaration.count c.in-Ok-item_visited.more (vs path) (declared_visits f ms path rest) (passed path is) (more path is)
          ∙ ap (λ l. first_failing (visit_checks ms c.loop-declaration.count (declared_visits f ms path l))) (sym front) ∙ c.loop-declaration.invariant.checks path is;
      count = λ path is. ap (λ m. visit_count m (declared_visits f ms path rest)) (more path is) ∙ sym (count_append c.loop-declaration.count (vs path) (declared_visits f ms path rest))
          ∙ ap (λ l. visit_count c.loop-declaration.count (declared_visits f ms path l)) (sym front) ∙ c.loop-declaration.invariant.count path is;
    }

pub visited-returns-clause-same : goal.visited-returns-clause-same
visited-returns-clause-same t c = c.truncate.ensures.items ∙ ap (λ n. take n c.loop-declaration.above.items) (c.len-depth.ensures ∙ c.args.above.now.ok.0) ∙ c.loop-declaration.invariant.kept
