use Rattle.std.proofs.Common.{◌≡◌, false, is_some, suc, ◌-◌, Some, None, List, [], ◌∷◌, ◌++◌, refl, sym, ap, ◌∙◌, subst, arith, add-one}
use Rattle.std.proofs.lemmas.Result.{err_from_is_err_and}
use Rattle.smv_text.specs.declared.token.Sign.TheVariants as sign
use Rattle.smv_text.specs.declared.operators.Prefix.TheVariants as prefixes
use Rattle.smv_text.specs.Levels.{all_levels}
use Rattle.smv_text.specs.Tree.{prefix, cases, next, branches_of}
use Rattle.smv_text.specs.Grammar.{start}
use Rattle.smv_grammar.specs.declared.listing.Listing.TheVariants.{Arguments, Elements}
use Rattle.smv_grammar.specs.declared.levels.Leader.TheVariants as leader
use Rattle.smv_expressions.specs.Gathered.{read_of, single}
use Rattle.smv_grammar.specs.Ranks.{level_at, tightest}
use Rattle.smv_grammar.specs.Machine.{bare, joined, whole, operand, when, value, signs, bracket, following, listing, condition, result, closing_of, Frame, listed, choice_at, prefix_sign, leader_of, opened, ask, have, signed, open_next, walk}
use Rattle.std.specs.Bool.{OnTrue}
use Rattle.smv_grammar.specs.Reading.{after, waiting}
use Rattle.smv_expressions.specs.Following.{IsOperand, Passes, Follows}
use Rattle.smv_expressions.proofs.Capping.{none_so_far}
use Rattle.smv_expressions.proofs.Keeping.{read_height}
use Rattle.smv_grammar.proofs.Steps.{when_goes, value_goes, bracket_goes, following_goes, condition_goes, result_goes, listing_goes, listing_ends, when_leaves, value_dies, signs_fold, bracket_dies, following_dies, condition_dies, result_dies, listing_dies, chain_goes, operand_goes, signed_goes, open_next_goes, open_call_goes, signed_ends, open_next_dies, open_call_dies, case_more, case_ends}
use Rattle.smv_grammar.proofs.Climbing.{leads_by}
use Rattle.smv_expressions.proofs.Descending.{settles, climbs, beside, first_at, prefix_first, name_leads, none_left, nothing_comes}
use Rattle.smv_expressions.proofs.Following.{follows_err, follows_along, follows_missed, follows_passed, follows_free, collects_ok, collects_err, collects_dead, collects_missed, collects_passed, collects_free}
use Rattle.smv_expressions.proofs.climbing.+read.Goals as goal

pub read-returns-in_err-name_leaf-clause-reads : goal.read-returns-in_err-name_leaf-clause-reads
read-returns-in_err-name_leaf-clause-reads m c =
    let q = c.from_residual in
    let p = err_from_is_err_and q.result q.ensures.1 in
    follows_free _ _ (ask (tightest c.args.levels)) c.args.tokens.now _ p.0 _ p.1 p.2 c.in_err-name_leaf.ensures.free

pub read-returns-then-not-is_first-clause-reads : goal.read-returns-then-not-is_first-clause-reads
read-returns-then-not-is_first-clause-reads m c =
    let n = c.args.levels in
    let x = c.in-Some.token.now in
    let xs = c.in-Some.rest.now in
    let ys = c.args.tokens.now in
    let is : ys ≡ x ∷ xs = c.in-Some.ensures.cases.0 in
    let bytes = c.in-Ident.name in
    let e = c.is_first.ensures in
    let f = c.if-not-is_first.true in
    let no : is_some (after sign.Dot xs) ≡ false = first_of (cc, grind (arith, e, f)) in
    follows_along _ _ (ask (tightest n)) (λ k. have (single x.place bytes) (waiting 0 n x.place k)) ys xs c.climb.result
    (λ k. ap (λ zs. walk zs (ask (tightest n) k)) is ∙ name_leads n c.requires.few x xs k bytes c.in-Ident.is (none_left (after sign.Dot xs) no)) (c.climb.ensures.reads (single x.place bytes) c.in_ok-name_leaf.ensures.made)

pub read-returns-then-put_constant-clause-reads : goal.read-returns-then-put_constant-clause-reads
read-returns-then-put_constant-clause-reads m c =
    let n = c.args.levels in
    let x = c.in-Some.token.now in
    let xs = c.in-Some.rest.now in
    let ys = c.args.tokens.now in
    let is : ys ≡ x ∷ xs = c.in-Some.ensures.cases.0 in
    let f : IsOperand x xs (read_of c.put_constant.new.kept) = subst (λ b. OnTrue b (IsOperand x xs (read_of c.put_constant.new.kept))) c.if-put_constant.true c.put_constant.ensures in
    follows_along _ _ (ask (tightest n)) (λ k. have f.tree (waiting 0 n x.place k)) ys xs c.climb-then-put_constant.result
    (λ k. ap (λ zs. walk zs (ask (tightest n) k)) is ∙ f.leads n c.requires.few k) (c.climb-then-put_constant.ensures.reads f.tree f.kept)

pub climb-returns-then-rank-level-clause-reads : goal.climb-returns-then-rank-level-clause-reads
climb-returns-then-rank-level-clause-reads m c t h =
    let n = c.args.levels in
    let rank = c.first_rank-rank.result in
    record {
      tree = t;
      kept = h;
      leads = λ k. settles c.args.level n c.args.place k t c.args.tokens.now c.requires.few (λ i low high same. beside c.args.level n rank c.then-rank-level.either i low high (c.first_rank-rank.ensures ∙ same));
    }

pub ascend-returns-then-rank-below-clause-reads : goal.ascend-returns-then-rank-below-clause-reads
ascend-returns-then-rank-below-clause-reads m c t h =
    let l = c.loop-below in
    let f = l.invariant.reads t h in
    let n = c.args.levels in
    let rank = c.first_rank-rank.result in
    record {
      tree = f.tree;
      kept = f.kept;
      leads = λ k. f.leads k ∙ settles l.below n c.args.place k f.tree l.rest.now c.requires.few (λ i low high same. beside l.below n rank c.then-rank-below.either i low high (c.first_rank-rank.ensures ∙ same));
    }

pub ascend-returns-in_err-last-clause-reads : goal.ascend-returns-in_err-last-clause-reads
ascend-returns-in_err-last-clause-reads m c t h =
    let q = c.from_residual in
    let p = err_from_is_err_and q.result q.ensures.1 in
    let l = c.loop-below in
    let f = l.invariant.reads t h in
    let n = c.args.levels in
    let rank = c.first_rank-rank.result in
    let over : rank ≡ suc (rank - 1) = omega arith in
    follows_err _ _ (λ k. have t (waiting c.args.level n c.args.place k)) (λ k. have f.tree (opened (level_at (rank - 1)) (tightest (rank - 1)) c.args.place k)) c.args.tokens.now l.rest.now _ p.0 _ p.1 p.2
    (λ k. (waiting (suc (rank - 1)) n c.args.place k, f.leads k ∙ climbs l.below n (rank - 1) c.args.place k f.tree l.rest.now c.requires.few (omega arith) (omega arith) (sym c.first_rank-rank.ensures ∙ over))) (c.in_err-last.ensures.reads f.tree f.kept)

pub ascend-loop-below-preserved : goal.ascend-loop-below-preserved
ascend-loop-below-preserved m c =
    let l = c.loop-below in
    let n = c.args.levels in
    let rank = c.first_rank-rank.result in
    let over : rank ≡ suc (rank - 1) = omega arith in
    record {
      reads = λ t h.
          let f = l.invariant.reads t h in
          let g = c.in_ok-last.ensures.reads f.tree f.kept in
          record {
            tree = g.tree;
            kept = g.kept;
            leads = λ k. f.leads k ∙ climbs l.below n (rank - 1) c.args.place k f.tree l.rest.now c.requires.few (omega arith) (omega arith) (sym c.first_rank-rank.ensures ∙ over) ∙ g.leads (waiting (suc (rank - 1)) n c.args.place k) ∙ ap (λ i. walk c.in_ok-last.last.now (have g.tree (waiting i n c.args.place k))) (sym over);
          };
      shorter = omega (arith, l.invariant.shorter, c.in_ok-last.ensures.shorter);
    }

pub prefixed-loop-more-preserved : goal.prefixed-loop-more-preserved
prefixed-loop-more-preserved m c =
    let l = c.loop-more in
    let pre = c.args.prefix in
    let b = tightest c.args.below in
    let place = c.args.place in
    let is : after (prefix_sign pre) l.rest.now ≡ Some c.in-Some.more.now = ap (λ s. after s l.rest.now) (sym c.sign_of.ensures) ∙ sym c.in-Some.ensures.found in
    record {
      reads = λ k. l.invariant.reads k ∙ signed_goes k l.rest.now c.in-Some.more.now pre b place l.count is ∙ ap (λ n. walk c.in-Some.more.now (signed pre b place n k)) (sym (add-one l.count));
      some = omega arith;
      counted = omega (arith, l.invariant.counted, c.in-Some.ensures.shorter);
    }

pub prefixed-read-requires : goal.prefixed-read-requires
prefixed-read-requires m c =
    (omega (arith, c.loop-more.invariant.counted, c.loop-more.invariant.some, c.decreases), (omega arith, omega (arith, c.loop-more.invariant.counted, c.loop-more.invariant.some)))

pub prefixed-returns-in_err-last-clause-reads : goal.prefixed-returns-in_err-last-clause-reads
prefixed-returns-in_err-last-clause-reads m c =
    let q = c.from_residual in
    let p = err_from_is_err_and q.result q.ensures.1 in
    let l = c.loop-more in
    let pre = c.args.prefix in
    let b = tightest c.args.below in
    let place = c.args.place in
    let none : after (prefix_sign pre) l.rest.now ≡ None = ap (λ s. after s l.rest.now) (sym c.sign_of.ensures) ∙ sym c.in_default.ensures.found in
    follows_err _ _ (signed pre b place 1) (ask b) c.args.tokens.now l.rest.now _ p.0 _ p.1 p.2 (λ k. (signs pre b place l.count ∷ k, l.invariant.reads k ∙ signed_ends k l.rest.now pre b place l.count none)) c.in_err-last.ensures.reads

pub prefixed-returns-in_err-prefixed-clause-reads : goal.prefixed-returns-in_err-prefixed-clause-reads
prefixed-returns-in_err-prefixed-clause-reads m c =
    let q = c.from_residual-in_err-prefixed in
    let p = err_from_is_err_and q.result q.ensures.1 in
    follows_free _ _ (signed c.args.prefix (tightest c.args.below) c.args.place 1) c.args.tokens.now _ p.0 _ p.1 p.2 c.in_err-prefixed.ensures.free

pub prefixed-returns-clause-reads : goal.prefixed-returns-clause-reads
prefixed-returns-clause-reads m c =
    let l = c.loop-more in
    let pre = c.args.prefix in
    let b = tightest c.args.below in
    let place = c.args.place in
    let none : after (prefix_sign pre) l.rest.now ≡ None = ap (λ s. after s l.rest.now) (sym c.sign_of.ensures) ∙ sym c.in_default.ensures.found in
    let o = c.in_ok-last.ensures.reads in
    record {
      tree = prefix place pre l.count o.tree;
      kept = c.in_ok-prefixed.ensures.made o.tree o.kept;
      leads = λ k. l.invariant.reads k ∙ signed_ends k l.rest.now pre b place l.count none ∙ o.leads _ ∙ signs_fold k o.tree c.in_ok-last.last.now pre b place l.count;
    }

pub prefixed-returns-clause-shorter : goal.prefixed-returns-clause-shorter
prefixed-returns-clause-shorter m c =
    omega (arith, c.loop-more.invariant.counted, c.loop-more.invariant.some, c.in_ok-last.ensures.shorter)

pub following-returns-in_err-rest-clause-reads : goal.following-returns-in_err-rest-clause-reads
following-returns-in_err-rest-clause-reads m c =
    let q = c.from_residual in
    let p = err_from_is_err_and q.result q.ensures.1 in
    let xs = c.args.tokens.now in
    let place = c.args.place in
    follows_missed _ _ (open_next place) xs xs sign.Open _ p.0 _ p.1 p.2 (λ k none. open_next_dies k xs place none) c.in_err-rest.ensures.passes

pub following-returns-in_err-closing-clause-reads : goal.following-returns-in_err-closing-clause-reads
following-returns-in_err-closing-clause-reads m c =
    let q = c.from_residual-in_err-closing in
    let p = err_from_is_err_and q.result q.ensures.1 in
    let xs = c.args.tokens.now in
    let place = c.args.place in
    follows_err _ _ (open_next place) (ask all_levels) xs c.in_ok-rest.rest.now _ p.0 _ p.1 p.2 (λ k. (following place ∷ k, open_next_goes k xs c.in_ok-rest.rest.now place c.in_ok-rest.ensures.passes)) c.in_err-closing.ensures.reads

pub following-returns-in_err-last-clause-reads : goal.following-returns-in_err-last-clause-reads
following-returns-in_err-last-clause-reads m c =
    let q = c.from_residual-in_err-last in
    let p = err_from_is_err_and q.result q.ensures.1 in
    let xs = c.args.tokens.now in
    let place = c.args.place in
    let a = c.in_ok-closing.ensures.reads in
    let closing = c.in_ok-closing.closing.now in
    follows_missed _ _ (open_next place) xs closing sign.Close _ p.0 _ p.1 p.2 (λ k none. open_next_goes k xs c.in_ok-rest.rest.now place c.in_ok-rest.ensures.passes ∙ a.leads _ ∙ following_dies k a.tree closing place none) c.in_err-last.ensures.passes

pub following-returns-in_err-next_value-clause-reads : goal.following-returns-in_err-next_value-clause-reads
following-returns-in_err-next_value-clause-reads m c =
    let q = c.from_residual-in_err-next_value in
    let p = err_from_is_err_and q.result q.ensures.1 in
    follows_free _ _ (open_next c.args.place) c.args.tokens.now _ p.0 _ p.1 p.2 c.in_err-next_value.ensures.free

pub following-returns-clause-reads : goal.following-returns-clause-reads
following-returns-clause-reads m c =
    let xs = c.args.tokens.now in
    let place = c.args.place in
    let a = c.in_ok-closing.ensures.reads in
    let closing = c.in_ok-closing.closing.now in
    record {
      tree = next place a.tree;
      kept = c.in_ok-next_value.ensures.made a.tree a.kept;
      leads = λ k. open_next_goes k xs c.in_ok-rest.rest.now place c.in_ok-rest.ensures.passes ∙ a.leads _ ∙ following_goes k a.tree closing c.in_ok-last.last.now place c.in_ok-last.ensures.passes;
    }

pub read-returns-in_err-rest-clause-reads : goal.read-returns-in_err-rest-clause-reads
read-returns-in_err-rest-clause-reads m c =
    let q = c.from_residual-in_err-rest in
    let p = err_from_is_err_and q.result q.ensures.1 in
    let n = c.args.levels in
    let l = c.first_level-level.result in
    let xs = c.args.tokens.now in
    let f = first_at n c.requires.few xs l c.first_level-level.ensures in
    follows_err _ _ (ask (tightest n)) (ask (tightest l)) xs xs _ p.0 _ p.1 p.2 (λ k. (waiting l n (start xs) k, f.leads (start xs) refl k)) c.in_err-rest.ensures.reads

pub read-begin-requires : goal.read-begin-requires
read-begin-requires m c =
    (omega (arith, c.decreases), ((first_at c.args.levels c.requires.few c.args.tokens.now c.first_level-level.result c.first_level-level.ensures).begins, omega arith))

pub read-returns-clause-reads : goal.read-returns-clause-reads
read-returns-clause-reads m c =
    let n = c.args.levels in
    let l = c.first_level-level.result in
    let xs = c.args.tokens.now in
    let f = first_at n c.requires.few xs l c.first_level-level.ensures in
    let o = c.in_ok-rest.ensures.reads in
    follows_along _ _ (ask (tightest n)) (λ k. have o.tree (waiting l n c.start.result k)) xs c.in_ok-rest.rest.now c.climb-2.result
    (λ k. f.leads c.start.result c.start.ensures k ∙ o.leads _) (c.climb-2.ensures.reads o.tree o.kept)

pub begin-returns-in-None-clause-reads : goal.begin-returns-in-None-clause-reads
begin-returns-in-None-clause-reads t c k =
    let none : c.args.tokens.now ≡ [] = none_so_far _ c.in-None.ensures.cases in
    ap (λ zs. walk zs (ask (tightest c.args.level) k)) none ∙ nothing_comes (tightest c.args.level) k

pub chain-returns-in_err-rest-clause-reads : goal.chain-returns-in_err-rest-clause-reads
chain-returns-in_err-rest-clause-reads m c t h =
    let q = c.from_residual in
    let p = err_from_is_err_and q.result q.ensures.1 in
    let from = λ (k : List Frame). have t (operand c.args.class (tightest c.args.below) c.args.place bare ∷ k) in
    let none = c.new-operands.ensures t (read_height c.args.kept.now t h) in
    follows_err _ _ from from c.args.tokens.now c.args.tokens.now _ p.0 _ p.1 p.2 (λ k. (k, refl)) (collects_err _ _ _ _ _ _ _ c.in_err-rest.was (c.gather_operands-answer.ensures.reads c.args.place t none))

pub chain-returns-clause-reads : goal.chain-returns-clause-reads
chain-returns-clause-reads m c t h =
    let none = c.new-operands.ensures t (read_height c.args.kept.now t h) in
    let g = collects_ok _ _ _ _ _ _ _ c.in_ok-rest.was (c.gather_operands-answer.ensures.reads c.args.place t none) in
    record {
      tree = whole c.args.place (record { first = t; links = g.parts });
      kept = c.in_ok-chain.ensures.made t g.parts g.gathered h;
      leads = g.leads;
    }

pub chain-returns-in_err-chain-clause-reads : goal.chain-returns-in_err-chain-clause-reads
chain-returns-in_err-chain-clause-reads m c t h =
    let q = c.from_residual-in_err-chain in
    let p = err_from_is_err_and q.result q.ensures.1 in
    follows_free _ _ (λ k. have t (operand c.args.class (tightest c.args.below) c.args.place bare ∷ k)) c.args.tokens.now _ p.0 _ p.1 p.2 c.in_err-chain.ensures.free

pub gather_operands-loop-op-init : goal.gather_operands-loop-op-init
gather_operands-loop-op-init m c =
    let j = c.args.class in
    let below = tightest c.args.below in
    record {
      reads = λ p t o. ([], o, λ k. operand_goes k below j p bare t c.args.tokens.now);
      shorter = omega arith;
    }

pub gather_operands-loop-op-preserved : goal.gather_operands-loop-op-preserved
gather_operands-loop-op-preserved m c =
    let j = c.args.class in
    let below = tightest c.args.below in
    let l = c.loop-op in
    let op = c.in-Some.op in
    let o = c.in_ok-last.ensures.reads in
    record {
      reads = λ p t none.
          let i = l.invariant.reads p t none in (
            i.0 ++ (op, o.tree) ∷ [],
            c.in_ok-push.ensures.made t i.0 o.tree i.1 (ap read_of c.taken.ensures ∙ o.kept),
            λ k. i.2 k ∙ ap (chain_goes j below p (record { first = t; links = i.0 }) k l.rest.now) (sym c.in-Some.ensures.found) ∙ o.leads _
                ∙ operand_goes k below j p (joined (record { first = t; links = i.0 }) op) o.tree c.in_ok-last.last.now,
          );
      shorter = omega (arith, l.invariant.shorter, c.in-Some.ensures.shorter, c.in_ok-last.ensures.shorter);
    }

pub gather_operands-returns-in_err-push-clause-reads : goal.gather_operands-returns-in_err-push-clause-reads
gather_operands-returns-in_err-push-clause-reads m c p t none =
    let q = c.from_residual-in_err-push in
    let e = err_from_is_err_and q.result q.ensures.1 in
    collects_free _ _ _ _ _ _ e.0 _ e.1 e.2 c.in_err-push.ensures.free

pub gather_operands-returns-in_err-last-clause-reads : goal.gather_operands-returns-in_err-last-clause-reads
gather_operands-returns-in_err-last-clause-reads m c p t none =
    let q = c.from_residual in
    let e = err_from_is_err_and q.result q.ensures.1 in
    let j = c.args.class in
    let below = tightest c.args.below in
    let l = c.loop-op in
    let i = l.invariant.reads p t none in
    collects_dead _ _ _ (λ k. have t (operand j below p bare ∷ k)) (ask below) c.args.tokens.now c.in-Some.more.now _ e.0 _ e.1 e.2
    (λ k. (operand j below p (joined (record { first = t; links = i.0 }) c.in-Some.op) ∷ k, i.2 k ∙ ap (chain_goes j below p (record { first = t; links = i.0 }) k l.rest.now) (sym c.in-Some.ensures.found)))
    c.in_err-last.ensures.reads

pub gather_operands-returns-clause-reads : goal.gather_operands-returns-clause-reads
gather_operands-returns-clause-reads m c p t none =
    let j = c.args.class in
    let below = tightest c.args.below in
    let l = c.loop-op in
    let i = l.invariant.reads p t none in
    record {
      parts = i.0;
      gathered = i.1;
      leads = λ k. i.2 k ∙ ap (chain_goes j below p (record { first = t; links = i.0 }) k l.rest.now) (sym c.in_default.ensures.found);
    }

pub choice-returns-in_err-rest-clause-reads : goal.choice-returns-in_err-rest-clause-reads
choice-returns-in_err-rest-clause-reads m c t h =
    let q = c.from_residual in
    let p = err_from_is_err_and q.result q.ensures.1 in
    let from = λ (k : List Frame). have t (when (tightest c.args.below) c.args.place [] ∷ k) in
    follows_err _ _ from from c.args.tokens.now c.args.tokens.now _ p.0 _ p.1 p.2 (λ k. (k, refl)) (collects_err _ _ _ _ _ _ _ c.in_err-rest.was (c.gather_choices-answer.ensures.reads c.args.place t c.new-branches.ensures h))

pub choice-returns-in_err-choice-clause-reads : goal.choice-returns-in_err-choice-clause-reads
choice-returns-in_err-choice-clause-reads m c t h =
    let q = c.from_residual-in_err-choice in
    let p = err_from_is_err_and q.result q.ensures.1 in
    follows_free _ _ (λ k. have t (when (tightest c.args.below) c.args.place [] ∷ k)) c.args.tokens.now _ p.0 _ p.1 p.2 c.in_err-choice.ensures.free

pub choice-returns-clause-reads : goal.choice-returns-clause-reads
choice-returns-clause-reads m c t h =
    let g = collects_ok _ _ _ _ _ _ _ c.in_ok-rest.was (c.gather_choices-answer.ensures.reads c.args.place t c.new-branches.ensures h) in
    record {
      tree = choice_at c.args.place (branches_of g.parts.0) g.parts.1;
      kept = c.in_ok-choice.ensures.made g.parts.0 g.parts.1 g.gathered.0 g.gathered.1;
      leads = g.leads;
    }

pub gather_choices-loop-more-init : goal.gather_choices-loop-more-init
gather_choices-loop-more-init m c = record {
  reads = λ p t none h. ([], none, record { tree = t; kept = h; leads = λ k. refl });
  shorter = omega arith;
}

pub gather_choices-returns-in_err-next-clause-reads : goal.gather_choices-returns-in_err-next-clause-reads
gather_choices-returns-in_err-next-clause-reads m c place t none h =
    let q = c.from_residual in
    let p = err_from_is_err_and q.result q.ensures.1 in
    let l = c.loop-more in
    let b = tightest c.args.below in
    let i = l.invariant.reads place t none h in
    let bs = i.0 in
    let f = i.2 in
    collects_dead _ _ _ (λ k. have t (when b place [] ∷ k)) (ask b) c.args.tokens.now c.in-Some.more.now _ p.0 _ p.1 p.2
    (λ k. (value b place bs f.tree ∷ k, f.leads k ∙ when_goes k f.tree l.rest.now c.in-Some.more.now b place bs (sym c.in-Some.ensures.found))) c.in_err-next.ensures.reads

pub gather_choices-returns-in_err-behind-clause-reads : goal.gather_choices-returns-in_err-behind-clause-reads
gather_choices-returns-in_err-behind-clause-reads m c place t none h =
    let q = c.from_residual-in_err-behind in
    let p = err_from_is_err_and q.result q.ensures.1 in
    let l = c.loop-more in
    let b = tightest c.args.below in
    let i = l.invariant.reads place t none h in
    let bs = i.0 in
    let f = i.2 in
    let v = c.in_ok-next.ensures.reads in
    let next = c.in_ok-next.next.now in
    collects_missed _ _ _ (λ k. have t (when b place [] ∷ k)) c.args.tokens.now next sign.Colon _ p.0 _ p.1 p.2
    (λ k none. f.leads k ∙ when_goes k f.tree l.rest.now c.in-Some.more.now b place bs (sym c.in-Some.ensures.found) ∙ v.leads _ ∙ value_dies k v.tree next b place bs f.tree none) c.in_err-behind.ensures.passes

pub gather_choices-returns-in_err-push-clause-reads : goal.gather_choices-returns-in_err-push-clause-reads
gather_choices-returns-in_err-push-clause-reads m c place t none h =
    let q = c.from_residual-in_err-push in
    let p = err_from_is_err_and q.result q.ensures.1 in
    collects_free _ _ _ _ _ _ p.0 _ p.1 p.2 c.in_err-push.ensures.free

pub gather_choices-returns-in_err-end-clause-reads : goal.gather_choices-returns-in_err-end-clause-reads
gather_choices-returns-in_err-end-clause-reads m c place t none h =
    let q = c.from_residual-in_err-end in
    let p = err_from_is_err_and q.result q.ensures.1 in
    let l = c.loop-more in
    let b = tightest c.args.below in
    let i = l.invariant.reads place t none h in
    let bs = i.0 in
    let f = i.2 in
    let v = c.in_ok-next.ensures.reads in
    let next = c.in_ok-next.next.now in
    let behind = c.in_ok-behind.behind.now in
    collects_dead _ _ _ (λ k. have t (when b place [] ∷ k)) (ask b) c.args.tokens.now behind _ p.0 _ p.1 p.2
    (λ k. (when b place (bs ++ (f.tree, v.tree) ∷ []) ∷ k, f.leads k ∙ when_goes k f.tree l.rest.now c.in-Some.more.now b place bs (sym c.in-Some.ensures.found) ∙ v.leads _ ∙ value_goes k v.tree next behind b place bs f.tree c.in_ok-behind.ensures.passes)) c.in_err-end.ensures.reads

pub gather_choices-loop-more-preserved : goal.gather_choices-loop-more-preserved
gather_choices-loop-more-preserved m c =
    let l = c.loop-more in
    let b = tightest c.args.below in
    let v = c.in_ok-next.ensures.reads in
    let next = c.in_ok-next.next.now in
    let o = c.in_ok-end.ensures.reads in
    record {
      reads = λ place t none h.
          let i = l.invariant.reads place t none h in
          let bs = i.0 in
          let f = i.2 in (
            bs ++ (f.tree, v.tree) ∷ [],
            c.in_ok-push.ensures.made bs f.tree v.tree i.1 (ap read_of c.taken.ensures ∙ f.kept) (ap read_of c.taken-in-Some.ensures ∙ v.kept),
            record {
              tree = o.tree;
              kept = o.kept;
              leads = λ k. f.leads k ∙ when_goes k f.tree l.rest.now c.in-Some.more.now b place bs (sym c.in-Some.ensures.found) ∙ v.leads _ ∙ value_goes k v.tree next c.in_ok-behind.behind.now b place bs f.tree c.in_ok-behind.ensures.passes ∙ o.leads _;
            },
          );
      shorter = omega (arith, l.invariant.shorter, c.in-Some.ensures.shorter, c.in_ok-next.ensures.shorter, c.in_ok-behind.ensures.shorter, c.in_ok-end.ensures.shorter);
    }

pub gather_choices-loop-more-smaller : goal.gather_choices-loop-more-smaller
gather_choices-loop-more-smaller m c =
    omega (arith, c.in-Some.ensures.shorter, c.in_ok-next.ensures.shorter, c.in_ok-behind.ensures.shorter, c.in_ok-end.ensures.shorter)

pub gather_choices-returns-clause-reads : goal.gather_choices-returns-clause-reads
gather_choices-returns-clause-reads m c place t none h =
    let l = c.loop-more in
    let b = tightest c.args.below in
    let i = l.invariant.reads place t none h in
    let bs = i.0 in
    let f = i.2 in
    record {
      parts = (bs, f.tree);
      gathered = (i.1, f.kept);
      leads = λ k. f.leads k ∙ when_leaves k f.tree l.rest.now b place bs (sym c.in_default.ensures.found);
    }

pub begin-range-requires-clause-starts : goal.begin-range-requires-clause-starts
begin-range-requires-clause-starts m c = c.requires.begins.range c.if-level-eq8.true

pub begin-returns-then-level-eq8-clause-reads : goal.begin-returns-then-level-eq8-clause-reads
begin-returns-then-level-eq8-clause-reads m c =
    subst (λ l. Follows (λ r. (read_of c.range.new.kept, r.now)) (ask (tightest l)) c.args.tokens.now c.range.result) (sym c.if-level-eq8.true) c.range.ensures.reads

pub begin-returns-then-level-eq4-clause-reads : goal.begin-returns-then-level-eq4-clause-reads
begin-returns-then-level-eq4-clause-reads m c =
    let x = c.in-Some.token.now in
    let xs = c.in-Some.rest.now in
    let ys = c.args.tokens.now in
    let is : ys ≡ x ∷ xs = c.in-Some.ensures.cases.0 in
    let e = c.if-level-eq4.true in
    follows_along _ _ (ask (tightest c.args.level)) (signed prefixes.Minus (tightest 3) x.place 1) ys xs c.prefixed.result
    (λ k. ap (λ l. walk ys (ask (tightest l) k)) e ∙ prefix_first prefixes.Minus (tightest 3) ys x xs is (c.requires.begins.minus e) k) c.prefixed.ensures.reads

pub begin-returns-then-level-eq2-clause-reads : goal.begin-returns-then-level-eq2-clause-reads
begin-returns-then-level-eq2-clause-reads m c =
    let x = c.in-Some.token.now in
    let xs = c.in-Some.rest.now in
    let ys = c.args.tokens.now in
    let is : ys ≡ x ∷ xs = c.in-Some.ensures.cases.0 in
    let e = c.if-level-eq2.true in
    follows_along _ _ (ask (tightest c.args.level)) (signed prefixes.Not (tightest 1) x.place 1) ys xs c.prefixed-then-level-eq2.result
    (λ k. ap (λ l. walk ys (ask (tightest l) k)) e ∙ prefix_first prefixes.Not (tightest 1) ys x xs is (c.requires.begins.negation e) k) c.prefixed-then-level-eq2.ensures.reads

pub begin-returns-else-level-eq2-clause-reads : goal.begin-returns-else-level-eq2-clause-reads
begin-returns-else-level-eq2-clause-reads m c =
    let none = c.requires.begins.below c.if-level-eq8.false c.if-level-eq4.false c.if-level-eq2.false in
    subst (λ l. Follows (λ r. (read_of c.primary.new.kept, r.now)) (ask (tightest l)) c.args.tokens.now c.primary.result) (sym none) c.primary.ensures.reads

pub primary-returns-in-None-clause-reads : goal.primary-returns-in-None-clause-reads
primary-returns-in-None-clause-reads m c k =
    let none : c.args.tokens.now ≡ [] = none_so_far _ c.in-None.ensures.cases in
    ap (λ zs. walk zs (ask [] k)) none ∙ nothing_comes [] k

pub primary-returns-in_err-closing-in-Bracket-clause-reads : goal.primary-returns-in_err-closing-in-Bracket-clause-reads
primary-returns-in_err-closing-in-Bracket-clause-reads m c =
    let q = c.from_residual in
    let p = err_from_is_err_and q.result q.ensures.1 in
    let x = c.in-Some.token.now in
    let xs = c.in-Some.rest.now in
    let ys = c.args.tokens.now in
    let is : ys ≡ x ∷ xs = c.in-Some.ensures.cases.0 in
    let by : leader.Bracket ≡ leader_of x.kind = sym c.in-Bracket.is ∙ c.leader_of.ensures in
    follows_err _ _ (ask []) (ask all_levels) ys xs _ p.0 _ p.1 p.2 (λ k. (bracket ∷ k, ap (λ zs. walk zs (ask [] k)) is ∙ leads_by k x xs (leader.Bracket) by)) c.in_err-closing-in-Bracket.ensures.reads

pub primary-returns-in-Set-clause-reads : goal.primary-returns-in-Set-clause-reads
primary-returns-in-Set-clause-reads m c =
    let x = c.in-Some.token.now in
    let xs = c.in-Some.rest.now in
    let ys = c.args.tokens.now in
    let is : ys ≡ x ∷ xs = c.in-Some.ensures.cases.0 in
    let by : leader.Set ≡ leader_of x.kind = sym c.in-Set.is ∙ c.leader_of.ensures in
    follows_along _ _ (ask []) (λ k. ask all_levels (listing x.place Elements [] ∷ k)) ys xs c.listed.result (λ k. ap (λ zs. walk zs (ask [] k)) is ∙ leads_by k x xs (leader.Set) by) c.listed.ensures.reads

pub primary-returns-in-Next-clause-reads : goal.primary-returns-in-Next-clause-reads
primary-returns-in-Next-clause-reads m c =
    let x = c.in-Some.token.now in
    let xs = c.in-Some.rest.now in
    let ys = c.args.tokens.now in
    let is : ys ≡ x ∷ xs = c.in-Some.ensures.cases.0 in
    let by : leader.Next ≡ leader_of x.kind = sym c.in-Next.is ∙ c.leader_of.ensures in
    follows_along _ _ (ask []) (open_next x.place) ys xs c.following.result (λ k. ap (λ zs. walk zs (ask [] k)) is ∙ leads_by k x xs (leader.Next) by) c.following.ensures.reads

pub primary-returns-in-Case-clause-reads : goal.primary-returns-in-Case-clause-reads
primary-returns-in-Case-clause-reads m c =
    let x = c.in-Some.token.now in
    let xs = c.in-Some.rest.now in
    let ys = c.args.tokens.now in
    let is : ys ≡ x ∷ xs = c.in-Some.ensures.cases.0 in
    let by : leader.Case ≡ leader_of x.kind = sym c.in-Case.is ∙ c.leader_of.ensures in
    follows_along _ _ (ask []) (λ k. ask all_levels (condition x.place [] ∷ k)) ys xs c.cases.result (λ k. ap (λ zs. walk zs (ask [] k)) is ∙ leads_by k x xs (leader.Case) by) c.cases.ensures.reads

pub primary-returns-in_err-more-in-Call-clause-reads : goal.primary-returns-in_err-more-in-Call-clause-reads
primary-returns-in_err-more-in-Call-clause-reads m c =
    let q = c.from_residual-in_err-more-in-Call in
    let p = err_from_is_err_and q.result q.ensures.1 in
    let x = c.in-Some.token.now in
    let xs = c.in-Some.rest.now in
    let ys = c.args.tokens.now in
    let is : ys ≡ x ∷ xs = c.in-Some.ensures.cases.0 in
    let g = c.in-Call.function in
    let by : leader.Call g ≡ leader_of x.kind = sym c.in-Call.is ∙ c.leader_of.ensures in
    follows_missed _ _ (ask []) ys xs sign.Open _ p.0 _ p.1 p.2 (λ k none. ap (λ zs. walk zs (ask [] k)) is ∙ leads_by k x xs (leader.Call g) by ∙ open_call_dies k xs x.place g none) c.in_err-more-in-Call.ensures.passes

pub primary-returns-in_ok-more-in-Call-clause-reads : goal.primary-returns-in_ok-more-in-Call-clause-reads
primary-returns-in_ok-more-in-Call-clause-reads m c =
    let x = c.in-Some.token.now in
    let xs = c.in-Some.rest.now in
    let ys = c.args.tokens.now in
    let is : ys ≡ x ∷ xs = c.in-Some.ensures.cases.0 in
    let g = c.in-Call.function in
    let by : leader.Call g ≡ leader_of x.kind = sym c.in-Call.is ∙ c.leader_of.ensures in
    let more = c.in_ok-more-in-Call.more.now in
    follows_along _ _ (ask []) (λ k. ask all_levels (listing x.place (Arguments g) [] ∷ k)) ys more c.listed-in-Call.result (λ k. ap (λ zs. walk zs (ask [] k)) is ∙ leads_by k x xs (leader.Call g) by ∙ open_call_goes k xs more x.place g c.in_ok-more-in-Call.ensures.passes) c.listed-in-Call.ensures.reads

pub primary-returns-in_ok-closing-in-Bracket-clause-reads : goal.primary-returns-in_ok-closing-in-Bracket-clause-reads
primary-returns-in_ok-closing-in-Bracket-clause-reads m c =
    let x = c.in-Some.token.now in
    let xs = c.in-Some.rest.now in
    let ys = c.args.tokens.now in
    let is : ys ≡ x ∷ xs = c.in-Some.ensures.cases.0 in
    let by : leader.Bracket ≡ leader_of x.kind = sym c.in-Bracket.is ∙ c.leader_of.ensures in
    let f = c.in_ok-closing-in-Bracket.ensures.reads in
    let closing = c.in_ok-closing-in-Bracket.closing.now in
    follows_passed _ (ask []) ys closing sign.Close _ f.tree (λ _. f.kept)
    (λ k rest is_close. ap (λ zs. walk zs (ask [] k)) is ∙ leads_by k x xs (leader.Bracket) by ∙ f.leads _ ∙ bracket_goes k f.tree closing rest is_close)
    (λ k none. ap (λ zs. walk zs (ask [] k)) is ∙ leads_by k x xs (leader.Bracket) by ∙ f.leads _ ∙ bracket_dies k f.tree closing none) c.expect.ensures.passes

pub listed-returns-in_err-rest-clause-reads : goal.listed-returns-in_err-rest-clause-reads
listed-returns-in_err-rest-clause-reads m c =
    let q = c.from_residual in
    let p = err_from_is_err_and q.result q.ensures.1 in
    let from = λ (k : List Frame). ask all_levels (listing c.args.place c.args.what [] ∷ k) in
    follows_err _ _ from from c.args.tokens.now c.args.tokens.now _ p.0 _ p.1 p.2 (λ k. (k, refl)) (c.in_err-rest.ensures.reads c.args.place c.new-members.ensures)

pub listed-returns-clause-reads : goal.listed-returns-clause-reads
listed-returns-clause-reads m c =
    let g = c.in_ok-rest.ensures.reads c.args.place c.new-members.ensures in
    record {
      tree = listed c.args.place c.args.what g.parts;
      kept = c.put.ensures g.parts g.gathered;
      leads = g.leads;
    }

pub gather_members-loop-more-init : goal.gather_members-loop-more-init
gather_members-loop-more-init m c = record {
  reads = λ p none. ([], none, λ k. refl);
  shorter = omega arith;
}

pub gather_members-returns-in_err-more-clause-reads : goal.gather_members-returns-in_err-more-clause-reads
gather_members-returns-in_err-more-clause-reads m c place none =
    let q = c.from_residual in
    let p = err_from_is_err_and q.result q.ensures.1 in
    let what = c.args.what in
    let i = c.loop-more.invariant.reads place none in
    collects_dead _ _ _ (λ k. ask all_levels (listing place what [] ∷ k)) (ask all_levels) c.args.tokens.now c.loop-more.rest.now _ p.0 _ p.1 p.2 (λ k. (listing place what i.0 ∷ k, i.2 k)) c.in_err-more.ensures.reads

pub gather_members-returns-in_err-push-clause-reads : goal.gather_members-returns-in_err-push-clause-reads
gather_members-returns-in_err-push-clause-reads m c place none =
    let q = c.from_residual-in_err-push in
    let p = err_from_is_err_and q.result q.ensures.1 in
    collects_free _ _ _ _ _ _ p.0 _ p.1 p.2 c.in_err-push.ensures.free

pub gather_members-loop-more-preserved : goal.gather_members-loop-more-preserved
gather_members-loop-more-preserved m c =
    let l = c.loop-more in
    let what = c.args.what in
    let f = c.in_ok-more.ensures.reads in
    let more = c.in_ok-more.more.now in
    record {
      reads = λ place none.
          let i = l.invariant.reads place none in
          let ts = i.0 in (
            ts ++ f.tree ∷ [],
            c.in_ok-push.ensures.made ts f.tree i.1 (ap read_of c.taken.ensures ∙ f.kept),
            λ k. i.2 k ∙ f.leads _ ∙ listing_goes k f.tree more c.in-Some.next.now place what ts (sym c.in-Some.ensures.found),
          );
      shorter = omega (arith, l.invariant.shorter, c.in_ok-more.ensures.shorter, c.in-Some.ensures.shorter);
    }

pub gather_members-returns-in-None-clause-reads : goal.gather_members-returns-in-None-clause-reads
gather_members-returns-in-None-clause-reads m c place none =
    let what = c.args.what in
    let i = c.loop-more.invariant.reads place none in
    let ts = i.0 in
    let f = c.in_ok-more.ensures.reads in
    let more = c.in_ok-more.more.now in
    let passes = subst (λ s. Passes (λ r. r.now) c.expect.result s more) c.closing_of.ensures c.expect.ensures.passes in
    collects_passed _ (listed place what) _ (λ k. ask all_levels (listing place what [] ∷ k)) c.args.tokens.now more (closing_of what) c.expect.result (ts ++ f.tree ∷ [])
    (c.in_ok-push.ensures.made ts f.tree i.1 (ap read_of c.taken.ensures ∙ f.kept))
    (λ k rest is. i.2 k ∙ f.leads _ ∙ listing_ends k f.tree more rest place what ts (sym c.in-None.ensures.found) is)
    (λ k no. i.2 k ∙ f.leads _ ∙ listing_dies k f.tree more place what ts (sym c.in-None.ensures.found) no) passes

pub cases-returns-in_err-rest-clause-reads : goal.cases-returns-in_err-rest-clause-reads
cases-returns-in_err-rest-clause-reads m c =
    let q = c.from_residual in
    let p = err_from_is_err_and q.result q.ensures.1 in
    let from = λ (k : List Frame). ask all_levels (condition c.args.place [] ∷ k) in
    follows_err _ _ from from c.args.tokens.now c.args.tokens.now _ p.0 _ p.1 p.2 (λ k. (k, refl)) (collects_err _ _ _ _ _ _ _ c.in_err-rest.was (c.gather_cases-answer.ensures.reads c.args.place c.new-branches.ensures))

pub cases-returns-clause-reads : goal.cases-returns-clause-reads
cases-returns-clause-reads m c =
    let g = collects_ok _ _ _ _ _ _ _ c.in_ok-rest.was (c.gather_cases-answer.ensures.reads c.args.place c.new-branches.ensures) in
    record {
      tree = cases c.args.place (branches_of g.parts);
      kept = c.case.ensures g.parts g.gathered;
      leads = g.leads;
    }

pub gather_cases-loop-more-init : goal.gather_cases-loop-more-init
gather_cases-loop-more-init m c = record {
  reads = λ p none. ([], none, λ k. refl);
  shorter = omega arith;
}

pub gather_cases-returns-in_err-more-clause-reads : goal.gather_cases-returns-in_err-more-clause-reads
gather_cases-returns-in_err-more-clause-reads m c place none =
    let q = c.from_residual in
    let p = err_from_is_err_and q.result q.ensures.1 in
    let i = c.loop-more.invariant.reads place none in
    collects_dead _ _ _ (λ k. ask all_levels (condition place [] ∷ k)) (ask all_levels) c.args.tokens.now c.loop-more.rest.now _ p.0 _ p.1 p.2 (λ k. (condition place i.0 ∷ k, i.2 k)) c.in_err-more.ensures.reads

pub gather_cases-returns-in_err-behind-clause-reads : goal.gather_cases-returns-in_err-behind-clause-reads
gather_cases-returns-in_err-behind-clause-reads m c place none =
    let q = c.from_residual-in_err-behind in
    let p = err_from_is_err_and q.result q.ensures.1 in
    let i = c.loop-more.invariant.reads place none in
    let w = c.in_ok-more.ensures.reads in
    let more = c.in_ok-more.more.now in
    collects_missed _ _ _ (λ k. ask all_levels (condition place [] ∷ k)) c.args.tokens.now more sign.Colon _ p.0 _ p.1 p.2 (λ k no. i.2 k ∙ w.leads _ ∙ condition_dies k w.tree more place i.0 no) c.in_err-behind.ensures.passes

pub gather_cases-returns-in_err-end-clause-reads : goal.gather_cases-returns-in_err-end-clause-reads
gather_cases-returns-in_err-end-clause-reads m c place none =
    let q = c.from_residual-in_err-end in
    let p = err_from_is_err_and q.result q.ensures.1 in
    let i = c.loop-more.invariant.reads place none in
    let w = c.in_ok-more.ensures.reads in
    let more = c.in_ok-more.more.now in
    let behind = c.in_ok-behind.behind.now in
    collects_dead _ _ _ (λ k. ask all_levels (condition place [] ∷ k)) (ask all_levels) c.args.tokens.now behind _ p.0 _ p.1 p.2
    (λ k. (result place i.0 w.tree ∷ k, i.2 k ∙ w.leads _ ∙ condition_goes k w.tree more behind place i.0 c.in_ok-behind.ensures.passes)) c.in_err-end.ensures.reads

pub gather_cases-returns-in_err-last-clause-reads : goal.gather_cases-returns-in_err-last-clause-reads
gather_cases-returns-in_err-last-clause-reads m c place none =
    let q = c.from_residual-in_err-last in
    let p = err_from_is_err_and q.result q.ensures.1 in
    let i = c.loop-more.invariant.reads place none in
    let w = c.in_ok-more.ensures.reads in
    let more = c.in_ok-more.more.now in
    let behind = c.in_ok-behind.behind.now in
    let v = c.in_ok-end.ensures.reads in
    let end = c.in_ok-end.end.now in
    collects_missed _ _ _ (λ k. ask all_levels (condition place [] ∷ k)) c.args.tokens.now end sign.Semicolon _ p.0 _ p.1 p.2
    (λ k no. i.2 k ∙ w.leads _ ∙ condition_goes k w.tree more behind place i.0 c.in_ok-behind.ensures.passes ∙ v.leads _ ∙ result_dies k v.tree end place i.0 w.tree no) c.in_err-last.ensures.passes

pub gather_cases-returns-in_err-push-clause-reads : goal.gather_cases-returns-in_err-push-clause-reads
gather_cases-returns-in_err-push-clause-reads m c place none =
    let q = c.from_residual-in_err-push in
    let p = err_from_is_err_and q.result q.ensures.1 in
    collects_free _ _ _ _ _ _ p.0 _ p.1 p.2 c.in_err-push.ensures.free

pub gather_cases-returns-in-Some-clause-reads : goal.gather_cases-returns-in-Some-clause-reads
gather_cases-returns-in-Some-clause-reads m c place none =
    let i = c.loop-more.invariant.reads place none in
    let bs = i.0 in
    let w = c.in_ok-more.ensures.reads in
    let more = c.in_ok-more.more.now in
    let v = c.in_ok-end.ensures.reads in
    let end = c.in_ok-end.end.now in
    let last = c.in_ok-last.last.now in
    let bs' = bs ++ (w.tree, v.tree) ∷ [] in
    record {
      parts = bs';
      gathered = c.in_ok-push.ensures.made bs w.tree v.tree i.1 (ap read_of c.taken.ensures ∙ w.kept) (ap read_of c.taken-in-loop-more.ensures ∙ v.kept);
      leads = λ k. i.2 k ∙ w.leads _ ∙ condition_goes k w.tree more c.in_ok-behind.behind.now place bs c.in_ok-behind.ensures.passes ∙ v.leads _ ∙ result_goes k v.tree end last place bs w.tree c.in_ok-last.ensures.passes ∙ case_ends k last c.in-Some.done.now place bs' (sym c.in-Some.ensures.found);
    }

pub gather_cases-returns-in-Some-clause-shorter : goal.gather_cases-returns-in-Some-clause-shorter
gather_cases-returns-in-Some-clause-shorter m c =
    omega (arith, c.loop-more.invariant.shorter, c.in_ok-more.ensures.shorter, c.in_ok-behind.ensures.shorter, c.in_ok-end.ensures.shorter, c.in_ok-last.ensures.shorter, c.in-Some.ensures.shorter)

pub gather_cases-loop-more-smaller : goal.gather_cases-loop-more-smaller
gather_cases-loop-more-smaller m c =
    omega (arith, c.in_ok-more.ensures.shorter, c.in_ok-behind.ensures.shorter, c.in_ok-end.ensures.shorter, c.in_ok-last.ensures.shorter)

pub gather_cases-loop-more-preserved : goal.gather_cases-loop-more-preserved
gather_cases-loop-more-preserved m c =
    let l = c.loop-more in
    let w = c.in_ok-more.ensures.reads in
    let more = c.in_ok-more.more.now in
    let v = c.in_ok-end.ensures.reads in
    let end = c.in_ok-end.end.now in
    let last = c.in_ok-last.last.now in
    record {
      reads = λ place none.
          let i = l.invariant.reads place none in
          let bs = i.0 in
          let bs' = bs ++ (w.tree, v.tree) ∷ [] in (
            bs',
            c.in_ok-push.ensures.made bs w.tree v.tree i.1 (ap read_of c.taken.ensures ∙ w.kept) (ap read_of c.taken-in-loop-more.ensures ∙ v.kept),
            λ k. i.2 k ∙ w.leads _ ∙ condition_goes k w.tree more c.in_ok-behind.behind.now place bs c.in_ok-behind.ensures.passes ∙ v.leads _ ∙ result_goes k v.tree end last place bs w.tree c.in_ok-last.ensures.passes ∙ case_more k last place bs' (sym c.in-None.ensures.found),
          );
      shorter = omega (arith, l.invariant.shorter, c.in_ok-more.ensures.shorter, c.in_ok-behind.ensures.shorter, c.in_ok-end.ensures.shorter, c.in_ok-last.ensures.shorter);
    }
