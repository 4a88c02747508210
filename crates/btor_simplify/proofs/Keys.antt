-- What two lines say is distinguished by its order.
use Rattle.std.proofs.Common.{◌≡◌, ℕ, true, List, ap, ◌∙◌, arith}
use Rattle.std.specs.Prelude.{slice_index_or}
use Rattle.std.specs.declared.cmp.Ordering.TheVariants.{Equal}
use Rattle.std.specs.Ordering.{nat_cmp}
use Rattle.std.specs.Cmp.{Equal-is}
use Rattle.std.proofs.lemmas.Cmp.{nat_cmp_total, tied_itself}
use Rattle.std.specs.BTreeMap.{is_at}
use Rattle.std.proofs.lemmas.Map.Lookups.{CmpEqualImpliesEq, exact_unsigned}
use Rattle.btor_tree.specs.declared.args.Arg.{Arg}
use Rattle.btor_tree.specs.declared.lines.LineOp.{LineOp}
use Rattle.btor_tree.specs.Fits.{plain_arg}
use Rattle.btor_tree.specs.LineKeys.{IsShort, arg_cmp}
use Rattle.btor_tree.specs.Sharing.{is_shared}
use Rattle.btor_tree.proofs.Alike.{op_told}
use Rattle.btor_simplify.specs.declared.contents.Content.{Content}
use Rattle.btor_simplify.specs.Contents.{content_of, content_cmp}
use Rattle.btor_tree.proofs.Keyed.{arg_exact, arg_self, by_three, same_lists, then_equal, then_parts}

content_exact : CmpEqualImpliesEq content_cmp
content_exact a b h =
    let p = then_parts (arg_cmp a.first b.first) _ h in
    let q = then_parts (arg_cmp a.second b.second) _ p.1 in
    let r = then_parts (nat_cmp a.number b.number) _ q.1 in
    let s = then_parts (nat_cmp a.kind b.kind) _ r.1 in
    let t = then_parts (nat_cmp a.sort b.sort) _ s.1 in
    let u = then_parts (nat_cmp a.other b.other) _ t.1 in
    let v = then_parts (arg_cmp a.third b.third) (nat_cmp a.count b.count) u.1 in
    ap (λ x. record { first = x; second = a.second; number = a.number; kind = a.kind; sort = a.sort; other = a.other; third = a.third; count = a.count }) (arg_exact a.first b.first p.0)
    ∙ ap (λ x. record { first = b.first; second = x; number = a.number; kind = a.kind; sort = a.sort; other = a.other; third = a.third; count = a.count }) (arg_exact a.second b.second q.0)
    ∙ ap (λ x. record { first = b.first; second = b.second; number = x; kind = a.kind; sort = a.sort; other = a.other; third = a.third; count = a.count }) (exact_unsigned a.number b.number r.0)
    ∙ ap (λ x. record { first = b.first; second = b.second; number = b.number; kind = x; sort = a.sort; other = a.other; third = a.third; count = a.count }) (exact_unsigned a.kind b.kind s.0)
    ∙ ap (λ x. record { first = b.first; second = b.second; number = b.number; kind = b.kind; sort = x; other = a.other; third = a.third; count = a.count }) (exact_unsigned a.sort b.sort t.0)
    ∙ ap (λ x. record { first = b.first; second = b.second; number = b.number; kind = b.kind; sort = b.sort; other = x; third = a.third; count = a.count }) (exact_unsigned a.other b.other u.0)
    ∙ ap (λ x. record { first = b.first; second = b.second; number = b.number; kind = b.kind; sort = b.sort; other = b.other; third = x; count = a.count }) (arg_exact a.third b.third v.0)
    ∙ ap (λ x. record { first = b.first; second = b.second; number = b.number; kind = b.kind; sort = b.sort; other = b.other; third = b.third; count = x }) (exact_unsigned a.count b.count v.1)

content_self : (k : Content) → content_cmp k k ≡ Equal
content_self k =
    then_equal _ _ (arg_self k.first) (then_equal _ _ (arg_self k.second) (then_equal _ _ (tied_itself nat_cmp_total k.number) (then_equal _ _ (tied_itself nat_cmp_total k.kind)
    (then_equal _ _ (tied_itself nat_cmp_total k.sort) (then_equal _ _ (tied_itself nat_cmp_total k.other) (then_equal _ _ (arg_self k.third) (tied_itself nat_cmp_total k.count)))))))

pub at_itself : (k : Content) → is_at (content_cmp k) k ≡ true
at_itself k = (Equal-is (content_cmp k k)).1 (content_self k)

pub at_same : (k q : Content) → is_at (content_cmp k) q ≡ true → k ≡ q
at_same k q h = content_exact k q ((Equal-is (content_cmp k q)).0 h)

-- what says the same has the same word, sort and arguments
pub record IsSame (o : LineOp) (sort : ℕ) (args : List Arg) (p : LineOp) (other : ℕ) (more : List Arg) : Type 0 where
  pub ops : o ≡ p
  pub sorts : sort ≡ other
  pub lists : args ≡ more

pub content_same : (o : LineOp) (sort : ℕ) (args : List Arg) (p : LineOp) (other : ℕ) (more : List Arg) → is_shared o ≡ true → IsShort args → content_of o sort args ≡ content_of p other more → IsSame o sort args p other more
content_same o sort args p other more shared short e =
    record {
      ops = op_told o p shared (ap (λ (c : Content). c.kind) e) (ap (λ (c : Content). c.number) e) (ap (λ (c : Content). c.other) e);
      sorts = ap (λ (c : Content). c.sort) e;
      lists = same_lists args more (plain_arg 0) (ap (λ (c : Content). c.count) e)
          (λ i h. by_three (λ j. slice_index_or args j (plain_arg 0) ≡ slice_index_or more j (plain_arg 0)) (ap (λ (c : Content). c.first) e) (ap (λ (c : Content). c.second) e) (ap (λ (c : Content). c.third) e) i (omega (arith, h, short)));
    }
