use Rattle.std.proofs.Common.{rules, ◌+◌, ◌-◌, ◌%◌, ◌<◌, ◌≤◌, ◌++◌, ◌^◌, drop, refl, ◌∙◌, arith}
use Rattle.std.proofs.lemmas.List.{length-set}
use Rattle.std.specs.Fmt.{decimal}
use Rattle.btor_text.proofs.Digits.{one_more, one_less, last_one, few_digits, one_long}
use Rattle.btor_text.proofs.print.digits_before.Goals as goal

pub loop-rest-init : goal.loop-rest-init
loop-rest-init c =
    record { long = search rules; whole = refl; room = omega (arith, few_digits c.args.n (omega (arith, c.ranges.n.fits))); within = omega arith }

pub loop-rest-preserved : goal.loop-rest-preserved
loop-rest-preserved c =
    let l = c.loop-rest in
    let i = l.invariant in
    let small : l.rest < 2 ^ 32 = omega (arith, l.auto.rest-fits) in
    let many : 10 ≤ l.rest = omega (arith, c.loop-rest-test.true) in
    let some : 1 ≤ l.start = omega (arith, i.room, c.requires.room) in
    record {
      long = length-set l.bytes (l.start - 1) (48 + l.rest % 10) ∙ i.long;
      whole = one_more (decimal c.args.n ++ drop c.args.end c.args.bytes.now) l.rest l.start l.bytes many small some (omega (arith, i.long, i.within, c.requires.within)) i.whole;
      room = one_less l.rest l.start c.args.end many small i.room c.requires.room;
      within = omega (arith, i.within);
    }

pub returns-clause-digits : goal.returns-clause-digits
returns-clause-digits c =
    let l = c.loop-rest in
    let i = l.invariant in
    last_one (decimal c.args.n ++ drop c.args.end c.args.bytes.now) l.rest l.start l.bytes (omega (arith, c.loop-rest-test.false)) (omega (arith, i.room, c.requires.room)) (omega (arith, i.long, i.within, c.requires.within)) i.whole

pub returns-clause-few : goal.returns-clause-few
returns-clause-few c = omega (arith, c.loop-rest.invariant.room, c.requires.room, one_long c.loop-rest.rest (omega (arith, c.loop-rest-test.false)))
