use Rattle.std.proofs.Common.{ℕ, ap, ◌∙◌, sym, arith}
use Rattle.smv_text.specs.declared.operators.Infix.{Infix}
use Rattle.smv_grammar.specs.Kept.{capped}
use Rattle.smv_expressions.proofs.Capping.{length-push, highest_link-push, folded-push, highest_before-push, last_height-push}
use Rattle.smv_expressions.proofs.kept.Heights.with.Goals as goal

pub returns : goal.returns
returns c n ls m h is =
    let l : Infix × ℕ = (c.args.op, m) in
    record {
      number = c.number_with.ensures n m ls h;
      joined = c.is_joined_with.ensures n m ls h;
      implied = c.is_implied_with.ensures n m ls h;
      depth = omega (arith, length-push ls l, c.under-depth.ensures, h.depth);
      highest = omega (arith, highest_link-push n ls l, c.higher.ensures, h.highest);
      folded = omega (arith, folded-push n ls l, c.under.ensures, c.higher-2.ensures, h.folded);
      before = omega (arith, highest_before-push 0 n ls l, c.higher-3.ensures, c.under-2.ensures, c.under-depth.ensures, h.before, h.depth, h.last);
      last = is ∙ ap capped (sym (last_height-push n ls l));
    }
