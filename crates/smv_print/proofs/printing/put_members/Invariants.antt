use Rattle.std.proofs.Common.{◌≡◌, ◌++◌, false, map}
use Rattle.std.specs.Slice.Iter.{iter_rest}
use Rattle.smv_text.specs.declared.token.Sign.TheVariants.{Comma}
use Rattle.smv_lex.specs.Spelling.{spaced}
use Rattle.smv_print.specs.Printing.{parted, member_kinds}
use Rattle.smv_print.proofs.printing.put_members.Given as goal

abbrev pub invariant-loop-member : goal.invariant-loop-member
invariant-loop-member l = l.out ++ spaced (parted Comma l.behind (map member_kinds (iter_rest l.member-iterator))) ≡ l.fn.out ++ spaced (parted Comma false (map member_kinds l.fn.members))
