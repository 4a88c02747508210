-- What a line says, as a key of an ordered map.
use Rattle.std.specs.Prelude.{◌≡◌, ℕ, List, length, Option, Some, None, slice_index_or}
use Rattle.std.specs.declared.cmp.Ordering.{Ordering}
use Rattle.std.specs.Ordering.{ordering_then, nat_cmp}
use Rattle.btor_tree.specs.declared.args.Arg.{Arg}
use Rattle.btor_tree.specs.declared.lines.LineOp.{LineOp}
use Rattle.btor_tree.specs.Fits.{plain_arg}
use Rattle.btor_tree.specs.LineKeys.{arg_cmp}
use Rattle.btor_tree.specs.Sharing.{op_kind, op_number, op_second}
use Rattle.btor_rules.specs.declared.operand.Outcome.{Outcome}
use Rattle.btor_rules.specs.declared.operand.Outcome.TheVariants.{Argument}
use Rattle.btor_simplify.specs.declared.contents.Content.{Content}

-- what a line of this kind with this sort and these arguments says
abbrev pub content_of : LineOp → ℕ → List Arg → Content
content_of o sort args =
    record { first = slice_index_or args 0 (plain_arg 0); second = slice_index_or args 1 (plain_arg 0); number = op_number o; kind = op_kind o; sort = sort; other = op_second o; third = slice_index_or args 2 (plain_arg 0); count = length args }

-- by the fields in their order
abbrev pub content_cmp : Content → Content → Ordering
content_cmp a b =
    ordering_then (arg_cmp a.first b.first) (ordering_then (arg_cmp a.second b.second) (ordering_then (nat_cmp a.number b.number) (ordering_then (nat_cmp a.kind b.kind)
    (ordering_then (nat_cmp a.sort b.sort) (ordering_then (nat_cmp a.other b.other) (ordering_then (arg_cmp a.third b.third) (nat_cmp a.count b.count)))))))

-- the place that is known for what a line says stands for the line, or else the line has its own fate
abbrev pub IsSharedBy : Option ℕ → Outcome → Outcome → Type 0
IsSharedBy (Some p) own f = f ≡ Argument (plain_arg p)
IsSharedBy None own f = f ≡ own
