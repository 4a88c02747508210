use Rattle.std.proofs.Common.{◌≡◌, Some, ap, sym, ◌∙◌, arith}
use Rattle.moxi_sexpr.specs.Tree.{plain_forms}
use Rattle.moxi_scripts.specs.Declarations.{function_forms}
use Rattle.moxi_declarations.specs.FunctionView.{function_here, function_now}
use Rattle.moxi_declarations.proofs.SizeLaws.{function_few}
use Rattle.moxi_declarations.proofs.functions.read_function.Goals as goal

pub define_function-requires-clause-parts : goal.define_function-requires-clause-parts
define_function-requires-clause-parts c =
    let ts = plain_forms c.args.forms.now in
    let e : function_forms ts ≡ Some (function_here c.in-Some.f) = sym c.function_parts.ensures ∙ ap function_now c.in-Some.is in
    omega (arith, function_few ts (function_here c.in-Some.f) e, c.requires.form)
