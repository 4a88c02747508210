-- The parts of a function's definition behind references.
use Rattle.std.specs.Prelude.{Option, None, Some}
use Rattle.moxi_sexpr.specs.Tree.{plain, plain_forms}
use Rattle.moxi_declarations.specs.declared.functions.FunctionParts.{FunctionParts}
use Rattle.moxi_scripts.specs.Declarations.{FunctionForms}
use Rattle.moxi_attributes.specs.Views.{headed_here}

abbrev pub function_here : FunctionParts → FunctionForms
function_here f = record { name = headed_here f.name; place = f.place; parameters = plain_forms f.parameters.now; result = plain f.result.now; body = plain f.body.now }

abbrev pub function_now : Option FunctionParts → Option FunctionForms
function_now None = None
function_now (Some f) = Some (function_here f)
