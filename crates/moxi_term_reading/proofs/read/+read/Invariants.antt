use Rattle.std.proofs.Common.{◌≡◌, ◌≤◌, ◌+◌, drop}
use Rattle.moxi_sexpr.specs.Tree.{all_nodes, plain, plain_forms}
use Rattle.moxi_term_reading.specs.Answer.{AreStacked, AreBound, context_of}
use Rattle.moxi_term_reading.specs.Forms.{size, sizes}
use Rattle.moxi_term_reading.specs.Reading.{Arguments, Bindings, both_arguments, both_bindings, read_all, read_bindings}
use Rattle.moxi_term_reading.proofs.read.+read.Given as goal

abbrev pub decreases-read_form : goal.decreases-read_form
decreases-read_form l = size (plain l.form.now)

abbrev pub decreases-read_list : goal.decreases-read_list
decreases-read_list l = sizes (plain_forms l.parts.now) + 3

abbrev pub decreases-read_application : goal.decreases-read_application
decreases-read_application l = sizes (plain_forms l.rest.now) + 1

abbrev pub decreases-read_all : goal.decreases-read_all
decreases-read_all l = sizes (plain_forms l.forms.now)

abbrev pub decreases-read_argument : goal.decreases-read_argument
decreases-read_argument l = size (plain l.form.now)

abbrev pub decreases-read_let : goal.decreases-read_let
decreases-read_let l = sizes (plain_forms l.rest.now) + 3

abbrev pub decreases-read_body : goal.decreases-read_body
decreases-read_body l = size (plain l.body.now) + 1

abbrev pub decreases-read_bindings : goal.decreases-read_bindings
decreases-read_bindings l = sizes (plain_forms l.forms.now) + 1

abbrev pub decreases-read_binding : goal.decreases-read_binding
decreases-read_binding l = size (plain l.form.now)

abbrev pub invariant-read_all-loop-form : goal.invariant-read_all-loop-form
invariant-read_all-loop-form l = record {
  read : (x : Arguments) × AreStacked x l.args l.fn.sorts.items l.sorts.items × (both_arguments x (read_all (context_of l.setting) l.fn.bounds (plain_forms (drop l.form-index l.forms))) ≡ read_all (context_of l.setting) l.fn.bounds (plain_forms l.forms));
  kept : l.bounds ≡ l.fn.bounds;
  few : all_nodes (plain_forms (drop l.form-index l.forms)) ≤ all_nodes (plain_forms l.forms);
  left : sizes (plain_forms (drop l.form-index l.forms)) ≤ sizes (plain_forms l.forms);
}

abbrev pub invariant-read_bindings-loop-form : goal.invariant-read_bindings-loop-form
invariant-read_bindings-loop-form l = record {
  read : (x : Bindings) × AreBound x l.all × (both_bindings x (read_bindings (context_of l.setting) l.fn.bounds l.q (plain_forms (drop l.form-index l.forms))) ≡ read_bindings (context_of l.setting) l.fn.bounds l.q (plain_forms l.forms));
  kept : l.bounds ≡ l.fn.bounds;
  stack : l.sorts.items ≡ l.fn.sorts.items;
  few : all_nodes (plain_forms (drop l.form-index l.forms)) ≤ all_nodes (plain_forms l.forms);
  left : sizes (plain_forms (drop l.form-index l.forms)) ≤ sizes (plain_forms l.forms);
}
