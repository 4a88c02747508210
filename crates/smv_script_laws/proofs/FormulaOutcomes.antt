-- The laws: the parts of formulas and of items in the environments of the rows of two states.
use Rattle.smv_text.specs.declared.tree.When.TheVariants.{Always, First, Following}
use Rattle.smv_meaning.specs.Instances.{instances_of}
use Rattle.smv_script_laws.specs.FormulaLaws.{FormsSay, ItemsSay}
use Rattle.smv_script_laws.proofs.Items.{each_holds, items_mean}
use Rattle.smv_script_laws.proofs.FormulaMeanings.{forms_mean, invariants_mean}
use Rattle.smv_script_laws.proofs.Premises.{known}

pub forms_say_law : FormsSay
forms_say_law source end text xs lexed spelled needed accepted c wide state label following other now later calls first second this next =
    let t = instances_of source in
    let k = known source end text xs lexed spelled needed accepted c.width wide in
    let mean = forms_mean t c k.ready k.some k.types k.items state label following other now later calls first second this next in
    record {
      init = mean First k.forms;
      invar = mean Always k.forms;
      trans = mean Following k.forms;
      broken = λ j. invariants_mean t c k.ready k.some k.types k.items state label following other now later calls first second this next k.forms j;
    }

pub items_say_law : ItemsSay
items_say_law source end text xs lexed spelled needed accepted c wide state label following other now later calls first second this next =
    let t = instances_of source in
    let k = known source end text xs lexed spelled needed accepted c.width wide in
    record {
      init = λ n m h. tt;
      invar = each_holds t c k state label now calls first this;
      trans = items_mean t c k state label following other now later calls first second this next;
    }
