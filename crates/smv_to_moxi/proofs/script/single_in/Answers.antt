use Rattle.smv_flat.specs.FlatParts.{parts_plain}
use Rattle.smv_to_moxi.specs.Assembling.{script_form}
use Rattle.smv_to_moxi.specs.SingleView.{plain_single}
use Rattle.smv_to_moxi.proofs.Scripts.{coding_is, made_is, width_is}
use Rattle.smv_to_moxi.proofs.script.single_in.Goals as goal

pub coded_single-requires : goal.coded_single-requires
coded_single-requires c = record {
  nothing = c.requires.nothing;
  symbols = c.requires.symbols;
  coding = coding_is c.in_ok-coding.coding.places.items c.in_ok-coding.coding.width c.args.parts c.in_ok-coding.ensures.places;
}

pub returns : goal.returns
returns c =
    made_is plain_single c.coded_single.result (script_form (parts_plain c.args.parts) c.in_ok-coding.coding.width) (script_form (parts_plain c.args.parts) c.args.width)
    (width_is (parts_plain c.args.parts) c.in_ok-coding.coding.width c.args.width c.in_ok-coding.ensures.width) c.coded_single.ensures
