-- The plain form of a script whose one system stands by itself.
use Rattle.moxi_scripts.specs.Script.{PlainScript, plain_check, plain_system}
use Rattle.smv_to_moxi.specs.Assembling.{script_with}
use Rattle.smv_to_moxi.specs.declared.script.SingleScript.{SingleScript}

abbrev pub plain_single : SingleScript → PlainScript
plain_single s = script_with s.logic s.scope (plain_system s.system) (plain_check s.check)
