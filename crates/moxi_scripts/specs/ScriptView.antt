-- The plain form of a script of the code.
use Rattle.moxi_scripts.specs.declared.script.Script.{Script}
use Rattle.moxi_scripts.specs.Invariant.{script_of}
use Rattle.moxi_scripts.specs.Script.{PlainScript}

abbrev pub plain_script : Script → PlainScript
plain_script s = script_of s.logic s.scope s.systems s.check
