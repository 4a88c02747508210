-- Scripts of which each name can be spelled (SMT-LIB 2.6, section 3.1).
use Rattle.std.specs.Prelude.{List, IfSome}
use Rattle.std.specs.List.{AllByRecursion}
use Rattle.moxi_terms.specs.declared.term.NamedSort.{NamedSort}
use Rattle.moxi_terms.specs.declared.term.Variable.{Variable}
use Rattle.moxi_terms.specs.Tree.{PlainFunction}
use Rattle.moxi_terms.specs.View.{ScopeState}
use Rattle.moxi_term_print.specs.StandingNames.{IsSpellable, IsSpellableScope, NamesAreSpellable}
use Rattle.moxi_scripts.specs.declared.script.Query.{Query}
use Rattle.moxi_scripts.specs.declared.script.Subsystem.{Subsystem}
use Rattle.moxi_scripts.specs.Script.{PlainCheck, PlainFormula, PlainScript, PlainSystem}

abbrev pub VariablesAreSpellable : List Variable → Type 0
VariablesAreSpellable vs = AllByRecursion (λ (v : Variable). IsSpellable v.name) vs

-- the parameters, and what the body binds
pub record IsSpellableFunction (f : PlainFunction) : Type 0 where
  pub parameters : VariablesAreSpellable f.parameters
  pub body : NamesAreSpellable f.body

-- what is declared, and of each function its parameters and its body
pub record DeclaresSpellable (s : ScopeState) : Type 0 where
  pub scope : IsSpellableScope s
  pub sorts : AllByRecursion (λ (n : NamedSort). IsSpellable n.name) s.sorts
  pub functions : AllByRecursion IsSpellableFunction s.functions

pub record IsSpellableSystem (x : PlainSystem) : Type 0 where
  pub name : IsSpellable x.name
  pub inputs : VariablesAreSpellable x.inputs
  pub outputs : VariablesAreSpellable x.outputs
  pub locals : VariablesAreSpellable x.locals
  pub init : NamesAreSpellable x.init
  pub trans : NamesAreSpellable x.trans
  pub inv : NamesAreSpellable x.inv
  pub subsystems : AllByRecursion (λ (b : Subsystem). IsSpellable b.name) x.subsystems

-- the name, and what the term binds
pub record IsSpellableFormula (f : PlainFormula) : Type 0 where
  pub name : IsSpellable f.name
  pub term : NamesAreSpellable f.term

pub record IsSpellableCheck (c : PlainCheck) : Type 0 where
  pub inputs : VariablesAreSpellable c.inputs
  pub outputs : VariablesAreSpellable c.outputs
  pub locals : VariablesAreSpellable c.locals
  pub assumptions : AllByRecursion IsSpellableFormula c.assumptions
  pub currents : AllByRecursion IsSpellableFormula c.currents
  pub reachables : AllByRecursion IsSpellableFormula c.reachables
  pub queries : AllByRecursion (λ (q : Query). IsSpellable q.name) c.queries

pub record HasSpellableNames (s : PlainScript) : Type 0 where
  pub logic : IfSome s.logic IsSpellable
  pub scope : DeclaresSpellable s.scope
  pub systems : AllByRecursion IsSpellableSystem s.systems
  pub check : IsSpellableCheck s.check
