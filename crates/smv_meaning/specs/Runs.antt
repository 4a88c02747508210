-- The runs of a model, and the verdict on a stated one (NuSMV 2.6 User Manual, 2.3 and 2.4). A run is finite: its
-- last state needs no successor.
use Rattle.std.specs.Prelude.{ℕ, ◌+◌, Bool, true, false, not, ◌&&◌, ◌||◌, if◌then◌else◌, List, [], ◌∷◌, Option, Some, None, slice_get, IsTrue}
use Rattle.std.specs.List.{list_all}
use Rattle.text_core.specs.declared.verdict.Clause.{Clause}
use Rattle.text_core.specs.declared.verdict.Clause.TheVariants.{ValueOutside, InitFails, TransFails, InvarFails, NotBroken}
use Rattle.text_core.specs.declared.verdict.Verdict.{Verdict}
use Rattle.text_core.specs.declared.verdict.Verdict.TheVariants.{Yes, No}
use Rattle.smv_text.specs.declared.tree.Path.{Path}
use Rattle.smv_text.specs.declared.tree.VarKind.{VarKind}
use Rattle.smv_text.specs.declared.tree.VarKind.TheVariants.{Frozen}
use Rattle.smv_text.specs.declared.tree.When.{When}
use Rattle.smv_text.specs.declared.tree.When.TheVariants.{Always, First, Following}
use Rattle.smv_text.specs.Tree.{Tree, PlainDomain, instance, PlainItem, PlainAssignment, PlainElement, vars, assigns, init, trans, invar, PlainSource}
use Rattle.smv_meaning.specs.declared.value.Value.{Value}
use Rattle.smv_meaning.specs.Values.{Valuation, no_value, is_true, value_same, is_of_type}
use Rattle.smv_meaning.specs.Expressions.{Denotation}
use Rattle.smv_meaning.specs.Instances.{Instance, dotted, instances_of}
use Rattle.smv_meaning.specs.Names.{found_in, steps_of}
use Rattle.smv_meaning.specs.Meaning.{is_input, reading, denoted}
use Rattle.smv_meaning.specs.Phases.{when_same, invariants_in}

-- ---- the values of a state and of a label

-- a value for what is declared; an instance has none
abbrev pub domain_fits : PlainDomain → Value → Bool
domain_fits (instance m actuals) v = true
domain_fits d v = is_of_type d v

abbrev pub is_fit : List ℕ → Valuation → PlainItem → Bool
is_fit path values item = domain_fits item.domain (values (dotted path item.name))

-- each variable of the kinds that the test picks has a value of its type
abbrev pub element_fits : (VarKind → Bool) → List ℕ → Valuation → PlainElement → Bool
element_fits picked path values (vars kind items) = not (picked kind) || list_all (is_fit path values) items
element_fits picked path values e = true

abbrev pub values_fit : (VarKind → Bool) → List Instance → Valuation → Bool
values_fit picked t values = list_all (λ at. list_all (element_fits picked at.path values) at.module.elements) t

-- a state gives each state and frozen variable a value of its type, a label each input
abbrev pub state_fits : List Instance → Valuation → Bool
state_fits t state = values_fit (λ k. not (is_input k)) t state

abbrev pub label_fits : List Instance → Valuation → Bool
label_fits t label = values_fit is_input t label

-- ---- formulas and assignments

-- what is asked of an element at a time: in the first state INIT and `init(x) :=`, always INVAR and `x :=`, and of each
-- transition TRANS and `next(x) :=`; an assignment permits the target's value
abbrev pub assignment_holds : (Tree → Denotation) → (Path → Value) → When → PlainAssignment → Bool
assignment_holds meant target when a = not (when_same a.when when) || (meant a.body).permits (target a.target)

abbrev pub element_holds : (Tree → Denotation) → (Path → Value) → When → PlainElement → Bool
element_holds meant target First (init e) = is_true (meant e).value
element_holds meant target Always (invar e) = is_true (meant e).value
element_holds meant target Following (trans e) = is_true (meant e).value
element_holds meant target when (assigns xs) = list_all (assignment_holds meant target when) xs
element_holds meant target when e = true

abbrev pub over_all : (ℕ → Instance → Bool) → ℕ → List Instance → Bool
over_all f i [] = true
over_all f i (at ∷ t) = f i at && over_all f (i + 1) t

-- what a state gives where none is asked for
abbrev pub no_values : Valuation
no_values x = no_value

-- INIT and `init(x) :=` in a state, or INVAR and `x :=`
abbrev pub state_holds : List Instance → When → Valuation → Bool
state_holds t when state = over_all
    (λ i at. list_all (element_holds (λ e. denoted (found_in t) (steps_of t) i e state no_values no_values) (reading (found_in t) (steps_of t) state no_values i) when) at.module.elements)
    0 t

abbrev pub init_holds : List Instance → Valuation → Bool
init_holds t state = state_holds t First state

abbrev pub invar_holds : List Instance → Valuation → Bool
invar_holds t state = state_holds t Always state

-- TRANS and `next(x) :=` between two states under a label
abbrev pub trans_holds : List Instance → Valuation → Valuation → Valuation → Bool
trans_holds t state label following = over_all
    (λ i at. list_all (element_holds (λ e. denoted (found_in t) (steps_of t) i e state label following) (reading (found_in t) (steps_of t) following label i) Following) at.module.elements)
    0 t

abbrev pub is_frozen : VarKind → Bool
is_frozen Frozen = true
is_frozen k = false

abbrev pub element_stays : List ℕ → Valuation → Valuation → PlainElement → Bool
element_stays path state following (vars kind items) =
    not (is_frozen kind) || list_all (λ i. value_same (state (dotted path i.name)) (following (dotted path i.name))) items
element_stays path state following e = true

-- each frozen variable keeps its value
abbrev pub frozen_stay : List Instance → Valuation → Valuation → Bool
frozen_stay t state following = list_all (λ at. list_all (element_stays at.path state following) at.module.elements) t

abbrev pub step_holds : List Instance → Valuation → Valuation → Valuation → Bool
step_holds t state label following = trans_holds t state label following && frozen_stay t state following

-- ---- runs

-- between each two states there is a label, under which the transition holds
abbrev pub StepsHold : List Instance → List Valuation → List Valuation → Type 0
StepsHold t (s ∷ []) [] = Unit {0}
StepsHold t (s ∷ u ∷ states) (l ∷ labels) = IsTrue (step_holds t s l u) × StepsHold t (u ∷ states) labels
StepsHold t states labels = ⊥

abbrev pub Starts : List Instance → List Valuation → Type 0
Starts t [] = ⊥
Starts t (s ∷ states) = IsTrue (init_holds t s)

pub record IsRunOf (t : List Instance) (states labels : List Valuation) : Type 0 where
  pub values : IsTrue (list_all (state_fits t) states)
  pub inputs : IsTrue (list_all (label_fits t) labels)
  pub starts : Starts t states
  pub stays : IsTrue (list_all (invar_holds t) states)
  pub steps : StepsHold t states labels

-- a run of the model with as many transitions as there are labels
abbrev pub IsRun : PlainSource → List Valuation → List Valuation → Type 0
IsRun source states labels = IsRunOf (instances_of source) states labels

abbrev pub is_false_at : List Instance → Valuation → Option (ℕ × Tree) → Bool
is_false_at t state None = false
is_false_at t state (Some f) = not (is_true (denoted (found_in t) (steps_of t) f.0 f.1 state no_values no_values).value)

abbrev pub is_broken : List Instance → ℕ → Valuation → Bool
is_broken t j state = is_false_at t state (slice_get (invariants_in t) j)

-- the invariant of number j, counted from 0 over the instances in preorder, is false in the state
abbrev pub Breaks : PlainSource → ℕ → Valuation → Type 0
Breaks source j state = IsTrue (is_broken (instances_of source) j state)

-- the last state of the run breaks it
abbrev pub LastBreaks : PlainSource → ℕ → List Valuation → Type 0
LastBreaks source j [] = ⊥
LastBreaks source j (s ∷ []) = Breaks source j s
LastBreaks source j (s ∷ u ∷ states) = LastBreaks source j (u ∷ states)

-- ---- the verdict

-- the first clause that fails at a step, each with whether it holds, else what is said of the rest
abbrev pub unless_fails : ℕ → List (Clause × Bool) → Verdict → Verdict
unless_fails n [] rest = rest
unless_fails n (c ∷ cs) rest = if c.1 then unless_fails n cs rest else No n c.0

-- a label and a transition belong to the step that they lead to; where the state or the label of a step is missing, its value
-- is outside
abbrev pub judged_after : List Instance → ℕ → ℕ → Valuation → List Valuation → List Valuation → Verdict
judged_after t j n s [] [] = unless_fails n ((NotBroken, is_broken t j s) ∷ []) Yes
judged_after t j n s [] (l ∷ labels) = No (n + 1) ValueOutside
judged_after t j n s (u ∷ states) [] = No (n + 1) ValueOutside
judged_after t j n s (u ∷ states) (l ∷ labels) =
    unless_fails (n + 1)
    ((ValueOutside, state_fits t u && label_fits t l) ∷ (TransFails, step_holds t s l u) ∷ (InvarFails, invar_holds t u) ∷ [])
    (judged_after t j (n + 1) u states labels)

abbrev pub judged_in : List Instance → ℕ → List Valuation → List Valuation → Verdict
judged_in t j [] labels = No 0 ValueOutside
judged_in t j (s ∷ states) labels =
    unless_fails 0 ((ValueOutside, state_fits t s) ∷ (InitFails, init_holds t s) ∷ (InvarFails, invar_holds t s) ∷ [])
    (judged_after t j 0 s states labels)

-- the earliest step with a failing clause, and the first such clause there
abbrev pub judged_smv : PlainSource → ℕ → List Valuation → List Valuation → Verdict
judged_smv source j states labels = judged_in (instances_of source) j states labels
