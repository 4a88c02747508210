-- The commands: the words of each, its files, and its answer.
use Rattle.std.specs.Prelude.{◌≡◌, ◌≤◌, ℕ, List, [], ◌∷◌, Option, Some, None, if◌then◌else◌, codes, option_map, option_and_then}
use Rattle.std.specs.Str.{bytes_eq}
use Rattle.std.specs.Borrow.{Bor}
use Rattle.text_core.specs.Outside.{BeginsOnly, Files}
use Rattle.command_core.specs.declared.answer.Answer.{Answer}
use Rattle.command_core.specs.declared.answer.Answer.TheVariants.{Usage}
use Rattle.command_core.specs.Numbers.{cell_count}
use Rattle.command_core.specs.Words.{PlainWords, words_of}
use Rattle.generate.specs.Generating.{IsGenerated}
use Rattle.top_call.specs.Summaries.{IsSummarized}
use Rattle.top_call.specs.declared.words.Task.{Task}
use Rattle.top_call.specs.declared.words.Task.TheVariants as task
use Rattle.top_call.specs.declared.words.Command.{Command}
use Rattle.top_call.specs.declared.words.Command.TheVariants.{SmvToBtor, SmvToMoxi, MoxiToBtor, BtorToMoxi, Simplify, JudgeBtor, JudgeSmv, JudgeMoxi, LiftSmv, LiftMoxi, Lower, Generate}
use Rattle.smv_commands.specs.Translation.{IsCorrectOutput, IsTranslation}
use Rattle.btor_commands.specs.Importing.{IsImport, IsCorrectOutput as IsCorrectImport}
use Rattle.btor_commands.specs.Simplifying.{IsSimplification, IsCorrectOutput as IsCorrectSmaller}
use Rattle.btor_commands.specs.Judgement.{IsJudgement}
use Rattle.smv_commands.specs.SmvJudgement.{IsSmvJudgement}
use Rattle.smv_commands.specs.Scripts.{IsScript, IsCorrectOutput as IsCorrectScript}
use Rattle.moxi_commands.specs.Judgement.{IsMoxiJudgement}
use Rattle.moxi_commands.specs.Translation.{IsBtorText, IsCorrectOutput as IsCorrectLines}
use Rattle.smv_commands.specs.SmvLift.{IsLiftedTrace, IsSmvLift}
use Rattle.smv_commands.specs.Lowering.{IsLoweredTrace, IsLowering}
use Rattle.moxi_commands.specs.MoxiLift.{IsLiftedResponse, IsMoxiLift}

-- the first words of the commands
abbrev pub commands : List (List ℕ × Task)
commands =
    (codes "smv2btor", task.SmvToBtor) ∷ (codes "smv2moxi", task.SmvToMoxi) ∷ (codes "moxi2btor", task.MoxiToBtor)
    ∷ (codes "btor2moxi", task.BtorToMoxi) ∷ (codes "simplify", task.Simplify) ∷ (codes "judge-btor", task.JudgeBtor) ∷ (codes "judge-smv", task.JudgeSmv) ∷ (codes "judge-moxi", task.JudgeMoxi)
    ∷ (codes "lift-smv", task.LiftSmv) ∷ (codes "lift-moxi", task.LiftMoxi) ∷ (codes "lower", task.Lower) ∷ (codes "generate", task.Generate) ∷ []

-- the task of the first row with this word
abbrev pub task_in : List (List ℕ × Task) → List ℕ → Option Task
task_in [] word = None
task_in (row ∷ rows) word = if bytes_eq word row.0 then Some row.1 else task_in rows word

-- a row of the code's table
abbrev pub row : Bor (List ℕ) × Task → List ℕ × Task
row r = (r.0.now, r.1)

-- the command of a task on one file, or on a number of cells
abbrev pub on_one : Task → List ℕ → Option Command
on_one task.SmvToBtor model = Some (SmvToBtor model)
on_one task.SmvToMoxi model = Some (SmvToMoxi model)
on_one task.MoxiToBtor model = Some (MoxiToBtor model)
on_one task.BtorToMoxi model = Some (BtorToMoxi model)
on_one task.Simplify model = Some (Simplify model)
on_one task.Generate count = option_map Generate (cell_count count)
on_one task word = None

-- the command of a task on two files; only those on a trace take the number of an invariant, which is 0 by default
abbrev pub on_two : Task → List ℕ → List ℕ → Option ℕ → Option Command
on_two task.JudgeBtor model second None = Some (JudgeBtor model second)
on_two task.JudgeSmv model second None = Some (JudgeSmv model second 0)
on_two task.JudgeSmv model second (Some j) = Some (JudgeSmv model second j)
on_two task.JudgeMoxi model second None = Some (JudgeMoxi model second)
on_two task.LiftSmv model second None = Some (LiftSmv model second)
on_two task.LiftMoxi model second None = Some (LiftMoxi model second)
on_two task.Lower model second None = Some (Lower model second 0)
on_two task.Lower model second (Some j) = Some (Lower model second j)
on_two task model second property = None

abbrev pub command_with : Task → List (List ℕ) → Option ℕ → Option Command
command_with task (word ∷ []) None = on_one task word
command_with task (model ∷ second ∷ []) property = on_two task model second property
command_with task places property = None

-- the command of positional words, with the number of an invariant where one is given
abbrev pub command_by : List (List ℕ) → Option ℕ → Option Command
command_by [] property = None
command_by (word ∷ places) property = option_and_then (λ task. command_with task places property) (task_in commands word)

abbrev pub command_from : PlainWords → Option Command
command_from given = command_by given.positionals given.property

-- the command that the words give, if they give one
abbrev pub command_of : List (List ℕ) → Option Command
command_of words = option_and_then command_from (words_of words)

-- the number of cells is one that can be generated
abbrev pub IsInRange : Command → Type 0
IsInRange (Generate n) = (1 ≤ n) × (n ≤ 1000)
IsInRange other = Unit {0}

-- the files that a command names
abbrev pub files_of : Command → List (List ℕ)
files_of (SmvToBtor model) = model ∷ []
files_of (SmvToMoxi model) = model ∷ []
files_of (MoxiToBtor model) = model ∷ []
files_of (BtorToMoxi model) = model ∷ []
files_of (Simplify model) = model ∷ []
files_of (JudgeBtor model second) = model ∷ second ∷ []
files_of (JudgeSmv model second j) = model ∷ second ∷ []
files_of (JudgeMoxi model second) = model ∷ second ∷ []
files_of (LiftSmv model second) = model ∷ second ∷ []
files_of (LiftMoxi model second) = model ∷ second ∷ []
files_of (Lower model second j) = model ∷ second ∷ []
files_of (Generate n) = []

-- the files that the words name; none where they are no command
abbrev pub named_files : Option Command → List (List ℕ)
named_files None = []
named_files (Some command) = files_of command

-- the answer to a command
abbrev pub Answers : Option Command → Files → Answer → Type 0
Answers None files answer = answer ≡ Usage
Answers (Some (SmvToBtor model)) files answer = IsTranslation files model answer
Answers (Some (SmvToMoxi model)) files answer = IsScript files model answer
Answers (Some (MoxiToBtor model)) files answer = IsBtorText files model answer
Answers (Some (BtorToMoxi model)) files answer = IsImport files model answer
Answers (Some (Simplify model)) files answer = IsSimplification files model answer
Answers (Some (JudgeBtor model second)) files answer = IsJudgement files model second answer
Answers (Some (JudgeSmv model second j)) files answer = IsSmvJudgement files model second j answer
Answers (Some (JudgeMoxi model second)) files answer = IsMoxiJudgement files model second answer
Answers (Some (LiftSmv model second)) files answer = IsSmvLift files model second answer
Answers (Some (LiftMoxi model second)) files answer = IsMoxiLift files model second answer
Answers (Some (Lower model second j)) files answer = IsLowering files model second j answer
Answers (Some (Generate n)) files answer = IsGenerated n answer

-- the text written for a command is a correct translation, lift or lowering of its files; for a verdict nothing is required
abbrev pub HasCorrectOutput : Option Command → Files → Option (List ℕ) → Option (List ℕ) → Type 0
HasCorrectOutput None files before now = ⊥
HasCorrectOutput (Some (SmvToBtor model)) files before now = IsCorrectOutput files model before now
HasCorrectOutput (Some (SmvToMoxi model)) files before now = IsCorrectScript files model before now
HasCorrectOutput (Some (MoxiToBtor model)) files before now = IsCorrectLines files model before now
HasCorrectOutput (Some (BtorToMoxi model)) files before now = IsCorrectImport files model before now
HasCorrectOutput (Some (Simplify model)) files before now = IsCorrectSmaller files model before now
HasCorrectOutput (Some (LiftSmv model second)) files before now = IsLiftedTrace files model second before now
HasCorrectOutput (Some (LiftMoxi model second)) files before now = IsLiftedResponse files model second before now
HasCorrectOutput (Some (Lower model second j)) files before now = IsLoweredTrace files model second j before now
HasCorrectOutput (Some (Generate n)) files before now = IsSummarized n before now
HasCorrectOutput (Some command) files before now = Unit {0}

-- `judge-btor` opened no second file; other commands may run out of memory on theirs
abbrev pub BeginsNoSecond : Option Files → Option (List ℕ) → Option (List ℕ) → Option Command → Type 0
BeginsNoSecond files before now (Some (JudgeBtor model second)) = BeginsOnly files before now model
BeginsNoSecond files before now command = Unit {0}
