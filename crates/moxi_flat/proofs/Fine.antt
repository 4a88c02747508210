-- What the laws need of systems: formulas are over their own variables, actuals fit, and the sorts of hidden variables.
use Rattle.std.proofs.Common.{◌≡◌, ℕ, zero, suc, ◌+◌, ◌<◌, List, [], ◌∷◌, ◌++◌, length, refl, sym, ap, ◌∙◌, arith, length-append}
use Rattle.std.specs.Prelude.{sum_by}
use Rattle.std.specs.List.{AllByRecursion}
use Rattle.std.proofs.lemmas.List.{append_assoc, length-map}
use Rattle.std.proofs.lemmas.List.Sums.{sum_by-cons}
use Rattle.moxi_terms.specs.declared.data.Sort.{Sort}
use Rattle.moxi_terms.specs.declared.term.Variable.{Variable}
use Rattle.moxi_terms.specs.Tree.{sorts_of}
use Rattle.moxi_scripts.specs.declared.script.Subsystem.{Subsystem}
use Rattle.moxi_scripts.specs.Script.{PlainSystem, system_at, variables_in}
use Rattle.moxi_scripts.specs.laws.WholeParts.{map_append}
use Rattle.moxi_flat.specs.Renumbering.{IsOver}
use Rattle.moxi_flat.specs.FlatSystem.{named_inside, path_inside, locals_each, locals_upto, count_upto}
use Rattle.moxi_flat.proofs.Values.{ActualsFit}

abbrev pub sort_of : Variable → Sort
sort_of v = v.sort

-- the sorts of a system's inputs and outputs, of its locals, and of all its variables
abbrev pub interface : PlainSystem → List Sort
interface s = sorts_of (s.inputs ++ s.outputs)

abbrev pub local_sorts : PlainSystem → List Sort
local_sorts s = sorts_of s.locals

abbrev pub own_sorts : PlainSystem → List Sort
own_sorts s = sorts_of (variables_in s)

pub own_split : (s : PlainSystem) → own_sorts s ≡ interface s ++ local_sorts s
own_split s = ap sorts_of (sym (append_assoc s.inputs s.outputs s.locals)) ∙ map_append sort_of (s.inputs ++ s.outputs) s.locals

pub locals_long : (s : PlainSystem) → length (local_sorts s) ≡ length s.locals
locals_long s = length-map s.locals sort_of

pub own_long : (s : PlainSystem) → length (own_sorts s) ≡ length (interface s) + length (local_sorts s)
own_long s = ap length (own_split s) ∙ length-append (interface s) (local_sorts s)

-- the formulas are over the system's variables, and the actuals have the sorts of inputs and outputs
pub record IsFine (ss : List PlainSystem) (s : PlainSystem) : Type 0 where
  pub init : IsOver (length (own_sorts s)) s.init
  pub trans : IsOver (length (own_sorts s)) s.trans
  pub inv : IsOver (length (own_sorts s)) s.inv
  pub actuals : AllByRecursion (λ (b : Subsystem). ActualsFit (own_sorts s) b.actuals (interface (system_at ss b.system))) s.subsystems

abbrev pub AreFine : List PlainSystem → Type 0
AreFine ss = (i : ℕ) → i < length ss → IsFine ss (system_at ss i)

-- HIDDEN VARIABLES

abbrev pub sorts_each : List PlainSystem → (ℕ → List Sort) → List Subsystem → List Sort
sorts_each ss within [] = []
sorts_each ss within (b ∷ bs) = local_sorts (system_at ss b.system) ++ (within b.system ++ sorts_each ss within bs)

abbrev pub hidden_sorts : List PlainSystem → ℕ → ℕ → List Sort
hidden_sorts ss zero i = []
hidden_sorts ss (suc n) i = sorts_each ss (hidden_sorts ss n) (system_at ss i).subsystems

named_sorts : (path : List ℕ) (vs : List Variable) → sorts_of (named_inside path vs) ≡ sorts_of vs
named_sorts path [] = refl
named_sorts path (v ∷ vs) = ap (λ ss. v.sort ∷ ss) (named_sorts path vs)

each_sorts : (ss : List PlainSystem) (n : ℕ) → ((path : List ℕ) (i : ℕ) → sorts_of (locals_upto ss n path i) ≡ hidden_sorts ss n i) → (path : List ℕ) (bs : List Subsystem)
    → sorts_of (locals_each ss (locals_upto ss n) path bs) ≡ sorts_each ss (hidden_sorts ss n) bs
each_sorts ss n f path [] = refl
each_sorts ss n f path (b ∷ bs) =
    let inner = path_inside path b in
    let locals = (system_at ss b.system).locals in
    let more = locals_upto ss n inner b.system in
    let rest = locals_each ss (locals_upto ss n) path bs in
    map_append sort_of (named_inside inner locals) (more ++ rest)
    ∙ ap (λ xs. xs ++ sorts_of (more ++ rest)) (named_sorts inner locals)
    ∙ ap (λ xs. sorts_of locals ++ xs) (map_append sort_of more rest ∙ ap (λ xs. xs ++ sorts_of rest) (f inner b.system) ∙ ap (λ xs. hidden_sorts ss n b.system ++ xs) (each_sorts ss n f path bs))

pub sorts_are : (ss : List PlainSystem) (n : ℕ) (path : List ℕ) (i : ℕ) → sorts_of (locals_upto ss n path i) ≡ hidden_sorts ss n i
sorts_are ss zero path i = refl
sorts_are ss (suc n) path i = each_sorts ss n (sorts_are ss n) path (system_at ss i).subsystems

sum_three : (a b c k l m : ℕ) → a ≡ k → b ≡ l → c ≡ m → a + b + c ≡ k + (l + m)
sum_three a b c k l m e f g = omega (arith, e, f, g)

each_count : (ss : List PlainSystem) (n : ℕ) → ((i : ℕ) → count_upto ss n i ≡ length (hidden_sorts ss n i)) → (bs : List Subsystem)
    → sum_by (λ (b : Subsystem). length (system_at ss b.system).locals + count_upto ss n b.system) bs ≡ length (sorts_each ss (hidden_sorts ss n) bs)
each_count ss n f [] = refl
each_count ss n f (b ∷ bs) =
    let s = system_at ss b.system in
    let within = hidden_sorts ss n b.system in
    let rest = sorts_each ss (hidden_sorts ss n) bs in
    sum_by-cons (λ (b : Subsystem). length (system_at ss b.system).locals + count_upto ss n b.system) b bs
    ∙ sum_three (length s.locals) (count_upto ss n b.system) _ (length (local_sorts s)) (length within) (length rest) (sym (locals_long s)) (f b.system) (each_count ss n f bs)
    ∙ sym (length-append (local_sorts s) (within ++ rest) ∙ ap (λ k. length (local_sorts s) + k) (length-append within rest))

pub count_is : (ss : List PlainSystem) (n i : ℕ) → count_upto ss n i ≡ length (hidden_sorts ss n i)
count_is ss zero i = refl
count_is ss (suc n) i = each_count ss n (count_is ss n) (system_at ss i).subsystems
