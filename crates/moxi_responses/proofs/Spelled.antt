-- Names that can be spelled can appear in bars, those of the locals of instances too.
use Rattle.std.proofs.Common.{◌≡◌, ℕ, zero, suc, Bool, true, false, not, cond, ◌&&◌, ◌||◌, List, [], ◌∷◌, ◌++◌, refl, ap, ◌∙◌, subst}
use Rattle.std.specs.Prelude.{◌==◌, IsTrue, codes}
use Rattle.std.specs.List.{AllByRecursion, list_all}
use Rattle.std.proofs.lemmas.Bool.{and_parts, eqb-true}
use Rattle.moxi_sexpr.specs.declared.scan.Spelling.TheVariants as how
use Rattle.moxi_sexpr.specs.Atoms.{is_simple, may_appear, starts_simple}
use Rattle.moxi_sexpr.specs.Bytes.{is_symbol_byte, is_barred_byte}
use Rattle.moxi_sexpr.specs.Printing.{is_among, reserved_words}
use Rattle.moxi_terms.specs.declared.term.Variable.{Variable}
use Rattle.moxi_term_print.specs.StandingNames.{IsSpellable}
use Rattle.moxi_scripts.specs.declared.script.Subsystem.{Subsystem}
use Rattle.moxi_scripts.specs.Script.{PlainSystem, system_at}
use Rattle.moxi_script_print.specs.NamesOfScripts.{IsSpellableSystem, VariablesAreSpellable}
use Rattle.moxi_scripts.specs.laws.WholeNames.{and_both}
use Rattle.moxi_scripts.specs.laws.WholeParts.{all_append}
use Rattle.moxi_flat.specs.FlatSystem.{locals_each, locals_upto, named_inside, path_inside}
use Rattle.moxi_trace.specs.ReadBack.{CanBeSpelled}
use Rattle.moxi_terms.proofs.ScopeLaws.{all_of}

-- ---- bytes

symbol_barred : (b : ℕ) → is_symbol_byte b ≡ true → is_barred_byte b ≡ true
symbol_barred b h = by (b == 124) (b == 92) refl refl
  where
    by : (x y : Bool) → (b == 124) ≡ x → (b == 92) ≡ y → not ((b == 124) || (b == 92)) ≡ true
    by true y e f = let g : is_symbol_byte 124 ≡ true = subst (λ n. is_symbol_byte n ≡ true) (eqb-true b 124 e) h in absurd (cc)
    by false true e f = let g : is_symbol_byte 92 ≡ true = subst (λ n. is_symbol_byte n ≡ true) (eqb-true b 92 f) h in absurd (cc)
    by false false e f = ap (λ x. not (x || (b == 92))) e ∙ ap not f

all_barred : (bs : List ℕ) → list_all is_symbol_byte bs ≡ true → list_all is_barred_byte bs ≡ true
all_barred [] h = refl
all_barred (b ∷ bs) h =
    let s = and_parts (is_symbol_byte b) (list_all is_symbol_byte bs) h in
    and_both (is_barred_byte b) (list_all is_barred_byte bs) (symbol_barred b s.0) (all_barred bs s.1)

pub spelled_barred : (name : List ℕ) → IsSpellable name → CanBeSpelled name
spelled_barred name h = by (is_simple name && not (is_among name reserved_words)) h
  where
    by : (t : Bool) → IsTrue (may_appear (cond t (how.Bare false) (how.Barred false)) name) → CanBeSpelled name
    by true g = all_barred name (and_parts (starts_simple name) (list_all is_symbol_byte name) g).1
    by false g = g

barred_append : (xs ys : List ℕ) → CanBeSpelled xs → CanBeSpelled ys → CanBeSpelled (xs ++ ys)
barred_append [] ys h k = k
barred_append (x ∷ xs) ys h k =
    let p = and_parts (is_barred_byte x) (list_all is_barred_byte xs) h in
    and_both (is_barred_byte x) (list_all is_barred_byte (xs ++ ys)) p.0 (barred_append xs ys p.1 k)

-- ---- variables

abbrev pub AllBarred : List Variable → Type 0
AllBarred vs = AllByRecursion (λ (v : Variable). CanBeSpelled v.name) vs

pub variables_barred : (vs : List Variable) → VariablesAreSpellable vs → AllBarred vs
variables_barred vs h = all_of (λ (v : Variable). IsSpellable v.name) (λ (v : Variable). CanBeSpelled v.name) vs (λ v g. spelled_barred v.name g) h

inside_barred : (path : List ℕ) (vs : List Variable) → CanBeSpelled path → AllBarred vs → AllBarred (named_inside path vs)
inside_barred path [] p h = tt
inside_barred path (v ∷ vs) p h = (barred_append path v.name p h.0, inside_barred path vs p h.1)

path_barred : (path : List ℕ) (b : Subsystem) → CanBeSpelled path → IsSpellable b.name → CanBeSpelled (path_inside path b)
path_barred path b p h = barred_append path (b.name ++ codes ".") p (barred_append b.name (codes ".") (spelled_barred b.name h) refl)

-- ---- systems

abbrev SubsystemsSpellable : List Subsystem → Type 0
SubsystemsSpellable bs = AllByRecursion (λ (b : Subsystem). IsSpellable b.name) bs

pub name_barred : (ss : List PlainSystem) (i : ℕ) → AllByRecursion IsSpellableSystem ss → CanBeSpelled (system_at ss i).name
name_barred [] i h = refl
name_barred (s ∷ ss) zero h = spelled_barred s.name h.0.name
name_barred (s ∷ ss) (suc i) h = name_barred ss i h.1

locals_barred : (ss : List PlainSystem) (i : ℕ) → AllByRecursion IsSpellableSystem ss → AllBarred (system_at ss i).locals
locals_barred [] i h = tt
locals_barred (s ∷ ss) zero h = variables_barred s.locals h.0.locals
locals_barred (s ∷ ss) (suc i) h = locals_barred ss i h.1

subsystems_spellable : (ss : List PlainSystem) (i : ℕ) → AllByRecursion IsSpellableSystem ss → SubsystemsSpellable (system_at ss i).subsystems
subsystems_spellable [] i h = tt
subsystems_spellable (s ∷ ss) zero h = h.0.subsystems
subsystems_spellable (s ∷ ss) (suc i) h = subsystems_spellable ss i h.1

each_barred : (ss : List PlainSystem) (within : List ℕ → ℕ → List Variable) → AllByRecursion IsSpellableSystem ss → ((path : List ℕ) (i : ℕ) → CanBeSpelled path → AllBarred (within path i))
    → (path : List ℕ) (bs : List Subsystem) → CanBeSpelled path → SubsystemsSpellable bs → AllBarred (locals_each ss within path bs)
each_barred ss within h f path [] p g = tt
each_barred ss within h f path (b ∷ bs) p g =
    let inner = path_barred path b p g.0 in
    all_append (λ (v : Variable). CanBeSpelled v.name) (named_inside (path_inside path b) (system_at ss b.system).locals) _
    (inside_barred (path_inside path b) (system_at ss b.system).locals inner (locals_barred ss b.system h))
    (all_append (λ (v : Variable). CanBeSpelled v.name) (within (path_inside path b) b.system) _ (f (path_inside path b) b.system inner) (each_barred ss within h f path bs p g.1))

-- the locals of all instances
pub instances_barred : (ss : List PlainSystem) → AllByRecursion IsSpellableSystem ss → (n : ℕ) (path : List ℕ) (i : ℕ) → CanBeSpelled path → AllBarred (locals_upto ss n path i)
instances_barred ss h zero path i p = tt
instances_barred ss h (suc n) path i p = each_barred ss (locals_upto ss n) h (instances_barred ss h n) path (system_at ss i).subsystems p (subsystems_spellable ss i h)
