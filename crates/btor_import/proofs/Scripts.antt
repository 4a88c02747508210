-- The parts of the script.
use Rattle.std.proofs.Common.{◌≡◌, ℕ, List, codes, ap, ◌∙◌, refl, sym, subst, Result, IfOk}
use Rattle.text_core.specs.declared.errors.NoMemory.{NoMemory}
use Rattle.btor_tree.specs.declared.lines.Line.{Line}
use Rattle.moxi_scripts.specs.Script.{PlainCheck, PlainScript, PlainSystem}
use Rattle.btor_import.specs.Assembling.{check_form, script_with, system_form}
use Rattle.btor_import.specs.Script.{check_of, import_of, system_of}

pub system_form_is : (lines : List Line) → system_of lines ≡ system_form lines
unfolding system_form
system_form_is lines = refl

pub check_form_is : (lines : List Line) → check_of lines ≡ check_form lines
unfolding check_form
check_form_is lines = refl

-- the lists of a system of lines
pub system_lists : (lines : List Line) (s : PlainSystem) → s ≡ system_form lines
    → (s.inputs ≡ (system_of lines).inputs) × (s.outputs ≡ (system_of lines).outputs) × (s.locals ≡ (system_of lines).locals)
system_lists lines s e =
    let f : s ≡ system_of lines = e ∙ sym (system_form_is lines) in
    (ap (λ (x : PlainSystem). x.inputs) f, ap (λ (x : PlainSystem). x.outputs) f, ap (λ (x : PlainSystem). x.locals) f)

forms_are : (lines : List Line) → script_with (codes "QF_BV") (system_form lines) (check_form lines) ≡ import_of lines
unfolding system_form check_form
forms_are lines = refl

-- the script of these parts
pub script_is : (lines : List Line) (l : List ℕ) (s : PlainSystem) (c : PlainCheck) → l ≡ codes "QF_BV" → s ≡ system_form lines → c ≡ check_form lines → script_with l s c ≡ import_of lines
script_is lines l s c e f g = ap (λ x. script_with x s c) e ∙ ap (λ x. script_with (codes "QF_BV") x c) f ∙ ap (λ x. script_with (codes "QF_BV") (system_form lines) x) g ∙ forms_are lines

-- what is made is the script
pub made_is : {T : Type 0} (view : T → PlainScript) (r : Result T NoMemory) (x y : PlainScript) → x ≡ y → IfOk r (λ t. view t ≡ x) → IfOk r (λ t. view t ≡ y)
made_is view r x y e h = subst (λ (z : PlainScript). IfOk r (λ t. view t ≡ z)) e h
