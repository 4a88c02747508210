-- A text has one refusal at most, and none where it spells a script whose check instantiates a system.
use Rattle.std.proofs.Common.{◌≡◌, inl, inr, ℕ, List, Option, None, sym, ap, ◌∙◌, subst}
use Rattle.std.proofs.lemmas.Option.{none-some, same_Some}
use Rattle.text_core.specs.declared.place.Refusal.{Refusal}
use Rattle.text_core.specs.Places.{start, after}
use Rattle.moxi_sexpr.specs.Tree.{Trees}
use Rattle.moxi_sexpr.proofs.Leading.{no_reading, one_end, one_reading}
use Rattle.moxi_term_reading.specs.Failures.{least}
use Rattle.moxi_scripts.specs.Script.{PlainScript}
use Rattle.moxi_scripts.specs.Spelling.{SpellsScript, script_failures}
use Rattle.moxi_scripts.proofs.ScriptLaws.{one_script}
use Rattle.moxi_flat.specs.Limits.{flat_refusal}
use Rattle.moxi_commands.specs.Scripts.{IsScriptText, IsSystemRefusal, IsTextRefusal}

-- bytes spell one script
pub same_script : (bytes : List ℕ) (s t : PlainScript) → IsScriptText bytes s → IsScriptText bytes t → s ≡ t
same_script bytes s t a b =
    one_script b.forms (after start bytes) s t (subst (λ ts. SpellsScript ts (after start bytes) s) (one_reading bytes a.forms b.forms a.formed b.formed) a.spelled) b.spelled

abbrev first_failure : List ℕ → Trees → Option Refusal
first_failure bytes ts = least (script_failures ts (after start bytes))

one_text_refusal : (bytes : List ℕ) (why other : Refusal) → IsTextRefusal bytes why → IsTextRefusal bytes other → why ≡ other
one_text_refusal bytes why other (inl a) (inl b) = one_end bytes why other a b
one_text_refusal bytes why other (inl a) (inr (ts, formed, e)) = absurd (no_reading bytes ts why formed a)
one_text_refusal bytes why other (inr (ts, formed, e)) (inl b) = absurd (no_reading bytes ts other formed b)
one_text_refusal bytes why other (inr (ts, formed, e)) (inr (us, formed', f)) =
    same_Some why other (sym e ∙ ap (first_failure bytes) (one_reading bytes ts us formed formed') ∙ f)

text_no_script : (bytes : List ℕ) (why : Refusal) (s : PlainScript) → IsTextRefusal bytes why → IsScriptText bytes s → ⊥
text_no_script bytes why s (inl a) i = no_reading bytes i.forms why i.formed a
text_no_script bytes why s (inr (ts, formed, e)) i =
    none-some why (sym (ap least i.spelled.passes) ∙ ap (first_failure bytes) (one_reading bytes i.forms ts i.formed formed) ∙ e)

-- a text has one refusal
pub one_system_refusal : (bytes : List ℕ) (why other : Refusal) → IsSystemRefusal bytes why → IsSystemRefusal bytes other → why ≡ other
one_system_refusal bytes why other (inl a) (inl b) = one_text_refusal bytes why other a b
one_system_refusal bytes why other (inl a) (inr (s, is, e)) = absurd (text_no_script bytes why s a is)
one_system_refusal bytes why other (inr (s, is, e)) (inl b) = absurd (text_no_script bytes other s b is)
one_system_refusal bytes why other (inr (s, is, e)) (inr (t, is', f)) = same_Some why other (sym e ∙ ap flat_refusal (same_script bytes s t is is') ∙ f)

-- and none where the check of its script instantiates a system
pub not_refused : (bytes : List ℕ) (why : Refusal) (s : PlainScript) → IsSystemRefusal bytes why → IsScriptText bytes s → flat_refusal s ≡ None → ⊥
not_refused bytes why s (inl a) is accepted = text_no_script bytes why s a is
not_refused bytes why s (inr (t, is', e)) is accepted = none-some why (sym accepted ∙ ap flat_refusal (same_script bytes s t is is') ∙ e)
