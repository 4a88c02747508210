-- A text has one refusal at most, and none where it spells lines.
use Rattle.std.proofs.Common.{◌≡◌, ℕ, List, refl, sym, ap, ◌∙◌}
use Rattle.text_core.specs.declared.place.Refusal.{Refusal}
use Rattle.text_core.specs.declared.place.Kind.{Kind}
use Rattle.text_core.specs.declared.place.Place.{Place}
use Rattle.text_core.specs.declared.end.End.TheVariants.{Bad}
use Rattle.btor_tree.specs.declared.lines.Line.{Line}
use Rattle.btor_tree.specs.Parts.{line_place}
use Rattle.btor_tree.specs.Texts.{SpellsLines}
use Rattle.btor_tree.proofs.Readings.{no_list, one_fault}
use Rattle.btor_text.specs.Answer.{IsRefused, kind_of}

same_refusal : (r s : Refusal) → r.kind ≡ s.kind → r.place ≡ s.place → r ≡ s
same_refusal r s e f =
    let kinds : record { kind = r.kind; place = r.place } ≡ record { kind = s.kind; place = r.place } = ap (λ (k : Kind). record { kind = k; place = r.place }) e in
    kinds ∙ ap (λ (p : Place). record { kind = s.kind; place = p }) f

pub one_refusal : (text : List ℕ) (r s : Refusal) → IsRefused text (Bad r) → IsRefused text (Bad s) → r ≡ s
one_refusal text r s a b =
    let one = one_fault a.1 b.1 refl refl in
    same_refusal r s (a.2 ∙ ap kind_of one.0 ∙ sym b.2) (a.3 ∙ ap (line_place text) one.1 ∙ sym b.3)

pub not_both : (text : List ℕ) (lines : List Line) (r : Refusal) → SpellsLines text lines → IsRefused text (Bad r) → ⊥
not_both text lines r h a = no_list h a.1 refl
