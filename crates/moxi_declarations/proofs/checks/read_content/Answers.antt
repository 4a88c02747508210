use Rattle.std.proofs.Common.{◌≡◌, ℕ, List, ap, ◌∙◌}
use Rattle.text_core.specs.declared.place.Place.{Place}
use Rattle.moxi_terms.specs.View.{ScopeState}
use Rattle.moxi_scripts.specs.declared.parts.Command.TheVariants.{Check}
use Rattle.moxi_scripts.specs.declared.parts.ListPlaces.{ListPlaces}
use Rattle.moxi_scripts.specs.declared.parts.Lists.{Lists}
use Rattle.moxi_scripts.specs.declared.parts.Turn.TheVariants.{AtKeyword}
use Rattle.moxi_scripts.specs.declared.script.Query.{Query}
use Rattle.moxi_scripts.specs.Checks.{CheckReading, content_of, labels_in, places_in}
use Rattle.moxi_scripts.specs.Labels.{FormulaLists}
use Rattle.moxi_scripts.specs.Lists.{lists_in}
use Rattle.moxi_scripts.specs.QueryReading.{queries_after}
use Rattle.moxi_scripts.specs.Shapes.{HeadedForms}
use Rattle.moxi_attributes.specs.Views.{headed_here}
use Rattle.moxi_declarations.proofs.checks.read_content.Goals as goal

abbrev with_parts : Place → Place → List ℕ → Lists → ListPlaces → FormulaLists → List Query → CheckReading
with_parts p q target lists places labels queries = record { place = p; target = target; target_place = q; lists = lists; places = places; labels = labels; queries = queries }

content_is : (s : ScopeState) (p : Place) (h : HeadedForms) (target : List ℕ) (lists : Lists) (places : ListPlaces) (labels : FormulaLists) (queries : List Query)
    → target ≡ h.name → lists ≡ lists_in s Check h.rest → places ≡ places_in p h.rest → labels ≡ labels_in s h.rest → queries ≡ queries_after (labels_in s h.rest) AtKeyword h.rest
    → with_parts p h.place target lists places labels queries ≡ content_of s p h
content_is s p h target lists places labels queries named listed placed labelled queried =
    ap (λ x. with_parts p h.place x lists places labels queries) named
    ∙ ap (λ x. with_parts p h.place h.name x places labels queries) listed
    ∙ ap (λ x. with_parts p h.place h.name (lists_in s Check h.rest) x labels queries) placed
    ∙ ap (λ x. with_parts p h.place h.name (lists_in s Check h.rest) (places_in p h.rest) x queries) labelled
    ∙ ap (with_parts p h.place h.name (lists_in s Check h.rest) (places_in p h.rest) (labels_in s h.rest)) queried

pub returns-in-Ok-clause-check : goal.returns-in-Ok-clause-check
returns-in-Ok-clause-check c =
    let got = c.in-Ok.ensures in
    content_is c.args.scope.now c.args.p (headed_here c.args.h) _ _ _ _ _ c.in_ok-target.ensures got.lists c.places_in.ensures got.labels got.queries

pub returns-in-Ok-clause-adds : goal.returns-in-Ok-clause-adds
returns-in-Ok-clause-adds c = c.in-Ok.ensures.adds

pub returns-in-Ok-clause-finds : goal.returns-in-Ok-clause-finds
returns-in-Ok-clause-finds c = c.in-Ok.ensures.finds
