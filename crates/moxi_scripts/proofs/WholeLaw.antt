-- A script that forms spell is valid.
use Rattle.std.proofs.Common.{◌≡◌, Some, List, [], ◌∷◌, ◌++◌, length, refl, sym, ap, ◌∙◌, subst}
use Rattle.std.specs.List.{AllByRecursion}
use Rattle.text_core.specs.declared.place.Place.{Place}
use Rattle.moxi_sexpr.specs.Tree.{Trees}
use Rattle.name_maps.specs.Names.{are_fresh}
use Rattle.moxi_terms.specs.View.{ScopeState}
use Rattle.moxi_scripts.specs.declared.parts.Use.{Use}
use Rattle.moxi_scripts.specs.Checks.{CheckReading}
use Rattle.moxi_scripts.specs.Commands.{Reading, commands_failures, nothing_read}
use Rattle.moxi_scripts.specs.Cycles.{cycle_failures}
use Rattle.moxi_scripts.specs.Links as links
use Rattle.moxi_scripts.specs.Script.{PlainScript}
use Rattle.moxi_scripts.specs.Spelling.{SpellsScript, reading_of, script_with}
use Rattle.moxi_scripts.specs.Systems.{SystemReading}
use Rattle.moxi_scripts.specs.Valid.{IsValid}
use Rattle.moxi_scripts.proofs.FunctionLaws.{none_in}
use Rattle.moxi_scripts.proofs.WholeCommands.{IsSoFar, SortsAreKnown, TermsAreSorted, forms_go, forms_whole, nothing_so_far, nothing_whole}
use Rattle.moxi_scripts.proofs.WholeCycles.{AreThere, IsThere, none_contains_itself}
use Rattle.moxi_scripts.proofs.WholeFormulas.{StandOn, TermsAreWellScoped}
use Rattle.moxi_scripts.proofs.WholeLinks.{check_whole, system_names_same, systems_whole, target_found, untaken}

-- each subsystem names a system that is there
all_there : (s : ScopeState) (r : Reading) (i : IsSoFar s r) (xs : List SystemReading) → links.systems_failures r.systems r.system_names xs ≡ [] → AreThere r.system_names (length r.systems) xs
all_there s r i [] h = tt
all_there s r i (x ∷ xs) h = let e = none_in (links.uses_failures r.systems r.system_names x.uses) _ h in (each x.uses e.0, all_there s r i xs e.1)
  where
    each : (us : List Use) → links.uses_failures r.systems r.system_names us ≡ [] → AllByRecursion (IsThere r.system_names (length r.systems)) us
    each [] h = tt
    each (u ∷ us) h =
        let e = none_in (links.use_failures r.systems r.system_names u) _ h in
        let f = target_found s r.systems r.system_names i.names i.systems u e.0 in
        ((f.number, f.place, f.below), each us e.1)

module _ (sorts : SortsAreKnown) (terms : TermsAreSorted) (stand : TermsAreWellScoped) (on : StandOn) where
  script_whole : (ts : Trees) (end : Place) (c : CheckReading) → (reading_of ts).check ≡ Some c → commands_failures nothing_read ts ≡ [] → links.links_failures (reading_of ts) end ≡ []
      → cycle_failures (reading_of ts).systems (reading_of ts).system_names ≡ [] → IsValid (script_with (reading_of ts) c)
  script_whole ts end c there h l y =
      let r = reading_of ts in
      let names = r.system_names in
      let p = none_in ((links.taken_failures r.scope r.term_names r.variables ++ links.all_systems_failures r) ++ links.check_failures r.systems names r.check) _ l in
      let q = none_in (links.taken_failures r.scope r.term_names r.variables ++ links.all_systems_failures r) _ p.0 in
      let t = none_in (links.taken_failures r.scope r.term_names r.variables) _ q.0 in
      let v = none_in (links.systems_failures r.systems names r.systems) (links.systems_failures r.systems names r.repeated) t.1 in
      let scope = forms_go sorts terms nothing_read ts nothing_so_far h in
      let i = forms_whole sorts terms stand on r (untaken r.scope r.term_names r.variables t.0) nothing_read ts nothing_so_far h refl (nothing_whole r.scope) in
      record {
        scope = record { scope = scope.so_far.scope; sorts = scope.so_far.sorts; terms = scope.so_far.terms; functions = i.functions };
        systems = record {
          names = ap (are_fresh []) (system_names_same r.scope r.systems names i.names i.systems r.systems ∙ i.names) ∙ i.differ;
          systems = systems_whole r.scope r.systems names i.names i.systems r.systems i.systems v.0;
          acyclic = none_contains_itself names r.systems (all_there r.scope r i r.systems v.0) y;
        };
        check = check_whole r.scope r.systems names i.names i.systems c (i.check c there) (subst (λ o. links.check_failures r.systems names o ≡ []) there q.1);
      }

  pub spelled_whole : (ts : Trees) (end : Place) (s : PlainScript) → SpellsScript ts end s → IsValid s
  spelled_whole ts end s h =
      let e = none_in (commands_failures nothing_read ts ++ links.links_failures (reading_of ts) end) _ h.passes in
      let f = none_in (commands_failures nothing_read ts) _ e.0 in
      subst IsValid (sym h.script) (script_whole ts end h.check h.there f.0 f.1 e.1)
