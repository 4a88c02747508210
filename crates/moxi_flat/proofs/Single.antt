-- A checked system without subsystems is its own flat system.
use Rattle.std.proofs.Common.{◌≡◌, ℕ, zero, suc, ◌<◌, not, List, [], ◌∷◌, ◌++◌, length, refl, ap, ◌∙◌, arith}
use Rattle.std.proofs.lemmas.List.{append-nil}
use Rattle.name_maps.specs.Names.{are_fresh}
use Rattle.moxi_term_print.specs.Terms.{variable_names}
use Rattle.moxi_terms.specs.declared.term.Variable.{Variable}
use Rattle.moxi_scripts.specs.Script.{PlainSystem, system_at}
use Rattle.moxi_scripts.specs.Valid.{check_variables}
use Rattle.moxi_flat.specs.FlatSystem.{PlainPart, count_upto, locals_each, locals_upto, part_of, parts_each, parts_upto}
use Rattle.moxi_flat.specs.FlatLaws.{SingleSystemsAreFlat, own_part}
use Rattle.moxi_flat.proofs.Renumbered.{renumbered_same}

no_locals : (ss : List PlainSystem) (n i : ℕ) → (system_at ss i).subsystems ≡ [] → locals_upto ss n [] i ≡ []
no_locals ss zero i e = refl
no_locals ss (suc n) i e = ap (locals_each ss (locals_upto ss n) []) e

one_part : (ss : List PlainSystem) (n fresh i : ℕ) → 0 < n → (system_at ss i).subsystems ≡ [] → parts_upto ss n (λ v. v) fresh i ≡ part_of (λ v. v) (system_at ss i) ∷ []
one_part ss zero fresh i h e = absurd (omega (arith, h))
one_part ss (suc n) fresh i h e = ap (λ bs. part_of (λ v. v) (system_at ss i) ∷ parts_each ss (count_upto ss n) (parts_upto ss n) (λ v. v) fresh bs) e

part_is_own : (x : PlainSystem) → part_of (λ v. v) x ≡ own_part x
part_is_own x =
    ap (λ t. record { init = t; trans = (part_of (λ v. v) x).trans; inv = (part_of (λ v. v) x).inv }) (renumbered_same x.init)
    ∙ ap (λ t. record { init = x.init; trans = t; inv = (part_of (λ v. v) x).inv }) (renumbered_same x.trans)
    ∙ ap (λ t. record { init = x.init; trans = x.trans; inv = t }) (renumbered_same x.inv)

some_system : (i n : ℕ) → i < n → 0 < n
some_system i n h = omega (arith, h)

pub single_systems_are_flat_law : SingleSystemsAreFlat
single_systems_are_flat_law s w e =
    let n = length s.systems in
    let vs = check_variables s.check in
    let own = ap (λ (ls : List Variable). vs ++ ls) (no_locals s.systems n s.check.system e) ∙ append-nil vs in
    record {
      variables = own;
      parts = one_part s.systems n (length vs) s.check.system (some_system s.check.system n w.check.there) e ∙ ap (λ (p : PlainPart). p ∷ []) (part_is_own (system_at s.systems s.check.system));
      names = ap (λ (xs : List Variable). not (are_fresh [] (variable_names xs))) own ∙ ap not w.check.variables.names.differ;
    }
