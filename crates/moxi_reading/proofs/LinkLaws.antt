-- Systems at their numbers, and lists of the same sorts.
use Rattle.std.proofs.Common.{◌≡◌, ◌≢◌, ℕ, zero, suc, ◌+◌, ◌<◌, ◌≤◌, Bool, true, false, ◌&&◌, List, [], ◌∷◌, map, length, drop, None, Some, refl, sym, ap, ◌∙◌, arith}
use Rattle.std.specs.Prelude.{slice_index_or}
use Rattle.std.proofs.lemmas.List.{drop_all, drop_more}
use Rattle.moxi_scripts.specs.declared.parts.Declared.{Declared}
use Rattle.moxi_declarations.specs.declared.systems.ReadSystem.{ReadSystem}
use Rattle.moxi_scripts.specs.Links.{entries_fit, lists_at, same_known}
use Rattle.moxi_declarations.specs.Views.{plain_reading}

pub lists_there : (systems : List ReadSystem) (j : ℕ) (x : ReadSystem) → j < length systems → x ≡ slice_index_or systems j x → lists_at (map plain_reading systems) j ≡ Some x.lists
lists_there [] j x h e = absurd (omega arith)
lists_there (y ∷ ys) zero x h e = ap (λ (r : ReadSystem). Some r.lists) (sym e)
lists_there (y ∷ ys) (suc j) x h e = lists_there ys j x (omega arith) e

pub lists_missing : (systems : List ReadSystem) (j : ℕ) → length systems ≤ j → lists_at (map plain_reading systems) j ≡ None
lists_missing [] j h = refl
lists_missing (y ∷ ys) zero h = absurd (omega arith)
lists_missing (y ∷ ys) (suc j) h = lists_missing ys j (omega arith)

pub fit_lengths : (ls bs : List Declared) → length ls ≢ length bs → entries_fit ls bs ≡ false
fit_lengths [] [] h = absurd (h refl)
fit_lengths [] (b ∷ bs) h = refl
fit_lengths (a ∷ ls) [] h = refl
fit_lengths (a ∷ ls) (b ∷ bs) h = ap (λ t. same_known a.sort b.sort && t) (fit_lengths ls bs (λ e. h (ap suc e))) ∙ never (same_known a.sort b.sort)
  where
    never : (t : Bool) → (t && false) ≡ false
    never true = refl
    never false = refl

pub systems_step : (rs : List ReadSystem) (i : ℕ) (x : ReadSystem) → i < length rs → x ≡ slice_index_or rs i x → map plain_reading (drop i rs) ≡ plain_reading x ∷ map plain_reading (drop (i + 1) rs)
systems_step rs i x h e = ap (map plain_reading) (drop_more rs i x h ∙ ap (λ y. y ∷ drop (i + 1) rs) (sym e))

pub systems_end : (rs : List ReadSystem) (i : ℕ) → length rs ≤ i → map plain_reading (drop i rs) ≡ []
systems_end rs i h = ap (map plain_reading) (drop_all i rs h)
