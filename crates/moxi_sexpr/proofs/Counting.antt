-- Forms, one after another.
use Rattle.std.proofs.Common.{◌≡◌, ℕ, suc, ◌+◌, ◌<◌, ◌≤◌, List, ◌∷◌, length, drop, sym, ap, ◌∙◌, drop-cons, add-one}
use Rattle.std.specs.Prelude.{slice_index_or}
use Rattle.std.proofs.lemmas.List.{drop_all}
use Rattle.moxi_sexpr.specs.declared.form.Form.{Form}
use Rattle.moxi_sexpr.specs.Tree.{plain, plain_forms, no_trees, tree}

pub forms_step : (fs : List Form) (i : ℕ) (x : Form) → i < length fs → x ≡ slice_index_or fs i x → plain_forms (drop i fs) ≡ tree (plain x) (plain_forms (drop (i + 1) fs))
forms_step fs i x h e = ap plain_forms (drop-cons fs i x h ∙ ap (λ y. y ∷ drop (suc i) fs) (sym e)) ∙ ap (λ k. tree (plain x) (plain_forms (drop k fs))) (sym (add-one i))

pub forms_end : (fs : List Form) (i : ℕ) → length fs ≤ i → plain_forms (drop i fs) ≡ no_trees
forms_end fs i h = ap plain_forms (drop_all i fs h)
