use Rattle.std.proofs.Common.{◌≡◌, [], ◌∷◌, ◌++◌, ◌-◌, List, ℕ, ◌≤◌, length, map, ap, sym, subst, ◌∙◌, arith}
use Rattle.std.proofs.lemmas.List.{flat_map_more}
use Rattle.generate.specs.Made.{below, cell_line, cell_module, ended, invariant_line, lines_text, main_module, made_model}
use Rattle.generate.proofs.TextLengths.{model_size}
use Rattle.generate.proofs.texts.made_model.Goals as goal

pub returns-clause-text : goal.returns-clause-text
unfolding made_model
returns-clause-text c =
    let last : List ℕ = invariant_line (c.args.n - 1) in
    let lines : ℕ → List (List ℕ) = λ i. cell_module ∷ main_module ∷ map cell_line (below i) in
    let all : c.loop-i.i ≡ c.args.n - 1 = omega arith in
    c.in_ok-put_invariant.ensures
    ∙ ap (λ t. t ++ ended last) c.loop-i.invariant
    ∙ flat_map_more ended [] (lines c.loop-i.i) last
    ∙ ap (λ i. lines_text (lines i ++ last ∷ [])) all

pub returns-clause-within : goal.returns-clause-within
returns-clause-within c = subst (λ (text : List ℕ). length text ≤ 1048576) (sym (returns-clause-text c)) (model_size c.args.n c.requires.some c.requires.most)
