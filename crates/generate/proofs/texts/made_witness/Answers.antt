use Rattle.std.proofs.Common.{◌≡◌, [], ◌∷◌, ◌++◌, ◌+◌, ◌≤◌, List, ℕ, length, ap, sym, subst, ◌∙◌, arith}
use Rattle.std.specs.Prelude.{codes}
use Rattle.std.specs.List.{flat_map}
use Rattle.std.proofs.lemmas.List.{flat_map_more}
use Rattle.generate.specs.Made.{below, ended, frame_lines, lines_text, made_witness}
use Rattle.generate.proofs.TextLengths.{witness_size}
use Rattle.generate.proofs.texts.made_witness.Goals as goal

pub returns-clause-text : goal.returns-clause-text
unfolding made_witness
returns-clause-text c =
    let lines : ℕ → List (List ℕ) = λ i. codes "sat" ∷ codes "b0" ∷ flat_map (frame_lines c.args.n) (below i) in
    let all : c.loop-i.i ≡ c.args.n + 1 = omega arith in
    c.in_ok-put-2.ensures.ok
    ∙ ap (λ t. t ++ ended (codes ".")) c.loop-i.invariant.text
    ∙ flat_map_more ended [] (lines c.loop-i.i) (codes ".")
    ∙ ap (λ i. lines_text (lines i ++ codes "." ∷ [])) all

pub returns-clause-within : goal.returns-clause-within
returns-clause-within c = subst (λ (text : List ℕ). length text ≤ 67108864) (sym (returns-clause-text c)) (witness_size c.args.n c.requires.most)
