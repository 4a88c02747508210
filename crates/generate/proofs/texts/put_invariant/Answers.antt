use Rattle.std.proofs.Common.{◌≡◌, [], ◌∷◌, ◌++◌, List, ℕ, ap, sym, arith, ◌∙◌}
use Rattle.std.specs.Prelude.{codes, decimal}
use Rattle.std.proofs.lemmas.List.{append_assoc}
use Rattle.generate.proofs.texts.put_invariant.Goals as goal

-- three pieces one after the other, of which the last ends the line
in_pieces : (text a b c end : List ℕ) → ((text ++ a) ++ b) ++ (c ++ end) ≡ text ++ ((a ++ (b ++ c)) ++ end)
in_pieces text a b c end =
    append_assoc (text ++ a) b (c ++ end) ∙ append_assoc text a (b ++ (c ++ end)) ∙ ap (λ x. text ++ x) (ap (λ x. a ++ x) (sym (append_assoc b c end)) ∙ sym (append_assoc a (b ++ c) end))

pub returns : goal.returns
returns c =
    let first : c.put.new.self ≡ c.args.text.now ++ codes "INVARSPEC !c" = c.in_ok-put.ensures.ok in
    let second : c.put-2.new.self ≡ c.put.new.self ++ decimal c.args.i = grind (arith, c.in_ok-put-2.ensures.ok, c.as_bytes.ensures.value, c.format.ensures.text) in
    c.in_ok-put-3.ensures.ok
    ∙ ap (λ t. t ++ codes ".v\n") (second ∙ ap (λ t. t ++ decimal c.args.i) first)
    ∙ in_pieces c.args.text.now (codes "INVARSPEC !c") (decimal c.args.i) (codes ".v") (10 ∷ [])
