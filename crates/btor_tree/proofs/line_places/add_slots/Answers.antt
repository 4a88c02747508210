use Rattle.std.proofs.Common.{◌≡◌, ◌+◌, ℕ, zero, suc, List, [], ◌∷◌, ◌++◌, get_or, take, replicate, Option, None, refl, ap, ◌∙◌, arith}
use Rattle.std.proofs.lemmas.List.{take_all}
use Rattle.btor_tree.proofs.line_places.add_slots.Goals as goal

abbrev none : Option ℕ
none = None

free : (n i : ℕ) → get_or (replicate n none) i None ≡ None
free zero i = refl
free (suc n) zero = refl
free (suc n) (suc i) = free n i

-- free slots change none that was there
more_free : (xs : List (Option ℕ)) (n i : ℕ) → get_or (xs ++ replicate n none) i None ≡ get_or xs i None
more_free [] n i = free n i
more_free (x ∷ xs) n zero = refl
more_free (x ∷ xs) n (suc i) = more_free xs n i

pub returns-clause-same : goal.returns-clause-same
returns-clause-same c = λ i.
    ap (λ xs. get_or xs i None) c.in_ok-extend_from_slice.ensures.items
    ∙ more_free c.resize.new.self.items 64 i
    ∙ ap (λ xs. get_or xs i None) c.in_ok-resize.ensures.items
    ∙ more_free (take (c.args.slot + 1) c.args.slots.now.items) _ i
    ∙ ap (λ xs. get_or xs i None) (take_all (c.args.slot + 1) c.args.slots.now.items (omega (arith, c.requires.missing)))
