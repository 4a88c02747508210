-- Scripts that are built of what is read: each element of a list once.
use Rattle.std.proofs.Common.{◌≡◌, List, [], ◌∷◌, ◌++◌, map, reverse, sym, ap, ◌∙◌}
use Rattle.std.proofs.lemmas.List.{reverse-append}
use Rattle.moxi_attributes.specs.laws.Collecting.{list_step}
use Rattle.moxi_terms.proofs.ScopeLaws.{map_end}

-- the last element is taken away, and what is made of it put at the end
pub taken_step : {A B C D : Type 0} (f : A → D) (g : C → D) (h : B → C) (all more : List A) (xs rest : List B) (y : A) (x : B) (total : List D)
    → more ≡ all ++ y ∷ [] → f y ≡ g (h x) → xs ≡ rest ++ x ∷ [] → map f all ++ map g (map h (reverse xs)) ≡ total → map f more ++ map g (map h (reverse rest)) ≡ total
taken_step f g h all more xs rest y x total made same taken before =
    list_step (map f all) (map f more) (f y ∷ []) (map g (map h (reverse rest))) (map g (map h (reverse xs))) total
    (ap (map f) made ∙ map_end f all y)
    (ap (λ zs. map g (map h (reverse zs))) taken ∙ ap (λ zs. map g (map h zs)) (reverse-append rest (x ∷ [])) ∙ ap (λ z. z ∷ map g (map h (reverse rest))) (sym same))
    before
