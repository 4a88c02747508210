-- The place of the first sort line of a width, and the table of these places.
use Rattle.std.proofs.Common.{◌≡◌, ℕ, zero, suc, ◌≤◌, Bool, true, false, cond, List, [], ◌∷◌, ◌++◌, length, get_or, Option, Some, None, option_map, refl, sym, ap, ◌∙◌, subst, arith, inl, inr, ◌⊎◌, eqb}
use Rattle.std.specs.Option.{option_or}
use Rattle.std.proofs.lemmas.Bool.{eqb-true, eq-eqb, ne_eqb, cases_eq}
use Rattle.std.proofs.lemmas.Option.{same_Some, none-some}
use Rattle.std.proofs.lemmas.List.{get_or-set_same, get_or-set_other, length-set}
use Rattle.word_core.specs.declared.word.TheConstants.{WIDEST}
use Rattle.btor_tree.specs.declared.lines.Line.{Line}
use Rattle.btor_tree.specs.Fits.{sort_width, sort_place, sort_at}
use Rattle.btor_tree.proofs.AtPlaces.{width_of_sort}
use Rattle.btor_tree.proofs.Grows.{slice_get_end}
use Rattle.btor_tree.specs.Held.{HasSorts, noted}

or_step : (b c : Bool) (o : Option ℕ) (n : ℕ) → cond b (Some 0) (option_map suc (option_or o (cond c (Some n) None))) ≡ option_or (cond b (Some 0) (option_map suc o)) (cond c (Some (suc n)) None)
or_step true c o n = refl
or_step false c (Some x) n = refl
or_step false true None n = refl
or_step false false None n = refl

pub sort_place_push : (lines : List Line) (line : Line) (w : ℕ) → sort_place (lines ++ line ∷ []) w ≡ option_or (sort_place lines w) (cond (eqb (sort_width line.op) w) (Some (length lines)) None)
sort_place_push [] line w = refl
sort_place_push (l ∷ ls) line w =
    ap (λ o. cond (eqb (sort_width l.op) w) (Some 0) (option_map suc o)) (sort_place_push ls line w)
    ∙ or_step (eqb (sort_width l.op) w) (eqb (sort_width line.op) w) (sort_place ls w) (length ls)

place_step : (b : Bool) (o : Option ℕ) (p : ℕ) → cond b (Some 0) (option_map suc o) ≡ Some p → ((b ≡ true) × (p ≡ 0)) ⊎ ((q : ℕ) × (o ≡ Some q) × (p ≡ suc q))
place_step true o p h = inl (refl, sym (same_Some 0 p h))
place_step false None p h = absurd (none-some p h)
place_step false (Some q) p h = inr (q, refl, sym (same_Some (suc q) p h))

-- the line at that place is a sort line of that width
pub sort_place_is : (lines : List Line) (w p : ℕ) → sort_place lines w ≡ Some p → sort_at lines p ≡ w
sort_place_is [] w p h = absurd (none-some p h)
sort_place_is (l ∷ ls) w p h =
    elim (place_step (eqb (sort_width l.op) w) (sort_place ls w) p h) [
      | inl z ↦ ap (sort_at (l ∷ ls)) z.1 ∙ eqb-true (sort_width l.op) w z.0
      | inr s ↦ ap (sort_at (l ∷ ls)) s.2 ∙ sort_place_is ls w s.0 s.1
    ]

pub or_none : {X : Type 0} (o : Option X) → o ≡ option_or o None
or_none None = refl
or_none (Some x) = refl

noted_at : (sorts : List (Option ℕ)) (k n v : ℕ) → k ≤ length sorts → get_or (noted sorts k n) v None ≡ option_or (get_or sorts v None) (cond (eqb k (suc v)) (Some n) None)
noted_at sorts zero n v h =
    or_none (get_or sorts v None) ∙ ap (λ b. option_or (get_or sorts v None) (cond b (Some n) None)) (sym (ne_eqb 0 (suc v) (λ same. omega (arith, same))))
noted_at sorts (suc j) n v h =
    elim (cases_eq v j) [
      | inl e ↦
          subst (λ u. get_or (noted sorts (suc j) n) u None ≡ option_or (get_or sorts u None) (cond (eqb (suc j) (suc u)) (Some n) None)) (sym e)
          (get_or-set_same sorts j (option_or (get_or sorts j None) (Some n)) None (omega arith)
          ∙ ap (λ b. option_or (get_or sorts j None) (cond b (Some n) None)) (sym (eq-eqb (suc j) (suc j) refl)))
      | inr d ↦
          get_or-set_other sorts j v (option_or (get_or sorts j None) (Some n)) None d
          ∙ or_none (get_or sorts v None)
          ∙ ap (λ b. option_or (get_or sorts v None) (cond b (Some n) None)) (sym (ne_eqb (suc j) (suc v) (λ same. d (omega (arith, same)))))
    ]

noted_long : (sorts : List (Option ℕ)) (k n : ℕ) → length (noted sorts k n) ≡ length sorts
noted_long sorts zero n = refl
noted_long sorts (suc j) n = length-set sorts j (option_or (get_or sorts j None) (Some n))

pub has_sorts_push : (lines : List Line) (line : Line) (sorts : List (Option ℕ)) → sort_width line.op ≤ WIDEST → HasSorts lines sorts → HasSorts (lines ++ line ∷ []) (noted sorts (sort_width line.op) (length lines))
has_sorts_push lines line sorts fits has =
    record {
      long = noted_long sorts (sort_width line.op) (length lines) ∙ has.long;
      places = λ v h.
          noted_at sorts (sort_width line.op) (length lines) v (omega (arith, has.long, fits))
          ∙ ap (λ o. option_or o (cond (eqb (sort_width line.op) (suc v)) (Some (length lines)) None)) (has.places v h)
          ∙ sym (sort_place_push lines line (suc v));
    }

-- a table with no places
abbrev pub no_places : ℕ → List (Option ℕ)
no_places zero = []
no_places (suc n) = None ∷ no_places n

pub none_at : (n w : ℕ) → get_or (no_places n) w None ≡ None
none_at zero w = refl
none_at (suc n) zero = refl
none_at (suc n) (suc w) = none_at n w

-- a sort line that was added
pub sort_made : (old new : List Line) (l : Line) (p : ℕ) → p ≡ length old → new ≡ old ++ l ∷ [] → sort_at new p ≡ sort_width l.op
sort_made old new l p e is =
    ap (sort_at new) e ∙ ap (λ ls. sort_at ls (length old)) is ∙ ap width_of_sort (slice_get_end old l)
