-- Each sort line of the order stands directly before a line that has it.
use Rattle.std.proofs.Common.{◌≡◌, ℕ, zero, suc, ◌+◌, Bool, true, false, cond, List, [], ◌∷◌, ◌++◌, length, Option, Some, None, refl, sym, ap, subst, ◌∙◌, arith, inl, inr, ◌⊎◌}
use Rattle.std.specs.Prelude.{slice_get}
use Rattle.std.proofs.lemmas.Bool.{cases_Bool}
use Rattle.std.proofs.lemmas.List.{length_push}
use Rattle.std.proofs.lemmas.Option.{same_Some, none-some}
use Rattle.btor_tree.specs.declared.lines.Line.{Line}
use Rattle.btor_tree.proofs.Grows.{push_cases, slice_get_front, slice_get_end}
use Rattle.btor_rules.specs.declared.operand.Outcome.{Outcome}
use Rattle.btor_simplify.specs.Fates.{sort_for, is_sort}
use Rattle.btor_simplify.specs.Marks.{is_marked, AreMarks, AreKnown}
use Rattle.btor_simplify.specs.Order.{has_sort, IsLiveSort, is_in, with_place, with_sort_of, with_line, order_upto}
use Rattle.btor_simplify.proofs.Ordering.{differ, not_sort, sort_of_line}

-- a line that has this sort is at a place of the order
pub record HasSortAt (lines : List Line) (fates : List Outcome) (places : List ℕ) (q s : ℕ) : Type 0 where
  pub from : ℕ
  pub line : Line
  pub placed : slice_get places q ≡ Some from
  pub at : slice_get lines from ≡ Some line
  pub sorted : has_sort line.op ≡ true
  pub sort : sort_for fates line.sort ≡ s

abbrev pub AreSortsPlaced : List Line → List Outcome → List ℕ → Type 0
AreSortsPlaced lines fates places =
    (q s : ℕ) (k : Line) → slice_get places q ≡ Some s → slice_get lines s ≡ Some k → is_sort k.op ≡ true → HasSortAt lines fates places (q + 1) s

module _ (lines : List Line) (fates : List Outcome) (places : List ℕ) (h : AreSortsPlaced lines fates places) where
  more_placed : (more : List ℕ) (q s : ℕ) → HasSortAt lines fates places q s → HasSortAt lines fates (places ++ more) q s
  more_placed more q s x =
      record { from = x.from; line = x.line; placed = slice_get_front places more q x.from x.placed; at = x.at; sorted = x.sorted; sort = x.sort }

  module _ (i : ℕ) (l : Line) (at : slice_get lines i ≡ Some l) (no : is_sort l.op ≡ false) where
    not_here : (s : ℕ) (k : Line) → i ≡ s → slice_get lines s ≡ Some k → is_sort k.op ≡ true → ⊥
    not_here s k e ak y =
        let one : l ≡ k = same_Some l k (sym at ∙ ap (slice_get lines) e ∙ ak) in
        differ (sym y ∙ ap (λ (x : Line). is_sort x.op) (sym one) ∙ no)

    line_placed : AreSortsPlaced lines fates (places ++ i ∷ [])
    line_placed q s k e ak y =
        elim (push_cases places i q s e) [
          | inl a ↦ more_placed (i ∷ []) (q + 1) s (h q s k a.1 ak y)
          | inr a ↦ absurd (not_here s k a.1 ak y)
        ]

    both_placed : (t : ℕ) → has_sort l.op ≡ true → sort_for fates l.sort ≡ t → AreSortsPlaced lines fates ((places ++ t ∷ []) ++ i ∷ [])
    both_placed t g u q s k e ak y =
        elim (push_cases (places ++ t ∷ []) i q s e) [
          | inl a ↦ elim (push_cases places t q s a.1) [
            | inl b ↦
                let x = more_placed (t ∷ []) (q + 1) s (h q s k b.1 ak y) in
                record { from = x.from; line = x.line; placed = slice_get_front (places ++ t ∷ []) (i ∷ []) (q + 1) x.from x.placed; at = x.at; sorted = x.sorted; sort = x.sort }
            | inr b ↦
                let last : length (places ++ t ∷ []) ≡ q + 1 = omega (arith, length_push places t, b.0) in
                record { from = i; line = l; placed = ap (slice_get ((places ++ t ∷ []) ++ i ∷ [])) (sym last) ∙ slice_get_end (places ++ t ∷ []) i; at = at; sorted = g; sort = u ∙ b.1 }
          ]
          | inr a ↦ absurd (not_here s k a.1 ak y)
        ]

    sort_placed : AreSortsPlaced lines fates (with_sort_of fates l places ++ i ∷ [])
    sort_placed =
        elim (cases_Bool (has_sort l.op)) [
          | inl g ↦ elim (cases_Bool (is_in places (sort_for fates l.sort))) [
            | inl t ↦ subst (λ xs. AreSortsPlaced lines fates (xs ++ i ∷ [])) (sym (by_sort g ∙ ap (λ b. cond b places (places ++ sort_for fates l.sort ∷ [])) t)) line_placed
            | inr n ↦ subst (λ xs. AreSortsPlaced lines fates (xs ++ i ∷ [])) (sym (by_sort g ∙ ap (λ b. cond b places (places ++ sort_for fates l.sort ∷ [])) n)) (both_placed (sort_for fates l.sort) g refl)
          ]
          | inr g ↦ subst (λ xs. AreSortsPlaced lines fates (xs ++ i ∷ [])) (sym (ap (λ b. cond b (with_place places (sort_for fates l.sort)) places) g)) line_placed
        ]
      where
        by_sort : has_sort l.op ≡ true → with_sort_of fates l places ≡ with_place places (sort_for fates l.sort)
        by_sort g = ap (λ b. cond b (with_place places (sort_for fates l.sort)) places) g

module _ (lines : List Line) (fates : List Outcome) (marks : List Bool) (k : AreKnown lines fates) (m : AreMarks lines fates 0 marks) where
  next_placed : (i : ℕ) (places : List ℕ) → AreSortsPlaced lines fates places → is_marked marks i ≡ true → (o : Option Line) → slice_get lines i ≡ o → AreSortsPlaced lines fates (with_line fates i o places)
  next_placed i places h t None at = h
  next_placed i places h t (Some l) at = sort_placed lines fates places h i l at (not_sort lines fates marks k m i l at t)

  pub sorts_placed : (n : ℕ) → AreSortsPlaced lines fates (order_upto lines fates marks n)
  sorts_placed zero = λ q s k e ak y. absurd (none-some s e)
  sorts_placed (suc n) =
      let places = order_upto lines fates marks n in
      let line = with_line fates n (slice_get lines n) places in
      elim (cases_Bool (is_marked marks n)) [
        | inl t ↦ subst (AreSortsPlaced lines fates) (sym (ap (λ b. cond b line places) t)) (next_placed n places (sorts_placed n) t (slice_get lines n) refl)
        | inr f ↦ subst (AreSortsPlaced lines fates) (sym (ap (λ b. cond b line places) f)) (sorts_placed n)
      ]

-- each place of the order is that of a marked line or of a sort line
abbrev pub AreAll : (ℕ → Type 0) → List ℕ → Type 0
AreAll P places = (q i : ℕ) → slice_get places q ≡ Some i → P i

all_push : (P : ℕ → Type 0) (places : List ℕ) (i : ℕ) → AreAll P places → P i → AreAll P (places ++ i ∷ [])
all_push P places i h p q j e = elim (push_cases places i q j e) [ inl a ↦ h q j a.1 | inr a ↦ subst P a.1 p ]

all_place : (P : ℕ → Type 0) (places : List ℕ) (s : ℕ) → AreAll P places → P s → AreAll P (with_place places s)
all_place P places s h p =
    elim (cases_Bool (is_in places s)) [
      | inl t ↦ subst (AreAll P) (sym (ap (λ b. cond b places (places ++ s ∷ [])) t)) h
      | inr n ↦ subst (AreAll P) (sym (ap (λ b. cond b places (places ++ s ∷ [])) n)) (all_push P places s h p)
    ]

abbrev pub IsMarkedOrSort : List Line → List Outcome → List Bool → ℕ → Type 0
IsMarkedOrSort lines fates marks i = (is_marked marks i ≡ true) ⊎ IsLiveSort lines fates i

module _ (lines : List Line) (fates : List Outcome) (marks : List Bool) (k : AreKnown lines fates) where
  all_sort : (places : List ℕ) (i : ℕ) (l : Line) → slice_get lines i ≡ Some l → AreAll (IsMarkedOrSort lines fates marks) places → AreAll (IsMarkedOrSort lines fates marks) (with_sort_of fates l places)
  all_sort places i l at h =
      elim (cases_Bool (has_sort l.op)) [
        | inl g ↦ subst (AreAll (IsMarkedOrSort lines fates marks)) (sym (ap (λ b. cond b (with_place places (sort_for fates l.sort)) places) g)) (all_place (IsMarkedOrSort lines fates marks) places (sort_for fates l.sort) h (inr (sort_of_line lines fates i l k at g).live))
        | inr g ↦ subst (AreAll (IsMarkedOrSort lines fates marks)) (sym (ap (λ b. cond b (with_place places (sort_for fates l.sort)) places) g)) h
      ]

  all_line : (i : ℕ) (places : List ℕ) → AreAll (IsMarkedOrSort lines fates marks) places → is_marked marks i ≡ true → (o : Option Line) → slice_get lines i ≡ o → AreAll (IsMarkedOrSort lines fates marks) (with_line fates i o places)
  all_line i places h t None at = h
  all_line i places h t (Some l) at = all_push (IsMarkedOrSort lines fates marks) (with_sort_of fates l places) i (all_sort places i l at h) (inl t)

  pub all_marked : (n : ℕ) → AreAll (IsMarkedOrSort lines fates marks) (order_upto lines fates marks n)
  all_marked zero = λ q i e. absurd (none-some i e)
  all_marked (suc n) =
      let places = order_upto lines fates marks n in
      let line = with_line fates n (slice_get lines n) places in
      elim (cases_Bool (is_marked marks n)) [
        | inl t ↦ subst (AreAll (IsMarkedOrSort lines fates marks)) (sym (ap (λ b. cond b line places) t)) (all_line n places (all_marked n) t (slice_get lines n) refl)
        | inr f ↦ subst (AreAll (IsMarkedOrSort lines fates marks)) (sym (ap (λ b. cond b line places) f)) (all_marked n)
      ]
