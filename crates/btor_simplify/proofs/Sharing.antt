-- Lines that stay and what they say, where one more fate is known.
use Rattle.std.proofs.Common.{◌≡◌, ℕ, ◌<◌, ◌≤◌, true, false, cond, List, [], ◌∷◌, ◌++◌, length, take, Option, Some, None, refl, sym, ap, subst, ◌∙◌, arith, inl, inr, ◌⊎◌}
use Rattle.std.specs.Prelude.{slice_get}
use Rattle.std.specs.BTreeMap.{BTreeMap, IsUnchanged, get, is_at}
use Rattle.std.specs.Map.{lookup}
use Rattle.std.proofs.lemmas.Bool.{cases_Bool, cases_lt}
use Rattle.std.proofs.lemmas.List.{length_push, get_or_append_left, get_or_push, take-append-le, take_all}
use Rattle.std.proofs.lemmas.Option.{same_Some, none-some}
use Rattle.btor_tree.specs.declared.lines.Line.{Line}
use Rattle.btor_tree.specs.LineKeys.{EntersKey}
use Rattle.btor_tree.specs.Sharing.{is_shared}
use Rattle.btor_rules.specs.declared.operand.Outcome.{Outcome}
use Rattle.btor_rules.specs.declared.operand.Outcome.TheVariants.{Stays}
use Rattle.btor_simplify.specs.declared.contents.Content.{Content}
use Rattle.btor_simplify.specs.Contents.{content_cmp, IsSharedBy}
use Rattle.btor_simplify.specs.Fates.{fate_at, Lives, content_by, Says, IsSharedFate, HasContents}
use Rattle.btor_simplify.proofs.Keys.{at_itself, at_same}

module _ (lines : List Line) (fates : List Outcome) (f : Outcome) where
  pub fate_before : (p : ℕ) → p < length fates → fate_at (fates ++ f ∷ []) p ≡ fate_at fates p
  fate_before p h = get_or_append_left fates (f ∷ []) Stays p h

  pub fate_here : fate_at (fates ++ f ∷ []) (length fates) ≡ f
  fate_here = get_or_push fates f Stays (length fates) refl

  pub front : (p : ℕ) → p ≤ length fates → take p (fates ++ f ∷ []) ≡ take p fates
  front p h = take-append-le p fates (f ∷ []) h

  pub says_more : (p : ℕ) (content : Content) → Says lines fates p content → Says lines (fates ++ f ∷ []) p content
  says_more p content s =
      let le : p ≤ length fates = omega (arith, s.there) in
      record {
        line = s.line;
        there = omega (arith, s.there, length_push fates f);
        at = s.at;
        shared = s.shared;
        lives = subst Lives (sym (fate_before p s.there)) s.lives;
        says = ap (λ (g : Outcome). content_by lines (take p (fates ++ f ∷ [])) g s.line) (fate_before p s.there) ∙ ap (λ (fs : List Outcome). content_by lines fs (fate_at fates p) s.line) (front p le) ∙ s.says;
      }

  says_before : (p : ℕ) (content : Content) → p < length fates → Says lines (fates ++ f ∷ []) p content → Says lines fates p content
  says_before p content lt s =
      let le : p ≤ length fates = omega (arith, lt) in
      record {
        line = s.line;
        there = lt;
        at = s.at;
        shared = s.shared;
        lives = subst Lives (fate_before p lt) s.lives;
        says = ap (λ (fs : List Outcome). content_by lines fs (fate_at fates p) s.line) (sym (front p le)) ∙ ap (λ (g : Outcome). content_by lines (take p (fates ++ f ∷ [])) g s.line) (sym (fate_before p lt)) ∙ s.says;
      }

  -- what is said behind one more fate was said before, or is said by the last line
  pub says_cases : (p : ℕ) (content : Content) → Says lines (fates ++ f ∷ []) p content → Says lines fates p content ⊎ ((p ≡ length fates) × Lives f × ((l : Line) → slice_get lines (length fates) ≡ Some l → (is_shared l.op ≡ true) × (content_by lines fates f l ≡ content)))
  says_cases p content s =
      elim below [
        | inl lt ↦ inl (says_before p content lt s)
        | inr e ↦
            let here : fate_at (fates ++ f ∷ []) p ≡ f = ap (fate_at (fates ++ f ∷ [])) e ∙ fate_here in
            let whole : take p (fates ++ f ∷ []) ≡ fates = ap (λ n. take n (fates ++ f ∷ [])) e ∙ front (length fates) (omega arith) ∙ take_all (length fates) fates (omega arith) in
            inr (
              e,
              subst Lives here s.lives,
              λ l at.
                  let one : s.line ≡ l = same_Some s.line l (sym s.at ∙ ap (slice_get lines) e ∙ at) in (
                    ap (λ (k : Line). is_shared k.op) (sym one) ∙ s.shared,
                    ap (content_by lines fates f) (sym one) ∙ ap (λ (fs : List Outcome). content_by lines fs f s.line) (sym whole) ∙ ap (λ (g : Outcome). content_by lines (take p (fates ++ f ∷ [])) g s.line) (sym here) ∙ s.says,
                  ),
            )
      ]
    where
      below : (p < length fates) ⊎ (p ≡ length fates)
      below = let h = s.there in let l = length_push fates f in elim (cases_lt p (length fates)) [ inl a ↦ inl a | inr b ↦ inr (omega (arith, b, h, l)) ]

  -- the last line, where it stays
  pub says_here : (l : Line) → slice_get lines (length fates) ≡ Some l → is_shared l.op ≡ true → Lives f → Says lines (fates ++ f ∷ []) (length fates) (content_by lines fates f l)
  says_here l at shared lives =
      let whole : take (length fates) (fates ++ f ∷ []) ≡ fates = front (length fates) (omega arith) ∙ take_all (length fates) fates (omega arith) in
      record {
        line = l;
        there = omega (arith, length_push fates f);
        at = at;
        shared = shared;
        lives = subst Lives (sym fate_here) lives;
        says = ap (λ (g : Outcome). content_by lines (take (length fates) (fates ++ f ∷ [])) g l) fate_here ∙ ap (λ (fs : List Outcome). content_by lines fs f l) whole;
      }

-- where nothing is entered
pub has_same : (lines : List Line) (fates : List Outcome) (f : Outcome) (places : BTreeMap Content ℕ) → HasContents lines fates places → ((l : Line) → slice_get lines (length fates) ≡ Some l → is_shared l.op ≡ true → Lives f → ⊥) → (l : Line) → slice_get lines (length fates) ≡ Some l → HasContents lines (fates ++ f ∷ []) places
has_same lines fates f places has not l at =
    record {
      found = λ content p e. says_more lines fates f p content (has.found content p e);
      missing = λ content e p s. elim (says_cases lines fates f p content s) [ inl b ↦ has.missing content e p b | inr h ↦ not l at (h.2 l at).0 h.1 ];
    }

pub has_unchanged : (lines : List Line) (fates : List Outcome) (old new : BTreeMap Content ℕ) → IsUnchanged old new → HasContents lines fates old → HasContents lines fates new
has_unchanged lines fates old new h has =
    let same : (k : Content) → get content_cmp new k ≡ get content_cmp old k = λ k. ap (lookup (is_at (content_cmp k))) h in
    record { found = λ k p e. has.found k p (sym (same k) ∙ e); missing = λ k e. has.missing k (sym (same k) ∙ e) }

-- where a line that stays says what no earlier one says
has_entered : (lines : List Line) (fates : List Outcome) (own : Outcome) (old new : BTreeMap Content ℕ) (l : Line) (content : Content) → HasContents lines fates old → slice_get lines (length fates) ≡ Some l → is_shared l.op ≡ true → Lives own → content_by lines fates own l ≡ content → ((q : Content) → get content_cmp new q ≡ cond (is_at (content_cmp content) q) (Some (length fates)) (get content_cmp old q)) → HasContents lines (fates ++ own ∷ []) new
has_entered lines fates own old new l content has at shared lives same enters =
    let here : Says lines (fates ++ own ∷ []) (length fates) content = subst (Says lines (fates ++ own ∷ []) (length fates)) same (says_here lines fates own l at shared lives) in
    record {
      found = λ q p e. elim (cases_Bool (is_at (content_cmp content) q)) [
        | inl t ↦
            let last : length fates ≡ p = same_Some (length fates) p (sym (ap (λ b. cond b (Some (length fates)) (get content_cmp old q)) t) ∙ sym (enters q) ∙ e) in
            subst (λ n. Says lines (fates ++ own ∷ []) n q) last (subst (Says lines (fates ++ own ∷ []) (length fates)) (at_same content q t) here)
        | inr t ↦ says_more lines fates own p q (has.found q p (sym (ap (λ b. cond b (Some (length fates)) (get content_cmp old q)) t) ∙ sym (enters q) ∙ e))
      ];
      missing = λ q e p s. elim (cases_Bool (is_at (content_cmp content) q)) [
        | inl t ↦ none-some (length fates) (sym e ∙ enters q ∙ ap (λ b. cond b (Some (length fates)) (get content_cmp old q)) t)
        | inr t ↦ elim (says_cases lines fates own p q s) [
          | inl b ↦ has.missing q (sym (ap (λ b. cond b (Some (length fates)) (get content_cmp old q)) t) ∙ sym (enters q) ∙ e) p b
          | inr h ↦ true_false (sym (at_itself content) ∙ ap (is_at (content_cmp content)) (sym same ∙ (h.2 l at).1) ∙ t)
        ]
      ];
    }
  where
    true_false : true ≡ false → ⊥
    true_false e = absurd (cc)

-- what sharing makes of a line
module _ (lines : List Line) (fates : List Outcome) (own f : Outcome) (old new : BTreeMap Content ℕ) (l : Line) (content : Content) (has : HasContents lines fates old) (at : slice_get lines (length fates) ≡ Some l) (shared : is_shared l.op ≡ true) (lives : Lives own) (same : content_by lines fates own l ≡ content) where
  by_found : (o : Option ℕ) → get content_cmp old content ≡ o → IsSharedBy o own f → IsSharedFate lines fates content own f
  by_found None e s = inr (s, λ p. has.missing content e p)
  by_found (Some p) e s = inl (p, has.found content p e, s)

  pub fate_is : IsSharedBy (get content_cmp old content) own f → IsSharedFate lines fates content own f
  fate_is s = by_found (get content_cmp old content) refl s

  has_found : (o : Option ℕ) → get content_cmp old content ≡ o → IsSharedBy o own f → EntersKey content_cmp o content (length fates) old new → HasContents lines (fates ++ f ∷ []) new
  has_found None e s enters =
      subst (λ g. HasContents lines (fates ++ g ∷ []) new) (sym s) (has_entered lines fates own old new l content has at shared lives same enters)
  has_found (Some p) e s unchanged =
      has_same lines fates f new (has_unchanged lines fates old new unchanged has) (λ m g h b. subst Lives s b) l at

  pub has_next : IsSharedBy (get content_cmp old content) own f → EntersKey content_cmp (get content_cmp old content) content (length fates) old new → HasContents lines (fates ++ f ∷ []) new
  has_next s enters = has_found (get content_cmp old content) refl s enters
