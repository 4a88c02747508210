-- Lines that say the same have the same width, and what becomes of a line keeps its width.
use Rattle.std.proofs.Common.{◌≡◌, ℕ, ◌<◌, ◌≤◌, true, false, cond, List, [], ◌∷◌, ◌++◌, length, take, Option, Some, refl, sym, ap, subst, ◌∙◌, arith, inl, inr, ◌⊎◌}
use Rattle.std.specs.Prelude.{slice_get, IfOk}
use Rattle.std.specs.declared.result.Result.{Result}
use Rattle.std.specs.declared.result.Result.TheVariants.{Ok, Err}
use Rattle.std.proofs.lemmas.List.{get_or-take}
use Rattle.std.proofs.lemmas.Bool.{cases_Bool}
use Rattle.word_core.specs.Words.{BitVector}
use Rattle.btor_tree.specs.declared.args.Arg.{Arg}
use Rattle.btor_tree.specs.declared.lines.Line.{Line}
use Rattle.btor_tree.specs.declared.lines.LineOp.{LineOp}
use Rattle.btor_tree.specs.declared.lines.LineOp.TheVariants as op
use Rattle.btor_tree.specs.Fits.{OpFits, IsWellFormed, has_word, sort_at, sort_width, width_at}
use Rattle.btor_tree.specs.Sharing.{is_shared}
use Rattle.btor_tree.proofs.AtPlaces.{width_of_sort, width_of_line}
use Rattle.btor_rules.specs.declared.operand.Outcome.{Outcome}
use Rattle.btor_rules.specs.declared.operand.Outcome.TheVariants.{Stays, Constant, Argument}
use Rattle.btor_rules.specs.Rules.{outcome}
use Rattle.btor_rules.specs.Words.{OutcomeFits}
use Rattle.std.specs.BTreeMap.{BTreeMap, get}
use Rattle.text_core.specs.declared.errors.NoMemory.{NoMemory}
use Rattle.btor_tree.specs.LineKeys.{EntersKey}
use Rattle.btor_simplify.specs.declared.contents.Content.{Content}
use Rattle.btor_simplify.specs.Contents.{content_cmp, IsSharedBy}
use Rattle.btor_simplify.proofs.Sharing.{fate_is, has_next}
use Rattle.btor_simplify.specs.Fates.{fate_at, place_by, sort_for, Lives, operands_of, content_as_it_is, content_by, Says, IsSharedFate, IsFateBy, IsFate, KeepsWidth, AreFates, HasContents, IsNextLine, is_sort}
use Rattle.btor_simplify.proofs.Steps.{Worded, worded_line, shared_word, no_sort_at, moved_to, moved_arg, arg_of, fits, earlier, outcome_fits, words, width_in_lines}

pub ok_two : {A E : Type 0} (r : Result A E) (P Q S : A → Type 0) → ((x : A) → P x → Q x → S x) → IfOk r P → IfOk r Q → IfOk r S
ok_two (Ok x) P Q S f p q = f x p q
ok_two (Err e) P Q S f p q = tt

pub ok_one : {A E : Type 0} (r : Result A E) (P S : A → Type 0) → ((x : A) → P x → S x) → IfOk r P → IfOk r S
ok_one (Ok x) P S f p = f x p
ok_one (Err e) P S f p = tt

pub sort_is : (o : LineOp) → is_sort o ≡ true → (w : ℕ) × (o ≡ op.Sort w)
sort_is (op.Sort w) h = (w, refl)
sort_is o h = absurd (cc)

-- what a line says tells its width: that of a sort line, or that of a word
abbrev Extent : List Line → Content → ℕ → Type 0
Extent lines k p =
    ((k.kind ≡ 1) × (width_at lines p ≡ 0) × (sort_at lines p ≡ k.number)) ⊎ ((k.kind ≡ 1 → ⊥) × (width_at lines p ≡ sort_at lines k.sort) × (sort_at lines p ≡ 0))

same_extent : (lines : List Line) (k : Content) (p q : ℕ) → Extent lines k p → Extent lines k q → (width_at lines p ≡ width_at lines q) × (sort_at lines p ≡ sort_at lines q)
same_extent lines k p q a b =
    elim a [
      | inl x ↦ elim b [ inl y ↦ (x.1 ∙ sym y.1, x.2 ∙ sym y.2) | inr y ↦ absurd (y.0 x.0) ]
      | inr x ↦ elim b [ inl y ↦ absurd (x.0 y.0) | inr y ↦ (x.1 ∙ sym y.1, x.2 ∙ sym y.2) ]
    ]

content_other : (lines : List Line) (fates : List Outcome) (o : LineOp) (s : ℕ) (args : List Arg) → is_sort o ≡ false → ((content_as_it_is lines fates o s args).kind ≡ 1 → ⊥) × ((content_as_it_is lines fates o s args).sort ≡ sort_for fates s)
content_other lines fates (op.Sort w) s args h = absurd (cc)
content_other lines fates o s args h = (λ e. absurd (omega (arith, e)), refl)

no_word_sort : (o : LineOp) → is_sort o ≡ true → has_word o ≡ false
no_word_sort (op.Sort w) h = refl
no_word_sort o h = absurd (cc)

module _ (lines : List Line) (w : IsWellFormed lines) (p : ℕ) (m : Line) (at : slice_get lines p ≡ Some m) (shared : is_shared m.op ≡ true) (fates : List Outcome) (moved : is_sort m.op ≡ false → sort_at lines (sort_for fates m.sort) ≡ sort_at lines m.sort) where
  no_width : is_sort m.op ≡ true → width_at lines p ≡ 0
  no_width h = ap (λ (o : Option Line). width_of_line lines o) at ∙ ap (λ b. cond b (sort_at lines m.sort) 0) (no_word_sort m.op h)

  of_word : is_sort m.op ≡ false → (width_at lines p ≡ sort_at lines (sort_for fates m.sort)) × (sort_at lines p ≡ 0)
  of_word h =
      let word = worded_line lines p m w at (shared_word m.op shared h) in
      let wide : 1 ≤ width_at lines p = omega (arith, word.least, word.width) in
      (word.width ∙ sym (moved h), no_sort_at lines p wide)

  extent_sort : is_sort m.op ≡ true → Extent lines (content_as_it_is lines fates m.op m.sort m.args) p
  extent_sort h =
      let s = sort_is m.op h in
      let k : content_as_it_is lines fates m.op m.sort m.args ≡ content_as_it_is lines fates (op.Sort s.0) m.sort m.args = ap (λ o. content_as_it_is lines fates o m.sort m.args) s.1 in
      inl (ap (λ (c : Content). c.kind) k, no_width h, ap (λ (o : Option Line). width_of_sort o) at ∙ ap sort_width s.1 ∙ sym (ap (λ (c : Content). c.number) k))

  extent_word : is_sort m.op ≡ false → Extent lines (content_as_it_is lines fates m.op m.sort m.args) p
  extent_word h =
      let c = content_other lines fates m.op m.sort m.args h in
      let g = of_word h in
      inr (c.0, g.0 ∙ ap (sort_at lines) (sym c.1), g.1)

  extent_stays : Extent lines (content_as_it_is lines fates m.op m.sort m.args) p
  extent_stays = elim (cases_Bool (is_sort m.op)) [ inl h ↦ extent_sort h | inr h ↦ extent_word h ]

  pub extent : (g : Outcome) → Lives g → KeepsWidth lines fates p g → Extent lines (content_by lines fates g m) p
  extent Stays l k = extent_stays
  extent (Argument b) l k = absurd l
  extent (Constant c) l k =
      elim (cases_Bool (is_sort m.op)) [
        | inl h ↦ absurd (omega (arith, k.0.0, k.1, no_width h))
        | inr h ↦ let g = of_word h in inr (λ e. absurd (omega (arith, e)), g.0, g.1)
      ]

-- for a line that stays
keeps_prefix : (lines : List Line) (fates more : List Outcome) (p : ℕ) (g : Outcome) → Lives g → KeepsWidth lines fates p g → KeepsWidth lines more p g
keeps_prefix lines fates more p Stays l k = tt
keeps_prefix lines fates more p (Constant c) l k = k
keeps_prefix lines fates more p (Argument b) l k = absurd l

pub says_extent : (lines : List Line) (fates : List Outcome) (p : ℕ) (content : Content) → IsWellFormed lines → AreFates lines fates → Says lines fates p content → Extent lines content p
says_extent lines fates p content w known s =
    let moved : is_sort s.line.op ≡ false → sort_at lines (sort_for (take p fates) s.line.sort) ≡ sort_at lines s.line.sort =
    λ h.
    let word = worded_line lines p s.line w s.at (shared_word s.line.op s.shared h) in
    let same : fate_at (take p fates) s.line.sort ≡ fate_at fates s.line.sort = get_or-take p fates s.line.sort Stays word.inside in
    let lt : s.line.sort < length fates = omega (arith, word.inside, s.there) in
    ap (λ f. sort_at lines (place_by f s.line.sort)) same ∙ (moved_to lines fates s.line.sort known lt).sort in
    subst (λ k. Extent lines k p) s.says
    (extent lines w p s.line s.at s.shared (take p fates) moved (fate_at fates p) s.lives (keeps_prefix lines fates (take p fates) p (fate_at fates p) s.lives (known.widths p s.there)))

module _ (lines : List Line) (fates : List Outcome) (l : Line) (next : IsNextLine lines fates l) (shared : is_shared l.op ≡ true) where
  word_here : is_sort l.op ≡ false → Worded lines (length fates) l
  word_here h = worded_line lines (length fates) l next.well_formed next.at (shared_word l.op shared h)

  moved_here : is_sort l.op ≡ false → sort_at lines (sort_for fates l.sort) ≡ sort_at lines l.sort
  moved_here h = (moved_to lines fates l.sort next.known (word_here h).inside).sort

  pub shared_width : (own f : Outcome) → Lives own → KeepsWidth lines fates (length fates) own → IsSharedFate lines fates (content_by lines fates own l) own f → KeepsWidth lines fates (length fates) f
  shared_width own f lives keeps h =
      elim h [
        | inl s ↦
            let same = same_extent lines (content_by lines fates own l) s.0 (length fates) (says_extent lines fates s.0 (content_by lines fates own l) next.well_formed next.known s.1)
            (extent lines next.well_formed (length fates) l next.at shared fates moved_here own lives keeps) in
            subst (KeepsWidth lines fates (length fates)) (sym s.2) (s.1.there, s.1.lives, same.0, same.1)
        | inr s ↦ subst (KeepsWidth lines fates (length fates)) (sym s.0) keeps
      ]

  by_own : (own f : Outcome) → Lives own → IsSharedFate lines fates (content_by lines fates own l) own f → IsFateBy lines fates l own f
  by_own Stays f lives h = h
  by_own (Constant c) f lives h = h
  by_own (Argument a) f lives h = absurd lives

  pub fate_by : (out f : Outcome) → out ≡ outcome l.op (operands_of lines fates l.args) → IsFateBy lines fates l out f → IsFate lines fates l f
  fate_by out f e h = (λ g. absurd (true_false (sym shared ∙ g)), λ g. subst (λ o. IsFateBy lines fates l o f) e h)
    where
      true_false : true ≡ false → ⊥
      true_false e = absurd (cc)

  pub shared_is : (own f : Outcome) → own ≡ outcome l.op (operands_of lines fates l.args) → Lives own → IsSharedFate lines fates (content_by lines fates own l) own f → IsFate lines fates l f
  shared_is own f e lives h = fate_by own f e (by_own own f lives h)

  -- a sort line stays
  sort_stays : (o : LineOp) (before : List Line) (s : ℕ) (args : List Arg) → OpFits before s o args → (outcome o (operands_of lines fates args) ≡ Stays → ⊥) → is_sort o ≡ false
  sort_stays (op.Sort w) before s args f h = absurd (h (ap (λ more. outcome (op.Sort w) (operands_of lines fates more)) f.3))
  sort_stays o before s args f h = refl

  pub no_sort : (outcome l.op (operands_of lines fates l.args) ≡ Stays → ⊥) → is_sort l.op ≡ false
  no_sort h = sort_stays l.op (take (length fates) lines) l.sort l.args (fits lines fates l next).body.sorts h

  constant_not : (c : BitVector) → Constant c ≡ Stays → ⊥
  constant_not c e = absurd (cc)

  argument_not : (a : Arg) → Argument a ≡ Stays → ⊥
  argument_not a e = absurd (cc)

  pub no_constant_sort : (c : BitVector) → Constant c ≡ outcome l.op (operands_of lines fates l.args) → is_sort l.op ≡ false
  no_constant_sort c e = no_sort (λ s. constant_not c (e ∙ s))

  pub sort_known : (c : BitVector) → Constant c ≡ outcome l.op (operands_of lines fates l.args) → l.sort < length fates
  sort_known c e = (word_here (no_constant_sort c e)).inside

  width_here : is_sort l.op ≡ false → sort_at (take (length fates) lines) l.sort ≡ width_at lines (length fates)
  width_here h = let word = word_here h in sym word.sort_at_front ∙ sym word.width

  pub constant_keeps : (c : BitVector) → Constant c ≡ outcome l.op (operands_of lines fates l.args) → KeepsWidth lines fates (length fates) (Constant c)
  constant_keeps c e =
      let f = subst (λ o. OutcomeFits o (operands_of lines fates l.args) (sort_at (take (length fates) lines) l.sort)) (sym e) (outcome_fits lines fates l next shared) in
      (f.0, f.1 ∙ width_here (no_constant_sort c e))

  pub argument_keeps : (a : Arg) → Argument a ≡ outcome l.op (operands_of lines fates l.args) → KeepsWidth lines fates (length fates) (Argument a)
  argument_keeps a e =
      let s = no_sort (λ g. argument_not a (e ∙ g)) in
      let f = subst (λ o. OutcomeFits o (operands_of lines fates l.args) (sort_at (take (length fates) lines) l.sort)) (sym e) (outcome_fits lines fates l next shared) in
      let b = arg_of lines fates (length fates) (take (length fates) lines) _ l.args (earlier lines fates l next) (words lines fates l next shared) f in
      let m = moved_arg lines fates b.0 next.known b.1 in
      let wide : 1 ≤ width_at lines b.0.line = width_in_lines lines fates l next shared b.0 b.2 in
      let same : width_at lines a.line ≡ width_at lines (length fates) = ap (width_at lines) b.3.0 ∙ b.3.1 ∙ width_here s in
      let word = word_here s in
      let here : 1 ≤ width_at lines a.line = omega (arith, same, word.width, word.least) in (
        omega (arith, b.3.0, m.le, b.1),
        subst (λ n. Lives (fate_at fates n)) (sym b.3.0) m.lives,
        same,
        no_sort_at lines a.line here ∙ sym (no_sort_at lines (length fates) (omega (arith, same, here))),
      )

-- what sharing gives, for a line whose outcome is known
module _ (lines : List Line) (fates : List Outcome) (l : Line) (next : IsNextLine lines fates l) (shared : is_shared l.op ≡ true) (own : Outcome) (lives : Lives own) (e : own ≡ outcome l.op (operands_of lines fates l.args)) (keeps : KeepsWidth lines fates (length fates) own) (old new : BTreeMap Content ℕ) (has : HasContents lines fates old) (content : Content) (same : content ≡ content_by lines fates own l) (r : Result Outcome NoMemory) (by : IfOk r (IsSharedBy (get content_cmp old content) own)) where
  shared_here : (f : Outcome) → IsSharedBy (get content_cmp old content) own f → IsSharedFate lines fates (content_by lines fates own l) own f
  shared_here f s = subst (λ k. IsSharedFate lines fates k own f) same (fate_is lines fates own f old old l content has next.at shared lives (sym same) s)

  pub fate_ok : IfOk r (IsFate lines fates l)
  fate_ok = ok_one r (IsSharedBy (get content_cmp old content) own) (IsFate lines fates l) (λ f s. shared_is lines fates l next shared own f e lives (shared_here f s)) by

  pub width_ok : IfOk r (KeepsWidth lines fates (length fates))
  width_ok = ok_one r (IsSharedBy (get content_cmp old content) own) (KeepsWidth lines fates (length fates)) (λ f s. shared_width lines fates l next shared own f lives keeps (shared_here f s)) by

  pub has_ok : IfOk r (λ f. EntersKey content_cmp (get content_cmp old content) content (length fates) old new) → IfOk r (λ f. HasContents lines (fates ++ f ∷ []) new)
  has_ok enters =
      ok_two r (IsSharedBy (get content_cmp old content) own) (λ f. EntersKey content_cmp (get content_cmp old content) content (length fates) old new) (λ f. HasContents lines (fates ++ f ∷ []) new)
      (λ f s n. has_next lines fates own f old new l content has next.at shared lives (sym same) s n) by enters
