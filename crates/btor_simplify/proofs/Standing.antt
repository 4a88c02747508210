-- In a list where no rule fits and no two lines say the same, each line stays.
use Rattle.std.proofs.Common.{◌≡◌, ℕ, zero, suc, ◌<◌, ◌≤◌, true, false, cond, List, [], ◌∷◌, length, take, map, Some, None, option_map, refl, sym, ap, ◌∙◌, arith, inl, inr, ◌⊎◌}
use Rattle.std.specs.Prelude.{slice_get}
use Rattle.std.proofs.lemmas.Bool.{cases_lt, cases_Bool}
use Rattle.std.proofs.lemmas.List.{length-take, get_or-take, get_or_past}
use Rattle.std.proofs.lemmas.Option.{same_Some, slice_get-get_or}
use Rattle.word_core.specs.Words.{BitVector}
use Rattle.btor_tree.specs.declared.args.Arg.{Arg}
use Rattle.btor_tree.specs.declared.lines.Line.{Line}
use Rattle.btor_tree.specs.declared.lines.LineOp.{LineOp}
use Rattle.btor_tree.specs.declared.lines.LineOp.TheVariants as op
use Rattle.btor_tree.specs.Fits.{IsWellFormed, is_constant, sort_at, width_at}
use Rattle.btor_tree.specs.Frame.{constant_word, signed_word}
use Rattle.btor_tree.specs.LineKeys.{IsShort}
use Rattle.btor_tree.specs.Sharing.{is_shared, Says}
use Rattle.btor_tree.proofs.Grows.{slice_get_inside, inside_get}
use Rattle.btor_tree.proofs.Keyed.{fits_short}
use Rattle.btor_rules.specs.declared.operand.Operands.TheVariants.{Single, Pair, Triple}
use Rattle.btor_rules.specs.declared.operand.Outcome.{Outcome}
use Rattle.btor_rules.specs.declared.operand.Outcome.TheVariants.{Stays, Constant, Argument}
use Rattle.btor_rules.specs.Rules.{outcome}
use Rattle.btor_simplify.specs.declared.contents.Content.{Content}
use Rattle.btor_simplify.specs.Contents.{content_of}
use Rattle.btor_simplify.specs.Fates.{fate_at, replaced, replaced_by, place_by, sort_for, constant_of, constant_of_line, constant_by, operand_as, operand_of, operands_of, content_of_word, content_or, content_as_it_is, content_by, IsFateBy, is_sort}
use Rattle.btor_simplify.specs.Fates as fates_spec
use Rattle.btor_simplify.specs.Marks.{AreKnown}
use Rattle.btor_simplify.specs.Normal.{AreSameConstants, HasNoTwoSame, FitsNoRule}
use Rattle.btor_simplify.proofs.Keys.{content_same}
use Rattle.btor_simplify.proofs.Ordering.{differ}
use Rattle.btor_simplify.proofs.Normality.{sort_alone}
use Rattle.btor_simplify.proofs.Extents.{sort_is}

-- each line stays
abbrev pub AllStay : List Outcome → Type 0
AllStay fates = (i : ℕ) → fate_at fates i ≡ Stays

module _ (fates : List Outcome) (all : AllStay fates) where
  pub same_arg : (a : Arg) → replaced fates a ≡ a
  same_arg a = ap (λ f. replaced_by f a) (all a.line)

  pub same_args : (args : List Arg) → map (replaced fates) args ≡ args
  same_args [] = refl
  same_args (a ∷ more) = ap (λ x. x ∷ map (replaced fates) more) (same_arg a) ∙ ap (λ xs. a ∷ xs) (same_args more)

  pub same_sort : (s : ℕ) → sort_for fates s ≡ s
  same_sort s = ap (λ f. place_by f s) (all s)

  module _ (lines : List Line) where
    same_operand : (a : Arg) → operand_of lines fates a ≡ operand_of lines [] a
    same_operand a =
        ap (operand_as lines fates) (same_arg a) ∙ ap (λ f. record { arg = a; width = width_at lines a.line; constant = option_map (signed_word a.negated) (constant_by f (constant_of_line lines (slice_get lines a.line))) }) (all a.line)

    same_operands : (args : List Arg) → operands_of lines fates args ≡ operands_of lines [] args
    same_operands [] = refl
    same_operands (a ∷ []) = ap Single (same_operand a)
    same_operands (a ∷ b ∷ []) = ap (λ u. Pair u (operand_of lines fates b)) (same_operand a) ∙ ap (Pair (operand_of lines [] a)) (same_operand b)
    same_operands (a ∷ b ∷ c ∷ []) =
        ap (λ u. Triple u (operand_of lines fates b) (operand_of lines fates c)) (same_operand a)
        ∙ ap (λ u. Triple (operand_of lines [] a) u (operand_of lines fates c)) (same_operand b)
        ∙ ap (Triple (operand_of lines [] a) (operand_of lines [] b)) (same_operand c)
    same_operands (a ∷ b ∷ c ∷ d ∷ more) = refl

    by_constant : (o : LineOp) (s : ℕ) (args : List Arg) (c : BitVector) → is_sort o ≡ false → constant_of (sort_at lines s) o ≡ Some c → content_as_it_is lines fates o s args ≡ content_of_word c s
    by_constant (op.Sort w) s args c n h = absurd (cc)
    by_constant o s args c n h =
        ap (λ z. content_or z (sort_for fates s) (content_of o (sort_for fates s) (map (replaced fates) args))) h ∙ ap (content_of_word c) (same_sort s)

    by_other : (o : LineOp) (s : ℕ) (args : List Arg) → is_sort o ≡ false → constant_of (sort_at lines s) o ≡ None → content_as_it_is lines fates o s args ≡ content_of o s args
    by_other (op.Sort w) s args n h = absurd (cc)
    by_other o s args n h =
        ap (λ z. content_or z (sort_for fates s) (content_of o (sort_for fates s) (map (replaced fates) args))) h ∙ ap (λ t. content_of o t (map (replaced fates) args)) (same_sort s) ∙ ap (content_of o s) (same_args args)

-- what a line says where each line stays: a sort, a constant or an operator
pub record SaysSort (o : LineOp) (content : Content) : Type 0 where
  pub width : ℕ
  pub sort : o ≡ op.Sort width
  pub says : content ≡ content_of (op.Sort width) 0 []

pub record SaysConstant (lines : List Line) (l : Line) (content : Content) : Type 0 where
  pub word : BitVector
  pub constant : constant_of (sort_at lines l.sort) l.op ≡ Some word
  pub says : content ≡ content_of (op.Constant word) l.sort []

pub record SaysOperator (l : Line) (content : Content) : Type 0 where
  pub no_sort : is_sort l.op ≡ false
  pub no_constant : is_constant l.op ≡ false
  pub says : content ≡ content_of l.op l.sort l.args

abbrev pub SaysOneOf : List Line → Line → Content → Type 0
SaysOneOf lines l content = SaysSort l.op content ⊎ (SaysConstant lines l content ⊎ SaysOperator l content)

pub says_one_of : (lines : List Line) (fates : List Outcome) → AllStay fates → (l : Line) → SaysOneOf lines l (content_as_it_is lines fates l.op l.sort l.args)
says_one_of lines fates all l =
    elim (cases_Bool (is_sort l.op)) [
      | inl h ↦ let w = sort_is l.op h in inl (record { width = w.0; sort = w.1; says = ap (λ o. content_as_it_is lines fates o l.sort l.args) w.1 })
      | inr n ↦ elim (cases_Bool (is_constant l.op)) [
        | inl h ↦
            let word = constant_word (sort_at lines l.sort) l.op in
            let known : constant_of (sort_at lines l.sort) l.op ≡ Some word = ap (λ b. cond b (Some word) None) h in
            inr (inl (record { word = word; constant = known; says = by_constant fates all lines l.op l.sort l.args word n known }))
        | inr h ↦
            let word = constant_word (sort_at lines l.sort) l.op in
            inr (inr (record { no_sort = n; no_constant = h; says = by_other fates all lines l.op l.sort l.args n (ap (λ b. cond b (Some word) None) h) }))
      ]
    ]

-- lines that say the same are alike
module _ (lines : List Line) (wf : IsWellFormed lines) (p q : ℕ) (k l : Line) (ak : slice_get lines p ≡ Some k) (al : slice_get lines q ≡ Some l) (shared : is_shared k.op ≡ true) (x y : Content) (e : x ≡ y) where
  no_args : IsShort []
  no_args = omega arith

  short : IsShort k.args
  short = fits_short (take p lines) k.sort k.op k.args (wf.by_line p k ak).body.sorts

  is_word : (a b : BitVector) → op.Constant a ≡ op.Constant b → a ≡ b
  is_word a b h = same_Some a b (ap (λ o. constant_of 0 o) h)

  pub alike : SaysOneOf lines k x → SaysOneOf lines l y → Says l.op l.sort l.args k ⊎ AreSameConstants lines k l
  alike (inl a) (inl b) =
      let same = (content_same (op.Sort a.width) 0 [] (op.Sort b.width) 0 [] refl no_args (sym a.says ∙ e ∙ b.says)).ops in
      let h = sort_alone (take p lines) k.sort k.op k.args (ap is_sort a.sort) (wf.by_line p k ak).body.sorts in
      let g = sort_alone (take q lines) l.sort l.op l.args (ap is_sort b.sort) (wf.by_line q l al).body.sorts in
      inl (a.sort ∙ same ∙ sym b.sort, h.0 ∙ sym g.0, h.1 ∙ sym g.1)
  alike (inl a) (inr (inl b)) =
      let same = (content_same (op.Sort a.width) 0 [] (op.Constant b.word) l.sort [] refl no_args (sym a.says ∙ e ∙ b.says)).ops in
      absurd (differ (ap is_sort same))
  alike (inl a) (inr (inr b)) =
      let same = (content_same (op.Sort a.width) 0 [] l.op l.sort l.args refl no_args (sym a.says ∙ e ∙ b.says)).ops in
      absurd (differ (ap is_sort same ∙ b.no_sort))
  alike (inr (inl a)) (inl b) =
      let same = (content_same (op.Constant a.word) k.sort [] (op.Sort b.width) 0 [] refl no_args (sym a.says ∙ e ∙ b.says)).ops in
      absurd (differ (sym (ap is_sort same)))
  alike (inr (inl a)) (inr (inl b)) =
      let same = (content_same (op.Constant a.word) k.sort [] (op.Constant b.word) l.sort [] refl no_args (sym a.says ∙ e ∙ b.says)).ops in
      inr (b.word, a.constant ∙ ap Some (is_word a.word b.word same), b.constant)
  alike (inr (inl a)) (inr (inr b)) =
      let same = (content_same (op.Constant a.word) k.sort [] l.op l.sort l.args refl no_args (sym a.says ∙ e ∙ b.says)).ops in
      absurd (differ (ap is_constant same ∙ b.no_constant))
  alike (inr (inr a)) (inl b) =
      let same = (content_same k.op k.sort k.args (op.Sort b.width) 0 [] shared short (sym a.says ∙ e ∙ b.says)).ops in
      absurd (differ (sym (ap is_sort same) ∙ a.no_sort))
  alike (inr (inr a)) (inr (inl b)) =
      let same = (content_same k.op k.sort k.args (op.Constant b.word) l.sort [] shared short (sym a.says ∙ e ∙ b.says)).ops in
      absurd (differ (sym (ap is_constant same) ∙ a.no_constant))
  alike (inr (inr a)) (inr (inr b)) =
      let same = content_same k.op k.sort k.args l.op l.sort l.args shared short (sym a.says ∙ e ∙ b.says) in
      inl (same.ops, same.sorts, same.lists)

module _ (lines : List Line) (fates : List Outcome) (k : AreKnown lines fates) (unfit : FitsNoRule lines) (distinct : HasNoTwoSame lines) where
  -- a line stays where all before it do
  module _ (n : ℕ) (l : Line) (at : slice_get lines n ≡ Some l) (all : AllStay (take n fates)) where
    says_before : (p : ℕ) (s : fates_spec.Says lines (take n fates) p (content_as_it_is lines (take n fates) l.op l.sort l.args)) → is_shared l.op ≡ true → ⊥
    says_before p s shared =
        let lt : p < n = omega (arith, s.there, length-take n fates) in
        let front : AllStay (take p (take n fates)) = stay_take p (take n fates) all in
        let says : content_as_it_is lines (take p (take n fates)) s.line.op s.line.sort s.line.args ≡ content_as_it_is lines (take n fates) l.op l.sort l.args =
        ap (λ (g : Outcome). content_by lines (take p (take n fates)) g s.line) (sym (all p)) ∙ s.says in
        let h = alike lines k.well_formed p n s.line l s.at at s.shared _ _ says (says_one_of lines (take p (take n fates)) front s.line) (says_one_of lines (take n fates) all l) in
        let one = distinct.by_places p n s.line l s.at at s.shared shared h in
        absurd (omega (arith, lt, one))
      where
        stay_take : (p : ℕ) (fs : List Outcome) → AllStay fs → AllStay (take p fs)
        stay_take p fs h i = elim (cases_lt i p) [
          | inl lt ↦ get_or-take p fs i Stays lt ∙ h i
          | inr ge ↦ let long : length (take p fs) ≤ i = omega (arith, ge, length-take p fs) in get_or_past (take p fs) i Stays long
        ]

    fate_stays : (f : Outcome) → is_shared l.op ≡ true → (out : Outcome) → out ≡ Stays → IsFateBy lines (take n fates) l out f → f ≡ Stays
    fate_stays f shared Stays e h = elim h [ inl a ↦ absurd (says_before a.0 a.1 shared) | inr a ↦ a.0 ]
    fate_stays f shared (Constant c) e h = absurd (cc)
    fate_stays f shared (Argument a) e h = absurd (cc)

    line_stays : fate_at fates n ≡ Stays
    line_stays =
        let less : n < length fates = omega (arith, k.sized, slice_get_inside lines n l at) in
        let f = inside_get fates n less in
        let is : fate_at fates n ≡ f.0 = same_Some _ _ (sym (slice_get-get_or fates n Stays less) ∙ f.1) in
        let fate = k.known.by_line n l f.0 at f.1 in
        elim (cases_Bool (is_shared l.op)) [
          | inl t ↦ is ∙ fate_stays f.0 t (outcome l.op (operands_of lines (take n fates) l.args)) (ap (outcome l.op) (same_operands (take n fates) all lines l.args) ∙ unfit.by_place n l at t) (fate.1 t)
          | inr o ↦ is ∙ fate.0 o
        ]

  front_stays : (n : ℕ) → AllStay (take n fates)
  front_stays zero i = refl
  front_stays (suc n) i =
      elim (cases_lt i (suc n)) [
        | inl lt ↦ elim (cases_lt i n) [
          | inl less ↦ get_or-take (suc n) fates i Stays lt ∙ sym (get_or-take n fates i Stays less) ∙ front_stays n i
          | inr ge ↦ elim (cases_lt n (length lines)) [
            | inl inside ↦
                let l = inside_get lines n inside in
                let same : i ≡ n = omega (arith, lt, ge) in
                get_or-take (suc n) fates i Stays lt ∙ ap (fate_at fates) same ∙ line_stays n l.0 l.1 (front_stays n)
            | inr past ↦ let long : length (take (suc n) fates) ≤ i = omega (arith, past, ge, k.sized, length-take (suc n) fates) in get_or_past (take (suc n) fates) i Stays long
          ]
        ]
        | inr ge ↦ let long : length (take (suc n) fates) ≤ i = omega (arith, ge, length-take (suc n) fates) in get_or_past (take (suc n) fates) i Stays long
      ]

  pub all_stay : AllStay fates
  all_stay i = let lt : i < suc i = omega arith in sym (get_or-take (suc i) fates i Stays lt) ∙ front_stays (suc i) i
