-- The old list determines the smaller one.
use Rattle.std.proofs.Common.{◌≡◌, ℕ, zero, suc, ◌<◌, ◌≤◌, Bool, true, false, List, [], ◌∷◌, ◌++◌, length, take, get_or, Option, Some, None, refl, sym, ap, subst, ◌∙◌, arith, inl, inr}
use Rattle.std.specs.Prelude.{slice_get}
use Rattle.std.proofs.lemmas.Bool.{cases_Bool}
use Rattle.std.proofs.lemmas.List.{length-take, get_or-take, take-take, take_all, ext_get_or}
use Rattle.std.proofs.lemmas.Option.{same_Some, none-some}
use Rattle.btor_tree.specs.declared.args.Arg.{Arg}
use Rattle.btor_tree.specs.declared.lines.Line.{Line}
use Rattle.btor_tree.specs.Fits.{plain_arg}
use Rattle.btor_tree.specs.Sharing.{is_shared}
use Rattle.btor_tree.proofs.Grows.{slice_get_inside, inside_get, take_push}
use Rattle.btor_rules.specs.declared.operand.Outcome.{Outcome}
use Rattle.btor_rules.specs.declared.operand.Outcome.TheVariants.{Stays, Constant, Argument}
use Rattle.btor_rules.specs.Rules.{outcome}
use Rattle.btor_simplify.specs.declared.contents.Content.{Content}
use Rattle.btor_simplify.specs.Fates.{fate_at, Lives, operands_of, content_by, Says, IsSharedFate, IsFateBy, IsFate}
use Rattle.btor_simplify.specs.Marks.{args_by, is_marked, AreMarkedLines, IsReached, starts, reads, AreMarks, AreKnown}
use Rattle.btor_simplify.specs.Order.{IsOrder, order_upto}
use Rattle.btor_simplify.specs.Written.{new_line}
use Rattle.btor_simplify.specs.Simplified.{IsSimplified}
use Rattle.btor_simplify.proofs.Distinct.{live_once, origin}

-- what becomes of a line, where one line at most says each thing
module _ (lines : List Line) (fates : List Outcome) (once : (p q : ℕ) (content : Content) → Says lines fates p content → Says lines fates q content → p ≡ q) (l : Line) (x y : Outcome) where
  shared_one : (content : Content) (own : Outcome) → IsSharedFate lines fates content own x → IsSharedFate lines fates content own y → x ≡ y
  shared_one content own h g =
      elim h [
        | inl a ↦ elim g [ inl b ↦ a.2 ∙ ap (λ n. Argument (plain_arg n)) (once a.0 b.0 content a.1 b.1) ∙ sym b.2 | inr b ↦ absurd (b.1 a.0 a.1) ]
        | inr a ↦ elim g [ inl b ↦ absurd (a.1 b.0 b.1) | inr b ↦ a.0 ∙ sym b.0 ]
      ]

  by_outcome : (out : Outcome) → IsFateBy lines fates l out x → IsFateBy lines fates l out y → x ≡ y
  by_outcome Stays h g = shared_one (content_by lines fates Stays l) Stays h g
  by_outcome (Constant c) h g = shared_one (content_by lines fates (Constant c) l) (Constant c) h g
  by_outcome (Argument a) h g = h ∙ sym g

  one_fate : IsFate lines fates l x → IsFate lines fates l y → x ≡ y
  one_fate h g =
      elim (cases_Bool (is_shared l.op)) [
        | inl t ↦ by_outcome (outcome l.op (operands_of lines fates l.args)) (h.1 t) (g.1 t)
        | inr n ↦ h.0 n ∙ sym (g.0 n)
      ]

module _ (lines : List Line) (fates : List Outcome) (k : AreKnown lines fates) (n : ℕ) where
  below : (p : ℕ) → p < length (take n fates) → p < n
  below p h = omega (arith, h, length-take n fates)

  says_whole : (p : ℕ) (content : Content) (s : Says lines (take n fates) p content) → content_by lines (take p fates) (fate_at fates p) s.line ≡ content
  says_whole p content s =
      let lt = below p s.there in
      let le : p ≤ n = omega (arith, lt) in
      ap (λ (fs : List Outcome). content_by lines fs (fate_at fates p) s.line) (sym (take-take p n fates le)) ∙ ap (λ (g : Outcome). content_by lines (take p (take n fates)) g s.line) (sym (get_or-take n fates p Stays lt)) ∙ s.says

  lives_whole : (p : ℕ) (content : Content) (s : Says lines (take n fates) p content) → Lives (fate_at fates p)
  lives_whole p content s = subst Lives (get_or-take n fates p Stays (below p s.there)) s.lives

  pub says_once : (p q : ℕ) (content : Content) → Says lines (take n fates) p content → Says lines (take n fates) q content → p ≡ q
  says_once p q content s t =
      live_once lines fates k p q s.line t.line s.at t.at s.shared t.shared (lives_whole p content s) (lives_whole q content t) (says_whole p content s ∙ sym (says_whole q content t))

-- what becomes of each line
module _ (lines : List Line) (f g : List Outcome) (kf : AreKnown lines f) (kg : AreKnown lines g) where
  fronts_same : (n : ℕ) → n ≤ length lines → take n f ≡ take n g
  fronts_same zero le = refl
  fronts_same (suc n) le =
      let less : n ≤ length lines = omega (arith, le) in
      let e = fronts_same n less in
      let l = inside_get lines n (omega (arith, le)) in
      let x = inside_get f n (omega (arith, le, kf.sized)) in
      let y = inside_get g n (omega (arith, le, kg.sized)) in
      let h = kf.known.by_line n l.0 x.0 l.1 x.1 in
      let i = subst (λ fs. IsFate lines fs l.0 y.0) (sym e) (kg.known.by_line n l.0 y.0 l.1 y.1) in
      let same : x.0 ≡ y.0 = one_fate lines (take n f) (says_once lines f kf n) l.0 x.0 y.0 h i in
      take_push f n x.0 x.1 ∙ ap (λ fs. fs ++ x.0 ∷ []) e ∙ ap (λ z. take n g ++ z ∷ []) same ∙ sym (take_push g n y.0 y.1)

  pub one_fates : f ≡ g
  one_fates =
      let a : length f ≤ length lines = omega (arith, kf.sized) in
      let b : length g ≤ length lines = omega (arith, kg.sized) in
      sym (take_all (length lines) f a) ∙ fronts_same (length lines) (omega arith) ∙ take_all (length lines) g b

pub marked_at : (marks : List Bool) (args : List Arg) (j : ℕ) (b : Arg) → AreMarkedLines marks args → slice_get args j ≡ Some b → is_marked marks b.line ≡ true
marked_at marks [] j b m e = absurd (none-some b e)
marked_at marks (a ∷ more) zero b m e = subst (λ (x : Arg). is_marked marks x.line ≡ true) (same_Some a b e) m.0
marked_at marks (a ∷ more) (suc j) b m e = marked_at marks more j b m.1 e

-- what is reached is marked
module _ (lines : List Line) (fates : List Outcome) (marks : List Bool) (m : AreMarks lines fates 0 marks) where
  pub reached_marked : (i : ℕ) → IsReached lines fates i → is_marked marks i ≡ true
  reached_marked _ (starts i l at o) = m.kept i l (omega arith) at o
  reached_marked _ (reads i j p l b r at e same) =
      subst (λ n. is_marked marks n ≡ true) same (marked_at marks (args_by fates (fate_at fates i) l.args) j b (m.closed i l (omega arith) at (reached_marked i r)) e)

bool_same : (x y : Bool) → (x ≡ true → y ≡ true) → (y ≡ true → x ≡ true) → x ≡ y
bool_same true y h g = sym (h refl)
bool_same false true h g = g refl
bool_same false false h g = refl

one_marks : (lines : List Line) (fates : List Outcome) (m n : List Bool) → AreMarks lines fates 0 m → AreMarks lines fates 0 n → m ≡ n
one_marks lines fates m n a b =
    ext_get_or false m n (a.sized ∙ sym b.sized)
    (λ i lt. bool_same (is_marked m i) (is_marked n i) (λ h. reached_marked lines fates n b i (a.reached i h)) (λ h. reached_marked lines fates m a i (b.reached i h)))

option_same : (x y : Option ℕ) → ((q : ℕ) → x ≡ Some q → y ≡ Some q) → ((q : ℕ) → y ≡ Some q → x ≡ Some q) → x ≡ y
option_same None None h g = refl
option_same None (Some q) h g = g q refl
option_same (Some q) y h g = sym (h q refl)

-- the order of the lines determines their new places
one_moved : (lines : List Line) (fates : List Outcome) (n : ℕ) (places : List ℕ) (m k : List (Option ℕ)) → IsOrder lines fates n places m → IsOrder lines fates n places k → m ≡ k
one_moved lines fates n places m k a b =
    ext_get_or None m k (a.sized ∙ sym b.sized)
    (λ i lt. option_same (get_or m i None) (get_or k i None) (λ q h. b.forward q i (a.back i q h)) (λ q h. a.forward q i (b.back i q h)))

pub same_by_get : {X : Type 0} (xs ys : List X) → length xs ≡ length ys → ((q : ℕ) (x : X) → slice_get xs q ≡ Some x → slice_get ys q ≡ Some x) → xs ≡ ys
same_by_get [] [] e h = refl
same_by_get [] (y ∷ ys) e h = absurd (omega (arith, e))
same_by_get (x ∷ xs) [] e h = absurd (omega (arith, e))
same_by_get (x ∷ xs) (y ∷ ys) e h =
    ap (λ z. z ∷ xs) (same_Some x y (sym (h zero x refl))) ∙ ap (λ zs. y ∷ zs) (same_by_get xs ys (omega (arith, e)) (λ q z g. h (suc q) z g))

module _ (old a b : List Line) (s : IsSimplified old a) (t : IsSimplified old b) where
  same_fates : s.fates ≡ t.fates
  same_fates = one_fates old s.fates t.fates s.known t.known

  same_marks : s.marks ≡ t.marks
  same_marks = one_marks old t.fates s.marks t.marks (subst (λ f. AreMarks old f 0 s.marks) same_fates s.marked) t.marked

  same_places : s.places ≡ t.places
  same_places =
      s.placed ∙ ap (λ f. order_upto old f s.marks (length old)) same_fates ∙ ap (λ m. order_upto old t.fates m (length old)) same_marks ∙ sym t.placed

  same_moved : s.moved ≡ t.moved
  same_moved =
      one_moved old t.fates (length old) t.places s.moved t.moved (subst (λ p. IsOrder old t.fates (length old) p s.moved) same_places (subst (λ f. IsOrder old f (length old) s.places s.moved) same_fates s.order)) t.order

  pub one_simplified : a ≡ b
  one_simplified =
      same_by_get a b (s.written.sized ∙ ap length same_places ∙ sym t.written.sized)
      (λ q m am.
      let x = origin old a s q m am in
      let placed = ap (λ p. slice_get p q) (sym same_places) ∙ x.placed in
      let line : new_line s.fates s.moved q x.from x.line ≡ new_line t.fates t.moved q x.from x.line = ap (λ f. new_line f s.moved q x.from x.line) same_fates ∙ ap (λ v. new_line t.fates v q x.from x.line) same_moved in
      t.written.by_place q x.from x.line (slice_get_inside t.places q x.from placed) placed x.at ∙ ap Some (sym (x.is ∙ line)))
