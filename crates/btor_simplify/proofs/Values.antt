-- In each frame, what becomes of a line has the word of the line.
use Rattle.std.proofs.Common.{◌≡◌, ℕ, zero, suc, ◌<◌, ◌≤◌, Bool, true, false, List, [], ◌∷◌, length, take, drop, map, Option, Some, None, option_map, refl, sym, ap, subst, ◌∙◌, arith, inl, inr, ◌⊎◌}
use Rattle.std.specs.Prelude.{slice_get, IfSome}
use Rattle.std.proofs.lemmas.Bool.{cases_lt, cases_eq, cases_Bool}
use Rattle.std.proofs.lemmas.List.{length-take, get_or-take, take-take, take-append-drop}
use Rattle.std.proofs.lemmas.Option.{same_Some, slice_get-get_or}
use Rattle.word_core.specs.Words.{BitVector, IsWord}
use Rattle.word_core.specs.Table.{unary_of, binary_of, ite_of, slice_of, uext_of, sext_of}
use Rattle.btor_tree.specs.declared.args.Arg.{Arg}
use Rattle.btor_tree.specs.declared.lines.Line.{Line}
use Rattle.btor_tree.specs.declared.lines.LineOp.{LineOp}
use Rattle.btor_tree.specs.declared.lines.LineOp.TheVariants as op
use Rattle.btor_tree.specs.Fits.{is_constant, sort_at, width_at}
use Rattle.btor_tree.specs.Frame.{word_at, signed_word, operand, constant_word, Equation, Meets}
use Rattle.btor_tree.specs.LineKeys.{IsShort}
use Rattle.btor_tree.specs.Sharing.{is_shared}
use Rattle.btor_tree.proofs.Grows.{slice_get_inside, slice_get_front, inside_get}
use Rattle.btor_tree.proofs.Keyed.{fits_short}
use Rattle.btor_tree.proofs.Widths.{line_at, wide}
use Rattle.btor_rules.specs.declared.operand.Outcome.{Outcome}
use Rattle.btor_rules.specs.declared.operand.Outcome.TheVariants.{Stays, Constant, Argument}
use Rattle.btor_rules.specs.Rules.{outcome, args_of}
use Rattle.btor_rules.specs.Words.{IsRead, AreRead, Gives}
use Rattle.btor_rules.proofs.Holds.{rules_hold, other_word}
use Rattle.btor_simplify.specs.declared.contents.Content.{Content}
use Rattle.btor_simplify.specs.Contents.{content_of}
use Rattle.btor_simplify.specs.Fates.{fate_at, with_sign, replaced_by, replaced, sort_for, Lives, constant_of, constant_of_line, constant_by, constant_at, operand_as, operand_of, operands_of, content_of_word, content_as_it_is, content_by, Says, IsFateBy, IsFate, KeepsWidth, AreFates, IsNextLine, is_sort}
use Rattle.btor_simplify.specs.Marks.{AreKnown}
use Rattle.btor_simplify.proofs.Keys.{content_same}
use Rattle.btor_simplify.proofs.Steps.{worded_line, operands_fit, shared_word}
use Rattle.btor_simplify.proofs.Marking.{source}

map_long : (f : Arg → Arg) (xs : List Arg) → length (map f xs) ≡ length xs
map_long f [] = refl
map_long f (x ∷ xs) = omega (arith, map_long f xs)

-- what becomes of a line has its word
abbrev pub Holds : List BitVector → ℕ → Outcome → Type 0
Holds row i Stays = Unit {0}
Holds row i (Constant c) = word_at row i ≡ c
Holds row i (Argument b) = word_at row i ≡ operand row b

sign_word : (row : List BitVector) (n : Bool) (b : Arg) → IsWord (word_at row b.line) → operand row (with_sign n b) ≡ signed_word n (operand row b)
sign_word row true b h = other_word b.negated (word_at row b.line) h
sign_word row false b h = refl

sign_line : (n : Bool) (b : Arg) → (with_sign n b).line ≡ b.line
sign_line true b = refl
sign_line false b = refl

pub same_operand : (row : List BitVector) (f : Outcome) (a : Arg) → Holds row a.line f → IsWord (word_at row (replaced_by f a).line) → operand row (replaced_by f a) ≡ operand row a
same_operand row Stays a h w = refl
same_operand row (Constant c) a h w = refl
same_operand row (Argument b) a h w =
    sign_word row a.negated b (subst (λ n. IsWord (word_at row n)) (sign_line a.negated b) w) ∙ ap (signed_word a.negated) (sym h)

-- fates of the first lines
keeps_front : (lines : List Line) (fates : List Outcome) (i j : ℕ) (f : Outcome) → j < i → KeepsWidth lines fates j f → KeepsWidth lines (take i fates) j f
keeps_front lines fates i j Stays lt k = tt
keeps_front lines fates i j (Constant c) lt k = k
keeps_front lines fates i j (Argument b) lt k =
    let less : b.line < i = omega (arith, k.0, lt) in
    (k.0, subst Lives (sym (get_or-take i fates b.line Stays less)) k.1, k.2, k.3)

pub fates_front : (lines : List Line) (fates : List Outcome) (i : ℕ) → AreFates lines fates → AreFates lines (take i fates)
fates_front lines fates i k =
    record {
      by_line = λ j l f at e.
          let lt : j < i = omega (arith, slice_get_inside (take i fates) j f e, length-take i fates) in
          let le : j ≤ i = omega (arith, lt) in
          let there : slice_get fates j ≡ Some f = subst (λ fs. slice_get fs j ≡ Some f) (take-append-drop i fates) (slice_get_front (take i fates) (drop i fates) j f e) in
          subst (λ fs. IsFate lines fs l f) (sym (take-take j i fates le)) (k.by_line j l f at there);
      widths = λ j h.
          let lt : j < i = omega (arith, h, length-take i fates) in
          let less : j < length fates = omega (arith, h, length-take i fates) in
          subst (KeepsWidth lines (take i fates) j) (sym (get_or-take i fates j Stays lt)) (keeps_front lines fates i j (fate_at fates j) lt (k.widths j less));
    }

-- a constant line's word
constant_equation : (before : List Line) (row : List BitVector) (s w : ℕ) (o : LineOp) (args : List Arg) (x : BitVector) → sort_at before s ≡ w → Equation before row s o args x → IfSome (constant_of w o) (λ c. x ≡ c)
constant_equation before row s w (op.Constant c) args x e h = h
constant_equation before row s w op.One args x e h = h ∙ ap (λ n. constant_word n op.One) e
constant_equation before row s w op.Zero args x e h = h ∙ ap (λ n. constant_word n op.Zero) e
constant_equation before row s w op.Ones args x e h = h ∙ ap (λ n. constant_word n op.Ones) e
constant_equation before row s w o args x e h = tt

signed_known : (known : Option BitVector) (n : Bool) (x : BitVector) → IfSome known (λ c. x ≡ c) → IfSome (option_map (signed_word n) known) (λ c. signed_word n x ≡ c)
signed_known None n x h = tt
signed_known (Some c) n x h = ap (signed_word n) h

-- words of rows that meet the lines
module _ (lines : List Line) (fates : List Outcome) (row : List BitVector) (k : AreKnown lines fates) (m : Meets lines row) where
  wide_word : (p : ℕ) → 1 ≤ width_at lines p → IsWord (word_at row p) × ((word_at row p).width ≡ width_at lines p)
  wide_word p h = wide lines row k.well_formed m p h

  line_constant : (p : ℕ) → 1 ≤ width_at lines p → IfSome (constant_of_line lines (slice_get lines p)) (λ c. word_at row p ≡ c)
  line_constant p h =
      let g = line_at lines p h in
      let l = g.0 in
      let word = worded_line lines p l k.well_formed g.1 g.2 in
      subst (λ (o : Option Line). IfSome (constant_of_line lines o) (λ c. word_at row p ≡ c)) (sym g.1)
      (constant_equation (take p lines) row l.sort (sort_at lines l.sort) l.op l.args (word_at row p) (sym word.sort_at_front) (m.by_line p l g.1))

  known_word : (p : ℕ) (f : Outcome) → Holds row p f → Lives f → 1 ≤ width_at lines p → IfSome (constant_by f (constant_of_line lines (slice_get lines p))) (λ c. word_at row p ≡ c)
  known_word p (Constant c) h v w = h
  known_word p Stays h v w = line_constant p w
  known_word p (Argument b) h v w = absurd v

  -- the words below a place are known
  module _ (i : ℕ) (below : (j : ℕ) → j < i → Holds row j (fate_at fates j)) (l : Line) (at : slice_get lines i ≡ Some l) where
    front_fate : (p : ℕ) → p < i → fate_at (take i fates) p ≡ fate_at fates p
    front_fate p h = get_or-take i fates p Stays h

    same_replaced : (a : Arg) → a.line < i → replaced (take i fates) a ≡ replaced fates a
    same_replaced a h = ap (λ f. replaced_by f a) (front_fate a.line h)

    arg_same : (j : ℕ) (a : Arg) → slice_get l.args j ≡ Some a → operand row (replaced (take i fates) a) ≡ operand row a
    arg_same j a e =
        let s = source lines fates i l j a k at e in
        ap (operand row) (same_replaced a s.before) ∙ same_operand row (fate_at fates a.line) a (below a.line s.before) (wide_word (replaced fates a).line s.wide).0

    arg_read : (j : ℕ) (a : Arg) → slice_get l.args j ≡ Some a → IsRead row (operand_of lines (take i fates) a)
    arg_read j a e =
        let s = source lines fates i l j a k at e in
        let r = replaced fates a in
        let w = wide_word r.line s.wide in
        let same = same_replaced a s.before in
        let here : IsRead row (operand_of lines fates a) = record {
          word = w.0;
          width = signed_width r.negated (word_at row r.line) ∙ w.1;
          constant = signed_known (constant_at lines fates r.line) r.negated (word_at row r.line) (known_word r.line (fate_at fates r.line) (below r.line s.earlier) s.lives s.wide);
        } in
        let front : constant_at lines (take i fates) r.line ≡ constant_at lines fates r.line = ap (λ f. constant_by f (constant_of_line lines (slice_get lines r.line))) (front_fate r.line s.earlier) in
        subst (λ (x : Arg). IsRead row (operand_as lines (take i fates) x)) (sym same)
        (subst (λ (c : Option BitVector). IsRead row (record { arg = r; width = width_at lines r.line; constant = option_map (signed_word r.negated) c })) (sym front) here)
      where
        signed_width : (n : Bool) (x : BitVector) → (signed_word n x).width ≡ x.width
        signed_width true x = refl
        signed_width false x = refl

    all_read : (args : List Arg) → ((j : ℕ) (a : Arg) → slice_get args j ≡ Some a → IsRead row (operand_of lines (take i fates) a)) → AreRead row (operands_of lines (take i fates) args)
    all_read [] h = tt
    all_read (a ∷ []) h = h 0 a refl
    all_read (a ∷ b ∷ []) h = (h 0 a refl, h 1 b refl)
    all_read (a ∷ b ∷ c ∷ []) h = (h 0 a refl, h 1 b refl, h 2 c refl)
    all_read (a ∷ b ∷ c ∷ d ∷ more) h = tt

    replaced_equation : (o : LineOp) (args : List Arg) (s : ℕ) (x : BitVector) → ((j : ℕ) (a : Arg) → slice_get args j ≡ Some a → operand row (replaced (take i fates) a) ≡ operand row a) → Equation (take i lines) row s o args x → Equation (take i lines) row s o (args_of (operands_of lines (take i fates) args)) x
    replaced_equation (op.Unary u) [] s x p h = absurd h
    replaced_equation (op.Unary u) (a ∷ []) s x p h = h ∙ ap (unary_of u) (sym (p 0 a refl))
    replaced_equation (op.Unary u) (a ∷ b ∷ more) s x p h = absurd h
    replaced_equation (op.Binary o) [] s x p h = absurd h
    replaced_equation (op.Binary o) (a ∷ []) s x p h = absurd h
    replaced_equation (op.Binary o) (a ∷ b ∷ []) s x p h =
        h ∙ ap (λ u. binary_of o u (operand row b)) (sym (p 0 a refl)) ∙ ap (binary_of o (operand row (replaced (take i fates) a))) (sym (p 1 b refl))
    replaced_equation (op.Binary o) (a ∷ b ∷ c ∷ more) s x p h = absurd h
    replaced_equation op.Ite [] s x p h = absurd h
    replaced_equation op.Ite (a ∷ []) s x p h = absurd h
    replaced_equation op.Ite (a ∷ b ∷ []) s x p h = absurd h
    replaced_equation op.Ite (a ∷ b ∷ c ∷ []) s x p h =
        h ∙ ap (λ u. ite_of u (operand row b) (operand row c)) (sym (p 0 a refl)) ∙ ap (λ u. ite_of (operand row (replaced (take i fates) a)) u (operand row c)) (sym (p 1 b refl)) ∙ ap (ite_of (operand row (replaced (take i fates) a)) (operand row (replaced (take i fates) b))) (sym (p 2 c refl))
    replaced_equation op.Ite (a ∷ b ∷ c ∷ d ∷ more) s x p h = absurd h
    replaced_equation (op.Slice high low) [] s x p h = absurd h
    replaced_equation (op.Slice high low) (a ∷ []) s x p h = h ∙ ap (λ u. slice_of u high low) (sym (p 0 a refl))
    replaced_equation (op.Slice high low) (a ∷ b ∷ more) s x p h = absurd h
    replaced_equation (op.Uext n) [] s x p h = absurd h
    replaced_equation (op.Uext n) (a ∷ []) s x p h = h ∙ ap (λ u. uext_of u n) (sym (p 0 a refl))
    replaced_equation (op.Uext n) (a ∷ b ∷ more) s x p h = absurd h
    replaced_equation (op.Sext n) [] s x p h = absurd h
    replaced_equation (op.Sext n) (a ∷ []) s x p h = h ∙ ap (λ u. sext_of u n) (sym (p 0 a refl))
    replaced_equation (op.Sext n) (a ∷ b ∷ more) s x p h = absurd h
    replaced_equation o args s x p h = h

    long : length (take i fates) ≡ i
    long = omega (arith, length-take i fates, k.sized, slice_get_inside lines i l at)

    next : IsNextLine lines (take i fates) l
    next = record { well_formed = k.well_formed; known = fates_front lines fates i k.known; at = ap (slice_get lines) long ∙ at }

    pub out_holds : is_shared l.op ≡ true → Gives (outcome l.op (operands_of lines (take i fates) l.args)) row (word_at row i)
    out_holds shared =
        rules_hold (take i lines) row l.sort l.op (operands_of lines (take i fates) l.args) (word_at row i) (operands_fit lines (take i fates) l next shared) (all_read l.args arg_read)
        (replaced_equation l.op l.args l.sort (word_at row i) arg_same (m.by_line i l at))

    mapped : (args : List Arg) → IsShort args → args_of (operands_of lines (take i fates) args) ≡ map (replaced (take i fates)) args
    mapped [] h = refl
    mapped (a ∷ []) h = refl
    mapped (a ∷ b ∷ []) h = refl
    mapped (a ∷ b ∷ c ∷ []) h = refl
    mapped (a ∷ b ∷ c ∷ d ∷ more) h = absurd (omega (arith, h))

    pub short_args : IsShort l.args
    short_args = fits_short (take i lines) l.sort l.op l.args (k.well_formed.by_line i l at).body.sorts

    pub own_equation : Equation (take i lines) row l.sort l.op (map (replaced (take i fates)) l.args) (word_at row i)
    own_equation =
        subst (λ zs. Equation (take i lines) row l.sort l.op zs (word_at row i)) (mapped l.args short_args) (replaced_equation l.op l.args l.sort (word_at row i) arg_same (m.by_line i l at))

    -- what a constant says is its word
    as_constant : (o : LineOp) (s : ℕ) (args : List Arg) (x : BitVector) → sort_at (take i lines) s ≡ sort_at lines s → (content_as_it_is lines (take i fates) o s args).kind ≡ 2 → Equation (take i lines) row s o args x → (c : BitVector) × (content_as_it_is lines (take i fates) o s args ≡ content_of_word c (sort_for (take i fates) s)) × (x ≡ c)
    as_constant (op.Constant c) s args x e t h = (c, refl, h)
    as_constant op.One s args x e t h = (constant_word (sort_at lines s) op.One, refl, h ∙ ap (λ n. constant_word n op.One) e)
    as_constant op.Zero s args x e t h = (constant_word (sort_at lines s) op.Zero, refl, h ∙ ap (λ n. constant_word n op.Zero) e)
    as_constant op.Ones s args x e t h = (constant_word (sort_at lines s) op.Ones, refl, h ∙ ap (λ n. constant_word n op.Ones) e)
    as_constant o s args x e t h = absurd (omega (arith, t))

    pub says_constant : (g : Outcome) → Lives g → Holds row i g → is_shared l.op ≡ true → (content_by lines (take i fates) g l).kind ≡ 2 → (c : BitVector) × (content_by lines (take i fates) g l ≡ content_of_word c (sort_for (take i fates) l.sort)) × (word_at row i ≡ c)
    says_constant (Constant c) v h shared t = (c, refl, h)
    says_constant (Argument b) v h shared t = absurd v
    says_constant Stays v h shared t =
        as_constant l.op l.sort l.args (word_at row i) (sym (worded_line lines i l k.well_formed at (shared_word l.op shared (two_no_sort l.op t))).sort_at_front) t (m.by_line i l at)
      where
        two_no_sort : (o : LineOp) → (content_as_it_is lines (take i fates) o l.sort l.args).kind ≡ 2 → is_sort o ≡ false
        two_no_sort (op.Sort w) t = absurd (omega (arith, t))
        two_no_sort o t = refl

    -- what another line says is its word, sort and arguments
    as_other : (o : LineOp) (s : ℕ) (args : List Arg) → ((content_as_it_is lines (take i fates) o s args).kind ≡ 2 → ⊥) → is_shared o ≡ true → (t : ℕ) × (zs : List Arg) × (content_as_it_is lines (take i fates) o s args ≡ content_of o t zs) × (is_constant o ≡ false) × ((is_sort o ≡ true) ⊎ (zs ≡ map (replaced (take i fates)) args)) × ((is_sort o ≡ true) → zs ≡ [])
    as_other (op.Sort w) s args n h = (0, [], refl, refl, inl refl, λ e. refl)
    as_other (op.Constant c) s args n h = absurd (n refl)
    as_other op.One s args n h = absurd (n refl)
    as_other op.Zero s args n h = absurd (n refl)
    as_other op.Ones s args n h = absurd (n refl)
    as_other o s args n h = (sort_for (take i fates) s, map (replaced (take i fates)) args, refl, refl, inr refl, λ e. absurd (cc))

    says_other_by : (g : Outcome) → Lives g → is_shared l.op ≡ true → ((content_by lines (take i fates) g l).kind ≡ 2 → ⊥) → (t : ℕ) × (zs : List Arg) × (content_by lines (take i fates) g l ≡ content_of l.op t zs) × (is_constant l.op ≡ false) × ((is_sort l.op ≡ true) ⊎ (zs ≡ map (replaced (take i fates)) l.args)) × ((is_sort l.op ≡ true) → zs ≡ [])
    says_other_by (Constant c) v shared n = absurd (n refl)
    says_other_by (Argument b) v shared n = absurd v
    says_other_by Stays v shared n = as_other l.op l.sort l.args n shared

    sort_any : (o : LineOp) (args zs : List Arg) (s : ℕ) (x : BitVector) → is_sort o ≡ true → Equation (take i lines) row s o args x → Equation (take i lines) row s o zs x
    sort_any (op.Sort w) args zs s x h e = e
    sort_any o args zs s x h e = absurd (cc)

    pub says_other : (g : Outcome) → Lives g → is_shared l.op ≡ true → ((content_by lines (take i fates) g l).kind ≡ 2 → ⊥) → (t : ℕ) × (zs : List Arg) × (content_by lines (take i fates) g l ≡ content_of l.op t zs) × (is_constant l.op ≡ false) × IsShort zs × Equation (take i lines) row l.sort l.op zs (word_at row i)
    says_other g v shared n =
        let r = says_other_by g v shared n in
        let done : IsShort r.1 × Equation (take i lines) row l.sort l.op r.1 (word_at row i) = elim r.4 [
          | inl h ↦ (omega (arith, ap length (r.5 h)), sort_any l.op (map (replaced (take i fates)) l.args) r.1 l.sort (word_at row i) h own_equation)
          | inr e ↦ (omega (arith, ap length e, map_long (replaced (take i fates)) l.args, short_args), subst (λ zs. Equation (take i lines) row l.sort l.op zs (word_at row i)) (sym e) own_equation)
        ] in
        (r.0, r.1, r.2, r.3, done.0, done.1)

-- one equation, one word
same_word : (b d : List Line) (row : List BitVector) (s t : ℕ) (o : LineOp) (args : List Arg) (x y : BitVector) → is_shared o ≡ true → is_constant o ≡ false → Equation b row s o args x → Equation d row t o args y → x ≡ y
same_word b d row s t (op.Constant c) args x y h n e f = absurd (cc)
same_word b d row s t op.One args x y h n e f = absurd (cc)
same_word b d row s t op.Zero args x y h n e f = absurd (cc)
same_word b d row s t op.Ones args x y h n e f = absurd (cc)
same_word b d row s t op.Input args x y h n e f = absurd (cc)
same_word b d row s t op.State args x y h n e f = absurd (cc)
same_word b d row s t (op.Unary u) [] x y h n e f = absurd e
same_word b d row s t (op.Unary u) (a ∷ []) x y h n e f = e ∙ sym f
same_word b d row s t (op.Unary u) (a ∷ c ∷ more) x y h n e f = absurd e
same_word b d row s t (op.Binary o) [] x y h n e f = absurd e
same_word b d row s t (op.Binary o) (a ∷ []) x y h n e f = absurd e
same_word b d row s t (op.Binary o) (a ∷ c ∷ []) x y h n e f = e ∙ sym f
same_word b d row s t (op.Binary o) (a ∷ c ∷ g ∷ more) x y h n e f = absurd e
same_word b d row s t op.Ite [] x y h n e f = absurd e
same_word b d row s t op.Ite (a ∷ []) x y h n e f = absurd e
same_word b d row s t op.Ite (a ∷ c ∷ []) x y h n e f = absurd e
same_word b d row s t op.Ite (a ∷ c ∷ g ∷ []) x y h n e f = e ∙ sym f
same_word b d row s t op.Ite (a ∷ c ∷ g ∷ i ∷ more) x y h n e f = absurd e
same_word b d row s t (op.Slice high low) [] x y h n e f = absurd e
same_word b d row s t (op.Slice high low) (a ∷ []) x y h n e f = e ∙ sym f
same_word b d row s t (op.Slice high low) (a ∷ c ∷ more) x y h n e f = absurd e
same_word b d row s t (op.Uext k) [] x y h n e f = absurd e
same_word b d row s t (op.Uext k) (a ∷ []) x y h n e f = e ∙ sym f
same_word b d row s t (op.Uext k) (a ∷ c ∷ more) x y h n e f = absurd e
same_word b d row s t (op.Sext k) [] x y h n e f = absurd e
same_word b d row s t (op.Sext k) (a ∷ []) x y h n e f = e ∙ sym f
same_word b d row s t (op.Sext k) (a ∷ c ∷ more) x y h n e f = absurd e
same_word b d row s t o args x y h n e f = e ∙ sym f

same_constant : (c d : BitVector) (s t : ℕ) → content_of_word c s ≡ content_of_word d t → c ≡ d
same_constant c d s t e =
    let same = content_same (op.Constant c) s [] (op.Constant d) t [] refl (omega arith) e in
    ap (λ (o : LineOp). constant_word 1 o) same.ops

module _ (lines : List Line) (fates : List Outcome) (row : List BitVector) (k : AreKnown lines fates) (m : Meets lines row) where
  said_same : (i : ℕ) (below : (j : ℕ) → j < i → Holds row j (fate_at fates j)) (l : Line) (at : slice_get lines i ≡ Some l) (own : Outcome) → Lives own → Holds row i own → is_shared l.op ≡ true → (p : ℕ) → Says lines (take i fates) p (content_by lines (take i fates) own l) → word_at row p ≡ word_at row i
  said_same i below l at own lives holds shared p says =
      let lt : p < i = omega (arith, says.there, length-take i fates) in
      let le : p ≤ i = omega (arith, lt) in
      let g = fate_at fates p in
      let same : fate_at (take i fates) p ≡ g = get_or-take i fates p Stays lt in
      let front : take p (take i fates) ≡ take p fates = take-take p i fates le in
      let live : Lives g = subst Lives same says.lives in
      let e : content_by lines (take p fates) g says.line ≡ content_by lines (take i fates) own l =
      ap (λ fs. content_by lines fs g says.line) (sym front) ∙ ap (λ f. content_by lines (take p (take i fates)) f says.line) (sym same) ∙ says.says in
      let under : (j : ℕ) → j < p → Holds row j (fate_at fates j) = λ j h. below j (omega (arith, h, lt)) in
      elim (cases_eq (content_by lines (take i fates) own l).kind 2) [
        | inl t ↦
            let a = says_constant lines fates row k m p under says.line says.at g live (below p lt) says.shared (ap (λ (c : Content). c.kind) e ∙ t) in
            let b = says_constant lines fates row k m i below l at own lives holds shared t in
            a.2 ∙ same_constant a.0 b.0 _ _ (sym a.1 ∙ e ∙ b.1) ∙ sym b.2
        | inr n ↦
            let a = says_other lines fates row k m p under says.line says.at g live says.shared (λ t. n (sym (ap (λ (c : Content). c.kind) e) ∙ t)) in
            let b = says_other lines fates row k m i below l at own lives shared n in
            let one = content_same says.line.op a.0 a.1 l.op b.0 b.1 says.shared a.4 (sym a.2 ∙ e ∙ b.2) in
            let first : Equation (take p lines) row says.line.sort l.op b.1 (word_at row p) =
            subst (λ zs. Equation (take p lines) row says.line.sort l.op zs (word_at row p)) one.lists (subst (λ o. Equation (take p lines) row says.line.sort o a.1 (word_at row p)) one.ops a.5) in
            same_word (take p lines) (take i lines) row says.line.sort l.sort l.op b.1 (word_at row p) (word_at row i) shared b.3 first b.5
      ]

  fate_holds : (i : ℕ) (below : (j : ℕ) → j < i → Holds row j (fate_at fates j)) (l : Line) (at : slice_get lines i ≡ Some l) → is_shared l.op ≡ true → (out f : Outcome) → Gives out row (word_at row i) → IsFateBy lines (take i fates) l out f → Holds row i f
  fate_holds i below l at shared (Argument a) f g h = subst (Holds row i) (sym h) g
  fate_holds i below l at shared Stays f g h =
      elim h [
        | inl s ↦ subst (Holds row i) (sym s.2) (sym (said_same i below l at Stays tt tt shared s.0 s.1))
        | inr s ↦ subst (Holds row i) (sym s.0) tt
      ]
  fate_holds i below l at shared (Constant c) f g h =
      elim h [
        | inl s ↦ subst (Holds row i) (sym s.2) (sym (said_same i below l at (Constant c) tt g shared s.0 s.1))
        | inr s ↦ subst (Holds row i) (sym s.0) g
      ]

  holds_at : (i : ℕ) (below : (j : ℕ) → j < i → Holds row j (fate_at fates j)) → i < length lines → Holds row i (fate_at fates i)
  holds_at i below lt =
      let g = inside_get lines i lt in
      let less : i < length fates = omega (arith, lt, k.sized) in
      let f = inside_get fates i less in
      let fate = k.known.by_line i g.0 f.0 g.1 f.1 in
      let is : fate_at fates i ≡ f.0 = same_Some _ _ (sym (slice_get-get_or fates i Stays less) ∙ f.1) in
      subst (Holds row i) (sym is) (elim (cases_Bool (is_shared g.0.op)) [
        | inl s ↦ fate_holds i below g.0 g.1 s (outcome g.0.op (operands_of lines (take i fates) g.0.args)) f.0 (out_holds lines fates row k m i below g.0 g.1 s) (fate.1 s)
        | inr s ↦ subst (Holds row i) (sym (fate.0 s)) tt
      ])

  none_beyond : (xs : List Outcome) (i : ℕ) → length xs ≤ i → fate_at xs i ≡ Stays
  none_beyond [] i h = refl
  none_beyond (x ∷ xs) zero h = absurd (omega (arith, h))
  none_beyond (x ∷ xs) (suc i) h = none_beyond xs i (omega (arith, h))

  holds_below : (n i : ℕ) → i < n → Holds row i (fate_at fates i)
  holds_below zero i h = absurd (omega (arith, h))
  holds_below (suc n) i h =
      elim (cases_lt i (length lines)) [
        | inl lt ↦ holds_at i (λ j less. holds_below n j (omega (arith, less, h))) lt
        | inr ge ↦ subst (Holds row i) (sym (none_beyond fates i (omega (arith, ge, k.sized)))) tt
      ]

  pub holds : (i : ℕ) → Holds row i (fate_at fates i)
  holds i = holds_below (suc i) i (omega arith)

  pub arg_holds : (i : ℕ) (l : Line) (j : ℕ) (a : Arg) → slice_get lines i ≡ Some l → slice_get l.args j ≡ Some a → operand row (replaced fates a) ≡ operand row a
  arg_holds i l j a at e =
      let s = source lines fates i l j a k at e in
      same_operand row (fate_at fates a.line) a (holds a.line) (wide lines row k.well_formed m (replaced fates a).line s.wide).0
