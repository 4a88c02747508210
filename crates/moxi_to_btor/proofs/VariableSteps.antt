-- What a variable's lines ask for.
use Rattle.std.proofs.Common.{◌≡◌, ℕ, zero, suc, ◌+◌, ◌<◌, ◌≤◌, ◌^◌, Bool, true, false, cond, eqb, List, [], ◌∷◌, ◌++◌, length, drop, get_or, drop-cons, add-one, refl, sym, ap, ◌∙◌, subst, arith}
use Rattle.std.specs.Prelude.{codes, slice_index_or}
use Rattle.std.proofs.lemmas.Bool.Decides.{nat_tests}
use Rattle.word_core.specs.Words.{BitVector, IsWord}
use Rattle.word_core.specs.declared.word.TheConstants.{WIDEST}
use Rattle.word_core.specs.declared.kinds.Binary.TheVariants as two
use Rattle.btor_tree.specs.declared.lines.Line.{Line}
use Rattle.btor_tree.specs.declared.lines.LineOp.TheVariants as line
use Rattle.btor_tree.specs.Fits.{IsWellFormed, greatest_id, is_next, width_at}
use Rattle.moxi_terms.specs.declared.data.Sort.{Sort}
use Rattle.moxi_terms.specs.declared.data.Sort.TheVariants.{Truth, Bits, Choice}
use Rattle.moxi_terms.specs.declared.term.Enumeration.{Enumeration}
use Rattle.moxi_terms.specs.declared.term.Variable.{Variable}
use Rattle.moxi_terms.specs.Names.{constant_count}
use Rattle.moxi_lines.specs.Codes.{choice_width, sort_bits}
use Rattle.moxi_lines.specs.TermLaws.{HaveCodes}
use Rattle.moxi_lines.specs.TermLines.{AllBuilt, Built, with_binary, with_constant}
use Rattle.moxi_lines.proofs.CodeLaws.{choice_holds, width_low}
use Rattle.moxi_lines.proofs.Growing.{grown_long, grown_width}
use Rattle.moxi_lines.proofs.Steps.{word_grows}
use Rattle.moxi_lines.proofs.Chains.{binary_grows}
use Rattle.moxi_to_btor.specs.TermPutting.{CanPutBinary, CanPutConstant}
use Rattle.moxi_to_btor.proofs.Widths.{IsWide, binary_can, binary_wide, constant_can, word_wide}
use Rattle.moxi_lines.specs.Lines.{with_code, with_constraint, with_free, with_given, with_variable, with_variables}
use Rattle.moxi_lines.proofs.Extending.{Extends, extends_long, extends_none, extends_then, extends_width, quietly}
use Rattle.moxi_lines.proofs.VariableLaws.{all_extend, sort_wide}
use Rattle.moxi_to_btor.specs.Putting.{CanPutBelow, CanPutCode, CanPutFree, CanPutGiven, CanPutTruth, CanPutVariable, CanPutVariables, below_lines}
use Rattle.moxi_to_btor.proofs.Giving.{free_wide, input_can, next_can, next_extends, next_gives, state_can, state_extends, state_open}
use Rattle.moxi_to_btor.proofs.Stepping.{all_made, made}

pub next_number : (xs : List ℕ) (i : ℕ) → i < length xs → drop i xs ≡ get_or xs i 0 ∷ drop (i + 1) xs
next_number xs i h = drop-cons xs i 0 h ∙ ap (λ k. get_or xs i 0 ∷ drop k xs) (sym (add-one i))

-- the items that are left, one by one
pub next_item : {A : Type 0} (xs : List A) (i : ℕ) (x : A) → i < length xs → x ≡ get_or xs i x → drop i xs ≡ x ∷ drop (i + 1) xs
next_item xs i x h e = drop-cons xs i x h ∙ ap (λ y. y ∷ drop (suc i) xs) (sym e) ∙ ap (λ k. x ∷ drop k xs) (sym (add-one i))

-- ---- codes

module _ (x : BitVector) (lines : List Line) (p : ℕ) (c : CanPutBelow x lines p) where
  limit_room : length (with_binary two.Ult (with_constant lines x).0 p (with_constant lines x).1).0 < greatest_id
  limit_room =
      let m = with_constant lines x in
      let g = with_binary two.Ult m.0 p m.1 in
      let after : Extends g.0 (with_constraint g) = record { more = _; is = refl } in
      omega (arith, c.room, extends_long g.0 (with_constraint g) after)

  pub limit_can : CanPutConstant lines x
  limit_can =
      let m = with_constant lines x in
      constant_can lines x c.word (omega (arith, limit_room, grown_long m.0 (with_binary two.Ult m.0 p m.1).0 (binary_grows two.Ult m.0 p m.1)))

  both_wide : IsWide (with_constant lines x).0 p x.width × IsWide (with_constant lines x).0 (with_constant lines x).1 x.width
  both_wide =
      let m = with_constant lines x in
      let g = word_grows lines (line.Constant x) x.width [] refl in (
        record { low = c.word.0; high = c.word.1; width = grown_width lines m.0 p x.width c.word.0 g c.width },
        record { low = c.word.0; high = c.word.1; width = word_wide lines (line.Constant x) x.width [] refl refl c.word.0 },
      )

  pub less_can : (m : Built) → m ≡ with_constant lines x → CanPutBinary two.Ult m.0 p m.1
  less_can m e =
      let n = with_constant lines x in
      subst (λ (m : Built). CanPutBinary two.Ult m.0 p m.1) (sym e) (binary_can two.Ult n.0 p n.1 x.width x.width both_wide.0 both_wide.1 refl (omega arith) (omega arith) limit_room)

  pub truth_can : (m g : Built) → m ≡ with_constant lines x → g ≡ with_binary two.Ult m.0 p m.1 → CanPutTruth g.0 g.1
  truth_can m g e f =
      let n = with_constant lines x in
      let h : g ≡ with_binary two.Ult n.0 p n.1 = f ∙ ap (λ (m : Built). with_binary two.Ult m.0 p m.1) e in
      subst (λ (g : Built). CanPutTruth g.0 g.1) (sym h) (record { room = limit_room; width = (binary_wide two.Ult n.0 p n.1 x.width x.width both_wide.0 both_wide.1 (omega arith) (omega arith)).width })

code_extends : (es : List Enumeration) (s : Sort) (lines : List Line) (p : ℕ) → Extends lines (with_code es s lines p)
code_extends es Truth lines p = extends_none lines
code_extends es (Bits w) lines p = extends_none lines
code_extends es (Choice n) lines p = go (eqb (constant_count es n) (2 ^ choice_width (constant_count es n))) (record { width = choice_width (constant_count es n); bits = constant_count es n })
  where
    below_extends : (x : BitVector) → Extends lines (below_lines x lines p)
    below_extends x =
        let m = with_constant lines x in
        let g = with_binary two.Ult m.0 p m.1 in
        extends_then lines m.0 (with_constraint g) (quietly lines m.0 (word_grows lines (line.Constant x) x.width [] refl))
        (extends_then m.0 g.0 (with_constraint g) (quietly m.0 g.0 (binary_grows two.Ult m.0 p m.1)) (record { more = _; is = refl }))

    go : (b : Bool) (x : BitVector) → Extends lines (cond b lines (below_lines x lines p))
    go true x = extends_none lines
    go false x = below_extends x

-- the number of constants, as a word of the width of their codes
abbrev pub count_word : List Enumeration → ℕ → BitVector
count_word es n = record { width = choice_width (constant_count es n); bits = constant_count es n }

pub code_whole : (es : List Enumeration) (n : ℕ) (lines : List Line) (p : ℕ) → HaveCodes es → (IsWord (count_word es n) → ⊥) → choice_width (constant_count es n) ≤ WIDEST → with_code es (Choice n) lines p ≡ lines
code_whole es n lines p codes h high =
    let c = constant_count es n in
    let e : eqb c (2 ^ choice_width c) ≡ true = whole c (choice_width c) (choice_holds c) (λ l. h (width_low c c, high, l)) in
    ap (λ b. cond b lines (below_lines (count_word es n) lines p)) e
  where
    whole : (a b : ℕ) → a ≤ 2 ^ b → (a < 2 ^ b → ⊥) → eqb a (2 ^ b) ≡ true
    whole a b le f = by_test (eqb a (2 ^ b)) refl
      where
        by_test : (t : Bool) → eqb a (2 ^ b) ≡ t → eqb a (2 ^ b) ≡ true
        by_test true e = e
        by_test false e = absurd (f (let l : a < 2 ^ b = grind (arith, nat_tests) in l))

-- ---- one variable

module _ (es : List Enumeration) (lines : List Line) (v : Variable) (c : CanPutVariable es lines v) where
  abbrev input_m : Built
  input_m = with_free lines line.Input (sort_bits es v.sort) v.name

  abbrev state_m : Built
  state_m = with_free input_m.0 line.State (sort_bits es v.sort) (v.name ++ codes ".prev")

  abbrev next_m : List Line
  next_m = with_given state_m.0 line.Next (sort_bits es v.sort) state_m.1 input_m.1

  wide : (1 ≤ sort_bits es v.sort) × (sort_bits es v.sort ≤ WIDEST)
  wide = sort_wide es c.codes v.sort c.sort

  next_room : length next_m < greatest_id
  next_room = omega (arith, c.room, extends_long next_m _ (code_extends es v.sort next_m input_m.1))

  state_room : length state_m.0 < greatest_id
  state_room = omega (arith, next_room, extends_long state_m.0 next_m (next_extends state_m.0 (sort_bits es v.sort) state_m.1 input_m.1))

  input_room : length input_m.0 < greatest_id
  input_room = omega (arith, state_room, extends_long input_m.0 state_m.0 (state_extends input_m.0 (sort_bits es v.sort) (v.name ++ codes ".prev")))

  input_wide : width_at input_m.0 input_m.1 ≡ sort_bits es v.sort
  input_wide = free_wide lines (sort_bits es v.sort) v.name wide.0

  pub input_can_put : (w : ℕ) (name : List ℕ) → w ≡ sort_bits es v.sort → name ≡ v.name → CanPutFree lines line.Input w name
  input_can_put w name e f =
      subst (λ w. CanPutFree lines line.Input w name) (sym e) (subst (CanPutFree lines line.Input (sort_bits es v.sort)) (sym f) (input_can lines (sort_bits es v.sort) v.name wide.0 wide.1 input_room))

  pub input_is : (w : ℕ) (name : List ℕ) → w ≡ sort_bits es v.sort → name ≡ v.name → with_free lines line.Input w name ≡ input_m
  input_is w name e f = ap (λ w. with_free lines line.Input w name) e ∙ ap (with_free lines line.Input (sort_bits es v.sort)) f

  pub state_is : (w : ℕ) (name : List ℕ) (m : Built) → w ≡ sort_bits es v.sort → name ≡ v.name ++ codes ".prev" → m ≡ input_m → with_free m.0 line.State w name ≡ state_m
  state_is w name m e f g = ap (λ (m : Built). with_free m.0 line.State w name) g ∙ ap (λ w. with_free input_m.0 line.State w name) e ∙ ap (with_free input_m.0 line.State (sort_bits es v.sort)) f

  pub next_is : (w : ℕ) (m n : Built) → w ≡ sort_bits es v.sort → m ≡ input_m → n ≡ state_m → with_given n.0 line.Next w n.1 m.1 ≡ next_m
  next_is w m n e f g =
      ap (λ (m : Built). with_given n.0 line.Next w n.1 m.1) f ∙ ap (λ (n : Built). with_given n.0 line.Next w n.1 input_m.1) g ∙ ap (λ w. with_given state_m.0 line.Next w state_m.1 input_m.1) e

  pub variable_is : (m : Built) (new : List Line) → m ≡ input_m → new ≡ next_m → made (with_code es v.sort new m.1) m.1 ≡ with_variable es lines v
  variable_is m new f g = ap (λ (m : Built). made (with_code es v.sort new m.1) m.1) f ∙ ap (λ new. made (with_code es v.sort new input_m.1) input_m.1) g

  pub state_can_put : (w : ℕ) (name : List ℕ) (m : Built) → w ≡ sort_bits es v.sort → name ≡ v.name ++ codes ".prev" → m ≡ input_m → CanPutFree m.0 line.State w name
  state_can_put w name m e f g =
      subst (λ (m : Built). CanPutFree m.0 line.State w name) (sym g) (subst (λ w. CanPutFree input_m.0 line.State w name) (sym e) (subst (CanPutFree input_m.0 line.State (sort_bits es v.sort)) (sym f)
      (state_can input_m.0 (sort_bits es v.sort) (v.name ++ codes ".prev") wide.0 wide.1 state_room)))

  pub next_can_put : (w : ℕ) (m n : Built) → w ≡ sort_bits es v.sort → m ≡ input_m → n ≡ state_m → IsWellFormed m.0 → CanPutGiven n.0 line.Next w n.1 m.1
  next_can_put w m n e f g wf =
      let well : IsWellFormed input_m.0 = subst (λ (m : Built). IsWellFormed m.0) f wf in
      let o = state_open is_next next_gives input_m.0 (sort_bits es v.sort) (v.name ++ codes ".prev") well wide.0 in
      let i : width_at state_m.0 input_m.1 ≡ sort_bits es v.sort = extends_width input_m.0 state_m.0 input_m.1 (sort_bits es v.sort) wide.0 (state_extends input_m.0 (sort_bits es v.sort) (v.name ++ codes ".prev")) input_wide in
      subst (λ (m : Built). CanPutGiven n.0 line.Next w n.1 m.1) (sym f) (subst (λ (n : Built). CanPutGiven n.0 line.Next w n.1 input_m.1) (sym g) (subst (λ w. CanPutGiven state_m.0 line.Next w state_m.1 input_m.1) (sym e)
      (next_can state_m.0 (sort_bits es v.sort) state_m.1 input_m.1 wide.0 wide.1 o i next_room)))

  pub code_can_put : (m : Built) (new : List Line) → m ≡ input_m → new ≡ next_m → CanPutCode es v.sort new m.1
  code_can_put m new f g =
      let i : width_at state_m.0 input_m.1 ≡ sort_bits es v.sort = extends_width input_m.0 state_m.0 input_m.1 (sort_bits es v.sort) wide.0 (state_extends input_m.0 (sort_bits es v.sort) (v.name ++ codes ".prev")) input_wide in
      let j : width_at next_m input_m.1 ≡ sort_bits es v.sort = extends_width state_m.0 next_m input_m.1 (sort_bits es v.sort) wide.0 (next_extends state_m.0 (sort_bits es v.sort) state_m.1 input_m.1) i in
      subst (λ (m : Built). CanPutCode es v.sort new m.1) (sym f) (subst (λ new. CanPutCode es v.sort new input_m.1) (sym g) (record { codes = c.codes; sort = c.sort; width = j; room = c.room }))

-- ---- all variables

abbrev pub with_one : List Enumeration → AllBuilt → Variable → AllBuilt
with_one es m v = let one = with_variable es m.0 v in (one.0, m.1 ++ one.1 ∷ [])

pub first_variable : (es : List Enumeration) (m : AllBuilt) (v : Variable) (vs : List Variable) → CanPutVariables es m (v ∷ vs) → CanPutVariable es m.0 v
first_variable es m v vs c =
    let one = with_variable es m.0 v in
    let next : AllBuilt = (one.0, m.1 ++ one.1 ∷ []) in
    record { codes = c.codes; sort = c.sorts.0; room = omega (arith, c.room, extends_long one.0 (with_variables es next vs).0 (all_extend es next vs)) }

pub one_is : (es : List Enumeration) (m : AllBuilt) (v : Variable) (new : List Line) (input : ℕ) (more : List ℕ) → made new input ≡ with_variable es m.0 v → more ≡ m.1 ++ input ∷ [] → all_made new more ≡ with_one es m v
one_is es m v new input more e f = ap (all_made new) f ∙ ap (λ (z : Built). all_made z.0 (m.1 ++ z.1 ∷ [])) e

pub rest_variables : (es : List Enumeration) (m n : AllBuilt) (v : Variable) (vs : List Variable) → CanPutVariables es m (v ∷ vs) → n ≡ with_one es m v → CanPutVariables es n vs
rest_variables es m n v vs c e = subst (λ n. CanPutVariables es n vs) (sym e) (record { codes = c.codes; sorts = c.sorts.1; room = c.room })

-- ---- constants of enumerations

abbrev word : ℕ → ℕ → BitVector
word w b = record { width = w; bits = b }

count_at : (es : List Enumeration) (n : ℕ) (e : Enumeration) → n < length es → e ≡ slice_index_or es n e → constant_count es n ≡ length e.constants
count_at [] n e h f = absurd (omega (arith, h))
count_at (d ∷ es) zero e h f = ap (λ (e : Enumeration). length e.constants) (sym f)
count_at (d ∷ es) (suc n) e h f = count_at es n e (omega (arith, h)) f

pub no_word : (es : List Enumeration) (n : ℕ) (lines : List Line) (p : ℕ) (e : Enumeration) (count width bits : ℕ) → CanPutCode es (Choice n) lines p → e ≡ slice_index_or es n e → count ≡ length e.constants → width ≡ choice_width count → bits ≡ count
    → (IsWord (record { width = width; bits = bits }) → ⊥) → lines ≡ with_code es (Choice n) lines p
no_word es n lines p e count width bits c f g h i none =
    let same : constant_count es n ≡ count = count_at es n e c.sort f ∙ sym g in
    sym (code_whole es n lines p c.codes (λ w. none (subst (λ b. IsWord (word width b)) (sym i) (subst (λ v. IsWord (word v count)) (sym h) (subst (λ k. IsWord (word (choice_width k) k)) same w)))) (sort_wide es c.codes (Choice n) c.sort).1)
