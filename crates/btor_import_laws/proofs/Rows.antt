-- The row of a step, and the values of a row.
use Rattle.std.proofs.Common.{◌≡◌, ℕ, zero, suc, ◌+◌, ◌≤◌, Bool, true, false, ◌==◌, ◌&&◌, if◌then◌else◌, List, [], ◌∷◌, ◌++◌, take, drop, length, decimal, Some, refl, sym, ap, ◌∙◌, subst, arith, option_map, inl, inr}
use Rattle.std.specs.Prelude.{slice_get}
use Rattle.std.specs.Option.{option_map_or}
use Rattle.std.proofs.lemmas.Bool.{and_from, and_parts, cases_Bool, eq-eqb, eqb-true}
use Rattle.std.proofs.lemmas.Fmt.{decimal_injective}
use Rattle.std.proofs.lemmas.Option.{same_Some, none-some, slice_get-map}
use Rattle.word_core.specs.Words.{BitVector}
use Rattle.btor_tree.specs.declared.args.Arg.{Arg}
use Rattle.btor_tree.specs.declared.lines.Line.{Line}
use Rattle.btor_tree.specs.declared.lines.LineOp.{LineOp}
use Rattle.btor_tree.specs.declared.lines.LineOp.TheVariants as line
use Rattle.btor_tree.specs.Fits.{IsWellFormed, has_word, is_input, is_state, line_width, sort_at, width_at}
use Rattle.btor_tree.specs.Frame.{Equation, GivenFits, IsFrame, nothing, word_at}
use Rattle.btor_tree.proofs.Paths.{width_is}
use Rattle.btor_tree.proofs.Widths.{IsOfWidth, Wide, line_at}
use Rattle.btor_tree.proofs.Words.{computed_equation}
use Rattle.moxi_terms.specs.declared.data.Datum.{Datum}
use Rattle.moxi_terms.specs.declared.data.Datum.TheVariants.{Truth, Bits, Constant}
use Rattle.moxi_terms.specs.declared.data.Sort.{Sort}
use Rattle.moxi_terms.specs.declared.data.Sort.TheVariants as sort
use Rattle.moxi_terms.specs.declared.term.Variable.{Variable}
use Rattle.moxi_terms.specs.Operators.{word_of}
use Rattle.moxi_terms.specs.Sorts.{IsOf}
use Rattle.moxi_terms.specs.Tree.{sorts_of}
use Rattle.moxi_terms.specs.Value.{Values}
use Rattle.moxi_scripts.specs.Behaviour.{Suits}
use Rattle.btor_import.specs.Script.{is_local, number_of}
use Rattle.btor_import.proofs.Lists.{mapped_at}
use Rattle.btor_import.proofs.LineVariables.{all_variables, id_small, letter_by, line_of_variable, local_is, one_id, variable_for, variable_there, after_letter}
use Rattle.btor_import_laws.proofs.Steps.{Agree, EquationsHold, fits_at}

-- ---- the row of a step

abbrev pub row_from : List Line → Values → ℕ → List Line → List BitVector
row_from lines now i [] = []
row_from lines now i (l ∷ ls) = (if has_word l.op then word_of (now (number_of lines i)) else nothing) ∷ row_from lines now (suc i) ls

abbrev pub row_of : List Line → Values → List BitVector
row_of lines now = row_from lines now 0 lines

row_long : (lines : List Line) (now : Values) (n : ℕ) (ls : List Line) → length (row_from lines now n ls) ≡ length ls
row_long lines now n [] = refl
row_long lines now n (l ∷ ls) = ap suc (row_long lines now (suc n) ls)

row_word : (lines : List Line) (now : Values) (n : ℕ) (ls : List Line) (k : ℕ) (l : Line) → slice_get ls k ≡ Some l → word_at (row_from lines now n ls) k ≡ (if has_word l.op then word_of (now (number_of lines (n + k))) else nothing)
row_word lines now n [] k l h = absurd (none-some l h)
row_word lines now n (m ∷ ls) zero l h =
    ap (λ (x : Line). if has_word x.op then word_of (now (number_of lines n)) else nothing) (same_Some m l h)
    ∙ ap (λ j. if has_word l.op then word_of (now (number_of lines j)) else nothing) (let e : n ≡ n + 0 = omega arith in e)
row_word lines now n (m ∷ ls) (suc k) l h =
    row_word lines now (suc n) ls k l h ∙ ap (λ j. if has_word l.op then word_of (now (number_of lines j)) else nothing) (let e : suc n + k ≡ n + suc k = omega arith in e)

word_here : (lines : List Line) (now : Values) (i : ℕ) (l : Line) → slice_get lines i ≡ Some l → word_at (row_of lines now) i ≡ (if has_word l.op then word_of (now (number_of lines i)) else nothing)
word_here lines now i l h = row_word lines now 0 lines i l h ∙ ap (λ j. if has_word l.op then word_of (now (number_of lines j)) else nothing) (let e : 0 + i ≡ i = omega arith in e)

of_bits : (w : ℕ) (d : Datum) → IsOf [] (sort.Bits w) d → (d ≡ Bits (word_of d)) × IsOfWidth (word_of d) w
of_bits w (Bits v) h = (refl, (h.1, h.0))
of_bits w (Truth b) h = absurd h
of_bits w (Constant n i) h = absurd h

wordless : (before : List Line) (row : List BitVector) (s : ℕ) (o : LineOp) (args : List Arg) (x : BitVector) → has_word o ≡ false → x ≡ nothing → Equation before row s o args x
wordless before row s (line.Sort w) args x h e = e
wordless before row s line.Init args x h e = e
wordless before row s line.Next args x h e = e
wordless before row s line.Bad args x h e = e
wordless before row s line.Constraint args x h e = e
wordless before row s line.Output args x h e = e
wordless before row s o args x h e = absurd (cc)

given : (before : List Line) (row : List BitVector) (s : ℕ) (o : LineOp) (args : List Arg) (x : BitVector) → (is_input o ≡ true) → IsOfWidth x (sort_at before s) → Equation before row s o args x
given before row s line.Input args x h e = e
given before row s o args x h e = absurd (cc)

kept : (before : List Line) (row : List BitVector) (s : ℕ) (o : LineOp) (args : List Arg) (x : BitVector) → (is_state o ≡ true) → IsOfWidth x (sort_at before s) → Equation before row s o args x
kept before row s line.State args x h e = e
kept before row s o args x h e = absurd (cc)

local_given : (before : List Line) (s : ℕ) (o : LineOp) (x : BitVector) → is_local o ≡ true → GivenFits before s o x
local_given before s line.Input x h = absurd (cc)
local_given before s line.State x h = absurd (cc)
local_given before s o x h = tt

-- ---- the values of a row

-- the place of the line whose variable has a number, among lines of which the first is at place i
abbrev pub place_from : List Line → ℕ → List Line → ℕ → ℕ
place_from lines i [] v = 0
place_from lines i (l ∷ ls) v = if has_word l.op && (number_of lines i == v) then i else place_from lines (suc i) ls v

abbrev pub values_of : List Line → List BitVector → Values
values_of lines row v = Bits (word_at row (place_from lines 0 lines v))

module _ (lines : List Line) (well : IsWellFormed lines) where
  -- the width of a line's word is that of its sort
  wide_sort : (i : ℕ) (l : Line) → slice_get lines i ≡ Some l → has_word l.op ≡ true → (1 ≤ width_at lines i) × (width_at lines i ≡ sort_at lines l.sort) × (width_at lines i ≡ sort_at (take i lines) l.sort)
  wide_sort i l h w =
      let p = width_is lines i l well h w in
      (p.1, ap (λ o. option_map_or (line_width lines) o 0) h ∙ ap (λ b. if b then sort_at lines l.sort else 0) w, p.0)

  -- ---- from values to a row

  module _ (now : Values) (suits : Suits [] (sorts_of (all_variables lines)) now) where
    here : (i : ℕ) (l : Line) → slice_get lines i ≡ Some l → has_word l.op ≡ true → (now (number_of lines i) ≡ Bits (word_of (now (number_of lines i)))) × IsOfWidth (word_of (now (number_of lines i))) (sort_at lines l.sort)
    here i l h w =
        of_bits (sort_at lines l.sort) (now (number_of lines i))
        (suits.each (number_of lines i) (sort.Bits (sort_at lines l.sort)) (slice_get-map (λ (v : Variable). v.sort) (all_variables lines) (number_of lines i) ∙ ap (option_map (λ (v : Variable). v.sort)) (variable_there lines i l h w)))

    word_is : (i : ℕ) (l : Line) → slice_get lines i ≡ Some l → has_word l.op ≡ true → word_at (row_of lines now) i ≡ word_of (now (number_of lines i))
    word_is i l h w = word_here lines now i l h ∙ ap (λ b. if b then word_of (now (number_of lines i)) else nothing) w

    pub row_agrees : Agree lines (row_of lines now) now
    row_agrees i l h w = (here i l h w).0 ∙ ap Bits (sym (word_is i l h w))

    pub row_wide : Wide lines (row_of lines now)
    row_wide i h =
        let g = line_at lines i h in
        subst (λ x. IsOfWidth x (width_at lines i)) (sym (word_is i g.0 g.1 g.2)) (subst (IsOfWidth (word_of (now (number_of lines i)))) (sym g.3) (here i g.0 g.1 g.2).1)

    equation_at : EquationsHold lines (row_of lines now) → (i : ℕ) (l : Line) → slice_get lines i ≡ Some l → Equation (take i lines) (row_of lines now) l.sort l.op l.args (word_at (row_of lines now) i)
    equation_at eqs i l h =
        elim (cases_Bool (has_word l.op)) [
          | inr n ↦ wordless (take i lines) (row_of lines now) l.sort l.op l.args (word_at (row_of lines now) i) n (word_here lines now i l h ∙ ap (λ b. if b then word_of (now (number_of lines i)) else nothing) n)
          | inl w ↦
              let s = wide_sort i l h w in
              let x = subst (IsOfWidth (word_at (row_of lines now) i)) s.2 (row_wide i s.0) in
              elim (cases_Bool (is_input l.op)) [
                | inl e ↦ given (take i lines) (row_of lines now) l.sort l.op l.args (word_at (row_of lines now) i) e x
                | inr e ↦ elim (cases_Bool (is_state l.op)) [
                  | inl f ↦ kept (take i lines) (row_of lines now) l.sort l.op l.args (word_at (row_of lines now) i) f x
                  | inr f ↦
                      let k = local_is l.op w e f in
                      subst (Equation (take i lines) (row_of lines now) l.sort l.op l.args) (sym (eqs i l h k)) (computed_equation (take i lines) (row_of lines now) l.sort l.op l.args nothing (fits_at lines well i l h) (local_given (take i lines) l.sort l.op nothing k))
                ]
              ]
        ]

    pub row_frame : EquationsHold lines (row_of lines now) → IsFrame lines (row_of lines now)
    row_frame eqs = record { sized = row_long lines now 0 lines; meets = record { by_line = equation_at eqs } }

  -- ---- from a row to values

  one_place : (i j : ℕ) (l m : Line) → slice_get lines i ≡ Some l → slice_get lines j ≡ Some m → has_word l.op ≡ true → has_word m.op ≡ true → number_of lines i ≡ number_of lines j → i ≡ j
  one_place i j l m h g w z e =
      let same : variable_for lines l ≡ variable_for lines m = same_Some (variable_for lines l) (variable_for lines m) (sym (variable_there lines i l h w) ∙ ap (slice_get (all_variables lines)) e ∙ variable_there lines j m g z) in
      let names : letter_by (is_input l.op) (is_state l.op) ++ decimal l.id ≡ letter_by (is_input m.op) (is_state m.op) ++ decimal m.id = ap (λ (v : Variable). v.name) same in
      let digits : decimal l.id ≡ decimal m.id =
      sym (after_letter (is_input l.op) (is_state l.op) (decimal l.id)) ∙ ap (drop 2) names ∙ after_letter (is_input m.op) (is_state m.op) (decimal m.id) in
      let p = id_small lines i l well h in
      let q = id_small lines j m well g in
      one_id lines i j l m well h g (decimal_injective l.id m.id (omega (arith, p)) (omega (arith, q)) digits)

  place_is : (v : ℕ) (n : ℕ) (ls : List Line) → ((j : ℕ) (m : Line) → slice_get ls j ≡ Some m → slice_get lines (n + j) ≡ Some m) → (k : ℕ) (l : Line) → slice_get ls k ≡ Some l → has_word l.op ≡ true → number_of lines (n + k) ≡ v
      → place_from lines n ls v ≡ n + k
  place_is v n [] f k l h w e = absurd (none-some l h)
  place_is v n (m ∷ ls) f zero l h w e =
      let s = same_Some m l h in
      let z : n + 0 ≡ n = omega arith in
      ap (λ b. if b then n else place_from lines (suc n) ls v) (and_from (has_word m.op) (number_of lines n == v) (ap (λ (x : Line). has_word x.op) s ∙ w) (eq-eqb (number_of lines n) v (ap (number_of lines) (sym z) ∙ e))) ∙ sym z
  place_is v n (m ∷ ls) f (suc k) l h w e =
      let z : suc n + k ≡ n + suc k = omega arith in
      by (has_word m.op && (number_of lines n == v)) refl
      (place_is v (suc n) ls (λ j x g. subst (λ i. slice_get lines i ≡ Some x) (let y : n + suc j ≡ suc n + j = omega arith in y) (f (suc j) x g)) k l h w (ap (number_of lines) z ∙ e) ∙ z)
    where
      by : (b : Bool) → (has_word m.op && (number_of lines n == v)) ≡ b → place_from lines (suc n) ls v ≡ n + suc k → (if b then n else place_from lines (suc n) ls v) ≡ n + suc k
      by false t g = g
      by true t g =
          let p = and_parts (has_word m.op) (number_of lines n == v) t in
          let y : n + 0 ≡ n = omega arith in
          let one = one_place n (n + suc k) m l (subst (λ i. slice_get lines i ≡ Some m) y (f 0 m refl)) (f (suc k) l h) p.0 w (eqb-true (number_of lines n) v p.1 ∙ sym e) in
          absurd (omega (arith, one))

  module _ (row : List BitVector) where
    pub values_agree : Agree lines row (values_of lines row)
    values_agree i l h w =
        let z : 0 + i ≡ i = omega arith in
        ap (λ k. Bits (word_at row k))
        (place_is (number_of lines i) 0 lines (λ j m g. subst (λ n. slice_get lines n ≡ Some m) (let y : j ≡ 0 + j = omega arith in y) g) i l h w (ap (number_of lines) z) ∙ z)

    pub values_suit : Wide lines row → Suits [] (sorts_of (all_variables lines)) (values_of lines row)
    values_suit wide = record {
      each = λ v s h.
          let m = mapped_at (λ (x : Variable). x.sort) (all_variables lines) v s h in
          let p = line_of_variable lines v m.0 m.1 in
          let is : s ≡ sort.Bits (sort_at lines p.line.sort) = m.2 ∙ ap (λ (x : Variable). x.sort) p.same in
          let d : values_of lines row v ≡ Bits (word_at row p.place) = ap (values_of lines row) (sym p.number) ∙ values_agree p.place p.line p.there p.word in
          let w = wide_sort p.place p.line p.there p.word in
          let x = subst (IsOfWidth (word_at row p.place)) w.1 (wide p.place w.0) in
          let t : IsOf [] (sort.Bits (sort_at lines p.line.sort)) (Bits (word_at row p.place)) = (x.1, x.0) in
          subst (λ (y : Sort). IsOf [] y (values_of lines row v)) (sym is) (subst (IsOf [] (sort.Bits (sort_at lines p.line.sort))) (sym d) t);
    }
