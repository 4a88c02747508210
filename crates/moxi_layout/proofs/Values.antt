-- The words of inputs, and the values for which they stand.
use Rattle.std.proofs.Common.{◌≡◌, ℕ, zero, suc, ◌<◌, ◌≤◌, Bool, true, false, cond, List, [], ◌∷◌, length, Some, refl, sym, ap, ◌∙◌, subst, arith}
use Rattle.std.specs.Prelude.{nat_lt, slice_get}
use Rattle.std.specs.List.{AllByRecursion}
use Rattle.word_core.specs.Words.{BitVector, IsWord}
use Rattle.btor_tree.specs.declared.lines.Line.{Line}
use Rattle.btor_tree.specs.Frame.{Meets, word_at}
use Rattle.btor_tree.proofs.Widths.{wide}
use Rattle.moxi_terms.specs.declared.data.Sort.{Sort}
use Rattle.moxi_terms.specs.declared.data.Sort.TheVariants.{Truth, Bits, Choice}
use Rattle.moxi_terms.specs.declared.data.Datum.{Datum}
use Rattle.moxi_terms.specs.declared.data.Datum.TheVariants as datum
use Rattle.moxi_terms.specs.declared.term.Enumeration.{Enumeration}
use Rattle.moxi_terms.specs.Sorts.{IsOf, IsSort}
use Rattle.moxi_terms.specs.Tree.{sorts_of}
use Rattle.moxi_terms.specs.Value.{Values}
use Rattle.moxi_terms.proofs.ValueLaws.{read_at}
use Rattle.moxi_terms.specs.Names.{constant_count}
use Rattle.moxi_scripts.specs.Behaviour.{Suits}
use Rattle.moxi_flat.specs.FlatSystem.{PlainFlatSystem}
use Rattle.moxi_lines.specs.Codes.{code_of, sort_bits}
use Rattle.moxi_lines.proofs.CodeLaws.{comes_back, count_is}
use Rattle.moxi_lines.specs.Decoding.{PlacesInside, decoded_datum}
use Rattle.moxi_lines.specs.Variables.{IsInside}
use Rattle.moxi_lines.proofs.VariableLaws.{sort_wide}
use Rattle.moxi_layout.specs.Layout.{input_at, now_values}
use Rattle.moxi_layout.specs.LayoutLaws.{IsLaidOut}
use Rattle.moxi_layout.proofs.Entries.{input_there}
use Rattle.moxi_layout.proofs.Terms.{Agree}
use Rattle.moxi_lines.proofs.Decoded.{is_less, less_than, sort_there}

-- ---- the value of a word

there : {A : Type 0} (P : A → Type 0) (xs : List A) (i : ℕ) → i < length xs → AllByRecursion P xs → (x : A) × (slice_get xs i ≡ Some x) × P x
there P [] i h a = absurd (omega (arith, h))
there P (x ∷ xs) zero h a = (x, refl, a.0)
there P (x ∷ xs) (suc i) h a = there P xs i (omega (arith, h)) a.1

choice_is : (es : List Enumeration) (n : ℕ) (e : Enumeration) → slice_get es n ≡ Some e → 0 < length e.constants → (i : ℕ) (b : Bool) → (b ≡ true → i < constant_count es n) → IsOf es (Choice n) (cond b (datum.Constant n i) (datum.Constant n 0))
choice_is es n e at some i true h = (refl, record { enumeration = e; there = at; within = omega (arith, h refl, count_is es n e at) })
choice_is es n e at some i false h = (refl, record { enumeration = e; there = at; within = some })

-- a word of a sort's width stands for a value of the sort
decoded_is : (es : List Enumeration) → AllByRecursion (λ (e : Enumeration). 0 < length e.constants) es → (s : Sort) → IsSort es s → (x : BitVector) → IsWord x → x.width ≡ sort_bits es s → IsOf es s (decoded_datum es s x)
decoded_is es full Truth k x w e = tt
decoded_is es full (Bits n) k x w e = (e, w)
decoded_is es full (Choice n) k x w e =
    let g = there (λ (c : Enumeration). 0 < length c.constants) es n k full in
    choice_is es n g.0 g.1 g.2 x.bits (nat_lt x.bits (constant_count es n)) (less_than x.bits (constant_count es n))

-- the word of a value of a sort is inside, and stands for the value
code_inside : (es : List Enumeration) (s : Sort) (d : Datum) → IsOf es s d → IsInside es s (code_of es d)
code_inside es Truth d h = tt
code_inside es (Bits w) d h = tt
code_inside es (Choice n) (datum.Constant m i) h = omega (arith, h.1.within, count_is es n h.1.enumeration h.1.there)
code_inside es (Choice n) (datum.Truth b) h = absurd h
code_inside es (Choice n) (datum.Bits v) h = absurd h

pub decoded_back : (es : List Enumeration) (s : Sort) (d : Datum) → IsOf es s d → decoded_datum es s (code_of es d) ≡ d
decoded_back es Truth d h = comes_back es Truth d h
decoded_back es (Bits w) d h = comes_back es (Bits w) d h
decoded_back es (Choice n) (datum.Constant m i) h =
    ap (λ b. cond b (datum.Constant n i) (datum.Constant n 0)) (is_less i (constant_count es n) (omega (arith, h.1.within, count_is es n h.1.enumeration h.1.there)))
    ∙ ap (λ k. datum.Constant k i) (sym h.0)
decoded_back es (Choice n) (datum.Truth b) h = absurd h
decoded_back es (Choice n) (datum.Bits v) h = absurd h

-- ---- inputs of lines that lay a system out

module _ (f : PlainFlatSystem) (lines : List Line) (laid : IsLaidOut f lines) where
  -- the word of an input is one of its sort's width
  pub input_word : (row : List BitVector) → Meets lines row → (v : ℕ) (s : Sort) → slice_get (sorts_of f.variables) v ≡ Some s
      → IsWord (word_at row (input_at lines v)) × ((word_at row (input_at lines v)).width ≡ sort_bits f.scope.enumerations s)
  input_word row met v s h =
      let es = f.scope.enumerations in
      let i = input_there f lines laid.lays.order v s h in
      let low = (sort_wide es laid.codes s (sort_there es (sorts_of f.variables) v s laid.sorted.variables h)).0 in
      let w = wide lines row laid.well_formed met (input_at lines v) (subst (λ n. 1 ≤ n) (sym i.1.width) low) in
      (w.0, w.1 ∙ i.1.width)

  pub now_suits : (row : List BitVector) → Meets lines row → Suits f.scope.enumerations (sorts_of f.variables) (now_values f lines row)
  now_suits row met =
      let es = f.scope.enumerations in
      record {
        each = λ v s h.
            let w = input_word row met v s h in
            subst (λ t. IsOf es s (decoded_datum es t (word_at row (input_at lines v)))) (sym (read_at (sorts_of f.variables) v s Truth h))
            (decoded_is es laid.sorted.scope.enumerations s (sort_there es (sorts_of f.variables) v s laid.sorted.variables h) (word_at row (input_at lines v)) w.0 w.1);
      }

  -- the inputs have the words of these values
  pub record ReadsValues (row : List BitVector) (values : Values) : Type 0 where
    pub each : (v : ℕ) (s : Sort) → slice_get (sorts_of f.variables) v ≡ Some s → word_at row (input_at lines v) ≡ code_of f.scope.enumerations (values v)

  pub read_inside : (row : List BitVector) (values : Values) → Suits f.scope.enumerations (sorts_of f.variables) values → ReadsValues row values → PlacesInside f.scope.enumerations f.variables row (input_at lines)
  read_inside row values suits reads =
      record { each = λ v s h. subst (IsInside f.scope.enumerations s) (sym (reads.each v s h)) (code_inside f.scope.enumerations s (values v) (suits.each v s h)) }

  pub read_values : (row : List BitVector) (values : Values) → Suits f.scope.enumerations (sorts_of f.variables) values → ReadsValues row values → Agree (sorts_of f.variables) (now_values f lines row) values
  read_values row values suits reads =
      let es = f.scope.enumerations in
      record {
        each = λ v s h.
            ap (λ t. decoded_datum es t (word_at row (input_at lines v))) (read_at (sorts_of f.variables) v s Truth h)
            ∙ ap (decoded_datum es s) (reads.each v s h) ∙ decoded_back es s (values v) (suits.each v s h);
      }
