-- Places and values of variables, with a row and without one.
use Rattle.std.proofs.Common.{◌≡◌, ℕ, zero, suc, ◌<◌, Bool, false, List, [], ◌∷◌, ◌++◌, length, map, Some, refl, sym, ap, subst, arith}
use Rattle.std.specs.Prelude.{slice_get, slice_index_or}
use Rattle.std.specs.List.{AllByRecursion}
use Rattle.std.proofs.lemmas.Option.{none-some}
use Rattle.word_core.specs.Words.{BitVector}
use Rattle.btor_tree.specs.declared.lines.Line.{Line}
use Rattle.btor_tree.specs.Fits.{width_at}
use Rattle.btor_tree.proofs.Widths.{one_lt}
use Rattle.moxi_terms.specs.declared.data.Sort.{Sort}
use Rattle.moxi_terms.specs.declared.data.Sort.TheVariants.{Truth, Bits, Choice}
use Rattle.moxi_terms.specs.declared.data.Datum.{Datum}
use Rattle.moxi_terms.specs.declared.data.Datum.TheVariants as datum
use Rattle.moxi_terms.specs.declared.term.Enumeration.{Enumeration}
use Rattle.moxi_terms.specs.declared.term.Variable.{Variable}
use Rattle.moxi_terms.specs.Sorted.{AreSorts}
use Rattle.moxi_terms.specs.Sorts.{IsOf, IsSort}
use Rattle.moxi_terms.specs.Tree.{sorts_of}
use Rattle.moxi_terms.specs.Value.{Values}
use Rattle.moxi_terms.proofs.ValueLaws.{read_at}
use Rattle.moxi_lines.specs.Codes.{sort_bits}
use Rattle.moxi_lines.specs.TermLines.{place_in}
use Rattle.moxi_lines.specs.TermLaws.{HaveCodes, Represents, VariablesAreRepresented}
use Rattle.moxi_lines.specs.Variables.{AreVariablesAt, IsVariableAt}
use Rattle.moxi_lines.proofs.VariableLaws.{all_get, sort_wide}
use Rattle.moxi_lines.proofs.Decoded.{sort_there}

-- ---- places

pub place_mapped : (ps qs : List ℕ) (v : ℕ) → v < length ps → place_in (map (λ p. suc p) ps ++ qs) v ≡ suc (place_in ps v)
place_mapped [] qs v h = absurd (omega (arith, h))
place_mapped (p ∷ ps) qs zero h = refl
place_mapped (p ∷ ps) qs (suc v) h = place_mapped ps qs v (omega (arith, h))

pub inside_list : {A : Type 0} (xs : List A) (v : ℕ) (x : A) → slice_get xs v ≡ Some x → v < length xs
inside_list [] v x h = absurd (none-some x h)
inside_list (y ∷ xs) zero x h = omega arith
inside_list (y ∷ xs) (suc v) x h = omega (arith, inside_list xs v x h)

pub variables_long : (es : List Enumeration) (lines : List Line) (vs : List Variable) (ps : List ℕ) → AreVariablesAt es lines vs ps → length ps ≡ length vs
variables_long es lines [] [] h = refl
variables_long es lines [] (p ∷ ps) h = absurd h
variables_long es lines (v ∷ vs) [] h = absurd h
variables_long es lines (v ∷ vs) (p ∷ ps) h = ap suc (variables_long es lines vs ps h.1)

pub variable_at : (es : List Enumeration) (lines : List Line) (vs : List Variable) (ps : List ℕ) (v : ℕ) → AreVariablesAt es lines vs ps → v < length vs → (x : Variable) × IsVariableAt es lines x (place_in ps v)
variable_at es lines [] ps v h less = absurd (omega (arith, less))
variable_at es lines (x ∷ vs) [] v h less = absurd h
variable_at es lines (x ∷ vs) (p ∷ ps) zero h less = (x, h.0)
variable_at es lines (x ∷ vs) (p ∷ ps) (suc v) h less = variable_at es lines vs ps v h.1 (omega (arith, less))

pub values_as : (es : List Enumeration) (row : List BitVector) (known : Bool) (lines : List Line) (vars : List Sort) (places : ℕ → ℕ) (a b : Values) → ((v : ℕ) → v < length vars → a v ≡ b v) → VariablesAreRepresented es row known lines vars places a → VariablesAreRepresented es row known lines vars places b
values_as es row known lines vars places a b e x =
    record {
      sorted = λ v s h. subst (IsOf es s) (e v (inside_list vars v s h)) (x.sorted v s h);
      each = λ v s h. subst (Represents es row known lines (places v) s) (e v (inside_list vars v s h)) (x.each v s h);
    }

-- ---- values for lines without a row

abbrev zero_datum : Sort → Datum
zero_datum Truth = datum.Truth false
zero_datum (Bits w) = datum.Bits (record { width = w; bits = 0 })
zero_datum (Choice n) = datum.Constant n 0

zero_is : (es : List Enumeration) → AllByRecursion (λ (e : Enumeration). 0 < length e.constants) es → (s : Sort) → IsSort es s → IsOf es s (zero_datum s)
zero_is es full Truth k = tt
zero_is es full (Bits w) k = (refl, (k.0, k.1, omega (arith, one_lt w k.0)))
zero_is es full (Choice n) k =
    let g = all_get (λ (c : Enumeration). 0 < length c.constants) es n k full in (refl, record { enumeration = g.0; there = g.1; within = g.2 })

abbrev pub zero_values : List Variable → Values
zero_values vs v = zero_datum (slice_index_or (sorts_of vs) v Truth)

pub zeros_stand : (es : List Enumeration) → HaveCodes es → AllByRecursion (λ (e : Enumeration). 0 < length e.constants) es → (vs : List Variable) → AreSorts es (sorts_of vs) → (lines : List Line) (place : ℕ → ℕ)
    → ((v : ℕ) (s : Sort) → slice_get (sorts_of vs) v ≡ Some s → width_at lines (place v) ≡ sort_bits es s) → VariablesAreRepresented es [] false lines (sorts_of vs) place (zero_values vs)
zeros_stand es have full vs sorts lines place widths =
    record {
      sorted = λ v s h. subst (λ t. IsOf es s (zero_datum t)) (sym (read_at (sorts_of vs) v s Truth h)) (zero_is es full s (sort_there es (sorts_of vs) v s sorts h));
      each = λ v s h. record { wide = (sort_wide es have s (sort_there es (sorts_of vs) v s sorts h)).0; width = widths v s h; word = λ k m. absurd (cc) };
    }
