-- The values of a step, one behind the other.
use Rattle.std.proofs.Common.{◌≡◌, ℕ, zero, suc, ◌+◌, ◌<◌, List, [], ◌∷◌, ◌++◌, length, get_or, Option, sym, ap, ◌∙◌, subst, arith}
use Rattle.std.specs.Prelude.{slice_index_or}
use Rattle.word_core.specs.Words.{BitVector}
use Rattle.btor_frames.specs.Judged.{stated_or}
use Rattle.btor_witness.specs.declared.witness.Stated.{Stated}
use Rattle.btor_witness.specs.Printing.{value_of}
use Rattle.moxi_terms.specs.declared.data.Datum.{Datum}
use Rattle.moxi_terms.specs.declared.data.Sort.TheVariants.{Truth}
use Rattle.moxi_terms.specs.declared.term.Enumeration.{Enumeration}
use Rattle.moxi_terms.specs.declared.term.Variable.{Variable}
use Rattle.moxi_terms.specs.Sorted.{AreSorts}
use Rattle.moxi_terms.specs.Sorts.{IsSort}
use Rattle.moxi_terms.specs.Tree.{sorts_of}
use Rattle.moxi_lines.specs.Codes.{sort_bits}
use Rattle.moxi_lines.specs.Decoding.{decoded_datum}
use Rattle.moxi_lift.specs.Lifted.{lifted_values, stated_datum, values_upto}

pub sort_there : (vs : List Variable) (v : ℕ) (x : Variable) → v < length vs → get_or vs v x ≡ x → slice_index_or (sorts_of vs) v Truth ≡ x.sort
sort_there [] v x h e = absurd (omega (arith, h))
sort_there (y ∷ vs) zero x h e = ap (λ (z : Variable). z.sort) e
sort_there (y ∷ vs) (suc v) x h e = sort_there vs v x (omega (arith, h)) e

pub sort_known : (es : List Enumeration) (vs : List Variable) (v : ℕ) (x : Variable) → AreSorts es (sorts_of vs) → v < length vs → get_or vs v x ≡ x → IsSort es x.sort
sort_known es [] v x a h e = absurd (omega (arith, h))
sort_known es (y ∷ vs) zero x a h e = subst (λ (z : Variable). IsSort es z.sort) e a.0
sort_known es (y ∷ vs) (suc v) x a h e = sort_known es vs v x a.1 (omega (arith, h)) e

-- what is read at a place that is there
pub read_there : {X : Type 0} (xs : List X) (i : ℕ) (x y : X) → i < length xs → x ≡ get_or xs i x → x ≡ get_or xs i y
read_there [] i x y h e = absurd (omega (arith, h))
read_there (z ∷ xs) zero x y h e = e
read_there (z ∷ xs) (suc i) x y h e = read_there xs i x y (omega (arith, h)) e

-- one value more
pub step_more : (es : List Enumeration) (vs : List Variable) (stated : List Stated) (v : ℕ) (x : Variable) (o : Option BitVector) (d : Datum) (old new : List Datum)
    → v < length vs → get_or vs v x ≡ x → o ≡ value_of stated v → d ≡ decoded_datum es x.sort (stated_or o (sort_bits es x.sort))
    → old ≡ values_upto (lifted_values es vs stated) v → new ≡ old ++ d ∷ [] → new ≡ values_upto (lifted_values es vs stated) (v + 1)
step_more es vs stated v x o d old new h at word value before pushed =
    let values = lifted_values es vs stated in
    let here : d ≡ values v =
    value ∙ ap (λ w. decoded_datum es x.sort (stated_or w (sort_bits es x.sort))) word ∙ ap (λ s. stated_datum es stated s v) (sym (sort_there vs v x h at)) in
    let next : suc v ≡ v + 1 = omega arith in
    pushed ∙ ap (λ (ds : List Datum). ds ++ d ∷ []) before ∙ ap (λ y. values_upto values v ++ y ∷ []) here ∙ ap (values_upto values) next
