-- The words of a step's values, one behind the other.
use Rattle.std.proofs.Common.{◌≡◌, ℕ, suc, ◌+◌, ◌<◌, ◌≤◌, ◌^◌, List, [], ◌∷◌, ◌++◌, length, get_or, sym, ap, ◌∙◌, subst, arith}
use Rattle.std.proofs.Math.Nat.{pow-le-pow_right}
use Rattle.std.specs.Prelude.{slice_index_or}
use Rattle.word_core.specs.Words.{BitVector, IsWord}
use Rattle.word_core.specs.declared.word.TheConstants.{WIDEST}
use Rattle.btor_witness.specs.declared.witness.Stated.{Stated}
use Rattle.moxi_terms.specs.declared.data.Datum.{Datum}
use Rattle.moxi_terms.specs.declared.data.Datum.TheVariants as datum
use Rattle.moxi_terms.specs.declared.data.Sort.{Sort}
use Rattle.moxi_terms.specs.declared.data.Sort.TheVariants.{Truth, Bits, Choice}
use Rattle.moxi_terms.specs.declared.term.Enumeration.{Enumeration}
use Rattle.moxi_terms.specs.declared.term.Variable.{Variable}
use Rattle.moxi_terms.specs.Operators.{nothing}
use Rattle.moxi_terms.specs.Sorts.{Fit, IsOf}
use Rattle.moxi_terms.specs.Tree.{sorts_of}
use Rattle.moxi_terms.specs.Value.{at}
use Rattle.moxi_terms.proofs.SortLaws.{fit_long}
use Rattle.moxi_terms.proofs.ValueLaws.{fit_at}
use Rattle.moxi_terms.specs.Names.{constant_count}
use Rattle.moxi_lines.specs.Codes.{choice_width, code_of}
use Rattle.moxi_lines.proofs.CodeLaws.{choice_high, choice_holds, count_is, width_low}
use Rattle.moxi_layout.proofs.Entries.{sorts_long}
use Rattle.moxi_lift.proofs.Steps.{read_there}
use Rattle.moxi_lower.specs.Lowered.{IsKnown, codes_upto}
use Rattle.moxi_lift.proofs.Decoded.{sort_get}

-- a list has fewer elements than there are words
pub few_counts : (count : ℕ) → count < 2 ^ 64 → count ≤ 2 ^ WIDEST
few_counts count h = let more : 2 ^ 64 ≤ 2 ^ WIDEST = pow-le-pow_right {n = 2} (omega arith) {i = 64} {j = WIDEST} (omega arith) in omega (arith, h, more)

-- the place of a constant is a word of its enumeration's width
pub choice_word : (count i : ℕ) → i < count → count ≤ 2 ^ WIDEST → IsWord (record { width = choice_width count; bits = i })
choice_word count i h few = let holds : count ≤ 2 ^ choice_width count = choice_holds count in (width_low count count, choice_high count few, omega (arith, h, holds))

-- ---- a step that fits

is_known : (es : List Enumeration) (s : Sort) (d : Datum) → IsOf es s d → IsKnown es d
is_known es s (datum.Truth b) h = tt
is_known es s (datum.Bits v) h = tt
is_known es Truth (datum.Constant n i) h = absurd h
is_known es (Bits w) (datum.Constant n i) h = absurd h
is_known es (Choice k) (datum.Constant n i) h =
    let e = h.1.enumeration in
    let long : constant_count es n ≡ length e.constants = ap (constant_count es) h.0 ∙ count_is es k e h.1.there in
    omega (arith, h.1.within, long)

pub step_inside : (es : List Enumeration) (vs : List Variable) (env : List Datum) (v : ℕ) → Fit es (sorts_of vs) env → v < length vs → v < length env
step_inside es vs env v fit h = omega (arith, h, fit_long es (sorts_of vs) env fit, sorts_long vs)

pub step_known : (es : List Enumeration) (vs : List Variable) (env : List Datum) (v : ℕ) (d : Datum) → Fit es (sorts_of vs) env → v < length vs → d ≡ get_or env v d → IsKnown es d
step_known es vs env v d fit h e =
    let s = slice_index_or (sorts_of vs) v Truth in
    subst (IsKnown es) (sym (read_there env v d nothing (step_inside es vs env v fit h) e)) (is_known es s (at env v) (fit_at es (sorts_of vs) env v s fit (sort_get vs v h)))

-- one statement more
pub step_more : (es : List Enumeration) (env : List Datum) (v : ℕ) (d : Datum) (w : BitVector) (old new : List Stated) → v < length env → d ≡ get_or env v d → w ≡ code_of es d
    → old ≡ codes_upto es (at env) v → new ≡ old ++ record { index = v; value = w } ∷ [] → new ≡ codes_upto es (at env) (v + 1)
step_more es env v d w old new h e word before pushed =
    let here : w ≡ code_of es (at env v) = word ∙ ap (code_of es) (read_there env v d nothing h e) in
    let next : suc v ≡ v + 1 = omega arith in
    pushed ∙ ap (λ (xs : List Stated). xs ++ record { index = v; value = w } ∷ []) before
    ∙ ap (λ (x : BitVector). let s : Stated = record { index = v; value = x } in codes_upto es (at env) v ++ s ∷ []) here ∙ ap (codes_upto es (at env)) next
