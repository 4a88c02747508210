-- Frames that statements mean: each step by their words is the next of them, and they are the only ones.
use Rattle.std.proofs.Common.{◌≡◌, ℕ, ◌≤◌, Bool, List, length, take, Option, Some, None, refl, sym, ◌∙◌, subst, arith, inl, inr, ◌⊎◌}
use Rattle.std.specs.Prelude.{slice_get}
use Rattle.std.proofs.Math.Nat.{one-le-pow}
use Rattle.word_core.specs.Words.{BitVector, IsWord}
use Rattle.word_core.specs.declared.word.TheConstants.{WIDEST}
use Rattle.btor_tree.specs.declared.lines.Line.{Line}
use Rattle.btor_tree.specs.declared.lines.LineOp.{LineOp}
use Rattle.btor_tree.specs.declared.lines.LineOp.TheVariants.{Input, State}
use Rattle.btor_tree.specs.Fits.{IsWellFormed, count_of, is_input, is_state, width_at, sort_at}
use Rattle.btor_tree.specs.Frame.{nothing, GivenFits}
use Rattle.btor_tree.proofs.Widths.{width_small}
use Rattle.btor_frames.specs.Steps.{supplied_for, SuppliedFit, IsStep}
use Rattle.btor_frames.specs.Judged.{Statement, stated_or, IsStatedFrame, IsOfLine, StatementFits, SuppliesStated}
use Rattle.btor_frames.proofs.Unique.{same_row}
use Rattle.btor_frames.proofs.Handing.{read_facts}

-- a step by the words of a statement goes to the frame that it means
pub step_stated : (lines : List Line) (begun : Bool) (last inputs free row : List BitVector) (stated : Statement) → SuppliesStated lines stated inputs free → IsStep lines begun last inputs free row → IsStatedFrame lines begun last stated row
step_stated lines begun last inputs free row stated h p =
    record {
      frame = p.frame;
      values = p.values;
      inputs = λ i l g e. p.inputs_read i l g e ∙ h.inputs_stated i l g e;
      states = λ i l g e n. p.free_read i l g e n ∙ h.states_stated i l g e;
    }

-- a statement means one frame at most
pub one_stated : (lines : List Line) (begun : Bool) (last row other : List BitVector) (stated : Statement) → IsWellFormed lines → IsStatedFrame lines begun last stated row → IsStatedFrame lines begun last stated other → row ≡ other
one_stated lines begun last row other stated w p q =
    same_row lines begun last row other w p.frame q.frame p.values q.values
    (λ i l g e. p.inputs i l g e ∙ sym (q.inputs i l g e))
    (λ i l g e n. p.states i l g e n ∙ sym (q.states i l g e n))

-- zero, and a word that fits, are words of the line
stated_fits : (lines : List Line) (i : ℕ) (o : Option BitVector) → 1 ≤ width_at lines i → width_at lines i ≤ WIDEST → ((x : BitVector) → o ≡ Some x → IsOfLine lines i x) → IsOfLine lines i (stated_or o (width_at lines i))
stated_fits lines i None some small h = ((some, small, one-le-pow (width_at lines i) 2 (omega arith)), refl)
stated_fits lines i (Some x) some small h = h x refl

read_given : (lines : List Line) (i : ℕ) (l : Line) (x : BitVector) → IsWellFormed lines → slice_get lines i ≡ Some l → (l.op ≡ Input) ⊎ (l.op ≡ State) → IsOfLine lines i x → IsWord x × (x.width ≡ sort_at (take i lines) l.sort)
read_given lines i l x w g h is = (is.0, is.1 ∙ (read_facts lines i l w g h).same)

-- the word that a statement means for a line
abbrev pub stated_for : LineOp → List Line → ℕ → Statement → BitVector
stated_for Input lines i stated = stated_or (stated.inputs (count_of is_input (take i lines))) (width_at lines i)
stated_for State lines i stated = stated_or (stated.states (count_of is_state (take i lines))) (width_at lines i)
stated_for op lines i stated = nothing

-- the words of a statement that fits are fit for the lines
statement_given : (lines : List Line) (stated : Statement) (i : ℕ) (l : Line) (op : LineOp) → IsWellFormed lines → StatementFits lines stated → slice_get lines i ≡ Some l → l.op ≡ op → GivenFits (take i lines) l.sort op (stated_for op lines i stated)
statement_given lines stated i l Input w f g e =
    let facts = read_facts lines i l w g (inl e) in
    read_given lines i l _ w g (inl e)
    (stated_fits lines i (stated.inputs (count_of is_input (take i lines))) facts.some (width_small lines i w) (λ x q. f.inputs i l x g e q))
statement_given lines stated i l State w f g e =
    let facts = read_facts lines i l w g (inr e) in
    read_given lines i l _ w g (inr e)
    (stated_fits lines i (stated.states (count_of is_state (take i lines))) facts.some (width_small lines i w) (λ x q. f.states i l x g e q))
statement_given lines stated i l op w f g e = tt

handed_given : (lines : List Line) (stated : Statement) (inputs free : List BitVector) (i : ℕ) (l : Line) (op : LineOp) → IsWellFormed lines → StatementFits lines stated → SuppliesStated lines stated inputs free → slice_get lines i ≡ Some l → l.op ≡ op → GivenFits (take i lines) l.sort op (supplied_for op (take i lines) inputs free)
handed_given lines stated inputs free i l Input w f h g e =
    subst (GivenFits (take i lines) l.sort Input) (sym (h.inputs_stated i l g e)) (statement_given lines stated i l Input w f g e)
handed_given lines stated inputs free i l State w f h g e =
    subst (GivenFits (take i lines) l.sort State) (sym (h.states_stated i l g e)) (statement_given lines stated i l State w f g e)
handed_given lines stated inputs free i l op w f h g e = tt

pub hands_fit : (lines : List Line) (stated : Statement) (inputs free : List BitVector) → IsWellFormed lines → StatementFits lines stated → SuppliesStated lines stated inputs free → length inputs ≡ count_of is_input lines → length free ≡ count_of is_state lines → SuppliedFit lines inputs free
hands_fit lines stated inputs free w f h a b =
    record { inputs_long = a; free_long = b; fits = λ i l g. handed_given lines stated inputs free i l l.op w f h g refl }
