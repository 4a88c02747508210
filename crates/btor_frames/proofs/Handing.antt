-- The words that are supplied, tested line by line.
use Rattle.std.proofs.Common.{◌≡◌, ℕ, ◌+◌, ◌<◌, ◌≤◌, true, List, length, take, Option, Some, sym, ap, ◌∙◌, subst, arith, inl, inr, ◌⊎◌}
use Rattle.std.specs.Prelude.{slice_get, IfSome}
use Rattle.std.proofs.lemmas.Bool.{cases_lt}
use Rattle.std.proofs.lemmas.List.{take_all}
use Rattle.word_core.specs.Words.{BitVector, IsWord}
use Rattle.btor_tree.specs.declared.lines.Line.{Line}
use Rattle.btor_tree.specs.declared.lines.LineOp.{LineOp}
use Rattle.btor_tree.specs.declared.lines.LineOp.TheVariants.{Input, State}
use Rattle.btor_tree.specs.Fits.{IsWellFormed, count_of, has_word, is_input, is_state, sort_at, width_at, greatest_id}
use Rattle.btor_tree.specs.Frame.{GivenFits}
use Rattle.btor_tree.proofs.Grows.{slice_get_inside, lines_short}
use Rattle.btor_tree.proofs.Paths.{width_is}
use Rattle.btor_frames.specs.Steps.{supplied_at, supplied_for, supplied_line, SuppliedFit}
use Rattle.btor_frames.proofs.Lines.{if_some}

-- an input or a state has a width, which its word has to have
pub record ReadFacts (lines : List Line) (i : ℕ) (l : Line) : Type 0 where
  pub small : length lines ≤ greatest_id
  pub some : 1 ≤ width_at lines i
  pub same : width_at lines i ≡ sort_at (take i lines) l.sort

read_has_word : (op : LineOp) → (op ≡ Input) ⊎ (op ≡ State) → has_word op ≡ true
read_has_word op h = elim h [ inl e ↦ ap has_word e | inr e ↦ ap has_word e ]

pub read_facts : (lines : List Line) (i : ℕ) (l : Line) → IsWellFormed lines → slice_get lines i ≡ Some l → (l.op ≡ Input) ⊎ (l.op ≡ State) → ReadFacts lines i l
read_facts lines i l w g h =
    let is = width_is lines i l w g (read_has_word l.op h) in
    record { small = lines_short lines w; some = is.1; same = is.0 }

read_fits : (before : List Line) (s : ℕ) (op : LineOp) (x : BitVector) → (op ≡ Input) ⊎ (op ≡ State) → (GivenFits before s op x → IsWord x × (x.width ≡ sort_at before s)) × (IsWord x × (x.width ≡ sort_at before s) → GivenFits before s op x)
read_fits before s op x h =
    elim h [
      | inl e ↦ (λ g. subst (λ o. GivenFits before s o x) e g, λ g. subst (λ o. GivenFits before s o x) (sym e) g)
      | inr e ↦ (λ g. subst (λ o. GivenFits before s o x) e g, λ g. subst (λ o. GivenFits before s o x) (sym e) g)
    ]

pub if_some_at : {X : Type 0} (o : Option X) (P : X → Type 0) (x : X) → o ≡ Some x → IfSome o P → P x
if_some_at o P x e h = subst (λ p. IfSome p P) e h

-- the word fits where it has the line's width
pub read_both : (lines : List Line) (i : ℕ) (l : Line) (x : BitVector) (v : ℕ) → IsWellFormed lines → slice_get lines i ≡ Some l → (l.op ≡ Input) ⊎ (l.op ≡ State) → IsWord x → v ≡ width_at lines i → ((x.width ≡ v) → IfSome (slice_get lines i) (λ k. GivenFits (take i lines) k.sort k.op x)) × (IfSome (slice_get lines i) (λ k. GivenFits (take i lines) k.sort k.op x) → x.width ≡ v)
read_both lines i l x v w g h is e =
    let facts = read_facts lines i l w g h in
    let both = read_fits (take i lines) l.sort l.op x h in (
      λ q. if_some (slice_get lines i) (λ k. GivenFits (take i lines) k.sort k.op x) l g (both.1 (is, q ∙ e ∙ facts.same)),
      λ q. (both.0 (if_some_at (slice_get lines i) (λ k. GivenFits (take i lines) k.sort k.op x) l g q)).1 ∙ sym (e ∙ facts.same),
    )

-- the words of the first lines fit
pub record FitSoFar (lines : List Line) (inputs free : List BitVector) (i input state : ℕ) : Type 0 where
  pub input_is : input ≡ count_of is_input (take i lines)
  pub state_is : state ≡ count_of is_state (take i lines)
  pub fits : (k : ℕ) (l : Line) → k < i → slice_get lines k ≡ Some l → GivenFits (take k lines) l.sort l.op (supplied_for l.op (take k lines) inputs free)

-- the word that is supplied for a line
pub handed_is : (lines : List Line) (inputs free : List BitVector) (i : ℕ) (l : Line) → slice_get lines i ≡ Some l → supplied_at lines inputs free i ≡ supplied_for l.op (take i lines) inputs free
handed_is lines inputs free i l g = ap (λ o. supplied_line o (take i lines) inputs free) g

pub fits_more : (lines : List Line) (inputs free : List BitVector) (i : ℕ) (x : BitVector) → x ≡ supplied_at lines inputs free i → IfSome (slice_get lines i) (λ k. GivenFits (take i lines) k.sort k.op x) → ((k : ℕ) (l : Line) → k < i → slice_get lines k ≡ Some l → GivenFits (take k lines) l.sort l.op (supplied_for l.op (take k lines) inputs free)) → (k : ℕ) (l : Line) → k < i + 1 → slice_get lines k ≡ Some l → GivenFits (take k lines) l.sort l.op (supplied_for l.op (take k lines) inputs free)
fits_more lines inputs free i x e here before k l h g =
    elim (cases_lt k i) [
      | inl less ↦ before k l less g
      | inr most ↦
          let same : k ≡ i = omega (arith, h, most) in
          let at : slice_get lines i ≡ Some l = ap (slice_get lines) (sym same) ∙ g in
          let fit = if_some_at (slice_get lines i) (λ m. GivenFits (take i lines) m.sort m.op x) l at here in
          subst (λ n. GivenFits (take n lines) l.sort l.op (supplied_for l.op (take n lines) inputs free)) (sym same)
          (subst (GivenFits (take i lines) l.sort l.op) (e ∙ handed_is lines inputs free i l at) fit)
    ]

-- all words fit, and there are as many as lines
pub fits_whole : (lines : List Line) (inputs free : List BitVector) (i input state : ℕ) → length lines ≤ i → FitSoFar lines inputs free i input state → length inputs ≡ input → length free ≡ state → SuppliedFit lines inputs free
fits_whole lines inputs free i input state h so a b =
    let all = take_all i lines h in
    record {
      inputs_long = a ∙ so.input_is ∙ ap (count_of is_input) all;
      free_long = b ∙ so.state_is ∙ ap (count_of is_state) all;
      fits = λ k l g. so.fits k l (omega (arith, h, slice_get_inside lines k l g)) g;
    }

-- the last counts are those of all lines
pub states_counted : (lines : List Line) (inputs free : List BitVector) (i input state : ℕ) → length lines ≤ i → FitSoFar lines inputs free i input state → SuppliedFit lines inputs free → length free ≡ state
states_counted lines inputs free i input state h so f =
    f.free_long ∙ sym (so.state_is ∙ ap (count_of is_state) (take_all i lines h))
