-- The printed text of the witness of a trace is read as the same witness: its statements are in rising order.
use Rattle.std.proofs.Common.{◌≡◌, ℕ, zero, suc, ◌≤◌, List, [], ◌∷◌, ◌++◌, length, map, refl, ap, ◌∙◌, subst, arith}
use Rattle.btor_tree.specs.declared.lines.Line.{Line}
use Rattle.btor_tree.specs.Fits.{IsWellFormed, is_input}
use Rattle.btor_witness.specs.declared.witness.Frame.{Frame}
use Rattle.btor_witness.specs.declared.witness.Stated.{Stated}
use Rattle.btor_witness.specs.declared.witness.Witness.{Witness}
use Rattle.btor_witness.specs.Printing.{IsWithinLimits, IsWitness, one_statement, printed, rising, rising_frame, rising_witness}
use Rattle.btor_witness.specs.Sizes.{sizes_of}
use Rattle.btor_witness.specs.Texts.{SpellsWitness}
use Rattle.btor_witness.proofs.Tables.{length_widths}
use Rattle.moxi_terms.specs.declared.data.Datum.{Datum}
use Rattle.moxi_terms.specs.declared.term.Enumeration.{Enumeration}
use Rattle.moxi_terms.specs.Value.{Values, at}
use Rattle.moxi_flat.specs.FlatSystem.{PlainFlatSystem}
use Rattle.moxi_layout.specs.LayoutLaws.{IsLaidOut}
use Rattle.moxi_layout.proofs.Entries.{input_count}
use Rattle.moxi_lower.specs.Laws.{LoweredAreRead, LoweredAreWitnesses}
use Rattle.moxi_lower.specs.Lowered.{codes_upto, lowered, lowered_step, stated_code}
use Rattle.moxi_lower.proofs.Codes.{code_stated}

no_states : (n : ℕ) → rising [] n ≡ []
no_states zero = refl
no_states (suc n) = ap (λ (ss : List Stated). ss ++ []) (no_states n)

module _ (es : List Enumeration) (values : Values) where
  -- the statements of the first numbers are those of the first values
  in_order : (n m : ℕ) → m ≤ n → rising (codes_upto es values n) m ≡ codes_upto es values m
  in_order n zero h = refl
  in_order n (suc m) h =
      let before = rising (codes_upto es values n) m in
      ap (λ o. before ++ one_statement m o) (code_stated es values n m (omega (arith, h)))
      ∙ ap (λ (ss : List Stated). ss ++ stated_code es values m ∷ []) (in_order n m (omega (arith, h)))

module _ (f : PlainFlatSystem) (lines : List Line) (laid : IsLaidOut f lines) where
  inputs_long : length (sizes_of lines).inputs ≡ length f.variables
  inputs_long = length_widths lines is_input lines ∙ input_count f lines laid.lays.order

  frame_in_order : (env : List Datum) → rising_frame (sizes_of lines) (lowered_step f.scope.enumerations (length f.variables) env) ≡ lowered_step f.scope.enumerations (length f.variables) env
  frame_in_order env =
      let es = f.scope.enumerations in
      let n = length f.variables in
      let stated = codes_upto es (at env) n in
      let ordered : rising stated (length (sizes_of lines).inputs) ≡ stated = ap (rising stated) inputs_long ∙ in_order es (at env) n n (omega arith) in
      ap (λ (ss : List Stated). record { states = ss; inputs = rising stated (length (sizes_of lines).inputs) }) (no_states (length (sizes_of lines).states))
      ∙ ap (λ (ss : List Stated). record { states = []; inputs = ss }) ordered

  frames_in_order : (envs : List (List Datum)) → map (rising_frame (sizes_of lines)) (map (lowered_step f.scope.enumerations (length f.variables)) envs) ≡ map (lowered_step f.scope.enumerations (length f.variables)) envs
  frames_in_order [] = refl
  frames_in_order (env ∷ envs) =
      let frame = lowered_step f.scope.enumerations (length f.variables) env in
      ap (λ (x : Frame). x ∷ map (rising_frame (sizes_of lines)) (map (lowered_step f.scope.enumerations (length f.variables)) envs)) (frame_in_order env)
      ∙ ap (λ (xs : List Frame). frame ∷ xs) (frames_in_order envs)

  pub in_rising_order : (j : ℕ) (envs : List (List Datum)) → rising_witness (sizes_of lines) (lowered f j envs) ≡ lowered f j envs
  in_rising_order j envs = ap (λ (xs : List Frame). record { bad = j; frames = xs }) (frames_in_order envs)

-- a printed witness within the limits is read, with its statements in rising order
abbrev pub PrintedIsRead : Type 0
PrintedIsRead = (lines : List Line) (w : Witness) → IsWellFormed lines → IsWitness (sizes_of lines) w → IsWithinLimits lines w → SpellsWitness lines (printed lines w) (rising_witness (sizes_of lines) w)

pub lowered_are_read_law : LoweredAreWitnesses → PrintedIsRead → LoweredAreRead
lowered_are_read_law witnesses reads f lines laid j there envs some fit within =
    let w = lowered f j envs in
    subst (SpellsWitness lines (printed lines w)) (in_rising_order f lines laid j envs) (reads lines w laid.well_formed (witnesses f lines laid j there envs some fit) within)
