-- What is printed spells the same witness in rising order.
use Rattle.std.proofs.Common.{◌≡◌, ◌≢◌, ℕ, zero, suc, ◌+◌, ◌*◌, ◌^◌, ◌<◌, ◌≤◌, Bool, true, false, eqb, ltb, leb, List, [], ◌∷◌, ◌++◌, length, map, Option, Some, None, Ok, refl, sym, ap, ◌∙◌, subst, arith}
use Rattle.std.specs.Prelude.{slice_get, codes, IfSome}
use Rattle.std.specs.Option.{option_or}
use Rattle.std.specs.Fmt.{decimal}
use Rattle.std.specs.List.{flat_map, AllByRecursion}
use Rattle.std.proofs.Math.Nat.{mul-le-mul_right}
use Rattle.std.proofs.lemmas.Fmt.{decimal_nonempty}
use Rattle.std.proofs.lemmas.List.{append_assoc, append-nil, length-map, length_push}
use Rattle.std.proofs.lemmas.Bool.{cond-true, cond-false, and_parts, and_from, le-leb, leb-true, lt-ltb, eq-eqb, ne_eqb, eqb-true, cond_both}
use Rattle.text_core.specs.Binary.{binary_digits}
use Rattle.word_core.specs.Words.{BitVector, IsWord}
use Rattle.btor_witness.specs.declared.phase.Phase.{Phase}
use Rattle.btor_witness.specs.declared.phase.Phase.TheVariants as phase
use Rattle.btor_witness.specs.declared.shape.Shape.{Shape}
use Rattle.btor_witness.specs.declared.shape.Shape.TheVariants as shape
use Rattle.btor_witness.specs.declared.witness.Stated.{Stated}
use Rattle.btor_witness.specs.declared.witness.Frame.{Frame}
use Rattle.btor_witness.specs.declared.witness.Witness.{Witness}
use Rattle.btor_witness.specs.Bytes.{all_binary, word_of, line_parts}
use Rattle.btor_witness.specs.Sizes.{Sizes, is_within, sizes_of, widths_of, most_frames, most_words, most_bytes}
use Rattle.btor_witness.specs.Shapes.{Spells}
use Rattle.btor_witness.specs.Parts.{is_stated, with_width, stating}
use Rattle.btor_witness.specs.Reading.{Reading, begin, moves, frames_of, with_stated, step, new_frame}
use Rattle.btor_witness.specs.Texts.{IsNext, spelled, Reads, line, last, SpellsWitness}
use Rattle.btor_witness.specs.Printing.{IsOf, IsPart, IsWitness, value_of, one_statement, rising, rising_frame, rising_witness, number_line, statement_line, states_text, inputs_text, frame_text, frames_text, witness_text, printed}
use Rattle.btor_tree.specs.declared.lines.Line.{Line}
use Rattle.btor_tree.specs.declared.lines.LineOp.{LineOp}
use Rattle.btor_tree.specs.Fits.{IsWellFormed, is_bad, is_state, is_input}
use Rattle.btor_tree.specs.Parts.{Parts, numeral, cap, raw_lines}
use Rattle.btor_tree.proofs.Grows.{slice_get_inside, counts_small}
use Rattle.btor_tree.proofs.Numerals.{numeral_again, decimal_digits}
use Rattle.btor_witness.specs.laws.Binary.{binary_tested, binary_word}
use Rattle.btor_witness.proofs.Tables.{length_widths}
use Rattle.btor_witness.proofs.Plain.{all_solid, all_free, free_from, free_append, line_at, one_part, two_parts, binary_solid, digits_binary, digits_long, word_again, decimal_solid, digits_read}
use Rattle.text_core.proofs.Numerals.{all_digits}

-- a line of the text that does this
reads_line : (sizes : Sizes) (r next : Reading) (l rest : List ℕ) (w : Witness) → all_free l ≡ true → IsNext sizes r (line_parts l) (moves next) → Reads sizes next (raw_lines rest) w → Reads sizes r (raw_lines (l ++ 10 ∷ rest)) w
reads_line sizes r next l rest w free a h = subst (λ (x : List (List ℕ)). Reads sizes r x w) (sym (line_at l rest free)) (line next a h)

small : (n : ℕ) → n < cap → n < 2 ^ 64
small n lt = omega (arith, lt)

-- a line of a mark and a number
solid_mark : (mark n : ℕ) → n < cap → all_solid (mark ∷ []) ≡ true → all_solid (mark ∷ decimal n) ≡ true
solid_mark mark n lt e = and_from _ (all_solid (decimal n)) (and_parts _ true e).0 (decimal_solid n (small n lt))

marked_next : (sizes : Sizes) (r next : Reading) (mark n : ℕ) (s : Shape) → n < cap → all_solid (mark ∷ []) ≡ true → eqb mark 59 ≡ false
    → (numeral (decimal n) ≡ Some n → Spells s ((mark ∷ decimal n) ∷ [])) → step sizes r s ≡ moves next → IsNext sizes r (line_parts (mark ∷ decimal n)) (moves next)
marked_next sizes r next mark n s lt solid read spells does =
    let parts = one_part mark (decimal n) (solid_mark mark n lt solid) in
    subst (λ (ps : Parts). IsNext sizes r ps (moves next)) (sym parts) (subst (IsNext sizes r ((mark ∷ decimal n) ∷ [])) does (spelled s read (spells (numeral_again n lt))))

pub marked_line : (sizes : Sizes) (r next : Reading) (mark n : ℕ) (s : Shape) (rest : List ℕ) (w : Witness) → n < cap → all_solid (mark ∷ []) ≡ true → eqb mark 59 ≡ false
    → (numeral (decimal n) ≡ Some n → Spells s ((mark ∷ decimal n) ∷ [])) → step sizes r s ≡ moves next → Reads sizes next (raw_lines rest) w → Reads sizes r (raw_lines (number_line mark n ++ rest)) w
marked_line sizes r next mark n s rest w lt solid read spells does h =
    let e : (mark ∷ decimal n) ++ 10 ∷ rest ≡ number_line mark n ++ rest = ap (λ x. mark ∷ x) (sym (append_assoc (decimal n) (10 ∷ []) rest)) in
    subst (λ (x : List ℕ). Reads sizes r (raw_lines x) w) e
    (reads_line sizes r next (mark ∷ decimal n) rest w (free_from (mark ∷ decimal n) (solid_mark mark n lt solid)) (marked_next sizes r next mark n s lt solid read spells does) h)

-- a line that states a word
assigned_by : (sizes : Sizes) (r next : Reading) (d : ℕ) (ds : List ℕ) (b : ℕ) (bs : List ℕ) (i : ℕ) (x : BitVector) → all_digits (d ∷ ds) ≡ true → all_solid (d ∷ ds) ≡ true → numeral (d ∷ ds) ≡ Some i
    → all_binary (b ∷ bs) ≡ true → word_of (b ∷ bs) ≡ Some x → step sizes r (shape.Assignment i (Some x)) ≡ moves next → IsNext sizes r (line_parts ((d ∷ ds) ++ 32 ∷ (b ∷ bs))) (moves next)
assigned_by sizes r next d ds b bs i x digits solid number binary word does =
    let parts = two_parts d ds b bs solid (binary_solid (b ∷ bs) binary) in
    let spells : Spells (shape.Assignment i (Some x)) ((d ∷ ds) ∷ (b ∷ bs) ∷ []) = (d ∷ ds, b ∷ bs, None, refl, number, binary_tested b bs ∙ binary, sym (binary_word b bs binary ∙ word)) in
    subst (λ (ps : Parts). IsNext sizes r ps (moves next)) (sym parts)
    (subst (IsNext sizes r ((d ∷ ds) ∷ (b ∷ bs) ∷ [])) does (spelled (shape.Assignment i (Some x)) (digits_read d ds ((b ∷ bs) ∷ []) digits) spells))

assigned_next : (sizes : Sizes) (r next : Reading) (index bits : List ℕ) (i : ℕ) (x : BitVector) → 0 < length index → all_digits index ≡ true → all_solid index ≡ true → numeral index ≡ Some i
    → 0 < length bits → all_binary bits ≡ true → word_of bits ≡ Some x → step sizes r (shape.Assignment i (Some x)) ≡ moves next → IsNext sizes r (line_parts (index ++ 32 ∷ bits)) (moves next)
assigned_next sizes r next [] bits i x some digits solid number more binary word does = absurd (omega (arith, some))
assigned_next sizes r next (d ∷ ds) [] i x some digits solid number more binary word does = absurd (omega (arith, more))
assigned_next sizes r next (d ∷ ds) (b ∷ bs) i x some digits solid number more binary word does = assigned_by sizes r next d ds b bs i x digits solid number binary word does

pub statement_on : (sizes : Sizes) (r next : Reading) (s : Stated) (rest : List ℕ) (w : Witness) → s.index < cap → IsWord s.value → step sizes r (shape.Assignment s.index (Some s.value)) ≡ moves next
    → Reads sizes next (raw_lines rest) w → Reads sizes r (raw_lines (statement_line s ++ rest)) w
statement_on sizes r next s rest w lt word does h =
    let index = decimal s.index in
    let bits = binary_digits s.value.width s.value.bits in
    let binary = digits_binary s.value.width s.value.bits in
    let solid = decimal_solid s.index (small s.index lt) in
    let long : 0 < length bits = omega (arith, digits_long s.value.width s.value.bits, word.0) in
    let next_is = assigned_next sizes r next index bits s.index s.value (decimal_nonempty s.index (small s.index lt)) (decimal_digits s.index (small s.index lt)) solid (numeral_again s.index lt) long binary (word_again s.value word) does in
    let free = free_append index (32 ∷ bits) (free_from index solid) (free_from bits (binary_solid bits binary)) in
    let e : (index ++ 32 ∷ bits) ++ 10 ∷ rest ≡ statement_line s ++ rest =
    append_assoc index (32 ∷ bits) (10 ∷ rest) ∙ ap (λ x. index ++ 32 ∷ x) (sym (append_assoc bits (10 ∷ []) rest)) ∙ sym (append_assoc index (32 ∷ (bits ++ 10 ∷ [])) rest) in
    subst (λ (x : List ℕ). Reads sizes r (raw_lines x) w) e (reads_line sizes r next (index ++ 32 ∷ bits) rest w free next_is h)

-- statements in rising order, from a number on
abbrev pub RisesFrom : List ℕ → ℕ → List Stated → Type 0
RisesFrom widths low [] = Unit {0}
RisesFrom widths low (s ∷ ss) = (low ≤ s.index) × IsOf widths s × RisesFrom widths (suc s.index) ss

-- all that is stated is below a number
abbrev IsUnder : ℕ → List Stated → Type 0
IsUnder low stated = AllByRecursion (λ s. s.index < low) stated

under_none : (low i : ℕ) (stated : List Stated) → IsUnder low stated → low ≤ i → is_stated stated i ≡ false
under_none low i [] h le = refl
under_none low i (s ∷ ss) h le = let ne : eqb s.index i ≡ false = ne_eqb s.index i (λ e. omega (arith, h.0, le, e)) in rw ne (under_none low i ss h.1 le)

under_push : (low : ℕ) (stated : List Stated) (s : Stated) → IsUnder low stated → low ≤ s.index → IsUnder (suc s.index) (stated ++ s ∷ [])
under_push low [] s h le = (omega arith, tt)
under_push low (x ∷ xs) s h le = (omega (arith, h.0, le), under_push low xs s h.1 le)

stating_ok : (widths : List ℕ) (stated : List Stated) (s : Stated) → slice_get widths s.index ≡ Some s.value.width → is_stated stated s.index ≡ false → stating widths stated s.index (Some s.value) ≡ Ok (stated ++ s ∷ [])
stating_ok widths stated s there fresh =
    ap (λ o. with_width stated s.index o (Some s.value)) there ∙ cond-false (is_stated stated s.index) _ _ fresh ∙ cond-true (eqb s.value.width s.value.width) _ _ (eq-eqb s.value.width s.value.width refl)

pub part_on : (sizes : Sizes) (widths : List ℕ) (at : List Stated → Reading) → length widths ≤ cap
    → ((stated more : List Stated) (i : ℕ) (x : BitVector) → stating widths stated i (Some x) ≡ Ok more → step sizes (at stated) (shape.Assignment i (Some x)) ≡ moves (at more))
    → (ss stated : List Stated) (low : ℕ) (rest : List ℕ) (w : Witness) → RisesFrom widths low ss → IsUnder low stated → Reads sizes (at (stated ++ ss)) (raw_lines rest) w
    → Reads sizes (at stated) (raw_lines (flat_map statement_line ss ++ rest)) w
part_on sizes widths at few does [] stated low rest w rises under h = subst (λ (x : List Stated). Reads sizes (at x) (raw_lines rest) w) (append-nil stated) h
part_on sizes widths at few does (s ∷ ss) stated low rest w rises under h =
    let ok = stating_ok widths stated s rises.1.0 (under_none low s.index stated under rises.0) in
    let small_index : s.index < cap = omega (arith, few, slice_get_inside widths s.index s.value.width rises.1.0) in
    let more = part_on sizes widths at few does ss (stated ++ s ∷ []) (suc s.index) rest w rises.2 (under_push low stated s under rises.0)
    (subst (λ (x : List Stated). Reads sizes (at x) (raw_lines rest) w) (sym (append_assoc stated (s ∷ []) ss)) h) in
    subst (λ (x : List ℕ). Reads sizes (at stated) (raw_lines x) w) (sym (append_assoc (statement_line s) (flat_map statement_line ss) rest))
    (statement_on sizes (at stated) (at (stated ++ s ∷ [])) s (flat_map statement_line ss ++ rest) w small_index rises.1.1 (does stated (stated ++ s ∷ []) s.index s.value ok) more)

-- where the reading is in a part of a frame
abbrev in_states : ℕ → List Frame → List Stated → Reading
in_states bad fs states = record { phase = phase.States; bad = bad; frames = fs; states = states; inputs = [] }

abbrev in_inputs : ℕ → List Frame → List Stated → List Stated → Reading
in_inputs bad fs states inputs = record { phase = phase.Inputs; bad = bad; frames = fs; states = states; inputs = inputs }

abbrev frame_with : List Stated → List Stated → Frame
frame_with states inputs = record { states = states; inputs = inputs }

-- the headings of the next frame may follow
pub record Ready (sizes : Sizes) (r : Reading) (bad : ℕ) (fs : List Frame) : Type 0 where
  pub states : step sizes r (shape.States (length fs)) ≡ moves (in_states bad fs [])
  pub inputs : step sizes r (shape.Inputs (length fs)) ≡ moves (in_inputs bad fs [] [])

new_frame_ok : (sizes : Sizes) (part : Phase) (n : ℕ) (r : Reading) → n ≡ length (frames_of r) → is_within sizes (n + 1) ≡ true
    → new_frame sizes part n r ≡ moves (record { phase = part; bad = r.bad; frames = frames_of r; states = []; inputs = [] })
new_frame_ok sizes part n r e within =
    cond-true (eqb n (length (frames_of r))) _ _ (eq-eqb n (length (frames_of r)) e) ∙ cond-true (is_within sizes (n + 1)) _ _ within

ready_first : (sizes : Sizes) (bad : ℕ) → is_within sizes 1 ≡ true → Ready sizes (record { phase = phase.Heading; bad = bad; frames = []; states = []; inputs = [] }) bad []
ready_first sizes bad within =
    let r : Reading = record { phase = phase.Heading; bad = bad; frames = []; states = []; inputs = [] } in
    record { states = new_frame_ok sizes phase.States 0 r refl within; inputs = new_frame_ok sizes phase.Inputs 0 r refl within }

ready_next : (sizes : Sizes) (bad : ℕ) (fs : List Frame) (states inputs : List Stated) → is_within sizes (length (fs ++ frame_with states inputs ∷ []) + 1) ≡ true
    → Ready sizes (in_inputs bad fs states inputs) bad (fs ++ frame_with states inputs ∷ [])
ready_next sizes bad fs states inputs within =
    let r = in_inputs bad fs states inputs in
    let n = length (fs ++ frame_with states inputs ∷ []) in
    record { states = new_frame_ok sizes phase.States n r refl within; inputs = new_frame_ok sizes phase.Inputs n r refl within }

-- one frame
states_does : (sizes : Sizes) (bad : ℕ) (fs : List Frame) (stated more : List Stated) (i : ℕ) (x : BitVector) → stating sizes.states stated i (Some x) ≡ Ok more
    → step sizes (in_states bad fs stated) (shape.Assignment i (Some x)) ≡ moves (in_states bad fs more)
states_does sizes bad fs stated more i x e = ap (with_stated (in_states bad fs)) e

inputs_does : (sizes : Sizes) (bad : ℕ) (fs : List Frame) (states stated more : List Stated) (i : ℕ) (x : BitVector) → stating sizes.inputs stated i (Some x) ≡ Ok more
    → step sizes (in_inputs bad fs states stated) (shape.Assignment i (Some x)) ≡ moves (in_inputs bad fs states more)
inputs_does sizes bad fs states stated more i x e = ap (with_stated (in_inputs bad fs states)) e

abbrev pub FrameRises : Sizes → Frame → Type 0
FrameRises sizes f = RisesFrom sizes.states 0 f.states × RisesFrom sizes.inputs 0 f.inputs

inputs_on : (sizes : Sizes) (r : Reading) (bad n : ℕ) (fs : List Frame) (states inputs : List Stated) (rest : List ℕ) (w : Witness) → n < cap → length sizes.inputs ≤ cap
    → step sizes r (shape.Inputs n) ≡ moves (in_inputs bad fs states []) → RisesFrom sizes.inputs 0 inputs → Reads sizes (in_inputs bad fs states inputs) (raw_lines rest) w
    → Reads sizes r (raw_lines (inputs_text n inputs ++ rest)) w
inputs_on sizes r bad n fs states inputs rest w lt few does rises h =
    let part = part_on sizes sizes.inputs (in_inputs bad fs states) few (inputs_does sizes bad fs states) inputs [] 0 rest w rises tt h in
    subst (λ (x : List ℕ). Reads sizes r (raw_lines x) w) (sym (append_assoc (number_line 64 n) (flat_map statement_line inputs) rest))
    (marked_line sizes r (in_inputs bad fs states []) 64 n (shape.Inputs n) (flat_map statement_line inputs ++ rest) w lt refl refl (λ e. (decimal n, refl, e)) does part)

next_part : (sizes : Sizes) (bad n : ℕ) (fs : List Frame) (states : List Stated) → n ≡ length fs → step sizes (in_states bad fs states) (shape.Inputs n) ≡ moves (in_inputs bad fs states [])
next_part sizes bad n fs states e = cond-true (eqb n (length fs)) _ _ (eq-eqb n (length fs) e)

frame_on : (sizes : Sizes) (r : Reading) (bad : ℕ) (fs : List Frame) (states inputs : List Stated) (rest : List ℕ) (w : Witness) → length fs < cap → length sizes.states ≤ cap → length sizes.inputs ≤ cap → Ready sizes r bad fs
    → RisesFrom sizes.states 0 states → RisesFrom sizes.inputs 0 inputs → Reads sizes (in_inputs bad fs states inputs) (raw_lines rest) w → Reads sizes r (raw_lines (frame_text (length fs) (frame_with states inputs) ++ rest)) w
frame_on sizes r bad fs [] inputs rest w lt few_states few_inputs ready rises_states rises_inputs h = inputs_on sizes r bad (length fs) fs [] inputs rest w lt few_inputs ready.inputs rises_inputs h
frame_on sizes r bad fs (s ∷ ss) inputs rest w lt few_states few_inputs ready rises_states rises_inputs h =
    let n = length fs in
    let states = s ∷ ss in
    let after = inputs_on sizes (in_states bad fs states) bad n fs states inputs rest w lt few_inputs (next_part sizes bad n fs states refl) rises_inputs h in
    let part = part_on sizes sizes.states (in_states bad fs) few_states (states_does sizes bad fs) states [] 0 (inputs_text n inputs ++ rest) w rises_states tt after in
    let e : states_text n states ++ (inputs_text n inputs ++ rest) ≡ frame_text n (frame_with states inputs) ++ rest = sym (append_assoc (states_text n states) (inputs_text n inputs) rest) in
    subst (λ (x : List ℕ). Reads sizes r (raw_lines x) w) (sym (append_assoc (number_line 35 n) (flat_map statement_line states) (inputs_text n inputs ++ rest)) ∙ e)
    (marked_line sizes r (in_states bad fs []) 35 n (shape.States n) (flat_map statement_line states ++ (inputs_text n inputs ++ rest)) w lt refl refl (λ f. (decimal n, refl, f)) ready.states part)

abbrev ending : List ℕ
ending = 46 ∷ 10 ∷ []

-- the frames that follow, and the end
frames_on : (sizes : Sizes) (bad : ℕ) (fs before : List Frame) (states inputs : List Stated) (n total : ℕ) → n ≡ length (before ++ frame_with states inputs ∷ []) → n + length fs ≤ total → total < cap
    → ((k : ℕ) → k ≤ total → is_within sizes k ≡ true) → length sizes.states ≤ cap → length sizes.inputs ≤ cap → AllByRecursion (FrameRises sizes) fs
    → Reads sizes (in_inputs bad before states inputs) (raw_lines (frames_text n fs ++ ending)) (record { bad = bad; frames = (before ++ frame_with states inputs ∷ []) ++ fs })
frames_on sizes bad [] before states inputs n total e le lt within few_states few_inputs rises =
    let w : Witness = record { bad = bad; frames = before ++ frame_with states inputs ∷ [] } in
    subst (λ (x : List Frame). Reads sizes (in_inputs bad before states inputs) (raw_lines ending) (record { bad = bad; frames = x })) (sym (append-nil (before ++ frame_with states inputs ∷ [])))
    (last {w = w} (spelled shape.End refl refl))
frames_on sizes bad (f ∷ fs) before states inputs n total e le lt within few_states few_inputs rises =
    let closed = before ++ frame_with states inputs ∷ [] in
    let r = in_inputs bad before states inputs in
    let more : suc n ≡ length (closed ++ f ∷ []) = omega (arith, e, length_push closed f) in
    let rest = frames_on sizes bad fs closed f.states f.inputs (suc n) total more (omega arith) lt within few_states few_inputs rises.1 in
    let w : Witness = record { bad = bad; frames = (closed ++ f ∷ []) ++ fs } in
    let ready = ready_next sizes bad before states inputs (within (length closed + 1) (omega (arith, e, le))) in
    let reads = frame_on sizes r bad closed f.states f.inputs (frames_text (suc n) fs ++ ending) w (omega (arith, e, le, lt)) few_states few_inputs ready rises.0.0 rises.0.1 rest in
    let numbered = subst (λ k. Reads sizes r (raw_lines (frame_text k f ++ (frames_text (suc n) fs ++ ending))) w) (sym e) reads in
    let text = subst (λ (x : List ℕ). Reads sizes r (raw_lines x) w) (sym (append_assoc (frame_text n f) (frames_text (suc n) fs) ending)) numbered in
    subst (λ (x : List Frame). Reads sizes r (raw_lines (frames_text n (f ∷ fs) ++ ending)) (record { bad = bad; frames = x })) (append_assoc closed (f ∷ []) fs) text

-- a witness that states words in rising order
pub witness_on : (sizes : Sizes) (bad : ℕ) (frames : List Frame) → frames ≢ [] → bad < sizes.bads → sizes.bads ≤ cap → length frames < cap → ((k : ℕ) → k ≤ length frames → is_within sizes k ≡ true)
    → length sizes.states ≤ cap → length sizes.inputs ≤ cap → AllByRecursion (FrameRises sizes) frames → Reads sizes begin (raw_lines (witness_text (record { bad = bad; frames = frames }))) (record { bad = bad; frames = frames })
witness_on sizes bad [] some lt few_bads few within few_states few_inputs rises = absurd (some refl)
witness_on sizes bad (f ∷ fs) some lt few_bads few within few_states few_inputs rises =
    let w : Witness = record { bad = bad; frames = f ∷ fs } in
    let start : Reading = record { phase = phase.Property; bad = 0; frames = []; states = []; inputs = [] } in
    let heading : Reading = record { phase = phase.Heading; bad = bad; frames = []; states = []; inputs = [] } in
    let total = length (f ∷ fs) in
    let rest = frames_on sizes bad fs [] f.states f.inputs 1 total refl (omega arith) few within few_states few_inputs rises.1 in
    let frame = frame_on sizes heading bad [] f.states f.inputs (frames_text 1 fs ++ ending) w (omega arith) few_states few_inputs (ready_first sizes bad (within 1 (omega arith))) rises.0.0 rises.0.1 rest in
    let frames = subst (λ (x : List ℕ). Reads sizes heading (raw_lines x) w) (sym (append_assoc (frame_text 0 f) (frames_text 1 fs) ending)) frame in
    let does : step sizes start (shape.Property bad) ≡ moves heading = cond-true (ltb bad sizes.bads) _ _ (lt-ltb bad sizes.bads lt) in
    let property = marked_line sizes start heading 98 bad (shape.Property bad) (frames_text 0 (f ∷ fs) ++ ending) w (omega (arith, lt, few_bads)) refl refl (λ e. (decimal bad, refl, e)) does frames in
    reads_line sizes begin start (codes "sat") (number_line 98 bad ++ (frames_text 0 (f ∷ fs) ++ ending)) w refl (spelled shape.Sat refl refl) property

-- the rising order of statements of the right widths
abbrev OfWidth : List ℕ → ℕ → BitVector → Type 0
OfWidth widths i x = IsOf widths (record { index = i; value = x })

or_of : (P : BitVector → Type 0) (a b : Option BitVector) → IfSome a P → IfSome b P → IfSome (option_or a b) P
or_of P None b g h = h
or_of P (Some x) b g h = g

value_is : (widths : List ℕ) (stated : List Stated) (i : ℕ) → AllByRecursion (IsOf widths) stated → IfSome (value_of stated i) (OfWidth widths i)
value_is widths [] i h = tt
value_is widths (s ∷ ss) i h =
    or_of (OfWidth widths i) (value_of ss i) _ (value_is widths ss i h.1)
    (cond_both (eqb s.index i) (Some s.value) None (λ o. IfSome o (OfWidth widths i)) (λ t. subst (λ k. OfWidth widths k s.value) (eqb-true s.index i t) h.0) (λ _. tt))

under_more : (n : ℕ) (stated : List Stated) → IsUnder n stated → IsUnder (suc n) stated
under_more n [] h = tt
under_more n (s ∷ ss) h = (omega (arith, h.0), under_more n ss h.1)

under_end : (n : ℕ) (stated : List Stated) (x : BitVector) → IsUnder n stated → IsUnder (suc n) (stated ++ record { index = n; value = x } ∷ [])
under_end n [] x h = (omega arith, tt)
under_end n (s ∷ ss) x h = (omega (arith, h.0), under_end n ss x h.1)

rises_push : (widths : List ℕ) (low n : ℕ) (stated : List Stated) (x : BitVector) → RisesFrom widths low stated → IsUnder n stated → low ≤ n → OfWidth widths n x → RisesFrom widths low (stated ++ record { index = n; value = x } ∷ [])
rises_push widths low n [] x h under le of = (le, of, tt)
rises_push widths low n (s ∷ ss) x h under le of = (h.0, h.1, rises_push widths (suc s.index) n ss x h.2 under.1 (omega (arith, under.0)) of)

rises_step : (widths : List ℕ) (n : ℕ) (before : List Stated) (o : Option BitVector) → RisesFrom widths 0 before × IsUnder n before → IfSome o (OfWidth widths n)
    → RisesFrom widths 0 (before ++ one_statement n o) × IsUnder (suc n) (before ++ one_statement n o)
rises_step widths n before None h of =
    let e = sym (append-nil before) in
    (subst (RisesFrom widths 0) e h.0, subst (IsUnder (suc n)) e (under_more n before h.1))
rises_step widths n before (Some x) h of = (rises_push widths 0 n before x h.0 h.1 (omega arith) of, under_end n before x h.1)

pub rising_rises : (widths : List ℕ) (stated : List Stated) (n : ℕ) → AllByRecursion (IsOf widths) stated → RisesFrom widths 0 (rising stated n) × IsUnder n (rising stated n)
rising_rises widths stated zero h = (tt, tt)
rising_rises widths stated (suc n) h = rises_step widths n (rising stated n) (value_of stated n) (rising_rises widths stated n h) (value_is widths stated n h)

frames_rise : (sizes : Sizes) (fs : List Frame) → AllByRecursion (λ (f : Frame). IsPart sizes.states f.states) fs → AllByRecursion (λ (f : Frame). IsPart sizes.inputs f.inputs) fs
    → AllByRecursion (FrameRises sizes) (map (rising_frame sizes) fs)
frames_rise sizes [] g h = tt
frames_rise sizes (f ∷ fs) g h =
    (((rising_rises sizes.states f.states (length sizes.states) g.0.0).0, (rising_rises sizes.inputs f.inputs (length sizes.inputs) h.0.0).0), frames_rise sizes fs g.1 h.1)

within_less : (sizes : Sizes) (k n : ℕ) → k ≤ n → is_within sizes n ≡ true → is_within sizes k ≡ true
within_less sizes k n le h =
    let lines = length sizes.states + length sizes.inputs in
    let p = and_parts (leb n most_frames) (leb (n * lines) most_words) h in
    let words : k * lines ≤ n * lines = mul-le-mul_right lines le in
    and_from (leb k most_frames) (leb (k * lines) most_words) (le-leb k most_frames (omega (arith, le, leb-true n most_frames p.0)))
    (le-leb (k * lines) most_words (omega (arith, words, leb-true (n * lines) most_words p.1)))

frames_few : (sizes : Sizes) (n : ℕ) → is_within sizes n ≡ true → n < cap
frames_few sizes n h =
    let p = and_parts (leb n most_frames) (leb (n * (length sizes.states + length sizes.inputs)) most_words) h in
    omega (arith, leb-true n most_frames p.0)

some_frames : (f : Frame → Frame) (fs : List Frame) → fs ≢ [] → map f fs ≢ []
some_frames f [] some e = some refl
some_frames f (x ∷ xs) some e = cc

few_lines : (lines : List Line) (kind : LineOp → Bool) → IsWellFormed lines → length (widths_of kind lines) ≤ cap
few_lines lines kind well = omega (arith, length_widths lines kind lines, counts_small kind lines well)

-- A printed witness that keeps the limits is read, with the same statements in rising order.
pub printed_spells : (lines : List Line) (w : Witness) → IsWellFormed lines → IsWitness (sizes_of lines) w → is_within (sizes_of lines) (length w.frames) ≡ true → length (printed lines w) ≤ most_bytes
    → SpellsWitness lines (printed lines w) (rising_witness (sizes_of lines) w)
printed_spells lines w well is within short =
    let sizes = sizes_of lines in
    let frames = map (rising_frame sizes) w.frames in
    let size : length frames ≡ length w.frames = length-map w.frames (rising_frame sizes) in
    let all : is_within sizes (length frames) ≡ true = ap (is_within sizes) size ∙ within in
    let few_bads : sizes.bads ≤ cap = omega (arith, counts_small is_bad lines well) in (
      short,
      witness_on sizes w.bad frames (some_frames (rising_frame sizes) w.frames is.some) is.bad few_bads (frames_few sizes (length frames) all) (λ k le. within_less sizes k (length frames) le all)
          (few_lines lines is_state well) (few_lines lines is_input well) (frames_rise sizes w.frames is.states is.inputs),
    )
