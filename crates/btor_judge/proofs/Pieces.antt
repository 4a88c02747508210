-- A text that comes byte by byte is read as the whole text is.
use Rattle.std.proofs.Common.{◌≡◌, ◌⊎◌, ◌<◌, ◌≤◌, ◌+◌, ◌-◌, ℕ, suc, Bool, true, false, not, eqb, List, [], ◌∷◌, ◌++◌, length, refl, sym, ap, ◌∙◌, subst, arith, inl, inr}
use Rattle.std.proofs.lemmas.List.{append_assoc, length-append, length_push, nil_from_length}
use Rattle.std.proofs.lemmas.Bool.{and_parts, and_from, not-true, ne_eqb}
use Rattle.text_core.specs.declared.place.Kind.{Kind}
use Rattle.btor_tree.specs.declared.lines.Line.{Line}
use Rattle.btor_tree.specs.Parts.{Parts, onto_line, raw_lines, bytes_before, line_place}
use Rattle.btor_witness.specs.declared.witness.Witness.{Witness}
use Rattle.btor_witness.specs.Bytes.{line_parts}
use Rattle.btor_witness.specs.Sizes.{sizes_of, most_bytes}
use Rattle.btor_witness.specs.Reading.{Reading, begin, nothing, moves, done, bad}
use Rattle.btor_witness.specs.Fitting.{FitsAt}
use Rattle.btor_witness.specs.Texts.{Reads, last, Refuses, here, ReadsText, RefusesText, next_of}
use Rattle.btor_witness.specs.laws.Laws.{next_from, reads_on}
use Rattle.btor_witness.proofs.Kept.{next_fits, begin_fits}
use Rattle.btor_judge.specs.declared.judge.Judge.{Judge}
use Rattle.btor_judge.specs.declared.line.Line.{Line as ScannedLine}
use Rattle.btor_judge.specs.declared.reader.Reader.{Reader}
use Rattle.btor_judge.specs.declared.reader.Stage.{Stage}
use Rattle.btor_judge.specs.declared.reader.Stage.TheVariants.{Going, Done, Refused, TooLong}
use Rattle.btor_judge.specs.Scanning.{line_of, line_next}
use Rattle.btor_judge.specs.Standing.{IsAt, Does}
use Rattle.btor_judge.specs.Judging.{is_one_line, counted, MayCome, place_of, IsReading, BeginsLine, RepresentsAt}
use Rattle.btor_judge.proofs.ScanLaws.{line_push}

-- bytes of one line
one_push : (bs : List ℕ) (b : ℕ) → is_one_line bs ≡ true → eqb b 10 ≡ false → is_one_line (bs ++ b ∷ []) ≡ true
one_push [] b h f = rw f refl
one_push (c ∷ bs) b h f =
    let p = and_parts (not (eqb c 10)) (is_one_line bs) h in
    and_from (not (eqb c 10)) (is_one_line (bs ++ b ∷ [])) p.0 (one_push bs b p.1 f)

line_ended : (bs more : List ℕ) → is_one_line bs ≡ true → raw_lines (bs ++ 10 ∷ more) ≡ bs ∷ raw_lines more
line_ended [] more h = refl
line_ended (b ∷ bs) more h =
    let p = and_parts (not (eqb b 10)) (is_one_line bs) h in
    rw (not-true (eqb b 10) p.0) (ap (onto_line b) (line_ended bs more p.1))

pub line_alone : (bs : List ℕ) → is_one_line bs ≡ true → raw_lines bs ≡ bs ∷ []
line_alone [] h = refl
line_alone (b ∷ bs) h =
    let p = and_parts (not (eqb b 10)) (is_one_line bs) h in
    rw (not-true (eqb b 10) p.0) (ap (onto_line b) (line_alone bs p.1))

-- before the first byte
pub begins : (lines : List Line) (judge : Judge) → judge.ended ≡ false → judge.stage ≡ Going → judge.bytes ≡ 0 → judge.lines ≡ 0 → judge.offset ≡ 0 → judge.line ≡ line_of [] → IsAt lines judge.reader begin → IsReading lines judge []
begins lines judge e g b n o l at =
    record {
      unended = e;
      going = g;
      counted = b;
      short = omega arith;
      reading = begin;
      current = [];
      at = at;
      fits = begin_fits (sizes_of lines);
      line = l;
      unbroken = refl;
      begins = omega (arith, o);
      numbered = omega (arith, n, o);
      reads = λ more w h. h;
      refuses = λ more kind to h. subst (λ m. Refuses m (sizes_of lines) begin (raw_lines more) kind to) n h;
      placed = λ more k.
          let sum : judge.lines + k ≡ k = omega (arith, n) in
          ap (λ m. bytes_before m (raw_lines more)) sum ∙ omega (arith, o);
    }

-- a byte of the line
pub goes_on : (lines : List Line) (judge : Judge) (text : List ℕ) (b : ℕ) → (b ≡ 10 → ⊥) → length text < most_bytes → IsReading lines judge text → IsReading lines (counted (record judge { line = line_next judge.line b })) (text ++ b ∷ [])
goes_on lines judge text b ne lt h =
    let sizes = sizes_of lines in
    let long = length_push text b in
    record {
      unended = h.unended;
      going = h.going;
      counted = ap (λ n. n + 1) h.counted ∙ sym long;
      short = omega (arith, lt, long);
      reading = h.reading;
      current = h.current ++ b ∷ [];
      at = h.at;
      fits = h.fits;
      line = ap (λ l. line_next l b) h.line ∙ line_push h.current b;
      unbroken = one_push h.current b h.unbroken (ne_eqb b 10 ne);
      begins = omega (arith, h.begins, long, length_push h.current b);
      numbered = h.numbered;
      reads = λ more w r.
          let from : Reads sizes h.reading (raw_lines (h.current ++ b ∷ more)) w = subst (λ x. Reads sizes h.reading (raw_lines x) w) (append_assoc h.current (b ∷ []) more) r in
          subst (λ x. ReadsText sizes x w) (sym (append_assoc text (b ∷ []) more)) (h.reads (b ∷ more) w from);
      refuses = λ more kind to r.
          let from : Refuses judge.lines sizes h.reading (raw_lines (h.current ++ b ∷ more)) kind to = subst (λ x. Refuses judge.lines sizes h.reading (raw_lines x) kind to) (append_assoc h.current (b ∷ []) more) r in
          subst (λ x. RefusesText sizes x kind to) (sym (append_assoc text (b ∷ []) more)) (h.refuses (b ∷ more) kind to from);
      placed = λ more k. ap (λ x. bytes_before (judge.lines + k) (raw_lines x)) (append_assoc text (b ∷ []) more) ∙ h.placed (b ∷ more) k ∙ ap (λ x. judge.offset + bytes_before k (raw_lines x)) (sym (append_assoc h.current (b ∷ []) more));
    }

-- the end of the line
fits_on : (lines : List Line) (r q : Reading) (raw : List ℕ) → FitsAt (sizes_of lines) r.phase r → (next_of (sizes_of lines) r (line_parts raw) ≡ moves q) ⊎ ((next_of (sizes_of lines) r (line_parts raw) ≡ nothing) × (q ≡ r)) → FitsAt (sizes_of lines) q.phase q
fits_on lines r q raw h (inl e) = next_fits (next_from (sizes_of lines) r (line_parts raw) (moves q) e) h
fits_on lines r q raw h (inr e) = subst (λ x. FitsAt (sizes_of lines) x.phase x) (sym e.1) h

pub place_now : (lines : List Line) (judge : Judge) (text more : List ℕ) → IsReading lines judge text → place_of judge ≡ line_place (text ++ more) (judge.lines + 1)
place_now lines judge text more h =
    let before : judge.lines + 1 - 1 ≡ judge.lines + 0 = omega arith in
    let at : bytes_before (judge.lines + 1 - 1) (raw_lines (text ++ more)) ≡ judge.offset = ap (λ n. bytes_before n (raw_lines (text ++ more))) before ∙ h.placed more 0 ∙ omega arith in
    ap (λ o. record { line = judge.lines + 1; column = 1; offset = o }) (sym at)

pub next_line : (lines : List Line) (judge : Judge) (text : List ℕ) (reader : Reader) → length text < most_bytes → (h : IsReading lines judge text) → Does lines h.reading (next_of (sizes_of lines) h.reading (line_parts h.current)) reader Going
    → IsReading lines (counted (record judge { reader = reader; line = line_of []; stage = Going; lines = judge.lines + 1; offset = judge.bytes + 1 })) (text ++ 10 ∷ [])
next_line lines judge text reader lt h does =
    let sizes = sizes_of lines in
    let q = does.0 in
    let long = length_push text 10 in
    let on = λ (more : List ℕ). reads_on judge.lines sizes h.reading q h.current (raw_lines more) does.1 in
    record {
      unended = h.unended;
      going = refl;
      counted = ap (λ n. n + 1) h.counted ∙ sym long;
      short = omega (arith, lt, long);
      reading = q;
      current = [];
      at = does.2;
      fits = fits_on lines h.reading q h.current h.fits does.1;
      line = refl;
      unbroken = refl;
      begins = omega (arith, h.counted, long);
      numbered = omega (arith, h.numbered, h.begins, h.counted);
      reads = λ more w r.
          let from : Reads sizes h.reading (raw_lines (h.current ++ 10 ∷ more)) w = subst (λ (x : Parts). Reads sizes h.reading x w) (sym (line_ended h.current more h.unbroken)) ((on more).0 w r) in
          subst (λ x. ReadsText sizes x w) (sym (append_assoc text (10 ∷ []) more)) (h.reads (10 ∷ more) w from);
      refuses = λ more kind to r.
          let from : Refuses judge.lines sizes h.reading (raw_lines (h.current ++ 10 ∷ more)) kind to = subst (λ (x : Parts). Refuses judge.lines sizes h.reading x kind to) (sym (line_ended h.current more h.unbroken)) ((on more).1 kind to r) in
          subst (λ x. RefusesText sizes x kind to) (sym (append_assoc text (10 ∷ []) more)) (h.refuses (10 ∷ more) kind to from);
      placed = λ more k.
          let sum : judge.lines + 1 + k ≡ judge.lines + suc k = omega arith in
          ap (λ x. bytes_before (judge.lines + 1 + k) (raw_lines x)) (append_assoc text (10 ∷ []) more) ∙ ap (λ n. bytes_before n (raw_lines (text ++ 10 ∷ more))) sum ∙ h.placed (10 ∷ more) (suc k)
          ∙ ap (λ (x : Parts). judge.offset + bytes_before (suc k) x) (line_ended h.current more h.unbroken) ∙ omega (arith, h.begins, h.counted);
    }

-- what the lines make of the text, where the current line ends the witness or is refused
pub read_here : (lines : List Line) (judge : Judge) (text more : List ℕ) (w : Witness) (rest : Parts) → (h : IsReading lines judge text) → raw_lines (h.current ++ more) ≡ h.current ∷ rest → next_of (sizes_of lines) h.reading (line_parts h.current) ≡ done w → ReadsText (sizes_of lines) (text ++ more) w
read_here lines judge text more w rest h e d =
    let sizes = sizes_of lines in
    h.reads more w (subst (λ (x : Parts). Reads sizes h.reading x w) (sym e) (last (next_from sizes h.reading (line_parts h.current) (done w) d)))

pub refused_here : (lines : List Line) (judge : Judge) (text more : List ℕ) (kind : Kind) (rest : Parts) → (h : IsReading lines judge text) → raw_lines (h.current ++ more) ≡ h.current ∷ rest → next_of (sizes_of lines) h.reading (line_parts h.current) ≡ bad kind → RefusesText (sizes_of lines) (text ++ more) kind (judge.lines + 1)
refused_here lines judge text more kind rest h e d =
    let sizes = sizes_of lines in
    h.refuses more kind (judge.lines + 1) (subst (λ (x : Parts). Refuses judge.lines sizes h.reading x kind (judge.lines + 1)) (sym e) (here (next_from sizes h.reading (line_parts h.current) (bad kind) d)))

pub ends_line : (lines : List Line) (judge : Judge) (text : List ℕ) (reader : Reader) (stage : Stage) → length text < most_bytes → (stage ≡ Going → ⊥) → (h : IsReading lines judge text) → Does lines h.reading (next_of (sizes_of lines) h.reading (line_parts h.current)) reader stage
    → RepresentsAt lines (counted (record judge { reader = reader; stage = stage })) (text ++ 10 ∷ []) stage
ends_line lines judge text reader Going lt other h does = absurd (other refl)
ends_line lines judge text reader Done lt other h does =
    let long = length_push text 10 in
    record {
      counted = ap (λ n. n + 1) h.counted ∙ sym long;
      short = omega (arith, lt, long);
      witness = does.0;
      judged = does.2;
      reads = λ more may. subst (λ x. ReadsText (sizes_of lines) x does.0) (sym (append_assoc text (10 ∷ []) more)) (read_here lines judge text (10 ∷ more) does.0 (raw_lines more) h (line_ended h.current more h.unbroken) does.1);
    }
ends_line lines judge text reader (Refused kind) lt other h does =
    let long = length_push text 10 in
    record {
      counted = ap (λ n. n + 1) h.counted ∙ sym long;
      short = omega (arith, lt, long);
      numbered = h.numbered;
      within = omega (arith, h.begins, long);
      refuses = λ more may. subst (λ x. RefusesText (sizes_of lines) x kind (judge.lines + 1)) (sym (append_assoc text (10 ∷ []) more)) (refused_here lines judge text (10 ∷ more) kind (raw_lines more) h (line_ended h.current more h.unbroken) does);
      placed = λ more may. place_now lines judge text (10 ∷ more) h ∙ ap (λ x. line_place x (judge.lines + 1)) (sym (append_assoc text (10 ∷ []) more));
    }
ends_line lines judge text reader TooLong lt other h does = absurd does

-- the bytes of a line that come at once
pub whole_goes_on : (lines : List Line) (judge : Judge) (text raw : List ℕ) → BeginsLine judge raw → is_one_line raw ≡ true → IsReading lines judge text → IsReading lines (record judge { line = line_of raw; bytes = judge.bytes + length raw }) (text ++ raw)
whole_goes_on lines judge text raw start one h =
    let sizes = sizes_of lines in
    let long = length-append text raw in
    let none : h.current ≡ [] = nil_from_length h.current (omega (arith, h.begins, h.counted, start.fresh)) in
    record {
      unended = h.unended;
      going = h.going;
      counted = omega (arith, h.counted, long);
      short = omega (arith, start.short, h.counted, long);
      reading = h.reading;
      current = raw;
      at = h.at;
      fits = h.fits;
      line = refl;
      unbroken = one;
      begins = omega (arith, start.fresh, h.counted, long);
      numbered = h.numbered;
      reads = λ more w r.
          let from : Reads sizes h.reading (raw_lines (h.current ++ (raw ++ more))) w = subst (λ x. Reads sizes h.reading (raw_lines (x ++ (raw ++ more))) w) (sym none) r in
          subst (λ x. ReadsText sizes x w) (sym (append_assoc text raw more)) (h.reads (raw ++ more) w from);
      refuses = λ more kind to r.
          let from : Refuses judge.lines sizes h.reading (raw_lines (h.current ++ (raw ++ more))) kind to = subst (λ x. Refuses judge.lines sizes h.reading (raw_lines (x ++ (raw ++ more))) kind to) (sym none) r in
          subst (λ x. RefusesText sizes x kind to) (sym (append_assoc text raw more)) (h.refuses (raw ++ more) kind to from);
      placed = λ more k. ap (λ x. bytes_before (judge.lines + k) (raw_lines x)) (append_assoc text raw more) ∙ h.placed (raw ++ more) k ∙ ap (λ x. judge.offset + bytes_before k (raw_lines (x ++ (raw ++ more)))) none;
    }

-- what is kept of the current line is not read behind its end
line_aside : (lines : List Line) (judge : Judge) (line : ScannedLine) (text : List ℕ) (stage : Stage) → (stage ≡ Going → ⊥) → RepresentsAt lines (record judge { line = line }) text stage → RepresentsAt lines judge text stage
line_aside lines judge line text Going other h = absurd (other refl)
line_aside lines judge line text Done other h = record { counted = h.counted; short = h.short; witness = h.witness; judged = h.judged; reads = h.reads }
line_aside lines judge line text (Refused kind) other h = record { counted = h.counted; short = h.short; numbered = h.numbered; within = h.within; refuses = h.refuses; placed = h.placed }
line_aside lines judge line text TooLong other h = h

fresh_line : (lines : List Line) (judge : Judge) (text raw : List ℕ) → BeginsLine judge raw → IsReading lines judge text → judge.line ≡ line_of []
fresh_line lines judge text raw start h =
    let none : h.current ≡ [] = nil_from_length h.current (omega (arith, h.begins, h.counted, start.fresh)) in
    h.line ∙ ap line_of none

pub whole_next : (lines : List Line) (judge : Judge) (text raw : List ℕ) (reader : Reader) → BeginsLine judge raw → is_one_line raw ≡ true → (h : IsReading lines judge text) → Does lines h.reading (next_of (sizes_of lines) h.reading (line_parts raw)) reader Going
    → IsReading lines (counted (record judge { reader = reader; stage = Going; bytes = judge.bytes + length raw; lines = judge.lines + 1; offset = judge.bytes + length raw + 1 })) (text ++ (raw ++ 10 ∷ []))
unfolding whole_goes_on
whole_next lines judge text raw reader start one h does =
    let at = whole_goes_on lines judge text raw start one h in
    let lt : length (text ++ raw) < most_bytes = omega (arith, start.short, h.counted, length-append text raw) in
    let on = next_line lines (record judge { line = line_of raw; bytes = judge.bytes + length raw }) (text ++ raw) reader lt at does in
    let same = append_assoc text raw (10 ∷ []) in
    subst (λ (l : ScannedLine). IsReading lines (counted (record judge { reader = reader; line = l; stage = Going; bytes = judge.bytes + length raw; lines = judge.lines + 1; offset = judge.bytes + length raw + 1 })) (text ++ (raw ++ 10 ∷ []))) (sym (fresh_line lines judge text raw start h))
    (subst (IsReading lines (counted (record judge { reader = reader; line = line_of []; stage = Going; bytes = judge.bytes + length raw; lines = judge.lines + 1; offset = judge.bytes + length raw + 1 }))) same on)

pub whole_ends : (lines : List Line) (judge : Judge) (text raw : List ℕ) (reader : Reader) (stage : Stage) → BeginsLine judge raw → is_one_line raw ≡ true → (stage ≡ Going → ⊥) → (h : IsReading lines judge text) → Does lines h.reading (next_of (sizes_of lines) h.reading (line_parts raw)) reader stage
    → RepresentsAt lines (counted (record judge { reader = reader; stage = stage; bytes = judge.bytes + length raw })) (text ++ (raw ++ 10 ∷ [])) stage
unfolding whole_goes_on
whole_ends lines judge text raw reader stage start one other h does =
    let at = whole_goes_on lines judge text raw start one h in
    let lt : length (text ++ raw) < most_bytes = omega (arith, start.short, h.counted, length-append text raw) in
    let on = ends_line lines (record judge { line = line_of raw; bytes = judge.bytes + length raw }) (text ++ raw) reader stage lt other at does in
    line_aside lines (counted (record judge { reader = reader; stage = stage; bytes = judge.bytes + length raw })) (line_of raw) (text ++ (raw ++ 10 ∷ [])) stage other
    (subst (λ (x : List ℕ). RepresentsAt lines (counted (record judge { reader = reader; line = line_of raw; stage = stage; bytes = judge.bytes + length raw })) x stage) (append_assoc text raw (10 ∷ [])) on)

-- behind the end of the witness and behind a refusal
pub not_yet : {e : Bool} {more : List ℕ} → e ≡ false → MayCome e more
not_yet e t = absurd (let g : true ≡ false = sym t ∙ e in cc)

pub passes_byte : (lines : List Line) (judge : Judge) (text : List ℕ) (b : ℕ) (stage : Stage) → judge.ended ≡ false → length text < most_bytes → (stage ≡ Going → ⊥) → (stage ≡ TooLong → ⊥) → RepresentsAt lines judge text stage → RepresentsAt lines (counted judge) (text ++ b ∷ []) stage
passes_byte lines judge text b Going e lt other none h = absurd (other refl)
passes_byte lines judge text b Done e lt other none h =
    let long = length_push text b in
    record {
      counted = ap (λ n. n + 1) h.counted ∙ sym long;
      short = omega (arith, lt, long);
      witness = h.witness;
      judged = h.judged;
      reads = λ more may. subst (λ x. ReadsText (sizes_of lines) x h.witness) (sym (append_assoc text (b ∷ []) more)) (h.reads (b ∷ more) (not_yet {e = judge.ended} {more = b ∷ more} e));
    }
passes_byte lines judge text b (Refused kind) e lt other none h =
    let long = length_push text b in
    record {
      counted = ap (λ n. n + 1) h.counted ∙ sym long;
      short = omega (arith, lt, long);
      numbered = h.numbered;
      within = omega (arith, h.within, long);
      refuses = λ more may. subst (λ x. RefusesText (sizes_of lines) x kind (judge.lines + 1)) (sym (append_assoc text (b ∷ []) more)) (h.refuses (b ∷ more) (not_yet {e = judge.ended} {more = b ∷ more} e));
      placed = λ more may. h.placed (b ∷ more) (not_yet {e = judge.ended} {more = b ∷ more} e) ∙ ap (λ x. line_place x (judge.lines + 1)) (sym (append_assoc text (b ∷ []) more));
    }
passes_byte lines judge text b TooLong e lt other none h = absurd (none refl)

-- the limit
pub long_enough : (lines : List Line) (judge : Judge) (text : List ℕ) (stage : Stage) → most_bytes ≤ judge.bytes → RepresentsAt lines judge text stage → most_bytes ≤ length text
long_enough lines judge text Going le h = omega (arith, le, h.counted)
long_enough lines judge text Done le h = omega (arith, le, h.counted)
long_enough lines judge text (Refused kind) le h = omega (arith, le, h.counted)
long_enough lines judge text TooLong le h = omega (arith, h.0)

pub short_enough : (lines : List Line) (judge : Judge) (text : List ℕ) (stage : Stage) → judge.bytes < most_bytes → RepresentsAt lines judge text stage → (length text < most_bytes) × (stage ≡ TooLong → ⊥)
short_enough lines judge text Going lt h = (omega (arith, lt, h.counted), λ e. absurd (cc))
short_enough lines judge text Done lt h = (omega (arith, lt, h.counted), λ e. absurd (cc))
short_enough lines judge text (Refused kind) lt h = (omega (arith, lt, h.counted), λ e. absurd (cc))
short_enough lines judge text TooLong lt h = absurd (omega (arith, lt, h.1))
