-- The end of a text that came byte by byte, and what is answered of it.
use Rattle.std.proofs.Common.{◌≡◌, ◌<◌, ◌≤◌, ◌+◌, ℕ, true, false, List, [], ◌∷◌, ◌++◌, length, refl, sym, ap, ◌∙◌, subst, arith, inl, inr}
use Rattle.std.proofs.lemmas.List.{append-nil}
use Rattle.text_core.specs.declared.place.Kind.{Kind}
use Rattle.text_core.specs.declared.place.Kind.TheVariants.{X}
use Rattle.text_core.specs.declared.verdict.Verdict.{Verdict}
use Rattle.btor_tree.specs.declared.lines.Line.{Line}
use Rattle.btor_tree.specs.Fits.{IsWellFormed}
use Rattle.btor_tree.specs.Parts.{Parts, raw_lines, line_place}
use Rattle.btor_witness.specs.declared.witness.Witness.{Witness}
use Rattle.btor_witness.specs.Bytes.{line_parts}
use Rattle.btor_witness.specs.Sizes.{sizes_of, most_bytes}
use Rattle.btor_witness.specs.Texts.{Refuses, unended, ReadsText, RefusesText, next_of}
use Rattle.btor_witness.specs.Judging.{judged_btor}
use Rattle.btor_witness.specs.laws.Laws.{reads_on, one_witness, not_both, same_refusal}
use Rattle.btor_witness.specs.laws.Verdicts.{one_verdict}
use Rattle.btor_judge.specs.declared.judge.Judge.{Judge}
use Rattle.btor_judge.specs.declared.judge.JudgeEnd.{JudgeEnd}
use Rattle.btor_judge.specs.declared.judge.JudgeEnd.TheVariants.{Judged, Bad}
use Rattle.btor_judge.specs.declared.reader.Reader.{Reader}
use Rattle.btor_judge.specs.declared.reader.Stage.{Stage}
use Rattle.btor_judge.specs.declared.reader.Stage.TheVariants.{Going, Done, Refused, TooLong}
use Rattle.btor_judge.specs.Standing.{Does}
use Rattle.btor_judge.specs.Judging.{closed, MayCome, place_of, IsReading, IsDone, IsStopped, RepresentsAt, Answers}
use Rattle.btor_judge.proofs.Pieces.{line_alone, place_now, read_here, refused_here, not_yet}

-- nothing more comes
last_line : (lines : List Line) (judge : Judge) (text more : List ℕ) → (h : IsReading lines judge text) → MayCome true more → raw_lines (h.current ++ more) ≡ h.current ∷ []
last_line lines judge text more h may = ap (λ x. raw_lines (h.current ++ x)) (may refl) ∙ ap raw_lines (append-nil h.current) ∙ line_alone h.current h.unbroken

pub ends_early : (lines : List Line) (judge : Judge) (text : List ℕ) (reader : Reader) → (h : IsReading lines judge text) → Does lines h.reading (next_of (sizes_of lines) h.reading (line_parts h.current)) reader Going
    → IsStopped lines (closed (record judge { reader = reader; stage = Refused (X 6) })) text (X 6)
ends_early lines judge text reader h does =
    let sizes = sizes_of lines in
    record {
      counted = h.counted;
      short = h.short;
      numbered = h.numbered;
      within = omega (arith, h.begins);
      refuses = λ more may.
          let stops = (reads_on judge.lines sizes h.reading does.0 h.current [] does.1).1 (X 6) (judge.lines + 1) unended in
          h.refuses more (X 6) (judge.lines + 1) (subst (λ (x : Parts). Refuses judge.lines sizes h.reading x (X 6) (judge.lines + 1)) (sym (last_line lines judge text more h may)) stops);
      placed = λ more may. place_now lines judge text more h;
    }

pub ends_there : (lines : List Line) (judge : Judge) (text : List ℕ) (reader : Reader) (stage : Stage) → (stage ≡ Going → ⊥) → (h : IsReading lines judge text) → Does lines h.reading (next_of (sizes_of lines) h.reading (line_parts h.current)) reader stage
    → RepresentsAt lines (closed (record judge { reader = reader; stage = stage })) text stage
ends_there lines judge text reader Going other h does = absurd (other refl)
ends_there lines judge text reader Done other h does =
    record {
      counted = h.counted;
      short = h.short;
      witness = does.0;
      judged = does.2;
      reads = λ more may. read_here lines judge text more does.0 [] h (last_line lines judge text more h may) does.1;
    }
ends_there lines judge text reader (Refused kind) other h does =
    record {
      counted = h.counted;
      short = h.short;
      numbered = h.numbered;
      within = omega (arith, h.begins);
      refuses = λ more may. refused_here lines judge text more kind [] h (last_line lines judge text more h may) does;
      placed = λ more may. place_now lines judge text more h;
    }
ends_there lines judge text reader TooLong other h does = absurd does

-- the end behind the witness or a refusal
pub closes : (lines : List Line) (judge : Judge) (text : List ℕ) (stage : Stage) → judge.ended ≡ false → (stage ≡ Going → ⊥) → RepresentsAt lines judge text stage → RepresentsAt lines (closed judge) text stage
closes lines judge text Going e other h = absurd (other refl)
closes lines judge text Done e other h =
    record { counted = h.counted; short = h.short; witness = h.witness; judged = h.judged; reads = λ more may. h.reads more (not_yet {e = judge.ended} {more = more} e) }
closes lines judge text (Refused kind) e other h =
    record {
      counted = h.counted;
      short = h.short;
      numbered = h.numbered;
      within = h.within;
      refuses = λ more may. h.refuses more (not_yet {e = judge.ended} {more = more} e);
      placed = λ more may. h.placed more (not_yet {e = judge.ended} {more = more} e);
    }
closes lines judge text TooLong e other h = h

-- the answers
pub judged_answer : (lines : List Line) (judge : Judge) (text : List ℕ) (b m : ℕ) (v : Verdict) → b ≡ judge.reader.bad → m ≡ judge.reader.count → v ≡ judge.reader.verdict → IsDone lines judge text → Answers lines text (Judged b m v)
judged_answer lines judge text b m v e f g h = (
  h.witness,
  (h.short, subst (λ x. ReadsText (sizes_of lines) x h.witness) (append-nil text) (h.reads [] (λ t. refl))),
  h.judged.bad ∙ sym e,
  h.judged.steps ∙ ap (λ n. n + 1) (sym f),
  subst (judged_btor lines h.witness) (sym g) h.judged.verdict,
)

pub refused_answer : (lines : List Line) (judge : Judge) (text : List ℕ) (kind : Kind) → IsStopped lines judge text kind → Answers lines text (Bad (record { kind = kind; place = place_of judge }))
refused_answer lines judge text kind h = (
  inr (h.short, subst (λ x. RefusesText (sizes_of lines) x kind (judge.lines + 1)) (append-nil text) (h.refuses [] (λ t. refl))),
  h.placed [] (λ t. refl) ∙ ap (λ x. line_place x (judge.lines + 1)) (append-nil text),
)

long_answer : (lines : List Line) (text : List ℕ) → most_bytes < length text → Answers lines text (Bad (record { kind = X 8; place = record { line = 1; column = 1; offset = 0 } }))
long_answer lines text long = (inl (long, refl, refl), refl)

pub other_answer : (lines : List Line) (judge : Judge) (text : List ℕ) (stage : Stage) → (stage ≡ Done → ⊥) → ((kind : Kind) → stage ≡ Refused kind → ⊥) → judge.ended ≡ true → RepresentsAt lines judge text stage → Answers lines text (Bad (record { kind = X 8; place = record { line = 1; column = 1; offset = 0 } }))
other_answer lines judge text Going d r e h = absurd (let g : true ≡ false = sym e ∙ h.unended in cc)
other_answer lines judge text Done d r e h = absurd (d refl)
other_answer lines judge text (Refused kind) d r e h = absurd (r kind refl)
other_answer lines judge text TooLong d r e h = long_answer lines text h.0

pub few_lines : (lines : List Line) (judge : Judge) (text : List ℕ) (kind : Kind) → IsStopped lines judge text kind → judge.lines ≤ most_bytes
few_lines lines judge text kind h = omega (arith, h.numbered, h.within, h.short)

-- one answer
same_judged : (b c m n : ℕ) (v u : Verdict) → b ≡ c → m ≡ n → v ≡ u → Judged b m v ≡ Judged c n u
same_judged b c m n v u e f g = cc

pub one_answer : (lines : List Line) (text : List ℕ) (a b : JudgeEnd) → IsWellFormed lines → Answers lines text a → Answers lines text b → a ≡ b
one_answer lines text (Judged i m v) (Judged j n u) well a b =
    let same : a.0 ≡ b.0 = one_witness lines text a.0 b.0 a.1 b.1 in
    let other : judged_btor lines a.0 u = subst (λ w. judged_btor lines w u) (sym same) b.4 in
    let steps : m ≡ n = omega (arith, a.3, b.3, ap (λ (w : Witness). length w.frames) same) in
    same_judged i j m n v u (sym a.2 ∙ ap (λ (w : Witness). w.bad) same ∙ b.2) steps (one_verdict lines a.0 v u well a.4 other)
one_answer lines text (Judged i m v) (Bad r) well a b = absurd (not_both lines text a.0 r.kind r.place.line a.1 b.0)
one_answer lines text (Bad r) (Judged j n u) well a b = absurd (not_both lines text b.0 r.kind r.place.line b.1 a.0)
one_answer lines text (Bad r) (Bad s) well a b = ap (λ x. Bad x) (same_refusal lines text r s a b)
