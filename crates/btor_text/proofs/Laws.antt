-- What the reader answers is what the text spells, or its first fault.
use Rattle.std.proofs.Common.{◌≡◌, ◌≢◌, ℕ, ◌+◌, List, [], ◌∷◌, Option, Some, Result, Ok, Err, refl, sym, ap, ◌∙◌, subst}
use Rattle.std.specs.Prelude.{IfOk, IfErr}
use Rattle.std.specs.Result.{IsErrAnd}
use Rattle.btor_tree.specs.declared.lines.Line.{Line}
use Rattle.btor_tree.specs.Fits.{Fits}
use Rattle.btor_tree.specs.Parts.{Parts, line_parts, line_place}
use Rattle.btor_tree.specs.Shapes.{Shape}
use Rattle.btor_tree.specs.Reading.{shape_of, shaped_next, resolved, next_of}
use Rattle.btor_tree.specs.Resolving.{Fault, resolve}
use Rattle.btor_tree.specs.Texts.{Next, nothing, good, faulty, IsNext, Reads, passed, line, Refuses, here, past_blank, past_line, SpellsLines, RefusesText}
use Rattle.btor_tree.proofs.Fronts.{split_line}
use Rattle.btor_tree.proofs.Readings.{next_there, nothing_is, good_is, one_list, no_list, one_fault}
use Rattle.btor_tree.proofs.ShapeLaws.{shape_from}
use Rattle.btor_tree.proofs.Resolved.{resolve_fits}
use Rattle.btor_text.specs.Seen.{seen_fault}
use Rattle.text_core.specs.declared.end.End.{End}
use Rattle.text_core.specs.declared.end.End.TheVariants.{Bad, NoMemory}
use Rattle.btor_text.specs.declared.resolve.Fault as broken
use Rattle.btor_text.specs.declared.read.LineEnd.{LineEnd}
use Rattle.btor_text.specs.declared.read.LineEnd.TheVariants as end
use Rattle.btor_text.specs.Answer.{Answers, Gives, Stops, IsRefused, Takes, Fails, IsResolved, kind_of}

-- what the shape of a line says
pub at_shape : (before : List Line) (ps : Parts) (o : Option Shape) → ps ≢ [] → shape_of ps ≡ o → next_of before ps ≡ shaped_next before o
unfolding next_of
at_shape before [] o some e = absurd (some refl)
at_shape before (p ∷ ps) o some e = ap (shaped_next before) e

pub at_none : (before : List Line) (ps : Parts) → ps ≡ [] → next_of before ps ≡ nothing
unfolding next_of
at_none before ps e = ap (next_of before) e

-- the line that was found fits
pub found_fits : (before : List Line) (sh : Shape) (ps : Parts) (l : Line) → shape_of ps ≡ Some sh → resolve before sh ≡ Ok l → Fits before l
found_fits before sh ps l e f = subst (λ (r : Result Line Fault). IfOk r (λ k. Fits before k)) f (resolve_fits before sh ps (shape_from sh ps e))

goes_on : (n : ℕ) (before after : List Line) (raw : List ℕ) (raws : Parts) (x : Next) → IsNext before (line_parts raw) x → Takes x before after
    → ((all : List Line) → Reads after raws all → Reads before (raw ∷ raws) all) × ((k : Fault) (at : ℕ) → Refuses (n + 1) after raws k at → Refuses n before (raw ∷ raws) k at)
goes_on n before after raw raws nothing a e =
    (λ all h. passed (nothing_is a refl) (subst (λ x. Reads x raws all) e h), λ k at h. past_blank a (subst (λ x. Refuses (n + 1) x raws k at) e h))
goes_on n before after raw raws (good l) a e =
    let said = good_is l a refl in
    (λ all h. line said.0 l said.1 said.2 (subst (λ x. Reads x raws all) e h), λ k at h. past_line l a (subst (λ x. Refuses (n + 1) x raws k at) e h))
goes_on n before after raw raws (faulty k) a e = absurd e

pub reads_on : (n : ℕ) (before after : List Line) (raw : List ℕ) (raws : Parts) → Takes (next_of before (line_parts raw)) before after
    → ((all : List Line) → Reads after raws all → Reads before (raw ∷ raws) all) × ((k : Fault) (at : ℕ) → Refuses (n + 1) after raws k at → Refuses n before (raw ∷ raws) k at)
reads_on n before after raw raws e = goes_on n before after raw raws (next_of before (line_parts raw)) (next_there before (line_parts raw)) e

next_from : (before : List Line) (ps : Parts) (x : Next) → next_of before ps ≡ x → IsNext before ps x
next_from before ps x e = subst (IsNext before ps) e (next_there before ps)

pub refused_here : (n : ℕ) (before : List Line) (raw back : List ℕ) (k : Fault) → next_of before (line_parts raw) ≡ faulty k → Refuses n before (split_line raw back) k n
refused_here n before raw [] k e = here (next_from before (line_parts raw) (faulty k) e)
refused_here n before raw (b ∷ last) k e = here (next_from before (line_parts raw) (faulty k) e)

pub exact_from : (text : List ℕ) (r : Result (List Line) End) → IfOk r (SpellsLines text) → IfErr r (IsRefused text) → (lines : List Line) → SpellsLines text lines → Gives lines r
exact_from text (Ok nodes) a b lines h = one_list a h refl
exact_from text (Err (Bad why)) a b lines h = no_list h b.1 refl
exact_from text (Err NoMemory) a b lines h = tt

pub stops_from : (text : List ℕ) (r : Result (List Line) End) → IfOk r (SpellsLines text) → IfErr r (IsRefused text) → (fault : Fault) (at : ℕ) → RefusesText text fault at → Stops text fault at r
stops_from text (Ok nodes) a b fault at h = no_list a h refl
stops_from text (Err (Bad why)) a b fault at h =
    let one = one_fault b.1 h refl refl in
    (b.2 ∙ ap kind_of one.0, b.3 ∙ ap (line_place text) one.1)
stops_from text (Err NoMemory) a b fault at h = tt

-- what is said of a line whose shape breaks a rule
pub fails_so : (next : Next) (why : LineEnd) (r : Result Line Fault) → IsResolved (Err why) r → next ≡ resolved r → Fails next why
fails_so next (end.Bad k) r h e = e ∙ ap resolved h
fails_so next end.NoMemory r h e = tt

pub answers_error : (r : Result (Option Line) LineEnd) (why : LineEnd) (next : Next) → IsErrAnd r (λ e. e ≡ why) → Fails next why → Answers r next
answers_error (Ok x) why next h f = absurd h
answers_error (Err e) why next h f = subst (λ y. Fails next y) (sym h) f

pub faulty_end : (next : Next) (why : LineEnd) (k : broken.Fault) → Fails next why → why ≡ end.Bad k → next ≡ faulty (seen_fault k)
faulty_end next why k h e = subst (λ (y : LineEnd). Fails next y) e h

pub some_parts : (ps : Parts) (p : List ℕ) (more : Parts) → ps ≡ p ∷ more → ps ≢ []
some_parts ps p more e none = cc
