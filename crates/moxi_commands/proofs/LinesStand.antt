-- What is written for a script stands for it.
use Rattle.std.proofs.Common.{◌≡◌, ℕ, ◌<◌, ◌≤◌, Bool, true, false, ◌||◌, List, length, Some, None, refl, sym, cond, arith}
use Rattle.std.specs.Prelude.{◌^◌, nat_lt}
use Rattle.word_core.specs.declared.word.TheConstants.{WIDEST}
use Rattle.text_core.specs.declared.place.Kind.TheVariants.{M}
use Rattle.text_core.specs.declared.place.Refusal.{Refusal}
use Rattle.text_core.specs.Places.{start, after}
use Rattle.btor_tree.specs.declared.lines.Line.{Line}
use Rattle.btor_tree.specs.Fits.{IsWellFormed, greatest_id}
use Rattle.btor_tree.specs.Printing.{printed}
use Rattle.btor_tree.specs.Sharing.{HasNoDuplicates}
use Rattle.btor_tree.specs.Texts.{SpellsLines}
use Rattle.moxi_scripts.specs.Script.{PlainScript}
use Rattle.moxi_scripts.specs.Spelling.{SpellsScript}
use Rattle.moxi_sexpr.specs.Tree.{Trees}
use Rattle.text_core.specs.declared.place.Place.{Place}
use Rattle.moxi_scripts.specs.Valid.{IsValid}
use Rattle.moxi_flat.specs.Systems.{script_height, script_nesting, script_size}
use Rattle.moxi_flat.specs.declared.limits.TheConstants.{LARGEST, HIGHEST, DEEPEST}
use Rattle.moxi_flat.specs.FlatSorts.{IsSortedFlat}
use Rattle.moxi_flat.specs.FlatSystem.{flat_of}
use Rattle.moxi_flat.specs.FlatLaws.{FlatSystemsAreSorted, TracesHaveFlatTraces}
use Rattle.moxi_flat.specs.Limits.{flat_refusal, has_name_twice, is_too_large}
use Rattle.moxi_lines.specs.TermLaws.{HaveCodes}
use Rattle.moxi_lines.specs.Lines.{lines_of}
use Rattle.moxi_layout.specs.LayoutLaws.{BadsAreQueries, HasFrames, IsLaidOut, TracesHaveFrames}
use Rattle.moxi_layout.specs.Counts.{FlatSizesAreScriptSizes, LinesStayFew, NoDuplicateLines}
use Rattle.moxi_layout.specs.LineLaws.{LinesAreWellFormed, LinesLayOut}
use Rattle.moxi_layout.specs.ConstantLaws.{CodesAreFew}
use Rattle.moxi_commands.specs.Limits.{most_script_bytes}
use Rattle.btor_commands.specs.Traces.{HasTrace}
use Rattle.moxi_commands.specs.Translation.{IsInstantiated, ScriptLinesAreLaidOut, RepresentsScript, WritesLines, btor_text}
use Rattle.btor_commands.proofs.Imported.{there}

-- ---- sizes

neither : {A : Type 0} (a b : Bool) (x y : A) → cond a (Some x) (cond b (Some y) None) ≡ None → a ≡ false
neither true b x y e = absurd (cc)
neither false b x y e = refl

fits_size : (n : ℕ) (b : Bool) → nat_lt LARGEST n || b ≡ false → n ≤ LARGEST
fits_size n b e = by_size (nat_lt LARGEST n) refl e
  where
    by_size : (c : Bool) → nat_lt LARGEST n ≡ c → c || b ≡ false → n ≤ LARGEST
    by_size true t h = absurd (cc)
    by_size false t h = grind (arith, t)

-- a script that isn't refused is not too large
small : (s : PlainScript) → flat_refusal s ≡ None → script_size s ≤ LARGEST
small s e =
    fits_size (script_size s) (nat_lt HIGHEST (script_height s) || nat_lt DEEPEST (script_nesting s))
    (neither {A = Refusal} (is_too_large s) (has_name_twice s) (record { kind = M 15; place = s.check.place }) (record { kind = M 9; place = s.check.place }) e)

few : (s : PlainScript) → LinesStayFew → FlatSizesAreScriptSizes → IsValid s → IsSortedFlat (flat_of s) → flat_refusal s ≡ None → length (lines_of (flat_of s)) < greatest_id
few s counted sizes whole sorted h =
    let a = counted (flat_of s) sorted in
    let b = sizes s whole in
    let c = small s h in
    omega (arith, a, b, c)

-- ---- both directions

from_frames : (s : PlainScript) (lines : List Line) → TracesHaveFrames → TracesHaveFlatTraces → IsValid s → IsLaidOut (flat_of s) lines → (j k : ℕ) → j < length s.check.queries → HasFrames lines j k → HasTrace s j k
from_frames s lines framed flattened whole laid j k h frames =
    let q = there s.check.queries j h in
    let t = (framed (flat_of s) lines laid j k q.0 q.1).1 frames in
    record { query = q.0; there = q.1; trace = t.0; meets = (flattened s whole q.0 k t.0).1 (record { flat = t.0; extends = record { each = λ i v a b. refl }; meets = t.1 }) }

from_trace : (s : PlainScript) (lines : List Line) → TracesHaveFrames → TracesHaveFlatTraces → IsValid s → IsLaidOut (flat_of s) lines → (j k : ℕ) → j < length s.check.queries → HasTrace s j k → HasFrames lines j k
from_trace s lines framed flattened whole laid j k h t =
    let m = (flattened s whole t.query k t.trace).0 t.meets in
    (framed (flat_of s) lines laid j k t.query t.there).0 (m.flat, m.meets)

-- ---- the text

laid_out : (s : PlainScript) → LinesLayOut → LinesAreWellFormed → HaveCodes s.scope.enumerations → IsSortedFlat (flat_of s) → length (lines_of (flat_of s)) < greatest_id → IsLaidOut (flat_of s) (lines_of (flat_of s))
laid_out s lay formed codes sorted room = record { sorted = sorted; codes = codes; well_formed = formed (flat_of s) codes sorted room; lays = lay (flat_of s) codes sorted room }

stand : (s : PlainScript) (lines : List Line) → TracesHaveFrames → TracesHaveFlatTraces → BadsAreQueries → IsValid s → IsLaidOut (flat_of s) lines → RepresentsScript s lines
stand s lines framed flattened bads whole laid = record {
  bads = bads (flat_of s) lines laid.lays;
  frames = λ j k h. (from_trace s lines framed flattened whole laid j k h, from_frames s lines framed flattened whole laid j k h);
}

written : (s : PlainScript) → ((lines : List Line) → IsWellFormed lines → SpellsLines (printed lines) lines)
    → ((text : List ℕ) (lines others : List Line) → SpellsLines text lines → SpellsLines text others → lines ≡ others)
    → IsLaidOut (flat_of s) (lines_of (flat_of s)) → RepresentsScript s (lines_of (flat_of s)) → HasNoDuplicates (lines_of (flat_of s)) → WritesLines s (btor_text s)
unfolding btor_text
written s spells one laid stands alike =
    let spelled = spells (lines_of (flat_of s)) laid.well_formed in
    record { lines = lines_of (flat_of s); spelled = spelled; only = λ others h. sym (one (printed (lines_of (flat_of s))) (lines_of (flat_of s)) others spelled h); stand = stands; distinct = alike }

-- so many bytes are fewer than the words of the greatest width
fits : (bytes : List ℕ) → length bytes ≤ most_script_bytes → length bytes ≤ 2 ^ WIDEST
fits bytes h = omega (arith, h)

pub laid_lines : ((ts : Trees) (end : Place) (s : PlainScript) → SpellsScript ts end s → IsValid s) → CodesAreFew → FlatSystemsAreSorted → FlatSizesAreScriptSizes → LinesStayFew → LinesLayOut → LinesAreWellFormed → ScriptLinesAreLaidOut
laid_lines wholes coded sorts sizes counted lay formed bytes s h =
    let x = h.is_script in
    let whole = wholes x.forms (after start bytes) s x.spelled in
    let sorted = sorts s whole in
    let codes = coded bytes x.forms (after start bytes) s (fits bytes x.within) x.formed x.spelled in
    laid_out s lay formed codes sorted (few s counted sizes whole sorted h.accepted)

pub lines_are_correct : ((ts : Trees) (end : Place) (s : PlainScript) → SpellsScript ts end s → IsValid s) → ScriptLinesAreLaidOut → BadsAreQueries → NoDuplicateLines → TracesHaveFrames → TracesHaveFlatTraces
    → ((lines : List Line) → IsWellFormed lines → SpellsLines (printed lines) lines) → ((text : List ℕ) (lines others : List Line) → SpellsLines text lines → SpellsLines text others → lines ≡ others)
    → (bytes : List ℕ) (s : PlainScript) → IsInstantiated bytes s → WritesLines s (btor_text s)
lines_are_correct wholes laid bads distinct framed flattened spells one bytes s h =
    let x = h.is_script in
    let whole = wholes x.forms (after start bytes) s x.spelled in
    let lay = laid bytes s h in
    written s spells one lay (stand s (lines_of (flat_of s)) framed flattened bads whole lay) (distinct (flat_of s) lay.sorted)
