-- What a witness of a script's text is lifted to stands for a trace.
use Rattle.std.proofs.Common.{◌≡◌, ℕ, ◌-◌, List, length, Option, Some, None, refl, subst}
use Rattle.std.specs.Prelude.{IsSomeAnd, slice_get}
use Rattle.std.proofs.lemmas.List.{length-map}
use Rattle.text_core.specs.declared.verdict.Verdict.TheVariants.{Yes}
use Rattle.btor_tree.specs.declared.lines.Line.{Line}
use Rattle.btor_tree.specs.Fits.{IsWellFormed}
use Rattle.btor_tree.specs.Printing.{printed}
use Rattle.btor_tree.specs.Texts.{SpellsLines}
use Rattle.btor_witness.specs.declared.witness.Witness.{Witness}
use Rattle.btor_witness.specs.Judging.{judged_btor}
use Rattle.btor_witness.specs.Printing.{IsWitness}
use Rattle.btor_witness.specs.Sizes.{sizes_of}
use Rattle.btor_witness.specs.Texts.{SpellsWitness}
use Rattle.moxi_scripts.specs.declared.script.Query.{Query}
use Rattle.moxi_scripts.specs.Script.{PlainScript}
use Rattle.moxi_scripts.specs.Valid.{IsValid}
use Rattle.moxi_flat.specs.FlatMeeting.{MeetsFlat}
use Rattle.moxi_flat.specs.FlatSystem.{flat_of}
use Rattle.moxi_flat.specs.FlatLaws.{TracesHaveFlatTraces}
use Rattle.moxi_lines.specs.Lines.{lines_of}
use Rattle.moxi_layout.specs.LayoutLaws.{IsLaidOut}
use Rattle.moxi_lift.specs.Laws.{LiftsMeetQueries, MeetsQueryOf}
use Rattle.moxi_lift.specs.Lifted.{lifted}
use Rattle.moxi_commands.specs.Translation.{btor_text}
use Rattle.moxi_commands.specs.MoxiLift.{LiftsBack, lifted_response}
use Rattle.btor_commands.proofs.Lifted.{spelled_fits}
use Rattle.moxi_scripts.specs.Behaviour.{trace_of}

-- the text's lines are those of the script's flat system
own_lines : (s : PlainScript) → ((lines : List Line) → IsWellFormed lines → SpellsLines (printed lines) lines) → ((text : List ℕ) (lines others : List Line) → SpellsLines text lines → SpellsLines text others → lines ≡ others)
    → IsWellFormed (lines_of (flat_of s)) → (lines : List Line) → SpellsLines (btor_text s) lines → lines ≡ lines_of (flat_of s)
unfolding btor_text
own_lines s spells one well lines spelled = one (printed (lines_of (flat_of s))) lines (lines_of (flat_of s)) spelled (spells (lines_of (flat_of s)) well)

-- a query of which a fact holds is there
found : {T S : Type 0} (P : T → Type 0) (o : Option T) → IsSomeAnd o P → ((x : T) → o ≡ Some x → P x → S) → S
found P None h go = absurd h
found P (Some x) h go = go x refl h

back : (s : PlainScript) → IsValid s → TracesHaveFlatTraces → (w : Witness) → MeetsQueryOf (flat_of s) w.bad (lifted (flat_of s) w) → LiftsBack s w (lifted_response s w)
unfolding lifted_response
back s whole flattened w met =
    let steps = lifted (flat_of s) w in
    let count : length steps ≡ length w.frames = length-map w.frames _ in
    found (λ (q : Query). MeetsFlat (flat_of s) q (length steps - 1) (trace_of steps)) (slice_get s.check.queries w.bad) met (λ q there m. record {
      steps = steps;
      exact = refl;
      written = refl;
      each_frame = count;
      query = q;
      there = there;
      meets = (flattened s whole q (length w.frames - 1) (trace_of steps)).1 (record {
        flat = trace_of steps;
        extends = record { each = λ i v a b. refl };
        meets = subst (λ (n : ℕ). MeetsFlat (flat_of s) q (n - 1) (trace_of steps)) count m;
      });
    })

pub lifts_back : (s : PlainScript) → IsValid s → IsLaidOut (flat_of s) (lines_of (flat_of s)) → ((lines : List Line) → IsWellFormed lines → SpellsLines (printed lines) lines)
    → ((text : List ℕ) (lines others : List Line) → SpellsLines text lines → SpellsLines text others → lines ≡ others) → LiftsMeetQueries → TracesHaveFlatTraces
    → (lines : List Line) → SpellsLines (btor_text s) lines → (text : List ℕ) (w : Witness) → SpellsWitness lines text w → judged_btor lines w Yes → LiftsBack s w (lifted_response s w)
lifts_back s whole laid spells one meets flattened lines spelled text w states judged =
    let same = own_lines s spells one laid.well_formed lines spelled in
    let is : IsWitness (sizes_of (lines_of (flat_of s))) w = subst (λ (ls : List Line). IsWitness (sizes_of ls) w) same (spelled_fits lines text w states) in
    let yes : judged_btor (lines_of (flat_of s)) w Yes = subst (λ (ls : List Line). judged_btor ls w Yes) same judged in
    back s whole flattened w (meets (flat_of s) (lines_of (flat_of s)) laid w is yes)
