-- Lines of notes that are written one after another.
use Rattle.std.proofs.Common.{◌≡◌, ◌≤◌, ◌<◌, ◌+◌, ℕ, Bool, true, false, List, [], ◌∷◌, ◌++◌, length, drop, get_or, Option, Result, refl, sym, ap, ◌∙◌, subst, append_assoc, add-one, arith}
use Rattle.std.specs.Prelude.{codes, is_some, ◌||◌}
use Rattle.std.specs.Result.{IsErr}
use Rattle.std.proofs.Math.Seq.{drop-cons}
use Rattle.std.proofs.lemmas.List.{length-drop}
use Rattle.text_core.specs.Outside.{grown, HasNewFault}
use Rattle.command_core.specs.Sinks.{IsPart, Puts}
use Rattle.explain_core.specs.Notes.{note_of}
use Rattle.explain_core.specs.Explaining.{File, end_before, explained_lines, is_explained, line_at_text}
use Rattle.explain_core.proofs.Grown.{then_grown}
use Rattle.explain_core.proofs.Putting.{part_front, part_then, put_failed}

-- a front of a whole text was written, and this is what is left
pub record Wrote (before now : Option (List ℕ)) (rest whole : List ℕ) : Type 0 where
  pub done : List ℕ
  pub taken : now ≡ grown before done
  pub is : done ++ rest ≡ whole

pub wrote_more : (before mid now : Option (List ℕ)) (piece rest whole : List ℕ) → Wrote before mid (piece ++ rest) whole → now ≡ grown mid piece → Wrote before now rest whole
wrote_more before mid now piece rest whole w next = record {
  done = w.done ++ piece;
  taken = then_grown before mid now w.done piece w.taken next;
  is = append_assoc w.done piece rest ∙ w.is;
}

-- the line of a number, and those behind it
lines_at : (lines : List (List ℕ)) (i : ℕ) → i < length lines → drop i lines ≡ get_or lines i [] ∷ drop (i + 1) lines
lines_at lines i within = drop-cons lines i [] within ∙ ap (λ k. get_or lines i [] ∷ drop k lines) (sym (add-one i))

text_at : (model second : File) (lines : List (List ℕ)) (i : ℕ) → i < length lines
    → explained_lines model second (drop i lines) ≡ line_at_text model second lines i ++ explained_lines model second (drop (i + 1) lines)
text_at model second lines i within = ap (explained_lines model second) (lines_at lines i within)

-- one line more was written
pub line_more : (model second : File) (lines : List (List ℕ)) (i : ℕ) (before mid now : Option (List ℕ)) → i < length lines
    → Wrote before mid (explained_lines model second (drop i lines)) (explained_lines model second lines) → now ≡ grown mid (line_at_text model second lines i)
    → Wrote before now (explained_lines model second (drop (i + 1) lines)) (explained_lines model second lines)
line_more model second lines i before mid now within w next =
    wrote_more before mid now (line_at_text model second lines i) (explained_lines model second (drop (i + 1) lines)) (explained_lines model second lines)
    (subst (λ (xs : List ℕ). Wrote before mid xs (explained_lines model second lines)) (text_at model second lines i within) w) next

-- a front of one line more was written
pub line_fails : {T E : Type 0} (r : Result T E) (model second : File) (lines : List (List ℕ)) (i : ℕ) (before mid now : Option (List ℕ)) (c d e : ℕ) → i < length lines → IsErr r
    → Wrote before mid (explained_lines model second (drop i lines)) (explained_lines model second lines) → d ≡ c
    → IsPart mid now (line_at_text model second lines i) × HasNewFault d e → Puts before now c e (explained_lines model second lines) r
line_fails r model second lines i before mid now c d e within failed w same p =
    let behind : IsPart mid now (explained_lines model second (drop i lines)) =
    subst (λ (xs : List ℕ). IsPart mid now xs) (sym (text_at model second lines i within))
    (part_front mid now (line_at_text model second lines i) (explained_lines model second (drop (i + 1) lines)) p.0) in
    put_failed r before now c e (explained_lines model second lines) failed
    (subst (λ (xs : List ℕ). IsPart before now xs) w.is (part_then before mid now w.done (explained_lines model second (drop i lines)) w.taken behind), subst (λ (n : ℕ). HasNewFault n e) same p.1)

-- whether one of the lines from the number on is a note
pub explained_at : (lines : List (List ℕ)) (i : ℕ) → i < length lines → is_explained (drop i lines) ≡ (is_some (note_of (get_or lines i [])) || is_explained (drop (i + 1) lines))
explained_at lines i within = ap is_explained (lines_at lines i within)

pub end_some : (lines : List (List ℕ)) (i : ℕ) → i + 1 < length lines → end_before (drop (i + 1) lines) ≡ codes "\n"
end_some lines i more = ap end_before (drop-cons lines (i + 1) [] more)

end_nothing : (lines : List (List ℕ)) → length lines ≡ 0 → end_before lines ≡ []
end_nothing [] none = refl
end_nothing (line ∷ lines) none = absurd (omega arith)

pub end_none : (lines : List (List ℕ)) (i : ℕ) → length lines ≤ i + 1 → end_before (drop (i + 1) lines) ≡ []
end_none lines i last = end_nothing (drop (i + 1) lines) (omega (arith, length-drop {A = List ℕ}))

-- the flag goes on as the line says
pub flag_on : (old new here rest all : Bool) → here ≡ true → new ≡ true → (old || (here || rest)) ≡ all → (new || rest) ≡ all
flag_on true new here rest all is set before = ap (λ v. v || rest) set ∙ before
flag_on false new here rest all is set before = ap (λ v. v || rest) (set ∙ sym is) ∙ before

pub flag_off : (old new here rest all : Bool) → here ≡ false → new ≡ old → (old || (here || rest)) ≡ all → (new || rest) ≡ all
flag_off old new here rest all is same before = ap (λ v. v || rest) same ∙ sym (ap (λ v. old || (v || rest)) is) ∙ before
