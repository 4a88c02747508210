-- What follows of a file from the bytes that were read of it.
use Rattle.std.proofs.Common.{◌≡◌, ◌≤◌, ◌+◌, ℕ, List, ◌++◌, length, Option, Some, None, Err, refl, sym, ap, ◌∙◌, append_assoc, arith}
use Rattle.std.proofs.lemmas.List.{append-nil, length-append}
use Rattle.std.specs.Prelude.{IsErrOf}
use Rattle.text_core.specs.Outside.{Files, IsAtEnd, IsFile, IsLonger, IsMissing, file_at, prefixed, exposed_file}
use Rattle.text_core.specs.Reading.{IsPast}
use Rattle.btor_tree.specs.declared.lines.Line.{Line}
use Rattle.btor_judge.specs.declared.judge.Judge.{Judge}
use Rattle.btor_judge.specs.Judging.{Represents}
use Rattle.btor_commands.specs.Limits.{most_witness_bytes}
use Rattle.btor_commands.specs.Pieces.{HoldsFile, HoldsFront}

prefixed_more : (xs ys : List ℕ) (left : Option (List ℕ)) → prefixed xs (prefixed ys left) ≡ prefixed (xs ++ ys) left
prefixed_more xs ys None = refl
prefixed_more xs ys (Some rest) = ap Some (sym (append_assoc xs ys rest))

-- a judge that was fed a piece stands for so many bytes more
pub holds_more : (exposed : Option (List ℕ)) (lines : List Line) (old new : Judge) (count : ℕ) (before now : Option (List ℕ)) (piece : List ℕ) (h : HoldsFront exposed lines old count before)
    → Represents lines new (h.text ++ piece) → before ≡ prefixed piece now → (n : ℕ) → length piece ≡ n → HoldsFront exposed lines new (count + n) now
holds_more exposed lines old new count before now piece h represents bytes n size = record {
  text = h.text ++ piece;
  represents = represents;
  size = length-append h.text piece ∙ omega (arith, h.size, size);
  front = h.front ∙ ap (prefixed h.text) bytes ∙ prefixed_more h.text piece now;
}

whole : (files : Option Files) (name text : List ℕ) (left : Option (List ℕ)) → (IsMissing files name → ⊥) → exposed_file files name ≡ prefixed text left → IsAtEnd left → IsFile files name text
whole None name text left present e at_end = tt
whole (Some fs) name text None present e at_end = absurd (present e)
whole (Some fs) name text (Some rest) present e at_end = e ∙ ap (λ r. Some (text ++ r)) at_end ∙ ap Some (append-nil text)

-- at the end the judge stands for the file
pub holds_file : (files : Option Files) (name : List ℕ) (lines : List Line) (judge : Judge) (count : ℕ) (left : Option (List ℕ)) → (IsMissing files name → ⊥) → HoldsFront (exposed_file files name) lines judge count left → count ≤ most_witness_bytes → IsAtEnd left → HoldsFile files name lines judge
holds_file files name lines judge count left present h most at_end =
    record { text = h.text; represents = h.represents; there = whole files name h.text left present h.front at_end; within = omega (arith, h.size, most) }

-- a file is longer than what is exposed of it
pub is_longer : (files : Option Files) (name : List ℕ) (limit : ℕ) → (IsMissing files name → ⊥) → IsPast (exposed_file files name) limit → IsLonger files name limit
is_longer None name limit present past = tt
is_longer (Some fs) name limit present past = by (file_at fs name) refl past
  where
    by : (bytes : Option (List ℕ)) → file_at fs name ≡ bytes → IsPast bytes limit → IsLonger (Some fs) name limit
    by None e p = absurd (present e)
    by (Some bytes) e p = (bytes, e, p)

-- the same error, whatever else may be answered
pub same_error : {T U E : Type 0} (e other : E) → IsErrOf {T = T} (Err e) other → IsErrOf {T = U} (Err e) other
same_error e other h = let same : e ≡ other = cc in ap Err same
