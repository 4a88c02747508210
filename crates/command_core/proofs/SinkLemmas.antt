-- Pieces that are put one after another.
use Rattle.std.proofs.Common.{◌≡◌, ◌+◌, ◌<◌, ◌≤◌, ℕ, true, Result, Ok, Err, List, ◌∷◌, ◌++◌, length, take, drop, Option, Some, None, refl, sym, ap, ◌∙◌, subst, arith}
use Rattle.std.proofs.Math.Seq.{take-append-add}
use Rattle.std.proofs.lemmas.List.{take-append-le, take-append-drop, append_assoc, length-append, drop_more}
use Rattle.std.proofs.lemmas.Grind.{flat_map-append}
use Rattle.std.specs.Prelude.{get_or, IfErr, OnErr}
use Rattle.std.specs.Result.{is_err}
use Rattle.std.specs.Borrow.{Bor}
use Rattle.text_core.specs.Outside.{grown, HasNewFault}
use Rattle.command_core.specs.Sinks.{IsPart, Puts}
use Rattle.command_core.specs.Notes.{joined}

pub grown_twice : (before : Option (List ℕ)) (xs ys : List ℕ) → grown (grown before xs) ys ≡ grown before (xs ++ ys)
grown_twice None xs ys = refl
grown_twice (Some taken) xs ys = ap Some (append_assoc taken xs ys)

part_of : (before mid now : Option (List ℕ)) (xs piece rest : List ℕ) (n : ℕ) → mid ≡ grown before xs → now ≡ grown mid (take n piece) → n ≤ length piece → IsPart before now (xs ++ (piece ++ rest))
part_of before mid now xs piece rest n is taken within =
    record {
      count = length xs + n;
      within = omega (arith, within, length-append xs (piece ++ rest), length-append piece rest);
      taken =
          taken
          ∙ ap (λ m. grown m (take n piece)) is
          ∙ grown_twice before xs (take n piece)
          ∙ ap (λ front. grown before (xs ++ front)) (sym (take-append-le n piece rest within))
          ∙ ap (grown before) (sym (take-append-add xs (piece ++ rest) n));
    }

-- pieces before, at and behind a place
joined_at : (pieces : List (Bor (List ℕ))) (i : ℕ) (piece : Bor (List ℕ)) (rest : List (Bor (List ℕ))) → drop i pieces ≡ piece ∷ rest → joined pieces ≡ joined (take i pieces) ++ (piece.now ++ joined rest)
joined_at pieces i piece rest e =
    ap joined (sym (take-append-drop i pieces))
    ∙ flat_map-append (λ (p : Bor (List ℕ)). p.now) (take i pieces) (drop i pieces)
    ∙ ap (λ back. joined (take i pieces) ++ joined back) e

part_at : (before mid now : Option (List ℕ)) (pieces : List (Bor (List ℕ))) (i n : ℕ) (d : Bor (List ℕ)) (piece : List ℕ) → i < length pieces → piece ≡ (get_or pieces i d).now → mid ≡ grown before (joined (take i pieces)) → now ≡ grown mid (take n piece) → n ≤ length piece → IsPart before now (joined pieces)
part_at before mid now pieces i n d piece inside is there taken within =
    subst (IsPart before now)
    (ap (λ p. joined (take i pieces) ++ (p ++ joined (drop (i + 1) pieces))) is ∙ sym (joined_at pieces i (get_or pieces i d) (drop (i + 1) pieces) (drop_more pieces i d inside)))
    (part_of before mid now (joined (take i pieces)) piece (joined (drop (i + 1) pieces)) n there taken within)

-- some of a piece was put, as the error says
pub part_put : {T : Type 0} (before mid now : Option (List ℕ)) (pieces : List (Bor (List ℕ))) (i : ℕ) (d : Bor (List ℕ)) (piece : List ℕ) (r : Result T ℕ) → is_err r ≡ true → i < length pieces → piece ≡ (get_or pieces i d).now → mid ≡ grown before (joined (take i pieces)) → IfErr r (λ n. now ≡ grown mid (take n piece)) → IfErr r (λ n. n ≤ length piece) → IsPart before now (joined pieces)
part_put before mid now pieces i d piece (Ok x) failed inside is there taken within = absurd (cc)
part_put before mid now pieces i d piece (Err n) failed inside is there taken within = part_at before mid now pieces i n d piece inside is there taken within

-- the same line in other words
pub puts_so : {T E : Type 0} (before now : Option (List ℕ)) (count later : ℕ) (line other : List ℕ) (result : Result T E) → line ≡ other → Puts before now count later line result → Puts before now count later other result
puts_so before now count later line other result e h = subst (λ l. Puts before now count later l result) e h

-- the count grew, as the error says
pub faulted_put : {T E : Type 0} (was count later : ℕ) (r : Result T E) → is_err r ≡ true → count ≡ was → OnErr r (HasNewFault count later) → HasNewFault was later
faulted_put was count later (Ok x) failed same faulted = absurd (cc)
faulted_put was count later (Err e) failed same faulted = subst (λ n. HasNewFault n later) same faulted
