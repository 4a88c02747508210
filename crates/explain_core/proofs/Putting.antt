-- What is written one after another.
use Rattle.std.proofs.Common.{◌≡◌, ◌≤◌, ◌-◌, ◌+◌, ℕ, false, cond, List, [], ◌++◌, length, take, drop, Option, Result, Ok, Err, sym, ap, ◌∙◌, subst, ap₂, map, arith, length-append}
use Rattle.std.specs.Prelude.{min, nat_eq, codes, replicate}
use Rattle.std.proofs.Math.Seq.{take-append-add}
use Rattle.std.proofs.lemmas.List.{append-nil, take-append-le, take-replicate}
use Rattle.std.specs.Result.{IsErr}
use Rattle.text_core.specs.Outside.{grown, HasNewFault}
use Rattle.command_core.specs.Sinks.{IsPart, Puts}
use Rattle.explain_core.specs.Lines.{window_start, window_end}
use Rattle.explain_core.specs.Messages.{blank_of, caret_text, excerpt_text, marks_of, shown_text}
use Rattle.explain_core.proofs.Grown.{then_grown}

-- a front of the first piece, or the first piece and a front of the next
pub part_front : (before now : Option (List ℕ)) (xs ys : List ℕ) → IsPart before now xs → IsPart before now (xs ++ ys)
part_front before now xs ys p = let fits : p.count ≤ length xs = p.within in record {
  count = p.count;
  within = omega (arith, length-append xs ys);
  taken = p.taken ∙ ap (grown before) (sym (take-append-le p.count xs ys fits));
}

pub part_then : (before mid now : Option (List ℕ)) (xs ys : List ℕ) → mid ≡ grown before xs → IsPart mid now ys → IsPart before now (xs ++ ys)
part_then before mid now xs ys first p = let fits : p.count ≤ length ys = p.within in record {
  count = length xs + p.count;
  within = omega (arith, length-append xs ys);
  taken = then_grown before mid now xs (take p.count ys) first p.taken ∙ ap (grown before) (sym (take-append-add xs ys p.count));
}

-- two pieces, of which the first was put
pub puts_then : {T E : Type 0} (r : Result T E) (before mid now : Option (List ℕ)) (c d e : ℕ) (xs ys : List ℕ) → mid ≡ grown before xs → d ≡ c → Puts mid now d e ys r
    → Puts before now c e (xs ++ ys) r
puts_then (Ok x) before mid now c d e xs ys first same next = (then_grown before mid now xs ys first next.0, next.1 ∙ same)
puts_then (Err x) before mid now c d e xs ys first same next = (part_then before mid now xs ys first next.0, subst (λ n. HasNewFault n e) same next.1)

pub puts_next : {T E : Type 0} (r : Result T E) (before mid now : Option (List ℕ)) (c d e : ℕ) (xs ys : List ℕ) → (mid ≡ grown before xs) × (d ≡ c) → Puts mid now d e ys r
    → Puts before now c e (xs ++ ys) r
puts_next r before mid now c d e xs ys first next = puts_then r before mid now c d e xs ys first.0 first.1 next

-- the pieces of the caret's line
pub caret_is : (front blanks : List ℕ) (more : ℕ) → take (length front) blanks ≡ map blank_of front → more ≤ 120
    → codes "    " ++ (take (length front) blanks ++ (codes "^" ++ (take more (replicate 120 126) ++ codes "\n"))) ≡ caret_text front more
caret_is front blanks more blank within =
    ap₂ (λ xs ys. codes "    " ++ (xs ++ (codes "^" ++ (ys ++ codes "\n")))) blank (take-replicate more 120 126 within)

-- a part of a line, and the caret below it
pub excerpt_is : (line : List ℕ) (at marked start end more : ℕ) → nat_eq marked 0 ≡ false
    → start ≡ window_start (length line) at → end ≡ window_end (length line) at → more ≡ min (min (marked - 1) (end - at)) 120
    → shown_text line start end ++ caret_text (take (at - start) (drop start line)) more ≡ excerpt_text line at marked
excerpt_is line at marked start end more some s e m =
    let marks : more ≡ marks_of (length line) at marked = m ∙ ap (λ n. min (min (marked - 1) (n - at)) 120) e in
    (λ i. shown_text line (s i) (e i) ++ caret_text (take (at - s i) (drop (s i) line)) (marks i))
    ∙ ap (λ b. shown_text line (window_start (length line) at) (window_end (length line) at) ++ cond b [] (caret_text (take (at - window_start (length line) at) (drop (window_start (length line) at) line)) (marks_of (length line) at marked))) (sym some)

-- the same, written one after the other
pub excerpt_puts : {T E : Type 0} (r : Result T E) (before mid now : Option (List ℕ)) (c d e : ℕ) (line : List ℕ) (at marked start end more : ℕ) → nat_eq marked 0 ≡ false
    → start ≡ window_start (length line) at → end ≡ window_end (length line) at → more ≡ min (min (marked - 1) (end - at)) 120
    → (mid ≡ grown before (shown_text line start end)) × (d ≡ c) → Puts mid now d e (caret_text (take (at - start) (drop start line)) more) r
    → Puts before now c e (excerpt_text line at marked) r
excerpt_puts r before mid now c d e line at marked start end more some s f m first next =
    subst (λ (w : List ℕ). Puts before now c e w r) (excerpt_is line at marked start end more some s f m)
    (puts_next r before mid now c d e (shown_text line start end) (caret_text (take (at - start) (drop start line)) more) first next)

-- a front of the part of the line
pub excerpt_front : (before now : Option (List ℕ)) (line : List ℕ) (at marked start end : ℕ) → start ≡ window_start (length line) at → end ≡ window_end (length line) at
    → IsPart before now (shown_text line start end) → IsPart before now (excerpt_text line at marked)
excerpt_front before now line at marked start end s f p =
    part_front before now (shown_text line (window_start (length line) at) (window_end (length line) at)) _
    (subst (λ (n : ℕ). IsPart before now (shown_text line (window_start (length line) at) n)) f (subst (λ (n : ℕ). IsPart before now (shown_text line n end)) s p))

-- a call that failed
pub put_failed : {T E : Type 0} (r : Result T E) (before now : Option (List ℕ)) (c d : ℕ) (bytes : List ℕ) → IsErr r → IsPart before now bytes × HasNewFault c d → Puts before now c d bytes r
put_failed (Ok x) before now c d bytes failed p = cc
put_failed (Err x) before now c d bytes failed p = p

pub part_fails : (before now : Option (List ℕ)) (c d : ℕ) (xs ys : List ℕ) → IsPart before now xs × HasNewFault c d → IsPart before now (xs ++ ys) × HasNewFault c d
part_fails before now c d xs ys p = (part_front before now xs ys p.0, p.1)

-- a piece alone, and the next
pub piece_puts : {T E : Type 0} (r : Result T E) (before mid now : Option (List ℕ)) (c d e : ℕ) (xs ys : List ℕ) → (mid ≡ grown before (xs ++ [])) × (d ≡ c) → Puts mid now d e ys r
    → Puts before now c e (xs ++ ys) r
piece_puts r before mid now c d e xs ys first next = puts_then r before mid now c d e xs ys (first.0 ∙ ap (grown before) (append-nil xs)) first.1 next
