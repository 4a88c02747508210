-- A text that is compared piece by piece.
use Rattle.std.proofs.Common.{◌≡◌, ℕ, true, false, List, ◌++◌, length, drop, refl, ap, ◌∙◌}
use Rattle.std.specs.Prelude.{nat_eq}
use Rattle.std.specs.List.{starts_with}
use Rattle.std.specs.Str.{bytes_eq}
use Rattle.std.proofs.Math.Seq.{drop-append_seam}
use Rattle.std.proofs.lemmas.Bool.{false_from_ne_true}
use Rattle.std.proofs.lemmas.Bool.Decides.{Decides-eqb, Decides-like, same_from_decides}
use Rattle.std.proofs.lemmas.Slice.Eq.{bytes_eq-Decides, starts_is}

-- with the piece at its front, a text is the pieces where the rest is the others
pub joined_on : (text piece more : List ℕ) → starts_with nat_eq text piece ≡ true → bytes_eq text (piece ++ more) ≡ bytes_eq (drop (length piece) text) more
joined_on text piece more front =
    let whole : text ≡ piece ++ drop (length piece) text = (starts_is Decides-eqb text piece (starts_with nat_eq text piece) refl).0 front in
    same_from_decides (bytes_eq text (piece ++ more)) (bytes_eq (drop (length piece) text) more)
    (Decides-like (bytes_eq text (piece ++ more)) (λ e. ap (drop (length piece)) e ∙ drop-append_seam piece more) (λ e. whole ∙ ap (λ r. piece ++ r) e) (bytes_eq-Decides text (piece ++ more)))
    (bytes_eq-Decides (drop (length piece) text) more)

-- without it, it is not
pub joined_off : (text piece more : List ℕ) → starts_with nat_eq text piece ≡ false → bytes_eq text (piece ++ more) ≡ false
joined_off text piece more front =
    false_from_ne_true (bytes_eq text (piece ++ more))
    (λ same. let is : starts_with nat_eq text piece ≡ true = (starts_is Decides-eqb text piece (starts_with nat_eq text piece) refl).1 more ((bytes_eq-Decides text (piece ++ more)).0 same) in cc)

-- a text that begins with these words
pub begins : (text words : List ℕ) → starts_with nat_eq text words ≡ true → text ≡ words ++ drop (length words) text
begins text words front = (starts_is Decides-eqb text words (starts_with nat_eq text words) refl).0 front
