-- A name that begins with none of the first bytes of reserved words is none of them.
use Rattle.std.proofs.Common.{◌≡◌, ℕ, Bool, true, false, List, [], ◌∷◌, refl, ap, ◌∙◌}
use Rattle.std.specs.List.{list_all}
use Rattle.std.specs.Str.{bytes_eq}
use Rattle.std.proofs.lemmas.Bool.{and_parts}
use Rattle.std.proofs.lemmas.Slice.Eq.{bytes_eq-Decides}
use Rattle.moxi_sexpr.specs.Printing.{is_among, reserved_words}
use Rattle.moxi_sexpr.specs.Reserved.{may_be_reserved}

not_true : (b : Bool) → (b ≡ true → ⊥) → b ≡ false
not_true true h = absurd (h refl)
not_true false h = refl

same_bytes : (name w : List ℕ) → bytes_eq name w ≡ true → may_be_reserved w ≡ true → may_be_reserved name ≡ false → ⊥
same_bytes name w e h n = let g : may_be_reserved name ≡ true = ap may_be_reserved ((bytes_eq-Decides name w).0 e) ∙ h in cc

none_of : (name : List ℕ) (ws : List (List ℕ)) → list_all may_be_reserved ws ≡ true → may_be_reserved name ≡ false → false ≡ is_among name ws
none_of name [] all n = refl
none_of name (w ∷ ws) all n =
    let parts = and_parts (may_be_reserved w) (list_all may_be_reserved ws) all in
    let differ : bytes_eq name w ≡ false = not_true (bytes_eq name w) (λ e. same_bytes name w e parts.0 n) in
    rw differ (none_of name ws parts.1 n)

all_may_be : list_all may_be_reserved reserved_words ≡ true
unfolding reserved_words
all_may_be = refl

pub none_reserved : (name : List ℕ) → may_be_reserved name ≡ false → false ≡ is_among name reserved_words
none_reserved name n = none_of name reserved_words all_may_be n
