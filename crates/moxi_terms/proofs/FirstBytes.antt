-- What begins like no operator is the name of none.
use Rattle.std.proofs.Common.{◌≡◌, ℕ, Bool, true, false, ◌||◌, cond, List, [], ◌∷◌, None, Some, is_some, refl, ap, ◌∙◌}
use Rattle.std.specs.List.{list_all}
use Rattle.std.specs.Str.{bytes_eq}
use Rattle.std.proofs.lemmas.Bool.{and_parts, both_ways, false_from_ne_true}
use Rattle.std.proofs.lemmas.Slice.Eq.{bytes_eq-Decides}
use Rattle.moxi_terms.specs.declared.data.TermOp.{TermOp}
use Rattle.moxi_terms.specs.Words.{row_named, is_one_of, operators, indexed_operators, is_operator, begins_so}

-- a name that begins otherwise is another name
other_name : (name word : List ℕ) → begins_so word ≡ true → begins_so name ≡ false → bytes_eq name word ≡ false
other_name name word h g =
    false_from_ne_true _ (λ e. both_ways (begins_so name) g (ap begins_so ((bytes_eq-Decides name word).0 e) ∙ h))

abbrev row_begins : List ℕ × TermOp → Bool
row_begins r = begins_so r.0

no_row : (rows : List (List ℕ × TermOp)) (name : List ℕ) → list_all row_begins rows ≡ true → begins_so name ≡ false → row_named rows name ≡ None
no_row [] name h g = refl
no_row (r ∷ rs) name h g =
    let p = and_parts _ _ h in
    ap (λ b. cond b (Some r.1) (row_named rs name)) (other_name name r.0 p.0 g) ∙ no_row rs name p.1 g

no_word : (words : List (List ℕ)) (name : List ℕ) → list_all begins_so words ≡ true → begins_so name ≡ false → is_one_of words name ≡ false
no_word [] name h g = refl
no_word (w ∷ ws) name h g =
    let p = and_parts _ _ h in
    ap (λ b. b || is_one_of ws name) (other_name name w p.0 g) ∙ no_word ws name p.1 g

all_rows : list_all row_begins operators ≡ true
unfolding operators
all_rows = refl

all_words : list_all begins_so indexed_operators ≡ true
unfolding indexed_operators
all_words = refl

pub no_operator : (name : List ℕ) → begins_so name ≡ false → is_operator name ≡ false
no_operator name h =
    ap (λ o. is_some o || is_one_of indexed_operators name) (no_row operators name all_rows h) ∙ no_word indexed_operators name all_words h
