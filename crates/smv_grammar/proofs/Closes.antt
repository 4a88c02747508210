-- Each state of the machine can come to an end.
use Rattle.std.proofs.Common.{◌≡◌, ◌<◌, false, None, List, [], ◌∷◌, ◌++◌, refl, ap, ◌∙◌, arith}
use Rattle.text_core.specs.declared.place.Place.{Place}
use Rattle.smv_text.specs.declared.token.Reserved.TheVariants as word
use Rattle.smv_text.specs.declared.token.Sign.{Sign}
use Rattle.smv_text.specs.declared.token.Sign.TheVariants as sign
use Rattle.smv_text.specs.declared.token.Token.{Token}
use Rattle.smv_text.specs.declared.token.TokenKind.{TokenKind}
use Rattle.smv_text.specs.declared.token.TokenKind.TheVariants as kind
use Rattle.smv_text.specs.declared.tree.Path.{Path}
use Rattle.smv_text.specs.declared.operators.Prefix.{Prefix}
use Rattle.smv_text.specs.declared.operators.Prefix.TheVariants as prefix
use Rattle.smv_text.specs.declared.level.OperatorClass.{OperatorClass}
use Rattle.smv_text.specs.declared.level.OperatorClass.TheVariants as classes
use Rattle.smv_text.specs.declared.level.Level.{Level}
use Rattle.smv_text.specs.declared.level.Level.TheVariants.{Chain, Choice, Range, Before, Selection}
use Rattle.smv_text.specs.Levels.{all_levels}
use Rattle.smv_text.specs.Tree.{Tree, name}
use Rattle.smv_grammar.specs.declared.listing.Listing.TheVariants.{Arguments, Elements}
use Rattle.smv_grammar.specs.Ranks.{class_rank, level_rank, rank_of, first_rank}
use Rattle.smv_grammar.specs.Machine.{prefix_sign, bare, taken, Frame, operand, when, value, signs, selected, bracket, following, listing, condition, result, closing_of, State, ask, have, signed, integer, minus, negative, upto, upto_minus, named, dotted, open_next, open_call, high_end, high_colon, low_end, low_close, case_goes, pushed, longer, Reach, reached, walk}
use Rattle.smv_grammar.specs.Reading.{after, starts_with_dots}
use Rattle.smv_grammar.proofs.Ranked.{not_sign}
use Rattle.smv_grammar.proofs.First.{path_on-ends}
use Rattle.smv_grammar.proofs.Steps.{chain_goes, operand_goes, when_leaves, value_goes, selected_leaves, signs_fold, signed_ends, bracket_goes, following_goes, listing_ends, condition_goes, result_goes, case_ends, named_on, named_goes, open_next_goes, open_call_goes}
use Rattle.smv_grammar.proofs.Climbing.{none_after, none_joined, opened_leaves, integer_leaves, chain_begins, choice_begins, selection_begins, before_begins}
use Rattle.smv_grammar.proofs.Running.{had}

abbrev here : Place
here = record { line = 1; column = 1; offset = 0 }

abbrev token : TokenKind → Token
token k = record { kind = k; place = here; length = 1 }

abbrev sign_token : Sign → Token
sign_token s = token (kind.Sign s)

abbrev ident : Token
ident = token (kind.Ident [])

abbrev zero_token : Token
zero_token = token (kind.Number 0)

abbrev esac : Token
esac = token (kind.Reserved word.Esac)

-- the tokens that end what waits
abbrev pub closes : List Frame → List Token
closes [] = []
closes (operand j below p front ∷ k) = closes k
closes (when below p bs ∷ k) = closes k
closes (value below p bs w ∷ k) = sign_token sign.Colon ∷ ident ∷ closes k
closes (signs pre below p n ∷ k) = closes k
closes (selected p ∷ k) = closes k
closes (bracket ∷ k) = sign_token sign.Close ∷ closes k
closes (following p ∷ k) = sign_token sign.Close ∷ closes k
closes (listing p what all ∷ k) = sign_token (closing_of what) ∷ closes k
closes (condition p bs ∷ k) = sign_token sign.Colon ∷ ident ∷ sign_token sign.Semicolon ∷ esac ∷ closes k
closes (result p bs w ∷ k) = sign_token sign.Semicolon ∷ esac ∷ closes k

closes_rank : (k : List Frame) → first_rank (closes k) ≡ 17
closes_rank [] = refl
closes_rank (operand j below p front ∷ k) = closes_rank k
closes_rank (when below p bs ∷ k) = closes_rank k
closes_rank (value below p bs w ∷ k) = refl
closes_rank (signs pre below p n ∷ k) = closes_rank k
closes_rank (selected p ∷ k) = closes_rank k
closes_rank (bracket ∷ k) = refl
closes_rank (following p ∷ k) = refl
closes_rank (listing p (Arguments f) all ∷ k) = refl
closes_rank (listing p Elements all ∷ k) = refl
closes_rank (condition p bs ∷ k) = refl
closes_rank (result p bs w ∷ k) = refl

class_low : (j : OperatorClass) → class_rank j < 17
class_low classes.Sums = omega arith
class_low _ = omega arith

level_low : (l : Level) → level_rank l < 17
level_low (Chain j) = class_low j
level_low Choice = omega arith
level_low Range = omega arith
level_low (Before prefix.Not) = omega arith
level_low (Before prefix.Minus) = omega arith
level_low Selection = omega arith

other_level : (l : Level) (k : List Frame) → first_rank (closes k) ≡ level_rank l → ⊥
other_level l k e = let a = closes_rank k in let b = level_low l in omega arith

no_dot : (k : List Frame) → after sign.Dot (closes k) ≡ None
no_dot k = none_after sign.Dot (closes k) (λ e. let a = closes_rank k in let b : first_rank (closes k) ≡ 0 = e in omega arith)

abbrev pub Ends : Reach → Type 0
Ends o = (u : Tree) × (o ≡ reached u [])

goes : {o o' : Reach} → o ≡ o' → Ends o' → Ends o
goes e h = (h.0, e ∙ h.1)

named_ends : (k : List Frame) (path : Path) → ((t : Tree) → Ends (walk (closes k) (have t k))) → Ends (walk (closes k) (named path k))
named_ends k path h = goes (named_goes (closes k) path k ∙ ap (λ f. named_on f k) (path_on-ends path (closes k) (no_dot k))) (h (name path.place path))

ident_begins : (k : List Frame) (ys : List Token) → walk (ident ∷ ys) (ask [] k) ≡ walk ys (named (record { from_self = false; names = [] ∷ []; place = here }) k)
unfolding walk
ident_begins k ys = refl

range_passes : (below : List Level) (k : List Frame) (ys : List Token) → walk (ident ∷ ys) (ask (Range ∷ below) k) ≡ walk (ident ∷ ys) (ask below k)
unfolding walk
range_passes below k ys = refl

no_sign : (pre : Prefix) (ys : List Token) → after (prefix_sign pre) (ident ∷ ys) ≡ None
no_sign prefix.Not ys = refl
no_sign prefix.Minus ys = refl

-- an expression comes, and what follows it ends what waits
opening : (ls : List Level) (k : List Frame) → ((t : Tree) → Ends (walk (closes k) (have t k))) → Ends (walk (ident ∷ closes k) (ask ls k))
opening [] k h = goes (ident_begins k (closes k)) (named_ends k _ h)
opening (Chain j ∷ ls) k h = goes (chain_begins j ls k _) (opening ls (operand j ls here bare ∷ k) (λ t. goes (opened_leaves (Chain j) ls here k t (closes k) (other_level (Chain j) k)) (h t)))
opening (Choice ∷ ls) k h = goes (choice_begins ls k _) (opening ls (when ls here [] ∷ k) (λ t. goes (opened_leaves Choice ls here k t (closes k) (other_level Choice k)) (h t)))
opening (Range ∷ ls) k h = goes (range_passes ls k (closes k)) (opening ls k h)
opening (Before pre ∷ ls) k h = goes (before_begins pre ls k (ident ∷ closes k) (no_sign pre (closes k))) (opening ls k h)
opening (Selection ∷ ls) k h = goes (selection_begins ls k _) (opening ls (selected here ∷ k) (λ t. goes (opened_leaves Selection ls here k t (closes k) (other_level Selection k)) (h t)))

closing : (k : List Frame) (t : Tree) → Ends (walk (closes k) (have t k))
closing [] t = (t, had [] t)
closing (operand j below p front ∷ k) t =
    goes (operand_goes k below j p front t (closes k) ∙ ap (chain_goes j below p (taken front t) k (closes k)) (none_joined j (closes k) (other_level (Chain j) k))) (closing k _)
closing (when below p bs ∷ k) t = goes (when_leaves k t (closes k) below p bs (none_after sign.Question (closes k) (other_level Choice k))) (closing k _)
closing (value below p bs w ∷ k) t =
    goes (value_goes k t (sign_token sign.Colon ∷ ident ∷ closes k) (ident ∷ closes k) below p bs w refl)
    (opening below (when below p (bs ++ (w, t) ∷ []) ∷ k) (λ u. goes (when_leaves k u (closes k) below p _ (none_after sign.Question (closes k) (other_level Choice k))) (closing k _)))
closing (signs pre below p n ∷ k) t = goes (signs_fold k t (closes k) pre below p n) (closing k _)
closing (selected p ∷ k) t = goes (selected_leaves k t (closes k) p (none_after sign.OpenBracket (closes k) (other_level Selection k))) (closing k t)
closing (bracket ∷ k) t = goes (bracket_goes k t _ (closes k) refl) (closing k t)
closing (following p ∷ k) t = goes (following_goes k t _ (closes k) p refl) (closing k _)
closing (listing p (Arguments f) all ∷ k) t = goes (listing_ends k t _ (closes k) p (Arguments f) all refl refl) (closing k _)
closing (listing p Elements all ∷ k) t = goes (listing_ends k t _ (closes k) p Elements all refl refl) (closing k _)
closing (condition p bs ∷ k) t =
    goes (condition_goes k t _ (ident ∷ sign_token sign.Semicolon ∷ esac ∷ closes k) p bs refl)
    (opening all_levels (result p bs t ∷ k) (λ u. goes (result_goes k u _ (esac ∷ closes k) p bs t refl ∙ case_ends k (esac ∷ closes k) (closes k) p _ refl) (closing k _)))
closing (result p bs w ∷ k) t = goes (result_goes k t _ (esac ∷ closes k) p bs w refl ∙ case_ends k (esac ∷ closes k) (closes k) p _ refl) (closing k _)

pushed_closing : (ls : List Level) (p : Place) (k : List Frame) (t : Tree) → Ends (walk (closes k) (have t (pushed ls p k)))
pushed_closing [] p k t = closing k t
pushed_closing (Chain j ∷ ls) p k t = pushed_closing ls p (operand j ls p bare ∷ k) t
pushed_closing (Choice ∷ ls) p k t = pushed_closing ls p (when ls p [] ∷ k) t
pushed_closing (Range ∷ ls) p k t = pushed_closing ls p k t
pushed_closing (Before pre ∷ ls) p k t = pushed_closing ls p k t
pushed_closing (Selection ∷ ls) p k t = pushed_closing ls p (selected p ∷ k) t

no_dots : (ys : List Token) → first_rank ys ≡ 17 → starts_with_dots ys ≡ false
no_dots [] e = refl
no_dots (y ∷ ys) e = not_sign sign.Range y.kind (λ same. let none : rank_of y.kind ≡ 0 = same in omega arith)

-- some tokens end each state
pub ends : (s : State) → (xs : List Token) × Ends (walk xs s)
unfolding walk
ends (ask ls k) = (ident ∷ closes k, opening ls k (closing k))
ends (have t k) = (closes k, closing k t)
ends (signed pre below p n k) =
    (ident ∷ closes k, goes (signed_ends k (ident ∷ closes k) pre below p n (no_sign pre (closes k))) (opening below (signs pre below p n ∷ k) (closing (signs pre below p n ∷ k))))
ends (integer below p n k) = (closes k, goes (integer_leaves below p n k (closes k) (no_dots (closes k) (closes_rank k))) (pushed_closing below p k _))
ends (minus below p k) = (zero_token ∷ sign_token sign.Range ∷ zero_token ∷ closes k, closing k _)
ends (negative below p q n k) = (sign_token sign.Range ∷ zero_token ∷ closes k, closing k _)
ends (upto p low k) = (zero_token ∷ closes k, closing k _)
ends (upto_minus p low k) = (zero_token ∷ closes k, closing k _)
ends (named path k) = (closes k, named_ends k path (closing k))
ends (dotted path k) = (ident ∷ closes k, named_ends k (longer path []) (closing k))
ends (open_next p k) =
    (sign_token sign.Open ∷ ident ∷ sign_token sign.Close ∷ closes k, goes (open_next_goes k (sign_token sign.Open ∷ ident ∷ sign_token sign.Close ∷ closes k) (ident ∷ sign_token sign.Close ∷ closes k) p refl) (opening all_levels (following p ∷ k) (closing (following p ∷ k))))
ends (open_call p f k) = (
  sign_token sign.Open ∷ ident ∷ sign_token sign.Close ∷ closes k,
  goes (open_call_goes k (sign_token sign.Open ∷ ident ∷ sign_token sign.Close ∷ closes k) (ident ∷ sign_token sign.Close ∷ closes k) p f refl) (opening all_levels (listing p (Arguments f) [] ∷ k) (closing (listing p (Arguments f) [] ∷ k))),
)
ends (high_end p t k) = (zero_token ∷ sign_token sign.Colon ∷ zero_token ∷ sign_token sign.CloseBracket ∷ closes k, closing (selected p ∷ k) _)
ends (high_colon p t n k) = (sign_token sign.Colon ∷ zero_token ∷ sign_token sign.CloseBracket ∷ closes k, closing (selected p ∷ k) _)
ends (low_end p t n k) = (zero_token ∷ sign_token sign.CloseBracket ∷ closes k, closing (selected p ∷ k) _)
ends (low_close p t n m k) = (sign_token sign.CloseBracket ∷ closes k, closing (selected p ∷ k) _)
ends (case_goes p all k) = (esac ∷ closes k, closing k _)
