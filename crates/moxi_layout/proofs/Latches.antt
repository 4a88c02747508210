-- The words of `first`, of the states of the step before and of latches in frames that follow one another.
use Rattle.std.proofs.Common.{◌≡◌, ℕ, zero, suc, Bool, true, false, eqb, List, [], ◌∷◌, map, take, drop, length, Option, Some, None, refl, ap, ◌∙◌, subst}
use Rattle.std.specs.Prelude.{slice_get, option_map}
use Rattle.std.proofs.lemmas.Option.{same_Some, none-some}
use Rattle.word_core.specs.Words.{BitVector}
use Rattle.word_core.specs.Table.{bit_of}
use Rattle.btor_tree.specs.declared.args.Arg.{Arg}
use Rattle.btor_tree.specs.declared.lines.Line.{Line}
use Rattle.btor_tree.specs.Fits.{is_init, is_next, state_value}
use Rattle.btor_tree.specs.Frame.{InitsHold, NextsHold, operand, word_at}
use Rattle.moxi_scripts.specs.declared.script.Query.{Query}
use Rattle.moxi_flat.specs.FlatSystem.{PlainFlatSystem}
use Rattle.moxi_layout.specs.Skeleton.{latch_names}
use Rattle.moxi_layout.specs.Layout.{AreQueriesLaid, IsQueryLaid, given, is_set, truth_word}
use Rattle.moxi_layout.proofs.Lists.{maps_map}

pub map_some : {X Y : Type 0} (f : X → Y) (o : Option X) (y : Y) → option_map f o ≡ Some y → (x : X) × (o ≡ Some x) × (f x ≡ y)
map_some f None y h = absurd (none-some y h)
map_some f (Some x) y h = (x, refl, same_Some (f x) y h)

eqb_bit : (b : Bool) → eqb (bit_of b) 1 ≡ b
eqb_bit true = refl
eqb_bit false = refl

-- the word that an init gives, and the one that a next gives to the frame after it
pub given_first : (lines : List Line) (row : List BitVector) (s : ℕ) (x : BitVector) → InitsHold lines row → given is_init lines row s ≡ Some x → word_at row s ≡ x
given_first lines row s x inits h = let g = map_some (operand row) (state_value is_init lines s) x h in inits s g.0 g.1 ∙ g.2

pub given_next : (lines : List Line) (row next : List BitVector) (s : ℕ) (x : BitVector) → NextsHold lines row next → given is_next lines row s ≡ Some x → word_at next s ≡ x
given_next lines row next s x nexts h = let g = map_some (operand row) (state_value is_next lines s) x h in nexts s g.0 g.1 ∙ g.2

set_is : (row : List BitVector) (s : ℕ) (b : Bool) → word_at row s ≡ truth_word b → is_set row s ≡ b
set_is row s b h = ap (λ (x : BitVector). eqb x.bits 1) h ∙ eqb_bit b

pub set_first : (lines : List Line) (row : List BitVector) (s : ℕ) (b : Bool) → InitsHold lines row → given is_init lines row s ≡ Some (truth_word b) → is_set row s ≡ b
set_first lines row s b inits h = set_is row s b (given_first lines row s (truth_word b) inits h)

pub set_next : (lines : List Line) (row next : List BitVector) (s : ℕ) (b : Bool) → NextsHold lines row next → given is_next lines row s ≡ Some (truth_word b) → is_set next s ≡ b
set_next lines row next s b nexts h = set_is next s b (given_next lines row next s (truth_word b) nexts h)

pub sets_first : (lines : List Line) (row : List BitVector) (ls : List ℕ) (bs : List Bool) → InitsHold lines row → map (given is_init lines row) ls ≡ map (λ b. Some (truth_word b)) bs → map (is_set row) ls ≡ bs
sets_first lines row ls bs inits h = maps_map (given is_init lines row) (λ b. Some (truth_word b)) (is_set row) ls bs (λ s b e. set_first lines row s b inits e) h

pub sets_next : (lines : List Line) (row next : List BitVector) (ls : List ℕ) (bs : List Bool) → NextsHold lines row next → map (given is_next lines row) ls ≡ map (λ b. Some (truth_word b)) bs → map (is_set next) ls ≡ bs
sets_next lines row next ls bs nexts h = maps_map (given is_next lines row) (λ b. Some (truth_word b)) (is_set next) ls bs (λ s b e. set_next lines row next s b nexts e) h

-- ---- the query of a number

-- its latches and its bad line
pub record QueryAt (f : PlainFlatSystem) (lines : List Line) (q : Query) (o : Option Arg) : Type 0 where
  pub latches : List ℕ
  pub bad : Arg
  pub there : o ≡ Some bad
  pub laid : IsQueryLaid f lines q latches bad

pub query_at : (f : PlainFlatSystem) (lines : List Line) (qs : List Query) (ls : List ℕ) (bs : List Arg) (i : ℕ) (q : Query) → AreQueriesLaid f lines qs ls bs → slice_get qs i ≡ Some q → QueryAt f lines q (slice_get bs i)
query_at f lines [] ls bs i q a h = absurd (none-some q h)
query_at f lines (x ∷ qs) ls [] i q a h = absurd a
query_at f lines (x ∷ qs) ls (b ∷ bs) zero q a h =
    let e : x ≡ q = same_Some x q h in
    record { latches = take (length (latch_names f x)) ls; bad = b; there = refl; laid = subst (λ y. IsQueryLaid f lines y (take (length (latch_names f x)) ls) b) e a.0 }
query_at f lines (x ∷ qs) ls (b ∷ bs) (suc i) q a h = query_at f lines qs (drop (length (latch_names f x)) ls) bs i q a.1 h

-- one bad line for each query
pub bads_long : (f : PlainFlatSystem) (lines : List Line) (qs : List Query) (ls : List ℕ) (bs : List Arg) → AreQueriesLaid f lines qs ls bs → length bs ≡ length qs
bads_long f lines [] [] [] a = refl
bads_long f lines [] [] (b ∷ bs) a = absurd a
bads_long f lines [] (l ∷ ls) bs a = absurd a
bads_long f lines (q ∷ qs) ls [] a = absurd a
bads_long f lines (q ∷ qs) ls (b ∷ bs) a = ap suc (bads_long f lines qs (drop (length (latch_names f q)) ls) bs a.1)
