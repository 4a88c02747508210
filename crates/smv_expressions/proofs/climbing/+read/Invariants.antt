use Rattle.std.proofs.Common.{◌≡◌, ◌+◌, ◌*◌, ◌-◌, ◌≤◌, ◌∷◌, [], List, length}
use Rattle.text_core.specs.declared.place.Place.{Place}
use Rattle.smv_text.specs.declared.operators.Infix.{Infix}
use Rattle.smv_text.specs.Levels.{all_levels}
use Rattle.smv_text.specs.Tree.{Tree}
use Rattle.smv_grammar.specs.Kept.{cap}
use Rattle.smv_grammar.specs.Ranks.{tightest}
use Rattle.smv_expressions.specs.Gathered.{read_of, AreMembers, AreCases, AreOperands}
use Rattle.smv_grammar.specs.Machine.{Frame, bare, operand, when, listing, condition, ask, have, signed, walk}
use Rattle.smv_grammar.specs.Reading.{waiting}
use Rattle.smv_expressions.specs.Following.{Reads}
use Rattle.smv_grammar.proofs.Steps.{chained}
use Rattle.smv_expressions.proofs.climbing.+read.Given as goal

-- each token weighs more than the calls at one place
abbrev pub decreases-read : goal.decreases-read
decreases-read l = 50 * length l.tokens.now + 3

abbrev pub decreases-begin : goal.decreases-begin
decreases-begin l = 50 * length l.tokens.now + 2

abbrev pub decreases-primary : goal.decreases-primary
decreases-primary l = 50 * length l.tokens.now + 1

abbrev pub decreases-climb : goal.decreases-climb
decreases-climb l = 50 * length l.tokens.now + 31

abbrev pub decreases-ascend : goal.decreases-ascend
decreases-ascend l = 50 * length l.tokens.now + 30

abbrev pub decreases-grown : goal.decreases-grown
decreases-grown l = 50 * length l.tokens.now + 20

abbrev pub decreases-chain : goal.decreases-chain
decreases-chain l = 50 * length l.tokens.now + 10

abbrev pub decreases-choice : goal.decreases-choice
decreases-choice l = 50 * length l.tokens.now + 10

abbrev pub decreases-gather_operands : goal.decreases-gather_operands
decreases-gather_operands l = 50 * length l.tokens.now + 9

abbrev pub decreases-gather_choices : goal.decreases-gather_choices
decreases-gather_choices l = 50 * length l.tokens.now + 9

abbrev pub decreases-prefixed : goal.decreases-prefixed
decreases-prefixed l = 50 * length l.tokens.now + 40

abbrev pub decreases-following : goal.decreases-following
decreases-following l = 50 * length l.tokens.now + 40

abbrev pub decreases-listed : goal.decreases-listed
decreases-listed l = 50 * length l.tokens.now + 40

abbrev pub decreases-cases : goal.decreases-cases
decreases-cases l = 50 * length l.tokens.now + 40

abbrev pub decreases-gather_members : goal.decreases-gather_members
decreases-gather_members l = 50 * length l.tokens.now + 39

abbrev pub decreases-gather_cases : goal.decreases-gather_cases
decreases-gather_cases l = 50 * length l.tokens.now + 39

abbrev pub invariant-ascend-loop-below : goal.invariant-ascend-loop-below
invariant-ascend-loop-below l = record {
  reads : (t : Tree) → read_of l.fn.kept ≡ cap t
      → Reads (λ k. have t (waiting l.level l.levels l.place k)) (λ k. waiting l.below l.levels l.place k) l.tokens (read_of l.kept) l.rest;
  shorter : length l.rest ≤ length l.tokens;
}

abbrev pub decreases-ascend-loop-below : goal.decreases-ascend-loop-below
decreases-ascend-loop-below l = l.levels - l.below

abbrev pub invariant-gather_operands-loop-op : goal.invariant-gather_operands-loop-op
invariant-gather_operands-loop-op l = record {
  reads : (p : Place) (t : Tree) → AreOperands t [] l.fn.operands
      → (ls : List (Infix × Tree)) × AreOperands t ls l.operands
      × ((k : List Frame) → walk l.tokens (have t (operand l.class (tightest l.below) p bare ∷ k)) ≡ chained l.class (tightest l.below) p (record { first = t; links = ls }) k l.rest);
  shorter : length l.rest ≤ length l.tokens;
}

abbrev pub decreases-gather_operands-loop-op : goal.decreases-gather_operands-loop-op
decreases-gather_operands-loop-op l = length l.rest

abbrev pub invariant-gather_choices-loop-more : goal.invariant-gather_choices-loop-more
invariant-gather_choices-loop-more l = record {
  reads : (p : Place) (t : Tree) → AreCases [] l.fn.branches → read_of l.fn.kept ≡ cap t
      → (bs : List (Tree × Tree)) × AreCases bs l.branches
      × Reads (λ k. have t (when (tightest l.below) p [] ∷ k)) (λ k. when (tightest l.below) p bs ∷ k) l.tokens (read_of l.kept) l.rest;
  shorter : length l.rest ≤ length l.tokens;
}

abbrev pub decreases-gather_choices-loop-more : goal.decreases-gather_choices-loop-more
decreases-gather_choices-loop-more l = length l.rest

abbrev pub invariant-prefixed-loop-more : goal.invariant-prefixed-loop-more
invariant-prefixed-loop-more l = record {
  reads : (k : List Frame) → walk l.tokens (signed l.prefix (tightest l.below) l.place 1 k) ≡ walk l.rest (signed l.prefix (tightest l.below) l.place l.count k);
  some : 1 ≤ l.count;
  counted : l.count + length l.rest ≡ 1 + length l.tokens;
}

abbrev pub decreases-prefixed-loop-more : goal.decreases-prefixed-loop-more
decreases-prefixed-loop-more l = length l.rest

abbrev pub invariant-gather_members-loop-more : goal.invariant-gather_members-loop-more
invariant-gather_members-loop-more l = record {
  reads : (p : Place) → AreMembers [] l.fn.members
      → (ts : List Tree) × AreMembers ts l.members
      × ((k : List Frame) → walk l.tokens (ask all_levels (listing p l.what [] ∷ k)) ≡ walk l.rest (ask all_levels (listing p l.what ts ∷ k)));
  shorter : length l.rest ≤ length l.tokens;
}

abbrev pub decreases-gather_members-loop-more : goal.decreases-gather_members-loop-more
decreases-gather_members-loop-more l = length l.rest

abbrev pub invariant-gather_cases-loop-more : goal.invariant-gather_cases-loop-more
invariant-gather_cases-loop-more l = record {
  reads : (p : Place) → AreCases [] l.fn.branches
      → (bs : List (Tree × Tree)) × AreCases bs l.branches
      × ((k : List Frame) → walk l.tokens (ask all_levels (condition p [] ∷ k)) ≡ walk l.rest (ask all_levels (condition p bs ∷ k)));
  shorter : length l.rest ≤ length l.tokens;
}

abbrev pub decreases-gather_cases-loop-more : goal.decreases-gather_cases-loop-more
decreases-gather_cases-loop-more l = length l.rest
