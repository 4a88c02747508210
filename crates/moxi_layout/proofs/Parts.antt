-- The constraints of parts are true exactly where the parts' formulas hold.
use Rattle.std.proofs.Common.{◌≡◌, Bool, true, false, not, ◌||◌, cond, List, [], ◌∷◌, ◌++◌, refl}
use Rattle.std.specs.List.{AllByRecursion}
use Rattle.moxi_terms.specs.declared.data.Datum.TheVariants as datum
use Rattle.moxi_terms.specs.Tree.{Tree, apply, binding, bound, call, constant, variable}
use Rattle.moxi_terms.specs.Value.{Values}
use Rattle.moxi_terms.specs.View.{ScopeState}
use Rattle.moxi_scripts.specs.Script.{calls_in}
use Rattle.moxi_scripts.specs.Behaviour.{Holds}
use Rattle.moxi_flat.specs.FlatSystem.{PlainPart}
use Rattle.moxi_lines.specs.Lines.{is_true_term}
use Rattle.moxi_lines.specs.Constraints.{is_true}
use Rattle.moxi_layout.specs.Layout.{formula_values, part_values, unless_true}
use Rattle.moxi_layout.proofs.Codes.{AreSet}
use Rattle.moxi_layout.proofs.Lists.{all_flat, all_weaken, flat_all}
use Rattle.moxi_layout.proofs.Terms.{holds_from, holds_to}
use Rattle.moxi_lines.proofs.Extending.{all_both, all_first, all_second}

-- the term `true` is true
true_holds : (s : ScopeState) (before now : Values) (t : Tree) → is_true_term t ≡ true → is_true s before now t ≡ true
true_holds s before now (constant (datum.Truth true)) h = refl
true_holds s before now (constant (datum.Truth false)) h = absurd (cc)
true_holds s before now (constant (datum.Bits v)) h = absurd (cc)
true_holds s before now (constant (datum.Constant n i)) h = absurd (cc)
true_holds s before now (variable v p) h = absurd (cc)
true_holds s before now (bound i) h = absurd (cc)
true_holds s before now (apply o ts) h = absurd (cc)
true_holds s before now (binding names ts t) h = absurd (cc)
true_holds s before now (call n ts) h = absurd (cc)

unless_set : (t : Tree) (b : Bool) → (is_true_term t ≡ true → b ≡ true) → AreSet (unless_true t b) → b ≡ true
unless_set t b h a = go (is_true_term t) h a
  where
    go : (c : Bool) → (c ≡ true → b ≡ true) → AreSet (cond c [] (b ∷ [])) → b ≡ true
    go true h a = h refl
    go false h a = a.0

set_unless : (t : Tree) (b : Bool) → b ≡ true → AreSet (unless_true t b)
set_unless t b h = go (is_true_term t)
  where
    go : (c : Bool) → AreSet (cond c [] (b ∷ []))
    go true = tt
    go false = (h, tt)

-- first or not, an implication and a choice
not_or : (a b : Bool) → (not a || b) ≡ true → a ≡ true → b ≡ true
not_or true b h e = h
not_or false b h e = absurd (cc)

or_not : (a b : Bool) → (a ≡ true → b ≡ true) → (not a || b) ≡ true
or_not true b h = h refl
or_not false b h = refl

or_left : (a b : Bool) → (a || b) ≡ true → a ≡ false → b ≡ true
or_left true b h e = absurd (cc)
or_left false b h e = h

left_or : (a b : Bool) → (a ≡ false → b ≡ true) → (a || b) ≡ true
left_or true b h = refl
left_or false b h = h refl

-- a part's formulas hold in one step
pub record PartAt (s : ScopeState) (first : Bool) (before now : Values) (p : PlainPart) : Type 0 where
  pub init : first ≡ true → Holds (calls_in s) now now p.init
  pub trans : first ≡ false → Holds (calls_in s) before now p.trans
  pub inv : Holds (calls_in s) now now p.inv

module _ (s : ScopeState) (first : Bool) (before now : Values) where
  abbrev init_b : PlainPart → Bool
  init_b p = not first || is_true s now now p.init

  abbrev trans_b : PlainPart → Bool
  trans_b p = first || is_true s before now p.trans

  abbrev inv_b : PlainPart → Bool
  inv_b p = is_true s now now p.inv

  abbrev P : Bool → Type 0
  P b = b ≡ true

  part_from : (p : PlainPart) → AreSet (part_values s first before now p) → PartAt s first before now p
  part_from p a =
      let rest = unless_true p.trans (trans_b p) ++ unless_true p.inv (inv_b p) in
      let b = all_second P (unless_true p.init (init_b p)) rest a in
      record {
        init = λ e. holds_from s now now p.init (not_or first _ (unless_set p.init (init_b p) (λ t. or_not first _ (λ k. true_holds s now now p.init t)) (all_first P (unless_true p.init (init_b p)) rest a)) e);
        trans = λ e. holds_from s before now p.trans (or_left first _ (unless_set p.trans (trans_b p) (λ t. left_or first _ (λ k. true_holds s before now p.trans t)) (all_first P (unless_true p.trans (trans_b p)) (unless_true p.inv (inv_b p)) b)) e);
        inv = holds_from s now now p.inv (unless_set p.inv (inv_b p) (true_holds s now now p.inv) (all_second P (unless_true p.trans (trans_b p)) (unless_true p.inv (inv_b p)) b));
      }

  part_to : (p : PlainPart) → PartAt s first before now p → AreSet (part_values s first before now p)
  part_to p h =
      all_both P (unless_true p.init (init_b p)) _ (set_unless p.init (init_b p) (or_not first _ (λ e. holds_to s now now p.init (h.init e))))
      (all_both P (unless_true p.trans (trans_b p)) (unless_true p.inv (inv_b p)) (set_unless p.trans (trans_b p) (left_or first _ (λ e. holds_to s before now p.trans (h.trans e))))
      (set_unless p.inv (inv_b p) (holds_to s now now p.inv h.inv)))

  pub parts_from : (ps : List PlainPart) → AreSet (formula_values s first before now ps) → AllByRecursion (PartAt s first before now) ps
  parts_from ps a = all_weaken (λ p. AreSet (part_values s first before now p)) (PartAt s first before now) ps part_from (flat_all P (part_values s first before now) ps a)

  pub parts_to : (ps : List PlainPart) → AllByRecursion (PartAt s first before now) ps → AreSet (formula_values s first before now ps)
  parts_to ps a = all_flat P (part_values s first before now) ps (all_weaken (PartAt s first before now) (λ p. AreSet (part_values s first before now p)) ps part_to a)
