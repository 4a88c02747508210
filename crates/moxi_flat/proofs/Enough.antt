-- A bound that is as great as the systems nest deep is enough.
use Rattle.std.proofs.Common.{◌≡◌, ℕ, zero, suc, ◌+◌, ◌<◌, ◌≤◌, max, List, [], ◌∷◌, ◌++◌, length, refl, sym, ap, ◌∙◌, arith}
use Rattle.std.specs.Prelude.{sum_by}
use Rattle.std.specs.List.{AllByRecursion}
use Rattle.std.proofs.Math.Nat.{le-max_left, le-max_right}
use Rattle.std.proofs.lemmas.List.Sums.{sum_by-cons}
use Rattle.moxi_terms.specs.declared.term.Variable.{Variable}
use Rattle.moxi_scripts.specs.declared.script.Subsystem.{Subsystem}
use Rattle.moxi_scripts.specs.Script.{PlainSystem, system_at}
use Rattle.moxi_scripts.specs.Behaviour.{Trace}
use Rattle.moxi_scripts.specs.Meeting.{Hiddens, hidden, more_hidden}
use Rattle.moxi_flat.specs.Terms.{term_height, term_size}
use Rattle.moxi_flat.specs.Systems.{greatest_by, instance_height, instance_size, nesting_upto}
use Rattle.moxi_flat.specs.FlatMeeting.{hiddens_each, hiddens_upto}
use Rattle.moxi_flat.specs.FlatSystem.{PlainPart, count_upto, locals_each, locals_upto, named_inside, part_of, parts_each, parts_upto, path_inside, place_inside}
use Rattle.moxi_flat.specs.Instantiating.{IsEnough, LocalsAreCounted, NestingFalls, SystemsBoundNesting}
use Rattle.moxi_flat.proofs.Nesting.{Nests}
use Rattle.moxi_flat.proofs.Scripts.{nests_at}
use Rattle.moxi_flat.proofs.Small.{locals_counted}
use Rattle.moxi_terms.proofs.ScopeLaws.{all_of}

-- LISTS OF SUBSYSTEMS

sums_same : (f g : Subsystem → ℕ) (bs : List Subsystem) → AllByRecursion (λ (b : Subsystem). f b ≡ g b) bs → sum_by f bs ≡ sum_by g bs
sums_same f g [] h = refl
sums_same f g (b ∷ bs) h = sum_by-cons f b bs ∙ ap (λ n. n + sum_by f bs) h.0 ∙ ap (λ n. g b + n) (sums_same f g bs h.1) ∙ sym (sum_by-cons g b bs)

greatest_same : (f g : Subsystem → ℕ) (bs : List Subsystem) → AllByRecursion (λ (b : Subsystem). f b ≡ g b) bs → greatest_by f bs ≡ greatest_by g bs
greatest_same f g [] h = refl
greatest_same f g (b ∷ bs) h = ap (λ n. max n (greatest_by f bs)) h.0 ∙ ap (λ n. max (g b) n) (greatest_same f g bs h.1)

module _ (ss : List PlainSystem) where
  locals_same : (within other : List ℕ → ℕ → List Variable) (path : List ℕ) (bs : List Subsystem) → AllByRecursion (λ (b : Subsystem). (path : List ℕ) → within path b.system ≡ other path b.system) bs
      → locals_each ss within path bs ≡ locals_each ss other path bs
  locals_same within other path [] h = refl
  locals_same within other path (b ∷ bs) h =
      ap (λ vs. named_inside (path_inside path b) (system_at ss b.system).locals ++ (vs ++ locals_each ss within path bs)) (h.0 (path_inside path b))
      ∙ ap (λ vs. named_inside (path_inside path b) (system_at ss b.system).locals ++ (other (path_inside path b) b.system ++ vs)) (locals_same within other path bs h.1)

  parts_same : (count other_count : ℕ → ℕ) (parts other : (ℕ → ℕ) → ℕ → ℕ → List PlainPart) (place : ℕ → ℕ) (fresh : ℕ) (bs : List Subsystem)
      → AllByRecursion (λ (b : Subsystem). (count b.system ≡ other_count b.system) × ((place : ℕ → ℕ) (fresh : ℕ) → parts place fresh b.system ≡ other place fresh b.system)) bs
      → parts_each ss count parts place fresh bs ≡ parts_each ss other_count other place fresh bs
  parts_same count other_count parts other place fresh [] h = refl
  parts_same count other_count parts other place fresh (b ∷ bs) h =
      let next = fresh + length (system_at ss b.system).locals in
      let inner = place_inside place b.actuals fresh in
      ap (λ ps. ps ++ parts_each ss count parts place (next + count b.system) bs) (h.0.1 inner next)
      ∙ ap (λ ps. other inner next b.system ++ ps)
      (parts_same count other_count parts other place (next + count b.system) bs h.1 ∙ ap (λ n. parts_each ss other_count other place (next + n) bs) h.0.0)

  hiddens_same : (count other_count : ℕ → ℕ) (within other : ℕ → ℕ → Hiddens) (trace : Trace) (fresh : ℕ) (bs : List Subsystem)
      → AllByRecursion (λ (b : Subsystem). (count b.system ≡ other_count b.system) × ((fresh : ℕ) → within fresh b.system ≡ other fresh b.system)) bs
      → hiddens_each ss count within trace fresh bs ≡ hiddens_each ss other_count other trace fresh bs
  hiddens_same count other_count within other trace fresh [] h = refl
  hiddens_same count other_count within other trace fresh (b ∷ bs) h =
      let next = fresh + length (system_at ss b.system).locals in
      ap (λ inner. more_hidden (hidden (λ j v. trace j (fresh + v)) inner) (hiddens_each ss count within trace (next + count b.system) bs)) (h.0.1 next)
      ∙ ap (λ hs. more_hidden (hidden (λ j v. trace j (fresh + v)) (other next b.system)) hs)
      (hiddens_same count other_count within other trace (next + count b.system) bs h.1 ∙ ap (λ n. hiddens_each ss other_count other trace (next + n) bs) h.0.0)

  -- SYSTEMS

  abbrev Deep : ℕ → Subsystem → Type 0
  Deep depth b = Nests depth ss b.system

  size_enough : (calls : ℕ → ℕ) (depth i : ℕ) → Nests depth ss i → instance_size calls ss (suc depth) i ≡ instance_size calls ss depth i
  size_enough calls zero i h = absurd h
  size_enough calls (suc depth) i h =
      let x = system_at ss i in
      ap (λ n. 1 + (term_size calls x.init + (term_size calls x.trans + (term_size calls x.inv + (length x.locals + n)))))
      (sums_same (λ b. instance_size calls ss (suc depth) b.system) (λ b. instance_size calls ss depth b.system) x.subsystems
      (all_of (Deep depth) (λ (b : Subsystem). instance_size calls ss (suc depth) b.system ≡ instance_size calls ss depth b.system) x.subsystems (λ b g. size_enough calls depth b.system g) h.1))

  height_enough : (calls : ℕ → ℕ) (depth i : ℕ) → Nests depth ss i → instance_height calls ss (suc depth) i ≡ instance_height calls ss depth i
  height_enough calls zero i h = absurd h
  height_enough calls (suc depth) i h =
      let x = system_at ss i in
      ap (λ n. max (term_height calls x.init) (max (term_height calls x.trans) (max (term_height calls x.inv) n)))
      (greatest_same (λ b. instance_height calls ss (suc depth) b.system) (λ b. instance_height calls ss depth b.system) x.subsystems
      (all_of (Deep depth) (λ (b : Subsystem). instance_height calls ss (suc depth) b.system ≡ instance_height calls ss depth b.system) x.subsystems (λ b g. height_enough calls depth b.system g) h.1))

  nesting_enough : (depth i : ℕ) → Nests depth ss i → nesting_upto ss (suc depth) i ≡ nesting_upto ss depth i
  nesting_enough zero i h = absurd h
  nesting_enough (suc depth) i h =
      ap (λ n. 1 + n) (greatest_same (λ b. nesting_upto ss (suc depth) b.system) (λ b. nesting_upto ss depth b.system) (system_at ss i).subsystems
      (all_of (Deep depth) (λ (b : Subsystem). nesting_upto ss (suc depth) b.system ≡ nesting_upto ss depth b.system) (system_at ss i).subsystems (λ b g. nesting_enough depth b.system g) h.1))

  count_enough : (depth i : ℕ) → Nests depth ss i → count_upto ss (suc depth) i ≡ count_upto ss depth i
  count_enough zero i h = absurd h
  count_enough (suc depth) i h =
      let counts = λ (n : ℕ) (b : Subsystem). length (system_at ss b.system).locals + count_upto ss n b.system in
      sums_same (counts (suc depth)) (counts depth) (system_at ss i).subsystems
      (all_of (Deep depth) (λ (b : Subsystem). counts (suc depth) b ≡ counts depth b) (system_at ss i).subsystems (λ b g. ap (λ n. length (system_at ss b.system).locals + n) (count_enough depth b.system g)) h.1)

  locals_enough : (depth : ℕ) (path : List ℕ) (i : ℕ) → Nests depth ss i → locals_upto ss (suc depth) path i ≡ locals_upto ss depth path i
  locals_enough zero path i h = absurd h
  locals_enough (suc depth) path i h =
      locals_same (locals_upto ss (suc depth)) (locals_upto ss depth) path (system_at ss i).subsystems
      (all_of (Deep depth) (λ (b : Subsystem). (path : List ℕ) → locals_upto ss (suc depth) path b.system ≡ locals_upto ss depth path b.system) (system_at ss i).subsystems
      (λ b g path. locals_enough depth path b.system g) h.1)

  parts_enough : (depth : ℕ) (place : ℕ → ℕ) (fresh i : ℕ) → Nests depth ss i → parts_upto ss (suc depth) place fresh i ≡ parts_upto ss depth place fresh i
  parts_enough zero place fresh i h = absurd h
  parts_enough (suc depth) place fresh i h =
      let bs = (system_at ss i).subsystems in
      ap (λ ps. part_of place (system_at ss i) ∷ ps)
      (parts_same (count_upto ss (suc depth)) (count_upto ss depth) (parts_upto ss (suc depth)) (parts_upto ss depth) place fresh bs
      (all_of (Deep depth)
      (λ (b : Subsystem). (count_upto ss (suc depth) b.system ≡ count_upto ss depth b.system) × ((place : ℕ → ℕ) (fresh : ℕ) → parts_upto ss (suc depth) place fresh b.system ≡ parts_upto ss depth place fresh b.system)) bs
      (λ b g. (count_enough depth b.system g, λ place fresh. parts_enough depth place fresh b.system g)) h.1))

  hiddens_enough : (depth : ℕ) (trace : Trace) (fresh i : ℕ) → Nests depth ss i → hiddens_upto ss (suc depth) trace fresh i ≡ hiddens_upto ss depth trace fresh i
  hiddens_enough zero trace fresh i h = absurd h
  hiddens_enough (suc depth) trace fresh i h =
      let bs = (system_at ss i).subsystems in
      hiddens_same (count_upto ss (suc depth)) (count_upto ss depth) (hiddens_upto ss (suc depth) trace) (hiddens_upto ss depth trace) trace fresh bs
      (all_of (Deep depth)
      (λ (b : Subsystem). (count_upto ss (suc depth) b.system ≡ count_upto ss depth b.system) × ((fresh : ℕ) → hiddens_upto ss (suc depth) trace fresh b.system ≡ hiddens_upto ss depth trace fresh b.system)) bs
      (λ b g. (count_enough depth b.system g, λ fresh. hiddens_enough depth trace fresh b.system g)) h.1)

  pub is_enough : (depth i : ℕ) → Nests depth ss i → IsEnough ss depth i
  is_enough depth i h = record {
    size = λ calls. size_enough calls depth i h;
    height = λ calls. height_enough calls depth i h;
    nesting = nesting_enough depth i h;
    locals = λ path. locals_enough depth path i h;
    count = count_enough depth i h;
    parts = λ place fresh. parts_enough depth place fresh i h;
    hiddens = λ trace fresh. hiddens_enough depth trace fresh i h;
  }

pub systems_bound_nesting_law : SystemsBoundNesting
systems_bound_nesting_law s w i there = is_enough s.systems (length s.systems) i (nests_at s w i there)

-- RANKS

within_greatest : (f : Subsystem → ℕ) (n : ℕ) (bs : List Subsystem) → greatest_by f bs < n → AllByRecursion (λ (b : Subsystem). f b < n) bs
within_greatest f n [] h = tt
within_greatest f n (b ∷ bs) h =
    let l = le-max_left (f b) (greatest_by f bs) in
    let r = le-max_right (f b) (greatest_by f bs) in
    (below (f b) (max (f b) (greatest_by f bs)) l h, within_greatest f n bs (below (greatest_by f bs) (max (f b) (greatest_by f bs)) r h))
  where
    below : (a m : ℕ) → a ≤ m → m < n → a < n
    below a m h g = omega (arith, h, g)

next_above : (n m : ℕ) → 1 + n ≡ m → n < m
next_above n m e = omega (arith, e)

pub nesting_falls_law : NestingFalls
nesting_falls_law s w i there =
    let n = length s.systems in
    within_greatest (λ b. nesting_upto s.systems n b.system) (nesting_upto s.systems n i) (system_at s.systems i).subsystems
    (next_above (greatest_by (λ (b : Subsystem). nesting_upto s.systems n b.system) (system_at s.systems i).subsystems) (nesting_upto s.systems n i) (nesting_enough s.systems n i (nests_at s w i there)))

pub locals_are_counted_law : LocalsAreCounted
locals_are_counted_law = locals_counted
