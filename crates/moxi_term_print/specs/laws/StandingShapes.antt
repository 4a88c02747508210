-- Forms that are shown as words, as atoms and as lists.
use Rattle.std.proofs.Common.{◌≡◌, ℕ, false, List, refl, ap, ◌∙◌}
use Rattle.std.specs.Prelude.{codes}
use Rattle.text_core.specs.declared.place.Place.{Place}
use Rattle.moxi_sexpr.specs.declared.form.Atom.{Atom}
use Rattle.moxi_sexpr.specs.declared.form.Atom.TheVariants.{Symbol}
use Rattle.moxi_sexpr.specs.Tree.{Tree, atom, list, Trees, no_trees, tree}
use Rattle.moxi_term_print.specs.Shown.{Shown, word, part, group, Showns, no_showns, shown, Shows, ShowEach}

pub is_word : (f : Tree) (w : List ℕ) → Shows f (word w) → (p : Place) × (f ≡ atom p (Symbol w false))
is_word (atom p a) w h = (p, ap (atom p) h)
is_word (list p ts) w h = absurd h

pub is_part : (f : Tree) (b : Atom) → Shows f (part b) → (p : Place) × (f ≡ atom p b)
is_part (atom p a) b h = (p, ap (atom p) h)
is_part (list p ts) b h = absurd h

pub is_group : (f : Tree) (xs : Showns) → Shows f (group xs) → (p : Place) × (ts : Trees) × (f ≡ list p ts) × ShowEach ts xs
is_group (atom p a) xs h = absurd h
is_group (list p ts) xs h = (p, ts, refl, h)

pub is_more : (ts : Trees) (x : Shown) (xs : Showns) → ShowEach ts (shown x xs) → (t : Tree) × (us : Trees) × (ts ≡ tree t us) × Shows t x × ShowEach us xs
is_more no_trees x xs h = absurd h
is_more (tree t us) x xs h = (t, us, refl, h.0, h.1)

pub is_none : (ts : Trees) → ShowEach ts no_showns → ts ≡ no_trees
is_none no_trees h = refl
is_none (tree t us) h = absurd h

-- the only form
pub is_one : (ts : Trees) (x : Shown) → ShowEach ts (shown x no_showns) → (t : Tree) × (ts ≡ tree t no_trees) × Shows t x
is_one ts x h =
    let m = is_more ts x no_showns h in
    (m.0, m.2 ∙ ap (tree m.0) (is_none m.1 m.4), m.3)

-- the two forms
pub is_two : (ts : Trees) (x y : Shown) → ShowEach ts (shown x (shown y no_showns)) → (t u : Tree) × (ts ≡ tree t (tree u no_trees)) × Shows t x × Shows u y
is_two ts x y h =
    let m = is_more ts x (shown y no_showns) h in
    let n = is_one m.1 y m.4 in
    (m.0, n.0, m.2 ∙ ap (tree m.0) n.1, m.3, n.2)

-- `(_ name ..)`
pub is_indexed : (f : Tree) (name : List ℕ) (xs : Showns) → Shows f (group (shown (word (codes "_")) (shown (word name) xs)))
    → (q r t : Place) × (ts : Trees) × (f ≡ list q (tree (atom r (Symbol (codes "_") false)) (tree (atom t (Symbol name false)) ts))) × ShowEach ts xs
is_indexed f name xs h =
    let g = is_group f _ h in
    let a = is_more g.1 _ _ g.3 in
    let b = is_more a.1 _ _ a.4 in
    let u = is_word a.0 (codes "_") a.3 in
    let v = is_word b.0 name b.3 in (
      g.0,
      u.0,
      v.0,
      b.1,
      g.2 ∙ ap (list g.0) (a.2 ∙ ap (λ t. tree t a.1) u.1 ∙ ap (tree (atom u.0 (Symbol (codes "_") false))) (b.2 ∙ ap (λ t. tree t b.1) v.1)),
      b.4,
    )
