-- Forms that are shown as lists, as pairs of a name and a form, and as attributes.
use Rattle.std.proofs.Common.{◌≡◌, ℕ, true, false, Some, List, refl, ap, ◌∙◌}
use Rattle.text_core.specs.declared.place.Place.{Place}
use Rattle.moxi_sexpr.specs.declared.form.Atom.TheVariants.{Symbol, Keyword}
use Rattle.moxi_sexpr.specs.Tree.{Tree, atom, list, Trees, no_trees, tree}
use Rattle.moxi_term_print.specs.Shown.{Shown, group, Showns, no_showns, shown, joined, Shows, ShowEach}
use Rattle.moxi_term_print.specs.Terms.{symbol}
use Rattle.moxi_term_print.specs.laws.StandingShapes as shape
use Rattle.moxi_scripts.specs.Attributes.{is_list_form}
use Rattle.moxi_script_print.specs.Printing.{attribute}
use Rattle.moxi_scripts.specs.Shapes.{NamedForm, named, parts_of}

abbrev pub named_form : List ℕ → Place → Tree → NamedForm
named_form name p t = record { name = name; primed = false; place = p; form = t }

-- a list of a name and of a form that is shown so
pub record IsNamed (f : Tree) (name : List ℕ) (x : Shown) : Type 0 where
  pub place : Place
  pub form : Tree
  pub is : named f ≡ Some (named_form name place form)
  pub shows : Shows form x
  pub listed : is_list_form f ≡ true

pub is_named : (f : Tree) (name : List ℕ) (x : Shown) → Shows f (group (shown (symbol name) (shown x no_showns))) → IsNamed f name x
is_named f name x h =
    let g = shape.is_group f _ h in
    let a = shape.is_two g.1 (symbol name) x g.3 in
    let b = shape.is_part a.0 (Symbol name false) a.3 in
    record {
      place = b.0;
      form = a.1;
      is = ap named (g.2 ∙ ap (list g.0) (a.2 ∙ ap (λ t. tree t (tree a.1 no_trees)) b.1));
      shows = a.4;
      listed = ap is_list_form g.2;
    }

-- the parts of a list are shown so
pub record IsListed (f : Tree) (xs : Showns) : Type 0 where
  pub parts : Trees
  pub is : parts_of f ≡ Some parts
  pub show : ShowEach parts xs
  pub listed : is_list_form f ≡ true

pub is_listed : (f : Tree) (xs : Showns) → Shows f (group xs) → IsListed f xs
is_listed f xs h =
    let g = shape.is_group f xs h in
    record { parts = g.1; is = ap parts_of g.2; show = g.3; listed = ap is_list_form g.2 }

-- a keyword, the form behind it, and more forms
pub record IsAttribute (ts : Trees) (name : List ℕ) (x : Shown) (rest : Showns) : Type 0 where
  pub place : Place
  pub value : Tree
  pub more : Trees
  pub is : ts ≡ tree (atom place (Keyword name)) (tree value more)
  pub shows : Shows value x
  pub show_more : ShowEach more rest

pub is_attribute : (ts : Trees) (name : List ℕ) (x : Shown) (rest : Showns) → ShowEach ts (joined (attribute name x) rest) → IsAttribute ts name x rest
unfolding attribute
is_attribute no_trees name x rest h = absurd h
is_attribute (tree t no_trees) name x rest h = absurd h.1
is_attribute (tree t (tree u us)) name x rest h =
    let a = shape.is_part t (Keyword name) h.0 in
    record { place = a.0; value = u; more = us; is = ap (λ t. tree t (tree u us)) a.1; shows = h.1.0; show_more = h.1.1 }

pub joined_joined : (xs ys zs : Showns) → joined (joined xs ys) zs ≡ joined xs (joined ys zs)
joined_joined no_showns ys zs = refl
joined_joined (shown x xs) ys zs = ap (shown x) (joined_joined xs ys zs)
