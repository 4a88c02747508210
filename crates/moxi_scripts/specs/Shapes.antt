-- The shapes of lists.
use Rattle.std.specs.Prelude.{ℕ, Bool, Option, None, Some, List}
use Rattle.text_core.specs.declared.place.Place.{Place}
use Rattle.text_core.specs.declared.place.Refusal.{Refusal}
use Rattle.moxi_sexpr.specs.Lexing.{refusal}
use Rattle.moxi_sexpr.specs.Tree.{Tree, atom, list, Trees, no_trees, tree}
use Rattle.moxi_term_reading.specs.Forms.{place_in, symbol_of, only_of, pair_of}

-- a symbol, and what is behind it
pub record HeadedForms : Type 0 where
  pub name : List ℕ
  pub primed : Bool
  pub place : Place
  pub rest : Trees

-- a symbol, and the one form behind it
pub record NamedForm : Type 0 where
  pub name : List ℕ
  pub primed : Bool
  pub place : Place
  pub form : Tree

abbrev pub headed_by : Place → Option (List ℕ × Bool) → Trees → Option HeadedForms
headed_by p None ts = None
headed_by p (Some x) ts = Some (record { name = x.0; primed = x.1; place = p; rest = ts })

-- forms that begin with a symbol
abbrev pub headed : Trees → Option HeadedForms
headed no_trees = None
headed (tree t ts) = headed_by (place_in t) (symbol_of t) ts

abbrev pub named_by : HeadedForms → Option Tree → Option NamedForm
named_by h None = None
named_by h (Some t) = Some (record { name = h.name; primed = h.primed; place = h.place; form = t })

abbrev pub named_in : Option HeadedForms → Option NamedForm
named_in None = None
named_in (Some h) = named_by h (only_of h.rest)

-- a list of a symbol and a form
abbrev pub named : Tree → Option NamedForm
named (atom p a) = None
named (list p ts) = named_in (headed ts)

-- the forms of a list
abbrev pub parts_of : Tree → Option Trees
parts_of (atom p a) = None
parts_of (list p ts) = Some ts

abbrev pub before_pair : Tree → Option (Tree × Tree) → Option (Tree × Tree × Tree)
before_pair t None = None
before_pair t (Some x) = Some (t, x.0, x.1)

-- the three forms, where there are three
abbrev pub triple_of : Trees → Option (Tree × Tree × Tree)
triple_of no_trees = None
triple_of (tree t ts) = before_pair t (pair_of ts)

-- where a form in a list at `around` hasn't its shape: the innermost list whose own elements don't fit
abbrev pub misshapen_place : Place → Tree → Place
misshapen_place around (atom p a) = around
misshapen_place around (list p ts) = p

abbrev pub misshapen : Place → Tree → Refusal
misshapen around t = refusal 12 (misshapen_place around t)
