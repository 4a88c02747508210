-- The parts of forms.
use Rattle.std.specs.Prelude.{ℕ, ◌+◌, Bool, false, Option, None, Some, List}
use Rattle.std.specs.Borrow.{Bor}
use Rattle.std.specs.Str.{bytes_eq}
use Rattle.text_core.specs.declared.place.Place.{Place}
use Rattle.moxi_sexpr.specs.declared.form.Atom.{Atom}
use Rattle.moxi_sexpr.specs.declared.form.Atom.TheVariants.{Symbol, Keyword, Numeral, Binary, Hex, Quote}
use Rattle.moxi_sexpr.specs.declared.form.Form.{Form}
use Rattle.moxi_sexpr.specs.Tree.{Tree, atom, list, Trees, no_trees, tree, plain}

abbrev pub place_in : Tree → Place
place_in (atom p a) = p
place_in (list p ts) = p

-- the name of a symbol, and whether it is primed
abbrev pub symbol_atom : Atom → Option (List ℕ × Bool)
symbol_atom (Symbol name primed) = Some (name, primed)
symbol_atom (Keyword name) = None
symbol_atom (Numeral digits) = None
symbol_atom (Binary digits) = None
symbol_atom (Hex digits) = None
symbol_atom (Quote bytes) = None

abbrev pub symbol_of : Tree → Option (List ℕ × Bool)
symbol_of (atom p a) = symbol_atom a
symbol_of (list p ts) = None

-- the digits of a numeral
abbrev pub numeral_atom : Atom → Option (List ℕ)
numeral_atom (Symbol name primed) = None
numeral_atom (Keyword name) = None
numeral_atom (Numeral digits) = Some digits
numeral_atom (Binary digits) = None
numeral_atom (Hex digits) = None
numeral_atom (Quote bytes) = None

abbrev pub numeral_of : Tree → Option (List ℕ)
numeral_of (atom p a) = numeral_atom a
numeral_of (list p ts) = None

-- the form, where it is the only one
abbrev pub only_of : Trees → Option Tree
only_of no_trees = None
only_of (tree t no_trees) = Some t
only_of (tree t (tree u us)) = None

-- the two forms, where there are two
abbrev pub pair_of : Trees → Option (Tree × Tree)
pair_of no_trees = None
pair_of (tree t no_trees) = None
pair_of (tree t (tree u no_trees)) = Some (t, u)
pair_of (tree t (tree u (tree v vs))) = None

abbrev pub is_named : List ℕ → Option (List ℕ × Bool) → Bool
is_named word None = false
is_named word (Some x) = bytes_eq x.0 word

-- the form is this symbol, primed or not
abbrev pub is_word : List ℕ → Tree → Bool
is_word word t = is_named word (symbol_of t)

abbrev pub prime_of : Option (List ℕ × Bool) → Bool
prime_of None = false
prime_of (Some x) = x.1

-- the form is a primed symbol
abbrev pub is_primed : Tree → Bool
is_primed t = prime_of (symbol_of t)

-- what the functions over forms answer
abbrev pub symbol_now : Option (Bor (List ℕ) × Bool) → Option (List ℕ × Bool)
symbol_now None = None
symbol_now (Some x) = Some (x.0.now, x.1)

abbrev pub digits_now : Option (Bor (List ℕ)) → Option (List ℕ)
digits_now None = None
digits_now (Some digits) = Some digits.now

abbrev pub only_now : Option (Bor Form) → Option Tree
only_now None = None
only_now (Some f) = Some (plain f.now)

abbrev pub pair_now : Option (Bor Form × Bor Form) → Option (Tree × Tree)
pair_now None = None
pair_now (Some x) = Some (plain x.0.now, plain x.1.now)

-- how large a form is
abbrev mutual
  pub size : Tree → ℕ
  size (atom p a) = 1
  size (list p ts) = sizes ts + 4

  pub sizes : Trees → ℕ
  sizes no_trees = 0
  sizes (tree t ts) = size t + sizes ts + 1
