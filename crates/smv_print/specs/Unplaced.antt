-- The same model but for its places and its counts of tokens.
use Rattle.std.specs.Prelude.{◌≡◌, ℕ, None, List, map}
use Rattle.text_core.specs.declared.place.Place.{Place}
use Rattle.smv_text.specs.declared.tree.Path.{Path}
use Rattle.smv_text.specs.declared.tree.Parameter.{Parameter}
use Rattle.smv_text.specs.declared.token.Token.{Token}
use Rattle.smv_text.specs.declared.level.Level.{Level}
use Rattle.smv_text.specs.Tree.{Tree, truth, number, literal, name, prefix, chain, choice, cases, select, call, next, set, range, Links, no_links, link, Branches, no_branches, branch, Trees, no_trees, tree, PlainDomain, boolean, members, between, bits, instance, PlainItem, PlainDefinition, PlainAssignment, PlainElement, vars, defines, constants, assigns, init, trans, invar, spec, PlainModule, PlainSource}
use Rattle.smv_text.specs.Grammar.{Spells}
use Rattle.text_core.specs.Places.{start, after}
use Rattle.smv_text.specs.Lexing.{Lexes}
use Rattle.smv_text.specs.Heights.{first_high, of_modules}
use Rattle.smv_text.specs.Sources.{SpellsSource}

-- one place for all
abbrev pub nowhere : Place
nowhere = record { line = 1; column = 1; offset = 0 }

abbrev pub unplaced_path : Path → Path
unplaced_path p = record { from_self = p.from_self; names = p.names; place = nowhere }

abbrev mutual
  pub unplaced : Tree → Tree
  unplaced (truth p b) = truth nowhere b
  unplaced (number p n) = number nowhere n
  unplaced (literal p w) = literal nowhere w
  unplaced (name p path) = name nowhere (unplaced_path path)
  unplaced (prefix p sign n t) = prefix nowhere sign n (unplaced t)
  unplaced (chain p t ls) = chain nowhere (unplaced t) (unplaced_links ls)
  unplaced (choice p bs t) = choice nowhere (unplaced_branches bs) (unplaced t)
  unplaced (cases p bs) = cases nowhere (unplaced_branches bs)
  unplaced (select p t high low) = select nowhere (unplaced t) high low
  unplaced (call p f ts) = call nowhere f (unplaced_trees ts)
  unplaced (next p t) = next nowhere (unplaced t)
  unplaced (set p ts) = set nowhere (unplaced_trees ts)
  unplaced (range p low high) = range nowhere low high

  pub unplaced_links : Links → Links
  unplaced_links no_links = no_links
  unplaced_links (link op t ls) = link op (unplaced t) (unplaced_links ls)

  pub unplaced_branches : Branches → Branches
  unplaced_branches no_branches = no_branches
  unplaced_branches (branch w v bs) = branch (unplaced w) (unplaced v) (unplaced_branches bs)

  pub unplaced_trees : Trees → Trees
  unplaced_trees no_trees = no_trees
  unplaced_trees (tree t ts) = tree (unplaced t) (unplaced_trees ts)

abbrev pub unplaced_domain : PlainDomain → PlainDomain
unplaced_domain boolean = boolean
unplaced_domain (members ms) = members ms
unplaced_domain (between low high) = between low high
unplaced_domain (bits n) = bits n
unplaced_domain (instance m ts) = instance m (unplaced_trees ts)

abbrev pub unplaced_item : PlainItem → PlainItem
unplaced_item i = record { name = i.name; place = nowhere; domain = unplaced_domain i.domain; domain_place = nowhere }

abbrev pub unplaced_definition : PlainDefinition → PlainDefinition
unplaced_definition d = record { name = d.name; place = nowhere; body = unplaced d.body }

abbrev pub unplaced_assignment : PlainAssignment → PlainAssignment
unplaced_assignment a = record { when = a.when; target = unplaced_path a.target; body = unplaced a.body }

abbrev pub unplaced_element : PlainElement → PlainElement
unplaced_element (vars k items) = vars k (map unplaced_item items)
unplaced_element (defines ds) = defines (map unplaced_definition ds)
unplaced_element (constants names) = constants names
unplaced_element (assigns items) = assigns (map unplaced_assignment items)
unplaced_element (init t) = init (unplaced t)
unplaced_element (trans t) = trans (unplaced t)
unplaced_element (invar t) = invar (unplaced t)
unplaced_element (spec o t) = spec o (unplaced t)

abbrev pub unplaced_parameter : Parameter → Parameter
unplaced_parameter p = record { name = p.name; place = nowhere }

abbrev pub unplaced_module : PlainModule → PlainModule
unplaced_module m =
    record { name = m.name; place = nowhere; parameters = map unplaced_parameter m.parameters; elements = map unplaced_element m.elements; tokens = 0 }

abbrev pub unplaced_source : PlainSource → PlainSource
unplaced_source s = record { modules = map unplaced_module s.modules; end = nowhere }

-- The tokens spell, at these levels, this expression but for its places.
pub record SpellsSame (levels : List Level) (t : Tree) (xs : List Token) : Type 0 where
  pub expression : Tree
  pub spelled : Spells levels expression xs
  pub same : unplaced expression ≡ unplaced t

-- The tokens of a text with this end spell this model but for its places and its counts of tokens.
pub record SpellsSameSource (source : PlainSource) (end : Place) (xs : List Token) : Type 0 where
  pub model : PlainSource
  pub spelled : SpellsSource model end xs
  pub same : unplaced_source model ≡ unplaced_source source

-- The text lexes to tokens that spell this model but for its places and its counts of tokens, and where none of its expressions
-- is too high, none of theirs is.
pub record IsReadAgain (source : PlainSource) (text : List ℕ) : Type 0 where
  pub tokens : List Token
  pub lexed : Lexes text tokens
  pub spells : SpellsSameSource source (after start text) tokens
  pub low : first_high (of_modules source.modules) ≡ None → first_high (of_modules spells.model.modules) ≡ None

-- where some text spells the model, this one is read as it again
abbrev pub ReadsBack : PlainSource → List ℕ → Type 0
ReadsBack source text = (end : Place) (given : List ℕ) (xs : List Token) → Lexes given xs → SpellsSource source end xs → IsReadAgain source text
