-- The atoms of a text's forms are no more than its bytes.
use Rattle.std.proofs.Common.{◌≡◌, ℕ, ◌+◌, ◌≤◌, ◌<◌, List, [], ◌∷◌, ◌++◌, length, ap, arith}
use Rattle.std.proofs.lemmas.List.{length-append}
use Rattle.moxi_sexpr.specs.declared.read.TokenKind.TheVariants.{Close}
use Rattle.moxi_sexpr.specs.Atoms.{spelled}
use Rattle.moxi_sexpr.specs.Tree.{Tree, atom, list, Trees, no_trees, tree}
use Rattle.moxi_sexpr.specs.Lexing.{Token, token, Mark, Next, finished, go, bad, Steps, blank, comment, ends, unclosed, opening, too_deep, closing, unopened, atoms, stray, Lexes, last, more}
use Rattle.moxi_sexpr.specs.Grammar.{Spells, one, bracketed, SpellsAll, no_forms, forms, SpellsForms}
use Rattle.moxi_sexpr.proofs.Leading.{some_name}

-- TOKENS

-- a token leaves a shorter text
abbrev Shortens : List ℕ → Next → Type 0
Shortens text finished = Unit {0}
Shortens text (go t next rest) = length rest < length text
Shortens text (bad why) = Unit {0}

shortens_more : (xs ys : List ℕ) (x : Next) → length xs ≤ length ys → Shortens xs x → Shortens ys x
shortens_more xs ys finished h s = tt
shortens_more xs ys (go t next rest) h s = let k : length rest < length xs = s in omega arith
shortens_more xs ys (bad why) h s = tt

step_shortens : {m : Mark} {text : List ℕ} {x : Next} → Steps m text x → Shortens text x
step_shortens (blank {text = text} {x = x} b e s) = shortens_more text (b ∷ text) x (omega arith) (step_shortens s)
step_shortens (comment {text = text} {x = x} free a f s) = shortens_more text (59 ∷ (free ++ text)) x (omega (arith, length-append free text)) (step_shortens s)
step_shortens (ends m e) = tt
step_shortens (unclosed m h) = tt
step_shortens (opening m rest h) = omega arith
step_shortens (too_deep m rest h) = tt
step_shortens (closing m rest n e) = omega arith
step_shortens (unopened m rest e) = tt
step_shortens (atoms m text h name rest s) =
    let some = some_name h name s.may in
    let long : length text ≡ length (spelled h name ++ rest) = ap length s.is in
    omega (arith, some, long, length-append (spelled h name) rest)
step_shortens (stray m b rest e f g h none) = tt

tokens_few : {m : Mark} {text : List ℕ} {ts : List Token} → Lexes m text ts → length ts ≤ length text
tokens_few (last s) = omega arith
tokens_few (more {text = text} {ts = ts} t next rest s l) =
    let shorter : length rest < length text = step_shortens s in
    let few : length ts ≤ length rest = tokens_few l in
    omega arith

-- ATOMS

-- how many atoms a form has
abbrev mutual
  pub atom_count : Tree → ℕ
  atom_count (atom p a) = 1
  atom_count (list p ts) = atoms_count ts

  pub atoms_count : Trees → ℕ
  atoms_count no_trees = 0
  atoms_count (tree t ts) = atom_count t + atoms_count ts

mutual
  form_atoms_few : {t : Tree} {xs : List Token} → Spells t xs → atom_count t ≤ length xs
  form_atoms_few (one p a) = omega arith
  form_atoms_few (bracketed {ts = ts} {xs = xs} p q s) =
      let few : atoms_count ts ≤ length xs = forms_atoms_few s in
      omega (arith, length-append xs (token q Close ∷ []))

  forms_atoms_few : {ts : Trees} {xs : List Token} → SpellsAll ts xs → atoms_count ts ≤ length xs
  forms_atoms_few no_forms = omega arith
  forms_atoms_few (forms {t = t} {ts = ts} {xs = xs} {ys = ys} s ss) =
      let here : atom_count t ≤ length xs = form_atoms_few s in
      let behind : atoms_count ts ≤ length ys = forms_atoms_few ss in
      omega (arith, length-append xs ys)

pub text_atoms_few : (text : List ℕ) (ts : Trees) → SpellsForms text ts → atoms_count ts ≤ length text
text_atoms_few text ts s =
    let lexed : length s.tokens ≤ length text = tokens_few s.lexed in
    let formed : atoms_count ts ≤ length s.tokens = forms_atoms_few s.formed in
    omega arith
