-- Copies of each kind of term.
use Rattle.std.proofs.Common.{◌≡◌, ℕ, List, [], ◌∷◌, map, Vec, Box, Global, refl, sym, ap, ◌∙◌, rules}
use Rattle.moxi_terms.specs.declared.data.TermOp.{TermOp}
use Rattle.moxi_terms.specs.declared.term.Term.{Term, Apply, Let, Call, the_lemmas}
use Rattle.moxi_terms.specs.Tree.{Tree, apply, binding, call, tree, trees_of}
use Rattle.moxi_terms.specs.View.{plain}
use Rattle.moxi_flat.specs.Renumbering.{all_renumbered, renumbered}
use Rattle.moxi_instantiate.proofs.Capping.{plain_apply}

plain_let : (names : List (List ℕ)) (ts : Vec Term Global) (t : Box Term Global) → plain (Let names ts t) ≡ binding names (trees_of (map plain ts.items)) (plain t.value)
plain_let names ts t = search (rules, the_lemmas)

plain_call : (n : ℕ) (ts : Vec Term Global) → plain (Call n ts) ≡ call n (trees_of (map plain ts.items))
plain_call n ts = search (rules, the_lemmas)

module _ (place : ℕ → ℕ) where
  abbrev copy : Term → Tree
  copy t = renumbered place (plain t)

  all_are : (ts : List Term) → trees_of (map copy ts) ≡ all_renumbered place (trees_of (map plain ts))
  all_are [] = refl
  all_are (t ∷ ts) = ap (tree (copy t)) (all_are ts)

  trees_are : (copies : Vec Term Global) (ts slice : List Term) → map plain copies.items ≡ map copy slice → slice ≡ ts → trees_of (map plain copies.items) ≡ all_renumbered place (trees_of (map plain ts))
  trees_are copies ts slice e f = ap trees_of (e ∙ ap (map copy) f) ∙ all_are ts

  pub apply_copied : (t : Term) (op : TermOp) (ts copies : Vec Term Global) (slice : List Term) → t ≡ Apply op ts → map plain copies.items ≡ map copy slice → slice ≡ ts.items
      → plain (Apply op copies) ≡ renumbered place (plain t)
  apply_copied t op ts copies slice is e f =
      plain_apply op copies ∙ ap (apply op) (trees_are copies ts.items slice e f) ∙ sym (ap (renumbered place) (ap plain is ∙ plain_apply op ts))

  pub call_copied : (t : Term) (n : ℕ) (ts copies : Vec Term Global) (slice : List Term) → t ≡ Call n ts → map plain copies.items ≡ map copy slice → slice ≡ ts.items
      → plain (Call n copies) ≡ renumbered place (plain t)
  call_copied t n ts copies slice is e f =
      plain_call n copies ∙ ap (call n) (trees_are copies ts.items slice e f) ∙ sym (ap (renumbered place) (ap plain is ∙ plain_call n ts))

  pub let_copied : (t : Term) (names bound : List (List ℕ)) (ts copies : Vec Term Global) (slice : List Term) (body held : Box Term Global) → t ≡ Let names ts body → bound ≡ names
      → map plain copies.items ≡ map copy slice → slice ≡ ts.items → plain held.value ≡ renumbered place (plain body.value) → plain (Let bound copies held) ≡ renumbered place (plain t)
  let_copied t names bound ts copies slice body held is same e f inner =
      plain_let bound copies held ∙ ap (λ ns. binding ns (trees_of (map plain copies.items)) (plain held.value)) same
      ∙ ap (λ us. binding names us (plain held.value)) (trees_are copies ts.items slice e f)
      ∙ ap (binding names (all_renumbered place (trees_of (map plain ts.items)))) inner ∙ sym (ap (renumbered place) (ap plain is ∙ plain_let names ts body))
