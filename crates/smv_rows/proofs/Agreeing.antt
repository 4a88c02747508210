-- Rows that agree on the items that an expression reads give it one denotation.
use Rattle.std.proofs.Common.{◌≡◌, ℕ, Bool, true, false, ◌&&◌, ◌||◌, if◌then◌else◌, List, ◌∷◌, refl, ap, ◌∙◌}
use Rattle.smv_meaning.specs.declared.value.Value.{Value}
use Rattle.smv_meaning.specs.Values.{is_true}
use Rattle.smv_meaning.specs.Operators.{implied, signed, selected, called}
use Rattle.smv_meaning.specs.Expressions.{Denotation, alone, set_of, joined}
use Rattle.smv_meaning.specs.laws.Booleans.{both_true}
use Rattle.smv_flat.specs.FlatTree.{FlatTree, flat_truth, flat_number, flat_literal, flat_symbol, flat_item, flat_prefix, flat_chain, flat_choice, flat_cases, flat_select, flat_call, flat_set, flat_range, FlatLinks, no_flat_links, flat_link, FlatBranches, no_flat_branches, flat_branch, FlatTrees, no_flat_trees, flat_tree_then, flat_from_right, flat_is_last, flat_denote, flat_implications, flat_linked, flat_chosen, flat_taken, flat_values, flat_permits}
use Rattle.smv_flat_laws.specs.FlatOrders.{all_read, links_read, branches_read, trees_read}

pick : {X : Type 0} (b : Bool) (x y z w : X) → x ≡ z → y ≡ w → (if b then x else y) ≡ (if b then z else w)
pick true x y z w h k = h
pick false x y z w h k = k

choose : {X : Type 0} (a b : Bool) (x y z w : X) → a ≡ b → x ≡ z → y ≡ w → (if a then x else y) ≡ (if b then z else w)
choose a b x y z w e h k = ap (λ c. if c then x else y) e ∙ pick b x y z w h k

-- the rows agree on all that passes the test
abbrev pub Agree : (ℕ → Bool) → (ℕ → Value) → (ℕ → Value) → Type 0
Agree test r q = (m : ℕ) → test m ≡ true → r m ≡ q m

mutual
  pub denote_same : (test : ℕ → Bool) (s r q : ℕ → Value) → Agree test r q → (e : FlatTree) → all_read test e ≡ true → flat_denote s r r e ≡ flat_denote s q q e
  denote_same test s r q h (flat_truth t b) a = refl
  denote_same test s r q h (flat_number t n) a = refl
  denote_same test s r q h (flat_literal t w) a = refl
  denote_same test s r q h (flat_symbol t k) a = refl
  denote_same test s r q h (flat_item t k true) a = ap alone (h k a)
  denote_same test s r q h (flat_item t k false) a = ap alone (h k a)
  denote_same test s r q h (flat_prefix t sign n e) a = ap (λ (d : Denotation). alone (signed sign n d.value)) (denote_same test s r q h e a)
  denote_same test s r q h (flat_chain t e ls) a =
      let b = both_true (all_read test e) (links_read test ls) a in
      let d = denote_same test s r q h e b.0 in
      pick (flat_from_right ls) _ _ _ _
      (ap alone (ap (λ (c : Denotation). flat_implications s r r c.value ls) d ∙ implications_same test s r q h (flat_denote s q q e).value ls b.1))
      (ap (λ (c : Denotation). flat_linked s r r c ls) d ∙ linked_same test s r q h (flat_denote s q q e) ls b.1)
  denote_same test s r q h (flat_choice t bs e) a =
      let b = both_true (branches_read test bs) (all_read test e) a in
      ap (λ (c : Denotation). flat_chosen s r r bs c) (denote_same test s r q h e b.1) ∙ chosen_same test s r q h bs (flat_denote s q q e) b.0
  denote_same test s r q h (flat_cases t bs) a = taken_same test s r q h bs a
  denote_same test s r q h (flat_select t e high low) a = ap (λ (d : Denotation). alone (selected high low d.value)) (denote_same test s r q h e a)
  denote_same test s r q h (flat_call t f es) a = ap (λ (vs : List Value). alone (called f vs)) (values_same test s r q h es a)
  denote_same test s r q h (flat_set t es) a = ap set_of (permits_same test s r q h es a)
  denote_same test s r q h (flat_range t low high) a = refl

  implications_same : (test : ℕ → Bool) (s r q : ℕ → Value) → Agree test r q → (v : Value) (ls : FlatLinks) → links_read test ls ≡ true → flat_implications s r r v ls ≡ flat_implications s q q v ls
  implications_same test s r q h v no_flat_links a = refl
  implications_same test s r q h v (flat_link op e ls) a =
      let b = both_true (all_read test e) (links_read test ls) a in
      ap (implied v)
      (ap (λ (d : Denotation). flat_implications s r r d.value ls) (denote_same test s r q h e b.0) ∙ implications_same test s r q h (flat_denote s q q e).value ls b.1)

  linked_same : (test : ℕ → Bool) (s r q : ℕ → Value) → Agree test r q → (d : Denotation) (ls : FlatLinks) → links_read test ls ≡ true → flat_linked s r r d ls ≡ flat_linked s q q d ls
  linked_same test s r q h d no_flat_links a = refl
  linked_same test s r q h d (flat_link op e ls) a =
      let b = both_true (all_read test e) (links_read test ls) a in
      ap (λ (c : Denotation). flat_linked s r r (joined op d c) ls) (denote_same test s r q h e b.0) ∙ linked_same test s r q h (joined op d (flat_denote s q q e)) ls b.1

  chosen_same : (test : ℕ → Bool) (s r q : ℕ → Value) → Agree test r q → (bs : FlatBranches) (d : Denotation) → branches_read test bs ≡ true → flat_chosen s r r bs d ≡ flat_chosen s q q bs d
  chosen_same test s r q h no_flat_branches d a = refl
  chosen_same test s r q h (flat_branch c e rest) d a =
      let b = both_true (all_read test c) (all_read test e && branches_read test rest) a in
      let g = both_true (all_read test e) (branches_read test rest) b.1 in
      choose _ _ _ _ _ _ (ap (λ (x : Denotation). is_true x.value) (denote_same test s r q h c b.0)) (denote_same test s r q h e g.0) (chosen_same test s r q h rest d g.1)

  taken_same : (test : ℕ → Bool) (s r q : ℕ → Value) → Agree test r q → (bs : FlatBranches) → branches_read test bs ≡ true → flat_taken s r r bs ≡ flat_taken s q q bs
  taken_same test s r q h no_flat_branches a = refl
  taken_same test s r q h (flat_branch c e rest) a =
      let b = both_true (all_read test c) (all_read test e && branches_read test rest) a in
      let g = both_true (all_read test e) (branches_read test rest) b.1 in
      choose _ _ _ _ _ _ (ap (λ (x : Denotation). is_true x.value || flat_is_last rest) (denote_same test s r q h c b.0)) (denote_same test s r q h e g.0) (taken_same test s r q h rest g.1)

  pub values_same : (test : ℕ → Bool) (s r q : ℕ → Value) → Agree test r q → (es : FlatTrees) → trees_read test es ≡ true → flat_values s r r es ≡ flat_values s q q es
  values_same test s r q h no_flat_trees a = refl
  values_same test s r q h (flat_tree_then e es) a =
      let b = both_true (all_read test e) (trees_read test es) a in
      ap (λ (d : Denotation). d.value ∷ flat_values s r r es) (denote_same test s r q h e b.0) ∙ ap (λ (vs : List Value). (flat_denote s q q e).value ∷ vs) (values_same test s r q h es b.1)

  permits_same : (test : ℕ → Bool) (s r q : ℕ → Value) → Agree test r q → (es : FlatTrees) → trees_read test es ≡ true → flat_permits s r r es ≡ flat_permits s q q es
  permits_same test s r q h no_flat_trees a = refl
  permits_same test s r q h (flat_tree_then e es) a =
      let b = both_true (all_read test e) (trees_read test es) a in
      ap {B = Value → Bool} (λ d v. d.permits v || flat_permits s r r es v) (denote_same test s r q h e b.0)
      ∙ ap {B = Value → Bool} (λ o v. (flat_denote s q q e).permits v || o v) (permits_same test s r q h es b.1)
