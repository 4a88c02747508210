-- What is printed for a model that a text spells is lexed and spelled again, as the same model but for places.
use Rattle.std.proofs.Common.{◌≡◌, ℕ, suc, ◌+◌, Bool, true, false, cond, nat_le, Option, Some, None, Result, Ok, Err, IfOk, List, [], ◌∷◌, ◌++◌, map, refl, sym, ap, ◌∙◌, subst}
use Rattle.std.proofs.lemmas.List.{map-append}
use Rattle.std.specs.List.{flat_map}
use Rattle.text_core.specs.declared.place.Place.{Place}
use Rattle.smv_text.specs.declared.token.Token.{Token}
use Rattle.smv_text.specs.declared.token.TokenKind.{TokenKind}
use Rattle.text_core.specs.Places.{start, after}
use Rattle.smv_text.specs.Lexing.{kinds, Lexes}
use Rattle.smv_text.specs.Tree.{Tree, truth, number, literal, name, prefix, chain, choice, cases, select, call, next, set, range, Links, no_links, link, Branches, no_branches, branch, Trees, no_trees, tree, PlainDomain, boolean, members, between, bits, instance, PlainItem, PlainDefinition, PlainAssignment, PlainElement, vars, defines, constants, assigns, init, trans, invar, spec, PlainModule, PlainSource}
use Rattle.smv_text.specs.Heights.{height, link_heights, branch_heights, heights, chain_height, branches_height, highest, most_height, place_of, first_high, list_of, of_domain, of_items, of_definitions, of_assignments, of_element, of_modules}
use Rattle.smv_text.specs.Sources.{SpellsSource}
use Rattle.smv_print.specs.Printing.{printed, source_kinds}
use Rattle.smv_print.specs.Unplaced.{unplaced, unplaced_links, unplaced_branches, unplaced_trees, unplaced_domain, unplaced_item, unplaced_definition, unplaced_assignment, unplaced_element, unplaced_module, unplaced_source, IsReadAgain, ReadsBack}
use Rattle.smv_lex.specs.Spelling.{joined}
use Rattle.smv_lex.specs.Printable.{ArePrintable, CanAllBePrinted}
use Rattle.smv_print.proofs.NestingSources.{source_prints}
use Rattle.smv_print.proofs.SourceAgain.{source_again}

-- places don't count for heights
mutual
  same_height : (t : Tree) → height (unplaced t) ≡ height t
  same_height (truth p b) = refl
  same_height (number p n) = refl
  same_height (literal p w) = refl
  same_height (name p path) = refl
  same_height (prefix p sign n t) = ap (λ h. n + h) (same_height t)
  same_height (chain p t ls) = ap (λ h. chain_height h (link_heights (unplaced_links ls))) (same_height t) ∙ ap (chain_height (height t)) (same_links ls)
  same_height (choice p bs t) = ap (λ h. branches_height (branch_heights (unplaced_branches bs)) h) (same_height t) ∙ ap (λ hs. branches_height hs (height t)) (same_branches bs)
  same_height (cases p bs) = ap (λ hs. branches_height hs 0) (same_branches bs)
  same_height (select p t high low) = ap suc (same_height t)
  same_height (call p f ts) = ap (λ hs. suc (highest hs)) (same_heights ts)
  same_height (next p t) = ap suc (same_height t)
  same_height (set p ts) = ap (λ hs. suc (highest hs)) (same_heights ts)
  same_height (range p low high) = refl

  same_links : (ls : Links) → link_heights (unplaced_links ls) ≡ link_heights ls
  same_links no_links = refl
  same_links (link op t ls) = ap (λ h. (op, h) ∷ link_heights (unplaced_links ls)) (same_height t) ∙ ap (λ hs. (op, height t) ∷ hs) (same_links ls)

  same_branches : (bs : Branches) → branch_heights (unplaced_branches bs) ≡ branch_heights bs
  same_branches no_branches = refl
  same_branches (branch w v bs) =
      ap (λ h. (h, height (unplaced v)) ∷ branch_heights (unplaced_branches bs)) (same_height w) ∙ ap (λ h. (height w, h) ∷ branch_heights (unplaced_branches bs)) (same_height v)
      ∙ ap (λ hs. (height w, height v) ∷ hs) (same_branches bs)

  same_heights : (ts : Trees) → heights (unplaced_trees ts) ≡ heights ts
  same_heights no_trees = refl
  same_heights (tree t ts) = ap (λ h. h ∷ heights (unplaced_trees ts)) (same_height t) ∙ ap (λ hs. height t ∷ hs) (same_heights ts)

-- the expressions of a model without places
listed : (ts : Trees) → list_of (unplaced_trees ts) ≡ map unplaced (list_of ts)
listed no_trees = refl
listed (tree t ts) = ap (λ us. unplaced t ∷ us) (listed ts)

in_domain : (d : PlainDomain) → of_domain (unplaced_domain d) ≡ map unplaced (of_domain d)
in_domain boolean = refl
in_domain (members ms) = refl
in_domain (between low high) = refl
in_domain (bits n) = refl
in_domain (instance m ts) = listed ts

in_items : (is : List PlainItem) → of_items (map unplaced_item is) ≡ map unplaced (of_items is)
in_items [] = refl
in_items (i ∷ is) =
    ap (λ us. us ++ of_items (map unplaced_item is)) (in_domain i.domain) ∙ ap (λ us. map unplaced (of_domain i.domain) ++ us) (in_items is)
    ∙ sym (map-append unplaced (of_domain i.domain) (of_items is))

in_definitions : (ds : List PlainDefinition) → of_definitions (map unplaced_definition ds) ≡ map unplaced (of_definitions ds)
in_definitions [] = refl
in_definitions (d ∷ ds) = ap (λ us. unplaced d.body ∷ us) (in_definitions ds)

in_assignments : (rest : List PlainAssignment) → of_assignments (map unplaced_assignment rest) ≡ map unplaced (of_assignments rest)
in_assignments [] = refl
in_assignments (a ∷ rest) = ap (λ us. unplaced a.body ∷ us) (in_assignments rest)

in_element : (e : PlainElement) → of_element (unplaced_element e) ≡ map unplaced (of_element e)
in_element (vars k is) = in_items is
in_element (defines ds) = in_definitions ds
in_element (constants ns) = refl
in_element (assigns rest) = in_assignments rest
in_element (init t) = refl
in_element (trans t) = refl
in_element (invar t) = refl
in_element (spec o t) = refl

in_elements : (es : List PlainElement) → flat_map of_element (map unplaced_element es) ≡ map unplaced (flat_map of_element es)
in_elements [] = refl
in_elements (e ∷ es) =
    ap (λ us. us ++ flat_map of_element (map unplaced_element es)) (in_element e) ∙ ap (λ us. map unplaced (of_element e) ++ us) (in_elements es) ∙ sym (map-append unplaced (of_element e) (flat_map of_element es))

in_modules : (ms : List PlainModule) → of_modules (map unplaced_module ms) ≡ map unplaced (of_modules ms)
in_modules [] = refl
in_modules (m ∷ ms) =
    ap (λ us. us ++ of_modules (map unplaced_module ms)) (in_elements m.elements) ∙ ap (λ us. map unplaced (flat_map of_element m.elements) ++ us) (in_modules ms)
    ∙ sym (map-append unplaced (flat_map of_element m.elements) (of_modules ms))

-- none is too high where none is without its places
low_by : (b c : Bool) (p q : Place) (o r : Option Place) → b ≡ c → (o ≡ None → r ≡ None) → cond b o (Some p) ≡ None → cond c r (Some q) ≡ None
low_by b true p q o r e h n = h (sym (ap (λ x. cond x o (Some p)) e) ∙ n)
low_by b false p q o r e h n = absurd (some_none p (sym (ap (λ x. cond x o (Some p)) e) ∙ n))
  where
    some_none : (p : Place) → Some p ≡ None → ⊥
    some_none p e = cc

low_placed : (ts : List Tree) → first_high (map unplaced ts) ≡ None → first_high ts ≡ None
low_placed [] n = refl
low_placed (t ∷ ts) n =
    low_by (nat_le (height (unplaced t)) most_height) (nat_le (height t) most_height) (place_of (unplaced t)) (place_of t) (first_high (map unplaced ts)) (first_high ts) (ap (λ h. nat_le h most_height) (same_height t)) (low_placed ts) n

low_unplaced : (ts : List Tree) → first_high ts ≡ None → first_high (map unplaced ts) ≡ None
low_unplaced [] n = refl
low_unplaced (t ∷ ts) n =
    low_by (nat_le (height t) most_height) (nat_le (height (unplaced t)) most_height) (place_of t) (place_of (unplaced t)) (first_high ts) (first_high (map unplaced ts)) (sym (ap (λ h. nat_le h most_height) (same_height t))) (low_unplaced ts) n

low_again : (s t : PlainSource) → unplaced_source s ≡ unplaced_source t → first_high (of_modules t.modules) ≡ None → first_high (of_modules s.modules) ≡ None
low_again s t e n =
    low_placed (of_modules s.modules)
    (ap first_high (sym (in_modules s.modules) ∙ ap (λ u. of_modules u.modules) e ∙ in_modules t.modules) ∙ low_unplaced (of_modules t.modules) n)

pub read_again : (again : (ks : List TokenKind) → ArePrintable 0 ks → (ts : List Token) × Lexes (joined ks) ts × (kinds ts ≡ ks)) (printable : (text : List ℕ) (ts : List Token) → Lexes text ts → CanAllBePrinted 0 (kinds ts)) (source : PlainSource) (end : Place) (text : List ℕ) (xs : List Token) → Lexes text xs → SpellsSource source end xs → IsReadAgain source (printed source)
read_again again printable source end text xs l s =
    let c = source_prints source.modules xs s.0 (printable text xs l) in
    let lexed = again (source_kinds source) c in
    let spelled = source_again source end (after start (printed source)) xs lexed.0 s lexed.2 in
    record {
      tokens = lexed.0;
      lexed = lexed.1;
      spells = spelled;
      low = low_again spelled.model source spelled.same;
    }

-- the same of what the printer answers
pub printed_back : {E : Type 0} (source : PlainSource)
    → ((source : PlainSource) (end : Place) (text : List ℕ) (xs : List Token) → Lexes text xs → SpellsSource source end xs → IsReadAgain source (printed source)) → (r : Result (List ℕ) E)
    → IfOk r (λ text. text ≡ printed source) → IfOk r (ReadsBack source)
printed_back source law (Ok text) h = λ end given xs l s. subst (IsReadAgain source) (sym h) (law source end given xs l s)
printed_back source law (Err e) h = tt
