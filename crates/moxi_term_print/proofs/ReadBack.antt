-- What is shown on lines is read again as forms that show it.
use Rattle.std.proofs.Common.{◌≡◌, ◌≤◌, ℕ, suc, max, false, not, ◌&&◌, List, [], ◌∷◌, refl, sym, ap, ◌∙◌, subst, append-nil}
use Rattle.moxi_sexpr.specs.declared.form.Atom.{Atom}
use Rattle.moxi_sexpr.specs.declared.form.Atom.TheVariants as kinds
use Rattle.moxi_sexpr.specs.declared.scan.Spelling.TheVariants as how
use Rattle.text_core.specs.Places.{start}
use Rattle.moxi_sexpr.specs.Atoms.{is_simple, atom_of}
use Rattle.moxi_sexpr.specs.Tree.{Tree, atom, list, Trees, no_trees, tree, depth, depths, unplaced, all_unplaced}
use Rattle.moxi_sexpr.specs.Lexing.{limit}
use Rattle.moxi_sexpr.specs.Writing.{Writes, word as written, brackets, WritesParts, no_parts, parts, WritesOthers, no_others, others, WritesLines, no_lines, lines}
use Rattle.moxi_sexpr.specs.Printing.{reserved_words, is_among, spelling_of, name_of, printed_atom, ReadsBack}
use Rattle.moxi_term_print.specs.Shown.{Shown, word, part, group, Showns, no_showns, shown, text_of, parts_text, lines_text, shown_depth, shown_depths, CanBeShown, AllCanBeShown, Shows, ShowEach, SpellsShown}
use Rattle.moxi_sexpr.proofs.Again.{symbol_again}

-- forms that are shown so
abbrev mutual
  form_of : Shown → Tree
  form_of (word w) = atom start (kinds.Symbol w false)
  form_of (part a) = atom start a
  form_of (group xs) = list start (forms_of xs)

  forms_of : Showns → Trees
  forms_of no_showns = no_trees
  forms_of (shown x xs) = tree (form_of x) (forms_of xs)

mutual
  same_depth : (x : Shown) → depth (form_of x) ≡ shown_depth x
  same_depth (word w) = refl
  same_depth (part a) = refl
  same_depth (group xs) = ap suc (same_depths xs)

  same_depths : (xs : Showns) → depths (forms_of xs) ≡ shown_depths xs
  same_depths no_showns = refl
  same_depths (shown x xs) = ap (λ n. max n (depths (forms_of xs))) (same_depth x) ∙ ap (max (shown_depth x)) (same_depths xs)

atom_again : (a : Atom) → atom_of (spelling_of a) (name_of a) ≡ a
atom_again (kinds.Symbol name primed) = symbol_again name primed (is_simple name && not (is_among name reserved_words))
atom_again (kinds.Keyword name) = refl
atom_again (kinds.Numeral name) = refl
atom_again (kinds.Binary name) = refl
atom_again (kinds.Hex name) = refl
atom_again (kinds.Quote name) = refl

mutual
  shown_writes : (x : Shown) → CanBeShown x → Writes (form_of x) (text_of x)
  shown_writes (word w) h = subst (Writes (atom start (kinds.Symbol w false))) (append-nil w) (written start (how.Bare false) w h)
  shown_writes (part a) h = let P : Atom → Type 0 = λ x. Writes (atom start x) (printed_atom a) in subst P (atom_again a) (written start (spelling_of a) (name_of a) h)
  shown_writes (group xs) h = brackets start (parts_write xs h)

  parts_write : (xs : Showns) → AllCanBeShown xs → WritesParts (forms_of xs) (parts_text [] xs)
  parts_write no_showns h = no_parts
  parts_write (shown x xs) h = parts (shown_writes x h.0) (others_write xs h.1)

  others_write : (xs : Showns) → AllCanBeShown xs → WritesOthers (forms_of xs) (parts_text (32 ∷ []) xs)
  others_write no_showns h = no_others
  others_write (shown x xs) h = others (shown_writes x h.0) (others_write xs h.1)

lines_write : (xs : Showns) → AllCanBeShown xs → WritesLines (forms_of xs) (lines_text xs)
lines_write no_showns h = no_lines
lines_write (shown x xs) h = lines (shown_writes x h.0) (lines_write xs h.1)

-- forms that are the same but for places are shown the same
mutual
  same_shown : (t : Tree) (x : Shown) → unplaced t ≡ unplaced (form_of x) → Shows t x
  same_shown (atom p a) (word w) e = cc
  same_shown (atom p a) (part b) e = cc
  same_shown (atom p a) (group xs) e = absurd (let f : atom start a ≡ list start (all_unplaced (forms_of xs)) = e in cc)
  same_shown (list p ts) (word w) e = absurd (let f : list start (all_unplaced ts) ≡ atom start (kinds.Symbol w false) = e in cc)
  same_shown (list p ts) (part b) e = absurd (let f : list start (all_unplaced ts) ≡ atom start b = e in cc)
  same_shown (list p ts) (group xs) e = same_shown_each ts xs (let f : list start (all_unplaced ts) ≡ list start (all_unplaced (forms_of xs)) = e in cc)

  same_shown_each : (ts : Trees) (xs : Showns) → all_unplaced ts ≡ all_unplaced (forms_of xs) → ShowEach ts xs
  same_shown_each no_trees no_showns e = tt
  same_shown_each no_trees (shown x xs) e = absurd (let f : no_trees ≡ tree (unplaced (form_of x)) (all_unplaced (forms_of xs)) = e in cc)
  same_shown_each (tree t ts) no_showns e = absurd (let f : tree (unplaced t) (all_unplaced ts) ≡ no_trees = e in cc)
  same_shown_each (tree t ts) (shown x xs) e =
      let f : tree (unplaced t) (all_unplaced ts) ≡ tree (unplaced (form_of x)) (all_unplaced (forms_of xs)) = e in (
        same_shown t x cc,
        same_shown_each ts xs cc,
      )

-- given that texts which write forms so read back to them
pub read_back : ((text : List ℕ) (ts : Trees) → WritesLines ts text → depths ts ≤ limit → ReadsBack text ts) → (xs : Showns) → AllCanBeShown xs → shown_depths xs ≤ limit → SpellsShown (lines_text xs) xs
read_back law xs can room =
    let r = law (lines_text xs) (forms_of xs) (lines_write xs can) (subst (λ n. n ≤ limit) (sym (same_depths xs)) room) in
    record { forms = r.forms; spelled = r.spelled; shown = same_shown_each r.forms xs r.same }
