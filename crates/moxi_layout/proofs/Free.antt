-- The words that are supplied for the values of a step, and a path that reads them.
use Rattle.std.proofs.Common.{◌≡◌, ℕ, suc, ◌+◌, ◌<◌, ◌≤◌, cond, List, length, take, Some, refl, sym, ap, ◌∙◌, subst, arith}
use Rattle.std.specs.Prelude.{slice_get}
use Rattle.std.proofs.Math.Nat.{one-le-pow}
use Rattle.word_core.specs.Words.{BitVector, IsWord}
use Rattle.btor_tree.specs.declared.lines.Line.{Line}
use Rattle.btor_tree.specs.declared.lines.LineOp.{LineOp}
use Rattle.btor_tree.specs.declared.lines.LineOp.TheVariants as line
use Rattle.btor_tree.specs.Fits.{count_of, has_word, is_input, kind_at, sort_at, width_at}
use Rattle.btor_tree.specs.Frame.{FreeFits, GivenFits, IsPath}
use Rattle.btor_tree.proofs.AtPlaces.{is_kind}
use Rattle.btor_tree.proofs.Paths.{Reads, path, width_is}
use Rattle.btor_tree.proofs.Widths.{width_small}
use Rattle.moxi_terms.specs.Tree.{sorts_of}
use Rattle.moxi_terms.specs.Value.{Values}
use Rattle.moxi_scripts.specs.Behaviour.{Suits, Trace}
use Rattle.moxi_flat.specs.FlatSystem.{PlainFlatSystem}
use Rattle.moxi_lines.specs.Codes.{code_of}
use Rattle.moxi_lines.proofs.CodeLaws.{code_is_word}
use Rattle.moxi_layout.specs.Layout.{input_at}
use Rattle.moxi_layout.specs.LayoutLaws.{IsLaidOut}
use Rattle.moxi_layout.proofs.Entries.{input_line, input_there}
use Rattle.moxi_layout.proofs.Rows.{all_steps_from, from_step, row_at, zip_get, zip_long}
use Rattle.moxi_layout.proofs.Values.{ReadsValues}

-- an input has the word of its variable's value, and a state without a value is zero
abbrev free_word : PlainFlatSystem → List Line → Values → ℕ → BitVector
free_word f lines values i =
    cond (kind_at is_input lines i) (code_of f.scope.enumerations (values (count_of is_input (take i lines)))) (record { width = width_at lines i; bits = 0 })

module _ (f : PlainFlatSystem) (lines : List Line) (laid : IsLaidOut f lines) where
  input_word_is : (values : Values) (i : ℕ) (l : Line) → slice_get lines i ≡ Some l → l.op ≡ line.Input → free_word f lines values i ≡ code_of f.scope.enumerations (values (count_of is_input (take i lines)))
  input_word_is values i l g e =
      ap (λ b. cond b (code_of f.scope.enumerations (values (count_of is_input (take i lines)))) (record { width = width_at lines i; bits = 0 })) (ap (is_kind is_input) g ∙ ap is_input e)

  state_word_is : (values : Values) (i : ℕ) (l : Line) → slice_get lines i ≡ Some l → l.op ≡ line.State → free_word f lines values i ≡ record { width = width_at lines i; bits = 0 }
  state_word_is values i l g e =
      ap (λ b. cond b (code_of f.scope.enumerations (values (count_of is_input (take i lines)))) (record { width = width_at lines i; bits = 0 })) (ap (is_kind is_input) g ∙ ap is_input e)

  given_fits : (values : Values) → Suits f.scope.enumerations (sorts_of f.variables) values → (i : ℕ) (l : Line) → slice_get lines i ≡ Some l → (op : LineOp) → l.op ≡ op → GivenFits (take i lines) l.sort op (free_word f lines values i)
  given_fits values suits i l g line.Input e =
      let es = f.scope.enumerations in
      let x = input_line f lines laid.lays.order i l g e in
      let w = code_is_word es laid.codes x.0 (values (count_of is_input (take i lines))) (suits.each (count_of is_input (take i lines)) x.0 x.1.sorted) in
      let at = width_is lines i l laid.well_formed g (ap has_word e) in
      let is = input_word_is values i l g e in
      subst (λ y. IsWord y × (y.width ≡ sort_at (take i lines) l.sort)) (sym is) (w.0, w.1 ∙ sym x.1.width ∙ at.0)
  given_fits values suits i l g line.State e =
      let at = width_is lines i l laid.well_formed g (ap has_word e) in
      let small = width_small lines i laid.well_formed in
      subst (λ y. IsWord y × (y.width ≡ sort_at (take i lines) l.sort)) (sym (state_word_is values i l g e)) ((at.1, small, one-le-pow (width_at lines i) 2 (omega arith)), at.0)
  given_fits values suits i l g op e = tt

  free_fits : (values : Values) → Suits f.scope.enumerations (sorts_of f.variables) values → FreeFits lines (free_word f lines values)
  free_fits values suits = record { fits = λ i l g. given_fits values suits i l g l.op refl }

  reads_values : (row : List BitVector) (values : Values) → Reads lines row (free_word f lines values) → ReadsValues f lines laid row values
  reads_values row values r =
      record {
        each = λ v s h.
            let x = input_there f lines laid.lays.order v s h in
            r (input_at lines v) x.0 x.1.there x.1.is ∙ input_word_is values (input_at lines v) x.0 x.1.there x.1.is ∙ ap (λ n. code_of f.scope.enumerations (values n)) x.1.number;
      }

  -- frames that read the values of a trace at steps 0 to k
  pub record ReadsTrace (k : ℕ) (trace : Trace) (rows : List (List BitVector)) : Type 0 where
    pub sized : length rows ≡ k + 1
    pub is_path : IsPath lines rows
    pub reads : (j : ℕ) → j ≤ k → ReadsValues f lines laid (row_at rows j) (trace j)

  pub trace_path : (k : ℕ) (trace : Trace) → ((j : ℕ) → j < k + 1 → Suits f.scope.enumerations (sorts_of f.variables) (trace j)) → (rows : List (List BitVector)) × ReadsTrace k trace rows
  trace_path k trace suits =
      let free : ℕ → ℕ → BitVector = λ j. free_word f lines (trace j) in
      let p = path lines laid.well_formed (free 0) (from_step free 1 k) (all_steps_from (FreeFits lines) free 0 (suc k) (λ j a b. free_fits (trace j) (suits j (omega (arith, b))))) in (
        p.0,
        record {
          sized = zip_long (Reads lines) p.0 free 0 (suc k) p.2 ∙ (let e : suc k ≡ k + 1 = omega arith in e);
          is_path = p.1;
          reads = λ j l.
              let e : 0 + j ≡ j = omega arith in
              reads_values (row_at p.0 j) (trace j) (subst (λ n. Reads lines (row_at p.0 j) (free n)) e (zip_get (Reads lines) p.0 free 0 (suc k) j p.2 (omega (arith, l))));
        },
      )
