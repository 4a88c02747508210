-- The frames of an accepted witness are frames with every constraint true and the bad line true in the last one.
use Rattle.std.proofs.Common.{◌≡◌, ◌≢◌, ℕ, suc, ◌+◌, Bool, true, false, List, [], ◌∷◌, ◌++◌, length, refl, sym, ap, ◌∙◌, subst, arith}
use Rattle.std.specs.Prelude.{flat_map}
use Rattle.std.specs.List.{AllByRecursion}
use Rattle.std.proofs.lemmas.List.{length-map}
use Rattle.word_core.specs.Words.{BitVector}
use Rattle.btor_tree.specs.declared.lines.Line.{Line}
use Rattle.btor_tree.specs.declared.lines.LineOp.TheVariants as line
use Rattle.btor_tree.specs.Fits.{IsWellFormed, is_bad}
use Rattle.btor_tree.specs.Frame.{ConstraintsHold, Follow, IsBad, IsPath}
use Rattle.btor_frames.specs.Judged.{AreStatedAfter, PassAfter, Statement}
use Rattle.btor_frames.proofs.Stating.{one_stated}
use Rattle.btor_witness.specs.Judging.{statement_of, statements_of}
use Rattle.btor_witness.specs.laws.Verdicts.{yes_where_accepted}
use Rattle.moxi_scripts.specs.declared.script.Query.{Query}
use Rattle.moxi_flat.specs.FlatSystem.{PlainFlatSystem, PlainPart}
use Rattle.moxi_lines.specs.Lines.{symbol_of}
use Rattle.moxi_layout.specs.Skeleton.{Entry, constraint_if, entry, formula_entries, has_gap, latch_entries, latch_names, part_entries, query_entries, skeleton_of, variable_entries}
use Rattle.moxi_layout.specs.LayoutLaws.{AreBadFrames, AtLast}
use Rattle.moxi_layout.specs.Witnesses.{AcceptedFramesAreTraces, WitnessesNameQueries}
use Rattle.moxi_layout.proofs.Both.{frames_are_traces_law}
use Rattle.moxi_layout.proofs.Entries.{entries_long, flat_none, none, of_append, of_flat, of_kind, singles_long}
use Rattle.moxi_layout.proofs.Sizes.{bad_ordered}

module _ (lines : List Line) where
  pub rows_long : (begun : Bool) (before : List BitVector) (stated : List Statement) (rows : List (List BitVector)) → AreStatedAfter lines begun before stated rows → length rows ≡ length stated
  rows_long begun before [] [] a = refl
  rows_long begun before [] (row ∷ rows) a = absurd a
  rows_long begun before (s ∷ more) [] a = absurd a
  rows_long begun before (s ∷ more) (row ∷ rows) a = ap suc (rows_long true row more rows a.1)

  pub rows_follow : (before : List BitVector) (stated : List Statement) (rows : List (List BitVector)) → AreStatedAfter lines true before stated rows → Follow lines before rows
  rows_follow before [] [] a = tt
  rows_follow before [] (row ∷ rows) a = absurd a
  rows_follow before (s ∷ more) [] a = absurd a
  rows_follow before (s ∷ more) (row ∷ rows) a = (a.0.frame, a.0.values, rows_follow row more rows a.1)

  rows_path : (s : Statement) (more : List Statement) (rows : List (List BitVector)) → AreStatedAfter lines false [] (s ∷ more) rows → IsPath lines rows
  rows_path s more [] a = absurd a
  rows_path s more (row ∷ rows) a = (a.0.frame, a.0.values, rows_follow row more rows a.1)

  -- statements mean one list of frames at most
  rows_only : IsWellFormed lines → (begun : Bool) (before : List BitVector) (stated : List Statement) (rows others : List (List BitVector)) → AreStatedAfter lines begun before stated rows → AreStatedAfter lines begun before stated others → rows ≡ others
  rows_only w begun before [] [] [] a b = refl
  rows_only w begun before [] [] (row ∷ rows) a b = absurd b
  rows_only w begun before [] (row ∷ rows) others a b = absurd a
  rows_only w begun before (s ∷ more) [] others a b = absurd a
  rows_only w begun before (s ∷ more) (row ∷ rows) [] a b = absurd b
  rows_only w begun before (s ∷ more) (row ∷ rows) (other ∷ others) a b =
      let e = one_stated lines begun before row other s w a.0 b.0 in
      ap (λ r. r ∷ rows) e ∙ ap (λ rs. other ∷ rs) (rows_only w true other more rows others (subst (λ r. AreStatedAfter lines true r more rows) e a.1) b.1)

  rows_pass : (j : ℕ) (begun : Bool) (before : List BitVector) (stated : List Statement) (rows : List (List BitVector)) → AreStatedAfter lines begun before stated rows → PassAfter lines j begun stated rows
      → AllByRecursion (ConstraintsHold lines) rows × AtLast (λ row. IsBad lines row j) rows
  rows_pass j begun before [] rows a p = absurd p
  rows_pass j begun before (s ∷ more) [] a p = absurd a
  rows_pass j begun before (s ∷ []) (row ∷ []) a p = ((p.1, tt), p.2)
  rows_pass j begun before (s ∷ []) (row ∷ next ∷ rows) a p = absurd a.1
  rows_pass j begun before (s ∷ t ∷ more) (row ∷ []) a p = absurd a.1
  rows_pass j begun before (s ∷ t ∷ more) (row ∷ next ∷ rows) a p =
      let r = rows_pass j true row (t ∷ more) (next ∷ rows) a.1 p.2 in ((p.1, r.0), r.1)

  bad_rows : (j k : ℕ) (stated : List Statement) → length stated ≡ k + 1 → (rows : List (List BitVector)) → AreStatedAfter lines false [] stated rows → PassAfter lines j false stated rows → AreBadFrames lines j k rows
  bad_rows j k [] e rows a p = absurd (omega (arith, e))
  bad_rows j k (s ∷ more) e rows a p =
      let r = rows_pass j false [] (s ∷ more) rows a p in
      record { sized = rows_long false [] (s ∷ more) rows a ∙ e; frames = (rows_path s more rows a, r.0); bad = r.1 }

some_frames : {X : Type 0} (xs : List X) (k : ℕ) → length xs ≡ k + 1 → xs ≢ []
some_frames xs k e = λ h. absurd (omega (arith, e, ap length h))

pub accepted_frames_are_traces_law : AcceptedFramesAreTraces
accepted_frames_are_traces_law f lines laid w judged q h k e rows stated =
    let a = (yes_where_accepted lines w (some_frames w.frames k e)).0 judged in
    let same : a.0 ≡ rows = rows_only lines laid.well_formed false [] (statements_of w) a.0 rows a.1 stated in
    let passes = subst (PassAfter lines w.bad false (statements_of w)) same a.2 in
    frames_are_traces_law f lines laid w.bad k q h rows (bad_rows lines w.bad k (statements_of w) (length-map w.frames statement_of ∙ e) rows stated passes)

-- ---- the bad lines of a system

no_bad : (b : Bool) → of_kind is_bad (constraint_if b) ≡ []
no_bad true = refl
no_bad false = refl

part_bads : (p : PlainPart) → of_kind is_bad (part_entries p) ≡ []
part_bads p =
    let a = formula_entries p.init in
    let b = formula_entries p.trans in
    let c = formula_entries p.inv in
    of_append is_bad a (b ++ c) ∙ ap (λ z. z ++ of_kind is_bad (b ++ c)) (no_bad _)
    ∙ of_append is_bad b c ∙ ap (λ z. z ++ of_kind is_bad c) (no_bad _) ∙ no_bad _

abbrev bad_entry : Query → Entry
bad_entry q = entry line.Bad 0 (symbol_of q.name)

query_bads : (f : PlainFlatSystem) (q : Query) → of_kind is_bad (query_entries f q) ≡ bad_entry q ∷ []
query_bads f q =
    let names = latch_names f q in
    of_append is_bad (flat_map latch_entries names) (bad_entry q ∷ [])
    ∙ ap (λ z. z ++ bad_entry q ∷ []) (of_flat is_bad latch_entries none names (λ x. refl) ∙ flat_none names)

bads_are : (f : PlainFlatSystem) → of_kind is_bad (skeleton_of f) ≡ flat_map (λ q. bad_entry q ∷ []) f.queries
bads_are f =
    let es = f.scope.enumerations in
    let a = flat_map (variable_entries es) f.variables in
    let b = flat_map part_entries f.parts in
    let c = flat_map (query_entries f) f.queries in
    let one : Query → List Entry = λ q. bad_entry q ∷ [] in
    of_append is_bad a (b ++ c)
    ∙ ap (λ z. z ++ of_kind is_bad (b ++ c)) (of_flat is_bad (variable_entries es) none f.variables (λ v. no_bad (has_gap es v.sort)) ∙ flat_none f.variables)
    ∙ of_append is_bad b c
    ∙ ap (λ z. z ++ of_kind is_bad c) (of_flat is_bad part_entries none f.parts part_bads ∙ flat_none f.parts)
    ∙ of_flat is_bad (query_entries f) one f.queries (query_bads f)

pub witnesses_name_queries_law : WitnessesNameQueries
witnesses_name_queries_law f lines laid =
    sym (entries_long is_bad bad_ordered lines lines) ∙ ap (λ z. length (of_kind is_bad z)) laid.lays.order ∙ ap length (bads_are f) ∙ singles_long bad_entry f.queries
