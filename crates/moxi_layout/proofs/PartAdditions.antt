-- What the lines of parts add to the order of lines, and the words of their constraints.
use Rattle.std.proofs.Common.{◌≡◌, ℕ, ◌+◌, ◌<◌, ◌≤◌, Bool, true, false, not, ◌||◌, cond, eqb, List, [], ◌∷◌, ◌++◌, length, map, refl, sym, ap, ◌∙◌, subst, arith, append_assoc}
use Rattle.std.specs.Prelude.{flat_map}
use Rattle.std.specs.List.{AllByRecursion}
use Rattle.std.proofs.lemmas.List.{append-nil, length-append, map-append}
use Rattle.std.proofs.Math.Seq.{take-append_seam}
use Rattle.word_core.specs.Words.{BitVector}
use Rattle.word_core.specs.Table.{bit_of}
use Rattle.word_core.specs.declared.kinds.Binary.TheVariants as two
use Rattle.btor_tree.specs.declared.args.Arg.{Arg}
use Rattle.btor_tree.specs.declared.lines.Line.{Line}
use Rattle.btor_tree.specs.declared.lines.LineOp.TheVariants as line
use Rattle.btor_tree.specs.Fits.{IsWellFormed, greatest_id, last_id, plain_arg}
use Rattle.btor_tree.specs.Frame.{Meets, operand, word_at}
use Rattle.btor_tree.specs.Sharing.{GrowsByShared, next_line}
use Rattle.btor_tree.proofs.Grows.{last_push, slice_get_end, well_formed_front}
use Rattle.moxi_terms.specs.declared.data.Sort.TheVariants.{Truth}
use Rattle.moxi_terms.specs.Sorted.{AreFunctions}
use Rattle.moxi_terms.specs.Tree.{Tree, sorts_of}
use Rattle.moxi_terms.specs.Value.{Values}
use Rattle.moxi_terms.proofs.ValueLaws.{all_suit, value_sorted}
use Rattle.moxi_flat.specs.FlatSorts.{IsFlatTruth, PartIsSorted}
use Rattle.moxi_flat.specs.FlatSystem.{PlainFlatSystem, PlainPart}
use Rattle.moxi_lines.specs.TermLines.{Built, with_binary}
use Rattle.moxi_lines.specs.TermLaws.{AreNumbered, HaveCodes, VariablesAreRepresented}
use Rattle.moxi_lines.proofs.Chains.{binary_grows}
use Rattle.moxi_lines.proofs.Growing.{grown_then}
use Rattle.moxi_lines.proofs.Terms.{calls_grow, term_grows, whole_made}
use Rattle.moxi_lines.proofs.Words.{bit, code_truth, implies_bit, or_bit}
use Rattle.moxi_lines.specs.Lines.{first_place, input_place, is_true_term, state_place, with_constraint, with_formula, with_init, with_part, with_parts, with_step, with_trans}
use Rattle.moxi_lines.specs.Constraints.{is_true}
use Rattle.moxi_lines.proofs.Extending.{Extends, extends_long, extends_meets, extends_then, extends_variables, quietly}
use Rattle.moxi_layout.specs.Layout.{formula_values, part_values, truth_word}
use Rattle.moxi_layout.specs.Skeleton.{Entry, constraint_if, part_entries}
use Rattle.moxi_layout.proofs.Additions.{Added, Adds, adds_line, adds_none, adds_quietly, adds_then}
use Rattle.moxi_layout.proofs.Bits.{BitAt, gate, some_bit}
use Rattle.moxi_layout.proofs.LatchLines.{one_more}
use Rattle.moxi_layout.proofs.Conditions.{Stands, first_at, formula_grows, formula_made, stands_later, stands_quietly}

-- ---- the first ones of numbered lines are numbered

ids_grow : (a more : List Line) → IsWellFormed (a ++ more) → last_id a + length more ≤ last_id (a ++ more)
ids_grow a [] w = omega (arith, ap last_id (append-nil a))
ids_grow a (l ∷ more) w =
    let e : a ++ l ∷ more ≡ (a ++ l ∷ []) ++ more = sym (append_assoc a (l ∷ []) more) in
    let w2 : IsWellFormed ((a ++ l ∷ []) ++ more) = subst IsWellFormed e w in
    let r = ids_grow (a ++ l ∷ []) more w2 in
    let fits = (well_formed_front (a ++ l ∷ []) more w2).by_line (length a) l (slice_get_end a l) in
    omega (arith, r, fits.rises, last_push a l, ap last_id e, ap last_id (take-append_seam a (l ∷ [])))

pub numbered_front : (a b : List Line) → Extends a b → AreNumbered b → AreNumbered a
numbered_front a b g n =
    let whole : IsWellFormed (a ++ g.more) = subst IsWellFormed g.is n.fit in
    let w : IsWellFormed a = well_formed_front a g.more whole in
    let low = ids_grow [] a w in
    let high = ids_grow a g.more whole in
    record { fit = w; ids = omega (arith, low, high, n.ids, ap last_id g.is, ap length g.is, length-append a g.more) }

-- ---- constraints

abbrev pub of_constraints : List Entry → List Arg → Added
of_constraints es args = record { entries = es; inputs = []; states = []; constraints = args; bads = [] }

-- the argument of a constraint, unless there is none
abbrev pub arg_unless : Bool → Built → List Arg
arg_unless c m = cond c [] (plain_arg m.1 ∷ [])

pub constraint_adds : (lines : List Line) (m : Built) (c : Bool) → GrowsByShared lines m.0 → Adds lines (cond c lines (with_constraint m)) (of_constraints (constraint_if (not c)) (arg_unless c m))
constraint_adds lines m true g = adds_none lines
constraint_adds lines m false g =
    adds_then lines m.0 (with_constraint m) _ _ (adds_quietly lines m.0 g) (adds_line m.0 (next_line m.0 line.Constraint 0 (plain_arg m.1 ∷ []) _) 0 (λ all x. refl))

module _ (f : PlainFlatSystem) (inputs : List ℕ) where
  abbrev init_g : List Line → Tree → Built
  init_g lines t = let m = with_formula f.scope inputs lines t in with_binary two.Implies m.0 first_place m.1

  abbrev step_m : List Line → Tree → Built
  step_m lines t = with_step f.scope inputs lines t

  abbrev trans_g : List Line → Tree → Built
  trans_g lines t = let m = step_m lines t in with_binary two.Or m.0 first_place m.1

  init_grows : (lines : List Line) (t : Tree) → GrowsByShared lines (init_g lines t).0
  init_grows lines t = let m = with_formula f.scope inputs lines t in grown_then lines m.0 (init_g lines t).0 (formula_grows f inputs lines t) (binary_grows two.Implies m.0 first_place m.1)

  step_grows : (lines : List Line) (t : Tree) → GrowsByShared lines (step_m lines t).0
  step_grows lines t = term_grows _ _ (calls_grow _ f.scope.functions (length f.scope.functions)) (state_place inputs) (input_place inputs) [] lines t

  trans_grows : (lines : List Line) (t : Tree) → GrowsByShared lines (trans_g lines t).0
  trans_grows lines t = let m = step_m lines t in grown_then lines m.0 (trans_g lines t).0 (step_grows lines t) (binary_grows two.Or m.0 first_place m.1)

  abbrev part_args : List Line → PlainPart → List Arg
  part_args lines p =
      let a = with_init f.scope inputs lines p.init in
      let b = with_trans f.scope inputs a p.trans in
      arg_unless (is_true_term p.init) (init_g lines p.init) ++ (arg_unless (is_true_term p.trans) (trans_g a p.trans) ++ arg_unless (is_true_term p.inv) (with_formula f.scope inputs b p.inv))

  abbrev pub parts_args : List Line → List PlainPart → List Arg
  parts_args lines [] = []
  parts_args lines (p ∷ ps) = part_args lines p ++ parts_args (with_part f.scope inputs lines p) ps

  part_adds : (lines : List Line) (p : PlainPart) → Adds lines (with_part f.scope inputs lines p) (of_constraints (part_entries p) (part_args lines p))
  part_adds lines p =
      let a = with_init f.scope inputs lines p.init in
      let b = with_trans f.scope inputs a p.trans in
      let x = constraint_adds lines (init_g lines p.init) (is_true_term p.init) (init_grows lines p.init) in
      let y = constraint_adds a (trans_g a p.trans) (is_true_term p.trans) (trans_grows a p.trans) in
      let z = constraint_adds b (with_formula f.scope inputs b p.inv) (is_true_term p.inv) (formula_grows f inputs b p.inv) in
      adds_then lines a (with_part f.scope inputs lines p) _ _ x (adds_then a b (with_part f.scope inputs lines p) _ _ y z)

  pub parts_add : (lines : List Line) (ps : List PlainPart) → Adds lines (with_parts f.scope inputs lines ps) (of_constraints (flat_map part_entries ps) (parts_args lines ps))
  parts_add lines [] = adds_none lines
  parts_add lines (p ∷ ps) =
      let a = with_part f.scope inputs lines p in
      adds_then lines a (with_parts f.scope inputs a ps) _ _ (part_adds lines p) (parts_add a ps)

-- ---- words

or_same : (a y t : Bool) → (a ≡ false → y ≡ t) → (a || y) ≡ (a || t)
or_same true y t h = refl
or_same false y t h = h refl

bit_back : (t : Bool) → eqb (bit_of t) 1 ≡ t
bit_back true = refl
bit_back false = refl

pub both_mapped : {A B C : Type 0} (g : A → C) (h : B → C) (a b : List A) (c d : List B) → map g a ≡ map h c → map g b ≡ map h d → map g (a ++ b) ≡ map h (c ++ d)
both_mapped g h a b c d p q = map-append g a b ∙ ap (λ z. z ++ map g b) p ∙ ap (λ z. map h c ++ z) q ∙ sym (map-append h c d)

module _ (f : PlainFlatSystem) (codes_fit : HaveCodes f.scope.enumerations) (functions : AreFunctions f.scope.enumerations f.scope.functions) (inputs : List ℕ) (row : List BitVector) (known both first : Bool) (before now : Values)
    (all : List Line) (n_all : AreNumbered all) (room : length all < greatest_id) where
  -- what is in lines for formulas of one step and of two
  pub record StepsStand (lines : List Line) : Type 0 where
    pub stands : Stands f codes_fit functions inputs row known first now lines
    pub later : first ≡ false → known ≡ true → both ≡ true
    pub now_both : VariablesAreRepresented f.scope.enumerations row both lines (sorts_of f.variables) (input_place inputs) now
    pub before_both : VariablesAreRepresented f.scope.enumerations row both lines (sorts_of f.variables) (state_place inputs) before

  steps_later : (a b : List Line) → Extends a b → StepsStand a → StepsStand b
  steps_later a b g v =
      record {
        stands = stands_later f codes_fit functions inputs row known first now a b g v.stands;
        later = v.later;
        now_both = extends_variables _ row both a b _ _ now g v.now_both;
        before_both = extends_variables _ row both a b _ _ before g v.before_both;
      }

  few : (a : List Line) → Extends a all → length a < greatest_id
  few a g = omega (arith, room, extends_long a all g)

  front : (a : List Line) → Extends a all → AreNumbered a
  front a g = numbered_front a all g n_all

  constraint_word : (c : Bool) (lines : List Line) (m : Built) (b : Bool) → Extends (cond c lines (with_constraint m)) all → (Extends m.0 all → BitAt row known m.0 m.1 b) → known ≡ true → Meets all row
      → map (operand row) (arg_unless c m) ≡ map truth_word (cond c [] (b ∷ []))
  constraint_word true lines m b g at k met = refl
  constraint_word false lines m b g at k met =
      let x = extends_then m.0 (with_constraint m) all (one_more m.0 _) g in
      ap (λ w. w ∷ []) ((at x).word k (extends_meets m.0 all row x met))

  inv_at : (lines : List Line) (t : Tree) → StepsStand lines → IsFlatTruth f t → let m = with_formula f.scope inputs lines t in Extends m.0 all → BitAt row known m.0 m.1 (is_true f.scope now now t)
  inv_at lines t v h g =
      let m = with_formula f.scope inputs lines t in
      (formula_made f codes_fit functions inputs row known first now lines t (front lines (extends_then lines m.0 all (quietly lines m.0 (formula_grows f inputs lines t)) g)) v.stands h (few m.0 g)).at

  init_at : (lines : List Line) (t : Tree) → StepsStand lines → IsFlatTruth f t → let m = init_g f inputs lines t in Extends m.0 all → BitAt row known m.0 m.1 (not first || is_true f.scope now now t)
  init_at lines t v h g =
      let n = with_formula f.scope inputs lines t in
      let m = init_g f inputs lines t in
      let x = extends_then n.0 m.0 all (quietly n.0 m.0 (binary_grows two.Implies n.0 first_place n.1)) g in
      let vn = stands_quietly f codes_fit functions inputs row known first now lines n.0 (formula_grows f inputs lines t) v.stands in
      (gate row known two.Implies (λ a b. not a || b) (refl, refl) refl implies_bit n.0 first_place n.1 first (is_true f.scope now now t) (front n.0 x) (first_at f codes_fit functions inputs row known first now n.0 vn) (inv_at lines t v h x) (few m.0 g)).at

  step_at : (lines : List Line) (t : Tree) → StepsStand lines → IsFlatTruth f t → let m = step_m f inputs lines t in Extends m.0 all → BitAt row both m.0 m.1 (is_true f.scope before now t)
  step_at lines t v h g =
      let m = step_m f inputs lines t in
      let n = front lines (extends_then lines m.0 all (quietly lines m.0 (step_grows f inputs lines t)) g) in
      let w = whole_made f.scope.enumerations row both codes_fit f.scope.functions functions (sorts_of f.variables) t Truth h lines n (state_place inputs) (input_place inputs) before now v.before_both v.now_both (few m.0 g) in
      let e = code_truth f.scope.enumerations _ (value_sorted f.scope.enumerations f.scope.functions _ (all_suit f.scope.enumerations f.scope.functions functions) (sorts_of f.variables) before now (record { each = v.before_both.sorted }) (record { each = v.now_both.sorted }) [] [] t Truth tt h) in
      record { width = w.stands.width; word = λ k met. w.stands.word k met ∙ e }

  -- in the first frame the word of the step's formula is any
  trans_at : (lines : List Line) (t : Tree) → StepsStand lines → IsFlatTruth f t → let m = trans_g f inputs lines t in Extends m.0 all → BitAt row known m.0 m.1 (first || is_true f.scope before now t)
  trans_at lines t v h g =
      let n = step_m f inputs lines t in
      let m = trans_g f inputs lines t in
      let x = extends_then n.0 m.0 all (quietly n.0 m.0 (binary_grows two.Or n.0 first_place n.1)) g in
      let vn = stands_quietly f codes_fit functions inputs row known first now lines n.0 (step_grows f inputs lines t) v.stands in
      let s = step_at lines t v h x in
      let y = eqb (word_at row n.1).bits 1 in
      let o = (gate row known two.Or (λ a b. a || b) refl refl or_bit n.0 first_place n.1 first y (front n.0 x) (first_at f codes_fit functions inputs row known first now n.0 vn) (some_bit row known n.0 n.1 (front n.0 x) s.width) (few m.0 g)).at in
      record {
        width = o.width;
        word = λ k met. o.word k met ∙ ap bit (or_same first y (is_true f.scope before now t)
            (λ e. ap (λ (w : BitVector). eqb w.bits 1) (s.word (v.later e k) (extends_meets n.0 m.0 row (quietly n.0 m.0 (binary_grows two.Or n.0 first_place n.1)) met)) ∙ bit_back (is_true f.scope before now t)));
      }

  part_words : (lines : List Line) (p : PlainPart) → StepsStand lines → PartIsSorted f p → Extends (with_part f.scope inputs lines p) all → known ≡ true → Meets all row
      → map (operand row) (part_args f inputs lines p) ≡ map truth_word (part_values f.scope first before now p)
  part_words lines p v h g k met =
      let a = with_init f.scope inputs lines p.init in
      let b = with_trans f.scope inputs a p.trans in
      let ga = (constraint_adds lines (init_g f inputs lines p.init) (is_true_term p.init) (init_grows f inputs lines p.init)).extends in
      let gb = (constraint_adds a (trans_g f inputs a p.trans) (is_true_term p.trans) (trans_grows f inputs a p.trans)).extends in
      let gc = (constraint_adds b (with_formula f.scope inputs b p.inv) (is_true_term p.inv) (formula_grows f inputs b p.inv)).extends in
      let xb = extends_then b (with_part f.scope inputs lines p) all gc g in
      let xa = extends_then a b all gb xb in
      let va = steps_later lines a ga v in
      let vb = steps_later a b gb va in
      let i = constraint_word (is_true_term p.init) lines (init_g f inputs lines p.init) (not first || is_true f.scope now now p.init) xa (init_at lines p.init v h.init) k met in
      let t = constraint_word (is_true_term p.trans) a (trans_g f inputs a p.trans) (first || is_true f.scope before now p.trans) xb (trans_at a p.trans va h.trans) k met in
      let n = constraint_word (is_true_term p.inv) b (with_formula f.scope inputs b p.inv) (is_true f.scope now now p.inv) g (inv_at b p.inv vb h.inv) k met in
      both_mapped (operand row) truth_word _ _ _ _ i (both_mapped (operand row) truth_word _ _ _ _ t n)

  pub parts_words : (lines : List Line) (ps : List PlainPart) → StepsStand lines → AllByRecursion (PartIsSorted f) ps → Extends (with_parts f.scope inputs lines ps) all → known ≡ true → Meets all row
      → map (operand row) (parts_args f inputs lines ps) ≡ map truth_word (formula_values f.scope first before now ps)
  parts_words lines [] v h g k met = refl
  parts_words lines (p ∷ ps) v h g k met =
      let a = with_part f.scope inputs lines p in
      let ga = (part_adds f inputs lines p).extends in
      let one = part_words lines p v h.0 (extends_then a (with_parts f.scope inputs a ps) all (parts_add f inputs a ps).extends g) k met in
      both_mapped (operand row) truth_word _ _ _ _ one (parts_words a ps (steps_later lines a ga v) h.1 g k met)
