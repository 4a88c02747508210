-- The widths of terms' words.
use Rattle.std.proofs.Common.{◌≡◌, ℕ, zero, suc, ◌<◌, ◌≤◌, true, false, cond, List, [], ◌∷◌, ◌++◌, length, take, Some, refl, sym, ap, ◌∙◌, subst, arith, inl, inr}
use Rattle.std.specs.Prelude.{slice_get}
use Rattle.std.proofs.lemmas.Option.{same_Some, none-some}
use Rattle.std.proofs.lemmas.Bool.Decides.{eqb_tells}
use Rattle.btor_tree.specs.declared.lines.Line.{Line}
use Rattle.btor_tree.specs.declared.lines.LineOp.TheVariants as line
use Rattle.btor_tree.specs.Fits.{greatest_id}
use Rattle.btor_tree.specs.Sharing.{GrowsByShared}
use Rattle.moxi_terms.specs.declared.data.Sort.{Sort}
use Rattle.moxi_terms.specs.declared.data.Sort.TheVariants.{Truth, Bits, Choice}
use Rattle.moxi_terms.specs.declared.data.Datum.{Datum}
use Rattle.moxi_terms.specs.declared.data.Datum.TheVariants as datum
use Rattle.moxi_terms.specs.declared.data.TermOp.{TermOp}
use Rattle.moxi_terms.specs.declared.term.Enumeration.{Enumeration}
use Rattle.moxi_terms.specs.Sorts.{IsOf}
use Rattle.moxi_terms.specs.Sorted.{AreFunctions, HasSort, HaveSorts}
use Rattle.moxi_terms.specs.Tree.{Tree, constant, variable, bound, apply, binding, call, Trees, no_trees, tree, PlainFunction, sorts_of}
use Rattle.moxi_terms.specs.Value.{body_at}
use Rattle.moxi_terms.proofs.Plain.{found_within}
use Rattle.moxi_terms.proofs.ValueLaws.{read_at, taken_at}
use Rattle.moxi_lines.specs.Codes.{code_of, sort_bits}
use Rattle.moxi_lines.specs.TermLaws.{HaveCodes}
use Rattle.moxi_lines.specs.TermLines.{AllBuilt, CallLines, Built, call_lines, place_in, with_constant, with_datum, with_operator, with_term, with_terms}
use Rattle.moxi_lines.proofs.CodeLaws.{code_is_word}
use Rattle.moxi_lines.proofs.Growing.{grown_width}
use Rattle.moxi_lines.proofs.Terms.{CallsGrow, calls_grow, term_grows, terms_grow}
use Rattle.moxi_to_btor.specs.TermPutting.{CanPutDatum}
use Rattle.moxi_to_btor.specs.Standing.{AreAsWide, IsAsWide, VariablesAreAsWide}
use Rattle.moxi_to_btor.proofs.Widths.{constant_can, one_can, word_wide, zero_can}
use Rattle.moxi_to_btor.proofs.Operating.{operated}

-- an operator is a term over variables that are numbered by their places
numbered : List ℕ → Trees
numbered [] = no_trees
numbered (p ∷ ps) = tree (variable p false) (numbered ps)

numbered_made : (lines : List Line) (ps : List ℕ) → with_terms [] (call_lines [] [] 0) (λ v. v) (λ v. v) [] lines (numbered ps) ≡ (lines, ps)
unfolding numbered
numbered_made lines [] = refl
numbered_made lines (p ∷ ps) = ap (λ (m : AllBuilt). let r : AllBuilt = (m.0, p ∷ m.1) in r) (numbered_made lines ps)

pub operator_grows : (o : TermOp) (lines : List Line) (ps : List ℕ) → GrowsByShared lines (with_operator o lines ps).0
operator_grows o lines ps =
    subst (λ (m : AllBuilt). GrowsByShared lines (with_operator o m.0 m.1).0) (numbered_made lines ps)
    (term_grows [] (call_lines [] [] 0) (calls_grow [] [] 0) (λ v. v) (λ v. v) [] lines (apply o (numbered ps)))

-- ---- what stays as lines grow

pub later_as_wide : (es : List Enumeration) (a b : List Line) (p : ℕ) (s : Sort) → GrowsByShared a b → IsAsWide es a p s → IsAsWide es b p s
later_as_wide es a b p s g h = record { wide = h.wide; narrow = h.narrow; width = grown_width a b p (sort_bits es s) h.wide g h.width }

pub later_all : (es : List Enumeration) (a b : List Line) (ps : List ℕ) (ss : List Sort) → GrowsByShared a b → AreAsWide es a ps ss → AreAsWide es b ps ss
later_all es a b [] [] g h = tt
later_all es a b [] (s ∷ ss) g h = absurd h
later_all es a b (p ∷ ps) [] g h = absurd h
later_all es a b (p ∷ ps) (s ∷ ss) g h = (later_as_wide es a b p s g h.0, later_all es a b ps ss g h.1)

pub later_variables : (es : List Enumeration) (a b : List Line) (vars : List Sort) (places : ℕ → ℕ) → GrowsByShared a b → VariablesAreAsWide es a vars places → VariablesAreAsWide es b vars places
later_variables es a b vars places g h = record { each = λ v s e. later_as_wide es a b (places v) s g (h.each v s e) }

pub both_wide : (es : List Enumeration) (lines : List Line) (ps qs : List ℕ) (ss ts : List Sort) → AreAsWide es lines ps ss → AreAsWide es lines qs ts → AreAsWide es lines (ps ++ qs) (ss ++ ts)
both_wide es lines [] qs [] ts a b = b
both_wide es lines [] qs (s ∷ ss) ts a b = absurd a
both_wide es lines (p ∷ ps) qs [] ts a b = absurd a
both_wide es lines (p ∷ ps) qs (s ∷ ss) ts a b = (a.0, both_wide es lines ps qs ss ts a.1 b)

pub wide_in : (es : List Enumeration) (lines : List Line) (ps : List ℕ) (ss : List Sort) (i : ℕ) (s : Sort) → AreAsWide es lines ps ss → slice_get ss i ≡ Some s → IsAsWide es lines (place_in ps i) s
wide_in es lines ps [] i s a h = absurd (none-some s h)
wide_in es lines [] (t ∷ ss) i s a h = absurd a
wide_in es lines (p ∷ ps) (t ∷ ss) zero s a h = subst (IsAsWide es lines p) (same_Some t s h) a.0
wide_in es lines (p ∷ ps) (t ∷ ss) (suc i) s a h = wide_in es lines ps ss i s a.1 h

pub parameters_wide : (es : List Enumeration) (lines : List Line) (ps : List ℕ) (ss : List Sort) → AreAsWide es lines ps ss → VariablesAreAsWide es lines ss (place_in ps)
parameters_wide es lines ps ss a = record { each = λ v s h. wide_in es lines ps ss v s a h }

-- ---- values

constant_wide : (es : List Enumeration) → HaveCodes es → (lines : List Line) (s : Sort) (d : Datum) → IsOf es s d → IsAsWide es (with_constant lines (code_of es d)).0 (with_constant lines (code_of es d)).1 s
constant_wide es codes lines s d h =
    let w = code_is_word es codes s d h in
    let x = code_of es d in
    record { wide = omega (arith, w.1, w.0.0); narrow = omega (arith, w.1, w.0.1); width = word_wide lines (line.Constant x) x.width [] refl refl w.0.0 ∙ w.1 }

datum_wide : (es : List Enumeration) → HaveCodes es → (lines : List Line) (s : Sort) (d : Datum) → IsOf es s d → IsAsWide es (with_datum es lines d).0 (with_datum es lines d).1 s
datum_wide es codes lines s (datum.Truth true) h =
    let w = code_is_word es codes s (datum.Truth true) h in
    record { wide = omega (arith, w.1); narrow = omega (arith, w.1, w.0.1); width = word_wide lines line.One 1 [] refl refl (omega arith) ∙ w.1 }
datum_wide es codes lines s (datum.Truth false) h =
    let w = code_is_word es codes s (datum.Truth false) h in
    record { wide = omega (arith, w.1); narrow = omega (arith, w.1, w.0.1); width = word_wide lines line.Zero 1 [] refl refl (omega arith) ∙ w.1 }
datum_wide es codes lines s (datum.Bits v) h = constant_wide es codes lines s (datum.Bits v) h
datum_wide es codes lines s (datum.Constant n i) h = constant_wide es codes lines s (datum.Constant n i) h

enumeration_there : (es : List Enumeration) (s : Sort) (n i : ℕ) → IsOf es s (datum.Constant n i) → n < length es
enumeration_there es Truth n i h = absurd h
enumeration_there es (Bits w) n i h = absurd h
enumeration_there es (Choice m) n i h = subst (λ k. k < length es) (sym h.0) (found_within es m h.1.enumeration h.1.there)

pub datum_can : (es : List Enumeration) → HaveCodes es → (lines : List Line) (s : Sort) (d : Datum) → IsOf es s d → length (with_datum es lines d).0 < greatest_id → CanPutDatum es lines d
datum_can es codes lines s (datum.Truth true) h room = one_can lines room
datum_can es codes lines s (datum.Truth false) h room = zero_can lines room
datum_can es codes lines s (datum.Bits v) h room = constant_can lines v (code_is_word es codes s (datum.Bits v) h).0 room
datum_can es codes lines s (datum.Constant n i) h room =
    let w = code_is_word es codes s (datum.Constant n i) h in
    (enumeration_there es s n i h, w.0, constant_can lines (code_of es (datum.Constant n i)) w.0 room)

-- ---- terms

pub called_lines : (es : List Enumeration) (fs : List PlainFunction) (k n : ℕ) (lines : List Line) (ps : List ℕ) → n < k → call_lines es fs k n lines ps ≡ with_term es (call_lines es fs n) (place_in ps) (place_in ps) [] lines (body_at fs n)
called_lines es fs zero n lines ps h = absurd (omega arith)
called_lines es fs (suc k) n lines ps h =
    elim (eqb_tells n k) [
      | inl e ↦ ap (λ b. cond b (with_term es (call_lines es fs k) (place_in ps) (place_in ps) [] lines (body_at fs k)) (call_lines es fs k n lines ps)) e.0
          ∙ ap (λ k. with_term es (call_lines es fs k) (place_in ps) (place_in ps) [] lines (body_at fs k)) (sym e.1)
      | inr e ↦ ap (λ b. cond b (with_term es (call_lines es fs k) (place_in ps) (place_in ps) [] lines (body_at fs k)) (call_lines es fs k n lines ps)) e.0
          ∙ called_lines es fs k n lines ps (let h2 : n < k = grind arith in h2)
    ]

-- what calls make has the width of the function's result
record CallsAreWide (es : List Enumeration) (fs : List PlainFunction) (calls : CallLines) : Type 0 where
  each : (n : ℕ) (f : PlainFunction) (lines : List Line) (ps : List ℕ) → slice_get fs n ≡ Some f → AreAsWide es lines ps (sorts_of f.parameters) → IsAsWide es (calls n lines ps).0 (calls n lines ps).1 f.result

module _ (es : List Enumeration) (codes : HaveCodes es) where
  module _ (fs : List PlainFunction) (calls : CallLines) (grow : CallsGrow calls) (wide : CallsAreWide es fs calls) (vars : List Sort) (now later : ℕ → ℕ) where
    mutual
      term_wide : (sorts : List Sort) (bounds : List ℕ) (lines : List Line) (t : Tree) (s : Sort) → VariablesAreAsWide es lines vars now → VariablesAreAsWide es lines vars later → AreAsWide es lines bounds sorts
          → HasSort es fs vars sorts t s → IsAsWide es (with_term es calls now later bounds lines t).0 (with_term es calls now later bounds lines t).1 s
      term_wide sorts bounds lines (constant d) s v w b h = datum_wide es codes lines s d h
      term_wide sorts bounds lines (variable i true) s v w b h = w.each i s h
      term_wide sorts bounds lines (variable i false) s v w b h = v.each i s h
      term_wide sorts bounds lines (bound i) s v w b h = wide_in es lines bounds sorts i s b h
      term_wide sorts bounds lines (apply o ts) s v w b h =
          let m = with_terms es calls now later bounds lines ts in
          (operated es m.0 o m.1 h.0 s (terms_wide sorts bounds lines ts h.0 v w b h.1) h.2).wide
      term_wide sorts bounds lines (binding names ts t) s v w b h =
          let m = with_terms es calls now later bounds lines ts in
          let g = terms_grow es calls grow now later bounds lines ts in
          term_wide (sorts ++ h.0) (bounds ++ m.1) m.0 t s (later_variables es lines m.0 vars now g v) (later_variables es lines m.0 vars later g w)
          (both_wide es m.0 bounds m.1 sorts h.0 (later_all es lines m.0 bounds sorts g b) (terms_wide sorts bounds lines ts h.0 v w b h.2)) h.3
      term_wide sorts bounds lines (call i ts) s v w b h =
          let m = with_terms es calls now later bounds lines ts in
          subst (IsAsWide es (calls i m.0 m.1).0 (calls i m.0 m.1).1) h.3 (wide.each i h.0 m.0 m.1 h.1 (terms_wide sorts bounds lines ts (sorts_of h.0.parameters) v w b h.2))

      terms_wide : (sorts : List Sort) (bounds : List ℕ) (lines : List Line) (ts : Trees) (ss : List Sort) → VariablesAreAsWide es lines vars now → VariablesAreAsWide es lines vars later → AreAsWide es lines bounds sorts
          → HaveSorts es fs vars sorts ts ss → AreAsWide es (with_terms es calls now later bounds lines ts).0 (with_terms es calls now later bounds lines ts).1 ss
      terms_wide sorts bounds lines no_trees [] v w b h = tt
      terms_wide sorts bounds lines no_trees (s ∷ ss) v w b h = absurd h
      terms_wide sorts bounds lines (tree t ts) [] v w b h = absurd h
      terms_wide sorts bounds lines (tree t ts) (s ∷ ss) v w b h =
          let m = with_term es calls now later bounds lines t in
          let g = term_grows es calls grow now later bounds lines t in (
            later_as_wide es m.0 (with_terms es calls now later bounds m.0 ts).0 m.1 s (terms_grow es calls grow now later bounds m.0 ts) (term_wide sorts bounds lines t s v w b h.0),
            terms_wide sorts bounds m.0 ts ss (later_variables es lines m.0 vars now g v) (later_variables es lines m.0 vars later g w) (later_all es lines m.0 bounds sorts g b) h.1,
          )

  -- by induction on a bound of the number
  calls_wide_below : (fs : List PlainFunction) → AreFunctions es fs → (b k : ℕ) → k ≤ b → CallsAreWide es (take k fs) (call_lines es fs k)
  calls_wide_below fs a zero k le = record { each = λ n f lines ps h x. absurd (let p = taken_at fs k n f h in let q : n < k = p.1 in omega arith) }
  calls_wide_below fs a (suc b) k le =
      record {
        each = λ n f lines ps h x.
            let p = taken_at fs k n f h in
            let n_small : n ≤ b = omega (arith, p.1) in
            let e : body_at fs n ≡ f.body = ap (λ (f : PlainFunction). f.body) (read_at fs n f _ p.0) in
            let here : call_lines es fs k n lines ps ≡ with_term es (call_lines es fs n) (place_in ps) (place_in ps) [] lines f.body =
            called_lines es fs k n lines ps p.1 ∙ ap (with_term es (call_lines es fs n) (place_in ps) (place_in ps) [] lines) e in
            let given = parameters_wide es lines ps (sorts_of f.parameters) x in
            subst (λ (z : Built). IsAsWide es z.0 z.1 f.result) (sym here)
            (term_wide (take n fs) (call_lines es fs n) (calls_grow es fs n) (calls_wide_below fs a b n n_small) (sorts_of f.parameters) (place_in ps) (place_in ps) [] [] lines f.body f.result given given tt (a n f p.0).body);
      }

  pub all_terms_wide : (fs : List PlainFunction) → AreFunctions es fs → (k : ℕ) (vars : List Sort) (now later : ℕ → ℕ) (sorts : List Sort) (bounds : List ℕ) (lines : List Line) (ts : Trees) (ss : List Sort)
      → VariablesAreAsWide es lines vars now → VariablesAreAsWide es lines vars later → AreAsWide es lines bounds sorts → HaveSorts es (take k fs) vars sorts ts ss
      → AreAsWide es (with_terms es (call_lines es fs k) now later bounds lines ts).0 (with_terms es (call_lines es fs k) now later bounds lines ts).1 ss
  all_terms_wide fs a k vars now later sorts bounds lines ts ss v w b h =
      terms_wide (take k fs) (call_lines es fs k) (calls_grow es fs k) (calls_wide_below fs a k k (omega arith)) vars now later sorts bounds lines ts ss v w b h

  pub one_term_wide : (fs : List PlainFunction) → AreFunctions es fs → (k : ℕ) (vars : List Sort) (now later : ℕ → ℕ) (sorts : List Sort) (bounds : List ℕ) (lines : List Line) (t : Tree) (s : Sort)
      → VariablesAreAsWide es lines vars now → VariablesAreAsWide es lines vars later → AreAsWide es lines bounds sorts → HasSort es (take k fs) vars sorts t s
      → IsAsWide es (with_term es (call_lines es fs k) now later bounds lines t).0 (with_term es (call_lines es fs k) now later bounds lines t).1 s
  one_term_wide fs a k vars now later sorts bounds lines t s v w b h =
      term_wide (take k fs) (call_lines es fs k) (calls_grow es fs k) (calls_wide_below fs a k k (omega arith)) vars now later sorts bounds lines t s v w b h
