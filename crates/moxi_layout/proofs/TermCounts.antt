-- By how many lines a term makes lines grow: two for each unit of its size at most, and one fewer, or two where it is of truth values.
use Rattle.std.proofs.Common.{◌≡◌, ℕ, zero, suc, ◌+◌, ◌*◌, ◌<◌, ◌≤◌, Bool, true, false, cond, nat_eq, List, [], ◌∷◌, ◌++◌, length, take, Ok, Err, refl, sym, ap, ◌∙◌, subst, arith}
use Rattle.text_core.specs.declared.place.Kind.TheVariants.{M}
use Rattle.btor_tree.specs.declared.lines.Line.{Line}
use Rattle.btor_tree.specs.declared.lines.LineOp.TheVariants as line
use Rattle.btor_tree.proofs.Grows.{inside_get}
use Rattle.moxi_terms.specs.declared.data.Sort.{Sort}
use Rattle.moxi_terms.specs.declared.data.Sort.TheVariants.{Truth}
use Rattle.moxi_terms.specs.declared.data.Datum.{Datum}
use Rattle.moxi_terms.specs.declared.data.Datum.TheVariants as datum
use Rattle.moxi_terms.specs.declared.data.TermOp.{TermOp}
use Rattle.moxi_terms.specs.declared.term.Enumeration.{Enumeration}
use Rattle.moxi_terms.specs.Sorts.{count_fits, fitting, op_sort}
use Rattle.moxi_terms.specs.Sorted.{AreFunctions, HasSort, HaveSorts}
use Rattle.moxi_terms.specs.Tree.{Tree, constant, variable, bound, apply, binding, call, Trees, no_trees, tree, list_of, PlainFunction, sorts_of}
use Rattle.moxi_terms.specs.Value.{body_at}
use Rattle.moxi_terms.proofs.ValueLaws.{read_at}
use Rattle.moxi_flat.specs.Terms.{measured_upto, operator_size, term_size, terms_size}
use Rattle.moxi_lines.specs.Codes.{code_of}
use Rattle.moxi_lines.specs.TermLines.{CallLines, Built, call_lines, place_in, with_datum, with_operator, with_term, with_terms}
use Rattle.moxi_lines.specs.Lines.{head_lines}
use Rattle.moxi_lines.proofs.Extending.{Extends, extends_then}
use Rattle.moxi_layout.proofs.Growth.{Grows, grows_none, grows_then}
use Rattle.moxi_layout.proofs.Chains.{operator_counts, word_counts}

-- lines that begin with the head, where the constants one and zero stand
abbrev pub HasHead : List Line → Type 0
HasHead lines = Extends head_lines lines

pub head_stays : (n : ℕ) (a b : List Line) → Grows n a b → HasHead a → HasHead b
head_stays n a b g h = extends_then head_lines a b h g.extends

-- a constant that is no truth value has a line of its own
abbrev pub spare : Tree → ℕ
spare (constant (datum.Truth b)) = 2
spare (constant d) = 1
spare t = 2

-- at most two lines for each unit of the size, and so many fewer
pub record Counts (spared size : ℕ) (old new : List Line) : Type 0 where
  pub count : ℕ
  pub grows : Grows count old new
  pub few : count + spared ≤ 2 * size

truth_stands : (es : List Enumeration) (b : Bool) (more : List Line) → Grows 0 (head_lines ++ more) (with_datum es (head_lines ++ more) (datum.Truth b)).0
truth_stands es true more = grows_none (head_lines ++ more)
truth_stands es false more = grows_none (head_lines ++ more)

truth_counts : (es : List Enumeration) (b : Bool) (lines : List Line) → HasHead lines → Grows 0 lines (with_datum es lines (datum.Truth b)).0
truth_counts es b lines h = subst (λ ls. Grows 0 ls (with_datum es ls (datum.Truth b)).0) (sym h.is) (truth_stands es b h.more)

datum_counts : (es : List Enumeration) (d : Datum) (lines : List Line) → HasHead lines → Counts (spare (constant d)) 1 lines (with_datum es lines d).0
datum_counts es (datum.Truth b) lines h = record { count = 0; grows = truth_counts es b lines h; few = omega arith }
datum_counts es (datum.Bits v) lines h = record { count = 1; grows = word_counts lines (line.Constant v) v.width [] refl; few = omega arith }
datum_counts es (datum.Constant n i) lines h =
    let c = code_of es (datum.Constant n i) in
    record { count = 1; grows = word_counts lines (line.Constant c) c.width [] refl; few = omega arith }

spare_some : (t : Tree) → 1 ≤ spare t
spare_some (constant (datum.Truth b)) = omega arith
spare_some (constant (datum.Bits v)) = omega arith
spare_some (constant (datum.Constant n i)) = omega arith
spare_some (variable v primed) = omega arith
spare_some (bound i) = omega arith
spare_some (apply o ts) = omega arith
spare_some (binding names ts t) = omega arith
spare_some (call n ts) = omega arith

-- ---- sorts

fitting_count : (o : TermOp) (ss : List Sort) (s : Sort) → op_sort o ss ≡ Ok s → count_fits o (length ss) ≡ true
fitting_count o ss s h = by (count_fits o (length ss)) refl
  where
    by : (b : Bool) → count_fits o (length ss) ≡ b → count_fits o (length ss) ≡ true
    by true e = e
    by false e = absurd (let k = ap (λ c. cond c (fitting o ss) (Err (M 12))) e in cc)

module _ (es : List Enumeration) (fs : List PlainFunction) (vars : List Sort) where
  as_many : (bounds : List Sort) (ts : Trees) (ss : List Sort) → HaveSorts es fs vars bounds ts ss → length (list_of ts) ≡ length ss
  as_many bounds no_trees [] h = refl
  as_many bounds no_trees (s ∷ ss) h = absurd h
  as_many bounds (tree t ts) [] h = absurd h
  as_many bounds (tree t ts) (s ∷ ss) h = ap suc (as_many bounds ts ss h.1)

-- ---- terms

-- what calls make has at most two lines for each unit of the function's size
pub record CallsCount (calls : CallLines) (sizes : ℕ → ℕ) : Type 0 where
  pub each : (n : ℕ) (lines : List Line) (ps : List ℕ) → HasHead lines → Counts 0 (sizes n) lines (calls n lines ps).0

module _ (es : List Enumeration) (calls : CallLines) (now later : ℕ → ℕ) where
  pub as_made : (places : List ℕ) (lines : List Line) (ts : Trees) → length (with_terms es calls now later places lines ts).1 ≡ length (list_of ts)
  as_made places lines no_trees = refl
  as_made places lines (tree t ts) = ap suc (as_made places (with_term es calls now later places lines t).0 ts)

  module _ (sizes : ℕ → ℕ) (count : CallsCount calls sizes) (fs : List PlainFunction) (vars : List Sort) where
    mutual
      pub term_counts : (bounds : List Sort) (places : List ℕ) (lines : List Line) (t : Tree) (s : Sort) → HasHead lines → HasSort es fs vars bounds t s
          → Counts (spare t) (term_size sizes t) lines (with_term es calls now later places lines t).0
      term_counts bounds places lines (constant d) s head h = datum_counts es d lines head
      term_counts bounds places lines (variable v primed) s head h = record { count = 0; grows = grows_none lines; few = omega arith }
      term_counts bounds places lines (bound i) s head h = record { count = 0; grows = grows_none lines; few = omega arith }
      term_counts bounds places lines (apply o ts) s head h =
          let m = with_terms es calls now later places lines ts in
          let r = terms_count bounds places lines ts h.0 head h.1 in
          let long : length (list_of ts) ≡ length m.1 = sym (as_made places lines ts) in
          let fits : count_fits o (length m.1) ≡ true = subst (λ n. count_fits o n ≡ true) (sym (as_many es fs vars bounds ts h.0 h.1) ∙ long) (fitting_count o h.0 s h.2) in
          let c = operator_counts o m.0 m.1 fits in
          record {
            count = r.count + c.count;
            grows = grows_then r.count c.count lines m.0 (with_operator o m.0 m.1).0 r.grows c.grows;
            few = subst (λ n. r.count + c.count + 2 ≤ 2 * (operator_size o n + terms_size sizes ts)) (sym long) (let a = r.few in let b = c.few in omega (arith, a, b, long));
          }
      term_counts bounds places lines (binding names ts t) s head h =
          let m = with_terms es calls now later places lines ts in
          let r = terms_count bounds places lines ts h.0 head h.2 in
          let c = term_counts (bounds ++ h.0) (places ++ m.1) m.0 t s (head_stays r.count lines m.0 r.grows head) h.3 in
          record {
            count = r.count + c.count;
            grows = grows_then r.count c.count lines m.0 (with_term es calls now later (places ++ m.1) m.0 t).0 r.grows c.grows;
            few = let a = r.few in let b = c.few in omega (arith, a, b);
          }
      term_counts bounds places lines (call n ts) s head h =
          let m = with_terms es calls now later places lines ts in
          let r = terms_count bounds places lines ts (sorts_of h.0.parameters) head h.2 in
          let c = count.each n m.0 m.1 (head_stays r.count lines m.0 r.grows head) in
          record {
            count = r.count + c.count;
            grows = grows_then r.count c.count lines m.0 (calls n m.0 m.1).0 r.grows c.grows;
            few = let a = r.few in let b = c.few in omega (arith, a, b);
          }

      terms_count : (bounds : List Sort) (places : List ℕ) (lines : List Line) (ts : Trees) (ss : List Sort) → HasHead lines → HaveSorts es fs vars bounds ts ss
          → Counts (length (list_of ts)) (terms_size sizes ts) lines (with_terms es calls now later places lines ts).0
      terms_count bounds places lines no_trees ss head h = record { count = 0; grows = grows_none lines; few = omega arith }
      terms_count bounds places lines (tree t ts) [] head h = absurd h
      terms_count bounds places lines (tree t ts) (s ∷ ss) head h =
          let m = with_term es calls now later places lines t in
          let r = term_counts bounds places lines t s head h.0 in
          let c = terms_count bounds places m.0 ts ss (head_stays r.count lines m.0 r.grows head) h.1 in
          record {
            count = r.count + c.count;
            grows = grows_then r.count c.count lines m.0 (with_terms es calls now later places m.0 ts).0 r.grows c.grows;
            few = let a = r.few in let b = c.few in let k = spare_some t in omega (arith, a, b, k);
          }

-- ---- calls

module _ (es : List Enumeration) (fs : List PlainFunction) (sorted : AreFunctions es fs) where
  body_counts : (k : ℕ) → CallsCount (call_lines es fs k) (measured_upto term_size fs k) → k < length fs → (lines : List Line) (ps : List ℕ) → HasHead lines
      → Counts 0 (term_size (measured_upto term_size fs k) (body_at fs k)) lines (with_term es (call_lines es fs k) (place_in ps) (place_in ps) [] lines (body_at fs k)).0
  body_counts k count less lines ps head =
      let here = inside_get fs k less in
      let f = here.0 in
      let e : body_at fs k ≡ f.body = ap (λ (f : PlainFunction). f.body) (read_at fs k f _ here.1) in
      let r = term_counts es (call_lines es fs k) (place_in ps) (place_in ps) (measured_upto term_size fs k) count (take k fs) (sorts_of f.parameters) [] [] lines f.body f.result head (sorted k f here.1).body in
      subst (λ t. Counts 0 (term_size (measured_upto term_size fs k) t) lines (with_term es (call_lines es fs k) (place_in ps) (place_in ps) [] lines t).0) (sym e)
      (record { count = r.count; grows = r.grows; few = let a = r.few in omega (arith, a) })

  chosen_counts : (b : Bool) (n m : ℕ) (lines : List Line) (x y : Built) → Counts 0 n lines x.0 → Counts 0 m lines y.0 → Counts 0 (cond b n m) lines (cond b x y).0
  chosen_counts true n m lines x y g h = g
  chosen_counts false n m lines x y g h = h

  pub calls_count : (k : ℕ) → k ≤ length fs → CallsCount (call_lines es fs k) (measured_upto term_size fs k)
  calls_count zero le = record { each = λ n lines ps head. record { count = 0; grows = grows_none lines; few = omega arith } }
  calls_count (suc k) le =
      let count = calls_count k (omega arith) in
      record {
        each = λ n lines ps head.
            chosen_counts (nat_eq n k) (term_size (measured_upto term_size fs k) (body_at fs k)) (measured_upto term_size fs k n) lines
            (with_term es (call_lines es fs k) (place_in ps) (place_in ps) [] lines (body_at fs k)) (call_lines es fs k n lines ps)
            (body_counts k count (omega arith) lines ps head) (count.each n lines ps head);
      }

-- a term of truth values
truth_spare : (es : List Enumeration) (fs : List PlainFunction) (vars : List Sort) (t : Tree) → HasSort es fs vars [] t Truth → 2 ≤ spare t
truth_spare es fs vars (constant (datum.Truth b)) h = omega arith
truth_spare es fs vars (constant (datum.Bits v)) h = absurd h
truth_spare es fs vars (constant (datum.Constant n i)) h = absurd h
truth_spare es fs vars (variable v primed) h = omega arith
truth_spare es fs vars (bound i) h = omega arith
truth_spare es fs vars (apply o ts) h = omega arith
truth_spare es fs vars (binding names ts t) h = omega arith
truth_spare es fs vars (call n ts) h = omega arith

pub formula_counts : (es : List Enumeration) (fs : List PlainFunction) → AreFunctions es fs → (vars : List Sort) (now later : ℕ → ℕ) (lines : List Line) (t : Tree) → HasHead lines → HasSort es fs vars [] t Truth
    → Counts 2 (term_size (measured_upto term_size fs (length fs)) t) lines (with_term es (call_lines es fs (length fs)) now later [] lines t).0
formula_counts es fs sorted vars now later lines t head h =
    let k = length fs in
    let r = term_counts es (call_lines es fs k) now later (measured_upto term_size fs k) (calls_count es fs sorted k (omega arith)) fs vars [] [] lines t Truth head h in
    record { count = r.count; grows = r.grows; few = let a = r.few in let b = truth_spare es fs vars t h in omega (arith, a, b) }
