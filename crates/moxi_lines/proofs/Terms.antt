-- The lines of a term grow quietly, and give the word of its value.
use Rattle.std.proofs.Common.{◌≡◌, ℕ, zero, suc, ◌+◌, ◌<◌, ◌≤◌, Bool, true, false, cond, List, [], ◌∷◌, ◌++◌, length, take, Some, Ok, refl, sym, ap, ◌∙◌, subst, arith, inl, inr}
use Rattle.std.specs.Prelude.{slice_get}
use Rattle.std.proofs.lemmas.Option.{same_Some, none-some}
use Rattle.std.proofs.lemmas.Bool.Decides.{eqb_tells}
use Rattle.std.proofs.lemmas.List.{take_all}
use Rattle.word_core.specs.Words.{BitVector}
use Rattle.word_core.specs.Table.{unary_width}
use Rattle.word_core.specs.declared.kinds.Unary.TheVariants as one
use Rattle.word_core.specs.declared.kinds.Binary.TheVariants as two
use Rattle.btor_tree.specs.declared.lines.Line.{Line}
use Rattle.btor_tree.specs.declared.lines.LineOp.TheVariants as line
use Rattle.btor_tree.specs.Fits.{greatest_id, plain_arg, width_at}
use Rattle.btor_tree.specs.Sharing.{GrowsByShared}
use Rattle.moxi_terms.specs.declared.data.Sort.{Sort}
use Rattle.moxi_terms.specs.declared.data.Datum.{Datum}
use Rattle.moxi_terms.specs.declared.data.Datum.TheVariants as datum
use Rattle.moxi_terms.specs.declared.data.TermOp.{TermOp}
use Rattle.moxi_terms.specs.declared.data.TermOp.TheVariants as op
use Rattle.moxi_terms.specs.declared.term.Enumeration.{Enumeration}
use Rattle.moxi_terms.specs.Operators.{op_value}
use Rattle.moxi_terms.specs.Sorts.{IsOf, Fit, op_sort}
use Rattle.moxi_terms.specs.Tree.{Tree, constant, variable, bound, apply, binding, call, Trees, no_trees, tree, PlainFunction, sorts_of}
use Rattle.moxi_terms.specs.Value.{Calls, Values, at, body_at, calls_upto, term_value, term_values}
use Rattle.moxi_terms.specs.Sorted.{AreFunctions, HasSort, HaveSorts}
use Rattle.moxi_terms.proofs.ValueLaws.{CallsSuit, calls_at, calls_suit, fit_append, fit_at, read_at, taken_at, values_sorted}
use Rattle.moxi_lines.specs.Codes.{code_of, sort_bits}
use Rattle.moxi_lines.specs.TermLines.{CallLines, Built, call_lines, neighbours, pairs_of, place_in, with_constant, with_datum, with_operator, with_term, with_terms}
use Rattle.moxi_lines.specs.TermLaws.{AreNumbered, HaveCodes, Makes, RepresentEach, Represents, VariablesAreRepresented}
use Rattle.moxi_lines.proofs.Growing.{grown_long, grown_meets, grown_none, grown_then, grown_width}
use Rattle.moxi_lines.proofs.Steps.{constant_step, one_step, word_grows, zero_step}
use Rattle.moxi_lines.proofs.Chains.{binary_grows, chain_grows, compared_grows, implied_grows}
use Rattle.moxi_lines.proofs.CodeLaws.{code_is_word}
use Rattle.moxi_lines.proofs.Operators.{AllStand, Operand, data_of, operand, operator_made, places, sorts}

-- ---- growth

abbrev Grows : List Line → Built → Type 0
Grows lines m = GrowsByShared lines m.0

constant_grows : (lines : List Line) (c : BitVector) → Grows lines (with_constant lines c)
constant_grows lines c = word_grows lines (line.Constant c) c.width [] refl

datum_grows : (es : List Enumeration) (lines : List Line) (d : Datum) → Grows lines (with_datum es lines d)
datum_grows es lines (datum.Truth true) = word_grows lines line.One 1 [] refl
datum_grows es lines (datum.Truth false) = word_grows lines line.Zero 1 [] refl
datum_grows es lines (datum.Bits v) = constant_grows lines v
datum_grows es lines (datum.Constant n i) = constant_grows lines (code_of es (datum.Constant n i))

operator_grows : (o : TermOp) (lines : List Line) (ps : List ℕ) → Grows lines (with_operator o lines ps)
operator_grows op.Not lines [] = grown_none lines
operator_grows op.Not lines (p ∷ []) = word_grows lines (line.Unary one.Not) (unary_width one.Not (width_at lines p)) (plain_arg p ∷ []) refl
operator_grows op.Not lines (p ∷ q ∷ ps) = grown_none lines
operator_grows op.And lines ps = chain_grows two.And lines ps
operator_grows op.Or lines ps = chain_grows two.Or lines ps
operator_grows op.Xor lines ps = chain_grows two.Xor lines ps
operator_grows op.Implies lines [] = grown_none lines
operator_grows op.Implies lines (p ∷ ps) = implied_grows lines p ps
operator_grows op.Equal lines [] = grown_none lines
operator_grows op.Equal lines (p ∷ ps) = compared_grows two.Eq lines (neighbours p ps)
operator_grows op.Distinct lines ps = compared_grows two.Neq lines (pairs_of ps)
operator_grows op.Ite lines [] = grown_none lines
operator_grows op.Ite lines (c ∷ []) = grown_none lines
operator_grows op.Ite lines (c ∷ p ∷ []) = grown_none lines
operator_grows op.Ite lines (c ∷ p ∷ q ∷ []) = word_grows lines line.Ite (width_at lines p) (plain_arg c ∷ plain_arg p ∷ plain_arg q ∷ []) refl
operator_grows op.Ite lines (c ∷ p ∷ q ∷ r ∷ ps) = grown_none lines
operator_grows op.Concat lines [] = grown_none lines
operator_grows op.Concat lines (p ∷ []) = grown_none lines
operator_grows op.Concat lines (p ∷ q ∷ []) = binary_grows two.Concat lines p q
operator_grows op.Concat lines (p ∷ q ∷ r ∷ ps) = grown_none lines
operator_grows (op.Extract high low) lines [] = grown_none lines
operator_grows (op.Extract high low) lines (p ∷ []) = word_grows lines (line.Slice high low) _ (plain_arg p ∷ []) refl
operator_grows (op.Extract high low) lines (p ∷ q ∷ ps) = grown_none lines
operator_grows (op.ZeroExtend n) lines [] = grown_none lines
operator_grows (op.ZeroExtend zero) lines (p ∷ []) = grown_none lines
operator_grows (op.ZeroExtend (suc n)) lines (p ∷ []) = word_grows lines (line.Uext (suc n)) (width_at lines p + suc n) (plain_arg p ∷ []) refl
operator_grows (op.ZeroExtend n) lines (p ∷ q ∷ ps) = grown_none lines
operator_grows (op.SignExtend n) lines [] = grown_none lines
operator_grows (op.SignExtend zero) lines (p ∷ []) = grown_none lines
operator_grows (op.SignExtend (suc n)) lines (p ∷ []) = word_grows lines (line.Sext (suc n)) (width_at lines p + suc n) (plain_arg p ∷ []) refl
operator_grows (op.SignExtend n) lines (p ∷ q ∷ ps) = grown_none lines
operator_grows (op.BvUnary u) lines [] = grown_none lines
operator_grows (op.BvUnary u) lines (p ∷ []) = word_grows lines (line.Unary u) (unary_width u (width_at lines p)) (plain_arg p ∷ []) refl
operator_grows (op.BvUnary u) lines (p ∷ q ∷ ps) = grown_none lines
operator_grows (op.BvBinary b) lines ps = chain_grows b lines ps

-- what calls make grows quietly
pub record CallsGrow (calls : CallLines) : Type 0 where
  pub each : (n : ℕ) (lines : List Line) (ps : List ℕ) → Grows lines (calls n lines ps)

module _ (es : List Enumeration) (calls : CallLines) (grow : CallsGrow calls) (now later : ℕ → ℕ) where
  mutual
    pub term_grows : (bounds : List ℕ) (lines : List Line) (t : Tree) → GrowsByShared lines (with_term es calls now later bounds lines t).0
    term_grows bounds lines (constant d) = datum_grows es lines d
    term_grows bounds lines (variable v primed) = grown_none lines
    term_grows bounds lines (bound i) = grown_none lines
    term_grows bounds lines (apply o ts) =
        let m = with_terms es calls now later bounds lines ts in
        grown_then lines m.0 (with_operator o m.0 m.1).0 (terms_grow bounds lines ts) (operator_grows o m.0 m.1)
    term_grows bounds lines (binding names ts t) =
        let m = with_terms es calls now later bounds lines ts in
        grown_then lines m.0 (with_term es calls now later (bounds ++ m.1) m.0 t).0 (terms_grow bounds lines ts) (term_grows (bounds ++ m.1) m.0 t)
    term_grows bounds lines (call n ts) =
        let m = with_terms es calls now later bounds lines ts in
        grown_then lines m.0 (calls n m.0 m.1).0 (terms_grow bounds lines ts) (grow.each n m.0 m.1)

    pub terms_grow : (bounds : List ℕ) (lines : List Line) (ts : Trees) → GrowsByShared lines (with_terms es calls now later bounds lines ts).0
    terms_grow bounds lines no_trees = grown_none lines
    terms_grow bounds lines (tree t ts) =
        let m = with_term es calls now later bounds lines t in
        grown_then lines m.0 (with_terms es calls now later bounds m.0 ts).0 (term_grows bounds lines t) (terms_grow bounds m.0 ts)

cond_grows : (b : Bool) (lines : List Line) (m n : Built) → Grows lines m → Grows lines n → Grows lines (cond b m n)
cond_grows true lines m n g h = g
cond_grows false lines m n g h = h

pub calls_grow : (es : List Enumeration) (fs : List PlainFunction) (k : ℕ) → CallsGrow (call_lines es fs k)
calls_grow es fs zero = record { each = λ n lines ps. grown_none lines }
calls_grow es fs (suc k) =
    record {
      each = λ n lines ps. cond_grows _ lines _ _
          (term_grows es (call_lines es fs k) (calls_grow es fs k) (place_in ps) (place_in ps) [] lines (body_at fs k)) ((calls_grow es fs k).each n lines ps);
    }

-- ---- words

module _ (es : List Enumeration) (row : List BitVector) (known : Bool) where
  pub later_stands : (a b : List Line) (p : ℕ) (s : Sort) (d : Datum) → GrowsByShared a b → Represents es row known a p s d → Represents es row known b p s d
  later_stands a b p s d g x =
      record { wide = x.wide; width = grown_width a b p (sort_bits es s) x.wide g x.width; word = λ k m. x.word k (grown_meets a b row g m) }

  pub all_later : (a b : List Line) (ps : List ℕ) (ss : List Sort) (ds : List Datum) → GrowsByShared a b → RepresentEach es row known a ps ss ds → RepresentEach es row known b ps ss ds
  all_later a b [] [] [] g x = tt
  all_later a b [] [] (d ∷ ds) g x = absurd x
  all_later a b [] (s ∷ ss) ds g x = absurd x
  all_later a b (p ∷ ps) [] ds g x = absurd x
  all_later a b (p ∷ ps) (s ∷ ss) [] g x = absurd x
  all_later a b (p ∷ ps) (s ∷ ss) (d ∷ ds) g x = (later_stands a b p s d g x.0, all_later a b ps ss ds g x.1)

  pub both_stand : (lines : List Line) (ps qs : List ℕ) (ss ts : List Sort) (ds es' : List Datum) → RepresentEach es row known lines ps ss ds → RepresentEach es row known lines qs ts es' → RepresentEach es row known lines (ps ++ qs) (ss ++ ts) (ds ++ es')
  both_stand lines [] qs [] ts [] es' x y = y
  both_stand lines [] qs [] ts (d ∷ ds) es' x y = absurd x
  both_stand lines [] qs (s ∷ ss) ts ds es' x y = absurd x
  both_stand lines (p ∷ ps) qs [] ts ds es' x y = absurd x
  both_stand lines (p ∷ ps) qs (s ∷ ss) ts [] es' x y = absurd x
  both_stand lines (p ∷ ps) qs (s ∷ ss) ts (d ∷ ds) es' x y = (x.0, both_stand lines ps qs ss ts ds es' x.1 y)

  pub stands_in : (lines : List Line) (ps : List ℕ) (ss : List Sort) (ds : List Datum) (i : ℕ) (s : Sort) → RepresentEach es row known lines ps ss ds → slice_get ss i ≡ Some s → Represents es row known lines (place_in ps i) s (at ds i)
  stands_in lines ps [] ds i s x h = absurd (none-some s h)
  stands_in lines [] (t ∷ ss) ds i s x h = absurd x
  stands_in lines (p ∷ ps) (t ∷ ss) [] i s x h = absurd x
  stands_in lines (p ∷ ps) (t ∷ ss) (d ∷ ds) zero s x h = subst (λ u. Represents es row known lines p u d) (same_Some t s h) x.0
  stands_in lines (p ∷ ps) (t ∷ ss) (d ∷ ds) (suc i) s x h = stands_in lines ps ss ds i s x.1 h

  later_variables : (a b : List Line) (vars : List Sort) (places : ℕ → ℕ) (values : Values) → GrowsByShared a b → VariablesAreRepresented es row known a vars places values → VariablesAreRepresented es row known b vars places values
  later_variables a b vars places values g x = record { sorted = x.sorted; each = λ v s h. later_stands a b (places v) s (values v) g (x.each v s h) }

  -- the arguments as operands
  record Listed (lines : List Line) (n : AreNumbered lines) (ps : List ℕ) (ss : List Sort) (ds : List Datum) : Type 0 where
    list : List Operand
    places_are : places list ≡ ps
    sorts_are : sorts list ≡ ss
    data_are : data_of list ≡ ds
    stand : AllStand es row known lines n list

  listed : (lines : List Line) (n : AreNumbered lines) (ps : List ℕ) (ss : List Sort) (ds : List Datum) → RepresentEach es row known lines ps ss ds → Fit es ss ds → Listed lines n ps ss ds
  listed lines n [] [] [] x f = record { list = []; places_are = refl; sorts_are = refl; data_are = refl; stand = tt }
  listed lines n [] [] (d ∷ ds) x f = absurd f
  listed lines n [] (s ∷ ss) ds x f = absurd x
  listed lines n (p ∷ ps) [] ds x f = absurd x
  listed lines n (p ∷ ps) (s ∷ ss) [] x f = absurd x
  listed lines n (p ∷ ps) (s ∷ ss) (d ∷ ds) x f =
      let r = listed lines n ps ss ds x.1 f.1 in
      record {
        list = operand p s d ∷ r.list;
        places_are = ap (λ zs. p ∷ zs) r.places_are;
        sorts_are = ap (λ zs. s ∷ zs) r.sorts_are;
        data_are = ap (λ zs. d ∷ zs) r.data_are;
        stand = ((x.0, f.0), r.stand);
      }

  applied : (lines : List Line) (n : AreNumbered lines) (o : TermOp) (ps : List ℕ) (ss : List Sort) (ds : List Datum) (s : Sort) → RepresentEach es row known lines ps ss ds → Fit es ss ds → op_sort o ss ≡ Ok s
      → length (with_operator o lines ps).0 < greatest_id → Makes es row known lines (with_operator o lines ps) s (op_value o ds)
  applied lines n o ps ss ds s x f h room =
      let r = listed lines n ps ss ds x f in
      let made = operator_made es row known lines n o r.list s r.stand (ap (op_sort o) r.sorts_are ∙ h) (subst (λ qs. length (with_operator o lines qs).0 < greatest_id) (sym r.places_are) room) in
      subst (λ qs. Makes es row known lines (with_operator o lines qs) s (op_value o ds)) r.places_are
      (subst (λ vs. Makes es row known lines (with_operator o lines (places r.list)) s (op_value o vs)) r.data_are made)

  -- what was made of lines that something was made of before
  behind : (a b : List Line) (m : Built) (s : Sort) (d : Datum) → GrowsByShared a b → Makes es row known b m s d → Makes es row known a m s d
  behind a b m s d g x = record { grows = grown_then a b m.0 g x.grows; numbered = x.numbered; stands = x.stands }

  module _ (codes : HaveCodes es) where
    datum_made : (lines : List Line) (s : Sort) (d : Datum) → AreNumbered lines → IsOf es s d → length (with_datum es lines d).0 < greatest_id → Makes es row known lines (with_datum es lines d) s d
    datum_made lines s (datum.Truth true) n h room =
        let w = code_is_word es codes s (datum.Truth true) h in
        let x = one_step row known lines n room in
        record { grows = x.grows; numbered = x.numbered; stands = record { wide = subst (λ i. 1 ≤ i) w.1 (omega arith); width = x.at.width ∙ w.1; word = x.at.word } }
    datum_made lines s (datum.Truth false) n h room =
        let w = code_is_word es codes s (datum.Truth false) h in
        let x = zero_step row known lines n room in
        record { grows = x.grows; numbered = x.numbered; stands = record { wide = subst (λ i. 1 ≤ i) w.1 (omega arith); width = x.at.width ∙ w.1; word = x.at.word } }
    datum_made lines s (datum.Bits v) n h room =
        let w = code_is_word es codes s (datum.Bits v) h in
        let x = constant_step row known lines v n w.0 room in
        record { grows = x.grows; numbered = x.numbered; stands = record { wide = subst (λ i. 1 ≤ i) w.1 w.0.0; width = x.at.width ∙ w.1; word = x.at.word } }
    datum_made lines s (datum.Constant m i) n h room =
        let w = code_is_word es codes s (datum.Constant m i) h in
        let x = constant_step row known lines (code_of es (datum.Constant m i)) n w.0 room in
        record { grows = x.grows; numbered = x.numbered; stands = record { wide = subst (λ i. 1 ≤ i) w.1 w.0.0; width = x.at.width ∙ w.1; word = x.at.word } }

    -- what calls make, for arguments of the parameters' sorts
    record CallsMake (fs : List PlainFunction) (made : CallLines) (calls : Calls) : Type 0 where
      each : (n : ℕ) (f : PlainFunction) (lines : List Line) (ps : List ℕ) (ds : List Datum) → slice_get fs n ≡ Some f → AreNumbered lines → Fit es (sorts_of f.parameters) ds
          → RepresentEach es row known lines ps (sorts_of f.parameters) ds → length (made n lines ps).0 < greatest_id → Makes es row known lines (made n lines ps) f.result (calls n ds)

    record AllMakes (lines : List Line) (m : List Line × List ℕ) (ss : List Sort) (ds : List Datum) : Type 0 where
      grows : GrowsByShared lines m.0
      numbered : AreNumbered m.0
      stand : RepresentEach es row known m.0 m.1 ss ds

    module _ (fs : List PlainFunction) (made : CallLines) (calls : Calls) (grow : CallsGrow made) (make : CallsMake fs made calls) (suit : CallsSuit es fs calls)
        (vars : List Sort) (now later : ℕ → ℕ) (now_values later_values : Values) where
      values_fit : (bounds : List Sort) (vals : List Datum) (ts : Trees) (ss : List Sort) {lines : List Line} → VariablesAreRepresented es row known lines vars now now_values → VariablesAreRepresented es row known lines vars later later_values → Fit es bounds vals
          → HaveSorts es fs vars bounds ts ss → Fit es ss (term_values calls now_values later_values vals ts)
      values_fit bounds vals ts ss v w f h =
          values_sorted es fs calls suit vars now_values later_values (record { each = v.sorted }) (record { each = w.sorted }) bounds vals ts ss f h

      mutual
        term_made : (bounds : List Sort) (places : List ℕ) (vals : List Datum) (lines : List Line) (t : Tree) (s : Sort) → AreNumbered lines
            → VariablesAreRepresented es row known lines vars now now_values → VariablesAreRepresented es row known lines vars later later_values → Fit es bounds vals → RepresentEach es row known lines places bounds vals
            → HasSort es fs vars bounds t s → length (with_term es made now later places lines t).0 < greatest_id
            → Makes es row known lines (with_term es made now later places lines t) s (term_value calls now_values later_values vals t)
        term_made bounds places vals lines (constant d) s n v w f b h room = datum_made lines s d n h room
        term_made bounds places vals lines (variable i true) s n v w f b h room = record { grows = grown_none lines; numbered = n; stands = w.each i s h }
        term_made bounds places vals lines (variable i false) s n v w f b h room = record { grows = grown_none lines; numbered = n; stands = v.each i s h }
        term_made bounds places vals lines (bound i) s n v w f b h room = record { grows = grown_none lines; numbered = n; stands = stands_in lines places bounds vals i s b h }
        term_made bounds places vals lines (apply o ts) s n v w f b h room =
            let m = with_terms es made now later places lines ts in
            let few : length m.0 < greatest_id = omega (arith, room, grown_long m.0 (with_operator o m.0 m.1).0 (operator_grows o m.0 m.1)) in
            let r = terms_made bounds places vals lines ts h.0 n v w f b h.1 few in
            let g = values_fit bounds vals ts h.0 v w f h.1 in
            behind lines m.0 (with_operator o m.0 m.1) s _ r.grows (applied m.0 r.numbered o m.1 h.0 _ s r.stand g h.2 room)
        term_made bounds places vals lines (binding names ts t) s n v w f b h room =
            let m = with_terms es made now later places lines ts in
            let few : length m.0 < greatest_id = omega (arith, room, grown_long m.0 (with_term es made now later (places ++ m.1) m.0 t).0 (term_grows es made grow now later (places ++ m.1) m.0 t)) in
            let r = terms_made bounds places vals lines ts h.0 n v w f b h.2 few in
            let g = values_fit bounds vals ts h.0 v w f h.2 in
            behind lines m.0 (with_term es made now later (places ++ m.1) m.0 t) s _ r.grows
            (term_made (bounds ++ h.0) (places ++ m.1) (vals ++ term_values calls now_values later_values vals ts) m.0 t s r.numbered
            (later_variables lines m.0 vars now now_values r.grows v) (later_variables lines m.0 vars later later_values r.grows w) (fit_append es bounds h.0 vals _ f g)
            (both_stand m.0 places m.1 bounds h.0 vals _ (all_later lines m.0 places bounds vals r.grows b) r.stand) h.3 room)
        term_made bounds places vals lines (call i ts) s n v w f b h room =
            let m = with_terms es made now later places lines ts in
            let few : length m.0 < greatest_id = omega (arith, room, grown_long m.0 (made i m.0 m.1).0 (grow.each i m.0 m.1)) in
            let r = terms_made bounds places vals lines ts (sorts_of h.0.parameters) n v w f b h.2 few in
            let g = values_fit bounds vals ts (sorts_of h.0.parameters) v w f h.2 in
            behind lines m.0 (made i m.0 m.1) s _ r.grows
            (subst (λ u. Makes es row known m.0 (made i m.0 m.1) u (calls i (term_values calls now_values later_values vals ts))) h.3 (make.each i h.0 m.0 m.1 _ h.1 r.numbered g r.stand room))

        terms_made : (bounds : List Sort) (places : List ℕ) (vals : List Datum) (lines : List Line) (ts : Trees) (ss : List Sort) → AreNumbered lines
            → VariablesAreRepresented es row known lines vars now now_values → VariablesAreRepresented es row known lines vars later later_values → Fit es bounds vals → RepresentEach es row known lines places bounds vals
            → HaveSorts es fs vars bounds ts ss → length (with_terms es made now later places lines ts).0 < greatest_id
            → AllMakes lines (with_terms es made now later places lines ts) ss (term_values calls now_values later_values vals ts)
        terms_made bounds places vals lines no_trees [] n v w f b h room = record { grows = grown_none lines; numbered = n; stand = tt }
        terms_made bounds places vals lines no_trees (s ∷ ss) n v w f b h room = absurd h
        terms_made bounds places vals lines (tree t ts) [] n v w f b h room = absurd h
        terms_made bounds places vals lines (tree t ts) (s ∷ ss) n v w f b h room =
            let m = with_term es made now later places lines t in
            let more = with_terms es made now later places m.0 ts in
            let g = terms_grow es made grow now later places m.0 ts in
            let few : length m.0 < greatest_id = omega (arith, room, grown_long m.0 more.0 g) in
            let r = term_made bounds places vals lines t s n v w f b h.0 few in
            let q = terms_made bounds places vals m.0 ts ss r.numbered (later_variables lines m.0 vars now now_values r.grows v) (later_variables lines m.0 vars later later_values r.grows w) f (all_later lines m.0 places bounds vals r.grows b) h.1 room in
            record { grows = grown_then lines m.0 more.0 r.grows g; numbered = q.numbered; stand = (later_stands m.0 more.0 m.1 s _ g r.stands, q.stand) }

    -- ---- calls

    lines_at : (fs : List PlainFunction) (k n : ℕ) (lines : List Line) (ps : List ℕ) → n < k → call_lines es fs k n lines ps ≡ with_term es (call_lines es fs n) (place_in ps) (place_in ps) [] lines (body_at fs n)
    lines_at fs zero n lines ps h = absurd (omega arith)
    lines_at fs (suc k) n lines ps h =
        elim (eqb_tells n k) [
          | inl e ↦ ap (λ b. cond b (with_term es (call_lines es fs k) (place_in ps) (place_in ps) [] lines (body_at fs k)) (call_lines es fs k n lines ps)) e.0
              ∙ ap (λ k. with_term es (call_lines es fs k) (place_in ps) (place_in ps) [] lines (body_at fs k)) (sym e.1)
          | inr e ↦ ap (λ b. cond b (with_term es (call_lines es fs k) (place_in ps) (place_in ps) [] lines (body_at fs k)) (call_lines es fs k n lines ps)) e.0
              ∙ lines_at fs k n lines ps (let h2 : n < k = grind arith in h2)
        ]

    parameters_stand : (lines : List Line) (ps : List ℕ) (ss : List Sort) (ds : List Datum) → Fit es ss ds → RepresentEach es row known lines ps ss ds → VariablesAreRepresented es row known lines ss (place_in ps) (at ds)
    parameters_stand lines ps ss ds f x = record { sorted = λ v s h. fit_at es ss ds v s f h; each = λ v s h. stands_in lines ps ss ds v s x h }

    -- by induction on a bound of the number
    make_below : (fs : List PlainFunction) → AreFunctions es fs → (b k : ℕ) → k ≤ b → CallsMake (take k fs) (call_lines es fs k) (calls_upto fs k)
    make_below fs a zero k le = record { each = λ n f lines ps ds h m fit x room. absurd (let p = taken_at fs k n f h in let q : n < k = p.1 in omega arith) }
    make_below fs a (suc b) k le =
        record {
          each = λ n f lines ps ds h m fit x room.
              let p = taken_at fs k n f h in
              let n_small : n ≤ b = omega (arith, p.1) in
              let e : body_at fs n ≡ f.body = ap (λ (f : PlainFunction). f.body) (read_at fs n f _ p.0) in
              let here : call_lines es fs k n lines ps ≡ with_term es (call_lines es fs n) (place_in ps) (place_in ps) [] lines f.body =
              lines_at fs k n lines ps p.1 ∙ ap (with_term es (call_lines es fs n) (place_in ps) (place_in ps) [] lines) e in
              let value : calls_upto fs k n ds ≡ term_value (calls_upto fs n) (at ds) (at ds) [] f.body = calls_at fs k n ds p.1 ∙ ap (term_value (calls_upto fs n) (at ds) (at ds) []) e in
              let given = parameters_stand lines ps (sorts_of f.parameters) ds fit x in
              let done = term_made (take n fs) (call_lines es fs n) (calls_upto fs n) (calls_grow es fs n) (make_below fs a b n n_small) (calls_suit es fs a n) (sorts_of f.parameters) (place_in ps) (place_in ps) (at ds) (at ds)
              [] [] [] lines f.body f.result m given given tt tt (a n f p.0).body (subst (λ (z : Built). length z.0 < greatest_id) here room) in
              subst (λ (z : Built). Makes es row known lines z f.result (calls_upto fs k n ds)) (sym here) (subst (λ v. Makes es row known lines (with_term es (call_lines es fs n) (place_in ps) (place_in ps) [] lines f.body) f.result v) (sym value) done);
        }

    pub whole_made : (fs : List PlainFunction) → AreFunctions es fs → (vars : List Sort) (t : Tree) (s : Sort) → HasSort es fs vars [] t s → (lines : List Line) → AreNumbered lines
        → (now later : ℕ → ℕ) (now_values later_values : Values) → VariablesAreRepresented es row known lines vars now now_values → VariablesAreRepresented es row known lines vars later later_values
        → length (with_term es (call_lines es fs (length fs)) now later [] lines t).0 < greatest_id
        → Makes es row known lines (with_term es (call_lines es fs (length fs)) now later [] lines t) s (term_value (calls_upto fs (length fs)) now_values later_values [] t)
    whole_made fs a vars t s h lines n now later now_values later_values v w room =
        let k = length fs in
        let all : take k fs ≡ fs = take_all k fs (omega arith) in
        let le : k ≤ k = omega arith in
        term_made fs (call_lines es fs k) (calls_upto fs k) (calls_grow es fs k) (subst (λ gs. CallsMake gs (call_lines es fs k) (calls_upto fs k)) all (make_below fs a k k le))
        (subst (λ gs. CallsSuit es gs (calls_upto fs k)) all (calls_suit es fs a k)) vars now later now_values later_values [] [] [] lines t s n v w tt tt h room
