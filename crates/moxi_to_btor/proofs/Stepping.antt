-- What a term asks for gives what its parts ask for.
use Rattle.std.proofs.Common.{◌≡◌, ℕ, ◌<◌, ◌≤◌, ◌^◌, true, false, List, [], ◌∷◌, ◌++◌, length, take, Some, sym, ap, ◌∙◌, subst, arith, append_assoc}
use Rattle.std.specs.Prelude.{slice_get, Result, IfOk, Ok, Err}
use Rattle.std.specs.Borrow.{Bor}
use Rattle.std.proofs.lemmas.List.{take_all}
use Rattle.btor_tree.specs.declared.lines.Line.{Line}
use Rattle.btor_tree.specs.Fits.{greatest_id}
use Rattle.btor_tree.specs.Sharing.{GrowsByShared}
use Rattle.moxi_terms.specs.declared.data.Sort.{Sort}
use Rattle.moxi_terms.specs.declared.data.Datum.{Datum}
use Rattle.moxi_terms.specs.declared.data.TermOp.{TermOp}
use Rattle.moxi_terms.specs.declared.term.Enumeration.{Enumeration}
use Rattle.moxi_terms.specs.Sorted.{AreFunctions, HasSort, HaveSorts, IsScope}
use Rattle.moxi_terms.specs.Tree.{Tree, constant, variable, apply, binding, call, Trees, tree, PlainFunction, sorts_of}
use Rattle.moxi_terms.specs.View.{ScopeState}
use Rattle.moxi_terms.proofs.ValueLaws.{read_at, taken_at}
use Rattle.moxi_lines.specs.TermLaws.{HaveCodes}
use Rattle.moxi_lines.specs.TermLines.{AllBuilt, Built, call_lines, followed_by, with_operator, with_term}
use Rattle.moxi_lines.proofs.Growing.{grown_long, wide_inside}
use Rattle.moxi_lines.proofs.Terms.{calls_grow, term_grows, terms_grow}
use Rattle.moxi_to_btor.specs.declared.terms.Places.TheVariants.{At}
use Rattle.moxi_to_btor.specs.declared.terms.Scene.{Scene}
use Rattle.moxi_to_btor.specs.TermPutting.{CanOperate, CanPutDatum}
use Rattle.moxi_to_btor.specs.Standing.{AreAsWide, VariablesAreAsWide}
use Rattle.moxi_to_btor.specs.Terms.{CanPutCall, CanPutTerm, CanPutTerms, CanPutWhole, IsThere, all_lines_in, call_lines_in, functions_in, lines_in, place_by, whole_lines}
use Rattle.moxi_to_btor.proofs.Folding.{put_with}
use Rattle.moxi_to_btor.proofs.Operating.{operated}
use Rattle.moxi_to_btor.proofs.TermWidths.{all_terms_wide, both_wide, called_lines, datum_can, later_all, later_variables, operator_grows, parameters_wide}

there_later : (es : List Enumeration) (fs : List PlainFunction) (upto : ℕ) (vars sorts : List Sort) (now later : ℕ → ℕ) (bounds : List ℕ) (a b : List Line) → GrowsByShared a b
    → IsThere es fs upto vars sorts now later bounds a → IsThere es fs upto vars sorts now later bounds b
there_later es fs upto vars sorts now later bounds a b g h =
    record {
      within = h.within;
      codes = h.codes;
      functions = h.functions;
      stand_now = later_variables es a b vars now g h.stand_now;
      stand_later = later_variables es a b vars later g h.stand_later;
      stand_bound = later_all es a b bounds sorts g h.stand_bound;
    }

-- a variable that is among the lines
variable_inside : (es : List Enumeration) (lines : List Line) (vars : List Sort) (places : ℕ → ℕ) (v : ℕ) (s : Sort) → VariablesAreAsWide es lines vars places → slice_get vars v ≡ Some s → length lines < greatest_id → places v < 2 ^ 32
variable_inside es lines vars places v s h e room =
    let i = h.each v s e in
    let l : places v < length lines = wide_inside lines (places v) _ i.wide i.width in
    omega (arith, l, room)

abbrev pub made : List Line → ℕ → Built
made lines p = (lines, p)

abbrev pub all_made : List Line → List ℕ → AllBuilt
all_made lines ps = (lines, ps)

pub made_same : {E : Type 0} (r : Result ℕ E) (new : List Line) (m n : Built) → m ≡ n → IfOk r (λ p. made new p ≡ m) → IfOk r (λ p. made new p ≡ n)
made_same (Ok p) new m n e h = h ∙ e
made_same (Err x) new m n e h = h

module _ (s : Scene) (bounds : List ℕ) (lines : List Line) where
  all_grow : (ts : Trees) → GrowsByShared lines (all_lines_in s bounds lines ts).0
  all_grow ts = terms_grow s.enumerations.now (call_lines s.enumerations.now (functions_in s) s.upto) (calls_grow s.enumerations.now (functions_in s) s.upto) (place_by s.now) (place_by s.later) bounds lines ts

  one_grows : (t : Tree) → GrowsByShared lines (lines_in s bounds lines t).0
  one_grows t = term_grows s.enumerations.now (call_lines s.enumerations.now (functions_in s) s.upto) (calls_grow s.enumerations.now (functions_in s) s.upto) (place_by s.now) (place_by s.later) bounds lines t

  all_stand : (vars sorts : List Sort) (ts : Trees) (ss : List Sort) → IsThere s.enumerations.now (functions_in s) s.upto vars sorts (place_by s.now) (place_by s.later) bounds lines
      → HaveSorts s.enumerations.now (take s.upto (functions_in s)) vars sorts ts ss → AreAsWide s.enumerations.now (all_lines_in s bounds lines ts).0 (all_lines_in s bounds lines ts).1 ss
  all_stand vars sorts ts ss i h =
      all_terms_wide s.enumerations.now i.codes (functions_in s) i.functions s.upto vars (place_by s.now) (place_by s.later) sorts bounds lines ts ss i.stand_now i.stand_later i.stand_bound h

  sorted_at : (t u : Tree) (c : CanPutTerm s bounds lines t) → t ≡ u → HasSort s.enumerations.now (take s.upto (functions_in s)) c.vars c.sorts u c.sort
  sorted_at t u c e = subst (λ t. HasSort s.enumerations.now (take s.upto (functions_in s)) c.vars c.sorts t c.sort) e c.sorted

  room_at : (t u : Tree) → CanPutTerm s bounds lines t → t ≡ u → length (lines_in s bounds lines u).0 < greatest_id
  room_at t u c e = subst (λ t. length (lines_in s bounds lines t).0 < greatest_id) e c.room

  -- ---- leaves

  pub constant_can_put : (t : Tree) (d : Datum) → CanPutTerm s bounds lines t → t ≡ constant d → CanPutDatum s.enumerations.now lines d
  constant_can_put t d c e = datum_can s.enumerations.now c.there.codes lines c.sort d (sorted_at t (constant d) c e) (room_at t (constant d) c e)

  pub now_small : (t : Tree) (v : ℕ) → CanPutTerm s bounds lines t → t ≡ variable v false → place_by s.now v < 2 ^ 32
  now_small t v c e = variable_inside s.enumerations.now lines c.vars (place_by s.now) v c.sort c.there.stand_now (sorted_at t (variable v false) c e) (room_at t (variable v false) c e)

  pub later_small : (t : Tree) (v : ℕ) → CanPutTerm s bounds lines t → t ≡ variable v true → place_by s.later v < 2 ^ 32
  later_small t v c e = variable_inside s.enumerations.now lines c.vars (place_by s.later) v c.sort c.there.stand_later (sorted_at t (variable v true) c e) (room_at t (variable v true) c e)

  -- ---- arguments

  arguments_can : (t : Tree) (ts : Trees) (ss : List Sort) (c : CanPutTerm s bounds lines t) → HaveSorts s.enumerations.now (take s.upto (functions_in s)) c.vars c.sorts ts ss → length (all_lines_in s bounds lines ts).0 < greatest_id → CanPutTerms s bounds lines ts
  arguments_can t ts ss c h room = record { vars = c.vars; sorts = c.sorts; own = ss; there = c.there; sorted = h; room = room }

  pub operands_can : (t : Tree) (o : TermOp) (ts : Trees) → CanPutTerm s bounds lines t → t ≡ apply o ts → CanPutTerms s bounds lines ts
  operands_can t o ts c e =
      let m = all_lines_in s bounds lines ts in
      let h = sorted_at t (apply o ts) c e in
      arguments_can t ts h.0 c h.1 (omega (arith, room_at t (apply o ts) c e, grown_long m.0 (with_operator o m.0 m.1).0 (operator_grows o m.0 m.1)))

  pub operator_can : (t : Tree) (o : TermOp) (ts : Trees) (m : AllBuilt) → CanPutTerm s bounds lines t → t ≡ apply o ts → m ≡ all_lines_in s bounds lines ts → CanOperate o m.0 m.1
  operator_can t o ts m c e f =
      let n = all_lines_in s bounds lines ts in
      let h = sorted_at t (apply o ts) c e in
      subst (λ (n : AllBuilt). CanOperate o n.0 n.1) (sym f) ((operated s.enumerations.now n.0 o n.1 h.0 c.sort (all_stand c.vars c.sorts ts h.0 c.there h.1) h.2).can (room_at t (apply o ts) c e))

  pub values_can : (t : Tree) (names : List (List ℕ)) (ts : Trees) (u : Tree) → CanPutTerm s bounds lines t → t ≡ binding names ts u → CanPutTerms s bounds lines ts
  values_can t names ts u c e =
      let m = all_lines_in s bounds lines ts in
      let h = sorted_at t (binding names ts u) c e in
      arguments_can t ts h.0 c h.2 (omega (
        arith,
        room_at t (binding names ts u) c e,
        grown_long m.0 (lines_in s (bounds ++ m.1) m.0 u).0
            (term_grows s.enumerations.now (call_lines s.enumerations.now (functions_in s) s.upto) (calls_grow s.enumerations.now (functions_in s) s.upto) (place_by s.now) (place_by s.later) (bounds ++ m.1) m.0 u),
      ))

  pub inner_can : (t : Tree) (names : List (List ℕ)) (ts : Trees) (u : Tree) (m : AllBuilt) → CanPutTerm s bounds lines t → t ≡ binding names ts u → m ≡ all_lines_in s bounds lines ts → CanPutTerm s (bounds ++ m.1) m.0 u
  inner_can t names ts u m c e f =
      let n = all_lines_in s bounds lines ts in
      let h = sorted_at t (binding names ts u) c e in
      let i = there_later s.enumerations.now (functions_in s) s.upto c.vars c.sorts (place_by s.now) (place_by s.later) bounds lines n.0 (all_grow ts) c.there in
      subst (λ (n : AllBuilt). CanPutTerm s (bounds ++ n.1) n.0 u) (sym f)
      (record {
        vars = c.vars;
        sorts = c.sorts ++ h.0;
        sort = c.sort;
        there = record {
          within = i.within;
          codes = i.codes;
          functions = i.functions;
          stand_now = i.stand_now;
          stand_later = i.stand_later;
          stand_bound = both_wide s.enumerations.now n.0 bounds n.1 c.sorts h.0 i.stand_bound (all_stand c.vars c.sorts ts h.0 c.there h.2);
        };
        sorted = h.3;
        room = room_at t (binding names ts u) c e;
      })

  pub actuals_can : (t : Tree) (n : ℕ) (ts : Trees) → CanPutTerm s bounds lines t → t ≡ call n ts → CanPutTerms s bounds lines ts
  actuals_can t n ts c e =
      let m = all_lines_in s bounds lines ts in
      let h = sorted_at t (call n ts) c e in
      arguments_can t ts (sorts_of h.0.parameters) c h.2 (omega (arith, room_at t (call n ts) c e, grown_long m.0 (call_lines_in s n m.0 m.1).0 ((calls_grow s.enumerations.now (functions_in s) s.upto).each n m.0 m.1)))

  pub call_can : (t : Tree) (n : ℕ) (ts : Trees) (m : AllBuilt) → CanPutTerm s bounds lines t → t ≡ call n ts → m ≡ all_lines_in s bounds lines ts → CanPutCall s n m.0 m.1
  call_can t n ts m c e f =
      let k = all_lines_in s bounds lines ts in
      let h = sorted_at t (call n ts) c e in
      subst (λ (k : AllBuilt). CanPutCall s n k.0 k.1) (sym f)
      (record {
        function = h.0;
        found = h.1;
        within = c.there.within;
        codes = c.there.codes;
        functions = c.there.functions;
        stand = all_stand c.vars c.sorts ts (sorts_of h.0.parameters) c.there h.2;
        room = room_at t (call n ts) c e;
      })

  -- ---- lists of terms

  record Split (vars sorts : List Sort) (t : Tree) (ts : Trees) : Type 0 where
    sort : Sort
    rest : List Sort
    first : HasSort s.enumerations.now (take s.upto (functions_in s)) vars sorts t sort
    others : HaveSorts s.enumerations.now (take s.upto (functions_in s)) vars sorts ts rest

  split : (vars sorts : List Sort) (t : Tree) (ts : Trees) (ss : List Sort) → HaveSorts s.enumerations.now (take s.upto (functions_in s)) vars sorts (tree t ts) ss → Split vars sorts t ts
  split vars sorts t ts [] h = absurd h
  split vars sorts t ts (u ∷ ss) h = record { sort = u; rest = ss; first = h.0; others = h.1 }

  split_at : (ts : Trees) (t : Tree) (us : Trees) (c : CanPutTerms s bounds lines ts) → ts ≡ tree t us → Split c.vars c.sorts t us
  split_at ts t us c e = split c.vars c.sorts t us c.own (subst (λ ts. HaveSorts s.enumerations.now (take s.upto (functions_in s)) c.vars c.sorts ts c.own) e c.sorted)

  pub first_can : (ts : Trees) (t : Tree) (us : Trees) → CanPutTerms s bounds lines ts → ts ≡ tree t us → CanPutTerm s bounds lines t
  first_can ts t us c e =
      let h = split_at ts t us c e in
      let m = lines_in s bounds lines t in
      let all : length (all_lines_in s bounds lines (tree t us)).0 < greatest_id = subst (λ ts. length (all_lines_in s bounds lines ts).0 < greatest_id) e c.room in
      let g = terms_grow s.enumerations.now (call_lines s.enumerations.now (functions_in s) s.upto) (calls_grow s.enumerations.now (functions_in s) s.upto) (place_by s.now) (place_by s.later) bounds m.0 us in
      record { vars = c.vars; sorts = c.sorts; sort = h.sort; there = c.there; sorted = h.first; room = omega (arith, all, grown_long m.0 (all_lines_in s bounds m.0 us).0 g) }

  pub rest_can : (ts : Trees) (t : Tree) (us : Trees) (m : Built) → CanPutTerms s bounds lines ts → ts ≡ tree t us → m ≡ lines_in s bounds lines t → CanPutTerms s bounds m.0 us
  rest_can ts t us m c e f =
      let h = split_at ts t us c e in
      let n = lines_in s bounds lines t in
      subst (λ (m : Built). CanPutTerms s bounds m.0 us) (sym f)
      (record {
        vars = c.vars;
        sorts = c.sorts;
        own = h.rest;
        there = there_later s.enumerations.now (functions_in s) s.upto c.vars c.sorts (place_by s.now) (place_by s.later) bounds lines n.0 (one_grows t) c.there;
        sorted = h.others;
        room = subst (λ ts. length (all_lines_in s bounds lines ts).0 < greatest_id) e c.room;
      })

  pub step_told : (new : List Line) (place : ℕ) (places more : List ℕ) (whole : Trees) (t : Tree) (rest : Trees) → made new place ≡ lines_in s bounds lines t → more ≡ places ++ place ∷ [] → whole ≡ tree t rest
      → put_with more (all_lines_in s bounds new rest) ≡ put_with places (all_lines_in s bounds lines whole)
  step_told new place places more whole t rest e f g =
      let a = all_lines_in s bounds new rest in
      ap (λ ps. put_with ps a) f
      ∙ ap (λ ps. all_made a.0 ps) (append_assoc places (place ∷ []) a.1)
      ∙ ap (λ (m : Built). put_with places (followed_by m.1 (all_lines_in s bounds m.0 rest))) e
      ∙ ap (λ ts. put_with places (all_lines_in s bounds lines ts)) (sym g)

-- ---- calls

-- where a function's body stands
abbrev pub inside_call : Scene → ℕ → Bor (List ℕ) → Scene
inside_call s n ps = record { enumerations = s.enumerations; functions = s.functions; upto = n; now = At ps; later = At ps }

module _ (s : Scene) (n : ℕ) (lines : List Line) (ps : Bor (List ℕ)) (body : Tree) (c : CanPutCall s n lines ps.now) (same : c.function.body ≡ body) where
  pub call_is : call_lines_in s n lines ps.now ≡ lines_in (inside_call s n ps) [] lines body
  call_is =
      let p = taken_at (functions_in s) s.upto n c.function c.found in
      called_lines s.enumerations.now (functions_in s) s.upto n lines ps.now p.1
      ∙ ap (λ b. lines_in (inside_call s n ps) [] lines b) (ap (λ (f : PlainFunction). f.body) (read_at (functions_in s) n c.function _ p.0) ∙ same)

  pub body_can : CanPutTerm (inside_call s n ps) [] lines body
  body_can =
      let p = taken_at (functions_in s) s.upto n c.function c.found in
      let given = parameters_wide s.enumerations.now lines ps.now (sorts_of c.function.parameters) c.stand in
      record {
        vars = sorts_of c.function.parameters;
        sorts = [];
        sort = c.function.result;
        there = record {
          within = (let l : n < s.upto = p.1 in let m : s.upto ≤ length (functions_in s) = c.within in omega arith);
          codes = c.codes;
          functions = c.functions;
          stand_now = given;
          stand_later = given;
          stand_bound = tt;
        };
        sorted = subst (λ b. HasSort s.enumerations.now (take n (functions_in s)) (sorts_of c.function.parameters) [] b c.function.result) same (c.functions n c.function p.0).body;
        room = subst (λ (m : Built). length m.0 < greatest_id) call_is c.room;
      }

-- ---- whole terms

-- a scene of all functions of a scope
pub record IsValid (scope : ScopeState) (s : Scene) : Type 0 where
  pub enumerations : s.enumerations.now ≡ scope.enumerations
  pub functions : functions_in s ≡ scope.functions
  pub upto : s.upto ≡ length scope.functions
  pub sound : IsScope scope

module _ (scope : ScopeState) (s : Scene) (w : IsValid scope s) (lines : List Line) (t : Tree) where
  pub whole_is : lines_in s [] lines t ≡ whole_lines scope (place_by s.now) (place_by s.later) lines t
  whole_is =
      ap (λ es. with_term es (call_lines es (functions_in s) s.upto) (place_by s.now) (place_by s.later) [] lines t) w.enumerations
      ∙ ap (λ fs. with_term scope.enumerations (call_lines scope.enumerations fs s.upto) (place_by s.now) (place_by s.later) [] lines t) w.functions
      ∙ ap (λ k. with_term scope.enumerations (call_lines scope.enumerations scope.functions k) (place_by s.now) (place_by s.later) [] lines t) w.upto

  pub whole_can : CanPutWhole scope (place_by s.now) (place_by s.later) lines t → CanPutTerm s [] lines t
  whole_can c =
      let es = sym w.enumerations in
      let all : take s.upto (functions_in s) ≡ scope.functions = ap (λ fs. take s.upto fs) w.functions ∙ take_all s.upto scope.functions (omega (arith, w.upto)) in
      record {
        vars = c.vars;
        sorts = [];
        sort = c.sort;
        there = record {
          within = omega (arith, w.upto, ap length w.functions);
          codes = subst HaveCodes es c.codes;
          functions = subst (λ fs. AreFunctions s.enumerations.now fs) (sym w.functions) (subst (λ es. AreFunctions es scope.functions) es w.sound.functions);
          stand_now = subst (λ es. VariablesAreAsWide es lines c.vars (place_by s.now)) es c.stand_now;
          stand_later = subst (λ es. VariablesAreAsWide es lines c.vars (place_by s.later)) es c.stand_later;
          stand_bound = tt;
        };
        sorted = subst (λ fs. HasSort s.enumerations.now fs c.vars [] t c.sort) (sym all) (subst (λ es. HasSort es scope.functions c.vars [] t c.sort) es c.sorted);
        room = subst (λ (m : Built). length m.0 < greatest_id) (sym whole_is) c.room;
      }
