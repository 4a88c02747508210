-- The lines of a flat system lay it out.
use Rattle.std.proofs.Common.{◌≡◌, ℕ, suc, ◌<◌, Bool, true, false, not, cond, eqb, List, [], ◌∷◌, ◌++◌, length, map, Some, None, refl, sym, ap, ◌∙◌, subst, arith}
use Rattle.std.specs.Prelude.{codes, drop, flat_map, option_map, slice_get, slice_index_or}
use Rattle.std.specs.Option.{option_or}
use Rattle.std.specs.List.{AllZip}
use Rattle.std.proofs.lemmas.Bool.Decides.{nat_tests}
use Rattle.std.proofs.lemmas.List.{append-nil, length-map}
use Rattle.std.proofs.Math.Seq.{drop-append_seam}
use Rattle.word_core.specs.Words.{BitVector}
use Rattle.btor_tree.specs.declared.lines.Line.{Line}
use Rattle.btor_tree.specs.declared.lines.LineOp.TheVariants as line
use Rattle.btor_tree.specs.Fits.{greatest_id, is_bad, is_init, is_input, is_next, is_state, kind_at, operands, plain_arg, state_value, width_at}
use Rattle.btor_tree.specs.Frame.{Meets, operand, word_at}
use Rattle.btor_tree.proofs.Paths.{line_of_kind}
use Rattle.btor_witness.specs.Room.{places_of}
use Rattle.moxi_terms.specs.declared.data.Sort.{Sort}
use Rattle.moxi_terms.specs.declared.data.Sort.TheVariants.{Truth}
use Rattle.moxi_terms.specs.declared.term.Enumeration.{Enumeration}
use Rattle.moxi_terms.specs.Tree.{sorts_of}
use Rattle.moxi_terms.specs.Value.{Values}
use Rattle.moxi_flat.specs.FlatSorts.{IsSortedFlat}
use Rattle.moxi_flat.specs.FlatSystem.{PlainFlatSystem}
use Rattle.moxi_lines.specs.Codes.{sort_bits}
use Rattle.moxi_lines.specs.TermLines.{place_in}
use Rattle.moxi_lines.specs.TermLaws.{AreNumbered, HaveCodes, VariablesAreRepresented}
use Rattle.moxi_lines.specs.Lines.{first_place, head_lines, input_place, lines_of, one_place, state_place, variable_lines, with_parts, zero_place}
use Rattle.moxi_lines.specs.Variables.{AreVariableLines, IsInside}
use Rattle.moxi_lines.specs.Constraints.{VariablesAreThere}
use Rattle.moxi_lines.specs.System.{IsFramed}
use Rattle.moxi_lines.specs.Decoding.{Decodes, PlacesInside, decoded, decoded_datum}
use Rattle.moxi_lines.proofs.Extending.{Extends, extends_long, extends_meets, extends_none, extends_then, extends_width}
use Rattle.moxi_lines.proofs.Decoded.{words_are_decoded_law}
use Rattle.moxi_lines.proofs.Framed.{systems_are_framed_law}
use Rattle.moxi_lines.proofs.HeadLines.{variables_have_lines_law}
use Rattle.moxi_lines.proofs.Parts.{parts_constrain}
use Rattle.moxi_layout.specs.Layout.{AreQueriesLaid, latches_in, IsInRange, LaysOut, before_values, codes_inside, first_at, formula_values, given, input_at, is_set, now_values, prior_at, truth_word}
use Rattle.moxi_layout.specs.Skeleton.{entry, head_entries, part_entries, variable_entries}
use Rattle.moxi_layout.proofs.QueryLines.{HasQueryWords, QueryPlaces}
use Rattle.moxi_layout.proofs.Additions.{Added, Adds, adds_then, then_added}
use Rattle.moxi_layout.proofs.Bits.{some_bit}
use Rattle.moxi_layout.proofs.Conditions.{Stands, stands_later}
use Rattle.moxi_layout.proofs.Goals.{QueriesMade, all_places, queries_made}
use Rattle.moxi_layout.proofs.Inits.{parts_clean, queries_keep_inits, same_inits, variables_clean}
use Rattle.moxi_layout.proofs.LatchLines.{head_sort}
use Rattle.moxi_layout.proofs.PartAdditions.{StepsStand, of_constraints, parts_add, parts_args, parts_words}
use Rattle.moxi_layout.proofs.QueryLayout.{queries_laid}
use Rattle.moxi_layout.proofs.QueryAdditions.{queries_add, queries_added, query_states}
use Rattle.moxi_layout.proofs.VariableAdditions.{places_are, places_from, variables_add, variables_args, variables_words}
use Rattle.moxi_layout.proofs.VariablePlaces.{inside_list, place_mapped, values_as, variable_at, variables_long, zero_values, zeros_stand}
use Rattle.moxi_layout.proofs.Entries.{sorts_long}
use Rattle.moxi_lines.proofs.Decoded.{input_width, state_width}

-- ---- the head

abbrev head_added : Added
head_added = record { entries = head_entries; inputs = []; states = first_place ∷ []; constraints = []; bads = [] }

head_adds : Adds [] head_lines head_added
head_adds =
    record {
      extends = record { more = head_lines; is = refl };
      entries = λ all g. ap (λ w. entry line.State w (Some (codes "first")) ∷ entry line.Init w None ∷ entry line.Next w None ∷ []) (head_sort all g);
      inputs = refl;
      states = refl;
      constraints = refl;
      bads = refl;
    }

-- ---- the law

module _ (f : PlainFlatSystem) (have : HaveCodes f.scope.enumerations) (sorted : IsSortedFlat f) (room : length (lines_of f) < greatest_id) where
  abbrev es : List Enumeration
  es = f.scope.enumerations

  abbrev vl : List Line
  vl = (variable_lines f).0

  abbrev inputs : List ℕ
  inputs = (variable_lines f).1

  abbrev pl : List Line
  pl = with_parts f.scope inputs vl f.parts

  abbrev all : List Line
  all = lines_of f

  abbrev ps : List QueryPlaces
  ps = all_places f inputs pl f.queries

  abbrev variables_added : Added
  variables_added =
      record { entries = flat_map (variable_entries es) f.variables; inputs = places_from es head_lines f.variables; states = map (λ p. suc p) (places_from es head_lines f.variables); constraints = variables_args es head_lines f.variables; bads = [] }

  variables_are_added : Adds head_lines vl variables_added
  variables_are_added = variables_add es have (head_lines, []) f.variables sorted.variables

  abbrev parts_added : Added
  parts_added = of_constraints (flat_map part_entries f.parts) (parts_args f inputs vl f.parts)

  parts_are_added : Adds vl pl parts_added
  parts_are_added = parts_add f inputs vl f.parts

  head_pl : Extends head_lines pl
  head_pl = extends_then head_lines vl pl variables_are_added.extends parts_are_added.extends

  queries_are_added : Adds pl all (queries_added f inputs f.queries ps)
  queries_are_added = queries_add f inputs pl f.queries head_pl

  abbrev all_added : Added
  all_added = then_added head_added (then_added variables_added (then_added parts_added (queries_added f inputs f.queries ps)))

  total : Adds [] all all_added
  total =
      adds_then [] head_lines all head_added _ head_adds
      (adds_then head_lines vl all variables_added _ variables_are_added (adds_then vl pl all parts_added (queries_added f inputs f.queries ps) parts_are_added queries_are_added))

  from_pl : Extends pl all
  from_pl = queries_are_added.extends

  from_vl : Extends vl all
  from_vl = extends_then vl pl all parts_are_added.extends from_pl

  few_pl : length pl < greatest_id
  few_pl = omega (arith, room, extends_long pl all from_pl)

  few_vl : length vl < greatest_id
  few_vl = omega (arith, room, extends_long vl all from_vl)

  lines_v : AreVariableLines es f.variables vl inputs
  lines_v = variables_have_lines_law es have f.variables sorted.variables few_vl

  framed : IsFramed f all inputs
  framed = systems_are_framed_law f have sorted few_pl

  -- ---- lines without a row

  abbrev none : Values
  none = zero_values f.variables

  zeros : (place : ℕ → ℕ) → ((v : ℕ) (s : Sort) → slice_get (sorts_of f.variables) v ≡ Some s → width_at vl (place v) ≡ sort_bits es s) → VariablesAreRepresented es [] false vl (sorts_of f.variables) place none
  zeros place widths = zeros_stand es have sorted.scope.enumerations f.variables sorted.variables vl place widths

  zeros_now : VariablesAreRepresented es [] false vl (sorts_of f.variables) (input_place inputs) none
  zeros_now = zeros (input_place inputs) (λ v s h. input_width es vl f.variables inputs v s lines_v.each h)

  n_pl : AreNumbered pl
  n_pl =
      let there : VariablesAreThere f [] false false false inputs none none vl = record {
        first_width = extends_width head_lines vl first_place 1 (omega arith) variables_are_added.extends refl;
        first_word = λ m. refl;
        later = λ e k. k;
        now_known = zeros_now;
        now_both = zeros_now;
        before_both = zeros (state_place inputs) (λ v s h. state_width es vl f.variables inputs v s lines_v.each h);
      } in
      (parts_constrain f have sorted.scope.functions [] false false false inputs none none f.parts sorted.parts vl lines_v.numbered there few_pl).numbered

  still : Stands f have sorted.scope.functions inputs [] false false none pl
  still =
      stands_later f have sorted.scope.functions inputs [] false false none vl pl parts_are_added.extends
      (record { head = variables_are_added.extends; first_word = λ k m. refl; variables = zeros_now })

  queried : QueriesMade f have sorted.scope.functions inputs [] false false none pl all f.queries ps
  queried = queries_made f have sorted.scope.functions inputs [] false false none pl f.queries sorted sorted.queries n_pl still room

  pub n_all : AreNumbered all
  n_all = queried.numbered

  -- ---- places

  inputs_are : places_of is_input all ≡ inputs
  inputs_are = total.inputs ∙ append-nil (places_from es head_lines f.variables) ∙ sym (places_are es (head_lines, []) f.variables)

  abbrev latch_places : List ℕ
  latch_places = flat_map query_states ps

  states_are : places_of is_state all ≡ first_place ∷ (map (λ p. suc p) inputs ++ latch_places)
  states_are = total.states ∙ ap (λ xs. first_place ∷ (map (λ p. suc p) xs ++ latch_places)) (sym (places_are es (head_lines, []) f.variables))

  first_is : first_at all ≡ first_place
  first_is = ap (λ xs. place_in xs 0) states_are

  input_is : input_at all ≡ input_place inputs
  input_is = ap (λ xs. λ v. place_in xs v) inputs_are

  as_long : length inputs ≡ length f.variables
  as_long = variables_long es vl f.variables inputs lines_v.each

  prior_is : (v : ℕ) → v < length f.variables → prior_at all v ≡ state_place inputs v
  prior_is v h = ap (λ xs. place_in xs (suc v)) states_are ∙ place_mapped inputs latch_places v (omega (arith, h, as_long))

  latches_are : latches_in f all ≡ latch_places
  latches_are =
      ap (drop (suc (length f.variables))) states_are
      ∙ ap (λ n. drop n (map (λ p. suc p) inputs ++ latch_places)) (sym (length-map inputs (λ p. suc p) ∙ as_long)) ∙ drop-append_seam (map (λ p. suc p) inputs) latch_places

  -- ---- rows

  head_word : (row : List BitVector) → Meets all row → word_at row first_place ≡ truth_word (is_set row first_place)
  head_word row met = (some_bit row true all first_place n_all (extends_width head_lines all first_place 1 (omega arith) (extends_then head_lines vl all variables_are_added.extends from_vl) refl)).word refl met

  first_not : (b : Bool) → not b ≡ true → b ≡ false
  first_not true h = absurd (cc)
  first_not false h = refl

  not_first : (b : Bool) → b ≡ false → not b ≡ true
  not_first b e = ap not e

  module _ (row : List BitVector) (r : IsInRange f all row) where
    abbrev first : Bool
    first = is_set row (first_at all)

    abbrev now : Values
    now = now_values f all row

    abbrev before : Values
    before = before_values f all row

    first_word : word_at row first_place ≡ truth_word first
    first_word = head_word row r.meets ∙ ap (λ p. truth_word (is_set row p)) (sym first_is)

    inside_now : PlacesInside es f.variables row (input_place inputs)
    inside_now = subst (PlacesInside es f.variables row) input_is r.now

    inside_before : not first ≡ true → PlacesInside es f.variables row (state_place inputs)
    inside_before k = record { each = λ v s h. subst (λ p. IsInside es s (word_at row p)) (prior_is v (known_place v s h)) ((r.before (first_not first k)).each v s h) }
      where
        known_place : (v : ℕ) (s : Sort) → slice_get (sorts_of f.variables) v ≡ Some s → v < length f.variables
        known_place v s h = omega (arith, inside_list (sorts_of f.variables) v s h, sorts_long f.variables)

    decodes : Decodes es f.variables row vl inputs
    decodes = words_are_decoded_law es have sorted.scope.enumerations f.variables sorted.variables vl inputs lines_v.numbered lines_v.each row (extends_meets vl all row from_vl r.meets)

    now_stand : (k : Bool) → VariablesAreRepresented es row k vl (sorts_of f.variables) (input_place inputs) now
    now_stand k = subst (λ place. VariablesAreRepresented es row k vl (sorts_of f.variables) (input_place inputs) (decoded es f.variables row place)) (sym input_is) (decodes.now k (λ e. inside_now))

    before_stand : VariablesAreRepresented es row (not first) vl (sorts_of f.variables) (state_place inputs) before
    before_stand =
        values_as es row (not first) vl (sorts_of f.variables) (state_place inputs) (decoded es f.variables row (state_place inputs)) before
        (λ v h. ap (λ p. decoded_datum es (slice_index_or (sorts_of f.variables) v Truth) (word_at row p)) (sym (prior_is v (omega (arith, h, sorts_long f.variables))))) (decodes.before (not first) inside_before)

    stands : Stands f have sorted.scope.functions inputs row true first now vl
    stands = record { head = variables_are_added.extends; first_word = λ k m. first_word; variables = now_stand true }

    steps : StepsStand f have sorted.scope.functions inputs row true (not first) first before now all n_all room vl
    steps = record { stands = stands; later = λ e k. not_first first e; now_both = now_stand (not first); before_both = before_stand }

    constraint_words : map (operand row) (parts_args f inputs vl f.parts) ≡ map truth_word (formula_values f.scope first before now f.parts)
    constraint_words = parts_words f have sorted.scope.functions inputs row true (not first) first before now all n_all room vl f.parts steps sorted.parts from_pl refl r.meets

    query_words : AllZip (HasQueryWords f row first now) f.queries ps
    query_words =
        (queries_made f have sorted.scope.functions inputs row true first now pl f.queries sorted sorted.queries n_pl
        (stands_later f have sorted.scope.functions inputs row true first now vl pl parts_are_added.extends stands) room).words refl r.meets

  -- ---- the states of the step before

  no_init_first : (s : ℕ) → eqb first_place s ≡ false → state_value is_init head_lines s ≡ None
  no_init_first s e = ap (λ b. option_or (cond b (Some (plain_arg one_place)) None) None) e

  not_first_place : (p : ℕ) → kind_at is_input vl p ≡ true → eqb first_place (suc p) ≡ false
  not_first_place p h = go (eqb first_place (suc p)) refl
    where
      go : (b : Bool) → eqb first_place (suc p) ≡ b → b ≡ false
      go true e =
          let q : p ≡ zero_place = grind (arith, nat_tests) in
          let there : kind_at is_input (head_lines ++ lines_v.more) zero_place ≡ true = subst (λ ls. kind_at is_input ls zero_place ≡ true) lines_v.extends (subst (λ i. kind_at is_input vl i ≡ true) q h) in
          absurd (cc)
      go false e = refl

  prior_begins : (v : ℕ) → v < length f.variables → state_value is_init all (prior_at all v) ≡ None
  prior_begins v h =
      let p = place_in inputs v in
      let at = variable_at es vl f.variables inputs v lines_v.each h in
      let line_there = line_of_kind is_state vl (suc p) at.1.state in
      let small : suc p < length pl = omega (arith, inside_list vl (suc p) line_there.0 line_there.1, extends_long vl pl parts_are_added.extends) in
      ap (state_value is_init all) (prior_is v h) ∙ (queries_keep_inits f inputs pl f.queries head_pl).same (suc p) small
      ∙ same_inits vl pl parts_added parts_are_added (parts_clean f.parts) (suc p)
      ∙ same_inits head_lines vl variables_added variables_are_added (variables_clean es f.variables) (suc p)
      ∙ no_init_first (suc p) (not_first_place p at.1.input)

  prior_goes_on : (row : List BitVector) → Meets all row → (v : ℕ) → v < length f.variables → given is_next all row (prior_at all v) ≡ Some (word_at row (input_at all v))
  prior_goes_on row met v h =
      let at = variable_at es all f.variables inputs v framed.variables h in
      ap (given is_next all row) (prior_is v h) ∙ ap (option_map (operand row)) at.1.next ∙ ap (λ place. Some (word_at row (place v))) (sym input_is)

  -- ---- all

  constants : (row : List BitVector) → Meets all row → (word_at row one_place ≡ truth_word true) × (word_at row zero_place ≡ truth_word false)
  constants row met = (framed.one row met, framed.zero row met)

  queries_are_laid : AreQueriesLaid f all f.queries (latches_in f all) (operands is_bad all)
  queries_are_laid =
      subst (λ latches. AreQueriesLaid f all f.queries latches (operands is_bad all)) (sym latches_are)
      (subst (AreQueriesLaid f all f.queries latch_places) (sym total.bads) (queries_laid f all constants f.queries ps queried.each query_words))

  pub laid : LaysOut f all
  laid =
      record {
        order = total.entries all (extends_none all);
        first_init = λ row met. ap (given is_init all row) first_is ∙ ap (option_map (operand row)) framed.first_init ∙ ap (λ w. Some w) (framed.one row met);
        first_next = λ row met. ap (given is_next all row) first_is ∙ ap (option_map (operand row)) framed.first_next ∙ ap (λ w. Some w) (framed.zero row met);
        prior_init = prior_begins;
        prior_next = prior_goes_on;
        codes = variables_args es head_lines f.variables;
        formulas = parts_args f inputs vl f.parts;
        constraints = total.constraints ∙ ap (λ z. variables_args es head_lines f.variables ++ z) (append-nil (parts_args f inputs vl f.parts));
        code_words = λ row met.
            variables_words es have (head_lines, []) f.variables sorted.variables row (extends_meets vl all row from_vl met)
            ∙ ap (λ xs. map truth_word (codes_inside es row f.variables xs)) (sym (total.inputs ∙ append-nil (places_from es head_lines f.variables)));
        formula_words = constraint_words;
        queries = queries_are_laid;
      }
