-- What a text spells is well-formed.
use Rattle.std.proofs.Common.{◌≡◌, ℕ, ◌+◌, ◌-◌, suc, ◌<◌, ◌≤◌, ◌&&◌, Bool, true, false, cond, eqb, ltb, leb, List, [], ◌∷◌, length, Option, Some, None, Result, Ok, refl, sym, ap, ◌∙◌, subst, arith, inl, inr}
use Rattle.std.specs.Prelude.{option_and_then, option_map, IfOk, is_none}
use Rattle.std.proofs.lemmas.List.{length-map}
use Rattle.std.proofs.lemmas.Bool.{cond-true, cond-false, cases_Bool, ltb-true, leb-true, eqb-true, and_parts, or_cases}
use Rattle.std.proofs.lemmas.Option.{same_Some, none-some}
use Rattle.word_core.specs.declared.word.TheConstants.{WIDEST}
use Rattle.word_core.specs.declared.kinds.Binary.{Binary}
use Rattle.word_core.specs.declared.kinds.Binary.TheVariants.{Iff, Implies, Concat}
use Rattle.word_core.specs.Words.{BitVector}
use Rattle.word_core.specs.Table.{unary_width, BinaryFits, binary_width}
use Rattle.btor_tree.specs.declared.args.Arg.{Arg}
use Rattle.btor_tree.specs.declared.lines.Line.{Line}
use Rattle.btor_tree.specs.declared.lines.LineOp.{LineOp}
use Rattle.btor_tree.specs.declared.lines.LineOp.TheVariants as op
use Rattle.btor_tree.specs.Fits.{Fits, OpFits, InitRule, AreEarlier, IsWellFormed, plain_arg, is_constant, last_id, sort_at, width_at, kind_at, is_state, state_value, is_init, is_next}
use Rattle.btor_tree.specs.Parts.{Parts, line_parts}
use Rattle.btor_tree.specs.Shapes.{Operand, Nullary, input, state, one, zero, ones, Extension, uext, sext, Binding, init, next, Property, bad, constraint, output, Content, sort_content, nullary_content, constant_content, binding_content, property_content, unary_content, binary_content, ite_content, slice_content, extension_content, unsupported_content, Shape, Spells}
use Rattle.btor_tree.specs.Resolving.{Fault, not_supported, wide_sort, sort_clash, twice, init_late, id_order, line_ids, place_in, place_of_id, sort_of_id, state_of_id, word_of_id, at_place, owed, nullary_op, binding_op, property_op, extension_op, property_takes, literal_word, at_word, is_supported, binary_fits, is_first, is_in_time, filled, argument, resolve_content, resolve}
use Rattle.btor_tree.specs.Texts.{Reads, ends, passed, line}
use Rattle.btor_tree.proofs.Grows.{well_formed_push}
use Rattle.btor_tree.proofs.Literals.{literal_is}

more_place : (o : Option ℕ) (i : ℕ) → option_map suc o ≡ Some i → (j : ℕ) × (o ≡ Some j) × (i ≡ suc j)
more_place None i e = absurd (none-some i e)
more_place (Some j) i e = (j, refl, sym (same_Some (suc j) i e))

place_within : (n : ℕ) (xs : List ℕ) (i : ℕ) → place_in n xs ≡ Some i → i < length xs
place_within n [] i e = absurd (none-some i e)
place_within n (x ∷ xs) i e =
    elim (cases_Bool (eqb x n)) [
      | inl t ↦ let first : 0 ≡ i = same_Some 0 i (sym (cond-true (eqb x n) (Some 0) (option_map suc (place_in n xs)) t) ∙ e) in omega (arith, first)
      | inr f ↦ let more = more_place (place_in n xs) i (sym (cond-false (eqb x n) (Some 0) (option_map suc (place_in n xs)) f) ∙ e) in omega (arith, place_within n xs more.0 more.1, more.2)
    ]

passing : (o : Option ℕ) (passes : ℕ → Bool) (i : ℕ) → option_and_then (λ j. cond (passes j) (Some j) None) o ≡ Some i → (o ≡ Some i) × (passes i ≡ true)
passing None passes i e = absurd (none-some i e)
passing (Some j) passes i e =
    elim (cases_Bool (passes j)) [
      | inl t ↦ let same : j ≡ i = same_Some j i (sym (cond-true (passes j) (Some j) None t) ∙ e) in (ap Some same, ap passes (sym same) ∙ t)
      | inr f ↦ absurd (none-some i (sym (cond-false (passes j) (Some j) None f) ∙ e))
    ]

-- the place that was found, and the line there
found : (before : List Line) (id : ℕ) (passes : ℕ → Bool) (i : ℕ) → place_of_id before id passes ≡ Some i → (passes i ≡ true) × (i < length before)
found before id passes i e =
    let p = passing (place_in id (line_ids before)) passes i e in
    (p.1, omega (arith, place_within id (line_ids before) i p.0, length-map before (λ (l : Line). l.id)))

sort_found : (before : List Line) (s i : ℕ) → sort_of_id before s ≡ Some i → 1 ≤ sort_at before i
sort_found before s i e = let f = found before s (λ i. ltb 0 (sort_at before i)) i e in omega (arith, ltb-true 0 (sort_at before i) f.0)

word_found : (before : List Line) (a i : ℕ) → word_of_id before a ≡ Some i → (1 ≤ width_at before i) × (i < length before)
word_found before a i e = let f = found before a (λ i. ltb 0 (width_at before i)) i e in (omega (arith, ltb-true 0 (width_at before i) f.0), f.1)

state_found : (before : List Line) (x i : ℕ) → state_of_id before x ≡ Some i → (kind_at is_state before i ≡ true) × (i < length before)
state_found before x i e = found before x (λ i. kind_at is_state before i) i e

abbrev Good : List Line → Result Line Fault → Type 0
Good before r = IfOk r (λ l. Fits before l)

on_place : (before : List Line) (o : Option ℕ) (f : ℕ → Result Line Fault) → ((i : ℕ) → o ≡ Some i → Good before (f i)) → Good before (at_place o f)
on_place before None f h = tt
on_place before (Some i) f h = h i refl

on_owed : (before : List Line) (t : Bool) (k : Fault) (r : Result Line Fault) → (t ≡ true → Good before r) → Good before (owed t k r)
on_owed before true k r h = h refl
on_owed before false k r h = tt

on_word : (before : List Line) (o : Option BitVector) (f : BitVector → Result Line Fault) → ((c : BitVector) → o ≡ Some c → Good before (f c)) → Good before (at_word o f)
on_word before None f h = tt
on_word before (Some c) f h = h c refl

nullary_fits : (before : List Line) (k : Nullary) (i : ℕ) → 1 ≤ sort_at before i → OpFits before i (nullary_op k) []
nullary_fits before input i le = (le, refl)
nullary_fits before state i le = (le, refl)
nullary_fits before one i le = (le, refl)
nullary_fits before zero i le = (le, refl)
nullary_fits before ones i le = (le, refl)

property_fits : (before : List Line) (k : Property) (a : Arg) → 1 ≤ width_at before a.line → property_takes k (width_at before a.line) ≡ true → OpFits before 0 (property_op k) (a ∷ [])
property_fits before bad a le e = (refl, eqb-true (width_at before a.line) 1 e)
property_fits before constraint a le e = (refl, eqb-true (width_at before a.line) 1 e)
property_fits before output a le e = (refl, le)

extension_fits : (before : List Line) (k : Extension) (i n : ℕ) (a : Arg) → 1 ≤ sort_at before i → 1 ≤ width_at before a.line → width_at before a.line + n ≡ sort_at before i → OpFits before i (extension_op k n) (a ∷ [])
extension_fits before uext i n a wide le e = (wide, (le, e))
extension_fits before sext i n a wide le e = (wide, (le, e))

no_value : (o : Option Arg) → is_none o ≡ true → o ≡ None
no_value None e = refl
no_value (Some a) e = absurd (let f : false ≡ true = e in cc)

in_time : (before : List Line) (j n : ℕ) (v : Operand) → is_in_time init before j n ≡ true → InitRule before (plain_arg j) (argument v n)
in_time before j n v e = elim (or_cases (ltb n j) (kind_at is_constant before n) e) [ inl t ↦ inl (ltb-true n j t) | inr t ↦ inr t ]

binding_fits : (before : List Line) (k : Binding) (i j n : ℕ) (v : Operand) → 1 ≤ sort_at before i → kind_at is_state before j ≡ true → width_at before j ≡ sort_at before i → width_at before n ≡ width_at before j
    → is_first k before j ≡ true → is_in_time k before j n ≡ true → OpFits before i (binding_op k) (plain_arg j ∷ argument v n ∷ [])
binding_fits before init i j n v wide there same value first early = ((there, refl, wide, same, value ∙ same, no_value (state_value is_init before j) first), in_time before j n v early)
binding_fits before next i j n v wide there same value first early = (there, refl, wide, same, value ∙ same, no_value (state_value is_next before j) first)

fits_tested : (o : Binary) (v w : ℕ) → binary_fits o v w ≡ true → BinaryFits o v w
fits_tested Iff v w e = let p = and_parts (eqb v 1) (eqb w 1) e in (eqb-true v 1 p.0, eqb-true w 1 p.1)
fits_tested Implies v w e = let p = and_parts (eqb v 1) (eqb w 1) e in (eqb-true v 1 p.0, eqb-true w 1 p.1)
fits_tested Concat v w e = leb-true (v + w) WIDEST e
fits_tested op v w e = eqb-true v w e

-- a line of a shape, once its arguments are there and its sorts fit
abbrev Makes : List Line → Shape → Type 0
Makes before sh = (o : LineOp) (s : ℕ) (args : List Arg) → AreEarlier (length before) args → OpFits before s o args → Fits before (filled sh o s args)

content_fits : (before : List Line) (sh : Shape) (content : Content) → Makes before sh → Good before (resolve_content before sh content)
content_fits before sh (sort_content w) make =
    on_owed before (leb 1 w && leb w WIDEST) wide_sort (Ok (filled sh (op.Sort w) 0 [])) (λ t. let p = and_parts (leb 1 w) (leb w WIDEST) t in make (op.Sort w) 0 [] tt (leb-true 1 w p.0, leb-true w WIDEST p.1, refl, refl))
content_fits before sh (nullary_content k s) make =
    on_place before (sort_of_id before s) _ (λ i e. make (nullary_op k) i [] tt (nullary_fits before k i (sort_found before s i e)))
content_fits before sh (constant_content k s digits) make =
    on_place before (sort_of_id before s) _ (λ i e. on_word before (literal_word k (sort_at before i) digits) _ (λ c f.
    let word = literal_is k (sort_at before i) digits c f in
    make (op.Constant c) i [] tt (word.0, word.1, refl)))
content_fits before sh (binding_content k s x v) make =
    on_place before (sort_of_id before s) _ (λ i e. on_place before (state_of_id before x) _ (λ j f. on_place before (word_of_id before v.id) _ (λ n g.
    on_owed before (eqb (width_at before j) (sort_at before i) && eqb (width_at before n) (width_at before j)) sort_clash _ (λ widths.
    on_owed before (is_first k before j) twice _ (λ first. on_owed before (is_in_time k before j n) init_late _ (λ early.
    let there = state_found before x j f in
    let value = word_found before v.id n g in
    let same = and_parts (eqb (width_at before j) (sort_at before i)) (eqb (width_at before n) (width_at before j)) widths in
    make (binding_op k) i (plain_arg j ∷ argument v n ∷ []) (there.1, (value.1, tt))
    (binding_fits before k i j n v (sort_found before s i e) there.0 (eqb-true (width_at before j) (sort_at before i) same.0) (eqb-true (width_at before n) (width_at before j) same.1) first early)))))))
content_fits before sh (property_content k a) make =
    on_place before (word_of_id before a.id) _ (λ j e. on_owed before (property_takes k (width_at before j)) sort_clash _ (λ t.
    let word = word_found before a.id j e in
    make (property_op k) 0 (argument a j ∷ []) (word.1, tt) (property_fits before k (argument a j) word.0 t)))
content_fits before sh (unary_content o s a) make =
    on_place before (sort_of_id before s) _ (λ i e. on_place before (word_of_id before a.id) _ (λ j f.
    on_owed before (eqb (unary_width o (width_at before j)) (sort_at before i)) sort_clash _ (λ t.
    let word = word_found before a.id j f in
    make (op.Unary o) i (argument a j ∷ []) (word.1, tt) (sort_found before s i e, (word.0, eqb-true (unary_width o (width_at before j)) (sort_at before i) t)))))
content_fits before sh (binary_content o s a b) make =
    on_place before (sort_of_id before s) _ (λ i e. on_place before (word_of_id before a.id) _ (λ j f. on_place before (word_of_id before b.id) _ (λ n g.
    on_owed before (binary_fits o (width_at before j) (width_at before n) && eqb (binary_width o (width_at before j) (width_at before n)) (sort_at before i)) sort_clash _ (λ t.
    let first = word_found before a.id j f in
    let second = word_found before b.id n g in
    let same = and_parts (binary_fits o (width_at before j) (width_at before n)) (eqb (binary_width o (width_at before j) (width_at before n)) (sort_at before i)) t in
    make (op.Binary o) i (argument a j ∷ argument b n ∷ []) (first.1, (second.1, tt))
    (sort_found before s i e, (first.0, second.0, fits_tested o (width_at before j) (width_at before n) same.0, eqb-true (binary_width o (width_at before j) (width_at before n)) (sort_at before i) same.1))))))
content_fits before sh (ite_content s c a b) make =
    on_place before (sort_of_id before s) _ (λ i e. on_place before (word_of_id before c.id) _ (λ m d. on_place before (word_of_id before a.id) _ (λ j f. on_place before (word_of_id before b.id) _ (λ n g.
    on_owed before (eqb (width_at before m) 1 && (eqb (width_at before j) (sort_at before i) && eqb (width_at before n) (sort_at before i))) sort_clash _ (λ t.
    let condition = word_found before c.id m d in
    let first = word_found before a.id j f in
    let second = word_found before b.id n g in
    let one_bit = and_parts (eqb (width_at before m) 1) (eqb (width_at before j) (sort_at before i) && eqb (width_at before n) (sort_at before i)) t in
    let same = and_parts (eqb (width_at before j) (sort_at before i)) (eqb (width_at before n) (sort_at before i)) one_bit.1 in
    make op.Ite i (argument c m ∷ argument a j ∷ argument b n ∷ []) (condition.1, (first.1, (second.1, tt)))
    (sort_found before s i e, (eqb-true (width_at before m) 1 one_bit.0, eqb-true (width_at before j) (sort_at before i) same.0, eqb-true (width_at before n) (sort_at before i) same.1)))))))
content_fits before sh (slice_content s a high low) make =
    on_place before (sort_of_id before s) _ (λ i e. on_place before (word_of_id before a.id) _ (λ j f.
    on_owed before (leb low high && (ltb high (width_at before j) && eqb (high - low + 1) (sort_at before i))) sort_clash _ (λ t.
    let order = and_parts (leb low high) (ltb high (width_at before j) && eqb (high - low + 1) (sort_at before i)) t in
    let range = and_parts (ltb high (width_at before j)) (eqb (high - low + 1) (sort_at before i)) order.1 in
    make (op.Slice high low) i (argument a j ∷ []) ((word_found before a.id j f).1, tt)
    (sort_found before s i e, (leb-true low high order.0, ltb-true high (width_at before j) range.0, eqb-true (high - low + 1) (sort_at before i) range.1)))))
content_fits before sh (extension_content k s a n) make =
    on_place before (sort_of_id before s) _ (λ i e. on_place before (word_of_id before a.id) _ (λ j f.
    on_owed before (eqb (width_at before j + n) (sort_at before i)) sort_clash _ (λ t.
    let word = word_found before a.id j f in
    make (extension_op k n) i (argument a j ∷ []) (word.1, tt) (extension_fits before k i n (argument a j) (sort_found before s i e) word.0 (eqb-true (width_at before j + n) (sort_at before i) t)))))
content_fits before sh unsupported_content make = tt

-- what a shape is behind lines fits them
pub resolve_fits : (before : List Line) (sh : Shape) (ps : Parts) → Spells sh ps → Good before (resolve before sh)
resolve_fits before sh ps h =
    on_owed before (is_supported sh.content) not_supported _ (λ supported. on_owed before (ltb (last_id before) sh.id) id_order (resolve_content before sh sh.content) (λ t.
    content_fits before sh sh.content (λ o s args earlier sorts. record { rises = ltb-true (last_id before) sh.id t; small = h.small; body = record { earlier = earlier; sorts = sorts; symbol = h.symbol } })))

line_fits : (before : List Line) (ps : Parts) (sh : Shape) (l : Line) → Spells sh ps → resolve before sh ≡ Ok l → Fits before l
line_fits before ps sh l h r = subst (Good before) r (resolve_fits before sh ps h)

-- lines that are well-formed stay so as a text's are added
pub reads_well_formed : {before : List Line} {raws : Parts} {all : List Line} → Reads before raws all → IsWellFormed before → IsWellFormed all
reads_well_formed ends w = w
reads_well_formed (passed a h) w = reads_well_formed h w
reads_well_formed {before = before} (line {raw = raw} sh l s r h) w = reads_well_formed h (well_formed_push before l w (line_fits before (line_parts raw) sh l s r))
