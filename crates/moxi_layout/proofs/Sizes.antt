-- Lines that are in a system's order have its widths, so that texts are read equally for all of them.
use Rattle.std.proofs.Common.{◌≡◌, ℕ, suc, ◌+◌, ◌<◌, ◌≤◌, Bool, true, false, cond, List, [], ◌∷◌, ◌++◌, map, length, take, Some, refl, sym, ap, ◌∙◌, subst, arith, inl, inr}
use Rattle.std.specs.Prelude.{slice_get, flat_map}
use Rattle.std.proofs.lemmas.List.{length-append}
use Rattle.std.proofs.lemmas.Option.{same_Some}
use Rattle.btor_tree.specs.declared.lines.Line.{Line}
use Rattle.btor_tree.specs.declared.lines.LineOp.{LineOp}
use Rattle.btor_tree.specs.declared.lines.LineOp.TheVariants as line
use Rattle.btor_tree.specs.Fits.{count_of, has_word, is_bad, is_input, is_state, line_width, sort_at, width_at}
use Rattle.btor_tree.proofs.Grows.{slice_get_inside}
use Rattle.btor_tree.proofs.Paths.{state_is}
use Rattle.btor_witness.specs.Room.{places_of}
use Rattle.btor_witness.specs.Sizes.{Sizes, sizes_of, widths_of}
use Rattle.btor_witness.specs.Texts.{RefusesText, ReadsText}
use Rattle.btor_witness.proofs.Widths.{widths_cons, widths_in}
use Rattle.btor_witness.proofs.Places.{length_places, place_of, place_there, width_by_number}
use Rattle.moxi_terms.specs.declared.term.Enumeration.{Enumeration}
use Rattle.moxi_terms.specs.declared.term.Variable.{Variable}
use Rattle.moxi_terms.proofs.ValueLaws.{read_at}
use Rattle.moxi_flat.specs.FlatSystem.{PlainFlatSystem}
use Rattle.moxi_lines.specs.Codes.{sort_bits}
use Rattle.moxi_lines.specs.TermLines.{place_in}
use Rattle.moxi_lines.specs.Lines.{symbol_of}
use Rattle.std.specs.Prelude.{codes}
use Rattle.moxi_layout.specs.Skeleton.{Entry, constraint_if, entries_in, entry, entry_of, entry_width, has_gap, is_ordered, part_entries, query_entries, skeleton, skeleton_of, variable_entries}
use Rattle.moxi_layout.specs.LayoutLaws.{IsLaidOut}
use Rattle.moxi_layout.specs.Witnesses.{LayoutsAreReadEqually}
use Rattle.moxi_layout.proofs.Entries.{entries_cons, entries_long, input_is, input_ordered, of_append, of_flat, of_kind, singles_long}

state_ordered : (o : LineOp) → is_state o ≡ true → is_ordered o ≡ true
state_ordered o h = ap is_ordered (state_is o h)

bad_is : (op : LineOp) → is_bad op ≡ true → op ≡ line.Bad
bad_is line.Bad h = refl
bad_is op h = absurd (cc)

pub bad_ordered : (o : LineOp) → is_bad o ≡ true → is_ordered o ≡ true
bad_ordered o h = ap is_ordered (bad_is o h)

abbrev width_in : Entry → ℕ
width_in e = e.width

-- the widths of the lines of a kind are those of its entries
module _ (kind : LineOp → Bool) (ordered : (o : LineOp) → kind o ≡ true → is_ordered o ≡ true) (lines : List Line)
    (wide : (l : Line) → kind l.op ≡ true → line_width lines l ≡ entry_width lines l.op l.sort) where
  widths_are : (ls : List Line) → map width_in (of_kind kind (entries_in lines ls)) ≡ widths_in lines kind ls
  widths_are [] = refl
  widths_are (m ∷ ls) = ap (map width_in) (entries_cons kind ordered lines m ls) ∙ go (kind m.op) refl (widths_are ls) ∙ sym (widths_cons lines kind m ls)
    where
      go : (b : Bool) → kind m.op ≡ b → map width_in (of_kind kind (entries_in lines ls)) ≡ widths_in lines kind ls
          → map width_in (cond b (entry_of lines m ∷ of_kind kind (entries_in lines ls)) (of_kind kind (entries_in lines ls))) ≡ cond b (line_width lines m ∷ widths_in lines kind ls) (widths_in lines kind ls)
      go true e ih = ap (λ w. w ∷ map width_in (of_kind kind (entries_in lines ls))) (sym (wide m e)) ∙ ap (λ ws. line_width lines m ∷ ws) ih
      go false e ih = ih

input_wide : (lines : List Line) (l : Line) → is_input l.op ≡ true → line_width lines l ≡ entry_width lines l.op l.sort
input_wide lines l h =
    let e = input_is l.op h in
    ap (λ o. cond (has_word o) (sort_at lines l.sort) 0) e ∙ sym (ap (λ o. entry_width lines o l.sort) e)

state_wide : (lines : List Line) (l : Line) → is_state l.op ≡ true → line_width lines l ≡ entry_width lines l.op l.sort
state_wide lines l h =
    let e = state_is l.op h in
    ap (λ o. cond (has_word o) (sort_at lines l.sort) 0) e ∙ sym (ap (λ o. entry_width lines o l.sort) e)

abbrev sizes_from : List Entry → Sizes
sizes_from es = record { bads = length (of_kind is_bad es); states = map width_in (of_kind is_state es); inputs = map width_in (of_kind is_input es) }

sizes_are : (lines : List Line) → sizes_from (skeleton lines) ≡ sizes_of lines
sizes_are lines =
    ap (λ n. let s : Sizes = record { bads = n; states = map width_in (of_kind is_state (skeleton lines)); inputs = map width_in (of_kind is_input (skeleton lines)) } in s) (entries_long is_bad bad_ordered lines lines)
    ∙ ap (λ ws. let s : Sizes = record { bads = count_of is_bad lines; states = ws; inputs = map width_in (of_kind is_input (skeleton lines)) } in s) (widths_are is_state state_ordered lines (state_wide lines) lines)
    ∙ ap (λ ws. let s : Sizes = record { bads = count_of is_bad lines; states = widths_of is_state lines; inputs = ws } in s) (widths_are is_input input_ordered lines (input_wide lines) lines)

pub same_sizes : (f : PlainFlatSystem) (lines other : List Line) → IsLaidOut f lines → IsLaidOut f other → sizes_of lines ≡ sizes_of other
same_sizes f lines other a b = sym (sizes_are lines) ∙ ap sizes_from (a.lays.order ∙ sym b.lays.order) ∙ sizes_are other

pub layouts_are_read_equally_law : LayoutsAreReadEqually
layouts_are_read_equally_law f lines other a b =
    let e = same_sizes f lines other a b in
    record {
      sizes = e;
      spelled = λ text w. (λ h. (h.0, subst (λ s. ReadsText s text w) e h.1), λ h. (h.0, subst (λ s. ReadsText s text w) (sym e) h.1));
      refused = λ text k at. (
        λ h. elim h [ inl x ↦ inl x | inr x ↦ inr (x.0, subst (λ s. RefusesText s text k at) e x.1) ],
        λ h. elim h [ inl x ↦ inl x | inr x ↦ inr (x.0, subst (λ s. RefusesText s text k at) (sym e) x.1) ],
      );
    }

-- ---- the states of a system

abbrev state_entry : List Enumeration → Variable → Entry
state_entry es v = entry line.State (sort_bits es v.sort) (symbol_of (v.name ++ codes ".prev"))

no_state : (b : Bool) → of_kind is_state (constraint_if b) ≡ []
no_state true = refl
no_state false = refl

-- `first`, one for each variable, and the latches
pub states_long : (f : PlainFlatSystem) (lines : List Line) → skeleton lines ≡ skeleton_of f → suc (length f.variables) ≤ count_of is_state lines
states_long f lines order =
    let es = f.scope.enumerations in
    let a = flat_map (variable_entries es) f.variables in
    let b = flat_map part_entries f.parts ++ flat_map (query_entries f) f.queries in
    let one : Variable → List Entry = λ v. state_entry es v ∷ [] in
    let each : of_kind is_state a ≡ flat_map one f.variables = of_flat is_state (variable_entries es) one f.variables (λ v. ap (λ z. state_entry es v ∷ z) (no_state (has_gap es v.sort))) in
    let all : count_of is_state lines ≡ suc (length (of_kind is_state (a ++ b))) = sym (entries_long is_state state_ordered lines lines) ∙ ap (λ z. length (of_kind is_state z)) order in
    let parts : length (of_kind is_state (a ++ b)) ≡ length (of_kind is_state a) + length (of_kind is_state b) = ap length (of_append is_state a b) ∙ length-append (of_kind is_state a) (of_kind is_state b) in
    let here : length (of_kind is_state a) ≡ length f.variables = ap length each ∙ singles_long (state_entry es) f.variables in
    omega (arith, all, parts, here)

-- ---- lines of a kind by their number

pub record LineAt (kind : LineOp → Bool) (lines : List Line) (n i : ℕ) (l : Line) : Type 0 where
  pub there : slice_get lines i ≡ Some l
  pub is : kind l.op ≡ true
  pub number : count_of kind (take i lines) ≡ n

pub numbered : (kind : LineOp → Bool) (lines : List Line) (n : ℕ) → n < count_of kind lines → (l : Line) × LineAt kind lines n (place_in (places_of kind lines) n) l
numbered kind lines n h =
    let q = place_of kind lines n h in
    let there : slice_get (places_of kind lines) n ≡ Some (0 + q.0) = subst (λ m. slice_get (places_of kind lines) m ≡ Some (0 + q.0)) q.4 (place_there 0 kind lines q.0 q.1 q.2 q.3) in
    let same : q.0 ≡ place_in (places_of kind lines) n = sym (read_at (places_of kind lines) n (0 + q.0) 0 there ∙ (let z : 0 + q.0 ≡ q.0 = omega arith in z)) in
    (q.1, subst (λ i. LineAt kind lines n i q.1) same (record { there = q.2; is = q.3; number = q.4 }))

pub number_of : (kind : LineOp → Bool) (lines : List Line) (i : ℕ) (l : Line) → slice_get lines i ≡ Some l → kind l.op ≡ true
    → (count_of kind (take i lines) < count_of kind lines) × (place_in (places_of kind lines) (count_of kind (take i lines)) ≡ i)
number_of kind lines i l g e =
    let n = count_of kind (take i lines) in
    let there = place_there 0 kind lines i l g e in
    let inside : n < length (places_of kind lines) = slice_get_inside (places_of kind lines) n (0 + i) there in
    (omega (arith, inside, length_places 0 kind lines), read_at (places_of kind lines) n (0 + i) 0 there ∙ (let z : 0 + i ≡ i = omega arith in z))

pub same_width : (kind : LineOp → Bool) (lines other : List Line) (n i j : ℕ) (l m : Line) → widths_of kind lines ≡ widths_of kind other → LineAt kind lines n i l → LineAt kind other n j m → width_at lines i ≡ width_at other j
same_width kind lines other n i j l m e x y =
    let a : slice_get (widths_of kind lines) n ≡ Some (width_at lines i) = subst (λ k. slice_get (widths_of kind lines) k ≡ Some (width_at lines i)) x.number (width_by_number lines kind i l x.there x.is) in
    let b : slice_get (widths_of kind other) n ≡ Some (width_at other j) = subst (λ k. slice_get (widths_of kind other) k ≡ Some (width_at other j)) y.number (width_by_number other kind j m y.there y.is) in
    same_Some (width_at lines i) (width_at other j) (sym a ∙ ap (λ ws. slice_get ws n) e ∙ b)
