-- The inputs of lines that are in a system's order.
use Rattle.std.proofs.Common.{◌≡◌, ℕ, zero, suc, ◌+◌, ◌<◌, Bool, true, false, cond, List, [], ◌∷◌, ◌++◌, length, take, Option, Some, refl, sym, ap, ◌∙◌, subst, arith, inl, inr}
use Rattle.std.specs.Prelude.{slice_get, flat_map}
use Rattle.std.proofs.lemmas.Bool.{cases_Bool, cond-true}
use Rattle.std.proofs.lemmas.Option.{same_Some, none-some}
use Rattle.std.proofs.lemmas.List.{append-nil}
use Rattle.btor_tree.specs.declared.lines.Line.{Line}
use Rattle.btor_tree.specs.declared.lines.LineOp.{LineOp}
use Rattle.btor_tree.specs.declared.lines.LineOp.TheVariants as line
use Rattle.btor_tree.specs.Fits.{count_of, has_word, is_input, sort_at, width_at}
use Rattle.btor_tree.proofs.AtPlaces.{width_of_line}
use Rattle.btor_tree.proofs.Grows.{slice_get_inside}
use Rattle.moxi_terms.specs.declared.data.Sort.{Sort}
use Rattle.moxi_terms.specs.declared.term.Enumeration.{Enumeration}
use Rattle.moxi_terms.specs.declared.term.Variable.{Variable}
use Rattle.moxi_terms.specs.Tree.{sorts_of}
use Rattle.moxi_terms.proofs.ValueLaws.{read_at}
use Rattle.moxi_scripts.specs.declared.script.Query.{Query}
use Rattle.moxi_flat.specs.FlatSystem.{PlainFlatSystem, PlainPart}
use Rattle.moxi_lines.specs.Codes.{sort_bits}
use Rattle.moxi_lines.specs.Lines.{symbol_of}
use Rattle.btor_witness.specs.Room.{places_of}
use Rattle.moxi_layout.specs.Skeleton.{Entry, constraint_if, entries_in, entry, entry_of, entry_width, formula_entries, has_gap, is_ordered, latch_entries, latch_names, part_entries, query_entries, skeleton, skeleton_of, variable_entries}
use Rattle.moxi_layout.specs.Layout.{input_at}
use Rattle.btor_witness.proofs.Places.{place_of, place_there}

-- ---- entries of one kind

abbrev pub of_kind : (LineOp → Bool) → List Entry → List Entry
of_kind kind [] = []
of_kind kind (e ∷ es) = cond (kind e.kind) (e ∷ of_kind kind es) (of_kind kind es)

pub of_append : (kind : LineOp → Bool) (xs ys : List Entry) → of_kind kind (xs ++ ys) ≡ of_kind kind xs ++ of_kind kind ys
of_append kind [] ys = refl
of_append kind (e ∷ xs) ys =
    let ih = of_append kind xs ys in
    elim (cases_Bool (kind e.kind)) [ inl t ↦ rw t (ap (λ z. e ∷ z) ih) | inr f ↦ rw f ih ]

pub of_flat : {X : Type 0} (kind : LineOp → Bool) (g h : X → List Entry) (xs : List X) → ((x : X) → of_kind kind (g x) ≡ h x) → of_kind kind (flat_map g xs) ≡ flat_map h xs
of_flat kind g h [] e = refl
of_flat kind g h (x ∷ xs) e =
    of_append kind (g x) (flat_map g xs) ∙ ap (λ z. z ++ of_kind kind (flat_map g xs)) (e x) ∙ ap (λ z. h x ++ z) (of_flat kind g h xs e)

abbrev pub none : {X : Type 0} → X → List Entry
none x = []

pub flat_none : {X : Type 0} (xs : List X) → flat_map none xs ≡ []
flat_none [] = refl
flat_none (x ∷ xs) = flat_none xs

module _ (kind : LineOp → Bool) (ordered : (o : LineOp) → kind o ≡ true → is_ordered o ≡ true) (lines : List Line) where
  -- the entries of a kind are those of the lines of this kind
  pub entries_cons : (m : Line) (ls : List Line)
      → of_kind kind (entries_in lines (m ∷ ls)) ≡ cond (kind m.op) (entry_of lines m ∷ of_kind kind (entries_in lines ls)) (of_kind kind (entries_in lines ls))
  entries_cons m ls = go (kind m.op) refl (is_ordered m.op) refl
    where
      go : (k : Bool) → kind m.op ≡ k → (o : Bool) → is_ordered m.op ≡ o
          → of_kind kind (cond o (entry_of lines m ∷ entries_in lines ls) (entries_in lines ls)) ≡ cond (kind m.op) (entry_of lines m ∷ of_kind kind (entries_in lines ls)) (of_kind kind (entries_in lines ls))
      go k e true f = refl
      go true e false f = absurd (let h : false ≡ true = sym f ∙ ordered m.op e in cc)
      go false e false f = sym (ap (λ b. cond b (entry_of lines m ∷ of_kind kind (entries_in lines ls)) (of_kind kind (entries_in lines ls))) e)

  on_more : (b : Bool) (x : Entry) (xs : List Entry) (n : ℕ) (o : Option Entry) → slice_get xs n ≡ o → slice_get (cond b (x ∷ xs) xs) (cond b 1 0 + n) ≡ o
  on_more true x xs n o h =
      let e : 1 + n ≡ suc n = omega arith in
      ap (slice_get (x ∷ xs)) e ∙ h
  on_more false x xs n o h =
      let e : 0 + n ≡ n = omega arith in
      ap (slice_get xs) e ∙ h

  entry_there : (ls : List Line) (i : ℕ) (l : Line) → slice_get ls i ≡ Some l → kind l.op ≡ true → slice_get (of_kind kind (entries_in lines ls)) (count_of kind (take i ls)) ≡ Some (entry_of lines l)
  entry_there [] i l g t = absurd (none-some l g)
  entry_there (m ∷ ls) zero l g t =
      let e : m ≡ l = same_Some m l g in
      let rest = of_kind kind (entries_in lines ls) in
      ap (λ xs. slice_get xs 0) (entries_cons m ls ∙ cond-true (kind m.op) (entry_of lines m ∷ rest) rest (ap (λ x. kind x.op) e ∙ t)) ∙ ap (λ x. Some (entry_of lines x)) e
  entry_there (m ∷ ls) (suc i) l g t =
      ap (λ xs. slice_get xs (count_of kind (take (suc i) (m ∷ ls)))) (entries_cons m ls)
      ∙ on_more (kind m.op) (entry_of lines m) (of_kind kind (entries_in lines ls)) (count_of kind (take i ls)) _ (entry_there ls i l g t)

  pub entries_long : (ls : List Line) → length (of_kind kind (entries_in lines ls)) ≡ count_of kind ls
  entries_long [] = refl
  entries_long (m ∷ ls) = ap length (entries_cons m ls) ∙ go (kind m.op) (of_kind kind (entries_in lines ls)) (entries_long ls)
    where
      go : (b : Bool) (xs : List Entry) → length xs ≡ count_of kind ls → length (cond b (entry_of lines m ∷ xs) xs) ≡ cond b 1 0 + count_of kind ls
      go true xs e = omega (arith, e)
      go false xs e = omega (arith, e)

-- ---- the inputs of a system

abbrev input_entry : List Enumeration → Variable → Entry
input_entry es v = entry line.Input (sort_bits es v.sort) (symbol_of v.name)

pub constraint_none : (b : Bool) → of_kind is_input (constraint_if b) ≡ []
constraint_none true = refl
constraint_none false = refl

part_none : (p : PlainPart) → of_kind is_input (part_entries p) ≡ []
part_none p =
    let a = formula_entries p.init in
    let b = formula_entries p.trans in
    let c = formula_entries p.inv in
    of_append is_input a (b ++ c) ∙ ap (λ z. z ++ of_kind is_input (b ++ c)) (constraint_none _)
    ∙ of_append is_input b c ∙ ap (λ z. z ++ of_kind is_input c) (constraint_none _) ∙ constraint_none _

query_none : (f : PlainFlatSystem) (q : Query) → of_kind is_input (query_entries f q) ≡ []
query_none f q =
    let names = latch_names f q in
    of_append is_input (flat_map latch_entries names) (entry line.Bad 0 (symbol_of q.name) ∷ [])
    ∙ ap (λ z. z ++ []) (of_flat is_input latch_entries none names (λ x. refl) ∙ flat_none names)

inputs_are : (f : PlainFlatSystem) → of_kind is_input (skeleton_of f) ≡ flat_map (λ v. input_entry f.scope.enumerations v ∷ []) f.variables
inputs_are f =
    let es = f.scope.enumerations in
    let a = flat_map (variable_entries es) f.variables in
    let b = flat_map part_entries f.parts in
    let c = flat_map (query_entries f) f.queries in
    let one : Variable → List Entry = λ v. input_entry es v ∷ [] in
    let rest : of_kind is_input (b ++ c) ≡ [] = of_append is_input b c ∙ ap (λ z. z ++ of_kind is_input c) (of_flat is_input part_entries none f.parts part_none ∙ flat_none f.parts)
    ∙ of_flat is_input (query_entries f) none f.queries (query_none f) ∙ flat_none f.queries in
    of_append is_input a (b ++ c) ∙ ap (λ z. of_kind is_input a ++ z) rest
    ∙ ap (λ z. z ++ []) (of_flat is_input (variable_entries es) one f.variables (λ v. ap (λ z. input_entry es v ∷ z) (constraint_none (has_gap es v.sort))))
    ∙ append-nil (flat_map one f.variables)

singles_get : {X Y : Type 0} (g : X → Y) (xs : List X) (i : ℕ) (y : Y) → slice_get (flat_map (λ x. g x ∷ []) xs) i ≡ Some y → (x : X) × (slice_get xs i ≡ Some x) × (g x ≡ y)
singles_get g [] i y h = absurd (none-some y h)
singles_get g (x ∷ xs) zero y h = (x, refl, same_Some (g x) y h)
singles_get g (x ∷ xs) (suc i) y h = singles_get g xs i y h

pub singles_long : {X Y : Type 0} (g : X → Y) (xs : List X) → length (flat_map (λ x. g x ∷ []) xs) ≡ length xs
singles_long g [] = refl
singles_long g (x ∷ xs) = ap suc (singles_long g xs)

-- ---- the inputs of lines in the system's order

pub input_is : (op : LineOp) → is_input op ≡ true → op ≡ line.Input
input_is line.Input h = refl
input_is op h = absurd (cc)

pub input_ordered : (o : LineOp) → is_input o ≡ true → is_ordered o ≡ true
input_ordered o h = ap is_ordered (input_is o h)

sort_get : (vs : List Variable) (i : ℕ) (v : Variable) → slice_get vs i ≡ Some v → slice_get (sorts_of vs) i ≡ Some v.sort
sort_get [] i v h = absurd (none-some v h)
sort_get (x ∷ vs) zero v h = ap (λ (y : Variable). Some y.sort) (same_Some x v h)
sort_get (x ∷ vs) (suc i) v h = sort_get vs i v h

pub sorts_long : (vs : List Variable) → length (sorts_of vs) ≡ length vs
sorts_long [] = refl
sorts_long (v ∷ vs) = ap suc (sorts_long vs)

-- an input line, by its number, is that of a variable
pub record InputLine (f : PlainFlatSystem) (lines : List Line) (i v : ℕ) (l : Line) (s : Sort) : Type 0 where
  pub there : slice_get lines i ≡ Some l
  pub is : l.op ≡ line.Input
  pub number : count_of is_input (take i lines) ≡ v
  pub sorted : slice_get (sorts_of f.variables) v ≡ Some s
  pub width : width_at lines i ≡ sort_bits f.scope.enumerations s

module _ (f : PlainFlatSystem) (lines : List Line) (order : skeleton lines ≡ skeleton_of f) where
  pub input_count : count_of is_input lines ≡ length f.variables
  input_count = sym (entries_long is_input input_ordered lines lines) ∙ ap (λ z. length (of_kind is_input z)) order ∙ ap length (inputs_are f) ∙ singles_long (input_entry f.scope.enumerations) f.variables

  -- each input line is that of a variable
  pub input_line : (i : ℕ) (l : Line) → slice_get lines i ≡ Some l → l.op ≡ line.Input → (s : Sort) × InputLine f lines i (count_of is_input (take i lines)) l s
  input_line i l g e =
      let es = f.scope.enumerations in
      let n = count_of is_input (take i lines) in
      let h = sym (ap (λ z. slice_get (of_kind is_input z) n) order ∙ ap (λ z. slice_get z n) (inputs_are f)) ∙ entry_there is_input input_ordered lines lines i l g (ap is_input e) in
      let x = singles_get (input_entry es) f.variables n (entry_of lines l) h in
      let w : sort_bits es x.0.sort ≡ sort_at lines l.sort = ap (λ (y : Entry). y.width) x.2 ∙ ap (λ o. entry_width lines o l.sort) e in (
        x.0.sort,
        record {
          there = g;
          is = e;
          number = refl;
          sorted = sort_get f.variables n x.0 x.1;
          width = ap (width_of_line lines) g ∙ ap (λ o. cond (has_word o) (sort_at lines l.sort) 0) e ∙ sym w;
        },
      )

  -- each variable has its input line
  pub input_there : (v : ℕ) (s : Sort) → slice_get (sorts_of f.variables) v ≡ Some s → (l : Line) × InputLine f lines (input_at lines v) v l s
  input_there v s h =
      let inside : v < count_of is_input lines = omega (arith, slice_get_inside (sorts_of f.variables) v s h, sorts_long f.variables, input_count) in
      let q = place_of is_input lines v inside in
      let e = input_is q.1.op q.3 in
      let there : slice_get (places_of is_input lines) v ≡ Some (0 + q.0) = subst (λ n. slice_get (places_of is_input lines) n ≡ Some (0 + q.0)) q.4 (place_there 0 is_input lines q.0 q.1 q.2 q.3) in
      let same : q.0 ≡ input_at lines v = sym (read_at (places_of is_input lines) v (0 + q.0) 0 there ∙ (let z : 0 + q.0 ≡ q.0 = omega arith in z)) in
      let x = input_line q.0 q.1 q.2 e in
      let t : x.0 ≡ s = same_Some x.0 s (sym (subst (λ n. slice_get (sorts_of f.variables) n ≡ Some x.0) q.4 x.1.sorted) ∙ h) in
      let at : InputLine f lines q.0 v q.1 s = record { there = q.2; is = e; number = q.4; sorted = h; width = x.1.width ∙ ap (sort_bits f.scope.enumerations) t } in
      (q.1, subst (λ p. InputLine f lines p v q.1 s) same at)
