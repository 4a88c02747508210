-- What each printed line does to where a reading stands.
use Rattle.std.proofs.Common.{◌≡◌, ℕ, ◌+◌, ◌<◌, ◌^◌, Bool, true, false, cond, ◌||◌, Option, Some, is_none, List, [], ◌∷◌, ◌++◌, length, map, Result, Ok, refl, sym, ap, ◌∙◌, subst, append_assoc, arith}
use Rattle.std.specs.Prelude.{slice_get, slice_set, codes}
use Rattle.std.specs.List.{list_all, flat_map}
use Rattle.std.specs.Str.{bytes_eq}
use Rattle.std.specs.Fmt.{decimal}
use Rattle.std.proofs.lemmas.Bool.{and_parts, and_from, cond-true, cond-false}
use Rattle.std.proofs.lemmas.List.{map-append, length-append, length-map}
use Rattle.std.proofs.Math.Seq.{set-append_seam}
use Rattle.std.proofs.lemmas.Slice.Eq.{bytes_eq-Decides}
use Rattle.name_maps.specs.Names.{place_of, are_fresh}
use Rattle.text_core.specs.declared.place.Place.{Place}
use Rattle.text_core.specs.declared.place.Refusal.{Refusal}
use Rattle.smv_meaning.specs.declared.value.Value.{Value}
use Rattle.smv_meaning.specs.declared.value.Given.{Given}
use Rattle.smv_meaning.specs.declared.value.Run.{Run}
use Rattle.smv_items.specs.declared.items.ItemKind.{ItemKind}
use Rattle.smv_items.specs.declared.items.ItemKind.TheVariants as kind
use Rattle.smv_items.specs.FlatItems.{PlainFlatItem}
use Rattle.smv_trace_text.specs.Lines.{lines_of, behind_line, trimmed}
use Rattle.smv_trace_text.specs.Texts.{value_text, value_line, heading_text}
use Rattle.smv_numbered.specs.declared.heading.Heading.{Heading}
use Rattle.smv_numbered.specs.declared.heading.Heading.TheVariants.{State, Input}
use Rattle.smv_numbered.specs.Stated.{Declarations, names_each}
use Rattle.smv_numbered.specs.Values.{picks}
use Rattle.smv_trace.specs.Values.{value_of}
use Rattle.smv_trace.specs.Reading.{Reading, ended, is_within, is_numbered, is_allowed, begun, is_define, with_value, item_line, placed_line, value_step, label_step, other_step, step}
use Rattle.smv_trace.specs.Texts.{lines_read}
use Rattle.smv_trace.proofs.Steps.{state_heading as state_heading_step, other_line}
use Rattle.smv_trace.proofs.Solid.{has_no, is_named, named_solid}
use Rattle.smv_trace.proofs.PrintedLines.{lines_cut, stated_line, value_parted, no_heading, none_passed, value_trimmed, value_one_line, value_cut, indented, twice, state_heading, label_heading, state_trimmed, label_trimmed, state_one_line, label_one_line, state_cut, label_cut, state_numbers, label_numbers, label_other}
use Rattle.smv_trace.proofs.PrintedValues.{read_again, value_solid}
use Rattle.smv_trace.proofs.Restated.{placed_at, item_at, replaced, remaining, restated, picked, AreOf, Named, first_named}
use Rattle.text_core.specs.Answers.{go_on, refused}

-- names that differ and are words, and symbols that are words
pub record IsTold (d : Declarations) : Type 0 where
  pub fresh : are_fresh [] (map (λ m. m.name) d.items) ≡ true
  pub names : list_all is_named (map (λ m. m.name) d.items) ≡ true
  pub symbols : list_all is_named d.symbols ≡ true

abbrev pub reading : Option Heading → Place → List ℕ → List (Option Value) → List (List Given) → List (List Given) → Reading
reading heading place first stated states labels = record { heading = heading; place = place; first = first; stated = stated; states = states; labels = labels }

-- wherever the reading of the text stands, it comes to this
abbrev pub ComesTo : Declarations → Place → Result Run Refusal → List ℕ → Reading → Type 0
ComesTo d end all text r = (at : Place) → lines_read d end at (lines_of text) r ≡ all

pub line_read : (d : Declarations) (end at : Place) (line more : List ℕ) (r q : Reading) → has_no 10 line ≡ true → step d at (trimmed line) r ≡ Ok q
    → lines_read d end at (lines_of (line ++ 10 ∷ more)) r ≡ lines_read d end (behind_line at line) (lines_of more) q
line_read d end at line more r q h s =
    ap (λ l. lines_read d end at l r) (lines_cut line more h) ∙ ap (λ o. go_on o (lines_read d end (behind_line at line) (lines_of more))) s

-- ---- a value

abbrev names_of : List PlainFlatItem → List (List ℕ)
names_of items = map (λ m. m.name) items

names_at : (d : Declarations) (front back : List PlainFlatItem) (m : PlainFlatItem) → d.items ≡ front ++ m ∷ back → names_of d.items ≡ names_of front ++ m.name ∷ names_of back
names_at d front back m e = ap names_of e ∙ map-append (λ (m : PlainFlatItem). m.name) front (m ∷ back)

back_all : (p : List ℕ → Bool) (front back : List (List ℕ)) (x : List ℕ) → list_all p (front ++ x ∷ back) ≡ true → p x ≡ true
back_all p [] back x h = (and_parts (p x) (list_all p back) h).0
back_all p (y ∷ ys) back x h = back_all p ys back x (and_parts (p y) (list_all p (ys ++ x ∷ back)) h).1

word_at : (d : Declarations) → IsTold d → (front back : List PlainFlatItem) (m : PlainFlatItem) → d.items ≡ front ++ m ∷ back → is_named m.name ≡ true
word_at d told front back m e = back_all is_named (names_of front) (names_of back) m.name (ap (list_all is_named) (sym (names_at d front back m e)) ∙ told.names)

place_at : (d : Declarations) → IsTold d → (front back : List PlainFlatItem) (m : PlainFlatItem) → d.items ≡ front ++ m ∷ back → place_of (names_of d.items) m.name ≡ Some (length front)
place_at d told front back m e =
    ap (λ l. place_of l m.name) (names_at d front back m e)
    ∙ placed_at (names_of front) (names_of back) m.name (ap (are_fresh []) (sym (names_at d front back m e)) ∙ told.fresh)
    ∙ ap Some (length-map front (λ (m : PlainFlatItem). m.name))

no_define : (h : Heading) (k : ItemKind) → picks h k ≡ true → is_define k ≡ false
no_define h kind.State e = refl
no_define h kind.Frozen e = refl
no_define h kind.Input e = refl
no_define State kind.Define e = absurd (let f : false ≡ true = e in cc)
no_define Input kind.Define e = absurd (let f : false ≡ true = e in cc)
no_define h kind.Actual e = refl

item_read : (d : Declarations) (h : Heading) (at : Place) (text : List ℕ) (k : ℕ) (r : Reading) (m : PlainFlatItem) (v : Value) → picks h m.kind ≡ true → value_of d.symbols m.type text ≡ Some v
    → item_line d h at text k r (Some m) ≡ with_value at k r (Some v)
item_read d h at text k r m v pick e =
    cond-false (is_define m.kind) (Ok r) (cond (picks h m.kind) (with_value at k r (value_of d.symbols m.type text)) (refused 2 at)) (no_define h m.kind pick)
    ∙ cond-true (picks h m.kind) (with_value at k r (value_of d.symbols m.type text)) (refused 2 at) pick ∙ ap (with_value at k r) e

value_read : (d : Declarations) → IsTold d → (h : Heading) (front back : List PlainFlatItem) (m : PlainFlatItem) (g : Given) → d.items ≡ front ++ m ∷ back → picks h m.kind ≡ true → Named d.symbols m g
    → (sf vs : List (Option Value)) (v : Option Value) → length sf ≡ length front → (at p : Place) (f : List ℕ) (ss ls : List (List Given))
    → step d at (stated_line g.name (value_text g.value)) (reading (Some h) p f (sf ++ v ∷ vs) ss ls) ≡ Ok (reading (Some h) p f (sf ++ Some g.value ∷ vs) ss ls)
value_read d told h front back m g e pick n sf vs v long at p f ss ls =
    let r = reading (Some h) p f (sf ++ v ∷ vs) ss ls in
    let text = value_text g.value in
    let line = stated_line g.name text in
    let named : is_named g.name ≡ true = ap is_named (sym n.name) ∙ word_at d told front back m e in
    let solid = value_solid d.symbols told.symbols m.type g.value n.fits in
    other_line d at line r (none_passed g.name text named) (no_heading (codes "State:") g.name text named)
    ∙ ap (label_step d h at line r) (no_heading (codes "Input:") g.name text named)
    ∙ ap (value_step d h at r) (value_parted g.name text (named_solid g.name named) solid.0)
    ∙ ap (λ x. placed_line d h at text r (place_of (names_of d.items) x)) (sym n.name)
    ∙ ap (placed_line d h at text r) (place_at d told front back m e)
    ∙ ap (item_line d h at text (length front) r) (ap (λ l. slice_get l (length front)) e ∙ item_at front back m)
    ∙ item_read d h at text (length front) r m g.value pick (read_again d.symbols m.type g.value n.fits)
    ∙ ap (λ st. Ok (reading (Some h) p f st ss ls)) (ap (λ k. slice_set (sf ++ v ∷ vs) k (Some g.value)) (sym long) ∙ set-append_seam sf v vs (Some g.value))

value_line_read : (d : Declarations) → IsTold d → (h : Heading) (front back : List PlainFlatItem) (m : PlainFlatItem) (g : Given) → d.items ≡ front ++ m ∷ back → picks h m.kind ≡ true → Named d.symbols m g
    → (sf vs : List (Option Value)) (v : Option Value) → length sf ≡ length front → (end p : Place) (f : List ℕ) (ss ls : List (List Given)) (all : Result Run Refusal) (more : List ℕ)
    → ComesTo d end all more (reading (Some h) p f (sf ++ Some g.value ∷ vs) ss ls) → ComesTo d end all (value_line g ++ more) (reading (Some h) p f (sf ++ v ∷ vs) ss ls)
value_line_read d told h front back m g e pick n sf vs v long end p f ss ls all more k at =
    let r = reading (Some h) p f (sf ++ v ∷ vs) ss ls in
    let q = reading (Some h) p f (sf ++ Some g.value ∷ vs) ss ls in
    let text = value_text g.value in
    let named : is_named g.name ≡ true = ap is_named (sym n.name) ∙ word_at d told front back m e in
    let solid = value_solid d.symbols told.symbols m.type g.value n.fits in
    ap (λ l. lines_read d end at (lines_of l) r) (value_cut g.name text more)
    ∙ line_read d end at (indented (stated_line g.name text)) more r q (value_one_line g.name text (named_solid g.name named) solid.0)
    (ap (λ l. step d at l r) (value_trimmed g.name text named solid.0 solid.1) ∙ value_read d told h front back m g e pick n sf vs v long at p f ss ls)
    ∙ k (behind_line at (indented (stated_line g.name text)))

-- ---- all values behind a heading

pub values_read : (d : Declarations) → IsTold d → (end : Place) (all : Result Run Refusal) (more : List ℕ) (h : Heading) (p : Place) (f : List ℕ) (ss ls : List (List Given))
    → (back front : List PlainFlatItem) → d.items ≡ front ++ back → (sf sb : List (Option Value)) → length sf ≡ length front → length sb ≡ length back → (gs : List Given) → AreOf d.symbols h back gs
    → ComesTo d end all more (reading (Some h) p f (sf ++ restated h back sb gs) ss ls) → ComesTo d end all (flat_map value_line gs ++ more) (reading (Some h) p f (sf ++ sb) ss ls)
values_read d told end all more h p f ss ls [] front e sf sb long same [] are k = k
values_read d told end all more h p f ss ls [] front e sf sb long same (g ∷ gs) are k = absurd (let x : false ≡ true = are in cc)
values_read d told end all more h p f ss ls (m ∷ ms) front e sf [] long same gs are k = absurd (omega (arith, same))
values_read d told end all more h p f ss ls (m ∷ ms) front e sf (v ∷ vs) long same gs are k =
    go (picks h m.kind) refl gs are k
    (λ w gs are k.
    subst (λ st. ComesTo d end all (flat_map value_line gs ++ more) (reading (Some h) p f st ss ls)) (append_assoc sf (w ∷ []) vs)
    (values_read d told end all more h p f ss ls ms (front ++ m ∷ []) (e ∙ sym (append_assoc front (m ∷ []) ms)) (sf ++ w ∷ []) vs
    (length-append sf (w ∷ []) ∙ ap (λ n. n + 1) long ∙ sym (length-append front (m ∷ []))) (omega (arith, same)) gs are
    (subst (λ st. ComesTo d end all more (reading (Some h) p f st ss ls)) (sym (append_assoc sf (w ∷ []) (restated h ms vs gs))) k)))
  where
    go : (b : Bool) → picks h m.kind ≡ b → (gs : List Given) → names_each d.symbols (cond b (m ∷ picked h ms) (picked h ms)) gs ≡ true
        → ComesTo d end all more (reading (Some h) p f (sf ++ replaced b v gs ∷ restated h ms vs (remaining b gs)) ss ls)
        → ((w : Option Value) (gs : List Given) → AreOf d.symbols h ms gs → ComesTo d end all more (reading (Some h) p f (sf ++ w ∷ restated h ms vs gs) ss ls)
        → ComesTo d end all (flat_map value_line gs ++ more) (reading (Some h) p f (sf ++ w ∷ vs) ss ls))
        → ComesTo d end all (flat_map value_line gs ++ more) (reading (Some h) p f (sf ++ v ∷ vs) ss ls)
    go true pick [] are k ih = absurd (let x : false ≡ true = are in cc)
    go true pick (g ∷ gs) are k ih =
        let t = first_named d.symbols m (picked h ms) g gs are in
        subst (λ l. ComesTo d end all l (reading (Some h) p f (sf ++ v ∷ vs) ss ls)) (sym (append_assoc (value_line g) (flat_map value_line gs) more))
        (value_line_read d told h front ms m g e pick t.0 sf vs v long end p f ss ls all (flat_map value_line gs ++ more) (ih (Some g.value) gs t.1 k))
    go false pick gs are k ih = ih v gs are k

-- ---- headings

pub begun_at : (d : Declarations) (h : Heading) (at : Place) (n : ℕ) (o : Option Heading) (p : Place) (f : List ℕ) (vs : List (Option Value)) (ss ls : List (List Given))
    → (is_none o || bytes_eq (49 ∷ []) f) ≡ true → n ≡ length ss + 1 → is_allowed d h (reading o p f vs ss ls) ≡ true
    → begun d h at (49 ∷ [], decimal n) (reading o p f vs ss ls) ≡ Ok (reading (Some h) at (49 ∷ []) vs ss ls)
begun_at d h at n o p f vs ss ls first is allowed =
    let r = reading o p f vs ss ls in
    let q = Ok (reading (Some h) at (49 ∷ []) vs ss ls) in
    let numbered : is_numbered r (49 ∷ [], decimal n) ≡ true
    = and_from (is_none o || bytes_eq (49 ∷ []) f) (bytes_eq (decimal n) (decimal (length ss + 1))) first ((bytes_eq-Decides (decimal n) (decimal (length ss + 1))).1 (ap decimal is)) in
    cond-true (is_numbered r (49 ∷ [], decimal n)) (cond (is_allowed d h r) q (refused 5 at)) (refused 1 at) numbered ∙ cond-true (is_allowed d h r) q (refused 5 at) allowed

pub state_line_read : (d : Declarations) (end : Place) (all : Result Run Refusal) (more : List ℕ) (n : ℕ) → 0 < n → n < 2 ^ 64
    → (r : Reading) (o : Option Heading) (p : Place) (f : List ℕ) (vs : List (Option Value)) (ss ls : List (List Given)) → ended d State r.heading r ≡ Ok (reading o p f vs ss ls)
    → (is_none o || bytes_eq (49 ∷ []) f) ≡ true → n ≡ length ss + 1 → is_within d n ≡ true
    → ((q : Place) → ComesTo d end all more (reading (Some State) q (49 ∷ []) vs ss ls)) → ComesTo d end all (heading_text (codes "State") n ++ more) r
state_line_read d end all more n some small r o p f vs ss ls e first is within k at =
    ap (λ l. lines_read d end at (lines_of l) r) (state_cut n more)
    ∙ line_read d end at (twice (state_heading n)) more r (reading (Some State) at (49 ∷ []) vs ss ls) (state_one_line n)
    (ap (λ l. step d at l r) (state_trimmed n) ∙ state_heading_step d at (state_heading n) r (49 ∷ [], decimal n) refl (state_numbers n some small)
    ∙ ap (λ x. go_on x (begun d State at (49 ∷ [], decimal n))) e ∙ begun_at d State at n o p f vs ss ls first is (ap (is_within d) (sym is) ∙ within))
    ∙ k at (behind_line at (twice (state_heading n)))

pub label_line_read : (d : Declarations) (end : Place) (all : Result Run Refusal) (more : List ℕ) (n : ℕ) → 0 < n → n < 2 ^ 64
    → (r : Reading) (h : Heading) → r.heading ≡ Some h → (o : Option Heading) (p : Place) (f : List ℕ) (vs : List (Option Value)) (ss ls : List (List Given)) → ended d Input r.heading r ≡ Ok (reading o p f vs ss ls)
    → (is_none o || bytes_eq (49 ∷ []) f) ≡ true → n ≡ length ss + 1
    → ((q : Place) → ComesTo d end all more (reading (Some Input) q (49 ∷ []) vs ss ls)) → ComesTo d end all (heading_text (codes "Input") n ++ more) r
label_line_read d end all more n some small r h stands o p f vs ss ls e first is k at =
    ap (λ l. lines_read d end at (lines_of l) r) (label_cut n more)
    ∙ line_read d end at (twice (label_heading n)) more r (reading (Some Input) at (49 ∷ []) vs ss ls) (label_one_line n)
    (ap (λ l. step d at l r) (label_trimmed n) ∙ other_line d at (label_heading n) r refl (label_other n) ∙ ap (other_step d at (label_heading n) r) stands
    ∙ ap (label_step d h at (label_heading n) r) (label_numbers n some small)
    ∙ ap (λ x. go_on x (begun d Input at (49 ∷ [], decimal n))) e ∙ begun_at d Input at n o p f vs ss ls first is refl)
    ∙ k at (behind_line at (twice (label_heading n)))
