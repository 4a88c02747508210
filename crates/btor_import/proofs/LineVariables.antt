-- The variable of each line, by its number.
use Rattle.std.proofs.Common.{◌≡◌, ℕ, zero, suc, ◌+◌, ◌≤◌, Bool, true, false, cond, if◌then◌else◌, List, [], ◌∷◌, ◌++◌, take, drop, length, decimal, Some, option_map, refl, sym, ap, ◌∙◌, arith, inl, inr}
use Rattle.std.specs.Prelude.{slice_get, codes}
use Rattle.std.proofs.lemmas.Bool.{cases_order}
use Rattle.std.proofs.lemmas.Fmt.{decimal_injective}
use Rattle.std.proofs.lemmas.List.{length-map}
use Rattle.std.proofs.lemmas.Option.{same_Some, none-some, slice_get-map}
use Rattle.btor_tree.specs.declared.lines.Line.{Line}
use Rattle.btor_tree.specs.declared.lines.LineOp.{LineOp}
use Rattle.btor_tree.specs.declared.lines.LineOp.TheVariants as line
use Rattle.btor_tree.specs.Fits.{IsWellFormed, count_of, has_word, is_input, is_state}
use Rattle.btor_tree.proofs.Grows.{ids_rise}
use Rattle.moxi_terms.specs.declared.term.Variable.{Variable}
use Rattle.btor_import.specs.Script.{is_local, lines_in, number_among, number_of, variable_of, variables_in}
use Rattle.btor_import.proofs.Lists.{behind, in_front, mapped_at, one_of_two}

-- ---- lines of a kind, by how many are before

pub lines_long : (kind : LineOp → Bool) (lines : List Line) → length (lines_in kind lines) ≡ count_of kind lines
lines_long kind [] = refl
lines_long kind (l ∷ ls) = by (kind l.op) (lines_long kind ls)
  where
    by : (b : Bool) → length (lines_in kind ls) ≡ count_of kind ls → length (if b then l ∷ lines_in kind ls else lines_in kind ls) ≡ (if b then 1 else 0) + count_of kind ls
    by true h = omega (arith, h)
    by false h = omega (arith, h)

pub picked_at : (kind : LineOp → Bool) (lines : List Line) (i : ℕ) (l : Line) → slice_get lines i ≡ Some l → kind l.op ≡ true → slice_get (lines_in kind lines) (count_of kind (take i lines)) ≡ Some l
picked_at kind [] i l h k = absurd (none-some l h)
picked_at kind (m ∷ ls) zero l h k =
    let e = same_Some m l h in
    ap (λ b. slice_get (if b then m ∷ lines_in kind ls else lines_in kind ls) 0) (ap (λ (x : Line). kind x.op) e ∙ k) ∙ ap Some e
picked_at kind (m ∷ ls) (suc i) l h k = by (kind m.op) (picked_at kind ls i l h k)
  where
    by : (b : Bool) → slice_get (lines_in kind ls) (count_of kind (take i ls)) ≡ Some l
        → slice_get (if b then m ∷ lines_in kind ls else lines_in kind ls) ((if b then 1 else 0) + count_of kind (take i ls)) ≡ Some l
    by true h = ap (slice_get (m ∷ lines_in kind ls)) (let e : 1 + count_of kind (take i ls) ≡ suc (count_of kind (take i ls)) = omega arith in e) ∙ h
    by false h = ap (slice_get (lines_in kind ls)) (let e : 0 + count_of kind (take i ls) ≡ count_of kind (take i ls) = omega arith in e) ∙ h

-- the line that is the v-th of its kind
pub record Picked (kind : LineOp → Bool) (lines : List Line) (v : ℕ) (l : Line) : Type 0 where
  pub place : ℕ
  pub there : slice_get lines place ≡ Some l
  pub is : kind l.op ≡ true
  pub number : count_of kind (take place lines) ≡ v

pub picked : (kind : LineOp → Bool) (lines : List Line) (v : ℕ) (l : Line) → slice_get (lines_in kind lines) v ≡ Some l → Picked kind lines v l
picked kind [] v l h = absurd (none-some l h)
picked kind (m ∷ ls) v l h = by (kind m.op) refl v h (λ w g. picked kind ls w l g)
  where
    by : (b : Bool) → kind m.op ≡ b → (v : ℕ) → slice_get (if b then m ∷ lines_in kind ls else lines_in kind ls) v ≡ Some l → ((w : ℕ) → slice_get (lines_in kind ls) w ≡ Some l → Picked kind ls w l)
        → Picked kind (m ∷ ls) v l
    by true e zero g ih = record { place = 0; there = g; is = ap (λ (x : Line). kind x.op) (sym (same_Some m l g)) ∙ e; number = refl }
    by true e (suc w) g ih =
        let p = ih w g in
        let n = p.number in
        record { place = suc p.place; there = p.there; is = p.is; number = ap (λ b. cond b 1 0 + count_of kind (take p.place ls)) e ∙ (let z : 1 + count_of kind (take p.place ls) ≡ suc w = omega (arith, n) in z) }
    by false e w g ih =
        let p = ih w g in
        let n = p.number in
        record { place = suc p.place; there = p.there; is = p.is; number = ap (λ b. cond b 1 0 + count_of kind (take p.place ls)) e ∙ (let z : 0 + count_of kind (take p.place ls) ≡ w = omega (arith, n) in z) }

-- ---- the variables of all lines

abbrev pub inputs_of : List Line → List Variable
inputs_of lines = variables_in (codes "i.") is_input lines

abbrev pub outputs_of : List Line → List Variable
outputs_of lines = variables_in (codes "s.") is_state lines

abbrev pub locals_in : List Line → List Variable
locals_in lines = variables_in (codes "n.") is_local lines

abbrev pub all_variables : List Line → List Variable
all_variables lines = inputs_of lines ++ (outputs_of lines ++ locals_in lines)

abbrev pub letter_by : Bool → Bool → List ℕ
letter_by input state = if input then codes "i." else (if state then codes "s." else codes "n.")

abbrev pub variable_for : List Line → Line → Variable
variable_for lines l = variable_of lines (letter_by (is_input l.op) (is_state l.op)) l

variables_long : (lines : List Line) (letter : List ℕ) (kind : LineOp → Bool) → length (variables_in letter kind lines) ≡ count_of kind lines
variables_long lines letter kind = length-map (lines_in kind lines) (variable_of lines letter) ∙ lines_long kind lines

variable_in : (lines : List Line) (letter : List ℕ) (kind : LineOp → Bool) (i : ℕ) (l : Line) → slice_get lines i ≡ Some l → kind l.op ≡ true
    → slice_get (variables_in letter kind lines) (count_of kind (take i lines)) ≡ Some (variable_of lines letter l)
variable_in lines letter kind i l h k = slice_get-map (variable_of lines letter) (lines_in kind lines) (count_of kind (take i lines)) ∙ ap (option_map (variable_of lines letter)) (picked_at kind lines i l h k)

pub local_is : (o : LineOp) → has_word o ≡ true → is_input o ≡ false → is_state o ≡ false → is_local o ≡ true
local_is line.Input h i s = absurd (cc)
local_is line.State h i s = absurd (cc)
local_is o h i s = h

pub local_word : (o : LineOp) → is_local o ≡ true → (has_word o ≡ true) × (is_input o ≡ false) × (is_state o ≡ false)
local_word line.Input h = absurd (cc)
local_word line.State h = absurd (cc)
local_word o h = (h, refl, refl)

abbrev number_by : List Line → List Line → Bool → Bool → ℕ
number_by lines before input state =
    if input then count_of is_input before
    else (if state then count_of is_input lines + count_of is_state before else (count_of is_input lines + count_of is_state lines + count_of is_local before))

-- each line with a word has its variable
pub variable_there : (lines : List Line) (i : ℕ) (l : Line) → slice_get lines i ≡ Some l → has_word l.op ≡ true → slice_get (all_variables lines) (number_of lines i) ≡ Some (variable_for lines l)
variable_there lines i l h w = ap (λ o. slice_get (all_variables lines) (number_among lines (take i lines) o)) h ∙ by (is_input l.op) refl (is_state l.op) refl
  where
    by : (a : Bool) → is_input l.op ≡ a → (b : Bool) → is_state l.op ≡ b → slice_get (all_variables lines) (number_by lines (take i lines) a b) ≡ Some (variable_of lines (letter_by a b) l)
    by true e b f = in_front (inputs_of lines) (outputs_of lines ++ locals_in lines) (count_of is_input (take i lines)) (variable_of lines (codes "i.") l) (variable_in lines (codes "i.") is_input i l h e)
    by false e true f =
        ap (λ n. slice_get (all_variables lines) (n + count_of is_state (take i lines))) (sym (variables_long lines (codes "i.") is_input))
        ∙ behind (inputs_of lines) (outputs_of lines ++ locals_in lines) (count_of is_state (take i lines))
        ∙ in_front (outputs_of lines) (locals_in lines) (count_of is_state (take i lines)) (variable_of lines (codes "s.") l) (variable_in lines (codes "s.") is_state i l h f)
    by false e false f =
        let n = count_of is_local (take i lines) in
        let a = variables_long lines (codes "i.") is_input in
        let b = variables_long lines (codes "s.") is_state in
        let s : count_of is_input lines + count_of is_state lines + n ≡ length (inputs_of lines) + (length (outputs_of lines) + n) = omega (arith, a, b) in
        ap (slice_get (all_variables lines)) s ∙ behind (inputs_of lines) (outputs_of lines ++ locals_in lines) (length (outputs_of lines) + n)
        ∙ behind (outputs_of lines) (locals_in lines) n ∙ variable_in lines (codes "n.") is_local i l h (local_is l.op w e f)

-- the line whose variable has a number
pub record HasLine (lines : List Line) (v : ℕ) (x : Variable) : Type 0 where
  pub place : ℕ
  pub line : Line
  pub there : slice_get lines place ≡ Some line
  pub word : has_word line.op ≡ true
  pub same : x ≡ variable_for lines line
  pub number : number_of lines place ≡ v

input_is : (o : LineOp) → is_input o ≡ true → (has_word o ≡ true) × (is_state o ≡ false)
input_is line.Input h = (refl, refl)
input_is o h = absurd (cc)

state_is : (o : LineOp) → is_state o ≡ true → (has_word o ≡ true) × (is_input o ≡ false)
state_is line.State h = (refl, refl)
state_is o h = absurd (cc)

found : (lines : List Line) (letter : List ℕ) (kind : LineOp → Bool) (v : ℕ) (x : Variable) → slice_get (variables_in letter kind lines) v ≡ Some x → (l : Line) × Picked kind lines v l × (x ≡ variable_of lines letter l)
found lines letter kind v x h = let m = mapped_at (variable_of lines letter) (lines_in kind lines) v x h in (m.0, picked kind lines v m.0 m.1, m.2)

pub line_of_variable : (lines : List Line) (v : ℕ) (x : Variable) → slice_get (all_variables lines) v ≡ Some x → HasLine lines v x
line_of_variable lines v x h =
    elim (one_of_two (inputs_of lines) (outputs_of lines ++ locals_in lines) v x h) [
      | inl a ↦
          let f = found lines (codes "i.") is_input v x a in
          let p = f.1 in
          let k = input_is f.0.op p.is in
          record {
            place = p.place;
            line = f.0;
            there = p.there;
            word = k.0;
            same = f.2 ∙ ap (λ b. variable_of lines (letter_by b (is_state f.0.op)) f.0) (sym p.is);
            number = ap (number_among lines (take p.place lines)) p.there ∙ ap (λ b. number_by lines (take p.place lines) b (is_state f.0.op)) p.is ∙ p.number;
          }
      | inr a ↦ elim (one_of_two (outputs_of lines) (locals_in lines) a.0 x a.2) [
        | inl b ↦
            let f = found lines (codes "s.") is_state a.0 x b in
            let p = f.1 in
            let k = state_is f.0.op p.is in
            let n = p.number in
            let m = a.1 in
            let i = variables_long lines (codes "i.") is_input in
            record {
              place = p.place;
              line = f.0;
              there = p.there;
              word = k.0;
              same = f.2 ∙ ap (λ c. variable_of lines (letter_by c true) f.0) (sym k.1) ∙ ap (λ c. variable_of lines (letter_by (is_input f.0.op) c) f.0) (sym p.is);
              number = ap (number_among lines (take p.place lines)) p.there ∙ ap (λ c. number_by lines (take p.place lines) c (is_state f.0.op)) k.1 ∙ ap (λ c. number_by lines (take p.place lines) false c) p.is
                  ∙ (let e : count_of is_input lines + count_of is_state (take p.place lines) ≡ v = omega (arith, n, m, i) in e);
            }
        | inr b ↦
            let f = found lines (codes "n.") is_local b.0 x b.2 in
            let p = f.1 in
            let k = local_word f.0.op p.is in
            let n = p.number in
            let m = a.1 in
            let q = b.1 in
            let i = variables_long lines (codes "i.") is_input in
            let s = variables_long lines (codes "s.") is_state in
            record {
              place = p.place;
              line = f.0;
              there = p.there;
              word = k.0;
              same = f.2 ∙ ap (λ c. variable_of lines (letter_by c false) f.0) (sym k.1) ∙ ap (λ c. variable_of lines (letter_by (is_input f.0.op) c) f.0) (sym k.2);
              number = ap (number_among lines (take p.place lines)) p.there ∙ ap (λ c. number_by lines (take p.place lines) c (is_state f.0.op)) k.1 ∙ ap (λ c. number_by lines (take p.place lines) false c) k.2
                  ∙ (let e : count_of is_input lines + count_of is_state lines + count_of is_local (take p.place lines) ≡ v = omega (arith, n, m, q, i, s) in e);
            }
      ]
    ]

-- ---- one variable, one name

pub id_small : (lines : List Line) (i : ℕ) (l : Line) → IsWellFormed lines → slice_get lines i ≡ Some l → l.id ≤ 2147483647
id_small lines i l w h = (w.by_line i l h).small

pub one_id : (lines : List Line) (i j : ℕ) (l m : Line) → IsWellFormed lines → slice_get lines i ≡ Some l → slice_get lines j ≡ Some m → l.id ≡ m.id → i ≡ j
one_id lines i j l m w h g e =
    elim (cases_order i j) [
      | inl same ↦ same
      | inr other ↦ elim other [
        | inl lt ↦ let r = ids_rise lines i j l m w h g lt in absurd (omega (arith, r, e))
        | inr lt ↦ let r = ids_rise lines j i m l w g h lt in absurd (omega (arith, r, e))
      ]
    ]

pub after_letter : (a b : Bool) (x : List ℕ) → drop 2 (letter_by a b ++ x) ≡ x
after_letter true b x = refl
after_letter false true x = refl
after_letter false false x = refl

-- two variables of one name are one
pub one_name : (lines : List Line) → IsWellFormed lines → (k l : ℕ) (x y : Variable) → slice_get (all_variables lines) k ≡ Some x → slice_get (all_variables lines) l ≡ Some y → x.name ≡ y.name → k ≡ l
one_name lines w k l x y a b e =
    let p = line_of_variable lines k x a in
    let q = line_of_variable lines l y b in
    let first : x.name ≡ letter_by (is_input p.line.op) (is_state p.line.op) ++ decimal p.line.id = ap (λ (v : Variable). v.name) p.same in
    let second : y.name ≡ letter_by (is_input q.line.op) (is_state q.line.op) ++ decimal q.line.id = ap (λ (v : Variable). v.name) q.same in
    let digits : decimal p.line.id ≡ decimal q.line.id =
    sym (after_letter (is_input p.line.op) (is_state p.line.op) (decimal p.line.id)) ∙ ap (drop 2) (sym first ∙ e ∙ second) ∙ after_letter (is_input q.line.op) (is_state q.line.op) (decimal q.line.id) in
    let i = id_small lines p.place p.line w p.there in
    let j = id_small lines q.place q.line w q.there in
    let ids = decimal_injective p.line.id q.line.id (omega (arith, i)) (omega (arith, j)) digits in
    sym p.number ∙ ap (number_of lines) (one_id lines p.place q.place p.line q.line w p.there q.there ids) ∙ q.number
