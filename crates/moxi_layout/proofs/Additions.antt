-- What lines with more behind them add to the order of lines, and to the places and arguments of each kind.
use Rattle.std.proofs.Common.{◌≡◌, ℕ, suc, ◌+◌, Bool, true, false, cond, List, [], ◌∷◌, ◌++◌, length, refl, sym, ap, ◌∙◌, arith, append_assoc}
use Rattle.std.specs.List.{AllByRecursion}
use Rattle.std.proofs.lemmas.List.{append-nil}
use Rattle.btor_tree.specs.declared.args.Arg.{Arg}
use Rattle.btor_tree.specs.declared.lines.Line.{Line}
use Rattle.btor_tree.specs.declared.lines.LineOp.{LineOp}
use Rattle.btor_tree.specs.declared.lines.LineOp.TheVariants as line
use Rattle.btor_tree.specs.Fits.{is_bad, is_constraint, is_input, is_state, operands}
use Rattle.btor_tree.specs.Sharing.{GrowsByShared, is_shared}
use Rattle.btor_tree.proofs.Paths.{operands_append}
use Rattle.btor_witness.specs.Room.{places_in, places_of}
use Rattle.moxi_layout.specs.Skeleton.{Entry, entries_in, entry, entry_of, entry_width, is_ordered}
use Rattle.moxi_lines.proofs.Extending.{Extends, extends_none, extends_then, quietly}

-- entries, the places of inputs and of states, and the arguments of constraints and of bad lines
pub record Added : Type 0 where
  pub entries : List Entry
  pub inputs : List ℕ
  pub states : List ℕ
  pub constraints : List Arg
  pub bads : List Arg

abbrev pub nothing_added : Added
nothing_added = record { entries = []; inputs = []; states = []; constraints = []; bads = [] }

abbrev pub then_added : Added → Added → Added
then_added d e =
    record { entries = d.entries ++ e.entries; inputs = d.inputs ++ e.inputs; states = d.states ++ e.states; constraints = d.constraints ++ e.constraints; bads = d.bads ++ e.bads }

pub record Adds (old new : List Line) (d : Added) : Type 0 where
  pub extends : Extends old new
  pub entries : (all : List Line) → Extends new all → entries_in all new ≡ entries_in all old ++ d.entries
  pub inputs : places_of is_input new ≡ places_of is_input old ++ d.inputs
  pub states : places_of is_state new ≡ places_of is_state old ++ d.states
  pub constraints : operands is_constraint new ≡ operands is_constraint old ++ d.constraints
  pub bads : operands is_bad new ≡ operands is_bad old ++ d.bads

appended : {A : Type 0} (a b c : List A) (d e : List A) → b ≡ a ++ d → c ≡ b ++ e → c ≡ a ++ (d ++ e)
appended a b c d e g h = h ∙ ap (λ z. z ++ e) g ∙ append_assoc a d e

pub adds_none : (lines : List Line) → Adds lines lines nothing_added
adds_none lines =
    record {
      extends = extends_none lines;
      entries = λ all g. sym (append-nil (entries_in all lines));
      inputs = sym (append-nil (places_of is_input lines));
      states = sym (append-nil (places_of is_state lines));
      constraints = sym (append-nil (operands is_constraint lines));
      bads = sym (append-nil (operands is_bad lines));
    }

pub adds_then : (a b c : List Line) (d e : Added) → Adds a b d → Adds b c e → Adds a c (then_added d e)
adds_then a b c d e g h =
    record {
      extends = extends_then a b c g.extends h.extends;
      entries = λ all x. appended (entries_in all a) (entries_in all b) (entries_in all c) d.entries e.entries (g.entries all (extends_then b c all h.extends x)) (h.entries all x);
      inputs = appended (places_of is_input a) (places_of is_input b) (places_of is_input c) d.inputs e.inputs g.inputs h.inputs;
      states = appended (places_of is_state a) (places_of is_state b) (places_of is_state c) d.states e.states g.states h.states;
      constraints = appended (operands is_constraint a) (operands is_constraint b) (operands is_constraint c) d.constraints e.constraints g.constraints h.constraints;
      bads = appended (operands is_bad a) (operands is_bad b) (operands is_bad c) d.bads e.bads g.bads h.bads;
    }

-- ---- single lines

kept_append : {A : Type 0} (b : Bool) (x : A) (both xs ys : List A) → both ≡ xs ++ ys → cond b (x ∷ both) both ≡ cond b (x ∷ xs) xs ++ ys
kept_append true x both xs ys e = ap (λ zs. x ∷ zs) e
kept_append false x both xs ys e = e

pub entries_append : (all xs ys : List Line) → entries_in all (xs ++ ys) ≡ entries_in all xs ++ entries_in all ys
entries_append all [] ys = refl
entries_append all (x ∷ xs) ys = kept_append (is_ordered x.op) (entry_of all x) (entries_in all (xs ++ ys)) (entries_in all xs) (entries_in all ys) (entries_append all xs ys)

places_append : (n : ℕ) (kind : LineOp → Bool) (xs ys : List Line) → places_in n kind (xs ++ ys) ≡ places_in n kind xs ++ places_in (length xs + n) kind ys
places_append n kind [] ys = ap (λ m. places_in m kind ys) (let e : n ≡ 0 + n = omega arith in e)
places_append n kind (x ∷ xs) ys =
    let e : length xs + suc n ≡ length (x ∷ xs) + n = omega arith in
    kept_append (kind x.op) n (places_in (suc n) kind (xs ++ ys)) (places_in (suc n) kind xs) (places_in (length (x ∷ xs) + n) kind ys)
    (places_append (suc n) kind xs ys ∙ ap (λ m. places_in (suc n) kind xs ++ places_in m kind ys) e)

-- a line at a place, with a width
abbrev pub line_added : ℕ → Line → ℕ → Added
line_added n l w =
    record {
      entries = cond (is_ordered l.op) (entry l.op w l.symbol ∷ []) [];
      inputs = cond (is_input l.op) (n ∷ []) [];
      states = cond (is_state l.op) (n ∷ []) [];
      constraints = cond (is_constraint l.op) l.args [];
      bads = cond (is_bad l.op) l.args [];
    }

pub adds_line : (lines : List Line) (l : Line) (w : ℕ) → ((all : List Line) → Extends (lines ++ l ∷ []) all → entry_width all l.op l.sort ≡ w) → Adds lines (lines ++ l ∷ []) (line_added (length lines) l w)
adds_line lines l w e =
    record {
      extends = record { more = l ∷ []; is = refl };
      entries = λ all g. entries_append all lines (l ∷ []) ∙ ap (λ v. entries_in all lines ++ cond (is_ordered l.op) (entry l.op v l.symbol ∷ []) []) (e all g);
      inputs = at_end is_input;
      states = at_end is_state;
      constraints = operands_append is_constraint lines (l ∷ []) ∙ ap (λ z. operands is_constraint lines ++ z) (append-nil (cond (is_constraint l.op) l.args []));
      bads = operands_append is_bad lines (l ∷ []) ∙ ap (λ z. operands is_bad lines ++ z) (append-nil (cond (is_bad l.op) l.args []));
    }
  where
    at_end : (kind : LineOp → Bool) → places_of kind (lines ++ l ∷ []) ≡ places_of kind lines ++ cond (kind l.op) (length lines ∷ []) []
    at_end kind = places_append 0 kind lines (l ∷ []) ∙ ap (λ m. places_of kind lines ++ cond (kind l.op) (m ∷ []) []) (let q : length lines + 0 ≡ length lines = omega arith in q)

-- ---- sorts, constants and operators

-- no line that is shared is of this kind
abbrev pub IsUnshared : (LineOp → Bool) → Type 0
IsUnshared kind = (o : LineOp) → is_shared o ≡ true → kind o ≡ false

ordered_unshared : IsUnshared is_ordered
ordered_unshared line.Input h = absurd (cc)
ordered_unshared line.State h = absurd (cc)
ordered_unshared line.Init h = absurd (cc)
ordered_unshared line.Next h = absurd (cc)
ordered_unshared line.Constraint h = absurd (cc)
ordered_unshared line.Bad h = absurd (cc)
ordered_unshared o h = refl

input_unshared : IsUnshared is_input
input_unshared line.Input h = absurd (cc)
input_unshared o h = refl

state_unshared : IsUnshared is_state
state_unshared line.State h = absurd (cc)
state_unshared o h = refl

constraint_unshared : IsUnshared is_constraint
constraint_unshared line.Constraint h = absurd (cc)
constraint_unshared o h = refl

bad_unshared : IsUnshared is_bad
bad_unshared line.Bad h = absurd (cc)
bad_unshared o h = refl

quiet_entries : (all more : List Line) → AllByRecursion (λ l. is_shared l.op ≡ true) more → entries_in all more ≡ []
quiet_entries all [] a = refl
quiet_entries all (l ∷ more) a = ap (λ b. cond b (entry_of all l ∷ entries_in all more) (entries_in all more)) (ordered_unshared l.op a.0) ∙ quiet_entries all more a.1

quiet_places : (kind : LineOp → Bool) → IsUnshared kind → (n : ℕ) (more : List Line) → AllByRecursion (λ l. is_shared l.op ≡ true) more → places_in n kind more ≡ []
quiet_places kind t n [] a = refl
quiet_places kind t n (l ∷ more) a = ap (λ b. cond b (n ∷ places_in (suc n) kind more) (places_in (suc n) kind more)) (t l.op a.0) ∙ quiet_places kind t (suc n) more a.1

quiet_operands : (kind : LineOp → Bool) → IsUnshared kind → (more : List Line) → AllByRecursion (λ l. is_shared l.op ≡ true) more → operands kind more ≡ []
quiet_operands kind t [] a = refl
quiet_operands kind t (l ∷ more) a = ap (λ b. cond b l.args [] ++ operands kind more) (t l.op a.0) ∙ quiet_operands kind t more a.1

pub adds_quietly : (a b : List Line) → GrowsByShared a b → Adds a b nothing_added
adds_quietly a b g =
    record {
      extends = quietly a b g;
      entries = λ all x. ap (entries_in all) g.1 ∙ entries_append all a g.0 ∙ ap (λ z. entries_in all a ++ z) (quiet_entries all g.0 g.2);
      inputs = places is_input input_unshared;
      states = places is_state state_unshared;
      constraints = args is_constraint constraint_unshared;
      bads = args is_bad bad_unshared;
    }
  where
    places : (kind : LineOp → Bool) → IsUnshared kind → places_of kind b ≡ places_of kind a ++ []
    places kind t = ap (places_of kind) g.1 ∙ places_append 0 kind a g.0 ∙ ap (λ z. places_of kind a ++ z) (quiet_places kind t (length a + 0) g.0 g.2)

    args : (kind : LineOp → Bool) → IsUnshared kind → operands kind b ≡ operands kind a ++ []
    args kind t = ap (operands kind) g.1 ∙ operands_append kind a g.0 ∙ ap (λ z. operands kind a ++ z) (quiet_operands kind t g.0 g.2)

pub adds_then_quietly : (a b c : List Line) (d : Added) → Adds a b d → GrowsByShared b c → Adds a c d
adds_then_quietly a b c d g h =
    let q = adds_quietly b c h in
    record {
      extends = extends_then a b c g.extends q.extends;
      entries = λ all x. q.entries all x ∙ append-nil (entries_in all b) ∙ g.entries all (extends_then b c all q.extends x);
      inputs = q.inputs ∙ append-nil (places_of is_input b) ∙ g.inputs;
      states = q.states ∙ append-nil (places_of is_state b) ∙ g.states;
      constraints = q.constraints ∙ append-nil (operands is_constraint b) ∙ g.constraints;
      bads = q.bads ∙ append-nil (operands is_bad b) ∙ g.bads;
    }
