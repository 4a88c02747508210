-- What the attributes of a system or a check give, one behind the other.
use Rattle.std.proofs.Common.{◌≡◌, ◌==◌, ℕ, ◌+◌, nat_lt, Bool, true, false, cond, ◌&&◌, is_none, Some, List, [], ◌++◌, refl, sym, ap, ◌∙◌, subst, arith}
use Rattle.std.specs.Prelude.{codes, nat_le}
use Rattle.std.proofs.lemmas.Bool.Decides.{nat_tests}
use Rattle.text_core.specs.declared.place.Place.{Place}
use Rattle.moxi_sexpr.specs.declared.form.Atom.TheVariants.{Keyword}
use Rattle.moxi_sexpr.specs.Tree.{Tree, atom, Trees, no_trees, tree}
use Rattle.moxi_terms.specs.declared.term.Variable.{Variable}
use Rattle.moxi_terms.specs.Tree as terms
use Rattle.moxi_terms.specs.View.{ScopeState}
use Rattle.moxi_term_print.specs.Shown.{group, Showns, joined, Shows, ShowEach}
use Rattle.moxi_term_print.specs.Terms.{shown_term, shown_variables}
use Rattle.moxi_scripts.specs.declared.parts.Command.{Command}
use Rattle.moxi_scripts.specs.declared.parts.Command.TheVariants.{System, Check}
use Rattle.moxi_scripts.specs.declared.parts.Key.{Key}
use Rattle.moxi_scripts.specs.declared.parts.Key.TheVariants.{Input, Output, Local, Init, Trans, Inv, Subsystem, Assumption, Current, Reachable, Query, Queries}
use Rattle.moxi_scripts.specs.declared.parts.Lists.{Lists}
use Rattle.moxi_scripts.specs.declared.parts.Turn.TheVariants.{AtKeyword}
use Rattle.moxi_scripts.specs.Attributes.{count_of, is_list_form, key_named, key_number, key_turn, shape_holds, takes_term, turns_fit, unknown_failures}
use Rattle.moxi_scripts.specs.Collecting.{fails_if}
use Rattle.moxi_scripts.specs.Lists.{entries_at, text_entries}
use Rattle.moxi_script_print.specs.Printing.{formula_attribute, list_attribute, shown_formulas, shown_lists}
use Rattle.moxi_script_print.proofs.AgainShapes.{is_attribute, joined_joined}
use Rattle.moxi_scripts.specs.laws.WholeNames.{and_both}
use Rattle.moxi_scripts.proofs.MeetingLaws.{or_second}

abbrev pub attribute_forms : Place → List ℕ → Tree → Trees → Trees
attribute_forms p name t ts = tree (atom p (Keyword name)) (tree t ts)

-- a key of which there is one value at most
abbrev pub is_once : Key → Bool
is_once k = nat_lt (key_number k) 6

-- attributes that stand anywhere and any number of times
pub record IsTail (command : Command) (ts : Trees) : Type 0 where
  pub fits : turns_fit command AtKeyword ts ≡ true
  pub known : unknown_failures command AtKeyword ts ≡ []
  pub counts : (k : Key) → is_once k ≡ true → count_of command k AtKeyword ts ≡ 0
  pub lists : (l : Lists) → text_entries l command AtKeyword ts ≡ []

apart : (m n : ℕ) → nat_lt m 6 ≡ true → nat_lt n 6 ≡ false → (m == n) ≡ false
apart m n h g = by_test (m == n) refl
  where
    by_test : (b : Bool) → (m == n) ≡ b → b ≡ false
    by_test true e = absurd (let k : m ≡ n = grind (arith, nat_tests) in let l : nat_lt n 6 ≡ true = ap (λ x. nat_lt x 6) (sym k) ∙ h in cc)
    by_test false e = refl

-- a key of which there may be more values is none of a list
no_list : (l : Lists) (k : Key) → is_once k ≡ false → entries_at l k ≡ []
no_list l Input h = absurd (cc)
no_list l Output h = absurd (cc)
no_list l Local h = absurd (cc)
no_list l Init h = refl
no_list l Trans h = refl
no_list l Inv h = refl
no_list l Subsystem h = refl
no_list l Assumption h = refl
no_list l Current h = refl
no_list l Reachable h = refl
no_list l Query h = refl
no_list l Queries h = refl

pub tail_end : (command : Command) → IsTail command no_trees
tail_end command = record { fits = refl; known = refl; counts = λ k h. refl; lists = λ l. refl }

pub tail_more : (command : Command) (name : List ℕ) (k : Key) (p : Place) (t : Tree) (ts : Trees) → key_named command name ≡ Some k → is_once k ≡ false → is_list_form t ≡ true → IsTail command ts
    → IsTail command (attribute_forms p name t ts)
tail_more command name k p t ts e once l r = record {
  fits =
      ap (λ o. turns_fit command (key_turn o) (tree t ts)) e ∙ ap (λ b. b && turns_fit command AtKeyword ts) (or_second (takes_term k) (is_list_form t) l) ∙ r.fits;
  known = ap (λ o. fails_if (is_none o) 6 p ++ unknown_failures command (key_turn o) (tree t ts)) e ∙ r.known;
  counts = λ j h.
      ap (λ o. 0 + count_of command j (key_turn o) (tree t ts)) e ∙ ap (λ b. 0 + ((cond b 1 0) + count_of command j AtKeyword ts)) (apart (key_number j) (key_number k) h once)
      ∙ ap (λ n. 0 + (0 + n)) (r.counts j h);
  lists = λ l.
      ap (λ o. text_entries l command (key_turn o) (tree t ts)) e ∙ ap (λ xs. xs ++ text_entries l command AtKeyword ts) (no_list l k once) ∙ r.lists l;
}

-- the three lists, and what is behind them
pub record HasLists (s : ScopeState) (inputs outputs locals : List Variable) (rest : Showns) (ts : Trees) : Type 0 where
  pub input_place : Place
  pub input : Tree
  pub output_place : Place
  pub output : Tree
  pub local_place : Place
  pub local : Tree
  pub more : Trees
  pub is : ts ≡ attribute_forms input_place (codes "input") input (attribute_forms output_place (codes "output") output (attribute_forms local_place (codes "local") local more))
  pub shows_inputs : Shows input (group (shown_variables s inputs))
  pub shows_outputs : Shows output (group (shown_variables s outputs))
  pub shows_locals : Shows local (group (shown_variables s locals))
  pub show_more : ShowEach more rest

pub has_lists : (s : ScopeState) (inputs outputs locals : List Variable) (rest : Showns) (ts : Trees) → ShowEach ts (joined (shown_lists s inputs outputs locals) rest) → HasLists s inputs outputs locals rest ts
unfolding shown_lists
has_lists s inputs outputs locals rest ts h =
    let i = list_attribute s (codes "input") inputs in
    let o = list_attribute s (codes "output") outputs in
    let l = list_attribute s (codes "local") locals in
    let a = is_attribute ts (codes "input") (group (shown_variables s inputs)) (joined (joined o l) rest) (subst (ShowEach ts) (joined_joined i (joined o l) rest) h) in
    let b = is_attribute a.more (codes "output") (group (shown_variables s outputs)) (joined l rest) (subst (ShowEach a.more) (joined_joined o l rest) a.show_more) in
    let c = is_attribute b.more (codes "local") (group (shown_variables s locals)) rest b.show_more in
    record {
      input_place = a.place;
      input = a.value;
      output_place = b.place;
      output = b.value;
      local_place = c.place;
      local = c.value;
      more = c.more;
      is = a.is ∙ ap (attribute_forms a.place (codes "input") a.value) (b.is ∙ ap (attribute_forms b.place (codes "output") b.value) c.is);
      shows_inputs = a.shows;
      shows_outputs = b.shows;
      shows_locals = c.shows;
      show_more = c.show_more;
    }

-- the three formulas of a system, and what is behind them
pub record HasFormulas (s : ScopeState) (vars : List (List ℕ)) (init trans inv : terms.Tree) (rest : Showns) (ts : Trees) : Type 0 where
  pub init_place : Place
  pub init_form : Tree
  pub trans_place : Place
  pub trans_form : Tree
  pub inv_place : Place
  pub inv_form : Tree
  pub more : Trees
  pub is : ts ≡ attribute_forms init_place (codes "init") init_form (attribute_forms trans_place (codes "trans") trans_form (attribute_forms inv_place (codes "inv") inv_form more))
  pub shows_init : Shows init_form (shown_term s vars [] init)
  pub shows_trans : Shows trans_form (shown_term s vars [] trans)
  pub shows_inv : Shows inv_form (shown_term s vars [] inv)
  pub show_more : ShowEach more rest

pub has_formulas : (s : ScopeState) (vars : List (List ℕ)) (init trans inv : terms.Tree) (rest : Showns) (ts : Trees) → ShowEach ts (joined (shown_formulas s vars init trans inv) rest)
    → HasFormulas s vars init trans inv rest ts
unfolding shown_formulas
has_formulas s vars init trans inv rest ts h =
    let x = formula_attribute s vars (codes "init") init in
    let y = formula_attribute s vars (codes "trans") trans in
    let z = formula_attribute s vars (codes "inv") inv in
    let a = is_attribute ts (codes "init") (shown_term s vars [] init) (joined (joined y z) rest) (subst (ShowEach ts) (joined_joined x (joined y z) rest) h) in
    let b = is_attribute a.more (codes "trans") (shown_term s vars [] trans) (joined z rest) (subst (ShowEach a.more) (joined_joined y z rest) a.show_more) in
    let c = is_attribute b.more (codes "inv") (shown_term s vars [] inv) rest b.show_more in
    record {
      init_place = a.place;
      init_form = a.value;
      trans_place = b.place;
      trans_form = b.value;
      inv_place = c.place;
      inv_form = c.value;
      more = c.more;
      is = a.is ∙ ap (attribute_forms a.place (codes "init") a.value) (b.is ∙ ap (attribute_forms b.place (codes "trans") b.value) c.is);
      shows_init = a.shows;
      shows_trans = b.shows;
      shows_inv = c.shows;
      show_more = c.show_more;
    }

-- THE SHAPE

abbrev pub list_forms : Place → Tree → Place → Tree → Place → Tree → Trees → Trees
list_forms p i q o r l ts = attribute_forms p (codes "input") i (attribute_forms q (codes "output") o (attribute_forms r (codes "local") l ts))

abbrev pub formula_forms : Place → Tree → Place → Tree → Place → Tree → Trees → Trees
formula_forms p i q t r v ts = attribute_forms p (codes "init") i (attribute_forms q (codes "trans") t (attribute_forms r (codes "inv") v ts))

-- an attribute of another key, and one of the key
abbrev passed : ℕ → ℕ
passed n = 0 + (0 + n)

abbrev counted : ℕ → ℕ
counted n = 0 + (1 + n)

all_hold : (a b c d e f g : Bool) → a ≡ true → b ≡ true → c ≡ true → d ≡ true → e ≡ true → f ≡ true → g ≡ true → (a && (b && (c && (d && (e && (f && g)))))) ≡ true
all_hold a b c d e f g h i j k l m n =
    and_both a (b && (c && (d && (e && (f && g))))) h (and_both b (c && (d && (e && (f && g)))) i (and_both c (d && (e && (f && g))) j
    (and_both d (e && (f && g)) k (and_both e (f && g) l (and_both f g m n)))))

three_hold : (a b c d : Bool) → a ≡ true → b ≡ true → c ≡ true → d ≡ true → (a && (b && (c && d))) ≡ true
three_hold a b c d h i j k = and_both a (b && (c && d)) h (and_both b (c && d) i (and_both c d j k))

pub check_shape : (p q r : Place) (i o l : Tree) (ts : Trees) → is_list_form i ≡ true → is_list_form o ≡ true → is_list_form l ≡ true → IsTail Check ts → shape_holds Check (list_forms p i q o r l ts) ≡ true
check_shape p q r i o l ts a b c tail =
    all_hold _ _ _ _ _ _ _ (three_hold (is_list_form i) (is_list_form o) (is_list_form l) (turns_fit Check AtKeyword ts) a b c tail.fits)
    (ap (λ n. nat_le (counted (passed (passed n))) 1) (tail.counts Input refl))
    (ap (λ n. nat_le (passed (counted (passed n))) 1) (tail.counts Output refl))
    (ap (λ n. nat_le (passed (passed (counted n))) 1) (tail.counts Local refl))
    (ap (λ n. nat_le (passed (passed (passed n))) 1) (tail.counts Init refl))
    (ap (λ n. nat_le (passed (passed (passed n))) 1) (tail.counts Trans refl))
    (ap (λ n. nat_le (passed (passed (passed n))) 1) (tail.counts Inv refl))

pub system_shape : (p q r u v w : Place) (i o l x y z : Tree) (ts : Trees) → is_list_form i ≡ true → is_list_form o ≡ true → is_list_form l ≡ true → IsTail System ts
    → shape_holds System (list_forms p i q o r l (formula_forms u x v y w z ts)) ≡ true
system_shape p q r u v w i o l x y z ts a b c tail =
    all_hold _ _ _ _ _ _ _ (three_hold (is_list_form i) (is_list_form o) (is_list_form l) (turns_fit System AtKeyword ts) a b c tail.fits)
    (ap (λ n. nat_le (counted (passed (passed (passed (passed (passed n)))))) 1) (tail.counts Input refl))
    (ap (λ n. nat_le (passed (counted (passed (passed (passed (passed n)))))) 1) (tail.counts Output refl))
    (ap (λ n. nat_le (passed (passed (counted (passed (passed (passed n)))))) 1) (tail.counts Local refl))
    (ap (λ n. nat_le (passed (passed (passed (counted (passed (passed n)))))) 1) (tail.counts Init refl))
    (ap (λ n. nat_le (passed (passed (passed (passed (counted (passed n)))))) 1) (tail.counts Trans refl))
    (ap (λ n. nat_le (passed (passed (passed (passed (passed (counted n)))))) 1) (tail.counts Inv refl))
