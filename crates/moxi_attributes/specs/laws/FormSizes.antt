-- Forms in forms, and the variables of lists, are no more than the nodes of the form that they are in.
use Rattle.std.proofs.Common.{◌≡◌, ℕ, zero, suc, ◌+◌, ◌<◌, ◌≤◌, nat_le, Bool, true, false, cond, List, [], ◌∷◌, ◌++◌, length, Option, None, Some, IfSome, refl, ap, arith}
use Rattle.std.proofs.lemmas.Bool.{and_parts}
use Rattle.std.proofs.lemmas.Bool.Decides.{nat_tests}
use Rattle.std.proofs.lemmas.List.{length-append}
use Rattle.std.proofs.lemmas.Option.{none-some, same_Some}
use Rattle.text_core.specs.declared.place.Place.{Place}
use Rattle.moxi_sexpr.specs.Tree.{Tree, atom, list, Trees, no_trees, tree, all_nodes, nodes}
use Rattle.moxi_terms.specs.View.{ScopeState}
use Rattle.moxi_term_reading.specs.Forms.{only_of, place_in, symbol_atom, symbol_of}
use Rattle.moxi_scripts.specs.declared.parts.Command.{Command}
use Rattle.moxi_scripts.specs.declared.parts.Declared.{Declared}
use Rattle.moxi_scripts.specs.declared.parts.Key.{Key}
use Rattle.moxi_scripts.specs.declared.parts.Key.TheVariants.{Input, Output, Local}
use Rattle.moxi_scripts.specs.declared.parts.Lists.{Lists}
use Rattle.moxi_scripts.specs.declared.parts.Turn.{Turn}
use Rattle.moxi_scripts.specs.declared.parts.Turn.TheVariants.{AtKeyword, Behind, Passing}
use Rattle.moxi_scripts.specs.Attributes.{count_of, is_behind, shape_holds, turn_after, value_of}
use Rattle.moxi_scripts.specs.Entries.{entries_of, entry_in, entry_of}
use Rattle.moxi_scripts.specs.Lists.{all_entries, is_free, listed_entries, lists_in, possible_among, possible_entries, possible_in, possible_symbol, text_entries}
use Rattle.moxi_scripts.specs.Shapes.{HeadedForms, NamedForm, headed, headed_by, named, named_by, named_in, parts_of}
use Rattle.moxi_term_reading.proofs.BoundLaws.{nodes_some}

-- FORMS IN FORMS

pub parts_few : (t : Tree) (ts : Trees) → parts_of t ≡ Some ts → suc (all_nodes ts) ≤ nodes t
parts_few (atom p a) ts e = absurd (none-some ts e)
parts_few (list p us) ts e =
    let same : all_nodes us ≡ all_nodes ts = ap all_nodes (same_Some us ts e) in
    let g : suc (all_nodes ts) ≤ suc (all_nodes us) = omega (arith, same) in
    g

pub headed_few : (ts : Trees) (h : HeadedForms) → headed ts ≡ Some h → suc (all_nodes h.rest) ≤ all_nodes ts
headed_few no_trees h e = absurd (none-some h e)
headed_few (tree t ts) h e = go (symbol_of t) e
  where
    go : (o : Option (List ℕ × Bool)) → headed_by (place_in t) o ts ≡ Some h → suc (all_nodes h.rest) ≤ nodes t + all_nodes ts
    go None e = absurd (none-some h e)
    go (Some x) e =
        let same : all_nodes ts ≡ all_nodes h.rest = ap (λ (k : HeadedForms). all_nodes k.rest) (same_Some _ h e) in
        omega (arith, same, nodes_some t)

pub only_few : (ts : Trees) (t : Tree) → only_of ts ≡ Some t → nodes t ≤ all_nodes ts
only_few no_trees t e = absurd (none-some t e)
only_few (tree u no_trees) t e =
    let same : nodes u ≡ nodes t = ap nodes (same_Some u t e) in
    let g : nodes t ≤ nodes u + 0 = omega (arith, same) in
    g
only_few (tree u (tree v vs)) t e = absurd (none-some t e)

pub named_few : (ts : Trees) (n : NamedForm) → named_in (headed ts) ≡ Some n → suc (nodes n.form) ≤ all_nodes ts
named_few ts n e = go (headed ts) refl e
  where
    by : (h : HeadedForms) → headed ts ≡ Some h → (o : Option Tree) → only_of h.rest ≡ o → named_by h o ≡ Some n → suc (nodes n.form) ≤ all_nodes ts
    by h e None f g = absurd (none-some n g)
    by h e (Some t) f g =
        let same : nodes t ≡ nodes n.form = ap (λ (k : NamedForm). nodes k.form) (same_Some _ n g) in
        omega (arith, headed_few ts h e, only_few h.rest t f, same)

    go : (o : Option HeadedForms) → headed ts ≡ o → named_in o ≡ Some n → suc (nodes n.form) ≤ all_nodes ts
    go None e f = absurd (none-some n f)
    go (Some h) e f = by h e (only_of h.rest) refl f

pub named_less : (t : Tree) (n : NamedForm) → named t ≡ Some n → nodes n.form < nodes t
named_less (atom p a) n e = absurd (none-some n e)
named_less (list p ts) n e = let g : nodes n.form < suc (all_nodes ts) = omega (arith, named_few ts n e) in g

pub value_less : (command : Command) (k : Key) (turn : Turn) (ts : Trees) (n : ℕ) → all_nodes ts < n → IfSome (value_of command k turn ts) (λ t. nodes t < n)
value_less command k turn no_trees n h = tt
value_less command k turn (tree t ts) n h =
    let sum : nodes t + all_nodes ts < n = h in
    go (is_behind k turn) (omega (arith, sum)) (value_less command k (turn_after command turn t) ts n (omega (arith, sum)))
  where
    go : (b : Bool) → nodes t < n → IfSome (value_of command k (turn_after command turn t) ts) (λ t. nodes t < n) → IfSome (cond b (Some t) (value_of command k (turn_after command turn t) ts)) (λ t. nodes t < n)
    go true here more = here
    go false here more = more

-- VARIABLES OF LISTS
--
-- A variable counts for its list, and a name that could be one for its atom.

entry_one : (s : ScopeState) (p : Place) (o : Option NamedForm) → length (entry_in s p o) ≤ 1
entry_one s p None = omega arith
entry_one s p (Some n) = omega arith

possible_one : (s : ScopeState) (p : Place) (o : Option (List ℕ × Bool)) → length (possible_symbol s p o) ≤ 1
possible_one s p None = omega arith
possible_one s p (Some x) = go (is_free s x.0) (record { name = x.0; place = p; sort = None })
  where
    go : (b : Bool) (d : Declared) → length (cond b (d ∷ []) []) ≤ 1
    go true d = omega arith
    go false d = omega arith

mutual
  possible_few : (s : ScopeState) (t : Tree) → length (possible_in s t) ≤ nodes t
  possible_few s (atom p a) = possible_one s p (symbol_atom a)
  possible_few s (list p ts) =
      let g : length (possible_among s ts) ≤ suc (all_nodes ts) = omega (arith, all_possible_few s ts) in
      g

  all_possible_few : (s : ScopeState) (ts : Trees) → length (possible_among s ts) ≤ all_nodes ts
  all_possible_few s no_trees = omega arith
  all_possible_few s (tree t ts) =
      let sum : length (possible_in s t ++ possible_among s ts) ≡ length (possible_in s t) + length (possible_among s ts) = length-append (possible_in s t) _ in
      let g : length (possible_in s t ++ possible_among s ts) ≤ nodes t + all_nodes ts = omega (arith, sum, possible_few s t, all_possible_few s ts) in
      g

possible_more : (s : ScopeState) (t : Tree) (ts : Trees) → length (possible_in s t ++ possible_among s ts) ≡ length (possible_in s t) + length (possible_among s ts)
possible_more s t ts = length-append (possible_in s t) (possible_among s ts)

entry_few : (s : ScopeState) (t : Tree) → length (entry_of s t) + length (possible_in s t) ≤ nodes t
entry_few s (atom p a) =
    let g : 0 + length (possible_symbol s p (symbol_atom a)) ≤ 1 = omega (arith, possible_one s p (symbol_atom a)) in
    g
entry_few s (list p ts) =
    let one : length (entry_of s (list p ts)) ≤ 1 = entry_one s p (named (list p ts)) in
    let g : length (entry_of s (list p ts)) + length (possible_among s ts) ≤ suc (all_nodes ts) = omega (arith, one, all_possible_few s ts) in
    g

-- the variables of a list, and the names in it that could be others
entries_most : (s : ScopeState) (ts : Trees) → length (entries_of s ts) + length (possible_among s ts) ≤ all_nodes ts
entries_most s no_trees = omega arith
entries_most s (tree t ts) =
    let one : length (entry_of s t ++ entries_of s ts) ≡ length (entry_of s t) + length (entries_of s ts) = length-append (entry_of s t) _ in
    let two : length (possible_in s t ++ possible_among s ts) ≡ length (possible_in s t) + length (possible_among s ts) = length-append (possible_in s t) _ in
    let g : length (entry_of s t ++ entries_of s ts) + length (possible_in s t ++ possible_among s ts) ≤ nodes t + all_nodes ts = omega (arith, one, two, entry_few s t, entries_most s ts) in
    g

pub entries_few : (s : ScopeState) (ts : Trees) → length (entries_of s ts) ≤ all_nodes ts
entries_few s ts = omega (arith, entries_most s ts)

listed_few : (s : ScopeState) (t : Tree) → length (listed_entries s (Some t)) + length (possible_in s t) ≤ nodes t
listed_few s (atom p a) =
    let g : 0 + length (possible_symbol s p (symbol_atom a)) ≤ 1 = omega (arith, possible_one s p (symbol_atom a)) in
    g
listed_few s (list p ts) =
    let g : length (entries_of s ts) + length (possible_among s ts) ≤ suc (all_nodes ts) = omega (arith, entries_most s ts) in
    g

-- how many variables the value of a key declares
abbrev declared_by : ScopeState → Command → Key → Turn → Trees → ℕ
declared_by s command k turn ts = length (listed_entries s (value_of command k turn ts))

-- how many variables the three lists declare, with the names that could be others
abbrev declared_most : ScopeState → Command → Turn → Trees → ℕ
declared_most s command turn ts = (declared_by s command Input turn ts + declared_by s command Output turn ts) + (declared_by s command Local turn ts + length (possible_among s ts))

-- three values are different forms: each form is behind one key
lists_most : (s : ScopeState) (command : Command) (turn : Turn) (ts : Trees) → declared_most s command turn ts ≤ all_nodes ts
lists_most s command turn no_trees = omega arith
lists_most s command turn (tree t ts) = go turn (lists_most s command (turn_after command turn t) ts)
  where
    go : (turn : Turn) → declared_most s command (turn_after command turn t) ts ≤ all_nodes ts → declared_most s command turn (tree t ts) ≤ nodes t + all_nodes ts
    go AtKeyword h = omega (arith, h, possible_more s t ts, possible_few s t)
    go Passing h = omega (arith, h, possible_more s t ts, possible_few s t)
    go (Behind Input) h = omega (arith, h, possible_more s t ts, listed_few s t)
    go (Behind Output) h = omega (arith, h, possible_more s t ts, listed_few s t)
    go (Behind Local) h = omega (arith, h, possible_more s t ts, listed_few s t)
    go (Behind k) h = omega (arith, h, possible_more s t ts, possible_few s t)

possible_less : (s : ScopeState) (shaped : Bool) (ts : Trees) → length (possible_entries s shaped ts) ≤ length (possible_among s ts)
possible_less s true ts = omega arith
possible_less s false ts = omega arith

-- the variables in the order of their numbers
pub all_most : (s : ScopeState) (command : Command) (shaped : Bool) (ts : Trees) → length (all_entries (lists_in s command ts)) + length (possible_entries s shaped ts) ≤ all_nodes ts
all_most s command shaped ts =
    let l = lists_in s command ts in
    let one : length (all_entries l) ≡ length (l.inputs.entries ++ l.outputs.entries) + length l.locals.entries = length-append (l.inputs.entries ++ l.outputs.entries) _ in
    let two : length (l.inputs.entries ++ l.outputs.entries) ≡ length l.inputs.entries + length l.outputs.entries = length-append l.inputs.entries _ in
    let most : (length l.inputs.entries + length l.outputs.entries) + (length l.locals.entries + length (possible_among s ts)) ≤ all_nodes ts = lists_most s command AtKeyword ts in
    omega (arith, one, two, most, possible_less s shaped ts)

-- n counted so often
abbrev times : ℕ → ℕ → ℕ
times zero n = 0
times (suc c) n = n + times c n

times_none : (c n : ℕ) → times (0 + c) n ≡ times c n
times_none c n =
    let e : 0 + c ≡ c = omega arith in
    ap (λ k. times k n) e

times_more : (c n : ℕ) → times (1 + c) n ≡ n + times c n
times_more c n =
    let e : 1 + c ≡ suc c = omega arith in
    ap (λ k. times k n) e

times_once : (c n : ℕ) → nat_le c 1 ≡ true → times c n ≤ n
times_once zero n h = omega arith
times_once (suc zero) n h = let g : n + 0 ≤ n = omega arith in g
times_once (suc (suc c)) n h =
    let g : suc (suc c) ≤ 1 = grind (arith, nat_tests) in
    absurd (omega (arith, g))

-- the variables of the lists of the keys in a text
abbrev text_size : Lists → Command → Turn → Trees → ℕ
text_size l command turn ts =
    times (count_of command Input turn ts) (length l.inputs.entries)
    + (times (count_of command Output turn ts) (length l.outputs.entries) + times (count_of command Local turn ts) (length l.locals.entries))

text_passes : (l : Lists) (command : Command) (next : Turn) (ts : Trees) → length (text_entries l command next ts) ≡ text_size l command next ts → length (text_entries l command next ts)
    ≡ times (0 + count_of command Input next ts) (length l.inputs.entries)
    + (times (0 + count_of command Output next ts) (length l.outputs.entries) + times (0 + count_of command Local next ts) (length l.locals.entries))
text_passes l command next ts h =
    let one = times_none (count_of command Input next ts) (length l.inputs.entries) in
    let two = times_none (count_of command Output next ts) (length l.outputs.entries) in
    let three = times_none (count_of command Local next ts) (length l.locals.entries) in
    omega (arith, h, one, two, three)

text_is : (l : Lists) (command : Command) (turn : Turn) (ts : Trees) → length (text_entries l command turn ts) ≡ text_size l command turn ts
text_is l command turn no_trees = omega arith
text_is l command turn (tree t ts) = go turn (text_is l command (turn_after command turn t) ts)
  where
    go : (turn : Turn) → length (text_entries l command (turn_after command turn t) ts) ≡ text_size l command (turn_after command turn t) ts → length (text_entries l command turn (tree t ts)) ≡ text_size l command turn (tree t ts)
    go AtKeyword h = text_passes l command (turn_after command AtKeyword t) ts h
    go Passing h = text_passes l command (turn_after command Passing t) ts h
    go (Behind Input) h =
        let sum = length-append l.inputs.entries (text_entries l command AtKeyword ts) in
        let one = times_more (count_of command Input AtKeyword ts) (length l.inputs.entries) in
        let two = times_none (count_of command Output AtKeyword ts) (length l.outputs.entries) in
        let three = times_none (count_of command Local AtKeyword ts) (length l.locals.entries) in
        omega (arith, h, sum, one, two, three)
    go (Behind Output) h =
        let sum = length-append l.outputs.entries (text_entries l command AtKeyword ts) in
        let one = times_none (count_of command Input AtKeyword ts) (length l.inputs.entries) in
        let two = times_more (count_of command Output AtKeyword ts) (length l.outputs.entries) in
        let three = times_none (count_of command Local AtKeyword ts) (length l.locals.entries) in
        omega (arith, h, sum, one, two, three)
    go (Behind Local) h =
        let sum = length-append l.locals.entries (text_entries l command AtKeyword ts) in
        let one = times_none (count_of command Input AtKeyword ts) (length l.inputs.entries) in
        let two = times_none (count_of command Output AtKeyword ts) (length l.outputs.entries) in
        let three = times_more (count_of command Local AtKeyword ts) (length l.locals.entries) in
        omega (arith, h, sum, one, two, three)
    go (Behind k) h = text_passes l command AtKeyword ts h

-- the variables in the order of the text, where no key stands twice
pub text_most : (s : ScopeState) (command : Command) (shaped : Bool) (ts : Trees) → shape_holds command ts ≡ true
    → length (text_entries (lists_in s command ts) command AtKeyword ts) + length (possible_entries s shaped ts) ≤ all_nodes ts
text_most s command shaped ts h =
    let l = lists_in s command ts in
    let inputs = and_parts _ _ (and_parts _ _ h).1 in
    let outputs = and_parts _ _ inputs.1 in
    let locals = and_parts _ _ outputs.1 in
    let most : (length l.inputs.entries + length l.outputs.entries) + (length l.locals.entries + length (possible_among s ts)) ≤ all_nodes ts = lists_most s command AtKeyword ts in
    let is : length (text_entries l command AtKeyword ts) ≡ text_size l command AtKeyword ts = text_is l command AtKeyword ts in
    let one : times (count_of command Input AtKeyword ts) (length l.inputs.entries) ≤ length l.inputs.entries = times_once _ _ inputs.0 in
    let two : times (count_of command Output AtKeyword ts) (length l.outputs.entries) ≤ length l.outputs.entries = times_once _ _ outputs.0 in
    let three : times (count_of command Local AtKeyword ts) (length l.locals.entries) ≤ length l.locals.entries = times_once _ _ locals.0 in
    omega (arith, is, one, two, three, most, possible_less s shaped ts)
