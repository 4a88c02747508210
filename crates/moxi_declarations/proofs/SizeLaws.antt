-- What a command declares is no more than the nodes of its form.
use Rattle.std.proofs.Common.{◌≡◌, ℕ, suc, ◌+◌, ◌≤◌, Bool, true, false, cond, not, is_none, List, [], ◌∷◌, ◌++◌, length, Option, None, Some, refl, ap, arith}
use Rattle.std.proofs.lemmas.List.{length-append}
use Rattle.std.proofs.lemmas.Option.{none-some, same_Some}
use Rattle.text_core.specs.declared.place.Place.{Place}
use Rattle.name_maps.specs.Names.{place_of}
use Rattle.moxi_sexpr.specs.Tree.{all_nodes, nodes, Tree, atom, list, Trees, no_trees, tree}
use Rattle.moxi_terms.specs.declared.data.Sort.{Sort}
use Rattle.moxi_terms.specs.declared.term.Enumeration.{Enumeration}
use Rattle.moxi_terms.specs.declared.term.NamedSort.{NamedSort}
use Rattle.moxi_terms.specs.Names.{all_constants, is_sort_name, is_term_name, may_be_enumeration, with_enumeration, with_function, with_sort}
use Rattle.moxi_terms.specs.Tree.{PlainFunction, Tree as TermTree}
use Rattle.moxi_terms.specs.View.{ScopeState}
use Rattle.moxi_term_reading.specs.Forms.{pair_of, place_in, symbol_of}
use Rattle.moxi_term_reading.specs.SortReading.{sort_reading}
use Rattle.moxi_term_reading.specs.declared.locals.Local.{Local}
use Rattle.moxi_scripts.specs.declared.parts.CommandName.{CommandName}
use Rattle.moxi_scripts.specs.declared.parts.CommandName.TheVariants as name
use Rattle.moxi_scripts.specs.declared.parts.Command.TheVariants.{System}
use Rattle.moxi_scripts.specs.declared.parts.Declared.{Declared}
use Rattle.moxi_scripts.specs.declared.parts.Key.TheVariants.{Subsystem}
use Rattle.moxi_scripts.specs.declared.parts.Turn.{Turn}
use Rattle.moxi_scripts.specs.declared.parts.Turn.TheVariants.{AtKeyword}
use Rattle.moxi_scripts.specs.declared.parts.Use.{Use}
use Rattle.moxi_scripts.specs.Attributes.{is_behind, shape_holds, turn_after}
use Rattle.moxi_scripts.specs.Commands.{Reading, command_named, reading_after, with_command, with_form, with_headed, with_known}
use Rattle.moxi_scripts.specs.Cycles.{count_uses}
use Rattle.moxi_scripts.specs.Declarations.{FunctionForms, are_symbols, body_reading, function_forms, function_in, function_parts, is_nil, may_be_constants, part_failures, result_sort, symbol_name, symbols_in, typed_function, with_defined_sort, with_function_of, with_list, with_listed, with_named_enumeration, with_new_enumeration, with_read_enumeration, with_read_function, with_read_sort, with_sort_if, with_sort_of, with_typed, with_typed_function}
use Rattle.moxi_scripts.specs.Entries.{entries_of, known_sort}
use Rattle.moxi_scripts.specs.Shapes.{HeadedForms, NamedForm, headed, named, named_in, parts_of, triple_of}
use Rattle.moxi_scripts.specs.Systems.{SystemReading, bare_system, content_of, locals_of, names_with_system, shaped_system, with_new_system, with_system}
use Rattle.moxi_scripts.specs.Uses.{actuals_in, use_among, use_headed, use_named, use_of, uses_in}
use Rattle.moxi_attributes.specs.laws.FormSizes.{headed_few, named_few, parts_few}
use Rattle.moxi_declarations.specs.Sizes.{reading_size, scope_size}
use Rattle.moxi_term_reading.proofs.BoundLaws.{nodes_some}

pub symbols_few : (ts : Trees) → length (symbols_in ts) ≤ all_nodes ts
symbols_few no_trees = omega arith
symbols_few (tree t ts) = go (symbol_of t) (symbols_few ts)
  where
    go : (o : Option (List ℕ × Bool)) → length (symbols_in ts) ≤ all_nodes ts → length (symbol_name o ++ symbols_in ts) ≤ nodes t + all_nodes ts
    go None h = omega (arith, h)
    go (Some x) h =
        let g : suc (length (symbols_in ts)) ≤ nodes t + all_nodes ts = omega (arith, h, nodes_some t) in
        g

triple_few : (ts : Trees) (x : Tree × Tree × Tree) → triple_of ts ≡ Some x → nodes x.0 + nodes x.2 ≤ all_nodes ts
triple_few no_trees x e = absurd (none-some x e)
triple_few (tree t no_trees) x e = absurd (none-some x e)
triple_few (tree t (tree u no_trees)) x e = absurd (none-some x e)
triple_few (tree t (tree u (tree v no_trees))) x e =
    let same = same_Some (t, u, v) x e in
    let first : nodes t ≡ nodes x.0 = ap (λ (y : Tree × Tree × Tree). nodes y.0) same in
    let last : nodes v ≡ nodes x.2 = ap (λ (y : Tree × Tree × Tree). nodes y.2) same in
    let g : nodes x.0 + nodes x.2 ≤ nodes t + (nodes u + (nodes v + 0)) = omega (arith, first, last) in
    g
triple_few (tree t (tree u (tree v (tree w ws)))) x e = absurd (none-some x e)

-- the parameters and the body of a function
pub function_few : (ts : Trees) (f : FunctionForms) → function_forms ts ≡ Some f → all_nodes f.parameters + nodes f.body ≤ all_nodes ts
function_few ts f e = go (headed ts) refl e
  where
    listed : (h : HeadedForms) (x : Tree × Tree × Tree) (o : Option Trees) → parts_of x.0 ≡ o → with_list (place_in x.0) h x.0 x.1 x.2 o ≡ Some f → all_nodes f.parameters + nodes f.body ≤ nodes x.0 + nodes x.2
    listed h x None p e = absurd (none-some f e)
    listed h x (Some ps) p e =
        let same = same_Some _ f e in
        let first : all_nodes ps ≡ all_nodes f.parameters = ap (λ (k : FunctionForms). all_nodes k.parameters) same in
        let last : nodes x.2 ≡ nodes f.body = ap (λ (k : FunctionForms). nodes k.body) same in
        omega (arith, first, last, parts_few x.0 ps p)

    by : (h : HeadedForms) → headed ts ≡ Some h → (o : Option (Tree × Tree × Tree)) → triple_of h.rest ≡ o → function_parts h o ≡ Some f → all_nodes f.parameters + nodes f.body ≤ all_nodes ts
    by h e None t g = absurd (none-some f g)
    by h e (Some x) t g = omega (arith, headed_few ts h e, triple_few h.rest x t, listed h x (parts_of x.0) refl g)

    go : (o : Option HeadedForms) → headed ts ≡ o → function_in o ≡ Some f → all_nodes f.parameters + nodes f.body ≤ all_nodes ts
    go None e g = absurd (none-some f g)
    go (Some h) e g = by h e (triple_of h.rest) refl g

-- WHAT A SCOPE GAINS

constants_more : (es : List Enumeration) (e : Enumeration) → length (all_constants (es ++ e ∷ [])) ≡ length (all_constants es) + length e.constants
constants_more [] e =
    let h : length (e.constants ++ []) ≡ length e.constants + 0 = length-append e.constants [] in
    let g : length (e.constants ++ []) ≡ 0 + length e.constants = omega (arith, h) in
    g
constants_more (x ∷ es) e =
    let h : length (all_constants (es ++ e ∷ [])) ≡ length (all_constants es) + length e.constants = constants_more es e in
    let one : length (x.constants ++ all_constants (es ++ e ∷ [])) ≡ length x.constants + length (all_constants (es ++ e ∷ [])) = length-append x.constants _ in
    let two : length (x.constants ++ all_constants es) ≡ length x.constants + length (all_constants es) = length-append x.constants _ in
    let g : length (x.constants ++ all_constants (es ++ e ∷ [])) ≡ length (x.constants ++ all_constants es) + length e.constants = omega (arith, h, one, two) in
    g

enumeration_more : (s : ScopeState) (q : List ℕ) (cs : List (List ℕ)) → scope_size (with_enumeration s q cs) ≡ scope_size s + suc (length cs)
enumeration_more s q cs =
    let es = s.enumerations in
    let e : Enumeration = record { name = q; constants = cs } in
    let one : length (es ++ e ∷ []) ≡ length es + 1 = length-append es (e ∷ []) in
    let two : length (all_constants (es ++ e ∷ [])) ≡ length (all_constants es) + length cs = constants_more es e in
    let g : (length (es ++ e ∷ []) + length (all_constants (es ++ e ∷ []))) + (length s.sorts + length s.functions)
    ≡ ((length es + length (all_constants es)) + (length s.sorts + length s.functions)) + suc (length cs) = omega (arith, one, two) in
    g

sort_more : (s : ScopeState) (q : List ℕ) (sort : Sort) → scope_size (with_sort s q sort) ≡ scope_size s + 1
sort_more s q sort =
    let n : NamedSort = record { name = q; sort = sort } in
    let one : length (s.sorts ++ n ∷ []) ≡ length s.sorts + 1 = length-append s.sorts (n ∷ []) in
    let g : (length s.enumerations + length (all_constants s.enumerations)) + (length (s.sorts ++ n ∷ []) + length s.functions)
    ≡ ((length s.enumerations + length (all_constants s.enumerations)) + (length s.sorts + length s.functions)) + 1 = omega (arith, one) in
    g

function_more : (s : ScopeState) (f : PlainFunction) → scope_size (with_function s f) ≡ scope_size s + 1
function_more s f =
    let one : length (s.functions ++ f ∷ []) ≡ length s.functions + 1 = length-append s.functions (f ∷ []) in
    let g : (length s.enumerations + length (all_constants s.enumerations)) + (length s.sorts + length (s.functions ++ f ∷ []))
    ≡ ((length s.enumerations + length (all_constants s.enumerations)) + (length s.sorts + length s.functions)) + 1 = omega (arith, one) in
    g

either : (b : Bool) (x y : ScopeState) (n : ℕ) → scope_size x ≤ n → scope_size y ≤ n → scope_size (cond b x y) ≤ n
either true x y n h g = h
either false x y n h g = g

no_less : (s : ScopeState) (n : ℕ) → scope_size s ≤ scope_size s + n
no_less s n = omega arith

one_more : (x s : ScopeState) → scope_size x ≡ scope_size s + 1 → scope_size x ≤ scope_size s + 1
one_more x s h = omega (arith, h)

listed_grows : (s : ScopeState) (n : NamedForm) (o : Option Trees) → parts_of n.form ≡ o → scope_size (with_listed s n o) ≤ scope_size s + nodes n.form
listed_grows s n None e = no_less s (nodes n.form)
listed_grows s n (Some cs) e =
    let new = with_enumeration s n.name (symbols_in cs) in
    let few : suc (length (symbols_in cs)) ≤ nodes n.form = omega (arith, symbols_few cs, parts_few n.form cs e) in
    let more : scope_size new ≤ scope_size s + nodes n.form = omega (arith, enumeration_more s n.name (symbols_in cs), few) in
    let same : scope_size s ≤ scope_size s + nodes n.form = no_less s (nodes n.form) in
    either (may_be_constants cs) (with_new_enumeration s n.name (symbols_in cs)) s _ (either (may_be_enumeration s n.name (symbols_in cs)) new s _ more same) same

enumeration_grows : (s : ScopeState) (ts : Trees) → scope_size (with_read_enumeration s ts) ≤ scope_size s + all_nodes ts
enumeration_grows s ts = go (named_in (headed ts)) refl
  where
    go : (o : Option NamedForm) → named_in (headed ts) ≡ o → scope_size (with_named_enumeration s o) ≤ scope_size s + all_nodes ts
    go None e = no_less s (all_nodes ts)
    go (Some n) e =
        let h : scope_size (with_listed s n (parts_of n.form)) ≤ scope_size s + nodes n.form = listed_grows s n (parts_of n.form) refl in
        let g : scope_size (with_listed s n (parts_of n.form)) ≤ scope_size s + all_nodes ts = omega (arith, h, named_few ts n e) in
        g

sort_if_grows : (s : ScopeState) (q : List ℕ) (o : Option Sort) → scope_size (with_sort_if s q o) ≤ scope_size s + 1
sort_if_grows s q None = no_less s 1
sort_if_grows s q (Some sort) = either (not (is_sort_name s q)) (with_sort s q sort) s (scope_size s + 1) (one_more (with_sort s q sort) s (sort_more s q sort)) (no_less s 1)

sort_grows : (s : ScopeState) (p : Place) (ts : Trees) → scope_size (with_read_sort s p ts) ≤ scope_size s + 1
sort_grows s p ts = go (headed ts)
  where
    by : (h : HeadedForms) (o : Option (Tree × Tree)) → scope_size (with_defined_sort s p h o) ≤ scope_size s + 1
    by h None = no_less s 1
    by h (Some x) = sort_if_grows s h.name (known_sort (sort_reading s p x.1))

    go : (o : Option HeadedForms) → scope_size (with_sort_of s p o) ≤ scope_size s + 1
    go None = no_less s 1
    go (Some h) = by h (pair_of h.rest)

typed_grows : (s : ScopeState) (q : List ℕ) (ds : List Declared) (t : TermTree) (o : Option Sort) → scope_size (with_typed s q ds t o) ≤ scope_size s + 1
typed_grows s q ds t None = no_less s 1
typed_grows s q ds t (Some r) =
    let f = typed_function q ds t r in
    either (not (is_term_name s f.name)) (with_function s f) s (scope_size s + 1) (one_more (with_function s f) s (function_more s f)) (no_less s 1)

function_grows : (s : ScopeState) (p : Place) (ts : Trees) → scope_size (with_read_function s p ts) ≤ scope_size s + 1
function_grows s p ts = go (function_forms ts)
  where
    go : (o : Option FunctionForms) → scope_size (with_function_of s p o) ≤ scope_size s + 1
    go None = no_less s 1
    go (Some f) =
        let known = known_sort (result_sort s p f) in
        either (is_nil (part_failures s p f)) (with_typed_function s f known) s (scope_size s + 1)
        (typed_grows s f.name.name (entries_of s f.parameters) (body_reading s f).term known) (no_less s 1)

-- WHAT SYSTEMS GAIN

use_one : (locals : List Local) (t : Tree) → length (use_of locals t) ≤ 1
use_one locals t = go (named t)
  where
    if_some : (b : Bool) (u : Use) → length (cond b (u ∷ []) []) ≤ 1
    if_some true u = omega arith
    if_some false u = omega arith

    at : (n : NamedForm) (o : Option HeadedForms) → length (use_headed locals n.name (place_in n.form) o) ≤ 1
    at n None = omega arith
    at n (Some h) = if_some (are_symbols h.rest) (record { name = n.name; target = h.name; place = h.place; list = place_in n.form; actuals = actuals_in locals h.rest })

    by : (n : NamedForm) (o : Option Trees) → length (use_among locals n o) ≤ 1
    by n None = omega arith
    by n (Some ts) = at n (headed ts)

    go : (o : Option NamedForm) → length (use_named locals o) ≤ 1
    go None = omega arith
    go (Some n) = by n (parts_of n.form)

uses_few : (locals : List Local) (turn : Turn) (ts : Trees) → length (uses_in locals turn ts) ≤ all_nodes ts
uses_few locals turn no_trees = omega arith
uses_few locals turn (tree t ts) =
    let more = uses_in locals (turn_after System turn t) ts in
    let here = cond (is_behind Subsystem turn) (use_of locals t) [] in
    let h : length more ≤ all_nodes ts = uses_few locals (turn_after System turn t) ts in
    let one : length here ≤ 1 = if_there (is_behind Subsystem turn) in
    let sum : length (here ++ more) ≡ length here + length more = length-append here more in
    let g : length (here ++ more) ≤ nodes t + all_nodes ts = omega (arith, h, one, sum, nodes_some t) in
    g
  where
    if_there : (b : Bool) → length (cond b (use_of locals t) []) ≤ 1
    if_there true = use_one locals t
    if_there false = omega arith

shaped_few : (s : ScopeState) (q : List ℕ) (ts : Trees) → length (shaped_system s q ts).uses ≤ all_nodes ts
shaped_few s q ts = go (shape_holds System ts)
  where
    go : (b : Bool) → length (cond b (content_of s q ts) (bare_system q)).uses ≤ all_nodes ts
    go true = uses_few (locals_of s System ts) AtKeyword ts
    go false = omega arith

-- how many systems and subsystems there are
abbrev systems_size : List SystemReading → ℕ
systems_size rs = length rs + count_uses rs

systems_more : (rs : List SystemReading) (r : SystemReading) → systems_size (rs ++ r ∷ []) ≡ systems_size rs + suc (length r.uses)
systems_more [] r =
    let g : 1 + (length r.uses + 0) ≡ 0 + suc (length r.uses) = omega arith in
    g
systems_more (x ∷ rs) r =
    let h : length (rs ++ r ∷ []) + count_uses (rs ++ r ∷ []) ≡ (length rs + count_uses rs) + suc (length r.uses) = systems_more rs r in
    let g : suc (length (rs ++ r ∷ [])) + (length x.uses + count_uses (rs ++ r ∷ [])) ≡ (suc (length rs) + (length x.uses + count_uses rs)) + suc (length r.uses) = omega (arith, h) in
    g

new_grows : (new : Bool) (rs : List SystemReading) (r : SystemReading) (n : ℕ) → length r.uses ≤ n → systems_size (with_new_system new rs r) ≤ systems_size rs + suc n
new_grows true rs r n h = omega (arith, systems_more rs r, h)
new_grows false rs r n h = let g : systems_size rs ≤ systems_size rs + suc n = omega arith in g

system_grows : (s : ScopeState) (names : List (List ℕ)) (rs : List SystemReading) (ts : Trees) → systems_size (with_system s names rs (headed ts)) ≤ systems_size rs + all_nodes ts
system_grows s names rs ts = go (headed ts) refl
  where
    go : (o : Option HeadedForms) → headed ts ≡ o → systems_size (with_system s names rs o) ≤ systems_size rs + all_nodes ts
    go None e = let g : systems_size rs ≤ systems_size rs + all_nodes ts = omega arith in g
    go (Some h) e =
        let new = with_new_system (is_none (place_of names h.name)) rs (shaped_system s h.name h.rest) in
        let more : systems_size new ≤ systems_size rs + suc (all_nodes h.rest) = new_grows (is_none (place_of names h.name)) rs (shaped_system s h.name h.rest) (all_nodes h.rest) (shaped_few s h.name h.rest) in
        let g : systems_size new ≤ systems_size rs + all_nodes ts = omega (arith, more, headed_few ts h e) in
        g

names_grow : (names : List (List ℕ)) (o : Option HeadedForms) → length (names_with_system names o) ≤ length names + 1
names_grow names None = omega arith
names_grow names (Some h) = go (is_none (place_of names h.name))
  where
    go : (b : Bool) → length (cond b (names ++ h.name ∷ []) names) ≤ length names + 1
    go true = omega (arith, length-append names (h.name ∷ []))
    go false = omega arith

-- WHAT IS READ GAINS

kept : (r : Reading) (ts : Trees) → reading_size r ≤ reading_size r + suc (all_nodes ts)
kept r ts = omega arith

-- a scope that has grown, in a reading of which the rest stays
abbrev rest_size : Reading → ℕ
rest_size r = length r.system_names + (length r.systems + count_uses r.systems)

scope_grows : (s t : ScopeState) (rest n m : ℕ) → scope_size t ≤ scope_size s + n → n ≤ m → scope_size t + rest ≤ (scope_size s + rest) + m
scope_grows s t rest n m h g = omega (arith, h, g)

command_grows : (c : CommandName) (r : Reading) (p : Place) (ts : Trees) → reading_size (with_command c r p ts) ≤ reading_size r + suc (all_nodes ts)
command_grows name.Logic r p ts = kept r ts
command_grows name.PassedOver r p ts = kept r ts
command_grows name.Enumeration r p ts = scope_grows r.scope (with_read_enumeration r.scope ts) (rest_size r) (all_nodes ts) (suc (all_nodes ts)) (enumeration_grows r.scope ts) (omega arith)
command_grows name.Sort r p ts = scope_grows r.scope (with_read_sort r.scope p ts) (rest_size r) 1 (suc (all_nodes ts)) (sort_grows r.scope p ts) (omega arith)
command_grows name.Function r p ts = scope_grows r.scope (with_read_function r.scope p ts) (rest_size r) 1 (suc (all_nodes ts)) (function_grows r.scope p ts) (omega arith)
command_grows name.System r p ts =
    let names = names_with_system r.system_names (headed ts) in
    let rs = with_system r.scope r.system_names r.systems (headed ts) in
    let one : length names ≤ length r.system_names + 1 = names_grow r.system_names (headed ts) in
    let two : length rs + count_uses rs ≤ (length r.systems + count_uses r.systems) + all_nodes ts = system_grows r.scope r.system_names r.systems ts in
    let g : scope_size r.scope + (length names + (length rs + count_uses rs)) ≤ (scope_size r.scope + (length r.system_names + (length r.systems + count_uses r.systems))) + suc (all_nodes ts)
    = omega (arith, one, two) in
    g
command_grows name.Check r p ts = kept r ts

headed_grows : (r : Reading) (p : Place) (ts : Trees) → reading_size (with_headed r p (headed ts)) ≤ reading_size r + suc (all_nodes ts)
headed_grows r p ts = go (headed ts) refl
  where
    by : (h : HeadedForms) → headed ts ≡ Some h → (o : Option CommandName) → reading_size (with_known o r p h.rest) ≤ reading_size r + suc (all_nodes ts)
    by h e None = kept r ts
    by h e (Some c) =
        let more : reading_size (with_command c r p h.rest) ≤ reading_size r + suc (all_nodes h.rest) = command_grows c r p h.rest in
        let g : reading_size (with_command c r p h.rest) ≤ reading_size r + suc (all_nodes ts) = omega (arith, more, headed_few ts h e) in
        g

    go : (o : Option HeadedForms) → headed ts ≡ o → reading_size (with_headed r p o) ≤ reading_size r + suc (all_nodes ts)
    go None e = kept r ts
    go (Some h) e = by h e (command_named h.name)

pub form_grows : (r : Reading) (t : Tree) → reading_size (with_form r t) ≤ reading_size r + nodes t
form_grows r (atom p a) = let g : reading_size r ≤ reading_size r + 1 = omega arith in g
form_grows r (list p ts) = headed_grows r p ts

-- what forms declare is no more than their nodes
pub reading_grows : (r : Reading) (ts : Trees) → reading_size (reading_after r ts) ≤ reading_size r + all_nodes ts
reading_grows r no_trees = let g : reading_size r ≤ reading_size r + 0 = omega arith in g
reading_grows r (tree t ts) =
    let one : reading_size (with_form r t) ≤ reading_size r + nodes t = form_grows r t in
    let more : reading_size (reading_after (with_form r t) ts) ≤ reading_size (with_form r t) + all_nodes ts = reading_grows (with_form r t) ts in
    let g : reading_size (reading_after (with_form r t) ts) ≤ reading_size r + (nodes t + all_nodes ts) = omega (arith, one, more) in
    g
