-- Subsystems that are shown and read again.
use Rattle.std.proofs.Common.{◌≡◌, ℕ, zero, suc, ◌+◌, ◌<◌, true, false, not, cond, is_none, Option, None, Some, List, [], ◌∷◌, ◌++◌, map, length, refl, sym, ap, ◌∙◌, subst, arith}
use Rattle.std.specs.Prelude.{codes, slice_get}
use Rattle.std.specs.List.{AllByRecursion}
use Rattle.std.specs.Str.{bytes_eq}
use Rattle.std.proofs.lemmas.List.{length-map}
use Rattle.std.proofs.lemmas.Option.{none-some, same_Some}
use Rattle.text_core.specs.declared.place.Place.{Place}
use Rattle.moxi_sexpr.specs.declared.form.Atom.TheVariants.{Symbol}
use Rattle.moxi_sexpr.specs.Tree as form
use Rattle.moxi_terms.specs.declared.data.Sort.{Sort}
use Rattle.moxi_term_reading.specs.declared.locals.Local.{Local}
use Rattle.moxi_terms.specs.declared.term.Variable.{Variable}
use Rattle.moxi_term_reading.specs.Answer.{locals_of}
use Rattle.moxi_term_reading.specs.Forms.{place_in}
use Rattle.name_maps.specs.Names.{are_fresh, place_of}
use Rattle.moxi_term_reading.specs.Finding.{Found, first_of}
use Rattle.moxi_terms.specs.Tree.{sorts_of}
use Rattle.moxi_term_print.specs.Declarations.{shown_symbols}
use Rattle.moxi_term_print.specs.Shown.{group, Shows, ShowEach}
use Rattle.moxi_term_print.specs.Terms.{name_at, symbol, variable_names}
use Rattle.moxi_term_print.specs.laws.StandingPlaces.{same_bytes}
use Rattle.moxi_term_print.specs.laws.StandingShapes as shape
use Rattle.moxi_scripts.specs.declared.parts.Command.TheVariants.{System}
use Rattle.moxi_scripts.specs.declared.parts.Key.TheVariants.{Subsystem}
use Rattle.moxi_scripts.specs.declared.parts.Turn.TheVariants.{AtKeyword}
use Rattle.moxi_scripts.specs.declared.script.Subsystem as script
use Rattle.moxi_scripts.specs.declared.parts.Actual.{Actual}
use Rattle.moxi_scripts.specs.declared.parts.Use.{Use}
use Rattle.moxi_scripts.specs.Attributes.{is_list_form}
use Rattle.moxi_scripts.specs.Collecting.{fails_if}
use Rattle.moxi_scripts.specs.Declarations.{are_symbols}
use Rattle.moxi_script_print.specs.Printing.{names_of, shown_subsystem, shown_subsystems}
use Rattle.moxi_scripts.specs.Script.{PlainSystem, system_at}
use Rattle.moxi_scripts.specs.Shapes.{HeadedForms, headed}
use Rattle.moxi_scripts.specs.Spelling.{actual_numbers}
use Rattle.moxi_scripts.specs.QueryReading.{names_with_named}
use Rattle.moxi_scripts.specs.Uses as uses
use Rattle.moxi_scripts.specs.Valid.{IsValidSubsystem, subsystem_names}
use Rattle.moxi_script_print.proofs.AgainAttributes.{IsTail, attribute_forms, tail_end, tail_more}
use Rattle.moxi_script_print.proofs.AgainParts.{first_or}
use Rattle.moxi_script_print.proofs.AgainShapes.{is_attribute, is_listed, is_named, named_form}
use Rattle.moxi_scripts.specs.laws.WholeNames.{Absent, absent_parts, fresh_first, is_absent, or_parts}
use Rattle.moxi_scripts.specs.laws.WholeParts.{get_below}
use Rattle.text_core.proofs.ListLaws.{rest_of}

-- VARIABLES BY THEIR NUMBERS

-- each number is that of a variable of its sort
abbrev pub HaveSorts : List Variable → List ℕ → List Sort → Type 0
HaveSorts vs [] [] = Unit {0}
HaveSorts vs [] (s ∷ ss) = ⊥
HaveSorts vs (n ∷ ns) [] = ⊥
HaveSorts vs (n ∷ ns) (s ∷ ss) = (slice_get (sorts_of vs) n ≡ Some s) × HaveSorts vs ns ss

have_sorts : (vs : List Variable) (ns : List ℕ) (ss : List Sort) → map (slice_get (sorts_of vs)) ns ≡ map Some ss → HaveSorts vs ns ss
have_sorts vs [] [] h = tt
have_sorts vs [] (s ∷ ss) h = absurd (cc)
have_sorts vs (n ∷ ns) [] h = absurd (cc)
have_sorts vs (n ∷ ns) (s ∷ ss) h = (ap (first_or None) h, have_sorts vs ns ss (ap rest_of h))

pub absent_at : (before names : List (List ℕ)) (i : ℕ) → are_fresh before names ≡ true → i < length names → Absent before (name_at names i)
absent_at before [] i h l = absurd (omega arith)
absent_at before (x ∷ xs) zero h l = (fresh_first before x xs h).0
absent_at before (x ∷ xs) (suc i) h l = (absent_parts before (x ∷ []) (name_at xs i) (absent_at (before ++ x ∷ []) xs i (fresh_first before x xs h).1 (omega arith))).0

abbrev found : ℕ → Sort → Found
found n s = record { number = n; sort = Some s }

first_at : (before : List (List ℕ)) (vs : List Variable) (n i : ℕ) (s : Sort) → are_fresh before (variable_names vs) ≡ true → slice_get (sorts_of vs) i ≡ Some s
    → first_of n (locals_of vs) (name_at (variable_names vs) i) ≡ Some (found (n + i) s)
first_at before [] n i s h e = absurd (none-some s e)
first_at before (v ∷ vs) n zero s h e =
    ap (λ b. cond b (Some (found n v.sort)) (first_of (suc n) (locals_of vs) v.name)) (same_bytes v.name) ∙ ap (λ m. Some (found m v.sort)) (let k : n ≡ n + 0 = omega arith in k)
    ∙ ap (λ s. Some (found (n + 0) s)) (same_Some v.sort s e)
first_at before (v ∷ vs) n (suc i) s h e =
    let p = fresh_first before v.name (variable_names vs) h in
    let name = name_at (variable_names vs) i in
    let below : i < length (variable_names vs) = omega (arith, get_below (sorts_of vs) i s e, length-map vs (λ (v : Variable). v.sort), length-map vs (λ (v : Variable). v.name)) in
    let a = absent_at (before ++ v.name ∷ []) (variable_names vs) i p.1 below in
    let apart = (or_parts (bytes_eq name v.name) false (absent_parts before (v.name ∷ []) name a).1).0 in
    ap (λ b. cond b (Some (found n v.sort)) (first_of (suc n) (locals_of vs) name)) apart ∙ first_at (before ++ v.name ∷ []) vs (suc n) i s p.1 e
    ∙ ap (λ m. Some (found m s)) (let k : suc n + i ≡ n + suc i = omega arith in k)

-- ACTUALS

abbrev pub actual_sorts : List Actual → List (Option Sort)
actual_sorts xs = map (λ (a : Actual). a.sort) xs

record AreActuals (locals : List Local) (ts : form.Trees) (ns : List ℕ) (ss : List Sort) : Type 0 where
  pub symbols : are_symbols ts ≡ true
  pub pass : uses.actuals_failures locals ts ≡ []
  pub numbers : actual_numbers (uses.actuals_in locals ts) ≡ ns
  pub sorts : actual_sorts (uses.actuals_in locals ts) ≡ map Some ss

one_actual : (locals : List Local) (p : Place) (name : List ℕ) (n : ℕ) (s : Sort) (ts : form.Trees) (ns : List ℕ) (ss : List Sort) → first_of 0 locals name ≡ Some (found n s) → AreActuals locals ts ns ss
    → AreActuals locals (form.tree (form.atom p (Symbol name false)) ts) (n ∷ ns) (s ∷ ss)
one_actual locals p name n s ts ns ss e r = record {
  symbols = r.symbols;
  pass = ap (λ o. fails_if (is_none o) 4 p ++ uses.actuals_failures locals ts) e ∙ r.pass;
  numbers = ap (λ (o : Option Found). (uses.actual_at o p).number ∷ actual_numbers (uses.actuals_in locals ts)) e ∙ ap (λ ms. n ∷ ms) r.numbers;
  sorts = ap (λ (o : Option Found). (uses.actual_at o p).sort ∷ actual_sorts (uses.actuals_in locals ts)) e ∙ ap (λ os. Some s ∷ os) r.sorts;
}

actuals_read : (vs : List Variable) (ns : List ℕ) (ss : List Sort) (ts : form.Trees) → are_fresh [] (variable_names vs) ≡ true → HaveSorts vs ns ss → ShowEach ts (shown_symbols (names_of (variable_names vs) ns))
    → AreActuals (locals_of vs) ts ns ss
actuals_read vs [] [] form.no_trees f g h = record { symbols = refl; pass = refl; numbers = refl; sorts = refl }
actuals_read vs [] [] (form.tree t ts) f g h = absurd h
actuals_read vs [] (s ∷ ss) ts f g h = absurd g
actuals_read vs (n ∷ ns) [] ts f g h = absurd g
actuals_read vs (n ∷ ns) (s ∷ ss) form.no_trees f g h = absurd h
actuals_read vs (n ∷ ns) (s ∷ ss) (form.tree t ts) f g h =
    let a = shape.is_part t (Symbol (name_at (variable_names vs) n) false) h.0 in
    let e = first_at [] vs 0 n s f g.0 ∙ ap (λ m. Some (found m s)) (let k : 0 + n ≡ n = omega arith in k) in
    subst (λ t. AreActuals (locals_of vs) (form.tree t ts) (n ∷ ns) (s ∷ ss)) (sym a.1) (one_actual (locals_of vs) a.0 (name_at (variable_names vs) n) n s ts ns ss e (actuals_read vs ns ss ts f g.1 h.1))

-- SUBSYSTEMS

-- of the same name, with the name of its system, and with the sorts of its system's inputs and outputs
pub record AgreeUse (names : List (List ℕ)) (all : List PlainSystem) (b : script.Subsystem) (u : Use) : Type 0 where
  pub name : u.name ≡ b.name
  pub target : u.target ≡ name_at names b.system
  pub there : b.system < length all
  pub numbers : actual_numbers u.actuals ≡ b.actuals
  pub sorts : map (λ (a : Actual). a.sort) u.actuals ≡ map Some (sorts_of ((system_at all b.system).inputs ++ (system_at all b.system).outputs))

abbrev pub AgreeUses : List (List ℕ) → List PlainSystem → List script.Subsystem → List Use → Type 0
AgreeUses names all [] [] = Unit {0}
AgreeUses names all [] (u ∷ us) = ⊥
AgreeUses names all (b ∷ bs) [] = ⊥
AgreeUses names all (b ∷ bs) (u ∷ us) = AgreeUse names all b u × AgreeUses names all bs us

record IsReadUse (names : List (List ℕ)) (all : List PlainSystem) (locals : List Local) (b : script.Subsystem) (f : form.Tree) : Type 0 where
  pub found : Use
  pub is : uses.use_of locals f ≡ found ∷ []
  pub agrees : AgreeUse names all b found
  pub pass : (before : List (List ℕ)) → is_none (place_of before b.name) ≡ true → uses.use_tests before locals f ≡ []
  pub names_then : (before : List (List ℕ)) → is_none (place_of before b.name) ≡ true → uses.names_with_use before f ≡ before ++ b.name ∷ []
  pub listed : is_list_form f ≡ true

abbrev headed_forms : List ℕ → Place → form.Trees → HeadedForms
headed_forms name p ts = record { name = name; primed = false; place = p; rest = ts }

use_read : (names : List (List ℕ)) (all : List PlainSystem) (vs : List Variable) (b : script.Subsystem) (f : form.Tree) → are_fresh [] (variable_names vs) ≡ true → IsValidSubsystem all vs b
    → Shows f (shown_subsystem names (variable_names vs) b) → IsReadUse names all (locals_of vs) b f
use_read names all vs b f fresh w h =
    let locals = locals_of vs in
    let target = name_at names b.system in
    let actuals = names_of (variable_names vs) b.actuals in
    let sorts = sorts_of ((system_at all b.system).inputs ++ (system_at all b.system).outputs) in
    let n = is_named f b.name (group (shown_symbols (target ∷ actuals))) h in
    let l = is_listed n.form (shown_symbols (target ∷ actuals)) n.shows in
    let m = shape.is_more l.parts (symbol target) (shown_symbols actuals) l.show in
    let q = shape.is_part m.0 (Symbol target false) m.3 in
    let r = actuals_read vs b.actuals sorts m.1 fresh (have_sorts vs b.actuals sorts w.actuals) m.4 in
    let nf = named_form b.name n.place n.form in
    let hf = headed_forms target q.0 m.1 in
    let hd : headed l.parts ≡ Some hf = ap headed (m.2 ∙ ap (λ t. form.tree t m.1) q.1) in
    let u : Use = record { name = b.name; target = target; place = q.0; list = place_in n.form; actuals = uses.actuals_in locals m.1 } in
    record {
      found = u;
      is = ap (uses.use_named locals) n.is ∙ ap (uses.use_among locals nf) l.is ∙ ap (uses.use_headed locals b.name (place_in n.form)) hd ∙ ap (λ b. cond b (u ∷ []) []) r.symbols;
      agrees = record { name = refl; target = refl; there = w.there; numbers = r.numbers; sorts = r.sorts };
      pass = λ before new.
          ap (uses.named_failures before locals f) n.is ∙ ap (λ b. fails_if (not b) 9 n.place ++ uses.use_failures locals (place_in f) nf) new
          ∙ ap (uses.among_failures locals (place_in f) nf) l.is ∙ ap (uses.headed_failures locals (place_in n.form)) hd
          ∙ ap (λ xs. xs ++ fails_if (not (are_symbols m.1)) 12 (place_in n.form)) r.pass ∙ ap (λ b. fails_if (not b) 12 (place_in n.form)) r.symbols;
      names_then = λ before new. ap (names_with_named before) n.is ∙ ap (λ t. cond t (before ++ b.name ∷ []) before) new;
      listed = n.listed;
    }

pub record AreReadUses (names : List (List ℕ)) (all : List PlainSystem) (locals : List Local) (bs : List script.Subsystem) (before : List (List ℕ)) (ts : form.Trees) : Type 0 where
  pub agree : AgreeUses names all bs (uses.uses_in locals AtKeyword ts)
  pub pass : uses.uses_failures locals before AtKeyword ts ≡ []
  pub tail : IsTail System ts

more_uses : (names : List (List ℕ)) (all : List PlainSystem) (locals : List Local) (b : script.Subsystem) (bs : List script.Subsystem) (before : List (List ℕ)) (p : Place) (f : form.Tree) (ts : form.Trees)
    → is_none (place_of before b.name) ≡ true → IsReadUse names all locals b f → AreReadUses names all locals bs (before ++ b.name ∷ []) ts
    → AreReadUses names all locals (b ∷ bs) before (attribute_forms p (codes "subsys") f ts)
more_uses names all locals b bs before p f ts new one r = record {
  agree = subst (λ us. AgreeUses names all (b ∷ bs) (us ++ uses.uses_in locals AtKeyword ts)) (sym one.is) (one.agrees, r.agree);
  pass =
      ap (λ xs. xs ++ uses.uses_failures locals (uses.names_with_use before f) AtKeyword ts) (one.pass before new)
      ∙ ap (λ ns. uses.uses_failures locals ns AtKeyword ts) (one.names_then before new) ∙ r.pass;
  tail = tail_more System (codes "subsys") Subsystem p f ts refl refl one.listed r.tail;
}

pub uses_read : (names : List (List ℕ)) (all : List PlainSystem) (vs : List Variable) (bs : List script.Subsystem) (before : List (List ℕ)) (ts : form.Trees) → are_fresh [] (variable_names vs) ≡ true
    → AllByRecursion (IsValidSubsystem all vs) bs → are_fresh before (subsystem_names bs) ≡ true → ShowEach ts (shown_subsystems names (variable_names vs) bs) → AreReadUses names all (locals_of vs) bs before ts
uses_read names all vs [] before form.no_trees fresh w d h = record { agree = tt; pass = refl; tail = tail_end System }
uses_read names all vs [] before (form.tree t ts) fresh w d h = absurd h
uses_read names all vs (b ∷ bs) before ts fresh w d h =
    let a = is_attribute ts (codes "subsys") (shown_subsystem names (variable_names vs) b) (shown_subsystems names (variable_names vs) bs) h in
    let p = fresh_first before b.name (subsystem_names bs) d in
    subst (AreReadUses names all (locals_of vs) (b ∷ bs) before) (sym a.is)
    (more_uses names all (locals_of vs) b bs before a.place a.value a.more (is_absent before b.name p.0) (use_read names all vs b a.value fresh w.0 a.shows)
    (uses_read names all vs bs (before ++ b.name ∷ []) a.more fresh w.1 p.1 a.show_more))
