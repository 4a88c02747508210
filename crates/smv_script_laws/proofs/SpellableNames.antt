-- Each name of a model's script can be spelled: its bytes are those of identifiers, dots and digits.
use Rattle.std.proofs.Common.{◌≡◌, ℕ, zero, suc, ◌+◌, ◌≤◌, ◌<◌, max, Bool, true, false, not, ◌||◌, ◌==◌, if◌then◌else◌, List, [], ◌∷◌, ◌++◌, map, flat_map, length, decimal, refl, sym, ap, ◌∙◌, subst, arith, append-nil}
use Rattle.std.specs.Prelude.{codes}
use Rattle.std.specs.List.{AllByRecursion, list_all}
use Rattle.std.proofs.lemmas.Bool.{eqb-true}
use Rattle.text_core.specs.Bytes.{is_digit}
use Rattle.smv_text.specs.declared.tree.When.{When}
use Rattle.smv_text.specs.declared.tree.When.TheVariants.{Always, First, Following}
use Rattle.smv_text.specs.declared.tree.Member.{Member}
use Rattle.smv_text.specs.declared.tree.Member.TheVariants as OfMember
use Rattle.smv_meaning.specs.Instances.{Instance, instances_of}
use Rattle.smv_meaning.specs.Types.{ExprType, truth_type, integer_type, symbol_type, word_type}
use Rattle.smv_meaning.specs.Phases.{when_same}
use Rattle.smv_meaning.specs.laws.Booleans.{both_true, two_true, absurd_bool}
use Rattle.smv_items.specs.declared.items.ItemKind.{ItemKind}
use Rattle.smv_items.specs.declared.items.ItemKind.TheVariants.{State, Frozen, Input, Define, Actual}
use Rattle.smv_items.specs.FlatItems.{Origin, origins_of, symbols_of, path_of, PlainFlatItem, flat_item_of}
use Rattle.smv_flat.specs.declared.forms.Role.{Role}
use Rattle.smv_flat.specs.declared.forms.Role.TheVariants.{Body, Assign, Init, Trans, Invar, Invariant}
use Rattle.smv_flat.specs.FlatTree.{FlatTree}
use Rattle.smv_flat.specs.FlatForms.{Form, PlainFlat, flat_smv}
use Rattle.smv_flat.specs.FlatTruth.{forms_invariants}
use Rattle.smv_flat.specs.FlatWidth.{width_of}
use Rattle.smv_accepted.specs.Names.{is_name_byte, is_dotted_byte, IsIdentifier, IsDottedName}
use Rattle.smv_accepted.proofs.ItemNames.{names_are_words_law, symbols_are_words_law}
use Rattle.smv_items.specs.laws.Differing.{all_weaker}
use Rattle.smv_text.specs.Bytes.{is_letter}
use Rattle.moxi_sexpr.specs.Bytes.{is_barred_byte}
use Rattle.moxi_terms.specs.declared.term.Variable.{Variable}
use Rattle.moxi_terms.specs.Tree.{Tree, variable as var, trees_of}
use Rattle.moxi_term_print.specs.StandingNames.{IsSpellable, AreSpellable, NamesAreSpellable, AllNamesAreSpellable, IsSpellableScope}
use Rattle.moxi_term_print.proofs.StandingNumbers.{decimal_run}
use Rattle.moxi_scripts.specs.declared.script.Query.{Query}
use Rattle.moxi_script_print.specs.NamesOfScripts.{VariablesAreSpellable, IsSpellableFormula}
use Rattle.smv_script.specs.Terms.{Coding, translation}
use Rattle.smv_script.specs.Script.{Group, inputs, outputs, locals, group_of, same_group, items_in, kind_letter, variable_of, variables_in, coding_of, member_term, domain_parts, body_part, body_parts, invar_item, trans_item, item_parts, is_following, form_parts, numbered_parts, instance_parts, parts_upto, above_items, above_forms, formula_of, symbol_sort, reachables_from, queries_from}
use Rattle.smv_script_laws.proofs.Constants.{constant_of}
use Rattle.smv_script_laws.specs.ValidLaws.{NamesAreSpellable as AllNames}
use Rattle.smv_script_laws.proofs.Spellable.{barred_spellable}
use Rattle.smv_script_laws.proofs.SpellableTerms.{any_named, translation_named}
use Rattle.smv_script_laws.proofs.WholeScripts.{few_invariants}
use Rattle.moxi_term_print.proofs.SpellableNames.{Named, run_all}
use Rattle.name_maps.proofs.FreshNames.{all_joined, all_mapped}
use Rattle.moxi_terms.specs.Applications.{equal_term, all_term}

-- ---- bytes that need no bar

digit_barred : (b : ℕ) → is_digit b ≡ true → is_barred_byte b ≡ true
digit_barred b h = by (b == 124) (b == 92) refl refl
  where
    by : (x y : Bool) → (b == 124) ≡ x → (b == 92) ≡ y → not ((b == 124) || (b == 92)) ≡ true
    by true y e f = absurd_bool (subst (λ n. is_digit n ≡ true) (eqb-true b 124 e) h)
    by false true e f = absurd_bool (subst (λ n. is_digit n ≡ true) (eqb-true b 92 f) h)
    by false false e f = ap (λ x. not (x || (b == 92))) e ∙ ap not f

dotted_barred : (b : ℕ) → is_dotted_byte b ≡ true → is_barred_byte b ≡ true
dotted_barred b h = by (b == 124) (b == 92) refl refl
  where
    by : (x y : Bool) → (b == 124) ≡ x → (b == 92) ≡ y → not ((b == 124) || (b == 92)) ≡ true
    by true y e f = absurd_bool (subst (λ n. is_dotted_byte n ≡ true) (eqb-true b 124 e) h)
    by false true e f = absurd_bool (subst (λ n. is_dotted_byte n ≡ true) (eqb-true b 92 f) h)
    by false false e f = ap (λ x. not (x || (b == 92))) e ∙ ap not f

all_bytes : (p q : ℕ → Bool) → ((b : ℕ) → p b ≡ true → q b ≡ true) → (bs : List ℕ) → list_all p bs ≡ true → list_all q bs ≡ true
all_bytes p q f [] h = refl
all_bytes p q f (b ∷ bs) h = let s = both_true (p b) (list_all p bs) h in two_true (q b) (list_all q bs) (f b s.0) (all_bytes p q f bs s.1)

or_first : (a b : Bool) → a ≡ true → (a || b) ≡ true
or_first a b h = ap (λ c. c || b) h

letter_dotted : (b : ℕ) → is_letter b ≡ true → is_dotted_byte b ≡ true
letter_dotted b h = or_first (is_name_byte b) (b == 46) (or_first (is_letter b || (is_digit b || ((b == 36) || (b == 35)))) (b == 45) (or_first (is_letter b) (is_digit b || ((b == 36) || (b == 35))) h))

name_dotted : (b : ℕ) → is_name_byte b ≡ true → is_dotted_byte b ≡ true
name_dotted b h = or_first (is_name_byte b) (b == 46) h

dotted_name : (x : List ℕ) → IsDottedName x → list_all is_barred_byte x ≡ true
dotted_name [] h = absurd h
dotted_name (b ∷ bs) h = two_true (is_barred_byte b) (list_all is_barred_byte bs) (dotted_barred b (letter_dotted b h.0)) (all_bytes is_dotted_byte is_barred_byte dotted_barred bs h.1)

identifier : (x : List ℕ) → IsIdentifier x → list_all is_barred_byte x ≡ true
identifier [] h = absurd h
identifier (b ∷ bs) h = two_true (is_barred_byte b) (list_all is_barred_byte bs) (dotted_barred b (letter_dotted b h.0)) (all_bytes is_name_byte is_barred_byte (λ c g. dotted_barred c (name_dotted c g)) bs h.1)

number_barred : (n : ℕ) → n < 4294967296 → list_all is_barred_byte (decimal n) ≡ true
number_barred n h = all_bytes is_digit is_barred_byte digit_barred (decimal n) (run_all is_digit (decimal n) (decimal_run n h))

lettered : (k : ItemKind) (x : List ℕ) → list_all is_barred_byte x ≡ true → IsSpellable (kind_letter k ++ x)
lettered State x h = barred_spellable (codes "v." ++ x) h
lettered Frozen x h = barred_spellable (codes "v." ++ x) h
lettered Input x h = barred_spellable (codes "i." ++ x) h
lettered Define x h = barred_spellable (codes "d." ++ x) h
lettered Actual x h = barred_spellable (codes "a." ++ x) h

-- ---- terms

all_flat : {X Y : Type 0} (P : Y → Type 0) (f : X → List Y) (xs : List X) → ((x : X) → AllByRecursion P (f x)) → AllByRecursion P (flat_map f xs)
all_flat P f [] h = tt
all_flat P f (x ∷ xs) h = all_joined P (f x) (flat_map f xs) (h x) (all_flat P f xs h)

all_if : {X : Type 0} (P : X → Type 0) (b : Bool) (xs : List X) → AllByRecursion P xs → AllByRecursion P (if b then xs else [])
all_if P true xs h = h
all_if P false xs h = tt

trees_named : (ts : List Tree) → Named ts → AllNamesAreSpellable (trees_of ts)
trees_named [] h = tt
trees_named (t ∷ ts) h = (h.0, trees_named ts h.1)

all_named : (ts : List Tree) → Named ts → NamesAreSpellable (all_term ts)
all_named [] h = tt
all_named (t ∷ []) h = h.0
all_named (t ∷ u ∷ ts) h = trees_named (t ∷ u ∷ ts) h

members_named : (w : ℕ) (symbols : List (List ℕ)) (x : Tree) → NamesAreSpellable x → (ms : List Member) → Named (map (member_term w symbols x) ms)
members_named w symbols x h [] = tt
members_named w symbols x h (OfMember.Symbol s ∷ ms) = ((h, (tt, tt)), members_named w symbols x h ms)
members_named w symbols x h (OfMember.Integer z ∷ ms) = ((h, (tt, tt)), members_named w symbols x h ms)

domain_named : (w : ℕ) (symbols : List (List ℕ)) (k : ℕ) (t : ExprType) (ms : List Member) → Named (domain_parts w symbols (var k false) t ms)
domain_named w symbols k truth_type [] = tt
domain_named w symbols k (integer_type low high) [] = (((tt, (tt, tt)), ((tt, (tt, tt)), tt)), tt)
domain_named w symbols k symbol_type [] = tt
domain_named w symbols k (word_type n) [] = tt
domain_named w symbols k t (m ∷ ms) = (any_named (trees_of (map (member_term w symbols (var k false)) (m ∷ ms))) (trees_named (map (member_term w symbols (var k false)) (m ∷ ms)) (members_named w symbols (var k false) tt (m ∷ ms))), tt)

module _ (flat : PlainFlat) (c : Coding) where
  body_named : (k : ℕ) (r : Role) (e : FlatTree) → Named (body_part c k r e)
  body_named k (Body j) e = all_if NamesAreSpellable (j == k) (equal_term (var (c.place k) false) ((translation c e).term 0) ∷ []) ((tt, ((translation_named c e).term 0, tt)), tt)
  body_named k (Assign when j) e = tt
  body_named k Init e = tt
  body_named k Trans e = tt
  body_named k Invar e = tt
  body_named k Invariant e = tt

  bodies_named : (k : ℕ) (fs : List Form) → Named (body_parts c k fs)
  bodies_named k fs = all_flat NamesAreSpellable (λ (f : Form). body_part c k f.role f.body) fs (λ f. body_named k f.role f.body)

  invar_named : (k : ℕ) (m : PlainFlatItem) (kind : ItemKind) → Named (invar_item flat c k m kind)
  invar_named k m Define = bodies_named k flat.forms
  invar_named k m Actual = bodies_named k flat.forms
  invar_named k m State = domain_named c.width flat.symbols (c.place k) m.type m.members
  invar_named k m Frozen = domain_named c.width flat.symbols (c.place k) m.type m.members
  invar_named k m Input = domain_named c.width flat.symbols (c.place k) m.type m.members

  trans_named : (k : ℕ) (kind : ItemKind) → Named (trans_item c k kind)
  trans_named k Frozen = ((tt, (tt, tt)), tt)
  trans_named k State = tt
  trans_named k Input = tt
  trans_named k Define = tt
  trans_named k Actual = tt

  item_named : (when : When) (k : ℕ) (m : PlainFlatItem) → Named (item_parts flat c when k m)
  item_named First k m = tt
  item_named Always k m = invar_named k m m.kind
  item_named Following k m = trans_named k m.kind

  form_named : (when : When) (r : Role) (e : FlatTree) → Named (form_parts c when r e)
  form_named when (Assign w k) e = all_if NamesAreSpellable (when_same w when) ((translation c e).member 0 (var (c.place k) (is_following when)) ∷ []) ((translation_named c e).member 0 (var (c.place k) (is_following when)) tt, tt)
  form_named First Init e = ((translation_named c e).term 0, tt)
  form_named Following Trans e = ((translation_named c e).term 0, tt)
  form_named Always Invar e = ((translation_named c e).term 0, tt)
  form_named First (Body k) e = tt
  form_named First Trans e = tt
  form_named First Invar e = tt
  form_named First Invariant e = tt
  form_named Following (Body k) e = tt
  form_named Following Init e = tt
  form_named Following Invar e = tt
  form_named Following Invariant e = tt
  form_named Always (Body k) e = tt
  form_named Always Init e = tt
  form_named Always Trans e = tt
  form_named Always Invariant e = tt

  numbered_named : (when : When) (i k : ℕ) (ms : List PlainFlatItem) → Named (numbered_parts flat c when i k ms)
  numbered_named when i k [] = tt
  numbered_named when i k (m ∷ ms) =
      all_joined NamesAreSpellable (if m.instance == i then item_parts flat c when k m else []) (numbered_parts flat c when i (k + 1) ms)
      (all_if NamesAreSpellable (m.instance == i) (item_parts flat c when k m) (item_named when k m)) (numbered_named when i (k + 1) ms)

  instance_named : (when : When) (i : ℕ) → Named (instance_parts flat c when i)
  instance_named when i =
      all_joined NamesAreSpellable (numbered_parts flat c when i 0 flat.items) (flat_map (λ (f : Form). if f.instance == i then form_parts c when f.role f.body else []) flat.forms) (numbered_named when i 0 flat.items)
      (all_flat NamesAreSpellable (λ (f : Form). if f.instance == i then form_parts c when f.role f.body else []) flat.forms (λ f. all_if NamesAreSpellable (f.instance == i) (form_parts c when f.role f.body) (form_named when f.role f.body)))

  parts_named : (when : When) (n : ℕ) → Named (parts_upto flat c when n)
  parts_named when zero = tt
  parts_named when (suc n) = all_joined NamesAreSpellable (parts_upto flat c when n) (instance_parts flat c when n) (parts_named when n) (instance_named when n)

  formula_named : (when : When) → NamesAreSpellable (formula_of flat c when)
  formula_named when = all_named (parts_upto flat c when (max (above_items flat.items) (above_forms flat.forms))) (parts_named when (max (above_items flat.items) (above_forms flat.forms)))

  reachables_named : (j : ℕ) (bs : List FlatTree) → j + length bs ≤ 4294967296 → AllByRecursion IsSpellableFormula (reachables_from c j bs)
  reachables_named j [] h = tt
  reachables_named j (b ∷ bs) h =
      (record { name = barred_spellable (codes "r." ++ decimal j) (number_barred j (omega (arith, h))); term = ((translation_named c b).term 0, tt) }, reachables_named (j + 1) bs (omega (arith, h)))

queries_named : (j : ℕ) (bs : List FlatTree) → j + length bs ≤ 4294967296 → AllByRecursion (λ (q : Query). IsSpellable q.name) (queries_from j bs)
queries_named j [] h = tt
queries_named j (b ∷ bs) h = (barred_spellable (codes "q." ++ decimal j) (number_barred j (omega (arith, h))), queries_named (j + 1) bs (omega (arith, h)))

-- ---- variables

abbrev HasWord : PlainFlatItem → Type 0
HasWord m = list_all is_barred_byte m.name ≡ true

items_words : (t : List Instance) (ms : List Origin) → AllByRecursion IsDottedName (map (path_of t) ms) → AllByRecursion HasWord (map (flat_item_of t) ms)
items_words t [] h = tt
items_words t (m ∷ ms) h = (dotted_name (path_of t m) h.0, items_words t ms h.1)

picked_words : (g : Group) (ms : List PlainFlatItem) → AllByRecursion HasWord ms → AllByRecursion HasWord (items_in g ms)
picked_words g [] h = tt
picked_words g (m ∷ ms) h = by (same_group g (group_of m.kind)) (picked_words g ms h.1)
  where
    by : (b : Bool) → AllByRecursion HasWord (items_in g ms) → AllByRecursion HasWord (if b then m ∷ items_in g ms else items_in g ms)
    by true ih = (h.0, ih)
    by false ih = ih

group_named : (w : ℕ) (g : Group) (ms : List PlainFlatItem) → AllByRecursion HasWord ms → VariablesAreSpellable (variables_in w g ms)
group_named w g ms h =
    all_mapped (λ (v : Variable). IsSpellable v.name) (variable_of w) (items_in g ms)
    (all_weaker HasWord (λ (m : PlainFlatItem). IsSpellable (kind_letter m.kind ++ m.name)) (λ m k. lettered m.kind m.name k) (items_in g ms) (picked_words g ms h))

-- ---- the scope

constants_named : (symbols : List (List ℕ)) → AllByRecursion IsIdentifier symbols → AreSpellable (map constant_of symbols)
constants_named symbols h = all_mapped IsSpellable constant_of symbols (all_weaker IsIdentifier (λ (s : List ℕ). IsSpellable (constant_of s)) (λ s k. barred_spellable (constant_of s) (identifier s k)) symbols h)

scope_named : (symbols : List (List ℕ)) → AllByRecursion IsIdentifier symbols → IsSpellableScope (record { enumerations = symbol_sort symbols; sorts = []; functions = [] })
scope_named [] h = record { enumerations = tt; constants = tt; functions = tt }
scope_named (s ∷ ss) h = record {
  enumerations = (barred_spellable (codes "Symbol") refl, tt);
  constants = subst AreSpellable (sym (append-nil (map constant_of (s ∷ ss)))) (constants_named (s ∷ ss) h);
  functions = tt;
}

-- ---- the script

pub names_are_spellable_law : AllNames
names_are_spellable_law source end text xs lexed spelled needed accepted =
    let t = instances_of source in
    let flat = flat_smv source in
    let w = width_of (flat_smv source) in
    let c = coding_of flat w in
    let words = items_words t (origins_of t) (names_are_words_law source end text xs lexed spelled) in
    let few = few_invariants source end xs spelled needed accepted in
    record {
      logic = barred_spellable (codes "QF_BV") refl;
      scope = record { scope = scope_named (symbols_of t) (symbols_are_words_law source end text xs lexed spelled); sorts = tt; functions = tt };
      systems = (
        record {
          name = barred_spellable (codes "main") refl;
          inputs = group_named w inputs flat.items words;
          outputs = group_named w outputs flat.items words;
          locals = group_named w locals flat.items words;
          init = formula_named flat c First;
          trans = formula_named flat c Following;
          inv = formula_named flat c Always;
          subsystems = tt;
        },
        tt,
      );
      check = record {
        inputs = group_named w inputs flat.items words;
        outputs = group_named w outputs flat.items words;
        locals = group_named w locals flat.items words;
        assumptions = tt;
        currents = tt;
        reachables = reachables_named flat c 0 (forms_invariants flat.forms) (omega (arith, few));
        queries = queries_named 0 (forms_invariants flat.forms) (omega (arith, few));
      };
    }
