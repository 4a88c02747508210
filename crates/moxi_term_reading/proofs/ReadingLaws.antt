-- What is read by parts.
use Rattle.std.proofs.Common.{◌≡◌, ℕ, suc, Bool, true, false, ◌&&◌, is_some, ◌+◌, ◌<◌, List, [], ◌∷◌, ◌++◌, map, length, drop, Option, None, Some, Result, Ok, Err, IfOk, OnOk, Vec, Global, refl, sym, ap, ◌∙◌, arith, rules, append_assoc, drop-cons, add-one}
use Rattle.std.proofs.lemmas.List.{append-nil, length-append}
use Rattle.std.specs.Prelude.{slice_index_or}
use Rattle.std.specs.Option.{option_map}
use Rattle.text_core.specs.declared.place.Place.{Place}
use Rattle.text_core.specs.declared.place.Refusal.{Refusal}
use Rattle.moxi_sexpr.specs.declared.form.Form.{Form, out-Form}
use Rattle.moxi_sexpr.specs.declared.form.FormShape.{List as Listed, the_lemmas}
use Rattle.moxi_sexpr.specs.Lexing.{refusal}
use Rattle.moxi_sexpr.specs.Tree as form
use Rattle.moxi_terms.specs.declared.data.Sort.{Sort}
use Rattle.moxi_term_reading.specs.declared.locals.Local.{Local}
use Rattle.moxi_terms.specs.declared.term.Term.{Term}
use Rattle.moxi_terms.specs.View.{plain}
use Rattle.moxi_term_reading.specs.Failures.{minimum, least}
use Rattle.moxi_term_reading.specs.Reading.{Arguments, joined, no_arguments, both_arguments, names_of, unless_failed, bindings_tests}
use Rattle.std.proofs.lemmas.Option.{same_Some, none-some}
use Rattle.moxi_term_reading.specs.Finding.{last_of}
use Rattle.moxi_term_reading.specs.Forms.{pair_of}
use Rattle.moxi_terms.specs.declared.term.Variable.{Variable}
use Rattle.moxi_term_reading.specs.Answer.{unless_some, locals_of, kept, sorts_in}
use Rattle.moxi_term_reading.specs.laws.Least.{least_append}

-- tests one after another
pub tests_both : (f g : Option Refusal) (xs ys : List Refusal) → f ≡ least xs → g ≡ least ys → minimum f g ≡ least (xs ++ ys)
tests_both f g xs ys e h = ap (λ f. minimum f g) e ∙ ap (minimum (least xs)) h ∙ sym (least_append xs ys)

pub unless_least : (fs : List Refusal) (s : Option Sort) (f : Option Refusal) → f ≡ least fs → unless_some f s ≡ unless_failed fs s
unless_least fs s f e = ap (λ f. unless_some f s) e ∙ go fs
  where
    some_least : (x : Refusal) (o : Option Refusal) → unless_some (minimum (Some x) o) s ≡ None
    some_least x None = refl
    some_least x (Some y) = refl

    go : (fs : List Refusal) → unless_some (least fs) s ≡ unless_failed fs s
    go [] = refl
    go (x ∷ xs) = some_least x (least xs)

-- two sorts that count as one where this test passes count so where another passes too
pub unless_both : (f g : Option Refusal) (s t : Option Sort) → unless_some g s ≡ unless_some g t → unless_some (minimum f g) s ≡ unless_some (minimum f g) t
unless_both None g s t e = e
unless_both (Some x) None s t e = refl
unless_both (Some x) (Some y) s t e = refl

-- ARGUMENTS

pub kept_more : (whole : Bool) (own : List Sort) (s : Option Sort) → kept (is_some s && whole) (own ++ sorts_in s) ≡ joined (kept whole own) (option_map (λ s. s ∷ []) s)
kept_more true own None = refl
kept_more true own (Some s) = refl
kept_more false own None = refl
kept_more false own (Some s) = refl

joined_assoc : (a b c : Option (List Sort)) → joined (joined a b) c ≡ joined a (joined b c)
joined_assoc None b c = refl
joined_assoc (Some x) None c = refl
joined_assoc (Some x) (Some y) None = refl
joined_assoc (Some x) (Some y) (Some z) = ap Some (append_assoc x y z)

joined_front : (a : Option (List Sort)) → joined (Some []) a ≡ a
joined_front None = refl
joined_front (Some x) = refl

pub arguments_assoc : (x y z : Arguments) → both_arguments (both_arguments x y) z ≡ both_arguments x (both_arguments y z)
arguments_assoc x y z =
    ap (λ ts. record { terms = ts; sorts = joined (joined x.sorts y.sorts) z.sorts; failures = (x.failures ++ y.failures) ++ z.failures }) (append_assoc x.terms y.terms z.terms)
    ∙ ap (λ ss. record { terms = x.terms ++ (y.terms ++ z.terms); sorts = ss; failures = (x.failures ++ y.failures) ++ z.failures }) (joined_assoc x.sorts y.sorts z.sorts)
    ∙ ap (λ fs. record { terms = x.terms ++ (y.terms ++ z.terms); sorts = joined x.sorts (joined y.sorts z.sorts); failures = fs }) (append_assoc x.failures y.failures z.failures)

pub arguments_front : (x : Arguments) → both_arguments no_arguments x ≡ x
arguments_front x = ap (λ ss. record { terms = x.terms; sorts = ss; failures = x.failures }) (joined_front x.sorts)

joined_back : (a : Option (List Sort)) → joined a (Some []) ≡ a
joined_back None = refl
joined_back (Some x) = ap Some (append-nil x)

pub arguments_back : (x : Arguments) → both_arguments x no_arguments ≡ x
arguments_back x =
    ap (λ ts. record { terms = ts; sorts = joined x.sorts (Some []); failures = x.failures ++ [] }) (append-nil x.terms)
    ∙ ap (λ ss. record { terms = x.terms; sorts = ss; failures = x.failures ++ [] }) (joined_back x.sorts)
    ∙ ap (λ fs. record { terms = x.terms; sorts = x.sorts; failures = fs }) (append-nil x.failures)

pub names_append : (xs ys : List Local) → names_of (xs ++ ys) ≡ names_of xs ++ names_of ys
names_append [] ys = refl
names_append (x ∷ xs) ys = ap (λ ns. x.name ∷ ns) (names_append xs ys)

pub names_more : (ls xs : List Local) (names all : List (List ℕ)) (name : List ℕ) (s : Option Sort) → names ≡ names_of ls → all ≡ names ++ name ∷ [] → all ≡ names_of (ls ++ record { name = name; sort = s } ∷ [])
names_more ls xs names all name s e f = f ∙ ap (λ ns. ns ++ name ∷ []) e ∙ sym (names_append ls (record { name = name; sort = s } ∷ []))

pub forms_step : (fs : List Form) (i : ℕ) (x : Form) → i < length fs → x ≡ slice_index_or fs i x → form.plain_forms (drop i fs) ≡ form.tree (form.plain x) (form.plain_forms (drop (i + 1) fs))
forms_step fs i x h e = ap form.plain_forms (drop-cons fs i x h ∙ ap (λ y. y ∷ drop (suc i) fs) (sym e)) ∙ ap (λ k. form.tree (form.plain x) (form.plain_forms (drop k fs))) (sym (add-one i))

pub empty_bindings : (q : Place) (fs : List Form) → length fs ≡ 0 → least (bindings_tests q (form.plain_forms fs)) ≡ Some (refusal 12 q)
empty_bindings q [] h = refl
empty_bindings q (f ∷ fs) h = absurd (omega arith)

pub last_of_none : (ls : List Local) (name : List ℕ) → length ls ≡ 0 → last_of 0 ls name ≡ None
last_of_none [] name h = refl
last_of_none (l ∷ ls) name h = absurd (omega arith)

pub plain_end : (ts : List Term) (t : Term) → map plain (ts ++ t ∷ []) ≡ map plain ts ++ plain t ∷ []
plain_end [] t = refl
plain_end (u ∷ us) t = ap (λ xs. plain u ∷ xs) (plain_end us t)

pub if_ok_map : {A E : Type 0} (P Q : A → Type 0) (r : Result A E) → ((x : A) → P x → Q x) → IfOk r P → IfOk r Q
if_ok_map P Q (Ok x) f h = f x h
if_ok_map P Q (Err e) f h = tt

pub plain_list : (f : Form) (fs : Vec Form Global) → (out-Form f).shape ≡ Listed fs → form.plain f ≡ form.list (out-Form f).place (form.plain_forms fs.items)
plain_list f fs e = search (rules, the_lemmas)

pub pair_is : (ts : form.Trees) (a b : form.Tree) → Some (a, b) ≡ pair_of ts → ts ≡ form.tree a (form.tree b form.no_trees)
pair_is form.no_trees a b h = absurd (none-some (a, b) (sym h))
pair_is (form.tree t form.no_trees) a b h = absurd (none-some (a, b) (sym h))
pair_is (form.tree t (form.tree u form.no_trees)) a b h =
    let e = same_Some (a, b) (t, u) h in
    ap (λ t. form.tree t (form.tree u form.no_trees)) (sym (ap (λ (p : form.Tree × form.Tree). p.0) e)) ∙ ap (λ u. form.tree a (form.tree u form.no_trees)) (sym (ap (λ (p : form.Tree × form.Tree). p.1) e))
pair_is (form.tree t (form.tree u (form.tree v vs))) a b h = absurd (none-some (a, b) (sym h))

pub on_ok_map : {A E : Type 0} (P Q : Type 0) (r : Result A E) → (P → Q) → OnOk r P → OnOk r Q
on_ok_map P Q (Ok x) f h = f h
on_ok_map P Q (Err e) f h = tt

locals_long : (vs : List Variable) → length (locals_of vs) ≡ length vs
locals_long [] = refl
locals_long (v ∷ vs) = ap suc (locals_long vs)

-- there is room for one of the variables that are left
pub room_left : (ls : List Local) (xs vs : List Variable) (v : Variable) (rest : List Variable) → ls ++ locals_of xs ≡ locals_of vs → xs ≡ v ∷ rest → length vs < 4294967296 → length ls < 4294967295
room_left ls xs vs v rest e f h = omega (arith, ap length e, length-append ls (locals_of xs), locals_long xs, locals_long vs, ap length f, h)
