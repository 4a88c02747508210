-- Lists that grow by what is made of one end after another.
use Rattle.std.proofs.Common.{◌≡◌, ℕ, ◌≤◌, ◌-◌, ◌⊎◌, inl, inr, List, [], ◌∷◌, ◌++◌, length, map, take, drop, refl, sym, ap, ◌∙◌, append_assoc, subst}
use Rattle.std.specs.Prelude.{Option}
use Rattle.text_core.proofs.ListLaws.{append_none}
use Rattle.smv_meaning.specs.declared.value.Value.{Value}
use Rattle.smv_meaning.specs.declared.value.Given.{Given}
use Rattle.smv_items.specs.FlatItems.{PlainFlatItem}
use Rattle.smv_numbered.specs.declared.heading.Heading.{Heading}
use Rattle.smv_numbered.specs.declared.run.Change.{Change}
use Rattle.smv_numbered.specs.Values.{stated_by, values_of}
use Rattle.smv_numbered.specs.Runs.{stated_at, IsRising}
use Rattle.smv_numbered.specs.laws.Stated.{rising_low, stated_on}

pub grown : {X : Type 0} (f : ℕ → X) (xs ys all : List X) (x : X) (rest more : List ℕ) (n : ℕ) → ys ≡ xs ++ x ∷ [] → x ≡ f n → rest ≡ n ∷ more → xs ++ map f rest ≡ all → ys ++ map f more ≡ all
grown f xs ys all x rest more n e g h i =
    ap (λ zs. zs ++ map f more) e ∙ append_assoc xs (x ∷ []) (map f more) ∙ ap (λ y. xs ++ y ∷ map f more) g ∙ ap (λ ns. xs ++ map f ns) (sym h) ∙ i

pub rising_rest : (low : ℕ) (rest more : List ℕ) (n high : ℕ) → rest ≡ n ∷ more → IsRising low rest high → (low ≤ n) × IsRising n more high
rising_rest low rest more n high e h = subst (λ (ns : List ℕ). IsRising low ns high) e h

-- the values after the changes up to the next end
pub values_next : (items : List PlainFlatItem) (all cs part : List Change) (low high : ℕ) (old new : List (Option Value)) → low ≤ high → all ≡ cs → part ≡ take (high - low) (drop low all) → old ≡ stated_at items cs low → new ≡ stated_by old part
    → new ≡ stated_at items cs high
values_next items all cs part low high old new l e f g h =
    h ∙ ap (λ xs. stated_by xs part) g ∙ ap (stated_by (stated_at items cs low)) (f ∙ ap (λ ds. take (high - low) (drop low ds)) e) ∙ stated_on items cs low high l

pub within_changes : (low : ℕ) (rest more : List ℕ) (n : ℕ) (cs all : List Change) → all ≡ cs → rest ≡ n ∷ more → IsRising low rest (length cs) → n ≤ length all
within_changes low rest more n cs all e f h =
    let l : n ≤ length cs = rising_low n more (length cs) (rising_rest low rest more n (length cs) f h).1 in
    subst (λ (xs : List Change). n ≤ length xs) (sym e) l

-- ---- one list

none_stated : (h : Heading) (ms : List PlainFlatItem) → values_of h ms [] ≡ []
none_stated h [] = refl
none_stated h (m ∷ ms) = refl

-- no values follow where either list is at its end
pub no_values : {A B : Type 0} (f : A → PlainFlatItem) (g : B → Option Value) (h : Heading) (xs : List A) (ys : List B) (state : List Given) → (xs ≡ []) ⊎ (ys ≡ []) → state ++ values_of h (map f xs) (map g ys) ≡ state
no_values f g h xs ys state (inl e) = ap (λ ms. state ++ values_of h (map f ms) (map g ys)) e ∙ append_none state
no_values f g h xs ys state (inr e) = ap (λ vs. state ++ values_of h (map f xs) (map g vs)) e ∙ ap (λ gs. state ++ gs) (none_stated h (map f xs)) ∙ append_none state
