-- What the parts of a line spell is what is read from their front.
use Rattle.std.proofs.Common.{◌≡◌, ℕ, ◌<◌, ◌≤◌, true, false, ltb, leb, ◌&&◌, List, [], ◌∷◌, Option, Some, None, option_map, refl, sym, inl, inr, ap, ◌∙◌, subst}
use Rattle.std.specs.Prelude.{option_and_then, IfSome, codes}
use Rattle.std.proofs.lemmas.Bool.{cond-true, cond-false, cond_both, cases_Bool, lt-ltb, le-leb, ltb-true, leb-true, and_parts, and_from}
use Rattle.std.proofs.lemmas.Option.{same_Some, none-some}
use Rattle.std.specs.Str.{bytes_eq}
use Rattle.std.proofs.lemmas.Slice.Eq.{bytes_eq-Decides}
use Rattle.word_core.specs.declared.kinds.Unary.{Unary}
use Rattle.word_core.specs.declared.kinds.Binary.{Binary}
use Rattle.word_core.specs.declared.kinds.Unary.TheVariants.{Not}
use Rattle.word_core.specs.declared.kinds.Binary.TheVariants.{Iff}
use Rattle.btor_tree.specs.Fits.{IsSymbol, greatest_id}
use Rattle.btor_tree.specs.Parts.{Parts, numeral, is_symbol}
use Rattle.btor_tree.proofs.PartLaws.{symbol_test, symbol_tested}
use Rattle.btor_tree.specs.Shapes.{Operand, Nullary, input, Base, in_binary, Extension, uext, Binding, init, Property, bad, Word, sort_word, nullary_word, base_word, binding_word, property_word, unary_word, binary_word, ite_word, slice_word, extension_word, word_text, is_unsupported, StartsUnsupported, is_literal, base_text, extension_text, Content, sort_content, nullary_content, constant_content, binding_content, property_content, unary_content, binary_content, ite_content, slice_content, extension_content, unsupported_content, Shape, nullary_text, binding_text, property_text, unary_text, binary_text, operand_of, symbol_parts, SpellsContent, Spells}
use Rattle.btor_tree.specs.Reading.{words, word_among, word_of, Read, bitvec_args, sort_args, nullary_args, constant_args, binding_args, property_args, unary_args, binary_args, ite_args, slice_args, extension_args, content_at, content_of, shaped, numbered, shape_of}

-- A clause for one word of each class has the last clause checked for each other word by itself.
word_reads : (w : Word) → word_of (word_text w) ≡ Some w
word_reads (nullary_word input) = refl
word_reads (base_word in_binary) = refl
word_reads (binding_word init) = refl
word_reads (property_word bad) = refl
word_reads (unary_word Not) = refl
word_reads (binary_word Iff) = refl
word_reads (extension_word uext) = refl
word_reads w = refl

-- no word of a line is left out
word_supported : (w : Word) → is_unsupported (word_text w) ≡ false
word_supported (nullary_word input) = refl
word_supported (base_word in_binary) = refl
word_supported (binding_word init) = refl
word_supported (property_word bad) = refl
word_supported (unary_word Not) = refl
word_supported (binary_word Iff) = refl
word_supported (extension_word uext) = refl
word_supported w = refl

-- the content behind a word's own text
behind : (w : Word) (args ps : Parts) → ps ≡ word_text w ∷ args → content_of ps ≡ content_at args w
behind w args ps e = ap content_of e ∙ cond-false (is_unsupported (word_text w)) _ _ (word_supported w) ∙ ap (option_and_then (content_at args)) (word_reads w)

unsupported_reads : (ps tail : Parts) → tail ≡ [] → StartsUnsupported ps → content_of ps ≡ Some (unsupported_content, tail)
unsupported_reads [] tail e h = absurd h
unsupported_reads (w ∷ args) tail e (inl t) = cond-true (is_unsupported w) _ _ t ∙ ap (λ x. Some (unsupported_content, x)) (sym e)
unsupported_reads (w ∷ []) tail e (inr h) = absurd (none-some (codes "array") h.1)
unsupported_reads (w ∷ (k ∷ more)) tail e (inr h) =
    ap (λ x. content_of (x ∷ (k ∷ more))) h.0 ∙ ap (λ x. content_of (codes "sort" ∷ (x ∷ more))) (same_Some k (codes "array") h.1) ∙ ap (λ x. Some (unsupported_content, x)) (sym e)

content_reads : (content : Content) (tail ps : Parts) → SpellsContent content tail ps → content_of ps ≡ Some (content, tail)
content_reads (sort_content w) tail ps h = behind sort_word _ ps h.1 ∙ ap (option_map (λ n. (sort_content n, tail))) h.2
content_reads (nullary_content k s) tail ps h = behind (nullary_word k) _ ps h.1 ∙ ap (option_map (λ n. (nullary_content k n, tail))) h.2
content_reads (constant_content k s digits) tail ps h =
    behind (base_word k) _ ps h.1 ∙ cond-true (is_literal k digits) _ _ h.3 ∙ ap (option_map (λ s. (constant_content k s digits, tail))) h.2
content_reads (binding_content k s x v) tail ps h =
    behind (binding_word k) _ ps h.3
    ∙ ap (option_and_then (λ s. option_and_then (λ x. option_map (λ v. (binding_content k s x v, tail)) (operand_of h.2)) (numeral h.1))) h.4
    ∙ ap (option_and_then (λ x. option_map (λ v. (binding_content k s x v, tail)) (operand_of h.2))) h.5
    ∙ ap (option_map (λ v. (binding_content k s x v, tail))) h.6
content_reads (property_content k x) tail ps h = behind (property_word k) _ ps h.1 ∙ ap (option_map (λ x. (property_content k x, tail))) h.2
content_reads (unary_content op s x) tail ps h =
    behind (unary_word op) _ ps h.2 ∙ ap (option_and_then (λ s. option_map (λ x. (unary_content op s x, tail)) (operand_of h.1))) h.3
    ∙ ap (option_map (λ x. (unary_content op s x, tail))) h.4
content_reads (binary_content op s x y) tail ps h =
    behind (binary_word op) _ ps h.3
    ∙ ap (option_and_then (λ s. option_and_then (λ x. option_map (λ y. (binary_content op s x y, tail)) (operand_of h.2)) (operand_of h.1))) h.4
    ∙ ap (option_and_then (λ x. option_map (λ y. (binary_content op s x y, tail)) (operand_of h.2))) h.5
    ∙ ap (option_map (λ y. (binary_content op s x y, tail))) h.6
content_reads (ite_content s x y z) tail ps h =
    behind ite_word _ ps h.4
    ∙ ap (option_and_then (λ s. option_and_then (λ x. option_and_then (λ y. option_map (λ z. (ite_content s x y z, tail)) (operand_of h.3)) (operand_of h.2)) (operand_of h.1))) h.5
    ∙ ap (option_and_then (λ x. option_and_then (λ y. option_map (λ z. (ite_content s x y z, tail)) (operand_of h.3)) (operand_of h.2))) h.6
    ∙ ap (option_and_then (λ y. option_map (λ z. (ite_content s x y z, tail)) (operand_of h.3))) h.7
    ∙ ap (option_map (λ z. (ite_content s x y z, tail))) h.8
content_reads (slice_content s x high low) tail ps h =
    behind slice_word _ ps h.4
    ∙ ap (option_and_then (λ s. option_and_then (λ x. option_and_then (λ high. option_map (λ low. (slice_content s x high low, tail)) (numeral h.3)) (numeral h.2)) (operand_of h.1))) h.5
    ∙ ap (option_and_then (λ x. option_and_then (λ high. option_map (λ low. (slice_content s x high low, tail)) (numeral h.3)) (numeral h.2))) h.6
    ∙ ap (option_and_then (λ high. option_map (λ low. (slice_content s x high low, tail)) (numeral h.3))) h.7
    ∙ ap (option_map (λ low. (slice_content s x high low, tail))) h.8
content_reads (extension_content k s x n) tail ps h =
    behind (extension_word k) _ ps h.3
    ∙ ap (option_and_then (λ s. option_and_then (λ x. option_map (λ n. (extension_content k s x n, tail)) (numeral h.2)) (operand_of h.1))) h.4
    ∙ ap (option_and_then (λ x. option_map (λ n. (extension_content k s x n, tail)) (numeral h.2))) h.5
    ∙ ap (option_map (λ n. (extension_content k s x n, tail))) h.6
content_reads unsupported_content tail ps h = unsupported_reads ps tail h.0 h.1

symbol_reads : (n : ℕ) (content : Content) (o : Option (List ℕ)) → IfSome o IsSymbol → shaped n (content, symbol_parts o) ≡ Some (record { id = n; content = content; symbol = o })
symbol_reads n content None h = refl
symbol_reads n content (Some s) h = cond-true (is_symbol s) _ _ (symbol_test s h)

pub shape_reads : (sh : Shape) (ps : Parts) → Spells sh ps → shape_of ps ≡ Some sh
shape_reads sh ps h =
    ap shape_of h.splits ∙ ap (option_and_then (numbered (content_of h.rest))) h.id_is ∙ cond-true (ltb 0 sh.id && leb sh.id greatest_id) _ _ (and_from (ltb 0 sh.id) (leb sh.id greatest_id) (lt-ltb 0 sh.id h.first) (le-leb sh.id greatest_id h.small))
    ∙ ap (option_and_then (shaped sh.id)) (content_reads sh.content (symbol_parts sh.symbol) h.rest h.content) ∙ symbol_reads sh.id sh.content sh.symbol h.symbol

-- and the other way round
word_from : (ws : List Word) (text : List ℕ) (w : Word) → word_among ws text ≡ Some w → text ≡ word_text w
word_from [] text w e = absurd (none-some w e)
word_from (v ∷ ws) text w e =
    elim (cases_Bool (bytes_eq text (word_text v))) [
      | inl t ↦ let same : v ≡ w = same_Some v w (sym (cond-true (bytes_eq text (word_text v)) (Some v) (word_among ws text) t) ∙ e) in
          (bytes_eq-Decides text (word_text v)).0 t ∙ ap word_text same
      | inr f ↦ word_from ws text w (sym (cond-false (bytes_eq text (word_text v)) (Some v) (word_among ws text) f) ∙ e)
    ]

abbrev OnRead : Parts → Read → Type 0
OnRead ps None = Unit {0}
OnRead ps (Some (content, tail)) = SpellsContent content tail ps

width_from : (x : List ℕ) (tail ps : Parts) (o : Option ℕ) → numeral x ≡ o → ps ≡ codes "sort" ∷ (codes "bitvec" ∷ (x ∷ tail)) → OnRead ps (option_map (λ w. (sort_content w, tail)) o)
width_from x tail ps None e f = tt
width_from x tail ps (Some w) e f = (x, f, e)

bitvec_from : (text k : List ℕ) (args : Parts) → text ≡ codes "sort" → OnRead (text ∷ (k ∷ args)) (bitvec_args k args)
bitvec_from text k [] e = tt
bitvec_from text k (x ∷ tail) e =
    cond_both (bytes_eq k (codes "bitvec")) (option_map (λ w. (sort_content w, tail)) (numeral x)) None (OnRead (text ∷ (k ∷ (x ∷ tail))))
    (λ t. let k_is = (bytes_eq-Decides k (codes "bitvec")).0 t in width_from x tail _ (numeral x) refl cc) (λ _. tt)

sort_from : (text : List ℕ) (args : Parts) → text ≡ codes "sort" → OnRead (text ∷ args) (sort_args args)
sort_from text [] e = tt
sort_from text (k ∷ more) e =
    cond_both (bytes_eq k (codes "array")) (Some (unsupported_content, [])) (bitvec_args k more) (OnRead (text ∷ (k ∷ more)))
    (λ t. (refl, inr (e, ap Some ((bytes_eq-Decides k (codes "array")).0 t)))) (λ _. bitvec_from text k more e)

nullary_at : (k : Nullary) (text x : List ℕ) (tail : Parts) (o : Option ℕ) → numeral x ≡ o → text ≡ nullary_text k → OnRead (text ∷ (x ∷ tail)) (option_map (λ s. (nullary_content k s, tail)) o)
nullary_at k text x tail None e f = tt
nullary_at k text x tail (Some s) e f = (x, ap (λ w. w ∷ (x ∷ tail)) f, e)

nullary_from : (k : Nullary) (text : List ℕ) (args : Parts) → text ≡ nullary_text k → OnRead (text ∷ args) (nullary_args k args)
nullary_from k text [] e = tt
nullary_from k text (x ∷ tail) e = nullary_at k text x tail (numeral x) refl e

constant_at : (k : Base) (text a digits : List ℕ) (tail : Parts) (o : Option ℕ) → numeral a ≡ o → text ≡ base_text k → is_literal k digits ≡ true
    → OnRead (text ∷ (a ∷ (digits ∷ tail))) (option_map (λ s. (constant_content k s digits, tail)) o)
constant_at k text a digits tail None e f g = tt
constant_at k text a digits tail (Some s) e f g = (a, ap (λ w. w ∷ (a ∷ (digits ∷ tail))) f, e, g)

constant_from : (k : Base) (text : List ℕ) (args : Parts) → text ≡ base_text k → OnRead (text ∷ args) (constant_args k args)
constant_from k text [] e = tt
constant_from k text (a ∷ []) e = tt
constant_from k text (a ∷ (digits ∷ tail)) e =
    cond_both (is_literal k digits) (option_map (λ s. (constant_content k s digits, tail)) (numeral a)) None (OnRead (text ∷ (a ∷ (digits ∷ tail))))
    (λ t. constant_at k text a digits tail (numeral a) refl e t) (λ _. tt)

binding_at : (k : Binding) (text a b c : List ℕ) (tail : Parts) (o p : Option ℕ) (q : Option Operand) → numeral a ≡ o → numeral b ≡ p → operand_of c ≡ q → text ≡ binding_text k
    → OnRead (text ∷ (a ∷ (b ∷ (c ∷ tail)))) (option_and_then (λ s. option_and_then (λ x. option_map (λ v. (binding_content k s x v, tail)) q) p) o)
binding_at k text a b c tail None p q e f g h = tt
binding_at k text a b c tail (Some s) None q e f g h = tt
binding_at k text a b c tail (Some s) (Some x) None e f g h = tt
binding_at k text a b c tail (Some s) (Some x) (Some v) e f g h = (a, b, c, ap (λ w. w ∷ (a ∷ (b ∷ (c ∷ tail)))) h, e, f, g)

binding_from : (k : Binding) (text : List ℕ) (args : Parts) → text ≡ binding_text k → OnRead (text ∷ args) (binding_args k args)
binding_from k text [] e = tt
binding_from k text (a ∷ []) e = tt
binding_from k text (a ∷ (b ∷ [])) e = tt
binding_from k text (a ∷ (b ∷ (c ∷ tail))) e = binding_at k text a b c tail (numeral a) (numeral b) (operand_of c) refl refl refl e

property_at : (k : Property) (text a : List ℕ) (tail : Parts) (o : Option Operand) → operand_of a ≡ o → text ≡ property_text k → OnRead (text ∷ (a ∷ tail)) (option_map (λ x. (property_content k x, tail)) o)
property_at k text a tail None e f = tt
property_at k text a tail (Some x) e f = (a, ap (λ w. w ∷ (a ∷ tail)) f, e)

property_from : (k : Property) (text : List ℕ) (args : Parts) → text ≡ property_text k → OnRead (text ∷ args) (property_args k args)
property_from k text [] e = tt
property_from k text (a ∷ tail) e = property_at k text a tail (operand_of a) refl e

unary_at : (op : Unary) (text a b : List ℕ) (tail : Parts) (o : Option ℕ) (p : Option Operand) → numeral a ≡ o → operand_of b ≡ p → text ≡ unary_text op
    → OnRead (text ∷ (a ∷ (b ∷ tail))) (option_and_then (λ s. option_map (λ x. (unary_content op s x, tail)) p) o)
unary_at op text a b tail None p e f g = tt
unary_at op text a b tail (Some s) None e f g = tt
unary_at op text a b tail (Some s) (Some x) e f g = (a, b, ap (λ w. w ∷ (a ∷ (b ∷ tail))) g, e, f)

unary_from : (op : Unary) (text : List ℕ) (args : Parts) → text ≡ unary_text op → OnRead (text ∷ args) (unary_args op args)
unary_from op text [] e = tt
unary_from op text (a ∷ []) e = tt
unary_from op text (a ∷ (b ∷ tail)) e = unary_at op text a b tail (numeral a) (operand_of b) refl refl e

binary_at : (op : Binary) (text a b c : List ℕ) (tail : Parts) (o : Option ℕ) (p q : Option Operand) → numeral a ≡ o → operand_of b ≡ p → operand_of c ≡ q → text ≡ binary_text op
    → OnRead (text ∷ (a ∷ (b ∷ (c ∷ tail)))) (option_and_then (λ s. option_and_then (λ x. option_map (λ y. (binary_content op s x y, tail)) q) p) o)
binary_at op text a b c tail None p q e f g h = tt
binary_at op text a b c tail (Some s) None q e f g h = tt
binary_at op text a b c tail (Some s) (Some x) None e f g h = tt
binary_at op text a b c tail (Some s) (Some x) (Some y) e f g h = (a, b, c, ap (λ w. w ∷ (a ∷ (b ∷ (c ∷ tail)))) h, e, f, g)

binary_from : (op : Binary) (text : List ℕ) (args : Parts) → text ≡ binary_text op → OnRead (text ∷ args) (binary_args op args)
binary_from op text [] e = tt
binary_from op text (a ∷ []) e = tt
binary_from op text (a ∷ (b ∷ [])) e = tt
binary_from op text (a ∷ (b ∷ (c ∷ tail))) e = binary_at op text a b c tail (numeral a) (operand_of b) (operand_of c) refl refl refl e

ite_at : (text a b c d : List ℕ) (tail : Parts) (o : Option ℕ) (p q r : Option Operand) → numeral a ≡ o → operand_of b ≡ p → operand_of c ≡ q → operand_of d ≡ r → text ≡ codes "ite"
    → OnRead (text ∷ (a ∷ (b ∷ (c ∷ (d ∷ tail))))) (option_and_then (λ s. option_and_then (λ x. option_and_then (λ y. option_map (λ z. (ite_content s x y z, tail)) r) q) p) o)
ite_at text a b c d tail None p q r e f g i h = tt
ite_at text a b c d tail (Some s) None q r e f g i h = tt
ite_at text a b c d tail (Some s) (Some x) None r e f g i h = tt
ite_at text a b c d tail (Some s) (Some x) (Some y) None e f g i h = tt
ite_at text a b c d tail (Some s) (Some x) (Some y) (Some z) e f g i h = (a, b, c, d, ap (λ w. w ∷ (a ∷ (b ∷ (c ∷ (d ∷ tail))))) h, e, f, g, i)

ite_from : (text : List ℕ) (args : Parts) → text ≡ codes "ite" → OnRead (text ∷ args) (ite_args args)
ite_from text [] e = tt
ite_from text (a ∷ []) e = tt
ite_from text (a ∷ (b ∷ [])) e = tt
ite_from text (a ∷ (b ∷ (c ∷ []))) e = tt
ite_from text (a ∷ (b ∷ (c ∷ (d ∷ tail)))) e = ite_at text a b c d tail (numeral a) (operand_of b) (operand_of c) (operand_of d) refl refl refl refl e

slice_at : (text a b c d : List ℕ) (tail : Parts) (o : Option ℕ) (p : Option Operand) (q r : Option ℕ) → numeral a ≡ o → operand_of b ≡ p → numeral c ≡ q → numeral d ≡ r → text ≡ codes "slice"
    → OnRead (text ∷ (a ∷ (b ∷ (c ∷ (d ∷ tail))))) (option_and_then (λ s. option_and_then (λ x. option_and_then (λ high. option_map (λ low. (slice_content s x high low, tail)) r) q) p) o)
slice_at text a b c d tail None p q r e f g i h = tt
slice_at text a b c d tail (Some s) None q r e f g i h = tt
slice_at text a b c d tail (Some s) (Some x) None r e f g i h = tt
slice_at text a b c d tail (Some s) (Some x) (Some y) None e f g i h = tt
slice_at text a b c d tail (Some s) (Some x) (Some y) (Some z) e f g i h = (a, b, c, d, ap (λ w. w ∷ (a ∷ (b ∷ (c ∷ (d ∷ tail))))) h, e, f, g, i)

slice_from : (text : List ℕ) (args : Parts) → text ≡ codes "slice" → OnRead (text ∷ args) (slice_args args)
slice_from text [] e = tt
slice_from text (a ∷ []) e = tt
slice_from text (a ∷ (b ∷ [])) e = tt
slice_from text (a ∷ (b ∷ (c ∷ []))) e = tt
slice_from text (a ∷ (b ∷ (c ∷ (d ∷ tail)))) e = slice_at text a b c d tail (numeral a) (operand_of b) (numeral c) (numeral d) refl refl refl refl e

extension_at : (k : Extension) (text a b c : List ℕ) (tail : Parts) (o : Option ℕ) (p : Option Operand) (q : Option ℕ) → numeral a ≡ o → operand_of b ≡ p → numeral c ≡ q → text ≡ extension_text k
    → OnRead (text ∷ (a ∷ (b ∷ (c ∷ tail)))) (option_and_then (λ s. option_and_then (λ x. option_map (λ n. (extension_content k s x n, tail)) q) p) o)
extension_at k text a b c tail None p q e f g h = tt
extension_at k text a b c tail (Some s) None q e f g h = tt
extension_at k text a b c tail (Some s) (Some x) None e f g h = tt
extension_at k text a b c tail (Some s) (Some x) (Some n) e f g h = (a, b, c, ap (λ w. w ∷ (a ∷ (b ∷ (c ∷ tail)))) h, e, f, g)

extension_from : (k : Extension) (text : List ℕ) (args : Parts) → text ≡ extension_text k → OnRead (text ∷ args) (extension_args k args)
extension_from k text [] e = tt
extension_from k text (a ∷ []) e = tt
extension_from k text (a ∷ (b ∷ [])) e = tt
extension_from k text (a ∷ (b ∷ (c ∷ tail))) e = extension_at k text a b c tail (numeral a) (operand_of b) (numeral c) refl refl refl e

args_from : (w : Word) (text : List ℕ) (args : Parts) → text ≡ word_text w → OnRead (text ∷ args) (content_at args w)
args_from sort_word text args e = sort_from text args e
args_from (nullary_word k) text args e = nullary_from k text args e
args_from (base_word k) text args e = constant_from k text args e
args_from (binding_word k) text args e = binding_from k text args e
args_from (property_word k) text args e = property_from k text args e
args_from (unary_word op) text args e = unary_from op text args e
args_from (binary_word op) text args e = binary_from op text args e
args_from ite_word text args e = ite_from text args e
args_from slice_word text args e = slice_from text args e
args_from (extension_word k) text args e = extension_from k text args e

word_at : (text : List ℕ) (args : Parts) (o : Option Word) → word_of text ≡ o → OnRead (text ∷ args) (option_and_then (content_at args) o)
word_at text args None e = tt
word_at text args (Some w) e = args_from w text args (word_from words text w e)

content_from : (ps : Parts) → OnRead ps (content_of ps)
content_from [] = tt
content_from (text ∷ args) =
    cond_both (is_unsupported text) (Some (unsupported_content, [])) (option_and_then (content_at args) (word_of text)) (OnRead (text ∷ args))
    (λ t. (refl, inl t)) (λ _. word_at text args (word_of text) refl)

abbrev OnShape : Parts → Option Shape → Type 0
OnShape ps None = Unit {0}
OnShape ps (Some sh) = Spells sh ps

shaped_from : (i : List ℕ) (rest : Parts) (n : ℕ) (content : Content) (tail : Parts) → numeral i ≡ Some n → 0 < n → n ≤ greatest_id → SpellsContent content tail rest → OnShape (i ∷ rest) (shaped n (content, tail))
shaped_from i rest n content [] e a b h = record { id_part = i; rest = rest; splits = refl; id_is = e; first = a; small = b; content = h; symbol = tt }
shaped_from i rest n content (s ∷ []) e a b h =
    cond_both (is_symbol s) (Some (record { id = n; content = content; symbol = Some s })) None (OnShape (i ∷ rest))
    (λ t. record { id_part = i; rest = rest; splits = refl; id_is = e; first = a; small = b; content = h; symbol = symbol_tested s t }) (λ _. tt)
shaped_from i rest n content (s ∷ (t ∷ more)) e a b h = tt

read_from : (i : List ℕ) (rest : Parts) (n : ℕ) (r : Read) → numeral i ≡ Some n → 0 < n → n ≤ greatest_id → OnRead rest r → OnShape (i ∷ rest) (option_and_then (shaped n) r)
read_from i rest n None e a b h = tt
read_from i rest n (Some (content, tail)) e a b h = shaped_from i rest n content tail e a b h

number_from : (i : List ℕ) (rest : Parts) (o : Option ℕ) → numeral i ≡ o → OnShape (i ∷ rest) (option_and_then (numbered (content_of rest)) o)
number_from i rest None e = tt
number_from i rest (Some n) e =
    cond_both (ltb 0 n && leb n greatest_id) (option_and_then (shaped n) (content_of rest)) None (OnShape (i ∷ rest))
    (λ t. let p = and_parts (ltb 0 n) (leb n greatest_id) t in read_from i rest n (content_of rest) e (ltb-true 0 n p.0) (leb-true n greatest_id p.1) (content_from rest)) (λ _. tt)

shape_there : (ps : Parts) → OnShape ps (shape_of ps)
shape_there [] = tt
shape_there (i ∷ rest) = number_from i rest (numeral i) refl

pub shape_from : (sh : Shape) (ps : Parts) → shape_of ps ≡ Some sh → Spells sh ps
shape_from sh ps e = subst (OnShape ps) e (shape_there ps)
