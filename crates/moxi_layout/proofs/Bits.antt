-- Words of truth values at places, and what gates and chains make of them.
use Rattle.std.proofs.Common.{◌≡◌, ℕ, ◌<◌, ◌≤◌, Bool, ◌&&◌, ◌||◌, eqb, List, [], ◌∷◌, ◌++◌, length, map, refl, sym, ap, ◌∙◌, subst, arith}
use Rattle.std.specs.List.{AllZip, list_all, list_any}
use Rattle.std.proofs.Math.Bool.{and_assoc, or_assoc}
use Rattle.word_core.specs.Words.{BitVector}
use Rattle.word_core.specs.Table.{BinaryFits, binary_of, binary_width}
use Rattle.word_core.specs.declared.kinds.Binary.{Binary}
use Rattle.word_core.specs.declared.kinds.Binary.TheVariants as two
use Rattle.btor_tree.specs.declared.lines.Line.{Line}
use Rattle.btor_tree.specs.Fits.{greatest_id, width_at}
use Rattle.btor_tree.specs.Frame.{word_at}
use Rattle.btor_tree.proofs.Widths.{wide}
use Rattle.moxi_terms.specs.declared.data.Sort.TheVariants.{Truth}
use Rattle.moxi_lines.specs.TermLines.{Built, chain_lines, folded_lines, with_binary}
use Rattle.moxi_lines.specs.TermLaws.{AreNumbered}
use Rattle.moxi_lines.proofs.Chains.{WordsAt, chain_made, fold_all, fold_words, folded_made}
use Rattle.moxi_lines.proofs.CodeLaws.{goes_back}
use Rattle.moxi_lines.proofs.Steps.{BuiltWord, WordAt, binary_step}
use Rattle.moxi_lines.proofs.Words.{bit, and_true, or_false, and_bit, or_bit}
use Rattle.moxi_lines.proofs.Extending.{Extends, extends_meets, extends_width}

-- ---- truth values

abbrev pub all_true : List Bool → Bool
all_true bs = list_all (λ c. c) bs

abbrev pub some_true : List Bool → Bool
some_true bs = list_any (λ c. c) bs

and_fold : (b : Bool) (bs : List Bool) → fold_words two.And (bit b) (map bit bs) ≡ bit (b && all_true bs)
and_fold b [] = ap bit (and_true b)
and_fold b (c ∷ bs) = ap (λ z. fold_words two.And z (map bit bs)) (and_bit b c) ∙ and_fold (b && c) bs ∙ ap bit (and_assoc b c (all_true bs))

or_fold : (b : Bool) (bs : List Bool) → fold_words two.Or (bit b) (map bit bs) ≡ bit (b || some_true bs)
or_fold b [] = ap bit (or_false b)
or_fold b (c ∷ bs) = ap (λ z. fold_words two.Or z (map bit bs)) (or_bit b c) ∙ or_fold (b || c) bs ∙ ap bit (or_assoc b c (some_true bs))

and_all : (bs : List Bool) → 1 ≤ length bs → fold_all two.And (map bit bs) ≡ bit (all_true bs)
and_all [] h = absurd (omega (arith, h))
and_all (b ∷ bs) h = and_fold b bs

or_all : (bs : List Bool) → 1 ≤ length bs → fold_all two.Or (map bit bs) ≡ bit (some_true bs)
or_all [] h = absurd (omega (arith, h))
or_all (b ∷ bs) h = or_fold b bs

-- ---- pairs of lists

pub zip_map : {A B : Type 0} (P Q : A → B → Type 0) → ((x : A) (y : B) → P x y → Q x y) → (xs : List A) (ys : List B) → AllZip P xs ys → AllZip Q xs ys
zip_map P Q g [] [] a = a
zip_map P Q g [] (y ∷ ys) a = absurd a
zip_map P Q g (x ∷ xs) [] a = absurd a
zip_map P Q g (x ∷ xs) (y ∷ ys) a = (g x y a.0, zip_map P Q g xs ys a.1)

pub zip_both : {A B : Type 0} (P : A → B → Type 0) (xs xs2 : List A) (ys ys2 : List B) → AllZip P xs ys → AllZip P xs2 ys2 → AllZip P (xs ++ xs2) (ys ++ ys2)
zip_both P [] xs2 [] ys2 a b = b
zip_both P [] xs2 (y ∷ ys) ys2 a b = absurd a
zip_both P (x ∷ xs) xs2 [] ys2 a b = absurd a
zip_both P (x ∷ xs) xs2 (y ∷ ys) ys2 a b = (a.0, zip_both P xs xs2 ys ys2 a.1 b)

pub zip_push : {A B : Type 0} (P : A → B → Type 0) (xs : List A) (x : A) (ys : List B) (y : B) → AllZip P xs ys → P x y → AllZip P (xs ++ x ∷ []) (ys ++ y ∷ [])
zip_push P xs x ys y a b = zip_both P xs (x ∷ []) ys (y ∷ []) a (b, tt)

-- ---- words

module _ (row : List BitVector) (known : Bool) where
  abbrev pub BitAt : List Line → ℕ → Bool → Type 0
  BitAt lines p b = WordAt row known lines p 1 (bit b)

  abbrev pub BitMade : List Line → Built → Bool → Type 0
  BitMade lines m b = BuiltWord row known lines m 1 (bit b)

  pub bit_later : (a b : List Line) → Extends a b → (p : ℕ) (c : Bool) → BitAt a p c → BitAt b p c
  bit_later a b g p c at = record { width = extends_width a b p 1 (omega arith) g at.width; word = λ k m. at.word k (extends_meets a b row g m) }

  pub bits_later : (a b : List Line) → Extends a b → (ps : List ℕ) (bs : List Bool) → AllZip (BitAt a) ps bs → AllZip (BitAt b) ps bs
  bits_later a b g ps bs at = zip_map (BitAt a) (BitAt b) (bit_later a b g) ps bs at

  -- a word of one bit, whatever it is
  pub some_bit : (lines : List Line) (p : ℕ) → AreNumbered lines → width_at lines p ≡ 1 → BitAt lines p (eqb (word_at row p).bits 1)
  some_bit lines p n e =
      record {
        width = e;
        word = λ k m. let w = wide lines row n.fit m p (subst (λ i. 1 ≤ i) (sym e) (omega arith)) in
            sym (goes_back [] Truth (word_at row p) w.0 (w.1 ∙ e));
      }

  pub gate : (b : Binary) (op : Bool → Bool → Bool) → BinaryFits b 1 1 → binary_width b 1 1 ≡ 1 → ((x y : Bool) → binary_of b (bit x) (bit y) ≡ bit (op x y)) → (lines : List Line) (p q : ℕ) (x y : Bool)
      → AreNumbered lines → BitAt lines p x → BitAt lines q y → length (with_binary b lines p q).0 < greatest_id → BitMade lines (with_binary b lines p q) (op x y)
  gate b op fits w is lines p q x y n at1 at2 room =
      let s = binary_step row known b lines p q 1 1 (bit x) (bit y) n (omega arith) (omega arith) at1 at2 fits (omega (arith, w)) (omega (arith, w)) room in
      record { grows = s.grows; numbered = s.numbered; at = record { width = s.at.width ∙ w; word = λ k m. s.at.word k m ∙ is x y } }

  words_of : (lines : List Line) (ps : List ℕ) (bs : List Bool) → AllZip (BitAt lines) ps bs → WordsAt row known lines ps 1 (map bit bs)
  words_of lines [] [] a = tt
  words_of lines [] (b ∷ bs) a = absurd a
  words_of lines (p ∷ ps) [] a = absurd a
  words_of lines (p ∷ ps) (b ∷ bs) a = (a.0, words_of lines ps bs a.1)

  named_so : (lines : List Line) (m : Built) (x : BitVector) (b : Bool) → x ≡ bit b → BuiltWord row known lines m 1 x → BitMade lines m b
  named_so lines m x b e s = record { grows = s.grows; numbered = s.numbered; at = record { width = s.at.width; word = λ k met. s.at.word k met ∙ e } }

  pub and_folded : (m : Built) (b : Bool) (ps : List ℕ) (bs : List Bool) → AreNumbered m.0 → BitAt m.0 m.1 b → AllZip (BitAt m.0) ps bs → length (folded_lines two.And m ps).0 < greatest_id
      → BitMade m.0 (folded_lines two.And m ps) (b && all_true bs)
  and_folded m b ps bs n at all room =
      named_so m.0 (folded_lines two.And m ps) (fold_words two.And (bit b) (map bit bs)) (b && all_true bs) (and_fold b bs)
      (folded_made row known two.And 1 (omega arith) refl refl m (bit b) ps (map bit bs) n at (words_of m.0 ps bs all) room)

  zip_long : (lines : List Line) (ps : List ℕ) (bs : List Bool) → 1 ≤ length ps → AllZip (BitAt lines) ps bs → (1 ≤ length bs) × (1 ≤ length (map bit bs))
  zip_long lines [] bs h a = absurd (omega (arith, h))
  zip_long lines (p ∷ ps) [] h a = absurd a
  zip_long lines (p ∷ ps) (b ∷ bs) h a = (omega arith, omega arith)

  pub and_chain : (lines : List Line) (ps : List ℕ) (bs : List Bool) → 1 ≤ length ps → AreNumbered lines → AllZip (BitAt lines) ps bs → length (chain_lines two.And lines ps).0 < greatest_id
      → BitMade lines (chain_lines two.And lines ps) (all_true bs)
  and_chain lines ps bs h n all room =
      let l = zip_long lines ps bs h all in
      named_so lines (chain_lines two.And lines ps) (fold_all two.And (map bit bs)) (all_true bs) (and_all bs l.0)
      (chain_made row known two.And 1 (omega arith) refl refl lines ps (map bit bs) n l.1 (words_of lines ps bs all) room)

  pub or_chain : (lines : List Line) (ps : List ℕ) (bs : List Bool) → 1 ≤ length ps → AreNumbered lines → AllZip (BitAt lines) ps bs → length (chain_lines two.Or lines ps).0 < greatest_id
      → BitMade lines (chain_lines two.Or lines ps) (some_true bs)
  or_chain lines ps bs h n all room =
      let l = zip_long lines ps bs h all in
      named_so lines (chain_lines two.Or lines ps) (fold_all two.Or (map bit bs)) (some_true bs) (or_all bs l.0)
      (chain_made row known two.Or 1 (omega arith) refl refl lines ps (map bit bs) n l.1 (words_of lines ps bs all) room)
