-- The sort that a form spells (SMT-LIB 2.6, section 3.5), or the failing test with the least place.
use Rattle.std.specs.Prelude.{ℕ, nat_le, Bool, true, false, ◌&&◌, ◌||◌, if◌then◌else◌, Option, None, Some, is_some, option_and_then, Result, Ok, Err, List, codes}
use Rattle.std.specs.Str.{bytes_eq}
use Rattle.text_core.specs.declared.place.Place.{Place}
use Rattle.text_core.specs.declared.place.Refusal.{Refusal}
use Rattle.word_core.specs.Words.{BitVector}
use Rattle.word_core.specs.Digits.{read_word}
use Rattle.word_core.specs.declared.word.TheConstants.{WIDEST}
use Rattle.moxi_sexpr.specs.Lexing.{refusal}
use Rattle.moxi_sexpr.specs.Tree as form
use Rattle.moxi_terms.specs.declared.data.Sort.{Sort}
use Rattle.moxi_terms.specs.declared.data.Sort.TheVariants.{Bits}
use Rattle.moxi_terms.specs.View.{ScopeState}
use Rattle.moxi_terms.specs.Words.{is_one_of, left_out_sorts}
use Rattle.moxi_terms.specs.Names.{sort_named}
use Rattle.moxi_term_reading.specs.Forms.{place_in, symbol_atom, symbol_of, numeral_of, only_of}

-- the number that a numeral spells, or the greatest of 32 bits where it is greater: no width and no index is as great
abbrev pub number_or_most : Option BitVector → ℕ
number_or_most (Some w) = w.bits
number_or_most None = 4294967295

abbrev pub index_of : List ℕ → ℕ
index_of digits = number_or_most (read_word 32 10 digits)

abbrev pub is_width : ℕ → Bool
is_width w = nat_le 1 w && nat_le w WIDEST

-- a name that stands for nothing at q, in a form at p: one of those that are left out, or unknown
abbrev pub unknown : Bool → Place → Place → Refusal
unknown true p q = refusal 6 p
unknown false p q = refusal 4 q

-- a symbol in a sort's place
abbrev pub symbol_sort : Option Sort → List ℕ → Bool → Place → Result Sort Refusal
symbol_sort (Some s) name primed p = if primed then Err (refusal 7 p) else Ok s
symbol_sort None name primed p = Err (unknown (is_one_of left_out_sorts name) p p)

-- the sort of bit vectors of a width, spelled at p with `_` at q and `BitVec` at r
abbrev pub width_sort : ℕ → Place → Place → Bool → Place → Bool → Result Sort Refusal
width_sort w p q first r second =
    if is_width w then (if first then Err (refusal 7 q) else (if second then Err (refusal 7 r) else Ok (Bits w))) else Err (refusal 8 p)

-- what is behind `BitVec`
abbrev pub vector_sort : Place → Place → Bool → Place → Bool → Option (List ℕ) → Result Sort Refusal
vector_sort p q first r second None = Err (refusal 12 p)
vector_sort p q first r second (Some digits) = width_sort (index_of digits) p q first r second

-- the digits of the only form, where it is a numeral
abbrev pub only_numeral : form.Trees → Option (List ℕ)
only_numeral ts = option_and_then numeral_of (only_of ts)

-- a name at r that stands for nothing, behind the `_` at q of a sort at p, which may be primed
abbrev pub unknown_indexed : Bool → Place → Place → Bool → Place → Refusal
unknown_indexed true p q first r = refusal 6 p
unknown_indexed false p q first r = if first then refusal 7 q else refusal 4 r

-- behind the `_` at q of a sort at p, the symbol at r, and what is behind it; a sort without indices takes none
abbrev pub symbol_indexed : ScopeState → Place → Place → Bool → Place → Option (List ℕ × Bool) → form.Trees → Result Sort Refusal
symbol_indexed s p q first r None ts = Err (refusal 12 p)
symbol_indexed s p q first r (Some x) ts =
    if bytes_eq x.0 (codes "BitVec") then vector_sort p q first r x.1 (only_numeral ts)
    else (if is_some (sort_named s x.0) then Err (refusal 12 p) else Err (unknown_indexed (is_one_of left_out_sorts x.0) p q first r))

-- what is behind the `_` at q of a sort at p
abbrev pub indexed_sort : ScopeState → Place → Place → Bool → form.Trees → Result Sort Refusal
indexed_sort s p q first form.no_trees = Err (refusal 12 p)
indexed_sort s p q first (form.tree t ts) = symbol_indexed s p q first (place_in t) (symbol_of t) ts

-- a list at p in a sort's place, that has this symbol at its head at q; a sort without indices is in no list
abbrev pub listed_sort : ScopeState → Place → Place → Option (List ℕ × Bool) → form.Trees → Result Sort Refusal
listed_sort s p q None ts = Err (refusal 12 p)
listed_sort s p q (Some x) ts =
    if bytes_eq x.0 (codes "_") then indexed_sort s p q x.1 ts
    else (if bytes_eq x.0 (codes "BitVec") || is_some (sort_named s x.0) then Err (refusal 12 p) else Err (unknown (is_one_of left_out_sorts x.0) p q))

-- an atom in a sort's place
abbrev pub atom_sort : ScopeState → Place → Place → Option (List ℕ × Bool) → Result Sort Refusal
atom_sort s around p None = Err (refusal 12 around)
atom_sort s around p (Some x) = symbol_sort (sort_named s x.0) x.0 x.1 p

-- The sort that a form spells, or the failing test with the least place; the form is in a list at `around`.
abbrev pub sort_reading : ScopeState → Place → form.Tree → Result Sort Refusal
sort_reading s around (form.atom p a) = atom_sort s around p (symbol_atom a)
sort_reading s around (form.list p form.no_trees) = Err (refusal 12 p)
sort_reading s around (form.list p (form.tree t ts)) = listed_sort s p (place_in t) (symbol_of t) ts
