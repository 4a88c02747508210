-- How atoms are spelled (SMT-LIB 2.6, section 3.1); the prime directly behind a symbol is MoXI's (SPIN 2024).
use Rattle.std.specs.Prelude.{◌==◌, ℕ, Bool, true, false, not, ◌&&◌, ◌||◌, if◌then◌else◌, List, [], ◌∷◌, ◌++◌}
use Rattle.std.specs.List.{list_all}
use Rattle.moxi_sexpr.specs.declared.form.Atom.{Atom}
use Rattle.moxi_sexpr.specs.declared.form.Atom.TheVariants as atom
use Rattle.moxi_sexpr.specs.declared.scan.Spelling.{Spelling}
use Rattle.moxi_sexpr.specs.declared.scan.Spelling.TheVariants as how
use Rattle.text_core.specs.Bytes.{is_digit}
use Rattle.moxi_sexpr.specs.Bytes.{is_symbol_byte, is_binary_digit, is_hex_digit, is_barred_byte}

-- a byte of a simple symbol stands first, and no digit
abbrev pub starts_simple : List ℕ → Bool
starts_simple [] = false
starts_simple (b ∷ bs) = is_symbol_byte b && not (is_digit b)

abbrev pub is_simple : List ℕ → Bool
is_simple name = starts_simple name && list_all is_symbol_byte name

-- one or more bytes that pass
abbrev pub is_run : (ℕ → Bool) → List ℕ → Bool
is_run p [] = false
is_run p (b ∷ bs) = p b && list_all p bs

-- each quote twice
abbrev pub doubled : List ℕ → List ℕ
doubled [] = []
doubled (b ∷ bs) = if b == 34 then 34 ∷ (34 ∷ doubled bs) else b ∷ doubled bs

abbrev pub prime : Bool → List ℕ
prime true = 39 ∷ []
prime false = []

-- the name may appear in this spelling
abbrev pub may_appear : Spelling → List ℕ → Bool
may_appear (how.Bare primed) name = is_simple name
may_appear (how.Barred primed) name = list_all is_barred_byte name
may_appear how.Keyword name = is_simple name
may_appear how.Numeral name = is_run is_digit name
may_appear how.Binary name = is_run is_binary_digit name
may_appear how.Hex name = is_run is_hex_digit name
may_appear how.Quote name = true

-- the bytes that spell the name
abbrev pub spelled : Spelling → List ℕ → List ℕ
spelled (how.Bare primed) name = name ++ prime primed
spelled (how.Barred primed) name = 124 ∷ (name ++ 124 ∷ prime primed)
spelled how.Keyword name = 58 ∷ name
spelled how.Numeral name = name
spelled how.Binary name = 35 ∷ (98 ∷ name)
spelled how.Hex name = 35 ∷ (120 ∷ name)
spelled how.Quote name = 34 ∷ (doubled name ++ 34 ∷ [])

-- a byte that, standing next, would belong to the same atom
abbrev pub goes_on : Spelling → ℕ → Bool
goes_on (how.Bare primed) b = not primed && (is_symbol_byte b || (b == 39))
goes_on (how.Barred primed) b = not primed && (b == 39)
goes_on how.Keyword b = is_symbol_byte b
goes_on how.Numeral b = is_digit b
goes_on how.Binary b = is_binary_digit b
goes_on how.Hex b = is_hex_digit b
goes_on how.Quote b = b == 34

-- the atom that the name is in this spelling
abbrev pub atom_of : Spelling → List ℕ → Atom
atom_of (how.Bare primed) name = atom.Symbol name primed
atom_of (how.Barred primed) name = atom.Symbol name primed
atom_of how.Keyword name = atom.Keyword name
atom_of how.Numeral name = atom.Numeral name
atom_of how.Binary name = atom.Binary name
atom_of how.Hex name = atom.Hex name
atom_of how.Quote name = atom.Quote name
