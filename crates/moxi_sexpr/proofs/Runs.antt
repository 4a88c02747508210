-- Runs of bytes that pass.
use Rattle.std.proofs.Common.{◌≡◌, ◌-◌, ℕ, suc, Bool, true, false, cond, eqb, Some, List, [], ◌∷◌, ◌++◌, length, take, drop, refl, sym, ap, ◌∙◌, arith}
use Rattle.std.specs.List.{list_all}
use Rattle.std.proofs.lemmas.List.{take_at, drop_at, length-append}
use Rattle.std.proofs.lemmas.Bool.{ne_eqb, and_parts}
use Rattle.moxi_sexpr.specs.declared.scan.Spelling.{Spelling}
use Rattle.moxi_sexpr.specs.Bytes.{Stops, is_symbol_byte}
use Rattle.moxi_sexpr.specs.Atoms.{is_run, is_simple, starts_simple}
use Rattle.moxi_sexpr.specs.Reading.{run_length, run_of, front}

-- a byte that passes isn't one that fails
pub other_byte : (p : ℕ → Bool) (b c : ℕ) → p b ≡ true → p c ≡ false → eqb b c ≡ false
other_byte p b c e f = ne_eqb b c (λ same. let g : p b ≡ p c = ap p same in cc)

pub run_is : (p : ℕ → Bool) (s rest : List ℕ) → list_all p s ≡ true → Stops p rest → run_length p (s ++ rest) ≡ length s
run_is p [] [] a f = refl
run_is p [] (b ∷ bs) a f = rw f refl
run_is p (b ∷ s) rest a f =
    let both = and_parts (p b) (list_all p s) a in
    let first : p b ≡ true = both.0 in
    rw first (ap suc (run_is p s rest both.1 f))

pub run_take : (p : ℕ → Bool) (s rest : List ℕ) → list_all p s ≡ true → Stops p rest → take (run_length p (s ++ rest)) (s ++ rest) ≡ s
run_take p s rest a f = take_at s rest (run_length p (s ++ rest)) (sym (run_is p s rest a f))

pub run_drop : (p : ℕ → Bool) (s rest : List ℕ) → list_all p s ≡ true → Stops p rest → drop (run_length p (s ++ rest)) (s ++ rest) ≡ rest
run_drop p s rest a f = drop_at s rest (run_length p (s ++ rest)) (sym (run_is p s rest a f))

pub run_all : (p : ℕ → Bool) (s : List ℕ) → is_run p s ≡ true → list_all p s ≡ true
run_all p [] e = refl
run_all p (b ∷ bs) e = e

pub run_some : (p : ℕ → Bool) (s rest : List ℕ) → is_run p s ≡ true → Stops p rest → eqb (run_length p (s ++ rest)) 0 ≡ false
run_some p [] rest e f = absurd (let g : false ≡ true = e in cc)
run_some p (b ∷ bs) rest e f =
    let n : run_length p (b ∷ bs ++ rest) ≡ suc (length bs) = run_is p (b ∷ bs) rest e f in
    ne_eqb _ 0 (λ z. omega arith)

pub run_of_is : (h : Spelling) (p : ℕ → Bool) (s rest : List ℕ) → is_run p s ≡ true → Stops p rest → run_of h p (s ++ rest) ≡ Some (h, s, rest)
run_of_is h p s rest e f =
    let a = run_all p s e in
    let n : eqb (run_length p (s ++ rest)) 0 ≡ false = run_some p s rest e f in
    rw n (ap (λ x. Some (h, x, drop (run_length p (s ++ rest)) (s ++ rest))) (run_take p s rest a f) ∙ ap (λ x. Some (h, s, x)) (run_drop p s rest a f))

-- a simple symbol is a run
pub simple_run : (s : List ℕ) → is_simple s ≡ true → is_run is_symbol_byte s ≡ true
simple_run [] e = absurd (let g : false ≡ true = e in cc)
simple_run (b ∷ bs) e = (and_parts (starts_simple (b ∷ bs)) (list_all is_symbol_byte (b ∷ bs)) e).1

pub simple_all : (s : List ℕ) → is_simple s ≡ true → list_all is_symbol_byte s ≡ true
simple_all s e = (and_parts (starts_simple s) (list_all is_symbol_byte s) e).1

pub simple_starts : (s rest : List ℕ) → is_simple s ≡ true → starts_simple (s ++ rest) ≡ true
simple_starts [] rest e = absurd (let g : false ≡ true = e in cc)
simple_starts (b ∷ bs) rest e = (and_parts (starts_simple (b ∷ bs)) (list_all is_symbol_byte (b ∷ bs)) e).0

-- what the run is, and what is behind it
all_step : (t : Bool) (p : ℕ → Bool) (b : ℕ) (bs : List ℕ) (n : ℕ) → p b ≡ t → list_all p (take n bs) ≡ true → list_all p (take (cond t (suc n) 0) (b ∷ bs)) ≡ true
all_step true p b bs n e ih = rw e ih
all_step false p b bs n e ih = refl

pub run_passes : (p : ℕ → Bool) (text : List ℕ) → list_all p (take (run_length p text) text) ≡ true
run_passes p [] = refl
run_passes p (b ∷ bs) = all_step (p b) p b bs (run_length p bs) refl (run_passes p bs)

stops_step : (t : Bool) (p : ℕ → Bool) (b : ℕ) (bs : List ℕ) (n : ℕ) → p b ≡ t → Stops p (drop n bs) → Stops p (drop (cond t (suc n) 0) (b ∷ bs))
stops_step true p b bs n e ih = ih
stops_step false p b bs n e ih = e

pub run_stops : (p : ℕ → Bool) (text : List ℕ) → Stops p (drop (run_length p text) text)
run_stops p [] = tt
run_stops p (b ∷ bs) = stops_step (p b) p b bs (run_length p bs) refl (run_stops p bs)

run_step : (t : Bool) (p : ℕ → Bool) (b : ℕ) (bs : List ℕ) (n : ℕ) → p b ≡ t → list_all p (take n bs) ≡ true → eqb (cond t (suc n) 0) 0 ≡ false → is_run p (take (cond t (suc n) 0) (b ∷ bs)) ≡ true
run_step true p b bs n e ih f = rw e ih
run_step false p b bs n e ih f = absurd (let g : true ≡ false = f in cc)

pub run_runs : (p : ℕ → Bool) (text : List ℕ) → eqb (run_length p text) 0 ≡ false → is_run p (take (run_length p text) text) ≡ true
run_runs p [] f = absurd (let g : true ≡ false = f in cc)
run_runs p (b ∷ bs) f = run_step (p b) p b bs (run_length p bs) refl (run_passes p bs) f

-- the bytes before a rest
pub front_is : (s rest : List ℕ) → front (s ++ rest) rest ≡ s
front_is s rest = take_at s rest (length (s ++ rest) - length rest) (let e = length-append s rest in omega arith)
