-- What a text spells is one, and so is its first fault.
use Rattle.std.proofs.Common.{◌≡◌, ◌≢◌, ℕ, ◌+◌, List, [], ◌∷◌, ◌++◌, Option, Some, None, Result, Ok, Err, refl, sym, ap, ◌∙◌, subst}
use Rattle.btor_tree.specs.declared.lines.Line.{Line}
use Rattle.btor_tree.specs.Parts.{Parts}
use Rattle.btor_tree.specs.Shapes.{Shape, Spells}
use Rattle.btor_tree.specs.Reading.{shape_of, resolved, shaped_next, next_of}
use Rattle.btor_tree.specs.Resolving.{Fault, resolve}
use Rattle.btor_tree.specs.Texts.{Next, nothing, good, faulty, IsNext, blank, spelled, shapeless, broken, Reads, ends, passed, line, Refuses, here, past_blank, past_line}
use Rattle.btor_tree.proofs.ShapeLaws.{shape_reads, shape_from}

pub one_shape : (ps : Parts) (sh other : Shape) → Spells sh ps → Spells other ps → sh ≡ other
one_shape ps sh other a b = let p = shape_reads sh ps a in let q = shape_reads other ps b in cc

not_empty : (sh : Shape) → Spells sh [] → ⊥
not_empty sh h = let f = h.splits in cc

pub one_next : {before other : List Line} {ps : Parts} {x y : Next} → IsNext before ps x → IsNext other ps y → before ≡ other → x ≡ y
one_next blank blank e = refl
one_next blank (spelled sh h r) e = absurd (not_empty sh h)
one_next blank (shapeless some none) e = absurd (some refl)
one_next blank (broken sh h r) e = absurd (not_empty sh h)
one_next (spelled sh h r) blank e = absurd (not_empty sh h)
one_next {ps = ps} (spelled sh h r) (spelled other k q) e = let f = one_shape ps sh other h k in cc
one_next (spelled sh h r) (shapeless some none) e = absurd (none sh h)
one_next {ps = ps} (spelled sh h r) (broken other k q) e = let f = one_shape ps sh other h k in cc
one_next (shapeless some none) blank e = absurd (some refl)
one_next (shapeless some none) (spelled sh h r) e = absurd (none sh h)
one_next (shapeless some none) (shapeless more never) e = refl
one_next (shapeless some none) (broken sh h r) e = absurd (none sh h)
one_next (broken sh h r) blank e = absurd (not_empty sh h)
one_next {ps = ps} (broken sh h r) (spelled other k q) e = let f = one_shape ps sh other h k in cc
one_next (broken sh h r) (shapeless some none) e = absurd (none sh h)
one_next {ps = ps} (broken sh h r) (broken other k q) e = let f = one_shape ps sh other h k in cc

blank_at : (before : List Line) (ps : Parts) → ps ≡ [] → IsNext before ps nothing
blank_at before ps e = subst (λ x. IsNext before x nothing) (sym e) blank

-- what is nothing has no parts, and what is a line has a shape
pub nothing_is : {before : List Line} {ps : Parts} {x : Next} → IsNext before ps x → x ≡ nothing → ps ≡ []
nothing_is blank e = refl
nothing_is (spelled sh h r) e = absurd (cc)
nothing_is (shapeless some none) e = absurd (cc)
nothing_is (broken sh h r) e = absurd (cc)

pub good_is : {before : List Line} {ps : Parts} {x : Next} (l : Line) → IsNext before ps x → x ≡ good l → (sh : Shape) × Spells sh ps × (resolve before sh ≡ Ok l)
good_is l (spelled {l = m} sh h r) e =
    let same : m ≡ l = cc in
    (sh, h, r ∙ ap Ok same)
good_is l blank e = absurd (cc)
good_is l (shapeless some none) e = absurd (cc)
good_is l (broken sh h r) e = absurd (cc)

same_line : {k l : Line} → good k ≡ good l → k ≡ l
same_line e = cc

-- a text spells one list of lines
pub one_list : {before other : List Line} {raws : Parts} {all more : List Line} → Reads before raws all → Reads other raws more → before ≡ other → all ≡ more
one_list ends ends e = e
one_list (passed a h) (passed b k) e = one_list h k e
one_list {before = before} (passed a h) (line sh l s r k) e = absurd (let f = one_next (blank_at before _ a) (spelled sh s r) e in cc)
one_list {other = other} (line sh l s r h) (passed b k) e = absurd (let f = one_next (spelled sh s r) (blank_at other _ b) e in cc)
one_list {before = before} {other = other} (line sh l s r h) (line other_sh m t q k) e =
    let f : l ≡ m = same_line (one_next (spelled sh s r) (spelled other_sh t q) e) in
    let g : before ++ l ∷ [] ≡ other ++ m ∷ [] = cc in
    one_list h k g

same_fault : {j k : Fault} → faulty j ≡ faulty k → j ≡ k
same_fault e = cc

-- a text with a fault spells no lines
pub no_list : {before other : List Line} {raws : Parts} {all : List Line} {n at : ℕ} {k : Fault} → Reads before raws all → Refuses n other raws k at → before ≡ other → ⊥
no_list ends r e = elim r [ ]
no_list {before = before} (passed a h) (here b) e = let f = one_next (blank_at before _ a) b e in cc
no_list (passed a h) (past_blank b r) e = no_list h r e
no_list {before = before} (passed a h) (past_line l b r) e = let f = one_next (blank_at before _ a) b e in cc
no_list (line sh l s q h) (here b) e = let f = one_next (spelled sh s q) b e in cc
no_list (line sh l s q h) (past_blank b r) e = let f = one_next (spelled sh s q) b e in cc
no_list {before = before} {other = other} (line sh l s q h) (past_line m b r) e =
    let f : l ≡ m = same_line (one_next (spelled sh s q) b e) in
    let g : before ++ l ∷ [] ≡ other ++ m ∷ [] = cc in
    no_list h r g

pub one_fault : {before other : List Line} {raws : Parts} {n m at to : ℕ} {j k : Fault} → Refuses n before raws j at → Refuses m other raws k to → before ≡ other → n ≡ m → (j ≡ k) × (at ≡ to)
one_fault (here a) (here b) e f = (same_fault (one_next a b e), f)
one_fault (here a) (past_blank b r) e f = absurd (let x = one_next a b e in cc)
one_fault (here a) (past_line l b r) e f = absurd (let x = one_next a b e in cc)
one_fault (past_blank a h) (here b) e f = absurd (let x = one_next a b e in cc)
one_fault (past_blank a h) (past_blank b r) e f = one_fault h r e (ap (λ i. i + 1) f)
one_fault (past_blank a h) (past_line l b r) e f = absurd (let x = one_next a b e in cc)
one_fault (past_line l a h) (here b) e f = absurd (let x = one_next a b e in cc)
one_fault (past_line l a h) (past_blank b r) e f = absurd (let x = one_next a b e in cc)
one_fault {before = before} {other = other} (past_line l a h) (past_line k b r) e f =
    let x : l ≡ k = same_line (one_next a b e) in
    let g : before ++ l ∷ [] ≡ other ++ k ∷ [] = cc in
    one_fault h r g (ap (λ i. i + 1) f)

-- each line of a text is something, and the reading function says what
resolved_next : (before : List Line) (ps : Parts) (sh : Shape) (r : Result Line Fault) → Spells sh ps → resolve before sh ≡ r → IsNext before ps (resolved r)
resolved_next before ps sh (Ok l) h e = spelled sh h e
resolved_next before ps sh (Err k) h e = broken sh h e

shaped_there : (before : List Line) (ps : Parts) (o : Option Shape) → ps ≢ [] → shape_of ps ≡ o → IsNext before ps (shaped_next before o)
shaped_there before ps None some e = shapeless some (λ sh h. let f = shape_reads sh ps h in cc)
shaped_there before ps (Some sh) some e = resolved_next before ps sh (resolve before sh) (shape_from sh ps e) refl

pub next_there : (before : List Line) (ps : Parts) → IsNext before ps (next_of before ps)
unfolding next_of
next_there before [] = blank
next_there before (p ∷ ps) = shaped_there before (p ∷ ps) (shape_of (p ∷ ps)) (λ e. cc) refl
