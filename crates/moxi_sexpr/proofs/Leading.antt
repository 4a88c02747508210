-- What a loop over tokens keeps: whatever stands from here on makes it of the whole text.
use Rattle.std.proofs.Common.{◌≡◌, ◌<◌, ℕ, true, false, eqb, Option, Some, None, Result, Ok, Err, List, [], ◌∷◌, ◌++◌, length, take, drop, map, refl, sym, ap, ◌∙◌, subst, arith, Vec, Global}
use Rattle.std.specs.Prelude.{IfOk, IfErr, IsTrue}
use Rattle.std.proofs.lemmas.List.{length-reverse, length-map, length-append, take-append-drop}
use Rattle.std.proofs.lemmas.Bool.{cond_both, cond-true, cond-false, ne_eqb}
use Rattle.text_core.specs.declared.end.End.{End}
use Rattle.text_core.specs.declared.end.End.TheVariants.{Bad, NoMemory}
use Rattle.text_core.specs.declared.place.Place.{Place}
use Rattle.text_core.specs.declared.place.Refusal.{Refusal}
use Rattle.moxi_sexpr.specs.declared.form.Form.{Form}
use Rattle.moxi_sexpr.specs.declared.scan.Spelling.{Spelling}
use Rattle.moxi_sexpr.specs.declared.scan.Spelling.TheVariants as how
use Rattle.moxi_sexpr.specs.declared.read.TokenKind.{TokenKind}
use Rattle.moxi_sexpr.specs.declared.read.Opened.{Opened}
use Rattle.moxi_sexpr.specs.Bytes.{is_blank, is_comment_byte}
use Rattle.moxi_sexpr.specs.Atoms.{may_appear, spelled}
use Rattle.moxi_sexpr.specs.Tree.{Tree, Trees, trees_of, plain}
use Rattle.moxi_sexpr.specs.Lexing.{Token, token, Mark, Next, finished, go, bad, refusal, past, Steps, blank, comment, Lexes, last, more, Refuses, here, later, begin}
use Rattle.moxi_sexpr.specs.Grammar.{SpellsAll, SpellsForms, RefusesWith}
use Rattle.moxi_sexpr.specs.Reading.{run_length, Scan, scan_of, value_of, token_from, token_of, nested, front, turned, behind, stands}
use Rattle.moxi_sexpr.specs.Machine.{Frame, Move, stop, onward, stops, goes_to, with_rest, turn_of, shift, step, run, plain_open, open_lists}
use Rattle.moxi_sexpr.specs.Answer.{IsBehind, Turns, Reads, IsAnswered, IsRefused}
use Rattle.text_core.specs.Places.{start, after}
use Rattle.moxi_sexpr.proofs.Runs.{front_is, run_passes, run_stops}
use Rattle.moxi_sexpr.proofs.Scanning.{Found, scan_found}
use Rattle.moxi_sexpr.proofs.Laws.{stands_token, steps_at, steps_end, one_list, no_list, one_refusal}
use Rattle.moxi_sexpr.proofs.Forming.{goes, sound, one_forms, step_goes, step_stops}

pub record Leads (text : List ℕ) (m : Mark) (rest : List ℕ) (k : List Frame) (done : List Tree) : Type 0 where
  pub spells : (ts : List Token) (fs : List Tree) → Lexes m rest ts → run ts k done ≡ Some fs → SpellsForms text (trees_of fs)
  pub refuses : (why : Refusal) → Refuses m rest why → RefusesWith text why

pub leads_start : (text : List ℕ) → Leads text begin text [] []
leads_start text = record { spells = λ ts fs lexed formed. record { tokens = ts; lexed = lexed; formed = sound ts fs formed }; refuses = λ why h. h }

pub ended_none : (k : List Frame) (done : List Tree) → length k ≡ 0 → run [] k done ≡ Some done
unfolding run
ended_none [] done h = refl
ended_none (f ∷ k) done h = absurd (omega arith)

pub leads_done : (text : List ℕ) (m : Mark) (rest : List ℕ) (k : List Frame) (done : List Tree) → Leads text m rest k done → length k ≡ 0 → Steps m rest finished → SpellsForms text (trees_of done)
leads_done text m rest k done l none s = l.spells [] done (last s) (ended_none k done none)

pub leads_bad : (text : List ℕ) (m : Mark) (rest : List ℕ) (k : List Frame) (done : List Tree) (why : Refusal) → Leads text m rest k done → Steps m rest (bad why) → RefusesWith text why
leads_bad text m rest k done why l s = l.refuses why (here why s)

pub leads_on : (text : List ℕ) (m next : Mark) (rest behind : List ℕ) (k j : List Frame) (done more_done : List Tree) (t : Token)
    → Leads text m rest k done → Steps m rest (go t next behind) → shift t.kind t.place k done ≡ onward j more_done → Leads text next behind j more_done
leads_on text m next rest behind k j done more_done t l s e = record {
  spells = λ ts fs lexed formed. l.spells (t ∷ ts) fs (more t next behind s lexed) (goes t ts k j done more_done e ∙ formed);
  refuses = λ why h. l.refuses why (later t next behind s h);
}

-- what goes on behind blanks and comments goes on before them
lexes_by : {m next : Mark} {text rest : List ℕ} {ts : List Token} → ((x : Next) → Steps next rest x → Steps m text x) → Lexes next rest ts → Lexes m text ts
lexes_by f (last s) = last (f finished s)
lexes_by f (more t next rest s h) = more t next rest (f (go t next rest) s) h

refuses_by : {m next : Mark} {text rest : List ℕ} {why : Refusal} → ((x : Next) → Steps next rest x → Steps m text x) → Refuses next rest why → Refuses m text why
refuses_by f (here why s) = here why (f (bad why) s)
refuses_by f (later t next rest s h) = later t next rest (f (go t next rest) s) h

leads_by : (text : List ℕ) (m next : Mark) (rest behind : List ℕ) (k : List Frame) (done : List Tree)
    → Leads text m rest k done → ((x : Next) → Steps next behind x → Steps m rest x) → Leads text next behind k done
leads_by text m next rest behind k done l f = record {
  spells = λ ts fs lexed formed. l.spells ts fs (lexes_by f lexed) formed;
  refuses = λ why h. l.refuses why (refuses_by f h);
}

blank_steps : (m : Mark) (rest ahead : List ℕ) (b : ℕ) (q : Place) → rest ≡ b ∷ ahead → is_blank b ≡ true → q ≡ after m.place (b ∷ []) → (x : Next) → Steps (record { place = q; depth = m.depth }) ahead x → Steps m rest x
blank_steps m rest ahead b q is e same x s =
    let P : Place → Type 0 = λ p. Steps (record { place = p; depth = m.depth }) ahead x in
    subst (λ (t : List ℕ). Steps m t x) (sym is) (blank b e (subst P same s))

comment_steps : (m : Mark) (rest ahead : List ℕ) (q : Place) → rest ≡ 59 ∷ ahead → q ≡ after m.place (59 ∷ take (run_length is_comment_byte ahead) ahead)
    → (x : Next) → Steps (record { place = q; depth = m.depth }) (drop (run_length is_comment_byte ahead) ahead) x → Steps m rest x
comment_steps m rest ahead q is same x s =
    let n = run_length is_comment_byte ahead in
    let P : Place → Type 0 = λ p. Steps (record { place = p; depth = m.depth }) (drop n ahead) x in
    let through : Steps m (59 ∷ (take n ahead ++ drop n ahead)) x = comment (take n ahead) (run_passes is_comment_byte ahead) (run_stops is_comment_byte ahead) (subst P same s) in
    subst (λ (t : List ℕ). Steps m t x) (sym is) (subst (λ (t : List ℕ). Steps m (59 ∷ t) x) (take-append-drop n ahead) through)

-- one token, by what the code's step says
pub stands_go : (m : Mark) (text : List ℕ) (i : TokenKind) (rest : List ℕ) (k j : List Frame) (done more_done : List Tree)
    → token_of text ≡ Some (i, rest) → m.depth ≡ length k → step i m.place k done ≡ onward j more_done → stands m text ≡ go (token m.place i) (past m (front text rest) (length j)) rest
stands_go m text i rest k j done more_done e d s =
    stands_token m text (i, rest) e ∙ ap (turned m i (front text rest) rest) (ap (nested i) d ∙ (step_goes i m.place k j done more_done s).1)

pub stands_stop : (m : Mark) (text : List ℕ) (i : TokenKind) (rest : List ℕ) (k : List Frame) (done : List Tree) (why : Refusal)
    → token_of text ≡ Some (i, rest) → m.depth ≡ length k → step i m.place k done ≡ stop why → stands m text ≡ bad why
stands_stop m text i rest k done why e d s =
    let p = step_stops i m.place k done why s in
    stands_token m text (i, rest) e ∙ ap (turned m i (front text rest) rest) (ap (nested i) d ∙ p.1) ∙ ap bad (sym p.2)

pub stands_none : (m : Mark) (text : List ℕ) → 0 < length text → token_of text ≡ None → stands m text ≡ bad (refusal 1 m.place)
stands_none m [] h e = absurd (omega arith)
stands_none m (b ∷ bs) h e = ap (behind m (b ∷ bs)) e

pub lists_long : (os : List Opened) → length (open_lists os) ≡ length os
lists_long os = length-reverse (map plain_open os) ∙ length-map os plain_open

-- something is before what is behind a token
pub some_name : (h : Spelling) (name : List ℕ) → IsTrue (may_appear h name) → 0 < length (spelled h name)
some_name (how.Bare primed) [] e = absurd (let f : false ≡ true = e in cc)
some_name (how.Bare primed) (b ∷ bs) e = omega arith
some_name (how.Barred primed) name e = omega arith
some_name how.Keyword name e = omega arith
some_name how.Numeral [] e = absurd (let f : false ≡ true = e in cc)
some_name how.Numeral (b ∷ bs) e = omega arith
some_name how.Binary name e = omega arith
some_name how.Hex name e = omega arith
some_name how.Quote name e = omega arith

abbrev BehindBy : List ℕ → Option (TokenKind × List ℕ) → Type 0
BehindBy text None = Unit {0}
BehindBy text (Some x) = IsBehind text x.1

behind_scan : (text : List ℕ) (o : Scan) → Found text o → BehindBy text (token_from o)
behind_scan text None f = tt
behind_scan text (Some x) f = let name = value_of x.0 x.1 in record { bytes = spelled x.0 name; is = f.is; some = some_name x.0 name f.may }

behind_token : (text : List ℕ) → BehindBy text (token_of text)
behind_token [] = tt
behind_token (b ∷ bs) =
    cond_both (eqb b 40) _ _ (BehindBy (b ∷ bs)) (λ _. record { bytes = b ∷ []; is = refl; some = omega arith }) (λ _.
    cond_both (eqb b 41) _ _ (BehindBy (b ∷ bs)) (λ _. record { bytes = b ∷ []; is = refl; some = omega arith }) (λ _. behind_scan (b ∷ bs) (scan_of (b ∷ bs)) (scan_found (b ∷ bs))))

pub token_behind : (text : List ℕ) (x : TokenKind × List ℕ) → token_of text ≡ Some x → IsBehind text x.1
token_behind text x e = subst (BehindBy text) e (behind_token text)

splits : (text rest bytes : List ℕ) → text ≡ bytes ++ rest → text ≡ front text rest ++ rest
splits text rest bytes e = e ∙ ap (λ x. x ++ rest) (sym (front_is bytes rest) ∙ ap (λ x. front x rest) (sym e))

pub token_splits : (text rest : List ℕ) (i : TokenKind) → token_of text ≡ Some (i, rest) → text ≡ front text rest ++ rest
token_splits text rest i e = let b = token_behind text (i, rest) e in splits text rest b.bytes b.is

pub token_shorter : (text rest : List ℕ) (i : TokenKind) → token_of text ≡ Some (i, rest) → length rest < length text
token_shorter text rest i e = let b = token_behind text (i, rest) e in let some = b.some in let n : length text ≡ length (b.bytes ++ rest) = ap length b.is in omega (arith, n, some, length-append b.bytes rest)

pub leads_new : (text : List ℕ) (os : List Opened) (fs : List Form) → os ≡ [] → fs ≡ [] → Leads text (record { place = start; depth = length (open_lists os) }) text (open_lists os) (map plain fs)
leads_new text [] [] e f = leads_start text
leads_new text [] (x ∷ fs) e f = absurd (cc)
leads_new text (o ∷ os) fs e f = absurd (cc)

stands_finished : (m : Mark) (text : List ℕ) → text ≡ [] → m.depth ≡ 0 → stands m text ≡ finished
stands_finished m [] e d = let t : eqb m.depth 0 ≡ true = ap (λ n. eqb n 0) d in cond-true _ _ _ t
stands_finished m (b ∷ bs) e d = absurd (cc)

stands_unclosed : (m : Mark) (text : List ℕ) → text ≡ [] → 0 < m.depth → stands m text ≡ bad (refusal 2 m.place)
stands_unclosed m [] e d = cond-false _ _ _ (ne_eqb m.depth 0 (λ z. omega arith))
stands_unclosed m (b ∷ bs) e d = absurd (cc)

-- a token and a move behind it
pub record Went (o : Option (TokenKind × List ℕ)) (place : Place) (k : List Frame) (done : List Tree) (rest : List ℕ) (j : List Frame) (more_done : List Tree) : Type 0 where
  pub kind : TokenKind
  pub is : o ≡ Some (kind, rest)
  pub move : step kind place k done ≡ onward j more_done

went_by : (x : TokenKind × List ℕ) (move : Move) (place : Place) (k : List Frame) (done : List Tree) (rest : List ℕ) (j : List Frame) (more_done : List Tree)
    → step x.0 place k done ≡ move → with_rest x.1 move ≡ goes_to rest j more_done → Went (Some x) place k done rest j more_done
went_by x (stop why) place k done rest j more_done e f = absurd (cc)
went_by x (onward l d) place k done rest j more_done e f =
    let same : x.1 ≡ rest = cc in
    let lists : l ≡ j = cc in
    let forms : d ≡ more_done = cc in
    record { kind = x.0; is = ap (λ r. Some (x.0, r)) same; move = cc }

pub went : (o : Option (TokenKind × List ℕ)) (place : Place) (k : List Frame) (done : List Tree) (rest : List ℕ) (j : List Frame) (more_done : List Tree)
    → turn_of place o k done ≡ goes_to rest j more_done → Went o place k done rest j more_done
went None place k done rest j more_done e = absurd (cc)
went (Some x) place k done rest j more_done e = went_by x (step x.0 place k done) place k done rest j more_done refl e

stopped : (rest : List ℕ) (move : Move) (why : Refusal) → with_rest rest move ≡ stops why → move ≡ stop why
stopped rest (stop x) why e = cc
stopped rest (onward k done) why e = absurd (cc)

stands_halt : (m : Mark) (text : List ℕ) (k : List Frame) (done : List Tree) (why : Refusal) (o : Option (TokenKind × List ℕ))
    → 0 < length text → m.depth ≡ length k → token_of text ≡ o → turn_of m.place o k done ≡ stops why → stands m text ≡ bad why
stands_halt m text k done why None some d e h = let same : refusal 1 m.place ≡ why = cc in stands_none m text some e ∙ ap bad same
stands_halt m text k done why (Some x) some d e h = stands_stop m text x.0 x.1 k done why e d (stopped x.1 (step x.0 m.place k done) why h)

-- one round of the loop, by what its calls answer
module _ (text : List ℕ) (m : Mark) (rest : List ℕ) (k : List Frame) (done : List Tree) (l : Leads text m rest k done) (d : m.depth ≡ length k) where
  pub end_done : rest ≡ [] → length k ≡ 0 → SpellsForms text (trees_of done)
  end_done none closed = leads_done text m rest k done l closed (steps_end m rest finished none (stands_finished m rest none (d ∙ closed)))

  pub end_open : rest ≡ [] → 0 < length k → (why : Refusal) → why ≡ refusal 2 m.place → RefusesWith text why
  end_open none some why is = leads_bad text m rest k done why l (steps_end m rest (bad why) none (stands_unclosed m rest none (let h = d in omega arith) ∙ ap bad (sym is)))

  pub blank_leads : (b : ℕ) (ahead : List ℕ) (q : Place) → rest ≡ b ∷ ahead → is_blank b ≡ true → q ≡ after m.place (b ∷ []) → Leads text (record { place = q; depth = m.depth }) ahead k done
  blank_leads b ahead q is e same = leads_by text m (record { place = q; depth = m.depth }) rest ahead k done l (blank_steps m rest ahead b q is e same)

  pub comment_leads : (ahead : List ℕ) (q : Place) → rest ≡ 59 ∷ ahead → q ≡ after m.place (59 ∷ take (run_length is_comment_byte ahead) ahead)
      → Leads text (record { place = q; depth = m.depth }) (drop (run_length is_comment_byte ahead) ahead) k done
  comment_leads ahead q is same = leads_by text m (record { place = q; depth = m.depth }) rest (drop (run_length is_comment_byte ahead) ahead) k done l (comment_steps m rest ahead q is same)

  module _ (b : ℕ) (ahead : List ℕ) (is : rest ≡ b ∷ ahead) (e : is_blank b ≡ false) (f : eqb b 59 ≡ false) where
    pub token_refused : (x : End) (j : List Frame) (more_done : List Tree) → Turns (turn_of m.place (token_of rest) k done) (Err x) j more_done → IsRefused text x
    token_refused (Bad why) j more_done t =
        let some : 0 < length rest = (let n : length rest ≡ length (b ∷ ahead) = ap length is in omega arith) in
        leads_bad text m rest k done why l (steps_at m rest b ahead (bad why) is e f (stands_halt m rest k done why (token_of rest) some d refl t))
    token_refused NoMemory j more_done t = tt

    pub token_leads : (behind : List ℕ) (j : List Frame) (more_done : List Tree) (q : Place) → Went (token_of rest) m.place k done behind j more_done → q ≡ after m.place (front rest behind)
        → Leads text (record { place = q; depth = length j }) behind j more_done
    token_leads behind j more_done q w same =
        let s = steps_at m rest b ahead (go (token m.place w.kind) (past m (front rest behind) (length j)) behind) is e f (stands_go m rest w.kind behind k j done more_done w.is d w.move) in
        let next : past m (front rest behind) (length j) ≡ record { place = q; depth = length j } = ap (λ (p : Place). record { place = p; depth = length j }) (sym same) in
        leads_on text m (record { place = q; depth = length j }) rest behind k j done more_done (token m.place w.kind) l (subst (λ (y : Mark). Steps m rest (go (token m.place w.kind) y behind)) next s)
        (step_goes w.kind m.place k j done more_done w.move).0

pub refused_err : {Y : Type 0} (text : List ℕ) (r : Result Y End) (x y : End) → r ≡ Err x → x ≡ y → IsRefused text y → IfErr r (IsRefused text)
refused_err text r x y is same h = subst (λ r. IfErr r (IsRefused text)) (sym (is ∙ ap Err same)) h

-- the laws
pub one_reading : (text : List ℕ) (ts us : Trees) → SpellsForms text ts → SpellsForms text us → ts ≡ us
one_reading text ts us a b =
    let same : b.tokens ≡ a.tokens = one_list b.lexed a.lexed refl refl in
    one_forms ts us a.tokens a.formed (subst (SpellsAll us) same b.formed)

pub no_reading : (text : List ℕ) (ts : Trees) (why : Refusal) → SpellsForms text ts → RefusesWith text why → ⊥
no_reading text ts why a b = no_list a.lexed b refl refl

pub one_end : (text : List ℕ) (why why' : Refusal) → RefusesWith text why → RefusesWith text why' → why ≡ why'
one_end text why why' a b = one_refusal a b refl refl

-- the answers, from the two that the loop gives
abbrev Spelled : List ℕ → Result (Vec Form Global) End → Type 0
Spelled text r = IfOk r (λ v. SpellsForms text (trees_of (map plain v.items)))

pub read_from : (text : List ℕ) (r : Result (Vec Form Global) End) → Spelled text r → IfErr r (IsRefused text) → (ts : Trees) → SpellsForms text ts → Reads ts r
read_from text (Ok v) a b ts h = one_reading text _ ts a h
read_from text (Err (Bad why)) a b ts h = no_reading text ts why h b
read_from text (Err NoMemory) a b ts h = tt

pub answered_from : (text : List ℕ) (r : Result (Vec Form Global) End) → Spelled text r → IfErr r (IsRefused text) → (why : Refusal) → RefusesWith text why → IsAnswered why r
answered_from text (Ok v) a b why h = no_reading text _ why a h
answered_from text (Err (Bad x)) a b why h = one_end text x why b h
answered_from text (Err NoMemory) a b why h = tt
