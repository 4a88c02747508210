use Rattle.std.proofs.Common.{◌≡◌, ℕ, List, Option, Result, sym, subst}
use Rattle.command_core.specs.Sinks.{Puts}
use Rattle.explain_core.specs.declared.notes.Note.{Note}
use Rattle.explain_core.specs.declared.notes.Note.TheVariants.{NoMemory, Unread, Usage, WriteFault}
use Rattle.explain_core.specs.Explaining.{File, file_of, note_text}
use Rattle.explain_core.proofs.session.put_note.Goals as goal

note_puts : {T E : Type 0} (r : Result T E) (before now : Option (List ℕ)) (c d : ℕ) (note other : Note) (line : List ℕ) (model second : File) → note ≡ other
    → Puts before now c d (note_text other line model second) r → Puts before now c d (note_text note line model second) r
note_puts r before now c d note other line model second is put = subst (λ (n : Note). Puts before now c d (note_text n line model second) r) (sym is) put

pub returns-in-Usage : goal.returns-in-Usage
returns-in-Usage g c =
    note_puts c.put_usage.result _ _ _ _ c.args.note Usage c.args.line.now (file_of c.args.model.now) (file_of c.args.second.now) c.in-Usage.is c.put_usage.ensures

pub returns-in-Unread : goal.returns-in-Unread
returns-in-Unread g c =
    note_puts c.put_advice-in-Unread.result _ _ _ _ c.args.note Unread c.args.line.now (file_of c.args.model.now) (file_of c.args.second.now) c.in-Unread.is
    c.put_advice-in-Unread.ensures

pub returns-in-WriteFault : goal.returns-in-WriteFault
returns-in-WriteFault g c =
    note_puts c.put_advice-in-WriteFault.result _ _ _ _ c.args.note WriteFault c.args.line.now (file_of c.args.model.now) (file_of c.args.second.now) c.in-WriteFault.is
    c.put_advice-in-WriteFault.ensures

pub returns-in-NoMemory : goal.returns-in-NoMemory
returns-in-NoMemory g c =
    note_puts c.put_advice-in-NoMemory.result _ _ _ _ c.args.note NoMemory c.args.line.now (file_of c.args.model.now) (file_of c.args.second.now) c.in-NoMemory.is
    c.put_advice-in-NoMemory.ensures
