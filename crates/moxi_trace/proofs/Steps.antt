-- A token, a stray byte and the end behind the line that they end.
use Rattle.std.proofs.Common.{◌≡◌, List, ℕ, Result, Ok, Err}
use Rattle.text_core.specs.declared.place.Place.{Place}
use Rattle.text_core.specs.declared.end.End.{End}
use Rattle.moxi_trace.specs.declared.tokens.Shape.{Shape}
use Rattle.moxi_trace.specs.Traces.{Declared}
use Rattle.moxi_trace.specs.Reading.{Reading, on_line, token_step, step, stray, ended, finished}
use Rattle.text_core.specs.Answers.{refused, Leaves}
use Rattle.text_core.proofs.AnswerLaws.{first_refuses, then_leaves}

pub step_leaves : {B : Type 0} (d : Declared) (s : Shape) (bytes : List ℕ) (at : Place) (r q new : Reading) (result : Result B End) → on_line at.line r ≡ Ok q → Leaves (token_step d s bytes at q) new result → Leaves (step d s bytes at r) new result
unfolding step
step_leaves d s bytes at r q new result e h = then_leaves (on_line at.line r) (token_step d s bytes at) q new result e h

pub step_refuses : (B : Type 0) (d : Declared) (s : Shape) (bytes : List ℕ) (at : Place) (r q : Reading) (e : End) → Leaves {B = B} (on_line at.line r) q (Err e) → Leaves {B = B} (step d s bytes at r) q (Err e)
unfolding step
step_refuses B d s bytes at r q e h = first_refuses B (on_line at.line r) (token_step d s bytes at) q q e h

pub stray_leaves : {B : Type 0} (at : Place) (r q new : Reading) (result : Result B End) → on_line at.line r ≡ Ok q → Leaves (refused 1 at) new result → Leaves (stray at r) new result
unfolding stray
stray_leaves at r q new result e h = then_leaves (on_line at.line r) (λ q. refused 1 at) q new result e h

pub stray_refuses : (B : Type 0) (at : Place) (r q : Reading) (e : End) → Leaves {B = B} (on_line at.line r) q (Err e) → Leaves {B = B} (stray at r) q (Err e)
unfolding stray
stray_refuses B at r q e h = first_refuses B (on_line at.line r) (λ q. refused 1 at) q q e h

pub end_leaves : {B : Type 0} (at : Place) (r q new : Reading) (result : Result B End) → on_line at.line r ≡ Ok q → Leaves (ended at q) new result → Leaves (finished at r) new result
unfolding finished
end_leaves at r q new result e h = then_leaves (on_line at.line r) (ended at) q new result e h

pub end_refuses : (B : Type 0) (at : Place) (r q : Reading) (e : End) → Leaves {B = B} (on_line at.line r) q (Err e) → Leaves {B = B} (finished at r) q (Err e)
unfolding finished
end_refuses B at r q e h = first_refuses B (on_line at.line r) (ended at) q q e h
