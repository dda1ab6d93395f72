-- `read` answers the first bad line, or the frame: what the three readers found is a text's beginning, and what follows it decides.
use mathlib.Core.Path.{◌≡◌, refl}
use native.Mathlib.Omega.{arith}
use Rattle.std.proofs.lemmas.Result.{err_from_is_err_and}
use Rattle.gridtext.specs.declared.BadLine.{BadLine}
use Rattle.gridtext.specs.inner.Read.{Parses}
use Rattle.gridtext.proofs.Outcomes.{params_missing, params_within, found_three, reads_all, bad_behind, corner_count, triangle_count_lem, corners_laid, triangles_laid, frame_is}
use Rattle.gridtext.proofs.inner.read.Goals as goal

pub returns-in_err-at : goal.returns-in_err-at
returns-in_err-at c =
    let p = err_from_is_err_and c.from_residual.result c.from_residual.ensures.1 in
    let none = c.in_err-at.ensures.ok_part in
    let first : ◌≡◌ {A = BadLine} c.in_err-at.field-0.0 (record { line = 1 }) = cc (rw none at c.in_err-at.ensures.value) in
    rw (p.1, p.2, first) (Parses.bad (params_missing (rw none at c.params_at.ensures)) refl refl)

pub lines_at-c-requires : goal.lines_at-c-requires
lines_at-c-requires c = (params_within (rw c.in_ok-at.ensures.ok_part at c.params_at.ensures), omega arith)

pub returns-then-t-text : goal.returns-then-t-text
returns-then-t-text c =
    let f = found_three (rw c.in_ok-at.ensures.ok_part at c.params_at.ensures) c.lines_at-c.ensures c.lines_at-t.ensures in
    Parses.bad (bad_behind f.three c.if-t-text.true) c.lines_at-c.ensures.same c.lines_at-t.ensures.same

pub returns : goal.returns
returns c =
    let f = found_three (rw c.in_ok-at.ensures.ok_part at c.params_at.ensures) c.lines_at-c.ensures c.lines_at-t.ensures in
    let w = f.three in
    Parses.read f.frame (reads_all w c.if-t-text.false) (frame_is c.params_of.result _ _ f.frame (corner_count w) (triangle_count_lem w) (c.params_of.ensures f.frame.params f.params)) (corners_laid w) (triangles_laid w)
