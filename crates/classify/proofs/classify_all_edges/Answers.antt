-- `classify_all_edges` is `call_of`: refused where the gate is shut, else the stage runs on what the rows have shown.
use mathlib.Core.Path.{◌≡◌, sym, ◌∙◌}
use mathlib.Core.Logic.{inr}
use lib.ListN.{length}
use Rattle.std.proofs.lemmas.Result.{err_from_is_err_and}
use Rattle.classify.proofs.Sound.{fitted_sound}
use Rattle.classify.proofs.Outcomes.{refused, done}
use borrow.Author.Rules.{rules}
use Rattle.classify.proofs.classify_all_edges.Goals as goal

pub write_triangles-requires : goal.write_triangles-requires
write_triangles-requires c =
    let (sound, classes, fits) = fitted_sound _ _ _ (sym c.judge_fitted.ensures ∙ c.in_ok-judge_fitted.was) in
    (sound, classes, inr fits)

pub returns-in_err-judge_fitted : goal.returns-in_err-judge_fitted
returns-in_err-judge_fitted c =
    let p = err_from_is_err_and c.from_residual.result c.from_residual.ensures.1 in
    rw (p.1, p.2) (refused _ _ _ _ c.judge_fitted.ensures _ c.in_err-judge_fitted.was)

pub returns : goal.returns
returns c =
    let kept : length c.write_triangles.new.fits ≡ length c.args.fits.now = search rules in
    let passed = c.in_ok-judge_fitted.was in
    let gate = c.judge_fitted.ensures in
    let written = c.write_triangles.ensures in
    done _ _ _ _ gate _ _ passed written.0 (kept ∙ (fitted_sound _ _ _ (sym gate ∙ passed)).2) written.1
