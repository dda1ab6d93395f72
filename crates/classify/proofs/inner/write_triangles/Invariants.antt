-- `write_triangles` writes `classes_of` and fits: after t triangles the first 3t places of each list hold their half-edges' own.
use Rattle.classify.proofs.Triangle.{Classed, Fitted, read}
use Rattle.classify.proofs.inner.write_triangles.Given as goal

abbrev pub invariant-loop-t : goal.invariant-loop-t
invariant-loop-t l = record {
  classed : Classed (read l.corners l.axes l.triangles l.params) l.t l.classes;
  fitted : Fitted (read l.corners l.axes l.triangles l.params) l.t l.fits;
}
