-- `make_quads`: classes, then the quads by these classes.
use Rattle.frame.specs.Stages.{Input, given}
use Rattle.frame.proofs.Sound.{classing_sound}
use Rattle.frame.proofs.Making.{merge_asks, made}
use Rattle.frame.proofs.stages.make_quads.Goals as goal
use Rattle.frame.proofs.stages.make_quads.Goals.{Start}

abbrev read : Start → Input
read s = given s.args.frame s.args.params

pub classify_triangles-requires : goal.classify_triangles-requires
classify_triangles-requires c = (classing_sound (read (goal.at.classify_triangles-requires c).Start) c.requires.rows_open, c.requires.classes_len.0)

pub write_quads-requires : goal.write_quads-requires
write_quads-requires c = merge_asks (read (goal.at.write_quads-requires c).Start) _ c.classify_triangles.ensures c.requires.rows_open _ c.requires.classes_len.1

pub returns : goal.returns
returns c =
    let w = c.write_quads.ensures in
    made (read (goal.at.returns c).Start) _ c.classify_triangles.ensures _ _ _ w.0 w.1
