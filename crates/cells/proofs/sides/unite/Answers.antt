-- `unite`: the classes begin with each cell alone, `link` takes the neighbours in, and at the end each cell points at its lowest.
use native.Mathlib.Nat.{le_refl}
use native.Mathlib.Omega.{arith}
use Rattle.cells.proofs.Adjacent.{still_ready, still_classes, united_alone, united_then, named_flat}
use Rattle.cells.proofs.sides.unite.Goals as goal

pub link-requires : goal.link-requires
link-requires c =
    let u = united_alone c.args.n c.args.work.now c.alone.new.p (omega arith) c.alone.ensures in
    record { ready = still_ready u.kept c.requires (le_refl _); classes = still_classes u.kept u.classes }

pub returns : goal.returns
returns c =
    let u = united_alone c.args.n c.args.work.now c.alone.new.p (omega arith) c.alone.ensures in
    named_flat _ c.requires (le_refl _) (united_then u c.link.ensures) c.flatten.ensures
