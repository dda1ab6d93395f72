-- `labelled` prints the components that stand in its lists, or the refusal.
use Rattle.gridtext.proofs.Answering.{printable, answered_components, answered_refusal}
use Rattle.gridtext.proofs.labelled.Goals as goal

pub print_components-requires : goal.print_components-requires
print_components-requires c = printable c.requires.0.0 c.requires.0.1.within _ _ _ _ c.in-Ok.is c.requires.1 (c.label_lines.ensures c.requires.0.0 c.requires.0.1)

pub returns-in-Ok : goal.returns-in-Ok
returns-in-Ok c = λ f standing text reads. answered_components f standing.within reads c.requires.1 _ _ _ c.in-Ok.is (c.label_lines.ensures f standing) c.print_components.ensures

pub returns-in-Err : goal.returns-in-Err
returns-in-Err c = λ f standing text reads. answered_refusal f standing.within reads c.requires.1 _ _ c.in-Err.is (c.label_lines.ensures f standing) c.print_refused.ensures
