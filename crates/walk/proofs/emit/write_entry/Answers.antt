-- `write_entry` stores the shifted words and the corner.
use mathlib.Core.Path.{ap, ap₂, ◌∙◌}
use mathlib.Core.List.{[], ◌∷◌}
use Prim.Native.Nat.{ℕ, ◌*◌, ◌-◌}
use Rattle.fates.specs.inner.Fates.{corner_in}
use Rattle.walk.specs.inner.Emitting.{pasted}
use Rattle.walk.proofs.emit.write_entry.Goals as goal

pub returns : goal.returns
returns c =
    let z = c.args in
    c.store.ensures
    ∙ ap₂ (λ (u v : ℕ). pasted (3 * z.place) (u ∷ v ∷ corner_in z.work.now z.at z.k ∷ []) z.entries.now)
    (c.shifted-u.ensures ∙ ap (λ (word : ℕ). word - z.least.x) c.x_of.ensures)
    (c.shifted-v.ensures ∙ ap (λ (word : ℕ). word - z.least.y) c.y_of.ensures)
