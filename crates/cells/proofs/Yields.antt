-- What a group yields: one component or none, never both; and one list of components for a grouping. Assumes nothing.
use mathlib.Core.Path.{◌≡◌, refl, ap, ap₂}
use mathlib.Core.List.{List, [], ◌∷◌, ◌++◌}
use Prim.Native.Nat.{ℕ}
use native.Mathlib.Omega.{arith}
use lib.ListN.{length}
use Rattle.cells.specs.Kind.{Kind}
use Rattle.cells.specs.Listed.{Entry, Grouping, Component, Dropped, Components}
use Rattle.cells.specs.Listed.Dropped.{few_cells, no_labelling, few_corners}
use Rattle.cells.specs.Listed.Components.{start, within, dropped, kept}
use Rattle.cells.proofs.Unique.{Laws}
use Rattle.cells.proofs.Listing.{determined_listing}

module _ (k : Kind) (cells : List ℕ) (g : Grouping) (w : Laws k) where
  one_component : {s : ℕ} {es fs : List Entry} → Component k cells g s es → Component k cells g s fs → es ≡ fs
  one_component {s} c d = determined_listing k w cells s c.labelling.fits d.labelling.fits c.listed d.listed

  -- a group that is dropped yields no component
  dropped_none : {s : ℕ} {es : List Entry} → Dropped k cells g s → Component k cells g s es → ⊥
  dropped_none (few_cells h) c = omega (arith, c.enough)
  dropped_none (no_labelling h r) c = r c.L c.labelling
  dropped_none {s} (few_corners h L m es l n) c =
      let e = ap length (determined_listing k w cells s m.fits c.labelling.fits l c.listed) in
      omega (arith, c.corners, e)

  pub components_determined : {m : ℕ} {out other : List (List Entry)} → Components k cells g m out → Components k cells g m other → out ≡ other
  components_determined start start = refl
  components_determined (within a n) (within b p) = components_determined a b
  components_determined (within a n) (dropped b p d) = absurd (n p)
  components_determined (within a n) (kept b p c) = absurd (n p)
  components_determined (dropped a n d) (within b p) = absurd (p n)
  components_determined (dropped a n d) (dropped b p e) = components_determined a b
  components_determined (dropped a n d) (kept b p c) = absurd (dropped_none d c)
  components_determined (kept a n c) (within b p) = absurd (p n)
  components_determined (kept a n c) (dropped b p d) = absurd (dropped_none d c)
  components_determined (kept a n c) (kept b p d) = ap₂ (λ (x : List (List Entry)) (y : List Entry). x ++ (y ∷ [])) (components_determined a b) (one_component c d)
