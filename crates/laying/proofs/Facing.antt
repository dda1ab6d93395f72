-- Sides that face each other, by their numbers in the list, are steps from quad to quad, and each such step is across two of them. So
-- what is reached from a quad of the list is in the list. Assumes nothing.
use mathlib.Core.Path.{◌≡◌, sym, ap, ◌∙◌}
use mathlib.Core.List.{List}
use Prim.Native.Nat.{ℕ, ◌+◌, ◌*◌, ◌/◌, ◌%◌, ◌<◌}
use native.Mathlib.Omega.{arith}
use lib.ListN.{get_or}
use Rattle.cells.specs.Cells.{Side, cell}
use Rattle.cells.specs.Kind.{Next, Reached}
use Rattle.cells.specs.Kind.Chain.{here, on}
use Rattle.cells.specs.Quads.{quads}
use Rattle.laying.specs.inner.Layout.{side_start, side_end, Across, Given}
use Rattle.laying.proofs.Around.{same_corner}

-- side i of p and side j of q face each other
pub record Faces (cells : List ℕ) (p q : ℕ) : Type 0 where
  pub i : ℕ
  pub j : ℕ
  pub i_small : i < 4
  pub j_small : j < 4
  pub across : Across cells (4 * p + i) (4 * q + j)

pub side_of : (cells : List ℕ) (e : ℕ) → Side 4 (cell 4 cells (e / 4)) (side_start cells e) (side_end cells e)
side_of cells e = record {
  at = e % 4;
  small = omega arith;
  starts = same_corner cells (e / 4) (e % 4) e (omega arith);
  ends = same_corner cells (e / 4) ((e % 4 + 1) % 4) (e + 1) (omega arith);
}

starts_at : (cells : List ℕ) (q i : ℕ) → i < 4 → side_start cells (4 * q + i) ≡ cell 4 cells q i
starts_at cells q i h = ap (λ (k : ℕ). get_or cells k 0) (omega arith)

ends_at : (cells : List ℕ) (q i : ℕ) → i < 4 → side_end cells (4 * q + i) ≡ cell 4 cells q ((i + 1) % 4)
ends_at cells q i h = ap (λ (k : ℕ). get_or cells k 0) (omega arith)

module _ {span : ℕ} {cells : List ℕ} {n : ℕ} (given : Given span cells n) where
  pub corner_below : (q k : ℕ) → q < n → cell 4 cells q k < span
  corner_below q k h = given.below (4 * q + k % 4) (omega (arith, given.whole))

  pub across_next : {e g : ℕ} → e < 4 * n → g < 4 * n → Across cells e g → Next quads cells (e / 4) (g / 4)
  across_next {e} {g} el gl a = record {
    from = omega (arith, given.whole);
    to = omega (arith, given.whole);
    two = λ s. apart s;
    step = record { x = side_start cells e; y = side_end cells e; there = side_of cells e; back = rw (a.start, a.end) (side_of cells g) };
  }
    where
      apart : e / 4 ≡ g / 4 → ⊥
      apart s =
          let i : (e + 1) % 4 ≡ g % 4 = given.distinct (g / 4) (e + 1) g (omega arith) (rw s at a.end) in
          let j : e % 4 ≡ (g + 1) % 4 = given.distinct (g / 4) e (g + 1) (omega arith) (rw s at a.start) in
          omega arith

  pub next_across : {p q : ℕ} → Next quads cells p q → Faces cells p q
  next_across {p} {q} s =
      let t = s.step.there in
      let b = s.step.back in
      record {
        i = t.at;
        j = b.at;
        i_small = t.small;
        j_small = b.small;
        across = record {
          start = starts_at cells p t.at t.small ∙ t.starts ∙ sym b.ends ∙ sym (ends_at cells q b.at b.small);
          end = ends_at cells p t.at t.small ∙ t.ends ∙ sym b.starts ∙ sym (starts_at cells q b.at b.small);
        };
      }

  pub reached_below : {seed q : ℕ} → seed < n → Reached quads cells seed q → q < n
  reached_below h here = h
  reached_below h (on r s) = omega (arith, s.to, given.whole)
