-- What open rows say of an input: quads whole and few, of distinct corners that exist, and a workspace that is long enough for all that is
-- put in it. Assumes nothing.
use mathlib.Core.Path.{◌≡◌, sym}
use mathlib.Core.Bool.{false}
use mathlib.Core.List.{List}
use Prim.Native.Nat.{ℕ, ◌+◌, ◌*◌, ◌%◌, ◌≤◌, ◌<◌, max}
use native.Mathlib.Decide.{dec_lt}
use native.Mathlib.Omega.{arith}
use lib.ListN.{length}
use Rattle.std.specs.Prelude.{Ok}
use Rattle.refusal.proofs.Rows.{open_both}
use Rattle.mesh.specs.Lists.{whole_row, limit_row, most_corners, most_quads, work_row, quad_words}
use Rattle.mesh.specs.Cells.{corners_row, names_twice, twice_row}
use Rattle.mesh.proofs.Open.{paired_open, limit_open, work_open, corners_open, twice_open}
use Rattle.mesh.proofs.Differ.{corners_differ}
use Rattle.cells.specs.Cells.{cell}
use Rattle.walk.specs.Input.{Input, quad_count}
use Rattle.walk.specs.Call.{gate_of, entry_gate}
use Rattle.laying.specs.inner.Layout.{Given}

-- a quad that names no corner twice has four
four_corners : (cells : List ℕ) (q i j : ℕ) → names_twice 4 cells q ≡ false → cell 4 cells q i ≡ cell 4 cells q j → i % 4 ≡ j % 4
four_corners cells q i j clear e = go (dec_lt (i % 4) (j % 4)) (dec_lt (j % 4) (i % 4))
  where
    place : 4 * q ≡ q * 4
    place = omega arith

    go : Dec (i % 4 < j % 4) → Dec (j % 4 < i % 4) → i % 4 ≡ j % 4
    go (yes a) b = absurd (corners_differ 4 cells q (i % 4) (j % 4) clear a (omega arith) (rw place at e))
    go (no a) (yes b) = absurd (corners_differ 4 cells q (j % 4) (i % 4) clear b (omega arith) (sym (rw place at e)))
    go (no a) (no b) = omega (arith, a, b)

-- the words of a region: one for each quad and for each corner
abbrev pub span_of : Input → ℕ
span_of i = max (quad_count i) i.corners

pub record Sound (i : Input) (words : ℕ) : Type 0 where
  pub given : Given (span_of i) i.quads (quad_count i)
  pub few : quad_count i ≤ most_quads
  pub room : 4 * span_of i + 27 * quad_count i ≤ words

pub entry_sound : (i : Input) (words : ℕ) → entry_gate i words ≡ Ok tt → Sound i words
unfolding entry_gate gate_of
entry_sound i words e =
    let all = open_both _ (work_row words (quad_words (quad_count i) i.corners)) e in
    let a = open_both (whole_row (length i.quads) 4) _ all.0 in
    let b = open_both (limit_row i.corners most_corners) _ a.1 in
    let c = open_both (limit_row (quad_count i) most_quads) _ b.1 in
    let d = open_both (corners_row i.corners i.quads) (twice_row 4 i.quads) c.1 in
    let whole = paired_open (length i.quads % 4) 0 a.0 in
    let few = limit_open (quad_count i) most_quads c.0 in
    let most = limit_open i.corners most_corners b.0 in
    let r = work_open words (quad_words (quad_count i) i.corners) all.1 in
    let named = corners_open i.corners i.quads d.0 in
    record {
      given = record {
        whole = omega (arith, whole);
        few = omega arith;
        most = omega (arith, most, few);
        below = λ k h. omega (arith, named k h);
        distinct = λ q j m h. four_corners i.quads q j m (twice_open 4 i.quads d.1 q h);
      };
      few = few;
      room = omega (arith, r);
    }
