-- Flags of runs: sides of one run and one sense have the same ends, so what is across from one of them is across from each; a flag that
-- is set for one sense keeps what it tells of the other. Assumes nothing.
use mathlib.Core.Path.{◌≡◌, sym, ap, ◌∙◌}
use mathlib.Core.Logic.{◌≢◌}
use mathlib.Core.List.{List}
use Prim.Native.Nat.{ℕ, ◌+◌, ◌*◌, ◌/◌, ◌%◌, ◌≤◌, ◌<◌}
use native.Mathlib.Decide.{dec_lt}
use native.Mathlib.Omega.{arith}
use borrow.Author.Tests.{lt-ltb, le-ltb}
use lib.ListN.{get_or}
use Rattle.cells.specs.inner.Sides.{ends_key}
use Rattle.laying.specs.inner.Layout.{mark, key_at, run_of, flags_at, flag_of, side_start, side_end, sense_from, sense, Scanned, Given, Table, Unscanned}
use Rattle.laying.specs.inner.Invariant.{Met, Flags}
use Rattle.laying.proofs.Facing.{corner_below}

-- ---- senses and flags as numbers

pub data Sense : ℕ → Type 0 where
  up : {s : ℕ} → s ≡ 1 → Sense s
  down : {s : ℕ} → s ≡ 2 → Sense s

pub is_sense : (a b : ℕ) → Sense (sense_from a b)
is_sense a b = go (dec_lt a b)
  where
    go : Dec (a < b) → Sense (sense_from a b)
    go (yes h) =
        let e : sense_from a b ≡ 1 = rw (lt-ltb a b h) in
        up e
    go (no h) =
        let e : sense_from a b ≡ 2 = rw (le-ltb a b (omega arith)) in
        down e

none_scanned : {s : ℕ} → Sense s → Scanned 0 s → ⊥
none_scanned (up e) h = omega (arith, rw e at h)
none_scanned (down e) h = omega (arith, rw e at h)

pub set_small : {s : ℕ} (f : ℕ) → Sense s → f < 4 → (Scanned f s → ⊥) → f + s < 4
set_small f (up e) h n = rw e (omega (arith, rw e at n))
set_small f (down e) h n = rw e (omega (arith, rw e at n))

-- what a flag tells of the other sense, it told before
pub set_other : {s t : ℕ} (f : ℕ) → Sense s → Sense t → (Scanned f s → ⊥) → t ≢ s → Scanned (f + s) t → Scanned f t
set_other f (up e) (up d) n o h = absurd (o (d ∙ sym e))
set_other f (up e) (down d) n o h =
    let z : f / 1 ≡ f = omega arith in
    let m : f % 2 ≡ 0 = omega (arith, rw (e, z) at n) in
    let k : (f + 1) / 2 ≡ f / 2 = omega arith in
    rw (d, ← k) (rw (e, d) at h)
set_other f (down e) (up d) n o h = rw d (omega (arith, rw e at n, rw (e, d) at h))
set_other f (down e) (down d) n o h = absurd (o (d ∙ sym e))

-- two keys and two senses that are equal have the same ends
same_ends : (a b c d : ℕ) → a < 4096 → b < 4096 → c < 4096 → d < 4096 → ends_key a b ≡ ends_key c d → sense_from a b ≡ sense_from c d → (a ≡ c) × (b ≡ d)
same_ends a b c d al bl cl dl k s = go (dec_lt a b) (dec_lt c d)
  where
    go : Dec (a < b) → Dec (c < d) → (a ≡ c) × (b ≡ d)
    go (yes h) (yes l) = (omega arith, omega arith)
    go (yes h) (no l) = absurd (omega (arith, rw (lt-ltb a b h, le-ltb c d (omega arith)) at s))
    go (no h) (yes l) = absurd (omega (arith, rw (le-ltb a b (omega arith), lt-ltb c d l) at s))
    go (no h) (no l) = (omega arith, omega arith)

-- ---- runs

module _ {span : ℕ} {cells : List ℕ} {n : ℕ} (given : Given span cells n) where
  -- what is met from one side of a run is met from each of its sense
  pub met_run : {w : List ℕ} (e g : ℕ) (ys : List ℕ) → Table span cells n w → e < 4 * n → g < 4 * n → run_of span n w e ≡ run_of span n w g → sense cells e ≡ sense cells g → Met cells n e ys → Met cells n g ys
  met_run {w} e g ys t el gl r s m f fl a =
      let k : ends_key (side_start cells e) (side_end cells e) ≡ ends_key (side_start cells g) (side_end cells g) = sym (t.key e el) ∙ ap (key_at span w) r ∙ t.key g gl in
      let b : (q i : ℕ) → q < n → get_or cells (4 * q + i % 4) 0 < 4096 = λ q i h. omega (arith, corner_below given q i h, given.most) in
      let z = same_ends (side_start cells e) (side_end cells e) (side_start cells g) (side_end cells g) (b (e / 4) e (omega arith)) (b (e / 4) (e + 1) (omega arith)) (b (g / 4) g (omega arith)) (b (g / 4) (g + 1) (omega arith)) k s in
      m f fl (record { start = z.0 ∙ a.start; end = z.1 ∙ a.end })

  pub met_still : (xs ys : List ℕ) (e : ℕ) → ((q : ℕ) → q < span → mark xs q ≢ 0 → mark ys q ≢ 0) → Met cells n e xs → Met cells n e ys
  met_still xs ys e s m g l a = s (g / 4) (omega (arith, given.few)) (m g l a)

  -- where all past the walk's regions stays, so do the flags
  module _ (xs ys : List ℕ) (high : (k : ℕ) → 4 * span ≤ k → get_or ys k 0 ≡ get_or xs k 0) where
    same_flag : (e : ℕ) → flag_of span n ys e ≡ flag_of span n xs e
    same_flag e = high (flags_at span n + run_of span n ys e) (omega arith) ∙ ap (λ (r : ℕ). get_or xs (flags_at span n + r) 0) (high (4 * span + 8 * n + e) (omega arith))

    pub flags_still : {seed : ℕ} → ((q : ℕ) → q < span → mark xs q ≢ 0 → mark ys q ≢ 0) → Flags span cells n seed xs → Flags span cells n seed ys
    flags_still s f = record {
      small = λ e l r. rw (same_flag e) (f.small e l r);
      met = λ e l r h. met_still xs ys e s (f.met e l r (rw (same_flag e) at h));
    }

    pub flags_none : {seed : ℕ} → Unscanned span cells n seed xs → Flags span cells n seed ys
    flags_none u = record {
      small = λ e l r. omega (arith, same_flag e, u.none e l r);
      met = λ e l r h. absurd (none_scanned (is_sense (side_start cells e) (side_end cells e)) (rw (same_flag e, u.none e l r) at h));
    }
