-- The lowest quads of the groups that have all that is demanded, in order: they are exactly those, and there is one such order. Assumes
-- nothing.
use mathlib.Core.Path.{◌≡◌, sym, ap}
use Prim.Native.Nat.{ℕ, zero, suc, ◌≤◌, ◌<◌}
use native.Mathlib.Nat.{le_antisymm}
use native.Mathlib.Decide.{ℕ_discrete, dec_lt}
use native.Mathlib.Omega.{arith}
use Rattle.cells.specs.Counted.{Exactly}
use Rattle.cells.proofs.Counted.{one_count}
use Rattle.walk.specs.Input.{Input}
use Rattle.walk.specs.Demanded.{Place, Yields, Seeds}

module _ {i : Input} {number : ℕ → ℕ} where
  pub exactly_yields : {k : ℕ} {seed : ℕ → ℕ} → Seeds i number k seed → Exactly (Yields i number) k
  exactly_yields {k} {seed} s = record { pick = seed; each = s.each; apart = apart; every = λ q y. let p = s.every q y in record { at = p.at; small = p.small; is = p.is } }
    where
      apart : (j m : ℕ) → j < k → m < k → seed j ≡ seed m → j ≡ m
      apart j m hj hm e = go (dec_lt j m) (dec_lt m j)
        where
          go : Dec (j < m) → Dec (m < j) → j ≡ m
          go (yes a) b = absurd (omega (arith, s.rises j m a hm))
          go (no a) (yes b) = absurd (omega (arith, s.rises m j b hj))
          go (no a) (no b) = omega (arith, a, b)

  pub as_many : {k m : ℕ} {seed other : ℕ → ℕ} → Seeds i number k seed → Seeds i number m other → k ≡ m
  as_many s t = one_count (Yields i number) (exactly_yields s) (exactly_yields t)

  -- where all before agree, a seed is among the others, and not before its place
  no_sooner : {k m : ℕ} {seed other : ℕ → ℕ} → Seeds i number k seed → Seeds i number m other → (j : ℕ) → ((h : ℕ) → h < j → seed h ≡ other h) → j < k → other j ≤ seed j
  no_sooner {k} {m} {seed} {other} s t j before hj = go (t.every (seed j) (s.each j hj))
    where
      by : (p : Place m (λ h. other h ≡ seed j)) → Dec (p.at < j) → Dec (p.at ≡ j) → other j ≤ seed j
      by p (yes a) b = absurd (omega (arith, s.rises p.at j a hj, before p.at a, p.is))
      by p (no a) (yes b) = omega (arith, ap other b, p.is)
      by p (no a) (no b) = omega (arith, t.rises j p.at (omega (arith, a, b)) p.small, p.is)

      go : Place m (λ h. other h ≡ seed j) → other j ≤ seed j
      go p = by p (dec_lt p.at j) (ℕ_discrete p.at j)

  agree : {k m : ℕ} {seed other : ℕ → ℕ} → Seeds i number k seed → Seeds i number m other → (n j : ℕ) → j < n → j < k → seed j ≡ other j
  agree s t zero j l hj = absurd (omega arith)
  agree s t (suc n) j l hj =
      let before : (h : ℕ) → h < j → _ = λ h b. agree s t n h (omega arith) (omega arith) in
      le_antisymm (no_sooner t s j (λ h b. sym (before h b)) (omega (arith, as_many s t))) (no_sooner s t j before hj)

  pub one_seed : {k m : ℕ} {seed other : ℕ → ℕ} → Seeds i number k seed → Seeds i number m other → (j : ℕ) → j < k → seed j ≡ other j
  one_seed s t j hj = agree s t (suc j) j (omega arith) hj
