-- `room`: the leading zeros of a significand are how far its highest bit is from bit 31.
use lib.Count.{count_leading_zeros, leading_top}
use lib.Pow.{pow-add, shl_lt}
use native.Mathlib.Nat.{le_trans, le_of_eq, suc_inj, add-suc, add_comm, mul-le-mul_right}
use Prim.Native.Nat.{ℕ, suc, ◌+◌, ◌*◌, ◌^◌, ◌≤◌, ◌<◌}
use mathlib.Core.Path.{◌≡◌, sym, ◌∙◌, subst}
use Rattle.measure.proofs.root_pattern.room.Goals as goal

-- a number whose highest set bit is bit k, times 2 ^ s for the s that makes 32 with k + 1
normalized : (a k s : ℕ) → 2 ^ k ≤ a → a < 2 ^ suc k → s + suc k ≡ 32 → (2 ^ 31 ≤ a * 2 ^ s) × (a * 2 ^ s < 2 ^ 32)
normalized a k s lo hi e = (
  subst (λ (x : ℕ). 2 ^ x ≤ a * 2 ^ s) (add_comm k s ∙ suc_inj (sym (add-suc s k) ∙ e)) (le_trans (le_of_eq (pow-add 2 k s)) (mul-le-mul_right (2 ^ s) lo)),
  subst (λ (x : ℕ). a * 2 ^ s < 2 ^ x) (add_comm (suc k) s ∙ e) (shl_lt {a = a} (suc k) s hi),
)

pub returns : goal.returns
returns c =
    let top = leading_top 32 c.args.s c.requires c.ranges.s.fits in
    normalized c.args.s top.0 (count_leading_zeros 32 c.args.s) top.2 top.3 top.1
