-- `root_bits`: the significand moved to 32 bits and the exponent that goes with it make the units of the pattern, times 2^151.
use Rattle.measure.proofs.Moves.{moved, room_lt, kept}
use Rattle.measure.proofs.Patterns.{sig_pos, exp_le, units_is}
use Rattle.measure.specs.Pattern.{sig_of, units}
use Rattle.measure.specs.inner.RootSteps.{RootBits}
use native.Mathlib.Omega.{arith}
use Prim.Native.Nat.{ℕ, ◌+◌, ◌-◌, ◌*◌, ◌%◌, ◌^◌, ◌<◌, ◌≤◌}
use mathlib.Core.Path.{◌≡◌, sym, ap, ◌∙◌, subst}
use Rattle.measure.proofs.root_pattern.root_bits.Goals as goal
use Rattle.measure.proofs.root_pattern.root_bits.Goals.{After-room-z}

pub room-z-requires : goal.room-z-requires
room-z-requires c = rw c.significand-s.ensures (sig_pos c.args.b c.requires.0)

-- the room is below 32
small : (c : After-room-z) → c.room-z.result < 32
small c = room_lt c.significand-s.result c.room-z.result (rw c.significand-s.ensures (sig_pos c.args.b c.requires.0)) c.room-z.ensures.1

pub overflow_shl-s : goal.overflow_shl-s
overflow_shl-s c = omega (arith, small (goal.at.overflow_shl-s c).After-room-z)

pub overflow_add-exponent : goal.overflow_add-exponent
overflow_add-exponent c = omega (arith, c.exponent.ensures, exp_le c.args.b c.requires.1)

pub overflow_sub-exponent : goal.overflow_sub-exponent
overflow_sub-exponent c = omega (arith, small (goal.at.overflow_sub-exponent c).After-room-z)

pub pattern_of_root-requires : goal.pattern_of_root-requires
pattern_of_root-requires c =
    let v = kept _ c.room-z.ensures.1 in
    let x = exp_le c.args.b c.requires.1 in
    (rw v c.room-z.ensures.0, rw v c.room-z.ensures.1, omega (arith, small (goal.at.pattern_of_root-requires c).After-room-z), omega (arith, c.exponent.ensures, x))

pub returns : goal.returns
returns c =
    let b = c.args.b in
    let s = c.significand-s.result in
    let z = c.room-z.result in
    let x = c.exponent.result in
    let r = c.pattern_of_root.result in
    let v : s * 2 ^ z % 2 ^ 64 ≡ s * 2 ^ z = kept _ c.room-z.ensures.1 in
    let h : z ≤ x + 149 = omega (arith, small (goal.at.returns c).After-room-z) in
    let u : s * 2 ^ x ≡ units b = ap (λ (n : ℕ). n * 2 ^ x) c.significand-s.ensures ∙ ap (λ (n : ℕ). sig_of b * 2 ^ n) c.exponent.ensures ∙ sym (units_is b) in
    let all : 4 * (s * 2 ^ z % 2 ^ 64 * 2 ^ (x + 149 - z)) ≡ 2 ^ 151 * units b = ap (λ (n : ℕ). 4 * (n * 2 ^ (x + 149 - z))) v ∙ moved s z x h ∙ ap (λ (n : ℕ). 2 ^ 151 * n) u in
    subst (λ (n : ℕ). RootBits n r) all c.pattern_of_root.ensures
