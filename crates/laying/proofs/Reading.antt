-- Labels and their words: a label is its word less 16,384, so that a step between labels is a difference of words.
-- Assumes nothing.
use Rattle.std.proofs.Common.{◌≡◌, ℕ, ◌+◌, ◌*◌, ◌-◌, ◌≤◌, ◌<◌, ℤ, pos, neg_ℤ, ◌+ℤ◌, ◌-ℤ◌, w32, to_z, of_z, arith}
use Rattle.std.proofs.lemmas.Int.{ints}
use Rattle.cells.proofs.Whole.{up, down, up_pos, sum, opp}
use Rattle.laying.specs.inner.Layout.{centre, label}

pub word_sum : (w : ℕ) → up (label w) + centre ≡ w + down (label w)
word_sum w = omega (arith, sum (pos w) (neg_ℤ (pos centre)), opp (pos centre), up_pos w, up_pos centre)

-- a step from the label of q to that of p
pub step_sum : (p q : ℕ) → up (label p -ℤ label q) + q ≡ p + down (label p -ℤ label q)
step_sum p q = omega (arith, sum (label p) (neg_ℤ (label q)), opp (label q), word_sum p, word_sum q)

-- two words of one label are one word
pub same_word : (v w : ℕ) → label v ≡ label w → v ≡ w
same_word v w e = omega (arith, ints)

-- a label and a step from it
pub far_word : (b p q : ℕ) → q ≤ b + p → label b +ℤ (label p -ℤ label q) ≡ label ((b + p) - q)
far_word b p q h = omega (arith, ints)

-- a label as the machine has it
pub machine_label : (z : ℤ) (w : ℕ) → z ≡ label w → w < 2 * centre → to_z w32 (of_z w32 z) ≡ label w
machine_label z w e h = omega (arith, ints)
