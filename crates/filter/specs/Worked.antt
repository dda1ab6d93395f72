-- Further worked examples of the three rules, at their limits and just past them. The answers are from outside: plain arithmetic on the
-- patterns.
use Rattle.std.specs.Prelude.{◌≡◌, Bool, true, false, List, [], ◌∷◌, ℕ, Float, get_or}
use Rattle.std.specs.Float.{nan}
use Rattle.measure.specs.Float.{bits, fraction}
use Rattle.filter.specs.declared.FilterParams.{FilterParams}
use Rattle.filter.specs.Median.{Median}
use Rattle.filter.specs.Opposing.{side_ratio, uneven}
use Rattle.filter.specs.Size.{is_skipped, off_size}
use Rattle.filter.specs.Topology.{crowded}

-- five quads round corner 0
abbrev pub five : List ℕ
five = 0 ∷ 1 ∷ 2 ∷ 3 ∷ 0 ∷ 3 ∷ 4 ∷ 5 ∷ 0 ∷ 5 ∷ 6 ∷ 7 ∷ 0 ∷ 7 ∷ 8 ∷ 9 ∷ 0 ∷ 9 ∷ 10 ∷ 1 ∷ []

-- five quads that have corners 0 and 1 in common, and a sixth that has corner 0 of them
abbrev pub fan : List ℕ
fan = 0 ∷ 1 ∷ 2 ∷ 3 ∷ 0 ∷ 1 ∷ 4 ∷ 5 ∷ 0 ∷ 1 ∷ 6 ∷ 7 ∷ 0 ∷ 1 ∷ 8 ∷ 9 ∷ 0 ∷ 1 ∷ 10 ∷ 11 ∷ 0 ∷ 3 ∷ 12 ∷ 11 ∷ []

-- sides of two lengths, two of each
abbrev pub pairs : List Float
pairs = fraction 1 1 ∷ fraction 1 1 ∷ fraction 2 1 ∷ fraction 2 1 ∷ []

-- the lengths of a quad's sides in order
abbrev pub sides : Float → Float → Float → Float → ℕ → Float
sides a b c d k = get_or (a ∷ b ∷ c ∷ d ∷ []) k nan

abbrev pub sizes : Float → Float → FilterParams
sizes least greatest = record { ratio = fraction 2 1; least = least; greatest = greatest }

-- with a least of 1/2, a greatest of 2 and a median
abbrev pub Off : Float → (ℕ → Float) → Bool → Type 0
Off median side answer = off_size (sizes (fraction 1 2) (fraction 2 1)) median side ≡ answer

pub record Worked : Type 0 where
  -- two illegal corners drop a quad, and one does not
  pub two_illegal : (crowded fan 0 ≡ true) × (crowded fan 4 ≡ true)
  pub one_illegal : (crowded five 0 ≡ false) × (crowded fan 5 ≡ false)
  -- a lesser of 0, and the float below 1e-6, count as 1e-6 (2 over it is 2,000,000); the greater stays
  pub ratio_over_zero : side_ratio (fraction 2 1) (bits 0) ≡ bits 0x49F42400
  pub ratio_over_small : side_ratio (bits 0x358637BC) (fraction 2 1) ≡ bits 0x49F42400
  pub ratio_of_zeros : side_ratio (bits 0) (bits 0) ≡ bits 0
  -- 3 over 2 against a limit of 3/2, and of the float below; the worse ratio counts, whichever pair has it
  pub at_limit : uneven (fraction 3 2) (sides (fraction 3 1) (fraction 1 1) (fraction 2 1) (fraction 1 1)) ≡ false
  pub past_limit : uneven (bits 0x3FBFFFFF) (sides (fraction 3 1) (fraction 1 1) (fraction 2 1) (fraction 1 1)) ≡ true
  pub worse_second : uneven (fraction 3 2) (sides (fraction 1 1) (fraction 2 1) (fraction 1 1) (fraction 4 1)) ≡ true
  -- of 1, 1, 2, 2 neither the lower of the middle two nor the mean is a median
  pub no_lower_middle : Median pairs (fraction 1 1) → ⊥
  pub no_mean : Median pairs (fraction 3 2) → ⊥
  -- a median of 2: sides of 1 and 4 are within, the next float below 1 and the next above 4 are not; a median of 0 keeps
  pub size_at_limits : Off (fraction 2 1) (sides (fraction 1 1) (fraction 2 1) (fraction 4 1) (fraction 2 1)) false
  pub size_below : Off (fraction 2 1) (sides (fraction 2 1) (bits 0x3F7FFFFF) (fraction 2 1) (fraction 2 1)) true
  pub size_above : Off (fraction 2 1) (sides (fraction 2 1) (fraction 2 1) (fraction 2 1) (bits 0x40800001)) true
  pub size_median_zero : Off (bits 0) (sides (fraction 2 1) (bits 0) (fraction 2 1) (bits 0)) false
  -- a least of 0 or a greatest that is infinite is inactive, and with both the rule is skipped
  pub size_no_least : off_size (sizes (bits 0) (fraction 2 1)) (fraction 2 1) (sides (bits 0) (fraction 2 1) (bits 0) (fraction 2 1)) ≡ false
  pub size_no_greatest : off_size (sizes (fraction 1 2) (bits 0x7F800000)) (fraction 2 1) (sides (fraction 9 1) (fraction 2 1) (fraction 9 1) (fraction 2 1)) ≡ false
  pub skipped : (is_skipped (sizes (bits 0) (bits 0x7F800000)) ≡ true) × (is_skipped (sizes (bits 0) (fraction 2 1)) ≡ false) × (is_skipped (sizes (fraction 1 2) (bits 0x7F800000)) ≡ false)
  -- an infinite least drops every quad of a median above 0; a greatest below 0 does too; one of minus infinity is inactive
  pub size_infinite_least : off_size (sizes (bits 0x7F800000) (bits 0x7F800000)) (fraction 2 1) (sides (fraction 9 1) (fraction 9 1) (fraction 9 1) (fraction 9 1)) ≡ true
  pub size_least_median_zero : off_size (sizes (bits 0x7F800000) (bits 0x7F800000)) (bits 0) (sides (fraction 9 1) (bits 0) (bits 0) (bits 0)) ≡ false
  pub size_negative_greatest : off_size (sizes (bits 0) (bits 0xBF800000)) (fraction 2 1) (sides (fraction 2 1) (fraction 2 1) (fraction 2 1) (fraction 2 1)) ≡ true
  pub size_minus_infinite : (is_skipped (sizes (bits 0x80000000) (bits 0xFF800000)) ≡ true) × (is_skipped (sizes (bits 0xFF800000) (bits 0xFF800000)) ≡ true)
  pub ratio_infinite : (uneven (bits 0x7F800000) (sides (fraction 2 1) (bits 0) (bits 0) (fraction 1 1)) ≡ false) × (uneven (bits 0xFF800000) (sides (fraction 1 1) (fraction 1 1) (fraction 1 1) (fraction 1 1)) ≡ true)
