-- What the filters' routines leave in the workspace, word by word; proofs/ shows that the marks at the end are those of Marks.
use Rattle.std.specs.Prelude.{◌≡◌, true, false, cond, ◌&&◌, List, ℕ, zero, suc, ◌+◌, ◌*◌, ◌-◌, ◌/◌, ◌%◌, ◌≤◌, ◌<◌, eqb, ltb, Float, length, get_or}
use Rattle.std.specs.Float.Ieee as Ieee
use Rattle.std.specs.Float.{binary32}
use Rattle.words.specs.inner.Order.{word_of}
use Rattle.words.specs.inner.Regions.{Outside, Kept, Filled}
use Rattle.words.specs.inner.Middle.{Middle}
use Rattle.words.specs.Sorting.{one, equal}
use Rattle.cells.specs.Cells.{Neighbours}
use Rattle.cells.specs.Groups.{Groups}
use Rattle.cells.specs.inner.Table.{unmarked, groups_at}
use Rattle.mesh.specs.Lists.{most_corners, most_quads}
use Rattle.mesh.specs.Cells.{names_twice}
use Rattle.filter.specs.declared.FilterParams.{FilterParams}
use Rattle.filter.specs.Input.{Input, quad_count, length_of_side}
use Rattle.filter.specs.inner.Layout.{records_at, gathered_at, lengths_at, medians_at}
use Rattle.filter.specs.Opposing.{uneven}
use Rattle.filter.specs.Size.{is_skipped, off_size}
use Rattle.filter.specs.Marks.{Marked}

-- what the rows of the call have shown of an input that they let through
pub record Sound (i : Input) : Type 0 where
  pub paired : length i.ys ≡ length i.xs
  pub whole : length i.quads ≡ 4 * quad_count i
  pub corners : length i.xs ≤ most_corners
  pub few : quad_count i ≤ most_quads
  pub named : (k : ℕ) → k < length i.quads → get_or i.quads k 0 < length i.xs
  pub differ : (q : ℕ) → q < quad_count i → names_twice 4 i.quads q ≡ false

-- the word of side e, counted through the whole list
unfoldable pub side_word : List Float → List Float → List ℕ → ℕ → ℕ
side_word xs ys quads e = Ieee.to_bits binary32 (length_of_side xs ys quads (e / 4) (e % 4))

-- the lengths that stand in the workspace
unfoldable pub length_in : List ℕ → ℕ → ℕ → ℕ → Float
length_in work n q k = Ieee.of_bits binary32 (get_or work (lengths_at n + (4 * q + k)) 0)

-- a quad that the first rule left, by the second
unfoldable pub skew_mark : Float → List ℕ → ℕ → ℕ → ℕ
skew_mark limit work n q = cond (eqb (get_or work q 0) 0) (cond (uneven limit (length_in work n q)) 2 0) (get_or work q 0)

-- the median of q's group that stands in the workspace
unfoldable pub median_in : List ℕ → ℕ → ℕ → Float
median_in work n q = Ieee.of_bits binary32 (get_or work (medians_at n + get_or work (groups_at n + q) 0) 0)

-- a quad that the second rule left, by the third
unfoldable pub size_mark : FilterParams → List ℕ → ℕ → ℕ → ℕ
size_mark p work n q = cond (eqb (get_or work q 0) 0) (cond (off_size p (median_in work n q) (length_in work n q)) 3 0) (get_or work q 0)

-- a record for each of the first m quads: its number, and its group
pub record Recorded (n m : ℕ) (xs ys : List ℕ) : Type 0 where
  pub kept : Kept xs ys (records_at n) (2 * n)
  pub numbers : (q : ℕ) → q < m → word_of ys (records_at n) 0 q ≡ q
  pub groups : (q : ℕ) → q < m → word_of ys (records_at n) 1 q ≡ get_or xs (groups_at n + q) 0

-- the lengths by group: those of the quad of each record, in the order of the records
pub record Gathered (n : ℕ) (xs ys : List ℕ) : Type 0 where
  pub kept : Kept xs ys (gathered_at n) (4 * n)
  pub lengths : (k j : ℕ) → k < n → j < 4 → get_or ys (gathered_at n + (4 * k + j)) 0 ≡ get_or xs (lengths_at n + (4 * word_of xs (records_at n) 0 k + j)) 0

-- of m places with groups, those from s up to e are all that have one group
pub record Run (group : ℕ → ℕ) (m s e : ℕ) : Type 0 where
  pub some : s < e
  pub within : e ≤ m
  pub alike : (k : ℕ) → s ≤ k → k < e → group k ≡ group s
  pub before : (k : ℕ) → k < s → group k < group s
  pub after : (k : ℕ) → e ≤ k → k < m → group s < group k

-- the median of the group of record k is the middle one of its run's lengths
pub record MedianAt (n : ℕ) (xs ys : List ℕ) (k : ℕ) : Type 0 where
  pub s : ℕ
  pub e : ℕ
  pub run : Run (word_of xs (records_at n) 1) n s e
  pub from : s ≤ k
  pub to : k < e
  pub is : Middle (λ (j : ℕ). get_or xs (gathered_at n + (4 * s + j)) 0) (4 * (e - s)) (get_or ys (medians_at n + word_of xs (records_at n) 1 k) 0)

-- the groups of the records ascend, and are below n
pub record Rising (n : ℕ) (work : List ℕ) : Type 0 where
  pub rising : (j k : ℕ) → j ≤ k → k < n → word_of work (records_at n) 1 j ≤ word_of work (records_at n) 1 k
  pub small : (k : ℕ) → k < n → word_of work (records_at n) 1 k < n

-- the medians of the first m records stand in their place; the lengths by group may have moved, and all else is as it was
pub record Centred (n m : ℕ) (xs ys : List ℕ) : Type 0 where
  pub len : length ys ≡ length xs
  pub rest : (k : ℕ) → Outside (gathered_at n) (4 * n) k → Outside (medians_at n) n k → get_or ys k 0 ≡ get_or xs k 0
  pub medians : (k : ℕ) → k < m → MedianAt n xs ys k

-- how many of the first m places have the group g and a length below b
unfoldable pub lower_in : (ℕ → ℕ) → (ℕ → ℕ) → ℕ → ℕ → ℕ → ℕ
lower_in group len g zero b = 0
lower_in group len g (suc m) b = lower_in group len g m b + one (eqb (group m) g && ltb (len m) b)

-- b is the median of the lengths of group g, as words: so many are less, and so many are not greater
pub record MiddleWord (group len : ℕ → ℕ) (m g b : ℕ) : Type 0 where
  pub at : ℕ
  pub at_lt : at < m
  pub of : group at ≡ g
  pub is : len at ≡ b
  pub before : lower_in group len g m b ≤ equal group m g / 2
  pub after : equal group m g / 2 < lower_in group len g m (b + 1)

-- the groups of the quads left and their medians stand in their places; marks and lengths are as they were
pub record Weighed (quads : List ℕ) (n : ℕ) (xs ys : List ℕ) : Type 0 where
  pub len : length ys ≡ length xs
  pub marks : (k : ℕ) → k < n → get_or ys k 0 ≡ get_or xs k 0
  pub lengths : (e : ℕ) → e < 4 * n → get_or ys (lengths_at n + e) 0 ≡ get_or xs (lengths_at n + e) 0
  pub groups : Groups (Neighbours 4 quads (unmarked xs)) n (λ (q : ℕ). get_or ys (groups_at n + q) 0)
  pub medians : (q : ℕ) → q < n
      → MiddleWord (λ (e : ℕ). get_or ys (groups_at n + e / 4) 0) (λ (e : ℕ). get_or xs (lengths_at n + e) 0) (4 * n) (get_or ys (groups_at n + q) 0) (get_or ys (medians_at n + get_or ys (groups_at n + q) 0) 0)

-- the third rule is skipped, or the marks are set by what was weighed
pub data Sized (p : FilterParams) (quads : List ℕ) (n : ℕ) (xs ys : List ℕ) : Type 0 where
  idle : is_skipped p ≡ true → ys ≡ xs → Sized p quads n xs ys
  weighed : {mid : List ℕ} → is_skipped p ≡ false → Weighed quads n xs mid → Filled mid ys 0 n n (size_mark p mid n) → Sized p quads n xs ys

-- the marks of the input stand at the front of the workspace
pub record Judged (i : Input) (xs ys : List ℕ) : Type 0 where
  pub len : length ys ≡ length xs
  pub marks : List ℕ
  pub marked : Marked i marks
  pub held : (q : ℕ) → q < quad_count i → get_or ys q 0 ≡ get_or marks q 0
