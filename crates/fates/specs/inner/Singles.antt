-- Records of two words that are single, so that no other has the same seed and key; and what picking them out of ordered records leaves.
use Rattle.std.specs.Prelude.{◌≡◌, List, ℕ, ◌+◌, ◌*◌, ◌≤◌, ◌<◌, length}
use Rattle.words.specs.inner.Order.{word_of, grouped_of, Ordered}
use Rattle.fates.specs.inner.Fates.{records_at, key_in, seed_in}

-- records j and k of those from a on have one seed and one key
pub record Alike (w : List ℕ) (a j k : ℕ) : Type 0 where
  pub seed : seed_in w a j ≡ seed_in w a k
  pub key : key_in w a j ≡ key_in w a k

-- record k of the m from a on is the only one of its seed and key
abbrev pub Unique : List ℕ → ℕ → ℕ → ℕ → Type 0
Unique w a m k = (j : ℕ) → j < m → Alike w a j k → j ≡ k

-- record k is alike the one before it
pub record Follows (w : List ℕ) (a k : ℕ) : Type 0 where
  pub before : ℕ
  pub next : before + 1 ≡ k
  pub alike : Alike w a before k

-- the m records from a on ascend by seed and key
pub record SeedOrder (w : List ℕ) (a m : ℕ) : Type 0 where
  pub small : (k : ℕ) → k < m → key_in w a k < 4294967296
  pub rises : (j k : ℕ) → j ≤ k → k < m → grouped_of w a j ≤ grouped_of w a k

-- record i of those from b on in ys is record k of those from a on in xs
pub record CopyOf (xs ys : List ℕ) (a b k i : ℕ) : Type 0 where
  pub key : word_of ys b 0 i ≡ word_of xs a 0 k
  pub number : word_of ys b 1 i ≡ word_of xs a 1 k

-- record i is a single one of the first h
pub record From (xs ys : List ℕ) (a b m h i : ℕ) : Type 0 where
  pub of : ℕ
  pub small : of < h
  pub single : Unique xs a m of
  pub copied : CopyOf xs ys a b of i

-- record k is one of the r
pub record To (xs ys : List ℕ) (a b r k : ℕ) : Type 0 where
  pub at : ℕ
  pub small : at < r
  pub copied : CopyOf xs ys a b k at

-- the r records of ys from b on are the single ones of the first h of the m records of xs from a on, ascending by seed and key
pub record Picked (xs ys : List ℕ) (a b m h r : ℕ) : Type 0 where
  pub few : r ≤ h
  pub from : (i : ℕ) → i < r → From xs ys a b m h i
  pub to : (k : ℕ) → k < h → Unique xs a m k → To xs ys a b r k
  pub rises : (i j : ℕ) → i < j → j < r → grouped_of ys b i < grouped_of ys b j

-- room for m records, whose keys are words, at the place of the records of n quads
pub record Batch (span n m : ℕ) (w : List ℕ) : Type 0 where
  pub room : 4 * span + 26 * n ≤ length w
  pub most : n ≤ 4096
  pub few : m ≤ 4 * n
  pub small : (k : ℕ) → k < m → key_in w (records_at span n) k < 4294967296

-- the m records from a on are in order, all the single ones of them are picked, and nothing outside the two regions has changed
pub record LoneFrom (xs ys : List ℕ) (a b m r : ℕ) : Type 0 where
  pub ordered : Ordered (grouped_of xs a) xs ys a b m
  pub picked : Picked xs ys a b m m r
