-- What becomes of a quad's group: the first that applies of document 01's reasons to drop it, or it is kept; with a labelling, also how many
-- pairs are claimed by several corners.
use Rattle.std.specs.Prelude.{◌≡◌, ◌≢◌, Bool, true, false, List, ℕ, ◌≤◌, ◌<◌}
use Rattle.cells.specs.Kind.{Pair, Lone, Claimed}
use Rattle.cells.specs.Counted.{Exactly}
use Rattle.cells.specs.Listed.{Grouping, members, Labelling}
use Rattle.cells.specs.Quads.{quads}
use Rattle.fates.specs.declared.Fate.{Fate}
use Rattle.fates.specs.declared.Fate.TheVariants.{NotLowest, TooFewQuads, NoLabelling, TooFewLone, Kept}

module _ (cells : List ℕ) (g : Grouping) (s : ℕ) where
  -- quad s is the lowest of a group with the least quads, L is its labelling, so many corners are lone and so many pairs claimed by several
  pub record Labels (lone claimed : ℕ) : Type 0 where
    pub lowest : g.number s ≡ s
    pub enough : g.least_cells ≤ members quads cells g s
    pub L : ℕ → Pair
    pub labelling : Labelling quads cells g s L
    pub lones : Exactly (Lone quads cells s L) lone
    pub claims : Exactly (Claimed quads cells s L) claimed

  pub data Becomes : Fate → Type 0 where
    not_lowest : g.number s ≢ s → Becomes NotLowest
    few_quads : g.number s ≡ s → members quads cells g s < g.least_cells → Becomes TooFewQuads
    no_labelling : g.number s ≡ s → g.least_cells ≤ members quads cells g s → ((L : ℕ → Pair) → Labelling quads cells g s L → ⊥) → Becomes NoLabelling
    few_lone : {lone claimed : ℕ} → Labels lone claimed → lone < g.least_corners → Becomes (TooFewLone claimed)
    kept : {lone claimed : ℕ} → Labels lone claimed → g.least_corners ≤ lone → Becomes (Kept claimed)

-- the fate is to be kept
unfoldable pub is_kept : Fate → Bool
is_kept NotLowest = false
is_kept TooFewQuads = false
is_kept NoLabelling = false
is_kept (TooFewLone claimed) = false
is_kept (Kept claimed) = true
