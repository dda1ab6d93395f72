-- What the routines that judge the quads ask and leave: runs in a table of records, records that begin a claim, the first fate that applies
-- by the numbers of a group, and the words of the quads that are judged.
use Rattle.std.specs.Prelude.{◌≡◌, ◌≢◌, List, ℕ, ◌+◌, ◌*◌, ◌≤◌, ◌<◌, length, get_or, set}
use Rattle.words.specs.inner.Regions.{Outside}
use Rattle.cells.specs.Counted.{Exactly}
use Rattle.mesh.specs.Lists.{most_corners}
use Rattle.fates.specs.declared.LabelParams.{LabelParams}
use Rattle.fates.specs.declared.Fate.{Fate}
use Rattle.fates.specs.declared.Fate.TheVariants.{NotLowest, TooFewQuads, NoLabelling, TooFewLone, Kept}
use Rattle.fates.specs.declared.Run.{Run}
use Rattle.fates.specs.declared.Runs.{Runs}
use Rattle.fates.specs.inner.Fates.{fates_at, records_at, walked_at, lone_at, fate_of, walked_of, seed_in}
use Rattle.fates.specs.inner.Singles.{Follows}
use Rattle.fates.specs.inner.FateWords.{fate_number, claimed_in, fate_at}
use Rattle.fates.specs.inner.Index.{RunOf, index_at, runs_at}

-- ---- runs

-- m records from a on, in order of the quads
pub record Lined (w : List ℕ) (a m : ℕ) : Type 0 where
  pub room : a + 2 * m ≤ length w
  pub ascends : (j k : ℕ) → j ≤ k → k < m → seed_in w a j ≤ seed_in w a k

-- the first of them that is of quad s or a higher one is at `from`
pub record Cursor (w : List ℕ) (a m s from : ℕ) : Type 0 where
  pub most : from ≤ m
  pub before : (k : ℕ) → k < from → seed_in w a k < s
  pub after : (k : ℕ) → from ≤ k → k < m → s ≤ seed_in w a k

-- record k of the `count` from a on is unlike the one before it and alike the next
pub record Begins (w : List ℕ) (a count k : ℕ) : Type 0 where
  pub first : Follows w a k → ⊥
  pub more : k + 1 < count
  pub next : Follows w a (k + 1)

-- ---- one quad

-- the first that applies, by how many quads the group has, how many the walk reached, how many corners are lone and pairs claimed
pub data Falls (params : LabelParams) (size reached lone claims : ℕ) : Fate → Type 0 where
  not_lowest : size ≡ 0 → Falls params size reached lone claims NotLowest
  few_quads : size ≢ 0 → size < params.quads → Falls params size reached lone claims TooFewQuads
  no_labelling : size ≢ 0 → params.quads ≤ size → reached ≡ 0 → Falls params size reached lone claims NoLabelling
  few_lone : size ≢ 0 → params.quads ≤ size → reached ≢ 0 → lone < params.corners → Falls params size reached lone claims (TooFewLone claims)
  kept : size ≢ 0 → params.quads ≤ size → reached ≢ 0 → params.corners ≤ lone → Falls params size reached lone claims (Kept claims)

-- the words that say a fate and two runs
abbrev pub with_fate : (span n s : ℕ) → Fate → List ℕ → List ℕ
with_fate span n s fate w = set (set w (fates_at span n + s) (fate_number fate)) (walked_at span n + s) (claimed_in fate)

abbrev pub with_runs : (span n s : ℕ) → Runs → List ℕ → List ℕ
with_runs span n s runs w =
    set (set (set (set w (index_at span n s) runs.lone.at) (index_at span n s + 1) runs.lone.count) (index_at span n s + 2) runs.all.at) (index_at span n s + 3) runs.all.count

-- a workspace for n quads, of which s is one
pub record Spacious (span n s : ℕ) (w : List ℕ) : Type 0 where
  pub room : 4 * span + 27 * n ≤ length w
  pub few : n ≤ span
  pub most : span ≤ most_corners
  pub small : s < n

-- a run within the workspace, below the words of the walks
pub record Inside (span n : ℕ) (run : Run) : Type 0 where
  pub at : run.at ≤ walked_at span n
  pub end : run.at + 2 * run.count ≤ walked_at span n

-- quad s, which has these runs, has the fate that applies in xs
pub record Verdict (span n : ℕ) (params : LabelParams) (s : ℕ) (runs : Runs) (xs : List ℕ) (fate : Fate) : Type 0 where
  pub claims : ℕ
  pub counted : Exactly (Begins xs runs.all.at runs.all.count) claims
  pub falls : Falls params (fate_of span n xs s) (walked_of span n xs s) runs.lone.count claims fate

-- ys is xs with the words of quad s
pub record Settled (span n : ℕ) (params : LabelParams) (s : ℕ) (runs : Runs) (xs ys : List ℕ) : Type 0 where
  pub fate : Fate
  pub verdict : Verdict span n params s runs xs fate
  pub is : ys ≡ with_runs span n s runs (with_fate span n s fate xs)

-- ---- all quads

-- the words of quad q in ys are its runs and its fate, by the words in xs
pub record Ruled (span n : ℕ) (params : LabelParams) (all m : ℕ) (xs ys : List ℕ) (q : ℕ) : Type 0 where
  pub lone : RunOf xs (lone_at span) m q (runs_at span n ys q).lone
  pub all_run : RunOf xs (records_at span n) all q (runs_at span n ys q).all
  pub verdict : Verdict span n params q (runs_at span n ys q) xs (fate_at span n ys q)

-- the quads below s are judged; nothing else has changed
pub record Judges (span n : ℕ) (params : LabelParams) (all m s : ℕ) (xs ys : List ℕ) : Type 0 where
  pub len : length ys ≡ length xs
  pub rest : (k : ℕ) → Outside (index_at span n 0) (4 * s) k → Outside (fates_at span n) s k → Outside (walked_at span n) s k → get_or ys k 0 ≡ get_or xs k 0
  pub ruled : (q : ℕ) → q < s → Ruled span n params all m xs ys q

-- what the judging asks: records of all reached corners and of the lone ones, each in order of the quads
pub record Tabled (span n all m : ℕ) (w : List ℕ) : Type 0 where
  pub room : 4 * span + 27 * n ≤ length w
  pub few : n ≤ span
  pub most : span ≤ most_corners
  pub few_all : all ≤ 4 * n
  pub few_lone : m ≤ 4 * n
  pub all_lined : Lined w (records_at span n) all
  pub lone_lined : Lined w (lone_at span) m
