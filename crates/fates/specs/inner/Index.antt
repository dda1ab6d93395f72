-- Where the records of each quad's group stand: in a table of records in order of the quads each has a run, and four words of the workspace
-- tell a quad's runs among the lone corners' records and among those of all reached corners.
use Rattle.std.specs.Prelude.{◌≡◌, List, ℕ, ◌+◌, ◌*◌, ◌-◌, ◌≤◌, ◌<◌, get_or}
use Rattle.fates.specs.declared.Run.{Run}
use Rattle.fates.specs.declared.Runs.{Runs}
use Rattle.fates.specs.inner.Fates.{records_at, lone_at, seed_in}

-- of m records from a on those of quad s are the ones from `from` up to `to`
pub record Stretch (w : List ℕ) (a m s from to : ℕ) : Type 0 where
  pub up : from ≤ to
  pub most : to ≤ m
  pub before : (k : ℕ) → k < from → seed_in w a k < s
  pub within : (k : ℕ) → from ≤ k → k < to → seed_in w a k ≡ s
  pub after : (k : ℕ) → to ≤ k → k < m → s < seed_in w a k

-- the run is that of quad s
pub record RunOf (w : List ℕ) (a m s : ℕ) (run : Run) : Type 0 where
  pub from : ℕ
  pub to : ℕ
  pub stretch : Stretch w a m s from to
  pub at : run.at ≡ a + 2 * from
  pub count : run.count ≡ to - from

abbrev pub index_at : (span n s : ℕ) → ℕ
index_at span n s = 4 * span + 8 * n + 4 * s

-- the runs of quad s as the workspace says them
abbrev pub runs_at : ℕ → ℕ → List ℕ → ℕ → Runs
runs_at span n w s = record {
  lone = record { at = get_or w (index_at span n s) 0; count = get_or w (index_at span n s + 1) 0 };
  all = record { at = get_or w (index_at span n s + 2) 0; count = get_or w (index_at span n s + 3) 0 };
}

-- it says where they are, with m lone records and `all` in all
pub record Indexed (span n : ℕ) (w : List ℕ) (all m s : ℕ) : Type 0 where
  pub lone : RunOf w (lone_at span) m s (runs_at span n w s).lone
  pub all_run : RunOf w (records_at span n) all s (runs_at span n w s).all
