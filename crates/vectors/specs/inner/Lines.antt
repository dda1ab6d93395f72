-- What the lines of the programs tell beside a refusal: a file's name, numbers of records in decimal, and a list as runs of equal words.
use Rattle.std.specs.Prelude.{cond, List, [], ◌∷◌, ◌++◌, ◌≡◌, ℕ, zero, suc, ◌+◌, ◌≤◌, ◌<◌, eqb, length, get_or}
use Rattle.digits.specs.Digits.{decimal_of}

-- a file's heading: "# ", its name, and the line's end
unfoldable pub heading : List ℕ → List ℕ
heading name = 35 ∷ 32 ∷ (name ++ (10 ∷ []))

-- "done" and the number
unfoldable pub count_line : ℕ → List ℕ
count_line count = 100 ∷ 111 ∷ 110 ∷ 101 ∷ 32 ∷ (decimal_of count ++ (10 ∷ []))

-- "done" and both numbers
unfoldable pub counts_line : ℕ → ℕ → List ℕ
counts_line first second = 100 ∷ 111 ∷ 110 ∷ 101 ∷ 32 ∷ (decimal_of first ++ (32 ∷ (decimal_of second ++ (10 ∷ []))))

-- 1 where a run begins at a place: the first, and each whose word differs from the word before
unfoldable pub begins_at : List ℕ → ℕ → ℕ
begins_at list zero = 1
begins_at list (suc k) = cond (eqb (get_or list (suc k) 0) (get_or list k 0)) 0 1

-- how many of the first n places begin a run
unfoldable pub runs_to : List ℕ → ℕ → ℕ
runs_to list zero = 0
runs_to list (suc k) = runs_to list k + begins_at list k

abbrev pub runs_of : List ℕ → ℕ
runs_of list = runs_to list (length list)

-- from `from` up to `end` stands one word, and no longer: another follows, or the list ends
pub record Run (list : List ℕ) (from end : ℕ) : Type 0 where
  pub after : from < end
  pub within : end ≤ length list
  pub same : (k : ℕ) → from ≤ k → k < end → get_or list k 0 ≡ get_or list from 0
  pub other : end < length list → get_or list end 0 ≡ get_or list from 0 → ⊥
