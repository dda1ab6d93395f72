-- What is printed for what a reader gave is the answer to all that the reader had. Assumes nothing.
use Rattle.std.proofs.Common.{◌≡◌, ℕ, ◌≤◌, ◌<◌, List, [], ◌++◌, length, take, None, Some, Option, Result, Ok, Err, OnOk, sym, ap, ◌∙◌, append-nil, arith}
use native.Mathlib.Decide.{dec_lt}
use lib.Seq.{take_all, take_at, length-take-le}
use Rattle.std.specs.Result.{MatchResult, IsErrAnd}
use Rattle.std.specs.Io.{ReadsAtMost}
use Rattle.streams.specs.Moves.{WholeRead}
use Rattle.gridlabel.specs.Output.{Prints, AnswersAll}

-- n bytes of a list are the input, of which `rest` is left: none, unless the list is full
as_read : (list input rest : List ℕ) (n : ℕ) → n ≤ length list → input ≡ take n list ++ rest → (n < length list → rest ≡ []) → Dec (n < length list)
    → take n list ≡ take (length list) input
as_read list input rest n h is end (yes l) =
    let all : input ≡ take n list = is ∙ ap (λ (r : List ℕ). take n list ++ r) (end l) ∙ append-nil (take n list) in
    let long = length-take-le n list h in
    sym all ∙ sym (take_all (length list) input (omega (arith, long, ap length all)))
as_read list input rest n h is end (no l) =
    let long = length-take-le n list h in
    sym (ap (take (length list)) is ∙ take_at (take n list) rest (length list) (omega (arith, long, l)))

module _ {E D : Type 0} (Q : E → D → Type 0) where
  -- what was read, by what `map_err` makes of it
  abbrev pub Mapped : Result ℕ E → Result ℕ D → Type 0
  Mapped read text = MatchResult read (λ n. text ≡ Ok n) (λ e. IsErrAnd text (Q e))

  pub all_answered : (read : Result ℕ E) (text : Result ℕ D) (list : List ℕ) (input left old new : Option (List ℕ)) → Mapped read text → ReadsAtMost read list
      → WholeRead read input left list → Prints text list old new → AnswersAll input old new
  all_answered read (Err d) list input left old new m f w p = absurd p
  all_answered (Err e) (Ok n) list input left old new m f w p = absurd m
  all_answered (Ok k) (Ok n) list None left old new m f w p = tt
  all_answered (Ok k) (Ok n) list (Some xs) None old new m f w p = absurd w.0
  all_answered (Ok k) (Ok n) list (Some xs) (Some ys) old new m f w p =
      let (answer, is, written) = p in
      let same : n ≡ k = cc in
      (answer, is xs (rw same (as_read list xs ys k f.0 w.0 w.1 (dec_lt k (length list)))), written)

pub on_ok : {T E P Q : Type 0} (r : Result T E) → (P → Q) → OnOk r P → OnOk r Q
on_ok (Ok x) h p = h p
on_ok (Err e) h p = tt
