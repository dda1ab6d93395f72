-- What a call of the system that moves bytes came to, by its answer and by errno. Only an answer of 0 moved nothing, which of a read is the
-- end of the input; one below 0 failed, or was cut off by a signal.
use Rattle.std.specs.Prelude.{◌≡◌, cond, List, ℕ, min, ◌≤◌, ◌<◌, eqb, ℤ, pos, negsuc, Option, Result, Ok, Err, IfOk, length, take}
use Rattle.std.specs.Io.KnownBytes.{Keeps, Consumes, Appends, IsAtEnd}
use Rattle.streams.specs.declared.Moved.{Moved}
use Rattle.streams.specs.declared.Moved.TheVariants.{Some, Nothing, Interrupted, Failed}

-- errno 4 is EINTR
unfoldable pub failure_of : ℤ → Moved
failure_of (pos error) = cond (eqb error 4) Interrupted (Failed (pos error))
failure_of (negsuc error) = Failed (negsuc error)

unfoldable pub moved_of : ℕ → Moved
moved_of n = cond (eqb n 0) Nothing (Some n)

-- of a call that was to move `most` bytes
unfoldable pub outcome_of : ℤ → ℤ → ℕ → Moved
outcome_of (negsuc answer) error most = failure_of error
outcome_of (pos answer) error most = moved_of (min answer most)

-- what a reader of `at` bytes came to by a call that moved none: only the end of the input ends it well; else the errno, or 0
unfoldable pub ended_by : Moved → ℕ → Result ℕ ℤ
ended_by Nothing at = Ok at
ended_by (Some n) at = Err (pos 0)
ended_by Interrupted at = Err (pos 4)
ended_by (Failed error) at = Err error

-- what the standard library's answer comes to
abbrev pub CameTo : {E : Type 0} → Result ℕ E → Moved → Type 0
CameTo (Ok n) came = came ≡ moved_of n
CameTo (Err why) came = (error : ℤ) × came ≡ failure_of error

-- what was moved is something, and at most `most` bytes
abbrev pub MovedWithin : ℕ → Moved → Type 0
MovedWithin most (Some n) = (0 < n) × (n ≤ most)
MovedWithin most Nothing = Unit
MovedWithin most Interrupted = Unit
MovedWithin most (Failed error) = Unit

-- what a read into a part, that came to this, did to the bytes that its reader has left, where those are known: `old` before it, `new` after
abbrev pub ReadBy : Moved → (old new : Option (List ℕ)) → (part : List ℕ) → Type 0
ReadBy (Some n) old new part = Consumes old new (take n part)
ReadBy Nothing old new part = Keeps old new × (0 < length part → IsAtEnd new)
ReadBy Interrupted old new part = Keeps old new
ReadBy (Failed error) old new part = Keeps old new

-- what a write of a part, that came to this, did to the bytes that its writer holds, where those are known
abbrev pub WrittenBy : Moved → (old new : Option (List ℕ)) → (part : List ℕ) → Type 0
WrittenBy (Some n) old new part = Appends old new (take n part)
WrittenBy Nothing old new part = Keeps old new
WrittenBy Interrupted old new part = Keeps old new
WrittenBy (Failed error) old new part = Keeps old new

-- what was read stands at the front of the list and is gone from the reader, which is at its end unless the list is full
abbrev pub WholeRead : {E : Type 0} → Result ℕ E → (old new : Option (List ℕ)) → (list : List ℕ) → Type 0
WholeRead answer old new list = IfOk answer (λ n. Consumes old new (take n list) × (n < length list → IsAtEnd new))
