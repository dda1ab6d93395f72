-- What a call's answer says of the bytes that its reader has left, or its writer holds. Assumes nothing.
use Rattle.std.proofs.Common.{◌≡◌, ℕ, ◌+◌, ◌-◌, ◌≤◌, ◌<◌, min, Bool, true, false, List, [], ◌++◌, length, take, drop, refl, sym, ap, ◌∙◌, subst, arith, pos, negsuc, ℤ, None, Some, Option, Result, Ok, Err, IfOk, ◌⊎◌, inl, inr, append-nil, length-append, length-drop, length-take}
use mathlib.Core.Bool.{cond}
use Prim.Native.Nat.{◌^◌}
use mir.Syntax.{w64}
use mir.Val.{to_z}
use mir.Facts.{to_z_pos}
use lib.Dec.{eqb}
use lib.Seq.{take-add, take_at, drop_at, take-append-le, length-take-le, take-take}
use borrow.Author.Tests.{eqb-true, eqb-false}
use borrow.Rule.Slice.PartMut.{put_mid}
use Rattle.io.specs.Counts.{IsPrefixLen}
use Rattle.io.proofs.Counting.{prefix_len_of_le}
use Rattle.std.specs.Result.{MatchResult, IsErrAnd}
use Rattle.std.specs.Io.{ReadsAtMost, WritesAtMost}
use Rattle.std.specs.Io.KnownBytes.{Keeps, Consumes, Appends, IsAtEnd, ReadConsumes, WriteAppends}
use Rattle.std.proofs.KnownBytes.{Keeps-trans, Consumes-trans, Appends-trans, Consumes-kept}
use Rattle.streams.specs.declared.Moved.{Moved}
use Rattle.streams.specs.declared.Moved.TheVariants as moved
use Rattle.streams.specs.Moves.{failure_of, moved_of, outcome_of, ended_by, CameTo, MovedWithin, ReadBy, WrittenBy, WholeRead}

-- ---- one call's answer

-- the library's count, which fits, and its failure
pub counted : {came : Moved} (n most : ℕ) (error : ℤ) → came ≡ outcome_of (to_z w64 n) error most → n ≤ most → n < 2 ^ 63 → came ≡ moved_of n
unfolding outcome_of
counted n most error is h f = rw (is, to_z_pos w64 f, (let m : min n most ≡ n = omega arith in m)) refl

pub failed : {came : Moved} (n most : ℕ) (error : ℤ) → came ≡ outcome_of (negsuc n) error most → came ≡ failure_of error
unfolding outcome_of
failed n most error is = is

split : (n : ℕ) (t : Bool) → eqb n 0 ≡ t → (most : ℕ) → n ≤ most → MovedWithin most (cond t moved.Nothing (moved.Some n))
split n true e most h = tt
split n false e most h = (omega (arith, eqb-false n 0 e), h)

-- a failure moves nothing, whichever it is
cut_off : (error : ℤ) → (failure_of error ≡ moved.Interrupted) ⊎ (failure_of error ≡ moved.Failed error)
unfolding failure_of
cut_off (negsuc e) = inr refl
cut_off (pos e) = elim (eqb e 4) as (λ t. (cond t moved.Interrupted (moved.Failed (pos e)) ≡ moved.Interrupted) ⊎ (cond t moved.Interrupted (moved.Failed (pos e)) ≡ moved.Failed (pos e))) [ true ↦ inl refl | false ↦ inr refl ]

-- a call on the front of a part moves no more than the part
pub within : {E : Type 0} (came : Moved) (answer : Result ℕ E) (few most : ℕ) → CameTo answer came → IfOk answer (λ n. n ≤ few) → few ≤ most → MovedWithin most came
unfolding moved_of
within came (Ok n) few most is h f = rw is (split n (eqb n 0) refl most (omega arith))
within came (Err why) few most (error, is) h f = elim (cut_off error) [ inl e ↦ rw (is, e) tt | inr e ↦ rw (is, e) tt ]

pub counted_within : {E : Type 0} (answer : Result ℕ E) (buf : List ℕ) → ReadsAtMost answer buf → IfOk answer (λ n. n ≤ length buf)
counted_within (Ok n) buf h = h.0
counted_within (Err why) buf h = tt

none_left : (old new : Option (List ℕ)) → Consumes old new [] → Keeps old new
none_left None new c = tt
none_left (Some x) None c = absurd c
none_left (Some x) (Some y) c = sym c

none_held : (old new : Option (List ℕ)) → Appends old new [] → Keeps old new
none_held None new c = tt
none_held (Some x) None c = absurd c
none_held (Some x) (Some y) c = c ∙ append-nil x

count_read : (old new : Option (List ℕ)) (n : ℕ) (part : List ℕ) (t : Bool) → eqb n 0 ≡ t → Consumes old new (take n part) → (n ≡ 0 → 0 < length part → IsAtEnd new)
    → ReadBy (cond t moved.Nothing (moved.Some n)) old new part
count_read old new n part true e c end =
    let z : n ≡ 0 = eqb-true n 0 e in
    (none_left old new (subst (λ (m : ℕ). Consumes old new (take m part)) z c), end z)
count_read old new n part false e c end = c

has_room : (buf part : List ℕ) (most : ℕ) → length buf ≡ length (take most part) → (0 < length part → 0 < most) → 0 < length (buf ++ drop most part) → 0 < length buf
has_room buf part most long room some =
    omega (arith, length-append buf (drop most part), length-drop most part, length-take most part)

-- a read into the front of a part, which has room where the part has
pub read_by : {E : Type 0} (came : Moved) (answer : Result ℕ E) (old new : Option (List ℕ)) (buf : List ℕ) (most : ℕ) (part : List ℕ) → CameTo answer came → ReadsAtMost answer buf
    → ReadConsumes old new answer buf → length buf ≡ length (take most part) → (0 < length part → 0 < most) → ReadBy came old new (buf ++ drop most part)
unfolding moved_of
read_by came (Ok n) old new buf most part is h (c, end) long room =
    let post = drop most part in
    rw is (count_read old new n (buf ++ post) (eqb n 0) refl (rw (take-append-le n buf post h.0) c) (λ z some. end z (has_room buf part most long room some)))
read_by came (Err why) old new buf most part (error, is) h k long room = elim (cut_off error) [ inl e ↦ rw (is, e) k | inr e ↦ rw (is, e) k ]

count_written : (old new : Option (List ℕ)) (n : ℕ) (part : List ℕ) (t : Bool) → eqb n 0 ≡ t → Appends old new (take n part)
    → WrittenBy (cond t moved.Nothing (moved.Some n)) old new part
count_written old new n part true e c = none_held old new (subst (λ (m : ℕ). Appends old new (take m part)) (eqb-true n 0 e) c)
count_written old new n part false e c = c

pub written_by : {E : Type 0} (came : Moved) (answer : Result ℕ E) (old new : Option (List ℕ)) (most : ℕ) (part : List ℕ) → CameTo answer came → WritesAtMost answer (take most part)
    → most ≤ length part → WriteAppends old new answer (take most part) → WrittenBy came old new part
unfolding moved_of
written_by came (Ok n) old new most part is h few a =
    let long = length-take-le most part few in
    rw is (count_written old new n part (eqb n 0) refl (rw (take-take n most part (omega (arith, h, long))) at a))
written_by came (Err why) old new most part (error, is) h few k = elim (cut_off error) [ inl e ↦ rw (is, e) k | inr e ↦ rw (is, e) k ]

-- ---- calls one after the other

kept_consumes : (a b c : Option (List ℕ)) (bs : List ℕ) → Keeps a b → Consumes b c bs → Consumes a c bs
kept_consumes None b c bs p q = tt
kept_consumes (Some x) None c bs p q = absurd p
kept_consumes (Some x) (Some y) None bs p q = absurd q
kept_consumes (Some x) (Some y) (Some z) bs p q = sym p ∙ q

kept_appends : (a b c : Option (List ℕ)) (bs : List ℕ) → Keeps a b → Appends b c bs → Appends a c bs
kept_appends None b c bs p q = tt
kept_appends (Some x) None c bs p q = absurd p
kept_appends (Some x) (Some y) None bs p q = absurd q
kept_appends (Some x) (Some y) (Some z) bs p q = q ∙ ap (λ (l : List ℕ). l ++ bs) p

pub kept_read : (came : Moved) (a b c : Option (List ℕ)) (part : List ℕ) → Keeps a b → ReadBy came b c part → ReadBy came a c part
kept_read (moved.Some n) a b c part k r = kept_consumes a b c _ k r
kept_read moved.Nothing a b c part k r = (Keeps-trans a b c k r.0, r.1)
kept_read moved.Interrupted a b c part k r = Keeps-trans a b c k r
kept_read (moved.Failed e) a b c part k r = Keeps-trans a b c k r

pub kept_written : (came : Moved) (a b c : Option (List ℕ)) (part : List ℕ) → Keeps a b → WrittenBy came b c part → WrittenBy came a c part
kept_written (moved.Some n) a b c part k r = kept_appends a b c _ k r
kept_written moved.Nothing a b c part k r = Keeps-trans a b c k r
kept_written moved.Interrupted a b c part k r = Keeps-trans a b c k r
kept_written (moved.Failed e) a b c part k r = Keeps-trans a b c k r

-- ---- a whole text

-- what is said of a reader that has read n bytes: that they stand at the front of the list, and what became of the reader
abbrev pub Whole : (old new : Option (List ℕ)) → List ℕ → ℕ → Type 0
Whole old new list n = IsPrefixLen n list × (Consumes old new (take n list) × (n < length list → IsAtEnd new))

-- and so `map_err` leaves it
pub mapped : {D : Type 0} (Q : ℤ → D → Type 0) (old new : Option (List ℕ)) (list : List ℕ) (r : Result ℕ ℤ) (s : Result ℕ D) → MatchResult r (λ n. s ≡ Ok n) (λ e. IsErrAnd s (Q e))
    → IfOk r (Whole old new list) → ReadsAtMost s list × WholeRead s old new list
mapped Q old new list (Ok n) s m w = rw m w
mapped Q old new list (Err e) (Ok x) m w = absurd m
mapped Q old new list (Err e) (Err d) m w = (tt, tt)

front_more : (at n : ℕ) (list part post : List ℕ) → at ≤ length list → n ≤ length part → take (at + n) (take at list ++ (part ++ post)) ≡ take at list ++ take n part
front_more at n list part post h f =
    let long : length (take at list) ≡ at = length-take-le at list h in
    take-add at n _ ∙ ap (λ (l : List ℕ). l ++ take n (drop at (take at list ++ (part ++ post)))) (take_at (take at list) (part ++ post) at long)
    ∙ ap (λ (l : List ℕ). take at list ++ take n l) (drop_at (take at list) (part ++ post) at long)
    ∙ ap (λ (l : List ℕ). take at list ++ l) (take-append-le n part post f)

pub more_read : (a b c : Option (List ℕ)) (at k n : ℕ) (list part : List ℕ) → at ≤ length list → n ≤ length part → Consumes a b (take at list) → ReadBy (moved.Some n) b c part
    → Consumes a c (take (at + n) (put_mid at k list part))
more_read a b c at k n list part h f p q = subst (Consumes a c) (sym (front_more at n list part _ h f)) (Consumes-trans a b c _ _ p q)

-- what ends a reader that has `at` bytes, which stand at the front of the list
pub ended_reader : (came : Moved) (a b c : Option (List ℕ)) (at k : ℕ) (list part : List ℕ) → at ≤ length list → Consumes a b (take at list) → ReadBy came b c part → 0 < length part
    → length (put_mid at k list part) ≡ length list → IfOk (ended_by came at) (Whole a c (put_mid at k list part))
unfolding ended_by
ended_reader moved.Nothing a b c at k list part h p q some same =
    let front : take at (put_mid at k list part) ≡ take at list = take_at (take at list) _ at (length-take-le at list h) in
    (prefix_len_of_le at _ (omega arith), (rw front (Consumes-kept a b c _ p q.0), λ _. q.1 some))
ended_reader (moved.Some n) a b c at k list part h p q some same = tt
ended_reader moved.Interrupted a b c at k list part h p q some same = tt
ended_reader (moved.Failed e) a b c at k list part h p q some same = tt

-- the rest of the text goes on where its front ends
pub more_written : (a b c : Option (List ℕ)) (at k n : ℕ) (text : List ℕ) → at + n ≤ length text → k ≡ length text - at → Appends a b (take at text) → WrittenBy (moved.Some n) b c (take k (drop at text))
    → Appends a c (take (at + n) text)
more_written a b c at k n text h e p q =
    let part : take n (take k (drop at text)) ≡ take n (drop at text) = take-take n k (drop at text) (omega arith) in
    subst (Appends a c) (sym (take-add at n text)) (Appends-trans a b c _ _ p (rw part at q))
