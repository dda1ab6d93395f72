-- A text printed after another is printed with it. Where a whole has room, so has a part that it begins with, and so, after that part, has
-- what follows. Assumes nothing.
use mathlib.Core.Path.{◌≡◌, sym, ap, ◌∙◌}
use mathlib.Core.List.{List, ◌++◌, append_assoc}
use Prim.Native.Nat.{ℕ, ◌+◌}
use native.Mathlib.Omega.{arith}
use lib.ListN.{length, take, drop, length-append, length-drop}
use lib.Seq.{take_at, drop_at, drop-drop, length-take-le}
use Rattle.gridtext.specs.inner.Printed.{Printed, Room}

-- ---- one text

-- bytes put in the place of as many
pub printed_between : (before after text : List ℕ) (at end : ℕ) → Room before at text → end ≡ at + length text → after ≡ take at before ++ (text ++ drop end before) → Printed before after at text end
printed_between before after text at end h n e =
    let f : after ≡ (take at before ++ text) ++ drop end before = e ∙ sym (append_assoc (take at before) text (drop end before)) in
    let m : length (take at before ++ text) ≡ end = length-append (take at before) text ∙ ap (λ (k : ℕ). k + length text) (length-take-le at before (omega arith)) ∙ sym n in
    let l : length after ≡ length before = ap length f ∙ length-append (take at before ++ text) (drop end before) ∙ rw (m, length-drop) (omega arith) in
    record {
      len = l;
      ends = n;
      within = omega arith;
      is = ap (take end) f ∙ take_at (take at before ++ text) (drop end before) end m;
      rest = ap (drop end) f ∙ drop_at (take at before ++ text) (drop end before) end m;
    }

-- ---- a text after another

pub printed_then : {b m a : List ℕ} {at k r : ℕ} {s t : List ℕ} → Printed b m at s k → Printed m a k t r → Printed b a at (s ++ t) r
printed_then {b} {m} {a} {at} {k} {r} {s} {t} p q =
    let n : length (s ++ t) ≡ length s + length t = length-append s t in
    let e : r ≡ k + length t = q.ends in
    let d : drop r m ≡ drop r b = ap (λ (i : ℕ). drop i m) e ∙ sym (drop-drop (length t) k m) ∙ ap (drop (length t)) p.rest ∙ drop-drop (length t) k b ∙ ap (λ (i : ℕ). drop i b) (sym e) in
    record {
      len = q.len ∙ p.len;
      ends = omega (arith, p.ends);
      within = q.within;
      is = q.is ∙ ap (λ (l : List ℕ). l ++ t) p.is ∙ append_assoc (take at b) s t;
      rest = q.rest ∙ d;
    }

-- the same text, written otherwise
pub printed_as : {b a : List ℕ} {at r : ℕ} {s t : List ℕ} → s ≡ t → Printed b a at s r → Printed b a at t r
printed_as {b} {a} {at} {r} e p = rw e at p

pub room_first : (out : List ℕ) (at : ℕ) (s t : List ℕ) {whole : List ℕ} → s ++ t ≡ whole → Room out at whole → Room out at s
room_first out at s t e h = omega (arith, ap length e, length-append s t)

pub room_next : {b m : List ℕ} {at k : ℕ} {s : List ℕ} (t : List ℕ) {whole : List ℕ} → Printed b m at s k → s ++ t ≡ whole → Room b at whole → Room m k t
room_next {s = s} t p e h = omega (arith, p.len, p.ends, ap length e, length-append s t)
