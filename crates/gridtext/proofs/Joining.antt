-- Pieces printed one after the other: the text of the first n is that of the first i and more, so each piece has room where the whole has.
-- The lines of entries and of components that are read from words are such pieces. Assumes nothing.
use mathlib.Core.Path.{◌≡◌, refl, sym, ap, ◌∙◌}
use mathlib.Core.List.{List, [], ◌∷◌, ◌++◌, append_assoc, append-nil, map}
use Prim.Native.Nat.{ℕ, zero, suc, ◌+◌, ◌-◌, ◌≤◌, ◌<◌}
use native.Mathlib.Numerals.{add-one}
use native.Mathlib.Omega.{arith}
use lib.ListN.{length, get_or, length-append}
use Rattle.walk.specs.Read.{entry_at, entries_from, component_at, components_from}
use Rattle.digits.specs.Digits.{decimal_of}
use Rattle.gridtext.specs.Lines.{spaced}
use Rattle.gridtext.specs.Answer.{entry_line, entry_lines, component_lines}
use Rattle.gridtext.specs.inner.Printed.{Printed, Room}
use Rattle.gridtext.proofs.Printing.{printed_then}

-- the pieces below n
unfoldable pub joined : (ℕ → List ℕ) → ℕ → List ℕ
joined f zero = []
joined f (suc n) = joined f n ++ f n

joined_grows : (f : ℕ → List ℕ) (i d : ℕ) → length (joined f i) ≤ length (joined f (d + i))
unfolding joined
joined_grows f i zero = let e : 0 + i ≡ i = omega arith in rw e (omega arith)
joined_grows f i (suc d) =
    let e : suc d + i ≡ suc (d + i) = omega arith in
    rw e (omega (arith, joined_grows f i d, length-append (joined f (d + i)) (f (d + i))))

-- ---- piece by piece

pub joined_none : (f : ℕ → List ℕ) (out : List ℕ) (at : ℕ) → at ≤ length out → Printed out out at (joined f 0) at
unfolding joined
joined_none f out at h = record { len = refl; ends = omega arith; within = h; is = sym (append-nil _); rest = refl }

pub joined_more : {b m a : List ℕ} {at k r i : ℕ} (f : ℕ → List ℕ) → Printed b m at (joined f i) k → Printed m a k (f i) r → Printed b a at (joined f (i + 1)) r
unfolding joined
joined_more {i = i} f p q = rw (add-one i) (printed_then p q)

pub joined_room : {b m : List ℕ} {at k i : ℕ} (f : ℕ → List ℕ) (n : ℕ) → Printed b m at (joined f i) k → i < n → Room b at (joined f n) → Room m k (f i)
unfolding joined
joined_room {i = i} f n p h r =
    let e : n - suc i + suc i ≡ n = omega arith in
    let g = rw e at (joined_grows f (suc i) (n - suc i)) in
    omega (arith, p.len, p.ends, length-append (joined f i) (f i))

-- the first of them apart
pub joined_first : (f : ℕ → List ℕ) (n : ℕ) → joined f (suc n) ≡ f 0 ++ joined (λ (i : ℕ). f (suc i)) n
unfolding joined
joined_first f zero = rw append-nil
joined_first f (suc n) = rw (joined_first f n, append_assoc)

joined_same : (f g : ℕ → List ℕ) → ((i : ℕ) → f i ≡ g i) → (n : ℕ) → joined f n ≡ joined g n
unfolding joined
joined_same f g e zero = refl
joined_same f g e (suc n) = rw (joined_same f g e n, e n)

-- ---- the last fields of a line

abbrev pub field_piece : (fields : List ℕ) → ℕ → List ℕ
field_piece fields i = 32 ∷ decimal_of (get_or fields i 0)

pub fields_joined : (fields : List ℕ) → joined (field_piece fields) (length fields) ≡ spaced (map decimal_of fields)
unfolding joined spaced
fields_joined [] = refl
fields_joined (a ∷ l) = joined_first (field_piece (a ∷ l)) (length l) ∙ ap (λ (t : List ℕ). (32 ∷ decimal_of a) ++ t) (fields_joined l)

-- ---- entries

abbrev pub entry_piece : (entries : List ℕ) (before : ℕ) → ℕ → List ℕ
entry_piece entries before i = entry_line (entry_at entries (before + i))

pub entries_joined : (w : List ℕ) (b n : ℕ) → joined (entry_piece w b) n ≡ entry_lines (entries_from w b n)
unfolding joined entry_lines entries_from
entries_joined w b zero = refl
entries_joined w b (suc n) =
    let z : b + 0 ≡ b = omega arith in
    joined_first (entry_piece w b) n
    ∙ rw z
    (ap (λ (l : List ℕ). entry_line (entry_at w b) ++ l)
    (joined_same _ (entry_piece w (b + 1)) (λ i. let e : b + suc i ≡ b + 1 + i = omega arith in rw e) n ∙ entries_joined w (b + 1) n))

-- ---- components

abbrev pub component_piece : (components entries : List ℕ) → ℕ → List ℕ
component_piece components entries j = component_lines j (component_at components entries j ∷ [])

from_joined : (c e : List ℕ) (j n : ℕ) → joined (λ (i : ℕ). component_piece c e (j + i)) n ≡ component_lines j (components_from c e j n)
unfolding joined component_lines components_from
from_joined c e j zero = refl
from_joined c e j (suc n) =
    let z : j + 0 ≡ j = omega arith in
    let s : j + 1 ≡ suc j = omega arith in
    let piece = component_piece c e in
    let onward = joined_same (λ (i : ℕ). piece (j + suc i)) (λ (i : ℕ). piece (j + 1 + i)) (λ i. let k : j + suc i ≡ j + 1 + i = omega arith in ap piece k) n in
    joined_first (λ (i : ℕ). piece (j + i)) n
    ∙ rw (z, onward, from_joined c e (j + 1) n) (rw s (simp (append_assoc, append-nil)))

pub components_joined : (c e : List ℕ) (n : ℕ) → joined (component_piece c e) n ≡ component_lines 0 (components_from c e 0 n)
components_joined c e n = joined_same (component_piece c e) _ (λ i. let z : i ≡ 0 + i = omega arith in ap (component_piece c e) z) n ∙ from_joined c e 0 n
