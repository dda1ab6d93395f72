-- Neighbours of one key in the table: taken one by one, as they are met, they make the classes that the whole table makes. Assumes nothing.
use mathlib.Core.Path.{◌≡◌, refl, sym, ap, ◌∙◌}
use mathlib.Core.Logic.{◌⊎◌, inl, inr}
use mathlib.Core.List.{List}
use Prim.Native.Nat.{ℕ, ◌+◌, ◌*◌, ◌-◌, ◌/◌, ◌≤◌, ◌<◌}
use native.Mathlib.Decide.{ℕ_discrete}
use native.Mathlib.Omega.{arith}
use lib.ListN.{length, get_or}
use borrow.Rule.Slice.PartMut.{put_mid}
use Rattle.words.specs.inner.Regions.{Kept}
use Rattle.words.specs.inner.Order.{word_of}
use Rattle.words.proofs.Regions.{kept_refl, kept_trans}
use Rattle.cells.specs.Groups.Linked.{same, on}
use Rattle.cells.specs.inner.Forest.{Joined, Alone, Flat, Classes}
use Rattle.cells.specs.inner.Table.{table_at}
use Rattle.cells.specs.inner.Sides.{key_at, number_at, Adjacent, Ready, groups_of, United, Named}
use Rattle.cells.proofs.Groups.{groups_same}
use Rattle.cells.proofs.Part.{groups_length, returned_groups, returned_kept, returned_at}
use Rattle.cells.proofs.Classes.{classes_alone, classes_more, classes_same, classes_groups}

-- ---- the table is past the groups' part, so it stays

module _ {n : ℕ} {xs ys : List ℕ} (k : Kept xs ys n n) where
  pub same_word : (c i : ℕ) → word_of ys (table_at n) c i ≡ word_of xs (table_at n) c i
  same_word c i = k.rest (table_at n + 2 * i + c) (λ j l e. omega arith)

  there : {h x y : ℕ} → Adjacent n xs h x y → Adjacent n ys h x y
  there r = record {
    i = r.i;
    small = r.small;
    proper = λ z. r.proper (sym (same_word 0 r.i) ∙ z);
    same = same_word 0 r.i ∙ r.same ∙ sym (same_word 0 (r.i + 1));
    left = r.left ∙ ap (λ (w : ℕ). w / 4) (sym (same_word 1 r.i));
    right = r.right ∙ ap (λ (w : ℕ). w / 4) (sym (same_word 1 (r.i + 1)));
  }

  pub still_ready : {m h : ℕ} → Ready n m xs → h ≤ m → Ready n h ys
  still_ready r l = record { few = r.few; room = omega (arith, r.room, k.len); within = λ i h. rw (same_word 1 i) (r.within i (omega arith)) }

back_again : {n : ℕ} {xs ys : List ℕ} → Kept xs ys n n → Kept ys xs n n
back_again k = record { len = sym k.len; rest = λ j o. sym (k.rest j o) }

pub still_classes : {n h : ℕ} {xs ys p : List ℕ} → Kept xs ys n n → Classes (Adjacent n xs h) n p → Classes (Adjacent n ys h) n p
still_classes k c = classes_same c (λ x y r. on same (there k r)) (λ x y r. on same (there (back_again k) r))

-- ---- one neighbour more

wider : {n : ℕ} {xs : List ℕ} {h x y : ℕ} → Adjacent n xs h x y → Adjacent n xs (h + 1) x y
wider r = record { i = r.i; small = omega (arith, r.small); proper = r.proper; same = r.same; left = r.left; right = r.right }

-- the words of records h and h + 1, as `link_at` reads them
module _ (n : ℕ) (xs : List ℕ) (h : ℕ) where
  own_key : key_at n xs h ≡ get_or xs (2 * n + 2 * h) 0
  own_key = ap (λ (k : ℕ). get_or xs k 0) (omega arith)

  next_key : key_at n xs (h + 1) ≡ get_or xs (2 * n + 2 * h + 2) 0
  next_key = ap (λ (k : ℕ). get_or xs k 0) (omega arith)

  next_number : number_at n xs (h + 1) ≡ get_or xs (2 * n + 2 * h + 3) 0
  next_number = ap (λ (k : ℕ). get_or xs k 0) (omega arith)

  module _ (c : Classes (Adjacent n xs h) n (groups_of n xs)) where
    -- a pair of the first h + 1 is one of the first h, or the last
    which : {x y : ℕ} (r : Adjacent n xs (h + 1) x y) → Dec (r.i ≡ h) → Adjacent n xs h x y ⊎ (r.i ≡ h)
    which r (yes e) = inr e
    which r (no e) = inl (record { i = r.i; small = omega (arith, r.small, e); proper = r.proper; same = r.same; left = r.left; right = r.right })

    unchanged : ((x y : ℕ) (r : Adjacent n xs (h + 1) x y) → r.i ≡ h → ⊥) → United n (h + 1) xs xs
    unchanged never = record {
      kept = kept_refl xs n n;
      classes = classes_same c (λ x y r. on same (wider r)) (λ x y r. on same (old r (which r (ℕ_discrete r.i h))));
    }
      where
        old : {x y : ℕ} (r : Adjacent n xs (h + 1) x y) → Adjacent n xs h x y ⊎ (r.i ≡ h) → Adjacent n xs h x y
        old r (inl w) = w
        old r (inr e) = absurd (never _ _ r e)

    pub no_side : get_or xs (2 * n + 2 * h) 0 ≡ 0 → United n (h + 1) xs xs
    no_side z = unchanged (λ x y r e. r.proper (ap (key_at n xs) e ∙ own_key ∙ z))

    pub two_keys : (get_or xs (2 * n + 2 * h) 0 ≡ get_or xs (2 * n + 2 * h + 2) 0 → ⊥) → United n (h + 1) xs xs
    two_keys d = unchanged (λ x y r e. d (sym own_key ∙ ap (key_at n xs) (sym e) ∙ r.same ∙ ap (λ (i : ℕ). key_at n xs (i + 1)) e ∙ next_key))

    pub one_key : (p : List ℕ) → 2 * n ≤ length xs → Joined (groups_of n xs) p (get_or xs (2 * n + 2 * h + 1) 0 / 4) (get_or xs (2 * n + 2 * h + 3) 0 / 4)
        → (get_or xs (2 * n + 2 * h) 0 ≡ 0 → ⊥) → get_or xs (2 * n + 2 * h) 0 ≡ get_or xs (2 * n + 2 * h + 2) 0 → United n (h + 1) xs (put_mid n (2 * n - n) xs p)
    one_key p room j z e =
        let len : length p ≡ n = j.len ∙ groups_length n xs room in
        record {
          kept = returned_kept n xs p room len;
          classes = rw (returned_groups n xs p room len) (classes_more c j (λ x y r. wider r)
              (record { i = h; small = omega arith; proper = λ w. z (sym own_key ∙ w); same = own_key ∙ e ∙ sym next_key; left = refl; right = right })
              (λ x y r. met x y r (which r (ℕ_discrete r.i h))));
        }
      where
        right : get_or xs (2 * n + 2 * h + 3) 0 / 4 ≡ number_at n xs (h + 1) / 4
        right = ap (λ (w : ℕ). w / 4) (sym next_number)

        met : (x y : ℕ) (r : Adjacent n xs (h + 1) x y) → Adjacent n xs h x y ⊎ (r.i ≡ h) → Adjacent n xs h x y ⊎ ((x ≡ get_or xs (2 * n + 2 * h + 1) 0 / 4) × (y ≡ get_or xs (2 * n + 2 * h + 3) 0 / 4))
        met x y r (inl w) = inl w
        met x y r (inr f) = inr (r.left ∙ ap (λ (i : ℕ). number_at n xs i / 4) f, r.right ∙ ap (λ (i : ℕ). number_at n xs (i + 1) / 4) f ∙ sym right)

-- ---- all of them

pub united_then : {n h k : ℕ} {xs ys zs : List ℕ} → United n h xs ys → United n k ys zs → United n k xs zs
united_then u w = record { kept = kept_trans u.kept w.kept; classes = still_classes (back_again u.kept) w.classes }

-- each number a class of its own, with no neighbours taken
pub united_alone : (n : ℕ) (xs p : List ℕ) → 2 * n ≤ length xs → Alone (length (groups_of n xs)) (length (groups_of n xs)) p → United n 0 xs (put_mid n (2 * n - n) xs p)
united_alone n xs p room a =
    let own : Alone n n p = rw (groups_length n xs room) at a in
    record {
      kept = returned_kept n xs p room own.len;
      classes = rw (returned_groups n xs p room own.len) (classes_alone own (λ x y r. omega (arith, r.small)));
    }

-- the cells of neighbours are below n
near_within : {n m k x y : ℕ} {xs : List ℕ} → Ready n m xs → k ≤ m - 1 → Adjacent n xs k x y → (x < n) × (y < n)
near_within r l w = (rw w.left (r.within w.i (omega (arith, w.small))), rw w.right (r.within (w.i + 1) (omega (arith, w.small))))

pub named_flat : {n m k : ℕ} {xs ys : List ℕ} (p : List ℕ) → Ready n m xs → k ≤ m - 1 → United n k xs ys → Flat (groups_of n ys) (length (groups_of n ys)) p → Named n k xs (put_mid n (2 * n - n) ys p)
named_flat {n} {m} {k} {xs} {ys} p r l u f =
    let room : 2 * n ≤ length ys = omega (arith, r.room, u.kept.len) in
    let flat : Flat (groups_of n ys) n p = rw u.classes.len at f in
    let len : length p ≡ n = flat.refines.len ∙ u.classes.len in
    let is : (q : ℕ) → q < n → get_or (put_mid n (2 * n - n) ys p) (n + q) 0 ≡ get_or p q 0 = returned_at n ys p room len in
    record {
      kept = kept_trans u.kept (returned_kept n ys p room len);
      groups = groups_same (λ x y e. near_within r l e) (λ q h. sym (is q h)) (classes_groups u.classes flat);
    }
