-- A listing by the places of its entries: it lists each lone corner at one place, so as many corners are lone as it has entries. Assumes
-- nothing.
use mathlib.Core.Path.{◌≡◌, refl, sym, ap, ◌∙◌, subst}
use mathlib.Core.List.{List, [], ◌∷◌}
use Prim.Native.Nat.{ℕ, zero, suc, ◌+◌, ◌<◌}
use native.Mathlib.Decide.{dec_lt}
use native.Mathlib.Omega.{arith}
use lib.IntN.{pos}
use lib.ListN.{length, get_or}
use Rattle.cells.specs.Kind.{Pair, ◌⊕◌, Lone}
use Rattle.cells.specs.Counted.{Exactly}
use Rattle.cells.specs.Quads.{quads}
use Rattle.cells.specs.Listed.{In, Sorted, Entry, Before, Some, Listed}
use Rattle.cells.specs.Listed.In.{first, later}
use Rattle.cells.specs.Listed.Sorted.{more}
use Rattle.cells.proofs.Tests.{not_in}
use Rattle.cells.proofs.Listing.{apart, add_inj}
use Rattle.walk.specs.Read.{entry_at, entries_from}
use Rattle.walk.specs.Demanded.{Place, Lists}

-- ---- the entries of a list, by place

-- what a list is read with past its end
abbrev past : Entry
past = record { u = 0; v = 0; corner = 0 }

place_of : {e : Entry} (es : List Entry) → In e es → Place (length es) (λ p. get_or es p past ≡ e)
place_of [] i = not_in i
place_of (f ∷ es) (first q) = record { at = 0; small = omega arith; is = sym q }
place_of (f ∷ es) (later i) =
    let r = place_of es i in
    record { at = suc r.at; small = omega (arith, r.small); is = r.is }

entry_in_lem : (es : List Entry) (p : ℕ) → p < length es → In (get_or es p past) es
entry_in_lem [] p l = absurd (omega arith)
entry_in_lem (e ∷ es) zero l = first refl
entry_in_lem (e ∷ es) (suc p) l = later (entry_in_lem es p (omega arith))

in_order : (es : List Entry) → Sorted Before es → (p q : ℕ) → p < q → q < length es → Before (get_or es p past) (get_or es q past)
in_order [] o p q l h = absurd (omega arith)
in_order (e ∷ es) o p zero l h = absurd (omega arith)
in_order (e ∷ es) (more a o) zero (suc q) l h = a (get_or es q past) (entry_in_lem es q (omega arith))
in_order (e ∷ es) (more a o) (suc p) (suc q) l h = in_order es o p q (omega arith) (omega arith)

-- ---- a listing

module _ (cells : List ℕ) (s : ℕ) (L : ℕ → Pair) (es : List Entry) (l : Listed quads cells s L es) where
  -- two entries of one corner have one pair, and so are one
  one_place : (p q : ℕ) → p < length es → q < length es → (get_or es p past).corner ≡ (get_or es q past).corner → p < q → ⊥
  one_place p q hp hq c r =
      let e : Entry = get_or es p past in
      let f : Entry = get_or es q past in
      let same : l.least ⊕ (pos e.u, pos e.v) ≡ l.least ⊕ (pos f.u, pos f.v) = sym (l.pairs e (entry_in_lem es p hp)) ∙ ap L c ∙ l.pairs f (entry_in_lem es q hq) in
      apart (in_order es l.ordered p q r hq) (add_inj l.least.0 e.u f.u (ap (λ (z : Pair). z.0) same)) (add_inj l.least.1 e.v f.v (ap (λ (z : Pair). z.1) same))

  once : (p q : ℕ) → p < length es → q < length es → (get_or es p past).corner ≡ (get_or es q past).corner → p ≡ q
  once p q hp hq c = go (dec_lt p q) (dec_lt q p)
    where
      go : Dec (p < q) → Dec (q < p) → p ≡ q
      go (yes a) b = absurd (one_place p q hp hq c a)
      go (no a) (yes b) = absurd (one_place q p hq hp (sym c) b)
      go (no a) (no b) = omega (arith, a, b)

  -- entries that are those of the list, place by place
  module _ (count : ℕ) (entry : ℕ → Entry) (many : length es ≡ count) (is : (p : ℕ) → p < count → get_or es p past ≡ entry p) where
    found : {P : Entry → Type 0} → Some es P → Place count (λ p. P (entry p))
    found {P} t =
        let r = place_of es t.among in
        record { at = r.at; small = omega (arith, r.small); is = subst P (sym r.is ∙ is r.at (omega (arith, r.small))) t.is }

    at_entry : (P : Entry → Type 0) → ((e : Entry) → In e es → P e) → (p : ℕ) → p < count → P (entry p)
    at_entry P f p h = subst P (is p h) (f (get_or es p past) (entry_in_lem es p (omega arith)))

    pub lists : Lists cells s L entry count
    lists = record {
      least = l.least;
      lone = at_entry (λ e. Lone quads cells s L e.corner) l.lone;
      pairs = at_entry (λ e. L e.corner ≡ l.least ⊕ (pos e.u, pos e.v)) l.pairs;
      every = λ c h. found (l.every c h);
      once = λ p q hp hq c. once p q (omega arith) (omega arith) (ap (λ (e : Entry). e.corner) (is p hp) ∙ c ∙ sym (ap (λ (e : Entry). e.corner) (is q hq)));
      zero_u = λ h. at_entry (λ e. Place count (λ p. (entry p).u ≡ 0)) (λ e i. found (l.zero_u e i)) 0 h;
      zero_v = λ h. at_entry (λ e. Place count (λ p. (entry p).v ≡ 0)) (λ e i. found (l.zero_v e i)) 0 h;
      ordered = λ p q r h. subst (λ (f : Entry). Before (entry p) f) (is q h) (subst (λ (e : Entry). Before e (get_or es q past)) (is p (omega arith)) (in_order es l.ordered p q r (omega arith)));
    }

  pub exactly_lone : Exactly (Lone quads cells s L) (length es)
  exactly_lone = record {
    pick = λ p. (get_or es p past).corner;
    each = λ p h. l.lone (get_or es p past) (entry_in_lem es p h);
    apart = once;
    every = λ c h.
        let f = l.every c h in
        let r = place_of es f.among in
        record { at = r.at; small = r.small; is = ap (λ (e : Entry). e.corner) r.is ∙ f.is };
  }

-- ---- the entries of a component in the words

pub entries_count : (words : List ℕ) (before count : ℕ) → length (entries_from words before count) ≡ count
unfolding entries_from
entries_count words before zero = refl
entries_count words before (suc count) = ap suc (entries_count words (before + 1) count)

pub entries_are : (words : List ℕ) (before count p : ℕ) → p < count → get_or (entries_from words before count) p past ≡ entry_at words (before + p)
unfolding entries_from
entries_are words before zero p l = absurd (omega arith)
entries_are words before (suc count) zero l =
    let e : before ≡ before + 0 = omega arith in
    ap (entry_at words) e
entries_are words before (suc count) (suc p) l =
    let e : before + 1 + p ≡ before + suc p = omega arith in
    entries_are words (before + 1) count p (omega arith) ∙ ap (entry_at words) e
