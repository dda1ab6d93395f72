-- Words given to corners: a corner that is told has its words afterwards or had others, and two corners are told one after the other.
-- Assumes nothing.
use mathlib.Core.Path.{◌≡◌, refl, sym, ap, ◌∙◌}
use mathlib.Core.Logic.{◌≢◌, inr}
use mathlib.Core.Bool.{Bool, true, false, false≢true}
use mathlib.Core.List.{List}
use Prim.Native.Nat.{ℕ, ◌+◌, ◌*◌, ◌≤◌, ◌<◌}
use native.Mathlib.Decide.{ℕ_discrete}
use native.Mathlib.Omega.{arith}
use lib.ListN.{length, get_or, set, length-set}
use lib.Seq.{get_or-set_same, get_or-set_other}
use Rattle.laying.specs.inner.Layout.{first_word, second_word}
use Rattle.laying.specs.inner.Settling.{Bears, Settled, Differs, Placed}
use Rattle.laying.specs.inner.Settling.Settled.{fresh, same, other}

pub skip : (l : List ℕ) (i a j : ℕ) → j ≢ i → get_or (set l i a) j 0 ≡ get_or l j 0
skip l i a j n = get_or-set_other l i j a 0 n

pub put : (l : List ℕ) (i a : ℕ) → i < length l → get_or (set l i a) i 0 ≡ a
put l i a h = get_or-set_same l i a 0 h

-- corner c has its words, and all else is as it was
record Wrote (span : ℕ) (xs ys : List ℕ) (c x y : ℕ) : Type 0 where
  pub len : length ys ≡ length xs
  pub bears : Bears span ys c x y
  pub others : (k : ℕ) → k ≢ 2 * span + c → k ≢ 3 * span + c → get_or ys k 0 ≡ get_or xs k 0
  pub old : first_word span xs c ≢ 0 → Bears span xs c x y

wrote : {span : ℕ} {xs ys : List ℕ} {c x y : ℕ} {r : Bool} → Settled span xs ys c x y r → r ≡ true → 4 * span ≤ length xs → c < span → Wrote span xs ys c x y
wrote {span} {xs} {ys} {c} {x} {y} (fresh z e f) t l h = rw e (record {
  len = simp length-set refl;
  bears = record {
    first = skip (set xs (2 * span + c) x) (3 * span + c) y (2 * span + c) (omega arith) ∙ put xs (2 * span + c) x (omega arith);
    second = put (set xs (2 * span + c) x) (3 * span + c) y (simp length-set (omega arith));
  };
  others = λ k a b. skip (set xs (2 * span + c) x) (3 * span + c) y k b ∙ skip xs (2 * span + c) x k a;
  old = λ m. absurd (m z);
})
wrote (same m b e f) t l h = rw e (record { len = refl; bears = b; others = λ k s t. refl; old = λ _. b })
wrote (other m a e f) t l h = absurd (false≢true (sym f ∙ t))

differs : {span : ℕ} {xs ys : List ℕ} {c x y : ℕ} {r : Bool} → Settled span xs ys c x y r → r ≡ false → (ys ≡ xs) × Differs span xs c x y
differs (fresh z e f) t = absurd (false≢true (sym t ∙ f))
differs (same m b e f) t = absurd (false≢true (sym t ∙ f))
differs (other m a e f) t = (e, record { has = m; apart = a })

-- every other corner bears what it did
wrote_others : {span : ℕ} {xs ys : List ℕ} {c x y : ℕ} → Wrote span xs ys c x y → c < span → (k : ℕ) → k < span → k ≢ c → Bears span ys k (first_word span xs k) (second_word span xs k)
wrote_others {span} w h k l n = record { first = w.others (2 * span + k) (omega arith) (omega arith); second = w.others (3 * span + k) (omega arith) (omega arith) }

wrote_keeps : {span : ℕ} {xs ys : List ℕ} {c x y : ℕ} → Wrote span xs ys c x y → c < span → (k : ℕ) → k < span → first_word span xs k ≢ 0 → Bears span ys k (first_word span xs k) (second_word span xs k)
wrote_keeps {span} {xs} {ys} {c} {x} {y} w h k l m = go (ℕ_discrete k c)
  where
    go : Dec (k ≡ c) → Bears span ys k (first_word span xs k) (second_word span xs k)
    go (yes e) =
        let o = w.old (λ z. m (ap (λ (t : ℕ). first_word span xs t) e ∙ z)) in
        rw e (record { first = w.bears.first ∙ sym o.first; second = w.bears.second ∙ sym o.second })
    go (no n) = wrote_others w h k l n

module _ {span : ℕ} {xs ys zs : List ℕ} {c d xc yc xd yd : ℕ} (w : Wrote span xs ys c xc yc) (cl : c < span) (dl : d < span) (two : c ≢ d) where
  -- the second has other words
  second_differs : (zs ≡ ys) × Differs span ys d xd yd → Placed span xs zs c d xc yc xd yd false
  second_differs e =
      let o = wrote_others w cl d dl (λ z. two (sym z)) in
      rw e.0 (record {
        len = w.len;
        low = λ k h. w.others k (omega arith) (omega arith);
        high = λ k h. w.others k (omega arith) (omega arith);
        others = λ k h p q. wrote_others w cl k h p;
        good = λ t. absurd (false≢true t);
        bad = λ _. inr (record { has = λ z. e.1.has (o.first ∙ z); apart = λ b. e.1.apart (record { first = o.first ∙ b.first; second = o.second ∙ b.second }) });
      })

  second_writes : Wrote span ys zs d xd yd → Placed span xs zs c d xc yc xd yd true
  second_writes v = record {
    len = v.len ∙ w.len;
    low = λ k h. v.others k (omega arith) (omega arith) ∙ w.others k (omega arith) (omega arith);
    high = λ k h. v.others k (omega arith) (omega arith) ∙ w.others k (omega arith) (omega arith);
    others = λ k h p q.
        let a = wrote_others v dl k h q in
        let b = wrote_others w cl k h p in
        record { first = a.first ∙ b.first; second = a.second ∙ b.second };
    good = λ _.
        let o = wrote_others v dl c cl two in
        record {
          at_c = record { first = o.first ∙ w.bears.first; second = o.second ∙ w.bears.second };
          at_d = v.bears;
          keeps = λ k h m.
              let a = wrote_keeps w cl k h m in
              let b = wrote_keeps v dl k h (λ z. m (sym a.first ∙ z)) in
              record { first = b.first ∙ a.first; second = b.second ∙ a.second };
        };
    bad = λ t. absurd (false≢true (sym t));
  }

-- the second of two
pub placed_second : {span : ℕ} {xs ys zs : List ℕ} {c d xc yc xd yd : ℕ} {r s : Bool} → Settled span xs ys c xc yc r → r ≡ true → Settled span ys zs d xd yd s → 4 * span ≤ length xs → c < span → d < span → c ≢ d → Placed span xs zs c d xc yc xd yd s
placed_second {span} {xs} {ys} {zs} {c} {d} {xc} {yc} {xd} {yd} {r} {s} a t b l cl dl two = go (wrote a t l cl) b
  where
    go : {s : Bool} → Wrote span xs ys c xc yc → Settled span ys zs d xd yd s → Placed span xs zs c d xc yc xd yd s
    go {s = true} w b = second_writes w cl dl two (wrote b refl (omega (arith, w.len)) dl)
    go {s = false} w b = second_differs w cl dl two (differs b refl)
