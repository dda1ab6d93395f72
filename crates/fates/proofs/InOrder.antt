-- Records put in order hold of a seed what they held before: each stands where the order has it, and none is lost. Assumes nothing.
use mathlib.Core.Path.{◌≡◌, sym, ap, ◌∙◌}
use mathlib.Core.List.{List}
use Prim.Native.Nat.{ℕ, ◌/◌, ◌<◌}
use Rattle.words.specs.inner.Order.{grouped_of, Ordered}
use Rattle.cells.specs.Kind.{Pair}
use Rattle.fates.specs.inner.Fates.{corner_in, seed_in, Holding}
use Rattle.fates.specs.inner.Singles.{CopyOf}
use Rattle.fates.proofs.Picking.{seed_copied, there, back}

pub corner_copied : {xs ys : List ℕ} {a b k i : ℕ} → CopyOf xs ys a b k i → corner_in ys b i ≡ corner_in xs a k
corner_copied p = ap (λ (z : ℕ). z / 4096) p.number

module _ {P : ℕ → Type 0} {L : ℕ → Pair} {s : ℕ} {xs ys : List ℕ} {a b m : ℕ} (O : Ordered (grouped_of xs a) xs ys a b m) (H : Holding P L s xs a m) where
  came : (k : ℕ) → k < m → CopyOf xs ys a a (O.order.from k) k
  came = there xs ys a b m O

  goes : (k : ℕ) → k < m → CopyOf xs ys a a k (O.order.to k)
  goes = back xs ys a b m O

  own_seed : (k : ℕ) → k < m → seed_in ys a k ≡ s → seed_in xs a (O.order.from k) ≡ s
  own_seed k h e = sym (seed_copied (came k h)) ∙ e

  pub ordered_holding : Holding P L s ys a m
  ordered_holding = record {
    sound = λ k h e. rw (corner_copied (came k h)) (H.sound (O.order.from k) (O.order.from_lt k h) (own_seed k h e));
    keyed = λ k h e. rw (corner_copied (came k h), (came k h).key) (H.keyed (O.order.from k) (O.order.from_lt k h) (own_seed k h e));
    place = λ c p. O.order.to (H.place c p);
    placed = λ c p. O.order.to_lt (H.place c p) (H.placed c p);
    of = λ c p. seed_copied (goes (H.place c p) (H.placed c p)) ∙ H.of c p;
    is = λ c p. corner_copied (goes (H.place c p) (H.placed c p)) ∙ H.is c p;
    once = λ j k hj hk ej ek e.
        let f : O.order.from j ≡ O.order.from k = H.once (O.order.from j) (O.order.from k) (O.order.from_lt j hj) (O.order.from_lt k hk) (own_seed j hj ej) (own_seed k hk ek) (sym (corner_copied (came j hj)) ∙ e ∙ corner_copied (came k hk)) in
        sym (O.order.to_from j hj) ∙ ap O.order.to f ∙ O.order.to_from k hk;
  }
