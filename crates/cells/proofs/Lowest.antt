-- The computed shift: no reading's number is below the lowest, one is the lowest, and each stands over it by their difference.
-- Assumes nothing.
use mathlib.Core.Path.{◌≡◌, refl, sym, ap, ◌∙◌, subst}
use mathlib.Core.List.{List, [], ◌∷◌}
use mathlib.Core.Logic.{◌⊎◌, inl, inr}
use Prim.Native.Nat.{ℕ, suc, ◌+◌}
use native.Mathlib.Omega.{arith}
use lib.IntN.{ℤ, pos, negsuc, neg_ℤ, nat_abs, ◌+ℤ◌, ◌-ℤ◌}
use Rattle.cells.specs.Kind.{Pair}
use Rattle.cells.specs.Listed.{In}
use Rattle.cells.specs.Listed.In.{first, later}
use Rattle.cells.specs.Twin.{Reading}
use Rattle.cells.specs.Computed.{lower_by, lower, lowest}
use Rattle.cells.proofs.Whole.{sum, opp, of, to, up_pos}
use Rattle.cells.proofs.Tests.{not_in}

-- b is a and n more
record Over (a b : ℤ) : Type 0 where
  n : ℕ
  is : b ≡ a +ℤ pos n

over_self : (a : ℤ) → Over a a
over_self a = record { n = 0; is = to (omega (arith, sum a (pos 0), up_pos 0)) }

over_over : {a b c : ℤ} → Over a b → Over b c → Over a c
over_over {a} {b} {c} h k = record { n = h.n + k.n; is = to (omega (arith, of h.is, of k.is, sum a (pos h.n), sum b (pos k.n), sum a (pos (h.n + k.n)), up_pos h.n, up_pos k.n, up_pos (h.n + k.n))) }

less : (a b : ℤ) (n : ℕ) → b ≡ a +ℤ pos n → b -ℤ a ≡ pos n
less a b n e = to (omega (arith, of e, sum a (pos n), up_pos n, sum b (neg_ℤ a), opp a))

record Lower (c a b : ℤ) : Type 0 where
  under_a : Over c a
  under_b : Over c b
  one : (c ≡ a) ⊎ (c ≡ b)

lower_is : (a b : ℤ) → Lower (lower a b) a b
lower_is a b = go (b -ℤ a) refl
  where
    go : (d : ℤ) → b -ℤ a ≡ d → Lower (lower_by d a b) a b
    go (pos n) e = record { under_a = over_self a; under_b = record { n = n; is = to (omega (arith, of e, sum b (neg_ℤ a), opp a, sum a (pos n), up_pos n)) }; one = inl refl }
    go (negsuc n) e = record { under_a = record { n = suc n; is = to (omega (arith, of e, sum b (neg_ℤ a), opp a, sum b (pos (suc n)), up_pos (suc n), opp (pos (suc n)))) }; under_b = over_self b; one = inr refl }

module _ (f : Pair → ℤ) where
  under : (rs : List Reading) (t : Reading) → In t rs → Over (lowest f rs) (f t.pair)
  under [] t i = not_in i
  under (r ∷ []) t i = go i
    where
      go : In t (r ∷ []) → Over (f r.pair) (f t.pair)
      go (first e) = subst (λ (y : Reading). Over (f r.pair) (f y.pair)) (sym e) (over_self (f r.pair))
      go (later i) = not_in i
  under (r ∷ x ∷ rs) t i = go i (λ j. under (x ∷ rs) t j)
    where
      l : Lower (lower (f r.pair) (lowest f (x ∷ rs))) (f r.pair) (lowest f (x ∷ rs))
      l = lower_is (f r.pair) (lowest f (x ∷ rs))

      go : In t (r ∷ x ∷ rs) → (In t (x ∷ rs) → Over (lowest f (x ∷ rs)) (f t.pair)) → Over (lower (f r.pair) (lowest f (x ∷ rs))) (f t.pair)
      go (first e) h = subst (λ (y : Reading). Over (lower (f r.pair) (lowest f (x ∷ rs))) (f y.pair)) (sym e) l.under_a
      go (later j) h = over_over l.under_b (h j)

  -- each stands over the lowest by their difference
  pub stands : (rs : List Reading) (t : Reading) → In t rs → f t.pair ≡ lowest f rs +ℤ pos (nat_abs (f t.pair -ℤ lowest f rs))
  stands rs t i =
      let o = under rs t i in
      o.is ∙ ap (λ (z : ℤ). lowest f rs +ℤ pos (nat_abs z)) (sym (less (lowest f rs) (f t.pair) o.n o.is))

  pub record Least (rs : List Reading) : Type 0 where
    pub r : Reading
    pub among : In r rs
    pub is : f r.pair ≡ lowest f rs

  one_least : (r : Reading) (rs : List Reading) → Least (r ∷ rs)
  one_least r [] = record { r = r; among = first refl; is = refl }
  one_least r (x ∷ rs) = go (lower_is (f r.pair) (lowest f (x ∷ rs))).one (one_least x rs)
    where
      go : (lower (f r.pair) (lowest f (x ∷ rs)) ≡ f r.pair) ⊎ (lower (f r.pair) (lowest f (x ∷ rs)) ≡ lowest f (x ∷ rs)) → Least (x ∷ rs) → Least (r ∷ x ∷ rs)
      go (inl e) h = record { r = r; among = first refl; is = sym e }
      go (inr e) h = record { r = h.r; among = later h.among; is = h.is ∙ sym e }

  pub reaches : (rs : List Reading) {t : Reading} → In t rs → Least rs
  reaches [] i = not_in i
  reaches (r ∷ rs) i = one_least r rs

pub none_over : {a b : ℤ} → a ≡ b → nat_abs (a -ℤ b) ≡ 0
none_over {a} {b} e = ap nat_abs (less b a 0 (to (omega (arith, of e, sum b (pos 0), up_pos 0))))
