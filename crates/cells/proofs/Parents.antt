-- Laws of parent lists: moving a pointer up keeps the classes and the roots, hanging one root on another joins two classes, and what
-- the loops of the forest know after each turn. Assumes nothing.
use mathlib.Core.Path.{◌≡◌, refl, sym, ap, ◌∙◌, subst}
use mathlib.Core.Logic.{inl, inr, ⊎_elim}
use mathlib.Core.List.{List}
use Prim.Native.Nat.{ℕ, ◌+◌, ◌≤◌, ◌<◌}
use native.Mathlib.Omega.{arith}
use native.Mathlib.Decide.{ℕ_discrete}
use native.Mathlib.Nat.{lt_of_le_of_lt, eq-or-lt_of_le}
use lib.ListN.{length, get_or, set, length-set}
use lib.Seq.{get_or-set_same, get_or-set_other}
use Rattle.words.proofs.Regions.{set_cases}
use Rattle.cells.specs.Groups.{Linked}
use Rattle.cells.specs.Groups.Linked.{same, on, back}
use Rattle.cells.specs.inner.Forest.{Low, Ptr, PtrOr, Respects, Refines, Found, Joined, Flat}
use Rattle.cells.proofs.Links.{joined, turned, fold, kept}

pub refines_refl : (p : List ℕ) → Low p → Refines p p
refines_refl p l = record {
  len = refl;
  low = l;
  sound = λ y h. on same (h, refl);
  keeps = λ f r. r;
  roots = λ y h e. e;
}

-- a path by q's pointers is one by p's
lift : {p q : List ℕ} {x y : ℕ} → Refines p q → Linked (Ptr q) x y → Linked (Ptr p) x y
lift {p} {q} a l = fold (λ u v e. subst (λ (z : ℕ). Linked (Ptr p) u z) (sym e.1) (a.sound u (omega (arith, a.len, e.0)))) l

refines_trans : {p q s : List ℕ} → Refines p q → Refines q s → Refines p s
refines_trans {p} {q} {s} a b = record {
  len = b.len ∙ a.len;
  low = b.low;
  sound = λ y h. lift a (b.sound y (omega (arith, a.len)));
  keeps = λ f r. a.keeps f (b.keeps f r);
  roots = λ y h e. b.roots y (omega (arith, a.len)) (a.roots y h e);
}

-- one pointer moved up by one
halve : (p : List ℕ) (x : ℕ) → Low p → x < length p → Refines p (set p x (get_or p (get_or p x 0) 0))
halve p x l h =
    let a : ℕ = get_or p x 0 in
    let b : ℕ = get_or p a 0 in
    let ax : a ≤ x = l x h in
    let an : a < length p = omega arith in
    let ba : b ≤ a = l a an in
    record {
      len = length-set p x b;
      low = λ y k. set_cases (λ (z : ℕ). z ≤ y) p x b y h (λ e. omega arith) (λ n. l y (subst (λ (n : ℕ). y < n) (length-set p x b) k));
      sound = λ y k. set_cases (λ (z : ℕ). Linked (Ptr p) y z) p x b y h
          (λ e. on (on same (k, ap (λ (n : ℕ). get_or p n 0) (sym e))) (an, refl))
          (λ n. on same (k, refl));
      keeps = λ f r y k. keep f (λ y k. r y (subst (λ (n : ℕ). y < n) (sym (length-set p x b)) k)) y k (ℕ_discrete y x);
      roots = λ y k e. set_cases (λ (z : ℕ). z ≡ y) p x b y h
          (λ q. ap (λ (n : ℕ). get_or p (get_or p n 0) 0) (sym q) ∙ ap (λ (n : ℕ). get_or p n 0) e ∙ e)
          (λ n. e);
    }
  where
    step : (f : ℕ → ℕ) → ((y : ℕ) → y < length p → f (get_or (set p x (get_or p (get_or p x 0) 0)) y 0) ≡ f y) → Dec (get_or p x 0 ≡ x) → f (get_or p x 0) ≡ f x
    step f r (yes e) = ap f e
    step f r (no n) =
        let an : get_or p x 0 < length p = lt_of_le_of_lt (l x h) h in
        sym (rw get_or-set_other at (r (get_or p x 0) an)) ∙ (rw get_or-set_same at (r x h))

    keep : (f : ℕ → ℕ) → ((y : ℕ) → y < length p → f (get_or (set p x (get_or p (get_or p x 0) 0)) y 0) ≡ f y) → (y : ℕ) → y < length p → Dec (y ≡ x) → f (get_or p y 0) ≡ f y
    keep f r y k (no n) = rw (← get_or-set_other p x y (get_or p (get_or p x 0) 0) 0 n) (r y k)
    keep f r y k (yes e) = rw e (step f r (ℕ_discrete (get_or p x 0) x))

-- what `find`'s loop keeps: at is above x, and up is what at points at
pub record Climbed (p q : List ℕ) (x at up : ℕ) : Type 0 where
  pub refines : Refines p q
  pub above : Linked (Ptr p) x at
  pub le : at ≤ x
  pub is_up : up ≡ get_or q at 0
  pub up_le : up ≤ at

-- where the loop goes on: the next number is at most up, and up is in range
climbed_low : {p q : List ℕ} {x at up : ℕ} → Climbed p q x at up → x < length p → (get_or q up 0 ≤ up) × (up < length q) × (at < length q)
climbed_low {p} {q} {x} {at} {up} c h =
    let aq : at < length q = omega (arith, c.refines.len) in
    let uq : up < length q = omega arith in
    (c.refines.low up uq, uq, aq)

pub climbed_next : {p q : List ℕ} {x at up : ℕ} → Climbed p q x at up → x < length p → let g : ℕ = get_or q up 0 in Climbed p (set q at g) x g (get_or (set q at g) g 0)
climbed_next {p} {q} {x} {at} {up} c h =
    let low = climbed_low c h in
    let half : Refines q (set q at (get_or q up 0)) = rw c.is_up (halve q at c.refines.low low.2) in
    let all : Refines p (set q at (get_or q up 0)) = refines_trans c.refines half in
    record {
      refines = all;
      above = joined c.above (lift c.refines (on (on same (low.2, c.is_up)) (low.1, refl)));
      le = omega (arith, c.le, c.up_le, low.0);
      is_up = refl;
      up_le = all.low (get_or q up 0) (simp length-set (omega (arith, low.0, low.1)));
    }

respected : (p : List ℕ) {x y : ℕ} (f : ℕ → ℕ) → Respects p f → Linked (Ptr p) x y → f x ≡ f y
respected p f r l = kept f (λ u v e. sym (r u e.0) ∙ ap f (sym e.1)) l

-- the root hi of a's class is made to point at the root lo of b's
hang : {p q : List ℕ} {a b hi lo : ℕ} → Refines p q → Linked (Ptr p) a hi → Linked (Ptr p) b lo → get_or q hi 0 ≡ hi → hi < length p → lo ≤ hi → Joined p (set q hi lo) a b
hang {p} {q} {a} {b} {hi} {lo} R ua ub root h le =
    let hq : hi < length q = omega (arith, R.len) in
    let wider : (u v : ℕ) → Ptr p u v → Linked (PtrOr p a b) u v = λ u v e. on same (inl e) in
    let cross : Linked (PtrOr p a b) hi lo = joined (on (fold wider (turned ua)) (inr (refl, refl))) (fold wider ub) in
    let back_q : (f : ℕ → ℕ) → Respects (set q hi lo) f → Respects q f = λ f r y k. unset f y k (r y (simp length-set k)) (ℕ_discrete y hi) in
    record {
      len = length-set q hi lo ∙ R.len;
      low = λ y k. set_cases (λ (z : ℕ). z ≤ y) q hi lo y hq (λ e. omega arith) (λ n. R.low y (simp length-set at k));
      sound = λ y k. set_cases (λ (z : ℕ). Linked (PtrOr p a b) y z) q hi lo y hq (λ e. rw e cross) (λ n. fold wider (R.sound y k));
      keeps = λ f r. R.keeps f (back_q f r);
      met = λ f r.
          let rp : Respects p f = R.keeps f (back_q f r) in
          respected p f rp ua ∙ sym (rw get_or-set_same at (r hi (simp length-set hq))) ∙ sym (respected p f rp ub);
    }
  where
    unset : (f : ℕ → ℕ) (y : ℕ) → y < length q → f (get_or (set q hi lo) y 0) ≡ f y → Dec (y ≡ hi) → f (get_or q y 0) ≡ f y
    unset f y k e (yes s) = rw s (ap f root)
    unset f y k e (no n) = rw get_or-set_other at e

swapped : {p q : List ℕ} {a b : ℕ} → Joined p q a b → Joined p q b a
swapped {p} {q} {a} {b} j = record {
  len = j.len;
  low = j.low;
  sound = λ y k. fold (λ u v e. ⊎_elim (λ w. on same (inl w)) (λ w. back same (inr (w.1, w.0))) e) (j.sound y k);
  keeps = j.keeps;
  met = λ f r. sym (j.met f r);
}

-- the two ways that `join` ends
pub join_down : {p q s : List ℕ} {a b ra rb : ℕ} → Found p q a ra → Found q s b rb → a < length p → rb ≤ ra → Joined p (set s ra rb) a b
join_down fa fb h le =
    hang (refines_trans fa.refines fb.refines) fa.up (lift fa.refines fb.up)
    (fb.refines.roots _ (omega (arith, fa.le, fa.refines.len)) fa.root) (omega (arith, fa.le)) le

pub join_up : {p q s : List ℕ} {a b ra rb : ℕ} → Found p q a ra → Found q s b rb → b < length p → ra < rb → Joined p (set s rb ra) a b
join_up fa fb h le =
    swapped (hang (refines_trans fa.refines fb.refines) (lift fa.refines fb.up) fa.up fb.root (omega (arith, fb.le)) (omega arith))

-- one number more points at its root
pub flat_more : {p q : List ℕ} {j : ℕ} → Flat p j q → j < length q → Flat p (j + 1) (set q j (get_or q (get_or q j 0) 0))
flat_more {p} {q} {j} f h = record {
  refines = refines_trans f.refines (halve q j f.refines.low h);
  flat = λ y k. ⊎_elim (newest y) (older y) (eq-or-lt_of_le (omega arith));
}
  where
    v : ℕ
    v = get_or q (get_or q j 0) 0

    down : (v ≡ j → ⊥) → Dec (get_or q j 0 ≡ j) → get_or q v 0 ≡ v
    down n (yes e) = absurd (n (ap (λ (i : ℕ). get_or q i 0) e ∙ e))
    down n (no m) = f.flat (get_or q j 0) (omega (arith, f.refines.low j h, m))

    last : get_or (set q j v) v 0 ≡ v
    last = set_cases (λ (z : ℕ). z ≡ v) q j v v h (λ e. refl) (λ n. down n (ℕ_discrete (get_or q j 0) j))

    newest : (y : ℕ) → y ≡ j → get_or (set q j v) (get_or (set q j v) y 0) 0 ≡ get_or (set q j v) y 0
    newest y e = rw (e, get_or-set_same q j v 0 h) last

    older : (y : ℕ) → y < j → get_or (set q j v) (get_or (set q j v) y 0) 0 ≡ get_or (set q j v) y 0
    older y l =
        let low : get_or q y 0 ≤ y = f.refines.low y (omega arith) in
        rw (get_or-set_other q j y v 0 (omega arith), get_or-set_other q j (get_or q y 0) v 0 (omega arith)) (f.flat y l)
