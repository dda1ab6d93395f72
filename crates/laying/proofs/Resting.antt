-- What stands past the walk's regions: all but flags of reached sides' runs stays, so runs and table stay. Assumes nothing.
use mathlib.Core.Path.{◌≡◌, refl, sym, ap, ◌∙◌}
use mathlib.Core.List.{List}
use Prim.Native.Nat.{ℕ, ◌+◌, ◌*◌, ◌≤◌, ◌<◌}
use native.Mathlib.Omega.{arith}
use lib.ListN.{length, get_or}
use Rattle.laying.specs.inner.Layout.{key_at, number_at, run_of, Table}
use Rattle.laying.specs.inner.Moves.{Rest}

pub rest_refl : {span : ℕ} {cells : List ℕ} {n seed : ℕ} (xs : List ℕ) → Rest span cells n seed xs xs
rest_refl xs = record { len = refl; rest = λ k h f. refl }

-- below the flags
pub rest_low : {span : ℕ} {cells : List ℕ} {n seed : ℕ} {xs ys : List ℕ} → Rest span cells n seed xs ys → (k : ℕ) → 4 * span ≤ k → k < 4 * span + 22 * n → get_or ys k 0 ≡ get_or xs k 0
rest_low r k h l = r.rest k h (λ e el q z. omega arith)

pub same_run : {span : ℕ} {cells : List ℕ} {n seed : ℕ} {xs ys : List ℕ} → Rest span cells n seed xs ys → (e : ℕ) → e < 4 * n → run_of span n ys e ≡ run_of span n xs e
same_run {span} {n = n} r e l = rest_low r (4 * span + 8 * n + e) (omega arith) (omega arith)

pub rest_trans : {span : ℕ} {cells : List ℕ} {n seed : ℕ} {xs ys zs : List ℕ} → Rest span cells n seed xs ys → Rest span cells n seed ys zs → Rest span cells n seed xs zs
rest_trans a b = record {
  len = b.len ∙ a.len;
  rest = λ k h f. b.rest k h (λ e el q z. f e el q (omega (arith, same_run a e el))) ∙ a.rest k h f;
}

-- the table depends on its own words only
pub table_kept : {span : ℕ} {cells : List ℕ} {n : ℕ} {xs ys : List ℕ} → Table span cells n xs → length ys ≡ length xs → ((k : ℕ) → 4 * span ≤ k → k < 4 * span + 12 * n → get_or ys k 0 ≡ get_or xs k 0) → Table span cells n ys
table_kept {span} {cells} {n} {xs} {ys} t len same = record {
  room = omega (arith, t.room);
  sides = λ i h. rw (number i h) (t.sides i h);
  runs = λ e h. rw (run e h) (t.runs e h);
  key = λ e h. ap (key_at span ys) (run e h) ∙ key (run_of span n xs e) (t.runs e h) ∙ t.key e h;
  meets = λ e g he hg a.
      let p = t.meets e g he hg a in
      record {
        at = p.at;
        from = rw (run e he) p.from;
        small = p.small;
        is = number p.at p.small ∙ p.is;
        run = λ i l h. key i (omega (arith, p.small)) ∙ p.run i (rw (run e he) at l) h ∙ sym (key (run_of span n xs e) (t.runs e he)) ∙ ap (key_at span ys) (sym (run e he));
      };
}
  where
    run : (e : ℕ) → e < 4 * n → run_of span n ys e ≡ run_of span n xs e
    run e h = same (4 * span + 8 * n + e) (omega arith) (omega arith)

    key : (i : ℕ) → i < 4 * n → key_at span ys i ≡ key_at span xs i
    key i h = same (4 * span + 2 * i) (omega arith) (omega arith)

    number : (i : ℕ) → i < 4 * n → number_at span ys i ≡ number_at span xs i
    number i h = same (4 * span + 2 * i + 1) (omega arith) (omega arith)

pub table_rest : {span : ℕ} {cells : List ℕ} {n seed : ℕ} {xs ys : List ℕ} → Table span cells n xs → Rest span cells n seed xs ys → Table span cells n ys
table_rest t r = table_kept t r.len (λ k h l. rest_low r k h (omega arith))
