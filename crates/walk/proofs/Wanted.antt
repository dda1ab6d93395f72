-- The records and entries of the components are what is wanted: a group has a component exactly when it has all that is demanded, its entries
-- are as many as its lone corners, and there is one such pair of numbers. Assumes nothing.
use mathlib.Core.Path.{◌≡◌, refl, sym, ap, ◌∙◌, subst}
use mathlib.Core.Logic.{◌⊎◌, inl, inr}
use mathlib.Core.List.{List, [], ◌∷◌}
use Prim.Native.Nat.{ℕ, ◌+◌, ◌<◌}
use native.Mathlib.Omega.{arith}
use lib.ListN.{length, get_or, length-append}
use Rattle.cells.specs.Sums.{total}
use Rattle.cells.specs.Listed.{Entry, Component}
use Rattle.cells.specs.Quads.{quads}
use Rattle.cells.proofs.Sums.{total_same, total_first}
use Rattle.walk.specs.Input.{Input, quad_count, GroupsOf, grouping, Answer}
use Rattle.walk.specs.Call.{all_entries}
use Rattle.walk.specs.Demanded.{Place, Demanded, Seeds, Lacks}
use Rattle.walk.specs.Wanted.{LoneCorners, Wanted}
use Rattle.walk.proofs.Determined.{components_under}
use Rattle.walk.proofs.Origins.{Told, Origins, origins}
use Rattle.walk.proofs.Origins.Told.{one, none}
use Rattle.walk.proofs.ByPlace.{exactly_lone}
use Rattle.walk.proofs.Reasons.{component_demanded, dropped_lacks, not_both, one_lone_count}
use Rattle.walk.proofs.Seeds.{as_many, one_seed}

entries_sum : (out : List (List Entry)) → length (all_entries out) ≡ total (λ j. length (get_or out j [])) (length out)
unfolding all_entries total
entries_sum [] = refl
entries_sum (es ∷ out) = length-append es (all_entries out) ∙ ap (λ (n : ℕ). length es + n) (entries_sum out) ∙ sym (total_first (λ j. length (get_or (es ∷ out) j [])) (length out))

-- ---- of an answer

module _ {i : Input} {number : ℕ → ℕ} (groups : GroupsOf i number) {out : List (List Entry)} (answer : Answer i out) where
  origin : Origins quads i.quads (grouping i number) (quad_count i) out
  origin = origins quads i.quads (grouping i number) (quad_count i) out (components_under i out number groups answer)

  seeded : Seeds i number (length out) origin.seed
  seeded = record {
    each = λ j h. record { small = origin.small j h; lowest = origin.lowest j h; demanded = component_demanded i number (origin.seed j) (get_or out j []) (origin.yields j h) };
    rises = origin.rises;
    every = λ s y. go s y.demanded (origin.told s y.small y.lowest);
  }
    where
      go : (s : ℕ) → Demanded i number s → Told quads i.quads (grouping i number) origin.seed (length out) s → Place (length out) (λ j. origin.seed j ≡ s)
      go s d (one j h e) = record { at = j; small = h; is = e }
      go s d (none n) = absurd (not_both i number s (dropped_lacks i number s n) d)

  -- a group has all that is demanded, or lacks a part of it
  pub has_or_lacks : (s : ℕ) → s < quad_count i → number s ≡ s → Demanded i number s ⊎ Lacks i number s
  has_or_lacks s h e = go (origin.told s h e)
    where
      go : Told quads i.quads (grouping i number) origin.seed (length out) s → Demanded i number s ⊎ Lacks i number s
      go (one j b q) = inl (subst (Demanded i number) q (seeded.each j b).demanded)
      go (none n) = inr (dropped_lacks i number s n)

  pub wanted : Wanted i number (length out) (length (all_entries out))
  wanted = record {
    seed = origin.seed;
    seeds = seeded;
    lone = λ j. length (get_or out j []);
    counted = λ j h. let c = origin.yields j h in record { L = c.L; fits = c.labelling.fits; exactly = exactly_lone i.quads (origin.seed j) c.L (get_or out j []) c.listed };
    sum = entries_sum out;
  }

  -- component j is of the group of the j-th lowest quad
  pub component_of : {k : ℕ} {seed : ℕ → ℕ} → Seeds i number k seed → (j : ℕ) → j < length out → Component quads i.quads (grouping i number) (seed j) (get_or out j [])
  component_of s j h = subst (λ (q : ℕ). Component quads i.quads (grouping i number) q (get_or out j [])) (one_seed seeded s j h) (origin.yields j h)

-- ---- one pair of numbers

pub amounts_are : {i : Input} {number : ℕ → ℕ} {k l m n : ℕ} → m ≡ k → n ≡ l → Wanted i number k l → Wanted i number m n
amounts_are e f w = rw (e, f) w

module _ {i : Input} {number : ℕ → ℕ} {k l m n : ℕ} (a : Wanted i number k l) (b : Wanted i number m n) where
  pub as_many_records : k ≡ m
  as_many_records = as_many a.seeds b.seeds

  same_count : (j : ℕ) → j < k → a.lone j ≡ b.lone j
  same_count j h =
      let c = a.counted j h in
      let d : LoneCorners i.quads (a.seed j) (b.lone j) = subst (λ (s : ℕ). LoneCorners i.quads s (b.lone j)) (sym (one_seed a.seeds b.seeds j h)) (b.counted j (omega (arith, as_many_records))) in
      one_lone_count i.quads (a.seed j) c.L d.L c.fits d.fits c.exactly d.exactly

  pub as_many_entries : l ≡ n
  as_many_entries = a.sum ∙ total_same b.lone a.lone k same_count ∙ ap (total b.lone) as_many_records ∙ sym b.sum
