-- The call has one outcome (`determined`): the rows decide, and an input has one list of marks (`marks_determined`), since its groups and
-- their medians are the only ones. Assumes nothing.
use Rattle.std.specs.Prelude.{Err}
use mathlib.Core.Path.{◌≡◌, refl, sym, ap, ◌∙◌, subst}
use mathlib.Core.Bool.{Bool, true, false, not, ◌&&◌, false≢true}
use mathlib.Core.List.{List}
use Prim.Native.Nat.{ℕ, zero, suc, ◌<◌}
use native.Mathlib.Omega.{arith}
use lib.Ieee.{Float}
use lib.ListN.{length}
use Rattle.refusal.specs.declared.Refusal.{Refusal}
use Rattle.refusal.proofs.Rows.{shut_open, one_why}
use Rattle.words.specs.Listing.{listing}
use Rattle.words.proofs.Listing.{length_listing, get_d_listing, is_listing}
use Rattle.cells.specs.Groups.{Groups}
use Rattle.cells.proofs.Groups.{one_answer}
use Rattle.quads.specs.Call.{room_row}
use Rattle.filter.specs.Input.{Input, quad_count, side_length}
use Rattle.filter.specs.Topology.{crowded}
use Rattle.filter.specs.Opposing.{skewed}
use Rattle.filter.specs.Median.{Median}
use Rattle.filter.specs.Size.{off_size, sides_to}
use Rattle.filter.specs.Marks.{mark_by, left, Joined, Marked, kept_of}
use Rattle.filter.specs.Marks.Marked.{skipped, sized}
use Rattle.filter.specs.Call.{entry_gate, Outcome, outcome_by, Allowed}
use Rattle.filter.specs.Call.Allowed.{refused, judged}
use Rattle.filter.proofs.Ranked.{one_median, sides_lengths}

-- ---- marks

-- the sides of a group depend on the groups of the quads alone
sides_same : (i : Input) (group other : ℕ → ℕ) (g n : ℕ) → ((q : ℕ) → q < n → group q ≡ other q) → sides_to i group g n ≡ sides_to i other g n
unfolding sides_to
sides_same i group other g zero h = refl
sides_same i group other g (suc n) h = rw (sides_same i group other g n (λ q l. h q (omega arith)), h n (omega arith))

-- the third rule has a say only where the first two leave the quad
mark_same : (i : Input) (q : ℕ) (s t : Bool) → (left i q ≡ true → s ≡ t) → mark_by (crowded i.quads q) (skewed i q) s ≡ mark_by (crowded i.quads q) (skewed i q) t
unfolding left mark_by
mark_same i q s t h = go (crowded i.quads q) (skewed i q) h
  where
    go : (c k : Bool) → ((not c && not k) ≡ true → s ≡ t) → mark_by c k s ≡ mark_by c k t
    go true k h = refl
    go false true h = refl
    go false false h = ap (mark_by false false) (h refl)

listing_same : (n : ℕ) (f g : ℕ → ℕ) → ((k : ℕ) → k < n → f k ≡ g k) → listing n f ≡ listing n g
listing_same n f g h = is_listing 0 (listing n f) n g (length_listing n f) (λ k l. get_d_listing n f k 0 l ∙ h k l)

-- two ways to group and to weigh
module _ (i : Input) (group other : ℕ → ℕ) (G : Groups (Joined i) (quad_count i) group) (H : Groups (Joined i) (quad_count i) other) (median another : ℕ → Float)
    (M : (q : ℕ) → q < quad_count i → left i q ≡ true → Median (sides_to i group (group q) (quad_count i)) (median (group q)))
    (N : (q : ℕ) → q < quad_count i → left i q ≡ true → Median (sides_to i other (other q) (quad_count i)) (another (other q))) where
  sides_one : (q : ℕ) → q < quad_count i → sides_to i other (other q) (quad_count i) ≡ sides_to i group (group q) (quad_count i)
  sides_one q h =
      sides_same i other group (other q) (quad_count i) (λ k l. one_answer H G l) ∙ ap (λ (g : ℕ). sides_to i group g (quad_count i)) (one_answer H G h)

  median_same : (q : ℕ) → q < quad_count i → left i q ≡ true → median (group q) ≡ another (other q)
  median_same q h l =
      let sides = sides_to i group (group q) (quad_count i) in
      one_median sides (sides_lengths i group (group q) (quad_count i)) (median (group q)) (another (other q)) (M q h l)
      (subst (λ (s : List Float). Median s (another (other q))) (sides_one q h) (N q h l))

pub marks_determined : (i : Input) (m n : List ℕ) → Marked i m → Marked i n → m ≡ n
marks_determined i m n (skipped e) (skipped f) = refl
marks_determined i m n (skipped e) (sized f other H another N) = absurd (false≢true (sym f ∙ e))
marks_determined i m n (sized e group G median M) (skipped f) = absurd (false≢true (sym e ∙ f))
marks_determined i m n (sized e group G median M) (sized f other H another N) =
    listing_same (quad_count i) _ _
    (λ q h. mark_same i q _ _ (λ l. ap (λ (v : Float). off_size i.params v (side_length i q)) (median_same i group other G H median another M N q h l)))

-- ---- the outcome

pub determined : (i : Input) (work kept : List ℕ) (o p : Outcome) → Allowed i work kept o → Allowed i work kept p → o ≡ p
determined i work kept o p (refused why e) (refused other f) =
    ap (λ (w : Refusal). record { answer = Err w; work = work; kept = kept }) (one_why (entry_gate i (length work)) why other e f)
determined i work kept o p (refused why e) (judged f marks M) = absurd (shut_open (entry_gate i (length work)) why e f)
determined i work kept o p (judged e marks M) (refused why f) = absurd (shut_open (entry_gate i (length work)) why f e)
determined i work kept o p (judged e marks M) (judged f others N) =
    ap (λ (l : List ℕ). outcome_by (room_row (length kept) (length (kept_of i l))) (kept_of i l) work kept) (marks_determined i marks others M N)
