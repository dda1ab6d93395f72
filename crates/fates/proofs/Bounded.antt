-- Labels are at most as far from 0 as there may be quads: in a labelled group, under every assignment that fits, both numbers of the pair of
-- every reached corner are within 4,096 of 0. Assumes nothing.
use mathlib.Core.Path.{◌≡◌, sym, ap, ◌∙◌, subst}
use mathlib.Core.Bool.{true}
use mathlib.Core.List.{List}
use Prim.Native.Nat.{ℕ, ◌+◌, ◌≤◌, ◌<◌}
use native.Mathlib.Omega.{arith}
use lib.IntN.{ℤ, pos, negsuc, neg_ℤ, nat_abs}
use Rattle.mesh.specs.Lists.{most_quads}
use Rattle.cells.specs.Kind.{Pair, ReachedCorner, Fits}
use Rattle.cells.specs.Quads.{quads}
use Rattle.cells.proofs.Whole.{up, down, up_pos, up_negsuc, sum, opp}
use Rattle.cells.proofs.Squares.{quad_laws}
use Rattle.cells.proofs.Unique.{one_labelling}
use Rattle.laying.specs.inner.Layout.{centre, label, Near}
use Rattle.fates.specs.declared.LabelParams.{LabelParams}
use Rattle.fates.specs.inner.Fates.{Keyed}
use Rattle.fates.specs.inner.FateWords.{fate_at, is_labelled}
use Rattle.fates.specs.inner.Computed.{Computed}

-- a pair whose two numbers are at most t from 0
abbrev pub NearZero : ℕ → Pair → Type 0
NearZero t p = (nat_abs p.0 ≤ t) × (nat_abs p.1 ≤ t)

abs_by : (t word : ℕ) (z : ℤ) → up z + centre ≡ word + down z → Near t word → nat_abs z ≤ t
abs_by t word (pos n) e h = omega (arith, h.high, up_pos n)
abs_by t word (negsuc n) e h = omega (arith, h.low, up_negsuc n)

near_abs : (t word : ℕ) → Near t word → nat_abs (label word) ≤ t
near_abs t word h = abs_by t word (label word) (omega (arith, sum (pos word) (neg_ℤ (pos centre)), opp (pos centre), up_pos word, up_pos centre)) h

keyed_within : {p : Pair} {key : ℕ} → Keyed p key → NearZero most_quads p
keyed_within K = subst (NearZero most_quads) (sym K.pair) (near_abs most_quads K.x K.x_near, near_abs most_quads K.y K.y_near)

pub labels_within : {span : ℕ} {cells : List ℕ} {n : ℕ} {params : LabelParams} {xs ys : List ℕ} → Computed span cells n params xs ys → (q : ℕ) → q < n → is_labelled (fate_at span n ys q) ≡ true
    → (L : ℕ → Pair) → Fits quads cells q L → (c : ℕ) → ReachedCorner quads cells q c → NearZero most_quads (L c)
labels_within {span} {cells} {n} {params} {xs} {ys} C q h e L f c r =
    let l = C.alls q h e in
    let H = l.holding in
    let same : l.L c ≡ L c = one_labelling quads quad_laws cells l.labelling.fits f r in
    subst (NearZero most_quads) (ap l.L (H.is c r) ∙ same) (keyed_within (H.keyed (H.place c r) (H.placed c r) (H.of c r)))
