-- Components and entries counted quad by quad: one that is kept adds a component, and as many entries as its run has records. Assumes
-- nothing.
use mathlib.Core.Path.{◌≡◌, refl, sym, ap, ◌∙◌}
use mathlib.Core.Bool.{Bool, true, false, cond}
use mathlib.Core.List.{List, [], ◌∷◌, ◌++◌, append-nil, append_assoc}
use Prim.Native.Nat.{ℕ, zero, suc, ◌+◌, ◌*◌, ◌-◌, ◌≤◌}
use native.Mathlib.Nat.{add-zero, add-suc}
use native.Mathlib.Numerals.{add-one}
use native.Mathlib.Omega.{arith}
use lib.ListN.{length, length-append}
use Rattle.mesh.specs.Lists.{most_quads}
use Rattle.cells.specs.Listed.{Entry}
use Rattle.fates.specs.declared.Run.{Run}
use Rattle.fates.specs.inner.FateWords.{fate_at}
use Rattle.fates.specs.Judged.{is_kept}
use Rattle.fates.specs.inner.Index.{runs_at}
use Rattle.walk.specs.inner.Emitted.{least_x, least_y, entries_of, out_to}
use Rattle.walk.specs.Call.{all_entries}
use Rattle.walk.specs.inner.Emitting.{Counted}
use Rattle.walk.proofs.Shifted.{length_entries}

pub all_snoc : (out : List (List Entry)) (es : List Entry) → all_entries (out ++ (es ∷ [])) ≡ all_entries out ++ es
unfolding all_entries
all_snoc [] es = append-nil es
all_snoc (fs ∷ out) es = ap (λ (l : List Entry). fs ++ l) (all_snoc out es) ∙ sym (append_assoc fs (all_entries out) es)

pub run_length : (w : List ℕ) (run : Run) → length (entries_of w run) ≡ run.count
run_length w run = length_entries w run.at (least_x w run) (least_y w run) run.count

module _ (w : List ℕ) (span n : ℕ) where
  -- the components of the quads below s, whether quad s is kept, and its lone records
  abbrev pub out_below : ℕ → List (List Entry)
  out_below s = out_to w span n s

  abbrev pub keeps : ℕ → Bool
  keeps s = is_kept (fate_at span n w s)

  abbrev pub lone_run : ℕ → Run
  lone_run s = (runs_at span n w s).lone

  pub joined : (s : ℕ) → keeps s ≡ true → out_below (suc s) ≡ out_below s ++ (entries_of w (lone_run s) ∷ [])
  unfolding out_to
  joined s e = rw e

  pub passed : (s : ℕ) → keeps s ≡ false → out_below (suc s) ≡ out_below s
  unfolding out_to
  passed s e = rw e (append-nil (out_below s))

  pub one_more : (s : ℕ) → keeps s ≡ true → (length (out_below (s + 1)) ≡ length (out_below s) + 1) × (length (all_entries (out_below (s + 1))) ≡ length (all_entries (out_below s)) + (lone_run s).count)
  one_more s e =
      let es = entries_of w (lone_run s) in
      let j : out_below (s + 1) ≡ out_below s ++ (es ∷ []) = rw (add-one s) (joined s e) in
      (ap length j ∙ length-append (out_below s) (es ∷ []), ap (λ (o : List (List Entry)). length (all_entries o)) j ∙ ap length (all_snoc (out_below s) es) ∙ length-append (all_entries (out_below s)) es ∙ ap (λ (c : ℕ). length (all_entries (out_below s)) + c) (run_length w (lone_run s)))

  abbrev pub Counting : (s components entries : ℕ) → Type 0
  Counting s components entries = Counted (out_below s) s components entries

  pub counting_none : Counting 0 0 0
  unfolding out_to all_entries
  counting_none = record { components_are = refl; entries_are = refl; few_components = omega arith; few_entries = omega arith }

  pub counting_more : (s components entries : ℕ) (kept : Bool) → Counting s components entries → (lone_run s).count ≤ 4 * most_quads → kept ≡ keeps s → Counting (s + 1) (cond kept (components + 1) components) (cond kept (entries + (lone_run s).count) entries)
  counting_more s components entries true c few e =
      let o = one_more s (sym e) in
      record { components_are = omega (arith, c.components_are, o.0); entries_are = omega (arith, c.entries_are, o.1); few_components = omega (arith, c.few_components); few_entries = omega (arith, c.few_entries, few) }
  counting_more s components entries false c few e =
      let o : out_below (s + 1) ≡ out_below s = rw (add-one s) (passed s (sym e)) in
      record { components_are = c.components_are ∙ sym (ap length o); entries_are = c.entries_are ∙ sym (ap (λ (l : List (List Entry)). length (all_entries l)) o); few_components = omega (arith, c.few_components); few_entries = omega (arith, c.few_entries) }

  -- the counts grow
  grows_one : (s : ℕ) → (length (out_below s) ≤ length (out_below (suc s))) × (length (all_entries (out_below s)) ≤ length (all_entries (out_below (suc s))))
  grows_one s = go (keeps s) refl
    where
      es : List Entry
      es = entries_of w (lone_run s)

      go : (b : Bool) → keeps s ≡ b → (length (out_below s) ≤ length (out_below (suc s))) × (length (all_entries (out_below s)) ≤ length (all_entries (out_below (suc s))))
      go true e = rw (joined s e, length-append (out_below s) (es ∷ []), all_snoc (out_below s) es, length-append (all_entries (out_below s)) es) (omega arith, omega arith)
      go false e = rw (passed s e) (omega arith, omega arith)

  grows_by : (s d : ℕ) → (length (out_below s) ≤ length (out_below (s + d))) × (length (all_entries (out_below s)) ≤ length (all_entries (out_below (s + d))))
  grows_by s zero = rw (add-zero s) (omega arith, omega arith)
  grows_by s (suc d) = let g = grows_one (s + d) in let h = grows_by s d in rw (add-suc s d) (omega arith, omega arith)

  pub grows : (s t : ℕ) → s ≤ t → (length (out_below s) ≤ length (out_below t)) × (length (all_entries (out_below s)) ≤ length (all_entries (out_below t)))
  grows s t h = let e : s + (t - s) ≡ t = omega arith in rw e at (grows_by s (t - s))
