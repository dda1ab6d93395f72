-- Words pasted into a list: no words change nothing, words after words are one paste, and words after a front that is written make it
-- longer. Assumes nothing.
use mathlib.Core.Path.{◌≡◌, sym, ap, ◌∙◌}
use mathlib.Core.List.{List, [], ◌++◌, append_assoc}
use Prim.Native.Nat.{ℕ, ◌+◌, ◌≤◌}
use native.Mathlib.Nat.{add-zero}
use native.Mathlib.Omega.{arith}
use lib.ListN.{length, take, drop, length-append, take-append-drop}
use lib.Seq.{length-take-le, take_at, drop-append-add, drop-drop}
use Rattle.walk.specs.inner.Emitting.{pasted}

pub pasted_none : (at : ℕ) (l : List ℕ) → pasted at [] l ≡ l
pasted_none at l = ap (λ (k : ℕ). take at l ++ drop k l) (add-zero at) ∙ take-append-drop at l

after : (p r words : List ℕ) (k : ℕ) → length p ≡ k → pasted k words (p ++ r) ≡ p ++ (words ++ drop (length words) r)
after p r words k e =
    ap (λ (l : List ℕ). l ++ (words ++ drop (k + length words) (p ++ r))) (take_at p r k e)
    ∙ ap (λ (n : ℕ). p ++ (words ++ drop (n + length words) (p ++ r))) (sym e)
    ∙ ap (λ (l : List ℕ). p ++ (words ++ l)) (drop-append-add p r (length words))

-- words after a front of k words
pub front_more : (front words before : List ℕ) (k : ℕ) → length front ≡ k → pasted k words (front ++ drop k before) ≡ (front ++ words) ++ drop (k + length words) before
front_more front words before k e =
    after front (drop k before) words k e
    ∙ ap (λ (l : List ℕ). front ++ (words ++ l)) (drop-drop (length words) k before)
    ∙ sym (append_assoc front words (drop (k + length words) before))

pub pasted_more : (at k : ℕ) (first then l : List ℕ) → at ≤ length l → k ≡ at + length first → pasted k then (pasted at first l) ≡ pasted at (first ++ then) l
pasted_more at k first then l h e =
    ap (pasted k then) (sym (append_assoc (take at l) first (drop (at + length first) l)))
    ∙ after (take at l ++ first) (drop (at + length first) l) then k (length-append (take at l) first ∙ ap (λ (n : ℕ). n + length first) (length-take-le at l h) ∙ sym e)
    ∙ ap (λ (r : List ℕ). (take at l ++ first) ++ (then ++ r)) (drop-drop (length then) (at + length first) l ∙ ap (λ (n : ℕ). drop n l) past)
    ∙ append_assoc (take at l) first (then ++ drop (at + length (first ++ then)) l)
    ∙ ap (λ (r : List ℕ). take at l ++ r) (sym (append_assoc first then (drop (at + length (first ++ then)) l)))
  where
    past : at + length first + length then ≡ at + length (first ++ then)
    past = omega (arith, length-append first then)
