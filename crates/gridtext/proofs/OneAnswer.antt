-- A text has one answer (`answers_agree`): it has one frame or one first bad line, its frame is refused for one reason or not at all, and has
-- one list of components. So a call has one outcome (`determined`), the list after and the count: the answer stands at the front, and the
-- rest is as it was. Assumes nothing.
use mathlib.Core.Path.{◌≡◌, sym, ap, ap₂, ◌∙◌}
use mathlib.Core.List.{List, ◌++◌}
use Prim.Native.Nat.{ℕ, ◌<◌}
use native.Mathlib.Decide.{dec_lt}
use native.Mathlib.Omega.{arith}
use lib.ListN.{length, take, drop, take-append-drop}
use Rattle.refusal.proofs.Rows.{shut_open, one_why}
use Rattle.frame.specs.Call.{judge_of}
use Rattle.frame.proofs.Determined.{one_answer}
use Rattle.gridtext.specs.Lists.{input_of}
use Rattle.gridtext.specs.Answer.{bad_text, refused_text, components_text}
use Rattle.gridtext.specs.Gridlabel.{Answers, most_text, Answered}
use Rattle.gridtext.specs.Gridlabel.Answers.{bad, refused, labelled}
use Rattle.gridtext.proofs.OneReading.{one_frame, one_bad_line, never_both}

pub answers_agree : (text out other : List ℕ) → Answers text out → Answers text other → out ≡ other
answers_agree text out other (bad j a) (bad k b) = ap bad_text (one_bad_line a b)
answers_agree text out other (bad j a) (refused g s why e) = absurd (never_both g s a)
answers_agree text out other (bad j a) (labelled g s e l b) = absurd (never_both g s a)
answers_agree text out other (refused f r why e) (bad k b) = absurd (never_both f r b)
answers_agree text out other (labelled f r e l a) (bad k b) = absurd (never_both f r b)
answers_agree text out other (refused f r why e) (refused g s more d) = ap refused_text (one_why (judge_of (input_of f)) why more e (rw (one_frame f g r s) d))
answers_agree text out other (refused f r why e) (labelled g s d m b) = absurd (shut_open (judge_of (input_of f)) why e (rw (one_frame f g r s) d))
answers_agree text out other (labelled f r e l a) (refused g s why d) = absurd (shut_open (judge_of (input_of f)) why (rw (one_frame f g r s) d) e)
answers_agree text out other (labelled f r e l a) (labelled g s d m b) = ap components_text (one_answer (input_of f) l m a (rw (one_frame f g r s) b))

pub determined : {text before after other : List ℕ} {end last : ℕ} → Answered text before after end → Answered text before other last → (after ≡ other) × (end ≡ last)
determined {text} {before} {after} {other} {end} {last} a b = whole (front (dec_lt (length before) most_text))
  where
    front : Dec (length before < most_text) → take end after ≡ take last other
    front (yes h) = rw (a.short h, b.short h)
    front (no h) = answers_agree text (take end after) (take last other) (a.answers (omega (arith, h))) (b.answers (omega (arith, h)))

    whole : take end after ≡ take last other → (after ≡ other) × (end ≡ last)
    whole same =
        let ends : end ≡ last = a.whole ∙ ap length same ∙ sym b.whole in
        let rest : drop end after ≡ drop last other = a.rest ∙ ap (λ (n : ℕ). drop n before) ends ∙ sym b.rest in
        (sym (take-append-drop end after) ∙ ap₂ ◌++◌ same rest ∙ take-append-drop last other, ends)
