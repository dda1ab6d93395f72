-- Two words have two forms, and a reader's contract leaves one answer. Assumes nothing.
use mathlib.Core.Path.{◌≡◌, refl, sym, ap, ◌∙◌}
use mathlib.Core.List.{List, [], ◌∷◌, ◌++◌}
use Prim.Native.Nat.{ℕ, ◌+◌, ◌<◌}
use Rattle.std.proofs.Common.{Option}
use lib.ListN.{length, drop}
use Rattle.digits.specs.declared.End.{End}
use Rattle.digits.specs.declared.End.TheVariants.{Blank}
use Rattle.digits.specs.declared.Taken.{Taken}
use Rattle.digits.specs.Digits.{hex_of, decimal_of}
use Rattle.digits.specs.Taken.{end_byte, words, Takes}
use Rattle.digits.specs.Taken.Takes.{nothing, word}
use Rattle.digits.proofs.Forms.{Marked, one_hex, one_decimal}

module _ (form : ℕ → List ℕ) (end : ℕ) (marked : Marked form end) where
  one_form : (v w : ℕ) → v < words → w < words → form v ≡ form w → v ≡ w
  one_form v w a b e = (marked v w [] [] a b (ap (λ (l : List ℕ). l ++ (end ∷ [])) e)).0

  one_answer : {text : List ℕ} {at : ℕ} {r s : Option (Taken ℕ)} → Takes form text at end r → Takes form text at end s → r ≡ s
  one_answer (nothing n) (nothing m) = refl
  one_answer (nothing n) (word s) = absurd (n _ _ s.word s.is)
  one_answer (word s) (nothing n) = absurd (n _ _ s.word s.is)
  one_answer {text} {at} (word {v} {next} s) (word {v = w} {next = other} t) =
      let e = (marked v w (drop next text) (drop other text) s.word t.word (sym s.is ∙ t.is)).0 in
      let n : next ≡ other = s.on ∙ ap (λ (x : ℕ). at + length (form x) + 1) e ∙ sym t.on in
      cc

pub hex_injective : (v w : ℕ) → v < words → w < words → hex_of v ≡ hex_of w → v ≡ w
hex_injective = one_form hex_of (end_byte Blank) (one_hex Blank)

pub decimal_injective : (v w : ℕ) → v < words → w < words → decimal_of v ≡ decimal_of w → v ≡ w
decimal_injective = one_form decimal_of (end_byte Blank) (one_decimal Blank)

pub hex_determined : (end : End) {text : List ℕ} {at : ℕ} {r s : Option (Taken ℕ)} → Takes hex_of text at (end_byte end) r → Takes hex_of text at (end_byte end) s → r ≡ s
hex_determined end = one_answer hex_of (end_byte end) (one_hex end)

pub decimal_determined : (end : End) {text : List ℕ} {at : ℕ} {r s : Option (Taken ℕ)} → Takes decimal_of text at (end_byte end) r → Takes decimal_of text at (end_byte end) s → r ≡ s
decimal_determined end = one_answer decimal_of (end_byte end) (one_decimal end)
