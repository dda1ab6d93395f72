-- `print_refused` prints the word, the number and the place after it, and what stands beside the place where the row has that.
use mathlib.Core.Bool.{Bool, cond}
use mathlib.Core.Path.{◌≡◌, refl, sym, ap, ◌∙◌}
use mathlib.Core.List.{List, [], ◌∷◌, ◌++◌}
use Prim.Native.Nat.{ℕ}
use Rattle.refusal.specs.declared.Refusal.{Refusal}
use Rattle.refusal.specs.Table.{number_of, place_of, beside_of, has_beside}
use Rattle.digits.specs.Digits.{decimal_of}
use Rattle.gridtext.specs.Answer.{refused_fields, refused_text, numbers_line}
use Rattle.gridtext.specs.inner.Printed.{Printed, last_fields}
use Rattle.gridtext.proofs.Bounds.{two_after, three_after}
use Rattle.gridtext.proofs.Printing.{printed_then, printed_as}
use Rattle.gridtext.proofs.inner.print.print_refused.Goals as goal

abbrev refused : List ℕ
refused = 114 ∷ 101 ∷ 102 ∷ 117 ∷ 115 ∷ 101 ∷ 100 ∷ []

abbrev fields : (has : Bool) (number place beside : ℕ) → List (List ℕ)
fields has number place beside = decimal_of number ∷ decimal_of place ∷ cond has (decimal_of beside ∷ []) []

-- the numbers that the code has are those of the refusal
fields_are : (why : Refusal) (has : Bool) {n p b : ℕ} → n ≡ number_of why → p ≡ place_of why → b ≡ beside_of why → has_beside n ≡ has → fields has n p b ≡ refused_fields why
fields_are why has {n} {p} {b} e f g h =
    ap (λ (t : Bool). fields t n p b) (sym h) ∙ ap (λ (m : ℕ). fields (has_beside m) m p b) e
    ∙ ap (λ (q : ℕ). fields (has_beside (number_of why)) (number_of why) q b) f
    ∙ ap (fields (has_beside (number_of why)) (number_of why) (place_of why)) g

-- so the word and the fields after it are its text
printed_refused : (why : Refusal) (has : Bool) {n p b : ℕ} {before mid after : List ℕ} {at end : ℕ} → n ≡ number_of why → p ≡ place_of why → b ≡ beside_of why → has_beside n ≡ has → Printed before mid 0 refused at → Printed mid after at (last_fields (fields has n p b)) end → Printed before after 0 (refused_text why) end
unfolding refused_text numbers_line
printed_refused why has e f g h word rest = printed_as (ap (λ (l : List (List ℕ)). refused ++ last_fields l) (fields_are why has e f g h)) (printed_then word rest)

pub end_line-requires : goal.end_line-requires
end_line-requires c = three_after _ _ _ c.put_bytes-next.ensures refl c.number-number.type_inv c.place-place.type_inv c.beside-beside.type_inv c.requires

pub returns-then-has_beside : goal.returns-then-has_beside
returns-then-has_beside c = printed_refused c.args.why _ c.number-number.ensures c.place-place.ensures c.beside-beside.ensures (sym c.has_beside.ensures ∙ c.if-has_beside.true) c.put_bytes-next.ensures c.end_line.ensures

pub end_line-requires-2 : goal.end_line-requires-2
end_line-requires-2 c = two_after _ _ c.put_bytes-next.ensures refl c.number-number.type_inv c.place-place.type_inv c.requires

pub returns : goal.returns
returns c = printed_refused c.args.why _ c.number-number.ensures c.place-place.ensures c.beside-beside.ensures (sym c.has_beside.ensures ∙ c.if-has_beside.false) c.put_bytes-next.ensures c.end_line-2.ensures
