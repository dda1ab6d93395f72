-- `put_decimal` puts the kit's digits, which are the fewest, in the place of what stood there.
use Rattle.std.proofs.Common.{◌≡◌, ℕ, ◌+◌, ◌-◌, List, ◌++◌, take, drop, sym, ap, ◌∙◌, arith}
use borrow.Rule.Slice.PartMut.{put_mid}
use lib.Seq.{drop-drop}
use Rattle.digits.specs.Digits.{decimal_of}
use Rattle.digits.proofs.Places.{decimal_places, decimal_digits}
use Rattle.digits.proofs.inner.put_decimal.Goals as goal

-- a part of a list written anew
put_part : (out part form : List ℕ) (at k : ℕ) → part ≡ form → put_mid at (at + k - at) out part ≡ take at out ++ (form ++ drop (at + k) out)
put_part out part form at k e =
    let n : at + k - at ≡ k = omega arith in
    rw (n, e, drop-drop)

pub slice_bounds-copy_from_slice-end : goal.slice_bounds-copy_from_slice-end
slice_bounds-copy_from_slice-end c = omega (arith, decimal_places c.args.n _ c.decimal-count.ensures.len, c.requires)

pub returns : goal.returns
returns c =
    let a = c.args in
    let d = c.decimal-count in
    let p = decimal_places a.n d.result d.ensures.len in
    let e : take d.result d.new.out ≡ decimal_of a.n = d.ensures.digits ∙ sym (decimal_digits a.n d.result d.ensures.len) in
    (ap (λ (n : ℕ). a.at + n) p, put_part a.out.now _ _ a.at d.result (c.copy_from_slice.ensures.after ∙ e))
