-- A record's corners are in the list: record r of a list of n words lies below n. Assumes nothing.
use mathlib.Core.Path.{◌≡◌}
use Prim.Native.Nat.{ℕ, suc, ◌+◌, ◌*◌, ◌/◌, ◌%◌, ◌≤◌, ◌<◌}
use native.Mathlib.Nat.{mul-le-mul_right, suc-mul, div-add-mod'}
use native.Mathlib.Omega.{arith}

pub record_in : (n size r : ℕ) → r < n / size → r * size + size ≤ n
record_in n size r h =
    let up : suc r * size ≤ n / size * size = mul-le-mul_right size h in
    let all : n / size * size + n % size ≡ n = div-add-mod' n size in
    let one : suc r * size ≡ r * size + size = suc-mul r size in
    omega arith
