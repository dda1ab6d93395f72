-- A triangle's three, stored in a list from place e on; in a list without places nothing is.
use Rattle.std.specs.Prelude.{List, ℕ, ◌+◌, set}
use Rattle.classify.specs.declared.three.Three.{Three}

abbrev pub stored : {A : Type 0} → List A → ℕ → Three A → List A
stored l e own = set (set (set l e own.first) (e + 1) own.second) (e + 2) own.third
