-- What tests say that are joined by and, by or, and over a list or the numbers below n. Assumes nothing.
use mathlib.Core.Path.{◌≡◌, refl, sym, ap, ap₂, ◌∙◌}
use mathlib.Core.Bool.{Bool, true, false, not, ◌&&◌, ◌||◌, true≢false}
use mathlib.Core.List.{List, [], ◌∷◌, ◌++◌, map}
use mathlib.Core.Logic.{◌⊎◌, inl, inr}
use Prim.Native.Nat.{ℕ, zero, suc, ◌<◌}
use native.Mathlib.Omega.{arith}
use native.Mathlib.Decide.{ℕ_discrete}
use lib.ListN.{length}
use Rattle.cells.specs.Listed.{In, some_one}
use Rattle.cells.specs.Listed.In.{first, later}
use Rattle.cells.specs.Twin.{every_one, numbers}

pub never : {A : Type 0} → true ≡ false → A
never e = absurd (true≢false e)

pub both : (a b : Bool) → (a && b) ≡ true → (a ≡ true) × (b ≡ true)
both true b e = (refl, e)
both false b e = never (sym e)

pub passes : (a b : Bool) → a ≡ true → b ≡ true → (a && b) ≡ true
passes a b p q = ap₂ ◌&&◌ p q

not_both : (a b : Bool) → (a && b) ≡ false → (a ≡ false) ⊎ (b ≡ false)
not_both true b e = inr e
not_both false b e = inl refl

pub either : (a b : Bool) → (a || b) ≡ true → (a ≡ true) ⊎ (b ≡ true)
either true b e = inl refl
either false b e = inr e

pub neither : (a b : Bool) → (a || b) ≡ false → (a ≡ false) × (b ≡ false)
neither true b e = never e
neither false b e = (refl, e)

pub or_left : (a b : Bool) → a ≡ true → (a || b) ≡ true
or_left true b e = refl
or_left false b e = never (sym e)

pub or_right : (a b : Bool) → b ≡ true → (a || b) ≡ true
or_right true b e = refl
or_right false b e = e

pub not_passed : (a : Bool) → (a ≡ true → ⊥) → a ≡ false
not_passed true h = absurd (h refl)
not_passed false h = refl

-- two tests that pass together are one
pub same_truth : (a b : Bool) → (a ≡ true → b ≡ true) → (b ≡ true → a ≡ true) → a ≡ b
same_truth true b p q = sym (p refl)
same_truth false true p q = q refl
same_truth false false p q = refl

-- where a, there b
pub implied : (a b : Bool) → (not a || b) ≡ true → a ≡ true → b ≡ true
implied true b e t = e
implied false b e t = never (sym t)

pub implies : (a b : Bool) → (a ≡ true → b ≡ true) → (not a || b) ≡ true
implies true b h = h refl
implies false b h = refl

-- ---- over a list

pub not_in : {A B : Type 0} {x : A} → In x [] → B
not_in i = elim i [ ]

module _ {A : Type 0} (test : A → Bool) where
  pub every_in : {x : A} {xs : List A} → every_one test xs ≡ true → In x xs → test x ≡ true
  every_in e (first {f = y} {es = ys} p) = ap test p ∙ (both (test y) (every_one test ys) e).0
  every_in e (later {f = y} {es = ys} i) = every_in (both (test y) (every_one test ys) e).1 i

  pub in_every : (xs : List A) → ((x : A) → In x xs → test x ≡ true) → every_one test xs ≡ true
  in_every [] h = refl
  in_every (x ∷ xs) h = ap₂ ◌&&◌ (h x (first refl)) (in_every xs (λ y i. h y (later i)))

  pub record Where (b : Bool) (xs : List A) : Type 0 where
    pub one : A
    pub among : In one xs
    pub is : test one ≡ b

  here_or : {b : Bool} {C : Type 0} (x : A) {xs : List A} → (test x ≡ b) ⊎ C → (C → Where b xs) → Where b (x ∷ xs)
  here_or x (inl t) r = record { one = x; among = first refl; is = t }
  here_or x (inr t) r =
      let a = r t in
      record { one = a.one; among = later a.among; is = a.is }

  pub some_in : (xs : List A) → some_one test xs ≡ true → Where true xs
  some_in [] e = never (sym e)
  some_in (x ∷ xs) e = here_or x (either (test x) (some_one test xs) e) (λ t. some_in xs t)

  pub in_some : {x : A} {xs : List A} → In x xs → test x ≡ true → some_one test xs ≡ true
  in_some (first {f = y} {es = ys} p) e = or_left (test y) (some_one test ys) (ap test (sym p) ∙ e)
  in_some (later {f = y} {es = ys} i) e = or_right (test y) (some_one test ys) (in_some i e)

  -- where not every one passes, one does not
  pub fails : (xs : List A) → every_one test xs ≡ false → Where false xs
  fails [] e = never e
  fails (x ∷ xs) e = here_or x (not_both (test x) (every_one test xs) e) (λ t. fails xs t)

-- ---- members of a list that is made of another

pub in_front : {A : Type 0} {x : A} {xs : List A} (ys : List A) → In x xs → In x (xs ++ ys)
in_front ys (first p) = first p
in_front ys (later i) = later (in_front ys i)

pub in_last : {A : Type 0} {x : A} (xs : List A) → In x (xs ++ (x ∷ []))
in_last [] = first refl
in_last (y ∷ xs) = later (in_last xs)

pub in_map : {A B : Type 0} (f : A → B) {x : A} {xs : List A} → In x xs → In (f x) (map f xs)
in_map f (first p) = first (ap f p)
in_map f (later i) = later (in_map f i)

pub record Made {A B : Type 0} (f : A → B) (y : B) (xs : List A) : Type 0 where
  pub of : A
  pub among : In of xs
  pub is : y ≡ f of

pub map_in : {A B : Type 0} (f : A → B) {y : B} (xs : List A) → In y (map f xs) → Made f y xs
map_in f [] i = not_in i
map_in f (x ∷ xs) (first p) = record { of = x; among = first refl; is = p }
map_in f (x ∷ xs) (later i) =
    let m = map_in f xs i in
    record { of = m.of; among = later m.among; is = m.is }

-- ---- over the numbers below n

pub below_in : (n i : ℕ) → i < n → In i (numbers n)
below_in zero i h = absurd (omega arith)
below_in (suc n) i h = go (ℕ_discrete i n) (λ l. below_in n i l)
  where
    go : Dec (i ≡ n) → (i < n → In i (numbers n)) → In i (n ∷ numbers n)
    go (yes e) r = first e
    go (no d) r = later (r (omega arith))

pub in_below : (n : ℕ) {i : ℕ} → In i (numbers n) → i < n
in_below zero i = not_in i
in_below (suc n) (first e) = omega arith
in_below (suc n) (later i) = omega (arith, in_below n i)

pub numbers_length : (n : ℕ) → length (numbers n) ≡ n
numbers_length zero = refl
numbers_length (suc n) = ap suc (numbers_length n)
