-- Going by cases on a test, what follows from 0 being 1, and when two answers are the same.
use Rattle.std.specs.Prelude.{ℕ, ◌+◌, ◌≤◌, ◌≡◌, refl, Bool, true, false, cond, ◌&&◌, ◌||◌, Result, Ok, Option, Some}
use Rattle.std.proofs.Common.{ap, arith}

-- either way of a test
pub either : {A : Type 0} (t : Bool) → (t ≡ true → A) → (t ≡ false → A) → A
either true f g = f refl
either false f g = g refl

-- two different constructors are equal only where 0 is 1
pub clash : {A : Type 0} → ◌≡◌ {A = ℕ} 0 1 → A
clash e = absurd (omega arith)

-- two tests that pass together pass each
pub both : (a b : Bool) → (a && b) ≡ true → (a ≡ true) × (b ≡ true)
both true b h = (refl, h)
both false b h = clash (cc)

-- two tests of which neither passes
pub neither : (a b : Bool) → (a || b) ≡ false → (a ≡ false) × (b ≡ false)
neither true b h = clash (cc)
neither false b h = (refl, h)

-- a count that a test moves goes up by one at most
pub at_most : (t : Bool) (n m : ℕ) → m ≡ cond t (n + 1) n → m ≤ n + 1
at_most true n m e = omega arith
at_most false n m e = omega arith

-- two answers are the same where their parts are
pub ok-two : {A B E : Type 0} {a c : A} {b d : B} → a ≡ c → b ≡ d → ◌≡◌ {A = Result (A × B) E} (Ok (a, b)) (Ok (c, d))
ok-two p q = cc

pub ok-three : {A B C E : Type 0} {a x : A} {b y : B} {c z : C} → a ≡ x → b ≡ y → c ≡ z
    → ◌≡◌ {A = Result (Option (A × B × C)) E} (Ok (Some (a, b, c))) (Ok (Some (x, y, z)))
ok-three p q r = cc

-- and the other way
pub of-ok : {A E : Type 0} {a b : A} → ◌≡◌ {A = Result A E} (Ok a) (Ok b) → a ≡ b
of-ok e = cc

pub of-ok-some : {A E : Type 0} {a b : A} → ◌≡◌ {A = Result (Option A) E} (Ok (Some a)) (Ok (Some b)) → a ≡ b
of-ok-some e = cc

pub of-ok-two : {A B E : Type 0} {a c : A} {b d : B} → ◌≡◌ {A = Result (A × B) E} (Ok (a, b)) (Ok (c, d))
    → (a ≡ c) × (b ≡ d)
of-ok-two {A} {B} e = let p = of-ok e in (ap (λ (w : A × B). w.0) p, ap (λ (w : A × B). w.1) p)

pub of-ok-three : {A B C E : Type 0} {a x : A} {b y : B} {c z : C}
    → ◌≡◌ {A = Result (Option (A × B × C)) E} (Ok (Some (a, b, c))) (Ok (Some (x, y, z))) → (a ≡ x) × (b ≡ y) × (c ≡ z)
of-ok-three {A} {B} {C} e =
    let p = of-ok-some e in
    (ap (λ (w : A × B × C). w.0) p, ap (λ (w : A × B × C). w.1) p, ap (λ (w : A × B × C). w.2) p)
