-- Numbers as bytes, the low byte first, and back.
use Rattle.std.specs.Prelude.{ℕ, zero, suc, ◌+◌, ◌*◌, ◌/◌, ◌%◌, ◌^◌, ◌<◌, ◌≡◌, refl, List, [], ◌∷◌, length}
use Rattle.std.proofs.Common.{ap, arith, pow-suc}
use Rattle.std.proofs.Math.Nat.{mod-add-div}
use Rattle.basis.specs.Bytes.{Bytes}

-- the number in bytes
unfoldable pub little : List ℕ → ℕ
little [] = 0
little (b ∷ s) = b + 256 * little s

-- the bytes of a number, w of them
unfoldable pub bytes_of : ℕ → ℕ → List ℕ
bytes_of zero v = []
bytes_of (suc w) v = v % 256 ∷ bytes_of w (v / 256)

pub bytes_length_lem : (w v : ℕ) → length (bytes_of w v) ≡ w
unfolding bytes_of
bytes_length_lem zero v = refl
bytes_length_lem (suc w) v = ap suc (bytes_length_lem w (v / 256))

pub little-below : (s : List ℕ) → Bytes s → little s < 256 ^ length s
unfolding little
little-below [] b = omega arith
little-below (x ∷ s) b =
    let p : 256 ^ suc (length s) ≡ 256 ^ length s * 256 = pow-suc 256 (length s) in
    let h : little s < 256 ^ length s = little-below s (λ i. b (suc i)) in
    rw p (omega (arith, b 0))

pub little-of-bytes : (w v : ℕ) → v < 256 ^ w → little (bytes_of w v) ≡ v
unfolding little bytes_of
little-of-bytes zero v h = omega arith
little-of-bytes (suc w) v h =
    let p : 256 ^ suc w ≡ 256 ^ w * 256 = pow-suc 256 w in
    let e : little (bytes_of w (v / 256)) ≡ v / 256 = little-of-bytes w (v / 256) (omega arith) in
    rw e (mod-add-div v 256)

pub bytes_of-little : (s : List ℕ) → Bytes s → bytes_of (length s) (little s) ≡ s
unfolding little bytes_of
bytes_of-little [] b = refl
bytes_of-little (x ∷ s) b =
    let l : x < 256 = b 0 in
    let r : (x + 256 * little s) % 256 ≡ x = omega arith in
    let q : (x + 256 * little s) / 256 ≡ little s = omega arith in
    rw (r, q, bytes_of-little s (λ i. b (suc i)))
