-- A refused write of a varint leaves the lent bytes as they were.
use Rattle.std.specs.Prelude.{Result, ℕ, ◌≡◌, refl, List}
use Rattle.basis.specs.Writing.{answer, written}
use Rattle.basis.specs.Told.{written_told}
use Rattle.basis.specs.Lists.{refused_write}
use Rattle.peer_id.specs.Uvarint.{uvarint}
use Rattle.basis.specs.declared.ShortRoom.{ShortRoom}

pub refused-uvarint : (value : ℕ) (out : List ℕ) → ((written_told (answer (uvarint value) out)).number ≡ 0 → ⊥)
    → written (uvarint value) out ≡ out
refused-uvarint value out h =
    refused_write (uvarint value) out (λ (w : Result ℕ ShortRoom). (written_told w).number) (λ n. refl) h
