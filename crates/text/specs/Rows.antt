-- Headers and texts, worked out: a length is tested before the kind is there, and 65,600 is not above 65,600.
use Rattle.std.specs.Prelude.{◌≡◌, refl, [], ◌∷◌, Some, None, Ok, Err}
use Rattle.text.specs.declared.HeaderError.TheVariants.{Bad, Long}
use Rattle.basis.specs.Little.{little}
use Rattle.text.specs.Record.{header_of}
use Rattle.text.specs.Line.{width, decimal, hex}

pub rows :
    (header_of 65600 [] ≡ Ok None)
    × (header_of 65600 (0x41 ∷ 0x00 ∷ 0x01 ∷ []) ≡ Err Bad)
    × (header_of 65600 (0x41 ∷ 0x00 ∷ 0x01 ∷ 0x00 ∷ []) ≡ Err Long)
    × (header_of 65600 (0x40 ∷ 0x00 ∷ 0x01 ∷ 0x00 ∷ 0x05 ∷ []) ≡ Err Bad)
    × (header_of 65600 (0x40 ∷ 0x00 ∷ 0x01 ∷ 0x00 ∷ 0x05 ∷ 0x01 ∷ []) ≡ Ok (Some (record { kind = 261; len = 65600 })))
    × (decimal 0 ≡ 48 ∷ [])
    × (decimal 1090 ≡ 49 ∷ 48 ∷ 57 ∷ 48 ∷ [])
    × (hex (0x0a ∷ 0xf9 ∷ []) ≡ 48 ∷ 97 ∷ 102 ∷ 57 ∷ [])
unfolding little header_of width decimal hex
rows = (refl, refl, refl, refl, refl, refl, refl, refl)
