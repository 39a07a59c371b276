-- Records: the content's length (4 bytes), its kind (2 bytes), the content. Numbers are little-endian.
use Rattle.std.specs.Prelude.{ℕ, List, cond, length, take, drop, ltb, eqb, Option, Some, None, Result, Ok, Err}
use Rattle.basis.specs.Little.{little}
use Rattle.text.specs.declared.Header.{Header}
use Rattle.text.specs.declared.HeaderError.{HeaderError}
use Rattle.text.specs.declared.HeaderError.TheVariants.{Bad, Long}

-- the header that s begins, where s was cut only if it has less than 6 bytes: a length above `most` is tested first,
-- also where the kind is cut
unfoldable pub header_of : ℕ → List ℕ → Result (Option Header) HeaderError
header_of most s =
    cond (eqb (length s) 0) (Ok None)
    (cond (ltb (length s) 4) (Err Bad)
    (cond (ltb most (little (take 4 (drop 0 s)))) (Err Long)
    (cond (ltb (length s) 6) (Err Bad)
    (Ok (Some (record { kind = little (take 2 (drop 4 s)); len = little (take 4 (drop 0 s)) }))))))

-- how much content follows a header
abbrev pub content_length : Result (Option Header) HeaderError → ℕ
content_length (Ok (Some h)) = h.len
content_length (Ok None) = 0
content_length (Err why) = 0
