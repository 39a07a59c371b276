-- The bucket of an id: one of 4096, from all of its bytes. Equal ids have the same bucket; what else it is matters only
-- to speed.
use Rattle.std.specs.Prelude.{ℕ, ◌+◌, ◌*◌, ◌%◌, List, [], ◌∷◌}

abbrev pub buckets : ℕ
buckets = 4096

unfoldable pub bucket_of : List ℕ → ℕ
bucket_of [] = 0
bucket_of (x ∷ xs) = (bucket_of xs * 33 + x) % buckets
