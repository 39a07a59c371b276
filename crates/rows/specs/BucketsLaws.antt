-- Laws of buckets: what the flags of the buckets that were met say of the ids met.
use Rattle.std.specs.Prelude.{ℕ, ◌<◌, ◌≡◌, List, [], ◌∷◌, Bool, true, false, ◌&&◌, length, get_or, set, eqb}
use Rattle.std.proofs.Common.{sym, ap, ◌∙◌, arith, get_or-set_same, get_or-set_other, eqb-true}
use Rattle.std.proofs.lemmas.Bool.{eqb-false}
use Rattle.basis.specs.Cases.{either, clash}
use Rattle.rows.specs.Ids.{same_bytes, among}
use Rattle.rows.specs.IdsLaws.{same_equal}
use Rattle.rows.specs.Buckets.{buckets, bucket_of}

-- ---- the bucket of an id
bucket_lt : (id : List ℕ) → bucket_of id < buckets
unfolding bucket_of
bucket_lt [] = omega arith
bucket_lt (x ∷ xs) = omega arith

pub bucket_in : (id : List ℕ) (b : ℕ) → b ≡ bucket_of id → b < buckets
bucket_in id b e = rw e (bucket_lt id)

-- ---- flags: an id whose bucket has none is not among those met
abbrev pub Met : List Bool → List (List ℕ) → Type 0
Met flags l = (id : List ℕ) → get_or flags (bucket_of id) false ≡ false → among id l ≡ false

-- so an id is looked for only where its bucket has been met
pub met_again : (flags : List Bool) (l : List (List ℕ)) (id : List ℕ) (b : ℕ) → Met flags l → b ≡ bucket_of id
    → (get_or flags b false && among id l) ≡ among id l
met_again flags l id b m e = either (get_or flags b false) (λ t. rw t) (λ t. rw t (sym (m id (rw e at t))))

-- one id more, whose flag is set
met_cons : (flags : List Bool) (j : List ℕ) (l : List (List ℕ)) → bucket_of j < length flags → Met flags l
    → Met (set flags (bucket_of j) true) (j ∷ l)
unfolding among
met_cons flags j l b m id h =
    either (eqb (bucket_of id) (bucket_of j))
    (λ t. let e : bucket_of id ≡ bucket_of j = eqb-true (bucket_of id) (bucket_of j) t in
    clash (let z = rw (e, get_or-set_same flags (bucket_of j) true false b) at h in cc))
    (λ t. let d = eqb-false (bucket_of id) (bucket_of j) t in
    let f : get_or flags (bucket_of id) false ≡ false =
    sym (get_or-set_other flags (bucket_of j) (bucket_of id) true false d) ∙ h in
    either (same_bytes j id) (λ u. absurd (d (ap bucket_of (sym (same_equal j id u))))) (λ u. simp u (m id f)))

pub met_more : (flags : List Bool) (b : ℕ) (id : List ℕ) (l m : List (List ℕ)) → m ≡ id ∷ l → b ≡ bucket_of id
    → length flags ≡ buckets → Met flags l → Met (set flags b true) m
met_more flags b id l m row e n met =
    let k : bucket_of id < length flags = rw n (bucket_lt id) in
    rw (row, e) (met_cons flags id l k met)
