-- Where a body's answer comes from: it is too large; or counting refuses it; or it has too many records; or it is
-- taken.
use Rattle.std.specs.Prelude.{Result, Ok, Err, ℕ, ◌≤◌, ◌<◌, ◌≡◌, refl, List, [], length, ltb}
use Rattle.std.proofs.Common.{ap, ◌∙◌, arith, ltb-true, ltb-false, le-ltb, lt-ltb}
use Rattle.basis.specs.declared.Dialect.{Dialect}
use Rattle.basis.specs.Cases.{either, clash}
use Rattle.protobuf.specs.declared.WireError.{WireError}
use Rattle.protobuf.specs.declared.WireError.TheVariants.{TooLarge, TooManyRecords}
use Rattle.protobuf.specs.Refusal.{nowhere, standing}
use Rattle.schema.specs.declared.Kind.TheVariants as kind
use Rattle.protobuf.specs.declared.Refusal.{Refusal}
use Rattle.protobuf.specs.WalkLaws.{walk_end}
use Rattle.schema.specs.Count.{count_along, counted}
use Rattle.schema.specs.CountLaws.{count_along_lem}
use Rattle.schema.specs.Spots.{spot_in}
use Rattle.schema.specs.Accept.{few, body_records, checked, accept_of}

pub data Gate (d : Dialect) (s : List ℕ) : Result ℕ Refusal → Type 0 where
  large : 65536 < length s → Gate d s (Err (nowhere (TooLarge (length s))))
  bad : length s ≤ 65536 → (why : WireError) → counted d.mode (kind.Rpc d.edition) s ≡ Err why
      → Gate d s (Err (standing (spot_in d.mode (kind.Rpc d.edition) s) why))
  many : length s ≤ 65536 → (n : ℕ) → counted d.mode (kind.Rpc d.edition) s ≡ Ok n → 512 < n
      → Gate d s (Err (nowhere (TooManyRecords n)))
  passes : length s ≤ 65536 → (n : ℕ) → counted d.mode (kind.Rpc d.edition) s ≡ Ok n → n ≤ 512
      → Gate d s (Ok n)

of-counted : (d : Dialect) (s : List ℕ) (r : Result ℕ WireError) → length s ≤ 65536
    → counted d.mode (kind.Rpc d.edition) s ≡ r
    → Gate d s (few (spot_in d.mode (kind.Rpc d.edition) s) r)
of-counted d s (Err why) h e = bad h why e
of-counted d s (Ok n) h e =
    either (ltb 512 n) (λ t. simp t (many h n e (ltb-true 512 n t))) (λ t. simp t (passes h n e (ltb-false 512 n t)))

pub gate : (d : Dialect) (s : List ℕ) → Gate d s (body_records d s)
unfolding body_records
gate d s =
    either (ltb 65536 (length s)) (λ t. simp t (large (ltb-true 65536 (length s) t)))
    (λ t. simp t (of-counted d s (counted d.mode (kind.Rpc d.edition) s) (ltb-false 65536 (length s) t) refl))

-- ---- and back
pub records-taken : (d : Dialect) (s : List ℕ) (n : ℕ) → length s ≤ 65536
    → counted d.mode (kind.Rpc d.edition) s ≡ Ok n → n ≤ 512
    → body_records d s ≡ Ok n
unfolding body_records
records-taken d s n h e l = simp (le-ltb 65536 (length s) h, e, le-ltb 512 n l)

pub records-many : (d : Dialect) (s : List ℕ) (n : ℕ) → length s ≤ 65536
    → counted d.mode (kind.Rpc d.edition) s ≡ Ok n → 512 < n
    → body_records d s ≡ Err (nowhere (TooManyRecords n))
unfolding body_records
records-many d s n h e l = simp (le-ltb 65536 (length s) h, e, lt-ltb 512 n l)

pub records-large : (d : Dialect) (s : List ℕ) → 65536 < length s
    → body_records d s ≡ Err (nowhere (TooLarge (length s)))
unfolding body_records
records-large d s h = simp (lt-ltb 65536 (length s) h)

pub records_wrong : (d : Dialect) (s : List ℕ) (why : WireError) → length s ≤ 65536
    → counted d.mode (kind.Rpc d.edition) s ≡ Err why
    → body_records d s ≡ Err (standing (spot_in d.mode (kind.Rpc d.edition) s) why)
unfolding body_records
records_wrong d s why h e = simp (le-ltb 65536 (length s) h, e)

-- ---- a body that is taken
pub record Taken (d : Dialect) (s : List ℕ) : Type 0 where
  pub records : ℕ
  pub counts : counted d.mode (kind.Rpc d.edition) s ≡ Ok records
  pub few : records ≤ 512
  pub small : length s ≤ 65536

of-gate : (d : Dialect) (s : List ℕ) (r : Result ℕ Refusal) → Gate d s r → checked r ≡ Ok tt → Taken d s
of-gate d s _ (large h) e = clash (cc)
of-gate d s _ (bad h why q) e = clash (cc)
of-gate d s _ (many h n q l) e = clash (cc)
of-gate d s _ (passes h n q l) e = record { records = n; counts = q; few = l; small = h }

pub is-taken : (d : Dialect) (s : List ℕ) → accept_of d s ≡ Ok tt → Taken d s
unfolding accept_of
is-taken d s h = of-gate d s (body_records d s) (gate d s) h

pub taken_fine : (d : Dialect) (s : List ℕ) → Taken d s → accept_of d s ≡ Ok tt
unfolding accept_of
taken_fine d s t = ap checked (records-taken d s t.records t.small t.counts t.few)

-- it has at most 65,536 bytes
pub accept_small : (d : Dialect) (s : List ℕ) → accept_of d s ≡ Ok tt → length s ≤ 65536
accept_small d s h = (is-taken d s h).small

-- and it has at most 512 records
pub accept_records : (d : Dialect) (s : List ℕ) → accept_of d s ≡ Ok tt
    → (r : ℕ) × (counted d.mode (kind.Rpc d.edition) s ≡ Ok r) × (r ≤ 512)
accept_records d s h = let t = is-taken d s h in (t.records, t.counts, t.few)

-- an empty body is
pub empty-taken : (d : Dialect) → accept_of d [] ≡ Ok tt
empty-taken d =
    taken_fine d []
    (record {
      records = 0;
      counts = count_along_lem d.mode (kind.Rpc d.edition) []
          ∙ ap (count_along (counted d.mode) (kind.Rpc d.edition) []) (walk_end d.mode [] 0 (omega arith));
      few = omega arith;
      small = omega arith;
    })
