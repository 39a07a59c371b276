-- Of a walk that reaches the end: what each field gives to the values of a field number.
use Rattle.std.specs.Prelude.{ℕ, ◌≡◌, false, cond, List, ◌∷◌, eqb}
use Rattle.std.proofs.Common.{eqb-true}
use Rattle.basis.specs.Cases.{either}
use Rattle.protobuf.specs.declared.Field.{Field}
use Rattle.protobuf.specs.Walk.{payload_of, entry_of, is_bytes, is_number, value_in}
use Rattle.rpc.specs.Grammar.{put_number, put_bytes}

payload-bytes : (s : List ℕ) (m : ℕ) (f : Field) (ds : List (List ℕ)) → put_bytes (eqb f.field m) (payload_of s f) ds
    ≡ cond (is_bytes m f) (value_in s f ∷ ds) ds
unfolding payload_of
payload-bytes s m f ds =
    either (eqb f.wire_type 2)
    (λ t2. let z : eqb f.wire_type 0 ≡ false = rw (eqb-true f.wire_type 2 t2) in simp (z, t2))
    (λ t2. either (eqb f.wire_type 0) (λ t0. simp (t0, t2))
    (λ t0. either (eqb f.wire_type 3) (λ t3. simp (t0, t2, t3))
    (λ t3. either (eqb f.wire_type 5) (λ t5. simp (t0, t2, t3, t5)) (λ t5. simp (t0, t2, t3, t5)))))

payload-number : (s : List ℕ) (m : ℕ) (f : Field) (vs : List ℕ) → put_number (eqb f.field m) (payload_of s f) vs
    ≡ cond (is_number m f) (f.value ∷ vs) vs
unfolding payload_of
payload-number s m f vs =
    either (eqb f.wire_type 0) (λ t0. simp t0)
    (λ t0. either (eqb f.wire_type 2) (λ t2. simp (t0, t2))
    (λ t2. either (eqb f.wire_type 3) (λ t3. simp (t0, t2, t3))
    (λ t3. either (eqb f.wire_type 5) (λ t5. simp (t0, t2, t3, t5)) (λ t5. simp (t0, t2, t3, t5)))))

pub put_bytes_lem : (s : List ℕ) (m : ℕ) (f : Field) (ds : List (List ℕ))
    → put_bytes (eqb (entry_of s f).field m) (entry_of s f).payload ds ≡ cond (is_bytes m f) (value_in s f ∷ ds) ds
unfolding entry_of
put_bytes_lem s m f ds = payload-bytes s m f ds

pub put_number_lem : (s : List ℕ) (m : ℕ) (f : Field) (vs : List ℕ)
    → put_number (eqb (entry_of s f).field m) (entry_of s f).payload vs ≡ cond (is_number m f) (f.value ∷ vs) vs
unfolding entry_of
put_number_lem s m f vs = payload-number s m f vs
