-- A body that is taken is read by the mode that passes over groups: its canonical bytes, and what is signed of its messages, are those of the mode that
-- took it.
use Prim.Native.Nat.{ℕ}
use mathlib.Core.Path.{◌≡◌, refl}
use mathlib.Core.List.{List}
use Rattle.std.specs.Prelude.{Ok}
use Rattle.basis.specs.declared.Edition.{Edition}
use Rattle.basis.specs.declared.Mode.{Mode}
use Rattle.basis.specs.declared.Mode.TheVariants.{Plain, Groups}
use Rattle.basis.specs.declared.Dialect.{Dialect}
use Rattle.basis.specs.Dialect.{spoken}
use Rattle.protobuf.specs.Walk.{between}
use Rattle.schema.specs.declared.Kind.TheVariants as kind
use Rattle.schema.specs.Accept.{accept_of}
use Rattle.schema.specs.AcceptLaws.{is-taken}
use Rattle.ids.specs.Ids.{message_at}
use Rattle.canon.specs.Canon.{canon, canon_body, sign_of}
use Rattle.ids.specs.Modes.{message-accepted}
use Rattle.canon.proofs.Modes.{same-message, same-signed, same-canon}

body_in : (mode : Mode) (e : Edition) (s : List ℕ) → accept_of (spoken mode e) s ≡ Ok tt
    → canon_body (spoken Groups e) s ≡ canon_body (spoken mode e) s
body_in Plain e s h = let t = is-taken (spoken Plain e) s h in same-canon e s t.records t.counts
body_in Groups e s h = refl

pub taken-body : (d : Dialect) (s : List ℕ) → accept_of d s ≡ Ok tt → canon_body (spoken Groups d.edition) s ≡ canon_body d s
taken-body d s h = body_in d.mode d.edition s h

pub record Same (mode : Mode) (p : List ℕ) : Type 0 where
  pub bytes : canon Groups kind.RawMessage p ≡ canon mode kind.RawMessage p
  pub signed : sign_of Groups p ≡ sign_of mode p

message_in_lem : (mode : Mode) (e : Edition) (s : List ℕ) (i a z : ℕ) → accept_of (spoken mode e) s ≡ Ok tt
    → message_at mode s i ≡ Ok (a, z) → Same mode (between s a z)
message_in_lem Plain e s i a z h f =
    let t = is-taken (spoken Plain e) s h in
    let y = message-accepted e s t.records i a z t.counts f in
    record {
      bytes = same-message kind.RawMessage (between s a z) y.0 y.1;
      signed = same-signed (between s a z) y.0 y.1;
    }
message_in_lem Groups e s i a z h f = record { bytes = refl; signed = refl }

pub taken-message : (d : Dialect) (s : List ℕ) (i a z : ℕ) → accept_of d s ≡ Ok tt → message_at d.mode s i ≡ Ok (a, z) → Same d.mode (between s a z)
taken-message d s i a z h f = message_in_lem d.mode d.edition s i a z h f
