-- Laws of messages and ids: they stand within the bytes.
use Rattle.std.specs.Prelude.{Result, Ok, ℕ, ◌+◌, ◌-◌, ◌≤◌, ◌≡◌, ◌||◌, List, false, length, ltb, eqb}
use Rattle.std.proofs.Common.{ap, arith, length-append, ltb-false}
use Rattle.std.proofs.lemmas.Bool.{eqb-false}
use Rattle.basis.specs.declared.Mode.{Mode}
use Rattle.basis.specs.Cases.{either, clash, neither, of-ok, of-ok-two}
use Rattle.protobuf.specs.Walk.{Fields, walk_at, is_bytes, between}
use Rattle.protobuf.specs.WalkLaws.{between-length, along}
use Rattle.schema.specs.declared.Kind.TheVariants as kind
use Rattle.schema.specs.declared.Place.{Place}
use Rattle.schema.specs.declared.Place.TheVariants as place
use Rattle.schema.specs.Slots.{slots_of}
use Rattle.schema.proofs.SlotsLaws.{slots_inside}
use Rattle.ids.specs.declared.IdError.{IdError}
use Rattle.ids.specs.Ids.{message_along, message_at, on_seqno, on_from, id_parts, id_bytes}

-- a message that is found lies within the body
along-inside : (mode : Mode) (s : List ℕ) (i a e : ℕ) (at n : ℕ) → message_along i n (walk_at mode s at) ≡ Ok (a, e)
    → (a ≤ e) × (e ≤ length s)
along-inside mode s i a e =
    along mode s (λ (at : ℕ) (w : Fields). (n : ℕ) → message_along i n w ≡ Ok (a, e) → (a ≤ e) × (e ≤ length s))
    (λ at n h. clash (cc))
    (λ at why r n h. clash (cc))
    (λ at f st r rest n h.
    either (is_bytes 2 f)
    (λ t. either (eqb n i)
    (λ u. let k = of-ok-two (simp (t, u) at h) in
    (omega (arith, st.ends, k.0, k.1), omega (arith, st.within, k.1)))
    (λ u. rest (n + 1) (simp (t, u) at h)))
    (λ t. rest n (simp t at h)))

pub message-inside : (mode : Mode) (s : List ℕ) (i a e : ℕ) → message_at mode s i ≡ Ok (a, e) → (a ≤ e) × (e ≤ length s)
unfolding message_at
message-inside mode s i a e h = along-inside mode s i a e 0 0 h

-- an id that is given: where its two places stand, each of 1 to 64 bytes
record Given (a e b f : ℕ) (q r : Place) : Type 0 where
  from-there : q ≡ place.Present a e
  from-some : 1 ≤ e - a
  from-short : e - a ≤ 64
  seqno-there : r ≡ place.Present b f
  seqno-some : 1 ≤ f - b
  seqno-short : f - b ≤ 64

of-parts : {a e b f x y c d : ℕ}
    → ◌≡◌ {A = Result ((ℕ × ℕ) × (ℕ × ℕ)) IdError} (Ok ((x, y), (c, d))) (Ok ((a, e), (b, f)))
    → (x ≡ a) × (y ≡ e) × (c ≡ b) × (d ≡ f)
of-parts h = let p = of-ok h in (
  ap (λ (w : (ℕ × ℕ) × (ℕ × ℕ)). w.0.0) p,
  ap (λ (w : (ℕ × ℕ) × (ℕ × ℕ)). w.0.1) p,
  ap (λ (w : (ℕ × ℕ) × (ℕ × ℕ)). w.1.0) p,
  ap (λ (w : (ℕ × ℕ) × (ℕ × ℕ)). w.1.1) p,
)

-- neither empty nor too long
sized : (n : ℕ) → (eqb n 0 || ltb 64 n) ≡ false → (1 ≤ n) × (n ≤ 64)
sized n t =
    let b = neither (eqb n 0) (ltb 64 n) t in
    let p = eqb-false n 0 b.0 in
    let q = ltb-false 64 n b.1 in
    (omega arith, omega arith)

seqno-given : (a e b f x y : ℕ) (r : Place) → 1 ≤ y - x → y - x ≤ 64 → on_seqno x y r ≡ Ok ((a, e), (b, f))
    → Given a e b f (place.Present x y) r
seqno-given a e b f x y place.Absent i j h = clash (cc)
seqno-given a e b f x y (place.Present c d) i j h =
    either (eqb (d - c) 0 || ltb 64 (d - c)) (λ t. clash (let k = simp t at h in cc))
    (λ t. let k = of-parts (simp t at h) in
    let n = sized (d - c) t in
    record {
      from-there = rw (k.0, k.1);
      from-some = omega (arith, k.0, k.1);
      from-short = omega (arith, k.0, k.1);
      seqno-there = rw (k.2, k.3);
      seqno-some = omega (arith, k.2, k.3, n.0);
      seqno-short = omega (arith, k.2, k.3, n.1);
    })

from-given : (a e b f : ℕ) (q r : Place) → on_from q r ≡ Ok ((a, e), (b, f)) → Given a e b f q r
from-given a e b f place.Absent r h = clash (cc)
from-given a e b f (place.Present x y) r h =
    either (eqb (y - x) 0 || ltb 64 (y - x)) (λ t. clash (let k = simp t at h in cc))
    (λ t. let n = sized (y - x) t in seqno-given a e b f x y r n.0 n.1 (simp t at h))

given : (mode : Mode) (p : List ℕ) (a e b f : ℕ) → id_parts mode p ≡ Ok ((a, e), (b, f))
    → Given a e b f (slots_of mode kind.RawMessage p).first (slots_of mode kind.RawMessage p).third
unfolding id_parts
given mode p a e b f h =
    from-given a e b f (slots_of mode kind.RawMessage p).first (slots_of mode kind.RawMessage p).third h

-- from and seqno stand where these fields of the message do
pub parts-there : (mode : Mode) (p : List ℕ) (a e b f : ℕ) → id_parts mode p ≡ Ok ((a, e), (b, f))
    → ((slots_of mode kind.RawMessage p).first ≡ place.Present a e)
    × ((slots_of mode kind.RawMessage p).third ≡ place.Present b f)
parts-there mode p a e b f h = let g = given mode p a e b f h in (g.from-there, g.seqno-there)

-- they lie within their message, and have at most 64 bytes
pub record Fits (p : List ℕ) (a e b f : ℕ) : Type 0 where
  pub from : (a ≤ e) × (e ≤ length p)
  pub from-short : e - a ≤ 64
  pub seqno : (b ≤ f) × (f ≤ length p)
  pub seqno-short : f - b ≤ 64

pub id-fits : (mode : Mode) (p : List ℕ) (a e b f : ℕ) → id_parts mode p ≡ Ok ((a, e), (b, f)) → Fits p a e b f
id-fits mode p a e b f h =
    let i = slots_inside mode kind.RawMessage p in
    let g = given mode p a e b f h in
    record {
      from = i.first a e g.from-there;
      from-short = g.from-short;
      seqno = i.third b f g.seqno-there;
      seqno-short = g.seqno-short;
    }

-- and are not empty
pub id-some : (mode : Mode) (p : List ℕ) (a e b f : ℕ) → id_parts mode p ≡ Ok ((a, e), (b, f))
    → (1 ≤ e - a) × (1 ≤ f - b)
id-some mode p a e b f h = let g = given mode p a e b f h in (g.from-some, g.seqno-some)

-- an id has 2 to 128 bytes
pub id_size_lem : (mode : Mode) (p : List ℕ) (a e b f : ℕ) → id_parts mode p ≡ Ok ((a, e), (b, f))
    → (2 ≤ length (id_bytes p a e b f))
    × (length (id_bytes p a e b f) ≤ 128)
id_size_lem mode p a e b f h =
    let g = id-fits mode p a e b f h in
    let m = id-some mode p a e b f h in
    let n = length-append (between p a e) (between p b f) in
    let x = between-length p a e g.from.1 in
    let y = between-length p b f g.seqno.1 in
    (omega (arith, m.0, m.1), omega (arith, g.from-short, g.seqno-short))
