-- Laws between the modes. Where the first mode accepts a message, its canonical bytes are the same in both, and so are
-- those of a body, and what is signed of its messages, whatever the bytes are.
use Rattle.std.specs.Prelude.{Ok, ℕ, ◌<◌, ◌≡◌, Bool, true, length}
use Rattle.std.proofs.Math.Path.{refl, ap₂}
use Rattle.std.proofs.Common.{sym, ap, ◌∙◌}
use Rattle.std.proofs.Math.Bool.{cond}
use mathlib.Core.List.{List, [], ◌++◌}
use Rattle.basis.specs.declared.Mode.TheVariants.{Plain, Groups}
use Rattle.basis.specs.declared.Edition.{Edition}
use Rattle.basis.specs.Cases.{either, clash}
use Rattle.basis.specs.Dialect.{spoken}
use Rattle.protobuf.specs.declared.Field.{Field}
use Rattle.protobuf.specs.Walk.{Fields, end, refused, ◌then◌, fields_of, is_bytes, value_in}
use Rattle.protobuf.specs.Encode.{bytes_field}
use Rattle.schema.specs.declared.Kind.{Kind}
use Rattle.schema.specs.declared.Kind.TheVariants as kind
use Rattle.schema.specs.declared.Form.{Form}
use Rattle.schema.specs.declared.Form.TheVariants.{Anew, Whole, Merged}
use Rattle.schema.specs.declared.Held.{Held}
use Rattle.schema.specs.declared.Held.TheVariants as held
use Rattle.schema.specs.declared.Role.{Role}
use Rattle.schema.specs.declared.Role.TheVariants.{Skip, Number, Text, Bytes, Unsigned, Topic, MessageId, Sub}
use Rattle.schema.specs.declared.Slots.{Slots}
use Rattle.schema.specs.Schema.{table, row_of, formed_as, held_of, rank}
use Rattle.schema.specs.SchemaLaws.{held-rank}
use Rattle.schema.specs.Kinds.{by_rank}
use Rattle.schema.specs.Count.{count_along, counted}
use Rattle.schema.specs.CountLaws.{count_along_lem, then-fits}
use Rattle.schema.specs.Modes.{count_at, sub-accepted, same-fields, same_slots, same-has}
use Rattle.rpc.specs.Encode.{sign_prefix}
use Rattle.canon.specs.Canon.{own_part, each_along, each_of, held_part, part_with, canon, entries_of, merged_of}
use Rattle.canon.specs.Canon.{body_part, canon_body, sign_of}
use Rattle.canon.specs.CanonLaws.{same-order, canon-fields}
use Rattle.canon.specs.Modes.{SameBytes}

-- ---- what is made anew stands in a submessage
formed-anew : (i j : Kind) (form : Form) → formed_as i form ≡ held.Anew j → Sub i form ≡ Sub j Anew
formed-anew i j Anew h = let e : i ≡ j = cc in ap (λ (k : Kind). Sub k Anew) e
formed-anew i j Whole h = clash (cc)
formed-anew i j Merged h = clash (cc)

anew-sub : (r : Role) (j : Kind) → held_of r ≡ held.Anew j → r ≡ Sub j Anew
anew-sub Skip j h = clash (cc)
anew-sub (Number figure) j h = clash (cc)
anew-sub (Text slot) j h = clash (cc)
anew-sub (Bytes slot) j h = clash (cc)
anew-sub (Unsigned slot) j h = clash (cc)
anew-sub Topic j h = clash (cc)
anew-sub MessageId j h = clash (cc)
anew-sub (Sub i form) j h = formed-anew i j form h

-- ---- what is written of each field m, by g in one mode and by h in the other
module _ (k : Kind) (s : List ℕ) (m : ℕ) (g h : List ℕ → List ℕ)
    (same : (f : Field) (x : ℕ) → is_bytes m f ≡ true → count_at k s f ≡ Ok x → g (value_in s f) ≡ h (value_in s f))
  where
    each_along_lem : (w : Fields) (n : ℕ) → count_along (counted Plain) k s w ≡ Ok n
        → each_along g m s w ≡ each_along h m s w
    each_along_lem end n q = refl
    each_along_lem (refused why) n q = refl
    each_along_lem (f then w) n q =
        let t = then-fits (count_at k s f) (count_along (counted Plain) k s w) n q in
        let ih = each_along_lem w t.1 t.3 in
        either (is_bytes m f)
        (λ b. ap₂ (λ (x y : List ℕ). cond (is_bytes m f) x [] ++ y) (same f t.0 b t.2) ih)
        (λ b. simp b ih)

    each_same : (n : ℕ) → counted Plain k s ≡ Ok n → each_of Groups g m s ≡ each_of Plain h m s
    each_same n q =
        ap (each_along g m s) (same-fields k s n q)
        ∙ each_along_lem (fields_of Plain s) n (sym (count_along_lem Plain k s) ∙ q)

-- ---- a message
held_same : (k : Kind) (s : List ℕ) (m n : ℕ) (h : Held) → held_of (row_of k m) ≡ h → counted Plain k s ≡ Ok n
    → ((j : Kind) → rank j < rank k → SameBytes j)
    → held_part Groups (canon Groups) m s h ≡ held_part Plain (canon Plain) m s h
unfolding held_part
held_same k s m n held.Nothing e q ih = refl
held_same k s m n held.Whole e q ih = ap (each_along (bytes_field m) m s) (same-fields k s n q)
held_same k s m n (held.Anew j) e q ih =
    each_same k s m (λ p. bytes_field m (canon Groups j p)) (λ p. bytes_field m (canon Plain j p))
    (λ f x b c. let y = sub-accepted k j Anew m s f x (anew-sub (row_of k m) j e) b c in
    ap (bytes_field m) (ih j (held-rank k j m e) (value_in s f) y.0 y.1)) n q
held_same k s m n (held.Merged j) e q ih = refl

pub same-message : (k : Kind) → SameBytes k
same-message =
    by_rank SameBytes
    (λ k ih s n q.
    canon-fields Groups k s
    ∙ same-order (part_with Groups (canon Groups) k s) (part_with Plain (canon Plain) k s)
    (λ m. ap₂ (λ (t : Slots) (x : List ℕ). own_part t m s (row_of k m) ++ x) (same_slots k s n q)
    (held_same k s m n (held_of (row_of k m)) refl q ih)) 1 (length (table k))
    ∙ sym (canon-fields Plain k s))

-- what is signed of it
pub same-signed : (p : List ℕ) (n : ℕ) → counted Plain kind.RawMessage p ≡ Ok n → sign_of Groups p ≡ sign_of Plain p
unfolding sign_of
same-signed p n q = ap (λ (x : List ℕ). sign_prefix ++ x) (same-message kind.RawMessage p n q)

-- ---- a body
module _ (e : Edition) (s : List ℕ) (n : ℕ) (q : counted Plain (kind.Rpc e) s ≡ Ok n) where
  merged-same : merged_of Groups (kind.ControlMessage e) 3 s ≡ merged_of Plain (kind.ControlMessage e) 3 s
  unfolding merged_of entries_of
  merged-same =
      let j = kind.ControlMessage e in
      same-order (entries_of Groups j 3 s) (entries_of Plain j 3 s)
      (λ m. each_same (kind.Rpc e) s 3 (λ p. held_part Groups (canon Groups) m p (held_of (row_of j m)))
      (λ p. held_part Plain (canon Plain) m p (held_of (row_of j m)))
      (λ f x b c. let y = sub-accepted (kind.Rpc e) j Merged 3 s f x refl b c in
      held_same j (value_in s f) m y.0 (held_of (row_of j m)) refl y.1 (λ i l. same-message i)) n q)
      1 (length (table j))

  pub same-canon : canon_body (spoken Groups e) s ≡ canon_body (spoken Plain e) s
  unfolding canon_body body_part
  same-canon =
      ap₂ ◌++◌ (held_same (kind.Rpc e) s 1 n (held.Anew kind.SubOpts) refl q (λ j l. same-message j))
      (ap₂ ◌++◌ (held_same (kind.Rpc e) s 2 n held.Whole refl q (λ j l. same-message j))
      (ap (λ (x : List ℕ). x ++ [])
      (ap₂ (λ (t : Bool) (x : List ℕ). cond t (bytes_field 3 x) []) (same-has (kind.Rpc e) s n 3 q) merged-same)))
