-- The contract of each call, as a record of what it says of an answer, the node that comes back and every lent byte;
-- and that it leaves no choice: two results that meet it are the same.
use Rattle.std.specs.Prelude.{Result, ℕ, ◌≡◌, Bool, List}
use Rattle.std.proofs.Common.{sym, ap₂, ◌∙◌}
use Rattle.basis.specs.declared.Edition.{Edition}
use Rattle.node.specs.declared.Node.{Node}
use Rattle.node.specs.declared.Started.{Started}
use Rattle.node.specs.declared.Admitted.{Admitted}
use Rattle.node.specs.declared.Beaten.{Beaten}
use Rattle.node.specs.declared.Advertised.{Advertised}
use Rattle.node.specs.declared.Explained.{Explained}
use Rattle.node.specs.declared.Asked.{Asked}
use Rattle.node.specs.declared.Served.{Served}
use Rattle.basis.specs.declared.Fault.{Fault}
use Rattle.mcache.specs.declared.Offer.{Offer}
use Rattle.node.specs.declared.AdmitError.{AdmitError}
use Rattle.node.specs.declared.AdvertiseError.{AdvertiseError}
use Rattle.node.specs.declared.AskError.{AskError}
use Rattle.node.specs.declared.BeatError.{BeatError}
use Rattle.node.specs.declared.ExplainError.{ExplainError}
use Rattle.node.specs.declared.Novelty.{Novelty}
use Rattle.node.specs.declared.Reply.{Reply}
use Rattle.node.specs.declared.ServeError.{ServeError}
use Rattle.node.specs.Calls.{start_answer, start_node, planned, admit_answer, admit_node, admit_seen, admit_cache}
use Rattle.node.specs.Calls.{beat_answer, beat_node, advertise_answer, advertise_left, ask_answer, ask_left}
use Rattle.node.specs.Calls.{explain_answer, serve_answer, serve_left}

pub record Starts (ttl max_seen history max flags : ℕ) (r : Started) : Type 0 where
  pub answer : r.answer ≡ start_answer max_seen history max flags
  pub node : r.node ≡ start_node ttl max_seen history max flags

pub one-start : (ttl max_seen history max flags : ℕ) (r s : Started) → Starts ttl max_seen history max flags r
    → Starts ttl max_seen history max flags s → r ≡ s
one-start ttl max_seen history max flags r s a b =
    ap₂ (λ (x : Result (Unit {0}) Fault) (n : Node). record { answer = x; node = n }) (a.answer ∙ sym b.answer)
    (a.node ∙ sym b.node)

-- the stores as they are left
pub record Admits (n : Node) (ss cs : List ℕ) (e : Edition) (body : List ℕ) (i : ℕ) (word : Bool) (at : ℕ)
    (r : Admitted) (ids messages : List ℕ) : Type 0 where
  pub answer : r.answer ≡ admit_answer n ss at (planned n ss cs e body i word at)
  pub node : r.node ≡ admit_node n ss at (planned n ss cs e body i word at)
  pub seen : ids ≡ admit_seen n ss at (planned n ss cs e body i word at)
  pub cache : messages ≡ admit_cache n ss cs at (planned n ss cs e body i word at)

pub one-admit : (n : Node) (ss cs : List ℕ) (e : Edition) (body : List ℕ) (i : ℕ) (word : Bool) (at : ℕ)
    (r s : Admitted) (ids messages ids2 messages2 : List ℕ)
    → Admits n ss cs e body i word at r ids messages → Admits n ss cs e body i word at s ids2 messages2 → (r ≡ s)
    × (ids ≡ ids2) × (messages ≡ messages2)
one-admit n ss cs e body i word at r s ids messages ids2 messages2 a b = (
  ap₂ (λ (x : Result Novelty AdmitError) (m : Node). record { answer = x; node = m }) (a.answer ∙ sym b.answer)
      (a.node ∙ sym b.node),
  a.seen ∙ sym b.seen,
  a.cache ∙ sym b.cache,
)

pub record Beats (n : Node) (ss cs : List ℕ) (at : ℕ) (r : Beaten) : Type 0 where
  pub answer : r.answer ≡ beat_answer n ss cs at
  pub node : r.node ≡ beat_node n ss cs at

pub one-beat : (n : Node) (ss cs : List ℕ) (at : ℕ) (r s : Beaten) → Beats n ss cs at r → Beats n ss cs at s → r ≡ s
one-beat n ss cs at r s a b =
    ap₂ (λ (x : Result (Unit {0}) BeatError) (m : Node). record { answer = x; node = m }) (a.answer ∙ sym b.answer)
    (a.node ∙ sym b.node)

-- the buffer as it is left
pub record Advertises (n : Node) (ss cs topic : List ℕ) (windows : ℕ) (out : List ℕ) (r : Advertised)
    (left : List ℕ) : Type 0 where
  pub answer : r.answer ≡ advertise_answer n ss cs topic windows out
  pub node : r.node ≡ n
  pub buffer : left ≡ advertise_left n ss cs topic windows out

pub one-advertise : (n : Node) (ss cs topic : List ℕ) (windows : ℕ) (out : List ℕ) (r s : Advertised)
    (left left2 : List ℕ)
    → Advertises n ss cs topic windows out r left → Advertises n ss cs topic windows out s left2 → (r ≡ s)
    × (left ≡ left2)
one-advertise n ss cs topic windows out r s left left2 a b = (
  ap₂ (λ (x : Result ℕ AdvertiseError) (m : Node). record { answer = x; node = m }) (a.answer ∙ sym b.answer)
      (a.node ∙ sym b.node),
  a.buffer ∙ sym b.buffer,
)

-- nothing is lent to be written
pub record Explains (n : Node) (ss cs id topic : List ℕ) (windows : ℕ) (r : Explained) : Type 0 where
  pub answer : r.answer ≡ explain_answer n ss cs id topic windows
  pub node : r.node ≡ n

pub one-explain : (n : Node) (ss cs id topic : List ℕ) (windows : ℕ) (r s : Explained)
    → Explains n ss cs id topic windows r → Explains n ss cs id topic windows s → r ≡ s
one-explain n ss cs id topic windows r s a b =
    ap₂ (λ (x : Result Offer ExplainError) (m : Node). record { answer = x; node = m }) (a.answer ∙ sym b.answer)
    (a.node ∙ sym b.node)

pub record Asks (n : Node) (ss cs : List ℕ) (e : Edition) (body out : List ℕ) (r : Asked) (left : List ℕ) : Type 0 where
  pub answer : r.answer ≡ ask_answer n ss cs e body out
  pub node : r.node ≡ n
  pub buffer : left ≡ ask_left n ss cs e body out

pub one-ask : (n : Node) (ss cs : List ℕ) (e : Edition) (body out : List ℕ) (r s : Asked) (left left2 : List ℕ)
    → Asks n ss cs e body out r left → Asks n ss cs e body out s left2 → (r ≡ s) × (left ≡ left2)
one-ask n ss cs e body out r s left left2 a b = (
  ap₂ (λ (x : Result ℕ AskError) (m : Node). record { answer = x; node = m }) (a.answer ∙ sym b.answer) (a.node ∙ sym b.node),
  a.buffer ∙ sym b.buffer,
)

pub record Serves (n : Node) (ss cs : List ℕ) (e : Edition) (body second out : List ℕ) (r : Served)
    (left : List ℕ) : Type 0 where
  pub answer : r.answer ≡ serve_answer n ss cs e body second out
  pub node : r.node ≡ n
  pub buffer : left ≡ serve_left n ss cs e body second out

pub one-serve : (n : Node) (ss cs : List ℕ) (e : Edition) (body second out : List ℕ) (r s : Served)
    (left left2 : List ℕ) → Serves n ss cs e body second out r left → Serves n ss cs e body second out s left2 → (r ≡ s) × (left ≡ left2)
one-serve n ss cs e body second out r s left left2 a b = (
  ap₂ (λ (x : Result Reply ServeError) (m : Node). record { answer = x; node = m }) (a.answer ∙ sym b.answer)
      (a.node ∙ sym b.node),
  a.buffer ∙ sym b.buffer,
)
