-- `request_for` meets its contract: the ids that the body names, each once, those that are not seen, and the request for them measured and written.
use mathlib.Core.List.{[], ◌∷◌}
use native.Mathlib.Omega.{arith}
use Rattle.node.specs.PartsLaws.{parts_none}
use Rattle.node.specs.AskLaws.{request-fits}
use Rattle.node.proofs.Asking.{named-room, first-is, first-few, ask-none, ask-short, ask-put}
use Rattle.node.proofs.Node.request_for.Goals as goal

pub parts_at-n-requires : goal.parts_at-n-requires
parts_at-n-requires c =
    let a = c.args in
    let few = c.requires.body_len_bound in record {
      start_le_end = (omega arith, omega arith);
      parts = parts_none _ _;
      end_in_bounds = named-room c.mode_of-mode.ensures (3 ∷ 1 ∷ 2 ∷ []) a.body.now
          few.1;
    }

pub slice_bounds-unseen-end : goal.slice_bounds-unseen-end
slice_bounds-unseen-end c =
    omega arith

pub unseen-m-requires : goal.unseen-m-requires
unseen-m-requires c =
    let p = c.parts_at-n.ensures.parts_2.room in let q = c.first_mentions-k.ensures.upper_bound in record {
      sound = rw
          c.ring-ring.ensures
          c.requires.sound;
      parts = c.first_mentions-k.ensures.parts_2;
      n_in_bounds = omega arith;
    }

pub returns-then-m-eq0 : goal.returns-then-m-eq0
returns-then-m-eq0 c =
    let a = c.args in
    let few = c.requires.body_len_bound in
    let f = first-is c.mode_of-mode.ensures (3 ∷ 1 ∷ 2 ∷ []) a.body.now few.1 _ _ _
    c.parts_at-n.ensures.result_after _ _
    c.first_mentions-k.ensures.result_after in let h = ask-none a.self.now
    a.seen_store.now a.body.now a.out.now _ _ _ _ f (rw c.ring-ring.ensures at
    c.unseen-m.ensures.result_after) c.if-m-eq0.true in record { value = h.0; out_after = h.1 }

pub emit_request-needed-requires : goal.emit_request-needed-requires
emit_request-needed-requires c =
    let a = c.args in
    let few = c.requires.body_len_bound in
    let m = first-few c.mode_of-mode.ensures (3 ∷ 1 ∷ 2 ∷ []) a.body.now few.1 _ _ _
    c.parts_at-n.ensures.result_after _ _ c.first_mentions-k.ensures.upper_bound c.unseen-m.ensures.upper_bound in record {
      parts = c.unseen-m.ensures.parts_2;
      fits = request-fits
          a.body.now _ _ few.0 m;
    }

pub returns-then-out-needed : goal.returns-then-out-needed
returns-then-out-needed c =
    let a = c.args in
    let few = c.requires.body_len_bound in
    let f = first-is c.mode_of-mode.ensures (3 ∷ 1 ∷ 2 ∷ []) a.body.now few.1 _ _ _
    c.parts_at-n.ensures.result_after _ _
    c.first_mentions-k.ensures.result_after in let h = ask-short a.self.now a.seen_store.now a.body.now a.out.now _ _ _ _ f (rw
    c.ring-ring.ensures
    at
    c.unseen-m.ensures.result_after) c.if-m-eq0.false _ _ _
    c.emit_request-needed.ensures c.if-out-needed.true in record { value = h.0; out_after = h.1 }

pub emit_request-requires : goal.emit_request-requires
emit_request-requires c =
    let a = c.args in
    let few = c.requires.body_len_bound in
    let m = first-few c.mode_of-mode.ensures (3 ∷ 1 ∷ 2 ∷ []) a.body.now
    few.1 _ _ _ c.parts_at-n.ensures.result_after _ _
    c.first_mentions-k.ensures.upper_bound c.unseen-m.ensures.upper_bound in record {
      parts = c.unseen-m.ensures.parts_2;
      fits = request-fits a.body.now _ _
          few.0 m;
    }

pub returns : goal.returns
returns c =
    let a = c.args in
    let few = c.requires.body_len_bound in
    let f = first-is c.mode_of-mode.ensures (3 ∷ 1 ∷ 2 ∷ [])
    a.body.now few.1 _ _ _
    c.parts_at-n.ensures.result_after _ _
    c.first_mentions-k.ensures.result_after in let h = ask-put a.self.now a.seen_store.now a.body.now a.out.now
    _ _ _ _ f (rw
    c.ring-ring.ensures at c.unseen-m.ensures.result_after)
    c.if-m-eq0.false _ _ _
    c.emit_request-needed.ensures c.if-out-needed.false _ _
    c.emit_request.ensures in record { value = h.0; out_after = h.1 }
