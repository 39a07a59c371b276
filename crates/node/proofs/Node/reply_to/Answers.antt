-- `reply_to` meets its contract: the ids that the body names, each once, those that the second one does not decline, the messages that are cached of
-- them, and those that fit written.
use mathlib.Core.Path.{sym}
use mathlib.Core.List.{[], ◌∷◌}
use native.Mathlib.Omega.{arith}
use Rattle.mcache.specs.StateLaws.{kept-sound}
use Rattle.node.specs.PartsLaws.{parts_none, parts-fewer}
use Rattle.node.specs.AskLaws.{reply-fits}
use Rattle.node.proofs.Asking.{few_as, named-room, named-few, first-is}
use Rattle.node.proofs.Serving.{kept-size, rest-is, messages_are, reply-none, reply-short, reply-put}
use Rattle.node.proofs.Node.reply_to.Goals as goal

-- those written are at most those cached, which are at most those that remain, and these at most those named

pub parts_at-n-requires : goal.parts_at-n-requires
parts_at-n-requires c =
    record {
      start_le_end = (omega arith, omega arith);
      parts = parts_none _ _;
      end_in_bounds = named-room c.mode_of-mode.ensures (3 ∷ 2 ∷ 1 ∷ []) c.args.body.now c.requires.body_len_bound.0;
    }

pub not_declined-r-requires : goal.not_declined-r-requires
not_declined-r-requires c =
    let first-mentions = c.first_mentions-k in
    let parts_at = c.parts_at-n in
    let Mode-of = c.mode_of-mode in
    let m = parts_at.ensures.parts_2.room in
    let n = first-mentions.ensures.upper_bound in record {
      parts = first-mentions.ensures.parts_2;
      n_in_bounds = omega arith;
      unwanted_len_bound = few_as (sym Mode-of.ensures) _ c.args.unwanted.now c.requires.body_len_bound.1;
    }

pub slice_bounds-cached-end : goal.slice_bounds-cached-end
slice_bounds-cached-end c =
    omega arith

pub slice_bounds-cached-end-2 : goal.slice_bounds-cached-end-2
slice_bounds-cached-end-2 c =
    omega arith

pub slice_bounds-cached-end-3 : goal.slice_bounds-cached-end-3
slice_bounds-cached-end-3 c =
    omega arith

pub cached-m-requires : goal.cached-m-requires
cached-m-requires c =
    let a = c.args in
    let k = c.requires.usable in
    let m = c.parts_at-n.ensures.parts_2.room in
    let n = c.first_mentions-k.ensures.upper_bound in
    let o = c.not_declined-r.ensures.upper_bound in
    rw c.ring-ring.ensures (record {
      sound = kept-sound a.self.now.cache a.cache_store.now k;
      cap_le_max_messages = (k.rows.few, k.rows.lengths, k.short);
      parts = c.not_declined-r.ensures.parts_2;
      n_in_bounds = omega arith;
    })

pub returns-then-m-eq0 : goal.returns-then-m-eq0
returns-then-m-eq0 c =
    let Mode-of = c.mode_of-mode in
    let a = c.args in
    let f = first-is Mode-of.ensures (3 ∷ 2 ∷ 1 ∷ []) a.body.now c.requires.body_len_bound.0 _ _ _
    c.parts_at-n.ensures.result_after _ _
    c.first_mentions-k.ensures.result_after in
    let x = rest-is Mode-of.ensures a.body.now a.unwanted.now _ _ _ _ f c.not_declined-r.ensures.result_after in
    let q = messages_are a.self.now.cache a.cache_store.now a.body.now a.unwanted.now _ _ _ _ x
    (rw c.ring-ring.ensures at c.cached-m.ensures.by_index) in let h = reply-none _ a.cache_store.now _ _ a.out.now q c.if-m-eq0.true in record { value = h.0; out_after = h.1 }

pub parts_that_fit-w-requires : goal.parts_that_fit-w-requires
parts_that_fit-w-requires c =
    let a = c.args in record {
      parts = (rw c.ring-ring.ensures at c.cached-m.ensures.by_index_2) a.cache_store.now c.requires.usable.rows.room;
      field_bound = omega arith;
    }

pub emit_parts-needed-requires : goal.emit_parts-needed-requires
emit_parts-needed-requires c =
    let a = c.args in
    let m = (rw c.ring-ring.ensures at c.cached-m.ensures.by_index_2) a.cache_store.now c.requires.usable.rows.room in record {
      parts = parts-fewer a.cache_store.now _ 1 _ (omega (
        arith,
        c.if-m-eq0.false,
      )) m;
      field_bound = (
        omega arith,
        reply-fits a.cache_store.now _ 1 (kept-size a.self.now.cache a.cache_store.now c.requires.usable)
            (omega arith),
      );
    }

pub returns-then-w-eq0 : goal.returns-then-w-eq0
returns-then-w-eq0 c =
    let reply_room_lem = c.reply_room-room in
    let if1 = c.if-m-eq0 in
    let cached = c.cached-m in
    let Mode-of = c.mode_of-mode in
    let a = c.args in
    let f = first-is Mode-of.ensures (3 ∷ 2 ∷ 1 ∷ []) a.body.now c.requires.body_len_bound.0 _ _ _
    c.parts_at-n.ensures.result_after _ _
    c.first_mentions-k.ensures.result_after in
    let x = rest-is Mode-of.ensures a.body.now a.unwanted.now _ _ _ _ f c.not_declined-r.ensures.result_after in
    let q = messages_are a.self.now.cache a.cache_store.now a.body.now a.unwanted.now _ _ _ _ x
    (rw c.ring-ring.ensures at cached.ensures.by_index) in let h = reply-short _ a.cache_store.now _ _ a.out.now q if1.false _ _ reply_room_lem.ensures
    c.parts_that_fit-w.ensures.value c.if-w-eq0.true _ _ _
    c.emit_parts-needed.ensures in record { value = h.0; out_after = h.1 }

pub emit_parts-bytes-requires : goal.emit_parts-bytes-requires
emit_parts-bytes-requires c =
    let cached = c.cached-m in
    let Mode-of = c.mode_of-mode in
    let a = c.args in
    let n = named-few Mode-of.ensures (3 ∷ 2 ∷ 1 ∷ []) a.body.now c.requires.body_len_bound.0 _ _ _
    c.parts_at-n.ensures.result_after in
    let o = c.first_mentions-k.ensures.upper_bound in
    let u = c.not_declined-r.ensures.upper_bound in
    let v = cached.ensures.upper_bound in
    let l = c.parts_that_fit-w.ensures.upper_bound in
    let m = (rw c.ring-ring.ensures at cached.ensures.by_index_2) a.cache_store.now c.requires.usable.rows.room in record {
      parts = parts-fewer a.cache_store.now _ _ _ l m;
      field_bound = (
        omega arith,
        reply-fits a.cache_store.now _ _ (kept-size a.self.now.cache a.cache_store.now c.requires.usable) (omega arith),
      );
    }

pub overflow_sub-result : goal.overflow_sub-result
overflow_sub-result c =
    let l = c.parts_that_fit-w.ensures.upper_bound in
    let v = c.cached-m.ensures.upper_bound in
    let u = c.not_declined-r.ensures.upper_bound in
    omega arith

pub returns : goal.returns
returns c =
    let parts-that-fit = c.parts_that_fit-w in
    let reply_room_lem = c.reply_room-room in
    let if1 = c.if-m-eq0 in
    let cached = c.cached-m in
    let Mode-of = c.mode_of-mode in
    let a = c.args in
    let f = first-is Mode-of.ensures (3 ∷ 2 ∷ 1 ∷ []) a.body.now c.requires.body_len_bound.0 _ _ _
    c.parts_at-n.ensures.result_after _ _
    c.first_mentions-k.ensures.result_after in
    let x = rest-is Mode-of.ensures a.body.now a.unwanted.now _ _ _ _ f c.not_declined-r.ensures.result_after in
    let q = messages_are a.self.now.cache a.cache_store.now a.body.now a.unwanted.now _ _ _ _ x
    (rw c.ring-ring.ensures at cached.ensures.by_index) in let h = reply-put _ a.cache_store.now _ _ a.out.now q if1.false _ _ reply_room_lem.ensures parts-that-fit.ensures.value
    c.if-w-eq0.false parts-that-fit.ensures.upper_bound _ _ c.emit_parts-bytes.ensures in record { value = h.0; out_after = h.1 }
