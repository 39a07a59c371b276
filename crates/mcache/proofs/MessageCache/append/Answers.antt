-- `MessageCache::append` meets its contract.
use Rattle.std.proofs.Common.{◌*◌, ap, ◌∙◌, arith}
use lib.Seq.{sets}
use Rattle.basis.specs.Dialect.{mode_of}
use Rattle.mcache.specs.State.{max_topics}
use Rattle.mcache.specs.TableLaws.{kept-few}
use Rattle.mcache.proofs.Steps.{bytes-put, next_lies, appended-is, appended-store}
use Rattle.mcache.proofs.MessageCache.append.Goals as goal

pub overflow_mul-p : goal.overflow_mul-p
overflow_mul-p c =
    let w = next_lies c.args.self c.args.store.now c.place-p.result c.requires.placed c.requires.count_bound (rw c.ring.ensures at c.place-p.ensures) in omega arith

pub overflow_mul-p-2 : goal.overflow_mul-p-2
overflow_mul-p-2 c =
    let w = next_lies c.args.self c.args.store.now c.place-p.result c.requires.placed c.requires.count_bound
    (rw c.ring.ensures at c.place-p.ensures) in omega arith

pub overflow_mul-p-3 : goal.overflow_mul-p-3
overflow_mul-p-3 c =
    let w = next_lies c.args.self c.args.store.now c.place-p.result c.requires.placed c.requires.count_bound (rw c.ring.ensures at c.place-p.ensures) in
    omega arith

pub put_shorts-requires : goal.put_shorts-requires
put_shorts-requires c =
    let w = next_lies c.args.self c.args.store.now c.place-p.result c.requires.placed c.requires.count_bound (rw c.ring.ensures at c.place-p.ensures) in let f = c.requires.found in (
      omega (
        arith,
        kept-few (mode_of c.args.self.flags) c.args.part.now,
        f.counts,
        w.8,
      ),
      f.starts-room,
      f.starts-small,
    )

pub overflow_mul-p-4 : goal.overflow_mul-p-4
overflow_mul-p-4 c =
    let w = next_lies c.args.self c.args.store.now c.place-p.result c.requires.placed c.requires.count_bound (rw c.ring.ensures at c.place-p.ensures) in omega arith

pub put_shorts-requires-2 : goal.put_shorts-requires-2
put_shorts-requires-2 c =
    let w = next_lies c.args.self c.args.store.now c.place-p.result c.requires.placed
    c.requires.count_bound (rw c.ring.ensures at c.place-p.ensures) in let f = c.requires.found in (
      omega (
        arith,
        kept-few (mode_of c.args.self.flags) c.args.part.now,
        f.counts,
        w.9,
      ),
      f.sizes-room,
      f.sizes-small,
    )

pub overflow_cast-self : goal.overflow_cast-self
overflow_cast-self c =
    let f = c.requires.found in omega (
      arith,
      kept-few (mode_of c.args.self.flags) c.args.part.now,
      f.counts,
    )

pub bounds-self-p : goal.bounds-self-p
bounds-self-p c =
    let w = next_lies c.args.self c.args.store.now c.place-p.result c.requires.placed c.requires.count_bound (rw c.ring.ensures at c.place-p.ensures)
    in omega arith

pub overflow_cast-self-2 : goal.overflow_cast-self-2
overflow_cast-self-2 c =
    omega (
      arith,
      c.requires.part_len_bound,
    )

pub bounds-self-p-2 : goal.bounds-self-p-2
bounds-self-p-2 c =
    let w = next_lies c.args.self c.args.store.now c.place-p.result c.requires.placed c.requires.count_bound (rw c.ring.ensures at c.place-p.ensures)
    in omega arith

pub overflow_cast-self-3 : goal.overflow_cast-self-3
overflow_cast-self-3 c =
    omega (
      arith,
      c.requires.part_len_bound,
    )

pub offset_bounds-self-p : goal.offset_bounds-self-p
offset_bounds-self-p c =
    let w = next_lies c.args.self c.args.store.now c.place-p.result c.requires.placed c.requires.count_bound (rw c.ring.ensures at c.place-p.ensures) in omega arith

pub bounds-self-p-3 : goal.bounds-self-p-3
bounds-self-p-3 c =
    let w = next_lies c.args.self c.args.store.now c.place-p.result c.requires.placed c.requires.count_bound (rw c.ring.ensures at c.place-p.ensures)
    in omega arith

pub bounds-self-p-4 : goal.bounds-self-p-4
bounds-self-p-4 c =
    let w = next_lies c.args.self c.args.store.now c.place-p.result c.requires.placed c.requires.count_bound (rw c.ring.ensures at c.place-p.ensures)
    in omega arith

pub offset_bounds-self-p-2 : goal.offset_bounds-self-p-2
offset_bounds-self-p-2 c =
    let w = next_lies c.args.self c.args.store.now c.place-p.result c.requires.placed c.requires.count_bound (rw c.ring.ensures at c.place-p.ensures) in omega arith

pub bounds-self-p-5 : goal.bounds-self-p-5
bounds-self-p-5 c =
    let w = next_lies c.args.self c.args.store.now c.place-p.result c.requires.placed c.requires.count_bound (rw c.ring.ensures at c.place-p.ensures)
    in omega arith

pub returns : goal.returns
returns c =
    let w = next_lies c.args.self c.args.store.now c.place-p.result c.requires.placed c.requires.count_bound (rw c.ring.ensures at c.place-p.ensures) in let f = c.requires.found in record {
      value = appended-is c.args.part.now c.args.id.now c.args.self c.place-p.result c.wrapping_add_u64.result c.args.n _ _ _ f.counts
          (c.put_shorts.ensures ∙ ap (sets c.args.self.topic_start (c.place-p.result * max_topics)) f.starts)
          (c.put_shorts-2.ensures ∙ ap (sets c.args.self.topic_len (c.place-p.result * max_topics)) f.sizes) (rw c.ring.ensures at c.place-p.ensures) c.wrapping_add_u64.ensures.value
          (bytes-put _ c.args.id.now c.args.self.ids _ (omega (
            arith,
            c.requires.part_len_bound,
          )) c.put_bytes-2.ensures.lent);
      store_after = appended-store c.args.self c.place-p.result c.args.store.now _ c.args.part.now (rw c.ring.ensures at c.place-p.ensures)
          (bytes-put _ c.args.part.now c.args.store.now _ (omega (
            arith,
            c.requires.part_len_bound,
          )) c.put_bytes.ensures.lent);
    }
