-- `node::emit_advertisement` meets its contract: the lengths are measured, and then three heads, the topic and the ids are written one after the other.
use mathlib.Core.List.{map}
use lib.ListN.{take}
use native.Mathlib.Omega.{arith}
use Rattle.rows.specs.Store.{id_at}
use Rattle.node.specs.WireLaws.{advertisement-bytes}
use Rattle.node.proofs.Writes.{ids_left, ids_fit_lem, topic-fits, len-fits, entry-head-fits, entry-fits, one-fits, two_fits, three-fits, four-fits, five_fits, five_puts}
use Rattle.node.proofs.emit_advertisement.Goals as goal

pub emit_ids-named-requires : goal.emit_ids-named-requires
emit_ids-named-requires c =
    let a = c.args in record {
      n_in_bounds = c.requires.n_in_bounds;
      listed = c.requires.listed;
      fits = ids_fit_lem a.topic.now
          (ids_left a.n a.rows.now a.id_lens.now a.ids.now 0) a.at _
          (advertisement-bytes a.topic.now (map (id_at 128 a.id_lens.now a.ids.now) (take a.n a.rows.now))) c.requires.fits;
    }

pub emit_head-requires : goal.emit_head-requires
emit_head-requires c =
    let a = c.args in (
      omega arith,
      topic-fits a.topic.now (ids_left a.n a.rows.now a.id_lens.now a.ids.now 0)
          a.at _ (advertisement-bytes a.topic.now (map (id_at 128 a.id_lens.now a.ids.now) (take a.n a.rows.now)))
          c.requires.fits,
    )

pub overflow_add-topic_end : goal.overflow_add-topic_end
overflow_add-topic_end c =
    let a = c.args in
    let f = len-fits a.topic.now (ids_left a.n a.rows.now a.id_lens.now a.ids.now 0) a.at _
    (advertisement-bytes a.topic.now (map (id_at 128 a.id_lens.now a.ids.now) (take a.n a.rows.now))) c.requires.fits
    c.emit_ids-named.result c.emit_head.result c.emit_ids-named.ensures.ends
    c.emit_head.ensures.ends in omega (arith, f)

pub overflow_add-len : goal.overflow_add-len
overflow_add-len c =
    let a = c.args in
    let f = len-fits a.topic.now (ids_left a.n a.rows.now a.id_lens.now a.ids.now 0) a.at _
    (advertisement-bytes a.topic.now (map (id_at 128 a.id_lens.now a.ids.now) (take a.n a.rows.now))) c.requires.fits
    c.emit_ids-named.result c.emit_head.result c.emit_ids-named.ensures.ends
    c.emit_head.ensures.ends in omega (arith, f)

pub emit_head-requires-2 : goal.emit_head-requires-2
emit_head-requires-2 c =
    let a = c.args in (
      omega arith,
      entry-head-fits a.topic.now (ids_left a.n a.rows.now a.id_lens.now a.ids.now 0) a.at _
          (advertisement-bytes a.topic.now (map (id_at 128 a.id_lens.now a.ids.now) (take a.n a.rows.now))) c.requires.fits
          c.emit_ids-named.result c.emit_head.result
          c.emit_ids-named.ensures.ends c.emit_head.ensures.ends,
    )

pub overflow_add-entry : goal.overflow_add-entry
overflow_add-entry c =
    let a = c.args in
    let f = entry-fits a.topic.now (ids_left a.n a.rows.now a.id_lens.now a.ids.now 0) a.at _
    (advertisement-bytes a.topic.now (map (id_at 128 a.id_lens.now a.ids.now) (take a.n a.rows.now))) c.requires.fits
    c.emit_ids-named.result c.emit_head.result
    c.emit_ids-named.ensures.ends c.emit_head.ensures.ends
    c.emit_head-2.result c.emit_head-2.ensures.ends in omega (arith, f)

pub emit_head-i-requires : goal.emit_head-i-requires
emit_head-i-requires c =
    let a = c.args in (
      omega arith,
      one-fits a.topic.now (ids_left a.n a.rows.now a.id_lens.now a.ids.now 0) a.at _
          (advertisement-bytes a.topic.now (map (id_at 128 a.id_lens.now a.ids.now) (take a.n a.rows.now))) c.requires.fits
          c.emit_ids-named.result c.emit_head.result
          c.emit_ids-named.ensures.ends
          c.emit_head.ensures.ends c.emit_head-2.result c.emit_head-2.ensures.ends
          a.out.now,
    )

pub emit_head-j-requires : goal.emit_head-j-requires
emit_head-j-requires c =
    let a = c.args in (
      omega arith,
      two_fits a.topic.now (ids_left a.n a.rows.now a.id_lens.now a.ids.now 0) a.at _
          (advertisement-bytes a.topic.now (map (id_at 128 a.id_lens.now a.ids.now) (take a.n a.rows.now))) c.requires.fits
          c.emit_ids-named.result
          c.emit_head.result
          c.emit_ids-named.ensures.ends
          c.emit_head.ensures.ends
          c.emit_head-2.result c.emit_head-2.ensures.ends
          a.out.now _ _ c.emit_head-i.ensures,
    )

pub emit_head-k-requires : goal.emit_head-k-requires
emit_head-k-requires c =
    let a = c.args in (
      omega arith,
      three-fits a.topic.now (ids_left a.n a.rows.now a.id_lens.now a.ids.now 0) a.at _
          (advertisement-bytes a.topic.now (map (id_at 128 a.id_lens.now a.ids.now) (take a.n a.rows.now))) c.requires.fits
          c.emit_ids-named.result
          c.emit_head.result
          c.emit_ids-named.ensures.ends
          c.emit_head.ensures.ends
          c.emit_head-2.result
          c.emit_head-2.ensures.ends a.out.now _ _
          c.emit_head-i.ensures _ _ c.emit_head-j.ensures,
    )

pub emit_bytes-l-requires : goal.emit_bytes-l-requires
emit_bytes-l-requires c =
    let a = c.args in
    four-fits a.topic.now (ids_left a.n a.rows.now a.id_lens.now a.ids.now 0) a.at _
    (advertisement-bytes a.topic.now (map (id_at 128 a.id_lens.now a.ids.now) (take a.n a.rows.now))) c.requires.fits
    c.emit_ids-named.result
    c.emit_head.result c.emit_ids-named.ensures.ends
    c.emit_head.ensures.ends c.emit_head-2.result
    c.emit_head-2.ensures.ends
    a.out.now _ _ c.emit_head-i.ensures _ _
    c.emit_head-j.ensures _ _ c.emit_head-k.ensures

pub emit_ids-requires : goal.emit_ids-requires
emit_ids-requires c =
    let a = c.args in record {
      n_in_bounds = c.requires.n_in_bounds;
      listed = c.requires.listed;
      fits = five_fits a.topic.now (ids_left a.n a.rows.now a.id_lens.now a.ids.now 0) a.at _
          (advertisement-bytes a.topic.now (map (id_at 128 a.id_lens.now a.ids.now) (take a.n a.rows.now))) c.requires.fits
          c.emit_ids-named.result
          c.emit_head.result
          c.emit_ids-named.ensures.ends
          c.emit_head.ensures.ends
          c.emit_head-2.result
          c.emit_head-2.ensures.ends a.out.now _ _
          c.emit_head-i.ensures _ _
          c.emit_head-j.ensures _ _
          c.emit_head-k.ensures _ _ c.emit_bytes-l.ensures;
    }

pub returns : goal.returns
returns c =
    let a = c.args in
    five_puts a.topic.now (ids_left a.n a.rows.now a.id_lens.now a.ids.now 0) a.at _
    (advertisement-bytes a.topic.now (map (id_at 128 a.id_lens.now a.ids.now) (take a.n a.rows.now))) c.requires.fits
    c.emit_ids-named.result
    c.emit_head.result
    c.emit_ids-named.ensures.ends
    c.emit_head.ensures.ends
    c.emit_head-2.result
    c.emit_head-2.ensures.ends a.out.now _ _
    c.emit_head-i.ensures _ _
    c.emit_head-j.ensures _ _
    c.emit_head-k.ensures _ _
    c.emit_bytes-l.ensures _ _ c.emit_ids.ensures
