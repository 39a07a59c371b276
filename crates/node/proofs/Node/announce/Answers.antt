-- `node::Node::announce` meets its contract: the rows are gathered, measured, and then written where there is room.
use Rattle.mcache.specs.GuardLaws.{tell_usable}
use Rattle.node.proofs.Telling.{told-room, told-listed, told-fits, tell_none, tell_short, tell_put}
use Rattle.node.proofs.Node.announce.Goals as goal

pub returns-then-n-eq0 : goal.returns-then-n-eq0
returns-then-n-eq0 c =
    let a = c.args in
    let u = tell_usable a.self.now.cache a.cache_store.now a.topic.now a.windows c.requires.0 _ c.tell-told.ensures in
    let h = tell_none a.self.now a.cache_store.now a.topic.now a.windows c.requires.0 c.tell-told.result.count c.tell-told.result.rows u.1.0 u.1.1
    a.out.now c.if-n-eq0.true in
    record { value = h.0; out_after = h.1 }

pub emit_advertisement-needed-requires : goal.emit_advertisement-needed-requires
emit_advertisement-needed-requires c =
    let a = c.args in record {
      n_in_bounds = told-room a.self.now.cache a.cache_store.now a.topic.now a.windows c.requires.0
          c.tell-told.result.count
          c.tell-told.result.rows (tell_usable a.self.now.cache a.cache_store.now a.topic.now a.windows c.requires.0 _ c.tell-told.ensures).1.0 (tell_usable
          a.self.now.cache a.cache_store.now a.topic.now a.windows c.requires.0 _
          c.tell-told.ensures).1.1;
      listed = told-listed a.self.now.cache a.cache_store.now
          a.topic.now a.windows c.requires.0 c.tell-told.result.count
          c.tell-told.result.rows (tell_usable a.self.now.cache a.cache_store.now a.topic.now a.windows c.requires.0 _ c.tell-told.ensures).1.0 (tell_usable
          a.self.now.cache a.cache_store.now a.topic.now a.windows c.requires.0 _
          c.tell-told.ensures).1.1;
      fits = told-fits a.self.now.cache a.cache_store.now a.topic.now a.windows c.requires.0 c.tell-told.result.count
          c.tell-told.result.rows (tell_usable a.self.now.cache a.cache_store.now a.topic.now a.windows c.requires.0 _ c.tell-told.ensures).1.0 (tell_usable
          a.self.now.cache a.cache_store.now a.topic.now a.windows c.requires.0 _
          c.tell-told.ensures).1.1 c.requires.1;
    }

pub returns-then-out-needed : goal.returns-then-out-needed
returns-then-out-needed c =
    let a = c.args in let h = tell_short a.self.now a.cache_store.now a.topic.now a.windows c.requires.0
    c.tell-told.result.count
    c.tell-told.result.rows (tell_usable a.self.now.cache
    a.cache_store.now a.topic.now a.windows c.requires.0 _
    c.tell-told.ensures).1.0 (tell_usable a.self.now.cache
    a.cache_store.now a.topic.now a.windows c.requires.0 _
    c.tell-told.ensures).1.1 a.out.now
    c.if-n-eq0.false _ _
    c.emit_advertisement-needed.result c.emit_advertisement-needed.ensures c.if-out-needed.true in record { value = h.0; out_after = h.1 }

pub emit_advertisement-requires : goal.emit_advertisement-requires
emit_advertisement-requires c =
    let a = c.args in record {
      n_in_bounds = told-room a.self.now.cache a.cache_store.now a.topic.now a.windows c.requires.0
          c.tell-told.result.count
          c.tell-told.result.rows
          (tell_usable a.self.now.cache a.cache_store.now a.topic.now a.windows c.requires.0 _
          c.tell-told.ensures).1.0
          (tell_usable a.self.now.cache a.cache_store.now a.topic.now a.windows c.requires.0 _
          c.tell-told.ensures).1.1;
      listed = told-listed a.self.now.cache a.cache_store.now a.topic.now a.windows c.requires.0
          c.tell-told.result.count
          c.tell-told.result.rows
          (tell_usable a.self.now.cache a.cache_store.now a.topic.now a.windows c.requires.0 _
          c.tell-told.ensures).1.0
          (tell_usable a.self.now.cache a.cache_store.now a.topic.now a.windows c.requires.0 _
          c.tell-told.ensures).1.1;
      fits = told-fits a.self.now.cache a.cache_store.now a.topic.now a.windows c.requires.0
          c.tell-told.result.count
          c.tell-told.result.rows
          (tell_usable a.self.now.cache a.cache_store.now a.topic.now a.windows c.requires.0 _
          c.tell-told.ensures).1.0
          (tell_usable a.self.now.cache a.cache_store.now a.topic.now a.windows c.requires.0 _
          c.tell-told.ensures).1.1
          c.requires.1;
    }

pub returns : goal.returns
returns c =
    let a = c.args in let h = tell_put a.self.now a.cache_store.now a.topic.now a.windows c.requires.0
    c.tell-told.result.count
    c.tell-told.result.rows (tell_usable a.self.now.cache a.cache_store.now a.topic.now a.windows c.requires.0 _
    c.tell-told.ensures).1.0 (tell_usable a.self.now.cache a.cache_store.now a.topic.now a.windows c.requires.0 _
    c.tell-told.ensures).1.1 a.out.now
    c.if-n-eq0.false _ _ c.emit_advertisement-needed.result
    c.emit_advertisement-needed.ensures
    c.if-out-needed.false _ _ c.emit_advertisement.ensures in record { value = h.0; out_after = h.1 }
