-- `node::Node::insert` meets its contract: after the clean-up the id is held, or it and its message are kept.
use Rattle.node.proofs.Answers.{swept_enters, admits-held, admits-new, key-long, keeps-under}
use Rattle.node.proofs.Node.insert.Goals as goal

pub returns-then-holds : goal.returns-then-holds
returns-then-holds c =
    let a = c.args in let h = admits-held a.self a.seen_store.now a.cache_store.now a.at c.clean-seen.result
    c.clean-seen.ensures a.part.now a.key.now c.requires.part_len_bound.2
    c.holds.result c.holds.ensures c.if-holds.true c.later.result c.later.ensures in record { answer_value = h.0; node_value = h.1.0; seen_store_after = h.1.1.0; cache_store_after = h.1.1.1 }

pub slice_bounds-keep-count : goal.slice_bounds-keep-count
slice_bounds-keep-count c =
    key-long _ _ c.args.key.now
    c.requires.part_len_bound.2

pub slice_bounds-keep-start : goal.slice_bounds-keep-start
slice_bounds-keep-start c =
    key-long _ _ c.args.key.now
    c.requires.part_len_bound.2

pub returns : goal.returns
returns c =
    let keep = c.keep-kept in
    let enter = c.enter-seen in
    let expiry-of = c.expiry_of-expires in
    let if1 = c.if-holds in
    let holds = c.holds in
    let clean = c.clean-seen in
    let a = c.args in
    let h = admits-new a.self a.seen_store.now a.cache_store.now a.at clean.result clean.ensures a.part.now
    a.key.now c.requires.part_len_bound.2 holds.result holds.ensures if1.false expiry-of.result expiry-of.ensures enter.result _
    (swept_enters a.self a.seen_store.now a.cache_store.now a.at clean.result clean.ensures c.requires.ready
    a.key.now c.requires.part_len_bound.1 _ _ _ enter.ensures) keep.result.cache _
    (keeps-under a.self.cache a.cache_store.now a.part.now a.key.now c.requires.ready.kept c.requires.part_len_bound.0 c.requires.part_len_bound.2
    c.requires.part_len_bound.1 _ _ keep.ensures) c.later-2.result c.later-2.ensures in record { answer_value = h.0; node_value = h.1.0; seen_store_after = h.1.1.0; cache_store_after = h.1.1.1 }
