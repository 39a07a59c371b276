-- `MessageCache::keep` meets its contract.
use Rattle.std.proofs.Common.{sym, refl, ◌∙◌, arith}
use Rattle.basis.specs.Dialect.{mode_of}
use Rattle.admission.specs.Admission.{Span}
use Rattle.admission.specs.TopicLaws.{counts-places, starts-within, sizes-within}
use Rattle.mcache.proofs.Walks.{kept-length, kept-values, kept-below}
use Rattle.mcache.proofs.Answers.{roomy, kept-not, kept-placed, kept-short, under-held, under-new}
use borrow.Author.Rules.{rules}
use Rattle.mcache.proofs.MessageCache.keep.Goals as goal

pub returns-then-row-self : goal.returns-then-row-self
returns-then-row-self c =
    let a = c.args in under-held a.self a.store.now a.part.now a.id.now (rw c.ring-ring.ensures at (sym c.can_keep.ensures ∙ c.if-can_keep.true)) c.find-row.result c.find-row.ensures c.if-row-self.true

pub enter-cache-requires : goal.enter-cache-requires
enter-cache-requires c =
    let least = c.least-n in
    let topics-of = c.topics_of-t in
    let Mode-of = c.mode_of in
    let if1 = c.if-can_keep in
    let can-keep = c.can_keep in
    let ring = c.ring-ring in
    let a = c.args in
    let k = (rw ring.ensures at (sym can-keep.ensures ∙ if1.true)) in
    let found = rw Mode-of.ensures at topics-of.ensures in
    let s = kept-short a.self a.store.now a.part.now a.id.now k in record {
      placed = kept-placed a.self a.store.now a.part.now a.id.now k
          (search rules)
          (search rules)
          (search rules)
          (search rules)
          (search rules)
          (roomy a.self (search rules)
          (search rules)
          (search rules));
      part_len_bound = s;
      found = record {
        counts = kept-length (mode_of a.self.flags) a.part.now topics-of.result.count least.result
            (counts-places (mode_of a.self.flags) a.part.now found.topics) least.ensures;
        starts = kept-values (mode_of a.self.flags) a.part.now topics-of.result.count least.result
            (counts-places (mode_of a.self.flags) a.part.now found.topics) least.ensures (λ (s : Span). s.start) _ _ refl
            found.starts;
        sizes = kept-values (mode_of a.self.flags) a.part.now topics-of.result.count least.result
            (counts-places (mode_of a.self.flags) a.part.now found.topics) least.ensures (λ (s : Span). s.size) _ _ refl
            found.sizes;
        starts-room = omega (arith, least.ensures);
        sizes-room = omega (arith, least.ensures);
        starts-small = λ i h. let q = kept-below (mode_of a.self.flags) a.part.now topics-of.result.count least.result
            (counts-places (mode_of a.self.flags) a.part.now found.topics) least.ensures (λ (s : Span). s.start) _ _ refl
            found.starts _ (starts-within (mode_of a.self.flags) a.part.now) i h in
            omega (arith, s.0);
        sizes-small = λ i h. let q = kept-below (mode_of a.self.flags) a.part.now topics-of.result.count least.result
            (counts-places (mode_of a.self.flags) a.part.now found.topics) least.ensures (λ (s : Span). s.size) _ _ refl
            found.sizes _ (sizes-within (mode_of a.self.flags) a.part.now) i h in
            omega (arith, s.0);
      };
    }

pub returns-then-can_keep : goal.returns-then-can_keep
returns-then-can_keep c =
    let if2 = c.if-row-self in
    let find = c.find-row in
    let if1 = c.if-can_keep in
    let can-keep = c.can_keep in
    let ring = c.ring-ring in
    let a = c.args in
    under-new a.self a.store.now a.part.now a.id.now (rw ring.ensures at (sym can-keep.ensures ∙ if1.true))
    find.result find.ensures if2.false _ _ (c.enter-cache.ensures.value, c.enter-cache.ensures.store_after)

pub returns : goal.returns
returns c =
    let a = c.args in
    kept-not a.self a.store.now a.part.now a.id.now _ c.not_put.ensures
    (rw c.ring-ring.ensures at (sym c.can_keep.ensures ∙ c.if-can_keep.false))
