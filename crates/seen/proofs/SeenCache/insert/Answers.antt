-- `seen::SeenCache::insert` meets its contract: a fresh id enters, and any other answer leaves all as it was.
use mathlib.Core.Path.{◌≡◌}
use borrow.Author.Rules.{rules}
use Rattle.std.specs.Prelude.{Ok}
use Rattle.basis.specs.Cases.{clash}
use Rattle.seen.specs.declared.Entry.TheVariants.{Fresh, Held}
use Rattle.seen.proofs.Answers.{insert-stays, insert-enters}
use Rattle.seen.proofs.SeenCache.insert.Goals as goal

pub returns-in-Ok-Fresh : goal.returns-in-Ok-Fresh
returns-in-Ok-Fresh c =
    let a = c.args in
    let e : c.entry-answer.result ≡ Ok Fresh = search rules in
    insert-enters a.max_entries a.at a.ttl a.self a.store.now a.id.now c.entry-answer.result c.entry-answer.ensures e
    c.expiry_of-expires.result c.expiry_of-expires.ensures _ _ c.enter-cache.ensures

pub returns : goal.returns
returns c =
    let a = c.args in
    let h : c.entry-answer.result ≡ Ok Held = search rules in
    insert-stays a.max_entries a.at a.ttl a.self a.store.now a.id.now c.entry-answer.result c.entry-answer.ensures
    (λ e. clash (cc))

pub returns-2 : goal.returns-2
returns-2 c =
    let a = c.args in
    insert-stays a.max_entries a.at a.ttl a.self a.store.now a.id.now c.entry-answer.result c.entry-answer.ensures
    (λ e. clash (cc))
