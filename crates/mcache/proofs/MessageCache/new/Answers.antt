-- `MessageCache::new` meets its contract.
use Rattle.std.proofs.Common.{sym, ◌∙◌}
use Rattle.mcache.proofs.Steps.{start_none, start-long, start-many, start-unknown, start_fits}
use Rattle.mcache.proofs.MessageCache.new.Goals as goal

pub returns-then-history_len-eq0 : goal.returns-then-history_len-eq0
returns-then-history_len-eq0 c =
    let r = start_none _ _ _ c.if-history_len-eq0.true in
    record { answer = c.refused.ensures.answer_value ∙ r.0; cache = c.refused.ensures.cache_value ∙ r.1 }

pub returns-then-history_len-gt-MAX_HISTORY : goal.returns-then-history_len-gt-MAX_HISTORY
returns-then-history_len-gt-MAX_HISTORY c =
    let r = start-long _ _ _ c.if-history_len-eq0.false c.if-history_len-gt-MAX_HISTORY.true in
    record { answer = c.refused-then-history_len-gt-MAX_HISTORY.ensures.answer_value ∙ r.0; cache = c.refused-then-history_len-gt-MAX_HISTORY.ensures.cache_value ∙ r.1 }

pub returns-then-max_messages-gt-MAX_MESSAGES : goal.returns-then-max_messages-gt-MAX_MESSAGES
returns-then-max_messages-gt-MAX_MESSAGES c =
    let r = start-many _ _ _ c.if-history_len-eq0.false c.if-history_len-gt-MAX_HISTORY.false c.if-max_messages-gt-MAX_MESSAGES.true in
    record { answer = c.refused-then-max_messages-gt-MAX_MESSAGES.ensures.answer_value ∙ r.0; cache = c.refused-then-max_messages-gt-MAX_MESSAGES.ensures.cache_value ∙ r.1 }

pub returns-then-not-known_flags : goal.returns-then-not-known_flags
returns-then-not-known_flags c =
    let r = start-unknown _ _ _ c.if-history_len-eq0.false c.if-history_len-gt-MAX_HISTORY.false c.if-max_messages-gt-MAX_MESSAGES.false
    (sym c.known_flags.ensures ∙ c.if-not-known_flags.true) in
    record { answer = c.refused-then-not-known_flags.ensures.answer_value ∙ r.0; cache = c.refused-then-not-known_flags.ensures.cache_value ∙ r.1 }

pub returns : goal.returns
returns c =
    let r = start_fits _ _ _ c.if-history_len-eq0.false c.if-history_len-gt-MAX_HISTORY.false c.if-max_messages-gt-MAX_MESSAGES.false
    (sym c.known_flags.ensures ∙ c.if-not-known_flags.false) in
    record { answer = r.0; cache = c.empty.ensures ∙ r.1 }
