use Rattle.std.proofs.Common.{sym, ◌∙◌, arith}
use Rattle.mcache.proofs.Answers.{lent_other, lent-part, lent_none, lent-long, lent-many, lent-unknown, lent-start, lent-count, lent_rows_lem, lent-fine}
use Rattle.mcache.proofs.MessageCache.lent.Goals as goal

pub returns-then-store-max : goal.returns-then-store-max
returns-then-store-max c = lent_other c.args.self c.args.store.now c.if-store-max.true

pub returns-then-store-ne0 : goal.returns-then-store-ne0
returns-then-store-ne0 c = lent-part c.args.self c.args.store.now c.if-store-ne0.true

pub returns-then-history_len-eq0 : goal.returns-then-history_len-eq0
returns-then-history_len-eq0 c =
    lent_none c.args.self c.args.store.now c.if-store-max.false c.if-store-ne0.false c.if-history_len-eq0.true

pub returns-then-history_len-gt-MAX_HISTORY : goal.returns-then-history_len-gt-MAX_HISTORY
returns-then-history_len-gt-MAX_HISTORY c =
    lent-long c.args.self c.args.store.now c.if-store-max.false c.if-store-ne0.false c.if-history_len-eq0.false c.if-history_len-gt-MAX_HISTORY.true

pub returns-then-max-gt-MAX_MESSAGES : goal.returns-then-max-gt-MAX_MESSAGES
returns-then-max-gt-MAX_MESSAGES c =
    let a = c.args in
    lent-many a.self a.store.now c.if-store-max.false c.if-store-ne0.false
    c.if-history_len-eq0.false c.if-history_len-gt-MAX_HISTORY.false c.if-max-gt-MAX_MESSAGES.true

pub returns-then-not-known_flags : goal.returns-then-not-known_flags
returns-then-not-known_flags c =
    lent-unknown _ c.args.store.now c.if-store-max.false
    c.if-store-ne0.false c.if-history_len-eq0.false c.if-history_len-gt-MAX_HISTORY.false c.if-max-gt-MAX_MESSAGES.false
    (sym c.known_flags.ensures ∙ c.if-not-known_flags.true)

pub returns-then-max-self : goal.returns-then-max-self
returns-then-max-self c =
    lent-start _ c.args.store.now c.if-store-max.false
    c.if-store-ne0.false c.if-history_len-eq0.false c.if-history_len-gt-MAX_HISTORY.false c.if-max-gt-MAX_MESSAGES.false
    (sym c.known_flags.ensures ∙ c.if-not-known_flags.false) c.if-max-self.true

pub returns-then-max-self-2 : goal.returns-then-max-self-2
returns-then-max-self-2 c =
    lent-count _ c.args.store.now c.if-store-max.false
    c.if-store-ne0.false c.if-history_len-eq0.false c.if-history_len-gt-MAX_HISTORY.false c.if-max-gt-MAX_MESSAGES.false
    (sym c.known_flags.ensures ∙ c.if-not-known_flags.false) c.if-max-self.false c.if-max-self-2.true

pub rows_fit-requires : goal.rows_fit-requires
rows_fit-requires c =
    record {
      max_messages_bound = (
        c.if-max-gt-MAX_MESSAGES.false,
        c.if-max-self.false,
        c.if-max-self-2.false,
        omega (arith, c.if-store-max.false, c.if-store-ne0.false),
      );
      bound = omega (arith, c.if-history_len-eq0.false);
    }

pub returns-then-rows_fit : goal.returns-then-rows_fit
returns-then-rows_fit c =
    lent-fine _ c.args.store.now c.if-store-max.false
    c.if-store-ne0.false c.if-history_len-eq0.false c.if-history_len-gt-MAX_HISTORY.false c.if-max-gt-MAX_MESSAGES.false
    (sym c.known_flags.ensures ∙ c.if-not-known_flags.false) c.if-max-self.false c.if-max-self-2.false
    (sym c.rows_fit.ensures ∙ c.if-rows_fit.true)

pub returns : goal.returns
returns c =
    lent_rows_lem _ c.args.store.now c.if-store-max.false
    c.if-store-ne0.false c.if-history_len-eq0.false c.if-history_len-gt-MAX_HISTORY.false c.if-max-gt-MAX_MESSAGES.false
    (sym c.known_flags.ensures ∙ c.if-not-known_flags.false) c.if-max-self.false c.if-max-self-2.false
    (sym c.rows_fit.ensures ∙ c.if-rows_fit.false)
