-- The tests one by one; the check of all tables only where they were opened.
use Rattle.std.proofs.Common.{sym, ◌∙◌}
use Rattle.tables.specs.Lent.{tables_lent}
use Rattle.texts.specs.TextLaws.{short_counts, not_opened, opened}
use Rattle.texts.proofs.may_play.Goals as goal

pub returns-then-t-lt-WORDS : goal.returns-then-t-lt-WORDS
returns-then-t-lt-WORDS c = short_counts (tables_lent c.args.t.now) c.if-t-lt-WORDS.true

pub returns-then-count_at-eq0 : goal.returns-then-count_at-eq0
returns-then-count_at-eq0 c =
    not_opened (tables_lent c.args.t.now) c.if-t-lt-WORDS.false (sym c.count_at.ensures ∙ c.if-count_at-eq0.true)

pub returns : goal.returns
returns c =
    opened (tables_lent c.args.t.now) c.if-t-lt-WORDS.false (λ e. c.if-count_at-eq0.false (c.count_at.ensures ∙ e)) c.sound.ensures
