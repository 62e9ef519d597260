-- `sound_steps::take_reply` meets its contract: a cause refuses, and where there is none sound tables are ready for each state's step.
use mathlib.Core.Path.{refl, sym, ap, ◌∙◌}
use lib.ListN.{length}
use Rattle.tables.specs.Tables.{tables_of}
use Rattle.reply_parts.specs.Shown.{ended-shows}
use Rattle.sound_steps.specs.Cases.{reply-refused}
use Rattle.sound_steps.specs.ReplyStates.{by-none, by-waiting, by_row, by-set_done, by-entered, by-keys, by-got, by_all}
use Rattle.sound_steps.specs.Replies.{Taking, taking, brings, taken, replied, plain-replied}
use borrow.Author.Rules.{rules}
use Rattle.sound_steps.proofs.take_reply.Goals.{In_default}
use Rattle.sound_steps.proofs.take_reply.Goals as goal

-- the place where none refuses
free : (n : In_default) →
    let a = n.args in
    Taking (tables_of a.counts.now a.clients.now a.links.now a.keys.now a.values.now a.log.now a.writes.now a.reads.now) a.client a.target
free n =
    let a = n.args in
    taking (tables_of a.counts.now a.clients.now a.links.now a.keys.now a.values.now a.log.now a.writes.now a.reads.now)
    n.requires.sound a.client a.target n.delivery_fault.result
    (n.delivery_fault.ensures a.clients.now a.links.now a.keys.now a.values.now a.log.now a.writes.now a.reads.now)
    n.in_default.not-Err

pub returns-in-Err : goal.returns-in-Err
returns-in-Err c =
    let a = c.args in
    plain-replied _ _ _ c.refused.ensures c.requires.tags_value
    (reply-refused _ c.requires.sound _ _ _
    (c.in-Err.ensures a.clients.now a.links.now a.keys.now a.values.now a.log.now a.writes.now a.reads.now))

pub link_at-link-requires : goal.link_at-link-requires
link_at-link-requires c =
    let h = (free c).ready in
    search rules

pub returns-in_default-content : goal.returns-in_default-content
returns-in_default-content c =
    plain-replied _ _ _ c.refused-in_default-content.ensures c.requires.tags_value
    ((free (goal.at.returns-in_default-content c).In_default).accepted _
    (by-none _ _ _ c.link_at-link.ensures c.in_default-content.not-Reply))

pub client_word-state-requires : goal.client_word-state-requires
client_word-state-requires c =
    let h = (free (goal.at.client_word-state-requires c).In_default).ready in
    search rules

pub set_done-arrival-requires : goal.set_done-arrival-requires
set_done-arrival-requires c =
    let h = (free (goal.at.set_done-arrival-requires c).In_default) in
    let b = brings _ _ _ h c.link_at-link.ensures c.in-Reply.is in
    record {
      fillable = h.ready.fillable;
      count_fits = b.done (sym c.client_word-state.ensures ∙ c.if-state-eq-WRITING.true);
      has_links = (h.ready.linked, h.ready.kinds);
    }

pub returns-then-state-eq-WRITING : goal.returns-then-state-eq-WRITING
returns-then-state-eq-WRITING c =
    let a = c.args in
    plain-replied _ _ _ c.plain.ensures c.requires.tags_value
    (taken _ _ _ (free (goal.at.returns-then-state-eq-WRITING c).In_default) c.link_at-link.ensures c.in-Reply.is
    (by-set_done _ _ _ _ c.client_word-state.ensures c.if-state-eq-WRITING.true
    (c.set_done-arrival.ensures a.keys.now a.values.now a.log.now a.writes.now a.reads.now)))

pub entered-arrival-requires : goal.entered-arrival-requires
entered-arrival-requires c =
    let h = (free (goal.at.entered-arrival-requires c).In_default) in
    let b = brings _ _ _ h c.link_at-link.ensures c.in-Reply.is in
    record {
      fillable = h.ready.fillable;
      got_ready = b.entered (sym c.client_word-state.ensures ∙ c.if-state-eq-ENTERING.true);
    }

pub returns-then-state-eq-ENTERING : goal.returns-then-state-eq-ENTERING
returns-then-state-eq-ENTERING c =
    let a = c.args in
    plain-replied _ _ _ c.plain-then-state-eq-ENTERING.ensures c.requires.tags_value
    (taken _ _ _ (free (goal.at.returns-then-state-eq-ENTERING c).In_default) c.link_at-link.ensures c.in-Reply.is
    (by-entered _ _ _ _ c.client_word-state.ensures c.if-state-eq-WRITING.false c.if-state-eq-ENTERING.true
    (c.entered-arrival.ensures a.keys.now a.values.now a.log.now a.reads.now)))

pub keys_told-arrival-requires : goal.keys_told-arrival-requires
keys_told-arrival-requires c =
    let h = (free (goal.at.keys_told-arrival-requires c).In_default) in
    let b = brings _ _ _ h c.link_at-link.ensures c.in-Reply.is in
    record {
      fillable = h.ready.fillable;
      has_links = h.ready.linked;
      keys_ready = b.told (sym c.client_word-state.ensures ∙ c.if-state-eq-ASKING_KEYS.true);
    }

pub returns-then-state-eq-ASKING_KEYS : goal.returns-then-state-eq-ASKING_KEYS
returns-then-state-eq-ASKING_KEYS c =
    let a = c.args in
    plain-replied _ _ _ c.plain-then-state-eq-ASKING_KEYS.ensures c.requires.tags_value
    (taken _ _ _ (free (goal.at.returns-then-state-eq-ASKING_KEYS c).In_default) c.link_at-link.ensures c.in-Reply.is
    (by-keys _ _ _ _ c.client_word-state.ensures c.if-state-eq-WRITING.false c.if-state-eq-ENTERING.false c.if-state-eq-ASKING_KEYS.true
    (c.keys_told-arrival.ensures a.keys.now a.values.now a.writes.now a.reads.now)))

pub client_word-mask-requires : goal.client_word-mask-requires
client_word-mask-requires c =
    let h = (free (goal.at.client_word-mask-requires c).In_default).ready in
    search rules

pub client_word-tag-requires : goal.client_word-tag-requires
client_word-tag-requires c =
    let h = (free (goal.at.client_word-tag-requires c).In_default).ready in
    search rules

pub got-requires : goal.got-requires
got-requires c =
    let h = (free (goal.at.got-requires c).In_default) in
    let b = brings _ _ _ h c.link_at-link.ensures c.in-Reply.is in
    let g = b.got (sym c.client_word-state.ensures ∙ c.if-state-eq-ASKING_SETPOINTS.true) in
    record {
      fillable = h.ready.fillable;
      has_links = (h.ready.linked, h.ready.kinds, g.0);
      got_ready = g.1;
    }

pub returns-then-got : goal.returns-then-got
returns-then-got c =
    let a = c.args in
    plain-replied _ _ _ c.plain-then-got.ensures c.requires.tags_value
    (taken _ _ _ (free (goal.at.returns-then-got c).In_default) c.link_at-link.ensures c.in-Reply.is
    (by-got _ _ _ _ c.client_word-state.ensures c.if-state-eq-WRITING.false c.if-state-eq-ENTERING.false c.if-state-eq-ASKING_KEYS.false c.if-state-eq-ASKING_SETPOINTS.true
    (by-waiting _ _ (c.got.ensures a.keys.now a.values.now a.log.now a.writes.now) c.if-got.true refl)))

pub show_words-requires : goal.show_words-requires
show_words-requires c =
    let h = (free (goal.at.show_words-requires c).In_default).ready in
    let kept = c.got.auto in
    let long = ap length c.requires.tags_value in
    search rules

pub returns-then-state-eq-ASKING_SETPOINTS : goal.returns-then-state-eq-ASKING_SETPOINTS
returns-then-state-eq-ASKING_SETPOINTS c =
    let a = c.args in
    let h = (free (goal.at.returns-then-state-eq-ASKING_SETPOINTS c).In_default) in
    let row = h.ready.row in
    let kept = c.got.auto in
    let mask = c.client_word-mask.ensures in
    let tag = c.client_word-tag.ensures in
    replied _ _ _
    (ended-shows _ _ _ _
    (taken _ _ _ h c.link_at-link.ensures c.in-Reply.is
    (by-got _ _ _ _ c.client_word-state.ensures c.if-state-eq-WRITING.false c.if-state-eq-ENTERING.false c.if-state-eq-ASKING_KEYS.false c.if-state-eq-ASKING_SETPOINTS.true
    (by_row _ _ (c.got.ensures a.keys.now a.values.now a.log.now a.writes.now) c.if-got.false
    (rw (c.show_words.ensures, tag, mask))))))
    refl (search rules)

pub all_told-requires : goal.all_told-requires
all_told-requires c =
    let h = (free (goal.at.all_told-requires c).In_default) in
    let b = brings _ _ _ h c.link_at-link.ensures c.in-Reply.is in
    let e = c.client_word-state.ensures in
    record {
      fillable = h.ready.fillable;
      all_ready = b.all (λ z. c.if-state-eq-WRITING.false (e ∙ z)) (λ z. c.if-state-eq-ENTERING.false (e ∙ z)) (λ z. c.if-state-eq-ASKING_KEYS.false (e ∙ z)) (λ z. c.if-state-eq-ASKING_SETPOINTS.false (e ∙ z));
      tags_value = c.requires.tags_value;
    }

pub returns : goal.returns
returns c =
    let a = c.args in
    let h = (free (goal.at.returns c).In_default) in
    let row = h.ready.row in
    let kept = c.all_told.auto in
    replied _ _ _ (c.all_told.ensures a.writes.now)
    (taken _ _ _ h c.link_at-link.ensures c.in-Reply.is
    (by_all _ _ _ _ c.client_word-state.ensures c.if-state-eq-WRITING.false c.if-state-eq-ENTERING.false c.if-state-eq-ASKING_KEYS.false c.if-state-eq-ASKING_SETPOINTS.false refl))
    (search rules)
