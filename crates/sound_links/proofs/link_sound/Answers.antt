-- `sound_links::link_sound` meets its contract: each kind is a case law of `link_sound`.
use mathlib.Core.Bool.{not}
use mathlib.Core.Path.{ap}
use Rattle.ranges.specs.Tests.{fails, holds}
use Rattle.tables.specs.Tables.{with_counts, with_clients, with_links}
use Rattle.sound_links.specs.Kinds.{nothing-sound, request-sound, reply-sound, lost-sound, not-used}
use Rattle.sound_links.proofs.link_sound.Goals as goal

pub returns-then-kind-eq0 : goal.returns-then-kind-eq0
returns-then-kind-eq0 c =
    λ t. let a = c.args in
    nothing-sound (with_links a.links.now (with_clients a.clients.now (with_counts a.counts.now t))) a.client a.target c.link_word-kind.ensures c.if-kind-eq0.true

pub returns-then-not-uses : goal.returns-then-not-uses
returns-then-not-uses c =
    λ t. let a = c.args in
    not-used (with_links a.links.now (with_clients a.clients.now (with_counts a.counts.now t))) a.client a.target c.link_word-kind.ensures c.if-kind-eq0.false (fails (rw (
      c.client_word-state.ensures,
      c.client_word-mask.ensures,
    ) at c.uses.ensures) (ap not c.if-not-uses.true))

pub returns-then-kind-eq1 : goal.returns-then-kind-eq1
returns-then-kind-eq1 c =
    λ t. let a = c.args in
    request-sound (with_links a.links.now (with_clients a.clients.now (with_counts a.counts.now t))) a.client a.target c.link_word-kind.ensures c.if-kind-eq1.true (holds (rw (
      c.client_word-state.ensures,
      c.client_word-mask.ensures,
    ) at c.uses.ensures)
    (ap not c.if-not-uses.false)) (rw c.client_word-state.ensures at (c.request_on.ensures (with_clients a.clients.now t)))

pub returns-then-kind-eq2 : goal.returns-then-kind-eq2
returns-then-kind-eq2 c =
    λ t. let a = c.args in
    reply-sound (with_links a.links.now (with_clients a.clients.now (with_counts a.counts.now t))) a.client a.target c.link_word-kind.ensures c.if-kind-eq2.true (holds (rw (
      c.client_word-state.ensures,
      c.client_word-mask.ensures,
    ) at c.uses.ensures)
    (ap not c.if-not-uses.false)) (rw c.client_word-state.ensures at (c.reply_on.ensures (with_clients a.clients.now t)))

pub returns : goal.returns
returns c =
    λ t. let a = c.args in
    lost-sound (with_links a.links.now (with_clients a.clients.now (with_counts a.counts.now t))) a.client a.target
    c.link_word-kind.ensures c.if-kind-eq0.false c.if-kind-eq1.false c.if-kind-eq2.false (holds (rw (
      c.client_word-state.ensures,
      c.client_word-mask.ensures,
    ) at c.uses.ensures)
    (ap not c.if-not-uses.false))
