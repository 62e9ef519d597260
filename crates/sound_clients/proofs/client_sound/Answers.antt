-- `sound_clients::client_sound` meets its contract: each way out is one more test passed.
use mathlib.Core.Bool.{not}
use mathlib.Core.Path.{ap}
use mathlib.Core.Path.{sym}
use Rattle.ranges.specs.Tests.{and_stops, and_goes_on, or_stops, or_goes_on, is, is-not, fails, holds}
use Rattle.rules.specs.Common.{idle}
use Rattle.soundness.specs.Sound.{client_sound}
use Rattle.sound_clients.proofs.client_sound.Goals as goal

pub returns-then-not-row_sound : goal.returns-then-not-row_sound
unfolding client_sound
returns-then-not-row_sound c = λ t. sym (and_stops _ (and_stops _ (and_stops _ (fails (c.row_sound.ensures t) (ap not c.if-not-row_sound.true)))))

pub returns-then-not-links_sound : goal.returns-then-not-links_sound
unfolding client_sound
returns-then-not-links_sound c = λ t. sym (and_stops _ (and_stops _ (and_goes_on _ (holds (c.row_sound.ensures t) (ap not c.if-not-row_sound.false)) (fails (c.links_sound.ensures t) (ap not c.if-not-links_sound.true)))))

pub returns-then-not-all_received_sound : goal.returns-then-not-all_received_sound
unfolding client_sound
returns-then-not-all_received_sound c =
    λ t. sym (and_stops _ (and_goes_on _
    (and_goes_on _ (holds (c.row_sound.ensures t) (ap not c.if-not-row_sound.false)) (holds (c.links_sound.ensures t) (ap not c.if-not-links_sound.false)))
    (fails (c.all_received_sound.ensures t) (ap not c.if-not-all_received_sound.true))))

pub returns-then-client_word-eq-IDLE : goal.returns-then-client_word-eq-IDLE
unfolding client_sound
returns-then-client_word-eq-IDLE c =
    λ t. sym (and_goes_on _
    (and_goes_on _ (and_goes_on _ (holds (c.row_sound.ensures t) (ap not c.if-not-row_sound.false)) (holds (c.links_sound.ensures t) (ap not c.if-not-links_sound.false))) (holds (c.all_received_sound.ensures t) (ap not c.if-not-all_received_sound.false)))
    (or_stops _ (is {v = idle} c.client_word.ensures c.if-client_word-eq-IDLE.true)))

pub returns : goal.returns
unfolding client_sound
returns c =
    λ t. sym (and_goes_on _
    (and_goes_on _ (and_goes_on _ (holds (c.row_sound.ensures t) (ap not c.if-not-row_sound.false)) (holds (c.links_sound.ensures t) (ap not c.if-not-links_sound.false))) (holds (c.all_received_sound.ensures t) (ap not c.if-not-all_received_sound.false)))
    (or_goes_on _ (is-not {v = idle} c.client_word.ensures c.if-client_word-eq-IDLE.false) (sym c.is_pending.ensures)))
