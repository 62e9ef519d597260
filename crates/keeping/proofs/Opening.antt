-- Of specs/Opening: what cites a theorem there that a changed definition can make fail.
use Rattle.std.specs.Prelude.{ℕ, ◌+◌, ◌*◌, ◌^◌, ◌≤◌, ◌<◌, ◌≡◌, refl, true, List, [], ◌∷◌, get_or, length}
use Rattle.std.proofs.Common.{sym, ◌∙◌, zero-add, length-set, get_or-set_same, get_or-set_other, pow_mono}
use native.Mathlib.Omega.{arith}
use Rattle.std.proofs.lemmas.List.{length-replicate}
use Rattle.std.proofs.lemmas.List.Edits.{sets}
use Rattle.std.proofs.Math.Seq.{length-sets}
use Rattle.ranges.specs.SumLaws.{sum-nothing, count-zero}
use Rattle.ranges.specs.Turns.{turns, turns_keep}
use Rattle.ranges.specs.PickedLaws.{is-picked}
use Rattle.ranges.specs.Words.{zeros}
use Rattle.keys.specs.Masks.{Within}
use Rattle.tables.specs.Rows.{word_at, HasRow, word_same, word_other, word-length, row_same, row-length, sets_at, sets_behind}
use Rattle.tables.specs.Layout.{count_words, client_width, client_word, server_places, version_word, put_version_word, value_width, value_row}
use Rattle.tables.specs.Layout.{version_badge}
use Rattle.tables.specs.Layout.{version_setpoint, held_field, entry_width, entry_mask, clients_field, count_field, entries_field, mask_field}
use Rattle.tables.specs.Layout.{method_field}
use Rattle.tables.specs.Layout.{reads_field, received_field, servers_field, state_field, step_field, tag_field, writes_field, tags_field}
use Rattle.tables.specs.Layout.{badges_field, write_badge_field}
use Rattle.tables.specs.Values.{value_other, value-length}
use Rattle.tables.specs.Tables.{Tables, method_of, servers_of, clients_of, step_of, entries_of, writes_of, reads_of, held_of, count_of}
use Rattle.tables.specs.Links.{link_width, link_row}
use Rattle.rules.specs.Open.{cleared, hold_one, opened_counts, open_value, all_servers, opened}
use Rattle.soundness.specs.Sound.{key_in_range, is_open}
use Rattle.soundness.specs.Facts.{Long, Press, ServerFacts, LogFacts, ClientFacts, facts-none, Sound}
use Rattle.keeping.specs.Accepted.{Openable}
use Rattle.keeping.specs.Links.{link_word}
use Rattle.keeping.specs.States.{asks_none}
use Rattle.keeping.specs.Rounds.{idle-client}
use Rattle.keeping.specs.Opening.{opened-words, opened_facts}

-- "Open" on tables that are long enough, accepted, leaves sound tables.
pub opened-sound : (m k p : ℕ) (setpoints : List ℕ) (t : Tables) → Openable m k p setpoints t → Sound (opened m k p setpoints t)
opened-sound m k p setpoints t a =
    opened_facts m k p setpoints (opened m k p setpoints t) a.press (opened-words m k p setpoints t a)
