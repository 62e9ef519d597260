-- Document 01's starred cards, one checked table: each with its sentence.
use Rattle.std.specs.Prelude.{ℕ, ◌≡◌, [], ◌∷◌, replicate}
use Rattle.keys.specs.Keys.{key_of}
use Rattle.tables.specs.Tables.{step_of}
use Rattle.coordinator.specs.Latest.{latest_key}
use Rattle.rules.specs.Answer as answer
use Rattle.rules.specs.declared.Arrival.TheVariants as arrival
use Rattle.rules.specs.declared.Delivered.{Delivered}
use Rattle.rules.specs.Choice.{chosen_tag}
use Rattle.refusals.specs.Steps.{open', begin_write, begin_read, deliver_reply}
use Rattle.frames.specs.declared.Message.TheVariants.{Set}
use Rattle.frames.specs.Reading.{Read, Refused}
use Rattle.frames.specs.Frames.{frame_of}
use Rattle.frames.specs.Vectors as frame
use Rattle.vectors.specs.Presses.{blank, opening_setpoints, setpoints_a, badge_a, badge_b, opened, after, busy, overtaken, swapped}
use Rattle.vectors.specs.Presses.{log_of_one, log_of_two, held_without_a}

-- a READ's answer: its tag, the setpoints of servers 0 and 1, and tag and badge of the WRITE that server 0's comes from; 0 where it did not
-- ask. Server 1 is not asked, or shows the opening's, so that its tag and badge are 0 on every card.
abbrev pub shows : ℕ → ℕ → ℕ → ℕ → ℕ → Delivered
shows tag x from badge y =
    record {
      arrival = arrival.Read tag;
      setpoints = x ∷ y ∷ replicate 14 0;
      tags = from ∷ replicate 15 0;
      badges = badge ∷ replicate 15 0;
    }

pub record Cards : Type 0 where
  -- "Kind 1, panel 2, station 3, key (1, 2), 1800 is, in hexadecimal": "The kind 1 bench card … worked out afresh, with badge 0" is
  -- 12 18 09 00 00 00 00 03 84 00
  pub frame-written :
      frame_of (Set 2 3 (key_of 1 2) 0 1800) [] [] []
      ≡ 0x12 ∷ 0x18 ∷ 0x09 ∷ 0x00 ∷ 0x00 ∷ 0x00 ∷ 0x00 ∷ 0x03 ∷ 0x84 ∷ 0x00 ∷ []
  pub frame-read :
      frame.reads (0x12 ∷ 0x18 ∷ 0x09 ∷ 0x00 ∷ 0x00 ∷ 0x00 ∷ 0x00 ∷ 0x03 ∷ 0x84 ∷ 0x00 ∷ []) ≡ Read (Set 2 3 (key_of 1 2) 0 1800)
  -- "Last byte 01: 11."
  pub last_byte_01 : frame.reads (0x12 ∷ 0x18 ∷ 0x09 ∷ 0x00 ∷ 0x00 ∷ 0x00 ∷ 0x00 ∷ 0x03 ∷ 0x84 ∷ 0x01 ∷ []) ≡ Refused 11
  -- "Another 00 behind: 11."
  pub another_00 : frame.reads (0x12 ∷ 0x18 ∷ 0x09 ∷ 0x00 ∷ 0x00 ∷ 0x00 ∷ 0x00 ∷ 0x03 ∷ 0x84 ∷ 0x00 ∷ 0x00 ∷ []) ≡ Refused 11
  -- "No bytes: 10."
  pub no_bytes : frame.reads [] ≡ Refused 10
  -- "Method 1, p 1: 1", and "The bench card for method 1 now has 1 for p 2 as well"
  pub one-client : (open' 1 2 1 opening_setpoints (blank 2)).answer ≡ answer.Refused 1
  pub two_clients : (open' 1 2 2 opening_setpoints (blank 2)).answer ≡ answer.Refused 1
  -- "k 2: mask 4 is 6, mask 3 accepted."
  pub write-mask_4 : (begin_write 0 4 badge_a setpoints_a (opened 2 2)).answer ≡ answer.Refused 6
  pub write-mask_3 : (begin_write 0 3 badge_a setpoints_a (opened 2 2)).answer ≡ answer.Ok
  pub read-mask_4 : (begin_read 0 4 (opened 2 2)).answer ≡ answer.Refused 6
  pub read-mask_3 : (begin_read 0 3 (opened 2 2)).answer ≡ answer.Ok
  -- "Busy panel, mask 0: 5."
  pub write_while-busy : (begin_write 0 0 badge_a setpoints_a busy).answer ≡ answer.Refused 5
  pub read_while-busy : (begin_read 0 0 busy).answer ≡ answer.Refused 5
  -- "Log: opening, then (1, 0) mask 1. Key at tag 1: station 0 (1, 0), station 1 (0, 0)."
  pub key_of-server_0 : latest_key log_of_one 0 1 ≡ key_of 1 0
  pub key_of-server_1 : latest_key log_of_one 1 1 ≡ key_of 0 0
  -- "C, one WRITE to both, station 0 answered before it, station 1 and head after: tag 0."
  -- Every step that leads there is accepted, as the step number tells: the opening and 13 more, and for the next card 12.
  pub overtaken-steps : step_of (after overtaken (opened 3 2)) ≡ 14
  pub overtaken-tag : (deliver_reply 1 16 (after overtaken (opened 3 2))).delivered ≡ shows 0 1200 0 0 30
  -- "C, log a then b, both to station 0, which had the opening and b only: tag 2."
  pub swapped-steps : step_of (after swapped (opened 3 3)) ≡ 13
  pub swapped-tag : (deliver_reply 2 16 (after swapped (opened 3 3))).delivered ≡ shows 2 1500 2 badge_b 0
  -- the same on the choice alone: of the three entries, with two versions received from server 0
  pub swapped_choice : chosen_tag held_without_a log_of_two 1 (λ i. 2) 2 3 ≡ 2
