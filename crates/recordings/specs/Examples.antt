-- Recordings compared by hand. Frames of two bytes: kind, panel; target and three zero bits. A station's *set done* is kind 2, a *get all*
-- kind 9; *which keys* to the head is kind 5, a *get log* 11.
use Rattle.std.specs.Prelude.{◌≡◌, refl, ℕ, List, [], ◌∷◌}
use Rattle.recordings.specs.Compared.{Agree, Differ, Refused}
use Rattle.fields.specs.Bits.{bit_of, bit_at, field_at}
use Rattle.formats.specs.Grammar.{ahead, judged, ended, read}
use Rattle.frame_table.specs.Table.{sort_at, bits_of, least_of, most_of, entries_in}
use Rattle.formats.specs.Format.{field_of, within, left_after, place_after, next_of, entries, fixed, format}
use Rattle.recordings.specs.Recording.{frames_of, total, broken, all_readable, well_made, is_on}
use Rattle.recordings.specs.Comparing.{frames_on, same, further, first_difference, difference_on, or_else, from_link, compared}

-- two frames, and three
abbrev two : List ℕ
two = 2 ∷ 2 ∷ []

abbrev three : List ℕ
three = 2 ∷ 2 ∷ 2 ∷ []

pub record Examples : Type 0 where
  -- nothing was recorded, twice; and nothing beside one frame
  pub empty : compared [] [] [] [] ≡ Agree
  pub missing : compared [] [] (2 ∷ []) (0x23 ∷ 0x28 ∷ []) ≡ Differ 3 5 0
  -- the kind 1 card of panel 2 and station 3, beside itself, and with another setpoint
  pub card : compared (10 ∷ []) (0x12 ∷ 0x18 ∷ 0x09 ∷ 0 ∷ 0 ∷ 0 ∷ 0 ∷ 3 ∷ 0x84 ∷ 0 ∷ [])
      (10 ∷ []) (0x12 ∷ 0x18 ∷ 0x09 ∷ 0 ∷ 0 ∷ 0 ∷ 0 ∷ 3 ∷ 0x84 ∷ 0x80 ∷ []) ≡ Differ 2 3 0
  -- frames of different links crossed; frames of one link swapped
  pub crossed : compared two (0x20 ∷ 0x00 ∷ 0x20 ∷ 0x08 ∷ []) two (0x20 ∷ 0x08 ∷ 0x20 ∷ 0x00 ∷ []) ≡ Agree
  pub swapped : compared two (0x20 ∷ 0x00 ∷ 0x90 ∷ 0x00 ∷ []) two (0x90 ∷ 0x00 ∷ 0x20 ∷ 0x00 ∷ []) ≡ Differ 0 0 0
  -- the place counts on the link: the third frame of the recording is the second of panel 0 and station 0
  pub on_the-link : compared three (0x20 ∷ 0x08 ∷ 0x20 ∷ 0x00 ∷ 0x20 ∷ 0x00 ∷ [])
      three (0x20 ∷ 0x08 ∷ 0x20 ∷ 0x00 ∷ 0x90 ∷ 0x00 ∷ []) ≡ Differ 0 0 1
  -- a frame missing at the end of either
  pub cut_short : compared three (0x20 ∷ 0x00 ∷ 0x20 ∷ 0x08 ∷ 0x20 ∷ 0x08 ∷ []) two (0x20 ∷ 0x00 ∷ 0x20 ∷ 0x08 ∷ []) ≡ Differ 0 1 1
  pub cut_short_other : compared two (0x20 ∷ 0x00 ∷ 0x20 ∷ 0x08 ∷ []) three (0x20 ∷ 0x00 ∷ 0x20 ∷ 0x08 ∷ 0x20 ∷ 0x08 ∷ []) ≡ Differ 0 1 1
  -- panel 0 and the head come before panel 1 and station 0
  pub panel-first : compared two (0x21 ∷ 0x00 ∷ 0x50 ∷ 0x80 ∷ []) two (0x91 ∷ 0x00 ∷ 0xb0 ∷ 0x80 ∷ []) ≡ Differ 0 16 0
  -- 16: a frame of no bytes, a length beyond the bytes, bytes left over, a kind that is none, in either, and whatever the other
  pub no_bytes : compared (0 ∷ []) [] [] [] ≡ Refused 16
  pub beyond : compared [] [] (3 ∷ []) (0x20 ∷ 0x00 ∷ []) ≡ Refused 16
  pub left_over : compared (2 ∷ []) (0x20 ∷ 0x00 ∷ 0x00 ∷ []) (2 ∷ []) (0x20 ∷ 0x00 ∷ []) ≡ Refused 16
  pub no_kind : compared (2 ∷ []) (0x20 ∷ 0x00 ∷ []) two (0x20 ∷ 0x08 ∷ 0xd0 ∷ 0x00 ∷ []) ≡ Refused 16

pub examples : Examples
unfolding bit_of bit_at field_at ahead judged ended read sort_at bits_of least_of most_of entries_in field_of within left_after place_after next_of
    entries fixed format frames_of total broken all_readable well_made is_on frames_on same further first_difference difference_on or_else
    from_link compared
examples =
    record {
      empty = refl;
      missing = refl;
      card = refl;
      crossed = refl;
      swapped = refl;
      on_the-link = refl;
      cut_short = refl;
      cut_short_other = refl;
      panel-first = refl;
      no_bytes = refl;
      beyond = refl;
      left_over = refl;
      no_kind = refl;
    }
