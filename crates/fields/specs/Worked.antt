-- Fields of the kind 1 card, 12 18 09 00 00 00 00 03 84 00, followed byte by byte, and what writing leaves.
use Rattle.std.specs.Prelude.{◌≡◌, refl, ℕ, List, [], ◌∷◌}
use Rattle.fields.specs.Parts.{part_at, with_part, put_part, up_to, field_by_bytes, put_up_to, put_by_bytes}

abbrev frame : List ℕ
frame = 0x12 ∷ 0x18 ∷ 0x09 ∷ 0x00 ∷ 0x00 ∷ 0x00 ∷ 0x00 ∷ 0x03 ∷ 0x84 ∷ 0x00 ∷ []

abbrev ones : List ℕ
ones = 0xff ∷ 0xff ∷ 0xff ∷ 0xff ∷ 0xff ∷ []

pub record Worked : Type 0 where
  -- kind, bits 0 to 3: 12 without its last 4 bits; panel, to the edge of the byte: 12 % 16; station, bits 8 to 12: 18 without its last 3
  pub kind : field_by_bytes frame 0 4 ≡ 1
  pub panel : field_by_bytes frame 4 4 ≡ 2
  pub station : field_by_bytes frame 8 5 ≡ 3
  -- count, bits 13 to 20, in two bytes: 18 % 8 is 0, and of 09 the first 5 bits: 0 * 32 + 9 / 8
  pub count : field_by_bytes frame 13 8 ≡ 1
  -- badge, bits 25 to 40, in three bytes
  pub badge : field_by_bytes frame 25 16 ≡ 0
  -- setpoint, bits 41 to 72, in five bytes: 00 % 128, then 00, 03 and 84 make 900; of the last 00 the first bit: 900 * 2 + 0
  pub ahead_of_the-last : up_to frame 5 7 3 ≡ 900
  pub setpoint : field_by_bytes frame 41 32 ≡ 1800
  -- a field of several bytes to the edge of the last: 09, 00, 00, 00 from its bit 4 on
  pub to_the_edge : field_by_bytes frame 20 28 ≡ 0x9000000
  -- no bits; bits behind the end
  pub nothing : field_by_bytes frame 13 0 ≡ 0
  pub behind_the-end : field_by_bytes (0xff ∷ []) 4 8 ≡ 0xf0
  -- the bits before and behind the field stay: in one byte, in five, to the edge of a byte, nowhere
  pub put_in_a_byte : put_by_bytes ones 2 4 0 ≡ 0xc3 ∷ 0xff ∷ 0xff ∷ 0xff ∷ 0xff ∷ []
  pub put_in_five : put_by_bytes ones 1 32 0x12345678 ≡ 0x89 ∷ 0x1a ∷ 0x2b ∷ 0x3c ∷ 0x7f ∷ []
  pub put_to_the_edge : put_by_bytes ones 4 12 0x123 ≡ 0xf1 ∷ 0x23 ∷ 0xff ∷ 0xff ∷ 0xff ∷ []
  pub put-nothing : put_by_bytes ones 40 0 7 ≡ ones

pub worked : Worked
unfolding part_at with_part put_part up_to field_by_bytes put_up_to put_by_bytes
worked =
    record {
      kind = refl;
      panel = refl;
      station = refl;
      count = refl;
      badge = refl;
      ahead_of_the-last = refl;
      setpoint = refl;
      to_the_edge = refl;
      nothing = refl;
      behind_the-end = refl;
      put_in_a_byte = refl;
      put_in_five = refl;
      put_to_the_edge = refl;
      put-nothing = refl;
    }
