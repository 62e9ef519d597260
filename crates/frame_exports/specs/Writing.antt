-- What writing a frame answers and leaves, for any number as the kind.
use Rattle.std.specs.Prelude.{ℕ, ◌≡◌, Bool, false, cond, not, ◌&&◌, List, eqb, leb}
use Rattle.std.proofs.Common.{eq-eqb, ne_eqb}
use Rattle.keys.specs.Keys.{key_of}
use Rattle.frames.specs.declared.Fixed.{Fixed}
use Rattle.frames.specs.Messages.{message_at}
use Rattle.frames.specs.Frames.{written_of, bytes_written}
use Rattle.frame_exports.specs.Numbers.{refused_number, written_number}

-- what is fixed in a message, from its numbers
abbrev pub fixed_from : ℕ → ℕ → ℕ → ℕ → ℕ → ℕ → ℕ → ℕ → Fixed
fixed_from client server tag count owner badge number entries =
    record {
      client = client;
      server = server;
      tag = tag;
      key = key_of count owner;
      badge = badge;
      number = number;
      entries = entries;
    }

-- the kinds are 1 to 12
abbrev pub is_kind : ℕ → Bool
is_kind kind = not (eqb kind 0) && leb kind 12

module _ (kind : ℕ) where
  pub no_kind : kind ≡ 0 → false ≡ is_kind kind
  no_kind e = rw (eq-eqb kind 0 e)

  pub up_to_12 : (kind ≡ 0 → ⊥) → leb kind 12 ≡ is_kind kind
  up_to_12 d = rw (ne_eqb kind 0 d)

-- 11 "message not writable": a number that is no kind names no message, and the bytes are as before
abbrev pub frame_answer : ℕ → Fixed → List ℕ → List ℕ → List ℕ → List ℕ → ℕ
frame_answer kind f keys badges numbers bytes =
    cond (is_kind kind) (written_number (written_of (message_at kind f) keys badges numbers bytes)) (refused_number 11)

abbrev pub frame_left : ℕ → Fixed → List ℕ → List ℕ → List ℕ → List ℕ → List ℕ
frame_left kind f keys badges numbers bytes = cond (is_kind kind) (bytes_written (message_at kind f) keys badges numbers bytes) bytes
