-- An answer is its text without servers, and behind that the servers where it shows some.
use Rattle.std.specs.Prelude.{ℕ, ◌+◌, ◌≤◌, ◌≡◌, refl, true, false, List, ◌++◌}
use Rattle.std.proofs.Common.{sym, true≢false, arith}
use Rattle.ranges.specs.Tests.{by-test}
use Rattle.printing.specs.declared.Word.{Word}
use Rattle.printing.specs.declared.Word.TheVariants.{Ok, Wait, Next, Write, Read, No}
use Rattle.printing.specs.Texts.{servers_below, word_text, answer_text}
use Rattle.printing.specs.Sizes.{marked_most}
use Rattle.printing.specs.Plain.{shows_servers, plain_text, plain_answer, plain_room, plain_most}

pub word_plain : (w : Word) (mask : ℕ) (setpoints tags badges : List ℕ) → shows_servers w ≡ false
    → plain_text w ≡ word_text w mask setpoints tags badges
word_plain Ok mask setpoints tags badges h = refl
word_plain Wait mask setpoints tags badges h = refl
word_plain Next mask setpoints tags badges h = refl
word_plain (Write tag) mask setpoints tags badges h = refl
word_plain (Read tag) mask setpoints tags badges h = absurd (true≢false h)
word_plain (No number) mask setpoints tags badges h = refl

pub word-shown : (w : Word) (mask : ℕ) (setpoints tags badges : List ℕ) → shows_servers w ≡ true
    → plain_text w ++ servers_below mask setpoints tags badges 16 ≡ word_text w mask setpoints tags badges
word-shown Ok mask setpoints tags badges h = absurd (true≢false (sym h))
word-shown Wait mask setpoints tags badges h = absurd (true≢false (sym h))
word-shown Next mask setpoints tags badges h = absurd (true≢false (sym h))
word-shown (Write tag) mask setpoints tags badges h = absurd (true≢false (sym h))
word-shown (Read tag) mask setpoints tags badges h = refl
word-shown (No number) mask setpoints tags badges h = absurd (true≢false (sym h))

-- how long it is, by whether it shows servers
module _ (w : Word) (at next : ℕ) (short : next ≤ at + plain_most w) where
  pub shown_short : shows_servers w ≡ true → next ≤ at + (5 + marked_most)
  shown_short h = rw h at short

  pub plain_short : next ≤ at + plain_room
  plain_short = by-test (shows_servers w) (λ e. omega (arith, rw e at short)) (λ e. rw e at short)

pub answer_plain : (number : ℕ) (w : Word) (mask : ℕ) (setpoints tags badges : List ℕ) → shows_servers w ≡ false
    → plain_answer number w ≡ answer_text number w mask setpoints tags badges
answer_plain number w mask setpoints tags badges h = rw (word_plain w mask setpoints tags badges h)
