-- A number that is the answer's, beside what the lent slice holds, is what the call leaves in numbers.
use Rattle.std.specs.Prelude.{ℕ, ◌≡◌, List}
use Rattle.std.proofs.Common.{◌∙◌, ap}
use Rattle.frames.specs.Written.{Written}
use Rattle.listing.specs.Listed.{Listed}
use Rattle.listing.specs.Register.{Listing, listing}
use Rattle.wire.specs.Sending.{Sent, sent}
use Rattle.wire_exports.specs.Numbers.{written_number, listed_number, numbered, frame_numbered, list_numbered}

pub framed : {n : ℕ} {w : Written} {bytes : List ℕ} {s : Sent} → n ≡ written_number w → sent w bytes ≡ s → numbered n bytes ≡ frame_numbered s
framed {bytes = bytes} same leaves = ap (λ m. numbered m bytes) same ∙ ap frame_numbered leaves

pub listed_so : {n : ℕ} {l : Listed} {list : List ℕ} {x : Listing} →
    n ≡ listed_number l → listing l list ≡ x → numbered n list ≡ list_numbered x
listed_so {list = list} same leaves = ap (λ m. numbered m list) same ∙ ap list_numbered leaves
