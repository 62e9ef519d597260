-- Of specs/FileLaws: what cites a theorem there that a changed definition can make fail.
use Rattle.std.specs.Prelude.{◌≡◌, ℕ, ◌-◌, min, List, take}
use Rattle.std.proofs.Math.Path.{sym, ap}
use Rattle.std.proofs.Common.{ap₂, ◌∙◌, length-drop, take_all}
use native.Mathlib.Omega.{arith}
use Rattle.std.proofs.Math.ListN.{length, drop}
use Rattle.ranges.specs.Tests.{by-test}
use Rattle.ranges.specs.Laid.{built}
use Rattle.ranges.specs.LaidLaws.{laid_front}
use Rattle.recordings.specs.Recording.{well_made}
use Rattle.recordings.specs.Comparing.{compared}
use Rattle.recordings.specs.LinkLaws.{compared-refused, compared-refused_other}
use Rattle.recording_files.specs.File.{frames_in, length_at, lengths_in, bytes_in, compared_files}
use Rattle.recording_files.specs.FileLaws.{LengthsRead, Place, most_read, read_one, read_other, same_judgement, well-made-read}

module _ (f g : ℕ → ℕ) (n m : ℕ) (bytes bytes' : List ℕ) where
  pub compared-read :
      compared (built f (min n most_read)) bytes (built g (min m most_read)) bytes' ≡ compared (built f n) bytes (built g m) bytes'
  compared-read =
      by-test (well_made (built f n) bytes)
      (λ t. by-test (well_made (built g m) bytes')
      (λ u. ap₂ (λ (l k : List ℕ). compared l bytes k bytes') (well-made-read f n bytes t) (well-made-read g m bytes' u))
      (λ u.
      sym (compared-refused_other (read_one f g n m bytes bytes') bytes (read_other f g n m bytes bytes') bytes' (same_judgement f n bytes ∙ t) (same_judgement g m bytes' ∙ u))
      ∙ compared-refused_other (built f n) bytes (built g m) bytes' t u))
      (λ t.
      sym (compared-refused (read_one f g n m bytes bytes') bytes (read_other f g n m bytes bytes') bytes' (same_judgement f n bytes ∙ t))
      ∙ compared-refused (built f n) bytes (built g m) bytes' t)

-- the comparison of what was read is that of the files
pub files-read : (file file' before before' : List ℕ) {after after' : List ℕ} {n n' at at' : ℕ}
    → LengthsRead file before after n → LengthsRead file' before' after' n' → Place file at → Place file' at'
    → compared (take n after) (take (length file - at) (drop at file)) (take n' after') (take (length file' - at') (drop at' file'))
    ≡ compared_files file file'
unfolding compared_files lengths_in
files-read file file' before before' {after' = after'} {n = n} {n' = n'} {at = at} {at' = at'} r r' p p' =
    let front = laid_front (length_at file) n before r.stored ∙ ap (built (length_at file)) r.count in
    let front' = laid_front (length_at file') n' before' r'.stored ∙ ap (built (length_at file')) r'.count in
    let back = take_all (length file - at) (drop at file) (omega (arith, length-drop at file)) ∙ p.bytes in
    let back' = take_all (length file' - at') (drop at' file') (omega (arith, length-drop at' file')) ∙ p'.bytes in
    ap₂ (λ (l b : List ℕ). compared l b (take n' after') (take (length file' - at') (drop at' file'))) front back
    ∙ ap₂ (λ (l b : List ℕ). compared (built (length_at file) (min (frames_in file) most_read)) (bytes_in file) l b) front' back'
    ∙ compared-read (length_at file) (length_at file') (frames_in file) (frames_in file') (bytes_in file) (bytes_in file')
