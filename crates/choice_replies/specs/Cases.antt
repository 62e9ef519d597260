-- The cases of the delivery of a reply to a READ by C, as the code meets them.
use Rattle.std.specs.Prelude.{ℕ, ◌≡◌, Bool, true, false, List, replicate}
use Rattle.std.proofs.Common.{arith}
use Rattle.tables.specs.Layout.{state_field, setpoints_field, badges_field}
use Rattle.tables.specs.Tables.{Tables, tables_of, servers_of, mask_of, record_of}
use Rattle.tables.specs.declared.links.Contents.{Contents}
use Rattle.rules.specs.declared.Arrival.TheVariants.{Wait, Read}
use Rattle.rules.specs.WordsLaws.{shown_other}
use Rattle.rules.specs.Common.{idle, pending}
use Rattle.rules.specs.Reply.{got_number, tag_chosen, concluded, on_all}
use Rattle.reply_parts.specs.declared.Outcome.{Outcome}
use Rattle.reply_parts.specs.Shown.{plainly, ended, Shows, plain-shows, ended-shows}
use Rattle.reply_parts.specs.Settled.{Settled, is-pending}
use Rattle.choice_replies.specs.Ready.{FinishedByC}

-- s is what `settle` left, b whether a link is pending then
module _ (q i : ℕ) (t : Tables) {step : ℕ} {counts links : List ℕ} (s : Settled t.counts t.links q i step counts links) where
  module _ {b : Bool} (p : b ≡ pending links q) where
    -- state 5; the number is put
    module _ (w : Contents) {clients : List ℕ} (g : clients ≡ got_number w q i t) where
      pub all-waits : (tags : List ℕ) {o : Outcome} → b ≡ true → o ≡ plainly Wait → tags ≡ replicate 16 0 →
          Shows (on_all w q i t) o tags q (tables_of counts clients links t.keys t.values t.log t.writes t.reads)
      unfolding on_all
      all-waits tags e f z = plain-shows tags q f z (rw (is-pending q i t s p e, g, s.counted', s.emptied))

      -- the state is no part of what is shown
      pub all-ends : {tags clients' reads : List ℕ} {mask place k tag : ℕ} → b ≡ false → mask ≡ mask_of t q → place ≡ record_of t q →
          k ≡ servers_of t →
          FinishedByC clients t.keys t.values t.log t.reads q mask k place step tag tags clients' reads →
          Shows (on_all w q i t) (ended (Read tag) mask) tags q
          (tables_of counts clients' links t.keys t.values t.log t.writes reads)
      unfolding on_all
      all-ends {tags} {mask = mask} {tag = tag} e m p' h f =
          let row = concluded (tag_chosen (got_number w q i t) q t) (got_number w q i t) q t in
          ended-shows tags q (Read tag) mask (rw (
            is-pending q i t s p e,
            f.chosen,
            f.shown,
            f.idled,
            f.recorded,
            g,
            m,
            p',
            h,
            shown_other setpoints_field row q state_field idle (mask_of t q) (omega arith) (omega arith),
            shown_other badges_field row q state_field idle (mask_of t q) (omega arith) (omega arith),
            s.stepped,
            s.counted',
            s.emptied,
          ))
