-- The cases of the delivery of a reply to a WRITE, as the code meets them.
use Rattle.std.specs.Prelude.{ℕ, ◌≡◌, Bool, true, false, List}
use Rattle.keys.specs.Keys.{key_of}
use Rattle.tables.specs.Layout.{put_client_word, state_field, tag_field}
use Rattle.tables.specs.Links.{put_link}
use Rattle.tables.specs.Tables.{Tables, tables_of, count_of, mask_of, record_of}
use Rattle.tables.specs.declared.links.Contents.{Contents}
use Rattle.rules.specs.declared.Arrival.{Arrival}
use Rattle.rules.specs.declared.Arrival.TheVariants.{Wait, Next, Write}
use Rattle.rules.specs.Common.{idle, entering, coordinator, request, pending, ended_record}
use Rattle.rules.specs.Reply.{said, on_set_done, on_entered}
use Rattle.reply_parts.specs.Settled.{Settled, is-pending}

-- s is what `settle` left, b whether a link is pending then
module _ (q i : ℕ) (t : Tables) {step : ℕ} {counts links : List ℕ} (s : Settled t.counts t.links q i step counts links) where
  module _ {b : Bool} (p : b ≡ pending links q) where
    -- state 1
    pub set-waits : b ≡ true →
        said Wait (tables_of counts t.clients links t.keys t.values t.log t.writes t.reads) ≡ on_set_done q i t
    unfolding on_set_done
    set-waits e = rw (is-pending q i t s p e, s.counted', s.emptied)

    pub set-enters : {clients links' : List ℕ} → b ≡ false → clients ≡ put_client_word t.clients q state_field entering →
        links' ≡ put_link links q coordinator (request (key_of (count_of t q) q) (mask_of t q)) →
        said Next (tables_of counts clients links' t.keys t.values t.log t.writes t.reads) ≡ on_set_done q i t
    unfolding on_set_done
    set-enters e c l = rw (is-pending q i t s p e, c, l, s.counted', s.emptied)

  -- state 2
  pub write-ends : (w : Contents) {a : Arrival} {clients writes : List ℕ} {place : ℕ} → a ≡ Write w.number → place ≡ record_of t q →
      clients ≡ put_client_word (put_client_word t.clients q tag_field w.number) q state_field idle →
      writes ≡ ended_record place step t.writes →
      said a (tables_of counts clients links t.keys t.values t.log writes t.reads) ≡ on_entered w q i t
  unfolding on_entered
  write-ends w e p c r = rw (e, c, r, p, s.stepped, s.counted', s.emptied)
