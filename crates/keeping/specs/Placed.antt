-- A content takes the place of another on one link, and the step counts: a reply takes its request's place, a loss that of either, and a
-- request sent again that of a loss.
use Rattle.std.specs.Prelude.{ℕ, ◌<◌, ◌≡◌, refl, true, get_or}
use Rattle.std.proofs.Common.{arith}
use Rattle.ranges.specs.Tests.{by_equal}
use Rattle.keys.specs.declared.Key.{Key}
use Rattle.keys.specs.Keys.{key_word}
use Rattle.tables.specs.Layout.{last_step, count_at, step_field, entries_field, method_field, reads_field, servers_field, writes_field}
use Rattle.tables.specs.Links.{targets, link_width, content_words}
use Rattle.tables.specs.LinkLaws.{link-length}
use Rattle.tables.specs.Tables.{Tables, clients_of, step_of, state_of, mask_of}
use Rattle.tables.specs.declared.links.Content.{Content}
use Rattle.tables.specs.declared.links.Content.TheVariants.{Lost}
use Rattle.rules.specs.Common.{writing, asking_setpoints, set_request, got_reply}
use Rattle.rules.specs.Request.{answered_by}
use Rattle.soundness.specs.Sound.{uses, request_sound, reply_sound, badge_sound, received_sound}
use Rattle.soundness.specs.Facts.{ClientFacts, LinkFacts, Sound}
use Rattle.soundness.specs.Room.{few_servers, link_row_lem}
use Rattle.keeping.specs.Links.{link_word, kind_on, kind-full, pending_at, put_same, put_other, link-asks, link-request}
use Rattle.keeping.specs.Links.{link-reply, link_lost}
use Rattle.keeping.specs.States.{received_none, none_received, not-empty}
use Rattle.keeping.specs.Moves.{Moves, Anew, moves-numbers, counted_other, counted_step, counted-length}
use Rattle.keeping.specs.Frame.{Numbers, Kept, request-kept, write_kept, read_kept}

-- something stands on the link of client q to target i
module _ (q i : ℕ) (t : Tables) (s : Sound t) (client : q < clients_of t) (target : i < targets) (early : step_of t < last_step)
    (full : kind_on t q i ≡ 0 → ⊥) where
  before : LinkFacts t q i
  before = (s.client q client).link i target

  pub still-used : uses (state_of t q) (mask_of t q) i ≡ true
  still-used = (link-asks t q i before).used full

  module _ (content : Content) where
    abbrev pub after : Tables
    after = (answered_by content q i t).tables

    pub same : (f : ℕ) → (f ≡ step_field → ⊥) → count_at after.counts f ≡ count_at t.counts f
    same f d = counted_other t.counts f d

    pub other : (p j f : ℕ) → ((p ≡ q) × (j ≡ i) → ⊥) → j < targets → f < link_width → link_word after.links p j f ≡ link_word t.links p j f
    other p j f d h l = put_other t.links q i content p j f target h d l

    pub new : (f : ℕ) → f < link_width → link_word after.links q i f ≡ get_or (content_words content) f 0
    new f h = put_same t.links q i content f (link_row_lem t s q client i target) h

    pub placed_moves : Moves q t after
    placed_moves =
        record {
          count = λ f d e g. same f d;
          keys = refl;
          values = refl;
          log = refl;
          row = λ p f d h. refl;
          link = λ p j f d h l. other p j f (λ e. d e.0) h l;
          lengths =
              record {
                counts = counted-length t.counts;
                clients = refl;
                links = link-length t.links q i content;
                keys = refl;
                values = refl;
                log = refl;
                writes = refl;
                reads = refl;
              };
        }

    pub placed-numbers : Numbers t after
    placed-numbers = moves-numbers q t after placed_moves

    -- the link is full, and sound, with what stands on it now
    module _ (linked : LinkFacts after q i) (full' : kind_on after q i ≡ 0 → ⊥) where
      pub placed_received : received_sound after q i ≡ true
      placed_received =
          none_received after q i (not-empty after q i (kind-full after.links q i linked.kind full'))
          (received_none t q i (not-empty t q i (kind-full t.links q i before.kind full)) ((s.client q client).received i target))
