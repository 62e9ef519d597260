-- The cases of what is written, as the code meets them.
use Rattle.std.specs.Prelude.{ℕ, ◌+◌, ◌-◌, ◌*◌, ◌≤◌, ◌<◌, ◌≡◌, Bool, true, not, List, [], length, get_or, take, drop}
use Rattle.std.proofs.Common.{sym, ◌∙◌, arith, length-drop, get_or-drop}
use Rattle.std.proofs.Math.Path.{ap}
use borrow.Author.Tests.{eq-eqb, ne_eqb, le-leb, lt-leb}
use Rattle.tables.specs.Layout.{server_places, version_word}
use Rattle.tables.specs.Links.{link_at}
use Rattle.tables.specs.Tables.{Tables, servers_of, clients_of, state_of, content_at}
use Rattle.tables.specs.declared.links.Contents.{Contents}
use Rattle.tables.specs.declared.links.Content.{Content}
use Rattle.tables.specs.declared.links.Content.TheVariants.{Nothing, Request, Reply, Lost}
use Rattle.tables.specs.declared.links.Link.{Link}
use Rattle.coordinator.specs.Latest.{latest_word, latest_tag_at}
use Rattle.rules.specs.Common.{writing, entering, asking_keys, asking_setpoints, coordinator}
use Rattle.refusals.specs.Refusals.{is_target}
use Rattle.frames.specs.declared.Message.{Message}
use Rattle.frames.specs.declared.Message.TheVariants.{Set, SetDone, Enter, Entered, WhichKeys, Keys, Get, Got, GetAll, GetLog}
use Rattle.frames.specs.Written.{Written}
use Rattle.frames.specs.Frames.{written_of, bytes_written}
use Rattle.ranges.specs.Laid.{built}
use Rattle.ranges.specs.LaidLaws.{built-same, built-take}
use Rattle.wire.specs.OnLink.{OnLink, empty, carries, alone, request_in, keys_reply, all_reply, log_reply, everything_reply, reply_in, on_link_by, on_link}
use Rattle.wire.specs.Sending.{Sent, sent, refused, is_absent}

-- what `frames` leaves of a message and its entries: it may refuse by 11 besides
unfoldable pub wrote_from : OnLink → List ℕ → Sent
wrote_from empty bytes = refused 9 bytes
wrote_from (carries m keys badges numbers) bytes = sent (written_of m keys badges numbers bytes) (bytes_written m keys badges numbers bytes)

-- the writer of `frames` was lent these entries
pub wrote :
    (m : Message) {keys badges numbers keys' badges' numbers' : List ℕ} (bytes : List ℕ) {r : Written} {after : List ℕ}
    → keys' ≡ keys → badges' ≡ badges → numbers' ≡ numbers
    → (r ≡ written_of m keys' badges' numbers' bytes) × (after ≡ bytes_written m keys' badges' numbers' bytes)
    → sent r after ≡ wrote_from (carries m keys badges numbers) bytes
unfolding wrote_from
wrote m bytes d b f e =
    (λ i. sent (e.0 i) (e.1 i)) ∙ (λ i. sent (written_of m (d i) (b i) (f i) bytes) (bytes_written m (d i) (b i) (f i) bytes))

-- ---- the message of a request

module _ (state : ℕ) (w : Contents) (q i : ℕ) where
  pub request-set : state ≡ writing → Set q i w.key w.badge w.number ≡ request_in state w q i
  unfolding request_in
  request-set e = rw (eq-eqb state writing e)

  module _ (d : state ≡ writing → ⊥) where
    pub request-enter : state ≡ entering → Enter q w.key w.number ≡ request_in state w q i
    unfolding request_in
    request-enter e = rw (ne_eqb state writing d, eq-eqb state entering e)

    module _ (f : state ≡ entering → ⊥) where
      pub request-keys : state ≡ asking_keys → WhichKeys q ≡ request_in state w q i
      unfolding request_in
      request-keys e = rw (ne_eqb state writing d, ne_eqb state entering f, eq-eqb state asking_keys e)

      module _ (g : state ≡ asking_keys → ⊥) where
        pub request-get : state ≡ asking_setpoints → Get q i w.key ≡ request_in state w q i
        unfolding request_in
        request-get e = rw (ne_eqb state writing d, ne_eqb state entering f, ne_eqb state asking_keys g, eq-eqb state asking_setpoints e)

        module _ (h : state ≡ asking_setpoints → ⊥) where
          pub request-log : i ≡ coordinator → GetLog q ≡ request_in state w q i
          unfolding request_in
          request-log e = rw (ne_eqb state writing d, ne_eqb state entering f, ne_eqb state asking_keys g, ne_eqb state asking_setpoints h, eq-eqb i coordinator e)

          pub request-all : (i ≡ coordinator → ⊥) → GetAll q i ≡ request_in state w q i
          unfolding request_in
          request-all e = rw (ne_eqb state writing d, ne_eqb state entering f, ne_eqb state asking_keys g, ne_eqb state asking_setpoints h, ne_eqb i coordinator e)

-- ---- the entries that the code lends

-- the keys of a server's first versions
pub versions-part : (words : List ℕ) (i n : ℕ) {at many : ℕ} → server_places * i + n ≤ length words → at ≡ server_places * i → many ≡ n → take many (drop at words) ≡ built (version_word words i) n
versions-part words i n h d e =
    let first = server_places * i in
    (λ j. take (e j) (drop (d j) words))
    ∙ sym (built-take (drop first words) n (omega (arith, length-drop first words)))
    ∙ built-same (λ j. get_or (drop first words) j 0) (version_word words i) n (λ j l. get_or-drop first words j 0)

-- ---- the replies

-- the keys and their tags at a tag of the log
abbrev keys_at : ℕ → ℕ → List ℕ → ℕ → OnLink
keys_at q k log tag = carries (Keys q tag k) (built (latest_word log tag) k) [] (built (latest_tag_at log tag) k)

-- the tag is the last of n entries
pub last-keys : (n q k : ℕ) (log bytes : List ℕ) {tag : ℕ} {x : Sent} →
    tag ≡ n - 1 → x ≡ wrote_from (keys_at q k log tag) bytes → x ≡ wrote_from (keys_reply n q k log) bytes
last-keys n q k log bytes e o = o ∙ ap (λ (tag : ℕ). wrote_from (keys_at q k log tag) bytes) e

module _ (n q i : ℕ) (keys values log bytes : List ℕ) {x : Sent} where
  pub from-head : i ≡ coordinator → x ≡ wrote_from (log_reply n q log) bytes → x ≡ wrote_from (everything_reply n q i keys values log) bytes
  from-head e d = rw (eq-eqb i coordinator e) d

  pub from-server : (i ≡ coordinator → ⊥) → x ≡ wrote_from (all_reply n q i keys values) bytes → x ≡ wrote_from (everything_reply n q i keys values log) bytes
  from-server e d = rw (ne_eqb i coordinator e) d

module _ (state : ℕ) (w : Contents) (q i : ℕ) (t : Tables) (bytes : List ℕ) {x : Sent} where
  pub reply_done : state ≡ writing → x ≡ wrote_from (alone (SetDone q i)) bytes → x ≡ wrote_from (reply_in state w q i t) bytes
  unfolding reply_in
  reply_done e o = rw (eq-eqb state writing e) o

  module _ (d : state ≡ writing → ⊥) where
    pub reply-entered :
        state ≡ entering → x ≡ wrote_from (alone (Entered q w.number)) bytes → x ≡ wrote_from (reply_in state w q i t) bytes
    unfolding reply_in
    reply-entered e o = rw (ne_eqb state writing d, eq-eqb state entering e) o

    module _ (f : state ≡ entering → ⊥) where
      pub reply-keys :
          {k : ℕ} → k ≡ servers_of t → state ≡ asking_keys → x ≡ wrote_from (keys_reply w.number q k t.log) bytes
          → x ≡ wrote_from (reply_in state w q i t) bytes
      unfolding reply_in
      reply-keys s e o =
          rw (ne_eqb state writing d, ne_eqb state entering f, eq-eqb state asking_keys e)
          (o ∙ ap (λ (k : ℕ). wrote_from (keys_reply w.number q k t.log) bytes) s)

      module _ (g : state ≡ asking_keys → ⊥) where
        pub reply-got :
            state ≡ asking_setpoints → x ≡ wrote_from (alone (Got q i w.badge w.number)) bytes
            → x ≡ wrote_from (reply_in state w q i t) bytes
        unfolding reply_in
        reply-got e o = rw (ne_eqb state writing d, ne_eqb state entering f, ne_eqb state asking_keys g, eq-eqb state asking_setpoints e) o

        pub reply_everything :
            (state ≡ asking_setpoints → ⊥) → x ≡ wrote_from (everything_reply w.number q i t.keys t.values t.log) bytes
            → x ≡ wrote_from (reply_in state w q i t) bytes
        unfolding reply_in
        reply_everything e o =
            rw (ne_eqb state writing d, ne_eqb state entering f, ne_eqb state asking_keys g, ne_eqb state asking_setpoints e) o

-- ---- the link

module _ (q i : ℕ) (t : Tables) (bytes : List ℕ) {link : Link} (l : link ≡ link_at t.links q i) where
  held : {c : Content} → link.content ≡ c → content_at t q i ≡ c
  held e = ap (λ (k : Link). k.content) (sym l) ∙ e

  pub link-empty : link.content ≡ Nothing → refused 9 bytes ≡ wrote_from (on_link q i t) bytes
  unfolding on_link wrote_from
  link-empty e = rw (held e)

  pub link_lost : link.content ≡ Lost → refused 9 bytes ≡ wrote_from (on_link q i t) bytes
  unfolding on_link wrote_from
  link_lost e = rw (held e)

  pub link-request : (w : Contents) {state : ℕ} {m : Message} {x : Sent} → link.content ≡ Request w → state ≡ state_of t q → m ≡ request_in state w q i → x ≡ wrote_from (alone m) bytes → x ≡ wrote_from (on_link q i t) bytes
  unfolding on_link
  link-request w e s d o = o ∙ ap (λ (m : Message). wrote_from (alone m) bytes) (d ∙ ap (λ (state : ℕ). request_in state w q i) s) ∙ ap (λ (c : Content). wrote_from (on_link_by c q i t) bytes) (sym (held e))

  pub link-reply :
      (w : Contents) {state : ℕ} {x : Sent}
      → link.content ≡ Reply w → state ≡ state_of t q → x ≡ wrote_from (reply_in state w q i t) bytes → x ≡ wrote_from (on_link q i t) bytes
  unfolding on_link
  link-reply w e s o =
      o ∙ ap (λ (state : ℕ). wrote_from (reply_in state w q i t) bytes) s
      ∙ ap (λ (c : Content). wrote_from (on_link_by c q i t) bytes) (sym (held e))

-- ---- who is there

module _ (q i : ℕ) (t : Tables) {n : ℕ} (d : n ≡ clients_of t) where
  pub absent-client : n ≤ q → true ≡ is_absent q i t
  absent-client h = rw (← d, le-leb n q h)

  pub absent-target : {b : Bool} → q < n → b ≡ is_target t i → not b ≡ is_absent q i t
  absent-target h e = rw (← d, lt-leb n q h) (ap not e)
