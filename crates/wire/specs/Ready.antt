-- What the functions ask of the tables that they are lent, and that sound tables have it.
use Rattle.std.specs.Prelude.{ℕ, ◌+◌, ◌*◌, ◌≤◌, ◌<◌, ◌≡◌, List, length}
use Rattle.std.proofs.Common.{sym, ap, subst, ◌∙◌}
use Rattle.tables.specs.Rows.{HasRow}
use Rattle.tables.specs.Layout.{count_at, count_words, servers_field, client_width, entry_width, server_places, value_width, value_row}
use Rattle.tables.specs.Links.{link_width, link_row, link_at}
use Rattle.tables.specs.Tables.{Tables, state_of, content_at}
use Rattle.tables.specs.declared.links.Contents.{Contents}
use Rattle.tables.specs.declared.links.Content.TheVariants.{Request, Reply}
use Rattle.tables.specs.declared.links.Link.{Link}
use Rattle.rules.specs.Common.{writing, entering, asking_keys, asking_setpoints, coordinator}

-- the first n entries of the log are there
pub record LogReady (log : List ℕ) (n : ℕ) : Type 0 where
  pub some : 1 ≤ n
  pub few : n ≤ 256
  pub logged : entry_width * n ≤ length log

-- the first n versions of a server are there
pub record AllReady (keys values : List ℕ) (i n : ℕ) : Type 0 where
  pub server : i < 16
  pub few : n ≤ 256
  pub keyed : server_places * i + n ≤ length keys
  pub valued : value_width * value_row i n ≤ length values

pub record EverythingReady (keys values log : List ℕ) (n i : ℕ) : Type 0 where
  pub head : i ≡ coordinator → LogReady log n
  pub server : (i ≡ coordinator → ⊥) → AllReady keys values i n

-- a state that is none of the first four
pub record Later (state : ℕ) : Type 0 where
  pub not-writing : state ≡ writing → ⊥
  pub not-entering : state ≡ entering → ⊥
  pub not-keys : state ≡ asking_keys → ⊥
  pub not_setpoints : state ≡ asking_setpoints → ⊥

-- a request, by the state that sent it: a set request's badge has 16 bits
pub record RequestReady (state : ℕ) (w : Contents) : Type 0 where
  pub set : state ≡ writing → w.badge < 65536

-- a reply, by the state that gets it back: a got reply's badge has 16 bits
pub record ReplyReady (counts keys values log : List ℕ) (state : ℕ) (w : Contents) (i : ℕ) : Type 0 where
  pub counted : count_words ≤ length counts
  pub servers : count_at counts servers_field ≤ 16
  pub entered : state ≡ entering → w.number < 256
  pub keyed : state ≡ asking_keys → LogReady log w.number
  pub got : state ≡ asking_setpoints → w.badge < 65536
  pub everything : Later state → EverythingReady keys values log w.number i

-- a link
pub record LinkReady (q i : ℕ) (t : Tables) : Type 0 where
  pub client : q < 16
  pub target : i < 17
  pub row : HasRow client_width t.clients q
  pub linked : HasRow link_width t.links (link_row q i)
  pub request : (w : Contents) → content_at t q i ≡ Request w → RequestReady (state_of t q) w
  pub reply : (w : Contents) → content_at t q i ≡ Reply w → ReplyReady t.counts t.keys t.values t.log (state_of t q) w i

-- what the request or the reply asks, by what was read of the client's row and the link
module _ (q i : ℕ) (t : Tables) (r : LinkReady q i t) {state : ℕ} {link : Link} (w : Contents) (s : state ≡ state_of t q)
    (l : link ≡ link_at t.links q i) where
  pub request-ready : link.content ≡ Request w → RequestReady state w
  request-ready e = subst (λ (n : ℕ). RequestReady n w) (sym s) (r.request w (ap (λ (k : Link). k.content) (sym l) ∙ e))

  pub reply-ready : link.content ≡ Reply w → ReplyReady t.counts t.keys t.values t.log state w i
  reply-ready e =
      subst (λ (n : ℕ). ReplyReady t.counts t.keys t.values t.log n w i) (sym s)
      (r.reply w (ap (λ (k : Link). k.content) (sym l) ∙ e))
