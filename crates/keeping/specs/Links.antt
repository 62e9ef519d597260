-- A link by its four words: what it holds, and what soundness asks of it.
use Rattle.std.specs.Prelude.{ℕ, ◌≤◌, ◌<◌, ◌≡◌, Bool, false, not, ◌&&◌, List}
use Rattle.std.proofs.Common.{sym, ◌∙◌, ap, arith}
use Rattle.std.proofs.Math.Bool.{true}
use Rattle.ranges.specs.Tests.{by_equal, both, both_left, both_right, not-both}
use Rattle.ranges.specs.AllLaws.{any_at, any_same}
use Rattle.tables.specs.Links.{targets, link_width, link_at, is_empty, contents_of}
pub use Rattle.tables.specs.Links.{link_word}
pub use Rattle.tables.specs.LinkLaws.{put_same, put_other, put_beside}
use Rattle.tables.specs.Tables.{Tables, state_of, mask_of, content_at}
use Rattle.tables.specs.declared.links.Contents.{Contents}
use Rattle.tables.specs.declared.links.Content.{Content}
use Rattle.tables.specs.declared.links.Content.TheVariants.{Nothing, Request, Reply, Lost}
use Rattle.tables.specs.declared.links.Link.{Link}
use Rattle.rules.specs.Common.{writing, asking_setpoints, filled, pending}
use Rattle.soundness.specs.Sound.{uses, request_sound, reply_sound, badge_sound, key_on, content_sound}
use Rattle.soundness.specs.Facts.{LinkFacts}

abbrev pub kind_on : Tables → ℕ → ℕ → ℕ
kind_on t q i = link_word t.links q i 0

abbrev pub number_on : Tables → ℕ → ℕ → ℕ
number_on t q i = link_word t.links q i 2

abbrev pub badge_on : Tables → ℕ → ℕ → ℕ
badge_on t q i = link_word t.links q i 3

-- all that it carries
abbrev pub contents_on : Tables → ℕ → ℕ → Contents
contents_on t q i = contents_of (key_on t q i) (number_on t q i) (badge_on t q i)

-- two links of the same words hold the same
pub link-same_words : (links links' : List ℕ) (q i : ℕ) → ((f : ℕ) → f < link_width → link_word links' q i f ≡ link_word links q i f) → link_at links' q i ≡ link_at links q i
unfolding link_at
link-same_words links links' q i h = rw (h 0 (omega arith), h 1 (omega arith), h 2 (omega arith), h 3 (omega arith))

pub empty-same_words : (links links' : List ℕ) (q i : ℕ) → ((f : ℕ) → f < link_width → link_word links' q i f ≡ link_word links q i f) → is_empty (link_at links' q i).content ≡ is_empty (link_at links q i).content
empty-same_words links links' q i h = ap (λ (x : Link). is_empty x.content) (link-same_words links links' q i h)

-- what a link holds goes by its kind
abbrev is_request : Content → Bool
is_request Nothing = false
is_request (Request w) = true
is_request (Reply w) = false
is_request Lost = false

abbrev is_reply : Content → Bool
is_reply Nothing = false
is_reply (Request w) = false
is_reply (Reply w) = true
is_reply Lost = false

abbrev is_lost : Content → Bool
is_lost Nothing = false
is_lost (Request w) = false
is_lost (Reply w) = false
is_lost Lost = true

abbrev carried : Contents → Content → Contents
carried d Nothing = d
carried d (Request w) = w
carried d (Reply w) = w
carried d Lost = d

module _ (links : List ℕ) (q i : ℕ) where
  abbrev words : Contents
  words = contents_of (link_word links q i 1) (link_word links q i 2) (link_word links q i 3)

  pub at-nothing : link_word links q i 0 ≡ 0 → (link_at links q i).content ≡ Nothing
  unfolding link_at
  at-nothing e = rw e

  pub at-request : link_word links q i 0 ≡ 1 → (link_at links q i).content ≡ Request words
  unfolding link_at
  at-request e = rw e

  pub at-reply : link_word links q i 0 ≡ 2 → (link_at links q i).content ≡ Reply words
  unfolding link_at
  at-reply e = rw e

  pub at-lost : link_word links q i 0 ≡ 3 → (link_at links q i).content ≡ Lost
  unfolding link_at
  at-lost e = rw e

  -- the kind of what is held
  kind_by : {C : Type 0} → link_word links q i 0 ≤ 3 → (link_word links q i 0 ≡ 0 → C) → (link_word links q i 0 ≡ 1 → C) →
      (link_word links q i 0 ≡ 2 → C) → (link_word links q i 0 ≡ 3 → C) → C
  kind_by h a b c d =
      let kind = link_word links q i 0 in
      by_equal kind 0 a (λ na. by_equal kind 1 b (λ nb. by_equal kind 2 c (λ nc. d (omega arith))))

  pub request-kind : (w : Contents) → link_word links q i 0 ≤ 3 → (link_at links q i).content ≡ Request w → link_word links q i 0 ≡ 1
  request-kind w h e =
      kind_by h
      (λ k. absurd (not-both (ap is_request e) (ap is_request (at-nothing k))))
      (λ k. k)
      (λ k. absurd (not-both (ap is_request e) (ap is_request (at-reply k))))
      (λ k. absurd (not-both (ap is_request e) (ap is_request (at-lost k))))

  pub request-words : (w : Contents) → link_word links q i 0 ≤ 3 → (link_at links q i).content ≡ Request w → words ≡ w
  request-words w h e = sym (ap (carried w) (at-request (request-kind w h e))) ∙ ap (carried w) e

  pub reply-kind : (w : Contents) → link_word links q i 0 ≤ 3 → (link_at links q i).content ≡ Reply w → link_word links q i 0 ≡ 2
  reply-kind w h e =
      kind_by h
      (λ k. absurd (not-both (ap is_reply e) (ap is_reply (at-nothing k))))
      (λ k. absurd (not-both (ap is_reply e) (ap is_reply (at-request k))))
      (λ k. k)
      (λ k. absurd (not-both (ap is_reply e) (ap is_reply (at-lost k))))

  pub reply-words : (w : Contents) → link_word links q i 0 ≤ 3 → (link_at links q i).content ≡ Reply w → words ≡ w
  reply-words w h e = sym (ap (carried w) (at-reply (reply-kind w h e))) ∙ ap (carried w) e

  pub lost-kind : link_word links q i 0 ≤ 3 → (link_at links q i).content ≡ Lost → link_word links q i 0 ≡ 3
  lost-kind h e =
      kind_by h
      (λ k. absurd (not-both (ap is_lost e) (ap is_lost (at-nothing k))))
      (λ k. absurd (not-both (ap is_lost e) (ap is_lost (at-request k))))
      (λ k. absurd (not-both (ap is_lost e) (ap is_lost (at-reply k))))
      (λ k. k)

  -- empty is kind 0
  pub kind-empty : link_word links q i 0 ≡ 0 → is_empty (link_at links q i).content ≡ true
  kind-empty k = ap is_empty (at-nothing k)

  pub kind-full : link_word links q i 0 ≤ 3 → (link_word links q i 0 ≡ 0 → ⊥) → is_empty (link_at links q i).content ≡ false
  kind-full h d =
      kind_by h (λ k. absurd (d k)) (λ k. ap is_empty (at-request k)) (λ k. ap is_empty (at-reply k)) (λ k. ap is_empty (at-lost k))

-- some link of the client is full, or none is
pub pending_at : (links : List ℕ) (q i : ℕ) → i < targets → link_word links q i 0 ≤ 3 → (link_word links q i 0 ≡ 0 → ⊥) →
    pending links q ≡ true
pending_at links q i h k d = any_at (filled links q) targets i h (ap not (kind-full links q i k d))

pub none-pending : (links : List ℕ) (q i : ℕ) → i < targets → link_word links q i 0 ≤ 3 → pending links q ≡ false → link_word links q i 0 ≡ 0
none-pending links q i h k e = by_equal (link_word links q i 0) 0 (λ z. z) (λ d. absurd (not-both (pending_at links q i h k d) e))

pub pending-same : (links links' : List ℕ) (q : ℕ) → ((i f : ℕ) → i < targets → f < link_width → link_word links' q i f ≡ link_word links q i f) → pending links' q ≡ pending links q
pending-same links links' q h = any_same (filled links' q) (filled links q) targets (λ i l. rw (link-same_words links links' q i (λ f g. h i f l g)))

-- What soundness asks of a link, by its kind.
pub record LinkAsks (t : Tables) (q i : ℕ) : Type 0 where
  pub kind : kind_on t q i ≤ 3
  pub used : (kind_on t q i ≡ 0 → ⊥) → uses (state_of t q) (mask_of t q) i ≡ true
  pub request : kind_on t q i ≡ 1 → request_sound (state_of t q) q (key_on t q i) (number_on t q i) t ≡ true
  pub reply : kind_on t q i ≡ 2 → reply_sound (state_of t q) i (number_on t q i) t ≡ true
  pub set-badge : kind_on t q i ≡ 1 → badge_sound writing (state_of t q) (badge_on t q i) ≡ true
  pub got-badge : kind_on t q i ≡ 2 → badge_sound asking_setpoints (state_of t q) (badge_on t q i) ≡ true

module _ (t : Tables) (q i : ℕ) where
  on-request : {c : Content} → content_at t q i ≡ c → content_sound (content_at t q i) (state_of t q) q i t ≡ true → content_sound c (state_of t q) q i t ≡ true
  on-request e f = rw e at f

  abbrev used' : Bool
  used' = uses (state_of t q) (mask_of t q) i

  abbrev requested : Bool
  requested = request_sound (state_of t q) q (key_on t q i) (number_on t q i) t

  abbrev replied : Bool
  replied = reply_sound (state_of t q) i (number_on t q i) t

  pub link-asks : LinkFacts t q i → LinkAsks t q i
  unfolding content_sound
  link-asks f =
      let sent : kind_on t q i ≡ 1 → (used' && (requested && badge_sound writing (state_of t q) (badge_on t q i))) ≡ true =
      λ k. on-request (at-request t.links q i k) f.content in
      let got : kind_on t q i ≡ 2 → (used' && (replied && badge_sound asking_setpoints (state_of t q) (badge_on t q i))) ≡ true =
      λ k. on-request (at-reply t.links q i k) f.content in
      record {
        kind = f.kind;
        used = λ d. kind_by t.links q i f.kind (λ k. absurd (d k)) (λ k. both_left _ _ (sent k)) (λ k. both_left _ _ (got k))
            (λ k. on-request (at-lost t.links q i k) f.content);
        request = λ k. both_left requested _ (both_right used' _ (sent k));
        reply = λ k. both_left replied _ (both_right used' _ (got k));
        set-badge = λ k. both_right requested _ (both_right used' _ (sent k));
        got-badge = λ k. both_right replied _ (both_right used' _ (got k));
      }

  -- a link of each kind, and what is asked of it: of one that holds nothing, nothing
  pub link-empty : kind_on t q i ≡ 0 → LinkFacts t q i
  unfolding content_sound
  link-empty k = record { kind = omega arith; content = rw (at-nothing t.links q i k) }

  pub link-request : kind_on t q i ≡ 1 → used' ≡ true → requested ≡ true → badge_sound writing (state_of t q) (badge_on t q i) ≡ true →
      LinkFacts t q i
  unfolding content_sound
  link-request k u r b = record { kind = omega arith; content = rw (at-request t.links q i k) (both _ _ u (both _ _ r b)) }

  pub link-reply : kind_on t q i ≡ 2 → used' ≡ true → replied ≡ true → badge_sound asking_setpoints (state_of t q) (badge_on t q i) ≡ true →
      LinkFacts t q i
  unfolding content_sound
  link-reply k u r b = record { kind = omega arith; content = rw (at-reply t.links q i k) (both _ _ u (both _ _ r b)) }

  pub link_lost : kind_on t q i ≡ 3 → used' ≡ true → LinkFacts t q i
  unfolding content_sound
  link_lost k u = record { kind = omega arith; content = rw (at-lost t.links q i k) u }

  pub asks-link : LinkAsks t q i → LinkFacts t q i
  asks-link a =
      kind_by t.links q i a.kind
      link-empty
      (λ k. link-request k (a.used (λ z. omega arith)) (a.request k) (a.set-badge k))
      (λ k. link-reply k (a.used (λ z. omega arith)) (a.reply k) (a.got-badge k))
      (λ k. link_lost k (a.used (λ z. omega arith)))
