-- The cases of a request's delivery, as the code meets them.
use Rattle.std.specs.Prelude.{ℕ, ◌≡◌, refl}
use Rattle.std.proofs.Common.{sym, ◌∙◌}
use Rattle.std.proofs.Math.Path.{ap}
use borrow.Author.Tests.{eq-eqb, ne_eqb}
use Rattle.tables.specs.Links.{link_at}
use Rattle.tables.specs.Tables.{Tables, state_of}
use Rattle.tables.specs.declared.links.Contents.{Contents}
use Rattle.tables.specs.declared.links.Content.{Content}
use Rattle.tables.specs.declared.links.Content.TheVariants.{Nothing, Request, Reply, Lost}
use Rattle.tables.specs.declared.links.Link.{Link}
use Rattle.rules.specs.Answers.{Left}
use Rattle.rules.specs.Common.{writing, entering, asking_keys, asking_setpoints}
use Rattle.rules.specs.Request.{refused, on_set, on_enter, on_which_keys, on_get, on_get_all, on_request_in, on_request}
use Rattle.rules.specs.Request.{request_delivered}

-- the states; s is what was read of the client's row, x what the answer left
module _ (w : Contents) (q i : ℕ) (t : Tables) {s : ℕ} {x : Left} (d : s ≡ state_of t q) where
  pub by-set : s ≡ writing → x ≡ on_set w q i t → x ≡ on_request_in (state_of t q) w q i t
  unfolding on_request_in
  by-set a e = rw (← d, eq-eqb s 1 a) e

  pub by-enter : (s ≡ writing → ⊥) → s ≡ entering → x ≡ on_enter w q i t → x ≡ on_request_in (state_of t q) w q i t
  unfolding on_request_in
  by-enter a b e = rw (← d, ne_eqb s 1 a, eq-eqb s 2 b) e

  pub by-keys : (s ≡ writing → ⊥) → (s ≡ entering → ⊥) → s ≡ asking_keys → x ≡ on_which_keys q i t → x ≡ on_request_in (state_of t q) w q i t
  unfolding on_request_in
  by-keys a b c e = rw (← d, ne_eqb s 1 a, ne_eqb s 2 b, eq-eqb s 3 c) e

  module _ (a : s ≡ writing → ⊥) (b : s ≡ entering → ⊥) (c : s ≡ asking_keys → ⊥) where
    pub by-get : s ≡ asking_setpoints → x ≡ on_get w q i t → x ≡ on_request_in (state_of t q) w q i t
    unfolding on_request_in
    by-get f e = rw (← d, ne_eqb s 1 a, ne_eqb s 2 b, ne_eqb s 3 c, eq-eqb s 4 f) e

    pub by_all : (s ≡ asking_setpoints → ⊥) → x ≡ on_get_all q i t → x ≡ on_request_in (state_of t q) w q i t
    unfolding on_request_in
    by_all f e = rw (← d, ne_eqb s 1 a, ne_eqb s 2 b, ne_eqb s 3 c, ne_eqb s 4 f) e

-- the contents of the link; l is what was read of the links
module _ (q i : ℕ) (t : Tables) {l : Link} (d : l ≡ link_at t.links q i) where
  by_content : {c : Content} {x : Left} → l.content ≡ c → x ≡ on_request c q i t → x ≡ request_delivered q i t
  unfolding request_delivered
  by_content e f = f ∙ ap (λ (c : Content). on_request c q i t) (sym e ∙ ap (λ (k : Link). k.content) d)

  no_request : (c : Content) → ((w : Contents) → c ≡ Request w → ⊥) → refused 9 t ≡ on_request c q i t
  no_request Nothing n = refl
  no_request (Request w) n = absurd (n w refl)
  no_request (Reply w) n = refl
  no_request Lost n = refl

  -- nothing, a reply, or what was lost
  pub by-none : ((w : Contents) → l.content ≡ Request w → ⊥) → refused 9 t ≡ request_delivered q i t
  by-none n = by_content refl (no_request l.content n)

  pub by-request : {w : Contents} {x : Left} → l.content ≡ Request w → x ≡ on_request_in (state_of t q) w q i t → x ≡ request_delivered q i t
  by-request e f = by_content e f
