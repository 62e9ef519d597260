-- The cases of a loss and of a resend, as the code meets them.
use Rattle.std.specs.Prelude.{ℕ, ◌≡◌, ◌⊎◌, refl, List}
use Rattle.std.proofs.Common.{sym, ◌∙◌, inl, inr}
use Rattle.std.proofs.Math.Path.{ap}
use borrow.Author.Tests.{eq-eqb, ne_eqb}
use Rattle.keys.specs.declared.Key.{Key}
use Rattle.keys.specs.Keys.{key_of, key_at_word, opening}
use Rattle.tables.specs.Links.{link_at}
use Rattle.tables.specs.Tables.{Tables, tables_of, state_of, count_of, mask_of, setpoint_of, write_badge_of, asked_of}
use Rattle.tables.specs.declared.links.Contents.{Contents}
use Rattle.tables.specs.declared.links.Content.{Content}
use Rattle.tables.specs.declared.links.Content.TheVariants.{Nothing, Request, Reply, Lost}
use Rattle.tables.specs.declared.links.Link.{Link}
use Rattle.rules.specs.Answer.{Ok}
use Rattle.rules.specs.Answers.{Left, left}
use Rattle.rules.specs.Common.{writing, entering, asking_setpoints, request, set_request}
use Rattle.step_parts.specs.Filled.{Filled}
use Rattle.rules.specs.Request.{refused, answered_by}
use Rattle.rules.specs.Loss.{on_loss, link_lost, sent_in, sent_by, on_resend, link_resent}

-- what a filled link leaves
module _ (q i : ℕ) (t : Tables) where
  abbrev replaced : List ℕ → List ℕ → Left
  replaced counts links = left Ok (tables_of counts t.clients links t.keys t.values t.log t.writes t.reads)

  filled : {content : Content} {step : ℕ} {counts links : List ℕ} → Filled t.counts t.links q i content step counts links →
      replaced counts links ≡ answered_by content q i t
  filled f = rw (f.counted', f.linked)

  -- the contents of the link; l is what was read of the links
  module _ {l : Link} (d : l ≡ link_at t.links q i) where
    lost_of : {c : Content} {x : Left} → l.content ≡ c → x ≡ on_loss c q i t → x ≡ link_lost q i t
    unfolding link_lost
    lost_of e f = f ∙ ap (λ (c : Content). on_loss c q i t) (sym e ∙ ap (λ (k : Link). k.content) d)

    -- nothing to lose: the link holds nothing, or it is lost already
    pub none-lost : (l.content ≡ Nothing) ⊎ (l.content ≡ Lost) → refused 14 t ≡ link_lost q i t
    none-lost (inl e) = lost_of e refl
    none-lost (inr e) = lost_of e refl

    pub some-lost : {step : ℕ} {counts links : List ℕ} → Filled t.counts t.links q i Lost step counts links →
        ((w : Contents) × (l.content ≡ Request w)) ⊎ ((w : Contents) × (l.content ≡ Reply w)) → replaced counts links ≡ link_lost q i t
    some-lost f (inl (w, e)) = lost_of e (filled f)
    some-lost f (inr (w, e)) = lost_of e (filled f)

    resent_of : {c : Content} {x : Left} → l.content ≡ c → x ≡ on_resend c q i t → x ≡ link_resent q i t
    unfolding link_resent
    resent_of e f = f ∙ ap (λ (c : Content). on_resend c q i t) (sym e ∙ ap (λ (k : Link). k.content) d)

    not-lost : (c : Content) → (c ≡ Lost → ⊥) → refused 15 t ≡ on_resend c q i t
    not-lost Nothing n = refl
    not-lost (Request w) n = refl
    not-lost (Reply w) n = refl
    not-lost Lost n = absurd (n refl)

    pub none-resent : (l.content ≡ Lost → ⊥) → refused 15 t ≡ link_resent q i t
    none-resent n = resent_of refl (not-lost l.content n)

    pub lost-resent : {content : Content} {step : ℕ} {counts links : List ℕ} → l.content ≡ Lost → content ≡ sent_by q i t →
        Filled t.counts t.links q i content step counts links → replaced counts links ≡ link_resent q i t
    lost-resent e g f = resent_of e (filled f ∙ rw g)

  -- what is sent again; s is what was read of the state, x what was made
  module _ {s : ℕ} {x : Content} (d : s ≡ state_of t q) where
    pub sends-set : {n badge setpoint : ℕ} {key : Key} → s ≡ writing → n ≡ count_of t q → key ≡ key_of n q → badge ≡ write_badge_of t q →
        setpoint ≡ setpoint_of t q i → x ≡ set_request key badge setpoint → x ≡ sent_by q i t
    unfolding sent_in
    sends-set e n k b p f = rw (← d, eq-eqb s 1 e, ← n, ← k, ← b, ← p) f

    module _ (a : s ≡ writing → ⊥) where
      pub sends-enter : {n mask : ℕ} {key : Key} → s ≡ entering → n ≡ count_of t q → key ≡ key_of n q → mask ≡ mask_of t q →
          x ≡ request key mask → x ≡ sent_by q i t
      unfolding sent_in
      sends-enter e n k m f = rw (← d, ne_eqb s 1 a, eq-eqb s 2 e, ← n, ← k, ← m) f

      module _ (b : s ≡ entering → ⊥) where
        pub sends-get : {key : Key} {word : ℕ} → s ≡ asking_setpoints → word ≡ asked_of t q i → key ≡ key_at_word word → x ≡ request key 0 →
            x ≡ sent_by q i t
        unfolding sent_in
        sends-get e w k f = rw (← d, ne_eqb s 1 a, ne_eqb s 2 b, eq-eqb s 4 e, ← w, ← k) f

        pub sends-ask : (s ≡ asking_setpoints → ⊥) → x ≡ request opening 0 → x ≡ sent_by q i t
        unfolding sent_in
        sends-ask c f = rw (← d, ne_eqb s 1 a, ne_eqb s 2 b, ne_eqb s 4 c) f
