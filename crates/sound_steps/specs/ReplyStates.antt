-- A reply by the client's state: what its delivery relies on there, and the cases, as `take_reply` meets them.
use Rattle.std.specs.Prelude.{ℕ, ◌<◌, ◌≡◌, refl, Bool, true, false, cond, List}
use Rattle.std.proofs.Common.{sym, ◌∙◌}
use Rattle.std.proofs.Math.Path.{ap}
use borrow.Author.Tests.{eq-eqb, ne_eqb}
use Rattle.tables.specs.Rows.{HasRow}
use Rattle.tables.specs.Layout.{client_width, client_word, state_field}
use Rattle.tables.specs.Links.{HasLinks, link_at}
use Rattle.tables.specs.Tables.{Tables, state_of}
use Rattle.tables.specs.declared.links.Contents.{Contents}
use Rattle.tables.specs.declared.links.Content.{Content}
use Rattle.tables.specs.declared.links.Content.TheVariants.{Nothing, Request, Reply, Lost}
use Rattle.tables.specs.declared.links.Link.{Link}
use Rattle.rules.specs.declared.Arrival.TheVariants.{Wait, Refused}
use Rattle.rules.specs.declared.Delivered.{Delivered}
use Rattle.rules.specs.Answers.{Arrived, arrived, nothing_shown}
use Rattle.rules.specs.Common.{writing, entering, asking_keys, asking_setpoints}
use Rattle.rules.specs.Reply.{said, on_set_done, on_entered, on_keys, on_got, on_all, on_reply_in, on_reply, reply_delivered}
use Rattle.step_parts.specs.Filled.{Fillable}
use Rattle.step_parts.specs.Waiting.{KindsFit}
use Rattle.reply_parts.specs.Settled.{GotReady}
use Rattle.write_replies.specs.Ready.{CountFits}
use Rattle.read_replies.specs.Ready.{KeysReady}
use Rattle.choice_replies.specs.Ready.{AllReady}

-- what a reply of each state brings
pub record Brings (counts clients links keys values log writes reads : List ℕ) (q i number : ℕ) : Type 0 where
  pub done : client_word clients q state_field ≡ writing → CountFits clients q
  pub entered : client_word clients q state_field ≡ entering → GotReady clients writes q
  pub told : client_word clients q state_field ≡ asking_keys → KeysReady counts clients log q number
  pub got : client_word clients q state_field ≡ asking_setpoints → ((i < 16) × GotReady clients reads q)
  pub all : (client_word clients q state_field ≡ writing → ⊥) → (client_word clients q state_field ≡ entering → ⊥) →
      (client_word clients q state_field ≡ asking_keys → ⊥) →
      (client_word clients q state_field ≡ asking_setpoints → ⊥) → AllReady counts clients links keys values log reads q i number

pub record ReplyReady (counts clients links keys values log writes reads : List ℕ) (q i : ℕ) : Type 0 where
  pub fillable : Fillable counts links q i
  pub row : HasRow client_width clients q
  pub linked : HasLinks links q
  pub kinds : KindsFit links q
  pub brings : (w : Contents) → (link_at links q i).content ≡ Reply w →
      Brings counts clients links keys values log writes reads q i w.number

-- the states; s is what was read of the client's row, x what the delivery left
module _ (w : Contents) (q i : ℕ) (t : Tables) {s : ℕ} {x : Arrived} (d : s ≡ state_of t q) where
  pub by-set_done : s ≡ writing → x ≡ on_set_done q i t → x ≡ on_reply_in (state_of t q) w q i t
  unfolding on_reply_in
  by-set_done a e = rw (← d, eq-eqb s 1 a) e

  pub by-entered : (s ≡ writing → ⊥) → s ≡ entering → x ≡ on_entered w q i t → x ≡ on_reply_in (state_of t q) w q i t
  unfolding on_reply_in
  by-entered a b e = rw (← d, ne_eqb s 1 a, eq-eqb s 2 b) e

  pub by-keys : (s ≡ writing → ⊥) → (s ≡ entering → ⊥) → s ≡ asking_keys → x ≡ on_keys w q i t → x ≡ on_reply_in (state_of t q) w q i t
  unfolding on_reply_in
  by-keys a b c e = rw (← d, ne_eqb s 1 a, ne_eqb s 2 b, eq-eqb s 3 c) e

  module _ (a : s ≡ writing → ⊥) (b : s ≡ entering → ⊥) (c : s ≡ asking_keys → ⊥) where
    pub by-got : s ≡ asking_setpoints → x ≡ on_got w q i t → x ≡ on_reply_in (state_of t q) w q i t
    unfolding on_reply_in
    by-got f e = rw (← d, ne_eqb s 1 a, ne_eqb s 2 b, ne_eqb s 3 c, eq-eqb s 4 f) e

    pub by_all : (s ≡ asking_setpoints → ⊥) → x ≡ on_all w q i t → x ≡ on_reply_in (state_of t q) w q i t
    unfolding on_reply_in
    by_all f e = rw (← d, ne_eqb s 1 a, ne_eqb s 2 b, ne_eqb s 3 c, ne_eqb s 4 f) e

-- the contents of the link; l is what was read of the links
module _ (q i : ℕ) (t : Tables) {l : Link} (d : l ≡ link_at t.links q i) where
  by_content : {c : Content} {x : Arrived} → l.content ≡ c → x ≡ on_reply c q i t → x ≡ reply_delivered q i t
  unfolding reply_delivered
  by_content e f = f ∙ ap (λ (c : Content). on_reply c q i t) (sym e ∙ ap (λ (k : Link). k.content) d)

  no_reply : (c : Content) → ((w : Contents) → c ≡ Reply w → ⊥) → said (Refused 9) t ≡ on_reply c q i t
  no_reply Nothing n = refl
  no_reply (Request w) n = refl
  no_reply (Reply w) n = absurd (n w refl)
  no_reply Lost n = refl

  -- nothing, a request, or what was lost
  pub by-none : ((w : Contents) → l.content ≡ Reply w → ⊥) → said (Refused 9) t ≡ reply_delivered q i t
  by-none n = by_content refl (no_reply l.content n)

  pub by-reply : {w : Contents} {x : Arrived} → l.content ≡ Reply w → x ≡ on_reply_in (state_of t q) w q i t → x ≡ reply_delivered q i t
  by-reply e f = by_content e f

-- the answer as the code puts it together; d is what it shows, t the tables that are left
module _ {d : Delivered} {t : Tables} {x : Arrived} where
  -- state 4; b is whether the client still waits
  module _ (b : Bool) (shown : Delivered) (f : arrived (cond b (nothing_shown Wait) shown) t ≡ x) where
    pub by-waiting : b ≡ true → d ≡ nothing_shown Wait → arrived d t ≡ x
    by-waiting e g = rw g (rw e at f)

    pub by_row : b ≡ false → d ≡ shown → arrived d t ≡ x
    by_row e g = rw g (rw e at f)
