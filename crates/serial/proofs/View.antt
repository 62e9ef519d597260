-- What a word or a link put into the tables is in the view of them.
use Prim.Native.Nat.{ℕ, ◌+◌, ◌≤◌, ◌<◌}
use mathlib.Core.Path.{◌≡◌, refl, sym, ap, ap₂, ◌∙◌, fun_ext}
use mathlib.Core.List.{List}
use native.Mathlib.Omega.{arith}
use lib.ListN.{set, length}
use lib.Seq.{get_or-set_same, get_or-set_other}
use lib.Dec.{ltb}
use borrow.Author.Tests.{lt-ltb, le-ltb, ltb-true, ltb-false}
use Rattle.ranges.specs.Tests.{by-test}
use Rattle.tables.specs.Rows.{HasRow, word_same, word_other}
use Rattle.tables.specs.Layout.{count_at, count_words, method_field, servers_field, step_field, entries_field, writes_field, reads_field, held_field, client_width, client_word, put_client_word}
use Rattle.tables.specs.Links.{targets, link_width, link_row, put_link, ContentFits}
use Rattle.tables.specs.LinkLaws.{link-same, link_other}
use Rattle.tables.specs.Tables.{Tables}
use Rattle.tables.specs.declared.links.Content.{Content}
use Rattle.tables.specs.declared.links.Content.TheVariants.{Nothing}
use Rattle.tables.specs.declared.links.Link.{Link}
use Rattle.claim.specs.History.{changed}
use Rattle.serial.proofs.Places.{changed-all}
use Rattle.serial.proofs.Press.{within, Shared, renumbered, client_of, press_of, row_of, content_in, links_of, shared_of, view}

module _ {A : Type 0} (n : ℕ) (default : A) where
  pub within_at : (f : ℕ → A) (i : ℕ) → i < n → within n default f i ≡ f i
  unfolding within
  within_at f i h = rw (lt-ltb i n h)

  pub within_past : (f : ℕ → A) (i : ℕ) → n ≤ i → within n default f i ≡ default
  unfolding within
  within_past f i h = rw (le-ltb i n h)

  -- two functions that agree below n
  pub within_same : (f g : ℕ → A) → ((i : ℕ) → i < n → f i ≡ g i) → within n default f ≡ within n default g
  within_same f g e = fun_ext (λ i.
      by-test (ltb i n)
      (λ b. let l = ltb-true i n b in within_at f i l ∙ e i l ∙ sym (within_at g i l))
      (λ b. let l = ltb-false i n b in within_past f i l ∙ sym (within_past g i l)))

  -- one that has changed at a place below n
  pub within-changed : (f g : ℕ → A) (i : ℕ) (a : A) → i < n → g i ≡ a → ((j : ℕ) → j < n → (j ≡ i → ⊥) → g j ≡ f j) → within n default g ≡ changed (within n default f) i a
  within-changed f g i a h same other =
      fun_ext (changed-all (within n default f) i a (λ j v. within n default g j ≡ v)
      (within_at g i h ∙ same)
      (λ j d.
      by-test (ltb j n)
      (λ b. let l = ltb-true j n b in within_at g j l ∙ other j l d ∙ sym (within_at f j l))
      (λ b. let l = ltb-false j n b in within_past g j l ∙ sym (within_past f j l))))

-- a word put into a client's row
module _ (clients : List ℕ) (q f v : ℕ) (hf : f < client_width) where
  pub row_put : HasRow client_width clients q → row_of (put_client_word clients q f v) q ≡ changed (row_of clients q) f v
  row_put h =
      within-changed client_width 0 (client_word clients q) (client_word (put_client_word clients q f v) q) f v hf
      (word_same client_width clients q f v h hf)
      (λ g l d. word_other client_width clients q f v q g hf l (λ e. d e.1))

  pub row-put_other : (r : ℕ) → (r ≡ q → ⊥) → row_of (put_client_word clients q f v) r ≡ row_of clients r
  row-put_other r d =
      within_same client_width 0 (client_word (put_client_word clients q f v) r) (client_word clients r)
      (λ g l. word_other client_width clients q f v r g hf l (λ e. d e.0))

-- a content put on a client's link
module _ (links : List ℕ) (q i : ℕ) (content : Content) (hi : i < targets) where
  pub link-put : HasRow link_width links (link_row q i) → ContentFits content → links_of (put_link links q i content) q ≡ changed (links_of links q) i content
  link-put h fits =
      within-changed targets Nothing (content_in links q) (content_in (put_link links q i content) q) i content hi
      (link-same links q i content h fits)
      (λ j l d. ap (λ (x : Link). x.content) (link_other links q i content q j hi l (λ e. d e.1)))

  pub link-put_other : (r : ℕ) → (r ≡ q → ⊥) → links_of (put_link links q i content) r ≡ links_of links r
  link-put_other r d =
      within_same targets Nothing (content_in (put_link links q i content) r) (content_in links r)
      (λ j l. ap (λ (x : Link). x.content) (link_other links q i content r j hi l (λ e. d e.0)))

-- The view of tables in which only client q has changed, and what is shared.
pub view_is : (t t' : Tables) (q : ℕ) {s : Shared} {row : ℕ → ℕ} {link : ℕ → Content} → shared_of t' ≡ s →
    row_of t'.clients q ≡ row → links_of t'.links q ≡ link →
    ((r : ℕ) → (r ≡ q → ⊥) → row_of t'.clients r ≡ row_of t.clients r) → ((r : ℕ) → (r ≡ q → ⊥) → links_of t'.links r ≡ links_of t.links r) →
    view t' ≡ press_of s (changed (view t).client q (client_of row link))
view_is t t' q {s} {row} {link} shared rows links other-rows other-links =
    ap₂ press_of shared
    (fun_ext (changed-all (view t).client q (client_of row link) (λ r c. (view t').client r ≡ c)
    (ap₂ client_of rows links)
    (λ r d. ap₂ client_of (other-rows r d) (other-links r d))))

-- What is shared, as the counts change: one word of them, and none of the others.
abbrev pub shared_in : List ℕ → List ℕ → List ℕ → List ℕ → Shared
shared_in counts keys values log = record {
  method = count_at counts method_field;
  servers = count_at counts servers_field;
  step = count_at counts step_field;
  entries = count_at counts entries_field;
  writes = count_at counts writes_field;
  reads = count_at counts reads_field;
  held = λ i. count_at counts (held_field + i);
  keys = keys;
  values = values;
  log = log;
}

-- equal by its parts
shared_by : {a b : Shared} → a.method ≡ b.method → a.servers ≡ b.servers → a.step ≡ b.step → a.entries ≡ b.entries → a.writes ≡ b.writes → a.reads ≡ b.reads → a.held ≡ b.held →
    a.keys ≡ b.keys → a.values ≡ b.values → a.log ≡ b.log → a ≡ b
shared_by m s n e w r h k v l = λ z. record { method = m z; servers = s z; step = n z; entries = e z; writes = w z; reads = r z; held = h z; keys = k z; values = v z; log = l z }

module _ (counts : List ℕ) (f v : ℕ) where
  abbrev put : List ℕ
  put = set counts f v

  other : (g : ℕ) → (g ≡ f → ⊥) → count_at put g ≡ count_at counts g
  other g d = get_or-set_other counts f g v 0 d

  same_held : f < held_field → ◌≡◌ {A = ℕ → ℕ} (λ i. count_at put (held_field + i)) (λ i. count_at counts (held_field + i))
  same_held l = fun_ext (λ i. other (held_field + i) (λ e. omega arith))

module _ (counts : List ℕ) (v : ℕ) (keys values log : List ℕ) (long : count_words ≤ length counts) where
  abbrev shared : Shared
  shared = shared_in counts keys values log

  -- one step more
  pub shared_step : shared_in (set counts step_field v) keys values log ≡ renumbered v (count_at counts writes_field) (count_at counts reads_field) shared
  shared_step =
      shared_by (other counts step_field v 0 (λ e. omega arith)) (other counts step_field v 1 (λ e. omega arith)) (get_or-set_same counts step_field v 0 (omega arith)) (other counts step_field v 4 (λ e. omega arith))
      (other counts step_field v 5 (λ e. omega arith)) (other counts step_field v 6 (λ e. omega arith)) (same_held counts step_field v (omega arith)) refl refl refl

  -- one WRITE more, one READ more
  pub shared-writes : shared_in (set counts writes_field v) keys values log ≡ renumbered (count_at counts step_field) v (count_at counts reads_field) shared
  shared-writes =
      shared_by (other counts writes_field v 0 (λ e. omega arith)) (other counts writes_field v 1 (λ e. omega arith)) (other counts writes_field v 3 (λ e. omega arith)) (other counts writes_field v 4 (λ e. omega arith))
      (get_or-set_same counts writes_field v 0 (omega arith)) (other counts writes_field v 6 (λ e. omega arith)) (same_held counts writes_field v (omega arith)) refl refl refl

  pub shared-reads : shared_in (set counts reads_field v) keys values log ≡ renumbered (count_at counts step_field) (count_at counts writes_field) v shared
  shared-reads =
      shared_by (other counts reads_field v 0 (λ e. omega arith)) (other counts reads_field v 1 (λ e. omega arith)) (other counts reads_field v 3 (λ e. omega arith)) (other counts reads_field v 4 (λ e. omega arith))
      (other counts reads_field v 5 (λ e. omega arith)) (get_or-set_same counts reads_field v 0 (omega arith)) (same_held counts reads_field v (omega arith)) refl refl refl

  -- one version more at server i
  pub shared_held : (i : ℕ) → i < 16 → shared_in (set counts (held_field + i) v) keys values log ≡
      record { method = shared.method; servers = shared.servers; step = shared.step; entries = shared.entries; writes = shared.writes; reads = shared.reads; held = changed shared.held i v; keys = keys; values = values; log = log }
  shared_held i l =
      let f = held_field + i in
      shared_by (other counts f v 0 (λ e. omega arith)) (other counts f v 1 (λ e. omega arith)) (other counts f v 3 (λ e. omega arith)) (other counts f v 4 (λ e. omega arith))
      (other counts f v 5 (λ e. omega arith)) (other counts f v 6 (λ e. omega arith))
      (fun_ext (changed-all shared.held i v (λ j n. count_at (set counts f v) (held_field + j) ≡ n)
      (get_or-set_same counts f v 0 (omega arith))
      (λ j d. other counts f v (held_field + j) (λ e. d (omega arith)))))
      refl refl refl

  -- one entry more
  pub shared-entries : shared_in (set counts entries_field v) keys values log ≡
      record { method = shared.method; servers = shared.servers; step = shared.step; entries = v; writes = shared.writes; reads = shared.reads; held = shared.held; keys = keys; values = values; log = log }
  shared-entries =
      shared_by (other counts entries_field v 0 (λ e. omega arith)) (other counts entries_field v 1 (λ e. omega arith)) (other counts entries_field v 3 (λ e. omega arith)) (get_or-set_same counts entries_field v 0 (omega arith))
      (other counts entries_field v 5 (λ e. omega arith)) (other counts entries_field v 6 (λ e. omega arith)) (same_held counts entries_field v (omega arith)) refl refl refl
