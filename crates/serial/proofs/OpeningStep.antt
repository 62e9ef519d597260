-- An accepted opening ties its tables to a history in which nothing has happened yet.
use Prim.Native.Nat.{ℕ, ◌+◌, ◌*◌, ◌≤◌, ◌<◌}
use mathlib.Core.Path.{◌≡◌, refl, sym, ap, ◌∙◌, ap₂}
use mathlib.Core.Option.{some}
use mathlib.Core.List.{List, [], ◌∷◌}
use native.Mathlib.Omega.{arith}
use lib.ListN.{get_or, length}
use lib.Seq.{get_or-set_other, sets}
use lib.Dec.{ltb}
use borrow.Author.Tests.{ltb-true, ltb-false, eq-eqb, eqb-true}
use Rattle.ranges.specs.Tests.{by-test}
use Rattle.ranges.specs.FirstLaws.{first_found}
use Rattle.ranges.specs.Sum.{sum_below}
use Rattle.ranges.specs.SumLaws.{sum-nothing}
use Rattle.ranges.specs.Turns.{turns_keep-below}
use Rattle.ranges.specs.Words.{zeros}
use Rattle.keys.specs.Keys.{key_of, key_at_word, opening}
use Rattle.coordinator.specs.Latest.{latest_key, latest_tag}
use Rattle.coordinator.specs.LatestLaws.{latest-within}
use Rattle.tables.specs.Rows.{sets_behind}
use Rattle.tables.specs.Layout.{client_width, client_word, held_field, version_word, entry_word, entry_key}
use Rattle.tables.specs.Links.{targets, link_at}
use Rattle.tables.specs.Tables.{Tables, entries_of, held_of}
use Rattle.coordinator.specs.Log.{entry_bears, first_entry}
use Rattle.tables.specs.declared.links.Content.TheVariants.{Nothing}
use Rattle.rules.specs.Common.{idle}
use Rattle.rules.specs.Open.{cleared, hold_one, opened}
use Rattle.keeping.specs.Accepted.{Openable}
use Rattle.keeping.specs.Opening.{Opened, opened-words}
use Rattle.claim.specs.History.{value_opened, opened_with}
use Rattle.serial.proofs.Owed.{value_at}
use Rattle.serial.proofs.Versions.{Version, version_of, kept_of, find, is_found, found_is}
use Rattle.serial.proofs.Press.{Client, state_in, is_reply, shared_of, view}
use Rattle.serial.proofs.Entries.{tag_of, tag-found}
use Rattle.serial.proofs.Budget.{waits, due, Budget, no-waits, no_due}
use Rattle.serial.proofs.View.{within_at}
use Rattle.serial.proofs.Invariant.{at_rest, Tied}

module _ (m k p : ℕ) (setpoints : List ℕ) (t : Tables) (o : Openable m k p setpoints t) where
  abbrev left : Tables
  left = opened m k p setpoints t

  words : Opened m k p setpoints left
  words = opened-words m k p setpoints t o

  -- a server beyond k holds nothing
  none_held : (i : ℕ) → k ≤ i → held_of left i ≡ 0
  none_held i l =
      let first : List ℕ = m ∷ k ∷ p ∷ 1 ∷ 1 ∷ [] in
      turns_keep-below hold_one (λ xs. get_or xs (held_field + i) 0 ≡ get_or (sets (cleared t.counts) 0 first) (held_field + i) 0) k
      (λ j h xs e. get_or-set_other xs (held_field + j) (held_field + i) 1 0 (λ z. omega arith) ∙ e) (sets (cleared t.counts) 0 first) refl
      ∙ sets_behind first (cleared t.counts) 0 (held_field + i) (omega arith) ∙ zeros (length t.counts) (held_field + i)

  held_few : (i : ℕ) → held_of left i ≤ 1
  held_few i = by-test (ltb i k) (λ b. omega (arith, words.held i (ltb-true i k b))) (λ b. omega (arith, none_held i (ltb-false i k b)))

  -- at tag 0 every server has the opening's tag and key
  tag-first : (i : ℕ) → latest_tag left.log i 0 ≡ 0
  tag-first i = omega (arith, latest-within left.log i 0)

  key-first : (i : ℕ) → latest_key left.log i 0 ≡ opening
  key-first i = ap (λ (u : ℕ). entry_key left.log u) (tag-first i) ∙ ap key_at_word words.entrykey

  found_first : (i : ℕ) → i < k → find left.keys left.values i opening (held_of left i) ≡ some (kept_of (value_opened setpoints i))
  found_first i l =
      rw (words.held i l)
      (found_is left.keys left.values i opening 1 (kept_of (value_opened setpoints i)) (record {
        place = 0;
        first = record { within = omega arith; before = λ u d. let z : ⊥ = omega arith in absurd z; here = λ d. eq-eqb _ _ (words.key i l) };
        below = omega arith;
        kept = ap₂ version_of (words.badge i l) (words.value i l);
      }))

  -- no other key is held
  latest : (q i n : ℕ) (v : Version) → find left.keys left.values i (key_of n q) (held_of left i) ≡ some v → n ≤ 0
  latest q i n v e =
      let f = is_found left.keys left.values i (key_of n q) (held_of left i) v e in
      by-test (ltb i k)
      (λ b.
      let l = ltb-true i k b in
      let z : f.place ≡ 0 = omega (arith, f.below, words.held i l) in
      let w : version_word left.keys i f.place ≡ n * 256 + q = eqb-true _ _ (f.first.here f.below) in
      omega (arith, ap (λ (u : ℕ). version_word left.keys i u) z, words.key i l))
      (λ b. let z : ⊥ = omega (arith, f.below, none_held i (ltb-false i k b)) in absurd z)

  -- nor entered
  entered : (q n tag : ℕ) → tag_of left.log (key_of n q) (entries_of left) ≡ some tag → n ≤ 0
  entered q n tag e =
      let f = tag-found left.log (key_of n q) (entries_of left) tag e in
      let key = key_of n q in
      let l : first_entry left.log key (entries_of left) < entries_of left = ltb-true _ _ f.0 in
      let z : first_entry left.log key (entries_of left) ≡ 0 = omega (arith, words.entries) in
      let w : entry_word left.log (first_entry left.log key (entries_of left)) ≡ n * 256 + q =
      eqb-true _ _ ((first_found (entry_bears left.log key) (entries_of left)).here l) in
      omega (arith, ap (λ (u : ℕ). entry_word left.log u) z, words.entrykey)

  row_zero : (q f : ℕ) → f < client_width → ((view left).client q).row f ≡ 0
  row_zero q f l = within_at client_width 0 (client_word left.clients q) f l ∙ words.word q f

  link-none : (q i : ℕ) → i < targets → ((view left).client q).link i ≡ Nothing
  unfolding link_at
  link-none q i l = within_at targets Nothing (λ j. (link_at left.links q j).content) i l ∙ rw (words.link q i 0)

  pub opened-tied : (floor : ℕ → ℕ) → Tied floor (view left) (opened_with m setpoints)
  unfolding value_at
  opened-tied floor = record {
    method = rw words.method;
    entries = words.entries;
    room = λ i. omega (arith, held_few i);
    value = λ tag l i h.
        let z : tag ≡ 0 = omega arith in
        rw (z, key-first i) (found_first i (rw words.servers at h));
    tags = λ tag l i. let z : tag ≡ 0 = omega arith in rw (z, tag-first i);
    clients = λ q l. record {
      latest = λ i n v e. omega (arith, latest q i n v e);
      entered = λ n tag e. omega (arith, entered q n tag e);
      activity = at_rest (row_zero q 0 (omega arith)) (record { is = refl; links = link-none q });
    };
    answered = λ q l i k. sym (ap is_reply (link-none q i k));
  }

  -- nothing waits, nothing is due
  none_of : (f : ℕ → Client → ℕ) → ((q : ℕ) → f q ((view left).client q) ≡ 0) → sum_below (λ q. f q ((view left).client q)) 16 ≡ 0
  none_of f e = sum-nothing (λ q. f q ((view left).client q)) 16 (λ q l. e q)

  pub opened-budget : Budget (view left)
  opened-budget =
      let s = shared_of left in
      let state : (q : ℕ) → state_in ((view left).client q) ≡ idle = λ q. row_zero q 0 (omega arith) in
      let waiting : (i q : ℕ) → waits s i q ((view left).client q) ≡ 0 =
      λ i q. no-waits s q ((view left).client q) idle (state q) (λ e. omega arith) i in
      let owing : (q : ℕ) → due s q ((view left).client q) ≡ 0 =
      λ q. no_due s q ((view left).client q) idle (state q) (λ e. omega arith) (λ e. omega arith) in
      record {
        stored = λ i. omega (arith, words.writes, held_few i, none_of (waits s i) (waiting i));
        logged = omega (arith, words.writes, words.entries, none_of (due s) owing);
      }
