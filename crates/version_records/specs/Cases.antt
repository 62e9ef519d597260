-- The cases of the definitions, as the code meets them.
use Rattle.std.specs.Prelude.{ℕ, ◌+◌, ◌≤◌, ◌<◌, ◌≡◌, true, length, set, replicate, ltb, leb}
use Rattle.std.proofs.Math.Path.{refl, ap}
use mathlib.Core.List.{List}
use native.Mathlib.Omega.{arith}
use Rattle.std.proofs.Common.{length-set}
use borrow.Author.Tests.{lt-ltb, le-ltb, le-leb, lt-leb, eq-eqb, ne_eqb, ltb-true, ltb-false, leb-true}
use Rattle.ranges.specs.Tests.{by-test, both_left, both_right}
use Rattle.keys.specs.declared.Key.{Key}
use Rattle.tables.specs.Layout.{server_places}
use Rattle.version_records.specs.declared.Version.{Version}
use Rattle.version_records.specs.Table.{version_at, room_for, append_number, append_table, held_after_lem, lesser, readable, first_bearing}
use Rattle.version_records.specs.Table.{found_at, not_held, reading_of, trial_made, trial_in, trial_of}

module _ (m n : ℕ) where
  pub lesser-one : m < n → m ≡ lesser m n
  unfolding lesser
  lesser-one h = rw (lt-ltb m n h)

  pub lesser_other : n ≤ m → n ≡ lesser m n
  unfolding lesser
  lesser_other h = rw (le-ltb m n h)

  pub lesser_self : m ≤ n → lesser m n ≡ m
  unfolding lesser
  lesser_self h = by-test (ltb m n) (λ e. rw e) (λ e. let g = ltb-false m n e in rw e (omega arith))

  pub lesser-most : (lesser m n ≤ m) × (lesser m n ≤ n)
  unfolding lesser
  lesser-most = by-test (ltb m n)
      (λ e. let h = ltb-true m n e in rw e (omega arith, omega arith))
      (λ e. let h = ltb-false m n e in rw e (omega arith, omega arith))

-- what can be read stands in the table
pub readable-within : (held places : ℕ) → readable held places ≤ places
readable-within held places = omega (arith, (lesser-most held (lesser places server_places)).1, (lesser-most places server_places).0)

module _ (held places : ℕ) where
  pub number_short : places < server_places → 2 ≡ append_number held places
  unfolding append_number
  number_short g = rw (lt-leb server_places places g)

  pub number_done : server_places ≤ places → held < server_places → 0 ≡ append_number held places
  unfolding append_number
  number_done g h = rw (le-leb server_places places g, lt-ltb held server_places h)

  pub number-full : server_places ≤ places → server_places ≤ held → 8 ≡ append_number held places
  unfolding append_number
  number-full g h = rw (le-leb server_places places g, le-ltb held server_places h)

module _ (held number : ℕ) where
  pub after_done : number ≡ 0 → held < server_places → held + 1 ≡ held_after_lem held number
  unfolding held_after_lem
  after_done e h = rw (eq-eqb number 0 e, lt-ltb held server_places h)

  pub after-full : number ≡ 0 → server_places ≤ held → held ≡ held_after_lem held number
  unfolding held_after_lem
  after-full e h = rw (eq-eqb number 0 e, le-ltb held server_places h)

  pub after-refused : (number ≡ 0 → ⊥) → held ≡ held_after_lem held number
  unfolding held_after_lem
  after-refused d = rw (ne_eqb number 0 d)

-- an append that answers 0 has its place, and stores there; one that does not, changes nothing
module _ (versions : List Version) (held : ℕ) (version : Version) where
  -- it answers 0 exactly where there is room
  number_room : append_number held (length versions) ≡ 0 → room_for held (length versions) ≡ true
  unfolding append_number
  number_room e =
      by-test (leb server_places (length versions))
      (λ b. by-test (ltb held server_places)
      (λ d. rw (b, d))
      (λ d. let z : 8 ≡ 0 = rw (b, d) at e in let w : ⊥ = omega arith in absurd w))
      (λ b. let z : 2 ≡ 0 = rw b at e in let w : ⊥ = omega arith in absurd w)

  room-number : room_for held (length versions) ≡ true → append_number held (length versions) ≡ 0
  unfolding append_number
  room-number e = rw (both_left (leb server_places (length versions)) _ e, both_right (leb server_places (length versions)) _ e)

  pub done-place : append_number held (length versions) ≡ 0 → held < length versions
  done-place e =
      let enough = leb-true server_places (length versions) (both_left _ _ (number_room e)) in
      let free = ltb-true held server_places (both_right (leb server_places (length versions)) _ (number_room e)) in
      omega (arith, enough, free)

  pub done_table : append_number held (length versions) ≡ 0 → set versions held version ≡ append_table versions held version
  unfolding append_table
  done_table e = rw (number_room e)

  pub refused_table : (append_number held (length versions) ≡ 0 → ⊥) → versions ≡ append_table versions held version
  unfolding append_table
  refused_table d = by-test (room_for held (length versions)) (λ b. absurd (d (room-number b))) (λ b. rw b)

  pub append-length : length (append_table versions held version) ≡ length versions
  unfolding append_table
  append-length = by-test (room_for held (length versions)) (λ b. rw b (length-set versions held version)) (λ b. rw b)

-- a look-up finds a version, or none
module _ (versions : List Version) (held : ℕ) (key : Key) where
  pub reading-found : first_bearing versions held key < readable held (length versions) → found_at (version_at versions (first_bearing versions held key)) ≡ reading_of versions held key
  unfolding reading_of
  reading-found h = rw (lt-ltb (first_bearing versions held key) (readable held (length versions)) h)

  pub reading-missing : readable held (length versions) ≤ first_bearing versions held key → not_held ≡ reading_of versions held key
  unfolding reading_of
  reading-missing h = rw (le-ltb (first_bearing versions held key) (readable held (length versions)) h)

-- a trial in any table
module _ (versions : List Version) (held : ℕ) (version : Version) (key : Key) where
  abbrev number : ℕ
  number = append_number held (length versions)

  abbrev left : List Version
  left = append_table versions held version

  pub trial_is : trial_made number (readable (held_after_lem held number) (length left)) (first_bearing left (held_after_lem held number) key) (reading_of left (held_after_lem held number) key) ≡ trial_in versions held version key
  unfolding trial_in
  trial_is = refl

  -- the table filled with one version
  pub trial-filled : (blank : Version) → versions ≡ replicate 4096 blank → trial_in versions held version key ≡ trial_of blank held version key
  unfolding trial_of
  trial-filled blank e = ap (λ (vs : List Version). trial_in vs held version key) e
