-- Each definition over a table of records is the core's, where the two say the same: so of the number held, of an append, of the place, and
-- of badge and setpoint of a key.
use Rattle.std.specs.Prelude.{ℕ, ◌+◌, ◌*◌, ◌≤◌, ◌<◌, ◌≡◌, true, cond, List, length, set, replicate, ltb, leb, eqb}
use Rattle.std.proofs.Common.{sym, ◌∙◌, ap, subst, arith, length-set, get_or-set_same, get_or-set_other}
use Rattle.std.proofs.lemmas.List.{length-replicate, get_or-replicate}
use borrow.Author.Tests.{le-leb, eq-eqb, ne_eqb, ltb-true}
use Rattle.ranges.specs.Tests.{by-test, by_equal, not-both}
use Rattle.ranges.specs.First.{first_below}
use Rattle.ranges.specs.FirstLaws.{first-same}
use Rattle.keys.specs.declared.Key.{Key}
use Rattle.keys.specs.Keys.{key_word, same_key, FitsByte}
use Rattle.keys.specs.KeyLaws.{word-one, same_true, same_refl}
use Rattle.tables.specs.Rows.{word_at, word_same, word_other}
use Rattle.tables.specs.Layout.{server_places, held_field, value_width, value_row, HasValues, version_word, put_version_word, put_value}
use Rattle.tables.specs.Values.{badge-same, setpoint-same, value_other}
use Rattle.server.specs.Held as held
use Rattle.server.specs.Held.{Room, Appended, appended, held_by}
use Rattle.version_records.specs.declared.Version.{Version}
use Rattle.version_records.specs.Table.{no_version, version_at, lesser, append_number, append_table, held_after_lem, readable, bears_at}
use Rattle.version_records.specs.Table.{first_bearing, reading_of}
use Rattle.version_records.specs.Cases.{lesser_self, lesser_other}
use Rattle.version_records.specs.Core.{SameTable, version_of, core_reading}

-- two keys are the same where their words are
pub same_word : (k l : Key) → FitsByte k → FitsByte l → same_key k l ≡ eqb (key_word k) (key_word l)
same_word k l f g =
    by-test (same_key k l)
    (λ e. e ∙ sym (eq-eqb (key_word k) (key_word l) (ap (λ (z : Key). key_word z) (same_true k l e))))
    (λ e. e ∙ sym (ne_eqb (key_word k) (key_word l) (λ d. not-both (ap (λ (z : Key). same_key k z) (sym (word-one k l f g d)) ∙ same_refl k) e)))

-- at the beginning, where both are filled with zero
pub zero_same : (m n v i : ℕ) → server_places ≤ m → server_places * i + server_places ≤ n → HasValues (replicate v 0) i
    → SameTable (replicate m no_version) (replicate n 0) (replicate v 0) i
zero_same m n v i g h r =
    let blank : (place : ℕ) → place < server_places → version_at (replicate m no_version) place ≡ no_version =
    λ place l. get_or-replicate m place no_version no_version (omega arith) in
    let word : (place : ℕ) → place < server_places → version_word (replicate n 0) i place ≡ 0 =
    λ place l. get_or-replicate n (server_places * i + place) 0 0 (omega arith) in
    let value : (place f : ℕ) → place < server_places → f < value_width → word_at value_width (replicate v 0) (value_row i place) f ≡ 0 =
    λ place f l k. get_or-replicate v (value_width * value_row i place + f) 0 0 (omega (arith, r, length-replicate {A = ℕ} v 0)) in
    record {
      places = rw (length-replicate m no_version) g;
      words = λ place l. word place l ∙ ap (λ (v : Version). key_word v.key) (sym (blank place l));
      badges = λ place l. value place 0 l (omega arith) ∙ ap (λ (w : Version). w.badge) (sym (blank place l));
      setpoints = λ place l. value place 1 l (omega arith) ∙ ap (λ (w : Version). w.setpoint) (sym (blank place l));
      fits = λ place l. subst (λ (v : Version). FitsByte v.key) (sym (blank place l)) (record { count = omega arith; client = omega arith });
    }

-- what is read, where the core holds n versions
module _ (versions : List Version) (keys values : List ℕ) (i : ℕ) (same : SameTable versions keys values i) (n : ℕ) (h : n ≤ server_places) where
  pub readable-same : readable n (length versions) ≡ n
  readable-same = ap (λ (m : ℕ). lesser n m) (sym (lesser_other (length versions) server_places same.places)) ∙ lesser_self n server_places h

  pub find-same : (key : Key) → FitsByte key → first_bearing versions n key ≡ held.first_bearing keys i key n
  find-same key f =
      ap (λ (m : ℕ). first_below (bears_at versions key) m) readable-same
      ∙ first-same (bears_at versions key) (held.bears keys i key) n (λ place l.
      same_word (version_at versions place).key key (same.fits place (omega arith)) f ∙ ap (λ (m : ℕ). eqb m (key_word key)) (sym (same.words place (omega arith))))

  pub reading-same : (key : Key) → FitsByte key → reading_of versions n key ≡ core_reading keys values i n key
  unfolding reading_of
  reading-same key f =
      rw (find-same key f, readable-same)
      (by-test (ltb (held.first_bearing keys i key n) n)
      (λ e.
      let place = held.first_bearing keys i key n in
      let l = ltb-true place n e in
      rw (e, same.badges place (omega arith), same.setpoints place (omega arith)))
      (λ e. rw e))

-- an append
module _ (counts keys values : List ℕ) (i : ℕ) (room : Room counts keys values i) (versions : List Version)
    (same : SameTable versions keys values i) (key : Key) (badge setpoint : ℕ) (f : FitsByte key) where
  abbrev n : ℕ
  n = held_by counts i

  abbrev after : Appended
  after = appended counts keys values i key badge setpoint

  abbrev new : Version
  new = version_of key badge setpoint

  -- the table is long enough
  enough : leb server_places (length versions) ≡ true
  enough = le-leb server_places (length versions) same.places

  -- one more version is put into both
  put_same : n < server_places
      → SameTable (set versions n new) (put_version_word keys i n (key_word key)) (put_value values i n badge setpoint) i
  put_same l =
      let here : version_at (set versions n new) n ≡ new = get_or-set_same versions n new no_version (omega (arith, same.places)) in
      let stays : (place f : ℕ) → place < server_places → f < value_width → (place ≡ n → ⊥)
      → word_at value_width (put_value values i n badge setpoint) (value_row i place) f ≡ word_at value_width values (value_row i place) f =
      λ place f g k d. value_other values i n badge setpoint i place f l g (λ z. d z.1) k in
      let other : (place : ℕ) → (place ≡ n → ⊥) → version_at (set versions n new) place ≡ version_at versions place =
      λ place d. get_or-set_other versions n place new no_version d in
      record {
        places = rw (length-set versions n new) same.places;
        words = λ place g. by_equal place n
            (λ e. rw (e, here) (word_same server_places keys i n (key_word key) room.keyed l))
            (λ d. rw (other place d) (word_other server_places keys i n (key_word key) i place l g (λ z. d z.1) ∙ same.words place g));
        badges = λ place g. by_equal place n
            (λ e. rw (e, here) (badge-same values i n badge setpoint (omega (arith, room.valued))))
            (λ d. rw (other place d) (stays place 0 g (omega arith) d ∙ same.badges place g));
        setpoints = λ place g. by_equal place n
            (λ e. rw (e, here) (setpoint-same values i n badge setpoint (omega (arith, room.valued))))
            (λ d. rw (other place d) (stays place 1 g (omega arith) d ∙ same.setpoints place g));
        fits = λ place g. by_equal place n
            (λ e. rw (e, here) f)
            (λ d. rw (other place d) (same.fits place g));
      }

  -- the answer is 0 exactly where the core appends
  pub number_same : append_number n (length versions) ≡ cond after.done 0 8
  unfolding append_number appended
  number_same =
      by-test (ltb n server_places)
      (λ e. rw (enough, e))
      (λ e. rw (enough, e))

  -- the table that is left says the same as the slices that are left
  pub append-same : SameTable (append_table versions n new) after.keys after.values i
  unfolding append_table appended
  append-same =
      by-test (ltb n server_places)
      (λ e. rw (enough, e) (put_same (ltb-true n server_places e)))
      (λ e. rw (enough, e) same)

  -- and as many are held
  pub after_same : held_after_lem n (append_number n (length versions)) ≡ held_by after.counts i
  unfolding held_after_lem appended append_number
  after_same =
      by-test (ltb n server_places)
      (λ e. rw (enough, e) (sym (get_or-set_same counts (held_field + i) (n + 1) 0 (omega (arith, room.counted, room.server)))))
      (λ e. rw (enough, e))
