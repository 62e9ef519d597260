-- The functions of `versions` are a station's: where a table of version structs says the same as the store's two slices, a delivered set
-- request does what `find` finds and else what `append` answers, and a delivered get request what `setpoint_of` reads.
use Rattle.std.specs.Prelude.{ℕ, ◌≤◌, ◌≡◌, List, length, ltb}
use Rattle.std.proofs.Common.{sym, ap, ◌∙◌}
use Rattle.ranges.specs.Tests.{by-test}
use Rattle.keys.specs.Keys.{FitsByte}
use Rattle.tables.specs.Layout.{server_places}
use Rattle.tables.specs.Tables.{Tables, held_of}
use Rattle.tables.specs.declared.links.Contents.{Contents}
use Rattle.server.specs.Held as held
use Rattle.server.specs.Held.{Room, Appended, appended}
use Rattle.rules.specs.Request.{on_new_set, on_set, on_get}
use Rattle.version_records.specs.declared.Version.{Version}
use Rattle.version_records.specs.Reading.{Reading}
use Rattle.version_records.specs.Table.{append_number, append_table, readable, first_bearing, reading_of}
use Rattle.version_records.specs.Core.{SameTable, version_of, core_reading}
use Rattle.version_records.proofs.CoreLaws.{readable-same, find-same, reading-same, number_same, append-same}
use Rattle.version_steps.specs.Station.{got_by, new_by, set_by}

module _ (w : Contents) (q i : ℕ) (t : Tables) where
  -- what the core reads is what `on_get` reads, on any tables
  pub get_core : on_get w q i t ≡ got_by (core_reading t.keys t.values i (held_of t i) w.key) q i t
  unfolding on_get
  get_core = by-test (ltb (held.first_bearing t.keys i w.key (held_of t i)) (held_of t i)) (λ e. rw e) (λ e. rw e)

  module _ (versions : List Version) (same : SameTable versions t.keys t.values i) (f : FitsByte w.key) where
    -- "A key is looked up as the first version that bears it."
    pub get-reads : held_of t i ≤ server_places → on_get w q i t ≡ got_by (reading_of versions (held_of t i) w.key) q i t
    get-reads few =
        get_core ∙ ap (λ (r : Reading). got_by r q i t) (sym (reading-same versions t.keys t.values i same (held_of t i) few w.key f))

    -- "A request delivered there appends (key, setpoint)", with its badge between them
    module _ (room : Room t.counts t.keys t.values i) where
      abbrev after : Appended
      after = appended t.counts t.keys t.values i w.key w.badge w.number

      pub new_appends : on_new_set w q i t ≡ new_by (append_number (held_of t i) (length versions)) after q i t
      unfolding on_new_set
      new_appends =
          rw (number_same t.counts t.keys t.values i room versions same w.key w.badge w.number f)
          (by-test after.done (λ e. rw e) (λ e. rw e))

      -- the key is looked for first: by `find`, among as many as `held_now` says
      pub set_looks : held_of t i ≤ server_places →
          on_set w q i t
          ≡ set_by (first_bearing versions (held_of t i) w.key) (readable (held_of t i) (length versions))
          (append_number (held_of t i) (length versions)) after q i t
      unfolding on_set
      set_looks few =
          rw (
            find-same versions t.keys t.values i same (held_of t i) few w.key f,
            readable-same versions t.keys t.values i same (held_of t i) few,
            new_appends,
          )

      -- where it is new, the table of structs still says the same as the slices that are left
      pub set_same :
          SameTable (append_table versions (held_of t i) (version_of w.key w.badge w.number)) after.keys after.values i
      set_same = append-same t.counts t.keys t.values i room versions same w.key w.badge w.number f
