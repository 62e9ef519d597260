-- Wrong listings of the register, and stores that record wrongly, each right but for one thing.
use Rattle.std.specs.Prelude.{ℕ, zero, suc, ◌-◌, not, List, [], ◌∷◌, ◌++◌, map}
use Rattle.tables.specs.Layout.{record_word, end_of_record, put_record_word}
use Rattle.tables.specs.Tables.{Tables, with_writes, with_reads, entries_of, writes_of, reads_of}
use Rattle.rules.specs.declared.Arrival.{Arrival}
use Rattle.rules.specs.declared.Arrival.TheVariants.{Wait, Next, Write, Read, Refused}
use Rattle.refusals.specs.Steps.{deliver_reply}
use Rattle.listing.specs.Register.{places_below, passing, inserted_all, is_finished, finished_below, has_tag, Line, write, read}
use Rattle.listing.specs.Register.{writes_of_tag, reads_of_tag, register}
use Rattle.claim.specs.Steps.{Step, opening, beginning-write, beginning-read, request, reply, losing, resending, Machine, play}

-- ---- wrong listings

-- the groups of tags, one after another
abbrev by_tag : (ℕ → List Line) → ℕ → List Line
by_tag group zero = group 0
by_tag group (suc tag) = by_tag group tag ++ group (suc tag)

abbrev tagged : Tables → ℕ → List Line
tagged t zero = []
tagged t (suc tag) = map write (writes_of_tag t (suc tag))

abbrev backwards : List ℕ → List ℕ
backwards [] = []
backwards (x ∷ xs) = backwards xs ++ (x ∷ [])

-- READs of a tag by begin falling
abbrev pub by_begin_falling : Tables → List Line
by_begin_falling t = by_tag (λ tag. tagged t tag ++ map read (backwards (reads_of_tag t tag))) (entries_of t - 1)

-- READs of a tag by end, as they were listed before document 02
abbrev ended : Tables → List ℕ
ended t = inserted_all (λ place. record_word t.reads place end_of_record) (finished_below t.reads (reads_of t)) []

abbrev pub by_end : Tables → List Line
by_end t = by_tag (λ tag. tagged t tag ++ map read (passing (has_tag t.reads tag) (ended t))) (entries_of t - 1)

-- READs of a tag ahead of its WRITE
abbrev pub reads_ahead : Tables → List Line
reads_ahead t = by_tag (λ tag. map read (reads_of_tag t tag) ++ tagged t tag) (entries_of t - 1)

-- WRITEs without an end are left out
abbrev pub finished_only : Tables → List Line
finished_only t =
    by_tag (λ tag. map write (passing (is_finished t.writes) (writes_of_tag t tag)) ++ map read (reads_of_tag t tag)) (entries_of t - 1)

-- WRITEs without a tag are listed too
abbrev pub untagged_too : Tables → List Line
untagged_too t = map write (writes_of_tag t 0) ++ register t

-- READs without an end are listed too
abbrev pub unfinished_too : Tables → List Line
unfinished_too t = map read (places_below (λ place. not (is_finished t.reads place)) (reads_of t)) ++ register t

-- each WRITE as the READ of its place, and each READ as the WRITE
abbrev other_kind : Line → Line
other_kind (write place) = read place
other_kind (read place) = write place

abbrev pub kinds_exchanged : Tables → List Line
kinds_exchanged t = map other_kind (register t)

-- the WRITEs that have a tag by begin, whatever their tags; then the finished READs likewise
abbrev pub writes_by_begin : Tables → List Line
writes_by_begin t =
    map write (places_below (λ place. not (has_tag t.writes 0 place)) (writes_of t)) ++
    map read (places_below (is_finished t.reads) (reads_of t))

-- ---- stores that record wrongly: where a READ ends, a word of a first record is another

abbrev at_read : Arrival → (Tables → Tables) → Tables → Tables
at_read Wait f t = t
at_read Next f t = t
at_read (Write tag) f t = t
at_read (Read tag) f t = f t
at_read (Refused n) f t = t

abbrev recording : (Tables → Tables) → Machine Step
recording f (opening method k p setpoints) t = play (opening method k p setpoints) t
recording f (beginning-write q mask badge setpoints) t = play (beginning-write q mask badge setpoints) t
recording f (beginning-read q mask) t = play (beginning-read q mask) t
recording f (request q i) t = play (request q i) t
recording f (reply q i) t =
    let x = play (reply q i) t in
    record { event = x.event; tables = at_read (deliver_reply q i t).delivered.arrival f x.tables }
recording f (losing q i) t = play (losing q i) t
recording f (resending q i) t = play (resending q i) t

abbrev pub misread : ℕ → ℕ → Machine Step
misread field word = recording (λ t. with_reads (put_record_word t.reads 0 field word) t)

abbrev pub miswritten : ℕ → ℕ → Machine Step
miswritten field word = recording (λ t. with_writes (put_record_word t.writes 0 field word) t)
