-- What an accepted step does to the records, from the words that it leaves.
use Rattle.std.specs.Prelude.{ℕ, ◌+◌, ◌≤◌, ◌<◌, ◌≡◌, List, length}
use Rattle.std.proofs.Common.{ap, ◌∙◌, arith}
use Rattle.ranges.specs.Tests.{by_equal}
use Rattle.tables.specs.Rows.{HasRow, word_same, word_other}
use Rattle.tables.specs.Layout.{count_at, count_words, step_field, writes_field, reads_field, record_width, record_word, begin_of_record}
use Rattle.tables.specs.Layout.{end_of_record}
use Rattle.tables.specs.Layout.{put_begun}
use Rattle.tables.specs.Tables.{Tables, step_of, writes_of, reads_of}
use Rattle.tables.specs.declared.links.Content.{Content}
use Rattle.rules.specs.Common.{ended_record}
use Rattle.rules.specs.Request.{answered_by}
use Rattle.keeping.specs.Moves.{counted_other, counted_step}
use Rattle.keeping.specs.Records.{begun-word, begun-here, ended-word}
use Rattle.moments.specs.Sorts.{Sort, writes, reads}
use Rattle.moments.specs.Seen.{begin_in, end_in, Grew}

-- An accepted step is one number more, and both sorts of records grow so.
pub record Moved (t t' : Tables) : Type 0 where
  pub step : step_of t' ≡ step_of t + 1
  pub writes : Grew writes t t'
  pub reads : Grew reads t t'

-- A step is accepted, or leaves all as before.
pub data Stepped (t t' : Tables) : Type 0 where
  stays : t' ≡ t → Stepped t t'
  moves : Moved t t' → Stepped t t'

module _ (sort : Sort) (t t' : Tables) where
  -- no begin and no end moves
  pub grew-words : sort.begun t' ≡ sort.begun t → ((n : ℕ) → begin_in sort t' n ≡ begin_in sort t n) →
      ((n : ℕ) → end_in sort t' n ≡ end_in sort t n) →
      Grew sort t t'
  grew-words same b e = record {
    more = omega arith;
    begin = λ n l. b n;
    closed = λ n l z. e n;
    ends = λ n l z d. absurd (d (e n ∙ z));
    new-begin = λ n l h. let z : ⊥ = omega arith in absurd z;
    new-end = λ n l h. let z : ⊥ = omega arith in absurd z;
  }

  pub grew_same : sort.begun t' ≡ sort.begun t → sort.records t' ≡ sort.records t → Grew sort t t'
  grew_same same e =
      grew-words same (λ n. ap (λ (xs : List ℕ). record_word xs n begin_of_record) e)
      (λ n. ap (λ (xs : List ℕ). record_word xs n end_of_record) e)

  -- a record in the next place begins now
  pub grew-begun : (q number badge : ℕ) → sort.begun t' ≡ sort.begun t + 1 → HasRow record_width (sort.records t) (sort.begun t) →
      sort.records t' ≡ put_begun (sort.records t) (sort.begun t) q number (step_of t') badge → Grew sort t t'
  grew-begun q number badge one room e =
      let word : (n f : ℕ) → record_word (sort.records t') n f ≡ record_word
      (put_begun (sort.records t) (sort.begun t) q number (step_of t') badge) n f =
      λ n f. ap (λ (xs : List ℕ). record_word xs n f) e in
      let old : (n f : ℕ) → f < record_width → n < sort.begun t → record_word (sort.records t') n f ≡ record_word (sort.records t) n f =
      λ n f l h. word n f ∙ begun-word (sort.records t) (sort.begun t) q number (step_of t') badge n f l (λ z. omega arith) in
      let here : (f : ℕ) → f < record_width → record_word (sort.records t') (sort.begun t) f ≡ _ =
      λ f l. word (sort.begun t) f ∙ begun-here (sort.records t) (sort.begun t) q number (step_of t') badge f l room in
      record {
        more = omega arith;
        begin = λ n l. old n begin_of_record (omega arith) l;
        closed = λ n l z. old n end_of_record (omega arith) l;
        ends = λ n l z d. absurd (d (old n end_of_record (omega arith) l ∙ z));
        new-begin = λ n l h. let z : n ≡ sort.begun t = omega arith in rw z (here begin_of_record (omega arith));
        new-end = λ n l h. let z : n ≡ sort.begun t = omega arith in rw z (here end_of_record (omega arith));
      }

  -- a record without an end ends now
  pub grew-ended : (place : ℕ) → sort.begun t' ≡ sort.begun t → end_in sort t place ≡ 0 →
      ((n : ℕ) → begin_in sort t' n ≡ begin_in sort t n) →
      ((n : ℕ) → (n ≡ place → ⊥) → end_in sort t' n ≡ end_in sort t n) → end_in sort t' place ≡ step_of t' → Grew sort t t'
  grew-ended place same none b e now = record {
    more = omega arith;
    begin = λ n l. b n;
    closed = λ n l z. e n (λ y. z (ap (end_in sort t) y ∙ none));
    ends = λ n l z d. by_equal n place (λ y. ap (end_in sort t') y ∙ now) (λ y. absurd (d (e n y ∙ z)));
    new-begin = λ n l h. let z : ⊥ = omega arith in absurd z;
    new-end = λ n l h. let z : ⊥ = omega arith in absurd z;
  }

-- an end put into a record, and a tag with it or not
module _ (records : List ℕ) (place step : ℕ) where
  pub ended-begin : (n : ℕ) → record_word (ended_record place step records) n begin_of_record ≡ record_word records n begin_of_record
  ended-begin n = ended-word records place step n begin_of_record (omega arith) (λ z. omega arith)

  pub ended_other : (n : ℕ) → (n ≡ place → ⊥) → record_word (ended_record place step records) n end_of_record ≡ record_word records n end_of_record
  ended_other n d = word_other record_width records place end_of_record step n end_of_record (omega arith) (omega arith) (λ z. d z.0)

  pub ended_here : HasRow record_width records place → record_word (ended_record place step records) place end_of_record ≡ step
  ended_here h = word_same record_width records place end_of_record step h (omega arith)

-- A link is filled, on tables whose counts of steps and transactions are as before, and the step counts.
module _ (t t'' : Tables) (content : Content) (q i : ℕ) (long : count_words ≤ length t''.counts)
    (step : count_at t''.counts step_field ≡ step_of t) (begun : count_at t''.counts writes_field ≡ writes_of t)
    (asked : count_at t''.counts reads_field ≡ reads_of t)
    (b : (n : ℕ) → record_word t''.writes n begin_of_record ≡ record_word t.writes n begin_of_record)
    (e : (n : ℕ) → record_word t''.writes n end_of_record ≡ record_word t.writes n end_of_record) (r : t''.reads ≡ t.reads) where
  abbrev t' : Tables
  t' = (answered_by content q i t'').tables

  pub filled-moved : Moved t t'
  filled-moved = record {
    step = counted_step t''.counts long ∙ ap (λ (n : ℕ). n + 1) step;
    writes = grew-words writes t t' (counted_other t''.counts writes_field (λ z. omega arith) ∙ begun) b e;
    reads = grew_same reads t t' (counted_other t''.counts reads_field (λ z. omega arith) ∙ asked) r;
  }
